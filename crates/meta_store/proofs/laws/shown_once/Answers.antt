use Rattle.std.proofs.Common.{take}
use Rattle.meta_store.proofs.Sound.{once_always}
use Rattle.meta_store.proofs.Seen.{published_is_visible}
use Rattle.meta_store.specs.History.{history}
use Rattle.meta_store.proofs.laws.shown_once.Goals as goal

pub returns : goal.returns
returns c reads entries legal revision meaning records =
    published_is_visible meaning reads (history (take revision entries)) records (once_always reads entries legal revision)
