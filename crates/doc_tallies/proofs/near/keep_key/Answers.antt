use Rattle.std.proofs.Common.{List, ℕ, sym, subst, append-nil}
use Rattle.doc_tallies.specs.Least.{AreLeast}
use Rattle.doc_tallies.proofs.near.keep_key.Goals as goal

pub returns-in-None : goal.returns-in-None
returns-in-None c = λ seen are. rw c.in-None.is (subst (λ (ks : List ℕ). AreLeast c.args.wanted ks c.args.best.now.data.items) (sym (append-nil seen)) are)
