use Rattle.std.proofs.Common.{◌≡◌, drop}
use Rattle.search_api.specs.Resolved.{flats_of}
use Rattle.search_api.proofs.Numbered.{behind}
use Rattle.search_api.proofs.resolving.flats_of.Given as goal

abbrev pub invariant-loop-one : goal.invariant-loop-one
invariant-loop-one l = flats_of l.fields l.asked ≡ behind l.flats (flats_of l.fields (drop l.one-index l.asked))
