use Rattle.std.proofs.Common.{◌≡◌, ◌++◌, [], List, ℕ, Bor, take, drop}
use Rattle.std.specs.BTreeSet.{contains}
use Rattle.std.specs.Ordering.{nat_cmp}
use Rattle.std.specs.Cmp.Lexicographic.{slice_cmp}
use Rattle.index_config.specs.Fields.{duplicate_faults, has_path}
use Rattle.index_config.proofs.whole.check_duplicates.Given as goal

abbrev pub invariant-loop-raw : goal.invariant-loop-raw
invariant-loop-raw l =
    (l.faults ++ duplicate_faults (take l.raw-index l.raws) (drop l.raw-index l.raws) ≡ l.initial.faults ++ duplicate_faults [] l.raws)
    × ((q : Bor (List ℕ)) → contains (λ x y. slice_cmp nat_cmp x.now y.now) l.seen q ≡ has_path q.now (take l.raw-index l.raws))
