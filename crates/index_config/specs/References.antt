-- The paths to which lists of paths may lead.
use Rattle.std.specs.Prelude.{◌≡◌, ℕ, List}
use Rattle.std.specs.Borrow.{Bor}
use Rattle.std.specs.BTreeSet.{BTreeSet, contains}
use Rattle.std.specs.Ordering.{nat_cmp}
use Rattle.std.specs.Cmp.Lexicographic.{slice_cmp}
use Rattle.index_config.specs.declared.raw.RawField.{RawField}
use Rattle.index_config.specs.declared.raw.Purpose.{Purpose}
use Rattle.index_config.specs.Fields.{has_such}

-- the paths in a set are those of the fields that can serve so
abbrev pub AreServing : Purpose → List RawField → BTreeSet (Bor (List ℕ)) → Type 0
AreServing purpose raws paths = (path : Bor (List ℕ)) → contains (λ x y. slice_cmp nat_cmp x.now y.now) paths path ≡ has_such purpose path.now raws
