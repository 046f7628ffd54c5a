use Rattle.std.proofs.Common.{◌≡◌, ◌++◌, ◌∷◌, [], List, ℕ, length}
use Rattle.split_bundle.specs.declared.placed.Placed.{Placed}
use Rattle.split_build.specs.HeldTags.{HasTags, HasTermsOf}
use Rattle.split_build.proofs.Zipped.{Partly}
use Rattle.split_merge.specs.Lent.{Gains, value_of}
use Rattle.split_merge.proofs.facts.add_tag.Given as goal

abbrev pub invariant-loop-i : goal.invariant-loop-i
invariant-loop-i l = record {
  size : length l.logs.items ≡ l.i-end;
  logs : (numbers : List ℕ) (documents : List Placed) (d e : Placed) → Gains l.number (value_of l.value) d.doc e.doc → HasTags (documents ++ d ∷ []) numbers l.fn.logs.items
      → Partly (HasTermsOf (documents ++ e ∷ [])) (HasTermsOf (documents ++ d ∷ [])) l.i numbers l.logs.items;
}
