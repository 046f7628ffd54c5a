use Rattle.std.proofs.Common.{◌≡◌, ◌++◌, ◌∷◌, [], List, ℕ, length}
use Rattle.split_bundle.specs.declared.placed.Placed.{Placed}
use Rattle.split_build.specs.HeldTags.{HasTags, HasTermsOf}
use Rattle.split_build.proofs.Zipped.{Partly}
use Rattle.split_build.proofs.tag_parts.add_tags.Given as goal

abbrev pub invariant-loop-i : goal.invariant-loop-i
invariant-loop-i l = record {
  size : length l.logs.items ≡ l.i-end;
  logs : (numbers : List ℕ) (documents : List Placed) → HasTags documents numbers l.fn.logs.items
      → Partly (HasTermsOf (documents ++ l.placed ∷ [])) (HasTermsOf documents) l.i numbers l.logs.items;
}
