-- The tags of documents are one.
use Rattle.std.proofs.Common.{◌≡◌, ℕ, ◌≤◌, true, leb, List, [], ◌∷◌, ◌++◌, length, map, refl, sym, ◌∙◌, ap, ap₂, subst, arith, inl, inr}
use Rattle.std.specs.Prelude.{Contains}
use Rattle.std.specs.List.{flat_map}
use Rattle.std.proofs.lemmas.Bool.{le-leb, lt-leb}
use Rattle.std.proofs.lemmas.List.Concat.{flat_map-append}
use Rattle.doc_value.specs.declared.facts.Tags.{Tags}
use Rattle.doc_value.specs.declared.facts.Tags.TheVariants.{Many, Listed}
use Rattle.doc_value.specs.declared.facts.FieldTags.{FieldTags}
use Rattle.doc_value.specs.declared.schema.Field.{Field}
use Rattle.doc_value.specs.Documents.{values_in}
use Rattle.term_dict.specs.Keys.{is_below}
use Rattle.fast_fields.proofs.Below.{below_then, below_itself}
use Rattle.split_bundle.specs.declared.placed.Placed.{Placed}
use Rattle.split_bundle.specs.Splits.{AreRising}
use Rattle.split_bundle.specs.Tagged.{tag_numbers, value_term}
use Rattle.split_build.specs.Tags.{AreTags, AreTagsOf, terms_in}
use Rattle.split_form.specs.Sorted.{sorted}
use Rattle.split_form.specs.Tagged.{field_tags, listed, tags_of, values_of}
use Rattle.split_form.proofs.Rising.{here, first_or, none_in, all_in, in_sorted, sorted_one, sorted_rises, rest_in}

-- ---- rising texts that are among others are no more

still_in : (x y : List ℕ) (xs ys : List (List ℕ)) → AreRising (x ∷ xs) → AreRising (y ∷ ys) → Contains ys x → ((t : List ℕ) → Contains (x ∷ xs) t → Contains (y ∷ ys) t) → (t : List ℕ) → Contains (x ∷ xs) t → Contains ys t
still_in x y xs ys rx ry there to t c = elim (first_or y ys t (to t c)) [
  | inr more ↦ more
  | inl same ↦
      let below : is_below y x ≡ true = all_in (λ u. is_below y u ≡ true) ys x ry.0 there in
      elim (first_or x xs t c) [
        | inl first ↦ absurd (below_itself y (subst (λ (u : List ℕ). is_below y u ≡ true) (first ∙ sym same) below))
        | inr other ↦ absurd (below_itself y (below_then y x y below (subst (λ (u : List ℕ). is_below x u ≡ true) (sym same) (all_in (λ u. is_below x u ≡ true) xs t rx.0 other))))
      ]
]

no_more : (xs ys : List (List ℕ)) → AreRising xs → AreRising ys → ((t : List ℕ) → Contains xs t → Contains ys t) → length xs ≤ length ys
no_more [] ys rx ry to = omega arith
no_more (x ∷ xs) [] rx ry to = absurd (none_in x (to x (here x xs)))
no_more (x ∷ xs) (y ∷ ys) rx ry to = elim (first_or y ys x (to x (here x xs))) [
  | inl same ↦ omega (arith, no_more xs ys rx.1 ry.1 (rest_in x y xs ys (sym same) rx.0 to))
  | inr there ↦ omega (arith, no_more (x ∷ xs) ys rx ry.1 (still_in x y xs ys rx ry there to))
]

-- ---- what is known of terms

tags_one : (terms : List (List ℕ)) (t : Tags) → AreTags terms t → t ≡ listed (sorted terms)
tags_one terms Many h =
    let more = no_more h.some (sorted terms) h.rising (sorted_rises terms) (λ x c. in_sorted terms x (h.among x c)) in
    rw (lt-leb (length (sorted terms)) 100 (omega (arith, h.many, more))) refl
tags_one terms (Listed xs) h =
    let same : xs ≡ sorted terms = sorted_one xs terms h.rising h.exact in
    let few : leb (length xs) 100 ≡ true = le-leb (length xs) 100 h.few in
    let is : listed xs ≡ Listed xs = rw few refl in
    sym is ∙ ap (λ (l : List (List ℕ)). listed l) same

-- ---- the terms of a field

terms_are : (number : ℕ) (ds : List Placed) → terms_in number ds ≡ flat_map value_term (values_of number ds)
terms_are number [] = refl
terms_are number (d ∷ ds) =
    ap (λ (b : List (List ℕ)). flat_map value_term (values_in d.doc number) ++ b) (terms_are number ds) ∙ sym (flat_map-append value_term (values_in d.doc number) (values_of number ds))

-- ---- the tag fields

abbrev known : ℕ → Tags → FieldTags
known number tags = record { number = number; tags = tags }

each_one : (ds : List Placed) (ns : List ℕ) (ts : List FieldTags) → AreTagsOf ds ns ts → ts ≡ map (field_tags ds) ns
each_one ds [] [] h = refl
each_one ds [] (t ∷ ts) h = absurd h
each_one ds (n ∷ ns) [] h = absurd h
each_one ds (n ∷ ns) (t ∷ ts) h =
    let tags : t.tags ≡ listed (sorted (flat_map value_term (values_of n ds))) = tags_one (terms_in n ds) t.tags h.1 ∙ ap (λ (l : List (List ℕ)). listed (sorted l)) (terms_are n ds) in
    ap₂ (λ (x : FieldTags) (xs : List FieldTags). x ∷ xs) (ap₂ known h.0 tags) (each_one ds ns ts h.2)

pub field_tags_one : (fs : List Field) (ds : List Placed) (ts : List FieldTags) → AreTagsOf ds (tag_numbers 0 fs) ts → ts ≡ tags_of fs ds
field_tags_one fs ds ts h = each_one ds (tag_numbers 0 fs) ts h
