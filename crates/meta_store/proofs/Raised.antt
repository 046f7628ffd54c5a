-- What a raise and a replacement leave of the contents of rows.
use Rattle.std.proofs.Common.{◌≡◌, ℕ, ◌≤◌, ◌<◌, ◌&&◌, ◌||◌, Bool, true, false, not, List, [], ◌∷◌, ◌++◌, map, filter, flat_map, nat_lt, nat_le, refl, ap, ap₂, ◌∙◌, arith, max, inl, inr}
use Rattle.std.proofs.lemmas.List.Elements.{filter_agree}
use Rattle.std.proofs.lemmas.Bool.{cases_Bool, leb-true, leb-false, le-leb, lt-leb}
use Rattle.delete_tasks.specs.Removed.{lies_in, covered_by, erased_by}
use Rattle.delete_tasks.specs.Removes.{DeleteTask}
use Rattle.meta_store.specs.Contents.{Meaning, is_kept}
use Rattle.meta_store.specs.Left.{is_covered, left_of, left_over}
use Rattle.source_checkpoint.specs.Deltas.{range_of, raised}
use Rattle.source_checkpoint.specs.declared.span.Span.{Span}

-- a number is at most the greater of two where it is at most one of them
le_max : (o p u : ℕ) → nat_le o (max p u) ≡ (nat_le o p || nat_le o u)
le_max o p u = elim (cases_Bool (nat_le o p)) [
  | inl a ↦ let h : o ≤ p = leb-true o p a in rw a (le-leb o (max p u) (omega (arith, h)))
  | inr a ↦ let h : p < o = leb-false o p a in elim (cases_Bool (nat_le o u)) [
    | inl b ↦ let k : o ≤ u = leb-true o u b in rw (a, b) (le-leb o (max p u) (omega (arith, k)))
    | inr b ↦ let k : u < o = leb-false o u b in rw (a, b) (lt-leb o (max p u) (omega (arith, h, k)))
  ]
]

or_apart : (m w a b : Bool) → (m && (w && (a || b))) ≡ ((m && (w && a)) || (m && (w && b)))
or_apart true true a b = refl
or_apart true false a b = refl
or_apart false w a b = refl

or_mixed : (a b c d : Bool) → ((a || b) || (c || d)) ≡ ((a || c) || (b || d))
or_mixed true b c d = refl
or_mixed false true true d = refl
or_mixed false true false d = refl
or_mixed false false true d = refl
or_mixed false false false d = refl

-- tasks up to the greater of two cover what those up to either cover
pub covered_max : (matches : DeleteTask → Bool) (tasks : List DeleteTask) (k p u : ℕ) →
    covered_by matches tasks k (max p u) ≡ (covered_by matches tasks k p || covered_by matches tasks k u)
covered_max matches [] k p u = refl
covered_max matches (t ∷ tasks) k p u =
    ap₂ ◌||◌ (ap (λ b. matches t && (nat_lt k t.opstamp && b)) (le_max t.opstamp p u) ∙ or_apart (matches t) (nat_lt k t.opstamp) (nat_le t.opstamp p) (nat_le t.opstamp u))
    (covered_max matches tasks k p u)
    ∙ or_mixed (matches t && (nat_lt k t.opstamp && nat_le t.opstamp p)) (matches t && (nat_lt k t.opstamp && nat_le t.opstamp u)) (covered_by matches tasks k p) (covered_by matches tasks k u)

and_not_or : (l a b : Bool) → (l && not (a || b)) ≡ ((l && not a) && not b)
and_not_or true true b = refl
and_not_or true false b = refl
and_not_or false a b = refl

filter_twice : {X : Type 0} (p q : X → Bool) (xs : List X) → filter (λ x. p x && q x) xs ≡ filter q (filter p xs)
filter_twice p q [] = refl
filter_twice p q (x ∷ xs) =
    let rest = filter_twice p q xs in
    elim (cases_Bool (p x)) [
      | inl a ↦ elim (cases_Bool (q x)) [
        | inl b ↦ rw (a, b) (ap (λ l. x ∷ l) rest)
        | inr b ↦ rw (a, b) rest
      ]
      | inr a ↦ rw a rest
    ]

pub kept_raised : {X : Type 0} (meaning : Meaning X) (tasks : List DeleteTask) (records : List X) (upto : ℕ) (s : Span) →
    filter (is_kept meaning tasks (raised upto s)) records ≡ left_of meaning tasks records upto s
kept_raised meaning tasks records upto s =
    filter_agree (is_kept meaning tasks (raised upto s)) (λ x. is_kept meaning tasks s x && not (is_covered meaning tasks upto s x))
    (λ x. ap (λ b. lies_in (range_of s) (meaning.place x) && not b) (covered_max (meaning.matches x) tasks s.admitted s.applied upto)
    ∙ and_not_or (lies_in (range_of s) (meaning.place x)) (erased_by (meaning.matches x) tasks s) (is_covered meaning tasks upto s x)) records
    ∙ filter_twice (is_kept meaning tasks s) (λ x. not (is_covered meaning tasks upto s x)) records

-- RAISED SPANS hold what they held, in the same order, without what is covered up to there
pub contents_raised : {X : Type 0} (meaning : Meaning X) (tasks : List DeleteTask) (records : List X) (upto : ℕ) (spans : List Span) →
    flat_map (λ s. filter (is_kept meaning tasks s) records) (map (raised upto) spans) ≡ left_over meaning tasks records upto spans
contents_raised meaning tasks records upto [] = refl
contents_raised meaning tasks records upto (s ∷ spans) = ap₂ ◌++◌ (kept_raised meaning tasks records upto s) (contents_raised meaning tasks records upto spans)
