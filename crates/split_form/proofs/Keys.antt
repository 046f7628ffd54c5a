-- The keys that documents say.
use Rattle.std.proofs.Common.{◌≡◌, ℕ, Bool, true, false, ◌||◌, List, [], ◌∷◌, map, refl, sym, ◌∙◌, subst, arith, inl, inr}
use Rattle.std.proofs.lemmas.Bool.{or_left, or_right, or_cases}
use Rattle.std.specs.Prelude.{Contains}
use Rattle.std.specs.Str.{bytes_eq}
use Rattle.std.proofs.lemmas.List.Elements.{Contains-append_left, Contains-append_right, Contains-append_cases}
use Rattle.std.proofs.lemmas.Slice.Eq.{bytes_eq-Decides}
use Rattle.doc_value.specs.declared.schema.Schema.{Schema}
use Rattle.split_bundle.specs.declared.placed.Placed.{Placed}
use Rattle.split_bundle.specs.Keys.{Occurrence, keys_of}
use Rattle.split_bundle.specs.Lists.{has_key, stands_in}
use Rattle.split_bundle.specs.Splits.{AreKeys, ArePartitions, names_of}
use Rattle.split_form.specs.Form.{said_by, keys_in, partitions_of}
use Rattle.split_form.proofs.Rising.{here, later, first_or, sorted_rises, sorted_in, in_sorted, sorted_one}

abbrev texts : List Occurrence → List (List ℕ)
texts os = map (λ o. o.key) os

key_stands : (key : List ℕ) (os : List Occurrence) → Contains (texts os) key → has_key key os ≡ true
key_stands key [] h = absurd (omega (arith, h.1))
key_stands key (o ∷ os) h = by (bytes_eq o.key key) refl (key_stands key os)
  where
    by : (b : Bool) → bytes_eq o.key key ≡ b → (Contains (texts os) key → has_key key os ≡ true) → (b || has_key key os) ≡ true
    by true is rest = refl
    by false is rest = elim (first_or o.key (texts os) key h) [
      | inl same ↦
          let wrong : true ≡ false = sym ((bytes_eq-Decides o.key key).1 same) ∙ is in
          absurd cc
      | inr there ↦ rest there
    ]

stands_key : (key : List ℕ) (os : List Occurrence) → has_key key os ≡ true → Contains (texts os) key
stands_key key [] e = absurd cc
stands_key key (o ∷ os) e = by (bytes_eq o.key key) refl (stands_key key os) e
  where
    by : (b : Bool) → bytes_eq o.key key ≡ b → (has_key key os ≡ true → Contains (texts os) key) → (b || has_key key os) ≡ true → Contains (texts (o ∷ os)) key
    by true is rest e = subst (λ (k : List ℕ). Contains (o.key ∷ texts os) k) ((bytes_eq-Decides o.key key).0 is) (here o.key (texts os))
    by false is rest e = later o.key (texts os) key (rest e)

said_stands : (s : Schema) (key : List ℕ) (ds : List Placed) → Contains (said_by s ds) key → stands_in s key ds ≡ true
said_stands s key [] h = absurd (omega (arith, h.1))
said_stands s key (d ∷ ds) h = elim (Contains-append_cases (texts (keys_of s d.doc)) (said_by s ds) key h) [
  | inl this ↦ or_left (has_key key (keys_of s d.doc)) (stands_in s key ds) (key_stands key (keys_of s d.doc) this)
  | inr more ↦ or_right (has_key key (keys_of s d.doc)) (stands_in s key ds) (said_stands s key ds more)
]

stands_said : (s : Schema) (key : List ℕ) (ds : List Placed) → stands_in s key ds ≡ true → Contains (said_by s ds) key
stands_said s key [] e = absurd cc
stands_said s key (d ∷ ds) e = elim (or_cases (has_key key (keys_of s d.doc)) (stands_in s key ds) e) [
  | inl this ↦ Contains-append_left (texts (keys_of s d.doc)) (said_by s ds) key (stands_key key (keys_of s d.doc) this)
  | inr more ↦ Contains-append_right (texts (keys_of s d.doc)) (said_by s ds) key (stands_said s key ds more)
]

pub keys_are : (s : Schema) (ds : List Placed) → AreKeys s ds (keys_in s ds)
unfolding keys_in
keys_are s ds = record {
  rising = sorted_rises (said_by s ds);
  exact = λ key. (λ c. said_stands s key ds (sorted_in (said_by s ds) key c), λ e. in_sorted (said_by s ds) key (stands_said s key ds e));
}

pub keys_one : (s : Schema) (ds : List Placed) (keys : List (List ℕ)) → AreKeys s ds keys → keys ≡ keys_in s ds
unfolding keys_in
keys_one s ds keys h = sorted_one keys (said_by s ds) h.rising (λ key. (λ c. stands_said s key ds ((h.exact key).0 c), λ c. (h.exact key).1 (said_stands s key ds c)))

pub partitions_one : (ds : List Placed) (names : List (List ℕ)) → ArePartitions ds names → names ≡ partitions_of ds
unfolding partitions_of
partitions_one ds names h = sorted_one names (names_of ds) h.rising h.exact
