-- A term more.
use Rattle.std.proofs.Common.{◌≡◌, ℕ, suc, ◌<◌, ◌≤◌, Bool, true, false, List, [], ◌∷◌, ◌++◌, length, refl, sym, ◌∙◌, ap, subst, arith, append_assoc, inl, inr}
use Rattle.std.proofs.lemmas.List.{append-nil}
use Rattle.doc_value.specs.declared.facts.FieldTags.{FieldTags}
use Rattle.split_bundle.specs.declared.placed.Placed.{Placed}
use Rattle.split_build.specs.declared.tags.TagLog.{TagLog}
use Rattle.std.specs.Prelude.{◌⊎◌, if◌then◌else◌}
use Rattle.doc_value.specs.declared.schema.Field.{Field}
use Rattle.std.specs.List.{flat_map}
use Rattle.split_build.specs.HeldDocuments.{with_name}
use Rattle.split_build.specs.Members.{IsAmong}
use Rattle.split_build.specs.Tags.{AreDistinct, AreMany, AreTags, AreTagsOf, terms_in}
use Rattle.split_bundle.specs.Tagged.{max_tags, tag_numbers, value_term}
use Rattle.split_build.specs.HeldTags.{HasTags, HasTerms, HasTermsOf}
use Rattle.split_build.proofs.KeysLemmas.{contains_among, among_contains}
use Rattle.split_build.proofs.DocumentLemmas.{among_more, among_end}
use Rattle.split_build.proofs.TakenLemmas.{terms_more}
use Rattle.doc_value.specs.declared.doc.DocField.{DocField}
use Rattle.doc_value.specs.declared.doc.Value.{Value}
use Rattle.doc_value.specs.Documents.{values_in}
use Rattle.split_build.proofs.RisingLemmas.{with_among, among_with, among_new, with_rises, with_grows}

among_cases : (ts : List (List ℕ)) (t x : List ℕ) → IsAmong (ts ++ t ∷ []) x → (t ≡ x) ⊎ IsAmong ts x
among_cases [] t x (inl same) = inl same
among_cases [] t x (inr none) = absurd none
among_cases (o ∷ os) t x (inl same) = inr (inl same)
among_cases (o ∷ os) t x (inr later) = elim (among_cases os t x later) [ inl same ↦ inl same | inr there ↦ inr (inr there) ]

pub term_more : (listed terms : List (List ℕ)) (t : List ℕ) → HasTerms listed terms → HasTerms (with_name t listed) (terms ++ t ∷ [])
term_more listed terms t h = record {
  rising = with_rises t listed h.rising;
  among = λ x here. elim (with_among t listed x here) [
    | inl same ↦ subst (λ (y : List ℕ). IsAmong (terms ++ t ∷ []) y) same (among_end terms t)
    | inr there ↦ among_more terms t x (h.among x there)
  ];
  all = λ few x here. elim (among_cases terms t x here) [
    | inl same ↦ subst (λ (y : List ℕ). IsAmong (with_name t listed) y) same (among_new t listed)
    | inr there ↦ among_with t listed x (h.all (omega (arith, few, with_grows t listed)) x there)
  ];
}

among_front : (xs ys : List (List ℕ)) (x : List ℕ) → IsAmong xs x → IsAmong (xs ++ ys) x
among_front [] ys x h = absurd h
among_front (y ∷ xs) ys x (inl same) = inl same
among_front (y ∷ xs) ys x (inr later) = inr (among_front xs ys x later)

-- where there are too many to be listed no further one is looked at
pub terms_past : (listed terms more : List (List ℕ)) → max_tags < length listed → HasTerms listed terms → HasTerms listed (terms ++ more)
terms_past listed terms more many h = record {
  rising = h.rising;
  among = λ x here. among_front terms more x (h.among x here);
  all = λ few x here. absurd (omega (arith, few, many));
}

pub terms_none : HasTerms [] []
terms_none = record { rising = tt; among = λ x h. h; all = λ few x h. h }

pub terms_listed : (listed terms : List (List ℕ)) → length listed ≤ max_tags → HasTerms listed terms → AreDistinct terms listed
terms_listed listed terms few h = record {
  rising = h.rising;
  exact = λ x. (λ c. contains_among terms x (h.among x (among_contains listed x c)), λ c. contains_among listed x (h.all few x (among_contains terms x c)));
  few = few;
}

pub terms_many : (listed terms : List (List ℕ)) → max_tags < length listed → HasTerms listed terms → AreMany terms
terms_many listed terms many h = record {
  some = listed;
  rising = h.rising;
  among = λ x c. contains_among terms x (h.among x (among_contains listed x c));
  many = many;
}

-- ---- a field more

pub tag_yes : (n m : ℕ) (f : Field) (rest fs : List Field) → rest ≡ f ∷ fs → f.tag ≡ true → m ≡ suc n → tag_numbers n rest ≡ (n ∷ []) ++ tag_numbers m fs
tag_yes n m f rest fs is on next =
    ap (λ (l : List Field). tag_numbers n l) is ∙ ap (λ (b : Bool). if b then n ∷ tag_numbers (suc n) fs else tag_numbers (suc n) fs) on ∙ ap (λ (k : ℕ). n ∷ tag_numbers k fs) (sym next)

pub tag_no : (n m : ℕ) (f : Field) (rest fs : List Field) → rest ≡ f ∷ fs → f.tag ≡ false → m ≡ suc n → tag_numbers n rest ≡ [] ++ tag_numbers m fs
tag_no n m f rest fs is off next =
    ap (λ (l : List Field). tag_numbers n l) is ∙ ap (λ (b : Bool). if b then n ∷ tag_numbers (suc n) fs else tag_numbers (suc n) fs) off ∙ ap (λ (k : ℕ). tag_numbers k fs) (sym next)

-- ---- what is known of the fields

pub tags_push : (ds : List Placed) (ns : List ℕ) (ts : List FieldTags) (n : ℕ) (t : FieldTags) → AreTagsOf ds ns ts → t.number ≡ n → AreTags (terms_in n ds) t.tags → AreTagsOf ds (ns ++ n ∷ []) (ts ++ t ∷ [])
tags_push ds [] [] n t h is tags = (is, tags, tt)
tags_push ds [] (u ∷ us) n t h is tags = absurd h
tags_push ds (m ∷ ms) [] n t h is tags = absurd h
tags_push ds (m ∷ ms) (u ∷ us) n t h is tags = (h.0, h.1, tags_push ds ms us n t h.2 is tags)

-- of some fields it is known, and the logs of the others are left
pub record AreTold (ds : List Placed) (numbers : List ℕ) (facts : List FieldTags) (logs : List TagLog) : Type 0 where
  pub done : List ℕ
  pub left : List ℕ
  pub whole : done ++ left ≡ numbers
  pub told : AreTagsOf ds done facts
  pub logs_are : HasTags ds left logs

pub none_told : (ds : List Placed) (numbers : List ℕ) (logs : List TagLog) → HasTags ds numbers logs → AreTold ds numbers [] logs
none_told ds numbers logs h = record { done = []; left = numbers; whole = refl; told = tt; logs_are = h }

pub told_one : (ds : List Placed) (numbers : List ℕ) (facts more : List FieldTags) (logs : List TagLog) (log : TagLog) (behind : List TagLog) (t : FieldTags) → logs ≡ log ∷ behind → AreTold ds numbers facts logs → t.number ≡ log.number
    → ((terms : List (List ℕ)) → HasTerms log.terms.items terms → AreTags terms t.tags) → more ≡ facts ++ t ∷ [] → AreTold ds numbers more behind
told_one ds numbers facts more logs log behind t is a number tags more_is = by a.left a.whole (subst (λ (ls : List TagLog). HasTags ds a.left ls) is a.logs_are)
  where
    by : (left : List ℕ) → a.done ++ left ≡ numbers → HasTags ds left (log ∷ behind) → AreTold ds numbers more behind
    by [] whole h = absurd h
    by (n ∷ ns) whole h = record {
      done = a.done ++ n ∷ [];
      left = ns;
      whole = append_assoc a.done (n ∷ []) ns ∙ whole;
      told = subst (λ (ts : List FieldTags). AreTagsOf ds (a.done ++ n ∷ []) ts) (sym more_is) (tags_push ds a.done facts n t a.told (number ∙ h.0.number_is) (tags (terms_in n ds) h.0.terms));
      logs_are = h.1;
    }

pub all_told : (ds : List Placed) (numbers : List ℕ) (facts : List FieldTags) (logs : List TagLog) → logs ≡ [] → AreTold ds numbers facts logs → AreTagsOf ds numbers facts
all_told ds numbers facts logs none a = by a.left a.whole (subst (λ (ls : List TagLog). HasTags ds a.left ls) none a.logs_are)
  where
    by : (left : List ℕ) → a.done ++ left ≡ numbers → HasTags ds left [] → AreTagsOf ds numbers facts
    by [] whole h = subst (λ (ns : List ℕ). AreTagsOf ds ns facts) (sym (append-nil a.done) ∙ whole) a.told
    by (n ∷ ns) whole h = absurd h

-- ---- a document more

pub terms_with : (ds : List Placed) (d : Placed) (n : ℕ) (old new : TagLog) (doc : List DocField) (vs : List Value) → doc ≡ d.doc → vs ≡ values_in doc old.number → new.number ≡ old.number
    → ((terms : List (List ℕ)) → HasTerms old.terms.items terms → HasTerms new.terms.items (terms ++ flat_map value_term vs)) → HasTermsOf ds n old → HasTermsOf (ds ++ d ∷ []) n new
terms_with ds d n old new doc vs doc_is vs_are number more h = record {
  number_is = number ∙ h.number_is;
  terms =
      let values : vs ≡ values_in d.doc n = vs_are ∙ ap (λ (x : List DocField). values_in x old.number) doc_is ∙ ap (λ (k : ℕ). values_in d.doc k) h.number_is in
      subst (λ (ts : List (List ℕ)). HasTerms new.terms.items ts) (ap (λ (ws : List Value). terms_in n ds ++ flat_map value_term ws) values ∙ sym (terms_more n ds d)) (more (terms_in n ds) h.terms);
}
