-- One value more of a field of a document.
use Rattle.std.proofs.Common.{◌≡◌, ℕ, ◌+◌, ◌<◌, length-append, Bool, true, false, List, [], ◌∷◌, ◌++◌, Option, Some, None, refl, sym, ap, subst, ◌∙◌, arith, append_assoc, eq-eqb}
use Rattle.std.specs.Prelude.{ℤ, ◌==◌, if◌then◌else◌}
use Rattle.std.specs.List.{AllByRecursion, flat_map}
use Rattle.std.proofs.lemmas.Bool.{ne_eqb}
use Rattle.std.proofs.lemmas.List.{append-nil}
use Rattle.doc_value.specs.declared.doc.DocField.{DocField}
use Rattle.doc_value.specs.declared.doc.Value.{Value}
use Rattle.doc_value.specs.Documents.{values_in}
use Rattle.split_states.specs.declared.facts.Times.{Times}
use Rattle.split_bundle.specs.declared.placed.Placed.{Placed}
use Rattle.split_bundle.specs.Columns.{fast_fields}
use Rattle.split_build.specs.declared.tags.TagLog.{TagLog}
use Rattle.doc_value.specs.declared.schema.Schema.{Schema}
use Rattle.split_build.specs.HeldTags.{HasTags, HasTerms, HasTermsOf}
use Rattle.split_build.specs.Tags.{terms_in}
use Rattle.split_bundle.specs.Tagged.{tag_numbers, value_term, second_of}
use Rattle.split_build.specs.Times.{AreTimes, seconds_in}
use Rattle.split_build.proofs.TakenLemmas.{seconds_more, terms_more}
use Rattle.split_merge.proofs.CellGains.{none_columns, same_columns}
use Rattle.split_merge.specs.declared.facts.FieldFacts.{FieldFacts}
use Rattle.split_merge.specs.Facts.{HasFacts}
use Rattle.split_merge.specs.Lent.{Gains}

flat_more : {X : Type 0} (f : Value → List X) (vs ws : List Value) → flat_map f (vs ++ ws) ≡ flat_map f vs ++ flat_map f ws
flat_more f [] ws = refl
flat_more f (v ∷ vs) ws = ap (λ l. f v ++ l) (flat_more f vs ws) ∙ sym (append_assoc (f v) (flat_map f vs) (flat_map f ws))

flat_one : {X : Type 0} (f : Value → List X) (vs : List Value) (v : Value) → flat_map f (vs ++ v ∷ []) ≡ flat_map f vs ++ f v
flat_one f vs v = flat_more f vs (v ∷ []) ∙ ap (λ l. flat_map f vs ++ l) (append-nil (f v))

module _ (number : ℕ) (v : Value) (ds : List Placed) (d e : Placed) (gains : Gains number v d.doc e.doc) where
  pub terms_gain : terms_in number (ds ++ e ∷ []) ≡ terms_in number (ds ++ d ∷ []) ++ value_term v
  terms_gain =
      terms_more number ds e ∙ ap (λ (vs : List Value). terms_in number ds ++ flat_map value_term vs) gains.here ∙ ap (λ (ts : List (List ℕ)). terms_in number ds ++ ts) (flat_one value_term (values_in d.doc number) v)
      ∙ sym (append_assoc (terms_in number ds) (flat_map value_term (values_in d.doc number)) (value_term v)) ∙ ap (λ (ts : List (List ℕ)). ts ++ value_term v) (sym (terms_more number ds d))

  pub terms_stay : (n : ℕ) → (n ≡ number → ⊥) → terms_in n (ds ++ e ∷ []) ≡ terms_in n (ds ++ d ∷ [])
  terms_stay n apart = terms_more n ds e ∙ ap (λ (vs : List Value). terms_in n ds ++ flat_map value_term vs) (gains.other n apart) ∙ sym (terms_more n ds d)

  seconds_gain : seconds_in (Some number) (ds ++ e ∷ []) ≡ seconds_in (Some number) (ds ++ d ∷ []) ++ second_of v
  seconds_gain =
      seconds_more number ds e ∙ ap (λ (vs : List Value). seconds_in (Some number) ds ++ flat_map second_of vs) gains.here ∙ ap (λ (ts : List ℤ). seconds_in (Some number) ds ++ ts) (flat_one second_of (values_in d.doc number) v)
      ∙ sym (append_assoc (seconds_in (Some number) ds) (flat_map second_of (values_in d.doc number)) (second_of v)) ∙ ap (λ (ts : List ℤ). ts ++ second_of v) (sym (seconds_more number ds d))

  pub tag_gains : (n : ℕ) (old new : TagLog) → old.number ≡ number → new.number ≡ old.number → ((terms : List (List ℕ)) → HasTerms old.terms.items terms → HasTerms new.terms.items (terms ++ value_term v)) → HasTermsOf (ds ++ d ∷ []) n old → HasTermsOf (ds ++ e ∷ []) n new
  tag_gains n old new own still more h = record {
    number_is = still ∙ h.number_is;
    terms =
        let same : number ≡ n = sym own ∙ h.number_is in
        subst (λ (k : ℕ). HasTerms new.terms.items (terms_in k (ds ++ e ∷ []))) same
        (subst (λ (ts : List (List ℕ)). HasTerms new.terms.items ts) (sym terms_gain) (more (terms_in number (ds ++ d ∷ [])) (subst (λ (k : ℕ). HasTerms old.terms.items (terms_in k (ds ++ d ∷ []))) (sym same) h.terms)));
  }

  pub tag_stays : (n : ℕ) (log : TagLog) → (log.number ≡ number → ⊥) → HasTermsOf (ds ++ d ∷ []) n log → HasTermsOf (ds ++ e ∷ []) n log
  tag_stays n log apart h = record {
    number_is = h.number_is;
    terms = subst (λ (ts : List (List ℕ)). HasTerms log.terms.items ts) (sym (terms_stay n (λ same. apart (h.number_is ∙ same)))) h.terms;
  }

  pub times_gain : (o : Option ℕ) (times now : Option Times) → o ≡ Some number → ((zs : List ℤ) → AreTimes zs times → AreTimes (zs ++ second_of v) now) → AreTimes (seconds_in o (ds ++ d ∷ [])) times → AreTimes (seconds_in o (ds ++ e ∷ [])) now
  times_gain o times now is more h =
      subst (λ (p : Option ℕ). AreTimes (seconds_in p (ds ++ e ∷ [])) now) (sym is)
      (subst (λ (zs : List ℤ). AreTimes zs now) (sym seconds_gain) (more (seconds_in (Some number) (ds ++ d ∷ [])) (subst (λ (p : Option ℕ). AreTimes (seconds_in p (ds ++ d ∷ [])) times) is h)))

  pub times_stay : (o : Option ℕ) (times : Option Times) → (o ≡ Some number → ⊥) → AreTimes (seconds_in o (ds ++ d ∷ [])) times → AreTimes (seconds_in o (ds ++ e ∷ [])) times
  times_stay None times apart h = h
  times_stay (Some n) times apart h =
      let other : n ≡ number → ⊥ = λ same. apart (ap (λ (k : ℕ). some k) same) in
      subst (λ (zs : List ℤ). AreTimes zs times) (seconds_more n ds d ∙ ap (λ (vs : List Value). seconds_in (Some n) ds ++ flat_map second_of vs) (sym (gains.other n other)) ∙ sym (seconds_more n ds e)) h
    where
      some : ℕ → Option ℕ
      some k = Some k

-- ---- the value is put behind those of the field read last

none_in : (fs : List DocField) (number : ℕ) → AllByRecursion (λ f. f.number < number) fs → (g : DocField) → values_in (fs ++ g ∷ []) number ≡ values_in (g ∷ []) number
none_in [] number below g = refl
none_in (f ∷ fs) number below g = let apart : f.number ≡ number → ⊥ = λ same. absurd (omega (arith, same, below.0)) in rw (ne_eqb f.number number apart) (none_in fs number below.1 g)

same_in : (fs : List DocField) (n number : ℕ) (vs ws : List Value) → (n ≡ number → ⊥) → values_in (fs ++ record { number = number; values = ws } ∷ []) n ≡ values_in (fs ++ record { number = number; values = vs } ∷ []) n
same_in [] n number vs ws apart = let other : number ≡ n → ⊥ = λ same. apart (sym same) in rw (ne_eqb number n other) refl
same_in (f ∷ fs) n number vs ws apart = by (f.number == n) (same_in fs n number vs ws apart)
  where
    by : (b : Bool) → values_in (fs ++ record { number = number; values = ws } ∷ []) n ≡ values_in (fs ++ record { number = number; values = vs } ∷ []) n
        → (if b then f.values else values_in (fs ++ record { number = number; values = ws } ∷ []) n) ≡ (if b then f.values else values_in (fs ++ record { number = number; values = vs } ∷ []) n)
    by true e = refl
    by false e = e

pub gains_one : (fs : List DocField) (number : ℕ) (vs : List Value) (v : Value) → AllByRecursion (λ f. f.number < number) fs
    → Gains number v (fs ++ record { number = number; values = vs } ∷ []) (fs ++ record { number = number; values = vs ++ v ∷ [] } ∷ [])
gains_one fs number vs v below = record {
  here = here (vs ++ v ∷ []) ∙ ap (λ (ws : List Value). ws ++ v ∷ []) (sym (here vs));
  other = λ n apart. same_in fs n number vs (vs ++ v ∷ []) apart;
}
  where
    here : (ws : List Value) → values_in (fs ++ record { number = number; values = ws } ∷ []) number ≡ ws
    here ws = none_in fs number below (record { number = number; values = ws }) ∙ rw (eq-eqb number number refl) refl

-- ---- documents with the same values

module _ (ds : List Placed) (d e : Placed) (same : (n : ℕ) → values_in e.doc n ≡ values_in d.doc n) where
  same_terms : (n : ℕ) (log : TagLog) → HasTermsOf (ds ++ d ∷ []) n log → HasTermsOf (ds ++ e ∷ []) n log
  same_terms n log h = record {
    number_is = h.number_is;
    terms = subst (λ (ts : List (List ℕ)). HasTerms log.terms.items ts) (terms_more n ds d ∙ ap (λ (vs : List Value). terms_in n ds ++ flat_map value_term vs) (sym (same n)) ∙ sym (terms_more n ds e)) h.terms;
  }

  same_tags : (ns : List ℕ) (logs : List TagLog) → HasTags (ds ++ d ∷ []) ns logs → HasTags (ds ++ e ∷ []) ns logs
  same_tags [] [] h = tt
  same_tags [] (log ∷ logs) h = absurd h
  same_tags (n ∷ ns) [] h = absurd h
  same_tags (n ∷ ns) (log ∷ logs) h = (same_terms n log h.0, same_tags ns logs h.1)

  same_times : (o : Option ℕ) (times : Option Times) → AreTimes (seconds_in o (ds ++ d ∷ [])) times → AreTimes (seconds_in o (ds ++ e ∷ [])) times
  same_times None times h = h
  same_times (Some n) times h =
      subst (λ (zs : List ℤ). AreTimes zs times) (seconds_more n ds d ∙ ap (λ (vs : List Value). seconds_in (Some n) ds ++ flat_map second_of vs) (sym (same n)) ∙ sym (seconds_more n ds e)) h

  pub same_facts : (f : FieldFacts) (s : Schema) → HasFacts f s (ds ++ d ∷ []) → HasFacts f s (ds ++ e ∷ [])
  same_facts f s h = record {
    count = omega (arith, h.count, length-append ds (d ∷ []), length-append ds (e ∷ []));
    timestamp = h.timestamp;
    tags = same_tags (tag_numbers 0 s.fields) f.tags.items h.tags;
    times = same_times s.timestamp f.times h.times;
    columns = same_columns ds d e same (fast_fields s) f.columns.items h.columns;
  }

-- a field without values
pub none_gained : (fs : List DocField) (number : ℕ) → AllByRecursion (λ f. f.number < number) fs → (n : ℕ) → values_in (fs ++ record { number = number; values = [] } ∷ []) n ≡ values_in fs n
none_gained [] number below n = by (number == n)
  where
    by : (b : Bool) → (if b then [] else values_in [] n) ≡ values_in [] n
    by true = refl
    by false = refl
none_gained (f ∷ fs) number below n = by (f.number == n) (none_gained fs number below.1 n)
  where
    by : (b : Bool) → values_in (fs ++ record { number = number; values = [] } ∷ []) n ≡ values_in fs n
        → (if b then f.values else values_in (fs ++ record { number = number; values = [] } ∷ []) n) ≡ (if b then f.values else values_in fs n)
    by true e = refl
    by false e = e

-- a document without values
pub none_added : (f : FieldFacts) (n : ℕ) (s : Schema) (ds : List Placed) (d : Placed) → n ≡ f.count + 1 → d.doc ≡ [] → HasFacts f s ds → HasFacts (record f { count = n }) s (ds ++ d ∷ [])
none_added f n s ds d more none h = record {
  count = omega (arith, more, h.count, length-append ds (d ∷ []));
  timestamp = h.timestamp;
  tags = tags (tag_numbers 0 s.fields) f.tags.items h.tags;
  times = times s.timestamp h.times;
  columns = none_columns ds d none (fast_fields s) f.columns.items h.columns;
}
  where
    empty : (n : ℕ) → values_in d.doc n ≡ []
    empty n = ap (λ (doc : List DocField). values_in doc n) none

    terms : (n : ℕ) (log : TagLog) → HasTermsOf ds n log → HasTermsOf (ds ++ d ∷ []) n log
    terms n log k = record {
      number_is = k.number_is;
      terms = subst (λ (ts : List (List ℕ)). HasTerms log.terms.items ts) (sym (terms_more n ds d ∙ ap (λ (vs : List Value). terms_in n ds ++ flat_map value_term vs) (empty n) ∙ append-nil (terms_in n ds))) k.terms;
    }

    tags : (ns : List ℕ) (logs : List TagLog) → HasTags ds ns logs → HasTags (ds ++ d ∷ []) ns logs
    tags [] [] k = tt
    tags [] (log ∷ logs) k = absurd k
    tags (n ∷ ns) [] k = absurd k
    tags (n ∷ ns) (log ∷ logs) k = (terms n log k.0, tags ns logs k.1)

    times : (o : Option ℕ) → AreTimes (seconds_in o ds) f.times → AreTimes (seconds_in o (ds ++ d ∷ [])) f.times
    times None k = k
    times (Some n) k = subst (λ (zs : List ℤ). AreTimes zs f.times) (sym (seconds_more n ds d ∙ ap (λ (vs : List Value). seconds_in (Some n) ds ++ flat_map second_of vs) (empty n) ∙ append-nil (seconds_in (Some n) ds))) k
