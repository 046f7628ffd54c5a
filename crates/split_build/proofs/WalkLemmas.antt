-- Occurrences that are added piece by piece.
use Rattle.std.proofs.Common.{◌≡◌, ℕ, zero, suc, ◌+◌, ◌*◌, ◌/◌, ◌%◌, Bool, true, false, List, length, [], ◌∷◌, ◌++◌, drop, Option, Some, None, refl, sym, ◌∙◌, ap, subst, arith, append_assoc}
use Rattle.std.specs.Prelude.{slice_get, OnOk, Result, Ok, Err, ◌==◌}
use Rattle.std.specs.Option.{option_map_or}
use Rattle.std.proofs.Math.Nat.{mod-add-div}
use Rattle.std.proofs.lemmas.Option.{slice_get_within}
use Rattle.doc_value.specs.declared.schema.Field.{Field}
use Rattle.doc_value.specs.declared.doc.Value.{Value}
use Rattle.doc_value.specs.declared.doc.Value.TheVariants as values
use Rattle.doc_value.specs.declared.doc.DocField.{DocField}
use Rattle.doc_value.specs.Documents.{IsSchema, values_in}
use Rattle.doc_value.specs.Terms.{term_bytes}
use Rattle.split_bundle.specs.Keys.{Occurrence, field_key, presence_key, value_place, of_value, of_values, of_field, of_fields}
use Rattle.std.proofs.lemmas.List.{append-nil}
use Rattle.doc_value.specs.declared.schema.Schema.{Schema}
use Rattle.split_bundle.specs.Lists.{keeps_places}
use Rattle.split_build.specs.declared.terms.TermLog.{TermLog}
use Rattle.split_build.specs.Said.{Said, in_document}
use Rattle.split_build.specs.HeldTerms.{HasSaid}
use Rattle.split_build.specs.Walks.{Adds, IsKept}

-- some were added, and those that are left are the rest of all
pub record Walked (old new : TermLog) (s : Schema) (rest all : List Said) : Type 0 where
  pub done : List Said
  pub added : Adds old new s done
  pub parts : done ++ rest ≡ all

pub adds_none : (t : TermLog) (s : Schema) → Adds t t s []
adds_none t s log h = subst (λ (l : List Said). HasSaid t s l) (sym (append-nil log)) h

pub adds_more : (a b c : TermLog) (s : Schema) (xs ys : List Said) → Adds a b s xs → Adds b c s ys → Adds a c s (xs ++ ys)
adds_more a b c s xs ys p q log h = subst (λ (l : List Said). HasSaid c s l) (append_assoc log xs ys) (q (log ++ xs) (p log h))

pub walked_start : (t : TermLog) (s : Schema) (all : List Said) → Walked t t s all all
walked_start t s all = record { done = []; added = adds_none t s; parts = refl }

pub walked_step : (a b c : TermLog) (s : Schema) (more rest left all : List Said) → left ≡ more ++ rest → Walked a b s left all → Adds b c s more → Walked a c s rest all
walked_step a b c s more rest left all is w q = record {
  done = w.done ++ more;
  added = adds_more a b c s w.done more w.added q;
  parts = append_assoc w.done more rest ∙ ap (λ (l : List Said). w.done ++ l) (sym is) ∙ w.parts;
}

pub walked_end : (a b : TermLog) (s : Schema) (left all : List Said) → left ≡ [] → Walked a b s left all → Adds a b s all
walked_end a b s left all is w = subst (λ (l : List Said). Adds a b s l) (sym (append-nil w.done) ∙ ap (λ (l : List Said). w.done ++ l) (sym is) ∙ w.parts) w.added

-- an occurrence that was added, with what its key and its place are
pub adds_said : (a b : TermLog) (s : Schema) (kept : Bool) (key key2 : List ℕ) (d place place2 : ℕ) → key ≡ key2 → place ≡ place2 → kept ≡ keeps_places s key2
    → (kept ≡ keeps_places s key → Adds a b s (record { key = key; document = d; place = place } ∷ [])) → Adds a b s (record { key = key2; document = d; place = place2 } ∷ [])
adds_said a b s kept key key2 d place place2 k p kept_is h =
    subst (λ (q : ℕ). Adds a b s (record { key = key2; document = d; place = q } ∷ [])) p
    (subst (λ (x : List ℕ). Adds a b s (record { key = x; document = d; place = place } ∷ [])) k (h (kept_is ∙ ap (λ (x : List ℕ). keeps_places s x) (sym k))))

pub adds_said_ok : {X E : Type 0} (a b : TermLog) (s : Schema) (kept : Bool) (key key2 : List ℕ) (d place place2 : ℕ) (r : Result X E) → key ≡ key2 → place ≡ place2 → kept ≡ keeps_places s key2
    → (kept ≡ keeps_places s key → OnOk r (Adds a b s (record { key = key; document = d; place = place } ∷ []))) → OnOk r (Adds a b s (record { key = key2; document = d; place = place2 } ∷ []))
adds_said_ok a b s kept key key2 d place place2 r k p kept_is h =
    subst (λ (q : ℕ). OnOk r (Adds a b s (record { key = key2; document = d; place = q } ∷ []))) p
    (subst (λ (x : List ℕ). OnOk r (Adds a b s (record { key = x; document = d; place = place } ∷ []))) k (h (kept_is ∙ ap (λ (x : List ℕ). keeps_places s x) (sym k))))

pub other_value_is : (f : Field) (number place d : ℕ) (v : Value) → ((text : List ℕ) → v ≡ values.Text text → ⊥)
    → in_document d (of_value f number place v) ≡ record { key = field_key number (term_bytes v); document = d; place = value_place place 0 } ∷ []
other_value_is f number place d (values.Text t) other = absurd (other t refl)
other_value_is f number place d (values.I64 z) other = refl
other_value_is f number place d (values.U64 n) other = refl
other_value_is f number place d (values.Bool b) other = refl
other_value_is f number place d (values.Datetime z) other = refl

pub in_document-append : (d : ℕ) (xs ys : List Occurrence) → in_document d (xs ++ ys) ≡ in_document d xs ++ in_document d ys
in_document-append d [] ys = refl
in_document-append d (x ∷ xs) ys = ap (λ (l : List Said). record { key = x.key; document = d; place = x.place } ∷ l) (in_document-append d xs ys)

pub values_step : (a b c : TermLog) (s : Schema) (f : Field) (number d place : ℕ) (v : Value) (behind rest all : List Value) → rest ≡ v ∷ behind
    → Walked a b s (in_document d (of_values f number place rest)) (in_document d (of_values f number 0 all)) → Adds b c s (in_document d (of_value f number place v))
    → Walked a c s (in_document d (of_values f number (place + 1) behind)) (in_document d (of_values f number 0 all))
values_step a b c s f number d place v behind rest all is w added =
    let next : suc place ≡ place + 1 = omega arith in
    let parts : in_document d (of_values f number place rest) ≡ in_document d (of_value f number place v) ++ in_document d (of_values f number (place + 1) behind) =
    ap (λ (vs : List Value). in_document d (of_values f number place vs)) is ∙ in_document-append d (of_value f number place v) (of_values f number (suc place) behind)
    ∙ ap (λ (n : ℕ). in_document d (of_value f number place v) ++ in_document d (of_values f number n behind)) next in
    walked_step a b c s (in_document d (of_value f number place v)) (in_document d (of_values f number (place + 1) behind)) (in_document d (of_values f number place rest)) (in_document d (of_values f number 0 all)) parts w added

pub fields_step : (a b c : TermLog) (s : Schema) (number d : ℕ) (doc : List DocField) (f : Field) (behind rest all : List Field) → rest ≡ f ∷ behind
    → Walked a b s (in_document d (of_fields rest number doc)) (in_document d (of_fields all 0 doc)) → Adds b c s (in_document d (of_field f number (values_in doc number)))
    → Walked a c s (in_document d (of_fields behind (number + 1) doc)) (in_document d (of_fields all 0 doc))
fields_step a b c s number d doc f behind rest all is w added =
    let next : suc number ≡ number + 1 = omega arith in
    let parts : in_document d (of_fields rest number doc) ≡ in_document d (of_field f number (values_in doc number)) ++ in_document d (of_fields behind (number + 1) doc) =
    ap (λ (fs : List Field). in_document d (of_fields fs number doc)) is ∙ in_document-append d (of_field f number (values_in doc number)) (of_fields behind (suc number) doc)
    ∙ ap (λ (n : ℕ). in_document d (of_field f number (values_in doc number)) ++ in_document d (of_fields behind n doc)) next in
    walked_step a b c s (in_document d (of_field f number (values_in doc number))) (in_document d (of_fields behind (number + 1) doc)) (in_document d (of_fields rest number doc)) (in_document d (of_fields all 0 doc)) parts w added

-- a field more was taken
pub field_drop : (fs : List Field) (i : ℕ) (f : Field) (behind : List Field) → drop i fs ≡ f ∷ behind → drop (i + 1) fs ≡ behind
field_drop fs i f behind e =
    let next : i + 1 ≡ suc i = omega arith in
    ap (λ (n : ℕ). drop n fs) next ∙ at fs i e
  where
    at : (fs : List Field) (i : ℕ) → drop i fs ≡ f ∷ behind → drop (suc i) fs ≡ behind
    at [] zero e = absurd cc
    at [] (suc i) e = absurd cc
    at (x ∷ xs) zero e = cc
    at (x ∷ xs) (suc i) e = at xs i e

pub field_here : (fs : List Field) (i : ℕ) (f : Field) (behind : List Field) → drop i fs ≡ f ∷ behind → slice_get fs i ≡ Some f
field_here [] zero f behind e = absurd cc
field_here [] (suc i) f behind e = absurd cc
field_here (x ∷ xs) zero f behind e =
    let same : x ≡ f = cc in
    ap (λ (y : Field). Some y) same
field_here (x ∷ xs) (suc i) f behind e = field_here xs i f behind e

-- the keys of a field keep places as the field says
pub field_kept : (s : Schema) (number : ℕ) (f : Field) → slice_get s.fields number ≡ Some f → IsKept s number f.positions
field_kept s number f is = λ term.
    let whole : number / 256 * 256 + number % 256 ≡ number = omega (arith, mod-add-div number 256) in
    sym (ap (λ (n : ℕ). option_map_or (λ (g : Field). g.positions) (slice_get s.fields n) false) whole ∙ ap (λ (o : Option Field). option_map_or (λ (g : Field). g.positions) o false) is)

-- a presence key is of no field
pub presence_none : (s : Schema) (number : ℕ) → IsSchema s → keeps_places s (presence_key number) ≡ false
presence_none s number schema = by (slice_get s.fields (255 * 256 + 255)) refl
  where
    by : (o : Option Field) → slice_get s.fields (255 * 256 + 255) ≡ o → option_map_or (λ (g : Field). g.positions) (slice_get s.fields (255 * 256 + 255)) false ≡ false
    by None is = ap (λ (o : Option Field). option_map_or (λ (g : Field). g.positions) o false) is
    by (Some f) is = absurd (omega (arith, schema.few, slice_get_within s.fields (255 * 256 + 255) f is))

pub adds_behind_ok : {X E : Type 0} (a b c : TermLog) (s : Schema) (xs ys : List Said) (r : Result X E) → Adds a b s xs → OnOk r (Adds b c s ys) → OnOk r (Adds a c s (xs ++ ys))
adds_behind_ok a b c s xs ys (Ok x) p q = adds_more a b c s xs ys p q
adds_behind_ok a b c s xs ys (Err e) p q = tt

-- what an indexed field with values says
pub field_is : (f : Field) (number d : ℕ) (vs : List Value) → f.indexed ≡ true → (length vs == 0) ≡ false
    → in_document d (of_field f number vs) ≡ record { key = presence_key number; document = d; place = 0 } ∷ in_document d (of_values f number 0 vs)
field_is f number d [] indexed some = absurd cc
field_is f number d (v ∷ vs) indexed some = rw indexed refl
