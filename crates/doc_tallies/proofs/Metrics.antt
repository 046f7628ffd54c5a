-- The only value of a document, by its number in a column.
use Rattle.std.proofs.Common.{◌≡◌, ℕ, ◌<◌, ◌==◌, inl, inr, Bool, true, false, List, [], ◌∷◌, length, get_or, slice_get, Option, Some, None, if◌then◌else◌, refl, ap, sym, subst, ◌∙◌}
use Rattle.std.specs.Option.{option_and_then, option_map_or}
use Rattle.std.proofs.lemmas.Bool.{eq-eqb}
use Rattle.doc_value.specs.declared.doc.DocField.{DocField}
use Rattle.doc_value.specs.declared.doc.Value.{Value}
use Rattle.doc_value.specs.declared.doc.Value.TheVariants as values
use Rattle.doc_value.specs.declared.schema.Kind.{Kind}
use Rattle.doc_value.specs.declared.schema.Kind.TheVariants as kinds
use Rattle.doc_value.specs.declared.schema.Schema.{Schema}
use Rattle.agg_model.specs.Counting.{whole}
use Rattle.doc_value.specs.Documents.{values_in}
use Rattle.fast_fields.specs.Readers.{first_number}
use Rattle.split_bundle.specs.Splits.{AreDocumentsOf}
use Rattle.split_bundle.specs.declared.placed.Placed.{Placed}
use Rattle.doc_tallies.specs.AggColumns.{AreColumnsFor}
use Rattle.doc_tallies.specs.Cells.{IsColumnFor}
use Rattle.doc_tallies.specs.Marks.{HasFirst, IsSingle, unturned, whole_there}
use Rattle.doc_tallies.specs.declared.field_column.FieldColumn.{FieldColumn}
use Rattle.doc_tallies.proofs.MarkValues.{IsOneOrNone, one_or_none, whole_first}
use Rattle.doc_tallies.proofs.Owned.{first_of}
use Rattle.doc_tallies.proofs.Regrouped.{in_column}

one_long : (texts : List (List ℕ)) (kind : Kind) (vs : List Value) (o : Option ℕ) → IsOneOrNone texts kind vs o → length vs ≡ option_map_or (λ n. 1) o 0
one_long texts kind vs o (inl none) = rw (none.0, none.1) refl
one_long texts kind vs o (inr some) = rw (some.2.one, some.2.first) refl

-- what a column has of a document is its only value
pub first_in : (s : Schema) (documents : List Placed) (number : ℕ) (c : FieldColumn) (n : ℕ) (d : Placed) (o : Option ℕ) → IsSingle c.kind → AreDocumentsOf s documents → (is : IsColumnFor s documents number c) → n < length documents
    → slice_get documents n ≡ Some d → o ≡ first_number n is.is_of.entries → HasFirst number c.kind o d.doc
first_in s documents number c n d o single of is lt here e =
    let at = in_column s documents number c n of is lt in
    let same : at.document ≡ d = (let mine = at.here in cc) in
    let vs = values_in at.document.doc number in
    let first : o ≡ first_of at.own.own = e ∙ at.own.first in
    let values : vs ≡ values_in d.doc number = ap (λ (x : Placed). values_in x.doc number) same in
    let one = one_or_none is.is_of.texts n c.kind vs at.own.own single at.own.are at.values in
    record {
      many = sym (ap length values) ∙ (one_long is.is_of.texts c.kind vs (first_of at.own.own) one ∙ ap (λ (x : Option ℕ). option_map_or (λ n. 1) x 0) (sym first));
      first =
          sym (ap (λ (ws : List Value). option_and_then whole (slice_get ws 0)) values)
          ∙ (whole_first is.is_of.texts n c.kind vs at.own.own at.own.are at.values ∙ ap (whole_there c.kind) (sym first));
    }

-- ---- some document with a value of this number

abbrev value_with : Kind → ℕ → Value
value_with kinds.Text n = values.Text []
value_with kinds.TextList n = values.Text []
value_with kinds.I64 n = values.I64 (unturned n)
value_with kinds.U64 n = values.U64 n
value_with kinds.Bool n = values.Bool false
value_with kinds.Datetime n = values.Datetime (unturned n)

abbrev pub doc_with : ℕ → Kind → Option ℕ → List DocField
doc_with field kind None = []
doc_with field kind (Some n) = record { number = field; values = value_with kind n ∷ [] } ∷ []

whole_with : (kind : Kind) (n : ℕ) → whole (value_with kind n) ≡ whole_there kind (Some n)
whole_with kinds.Text n = refl
whole_with kinds.TextList n = refl
whole_with kinds.I64 n = refl
whole_with kinds.U64 n = refl
whole_with kinds.Bool n = refl
whole_with kinds.Datetime n = refl

none_with : (kind : Kind) → None ≡ whole_there kind None
none_with kinds.Text = refl
none_with kinds.TextList = refl
none_with kinds.I64 = refl
none_with kinds.U64 = refl
none_with kinds.Bool = refl
none_with kinds.Datetime = refl

pub first_with : (field : ℕ) (kind : Kind) (o : Option ℕ) → HasFirst field kind o (doc_with field kind o)
first_with field kind None = record { many = refl; first = none_with kind }
first_with field kind (Some n) =
    let own : (field == field) ≡ true = eq-eqb field field refl in
    let values : values_in (doc_with field kind (Some n)) field ≡ value_with kind n ∷ [] = ap (λ (b : Bool). if b then value_with kind n ∷ [] else []) own in
    record {
      many = ap length values;
      first = ap (λ (ws : List Value). option_and_then whole (slice_get ws 0)) values ∙ whole_with kind n;
    }

-- the column of the only field
pub sole_column : (s : Schema) (documents : List Placed) (field : ℕ) (columns : List FieldColumn) (c : FieldColumn) → AreColumnsFor s documents (field ∷ []) columns → c ≡ get_or columns 0 c → IsColumnFor s documents field c
sole_column s documents field [] c are e = absurd are
sole_column s documents field (x ∷ xs) c are e = subst (λ (y : FieldColumn). IsColumnFor s documents field y) (sym e) are.0
