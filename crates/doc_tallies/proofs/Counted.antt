-- What documents count by the columns of the fields that are counted.
use Rattle.std.proofs.Common.{◌≡◌, ℕ, zero, suc, ◌+◌, ◌<◌, ◌==◌, Bool, true, false, List, [], ◌∷◌, ◌++◌, map, length, take, get_or, slice_get, Option, Some, None, if◌then◌else◌, cond, count_by, refl, ap, sym, subst, ◌∙◌, arith, ◌⊎◌, inl, inr}
use Rattle.std.specs.List.{AllByRecursion, AllZip, list_any}
use Rattle.std.specs.Option.{option_map_or, option_and_then, option_to_list, IsSomeAnd}
use Rattle.std.specs.Ordering.{int_eq}
use Rattle.std.proofs.lemmas.Bool.{eqb-true, eq-eqb}
use Rattle.std.proofs.lemmas.List.{take_more}
use Rattle.std.proofs.lemmas.List.Sums.{sum_by-append}
use Rattle.doc_value.specs.declared.doc.DocField.{DocField}
use Rattle.doc_value.specs.declared.doc.Value.{Value}
use Rattle.doc_value.specs.declared.schema.Schema.{Schema}
use Rattle.doc_value.specs.declared.schema.Kind.{Kind}
use Rattle.doc_value.specs.Documents.{AreOfKind, IsOfSchema, values_in}
use Rattle.split_bundle.specs.Held.{IsHeld, IsHeldValue}
use Rattle.doc_tallies.proofs.FieldValues.{are_values}
use Rattle.agg_model.specs.Counting.{has_value, is_same, lies_in, step_of, whole}
use Rattle.agg_model.specs.Checking.{field_of}
use Rattle.agg_model.specs.Partials.{CountsFor, StandsFor}
use Rattle.agg_model.specs.declared.request.Agg.{Agg}
use Rattle.agg_model.specs.declared.request.Agg.TheVariants.{Terms, Histogram}
use Rattle.agg_model.specs.declared.request.NamedAgg.{NamedAgg}
use Rattle.agg_model.specs.declared.counts.Counts.{Counts}
use Rattle.agg_model.specs.declared.partial.Partial.{Partial}
use Rattle.split_bundle.specs.declared.placed.Placed.{Placed}
use Rattle.split_bundle.specs.Columns.{column_rows}
use Rattle.fast_fields.specs.Readers.{IsOf}
use Rattle.doc_tallies.specs.declared.field_column.FieldColumn.{FieldColumn}
use Rattle.doc_tallies.specs.AggColumns.{AreColumnsFor, HasValuesOf}
use Rattle.doc_tallies.specs.Counted.{agg_fields}
use Rattle.doc_tallies.specs.Cells.{IsColumnFor}

-- ---- the last document

count_last : (p : List DocField → Bool) (ds : List (List DocField)) (x y : List DocField) → p x ≡ p y → count_by p (ds ++ x ∷ []) ≡ count_by p (ds ++ y ∷ [])
count_last p ds x y e =
    sum_by-append (λ d. cond (p d) 1 0) ds (x ∷ [])
    ∙ (ap (λ (b : Bool). count_by p ds + (0 + cond b 1 0)) e ∙ sym (sum_by-append (λ d. cond (p d) 1 0) ds (y ∷ [])))

counts_last : (agg : Agg) (counts : Counts) (ds : List (List DocField)) (shown doc : List DocField) → values_in shown (field_of agg) ≡ values_in doc (field_of agg) → CountsFor agg counts (ds ++ shown ∷ []) → CountsFor agg counts (ds ++ doc ∷ [])
counts_last (Terms field size) counts ds shown doc e counted = λ value.
    counted value ∙ count_last (has_value field value) ds shown doc (ap (λ (vs : List Value). list_any (λ v. is_same v value) vs) e)
counts_last (Histogram field interval offset least dated) counts ds shown doc e counted = λ step.
    counted step ∙ count_last (lies_in field interval offset step) ds shown doc
    (ap (λ (vs : List Value). option_map_or (λ z. int_eq (step_of interval offset z) step) (option_and_then whole (slice_get vs 0)) false) e)

parts_last : (request : List NamedAgg) (parts : List Counts) (ds : List (List DocField)) (shown doc : List DocField) → HasValuesOf (agg_fields request) doc shown
    → AllZip (λ named counts. CountsFor named.agg counts (ds ++ shown ∷ [])) request parts → AllZip (λ named counts. CountsFor named.agg counts (ds ++ doc ∷ [])) request parts
parts_last [] [] ds shown doc same counted = tt
parts_last [] (c ∷ cs) ds shown doc same counted = absurd counted
parts_last (n ∷ ns) [] ds shown doc same counted = absurd counted
parts_last (n ∷ ns) (c ∷ cs) ds shown doc same counted = (counts_last n.agg c ds shown doc same.0 counted.0, parts_last ns cs ds shown doc same.1 counted.1)

length_last : (ds : List (List DocField)) (x y : List DocField) → length (ds ++ x ∷ []) ≡ length (ds ++ y ∷ [])
length_last [] x y = refl
length_last (d ∷ ds) x y = ap (λ (n : ℕ). suc n) (length_last ds x y)

-- a partial stands for a document in the place of its values
pub stands_last : (request : List NamedAgg) (partial : Partial) (ds : List (List DocField)) (shown doc : List DocField) → HasValuesOf (agg_fields request) doc shown → StandsFor request partial (ds ++ shown ∷ []) → StandsFor request partial (ds ++ doc ∷ [])
stands_last request partial ds shown doc same stands = record {
  many = stands.many ∙ length_last ds shown doc;
  parts = parts_last request partial.parts.items ds shown doc same stands.parts;
}

-- ---- a document by columns

abbrev pub field_shown : Placed → FieldColumn → DocField
field_shown d c = record { number = c.number; values = values_in d.doc c.number }

abbrev pub shown_of : Placed → List FieldColumn → List DocField
shown_of d columns = map (field_shown d) columns

-- one of the columns is of this field
abbrev pub HasNumber : ℕ → List FieldColumn → Type 0
HasNumber n [] = ⊥
HasNumber n (c ∷ cs) = (c.number ≡ n) ⊎ HasNumber n cs

shown_has : (d : Placed) (n : ℕ) (columns : List FieldColumn) → HasNumber n columns → values_in (shown_of d columns) n ≡ values_in d.doc n
shown_has d n [] has = absurd has
shown_has d n (c ∷ cs) has = go (c.number == n) refl has (shown_has d n cs)
  where
    go : (b : Bool) → (c.number == n) ≡ b → HasNumber n (c ∷ cs) → (HasNumber n cs → values_in (shown_of d cs) n ≡ values_in d.doc n)
        → (if b then values_in d.doc c.number else values_in (shown_of d cs) n) ≡ values_in d.doc n
    go true e has rest = ap (λ (k : ℕ). values_in d.doc k) (eqb-true c.number n e)
    go false e (inl same) rest = absurd (let yes : (c.number == n) ≡ true = eq-eqb c.number n same in cc)
    go false e (inr more) rest = rest more

number_more : (fields : List ℕ) (c : FieldColumn) (cs : List FieldColumn) → AllByRecursion (λ k. HasNumber k cs) fields → AllByRecursion (λ k. HasNumber k (c ∷ cs)) fields
number_more [] c cs has = tt
number_more (a ∷ as_more) c cs has = (inr has.0, number_more as_more c cs has.1)

has_numbers : (s : Schema) (documents : List Placed) (fields : List ℕ) (columns : List FieldColumn) → AreColumnsFor s documents fields columns → AllByRecursion (λ k. HasNumber k columns) fields
has_numbers s documents [] [] are = tt
has_numbers s documents [] (c ∷ cs) are = absurd are
has_numbers s documents (a ∷ rest) [] are = absurd are
has_numbers s documents (a ∷ rest) (c ∷ cs) are = (inl are.0.number_is, number_more rest c cs (has_numbers s documents rest cs are.1))

values_by : (d : Placed) (fields : List ℕ) (columns : List FieldColumn) → AllByRecursion (λ k. HasNumber k columns) fields → HasValuesOf fields d.doc (shown_of d columns)
values_by d [] columns has = tt
values_by d (a ∷ rest) columns has = (shown_has d a columns has.0, values_by d rest columns has.1)

pub shown_values : (s : Schema) (documents : List Placed) (d : Placed) (fields : List ℕ) (columns : List FieldColumn) → AreColumnsFor s documents fields columns → HasValuesOf fields d.doc (shown_of d columns)
shown_values s documents d fields columns are = values_by d fields columns (has_numbers s documents fields columns are)

-- ---- columns one by one

pub record IsColumnOfSome (s : Schema) (documents : List Placed) (c : FieldColumn) : Type 0 where
  pub number : ℕ
  pub is_for : IsColumnFor s documents number c

pub column_at : (s : Schema) (documents : List Placed) (fields : List ℕ) (columns : List FieldColumn) (i : ℕ) (c : FieldColumn) → AreColumnsFor s documents fields columns → i < length columns → c ≡ get_or columns i c
    → IsColumnOfSome s documents c
column_at s documents [] [] i c are lt e = absurd (omega arith)
column_at s documents [] (x ∷ xs) i c are lt e = absurd are
column_at s documents (a ∷ rest) [] i c are lt e = absurd are
column_at s documents (a ∷ rest) (x ∷ xs) zero c are lt e = record { number = a; is_for = subst (λ (y : FieldColumn). IsColumnFor s documents a y) (sym e) are.0 }
column_at s documents (a ∷ rest) (x ∷ xs) (suc i) c are lt e = column_at s documents rest xs i c are.1 (omega arith) e

-- what a column's values in a document are
pub record IsColumnAt (documents : List Placed) (d : Placed) (c : FieldColumn) : Type 0 where
  pub is_of : IsOf c.column (column_rows c.number documents)
  pub of_kind : AreOfKind c.kind (values_in d.doc c.number)
  pub held : AllByRecursion IsHeldValue (values_in d.doc c.number)

pub values_of_column : (s : Schema) (documents : List Placed) (n : ℕ) (c : FieldColumn) (d : Placed) → IsColumnFor s documents n c → IsOfSchema s d.doc → IsHeld d → IsColumnAt documents d c
values_of_column s documents n c d is of held =
    let same : n ≡ c.number = sym is.number_is in
    let are = are_values s n is.field d.doc is.here of held.doc in
    record {
      is_of = subst (λ (k : ℕ). IsOf c.column (column_rows k documents)) same is.is_of;
      of_kind = subst (λ (k : ℕ). AreOfKind c.kind (values_in d.doc k)) same (subst (λ (k : Kind). AreOfKind k (values_in d.doc n)) (sym is.kind_is) are.of_kind);
      held = subst (λ (k : ℕ). AllByRecursion IsHeldValue (values_in d.doc k)) same are.held;
    }

zip_push : (s : Schema) (documents : List Placed) (fields : List ℕ) (columns : List FieldColumn) (a : ℕ) (c : FieldColumn) → AreColumnsFor s documents fields columns → IsColumnFor s documents a c
    → AreColumnsFor s documents (fields ++ a ∷ []) (columns ++ c ∷ [])
zip_push s documents [] [] a c are is = (is, tt)
zip_push s documents [] (x ∷ xs) a c are is = absurd are
zip_push s documents (b ∷ bs) [] a c are is = absurd are
zip_push s documents (b ∷ bs) (x ∷ xs) a c are is = (are.0, zip_push s documents bs xs a c are.1 is)

pub columns_push : (s : Schema) (documents : List Placed) (fields : List ℕ) (old new : List FieldColumn) (i : ℕ) (a : ℕ) (o : Option FieldColumn) → i < length fields → a ≡ get_or fields i a
    → AreColumnsFor s documents (take i fields) old → IsSomeAnd o (IsColumnFor s documents a) → new ≡ old ++ option_to_list o → AreColumnsFor s documents (take (i + 1) fields) new
columns_push s documents fields old new i a None lt at are is e = absurd is
columns_push s documents fields old new i a (Some c) lt at are is e =
    let front : take (i + 1) fields ≡ take i fields ++ a ∷ [] = take_more fields i a lt ∙ ap (λ (x : ℕ). take i fields ++ x ∷ []) (sym at) in
    rw (front, e) (zip_push s documents (take i fields) old a c are is)

pub fields_push : (d : Placed) (columns : List FieldColumn) (i : ℕ) (c : FieldColumn) (old new : List DocField) (values : List Value) → i < length columns → c ≡ get_or columns i c → old ≡ shown_of d (take i columns)
    → values ≡ values_in d.doc c.number → new ≡ old ++ record { number = c.number; values = values } ∷ [] → new ≡ shown_of d (take (i + 1) columns)
fields_push d columns i c old new values lt at before is e =
    let front : take (i + 1) columns ≡ take i columns ++ c ∷ [] = take_more columns i c lt ∙ ap (λ (x : FieldColumn). take i columns ++ x ∷ []) (sym at) in
    e ∙ (ap (λ (vs : List Value). old ++ record { number = c.number; values = vs } ∷ []) is
    ∙ (ap (λ (fs : List DocField). fs ++ field_shown d c ∷ []) before
    ∙ (sym (map_push (take i columns) c) ∙ ap (shown_of d) (sym front))))
  where
    map_push : (xs : List FieldColumn) (x : FieldColumn) → shown_of d (xs ++ x ∷ []) ≡ shown_of d xs ++ field_shown d x ∷ []
    map_push [] x = refl
    map_push (y ∷ ys) x = ap (λ (fs : List DocField). field_shown d y ∷ fs) (map_push ys x)
