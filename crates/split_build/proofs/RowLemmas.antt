-- The rows of a field of documents that a split can hold are those of a column.
use Rattle.std.proofs.Common.{◌≡◌, ℕ, suc, ◌+◌, ◌<◌, ◌≤◌, Bool, true, false, List, [], ◌∷◌, ◌++◌, length, Some, refl, sym, ◌∙◌, ap, arith, append_assoc, length-append, eqb-true}
use Rattle.std.specs.Prelude.{◌==◌, slice_get, if◌then◌else◌}
use Rattle.std.specs.List.{AllByRecursion}
use Rattle.std.proofs.lemmas.List.{append-nil, length-map}
use Rattle.doc_value.specs.declared.schema.Field.{Field}
use Rattle.doc_value.specs.declared.schema.Kind.{Kind}
use Rattle.doc_value.specs.declared.schema.Schema.{Schema}
use Rattle.doc_value.specs.declared.doc.Value.{Value}
use Rattle.doc_value.specs.declared.doc.DocField.{DocField}
use Rattle.doc_value.specs.Documents.{IsOfSchema, FitsFrom, FitsField, AreOfKind, IsOfKind, values_in}
use Rattle.fast_fields.specs.declared.rows.ColumnRow.{ColumnRow}
use Rattle.fast_fields.specs.Columns.{AreRows, RowsRise, Cell, cells, cells_of}
use Rattle.split_bundle.specs.declared.placed.Placed.{Placed}
use Rattle.split_bundle.specs.Columns.{row_of, rows_from, column_rows}
use Rattle.split_bundle.specs.Documents.{value_bytes, weight, total_weight}
use Rattle.split_bundle.specs.Splits.{AreDocumentsOf}
use Rattle.split_bundle.proofs.DocsAgain.{value_some, many}
use Rattle.split_bundle.proofs.Light.{values_within, doc_light}

-- ---- one more document

rows_more : (n k : ℕ) (ds : List Placed) (d : Placed) → rows_from n k (ds ++ d ∷ []) ≡ rows_from n k ds ++ row_of (k + length ds) (values_in d.doc n)
rows_more n k [] d =
    let at : k ≡ k + 0 = omega arith in
    append-nil (row_of k (values_in d.doc n)) ∙ ap (λ (i : ℕ). row_of i (values_in d.doc n)) at
rows_more n k (x ∷ xs) d =
    let at : suc k + length xs ≡ k + suc (length xs) = omega arith in
    ap (λ (rs : List ColumnRow). row_of k (values_in x.doc n) ++ rs) (rows_more n (suc k) xs d ∙ ap (λ (i : ℕ). rows_from n (suc k) xs ++ row_of i (values_in d.doc n)) at)
    ∙ sym (append_assoc (row_of k (values_in x.doc n)) (rows_from n (suc k) xs) (row_of (k + suc (length xs)) (values_in d.doc n)))

pub column_more : (n : ℕ) (ds : List Placed) (d : Placed) → column_rows n (ds ++ d ∷ []) ≡ column_rows n ds ++ row_of (length ds) (values_in d.doc n)
column_more n ds d =
    let at : 0 + length ds ≡ length ds = omega arith in
    rows_more n 0 ds d ∙ ap (λ (i : ℕ). rows_from n 0 ds ++ row_of i (values_in d.doc n)) at

-- ---- what the rows are

from_on : (n k m : ℕ) (ds : List Placed) → m < k → AllByRecursion (λ r. m < r.document) (rows_from n k ds)
from_on n k m [] lt = tt
from_on n k m (d ∷ ds) lt = by (values_in d.doc n) (from_on n (suc k) m ds (omega (arith, lt)))
  where
    by : (vs : List Value) → AllByRecursion (λ r. m < r.document) (rows_from n (suc k) ds) → AllByRecursion (λ r. m < r.document) (row_of k vs ++ rows_from n (suc k) ds)
    by [] rest = rest
    by (v ∷ vs) rest = (lt, rest)

they_rise : (n k : ℕ) (ds : List Placed) → RowsRise (rows_from n k ds)
they_rise n k [] = tt
they_rise n k (d ∷ ds) = by (values_in d.doc n) (they_rise n (suc k) ds)
  where
    by : (vs : List Value) → RowsRise (rows_from n (suc k) ds) → RowsRise (row_of k vs ++ rows_from n (suc k) ds)
    by [] rest = rest
    by (v ∷ vs) rest = (from_on n (suc k) k ds (omega arith), rest)

none_vacant : (n k : ℕ) (ds : List Placed) → AllByRecursion (λ r. 0 < length r.values) (rows_from n k ds)
none_vacant n k [] = tt
none_vacant n k (d ∷ ds) = by (values_in d.doc n) (none_vacant n (suc k) ds)
  where
    by : (vs : List Value) → AllByRecursion (λ r. 0 < length r.values) (rows_from n (suc k) ds) → AllByRecursion (λ r. 0 < length r.values) (row_of k vs ++ rows_from n (suc k) ds)
    by [] rest = rest
    by (v ∷ vs) rest = (omega arith, rest)

kinds_of : (kind : Kind) (k : ℕ) (vs : List Value) (cs : List Cell) → AreOfKind kind vs → AllByRecursion (λ c. IsOfKind kind c.value) cs → AllByRecursion (λ c. IsOfKind kind c.value) (cells_of k vs ++ cs)
kinds_of kind k [] cs h rest = rest
kinds_of kind k (v ∷ vs) cs h rest = (h.0, kinds_of kind k vs cs h.1 rest)

of_kind : (kind : Kind) (n k : ℕ) (ds : List Placed) → AllByRecursion (λ d. AreOfKind kind (values_in d.doc n)) ds → AllByRecursion (λ c. IsOfKind kind c.value) (cells (rows_from n k ds))
of_kind kind n k [] h = tt
of_kind kind n k (d ∷ ds) h = by (values_in d.doc n) h.0 (of_kind kind n (suc k) ds h.1)
  where
    by : (vs : List Value) → AreOfKind kind vs → AllByRecursion (λ c. IsOfKind kind c.value) (cells (rows_from n (suc k) ds)) → AllByRecursion (λ c. IsOfKind kind c.value) (cells (row_of k vs ++ rows_from n (suc k) ds))
    by [] here rest = rest
    by (v ∷ vs) here rest = kinds_of kind k (v ∷ vs) (cells (rows_from n (suc k) ds)) here rest

values_few : (n : ℕ) (d : Placed) → length (values_in d.doc n) ≤ weight d
values_few n d = omega (arith, many value_bytes value_some (values_in d.doc n), values_within d.doc n, doc_light d)

cells_few : (n k : ℕ) (ds : List Placed) → length (cells (rows_from n k ds)) ≤ total_weight ds
cells_few n k [] = omega arith
cells_few n k (d ∷ ds) = by (values_in d.doc n) (values_few n d) (cells_few n (suc k) ds)
  where
    by : (vs : List Value) → length vs ≤ weight d → length (cells (rows_from n (suc k) ds)) ≤ total_weight ds → length (cells (row_of k vs ++ rows_from n (suc k) ds)) ≤ total_weight (d ∷ ds)
    by [] here rest = omega (arith, rest)
    by (v ∷ vs) here rest =
        omega (arith, here, rest, length-append (cells_of k (v ∷ vs)) (cells (rows_from n (suc k) ds)), length-map (v ∷ vs) (λ (w : Value). let c : Cell = record { document = k; value = w } in c))

-- ---- the values of a field are of its kind

part_kinds : (fields : List Field) (part : DocField) (n : ℕ) (f : Field) → part.number ≡ n → slice_get fields n ≡ Some f → FitsField fields part → AreOfKind f.kind part.values
part_kinds fields part n f e got fits =
    let here : slice_get fields part.number ≡ Some f = ap (λ (k : ℕ). slice_get fields k) e ∙ got in
    (rw here at fits).0

kinds_from : (fields : List Field) (least n : ℕ) (f : Field) (d : List DocField) → slice_get fields n ≡ Some f → FitsFrom fields least d → AreOfKind f.kind (values_in d n)
kinds_from fields least n f [] got fits = tt
kinds_from fields least n f (part ∷ parts) got fits = go (part.number == n) refl (kinds_from fields (suc part.number) n f parts got fits.2)
  where
    go : (b : Bool) → (part.number == n) ≡ b → AreOfKind f.kind (values_in parts n) → AreOfKind f.kind (if b then part.values else values_in parts n)
    go true e rest = part_kinds fields part n f (eqb-true part.number n e) got fits.1
    go false e rest = rest

all_kinds : (s : Schema) (n : ℕ) (f : Field) (ds : List Placed) → slice_get s.fields n ≡ Some f → AllByRecursion (λ d. IsOfSchema s d.doc) ds → AllByRecursion (λ d. AreOfKind f.kind (values_in d.doc n)) ds
all_kinds s n f [] got h = tt
all_kinds s n f (d ∷ ds) got h = (kinds_from s.fields 0 n f d.doc got h.0, all_kinds s n f ds got h.1)

pub can_encode : (s : Schema) (n : ℕ) (f : Field) (ds : List Placed) → slice_get s.fields n ≡ Some f → AreDocumentsOf s ds → AreRows f.kind (column_rows n ds)
can_encode s n f ds got are = record {
  rise = they_rise n 0 ds;
  some = none_vacant n 0 ds;
  of_kind = of_kind f.kind n 0 ds (all_kinds s n f ds got are.of_schema);
  few = omega (arith, cells_few n 0 ds, are.light);
}
