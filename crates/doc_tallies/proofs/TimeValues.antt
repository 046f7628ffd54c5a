-- The time of a document, by its first value in a column of seconds.
use Rattle.std.proofs.Common.{◌≡◌, ℕ, ℤ, zero, suc, ◌+◌, ◌<◌, ◌^◌, Bool, true, false, ◌&&◌, ◌||◌, List, [], ◌∷◌, ◌++◌, length, take, get_or, slice_get, Option, Some, None, cond, refl, ap, sym, subst, ◌∙◌, arith, ◌⊎◌, inl, inr}
use Rattle.std.specs.List.{AllByRecursion, filter}
use Rattle.std.specs.Option.{IfSome}
use Rattle.std.proofs.lemmas.List.Elements.{filter_more, recursion_from_All}
use Rattle.byte_fields.specs.Spelling.{zigzag}
use Rattle.doc_value.specs.declared.facts.TimeRange.{TimeRange}
use Rattle.doc_value.specs.declared.schema.Field.{Field}
use Rattle.doc_value.specs.declared.schema.Kind.{Kind}
use Rattle.doc_value.specs.declared.schema.Kind.TheVariants as kinds
use Rattle.doc_value.specs.declared.schema.Schema.{Schema}
use Rattle.doc_value.specs.declared.doc.Value.{Value}
use Rattle.doc_value.specs.declared.doc.Value.TheVariants as values
use Rattle.doc_value.specs.declared.doc.DocField.{DocField}
use Rattle.doc_value.specs.Documents.{IsTimestamp, HasGoodCount, values_in}
use Rattle.fast_fields.specs.Columns.{cells_of, AreEntries}
use Rattle.doc_value.specs.Terms.{turned}
use Rattle.fast_fields.specs.Readers.{IsOf, first_number}
use Rattle.fast_fields.specs.declared.column.Column.{Column}
use Rattle.fast_fields.specs.declared.entries.Entry.{Entry}
use Rattle.query_ast.specs.Meaning.{from_start, before_end, some_within, is_unlimited, within_times}
use Rattle.split_bundle.specs.declared.placed.Placed.{Placed}
use Rattle.split_bundle.specs.Columns.{column_rows}
use Rattle.split_bundle.specs.Splits.{AreDocumentsOf}
use Rattle.doc_tallies.specs.Cells.{IsFast}
use Rattle.doc_tallies.specs.Picked.{AllBelow}
use Rattle.doc_tallies.specs.Times.{lies_within, numbers_within}
use Rattle.doc_tallies.proofs.FieldValues.{AreValues, are_values, each_at}
use Rattle.doc_tallies.proofs.Owned.{first_of, owned}

-- what the turned number of a document's first value says of its times
pub record IsSecond (times : TimeRange) (vs : List Value) (n : ℕ) : Type 0 where
  pub second : ℤ
  pub turned_is : n ≡ turned second
  pub fits : zigzag second < 2 ^ 64
  pub within : some_within times vs ≡ (from_start times.start second && before_end times.end second)

abbrev pub IsTime : TimeRange → List Value → Option ℕ → Type 0
IsTime times vs None = some_within times vs ≡ false
IsTime times vs (Some n) = IsSecond times vs n

or_false : (a : Bool) → a || false ≡ a
or_false true = refl
or_false false = refl

not_two : (v w : Value) (vs : List Value) → (v ∷ w ∷ vs ≡ []) ⊎ HasGoodCount kinds.Datetime (v ∷ w ∷ vs) → ⊥
not_two v w vs h = elim h [ inl e ↦ cc | inr e ↦ (let two : suc (suc (length vs)) ≡ 1 = e in omega arith) ]

time_of : (times : TimeRange) (texts : List (List ℕ)) (k : ℕ) (vs : List Value) (own : List Entry) → AreEntries texts (cells_of k vs) own → AreValues kinds.Datetime vs → IsTime times vs (first_of own)
time_of times texts k [] [] are h = refl
time_of times texts k [] (e ∷ es) are h = absurd are
time_of times texts k (v ∷ vs) [] are h = absurd are
time_of times texts k (values.Datetime z ∷ []) (e ∷ es) are h = record {
  second = z;
  turned_is = are.1;
  fits = h.held.0;
  within = or_false (from_start times.start z && before_end times.end z);
}
time_of times texts k (v ∷ w ∷ vs) (e ∷ es) are h = absurd (not_two v w vs h.count)
time_of times texts k (values.Text t ∷ []) (e ∷ es) are h = absurd h.of_kind.0
time_of times texts k (values.I64 t ∷ []) (e ∷ es) are h = absurd h.of_kind.0
time_of times texts k (values.U64 t ∷ []) (e ∷ es) are h = absurd h.of_kind.0
time_of times texts k (values.Bool t ∷ []) (e ∷ es) are h = absurd h.of_kind.0

-- the timestamp field is one of datetimes
pub record IsDated (s : Schema) (n : ℕ) : Type 0 where
  pub field : Field
  pub here : slice_get s.fields n ≡ Some field
  pub kind : field.kind ≡ kinds.Datetime
  pub fast : field.fast ≡ true

pub dated : (s : Schema) (n : ℕ) → IfSome s.timestamp (IsTimestamp s.fields) → s.timestamp ≡ Some n → IsDated s n
dated s n h ts = go (slice_get s.fields n) refl (rw ts at h)
  where
    go : (o : Option Field) → slice_get s.fields n ≡ o → IsTimestamp s.fields n → IsDated s n
    go None e t = absurd (rw e at t)
    go (Some f) e t = let both = rw e at t in record { field = f; here = e; kind = both.0; fast = both.1 }

pub dated_fast : (s : Schema) (n : ℕ) → IsDated s n → IsFast s n
dated_fast s n h = rw (h.here) h.fast

pub time_first : (times : TimeRange) (s : Schema) (documents : List Placed) (n k : ℕ) (c : Column) (d : Placed) (o : Option ℕ) → AreDocumentsOf s documents → s.timestamp ≡ Some n
    → (is : IsOf c (column_rows n documents)) → slice_get documents k ≡ Some d → o ≡ first_number k is.entries → IsTime times (values_in d.doc n) o
time_first times s documents n k c d o of ts is got e =
    let when = dated s n of.schema.timestamp ts in
    let own = owned is.texts n k documents d is.entries is.are_entries got in
    let are = are_values s n when.field d.doc when.here (each_at (λ (x : Placed). _) documents k d of.of_schema got) (each_at (λ (x : Placed). _) documents k d of.held got).doc in
    subst (λ (x : Option ℕ). IsTime times (values_in d.doc n) x) (sym (e ∙ own.first))
    (time_of times is.texts k (values_in d.doc n) own.own own.are (subst (λ (kind : Kind). AreValues kind (values_in d.doc n)) when.kind are))

pub within_is : (s : Schema) (times : TimeRange) (doc : List DocField) (n : ℕ) (b : Bool) → is_unlimited times.start times.end ≡ false → s.timestamp ≡ Some n → some_within times (values_in doc n) ≡ b → within_times s times doc ≡ b
within_is s times doc n b limited ts e = rw (limited, ts) e

-- one more number
pub within_step : (p : ℕ → Bool) (numbers old new : List ℕ) (i n : ℕ) (b : Bool) → i < length numbers → n ≡ get_or numbers i 0 → old ≡ filter p (take i numbers) → b ≡ p n → new ≡ old ++ cond b (n ∷ []) []
    → new ≡ filter p (take (i + 1) numbers)
within_step p numbers old new i n b lt at before test after =
    after ∙ (ap (λ (xs : List ℕ). xs ++ cond b (n ∷ []) []) before ∙ (ap (λ (t : Bool). filter p (take i numbers) ++ cond t (n ∷ []) []) test
    ∙ (ap (λ (m : ℕ). filter p (take i numbers) ++ cond (p m) (m ∷ []) []) at ∙ sym (filter_more p numbers i 0 lt))))

pub lies_is : (s : Schema) (times : TimeRange) (documents : List Placed) (n : ℕ) (d : Placed) → slice_get documents n ≡ Some d → lies_within s times documents n ≡ within_times s times d.doc
lies_is s times documents n d got = rw got refl

-- the document with a number that is below the count
pub record Stands (documents : List Placed) (n : ℕ) : Type 0 where
  pub document : Placed
  pub here : slice_get documents n ≡ Some document

pub stands : (documents : List Placed) (n : ℕ) → n < length documents → Stands documents n
stands [] n lt = absurd (omega arith)
stands (d ∷ ds) zero lt = record { document = d; here = refl }
stands (d ∷ ds) (suc n) lt = let rest = stands ds n (omega arith) in record { document = rest.document; here = rest.here }

-- without edges all numbers stay, and without a timestamp field none
all_stay : (s : Schema) (times : TimeRange) (documents : List Placed) (numbers : List ℕ) → is_unlimited times.start times.end ≡ true → AllByRecursion (λ n. n < length documents) numbers → numbers ≡ numbers_within s times documents numbers
all_stay s times documents [] free below = refl
all_stay s times documents (n ∷ ns) free below =
    let at = stands documents n below.0 in
    let lies : lies_within s times documents n ≡ true = lies_is s times documents n at.document at.here ∙ rw free refl in
    rw (lies) (ap (λ (xs : List ℕ). n ∷ xs) (all_stay s times documents ns free below.1))

pub unlimited_stay : (s : Schema) (times : TimeRange) (documents : List Placed) (numbers : List ℕ) → is_unlimited times.start times.end ≡ true → AllBelow (length documents) numbers → numbers ≡ numbers_within s times documents numbers
unlimited_stay s times documents numbers free below = all_stay s times documents numbers free (recursion_from_All (λ (n : ℕ). n < length documents) numbers below)

timeless : (s : Schema) (times : TimeRange) (documents : List Placed) (n : ℕ) → is_unlimited times.start times.end ≡ false → s.timestamp ≡ None → lies_within s times documents n ≡ false
timeless s times documents n limited none = go (slice_get documents n) refl
  where
    go : (o : Option Placed) → slice_get documents n ≡ o → lies_within s times documents n ≡ false
    go None e = rw e refl
    go (Some d) e = rw (e, limited, none) refl

pub none_stay : (s : Schema) (times : TimeRange) (documents : List Placed) (numbers : List ℕ) → is_unlimited times.start times.end ≡ false → s.timestamp ≡ None → [] ≡ numbers_within s times documents numbers
none_stay s times documents [] limited none = refl
none_stay s times documents (n ∷ ns) limited none = rw (timeless s times documents n limited none) (none_stay s times documents ns limited none)
