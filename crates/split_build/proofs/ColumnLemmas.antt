-- Columns one behind the other.
use Rattle.std.proofs.Common.{◌≡◌, ℕ, suc, ◌+◌, ◌<◌, Bool, true, false, List, [], ◌∷◌, ◌++◌, length, Some, refl, sym, ◌∙◌, ap, subst, arith, append_assoc, length-append}
use Rattle.std.specs.Prelude.{slice_get, if◌then◌else◌}
use Rattle.std.specs.List.{AllByRecursion}
use Rattle.std.proofs.lemmas.List.{append-nil}
use Rattle.std.proofs.lemmas.Option.{slice_get_within}
use Rattle.doc_value.specs.declared.schema.Field.{Field}
use Rattle.doc_value.specs.declared.schema.Schema.{Schema}
use Rattle.fast_fields.specs.Columns.{IsColumn, cells}
use Rattle.split_bundle.specs.declared.layout.ColumnStart.{ColumnStart}
use Rattle.split_bundle.specs.declared.placed.Placed.{Placed}
use Rattle.split_bundle.specs.Columns.{AreColumns, FastField, fast_from, fast_fields, column_rows}
use Rattle.split_bundle.specs.Splits.{AreDocumentsOf}
use Rattle.split_build.specs.declared.columns.ColumnLog.{ColumnLog}
use Rattle.split_build.specs.HeldColumns.{CanWrite, HasColumns, HasRows, IsPut}
use Rattle.split_build.proofs.RowLemmas.{can_encode}

-- ---- a column more

columns_more : (ds : List Placed) (start : ℕ) (fs : List FastField) (cs : List ColumnStart) (bytes : List ℕ) (f : FastField) (col : List ℕ) → AreColumns ds start fs cs bytes → IsColumn f.field.kind col (column_rows f.number ds)
    → AreColumns ds start (fs ++ f ∷ []) (cs ++ record { number = f.number; start = start + length bytes } ∷ []) (bytes ++ col)
columns_more ds start [] [] bytes f col h is = (
  record { column = col; behind = []; parts = ap (λ (l : List ℕ). l ++ col) h ∙ sym (append-nil col); is_column = is },
  ap (λ (i : ℕ). let c : ColumnStart = record { number = f.number; start = i } in c) (omega (arith, ap (λ (l : List ℕ). length l) h)),
  refl,
)
columns_more ds start [] (c ∷ cs) bytes f col h is = absurd h
columns_more ds start (g ∷ gs) [] bytes f col h is = absurd h
columns_more ds start (g ∷ gs) (c ∷ cs) bytes f col h is =
    let has = h.0 in
    let rest = columns_more ds (start + length has.column) gs cs has.behind f col h.2 is in
    let at : (start + length has.column) + length has.behind ≡ start + length bytes = omega (arith, ap (λ (l : List ℕ). length l) has.parts, length-append has.column has.behind) in (
      record { column = has.column; behind = has.behind ++ col; parts = ap (λ (l : List ℕ). l ++ col) has.parts ∙ append_assoc has.column has.behind col; is_column = has.is_column },
      h.1,
      subst (λ (i : ℕ). AreColumns ds (start + length has.column) (gs ++ f ∷ []) (cs ++ record { number = f.number; start = i } ∷ []) (has.behind ++ col)) at rest,
    )

-- ---- the fast fields of a schema

fast_at : (all : List Field) (n : ℕ) (fs : List Field) → ((k : ℕ) (f : Field) → slice_get fs k ≡ Some f → slice_get all (n + k) ≡ Some f) → AllByRecursion (λ f. slice_get all f.number ≡ Some f.field) (fast_from n fs)
fast_at all n [] at = tt
fast_at all n (f ∷ fs) at =
    by f.fast (fast_at all (suc n) fs (λ k g got. let e : suc n + k ≡ n + suc k = omega arith in ap (λ (i : ℕ). slice_get all i) e ∙ at (suc k) g got))
  where
    by : (b : Bool) → AllByRecursion (λ g. slice_get all g.number ≡ Some g.field) (fast_from (suc n) fs)
        → AllByRecursion (λ g. slice_get all g.number ≡ Some g.field) (if b then record { number = n; field = f } ∷ fast_from (suc n) fs else fast_from (suc n) fs)
    by true rest = (ap (λ (i : ℕ). slice_get all i) (omega arith) ∙ at 0 f refl, rest)
    by false rest = rest

pub fast_there : (s : Schema) → AllByRecursion (λ f. slice_get s.fields f.number ≡ Some f.field) (fast_fields s)
fast_there s = fast_at s.fields 0 s.fields (λ k f got. ap (λ (i : ℕ). slice_get s.fields i) (omega arith) ∙ got)

-- ---- the columns of some fields are written, and the logs of the others are left

pub record AreWritten (s : Schema) (ds : List Placed) (starts : List ColumnStart) (bytes : List ℕ) (logs : List ColumnLog) : Type 0 where
  pub done : List FastField
  pub left : List FastField
  pub whole : done ++ left ≡ fast_fields s
  pub there : AllByRecursion (λ f. slice_get s.fields f.number ≡ Some f.field) left
  pub columns : AreColumns ds 0 done starts bytes
  pub logs_are : HasColumns ds left logs

pub none_written : (s : Schema) (ds : List Placed) (logs : List ColumnLog) → HasColumns ds (fast_fields s) logs → AreWritten s ds [] [] logs
none_written s ds logs h = record { done = []; left = fast_fields s; whole = refl; there = fast_there s; columns = refl; logs_are = h }

-- the first of the fields that are left
pub record IsNext (s : Schema) (ds : List Placed) (starts : List ColumnStart) (bytes : List ℕ) (log : ColumnLog) (behind : List ColumnLog) : Type 0 where
  pub done : List FastField
  pub f : FastField
  pub left : List FastField
  pub whole : done ++ (f ∷ left) ≡ fast_fields s
  pub at : slice_get s.fields f.number ≡ Some f.field
  pub there : AllByRecursion (λ g. slice_get s.fields g.number ≡ Some g.field) left
  pub columns : AreColumns ds 0 done starts bytes
  pub log_is : HasRows ds f log
  pub logs_are : HasColumns ds left behind

pub next_of : (s : Schema) (ds : List Placed) (starts : List ColumnStart) (bytes : List ℕ) (logs : List ColumnLog) (log : ColumnLog) (behind : List ColumnLog) → logs ≡ log ∷ behind → AreWritten s ds starts bytes logs → IsNext s ds starts bytes log behind
next_of s ds starts bytes logs log behind is w = by w.left w.whole w.there (subst (λ (l : List ColumnLog). HasColumns ds w.left l) is w.logs_are)
  where
    by : (left : List FastField) → w.done ++ left ≡ fast_fields s → AllByRecursion (λ f. slice_get s.fields f.number ≡ Some f.field) left → HasColumns ds left (log ∷ behind) → IsNext s ds starts bytes log behind
    by [] whole there h = absurd h
    by (f ∷ fs) whole there h = record { done = w.done; f = f; left = fs; whole = whole; at = there.0; there = there.1; columns = w.columns; log_is = h.0; logs_are = h.1 }

pub log_within : (s : Schema) (ds : List Placed) (starts : List ColumnStart) (bytes : List ℕ) (log : ColumnLog) (behind : List ColumnLog) → IsNext s ds starts bytes log behind → log.number < length s.fields
log_within s ds starts bytes log behind n = slice_get_within s.fields log.number n.f.field (ap (λ (i : ℕ). slice_get s.fields i) n.log_is.number ∙ n.at)

-- the field that stands at the number of the log is that one
same_field : (s : Schema) (ds : List Placed) (starts : List ColumnStart) (bytes : List ℕ) (log : ColumnLog) (behind : List ColumnLog) (field : Field) (n : IsNext s ds starts bytes log behind) → slice_get s.fields log.number ≡ Some field → n.f.field ≡ field
same_field s ds starts bytes log behind field n got =
    let same : Some n.f.field ≡ Some field = sym n.at ∙ sym (ap (λ (i : ℕ). slice_get s.fields i) n.log_is.number) ∙ got in
    cc

pub can_write : (s : Schema) (ds : List Placed) (starts : List ColumnStart) (bytes : List ℕ) (log : ColumnLog) (behind : List ColumnLog) (field : Field) → AreDocumentsOf s ds → (n : IsNext s ds starts bytes log behind)
    → slice_get s.fields log.number ≡ Some field → CanWrite field.kind log (cells (column_rows n.f.number ds))
can_write s ds starts bytes log behind field are n got =
    let rows = can_encode s n.f.number n.f.field ds n.at are in
    subst (λ (g : Field). CanWrite g.kind log (cells (column_rows n.f.number ds))) (same_field s ds starts bytes log behind field n got)
    (record { document = length ds; cells_are = n.log_is.cells_are; of_kind = rows.of_kind; few = rows.few })

pub written_one : (s : Schema) (ds : List Placed) (starts : List ColumnStart) (bytes : List ℕ) (log : ColumnLog) (behind : List ColumnLog) (field : Field) (more_bytes : List ℕ) (more_starts : List ColumnStart) (n : IsNext s ds starts bytes log behind)
    → slice_get s.fields log.number ≡ Some field → IsPut field.kind (cells (column_rows n.f.number ds)) bytes more_bytes → more_starts ≡ starts ++ record { number = log.number; start = length bytes } ∷ [] → AreWritten s ds more_starts more_bytes behind
written_one s ds starts bytes log behind field more_bytes more_starts n got put starts_are =
    let same = same_field s ds starts bytes log behind field n got in
    let here : IsColumn n.f.field.kind put.column (column_rows n.f.number ds) = subst (λ (g : Field). IsColumn g.kind put.column (column_rows n.f.number ds)) (sym same) (put.is_column (column_rows n.f.number ds) refl) in
    let more = columns_more ds 0 n.done starts bytes n.f put.column n.columns here in
    let first : 0 + length bytes ≡ length bytes = omega arith in
    let starts_same : starts ++ record { number = n.f.number; start = 0 + length bytes } ∷ [] ≡ more_starts =
    ap (λ (i : ℕ). starts ++ record { number = n.f.number; start = i } ∷ []) first ∙ ap (λ (i : ℕ). starts ++ record { number = i; start = length bytes } ∷ []) (sym n.log_is.number) ∙ sym starts_are in
    record {
      done = n.done ++ n.f ∷ [];
      left = n.left;
      whole = append_assoc n.done (n.f ∷ []) n.left ∙ n.whole;
      there = n.there;
      columns = subst (λ (l : List ℕ). AreColumns ds 0 (n.done ++ n.f ∷ []) more_starts l) (sym put.after_is) (subst (λ (cs : List ColumnStart). AreColumns ds 0 (n.done ++ n.f ∷ []) cs (bytes ++ put.column)) starts_same more);
      logs_are = n.logs_are;
    }

pub all_written : (s : Schema) (ds : List Placed) (starts : List ColumnStart) (bytes : List ℕ) (logs : List ColumnLog) → logs ≡ [] → AreWritten s ds starts bytes logs → AreColumns ds 0 (fast_fields s) starts bytes
all_written s ds starts bytes logs none w = by w.left w.whole (subst (λ (l : List ColumnLog). HasColumns ds w.left l) none w.logs_are)
  where
    by : (left : List FastField) → w.done ++ left ≡ fast_fields s → HasColumns ds left [] → AreColumns ds 0 (fast_fields s) starts bytes
    by [] whole h = subst (λ (fs : List FastField). AreColumns ds 0 fs starts bytes) (sym (append-nil w.done) ∙ whole) w.columns
    by (f ∷ fs) whole h = absurd h

-- ---- a field more

pub fast_yes : (n m : ℕ) (f : Field) (rest fs : List Field) → rest ≡ f ∷ fs → f.fast ≡ true → m ≡ suc n → fast_from n rest ≡ (record { number = n; field = f } ∷ []) ++ fast_from m fs
fast_yes n m f rest fs is on next =
    ap (λ (l : List Field). fast_from n l) is ∙ ap (λ (b : Bool). if b then record { number = n; field = f } ∷ fast_from (suc n) fs else fast_from (suc n) fs) on
    ∙ ap (λ (k : ℕ). let first : FastField = record { number = n; field = f } in first ∷ fast_from k fs) (sym next)

pub fast_no : (n m : ℕ) (f : Field) (rest fs : List Field) → rest ≡ f ∷ fs → f.fast ≡ false → m ≡ suc n → fast_from n rest ≡ [] ++ fast_from m fs
fast_no n m f rest fs is off next =
    ap (λ (l : List Field). fast_from n l) is ∙ ap (λ (b : Bool). if b then record { number = n; field = f } ∷ fast_from (suc n) fs else fast_from (suc n) fs) off
    ∙ ap (λ (k : ℕ). fast_from k fs) (sym next)
