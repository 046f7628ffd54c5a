-- Entries that are added document by document.
use Rattle.std.proofs.Common.{◌≡◌, ℕ, ◌<◌, ◌≤◌, ◌^◌, List, [], ◌∷◌, ◌++◌, length, refl, sym, ◌∙◌, ◌+◌, ap, subst, arith, append_assoc, length-append}
use Rattle.std.specs.List.{AllByRecursion}
use Rattle.std.proofs.lemmas.List.{append-nil}
use Rattle.doc_value.specs.declared.doc.Value.{Value}
use Rattle.fast_fields.specs.Columns.{Cell, cells, cells_of, IsNumber, AreEntries, DocumentsRise, RowsRise, Fits, AreGrown}
use Rattle.fast_fields.specs.declared.rows.ColumnRow.{ColumnRow}
use Rattle.fast_fields.specs.declared.entries.Entry.{Entry}

all_push : (P : Entry → Type 0) (es : List Entry) (e : Entry) → AllByRecursion P es → P e → AllByRecursion P (es ++ e ∷ [])
all_push P [] e h p = (p, tt)
all_push P (x ∷ xs) e h p = (h.0, all_push P xs e h.1 p)

entries_push : (texts : List (List ℕ)) (cs : List Cell) (es : List Entry) (c : Cell) (e : Entry) → AreEntries texts cs es → e.document ≡ c.document → IsNumber texts c.value e.number → AreEntries texts (cs ++ c ∷ []) (es ++ e ∷ [])
entries_push texts [] [] c e h d n = (d, n, tt)
entries_push texts [] (x ∷ xs) c e h d n = absurd h
entries_push texts (k ∷ ks) [] c e h d n = absurd h
entries_push texts (k ∷ ks) (x ∷ xs) c e h d n = (h.0, h.1, entries_push texts ks xs c e h.2 d n)

rise_push : (es : List Entry) (e : Entry) → DocumentsRise es → AllByRecursion (λ f. f.document ≤ e.document) es → DocumentsRise (es ++ e ∷ [])
rise_push [] e h low = (tt, tt)
rise_push (x ∷ xs) e h low = (all_push (λ (f : Entry). x.document ≤ f.document) xs e h.0 low.0, rise_push xs e h.1 low.1)

-- some of a document's values were added, and the rest completes them
pub record AddsValues (texts : List (List ℕ)) (document : ℕ) (done : List Cell) (rest all : List Value) (es : List Entry) : Type 0 where
  pub front : List Cell
  pub whole : front ++ cells_of document rest ≡ cells_of document all
  pub grown : AreGrown texts document (done ++ front) es

pub no_values : (texts : List (List ℕ)) (document : ℕ) (done : List Cell) (all : List Value) (es : List Entry) → AreGrown texts document done es → AddsValues texts document done all all es
no_values texts document done all es h = record { front = []; whole = refl; grown = subst (λ (l : List Cell). AreGrown texts document l es) (sym (append-nil done)) h }

pub one_value : (texts : List (List ℕ)) (document number : ℕ) (done : List Cell) (v : Value) (rest vs all : List Value) (es next : List Entry) → rest ≡ v ∷ vs → AddsValues texts document done rest all es
    → next ≡ es ++ record { document = document; number = number } ∷ [] → IsNumber texts v number → document < 2 ^ 32 → number < 2 ^ 64 → AddsValues texts document done vs all next
one_value texts document number done v rest vs all es next is h next_is number_is small_document small_number =
    let g = h.grown in
    let cell : Cell = record { document = document; value = v } in
    let e : Entry = record { document = document; number = number } in
    record {
      front = h.front ++ record { document = document; value = v } ∷ [];
      whole = append_assoc h.front (record { document = document; value = v } ∷ []) (cells_of document vs) ∙ ap (λ (l : List Value). h.front ++ cells_of document l) (sym is) ∙ h.whole;
      grown = subst (λ (l : List Cell). AreGrown texts document l next) (append_assoc done h.front (record { document = document; value = v } ∷ []))
          (subst (λ (l : List Entry). AreGrown texts document ((done ++ h.front) ++ record { document = document; value = v } ∷ []) l) (sym next_is) (record {
            are_entries = entries_push texts (done ++ h.front) es (record { document = document; value = v }) (record { document = document; number = number }) g.are_entries refl number_is;
            rise = rise_push es (record { document = document; number = number }) g.rise g.not_above;
            not_above = all_push (λ (f : Entry). f.document ≤ document) es (record { document = document; number = number }) g.not_above (omega arith);
            small_documents = all_push (λ (f : Entry). f.document < 2 ^ 32) es (record { document = document; number = number }) g.small_documents small_document;
            small_numbers = all_push (λ (f : Entry). f.number < 2 ^ 64) es (record { document = document; number = number }) g.small_numbers small_number;
          }));
    }

pub all_values : (texts : List (List ℕ)) (document : ℕ) (done : List Cell) (rest all : List Value) (es : List Entry) → rest ≡ [] → AddsValues texts document done rest all es → AreGrown texts document (done ++ cells_of document all) es
all_values texts document done rest all es is h =
    let whole : h.front ≡ cells_of document all = sym (append-nil h.front) ∙ ap (λ (l : List Value). h.front ++ cells_of document l) (sym is) ∙ h.whole in
    subst (λ (l : List Cell). AreGrown texts document (done ++ l) es) whole h.grown

cells_count : (document : ℕ) (vs : List Value) → length (cells_of document vs) ≡ length vs
cells_count document [] = refl
cells_count document (v ∷ vs) = omega (arith, cells_count document vs)

-- how many cells a row and those behind it have
pub row_count : (r : ColumnRow) (rest rs : List ColumnRow) → rest ≡ r ∷ rs → length (cells rest) ≡ length r.values + length (cells rs)
row_count r rest rs is =
    ap (λ (l : List ColumnRow). length (cells l)) is ∙ length-append (cells_of r.document r.values) (cells rs) ∙ ap (λ (n : ℕ). n + length (cells rs)) (cells_count r.document r.values)

pub no_cells : (rest : List ColumnRow) → length rest ≡ 0 → length (cells rest) ≡ 0
no_cells [] none = refl
no_cells (r ∷ rs) none = absurd (omega arith)

-- some of the rows were added, and the rest completes them
pub record AddsRows (texts : List (List ℕ)) (rest all : List ColumnRow) (es : List Entry) : Type 0 where
  pub front : List Cell
  pub whole : front ++ cells rest ≡ cells all
  pub are_entries : AreEntries texts front es
  pub rise : DocumentsRise es
  pub not_above : AllByRecursion (λ r. AllByRecursion (λ e. e.document ≤ r.document) es) rest
  pub small_documents : AllByRecursion (λ e. e.document < 2 ^ 32) es
  pub small_numbers : AllByRecursion (λ e. e.number < 2 ^ 64) es
  pub rows_rise : RowsRise rest

nothing_above : (rows : List ColumnRow) → AllByRecursion (λ r. AllByRecursion {X = Entry} (λ e. e.document ≤ r.document) []) rows
nothing_above [] = tt
nothing_above (r ∷ rs) = (tt, nothing_above rs)

pub no_rows : (texts : List (List ℕ)) (all : List ColumnRow) → RowsRise all → AddsRows texts all all []
no_rows texts all h = record { front = []; whole = refl; are_entries = tt; rise = tt; not_above = nothing_above all; small_documents = tt; small_numbers = tt; rows_rise = h }

wider : (es : List Entry) (m n : ℕ) → m ≤ n → AllByRecursion (λ e. e.document ≤ m) es → AllByRecursion (λ e. e.document ≤ n) es
wider [] m n le h = tt
wider (e ∷ es) m n le h = (omega (arith, h.0), wider es m n le h.1)

above_each : (es : List Entry) (m : ℕ) (rows : List ColumnRow) → AllByRecursion (λ e. e.document ≤ m) es → AllByRecursion (λ r. m < r.document) rows → AllByRecursion (λ r. AllByRecursion (λ e. e.document ≤ r.document) es) rows
above_each es m [] h lt = tt
above_each es m (r ∷ rs) h lt = (wider es m r.document (omega (arith, lt.0)) h, above_each es m rs h lt.1)

-- the entries before a row
pub before_row : (texts : List (List ℕ)) (r : ColumnRow) (rest rs all : List ColumnRow) (es : List Entry) → rest ≡ r ∷ rs → (h : AddsRows texts rest all es) → AreGrown texts r.document h.front es
before_row texts r rest rs all es is h =
    let above : AllByRecursion (λ q. AllByRecursion (λ e. e.document ≤ q.document) es) (r ∷ rs) = subst (λ (l : List ColumnRow). AllByRecursion (λ q. AllByRecursion (λ e. e.document ≤ q.document) es) l) is h.not_above in
    record { are_entries = h.are_entries; rise = h.rise; not_above = above.0; small_documents = h.small_documents; small_numbers = h.small_numbers }

pub one_row : (texts : List (List ℕ)) (r : ColumnRow) (rest rs all : List ColumnRow) (es next : List Entry) → rest ≡ r ∷ rs → (h : AddsRows texts rest all es)
    → AreGrown texts r.document (h.front ++ cells_of r.document r.values) next → AddsRows texts rs all next
one_row texts r rest rs all es next is h g =
    let rising : RowsRise (r ∷ rs) = subst (λ (l : List ColumnRow). RowsRise l) is h.rows_rise in
    record {
      front = h.front ++ cells_of r.document r.values;
      whole = append_assoc h.front (cells_of r.document r.values) (cells rs) ∙ ap (λ (l : List ColumnRow). h.front ++ cells l) (sym is) ∙ h.whole;
      are_entries = g.are_entries;
      rise = g.rise;
      not_above = above_each next r.document rs g.not_above rising.0;
      small_documents = g.small_documents;
      small_numbers = g.small_numbers;
      rows_rise = rising.1;
    }

entries_count : (texts : List (List ℕ)) (cs : List Cell) (es : List Entry) → AreEntries texts cs es → length es ≡ length cs
entries_count texts [] [] h = refl
entries_count texts [] (x ∷ xs) h = absurd h
entries_count texts (k ∷ ks) [] h = absurd h
entries_count texts (k ∷ ks) (x ∷ xs) h = omega (arith, entries_count texts ks xs h.2)

pub all_rows : (texts : List (List ℕ)) (rest all : List ColumnRow) (es : List Entry) → rest ≡ [] → length (cells all) < 2 ^ 32 → AddsRows texts rest all es → AreEntries texts (cells all) es × Fits es
all_rows texts rest all es is few h =
    let whole : h.front ≡ cells all = sym (append-nil h.front) ∙ ap (λ (l : List ColumnRow). h.front ++ cells l) (sym is) ∙ h.whole in
    let entries : AreEntries texts (cells all) es = subst (λ (l : List Cell). AreEntries texts l es) whole h.are_entries in
    (entries, record { few = omega (arith, entries_count texts (cells all) es entries); rise = h.rise; small_documents = h.small_documents; small_numbers = h.small_numbers })
