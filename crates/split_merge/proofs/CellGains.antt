-- The values of a fast field of documents, of which the last gains one.
use Rattle.std.proofs.Common.{◌≡◌, ℕ, ◌-◌, List, [], ◌∷◌, ◌++◌, length, refl, sym, ap, subst, ◌∙◌, arith, append_assoc, length-append}
use Rattle.std.proofs.lemmas.List.{append-nil, map_push}
use Rattle.doc_value.specs.declared.doc.DocField.{DocField}
use Rattle.doc_value.specs.declared.doc.Value.{Value}
use Rattle.doc_value.specs.Documents.{values_in}
use Rattle.fast_fields.specs.Columns.{Cell, cells, cells_of}
use Rattle.split_bundle.specs.declared.placed.Placed.{Placed}
use Rattle.fast_fields.specs.declared.rows.ColumnRow.{ColumnRow}
use Rattle.split_bundle.specs.Columns.{FastField, column_rows, row_of}
use Rattle.split_build.specs.declared.columns.ColumnLog.{ColumnLog}
use Rattle.split_build.specs.HeldColumns.{HasCells, HasColumns, HasRows, texts_of}
use Rattle.split_build.proofs.CellLemmas.{cells_later}
use Rattle.split_build.proofs.RowLemmas.{column_more}
use Rattle.split_merge.specs.Facts.{HasColumnOf, HaveColumns}
use Rattle.split_merge.specs.Lent.{Gains}

cells_row : (rows : List ColumnRow) (k : ℕ) (vs : List Value) → cells (rows ++ row_of k vs) ≡ cells rows ++ cells_of k vs
cells_row [] k [] = refl
cells_row [] k (v ∷ vs) = append-nil (cells_of k (v ∷ vs))
cells_row (r ∷ rs) k vs = ap (λ (l : List Cell). cells_of r.document r.values ++ l) (cells_row rs k vs) ∙ sym (append_assoc (cells_of r.document r.values) (cells rs) (cells_of k vs))

cells_more : (n : ℕ) (ds : List Placed) (d : Placed) → cells (column_rows n (ds ++ d ∷ [])) ≡ cells (column_rows n ds) ++ cells_of (length ds) (values_in d.doc n)
cells_more n ds d = ap (λ (rs : List ColumnRow). cells rs) (column_more n ds d) ∙ cells_row (column_rows n ds) (length ds) (values_in d.doc n)

last_of : (ds : List Placed) (d : Placed) → length (ds ++ d ∷ []) - 1 ≡ length ds
last_of ds d = omega (arith, length-append ds (d ∷ []))

module _ (number : ℕ) (v : Value) (ds : List Placed) (d e : Placed) (gains : Gains number v d.doc e.doc) where
  cells_gain : (document : ℕ) → document ≡ length ds → cells (column_rows number (ds ++ e ∷ [])) ≡ cells (column_rows number (ds ++ d ∷ [])) ++ record { document = document; value = v } ∷ []
  cells_gain document last =
      let n : ℕ = length ds in
      let c : Cell = record { document = n; value = v } in
      let own : List Cell = cells (column_rows number ds) in
      cells_more number ds e ∙ ap (λ (vs : List Value). own ++ cells_of n vs) gains.here
      ∙ ap (λ (cs : List Cell). own ++ cs) (map_push (λ (w : Value). let x : Cell = record { document = n; value = w } in x) (values_in d.doc number) v)
      ∙ sym (append_assoc own (cells_of n (values_in d.doc number)) (record { document = n; value = v } ∷ []))
      ∙ ap (λ (cs : List Cell). cs ++ record { document = n; value = v } ∷ []) (sym (cells_more number ds d))
      ∙ ap (λ (k : ℕ). cells (column_rows number (ds ++ d ∷ [])) ++ record { document = k; value = v } ∷ []) (sym last)

  pub column_gains : (f : FastField) (old new : ColumnLog) (document : ℕ) → document ≡ length ds → old.number ≡ number → new.number ≡ old.number
      → ((cs : List Cell) → HasCells (texts_of old.texts.keys) document cs old.entries.items → HasCells (texts_of new.texts.keys) document (cs ++ record { document = document; value = v } ∷ []) new.entries.items)
      → HasColumnOf (ds ++ d ∷ []) f old → HasColumnOf (ds ++ e ∷ []) f new
  column_gains f old new document last own still more h =
      let same : f.number ≡ number = sym h.number ∙ own in
      let here : document ≡ length (ds ++ d ∷ []) - 1 = last ∙ sym (last_of ds d) in
      let there : document ≡ length (ds ++ e ∷ []) - 1 = last ∙ sym (last_of ds e) in
      let before : HasCells (texts_of old.texts.keys) document (cells (column_rows number (ds ++ d ∷ []))) old.entries.items =
      subst (λ (k : ℕ). HasCells (texts_of old.texts.keys) k (cells (column_rows number (ds ++ d ∷ []))) old.entries.items) (sym here)
      (subst (λ (n : ℕ). HasCells (texts_of old.texts.keys) (length (ds ++ d ∷ []) - 1) (cells (column_rows n (ds ++ d ∷ []))) old.entries.items) same h.cells_are) in
      let after : HasCells (texts_of new.texts.keys) document (cells (column_rows number (ds ++ e ∷ []))) new.entries.items =
      subst (λ (cs : List Cell). HasCells (texts_of new.texts.keys) document cs new.entries.items) (sym (cells_gain document last)) (more (cells (column_rows number (ds ++ d ∷ []))) before) in
      record {
        number = still ∙ h.number;
        cells_are =
            subst (λ (n : ℕ). HasCells (texts_of new.texts.keys) (length (ds ++ e ∷ []) - 1) (cells (column_rows n (ds ++ e ∷ []))) new.entries.items) (sym same)
            (subst (λ (k : ℕ). HasCells (texts_of new.texts.keys) k (cells (column_rows number (ds ++ e ∷ []))) new.entries.items) there after);
      }

  pub column_stays : (f : FastField) (log : ColumnLog) → (log.number ≡ number → ⊥) → HasColumnOf (ds ++ d ∷ []) f log → HasColumnOf (ds ++ e ∷ []) f log
  column_stays f log apart h =
      let cells_stay : cells (column_rows f.number (ds ++ d ∷ [])) ≡ cells (column_rows f.number (ds ++ e ∷ [])) =
      cells_more f.number ds d ∙ ap (λ (vs : List Value). cells (column_rows f.number ds) ++ cells_of (length ds) vs) (sym (gains.other f.number (λ same. apart (h.number ∙ same)))) ∙ sym (cells_more f.number ds e) in
      let last : length (ds ++ d ∷ []) - 1 ≡ length (ds ++ e ∷ []) - 1 = last_of ds d ∙ sym (last_of ds e) in
      record {
        number = h.number;
        cells_are =
            subst (λ (k : ℕ). HasCells (texts_of log.texts.keys) k (cells (column_rows f.number (ds ++ e ∷ []))) log.entries.items) last
            (subst (λ (cs : List Cell). HasCells (texts_of log.texts.keys) (length (ds ++ d ∷ []) - 1) cs log.entries.items) cells_stay h.cells_are);
      }

-- documents with the same values
module _ (ds : List Placed) (d e : Placed) (same : (n : ℕ) → values_in e.doc n ≡ values_in d.doc n) where
  same_column : (f : FastField) (log : ColumnLog) → HasColumnOf (ds ++ d ∷ []) f log → HasColumnOf (ds ++ e ∷ []) f log
  same_column f log h =
      let cells_stay : cells (column_rows f.number (ds ++ d ∷ [])) ≡ cells (column_rows f.number (ds ++ e ∷ [])) =
      cells_more f.number ds d ∙ ap (λ (vs : List Value). cells (column_rows f.number ds) ++ cells_of (length ds) vs) (sym (same f.number)) ∙ sym (cells_more f.number ds e) in
      let last : length (ds ++ d ∷ []) - 1 ≡ length (ds ++ e ∷ []) - 1 = last_of ds d ∙ sym (last_of ds e) in
      record {
        number = h.number;
        cells_are =
            subst (λ (k : ℕ). HasCells (texts_of log.texts.keys) k (cells (column_rows f.number (ds ++ e ∷ []))) log.entries.items) last
            (subst (λ (cs : List Cell). HasCells (texts_of log.texts.keys) (length (ds ++ d ∷ []) - 1) cs log.entries.items) cells_stay h.cells_are);
      }

  pub same_columns : (fs : List FastField) (logs : List ColumnLog) → HaveColumns (ds ++ d ∷ []) fs logs → HaveColumns (ds ++ e ∷ []) fs logs
  same_columns [] [] h = tt
  same_columns [] (log ∷ logs) h = absurd h
  same_columns (f ∷ fs) [] h = absurd h
  same_columns (f ∷ fs) (log ∷ logs) h = (same_column f log h.0, same_columns fs logs h.1)

-- a document without values
module _ (ds : List Placed) (d : Placed) (none : d.doc ≡ []) where
  none_column : (f : FastField) (log : ColumnLog) → HasColumnOf ds f log → HasColumnOf (ds ++ d ∷ []) f log
  none_column f log h =
      let own : List Cell = cells (column_rows f.number ds) in
      let cells_stay : own ≡ cells (column_rows f.number (ds ++ d ∷ [])) =
      sym (append-nil own) ∙ ap (λ (doc : List DocField). own ++ cells_of (length ds) (values_in doc f.number)) (sym none) ∙ sym (cells_more f.number ds d) in
      record {
        number = h.number;
        cells_are =
            cells_later (texts_of log.texts.keys) (length ds - 1) (length (ds ++ d ∷ []) - 1) (cells (column_rows f.number (ds ++ d ∷ []))) log.entries.items (omega (arith, length-append ds (d ∷ [])))
            (subst (λ (cs : List Cell). HasCells (texts_of log.texts.keys) (length ds - 1) cs log.entries.items) cells_stay h.cells_are);
      }

  pub none_columns : (fs : List FastField) (logs : List ColumnLog) → HaveColumns ds fs logs → HaveColumns (ds ++ d ∷ []) fs logs
  none_columns [] [] h = tt
  none_columns [] (log ∷ logs) h = absurd h
  none_columns (f ∷ fs) [] h = absurd h
  none_columns (f ∷ fs) (log ∷ logs) h = (none_column f log h.0, none_columns fs logs h.1)

-- of no documents
pub first_columns : (fs : List FastField) (logs : List ColumnLog) → HasColumns [] fs logs → HaveColumns [] fs logs
first_columns [] [] h = tt
first_columns [] (log ∷ logs) h = absurd h
first_columns (f ∷ fs) [] h = absurd h
first_columns (f ∷ fs) (log ∷ logs) h = (record { number = h.0.number; cells_are = h.0.cells_are }, first_columns fs logs h.1)

-- where all documents are read
pub all_columns : (ds : List Placed) (fs : List FastField) (logs : List ColumnLog) → HaveColumns ds fs logs → HasColumns ds fs logs
all_columns ds [] [] h = tt
all_columns ds [] (log ∷ logs) h = absurd h
all_columns ds (f ∷ fs) [] h = absurd h
all_columns ds (f ∷ fs) (log ∷ logs) h =
    let here : HasRows ds f log = record { number = h.0.number; cells_are = cells_later (texts_of log.texts.keys) (length ds - 1) (length ds) (cells (column_rows f.number ds)) log.entries.items (omega arith) h.0.cells_are } in
    (here, all_columns ds fs logs h.1)
