-- Values of a field as they are taken: their entries, and the texts in the order of first sight.
use Rattle.std.proofs.Common.{◌≡◌, ℕ, zero, suc, ◌<◌, ◌≤◌, ◌^◌, Bool, true, false, List, [], ◌∷◌, ◌++◌, map, length, get_or, refl, sym, ◌∙◌, ap, subst, arith, append_assoc, length-append, inl}
use Rattle.std.specs.Prelude.{slice_get, position, Some, IsUtf8, Contains, All}
use Rattle.std.specs.List.{AllByRecursion, AllZip}
use Rattle.std.proofs.lemmas.List.{append-nil, length-map, map_push}
use Rattle.std.proofs.lemmas.List.Quantifiers.{position-Some}
use Rattle.std.proofs.lemmas.Option.{slice_get_within, slice_get-get_or}
use Rattle.doc_value.specs.declared.schema.Kind.{Kind}
use Rattle.doc_value.specs.declared.schema.Kind.TheVariants as kinds
use Rattle.doc_value.specs.declared.doc.Value.{Value}
use Rattle.doc_value.specs.declared.doc.Value.TheVariants as values
use Rattle.doc_value.specs.declared.doc.DocField.{DocField}
use Rattle.doc_value.specs.Documents.{IsOfKind, values_in}
use Rattle.fast_fields.specs.declared.entries.Entry.{Entry}
use Rattle.fast_fields.specs.declared.rows.ColumnRow.{ColumnRow}
use Rattle.fast_fields.specs.Columns.{AreEntries, AreGrown, AreTexts, Cell, DocumentsRise, Fits, IsNumber, IsSpelled, SomeText, cells, cells_of, has_texts}
use Rattle.std.specs.Prelude.{String, string_bytes}
use Rattle.std.specs.Borrow.{Bor}
use Rattle.std.specs.declared.alloc.Global.{Global}
use Rattle.std.proofs.lemmas.List.Elements.{All-from_recursion, Contains-append_right}
use Rattle.fast_fields.specs.Texts.{IsCellText, texts_in}
use Rattle.fast_fields.proofs.Gathered.{no_texts, some_left, some_right}
use Rattle.split_bundle.specs.declared.placed.Placed.{Placed}
use Rattle.split_bundle.specs.Columns.{FastField, column_rows, row_of}
use Rattle.split_build.specs.declared.columns.ColumnLog.{ColumnLog}
use Rattle.split_build.specs.HeldColumns.{CanWrite, HasCells, HasRows, IsNumbered, IsPlaceOf, IsPut, renumbered, texts_of}
use Rattle.std.specs.Prelude.{if◌then◌else◌}
use Rattle.std.specs.List.{list_any}
use Rattle.std.specs.String.{string_eq}
use Rattle.indexmap.specs.IndexSet.{insert_key}
use Rattle.split_build.proofs.SaidLemmas.{eq_same}
use Rattle.split_build.proofs.DocumentLemmas.{get_more}
use Rattle.split_build.proofs.RowLemmas.{column_more}
use Rattle.split_build.proofs.TakenLemmas.{all_push}
use Rattle.split_build.proofs.Zipped.{zip_length}

-- ---- a value more

number_wide : (texts more : List (List ℕ)) (v : Value) (n : ℕ) → IsNumber texts v n → IsNumber (texts ++ more) v n
number_wide texts more (values.Text t) n h = get_more texts more n t h
number_wide texts more (values.I64 z) n h = h
number_wide texts more (values.U64 m) n h = h
number_wide texts more (values.Bool true) n h = h
number_wide texts more (values.Bool false) n h = h
number_wide texts more (values.Datetime z) n h = h

entries_wide : (texts more : List (List ℕ)) (cs : List Cell) (es : List Entry) → AreEntries texts cs es → AreEntries (texts ++ more) cs es
entries_wide texts more [] [] h = h
entries_wide texts more [] (e ∷ es) h = absurd h
entries_wide texts more (c ∷ cs) [] h = absurd h
entries_wide texts more (c ∷ cs) (e ∷ es) h = (h.0, number_wide texts more c.value e.number h.1, entries_wide texts more cs es h.2)

entries_push : (texts : List (List ℕ)) (cs : List Cell) (es : List Entry) (c : Cell) (e : Entry) → AreEntries texts cs es → e.document ≡ c.document → IsNumber texts c.value e.number → AreEntries texts (cs ++ c ∷ []) (es ++ e ∷ [])
entries_push texts [] [] c e h d n = (d, n, tt)
entries_push texts [] (x ∷ xs) c e h d n = absurd h
entries_push texts (k ∷ ks) [] c e h d n = absurd h
entries_push texts (k ∷ ks) (x ∷ xs) c e h d n = (h.0, h.1, entries_push texts ks xs c e h.2 d n)

rise_push : (es : List Entry) (e : Entry) → DocumentsRise es → AllByRecursion (λ f. f.document ≤ e.document) es → DocumentsRise (es ++ e ∷ [])
rise_push [] e h low = (tt, tt)
rise_push (x ∷ xs) e h low = (all_push (λ (f : Entry). x.document ≤ f.document) xs e h.0 low.0, rise_push xs e h.1 low.1)

all_join : (P : List ℕ → Type 0) (xs ys : List (List ℕ)) → AllByRecursion P xs → AllByRecursion P ys → AllByRecursion P (xs ++ ys)
all_join P [] ys h k = k
all_join P (x ∷ xs) ys h k = (h.0, all_join P xs ys h.1 k)

all_to : {X : Type 0} (P Q : X → Type 0) (xs : List X) → ((x : X) → P x → Q x) → AllByRecursion P xs → AllByRecursion Q xs
all_to P Q [] to h = tt
all_to P Q (x ∷ xs) to h = (to x h.0, all_to P Q xs to h.1)

pub cell_more : (texts after : List (List ℕ)) (document n : ℕ) (cs : List Cell) (v : Value) (es next : List Entry) → IsNumbered texts after v n → next ≡ es ++ record { document = document; number = n } ∷ [] → document < 2 ^ 32 → HasCells texts document cs es
    → HasCells after document (cs ++ record { document = document; value = v } ∷ []) next
cell_more texts after document n cs v es next numbered next_is small h =
    let c : Cell = record { document = document; value = v } in
    let e : Entry = record { document = document; number = n } in
    let wide : AreEntries after cs es = subst (λ (ts : List (List ℕ)). AreEntries ts cs es) (sym numbered.after_is) (entries_wide texts numbered.more cs es h.grown.are_entries) in
    record {
      grown = subst (λ (l : List Entry). AreGrown after document (cs ++ record { document = document; value = v } ∷ []) l) (sym next_is) (record {
        are_entries = entries_push after cs es (record { document = document; value = v }) (record { document = document; number = n }) wide refl numbered.number;
        rise = rise_push es (record { document = document; number = n }) h.grown.rise h.grown.not_above;
        not_above = all_push (λ (f : Entry). f.document ≤ document) es (record { document = document; number = n }) h.grown.not_above (omega arith);
        small_documents = all_push (λ (f : Entry). f.document < 2 ^ 32) es (record { document = document; number = n }) h.grown.small_documents small;
        small_numbers = all_push (λ (f : Entry). f.number < 2 ^ 64) es (record { document = document; number = n }) h.grown.small_numbers numbered.small;
      });
      used = subst (λ (ts : List (List ℕ)). AllByRecursion (SomeText (cs ++ record { document = document; value = v } ∷ [])) ts) (sym numbered.after_is)
          (all_join (SomeText (cs ++ record { document = document; value = v } ∷ [])) texts numbered.more
          (all_to (SomeText cs) (SomeText (cs ++ record { document = document; value = v } ∷ [])) texts (λ t s. some_left cs (record { document = document; value = v } ∷ []) t s) h.used)
          (all_to (λ (t : List ℕ). (v ≡ values.Text t) × IsUtf8 t) (SomeText (cs ++ record { document = document; value = v } ∷ [])) numbered.more (λ t s. some_right cs (record { document = document; value = v } ∷ []) t (inl s.0)) numbered.each));
      utf8 = subst (λ (ts : List (List ℕ)). AllByRecursion IsUtf8 ts) (sym numbered.after_is)
          (all_join IsUtf8 texts numbered.more h.utf8 (all_to (λ (t : List ℕ). (v ≡ values.Text t) × IsUtf8 t) IsUtf8 numbered.more (λ t s. s.1) numbered.each));
    }

pub cells_later : (texts : List (List ℕ)) (k m : ℕ) (cs : List Cell) (es : List Entry) → k ≤ m → HasCells texts k cs es → HasCells texts m cs es
cells_later texts k m cs es le h = record {
  grown = record {
    are_entries = h.grown.are_entries;
    rise = h.grown.rise;
    not_above = all_to (λ (f : Entry). f.document ≤ k) (λ (f : Entry). f.document ≤ m) es (λ f low. omega (arith, low, le)) h.grown.not_above;
    small_documents = h.grown.small_documents;
    small_numbers = h.grown.small_numbers;
  };
  used = h.used;
  utf8 = h.utf8;
}

pub no_cells : (texts : List (List ℕ)) (es : List Entry) → texts ≡ [] → es ≡ [] → HasCells texts 0 [] es
no_cells texts es none empty = subst (λ (ts : List (List ℕ)). HasCells ts 0 [] es) (sym none) (subst (λ (l : List Entry). HasCells [] 0 [] l) (sym empty)
    (record { grown = record { are_entries = tt; rise = tt; not_above = tt; small_documents = tt; small_numbers = tt }; used = tt; utf8 = tt }))

-- ---- a document more

cells_row : (rows : List ColumnRow) (k : ℕ) (vs : List Value) → cells (rows ++ row_of k vs) ≡ cells rows ++ cells_of k vs
cells_row [] k [] = refl
cells_row [] k (v ∷ vs) = append-nil (cells_of k (v ∷ vs))
cells_row (r ∷ rs) k vs = ap (λ (l : List Cell). cells_of r.document r.values ++ l) (cells_row rs k vs) ∙ sym (append_assoc (cells_of r.document r.values) (cells rs) (cells_of k vs))

cells_more : (n : ℕ) (ds : List Placed) (d : Placed) → cells (column_rows n (ds ++ d ∷ [])) ≡ cells (column_rows n ds) ++ cells_of (length ds) (values_in d.doc n)
cells_more n ds d = ap (λ (rs : List ColumnRow). cells rs) (column_more n ds d) ∙ cells_row (column_rows n ds) (length ds) (values_in d.doc n)

pub rows_with : (ds : List Placed) (d : Placed) (f : FastField) (old new : ColumnLog) (document : ℕ) (doc : List DocField) → document ≡ length ds → doc ≡ d.doc → new.number ≡ old.number
    → ((cs : List Cell) → HasCells (texts_of old.texts.keys) document cs old.entries.items → HasCells (texts_of new.texts.keys) document (cs ++ cells_of document (values_in doc old.number)) new.entries.items)
    → HasRows ds f old → HasRows (ds ++ d ∷ []) f new
rows_with ds d f old new document doc count doc_is number more h =
    let before : HasCells (texts_of old.texts.keys) document (cells (column_rows f.number ds)) old.entries.items =
    subst (λ (k : ℕ). HasCells (texts_of old.texts.keys) k (cells (column_rows f.number ds)) old.entries.items) (sym count) h.cells_are in
    let same : cells (column_rows f.number ds) ++ cells_of document (values_in doc old.number) ≡ cells (column_rows f.number (ds ++ d ∷ [])) =
    ap (λ (k : ℕ). cells (column_rows f.number ds) ++ cells_of k (values_in doc old.number)) count ∙ ap (λ (x : List DocField). cells (column_rows f.number ds) ++ cells_of (length ds) (values_in x old.number)) doc_is
    ∙ ap (λ (n : ℕ). cells (column_rows f.number ds) ++ cells_of (length ds) (values_in d.doc n)) h.number ∙ sym (cells_more f.number ds d) in
    let after : HasCells (texts_of new.texts.keys) document (cells (column_rows f.number (ds ++ d ∷ []))) new.entries.items =
    subst (λ (cs : List Cell). HasCells (texts_of new.texts.keys) document cs new.entries.items) same (more (cells (column_rows f.number ds)) before) in
    record {
      number = number ∙ h.number;
      cells_are = cells_later (texts_of new.texts.keys) document (length (ds ++ d ∷ [])) (cells (column_rows f.number (ds ++ d ∷ []))) new.entries.items (omega (arith, count, length-append ds (d ∷ []))) after;
    }

-- ---- the column

entries_long : (texts : List (List ℕ)) (cs : List Cell) (es : List Entry) → AreEntries texts cs es → length es ≡ length cs
entries_long texts [] [] h = refl
entries_long texts [] (e ∷ es) h = absurd h
entries_long texts (c ∷ cs) [] h = absurd h
entries_long texts (c ∷ cs) (e ∷ es) h = ap suc (entries_long texts cs es h.2)

pub fit : (texts : List (List ℕ)) (document : ℕ) (cs : List Cell) (es : List Entry) → length cs < 2 ^ 32 → HasCells texts document cs es → Fits es
fit texts document cs es few h = record {
  few = omega (arith, few, entries_long texts cs es h.grown.are_entries);
  rise = h.grown.rise;
  small_documents = h.grown.small_documents;
  small_numbers = h.grown.small_numbers;
}

-- numbers of no texts ask for none
number_plain : (kind : Kind) (texts : List (List ℕ)) (v : Value) (n : ℕ) → has_texts kind ≡ false → IsOfKind kind v → IsNumber texts v n → IsNumber [] v n
number_plain kinds.Text texts v n e of_kind h = absurd (cc)
number_plain kinds.TextList texts v n e of_kind h = absurd (cc)
number_plain kinds.I64 texts (values.Text t) n e of_kind h = absurd of_kind
number_plain kinds.U64 texts (values.Text t) n e of_kind h = absurd of_kind
number_plain kinds.Bool texts (values.Text t) n e of_kind h = absurd of_kind
number_plain kinds.Datetime texts (values.Text t) n e of_kind h = absurd of_kind
number_plain kind texts (values.I64 z) n e of_kind h = h
number_plain kind texts (values.U64 m) n e of_kind h = h
number_plain kind texts (values.Bool true) n e of_kind h = h
number_plain kind texts (values.Bool false) n e of_kind h = h
number_plain kind texts (values.Datetime z) n e of_kind h = h

entries_plain : (kind : Kind) (texts : List (List ℕ)) (cs : List Cell) (es : List Entry) → has_texts kind ≡ false → AllByRecursion (λ c. IsOfKind kind c.value) cs → AreEntries texts cs es → AreEntries [] cs es
entries_plain kind texts [] [] e of_kind h = tt
entries_plain kind texts [] (x ∷ xs) e of_kind h = absurd h
entries_plain kind texts (c ∷ cs) [] e of_kind h = absurd h
entries_plain kind texts (c ∷ cs) (x ∷ xs) e of_kind h = (h.0, number_plain kind texts c.value x.number e of_kind.0 h.1, entries_plain kind texts cs xs e of_kind.1 h.2)

pub put_plain : (kind : Kind) (l : ColumnLog) (cs : List Cell) (before after column : List ℕ) → has_texts kind ≡ false → CanWrite kind l cs → after ≡ before ++ column → IsSpelled (has_texts kind) [] l.entries.items column → IsPut kind cs before after
put_plain kind l cs before after column plain can is spelled = record {
  column = column;
  after_is = is;
  is_column = λ rows same. record {
    texts = [];
    entries = l.entries.items;
    are_texts = no_texts (cells rows);
    few_texts = omega arith;
    no_texts = λ _. refl;
    are_entries = subst (λ (xs : List Cell). AreEntries [] xs l.entries.items) (sym same) (entries_plain kind (texts_of l.texts.keys) cs l.entries.items plain can.of_kind can.cells_are.grown.are_entries);
    fits = fit (texts_of l.texts.keys) can.document cs l.entries.items can.few can.cells_are;
    spelled = spelled;
  };
}

-- a text's entry in the order of the texts
place_again : (sorted names : List (List ℕ)) (os : List ℕ) (n : ℕ) (t : List ℕ) → AllZip (IsPlaceOf sorted) names os → slice_get names n ≡ Some t → slice_get sorted (get_or os n 0) ≡ Some t
place_again sorted [] os n t h e = absurd cc
place_again sorted (x ∷ xs) [] n t h e = absurd h
place_again sorted (x ∷ xs) (o ∷ os) zero t h e = h.0 ∙ e
place_again sorted (x ∷ xs) (o ∷ os) (suc n) t h e = place_again sorted xs os n t h.1 e

number_again : (kind : Kind) (sorted names : List (List ℕ)) (os : List ℕ) (v : Value) (n : ℕ) → has_texts kind ≡ true → IsOfKind kind v → AllZip (IsPlaceOf sorted) names os → IsNumber names v n → IsNumber sorted v (get_or os n 0) × (n < length os)
number_again kind sorted names os (values.Text t) n e of_kind zip h = (place_again sorted names os n t zip h, omega (arith, slice_get_within names n t h, zip_length (IsPlaceOf sorted) names os zip))
number_again kinds.Text sorted names os (values.I64 z) n e of_kind zip h = absurd of_kind
number_again kinds.Text sorted names os (values.U64 z) n e of_kind zip h = absurd of_kind
number_again kinds.Text sorted names os (values.Bool z) n e of_kind zip h = absurd of_kind
number_again kinds.Text sorted names os (values.Datetime z) n e of_kind zip h = absurd of_kind
number_again kinds.TextList sorted names os (values.I64 z) n e of_kind zip h = absurd of_kind
number_again kinds.TextList sorted names os (values.U64 z) n e of_kind zip h = absurd of_kind
number_again kinds.TextList sorted names os (values.Bool z) n e of_kind zip h = absurd of_kind
number_again kinds.TextList sorted names os (values.Datetime z) n e of_kind zip h = absurd of_kind
number_again kinds.I64 sorted names os v n e of_kind zip h = absurd (cc)
number_again kinds.U64 sorted names os v n e of_kind zip h = absurd (cc)
number_again kinds.Bool sorted names os v n e of_kind zip h = absurd (cc)
number_again kinds.Datetime sorted names os v n e of_kind zip h = absurd (cc)

entries_again : (kind : Kind) (sorted names : List (List ℕ)) (os : List ℕ) (cs : List Cell) (es : List Entry) → has_texts kind ≡ true → AllByRecursion (λ c. IsOfKind kind c.value) cs → AllZip (IsPlaceOf sorted) names os → AreEntries names cs es
    → AreEntries sorted cs (map (renumbered os) es) × AllByRecursion (λ e. e.number < length os) es
entries_again kind sorted names os [] [] e of_kind zip h = (tt, tt)
entries_again kind sorted names os [] (x ∷ xs) e of_kind zip h = absurd h
entries_again kind sorted names os (c ∷ cs) [] e of_kind zip h = absurd h
entries_again kind sorted names os (c ∷ cs) (x ∷ xs) e of_kind zip h =
    let here = number_again kind sorted names os c.value x.number e of_kind.0 zip h.1 in
    let later = entries_again kind sorted names os cs xs e of_kind.1 zip h.2 in
    ((h.0, here.0, later.0), (here.1, later.1))

pub numbers_within : (kind : Kind) (sorted : List (List ℕ)) (l : ColumnLog) (os : List ℕ) (cs : List Cell) → has_texts kind ≡ true → CanWrite kind l cs → AllZip (IsPlaceOf sorted) (texts_of l.texts.keys) os → AllByRecursion (λ e. e.number < length os) l.entries.items
numbers_within kind sorted l os cs texted can zip = (entries_again kind sorted (texts_of l.texts.keys) os cs l.entries.items texted can.of_kind zip can.cells_are.grown.are_entries).1

map_rise : (os : List ℕ) (es : List Entry) → DocumentsRise es → DocumentsRise (map (renumbered os) es)
map_rise os [] h = tt
map_rise os (e ∷ es) h = (map_all es h.0, map_rise os es h.1)
  where
    map_all : (xs : List Entry) → AllByRecursion (λ f. e.document ≤ f.document) xs → AllByRecursion (λ f. e.document ≤ f.document) (map (renumbered os) xs)
    map_all [] k = tt
    map_all (x ∷ xs) k = (k.0, map_all xs k.1)

map_documents : (os : List ℕ) (es : List Entry) → AllByRecursion (λ e. e.document < 2 ^ 32) es → AllByRecursion (λ e. e.document < 2 ^ 32) (map (renumbered os) es)
map_documents os [] h = tt
map_documents os (e ∷ es) h = (h.0, map_documents os es h.1)

pub fit_again : (l : ColumnLog) (kind : Kind) (cs : List Cell) (os : List ℕ) (es : List Entry) → CanWrite kind l cs → es ≡ map (renumbered os) l.entries.items → AllByRecursion (λ e. e.number < 2 ^ 64) es → Fits es
fit_again l kind cs os es can is small =
    let before = fit (texts_of l.texts.keys) can.document cs l.entries.items can.few can.cells_are in
    record {
      few = omega (arith, before.few, ap (λ (x : List Entry). length x) is, length-map l.entries.items (renumbered os));
      rise = subst (λ (x : List Entry). DocumentsRise x) (sym is) (map_rise os l.entries.items before.rise);
      small_documents = subst (λ (x : List Entry). AllByRecursion (λ e. e.document < 2 ^ 32) x) (sym is) (map_documents os l.entries.items before.small_documents);
      small_numbers = small;
    }

pub put_texted : (kind : Kind) (l : ColumnLog) (cs : List Cell) (texts : List (List ℕ)) (os : List ℕ) (es : List Entry) (before after column : List ℕ) → has_texts kind ≡ true → CanWrite kind l cs → AreTexts cs texts → length texts < 2 ^ 64
    → AllZip (IsPlaceOf texts) (texts_of l.texts.keys) os → es ≡ map (renumbered os) l.entries.items → Fits es → after ≡ before ++ column → IsSpelled (has_texts kind) texts es column → IsPut kind cs before after
put_texted kind l cs texts os es before after column texted can are few zip es_are fits is spelled = record {
  column = column;
  after_is = is;
  is_column = λ rows same. record {
    texts = texts;
    entries = es;
    are_texts = subst (λ (xs : List Cell). AreTexts xs texts) (sym same) are;
    few_texts = few;
    no_texts = λ plain. let wrong : true ≡ false = sym texted ∙ plain in absurd cc;
    are_entries = subst (λ (xs : List Cell). AreEntries texts xs es) (sym same) (subst (λ (x : List Entry). AreEntries texts cs x) (sym es_are)
        (entries_again kind texts (texts_of l.texts.keys) os cs l.entries.items texted can.of_kind zip can.cells_are.grown.are_entries).0);
    fits = fits;
    spelled = spelled;
  };
}

-- ---- texts that are lent

pub name_more : (xs : List (Bor (List ℕ))) (b : Bor (List ℕ)) (next : List (Bor (List ℕ))) (name : String Global) (rest behind names : List (String Global)) → next ≡ xs ++ b ∷ [] → b.now ≡ string_bytes name → rest ≡ name ∷ behind
    → texts_in xs ++ texts_of rest ≡ texts_of names → texts_in next ++ texts_of behind ≡ texts_of names
name_more xs b next name rest behind names next_is text is h =
    ap (λ (l : List (Bor (List ℕ))). texts_in l ++ texts_of behind) next_is ∙ ap (λ (l : List (List ℕ)). l ++ texts_of behind) (map_push (λ (d : Bor (List ℕ)). d.now) xs b)
    ∙ append_assoc (texts_in xs) (b.now ∷ []) (texts_of behind) ∙ ap (λ (t : List ℕ). texts_in xs ++ (t ∷ texts_of behind)) text ∙ ap (λ (l : List (String Global)). texts_in xs ++ texts_of l) (sym is) ∙ h

cell_texts : (cs : List Cell) (xs : List (Bor (List ℕ))) → AllByRecursion (SomeText cs) (texts_in xs) → AllByRecursion IsUtf8 (texts_in xs) → AllByRecursion (IsCellText cs) xs
cell_texts cs [] some utf8 = tt
cell_texts cs (x ∷ xs) some utf8 = (record { some = some.0; utf8 = utf8.0 }, cell_texts cs xs some.1 utf8.1)

pub are_cell_texts : (cs : List Cell) (xs : List (Bor (List ℕ))) (names : List (List ℕ)) → texts_in xs ≡ names → AllByRecursion (SomeText cs) names → AllByRecursion IsUtf8 names → All (IsCellText cs) xs
are_cell_texts cs xs names is some utf8 =
    All-from_recursion (IsCellText cs) xs (cell_texts cs xs (subst (λ (l : List (List ℕ)). AllByRecursion (SomeText cs) l) (sym is) some) (subst (λ (l : List (List ℕ)). AllByRecursion IsUtf8 l) (sym is) utf8))

pub contains_next : (done : List (List ℕ)) (t : List ℕ) (ts all : List (List ℕ)) → done ++ (t ∷ ts) ≡ all → Contains all t
contains_next done t ts all is = subst (λ (l : List (List ℕ)). Contains l t) is (Contains-append_right done (t ∷ ts) t (0, omega arith, refl))

-- ---- a text among those seen

texts_push : (ks : List (String Global)) (k : String Global) → texts_of (ks ++ k ∷ []) ≡ texts_of ks ++ string_bytes k ∷ []
texts_push ks k = map_push (λ (s : String Global). string_bytes s) ks k

pub texts_inserted : (old new : List (String Global)) (k : String Global) (t : List ℕ) → string_bytes k ≡ t → new ≡ insert_key string_eq old k → (more : List (List ℕ)) × (texts_of new ≡ texts_of old ++ more) × AllByRecursion (λ m. m ≡ t) more
texts_inserted old new k t text is = by (list_any (string_eq k) old) refl
  where
    by : (b : Bool) → list_any (string_eq k) old ≡ b → (more : List (List ℕ)) × (texts_of new ≡ texts_of old ++ more) × AllByRecursion (λ m. m ≡ t) more
    by true there = ([], ap texts_of (is ∙ ap (λ (b : Bool). if b then old else old ++ k ∷ []) there) ∙ sym (append-nil (texts_of old)), tt)
    by false there = (t ∷ [], ap texts_of (is ∙ ap (λ (b : Bool). if b then old else old ++ k ∷ []) there) ∙ texts_push old k ∙ ap (λ (m : List ℕ). texts_of old ++ m ∷ []) text, (refl, tt))

get_text : (ks : List (String Global)) (n : ℕ) (k : String Global) → slice_get ks n ≡ Some k → slice_get (texts_of ks) n ≡ Some (string_bytes k)
get_text [] n k e = absurd cc
get_text (x ∷ xs) zero k e = let same : x ≡ k = cc in ap (λ (s : String Global). Some (string_bytes s)) same
get_text (x ∷ xs) (suc n) k e = get_text xs n k e

pub text_stored : (ks : List (String Global)) (k other : String Global) (t : List ℕ) (n : ℕ) → string_bytes k ≡ t → slice_get ks n ≡ Some other → string_eq k other ≡ true → slice_get (texts_of ks) n ≡ Some t
text_stored ks k other t n text at same = get_text ks n other at ∙ ap (λ (m : List ℕ). Some m) (sym (eq_same (string_bytes k) (string_bytes other) same) ∙ text)

found_by : (test : String Global → Bool) (ks : List (String Global)) (t : List ℕ) (n : ℕ) (d : String Global) → ((k : String Global) → test k ≡ true → t ≡ string_bytes k) → position test ks ≡ Some n → slice_get (texts_of ks) n ≡ Some t
found_by test ks t n d same is =
    let there = position-Some test ks n d is in
    get_text ks n (get_or ks n d) (slice_get-get_or ks n d there.0) ∙ ap (λ (m : List ℕ). Some m) (sym (same (get_or ks n d) there.1))

-- the place that a text has among some
pub text_found : (test : String Global → Bool) (ks : List (String Global)) (t : List ℕ) (n : ℕ) → ((k : String Global) → test k ≡ true → t ≡ string_bytes k) → position test ks ≡ Some n → slice_get (texts_of ks) n ≡ Some t
text_found test [] t n same is = absurd cc
text_found test (k ∷ ks) t n same is = found_by test (k ∷ ks) t n k same is

pub numbered_text : (before after more : List (List ℕ)) (v : Value) (t : List ℕ) (n : ℕ) → v ≡ values.Text t → IsUtf8 t → after ≡ before ++ more → AllByRecursion (λ m. m ≡ t) more → slice_get after n ≡ Some t → n < 2 ^ 64 → IsNumbered before after v n
numbered_text before after more v t n is utf8 grown same at small = record {
  more = more;
  after_is = grown;
  each = all_to (λ (m : List ℕ). m ≡ t) (λ (m : List ℕ). (v ≡ values.Text m) × IsUtf8 m) more (λ m e. (is ∙ ap (λ (x : List ℕ). values.Text x) (sym e), subst (λ (x : List ℕ). IsUtf8 x) (sym e) utf8)) same;
  number = subst (λ (x : Value). IsNumber after x n) (sym is) at;
  small = small;
}
