-- The documents of a range by the entries of a column.
use Rattle.std.proofs.Common.{◌≡◌, ℕ, zero, suc, ◌+◌, ◌<◌, ◌≤◌, Bool, true, false, ◌&&◌, ◌||◌, List, [], ◌∷◌, ◌++◌, length, drop, get_or, nat_eq, nat_lt, slice_get, if◌then◌else◌, Some, Option, Result, Ok, Err, MatchResult, IfOk, refl, ap, sym, subst, ◌∙◌, arith}
use Rattle.std.specs.List.{AllByRecursion, starts_with}
use Rattle.std.proofs.lemmas.Bool.{eq-eqb, ne_eqb}
use Rattle.std.proofs.lemmas.List.{drop_more}
use Rattle.std.proofs.lemmas.Option.{get_or_from_slice_get, slice_get-get_or}
use Rattle.doc_value.specs.declared.schema.Field.{Field}
use Rattle.doc_value.specs.declared.schema.Kind.{Kind}
use Rattle.doc_value.specs.declared.schema.Kind.TheVariants as kinds
use Rattle.doc_value.specs.declared.schema.Schema.{Schema}
use Rattle.doc_value.specs.declared.doc.DocField.{DocField}
use Rattle.doc_value.specs.declared.doc.Value.{Value}
use Rattle.doc_value.specs.declared.doc.Value.TheVariants as values
use Rattle.doc_value.specs.Documents.{IsOfKind, AreOfKind, IsOfSchema, values_in}
use Rattle.fast_fields.specs.Columns.{Cell, AreEntries, IsNumber, cells, cells_of}
use Rattle.fast_fields.specs.Readers.{IsOf}
use Rattle.fast_fields.specs.declared.column.Column.{Column}
use Rattle.fast_fields.specs.declared.entries.Entry.{Entry}
use Rattle.fast_fields.specs.declared.rows.ColumnRow.{ColumnRow}
use Rattle.term_dict.specs.declared.index.BlockStart.{BlockStart}
use Rattle.query_ast.specs.declared.query.Edge.{Edge}
use Rattle.query_ast.specs.Meaning.{is_above, is_below, between}
use Rattle.query_ast.specs.Queries.{has_order}
use Rattle.split_bundle.specs.Columns.{column_rows, row_of, rows_from}
use Rattle.split_bundle.specs.declared.placed.Placed.{Placed}
use Rattle.split_bundle.specs.declared.part_view.PartView.{PartView}
use Rattle.split_bundle.specs.declared.pieces.FilePiece.{FilePiece}
use Rattle.split_bundle.specs.Files.{Parts}
use Rattle.split_bundle.specs.Lending.{LendsFast}
use Rattle.doc_sets.specs.Bits.{has}
use Rattle.doc_sets.specs.Faults.{LacksPart, IsMemory}
use Rattle.doc_sets.specs.Needed.{IsColumnFor, IsSearched}
use Rattle.doc_sets.specs.Ranged.{begun_blocks, is_of, lies_in, some_is_of}
use Rattle.doc_sets.specs.Sets.{IsSetOf, holds_at}
use Rattle.doc_sets.specs.Values.{AllHave64, EdgeHas64, Has64}
use Rattle.doc_sets.specs.Walks.{range_of, until_of}
use Rattle.doc_sets.specs.declared.bits.DocBits.{DocBits}
use Rattle.doc_sets.specs.declared.leaf_error.LeafError.{LeafError}
use Rattle.doc_sets.specs.declared.leaf_error.LeafError.TheVariants as faults
use Rattle.doc_sets.specs.declared.wanted.NumberRange.{NumberRange}
use Rattle.doc_sets.proofs.Ranges.{above, below, number_of}
use Rattle.doc_sets.proofs.Runs.{all_both}
use Rattle.doc_sets.proofs.Steps.{kinds_in}

-- ---- the blocks behind one

pub block_behind : (prefix : List ℕ) (index : List BlockStart) (number : ℕ) (b : BlockStart) → number < length index → slice_get index number ≡ Some b
    → begun_blocks prefix (drop number index) ≡ (if starts_with nat_eq b.first prefix then 1 else 0) + begun_blocks prefix (drop (number + 1) index)
block_behind prefix index number b lt got =
    ap (λ (l : List BlockStart). begun_blocks prefix l) (drop_more index number b lt ∙ ap (λ (y : BlockStart). y ∷ drop (number + 1) index) (get_or_from_slice_get index number b b got))

-- ---- the entry at a place

pub record EntryAt (es : List Entry) (place : ℕ) : Type 0 where
  pub entry : Entry
  pub here : slice_get es place ≡ Some entry
  pub behind : drop place es ≡ entry ∷ drop (place + 1) es

pub entry_at : (es : List Entry) (place : ℕ) → place < length es → EntryAt es place
entry_at [] place lt = absurd (omega arith)
entry_at (e ∷ es) place lt = record { entry = get_or (e ∷ es) place e; here = slice_get-get_or (e ∷ es) place e lt; behind = drop_more (e ∷ es) place e lt }

pub all_at : (P : Entry → Type 0) (es : List Entry) (place : ℕ) (e : Entry) → AllByRecursion P es → slice_get es place ≡ Some e → P e
all_at P [] place e all got = absurd (cc)
all_at P (f ∷ es) zero e all got = let same : f ≡ e = cc in subst P same all.0
all_at P (f ∷ es) (suc place) e all got = all_at P es place e all.1 got

or_assoc : (a b c : Bool) → (a || b) || c ≡ a || (b || c)
or_assoc true b c = refl
or_assoc false b c = refl

-- one more entry was put
pub entry_put : (r : NumberRange) (k place : ℕ) (es : List Entry) (at : EntryAt es place) (new old all : Bool) → new ≡ old || is_of r k at.entry → old || some_is_of r k (drop place es) ≡ all → new || some_is_of r k (drop (place + 1) es) ≡ all
entry_put r k place es at new old all put before =
    ap (λ b. b || some_is_of r k (drop (place + 1) es)) put
    ∙ (or_assoc old (is_of r k at.entry) (some_is_of r k (drop (place + 1) es))
    ∙ (ap (λ (l : List Entry). old || some_is_of r k l) (sym at.behind) ∙ before))

or_false : (a : Bool) → a || false ≡ a
or_false true = refl
or_false false = refl

past : {X : Type 0} (xs : List X) (n : ℕ) → length xs ≤ n → drop n xs ≡ []
past [] zero le = refl
past [] (suc n) le = refl
past (x ∷ xs) zero le = absurd (omega arith)
past (x ∷ xs) (suc n) le = past xs n (omega arith)

pub all_put : (r : NumberRange) (k place : ℕ) (es : List Entry) (new all : Bool) → length es ≤ place → new || some_is_of r k (drop place es) ≡ all → new ≡ all
all_put r k place es new all le h = sym (ap (λ (l : List Entry). new || some_is_of r k l) (past es place le) ∙ or_false new) ∙ h

-- ---- a value and its entry

number_is : (k : Kind) (texts : List (List ℕ)) (v : Value) (n : ℕ) → has_order k ≡ true → IsOfKind k v → IsNumber texts v n → n ≡ number_of v
number_is kinds.I64 texts (values.I64 z) n ordered of_kind is = is
number_is kinds.U64 texts (values.U64 m) n ordered of_kind is = is
number_is kinds.Datetime texts (values.Datetime z) n ordered of_kind is = is
number_is kinds.I64 texts v n ordered of_kind is = absurd of_kind
number_is kinds.U64 texts v n ordered of_kind is = absurd of_kind
number_is kinds.Datetime texts v n ordered of_kind is = absurd of_kind
number_is kinds.Text texts v n ordered of_kind is = absurd (let x : false ≡ true = ordered in cc)
number_is kinds.TextList texts v n ordered of_kind is = absurd (let x : false ≡ true = ordered in cc)
number_is kinds.Bool texts v n ordered of_kind is = absurd (let x : false ≡ true = ordered in cc)

row_cells : (n : ℕ) (vs : List Value) (rows : List ColumnRow) → cells (row_of n vs ++ rows) ≡ cells_of n vs ++ cells rows
row_cells n [] rows = refl
row_cells n (v ∷ vs) rows = refl

spread : (a b here rest : Bool) → (a && here) || ((b && here) || rest) ≡ ((a || b) && here) || rest
spread true true true rest = refl
spread true true false rest = refl
spread true false true rest = refl
spread true false false rest = refl
spread false true true rest = refl
spread false true false rest = refl
spread false false true rest = refl
spread false false false rest = refl

module _ (kind : Kind) (low high : Edge) (ordered : has_order kind ≡ true) (low_fits : EdgeHas64 low) (high_fits : EdgeHas64 high) (texts : List (List ℕ)) where
  abbrev range : NumberRange
  range = range_of kind low high

  number_lies : (v : Value) → IsOfKind kind v → Has64 v → lies_in range (number_of v) ≡ is_above low v && is_below high v
  number_lies v of_kind fits =
      ap (λ b. b && nat_lt (number_of v) (until_of kind high)) (above kind low v ordered of_kind fits low_fits)
      ∙ ap (λ b. is_above low v && b) (below kind high v ordered of_kind fits high_fits)

  value_entry : (k n : ℕ) (v : Value) (e : Entry) → IsOfKind kind v → Has64 v → e.document ≡ n → IsNumber texts v e.number → is_of range k e ≡ (is_above low v && is_below high v) && nat_eq k n
  value_entry k n v e of_kind fits document number =
      ap (λ m. lies_in range m && nat_eq k e.document) (number_is kind texts v e.number ordered of_kind number)
      ∙ (ap (λ b. b && nat_eq k e.document) (number_lies v of_kind fits) ∙ ap (λ m. (is_above low v && is_below high v) && nat_eq k m) document)

  -- the entries behind those of a document's values
  record Row (n : ℕ) (vs : List Value) (cs : List Cell) (es : List Entry) : Type 0 where
    behind : List Entry
    are : AreEntries texts cs behind
    some : (k : ℕ) → some_is_of range k es ≡ (between low high vs && nat_eq k n) || some_is_of range k behind
    below : (bound : ℕ) → n < bound → AllByRecursion (λ e. e.document < bound) behind → AllByRecursion (λ e. e.document < bound) es

  row : (n : ℕ) (vs : List Value) (cs : List Cell) (es : List Entry) → AreOfKind kind vs → AllHave64 vs → AreEntries texts (cells_of n vs ++ cs) es → Row n vs cs es
  row n [] cs es of_kind fits are = record { behind = es; are = are; some = λ k. refl; below = λ bound lt all. all }
  row n (v ∷ vs) cs [] of_kind fits are = absurd are
  row n (v ∷ vs) cs (e ∷ es) of_kind fits are =
      let rest = row n vs cs es of_kind.1 fits.1 are.2 in
      record {
        behind = rest.behind;
        are = rest.are;
        some = λ k.
            ap (λ b. b || some_is_of range k es) (value_entry k n v e of_kind.0 fits.0 are.0 are.1)
            ∙ (ap (λ b. ((is_above low v && is_below high v) && nat_eq k n) || b) (rest.some k)
            ∙ spread (is_above low v && is_below high v) (between low high vs) (nat_eq k n) (some_is_of range k rest.behind));
        below = λ bound lt all. (subst (λ m. m < bound) (sym are.0) lt, rest.below bound lt all);
      }

  module _ (number : ℕ) where
    abbrev test : List DocField → Bool
    test d = between low high (values_in d number)

    abbrev Known : Placed → Type 0
    Known d = AreOfKind kind (values_in d.doc number) × AllHave64 (values_in d.doc number)

    of_first : (n : ℕ) (d : Placed) (ds : List Placed) (es : List Entry) → Known d → AreEntries texts (cells (rows_from number n (d ∷ ds))) es → Row n (values_in d.doc number) (cells (rows_from number (suc n) ds)) es
    of_first n d ds es known are =
        row n (values_in d.doc number) (cells (rows_from number (suc n) ds)) es known.0 known.1
        (subst (λ (cs : List Cell). AreEntries texts cs es) (row_cells n (values_in d.doc number) (rows_from number (suc n) ds)) are)

    -- documents in front have no entry
    in_front : (n k : ℕ) (ds : List Placed) (es : List Entry) → AllByRecursion Known ds → AreEntries texts (cells (rows_from number n ds)) es → k < n → some_is_of range k es ≡ false
    in_front n k [] [] known are lt = refl
    in_front n k [] (e ∷ es) known are lt = absurd are
    in_front n k (d ∷ ds) es known are lt =
        let first = of_first n d ds es known.0 are in
        let other : nat_eq k n ≡ false = ne_eqb k n (λ e. absurd (omega arith)) in
        first.some k
        ∙ (ap (λ b. (test d.doc && b) || some_is_of range k first.behind) other
        ∙ (ap (λ b. b || some_is_of range k first.behind) (and_false (test d.doc)) ∙ in_front (suc n) k ds first.behind known.1 first.are (omega arith)))
      where
        and_false : (a : Bool) → a && false ≡ false
        and_false true = refl
        and_false false = refl

    documents_are : (n i k : ℕ) (ds : List Placed) (es : List Entry) → AllByRecursion Known ds → AreEntries texts (cells (rows_from number n ds)) es → k ≡ n + i → some_is_of range k es ≡ holds_at test ds i
    documents_are n i k [] [] known are e = refl
    documents_are n i k [] (x ∷ es) known are e = absurd are
    documents_are n zero k (d ∷ ds) es known are e =
        let first = of_first n d ds es known.0 are in
        let same : nat_eq k n ≡ true = eq-eqb k n (omega arith) in
        first.some k
        ∙ (ap (λ b. (test d.doc && b) || some_is_of range k first.behind) same
        ∙ (ap (λ b. (test d.doc && true) || b) (in_front (suc n) k ds first.behind known.1 first.are (omega arith)) ∙ and_true (test d.doc)))
      where
        and_true : (a : Bool) → (a && true) || false ≡ a
        and_true true = refl
        and_true false = refl
    documents_are n (suc i) k (d ∷ ds) es known are e =
        let first = of_first n d ds es known.0 are in
        let other : nat_eq k n ≡ false = ne_eqb k n (λ same. absurd (omega arith)) in
        first.some k
        ∙ (ap (λ b. (test d.doc && b) || some_is_of range k first.behind) other
        ∙ (ap (λ b. b || some_is_of range k first.behind) (and_none (test d.doc)) ∙ documents_are (suc n) i k ds first.behind known.1 first.are (omega arith)))
      where
        and_none : (a : Bool) → a && false ≡ false
        and_none true = refl
        and_none false = refl

    all_below : (n : ℕ) (ds : List Placed) (es : List Entry) → AllByRecursion Known ds → AreEntries texts (cells (rows_from number n ds)) es → AllByRecursion (λ e. e.document < n + length ds) es
    all_below n [] [] known are = tt
    all_below n [] (e ∷ es) known are = absurd are
    all_below n (d ∷ ds) es known are =
        let first = of_first n d ds es known.0 are in
        let same : suc n + length ds ≡ n + length (d ∷ ds) = omega arith in
        first.below (n + length (d ∷ ds)) (omega arith) (subst (λ m. AllByRecursion (λ e. e.document < m) first.behind) same (all_below (suc n) ds first.behind known.1 first.are))

-- ---- the documents of a column

-- the column that is lent of a fast field
pub lent_column : (pieces : List FilePiece) (at len n : ℕ) (ds : List Placed) (o : Option Field) (f : Field) (r : Option Column) (c : Column) → o ≡ Some f → f.fast ≡ true → r ≡ Some c → LendsFast pieces at len n ds o (Ok r) → IsOf c (column_rows n ds)
lent_column pieces at len n ds o f r c here fast is h =
    (subst (λ (x : Option Field). LendsFast pieces at len n ds x (Ok (Some c))) here (subst (λ (x : Option Column). LendsFast pieces at len n ds o (Ok x)) is h)).1 fast

only_memory : (asked : ℕ → ℕ → Type 0) (pieces : List FilePiece) (e : LeafError) → IsMemory e → LacksPart asked pieces e
only_memory asked pieces (faults.Memory a) h = tt
only_memory asked pieces (faults.Missing at) h = absurd h
only_memory asked pieces (faults.Corrupt section) h = absurd h

module _ (v : PartView) (s : Schema) (ds : List Placed) (p : Parts) (is : IsSearched v s ds p) (n : ℕ) (f : Field) (got : slice_get s.fields n ≡ Some f) (low high : Edge) (ordered : has_order f.kind ≡ true) (low_fits : EdgeHas64 low) (high_fits : EdgeHas64 high)
    (c : Column) (column : IsOf c (column_rows n ds)) where
  known : AllByRecursion (Known f.kind low high ordered low_fits high_fits column.texts n) ds
  known = all_mapped ds (all_both (λ d. IsOfSchema s d.doc) (λ d. AllHave64 (values_in d.doc n)) ds is.part.is_split.are_documents.of_schema (is.typed n))
    where
      all_mapped : (xs : List Placed) → AllByRecursion (λ d. IsOfSchema s d.doc × AllHave64 (values_in d.doc n)) xs → AllByRecursion (Known f.kind low high ordered low_fits high_fits column.texts n) xs
      all_mapped [] h = tt
      all_mapped (x ∷ xs) h = ((kinds_in s n f x.doc got h.0.0, h.0.1), all_mapped xs h.1)

  docs_are : v.footer.layout.docs ≡ length ds
  docs_are = is.part.footer.layout.docs ∙ is.part.is_split.docs

  pub entries_below : AllByRecursion (λ e. e.document < v.footer.layout.docs) column.entries
  entries_below =
      let size : 0 + length ds ≡ v.footer.layout.docs = omega (arith, docs_are) in
      subst (λ m. AllByRecursion (λ e. e.document < m) column.entries) size
      (all_below f.kind low high ordered low_fits high_fits column.texts n 0 ds column.entries known column.are_entries)

  pub column_gives : (range : NumberRange) (r : Result DocBits LeafError) → range ≡ range_of f.kind low high → IfOk r (λ b. b.size ≡ v.footer.layout.docs) → MatchResult r (λ b. (k : ℕ) → has b k ≡ some_is_of range k column.entries) IsMemory
      → MatchResult r (IsSetOf (λ d. between low high (values_in d n)) ds) (LacksPart (IsColumnFor v s p n) v.pieces)
  column_gives range (Ok b) same size h = record {
    size = size ∙ docs_are;
    each = λ k lt. h k ∙ (ap (λ r. some_is_of r k column.entries) same ∙ documents_are f.kind low high ordered low_fits high_fits column.texts n 0 k k ds column.entries known column.are_entries (omega arith));
  }
  column_gives range (Err e) same size h = only_memory (IsColumnFor v s p n) v.pieces e h
