-- Where the columns of fast fields start and end.
use Rattle.std.proofs.Common.{◌≡◌, ℕ, zero, suc, ◌+◌, ◌-◌, ◌<◌, ◌≤◌, Bool, true, false, cond, List, [], ◌∷◌, length, slice_get, nat_lt, Option, Some, None, Result, Ok, Err, MatchOption, IfSome, refl, ap, sym, ◌∙◌, subst, arith, length-append, eq-eqb, zero-add}
use Rattle.std.proofs.lemmas.Bool.{ne_eqb}
use Rattle.std.proofs.lemmas.Option.{slice_get_within}
use Rattle.doc_value.specs.Documents.{IsSchema, IsTimestamp}
use Rattle.doc_value.specs.declared.schema.Kind.TheVariants as kinds
use Rattle.doc_value.specs.declared.schema.Field.{Field}
use Rattle.doc_value.specs.declared.schema.Kind.{Kind}
use Rattle.doc_value.specs.declared.schema.Schema.{Schema}
use Rattle.fast_fields.specs.Reading.{Parts as ColumnParts}
use Rattle.fast_fields.specs.declared.column.Column.{Column}
use Rattle.split_bundle.specs.declared.layout.ColumnStart.{ColumnStart}
use Rattle.split_bundle.specs.declared.layout.Sections.{Sections}
use Rattle.split_bundle.specs.declared.layout.Table.{Table}
use Rattle.split_bundle.specs.declared.footer.Footer.{Footer}
use Rattle.split_bundle.specs.declared.part_view.PartView.{PartView}
use Rattle.split_bundle.specs.declared.placed.Placed.{Placed}
use Rattle.split_bundle.specs.Files.{Parts, file_bytes}
use Rattle.split_bundle.specs.SplitReading.{IsLaidOut}
use Rattle.split_bundle.specs.Splits.{IsSplitOf}
use Rattle.split_bundle.proofs.ColumnsLent.{column_stands}
use Rattle.split_bundle.proofs.SectionBytes.{section_within}
use Rattle.doc_sets.specs.Needed.{IsColumnFor}
use Rattle.doc_tallies.specs.Causes.{AsksColumn, columns_start}
use Rattle.doc_tallies.specs.Cells.{IsFast}
use Rattle.leaf_search.specs.FileRanges.{AddsParts}
use Rattle.leaf_search.specs.declared.file_ranges.FileRange.{FileRange}
use Rattle.leaf_search.proofs.RangeLists.{At, none_added, parts_alike}
use Rattle.split_bundle.specs.declared.pieces.FilePiece.{FilePiece}
use Rattle.split_bundle.specs.declared.split_error.SplitError.{SplitError}
use Rattle.split_bundle.specs.Columns.{AreColumns, FastField, fast_from}
use Rattle.byte_fields.specs.Steps.{◌>>=◌}
use Rattle.fast_fields.specs.Reading.{column_at}
use Rattle.fast_fields.specs.Readers.{parts}
use Rattle.split_bundle.specs.declared.pieces.Section.{Section}
use Rattle.split_bundle.specs.declared.pieces.Section.TheVariants.{Columns}
use Rattle.split_bundle.specs.declared.split_error.SplitError.TheVariants.{BadSection, Truncated}
use Rattle.split_bundle.specs.Reading.{and_then, column_among, of_section}
use Rattle.split_bundle.specs.Pieces.{number_of, section_part, size_of, start_of}
use Rattle.split_bundle.specs.Lending.{IsPartOf, LendsFast, column_if, column_in, column_part, column_read, column_there, kind_or, parts_of, length_of_column, next_start, start_of_column}

-- ---- the starts of columns

same_start : (n start m : ℕ) (cs : List ColumnStart) → n ≡ m → start_of_column m (record { number = n; start = start } ∷ cs) ≡ start
same_start n start m cs e = ap (λ b. cond b start (start_of_column m cs)) (eq-eqb n m e)

other_start : (n start m : ℕ) (cs : List ColumnStart) → n < m → start_of_column m (record { number = n; start = start } ∷ cs) ≡ start_of_column m cs
other_start n start m cs lt = ap (λ b. cond b start (start_of_column m cs)) (ne_eqb n m (λ e. omega (arith, lt, e)))

same_length : (n start m size : ℕ) (cs : List ColumnStart) → n ≡ m → length_of_column m size (record { number = n; start = start } ∷ cs) ≡ next_start size cs - start
same_length n start m size cs e = ap (λ b. cond b (next_start size cs - start) (length_of_column m size cs)) (eq-eqb n m e)

other_length : (n start m size : ℕ) (cs : List ColumnStart) → n < m → length_of_column m size (record { number = n; start = start } ∷ cs) ≡ length_of_column m size cs
other_length n start m size cs lt = ap (λ b. cond b (next_start size cs - start) (length_of_column m size cs)) (ne_eqb n m (λ e. omega (arith, lt, e)))

module _ (ds : List Placed) (size : ℕ) where
  abbrev Fasts : ℕ → Field → List Field → Bool → List FastField
  Fasts k f fs b = cond b (record { number = k; field = f } ∷ fast_from (suc k) fs) (fast_from (suc k) fs)

  -- the fields below a number are not fast
  abbrev SlowBelow : ℕ → List Field → Type 0
  SlowBelow i fs = (j : ℕ) (f : Field) → j < i → slice_get fs j ≡ Some f → f.fast ≡ false

  none_start : (fs : List Field) (k start : ℕ) (cs : List ColumnStart) (bytes : List ℕ) → AreColumns ds start (fast_from k fs) cs bytes → SlowBelow (length fs) fs → cs ≡ []
  none_start [] k start [] bytes are slow = refl
  none_start [] k start (c ∷ cs) bytes are slow = absurd are
  none_start (f ∷ fs) k start cs bytes are slow =
      let no : f.fast ≡ false = slow zero f (omega arith) refl in
      none_start fs (suc k) start cs bytes (subst (λ b. AreColumns ds start (Fasts k f fs b) cs bytes) no are) (λ j g lt got. slow (suc j) g (omega (arith, lt)) got)

  first_start : (fs : List Field) (k start i : ℕ) (g : Field) (cs : List ColumnStart) (bytes : List ℕ) → AreColumns ds start (fast_from k fs) cs bytes → slice_get fs i ≡ Some g → g.fast ≡ true → SlowBelow i fs
      → (next_start size cs ≡ start) × (start_of_column (k + i) cs ≡ start)
  first_start [] k start i g cs bytes are got fast slow = absurd (cc)
  first_start (f ∷ fs) k start zero g cs bytes are got fast slow =
      let same : f ≡ g = cc in
      let yes : f.fast ≡ true = ap (λ (x : Field). x.fast) same ∙ fast in
      go cs (subst (λ b. AreColumns ds start (Fasts k f fs b) cs bytes) yes are)
    where
      go : (cs : List ColumnStart) → AreColumns ds start (record { number = k; field = f } ∷ fast_from (suc k) fs) cs bytes → (next_start size cs ≡ start) × (start_of_column (k + 0) cs ≡ start)
      go [] h = absurd h
      go (c ∷ rest) h =
          let zeroth : k ≡ k + 0 = omega arith in
          (ap (λ (x : ColumnStart). x.start) h.1, ap (λ (x : ColumnStart). start_of_column (k + 0) (x ∷ rest)) h.1 ∙ same_start k start (k + 0) rest zeroth)
  first_start (f ∷ fs) k start (suc i) g cs bytes are got fast slow =
      let no : f.fast ≡ false = slow zero f (omega arith) refl in
      let h = first_start fs (suc k) start i g cs bytes (subst (λ b. AreColumns ds start (Fasts k f fs b) cs bytes) no are) got fast (λ j x lt there. slow (suc j) x (omega (arith, lt)) there) in
      let same : suc k + i ≡ k + suc i = omega arith in
      (h.0, ap (λ n. start_of_column n cs) (sym same) ∙ h.1)

  -- where the column of a fast field ends the next one starts, or the section ends
  pub record EndsAt (fs : List Field) (k j i : ℕ) (cs : List ColumnStart) : Type 0 where
    pub next : (g : Field) → slice_get fs i ≡ Some g → g.fast ≡ true → start_of_column (k + j) cs + length_of_column (k + j) size cs ≡ start_of_column (k + i) cs
    pub last : length fs ≤ i → start_of_column (k + j) cs + length_of_column (k + j) size cs ≡ size

  -- the same of each list of columns of these fields
  abbrev Deeper : List Field → ℕ → ℕ → ℕ → Type 0
  Deeper fs k j i = (from : ℕ) (rest : List ColumnStart) (left : List ℕ) → AreColumns ds from (fast_from k fs) rest left → from + length left ≡ size → EndsAt fs k j i rest

  pub column_ends : (fs : List Field) (k start j i : ℕ) (f : Field) (cs : List ColumnStart) (bytes : List ℕ) → AreColumns ds start (fast_from k fs) cs bytes → start + length bytes ≡ size → slice_get fs j ≡ Some f → f.fast ≡ true → j < i
      → ((n : ℕ) (g : Field) → j < n → n < i → slice_get fs n ≡ Some g → g.fast ≡ false) → EndsAt fs k j i cs
  column_ends [] k start j i f cs bytes are all got fast lt slow = absurd (cc)
  column_ends (x ∷ xs) k start zero zero f cs bytes are all got fast lt slow = absurd (omega arith)
  column_ends (x ∷ xs) k start (suc j) zero f cs bytes are all got fast lt slow = absurd (omega arith)
  column_ends (x ∷ xs) k start zero (suc i) f cs bytes are all got fast lt slow =
      let same : x ≡ f = cc in
      let yes : x.fast ≡ true = ap (λ (y : Field). y.fast) same ∙ fast in
      go cs (subst (λ b. AreColumns ds start (Fasts k x xs b) cs bytes) yes are)
    where
      go : (cs : List ColumnStart) → AreColumns ds start (record { number = k; field = x } ∷ fast_from (suc k) xs) cs bytes → EndsAt (x ∷ xs) k zero (suc i) cs
      go [] h = absurd h
      go (c ∷ rest) h =
          let has = h.0 in
          let zeroth : k ≡ k + 0 = omega arith in
          let further : suc k + i ≡ k + suc i = omega arith in
          let slow_between : SlowBelow i xs = λ n g below there. slow (suc n) g (omega arith) (omega (arith, below)) there in
          let parts : length bytes ≡ length has.column + length has.behind = ap length has.parts ∙ length-append has.column has.behind in
          subst (λ (y : ColumnStart). EndsAt (x ∷ xs) k zero (suc i) (y ∷ rest)) (sym h.1) (record {
            next = λ g there is_fast.
                let first = first_start xs (suc k) (start + length has.column) i g rest has.behind h.2 there is_fast slow_between in
                let a = same_start k start (k + 0) rest zeroth in
                let b = same_length k start (k + 0) size rest zeroth in
                let c = other_start k start (k + suc i) rest (omega arith) in
                let d : start_of_column (k + suc i) rest ≡ start + length has.column = ap (λ n. start_of_column n rest) (sym further) ∙ first.1 in
                omega (arith, a, b, c, d, first.0);
            last = λ le.
                let none = none_start xs (suc k) (start + length has.column) rest has.behind h.2 (λ n g below there. slow_between n g (omega (arith, le, below)) there) in
                let a = same_start k start (k + 0) rest zeroth in
                let b = same_length k start (k + 0) size rest zeroth in
                let e : next_start size rest ≡ size = ap (next_start size) none in
                omega (arith, a, b, e, all);
          })
  column_ends (x ∷ xs) k start (suc j) (suc i) f cs bytes are all got fast lt slow =
      go (x.fast) refl cs are
      (λ from rest left these long. column_ends xs (suc k) from j i f rest left these long got fast (omega (arith, lt)) (λ n g low high there. slow (suc n) g (omega (arith, low)) (omega (arith, high)) there))
    where
      shifted : (rest : List ColumnStart) → EndsAt xs (suc k) j i rest → EndsAt (x ∷ xs) k (suc j) (suc i) rest
      shifted rest e =
          let a : suc k + j ≡ k + suc j = omega arith in
          let b : suc k + i ≡ k + suc i = omega arith in
          record {
            next = λ g there is_fast. ap (λ n. start_of_column n rest + length_of_column n size rest) (sym a) ∙ (e.next g there is_fast ∙ ap (λ n. start_of_column n rest) b);
            last = λ le. ap (λ n. start_of_column n rest + length_of_column n size rest) (sym a) ∙ e.last (omega (arith, le));
          }

      under : (c : ColumnStart) (rest : List ColumnStart) → c ≡ record { number = k; start = start } → EndsAt (x ∷ xs) k (suc j) (suc i) rest → EndsAt (x ∷ xs) k (suc j) (suc i) (c ∷ rest)
      under c rest is e =
          let a = other_start k start (k + suc j) rest (omega arith) in
          let b = other_length k start (k + suc j) size rest (omega arith) in
          let d = other_start k start (k + suc i) rest (omega arith) in
          subst (λ (y : ColumnStart). EndsAt (x ∷ xs) k (suc j) (suc i) (y ∷ rest)) (sym is) (record {
            next = λ g there is_fast. omega (arith, a, b, d, e.next g there is_fast);
            last = λ le. omega (arith, a, b, e.last le);
          })

      first : (rows : List ColumnStart) → AreColumns ds start (record { number = k; field = x } ∷ fast_from (suc k) xs) rows bytes → Deeper xs (suc k) j i → EndsAt (x ∷ xs) k (suc j) (suc i) rows
      first [] h deeper = absurd h
      first (c ∷ rest) h deeper =
          let has = h.0 in
          let parts : length bytes ≡ length has.column + length has.behind = ap length has.parts ∙ length-append has.column has.behind in
          under c rest h.1 (shifted rest (deeper (start + length has.column) rest has.behind h.2 (omega (arith, all, parts))))

      go : (b : Bool) → x.fast ≡ b → (rows : List ColumnStart) → AreColumns ds start (Fasts k x xs b) rows bytes → Deeper xs (suc k) j i → EndsAt (x ∷ xs) k (suc j) (suc i) rows
      go true is rows h deeper = first rows h deeper
      go false is rows h deeper = shifted rows (deeper start rows bytes h all)

-- ---- a view without pieces lacks each column

module _ (sections : Sections) where
  part_never : (section : Section) (from len : ℕ) (bytes : List ℕ) → section_part section sections [] from len ≡ Ok bytes → ⊥
  unfolding section_part
  part_never section from len bytes e = go (nat_lt (size_of section sections) from) (nat_lt (size_of section sections - from) len) e
    where
      go : (a b : Bool) → cond a (Err (BadSection (number_of section))) (cond b (Err (BadSection (number_of section))) (Err (Truncated (start_of section sections + from)))) ≡ Ok bytes → ⊥
      go true b h = cc
      go false true h = cc
      go false false h = cc

  then_ok : {A B : Type 0} (r : Result A SplitError) (f : A → Result B SplitError) (y : B) → and_then r f ≡ Ok y → (x : A) × (r ≡ Ok x) × (f x ≡ Ok y)
  then_ok (Ok x) f y e = (x, refl, e)
  then_ok (Err x) f y e = absurd (cc)

  column_never : (kind : Kind) (start end : ℕ) (column : ColumnParts) → column_part kind sections [] start end ≡ Ok column → ⊥
  unfolding column_part
  column_never kind start end column e = go (nat_lt end start) e
    where
      go : (b : Bool) → cond b (Err (BadSection 5)) (and_then (section_part Columns sections [] start (end - start)) (λ bytes. of_section 5 (column_at kind bytes >>= λ column. Ok column.0))) ≡ Ok column → ⊥
      go true h = cc
      go false h =
          let o = then_ok (section_part Columns sections [] start (end - start)) (λ bytes. of_section 5 (column_at kind bytes >>= λ column. Ok column.0)) column h in
          part_never Columns start (end - start) o.0 o.1

  there_never : (kind : Kind) (place : Option (ℕ × ℕ)) (column : ColumnParts) → column_there kind sections [] place ≡ Ok column → ⊥
  there_never kind (Some place) column e = column_never kind place.0 place.1 column e
  there_never kind None column e = cc

  in_never : (kind : Kind) (footer : List ℕ) (table : Table) (number : ℕ) (column : ColumnParts) → column_in kind sections [] footer table number ≡ Ok column → ⊥
  unfolding column_in
  in_never kind footer table number column e =
      let o = then_ok (of_section 6 (column_among table.count number sections.columns footer table.at)) (column_there kind sections []) column e in
      there_never kind o.0 column o.2

  pub never_read : (s : Schema) (footer : List ℕ) (table : Table) (number : ℕ) (column : ColumnParts) → column_read s sections [] footer table number ≡ Ok (Some column) → ⊥
  unfolding column_read
  never_read s footer table number column e = go (slice_get s.fields number) (column_in (kind_or (slice_get s.fields number)) sections [] footer table number) (in_never (kind_or (slice_get s.fields number)) footer table number) e
    where
      go : (o : Option Field) (read : Result ColumnParts SplitError) → ((c : ColumnParts) → read ≡ Ok c → ⊥) → column_if o read ≡ Ok (Some column) → ⊥
      go None read never h = cc
      go (Some f) read never h = by (f.fast) h
        where
          by : (b : Bool) → cond b (and_then read (λ c. Ok (Some c))) (Ok None) ≡ Ok (Some column) → ⊥
          by true k = let o = then_ok read (λ c. Ok (Some c)) (Some column) k in never o.0 o.1
          by false k = cc

  pub never_some : (pieces : List FilePiece) (s : Schema) (footer : List ℕ) (table : Table) (number : ℕ) (o : Option Column) (x : Column) → pieces ≡ [] → o ≡ Some x → column_read s sections pieces footer table number ≡ Ok (parts_of o) → ⊥
  never_some pieces s footer table number o x bare is read =
      never_read s footer table number (parts x)
      (subst (λ (ps : List FilePiece). column_read s sections ps footer table number ≡ Ok (Some (parts x))) bare (subst (λ (y : Option Column). column_read s sections pieces footer table number ≡ Ok (parts_of y)) is read))

-- the fault of a view that lacks the column of a fast field
pub lacks_at : (pieces : List FilePiece) (at len number : ℕ) (ds : List Placed) (o : Option Field) (e : SplitError) → MatchOption o ⊥ (λ f. f.fast ≡ true) → LendsFast pieces at len number ds o (Err e) → e ≡ Truncated at
lacks_at pieces at len number ds None e fast lent = absurd fast
lacks_at pieces at len number ds (Some f) e fast lent = (lent.1 fast).0

-- nothing but the fault
pub some_lent : (pieces : List FilePiece) (at len number : ℕ) (ds : List Placed) (o : Option Field) (x : Option Column) → x ≡ None → MatchOption o ⊥ (λ f. f.fast ≡ true) → LendsFast pieces at len number ds o (Ok x) → ⊥
some_lent pieces at len number ds o x none fast lent = go o fast (subst (λ (y : Option Column). LendsFast pieces at len number ds o (Ok y)) none lent)
  where
    go : (q : Option Field) → MatchOption q ⊥ (λ f. f.fast ≡ true) → LendsFast pieces at len number ds q (Ok None) → ⊥
    go None h k = h
    go (Some f) h k = k.1 h

pub record HasFast (s : Schema) (number : ℕ) : Type 0 where
  pub field : Field
  pub here : slice_get s.fields number ≡ Some field
  pub fast : field.fast ≡ true

pub has_fast : (s : Schema) (number : ℕ) → MatchOption (slice_get s.fields number) ⊥ (λ f. f.fast ≡ true) → HasFast s number
has_fast s number h = go (slice_get s.fields number) refl h
  where
    go : (o : Option Field) → slice_get s.fields number ≡ o → MatchOption o ⊥ (λ f. f.fast ≡ true) → HasFast s number
    go None e k = absurd k
    go (Some f) e k = record { field = f; here = e; fast = k }

-- ---- of a split

pub record EndsBefore (s : Schema) (p : Parts) (number next : ℕ) : Type 0 where
  pub to_next : (g : Field) → slice_get s.fields next ≡ Some g → g.fast ≡ true → start_of_column number p.column_starts + length_of_column number (length p.columns) p.column_starts ≡ start_of_column next p.column_starts
  pub to_end : length s.fields ≤ next → start_of_column number p.column_starts + length_of_column number (length p.columns) p.column_starts ≡ length p.columns

pub ends_before : (s : Schema) (ds : List Placed) (p : Parts) (number next : ℕ) → IsSplitOf s ds p → HasFast s number → number < next
    → ((k : ℕ) (g : Field) → number < k → k < next → slice_get s.fields k ≡ Some g → g.fast ≡ false) → EndsBefore s p number next
ends_before s ds p number next is has lt slow =
    let cs = p.column_starts in
    let size = length p.columns in
    let e = column_ends ds size s.fields 0 0 number next has.field cs p.columns is.columns (omega arith) has.here has.fast lt slow in
    record {
      to_next = λ g there fast. ap (λ k. start_of_column k cs + length_of_column k size cs) (sym (zero-add number)) ∙ (e.next g there fast ∙ ap (λ k. start_of_column k cs) (zero-add next));
      to_end = λ le. ap (λ k. start_of_column k cs + length_of_column k size cs) (sym (zero-add number)) ∙ e.last le;
    }

module _ (v : PartView) (s : Schema) (ds : List Placed) (p : Parts) (part : IsPartOf v s ds p) where
  -- the column of a fast field lies in its section
  pub column_inside : (number : ℕ) → HasFast s number → start_of_column number p.column_starts + length_of_column number (length p.columns) p.column_starts ≤ length p.columns
  column_inside number has =
      let laid : IsLaidOut p v.footer.layout v.footer.bytes v.pieces = record { layout_is = part.footer.layout; footer_is = part.footer.bytes; are_pieces = part.pieces } in
      let stands = column_stands v.footer.layout v.footer.bytes v.pieces s ds p has.field number part.is_split laid has.here has.fast in
      omega (arith, stands.start_is, stands.length_is, stands.at.within, stands.at.end_is)

  pub columns_start_is : columns_start v.footer.layout.sections + length p.columns ≤ length (file_bytes p)
  columns_start_is =
      let start : columns_start v.footer.layout.sections ≡ 4 + length p.documents + length p.dictionary + length p.postings + length p.positions = ap columns_start part.footer.layout.sections in
      omega (arith, start, section_within Columns p)

  pub column_named : (number at len : ℕ) (old new : List FileRange) → at ≡ columns_start v.footer.layout.sections + start_of_column number p.column_starts → len ≡ length_of_column number (length p.columns) p.column_starts
      → AddsParts (At at len) old new → AddsParts (AsksColumn v p number) old new
  column_named number at len old new same_at same_len adds =
      parts_alike (At at len) (AsksColumn v p number) old new
      (λ a n h. record { at_is = h.0 ∙ same_at; len_is = h.1 ∙ same_len })
      (λ a n h. (h.at_is ∙ sym same_at, h.len_is ∙ sym same_len)) adds

pub timestamp_fast : (s : Schema) (number : ℕ) → IsSchema s → s.timestamp ≡ Some number → IsFast s number
timestamp_fast s number is e = go (slice_get s.fields number) (subst (λ o. IfSome o (IsTimestamp s.fields)) e is.timestamp)
  where
    go : (o : Option Field) → MatchOption o ⊥ (λ f. (f.kind ≡ kinds.Datetime) × (f.fast ≡ true)) → MatchOption o ⊥ (λ f. f.fast ≡ true)
    go None h = h
    go (Some f) h = h.1

pub fast_within : (s : Schema) (number : ℕ) → IsFast s number → number < length s.fields
fast_within s number fast = let has = has_fast s number fast in slice_get_within s.fields number has.field has.here

-- what is asked of a column for its values is the column of a fast field
pub values_fast : (v : PartView) (s : Schema) (p : Parts) (number at len : ℕ) → IsColumnFor v s p number at len → IsFast s number
values_fast v s p number at len h = rw (h.here) h.fast

pub values_column : (v : PartView) (s : Schema) (p : Parts) (number at len : ℕ) → IsColumnFor v s p number at len → AsksColumn v p number at len
values_column v s p number at len h = record { at_is = h.at_is; len_is = h.len_is }

pub values_named : (v w : PartView) (s : Schema) (p : Parts) (number : ℕ) (f : Field) (old new : List FileRange) → v.footer ≡ w.footer → slice_get s.fields number ≡ Some f → f.fast ≡ true → AddsParts (AsksColumn v p number) old new
    → AddsParts (IsColumnFor w s p number) old new
values_named v w s p number f old new same here fast adds =
    parts_alike (AsksColumn v p number) (IsColumnFor w s p number) old new
    (λ at len h. record { field = f; here = here; fast = fast; at_is = subst (λ (x : Footer). at ≡ columns_start x.layout.sections + start_of_column number p.column_starts) same h.at_is; len_is = h.len_is })
    (λ at len h. record { at_is = subst (λ (x : Footer). at ≡ columns_start x.layout.sections + start_of_column number p.column_starts) (sym same) h.at_is; len_is = h.len_is }) adds

-- no column is asked for where the field is not fast
pub no_values : (v : PartView) (s : Schema) (p : Parts) (number : ℕ) (rs : List FileRange) → ((f : Field) → slice_get s.fields number ≡ Some f → f.fast ≡ false) → AddsParts (IsColumnFor v s p number) rs rs
no_values v s p number rs slow = none_added (IsColumnFor v s p number) rs (λ at len h. let none = slow h.field h.here in let is = h.fast in absurd (cc))
