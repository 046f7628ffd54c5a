-- The columns of fast fields, found by the table of their starts.
use Rattle.std.proofs.Common.{◌≡◌, ◌≢◌, ℕ, zero, suc, ◌+◌, ◌<◌, ◌^◌, Bool, true, false, cond, List, [], ◌∷◌, ◌++◌, length, drop, Option, Some, Result, Ok, refl, sym, ap, subst, ◌∙◌, arith, append_assoc, length-append, eq-eqb, ne_eqb}
use Rattle.std.specs.List.{slice_get, flat_map, AllByRecursion}
use Rattle.byte_fields.specs.declared.corrupt.Corrupt.{Corrupt}
use Rattle.byte_fields.specs.Spelling.{varint}
use Rattle.doc_value.specs.declared.schema.Field.{Field}
use Rattle.fast_fields.specs.Columns.{IsColumn}
use Rattle.split_bundle.specs.declared.placed.Placed.{Placed}
use Rattle.split_bundle.specs.declared.layout.ColumnStart.{ColumnStart}
use Rattle.split_bundle.specs.Columns.{FastField, fast_from, HasColumn, AreColumns, column_rows}
use Rattle.split_bundle.specs.Files.{start_bytes}
use Rattle.split_bundle.specs.Reading.{column_start_at, column_end, column_among}
use Rattle.split_bundle.specs.Lending.{start_of_column, next_start, length_of_column}
use Rattle.split_bundle.proofs.Spelled.{number_again}

abbrev Small : ColumnStart → Type 0
Small c = (c.number < 2 ^ 64) × (c.start < 2 ^ 64)

abbrev place : ℕ × ℕ → Result (Option (ℕ × ℕ)) Corrupt
place x = Ok (Some x)

abbrev end_got : ℕ → Result ℕ Corrupt
end_got n = Ok n

-- an entry of the table is read
start_again : (bytes : List ℕ) (at : ℕ) (c : ColumnStart) (rest : List ℕ) → Small c → drop at bytes ≡ start_bytes c ++ rest → (next : ℕ) × (column_start_at bytes at ≡ Ok (c, next)) × (drop next bytes ≡ rest)
unfolding column_start_at
start_again bytes at c rest fits e =
    let e0 : drop at bytes ≡ varint c.number ++ (varint c.start ++ rest) = e ∙ append_assoc (varint c.number) (varint c.start) rest in
    let a = number_again bytes at c.number (varint c.start ++ rest) fits.0 e0 in
    let b = number_again bytes a.next c.start rest fits.1 a.stands.behind in
    (b.next, rw (a.is, b.is) refl, b.stands.behind)

-- the column of a field is found
pub record Found (documents : List Placed) (f : Field) (number start size : ℕ) (cs : List ColumnStart) (section bytes : List ℕ) (at : ℕ) : Type 0 where
  pub front : List ℕ
  pub column : List ℕ
  pub behind : List ℕ
  pub parts : section ≡ front ++ (column ++ behind)
  pub is_column : IsColumn f.kind column (column_rows number documents)
  pub among : column_among (length cs) number size bytes at ≡ Ok (Some (start + length front, start + length front + length column))
  pub start_is : start_of_column number cs ≡ start + length front
  pub length_is : length_of_column number size cs ≡ length column

module _ (documents : List Placed) (bytes : List ℕ) (f : Field) (number size : ℕ) where
  -- where a column ends
  ends_at : (fs : List FastField) (cs : List ColumnStart) (start at : ℕ) (rest behind : List ℕ) → AreColumns documents start fs cs behind → AllByRecursion Small cs → drop at bytes ≡ flat_map start_bytes cs ++ rest
      → start + length behind ≡ size → column_end (length cs) size bytes at ≡ end_got start
  unfolding column_end
  ends_at [] [] start at rest behind are small e sum = ap (λ (n : ℕ). end_got n) (omega (arith, sum, ap (λ (l : List ℕ). length l) are))
  ends_at [] (c ∷ cs) start at rest behind are small e sum = absurd are
  ends_at (g ∷ gs) [] start at rest behind are small e sum = absurd are
  ends_at (g ∷ gs) (c ∷ cs) start at rest behind are small e sum =
      let read = start_again bytes at c (flat_map start_bytes cs ++ rest) small.0 (e ∙ append_assoc (start_bytes c) (flat_map start_bytes cs) rest) in
      let some = ne_eqb (length (c ∷ cs)) 0 (λ none. omega (arith, none)) in
      rw (some, read.1) (ap (λ (x : ColumnStart). end_got x.start) are.1)

  next_is : (fs : List FastField) (cs : List ColumnStart) (start : ℕ) (behind : List ℕ) → AreColumns documents start fs cs behind → start + length behind ≡ size → next_start size cs ≡ start
  next_is [] [] start behind are sum = omega (arith, sum, ap (λ (l : List ℕ). length l) are)
  next_is [] (c ∷ cs) start behind are sum = absurd are
  next_is (g ∷ gs) [] start behind are sum = absurd are
  next_is (g ∷ gs) (c ∷ cs) start behind are sum = ap (λ (x : ColumnStart). x.start) are.1

  -- the first entry is the field's
  found_first : (g : FastField) (gs : List FastField) (c : ColumnStart) (cs : List ColumnStart) (start at : ℕ) (rest section : List ℕ) → g.number ≡ number → g.field ≡ f → AreColumns documents start (g ∷ gs) (c ∷ cs) section
      → AllByRecursion Small (c ∷ cs) → drop at bytes ≡ flat_map start_bytes (c ∷ cs) ++ rest → start + length section ≡ size → Found documents f number start size (c ∷ cs) section bytes at
  unfolding column_among
  found_first g gs c cs start at rest section number_is field_is are small e sum =
      let read = start_again bytes at c (flat_map start_bytes cs ++ rest) small.0 (e ∙ append_assoc (start_bytes c) (flat_map start_bytes cs) rest) in
      let long : length section ≡ length are.0.column + length are.0.behind = ap (λ (l : List ℕ). length l) are.0.parts ∙ length-append are.0.column are.0.behind in
      let end = ends_at gs cs (start + length are.0.column) read.0 rest are.0.behind are.2 small.1 read.2 (omega (arith, sum, long)) in
      let here : c.number ≡ number = ap (λ (x : ColumnStart). x.number) are.1 ∙ number_is in
      let there : c.start ≡ start = ap (λ (x : ColumnStart). x.start) are.1 in
      record {
        front = [];
        column = are.0.column;
        behind = are.0.behind;
        parts = are.0.parts;
        is_column = subst (λ (n : ℕ). IsColumn f.kind are.0.column (column_rows n documents)) number_is (subst (λ (x : Field). IsColumn x.kind are.0.column (column_rows g.number documents)) field_is are.0.is_column);
        among = rw (read.1, eq-eqb c.number number here, end) (ap (λ (n : ℕ). place (n, start + length are.0.column)) (there ∙ omega arith) ∙ ap (λ (n : ℕ). place (start + 0, n)) (omega arith));
        start_is = rw (eq-eqb c.number number here) (there ∙ omega arith);
        length_is = rw (eq-eqb c.number number here) (omega (arith, there, next_is gs cs (start + length are.0.column) are.0.behind are.2 (omega (arith, sum, long))));
      }

  -- it is another one's
  found_later : (g : FastField) (gs : List FastField) (c : ColumnStart) (cs : List ColumnStart) (start at : ℕ) (rest section : List ℕ) → g.number ≢ number → AreColumns documents start (g ∷ gs) (c ∷ cs) section
      → AllByRecursion Small (c ∷ cs) → drop at bytes ≡ flat_map start_bytes (c ∷ cs) ++ rest → start + length section ≡ size
      → ((has : HasColumn documents g section) (next : ℕ) → AreColumns documents (start + length has.column) gs cs has.behind → drop next bytes ≡ flat_map start_bytes cs ++ rest → start + length has.column + length has.behind ≡ size
      → Found documents f number (start + length has.column) size cs has.behind bytes next)
      → Found documents f number start size (c ∷ cs) section bytes at
  unfolding column_among
  found_later g gs c cs start at rest section other are small e sum later =
      let read = start_again bytes at c (flat_map start_bytes cs ++ rest) small.0 (e ∙ append_assoc (start_bytes c) (flat_map start_bytes cs) rest) in
      let long : length section ≡ length are.0.column + length are.0.behind = ap (λ (l : List ℕ). length l) are.0.parts ∙ length-append are.0.column are.0.behind in
      let l = later are.0 read.0 are.2 read.2 (omega (arith, sum, long)) in
      let apart : c.number ≢ number = λ same. other (sym (ap (λ (x : ColumnStart). x.number) are.1) ∙ same) in
      let shift : start + length are.0.column + length l.front ≡ start + length (are.0.column ++ l.front) = omega (arith, length-append are.0.column l.front) in
      record {
        front = are.0.column ++ l.front;
        column = l.column;
        behind = l.behind;
        parts = are.0.parts ∙ ap (λ (x : List ℕ). are.0.column ++ x) l.parts ∙ sym (append_assoc are.0.column l.front (l.column ++ l.behind));
        is_column = l.is_column;
        among = rw (read.1, ne_eqb c.number number apart) (l.among ∙ ap (λ (n : ℕ). place (n, n + length l.column)) shift);
        start_is = rw (ne_eqb c.number number apart) (l.start_is ∙ shift);
        length_is = rw (ne_eqb c.number number apart) l.length_is;
      }

  zero_case : (g : Field) (gs : List FastField) (n start at : ℕ) (cs : List ColumnStart) (rest section : List ℕ) → g ≡ f → number ≡ n → AreColumns documents start (record { number = n; field = g } ∷ gs) cs section
      → AllByRecursion Small cs → drop at bytes ≡ flat_map start_bytes cs ++ rest → start + length section ≡ size → Found documents f number start size cs section bytes at
  zero_case g gs n start at [] rest section same num are small e sum = absurd are
  zero_case g gs n start at (c ∷ cs) rest section same num are small e sum = found_first (record { number = n; field = g }) gs c cs start at rest section (sym num) same are small e sum

  suc_case : (b : Bool) (g : Field) (gs : List FastField) (n start at : ℕ) (cs : List ColumnStart) (rest section : List ℕ) → n ≢ number → AreColumns documents start (cond b (record { number = n; field = g } ∷ gs) gs) cs section
      → AllByRecursion Small cs → drop at bytes ≡ flat_map start_bytes cs ++ rest → start + length section ≡ size
      → ((start at : ℕ) (cs : List ColumnStart) (section : List ℕ) → AreColumns documents start gs cs section → AllByRecursion Small cs → drop at bytes ≡ flat_map start_bytes cs ++ rest → start + length section ≡ size
      → Found documents f number start size cs section bytes at)
      → Found documents f number start size cs section bytes at
  suc_case false g gs n start at cs rest section other are small e sum later = later start at cs section are small e sum
  suc_case true g gs n start at [] rest section other are small e sum later = absurd are
  suc_case true g gs n start at (c ∷ cs) rest section other are small e sum later =
      found_later (record { number = n; field = g }) gs c cs start at rest section other are small e sum (λ has next more there total. later (start + length has.column) next cs has.behind more small.1 there total)

  pub found_in : (fields : List Field) (n k start at : ℕ) (cs : List ColumnStart) (rest section : List ℕ) → slice_get fields k ≡ Some f → f.fast ≡ true → number ≡ n + k → AreColumns documents start (fast_from n fields) cs section
      → AllByRecursion Small cs → drop at bytes ≡ flat_map start_bytes cs ++ rest → start + length section ≡ size → Found documents f number start size cs section bytes at
  found_in [] n k start at cs rest section here fast num are small e sum = absurd cc
  found_in (g ∷ gs) n zero start at cs rest section here fast num are small e sum =
      let same : g ≡ f = cc in
      let is_fast : g.fast ≡ true = ap (λ (x : Field). x.fast) same ∙ fast in
      let are_here = subst (λ (b : Bool). AreColumns documents start (cond b (record { number = n; field = g } ∷ fast_from (suc n) gs) (fast_from (suc n) gs)) cs section) is_fast are in
      zero_case g (fast_from (suc n) gs) n start at cs rest section same (omega (arith, num)) are_here small e sum
  found_in (g ∷ gs) n (suc k) start at cs rest section here fast num are small e sum =
      suc_case g.fast g (fast_from (suc n) gs) n start at cs rest section (λ same. omega (arith, num, same)) are small e sum
      (λ start at cs section more small e sum. found_in gs (suc n) k start at cs rest section here fast (omega (arith, num)) more small e sum)
