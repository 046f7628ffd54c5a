-- Entries one behind another.
use Rattle.std.proofs.Common.{◌≡◌, ℕ, suc, ◌+◌, ◌-◌, ◌<◌, List, Option, Some, None, Result, Ok, Err, refl, sym, ap, subst, ◌≢◌, ◌∙◌, arith, eq-eqb, ne_eqb}
use Rattle.byte_fields.specs.declared.corrupt.Corrupt.{Corrupt}
use Rattle.byte_fields.specs.Steps.{◌>>=◌}
use Rattle.split_bundle.specs.declared.layout.Entry.{Entry}
use Rattle.split_bundle.specs.declared.layout.ColumnStart.{ColumnStart}
use Rattle.split_bundle.specs.Reading.{entry_behind, entries_behind, column_start_at, column_end, column_among}

module _ (entry : Entry) (bytes : List ℕ) (count taken at : ℕ) (whole : Result ℕ Corrupt) (so_far : entries_behind entry (count - taken) bytes at ≡ whole) where
  -- nothing is left
  pub entries_end : taken ≡ count → Ok at ≡ whole
  unfolding entries_behind
  entries_end e = let none : count - taken ≡ 0 = omega arith in sym (sym so_far ∙ rw none refl)

  -- one more was passed
  pub entries_more : (next : ℕ) → taken < count → Ok next ≡ entry_behind entry bytes at → entries_behind entry (count - (taken + 1)) bytes next ≡ whole
  unfolding entries_behind
  entries_more next lt e =
      let left : count - taken ≡ suc (count - (taken + 1)) = omega arith in
      let here : entries_behind entry (count - taken) bytes at ≡ entries_behind entry (count - (taken + 1)) bytes next = rw (left, sym e) refl in
      sym here ∙ so_far

  -- the next one has a fault
  pub entries_fault : (c : Corrupt) → taken < count → Err c ≡ entry_behind entry bytes at → Err c ≡ whole
  unfolding entries_behind
  entries_fault c lt e =
      let left : count - taken ≡ suc (count - (taken + 1)) = omega arith in
      let here : entries_behind entry (count - taken) bytes at ≡ Err c = rw (left, sym e) refl in
      sym here ∙ so_far

-- the first of the columns that are left
module _ (bytes : List ℕ) (count passed at number size : ℕ) (whole : Result (Option (ℕ × ℕ)) Corrupt) (so_far : column_among (count - passed) number size bytes at ≡ whole) where
  -- none is left
  pub columns_end : passed ≡ count → Ok None ≡ whole
  unfolding column_among
  columns_end e = let none : count - passed ≡ 0 = omega arith in sym (sym so_far ∙ rw none refl)

  -- it is another field's
  pub columns_more : (column : ColumnStart) (next : ℕ) → passed < count → Ok (column, next) ≡ column_start_at bytes at → column.number ≢ number
      → column_among (count - (passed + 1)) number size bytes next ≡ whole
  unfolding column_among
  columns_more column next lt e apart =
      let other = ne_eqb column.number number apart in
      let left : count - passed ≡ suc (count - (passed + 1)) = omega arith in
      let here : column_among (count - passed) number size bytes at ≡ column_among (count - (passed + 1)) number size bytes next = rw (left, sym e, other) refl in
      sym here ∙ so_far

  -- it is the field's
  columns_here : (column : ColumnStart) (next : ℕ) → passed < count → Ok (column, next) ≡ column_start_at bytes at → column.number ≡ number
      → (column_end (count - passed - 1) size bytes next >>= λ end. Ok (Some (column.start, end))) ≡ whole
  unfolding column_among
  columns_here column next lt e is =
      let same = eq-eqb column.number number is in
      let left : count - passed ≡ suc (count - (passed + 1)) = omega arith in
      let behind : count - passed - 1 ≡ count - (passed + 1) = omega arith in
      let here : column_among (count - passed) number size bytes at ≡ (column_end (count - (passed + 1)) size bytes next >>= λ end. Ok (Some (column.start, end))) = rw (left, sym e, same) refl in
      ap (λ (n : ℕ). column_end n size bytes next >>= λ end. Ok (Some (column.start, end))) behind ∙ sym here ∙ so_far

  pub columns_found : (column : ColumnStart) (next end : ℕ) → passed < count → Ok (column, next) ≡ column_start_at bytes at → column.number ≡ number → Ok end ≡ column_end (count - passed - 1) size bytes next
      → Ok (Some (column.start, end)) ≡ whole
  columns_found column next end lt e is ends = subst (λ (r : Result ℕ Corrupt). (r >>= λ n. Ok (Some (column.start, n))) ≡ whole) (sym ends) (columns_here column next lt e is)

  pub columns_found_fault : (column : ColumnStart) (next : ℕ) (c : Corrupt) → passed < count → Ok (column, next) ≡ column_start_at bytes at → column.number ≡ number → Err c ≡ column_end (count - passed - 1) size bytes next
      → Err c ≡ whole
  columns_found_fault column next c lt e is ends = subst (λ (r : Result ℕ Corrupt). (r >>= λ n. Ok (Some (column.start, n))) ≡ whole) (sym ends) (columns_here column next lt e is)

  -- it has a fault
  pub columns_fault : (c : Corrupt) → passed < count → Err c ≡ column_start_at bytes at → Err c ≡ whole
  unfolding column_among
  columns_fault c lt e =
      let left : count - passed ≡ suc (count - (passed + 1)) = omega arith in
      let here : column_among (count - passed) number size bytes at ≡ Err c = rw (left, sym e) refl in
      sym here ∙ so_far
