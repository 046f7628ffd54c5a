-- A number whose row was marked or is gone stays so, behind each kind of entry.
use Rattle.std.proofs.Common.{◌≡◌, ℕ, ◌≤◌, ◌==◌, List, [], ◌∷◌, ◌++◌, map, Some, refl, sym, ap, ◌∙◌, subst, inl, inr, arith, eqb-true}
use Rattle.std.proofs.lemmas.Bool.{cases_Bool}
use Rattle.meta_journal.specs.declared.entry.Act.{Act}
use Rattle.meta_journal.specs.declared.entry.Act.TheVariants.{Fence, Create, Stage, Publish, Replace, Raise, Task, MarkStaged, Remove, Retire}
use Rattle.meta_journal.specs.declared.entry.Entry.{Entry}
use Rattle.meta_store.proofs.RowLists.{AllOf, AllOf-append, AllOf-weaker, HoldRows, HoldRows-to, HoldRows-change_each, HoldRows-without_each}
use Rattle.meta_store.proofs.Sound.{sound}
use Rattle.meta_store.specs.History.{History, history, last_number, last_opstamp}
use Rattle.meta_store.specs.History.History.{◌▸◌}
use Rattle.meta_store.specs.Rows.{rows}
use Rattle.meta_store.specs.State.{Legal}
use Rattle.source_checkpoint.specs.Deltas.{raised, spans_of}
use Rattle.split_states.specs.Rows.{row_at, published, marked, raised_row, replacing, staged, joined_spans, merged_ops, change_each}
use Rattle.split_states.specs.declared.rows.Row.{Row}
use Rattle.split_states.specs.declared.rows.RowState.TheVariants.{Marked}
use Rattle.meta_store.proofs.Numbers.{each_found, found_of, history-snoc, new_row, published_marked, shown_row, stage_next, staged_le, staged_marked, staged_more, staged_row}
use Rattle.meta_store.specs.Numbers.{Comes, IsAllowed, IsGivenUp}
use Rattle.meta_store.specs.Readings.{Reads}

-- its row, if it has one, is marked
abbrev pub IsMarkedIn : History → ℕ → Type 0
IsMarkedIn h n = (row : Row) → row_at (rows h) n ≡ Some row → row.state ≡ Marked

-- each row of this number is marked
abbrev Is : ℕ → Row → Type 0
Is n x = x.number ≡ n → x.state ≡ Marked

back : (list : List Row) (n : ℕ) → AllOf (Is n) list → (row : Row) → row_at list n ≡ Some row → row.state ≡ Marked
back list n all row e = let f = found_of (Is n) list n row e all in f.0 f.1

module _ (reads : Reads) where
  each_of : (h : History) (n : ℕ) → Legal reads h → IsMarkedIn h n → HoldRows (Is n) (last_number h) (rows h)
  each_of h n legal g =
      let s = (sound reads h legal).held in
      record {
        apart = s.apart;
        below = s.below;
        each = AllOf-weaker (λ x. row_at (rows h) x.number ≡ Some x) (Is n) (rows h) (λ x own same. g x (ap (row_at (rows h)) (sym same) ∙ own)) (each_found (rows h) s.apart);
      }

  marked_on : (h : History) (m : ℕ) (act : Act) (n : ℕ) → Legal reads h → Comes reads h m act → n ≤ last_number h → IsMarkedIn h n → IsMarkedIn (h ▸ record { moment = m; act = act }) n
  marked_on h m Fence n l may low g = g
  marked_on h m (Create text) n l may low g = g
  marked_on h m (Stage number delta facts) n l may low g =
      let next = stage_next reads h m number delta facts may in
      back (rows (h ▸ record { moment = m; act = Stage number delta facts })) n
      (AllOf-append (Is n) (rows h) (staged number (spans_of (last_opstamp h) delta) facts m ∷ []) (each_of h n l g).each ((λ same. absurd (omega (arith, same, next, low))), tt))
  marked_on h m (Publish number) n l may low g =
      let r = staged_row reads h m number may in
      back (rows (h ▸ record { moment = m; act = Publish number })) n
      (HoldRows-to (Is n) (Is n) (last_number h) (last_number h) (rows h) number published (λ x. refl) (omega arith) (λ x other k. k)
      (λ x same k is. absurd (staged_marked (sym r.2 ∙ g r.0 (ap (row_at (rows h)) (sym is ∙ same) ∙ r.1)))) (each_of h n l g)).each
  marked_on h m (Replace new old upto) n l may low g =
      let r = new_row reads h m new old upto may in
      back (rows (h ▸ record { moment = m; act = Replace new old upto })) n
      (HoldRows-to (Is n) (Is n) (last_number h) (last_number h) (change_each old (marked m) (rows h)) new (replacing (map (raised upto) (joined_spans (rows h) old)) (merged_ops (rows h) old)) (λ x. refl) (omega arith) (λ x other k. k)
      (λ x same k is. absurd (staged_marked (sym r.2 ∙ g r.0 (ap (row_at (rows h)) (sym is ∙ same) ∙ r.1))))
      (HoldRows-change_each (Is n) (last_number h) old (rows h) (marked m) (λ x. refl) (λ x k is. refl) (each_of h n l g))).each
  marked_on h m (Raise number upto) n l may low g =
      let r = shown_row reads h m number upto may in
      back (rows (h ▸ record { moment = m; act = Raise number upto })) n
      (HoldRows-to (Is n) (Is n) (last_number h) (last_number h) (rows h) number (raised_row upto) (λ x. refl) (omega arith) (λ x other k. k)
      (λ x same k is. absurd (published_marked (sym r.2 ∙ g r.0 (ap (row_at (rows h)) (sym is ∙ same) ∙ r.1)))) (each_of h n l g)).each
  marked_on h m (Task opstamp text fields times) n l may low g = g
  marked_on h m (MarkStaged numbers) n l may low g =
      back (rows (h ▸ record { moment = m; act = MarkStaged numbers })) n
      (HoldRows-change_each (Is n) (last_number h) numbers (rows h) (marked m) (λ x. refl) (λ x k is. refl) (each_of h n l g)).each
  marked_on h m (Remove numbers) n l may low g =
      back (rows (h ▸ record { moment = m; act = Remove numbers })) n (HoldRows-without_each (Is n) (last_number h) numbers (rows h) (each_of h n l g)).each
  marked_on h m (Retire numbers) n l may low g =
      back (rows (h ▸ record { moment = m; act = Retire numbers })) n
      (HoldRows-change_each (Is n) (last_number h) numbers (rows h) (marked m) (λ x. refl) (λ x k is. refl) (each_of h n l g)).each

  pub GivenUp-more : (entries : List Entry) (entry : Entry) (n : ℕ) → Legal reads (history entries) → IsAllowed reads entries entry → IsGivenUp entries n → IsGivenUp (entries ++ entry ∷ []) n
  GivenUp-more entries entry n l a g =
      record {
        staged = staged_more entries entry n g.staged;
        row = subst (λ h. IsMarkedIn h n) (sym (history-snoc entries entry)) (marked_on (history entries) entry.moment entry.act n l a.1 (staged_le (history entries) n g.staged) g.row);
      }
