-- What a number was staged with stays, behind each kind of entry.
use Rattle.std.proofs.Common.{◌≡◌, ℕ, ◌≤◌, List, [], ◌∷◌, ◌++◌, map, Some, refl, sym, ap, ◌∙◌, subst, arith}
use Rattle.meta_journal.specs.declared.entry.Act.{Act}
use Rattle.meta_journal.specs.declared.entry.Act.TheVariants.{Fence, Create, Stage, Publish, Replace, Raise, Task, MarkStaged, Remove, Retire}
use Rattle.meta_journal.specs.declared.entry.Entry.{Entry}
use Rattle.meta_store.proofs.RowLists.{AllOf, AllOf-append, AllOf-weaker, HoldRows, HoldRows-to, HoldRows-change_each, HoldRows-without_each}
use Rattle.meta_store.proofs.Sound.{sound}
use Rattle.meta_store.specs.History.{History, history, delta_of, last_number, last_opstamp}
use Rattle.meta_store.specs.History.History.{◌▸◌}
use Rattle.meta_store.specs.Rows.{rows}
use Rattle.meta_store.specs.State.{Legal}
use Rattle.source_checkpoint.specs.Deltas.{raised, spans_of}
use Rattle.source_checkpoint.specs.declared.delta.Part.{Part}
use Rattle.split_states.specs.Rows.{row_at, published, marked, raised_row, replacing, staged, joined_spans, merged_ops, change_each}
use Rattle.split_states.specs.declared.facts.RowFacts.{RowFacts}
use Rattle.split_states.specs.declared.rows.Row.{Row}
use Rattle.meta_store.proofs.Numbers.{each_found, found_of, history-snoc, number_apart, stage_next, staged_le, staged_more}
use Rattle.meta_store.specs.Numbers.{Comes, HasStaged, IsAllowed}
use Rattle.meta_store.specs.Readings.{Reads}

-- each row of this number has these facts
abbrev Has : ℕ → RowFacts → Row → Type 0
Has n facts x = x.number ≡ n → x.facts ≡ facts

pub record Noted (h : History) (n : ℕ) (delta : List Part) (facts : RowFacts) : Type 0 where
  pub noted : delta_of h n ≡ delta
  pub kept : (row : Row) → row_at (rows h) n ≡ Some row → row.facts ≡ facts

back : (list : List Row) (n : ℕ) (facts : RowFacts) → AllOf (Has n facts) list → (row : Row) → row_at list n ≡ Some row → row.facts ≡ facts
back list n facts all row e = let f = found_of (Has n facts) list n row e all in f.0 f.1

module _ (reads : Reads) where
  each_of : (h : History) (n : ℕ) (delta : List Part) (facts : RowFacts) → Legal reads h → Noted h n delta facts → HoldRows (Has n facts) (last_number h) (rows h)
  each_of h n delta facts legal k =
      let s = (sound reads h legal).held in
      record {
        apart = s.apart;
        below = s.below;
        each = AllOf-weaker (λ x. row_at (rows h) x.number ≡ Some x) (Has n facts) (rows h) (λ x own same. k.kept x (ap (row_at (rows h)) (sym same) ∙ own)) (each_found (rows h) s.apart);
      }

  noted_on : (h : History) (m : ℕ) (act : Act) (n : ℕ) (delta : List Part) (facts : RowFacts) → Legal reads h → Comes reads h m act → n ≤ last_number h → Noted h n delta facts → Noted (h ▸ record { moment = m; act = act }) n delta facts
  noted_on h m Fence n delta facts l may low k = record { noted = k.noted; kept = k.kept }
  noted_on h m (Create text) n delta facts l may low k = record { noted = k.noted; kept = k.kept }
  noted_on h m (Stage number d x) n delta facts l may low k =
      let next = stage_next reads h m number d x may in
      record {
        noted = rw (number_apart n number (λ e. omega (arith, e, next, low))) k.noted;
        kept = back (rows (h ▸ record { moment = m; act = Stage number d x })) n facts
            (AllOf-append (Has n facts) (rows h) (staged number (spans_of (last_opstamp h) d) x m ∷ []) (each_of h n delta facts l k).each ((λ same. absurd (omega (arith, same, next, low))), tt));
      }
  noted_on h m (Publish number) n delta facts l may low k =
      record {
        noted = k.noted;
        kept = back (rows (h ▸ record { moment = m; act = Publish number })) n facts
            (HoldRows-to (Has n facts) (Has n facts) (last_number h) (last_number h) (rows h) number published (λ x. refl) (omega arith) (λ x other p. p) (λ x same p. p) (each_of h n delta facts l k)).each;
      }
  noted_on h m (Replace new old upto) n delta facts l may low k =
      record {
        noted = k.noted;
        kept = back (rows (h ▸ record { moment = m; act = Replace new old upto })) n facts
            (HoldRows-to (Has n facts) (Has n facts) (last_number h) (last_number h) (change_each old (marked m) (rows h)) new (replacing (map (raised upto) (joined_spans (rows h) old)) (merged_ops (rows h) old)) (λ x. refl) (omega arith)
            (λ x other p. p) (λ x same p. p) (HoldRows-change_each (Has n facts) (last_number h) old (rows h) (marked m) (λ x. refl) (λ x p. p) (each_of h n delta facts l k))).each;
      }
  noted_on h m (Raise number upto) n delta facts l may low k =
      record {
        noted = k.noted;
        kept = back (rows (h ▸ record { moment = m; act = Raise number upto })) n facts
            (HoldRows-to (Has n facts) (Has n facts) (last_number h) (last_number h) (rows h) number (raised_row upto) (λ x. refl) (omega arith) (λ x other p. p) (λ x same p. p) (each_of h n delta facts l k)).each;
      }
  noted_on h m (Task opstamp text fields times) n delta facts l may low k = record { noted = k.noted; kept = k.kept }
  noted_on h m (MarkStaged numbers) n delta facts l may low k =
      record {
        noted = k.noted;
        kept = back (rows (h ▸ record { moment = m; act = MarkStaged numbers })) n facts (HoldRows-change_each (Has n facts) (last_number h) numbers (rows h) (marked m) (λ x. refl) (λ x p. p) (each_of h n delta facts l k)).each;
      }
  noted_on h m (Remove numbers) n delta facts l may low k =
      record {
        noted = k.noted;
        kept = back (rows (h ▸ record { moment = m; act = Remove numbers })) n facts (HoldRows-without_each (Has n facts) (last_number h) numbers (rows h) (each_of h n delta facts l k)).each;
      }
  noted_on h m (Retire numbers) n delta facts l may low k =
      record {
        noted = k.noted;
        kept = back (rows (h ▸ record { moment = m; act = Retire numbers })) n facts (HoldRows-change_each (Has n facts) (last_number h) numbers (rows h) (marked m) (λ x. refl) (λ x p. p) (each_of h n delta facts l k)).each;
      }

  pub HasStaged-more : (entries : List Entry) (entry : Entry) (n : ℕ) (delta : List Part) (facts : RowFacts) → Legal reads (history entries) → IsAllowed reads entries entry →
      HasStaged entries n delta facts → HasStaged (entries ++ entry ∷ []) n delta facts
  HasStaged-more entries entry n delta facts l a k =
      let on = noted_on (history entries) entry.moment entry.act n delta facts l a.1 (staged_le (history entries) n k.staged) (record { noted = k.noted; kept = k.kept }) in
      let there = subst (λ h. Noted h n delta facts) (sym (history-snoc entries entry)) on in
      record { staged = staged_more entries entry n k.staged; noted = there.noted; kept = there.kept }
