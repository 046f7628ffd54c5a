-- The spans of rows that were shown end within the checkpoints.
use Rattle.std.proofs.Common.{◌≡◌, ℕ, ◌≤◌, ◌<◌, ◌==◌, ◌||◌, Bool, true, false, List, [], ◌∷◌, ◌++◌, map, Option, Some, None, refl, sym, ap, ◌∙◌, subst, arith, eq-eqb}
use Rattle.std.proofs.lemmas.List.Folds.{list_any-append}
use Rattle.std.specs.Cmp.Lexicographic.{bytes_decides}
use Rattle.std.specs.List.{AllByRecursion, list_any}
use Rattle.std.specs.Prelude.{bytes_eq, if◌then◌else◌}
use Rattle.meta_journal.specs.declared.entry.Act.{Act}
use Rattle.meta_journal.specs.declared.entry.Act.TheVariants.{Fence, Create, Stage, Publish, Replace, Raise, Task, MarkStaged, Remove, Retire}
use Rattle.meta_store.proofs.ByWords.{in_words}
use Rattle.meta_store.proofs.RowLists.{AllOf, AllOf-append, AllOf-weaker, AllOf-both, HoldRows, HoldRows-to, HoldRows-change_each, HoldRows-without_each, the_row}
use Rattle.meta_store.proofs.Sound.{sound}
use Rattle.meta_store.specs.History.{History, shown_numbers, delta_of, stamp_of, last_number, last_opstamp}
use Rattle.meta_store.specs.History.History.{Start, ◌▸◌}
use Rattle.meta_store.specs.Ledgers.{ledger}
use Rattle.meta_store.specs.Readings.{Reads, reading_of, config_of}
use Rattle.meta_store.specs.Rows.{rows}
use Rattle.meta_store.specs.State.{Legal, MayCome, state_of}
use Rattle.meta_store.specs.declared.config.Config.{Config}
use Rattle.source_checkpoint.specs.Deltas.{Partition, Names, IsDelta, MayAdmit, moved, raised, spans_of}
use Rattle.source_checkpoint.specs.declared.delta.Part.{Part}
use Rattle.source_checkpoint.specs.declared.span.Span.{Span}
use Rattle.split_states.specs.Answers.{IsIn}
use Rattle.split_states.specs.Rows.{row_at, row_spans, joined_spans, published, marked, raised_row, replacing, staged, merged_ops, change_each, without_each}
use Rattle.split_states.specs.declared.rows.Row.{Row}
use Rattle.split_states.specs.declared.rows.RowState.TheVariants.{Published}
use Rattle.meta_store.proofs.Numbers.{admitted, each_found, found_of, fresh_spans, is_row, last_shown, old_rows, published_marked, shown_le, shown_same, stage_next, staged_marked, staged_published, staged_row, true_false}
use Rattle.meta_store.specs.Numbers.{Comes, EndsWithin, IsPlaced, is_shown}

-- ---- checkpoints

same_bytes : (p q : Partition) → bytes_eq p q ≡ true → p ≡ q
same_bytes p q e = (bytes_decides p q).0 e

moved_ge : (delta : List Part) (checkpoints : Partition → ℕ) (p : Partition) → MayAdmit delta checkpoints → checkpoints p ≤ moved delta checkpoints p
moved_ge [] checkpoints p may = omega arith
moved_ge (part ∷ delta) checkpoints p may = by (bytes_eq part.partition p) refl (moved_ge delta checkpoints p (may.0.2, may.1.1))
  where
    by : (b : Bool) → bytes_eq part.partition p ≡ b → checkpoints p ≤ moved delta checkpoints p → checkpoints p ≤ (if bytes_eq part.partition p then part.to else moved delta checkpoints p)
    by true e more =
        let from : part.from ≡ checkpoints part.partition = may.1.0 in
        let forward : part.from < part.to = may.0.0 in
        let same : checkpoints part.partition ≡ checkpoints p = ap checkpoints (same_bytes part.partition p e) in
        rw e (omega (arith, from, forward, same))
    by false e more = rw e more

-- a partition that no part names is another than each part's
unnamed : (parts : List Part) (p : Partition) → Names parts p ≡ false → AllOf (λ part. bytes_eq p part.partition ≡ false) parts
unnamed [] p e = tt
unnamed (part ∷ parts) p e = by (bytes_eq part.partition p) refl (unnamed parts p)
  where
    other : (b : Bool) → bytes_eq p part.partition ≡ b → bytes_eq part.partition p ≡ false → bytes_eq p part.partition ≡ false
    other false eb away = eb
    other true eb away =
        let same : p ≡ part.partition = same_bytes p part.partition eb in
        absurd (true_false (sym (sym (ap (λ q. bytes_eq q p) same) ∙ ap (λ q. bytes_eq p q) same ∙ eb) ∙ away))

    by : (b : Bool) → bytes_eq part.partition p ≡ b → (Names parts p ≡ false → AllOf (λ part. bytes_eq p part.partition ≡ false) parts) → AllOf (λ part. bytes_eq p part.partition ≡ false) (part ∷ parts)
    by true eb more = let bad : true ≡ false = rw eb at e in absurd (true_false bad)
    by false eb more = let rest : Names parts p ≡ false = rw eb at e in (other (bytes_eq p part.partition) refl eb, more rest)

itself : (p : Partition) → bytes_eq p p ≡ true
itself p = (bytes_decides p p).1 refl

ends_of : (delta : List Part) (checkpoints : Partition → ℕ) → IsDelta delta → AllOf (λ part. part.to ≤ moved delta checkpoints part.partition) delta
ends_of [] checkpoints is = tt
ends_of (part ∷ delta) checkpoints is = (
  (let first : (if bytes_eq part.partition part.partition then part.to else moved delta checkpoints part.partition) ≡ part.to = rw (itself part.partition) refl in omega (arith, first)),
  AllOf-weaker (λ q. (q.to ≤ moved delta checkpoints q.partition) × (bytes_eq part.partition q.partition ≡ false)) (λ q. q.to ≤ moved (part ∷ delta) checkpoints q.partition) delta
      (λ q b. rw b.1 b.0)
      (AllOf-both (λ q. q.to ≤ moved delta checkpoints q.partition) (λ q. bytes_eq part.partition q.partition ≡ false) delta (ends_of delta checkpoints is.2) (unnamed delta part.partition is.1)),
)

-- ---- rows

spans_within : (k : ℕ) (checkpoints : Partition → ℕ) (delta : List Part) → AllOf (λ part. part.to ≤ checkpoints part.partition) delta → AllOf (EndsWithin checkpoints) (spans_of k delta)
spans_within k checkpoints [] h = tt
spans_within k checkpoints (part ∷ delta) h = (h.0, spans_within k checkpoints delta h.1)

raised_within : (upto : ℕ) (checkpoints : Partition → ℕ) (spans : List Span) → AllOf (EndsWithin checkpoints) spans → AllOf (EndsWithin checkpoints) (map (raised upto) spans)
raised_within upto checkpoints [] h = tt
raised_within upto checkpoints (s ∷ spans) h = (h.0, raised_within upto checkpoints spans h.1)

module _ (reads : Reads) where
  joined_within : (h : History) (checkpoints : Partition → ℕ) (old : List ℕ) → AllOf (IsPlaced reads h) (rows h) → AllByRecursion (IsIn Published (rows h)) old → ((p : Partition) → (ledger reads h).checkpoints p ≤ checkpoints p) →
      AllOf (EndsWithin checkpoints) (joined_spans (rows h) old)
  joined_within h checkpoints [] all p le = tt
  joined_within h checkpoints (n ∷ old) all p le =
      let r = the_row (row_at (rows h) n) _ p.0 in
      let f = found_of (IsPlaced reads h) (rows h) n r.0 r.1 all in
      let mine : AllOf (EndsWithin checkpoints) r.0.spans =
      AllOf-weaker (EndsWithin (ledger reads h).checkpoints) (EndsWithin checkpoints) r.0.spans (λ s e. let low = le s.partition in omega (arith, e, low)) (f.0.within (f.0.published r.2.0)) in
      let same : r.0.spans ≡ row_spans (row_at (rows h) n) = ap row_spans (sym r.1) in
      AllOf-append (EndsWithin checkpoints) (row_spans (row_at (rows h) n)) (joined_spans (rows h) old) (subst (AllOf (EndsWithin checkpoints)) same mine) (joined_within h checkpoints old all p.1 le)

  -- a row that stands as it did, behind an entry that shows no number and moves no checkpoint back
  placed_as : (h next : History) (row other : Row) → other.number ≡ row.number → other.state ≡ row.state → shown_numbers next ≡ shown_numbers h →
      ((p : Partition) → (ledger reads h).checkpoints p ≤ (ledger reads next).checkpoints p) → (AllOf (EndsWithin (ledger reads h).checkpoints) row.spans → AllOf (EndsWithin (ledger reads h).checkpoints) other.spans) →
      IsPlaced reads h row → IsPlaced reads next other
  placed_as h next row other number state shows le spans k =
      let same : is_shown next other.number ≡ is_shown h row.number = ap (list_any (λ m. m == other.number)) shows ∙ ap (is_shown h) number in
      record {
        fresh = λ e. same ∙ k.fresh (sym state ∙ e);
        published = λ e. same ∙ k.published (sym state ∙ e);
        within = λ e. AllOf-weaker (EndsWithin (ledger reads h).checkpoints) (EndsWithin (ledger reads next).checkpoints) other.spans (λ s w. let low = le s.partition in omega (arith, w, low)) (spans (k.within (sym same ∙ e)));
      }

  -- another row, behind an entry that shows this number
  placed_other : (h next : History) (n : ℕ) (row : Row) → shown_numbers next ≡ shown_numbers h ++ n ∷ [] → (row.number == n) ≡ false → ((p : Partition) → (ledger reads h).checkpoints p ≤ (ledger reads next).checkpoints p) →
      IsPlaced reads h row → IsPlaced reads next row
  placed_other h next n row shows other le k =
      let same : is_shown next row.number ≡ is_shown h row.number = ap (list_any (λ m. m == row.number)) shows ∙ shown_same (shown_numbers h) n row.number other in
      record {
        fresh = λ e. same ∙ k.fresh e;
        published = λ e. same ∙ k.published e;
        within = λ e. AllOf-weaker (EndsWithin (ledger reads h).checkpoints) (EndsWithin (ledger reads next).checkpoints) row.spans (λ s w. let low = le s.partition in omega (arith, w, low)) (k.within (sym same ∙ e));
      }

  -- a row that is marked, whatever it was
  placed_marked : (h : History) (m : ℕ) (row : Row) → IsPlaced reads h row → IsPlaced reads h (marked m row)
  placed_marked h m row k = record { fresh = λ e. absurd (staged_marked (sym e)); published = λ e. absurd (published_marked (sym e)); within = k.within }

module _ (reads : Reads) (h : History) (m : ℕ) (legal : Legal reads h) (all : AllOf (IsPlaced reads h) (rows h)) where
  abbrev stays : (p : Partition) → (ledger reads h).checkpoints p ≤ (ledger reads h).checkpoints p
  stays p = omega arith

  holds : HoldRows (IsPlaced reads h) (last_number h) (rows h)
  holds = let s = (sound reads h legal).held in record { apart = s.apart; below = s.below; each = all }

  owns : HoldRows (λ x. IsPlaced reads h x × (row_at (rows h) x.number ≡ Some x)) (last_number h) (rows h)
  owns =
      let s = (sound reads h legal).held in
      record { apart = s.apart; below = s.below; each = AllOf-both (IsPlaced reads h) (λ x. row_at (rows h) x.number ≡ Some x) (rows h) all (each_found (rows h) s.apart) }

  same_rows : (next : History) (list : List Row) → shown_numbers next ≡ shown_numbers h → ((p : Partition) → (ledger reads h).checkpoints p ≤ (ledger reads next).checkpoints p) → AllOf (IsPlaced reads h) list → AllOf (IsPlaced reads next) list
  same_rows next list shows le each = AllOf-weaker (IsPlaced reads h) (IsPlaced reads next) list (λ row k. placed_as reads h next row row refl refl shows le (λ w. w) k) each

  placed_act : (act : Act) → Comes reads h m act → AllOf (IsPlaced reads (h ▸ record { moment = m; act = act })) (rows (h ▸ record { moment = m; act = act }))
  placed_act Fence may = same_rows (h ▸ record { moment = m; act = Fence }) (rows h) refl stays all
  placed_act (Create text) may = same_rows (h ▸ record { moment = m; act = Create text }) (rows h) refl stays all
  placed_act (Stage number delta facts) may =
      let next : History = h ▸ record { moment = m; act = Stage number delta facts } in
      let unshown : is_shown h number ≡ false = never (is_shown h number) refl in
      AllOf-append (IsPlaced reads next) (rows h) (staged number (spans_of (last_opstamp h) delta) facts m ∷ []) (same_rows next (rows h) refl stays all)
      (record { fresh = λ e. unshown; published = λ e. absurd (staged_published e); within = λ e. absurd (true_false (sym e ∙ unshown)) }, tt)
    where
      never : (b : Bool) → is_shown h number ≡ b → is_shown h number ≡ false
      never false e = e
      never true e = let low = shown_le reads h number legal e in let next = stage_next reads h m number delta facts may in absurd (omega (arith, low, next))
  placed_act (Publish number) may =
      let next : History = h ▸ record { moment = m; act = Publish number } in
      let admit = admitted reads h m number legal may in
      let le : (p : Partition) → (ledger reads h).checkpoints p ≤ (ledger reads next).checkpoints p = λ p. moved_ge (delta_of h number) (ledger reads h).checkpoints p admit in
      let r = staged_row reads h m number may in
      (HoldRows-to (λ x. IsPlaced reads h x × (row_at (rows h) x.number ≡ Some x)) (IsPlaced reads next) (last_number h) (last_number h) (rows h) number published (λ x. refl) (omega arith)
      (λ x other o. placed_other reads h next number x refl other le o.0)
      (λ x same o.
      let this : x ≡ r.0 = is_row (rows h) number r.0 x r.1 o.1 same in
      let spans : x.spans ≡ spans_of (stamp_of h number) (delta_of h number) = ap (λ (y : Row). y.spans) this ∙ fresh_spans reads h number r.0 legal r.1 r.2 in
      record {
        fresh = λ e. absurd (staged_published (sym e));
        published = λ e. last_shown (shown_numbers h) number x.number same;
        within = λ e. subst (AllOf (EndsWithin (ledger reads next).checkpoints)) (sym spans)
            (spans_within (stamp_of h number) (ledger reads next).checkpoints (delta_of h number) (ends_of (delta_of h number) (ledger reads h).checkpoints admit.0));
      }) owns).each
  placed_act (Replace new old upto) may =
      let next : History = h ▸ record { moment = m; act = Replace new old upto } in
      (HoldRows-to (IsPlaced reads h) (IsPlaced reads next) (last_number h) (last_number h) (change_each old (marked m) (rows h)) new (replacing (map (raised upto) (joined_spans (rows h) old)) (merged_ops (rows h) old)) (λ x. refl) (omega arith)
      (λ x other k. placed_other reads h next new x refl other stays k)
      (λ x same k. record {
        fresh = λ e. absurd (staged_published (sym e));
        published = λ e. last_shown (shown_numbers h) new x.number same;
        within = λ e. raised_within upto (ledger reads next).checkpoints (joined_spans (rows h) old) (joined_within reads h (ledger reads next).checkpoints old all (old_rows reads h m new old upto may) stays);
      })
      (HoldRows-change_each (IsPlaced reads h) (last_number h) old (rows h) (marked m) (λ x. refl) (λ x k. placed_marked reads h m x k) holds)).each
  placed_act (Raise number upto) may =
      let next : History = h ▸ record { moment = m; act = Raise number upto } in
      (HoldRows-to (IsPlaced reads h) (IsPlaced reads next) (last_number h) (last_number h) (rows h) number (raised_row upto) (λ x. refl) (omega arith)
      (λ x other k. placed_as reads h next x x refl refl refl stays (λ w. w) k)
      (λ x same k. placed_as reads h next x (raised_row upto x) refl refl refl stays (λ w. raised_within upto (ledger reads h).checkpoints x.spans w) k) holds).each
  placed_act (Task opstamp text fields times) may = same_rows (h ▸ record { moment = m; act = Task opstamp text fields times }) (rows h) refl stays all
  placed_act (MarkStaged numbers) may =
      same_rows (h ▸ record { moment = m; act = MarkStaged numbers }) (change_each numbers (marked m) (rows h)) refl stays
      (HoldRows-change_each (IsPlaced reads h) (last_number h) numbers (rows h) (marked m) (λ x. refl) (λ x k. placed_marked reads h m x k) holds).each
  placed_act (Remove numbers) may =
      same_rows (h ▸ record { moment = m; act = Remove numbers }) (without_each numbers (rows h)) refl stays (HoldRows-without_each (IsPlaced reads h) (last_number h) numbers (rows h) holds).each
  placed_act (Retire numbers) may =
      same_rows (h ▸ record { moment = m; act = Retire numbers }) (change_each numbers (marked m) (rows h)) refl stays
      (HoldRows-change_each (IsPlaced reads h) (last_number h) numbers (rows h) (marked m) (λ x. refl) (λ x k. placed_marked reads h m x k) holds).each

-- EACH ROW of a legal history is placed
pub placed : (reads : Reads) (h : History) → Legal reads h → AllOf (IsPlaced reads h) (rows h)
placed reads Start legal = tt
placed reads (h ▸ e) legal = placed_act reads h e.moment legal.0 (placed reads h legal.0) e.act legal.1.1
