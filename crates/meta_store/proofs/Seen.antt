-- What the Published rows show of the log is what the ledger says.
use Rattle.std.proofs.Common.{◌≡◌, ℕ, ◌+◌, ◌≤◌, ◌&&◌, ◌||◌, Bool, true, false, not, List, [], ◌∷◌, ◌++◌, filter, flat_map, map, sum_by, nat_lt, IsPermutation, refl, ap, sym, ◌∙◌, inl, inr, arith}
use Rattle.std.specs.List.{list_any}
use Rattle.std.proofs.lemmas.Bool.{cases_Bool, or_parts}
use Rattle.std.proofs.lemmas.Grind.{flat_map-append}
use Rattle.std.proofs.lemmas.List.Sums.{sum_by-cons, sum_by-append}
use Rattle.std.proofs.lemmas.List.Sorted.{IsPermutation-trans}
use Rattle.meta_store.proofs.Covering.{one_if, once_at}
use Rattle.meta_store.proofs.Lists.{IsPermutation-flat_map, IsPermutation-same, alone_if, filter_is, flat_map-same, filters_joined}
use Rattle.delete_tasks.specs.Ledger.{Ledger}
use Rattle.delete_tasks.specs.Removed.{lies_in, Place, erased_by, erased_where}
use Rattle.delete_tasks.specs.Removes.{DeleteTask}
use Rattle.meta_store.specs.Readings.{Reads}
use Rattle.meta_store.specs.Contents.{Meaning, is_visible, visible, is_kept, contents, published_rows, published_contents}
use Rattle.meta_store.specs.History.{History}
use Rattle.meta_store.specs.Laws.{Once, published_spans, all_ranges, times_at}
use Rattle.meta_store.specs.Ledgers.{ledger}
use Rattle.meta_store.specs.Rows.{rows}
use Rattle.source_checkpoint.specs.Deltas.{range_of}
use Rattle.source_checkpoint.specs.declared.delta.Part.{Part}
use Rattle.source_checkpoint.specs.declared.span.Span.{Span}
use Rattle.split_states.specs.Rows.{is_published}
use Rattle.split_states.specs.declared.rows.Row.{Row}

module _ {X : Type 0} (meaning : Meaning X) (tasks : List DeleteTask) (x : X) where
  -- where the record stands
  abbrev here : Place
  here = meaning.place x

  -- how many of these spans have the record
  abbrev having : List Span → ℕ
  having spans = sum_by (λ s. one_if (lies_in (range_of s) here)) spans

  -- whether one of them erases it
  abbrev erased_among : List Span → Bool
  erased_among spans = list_any (λ s. lies_in (range_of s) here && erased_by (meaning.matches x) tasks s) spans

  -- a span's copy of the record
  abbrev copies : List Span → List X
  copies spans = flat_map (λ s. alone_if (is_kept meaning tasks s x) x) spans

  having_ranges : (spans : List Span) → having spans ≡ times_at here.partition here.offset (map range_of spans)
  having_ranges [] = refl
  having_ranges (s ∷ spans) =
      sum_by-cons (λ y. one_if (lies_in (range_of y) here)) s spans
      ∙ (ap (λ n. one_if (lies_in (range_of s) here) + n) (having_ranges spans)
      ∙ sym (sum_by-cons (λ r. one_if (lies_in r here)) (range_of s) (map range_of spans)))

  none_erased : (spans : List Span) → having spans ≡ 0 → erased_among spans ≡ false
  none_erased [] h = refl
  none_erased (s ∷ spans) h =
      let split = sum_by-cons (λ y. one_if (lies_in (range_of y) here)) s spans in
      elim (cases_Bool (lies_in (range_of s) here)) [
        | inl has ↦
            let head : one_if (lies_in (range_of s) here) ≡ 1 = rw has refl in
            absurd (omega (arith, split, head, h))
        | inr lacks ↦
            let head : one_if (lies_in (range_of s) here) ≡ 0 = rw lacks refl in
            let rest = none_erased spans (omega (arith, split, head, h)) in
            rw lacks rest
      ]

  copies_none : (spans : List Span) → having spans ≡ 0 → copies spans ≡ []
  copies_none [] h = refl
  copies_none (s ∷ spans) h =
      let split = sum_by-cons (λ y. one_if (lies_in (range_of y) here)) s spans in
      elim (cases_Bool (lies_in (range_of s) here)) [
        | inl has ↦
            let head : one_if (lies_in (range_of s) here) ≡ 1 = rw has refl in
            absurd (omega (arith, split, head, h))
        | inr lacks ↦
            let head : one_if (lies_in (range_of s) here) ≡ 0 = rw lacks refl in
            let rest = copies_none spans (omega (arith, split, head, h)) in
            rw lacks rest
      ]

  copies_one : (spans : List Span) → having spans ≡ 1 → copies spans ≡ alone_if (not (erased_among spans)) x
  copies_one [] h = absurd (omega (arith, h))
  copies_one (s ∷ spans) h =
      let split = sum_by-cons (λ y. one_if (lies_in (range_of y) here)) s spans in
      elim (cases_Bool (lies_in (range_of s) here)) [
        | inl has ↦
            let head : one_if (lies_in (range_of s) here) ≡ 1 = rw has refl in
            let behind : having spans ≡ 0 = omega (arith, split, head, h) in
            let rest = copies_none spans behind in
            let others = none_erased spans behind in
            rw (has, rest, others) (by_case (erased_by (meaning.matches x) tasks s))
        | inr lacks ↦
            let head : one_if (lies_in (range_of s) here) ≡ 0 = rw lacks refl in
            let rest = copies_one spans (omega (arith, split, head, h)) in
            rw lacks rest
      ]
    where
      by_case : (b : Bool) → alone_if (not b) x ++ [] ≡ alone_if (not (b || false)) x
      by_case true = refl
      by_case false = refl

any_counted : (x : Place) (ranges : List Part) → list_any (λ r. lies_in r x) ranges ≡ true → 1 ≤ times_at x.partition x.offset ranges
any_counted x [] h = cc
any_counted x (r ∷ ranges) h =
    let split = sum_by-cons (λ y. one_if (lies_in y x)) r ranges in
    elim (cases_Bool (lies_in r x)) [
      | inl has ↦ let head : one_if (lies_in r x) ≡ 1 = rw has refl in omega (arith, split, head)
      | inr lacks ↦ let rest = any_counted x ranges (rw lacks at h) in omega (arith, split, rest)
    ]

none_counted : (x : Place) (ranges : List Part) → list_any (λ r. lies_in r x) ranges ≡ false → times_at x.partition x.offset ranges ≡ 0
none_counted x [] h = refl
none_counted x (r ∷ ranges) h =
    let apart = or_parts (lies_in r x) (list_any (λ y. lies_in y x) ranges) h in
    let split = sum_by-cons (λ y. one_if (lies_in y x)) r ranges in
    let head : one_if (lies_in r x) ≡ 0 = rw apart.0 refl in
    split ∙ omega (arith, head, none_counted x ranges apart.1)

module _ {X : Type 0} (meaning : Meaning X) where
  -- the live spans have a record once if it is visible, and else not
  seen_once : (l : Ledger) (x : X) → times_at (meaning.place x).partition (meaning.place x).offset (all_ranges l) ≡ one_if (nat_lt (meaning.place x).offset (l.checkpoints (meaning.place x).partition)) → flat_map (λ s. alone_if (is_kept meaning l.tasks s x) x) l.spans ≡ alone_if (is_visible meaning l x) x
  seen_once l x once =
      let here : Place = meaning.place x in
      let parts = sum_by-append (λ r. one_if (lies_in r here)) (map range_of l.spans) l.retired in
      let live = having_ranges meaning l.tasks x l.spans in
      elim (cases_Bool (nat_lt here.offset (l.checkpoints here.partition))) [
        | inl below ↦
            let one : one_if (nat_lt here.offset (l.checkpoints here.partition)) ≡ 1 = rw below refl in
            elim (cases_Bool (list_any (λ r. lies_in r here) l.retired)) [
              | inl gone ↦
                  let counted = any_counted here l.retired gone in
                  let rest = copies_none meaning l.tasks x l.spans (omega (arith, parts, live, one, once, counted)) in
                  rest ∙ rw (below, gone) (by_or x (erased_where (meaning.matches x) l here))
              | inr stands ↦
                  let counted = none_counted here l.retired stands in
                  let rest = copies_one meaning l.tasks x l.spans (omega (arith, parts, live, one, once, counted)) in
                  rest ∙ rw (below, stands) (by_either x (erased_where (meaning.matches x) l here))
            ]
        | inr above ↦
            let none : one_if (nat_lt here.offset (l.checkpoints here.partition)) ≡ 0 = rw above refl in
            let rest = copies_none meaning l.tasks x l.spans (omega (arith, parts, live, none, once)) in
            rest ∙ rw above refl
      ]
    where
      by_or : (x : X) (b : Bool) → [] ≡ alone_if (true && not (b || true)) x
      by_or x true = refl
      by_or x false = refl

      by_either : (x : X) (b : Bool) → alone_if (not b) x ≡ alone_if (true && not (b || false)) x
      by_either x true = refl
      by_either x false = refl

  -- the rows' contents, span by span
  contents_by_span : (tasks : List DeleteTask) (records : List X) (rows : List Row) → flat_map (contents meaning tasks records) (published_rows rows) ≡ flat_map (λ s. filter (is_kept meaning tasks s) records) (published_spans rows)
  contents_by_span tasks records [] = refl
  contents_by_span tasks records (row ∷ rows) =
      let rest = contents_by_span tasks records rows in
      let piece : Span → List X = λ s. filter (is_kept meaning tasks s) records in
      elim (cases_Bool (is_published row.state)) [
        | inl open' ↦ rw open' (ap (λ l. contents meaning tasks records row ++ l) rest ∙ sym (flat_map-append piece row.spans (published_spans rows)))
        | inr hidden ↦ rw hidden rest
      ]

  pub published_is_visible : (reads : Reads) (h : History) (records : List X) → Once reads h → IsPermutation (published_contents meaning reads h records) (visible meaning (ledger reads h) records)
  published_is_visible reads h records once =
      let l : Ledger = ledger reads h in
      let piece : Span → List X = λ s. filter (is_kept meaning l.tasks s) records in
      let by_rows : IsPermutation (published_contents meaning reads h records) (flat_map piece (published_spans (rows h))) = IsPermutation-same _ _ (contents_by_span l.tasks records (rows h)) in
      let by_ledger : IsPermutation (flat_map piece (published_spans (rows h))) (flat_map piece l.spans) = IsPermutation-flat_map piece (published_spans (rows h)) l.spans once.each_once in
      let by_record : IsPermutation (flat_map piece l.spans) (flat_map (λ x. flat_map (λ s. alone_if (is_kept meaning l.tasks s x) x) l.spans) records) = filters_joined (is_kept meaning l.tasks) l.spans records in
      let seen : flat_map (λ x. flat_map (λ s. alone_if (is_kept meaning l.tasks s x) x) l.spans) records ≡ visible meaning l records =
      flat_map-same _ _ records (λ x. seen_once l x (once_at (meaning.place x).partition (meaning.place x).offset (l.checkpoints (meaning.place x).partition) (all_ranges l) (once.covers (meaning.place x).partition))) ∙ filter_is (is_visible meaning l) records in
      IsPermutation-trans _ _ _ by_rows (IsPermutation-trans _ _ _ by_ledger (IsPermutation-trans _ _ _ by_record (IsPermutation-same _ _ seen)))
