-- Ranges that are retired, as they are kept.
use Rattle.std.proofs.Common.{◌≡◌, ℕ, ◌+◌, ◌<◌, suc, List, [], ◌∷◌, ◌++◌, length, map, take, drop, get_or, set, refl, sym, ap, ◌∙◌, arith, subst}
use Rattle.std.proofs.lemmas.List.{take-append-drop, take-set, drop-set, map-append, length-append}
use Rattle.std.proofs.Math.Seq.{drop-cons}
use Rattle.source_checkpoint.specs.declared.delta.Part.{Part}
use Rattle.source_checkpoint.specs.declared.span.Span.{Span}
use Rattle.source_checkpoint.specs.Deltas.{range_of}
use Rattle.split_states.specs.Rows.{row_at, row_spans, joined_spans}
use Rattle.split_states.specs.declared.rows.Row.{Row}
use Rattle.meta_store.specs.Retired.{with_range, with_ranges}

pub ranges_more : (some more ranges : List Part) → with_ranges (some ++ more) ranges ≡ with_ranges more (with_ranges some ranges)
ranges_more [] more ranges = refl
ranges_more (r ∷ some) more ranges = ranges_more some more (with_range r ranges)

set_parts : {X : Type 0} (xs : List X) (i : ℕ) (y : X) → i < length xs → set xs i y ≡ take i xs ++ y ∷ drop (i + 1) xs
set_parts xs i y lt =
    sym (take-append-drop i (set xs i y))
    ∙ (ap (λ l. l ++ drop i (set xs i y)) (take-set xs i y) ∙ ap (λ l. take i xs ++ l) (drop-set xs i y lt))

pub next_of : {X : Type 0} (xs : List X) (i : ℕ) (x : X) → i < length xs → x ≡ get_or xs i x → drop i xs ≡ x ∷ drop (i + 1) xs
next_of xs i x lt is =
    let one : suc i ≡ i + 1 = omega arith in
    subst (λ y. drop i xs ≡ y ∷ drop (i + 1) xs) (sym is) (subst (λ j. drop i xs ≡ get_or xs i x ∷ drop j xs) one (drop-cons xs i x lt))

pub same_head : (whole more : List Part) (a b : Part) → whole ≡ a ∷ more → whole ≡ b ∷ more → a ≡ b
same_head whole more a b e f = let g : a ∷ more ≡ b ∷ more = sym e ∙ f in cc g

-- the kept range at this place begins where the other ends
pub begins_there : (r s t : Part) (ranges : List Part) (i : ℕ) → i < length ranges → s ≡ get_or ranges i s → t ≡ get_or ranges i t →
    ((more : List Part) → with_range r (s ∷ more) ≡ record s { from = r.from } ∷ more) →
    set ranges i (record t { from = r.from }) ≡ take i ranges ++ with_range r (drop i ranges)
begins_there r s t ranges i lt is_s is_t joins =
    let head : drop i ranges ≡ s ∷ drop (i + 1) ranges = next_of ranges i s lt is_s in
    let same : s ≡ t = same_head (drop i ranges) (drop (i + 1) ranges) s t head (next_of ranges i t lt is_t) in
    set_parts ranges i (record t { from = r.from }) lt
    ∙ (ap (λ x. take i ranges ++ record x { from = r.from } ∷ drop (i + 1) ranges) (sym same)
    ∙ (ap (λ l. take i ranges ++ l) (sym (joins (drop (i + 1) ranges))) ∙ ap (λ l. take i ranges ++ with_range r l) (sym head)))

-- the spans of the row of the number at this place come first
pub joined_next : (rows : List Row) (numbers : List ℕ) (i : ℕ) → i < length numbers →
    joined_spans rows (drop i numbers) ≡ row_spans (row_at rows (get_or numbers i 0)) ++ joined_spans rows (drop (i + 1) numbers)
joined_next rows numbers i lt =
    let one : suc i ≡ i + 1 = omega arith in
    ap (joined_spans rows) (subst (λ j. drop i numbers ≡ get_or numbers i 0 ∷ drop j numbers) one (drop-cons numbers i 0 lt))

pub retired_next : (rows : List Row) (numbers : List ℕ) (i : ℕ) (ranges more : List Part) → i < length numbers →
    more ≡ with_ranges (map range_of (row_spans (row_at rows (get_or numbers i 0)))) ranges →
    with_ranges (map range_of (joined_spans rows (drop (i + 1) numbers))) more ≡ with_ranges (map range_of (joined_spans rows (drop i numbers))) ranges
retired_next rows numbers i ranges more lt e =
    let spans : List Span = row_spans (row_at rows (get_or numbers i 0)) in
    let rest : List Span = joined_spans rows (drop (i + 1) numbers) in
    ap (with_ranges (map range_of rest)) e
    ∙ (sym (ranges_more (map range_of spans) (map range_of rest) ranges)
    ∙ (ap (λ l. with_ranges l ranges) (sym (map-append range_of spans rest))
    ∙ ap (λ l. with_ranges (map range_of l) ranges) (sym (joined_next rows numbers i lt))))

pub spans_long : (rows : List Row) (numbers : List ℕ) (i : ℕ) → i < length numbers →
    length (joined_spans rows (drop i numbers)) ≡ length (row_spans (row_at rows (get_or numbers i 0))) + length (joined_spans rows (drop (i + 1) numbers))
spans_long rows numbers i lt = ap length (joined_next rows numbers i lt) ∙ length-append (row_spans (row_at rows (get_or numbers i 0))) (joined_spans rows (drop (i + 1) numbers))

-- the range of the span at this place comes first
pub ranges_next : (spans : List Span) (i : ℕ) (s : Span) (ranges more : List Part) → i < length spans → s ≡ get_or spans i s → more ≡ with_range (range_of s) ranges →
    with_ranges (map range_of (drop (i + 1) spans)) more ≡ with_ranges (map range_of (drop i spans)) ranges
ranges_next spans i s ranges more lt is e =
    ap (with_ranges (map range_of (drop (i + 1) spans))) e ∙ ap (λ l. with_ranges (map range_of l) ranges) (sym (next_of spans i s lt is))
