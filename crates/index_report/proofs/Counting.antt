-- The counts of one row more.
use Rattle.std.proofs.Common.{◌≡◌, ℕ, ◌+◌, ◌<◌, List, [], ◌∷◌, true, false, length, get_or, take, ap, arith}
use Rattle.std.proofs.lemmas.List.Elements.{filter_more}
use Rattle.std.proofs.lemmas.List.Sums.{count_by_more_yes, count_by_more_no, sum_by-append}
use Rattle.std.specs.Prelude.{sum_by}
use Rattle.split_states.specs.declared.rows.RowState.{RowState}
use Rattle.split_states.specs.declared.rows.RowState.TheVariants.{Staged, Published, Marked}
use Rattle.split_states.specs.declared.rows.Row.{Row}
use Rattle.split_states.specs.Rows.{is_published}
use Rattle.index_report.specs.Reports.{is_staged, is_marked, published}
use Rattle.index_report.specs.Counts.{counts_of, counted}

with_one : (f : Row → ℕ) (rows : List Row) (i : ℕ) (d : Row) → i < length rows → is_published (get_or rows i d).state ≡ true
    → sum_by f (published (take (i + 1) rows)) ≡ sum_by f (published (take i rows)) + f (get_or rows i d)
with_one f rows i d h e =
    rw (filter_more (λ (row : Row). is_published row.state) rows i d h, e) (omega (arith, sum_by-append f (published (take i rows)) (get_or rows i d ∷ [])))

without_one : (f : Row → ℕ) (rows : List Row) (i : ℕ) (d : Row) → i < length rows → is_published (get_or rows i d).state ≡ false
    → sum_by f (published (take (i + 1) rows)) ≡ sum_by f (published (take i rows))
without_one f rows i d h e =
    rw (filter_more (λ (row : Row). is_published row.state) rows i d h, e) (omega (arith, sum_by-append f (published (take i rows)) []))

pub counts_more : (s : RowState) (rows : List Row) (i : ℕ) (d : Row) → i < length rows → (get_or rows i d).state ≡ s
    → counts_of (take (i + 1) rows) ≡ counted s (get_or rows i d).facts (counts_of (take i rows))
counts_more Staged rows i d h e =
    let staged = count_by_more_yes (λ (row : Row). is_staged row.state) rows i d h (ap is_staged e) in
    let published = count_by_more_no (λ (row : Row). is_published row.state) rows i d h (ap is_published e) in
    let marked = count_by_more_no (λ (row : Row). is_marked row.state) rows i d h (ap is_marked e) in
    let docs = without_one (λ (row : Row). row.facts.docs) rows i d h (ap is_published e) in
    let rejected = without_one (λ (row : Row). row.facts.rejected) rows i d h (ap is_published e) in
    λ j. record { staged = staged j; published = published j; marked = marked j; docs = docs j; rejected = rejected j }
counts_more Published rows i d h e =
    let staged = count_by_more_no (λ (row : Row). is_staged row.state) rows i d h (ap is_staged e) in
    let published = count_by_more_yes (λ (row : Row). is_published row.state) rows i d h (ap is_published e) in
    let marked = count_by_more_no (λ (row : Row). is_marked row.state) rows i d h (ap is_marked e) in
    let docs = with_one (λ (row : Row). row.facts.docs) rows i d h (ap is_published e) in
    let rejected = with_one (λ (row : Row). row.facts.rejected) rows i d h (ap is_published e) in
    λ j. record { staged = staged j; published = published j; marked = marked j; docs = docs j; rejected = rejected j }
counts_more Marked rows i d h e =
    let staged = count_by_more_no (λ (row : Row). is_staged row.state) rows i d h (ap is_staged e) in
    let published = count_by_more_no (λ (row : Row). is_published row.state) rows i d h (ap is_published e) in
    let marked = count_by_more_yes (λ (row : Row). is_marked row.state) rows i d h (ap is_marked e) in
    let docs = without_one (λ (row : Row). row.facts.docs) rows i d h (ap is_published e) in
    let rejected = without_one (λ (row : Row). row.facts.rejected) rows i d h (ap is_published e) in
    λ j. record { staged = staged j; published = published j; marked = marked j; docs = docs j; rejected = rejected j }
