use Rattle.std.proofs.Common.{◌≡◌, ◌∙◌, ◌<◌, ℕ, List, [], inl, sym, subst, length, false}
use Rattle.std.specs.List.{All}
use Rattle.doc_sets.specs.Faults.{LacksPart}
use Rattle.doc_sets.proofs.Causes.{cause_wider, handed_on}
use Rattle.leaf_search.specs.FileRanges.{AddsParts, AreRangesOf}
use Rattle.leaf_search.specs.Shown.{AreFew, BytesOf, NeedsShown, NeedsStarts, OfEach, StartOf, are_few, shown_of}
use Rattle.leaf_search.specs.declared.file_ranges.FileRange.{FileRange}
use Rattle.leaf_search.proofs.RangeLists.{ranges_of}
use Rattle.leaf_search.proofs.ShownParts.{Says, few_below, none_named, shown_named}
use Rattle.leaf_search.proofs.shown.documents_needed.Goals as goal
use Rattle.leaf_search.proofs.shown.documents_needed.Goals.{in-Some+in_ok-name_shown-in-Some, in-None}

pub returns-in_err-name_shown-in-Some-clause-only : goal.returns-in_err-name_shown-in-Some-clause-only
returns-in_err-name_shown-in-Some-clause-only c = λ s documents p r part says.
    let v = c.args.view.now in
    let ns = c.as_slice.result.now in
    let e = c.in_err-name_shown-in-Some.field-0.0 in
    let few : AreFew s r documents c.in-Some.numbers.items = subst (Says s r documents) c.in-Some.is says in
    let same : ns ≡ shown_of s r documents = c.as_slice.ensures.value ∙ few.1 in
    let below : All (λ n. n < length documents) ns = few_below s r documents ns (few.0, same) in
    handed_on (AreRangesOf (NeedsShown s documents p r)) (LacksPart (NeedsStarts v s documents r) v.pieces) c.from_residual.result e c.from_residual.ensures.1
    (cause_wider (OfEach StartOf ns) (NeedsStarts v s documents r) v.pieces e (λ at len h. inl (few.0, subst (λ (l : List ℕ). OfEach StartOf l at len) same h)) (c.in_err-name_shown-in-Some.ensures s documents p part below))

pub returns-clause-only : goal.returns-clause-only
returns-clause-only c = λ s documents p r part says.
    let v = c.args.view.now in
    let adds : AddsParts (NeedsShown s documents p r) [] c.match-few.ranges = elim c.match-few.branch [
      | in-Some+in_ok-name_shown-in-Some w ↦
          let ns = w.as_slice.result.now in
          let few : AreFew s r documents w.in-Some.numbers.items = subst (Says s r documents) w.in-Some.is says in
          let same : ns ≡ shown_of s r documents = w.as_slice.ensures.value ∙ few.1 in
          let below : All (λ n. n < length documents) ns = few_below s r documents ns (few.0, same) in
          let named : AddsParts (OfEach (BytesOf p documents) ns) [] w.name_shown.new.ranges =
          subst (λ (old : List FileRange). AddsParts (OfEach (BytesOf p documents) ns) old w.name_shown.new.ranges) c.vacant-ranges.ensures (w.in_ok-name_shown-in-Some.ensures s documents p part below) in
          subst (λ (rs : List FileRange). AddsParts (NeedsShown s documents p r) [] rs) (sym w.ranges-is) (shown_named v s r documents p ns w.name_shown.new.ranges (few.0, same) named)
      | in-None w ↦
          let many : are_few s r documents ≡ false = subst (Says s r documents) w.in-None.is says in
          subst (λ (rs : List FileRange). AddsParts (NeedsShown s documents p r) [] rs) (sym (w.ranges-is ∙ c.vacant-ranges.ensures)) (none_named v s r documents p many)
    ] in
    ranges_of (NeedsShown s documents p r) c.match-few.ranges c.in_ok-joined.field-0 adds c.in_ok-joined.ensures.apart c.in_ok-joined.ensures.cover c.in_ok-joined.ensures.only
