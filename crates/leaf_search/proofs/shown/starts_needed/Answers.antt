use Rattle.std.proofs.Common.{◌≡◌, ◌∙◌, List, [], sym, subst, false}
use Rattle.leaf_search.specs.FileRanges.{AddsParts}
use Rattle.leaf_search.specs.Needs.{NeedsDocuments}
use Rattle.leaf_search.specs.Shown.{AreFew, NeedsStarts, OfEach, StartOf, are_few, shown_of}
use Rattle.leaf_search.specs.declared.file_ranges.FileRange.{FileRange}
use Rattle.leaf_search.proofs.RangeLists.{joined_ranges}
use Rattle.leaf_search.proofs.ShownParts.{Says, section_named, starts_named}
use Rattle.leaf_search.proofs.shown.starts_needed.Goals as goal
use Rattle.leaf_search.proofs.shown.starts_needed.Goals.{in-Some+in_ok-name_starts-in-Some, in-None+in_ok-name_documents-in-None}

pub returns-clause-only : goal.returns-clause-only
returns-clause-only c = λ s documents p part says.
    let v = c.args.view.now in
    let r = c.args.request.now in
    let adds : AddsParts (NeedsStarts v s documents r) [] c.match-few.ranges = elim c.match-few.branch [
      | in-Some+in_ok-name_starts-in-Some w ↦
          let ns = w.as_slice.result.now in
          let few : AreFew s r documents w.in-Some.numbers.items = subst (Says s r documents) w.in-Some.is says in
          let same : ns ≡ shown_of s r documents = w.as_slice.ensures.value ∙ few.1 in
          let named : AddsParts (OfEach StartOf ns) [] w.name_starts.new.ranges =
          subst (λ (old : List FileRange). AddsParts (OfEach StartOf ns) old w.name_starts.new.ranges) c.vacant-ranges.ensures w.in_ok-name_starts-in-Some.ensures in
          subst (λ (rs : List FileRange). AddsParts (NeedsStarts v s documents r) [] rs) (sym w.ranges-is) (starts_named v s r documents p ns w.name_starts.new.ranges (few.0, same) named)
      | in-None+in_ok-name_documents-in-None w ↦
          let many : are_few s r documents ≡ false = subst (Says s r documents) w.in-None.is says in
          let named : AddsParts (NeedsDocuments v r) [] w.name_documents.new.ranges =
          subst (λ (old : List FileRange). AddsParts (NeedsDocuments v r) old w.name_documents.new.ranges) c.vacant-ranges.ensures w.in_ok-name_documents-in-None.ensures in
          subst (λ (rs : List FileRange). AddsParts (NeedsStarts v s documents r) [] rs) (sym w.ranges-is) (section_named v s r documents p w.name_documents.new.ranges many named)
    ] in
    joined_ranges (NeedsStarts v s documents r) c.match-few.ranges c.joined.result adds c.joined.ensures.apart c.joined.ensures.cover c.joined.ensures.only
