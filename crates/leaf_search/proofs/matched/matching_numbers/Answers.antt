use Rattle.std.proofs.Common.{◌≡◌, ℕ, List, Vec, Bool, ◌&&◌}
use Rattle.doc_value.specs.declared.doc.DocField.{DocField}
use Rattle.query_ast.specs.Meaning.{meaning, within_times}
use Rattle.query_ast.specs.Sought.{view as query_view}
use Rattle.split_bundle.specs.Files.{file_bytes}
use Rattle.doc_sets.specs.Asking.{AsksLookups}
use Rattle.doc_sets.specs.Faults.{IsMemory}
use Rattle.doc_sets.proofs.Searched.{searched}
use Rattle.doc_sets.proofs.WithinFile.{lookups_within, only_memory}
use Rattle.leaf_search.specs.Asks.{lookups_of}
use Rattle.leaf_search.specs.Numbers.{numbers_of}
use Rattle.leaf_search.proofs.LeafSteps.{handed}
use Rattle.leaf_search.proofs.matched.matching_numbers.Goals as goal

pub returns-in_err-bits-clause-there : goal.returns-in_err-bits-clause-there
returns-in_err-bits-clause-there c = λ documents p part all ask.
    let s = c.args.schema.now in
    let v = c.args.view.now in
    let q = query_view c.args.query.now in
    let times = c.args.times in
    let e = c.in_err-bits.field-0.0 in
    handed (λ ns. ns.items ≡ numbers_of (λ d. meaning s d q && within_times s times d) documents) IsMemory c.from_residual.result e c.from_residual.ensures.1
    (only_memory (AsksLookups v s documents p (lookups_of v.footer s q)) (file_bytes p) v.pieces e (lookups_within v s documents p part (lookups_of v.footer s q)) all (c.in_err-bits.ensures.only documents p (searched v s documents p part) ask))

pub returns-clause-there : goal.returns-clause-there
returns-clause-there c = λ documents p part all ask.
    let s = c.args.schema.now in
    let test : List DocField → Bool = λ d. meaning s d (query_view c.args.query.now) in
    let set = c.in_ok-bits.ensures.only documents p (searched c.args.view.now s documents p part) ask in
    c.timed_numbers.ensures.there documents p test part all (c.in_ok-matched.ensures.only test documents set)
