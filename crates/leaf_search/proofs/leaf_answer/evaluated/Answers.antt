use Rattle.query_ast.specs.Sought.{view}
use Rattle.split_bundle.specs.Files.{file_bytes}
use Rattle.doc_sets.specs.Faults.{LacksPart, IsMemory}
use Rattle.doc_sets.proofs.Causes.{cause_wider}
use Rattle.doc_sets.proofs.Searched.{searched}
use Rattle.doc_sets.proofs.WithinFile.{lookups_within, only_memory}
use Rattle.doc_sets.specs.Asking.{AsksLookups}
use Rattle.leaf_search.specs.Answers.{AsksWith, IsAnswerOf}
use Rattle.leaf_search.specs.Asks.{lookups_of}
use Rattle.leaf_search.proofs.LeafSteps.{handed, of_lookups}
use Rattle.leaf_search.proofs.leaf_answer.evaluated.Goals as goal

pub returns-in_err-bits-clause-only : goal.returns-in_err-bits-clause-only
returns-in_err-bits-clause-only c = λ documents p part ask.
    let s = c.args.schema.now in
    let r = c.args.request.now in
    let v = c.args.view.now in
    let e = c.in_err-bits.field-0.0 in
    handed (IsAnswerOf s r documents) (LacksPart (AsksWith v s documents p r (lookups_of v.footer s (view r.query))) v.pieces) c.from_residual.result e c.from_residual.ensures.1
    (cause_wider (AsksLookups v s documents p (lookups_of v.footer s (view r.query))) (AsksWith v s documents p r (lookups_of v.footer s (view r.query))) v.pieces e (of_lookups v s documents p r (lookups_of v.footer s (view r.query))) (c.in_err-bits.ensures.only documents p (searched v s documents p part) ask.query))

pub returns-in_err-bits-clause-there : goal.returns-in_err-bits-clause-there
returns-in_err-bits-clause-there c = λ documents p part all ask.
    let s = c.args.schema.now in
    let r = c.args.request.now in
    let v = c.args.view.now in
    let e = c.in_err-bits.field-0.0 in
    handed (IsAnswerOf s r documents) IsMemory c.from_residual.result e c.from_residual.ensures.1
    (only_memory (AsksLookups v s documents p (lookups_of v.footer s (view r.query))) (file_bytes p) v.pieces e (lookups_within v s documents p part (lookups_of v.footer s (view r.query))) all (c.in_err-bits.ensures.only documents p (searched v s documents p part) ask.query))

pub returns-clause-only : goal.returns-clause-only
returns-clause-only c = λ documents p part ask. c.listed.ensures.only documents p part ask (c.in_ok-bits.ensures.only documents p (searched c.args.view.now c.args.schema.now documents p part) ask.query)

pub returns-clause-there : goal.returns-clause-there
returns-clause-there c = λ documents p part all ask. c.listed.ensures.there documents p part all ask (c.in_ok-bits.ensures.only documents p (searched c.args.view.now c.args.schema.now documents p part) ask.query)
