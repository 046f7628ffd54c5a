use Rattle.std.proofs.Common.{◌∙◌, List, Result, sym, subst}
use Rattle.split_bundle.specs.declared.placed.Placed.{Placed}
use Rattle.split_merge.specs.declared.merge_error.MergeError.{MergeError}
use Rattle.split_merge.specs.Keeping.{joined, kept}
use Rattle.split_merge.specs.Kept.{HasKept}
use Rattle.split_merge.specs.Merging.{MergesAs}
use Rattle.split_merge.proofs.MergeLemmas.{fault_merges, fault_read, same_documents}
use Rattle.split_merge.proofs.PlacedLemmas.{reads_are}
use Rattle.split_merge.proofs.merging.merge.Goals as goal

pub join_documents-requires-clause-kept : goal.join_documents-requires-clause-kept
join_documents-requires-clause-kept c = let keeps = c.in-Ok.ensures.exact in (keeps.0, keeps.2)

pub returns-in-Ok-clause-only : goal.returns-in-Ok-clause-only
returns-in-Ok-clause-only c = λ lists are.
    let keeps = c.in-Ok.ensures.exact in
    let same = same_documents keeps.0 (kept c.args.dropped.now (joined lists)) (sym keeps.1 ∙ reads_are c.args.schema.now c.args.dropped.now c.args.views.now lists are) in
    c.join_documents.ensures.only lists (subst (λ (ds : List Placed). HasKept c.in-Ok.documents c.args.schema.now ds) same keeps.2) are

pub returns-in-Ok-clause-exact : goal.returns-in-Ok-clause-exact
returns-in-Ok-clause-exact c =
    let keeps = c.in-Ok.ensures.exact in
    subst (λ (r : Result (List Placed) MergeError). MergesAs c.args.schema.now r c.join_documents.result) (sym keeps.1) (c.join_documents.ensures.read keeps.0 keeps.2)

pub returns-in-Err-clause-only : goal.returns-in-Err-clause-only
returns-in-Err-clause-only c = λ lists are.
    fault_merges c.args.schema.now (kept c.args.dropped.now (joined lists)) _ c.in-Err.fault (reads_are c.args.schema.now c.args.dropped.now c.args.views.now lists are) c.in-Err.ensures.exact

pub returns-in-Err-clause-exact : goal.returns-in-Err-clause-exact
returns-in-Err-clause-exact c = fault_read c.args.schema.now _ c.in-Err.fault c.in-Err.ensures.exact
