use Rattle.std.proofs.Common.{◌∙◌, sym, subst, Err}
use Rattle.split_merge.specs.Keeping.{joined, kept}
use Rattle.split_merge.specs.Merging.{IsMergeFault, Merges, MergesRead}
use Rattle.split_merge.proofs.MergeLemmas.{merges_by, reads_by, refused_cause, refused_merges, refused_reads}
use Rattle.split_merge.proofs.merging.join_documents.Goals as goal

pub join_within-requires-clause-kept : goal.join_within-requires-clause-kept
join_within-requires-clause-kept c = let k = c.requires.kept in (k.0, k.1, c.in-Ok.ensures k.0 (c.count_and_weight-count.ensures.count ∙ k.1.facts.count) (c.count_and_weight-count.ensures.weight ∙ k.1.weight))

pub returns-in-Ok-clause-only : goal.returns-in-Ok-clause-only
returns-in-Ok-clause-only c = λ lists h are.
    let ds = kept c.args.dropped.now (joined lists) in
    merges_by c.args.schema.now ds c.join_within.result (c.join_within.ensures.only lists h (c.in-Ok.ensures ds (c.count_and_weight-count.ensures.count ∙ h.facts.count) (c.count_and_weight-count.ensures.weight ∙ h.weight)) are)

pub returns-in-Ok-clause-read : goal.returns-in-Ok-clause-read
returns-in-Ok-clause-read c = λ ds h. reads_by c.args.schema.now ds c.args.views.now c.join_within.result (c.join_within.ensures.holds ds h (c.in-Ok.ensures ds (c.count_and_weight-count.ensures.count ∙ h.facts.count) (c.count_and_weight-count.ensures.weight ∙ h.weight))) c.join_within.ensures.cause

pub returns-in-Err-clause-only : goal.returns-in-Err-clause-only
returns-in-Err-clause-only c = λ lists h are.
    let ds = kept c.args.dropped.now (joined lists) in
    subst (λ e. Merges c.args.schema.now ds (Err e)) (sym c.refusal_of.ensures) (refused_merges c.args.schema.now ds c.in-Err.refusal (c.in-Err.ensures ds (c.count_and_weight-count.ensures.count ∙ h.facts.count) (c.count_and_weight-count.ensures.weight ∙ h.weight)))

pub returns-in-Err-clause-read : goal.returns-in-Err-clause-read
returns-in-Err-clause-read c = λ ds h. subst (λ e. MergesRead c.args.schema.now ds (Err e)) (sym c.refusal_of.ensures) (refused_reads c.args.schema.now ds c.in-Err.refusal (c.in-Err.ensures ds (c.count_and_weight-count.ensures.count ∙ h.facts.count) (c.count_and_weight-count.ensures.weight ∙ h.weight)))

pub returns-in-Err-clause-cause : goal.returns-in-Err-clause-cause
returns-in-Err-clause-cause c = subst (IsMergeFault c.args.schema.now c.args.views.now) (sym c.refusal_of.ensures) (refused_cause c.args.schema.now c.args.views.now c.in-Err.refusal)
