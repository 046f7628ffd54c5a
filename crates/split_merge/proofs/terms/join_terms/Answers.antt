use Rattle.std.proofs.Common.{List, ◌∙◌, length, sym, ap, subst}
use Rattle.std.specs.List.{AllZip}
use Rattle.term_dict.specs.declared.index.BlockStart.{BlockStart}
use Rattle.split_merge.specs.Walking.{IsIndexOf}
use Rattle.split_merge.proofs.UpToLemmas.{zip_length}
use Rattle.split_merge.proofs.terms.join_terms.Goals as goal

pub walks_over-requires : goal.walks_over-requires
walks_over-requires c = ap (λ (l : List (List BlockStart)). length l) c.deref.ensures.value ∙ zip_length (IsIndexOf c.args.schema.now) c.args.views.now c.in-Ok.indexes.items (c.in-Ok.ensures.only c.args.schema.now)

pub returns-in-Ok-clause-cause : goal.returns-in-Ok-clause-cause
returns-in-Ok-clause-cause c =
    c.in-Err-walks_over.ensures.cause c.args.schema.now (subst (λ (l : List (List BlockStart)). AllZip (IsIndexOf c.args.schema.now) c.args.views.now l) (sym c.deref.ensures.value) (c.in-Ok.ensures.only c.args.schema.now))

pub returns-clause-cause : goal.returns-clause-cause
returns-clause-cause c = c.in-Err.ensures.cause c.args.schema.now
