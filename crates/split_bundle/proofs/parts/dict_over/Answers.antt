use Rattle.split_bundle.proofs.DictLent.{dict_found, dict_not_missing}
use Rattle.split_bundle.proofs.parts.dict_over.Goals as goal

pub returns-in-Ok-read-clause-only : goal.returns-in-Ok-read-clause-only
returns-in-Ok-read-clause-only c p terms are same all is = c.in-Ok-read.ensures.only terms (rw (dict_found p c.args.sections.now c.args.pieces.now are same c.in-Ok.area.now c.in-Ok.ensures.exact) is)

pub returns-in-Err-read-clause-only : goal.returns-in-Err-read-clause-only
returns-in-Err-read-clause-only c p terms are same all is = c.in-Err-read.ensures.only terms (rw (dict_found p c.args.sections.now c.args.pieces.now are same c.in-Ok.area.now c.in-Ok.ensures.exact) is)

pub returns-in-Err-clause-only : goal.returns-in-Err-clause-only
returns-in-Err-clause-only c p terms are same all is = absurd (dict_not_missing p c.args.sections.now c.args.pieces.now are same all c.in-Err.fault c.in-Err.ensures.exact)
