use Rattle.std.proofs.Common.{◌∙◌, List, ap}
use Rattle.doc_value.specs.Documents.{values_in}
use Rattle.doc_value.specs.declared.doc.DocField.{DocField}
use Rattle.split_build.proofs.TakenLemmas.{times_none, times_some}
use Rattle.split_build.proofs.builder.Builder.times_with.Goals as goal

pub returns-in-None : goal.returns-in-None
returns-in-None c = λ ds h. times_none c.args.self.now.schema.timestamp ds c.args.placed.now c.args.self.now.times c.in-None.is h

pub returns-in-Some : goal.returns-in-Some
returns-in-Some c = λ ds h.
    times_some c.args.self.now.schema.timestamp c.in-Some.number ds c.args.placed.now c.args.self.now.times c.widened_by.result c.values_in.result.now c.in-Some.is
    (c.values_in.ensures ∙ ap (λ (d : List DocField). values_in d c.in-Some.number) c.as_slice.ensures) c.widened_by.ensures h
