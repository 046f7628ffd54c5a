use Rattle.std.specs.List.{AllByRecursion}
use Rattle.doc_value.specs.Documents.{IsOfSchema}
use Rattle.split_rows.proofs.documents.add_many.Given as goal

abbrev pub invariant-loop-offset : goal.invariant-loop-offset
invariant-loop-offset l = AllByRecursion (λ d. IsOfSchema l.config.schema d.doc) l.initial.list → AllByRecursion (λ d. IsOfSchema l.config.schema d.doc) l.list
