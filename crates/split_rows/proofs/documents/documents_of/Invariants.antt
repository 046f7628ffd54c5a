use Rattle.std.specs.List.{AllByRecursion}
use Rattle.doc_value.specs.Documents.{IsOfSchema}
use Rattle.split_rows.proofs.documents.documents_of.Given as goal

abbrev pub invariant-loop : goal.invariant-loop
invariant-loop l = AllByRecursion (λ d. IsOfSchema l.config.schema d.doc) l.list
