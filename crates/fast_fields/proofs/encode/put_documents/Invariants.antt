use Rattle.std.proofs.Common.{◌≡◌, ◌++◌, drop}
use Rattle.fast_fields.specs.Columns.{documents_bytes}
use Rattle.fast_fields.proofs.encode.put_documents.Given as goal

abbrev pub invariant-loop-entry : goal.invariant-loop-entry
invariant-loop-entry l = l.out.items ++ documents_bytes (drop l.entry-index l.entries) ≡ l.fn.out.items ++ documents_bytes l.entries
