-- The facts of the file of documents.
use Rattle.std.specs.Prelude.{ℕ, List, length}
use Rattle.sha2.specs.Sha256.{sha256}
use Rattle.doc_value.specs.declared.schema.Schema.{Schema}
use Rattle.split_states.specs.declared.facts.RowFacts.{RowFacts}
use Rattle.split_bundle.specs.declared.placed.Placed.{Placed}
use Rattle.split_bundle.specs.Documents.{total_weight}
use Rattle.split_form.specs.Form.{file_of}
use Rattle.split_form.specs.Tagged.{times_of, tags_of}

-- what a row keeps of the split of these documents, where so many records of their ranges were no documents
unfoldable pub facts_of : Schema → List Placed → ℕ → RowFacts
facts_of s documents rejected = record {
  docs = length documents;
  rejected = rejected;
  weight = total_weight documents;
  size = length (file_of s documents);
  digest = sha256 (file_of s documents);
  times = times_of s.timestamp documents;
  tags = tags_of s.fields documents;
}
