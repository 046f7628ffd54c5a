-- What a row keeps of a split of documents.
use Rattle.std.specs.Prelude.{◌≡◌, ℕ, List, length}
use Rattle.sha2.specs.Sha256.{sha256}
use Rattle.doc_value.specs.declared.schema.Schema.{Schema}
use Rattle.split_states.specs.declared.facts.RowFacts.{RowFacts}
use Rattle.split_bundle.specs.declared.placed.Placed.{Placed}
use Rattle.split_bundle.specs.Documents.{total_weight}
use Rattle.split_build.specs.Times.{AreTimes, seconds_in}
use Rattle.split_build.specs.Tags.{AreTagsOf}
use Rattle.split_bundle.specs.Tagged.{tag_numbers}

-- The facts of a split of these documents, whose file has these bytes, where so many records of their ranges were no documents.
pub record AreFacts (s : Schema) (documents : List Placed) (rejected : ℕ) (bytes : List ℕ) (f : RowFacts) : Type 0 where
  pub docs : f.docs ≡ length documents
  pub rejected_are : f.rejected ≡ rejected
  pub weight : f.weight ≡ total_weight documents
  pub size : f.size ≡ length bytes
  pub digest : f.digest ≡ sha256 bytes
  pub times : AreTimes (seconds_in s.timestamp documents) f.times
  pub tags : AreTagsOf documents (tag_numbers 0 s.fields) f.tags
