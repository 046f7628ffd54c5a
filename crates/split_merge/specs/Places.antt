-- The partitions of a split that were read.
use Rattle.std.specs.Prelude.{◌≡◌, ℕ, List, Ok}
use Rattle.std.specs.List.{AllByRecursion}
use Rattle.doc_value.specs.declared.doc.DocField.{DocField}
use Rattle.doc_value.specs.declared.schema.Schema.{Schema}
use Rattle.split_bundle.specs.declared.split_view.SplitView.{SplitView}
use Rattle.split_bundle.specs.DocReading.{partition_in}
use Rattle.split_bundle.specs.Reading.{and_then}
use Rattle.split_merge.specs.declared.places.KnownPlace.{KnownPlace}
use Rattle.split_merge.specs.Reading.{document_of}
use Rattle.split_merge.specs.Scanning.{placed_at}

-- the partition stands at its place among those of the footer
abbrev pub IsPlace : SplitView → KnownPlace → Type 0
IsPlace v k = partition_in v.footer.now v.layout.partitions k.place ≡ Ok k.partition

abbrev pub ArePlaces : SplitView → List KnownPlace → Type 0
ArePlaces v known = AllByRecursion (IsPlace v) known

-- what is left to read of a document is its partition, which stands at a place
abbrev pub HasPlace : Schema → SplitView → ℕ → ℕ → Type 0
HasPlace s v doc place = (x : ℕ × List DocField) × (document_of s v doc ≡ and_then (partition_in v.footer.now v.layout.partitions place) (λ name. Ok (placed_at name x)))
