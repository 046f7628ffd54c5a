-- What documents stand in a batch's builder.
use Rattle.std.specs.Prelude.{List}
use Rattle.split_build.specs.Builders.{HasTaken}
use Rattle.split_bundle.specs.declared.placed.Placed.{Placed}
use Rattle.indexing_run.specs.declared.documents.Documents.{Documents}

-- these documents were taken, in this order
abbrev pub HasDocuments : Documents → List Placed → Type 0
HasDocuments documents list = HasTaken documents.builder documents.mapping.schema list
