-- A document's bytes behind the place of its partition.
use Rattle.std.specs.Prelude.{ℕ, List, ◌++◌}
use Rattle.byte_fields.specs.Spelling.{varint}
use Rattle.split_bundle.specs.declared.placed.Placed.{Placed}
use Rattle.split_bundle.specs.Documents.{doc_bytes}

abbrev pub body_of : Placed → List ℕ
body_of p = varint p.offset ++ doc_bytes p.doc
