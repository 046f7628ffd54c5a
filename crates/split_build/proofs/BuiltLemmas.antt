-- The parts of documents make their split.
use Rattle.std.proofs.Common.{◌≡◌, ℕ, ◌<◌, ◌^◌, List, length, subst}
use Rattle.doc_value.specs.declared.schema.Schema.{Schema}
use Rattle.split_bundle.specs.declared.placed.Placed.{Placed}
use Rattle.split_bundle.specs.Splits.{AreDocumentsOf, IsSplit}
use Rattle.split_build.specs.declared.file.FileParts.{FileParts}
use Rattle.split_build.specs.Filed.{parts_of, IsFileOf}
use Rattle.split_build.specs.Sections.{ArePartsOf}

pub is_split : (s : Schema) (ds : List Placed) (f : FileParts) (file : List ℕ) (parts : ArePartsOf s ds f) → AreDocumentsOf s ds → f.docs ≡ length ds → IsFileOf (parts_of f parts.terms.keys) file → length file < 2 ^ 64 → IsSplit s file ds
is_split s ds f file parts are docs is small = record {
  parts = parts_of f parts.terms.keys;
  bytes_are = is.bytes;
  is_split = record {
    are_documents = are;
    docs = docs;
    partitions = parts.partitions;
    documents_are = parts.documents_are;
    keys = parts.terms.are_keys;
    dictionary = parts.terms.dictionary;
    lists = parts.terms.lists;
    postings = parts.terms.postings;
    positions = parts.terms.positions;
    columns = parts.columns;
    numbers = is.numbers;
    size = subst (λ (l : List ℕ). length l < 2 ^ 64) is.bytes small;
  };
}
