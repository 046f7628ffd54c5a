-- The parts of a split, as they are held to be written.
use Rattle.std.specs.Prelude.{◌≡◌, ℕ, ◌<◌, ◌^◌, List, ◌++◌, length}
use Rattle.std.specs.List.{AllByRecursion}
use Rattle.source_checkpoint.specs.Names.{IsPartition}
use Rattle.split_bundle.specs.Files.{Parts, NumbersFit, footer_bytes, file_bytes}
use Rattle.split_build.specs.declared.file.FileBegun.{FileBegun}
use Rattle.split_build.specs.declared.file.FileParts.{FileParts}

-- what a file of them is made of, whose terms have these keys
abbrev pub parts_of : FileParts → List (List ℕ) → Parts
parts_of f keys = record {
  docs = f.docs;
  documents = f.documents.items;
  dictionary = f.terms.dictionary;
  postings = f.terms.postings.items;
  positions = f.terms.positions.items;
  columns = f.columns.bytes.items;
  partitions = f.partitions.items;
  keys = keys;
  index = f.terms.index;
  column_starts = f.columns.starts.items;
}

-- what a file that is begun is made of, with these documents
abbrev pub begun_parts : FileBegun → List ℕ → List (List ℕ) → Parts
begun_parts f documents keys = record {
  docs = f.docs;
  documents = documents;
  dictionary = f.terms.dictionary;
  postings = f.terms.postings.items;
  positions = f.terms.positions.items;
  columns = f.columns.bytes.items;
  partitions = f.partitions.items;
  keys = keys;
  index = f.terms.index;
  column_starts = f.columns.starts.items;
}

-- the file of these parts
pub record IsFileOf (p : Parts) (file : List ℕ) : Type 0 where
  pub bytes : file ≡ file_bytes p
  pub names : AllByRecursion IsPartition p.partitions
  pub numbers : NumbersFit p

-- the lengths of the sections are within their type
pub record LengthsFit (p : Parts) : Type 0 where
  pub documents : length p.documents < 2 ^ 64
  pub dictionary : length p.dictionary < 2 ^ 64
  pub postings : length p.postings < 2 ^ 64
  pub positions : length p.positions < 2 ^ 64
  pub columns : length p.columns < 2 ^ 64

-- the footer of these parts was put behind some bytes
pub record IsFooterPut (before after : List ℕ) (p : Parts) : Type 0 where
  pub bytes : after ≡ before ++ footer_bytes p
  pub names : AllByRecursion IsPartition p.partitions
  pub numbers : NumbersFit p
