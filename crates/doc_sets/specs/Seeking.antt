-- Cursors with which documents are sought, one behind the other, and places that are compared in step.
use Rattle.std.specs.Prelude.{◌≡◌, ℕ, ◌+◌, ◌<◌, ◌≤◌, ◌==◌, Bool, true, false, List, [], ◌∷◌, length, slice_index_or}
use Rattle.doc_value.specs.declared.schema.Schema.{Schema}
use Rattle.text_tokens.specs.declared.tokens.Token.{Token}
use Rattle.term_postings.specs.Cursors.{StandsBefore, from_document}
use Rattle.term_postings.specs.Reading.{IsPast}
use Rattle.term_postings.specs.declared.cursor.Cursor.{Cursor}
use Rattle.term_postings.specs.declared.list.Posting.{Posting}
use Rattle.split_bundle.specs.declared.placed.Placed.{Placed}
use Rattle.split_bundle.specs.Keys.{field_key}
use Rattle.split_bundle.specs.Lists.{posting_list}

-- a cursor has passed no document of a list from a number on
pub record CanSeek (list : List Posting) (c : Cursor) (from : ℕ) : Type 0 where
  pub after : List Posting
  pub left : List ℕ
  pub stands : StandsBefore true c after left
  pub past : IsPast from c.given
  pub rest : (k : ℕ) → from ≤ k → from_document k after ≡ from_document k list

-- the cursors of some tokens: those of the first ones have passed a document, and the others no document from it on
pub record ArePassing (s : Schema) (documents : List Placed) (number : ℕ) (tokens : List Token) (cursors : List Cursor) (document passed : ℕ) : Type 0 where
  pub many : length cursors ≡ length tokens
  pub behind : (i : ℕ) (t : Token) (c : Cursor) → i < passed → i < length tokens
      → CanSeek (posting_list s documents (field_key number (slice_index_or tokens i t).text)) (slice_index_or cursors i c) (document + 1)
  pub before : (i : ℕ) (t : Token) (c : Cursor) → passed ≤ i → i < length tokens
      → CanSeek (posting_list s documents (field_key number (slice_index_or tokens i t).text)) (slice_index_or cursors i c) document

-- the first of some numbers is this one
abbrev pub begins_with : ℕ → List ℕ → Bool
begins_with m [] = false
begins_with m (n ∷ ns) = n == m

-- the first of some numbers is not below one
abbrev pub BeginFrom : ℕ → List ℕ → Type 0
BeginFrom m [] = Unit {0}
BeginFrom m (n ∷ ns) = m ≤ n
