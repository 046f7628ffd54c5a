-- Rows that lend documents, and lists that are appended.
use Rattle.std.specs.Prelude.{◌≡◌, ℕ, Bool, List, ◌++◌, map}
use Rattle.term_postings.specs.Postings.{AreDocuments, list_bytes, position_bytes}
use Rattle.term_postings.specs.declared.list.Posting.{Posting}
use Rattle.term_postings.specs.declared.list.Row.{Row}

-- the document that a row lends
abbrev pub lent_one : Row → Posting
lent_one r = record { document = r.document; positions = r.positions.now }

abbrev pub lent : List Row → List Posting
lent rows = map lent_one rows

-- the bytes of these documents stand behind those that stood there
pub record AppendsList (counted : Bool) (ps : List Posting) (postings places now places_now : List ℕ) : Type 0 where
  pub are_documents : AreDocuments counted ps
  pub postings_are : now ≡ postings ++ list_bytes counted ps
  pub positions_are : places_now ≡ places ++ position_bytes ps
