-- Files worked out by hand: the split of no documents, and the one of `red fox` and `red hen`, records 0 and 2 of p0, under a schema with
-- the text field 0 with positions and the fast text field 1.
use Rattle.std.specs.Prelude.{◌≡◌, ℕ, List, [], ◌∷◌, ◌++◌, length, codes, true, false, refl}
use Rattle.byte_fields.specs.Spelling.{varint}
use Rattle.doc_value.specs.declared.doc.Value.TheVariants as values
use Rattle.term_dict.specs.Terms.{area}
use Rattle.term_dict.specs.declared.term.Term.{Term}
use Rattle.term_postings.specs.Postings.{list_bytes, position_bytes}
use Rattle.term_postings.specs.declared.list.Posting.{Posting}
use Rattle.split_bundle.specs.declared.placed.Placed.{Placed}
use Rattle.split_bundle.specs.Documents.{documents_section, weight}
use Rattle.split_bundle.specs.Keys.{field_key, presence_key}
use Rattle.split_bundle.specs.Files.{Parts, footer_bytes, file_bytes}

abbrev of_none : Parts
of_none = record {
  docs = 0;
  documents = documents_section [] [];
  dictionary = [];
  postings = [];
  positions = [];
  columns = [];
  partitions = [];
  keys = [];
  index = [];
  column_starts = [];
}

-- 34 bytes
pub bytes_of_none : file_bytes of_none
    ≡ 0x51 ∷ 0x57 ∷ 0x53 ∷ 2 ∷ 0 ∷ 0 ∷ 0 ∷ 0 ∷ 0 ∷ 0 ∷ 0 ∷ 0 ∷ 0 ∷ 8 ∷ 0 ∷ 0 ∷ 0 ∷ 0 ∷ 0 ∷ 0 ∷ 0 ∷ 0 ∷ 10 ∷ 0 ∷ 0 ∷ 0 ∷ 0 ∷ 0 ∷ 0 ∷ 0 ∷ 0x51 ∷ 0x57 ∷ 0x46 ∷ 2 ∷ []
unfolding file_bytes footer_bytes varint
bytes_of_none = refl

abbrev red_fox : Placed
red_fox = record { partition = codes "p0"; offset = 0; doc = (record { number = 0; values = values.Text (codes "red fox") ∷ [] }) ∷ [] }

abbrev red_hen : Placed
red_hen = record { partition = codes "p0"; offset = 2; doc = (record { number = 0; values = values.Text (codes "red hen") ∷ [] }) ∷ [] }

abbrev documents : List ℕ
documents = documents_section (codes "p0" ∷ []) (red_fox ∷ red_hen ∷ [])

abbrev keys : List (List ℕ)
keys = field_key 0 (codes "fox") ∷ field_key 0 (codes "hen") ∷ field_key 0 (codes "red") ∷ presence_key 0 ∷ []

abbrev at_place : ℕ → ℕ → Posting
at_place document place = record { document = document; positions = place ∷ [] }

abbrev lists : List ℕ
lists = list_bytes true (at_place 0 1 ∷ []) ++ (list_bytes true (at_place 1 1 ∷ []) ++ (list_bytes true (at_place 0 0 ∷ at_place 1 0 ∷ [])
    ++ list_bytes false (record { document = 0; positions = [] } ∷ record { document = 1; positions = [] } ∷ [])))

abbrev places : List ℕ
places = position_bytes (at_place 0 1 ∷ []) ++ (position_bytes (at_place 1 1 ∷ []) ++ position_bytes (at_place 0 0 ∷ at_place 1 0 ∷ []))

abbrev term : List ℕ → ℕ → ℕ → ℕ → ℕ → ℕ → Term
term key docs start len place places_len = record { key = key; info = record { docs = docs; postings = start; postings_len = len; positions = place; positions_len = places_len } }

abbrev dictionary : List ℕ
dictionary = area (term (field_key 0 (codes "fox")) 1 0 2 0 1 ∷ term (field_key 0 (codes "hen")) 1 2 2 1 1 ∷ term (field_key 0 (codes "red")) 2 4 4 2 2 ∷ term (presence_key 0) 2 8 2 4 0 ∷ [])

abbrev of_two : Parts
of_two = record {
  docs = 2;
  documents = documents;
  dictionary = dictionary;
  postings = lists;
  positions = places;
  columns = 0 ∷ 0 ∷ 0 ∷ 0 ∷ 0 ∷ 0 ∷ 0 ∷ 0 ∷ 0 ∷ 0 ∷ 0 ∷ [];
  partitions = codes "p0" ∷ [];
  keys = keys;
  index = (record { first = field_key 0 (codes "fox"); start = 0 }) ∷ [];
  column_starts = (record { number = 1; start = 0 }) ∷ [];
}

-- its lists, its positions, and how long the parts and the file are
pub postings_of_two : lists ≡ 0 ∷ 1 ∷ 1 ∷ 1 ∷ 0 ∷ 1 ∷ 1 ∷ 1 ∷ 0 ∷ 1 ∷ []
unfolding varint
postings_of_two = refl

pub positions_of_two : places ≡ 1 ∷ 1 ∷ 0 ∷ 0 ∷ []
unfolding varint
positions_of_two = refl

pub documents_of_two : length documents ≡ 50
unfolding varint
documents_of_two = refl

pub dictionary_of_two : length dictionary ≡ 43
unfolding varint
dictionary_of_two = refl

pub footer_of_two : length (footer_bytes of_two) ≡ 22
unfolding footer_bytes varint
footer_of_two = refl

pub length_of_two : length (file_bytes of_two) ≡ 156
unfolding file_bytes footer_bytes varint
length_of_two = refl

-- each weighs 13 bytes and 256
pub weight_of_one : weight red_fox ≡ 269
unfolding varint
weight_of_one = refl
