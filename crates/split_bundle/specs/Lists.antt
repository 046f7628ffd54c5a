-- The posting list of a key over documents, and the terms of a dictionary.
use Rattle.std.specs.Prelude.{ℕ, suc, ◌+◌, ◌*◌, Bool, false, ◌||◌, List, [], ◌∷◌, length, slice_get, if◌then◌else◌}
use Rattle.std.specs.Option.{option_map_or}
use Rattle.std.specs.Str.{bytes_eq}
use Rattle.doc_value.specs.declared.schema.Schema.{Schema}
use Rattle.term_dict.specs.declared.term.Term.{Term}
use Rattle.term_postings.specs.declared.list.Posting.{Posting}
use Rattle.term_postings.specs.Postings.{list_bytes, position_bytes}
use Rattle.split_bundle.specs.declared.placed.Placed.{Placed}
use Rattle.split_bundle.specs.Keys.{Occurrence, keys_of}

-- some occurrence has the key
abbrev pub has_key : List ℕ → List Occurrence → Bool
has_key key [] = false
has_key key (o ∷ os) = bytes_eq o.key key || has_key key os

-- the places of the occurrences with the key
abbrev pub places_of : List ℕ → List Occurrence → List ℕ
places_of key [] = []
places_of key (o ∷ os) = if bytes_eq o.key key then o.place ∷ places_of key os else places_of key os

-- whether the lists of a key have positions: those of a field that keeps them. A presence key names no field
abbrev pub keeps_places : Schema → List ℕ → Bool
keeps_places s (high ∷ low ∷ term) = option_map_or (λ f. f.positions) (slice_get s.fields (high * 256 + low)) false
keeps_places s _ = false

-- the documents that have the key, each by its number, of which the first is a number, and its places where they are kept
abbrev pub posted : Schema → List ℕ → ℕ → List Placed → List Posting
posted s key n [] = []
posted s key n (d ∷ ds) =
    if has_key key (keys_of s d.doc)
    then record { document = n; positions = if keeps_places s key then places_of key (keys_of s d.doc) else [] } ∷ posted s key (suc n) ds
    else posted s key (suc n) ds

abbrev pub posting_list : Schema → List Placed → List ℕ → List Posting
posting_list s documents key = posted s key 0 documents

-- some document has the key
abbrev pub stands_in : Schema → List ℕ → List Placed → Bool
stands_in s key [] = false
stands_in s key (d ∷ ds) = has_key key (keys_of s d.doc) || stands_in s key ds

-- the bytes of a key's list, and of its positions
unfoldable pub list_of : Schema → List Placed → List ℕ → List ℕ
list_of s documents key = list_bytes (keeps_places s key) (posting_list s documents key)

unfoldable pub places_in : Schema → List Placed → List ℕ → List ℕ
places_in s documents key = position_bytes (posting_list s documents key)

-- the term of a key whose list and whose positions start there
abbrev pub term_of : Schema → List Placed → List ℕ → ℕ → ℕ → Term
term_of s documents key start place = record {
  key = key;
  info = record {
    docs = length (posting_list s documents key);
    postings = start;
    postings_len = length (list_of s documents key);
    positions = place;
    positions_len = length (places_in s documents key);
  };
}

-- the terms of these keys, whose lists stand one behind the other from these starts on
abbrev pub terms_from : Schema → List Placed → ℕ → ℕ → List (List ℕ) → List Term
terms_from s documents start place [] = []
terms_from s documents start place (k ∷ ks) =
    term_of s documents k start place ∷ terms_from s documents (start + length (list_of s documents k)) (place + length (places_in s documents k)) ks

abbrev pub terms_of : Schema → List Placed → List (List ℕ) → List Term
terms_of s documents keys = terms_from s documents 0 0 keys
