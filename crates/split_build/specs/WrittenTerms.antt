-- The dictionary, the postings and the positions of keys, as far as they are written.
use Rattle.std.specs.Prelude.{◌≡◌, ◌↔◌, ℕ, ◌^◌, ◌<◌, List, Some, IsTrue, map, length, slice_get, if◌then◌else◌}
use Rattle.std.specs.List.{flat_map, AllByRecursion, IsDistinct}
use Rattle.std.specs.Str.{bytes_eq}
use Rattle.doc_value.specs.declared.schema.Schema.{Schema}
use Rattle.doc_value.specs.Documents.{IsSchema}
use Rattle.term_dict.specs.Builders.{HasTaken}
use Rattle.term_dict.specs.Terms.{IsDict}
use Rattle.term_postings.specs.Postings.{AreDocuments}
use Rattle.split_bundle.specs.declared.placed.Placed.{Placed}
use Rattle.split_bundle.specs.Lists.{keeps_places, posting_list, list_of, places_in, stands_in, terms_of}
use Rattle.split_bundle.specs.Splits.{AreKeys}
use Rattle.split_build.specs.declared.key_groups.KeyGroups.{KeyGroups}
use Rattle.split_build.specs.declared.terms.TermLog.{TermLog}
use Rattle.split_build.specs.declared.term_parts.TermWriter.{TermWriter}
use Rattle.split_build.specs.declared.term_parts.TermParts.{TermParts}
use Rattle.split_build.specs.Said.{said_from, with_key, places_kept}
use Rattle.split_build.specs.HeldTerms.{HasSaid}
use Rattle.split_build.specs.KeyGroups.{IsGroup}
use Rattle.split_build.specs.Members.{IsAmong}
use Rattle.split_build.specs.Walks.{IsShortDoc}

-- documents whose keys can be listed
pub record CanBeListed (s : Schema) (documents : List Placed) : Type 0 where
  pub schema : IsSchema s
  pub short : AllByRecursion (λ d. IsShortDoc d.doc) documents
  pub few : length documents < 2 ^ 32

-- the documents of the occurrences of a key in these documents, and their places where they are kept
pub record IsListOf (s : Schema) (documents : List Placed) (key numbers places : List ℕ) : Type 0 where
  pub can : CanBeListed s documents
  pub documents_are : numbers ≡ map (λ o. o.document) (with_key key (said_from s 0 documents))
  pub places_are : places ≡ places_kept (keeps_places s key) (with_key key (said_from s 0 documents))

-- under its number among the keys stands what documents say of a key
abbrev pub IsGroupOf : Schema → List Placed → List ℕ → ℕ → KeyGroups → Type 0
IsGroupOf s documents key n g =
    IsGroup (keeps_places s key) n (map (λ o. o.document) (with_key key (said_from s 0 documents))) (map (λ o. o.place) (with_key key (said_from s 0 documents))) g

-- the keys of these documents, no two of them the same, and their occurrences: those whose places are kept, and the others
pub record AreGrouped (s : Schema) (documents : List Placed) (keys : List (List ℕ)) (placed plain : KeyGroups) : Type 0 where
  pub can : CanBeListed s documents
  pub distinct : IsDistinct bytes_eq keys
  pub exact : (key : List ℕ) → IsAmong keys key ↔ IsTrue (stands_in s key documents)
  pub each : (n : ℕ) (key : List ℕ) → slice_get keys n ≡ Some key → IsGroupOf s documents key n (if keeps_places s key then placed else plain)

-- these keys are written, with their lists and positions
pub record HasWritten (w : TermWriter) (s : Schema) (documents : List Placed) (keys : List (List ℕ)) : Type 0 where
  pub taken : HasTaken w.dictionary (terms_of s documents keys)
  pub lists : AllByRecursion (λ key. AreDocuments (keeps_places s key) (posting_list s documents key)) keys
  pub postings : w.postings.items ≡ flat_map (list_of s documents) keys
  pub positions : w.positions.items ≡ flat_map (places_in s documents) keys

-- what was taken of these documents
pub record IsLogOf (t : TermLog) (s : Schema) (documents : List Placed) : Type 0 where
  pub can : CanBeListed s documents
  pub said : HasSaid t s (said_from s 0 documents)

-- the parts of a split that the keys of these documents make
pub record AreTermParts (s : Schema) (documents : List Placed) (p : TermParts) : Type 0 where
  pub keys : List (List ℕ)
  pub are_keys : AreKeys s documents keys
  pub count : p.count ≡ length keys
  pub dictionary : IsDict p.dictionary p.index (terms_of s documents keys)
  pub lists : AllByRecursion (λ key. AreDocuments (keeps_places s key) (posting_list s documents key)) keys
  pub postings : p.postings.items ≡ flat_map (list_of s documents) keys
  pub positions : p.positions.items ≡ flat_map (places_in s documents) keys
