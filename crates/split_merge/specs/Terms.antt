-- The joined terms of several splits, as far as they are written.
use Rattle.std.specs.Prelude.{◌≡◌, ℕ, true, false, List, Option, length}
use Rattle.std.specs.List.{AllByRecursion, flat_map}
use Rattle.doc_value.specs.declared.schema.Schema.{Schema}
use Rattle.term_dict.specs.Builders.{HasTaken}
use Rattle.term_dict.specs.Keys.{is_below}
use Rattle.term_postings.specs.Postings.{AreDocuments}
use Rattle.split_bundle.specs.declared.placed.Placed.{Placed}
use Rattle.split_bundle.specs.Lists.{keeps_places, list_of, places_in, posting_list, stands_in, terms_of}
use Rattle.split_bundle.specs.Splits.{AreRising}
use Rattle.split_build.specs.Members.{IsAmong}
use Rattle.split_merge.specs.declared.terms.JoinedTerms.{JoinedTerms}
use Rattle.split_merge.specs.Walking.{is_past}

-- these keys of documents are written, with their lists and positions
pub record HasJoined (j : JoinedTerms) (s : Schema) (documents : List Placed) (keys : List (List ℕ)) : Type 0 where
  pub taken : HasTaken j.dictionary (terms_of s documents keys)
  pub lists : AllByRecursion (λ key. AreDocuments (keeps_places s key) (posting_list s documents key)) keys
  pub postings : j.postings.items ≡ flat_map (list_of s documents) keys
  pub positions : j.positions.items ≡ flat_map (places_in s documents) keys
  pub count : j.count ≡ length keys

-- a key that some document says, and that is not above a last one
abbrev pub IsSaidUpTo : Schema → List Placed → Option (List ℕ) → List ℕ → Type 0
IsSaidUpTo s documents last key = (stands_in s key documents ≡ true) × (is_past last key ≡ false)

-- the keys that some document says, up to a last one, rising
pub record AreKeysUpTo (s : Schema) (documents : List Placed) (last : Option (List ℕ)) (keys : List (List ℕ)) : Type 0 where
  pub rising : AreRising keys
  pub said : AllByRecursion (IsSaidUpTo s documents last) keys
  pub all : (key : List ℕ) → IsSaidUpTo s documents last key → IsAmong keys key

-- the keys of documents up to a last one are written
pub record IsJoinedUpTo (j : JoinedTerms) (s : Schema) (documents : List Placed) (last : Option (List ℕ)) : Type 0 where
  pub keys : List (List ℕ)
  pub are : AreKeysUpTo s documents last keys
  pub written : HasJoined j s documents keys

-- no key that some document says stands between a last one and this one
abbrev pub IsNext : Schema → List Placed → Option (List ℕ) → List ℕ → Type 0
IsNext s documents last key = (other : List ℕ) → is_past last other ≡ true → stands_in s other documents ≡ true → is_below other key ≡ false
