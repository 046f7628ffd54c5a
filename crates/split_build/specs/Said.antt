-- What documents say, occurrence by occurrence: a key, the document where it stands, and the place there.
use Rattle.std.specs.Prelude.{ℕ, suc, Bool, true, false, List, [], ◌∷◌, ◌++◌, map, filter}
use Rattle.std.specs.Str.{bytes_eq}
use Rattle.doc_value.specs.declared.schema.Schema.{Schema}
use Rattle.split_bundle.specs.declared.placed.Placed.{Placed}
use Rattle.split_bundle.specs.Keys.{Occurrence, keys_of}

pub record Said : Type 0 where
  pub key : List ℕ
  pub document : ℕ
  pub place : ℕ

-- the occurrences of a document with a number
abbrev pub in_document : ℕ → List Occurrence → List Said
in_document n os = map (λ o. record { key = o.key; document = n; place = o.place }) os

-- the occurrences of documents, of which the first has that number
abbrev pub said_from : Schema → ℕ → List Placed → List Said
said_from s n [] = []
said_from s n (d ∷ ds) = in_document n (keys_of s d.doc) ++ said_from s (suc n) ds

abbrev pub with_key : List ℕ → List Said → List Said
with_key key log = filter (λ o. bytes_eq o.key key) log

-- the places of occurrences, where they are kept
abbrev pub places_kept : Bool → List Said → List ℕ
places_kept true os = map (λ o. o.place) os
places_kept false os = []
