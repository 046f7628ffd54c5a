-- What is known of the tag fields of documents.
use Rattle.std.specs.Prelude.{◌≡◌, ℕ, ◌<◌, ◌≤◌, ◌↔◌, List, [], ◌∷◌, length, Contains, ⊤}
use Rattle.std.specs.List.{flat_map}
use Rattle.doc_value.specs.declared.facts.Tags.{Tags}
use Rattle.doc_value.specs.declared.facts.Tags.TheVariants.{Many, Listed}
use Rattle.doc_value.specs.declared.facts.FieldTags.{FieldTags}
use Rattle.doc_value.specs.Documents.{values_in}
use Rattle.split_bundle.specs.declared.placed.Placed.{Placed}
use Rattle.split_bundle.specs.Splits.{AreRising}
use Rattle.split_bundle.specs.Tagged.{max_tags, value_term}

-- the terms of the values of a field, document by document
abbrev pub terms_in : ℕ → List Placed → List (List ℕ)
terms_in number documents = flat_map (λ d. flat_map value_term (values_in d.doc number)) documents

-- these are the distinct ones of some terms, rising, and few enough to be listed
pub record AreDistinct (terms listed : List (List ℕ)) : Type 0 where
  pub rising : AreRising listed
  pub exact : (term : List ℕ) → Contains listed term ↔ Contains terms term
  pub few : length listed ≤ max_tags

-- more distinct ones stand among some terms than are listed
pub record AreMany (terms : List (List ℕ)) : Type 0 where
  pub some : List (List ℕ)
  pub rising : AreRising some
  pub among : (term : List ℕ) → Contains some term → Contains terms term
  pub many : max_tags < length some

abbrev pub AreTags : List (List ℕ) → Tags → Type 0
AreTags terms Many = AreMany terms
AreTags terms (Listed listed) = AreDistinct terms listed

-- of each of these fields what is known of its terms
abbrev pub AreTagsOf : List Placed → List ℕ → List FieldTags → Type 0
AreTagsOf documents [] [] = ⊤
AreTagsOf documents [] (t ∷ ts) = ⊥
AreTagsOf documents (n ∷ ns) [] = ⊥
AreTagsOf documents (n ∷ ns) (t ∷ ts) = (t.number ≡ n) × AreTags (terms_in n documents) t.tags × AreTagsOf documents ns ts
