-- The terms of tag fields, as far as they were taken.
use Rattle.std.specs.Prelude.{ℕ, ◌≤◌, ◌≡◌, List, length}
use Rattle.std.specs.List.{AllZip}
use Rattle.split_bundle.specs.declared.placed.Placed.{Placed}
use Rattle.split_bundle.specs.Splits.{AreRising}
use Rattle.split_build.specs.declared.tags.TagLog.{TagLog}
use Rattle.split_build.specs.Members.{IsAmong}
use Rattle.split_build.specs.Tags.{terms_in}
use Rattle.split_bundle.specs.Tagged.{max_tags}

-- distinct ones of these terms, rising: all of them, unless there are more than can be listed
pub record HasTerms (listed terms : List (List ℕ)) : Type 0 where
  pub rising : AreRising listed
  pub among : (term : List ℕ) → IsAmong listed term → IsAmong terms term
  pub all : length listed ≤ max_tags → (term : List ℕ) → IsAmong terms term → IsAmong listed term

-- the terms of a field of documents
pub record HasTermsOf (documents : List Placed) (number : ℕ) (l : TagLog) : Type 0 where
  pub number_is : l.number ≡ number
  pub terms : HasTerms l.terms.items (terms_in number documents)

-- of each of these fields
abbrev pub HasTags : List Placed → List ℕ → List TagLog → Type 0
HasTags documents ns ls = AllZip (HasTermsOf documents) ns ls
