-- Where blocks begin, and the block that can have a key.
use Rattle.std.specs.Prelude.{◌≡◌, ℕ, ◌%◌, ◌==◌, true, List, [], ◌∷◌, ◌++◌, take, drop, if◌then◌else◌}
use Rattle.std.specs.List.{AllByRecursion}
use Rattle.term_dict.specs.Keys.{is_below}
use Rattle.term_dict.specs.Terms.{AreTerms, area}
use Rattle.term_dict.specs.declared.term.Term.{Term}
use Rattle.term_dict.specs.declared.index.BlockStart.{BlockStart}

-- from the start to the end stand terms such that all before them are below the key, and all behind them above it
pub record IsAround (bytes : List ℕ) (terms : List Term) (key : List ℕ) (start end : ℕ) : Type 0 where
  pub before : List Term
  pub inside : List Term
  pub behind : List Term
  pub parts : terms ≡ before ++ (inside ++ behind)
  pub inside_terms : AreTerms inside
  pub inside_bytes : drop start (take end bytes) ≡ area inside
  pub behind_bytes : drop end bytes ≡ area behind
  pub below : AllByRecursion (λ t. is_below t.key key ≡ true) before
  pub above : AllByRecursion (λ t. is_below key t.key ≡ true) behind

-- the index with a block more where the term of a number begins one
abbrev pub with_block : List BlockStart → ℕ → List ℕ → ℕ → List BlockStart
with_block index number first start = if number % 64 == 0 then index ++ (record { first = first; start = start }) ∷ [] else index
