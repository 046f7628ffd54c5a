-- How a request is spelled.
use Rattle.std.specs.Prelude.{◌≡◌, ℕ, List, ◌∷◌, ◌++◌, Result, MatchResult}
use Rattle.byte_fields.specs.ClientName.{IsClientName}
use Rattle.input_lines.specs.declared.request.LineError.{LineError}
use Rattle.input_lines.specs.declared.request.LineError.TheVariants as errors
use Rattle.run_plan.specs.declared.clients.Request.{Request}

-- The text is this request: a client's name, a blank, and bytes as they stand, also none.
pub record Asks (text : List ℕ) (request : Request) : Type 0 where
  pub is : text ≡ request.client ++ 32 ∷ request.text
  pub named : IsClientName request.client

abbrev pub AsksNothing : List ℕ → Type 0
AsksNothing text = (request : Request) → Asks text request → ⊥

-- what holds where bytes are no line; want of memory says nothing
abbrev pub IsBadWhere : Type 0 → LineError → Type 0
IsBadWhere P (errors.Memory e) = Unit {0}
IsBadWhere P errors.BadLine = P

-- what was read of a text: the request that it is, or that it is none
abbrev pub IsAsked : List ℕ → Result Request LineError → Type 0
IsAsked text result = MatchResult result (Asks text) (IsBadWhere (AsksNothing text))
