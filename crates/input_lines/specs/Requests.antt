-- How the input of a run is read: line by line, up to its end or to the first line that is no request.
use Rattle.std.specs.Prelude.{◌≡◌, ◌⊎◌, ℕ, suc, ◌+◌, ◌<◌, ◌≤◌, List, [], ◌∷◌, ◌++◌, length, Option}
use Rattle.input_lines.specs.Reading.{raw_lines, max_clients, with_client_name, Within, PassesLine, PassesInput, FailsAfter}
use Rattle.input_lines.specs.Request.{Asks, AsksNothing}
use Rattle.run_plan.specs.declared.clients.Request.{Request}
use Rattle.input_lines.specs.declared.requests.ReadEnd.{ReadEnd}
use Rattle.input_lines.specs.declared.requests.ReadEnd.TheVariants as ends

abbrev pub max_requests : ℕ
max_requests = 1000000

-- the names of clients, each once
abbrev pub clients_in : List (List ℕ) → List Request → List (List ℕ)
clients_in names [] = names
clients_in names (request ∷ requests) = clients_in (with_client_name request.client names) requests

-- the clients of these requests and one more
abbrev pub clients_with : List Request → Request → List (List ℕ)
clients_with before request = with_client_name request.client (clients_in [] before)

-- a request within the limits, behind those before it
abbrev pub Fits : List Request → Request → Type 0
Fits before request = (length before < max_requests) × (length (clients_with before request) ≤ max_clients)

-- it is one too many, or its client is
abbrev pub IsTooMany : List Request → Request → Type 0
IsTooMany before request = max_requests ≤ length before

abbrev pub IsOfTooMany : List Request → Request → Type 0
IsOfTooMany before request = (length before < max_requests) × (max_clients < length (clients_with before request))

-- Why the reading ends at this line; of two limits on bytes it is the one that is passed at the earlier byte, and at one byte the line's.
-- A fault may come in any line.
abbrev pub EndsAt : (total at : ℕ) → (before : List Request) → (raw : List ℕ) → ReadEnd → Type 0
EndsAt total at before raw ends.Whole = ⊥
EndsAt total at before raw (ends.BadLine number) = Within total at raw × (number ≡ suc (length before)) × AsksNothing raw
EndsAt total at before raw ends.RequestsOver = Within total at raw × ((request : Request) × Asks raw request × IsTooMany before request)
EndsAt total at before raw ends.ClientsOver = Within total at raw × ((request : Request) × Asks raw request × IsOfTooMany before request)
EndsAt total at before raw ends.LineOver = PassesLine at raw
EndsAt total at before raw ends.InputOver = PassesInput total at raw
EndsAt total at before raw ends.Fault = Unit {0}

-- From these raw lines, behind these requests and so many bytes, these further requests are read, and the reading ends so.
abbrev pub ReadsFrom : (total at : ℕ) → (before : List Request) → (raws : List (List ℕ)) → List Request → ReadEnd → Type 0
ReadsFrom total at before [] [] end = (end ≡ ends.Whole) ⊎ (end ≡ ends.Fault)
ReadsFrom total at before [] (request ∷ requests) end = ⊥
ReadsFrom total at before (raw ∷ raws) [] end = EndsAt total at before raw end
ReadsFrom total at before (raw ∷ raws) (request ∷ requests) end =
    Within total at raw × Asks raw request × Fits before request
    × ReadsFrom total (at + length raw + 1) (before ++ request ∷ []) raws requests end

-- the input is read as these requests, and the reading ends so
abbrev pub Reads : List ℕ → List Request → ReadEnd → Type 0
Reads input requests end = ReadsFrom (length input) 0 [] (raw_lines input) requests end

abbrev pub IsFault : ReadEnd → Type 0
IsFault ends.Whole = ⊥
IsFault (ends.BadLine number) = ⊥
IsFault ends.RequestsOver = ⊥
IsFault ends.ClientsOver = ⊥
IsFault ends.LineOver = ⊥
IsFault ends.InputOver = ⊥
IsFault ends.Fault = Unit {0}

-- an input was read so, and this is left of it
pub record HasRead (input : List ℕ) (left : Option (List ℕ)) (requests : List Request) (end : ReadEnd) : Type 0 where
  pub reads : Reads input requests end
  -- where it failed
  pub fails : IsFault end → FailsAfter input left (length requests)
