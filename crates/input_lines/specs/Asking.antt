-- A reading of requests that goes on.
use Rattle.std.specs.Prelude.{◌≡◌, ℕ, ◌+◌, ◌≤◌, List, [], ◌∷◌, ◌++◌, length, Option, Some, None, bytes_eq}
use Rattle.std.specs.BTreeMap.{is_at}
use Rattle.std.specs.Cmp.Lexicographic.{slice_cmp}
use Rattle.std.specs.List.{list_any}
use Rattle.std.specs.Ordering.{nat_cmp}
use Rattle.input_lines.specs.Reading.{raw_lines, max_clients, Within, feed_behind}
use Rattle.input_lines.specs.Request.{Asks}
use Rattle.input_lines.specs.Requests.{clients_in, Fits, IsOfTooMany, IsTooMany, EndsAt, ReadsFrom, Reads, IsFault, HasRead}
use Rattle.run_plan.specs.declared.clients.Request.{Request}
use Rattle.input_lines.specs.declared.requests.ReadEnd.{ReadEnd}
use Rattle.input_lines.specs.declared.requests.ReadEnd.TheVariants as ends

-- the keys of a set are these names, which are not too many
pub record AreNames (keys names : List (List ℕ)) : Type 0 where
  pub same : (name : List ℕ) → list_any (is_at (slice_cmp nat_cmp name)) keys ≡ list_any (bytes_eq name) names
  pub long : length keys ≡ length names
  pub few : length names ≤ max_clients

-- they are the clients of these requests
abbrev pub AreClients : (keys : List (List ℕ)) → List Request → Type 0
AreClients keys requests = AreNames keys (clients_in [] requests)

-- why a request is not taken
abbrev pub HasRoom : List Request → Request → Option ReadEnd → Type 0
HasRoom before request None = Fits before request
HasRoom before request (Some ends.Whole) = ⊥
HasRoom before request (Some (ends.BadLine number)) = ⊥
HasRoom before request (Some ends.RequestsOver) = IsTooMany before request
HasRoom before request (Some ends.ClientsOver) = IsOfTooMany before request
HasRoom before request (Some ends.LineOver) = ⊥
HasRoom before request (Some ends.InputOver) = ⊥
HasRoom before request (Some ends.Fault) = ⊥

-- what a line did: its request was taken, or the reading ends with it, for no fault, wherever it stands
abbrev pub TakesLine : List ℕ → (before after : List Request) → Option ReadEnd → Type 0
TakesLine text before after None = (request : Request) × Asks text request × Fits before request × (after ≡ before ++ request ∷ [])
TakesLine text before after (Some end) =
    (after ≡ before) × (IsFault end → ⊥) × ((total at : ℕ) → Within total at text → EndsAt total at before text end)

abbrev pub or_whole : Option ReadEnd → ReadEnd
or_whole None = ends.Whole
or_whole (Some end) = end

abbrev pub EndsByFault : Option ReadEnd → Type 0
EndsByFault None = ⊥
EndsByFault (Some end) = IsFault end

-- These requests were read of an input, and so many bytes were taken; this is left of it and in hand.
pub record IsGoing (input : List ℕ) (left : Option (List ℕ)) (hand : List ℕ) (taken : ℕ) (requests : List Request) (keys : List (List ℕ)) : Type 0 where
  pub behind : List ℕ
  pub left_is : left ≡ Some behind
  pub on : (more : List Request) (end : ReadEnd) → ReadsFrom (length input) taken requests (raw_lines (hand ++ behind)) more end → Reads input (requests ++ more) end
  pub feed : (lines : ℕ) → feed_behind 0 (raw_lines input) (length requests + lines) ≡ feed_behind taken (raw_lines (hand ++ behind)) lines
  pub whole : taken + length (hand ++ behind) ≡ length input
  pub clients : AreClients keys requests

-- the reading goes on behind a line, or it ended
abbrev pub GoesOrEnds : List ℕ → Option (List ℕ) → (hand : List ℕ) → (taken : ℕ) → List Request → (keys : List (List ℕ)) → Option ReadEnd → Type 0
GoesOrEnds input left hand taken requests keys None = IsGoing input left hand taken requests keys
GoesOrEnds input left hand taken requests keys (Some end) = HasRead input left requests end
