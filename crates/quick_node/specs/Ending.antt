-- The status and the last line of each way in which a call ends.
use Rattle.std.specs.Prelude.{◌≡◌, ◌⊎◌, ℕ, ◌==◌, ◌||◌, Bool, List, [], ◌∷◌, ◌++◌, if◌then◌else◌, Option, Some, decimal, codes}
use Rattle.index_world.specs.Saying.{words, error_words}
use Rattle.index_world.specs.declared.world_error.WorldError.{WorldError}
use Rattle.index_world.specs.declared.world_error.WorldError.TheVariants as errors
use Rattle.input_lines.specs.Reading.{max_clients, max_line, max_input}
use Rattle.quick_node.specs.Reading.{max_config}
use Rattle.input_lines.specs.Requests.{max_requests}
use Rattle.quick_node.specs.Serve.{WroteLine}
use Rattle.quick_node.specs.declared.error_line.End.{End}
use Rattle.quick_node.specs.declared.error_line.End.TheVariants as ends

-- why an index wasn't opened: want of memory, a fault of the store, an empty journal, or a store that is no index
abbrev pub opening_status : WorldError → ℕ
opening_status (errors.Memory e) = 11
opening_status (errors.Refused refusal) = 7
opening_status (errors.StoreFault before after) = 4
opening_status (errors.Missing key) = 7
opening_status (errors.Corrupt key) = 7
opening_status (errors.Foreign key) = 7
opening_status errors.Full = 7
opening_status (errors.Expired planned_at reached) = 7
opening_status errors.NoIndex = 8
opening_status errors.IndexExists = 7
opening_status (errors.BadConfig bad) = 7

-- why an index wasn't made: want of memory, a fault of the store, a journal with an entry, a text that is no configuration, or a
-- store that is no index
abbrev pub making_status : WorldError → ℕ
making_status (errors.Memory e) = 11
making_status (errors.Refused refusal) = 7
making_status (errors.StoreFault before after) = 4
making_status (errors.Missing key) = 7
making_status (errors.Corrupt key) = 7
making_status (errors.Foreign key) = 7
making_status errors.Full = 7
making_status (errors.Expired planned_at reached) = 7
making_status errors.NoIndex = 7
making_status errors.IndexExists = 9
making_status (errors.BadConfig bad) = 2

abbrev pub ended_status : End → ℕ
ended_status ends.Done = 0
ended_status ends.BadWords = 1
ended_status (ends.BadLine number) = 3
ended_status ends.ClientsOver = 10
ended_status ends.LineOver = 10
ended_status ends.InputOver = 10
ended_status ends.RequestsOver = 10
ended_status ends.ConfigOver = 10
ended_status (ends.NotOpened error) = opening_status error
ended_status (ends.NotMade error) = making_status error
ended_status ends.ReadFault = 5
ended_status ends.WriteFault = 6
ended_status ends.Memory = 11

abbrev pub limit_words : List ℕ → ℕ → List (List ℕ)
limit_words name number = codes "limit" ∷ name ∷ decimal number ∷ []

abbrev pub cause_words : End → List (List ℕ)
cause_words ends.Done = []
cause_words ends.BadWords = codes "badwords" ∷ []
cause_words (ends.BadLine number) = codes "badline" ∷ decimal number ∷ []
cause_words ends.ClientsOver = limit_words (codes "clients") max_clients
cause_words ends.LineOver = limit_words (codes "line") max_line
cause_words ends.InputOver = limit_words (codes "input") max_input
cause_words ends.RequestsOver = limit_words (codes "requests") max_requests
cause_words ends.ConfigOver = limit_words (codes "config") max_config
cause_words (ends.NotOpened error) = error_words error
cause_words (ends.NotMade error) = error_words error
cause_words ends.ReadFault = codes "readfault" ∷ []
cause_words ends.WriteFault = []
cause_words ends.Memory = []

-- statuses without a last line
abbrev pub is_silent : ℕ → Bool
is_silent status = status == 0 || status == 6 || status == 11

-- the last line, with its line feed
abbrev pub last_line : End → List ℕ
last_line end =
    if is_silent (ended_status end) then [] else words (codes "error" ∷ decimal (ended_status end) ∷ cause_words end) ++ 10 ∷ []

-- the last line of an end was written behind what was held, or there was no memory for it
pub record EndsSo (end : End) (held : List ℕ) (content : Option (List ℕ)) (before after status : ℕ) : Type 0 where
  pub text : List ℕ
  pub written : content ≡ Some (held ++ text)
  pub wrote : ((status ≡ ended_status end) × WroteLine before after (last_line end) text) ⊎ ((status ≡ 11) × (text ≡ []))
