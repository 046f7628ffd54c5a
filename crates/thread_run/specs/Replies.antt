-- The replies to requests, each of which has seen the reply before it to the same client.
use Rattle.std.specs.Prelude.{ℕ, List, [], ◌∷◌, bytes_eq, if◌then◌else◌, ⊤}
use Rattle.search_api.specs.declared.reply.Reply.{Reply}
use Rattle.run_plan.specs.declared.clients.Request.{Request}

-- a client, and the revision of a reply to it
pub record Front : Type 0 where
  pub client : List ℕ
  pub revision : ℕ

-- the revision of the last reply to a client, 0 where there is none; the last ones come first
abbrev pub front_of : (client : List ℕ) → List Front → ℕ
front_of client [] = 0
front_of client (front ∷ fronts) = if bytes_eq front.client client then front.revision else front_of client fronts

-- where it is told what replies to a client's text, behind a front that the client had seen
module _ (IsReply : (client : List ℕ) → (front : ℕ) → (text : List ℕ) → Reply → Type 0) where
  -- one client's texts have one reply each, in their order
  abbrev pub RepliesOf : (client : List ℕ) → (front : ℕ) → (texts : List (List ℕ)) → List Reply → Type 0
  RepliesOf client front [] [] = ⊤
  RepliesOf client front [] (reply ∷ replies) = ⊥
  RepliesOf client front (text ∷ texts) [] = ⊥
  RepliesOf client front (text ∷ texts) (reply ∷ replies) = IsReply client front text reply × RepliesOf client reply.revision texts replies

  -- requests of many clients have one reply each, in their order
  abbrev pub RepliesFrom : List Front → List Request → List Reply → Type 0
  RepliesFrom fronts [] [] = ⊤
  RepliesFrom fronts [] (reply ∷ replies) = ⊥
  RepliesFrom fronts (request ∷ requests) [] = ⊥
  RepliesFrom fronts (request ∷ requests) (reply ∷ replies) =
      IsReply request.client (front_of request.client fronts) request.text reply × RepliesFrom (record { client = request.client; revision = reply.revision } ∷ fronts) requests replies
