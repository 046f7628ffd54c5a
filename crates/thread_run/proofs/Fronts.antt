-- The replies of all clients, dealt out by the requests, are the replies to the requests.
use Rattle.std.proofs.Common.{◌≡◌, ◌+◌, ◌<◌, ◌≤◌, ℕ, zero, suc, Bool, true, false, cond, eqb, List, [], ◌∷◌, ◌++◌, length, map, refl, sym, ap, ◌∙◌, subst, arith, bytes_eq}
use Rattle.std.proofs.lemmas.Bool.{eqb-true, eqb-false}
use Rattle.std.proofs.lemmas.Slice.Eq.{bytes_eq-Decides}
use Rattle.std.specs.List.{AllByRecursion, AllZip}
use Rattle.std.specs.Option.{option_map, option_to_list}
use Rattle.std.specs.Prelude.{Option, None, Some, slice_get}
use Rattle.search_api.specs.declared.reply.Reply.{Reply}
use Rattle.run_plan.specs.Asked.{AreAsked, names_of, picked, place_in}
use Rattle.run_plan.specs.Dealing.{dealt, next_of, rest_of}
use Rattle.run_plan.specs.declared.clients.Asking.{Asking}
use Rattle.run_plan.specs.declared.clients.Request.{Request}
use Rattle.thread_run.specs.Replies.{Front, RepliesFrom, RepliesOf, front_of}
use Rattle.thread_run.proofs.Picks.{other_pick, own_pick}

-- ---- places

same_place : (a b : ℕ) → Some a ≡ Some b → a ≡ b
same_place a b e = cc e

-- the name at the place of a client is the client's
name_behind : (client name : List ℕ) (names : List (List ℕ)) (place : ℕ) (found : Option ℕ) → ((before : ℕ) → found ≡ Some before → slice_get names before ≡ Some client) → option_map suc found ≡ Some place →
    slice_get (name ∷ names) place ≡ Some client
name_behind client name names place None again there = absurd (cc there)
name_behind client name names place (Some before) again there =
    let at : suc before ≡ place = same_place (suc before) place there in
    subst (λ p. slice_get (name ∷ names) p ≡ Some client) at (again before refl)

name_by : (client name : List ℕ) (names : List (List ℕ)) (place : ℕ) (b : Bool) → bytes_eq name client ≡ b → ((before : ℕ) → place_in client names ≡ Some before → slice_get names before ≡ Some client) →
    cond b (Some 0) (option_map suc (place_in client names)) ≡ Some place → slice_get (name ∷ names) place ≡ Some client
name_by client name names place true e again there =
    let at : 0 ≡ place = same_place 0 place there in
    subst (λ p. slice_get (name ∷ names) p ≡ Some client) at (ap (λ n. Some n) ((bytes_eq-Decides name client).0 e))
name_by client name names place false e again there = name_behind client name names place (place_in client names) again there

name_there : (client : List ℕ) (names : List (List ℕ)) (place : ℕ) → place_in client names ≡ Some place → slice_get names place ≡ Some client
name_there client [] place is = absurd (cc is)
name_there client (name ∷ names) place is = name_by client name names place (bytes_eq name client) refl (λ before e. name_there client names before e) is

-- each request is that of the client at its place
abbrev pub ArePlaced : List (List ℕ) → List Request → List ℕ → Type 0
ArePlaced names requests by = AllZip (λ request place. place_in request.client names ≡ Some place) requests by

-- at another place than that of a client's name nothing is its
none_picked : (names : List (List ℕ)) (client : List ℕ) (owner place : ℕ) (requests : List Request) (by : List ℕ) → place_in client names ≡ Some owner → slice_get names place ≡ Some client → (owner ≡ place → ⊥) →
    ArePlaced names requests by → picked place by (map (λ request. request.text) requests) ≡ []
none_picked names client owner place [] [] is there other placed = refl
none_picked names client owner place [] (one ∷ by) is there other placed = absurd placed
none_picked names client owner place (request ∷ requests) [] is there other placed = absurd placed
none_picked names client owner place (request ∷ requests) (one ∷ by) is there other placed =
    other_pick place one by request.text (map (λ (r : Request). r.text) requests) apart ∙ none_picked names client owner place requests by is there other placed.1
  where
    apart : one ≡ place → ⊥
    apart e =
        let own : slice_get names place ≡ Some request.client = subst (λ p. slice_get names p ≡ Some request.client) e (name_there request.client names one placed.0) in
        let both : Some client ≡ Some request.client = sym there ∙ own in
        let same : client ≡ request.client = cc both in
        other (same_place owner place (sym is ∙ (ap (λ n. place_in n names) same ∙ (placed.0 ∙ ap (λ n. Some n) e))))

-- ---- fronts

front_own : (client : List ℕ) (revision : ℕ) (fronts : List Front) → front_of client (record { client = client; revision = revision } ∷ fronts) ≡ revision
front_own client revision fronts = ap (λ b. cond b revision (front_of client fronts)) ((bytes_eq-Decides client client).1 refl)

front_other : (name client : List ℕ) (revision : ℕ) (fronts : List Front) → bytes_eq client name ≡ false → front_of name (record { client = client; revision = revision } ∷ fronts) ≡ front_of name fronts
front_other name client revision fronts e = ap (λ b. cond b revision (front_of name fronts)) e

module _ (IsReply : (client : List ℕ) → (front : ℕ) → (text : List ℕ) → Reply → Type 0) where
  -- the clients, the first of which is the one at this place, with what each still asks and with its replies
  abbrev pub AreDue : (fronts : List Front) → (place : ℕ) → (by : List ℕ) → (texts : List (List ℕ)) → (names : List (List ℕ)) → List (List Reply) → Type 0
  AreDue fronts place by texts [] [] = Unit {0}
  AreDue fronts place by texts [] (list ∷ lists) = ⊥
  AreDue fronts place by texts (name ∷ names) [] = ⊥
  AreDue fronts place by texts (name ∷ names) (list ∷ lists) = RepliesOf IsReply name (front_of name fronts) (picked place by texts) list × AreDue fronts (suc place) by texts names lists

  any_front : (name : List ℕ) (front other : ℕ) (texts : List (List ℕ)) (list : List Reply) → texts ≡ [] → RepliesOf IsReply name front texts list → RepliesOf IsReply name other texts list
  any_front name front other [] [] none r = tt
  any_front name front other [] (reply ∷ list) none r = r
  any_front name front other (text ∷ texts) list none r = absurd (let n = ap length none in omega (arith, n))

  -- all the names, a request of a client at its place, and those behind it
  module _ (all : List (List ℕ)) (client text : List ℕ) (owner : ℕ) (requests : List Request) (by : List ℕ) (at : place_in client all ≡ Some owner) (placed : ArePlaced all requests by) where
    abbrev texts : List (List ℕ)
    texts = map (λ (request : Request). request.text) requests

    abbrev newer : ℕ → List Front → List Front
    newer revision fronts = record { client = client; revision = revision } ∷ fronts

    -- at another place it is as it was, behind a new reply to the client
    due_by : (fronts : List Front) (revision place : ℕ) (name : List ℕ) (list : List Reply) → slice_get all place ≡ Some name → (owner ≡ place → ⊥) →
        RepliesOf IsReply name (front_of name fronts) (picked place by texts) list → (b : Bool) → bytes_eq client name ≡ b → RepliesOf IsReply name (front_of name (newer revision fronts)) (picked place by texts) list
    due_by fronts revision place name list there other still true e =
        let same : client ≡ name = (bytes_eq-Decides client name).0 e in
        any_front name (front_of name fronts) (front_of name (newer revision fronts)) (picked place by texts) list
        (none_picked all client owner place requests by at (there ∙ ap (λ n. Some n) (sym same)) other placed) still
    due_by fronts revision place name list there other still false e = subst (λ f. RepliesOf IsReply name f (picked place by texts) list) (sym (front_other name client revision fronts e)) still

    other_due : (fronts : List Front) (revision place : ℕ) (name : List ℕ) (list : List Reply) → slice_get all place ≡ Some name → (owner ≡ place → ⊥) →
        RepliesOf IsReply name (front_of name fronts) (picked place (owner ∷ by) (text ∷ texts)) list → RepliesOf IsReply name (front_of name (newer revision fronts)) (picked place by texts) list
    other_due fronts revision place name list there other due =
        due_by fronts revision place name list there other
        (subst (λ ts. RepliesOf IsReply name (front_of name fronts) ts list) (other_pick place owner by text texts other) due) (bytes_eq client name) refl

    -- these names stand from this place on among all
    abbrev StandFrom : ℕ → List (List ℕ) → Type 0
    StandFrom place names = (i : ℕ) (name : List ℕ) → slice_get names i ≡ Some name → slice_get all (i + place) ≡ Some name

    stand_on : (place : ℕ) (name : List ℕ) (names : List (List ℕ)) → StandFrom place (name ∷ names) → StandFrom (suc place) names
    stand_on place name names stand i other there = subst (λ p. slice_get all p ≡ Some other) (let e : suc i + place ≡ i + suc place = omega arith in e) (stand (suc i) other there)

    stand_here : (place : ℕ) (name : List ℕ) (names : List (List ℕ)) → StandFrom place (name ∷ names) → slice_get all place ≡ Some name
    stand_here place name names stand = subst (λ p. slice_get all p ≡ Some name) (let e : 0 + place ≡ place = omega arith in e) (stand 0 name refl)

    others_due : (fronts : List Front) (revision place : ℕ) (names : List (List ℕ)) (lists : List (List Reply)) → owner < place → StandFrom place names → AreDue fronts place (owner ∷ by) (text ∷ texts) names lists →
        AreDue (newer revision fronts) place by texts names lists
    others_due fronts revision place [] [] less stand due = tt
    others_due fronts revision place [] (list ∷ lists) less stand due = absurd due
    others_due fronts revision place (name ∷ names) [] less stand due = absurd due
    others_due fronts revision place (name ∷ names) (list ∷ lists) less stand due = (
      other_due fronts revision place name list (stand_here place name names stand) (λ e. omega (arith, e, less)) due.0,
      others_due fronts revision (suc place) names lists (omega (arith, less)) (stand_on place name names stand) due.1,
    )

    -- the reply to the request, and what is due behind it
    pub record NextReply (fronts : List Front) (place i : ℕ) (names : List (List ℕ)) (lists : List (List Reply)) : Type 0 where
      pub reply : Reply
      pub is : next_of lists i ≡ Some reply
      pub replies : IsReply client (front_of client fronts) text reply
      pub due : AreDue (newer reply.revision fronts) place by texts names (rest_of lists i)

    own_due : (fronts : List Front) (place : ℕ) (list : List Reply) (names : List (List ℕ)) (lists : List (List Reply)) → owner ≡ place → RepliesOf IsReply client (front_of client fronts) (picked place (owner ∷ by) (text ∷ texts)) list →
        ((revision : ℕ) → AreDue (newer revision fronts) (suc place) by texts names lists) → NextReply fronts place zero (client ∷ names) (list ∷ lists)
    own_due fronts place [] names lists same due rest = absurd (subst (λ ts. RepliesOf IsReply client (front_of client fronts) ts []) (own_pick place owner by text texts same) due)
    own_due fronts place (reply ∷ list) names lists same due rest =
        let own : RepliesOf IsReply client (front_of client fronts) (text ∷ picked place by texts) (reply ∷ list) = subst (λ ts. RepliesOf IsReply client (front_of client fronts) ts (reply ∷ list)) (own_pick place owner by text texts same) due in
        record {
          reply = reply;
          is = refl;
          replies = own.0;
          due = (subst (λ f. RepliesOf IsReply client f (picked place by texts) list) (sym (front_own client reply.revision fronts)) own.1, rest reply.revision);
        }

    next_reply : (fronts : List Front) (place i : ℕ) (names : List (List ℕ)) (lists : List (List Reply)) → i + place ≡ owner → slice_get names i ≡ Some client → StandFrom place names → AreDue fronts place (owner ∷ by) (text ∷ texts) names lists →
        NextReply fronts place i names lists
    next_reply fronts place i [] lists on here stand due = absurd (cc here)
    next_reply fronts place i (name ∷ names) [] on here stand due = absurd due
    next_reply fronts place zero (name ∷ names) (list ∷ lists) on here stand due =
        let same : owner ≡ place = omega (arith, on) in
        let is : name ≡ client = cc here in
        subst (λ n. NextReply fronts place zero (n ∷ names) (list ∷ lists)) (sym is)
        (own_due fronts place list names lists same (subst (λ n. RepliesOf IsReply n (front_of n fronts) (picked place (owner ∷ by) (text ∷ texts)) list) is due.0)
        (λ revision. others_due fronts revision (suc place) names lists (omega (arith, same)) (stand_on place name names stand) due.1))
    next_reply fronts place (suc i) (name ∷ names) ([] ∷ lists) on here stand due =
        let next = next_reply fronts (suc place) i names lists (omega (arith, on)) here (stand_on place name names stand) due.1 in
        record { reply = next.reply; is = next.is; replies = next.replies; due = (other_due fronts next.reply.revision place name [] (stand_here place name names stand) (λ e. omega (arith, e, on)) due.0, next.due) }
    next_reply fronts place (suc i) (name ∷ names) ((one ∷ list) ∷ lists) on here stand due =
        let next = next_reply fronts (suc place) i names lists (omega (arith, on)) here (stand_on place name names stand) due.1 in
        record { reply = next.reply; is = next.is; replies = next.replies; due = (other_due fronts next.reply.revision place name (one ∷ list) (stand_here place name names stand) (λ e. omega (arith, e, on)) due.0, next.due) }

    pub the_next : (fronts : List Front) (lists : List (List Reply)) → AreDue fronts 0 (owner ∷ by) (text ∷ texts) all lists → NextReply fronts 0 owner all lists
    the_next fronts lists due =
        next_reply fronts 0 owner all lists (omega arith) (name_there client all owner at)
        (λ i name there. subst (λ p. slice_get all p ≡ Some name) (let e : i ≡ i + 0 = omega arith in e) there) due

  pub replies_dealt : (all : List (List ℕ)) (fronts : List Front) (requests : List Request) (by : List ℕ) (lists : List (List Reply)) → ArePlaced all requests by →
      AreDue fronts 0 by (map (λ (request : Request). request.text) requests) all lists → RepliesFrom IsReply fronts requests (dealt by lists)
  replies_dealt all fronts [] [] lists placed due = tt
  replies_dealt all fronts [] (owner ∷ by) lists placed due = absurd placed
  replies_dealt all fronts (request ∷ requests) [] lists placed due = absurd placed
  replies_dealt all fronts (request ∷ requests) (owner ∷ by) lists placed due =
      let next = the_next all request.client request.text owner requests by placed.0 placed.1 fronts lists due in
      let rest = replies_dealt all (record { client = request.client; revision = next.reply.revision } ∷ fronts) requests by (rest_of lists owner) placed.1 next.due in
      subst (λ o. RepliesFrom IsReply fronts (request ∷ requests) (option_to_list o ++ dealt by (rest_of lists owner))) (sym next.is) (next.replies, rest)

  -- each client was replied all that it asks
  all_due : (place : ℕ) (requests : List Request) (by : List ℕ) (askings : List Asking) (lists : List (List Reply)) →
      ((i : ℕ) (asking : Asking) → slice_get askings i ≡ Some asking → asking.texts.items ≡ picked (i + place) by (map (λ (request : Request). request.text) requests)) →
      AllZip (λ (asking : Asking) list. RepliesOf IsReply asking.client 0 asking.texts.items list) askings lists → AreDue [] place by (map (λ (request : Request). request.text) requests) (names_of askings) lists
  all_due place requests by [] [] texts zip = tt
  all_due place requests by [] (list ∷ lists) texts zip = absurd zip
  all_due place requests by (asking ∷ askings) [] texts zip = absurd zip
  all_due place requests by (asking ∷ askings) (list ∷ lists) texts zip =
      let shown : List (List ℕ) = map (λ (request : Request). request.text) requests in
      let own : asking.texts.items ≡ picked place by shown = texts 0 asking refl ∙ ap (λ p. picked p by shown) (let e : 0 + place ≡ place = omega arith in e) in (
        subst (λ ts. RepliesOf IsReply asking.client 0 ts list) own zip.0,
        all_due (suc place) requests by askings lists (λ i other there. texts (suc i) other there ∙ ap (λ p. picked p by shown) (let e : suc i + place ≡ i + suc place = omega arith in e)) zip.1,
      )

  -- THE REPLIES TO ALL REQUESTS, from those to each client
  pub replies_all : (requests : List Request) (askings : List Asking) (by : List ℕ) (lists : List (List Reply)) → AreAsked requests askings by →
      AllZip (λ (asking : Asking) list. RepliesOf IsReply asking.client 0 asking.texts.items list) askings lists → RepliesFrom IsReply [] requests (dealt by lists)
  replies_all requests askings by lists asked zip =
      replies_dealt (names_of askings) [] requests by lists asked.places
      (all_due 0 requests by askings lists (λ i asking there. asked.texts i asking there ∙ ap (λ p. picked p by (map (λ (request : Request). request.text) requests)) (let e : i ≡ i + 0 = omega arith in e)) zip)
