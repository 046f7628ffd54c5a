-- A reading of requests, from one line to the next and to its end.
use Rattle.std.proofs.Common.{◌≡◌, ℕ, suc, ◌+◌, ◌<◌, ◌≤◌, Bool, true, false, List, [], ◌∷◌, ◌++◌, length, refl, sym, ap, ◌∙◌, subst, inl, inr, arith, append_assoc, length-append, cond, add-zero, zero-add}
use Rattle.std.proofs.lemmas.List.{append-nil}
use Rattle.std.specs.BTreeMap.{is_at}
use Rattle.std.specs.Cmp.Lexicographic.{slice_cmp, texts_ties}
use Rattle.std.specs.List.{list_any}
use Rattle.std.specs.Ordering.{nat_cmp}
use Rattle.std.specs.Prelude.{Option, Some, None, ◌||◌, not, if◌then◌else◌, bytes_eq}
use Rattle.input_lines.specs.Asking.{AreNames, AreClients, HasRoom, TakesLine, IsGoing, GoesOrEnds, or_whole}
use Rattle.input_lines.specs.Pieces.{ComesLine, IsUnbroken}
use Rattle.input_lines.specs.Reading.{raw_lines, max_clients, with_client_name, Within, PassesLine, PassesInput, feed_behind}
use Rattle.input_lines.specs.Request.{Asks}
use Rattle.input_lines.specs.Requests.{clients_in, clients_with, Fits, EndsAt, ReadsFrom, Reads, IsFault, HasRead}
use Rattle.run_plan.specs.declared.clients.Request.{Request}
use Rattle.input_lines.specs.declared.requests.ReadEnd.{ReadEnd}
use Rattle.input_lines.specs.declared.requests.ReadEnd.TheVariants as ends
use Rattle.input_lines.proofs.Feeding.{before_feed}
use Rattle.input_lines.proofs.Names.{length_named, named_with}

-- ---- clients

clients_on : (names : List (List ℕ)) (requests : List Request) (request : Request) → clients_in names (requests ++ request ∷ []) ≡ with_client_name request.client (clients_in names requests)
clients_on names [] request = refl
clients_on names (first ∷ requests) request = clients_on (with_client_name first.client names) requests request

pub no_clients : (keys : List (List ℕ)) → keys ≡ [] → AreClients keys []
no_clients keys none = subst (λ ks. AreClients ks []) (sym none) (record { same = λ name. refl; long = refl; few = omega arith })

cond_or : (b c : Bool) → cond b true c ≡ (b || c)
cond_or true c = refl
cond_or false c = refl

one_longer : (b : Bool) (n : ℕ) → n + (if not b then 1 else 0) ≡ (if b then n else suc n)
one_longer true n = omega arith
one_longer false n = omega arith

pub one_client : (old new : List (List ℕ)) (requests after : List Request) (request : Request) → AreClients old requests →
    ((q : List ℕ) → list_any (is_at (slice_cmp nat_cmp q)) new ≡ cond (is_at (slice_cmp nat_cmp request.client) q) true (list_any (is_at (slice_cmp nat_cmp q)) old)) →
    length new ≡ length old + (if not (list_any (is_at (slice_cmp nat_cmp request.client)) old) then 1 else 0) → after ≡ requests ++ request ∷ [] →
    length (clients_with requests request) ≤ max_clients → AreClients new after
one_client old new requests after request are updates longer more few =
    subst (AreNames new) (sym (ap (clients_in []) more ∙ clients_on [] requests request)) (record {
      same = λ q.
          updates q ∙ ap (λ b. cond b true (list_any (is_at (slice_cmp nat_cmp q)) old)) (sym (texts_ties request.client q)) ∙ cond_or (bytes_eq request.client q) (list_any (is_at (slice_cmp nat_cmp q)) old)
          ∙ ap (λ b. bytes_eq request.client q || b) (are.same q) ∙ sym (named_with q request.client names);
      long =
          longer ∙ ap (λ n. n + (if not (list_any (is_at (slice_cmp nat_cmp request.client)) old) then 1 else 0)) are.long
          ∙ ap (λ b. length names + (if not b then 1 else 0)) (are.same request.client)
          ∙ one_longer (list_any (bytes_eq request.client) names) (length names) ∙ sym (length_named request.client names);
      few = few;
    })
  where
    names : List (List ℕ)
    names = clients_in [] requests

-- so many are the clients with one more
with_one : (keys : List (List ℕ)) (requests : List Request) (request : Request) → AreClients keys requests →
    length (clients_with requests request) ≡ (if list_any (is_at (slice_cmp nat_cmp request.client)) keys then length keys else suc (length keys))
with_one keys requests request are =
    length_named request.client names ∙ ap (λ b. if b then length names else suc (length names)) (sym (are.same request.client))
    ∙ ap (λ n. if list_any (is_at (slice_cmp nat_cmp request.client)) keys then n else suc n) (sym are.long)
  where
    names : List (List ℕ)
    names = clients_in [] requests

pub known_fits : (keys : List (List ℕ)) (requests : List Request) (request : Request) → AreClients keys requests →
    list_any (is_at (slice_cmp nat_cmp request.client)) keys ≡ true → length (clients_with requests request) ≤ max_clients
known_fits keys requests request are known =
    let is = with_one keys requests request are ∙ ap (λ b. if b then length keys else suc (length keys)) known in omega (arith, is, are.long, are.few)

pub few_fits : (keys : List (List ℕ)) (requests : List Request) (request : Request) → AreClients keys requests → length keys < max_clients → length (clients_with requests request) ≤ max_clients
few_fits keys requests request are few = by (list_any (is_at (slice_cmp nat_cmp request.client)) keys) (with_one keys requests request are)
  where
    by : (b : Bool) → length (clients_with requests request) ≡ (if b then length keys else suc (length keys)) → length (clients_with requests request) ≤ max_clients
    by true is = omega (arith, is, few)
    by false is = omega (arith, is, few)

-- ---- one line

-- a request for which there is no room
pub refused : (text : List ℕ) (before : List Request) (request : Request) (end : ReadEnd) → Asks text request → HasRoom before request (Some end) →
    (total at : ℕ) → Within total at text → EndsAt total at before text end
refused text before request ends.Whole asks none total at within = absurd none
refused text before request (ends.BadLine number) asks none total at within = absurd none
refused text before request ends.RequestsOver asks none total at within = (within, (request, asks, none))
refused text before request ends.ClientsOver asks none total at within = (within, (request, asks, none))
refused text before request ends.LineOver asks none total at within = absurd none
refused text before request ends.InputOver asks none total at within = absurd none
refused text before request ends.Fault asks none total at within = tt

-- ---- from line to line

pub none_taken : (input : List ℕ) (left : Option (List ℕ)) (hand : List ℕ) (taken : ℕ) (requests : List Request) (keys : List (List ℕ)) → left ≡ Some input → hand ≡ [] → taken ≡ 0 → requests ≡ [] →
    AreClients keys [] → IsGoing input left hand taken requests keys
none_taken input left hand taken requests keys told no_hand at_start none are =
    subst (λ h. IsGoing input left h taken requests keys) (sym no_hand)
    (subst (λ n. IsGoing input left [] n requests keys) (sym at_start)
    (subst (λ (rs : List Request). IsGoing input left [] 0 rs keys) (sym none)
    (record { behind = input; left_is = told; on = λ more end r. r; feed = λ lines. ap (feed_behind 0 (raw_lines input)) (zero-add lines); whole = omega arith; clients = are })))

module _ (input : List ℕ) (left : Option (List ℕ)) (hand : List ℕ) (taken : ℕ) (requests : List Request) (keys : List (List ℕ)) (going : IsGoing input left hand taken requests keys) where
  abbrev rest : List ℕ
  rest = hand ++ going.behind

  -- the reading ends with no line more, and for no fault
  ends_here : (left' : Option (List ℕ)) (end : ReadEnd) → ¬ (IsFault end) → ReadsFrom (length input) taken requests (raw_lines rest) [] end → HasRead input left' requests end
  ends_here left' end other r =
      record { reads = subst (λ rs. Reads input rs end) (append-nil requests) (going.on [] end r); fails = λ fault. absurd (other fault) }

  pub ends_whole : (left' : Option (List ℕ)) → rest ≡ [] → HasRead input left' requests ends.Whole
  ends_whole left' none = ends_here left' ends.Whole (λ fault. fault) (subst (λ r. ReadsFrom (length input) taken requests (raw_lines r) [] ends.Whole) (sym none) (inl refl))

  ends_at : (left' : Option (List ℕ)) (end : ReadEnd) (raw : List ℕ) (raws : List (List ℕ)) → raw_lines rest ≡ raw ∷ raws → ¬ (IsFault end) → EndsAt (length input) taken requests raw end →
      HasRead input left' requests end
  ends_at left' end raw raws first other e = ends_here left' end other (subst (λ rs. ReadsFrom (length input) taken requests rs [] end) (sym first) e)

  pub ends_line : (left' : Option (List ℕ)) (raw : List ℕ) (raws : List (List ℕ)) → raw_lines rest ≡ raw ∷ raws → PassesLine taken raw → HasRead input left' requests ends.LineOver
  ends_line left' raw raws first over = ends_at left' ends.LineOver raw raws first (λ fault. fault) over

  pub ends_input : (left' : Option (List ℕ)) (raw : List ℕ) (raws : List (List ℕ)) → raw_lines rest ≡ raw ∷ raws → PassesInput (taken + length rest) taken raw → HasRead input left' requests ends.InputOver
  ends_input left' raw raws first over = ends_at left' ends.InputOver raw raws first (λ fault. fault) (subst (λ n. PassesInput n taken raw) going.whole over)

  -- the input failed behind a piece of the next line
  pub ends_fault : (left' : Option (List ℕ)) (piece behind : List ℕ) → left' ≡ Some behind → rest ≡ piece ++ behind → IsUnbroken piece → HasRead input left' requests ends.Fault
  ends_fault left' piece behind told is u =
      record {
        reads = subst (λ rs. Reads input rs ends.Fault) (append-nil requests) (going.on [] ends.Fault (by (raw_lines rest)));
        fails = λ _. (
          behind,
          told,
          let bound : taken + length piece ≤ feed_behind taken (raw_lines rest) 0 = subst (λ r. taken + length piece ≤ feed_behind taken (raw_lines r) 0) (sym is) (before_feed taken piece behind u) in
              let long : length rest ≡ length piece + length behind = ap length is ∙ length-append piece behind in
              omega (arith, ap (feed_behind 0 (raw_lines input)) (sym (add-zero (length requests))) ∙ going.feed 0, bound, long, going.whole),
        );
      }
    where
      by : (raws : List (List ℕ)) → ReadsFrom (length input) taken requests raws [] ends.Fault
      by [] = inr refl
      by (raw ∷ raws) = tt

  module _ (raw : List ℕ) (taken' : ℕ) (rest' : List ℕ) (came : ComesLine taken rest raw taken' rest') where
    within : Within (length input) taken raw
    within = subst (λ n. Within n taken raw) going.whole came.1

    -- its request is read
    one_read : (request : Request) (more : List Request) (end : ReadEnd) → Asks raw request → Fits requests request →
        ReadsFrom (length input) (taken + length raw + 1) (requests ++ request ∷ []) (raw_lines rest') more end → Reads input ((requests ++ request ∷ []) ++ more) end
    one_read request more end asks fits r =
        subst (λ rs. Reads input rs end) (sym (append_assoc requests (request ∷ []) more))
        (going.on (request ∷ more) end (subst (λ rs. ReadsFrom (length input) taken requests rs (request ∷ more) end) (sym came.0) (within, asks, fits, r)))

    -- the last line has none behind it
    pub took_last : (left' : Option (List ℕ)) (after : List Request) (end : Option ReadEnd) → rest' ≡ [] → TakesLine raw requests after end → HasRead input left' after (or_whole end)
    took_last left' after None none t =
        subst (λ (rs : List Request). HasRead input left' rs ends.Whole) (sym t.3) (record {
          reads = subst (λ rs. Reads input rs ends.Whole) (append-nil (requests ++ t.0 ∷ []))
              (one_read t.0 [] ends.Whole t.1 t.2 (subst (λ r. ReadsFrom (length input) (taken + length raw + 1) (requests ++ t.0 ∷ []) (raw_lines r) [] ends.Whole) (sym none) (inl refl)));
          fails = λ fault. absurd fault;
        })
    took_last left' after (Some end) none t =
        subst (λ (rs : List Request). HasRead input left' rs end) (sym t.0) (ends_at left' end raw (raw_lines rest') came.0 t.1 (t.2 (length input) taken within))

    module _ (left' : Option (List ℕ)) (hand' behind' : List ℕ) (told : left' ≡ Some behind') (is : rest' ≡ hand' ++ behind') (fed : taken' ≡ taken + length raw + 1) where
      one_on : (lines : ℕ) {count : ℕ} → count ≡ length requests + 1 → count + lines ≡ length requests + suc lines
      one_on lines {count} is_one = omega (arith, is_one)

      goes_on : (after : List Request) (keys' : List (List ℕ)) → TakesLine raw requests after None → AreClients keys' after → IsGoing input left' hand' taken' after keys'
      goes_on after keys' t are =
          record {
            behind = behind';
            left_is = told;
            on = λ more end r.
                subst (λ rs. Reads input (rs ++ more) end) (sym t.3)
                (one_read t.0 more end t.1 t.2
                (subst (λ n. ReadsFrom (length input) n (requests ++ t.0 ∷ []) (raw_lines rest') more end) fed
                (subst (λ text. ReadsFrom (length input) taken' (requests ++ t.0 ∷ []) (raw_lines text) more end) (sym is)
                (subst (λ rs. ReadsFrom (length input) taken' rs (raw_lines (hand' ++ behind')) more end) t.3 r))));
            feed = λ lines.
                ap (feed_behind 0 (raw_lines input)) (one_on lines (ap length t.3 ∙ length-append requests (t.0 ∷ []))) ∙ going.feed (suc lines)
                ∙ ap (λ rs. feed_behind taken rs (suc lines)) came.0 ∙ ap (λ n. feed_behind n (raw_lines rest') lines) (sym fed)
                ∙ ap (λ text. feed_behind taken' (raw_lines text) lines) is;
            whole = omega (arith, ap length is, came.3, going.whole);
            clients = are;
          }

      pub took_line : (after : List Request) (keys' : List (List ℕ)) (end : Option ReadEnd) → TakesLine raw requests after end → AreClients keys' after → GoesOrEnds input left' hand' taken' after keys' end
      took_line after keys' None t are = goes_on after keys' t are
      took_line after keys' (Some end) t are =
          subst (λ (rs : List Request). HasRead input left' rs end) (sym t.0) (ends_at left' end raw (raw_lines rest') came.0 t.1 (t.2 (length input) taken within))
