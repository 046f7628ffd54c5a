-- Looking through the calls that are to fail, an entry at a time.
use Rattle.std.proofs.Common.{◌≡◌, ◌≢◌, ℕ, ◌+◌, ◌<◌, Bool, true, false, cond, List, [], ◌∷◌, ◌++◌, length, get_or, take, drop, Some, sym, ap, subst, ◌∙◌, append_assoc, add-one}
use Rattle.std.specs.Ordering.{nat_cmp, eq_by_cmp, is_eq}
use Rattle.std.specs.Cmp.Lexicographic.{slice_cmp}
use Rattle.std.proofs.lemmas.List.{get_or_default, at_drop_more, take_more}
use Rattle.object_store.specs.declared.plan.Landing.{Landing}
use Rattle.object_store.specs.FaultPlan.{landing_of_key, without_key, IsFirstOf}
use Rattle.object_store.proofs.Entries.{ties_itself, not_tied}

abbrev KeyEntry : Type 0
KeyEntry = List ℕ × Landing

-- what is behind a place answers for all, and so for what is left
pub record IsPassed (key : List ℕ) (keys : List (List ℕ × Landing)) (i : ℕ) : Type 0 where
  pub landing : landing_of_key key (drop i keys) ≡ landing_of_key key keys
  pub rest : take i keys ++ without_key key (drop i keys) ≡ without_key key keys

landing_at : (key : List ℕ) (keys : List (List ℕ × Landing)) (i : ℕ) (e : List ℕ × Landing) (b : Bool) → i < length keys → e ≡ get_or keys i e → eq_by_cmp (slice_cmp nat_cmp) e.0 key ≡ b
    → landing_of_key key (drop i keys) ≡ cond b (Some e.1) (landing_of_key key (drop (i + 1) keys))
landing_at key keys i e b lt is tie =
    at_drop_more (λ (l : List KeyEntry). landing_of_key key l) keys i e lt ∙ ap (λ (x : KeyEntry). landing_of_key key (x ∷ drop (i + 1) keys)) (sym is)
    ∙ ap (λ (b : Bool). cond b (Some e.1) (landing_of_key key (drop (i + 1) keys))) tie

without_at : (key : List ℕ) (keys : List (List ℕ × Landing)) (i : ℕ) (e : List ℕ × Landing) (b : Bool) → i < length keys → e ≡ get_or keys i e → eq_by_cmp (slice_cmp nat_cmp) e.0 key ≡ b
    → without_key key (drop i keys) ≡ cond b (drop (i + 1) keys) (e ∷ without_key key (drop (i + 1) keys))
without_at key keys i e b lt is tie =
    at_drop_more (λ (l : List KeyEntry). without_key key l) keys i e lt ∙ ap (λ (x : KeyEntry). without_key key (x ∷ drop (i + 1) keys)) (sym is)
    ∙ ap (λ (b : Bool). cond b (drop (i + 1) keys) (e ∷ without_key key (drop (i + 1) keys))) tie

tie_is : (a b : List ℕ) → a ≡ b → eq_by_cmp (slice_cmp nat_cmp) a b ≡ true
tie_is a b same = ap (λ (k : List ℕ). eq_by_cmp (slice_cmp nat_cmp) k b) same ∙ ap is_eq (ties_itself b)

pub key_found : (key : List ℕ) (keys : List (List ℕ × Landing)) (i : ℕ) (e : List ℕ × Landing) → IsPassed key keys i → i < length keys → e ≡ get_or keys i e → e.0 ≡ key → IsFirstOf key keys i
key_found key keys i e p lt here same =
    record {
      within = lt;
      landing_is = λ d. sym p.landing ∙ landing_at key keys i e true lt here (tie_is e.0 key same) ∙ ap (λ (x : KeyEntry). Some x.1) (here ∙ get_or_default keys i e d lt);
      rest_is = sym p.rest ∙ ap (λ (l : List KeyEntry). take i keys ++ l) (without_at key keys i e true lt here (tie_is e.0 key same)) ∙ ap (λ (n : ℕ). take i keys ++ drop n keys) (add-one i);
    }

pub key_passed : (key : List ℕ) (keys : List (List ℕ × Landing)) (i : ℕ) (e : List ℕ × Landing) → IsPassed key keys i → i < length keys → e ≡ get_or keys i e → e.0 ≢ key → IsPassed key keys (i + 1)
key_passed key keys i e p lt is other =
    let tie = not_tied e.0 key other in
    let front : take (i + 1) keys ≡ take i keys ++ e ∷ [] = take_more keys i e lt ∙ ap (λ (x : KeyEntry). take i keys ++ x ∷ []) (sym is) in
    record {
      landing = sym (landing_at key keys i e false lt is tie) ∙ p.landing;
      rest = ap (λ (l : List KeyEntry). l ++ without_key key (drop (i + 1) keys)) front ∙ append_assoc (take i keys) (e ∷ []) (without_key key (drop (i + 1) keys))
          ∙ ap (λ (l : List KeyEntry). take i keys ++ l) (sym (without_at key keys i e false lt is tie)) ∙ p.rest;
    }

-- the entry at the first place of a key says when its create lands
pub landing_there : (key : List ℕ) (keys found : List KeyEntry) (at : ℕ) (e : KeyEntry) → IsFirstOf key found at → found ≡ keys → e ≡ get_or keys at e → Some e.1 ≡ landing_of_key key keys
landing_there key keys found at e first same is =
    sym (subst (λ (l : List KeyEntry). landing_of_key key l ≡ Some (get_or l at e).1) same (first.landing_is e) ∙ ap (λ (x : KeyEntry). Some x.1) (sym is))
