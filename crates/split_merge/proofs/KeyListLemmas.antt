-- A key is taken from the dictionary of a split.
use Rattle.std.proofs.Common.{◌≡◌, ℕ, ◌≤◌, length, drop, arith, length-drop, Bool, true, false, List, [], ◌∷◌, ◌++◌, Option, Some, Result, Ok, Err, refl, sym, ap, subst, ◌∙◌}
use Rattle.std.specs.Prelude.{MatchResult, OnOk}
use Rattle.std.specs.Borrow.{Bor}
use Rattle.std.specs.List.{AllByRecursion}
use Rattle.std.proofs.lemmas.List.{append-nil, length-take-le}
use Rattle.doc_value.specs.declared.schema.Schema.{Schema}
use Rattle.fast_fields.proofs.Below.{neither_below}
use Rattle.term_dict.specs.Keys.{is_below}
use Rattle.term_dict.specs.Terms.{IsRising}
use Rattle.term_dict.specs.declared.term.Term.{Term}
use Rattle.term_dict.specs.declared.term.TermInfo.{TermInfo}
use Rattle.term_postings.specs.Postings.{AreDocuments, Fits, position_bytes}
use Rattle.term_postings.specs.declared.list.Posting.{Posting}
use Rattle.split_bundle.specs.declared.placed.Placed.{Placed}
use Rattle.split_bundle.specs.declared.split_error.SplitError.{SplitError}
use Rattle.split_bundle.specs.declared.split_view.SplitView.{SplitView}
use Rattle.split_bundle.specs.Files.{Parts}
use Rattle.split_bundle.specs.Lending.{IsListAt}
use Rattle.split_bundle.specs.Lists.{posting_list, terms_of}
use Rattle.split_bundle.specs.SplitViews.{IsViewOf}
use Rattle.split_merge.specs.declared.key_walks.KeyWalk.{KeyWalk}
use Rattle.split_merge.specs.declared.lists.KeyList.{KeyList}
use Rattle.split_merge.specs.Faults.{IsWant}
use Rattle.split_merge.specs.Joining.{CanHave, CanSpell, Holds, renumbered}
use Rattle.split_merge.specs.Walking.{GivesTerms, IsAt, IsNotBelow, IsWalkOf, is_past, key_in, key_of}
use Rattle.split_merge.proofs.PastLemmas.{StandsAtKey, not_listed, stands_at_key, stands_past_key}

each_can : (kept : Bool) (ps : List Posting) → AllByRecursion (Fits kept) ps → AllByRecursion (λ p. CanHave kept p.positions) ps
each_can kept [] h = tt
each_can kept (p ∷ ps) h = (record { rising = h.0.rising; may = h.0.may_have; numbers = h.0.numbers }, each_can kept ps h.1)

pub can_spell : (kept : Bool) (ps : List Posting) → AreDocuments kept ps → CanSpell kept ps
can_spell kept ps h = record { rising = h.rising; each = each_can kept ps h.fits }

-- the positions of a term's list have so many bytes
pub positions_length : (p : Parts) (info : TermInfo) (kept : Bool) (list : List Posting) → IsListAt p info kept list → info.positions_len ≡ length (position_bytes list)
positions_length p info kept list h =
    let within : info.positions_len ≤ length (drop info.positions p.positions) = omega (arith, h.positions_within, length-drop info.positions p.positions) in
    sym (length-take-le info.positions_len (drop info.positions p.positions) within) ∙ ap (λ (l : List ℕ). length l) h.positions

abbrev Done : Type 0
Done = Result (Unit {0}) SplitError

module _ (s : Schema) (last : Option (List ℕ)) (v : SplitView) (w : KeyWalk) (key : List ℕ) (walk : IsWalkOf s last v w) where
  -- at the key
  module _ (info : TermInfo) (at : IsAt w key info) where
    pub here : (ds : List Placed) (p : Parts) → IsViewOf v s ds p → StandsAtKey last w key info (terms_of s ds p.keys)
    here ds p is = stands_at_key last w key info (terms_of s ds p.keys) is.is_split.dictionary.are_terms.rising (walk.only ds p is) at

    own_key : key_of w ≡ Some key
    own_key = ap (λ (o : Option (Bor (List ℕ) × TermInfo)). key_in o) at.1 ∙ ap (λ (k : List ℕ). some k) at.2
      where
        some : List ℕ → Option (List ℕ)
        some k = Some k

    pub behind_key : (now : KeyWalk) (r : Done) → ((a b : List ℕ) → key_of w ≡ Some a → key_of now ≡ Some b → OnOk r (is_below a b ≡ true))
        → ((t : Term) (ts : List Term) → GivesTerms w (t ∷ ts) → IsRising (t ∷ ts) → MatchResult r (λ _. GivesTerms now ts) IsWant) → OnOk r (IsWalkOf s (Some key) v now)
    behind_key now (Ok u) above only = record {
      ahead = λ k e. above key k own_key e;
      only = λ ds p is. let h = here ds p is in subst (λ (l : List Term). GivesTerms now l) (sym h.past) (only h.first h.rest h.gives h.rises);
    }
    behind_key now (Err e) above only = tt

    -- of a split the walk goes on
    pub goes_on : (now : KeyWalk) (r : Done) (P : Type 0) (ds : List Placed) (p : Parts) → IsViewOf v s ds p
        → ((t : Term) (ts : List Term) → GivesTerms w (t ∷ ts) → IsRising (t ∷ ts) → MatchResult r (λ _. GivesTerms now ts) IsWant) → P → MatchResult r (λ _. P) IsWant
    goes_on now (Ok u) P ds p is only h = h
    goes_on now (Err e) P ds p is only h = let x = here ds p is in only x.first x.rest x.gives x.rises

  -- not at the key
  module _ (past : is_past last key ≡ true) (not_below : IsNotBelow key w) (elsewhere : key_of w ≡ Some key → ⊥) where
    pub past_key : IsWalkOf s (Some key) v w
    past_key = record {
      ahead = λ k e. by k e (is_below key k) refl;
      only = λ ds p is. (stands_past_key last w key (terms_of s ds p.keys) is.is_split.dictionary.are_terms.rising (walk.only ds p is) past not_below elsewhere).gives;
    }
      where
        some : List ℕ → Option (List ℕ)
        some k = Some k

        by : (k : List ℕ) → key_of w ≡ Some k → (b : Bool) → is_below key k ≡ b → b ≡ true
        by k e true up = refl
        by k e false down = absurd (elsewhere (e ∙ ap (λ (x : List ℕ). some x) (neither_below k key (not_below k e) down)))

    pub none_there : (ds : List Placed) (p : Parts) → IsViewOf v s ds p → posting_list s ds key ≡ []
    none_there ds p is =
        not_listed s ds p.keys key is.is_split.keys (stands_past_key last w key (terms_of s ds p.keys) is.is_split.dictionary.are_terms.rising (walk.only ds p is) past not_below elsewhere).looked

    pub still_holds : (kept : Bool) (l : KeyList) (number : ℕ → Option ℕ) (ds : List Placed) (p : Parts) (ps : List Posting) → IsViewOf v s ds p → Holds kept l ps → Holds kept l (ps ++ renumbered number (posting_list s ds key))
    still_holds kept l number ds p ps is h =
        subst (λ (qs : List Posting). Holds kept l qs) (sym (append-nil ps) ∙ ap (λ (qs : List Posting). ps ++ renumbered number qs) (sym (none_there ds p is))) h
