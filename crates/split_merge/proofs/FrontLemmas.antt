-- The first of several walks, and a key that one walk alone stands at.
use Rattle.std.proofs.Common.{◌≡◌, ℕ, zero, suc, ◌<◌, Bool, true, false, List, [], ◌∷◌, ◌++◌, length, get_or, set, Option, Some, None, refl, sym, ap, subst, ◌∙◌, arith, inl, inr}
use Rattle.std.specs.Prelude.{if◌then◌else◌}
use Rattle.std.specs.List.{AllByRecursion}
use Rattle.std.proofs.lemmas.List.{append-nil}
use Rattle.doc_value.specs.declared.schema.Schema.{Schema}
use Rattle.fast_fields.proofs.Below.{below_itself, below_then}
use Rattle.term_dict.specs.Keys.{is_below}
use Rattle.term_postings.specs.declared.list.Posting.{Posting}
use Rattle.term_postings.proofs.Lists.{all_both}
use Rattle.split_bundle.specs.declared.placed.Placed.{Placed}
use Rattle.split_bundle.specs.declared.split_view.SplitView.{SplitView}
use Rattle.split_bundle.specs.Lists.{posting_list}
use Rattle.std.specs.Option.{option_copied}
use Rattle.split_merge.specs.declared.key_walks.Front.{Front}
use Rattle.split_merge.specs.declared.key_walks.KeyWalk.{KeyWalk}
use Rattle.split_merge.specs.Joining.{joined_list, renumbered}
use Rattle.split_merge.specs.Keeping.{AreViewsOf, ViewsSplit}
use Rattle.split_merge.specs.Numbering.{number_in}
use Rattle.split_merge.specs.Walking.{AllBut, AreEnded, AreWalks, FrontIs, IsBeyond, IsElsewhere, IsFrontAt, IsNotBelow, IsWalkOf, SomeAt, StandsAtPlace, is_before, is_past, key_in, key_of, lesser}
use Rattle.split_merge.proofs.KeyListLemmas.{none_there, past_key}
use Rattle.split_merge.proofs.UpToLemmas.{not_below_then}
use Rattle.split_merge.proofs.WalkLemmas.{Found}

-- ---- all walks but one

pub all_but_map : (P Q : KeyWalk → Type 0) (i : ℕ) (ws : List KeyWalk) → ((w : KeyWalk) → P w → Q w) → AllBut i P ws → AllBut i Q ws
all_but_map P Q i [] f h = tt
all_but_map P Q zero (w ∷ ws) f h = all_map P Q ws f h
  where
    all_map : (P Q : KeyWalk → Type 0) (us : List KeyWalk) → ((w : KeyWalk) → P w → Q w) → AllByRecursion P us → AllByRecursion Q us
    all_map P Q [] f h = tt
    all_map P Q (u ∷ us) f h = (f u h.0, all_map P Q us f h.1)
all_but_map P Q (suc i) (w ∷ ws) f h = (f w h.0, all_but_map P Q i ws f h.1)

pub all_but_set : (P : KeyWalk → Type 0) (i : ℕ) (ws : List KeyWalk) (now : KeyWalk) → AllBut i P ws → AllBut i P (set ws i now)
all_but_set P i [] now h = tt
all_but_set P zero (w ∷ ws) now h = h
all_but_set P (suc i) (w ∷ ws) now h = (h.0, all_but_set P i ws now h.1)

-- what holds of each but one, and of that one, holds of all
pub all_of : (P : KeyWalk → Type 0) (i : ℕ) (key : List ℕ) (ws : List KeyWalk) → StandsAtPlace i key ws → ((w : KeyWalk) → key_of w ≡ Some key → P w) → AllBut i P ws → AllByRecursion P ws
all_of P i key [] at here h = absurd at
all_of P zero key (w ∷ ws) at here h = (here w at, h)
all_of P (suc i) key (w ∷ ws) at here h = (h.0, all_of P i key ws at here h.1)

pub some_of : (i : ℕ) (key : List ℕ) (ws : List KeyWalk) → StandsAtPlace i key ws → SomeAt key ws
some_of i key [] at = absurd at
some_of zero key (w ∷ ws) at = inl at
some_of (suc i) key (w ∷ ws) at = inr (some_of i key ws at)

pub within_of : (i : ℕ) (key : List ℕ) (ws : List KeyWalk) → StandsAtPlace i key ws → i < length ws
within_of i key [] at = absurd at
within_of zero key (w ∷ ws) at = omega arith
within_of (suc i) key (w ∷ ws) at = omega (arith, within_of i key ws at)

pub place_of : (i : ℕ) (key : List ℕ) (ws : List KeyWalk) (d : KeyWalk) → i < length ws → key_of (get_or ws i d) ≡ Some key → StandsAtPlace i key ws
place_of i key [] d lt at = absurd (omega (arith, lt))
place_of zero key (w ∷ ws) d lt at = at
place_of (suc i) key (w ∷ ws) d lt at = place_of i key ws d (omega (arith, lt)) at

-- what holds of all holds of the one at a place
pub at_place : (P : KeyWalk → Type 0) (i : ℕ) (ws : List KeyWalk) (w d : KeyWalk) → i < length ws → w ≡ get_or ws i d → AllByRecursion P ws → P w
at_place P i [] w d lt is h = absurd (omega (arith, lt))
at_place P zero (u ∷ us) w d lt is h = subst P (sym is) h.0
at_place P (suc i) (u ∷ us) w d lt is h = at_place P i us w d (omega (arith, lt)) is h.1

-- ---- one walk more

place_left : (i : ℕ) (key : List ℕ) (ws us : List KeyWalk) → StandsAtPlace i key ws → StandsAtPlace i key (ws ++ us)
place_left i key [] us at = absurd at
place_left zero key (w ∷ ws) us at = at
place_left (suc i) key (w ∷ ws) us at = place_left i key ws us at

place_last : (key : List ℕ) (ws : List KeyWalk) (w : KeyWalk) → key_of w ≡ Some key → StandsAtPlace (length ws) key (ws ++ w ∷ [])
place_last key [] w at = at
place_last key (u ∷ us) w at = place_last key us w at

but_left : (P : KeyWalk → Type 0) (i : ℕ) (key : List ℕ) (ws : List KeyWalk) (w : KeyWalk) → StandsAtPlace i key ws → AllBut i P ws → P w → AllBut i P (ws ++ w ∷ [])
but_left P i key [] w at h here = absurd at
but_left P zero key (u ∷ us) w at h here = push us h
  where
    push : (us : List KeyWalk) → AllByRecursion P us → AllByRecursion P (us ++ w ∷ [])
    push [] h = (here, tt)
    push (v ∷ vs) h = (h.0, push vs h.1)
but_left P (suc i) key (u ∷ us) w at h here = (h.0, but_left P i key us w at h.1 here)

but_last : (P : KeyWalk → Type 0) (ws : List KeyWalk) (w : KeyWalk) → AllByRecursion P ws → AllBut (length ws) P (ws ++ w ∷ [])
but_last P [] w h = tt
but_last P (u ∷ us) w h = (h.0, but_last P us w h.1)

key_is : (a b : List ℕ) → ◌≡◌ {A = Option (List ℕ)} (Some a) (Some b) → a ≡ b
key_is a b e = cc

ended : (w : KeyWalk) → key_of w ≡ None → w.next ≡ None
ended w e = by w.next e
  where
    by : (o : Option Found) → key_in o ≡ None → o ≡ None
    by None e = refl
    by (Some x) e = absurd cc

not_below_own : (w : KeyWalk) (key low : List ℕ) → key_of w ≡ Some key → is_below key low ≡ false → IsNotBelow low w
not_below_own w key low at not_low other is = subst (λ (k : List ℕ). is_below k low ≡ false) (key_is key other (sym at ∙ is)) not_low

ended_not_below : (w : KeyWalk) (key : List ℕ) → w.next ≡ None → IsNotBelow key w
ended_not_below w key e other is =
    let none : key_of w ≡ None = ap (λ (o : Option Found). key_in o) e in
    absurd cc

-- what is beyond a bound is beyond a key that is not above it
beyond_less : (low : List ℕ) (bound : Option (List ℕ)) (w : KeyWalk) → ((b : List ℕ) → bound ≡ Some b → is_below b low ≡ false) → IsBeyond bound w → IsNotBelow low w
beyond_less low None w under h = ended_not_below w low h
beyond_less low (Some b) w under h = λ other is. not_below_then low b other (under b refl) (h other is)

ended_beyond : (bound : Option (List ℕ)) (w : KeyWalk) → w.next ≡ None → IsBeyond bound w
ended_beyond None w e = e
ended_beyond (Some b) w e = ended_not_below w b e

not_below_self : (key : List ℕ) → is_below key key ≡ false
not_below_self key = by (is_below key key) refl
  where
    by : (b : Bool) → is_below key key ≡ b → b ≡ false
    by true is = absurd (below_itself key is)
    by false is = refl

below_not : (a b : List ℕ) → is_below a b ≡ true → is_below b a ≡ false
below_not a b low = by (is_below b a) refl
  where
    by : (x : Bool) → is_below b a ≡ x → x ≡ false
    by true is = absurd (below_itself a (below_then a b a low is))
    by false is = refl

module _ (i : ℕ) (key : List ℕ) (bound : Option (List ℕ)) (ws : List KeyWalk) (h : IsFrontAt i key bound ws) where
  -- no walk stands below the key in front
  pub front_least : AllByRecursion (IsNotBelow key) ws
  front_least = all_of (IsNotBelow key) i key ws h.at (λ w at. not_below_own w key key at (not_below_self key)) (all_but_map (IsBeyond bound) (IsNotBelow key) i ws (λ w beyond. beyond_less key bound w h.least beyond) h.others)

  -- where the key is before the bound, no other walk stands at it
  pub front_alone : is_before key bound ≡ true → AllBut i (IsElsewhere key) ws
  front_alone before = all_but_map (IsBeyond bound) (IsElsewhere key) i ws (λ w beyond at. by bound before w at beyond) h.others
    where
      by : (o : Option (List ℕ)) → is_before key o ≡ true → (w : KeyWalk) → key_of w ≡ Some key → IsBeyond o w → ⊥
      by None before w at beyond =
          let none : key_of w ≡ None = ap (λ (o : Option Found). key_in o) beyond in
          absurd cc
      by (Some b) before w at beyond =
          let not_low = beyond key at in
          absurd cc

  -- a walk with a lesser key is in front
  pub front_less : (w : KeyWalk) (own : List ℕ) → key_of w ≡ Some own → is_below own key ≡ true → IsFrontAt (length ws) own (Some key) (ws ++ w ∷ [])
  front_less w own at low = record {
    at = place_last own ws w at;
    others = but_last (IsNotBelow key) ws w front_least;
    least = λ other is. subst (λ (k : List ℕ). is_below k own ≡ false) (key_is key other is) (below_not own key low);
  }

  -- another one may bound it
  pub front_more : (w : KeyWalk) (own : List ℕ) → key_of w ≡ Some own → is_below own key ≡ false → IsFrontAt i key (lesser bound (Some own)) (ws ++ w ∷ [])
  front_more w own at not_low = by bound h.others h.least
    where
      by : (o : Option (List ℕ)) → AllBut i (IsBeyond o) ws → ((other : List ℕ) → o ≡ Some other → is_below other key ≡ false) → IsFrontAt i key (lesser o (Some own)) (ws ++ w ∷ [])
      by None others least = record {
        at = place_left i key ws (w ∷ []) h.at;
        others = but_left (IsNotBelow own) i key ws w h.at (all_but_map (IsBeyond None) (IsNotBelow own) i ws (λ u beyond. ended_not_below u own beyond) others) (not_below_own w own own at (not_below_self own));
        least = λ other is. subst (λ (k : List ℕ). is_below k key ≡ false) (key_is own other is) not_low;
      }
      by (Some b) others least = choose (is_below own b) refl
        where
          choose : (x : Bool) → is_below own b ≡ x → IsFrontAt i key (if x then Some own else Some b) (ws ++ w ∷ [])
          choose true low = record {
            at = place_left i key ws (w ∷ []) h.at;
            others = but_left (IsNotBelow own) i key ws w h.at
                (all_but_map (IsBeyond (Some b)) (IsNotBelow own) i ws (λ u beyond. beyond_less own (Some b) u (λ other is. subst (λ (k : List ℕ). is_below k own ≡ false) (key_is b other is) (below_not own b low)) beyond) others)
                (not_below_own w own own at (not_below_self own));
            least = λ other is. subst (λ (k : List ℕ). is_below k key ≡ false) (key_is own other is) not_low;
          }
          choose false up = record {
            at = place_left i key ws (w ∷ []) h.at;
            others = but_left (IsNotBelow b) i key ws w h.at others (not_below_own w own b at up);
            least = least;
          }

  -- one that is at its end changes nothing
  pub front_ended : (w : KeyWalk) → key_of w ≡ None → IsFrontAt i key bound (ws ++ w ∷ [])
  front_ended w none = record {
    at = place_left i key ws (w ∷ []) h.at;
    others = but_left (IsBeyond bound) i key ws w h.at h.others (ended_beyond bound w (ended w none));
    least = h.least;
  }

pub front_first : (ws : List KeyWalk) (w : KeyWalk) (own : List ℕ) → AreEnded ws → key_of w ≡ Some own → IsFrontAt (length ws) own None (ws ++ w ∷ [])
front_first ws w own none at = record {
  at = place_last own ws w at;
  others = but_last (IsBeyond None) ws w none;
  least = λ other is. absurd cc;
}

pub ended_more : (ws : List KeyWalk) (w : KeyWalk) → AreEnded ws → key_of w ≡ None → AreEnded (ws ++ w ∷ [])
ended_more ws w none at = all_both (λ (u : KeyWalk). u.next ≡ None) ws (w ∷ []) none (ended w at, tt)

-- a walk that is at its end changes nothing
pub front_same : (f : Option Front) (ws : List KeyWalk) (w : KeyWalk) → key_of w ≡ None → FrontIs f ws → FrontIs f (ws ++ w ∷ [])
front_same None ws w none h = ended_more ws w h none
front_same (Some f) ws w none h = front_ended f.walk f.key.now (option_copied f.bound) ws h w none

-- a walk that went on is still in front where its key is before the bound
pub still_at : (i : ℕ) (key : List ℕ) (bound : Option (List ℕ)) (ws : List KeyWalk) (w d : KeyWalk) → i < length ws → w ≡ get_or ws i d → key_of w ≡ Some key → is_before key bound ≡ true → AllBut i (IsBeyond bound) ws → IsFrontAt i key bound ws
still_at i key bound ws w d lt is at before others = record {
  at = place_of i key ws d lt (subst (λ (u : KeyWalk). key_of u ≡ Some key) is at);
  others = others;
  least = λ other bound_is. by bound other bound_is before;
}
  where
    by : (o : Option (List ℕ)) (other : List ℕ) → o ≡ Some other → is_before key o ≡ true → is_below other key ≡ false
    by None other e before = absurd cc
    by (Some b) other e before = subst (λ (k : List ℕ). is_below k key ≡ false) (key_is b other e) (below_not key b before)

-- ---- a key that one walk alone stands at

module _ (s : Schema) (last : Option (List ℕ)) (key : List ℕ) (past : is_past last key ≡ true) where
  none_at : (vs : List SplitView) (ws : List KeyWalk) → AreWalks s last vs ws → AllByRecursion (IsNotBelow key) ws → AllByRecursion (IsElsewhere key) ws → AreWalks s (Some key) vs ws
  none_at [] [] are least apart = tt
  none_at [] (w ∷ ws) are least apart = absurd are
  none_at (v ∷ vs) [] are least apart = absurd are
  none_at (v ∷ vs) (w ∷ ws) are least apart = (past_key s last v w key are.0 past least.0 apart.0, none_at vs ws are.1 least.1 apart.1)

  none_joined : (vs : List SplitView) (ws : List KeyWalk) (lists : List (List Placed)) (tables : List (List ℕ)) → AreWalks s last vs ws → AllByRecursion (IsNotBelow key) ws → AllByRecursion (IsElsewhere key) ws → AreViewsOf s vs lists
      → joined_list s key lists tables ≡ []
  none_joined [] ws [] tables are least apart of = refl
  none_joined [] ws (ds ∷ dss) tables are least apart of = absurd of
  none_joined (v ∷ vs) ws [] tables are least apart of = absurd of
  none_joined (v ∷ vs) [] (ds ∷ dss) tables are least apart of = absurd are
  none_joined (v ∷ vs) (w ∷ ws) (ds ∷ dss) [] are least apart of = refl
  none_joined (v ∷ vs) (w ∷ ws) (ds ∷ dss) (t ∷ ts) are least apart of =
      ap (λ (ps : List Posting). renumbered (number_in t) ps ++ joined_list s key dss ts) (none_there s last v w key are.0 past least.0 apart.0 ds of.0.0 of.0.1) ∙ none_joined vs ws dss ts are.1 least.1 apart.1 of.1

  -- the walk at a place goes on behind the key
  pub alone_walks : (i : ℕ) (vs : List SplitView) (ws : List KeyWalk) (v d : SplitView) (now : KeyWalk) → v ≡ get_or vs i d → AreWalks s last vs ws → AllByRecursion (IsNotBelow key) ws → AllBut i (IsElsewhere key) ws → IsWalkOf s (Some key) v now
      → AreWalks s (Some key) vs (set ws i now)
  alone_walks i [] [] v d now is are least apart goes = tt
  alone_walks i [] (w ∷ ws) v d now is are least apart goes = absurd are
  alone_walks i (u ∷ us) [] v d now is are least apart goes = absurd are
  alone_walks zero (u ∷ us) (w ∷ ws) v d now is are least apart goes = (subst (λ (x : SplitView). IsWalkOf s (Some key) x now) is goes, none_at us ws are.1 least.1 apart)
  alone_walks (suc i) (u ∷ us) (w ∷ ws) v d now is are least apart goes = (past_key s last u w key are.0 past least.0 apart.0, alone_walks i us ws v d now is are.1 least.1 apart.1 goes)

  -- its list is all that there is
  pub record AloneAt (v : SplitView) (lists : List (List Placed)) (tables : List (List ℕ)) (table : List ℕ) : Type 0 where
    pub documents : List Placed
    pub views : ViewsSplit s v documents
    pub whole : joined_list s key lists tables ≡ renumbered (number_in table) (posting_list s documents key)

  pub alone_at : (i : ℕ) (vs : List SplitView) (ws : List KeyWalk) (lists : List (List Placed)) (tables : List (List ℕ)) (v d : SplitView) (table e : List ℕ) → i < length vs → length tables ≡ length vs → v ≡ get_or vs i d → table ≡ get_or tables i e
      → AreWalks s last vs ws → AllByRecursion (IsNotBelow key) ws → AllBut i (IsElsewhere key) ws → AreViewsOf s vs lists → AloneAt v lists tables table
  alone_at i [] ws lists tables v d table e lt size v_is t_is are least apart of = absurd (omega (arith, lt))
  alone_at i (u ∷ us) [] lists tables v d table e lt size v_is t_is are least apart of = absurd are
  alone_at i (u ∷ us) (w ∷ ws) [] tables v d table e lt size v_is t_is are least apart of = absurd of
  alone_at i (u ∷ us) (w ∷ ws) (ds ∷ dss) [] v d table e lt size v_is t_is are least apart of = absurd (omega (arith, size))
  alone_at zero (u ∷ us) (w ∷ ws) (ds ∷ dss) (t ∷ ts) v d table e lt size v_is t_is are least apart of = record {
    documents = ds;
    views = subst (λ (x : SplitView). ViewsSplit s x ds) (sym v_is) of.0;
    whole = ap (λ (ps : List Posting). renumbered (number_in t) (posting_list s ds key) ++ ps) (none_joined us ws dss ts are.1 least.1 apart of.1) ∙ append-nil (renumbered (number_in t) (posting_list s ds key))
        ∙ ap (λ (x : List ℕ). renumbered (number_in x) (posting_list s ds key)) (sym t_is);
  }
  alone_at (suc i) (u ∷ us) (w ∷ ws) (ds ∷ dss) (t ∷ ts) v d table e lt size v_is t_is are least apart of =
      let a = alone_at i us ws dss ts v d table e (omega (arith, lt)) (omega (arith, size)) v_is t_is are.1 least.1 apart.1 of.1 in
      record {
        documents = a.documents;
        views = a.views;
        whole = ap (λ (ps : List Posting). renumbered (number_in t) ps ++ joined_list s key dss ts) (none_there s last u w key are.0 past least.0 apart.0 ds of.0.0 of.0.1) ∙ a.whole;
      }
