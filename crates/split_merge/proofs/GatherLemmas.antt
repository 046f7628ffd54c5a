-- A key is taken from split after split.
use Rattle.std.proofs.Common.{◌≡◌, ℕ, zero, suc, ◌+◌, ◌<◌, Bool, List, [], ◌∷◌, ◌++◌, length, drop, get_or, set, Option, sym, ap, subst, ◌∙◌, arith, append_assoc}
use Rattle.std.specs.List.{AllByRecursion, AllZip}
use Rattle.std.proofs.lemmas.List.{append-nil}
use Rattle.doc_value.specs.declared.schema.Schema.{Schema}
use Rattle.term_postings.specs.declared.list.Posting.{Posting}
use Rattle.split_bundle.specs.declared.placed.Placed.{Placed}
use Rattle.split_bundle.specs.declared.split_view.SplitView.{SplitView}
use Rattle.split_bundle.specs.Lists.{posting_list}
use Rattle.split_build.proofs.Zipped.{Partly}
use Rattle.split_merge.specs.declared.key_walks.KeyWalk.{KeyWalk}
use Rattle.split_merge.specs.declared.lists.KeyList.{KeyList}
use Rattle.split_merge.specs.Joining.{Holds, joined_list, renumbered}
use Rattle.split_merge.specs.Numbering.{number_in}
use Rattle.split_merge.specs.Walking.{AreWalks, IsNotBelow, IsWalkOf}

-- a walk that stands behind a last key, and not below a key
pub record IsReady (s : Schema) (last : Option (List ℕ)) (key : List ℕ) (v : SplitView) (w : KeyWalk) : Type 0 where
  pub walk : IsWalkOf s last v w
  pub not_below : IsNotBelow key w

pub all_ready : (s : Schema) (last : Option (List ℕ)) (key : List ℕ) (vs : List SplitView) (ws : List KeyWalk) → AreWalks s last vs ws → AllByRecursion (IsNotBelow key) ws → AllZip (IsReady s last key) vs ws
all_ready s last key [] [] are not_below = tt
all_ready s last key [] (w ∷ ws) are not_below = absurd are
all_ready s last key (v ∷ vs) [] are not_below = absurd are
all_ready s last key (v ∷ vs) (w ∷ ws) are not_below = (record { walk = are.0; not_below = not_below.0 }, all_ready s last key vs ws are.1 not_below.1)

-- the walk at a place that was not passed
pub ready_at : {A B : Type 0} (P Q : A → B → Type 0) (i : ℕ) (ls : List A) (ms : List B) (a d : A) (b e : B) → i < length ms → a ≡ get_or ls i d → b ≡ get_or ms i e → Partly P Q i ls ms → Q a b
ready_at P Q i ls [] a d b e lt a_is b_is h = absurd (omega (arith, lt))
ready_at P Q zero [] (m ∷ ms) a d b e lt a_is b_is h = absurd h
ready_at P Q zero (l ∷ ls) (m ∷ ms) a d b e lt a_is b_is h = subst (λ x. Q x b) (sym a_is) (subst (λ y. Q l y) (sym b_is) h.0)
ready_at P Q (suc i) [] (m ∷ ms) a d b e lt a_is b_is h = absurd h
ready_at P Q (suc i) (l ∷ ls) (m ∷ ms) a d b e lt a_is b_is h = ready_at P Q i ls ms a d b e (omega (arith, lt)) a_is b_is h.1

-- it is changed
pub set_here : {A B : Type 0} (P Q : A → B → Type 0) (i : ℕ) (ls : List A) (ms : List B) (a d : A) (b : B) → i < length ms → a ≡ get_or ls i d → P a b → Partly P Q i ls ms → Partly P Q (suc i) ls (set ms i b)
set_here P Q i ls [] a d b lt is here h = absurd (omega (arith, lt))
set_here P Q zero [] (m ∷ ms) a d b lt is here h = absurd h
set_here P Q zero (l ∷ ls) (m ∷ ms) a d b lt is here h = (subst (λ x. P x b) is here, h.1)
set_here P Q (suc i) [] (m ∷ ms) a d b lt is here h = absurd h
set_here P Q (suc i) (l ∷ ls) (m ∷ ms) a d b lt is here h = (h.0, set_here P Q i ls ms a d b (omega (arith, lt)) is here h.1)

-- ---- a list of documents so far

pub record JoinsSoFar (s : Schema) (key : List ℕ) (lists : List (List Placed)) (tables : List (List ℕ)) (whole : List Posting) (kept : Bool) (l : KeyList) : Type 0 where
  pub list : List Posting
  pub holds : Holds kept l list
  pub whole_is : list ++ joined_list s key lists tables ≡ whole

pub joins_more : (s : Schema) (key : List ℕ) (lists : List (List Placed)) (ds : List Placed) (dss : List (List Placed)) (tables : List (List ℕ)) (t : List ℕ) (ts : List (List ℕ)) (whole : List Posting) (kept : Bool) (l now : KeyList)
    → lists ≡ ds ∷ dss → tables ≡ t ∷ ts → (h : JoinsSoFar s key lists tables whole kept l) → Holds kept now (h.list ++ renumbered (number_in t) (posting_list s ds key)) → JoinsSoFar s key dss ts whole kept now
joins_more s key lists ds dss tables t ts whole kept l now lists_is tables_is h holds = record {
  list = h.list ++ renumbered (number_in t) (posting_list s ds key);
  holds = holds;
  whole_is = append_assoc h.list (renumbered (number_in t) (posting_list s ds key)) (joined_list s key dss ts) ∙ ap (λ (x : List (List ℕ)). h.list ++ joined_list s key (ds ∷ dss) x) (sym tables_is)
      ∙ ap (λ (x : List (List Placed)). h.list ++ joined_list s key x tables) (sym lists_is) ∙ h.whole_is;
}

pub all_joined : (s : Schema) (key : List ℕ) (lists : List (List Placed)) (tables : List (List ℕ)) (whole : List Posting) (kept : Bool) (l : KeyList) → lists ≡ [] → JoinsSoFar s key lists tables whole kept l → Holds kept l whole
all_joined s key lists tables whole kept l none h =
    subst (λ (ps : List Posting). Holds kept l ps) (sym (append-nil h.list) ∙ ap (λ (x : List (List Placed)). h.list ++ joined_list s key x tables) (sym none) ∙ h.whole_is) h.holds

pub drop_is : {X : Type 0} (xs : List X) (i : ℕ) (x d : X) → i < length xs → x ≡ get_or xs i d → drop i xs ≡ x ∷ drop (i + 1) xs
drop_is [] i x d lt is = absurd (omega (arith, lt))
drop_is (y ∷ ys) zero x d lt is = ap (λ z. z ∷ ys) (sym is)
drop_is (y ∷ ys) (suc i) x d lt is = let next : suc i + 1 ≡ suc (i + 1) = omega arith in drop_is ys i x d (omega (arith, lt)) is ∙ ap (λ (n : ℕ). x ∷ drop n (y ∷ ys)) (sym next)
