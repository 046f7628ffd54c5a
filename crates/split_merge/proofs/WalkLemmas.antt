-- Walks over terms, and the least key of several.
use Rattle.std.proofs.Common.{◌≡◌, ℕ, true, false, List, [], ◌∷◌, drop, filter, Option, Some, None, Result, Ok, Err, refl, sym, ap, subst, ◌∙◌, nat_eq}
use Rattle.std.specs.Borrow.{Bor}
use Rattle.std.specs.List.{starts_with}
use Rattle.byte_fields.specs.declared.corrupt.Corrupt.{Corrupt}
use Rattle.term_dict.specs.Keys.{is_below}
use Rattle.term_dict.specs.Lent.{GivesFirst}
use Rattle.term_dict.specs.Readers.{Lends}
use Rattle.term_dict.specs.Terms.{IsRising}
use Rattle.term_dict.specs.declared.range.TermRange.{TermRange}
use Rattle.term_dict.specs.declared.term.Term.{Term}
use Rattle.term_dict.specs.declared.term.TermInfo.{TermInfo}
use Rattle.split_merge.specs.declared.key_walks.KeyWalk.{KeyWalk}
use Rattle.split_merge.specs.Walking.{GivesTerms, IsAt, key_in, key_of}

-- ---- a walk

abbrev pub Found : Type 0
Found = Bor (List ℕ) × TermInfo

abbrev pub walk : TermRange → Option Found → KeyWalk
walk terms next = record { terms = terms; next = next }

abbrev pub read : Option Found → Result (Option Found) Corrupt
read next = Ok next

-- what a range lends is what the walk is to give
pub gives_terms : (ts : List Term) (terms : TermRange) (next : Option Found) → GivesFirst ts (read next) → Lends terms (drop 1 ts) → GivesTerms (walk terms next) ts
gives_terms [] terms None first lends = refl
gives_terms [] terms (Some x) first lends = absurd first
gives_terms (t ∷ ts) terms None first lends = absurd first
gives_terms (t ∷ ts) terms (Some x) first lends = (x, refl, first.0, first.1, lends)

pub no_fault : (ts : List Term) (c : Corrupt) → GivesFirst ts (Err c) → ⊥
no_fault [] c first = first
no_fault (t ∷ ts) c first = first

-- every key begins with nothing
pub filter_all : (ts : List Term) → filter (λ (t : Term). starts_with nat_eq t.key []) ts ≡ ts
filter_all [] = refl
filter_all (t ∷ ts) = ap (λ (l : List Term). t ∷ l) (filter_all ts)

some_is : (x y : Found) → ◌≡◌ {A = Option Found} (Some x) (Some y) → x ≡ y
some_is x y e = cc

-- of rising terms the second key is above the first
pub next_above : (w : KeyWalk) (own other : Bor (List ℕ)) (info more : TermInfo) (t : Term) (ts : List Term) → w.next ≡ Some (own, info) → GivesTerms w (t ∷ ts) → IsRising (t ∷ ts) → GivesFirst ts (read (Some (other, more)))
    → is_below own.now other.now ≡ false → ⊥
next_above w own other info more t [] is gives rise first low = absurd first
next_above w own other info more t (u ∷ us) is gives rise first low =
    let same : (own, info) ≡ gives.0 = some_is (own, info) gives.0 (sym is ∙ gives.1) in
    let own_is : own.now ≡ t.key = ap (λ (x : Found). x.0.now) same ∙ gives.2 in
    let up : is_below own.now other.now ≡ true = subst (λ (k : List ℕ). is_below k other.now ≡ true) (sym own_is) (subst (λ (k : List ℕ). is_below t.key k ≡ true) (sym first.0) rise.0.0) in
    absurd cc

pub stands_at : (w : KeyWalk) (own : Bor (List ℕ)) (info : TermInfo) (key : List ℕ) → w.next ≡ Some (own, info) → own.now ≡ key → IsAt w key info
stands_at w own info key is same = (own, is, same)

pub stands_elsewhere : (w : KeyWalk) (own : Bor (List ℕ)) (info : TermInfo) (key : List ℕ) → w.next ≡ Some (own, info) → (own.now ≡ key → ⊥) → key_of w ≡ Some key → ⊥
stands_elsewhere w own info key is apart e =
    let here : key_of w ≡ Some own.now = ap (λ (o : Option Found). key_in o) is in
    apart (key_is own.now key (sym here ∙ e))
  where
    key_is : (a b : List ℕ) → ◌≡◌ {A = Option (List ℕ)} (Some a) (Some b) → a ≡ b
    key_is a b e = cc

pub stands_nowhere : (w : KeyWalk) (key : List ℕ) → w.next ≡ None → key_of w ≡ Some key → ⊥
stands_nowhere w key is e =
    let here : key_of w ≡ None = ap (λ (o : Option Found). key_in o) is in
    absurd cc
