-- Rising terms behind a last key, and a walk over them.
use Rattle.std.proofs.Common.{◌≡◌, ℕ, suc, ◌+◌, Bool, true, false, cond, List, [], ◌∷◌, length, Option, Some, None, refl, sym, ap, subst, ◌∙◌, inl, inr}
use Rattle.std.specs.Borrow.{Bor}
use Rattle.std.specs.List.{AllByRecursion}
use Rattle.std.specs.Ordering.{is_eq}
use Rattle.std.specs.Str.{bytes_eq}
use Rattle.std.proofs.lemmas.Map.Text.{is_eq-slice_cmp}
use Rattle.std.proofs.lemmas.Slice.Eq.{bytes_eq-Decides}
use Rattle.doc_value.specs.declared.schema.Schema.{Schema}
use Rattle.fast_fields.proofs.Below.{below_then, below_itself, neither_below}
use Rattle.term_dict.specs.Keys.{is_below, order}
use Rattle.term_dict.specs.Terms.{IsRising, lookup}
use Rattle.term_dict.specs.declared.term.Term.{Term}
use Rattle.term_dict.specs.declared.term.TermInfo.{TermInfo}
use Rattle.split_bundle.specs.declared.placed.Placed.{Placed}
use Rattle.split_bundle.specs.Keys.{keys_of}
use Rattle.split_bundle.specs.Lists.{has_key, list_of, places_in, posted, posting_list, stands_in, term_of, terms_from, terms_of}
use Rattle.split_bundle.specs.Splits.{AreKeys}
use Rattle.split_build.specs.Members.{IsAmong}
use Rattle.split_build.proofs.KeysLemmas.{among_contains}
use Rattle.split_merge.specs.declared.key_walks.KeyWalk.{KeyWalk}
use Rattle.split_merge.specs.Walking.{GivesTerms, IsAt, IsNotBelow, is_past, key_in, key_of, terms_past}

-- ---- the order of keys

pub not_both : (a b : List ℕ) → is_below a b ≡ true → is_below b a ≡ false
not_both a b up = by (is_below b a) refl
  where
    by : (x : Bool) → is_below b a ≡ x → x ≡ false
    by true down = absurd (below_itself a (below_then a b a up down))
    by false down = refl

pub not_itself : (a : List ℕ) → is_below a a ≡ false
not_itself a = by (is_below a a) refl
  where
    by : (x : Bool) → is_below a a ≡ x → x ≡ false
    by true down = absurd (below_itself a down)
    by false down = refl

-- what is above a key that is past another one is past it too
pub past_then : (last : Option (List ℕ)) (a b : List ℕ) → is_past last a ≡ true → is_below a b ≡ true → is_past last b ≡ true
past_then None a b past up = refl
past_then (Some l) a b past up = below_then l a b past up

all_past : (last : Option (List ℕ)) (a : List ℕ) (ts : List Term) → is_past last a ≡ true → AllByRecursion (λ u. is_below a u.key ≡ true) ts → AllByRecursion (λ u. is_past last u.key ≡ true) ts
all_past last a [] past h = tt
all_past last a (t ∷ ts) past h = (past_then last a t.key past h.0, all_past last a ts past h.1)

whole : (last : Option (List ℕ)) (ts : List Term) → AllByRecursion (λ u. is_past last u.key ≡ true) ts → terms_past last ts ≡ ts
whole last [] h = refl
whole last (t ∷ ts) h = rw (h.0) (ap (λ (l : List Term). t ∷ l) (whole last ts h.1))

-- ---- what is looked up

apart : (a b : List ℕ) → (a ≡ b → ⊥) → is_eq (order a b) ≡ false
apart a b never = is_eq-slice_cmp a b ∙ by (bytes_eq a b) refl
  where
    by : (x : Bool) → bytes_eq a b ≡ x → x ≡ false
    by true e = absurd (never ((bytes_eq-Decides a b).0 e))
    by false e = refl

same : (a : List ℕ) → is_eq (order a a) ≡ true
same a = is_eq-slice_cmp a a ∙ (bytes_eq-Decides a a).1 refl

looked_first : (t : Term) (ts : List Term) → lookup t.key (t ∷ ts) ≡ Some t.info
looked_first t ts = rw (same t.key) refl

looked_later : (key : List ℕ) (t : Term) (ts : List Term) → (t.key ≡ key → ⊥) → lookup key (t ∷ ts) ≡ lookup key ts
looked_later key t ts never = rw (apart t.key key never) refl

above_apart : (key other : List ℕ) → is_below key other ≡ true → other ≡ key → ⊥
above_apart key other up e = below_itself key (subst (λ (k : List ℕ). is_below key k ≡ true) e up)

none_above : (key : List ℕ) (ts : List Term) → AllByRecursion (λ u. is_below key u.key ≡ true) ts → lookup key ts ≡ None
none_above key [] h = refl
none_above key (t ∷ ts) h = looked_later key t ts (above_apart key t.key h.0) ∙ none_above key ts h.1

-- ---- the terms behind a last key

cons_is : (t u : Term) (ts us : List Term) → t ∷ ts ≡ u ∷ us → (t ≡ u) × (ts ≡ us)
cons_is t u ts us e = (cc, cc)

-- what holds of all holds of the first that is past
first_past : (P : Term → Type 0) (last : Option (List ℕ)) (ts : List Term) (t : Term) (rest : List Term) → AllByRecursion P ts → terms_past last ts ≡ t ∷ rest → P t
first_past P last [] t rest h e = absurd cc
first_past P last (u ∷ us) t rest h e = by (is_past last u.key) refl (λ later. first_past P last us t rest h.1 later)
  where
    by : (b : Bool) → is_past last u.key ≡ b → (terms_past last us ≡ t ∷ rest → P t) → P t
    by true past again = let here : u ∷ terms_past last us ≡ t ∷ rest = rw past at e in subst P (cons_is u t (terms_past last us) rest here).0 h.0
    by false past again = again (rw past at e)

record IsSplitAt (key : List ℕ) (ts rest : List Term) (found : Option TermInfo) : Type 0 where
  pub past : terms_past (Some key) ts ≡ rest
  pub looked : lookup key ts ≡ found

-- behind the first of the terms that are past stand the others, and it is looked up
at_first : (last : Option (List ℕ)) (ts : List Term) (t : Term) (rest : List Term) → IsRising ts → terms_past last ts ≡ t ∷ rest → IsSplitAt t.key ts rest (Some t.info)
at_first last [] t rest rise e = absurd cc
at_first last (u ∷ us) t rest rise e = by (is_past last u.key) refl (λ later. at_first last us t rest rise.1 later)
  where
    by : (b : Bool) → is_past last u.key ≡ b → (terms_past last us ≡ t ∷ rest → IsSplitAt t.key us rest (Some t.info)) → IsSplitAt t.key (u ∷ us) rest (Some t.info)
    by true past again =
        let here : u ∷ terms_past last us ≡ t ∷ rest = rw past at e in
        let first = cons_is u t (terms_past last us) rest here in
        let all : terms_past last us ≡ us = whole last us (all_past last u.key us past rise.0) in
        let others : terms_past (Some u.key) (u ∷ us) ≡ us = rw (not_itself u.key) (whole (Some u.key) us rise.0) in
        subst (λ (x : Term). IsSplitAt x.key (u ∷ us) rest (Some x.info)) first.0 (record { past = others ∙ sym all ∙ first.1; looked = looked_first u us })
    by false past again =
        let later : terms_past last us ≡ t ∷ rest = rw past at e in
        let h = again later in
        let up : is_below u.key t.key ≡ true = first_past (λ x. is_below u.key x.key ≡ true) last us t rest rise.0 later in
        let down : is_below t.key u.key ≡ false = not_both u.key t.key up in
        record {
          past = rw down h.past;
          looked = looked_later t.key u us (λ same. below_itself t.key (subst (λ (k : List ℕ). is_below k t.key ≡ true) same up)) ∙ h.looked;
        }

not_past_apart : (last : Option (List ℕ)) (key other : List ℕ) → is_past last key ≡ true → is_past last other ≡ false → other ≡ key → ⊥
not_past_apart last key other past never e =
    let yes : is_past last other ≡ true = subst (λ (k : List ℕ). is_past last k ≡ true) (sym e) past in
    absurd cc

not_past_above : (last : Option (List ℕ)) (key other : List ℕ) → is_past last key ≡ true → is_past last other ≡ false → is_below key other ≡ false
not_past_above last key other past never = by (is_below key other) refl
  where
    by : (b : Bool) → is_below key other ≡ b → b ≡ false
    by true up = let yes = past_then last key other past up in absurd cc
    by false up = refl

-- a key that is past, and below the first of the terms that are, if there is one, is no term's
at_none : (last : Option (List ℕ)) (key : List ℕ) (ts rest : List Term) → IsRising ts → is_past last key ≡ true → AllByRecursion (λ u. is_below key u.key ≡ true) rest → terms_past last ts ≡ rest → IsSplitAt key ts rest None
at_none last key [] rest rise past above e = record { past = e; looked = refl }
at_none last key (u ∷ us) rest rise past above e = by (is_past last u.key) refl (λ later. at_none last key us rest rise.1 past above later)
  where
    by : (b : Bool) → is_past last u.key ≡ b → (terms_past last us ≡ rest → IsSplitAt key us rest None) → IsSplitAt key (u ∷ us) rest None
    by true is again =
        let here : u ∷ terms_past last us ≡ rest = rw is at e in
        let all : terms_past last us ≡ us = whole last us (all_past last u.key us is rise.0) in
        let these : u ∷ us ≡ rest = ap (λ (l : List Term). u ∷ l) (sym all) ∙ here in
        let up : AllByRecursion (λ x. is_below key x.key ≡ true) (u ∷ us) = subst (λ (l : List Term). AllByRecursion (λ x. is_below key x.key ≡ true) l) (sym these) above in
        record { past = whole (Some key) (u ∷ us) up ∙ these; looked = none_above key (u ∷ us) up }
    by false is again =
        let h = again (rw is at e) in
        let down = not_past_above last key u.key past is in
        record { past = rw down h.past; looked = looked_later key u us (not_past_apart last key u.key past is) ∙ h.looked }

-- ---- a walk over them

abbrev Found : Type 0
Found = Bor (List ℕ) × TermInfo

some_is : (x y : Found) → ◌≡◌ {A = Option Found} (Some x) (Some y) → x ≡ y
some_is x y e = cc

-- a walk that stands at a key
pub record StandsAtKey (last : Option (List ℕ)) (w : KeyWalk) (key : List ℕ) (info : TermInfo) (ts : List Term) : Type 0 where
  pub first : Term
  pub rest : List Term
  pub gives : GivesTerms w (first ∷ rest)
  pub rises : IsRising (first ∷ rest)
  pub past : terms_past (Some key) ts ≡ rest
  pub looked : lookup key ts ≡ Some info

some_rises : (last : Option (List ℕ)) (ts : List Term) → IsRising ts → IsRising (terms_past last ts)
some_rises last [] rise = tt
some_rises last (t ∷ ts) rise = by (is_past last t.key) (some_rises last ts rise.1)
  where
    some_all : (P : Term → Type 0) (us : List Term) → AllByRecursion P us → AllByRecursion P (terms_past last us)
    some_all P [] h = tt
    some_all P (u ∷ us) h = choose (is_past last u.key) (some_all P us h.1)
      where
        choose : (b : Bool) → AllByRecursion P (terms_past last us) → AllByRecursion P (cond b (u ∷ terms_past last us) (terms_past last us))
        choose true rest = (h.0, rest)
        choose false rest = rest

    by : (b : Bool) → IsRising (terms_past last ts) → IsRising (cond b (t ∷ terms_past last ts) (terms_past last ts))
    by true rest = (some_all (λ u. is_below t.key u.key ≡ true) ts rise.0, rest)
    by false rest = rest

pub stands_at_key : (last : Option (List ℕ)) (w : KeyWalk) (key : List ℕ) (info : TermInfo) (ts : List Term) → IsRising ts → GivesTerms w (terms_past last ts) → IsAt w key info → StandsAtKey last w key info ts
stands_at_key last w key info ts rise gives at = by (terms_past last ts) refl gives
  where
    by : (l : List Term) → terms_past last ts ≡ l → GivesTerms w l → StandsAtKey last w key info ts
    by [] e g = let wrong : ◌≡◌ {A = Option Found} (Some (at.0, info)) None = sym at.1 ∙ g in absurd cc
    by (t ∷ rest) e g =
        let is = some_is (at.0, info) g.0 (sym at.1 ∙ g.1) in
        let key_is : key ≡ t.key = sym at.2 ∙ ap (λ (x : Found). x.0.now) is ∙ g.2 in
        let info_is : info ≡ t.info = ap (λ (x : Found). x.1) is ∙ g.3 in
        let h = at_first last ts t rest rise e in
        record {
          first = t;
          rest = rest;
          gives = g;
          rises = subst (λ (l : List Term). IsRising l) e (some_rises last ts rise);
          past = ap (λ (k : List ℕ). terms_past (Some k) ts) key_is ∙ h.past;
          looked = ap (λ (k : List ℕ). lookup k ts) key_is ∙ h.looked ∙ ap (λ (i : TermInfo). some i) (sym info_is);
        }
      where
        some : TermInfo → Option TermInfo
        some i = Some i

-- a walk that stands behind a key, or at its end
pub record StandsPastKey (w : KeyWalk) (key : List ℕ) (ts : List Term) : Type 0 where
  pub gives : GivesTerms w (terms_past (Some key) ts)
  pub looked : lookup key ts ≡ None

pub stands_past_key : (last : Option (List ℕ)) (w : KeyWalk) (key : List ℕ) (ts : List Term) → IsRising ts → GivesTerms w (terms_past last ts) → is_past last key ≡ true → IsNotBelow key w → (key_of w ≡ Some key → ⊥) → StandsPastKey w key ts
stands_past_key last w key ts rise gives past not_below elsewhere = by (terms_past last ts) refl gives
  where
    by : (l : List Term) → terms_past last ts ≡ l → GivesTerms w l → StandsPastKey w key ts
    by [] e g = let h = at_none last key ts [] rise past tt e in record { gives = subst (λ (l : List Term). GivesTerms w l) (sym h.past) g; looked = h.looked }
    by (t ∷ rest) e g =
        let own : key_of w ≡ Some t.key = ap (λ (o : Option Found). key_in o) g.1 ∙ ap (λ (k : List ℕ). some k) g.2 in
        let not_down : is_below t.key key ≡ false = not_below t.key own in
        let up : is_below key t.key ≡ true = above (is_below key t.key) refl not_down own in
        let rises : IsRising (t ∷ rest) = subst (λ (l : List Term). IsRising l) e (some_rises last ts rise) in
        let h = at_none last key ts (t ∷ rest) rise past (up, all_past (Some key) t.key rest up rises.0) e in
        record { gives = subst (λ (l : List Term). GivesTerms w l) (sym h.past) g; looked = h.looked }
      where
        some : List ℕ → Option (List ℕ)
        some k = Some k

        above : (b : Bool) → is_below key t.key ≡ b → is_below t.key key ≡ false → key_of w ≡ Some t.key → b ≡ true
        above true up down own = refl
        above false up down own = let equal : t.key ≡ key = neither_below t.key key down up in absurd (elsewhere (own ∙ ap (λ (k : List ℕ). some k) equal))

-- ---- a key that no document says

pub has_term : (s : Schema) (ds : List Placed) (start place : ℕ) (keys : List (List ℕ)) (key : List ℕ) → IsAmong keys key → lookup key (terms_from s ds start place keys) ≡ None → ⊥
has_term s ds start place [] key among none = absurd among
has_term s ds start place (k ∷ ks) key (inl is) none =
    let first = looked_first (term_of s ds k start place) (terms_from s ds (start + length (list_of s ds k)) (place + length (places_in s ds k)) ks) in
    let here : lookup k (terms_from s ds start place (k ∷ ks)) ≡ None = subst (λ (x : List ℕ). lookup x (terms_from s ds start place (k ∷ ks)) ≡ None) (sym is) none in
    absurd cc
has_term s ds start place (k ∷ ks) key (inr there) none = by (is_eq (order k key)) refl (λ later. has_term s ds (start + length (list_of s ds k)) (place + length (places_in s ds k)) ks key there later)
  where
    by : (b : Bool) → is_eq (order k key) ≡ b → (lookup key (terms_from s ds (start + length (list_of s ds k)) (place + length (places_in s ds k)) ks) ≡ None → ⊥) → ⊥
    by true e again =
        let found : Some (term_of s ds k start place).info ≡ None = rw e at none in
        absurd cc
    by false e again = again (rw e at none)

pub none_posted : (s : Schema) (key : List ℕ) (n : ℕ) (ds : List Placed) → stands_in s key ds ≡ false → posted s key n ds ≡ []
none_posted s key n [] none = refl
none_posted s key n (d ∷ ds) none = by (has_key key (keys_of s d.doc)) refl (λ later. none_posted s key (suc n) ds later)
  where
    by : (b : Bool) → has_key key (keys_of s d.doc) ≡ b → (stands_in s key ds ≡ false → posted s key (suc n) ds ≡ []) → posted s key n (d ∷ ds) ≡ []
    by true e again = let wrong : true ≡ false = rw e at none in absurd cc
    by false e again = rw e (again (rw e at none))

pub not_listed : (s : Schema) (ds : List Placed) (keys : List (List ℕ)) (key : List ℕ) → AreKeys s ds keys → lookup key (terms_of s ds keys) ≡ None → posting_list s ds key ≡ []
not_listed s ds keys key are none = by (stands_in s key ds) refl
  where
    by : (b : Bool) → stands_in s key ds ≡ b → posting_list s ds key ≡ []
    by true e = absurd (has_term s ds 0 0 keys key (among_contains keys key ((are.exact key).1 e)) none)
    by false e = none_posted s key 0 ds e
