-- The keys of documents up to a last one.
use Rattle.std.proofs.Common.{◌≡◌, ℕ, zero, suc, ◌<◌, length, get_or, Result, Ok, Err, arith, append_assoc, Bool, true, false, List, [], ◌∷◌, ◌++◌, Option, Some, None, refl, sym, ap, subst, ◌∙◌, inl, inr}
use Rattle.std.specs.Prelude.{◌⊎◌, ◌||◌, if◌then◌else◌, MatchResult, OnOk}
use Rattle.std.specs.List.{AllByRecursion, AllZip}
use Rattle.std.proofs.lemmas.List.{append-nil}
use Rattle.doc_value.specs.declared.schema.Schema.{Schema}
use Rattle.fast_fields.proofs.Below.{below_then, neither_below}
use Rattle.term_dict.specs.Keys.{is_below}
use Rattle.term_dict.specs.declared.dict.Dict.{Dict}
use Rattle.term_dict.specs.declared.term.Term.{Term}
use Rattle.term_dict.specs.Readers.{IsOver}
use Rattle.term_postings.specs.declared.list.Posting.{Posting}
use Rattle.term_postings.proofs.Lists.{all_both}
use Rattle.split_bundle.specs.declared.placed.Placed.{Placed}
use Rattle.split_bundle.specs.declared.split_view.SplitView.{SplitView}
use Rattle.split_bundle.specs.Keys.{keys_of}
use Rattle.split_bundle.specs.declared.split_error.SplitError.{SplitError}
use Rattle.split_bundle.specs.Files.{Parts}
use Rattle.split_bundle.specs.declared.split_error.SplitError.TheVariants as split
use Rattle.split_bundle.specs.SplitViews.{IsViewOf, ReadsIndex}
use Rattle.term_dict.specs.declared.index.BlockStart.{BlockStart}
use Rattle.split_bundle.specs.Lists.{has_key, keeps_places, places_of, posted, posting_list, stands_in, terms_of}
use Rattle.split_bundle.specs.Splits.{AreKeys, AreRising}
use Rattle.split_build.specs.Members.{IsAmong}
use Rattle.split_build.proofs.KeysLemmas.{among_contains, contains_among}
use Rattle.split_build.proofs.TermLemmas.{terms_rise}
use Rattle.split_merge.specs.declared.key_walks.KeyWalk.{KeyWalk}
use Rattle.split_merge.specs.declared.lists.KeyList.{KeyList}
use Rattle.split_merge.specs.Faults.{IsWant}
use Rattle.split_merge.specs.Joining.{Holds}
use Rattle.split_merge.specs.Keeping.{AreViewsOf, ViewsSplit, is_named, joined, kept, kept_from}
use Rattle.split_merge.specs.Terms.{AreKeysUpTo, IsSaidUpTo}
use Rattle.split_merge.specs.Walking.{AreEnded, AreWalks, GivesTerms, IsNotBelow, IsWalkOf, SomeAt, is_past, key_in, key_of, terms_past}
use Rattle.split_merge.proofs.ListLemmas.{held_none, none_held}
use Rattle.split_merge.proofs.PastLemmas.{has_term, none_posted, not_both, not_itself, stands_past_key}

-- ---- keys of kept documents

pub stands_kept : (s : Schema) (key : List ℕ) (place : ℕ) (dropped : List ℕ) (ds : List Placed) → stands_in s key (kept_from place dropped ds) ≡ true → stands_in s key ds ≡ true
stands_kept s key place dropped [] stands = absurd cc
stands_kept s key place dropped (d ∷ ds) stands = by (is_named place dropped) refl (has_key key (keys_of s d.doc)) refl (stands_kept s key (suc place) dropped ds)
  where
    by : (b : Bool) → is_named place dropped ≡ b → (h : Bool) → has_key key (keys_of s d.doc) ≡ h → (stands_in s key (kept_from (suc place) dropped ds) ≡ true → stands_in s key ds ≡ true) → stands_in s key (d ∷ ds) ≡ true
    by b e true has again = rw has refl
    by true e false has again = rw has (again (rw e at stands))
    by false e false has again = let left : has_key key (keys_of s d.doc) || stands_in s key (kept_from (suc place) dropped ds) ≡ true = rw e at stands in rw has (again (rw has at left))

pub stands_both : (s : Schema) (key : List ℕ) (xs ys : List Placed) → stands_in s key (xs ++ ys) ≡ true → (stands_in s key xs ≡ true) ⊎ (stands_in s key ys ≡ true)
stands_both s key [] ys stands = inr stands
stands_both s key (x ∷ xs) ys stands = by (has_key key (keys_of s x.doc)) refl (stands_both s key xs ys)
  where
    later : has_key key (keys_of s x.doc) ≡ false → (stands_in s key xs ≡ true) ⊎ (stands_in s key ys ≡ true) → (stands_in s key (x ∷ xs) ≡ true) ⊎ (stands_in s key ys ≡ true)
    later e (inl here) = inl (rw e here)
    later e (inr there) = inr there

    by : (h : Bool) → has_key key (keys_of s x.doc) ≡ h → (stands_in s key (xs ++ ys) ≡ true → (stands_in s key xs ≡ true) ⊎ (stands_in s key ys ≡ true)) → (stands_in s key (x ∷ xs) ≡ true) ⊎ (stands_in s key ys ≡ true)
    by true e again = inl (rw e refl)
    by false e again = later e (again (rw e at stands))

pub some_posted : (s : Schema) (key : List ℕ) (n : ℕ) (ds : List Placed) → posted s key n ds ≡ [] → stands_in s key ds ≡ false
some_posted s key n [] none = refl
some_posted s key n (d ∷ ds) none = by (has_key key (keys_of s d.doc)) refl (some_posted s key (suc n) ds)
  where
    by : (h : Bool) → has_key key (keys_of s d.doc) ≡ h → (posted s key (suc n) ds ≡ [] → stands_in s key ds ≡ false) → stands_in s key (d ∷ ds) ≡ false
    by true e again = let wrong : record { document = n; positions = if keeps_places s key then places_of key (keys_of s d.doc) else [] } ∷ posted s key (suc n) ds ≡ [] = rw e at none in absurd cc
    by false e again = rw e (again (rw e at none))

-- ---- walks that stand at or before a key that is said

-- a walk stands at this key, or before it
pub record IsNear (key : List ℕ) (w : KeyWalk) : Type 0 where
  pub other : List ℕ
  pub at : key_of w ≡ Some other
  pub near : is_below key other ≡ false

pub walk_near : (s : Schema) (last : Option (List ℕ)) (v : SplitView) (w : KeyWalk) (ds : List Placed) (key : List ℕ) → IsWalkOf s last v w → ViewsSplit s v ds → is_past last key ≡ true → stands_in s key ds ≡ true → IsNear key w
walk_near s last v w ds key walk views past stands = by (key_of w) refl
  where
    keys : AreKeys s ds views.0.keys
    keys = views.1.is_split.keys

    gone : IsNotBelow key w → (key_of w ≡ Some key → ⊥) → IsNear key w
    gone not_below elsewhere =
        let h = stands_past_key last w key (terms_of s ds views.0.keys) (terms_rise s ds 0 0 views.0.keys keys.rising) (walk.only ds views.0 views.1) past not_below elsewhere in
        absurd (has_term s ds 0 0 views.0.keys key (among_contains views.0.keys key ((keys.exact key).1 stands)) h.looked)

    near : (other : List ℕ) → key_of w ≡ Some other → (b : Bool) → is_below key other ≡ b → IsNear key w
    near other at false not_up = record { other = other; at = at; near = not_up }
    near other at true up = gone (λ own own_at. let same : own ≡ other = some_key (sym own_at ∙ at) in subst (λ (k : List ℕ). is_below k key ≡ false) (sym same) (not_both key other up))
        (λ at_key.
        let same : key ≡ other = some_key (sym at_key ∙ at) in
        let wrong : true ≡ false = sym (subst (λ (k : List ℕ). is_below key k ≡ true) (sym same) up) ∙ not_itself key in
        absurd cc)
      where
        some_key : {x y : List ℕ} → ◌≡◌ {A = Option (List ℕ)} (Some x) (Some y) → x ≡ y
        some_key e = cc

    by : (k : Option (List ℕ)) → key_of w ≡ k → IsNear key w
    by None none = gone (λ own own_at. let wrong : ◌≡◌ {A = Option (List ℕ)} None (Some own) = sym none ∙ own_at in absurd cc) (λ at_key. let wrong : ◌≡◌ {A = Option (List ℕ)} None (Some key) = sym none ∙ at_key in absurd cc)
    by (Some other) at = near other at (is_below key other) refl

-- some walk stands at this key, or before it
pub record SomeNear (key : List ℕ) (walks : List KeyWalk) : Type 0 where
  pub other : List ℕ
  pub at : SomeAt other walks
  pub near : is_below key other ≡ false

pub some_near : (s : Schema) (last : Option (List ℕ)) (views : List SplitView) (walks : List KeyWalk) (lists : List (List Placed)) (key : List ℕ) → AreWalks s last views walks → AreViewsOf s views lists → is_past last key ≡ true
    → stands_in s key (joined lists) ≡ true → SomeNear key walks
some_near s last [] walks [] key are of past stands = absurd cc
some_near s last [] walks (ds ∷ dss) key are of past stands = absurd of
some_near s last (v ∷ vs) walks [] key are of past stands = absurd of
some_near s last (v ∷ vs) [] (ds ∷ dss) key are of past stands = absurd are
some_near s last (v ∷ vs) (w ∷ ws) (ds ∷ dss) key are of past stands = by (stands_both s key ds (joined dss) stands) (some_near s last vs ws dss key are.1 of.1 past)
  where
    by : (stands_in s key ds ≡ true) ⊎ (stands_in s key (joined dss) ≡ true) → (stands_in s key (joined dss) ≡ true → SomeNear key ws) → SomeNear key (w ∷ ws)
    by (inl here) again = let h = walk_near s last v w ds key are.0 of.0 past here in record { other = h.other; at = inl h.at; near = h.near }
    by (inr there) again = let h = again there in record { other = h.other; at = inr h.at; near = h.near }

none_ended : (key : List ℕ) (walks : List KeyWalk) → AreEnded walks → SomeAt key walks → ⊥
none_ended key [] ended some = some
none_ended key (w ∷ ws) ended (inl here) = let wrong : ◌≡◌ {A = Option (List ℕ)} None (Some key) = sym (ap key_in ended.0) ∙ here in absurd cc
none_ended key (w ∷ ws) ended (inr there) = none_ended key ws ended.1 there

not_below_some : (key other : List ℕ) (walks : List KeyWalk) → AllByRecursion (IsNotBelow key) walks → SomeAt other walks → is_below other key ≡ false
not_below_some key other [] least some = absurd some
not_below_some key other (w ∷ ws) least (inl here) = least.0 other here
not_below_some key other (w ∷ ws) least (inr there) = not_below_some key other ws least.1 there

-- ---- the keys, one by one

pub not_below_then : (a b c : List ℕ) → is_below b a ≡ false → is_below c b ≡ false → is_below c a ≡ false
not_below_then a b c p q = by (is_below c a) refl
  where
    by : (x : Bool) → is_below c a ≡ x → x ≡ false
    by false e = refl
    by true e = second (is_below b c) refl
      where
        second : (y : Bool) → is_below b c ≡ y → true ≡ false
        second true up = sym (below_then b c a up e) ∙ p
        second false up = let same = neither_below b c up q in sym (subst (λ (k : List ℕ). is_below k a ≡ true) (sym same) e) ∙ p

module _ (s : Schema) (dropped : List ℕ) (last : Option (List ℕ)) (views : List SplitView) (walks : List KeyWalk) (lists : List (List Placed)) (are : AreWalks s last views walks) (of : AreViewsOf s views lists) where
  -- the least key is the least that is said past the last one
  pub least_said : (key other : List ℕ) → AllByRecursion (IsNotBelow key) walks → is_past last other ≡ true → stands_in s other (kept dropped (joined lists)) ≡ true → is_below other key ≡ false
  least_said key other least past stands =
      let h = some_near s last views walks lists other are of past (stands_kept s other 0 dropped (joined lists) stands) in
      not_below_then key h.other other (not_below_some key h.other walks least h.at) h.near

  pub none_said : (key : List ℕ) → AreEnded walks → is_past last key ≡ true → stands_in s key (kept dropped (joined lists)) ≡ true → ⊥
  none_said key ended past stands =
      let h = some_near s last views walks lists key are of past (stands_kept s key 0 dropped (joined lists) stands) in
      none_ended h.other walks ended h.at

below_last : (last : Option (List ℕ)) (k key : List ℕ) → is_past last k ≡ false → is_past last key ≡ true → is_below k key ≡ true
below_last None k key not_past past = absurd cc
below_last (Some l) k key not_past past = by (is_below k l) refl
  where
    by : (b : Bool) → is_below k l ≡ b → is_below k key ≡ true
    by true up = below_then k l key up past
    by false up = let same = neither_below k l up not_past in subst (λ (x : List ℕ). is_below x key ≡ true) (sym same) past

rises_more : (keys : List (List ℕ)) (key : List ℕ) → AreRising keys → AllByRecursion (λ k. is_below k key ≡ true) keys → AreRising (keys ++ key ∷ [])
rises_more [] key rise below = (tt, tt)
rises_more (k ∷ ks) key rise below = (all_both (λ u. is_below k u ≡ true) ks (key ∷ []) rise.0 (below.0, tt), rises_more ks key rise.1 below.1)

among_both : (keys : List (List ℕ)) (key other : List ℕ) → IsAmong keys other ⊎ (key ≡ other) → IsAmong (keys ++ key ∷ []) other
among_both [] key other (inl among) = absurd among
among_both [] key other (inr same) = inl same
among_both (k ∷ ks) key other (inl (inl same)) = inl same
among_both (k ∷ ks) key other (inl (inr later)) = inr (among_both ks key other (inl later))
among_both (k ∷ ks) key other (inr same) = inr (among_both ks key other (inr same))

each_map : (P Q : List ℕ → Type 0) (keys : List (List ℕ)) → ((k : List ℕ) → P k → Q k) → AllByRecursion P keys → AllByRecursion Q keys
each_map P Q [] f h = tt
each_map P Q (k ∷ ks) f h = (f k h.0, each_map P Q ks f h.1)

each_among : (P : List ℕ → Type 0) (keys : List (List ℕ)) (key : List ℕ) → AllByRecursion P keys → IsAmong keys key → P key
each_among P [] key h among = absurd among
each_among P (k ∷ ks) key h (inl same) = subst P same h.0
each_among P (k ∷ ks) key h (inr later) = each_among P ks key h.1 later

module _ (s : Schema) (ds : List Placed) where
  pub up_to_none : AreKeysUpTo s ds None []
  up_to_none = record { rising = tt; said = tt; all = λ key h. let wrong : true ≡ false = h.1 in absurd cc }

  module _ (last : Option (List ℕ)) (keys : List (List ℕ)) (key : List ℕ) (are : AreKeysUpTo s ds last keys) (past : is_past last key ≡ true) where
    still : (k : List ℕ) → IsSaidUpTo s ds last k → IsSaidUpTo s ds (Some key) k
    still k h = (h.0, not_both k key (below_last last k key h.1 past))

    up_to : (other : List ℕ) → ((k : List ℕ) → is_past last k ≡ true → stands_in s k ds ≡ true → is_below k key ≡ false) → IsSaidUpTo s ds (Some key) other → IsAmong keys other ⊎ (key ≡ other)
    up_to other least h = by (is_past last other) refl
      where
        by : (b : Bool) → is_past last other ≡ b → IsAmong keys other ⊎ (key ≡ other)
        by true e = inr (neither_below key other h.1 (least other e h.0))
        by false e = inl (are.all other (h.0, e))

    pub rises_on : AreRising (keys ++ key ∷ [])
    rises_on = rises_more keys key are.rising (each_map (IsSaidUpTo s ds last) (λ k. is_below k key ≡ true) keys (λ k h. below_last last k key h.1 past) are.said)

    -- a key that is said is the next one
    pub up_to_more : ((k : List ℕ) → is_past last k ≡ true → stands_in s k ds ≡ true → is_below k key ≡ false) → stands_in s key ds ≡ true → AreKeysUpTo s ds (Some key) (keys ++ key ∷ [])
    up_to_more least stands = record {
      rising = rises_on;
      said = all_both (IsSaidUpTo s ds (Some key)) keys (key ∷ []) (each_map (IsSaidUpTo s ds last) (IsSaidUpTo s ds (Some key)) keys still are.said) ((stands, not_itself key), tt);
      all = λ other h. among_both keys key other (up_to other least h);
    }

    -- a key that is not said is passed
    pub up_to_less : ((k : List ℕ) → is_past last k ≡ true → stands_in s k ds ≡ true → is_below k key ≡ false) → stands_in s key ds ≡ false → AreKeysUpTo s ds (Some key) keys
    up_to_less least none = record {
      rising = are.rising;
      said = each_map (IsSaidUpTo s ds last) (IsSaidUpTo s ds (Some key)) keys still are.said;
      all = λ other h. by other h (up_to other least h);
    }
      where
        by : (other : List ℕ) → IsSaidUpTo s ds (Some key) other → IsAmong keys other ⊎ (key ≡ other) → IsAmong keys other
        by other h (inl among) = among
        by other h (inr same) = let wrong : true ≡ false = sym h.0 ∙ ap (λ (k : List ℕ). stands_in s k ds) (sym same) ∙ none in absurd cc

  -- where none is left that is said, the keys are all
  pub up_to_all : (last : Option (List ℕ)) (keys : List (List ℕ)) → AreKeysUpTo s ds last keys → ((k : List ℕ) → is_past last k ≡ true → stands_in s k ds ≡ true → ⊥) → AreKeys s ds keys
  up_to_all last keys are none = record {
    rising = are.rising;
    exact = λ key. (
      λ contains. (each_among (IsSaidUpTo s ds last) keys key are.said (among_contains keys key contains)).0,
      λ stands. contains_among keys key (are.all key (stands, by key stands (is_past last key) refl)),
    );
  }
    where
      by : (key : List ℕ) → stands_in s key ds ≡ true → (b : Bool) → is_past last key ≡ b → is_past last key ≡ false
      by key stands true e = absurd (none key e stands)
      by key stands false e = e

-- ---- a list that is gathered

pub none_said_of : (s : Schema) (key : List ℕ) (ds : List Placed) (kept : Bool) (l : KeyList) → Holds kept l (posting_list s ds key) → l.entries.items ≡ [] → stands_in s key ds ≡ false
none_said_of s key ds kept l holds none = some_posted s key 0 ds (held_none kept l (posting_list s ds key) holds none)

pub some_said_of : (s : Schema) (key : List ℕ) (ds : List Placed) (kept : Bool) (l : KeyList) → Holds kept l (posting_list s ds key) → (l.entries.items ≡ [] → ⊥) → stands_in s key ds ≡ true
some_said_of s key ds kept l holds some = by (stands_in s key ds) refl
  where
    by : (b : Bool) → stands_in s key ds ≡ b → b ≡ true
    by true e = refl
    by false e = absurd (some (none_held kept l (subst (λ (ps : List Posting). Holds kept l ps) (none_posted s key 0 ds e) holds)))

pub ok_map : {X E : Type 0} (P Q : Type 0) (r : Result X E) → (P → Q) → OnOk r P → OnOk r Q
ok_map P Q (Ok x) f p = f p
ok_map P Q (Err e) f p = tt

-- ---- what is pushed, one by one, for elements of a list

pub zip_start : {A B : Type 0} (P : A → B → Type 0) (whole : List A) (done : List B) → done ≡ [] → (rest : List B) → AllZip P whole rest → AllZip P whole (done ++ rest)
zip_start {A} {B} P whole done none rest zip = subst (λ (l : List B). AllZip P whole (l ++ rest)) (sym none) zip

pub zip_more : {A B : Type 0} (P : A → B → Type 0) (whole left : List A) (a : A) (behind : List A) (done now : List B) (b : B) → left ≡ a ∷ behind → P a b → now ≡ done ++ b ∷ []
    → ((rest : List B) → AllZip P left rest → AllZip P whole (done ++ rest)) → (rest : List B) → AllZip P behind rest → AllZip P whole (now ++ rest)
zip_more {A} {B} P whole left a behind done now b left_is here now_is so_far rest zip =
    subst (λ (l : List B). AllZip P whole l) (sym (append_assoc done (b ∷ []) rest) ∙ ap (λ (l : List B). l ++ rest) (sym now_is))
    (so_far (b ∷ rest) (subst (λ (l : List A). AllZip P l (b ∷ rest)) (sym left_is) (here, zip)))

pub zip_end : {A B : Type 0} (P : A → B → Type 0) (whole left : List A) (done : List B) → left ≡ [] → ((rest : List B) → AllZip P left rest → AllZip P whole (done ++ rest)) → AllZip P whole done
zip_end {A} {B} P whole left done none so_far = subst (λ (l : List B). AllZip P whole l) (append-nil done) (so_far [] (subst (λ (l : List A). AllZip P l []) (sym none) tt))

pub zip_length : {A B : Type 0} (P : A → B → Type 0) (ls : List A) (ms : List B) → AllZip P ls ms → length ms ≡ length ls
zip_length P [] [] zip = refl
zip_length P [] (b ∷ ms) zip = absurd zip
zip_length P (a ∷ ls) [] zip = absurd zip
zip_length P (a ∷ ls) (b ∷ ms) zip = ap suc (zip_length P ls ms zip.1)

pub zip_at : {A B : Type 0} (P : A → B → Type 0) (i : ℕ) (ls : List A) (ms : List B) (a d : A) (b e : B) → i < length ls → a ≡ get_or ls i d → b ≡ get_or ms i e → AllZip P ls ms → P a b
zip_at P i [] ms a d b e lt a_is b_is zip = absurd (omega (arith, lt))
zip_at P i (x ∷ xs) [] a d b e lt a_is b_is zip = absurd zip
zip_at P zero (x ∷ xs) (y ∷ ys) a d b e lt a_is b_is zip = subst (λ k. P k b) (sym a_is) (subst (λ k. P x k) (sym b_is) zip.0)
zip_at P (suc i) (x ∷ xs) (y ∷ ys) a d b e lt a_is b_is zip = zip_at P i xs ys a d b e (omega (arith, lt)) a_is b_is zip.1

-- ---- a walk over a dictionary

none_past : (ts : List Term) → terms_past None ts ≡ ts
none_past [] = refl
none_past (t ∷ ts) = ap (λ (l : List Term). t ∷ l) (none_past ts)

pub walk_is : (s : Schema) (v : SplitView) (d : Dict) (r : Result KeyWalk SplitError) → ((ds : List Placed) (p : Parts) → IsViewOf v s ds p → IsOver d (terms_of s ds p.keys))
    → ((ts : List Term) → IsOver d ts → MatchResult r (λ w. GivesTerms w ts) IsWant) → MatchResult r (IsWalkOf s None v) (λ fault. (ds : List Placed) → ViewsSplit s v ds → IsWant fault)
walk_is s v d (Ok w) dict over = record { ahead = λ key at. refl; only = λ ds p is. subst (λ (l : List Term). GivesTerms w l) (sym (none_past (terms_of s ds p.keys))) (over (terms_of s ds p.keys) (dict ds p is)) }
walk_is s v d (Err e) dict over = λ ds views. over (terms_of s ds views.0.keys) (dict ds views.0 views.1)

-- a want of memory
pub index_want : (index : List BlockStart) (e : SplitError) → ReadsIndex index (Err e) → IsWant e
index_want index (split.Memory a) reads = tt
index_want index split.BadMagic reads = reads
index_want index (split.Truncated at) reads = reads
index_want index (split.BadSection section) reads = reads
index_want index (split.BadVersion version) reads = reads
