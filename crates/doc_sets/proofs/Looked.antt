-- What is asked for of the keys of a text is asked for of what is looked up for it.
use Rattle.std.proofs.Common.{◌≡◌, ℕ, suc, ◌+◌, ◌<◌, ◌≤◌, ◌⊎◌, inl, inr, cond, nat_lt, drop, get_or, append_assoc, sym, ◌∙◌, List, [], ◌∷◌, ◌++◌, length, map, Bool, true, Result, Ok, Err, MatchResult, refl, ap, arith}
use Rattle.doc_value.specs.declared.schema.Schema.{Schema}
use Rattle.std.proofs.lemmas.Bool.{lt-ltb}
use Rattle.std.proofs.lemmas.List.{drop_more}
use Rattle.doc_value.specs.declared.schema.Field.{Field}
use Rattle.query_ast.specs.declared.query.Item.{Item}
use Rattle.split_bundle.specs.Keys.{field_key}
use Rattle.text_tokens.specs.declared.tokens.Token.{Token}
use Rattle.split_bundle.specs.declared.placed.Placed.{Placed}
use Rattle.split_bundle.specs.declared.part_view.PartView.{PartView}
use Rattle.split_bundle.specs.Files.{Parts}
use Rattle.doc_sets.specs.declared.dictionary_lookup.Lookup.{Lookup}
use Rattle.doc_sets.specs.declared.dictionary_lookup.Lookup.TheVariants.{Documents, Places, Walk}
use Rattle.doc_sets.specs.declared.leaf_error.LeafError.{LeafError}
use Rattle.doc_sets.specs.Asking.{AsksBlocks, AsksLists, AsksLookups, LacksLookups}
use Rattle.doc_sets.specs.Needed.{AsksKey, AsksOneOf, AsksPlaces, LacksKeys, LacksPlaces, token_keys}
use Rattle.doc_sets.specs.Faults.{LacksPart}
use Rattle.doc_sets.specs.Texts.{item_lookups, lookups_for, text_lookups}
use Rattle.doc_sets.specs.Walks.{AsksWalk}
use Rattle.doc_sets.specs.declared.wanted.Wanted.{Wanted}
use Rattle.doc_sets.proofs.Causes.{cause_wider, places_wider}

-- a result of which a fault has its cause among more
pub wider_result : {X : Type 0} (good : X → Type 0) (P Q : LeafError → Type 0) (r : Result X LeafError) → ((e : LeafError) → P e → Q e) → MatchResult r good P → MatchResult r good Q
wider_result good P Q (Ok x) wider h = h
wider_result good P Q (Err e) wider h = wider e h

-- what is looked up for the tokens of a text, one by one
abbrev pub each_looked : Bool → ℕ → List Token → List Lookup
each_looked several n [] = []
each_looked several n (t ∷ ts) = cond several (Places (field_key n t.text)) (Documents (field_key n t.text)) ∷ each_looked several n ts

all_places : (n : ℕ) (ts : List Token) → each_looked true n ts ≡ map Places (token_keys n ts)
all_places n [] = refl
all_places n (t ∷ ts) = ap (λ ls. Places (field_key n t.text) ∷ ls) (all_places n ts)

pub looked_all : (n : ℕ) (ts : List Token) → each_looked (nat_lt 1 (length ts)) n ts ≡ lookups_for (token_keys n ts)
looked_all n [] = refl
looked_all n (t ∷ []) = refl
looked_all n (t ∷ u ∷ ts) = ap (λ b. each_looked b n (t ∷ u ∷ ts)) (lt-ltb 1 (length (t ∷ u ∷ ts)) (omega arith)) ∙ all_places n (t ∷ u ∷ ts)

pub item_step : (f : Field) (n i : ℕ) (t : Item) (ts : List Item) (ls all : List Lookup) (text : List ℕ) → i < length ts → t ≡ get_or ts i t → text ≡ t.text → ls ++ item_lookups f n (drop i ts) ≡ all
    → (ls ++ text_lookups f n text) ++ item_lookups f n (drop (i + 1) ts) ≡ all
item_step f n i t ts ls all text lt e same h =
    let rest : drop i ts ≡ t ∷ drop (i + 1) ts = drop_more ts i t lt ∙ ap (λ y. y ∷ drop (i + 1) ts) (sym e) in
    append_assoc ls (text_lookups f n text) (item_lookups f n (drop (i + 1) ts))
    ∙ (ap (λ k. ls ++ (text_lookups f n k ++ item_lookups f n (drop (i + 1) ts))) same ∙ (ap (λ us. ls ++ item_lookups f n us) (sym rest) ∙ h))

-- as many keys as tokens
pub many_keys : (n : ℕ) (ts : List Token) → length (token_keys n ts) ≡ length ts
many_keys n [] = refl
many_keys n (t ∷ ts) = ap suc (many_keys n ts)

pub kept_by : (b : Bool) (m : ℕ) → 2 ≤ m → (b ≡ true) ⊎ (m ≤ 1) → b ≡ true
kept_by b m many (inl kept) = kept
kept_by b m many (inr few) = absurd (omega arith)

module _ (v : PartView) (s : Schema) (ds : List Placed) (p : Parts) where
  -- what is asked for of some look-ups is asked for of those with one more
  pub lookups_behind : (l : Lookup) (ls : List Lookup) (at len : ℕ) → AsksLookups v s ds p ls at len → AsksLookups v s ds p (l ∷ ls) at len
  lookups_behind l ls at len (inl h) = inl (inr h)
  lookups_behind l ls at len (inr h) = inr (inr h)

  places_looked : (keys : List (List ℕ)) (at len : ℕ) → AsksOneOf (AsksPlaces v s ds p) keys at len → AsksLookups v s ds p (map Places keys) at len
  places_looked [] at len h = absurd h
  places_looked (key ∷ keys) at len (inl (inl b)) = inl (inl b)
  places_looked (key ∷ keys) at len (inl (inr l)) = inr (inl l)
  places_looked (key ∷ keys) at len (inr h) = lookups_behind (Places key) (map Places keys) at len (places_looked keys at len h)

  keys_looked : (keys : List (List ℕ)) (at len : ℕ) → AsksOneOf (AsksKey v s ds p) keys at len → AsksLookups v s ds p (lookups_for keys) at len
  keys_looked [] at len h = absurd h
  keys_looked (key ∷ []) at len (inl (inl b)) = inl (inl b)
  keys_looked (key ∷ []) at len (inl (inr l)) = inr (inl l)
  keys_looked (key ∷ []) at len (inr none) = absurd none
  keys_looked (key ∷ more ∷ keys) at len h = places_looked (key ∷ more ∷ keys) at len (places_wider v s ds p (key ∷ more ∷ keys) at len h)

  several_looked : (keys : List (List ℕ)) → 2 ≤ length keys → (at len : ℕ) → AsksOneOf (AsksPlaces v s ds p) keys at len → AsksLookups v s ds p (lookups_for keys) at len
  several_looked [] le at len h = absurd (omega arith)
  several_looked (key ∷ []) le at len h = absurd (omega arith)
  several_looked (key ∷ more ∷ keys) le at len h = places_looked (key ∷ more ∷ keys) at len h

  pub keys_lack : (keys : List (List ℕ)) (e : LeafError) → LacksKeys v s ds p keys e → LacksLookups v s ds p (lookups_for keys) e
  keys_lack keys e h = cause_wider (AsksOneOf (AsksKey v s ds p) keys) (AsksLookups v s ds p (lookups_for keys)) v.pieces e (keys_looked keys) h

  pub places_lack : (keys : List (List ℕ)) (e : LeafError) → 2 ≤ length keys → LacksPlaces v s ds p keys e → LacksLookups v s ds p (lookups_for keys) e
  places_lack keys e le h = cause_wider (AsksOneOf (AsksPlaces v s ds p) keys) (AsksLookups v s ds p (lookups_for keys)) v.pieces e (several_looked keys le) h

  walk_looked : (prefix : List ℕ) (w : Wanted) (at len : ℕ) → AsksWalk v s ds p prefix w at len → AsksLookups v s ds p (Walk prefix w ∷ []) at len
  walk_looked prefix w at len (inl h) = inl (inl h)
  walk_looked prefix w at len (inr h) = inr (inl h)

  pub walk_lacks_looked : (prefix : List ℕ) (w : Wanted) (e : LeafError) → LacksPart (AsksWalk v s ds p prefix w) v.pieces e → LacksLookups v s ds p (Walk prefix w ∷ []) e
  walk_lacks_looked prefix w e h = cause_wider (AsksWalk v s ds p prefix w) (AsksLookups v s ds p (Walk prefix w ∷ [])) v.pieces e (walk_looked prefix w) h

  -- what is asked for of some of joined look-ups
  blocks_front : (xs ys : List Lookup) (at len : ℕ) → AsksBlocks v s ds p xs at len → AsksBlocks v s ds p (xs ++ ys) at len
  blocks_front [] ys at len h = absurd h
  blocks_front (x ∷ xs) ys at len (inl h) = inl h
  blocks_front (x ∷ xs) ys at len (inr h) = inr (blocks_front xs ys at len h)

  lists_front : (xs ys : List Lookup) (at len : ℕ) → AsksLists v s ds p xs at len → AsksLists v s ds p (xs ++ ys) at len
  lists_front [] ys at len h = absurd h
  lists_front (x ∷ xs) ys at len (inl h) = inl h
  lists_front (x ∷ xs) ys at len (inr h) = inr (lists_front xs ys at len h)

  pub lookups_front : (xs ys : List Lookup) (at len : ℕ) → AsksLookups v s ds p xs at len → AsksLookups v s ds p (xs ++ ys) at len
  lookups_front xs ys at len (inl h) = inl (blocks_front xs ys at len h)
  lookups_front xs ys at len (inr h) = inr (lists_front xs ys at len h)

  pub lookups_end : (xs ys : List Lookup) (at len : ℕ) → AsksLookups v s ds p ys at len → AsksLookups v s ds p (xs ++ ys) at len
  lookups_end [] ys at len h = h
  lookups_end (x ∷ xs) ys at len h = lookups_behind x (xs ++ ys) at len (lookups_end xs ys at len h)
