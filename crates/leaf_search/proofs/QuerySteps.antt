-- Steps over the members of a query, and what is known of the field that is asked.
use Rattle.std.proofs.Common.{◌≡◌, ℕ, zero, suc, ◌+◌, ◌<◌, Bool, true, false, ◌&&◌, ◌||◌, List, [], ◌∷◌, length, drop, get_or, slice_get, Some, None, Result, MatchResult, MatchOption, refl, ap, sym, ◌∙◌, subst, arith}
use Rattle.std.specs.Option.{option_map_or}
use Rattle.std.proofs.lemmas.List.{drop_more}
use Rattle.doc_value.specs.declared.schema.Field.{Field}
use Rattle.doc_value.specs.declared.schema.Schema.{Schema}
use Rattle.doc_value.specs.declared.doc.DocField.{DocField}
use Rattle.query_ast.specs.declared.query.Query.{Query, Row_of-Query, end_of-Query, more_of-Query, items-the_row-Query}
use Rattle.query_ast.specs.Sought.{Sought, more, view, view_row, view_all}
use Rattle.query_ast.specs.Meaning.{meaning, all_hold, some_hold, asks}
use Rattle.query_ast.specs.Queries.{HasField}
use Rattle.query_ast.specs.Askable.{CanAsk, CanAskEach}
use Rattle.split_bundle.specs.declared.placed.Placed.{Placed}
use Rattle.split_bundle.specs.declared.part_view.PartView.{PartView}
use Rattle.split_bundle.specs.Files.{Parts}
use Rattle.doc_sets.specs.declared.bits.DocBits.{DocBits}
use Rattle.doc_sets.specs.declared.leaf_error.LeafError.{LeafError}
use Rattle.doc_sets.specs.declared.dictionary_lookup.Lookup.{Lookup}
use Rattle.doc_sets.specs.Asking.{AsksLookups, LacksLookups}
use Rattle.doc_sets.specs.Sets.{IsSetOf}
use Rattle.doc_sets.proofs.Looked.{lookups_end, lookups_front}
use Rattle.leaf_search.specs.Asks.{lookups_of, lookups_of_each, of_field}

pub row_all : {n : _} (k : Row_of-Query n) → view_row k ≡ view_all (items-the_row-Query n k)
row_all end_of-Query = refl
row_all (more_of-Query q k) = ap (λ rest. more (view q) rest) (row_all k)

and_group : (a b r : Bool) → (a && b) && r ≡ a && (b && r)
and_group true b r = refl
and_group false b r = refl

or_group : (a b r : Bool) → (a || b) || r ≡ a || (b || r)
or_group true b r = refl
or_group false b r = refl

pub all_step : (s : Schema) (d : List DocField) (x : Query) (qs : List Query) (i : ℕ) (a : Bool) → i < length qs → x ≡ get_or qs i x
    → (a && meaning s d (view x)) && all_hold s d (view_all (drop (i + 1) qs)) ≡ a && all_hold s d (view_all (drop i qs))
all_step s d x qs i a lt e =
    let rest : drop i qs ≡ x ∷ drop (i + 1) qs = drop_more qs i x lt ∙ ap (λ y. y ∷ drop (i + 1) qs) (sym e) in
    and_group a (meaning s d (view x)) (all_hold s d (view_all (drop (i + 1) qs))) ∙ ap (λ ys. a && all_hold s d (view_all ys)) (sym rest)

pub some_step : (s : Schema) (d : List DocField) (x : Query) (qs : List Query) (i : ℕ) (a : Bool) → i < length qs → x ≡ get_or qs i x
    → (a || meaning s d (view x)) || some_hold s d (view_all (drop (i + 1) qs)) ≡ a || some_hold s d (view_all (drop i qs))
some_step s d x qs i a lt e =
    let rest : drop i qs ≡ x ∷ drop (i + 1) qs = drop_more qs i x lt ∙ ap (λ y. y ∷ drop (i + 1) qs) (sym e) in
    or_group a (meaning s d (view x)) (some_hold s d (view_all (drop (i + 1) qs))) ∙ ap (λ ys. a || some_hold s d (view_all ys)) (sym rest)

pub can_at : (s : Schema) (x : Query) (qs : List Query) (i : ℕ) → i < length qs → x ≡ get_or qs i x → CanAskEach s (view_all qs) → CanAsk s (view x)
can_at s x [] i lt e can = absurd (omega arith)
can_at s x (q ∷ qs) zero lt e can = subst (λ y. CanAsk s (view y)) (sym e) can.0
can_at s x (q ∷ qs) (suc i) lt e can = can_at s x qs i (omega arith) e can.1

pub asked_at : (v : PartView) (s : Schema) (ds : List Placed) (p : Parts) (x : Query) (qs : List Query) (i : ℕ) → i < length qs → x ≡ get_or qs i x
    → (at len : ℕ) → AsksLookups v s ds p (lookups_of v.footer s (view x)) at len → AsksLookups v s ds p (lookups_of_each v.footer s (view_all qs)) at len
asked_at v s ds p x [] i lt e at len asked = absurd (omega arith)
asked_at v s ds p x (q ∷ qs) zero lt e at len asked =
    lookups_front v s ds p (lookups_of v.footer s (view q)) (lookups_of_each v.footer s (view_all qs)) at len (subst (λ (y : Query). AsksLookups v s ds p (lookups_of v.footer s (view y)) at len) e asked)
asked_at v s ds p x (q ∷ qs) (suc i) lt e at len asked = lookups_end v s ds p (lookups_of v.footer s (view q)) (lookups_of_each v.footer s (view_all qs)) at len (asked_at v s ds p x qs i (omega arith) e at len asked)

-- what is known of the field that is asked
pub field_fact : (s : Schema) (n : ℕ) (f : Field) (P : Field → Type 0) → slice_get s.fields n ≡ Some f → HasField s n P → P f
field_fact s n f P got h = subst (λ o. MatchOption o ⊥ P) got h

pub no_field : (s : Schema) (n : ℕ) (P : Field → Type 0) → slice_get s.fields n ≡ None → HasField s n P → ⊥
no_field s n P got h = subst (λ o. MatchOption o ⊥ P) got h

-- the set for a field is the set for the query that asks of it
pub at_field : (v : PartView) (s : Schema) (ds : List Placed) (p : Parts) (n : ℕ) (f : Field) (r : Result DocBits LeafError) (test : Field → List DocField → Bool) (looked : Field → List Lookup) → slice_get s.fields n ≡ Some f
    → MatchResult r (IsSetOf (λ d. test f d) ds) (LacksLookups v s ds p (looked f)) → MatchResult r (IsSetOf (λ d. asks s n (λ g. test g d)) ds) (LacksLookups v s ds p (of_field s n looked))
at_field v s ds p n f r test looked got h =
    subst (λ o. MatchResult r (IsSetOf (λ d. option_map_or (λ g. test g d) o false) ds) (LacksLookups v s ds p (option_map_or looked o []))) (sym got) h

-- the same where the field makes no difference to the set
pub at_any_field : (v : PartView) (s : Schema) (ds : List Placed) (p : Parts) (n : ℕ) (f : Field) (r : Result DocBits LeafError) (test : List DocField → Bool) (looked : Field → List Lookup) → slice_get s.fields n ≡ Some f
    → MatchResult r (IsSetOf test ds) (LacksLookups v s ds p (looked f)) → MatchResult r (IsSetOf test ds) (LacksLookups v s ds p (of_field s n looked))
at_any_field v s ds p n f r test looked got h = subst (λ o. MatchResult r (IsSetOf test ds) (LacksLookups v s ds p (option_map_or looked o []))) (sym got) h

-- an answer to a query is one to the query that it is
pub of_query : (v : PartView) (s : Schema) (ds : List Placed) (p : Parts) (r : Result DocBits LeafError) (q w : Sought) → q ≡ w
    → MatchResult r (IsSetOf (λ d. meaning s d w) ds) (LacksLookups v s ds p (lookups_of v.footer s w)) → MatchResult r (IsSetOf (λ d. meaning s d q) ds) (LacksLookups v s ds p (lookups_of v.footer s q))
of_query v s ds p r q w e h = subst (λ y. MatchResult r (IsSetOf (λ d. meaning s d y) ds) (LacksLookups v s ds p (lookups_of v.footer s y))) (sym e) h
