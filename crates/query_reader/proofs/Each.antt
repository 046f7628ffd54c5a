-- The members of an And or an Or, resolved one after another.
use Rattle.std.proofs.Common.{◌≡◌, ℕ, suc, ◌+◌, ◌<◌, List, [], ◌∷◌, ◌++◌, map, length, drop, Result, Ok, Err, refl, ap, sym, ◌∙◌, arith, add-one, get_or}
use Rattle.std.specs.Prelude.{slice_index_or}
use Rattle.doc_value.specs.declared.schema.Field.{Field}
use Rattle.doc_value.specs.declared.schema.Schema.{Schema}
use Rattle.query_ast.specs.Sought.{Sought, Soughts, no_more, more, view, view_row, view_all}
use Rattle.query_ast.specs.Sought as sought
use Rattle.query_ast.specs.declared.query.Query.{Query, Row_of-Query, end_of-Query, more_of-Query, items-the_row-Query}
use Rattle.query_reader.specs.Tree.{Tree, Trees, no_trees, behind, trees_after, view as tree}
use Rattle.query_reader.specs.Tree as trees
use Rattle.query_reader.specs.Asking.{Asking}
use Rattle.query_reader.specs.declared.tree.Raw.{Raw}
use Rattle.std.proofs.Math.Seq.{drop-cons}
use Rattle.query_reader.specs.Resolve.{◌>>=◌, and_then, resolve, resolve_each, resolve_after, Refuses, over_fields, asked_after, asked_at}
use Rattle.query_reader.specs.declared.refusal.QueryError.{QueryError}
use Rattle.query_reader.specs.declared.refusal.QueryError.TheVariants as refusals

-- one more query
pub view_more : (qs : List Query) (q : Query) → view_all (qs ++ q ∷ []) ≡ and_then (view_all qs) (view q)
view_more [] q = refl
view_more (p ∷ ps) q = ap (more (view p)) (view_more ps q)

pub row_all : {n : _} (k : Row_of-Query n) → view_row k ≡ view_all (items-the_row-Query n k)
row_all end_of-Query = refl
row_all (more_of-Query q k) = ap (more (view q)) (row_all k)

pub bind_ok : {A E : Type 0} (r : Result A E) → r ≡ (r >>= λ x. Ok x)
bind_ok (Ok x) = refl
bind_ok (Err e) = refl

pub refuses_bind : {A B : Type 0} (r : Result A QueryError) (f : A → Result B QueryError) (e : QueryError) → Refuses r e → Refuses (r >>= f) e
refuses_bind r f (refusals.Memory a) h = h
refuses_bind r f (refusals.Syntax n) h = ap (λ x. x >>= f) h
refuses_bind r f (refusals.UnknownField n) h = ap (λ x. x >>= f) h
refuses_bind r f (refusals.BadValue n) h = ap (λ x. x >>= f) h
refuses_bind r f (refusals.NoDefaultField n) h = ap (λ x. x >>= f) h
refuses_bind r f (refusals.NoPositions n) h = ap (λ x. x >>= f) h
refuses_bind r f (refusals.TooDeep n) h = ap (λ x. x >>= f) h
refuses_bind r f (refusals.NotIndexed n) h = ap (λ x. x >>= f) h

pub refuses_same : {A : Type 0} (r r' : Result A QueryError) (e : QueryError) → r ≡ r' → Refuses r e → Refuses r' e
refuses_same r r' (refusals.Memory a) s h = h
refuses_same r r' (refusals.Syntax n) s h = sym s ∙ h
refuses_same r r' (refusals.UnknownField n) s h = sym s ∙ h
refuses_same r r' (refusals.BadValue n) s h = sym s ∙ h
refuses_same r r' (refusals.NoDefaultField n) s h = sym s ∙ h
refuses_same r r' (refusals.NoPositions n) s h = sym s ∙ h
refuses_same r r' (refusals.TooDeep n) s h = sym s ∙ h
refuses_same r r' (refusals.NotIndexed n) s h = sym s ∙ h

module _ (schema : Schema) (defaults : List ℕ) (text : List ℕ) where
  swap_bind : (r : Result Soughts QueryError) (q : Result Sought QueryError) (ts : List Tree)
      → ((r >>= λ qs. q >>= λ x. Ok (and_then qs x)) >>= λ qs. resolve_after schema defaults text qs ts)
      ≡ (r >>= λ qs. q >>= λ x. resolve_after schema defaults text (and_then qs x) ts)
  swap_bind (Err e) q ts = refl
  swap_bind (Ok qs) (Err e) ts = refl
  swap_bind (Ok qs) (Ok x) ts = refl

  pub after_each : (done : Trees) (ts : List Tree) → resolve_each schema defaults text (trees_after done ts) ≡ (resolve_each schema defaults text done >>= λ qs. resolve_after schema defaults text qs ts)
  after_each done [] = bind_ok (resolve_each schema defaults text done)
  after_each done (t ∷ ts) = after_each (behind done t) ts ∙ swap_bind (resolve_each schema defaults text done) (resolve schema defaults text t) ts

  -- an And and an Or of a list of members
  pub and_is : (t : Tree) (items xs : List Raw) → t ≡ trees.And (trees_after no_trees (map tree items)) → xs ≡ items
      → (resolve_after schema defaults text no_more (map tree xs) >>= λ qs. Ok (sought.And qs)) ≡ resolve schema defaults text t
  and_is t items xs e h = ap (λ ys. resolve_after schema defaults text no_more (map tree ys) >>= λ qs. Ok (sought.And qs)) h
      ∙ ap (λ r. r >>= λ qs. Ok (sought.And qs)) (sym (after_each no_trees (map tree items))) ∙ ap (resolve schema defaults text) (sym e)

  pub or_is : (t : Tree) (items xs : List Raw) → t ≡ trees.Or (trees_after no_trees (map tree items)) → xs ≡ items
      → (resolve_after schema defaults text no_more (map tree xs) >>= λ qs. Ok (sought.Or qs)) ≡ resolve schema defaults text t
  or_is t items xs e h = ap (λ ys. resolve_after schema defaults text no_more (map tree ys) >>= λ qs. Ok (sought.Or qs)) h
      ∙ ap (λ r. r >>= λ qs. Ok (sought.Or qs)) (sym (after_each no_trees (map tree items))) ∙ ap (resolve schema defaults text) (sym e)

  -- one more member
  pub each_step : (done : Soughts) (parts : List Raw) (i : ℕ) (x : Raw) (q : Sought) → i < length parts → x ≡ get_or parts i x → resolve schema defaults text (tree x) ≡ Ok q
      → resolve_after schema defaults text done (map tree (drop i parts)) ≡ resolve_after schema defaults text (and_then done q) (map tree (drop (i + 1) parts))
  each_step done parts i x q l e h =
      ap (λ ys. resolve_after schema defaults text done (map tree ys)) (drop-cons parts i x l)
      ∙ ap (λ r. r >>= λ q. resolve_after schema defaults text (and_then done q) (map tree (drop (suc i) parts))) (ap (λ y. resolve schema defaults text (tree y)) (sym e) ∙ h)
      ∙ ap (λ j. resolve_after schema defaults text (and_then done q) (map tree (drop j parts))) (sym (add-one i))

-- one more field
pub asked_step : (fields : List Field) (text : List ℕ) (done : Soughts) (ask : Asking) (numbers : List ℕ) (i : ℕ) → i < length numbers
    → asked_after fields text done ask (drop i numbers) ≡ asked_after fields text (and_then done (asked_at fields text ask (get_or numbers i 0))) ask (drop (i + 1) numbers)
asked_step fields text done ask numbers i l =
    ap (asked_after fields text done ask) (drop-cons numbers i 0 l)
    ∙ ap (λ j. asked_after fields text (and_then done (asked_at fields text ask (get_or numbers i 0))) ask (drop j numbers)) (sym (add-one i))

-- one query is its own Or
pub over_one : (qs : List Query) (q : Query) (at : ℕ) → length qs ≡ 1 → q ≡ slice_index_or qs 0 q → over_fields (view_all qs) at ≡ Ok (view q)
over_one [] q at l e = absurd (omega (arith, l))
over_one (p ∷ []) q at l e = ap (λ x. Ok (view x)) (sym e)
over_one (p ∷ r ∷ rs) q at l e = absurd (omega (arith, l))

pub over_none : (qs : List Query) (at : ℕ) → length qs ≡ 0 → over_fields (view_all qs) at ≡ Err (refusals.NoDefaultField at)
over_none [] at l = refl
over_none (p ∷ ps) at l = absurd (omega (arith, l))

pub over_several : (qs : List Query) (at : ℕ) → (length qs ≡ 0 → ⊥) → (length qs ≡ 1 → ⊥) → over_fields (view_all qs) at ≡ Ok (sought.Or (view_all qs))
over_several [] at a b = absurd (a refl)
over_several (p ∷ []) at a b = absurd (b refl)
over_several (p ∷ r ∷ rs) at a b = refl
