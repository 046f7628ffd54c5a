-- A query that was read can be asked of the schema's index.
use Rattle.std.proofs.Common.{◌≡◌, ℕ, ◌&&◌, Bool, true, false, not, nat_lt, List, [], ◌∷◌, length, map, Option, Some, None, Result, Ok, Err, refl, ap, sym, ◌∙◌, subst, if◌then◌else◌, slice_get}
use Rattle.std.proofs.lemmas.Bool.{lt-ltb, and_parts}
use Rattle.std.specs.Option.{IfSome}
use Rattle.doc_value.specs.Documents.{IsDynamic}
use Rattle.doc_value.specs.declared.schema.Field.{Field}
use Rattle.doc_value.specs.declared.schema.Schema.{Schema}
use Rattle.dynamic_paths.specs.LeafTexts.{leaf_text, fits}
use Rattle.query_ast.specs.FieldTokens.{field_tokens}
use Rattle.query_ast.specs.Meaning.{is_text}
use Rattle.query_ast.specs.Sought.{Sought, Soughts, no_more, more}
use Rattle.query_ast.specs.Sought as sought
use Rattle.query_reader.specs.Asking.{Asking}
use Rattle.query_reader.specs.Asking as asks
use Rattle.query_reader.specs.Machine.{reads}
use Rattle.query_reader.specs.Resolve.{◌>>=◌, leaf_item, leaf_clause, overlong_clause, unnamed_clause, place_unless, first_of, bad_value, bad_range, bad_at, first_bad, is_unplaced, unplaced, unplaced_at, unplaced_members, first_unplaced, indexed_at, all_indexed, asked_of, asked_at, asked_after, range_of, item_of, member_byte, and_then, over_fields, clause_of, resolve_clause, resolve, resolve_each, number_of, first_byte, query_of}
use Rattle.query_ast.specs.Queries.{has_order}
use Rattle.query_reader.proofs.Holding.{IsHolder, holder, few_tokens}
use Rattle.query_reader.specs.Texts.{text_at}
use Rattle.query_reader.specs.Tree.{Tree, Trees, no_trees, behind}
use Rattle.query_reader.specs.Tree as trees
use Rattle.query_reader.specs.declared.special.Member.{Member}
use Rattle.query_reader.specs.declared.special.Compare.TheVariants.{AtLeast, AtMost, Above, Below}
use Rattle.query_reader.specs.declared.special.Ranged.{Ranged}
use Rattle.query_reader.specs.declared.special.Ranged.TheVariants.{Between, Compared}
use Rattle.query_reader.specs.declared.tree.Span.{Span}
use Rattle.query_reader.specs.declared.fault.Fault.{Fault}
use Rattle.query_reader.specs.declared.fault.Fault.TheVariants as faults
use Rattle.query_reader.specs.declared.refusal.QueryError.{QueryError}
use Rattle.query_reader.specs.declared.refusal.QueryError.TheVariants as refusals
use Rattle.query_ast.specs.Askable.{CanPlace, CanPlaceEach, CanAsk, CanAskEach}

-- ---- places that are none
unless_none : (b : Bool) (n : ℕ) → place_unless b n ≡ None → b ≡ true
unless_none true n e = refl
unless_none false n e = absurd (let y : ◌≡◌ {A = Option ℕ} (Some n) None = e in cc)

first_none : (a b : Option ℕ) → first_of a b ≡ None → (a ≡ None) × (b ≡ None)
first_none None b e = (refl, e)
first_none (Some n) b e = absurd (let y : ◌≡◌ {A = Option ℕ} (Some n) None = e in cc)

ordered_true : (b : Bool) (n : ℕ) (o : Option ℕ) → (if b then o else Some n) ≡ None → b ≡ true
ordered_true true n o e = refl
ordered_true false n o e = absurd (let y : ◌≡◌ {A = Option ℕ} (Some n) None = e in cc)

-- ---- texts of several tokens
placed : (t p l : Bool) → not (t && (not p && l)) ≡ true → t ≡ true → l ≡ true → p ≡ true
placed t true l e h k = refl
placed true false true e h k = absurd (let y : false ≡ true = e in cc)
placed true false false e h k = absurd (let y : false ≡ true = k in cc)
placed false false l e h k = absurd (let y : false ≡ true = h in cc)

can_place : (text : List ℕ) (f : Field) → not (is_unplaced f text) ≡ true → CanPlace f text
can_place text f e h l = placed (is_text f.kind) f.positions (nat_lt 1 (length (field_tokens f text))) e h (lt-ltb 1 (length (field_tokens f text)) l)

quoted_place : (q u : Bool) → not (q && u) ≡ true → q ≡ true → not u ≡ true
quoted_place true u e h = e
quoted_place false u e h = absurd (let y : false ≡ true = h in cc)

can_place_each : (text : List ℕ) (f : Field) (ms : List Member) → unplaced_members text f ms ≡ None → CanPlaceEach f (map (item_of text) ms)
can_place_each text f [] e = tt
can_place_each text f (m ∷ ms) e =
    let p = first_none (place_unless (not (m.quoted && is_unplaced f (text_at text m.place))) (member_byte m)) (unplaced_members text f ms) e in (
      λ h. can_place (text_at text m.place) f (quoted_place m.quoted (is_unplaced f (text_at text m.place)) (unless_none (not (m.quoted && is_unplaced f (text_at text m.place))) (member_byte m) p.0) h),
      can_place_each text f ms p.1,
    )

-- ---- what is asked of one field
module _ (s : Schema) (text : List ℕ) (n : ℕ) (f : Field) (here : slice_get s.fields n ≡ Some f) (indexed : f.indexed ≡ true) where
  range_can : (r : Ranged) → has_order f.kind ≡ true → CanAsk s (range_of text f.kind n r)
  range_can (Between lc low high hc) o = rw here (indexed, o)
  range_can (Compared AtLeast b) o = rw here (indexed, o)
  range_can (Compared Above b) o = rw here (indexed, o)
  range_can (Compared AtMost b) o = rw here (indexed, o)
  range_can (Compared Below b) o = rw here (indexed, o)

  asked_can : (a : Asking) → bad_value text a f ≡ None → unplaced text a f ≡ None → CanAsk s (asked_of text a n f)
  asked_can asks.Any b u = rw here (indexed, tt)
  asked_can (asks.Word p) b u = rw here (indexed, tt)
  asked_can (asks.Prefix p) b u = rw here (indexed, unless_none (is_text f.kind) p.from b)
  asked_can (asks.Quoted p) b u = rw here (indexed, can_place (text_at text p) f (unless_none (not (is_unplaced f (text_at text p))) _ u))
  asked_can (asks.Within m r) b u = range_can r (ordered_true (has_order f.kind) m (bad_range text f.kind r) b)
  asked_can (asks.OneOf m ms) b u = rw here (indexed, can_place_each text f ms u)

at_can : (s : Schema) (text : List ℕ) (n : ℕ) (a : Asking) → indexed_at s.fields n ≡ true → bad_at s.fields text a n ≡ None → unplaced_at s.fields text a n ≡ None
    → CanAsk s (asked_at s.fields text a n)
at_can s text n a i b u = go (slice_get s.fields n) refl
  where
    go : (o : Option Field) → slice_get s.fields n ≡ o → CanAsk s (asked_at s.fields text a n)
    go None h = rw h tt
    go (Some f) h =
        let one : asked_of text a n f ≡ asked_at s.fields text a n = rw h refl in
        let indexed : f.indexed ≡ true = rw h at i in
        let bad : bad_value text a f ≡ None = rw h at b in
        let loose : unplaced text a f ≡ None = rw h at u in
        subst (λ (q : Sought). CanAsk s q) one (asked_can s text n f h indexed a bad loose)

same_ok : {A : Type 0} (x y : A) → ◌≡◌ {A = Result A QueryError} (Ok x) (Ok y) → x ≡ y
same_ok x y e = cc

-- ---- what is asked of a path that no field has
holder_place : (f : Field) (w : List ℕ) → IsHolder f → CanPlace f w
holder_place f w h e l = absurd (let y : true ≡ false = sym (lt-ltb 1 (length (field_tokens f w)) l) ∙ few_tokens f w h in cc)

module _ (s : Schema) (text path : List ℕ) (n : ℕ) (f : Field) (here : slice_get s.fields n ≡ Some f) (h : IsHolder f) where
  place_each : (ms : List Member) → CanPlaceEach f (map (leaf_item text path) ms)
  place_each [] = tt
  place_each (m ∷ ms) = (λ e. holder_place f (leaf_text path (text_at text m.place)) h, place_each ms)

  path_can : (a : Asking) (q : Sought) → leaf_clause text path n a ≡ Ok q → CanAsk s q
  path_can asks.Any q e = subst (λ (q : Sought). CanAsk s q) (same_ok _ q e) (rw here (h.indexed, ap is_text h.kind))
  path_can (asks.Word p) q e = subst (λ (q : Sought). CanAsk s q) (same_ok _ q e) (rw here (h.indexed, tt))
  path_can (asks.Prefix p) q e = subst (λ (q : Sought). CanAsk s q) (same_ok _ q e) (rw here (h.indexed, ap is_text h.kind))
  path_can (asks.Quoted p) q e = subst (λ (q : Sought). CanAsk s q) (same_ok _ q e) (rw here (h.indexed, holder_place f (leaf_text path (text_at text p)) h))
  path_can (asks.Within m r) q e = absurd (let y : ◌≡◌ {A = Result Sought QueryError} (Err (refusals.BadValue m)) (Ok q) = e in cc)
  path_can (asks.OneOf m ms) q e = subst (λ (q : Sought). CanAsk s q) (same_ok _ q e) (rw here (h.indexed, place_each ms))

-- nothing is asked of a path that is too long
overlong_can : (s : Schema) (a : Asking) (q : Sought) → overlong_clause a ≡ Ok q → CanAsk s q
overlong_can s asks.Any q e = subst (λ (q : Sought). CanAsk s q) (same_ok _ q e) tt
overlong_can s (asks.Word p) q e = subst (λ (q : Sought). CanAsk s q) (same_ok _ q e) tt
overlong_can s (asks.Prefix p) q e = subst (λ (q : Sought). CanAsk s q) (same_ok _ q e) tt
overlong_can s (asks.Quoted p) q e = subst (λ (q : Sought). CanAsk s q) (same_ok _ q e) tt
overlong_can s (asks.Within m r) q e = absurd (let y : ◌≡◌ {A = Result Sought QueryError} (Err (refusals.BadValue m)) (Ok q) = e in cc)
overlong_can s (asks.OneOf m ms) q e = subst (λ (q : Sought). CanAsk s q) (same_ok _ q e) tt

more_can : (s : Schema) (qs : Soughts) (q : Sought) → CanAskEach s qs → CanAsk s q → CanAskEach s (and_then qs q)
more_can s no_more q h e = (e, tt)
more_can s (more p ps) q h e = (h.0, more_can s ps q h.1 e)

bind_some : {A B : Type 0} (r : Result A QueryError) (k : A → Result B QueryError) (y : B) → r >>= k ≡ Ok y → (x : A) × (r ≡ Ok x) × (k x ≡ Ok y)
bind_some (Ok x) k y e = (x, refl, e)
bind_some {A} {B} (Err r) k y e = absurd (let z : ◌≡◌ {A = Result B QueryError} (Err r) (Ok y) = e in cc)

-- ---- clauses and queries
module _ (s : Schema) (dynamic : IfSome s.dynamic (IsDynamic s.fields)) (defaults text : List ℕ) where
  after_can : (a : Asking) (ns : List ℕ) → all_indexed s.fields ns ≡ true → first_bad s.fields text a ns ≡ None → first_unplaced s.fields text a ns ≡ None
      → (done : Soughts) → CanAskEach s done → CanAskEach s (asked_after s.fields text done a ns)
  after_can a [] i b u done h = h
  after_can a (n ∷ ns) i b u done h =
      let p = and_parts (indexed_at s.fields n) (all_indexed s.fields ns) i in
      let q = first_none (bad_at s.fields text a n) (first_bad s.fields text a ns) b in
      let v = first_none (unplaced_at s.fields text a n) (first_unplaced s.fields text a ns) u in
      after_can a ns p.1 q.1 v.1 (and_then done (asked_at s.fields text a n)) (more_can s done (asked_at s.fields text a n) h (at_can s text n a p.0 q.0 v.0))

  over_can : (qs : Soughts) (at : ℕ) (q : Sought) → CanAskEach s qs → over_fields qs at ≡ Ok q → CanAsk s q
  over_can no_more at q h e = absurd (let y : ◌≡◌ {A = Result Sought QueryError} (Err (refusals.NoDefaultField at)) (Ok q) = e in cc)
  over_can (more p no_more) at q h e = subst (λ (q : Sought). CanAsk s q) (same_ok p q e) h.0
  over_can (more p (more r ps)) at q h e =
      subst (λ (q : Sought). CanAsk s q) (same_ok (sought.Or (more p (more r ps))) q e) h

  clause_can : (a : Asking) (at : ℕ) (ns : List ℕ) (q : Sought) → clause_of s.fields text a at ns ≡ Ok q → CanAsk s q
  clause_can a at ns q e = go (all_indexed s.fields ns) refl (first_bad s.fields text a ns) refl (first_unplaced s.fields text a ns) refl
    where
      go : (i : Bool) → all_indexed s.fields ns ≡ i → (b : Option ℕ) → first_bad s.fields text a ns ≡ b → (u : Option ℕ) → first_unplaced s.fields text a ns ≡ u → CanAsk s q
      go false i b hb u hu = absurd (let y : ◌≡◌ {A = Result Sought QueryError} (Err (refusals.NotIndexed at)) (Ok q) = rw i at e in cc)
      go true i (Some n) hb u hu = absurd (let y : ◌≡◌ {A = Result Sought QueryError} (Err (refusals.BadValue n)) (Ok q) = rw (i, hb) at e in cc)
      go true i None hb (Some n) hu = absurd (let y : ◌≡◌ {A = Result Sought QueryError} (Err (refusals.NoPositions n)) (Ok q) = rw (i, hb, hu) at e in cc)
      go true i None hb None hu =
          let y : over_fields (asked_after s.fields text no_more a ns) at ≡ Ok q = rw (i, hb, hu) at e in
          over_can (asked_after s.fields text no_more a ns) at q (after_can a ns i hb hu no_more tt) y

  -- a path that no field has
  unnamed_can : (p : Span) (a : Asking) (q : Sought) (d : Option ℕ) → s.dynamic ≡ d → unnamed_clause text (text_at text p) d a ≡ Ok q → CanAsk s q
  unnamed_can p a q None d e = absurd (let y : ◌≡◌ {A = Result Sought QueryError} (Err (refusals.UnknownField (text_at text p))) (Ok q) = e in cc)
  unnamed_can p a q (Some n) d e = go (fits (text_at text p)) refl
    where
      go : (b : Bool) → fits (text_at text p) ≡ b → CanAsk s q
      go true h =
          let r = holder s.fields n (subst (λ (o : Option ℕ). IfSome o (IsDynamic s.fields)) d dynamic) in
          let y : leaf_clause text (text_at text p) n a ≡ Ok q = rw h at e in
          path_can s text (text_at text p) n r.0 r.1 r.2 a q y
      go false h = overlong_can s a q (let y : overlong_clause a ≡ Ok q = rw h at e in y)

  leaf_can : (field : Option Span) (a : Asking) (q : Sought) → resolve_clause s defaults text field a ≡ Ok q → CanAsk s q
  leaf_can (Some p) a q e = go (number_of s.fields (text_at text p) 0) refl
    where
      go : (o : Option ℕ) → number_of s.fields (text_at text p) 0 ≡ o → CanAsk s q
      go None h = unnamed_can p a q s.dynamic refl (let y : unnamed_clause text (text_at text p) s.dynamic a ≡ Ok q = rw h at e in y)
      go (Some n) h =
          let y : clause_of s.fields text a (first_byte a p.from) (n ∷ []) ≡ Ok q = rw h at e in
          clause_can a (first_byte a p.from) (n ∷ []) q y
  leaf_can None asks.Any q e = subst (λ (q : Sought). CanAsk s q) (same_ok sought.All q e) tt
  leaf_can None a q e = clause_can a (first_byte a 0) defaults q e

  mutual
    tree_can : (t : Tree) (q : Sought) → resolve s defaults text t ≡ Ok q → CanAsk s q
    tree_can (trees.Leaf field a) q e = leaf_can field a q e
    tree_can (trees.Group t) q e = tree_can t q e
    tree_can (trees.Not t) q e =
        let p = bind_some (resolve s defaults text t) (λ q. Ok (sought.Not q)) q e in
        let y : ◌≡◌ {A = Result Sought QueryError} (Ok (sought.Not p.0)) (Ok q) = p.2 in
        subst (λ (q : Sought). CanAsk s q) (let z : sought.Not p.0 ≡ q = cc in z) (tree_can t p.0 p.1)
    tree_can (trees.And ts) q e =
        let p = bind_some (resolve_each s defaults text ts) (λ qs. Ok (sought.And qs)) q e in
        let y : ◌≡◌ {A = Result Sought QueryError} (Ok (sought.And p.0)) (Ok q) = p.2 in
        subst (λ (q : Sought). CanAsk s q) (let z : sought.And p.0 ≡ q = cc in z) (each_can ts p.0 p.1)
    tree_can (trees.Or ts) q e =
        let p = bind_some (resolve_each s defaults text ts) (λ qs. Ok (sought.Or qs)) q e in
        let y : ◌≡◌ {A = Result Sought QueryError} (Ok (sought.Or p.0)) (Ok q) = p.2 in
        subst (λ (q : Sought). CanAsk s q) (let z : sought.Or p.0 ≡ q = cc in z) (each_can ts p.0 p.1)

    each_can : (ts : Trees) (qs : Soughts) → resolve_each s defaults text ts ≡ Ok qs → CanAskEach s qs
    each_can no_trees qs e = subst (λ (qs : Soughts). CanAskEach s qs) (same_ok no_more qs e) tt
    each_can (behind ts t) qs e =
        let a = bind_some (resolve_each s defaults text ts) (λ qs. resolve s defaults text t >>= λ q. Ok (and_then qs q)) qs e in
        let b = bind_some (resolve s defaults text t) (λ q. Ok (and_then a.0 q)) qs a.2 in
        let y : ◌≡◌ {A = Result Soughts QueryError} (Ok (and_then a.0 b.0)) (Ok qs) = b.2 in
        subst (λ (qs : Soughts). CanAskEach s qs) (let z : and_then a.0 b.0 ≡ qs = cc in z) (more_can s a.0 b.0 (each_can ts a.0 a.1) (tree_can t b.0 b.1))

-- each clause of a query that was read can be asked
pub query_can : (s : Schema) (defaults text : List ℕ) (q : Sought) → IfSome s.dynamic (IsDynamic s.fields) → query_of s defaults text ≡ Ok q → CanAsk s q
query_can s defaults text q dynamic e = go (reads text) refl
  where
    go : (r : Result Tree Fault) → reads text ≡ r → CanAsk s q
    go (Ok t) h = tree_can s dynamic defaults text t q (let y : resolve s defaults text t ≡ Ok q = rw h at e in y)
    go (Err (faults.Syntax n)) h = absurd (let y : ◌≡◌ {A = Result Sought QueryError} (Err (refusals.Syntax n)) (Ok q) = rw h at e in cc)
    go (Err (faults.TooDeep n)) h = absurd (let y : ◌≡◌ {A = Result Sought QueryError} (Err (refusals.TooDeep n)) (Ok q) = rw h at e in cc)
