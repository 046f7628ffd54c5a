-- What holds of each clause of a query, and of what is made of queries, holds of the query that is read.
use Rattle.std.proofs.Common.{◌≡◌, ℕ, suc, ◌+◌, ◌≤◌, ◌&&◌, Bool, true, false, not, List, [], ◌∷◌, Option, Some, None, Result, Ok, Err, refl, ap, sym, ◌∙◌, subst, arith, if◌then◌else◌, slice_get}
use Rattle.std.proofs.lemmas.Bool.{and_parts}
use Rattle.std.specs.Str.{bytes_eq}
use Rattle.doc_value.specs.declared.schema.Field.{Field}
use Rattle.doc_value.specs.declared.schema.Schema.{Schema}
use Rattle.dynamic_paths.specs.LeafTexts.{fits}
use Rattle.query_ast.specs.Sought.{Sought, Soughts, no_more, more}
use Rattle.query_ast.specs.Sought as sought
use Rattle.query_reader.specs.Asking.{Asking}
use Rattle.query_reader.specs.Asking as asks
use Rattle.query_reader.specs.Tree.{Tree, Trees, no_trees, behind, Not, and_tree, or_tree}
use Rattle.query_reader.specs.Texts.{text_at}
use Rattle.query_reader.specs.Grammar.{Asks, Specials, Ors, one_and, by_or, Ands, one_operand, next_operand, by_and, Unary, by_not, by_plus, by_minus, anything, by_bracket, of_defaults, of_field, of_special, IsQuery, span}
use Rattle.query_reader.specs.Resolve.{◌>>=◌, resolve, resolve_each, resolve_clause, leaf_clause, unnamed_clause, overlong_clause, clause_of, over_fields, asked_after, asked_at, and_then, all_indexed, indexed_at, first_bad, bad_at, first_unplaced, unplaced_at, place_unless, first_of, number_of, first_byte}
use Rattle.query_reader.specs.declared.tree.Span.{Span}
use Rattle.query_reader.specs.declared.refusal.QueryError.{QueryError}
use Rattle.query_reader.specs.declared.refusal.QueryError.TheVariants as refusals

-- the grammar has this of a field
pub data IsWritten (text : List ℕ) (a : Asking) : Type 0 where
  plain_written : {i j : ℕ} → Asks text i j a → IsWritten text a
  special_written : {i j : ℕ} {b : Bool} → Specials text i j a b → IsWritten text a

abbrev pub size : Soughts → ℕ
size no_more = 0
size (more q qs) = size qs + 1

abbrev pub EachOf : (ℕ → Type 0) → List ℕ → Type 0
EachOf W [] = Unit {0}
EachOf W (n ∷ ns) = W n × EachOf W ns

-- P holds of what is asked of a field or of a path that no field has, W of the fields' numbers, Ps of lists of queries with P
pub record Rules (schema : Schema) (defaults text : List ℕ) (W : ℕ → Type 0) (P : Sought → Type 0) (Ps : Soughts → Type 0) : Type 0 where
  pub asked : (n : ℕ) (a : Asking) → W n → IsWritten text a → indexed_at schema.fields n ≡ true → bad_at schema.fields text a n ≡ None → unplaced_at schema.fields text a n ≡ None → P (asked_at schema.fields text a n)
  pub found : (n : ℕ) (f : Field) → slice_get schema.fields n ≡ Some f → W n
  pub leaf : (n : ℕ) (s : Span) (a : Asking) (q : Sought) → schema.dynamic ≡ Some n → IsWritten text a → leaf_clause text (text_at text s) n a ≡ Ok q → P q
  pub within : EachOf W defaults
  pub all : P sought.All
  pub negated : (q : Sought) → P q → P (sought.Not q)
  pub every : (qs : Soughts) → Ps qs → 2 ≤ size qs → P (sought.And qs)
  pub some : (qs : Soughts) → Ps qs → 2 ≤ size qs → P (sought.Or qs)
  pub none : Ps no_more
  pub added : (qs : Soughts) (q : Sought) → Ps qs → P q → Ps (and_then qs q)
  pub only : (q : Sought) → Ps (more q no_more) → P q

size_more : (qs : Soughts) (q : Sought) → size (and_then qs q) ≡ size qs + 1
size_more no_more q = refl
size_more (more p ps) q = ap (λ n. n + 1) (size_more ps q)

-- places that are none
pub unless_none : (b : Bool) (n : ℕ) → place_unless b n ≡ None → b ≡ true
unless_none true n e = refl
unless_none false n e = absurd (let y : ◌≡◌ {A = Option ℕ} (Some n) None = e in cc)

pub first_none : (a b : Option ℕ) → first_of a b ≡ None → (a ≡ None) × (b ≡ None)
first_none None b e = (refl, e)
first_none (Some n) b e = absurd (let y : ◌≡◌ {A = Option ℕ} (Some n) None = e in cc)

pub not_true : (b : Bool) → not b ≡ true → b ≡ false
not_true false e = refl
not_true true e = absurd (let y : false ≡ true = e in cc)

pub ordered_true : (b : Bool) (n : ℕ) (o : Option ℕ) → (if b then o else Some n) ≡ None → (b ≡ true) × (o ≡ None)
ordered_true true n o e = (refl, e)
ordered_true false n o e = absurd (let y : ◌≡◌ {A = Option ℕ} (Some n) None = e in cc)

-- a number that was found is one of the fields
number_within : (fields : List Field) (path : List ℕ) (k n : ℕ) → number_of fields path k ≡ Some n → (m : ℕ) × (n ≡ k + m) × ((f : Field) × (slice_get fields m ≡ Some f))
number_within [] path k n e = absurd (let y : ◌≡◌ {A = Option ℕ} None (Some n) = e in cc)
number_within (f ∷ fs) path k n e = go (λ h. number_within fs path (suc k) n h) (bytes_eq f.path path) refl
  where
    go : (number_of fs path (suc k) ≡ Some n → (m : ℕ) × (n ≡ suc k + m) × ((g : Field) × (slice_get fs m ≡ Some g))) → (t : Bool) → bytes_eq f.path path ≡ t
        → (m : ℕ) × (n ≡ k + m) × ((g : Field) × (slice_get (f ∷ fs) m ≡ Some g))
    go again true h = let y : ◌≡◌ {A = Option ℕ} (Some k) (Some n) = rw h at e in let z : k ≡ n = cc in (0, omega (arith, z), (f, refl))
    go again false h = let y : number_of fs path (suc k) ≡ Some n = rw h at e in let r = again y in (suc r.0, omega (arith, r.1), (r.2.0, r.2.1))

bind_some : {A B : Type 0} (r : Result A QueryError) (k : A → Result B QueryError) (y : B) → r >>= k ≡ Ok y → (x : A) × (r ≡ Ok x) × (k x ≡ Ok y)
bind_some (Ok x) k y e = (x, refl, e)
bind_some {A} {B} (Err r) k y e = absurd (let z : ◌≡◌ {A = Result B QueryError} (Err r) (Ok y) = e in cc)

module _ (schema : Schema) (defaults text : List ℕ) (W : ℕ → Type 0) (P : Sought → Type 0) (Ps : Soughts → Type 0) (rules : Rules schema defaults text W P Ps) where
  asked_all : (a : Asking) (ns : List ℕ) → EachOf W ns → IsWritten text a → all_indexed schema.fields ns ≡ true → first_bad schema.fields text a ns ≡ None → first_unplaced schema.fields text a ns ≡ None
      → (done : Soughts) → Ps done → Ps (asked_after schema.fields text done a ns)
  asked_all a [] e w i b u done r = r
  asked_all a (n ∷ ns) e w i b u done r =
      let p = and_parts (indexed_at schema.fields n) (all_indexed schema.fields ns) i in
      let q = first_none (bad_at schema.fields text a n) (first_bad schema.fields text a ns) b in
      let v = first_none (unplaced_at schema.fields text a n) (first_unplaced schema.fields text a ns) u in
      asked_all a ns e.1 w p.1 q.1 v.1 (and_then done (asked_at schema.fields text a n)) (rules.added done (asked_at schema.fields text a n) r (rules.asked n a e.0 w p.0 q.0 v.0))

  over_formed : (qs : Soughts) (at : ℕ) (q : Sought) → Ps qs → over_fields qs at ≡ Ok q → P q
  over_formed no_more at q r e = absurd (let y : ◌≡◌ {A = Result Sought QueryError} (Err (refusals.NoDefaultField at)) (Ok q) = e in cc)
  over_formed (more p no_more) at q r e = subst P (let y : ◌≡◌ {A = Result Sought QueryError} (Ok p) (Ok q) = e in cc) (rules.only p r)
  over_formed (more p (more s ps)) at q r e = subst P (let y : ◌≡◌ {A = Result Sought QueryError} (Ok (sought.Or (more p (more s ps)))) (Ok q) = e in cc) (rules.some (more p (more s ps)) r (omega arith))

  clause_formed : (a : Asking) (at : ℕ) (ns : List ℕ) (q : Sought) → EachOf W ns → IsWritten text a → clause_of schema.fields text a at ns ≡ Ok q → P q
  clause_formed a at ns q within w e = go (all_indexed schema.fields ns) refl (first_bad schema.fields text a ns) refl (first_unplaced schema.fields text a ns) refl
    where
      go : (i : Bool) → all_indexed schema.fields ns ≡ i → (b : Option ℕ) → first_bad schema.fields text a ns ≡ b → (u : Option ℕ) → first_unplaced schema.fields text a ns ≡ u → P q
      go false i b hb u hu = absurd (let y : ◌≡◌ {A = Result Sought QueryError} (Err (refusals.NotIndexed at)) (Ok q) = rw i at e in cc)
      go true i (Some n) hb u hu = absurd (let y : ◌≡◌ {A = Result Sought QueryError} (Err (refusals.BadValue n)) (Ok q) = rw (i, hb) at e in cc)
      go true i None hb (Some n) hu = absurd (let y : ◌≡◌ {A = Result Sought QueryError} (Err (refusals.NoPositions n)) (Ok q) = rw (i, hb, hu) at e in cc)
      go true i None hb None hu =
          let y : over_fields (asked_after schema.fields text no_more a ns) at ≡ Ok q = rw (i, hb, hu) at e in
          over_formed (asked_after schema.fields text no_more a ns) at q (asked_all a ns within w i hb hu no_more rules.none) y

  nothing_formed : (q : Sought) → ◌≡◌ {A = Result Sought QueryError} (Ok (sought.Not sought.All)) (Ok q) → P q
  nothing_formed q e = subst P (let y : sought.Not sought.All ≡ q = cc in y) (rules.negated sought.All rules.all)

  overlong_formed : (a : Asking) (q : Sought) → overlong_clause a ≡ Ok q → P q
  overlong_formed asks.Any q e = nothing_formed q e
  overlong_formed (asks.Word p) q e = nothing_formed q e
  overlong_formed (asks.Prefix p) q e = nothing_formed q e
  overlong_formed (asks.Quoted p) q e = nothing_formed q e
  overlong_formed (asks.Within m r) q e = absurd (let y : ◌≡◌ {A = Result Sought QueryError} (Err (refusals.BadValue m)) (Ok q) = e in cc)
  overlong_formed (asks.OneOf m ms) q e = nothing_formed q e

  unnamed_formed : (s : Span) (a : Asking) (q : Sought) (d : Option ℕ) → schema.dynamic ≡ d → IsWritten text a → unnamed_clause text (text_at text s) d a ≡ Ok q → P q
  unnamed_formed s a q None d w e = absurd (let y : ◌≡◌ {A = Result Sought QueryError} (Err (refusals.UnknownField (text_at text s))) (Ok q) = e in cc)
  unnamed_formed s a q (Some n) d w e = go (fits (text_at text s)) refl
    where
      go : (b : Bool) → fits (text_at text s) ≡ b → P q
      go true h = rules.leaf n s a q d w (let y : leaf_clause text (text_at text s) n a ≡ Ok q = rw h at e in y)
      go false h = overlong_formed a q (let y : overlong_clause a ≡ Ok q = rw h at e in y)

  leaf_formed : (field : Option Span) (a : Asking) (q : Sought) → IsWritten text a → resolve_clause schema defaults text field a ≡ Ok q → P q
  leaf_formed (Some s) a q w e = go (number_of schema.fields (text_at text s) 0) refl
    where
      go : (o : Option ℕ) → number_of schema.fields (text_at text s) 0 ≡ o → P q
      go None h = unnamed_formed s a q schema.dynamic refl w (let y : unnamed_clause text (text_at text s) schema.dynamic a ≡ Ok q = rw h at e in y)
      go (Some n) h =
          let y : clause_of schema.fields text a (first_byte a s.from) (n ∷ []) ≡ Ok q = rw h at e in
          let r = number_within schema.fields (text_at text s) 0 n h in
          let z : n ≡ r.0 = omega (arith, r.1) in
          clause_formed a (first_byte a s.from) (n ∷ []) q (rules.found n r.2.0 (subst (λ m. slice_get schema.fields m ≡ Some r.2.0) (sym z) r.2.1), tt) w y
  leaf_formed None asks.Any q w e = subst P (let y : ◌≡◌ {A = Result Sought QueryError} (Ok sought.All) (Ok q) = e in cc) rules.all
  leaf_formed None a q w e = clause_formed a (first_byte a 0) defaults q rules.within w e

  abbrev MeansFormed : Trees → Type 0
  MeansFormed ts = (qs : Soughts) → resolve_each schema defaults text ts ≡ Ok qs → Ps qs

  two_of : (ts : Trees) (u t : Tree) (qs : Soughts) → resolve_each schema defaults text (behind (behind ts u) t) ≡ Ok qs → 2 ≤ size qs
  two_of ts u t qs e =
      let a = bind_some (resolve_each schema defaults text (behind ts u)) (λ qs. resolve schema defaults text t >>= λ q. Ok (and_then qs q)) qs e in
      let b = bind_some (resolve schema defaults text t) (λ q. Ok (and_then a.0 q)) qs a.2 in
      let c = bind_some (resolve_each schema defaults text ts) (λ qs. resolve schema defaults text u >>= λ q. Ok (and_then qs q)) a.0 a.1 in
      let d = bind_some (resolve schema defaults text u) (λ q. Ok (and_then c.0 q)) a.0 c.2 in
      let y : ◌≡◌ {A = Result Soughts QueryError} (Ok (and_then a.0 b.0)) (Ok qs) = b.2 in
      let z : ◌≡◌ {A = Result Soughts QueryError} (Ok (and_then c.0 d.0)) (Ok a.0) = d.2 in
      let v : and_then a.0 b.0 ≡ qs = cc in
      let w : and_then c.0 d.0 ≡ a.0 = cc in
      omega (arith, ap size v, ap size w, size_more a.0 b.0, size_more c.0 d.0)

  and_one : (ts : Trees) (t : Tree) (q : Sought) → MeansFormed (behind ts t) → resolve schema defaults text (and_tree (behind ts t)) ≡ Ok q → P q
  and_one no_trees t q h e = rules.only q (h (more q no_more) (ap (λ r. r >>= λ q. Ok (more q no_more)) e))
  and_one (behind ts u) t q h e =
      let p = bind_some (resolve_each schema defaults text (behind (behind ts u) t)) (λ qs. Ok (sought.And qs)) q e in
      let y : ◌≡◌ {A = Result Sought QueryError} (Ok (sought.And p.0)) (Ok q) = p.2 in
      subst P (let z : sought.And p.0 ≡ q = cc in z) (rules.every p.0 (h p.0 p.1) (two_of ts u t p.0 p.1))

  or_one : (ts : Trees) (t : Tree) (q : Sought) → MeansFormed (behind ts t) → resolve schema defaults text (or_tree (behind ts t)) ≡ Ok q → P q
  or_one no_trees t q h e = rules.only q (h (more q no_more) (ap (λ r. r >>= λ q. Ok (more q no_more)) e))
  or_one (behind ts u) t q h e =
      let p = bind_some (resolve_each schema defaults text (behind (behind ts u) t)) (λ qs. Ok (sought.Or qs)) q e in
      let y : ◌≡◌ {A = Result Sought QueryError} (Ok (sought.Or p.0)) (Ok q) = p.2 in
      subst P (let z : sought.Or p.0 ≡ q = cc in z) (rules.some p.0 (h p.0 p.1) (two_of ts u t p.0 p.1))

  more_formed : (ts : Trees) (t : Tree) → MeansFormed ts → ((q : Sought) → resolve schema defaults text t ≡ Ok q → P q) → MeansFormed (behind ts t)
  more_formed ts t h k qs e =
      let a = bind_some (resolve_each schema defaults text ts) (λ qs. resolve schema defaults text t >>= λ q. Ok (and_then qs q)) qs e in
      let b = bind_some (resolve schema defaults text t) (λ q. Ok (and_then a.0 q)) qs a.2 in
      let y : ◌≡◌ {A = Result Soughts QueryError} (Ok (and_then a.0 b.0)) (Ok qs) = b.2 in
      subst Ps (let z : and_then a.0 b.0 ≡ qs = cc in z) (rules.added a.0 b.0 (h a.0 a.1) (k b.0 b.1))

  none_formed : MeansFormed no_trees
  none_formed qs e = let y : ◌≡◌ {A = Result Soughts QueryError} (Ok no_more) (Ok qs) = e in subst Ps (let z : no_more ≡ qs = cc in z) rules.none

  not_formed : (t : Tree) (q : Sought) → ((q : Sought) → resolve schema defaults text t ≡ Ok q → P q) → resolve schema defaults text (Not t) ≡ Ok q → P q
  not_formed t q k e =
      let p = bind_some (resolve schema defaults text t) (λ q. Ok (sought.Not q)) q e in
      let y : ◌≡◌ {A = Result Sought QueryError} (Ok (sought.Not p.0)) (Ok q) = p.2 in
      subst P (let z : sought.Not p.0 ≡ q = cc in z) (rules.negated p.0 (k p.0 p.1))

  mutual
    ors_formed : {ts : Trees} {i j n : ℕ} {b : Bool} → Ors text ts i j b n → MeansFormed ts
    ors_formed (one_and {t} a) = more_formed no_trees (and_tree t) none_formed (whole_and a)
    ors_formed (by_or {s} {t} o g w h a) = more_formed s (and_tree t) (ors_formed o) (whole_and a)

    whole_and : {ts : Trees} {i j n : ℕ} {b : Bool} → Ands text ts i j b n → (q : Sought) → resolve schema defaults text (and_tree ts) ≡ Ok q → P q
    whole_and (one_operand {t} u) q e = and_one no_trees t q (more_formed no_trees t none_formed (unary_formed u)) e
    whole_and (next_operand {s} {t} a g u) q e = and_one s t q (more_formed s t (ands_formed a) (unary_formed u)) e
    whole_and (by_and {s} {t} a g w h u) q e = and_one s t q (more_formed s t (ands_formed a) (unary_formed u)) e

    ands_formed : {ts : Trees} {i j n : ℕ} {b : Bool} → Ands text ts i j b n → MeansFormed ts
    ands_formed (one_operand {t} u) = more_formed no_trees t none_formed (unary_formed u)
    ands_formed (next_operand {s} {t} a g u) = more_formed s t (ands_formed a) (unary_formed u)
    ands_formed (by_and {s} {t} a g w h u) = more_formed s t (ands_formed a) (unary_formed u)

    whole_or : {ts : Trees} {i j n : ℕ} {b : Bool} → Ors text ts i j b n → (q : Sought) → resolve schema defaults text (or_tree ts) ≡ Ok q → P q
    whole_or (one_and {t} a) q e = or_one no_trees (and_tree t) q (more_formed no_trees (and_tree t) none_formed (whole_and a)) e
    whole_or (by_or {s} {t} o g w h a) q e = or_one s (and_tree t) q (more_formed s (and_tree t) (ors_formed o) (whole_and a)) e

    unary_formed : {t : Tree} {i j n : ℕ} {b : Bool} → Unary text t i j b n → (q : Sought) → resolve schema defaults text t ≡ Ok q → P q
    unary_formed (by_not {t} w g u) q e = not_formed t q (unary_formed u) e
    unary_formed (by_plus s u) q e = unary_formed u q e
    unary_formed (by_minus {t} s u) q e = not_formed t q (unary_formed u) e
    unary_formed (anything s) q e = subst P (let y : ◌≡◌ {A = Result Sought QueryError} (Ok sought.All) (Ok q) = e in cc) rules.all
    unary_formed (by_bracket {t} a b o c d) q e = whole_or o q e
    unary_formed (of_defaults {i} {j} {n} {a} k) q e = leaf_formed None a q (plain_written k) e
    unary_formed (of_field {i} {j} {k} {n} {a} w c d g l) q e = leaf_formed (Some (span i j)) a q (plain_written l) e
    unary_formed (of_special {i} {j} {k} {l} {n} {a} w c g s) q e = leaf_formed (Some (span i j)) a q (special_written s) e

  -- a query that was read
  pub query_formed : {t : Tree} {n : ℕ} (q : Sought) → IsQuery n text t → resolve schema defaults text t ≡ Ok q → P q
  query_formed q x e = whole_or x.ors q (ap (resolve schema defaults text) x.whole ∙ e)
