-- A query that was read is of the schema that it was read for.
use Rattle.std.proofs.Common.{◌≡◌, ℕ, ◌≤◌, Bool, true, false, List, [], ◌∷◌, map, Option, Some, None, Result, Ok, Err, refl, ap, subst, arith, is_some, slice_get, ℤ}
use Rattle.std.specs.Option.{IfSome}
use Rattle.doc_value.specs.Documents.{IsOfKind, IsDynamic}
use Rattle.doc_value.specs.declared.schema.Field.{Field}
use Rattle.doc_value.specs.declared.schema.Kind.{Kind as Sort}
use Rattle.doc_value.specs.declared.schema.Kind.TheVariants as kinds
use Rattle.doc_value.specs.declared.schema.Schema.{Schema}
use Rattle.doc_value.specs.declared.doc.Value.{Value}
use Rattle.doc_value.specs.declared.doc.Value.TheVariants as values
use Rattle.dynamic_paths.specs.LeafTexts.{leaf_text}
use Rattle.query_ast.specs.Meaning.{is_text}
use Rattle.query_ast.specs.Queries as queries
use Rattle.query_ast.specs.Queries.{IsInTime, EachSpells, IsQueryOf, AreQueriesOf, AreTwo, has_order}
use Rattle.query_ast.specs.Spelled.{spelled, signed_of, unsigned_of, truth_of, datetime_of}
use Rattle.query_ast.specs.Sought.{Sought, Soughts, no_more, more}
use Rattle.query_ast.specs.declared.query.Edge.{Edge}
use Rattle.query_reader.proofs.Holding.{IsHolder, holder}
use Rattle.query_laws.proofs.Leaves.{if_holder}
use Rattle.query_laws.proofs.Formed.{size, EachOf, Rules, unless_none, first_none, ordered_true, query_formed}
use Rattle.query_laws.proofs.Readable.{IsEdgeOf, open_edge, included_edge, excluded_edge, edge_readable}
use Rattle.query_laws.proofs.Spelling.{datetime_is}
use Rattle.query_reader.specs.Asking.{Asking}
use Rattle.query_reader.specs.Asking as asks
use Rattle.query_reader.specs.Grammar.{IsQuery}
use Rattle.query_reader.specs.Resolve.{resolve, asked_at, asked_of, leaf_item, leaf_clause, and_then, bad_at, bad_value, bad_bound, bad_range, bad_members, range_of, item_of, member_byte, place_unless}
use Rattle.query_reader.specs.Texts.{text_at}
use Rattle.query_reader.specs.Tree.{Tree}
use Rattle.query_reader.specs.declared.refusal.QueryError.{QueryError}
use Rattle.query_reader.specs.declared.refusal.QueryError.TheVariants as refusals
use Rattle.query_reader.specs.declared.special.Member.{Member}
use Rattle.query_reader.specs.declared.special.Compare.TheVariants.{AtLeast, AtMost, Above, Below}
use Rattle.query_reader.specs.declared.special.Ranged.{Ranged}
use Rattle.query_reader.specs.declared.special.Ranged.TheVariants.{Between, Compared}

-- what a text spells is a value of the kind
abbrev Fits : Sort → Value → Type 0
Fits kind v = IsOfKind kind v × IsInTime v

some_fits : (kind : Sort) (w v : Value) → ◌≡◌ {A = Option Value} (Some w) (Some v) → Fits kind w → Fits kind v
some_fits kind w v e h = let z : w ≡ v = cc in subst (Fits kind) z h

spelled_fits : (kind : Sort) (text : List ℕ) (v : Value) → spelled kind text ≡ Some v → Fits kind v
spelled_fits kinds.Text text v e = some_fits kinds.Text (values.Text text) v e (tt, tt)
spelled_fits kinds.TextList text v e = some_fits kinds.TextList (values.Text text) v e (tt, tt)
spelled_fits kinds.I64 text v e = go (signed_of text) refl
  where
    go : (o : Option ℤ) → signed_of text ≡ o → Fits kinds.I64 v
    go None h = absurd (let y : ◌≡◌ {A = Option Value} None (Some v) = rw h at e in cc)
    go (Some n) h = some_fits kinds.I64 (values.I64 n) v (let y : ◌≡◌ {A = Option Value} (Some (values.I64 n)) (Some v) = rw h at e in y) (tt, tt)
spelled_fits kinds.U64 text v e = go (unsigned_of text) refl
  where
    go : (o : Option ℕ) → unsigned_of text ≡ o → Fits kinds.U64 v
    go None h = absurd (let y : ◌≡◌ {A = Option Value} None (Some v) = rw h at e in cc)
    go (Some n) h = some_fits kinds.U64 (values.U64 n) v (let y : ◌≡◌ {A = Option Value} (Some (values.U64 n)) (Some v) = rw h at e in y) (tt, tt)
spelled_fits kinds.Bool text v e = go (truth_of text) refl
  where
    go : (o : Option Bool) → truth_of text ≡ o → Fits kinds.Bool v
    go None h = absurd (let y : ◌≡◌ {A = Option Value} None (Some v) = rw h at e in cc)
    go (Some b) h = some_fits kinds.Bool (values.Bool b) v (let y : ◌≡◌ {A = Option Value} (Some (values.Bool b)) (Some v) = rw h at e in y) (tt, tt)
spelled_fits kinds.Datetime text v e = go (datetime_of text) refl
  where
    go : (o : Option ℤ) → datetime_of text ≡ o → Fits kinds.Datetime v
    go None h = absurd (let y : ◌≡◌ {A = Option Value} None (Some v) = rw h at e in cc)
    go (Some n) h = some_fits kinds.Datetime (values.Datetime n) v (let y : ◌≡◌ {A = Option Value} (Some (values.Datetime n)) (Some v) = rw h at e in y) (tt, datetime_is text n h)

edge_fits : {kind : Sort} {edge : Edge} → IsEdgeOf kind edge → queries.IsEdgeOf kind edge
edge_fits open_edge = tt
edge_fits {kind} (included_edge text {v} e) = spelled_fits kind text v e
edge_fits {kind} (excluded_edge text {v} e) = spelled_fits kind text v e

module _ (s : Schema) (text : List ℕ) (n : ℕ) (f : Field) (here : slice_get s.fields n ≡ Some f) where
  range_fits : (r : Ranged) → has_order f.kind ≡ true → bad_range text f.kind r ≡ None → IsQueryOf s (range_of text f.kind n r)
  range_fits (Between lc low high hc) o e =
      let p = first_none (bad_bound text f.kind low) (bad_bound text f.kind high) e in
      rw here (o, edge_fits (edge_readable text f.kind lc low p.0), edge_fits (edge_readable text f.kind hc high p.1))
  range_fits (Compared AtLeast b) o e = rw here (o, edge_fits (edge_readable text f.kind true b e), tt)
  range_fits (Compared Above b) o e = rw here (o, edge_fits (edge_readable text f.kind false b e), tt)
  range_fits (Compared AtMost b) o e = rw here (o, tt, edge_fits (edge_readable text f.kind true b e))
  range_fits (Compared Below b) o e = rw here (o, tt, edge_fits (edge_readable text f.kind false b e))

  items_fit : (ms : List Member) → bad_members text f.kind ms ≡ None → EachSpells (map (item_of text) ms) f
  items_fit [] b = tt
  items_fit (m ∷ ms) b =
      let p = first_none (place_unless (is_some (spelled f.kind (text_at text m.place))) (member_byte m)) (bad_members text f.kind ms) b in
      (unless_none (is_some (spelled f.kind (text_at text m.place))) (member_byte m) p.0, items_fit ms p.1)

  asked_fits : (a : Asking) → bad_value text a f ≡ None → IsQueryOf s (asked_of text a n f)
  asked_fits asks.Any b = rw here tt
  asked_fits (asks.Word p) b = rw here (unless_none (is_some (spelled f.kind (text_at text p))) p.from b)
  asked_fits (asks.Prefix p) b = rw here (unless_none (is_text f.kind) p.from b)
  asked_fits (asks.Quoted p) b = rw here (unless_none (is_some (spelled f.kind (text_at text p))) _ b)
  asked_fits (asks.Within m r) b =
      let p = ordered_true (has_order f.kind) m (bad_range text f.kind r) b in range_fits r p.0 p.1
  asked_fits (asks.OneOf m ms) b = rw here (items_fit ms b)

-- what is asked of a number that no field has is nothing
at_fits : (s : Schema) (text : List ℕ) (n : ℕ) (a : Asking) → bad_at s.fields text a n ≡ None → IsQueryOf s (asked_at s.fields text a n)
at_fits s text n a b = go (slice_get s.fields n) refl
  where
    go : (o : Option Field) → slice_get s.fields n ≡ o → IsQueryOf s (asked_at s.fields text a n)
    go None h = rw h tt
    go (Some f) h =
        let one : asked_of text a n f ≡ asked_at s.fields text a n = rw h refl in
        subst (IsQueryOf s) one (asked_fits s text n f h a (let y : bad_value text a f ≡ None = rw h at b in y))

same_ok : (p q : Sought) → ◌≡◌ {A = Result Sought QueryError} (Ok p) (Ok q) → p ≡ q
same_ok p q e = cc

-- what is asked of a path that no field has
module _ (s : Schema) (text path : List ℕ) (n : ℕ) (f : Field) (here : slice_get s.fields n ≡ Some f) (h : IsHolder f) where
  leaf_spells : (w : List ℕ) → is_some (spelled f.kind w) ≡ true
  leaf_spells w = ap (λ (kind : Sort). is_some (spelled kind w)) h.kind

  leaf_items_fit : (ms : List Member) → EachSpells (map (leaf_item text path) ms) f
  leaf_items_fit [] = tt
  leaf_items_fit (m ∷ ms) = (leaf_spells (leaf_text path (text_at text m.place)), leaf_items_fit ms)

  leaf_fits : (a : Asking) (q : Sought) → leaf_clause text path n a ≡ Ok q → IsQueryOf s q
  leaf_fits asks.Any q e = subst (IsQueryOf s) (same_ok _ q e) (rw here (ap is_text h.kind))
  leaf_fits (asks.Word p) q e = subst (IsQueryOf s) (same_ok _ q e) (rw here (leaf_spells (leaf_text path (text_at text p))))
  leaf_fits (asks.Prefix p) q e = subst (IsQueryOf s) (same_ok _ q e) (rw here (ap is_text h.kind))
  leaf_fits (asks.Quoted p) q e = subst (IsQueryOf s) (same_ok _ q e) (rw here (leaf_spells (leaf_text path (text_at text p))))
  leaf_fits (asks.Within m r) q e = absurd (let y : ◌≡◌ {A = Result Sought QueryError} (Err (refusals.BadValue m)) (Ok q) = e in cc)
  leaf_fits (asks.OneOf m ms) q e = subst (IsQueryOf s) (same_ok _ q e) (rw here (leaf_items_fit ms))

unnamed_fits : (s : Schema) (text path : List ℕ) (n : ℕ) (a : Asking) (q : Sought) → IfSome s.dynamic (IsDynamic s.fields) → s.dynamic ≡ Some n → leaf_clause text path n a ≡ Ok q → IsQueryOf s q
unnamed_fits s text path n a q d e h =
    let r = holder s.fields n (if_holder s.fields s.dynamic n d e) in leaf_fits s text path n r.0 r.1 r.2 a q h

two : (qs : Soughts) → 2 ≤ size qs → AreTwo qs
two no_more l = omega (arith, l)
two (more q no_more) l = omega (arith, l)
two (more q (more p qs)) l = tt

more_fit : (s : Schema) (qs : Soughts) (q : Sought) → AreQueriesOf s qs → IsQueryOf s q → AreQueriesOf s (and_then qs q)
more_fit s no_more q h e = (e, tt)
more_fit s (more p ps) q h e = (h.0, more_fit s ps q h.1 e)

any_number : (ns : List ℕ) → EachOf (λ n. Unit {0}) ns
any_number [] = tt
any_number (n ∷ ns) = (tt, any_number ns)

fitting_rules : (s : Schema) (defaults text : List ℕ) → IfSome s.dynamic (IsDynamic s.fields) → Rules s defaults text (λ n. Unit {0}) (IsQueryOf s) (AreQueriesOf s)
fitting_rules s defaults text d = record {
  asked = λ n a here w i b u. at_fits s text n a b;
  found = λ n f e. tt;
  leaf = λ n p a q e w h. unnamed_fits s text (text_at text p) n a q d e h;
  within = any_number defaults;
  all = tt;
  negated = λ q h. h;
  every = λ qs h l. (two qs l, h);
  some = λ qs h l. (two qs l, h);
  none = tt;
  added = λ qs q h e. more_fit s qs q h e;
  only = λ q h. h.0;
}

pub query_fits : (s : Schema) (defaults text : List ℕ) → IfSome s.dynamic (IsDynamic s.fields) → {t : Tree} {n : ℕ} (q : Sought) → IsQuery n text t → resolve s defaults text t ≡ Ok q → IsQueryOf s q
query_fits s defaults text d q x e = query_formed s defaults text (λ n. Unit {0}) (IsQueryOf s) (AreQueriesOf s) (fitting_rules s defaults text d) q x e
