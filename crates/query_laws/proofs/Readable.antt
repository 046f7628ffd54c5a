-- What a query that was read has: fields that are found, texts with a first byte where a word needs one, edges and members that
-- are values of their fields.
use Rattle.std.proofs.Common.{◌≡◌, ◌≢◌, ℕ, zero, suc, ◌+◌, ◌-◌, ◌<◌, ◌≤◌, ◌&&◌, Bool, true, false, not, List, [], ◌∷◌, ◌++◌, map, Option, Some, None, Result, Ok, Err, refl, ap, sym, ◌∙◌, subst, arith, nat_eq, eqb-true, eq-eqb, is_some, slice_get, get_or, IsUtf8}
use Rattle.std.specs.Prelude.{slice_range}
use Rattle.std.specs.Option.{IfSome}
use Rattle.std.proofs.lemmas.Str.{IsUtf8-nil}
use Rattle.std.specs.Str.{bytes_eq}
use Rattle.doc_value.specs.declared.schema.Field.{Field}
use Rattle.doc_value.specs.declared.schema.Kind.{Kind as Sort}
use Rattle.doc_value.specs.declared.schema.Schema.{Schema}
use Rattle.doc_value.specs.declared.doc.Value.{Value}
use Rattle.query_ast.specs.declared.query.Item.{Item}
use Rattle.query_ast.specs.declared.query.Edge.{Edge}
use Rattle.query_ast.specs.declared.query.Edge.TheVariants as edges
use Rattle.query_ast.specs.Meaning.{is_text}
use Rattle.query_ast.specs.Spelled.{spelled}
use Rattle.query_ast.specs.Sought.{Sought, Soughts, no_more, more}
use Rattle.query_ast.specs.Sought as sought
use Rattle.query_reader.specs.Kinds.{kind_of}
use Rattle.query_reader.specs.Asking.{Asking}
use Rattle.query_reader.specs.Asking as asks
use Rattle.query_reader.specs.Tree.{Tree}
use Rattle.query_reader.specs.Texts.{unescaped, unescaped_from, text_at, run_at}
use Rattle.query_reader.specs.Grammar.{Letters, no_letter, letter, escaped_letter, Word, Asks, a_word, a_prefix, a_quote, Items, no_item, item_blank, item_word, item_quoted, Specials, any_value, a_range, compared, a_set, IsQuery, span, member}
use Rattle.query_reader.specs.Resolve.{resolve, asked_at, asked_of, leaf_item, leaf_clause, and_then, indexed_at, bad_at, bad_value, bad_bound, bad_range, bad_members, unplaced_at, unplaced, unplaced_members, is_unplaced, place_unless, edge_of, edge_with, range_of, item_of, number_of, member_byte}
use Rattle.query_ast.specs.Queries.{has_order}
use Rattle.doc_value.specs.Documents.{PathsRise, IsBefore, IsDynamic, AreNamed}
use Rattle.doc_value.proofs.Finding.{rise-between}
use Rattle.std.proofs.lemmas.Map.Text.{is_eq-slice_cmp}
use Rattle.std.specs.Ordering.{is_eq}
use Rattle.dynamic_paths.specs.LeafTexts.{leaf_text}
use Rattle.query_reader.specs.declared.kind.Kind.TheVariants.{Escape}
use Rattle.query_reader.specs.declared.kind.Said.{Said}
use Rattle.query_reader.specs.declared.refusal.QueryError.{QueryError}
use Rattle.query_reader.specs.declared.refusal.QueryError.TheVariants as refusals
use Rattle.query_reader.specs.declared.special.Member.{Member}
use Rattle.query_reader.specs.declared.special.Bound.{Bound}
use Rattle.query_reader.specs.declared.special.Bound.TheVariants as bounds
use Rattle.query_reader.specs.declared.special.Compare.TheVariants.{AtLeast, AtMost, Above, Below}
use Rattle.query_reader.specs.declared.special.Ranged.{Ranged}
use Rattle.query_reader.specs.declared.special.Ranged.TheVariants.{Between, Compared}
use Rattle.query_reader.specs.declared.tree.Span.{Span}
use Rattle.query_reader.proofs.Steps.{slice_more}
use Rattle.query_reader.proofs.Utf8.{lossy_utf8, lossy_some}
use Rattle.query_reader.proofs.Holding.{IsHolder, holder}
use Rattle.query_laws.proofs.Leaves.{leaf_utf8, leaf_some, if_holder, holder_placed, and_no}
use Rattle.query_laws.proofs.Formed.{IsWritten, plain_written, special_written, size, EachOf, Rules, unless_none, first_none, not_true, ordered_true, query_formed}

-- each field is found by its path, a text with at least one byte
abbrev pub AreFound : List Field → Type 0
AreFound fields = (n : ℕ) (f : Field) → slice_get fields n ≡ Some f → (number_of fields f.path 0 ≡ Some n) × IsUtf8 f.path × (f.path ≢ [])

same_path : (path : List ℕ) → bytes_eq path path ≡ true
same_path [] = refl
same_path (c ∷ cs) = rw (eq-eqb c c refl) (same_path cs)

other_path : (a b : List ℕ) → IsBefore a b → bytes_eq a b ≡ false
other_path a b l = sym (is_eq-slice_cmp a b) ∙ ap is_eq l

found_from : (fs : List Field) (n k : ℕ) (f : Field) → PathsRise fs → slice_get fs n ≡ Some f → number_of fs f.path k ≡ Some (k + n)
found_from [] n k f r e = absurd (let y : ◌≡◌ {A = Option Field} None (Some f) = e in cc)
found_from (x ∷ xs) zero k f r e =
    let y : ◌≡◌ {A = Option Field} (Some x) (Some f) = e in
    let z : x ≡ f = cc in
    let t : bytes_eq x.path f.path ≡ true = ap (λ (g : Field). bytes_eq x.path g.path) (sym z) ∙ same_path x.path in
    rw t (ap Some (let i : k ≡ k + 0 = omega arith in i))
found_from (x ∷ xs) (suc n) k f r e =
    let t : bytes_eq x.path f.path ≡ false = other_path x.path f.path (rise-between (x ∷ xs) 0 (suc n) x f r refl e (omega arith)) in
    rw t (found_from xs n (suc k) f (rest x xs r) e ∙ ap Some (let i : suc k + n ≡ k + suc n = omega arith in i))
  where
    rest : (x : Field) (xs : List Field) → PathsRise (x ∷ xs) → PathsRise xs
    rest x [] r = tt
    rest x (y ∷ ys) r = r.1

-- fields whose paths rise
pub fields_found : (fields : List Field) → PathsRise fields → AreNamed fields → AreFound fields
fields_found fields r h n f e = let p = h n f e in (found_from fields n 0 f r e ∙ ap Some (let i : 0 + n ≡ n = omega arith in i), p.0, p.1)

-- a text with a first byte
abbrev pub HasFirst : List ℕ → Type 0
HasFirst w = (c : ℕ) × (cs : List ℕ) × (w ≡ c ∷ cs)

pub has_first : (w : List ℕ) → w ≢ [] → HasFirst w
has_first [] n = absurd (n refl)
has_first (c ∷ cs) n = (c, cs, refl)

-- what ends in a byte that is no backslash, or in two bytes, stands for some text
ends_some : (hidden : Bool) (xs : List ℕ) (c : ℕ) → nat_eq c 92 ≡ false → unescaped_from hidden (xs ++ c ∷ []) ≢ []
ends_some true [] c n e = absurd (let y : c ∷ [] ≡ [] = e in cc)
ends_some false [] c n e = absurd (let y : c ∷ [] ≡ [] = rw n at e in cc)
ends_some true (x ∷ xs) c n e = absurd (let y : x ∷ unescaped_from false (xs ++ c ∷ []) ≡ [] = e in cc)
ends_some false (x ∷ xs) c n e = go (ends_some true xs c n) (nat_eq x 92) refl
  where
    go : (unescaped_from true (xs ++ c ∷ []) ≢ []) → (t : Bool) → nat_eq x 92 ≡ t → ⊥
    go again true h = again (let y : unescaped_from true (xs ++ c ∷ []) ≡ [] = rw h at e in y)
    go again false h = absurd (let y : x ∷ unescaped_from false (xs ++ c ∷ []) ≡ [] = rw h at e in cc)

two_some : (hidden : Bool) (xs : List ℕ) (c d : ℕ) → unescaped_from hidden (xs ++ c ∷ d ∷ []) ≢ []
two_some true [] c d e = absurd (let y : c ∷ unescaped_from false (d ∷ []) ≡ [] = e in cc)
two_some false [] c d e = go (nat_eq c 92) refl
  where
    go : (t : Bool) → nat_eq c 92 ≡ t → ⊥
    go true h = absurd (let y : d ∷ [] ≡ [] = rw h at e in cc)
    go false h = absurd (let y : c ∷ unescaped_from false (d ∷ []) ≡ [] = rw h at e in cc)
two_some true (x ∷ xs) c d e = absurd (let y : x ∷ unescaped_from false (xs ++ c ∷ d ∷ []) ≡ [] = e in cc)
two_some false (x ∷ xs) c d e = go (two_some true xs c d) (nat_eq x 92) refl
  where
    go : (unescaped_from true (xs ++ c ∷ d ∷ []) ≢ []) → (t : Bool) → nat_eq x 92 ≡ t → ⊥
    go again true h = again (let y : unescaped_from true (xs ++ c ∷ d ∷ []) ≡ [] = rw h at e in y)
    go again false h = absurd (let y : x ∷ unescaped_from false (xs ++ c ∷ d ∷ []) ≡ [] = rw h at e in cc)

letters_up : {text : List ℕ} {i j : ℕ} {p : Bool} → Letters text i j p → i ≤ j
letters_up no_letter = omega arith
letters_up (letter l b e k) = omega (arith, letters_up l)
letters_up (escaped_letter l s b) = omega (arith, letters_up l)

no_escape : (c : ℕ) → kind_of c ≢ Escape → nat_eq c 92 ≡ false
unfolding kind_of
no_escape c n = go (nat_eq c 92) refl
  where
    go : (t : Bool) → nat_eq c 92 ≡ t → nat_eq c 92 ≡ false
    go false h = h
    go true h = absurd (n (ap kind_of (eqb-true c 92 h)))

letters_some : {text : List ℕ} {i j : ℕ} {p : Bool} → Letters text i j p → i < j → unescaped (slice_range text i j) ≢ []
letters_some no_letter l e = omega (arith, l)
letters_some {text} {i} (letter {j} q b k n) l e =
    ends_some false (slice_range text i j) (get_or text j 0) (no_escape (get_or text j 0) n) (ap unescaped (sym (slice_more text i j (letters_up q) b)) ∙ e)
letters_some {text} {i} (escaped_letter {j} q s b) l e =
    let one : slice_range text i (j + 1) ≡ slice_range text i j ++ get_or text j 0 ∷ [] = slice_more text i j (letters_up q) s.0 in
    let two : slice_range text i (j + 1 + 1) ≡ slice_range text i (j + 1) ++ get_or text (j + 1) 0 ∷ [] = slice_more text i (j + 1) (omega (arith, letters_up q)) b in
    two_some false (slice_range text i j) (get_or text j 0) (get_or text (j + 1) 0)
    (ap unescaped (sym (two ∙ ap (λ xs. xs ++ get_or text (j + 1) 0 ∷ []) one ∙ together (slice_range text i j) (get_or text j 0) (get_or text (j + 1) 0))) ∙ e)
  where
    together : (xs : List ℕ) (c d : ℕ) → (xs ++ c ∷ []) ++ d ∷ [] ≡ xs ++ c ∷ d ∷ []
    together [] c d = refl
    together (x ∷ xs) c d = ap (λ ys. x ∷ ys) (together xs c d)

-- a word stands for some text
pub word_some : {text : List ℕ} {i j : ℕ} {s : Said} → Word text i j s → HasFirst (text_at text (span i j))
word_some {text} {i} {j} w = has_first (text_at text (span i j)) (λ e. letters_some w.letters w.some (lossy_some (unescaped (slice_range text i j)) e))

-- the members of a set, whose words stand for some text
abbrev pub AreWorded : List ℕ → List Member → Type 0
AreWorded text [] = Unit {0}
AreWorded text (m ∷ ms) = (m.quoted ≡ false → HasFirst (text_at text m.place)) × AreWorded text ms

worded_more : (text : List ℕ) (ms : List Member) (m : Member) → AreWorded text ms → (m.quoted ≡ false → HasFirst (text_at text m.place)) → AreWorded text (ms ++ m ∷ [])
worded_more text [] m h w = (w, tt)
worded_more text (n ∷ ns) m h w = (h.0, worded_more text ns m h.1 w)

items_worded : {text : List ℕ} {i j : ℕ} {ms : List Member} → Items text i j ms → AreWorded text ms
items_worded no_item = tt
items_worded (item_blank q b) = items_worded q
items_worded {text} (item_word {j} {k} {ms} q w) = worded_more text ms (member j k false) (items_worded q) (λ e. word_some w)
items_worded {text} (item_quoted {j} {k} {ms} q a b c) = worded_more text ms (member (j + 1) k true) (items_worded q) (λ e. absurd (let y : true ≡ false = e in cc))

abbrev pub IsWorded : List ℕ → Asking → Type 0
IsWorded text (asks.Word s) = HasFirst (text_at text s)
IsWorded text (asks.Prefix s) = HasFirst (text_at text s)
IsWorded text (asks.OneOf n ms) = AreWorded text ms
IsWorded text _ = Unit {0}

asks_worded : {text : List ℕ} {i j : ℕ} {a : Asking} → Asks text i j a → IsWorded text a
asks_worded (a_word w c s) = word_some w
asks_worded (a_prefix w s) = word_some w
asks_worded (a_quote a q b) = tt

special_worded : {text : List ℕ} {i j : ℕ} {a : Asking} {b : Bool} → Specials text i j a b → IsWorded text a
special_worded (any_value s) = tt
special_worded (a_range o a b c d e f g h k l m) = tt
special_worded (compared a b c) = tt
special_worded (a_set a b c d e f) = items_worded e

-- a field that a query asks
pub record IsAsked (fields : List Field) (n : ℕ) (f : Field) : Type 0 where
  pub at : slice_get fields n ≡ Some f
  pub named : number_of fields f.path 0 ≡ Some n
  pub indexed : f.indexed ≡ true
  pub first : HasFirst f.path
  pub text : IsUtf8 f.path

-- an edge that some text spells
pub data IsEdgeOf (kind : Sort) : Edge → Type 0 where
  open_edge : IsEdgeOf kind edges.Unbounded
  included_edge : (t : List ℕ) {v : Value} → spelled kind t ≡ Some v → IsEdgeOf kind (edges.Included v)
  excluded_edge : (t : List ℕ) {v : Value} → spelled kind t ≡ Some v → IsEdgeOf kind (edges.Excluded v)

pub record IsItemOf (f : Field) (i : Item) : Type 0 where
  pub value : is_some (spelled f.kind i.text) ≡ true
  pub placed : i.quoted && is_unplaced f i.text ≡ false
  pub first : i.quoted ≡ false → HasFirst i.text
  pub text : IsUtf8 i.text

pub data AreItemsOf (f : Field) : List Item → Type 0 where
  no_items : AreItemsOf f []
  more_items : {i : Item} {is : List Item} → IsItemOf f i → AreItemsOf f is → AreItemsOf f (i ∷ is)

mutual
  pub data Readable (fields : List Field) : Sought → Type 0 where
    r_all : Readable fields sought.All
    r_word : {n : ℕ} {f : Field} {w : List ℕ} → IsAsked fields n f → is_some (spelled f.kind w) ≡ true → HasFirst w → IsUtf8 w → Readable fields (sought.Word n w)
    r_quoted : {n : ℕ} {f : Field} {w : List ℕ} → IsAsked fields n f → is_some (spelled f.kind w) ≡ true → is_unplaced f w ≡ false → IsUtf8 w → Readable fields (sought.Quoted n w)
    r_prefix : {n : ℕ} {f : Field} {w : List ℕ} → IsAsked fields n f → is_text f.kind ≡ true → HasFirst w → IsUtf8 w → Readable fields (sought.Prefix n w)
    r_exists : {n : ℕ} {f : Field} → IsAsked fields n f → Readable fields (sought.Exists n)
    r_range : {n : ℕ} {f : Field} {low high : Edge} → IsAsked fields n f → has_order f.kind ≡ true → IsEdgeOf f.kind low → IsEdgeOf f.kind high → Readable fields (sought.Range n low high)
    r_set : {n : ℕ} {f : Field} {is : List Item} → IsAsked fields n f → AreItemsOf f is → Readable fields (sought.AnyOf n is)
    r_not : {q : Sought} → Readable fields q → Readable fields (sought.Not q)
    r_and : {qs : Soughts} → AreReadable fields qs → 2 ≤ size qs → Readable fields (sought.And qs)
    r_or : {qs : Soughts} → AreReadable fields qs → 2 ≤ size qs → Readable fields (sought.Or qs)

  pub data AreReadable (fields : List Field) : Soughts → Type 0 where
    r_none : AreReadable fields no_more
    r_more : {q : Sought} {qs : Soughts} → Readable fields q → AreReadable fields qs → AreReadable fields (more q qs)

pub readable_more : {fields : List Field} {qs : Soughts} {q : Sought} → AreReadable fields qs → Readable fields q → AreReadable fields (and_then qs q)
readable_more r_none r = r_more r r_none
readable_more (r_more p ps) r = r_more p (readable_more ps r)

only_readable : {fields : List Field} {q : Sought} → AreReadable fields (more q no_more) → Readable fields q
only_readable (r_more r s) = r

pub edge_readable : (text : List ℕ) (kind : Sort) (closed : Bool) (b : Bound) → bad_bound text kind b ≡ None → IsEdgeOf kind (edge_of text kind closed b)
edge_readable text kind closed bounds.Unbounded e = open_edge
edge_readable text kind closed (bounds.Quoted s) e = go (spelled kind (text_at text s)) refl closed (unless_none (is_some (spelled kind (text_at text s))) (s.from - 1) e)
  where
    go : (o : Option Value) → spelled kind (text_at text s) ≡ o → (closed : Bool) → is_some (spelled kind (text_at text s)) ≡ true → IsEdgeOf kind (edge_with closed (spelled kind (text_at text s)))
    go None i c h = absurd (let y : false ≡ true = rw i at h in cc)
    go (Some v) i true h = rw i (included_edge (text_at text s) i)
    go (Some v) i false h = rw i (excluded_edge (text_at text s) i)
edge_readable text kind closed (bounds.Run s) e = go (spelled kind (run_at text s)) refl closed (unless_none (is_some (spelled kind (run_at text s))) s.from e)
  where
    go : (o : Option Value) → spelled kind (run_at text s) ≡ o → (closed : Bool) → is_some (spelled kind (run_at text s)) ≡ true → IsEdgeOf kind (edge_with closed (spelled kind (run_at text s)))
    go None i c h = absurd (let y : false ≡ true = rw i at h in cc)
    go (Some v) i true h = rw i (included_edge (run_at text s) i)
    go (Some v) i false h = rw i (excluded_edge (run_at text s) i)

range_readable : (fields : List Field) (n : ℕ) (f : Field) (text : List ℕ) (r : Ranged) → IsAsked fields n f → has_order f.kind ≡ true → bad_range text f.kind r ≡ None → Readable fields (range_of text f.kind n r)
range_readable fields n f text (Between lc low high hc) a o e =
    let p = first_none (bad_bound text f.kind low) (bad_bound text f.kind high) e in
    r_range a o (edge_readable text f.kind lc low p.0) (edge_readable text f.kind hc high p.1)
range_readable fields n f text (Compared AtLeast b) a o e = r_range a o (edge_readable text f.kind true b e) open_edge
range_readable fields n f text (Compared Above b) a o e = r_range a o (edge_readable text f.kind false b e) open_edge
range_readable fields n f text (Compared AtMost b) a o e = r_range a o open_edge (edge_readable text f.kind true b e)
range_readable fields n f text (Compared Below b) a o e = r_range a o open_edge (edge_readable text f.kind false b e)

items_readable : (f : Field) (text : List ℕ) (ms : List Member) → AreWorded text ms → bad_members text f.kind ms ≡ None → unplaced_members text f ms ≡ None → AreItemsOf f (map (item_of text) ms)
items_readable f text [] w b u = no_items
items_readable f text (m ∷ ms) w b u =
    let p = first_none (place_unless (is_some (spelled f.kind (text_at text m.place))) (member_byte m)) (bad_members text f.kind ms) b in
    let q = first_none (place_unless (not (m.quoted && is_unplaced f (text_at text m.place))) (member_byte m)) (unplaced_members text f ms) u in
    more_items (record {
      value = unless_none (is_some (spelled f.kind (text_at text m.place))) (member_byte m) p.0;
      placed = not_true (m.quoted && is_unplaced f (text_at text m.place)) (unless_none (not (m.quoted && is_unplaced f (text_at text m.place))) (member_byte m) q.0);
      first = w.0;
      text = lossy_utf8 (unescaped (slice_range text m.place.from m.place.to));
    })
    (items_readable f text ms w.1 p.1 q.1)

-- what is asked of one field
asked_readable : (fields : List Field) (n : ℕ) (f : Field) (text : List ℕ) (a : Asking) → IsAsked fields n f → IsWorded text a → bad_value text a f ≡ None → unplaced text a f ≡ None → Readable fields (asked_of text a n f)
asked_readable fields n f text asks.Any a w b u = r_exists a
asked_readable fields n f text (asks.Word s) a w b u = r_word a (unless_none (is_some (spelled f.kind (text_at text s))) s.from b) w (lossy_utf8 (unescaped (slice_range text s.from s.to)))
asked_readable fields n f text (asks.Prefix s) a w b u = r_prefix a (unless_none (is_text f.kind) s.from b) w (lossy_utf8 (unescaped (slice_range text s.from s.to)))
asked_readable fields n f text (asks.Quoted s) a w b u =
    r_quoted a (unless_none (is_some (spelled f.kind (text_at text s))) (s.from - 1) b) (not_true (is_unplaced f (text_at text s)) (unless_none (not (is_unplaced f (text_at text s))) (s.from - 1) u))
    (lossy_utf8 (unescaped (slice_range text s.from s.to)))
asked_readable fields n f text (asks.Within m r) a w b u =
    let p = ordered_true (has_order f.kind) m (bad_range text f.kind r) b in range_readable fields n f text r a p.0 p.1
asked_readable fields n f text (asks.OneOf m ms) a w b u = r_set a (items_readable f text ms w b u)

-- the number is a field's
abbrev pub IsField : List Field → ℕ → Type 0
IsField fields n = (f : Field) × (slice_get fields n ≡ Some f)

abbrev pub Within : List Field → List ℕ → Type 0
Within fields ns = EachOf (IsField fields) ns

written_worded : {text : List ℕ} {a : Asking} → IsWritten text a → IsWorded text a
written_worded (plain_written k) = asks_worded k
written_worded (special_written s) = special_worded s

at_readable : (fields : List Field) (text : List ℕ) (n : ℕ) (a : Asking) → AreFound fields → IsField fields n → IsWorded text a → indexed_at fields n ≡ true → bad_at fields text a n ≡ None → unplaced_at fields text a n ≡ None
    → Readable fields (asked_at fields text a n)
at_readable fields text n a found within w i b u =
    let f : Field = within.0 in
    let e : slice_get fields n ≡ Some f = within.1 in
    let k = found n f e in
    let ask : IsAsked fields n f = record { at = e; named = k.0; indexed = (let y : f.indexed ≡ true = rw e at i in y); first = has_first f.path k.2; text = k.1 } in
    let one : asked_at fields text a n ≡ asked_of text a n f = rw e refl in
    subst (Readable fields) (sym one) (asked_readable fields n f text a ask w (let y : bad_value text a f ≡ None = rw e at b in y) (let y : unplaced text a f ≡ None = rw e at u in y))

same_ok : (p q : Sought) → ◌≡◌ {A = Result Sought QueryError} (Ok p) (Ok q) → p ≡ q
same_ok p q e = cc

-- what is asked of a path that no field has
module _ (fields : List Field) (text path : List ℕ) (n : ℕ) (f : Field) (k : IsAsked fields n f) (h : IsHolder f) (utf : IsUtf8 path) where
  leaf_value : (w : List ℕ) → is_some (spelled f.kind w) ≡ true
  leaf_value w = ap (λ (kind : Sort). is_some (spelled kind w)) h.kind

  leaf_first : (w : List ℕ) → HasFirst (leaf_text path w)
  leaf_first w = has_first (leaf_text path w) (leaf_some path w)

  leaf_said : (s : Span) → IsUtf8 (leaf_text path (text_at text s))
  leaf_said s = leaf_utf8 path (text_at text s) utf (lossy_utf8 (unescaped (slice_range text s.from s.to)))

  leaf_items : (ms : List Member) → AreItemsOf f (map (leaf_item text path) ms)
  leaf_items [] = no_items
  leaf_items (m ∷ ms) =
      more_items (record {
        value = leaf_value (leaf_text path (text_at text m.place));
        placed = ap (λ b. m.quoted && b) (holder_placed f (leaf_text path (text_at text m.place)) h) ∙ and_no m.quoted;
        first = λ e. leaf_first (text_at text m.place);
        text = leaf_said m.place;
      })
      (leaf_items ms)

  leaf_readable : (a : Asking) (q : Sought) → leaf_clause text path n a ≡ Ok q → Readable fields q
  leaf_readable asks.Any q e = subst (Readable fields) (same_ok _ q e) (r_prefix k (ap is_text h.kind) (leaf_first []) (leaf_utf8 path [] utf IsUtf8-nil))
  leaf_readable (asks.Word s) q e = subst (Readable fields) (same_ok _ q e) (r_word k (leaf_value (leaf_text path (text_at text s))) (leaf_first (text_at text s)) (leaf_said s))
  leaf_readable (asks.Prefix s) q e = subst (Readable fields) (same_ok _ q e) (r_prefix k (ap is_text h.kind) (leaf_first (text_at text s)) (leaf_said s))
  leaf_readable (asks.Quoted s) q e = subst (Readable fields) (same_ok _ q e) (r_quoted k (leaf_value (leaf_text path (text_at text s))) (holder_placed f (leaf_text path (text_at text s)) h) (leaf_said s))
  leaf_readable (asks.Within m r) q e = absurd (let y : ◌≡◌ {A = Result Sought QueryError} (Err (refusals.BadValue m)) (Ok q) = e in cc)
  leaf_readable (asks.OneOf m ms) q e = subst (Readable fields) (same_ok _ q e) (r_set k (leaf_items ms))

unnamed_readable : (schema : Schema) (text : List ℕ) → AreFound schema.fields → IfSome schema.dynamic (IsDynamic schema.fields)
    → (n : ℕ) (s : Span) (a : Asking) (q : Sought) → schema.dynamic ≡ Some n → leaf_clause text (text_at text s) n a ≡ Ok q → Readable schema.fields q
unnamed_readable schema text found d n s a q e h =
    let r = holder schema.fields n (if_holder schema.fields schema.dynamic n d e) in
    let p = found n r.0 r.1 in
    let k : IsAsked schema.fields n r.0 = record { at = r.1; named = p.0; indexed = r.2.indexed; first = has_first r.0.path p.2; text = p.1 } in
    leaf_readable schema.fields text (text_at text s) n r.0 k r.2 (lossy_utf8 (unescaped (slice_range text s.from s.to))) a q h

readable_rules : (schema : Schema) (defaults text : List ℕ) → AreFound schema.fields → IfSome schema.dynamic (IsDynamic schema.fields) → Within schema.fields defaults
    → Rules schema defaults text (IsField schema.fields) (Readable schema.fields) (AreReadable schema.fields)
readable_rules schema defaults text found d within = record {
  asked = λ n a here w i b u. at_readable schema.fields text n a found here (written_worded w) i b u;
  found = λ n f e. (f, e);
  leaf = λ n s a q e w h. unnamed_readable schema text found d n s a q e h;
  within = within;
  all = r_all;
  negated = λ q r. r_not r;
  every = λ qs r l. r_and r l;
  some = λ qs r l. r_or r l;
  none = r_none;
  added = λ qs q r s. readable_more r s;
  only = λ q r. only_readable r;
}

-- a query that was read
pub query_readable : (schema : Schema) (defaults text : List ℕ) → AreFound schema.fields → IfSome schema.dynamic (IsDynamic schema.fields) → Within schema.fields defaults → {t : Tree} {n : ℕ} (q : Sought) → IsQuery n text t
    → resolve schema defaults text t ≡ Ok q → Readable schema.fields q
query_readable schema defaults text found d within q x e =
    query_formed schema defaults text (IsField schema.fields) (Readable schema.fields) (AreReadable schema.fields) (readable_rules schema defaults text found d within) q x e
