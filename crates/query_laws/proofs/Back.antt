-- What is printed of a query that was read is read as that query, or nests too deep.
use Rattle.std.proofs.Common.{◌≡◌, ℕ, ◌+◌, ◌-◌, ◌<◌, ◌≤◌, ◌&&◌, Bool, true, false, not, List, [], ◌∷◌, ◌++◌, length, map, Some, None, Result, Ok, Err, refl, ap, sym, ◌∙◌, subst, arith, nat_lt, lt-ltb, le-ltb, ltb-true, ltb-false, is_some, if◌then◌else◌, append_assoc, append-nil, length-append, IsUtf8, option_and_then}
use Rattle.std.specs.Option.{option_map_or}
use Rattle.doc_value.specs.declared.schema.Field.{Field}
use Rattle.doc_value.specs.declared.schema.Schema.{Schema}
use Rattle.query_ast.specs.declared.query.Item.{Item}
use Rattle.query_ast.specs.declared.query.Edge.{Edge}
use Rattle.query_ast.specs.declared.query.Edge.TheVariants as edges
use Rattle.query_ast.specs.Meaning.{is_text}
use Rattle.query_ast.specs.Spelled.{spelled}
use Rattle.query_ast.specs.Sought.{Sought, Soughts, no_more, more}
use Rattle.query_ast.specs.Sought as sought
use Rattle.query_reader.specs.Kinds.{kind_of, said}
use Rattle.query_reader.specs.Asking.{Asking}
use Rattle.query_reader.specs.Asking as asks
use Rattle.query_reader.specs.Tree.{Tree, Trees, no_trees, behind, Group, Not, And, Or}
use Rattle.query_reader.specs.Machine.{run, reads, start, state, Frame, Want, After, Behind, First, Fielded, with_operand, negated, fresh, whole, leaf}
use Rattle.query_reader.specs.Grammar.{span}
use Rattle.query_reader.specs.Texts.{text_at}
use Rattle.query_reader.specs.Resolve.{◌>>=◌, resolve, resolve_each, resolved, resolve_clause, named_clause, all_indexed, first_bad, first_unplaced, query_of, valued_clause, placed_clause, over_fields, asked_after, asked_of, and_then, bad_value, unplaced, unplaced_members, bad_members, is_unplaced, place_unless, first_of, item_of, number_of, first_byte}
use Rattle.query_ast.specs.Queries.{has_order}
use Rattle.query_reader.specs.Printed.{hides_in_quote, hiding, word_text, quote_text, Piece, Written, Spells, edge_pieces, range_pieces, opening, closing, items_text, items_rest, set_text, path_of, field_text, asked, blank_and, blank_or, bracket_depth, inner, printed, printed_all, nesting, nesting_all}
use Rattle.query_reader.specs.declared.fault.Fault.{Fault}
use Rattle.query_reader.specs.declared.fault.Fault.TheVariants as faults
use Rattle.query_reader.specs.declared.refusal.QueryError.TheVariants as refusals
use Rattle.query_reader.specs.declared.special.Ranged.TheVariants.{Between}
use Rattle.query_reader.specs.declared.tree.Span.{Span}
use Rattle.query_reader.proofs.Pieces.{spells_split, spells_written, spells_more}
use Rattle.query_reader.proofs.Rows.{count}
use Rattle.query_laws.proofs.Words.{WordRead, word_reads, Delimited, at_end, at_blank, at_close, word_delimited, word_star, word_colon, quote_shown, quote_closes, quote_behind}
use Rattle.query_laws.proofs.Edges.{edge_bytes, bound_at, ItemText, item_bytes, member_at, rest_bytes, all_bytes, rest_members, all_members, set_bytes, set_shown, range_bytes, range_shown, high_from, begins, shut}
use Rattle.query_laws.proofs.Spelling.{word_at, quote_at, is_closed, edge_spelled, item_spelled}
use Rattle.query_laws.proofs.Readable.{HasFirst, IsAsked, IsEdgeOf, AreItemsOf, no_items, more_items, Readable, r_all, r_word, r_quoted, r_prefix, r_exists, r_range, r_set, r_not, r_and, r_or, AreReadable, r_none, r_more}
use Rattle.query_laws.proofs.Formed.{size}

-- the members of a set
pub record SpellsItems (f : Field) (is : List Item) : Type 0 where
  pub shown : List ItemText
  pub rest : items_rest is ≡ rest_bytes shown
  pub all : items_text is ≡ all_bytes shown
  pub means_rest : (text before after : List ℕ) (j : ℕ) → text ≡ before ++ (rest_bytes shown ++ after) → j ≡ length before
      → (map (item_of text) (rest_members j shown) ≡ is) × (bad_members text f.kind (rest_members j shown) ≡ None) × (unplaced_members text f (rest_members j shown) ≡ None)
  pub means_all : (text before after : List ℕ) (j : ℕ) → text ≡ before ++ (all_bytes shown ++ after) → j ≡ length before
      → (map (item_of text) (all_members j shown) ≡ is) × (bad_members text f.kind (all_members j shown) ≡ None) × (unplaced_members text f (all_members j shown) ≡ None)

-- the second of two parts
later : (text pre x y post : List ℕ) → text ≡ pre ++ ((x ++ y) ++ post) → text ≡ (pre ++ x) ++ (y ++ post)
later text pre x y post e = e ∙ ap (λ t. pre ++ t) (append_assoc x y post) ∙ sym (append_assoc pre x (y ++ post))

sooner : (text pre x y post : List ℕ) → text ≡ pre ++ ((x ++ y) ++ post) → text ≡ pre ++ (x ++ (y ++ post))
sooner text pre x y post e = e ∙ ap (λ t. pre ++ t) (append_assoc x y post)

items_spelled : (f : Field) (is : List Item) → AreItemsOf f is → SpellsItems f is
items_spelled f [] no_items = record {
  shown = [];
  rest = refl;
  all = refl;
  means_rest = λ text before after j e a. (refl, refl, refl);
  means_all = λ text before after j e a. (refl, refl, refl);
}
items_spelled f (i ∷ is) (more_items h hs) =
    let s = item_spelled f i h in
    let r = items_spelled f is hs in
    let first : (text before after : List ℕ) (j : ℕ) → text ≡ before ++ ((item_bytes s.shown ++ rest_bytes r.shown) ++ after) → j ≡ length before
    → (map (item_of text) (member_at j s.shown ∷ rest_members (j + length (item_bytes s.shown)) r.shown) ≡ i ∷ is)
    × (bad_members text f.kind (member_at j s.shown ∷ rest_members (j + length (item_bytes s.shown)) r.shown) ≡ None)
    × (unplaced_members text f (member_at j s.shown ∷ rest_members (j + length (item_bytes s.shown)) r.shown) ≡ None) =
    λ text before after j e a.
    let m = s.means text before (rest_bytes r.shown ++ after) j (sooner text before (item_bytes s.shown) (rest_bytes r.shown) after e) a in
    let n = r.means_rest text (before ++ item_bytes s.shown) after (j + length (item_bytes s.shown)) (later text before (item_bytes s.shown) (rest_bytes r.shown) after e) (omega (arith, a, length-append before (item_bytes s.shown))) in
    ((λ k. m.0 k ∷ n.0 k), rw (m.1, n.1) refl, rw (m.2, n.2) refl) in
    record {
      shown = s.shown ∷ r.shown;
      rest = (λ k. 32 ∷ (s.are k ++ r.rest k));
      all = (λ k. s.are k ++ r.rest k);
      means_rest = λ text before after j e a.
          first text (before ++ 32 ∷ []) after (j + 1) (e ∙ sym (append_assoc before (32 ∷ []) ((item_bytes s.shown ++ rest_bytes r.shown) ++ after))) (omega (arith, a, length-append before (32 ∷ [])));
      means_all = first;
    }

-- a fault of nesting
abbrev pub IsDeep : Result Tree Fault → Type 0
IsDeep r = (at : ℕ) × (r ≡ Err (faults.TooDeep at))

deep_as : (r s : Result Tree Fault) → r ≡ s → IsDeep s → IsDeep r
deep_as r s e d = (d.0, e ∙ d.1)

-- the operators, as they are printed
abbrev level : ℕ → Trees → Trees → Frame
level d ors ands = record { ors = ors; ands = ands; negations = 0; base = d; deep = d }

all_run : (i : ℕ) (f : Frame) (fs : List Frame) (rest : List ℕ) → run i (state (Want true) f fs) (42 ∷ rest) ≡ run (i + 1) (state (After false) (with_operand f (leaf None asks.Any)) fs) rest
unfolding run kind_of
all_run i f fs rest = refl

and_run : (n : ℕ) (b : Bool) (d : ℕ) (ors ands : Trees) (fs : List Frame) (rest : List ℕ)
    → run n (state (After b) (level d ors ands) fs) (32 ∷ 65 ∷ 78 ∷ 68 ∷ 32 ∷ rest) ≡ run (n + 1 + 1 + 1 + 1 + 1) (state (Want true) (level d ors ands) fs) rest
unfolding run kind_of said
and_run n b d ors ands fs rest = refl

or_run : (n : ℕ) (b : Bool) (d : ℕ) (ors : Trees) (t : Tree) (fs : List Frame) (rest : List ℕ)
    → run n (state (After b) (level d ors (behind no_trees t)) fs) (32 ∷ 79 ∷ 82 ∷ 32 ∷ rest) ≡ run (n + 1 + 1 + 1 + 1) (state (Want true) (level d (behind ors t) no_trees) fs) rest
unfolding run kind_of said
or_run n b d ors t fs rest = refl

not_run : (n : ℕ) (f : Frame) (fs : List Frame) (rest : List ℕ) → f.deep < 64
    → run n (state (Want true) f fs) (78 ∷ 79 ∷ 84 ∷ 32 ∷ rest) ≡ run (n + 1 + 1 + 1 + 1) (state (Want true) (negated f) fs) rest
unfolding run kind_of said
not_run n f fs rest l = rw (lt-ltb f.deep 64 l) refl

not_deep : (n : ℕ) (f : Frame) (fs : List Frame) (rest : List ℕ) → 64 ≤ f.deep → run n (state (Want true) f fs) (78 ∷ 79 ∷ 84 ∷ 32 ∷ rest) ≡ Err (faults.TooDeep n)
unfolding run kind_of said
not_deep n f fs rest l = rw (le-ltb f.deep 64 l) refl

open_run : (n : ℕ) (f : Frame) (fs : List Frame) (rest : List ℕ) → f.deep < 64
    → run n (state (Want true) f fs) (40 ∷ rest) ≡ run (n + 1) (state (Want true) (fresh (f.deep + 1)) (f ∷ fs)) rest
unfolding run kind_of
open_run n f fs rest l = rw (lt-ltb f.deep 64 l) refl

open_deep : (n : ℕ) (f : Frame) (fs : List Frame) (rest : List ℕ) → 64 ≤ f.deep → run n (state (Want true) f fs) (40 ∷ rest) ≡ Err (faults.TooDeep n)
unfolding run kind_of
open_deep n f fs rest l = rw (le-ltb f.deep 64 l) refl

close_run : (n : ℕ) (b : Bool) (g : Frame) (t : Tree) (f : Frame) (fs : List Frame) (rest : List ℕ) → whole g ≡ Some t
    → run n (state (After b) g (f ∷ fs)) (41 ∷ rest) ≡ run (n + 1) (state (After true) (with_operand f (Group t)) fs) rest
unfolding run kind_of
close_run n b g t f fs rest e = rw e refl

end_run : (n : ℕ) (b : Bool) (g : Frame) (t : Tree) → whole g ≡ Some t → run n (state (After b) g []) [] ≡ Ok t
unfolding run
end_run n b g t e = rw e refl

star_behind : (x : Span) (i : ℕ) (f : Frame) (fs : List Frame) (rest : List ℕ) → run i (state (Behind x) f fs) (42 ∷ rest) ≡ run (i + 1) (state (After false) (with_operand f (leaf (Some x) asks.Any)) fs) rest
unfolding run kind_of
star_behind x i f fs rest = refl

-- pieces without brackets
bare : (ps : List Piece) (w : List ℕ) → Spells (Written [] ∷ ps ++ Written [] ∷ []) w → Spells ps w
bare ps w h =
    let s = spells_split ps (Written [] ∷ []) h.0 h.2 in
    let e : s.1 ≡ [] = spells_written [] s.1 s.4 in
    subst (Spells ps) (sym (h.1 ∙ s.2 ∙ ap (λ t. s.0 ++ t) e ∙ append-nil s.0)) s.3

abbrev join : Soughts → Soughts → Soughts
join no_more qs = qs
join (more p ps) qs = more p (join ps qs)

join_more : (dq : Soughts) (q : Sought) (qs : Soughts) → join (and_then dq q) qs ≡ join dq (more q qs)
join_more no_more q qs = refl
join_more (more p ps) q qs = ap (more p) (join_more ps q qs)

join_none : (dq : Soughts) → join dq no_more ≡ dq
join_none no_more = refl
join_none (more p ps) = ap (more p) (join_none ps)

-- the members of an And and of an Or, as they stand in the machine
whole_and : (d : ℕ) (ts : Trees) → 2 ≤ count ts → whole (level d no_trees ts) ≡ Some (And ts)
whole_and d no_trees l = absurd (omega (arith, l))
whole_and d (behind no_trees t) l = absurd (omega (arith, l))
whole_and d (behind (behind ts u) t) l = refl

whole_or : (d : ℕ) (ts : Trees) (t : Tree) → 1 ≤ count ts → whole (level d ts (behind no_trees t)) ≡ Some (Or (behind ts t))
whole_or d no_trees t l = absurd (omega (arith, l))
whole_or d (behind ts u) t l = refl

-- a list of pieces that begins with no brackets
unbare : (ps : List Piece) (w : List ℕ) → Spells ps w → Spells (Written [] ∷ ps ++ Written [] ∷ []) w
unbare ps w h = (w, refl, subst (Spells (ps ++ Written [] ∷ [])) (append-nil w) (spells_more ps (Written [] ∷ []) w [] h ([], refl, refl)))

-- what stands behind a member
members_delimited : (fields : List Field) (between : List ℕ) (qs : Soughts) (u post : List ℕ) → Spells (printed_all fields (32 ∷ between) (32 ∷ between) qs) u → Delimited post → Delimited (u ++ post)
members_delimited fields between no_more u post s d = subst (λ u. Delimited (u ++ post)) (sym s) d
members_delimited fields between (more q qs) u post s d = subst (λ u. Delimited (u ++ post)) (sym s.1) at_blank

module _ (schema : Schema) (others text : List ℕ) where
  -- an operand as it was printed at a place
  pub record Back (q : Sought) (i : ℕ) (w post : List ℕ) : Type 0 where
    pub tree : Tree
    pub free : Bool
    pub means : resolve schema others text tree ≡ Ok q
    pub runs : (f : Frame) (fs : List Frame) → bracket_depth q + nesting q + f.deep ≤ 64 → run i (state (Want true) f fs) (w ++ post) ≡ run (i + length w) (state (After free) (with_operand f tree) fs) post
    pub deep : (f : Frame) (fs : List Frame) → f.deep ≤ 64 → 64 < bracket_depth q + nesting q + f.deep → IsDeep (run i (state (Want true) f fs) (w ++ post))

  -- what is asked of a field means the query
  abbrev Means : ℕ → Field → Sought → Asking → Type 0
  Means n g q a = (bad_value text a g ≡ None) × (unplaced text a g ≡ None) × (asked_of text a n g ≡ q)

  clause_back : (n : ℕ) (g : Field) (q : Sought) (s : Span) (a : Asking) → IsAsked schema.fields n g → text_at text s ≡ g.path → Means n g q a → resolve_clause schema others text (Some s) a ≡ Ok q
  clause_back n g q s a k e m =
      let pos = first_byte a s.from in
      let found : number_of schema.fields (text_at text s) 0 ≡ Some n = ap (λ p. number_of schema.fields p 0) e ∙ k.named in
      let indexed : all_indexed schema.fields (n ∷ []) ≡ true = ap (λ o. option_map_or (λ f. f.indexed) o true && true) k.at ∙ ap (λ b. b && true) k.indexed in
      let good : first_bad schema.fields text a (n ∷ []) ≡ None = ap (λ o. first_of (option_and_then (bad_value text a) o) None) k.at ∙ ap (λ o. first_of o None) m.0 in
      let placed : first_unplaced schema.fields text a (n ∷ []) ≡ None = ap (λ o. first_of (option_and_then (unplaced text a) o) None) k.at ∙ ap (λ o. first_of o None) m.1 in
      let one : asked_after schema.fields text no_more a (n ∷ []) ≡ more q no_more = ap (λ o. more (option_map_or (asked_of text a n) o sought.Nothing) no_more) k.at ∙ ap (λ q. more q no_more) m.2 in
      ap (λ o. named_clause schema others text o s a) found
      ∙ ap (λ b. if b then valued_clause schema.fields text a pos (n ∷ []) (first_bad schema.fields text a (n ∷ [])) else Err (refusals.NotIndexed pos)) indexed
      ∙ ap (valued_clause schema.fields text a pos (n ∷ [])) good
      ∙ ap (placed_clause schema.fields text a pos (n ∷ [])) placed
      ∙ ap (λ qs. over_fields qs pos) one

  named_back : (n : ℕ) (g : Field) (q : Sought) (c : ℕ) (cs a : List ℕ) (ask : ℕ → Asking) (b : Bool) → IsAsked schema.fields n g → g.path ≡ c ∷ cs → bracket_depth q + nesting q ≡ 0
      → (pre post : List ℕ) (i : ℕ) → text ≡ pre ++ (((word_text (c ∷ cs) ++ 58 ∷ []) ++ a) ++ post) → i ≡ length pre
      → ((x : Span) (j : ℕ) (f : Frame) (fs : List Frame) → run j (state (Behind x) f fs) (a ++ post) ≡ run (j + length a) (state (After b) (with_operand f (leaf (Some x) (ask j))) fs) post)
      → ((before : List ℕ) (j : ℕ) → text ≡ before ++ (a ++ post) → j ≡ length before → Means n g q (ask j))
      → Back q i ((word_text (c ∷ cs) ++ 58 ∷ []) ++ a) post
  unfolding WordRead
  named_back n g q c cs a ask b k p flat pre post i e at runs means =
      let wt = word_text (c ∷ cs) in
      let utf : IsUtf8 (c ∷ cs) = subst IsUtf8 p k.text in
      let name : text ≡ pre ++ (wt ++ (58 ∷ (a ++ post))) = e ∙ ap (λ t. pre ++ t) (append_assoc (wt ++ 58 ∷ []) a post ∙ append_assoc wt (58 ∷ []) (a ++ post)) in
      let back : text ≡ (pre ++ (wt ++ 58 ∷ [])) ++ (a ++ post) = later text pre (wt ++ 58 ∷ []) a post e in
      record {
        tree = leaf (Some (span i (i + length wt))) (ask (i + length wt + 1));
        free = b;
        means = clause_back n g q (span i (i + length wt)) (ask (i + length wt + 1)) k (word_at text pre (58 ∷ (a ++ post)) c cs i (i + length wt) utf name at refl ∙ sym p)
            (means (pre ++ (wt ++ 58 ∷ [])) (i + length wt + 1) back (omega (arith, at, length-append pre (wt ++ 58 ∷ []), length-append wt (58 ∷ []))));
        runs = λ f fs l.
            let w : WordRead (Want true) First i f fs (i + length wt) wt (58 ∷ (a ++ post)) = word_reads (Want true) First i f fs (λ c. refl) refl c cs (58 ∷ (a ++ post)) (i + length wt) refl in
            ap (run i (state (Want true) f fs)) (append_assoc (wt ++ 58 ∷ []) a post ∙ append_assoc wt (58 ∷ []) (a ++ post))
            ∙ w.3
            ∙ word_colon (a ++ post) i (i + length wt) wt w.0 f fs w.1
            ∙ runs (span i (i + length wt)) (i + length wt + 1) f fs
            ∙ ap (λ k. run k (state (After b) (with_operand f (leaf (Some (span i (i + length wt))) (ask (i + length wt + 1)))) fs) post)
            (let y : i + length wt + 1 + length a ≡ i + length ((wt ++ 58 ∷ []) ++ a) = omega (arith, length-append (wt ++ 58 ∷ []) a, length-append wt (58 ∷ [])) in y);
        deep = λ f fs l m. absurd (omega (arith, l, m, flat));
      }

  -- a field and what is asked of it
  field_is : (n : ℕ) (g : Field) → IsAsked schema.fields n g → path_of schema.fields n ≡ g.path
  field_is n g k = rw k.at refl

  field_back : (n : ℕ) (g : Field) (q : Sought) (a : List ℕ) (ask : ℕ → Asking) (b : Bool) → IsAsked schema.fields n g → bracket_depth q + nesting q ≡ 0
      → (w pre post : List ℕ) (i : ℕ) → w ≡ field_text schema.fields n ++ a → text ≡ pre ++ (w ++ post) → i ≡ length pre
      → ((x : Span) (j : ℕ) (f : Frame) (fs : List Frame) → run j (state (Behind x) f fs) (a ++ post) ≡ run (j + length a) (state (After b) (with_operand f (leaf (Some x) (ask j))) fs) post)
      → ((before : List ℕ) (j : ℕ) → text ≡ before ++ (a ++ post) → j ≡ length before → Means n g q (ask j))
      → Back q i w post
  field_back n g q a ask b k flat w pre post i is e at runs means =
      let p = k.first in
      let same : w ≡ (word_text (p.0 ∷ p.1) ++ 58 ∷ []) ++ a = is ∙ ap (λ t. (word_text t ++ 58 ∷ []) ++ a) (field_is n g k ∙ p.2) in
      subst (λ w. Back q i w post) (sym same)
      (named_back n g q p.0 p.1 a ask b k p.2 flat pre post i (e ∙ ap (λ w. pre ++ (w ++ post)) same) at runs means)

  -- a word, a prefix and a quoted text
  word_back : (n : ℕ) (g : Field) (v : List ℕ) → IsAsked schema.fields n g → is_some (spelled g.kind v) ≡ true → HasFirst v → IsUtf8 v
      → (w pre post : List ℕ) (i : ℕ) → Spells (asked schema.fields n (word_text v)) w → text ≡ pre ++ (w ++ post) → i ≡ length pre → Delimited post → Back (sought.Word n v) i w post
  unfolding WordRead
  word_back n g v k h p u w pre post i s e at d =
      let wt = word_text (p.0 ∷ p.1) in
      let is : w ≡ field_text schema.fields n ++ wt = s.1 ∙ ap (λ t. field_text schema.fields n ++ t) (spells_written (word_text v) s.0 s.2 ∙ ap word_text p.2) in
      field_back n g (sought.Word n v) wt (λ j. asks.Word (span j (j + length wt))) false k refl w pre post i is e at
      (λ x j f fs.
      let r : WordRead (Behind x) (Fielded x) j f fs (j + length wt) wt post = word_reads (Behind x) (Fielded x) j f fs (λ c. refl) refl p.0 p.1 post (j + length wt) refl in
      r.3 ∙ word_delimited d x j (j + length wt) wt r.0 f fs r.1 r.2)
      (λ before j e a.
      let z : text_at text (span j (j + length wt)) ≡ v = word_at text before post p.0 p.1 j (j + length wt) (subst IsUtf8 p.2 u) e a refl ∙ sym p.2 in
      (ap (λ t. place_unless (is_some (spelled g.kind t)) j) z ∙ ap (λ b. place_unless b j) h, refl, ap (sought.Word n) z))

  prefix_back : (n : ℕ) (g : Field) (v : List ℕ) → IsAsked schema.fields n g → is_text g.kind ≡ true → HasFirst v → IsUtf8 v
      → (w pre post : List ℕ) (i : ℕ) → Spells (asked schema.fields n (word_text v ++ 42 ∷ [])) w → text ≡ pre ++ (w ++ post) → i ≡ length pre → Delimited post → Back (sought.Prefix n v) i w post
  unfolding WordRead
  prefix_back n g v k h p u w pre post i s e at d =
      let wt = word_text (p.0 ∷ p.1) in
      let is : w ≡ field_text schema.fields n ++ (wt ++ 42 ∷ []) = s.1 ∙ ap (λ t. field_text schema.fields n ++ t) (spells_written (word_text v ++ 42 ∷ []) s.0 s.2 ∙ ap (λ v. word_text v ++ 42 ∷ []) p.2) in
      field_back n g (sought.Prefix n v) (wt ++ 42 ∷ []) (λ j. asks.Prefix (span j (j + length wt))) false k refl w pre post i is e at
      (λ x j f fs.
      let r : WordRead (Behind x) (Fielded x) j f fs (j + length wt) wt (42 ∷ post) = word_reads (Behind x) (Fielded x) j f fs (λ c. refl) refl p.0 p.1 (42 ∷ post) (j + length wt) refl in
      ap (run j (state (Behind x) f fs)) (append_assoc wt (42 ∷ []) post) ∙ r.3 ∙ word_star post x j (j + length wt) wt r.0 f fs r.1
      ∙ ap (λ k. run k (state (After false) (with_operand f (leaf (Some x) (asks.Prefix (span j (j + length wt))))) fs) post) (let y : j + length wt + 1 ≡ j + length (wt ++ 42 ∷ []) = omega (arith, length-append wt (42 ∷ [])) in y))
      (λ before j e a.
      let z : text_at text (span j (j + length wt)) ≡ v = word_at text before (42 ∷ post) p.0 p.1 j (j + length wt) (subst IsUtf8 p.2 u) (sooner text before wt (42 ∷ []) post e) a refl ∙ sym p.2 in
      (ap (λ b. place_unless b j) h, refl, ap (sought.Prefix n) z))

  quoted_back : (n : ℕ) (g : Field) (v : List ℕ) → IsAsked schema.fields n g → is_some (spelled g.kind v) ≡ true → is_unplaced g v ≡ false → IsUtf8 v
      → (w pre post : List ℕ) (i : ℕ) → Spells (asked schema.fields n (quote_text v)) w → text ≡ pre ++ (w ++ post) → i ≡ length pre → Back (sought.Quoted n v) i w post
  quoted_back n g v k h p u w pre post i s e at =
      let hv = hiding hides_in_quote v in
      let is : w ≡ field_text schema.fields n ++ quote_text v = s.1 ∙ ap (λ t. field_text schema.fields n ++ t) (spells_written (quote_text v) s.0 s.2) in
      field_back n g (sought.Quoted n v) (quote_text v) (λ j. asks.Quoted (span (j + 1) (j + 1 + length hv))) false k refl w pre post i is e at
      (λ x j f fs.
      ap (λ xs. run j (state (Behind x) f fs) (34 ∷ xs)) (append_assoc hv (34 ∷ []) post)
      ∙ quote_behind x j f fs (hv ++ (34 ∷ post))
      ∙ quote_shown v (34 ∷ post) (Fielded x) (j + 1) (j + 1) (j + 1 + length hv) f fs refl
      ∙ quote_closes (Fielded x) (j + 1) (j + 1 + length hv) f fs post
      ∙ ap (λ k. run k (state (After false) (with_operand f (leaf (Some x) (asks.Quoted (span (j + 1) (j + 1 + length hv))))) fs) post)
      (let y : j + 1 + length hv + 1 ≡ j + length (quote_text v) = omega (arith, length-append hv (34 ∷ [])) in y))
      (λ before j e a.
      let z : text_at text (span (j + 1) (j + 1 + length hv)) ≡ v = quote_at text before post v j u e a in (
        ap (λ t. place_unless (is_some (spelled g.kind t)) (j + 1 - 1)) z ∙ ap (λ b. place_unless b (j + 1 - 1)) h,
        ap (λ t. place_unless (not (is_unplaced g t)) (j + 1 - 1)) z ∙ ap (λ b. place_unless (not b) (j + 1 - 1)) p,
        ap (sought.Quoted n) z,
      ))

  exists_back : (n : ℕ) (g : Field) → IsAsked schema.fields n g
      → (w pre post : List ℕ) (i : ℕ) → Spells (asked schema.fields n (42 ∷ [])) w → text ≡ pre ++ (w ++ post) → i ≡ length pre → Back (sought.Exists n) i w post
  exists_back n g k w pre post i s e at =
      let is : w ≡ field_text schema.fields n ++ (42 ∷ []) = s.1 ∙ ap (λ t. field_text schema.fields n ++ t) (spells_written (42 ∷ []) s.0 s.2) in
      field_back n g (sought.Exists n) (42 ∷ []) (λ j. asks.Any) false k refl w pre post i is e at
      (λ x j f fs. star_behind x j f fs post) (λ before j e a. (refl, refl, refl))

  set_back : (n : ℕ) (g : Field) (items : List Item) → IsAsked schema.fields n g → AreItemsOf g items
      → (w pre post : List ℕ) (i : ℕ) → Spells (asked schema.fields n (set_text items)) w → text ≡ pre ++ (w ++ post) → i ≡ length pre → Back (sought.AnyOf n items) i w post
  set_back n g items k h w pre post i s e at =
      let t = items_spelled g items h in
      let same : set_text items ≡ set_bytes t.shown = (λ k. 73 ∷ 78 ∷ 32 ∷ 91 ∷ t.all k ++ 93 ∷ []) in
      let is : w ≡ field_text schema.fields n ++ set_bytes t.shown = s.1 ∙ ap (λ t. field_text schema.fields n ++ t) (spells_written (set_text items) s.0 s.2 ∙ same) in
      field_back n g (sought.AnyOf n items) (set_bytes t.shown) (λ j. asks.OneOf j (all_members (j + 4) t.shown)) true k refl w pre post i is e at
      (λ x j f fs. set_shown t.shown x j (j + length (set_bytes t.shown)) f fs post refl)
      (λ before j e a.
      let inside : text ≡ (before ++ 73 ∷ 78 ∷ 32 ∷ 91 ∷ []) ++ (all_bytes t.shown ++ (93 ∷ post)) =
      e ∙ ap (λ xs. before ++ (73 ∷ 78 ∷ 32 ∷ 91 ∷ xs)) (append_assoc (all_bytes t.shown) (93 ∷ []) post) ∙ sym (append_assoc before (73 ∷ 78 ∷ 32 ∷ 91 ∷ []) (all_bytes t.shown ++ (93 ∷ post))) in
      let m = t.means_all text (before ++ 73 ∷ 78 ∷ 32 ∷ 91 ∷ []) (93 ∷ post) (j + 4) inside (omega (arith, a, length-append before (73 ∷ 78 ∷ 32 ∷ 91 ∷ []))) in
      (m.1, m.2, ap (sought.AnyOf n) m.0))

  opens : (e : Edge) → opening e ≡ begins (is_closed e) ∷ []
  opens (edges.Excluded v) = refl
  opens (edges.Included v) = refl
  opens edges.Unbounded = refl

  closes : (e : Edge) → closing e ≡ shut (is_closed e) ∷ []
  closes (edges.Excluded v) = refl
  closes (edges.Included v) = refl
  closes edges.Unbounded = refl

  range_back : (n : ℕ) (g : Field) (low high : Edge) → IsAsked schema.fields n g → has_order g.kind ≡ true → IsEdgeOf g.kind low → IsEdgeOf g.kind high
      → (w pre post : List ℕ) (i : ℕ) → Spells (Written (field_text schema.fields n) ∷ range_pieces low high) w → text ≡ pre ++ (w ++ post) → i ≡ length pre → Back (sought.Range n low high) i w post
  range_back n g low high k o hl hh w pre post i s e at =
      let p = spells_split (edge_pieces low) (Written (32 ∷ 84 ∷ 79 ∷ 32 ∷ []) ∷ (edge_pieces high ++ (Written (closing high) ∷ []))) s.2.0 s.2.2 in
      let q = spells_split (edge_pieces high) (Written (closing high) ∷ []) p.4.0 p.4.2 in
      let l = edge_spelled g.kind low p.0 o hl p.3 in
      let h = edge_spelled g.kind high q.0 o hh q.3 in
      let c = is_closed low in
      let d = is_closed high in
      let bytes = range_bytes (is_closed low) l.edge h.edge (is_closed high) in
      let same : s.0 ≡ range_bytes (is_closed low) l.edge h.edge (is_closed high) =
      s.2.1 ∙ (λ k. opens low k ++ p.2 k) ∙ ap (λ r. begins (is_closed low) ∷ (p.0 ++ r)) p.4.1
      ∙ (λ k. begins (is_closed low) ∷ (l.are k ++ (32 ∷ (84 ∷ (79 ∷ (32 ∷ q.2 k))))))
      ∙ (λ k. begins (is_closed low) ∷ (edge_bytes l.edge ++ (32 ∷ (84 ∷ (79 ∷ (32 ∷ (h.are k ++ (spells_written (closing high) q.1 q.4 ∙ closes high) k))))))) in
      let is : w ≡ field_text schema.fields n ++ bytes = s.1 ∙ ap (λ t. field_text schema.fields n ++ t) same in
      field_back n g (sought.Range n low high) bytes (λ j. asks.Within j (Between c (bound_at (j + 1) l.edge) (bound_at (high_from j l.edge) h.edge) d)) true k refl w pre post i is e at
      (λ x j f fs. range_shown c l.edge h.edge d x j (j + length bytes) f fs post refl)
      (λ before j e a.
      let tail = 32 ∷ (84 ∷ (79 ∷ (32 ∷ (edge_bytes h.edge ++ shut d ∷ [])))) in
      let first : text ≡ (before ++ begins c ∷ []) ++ (edge_bytes l.edge ++ (tail ++ post)) =
      e ∙ ap (λ xs. before ++ (begins c ∷ xs)) (append_assoc (edge_bytes l.edge) tail post) ∙ sym (append_assoc before (begins c ∷ []) (edge_bytes l.edge ++ (tail ++ post))) in
      let ml = l.means text (before ++ begins c ∷ []) (tail ++ post) (j + 1) first (omega (arith, a, length-append before (begins c ∷ []))) in
      let ahead : text ≡ (((before ++ begins c ∷ []) ++ edge_bytes l.edge) ++ (32 ∷ (84 ∷ (79 ∷ (32 ∷ []))))) ++ (edge_bytes h.edge ++ (shut d ∷ post)) =
      first ∙ sym (append_assoc (before ++ begins c ∷ []) (edge_bytes l.edge) (tail ++ post))
      ∙ ap (λ xs. ((before ++ begins c ∷ []) ++ edge_bytes l.edge) ++ (32 ∷ (84 ∷ (79 ∷ (32 ∷ xs))))) (append_assoc (edge_bytes h.edge) (shut d ∷ []) post)
      ∙ sym (append_assoc ((before ++ begins c ∷ []) ++ edge_bytes l.edge) (32 ∷ (84 ∷ (79 ∷ (32 ∷ [])))) (edge_bytes h.edge ++ (shut d ∷ post))) in
      let mh = h.means text (((before ++ begins c ∷ []) ++ edge_bytes l.edge) ++ (32 ∷ (84 ∷ (79 ∷ (32 ∷ []))))) (shut d ∷ post) (high_from j l.edge) ahead
      (omega (arith, a, length-append before (begins c ∷ []), length-append (before ++ begins c ∷ []) (edge_bytes l.edge), length-append ((before ++ begins c ∷ []) ++ edge_bytes l.edge) (32 ∷ (84 ∷ (79 ∷ (32 ∷ [])))))) in
      (rw (o, ml.0, mh.0) refl, refl, (λ k. sought.Range n (ml.1 k) (mh.1 k))))

  not_back : (q : Sought) (w rest post : List ℕ) (i : ℕ) → w ≡ 78 ∷ 79 ∷ 84 ∷ 32 ∷ rest → Back q (i + 4) rest post → Back (sought.Not q) i w post
  not_back q w rest post i e b =
      record {
        tree = Not b.tree;
        free = b.free;
        means = ap (λ r. r >>= λ q. Ok (sought.Not q)) b.means;
        runs = λ f fs l.
            ap (λ w. run i (state (Want true) f fs) (w ++ post)) e
            ∙ not_run i f fs (rest ++ post) (omega (arith, l))
            ∙ ap (λ k. run k (state (Want true) (negated f) fs) (rest ++ post)) (let y : i + 1 + 1 + 1 + 1 ≡ i + 4 = omega arith in y)
            ∙ b.runs (negated f) fs (omega (arith, l))
            ∙ ap (λ k. run k (state (After b.free) (with_operand (negated f) b.tree) fs) post) (let y : i + 4 + length rest ≡ i + length w = omega (arith, ap length e) in y);
        deep = λ f fs l m. sunk f fs l m (nat_lt f.deep 64) refl;
      }
    where
      sunk : (f : Frame) (fs : List Frame) → f.deep ≤ 64 → 64 < bracket_depth (sought.Not q) + nesting (sought.Not q) + f.deep → (t : Bool) → nat_lt f.deep 64 ≡ t → IsDeep (run i (state (Want true) f fs) (w ++ post))
      sunk f fs l m true h =
          let below : f.deep < 64 = ltb-true f.deep 64 h in
          deep_as (run i (state (Want true) f fs) (w ++ post)) (run (i + 4) (state (Want true) (negated f) fs) (rest ++ post))
          (ap (λ w. run i (state (Want true) f fs) (w ++ post)) e ∙ not_run i f fs (rest ++ post) below ∙ ap (λ k. run k (state (Want true) (negated f) fs) (rest ++ post)) (let y : i + 1 + 1 + 1 + 1 ≡ i + 4 = omega arith in y))
          (b.deep (negated f) fs (omega (arith, below)) (omega (arith, m)))
      sunk f fs l m false h =
          let full : 64 ≤ f.deep = ltb-false f.deep 64 h in
          (i, ap (λ w. run i (state (Want true) f fs) (w ++ post)) e ∙ not_deep i f fs (rest ++ post) full)

  -- the members of an And or an Or, as they were printed at a place
  record Chain (q : Sought) (i : ℕ) (w post : List ℕ) : Type 0 where
    tree : Tree
    means : resolve schema others text tree ≡ Ok q
    runs : (d : ℕ) (fs : List Frame) → nesting q + d ≤ 64
        → (g : Frame) × (b : Bool) × (whole g ≡ Some tree) × (run i (state (Want true) (fresh d) fs) (w ++ post) ≡ run (i + length w) (state (After b) g fs) post)
    deep : (d : ℕ) (fs : List Frame) → d ≤ 64 → 64 < nesting q + d → IsDeep (run i (state (Want true) (fresh d) fs) (w ++ post))

  group_back : (q : Sought) (w v post : List ℕ) (i : ℕ) → bracket_depth q ≡ 1 → w ≡ 40 ∷ (v ++ 41 ∷ []) → Chain q (i + 1) v (41 ∷ post) → Back q i w post
  group_back q w v post i one e c =
      let same : w ++ post ≡ 40 ∷ (v ++ (41 ∷ post)) = ap (λ w. w ++ post) e ∙ ap (λ t. 40 ∷ t) (append_assoc v (41 ∷ []) post) in
      record {
        tree = Group c.tree;
        free = true;
        means = c.means;
        runs = λ f fs l.
            let r = c.runs (f.deep + 1) (f ∷ fs) (omega (arith, l, one)) in
            ap (run i (state (Want true) f fs)) same
            ∙ open_run i f fs (v ++ (41 ∷ post)) (omega (arith, l, one))
            ∙ r.3
            ∙ close_run (i + 1 + length v) r.1 r.0 c.tree f fs post r.2
            ∙ ap (λ k. run k (state (After true) (with_operand f (Group c.tree)) fs) post) (let y : i + 1 + length v + 1 ≡ i + length w = omega (arith, ap length e, length-append v (41 ∷ [])) in y);
        deep = λ f fs l m. sunk same f fs l m (nat_lt f.deep 64) refl;
      }
    where
      sunk : w ++ post ≡ 40 ∷ (v ++ (41 ∷ post)) → (f : Frame) (fs : List Frame) → f.deep ≤ 64 → 64 < bracket_depth q + nesting q + f.deep → (t : Bool) → nat_lt f.deep 64 ≡ t → IsDeep (run i (state (Want true) f fs) (w ++ post))
      sunk same f fs l m true h =
          let below : f.deep < 64 = ltb-true f.deep 64 h in
          deep_as (run i (state (Want true) f fs) (w ++ post)) (run (i + 1) (state (Want true) (fresh (f.deep + 1)) (f ∷ fs)) (v ++ (41 ∷ post)))
          (ap (run i (state (Want true) f fs)) same ∙ open_run i f fs (v ++ (41 ∷ post)) below)
          (c.deep (f.deep + 1) (f ∷ fs) (omega (arith, below)) (omega (arith, m, one)))
      sunk same f fs l m false h =
          let full : 64 ≤ f.deep = ltb-false f.deep 64 h in
          (i, ap (run i (state (Want true) f fs)) same ∙ open_deep i f fs (v ++ (41 ∷ post)) full)

  more_means : (done : Trees) (t : Tree) (dq : Soughts) (q : Sought) → resolve_each schema others text done ≡ Ok dq → resolve schema others text t ≡ Ok q → resolve_each schema others text (behind done t) ≡ Ok (and_then dq q)
  more_means done t dq q e h = ap (λ r. r >>= λ qs. resolve schema others text t >>= λ q. Ok (and_then qs q)) e ∙ ap (λ r. r >>= λ q. Ok (and_then dq q)) h

  -- the members behind the first
  record AndsRest (qs : Soughts) (i : ℕ) (w post : List ℕ) (done : Trees) (dq : Soughts) : Type 0 where
    trees : Trees
    means : resolve_each schema others text trees ≡ Ok (join dq qs)
    sizes : count trees ≡ count done + size qs
    runs : (b : Bool) (d : ℕ) (fs : List Frame) → nesting_all qs + d ≤ 64
        → (c : Bool) × (run i (state (After b) (level d no_trees done) fs) (w ++ post) ≡ run (i + length w) (state (After c) (level d no_trees trees) fs) post)
    deep : (b : Bool) (d : ℕ) (fs : List Frame) → d ≤ 64 → 64 < nesting_all qs + d → IsDeep (run i (state (After b) (level d no_trees done) fs) (w ++ post))

  and_more : (q : Sought) (qs : Soughts) (w v u post : List ℕ) (i : ℕ) (done : Trees) (dq : Soughts) → w ≡ blank_and ++ (v ++ u) → (b : Back q (i + 5) v (u ++ post))
      → AndsRest qs (i + 5 + length v) u post (behind done b.tree) (and_then dq q) → AndsRest (more q qs) i w post done dq
  and_more q qs w v u post i done dq e b r =
      let same : w ++ post ≡ 32 ∷ 65 ∷ 78 ∷ 68 ∷ 32 ∷ (v ++ (u ++ post)) = ap (λ w. w ++ post) e ∙ ap (λ t. 32 ∷ 65 ∷ 78 ∷ 68 ∷ 32 ∷ t) (append_assoc v u post) in
      let begin : (c : Bool) (d : ℕ) (fs : List Frame) → run i (state (After c) (level d no_trees done) fs) (w ++ post) ≡ run (i + 5) (state (Want true) (level d no_trees done) fs) (v ++ (u ++ post)) =
      λ c d fs. ap (run i (state (After c) (level d no_trees done) fs)) same ∙ and_run i c d no_trees done fs (v ++ (u ++ post))
      ∙ ap (λ k. run k (state (Want true) (level d no_trees done) fs) (v ++ (u ++ post))) (let y : i + 1 + 1 + 1 + 1 + 1 ≡ i + 5 = omega arith in y) in
      record {
        trees = r.trees;
        means = r.means ∙ ap Ok (join_more dq q qs);
        sizes = r.sizes ∙ (let y : count done + 1 + size qs ≡ count done + (size qs + 1) = omega arith in y);
        runs = λ c d fs l.
            let x = r.runs b.free d fs (omega (arith, l)) in (
              x.0,
              begin c d fs ∙ b.runs (level d no_trees done) fs (omega (arith, l)) ∙ x.1
                  ∙ ap (λ k. run k (state (After x.0) (level d no_trees r.trees) fs) post) (let y : i + 5 + length v + length u ≡ i + length w = omega (arith, ap length e, length-append v u) in y),
            );
        deep = λ c d fs l m. sunk begin c d fs l m (nat_lt 64 (bracket_depth q + nesting q + d)) refl;
      }
    where
      sunk : ((c : Bool) (d : ℕ) (fs : List Frame) → run i (state (After c) (level d no_trees done) fs) (w ++ post) ≡ run (i + 5) (state (Want true) (level d no_trees done) fs) (v ++ (u ++ post)))
          → (c : Bool) (d : ℕ) (fs : List Frame) → d ≤ 64 → 64 < nesting_all (more q qs) + d → (t : Bool) → nat_lt 64 (bracket_depth q + nesting q + d) ≡ t → IsDeep (run i (state (After c) (level d no_trees done) fs) (w ++ post))
      sunk begin c d fs l m true h =
          deep_as (run i (state (After c) (level d no_trees done) fs) (w ++ post)) (run (i + 5) (state (Want true) (level d no_trees done) fs) (v ++ (u ++ post))) (begin c d fs)
          (b.deep (level d no_trees done) fs l (ltb-true 64 (bracket_depth q + nesting q + d) h))
      sunk begin c d fs l m false h =
          let fits : bracket_depth q + nesting q + d ≤ 64 = ltb-false 64 (bracket_depth q + nesting q + d) h in
          deep_as (run i (state (After c) (level d no_trees done) fs) (w ++ post)) (run (i + 5 + length v) (state (After b.free) (level d no_trees (behind done b.tree)) fs) (u ++ post))
          (begin c d fs ∙ b.runs (level d no_trees done) fs fits)
          (r.deep b.free d fs l (omega (arith, m, fits)))

  record OrsRest (qs : Soughts) (i : ℕ) (w post : List ℕ) (done : Trees) (last : Tree) (dq : Soughts) : Type 0 where
    trees : Trees
    end : Tree
    means : resolve_each schema others text (behind trees end) ≡ Ok (join dq qs)
    sizes : count trees ≡ count done + size qs
    runs : (b : Bool) (d : ℕ) (fs : List Frame) → nesting_all qs + d ≤ 64
        → (c : Bool) × (run i (state (After b) (level d done (behind no_trees last)) fs) (w ++ post) ≡ run (i + length w) (state (After c) (level d trees (behind no_trees end)) fs) post)
    deep : (b : Bool) (d : ℕ) (fs : List Frame) → d ≤ 64 → 64 < nesting_all qs + d → IsDeep (run i (state (After b) (level d done (behind no_trees last)) fs) (w ++ post))

  or_more : (q : Sought) (qs : Soughts) (w v u post : List ℕ) (i : ℕ) (done : Trees) (last : Tree) (dq : Soughts) → w ≡ blank_or ++ (v ++ u) → (b : Back q (i + 4) v (u ++ post))
      → OrsRest qs (i + 4 + length v) u post (behind done last) b.tree (and_then dq q) → OrsRest (more q qs) i w post done last dq
  or_more q qs w v u post i done last dq e b r =
      let same : w ++ post ≡ 32 ∷ 79 ∷ 82 ∷ 32 ∷ (v ++ (u ++ post)) = ap (λ w. w ++ post) e ∙ ap (λ t. 32 ∷ 79 ∷ 82 ∷ 32 ∷ t) (append_assoc v u post) in
      let begin : (c : Bool) (d : ℕ) (fs : List Frame) → run i (state (After c) (level d done (behind no_trees last)) fs) (w ++ post) ≡ run (i + 4) (state (Want true) (level d (behind done last) no_trees) fs) (v ++ (u ++ post)) =
      λ c d fs. ap (run i (state (After c) (level d done (behind no_trees last)) fs)) same ∙ or_run i c d done last fs (v ++ (u ++ post))
      ∙ ap (λ k. run k (state (Want true) (level d (behind done last) no_trees) fs) (v ++ (u ++ post))) (let y : i + 1 + 1 + 1 + 1 ≡ i + 4 = omega arith in y) in
      record {
        trees = r.trees;
        end = r.end;
        means = r.means ∙ ap Ok (join_more dq q qs);
        sizes = r.sizes ∙ (let y : count done + 1 + size qs ≡ count done + (size qs + 1) = omega arith in y);
        runs = λ c d fs l.
            let x = r.runs b.free d fs (omega (arith, l)) in (
              x.0,
              begin c d fs ∙ b.runs (level d (behind done last) no_trees) fs (omega (arith, l)) ∙ x.1
                  ∙ ap (λ k. run k (state (After x.0) (level d r.trees (behind no_trees r.end)) fs) post) (let y : i + 4 + length v + length u ≡ i + length w = omega (arith, ap length e, length-append v u) in y),
            );
        deep = λ c d fs l m. sunk begin c d fs l m (nat_lt 64 (bracket_depth q + nesting q + d)) refl;
      }
    where
      sunk : ((c : Bool) (d : ℕ) (fs : List Frame) → run i (state (After c) (level d done (behind no_trees last)) fs) (w ++ post) ≡ run (i + 4) (state (Want true) (level d (behind done last) no_trees) fs) (v ++ (u ++ post)))
          → (c : Bool) (d : ℕ) (fs : List Frame) → d ≤ 64 → 64 < nesting_all (more q qs) + d → (t : Bool) → nat_lt 64 (bracket_depth q + nesting q + d) ≡ t → IsDeep (run i (state (After c) (level d done (behind no_trees last)) fs) (w ++ post))
      sunk begin c d fs l m true h =
          deep_as (run i (state (After c) (level d done (behind no_trees last)) fs) (w ++ post)) (run (i + 4) (state (Want true) (level d (behind done last) no_trees) fs) (v ++ (u ++ post))) (begin c d fs)
          (b.deep (level d (behind done last) no_trees) fs l (ltb-true 64 (bracket_depth q + nesting q + d) h))
      sunk begin c d fs l m false h =
          let fits : bracket_depth q + nesting q + d ≤ 64 = ltb-false 64 (bracket_depth q + nesting q + d) h in
          deep_as (run i (state (After c) (level d done (behind no_trees last)) fs) (w ++ post)) (run (i + 4 + length v) (state (After b.free) (level d (behind done last) (behind no_trees b.tree)) fs) (u ++ post))
          (begin c d fs ∙ b.runs (level d (behind done last) no_trees) fs fits)
          (r.deep b.free d fs l (omega (arith, m, fits)))

  no_ands : (post : List ℕ) (i : ℕ) (w : List ℕ) (done : Trees) (dq : Soughts) → w ≡ [] → resolve_each schema others text done ≡ Ok dq → AndsRest no_more i w post done dq
  no_ands post i w done dq e m = record {
    trees = done;
    means = m ∙ ap Ok (sym (join_none dq));
    sizes = omega arith;
    runs = λ b d fs l. (b, (λ k. run ((let y : i ≡ i + length w = omega (arith, ap length e) in y) k) (state (After b) (level d no_trees done) fs) (e k ++ post)));
    deep = λ b d fs l m. absurd (omega (arith, l, m));
  }

  no_ors : (post : List ℕ) (i : ℕ) (w : List ℕ) (done : Trees) (last : Tree) (dq : Soughts) → w ≡ [] → resolve_each schema others text (behind done last) ≡ Ok dq → OrsRest no_more i w post done last dq
  no_ors post i w done last dq e m = record {
    trees = done;
    end = last;
    means = m ∙ ap Ok (sym (join_none dq));
    sizes = omega arith;
    runs = λ b d fs l. (b, (λ k. run ((let y : i ≡ i + length w = omega (arith, ap length e) in y) k) (state (After b) (level d done (behind no_trees last)) fs) (e k ++ post)));
    deep = λ b d fs l m. absurd (omega (arith, l, m));
  }

  -- the first member and those behind it
  and_chain : (q : Sought) (qs : Soughts) (w v u post : List ℕ) (i : ℕ) → w ≡ v ++ u → 1 ≤ size qs → (b : Back q i v (u ++ post))
      → AndsRest qs (i + length v) u post (behind no_trees b.tree) (more q no_more) → Chain (sought.And (more q qs)) i w post
  and_chain q qs w v u post i e s b r =
      let same : w ++ post ≡ v ++ (u ++ post) = ap (λ w. w ++ post) e ∙ append_assoc v u post in
      record {
        tree = And r.trees;
        means = ap (λ r. r >>= λ qs. Ok (sought.And qs)) r.means;
        runs = λ d fs l.
            let x = r.runs b.free d fs (omega (arith, l)) in (
              level d no_trees r.trees,
              x.0,
              whole_and d r.trees (omega (arith, s, r.sizes)),
              ap (run i (state (Want true) (fresh d) fs)) same ∙ b.runs (fresh d) fs (omega (arith, l)) ∙ x.1
                  ∙ ap (λ k. run k (state (After x.0) (level d no_trees r.trees) fs) post) (let y : i + length v + length u ≡ i + length w = omega (arith, ap length e, length-append v u) in y),
            );
        deep = λ d fs l m. sunk same d fs l m (nat_lt 64 (bracket_depth q + nesting q + d)) refl;
      }
    where
      sunk : w ++ post ≡ v ++ (u ++ post) → (d : ℕ) (fs : List Frame) → d ≤ 64 → 64 < nesting_all (more q qs) + d → (t : Bool) → nat_lt 64 (bracket_depth q + nesting q + d) ≡ t → IsDeep (run i (state (Want true) (fresh d) fs) (w ++ post))
      sunk same d fs l m true h =
          deep_as (run i (state (Want true) (fresh d) fs) (w ++ post)) (run i (state (Want true) (fresh d) fs) (v ++ (u ++ post))) (ap (run i (state (Want true) (fresh d) fs)) same)
          (b.deep (fresh d) fs l (ltb-true 64 (bracket_depth q + nesting q + d) h))
      sunk same d fs l m false h =
          let fits : bracket_depth q + nesting q + d ≤ 64 = ltb-false 64 (bracket_depth q + nesting q + d) h in
          deep_as (run i (state (Want true) (fresh d) fs) (w ++ post)) (run (i + length v) (state (After b.free) (level d no_trees (behind no_trees b.tree)) fs) (u ++ post))
          (ap (run i (state (Want true) (fresh d) fs)) same ∙ b.runs (fresh d) fs fits)
          (r.deep b.free d fs l (omega (arith, m, fits)))

  or_chain : (q : Sought) (qs : Soughts) (w v u post : List ℕ) (i : ℕ) → w ≡ v ++ u → 1 ≤ size qs → (b : Back q i v (u ++ post))
      → OrsRest qs (i + length v) u post no_trees b.tree (more q no_more) → Chain (sought.Or (more q qs)) i w post
  or_chain q qs w v u post i e s b r =
      let same : w ++ post ≡ v ++ (u ++ post) = ap (λ w. w ++ post) e ∙ append_assoc v u post in
      record {
        tree = Or (behind r.trees r.end);
        means = ap (λ r. r >>= λ qs. Ok (sought.Or qs)) r.means;
        runs = λ d fs l.
            let x = r.runs b.free d fs (omega (arith, l)) in (
              level d r.trees (behind no_trees r.end),
              x.0,
              whole_or d r.trees r.end (omega (arith, s, r.sizes)),
              ap (run i (state (Want true) (fresh d) fs)) same ∙ b.runs (fresh d) fs (omega (arith, l)) ∙ x.1
                  ∙ ap (λ k. run k (state (After x.0) (level d r.trees (behind no_trees r.end)) fs) post) (let y : i + length v + length u ≡ i + length w = omega (arith, ap length e, length-append v u) in y),
            );
        deep = λ d fs l m. sunk same d fs l m (nat_lt 64 (bracket_depth q + nesting q + d)) refl;
      }
    where
      sunk : w ++ post ≡ v ++ (u ++ post) → (d : ℕ) (fs : List Frame) → d ≤ 64 → 64 < nesting_all (more q qs) + d → (t : Bool) → nat_lt 64 (bracket_depth q + nesting q + d) ≡ t → IsDeep (run i (state (Want true) (fresh d) fs) (w ++ post))
      sunk same d fs l m true h =
          deep_as (run i (state (Want true) (fresh d) fs) (w ++ post)) (run i (state (Want true) (fresh d) fs) (v ++ (u ++ post))) (ap (run i (state (Want true) (fresh d) fs)) same)
          (b.deep (fresh d) fs l (ltb-true 64 (bracket_depth q + nesting q + d) h))
      sunk same d fs l m false h =
          let fits : bracket_depth q + nesting q + d ≤ 64 = ltb-false 64 (bracket_depth q + nesting q + d) h in
          deep_as (run i (state (Want true) (fresh d) fs) (w ++ post)) (run (i + length v) (state (After b.free) (level d no_trees (behind no_trees b.tree)) fs) (u ++ post))
          (ap (run i (state (Want true) (fresh d) fs)) same ∙ b.runs (fresh d) fs fits)
          (r.deep b.free d fs l (omega (arith, m, fits)))

  all_back : (w post : List ℕ) (i : ℕ) → w ≡ 42 ∷ [] → Back sought.All i w post
  all_back w post i e = record {
    tree = leaf None asks.Any;
    free = false;
    means = refl;
    runs = λ f fs l. ap (λ w. run i (state (Want true) f fs) (w ++ post)) e ∙ all_run i f fs post
        ∙ ap (λ k. run k (state (After false) (with_operand f (leaf None asks.Any)) fs) post) (let y : i + 1 ≡ i + length w = omega (arith, ap length e) in y);
    deep = λ f fs l m. absurd (omega (arith, l, m));
  }

  -- the bytes of a member and of those behind it
  record Members (before between : List ℕ) (q : Sought) (qs : Soughts) (w : List ℕ) : Type 0 where
    one : List ℕ
    others' : List ℕ
    are : w ≡ before ++ (one ++ others')
    first : Spells (inner q (printed schema.fields q)) one
    rest : Spells (printed_all schema.fields between between qs) others'

  members_of : (before between : List ℕ) (q : Sought) (qs : Soughts) (w : List ℕ) → Spells (printed_all schema.fields between before (more q qs)) w → Members before between q qs w
  members_of before between q qs w s =
      let p = spells_split (inner q (printed schema.fields q)) (printed_all schema.fields between between qs) s.0 s.2 in
      record { one = p.0; others' = p.1; are = s.1 ∙ ap (λ t. before ++ t) p.2; first = p.3; rest = p.4 }

  mutual
    -- an operand as it is printed
    operand_back : {q : Sought} → Readable schema.fields q → (w pre post : List ℕ) (i : ℕ) → Spells (inner q (printed schema.fields q)) w → text ≡ pre ++ (w ++ post) → i ≡ length pre → Delimited post → Back q i w post
    operand_back r_all w pre post i s e a d = all_back w post i (spells_written (42 ∷ []) w (bare (printed schema.fields sought.All) w s))
    operand_back (r_word {n} {f} {w = v} k h p u) w pre post i s e a d = word_back n f v k h p u w pre post i (bare (printed schema.fields (sought.Word n v)) w s) e a d
    operand_back (r_quoted {n} {f} {w = v} k h p u) w pre post i s e a d = quoted_back n f v k h p u w pre post i (bare (printed schema.fields (sought.Quoted n v)) w s) e a
    operand_back (r_prefix {n} {f} {w = v} k h p u) w pre post i s e a d = prefix_back n f v k h p u w pre post i (bare (printed schema.fields (sought.Prefix n v)) w s) e a d
    operand_back (r_exists {n} {f} k) w pre post i s e a d = exists_back n f k w pre post i (bare (printed schema.fields (sought.Exists n)) w s) e a
    operand_back (r_range {n} {f} {low} {high} k o hl hh) w pre post i s e a d = range_back n f low high k o hl hh w pre post i (bare (printed schema.fields (sought.Range n low high)) w s) e a
    operand_back (r_set {n} {f} {is = items} k h) w pre post i s e a d = set_back n f items k h w pre post i (bare (printed schema.fields (sought.AnyOf n items)) w s) e a
    operand_back (r_not {q} r) w pre post i s e a d =
        let t = bare (printed schema.fields (sought.Not q)) w s in
        not_back q w t.0 post i t.1 (operand_back r t.0 (pre ++ 78 ∷ 79 ∷ 84 ∷ 32 ∷ []) post (i + 4) t.2
        (e ∙ ap (λ w. pre ++ (w ++ post)) t.1 ∙ sym (append_assoc pre (78 ∷ 79 ∷ 84 ∷ 32 ∷ []) (t.0 ++ post))) (omega (arith, a, length-append pre (78 ∷ 79 ∷ 84 ∷ 32 ∷ []))) d)
    operand_back (r_and {qs} rs l) w pre post i s e a d =
        let p = spells_split (printed schema.fields (sought.And qs)) (Written (41 ∷ []) ∷ []) s.0 s.2 in
        let is : w ≡ 40 ∷ (p.0 ++ 41 ∷ []) = s.1 ∙ ap (λ t. 40 ∷ t) (p.2 ∙ ap (λ t. p.0 ++ t) (spells_written (41 ∷ []) p.1 p.4)) in
        group_back (sought.And qs) w p.0 post i refl is (ands_back rs l p.0 (pre ++ 40 ∷ []) (41 ∷ post) (i + 1) p.3
        (e ∙ ap (λ w. pre ++ (w ++ post)) is ∙ ap (λ t. pre ++ (40 ∷ t)) (append_assoc p.0 (41 ∷ []) post) ∙ sym (append_assoc pre (40 ∷ []) (p.0 ++ (41 ∷ post)))) (omega (arith, a, length-append pre (40 ∷ []))) at_close)
    operand_back (r_or {qs} rs l) w pre post i s e a d =
        let p = spells_split (printed schema.fields (sought.Or qs)) (Written (41 ∷ []) ∷ []) s.0 s.2 in
        let is : w ≡ 40 ∷ (p.0 ++ 41 ∷ []) = s.1 ∙ ap (λ t. 40 ∷ t) (p.2 ∙ ap (λ t. p.0 ++ t) (spells_written (41 ∷ []) p.1 p.4)) in
        group_back (sought.Or qs) w p.0 post i refl is (ors_back rs l p.0 (pre ++ 40 ∷ []) (41 ∷ post) (i + 1) p.3
        (e ∙ ap (λ w. pre ++ (w ++ post)) is ∙ ap (λ t. pre ++ (40 ∷ t)) (append_assoc p.0 (41 ∷ []) post) ∙ sym (append_assoc pre (40 ∷ []) (p.0 ++ (41 ∷ post)))) (omega (arith, a, length-append pre (40 ∷ []))) at_close)

    ands_back : {qs : Soughts} → AreReadable schema.fields qs → 2 ≤ size qs → (w pre post : List ℕ) (i : ℕ) → Spells (printed_all schema.fields blank_and [] qs) w → text ≡ pre ++ (w ++ post) → i ≡ length pre → Delimited post → Chain (sought.And qs) i w post
    ands_back r_none l w pre post i s e a d = absurd (omega (arith, l))
    ands_back (r_more {q} {qs} r rs) l w pre post i s e a d =
        let m = members_of [] blank_and q qs w s in
        let b = operand_back r m.one pre (m.others' ++ post) i m.first (e ∙ ap (λ w. pre ++ (w ++ post)) m.are ∙ ap (λ t. pre ++ t) (append_assoc m.one m.others' post)) a (members_delimited schema.fields (65 ∷ 78 ∷ 68 ∷ 32 ∷ []) qs m.others' post m.rest d) in
        and_chain q qs w m.one m.others' post i m.are (omega (arith, l)) b
        (ands_rest rs m.others' (pre ++ m.one) post (i + length m.one) m.rest (e ∙ ap (λ w. pre ++ (w ++ post)) m.are ∙ ap (λ t. pre ++ t) (append_assoc m.one m.others' post) ∙ sym (append_assoc pre m.one (m.others' ++ post)))
        (omega (arith, a, length-append pre m.one)) d (behind no_trees b.tree) (more q no_more) (more_means no_trees b.tree no_more q refl b.means))

    ands_rest : {qs : Soughts} → AreReadable schema.fields qs → (w pre post : List ℕ) (i : ℕ) → Spells (printed_all schema.fields blank_and blank_and qs) w → text ≡ pre ++ (w ++ post) → i ≡ length pre → Delimited post
        → (done : Trees) (dq : Soughts) → resolve_each schema others text done ≡ Ok dq → AndsRest qs i w post done dq
    ands_rest r_none w pre post i s e a d done dq h = no_ands post i w done dq s h
    ands_rest (r_more {q} {qs} r rs) w pre post i s e a d done dq h =
        let m = members_of blank_and blank_and q qs w s in
        let here : text ≡ (pre ++ blank_and) ++ (m.one ++ (m.others' ++ post)) =
        e ∙ ap (λ w. pre ++ (w ++ post)) m.are ∙ ap (λ t. pre ++ (32 ∷ 65 ∷ 78 ∷ 68 ∷ 32 ∷ t)) (append_assoc m.one m.others' post) ∙ sym (append_assoc pre blank_and (m.one ++ (m.others' ++ post))) in
        let b = operand_back r m.one (pre ++ blank_and) (m.others' ++ post) (i + 5) m.first here (omega (arith, a, length-append pre blank_and)) (members_delimited schema.fields (65 ∷ 78 ∷ 68 ∷ 32 ∷ []) qs m.others' post m.rest d) in
        and_more q qs w m.one m.others' post i done dq m.are b
        (ands_rest rs m.others' ((pre ++ blank_and) ++ m.one) post (i + 5 + length m.one) m.rest (here ∙ sym (append_assoc (pre ++ blank_and) m.one (m.others' ++ post)))
        (omega (arith, a, length-append pre blank_and, length-append (pre ++ blank_and) m.one)) d (behind done b.tree) (and_then dq q) (more_means done b.tree dq q h b.means))

    ors_back : {qs : Soughts} → AreReadable schema.fields qs → 2 ≤ size qs → (w pre post : List ℕ) (i : ℕ) → Spells (printed_all schema.fields blank_or [] qs) w → text ≡ pre ++ (w ++ post) → i ≡ length pre → Delimited post → Chain (sought.Or qs) i w post
    ors_back r_none l w pre post i s e a d = absurd (omega (arith, l))
    ors_back (r_more {q} {qs} r rs) l w pre post i s e a d =
        let m = members_of [] blank_or q qs w s in
        let b = operand_back r m.one pre (m.others' ++ post) i m.first (e ∙ ap (λ w. pre ++ (w ++ post)) m.are ∙ ap (λ t. pre ++ t) (append_assoc m.one m.others' post)) a (members_delimited schema.fields (79 ∷ 82 ∷ 32 ∷ []) qs m.others' post m.rest d) in
        or_chain q qs w m.one m.others' post i m.are (omega (arith, l)) b
        (ors_rest rs m.others' (pre ++ m.one) post (i + length m.one) m.rest (e ∙ ap (λ w. pre ++ (w ++ post)) m.are ∙ ap (λ t. pre ++ t) (append_assoc m.one m.others' post) ∙ sym (append_assoc pre m.one (m.others' ++ post)))
        (omega (arith, a, length-append pre m.one)) d no_trees b.tree (more q no_more) (more_means no_trees b.tree no_more q refl b.means))

    ors_rest : {qs : Soughts} → AreReadable schema.fields qs → (w pre post : List ℕ) (i : ℕ) → Spells (printed_all schema.fields blank_or blank_or qs) w → text ≡ pre ++ (w ++ post) → i ≡ length pre → Delimited post
        → (done : Trees) (last : Tree) (dq : Soughts) → resolve_each schema others text (behind done last) ≡ Ok dq → OrsRest qs i w post done last dq
    ors_rest r_none w pre post i s e a d done last dq h = no_ors post i w done last dq s h
    ors_rest (r_more {q} {qs} r rs) w pre post i s e a d done last dq h =
        let m = members_of blank_or blank_or q qs w s in
        let here : text ≡ (pre ++ blank_or) ++ (m.one ++ (m.others' ++ post)) =
        e ∙ ap (λ w. pre ++ (w ++ post)) m.are ∙ ap (λ t. pre ++ (32 ∷ 79 ∷ 82 ∷ 32 ∷ t)) (append_assoc m.one m.others' post) ∙ sym (append_assoc pre blank_or (m.one ++ (m.others' ++ post))) in
        let b = operand_back r m.one (pre ++ blank_or) (m.others' ++ post) (i + 4) m.first here (omega (arith, a, length-append pre blank_or)) (members_delimited schema.fields (79 ∷ 82 ∷ 32 ∷ []) qs m.others' post m.rest d) in
        or_more q qs w m.one m.others' post i done last dq m.are b
        (ors_rest rs m.others' ((pre ++ blank_or) ++ m.one) post (i + 4 + length m.one) m.rest (here ∙ sym (append_assoc (pre ++ blank_or) m.one (m.others' ++ post)))
        (omega (arith, a, length-append pre blank_or, length-append (pre ++ blank_or) m.one)) d (behind done last) b.tree (and_then dq q) (more_means (behind done last) b.tree dq q h b.means))

-- the whole text of a query
pub record Whole (schema : Schema) (others : List ℕ) (q : Sought) (text : List ℕ) : Type 0 where
  pub again : nesting q ≤ 64 → query_of schema others text ≡ Ok q
  pub deep : 64 < nesting q → (at : ℕ) × (query_of schema others text ≡ Err (refusals.TooDeep at))

whole_chain : (schema : Schema) (others : List ℕ) (q : Sought) (text : List ℕ) → Chain schema others text q 0 text [] → Whole schema others q text
whole_chain schema others q text c = record {
  again = λ l.
      let r = c.runs 0 [] (omega (arith, l)) in
      let e : reads text ≡ Ok c.tree = ap (run 0 start) (sym (append-nil text)) ∙ r.3 ∙ end_run (0 + length text) r.1 r.0 c.tree r.2 in
      ap (resolved schema others text) e ∙ c.means;
  deep = λ l.
      let d = c.deep 0 [] (omega arith) (omega (arith, l)) in
      (d.0, ap (resolved schema others text) (ap (run 0 start) (sym (append-nil text)) ∙ d.1));
}

whole_operand : (schema : Schema) (others : List ℕ) (q : Sought) (text : List ℕ) → bracket_depth q ≡ 0 → Back schema others text q 0 text [] → Whole schema others q text
whole_operand schema others q text z b = record {
  again = λ l.
      let e : reads text ≡ Ok b.tree = ap (run 0 start) (sym (append-nil text)) ∙ b.runs (fresh 0) [] (omega (arith, l, z)) ∙ end_run (0 + length text) b.free (with_operand (fresh 0) b.tree) b.tree refl in
      ap (resolved schema others text) e ∙ b.means;
  deep = λ l.
      let d = b.deep (fresh 0) [] (omega arith) (omega (arith, l, z)) in
      (d.0, ap (resolved schema others text) (ap (run 0 start) (sym (append-nil text)) ∙ d.1));
}

pub whole_back : (schema : Schema) (others : List ℕ) (q : Sought) (text : List ℕ) → Readable schema.fields q → Spells (printed schema.fields q) text → Whole schema others q text
whole_back schema others q text r s = go r s
  where
    plain : (q : Sought) → bracket_depth q ≡ 0 → Readable schema.fields q → Spells (inner q (printed schema.fields q)) text → Whole schema others q text
    plain q z r s = whole_operand schema others q text z (operand_back schema others text r text [] [] 0 s (sym (append-nil text)) refl at_end)

    go : {q : Sought} → Readable schema.fields q → Spells (printed schema.fields q) text → Whole schema others q text
    go (r_and {qs} rs l) s = whole_chain schema others (sought.And qs) text (ands_back schema others text rs l text [] [] 0 s (sym (append-nil text)) refl at_end)
    go (r_or {qs} rs l) s = whole_chain schema others (sought.Or qs) text (ors_back schema others text rs l text [] [] 0 s (sym (append-nil text)) refl at_end)
    go r_all s = plain sought.All refl r_all (unbare (printed schema.fields sought.All) text s)
    go (r_word {n} {f} {w = v} k h p u) s = plain (sought.Word n v) refl (r_word k h p u) (unbare (printed schema.fields (sought.Word n v)) text s)
    go (r_quoted {n} {f} {w = v} k h p u) s = plain (sought.Quoted n v) refl (r_quoted k h p u) (unbare (printed schema.fields (sought.Quoted n v)) text s)
    go (r_prefix {n} {f} {w = v} k h p u) s = plain (sought.Prefix n v) refl (r_prefix k h p u) (unbare (printed schema.fields (sought.Prefix n v)) text s)
    go (r_exists {n} {f} k) s = plain (sought.Exists n) refl (r_exists k) (unbare (printed schema.fields (sought.Exists n)) text s)
    go (r_range {n} {f} {low} {high} k o hl hh) s = plain (sought.Range n low high) refl (r_range k o hl hh) (unbare (printed schema.fields (sought.Range n low high)) text s)
    go (r_set {n} {f} {is = items} k h) s = plain (sought.AnyOf n items) refl (r_set k h) (unbare (printed schema.fields (sought.AnyOf n items)) text s)
    go (r_not {q} r) s = plain (sought.Not q) refl (r_not r) (unbare (printed schema.fields (sought.Not q)) text s)
