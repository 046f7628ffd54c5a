-- Printed edges read as edges, and printed members of a set as its members.
use Rattle.std.proofs.Common.{◌≡◌, ℕ, ◌+◌, ◌&&◌, ◌||◌, Bool, true, false, not, List, [], ◌∷◌, ◌++◌, length, Some, refl, ap, sym, ◌∙◌, arith, append_assoc, append-nil, length-append}
use Rattle.std.proofs.lemmas.Bool.{and_parts}
use Rattle.query_reader.specs.Kinds.{kind_of, said, names_set, is_escape_kind}
use Rattle.query_reader.specs.Ranges.{ends_run}
use Rattle.query_reader.specs.Machine.{run, state, State, Frame, step, go_on, span, member, InSet, InASet, InRange, After, Behind, with_operand, leaf}
use Rattle.query_reader.specs.Asking as asks
use Rattle.query_reader.specs.Printed.{hides_in_quote, is_quote_kind, hiding, word_text, quote_text}
use Rattle.query_reader.specs.declared.kind.Kind.{Kind}
use Rattle.query_reader.specs.declared.kind.Kind.TheVariants.{Quote, Minus, Escape, Plain}
use Rattle.query_reader.specs.declared.special.Member.{Member}
use Rattle.query_reader.specs.declared.special.Bound.{Bound}
use Rattle.query_reader.specs.declared.special.Bound.TheVariants as bounds
use Rattle.query_reader.specs.declared.special.Ranged.TheVariants.{Between}
use Rattle.query_reader.specs.declared.special.Spot.{Spot}
use Rattle.query_reader.specs.declared.special.Spot.TheVariants.{Low, High}
use Rattle.query_reader.specs.declared.special.RangeMode.{RangeMode}
use Rattle.query_reader.specs.declared.special.RangeMode.TheVariants.{Wanted, Quoting, Running, BehindLow}
use Rattle.query_reader.specs.declared.tree.Span.{Span}
use Rattle.query_laws.proofs.Words.{WordRead, word_reads, Parted, by_blank, by_bracket, word_parted, quote_shown, quote_closes, quote_in_set}

-- the bytes of a run
abbrev pub is_run : List ℕ → Bool
is_run [] = true
is_run (c ∷ cs) = not (ends_run (kind_of c)) && is_run cs

abbrev pub begins_run : Kind → Bool
begins_run Plain = true
begins_run Minus = true
begins_run _ = false

-- an edge as it is printed
pub data EdgeText : Type 0 where
  star_edge : EdgeText
  run_edge : (c : ℕ) (cs : List ℕ) → begins_run (kind_of c) ≡ true → is_run cs ≡ true → EdgeText
  quoted_edge : List ℕ → EdgeText

abbrev pub edge_bytes : EdgeText → List ℕ
edge_bytes star_edge = 42 ∷ []
edge_bytes (run_edge c cs b r) = c ∷ cs
edge_bytes (quoted_edge w) = quote_text w

abbrev pub bound_at : ℕ → EdgeText → Bound
bound_at i star_edge = bounds.Unbounded
bound_at i (run_edge c cs b r) = bounds.Run (span i (i + 1 + length cs))
bound_at i (quoted_edge w) = bounds.Quoted (span (i + 1) (i + 1 + length (hiding hides_in_quote w)))

abbrev is_quoted : Kind → Bool
is_quoted k = is_quote_kind k || is_escape_kind k

-- the bracket that begins a range
abbrev pub begins : Bool → ℕ
begins true = 91
begins false = 123

-- and the one that ends it
abbrev pub shut : Bool → ℕ
shut true = 93
shut false = 125

module _ (x : Span) (m : ℕ) (f : Frame) (fs : List Frame) where
  abbrev ranging : RangeMode → State
  ranging mode = state (InRange x m mode) f fs

  run_kind : (k : Kind) (c : ℕ) (spot : Spot) (q : ℕ) (star : Bool) (at : ℕ) (xs : List ℕ) → kind_of c ≡ k → not (ends_run k) ≡ true
      → run at (ranging (Running spot q star)) (c ∷ xs) ≡ run (at + 1) (ranging (Running spot q false)) xs
  unfolding run
  run_kind k c spot q star at xs e h = rw e (go (ends_run k) refl)
    where
      go : (t : Bool) → ends_run k ≡ t → go_on at (step (InRange x m (Running spot q star)) at c k f fs) (λ next. run (at + 1) next xs) ≡ run (at + 1) (ranging (Running spot q false)) xs
      go false i = rw i refl
      go true i = absurd (let y : false ≡ true = rw i at h in cc)

  run_shown : (cs rest : List ℕ) (spot : Spot) (q at n : ℕ) → is_run cs ≡ true → n ≡ at + length cs
      → run at (ranging (Running spot q false)) (cs ++ rest) ≡ run n (ranging (Running spot q false)) rest
  run_shown [] rest spot q at n r e = ap (λ k. run k (ranging (Running spot q false)) rest) (let y : at ≡ n = omega (arith, e) in y)
  run_shown (c ∷ cs) rest spot q at n r e =
      let b = and_parts (not (ends_run (kind_of c))) (is_run cs) r in
      run_kind (kind_of c) c spot q false at (cs ++ rest) refl b.0 ∙ run_shown cs rest spot q (at + 1) n b.1 (omega (arith, e))

  begin_run : (k : Kind) (c : ℕ) (spot : Spot) (at : ℕ) (xs : List ℕ) → kind_of c ≡ k → begins_run k ≡ true
      → run at (ranging (Wanted spot)) (c ∷ xs) ≡ run (at + 1) (ranging (Running spot at false)) xs
  unfolding run
  begin_run Plain c spot at xs e h = ap (λ k. go_on at (step (InRange x m (Wanted spot)) at c k f fs) (λ next. run (at + 1) next xs)) e
  begin_run Minus c spot at xs e h = ap (λ k. go_on at (step (InRange x m (Wanted spot)) at c k f fs) (λ next. run (at + 1) next xs)) e
  begin_run _ c spot at xs e h = absurd (let y : false ≡ true = h in cc)

  open_quote : (spot : Spot) (at : ℕ) (xs : List ℕ) → run at (ranging (Wanted spot)) (34 ∷ xs) ≡ run (at + 1) (ranging (Quoting spot (at + 1) false)) xs
  unfolding run kind_of
  open_quote spot at xs = refl

  quoting_kind : (k : Kind) (c : ℕ) (spot : Spot) (q at : ℕ) (xs : List ℕ) → kind_of c ≡ k → is_quoted k ≡ false
      → run at (ranging (Quoting spot q false)) (c ∷ xs) ≡ run (at + 1) (ranging (Quoting spot q false)) xs
  unfolding run
  quoting_kind Quote c spot q at xs e h = absurd (let y : true ≡ false = h in cc)
  quoting_kind Escape c spot q at xs e h = absurd (let y : true ≡ false = h in cc)
  quoting_kind k c spot q at xs e h = ap (λ k. go_on at (step (InRange x m (Quoting spot q false)) at c k f fs) (λ next. run (at + 1) next xs)) e

  quoting_hidden : (k : Kind) (c : ℕ) (spot : Spot) (q at : ℕ) (xs : List ℕ) → kind_of c ≡ k → is_quoted k ≡ true
      → run at (ranging (Quoting spot q false)) (92 ∷ c ∷ xs) ≡ run (at + 1 + 1) (ranging (Quoting spot q false)) xs
  unfolding run kind_of
  quoting_hidden Quote c spot q at xs e h = ap (λ k. go_on (at + 1) (step (InRange x m (Quoting spot q true)) (at + 1) c k f fs) (λ next. run (at + 1 + 1) next xs)) e
  quoting_hidden Escape c spot q at xs e h = ap (λ k. go_on (at + 1) (step (InRange x m (Quoting spot q true)) (at + 1) c k f fs) (λ next. run (at + 1 + 1) next xs)) e
  quoting_hidden k c spot q at xs e h = absurd (let y : false ≡ true = h in cc)

  quoting_shown : (w rest : List ℕ) (spot : Spot) (q at n : ℕ) → n ≡ at + length (hiding hides_in_quote w)
      → run at (ranging (Quoting spot q false)) (hiding hides_in_quote w ++ rest) ≡ run n (ranging (Quoting spot q false)) rest
  quoting_shown [] rest spot q at n e = ap (λ k. run k (ranging (Quoting spot q false)) rest) (let y : at ≡ n = omega (arith, e) in y)
  quoting_shown (c ∷ cs) rest spot q at n e = go (λ at e. quoting_shown cs rest spot q at n e) (hides_in_quote c) refl
    where
      go : ((at : ℕ) → n ≡ at + length (hiding hides_in_quote cs) → run at (ranging (Quoting spot q false)) (hiding hides_in_quote cs ++ rest) ≡ run n (ranging (Quoting spot q false)) rest)
          → (t : Bool) → hides_in_quote c ≡ t → run at (ranging (Quoting spot q false)) (hiding hides_in_quote (c ∷ cs) ++ rest) ≡ run n (ranging (Quoting spot q false)) rest
      go again true h =
          let l : n ≡ at + length (92 ∷ c ∷ hiding hides_in_quote cs) = rw h at e in
          rw h (quoting_hidden (kind_of c) c spot q at (hiding hides_in_quote cs ++ rest) refl h ∙ again (at + 1 + 1) (omega (arith, l)))
      go again false h =
          let l : n ≡ at + length (c ∷ hiding hides_in_quote cs) = rw h at e in
          rw h (quoting_kind (kind_of c) c spot q at (hiding hides_in_quote cs ++ rest) refl h ∙ again (at + 1) (omega (arith, l)))

  -- the low edge and the blank behind it
  low_star : (c : Bool) (i : ℕ) (rest : List ℕ) → run i (ranging (Wanted (Low c))) (42 ∷ 32 ∷ rest) ≡ run (i + 1 + 1) (ranging (BehindLow c bounds.Unbounded true)) rest
  unfolding run kind_of
  low_star c i rest = refl

  low_run_end : (c : Bool) (q i : ℕ) (rest : List ℕ) → run i (ranging (Running (Low c) q false)) (32 ∷ rest) ≡ run (i + 1) (ranging (BehindLow c (bounds.Run (span q i)) true)) rest
  unfolding run kind_of
  low_run_end c q i rest = refl

  low_quote_end : (c : Bool) (q i : ℕ) (rest : List ℕ) → run i (ranging (Quoting (Low c) q false)) (34 ∷ 32 ∷ rest) ≡ run (i + 1 + 1) (ranging (BehindLow c (bounds.Quoted (span q i)) true)) rest
  unfolding run kind_of
  low_quote_end c q i rest = refl

  pub low_shown : (e : EdgeText) (c : Bool) (i n : ℕ) (rest : List ℕ) → n ≡ i + length (edge_bytes e) + 1
      → run i (ranging (Wanted (Low c))) (edge_bytes e ++ 32 ∷ rest) ≡ run n (ranging (BehindLow c (bound_at i e) true)) rest
  low_shown star_edge c i n rest e = low_star c i rest ∙ ap (λ k. run k (ranging (BehindLow c bounds.Unbounded true)) rest) (let y : i + 1 + 1 ≡ n = omega (arith, e) in y)
  low_shown (run_edge b bs g r) c i n rest e =
      begin_run (kind_of b) b (Low c) i (bs ++ 32 ∷ rest) refl g
      ∙ run_shown bs (32 ∷ rest) (Low c) i (i + 1) (i + 1 + length bs) r refl
      ∙ low_run_end c i (i + 1 + length bs) rest
      ∙ ap (λ k. run k (ranging (BehindLow c (bounds.Run (span i (i + 1 + length bs))) true)) rest) (let y : i + 1 + length bs + 1 ≡ n = omega (arith, e) in y)
  low_shown (quoted_edge w) c i n rest e =
      ap (λ xs. run i (ranging (Wanted (Low c))) (34 ∷ xs)) (append_assoc (hiding hides_in_quote w) (34 ∷ []) (32 ∷ rest))
      ∙ open_quote (Low c) i (hiding hides_in_quote w ++ 34 ∷ 32 ∷ rest)
      ∙ quoting_shown w (34 ∷ 32 ∷ rest) (Low c) (i + 1) (i + 1) (i + 1 + length (hiding hides_in_quote w)) refl
      ∙ low_quote_end c (i + 1) (i + 1 + length (hiding hides_in_quote w)) rest
      ∙ ap (λ k. run k (ranging (BehindLow c (bounds.Quoted (span (i + 1) (i + 1 + length (hiding hides_in_quote w)))) true)) rest)
      (let y : i + 1 + length (hiding hides_in_quote w) + 1 + 1 ≡ n = omega (arith, e, length-append (hiding hides_in_quote w) (34 ∷ [])) in y)

  -- `TO` and the blank behind it
  pub to_shown : (c : Bool) (low : Bound) (i : ℕ) (rest : List ℕ) → run i (ranging (BehindLow c low true)) (84 ∷ 79 ∷ 32 ∷ rest) ≡ run (i + 1 + 1 + 1) (ranging (Wanted (High c low))) rest
  unfolding run kind_of
  to_shown c low i rest = refl

  abbrev pub ranged : Bool → Bound → Bound → Bool → State
  ranged c low high d = state (After true) (with_operand f (leaf (Some x) (asks.Within m (Between c low high d)))) fs

  high_star : (c : Bool) (low : Bound) (d : Bool) (i : ℕ) (rest : List ℕ) → run i (ranging (Wanted (High c low))) (42 ∷ shut d ∷ rest) ≡ run (i + 1 + 1) (ranged c low bounds.Unbounded d) rest
  unfolding run kind_of
  high_star c low true i rest = refl
  high_star c low false i rest = refl

  high_run_end : (c : Bool) (low : Bound) (d : Bool) (q i : ℕ) (rest : List ℕ) → run i (ranging (Running (High c low) q false)) (shut d ∷ rest) ≡ run (i + 1) (ranged c low (bounds.Run (span q i)) d) rest
  unfolding run kind_of
  high_run_end c low true q i rest = refl
  high_run_end c low false q i rest = refl

  high_quote_end : (c : Bool) (low : Bound) (d : Bool) (q i : ℕ) (rest : List ℕ) → run i (ranging (Quoting (High c low) q false)) (34 ∷ shut d ∷ rest) ≡ run (i + 1 + 1) (ranged c low (bounds.Quoted (span q i)) d) rest
  unfolding run kind_of
  high_quote_end c low true q i rest = refl
  high_quote_end c low false q i rest = refl

  pub high_shown : (e : EdgeText) (c : Bool) (low : Bound) (d : Bool) (i n : ℕ) (rest : List ℕ) → n ≡ i + length (edge_bytes e) + 1
      → run i (ranging (Wanted (High c low))) (edge_bytes e ++ shut d ∷ rest) ≡ run n (ranged c low (bound_at i e) d) rest
  high_shown star_edge c low d i n rest e = high_star c low d i rest ∙ ap (λ k. run k (ranged c low bounds.Unbounded d) rest) (let y : i + 1 + 1 ≡ n = omega (arith, e) in y)
  high_shown (run_edge b bs g r) c low d i n rest e =
      begin_run (kind_of b) b (High c low) i (bs ++ shut d ∷ rest) refl g
      ∙ run_shown bs (shut d ∷ rest) (High c low) i (i + 1) (i + 1 + length bs) r refl
      ∙ high_run_end c low d i (i + 1 + length bs) rest
      ∙ ap (λ k. run k (ranged c low (bounds.Run (span i (i + 1 + length bs))) d) rest) (let y : i + 1 + length bs + 1 ≡ n = omega (arith, e) in y)
  high_shown (quoted_edge w) c low d i n rest e =
      ap (λ xs. run i (ranging (Wanted (High c low))) (34 ∷ xs)) (append_assoc (hiding hides_in_quote w) (34 ∷ []) (shut d ∷ rest))
      ∙ open_quote (High c low) i (hiding hides_in_quote w ++ 34 ∷ shut d ∷ rest)
      ∙ quoting_shown w (34 ∷ shut d ∷ rest) (High c low) (i + 1) (i + 1) (i + 1 + length (hiding hides_in_quote w)) refl
      ∙ high_quote_end c low d (i + 1) (i + 1 + length (hiding hides_in_quote w)) rest
      ∙ ap (λ k. run k (ranged c low (bounds.Quoted (span (i + 1) (i + 1 + length (hiding hides_in_quote w)))) d) rest)
      (let y : i + 1 + length (hiding hides_in_quote w) + 1 + 1 ≡ n = omega (arith, e, length-append (hiding hides_in_quote w) (34 ∷ [])) in y)

-- a range behind its field and colon
pub range_opens : (x : Span) (c : Bool) (i : ℕ) (f : Frame) (fs : List Frame) (rest : List ℕ)
    → run i (state (Behind x) f fs) (begins c ∷ rest) ≡ run (i + 1) (state (InRange x i (Wanted (Low c))) f fs) rest
unfolding run kind_of
range_opens x true i f fs rest = refl
range_opens x false i f fs rest = refl

-- a member as it is printed, with its place
pub data ItemText : Type 0 where
  word_item : ℕ → List ℕ → ItemText
  quoted_item : List ℕ → ItemText

abbrev pub item_bytes : ItemText → List ℕ
item_bytes (word_item c cs) = word_text (c ∷ cs)
item_bytes (quoted_item w) = quote_text w

abbrev pub member_at : ℕ → ItemText → Member
member_at i (word_item c cs) = member i (i + length (word_text (c ∷ cs))) false
member_at i (quoted_item w) = member (i + 1) (i + 1 + length (hiding hides_in_quote w)) true

pub item_shown : (t : ItemText) (x : Span) (m : ℕ) (ms : List Member) (i n : ℕ) (f : Frame) (fs : List Frame) {rest : List ℕ} → Parted rest → n ≡ i + length (item_bytes t)
    → run i (state (InSet x m ms) f fs) (item_bytes t ++ rest) ≡ run n (state (InSet x m (ms ++ member_at i t ∷ [])) f fs) rest
unfolding run kind_of WordRead
item_shown (word_item c cs) x m ms i n f fs {rest} p e =
    let w : WordRead (InSet x m ms) (InASet x m ms) i f fs (i + length (word_text (c ∷ cs))) (word_text (c ∷ cs)) rest = word_reads (InSet x m ms) (InASet x m ms) i f fs (λ c. refl) refl c cs rest _ refl in
    w.3 ∙ word_parted p x m ms i (i + length (word_text (c ∷ cs))) (word_text (c ∷ cs)) w.0 f fs w.1
    ∙ ap (λ k. run k (state (InSet x m (ms ++ member_at i (word_item c cs) ∷ [])) f fs) rest) (sym e)
item_shown (quoted_item w) x m ms i n f fs {rest} p e =
    ap (λ xs. run i (state (InSet x m ms) f fs) (34 ∷ xs)) (append_assoc (hiding hides_in_quote w) (34 ∷ []) rest)
    ∙ quote_in_set x m ms i f fs (hiding hides_in_quote w ++ 34 ∷ rest)
    ∙ quote_shown w (34 ∷ rest) (InASet x m ms) (i + 1) (i + 1) (i + 1 + length (hiding hides_in_quote w)) f fs refl
    ∙ quote_closes (InASet x m ms) (i + 1) (i + 1 + length (hiding hides_in_quote w)) f fs rest
    ∙ ap (λ k. run k (state (InSet x m (ms ++ member_at i (quoted_item w) ∷ [])) f fs) rest) (let y : i + 1 + length (hiding hides_in_quote w) + 1 ≡ n = omega (arith, e, length-append (hiding hides_in_quote w) (34 ∷ [])) in y)

-- the members behind the first, each behind a blank
abbrev pub rest_bytes : List ItemText → List ℕ
rest_bytes [] = []
rest_bytes (t ∷ ts) = 32 ∷ item_bytes t ++ rest_bytes ts

abbrev pub all_bytes : List ItemText → List ℕ
all_bytes [] = []
all_bytes (t ∷ ts) = item_bytes t ++ rest_bytes ts

abbrev pub rest_members : ℕ → List ItemText → List Member
rest_members i [] = []
rest_members i (t ∷ ts) = member_at (i + 1) t ∷ rest_members (i + 1 + length (item_bytes t)) ts

abbrev pub all_members : ℕ → List ItemText → List Member
all_members i [] = []
all_members i (t ∷ ts) = member_at i t ∷ rest_members (i + length (item_bytes t)) ts

rest_parted : (ts : List ItemText) (rest : List ℕ) → Parted (rest_bytes ts ++ 93 ∷ rest)
rest_parted [] rest = by_bracket
rest_parted (t ∷ ts) rest = by_blank

blank_in_set : (x : Span) (m : ℕ) (ms : List Member) (i : ℕ) (f : Frame) (fs : List Frame) (xs : List ℕ) → run i (state (InSet x m ms) f fs) (32 ∷ xs) ≡ run (i + 1) (state (InSet x m ms) f fs) xs
unfolding run kind_of
blank_in_set x m ms i f fs xs = refl

rest_shown : (ts : List ItemText) (x : Span) (m : ℕ) (ms : List Member) (i n : ℕ) (f : Frame) (fs : List Frame) (rest : List ℕ) → n ≡ i + length (rest_bytes ts)
    → run i (state (InSet x m ms) f fs) (rest_bytes ts ++ 93 ∷ rest) ≡ run n (state (InSet x m (ms ++ rest_members i ts)) f fs) (93 ∷ rest)
rest_shown [] x m ms i n f fs rest e =
    ap (λ k. run k (state (InSet x m ms) f fs) (93 ∷ rest)) (let y : i ≡ n = omega (arith, e) in y)
    ∙ ap (λ l. run n (state (InSet x m l) f fs) (93 ∷ rest)) (sym (append-nil ms))
rest_shown (t ∷ ts) x m ms i n f fs rest e =
    ap (λ xs. run i (state (InSet x m ms) f fs) (32 ∷ xs)) (append_assoc (item_bytes t) (rest_bytes ts) (93 ∷ rest))
    ∙ blank_in_set x m ms i f fs (item_bytes t ++ (rest_bytes ts ++ 93 ∷ rest))
    ∙ item_shown t x m ms (i + 1) (i + 1 + length (item_bytes t)) f fs (rest_parted ts rest) refl
    ∙ rest_shown ts x m (ms ++ member_at (i + 1) t ∷ []) (i + 1 + length (item_bytes t)) n f fs rest (omega (arith, e, length-append (item_bytes t) (rest_bytes ts)))
    ∙ ap (λ l. run n (state (InSet x m l) f fs) (93 ∷ rest)) (append_assoc ms (member_at (i + 1) t ∷ []) (rest_members (i + 1 + length (item_bytes t)) ts))

set_closes : (x : Span) (m : ℕ) (ms : List Member) (i : ℕ) (f : Frame) (fs : List Frame) (xs : List ℕ) → run i (state (InSet x m ms) f fs) (93 ∷ xs) ≡ run (i + 1) (state (After true) (with_operand f (leaf (Some x) (asks.OneOf m ms))) fs) xs
unfolding run kind_of
set_closes x m ms i f fs xs = refl

set_opens : (x : Span) (i : ℕ) (f : Frame) (fs : List Frame) (xs : List ℕ) → run i (state (Behind x) f fs) (73 ∷ 78 ∷ 32 ∷ 91 ∷ xs) ≡ run (i + 1 + 1 + 1 + 1) (state (InSet x i []) f fs) xs
unfolding run kind_of said names_set
set_opens x i f fs xs = refl

abbrev pub set_bytes : List ItemText → List ℕ
set_bytes ts = 73 ∷ 78 ∷ 32 ∷ 91 ∷ all_bytes ts ++ 93 ∷ []

members_shown : (ts : List ItemText) (x : Span) (m : ℕ) (i n : ℕ) (f : Frame) (fs : List Frame) (rest : List ℕ) → n ≡ i + length (all_bytes ts)
    → run i (state (InSet x m []) f fs) (all_bytes ts ++ 93 ∷ rest) ≡ run n (state (InSet x m (all_members i ts)) f fs) (93 ∷ rest)
members_shown [] x m i n f fs rest e = ap (λ k. run k (state (InSet x m []) f fs) (93 ∷ rest)) (let y : i ≡ n = omega (arith, e) in y)
members_shown (t ∷ ts) x m i n f fs rest e =
    ap (run i (state (InSet x m []) f fs)) (append_assoc (item_bytes t) (rest_bytes ts) (93 ∷ rest))
    ∙ item_shown t x m [] i (i + length (item_bytes t)) f fs (rest_parted ts rest) refl
    ∙ rest_shown ts x m (member_at i t ∷ []) (i + length (item_bytes t)) n f fs rest (omega (arith, e, length-append (item_bytes t) (rest_bytes ts)))

-- a whole set behind its field and colon
pub set_shown : (ts : List ItemText) (x : Span) (i n : ℕ) (f : Frame) (fs : List Frame) (rest : List ℕ) → n ≡ i + length (set_bytes ts)
    → run i (state (Behind x) f fs) (set_bytes ts ++ rest) ≡ run n (state (After true) (with_operand f (leaf (Some x) (asks.OneOf i (all_members (i + 4) ts)))) fs) rest
set_shown ts x i n f fs rest e =
    ap (λ xs. run i (state (Behind x) f fs) (73 ∷ 78 ∷ 32 ∷ 91 ∷ xs)) (append_assoc (all_bytes ts) (93 ∷ []) rest)
    ∙ set_opens x i f fs (all_bytes ts ++ 93 ∷ rest)
    ∙ ap (λ k. run k (state (InSet x i []) f fs) (all_bytes ts ++ 93 ∷ rest)) (let y : i + 1 + 1 + 1 + 1 ≡ i + 4 = omega arith in y)
    ∙ members_shown ts x i (i + 4) (i + 4 + length (all_bytes ts)) f fs rest refl
    ∙ set_closes x i (all_members (i + 4) ts) (i + 4 + length (all_bytes ts)) f fs rest
    ∙ ap (λ k. run k (state (After true) (with_operand f (leaf (Some x) (asks.OneOf i (all_members (i + 4) ts)))) fs) rest) (let y : i + 4 + length (all_bytes ts) + 1 ≡ n = omega (arith, e, length-append (all_bytes ts) (93 ∷ [])) in y)

-- a whole range behind its field and colon
abbrev pub range_bytes : Bool → EdgeText → EdgeText → Bool → List ℕ
range_bytes c low high d = begins c ∷ (edge_bytes low ++ (32 ∷ (84 ∷ (79 ∷ (32 ∷ (edge_bytes high ++ shut d ∷ []))))))

abbrev pub high_from : ℕ → EdgeText → ℕ
high_from i low = i + 1 + length (edge_bytes low) + 1 + 3

pub range_shown : (c : Bool) (low high : EdgeText) (d : Bool) (x : Span) (i n : ℕ) (f : Frame) (fs : List Frame) (rest : List ℕ) → n ≡ i + length (range_bytes c low high d)
    → run i (state (Behind x) f fs) (range_bytes c low high d ++ rest)
    ≡ run n (state (After true) (with_operand f (leaf (Some x) (asks.Within i (Between c (bound_at (i + 1) low) (bound_at (high_from i low) high) d)))) fs) rest
range_shown c low high d x i n f fs rest e =
    let last : List ℕ = edge_bytes high ++ (shut d ∷ rest) in
    let behind : List ℕ = 32 ∷ (84 ∷ (79 ∷ (32 ∷ (edge_bytes high ++ (shut d ∷ []))))) in
    let text : edge_bytes low ++ behind ++ rest ≡ edge_bytes low ++ (32 ∷ (84 ∷ (79 ∷ (32 ∷ last)))) =
    append_assoc (edge_bytes low) behind rest ∙ ap (λ xs. edge_bytes low ++ (32 ∷ (84 ∷ (79 ∷ (32 ∷ xs))))) (append_assoc (edge_bytes high) (shut d ∷ []) rest) in
    ap (λ xs. run i (state (Behind x) f fs) (begins c ∷ xs)) text
    ∙ range_opens x c i f fs (edge_bytes low ++ (32 ∷ (84 ∷ (79 ∷ (32 ∷ last)))))
    ∙ low_shown x i f fs low c (i + 1) (i + 1 + length (edge_bytes low) + 1) (84 ∷ (79 ∷ (32 ∷ last))) refl
    ∙ to_shown x i f fs c (bound_at (i + 1) low) (i + 1 + length (edge_bytes low) + 1) last
    ∙ ap (λ k. run k (state (InRange x i (Wanted (High c (bound_at (i + 1) low)))) f fs) last) (let y : i + 1 + length (edge_bytes low) + 1 + 1 + 1 + 1 ≡ high_from i low = omega arith in y)
    ∙ high_shown x i f fs high c (bound_at (i + 1) low) d (high_from i low) n rest
    (omega (arith, e, length-append (edge_bytes low) (32 ∷ (84 ∷ (79 ∷ (32 ∷ (edge_bytes high ++ shut d ∷ []))))), length-append (edge_bytes high) (shut d ∷ [])))
