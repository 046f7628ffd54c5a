-- A printed word reads as one word, and a printed quote as one quote, whatever their bytes are.
use Rattle.std.proofs.Common.{eqb-true, ◌≡◌, ℕ, ◌+◌, ◌&&◌, ◌||◌, Bool, true, false, not, List, [], ◌∷◌, ◌++◌, length, Some, refl, ap, sym, ◌∙◌, arith, append_assoc, append-nil, nat_eq}
use Rattle.std.proofs.lemmas.Bool.{or_parts}
use Rattle.std.specs.Str.{bytes_eq}
use Rattle.query_reader.specs.Kinds.{kind_of, said, names_set, ends_word, is_escape_kind}
use Rattle.query_reader.specs.Machine.{run, state, Frame, Mode, Role, Go, step, go_on, word, span, member, InQuote, InSet, InASet, First, Fielded, After, Behind, after_quote, with_operand, leaf}
use Rattle.query_reader.specs.Asking as asks
use Rattle.query_reader.specs.Printed.{hides_in_word, hides_in_quote, is_quote_kind, hiding, is_keyword, is_plain_kind, word_text}
use Rattle.query_reader.specs.Texts.{unescaped}
use Rattle.query_reader.specs.declared.kind.Kind.{Kind}
use Rattle.query_reader.specs.declared.kind.Kind.TheVariants.{Quote, Minus, Escape, Angle, Plain}
use Rattle.query_reader.specs.declared.kind.Said.TheVariants.{SaidWord}
use Rattle.query_reader.specs.declared.special.Member.{Member}
use Rattle.query_reader.specs.declared.tree.Span.{Span}

abbrev pub escaped : List ℕ → List ℕ
escaped = hiding hides_in_word

abbrev pub none_hidden : List ℕ → Bool
none_hidden [] = true
none_hidden (c ∷ cs) = not (hides_in_word c) && none_hidden cs

and_false : (p : Bool) → p && false ≡ false
and_false true = refl
and_false false = refl

and_true : (p : Bool) → p && true ≡ p
and_true true = refl
and_true false = refl

module _ (role : Role) (from : ℕ) (f : Frame) (fs : List Frame) where
  letter_kind : (k : Kind) (c at : ℕ) (acc : List ℕ) (p : Bool) (xs : List ℕ) → kind_of c ≡ k → ends_word k || is_escape_kind k ≡ false
      → run at (state (word role from acc p false) f fs) (c ∷ xs) ≡ run (at + 1) (state (word role from (acc ++ c ∷ []) p false) f fs) xs
  unfolding run
  letter_kind Plain c at acc p xs e h = ap (λ k. go_on at (step (word role from acc p false) at c k f fs) (λ next. run (at + 1) next xs)) e
  letter_kind Angle c at acc p xs e h = ap (λ k. go_on at (step (word role from acc p false) at c k f fs) (λ next. run (at + 1) next xs)) e
  letter_kind Minus c at acc p xs e h = ap (λ k. go_on at (step (word role from acc p false) at c k f fs) (λ next. run (at + 1) next xs)) e
  letter_kind _ c at acc p xs e h = absurd (let y : true ≡ false = h in cc)

  hidden_letter : (c at : ℕ) (acc : List ℕ) (p : Bool) (xs : List ℕ)
      → run at (state (word role from acc p false) f fs) (92 ∷ c ∷ xs) ≡ run (at + 1 + 1) (state (word role from ((acc ++ 92 ∷ []) ++ c ∷ []) false false) f fs) xs
  unfolding run kind_of
  hidden_letter c at acc p xs = refl

  -- the rest of a printed word
  rest_run : (cs rest : List ℕ) (at n : ℕ) (acc bs : List ℕ) (p q : Bool) → n ≡ at + length (escaped cs) → bs ≡ acc ++ escaped cs → q ≡ (p && none_hidden cs)
      → run at (state (word role from acc p false) f fs) (escaped cs ++ rest) ≡ run n (state (word role from bs q false) f fs) rest
  rest_run [] rest at n acc bs p q hn hb hq =
      ap (λ i. run i (state (word role from acc p false) f fs) rest) (let x : at ≡ n = omega (arith, hn) in x)
      ∙ ap (λ b. run n (state (word role from b p false) f fs) rest) (sym (hb ∙ append-nil acc))
      ∙ ap (λ b. run n (state (word role from bs b false) f fs) rest) (sym (hq ∙ and_true p))
  rest_run (c ∷ cs) rest at n acc bs p q hn hb hq = go (λ at n acc bs p q. rest_run cs rest at n acc bs p q) (hides_in_word c) refl
    where
      go : ((at n : ℕ) (acc bs : List ℕ) (p q : Bool) → n ≡ at + length (escaped cs) → bs ≡ acc ++ escaped cs → q ≡ (p && none_hidden cs)
          → run at (state (word role from acc p false) f fs) (escaped cs ++ rest) ≡ run n (state (word role from bs q false) f fs) rest)
          → (t : Bool) → hides_in_word c ≡ t → run at (state (word role from acc p false) f fs) (escaped (c ∷ cs) ++ rest) ≡ run n (state (word role from bs q false) f fs) rest
      go again false e =
          let l : n ≡ at + length (c ∷ escaped cs) = rw e at hn in
          let b : bs ≡ acc ++ (c ∷ escaped cs) = rw e at hb in
          let h : q ≡ (p && none_hidden cs) = rw e at hq in
          rw e (letter_kind (kind_of c) c at acc p (escaped cs ++ rest) refl e
          ∙ again (at + 1) n (acc ++ c ∷ []) bs p q (omega (arith, l)) (b ∙ sym (append_assoc acc (c ∷ []) (escaped cs))) h)
      go again true e =
          let l : n ≡ at + length (92 ∷ c ∷ escaped cs) = rw e at hn in
          let b : bs ≡ acc ++ (92 ∷ c ∷ escaped cs) = rw e at hb in
          let h : q ≡ (p && false) = rw e at hq in
          rw e (hidden_letter c at acc p (escaped cs ++ rest)
          ∙ again (at + 1 + 1) n ((acc ++ 92 ∷ []) ++ c ∷ []) bs false q (omega (arith, l))
          (b ∙ sym (append_assoc acc (92 ∷ []) (c ∷ escaped cs)) ∙ sym (append_assoc (acc ++ 92 ∷ []) (c ∷ []) (escaped cs))) (h ∙ and_false p))

-- a word with nothing hidden is printed as it is
escaped_plain : (cs : List ℕ) → none_hidden cs ≡ true → escaped cs ≡ cs
escaped_plain [] h = refl
escaped_plain (c ∷ cs) h = go (escaped_plain cs) (hides_in_word c) refl
  where
    go : (none_hidden cs ≡ true → escaped cs ≡ cs) → (t : Bool) → hides_in_word c ≡ t → escaped (c ∷ cs) ≡ c ∷ cs
    go again false e = let y : none_hidden cs ≡ true = rw e at h in rw e (ap (λ xs. c ∷ xs) (again y))
    go again true e = absurd (let y : false ≡ true = rw e at h in cc)

-- what is not hidden is no backslash
no_backslash : (hides : ℕ → Bool) → hides 92 ≡ true → (c : ℕ) → hides c ≡ false → nat_eq c 92 ≡ false
no_backslash hides s c h = go (nat_eq c 92) refl
  where
    go : (t : Bool) → nat_eq c 92 ≡ t → nat_eq c 92 ≡ false
    go false e = e
    go true e = let i : c ≡ 92 = eqb-true c 92 e in absurd (let y : true ≡ false = sym s ∙ ap hides (sym i) ∙ h in cc)

unescaped_letter : (c : ℕ) (xs : List ℕ) → nat_eq c 92 ≡ false → unescaped (c ∷ xs) ≡ c ∷ unescaped xs
unescaped_letter c xs e = rw e refl

-- reading what was hidden gives it back
pub unescaped_hiding : (hides : ℕ → Bool) → hides 92 ≡ true → (cs : List ℕ) → unescaped (hiding hides cs) ≡ cs
unescaped_hiding hides s [] = refl
unescaped_hiding hides s (c ∷ cs) = go (unescaped_hiding hides s cs) (hides c) refl
  where
    go : unescaped (hiding hides cs) ≡ cs → (t : Bool) → hides c ≡ t → unescaped (hiding hides (c ∷ cs)) ≡ c ∷ cs
    go again true e = rw e (ap (λ xs. c ∷ xs) again)
    go again false e = rw e (unescaped_letter c (hiding hides cs) (no_backslash hides s c e) ∙ ap (λ xs. c ∷ xs) again)

word_hides : hides_in_word 92 ≡ true
unfolding kind_of
word_hides = refl

quote_hides : hides_in_quote 92 ≡ true
unfolding kind_of
quote_hides = refl

pub unescaped_quote : (w : List ℕ) → unescaped (hiding hides_in_quote w) ≡ w
unescaped_quote w = unescaped_hiding hides_in_quote quote_hides w

plain_of : (k : Kind) → not (is_plain_kind k) ≡ false → k ≡ Plain
plain_of Plain e = refl
plain_of _ e = absurd (let y : true ≡ false = e in cc)

pub unescaped_word : (c : ℕ) (cs : List ℕ) → unescaped (word_text (c ∷ cs)) ≡ c ∷ cs
unescaped_word c cs = go (is_keyword (c ∷ cs) || not (is_plain_kind (kind_of c))) refl
  where
    go : (t : Bool) → is_keyword (c ∷ cs) || not (is_plain_kind (kind_of c)) ≡ t → unescaped (word_text (c ∷ cs)) ≡ c ∷ cs
    go true e = rw e (ap (λ xs. c ∷ xs) (unescaped_hiding hides_in_word word_hides cs))
    go false e =
        let k : kind_of c ≡ Plain = plain_of (kind_of c) ((or_parts (is_keyword (c ∷ cs)) (not (is_plain_kind (kind_of c))) e).1) in
        let h : hides_in_word c ≡ false = rw k refl in
        rw e (unescaped_letter c (escaped cs) (no_backslash hides_in_word word_hides c h) ∙ ap (λ xs. c ∷ xs) (unescaped_hiding hides_in_word word_hides cs))

no_keyword : (w : List ℕ) → is_keyword w ≡ false → said true w ≡ SaidWord
unfolding said
no_keyword w e =
    let a = or_parts (bytes_eq w (65 ∷ 78 ∷ 68 ∷ [])) (bytes_eq w (79 ∷ 82 ∷ []) || (bytes_eq w (78 ∷ 79 ∷ 84 ∷ []) || bytes_eq w (73 ∷ 78 ∷ []))) e in
    let b = or_parts (bytes_eq w (79 ∷ 82 ∷ [])) (bytes_eq w (78 ∷ 79 ∷ 84 ∷ []) || bytes_eq w (73 ∷ 78 ∷ [])) a.1 in
    let d = or_parts (bytes_eq w (78 ∷ 79 ∷ 84 ∷ [])) (bytes_eq w (73 ∷ 78 ∷ [])) b.1 in
    rw (a.0, b.0, d.0) refl

no_in : (w : List ℕ) → is_keyword w ≡ false → bytes_eq w (73 ∷ 78 ∷ []) ≡ false
no_in w e =
    let a = or_parts (bytes_eq w (65 ∷ 78 ∷ 68 ∷ [])) (bytes_eq w (79 ∷ 82 ∷ []) || (bytes_eq w (78 ∷ 79 ∷ 84 ∷ []) || bytes_eq w (73 ∷ 78 ∷ []))) e in
    let b = or_parts (bytes_eq w (79 ∷ 82 ∷ [])) (bytes_eq w (78 ∷ 79 ∷ 84 ∷ []) || bytes_eq w (73 ∷ 78 ∷ [])) a.1 in
    let d = or_parts (bytes_eq w (78 ∷ 79 ∷ 84 ∷ [])) (bytes_eq w (73 ∷ 78 ∷ [])) b.1 in d.1

plain_says : (c : ℕ) (cs : List ℕ) → is_keyword (c ∷ cs) ≡ false → said (none_hidden cs) (c ∷ escaped cs) ≡ SaidWord
unfolding said
plain_says c cs e = go (none_hidden cs) refl
  where
    go : (t : Bool) → none_hidden cs ≡ t → said (none_hidden cs) (c ∷ escaped cs) ≡ SaidWord
    go false h = rw h refl
    go true h = ap (λ b. said b (c ∷ escaped cs)) h ∙ ap (λ xs. said true (c ∷ xs)) (escaped_plain cs h) ∙ no_keyword (c ∷ cs) e

-- an `N` is printed as it is, and nothing else as an `N`
same_end : (cs : List ℕ) → bytes_eq (escaped cs) [] ≡ bytes_eq cs []
same_end [] = refl
same_end (c ∷ cs) = go (hides_in_word c) refl
  where
    go : (t : Bool) → hides_in_word c ≡ t → bytes_eq (escaped (c ∷ cs)) [] ≡ bytes_eq (c ∷ cs) []
    go true e = rw e refl
    go false e = rw e refl

n_shown : hides_in_word 78 ≡ false
unfolding kind_of
n_shown = refl

no_n : (c : ℕ) → hides_in_word c ≡ true → nat_eq c 78 ≡ false
no_n c h = go (nat_eq c 78) refl
  where
    go : (t : Bool) → nat_eq c 78 ≡ t → nat_eq c 78 ≡ false
    go false e = e
    go true e = let i : c ≡ 78 = eqb-true c 78 e in absurd (let y : true ≡ false = sym h ∙ ap hides_in_word i ∙ n_shown in cc)

same_n : (cs : List ℕ) → bytes_eq (escaped cs) (78 ∷ []) ≡ bytes_eq cs (78 ∷ [])
same_n [] = refl
same_n (c ∷ cs) = go (hides_in_word c) refl
  where
    go : (t : Bool) → hides_in_word c ≡ t → bytes_eq (escaped (c ∷ cs)) (78 ∷ []) ≡ bytes_eq (c ∷ cs) (78 ∷ [])
    go true e = rw (e, no_n c e) refl
    go false e = rw e (ap (λ b. nat_eq c 78 && b) (same_end cs))

plain_names : (c : ℕ) (cs : List ℕ) → is_keyword (c ∷ cs) ≡ false → names_set (c ∷ escaped cs) ≡ false
unfolding names_set
plain_names c cs e = ap (λ b. nat_eq c 73 && b) (same_n cs) ∙ no_in (c ∷ cs) e

-- a printed word, where one may begin: whether it has no backslash, what it says, and that it is no `IN`
unfoldable pub WordRead : Mode → Role → ℕ → Frame → List Frame → ℕ → List ℕ → List ℕ → Type 0
WordRead m role at f fs n w rest = (q : Bool) × (said q w ≡ SaidWord) × (names_set w ≡ false) × (run at (state m f fs) (w ++ rest) ≡ run n (state (word role at w q false) f fs) rest)

module _ (m : Mode) (role : Role) (at : ℕ) (f : Frame) (fs : List Frame)
    (plain : (c : ℕ) → step m at c Plain f fs ≡ Go (state (word role at (c ∷ []) true false) f fs))
    (hidden : step m at 92 Escape f fs ≡ Go (state (word role at (92 ∷ []) false true) f fs)) where
  pub word_reads : (c : ℕ) (cs rest : List ℕ) (n : ℕ) → n ≡ at + length (word_text (c ∷ cs)) → WordRead m role at f fs n (word_text (c ∷ cs)) rest
  unfolding run kind_of said names_set WordRead
  word_reads c cs rest n hn = go (is_keyword (c ∷ cs) || not (is_plain_kind (kind_of c))) refl
    where
      go : (t : Bool) → is_keyword (c ∷ cs) || not (is_plain_kind (kind_of c)) ≡ t → WordRead m role at f fs n (word_text (c ∷ cs)) rest
      go false e =
          let x : (is_keyword (c ∷ cs) ≡ false) × (not (is_plain_kind (kind_of c)) ≡ false) = or_parts (is_keyword (c ∷ cs)) (not (is_plain_kind (kind_of c))) e in
          let l : n ≡ at + length (c ∷ escaped cs) = rw e at hn in
          rw e (
            none_hidden cs,
            plain_says c cs x.0,
            plain_names c cs x.0,
            ap (λ k. go_on at (step m at c k f fs) (λ next. run (at + 1) next (escaped cs ++ rest))) (plain_of (kind_of c) x.1)
                ∙ ap (λ p. go_on at p (λ next. run (at + 1) next (escaped cs ++ rest))) (plain c)
                ∙ rest_run role at f fs cs rest (at + 1) n (c ∷ []) (c ∷ escaped cs) true (none_hidden cs) (omega (arith, l)) refl refl,
          )
      go true e =
          let l : n ≡ at + length (92 ∷ c ∷ escaped cs) = rw e at hn in
          rw e (
            false,
            refl,
            refl,
            ap (λ p. go_on at p (λ next. run (at + 1) next (c ∷ escaped cs ++ rest))) hidden
                ∙ rest_run role at f fs cs rest (at + 1 + 1) n (92 ∷ c ∷ []) (92 ∷ c ∷ escaped cs) false false (omega (arith, l)) refl refl,
          )

-- what may stand behind an operand in a printed text
pub data Delimited : List ℕ → Type 0 where
  at_end : Delimited []
  at_blank : {xs : List ℕ} → Delimited (32 ∷ xs)
  at_close : {xs : List ℕ} → Delimited (41 ∷ xs)

pub word_delimited : {rest : List ℕ} → Delimited rest → (s : Span) (at n : ℕ) (w : List ℕ) (q : Bool) (f : Frame) (fs : List Frame) → said q w ≡ SaidWord → names_set w ≡ false
    → run n (state (word (Fielded s) at w q false) f fs) rest ≡ run n (state (After false) (with_operand f (leaf (Some s) (asks.Word (span at n)))) fs) rest
unfolding run kind_of
word_delimited at_end s at n w q f fs e i = rw e refl
word_delimited at_blank s at n w q f fs e i = rw (e, i) refl
word_delimited at_close s at n w q f fs e i = rw (e, i) refl

pub word_star : (rest : List ℕ) (s : Span) (at n : ℕ) (w : List ℕ) (q : Bool) (f : Frame) (fs : List Frame) → said q w ≡ SaidWord
    → run n (state (word (Fielded s) at w q false) f fs) (42 ∷ rest) ≡ run (n + 1) (state (After false) (with_operand f (leaf (Some s) (asks.Prefix (span at n)))) fs) rest
unfolding run kind_of
word_star rest s at n w q f fs e = rw e refl

pub word_colon : (rest : List ℕ) (at n : ℕ) (w : List ℕ) (q : Bool) (f : Frame) (fs : List Frame) → said q w ≡ SaidWord
    → run n (state (word First at w q false) f fs) (58 ∷ rest) ≡ run (n + 1) (state (Behind (span at n)) f fs) rest
unfolding run kind_of
word_colon rest at n w q f fs e = rw e refl

-- what ends a member of a set
pub data Parted : List ℕ → Type 0 where
  by_blank : {xs : List ℕ} → Parted (32 ∷ xs)
  by_bracket : {xs : List ℕ} → Parted (93 ∷ xs)

pub word_parted : {rest : List ℕ} → Parted rest → (s : Span) (m : ℕ) (ms : List Member) (at n : ℕ) (w : List ℕ) (q : Bool) (f : Frame) (fs : List Frame) → said q w ≡ SaidWord
    → run n (state (word (InASet s m ms) at w q false) f fs) rest ≡ run n (state (InSet s m (ms ++ member at n false ∷ [])) f fs) rest
unfolding run kind_of
word_parted by_blank s m ms at n w q f fs e = rw e refl
word_parted by_bracket s m ms at n w q f fs e = rw e refl

-- a byte of a quote that needs no backslash
quote_kind : (k : Kind) (c : ℕ) (role : Role) (q at : ℕ) (f : Frame) (fs : List Frame) (xs : List ℕ) → kind_of c ≡ k → is_quote_kind k || is_escape_kind k ≡ false
    → run at (state (InQuote role q false) f fs) (c ∷ xs) ≡ run (at + 1) (state (InQuote role q false) f fs) xs
unfolding run
quote_kind Quote c role q at f fs xs e h = absurd (let y : true ≡ false = h in cc)
quote_kind Escape c role q at f fs xs e h = absurd (let y : true ≡ false = h in cc)
quote_kind k c role q at f fs xs e h = ap (λ k. go_on at (step (InQuote role q false) at c k f fs) (λ next. run (at + 1) next xs)) e

-- what a quote hides is a quotation mark or a backslash
hidden_kind : (k : Kind) (c : ℕ) (role : Role) (q at : ℕ) (f : Frame) (fs : List Frame) (xs : List ℕ) → kind_of c ≡ k → is_quote_kind k || is_escape_kind k ≡ true
    → run at (state (InQuote role q false) f fs) (92 ∷ c ∷ xs) ≡ run (at + 1 + 1) (state (InQuote role q false) f fs) xs
unfolding run kind_of
hidden_kind Quote c role q at f fs xs e h = ap (λ k. go_on (at + 1) (step (InQuote role q true) (at + 1) c k f fs) (λ next. run (at + 1 + 1) next xs)) e
hidden_kind Escape c role q at f fs xs e h = ap (λ k. go_on (at + 1) (step (InQuote role q true) (at + 1) c k f fs) (λ next. run (at + 1 + 1) next xs)) e
hidden_kind k c role q at f fs xs e h = absurd (let y : false ≡ true = h in cc)

pub quote_shown : (w rest : List ℕ) (role : Role) (q at n : ℕ) (f : Frame) (fs : List Frame) → n ≡ at + length (hiding hides_in_quote w)
    → run at (state (InQuote role q false) f fs) (hiding hides_in_quote w ++ rest) ≡ run n (state (InQuote role q false) f fs) rest
quote_shown [] rest role q at n f fs e = ap (λ k. run k (state (InQuote role q false) f fs) rest) (let y : at ≡ n = omega (arith, e) in y)
quote_shown (c ∷ cs) rest role q at n f fs e = go (λ at e. quote_shown cs rest role q at n f fs e) (hides_in_quote c) refl
  where
    go : ((at : ℕ) → n ≡ at + length (hiding hides_in_quote cs) → run at (state (InQuote role q false) f fs) (hiding hides_in_quote cs ++ rest) ≡ run n (state (InQuote role q false) f fs) rest)
        → (t : Bool) → hides_in_quote c ≡ t → run at (state (InQuote role q false) f fs) (hiding hides_in_quote (c ∷ cs) ++ rest) ≡ run n (state (InQuote role q false) f fs) rest
    go again true h =
        let l : n ≡ at + length (92 ∷ c ∷ hiding hides_in_quote cs) = rw h at e in
        rw h (hidden_kind (kind_of c) c role q at f fs (hiding hides_in_quote cs ++ rest) refl h ∙ again (at + 1 + 1) (omega (arith, l)))
    go again false h =
        let l : n ≡ at + length (c ∷ hiding hides_in_quote cs) = rw h at e in
        rw h (quote_kind (kind_of c) c role q at f fs (hiding hides_in_quote cs ++ rest) refl h ∙ again (at + 1) (omega (arith, l)))

pub quote_closes : (role : Role) (q i : ℕ) (f : Frame) (fs : List Frame) (xs : List ℕ) → run i (state (InQuote role q false) f fs) (34 ∷ xs) ≡ run (i + 1) (after_quote role q i f fs) xs
unfolding run kind_of
quote_closes role q i f fs xs = refl

-- a quote behind a field and its colon, and in a set
pub quote_behind : (x : Span) (i : ℕ) (f : Frame) (fs : List Frame) (xs : List ℕ) → run i (state (Behind x) f fs) (34 ∷ xs) ≡ run (i + 1) (state (InQuote (Fielded x) (i + 1) false) f fs) xs
unfolding run kind_of
quote_behind x i f fs xs = refl

pub quote_in_set : (x : Span) (m : ℕ) (ms : List Member) (i : ℕ) (f : Frame) (fs : List Frame) (xs : List ℕ) → run i (state (InSet x m ms) f fs) (34 ∷ xs) ≡ run (i + 1) (state (InQuote (InASet x m ms) (i + 1) false) f fs) xs
unfolding run kind_of
quote_in_set x m ms i f fs xs = refl
