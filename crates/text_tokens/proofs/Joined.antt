-- Runs that grow at their end.
use Rattle.std.proofs.Common.{◌≡◌, ℕ, suc, ◌+◌, ◌==◌, ◌<◌, ◌≤◌, Bool, true, false, List, [], ◌∷◌, ◌++◌, length, encode_utf8, refl, sym, ap, ◌∙◌, subst, arith, append_assoc, length-append, if◌then◌else◌, inl, inr, eq-eqb}
use Rattle.std.proofs.lemmas.Bool.Decides.{nat_tests}
use Rattle.std.specs.Str.{chars, IsUtf8}
use Rattle.std.proofs.lemmas.Str.{length-encode, len_utf8_bounds, chars_past_char, chars-nil}
use Rattle.text_tokens.specs.declared.runs.Cut.{Cut}
use Rattle.text_tokens.specs.declared.runs.Run.{Run}
use Rattle.text_tokens.specs.Runs.{is_inside, single, joined_to, runs_from, closed, closed_by}

-- a run that may still be empty, before other runs
abbrev pub grown_by : List ℕ → Run → List Run → List Run
grown_by [] run runs = runs
grown_by (b ∷ bs) run runs = joined_to run runs

abbrev pub grown : Run → List Run → List Run
grown run runs = grown_by run.text run runs

-- the run with one more character
abbrev pub longer : Run → ℕ → Run
longer run c = record { text = run.text ++ encode_utf8 c; from = run.from; to = run.to + length (encode_utf8 c) }

-- two runs that touch, before other runs
touching : (a b : Run) (runs : List Run) → a.to ≡ b.from
    → joined_to a (joined_to b runs) ≡ joined_to (record { text = a.text ++ b.text; from = a.from; to = b.to }) runs
touching a b [] e = let same : (a.to == b.from) ≡ true = eq-eqb _ _ e in rw same refl
touching a b (r ∷ runs) e =
    let same : (a.to == b.from) ≡ true = eq-eqb _ _ e in
    elim (b.to == r.from) as (λ t. joined_to a (if t then record { text = b.text ++ r.text; from = b.from; to = r.to } ∷ runs else b ∷ r ∷ runs)
    ≡ (if t then record { text = (a.text ++ b.text) ++ r.text; from = a.from; to = r.to } ∷ runs else record { text = a.text ++ b.text; from = a.from; to = b.to } ∷ r ∷ runs))
    [ true ↦ rw (same, append_assoc) refl | false ↦ rw same refl ]

-- the first run begins at this byte or behind it
abbrev pub BeginsAt : ℕ → List Run → Type 0
BeginsAt at [] = Unit {0}
BeginsAt at (r ∷ rs) = at ≤ r.from

joined-begins : (run : Run) (runs : List Run) (at : ℕ) → at ≤ run.from → BeginsAt at (joined_to run runs)
joined-begins run [] at h = h
joined-begins run (r ∷ runs) at h =
    elim (run.to == r.from) as (λ t. BeginsAt at (if t then record { text = run.text ++ r.text; from = run.from; to = r.to } ∷ runs else run ∷ r ∷ runs))
    [ true ↦ h | false ↦ h ]

begins-later : (at later : ℕ) (runs : List Run) → at ≤ later → BeginsAt later runs → BeginsAt at runs
begins-later at later [] h b = tt
begins-later at later (r ∷ rs) h b = omega arith

pub runs-begin : (cut : Cut) (at : ℕ) (cs : List ℕ) → BeginsAt at (runs_from cut at cs)
runs-begin cut at [] = tt
runs-begin cut at (c ∷ cs) =
    let next = at + length (encode_utf8 c) in
    elim (is_inside cut c) as (λ t. BeginsAt at (if t then joined_to (single at c) (runs_from cut next cs) else runs_from cut next cs)) [
      | true ↦ joined-begins (single at c) (runs_from cut next cs) at (omega arith)
      | false ↦ begins-later at next (runs_from cut next cs) (omega arith) (runs-begin cut next cs)
    ]

apart : (run : Run) (runs : List Run) (at : ℕ) → BeginsAt at runs → run.to < at → joined_to run runs ≡ run ∷ runs
apart run [] at b h = refl
apart run (r ∷ runs) at b h = let other : (run.to == r.from) ≡ false = grind (arith, nat_tests) in rw other refl

pub encode-long : (c : ℕ) → 0 < length (encode_utf8 c)
encode-long c = omega (arith, length-encode c, (len_utf8_bounds c).0)

-- a run that may be empty, and has bytes now
grown-full : (bytes : List ℕ) (run : Run) (runs : List Run) → run.text ≡ bytes → 0 < length bytes → grown run runs ≡ joined_to run runs
grown-full [] run runs e h = absurd (omega arith)
grown-full (b ∷ bs) run runs e h = rw e refl

-- a character of the run
inside_by : (bytes : List ℕ) (run : Run) (c : ℕ) (rest : List Run) → run.text ≡ bytes → run.from + length bytes ≡ run.to
    → grown run (joined_to (single run.to c) rest) ≡ grown (longer run c) rest
inside_by [] run c rest e f =
    let same : run.from ≡ run.to = omega arith in
    let long : 0 < length (longer run c).text = omega (arith, length-append run.text (encode_utf8 c), encode-long c) in
    let text : run.text ++ encode_utf8 c ≡ encode_utf8 c = rw e refl in
    let whole : longer run c ≡ single run.to c = λ i. record { text = text i; from = same i; to = run.to + length (encode_utf8 c) } in
    let none : grown run (joined_to (single run.to c) rest) ≡ joined_to (single run.to c) rest = rw e refl in
    none ∙ ap (λ r. joined_to r rest) (sym whole) ∙ sym (grown-full (longer run c).text (longer run c) rest refl long)
inside_by (b ∷ bs) run c rest e f =
    let long : 0 < length (longer run c).text = omega (arith, length-append run.text (encode_utf8 c), encode-long c) in
    let begun : 0 < length (b ∷ bs) = omega arith in
    grown-full (b ∷ bs) run (joined_to (single run.to c) rest) e begun
    ∙ touching run (single run.to c) rest refl
    ∙ sym (grown-full (longer run c).text (longer run c) rest refl long)

pub grown-inside : (cut : Cut) (run : Run) (c : ℕ) (cs : List ℕ) → is_inside cut c ≡ true → run.from + length run.text ≡ run.to
    → grown run (runs_from cut run.to (c ∷ cs)) ≡ grown (longer run c) (runs_from cut (run.to + length (encode_utf8 c)) cs)
grown-inside cut run c cs is f = rw is (inside_by run.text run c (runs_from cut (run.to + length (encode_utf8 c)) cs) refl f)

-- a run that ends, since no further run touches it
ends_by : (bytes : List ℕ) (run : Run) (runs : List Run) (at : ℕ) → BeginsAt at runs → run.to < at → grown_by bytes run runs ≡ closed_by bytes run ++ runs
ends_by [] run runs at b h = refl
ends_by (x ∷ xs) run runs at b h = apart run runs at b h

pub grown-outside : (cut : Cut) (run : Run) (c : ℕ) (cs : List ℕ) → is_inside cut c ≡ false
    → grown run (runs_from cut run.to (c ∷ cs)) ≡ closed run ++ runs_from cut (run.to + length (encode_utf8 c)) cs
grown-outside cut run c cs is =
    let next = run.to + length (encode_utf8 c) in
    rw is (ends_by run.text run (runs_from cut next cs) next (runs-begin cut next cs) (omega (arith, encode-long c)))

grown_by-end : (bytes : List ℕ) (run : Run) → grown_by bytes run [] ≡ closed_by bytes run
grown_by-end [] run = refl
grown_by-end (x ∷ xs) run = refl

pub grown-end : (run : Run) → grown run [] ≡ closed run
grown-end run = grown_by-end run.text run

-- one turn of the scan, at a character of a run
pub step-inside : (cut : Cut) (all done : List Run) (run : Run) (c w : ℕ) (text bytes rest : List ℕ)
    → all ≡ done ++ grown run (runs_from cut run.to (chars bytes)) → IsUtf8 bytes → bytes ≡ encode_utf8 c ++ rest
    → is_inside cut c ≡ true → run.from + length run.text ≡ run.to → text ≡ run.text ++ encode_utf8 c → w ≡ length (encode_utf8 c)
    → all ≡ done ++ grown (record { text = text; from = run.from; to = run.to + w }) (runs_from cut (run.to + w) (chars rest))
step-inside cut all done run c w text bytes rest h u e is f t v =
    let cs = chars_past_char bytes rest c u e in
    rw (t, v) (h ∙ ap (λ r. done ++ r) (ap (λ x. grown run (runs_from cut run.to x)) cs ∙ grown-inside cut run c (chars rest) is f))

-- and at a character that ends a run
pub step-outside : (cut : Cut) (all done more : List Run) (run : Run) (c w : ℕ) (none bytes rest : List ℕ)
    → all ≡ done ++ grown run (runs_from cut run.to (chars bytes)) → IsUtf8 bytes → bytes ≡ encode_utf8 c ++ rest
    → is_inside cut c ≡ false → more ≡ done ++ closed run → none ≡ [] → w ≡ length (encode_utf8 c)
    → all ≡ more ++ grown (record { text = none; from = run.to + w; to = run.to + w }) (runs_from cut (run.to + w) (chars rest))
step-outside cut all done more run c w none bytes rest h u e is m n v =
    let cs = chars_past_char bytes rest c u e in
    rw (n, v, m) (h ∙ ap (λ r. done ++ r) (ap (λ x. grown run (runs_from cut run.to x)) cs ∙ grown-outside cut run c (chars rest) is)
    ∙ sym (append_assoc done (closed run) (runs_from cut (run.to + length (encode_utf8 c)) (chars rest))))

-- and at the end
pub step-end : (cut : Cut) (all done more : List Run) (run : Run) (bytes : List ℕ)
    → all ≡ done ++ grown run (runs_from cut run.to (chars bytes)) → length bytes ≡ 0 → more ≡ done ++ closed run → more ≡ all
step-end cut all done more run [] h n m = m ∙ sym (h ∙ ap (λ r. done ++ r) (rw chars-nil (grown-end run)))
step-end cut all done more run (b ∷ bs) h n m = absurd (omega arith)
