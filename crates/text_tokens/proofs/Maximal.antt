-- The runs of a text are its maximal runs.
use Rattle.std.proofs.Common.{◌≡◌, ◌≢◌, ℕ, ◌+◌, ◌==◌, ◌<◌, ◌≤◌, Bool, true, false, List, [], ◌∷◌, ◌++◌, length, encode_utf8, refl, sym, ap, ◌∙◌, subst, arith, append-nil, length-append, if◌then◌else◌}
use Rattle.std.proofs.lemmas.Bool.Decides.{nat_tests}
use Rattle.std.specs.Prelude.{encode_utf8_all}
use Rattle.text_tokens.specs.declared.runs.Cut.{Cut}
use Rattle.text_tokens.specs.declared.runs.Run.{Run}
use Rattle.text_tokens.specs.Runs.{is_inside, single, joined_to, runs_from, AllOutside, AllInside, Stops, IsFirstRun, AreMaximalRuns}
use Rattle.text_tokens.proofs.Joined.{encode-long}

-- one more character of no run before all
gap-grows : (cut : Cut) (at c : ℕ) (cs : List ℕ) (runs : List Run) → is_inside cut c ≡ false
    → AreMaximalRuns cut (at + length (encode_utf8 c)) cs runs → AreMaximalRuns cut at (c ∷ cs) runs
gap-grows cut at c cs [] is h = (is, h)
gap-grows cut at c cs (run ∷ runs) is (gap, word, rest, first, more) = (
  c ∷ gap,
  word,
  rest,
  record {
    whole = ap (λ x. c ∷ x) first.whole;
    outside = (is, first.outside);
    inside = first.inside;
    begins = first.begins;
    stops = first.stops;
    bytes = first.bytes;
    from = omega (arith, first.from, length-append (encode_utf8 c) (encode_utf8_all gap));
    to = first.to;
  },
  more,
)

outside-stops : (cut : Cut) (cs : List ℕ) → AllOutside cut cs → Stops cut cs
outside-stops cut [] h = tt
outside-stops cut (c ∷ cs) h = h.0

not-empty : (c : ℕ) (cs : List ℕ) → (c ∷ cs) ≢ []
not-empty c cs = λ e. cc

-- a run of one character, which stops behind it
alone : (cut : Cut) (at c : ℕ) (cs : List ℕ) → is_inside cut c ≡ true → Stops cut cs → IsFirstRun cut at (c ∷ cs) [] (c ∷ []) cs (single at c)
alone cut at c cs is stops = record {
  whole = refl;
  outside = tt;
  inside = (is, tt);
  begins = not-empty c [];
  stops = stops;
  bytes = sym (append-nil (encode_utf8 c));
  from = omega arith;
  to = refl;
}

-- a character of a run before all
run-grows : (cut : Cut) (at c : ℕ) (cs : List ℕ) (runs : List Run) → is_inside cut c ≡ true
    → AreMaximalRuns cut (at + length (encode_utf8 c)) cs runs → AreMaximalRuns cut at (c ∷ cs) (joined_to (single at c) runs)
run-grows cut at c cs [] is h = ([], c ∷ [], cs, alone cut at c cs is (outside-stops cut cs h), h)
run-grows cut at c cs (run ∷ runs) is ([], word, rest, first, more) =
    let touch : (at + length (encode_utf8 c) == run.from) ≡ true = grind (arith, nat_tests, first.from) in
    let longer : IsFirstRun cut at (c ∷ cs) [] (c ∷ word) rest (record { text = encode_utf8 c ++ run.text; from = at; to = run.to }) = record {
      whole = ap (λ x. c ∷ x) first.whole;
      outside = tt;
      inside = (is, first.inside);
      begins = not-empty c word;
      stops = first.stops;
      bytes = ap (λ x. encode_utf8 c ++ x) first.bytes;
      from = omega arith;
      to = omega (arith, first.from, first.to, length-append (encode_utf8 c) run.text);
    } in
    rw touch ([], c ∷ word, rest, longer, more)
run-grows cut at c cs (run ∷ runs) is (g ∷ gap, word, rest, first, more) =
    let apart : (at + length (encode_utf8 c) == run.from) ≡ false =
    grind (arith, nat_tests, first.from, length-append (encode_utf8 g) (encode_utf8_all gap), encode-long g) in
    let stops : Stops cut cs = subst (λ (x : List ℕ). Stops cut x) (sym first.whole) first.outside.0 in
    rw apart ([], c ∷ [], cs, alone cut at c cs is stops, (g ∷ gap, word, rest, first, more))

pub runs-maximal : (cut : Cut) (at : ℕ) (cs : List ℕ) → AreMaximalRuns cut at cs (runs_from cut at cs)
runs-maximal cut at [] = tt
runs-maximal cut at (c ∷ cs) =
    let next = at + length (encode_utf8 c) in
    let rest = runs-maximal cut next cs in
    elim (is_inside cut c) as (λ b. is_inside cut c ≡ b → AreMaximalRuns cut at (c ∷ cs) (if b then joined_to (single at c) (runs_from cut next cs) else runs_from cut next cs)) [
      | true ↦ λ is. run-grows cut at c cs (runs_from cut next cs) is rest
      | false ↦ λ is. gap-grows cut at c cs (runs_from cut next cs) is rest
    ] refl
