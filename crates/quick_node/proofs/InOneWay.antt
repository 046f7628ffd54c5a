-- An input is read in one way: one list of lines and one end, of which each reading that stopped earlier has a front.
use Rattle.std.proofs.Common.{◌≡◌, ◌⊎◌, ℕ, ◌+◌, List, [], ◌∷◌, ◌++◌, refl, sym, ap, ◌∙◌, subst, inl, inr, length, arith}
use Rattle.std.specs.Prelude.{◌≢◌}
use Rattle.node_run.specs.Lines.{Spells}
use Rattle.node_run.specs.Node.{Line}
use Rattle.node_run.proofs.Spelling.{spells_one}
use Rattle.input_lines.specs.Reading.{Within, raw_lines}
use Rattle.quick_node.specs.Reading.{Fit, fits, falls_or_unknown, too_many_clients, fit_of, Ending, all_read, bad_line, clients_over, line_over, input_over, stopped, IsBad, EndsAt, ReadsFrom, Reads}
use Rattle.quick_node.specs.Serve.{IsPrefixOf}

fits_not_falls : fits ≡ falls_or_unknown → ⊥
fits_not_falls e = cc

fits_not_many : fits ≡ too_many_clients → ⊥
fits_not_many e = cc

falls_not_many : falls_or_unknown ≡ too_many_clients → ⊥
falls_not_many e = cc

module _ (readers total at : ℕ) (before : List Line) (raw : List ℕ) where
  -- a bad line doesn't fit, and is one line at most
  not_bad : (line : Line) (fit : Fit) → (fit ≡ falls_or_unknown → ⊥) → Spells raw line → fit_of readers before line ≡ fit → IsBad readers before raw → ⊥
  not_bad line fit other s f (inl none) = none line s
  not_bad line fit other s f (inr bad) =
      other (sym f ∙ ap (fit_of readers before) (spells_one raw line bad.0 s bad.1) ∙ bad.2)

  -- a line that is read is no end but of a reading that stopped earlier
  goes_on : (ending : Ending) (line : Line) → Within total at raw → Spells raw line → fit_of readers before line ≡ fits → ending ≢ stopped →
      EndsAt readers total at before raw ending → ⊥
  goes_on all_read line w s f live e = e
  goes_on (bad_line n) line w s f live e = not_bad line fits fits_not_falls s f e.2
  goes_on clients_over line w s f live e =
      let over = e.1 in fits_not_many (sym f ∙ ap (fit_of readers before) (spells_one raw line over.0 s over.1) ∙ over.2)
  goes_on line_over line w s f live e = omega (arith, w.0, e.0)
  goes_on input_over line w s f live e = omega (arith, w.1, e.0)
  goes_on stopped line w s f live e = live refl

  bad_not_over : (number : ℕ) → EndsAt readers total at before raw (bad_line number) → EndsAt readers total at before raw clients_over → ⊥
  bad_not_over number b o = let over = o.1 in not_bad over.0 too_many_clients (λ e. falls_not_many (sym e)) over.1 over.2 b.2

  line_not_input : EndsAt readers total at before raw line_over → EndsAt readers total at before raw input_over → ⊥
  line_not_input l i = i.1 l

  ends_one : (a b : Ending) → a ≢ stopped → b ≢ stopped → EndsAt readers total at before raw a → EndsAt readers total at before raw b → a ≡ b
  ends_one all_read b la lb ea eb = absurd ea
  ends_one (bad_line n) all_read la lb ea eb = absurd eb
  ends_one (bad_line n) (bad_line m) la lb ea eb = ap bad_line (ea.1 ∙ sym eb.1)
  ends_one (bad_line n) clients_over la lb ea eb = absurd (bad_not_over n ea eb)
  ends_one (bad_line n) line_over la lb ea eb = absurd (omega (arith, ea.0.0, eb.0))
  ends_one (bad_line n) input_over la lb ea eb = absurd (omega (arith, ea.0.1, eb.0))
  ends_one clients_over all_read la lb ea eb = absurd eb
  ends_one clients_over (bad_line m) la lb ea eb = absurd (bad_not_over m eb ea)
  ends_one clients_over clients_over la lb ea eb = refl
  ends_one clients_over line_over la lb ea eb = absurd (omega (arith, ea.0.0, eb.0))
  ends_one clients_over input_over la lb ea eb = absurd (omega (arith, ea.0.1, eb.0))
  ends_one line_over all_read la lb ea eb = absurd eb
  ends_one line_over (bad_line m) la lb ea eb = absurd (omega (arith, eb.0.0, ea.0))
  ends_one line_over clients_over la lb ea eb = absurd (omega (arith, eb.0.0, ea.0))
  ends_one line_over line_over la lb ea eb = refl
  ends_one line_over input_over la lb ea eb = absurd (line_not_input ea eb)
  ends_one input_over all_read la lb ea eb = absurd eb
  ends_one input_over (bad_line m) la lb ea eb = absurd (omega (arith, eb.0.1, ea.0))
  ends_one input_over clients_over la lb ea eb = absurd (omega (arith, eb.0.1, ea.0))
  ends_one input_over line_over la lb ea eb = absurd (line_not_input eb ea)
  ends_one input_over input_over la lb ea eb = refl
  ends_one a stopped la lb ea eb = absurd (lb refl)
  ends_one stopped b la lb ea eb = absurd (la refl)

end_one : (a b : Ending) → a ≢ stopped → b ≢ stopped → (a ≡ all_read) ⊎ (a ≡ stopped) → (b ≡ all_read) ⊎ (b ≡ stopped) → a ≡ b
end_one a b la lb (inl x) (inl y) = x ∙ sym y
end_one a b la lb (inl x) (inr y) = absurd (lb y)
end_one a b la lb (inr x) y = absurd (la x)

-- a reading that may have stopped earlier, and one that didn't: a front of its lines, and else the same
pub record OneReading (lines full : List Line) (ending whole : Ending) : Type 0 where
  pub front : IsPrefixOf lines full
  pub same : ending ≢ stopped → (lines ≡ full) × (ending ≡ whole)

one_more : (line : Line) (lines full : List Line) (ending whole : Ending) → OneReading lines full ending whole → OneReading (line ∷ lines) (line ∷ full) ending whole
one_more line lines full ending whole o =
    record {
      front = (o.front.0, ap (λ ls. line ∷ ls) o.front.1);
      same = λ live. let s = o.same live in (ap (λ ls. line ∷ ls) s.0, s.1);
    }

pub reads_one : (readers total at : ℕ) (before : List Line) (raws : List (List ℕ)) (lines full : List Line) (ending whole : Ending) → whole ≢ stopped →
    ReadsFrom readers total at before raws lines ending → ReadsFrom readers total at before raws full whole → OneReading lines full ending whole
reads_one readers total at before [] [] [] ending whole live r w =
    record { front = ([], refl); same = λ l. (refl, end_one ending whole l live r w) }
reads_one readers total at before [] [] (f ∷ full) ending whole live r w = absurd w
reads_one readers total at before [] (l ∷ lines) full ending whole live r w = absurd r
reads_one readers total at before (raw ∷ raws) [] [] ending whole live r w =
    record { front = ([], refl); same = λ l. (refl, ends_one readers total at before raw ending whole l live r w) }
reads_one readers total at before (raw ∷ raws) [] (f ∷ full) ending whole live r w =
    record { front = (f ∷ full, refl); same = λ l. absurd (goes_on readers total at before raw ending f w.0 w.1 w.2 l r) }
reads_one readers total at before (raw ∷ raws) (l ∷ lines) [] ending whole live r w =
    absurd (goes_on readers total at before raw whole l r.0 r.1 r.2 live w)
reads_one readers total at before (raw ∷ raws) (l ∷ lines) (f ∷ full) ending whole live r w =
    subst (λ x. OneReading (l ∷ lines) (x ∷ full) ending whole) same
    (one_more l lines full ending whole
    (reads_one readers total (at + length raw + 1) (before ++ l ∷ []) raws lines full ending whole live r.3
    (subst (λ x. ReadsFrom readers total (at + length raw + 1) (before ++ x ∷ []) raws full whole) (sym same) w.3)))
  where
    same : l ≡ f
    same = spells_one raw l f r.1 w.1

pub reads_in_one_way : (readers : ℕ) (input : List ℕ) (lines full : List Line) (ending whole : Ending) → ending ≢ stopped → whole ≢ stopped →
    Reads readers input lines ending → Reads readers input full whole → (lines ≡ full) × (ending ≡ whole)
reads_in_one_way readers input lines full ending whole la lb a b =
    (reads_one readers (length input) 0 [] (raw_lines input) lines full ending whole lb a b).same la

pub stopped_is_front : (readers : ℕ) (input : List ℕ) (lines full : List Line) (ending whole : Ending) → whole ≢ stopped →
    Reads readers input lines ending → Reads readers input full whole → IsPrefixOf lines full
stopped_is_front readers input lines full ending whole lb a b =
    (reads_one readers (length input) 0 [] (raw_lines input) lines full ending whole lb a b).front
