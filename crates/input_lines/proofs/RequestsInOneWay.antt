-- An input is read as requests in one way.
use Rattle.std.proofs.Common.{◌≡◌, ◌⊎◌, ℕ, ◌+◌, List, [], ◌∷◌, ◌++◌, refl, sym, ap, ◌∙◌, subst, inl, inr, length, arith}
use Rattle.input_lines.specs.Request.{Asks, AsksNothing}
use Rattle.input_lines.proofs.Asked.{asks_one}
use Rattle.input_lines.specs.Reading.{Within, raw_lines}
use Rattle.input_lines.specs.Requests.{EndsAt, Fits, IsFault, IsOfTooMany, IsTooMany, Reads, ReadsFrom}
use Rattle.run_plan.specs.declared.clients.Request.{Request}
use Rattle.input_lines.specs.declared.requests.ReadEnd.{ReadEnd}
use Rattle.input_lines.specs.declared.requests.ReadEnd.TheVariants as ends

module _ (total at : ℕ) (before : List Request) (raw : List ℕ) where
  -- a request within the limits is no end but of a fault
  goes_on : (end : ReadEnd) (request : Request) → Within total at raw → Asks raw request → Fits before request → ¬ (IsFault end) → EndsAt total at before raw end → ⊥
  goes_on ends.Whole request w asks fits live e = e
  goes_on (ends.BadLine n) request w asks fits live e = e.2 request asks
  goes_on ends.RequestsOver request w asks fits live e = let over = e.1.2 in omega (arith, fits.0, over)
  goes_on ends.ClientsOver request w asks fits live e =
      let same = asks_one raw request e.1.0 asks e.1.1 in
      let over = subst (IsOfTooMany before) (sym same) e.1.2 in
      omega (arith, fits.1, over.1)
  goes_on ends.LineOver request w asks fits live e = omega (arith, w.0, e.0)
  goes_on ends.InputOver request w asks fits live e = omega (arith, w.1, e.0)
  goes_on ends.Fault request w asks fits live e = live tt

  ends_one : (a b : ReadEnd) → ¬ (IsFault a) → ¬ (IsFault b) → EndsAt total at before raw a → EndsAt total at before raw b → a ≡ b
  ends_one ends.Whole b la lb ea eb = absurd ea
  ends_one ends.Fault b la lb ea eb = absurd (la tt)
  ends_one (ends.BadLine n) ends.Whole la lb ea eb = absurd eb
  ends_one (ends.BadLine n) (ends.BadLine m) la lb ea eb = ap ends.BadLine (ea.1 ∙ sym eb.1)
  ends_one (ends.BadLine n) ends.RequestsOver la lb ea eb = absurd (ea.2 eb.1.0 eb.1.1)
  ends_one (ends.BadLine n) ends.ClientsOver la lb ea eb = absurd (ea.2 eb.1.0 eb.1.1)
  ends_one (ends.BadLine n) ends.LineOver la lb ea eb = absurd (omega (arith, ea.0.0, eb.0))
  ends_one (ends.BadLine n) ends.InputOver la lb ea eb = absurd (omega (arith, ea.0.1, eb.0))
  ends_one (ends.BadLine n) ends.Fault la lb ea eb = absurd (lb tt)
  ends_one ends.RequestsOver ends.Whole la lb ea eb = absurd eb
  ends_one ends.RequestsOver (ends.BadLine m) la lb ea eb = absurd (eb.2 ea.1.0 ea.1.1)
  ends_one ends.RequestsOver ends.RequestsOver la lb ea eb = refl
  ends_one ends.RequestsOver ends.ClientsOver la lb ea eb = let many = ea.1.2 in let few = eb.1.2.0 in absurd (omega (arith, many, few))
  ends_one ends.RequestsOver ends.LineOver la lb ea eb = absurd (omega (arith, ea.0.0, eb.0))
  ends_one ends.RequestsOver ends.InputOver la lb ea eb = absurd (omega (arith, ea.0.1, eb.0))
  ends_one ends.RequestsOver ends.Fault la lb ea eb = absurd (lb tt)
  ends_one ends.ClientsOver ends.Whole la lb ea eb = absurd eb
  ends_one ends.ClientsOver (ends.BadLine m) la lb ea eb = absurd (eb.2 ea.1.0 ea.1.1)
  ends_one ends.ClientsOver ends.RequestsOver la lb ea eb = let many = eb.1.2 in let few = ea.1.2.0 in absurd (omega (arith, many, few))
  ends_one ends.ClientsOver ends.ClientsOver la lb ea eb = refl
  ends_one ends.ClientsOver ends.LineOver la lb ea eb = absurd (omega (arith, ea.0.0, eb.0))
  ends_one ends.ClientsOver ends.InputOver la lb ea eb = absurd (omega (arith, ea.0.1, eb.0))
  ends_one ends.ClientsOver ends.Fault la lb ea eb = absurd (lb tt)
  ends_one ends.LineOver ends.Whole la lb ea eb = absurd eb
  ends_one ends.LineOver (ends.BadLine m) la lb ea eb = absurd (omega (arith, eb.0.0, ea.0))
  ends_one ends.LineOver ends.RequestsOver la lb ea eb = absurd (omega (arith, eb.0.0, ea.0))
  ends_one ends.LineOver ends.ClientsOver la lb ea eb = absurd (omega (arith, eb.0.0, ea.0))
  ends_one ends.LineOver ends.LineOver la lb ea eb = refl
  ends_one ends.LineOver ends.InputOver la lb ea eb = absurd (eb.1 ea)
  ends_one ends.LineOver ends.Fault la lb ea eb = absurd (lb tt)
  ends_one ends.InputOver ends.Whole la lb ea eb = absurd eb
  ends_one ends.InputOver (ends.BadLine m) la lb ea eb = absurd (omega (arith, eb.0.1, ea.0))
  ends_one ends.InputOver ends.RequestsOver la lb ea eb = absurd (omega (arith, eb.0.1, ea.0))
  ends_one ends.InputOver ends.ClientsOver la lb ea eb = absurd (omega (arith, eb.0.1, ea.0))
  ends_one ends.InputOver ends.LineOver la lb ea eb = absurd (ea.1 eb)
  ends_one ends.InputOver ends.InputOver la lb ea eb = refl
  ends_one ends.InputOver ends.Fault la lb ea eb = absurd (lb tt)

at_end : (a b : ReadEnd) → ¬ (IsFault a) → ¬ (IsFault b) → (a ≡ ends.Whole) ⊎ (a ≡ ends.Fault) → (b ≡ ends.Whole) ⊎ (b ≡ ends.Fault) → a ≡ b
at_end a b la lb (inl x) (inl y) = x ∙ sym y
at_end a b la lb (inl x) (inr y) = absurd (lb (subst IsFault (sym y) tt))
at_end a b la lb (inr x) y = absurd (la (subst IsFault (sym x) tt))

end_one : (total at : ℕ) (before : List Request) (raws : List (List ℕ)) (ones others : List Request) (a b : ReadEnd) → ¬ (IsFault a) → ¬ (IsFault b) →
    ReadsFrom total at before raws ones a → ReadsFrom total at before raws others b → (ones ≡ others) × (a ≡ b)
end_one total at before [] [] [] a b la lb r s = (refl, at_end a b la lb r s)
end_one total at before [] [] (y ∷ ys) a b la lb r s = absurd s
end_one total at before [] (x ∷ xs) ys a b la lb r s = absurd r
end_one total at before (raw ∷ raws) [] [] a b la lb r s = (refl, ends_one total at before raw a b la lb r s)
end_one total at before (raw ∷ raws) [] (y ∷ ys) a b la lb r s = absurd (goes_on total at before raw a y s.0 s.1 s.2 la r)
end_one total at before (raw ∷ raws) (x ∷ xs) [] a b la lb r s = absurd (goes_on total at before raw b x r.0 r.1 r.2 lb s)
end_one total at before (raw ∷ raws) (x ∷ xs) (y ∷ ys) a b la lb r s =
    let same : x ≡ y = asks_one raw x y r.1 s.1 in
    let more : (xs ≡ ys) × (a ≡ b) = end_one total (at + length raw + 1) (before ++ x ∷ []) raws xs ys a b la lb r.3
    (subst (λ (z : Request). ReadsFrom total (at + length raw + 1) (before ++ z ∷ []) raws ys b) (sym same) s.3) in
    (ap (λ (z : Request). z ∷ xs) same ∙ ap (λ zs. y ∷ zs) more.0, more.1)

pub requests_in_one_way : (input : List ℕ) (ones others : List Request) (a b : ReadEnd) → ¬ (IsFault a) → ¬ (IsFault b) → Reads input ones a → Reads input others b → (ones ≡ others) × (a ≡ b)
requests_in_one_way input ones others a b la lb r s = end_one (length input) 0 [] (raw_lines input) ones others a b la lb r s
