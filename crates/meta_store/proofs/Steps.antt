-- One turn of a loop over parts, ranges or numbers.
use Rattle.std.proofs.Common.{◌≡◌, ℕ, ◌+◌, ◌<◌, suc, List, [], ◌∷◌, ◌++◌, length, take, drop, get_or, Result, Ok, Option, None, Some, SomeIff, refl, sym, ap, ◌∙◌, arith, subst}
use Rattle.std.proofs.lemmas.List.{append_assoc, map-append, length-take-le}
use Rattle.std.proofs.Math.Seq.{take-suc, take-append_seam, drop-append_seam, drop-cons}
use Rattle.source_checkpoint.specs.declared.delta.Part.{Part}
use Rattle.source_checkpoint.specs.declared.span.Span.{Span}
use Rattle.source_checkpoint.specs.Deltas.{span_of, spans_of}
use Rattle.split_states.specs.declared.refusal.StateRefusal.{StateRefusal}
use Rattle.meta_store.specs.Answers.{answer_to_each}
use Rattle.meta_store.specs.Retired.{with_range}
use Rattle.meta_store.proofs.Retiring.{next_of, same_head}

taken_next : {X : Type 0} (xs : List X) (i : ℕ) (x : X) → i < length xs → x ≡ get_or xs i x → take (i + 1) xs ≡ take i xs ++ x ∷ []
taken_next xs i x lt is =
    let one : suc i ≡ i + 1 = omega arith in
    subst (λ y. take (i + 1) xs ≡ take i xs ++ y ∷ []) (sym is) (subst (λ j. take j xs ≡ take i xs ++ get_or xs i x ∷ []) one (take-suc xs i x lt))

-- the part at this place is staged behind those before it
pub filled_next : (k : ℕ) (parts : List Part) (i : ℕ) (part : Part) (before spans : List Span) → i < length parts → part ≡ get_or parts i part →
    spans ≡ before ++ spans_of k (take i parts) → spans ++ span_of k part ∷ [] ≡ before ++ spans_of k (take (i + 1) parts)
filled_next k parts i part before spans lt is e =
    ap (λ l. l ++ span_of k part ∷ []) e
    ∙ (append_assoc before (spans_of k (take i parts)) (span_of k part ∷ [])
    ∙ ap (λ l. before ++ l) (sym (map-append (span_of k) (take i parts) (part ∷ [])) ∙ ap (spans_of k) (sym (taken_next parts i part lt is))))

-- the kept range at this place lies before the other
pub passes : (r s : Part) (ranges : List Part) (i : ℕ) → i < length ranges → s ≡ get_or ranges i s →
    ((more : List Part) → with_range r (s ∷ more) ≡ s ∷ with_range r more) →
    take i ranges ++ with_range r (drop i ranges) ≡ take (i + 1) ranges ++ with_range r (drop (i + 1) ranges)
passes r s ranges i lt is joins =
    ap (λ l. take i ranges ++ with_range r l) (next_of ranges i s lt is)
    ∙ (ap (λ l. take i ranges ++ l) (joins (drop (i + 1) ranges))
    ∙ (sym (append_assoc (take i ranges) (s ∷ []) (with_range r (drop (i + 1) ranges)))
    ∙ ap (λ l. l ++ with_range r (drop (i + 1) ranges)) (sym (taken_next ranges i s lt is))))

seam : (xs ys : List Part) (i : ℕ) (f : List Part → List Part) → length xs ≡ i → take i (xs ++ ys) ++ f (drop i (xs ++ ys)) ≡ xs ++ f ys
seam xs ys i f e =
    subst (λ j. take j (xs ++ ys) ++ f (drop j (xs ++ ys)) ≡ xs ++ f ys) e
    (ap (λ l. l ++ f (drop (length xs) (xs ++ ys))) (take-append_seam xs ys) ∙ ap (λ l. xs ++ f l) (drop-append_seam xs ys))

-- the kept range at this place ends where the other begins, and is taken out
pub ends_there : (r s t : Part) (ranges new : List Part) (i : ℕ) → i < length ranges → s ≡ get_or ranges i s → t ≡ get_or ranges i t →
    ((more : List Part) → with_range r (s ∷ more) ≡ with_range (record r { from = s.from }) more) →
    new ≡ take i ranges ++ drop (i + 1) ranges →
    take i ranges ++ with_range r (drop i ranges) ≡ take i new ++ with_range (record r { from = t.from }) (drop i new)
ends_there r s t ranges new i lt is_s is_t joins e =
    let head : drop i ranges ≡ s ∷ drop (i + 1) ranges = next_of ranges i s lt is_s in
    let same : s ≡ t = same_head (drop i ranges) (drop (i + 1) ranges) s t head (next_of ranges i t lt is_t) in
    ap (λ l. take i ranges ++ with_range r l) head
    ∙ (ap (λ l. take i ranges ++ l) (joins (drop (i + 1) ranges))
    ∙ (ap (λ x. take i ranges ++ with_range (record r { from = x.from }) (drop (i + 1) ranges)) same
    ∙ (sym (seam (take i ranges) (drop (i + 1) ranges) i (with_range (record r { from = t.from })) (length-take-le i ranges (omega arith)))
    ∙ ap (λ l. take i l ++ with_range (record r { from = t.from }) (drop i l)) (sym e))))

number_next : (numbers : List ℕ) (i : ℕ) → i < length numbers → drop i numbers ≡ get_or numbers i 0 ∷ drop (i + 1) numbers
number_next numbers i lt =
    let one : suc i ≡ i + 1 = omega arith in
    subst (λ j. drop i numbers ≡ get_or numbers i 0 ∷ drop j numbers) one (drop-cons numbers i 0 lt)

-- a number whose answer is no refusal
pub each_next : (answer : ℕ → Result (Unit {0}) StateRefusal) (numbers : List ℕ) (i : ℕ) (u : Unit {0}) → i < length numbers → answer (get_or numbers i 0) ≡ Ok u →
    answer_to_each answer (drop (i + 1) numbers) ≡ answer_to_each answer (drop i numbers)
each_next answer numbers i u lt e = sym (ap (answer_to_each answer) (number_next numbers i lt) ∙ rw e refl)

-- a sum that is in range
pub sum_held : (answer : Option ℕ) (P : Type 0) (sum x : ℕ) → SomeIff answer P sum → answer ≡ Some x → x ≡ sum
sum_held None P sum x h e = cc e
sum_held (Some y) P sum x h e = let same : y ≡ x = cc e in sym same ∙ h.1
