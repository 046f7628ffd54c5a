-- What is written one behind another.
use Rattle.std.proofs.Common.{◌≡◌, ℕ, ◌+◌, ◌<◌, ◌≤◌, List, [], ◌∷◌, ◌++◌, length, get_or, take, refl, sym, ap, ◌∙◌, append_assoc}
use Rattle.std.proofs.lemmas.List.{take_more, take_all, append-nil}
use Rattle.byte_fields.specs.Spelling.{varint}
use Rattle.meta_journal.specs.declared.entry.Entry.{Entry}
use Rattle.meta_journal.specs.Spelling.{each_spelled, kind_number, payload, header, spelling}

each-snoc : {A : Type 0} (spell : A → List ℕ) (xs : List A) (x : A) → each_spelled spell (xs ++ x ∷ []) ≡ each_spelled spell xs ++ spell x
each-snoc spell [] x = append-nil (spell x)
each-snoc spell (y ∷ xs) x = ap (λ (l : List ℕ). spell y ++ l) (each-snoc spell xs x) ∙ sym (append_assoc (spell y) (each_spelled spell xs) (spell x))

pub more_written : {A : Type 0} (spell : A → List ℕ) (xs : List A) (i : ℕ) (x d : A) (before head out new : List ℕ) → i < length xs → x ≡ get_or xs i d
    → out ≡ before ++ (head ++ each_spelled spell (take i xs)) → new ≡ out ++ spell x → new ≡ before ++ (head ++ each_spelled spell (take (i + 1) xs))
more_written {A} spell xs i x d before head out new lt is so_far e =
    let front : take (i + 1) xs ≡ take i xs ++ x ∷ [] = take_more xs i d lt ∙ ap (λ (y : A). take i xs ++ y ∷ []) (sym is) in
    let each : each_spelled spell (take (i + 1) xs) ≡ each_spelled spell (take i xs) ++ spell x = ap (each_spelled spell) front ∙ each-snoc spell (take i xs) x in
    e ∙ ap (λ (l : List ℕ). l ++ spell x) so_far ∙ append_assoc before (head ++ each_spelled spell (take i xs)) (spell x)
    ∙ ap (λ (l : List ℕ). before ++ l) (append_assoc head (each_spelled spell (take i xs)) (spell x)) ∙ ap (λ (l : List ℕ). before ++ (head ++ l)) (sym each)

pub all_written : {A : Type 0} (spell : A → List ℕ) (xs : List A) (i : ℕ) (before head out : List ℕ) → length xs ≤ i → out ≡ before ++ (head ++ each_spelled spell (take i xs)) → out ≡ before ++ (head ++ each_spelled spell xs)
all_written {A} spell xs i before head out le so_far = so_far ∙ ap (λ (l : List A). before ++ (head ++ each_spelled spell l)) (take_all i xs le)

-- seven pieces that are written one behind another
pub seven_written : (old a b c d e f g o1 o2 o3 o4 o5 o6 o7 : List ℕ) → o1 ≡ old ++ a → o2 ≡ o1 ++ b → o3 ≡ o2 ++ c → o4 ≡ o3 ++ d → o5 ≡ o4 ++ e → o6 ≡ o5 ++ f → o7 ≡ o6 ++ g
    → o7 ≡ old ++ (a ++ (b ++ (c ++ (d ++ (e ++ (f ++ g))))))
seven_written old a b c d e f g o1 o2 o3 o4 o5 o6 o7 e1 e2 e3 e4 e5 e6 e7 = rw (e7, e6, e5, e4, e3, e2, e1) (simp append_assoc)

-- the head, the moment and the act of an entry
pub entry_written : (entry : Entry) (kind : ℕ) (o0 o1 o2 o3 : List ℕ) → kind ≡ kind_number entry.act → o0 ≡ [] → o1 ≡ o0 ++ header 2 kind → o2 ≡ o1 ++ varint entry.moment → o3 ≡ o2 ++ payload entry.act → o3 ≡ spelling entry
unfolding spelling
entry_written entry kind o0 o1 o2 o3 k e0 e1 e2 e3 = rw (e3, e2, e1, e0, k) refl
