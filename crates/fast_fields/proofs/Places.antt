-- Entries by their documents, and the least and the greatest number.
use Rattle.std.proofs.Common.{◌≡◌, ◌≢◌, ℕ, zero, suc, ◌+◌, ◌-◌, ◌*◌, ◌^◌, ◌<◌, ◌≤◌, List, [], ◌∷◌, ◌++◌, length, drop, map, get_or, Some, None, min, max, refl, sym, ◌∙◌, ap, subst, arith, suc-add, inl, inr, length-append, append_assoc}
use Rattle.std.specs.Prelude.{slice_get}
use Rattle.std.specs.List.{AllByRecursion}
use Rattle.std.proofs.lemmas.Bool.{cases_lt, lt-ltb, le-ltb, ne_eqb}
use Rattle.std.proofs.Common.{eq-eqb}
use Rattle.std.proofs.lemmas.List.{drop-drop, drop_at}
use Rattle.byte_fields.specs.Spelling.{four}
use Rattle.fast_fields.specs.Columns.{DocumentsRise, numbers, least_of, greatest_of, documents_bytes}
use Rattle.fast_fields.specs.declared.entries.Entry.{Entry}
use Rattle.fast_fields.specs.Readers.{count_below, first_number, of_some}

pub get_some : {X : Type 0} (xs : List X) (i : ℕ) → i < length xs → (x : X) × (slice_get xs i ≡ Some x)
get_some [] i lt = absurd (omega arith)
get_some (x ∷ xs) zero lt = (x, refl)
get_some (x ∷ xs) (suc i) lt = get_some xs i (omega arith)

some_is : (a b : Entry) → Some a ≡ Some b → a ≡ b
some_is a b e = cc

-- what holds of each entry holds of the one at a place
pub all_at : (P : Entry → Type 0) (es : List Entry) (i : ℕ) (e : Entry) → AllByRecursion P es → slice_get es i ≡ Some e → P e
all_at P [] i e h is = absurd cc
all_at P (x ∷ xs) zero e h is = subst P (some_is x e is) h.0
all_at P (x ∷ xs) (suc i) e h is = all_at P xs i e h.1 is

pub number_at : (es : List Entry) (i : ℕ) (e : Entry) → slice_get es i ≡ Some e → get_or (numbers es) i 0 ≡ e.number
number_at [] i e is = absurd cc
number_at (x ∷ xs) zero e is = ap (λ (y : Entry). y.number) (some_is x e is)
number_at (x ∷ xs) (suc i) e is = number_at xs i e is

pub less_at : (least : ℕ) (es : List Entry) (i : ℕ) (e : Entry) → slice_get es i ≡ Some e → get_or (map (λ n. n - least) (numbers es)) i 0 ≡ e.number - least
less_at least [] i e is = absurd cc
less_at least (x ∷ xs) zero e is = ap (λ (y : Entry). y.number - least) (some_is x e is)
less_at least (x ∷ xs) (suc i) e is = less_at least xs i e is

-- ---- the least and the greatest

pub least_le : (es : List Entry) (i : ℕ) (e : Entry) → slice_get es i ≡ Some e → least_of (numbers es) ≤ e.number
least_le [] i e is = absurd cc
least_le (x ∷ []) zero e is = omega (arith, ap (λ (y : Entry). y.number) (some_is x e is))
least_le (x ∷ []) (suc i) e is = absurd cc
least_le (x ∷ y ∷ ys) zero e is = omega (arith, ap (λ (z : Entry). z.number) (some_is x e is))
least_le (x ∷ y ∷ ys) (suc i) e is = omega (arith, least_le (y ∷ ys) i e is)

pub greatest_ge : (es : List Entry) (i : ℕ) (e : Entry) → slice_get es i ≡ Some e → e.number ≤ greatest_of (numbers es)
greatest_ge [] i e is = absurd cc
greatest_ge (x ∷ xs) zero e is = omega (arith, ap (λ (y : Entry). y.number) (some_is x e is))
greatest_ge (x ∷ xs) (suc i) e is = omega (arith, greatest_ge xs i e is)

pub of_some_cons : (es : List Entry) (n : ℕ) → 0 < length es → of_some es n ≡ Some n
of_some_cons [] n lt = absurd (omega arith)
of_some_cons (e ∷ es) n lt = refl

pub of_none : (es : List Entry) (n : ℕ) → length es ≡ 0 → of_some es n ≡ None
of_none [] n e = refl
of_none (x ∷ xs) n e = absurd (omega arith)

-- the greatest so far, and those to come
pub greatest_step : (es : List Entry) (i : ℕ) (e : Entry) (greatest whole : ℕ) → slice_get es i ≡ Some e → max (greatest_of (numbers (drop i es))) greatest ≡ whole
    → max (greatest_of (numbers (drop (i + 1) es))) (max e.number greatest) ≡ whole
greatest_step [] i e greatest whole is h = absurd cc
greatest_step (x ∷ xs) zero e greatest whole is h = omega (arith, ap (λ (y : Entry). y.number) (some_is x e is))
greatest_step (x ∷ xs) (suc i) e greatest whole is h = rw suc-add (greatest_step xs i e greatest whole is h)

pub greatest_end : (es : List Entry) (i greatest whole : ℕ) → length es ≤ i → max (greatest_of (numbers (drop i es))) greatest ≡ whole → greatest ≡ whole
greatest_end [] zero greatest whole le h = omega arith
greatest_end [] (suc i) greatest whole le h = omega arith
greatest_end (x ∷ xs) zero greatest whole le h = absurd (omega arith)
greatest_end (x ∷ xs) (suc i) greatest whole le h = greatest_end xs i greatest whole (omega arith) h

-- the least so far, and those to come
pub least_next : (es : List Entry) (i least whole next : ℕ) (d : Entry) → i < length es → least_of (least ∷ numbers (drop i es)) ≡ whole → next ≡ min (get_or es i d).number least
    → least_of (next ∷ numbers (drop (i + 1) es)) ≡ whole
least_next [] i least whole next d lt h is = absurd (omega arith)
least_next (x ∷ []) zero least whole next d lt h is = omega (arith, h, is)
least_next (x ∷ y ∷ ys) zero least whole next d lt h is = omega (arith, h, is)
least_next (x ∷ xs) (suc i) least whole next d lt h is = rw suc-add (least_next xs i least whole next d (omega arith) h is)

-- ---- documents

document_next : (es : List Entry) (i : ℕ) (d : Entry) → i < length es → documents_bytes (drop i es) ≡ four (get_or es i d).document ++ documents_bytes (drop (i + 1) es)
document_next [] i d lt = absurd (omega arith)
document_next (x ∷ xs) zero d lt = refl
document_next (x ∷ xs) (suc i) d lt = rw suc-add (document_next xs i d (omega arith))

-- some of the documents were put, and the rest completes them
pub document_put : (out next whole : List ℕ) (es : List Entry) (i : ℕ) (d : Entry) → i < length es → out ++ documents_bytes (drop i es) ≡ whole → next ≡ out ++ four (get_or es i d).document
    → next ++ documents_bytes (drop (i + 1) es) ≡ whole
document_put out next whole es i d lt h is =
    ap (λ (l : List ℕ). l ++ documents_bytes (drop (i + 1) es)) is ∙ append_assoc out (four (get_or es i d).document) (documents_bytes (drop (i + 1) es))
    ∙ ap (λ (l : List ℕ). out ++ l) (sym (document_next es i d lt)) ∙ h

pub count_one : (d : ℕ) (x : Entry) (xs : List Entry) → x.document < d → count_below d (x ∷ xs) ≡ 1 + count_below d xs
count_one d x xs lt = rw (lt-ltb x.document d lt) refl

pub count_none : (d : ℕ) (x : Entry) (xs : List Entry) → d ≤ x.document → count_below d (x ∷ xs) ≡ 0 + count_below d xs
count_none d x xs le = rw (le-ltb x.document d le) refl

pub count_within : (d : ℕ) (es : List Entry) → count_below d es ≤ length es
count_within d [] = omega arith
count_within d (x ∷ xs) = elim (cases_lt x.document d) [
  | inl lt ↦ omega (arith, count_one d x xs lt, count_within d xs)
  | inr le ↦ omega (arith, count_none d x xs le, count_within d xs)
]

-- behind a document that is not below one none is
none_below : (d low : ℕ) (es : List Entry) → d ≤ low → AllByRecursion (λ f. low ≤ f.document) es → count_below d es ≡ 0
none_below d low [] le h = refl
none_below d low (x ∷ xs) le h =
    let up : d ≤ x.document = omega (arith, h.0) in
    omega (arith, count_none d x xs up, none_below d low xs le h.1)

pub count_up : (d : ℕ) (es : List Entry) (i : ℕ) (e : Entry) → DocumentsRise es → slice_get es i ≡ Some e → e.document < d → i + 1 ≤ count_below d es
count_up d [] i e rise is lt = absurd cc
count_up d (x ∷ xs) zero e rise is lt =
    let here : x.document < d = omega (arith, ap (λ (y : Entry). y.document) (some_is x e is)) in
    omega (arith, count_one d x xs here)
count_up d (x ∷ xs) (suc i) e rise is lt =
    let up : x.document ≤ e.document = all_at (λ (f : Entry). x.document ≤ f.document) xs i e rise.0 is in
    let here : x.document < d = omega arith in
    omega (arith, count_one d x xs here, count_up d xs i e rise.1 is lt)

pub count_down : (d : ℕ) (es : List Entry) (i : ℕ) (e : Entry) → DocumentsRise es → slice_get es i ≡ Some e → d ≤ e.document → count_below d es ≤ i
count_down d [] i e rise is le = absurd cc
count_down d (x ∷ xs) zero e rise is le =
    let here : d ≤ x.document = omega (arith, ap (λ (y : Entry). y.document) (some_is x e is)) in
    omega (arith, count_none d x xs here, none_below d x.document xs here rise.0)
count_down d (x ∷ xs) (suc i) e rise is le = elim (cases_lt x.document d) [
  | inl lt ↦ omega (arith, count_one d x xs lt, count_down d xs i e rise.1 is le)
  | inr up ↦ omega (arith, count_none d x xs up, count_down d xs i e rise.1 is le)
]

-- no entry behind has a document
none_first : (d low : ℕ) (es : List Entry) → d < low → AllByRecursion (λ f. low ≤ f.document) es → first_number d es ≡ None
none_first d low [] lt h = refl
none_first d low (x ∷ xs) lt h =
    let other : x.document ≢ d = omega (arith, h.0) in
    rw (ne_eqb x.document d other) (none_first d low xs lt h.1)

pub first_there : (d : ℕ) (es : List Entry) (i : ℕ) (e : Entry) → DocumentsRise es → i ≡ count_below d es → slice_get es i ≡ Some e → e.document ≡ d → first_number d es ≡ Some e.number
first_there d [] i e rise count is same = absurd cc
first_there d (x ∷ xs) zero e rise count is same =
    let whole = some_is x e is in
    let here : x.document ≡ d = ap (λ (y : Entry). y.document) whole ∙ same in
    (rw (eq-eqb x.document d here) refl) ∙ ap (λ (y : Entry). Some y.number) whole
first_there d (x ∷ xs) (suc i) e rise count is same = elim (cases_lt x.document d) [
  | inl lt ↦
      let other : x.document ≢ d = omega arith in
      rw (ne_eqb x.document d other) (first_there d xs i e rise.1 (omega (arith, count, count_one d x xs lt)) is same)
  | inr up ↦ absurd (omega (arith, count, count_none d x xs up, none_below d x.document xs up rise.0))
]

pub first_past : (d : ℕ) (es : List Entry) → DocumentsRise es → length es ≤ count_below d es → first_number d es ≡ None
first_past d [] rise le = refl
first_past d (x ∷ xs) rise le = elim (cases_lt x.document d) [
  | inl lt ↦
      let other : x.document ≢ d = omega arith in
      rw (ne_eqb x.document d other) (first_past d xs rise.1 (omega (arith, le, count_one d x xs lt)))
  | inr up ↦ absurd (omega (arith, le, count_none d x xs up, none_below d x.document xs up rise.0))
]

pub first_other : (d : ℕ) (es : List Entry) (i : ℕ) (e : Entry) → DocumentsRise es → i ≡ count_below d es → slice_get es i ≡ Some e → e.document ≢ d → first_number d es ≡ None
first_other d [] i e rise count is other = refl
first_other d (x ∷ xs) zero e rise count is other =
    let whole : x.document ≡ e.document = ap (λ (y : Entry). y.document) (some_is x e is) in
    let here : x.document ≢ d = omega arith in
    elim (cases_lt x.document d) [
      | inl lt ↦ absurd (omega (arith, count, count_one d x xs lt))
      | inr up ↦ rw (ne_eqb x.document d here) (none_first d x.document xs (omega arith) rise.0)
    ]
first_other d (x ∷ xs) (suc i) e rise count is other = elim (cases_lt x.document d) [
  | inl lt ↦
      let here : x.document ≢ d = omega arith in
      rw (ne_eqb x.document d here) (first_other d xs i e rise.1 (omega (arith, count, count_one d x xs lt)) is other)
  | inr up ↦ absurd (omega (arith, count, count_none d x xs up, none_below d x.document xs up rise.0))
]

-- where a document stands
pub document_there : (es : List Entry) (i : ℕ) (e : Entry) → slice_get es i ≡ Some e → drop (4 * i) (documents_bytes es) ≡ four e.document ++ documents_bytes (drop (i + 1) es)
document_there [] i e is = absurd cc
document_there (x ∷ xs) zero e is = ap (λ (y : Entry). four y.document ++ documents_bytes xs) (some_is x e is)
document_there (x ∷ xs) (suc i) e is =
    let more : 4 * suc i ≡ 4 + 4 * i = omega arith in
    let next : suc i + 1 ≡ suc (i + 1) = omega arith in
    ap (λ (n : ℕ). drop n (four x.document ++ documents_bytes xs)) more ∙ sym (drop-drop (4 * i) 4 (four x.document ++ documents_bytes xs))
    ∙ ap (λ (l : List ℕ). drop (4 * i) l) (drop_at (four x.document) (documents_bytes xs) 4 refl) ∙ document_there xs i e is
    ∙ ap (λ (n : ℕ). four e.document ++ documents_bytes (drop n (x ∷ xs))) (sym next)

pub length-documents : (es : List Entry) → length (documents_bytes es) ≡ 4 * length es
length-documents [] = refl
length-documents (x ∷ xs) = omega (arith, length-append (four x.document) (documents_bytes xs), length-documents xs)

pub least_small : (es : List Entry) → AllByRecursion (λ e. e.number < 2 ^ 64) es → least_of (numbers es) < 2 ^ 64
least_small [] h = omega arith
least_small (x ∷ []) h = h.0
least_small (x ∷ y ∷ ys) h = omega (arith, h.0)

pub greatest_small : (es : List Entry) → AllByRecursion (λ e. e.number < 2 ^ 64) es → greatest_of (numbers es) < 2 ^ 64
greatest_small [] h = omega arith
greatest_small (x ∷ xs) h = omega (arith, h.0, greatest_small xs h.1)
