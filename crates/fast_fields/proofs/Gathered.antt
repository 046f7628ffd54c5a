-- Texts of cells, gathered and made distinct.
use Rattle.std.proofs.Common.{◌≡◌, ℕ, zero, suc, ◌+◌, ◌-◌, ◌<◌, true, false, List, [], ◌∷◌, ◌++◌, length, get_or, Some, refl, sym, ◌∙◌, ap, subst, arith, inl, inr}
use Rattle.std.specs.Prelude.{slice_get, IsUtf8, ◌⊎◌}
use Rattle.std.specs.List.{AllByRecursion}
use Rattle.std.specs.Borrow.{Bor}
use Rattle.std.specs.Ordering.{nat_cmp}
use Rattle.std.specs.Cmp.Lexicographic.{slice_cmp}
use Rattle.std.proofs.lemmas.List.{map_push, length-map}
use Rattle.doc_value.specs.declared.doc.Value.{Value}
use Rattle.doc_value.specs.declared.doc.Value.TheVariants as values
use Rattle.fast_fields.specs.Columns.{Cell, cells, cells_of, SomeText, TextsRise, AreTexts, is_below}
use Rattle.fast_fields.specs.Texts.{texts_in, IsCellText, is_behind}
use Rattle.fast_fields.proofs.Below.{below_then, neither_below, among_left, among_last, among_front, among_more}
use Rattle.std.specs.Prelude.{Contains}
use Rattle.std.specs.List.Sorted.{IsSorted}
use Rattle.std.proofs.Common.{take}
use Rattle.fast_fields.specs.declared.rows.ColumnRow.{ColumnRow}

pub some_left : (xs ys : List Cell) (t : List ℕ) → SomeText xs t → SomeText (xs ++ ys) t
some_left [] ys t h = absurd h
some_left (x ∷ xs) ys t (inl e) = inl e
some_left (x ∷ xs) ys t (inr h) = inr (some_left xs ys t h)

pub some_right : (xs ys : List Cell) (t : List ℕ) → SomeText ys t → SomeText (xs ++ ys) t
some_right [] ys t h = h
some_right (x ∷ xs) ys t h = inr (some_right xs ys t h)

-- the loan at the end of some texts
pub last_behind : (xs : List (Bor (List ℕ))) (b : Bor (List ℕ)) (t : List ℕ) → Some b ≡ slice_get xs (length xs - 1) → is_behind (texts_in xs) t ≡ is_below b.now t
last_behind [] b t e = absurd cc
last_behind (x ∷ []) b t e =
    let same : b ≡ x = cc in
    ap (λ (c : Bor (List ℕ)). is_below c.now t) (sym same)
last_behind (x ∷ y ∷ ys) b t e =
    let place : length (x ∷ y ∷ ys) - 1 ≡ suc (length (y ∷ ys) - 1) = omega arith in
    last_behind (y ∷ ys) b t (e ∙ ap (λ (i : ℕ). slice_get (x ∷ y ∷ ys) i) place)

above_push : (t : List ℕ) (us : List (List ℕ)) (n : List ℕ) → AllByRecursion (λ u. is_below t u ≡ true) us → is_below t n ≡ true → AllByRecursion (λ u. is_below t u ≡ true) (us ++ n ∷ [])
above_push t [] n h e = (e, tt)
above_push t (u ∷ us) n h e = (h.0, above_push t us n h.1 e)

-- a text behind the last one is behind all
behind_all : (t : List ℕ) (us : List (List ℕ)) (n : List ℕ) → AllByRecursion (λ u. is_below t u ≡ true) us → is_behind (t ∷ us) n ≡ true → is_below t n ≡ true
behind_all t [] n h e = e
behind_all t (u ∷ []) n h e = below_then t u n h.0 e
behind_all t (u ∷ v ∷ vs) n h e = behind_all t (v ∷ vs) n h.1 e

tail_behind : (t : List ℕ) (us : List (List ℕ)) (n : List ℕ) → is_behind (t ∷ us) n ≡ true → is_behind us n ≡ true
tail_behind t [] n e = refl
tail_behind t (u ∷ us) n e = e

rise_push : (us : List (List ℕ)) (n : List ℕ) → TextsRise us → is_behind us n ≡ true → TextsRise (us ++ n ∷ [])
rise_push [] n h e = (tt, tt)
rise_push (t ∷ us) n h e = (above_push t us n h.0 (behind_all t us n h.0 e), rise_push us n h.1 (tail_behind t us n e))

all_push : (P : List ℕ → Type 0) (us : List (List ℕ)) (n : List ℕ) → AllByRecursion P us → P n → AllByRecursion P (us ++ n ∷ [])
all_push P [] n h p = (p, tt)
all_push P (u ∷ us) n h p = (h.0, all_push P us n h.1 p)

pub text_more : (cs : List Cell) (xs : List (Bor (List ℕ))) (b : Bor (List ℕ)) → AreTexts cs (texts_in xs) → IsCellText cs b → is_behind (texts_in xs) b.now ≡ true → AreTexts cs (texts_in (xs ++ b ∷ []))
text_more cs xs b h c e =
    subst (λ (ts : List (List ℕ)). AreTexts cs ts) (sym (map_push (λ (d : Bor (List ℕ)). d.now) xs b)) (record {
      rise = rise_push (texts_in xs) b.now h.rise e;
      utf8 = all_push IsUtf8 (texts_in xs) b.now h.utf8 c.utf8;
      used = all_push (SomeText cs) (texts_in xs) b.now h.used c.some;
    })

pub no_texts : (cs : List Cell) → AreTexts cs []
no_texts cs = record { rise = tt; utf8 = tt; used = tt }

-- ---- no text is left out

abbrev pub OneOf : ℕ → List Value → List (Bor (List ℕ)) → List ℕ → Type 0
OneOf document vs all t = SomeText (cells_of document vs) t ⊎ Contains (texts_in all) t

pub text_gathered : (document : ℕ) (rest behind : List Value) (v : Value) (all next : List (Bor (List ℕ))) (b : Bor (List ℕ)) (t : List ℕ) → rest ≡ v ∷ behind → v ≡ values.Text b.now → next ≡ all ++ b ∷ []
    → OneOf document rest all t → OneOf document behind next t
text_gathered document rest behind v all next b t is text pushed h =
    let loans : texts_in next ≡ texts_in all ++ b.now ∷ [] = ap (λ (l : List (Bor (List ℕ))). texts_in l) pushed ∙ map_push (λ (d : Bor (List ℕ)). d.now) all b in
    let first : SomeText (cells_of document (v ∷ behind)) t ⊎ Contains (texts_in all) t = subst (λ (l : List Value). SomeText (cells_of document l) t ⊎ Contains (texts_in all) t) is h in
    elim first [
      | inl (inl same) ↦
          let equal : b.now ≡ t = text_of b.now t (sym text ∙ same) in
          inr (subst (λ (l : List (List ℕ)). Contains l t) (sym loans) (subst (λ (u : List ℕ). Contains (texts_in all ++ b.now ∷ []) u) equal (among_last (texts_in all) b.now)))
      | inl (inr some) ↦ inl some
      | inr there ↦ inr (subst (λ (l : List (List ℕ)). Contains l t) (sym loans) (among_left (texts_in all) (b.now ∷ []) t there))
    ]
  where
    text_of : (a b : List ℕ) → values.Text a ≡ values.Text b → a ≡ b
    text_of a b e = cc

pub none_gathered : (document : ℕ) (rest behind : List Value) (v : Value) (all : List (Bor (List ℕ))) (t : List ℕ) → rest ≡ v ∷ behind → (v ≡ values.Text t → ⊥) → OneOf document rest all t → OneOf document behind all t
none_gathered document rest behind v all t is other h =
    let first : SomeText (cells_of document (v ∷ behind)) t ⊎ Contains (texts_in all) t = subst (λ (l : List Value). SomeText (cells_of document l) t ⊎ Contains (texts_in all) t) is h in
    elim first [
      | inl (inl same) ↦ absurd (other same)
      | inl (inr some) ↦ inl some
      | inr there ↦ inr there
    ]

abbrev pub OneOfRows : List ColumnRow → List (Bor (List ℕ)) → List ℕ → Type 0
OneOfRows rows all t = SomeText (cells rows) t ⊎ Contains (texts_in all) t

some_parts : (xs ys : List Cell) (t : List ℕ) → SomeText (xs ++ ys) t → SomeText xs t ⊎ SomeText ys t
some_parts [] ys t h = inr h
some_parts (x ∷ xs) ys t (inl e) = inl (inl e)
some_parts (x ∷ xs) ys t (inr h) = elim (some_parts xs ys t h) [ inl p ↦ inl (inr p) | inr q ↦ inr q ]

pub row_gathered : (rest behind : List ColumnRow) (r : ColumnRow) (vs : List Value) (all next : List (Bor (List ℕ))) (t : List ℕ) → rest ≡ r ∷ behind → vs ≡ r.values
    → (OneOf r.document vs all t → Contains (texts_in next) t) → OneOfRows rest all t → OneOfRows behind next t
row_gathered rest behind r vs all next t is same add h =
    let first : SomeText (cells_of r.document r.values ++ cells behind) t ⊎ Contains (texts_in all) t = subst (λ (l : List ColumnRow). SomeText (cells l) t ⊎ Contains (texts_in all) t) is h in
    elim first [
      | inl some ↦ elim (some_parts (cells_of r.document r.values) (cells behind) t some) [
        | inl here ↦ inr (add (inl (subst (λ (l : List Value). SomeText (cells_of r.document l) t) (sym same) here)))
        | inr later ↦ inl later
      ]
      | inr there ↦ inr (add (inr there))
    ]

-- each of the first texts is among the distinct ones, of which the last one is the last of them
pub record Distinct (ts : List (List ℕ)) (i : ℕ) (us : List (List ℕ)) : Type 0 where
  pub none : i ≡ 0 → us ≡ []
  pub each : (t : List ℕ) → Contains (take i ts) t → Contains us t
  pub last : 0 < i → (u : List ℕ) → is_behind us u ≡ is_below (get_or ts (i - 1) []) u

behind_push : (us : List (List ℕ)) (t u : List ℕ) → is_behind (us ++ t ∷ []) u ≡ is_below t u
behind_push [] t u = refl
behind_push (v ∷ []) t u = refl
behind_push (v ∷ w ∷ ws) t u = behind_push (w ∷ ws) t u

pub none_distinct : (ts : List (List ℕ)) → Distinct ts 0 []
none_distinct ts = record { none = λ e. refl; each = λ t h. absurd (omega (arith, h.1)); last = λ lt. absurd (omega arith) }

pub text_distinct : (ts us next : List (List ℕ)) (i : ℕ) → Distinct ts i us → i < length ts → next ≡ us ++ get_or ts i [] ∷ [] → Distinct ts (i + 1) next
text_distinct ts us next i h lt is = record {
  none = λ e. absurd (omega arith);
  each = λ t there.
      let more : i + 1 ≡ suc i = omega arith in
      subst (λ (l : List (List ℕ)). Contains l t) (sym is) (elim (among_more ts i t [] lt (subst (λ (n : ℕ). Contains (take n ts) t) more there)) [
        | inl front ↦ among_left us (get_or ts i [] ∷ []) t (h.each t front)
        | inr same ↦ subst (λ (u : List ℕ). Contains (us ++ get_or ts i [] ∷ []) u) same (among_last us (get_or ts i []))
      ]);
  last = λ some u.
      let place : i ≡ i + 1 - 1 = omega arith in
      ap (λ (l : List (List ℕ)). is_behind l u) is ∙ behind_push us (get_or ts i []) u ∙ ap (λ (n : ℕ). is_below (get_or ts n []) u) place;
}

pub text_again : (ts us : List (List ℕ)) (i : ℕ) → ((k : ℕ) → k + 1 < length ts → is_below (get_or ts (k + 1) []) (get_or ts k []) ≡ false) → Distinct ts i us → i < length ts
    → is_behind us (get_or ts i []) ≡ false → Distinct ts (i + 1) us
text_again ts us zero sorted h lt not_behind =
    let wrong : true ≡ false = ap (λ (l : List (List ℕ)). is_behind l (get_or ts 0 [])) (sym (h.none refl)) ∙ not_behind in
    absurd cc
text_again ts us (suc j) sorted h lt not_behind =
    let place : suc j - 1 ≡ j = omega arith in
    let next : j + 1 ≡ suc j = omega arith in
    let last : (u : List ℕ) → is_behind us u ≡ is_below (get_or ts j []) u = λ u. h.last (omega arith) u ∙ ap (λ (n : ℕ). is_below (get_or ts n []) u) place in
    let down : is_below (get_or ts (suc j) []) (get_or ts j []) ≡ false = subst (λ (n : ℕ). is_below (get_or ts n []) (get_or ts j []) ≡ false) next (sorted j (omega arith)) in
    let same : get_or ts j [] ≡ get_or ts (suc j) [] = neither_below (get_or ts j []) (get_or ts (suc j) []) (sym (last (get_or ts (suc j) [])) ∙ not_behind) down in
    let back : suc j ≡ suc j + 1 - 1 = omega arith in
    let more : suc j + 1 ≡ suc (suc j) = omega arith in
    record {
      none = λ e. absurd (omega arith);
      each = λ t there. elim (among_more ts (suc j) t [] lt (subst (λ (n : ℕ). Contains (take n ts) t) more there)) [
        | inl front ↦ h.each t front
        | inr is ↦ h.each t (among_front ts (suc j) j t [] (omega arith) (omega arith) (same ∙ is))
      ];
      last = λ some u. last u ∙ ap (λ (t : List ℕ). is_below t u) same ∙ ap (λ (n : ℕ). is_below (get_or ts n []) u) back;
    }

abbrev pub no_loan : Bor (List ℕ)
no_loan = record { ref_ptr = (0, 0); now = [] }

pub text_in : (xs : List (Bor (List ℕ))) (i : ℕ) → get_or (texts_in xs) i [] ≡ (get_or xs i no_loan).now
text_in [] i = refl
text_in (x ∷ xs) zero = refl
text_in (x ∷ xs) (suc i) = text_in xs i

pub sorted_texts : (xs : List (Bor (List ℕ))) → IsSorted (λ x y. slice_cmp nat_cmp x.now y.now) xs
    → (k : ℕ) → k + 1 < length (texts_in xs) → is_below (get_or (texts_in xs) (k + 1) []) (get_or (texts_in xs) k []) ≡ false
sorted_texts xs h k lt =
    let count : length (texts_in xs) ≡ length xs = length-map xs (λ (b : Bor (List ℕ)). b.now) in
    ap (λ (t : List ℕ). is_below t (get_or (texts_in xs) k [])) (text_in xs (k + 1)) ∙ ap (λ (t : List ℕ). is_below (get_or xs (k + 1) no_loan).now t) (text_in xs k)
    ∙ h k no_loan (omega arith) (omega (arith, count))

pub loan_at : (xs : List (Bor (List ℕ))) (i : ℕ) (d : Bor (List ℕ)) → i < length xs → slice_get (texts_in xs) i ≡ Some (get_or xs i d).now
loan_at [] i d lt = absurd (omega arith)
loan_at (x ∷ xs) zero d lt = refl
loan_at (x ∷ xs) (suc i) d lt = loan_at xs i d (omega arith)

-- at the end all were gathered
pub values_gathered : (document : ℕ) (rest : List Value) (all : List (Bor (List ℕ))) (t : List ℕ) → length rest ≡ 0 → OneOf document rest all t → Contains (texts_in all) t
values_gathered document [] all t none (inl some) = absurd some
values_gathered document [] all t none (inr there) = there
values_gathered document (v ∷ vs) all t none h = absurd (omega arith)

pub rows_gathered : (rest : List ColumnRow) (all : List (Bor (List ℕ))) (t : List ℕ) → length rest ≡ 0 → OneOfRows rest all t → Contains (texts_in all) t
rows_gathered [] all t none (inl some) = absurd some
rows_gathered [] all t none (inr there) = there
rows_gathered (r ∷ rs) all t none h = absurd (omega arith)
