-- Different leaves have different leaf texts, and the front of a leaf text tells its path.
use Rattle.std.proofs.Common.{◌≡◌, ℕ, ◌^◌, ◌<◌, nat_eq, Bool, true, false, ◌&&◌, List, [], ◌∷◌, ◌++◌, length, append_assoc, decimal, refl, sym, ap, ◌∙◌, subst, arith}
use Rattle.std.specs.List.{starts_with}
use Rattle.std.specs.Str.{bytes_eq}
use Rattle.std.specs.Str.Parse.{AllDigits}
use Rattle.std.proofs.lemmas.Fmt.{decimal_is_IsNumeral, decimal_injective}
use Rattle.std.proofs.lemmas.Str.Parse.{digit_from_value}
use Rattle.std.proofs.lemmas.Slice.Eq.{bytes_eq-Decides, starts_is}
use Rattle.std.specs.Cmp.{unsigned_Decides}
use Rattle.dynamic_paths.specs.LeafTexts.{leaf_text}

-- digits end at the first colon
at_colon : (a b x y : List ℕ) → AllDigits 10 a → AllDigits 10 b → a ++ 58 ∷ x ≡ b ++ 58 ∷ y → (a ≡ b) × (x ≡ y)
at_colon [] [] x y p q e = (refl, cc)
at_colon [] (d ∷ b) x y p q e =
    let low = digit_from_value d q.0 in
    let is : d ≡ 58 = cc in
    absurd (omega (arith, low.1, is))
at_colon (c ∷ a) [] x y p q e =
    let low = digit_from_value c p.0 in
    let is : c ≡ 58 = cc in
    absurd (omega (arith, low.1, is))
at_colon (c ∷ a) (d ∷ b) x y p q e =
    let rest : a ++ 58 ∷ x ≡ b ++ 58 ∷ y = cc in
    let is : c ≡ d = cc in
    let more = at_colon a b x y p.1 q.1 rest in
    (rw (is, more.0) refl, more.1)

-- texts of one length end at one place
at_length : (a b x y : List ℕ) → length a ≡ length b → a ++ x ≡ b ++ y → (a ≡ b) × (x ≡ y)
at_length [] [] x y n e = (refl, e)
at_length [] (d ∷ b) x y n e = absurd (omega (arith, n))
at_length (c ∷ a) [] x y n e = absurd (omega (arith, n))
at_length (c ∷ a) (d ∷ b) x y n e =
    let rest : a ++ x ≡ b ++ y = cc in
    let is : c ≡ d = cc in
    let more = at_length a b x y (omega (arith, n)) rest in
    (rw (is, more.0) refl, more.1)

spelled : (path text : List ℕ) → leaf_text path text ≡ decimal (length path) ++ (58 ∷ (path ++ 58 ∷ text))
spelled path text = append_assoc (decimal (length path)) (58 ∷ path) (58 ∷ text)

pub apart : (path text other words : List ℕ) → length path < 2 ^ 64 → length other < 2 ^ 64 → leaf_text path text ≡ leaf_text other words → (path ≡ other) × (text ≡ words)
apart path text other words p q e =
    let cut = at_colon (decimal (length path)) (decimal (length other)) (path ++ 58 ∷ text) (other ++ 58 ∷ words)
    (decimal_is_IsNumeral (length path) p).0.1 (decimal_is_IsNumeral (length other) q).0.1 (sym (spelled path text) ∙ e ∙ spelled other words) in
    let parts = at_length path other (58 ∷ text) (58 ∷ words) (decimal_injective (length path) (length other) p q cut.0) cut.1 in
    let rest : text ≡ words = (let t = parts.1 in cc) in
    (parts.0, rest)

-- a leaf text and more is a leaf text of the same path
pub longer : (path front rest : List ℕ) → leaf_text path (front ++ rest) ≡ leaf_text path front ++ rest
longer path front rest = sym (append_assoc (decimal (length path) ++ 58 ∷ path) (58 ∷ front) rest)

begins_so : (a x y : List ℕ) → starts_with nat_eq (a ++ x) (a ++ y) ≡ starts_with nat_eq x y
begins_so [] x y = refl
begins_so (c ∷ cs) x y = ap (λ (b : Bool). b && starts_with nat_eq (cs ++ x) (cs ++ y)) ((unsigned_Decides c c).1 refl) ∙ begins_so cs x y

own_path : (path front text : List ℕ) → starts_with nat_eq (leaf_text path text) (leaf_text path front) ≡ starts_with nat_eq text front
own_path path front text =
    ap (λ (z : List ℕ). starts_with nat_eq z (leaf_text path front)) (longer path [] text)
    ∙ ap (λ (z : List ℕ). starts_with nat_eq (leaf_text path [] ++ text) z) (longer path [] front)
    ∙ begins_so (leaf_text path []) text front

pub by_front : (path front other text : List ℕ) → length path < 2 ^ 64 → length other < 2 ^ 64
    → starts_with nat_eq (leaf_text other text) (leaf_text path front) ≡ (bytes_eq path other && starts_with nat_eq text front)
by_front path front other text p q = by (bytes_eq path other) refl
  where
    found : (r : Bool) → starts_with nat_eq (leaf_text other text) (leaf_text path front) ≡ r → bytes_eq path other ≡ false
        → starts_with nat_eq (leaf_text other text) (leaf_text path front) ≡ false
    found false h e = h
    found true h e =
        let begins = (starts_is unsigned_Decides (leaf_text other text) (leaf_text path front) _ refl).0 h in
        let same = apart other text path _ q p (begins ∙ sym (longer path front _)) in
        let equal : bytes_eq path other ≡ true = (bytes_eq-Decides path other).1 (sym same.0) in
        absurd (let wrong : true ≡ false = sym equal ∙ e in cc)

    by : (b : Bool) → bytes_eq path other ≡ b → starts_with nat_eq (leaf_text other text) (leaf_text path front) ≡ (b && starts_with nat_eq text front)
    by true e =
        subst (λ (o : List ℕ). starts_with nat_eq (leaf_text o text) (leaf_text path front) ≡ starts_with nat_eq text front) ((bytes_eq-Decides path other).0 e) (own_path path front text)
    by false e = found _ refl e

and_true : (b : Bool) → (b && true) ≡ b
and_true true = refl
and_true false = refl

pub by_path : (path other text : List ℕ) → length path < 2 ^ 64 → length other < 2 ^ 64 → starts_with nat_eq (leaf_text other text) (leaf_text path []) ≡ bytes_eq path other
by_path path other text p q = by_front path [] other text p q ∙ and_true (bytes_eq path other)
