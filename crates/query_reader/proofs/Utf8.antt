-- Texts with backslashes are UTF-8 where the texts are, and so is what is made of any bytes.
use Rattle.std.proofs.Common.{◌≡◌, ℕ, zero, suc, ◌+◌, ◌<◌, ◌≤◌, ◌||◌, Bool, true, false, not, List, [], ◌∷◌, ◌++◌, length, take, drop, refl, ap, sym, ◌∙◌, subst, arith, append_assoc, length-append, nat_eq, nat_lt, cond, slice_index, length-drop, Option, Some, None, IsUtf8, ne_eqb, eqb-true, get_or}
use Rattle.std.proofs.lemmas.Bool.{eqb-false}
use Rattle.std.proofs.lemmas.Str.{utf8_valid_len_le, IsUtf8-nil, IsUtf8-append, IsUtf8-from_ascii, IsUtf8-take, IsUtf8-drop, IsUtf8-from_is_utf8, IsCharBoundary-before_ascii}
use Rattle.std.proofs.Math.Seq.{drop-append_seam, take-append_seam}
use Rattle.std.specs.Str.{is_utf8}
use Rattle.std.specs.Str.Lossy.{utf8_lossy, utf8_lossy_within, utf8_valid_len, valid_len_up_to, after_first_chunk, replacement_bytes, utf8_invalid_len, utf8_error_len, error_len_of_some, error_len_after_one, error_len_after_two, second_byte_min, second_byte_max}
use Rattle.std.specs.Int.{is_in_range}
use Rattle.std.specs.Option.{unwrap_or}
use Rattle.query_reader.specs.Kinds.{kind_of}
use Rattle.query_reader.specs.Printed.{hides_in_word, hides_in_quote, hiding, is_keyword, is_plain_kind, word_text, quote_text}
use Rattle.query_reader.specs.declared.kind.Kind.TheVariants.{Plain}

-- a byte beyond ASCII is a plain one
high_plain : (c : ℕ) → 128 ≤ c → kind_of c ≡ Plain
unfolding kind_of
high_plain c h = rw (
  ne_eqb c 32 (λ e. omega (arith, e, h)),
  ne_eqb c 9 (λ e. omega (arith, e, h)),
  ne_eqb c 10 (λ e. omega (arith, e, h)),
  ne_eqb c 13 (λ e. omega (arith, e, h)),
  ne_eqb c 34 (λ e. omega (arith, e, h)),
  ne_eqb c 40 (λ e. omega (arith, e, h)),
  ne_eqb c 41 (λ e. omega (arith, e, h)),
  ne_eqb c 42 (λ e. omega (arith, e, h)),
  ne_eqb c 58 (λ e. omega (arith, e, h)),
  ne_eqb c 43 (λ e. omega (arith, e, h)),
  ne_eqb c 45 (λ e. omega (arith, e, h)),
  ne_eqb c 92 (λ e. omega (arith, e, h)),
  ne_eqb c 60 (λ e. omega (arith, e, h)),
  ne_eqb c 62 (λ e. omega (arith, e, h)),
  ne_eqb c 91 (λ e. omega (arith, e, h)),
  ne_eqb c 93 (λ e. omega (arith, e, h)),
  ne_eqb c 123 (λ e. omega (arith, e, h)),
  ne_eqb c 125 (λ e. omega (arith, e, h)),
  ne_eqb c 96 (λ e. omega (arith, e, h)),
  ne_eqb c 94 (λ e. omega (arith, e, h)),
  ne_eqb c 126 (λ e. omega (arith, e, h)),
  ne_eqb c 33 (λ e. omega (arith, e, h)),
) refl

low_unless : (c : ℕ) → (128 ≤ c → ⊥) → c < 128
low_unless c n = grind (arith, n)

pub low_in_word : (c : ℕ) → hides_in_word c ≡ true → c < 128
low_in_word c h = low_unless c (λ l. let y : false ≡ true = rw (high_plain c l) at h in absurd cc)

pub low_in_quote : (c : ℕ) → hides_in_quote c ≡ true → c < 128
low_in_quote c h = low_unless c (λ l. let y : false ≡ true = rw (high_plain c l) at h in absurd cc)

one_ascii : (c : ℕ) → c < 128 → IsUtf8 (c ∷ [])
one_ascii c l = IsUtf8-from_ascii (c ∷ []) (λ i. one c l i)
  where
    one : (c : ℕ) → c < 128 → (i : ℕ) → get_or (c ∷ []) i 0 < 128
    one c l zero = l
    one c l (suc i) = omega arith

-- a text in two at an ASCII byte
pub before_ascii : (pre cs : List ℕ) (c : ℕ) → c < 128 → IsUtf8 (pre ++ c ∷ cs) → IsUtf8 pre
before_ascii pre cs c l u =
    let i : length pre < length (pre ++ c ∷ cs) = omega (arith, length-append pre (c ∷ cs)) in
    let b : get_or (pre ++ c ∷ cs) (length pre) 0 < 128 = subst (λ x. x < 128) (sym (at_seam pre c cs)) l in
    subst IsUtf8 (take-append_seam pre (c ∷ cs)) (IsUtf8-take (pre ++ c ∷ cs) (length pre) u (IsCharBoundary-before_ascii (pre ++ c ∷ cs) (length pre) i b))
  where
    at_seam : (pre : List ℕ) (c : ℕ) (cs : List ℕ) → get_or (pre ++ c ∷ cs) (length pre) 0 ≡ c
    at_seam [] c cs = refl
    at_seam (x ∷ xs) c cs = at_seam xs c cs

pub from_ascii : (pre cs : List ℕ) (c : ℕ) → c < 128 → IsUtf8 (pre ++ c ∷ cs) → IsUtf8 (c ∷ cs)
from_ascii pre cs c l u =
    let i : length pre < length (pre ++ c ∷ cs) = omega (arith, length-append pre (c ∷ cs)) in
    let b : get_or (pre ++ c ∷ cs) (length pre) 0 < 128 = subst (λ x. x < 128) (sym (at_seam pre c cs)) l in
    subst IsUtf8 (drop-append_seam pre (c ∷ cs)) (IsUtf8-drop (pre ++ c ∷ cs) (length pre) u (IsCharBoundary-before_ascii (pre ++ c ∷ cs) (length pre) i b))
  where
    at_seam : (pre : List ℕ) (c : ℕ) (cs : List ℕ) → get_or (pre ++ c ∷ cs) (length pre) 0 ≡ c
    at_seam [] c cs = refl
    at_seam (x ∷ xs) c cs = at_seam xs c cs

-- backslashes before ASCII bytes
pub hiding_utf8 : (hides : ℕ → Bool) → ((c : ℕ) → hides c ≡ true → c < 128) → (pre bs : List ℕ) → IsUtf8 (pre ++ bs) → IsUtf8 (pre ++ hiding hides bs)
hiding_utf8 hides low pre [] u = u
hiding_utf8 hides low pre (c ∷ cs) u = go (λ pre u. hiding_utf8 hides low pre cs u) (hides c) refl
  where
    go : ((pre : List ℕ) → IsUtf8 (pre ++ cs) → IsUtf8 (pre ++ hiding hides cs)) → (t : Bool) → hides c ≡ t → IsUtf8 (pre ++ hiding hides (c ∷ cs))
    go again true e =
        rw e (IsUtf8-append pre (92 ∷ c ∷ hiding hides cs) (before_ascii pre cs c (low c e) u)
        (IsUtf8-append (92 ∷ []) (c ∷ hiding hides cs) (one_ascii 92 (omega arith)) (again (c ∷ []) (from_ascii pre cs c (low c e) u))))
    go again false e = rw e (subst IsUtf8 (append_assoc pre (c ∷ []) (hiding hides cs)) (again (pre ++ c ∷ []) (subst IsUtf8 (sym (append_assoc pre (c ∷ []) cs)) u)))

pub word_utf8 : (w : List ℕ) → IsUtf8 w → IsUtf8 (word_text w)
word_utf8 [] u = u
word_utf8 (c ∷ cs) u = go (is_keyword (c ∷ cs) || not (is_plain_kind (kind_of c))) refl
  where
    go : (t : Bool) → is_keyword (c ∷ cs) || not (is_plain_kind (kind_of c)) ≡ t → IsUtf8 (word_text (c ∷ cs))
    go true e =
        rw e (IsUtf8-append (92 ∷ []) (c ∷ hiding hides_in_word cs) (one_ascii 92 (omega arith)) (hiding_utf8 hides_in_word low_in_word (c ∷ []) cs u))
    go false e = rw e (hiding_utf8 hides_in_word low_in_word (c ∷ []) cs u)

pub quote_utf8 : (w : List ℕ) → IsUtf8 w → IsUtf8 (quote_text w)
quote_utf8 w u =
    IsUtf8-append (34 ∷ []) (hiding hides_in_quote w ++ 34 ∷ []) (one_ascii 34 (omega arith))
    (IsUtf8-append (hiding hides_in_quote w) (34 ∷ []) (hiding_utf8 hides_in_quote low_in_quote [] w u) (one_ascii 34 (omega arith)))

-- the front that is UTF-8
front_utf8 : (bs : List ℕ) (m : ℕ) → IsUtf8 (take (valid_len_up_to bs m) bs)
front_utf8 bs zero = IsUtf8-nil
front_utf8 bs (suc m) = go (front_utf8 bs m) (is_utf8 (take (suc m) bs)) refl
  where
    go : IsUtf8 (take (valid_len_up_to bs m) bs) → (t : Bool) → is_utf8 (take (suc m) bs) ≡ t → IsUtf8 (take (valid_len_up_to bs (suc m)) bs)
    go again true e = rw e (IsUtf8-from_is_utf8 (take (suc m) bs) e)
    go again false e = rw e again

valid_utf8 : (bs : List ℕ) → IsUtf8 (take (utf8_valid_len bs) bs)
unfolding utf8_valid_len
valid_utf8 bs = front_utf8 bs (length bs)

take_whole : (bs : List ℕ) → take (length bs) bs ≡ bs
take_whole [] = refl
take_whole (b ∷ bs) = ap (λ xs. b ∷ xs) (take_whole bs)

replacement_utf8 : IsUtf8 replacement_bytes
unfolding lib.Utf8.encode
replacement_utf8 = (0xFFFD ∷ [], (refl, refl))

-- what is no text is cut after at least one byte
cond_both : {A : Type 0} (P : A → Type 0) (b : Bool) (x y : A) → P x → P y → P (cond b x y)
cond_both P true x y p q = p
cond_both P false x y p q = q

some_len : (bs : List ℕ) → 0 < length bs → utf8_error_len bs ≡ error_len_of_some bs
unfolding utf8_error_len
some_len bs some = ap (λ b. cond b None (error_len_of_some bs)) (ne_eqb (length bs) 0 (omega arith))

invalid_some : (bs : List ℕ) → 0 < length bs → 0 < utf8_invalid_len bs
invalid_some bs some =
    let P : Option ℕ → Type 0 = λ o. 0 < unwrap_or o (length bs) in
    let one : P (Some 1) = omega arith in
    let two : P (Some 2) = omega arith in
    let three : P (Some 3) = omega arith in
    let x = slice_index bs 0 in
    let third = is_in_range 0x80 0xBF (slice_index bs 2) in
    let after_three = cond_both P (nat_lt (length bs) 4) None (Some 3) some three in
    let after_two : P (error_len_after_two bs) =
    cond_both P (nat_lt (length bs) 3) None (cond third (cond (nat_lt (length bs) 4) None (Some 3)) (Some 2)) some
    (cond_both P third (cond (nat_lt (length bs) 4) None (Some 3)) (Some 2) after_three two) in
    let second = is_in_range (second_byte_min x) (second_byte_max x) (slice_index bs 1) in
    let after_one : P (error_len_after_one bs) =
    cond_both P (nat_lt (length bs) 2) None (cond second (error_len_after_two bs) (Some 1)) some
    (cond_both P second (error_len_after_two bs) (Some 1) after_two one) in
    subst P (sym (some_len bs some)) (cond_both P (is_in_range 0xC2 0xF4 x) (error_len_after_one bs) (Some 1) after_one one)

length-after_first_chunk : (bs : List ℕ) → (utf8_valid_len bs ≡ length bs → ⊥) → length (after_first_chunk bs) < length bs
length-after_first_chunk bs faulty =
    let n = utf8_valid_len bs in
    let within = utf8_valid_len_le bs in
    let invalid = invalid_some (drop n bs) (omega (arith, length-drop n bs)) in
    omega (arith, length-drop (n + utf8_invalid_len (drop n bs)) bs)

no_bytes : (bs : List ℕ) → length bs ≤ 0 → bs ≡ []
no_bytes [] l = refl
no_bytes (b ∷ bs) l = absurd (omega (arith, l))

within_utf8 : (k : ℕ) (bs : List ℕ) → length bs ≤ k → IsUtf8 (utf8_lossy_within k bs)
within_utf8 zero bs l = subst IsUtf8 (sym (no_bytes bs l)) IsUtf8-nil
within_utf8 (suc k) bs l = go (λ cs l. within_utf8 k cs l) (nat_eq (utf8_valid_len bs) (length bs)) refl
  where
    go : ((cs : List ℕ) → length cs ≤ k → IsUtf8 (utf8_lossy_within k cs)) → (t : Bool) → nat_eq (utf8_valid_len bs) (length bs) ≡ t → IsUtf8 (utf8_lossy_within (suc k) bs)
    go again true e =
        let x : utf8_valid_len bs ≡ length bs = eqb-true (utf8_valid_len bs) (length bs) e in
        rw e (subst IsUtf8 (ap (λ n. take n bs) x ∙ take_whole bs) (valid_utf8 bs))
    go again false e =
        let s : length (after_first_chunk bs) < length bs = length-after_first_chunk bs (eqb-false (utf8_valid_len bs) (length bs) e) in
        rw e (IsUtf8-append (take (utf8_valid_len bs) bs) (replacement_bytes ++ utf8_lossy_within k (after_first_chunk bs)) (valid_utf8 bs)
        (IsUtf8-append replacement_bytes (utf8_lossy_within k (after_first_chunk bs)) replacement_utf8 (again (after_first_chunk bs) (omega (arith, s, l)))))

-- a text that was made of any bytes
pub lossy_utf8 : (bs : List ℕ) → IsUtf8 (utf8_lossy bs)
unfolding utf8_lossy
lossy_utf8 bs = within_utf8 (length bs) bs (omega arith)

some_within : (k : ℕ) (bs : List ℕ) → utf8_lossy_within k bs ≡ [] → bs ≡ []
some_within zero bs h = h
some_within (suc k) bs h = go (nat_eq (utf8_valid_len bs) (length bs)) refl
  where
    go : (t : Bool) → nat_eq (utf8_valid_len bs) (length bs) ≡ t → bs ≡ []
    go true e = let y : bs ≡ [] = rw e at h in y
    go false e =
        let y : take (utf8_valid_len bs) bs ++ (replacement_bytes ++ utf8_lossy_within k (after_first_chunk bs)) ≡ [] = rw e at h in
        absurd (omega (arith, ap length y, length-append (take (utf8_valid_len bs) bs) (replacement_bytes ++ utf8_lossy_within k (after_first_chunk bs))))

pub lossy_some : (bs : List ℕ) → utf8_lossy bs ≡ [] → bs ≡ []
unfolding utf8_lossy
lossy_some bs h = some_within (length bs) bs h
