-- The texts of what JSON reads as are together no longer than the JSON.
use Rattle.std.proofs.Common.{◌≡◌, ℕ, zero, suc, ◌+◌, ◌≤◌, Bool, true, false, cond, ◌&&◌, ◌==◌, nat_lt, nat_eq, eqb-true, List, [], ◌∷◌, length, drop, Option, Some, None, refl, sym, ◌∙◌, subst, arith, inl, inr}
use Rattle.std.proofs.lemmas.Bool.{cases_Bool}
use Rattle.std.proofs.lemmas.List.{length-append}
use Rattle.std.specs.Prelude.{⊤, option_and_then}
use Rattle.std.specs.List.{starts_with}
use Rattle.std.specs.Char.{encode_utf8, is_digit}
use Rattle.json.specs.Ascii as ascii
use Rattle.json.specs.Text.{code_unit, short_escape, is_high_surrogate, is_low_surrogate, surrogate_pair, Within, plain, after_backslash, after_u, after_high, prepend, content}
use Rattle.json.specs.Token.{Token}
use Rattle.json.specs.Word.{head, literal, number_before, after_number, ends_word, word, is_operator, is_space}
use Rattle.json.specs.Lex.{Lexeme, token, comma, colon, Class, quote, backslash, operator, space, other, class, operator_lexeme, string_token, Mode, between, in_word, in_string, in_escape, lex_byte, lex, Place, fresh, after_value, after_comma, after_key, begins_colon, may_begin, may_close, if_allowed, place_token, punctuate, tokens}

-- ---- sizes

abbrev pub token_size : Token → ℕ
token_size Token.begin_object = 0
token_size Token.end_object = 0
token_size Token.begin_array = 0
token_size Token.end_array = 0
token_size (Token.key s) = 0
token_size (Token.string s) = suc (length s)
token_size (Token.number s) = 0
token_size (Token.boolean b) = 0
token_size Token.null = 0
token_size Token.bad = 0

abbrev pub tokens_size : List Token → ℕ
tokens_size [] = 0
tokens_size (t ∷ ts) = token_size t + tokens_size ts

abbrev lexeme_size : Lexeme → ℕ
lexeme_size (token t) = token_size t
lexeme_size comma = 0
lexeme_size colon = 0

abbrev lexemes_size : List Lexeme → ℕ
lexemes_size [] = 0
lexemes_size (l ∷ ls) = lexeme_size l + lexemes_size ls

-- ---- a string's content, and the lexemes behind it

-- there is no content, or with so much behind it at most so much
abbrev Leaves : ℕ → ℕ → Option (List ℕ) → Type 0
Leaves n w None = ⊤
Leaves n w (Some s) = length s + w ≤ n

both : (n w : ℕ) (b : Bool) (x y : Option (List ℕ)) → Leaves n w x → Leaves n w y → Leaves n w (cond b x y)
both n w true x y f g = f
both n w false x y f g = g

then : (n w : ℕ) (f : ℕ → Option (List ℕ)) (o : Option ℕ) → ((u : ℕ) → Leaves n w (f u)) → Leaves n w (option_and_then f o)
then n w f None h = tt
then n w f (Some u) h = h u

raised : (n m w : ℕ) (r : Option (List ℕ)) → Leaves m w r → m ≤ n → Leaves n w r
raised n m w None h le = tt
raised n m w (Some s) h le = omega (arith, h, le)

longer : (n m w : ℕ) (a : List ℕ) (r : Option (List ℕ)) → Leaves m w r → length a + m ≤ n → Leaves n w (prepend a r)
longer n m w a None h le = tt
longer n m w a (Some s) h le = omega (arith, length-append a s, h, le)

length-encode : (u : ℕ) → length (encode_utf8 u) ≤ 4
unfolding encode_utf8
length-encode u = grind arith

-- the lexer's mode within a string
abbrev mode_of : Within → Mode
mode_of plain = in_string
mode_of after_backslash = in_escape
mode_of after_u = in_string
mode_of (after_high h) = in_string

-- a byte that neither ends a string nor escapes is passed over
passed : (x : ℕ) (xs : List ℕ) → (x == ascii.quote) ≡ false → (x == ascii.backslash) ≡ false → lex in_string (x ∷ xs) ≡ lex in_string xs
unfolding lex
passed x xs q b = rw q (rw b (by (is_operator x) (is_space x)))
  where
    by : (o s : Bool) → lex_byte in_string (cond o operator (cond s space other)) x xs (λ next. lex next xs) ≡ lex in_string xs
    by true s = refl
    by false true = refl
    by false false = refl

not_digit : (x k : ℕ) → is_digit k 16 ≡ false → is_digit x 16 ≡ true → (x == k) ≡ false
not_digit x k n d =
    elim (cases_Bool (x == k)) [
      | inl e ↦ absurd (let same : x ≡ k = eqb-true x k e in let y : false ≡ true = sym n ∙ subst (λ (z : ℕ). is_digit z 16 ≡ true) same d in cc)
      | inr e ↦ e
    ]

digit_passed : (x : ℕ) (xs : List ℕ) → is_digit x 16 ≡ true → lex in_string (x ∷ xs) ≡ lex in_string xs
digit_passed x xs d = passed x xs (not_digit x ascii.quote refl d) (not_digit x ascii.backslash refl d)

four : (a b c d : Bool) → (a && b && c && d) ≡ true → (a ≡ true) × (b ≡ true) × (c ≡ true) × (d ≡ true)
four true true true true e = (refl, refl, refl, refl)
four true true true false e = absurd cc
four true true false d e = absurd cc
four true false c d e = absurd cc
four false b c d e = absurd cc

-- four digits are passed over
unit_passed : (n : ℕ) (f : ℕ → Option (List ℕ)) (a b c d : ℕ) (xs : List ℕ) → ((u : ℕ) → Leaves n (lexemes_size (lex in_string xs)) (f u)) →
    Leaves n (lexemes_size (lex in_string (a ∷ b ∷ c ∷ d ∷ xs))) (option_and_then f (code_unit a b c d))
unfolding code_unit
unit_passed n f a b c d xs h =
    elim (cases_Bool (is_digit a 16 && is_digit b 16 && is_digit c 16 && is_digit d 16)) [
      | inl e ↦
          let all = four (is_digit a 16) (is_digit b 16) (is_digit c 16) (is_digit d 16) e in
          let over : lex in_string (a ∷ b ∷ c ∷ d ∷ xs) ≡ lex in_string xs = digit_passed a (b ∷ c ∷ d ∷ xs) all.0 ∙ digit_passed b (c ∷ d ∷ xs) all.1 ∙ digit_passed c (d ∷ xs) all.2 ∙ digit_passed d xs all.3 in
          rw over (then n (lexemes_size (lex in_string xs)) f (code_unit a b c d) h)
      | inr e ↦ rw e tt
    ]

-- the surrogate behind a high one is escaped
second_passed : (n : ℕ) (f : ℕ → Option (List ℕ)) (s u a b c d : ℕ) (xs : List ℕ) → ((l : ℕ) → Leaves n (lexemes_size (lex in_string xs)) (f l)) →
    Leaves n (lexemes_size (lex in_string (s ∷ u ∷ a ∷ b ∷ c ∷ d ∷ xs))) (cond ((s == ascii.backslash) && (u == ascii.lower_u)) (option_and_then f (code_unit a b c d)) None)
unfolding lex
second_passed n f s u a b c d xs h =
    elim (cases_Bool (s == ascii.backslash)) [
      | inl e ↦ let same : s ≡ ascii.backslash = eqb-true s ascii.backslash e in
          rw same (both n _ (u == ascii.lower_u) (option_and_then f (code_unit a b c d)) None (unit_passed n f a b c d xs h) tt)
      | inr e ↦ rw e tt
    ]

module _ (n : ℕ) (again : (ys : List ℕ) → length ys ≤ n → lexemes_size (lex between ys) ≤ length ys) where
  content_size : (w : Within) (xs : List ℕ) → length xs ≤ n → Leaves (length xs) (lexemes_size (lex (mode_of w) xs)) (content w xs)
  unfolding content lex
  content_size plain [] low = tt
  content_size plain (x ∷ xs) low = byte (content_size plain xs (omega (arith, low))) (content_size after_backslash xs (omega (arith, low)))
    where
      byte : Leaves (length xs) (lexemes_size (lex in_string xs)) (content plain xs) → Leaves (length xs) (lexemes_size (lex in_escape xs)) (content after_backslash xs) →
          Leaves (suc (length xs)) (lexemes_size (lex in_string (x ∷ xs))) (content plain (x ∷ xs))
      byte p e =
          elim (cases_Bool (x == ascii.quote)) [
            | inl q ↦ let same : x ≡ ascii.quote = eqb-true x ascii.quote q in let rest = again xs (omega (arith, low)) in rw same (omega (arith, rest))
            | inr q ↦ elim (cases_Bool (x == ascii.backslash)) [
              | inl b ↦ let same : x ≡ ascii.backslash = eqb-true x ascii.backslash b in rw same (raised _ _ _ (content after_backslash xs) e (omega arith))
              | inr b ↦ rw (passed x xs q b) (rw q (rw b (both _ _ (nat_lt x ascii.space) None (prepend (x ∷ []) (content plain xs)) tt (longer _ _ _ (x ∷ []) (content plain xs) p (omega arith)))))
            ]
          ]
  content_size after_backslash [] low = tt
  content_size after_backslash (x ∷ xs) low =
      both _ _ (x == ascii.lower_u) _ _ (raised _ _ _ _ (content_size after_u xs (omega (arith, low))) (omega arith))
      (then _ _ _ (short_escape x) (λ c. longer _ _ _ (c ∷ []) _ (content_size plain xs (omega (arith, low))) (omega arith)))
  content_size after_u [] low = tt
  content_size after_u (a ∷ []) low = tt
  content_size after_u (a ∷ b ∷ []) low = tt
  content_size after_u (a ∷ b ∷ c ∷ []) low = tt
  content_size after_u (a ∷ b ∷ c ∷ d ∷ xs) low =
      unit_passed _ _ a b c d xs (λ u. both _ _ (is_high_surrogate u) _ _ (raised _ _ _ _ (content_size (after_high u) xs (omega (arith, low))) (omega arith))
      (both _ _ (is_low_surrogate u) _ _ tt (longer _ _ _ (encode_utf8 u) _ (content_size plain xs (omega (arith, low))) (omega (arith, length-encode u)))))
  content_size (after_high h) [] low = tt
  content_size (after_high h) (s ∷ []) low = tt
  content_size (after_high h) (s ∷ u ∷ []) low = tt
  content_size (after_high h) (s ∷ u ∷ a ∷ []) low = tt
  content_size (after_high h) (s ∷ u ∷ a ∷ b ∷ []) low = tt
  content_size (after_high h) (s ∷ u ∷ a ∷ b ∷ c ∷ []) low = tt
  content_size (after_high h) (s ∷ u ∷ a ∷ b ∷ c ∷ d ∷ xs) low =
      second_passed _ _ s u a b c d xs (λ l. both _ _ (is_low_surrogate l) _ _
      (longer _ _ _ (encode_utf8 (surrogate_pair h l)) _ (content_size plain xs (omega (arith, low))) (omega (arith, length-encode (surrogate_pair h l)))) tt)

-- ---- lexemes

chosen : (b : Bool) (x y : Token) → token_size x ≡ 0 → token_size y ≡ 0 → token_size (cond b x y) ≡ 0
chosen true x y f g = f
chosen false x y f g = g

chosen_lexeme : (b : Bool) (x y : Lexeme) → lexeme_size x ≡ 0 → lexeme_size y ≡ 0 → lexeme_size (cond b x y) ≡ 0
chosen_lexeme true x y f g = f
chosen_lexeme false x y f g = g

number_none : (t : List ℕ) (o : Option (List ℕ)) → token_size (number_before t o) ≡ 0
number_none t None = refl
number_none t (Some rest) = chosen (ends_word rest) _ _ refl refl

literal_none : (name : List ℕ) (t : Token) (text : List ℕ) → token_size t ≡ 0 → token_size (literal name t text) ≡ 0
literal_none name t text h = chosen (starts_with nat_eq text name && ends_word (drop (length name) text)) t Token.bad h refl

word_none : (t : List ℕ) → token_size (word t) ≡ 0
unfolding word
word_none t =
    chosen (head t == ascii.lower_t) _ _ (literal_none ascii.true_text (Token.boolean true) t refl)
    (chosen (head t == ascii.lower_f) _ _ (literal_none ascii.false_text (Token.boolean false) t refl)
    (chosen (head t == ascii.lower_n) _ _ (literal_none ascii.null_text Token.null t refl) (number_none t (after_number t))))

operator_none : (x : ℕ) → lexeme_size (operator_lexeme x) ≡ 0
operator_none x =
    chosen_lexeme (x == ascii.open_brace) _ _ refl (chosen_lexeme (x == ascii.close_brace) _ _ refl (chosen_lexeme (x == ascii.open_bracket) _ _ refl
    (chosen_lexeme (x == ascii.close_bracket) _ _ refl (chosen_lexeme (x == ascii.comma) _ _ refl refl))))

string_size : (n w : ℕ) (o : Option (List ℕ)) → w ≤ n → Leaves n w o → token_size (string_token o) + w ≤ suc n
string_size n w None low h = omega (arith, low)
string_size n w (Some s) low h = omega (arith, h)

byte_size : (m : Mode) (c : Class) (x : ℕ) (xs : List ℕ) (k : Mode → List Lexeme) → ((next : Mode) → lexemes_size (k next) ≤ length xs) → Leaves (length xs) (lexemes_size (k in_string)) (content plain xs) →
    lexemes_size (lex_byte m c x xs k) ≤ suc (length xs)
byte_size between quote x xs k h s = string_size (length xs) (lexemes_size (k in_string)) (content plain xs) (h in_string) s
byte_size between backslash x xs k h s = omega (arith, h in_word)
byte_size between operator x xs k h s = omega (arith, h between, operator_none x)
byte_size between space x xs k h s = omega (arith, h between)
byte_size between other x xs k h s = omega (arith, h in_word, word_none (x ∷ xs))
byte_size in_word quote x xs k h s = omega (arith, h in_word)
byte_size in_word backslash x xs k h s = omega (arith, h in_word)
byte_size in_word operator x xs k h s = omega (arith, h between, operator_none x)
byte_size in_word space x xs k h s = omega (arith, h between)
byte_size in_word other x xs k h s = omega (arith, h in_word)
byte_size in_string quote x xs k h s = omega (arith, h between)
byte_size in_string backslash x xs k h s = omega (arith, h in_escape)
byte_size in_string operator x xs k h s = omega (arith, h in_string)
byte_size in_string space x xs k h s = omega (arith, h in_string)
byte_size in_string other x xs k h s = omega (arith, h in_string)
byte_size in_escape c x xs k h s = omega (arith, h in_string)

lex_size : (n : ℕ) (m : Mode) (xs : List ℕ) → length xs ≤ n → lexemes_size (lex m xs) ≤ length xs
unfolding lex
lex_size n m [] low = omega arith
lex_size zero m (x ∷ xs) low = absurd (omega (arith, low))
lex_size (suc n) m (x ∷ xs) low =
    let shorter : length xs ≤ n = omega (arith, low) in
    byte_size m (class x) x xs (λ next. lex next xs) (λ next. lex_size n next xs shorter) (content_size n (λ ys l. lex_size n between ys l) plain xs shorter)

-- ---- tokens

allowed : (n : ℕ) (b : Bool) (t : Token) (k : Place → List Token) (next : Place) → ((p : Place) → tokens_size (k p) ≤ n) → tokens_size (if_allowed b t k next) ≤ token_size t + n
allowed n true t k next h = omega (arith, h next)
allowed n false t k next h = omega arith

placed : (n : ℕ) (p : Place) (t : Token) (b : Bool) (k : Place → List Token) → ((next : Place) → tokens_size (k next) ≤ n) → tokens_size (place_token p t b k) ≤ token_size t + n
placed n p Token.begin_object b k h = allowed n (may_begin p) Token.begin_object k fresh h
placed n p Token.end_object b k h = allowed n (may_close p) Token.end_object k after_value h
placed n p Token.begin_array b k h = allowed n (may_begin p) Token.begin_array k fresh h
placed n p Token.end_array b k h = allowed n (may_close p) Token.end_array k after_value h
placed n p (Token.key s) b k h = omega arith
placed n p (Token.string s) true k h = omega (arith, allowed n (may_begin p) (Token.key s) k after_key h)
placed n p (Token.string s) false k h = allowed n (may_begin p) (Token.string s) k after_value h
placed n p (Token.number s) b k h = allowed n (may_begin p) (Token.number s) k after_value h
placed n p (Token.boolean v) b k h = allowed n (may_begin p) (Token.boolean v) k after_value h
placed n p Token.null b k h = allowed n (may_begin p) Token.null k after_value h
placed n p Token.bad b k h = omega arith

punctuated : (p : Place) (ls : List Lexeme) → tokens_size (punctuate p ls) ≤ lexemes_size ls
unfolding punctuate
punctuated fresh [] = omega arith
punctuated after_value [] = omega arith
punctuated after_comma [] = omega arith
punctuated after_key [] = omega arith
punctuated fresh (token t ∷ ls) = placed (lexemes_size ls) fresh t (begins_colon ls) (λ next. punctuate next ls) (λ next. punctuated next ls)
punctuated after_value (token t ∷ ls) = placed (lexemes_size ls) after_value t (begins_colon ls) (λ next. punctuate next ls) (λ next. punctuated next ls)
punctuated after_comma (token t ∷ ls) = placed (lexemes_size ls) after_comma t (begins_colon ls) (λ next. punctuate next ls) (λ next. punctuated next ls)
punctuated after_key (token t ∷ ls) = placed (lexemes_size ls) after_key t (begins_colon ls) (λ next. punctuate next ls) (λ next. punctuated next ls)
punctuated fresh (comma ∷ ls) = omega arith
punctuated after_value (comma ∷ ls) = omega (arith, punctuated after_comma ls)
punctuated after_comma (comma ∷ ls) = omega arith
punctuated after_key (comma ∷ ls) = omega arith
punctuated fresh (colon ∷ ls) = omega arith
punctuated after_value (colon ∷ ls) = omega arith
punctuated after_comma (colon ∷ ls) = omega arith
punctuated after_key (colon ∷ ls) = omega (arith, punctuated fresh ls)

pub tokens_short : (text : List ℕ) → tokens_size (tokens text) ≤ length text
tokens_short text =
    let a = punctuated fresh (lex between text) in
    let b = lex_size (length text) between text (omega arith) in
    omega (arith, a, b)
