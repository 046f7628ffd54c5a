-- Each text among the tokens of JSON in UTF-8 is UTF-8.
use Rattle.std.proofs.Common.{◌≡◌, ℕ, zero, suc, ◌+◌, ◌*◌, ◌<◌, Bool, true, false, cond, ◌&&◌, ◌==◌, nat_lt, nat_eq, eqb-true, List, [], ◌∷◌, ◌++◌, length, drop, get_or, Option, Some, None, refl, sym, ap, ◌∙◌, subst, arith, append_assoc, IsUtf8}
use Rattle.std.proofs.lemmas.Bool.Decides.{nat_tests}
use Rattle.std.proofs.lemmas.List.{length-append}
use Rattle.std.proofs.lemmas.Str.{IsCharBoundary-after_ascii, IsCharBoundary-before_ascii, IsUtf8-append, IsUtf8-drop, IsUtf8-encode, IsUtf8-from_ascii, IsUtf8-take}
use Rattle.std.proofs.Math.Seq.{drop-append_seam, take-append_seam}
use Rattle.std.specs.Prelude.{⊤, option_and_then}
use Rattle.std.specs.List.{AllByRecursion, starts_with}
use Rattle.std.specs.Char.{IsScalar, digit_value, encode_utf8, is_digit}
use Rattle.json.specs.Ascii as ascii
use Rattle.json.specs.Text.{code_unit, short_escape, is_high_surrogate, is_low_surrogate, surrogate_pair, Within, plain, after_backslash, after_u, after_high, prepend, content}
use Rattle.json.specs.Token.{Token}
use Rattle.json.specs.Word.{head, literal, number_before, after_number, ends_word, word, is_operator, is_space}
use Rattle.json.specs.Lex.{Lexeme, token, comma, colon, Class, quote, backslash, operator, space, other, class, operator_lexeme, string_token, Mode, between, in_word, in_string, in_escape, lex_byte, lex, Place, fresh, after_value, after_comma, after_key, begins_colon, may_begin, may_close, if_allowed, place_token, punctuate, tokens}

-- ---- a text in two at an ASCII byte

at_seam : (pre : List ℕ) (c : ℕ) (cs : List ℕ) → get_or (pre ++ c ∷ cs) (length pre) 0 ≡ c
at_seam [] c cs = refl
at_seam (x ∷ xs) c cs = at_seam xs c cs

module _ (pre cs : List ℕ) (c : ℕ) (low : c < 128) (u : IsUtf8 (pre ++ c ∷ cs)) where
  within : length pre < length (pre ++ c ∷ cs)
  within = omega (arith, length-append pre (c ∷ cs))

  is_low : get_or (pre ++ c ∷ cs) (length pre) 0 < 128
  is_low = subst (λ (x : ℕ). x < 128) (sym (at_seam pre c cs)) low

  before : IsUtf8 pre
  before = subst IsUtf8 (take-append_seam pre (c ∷ cs)) (IsUtf8-take (pre ++ c ∷ cs) (length pre) u (IsCharBoundary-before_ascii (pre ++ c ∷ cs) (length pre) within is_low))

  behind : IsUtf8 cs
  behind = subst IsUtf8 is (IsUtf8-drop (pre ++ c ∷ cs) (length pre + 1) u (IsCharBoundary-after_ascii (pre ++ c ∷ cs) (length pre) u within is_low))
    where
      is : drop (length pre + 1) (pre ++ c ∷ cs) ≡ cs
      is =
          let long : length pre + 1 ≡ length (pre ++ c ∷ []) = omega (arith, length-append pre (c ∷ [])) in
          ap (λ (n : ℕ). drop n (pre ++ c ∷ cs)) long ∙ ap (drop (length (pre ++ c ∷ []))) (sym (append_assoc pre (c ∷ []) cs)) ∙ drop-append_seam (pre ++ c ∷ []) cs

one_byte : (c : ℕ) → c < 128 → IsUtf8 (c ∷ [])
one_byte c low = IsUtf8-from_ascii (c ∷ []) (λ i. one i)
  where
    one : (i : ℕ) → get_or (c ∷ []) i 0 < 128
    one zero = low
    one (suc i) = omega arith

-- ---- a string's content

-- there is none, or it is UTF-8 behind this
abbrev IsTextBehind : List ℕ → Option (List ℕ) → Type 0
IsTextBehind pre None = ⊤
IsTextBehind pre (Some s) = IsUtf8 (pre ++ s)

both : (pre : List ℕ) (b : Bool) (x y : Option (List ℕ)) → (b ≡ true → IsTextBehind pre x) → (b ≡ false → IsTextBehind pre y) → IsTextBehind pre (cond b x y)
both pre true x y f g = f refl
both pre false x y f g = g refl

then : (pre : List ℕ) (f : ℕ → Option (List ℕ)) (o : Option ℕ) → ((u : ℕ) → o ≡ Some u → IsTextBehind pre (f u)) → IsTextBehind pre (option_and_then f o)
then pre f None h = tt
then pre f (Some u) h = h u refl

longer : (pre a : List ℕ) (r : Option (List ℕ)) → IsUtf8 pre → IsUtf8 a → IsTextBehind [] r → IsTextBehind pre (prepend a r)
longer pre a None u v h = tt
longer pre a (Some s) u v h = IsUtf8-append pre (a ++ s) u (IsUtf8-append a s v h)

plain_longer : (pre : List ℕ) (x : ℕ) (r : Option (List ℕ)) → IsTextBehind (pre ++ x ∷ []) r → IsTextBehind pre (prepend (x ∷ []) r)
plain_longer pre x None h = tt
plain_longer pre x (Some s) h = subst IsUtf8 (append_assoc pre (x ∷ []) s) h

low_digit : (x : ℕ) → is_digit x 16 ≡ true → x < 128
low_digit x d = grind (arith, nat_tests)

four : (a b c d : Bool) → (a && b && c && d) ≡ true → (a ≡ true) × (b ≡ true) × (c ≡ true) × (d ≡ true)
four true true true true e = (refl, refl, refl, refl)
four true true true false e = absurd cc
four true true false d e = absurd cc
four true false c d e = absurd cc
four false b c d e = absurd cc

low_value : (x : ℕ) → is_digit x 16 ≡ true → digit_value x < 16
low_value x d = grind (arith, nat_tests)

none_some : (u : ℕ) → ◌≡◌ {A = Option ℕ} None (Some u) → ⊥
none_some u e = cc

some_is : (u v : ℕ) → Some u ≡ Some v → u ≡ v
some_is u v e = cc

-- the digits of a code unit
record IsUnit (a b c d u : ℕ) : Type 0 where
  first : a < 128
  second : b < 128
  third : c < 128
  fourth : d < 128
  below : u < 65536

unit_is : (a b c d u : ℕ) → code_unit a b c d ≡ Some u → IsUnit a b c d u
unfolding code_unit
unit_is a b c d u e = by (is_digit a 16 && is_digit b 16 && is_digit c 16 && is_digit d 16) refl e
  where
    by : (t : Bool) → (is_digit a 16 && is_digit b 16 && is_digit c 16 && is_digit d 16) ≡ t →
        cond t (Some (digit_value a * 4096 + digit_value b * 256 + digit_value c * 16 + digit_value d)) None ≡ Some u → IsUnit a b c d u
    by true t k =
        let all = four (is_digit a 16) (is_digit b 16) (is_digit c 16) (is_digit d 16) t in
        let same = some_is _ u k in
        let va = low_value a all.0 in
        let vb = low_value b all.1 in
        let vc = low_value c all.2 in
        let vd = low_value d all.3 in
        record {
          first = low_digit a all.0;
          second = low_digit b all.1;
          third = low_digit c all.2;
          fourth = low_digit d all.3;
          below = omega (arith, same, va, vb, vc, vd);
        }
    by false t k = absurd (none_some u k)

-- a short escape is of one ASCII byte, and stands for one
record IsShort (x c : ℕ) : Type 0 where
  escape : x < 128
  escaped : c < 128

short_is : (x c : ℕ) → short_escape x ≡ Some c → IsShort x c
unfolding short_escape
short_is x c e = record { escape = grind (arith, nat_tests); escaped = grind (arith, nat_tests) }

lone_scalar : (u : ℕ) → u < 65536 → is_high_surrogate u ≡ false → is_low_surrogate u ≡ false → IsScalar u
lone_scalar u below h l = grind (arith, nat_tests)

pair_scalar : (h l : ℕ) → is_high_surrogate h ≡ true → is_low_surrogate l ≡ true → IsScalar (surrogate_pair h l)
pair_scalar h l p q = grind (arith, nat_tests)

abbrev IsHigh : Within → Type 0
IsHigh plain = ⊤
IsHigh after_backslash = ⊤
IsHigh after_u = ⊤
IsHigh (after_high h) = is_high_surrogate h ≡ true

byte_is : (x c : ℕ) → c < 128 → (x == c) ≡ true → x < 128
byte_is x c low e = let same = eqb-true x c e in omega (arith, low, same)

content_text : (w : Within) (pre xs : List ℕ) → IsHigh w → IsUtf8 (pre ++ xs) → IsTextBehind pre (content w xs)
unfolding content
content_text plain pre [] h u = tt
content_text plain pre (x ∷ xs) h u =
    both pre (x == ascii.quote) (Some []) _ (λ e. subst IsUtf8 (sym (nothing pre)) (before pre xs x (byte_is x ascii.quote (omega arith) e) u))
    (λ q. both pre (x == ascii.backslash) (content after_backslash xs) _
    (λ e. let low = byte_is x ascii.backslash (omega arith) e in content_text after_backslash pre xs tt (IsUtf8-append pre xs (before pre xs x low u) (behind pre xs x low u)))
    (λ b. both pre (nat_lt x ascii.space) None (prepend (x ∷ []) (content plain xs)) (λ s. tt)
    (λ s. plain_longer pre x (content plain xs) (content_text plain (pre ++ x ∷ []) xs tt (subst IsUtf8 (sym (append_assoc pre (x ∷ []) xs)) u)))))
  where
    nothing : (xs : List ℕ) → xs ++ [] ≡ xs
    nothing [] = refl
    nothing (y ∷ ys) = ap (λ (l : List ℕ). y ∷ l) (nothing ys)
content_text after_backslash pre [] h u = tt
content_text after_backslash pre (x ∷ xs) h u =
    both pre (x == ascii.lower_u) (content after_u xs) _
    (λ e. let low = byte_is x ascii.lower_u (omega arith) e in content_text after_u pre xs tt (IsUtf8-append pre xs (before pre xs x low u) (behind pre xs x low u)))
    (λ e. then pre (λ c. prepend (c ∷ []) (content plain xs)) (short_escape x)
    (λ c s. let short = short_is x c s in
    longer pre (c ∷ []) (content plain xs) (before pre xs x short.escape u) (one_byte c short.escaped) (content_text plain [] xs tt (behind pre xs x short.escape u))))
content_text after_u pre [] h u = tt
content_text after_u pre (a ∷ []) h u = tt
content_text after_u pre (a ∷ b ∷ []) h u = tt
content_text after_u pre (a ∷ b ∷ c ∷ []) h u = tt
content_text after_u pre (a ∷ b ∷ c ∷ d ∷ xs) h u =
    then pre (λ n. cond (is_high_surrogate n) (content (after_high n) xs) (cond (is_low_surrogate n) None (prepend (encode_utf8 n) (content plain xs)))) (code_unit a b c d)
    (λ n e. let unit = unit_is a b c d n e in
    let front = before pre (b ∷ c ∷ d ∷ xs) a unit.first u in
    let rest = behind [] xs d unit.fourth (behind [] (d ∷ xs) c unit.third (behind [] (c ∷ d ∷ xs) b unit.second (behind pre (b ∷ c ∷ d ∷ xs) a unit.first u))) in
    both pre (is_high_surrogate n) (content (after_high n) xs) _ (λ high. content_text (after_high n) pre xs high (IsUtf8-append pre xs front rest))
    (λ not_high. both pre (is_low_surrogate n) None _ (λ low. tt)
    (λ not_low. longer pre (encode_utf8 n) (content plain xs) front (IsUtf8-encode n (lone_scalar n unit.below not_high not_low)) (content_text plain [] xs tt rest))))
content_text (after_high k) pre [] h u = tt
content_text (after_high k) pre (s ∷ []) h u = tt
content_text (after_high k) pre (s ∷ v ∷ []) h u = tt
content_text (after_high k) pre (s ∷ v ∷ a ∷ []) h u = tt
content_text (after_high k) pre (s ∷ v ∷ a ∷ b ∷ []) h u = tt
content_text (after_high k) pre (s ∷ v ∷ a ∷ b ∷ c ∷ []) h u = tt
content_text (after_high k) pre (s ∷ v ∷ a ∷ b ∷ c ∷ d ∷ xs) h u =
    both pre ((s == ascii.backslash) && (v == ascii.lower_u)) _ None
    (λ e. let parts = two (s == ascii.backslash) (v == ascii.lower_u) e in
    let low = byte_is s ascii.backslash (omega arith) parts.0 in
    let next = byte_is v ascii.lower_u (omega arith) parts.1 in
    then pre (λ l. cond (is_low_surrogate l) (prepend (encode_utf8 (surrogate_pair k l)) (content plain xs)) None) (code_unit a b c d)
    (λ l t. let unit = unit_is a b c d l t in
    let digits = behind [] (a ∷ b ∷ c ∷ d ∷ xs) v next (behind pre (v ∷ a ∷ b ∷ c ∷ d ∷ xs) s low u) in
    let rest = behind [] xs d unit.fourth (behind [] (d ∷ xs) c unit.third (behind [] (c ∷ d ∷ xs) b unit.second (behind [] (b ∷ c ∷ d ∷ xs) a unit.first digits))) in
    both pre (is_low_surrogate l) _ None
    (λ q. longer pre (encode_utf8 (surrogate_pair k l)) (content plain xs) (before pre (v ∷ a ∷ b ∷ c ∷ d ∷ xs) s low u) (IsUtf8-encode (surrogate_pair k l) (pair_scalar k l h q)) (content_text plain [] xs tt rest))
    (λ q. tt)))
    (λ e. tt)
  where
    two : (a b : Bool) → (a && b) ≡ true → (a ≡ true) × (b ≡ true)
    two true true e = (refl, refl)
    two true false e = absurd cc
    two false b e = absurd cc

-- ---- lexemes

-- a text is UTF-8; keys and numbers are not looked at
abbrev pub IsTextToken : Token → Type 0
IsTextToken (Token.string s) = IsUtf8 s
IsTextToken t = ⊤

abbrev IsTextLexeme : Lexeme → Type 0
IsTextLexeme (token t) = IsTextToken t
IsTextLexeme comma = ⊤
IsTextLexeme colon = ⊤

chosen : (b : Bool) (x y : Token) → IsTextToken x → IsTextToken y → IsTextToken (cond b x y)
chosen true x y f g = f
chosen false x y f g = g

chosen_lexeme : (b : Bool) (x y : Lexeme) → IsTextLexeme x → IsTextLexeme y → IsTextLexeme (cond b x y)
chosen_lexeme true x y f g = f
chosen_lexeme false x y f g = g

number_text : (t : List ℕ) (o : Option (List ℕ)) → IsTextToken (number_before t o)
number_text t None = tt
number_text t (Some rest) = chosen (ends_word rest) _ _ tt tt

literal_text : (name : List ℕ) (t : Token) (text : List ℕ) → IsTextToken t → IsTextToken (literal name t text)
literal_text name t text h = chosen (starts_with nat_eq text name && ends_word (drop (length name) text)) t Token.bad h tt

word_text : (t : List ℕ) → IsTextToken (word t)
unfolding word
word_text t =
    chosen (head t == ascii.lower_t) _ _ (literal_text ascii.true_text (Token.boolean true) t tt)
    (chosen (head t == ascii.lower_f) _ _ (literal_text ascii.false_text (Token.boolean false) t tt)
    (chosen (head t == ascii.lower_n) _ _ (literal_text ascii.null_text Token.null t tt) (number_text t (after_number t))))

operator_text : (x : ℕ) → IsTextLexeme (operator_lexeme x)
operator_text x =
    chosen_lexeme (x == ascii.open_brace) _ _ tt (chosen_lexeme (x == ascii.close_brace) _ _ tt (chosen_lexeme (x == ascii.open_bracket) _ _ tt
    (chosen_lexeme (x == ascii.close_bracket) _ _ tt (chosen_lexeme (x == ascii.comma) _ _ tt tt))))

string_text : (o : Option (List ℕ)) → IsTextBehind [] o → IsTextToken (string_token o)
string_text None h = tt
string_text (Some s) h = h

class_quote : (x : ℕ) → class x ≡ quote → (x == ascii.quote) ≡ true
class_quote x e = by (x == ascii.quote) (x == ascii.backslash) (is_operator x) (is_space x) e
  where
    by : (q b o s : Bool) → cond q quote (cond b backslash (cond o operator (cond s space other))) ≡ quote → q ≡ true
    by true b o s e = refl
    by false true o s e = absurd (let wrong : backslash ≡ quote = e in cc)
    by false false true s e = absurd (let wrong : operator ≡ quote = e in cc)
    by false false false true e = absurd (let wrong : space ≡ quote = e in cc)
    by false false false false e = absurd (let wrong : other ≡ quote = e in cc)

abbrev AreTexts : List Lexeme → Type 0
AreTexts ls = AllByRecursion IsTextLexeme ls

byte_text : (m : Mode) (c : Class) (x : ℕ) (xs : List ℕ) (k : Mode → List Lexeme) → ((next : Mode) → AreTexts (k next)) → (c ≡ quote → IsTextBehind [] (content plain xs)) → AreTexts (lex_byte m c x xs k)
byte_text between quote x xs k h s = (string_text (content plain xs) (s refl), h in_string)
byte_text between backslash x xs k h s = (tt, h in_word)
byte_text between operator x xs k h s = (operator_text x, h between)
byte_text between space x xs k h s = h between
byte_text between other x xs k h s = (word_text (x ∷ xs), h in_word)
byte_text in_word quote x xs k h s = h in_word
byte_text in_word backslash x xs k h s = h in_word
byte_text in_word operator x xs k h s = (operator_text x, h between)
byte_text in_word space x xs k h s = h between
byte_text in_word other x xs k h s = h in_word
byte_text in_string quote x xs k h s = h between
byte_text in_string backslash x xs k h s = h in_escape
byte_text in_string operator x xs k h s = h in_string
byte_text in_string space x xs k h s = h in_string
byte_text in_string other x xs k h s = h in_string
byte_text in_escape c x xs k h s = h in_string

lex_text : (m : Mode) (pre xs : List ℕ) → IsUtf8 (pre ++ xs) → AreTexts (lex m xs)
unfolding lex
lex_text m pre [] u = tt
lex_text m pre (x ∷ xs) u =
    byte_text m (class x) x xs (λ next. lex next xs) (λ next. lex_text next (pre ++ x ∷ []) xs (subst IsUtf8 (sym (append_assoc pre (x ∷ []) xs)) u))
    (λ e. content_text plain [] xs tt (behind pre xs x (byte_is x ascii.quote (omega arith) (class_quote x e)) u))

-- ---- tokens

abbrev pub AreTextTokens : List Token → Type 0
AreTextTokens ts = AllByRecursion IsTextToken ts

allowed : (b : Bool) (t : Token) (k : Place → List Token) (next : Place) → IsTextToken t → ((p : Place) → AreTextTokens (k p)) → AreTextTokens (if_allowed b t k next)
allowed true t k next h all = (h, all next)
allowed false t k next h all = (tt, tt)

placed : (p : Place) (t : Token) (b : Bool) (k : Place → List Token) → IsTextToken t → ((next : Place) → AreTextTokens (k next)) → AreTextTokens (place_token p t b k)
placed p Token.begin_object b k h all = allowed (may_begin p) Token.begin_object k fresh tt all
placed p Token.end_object b k h all = allowed (may_close p) Token.end_object k after_value tt all
placed p Token.begin_array b k h all = allowed (may_begin p) Token.begin_array k fresh tt all
placed p Token.end_array b k h all = allowed (may_close p) Token.end_array k after_value tt all
placed p (Token.key s) b k h all = (tt, tt)
placed p (Token.string s) true k h all = allowed (may_begin p) (Token.key s) k after_key tt all
placed p (Token.string s) false k h all = allowed (may_begin p) (Token.string s) k after_value h all
placed p (Token.number s) b k h all = allowed (may_begin p) (Token.number s) k after_value tt all
placed p (Token.boolean v) b k h all = allowed (may_begin p) (Token.boolean v) k after_value tt all
placed p Token.null b k h all = allowed (may_begin p) Token.null k after_value tt all
placed p Token.bad b k h all = (tt, tt)

punctuated : (p : Place) (ls : List Lexeme) → AreTexts ls → AreTextTokens (punctuate p ls)
unfolding punctuate
punctuated fresh [] h = tt
punctuated after_value [] h = tt
punctuated after_comma [] h = (tt, tt)
punctuated after_key [] h = (tt, tt)
punctuated fresh (token t ∷ ls) h = placed fresh t (begins_colon ls) (λ next. punctuate next ls) h.0 (λ next. punctuated next ls h.1)
punctuated after_value (token t ∷ ls) h = placed after_value t (begins_colon ls) (λ next. punctuate next ls) h.0 (λ next. punctuated next ls h.1)
punctuated after_comma (token t ∷ ls) h = placed after_comma t (begins_colon ls) (λ next. punctuate next ls) h.0 (λ next. punctuated next ls h.1)
punctuated after_key (token t ∷ ls) h = placed after_key t (begins_colon ls) (λ next. punctuate next ls) h.0 (λ next. punctuated next ls h.1)
punctuated fresh (comma ∷ ls) h = (tt, tt)
punctuated after_value (comma ∷ ls) h = punctuated after_comma ls h.1
punctuated after_comma (comma ∷ ls) h = (tt, tt)
punctuated after_key (comma ∷ ls) h = (tt, tt)
punctuated fresh (colon ∷ ls) h = (tt, tt)
punctuated after_value (colon ∷ ls) h = (tt, tt)
punctuated after_comma (colon ∷ ls) h = (tt, tt)
punctuated after_key (colon ∷ ls) h = punctuated fresh ls h.1

pub tokens_text : (text : List ℕ) → IsUtf8 text → AreTextTokens (tokens text)
tokens_text text u = punctuated fresh (lex between text) (lex_text between [] text u)
