-- The words of a text are added as its bytes are taken.
use Rattle.std.proofs.Common.{◌≡◌, ℕ, suc, ◌+◌, ◌<◌, ◌≤◌, Bool, true, false, List, [], ◌∷◌, ◌++◌, Some, None, length, take, drop, get_or, refl, sym, ◌∙◌, ap, subst, arith}
use Rattle.std.specs.Prelude.{nat_le, if◌then◌else◌}
use Rattle.std.specs.Char.{is_ascii_alphanumeric, to_ascii_lowercase}
use Rattle.std.specs.Bool.{MatchBool}
use Rattle.std.specs.Str.{IsAscii, IsNotAscii}
use Rattle.std.proofs.Math.Seq.{drop-cons}
use Rattle.std.proofs.lemmas.List.{append-nil, drop_all}
use Rattle.std.proofs.lemmas.Bool.Decides.{nat_tests}
use Rattle.doc_value.specs.declared.schema.Schema.{Schema}
use Rattle.text_tokens.specs.Tokens.{default_tokens, max_token, raw_tokens}
use Rattle.split_bundle.specs.Keys.{Occurrence, field_key, value_place, of_tokens}
use Rattle.split_build.specs.declared.terms.TermLog.{TermLog}
use Rattle.split_build.specs.Said.{in_document}
use Rattle.split_build.specs.Walks.{Adds, IsKept}
use Rattle.split_build.specs.Words.{letter_of, next_position, next_word, of_byte, of_bytes, of_word, position_behind}
use Rattle.split_build.proofs.WalkLemmas.{Walked, adds_none, in_document-append, walked_end, walked_start, walked_step}
use Rattle.split_build.proofs.WordLemmas.{bytes_are}

-- ---- a word

pub word_long : (number value position : ℕ) (word : List ℕ) → 255 < length word → of_word number value position word ≡ []
word_long number value position [] long = absurd (omega (arith, long))
word_long number value position (b ∷ bs) long =
    let no : nat_le (length (b ∷ bs)) max_token ≡ false = grind (arith, nat_tests) in
    rw no refl

pub word_short : (number value position : ℕ) (word : List ℕ) → (word ≡ [] → ⊥) → length word ≤ 255 → of_word number value position word ≡ record { key = field_key number word; place = value_place value position } ∷ []
word_short number value position [] some short = absurd (some refl)
word_short number value position (b ∷ bs) some short =
    let yes : nat_le (length (b ∷ bs)) max_token ≡ true = grind (arith, nat_tests) in
    rw yes refl

pub text_long : (number value : ℕ) (text : List ℕ) → 255 < length text → of_tokens number value (raw_tokens text) ≡ []
text_long number value text long =
    let no : nat_le (length text) max_token ≡ false = grind (arith, nat_tests) in
    rw no refl

pub text_short : (number value : ℕ) (text : List ℕ) → length text ≤ 255 → of_tokens number value (raw_tokens text) ≡ record { key = field_key number text; place = value_place value 0 } ∷ []
text_short number value text short =
    let yes : nat_le (length text) max_token ≡ true = grind (arith, nat_tests) in
    rw yes refl

pub key_size : (key : List ℕ) (number : ℕ) (word : List ℕ) → key ≡ field_key number word → length key ≡ length word + 2
key_size key number word is = omega (arith, ap (λ (l : List ℕ). length l) is)

pub no_word : (key : List ℕ) (number : ℕ) (word : List ℕ) → key ≡ field_key number word → length key ≤ 2 → word ≡ []
no_word key number [] is few = refl
no_word key number (b ∷ bs) is few = absurd (omega (arith, few, key_size key number (b ∷ bs) is))

pub some_word : (key : List ℕ) (number : ℕ) (word : List ℕ) → key ≡ field_key number word → 2 < length key → word ≡ [] → ⊥
some_word key number word is many none = absurd (omega (arith, many, key_size key number word is, ap (λ (l : List ℕ). length l) none))

pub key_cut : (key now : List ℕ) (number : ℕ) (word : List ℕ) → key ≡ field_key number word → now ≡ take 2 key → now ≡ field_key number []
key_cut key now number word is cut = cut ∙ ap (λ (l : List ℕ). take 2 l) is

pub behind_none : (position : ℕ) (word : List ℕ) → word ≡ [] → position ≡ position_behind position word
behind_none position word none = sym (ap (λ (w : List ℕ). position_behind position w) none)

pub behind_some : (position : ℕ) (word : List ℕ) → (word ≡ [] → ⊥) → position + 1 ≡ position_behind position word
behind_some position [] some = absurd (some refl)
behind_some position (b ∷ bs) some = omega arith

pub says_none : (t : TermLog) (s : Schema) (d : ℕ) (os : List Occurrence) → os ≡ [] → Adds t t s (in_document d os)
says_none t s d os none = subst (λ (l : List Occurrence). Adds t t s (in_document d l)) (sym none) (adds_none t s)

-- ---- a byte

pub no_letter : (b : ℕ) → None ≡ letter_of b → is_ascii_alphanumeric b ≡ false
no_letter b e = by (is_ascii_alphanumeric b) refl
  where
    by : (x : Bool) → is_ascii_alphanumeric b ≡ x → is_ascii_alphanumeric b ≡ false
    by true is =
        let wrong : None ≡ Some (to_ascii_lowercase b) = rw is at e in
        absurd cc
    by false is = is

pub same_position : (position b : ℕ) (word : List ℕ) → is_ascii_alphanumeric b ≡ true → position ≡ next_position position word b
same_position position b word letter = rw letter refl

next_few : (position b : ℕ) (word : List ℕ) → next_position position word b ≤ position + 1
next_few position b word = by (is_ascii_alphanumeric b) word
  where
    by : (x : Bool) (w : List ℕ) → (if x then position else position_behind position w) ≤ position + 1
    by true w = omega arith
    by false [] = omega arith
    by false (c ∷ cs) = omega arith

-- ---- the bytes of a text

-- a word stands in the buffer, and what the bytes up to there say was added
pub record IsInWord (a b : TermLog) (kept : Bool) (number document value position i : ℕ) (key text : List ℕ) : Type 0 where
  pub word : List ℕ
  pub key_is : key ≡ field_key number word
  pub few : position ≤ i
  pub walked : (s : Schema) → IsKept s number kept → Walked a b s (in_document document (of_bytes number value position word (drop i text))) (in_document document (of_bytes number value 0 [] text))

pub none_taken : (a : TermLog) (kept : Bool) (number document value : ℕ) (key text : List ℕ) → key ≡ field_key number [] → IsInWord a a kept number document value 0 0 key text
none_taken a kept number document value key text is = record { word = []; key_is = is; few = omega arith; walked = λ s k. walked_start a s (in_document document (of_bytes number value 0 [] text)) }

pub byte_taken : (a b c : TermLog) (kept : Bool) (number document value position next i byte : ℕ) (key now text : List ℕ) → i < length text → byte ≡ get_or text i 0 → (h : IsInWord a b kept number document value position i key text)
    → now ≡ field_key number (next_word h.word byte) → next ≡ next_position position h.word byte → ((s : Schema) → IsKept s number kept → Adds b c s (in_document document (of_byte number value position h.word byte)))
    → IsInWord a c kept number document value next (i + 1) now text
byte_taken a b c kept number document value position next i byte key now text lt byte_is h now_is next_is added =
    let behind : suc i ≡ i + 1 = omega arith in
    let step : drop i text ≡ byte ∷ drop (i + 1) text =
    drop-cons text i 0 lt ∙ ap (λ (m : ℕ). m ∷ drop (suc i) text) (sym byte_is) ∙ ap (λ (n : ℕ). byte ∷ drop n text) behind in
    let parts : in_document document (of_bytes number value position h.word (drop i text)) ≡ in_document document (of_byte number value position h.word byte) ++ in_document document (of_bytes number value next (next_word h.word byte) (drop (i + 1) text)) =
    ap (λ (bs : List ℕ). in_document document (of_bytes number value position h.word bs)) step
    ∙ in_document-append document (of_byte number value position h.word byte) (of_bytes number value (next_position position h.word byte) (next_word h.word byte) (drop (i + 1) text))
    ∙ ap (λ (p : ℕ). in_document document (of_byte number value position h.word byte) ++ in_document document (of_bytes number value p (next_word h.word byte) (drop (i + 1) text))) (sym next_is) in
    record {
      word = next_word h.word byte;
      key_is = now_is;
      few = omega (arith, next_is, next_few position byte h.word, h.few);
      walked = λ s k.
          walked_step a b c s (in_document document (of_byte number value position h.word byte)) (in_document document (of_bytes number value next (next_word h.word byte) (drop (i + 1) text)))
          (in_document document (of_bytes number value position h.word (drop i text))) (in_document document (of_bytes number value 0 [] text)) parts (h.walked s k) (added s k);
    }

pub all_taken : (a b c : TermLog) (s : Schema) (kept : Bool) (number document value position i : ℕ) (key text : List ℕ) → length text ≤ i → IsAscii text → IsKept s number kept → (h : IsInWord a b kept number document value position i key text)
    → Adds b c s (in_document document (of_word number value position h.word)) → Adds a c s (in_document document (of_tokens number value (default_tokens text)))
all_taken a b c s kept number document value position i key text end ascii k h added =
    let none : drop i text ≡ [] = drop_all i text end in
    let last : in_document document (of_bytes number value position h.word (drop i text)) ≡ in_document document (of_word number value position h.word) ++ [] =
    ap (λ (bs : List ℕ). in_document document (of_bytes number value position h.word bs)) none ∙ sym (append-nil (in_document document (of_word number value position h.word))) in
    let walked = walked_step a b c s (in_document document (of_word number value position h.word)) [] (in_document document (of_bytes number value position h.word (drop i text))) (in_document document (of_bytes number value 0 [] text)) last (h.walked s k) added in
    subst (λ (os : List Occurrence). Adds a c s (in_document document os)) (bytes_are number value text ascii) (walked_end a c s [] (in_document document (of_bytes number value 0 [] text)) refl walked)

pub ascii_is : (b : Bool) (text : List ℕ) → b ≡ true → MatchBool b (IsAscii text) (IsNotAscii text) → IsAscii text
ascii_is true text e h = h
ascii_is false text e h = absurd cc
