-- The words of a text of ASCII are its default tokens.
use Rattle.std.proofs.Common.{◌≡◌, ℕ, zero, suc, ◌+◌, ◌<◌, Bool, true, false, List, [], ◌∷◌, ◌++◌, map, length, refl, sym, ◌∙◌, ap, subst, arith, append_assoc}
use Rattle.std.specs.Prelude.{nat_le, slice_index, encode_utf8, ◌==◌, ◌||◌, if◌then◌else◌}
use Rattle.std.specs.Char.{is_ascii_alphanumeric, to_ascii_lowercase}
use Rattle.std.specs.Str.{IsAscii}
use Rattle.std.specs.List.{AllByRecursion}
use Rattle.std.specs.Prelude.{encode_utf8_all}
use Rattle.std.proofs.lemmas.List.{append-nil, map_push, length-map}
use Rattle.std.proofs.lemmas.Str.Ascii.{All-from_ascii}
use Rattle.std.proofs.lemmas.Str.{encode_ascii, encodes-IsAscii, chars-IsAscii}
use Rattle.std.proofs.lemmas.Bool.Decides.{nat_tests}
use Rattle.std.specs.Bool.{beq}
use Rattle.ucd_table.proofs.Facts.{Stepped-below, same_from_beq}
use Rattle.ucd_table.proofs.Stepped.{zip_stepped}
use Rattle.ucd_category.specs.GeneralCategory.{general_category}
use Rattle.ucd_category.proofs.Computing.{ucd_category}
use Rattle.ucd_category.proofs.GeneralCategoryLemmas.{general_category_stepped}
use Rattle.ucd_derived.specs.Binary.{is_alphabetic}
use Rattle.ucd_derived.proofs.BinaryLemmas.{is_alphabetic_stepped}
use Rattle.ucd_derived.proofs.Computing.{ucd_derived}
use Rattle.caseless.specs.Caseless.{default_case_fold}
use Rattle.caseless.proofs.CaselessLemmas.{default_case_fold-ascii}
use Rattle.text_tokens.specs.declared.runs.Cut.TheVariants.{Words}
use Rattle.text_tokens.specs.declared.runs.Run.{Run}
use Rattle.text_tokens.specs.Runs.{is_number, is_inside, single, joined_to, runs_from}
use Rattle.text_tokens.specs.Tokens.{max_token, folded, numbered, default_tokens}
use Rattle.split_bundle.specs.Keys.{Occurrence, of_tokens}
use Rattle.split_build.specs.Words.{of_word, position_behind, of_bytes}

-- ---- letters and digits of ASCII

inside_is : (b : ℕ) → b < 128 → is_ascii_alphanumeric b ≡ is_inside Words b
unfolding ucd_category ucd_derived
inside_is b below =
    let steps = zip_stepped (λ a g. a || is_number g) is_alphabetic general_category is_alphabetic_stepped general_category_stepped in
    same_from_beq _ _ (Stepped-below (is_inside Words) steps (λ x v. beq (is_ascii_alphanumeric x) v) 128 refl b below)

abbrev AreAscii : List ℕ → Type 0
AreAscii bs = AllByRecursion (λ b. b < 128) bs

abbrev AreInside : List ℕ → Type 0
AreInside bs = AllByRecursion (λ b. (b < 128) × (is_inside Words b ≡ true)) bs

are_ascii : (bs : List ℕ) → IsAscii bs → AreAscii bs
are_ascii [] h = tt
are_ascii (b ∷ bs) h = (h 0, are_ascii bs (λ i. h (suc i)))

is_ascii_of : (bs : List ℕ) → AreAscii bs → (i : ℕ) → slice_index bs i < 128
is_ascii_of [] h i = omega arith
is_ascii_of (b ∷ bs) h zero = h.0
is_ascii_of (b ∷ bs) h (suc i) = is_ascii_of bs h.1 i

inside_ascii : (bs : List ℕ) → AreInside bs → AreAscii bs
inside_ascii [] h = tt
inside_ascii (b ∷ bs) h = (h.0.0, inside_ascii bs h.1)

inside_push : (bs : List ℕ) (b : ℕ) → AreInside bs → b < 128 → is_inside Words b ≡ true → AreInside (bs ++ b ∷ [])
inside_push [] b h lt is = ((lt, is), tt)
inside_push (x ∷ xs) b h lt is = (h.0, inside_push xs b h.1 lt is)

-- ---- runs

-- the first of them begins behind a place
abbrev IsBehind : ℕ → List Run → Type 0
IsBehind at [] = Unit {0}
IsBehind at (r ∷ rs) = at < r.from

joined_behind : (at place : ℕ) (r : Run) (rs : List Run) → place < r.from → IsBehind place (joined_to r rs)
joined_behind at place r [] lt = lt
joined_behind at place r (x ∷ xs) lt = by (r.to == x.from)
  where
    by : (b : Bool) → IsBehind place (if b then record { text = r.text ++ x.text; from = r.from; to = x.to } ∷ xs else r ∷ x ∷ xs)
    by true = lt
    by false = lt

runs_behind : (place at : ℕ) (bs : List ℕ) → place < at → IsBehind place (runs_from Words at bs)
runs_behind place at [] lt = tt
runs_behind place at (b ∷ bs) lt = by (is_inside Words b) (runs_behind place (at + length (encode_utf8 b)) bs (omega arith))
  where
    by : (x : Bool) → IsBehind place (runs_from Words (at + length (encode_utf8 b)) bs)
        → IsBehind place (if x then joined_to (single at b) (runs_from Words (at + length (encode_utf8 b)) bs) else runs_from Words (at + length (encode_utf8 b)) bs)
    by true rest = joined_behind at place (single at b) (runs_from Words (at + length (encode_utf8 b)) bs) lt
    by false rest = rest

-- the run of some letters, if there are any
abbrev whole : ℕ → List ℕ → List Run
whole at [] = []
whole at (b ∷ bs) = record { text = b ∷ bs; from = at; to = at + length (b ∷ bs) } ∷ []

single_is : (at b : ℕ) → b < 128 → single at b ≡ record { text = b ∷ []; from = at; to = at + 1 }
single_is at b lt = rw (encode_ascii b lt) refl

step_is : (at b : ℕ) → b < 128 → at + length (encode_utf8 b) ≡ at + 1
step_is at b lt = rw (encode_ascii b lt) refl

apart : (a b : ℕ) → a < b → (a == b) ≡ false
apart a b lt = grind (arith, nat_tests)

alone : (at b : ℕ) (rs : List Run) → IsBehind (at + 1) rs → joined_to (record { text = b ∷ []; from = at; to = at + 1 }) rs ≡ record { text = b ∷ []; from = at; to = at + 1 } ∷ rs
alone at b [] h = refl
alone at b (r ∷ rs) h = rw (apart (at + 1) r.from h) refl

onto : (at b c : ℕ) (cs : List ℕ) (to : ℕ) (rs : List Run) → to ≡ at + 1 + length (c ∷ cs)
    → joined_to (record { text = b ∷ []; from = at; to = at + 1 }) (record { text = c ∷ cs; from = at + 1; to = to } ∷ rs) ≡ record { text = b ∷ c ∷ cs; from = at; to = at + length (b ∷ c ∷ cs) } ∷ rs
onto at b c cs to rs is =
    let here : (at + 1 == at + 1) ≡ true = grind (arith, nat_tests) in
    let end : to ≡ at + length (b ∷ c ∷ cs) = omega (arith, is) in
    rw here (ap (λ (n : ℕ). record { text = b ∷ c ∷ cs; from = at; to = n } ∷ rs) end)

first_run : (at : ℕ) (word rest : List ℕ) → AreInside word → IsBehind (at + length word) (runs_from Words (at + length word) rest)
    → runs_from Words at (word ++ rest) ≡ whole at word ++ runs_from Words (at + length word) rest
first_run at [] rest inside behind =
    let none : at ≡ at + 0 = omega arith in
    ap (λ (n : ℕ). runs_from Words n rest) none
first_run at (b ∷ []) rest inside behind =
    rw (inside.0.1, single_is at b inside.0.0, step_is at b inside.0.0) (alone at b (runs_from Words (at + 1) rest) behind)
first_run at (b ∷ c ∷ cs) rest inside behind =
    let place : at + length (b ∷ c ∷ cs) ≡ at + 1 + length (c ∷ cs) = omega arith in
    let later : IsBehind (at + 1 + length (c ∷ cs)) (runs_from Words (at + 1 + length (c ∷ cs)) rest) =
    subst (λ (n : ℕ). IsBehind n (runs_from Words n rest)) place behind in
    let ih = first_run (at + 1) (c ∷ cs) rest inside.1 later in
    let front : runs_from Words at (b ∷ c ∷ (cs ++ rest)) ≡ joined_to (record { text = b ∷ []; from = at; to = at + 1 }) (runs_from Words (at + 1) (c ∷ (cs ++ rest))) =
    front_is at b (c ∷ (cs ++ rest)) inside.0.0 inside.0.1 in
    front ∙ ap (λ (rs : List Run). joined_to (record { text = b ∷ []; from = at; to = at + 1 }) rs) ih
    ∙ onto at b c cs (at + 1 + length (c ∷ cs)) (runs_from Words (at + 1 + length (c ∷ cs)) rest) refl
    ∙ ap (λ (n : ℕ). record { text = b ∷ c ∷ cs; from = at; to = at + length (b ∷ c ∷ cs) } ∷ runs_from Words n rest) (sym place)
  where
    front_is : (at b : ℕ) (bs : List ℕ) → b < 128 → is_inside Words b ≡ true → runs_from Words at (b ∷ bs) ≡ joined_to (record { text = b ∷ []; from = at; to = at + 1 }) (runs_from Words (at + 1) bs)
    front_is at b bs lt is = rw (is, single_is at b lt, step_is at b lt) refl

-- ---- tokens

fold_is : (bs : List ℕ) → AreAscii bs → folded bs ≡ map to_ascii_lowercase bs
fold_is bs h =
    let ascii : IsAscii bs = is_ascii_of bs h in
    ap (λ (cs : List ℕ). encode_utf8_all (default_case_fold cs)) (chars-IsAscii bs ascii) ∙ ap encode_utf8_all (default_case_fold-ascii bs (All-from_ascii bs ascii)) ∙ spelled (map to_ascii_lowercase bs) (lower_all bs h)
  where
    lower_one : (b : ℕ) → b < 128 → to_ascii_lowercase b < 128
    lower_one b lt = grind (arith, nat_tests)

    lower_all : (bs : List ℕ) → AreAscii bs → AreAscii (map to_ascii_lowercase bs)
    lower_all [] h = tt
    lower_all (b ∷ bs) h = (lower_one b h.0, lower_all bs h.1)

    spelled : (bs : List ℕ) → AreAscii bs → encode_utf8_all bs ≡ bs
    spelled bs h = encodes-IsAscii bs (is_ascii_of bs h)

module _ (number value : ℕ) where
  -- the word of a run is what its bytes are with case folded
  word_is : (n at : ℕ) (word : List ℕ) (rest : List Run) → AreAscii word
      → of_tokens number value (numbered Words n (whole at word ++ rest)) ≡ of_word number value n (map to_ascii_lowercase word) ++ of_tokens number value (numbered Words (position_behind n word) rest)
  word_is n at [] rest h = refl
  word_is n at (b ∷ bs) rest h = by (nat_le (length (b ∷ bs)) max_token) refl
    where
      size : length (map to_ascii_lowercase (b ∷ bs)) ≡ length (b ∷ bs)
      size = length-map (b ∷ bs) to_ascii_lowercase

      by : (x : Bool) → nat_le (length (b ∷ bs)) max_token ≡ x
          → of_tokens number value (numbered Words n (whole at (b ∷ bs) ++ rest)) ≡ of_word number value n (map to_ascii_lowercase (b ∷ bs)) ++ of_tokens number value (numbered Words (suc n) rest)
      by true is =
          let short : nat_le (length (map to_ascii_lowercase (b ∷ bs))) max_token ≡ true = rw size is in
          rw (is, short, fold_is (b ∷ bs) h) refl
      by false is =
          let long : nat_le (length (map to_ascii_lowercase (b ∷ bs))) max_token ≡ false = rw size is in
          rw (is, long) refl

  bytes_from : (n at : ℕ) (word bs : List ℕ) → AreInside word → AreAscii bs → of_bytes number value n (map to_ascii_lowercase word) bs ≡ of_tokens number value (numbered Words n (runs_from Words at (word ++ bs)))
  bytes_from n at word [] inside ascii =
      let runs : runs_from Words at (word ++ []) ≡ whole at word ++ [] = first_run at word [] inside tt in
      let token = word_is n at word [] (inside_ascii word inside) in
      sym (append-nil (of_word number value n (map to_ascii_lowercase word))) ∙ sym token ∙ sym (ap (λ (rs : List Run). of_tokens number value (numbered Words n rs)) runs)
  bytes_from n at word (b ∷ bs) inside ascii =
      by (is_ascii_alphanumeric b) refl (λ belongs. bytes_from n at (word ++ b ∷ []) bs (inside_push word b inside ascii.0 belongs) ascii.1)
      (bytes_from (position_behind n word) (at + length word + 1) [] bs tt ascii.1)
    where
      by : (x : Bool) → is_ascii_alphanumeric b ≡ x
          → (is_inside Words b ≡ true → of_bytes number value n (map to_ascii_lowercase (word ++ b ∷ [])) bs ≡ of_tokens number value (numbered Words n (runs_from Words at ((word ++ b ∷ []) ++ bs))))
          → of_bytes number value (position_behind n word) [] bs ≡ of_tokens number value (numbered Words (position_behind n word) (runs_from Words (at + length word + 1) bs))
          → of_bytes number value n (map to_ascii_lowercase word) (b ∷ bs) ≡ of_tokens number value (numbered Words n (runs_from Words at (word ++ b ∷ bs)))
      by true is inner outer =
          let belongs : is_inside Words b ≡ true = sym (inside_is b ascii.0) ∙ is in
          let ih = inner belongs in
          let grown : map to_ascii_lowercase (word ++ b ∷ []) ≡ map to_ascii_lowercase word ++ to_ascii_lowercase b ∷ [] = map_push to_ascii_lowercase word b in
          rw is (ap (λ (w : List ℕ). of_bytes number value n w bs) (sym grown) ∙ ih ∙ ap (λ (cs : List ℕ). of_tokens number value (numbered Words n (runs_from Words at cs))) (append_assoc word (b ∷ []) bs))
      by false is inner ih =
          let other : is_inside Words b ≡ false = sym (inside_is b ascii.0) ∙ is in
          let behind : runs_from Words (at + length word) (b ∷ bs) ≡ runs_from Words (at + length word + 1) bs = rw (other, step_is (at + length word) b ascii.0) refl in
          let apart_from : IsBehind (at + length word) (runs_from Words (at + length word) (b ∷ bs)) =
          subst (λ (rs : List Run). IsBehind (at + length word) rs) (sym behind) (runs_behind (at + length word) (at + length word + 1) bs (omega arith)) in
          let runs = first_run at word (b ∷ bs) inside apart_from ∙ ap (λ (rs : List Run). whole at word ++ rs) behind in
          let token = word_is n at word (runs_from Words (at + length word + 1) bs) (inside_ascii word inside) in
          let place : position_behind n (map to_ascii_lowercase word) ≡ position_behind n word = same_position word in
          rw is (ap (λ (m : ℕ). of_word number value n (map to_ascii_lowercase word) ++ of_bytes number value m [] bs) place ∙ ap (λ (os : List Occurrence). of_word number value n (map to_ascii_lowercase word) ++ os) ih ∙ sym token
          ∙ sym (ap (λ (rs : List Run). of_tokens number value (numbered Words n rs)) runs))
        where
          same_position : (w : List ℕ) → position_behind n (map to_ascii_lowercase w) ≡ position_behind n w
          same_position [] = refl
          same_position (x ∷ xs) = refl

  pub bytes_are : (text : List ℕ) → IsAscii text → of_bytes number value 0 [] text ≡ of_tokens number value (default_tokens text)
  bytes_are text ascii =
      bytes_from 0 0 [] text tt (are_ascii text ascii) ∙ ap (λ (cs : List ℕ). of_tokens number value (numbered Words 0 (runs_from Words 0 cs))) (sym (chars-IsAscii text ascii))
