-- What a parse says of the words: those that a command takes are of its form, and its matches are what they give.
use Rattle.std.proofs.Common.{String, Global, IsUtf8, string_bytes, encode_utf8_all, ◌≡◌, ◌&&◌, ◌||◌, not, ◌⊎◌, inl, inr, ℕ, Bool, true, false, List, [], ◌∷◌, map, drop, fold, Option, Some, None, refl, sym, ap, ◌∙◌, arith, bytes_eq, codes, chars, slice_get, subst, option_and_then, if◌then◌else◌, eqb-true, ◌==◌}
use lib.Utf8.{scalars}
use Rattle.std.specs.Bool.{⊤}
use Rattle.std.specs.List.{list_any}
use Rattle.std.proofs.lemmas.Str.{IsCharBoundary-after_ascii, IsUtf8-drop, IsUtf8-string_bytes, chars-encodes}
use Rattle.clap.specs.Faults.{built_fault, defaults_fault, fault_of, is_simple_and_free}
use Rattle.clap.specs.Lexer.{short_of, short_of_rest}
use Rattle.clap.specs.Matches.{found_of}
use Rattle.clap.specs.Simple.{App, built, matches_of, names_of}
use Rattle.clap.specs.Takes.{is_given as is_given_row}
use Rattle.clap.specs.Walk.{Row, Rule, arg_by_long, arg_by_short, nothing_held, rows_after, rows_of, with_default}
use Rattle.clap.specs.declared.parser.matches.ArgMatches.{ArgMatches}
use Rattle.command_words.specs.Options.{Form, Given, State, Text, given_by, waited_read, words_read}
use Rattle.command_words.specs.Parsing.{IsParse, app_for, has_dashes}
use Rattle.command_words.proofs.Values.{rows}
use Rattle.command_words.proofs.Walk.{AreWords, AtPlaces, HasFirst, NoneOrHelp, Parses, app, parses, rules}

-- ---- the words of strings

neither : (a b : Bool) → (a || b) ≡ false → (a ≡ false) × (b ≡ false)
neither true b none = cc
neither false b none = (refl, none)

first_of : (one : ℕ) (more : Text) → IsUtf8 (one ∷ more) → HasFirst (one ∷ more)
first_of one more u = go u.0 u.1.0 u.1.1
  where
    go : (cs : List ℕ) → scalars cs ≡ true → encode_utf8_all cs ≡ one ∷ more → HasFirst (one ∷ more)
    go [] valid e = cc
    go (c ∷ cs) valid e = (one, more, c, refl, ap (λ bs. slice_get (chars bs) 0) (sym e) ∙ ap (λ xs. slice_get xs 0) (chars-encodes (c ∷ cs) valid))

short_first : (word flags : Text) → IsUtf8 word → short_of word ≡ Some flags → HasFirst flags
short_first [] flags u e = cc
short_first (x ∷ []) flags u e = go (x == 45) e
  where
    go : (b : Bool) → option_and_then short_of_rest (if b then Some [] else None) ≡ Some flags → HasFirst flags
    go true e = cc
    go false e = cc
short_first (x ∷ y ∷ ys) flags u e = go (x == 45) refl e
  where
    behind : x ≡ 45 → HasFirst (y ∷ ys)
    behind hyphen = first_of y ys (IsUtf8-drop (x ∷ y ∷ ys) 1 u (IsCharBoundary-after_ascii (x ∷ y ∷ ys) 0 u (omega arith) (omega arith)))

    letters : x ≡ 45 → (d : Bool) → (if d then None else Some (y ∷ ys)) ≡ Some flags → HasFirst flags
    letters hyphen true e = cc
    letters hyphen false e = let same : y ∷ ys ≡ flags = cc in subst HasFirst same (behind hyphen)

    go : (b : Bool) → (x == 45) ≡ b → option_and_then short_of_rest (if b then Some (y ∷ ys) else None) ≡ Some flags → HasFirst flags
    go false is e = cc
    go true is e = letters (eqb-true x 45 is) (y == 45) e

are_words : (words : List (String Global)) → list_any (λ word. bytes_eq (string_bytes word) (codes "--")) words ≡ false → AreWords (map string_bytes words)
are_words [] plain = tt
are_words (word ∷ words) plain =
    let p = neither (bytes_eq (string_bytes word) (codes "--")) (list_any (λ word. bytes_eq (string_bytes word) (codes "--")) words) plain in
    (record { plain = p.0; first = λ flags e. short_first (string_bytes word) flags (IsUtf8-string_bytes word) e }, are_words words p.1)

first_dropped : (words : List (String Global)) → drop 1 (map string_bytes words) ≡ map string_bytes (drop 1 words)
first_dropped [] = refl
first_dropped (word ∷ words) = refl

-- words of which one is `--` are of no form
dashes_refused : (form : Form) (words : List (String Global)) → list_any (λ word. bytes_eq (string_bytes word) (codes "--")) words ≡ true → (st : State)
    → words_read form (map string_bytes words) st ≡ None
dashes_refused form [] dashes st = cc
dashes_refused form (word ∷ words) dashes st = go (bytes_eq (string_bytes word) (codes "--")) dashes (λ d next. dashes_refused form words d next)
  where
    later : ((next : State) → words_read form (map string_bytes words) next ≡ None) → (r : Option State) → option_and_then (words_read form (map string_bytes words)) r ≡ None
    later none None = refl
    later none (Some next) = none next

    go : (b : Bool) → (b || list_any (λ word. bytes_eq (string_bytes word) (codes "--")) words) ≡ true
        → (list_any (λ word. bytes_eq (string_bytes word) (codes "--")) words ≡ true → (next : State) → words_read form (map string_bytes words) next ≡ None)
        → option_and_then (words_read form (map string_bytes words)) (if b then None else waited_read form st.waiting (string_bytes word) st) ≡ None
    go true dashes none = refl
    go false dashes none = later (none dashes) (waited_read form st.waiting (string_bytes word) st)

-- ---- what a command of clap makes of them

module _ (name : Text) (form : Form) (rest : List Rule) (long_rest : (n : Text) → NoneOrHelp (arg_by_long rest n)) (short_rest : (x : ℕ) → NoneOrHelp (arg_by_short rest x))
    (rest_defaults : (rs : List Row) → defaults_fault rs rest ≡ []) (rest_required : (rs : List Row) → list_any (λ a. a.required && not (is_given_row a.id rs)) rest ≡ false)
    (at_places : AtPlaces name form rest long_rest short_rest 1 form.places)
    (is_built : built (app_for name form) ≡ app name form rest long_rest short_rest) (is_simple : is_simple_and_free (app_for name form) ≡ true) where
  -- the words are refused exactly where they are of another form, and the rows of the matches are what they give, and the defaults
  abbrev pub Sees : Option (List Given) → Option ArgMatches → Type 0
  Sees None None = ⊤
  Sees None (Some matches) = ⊥
  Sees (Some given) None = ⊥
  Sees (Some given) (Some matches) = rows_of (found_of matches) ≡ fold with_default (rows given) (rules name form rest long_rest short_rest)

  pub sees : (words : List (String Global)) (found : Option ArgMatches) → IsParse (app_for name form) words found → Sees (given_by form (drop 1 (map string_bytes words))) found
  sees words found parse = go found parse
    where
      fault_is : fault_of (app_for name form) (map string_bytes words) ≡ built_fault (app name form rest long_rest short_rest) nothing_held (drop 1 (map string_bytes words))
      fault_is = ap (λ a. built_fault a nothing_held (drop 1 (map string_bytes words))) is_built

      matches_are : matches_of (app_for name form) (map string_bytes words) ≡ rows_after (rules name form rest long_rest short_rest) [] (drop 1 (map string_bytes words))
      matches_are = ap (λ (a : App). rows_after a.top.rules (names_of a) (drop 1 (map string_bytes words))) is_built

      dashed : has_dashes words ≡ true → given_by form (drop 1 (map string_bytes words)) ≡ None
      dashed dashes = ap (given_by form) (first_dropped words) ∙ dashes_refused form (drop 1 words) dashes (record { given = []; waiting = None; places = form.places })

      plain_words : has_dashes words ≡ false → Parses name form rest long_rest short_rest rest_defaults rest_required (drop 1 (map string_bytes words)) (given_by form (drop 1 (map string_bytes words)))
      plain_words plain = parses name form rest long_rest short_rest rest_defaults rest_required at_places (drop 1 (map string_bytes words))
          (subst AreWords (sym (first_dropped words)) (are_words (drop 1 words) plain))

      unseen : (r : Option (List Given)) → (fault_of (app_for name form) (map string_bytes words) ≡ [] → ⊥)
          → Parses name form rest long_rest short_rest rest_defaults rest_required (drop 1 (map string_bytes words)) r → Sees r None
      unseen None bad p = tt
      unseen (Some given) bad p = bad (fault_is ∙ p.0)

      seen : (r : Option (List Given)) (matches : ArgMatches) → fault_of (app_for name form) (map string_bytes words) ≡ [] → rows_of (found_of matches) ≡ matches_of (app_for name form) (map string_bytes words)
          → Parses name form rest long_rest short_rest rest_defaults rest_required (drop 1 (map string_bytes words)) r → Sees r (Some matches)
      seen None matches none are p = p (sym fault_is ∙ none)
      seen (Some given) matches none are p = are ∙ matches_are ∙ p.1

      refused : (has_dashes words ≡ true) ⊎ (fault_of (app_for name form) (map string_bytes words) ≡ [] → ⊥) → (b : Bool) → has_dashes words ≡ b → Sees (given_by form (drop 1 (map string_bytes words))) None
      refused why true e = subst (λ r. Sees r None) (sym (dashed e)) tt
      refused (inl dashes) false e = subst (λ r. Sees r None) (sym (dashed dashes)) tt
      refused (inr bad) false e = unseen (given_by form (drop 1 (map string_bytes words))) bad (plain_words e)

      go : (found : Option ArgMatches) → IsParse (app_for name form) words found → Sees (given_by form (drop 1 (map string_bytes words))) found
      go None parse = refused (parse is_simple) (has_dashes words) refl
      go (Some matches) parse =
          let p = parse is_simple in
          seen (given_by form (drop 1 (map string_bytes words))) matches p.1 p.2 (plain_words p.0)
