-- What the getters of clap's matches read, where they are what was given and the defaults.
use Rattle.std.proofs.Common.{◌≡◌, ◌^◌, ◌&&◌, ◌||◌, is_some, ℕ, Bool, true, false, List, [], ◌∷◌, ◌++◌, length, find, fold, Option, Some, None, Result, Ok, Err, refl, sym, ap, ◌∙◌, bytes_eq, if◌then◌else◌, option_map, option_and_then, nat_lt, lt-ltb, ltb-true}
use Rattle.std.proofs.lemmas.Slice.Eq.{bytes_eq-Decides}
use Rattle.std.specs.Char.{digit_value}
use Rattle.std.specs.List.{list_all}
use Rattle.std.specs.Str.Parse.{AllDigits, ParsesUnsigned, digits_value, without_leading_plus}
use Rattle.clap.specs.Facts.{Entry}
use Rattle.clap.specs.Matches.{ReadsOne, matched_of}
use Rattle.clap.specs.Walk.{Row, Rule, default_rows, has_row, more_values, reading_by, row_of, row_text, rows_of, with_default}
use Rattle.clap.specs.declared.parser.matches.Found.{Found}
use Rattle.clap.specs.declared.parser.matches.MatchedArg.{MatchedArg}
use Rattle.clap.specs.declared.parser.matches.ValueSource.{ValueSource}
use Rattle.clap.specs.declared.parser.matches.ValueSource.TheVariants.{DefaultValue}
use Rattle.clap.proofs.WalkLemmas.{both, find-map, find_row}
use Rattle.command_words.specs.Options.{Given, Text, is_given, is_numeral, number_given, number_of}
use Rattle.command_words.specs.Parsing.{is_from_words, is_told, number_told}
use Rattle.command_words.proofs.Values.{at_missing, row, rows}

-- ---- rows and defaults

abbrev default_row : Rule → List Text → Option Row
default_row a [] = None
default_row a (v ∷ vs) = Some (record { id = a.id; values = v ∷ vs; count = None; source = Some DefaultValue; reading = reading_by a })

-- what is found once a rule has given its default
abbrev pub or_default : Text → Option Row → Rule → Option Row
or_default id (Some r) a = Some r
or_default id None a = if bytes_eq a.id id then default_row a a.defaults else None

abbrev row_at : Text → List Row → Option Row
row_at id rs = find (λ r. bytes_eq r.id id) rs

found_is_there : (id : Text) (rs : List Row) → has_row id rs ≡ is_some (row_at id rs)
found_is_there id [] = refl
found_is_there id (r ∷ rs) = go (bytes_eq r.id id) (found_is_there id rs)
  where
    go : (b : Bool) → has_row id rs ≡ is_some (row_at id rs) → (b || has_row id rs) ≡ is_some (if b then Some r else row_at id rs)
    go true below = refl
    go false below = below

found_behind : (id : Text) (rs : List Row) (r : Row) → row_at id (rs ++ r ∷ []) ≡ (if is_some (row_at id rs) then row_at id rs else (if bytes_eq r.id id then Some r else None))
found_behind id [] r = refl
found_behind id (x ∷ rs) r = go (bytes_eq x.id id) (found_behind id rs r)
  where
    go : (b : Bool) → row_at id (rs ++ r ∷ []) ≡ (if is_some (row_at id rs) then row_at id rs else (if bytes_eq r.id id then Some r else None))
        → (if b then Some x else row_at id (rs ++ r ∷ [])) ≡ (if is_some (if b then Some x else row_at id rs) then (if b then Some x else row_at id rs) else (if bytes_eq r.id id then Some r else None))
    go true below = refl
    go false below = below

one_default : (id : Text) (rs : List Row) (a : Rule) → row_at id (with_default rs a) ≡ or_default id (row_at id rs) a
one_default id rs a = go (has_row a.id rs) refl a.defaults refl
  where
    there : has_row a.id rs ≡ true → (o : Option Row) → row_at id rs ≡ o → o ≡ or_default id o a
    there has (Some r) e = refl
    there has None e = same (bytes_eq a.id id) refl
      where
        same : (b : Bool) → bytes_eq a.id id ≡ b → None ≡ (if b then default_row a a.defaults else None)
        same false d = refl
        same true d =
            let is : a.id ≡ id = (bytes_eq-Decides a.id id).0 d in
            let lacks : has_row id rs ≡ false = found_is_there id rs ∙ ap is_some e in
            let bad : true ≡ false = sym has ∙ ap (λ k. has_row k rs) is ∙ lacks in cc

    none_given : (o : Option Row) → a.defaults ≡ [] → o ≡ or_default id o a
    none_given (Some r) e = refl
    none_given None e = same (bytes_eq a.id id)
      where
        same : (b : Bool) → None ≡ (if b then default_row a a.defaults else None)
        same true = ap (default_row a) (sym e)
        same false = refl

    plainly : has_row a.id rs ≡ false → with_default rs a ≡ default_rows a.id (reading_by a) a.defaults rs
    plainly has = rw has refl

    added : (v : Text) (vs : List Text) → a.defaults ≡ v ∷ vs → (o : Option Row)
        → (if is_some o then o else (if bytes_eq a.id id then default_row a (v ∷ vs) else None)) ≡ or_default id o a
    added v vs e (Some x) = refl
    added v vs e None = ap (λ ds. if bytes_eq a.id id then default_row a ds else None) (sym e)

    go : (b : Bool) → has_row a.id rs ≡ b → (ds : List Text) → a.defaults ≡ ds → row_at id (with_default rs a) ≡ or_default id (row_at id rs) a
    go true has ds e = rw has (there has (row_at id rs) refl)
    go false has [] e = ap (row_at id) (plainly has ∙ ap (λ ds. default_rows a.id (reading_by a) ds rs) e) ∙ none_given (row_at id rs) e
    go false has (v ∷ vs) e =
        let new : Row = record { id = a.id; values = v ∷ vs; count = None; source = Some DefaultValue; reading = reading_by a } in
        let is : with_default rs a ≡ rs ++ new ∷ [] =
        plainly has ∙ ap (λ ds. default_rows a.id (reading_by a) ds rs) e ∙ (at_missing a.id (more_values DefaultValue (v ∷ vs)) (new ∷ []) rs has) in
        ap (row_at id) is ∙ found_behind id rs new ∙ added v vs e (row_at id rs)

pub all_defaults : (id : Text) (rs : List Row) (rules : List Rule) → row_at id (fold with_default rs rules) ≡ fold (or_default id) (row_at id rs) rules
all_defaults id rs [] = refl
all_defaults id rs (a ∷ rules) = all_defaults id (with_default rs a) rules ∙ ap (λ o. fold (or_default id) o rules) (one_default id rs a)

pub row_of_given : (name : Text) (given : List Given) → row_at name (rows given) ≡ option_map row (find (λ g. bytes_eq g.0 name) given)
row_of_given name given = sym (find-map (λ (r : Row). bytes_eq r.id name) row given)

pub given_is_found : (name : Text) (given : List Given) → is_given name given ≡ is_some (find (λ g. bytes_eq g.0 name) given)
given_is_found name [] = refl
given_is_found name (g ∷ given) = go (bytes_eq g.0 name) (given_is_found name given)
  where
    go : (b : Bool) → is_given name given ≡ is_some (find (λ g. bytes_eq g.0 name) given) → (b || is_given name given) ≡ is_some (if b then Some g else find (λ g. bytes_eq g.0 name) given)
    go true below = refl
    go false below = below

-- ---- numbers

digits_back : (ds : List ℕ) → AllDigits 10 ds → list_all (λ d. nat_lt (digit_value d) 10) ds ≡ true
digits_back [] h = refl
digits_back (d ∷ ds) h = rw (lt-ltb (digit_value d) 10 h.0) (digits_back ds h.1)

digits_from : (ds : List ℕ) → list_all (λ d. nat_lt (digit_value d) 10) ds ≡ true → AllDigits 10 ds
digits_from [] e = tt
digits_from (d ∷ ds) e =
    let parts = both _ _ e in
    (ltb-true _ _ parts.0, digits_from ds parts.1)

number_read : {E : Type 0} (spelled : Text) (r : Result ℕ E) → ParsesUnsigned 64 10 spelled r → (n : ℕ) → r ≡ Ok n → number_of spelled ≡ Some n
number_read spelled (Ok m) h n is =
    let ds = without_leading_plus spelled in
    let same : m ≡ n = cc in
    rw (lt-ltb 0 (length ds) h.0.0.0, digits_back ds h.0.0.1, lt-ltb (digits_value 10 ds) (2 ^ 64) h.0.1) (ap Some (sym h.1 ∙ same))
number_read spelled (Err e) h n is = cc

no_number : {E : Type 0} (spelled : Text) (e : E) → ParsesUnsigned 64 10 spelled (Err e) → number_of spelled ≡ None
no_number spelled e h = go (is_numeral (without_leading_plus spelled) && nat_lt (digits_value 10 (without_leading_plus spelled)) (2 ^ 64)) refl
  where
    go : (b : Bool) → (is_numeral (without_leading_plus spelled) && nat_lt (digits_value 10 (without_leading_plus spelled)) (2 ^ 64)) ≡ b
        → (if b then Some (digits_value 10 (without_leading_plus spelled)) else None) ≡ None
    go false t = refl
    go true t =
        let outer = both _ _ t in
        let inner = both _ _ outer.0 in
        absurd (h ((ltb-true _ _ inner.0, digits_from (without_leading_plus spelled) inner.1), ltb-true _ _ outer.1))

-- `get_one` of a number of 64 bits
pub one_number : (E : Type 0) (G : List ℕ → Result ℕ E → Type 0) → ((spelled : Text) (r : Result ℕ E) → G spelled r → ParsesUnsigned 64 10 spelled r)
    → (told : Option Text) (r : Option ℕ) → (told ≡ None → r ≡ None) → ((spelled : Text) → told ≡ Some spelled → ReadsOne G spelled r) → r ≡ option_and_then number_of told
one_number E G parses None r none some = none refl
one_number E G parses (Some spelled) (Some n) none some = sym (number_read {E = E} spelled (Ok n) (parses spelled (Ok n) (some spelled refl)) n refl)
one_number E G parses (Some spelled) None none some =
    let failed = some spelled refl in
    sym (no_number {E = E} spelled failed.0 (parses spelled (Err failed.0) failed.1))

-- ---- what is told of a name

kept : (id : Text) (r : Row) (rules : List Rule) → fold (or_default id) (Some r) rules ≡ Some r
kept id r [] = refl
kept id r (a ∷ rules) = kept id r rules

module _ (name : Text) (rules : List Rule) (given : List Given) where
  row_told : row_at name (fold with_default (rows given) rules) ≡ fold (or_default name) (option_map row (find (λ g. bytes_eq g.0 name) given)) rules
  row_told = all_defaults name (rows given) rules ∙ ap (λ o. fold (or_default name) o rules) (row_of_given name given)

  -- the number of an option, which has no default
  pub number_is : fold (or_default name) None rules ≡ None → number_told name (fold with_default (rows given) rules) ≡ number_given name given
  number_is none = ap (λ o. option_and_then number_of (option_and_then row_text o)) row_told ∙ go (find (λ g. bytes_eq g.0 name) given)
    where
      go : (o : Option Given) → option_and_then number_of (option_and_then row_text (fold (or_default name) (option_map row o) rules)) ≡ option_and_then number_of (option_map (λ g. g.1) o)
      go None = ap (λ r. option_and_then number_of (option_and_then row_text r)) none
      go (Some g) = ap (λ r. option_and_then number_of (option_and_then row_text r)) (kept name (row g) rules)

  -- whether a flag is given, which has a default
  pub flag_is : is_from_words (option_and_then (λ r. r.source) (fold (or_default name) None rules)) ≡ false → is_told name (fold with_default (rows given) rules) ≡ is_given name given
  flag_is none = ap (λ o. is_from_words (option_and_then (λ (r : Row). r.source) o)) row_told ∙ go (find (λ g. bytes_eq g.0 name) given) ∙ sym (given_is_found name given)
    where
      go : (o : Option Given) → is_from_words (option_and_then (λ r. r.source) (fold (or_default name) (option_map row o) rules)) ≡ is_some o
      go None = none
      go (Some g) = ap (λ o. is_from_words (option_and_then (λ (r : Row). r.source) o)) (kept name (row g) rules)

-- where a value came from
source_told : (f : Found) (id : Text) → option_and_then (λ (a : MatchedArg). a.source) (matched_of f id) ≡ option_and_then (λ (r : Row). r.source) (row_at id (rows_of f))
source_told f id = go (find (λ e. bytes_eq e.0.now id) f.entries.items) ∙ ap (option_and_then (λ (r : Row). r.source)) (sym (find_row f.entries.items id))
  where
    go : (o : Option Entry) → option_and_then (λ (a : MatchedArg). a.source) (option_map (λ e. e.1) o) ≡ option_and_then (λ (r : Row). r.source) (option_map row_of o)
    go None = refl
    go (Some e) = refl

pub source_is : (f : Found) (id : Text) (source : Option ValueSource) → source ≡ option_and_then (λ (a : MatchedArg). a.source) (matched_of f id) → is_from_words source ≡ is_told id (rows_of f)
source_is f id source is = ap is_from_words (is ∙ source_told f id)
