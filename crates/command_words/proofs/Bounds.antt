-- The numbers of a run lie within their bounds.
use Rattle.std.proofs.Common.{◌≡◌, ◌≤◌, ◌&&◌, ◌||◌, ℕ, Bool, true, false, List, [], ◌∷◌, ◌++◌, find, Option, Some, None, refl, sym, ap, ◌∙◌, bytes_eq, codes, if◌then◌else◌, option_map, option_and_then, subst, nat_le, leb-true}
use Rattle.std.specs.Bool.{⊤}
use Rattle.std.specs.Option.{option_map_or}
use Rattle.std.proofs.lemmas.Slice.Eq.{bytes_eq-Decides}
use Rattle.clap.specs.Lexer.{is_long_word, is_short_word, long_of}
use Rattle.clap.proofs.WalkLemmas.{both}
use Rattle.command_words.specs.Options.{Form, Given, State, Takes, Text, Value, ended, fits, free_read, given_by, is_given, nothing, number, number_given, number_of, once_given, option_read, taken_by, value, value_given, value_of, word_read, words_read}
use Rattle.command_words.specs.Words.{IsWithin, run_form, run_given, run_of, run_with}
use Rattle.command_words.specs.declared.run.RunOptions.{RunOptions}

module _ (options : List (Text × Takes)) where
  abbrev form : Form
  form = record { options = options; places = [] }

  -- the value of an option fits
  abbrev Fits : Given → Type 0
  Fits g = (taken : Value) → taken_by options g.0 ≡ Some (value taken) → fits taken g.1 ≡ true

  abbrev AllFit : List Given → Type 0
  AllFit [] = ⊤
  AllFit (g ∷ given) = Fits g × AllFit given

  one_more : (given : List Given) (g : Given) → AllFit given → Fits g → AllFit (given ++ g ∷ [])
  one_more [] g all fit = (fit, tt)
  one_more (x ∷ given) g all fit = (all.0, one_more given g all.1 fit)

  abbrev WaitsWell : Option (Text × Value) → Type 0
  WaitsWell None = ⊤
  WaitsWell (Some p) = taken_by options p.0 ≡ Some (value p.1)

  abbrev IsGood : State → Type 0
  IsGood st = AllFit st.given × WaitsWell st.waiting × (st.places ≡ [])

  abbrev GoodIf : Option State → Type 0
  GoodIf None = ⊤
  GoodIf (Some st) = IsGood st

  once_good : (n x : Text) (st : State) → IsGood st → Fits (n, x) → GoodIf (once_given n x st)
  once_good n x st good fit = go (is_given n st.given)
    where
      go : (b : Bool) → GoodIf (if b then None else Some (record st { given = st.given ++ (n, x) ∷ []; waiting = None }))
      go true = tt
      go false = (one_more st.given (n, x) good.0 fit, tt, good.2)

  value_good : (n : Text) (taken : Value) (x : Text) (st : State) → IsGood st → taken_by options n ≡ Some (value taken) → GoodIf (value_given n taken x st)
  value_good n taken x st good known = go (fits taken x) refl
    where
      fit : fits taken x ≡ true → Fits (n, x)
      fit yes_it_does other is = let same : taken ≡ other = cc in subst (λ t. fits t x ≡ true) same yes_it_does

      go : (b : Bool) → fits taken x ≡ b → GoodIf (if b then once_given n x st else None)
      go true e = once_good n x st good (fit e)
      go false e = tt

  option_good : (n : Text) (taken : Option Takes) → taken_by options n ≡ taken → (v : Option Text) (st : State) → IsGood st → GoodIf (option_read taken n v st)
  option_good n None known v st good = tt
  option_good n (Some nothing) known None st good = once_good n (codes "true") st good (λ other is. cc)
  option_good n (Some nothing) known (Some x) st good = tt
  option_good n (Some (value taken)) known None st good = (good.0, known, good.2)
  option_good n (Some (value taken)) known (Some x) st good = value_good n taken x st good known

  word_good : (word : Text) (given : List Given) (waiting : Option (Text × Value)) → AllFit given → WaitsWell waiting
      → GoodIf (word_read form word (record { given = given; waiting = waiting; places = [] }))
  word_good word given None all well = go (bytes_eq word (codes "--")) (long_of word)
    where
      plain : (b : Bool) → GoodIf (if b then None else None)
      plain true = tt
      plain false = tt

      go : (b : Bool) (long : Option (Text × Option Text)) → GoodIf (if b then None else free_read form long word (record { given = given; waiting = None; places = [] }))
      go true long = tt
      go false (Some p) = option_good p.0 (taken_by options p.0) refl p.1 (record { given = given; waiting = None; places = [] }) (all, tt, refl)
      go false None = plain (is_short_word word)
  word_good word given (Some p) all well = go (bytes_eq word (codes "--")) (is_long_word word || is_short_word word)
    where
      go : (b d : Bool) → GoodIf (if b then None else (if d then None else value_given p.0 p.1 word (record { given = given; waiting = Some p; places = [] })))
      go true d = tt
      go false true = tt
      go false false = value_good p.0 p.1 word (record { given = given; waiting = Some p; places = [] }) (all, well, refl) well

  abbrev FitIf : Option (List Given) → Type 0
  FitIf None = ⊤
  FitIf (Some given) = AllFit given

  end_good : (given : List Given) (waiting : Option (Text × Value)) → AllFit given → FitIf (ended (record { given = given; waiting = waiting; places = [] }))
  end_good given None all = all
  end_good given (Some p) all = tt

  words_good : (words : List Text) (given : List Given) (waiting : Option (Text × Value)) (places : List (Text × Value)) → places ≡ [] → AllFit given → WaitsWell waiting
      → FitIf (words_read form words (record { given = given; waiting = waiting; places = places }))
  words_good [] given waiting places none all well = end_good given waiting all
  words_good (word ∷ words) given waiting places none all well =
      subst (λ ps. FitIf (words_read form (word ∷ words) (record { given = given; waiting = waiting; places = ps }))) (sym none)
      (go (word_read form word (record { given = given; waiting = waiting; places = [] })) (word_good word given waiting all well)
      (λ st good. words_good words st.given st.waiting st.places good.2 good.0 good.1))
    where
      go : (r : Option State) → GoodIf r → ((st : State) → IsGood st → FitIf (words_read form words st)) → FitIf (option_and_then (words_read form words) r)
      go None good later = tt
      go (Some st) good later = later st good

  found_fits : (n : Text) (given : List Given) → AllFit given → (taken : Value) → taken_by options n ≡ Some (value taken) → (x : Text) → value_of n given ≡ Some x → fits taken x ≡ true
  found_fits n [] all taken known x is = cc
  found_fits n (g ∷ given) all taken known x is = go (bytes_eq g.0 n) refl is (λ later. found_fits n given all.1 taken known x later)
    where
      go : (b : Bool) → bytes_eq g.0 n ≡ b → option_map (λ (h : Given). h.1) (if b then Some g else find (λ h. bytes_eq h.0 n) given) ≡ Some x
          → (value_of n given ≡ Some x → fits taken x ≡ true) → fits taken x ≡ true
      go true e is later =
          let same : g.1 ≡ x = cc in
          subst (λ y. fits taken y ≡ true) same (all.0 taken (ap (taken_by options) ((bytes_eq-Decides g.0 n).0 e) ∙ known))
      go false e is later = later is

  number_within : (n : Text) (given : List Given) → AllFit given → (least most : ℕ) → taken_by options n ≡ Some (value (number least most)) → (k : ℕ) → number_given n given ≡ Some k
      → (least ≤ k) × (k ≤ most)
  number_within n given all least most known k is = go (value_of n given) (λ x e. found_fits n given all (number least most) known x e) is
    where
      inside : (x : Text) (r : Option ℕ) → option_map_or (λ m. nat_le least m && nat_le m most) r false ≡ true → r ≡ Some k → (least ≤ k) × (k ≤ most)
      inside x None fit e = cc
      inside x (Some m) fit e =
          let parts = both _ _ fit in
          let same : m ≡ k = cc in
          subst (λ j. (least ≤ j) × (j ≤ most)) same (leb-true _ _ parts.0, leb-true _ _ parts.1)

      go : (o : Option Text) → ((x : Text) → o ≡ Some x → fits (number least most) x ≡ true) → option_and_then number_of o ≡ Some k → (least ≤ k) × (k ≤ most)
      go None fit e = cc
      go (Some x) fit e = inside x (number_of x) (fit x refl) e

run_numbers : (i s t : Option ℕ) (settle progress : Bool) (options : RunOptions) → run_with i s t settle progress ≡ Some options
    → (i ≡ Some options.indexers) × (s ≡ Some options.searchers) × (t ≡ Some options.turns)
run_numbers None s t settle progress options is = cc
run_numbers (Some i) None t settle progress options is = cc
run_numbers (Some i) (Some s) None settle progress options is = cc
run_numbers (Some i) (Some s) (Some t) settle progress options is =
    let same : ◌≡◌ {A = RunOptions} (record { indexers = i; searchers = s; turns = t; settle = settle; progress = progress }) options = cc in
    (ap (λ (o : RunOptions). Some o.indexers) same, ap (λ (o : RunOptions). Some o.searchers) same, ap (λ (o : RunOptions). Some o.turns) same)

-- what `run` asks for is within its bounds
pub run_is_within : (behind : List (List ℕ)) (options : RunOptions) → run_of behind ≡ Some options → IsWithin options
run_is_within behind options is = go (given_by run_form behind) (words_good run_form.options behind [] None [] refl tt tt) is
  where
    go : (r : Option (List Given)) → FitIf run_form.options r → option_and_then run_given r ≡ Some options → IsWithin options
    go None all e = cc
    go (Some given) all e =
        let numbers = run_numbers _ _ _ _ _ options e in
        record {
          indexers = number_within run_form.options (codes "indexers") given all 1 64 refl options.indexers numbers.0;
          searchers = number_within run_form.options (codes "searchers") given all 1 64 refl options.searchers numbers.1;
          turns = (number_within run_form.options (codes "turns") given all 0 1000000 refl options.turns numbers.2).1;
        }
