-- The walk of clap over words of options, flags and places: the words that it takes are those of the form, and what it holds
-- behind them is what they give.
use Rattle.std.proofs.Common.{◌≡◌, ◌+◌, ◌&&◌, ◌||◌, not, is_some, ◌⊎◌, inl, inr, ℕ, Bool, true, false, List, [], ◌∷◌, ◌++◌, map, length, min, drop, find, fold, Option, Some, None, refl, sym, ap, ◌∙◌, bytes_eq, codes, chars, encode_utf8, if◌then◌else◌, option_map, option_and_then, slice_get, subst}
use Rattle.std.specs.Bool.{⊤}
use Rattle.std.specs.List.{list_any}
use Rattle.std.proofs.lemmas.Slice.Eq.{bytes_eq-Decides}
use Rattle.clap.specs.Faults.{built_fault, check_fault, default_fault, defaults_fault, entered_fault, flags_fault, given_default_fault, long_fault, option_fault, react_fault, settle_fault, short_fault, turn_fault, use_fault, walk_fault}
use Rattle.clap.specs.Kinds.{Kinds}
use Rattle.clap.specs.Lexer.{long_of, short_of, usize_max}
use Rattle.clap.specs.Simple.{App, Shape, entered, new_shape}
use Rattle.clap.specs.Takes.{is_given as is_given_row}
use Rattle.clap.specs.Walk.{Held, Row, Rule, Waiting, Walk, arg_by_id, arg_by_index, arg_by_long, arg_by_short, bundle_met, has_row, idle, is_pending, nothing_held, option, pushed, reacted, rows_after, settled, takes_values, used, walked, with_default}
use Rattle.clap.specs.declared.error.kind.ErrorKind.TheVariants as kind
use Rattle.command_words.specs.Options.{Form, Given, State, Takes, Text, Value, ended, fits, free_read, given_by, is_given, nothing, once_given, option_read, place_read, taken_by, value, value_given, waited_read, word_read, words_read}
use Rattle.command_words.proofs.Values.{built_option, flag_fresh, flag_passes, flag_row, help, none_before, none_behind, none_both, rows, value_fits, value_passes, value_row, value_wanted, valued}

-- nothing was found, or the flag for help
abbrev pub NoneOrHelp : Option Rule → Type 0
NoneOrHelp found = (found ≡ None) ⊎ (found ≡ Some help)

-- the word is not `--`, and where it is letters behind a hyphen, there is a first one
abbrev pub HasFirst : Text → Type 0
HasFirst flags = (one : ℕ) × (more : Text) × (first : ℕ) × (flags ≡ one ∷ more) × (slice_get (chars (one ∷ more)) 0 ≡ Some first)

pub record IsWord (word : Text) : Type 0 where
  pub plain : bytes_eq word (codes "--") ≡ false
  pub first : (flags : Text) → short_of word ≡ Some flags → HasFirst flags

abbrev pub AreWords : List Text → Type 0
AreWords [] = ⊤
AreWords (word ∷ words) = IsWord word × AreWords words

module _ (name : Text) (form : Form) (rest : List Rule) (long_rest : (n : Text) → NoneOrHelp (arg_by_long rest n)) (short_rest : (x : ℕ) → NoneOrHelp (arg_by_short rest x)) where
  abbrev pub rules : List Rule
  rules = map built_option form.options ++ rest

  abbrev pub shape : Shape
  shape = record (new_shape name) { rules = rules; disable_help_subcommand = true; is_built = true }

  -- ---- what names find

  abbrev Meets : Text → Option Takes → Option Rule → Type 0
  Meets n None found = NoneOrHelp found
  Meets n (Some taken) found = found ≡ Some (built_option (n, taken))

  abbrev Knows : Text → Option Takes → Option Rule → Type 0
  Knows n None found = ⊤
  Knows n (Some taken) found = found ≡ Some (built_option (n, taken))

  same_option : (m n : Text) (taken : Takes) → bytes_eq m n ≡ true → ◌≡◌ {A = Option Rule} (Some (built_option (m, taken))) (Some (built_option (n, taken)))
  same_option m n taken e = ap (λ (k : Text). Some (built_option (k, taken))) ((bytes_eq-Decides m n).0 e)

  meets_one : (m : Text) (taken : Takes) (os : List (Text × Takes)) (n : Text) → Meets n (taken_by os n) (arg_by_long (map built_option os ++ rest) n)
      → Meets n (taken_by ((m, taken) ∷ os) n) (arg_by_long (map built_option ((m, taken) ∷ os) ++ rest) n)
  meets_one m nothing os n below = go (bytes_eq m n) refl
    where
      go : (b : Bool) → bytes_eq m n ≡ b → Meets n (option_map (λ o. o.1) (if b then Some (m, nothing) else find (λ o. bytes_eq o.0 n) os))
          (if b || false then Some (built_option (m, nothing)) else arg_by_long (map built_option os ++ rest) n)
      go true e = same_option m n nothing e
      go false e = below
  meets_one m (value taken) os n below = go (bytes_eq m n) refl
    where
      go : (b : Bool) → bytes_eq m n ≡ b → Meets n (option_map (λ o. o.1) (if b then Some (m, value taken) else find (λ o. bytes_eq o.0 n) os))
          (if b || false then Some (built_option (m, value taken)) else arg_by_long (map built_option os ++ rest) n)
      go true e = same_option m n (value taken) e
      go false e = below

  meets_of : (os : List (Text × Takes)) (n : Text) → Meets n (taken_by os n) (arg_by_long (map built_option os ++ rest) n)
  meets_of [] n = long_rest n
  meets_of (o ∷ os) n = meets_one o.0 o.1 os n (meets_of os n)

  knows_one : (m : Text) (taken : Takes) (os : List (Text × Takes)) (n : Text) → Knows n (taken_by os n) (arg_by_id (map built_option os ++ rest) n)
      → Knows n (taken_by ((m, taken) ∷ os) n) (arg_by_id (map built_option ((m, taken) ∷ os) ++ rest) n)
  knows_one m nothing os n below = go (bytes_eq m n) refl
    where
      go : (b : Bool) → bytes_eq m n ≡ b → Knows n (option_map (λ o. o.1) (if b then Some (m, nothing) else find (λ o. bytes_eq o.0 n) os))
          (if b then Some (built_option (m, nothing)) else arg_by_id (map built_option os ++ rest) n)
      go true e = same_option m n nothing e
      go false e = below
  knows_one m (value taken) os n below = go (bytes_eq m n) refl
    where
      go : (b : Bool) → bytes_eq m n ≡ b → Knows n (option_map (λ o. o.1) (if b then Some (m, value taken) else find (λ o. bytes_eq o.0 n) os))
          (if b then Some (built_option (m, value taken)) else arg_by_id (map built_option os ++ rest) n)
      go true e = same_option m n (value taken) e
      go false e = below

  knows_of : (os : List (Text × Takes)) (n : Text) → Knows n (taken_by os n) (arg_by_id (map built_option os ++ rest) n)
  knows_of [] n = tt
  knows_of (o ∷ os) n = knows_one o.0 o.1 os n (knows_of os n)

  shorts_one : (m : Text) (taken : Takes) (os : List (Text × Takes)) (x : ℕ) → NoneOrHelp (arg_by_short (map built_option os ++ rest) x)
      → NoneOrHelp (arg_by_short (map built_option ((m, taken) ∷ os) ++ rest) x)
  shorts_one m nothing os x below = below
  shorts_one m (value taken) os x below = below

  shorts_of : (os : List (Text × Takes)) (x : ℕ) → NoneOrHelp (arg_by_short (map built_option os ++ rest) x)
  shorts_of [] x = short_rest x
  shorts_of (o ∷ os) x = shorts_one o.0 o.1 os x (shorts_of os x)

  -- ---- where the walk stands

  abbrev at : Held → Waiting → ℕ → Walk
  at h waiting position = record { held = h; waiting = waiting; position = position; is_trailing = false; stopped = None }

  -- each place has its rule, in turn
  abbrev pub AtPlaces : ℕ → List (Text × Value) → Type 0
  AtPlaces position [] = arg_by_index rules position ≡ None
  AtPlaces position (place ∷ places) = (arg_by_index rules position ≡ Some (valued None (Some position) place.0 place.1))
      × (arg_by_id rules place.0 ≡ Some (valued None (Some position) place.0 place.1)) × AtPlaces (min (position + 1) usize_max) places

  record IsIdle (given : List Given) (h : Held) : Type 0 where
    settles : settle_fault rules false h ≡ []
    held_rows : (settled rules h).rows ≡ rows given
    skip : h.skip ≡ 0

  -- the value of this name is to come, or has come and was not looked at
  abbrev holding : Text → List Text → List Given → Held
  holding n values given = record { rows = rows given; pending = Some (n, values); skip = 0 }

  -- the walk over the words, and what is held behind it, have no fault
  abbrev Ends : Walk → List Text → Type 0
  Ends w words = (walk_fault shape [] w words ≡ []) × (settle_fault rules false (fold (walked rules []) w words).held ≡ [])

  first_turn : (w : Walk) (word : Text) (words : List Text) → Ends w (word ∷ words) → turn_fault shape [] w word ≡ []
  unfolding walk_fault
  first_turn w word words ends = none_before _ _ ends.0

  other_turns : (w : Walk) (word : Text) (words : List Text) → Ends w (word ∷ words) → Ends (walked rules [] w word) words
  unfolding walk_fault
  other_turns w word words ends = (none_behind _ _ ends.0, ends.1)

  one_more : (w : Walk) (word : Text) (words : List Text) → turn_fault shape [] w word ≡ [] → Ends (walked rules [] w word) words → Ends w (word ∷ words)
  unfolding walk_fault
  one_more w word words turn ends = (none_both _ _ turn ends.0, ends.1)

  -- ---- what each turn asks first

  long_settles : (found : Option Rule) (v : Option Text) (h : Held) → long_fault rules false found v h ≡ [] → settle_fault rules false h ≡ []
  long_settles None v h none = let bad : kind.UnknownArgument ∷ [] ≡ [] = none in cc
  long_settles (Some a) v h none = go (takes_values a) v none
    where
      go : (t : Bool) (v : Option Text) → (if t then option_fault rules false a v h else (if is_some v then kind.TooManyValues ∷ [] else react_fault rules false a [] h)) ≡ []
          → settle_fault rules false h ≡ []
      go true (Some x) none = none_before _ _ none
      go true None none = none
      go false (Some x) none = let bad : kind.TooManyValues ∷ [] ≡ [] = none in cc
      go false None none = none_before _ _ none

  -- the letters of a bundle name no flag but that of help
  short_refused : (found : Option Rule) (behind : Text) (h : Held) (next : Held → Kinds) → NoneOrHelp found → short_fault rules false found behind h next ≡ [] → ⊥
  short_refused found behind h next (inl e) none = let bad : kind.UnknownArgument ∷ [] ≡ [] = rw e at none in cc
  short_refused found behind h next (inr e) none =
      let on : short_fault rules false (Some help) behind h next ≡ [] = rw e at none in
      let bad : kind.DisplayHelp ∷ [] ≡ [] = none_behind (settle_fault rules false h) _ (none_before (react_fault rules false help [] h) _ on) in cc

  -- ---- words in one turn

  unknown_refused : (found : Option Rule) (v : Option Text) (h : Held) → NoneOrHelp found → long_fault rules false found v h ≡ [] → ⊥
  unknown_refused found v h (inl e) none = let bad : kind.UnknownArgument ∷ [] ≡ [] = rw e at none in cc
  unknown_refused found (Some v) h (inr e) none = let bad : kind.TooManyValues ∷ [] ≡ [] = rw e at none in cc
  unknown_refused found None h (inr e) none =
      let on : react_fault rules false help [] h ≡ [] = rw e at none in
      let bad : kind.DisplayHelp ∷ [] ≡ [] = none_behind (settle_fault rules false h) (use_fault false help [] (settled rules h).rows) on in cc

  idle_long : (h : Held) (position : ℕ) (word n : Text) (v : Option Text) → bytes_eq word (codes "--") ≡ false → long_of word ≡ Some (n, v)
      → turn_fault shape [] (at h idle position) word ≡ [] → long_fault rules false (arg_by_long rules n) v h ≡ []
  idle_long h position word n v plain long none = none_before _ _ (rw (plain, long) at none)

  waiting_long : (h : Held) (position : ℕ) (m word n : Text) (v : Option Text) → bytes_eq word (codes "--") ≡ false → long_of word ≡ Some (n, v)
      → turn_fault shape [] (at h (option m) position) word ≡ [] → long_fault rules false (arg_by_long rules n) v h ≡ []
  waiting_long h position m word n v plain long none = none_before _ _ (rw (plain, long) at none)

  idle_short : (h : Held) (position : ℕ) (word : Text) (one : ℕ) (more : Text) (first : ℕ) → bytes_eq word (codes "--") ≡ false → long_of word ≡ None
      → short_of word ≡ Some (one ∷ more) → slice_get (chars (one ∷ more)) 0 ≡ Some first → h.skip ≡ 0 → turn_fault shape [] (at h idle position) word ≡ [] → ⊥
  unfolding flags_fault bundle_met
  idle_short h position word one more first plain long short e skip none =
      let behind = drop (length (encode_utf8 first)) (one ∷ more) in
      short_refused (arg_by_short rules first) behind (record h { skip = 0 }) (flags_fault rules false (length more) behind 0) (shorts_of form.options first)
      (none_before _ _ (rw (plain, long, short, skip, e) at none))

  waiting_short : (h : Held) (position : ℕ) (m word : Text) (one : ℕ) (more : Text) (first : ℕ) → bytes_eq word (codes "--") ≡ false → long_of word ≡ None
      → short_of word ≡ Some (one ∷ more) → slice_get (chars (one ∷ more)) 0 ≡ Some first → h.skip ≡ 0 → turn_fault shape [] (at h (option m) position) word ≡ [] → ⊥
  unfolding flags_fault bundle_met
  waiting_short h position m word one more first plain long short e skip none =
      let behind = drop (length (encode_utf8 first)) (one ∷ more) in
      short_refused (arg_by_short rules first) behind (record h { skip = 0 }) (flags_fault rules false (length more) behind 0) (shorts_of form.options first)
      (none_before _ _ (rw (plain, long, short, skip, e) at none))

  -- a word by its place
  placed_fault : (b : Bool) (h : Held) → (if b && false then [] else settle_fault rules false h) ≡ settle_fault rules false h
  placed_fault true h = refl
  placed_fault false h = refl

  idle_plain : (h : Held) (position : ℕ) (places : List (Text × Value)) (word : Text) → bytes_eq word (codes "--") ≡ false → long_of word ≡ None → short_of word ≡ None
      → AtPlaces position places → turn_fault shape [] (at h idle position) word ≡ [] → settle_fault rules false h ≡ []
  idle_plain h position [] word plain long short lacks none =
      let bad : kind.UnknownArgument ∷ [] ≡ [] = rw (plain, long, short, lacks) at none in cc
  idle_plain h position (place ∷ places) word plain long short at_place none =
      let found = at_place.0 in
      sym (placed_fault (is_pending (valued None (Some position) place.0 place.1) h.pending) h) ∙ (rw (plain, long, short, found) at none)

  -- ---- what has a fault when it is looked at has one in the end

  doomed : (words : List Text) → AreWords words → (h : Held) (position : ℕ) (places : List (Text × Value)) → AtPlaces position places → h.skip ≡ 0
      → (settle_fault rules false h ≡ [] → ⊥) → Ends (at h idle position) words → ⊥
  doomed [] all h position places at_place skip bad ends = bad ends.1
  doomed (word ∷ words) all h position places at_place skip bad ends = bad (go (long_of word) refl (short_of word) refl)
    where
      turn : turn_fault shape [] (at h idle position) word ≡ []
      turn = first_turn (at h idle position) word words ends

      go : (long : Option (Text × Option Text)) → long_of word ≡ long → (short : Option Text) → short_of word ≡ short → settle_fault rules false h ≡ []
      go (Some p) e short f = long_settles (arg_by_long rules p.0) p.1 h (idle_long h position word p.0 p.1 all.0.plain e turn)
      go None e (Some flags) f =
          let l = all.0.first flags f in
          absurd (idle_short h position word l.0 l.1 l.2 all.0.plain e (f ∙ ap Some l.3) l.4 skip turn)
      go None e None f = idle_plain h position places word all.0.plain e f at_place turn

  -- ---- one word

  abbrev StandsBy : List Given → Option (Text × Value) → Held → ℕ → Walk → Type 0
  StandsBy given None h position w = IsIdle given h × (w ≡ at h idle position)
  StandsBy given (Some p) h position w = (taken_by form.options p.0 ≡ Some (value p.1)) × (w ≡ at (holding p.0 [] given) (option p.0) position)

  -- the walk stands where the words were read to
  abbrev Stands : State → Walk → Type 0
  Stands st w = (h : Held) × (position : ℕ) × AtPlaces position st.places × StandsBy st.given st.waiting h position w

  abbrev Step : Walk → Text → Option State → Type 0
  Step w word None = (words : List Text) → AreWords words → Ends w (word ∷ words) → ⊥
  Step w word (Some st) = (turn_fault shape [] w word ≡ []) × Stands st (walked rules [] w word)

  refused : (w : Walk) (word : Text) → (turn_fault shape [] w word ≡ [] → ⊥) → Step w word None
  refused w word bad words all ends = bad (first_turn w word words ends)

  no_and_yes : {b : Bool} → b ≡ true → b ≡ false → ⊥
  no_and_yes is lacks = let bad : true ≡ false = sym is ∙ lacks in cc

  -- the value of an option that stands in its word, or a flag: it is looked at in this turn
  module _ (given : List Given) (places : List (Text × Value)) (h : Held) (position : ℕ) (idles : IsIdle given h) (at_place : AtPlaces position places)
      (word : Text) (plain : bytes_eq word (codes "--") ≡ false) (n : Text) where
    abbrev before : State
    before = record { given = given; waiting = None; places = places }

    flag_step : long_of word ≡ Some (n, None) → arg_by_long rules n ≡ Some (built_option (n, nothing)) → Step (at h idle position) word (once_given n (codes "true") before)
    unfolding walked
    flag_step long found = go (is_given n given) refl
      where
        go : (b : Bool) → is_given n given ≡ b → Step (at h idle position) word (if b then None else Some (record { given = given ++ (n, codes "true") ∷ []; waiting = None; places = places }))
        go true e = refused (at h idle position) word (λ none.
            let on : react_fault rules false (built_option (n, nothing)) [] h ≡ [] = rw found at (idle_long h position word n None plain long none) in
            let looked : use_fault false (built_option (n, nothing)) [] (settled rules h).rows ≡ [] = none_behind (settle_fault rules false h) _ on in
            no_and_yes e (flag_fresh n given (subst (λ rs. use_fault false (built_option (n, nothing)) [] rs ≡ []) idles.held_rows looked)))
        go false e =
            let looked : use_fault false (built_option (n, nothing)) [] (settled rules h).rows ≡ [] =
            subst (λ rs. use_fault false (built_option (n, nothing)) [] rs ≡ []) (sym idles.held_rows) (flag_passes n given e) in (
              rw (plain, long, found) (none_both _ _ (none_both _ _ idles.settles looked) refl),
              (
                reacted rules (built_option (n, nothing)) [] h,
                position,
                at_place,
                (
                  record {
                    settles = refl;
                    held_rows = ap (used (built_option (n, nothing)) []) idles.held_rows ∙ flag_row n given e;
                    skip = idles.skip;
                  },
                  rw (plain, long, found) refl,
                ),
              ),
            )

    abbrev by_name : Value → Rule
    by_name taken = valued (Some n) None n taken

    attached_step : (taken : Value) (x : Text) → long_of word ≡ Some (n, Some x) → arg_by_long rules n ≡ Some (built_option (n, value taken))
        → Step (at h idle position) word (value_given n taken x before)
    unfolding walked
    attached_step taken x long found = go (fits taken x) refl (is_given n given) refl
      where
        uses : turn_fault shape [] (at h idle position) word ≡ [] → (is_given n given ≡ false) × (fits taken x ≡ true)
        uses none =
            let on : react_fault rules false (by_name taken) (x ∷ []) h ≡ [] = rw found at (idle_long h position word n (Some x) plain long none) in
            let looked : use_fault false (by_name taken) (x ∷ []) (settled rules h).rows ≡ [] = none_behind (settle_fault rules false h) _ on in
            value_fits (Some n) None n taken given x (subst (λ rs. use_fault false (by_name taken) (x ∷ []) rs ≡ []) idles.held_rows looked)

        go : (f : Bool) → fits taken x ≡ f → (b : Bool) → is_given n given ≡ b
            → Step (at h idle position) word (if f then (if b then None else Some (record { given = given ++ (n, x) ∷ []; waiting = None; places = places })) else None)
        go false f b e = refused (at h idle position) word (λ none. no_and_yes (uses none).1 f)
        go true f true e = refused (at h idle position) word (λ none. no_and_yes e (uses none).0)
        go true f false e =
            let looked : use_fault false (by_name taken) (x ∷ []) (settled rules h).rows ≡ [] =
            subst (λ rs. use_fault false (by_name taken) (x ∷ []) rs ≡ []) (sym idles.held_rows) (value_passes (Some n) None n taken given x e f) in (
              rw (plain, long, found) (none_both _ _ (none_both _ _ idles.settles looked) refl),
              (
                reacted rules (by_name taken) (x ∷ []) h,
                position,
                at_place,
                (
                  record {
                    settles = refl;
                    held_rows = ap (used (by_name taken) (x ∷ [])) idles.held_rows ∙ value_row (Some n) None n taken given x e;
                    skip = idles.skip;
                  },
                  rw (plain, long, found) refl,
                ),
              ),
            )

    opened_step : (taken : Value) → long_of word ≡ Some (n, None) → taken_by form.options n ≡ Some (value taken) → arg_by_long rules n ≡ Some (built_option (n, value taken))
        → Step (at h idle position) word (Some (record { given = given; waiting = Some (n, taken); places = places }))
    unfolding walked
    opened_step taken long known found =
        let held : record (settled rules h) { pending = Some (n, []) } ≡ holding n [] given = λ i. record { rows = idles.held_rows i; pending = Some (n, []); skip = idles.skip i } in (
          rw (plain, long, found) (none_both _ _ idles.settles refl),
          (
            h,
            position,
            at_place,
            (known, rw (plain, long, found) (ap (λ (k : Held). at k (option n) position) held)),
          ),
        )

    long_step : (v : Option Text) → long_of word ≡ Some (n, v) → Step (at h idle position) word (option_read (taken_by form.options n) n v before)
    long_step v long = go (taken_by form.options n) refl (meets_of form.options n) v long
      where
        go : (taken : Option Takes) → taken_by form.options n ≡ taken → Meets n taken (arg_by_long rules n) → (v : Option Text) → long_of word ≡ Some (n, v)
            → Step (at h idle position) word (option_read taken n v before)
        go None known found v long = refused (at h idle position) word (λ none. unknown_refused (arg_by_long rules n) v h found (idle_long h position word n v plain long none))
        go (Some nothing) known found None long = flag_step long found
        go (Some nothing) known found (Some x) long = refused (at h idle position) word (λ none.
            let bad : kind.TooManyValues ∷ [] ≡ [] = rw found at (idle_long h position word n (Some x) plain long none) in cc)
        go (Some (value taken)) known found None long = opened_step taken long known found
        go (Some (value taken)) known found (Some x) long = attached_step taken x long found

  -- a value that stands in a word of its own: it is looked at later
  module _ (given : List Given) (index : Option ℕ) (long : Option Text) (n : Text) (taken : Value) (by_id : arg_by_id rules n ≡ Some (valued long index n taken)) (word : Text) where
    held_fault : settle_fault rules false (holding n (word ∷ []) given) ≡ use_fault false (valued long index n taken) (word ∷ []) (rows given)
    held_fault = rw by_id refl

    held_used : (settled rules (holding n (word ∷ []) given)).rows ≡ used (valued long index n taken) (word ∷ []) (rows given)
    held_used = rw by_id refl

    unfit : (fits taken word ≡ false) ⊎ (is_given n given ≡ true) → settle_fault rules false (holding n (word ∷ []) given) ≡ [] → ⊥
    unfit why none =
        let good = value_fits long index n taken given word (sym held_fault ∙ none) in
        elim why [ inl lacks ↦ no_and_yes good.1 lacks | inr twice ↦ no_and_yes twice good.0 ]

    value_idles : is_given n given ≡ false → fits taken word ≡ true → IsIdle (given ++ (n, word) ∷ []) (holding n (word ∷ []) given)
    value_idles fresh fit = record {
      settles = held_fault ∙ value_passes long index n taken given word fresh fit;
      held_rows = held_used ∙ value_row long index n taken given word fresh;
      skip = refl;
    }

    -- the walk holds the value behind this word
    held_step : (w : Walk) (places : List (Text × Value)) (position : ℕ) → AtPlaces position places → turn_fault shape [] w word ≡ []
        → walked rules [] w word ≡ at (holding n (word ∷ []) given) idle position
        → (waiting : Option (Text × Value)) → Step w word (value_given n taken word (record { given = given; waiting = waiting; places = places }))
    held_step w places position at_place turn is waiting = go (fits taken word) refl (is_given n given) refl
      where
        ends_badly : (fits taken word ≡ false) ⊎ (is_given n given ≡ true) → Step w word None
        ends_badly why words all ends =
            doomed words all (holding n (word ∷ []) given) position places at_place refl (unfit why) (subst (λ v. Ends v words) is (other_turns w word words ends))

        go : (f : Bool) → fits taken word ≡ f → (b : Bool) → is_given n given ≡ b
            → Step w word (if f then (if b then None else Some (record { given = given ++ (n, word) ∷ []; waiting = None; places = places })) else None)
        go false f b e = ends_badly (inl f)
        go true f true e = ends_badly (inr e)
        go true f false e = (turn, (holding n (word ∷ []) given, position, at_place, (value_idles e f, is)))

  same_name : (n : Text) → bytes_eq n n ≡ true
  same_name n = (bytes_eq-Decides n n).1 refl

  -- a word where an option waits
  module _ (given : List Given) (places : List (Text × Value)) (position : ℕ) (at_place : AtPlaces position places) (n : Text) (taken : Value)
      (known : taken_by form.options n ≡ Some (value taken)) (word : Text) (is_word : IsWord word) where
    abbrev waiting_walk : Walk
    waiting_walk = at (holding n [] given) (option n) position

    found_by_id : arg_by_id rules n ≡ Some (valued (Some n) None n taken)
    found_by_id = go (taken_by form.options n) known (knows_of form.options n)
      where
        go : (t : Option Takes) → t ≡ Some (value taken) → Knows n t (arg_by_id rules n) → arg_by_id rules n ≡ Some (valued (Some n) None n taken)
        go None e found = cc
        go (Some t) e found =
            let same : t ≡ value taken = cc in found ∙ ap (λ (k : Takes). Some (built_option (n, k))) same

    no_value : settle_fault rules false (holding n [] given) ≡ [] → ⊥
    no_value none = value_wanted (Some n) None n taken given (rw found_by_id at none)

    waited_step : Step waiting_walk word (waited_read form (Some (n, taken)) word (record { given = given; waiting = Some (n, taken); places = places }))
    unfolding walked
    waited_step = go (long_of word) refl (short_of word) refl
      where
        go : (long : Option (Text × Option Text)) → long_of word ≡ long → (short : Option Text) → short_of word ≡ short
            → Step waiting_walk word (if is_some long || is_some short then None else value_given n taken word (record { given = given; waiting = Some (n, taken); places = places }))
        go (Some p) e short f = refused waiting_walk word (λ none.
            no_value (long_settles (arg_by_long rules p.0) p.1 (holding n [] given) (waiting_long (holding n [] given) position n word p.0 p.1 is_word.plain e none)))
        go None e (Some flags) f = refused waiting_walk word (λ none.
            let l = is_word.first flags f in
            waiting_short (holding n [] given) position n word l.0 l.1 l.2 is_word.plain e (f ∙ ap Some l.3) l.4 refl none)
        go None e None f =
            let plain = is_word.plain in
            let same = same_name n in
            held_step given None (Some n) n taken found_by_id word waiting_walk places position at_place (rw (plain, e, f) refl) (rw (plain, e, f, found_by_id, same) refl) (Some (n, taken))

  -- a word where nothing waits
  module _ (given : List Given) (places : List (Text × Value)) (h : Held) (position : ℕ) (idles : IsIdle given h) (at_place : AtPlaces position places)
      (word : Text) (is_word : IsWord word) where
    settled_pushed : (b : Bool) (n : Text) → pushed n word (if b && false then h else settled rules h) ≡ holding n (word ∷ []) given
    settled_pushed true n = λ i. record { rows = idles.held_rows i; pending = Some (n, word ∷ []); skip = idles.skip i }
    settled_pushed false n = λ i. record { rows = idles.held_rows i; pending = Some (n, word ∷ []); skip = idles.skip i }

    place_step : (places : List (Text × Value)) → AtPlaces position places → long_of word ≡ None → short_of word ≡ None
        → Step (at h idle position) word (place_read places word (record { given = given; waiting = None; places = places }))
    unfolding walked
    place_step [] lacks long short = refused (at h idle position) word (λ none.
        let plain = is_word.plain in
        let bad : kind.UnknownArgument ∷ [] ≡ [] = rw (plain, long, short, lacks) at none in cc)
    place_step (place ∷ places) at_place long short =
        let plain = is_word.plain in
        let found = at_place.0 in
        held_step given (Some position) None place.0 place.1 at_place.1 word (at h idle position) places (min (position + 1) usize_max) at_place.2
        (rw (plain, long, short, found) (placed_fault (is_pending (valued None (Some position) place.0 place.1) h.pending) h ∙ idles.settles))
        (rw (plain, long, short, found) (ap (λ (k : Held). at k idle (min (position + 1) usize_max)) (settled_pushed (is_pending (valued None (Some position) place.0 place.1) h.pending) place.0)))
        None

    free_step : Step (at h idle position) word (free_read form (long_of word) word (record { given = given; waiting = None; places = places }))
    free_step = go (long_of word) refl
      where
        later : (short : Option Text) → short_of word ≡ short → long_of word ≡ None
            → Step (at h idle position) word (if is_some short then None else place_read places word (record { given = given; waiting = None; places = places }))
        later (Some flags) f e = refused (at h idle position) word (λ none.
            let l = is_word.first flags f in
            idle_short h position word l.0 l.1 l.2 is_word.plain e (f ∙ ap Some l.3) l.4 idles.skip none)
        later None f e = place_step places at_place e f

        go : (long : Option (Text × Option Text)) → long_of word ≡ long → Step (at h idle position) word (free_read form long word (record { given = given; waiting = None; places = places }))
        go (Some p) e = long_step given places h position idles at_place word is_word.plain p.0 p.1 e
        go None e = later (short_of word) refl e

  word_step : (given : List Given) (waiting : Option (Text × Value)) (places : List (Text × Value)) (w : Walk) → Stands (record { given = given; waiting = waiting; places = places }) w
      → (word : Text) → IsWord word → Step w word (word_read form word (record { given = given; waiting = waiting; places = places }))
  word_step given None places w stands word is_word =
      subst (λ b. Step w word (if b then None else free_read form (long_of word) word (record { given = given; waiting = None; places = places }))) (sym is_word.plain)
      (subst (λ v. Step v word (free_read form (long_of word) word (record { given = given; waiting = None; places = places }))) (sym stands.3.1)
      (free_step given places stands.0 stands.1 stands.3.0 stands.2 word is_word))
  word_step given (Some p) places w stands word is_word =
      subst (λ b. Step w word (if b then None else waited_read form (Some p) word (record { given = given; waiting = Some p; places = places }))) (sym is_word.plain)
      (subst (λ v. Step v word (waited_read form (Some p) word (record { given = given; waiting = Some p; places = places }))) (sym stands.3.1)
      (waited_step given places stands.1 stands.2 p.0 p.1 stands.3.0 word is_word))

  -- ---- all words

  abbrev Reads : Walk → List Text → Option (List Given) → Type 0
  Reads w words None = Ends w words → ⊥
  Reads w words (Some given) = Ends w words × ((settled rules (fold (walked rules []) w words).held).rows ≡ rows given)

  at_end : (given : List Given) (waiting : Option (Text × Value)) (places : List (Text × Value)) (w : Walk) → Stands (record { given = given; waiting = waiting; places = places }) w
      → Reads w [] (ended (record { given = given; waiting = waiting; places = places }))
  unfolding walk_fault
  at_end given None places w stands = subst (λ v. Reads v [] (Some given)) (sym stands.3.1) ((refl, stands.3.0.settles), stands.3.0.held_rows)
  at_end given (Some p) places w stands = subst (λ v. Reads v [] None) (sym stands.3.1) (λ ends. no_value given places stands.1 stands.2 p.0 p.1 stands.3.0 [] no_word ends.1)
    where
      no_word : IsWord []
      no_word = record { plain = refl; first = λ flags e. absurd cc }

  onward : (w : Walk) (word : Text) (words : List Text) (r : Option (List Given)) → turn_fault shape [] w word ≡ [] → Reads (walked rules [] w word) words r → Reads w (word ∷ words) r
  onward w word words None turn reads = λ ends. reads (other_turns w word words ends)
  onward w word words (Some given) turn reads = (one_more w word words turn reads.0, reads.1)

  reads_more : (w : Walk) (word : Text) (words : List Text) → AreWords words → ((st : State) (v : Walk) → Stands st v → Reads v words (words_read form words st))
      → (r : Option State) → Step w word r → Reads w (word ∷ words) (option_and_then (words_read form words) r)
  reads_more w word words all later None step = λ ends. step words all ends
  reads_more w word words all later (Some next) step = onward w word words (words_read form words next) step.0 (later next (walked rules [] w word) step.1)

  reads_all : (words : List Text) → AreWords words → (st : State) (w : Walk) → Stands st w → Reads w words (words_read form words st)
  reads_all [] all st w stands = at_end st.given st.waiting st.places w stands
  reads_all (word ∷ words) all st w stands =
      reads_more w word words all.1 (λ next v. reads_all words all.1 next v) (word_read form word st) (word_step st.given st.waiting st.places w stands word all.0)

  -- ---- the parse

  abbrev pub app : App
  app = record { top = shape; subs = [] }

  none_below : (stop : Option (Text × List Text)) → entered_fault app stop ≡ []
  none_below None = refl
  none_below (Some p) = refl

  none_entered : (stop : Option (Text × List Text)) → is_some (entered app stop) ≡ false
  none_entered None = refl
  none_entered (Some p) = refl

  module _ (rest_defaults : (rs : List Row) → defaults_fault rs rest ≡ []) (rest_required : (rs : List Row) → list_any (λ a. a.required && not (is_given_row a.id rs)) rest ≡ false) where
    default_one : (m : Text) (taken : Takes) (rs : List Row) → default_fault rs (built_option (m, taken)) ≡ []
    default_one m nothing rs = go (has_row m rs)
      where
        go : (b : Bool) → (if b || false then [] else given_default_fault (built_option (m, nothing)) (codes "false" ∷ [])) ≡ []
        go true = refl
        go false = refl
    default_one m (value taken) rs = go (has_row m rs)
      where
        go : (b : Bool) → (if b || true then [] else given_default_fault (built_option (m, value taken)) []) ≡ []
        go true = refl
        go false = refl

    defaults_pass : (os : List (Text × Takes)) (rs : List Row) → defaults_fault rs (map built_option os ++ rest) ≡ []
    unfolding defaults_fault
    defaults_pass [] rs = rest_defaults rs
    defaults_pass (o ∷ os) rs = none_both _ _ (default_one o.0 o.1 rs) (defaults_pass os (with_default rs (built_option o)))

    required_one : (m : Text) (taken : Takes) (os : List (Text × Takes)) (rs : List Row) → list_any (λ a. a.required && not (is_given_row a.id rs)) (map built_option os ++ rest) ≡ false
        → list_any (λ a. a.required && not (is_given_row a.id rs)) (map built_option ((m, taken) ∷ os) ++ rest) ≡ false
    required_one m nothing os rs below = below
    required_one m (value taken) os rs below = below

    required_none : (os : List (Text × Takes)) (rs : List Row) → list_any (λ a. a.required && not (is_given_row a.id rs)) (map built_option os ++ rest) ≡ false
    required_none [] rs = rest_required rs
    required_none (o ∷ os) rs = required_one o.0 o.1 os rs (required_none os rs)

    check_passes : (has : Bool) (rs : List Row) → has ≡ false → check_fault shape rs has ≡ []
    check_passes has rs e =
        let lacks = required_none form.options rs in
        rw (e, lacks) refl

    -- the parse has no fault exactly where the words are of the form, and then it finds what they give
    abbrev pub Parses : List Text → Option (List Given) → Type 0
    Parses words None = built_fault app nothing_held words ≡ [] → ⊥
    Parses words (Some given) = (built_fault app nothing_held words ≡ []) × (rows_after rules [] words ≡ fold with_default (rows given) rules)

    pub parses : AtPlaces 1 form.places → (words : List Text) → AreWords words → Parses words (given_by form words)
    parses at_places words all =
        go (given_by form words) (reads_all words all (record { given = []; waiting = None; places = form.places }) (at nothing_held idle 1)
        (nothing_held, 1, at_places, (record { settles = refl; held_rows = refl; skip = refl }, refl)))
      where
        go : (r : Option (List Given)) → Reads (at nothing_held idle 1) words r → Parses words r
        go None reads = λ none. reads (none_before _ _ none, none_before _ _ (none_behind _ _ (none_behind _ _ none)))
        go (Some given) reads =
            let end = fold (walked rules []) (at nothing_held idle 1) words in (
              none_both _ _ reads.0.0 (none_both _ _ (none_below end.stopped) (none_both _ _ reads.0.1
                  (none_both _ _ (defaults_pass form.options (settled rules end.held).rows) (check_passes (is_some (entered app end.stopped)) _ (none_entered end.stopped))))),
              ap (λ rs. fold with_default rs rules) reads.1,
            )
