-- One use of an option, a flag or a place: what clap asks of its value, and the row that it leaves.
use Rattle.std.proofs.Common.{◌≡◌, ◌&&◌, ◌||◌, ℕ, Bool, true, false, List, [], ◌∷◌, ◌++◌, map, Option, Some, None, refl, sym, ap, ◌∙◌, bytes_eq, codes, nat_le, if◌then◌else◌, unwrap_or, append-nil}
use Rattle.std.specs.Option.{option_map_or}
use Rattle.clap.specs.Faults.{use_fault}
use Rattle.clap.specs.Kinds.{Kinds, or_else}
use Rattle.clap.specs.Simple.{filled, help_rule, new_rule, with_index}
use Rattle.clap.specs.Values.{reading_of, refused_kind}
use Rattle.clap.specs.ValueTests.{accepts}
use Rattle.clap.specs.Walk.{Row, Rule, at_row, has_row, more_values, used, with_values, without}
use Rattle.clap.specs.declared.builder.action.ArgAction.TheVariants.{Set}
use Rattle.clap.specs.declared.builder.value_parser.ValueParser.TheVariants as vp
use Rattle.clap.specs.declared.builder.value_parser.Reading.TheVariants as reading
use Rattle.clap.specs.declared.error.kind.ErrorKind.TheVariants as kind
use Rattle.clap.specs.declared.parser.matches.ValueSource.TheVariants.{CommandLine}
use Rattle.clap.proofs.WalkLemmas.{list_any-map}
use Rattle.std.proofs.lemmas.List.{map-append}
use Rattle.command_words.specs.Options.{Given, Takes, Text, Value, fits, is_given, nothing, number, text}
use Rattle.command_words.specs.Parsing.{option_rule, parser_of}

-- ---- faults, one behind another

pub none_before : (a b : Kinds) → or_else a b ≡ [] → a ≡ []
none_before [] b none = refl
none_before (k ∷ ks) b none = none

pub none_behind : (a b : Kinds) → or_else a b ≡ [] → b ≡ []
none_behind [] b none = none
none_behind (k ∷ ks) b none = cc

pub none_both : (a b : Kinds) → a ≡ [] → b ≡ [] → or_else a b ≡ []
none_both a b e f = rw (e, f) refl

-- ---- the rules of a form, as clap builds them

abbrev pub built_option : Text × Takes → Rule
built_option o = filled (option_rule o)

-- an option, or what is taken by its place, with its value
abbrev pub valued : Option Text → Option ℕ → Text → Value → Rule
valued long index name taken = record (new_rule name) {
  long = long;
  index = index;
  action = Some Set;
  parser = Some (unwrap_or (parser_of taken) vp.String);
  range = Some (record { start_inclusive = 1; end_inclusive = 1 });
}

abbrev pub help : Rule
help = with_index 1 (filled help_rule)

-- ---- rows

abbrev pub row : Given → Row
row g = record { id = g.0; values = g.1 ∷ []; count = None; source = Some CommandLine; reading = reading.AsWritten }

abbrev pub rows : List Given → List Row
rows = map row

neither : (a b : Bool) → (a || b) ≡ false → (a ≡ false) × (b ≡ false)
neither true b none = cc
neither false b none = (refl, none)

pub at_missing : (id : Text) (change : Row → List Row) (missing rs : List Row) → has_row id rs ≡ false → at_row id change missing rs ≡ rs ++ missing
at_missing id change missing [] none = refl
at_missing id change missing (r ∷ rs) none =
    let p = neither (bytes_eq r.id id) (has_row id rs) none in
    rw p.0 (ap (λ xs. r ∷ xs) (at_missing id change missing rs p.1))

pub row_added : (id spelled : Text) (rs : List Row) → has_row id rs ≡ false
    → with_values id reading.AsWritten CommandLine (spelled ∷ []) (without id rs) ≡ rs ++ row (id, spelled) ∷ []
row_added id spelled rs none =
    ap (with_values id reading.AsWritten CommandLine (spelled ∷ [])) (at_missing id (λ _. []) [] rs none ∙ append-nil rs)
    ∙ at_missing id (more_values CommandLine (spelled ∷ [])) (row (id, spelled) ∷ []) rs none

pub rows_more : (given : List Given) (g : Given) → rows (given ++ g ∷ []) ≡ rows given ++ row g ∷ []
rows_more given g = map-append row given (g ∷ [])

pub row_is_given : (name : Text) (given : List Given) → has_row name (rows given) ≡ is_given name given
row_is_given name given = sym (list_any-map (λ (r : Row). bytes_eq r.id name) row given)

-- ---- values

in_bounds : (a b : Bool) (n : ℕ) (f : ℕ → Bool) → (a && (b && f n)) ≡ option_map_or f (if a && b then Some n else None) false
in_bounds true true n f = refl
in_bounds true false n f = refl
in_bounds false b n f = refl

accepts_is : (taken : Value) (spelled : Text) → accepts false (unwrap_or (parser_of taken) vp.String) spelled ≡ fits taken spelled
accepts_is (number least most) spelled = in_bounds _ _ _ (λ n. nat_le least n && nat_le n most)
accepts_is text spelled = refl

as_written : (taken : Value) → reading_of (unwrap_or (parser_of taken) vp.String) ≡ reading.AsWritten
as_written (number least most) = refl
as_written text = refl

module _ (long : Option Text) (index : Option ℕ) (name : Text) (taken : Value) (given : List Given) where
  abbrev fault_by : List Text → Kinds
  fault_by values = use_fault false (valued long index name taken) values (rows given)

  pub value_passes : (spelled : Text) → is_given name given ≡ false → fits taken spelled ≡ true → fault_by (spelled ∷ []) ≡ []
  value_passes spelled fresh fit =
      let no_row : has_row name (rows given) ≡ false = row_is_given name given ∙ fresh in
      let passes : accepts false (unwrap_or (parser_of taken) vp.String) spelled ≡ true = accepts_is taken spelled ∙ fit in
      rw (no_row, passes) refl

  pub value_fits : (spelled : Text) → fault_by (spelled ∷ []) ≡ [] → (is_given name given ≡ false) × (fits taken spelled ≡ true)
  value_fits spelled none = go (has_row name (rows given)) refl (accepts false (unwrap_or (parser_of taken) vp.String) spelled) refl
    where
      go : (h : Bool) → has_row name (rows given) ≡ h → (a : Bool) → accepts false (unwrap_or (parser_of taken) vp.String) spelled ≡ a
          → (is_given name given ≡ false) × (fits taken spelled ≡ true)
      go true e a f = let bad : kind.ArgumentConflict ∷ [] ≡ [] = rw e at none in cc
      go false e true f = (sym (row_is_given name given) ∙ e, sym (accepts_is taken spelled) ∙ f)
      go false e false f = let bad : refused_kind (unwrap_or (parser_of taken) vp.String) ∷ [] ≡ [] = rw (e, f) at none in cc

  pub value_row : (spelled : Text) → is_given name given ≡ false
      → used (valued long index name taken) (spelled ∷ []) (rows given) ≡ rows (given ++ (name, spelled) ∷ [])
  value_row spelled fresh =
      ap (λ how. with_values name how CommandLine (spelled ∷ []) (without name (rows given))) (as_written taken)
      ∙ row_added name spelled (rows given) (row_is_given name given ∙ fresh) ∙ sym (rows_more given (name, spelled))

  pub value_wanted : fault_by [] ≡ [] → ⊥
  value_wanted none = let bad : kind.InvalidValue ∷ [] ≡ [] = none in cc

module _ (name : Text) (given : List Given) where
  pub flag_passes : is_given name given ≡ false → use_fault false (built_option (name, nothing)) [] (rows given) ≡ []
  flag_passes fresh =
      let no_row : has_row name (rows given) ≡ false = row_is_given name given ∙ fresh in
      rw no_row refl

  pub flag_fresh : use_fault false (built_option (name, nothing)) [] (rows given) ≡ [] → is_given name given ≡ false
  flag_fresh none = go (has_row name (rows given)) refl
    where
      go : (h : Bool) → has_row name (rows given) ≡ h → is_given name given ≡ false
      go true e = let bad : kind.ArgumentConflict ∷ [] ≡ [] = rw e at none in cc
      go false e = sym (row_is_given name given) ∙ e

  pub flag_row : is_given name given ≡ false → used (built_option (name, nothing)) [] (rows given) ≡ rows (given ++ (name, codes "true") ∷ [])
  flag_row fresh = row_added name (codes "true") (rows given) (row_is_given name given ∙ fresh) ∙ sym (rows_more given (name, codes "true"))
