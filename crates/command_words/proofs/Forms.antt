-- The forms of commands that take nothing by its place: all behind their options is the flag for help.
use Rattle.std.proofs.Common.{◌≡◌, ◌&&◌, ◌||◌, not, inl, inr, ℕ, Bool, true, false, List, [], ◌∷◌, Some, None, refl, if◌then◌else◌}
use Rattle.std.specs.List.{list_any}
use Rattle.clap.specs.Faults.{defaults_fault, given_default_fault}
use Rattle.clap.specs.Takes.{is_given as is_given_row}
use Rattle.clap.specs.Walk.{Row, arg_by_long, arg_by_short, has_long, has_row, has_short}
use Rattle.command_words.specs.Options.{Text}
use Rattle.command_words.proofs.Values.{help, none_both}
use Rattle.command_words.proofs.Walk.{NoneOrHelp}

help_or_none : (b : Bool) → NoneOrHelp (if b then Some help else None)
help_or_none true = inr refl
help_or_none false = inl refl

pub long_help : (n : Text) → NoneOrHelp (arg_by_long (help ∷ []) n)
long_help n = help_or_none (has_long help n)

pub short_help : (x : ℕ) → NoneOrHelp (arg_by_short (help ∷ []) x)
short_help x = help_or_none (has_short help x)

pub help_defaults : (rs : List Row) → defaults_fault rs (help ∷ []) ≡ []
unfolding defaults_fault
help_defaults rs = none_both _ _ (go (has_row help.id rs)) refl
  where
    go : (b : Bool) → (if b || true then [] else given_default_fault help []) ≡ []
    go true = refl
    go false = refl

pub help_required : (rs : List Row) → list_any (λ a. a.required && not (is_given_row a.id rs)) (help ∷ []) ≡ false
help_required rs = refl
