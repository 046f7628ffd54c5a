-- Want of memory.
use Rattle.std.specs.Prelude.{⊤}
use Rattle.split_bundle.specs.declared.split_error.SplitError.{SplitError}
use Rattle.split_bundle.specs.declared.split_error.SplitError.TheVariants as split

-- want of memory
abbrev pub IsWant : SplitError → Type 0
IsWant (split.Memory a) = ⊤
IsWant split.BadMagic = ⊥
IsWant (split.Truncated at) = ⊥
IsWant (split.BadSection section) = ⊥
IsWant (split.BadVersion version) = ⊥
