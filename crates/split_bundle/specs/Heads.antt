-- The head of a split file.
use Rattle.std.specs.Prelude.{ℕ, List, [], ◌∷◌, length, Result, Ok, Err, nat_lt, nat_eq, ◌==◌, slice_index, if◌then◌else◌}
use Rattle.std.specs.List.{starts_with}
use Rattle.split_bundle.specs.declared.split_error.SplitError.{SplitError}
use Rattle.split_bundle.specs.declared.split_error.SplitError.TheVariants.{BadMagic, BadVersion, Truncated}

-- the bytes begin with QWS and the format's number
unfoldable pub head_in : List ℕ → Result (Unit {0}) SplitError
head_in bytes =
    if nat_lt (length bytes) 4 then Err (Truncated (length bytes))
    else if starts_with nat_eq bytes (0x51 ∷ 0x57 ∷ 0x53 ∷ []) then (if slice_index bytes 3 == 2 then Ok tt else Err (BadVersion (slice_index bytes 3)))
    else Err BadMagic
