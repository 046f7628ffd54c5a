-- What logs tell as one source.
use Rattle.std.specs.Prelude.{ℕ, Bool, true, false, ◌&&◌, if◌then◌else◌, List, [], ◌∷◌, Option, Some, None, bytes_eq}
use Rattle.source_log.specs.Log.{Log}

abbrev pub are_same : List (List ℕ) → List (List ℕ) → Bool
are_same [] [] = true
are_same [] (other ∷ others) = false
are_same (bytes ∷ records) [] = false
are_same (bytes ∷ records) (other ∷ others) = bytes_eq bytes other && are_same records others

abbrev pub is_same_log : Log → Log → Bool
is_same_log [] [] = true
is_same_log [] (other ∷ others) = false
is_same_log (part ∷ parts) [] = false
is_same_log (part ∷ parts) (other ∷ others) = bytes_eq part.partition other.partition && (are_same part.records other.records && is_same_log parts others)

-- what two tell where both tell the same
abbrev pub told_by_both : Option Log → Option Log → Option Log
told_by_both None other = None
told_by_both (Some log) None = None
told_by_both (Some log) (Some other) = if is_same_log log other then Some log else None

-- what all of them tell where all tell the same
abbrev pub common : {L : Type 0} → (L → Option Log) → List L → Option Log
common told [] = None
common told (log ∷ []) = told log
common told (log ∷ next ∷ logs) = told_by_both (told log) (common told (next ∷ logs))
