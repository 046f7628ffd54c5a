-- The names of folders.
use Rattle.std.specs.Prelude.{ℕ, List, [], Option, Some, None}

-- no bytes for no key
abbrev pub folder_key : Option (List ℕ) → List ℕ
folder_key None = []
folder_key (Some key) = key
