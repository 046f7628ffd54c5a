-- Which files of a disk are objects.
use Rattle.std.specs.Prelude.{ℕ, Bool, ◌&&◌, List, length, nat_le, nat_lt}
use Rattle.std.specs.List.{list_all}
use Rattle.object_store.specs.Key.{is_key_byte}

-- the name is a key
abbrev pub is_object : List ℕ → Bool
is_object name = nat_lt 0 (length name) && nat_le (length name) 128 && list_all is_key_byte name
