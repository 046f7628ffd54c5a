-- The occurrences of keys, as far as documents were taken.
use Rattle.std.specs.Prelude.{◌≡◌, ℕ, Bool, true, false, List, Some, map, filter, slice_get}
use Rattle.std.specs.Bool.{beq}
use Rattle.std.specs.List.{AllByRecursion, AllZip}
use Rattle.doc_value.specs.declared.schema.Schema.{Schema}
use Rattle.split_bundle.specs.Lists.{keeps_places}
use Rattle.split_build.specs.declared.terms.Occurrences.{Occurrences}
use Rattle.split_build.specs.declared.terms.TermLog.{TermLog}
use Rattle.split_build.specs.HeldKeys.{key_bytes}
use Rattle.split_build.specs.Said.{Said}
use Rattle.split_build.specs.Members.{IsAmong}
use Rattle.split_build.specs.Runs.{documents_of, places_of, runs_in}

-- the occurrences whose places are kept, or those whose places are not
abbrev pub said_with : Bool → Schema → List Said → List Said
said_with kept s log = filter (λ o. beq (keeps_places s o.key) kept) log

-- a number is that of an occurrence's key among the keys
abbrev pub IsNumberOf : List (List ℕ) → Said → ℕ → Type 0
IsNumberOf keys o n = slice_get keys n ≡ Some o.key

-- these occurrences, each by the number of its key, with their places where they are kept
pub record HasOccurrences (keys : List (List ℕ)) (kept : Bool) (os : List Said) (l : Occurrences) : Type 0 where
  pub numbers : AllZip (IsNumberOf keys) os l.numbers.items
  pub documents : documents_of (runs_in l) ≡ map (λ o. o.document) os
  pub places : kept ≡ true → places_of (runs_in l) ≡ map (λ o. o.place) os

-- what was said, and the keys that occur there
pub record HasSaid (t : TermLog) (s : Schema) (log : List Said) : Type 0 where
  pub placed : HasOccurrences (key_bytes t.keys.keys) true (said_with true s log) t.placed
  pub plain : HasOccurrences (key_bytes t.keys.keys) false (said_with false s log) t.plain
  pub used : AllByRecursion (IsAmong (map (λ o. o.key) log)) (key_bytes t.keys.keys)
