-- The index of a dictionary.
use Rattle.std.specs.Prelude.{ℕ, suc, ◌+◌, ◌%◌, ◌==◌, List, [], ◌∷◌, length, if◌then◌else◌}
use Rattle.term_dict.specs.Terms.{term_bytes}
use Rattle.term_dict.specs.declared.term.Term.{Term}
use Rattle.term_dict.specs.declared.index.BlockStart.{BlockStart}

-- each 64th term with its start, among terms of which the first has that number and that start
abbrev pub blocks_from : ℕ → ℕ → List Term → List BlockStart
blocks_from number start [] = []
blocks_from number start (t ∷ ts) =
    if number % 64 == 0
    then record { first = t.key; start = start } ∷ blocks_from (suc number) (start + length (term_bytes t)) ts
    else blocks_from (suc number) (start + length (term_bytes t)) ts

abbrev pub index_of : List Term → List BlockStart
index_of terms = blocks_from 0 0 terms
