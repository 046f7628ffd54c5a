-- A key and the first of some terms.
use Rattle.std.specs.Prelude.{ℕ, Bool, true, List, [], ◌∷◌}
use Rattle.term_dict.specs.Keys.{is_below}
use Rattle.term_dict.specs.declared.term.Term.{Term}

-- whether a key stands before the first of these terms, if there is one
abbrev pub before_first : List ℕ → List Term → Bool
before_first key [] = true
before_first key (t ∷ ts) = is_below key t.key
