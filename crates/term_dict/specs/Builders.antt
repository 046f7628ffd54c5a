-- A dictionary that is built term by term.
use Rattle.std.specs.Prelude.{◌≡◌, ℕ, List, length}
use Rattle.term_dict.specs.Terms.{IsDict}
use Rattle.term_dict.specs.declared.term.Term.{Term}
use Rattle.term_dict.specs.declared.term.TermInfo.{TermInfo}
use Rattle.term_dict.specs.declared.build.DictBuilder.{DictBuilder}

abbrev pub term_with : List ℕ → TermInfo → Term
term_with key info = record { key = key; info = info }

-- the terms that a builder was given, whose dictionary it has
pub record HasTaken (b : DictBuilder) (terms : List Term) : Type 0 where
  pub dict : IsDict b.area.items b.index terms
  pub count : b.count ≡ length terms
