-- Texts that are lent.
use Rattle.std.specs.Prelude.{ℕ, Bool, true, List, [], ◌∷◌, map, IsUtf8, Contains}
use Rattle.std.specs.Borrow.{Bor}
use Rattle.fast_fields.specs.Columns.{Cell, SomeText, is_below}

-- the texts of a list of loans
abbrev pub texts_in : List (Bor (List ℕ)) → List (List ℕ)
texts_in loans = map (λ b. b.now) loans

-- a loan of the text of some cell
pub record IsCellText (cs : List Cell) (b : Bor (List ℕ)) : Type 0 where
  pub some : SomeText cs b.now
  pub utf8 : IsUtf8 b.now

-- whether a text stands behind the last of some texts, if there is one
abbrev pub is_behind : List (List ℕ) → List ℕ → Bool
is_behind [] t = true
is_behind (u ∷ []) t = is_below u t
is_behind (u ∷ v ∷ vs) t = is_behind (v ∷ vs) t

-- each text of the cells is one of these
abbrev pub EachIsAmong : List Cell → List (List ℕ) → Type 0
EachIsAmong cs texts = (t : List ℕ) → SomeText cs t → Contains texts t
