-- How the logic stores a query: as a list of marks, from which it is read back.
use Rattle.std.specs.Prelude.{ℕ, ◌≡◌, List, [], ◌∷◌, refl}
use Rattle.std.proofs.Common.{ap, ◌∙◌}
use Rattle.std.specs.Coded.{Coded, code_by}
use Rattle.query_ast.specs.declared.query.Edge.{Edge}
use Rattle.query_ast.specs.declared.query.Item.{Item}
use Rattle.query_ast.specs.Sought.{Sought, Soughts, no_more, more}
use Rattle.query_ast.specs.Sought.Sought.{All, Nothing, Word, Quoted, Prefix, Exists, Range, AnyOf, Not, And, Or}

pub data Mark : Type 0 where
  Everything : Mark
  Nothing_at_all : Mark
  Of_word : ℕ → List ℕ → Mark
  Of_quoted : ℕ → List ℕ → Mark
  Of_prefix : ℕ → List ℕ → Mark
  Of_presence : ℕ → Mark
  Of_range : ℕ → Edge → Edge → Mark
  Of_set : ℕ → List Item → Mark
  Begins_not : Mark
  Begins_and : Mark
  Begins_or : Mark
  Ends : Mark

-- the marks of a query, before others
abbrev mutual
  pub marks : Sought → List Mark → List Mark
  marks All ms = Everything ∷ ms
  marks Nothing ms = Nothing_at_all ∷ ms
  marks (Word n text) ms = Of_word n text ∷ ms
  marks (Quoted n text) ms = Of_quoted n text ∷ ms
  marks (Prefix n text) ms = Of_prefix n text ∷ ms
  marks (Exists n) ms = Of_presence n ∷ ms
  marks (Range n low high) ms = Of_range n low high ∷ ms
  marks (AnyOf n items) ms = Of_set n items ∷ ms
  marks (Not q) ms = Begins_not ∷ marks q (Ends ∷ ms)
  marks (And qs) ms = Begins_and ∷ marks_all qs (Ends ∷ ms)
  marks (Or qs) ms = Begins_or ∷ marks_all qs (Ends ∷ ms)

  pub marks_all : Soughts → List Mark → List Mark
  marks_all no_more ms = ms
  marks_all (more q qs) ms = marks q (marks_all qs ms)

-- a query comes to the front of the innermost list
abbrev pub put : Sought → List Soughts → List Soughts
put q [] = more q no_more ∷ []
put q (qs ∷ lists) = more q qs ∷ lists

abbrev pub negated : Soughts → List Soughts → List Soughts
negated no_more lists = lists
negated (more q qs) lists = put (Not q) lists

abbrev pub close_not : List Soughts → List Soughts
close_not [] = []
close_not (qs ∷ lists) = negated qs lists

abbrev pub close_and : List Soughts → List Soughts
close_and [] = []
close_and (qs ∷ lists) = put (And qs) lists

abbrev pub close_or : List Soughts → List Soughts
close_or [] = []
close_or (qs ∷ lists) = put (Or qs) lists

-- the lists that are begun behind a mark, from those behind the next one
abbrev pub taken : Mark → List Soughts → List Soughts
taken Everything lists = put All lists
taken Nothing_at_all lists = put Nothing lists
taken (Of_word n text) lists = put (Word n text) lists
taken (Of_quoted n text) lists = put (Quoted n text) lists
taken (Of_prefix n text) lists = put (Prefix n text) lists
taken (Of_presence n) lists = put (Exists n) lists
taken (Of_range n low high) lists = put (Range n low high) lists
taken (Of_set n items) lists = put (AnyOf n items) lists
taken Begins_not lists = close_not lists
taken Begins_and lists = close_and lists
taken Begins_or lists = close_or lists
taken Ends lists = no_more ∷ lists

abbrev pub read : List Mark → List Soughts
read [] = []
read (m ∷ ms) = taken m (read ms)

abbrev pub first_of : Soughts → Sought
first_of no_more = All
first_of (more q qs) = q

abbrev pub first : List Soughts → Sought
first [] = All
first (qs ∷ lists) = first_of qs

abbrev pub put_all : Soughts → List Soughts → List Soughts
put_all no_more lists = lists
put_all (more q qs) lists = put q (put_all qs lists)

put_all-new : (qs : Soughts) (lists : List Soughts) → put_all qs (no_more ∷ lists) ≡ qs ∷ lists
put_all-new no_more lists = refl
put_all-new (more q qs) lists = ap (put q) (put_all-new qs lists)

mutual
  pub read-marks : (q : Sought) (ms : List Mark) → read (marks q ms) ≡ put q (read ms)
  read-marks All ms = refl
  read-marks Nothing ms = refl
  read-marks (Word n text) ms = refl
  read-marks (Quoted n text) ms = refl
  read-marks (Prefix n text) ms = refl
  read-marks (Exists n) ms = refl
  read-marks (Range n low high) ms = refl
  read-marks (AnyOf n items) ms = refl
  read-marks (Not q) ms = ap close_not (read-marks q (Ends ∷ ms))
  read-marks (And qs) ms = ap close_and (read-marks_all qs (Ends ∷ ms) ∙ put_all-new qs (read ms))
  read-marks (Or qs) ms = ap close_or (read-marks_all qs (Ends ∷ ms) ∙ put_all-new qs (read ms))

  pub read-marks_all : (qs : Soughts) (ms : List Mark) → read (marks_all qs ms) ≡ put_all qs (read ms)
  read-marks_all no_more ms = refl
  read-marks_all (more q qs) ms = read-marks q (marks_all qs ms) ∙ ap (put q) (read-marks_all qs ms)

pub first-marks : (q : Sought) → first (read (marks q [])) ≡ q
first-marks q = ap first (read-marks q [])

-- a query is stored as its marks are
abbrev pub sought_code : Coded (List Mark) → Coded Sought
sought_code stored = code_by (List Mark) stored (λ q. marks q []) (λ ms. first (read ms)) first-marks
