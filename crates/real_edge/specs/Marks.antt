-- Known places of files.
use Rattle.std.specs.Prelude.{ℕ, List, All}
use Rattle.real_edge.specs.Growing.{Grown, bytes_of}
use Rattle.real_edge.specs.Lines.{IsMark}
use Rattle.real_edge.specs.declared.marks.Places.{Places}
use Rattle.real_edge.specs.declared.marks.Marks.{Marks}

-- at each of these places of its file a record begins
abbrev pub AreMarksOf : List Grown → Places → Type 0
AreMarksOf files places = All (IsMark (bytes_of files places.partition)) places.marks.items

abbrev pub AreMarks : List Grown → Marks → Type 0
AreMarks files marks = All (AreMarksOf files) marks.held.items
