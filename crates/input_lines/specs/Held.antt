-- What a reader of lines has in hand.
use Rattle.std.specs.Prelude.{ℕ, List, slice_range}
use Rattle.input_lines.specs.declared.lines.Lines.{Lines}

-- what was read of the input and not yet taken
abbrev pub held : Lines → List ℕ
held lines = slice_range lines.chunk.items lines.from lines.to
