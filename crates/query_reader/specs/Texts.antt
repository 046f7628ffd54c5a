-- The texts that parts of a query text stand for.
use Rattle.std.specs.Prelude.{ℕ, ◌==◌, Bool, true, false, List, [], ◌∷◌, slice_range, if◌then◌else◌}
use Rattle.std.specs.Str.Lossy.{utf8_lossy}
use Rattle.query_reader.specs.declared.tree.Span.{Span}

-- the bytes without the backslashes that hide a byte; whether one stands before the first
abbrev pub unescaped_from : Bool → List ℕ → List ℕ
unescaped_from hidden [] = []
unescaped_from true (c ∷ cs) = c ∷ unescaped_from false cs
unescaped_from false (c ∷ cs) = if c == 92 then unescaped_from true cs else c ∷ unescaped_from false cs

abbrev pub unescaped : List ℕ → List ℕ
unescaped = unescaped_from false

-- the text of a word or of what stands between quotation marks
abbrev pub text_at : List ℕ → Span → List ℕ
text_at text s = utf8_lossy (unescaped (slice_range text s.from s.to))

-- the text of a run, where a backslash hides nothing
abbrev pub run_at : List ℕ → Span → List ℕ
run_at text s = utf8_lossy (slice_range text s.from s.to)
