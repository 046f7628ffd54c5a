-- The line of progress.
use Rattle.std.specs.Prelude.{ℕ, List, ◌++◌, codes}
use Rattle.run_progress.specs.Numbers.{grouped, count_text, taken_text}
use Rattle.run_progress.specs.declared.line.ProgressLine.{ProgressLine}

-- as `12,000 of 100,000 records, 3 splits, 40 replies, 7 s`
abbrev pub line_text : ProgressLine → List ℕ
line_text line = taken_text line.records line.total ++ (codes ", "
    ++ (count_text line.splits (codes "split") (codes "splits") ++ (codes ", "
    ++ (count_text line.replies (codes "reply") (codes "replies") ++ (codes ", "
    ++ (grouped line.seconds ++ codes " s"))))))
