-- What is counted of rows, one row behind the other.
use Rattle.std.specs.Prelude.{◌+◌, List}
use Rattle.split_states.specs.declared.rows.RowState.{RowState}
use Rattle.split_states.specs.declared.rows.RowState.TheVariants.{Staged, Published, Marked}
use Rattle.split_states.specs.declared.rows.Row.{Row}
use Rattle.split_states.specs.declared.facts.RowFacts.{RowFacts}
use Rattle.split_states.specs.Rows.{is_published}
use Rattle.index_report.specs.declared.counts.Counts.{Counts}
use Rattle.index_report.specs.Reports.{count_of, is_staged, is_marked, docs_of, rejected_of}

abbrev pub counts_of : List Row → Counts
counts_of rows = record {
  staged = count_of is_staged rows;
  published = count_of is_published rows;
  marked = count_of is_marked rows;
  docs = docs_of rows;
  rejected = rejected_of rows;
}

-- the counts with one more row
abbrev pub counted : RowState → RowFacts → Counts → Counts
counted Staged facts c = record c { staged = c.staged + 1 }
counted Published facts c = record c { published = c.published + 1; docs = c.docs + facts.docs; rejected = c.rejected + facts.rejected }
counted Marked facts c = record c { marked = c.marked + 1 }
