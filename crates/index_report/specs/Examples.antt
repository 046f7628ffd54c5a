-- Reports that were worked out by hand, each over the state of a history.
use Rattle.std.specs.Prelude.{◌≡◌, ℕ, pos, negsuc, List, [], ◌∷◌, ◌++◌, None, Some, codes, refl}
use Rattle.std.specs.Fmt.{digits}
use Rattle.source_checkpoint.specs.declared.delta.Part.{Part}
use Rattle.split_states.specs.declared.facts.RowFacts.{RowFacts}
use Rattle.split_states.specs.declared.rows.RowState.TheVariants.{Marked}
use Rattle.split_states.specs.declared.rows.Row.{Row}
use Rattle.meta_journal.specs.declared.entry.Entry.{Entry}
use Rattle.meta_journal.specs.declared.entry.Act.TheVariants.{Create, Stage, Publish, Replace, Task as AddTask}
use Rattle.meta_store.specs.History.{at, history}
use Rattle.meta_store.specs.Readings.{Reads}
use Rattle.meta_store.specs.Rows.{rows}
use Rattle.meta_store.specs.State.{state_of}
use Rattle.index_report.specs.Reports.{row_line, splits_text, describe_text}

abbrev facts : (docs rejected : ℕ) → RowFacts
facts docs rejected = record { docs = docs; rejected = rejected; weight = 0; size = 0; digest = []; times = None; tags = [] }

abbrev range : List ℕ → (from to : ℕ) → Part
range name from to = record { partition = name; from = from; to = to }

-- three records of p0, of which one is refused
abbrev published : List Entry
published = at 0 (Create []) ∷ at 1000 (Stage 1 (range (codes "p0") 0 3 ∷ []) (facts 2 1)) ∷ at 1000 (Publish 1) ∷ []

pub splits_of_published : splits_text (rows (history published)) ≡ codes "1 published docs 2 rejected 1 merges 0 times none spans p0:0-3:0:0\n"
unfolding digits splits_text
splits_of_published = refl

pub index_of_published : (reads : Reads) → describe_text (state_of reads (history published))
    ≡ codes "revision 3\nopstamp 0\nstaged 0 published 1 marked 0\ndocs 2 rejected 1\ncheckpoint p0 3\n"
unfolding digits describe_text
index_of_published reads = refl

-- a record of p1 is published, and one of p0 is staged behind it: p0 has no checkpoint yet, and its documents do not count
abbrev half : List Entry
half =
    at 0 (Create []) ∷ at 1000 (Stage 1 (range (codes "p1") 0 1 ∷ []) (facts 1 0)) ∷ at 1000 (Publish 1)
    ∷ at 1000 (Stage 2 (range (codes "p0") 0 1 ∷ []) (facts 1 0)) ∷ []

pub splits_of_half : splits_text (rows (history half))
    ≡ codes "1 published docs 1 rejected 0 merges 0 times none spans p1:0-1:0:0\n" ++ codes "2 staged docs 1 rejected 0 merges 0 times none spans p0:0-1:0:0\n"
unfolding digits splits_text
splits_of_half = refl

pub index_of_half : (reads : Reads) → describe_text (state_of reads (history half))
    ≡ codes "revision 4\nopstamp 0\nstaged 1 published 1 marked 0\ndocs 1 rejected 0\ncheckpoint p1 1\n"
unfolding digits describe_text
index_of_half reads = refl

-- a task comes between two splits, they are merged, and then the task is applied, which removes the document of p0
abbrev merged : List Entry
merged =
    at 0 (Create []) ∷ at 1000 (Stage 1 (range (codes "p0") 0 1 ∷ []) (facts 1 0)) ∷ at 1000 (Publish 1)
    ∷ at 1000 (AddTask 1 [] [] (record { start = None; end = None }))
    ∷ at 1000 (Stage 2 (range (codes "p1") 0 1 ∷ []) (facts 1 0)) ∷ at 1000 (Publish 2)
    ∷ at 1000 (Stage 3 [] (facts 2 0)) ∷ at 1000 (Replace 3 (1 ∷ 2 ∷ []) 0) ∷ at 1000 (Stage 4 [] (facts 1 0)) ∷ at 1000 (Replace 4 (3 ∷ []) 1) ∷ []

pub splits_of_merged : splits_text (rows (history merged))
    ≡ codes "1 marked docs 1 rejected 0 merges 0 times none spans p0:0-1:0:0\n" ++ codes "2 marked docs 1 rejected 0 merges 0 times none spans p1:0-1:1:1\n"
    ++ codes "3 marked docs 2 rejected 0 merges 1 times none spans p0:0-1:0:0 p1:0-1:1:1\n"
    ++ codes "4 published docs 1 rejected 0 merges 1 times none spans p0:0-1:0:1 p1:0-1:1:1\n"
unfolding digits splits_text
splits_of_merged = refl

pub index_of_merged : (reads : Reads) → describe_text (state_of reads (history merged))
    ≡ codes "revision 10\nopstamp 1\nstaged 0 published 1 marked 3\ndocs 1 rejected 0\ncheckpoint p0 1\ncheckpoint p1 1\n"
unfolding digits describe_text
index_of_merged reads = refl

-- a row with times and without spans
abbrev dated : Row
dated =
    record {
      number = 12;
      state = Marked;
      spans = [];
      facts = record { docs = 7; rejected = 0; weight = 0; size = 0; digest = []; times = Some (record { least = negsuc 0; greatest = pos 1700000000 }); tags = [] };
      staged_at = 1000;
      marked_at = 1200;
      merge_ops = 0;
    }

pub line_of_dated : row_line dated ≡ codes "12 marked docs 7 rejected 0 merges 0 times -1..1700000000 spans none\n"
unfolding digits
line_of_dated = refl
