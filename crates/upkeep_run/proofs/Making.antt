-- What is made of the files of planned rows is what a replacement has to be.
use Rattle.std.proofs.Common.{◌≡◌, ℕ, suc, ◌+◌, ◌&&◌, ◌||◌, Bool, true, false, not, cond, List, [], ◌∷◌, ◌++◌, filter, length, map, min, refl, sym, ap, ap₂, ◌∙◌, subst, arith, nat_le, nat_lt}
use Rattle.std.proofs.lemmas.Bool.Decides.{nat_tests}
use Rattle.std.proofs.lemmas.List.{length-append, map-append}
use Rattle.std.proofs.lemmas.List.Sums.{sum_by-cons}
use Rattle.std.specs.List.{AllZip}
use Rattle.std.specs.Prelude.{sum_by}
use Rattle.delete_tasks.specs.Removed.{covered_by, lies_in}
use Rattle.delete_tasks.specs.Removes.{DeleteTask}
use Rattle.index_config.specs.declared.config.IndexConfig.{IndexConfig}
use Rattle.meta_store.specs.History.{history}
use Rattle.meta_store.specs.Ledgers.{ledger}
use Rattle.meta_store.specs.Left.{mark_of}
use Rattle.meta_store.specs.Planning.{worked_row}
use Rattle.meta_store.specs.declared.planning.PlanRow.{PlanRow}
use Rattle.source_checkpoint.specs.Deltas.{range_of}
use Rattle.source_checkpoint.specs.declared.delta.Part.{Part}
use Rattle.source_checkpoint.specs.declared.span.Span.{Span}
use Rattle.source_log.specs.Log.{IsLog, Log}
use Rattle.split_build.specs.Builders.{IsBuilt}
use Rattle.split_build.specs.declared.builder.BuiltSplit.{BuiltSplit}
use Rattle.split_bundle.specs.Documents.{total_weight}
use Rattle.split_bundle.specs.Splits.{IsSplit}
use Rattle.split_bundle.specs.declared.placed.Placed.{Placed}
use Rattle.split_form.specs.Facts.{facts_of as form_facts}
use Rattle.split_merge.specs.Keeping as keeping
use Rattle.split_states.specs.declared.facts.RowFacts.{RowFacts}
use Rattle.split_states.specs.declared.rows.Row.{Row}
use Rattle.index_world.specs.Config.{reads}
use Rattle.index_world.specs.Core.{Core}
use Rattle.index_world.specs.Index.{ranges_of}
use Rattle.index_world.specs.Replacing.{AreFetchedIn, AreFilesOf, WerePlanned, is_dropped_by, joined, left_in}
use Rattle.index_world.specs.Seen.{meaning, place_of, rejected_in}
use Rattle.index_world.specs.SplitFile.{AreSplit, facts_of, file_of, most}
use Rattle.upkeep_run.specs.Ending.{facts_said, rejected_by, rejected_said}
use Rattle.upkeep_run.specs.Judging.{AreSplits}
use Rattle.upkeep_run.specs.Places.{IsHeldMade, IsPlannedFor, IsRowInHand, IsWork, Work, held_facts, held_file, marks_of, rejected_of, row_numbers, until_of}
use Rattle.upkeep_run.specs.Steps.{documents_of, held_of}
use Rattle.upkeep_run.specs.declared.work.Aim.{Aim}
use Rattle.upkeep_run.specs.declared.work.Aim.TheVariants.{Merging}
use Rattle.upkeep_run.proofs.Rejected.{rejected_joined, weights_joined}

-- ---- nothing is dropped up to no task

never : (b : Bool) (k o : ℕ) → (b && (nat_lt k o && nat_le o 0)) ≡ false
never true k o = grind (arith, nat_tests)
never false k o = refl

none_covers : (matches : DeleteTask → Bool) (tasks : List DeleteTask) (k : ℕ) → covered_by matches tasks k 0 ≡ false
none_covers matches [] k = refl
none_covers matches (t ∷ tasks) k = ap₂ ◌||◌ (never (matches t) k t.opstamp) (none_covers matches tasks k)

and_false : (a b : Bool) → b ≡ false → (a && b) ≡ false
and_false true b e = e
and_false false b e = refl

none_dropped : (config : IndexConfig) (tasks : List DeleteTask) (marks : List (Part × ℕ)) (x : Placed) → is_dropped_by config tasks 0 marks x ≡ false
none_dropped config tasks [] x = refl
none_dropped config tasks (mark ∷ marks) x =
    ap₂ ◌||◌ (and_false (lies_in mark.0 (place_of x)) (covered_by ((meaning config).matches x) tasks mark.1 0) (none_covers ((meaning config).matches x) tasks mark.1)) (none_dropped config tasks marks x)

filter_all : (p : Placed → Bool) (ds : List Placed) → ((d : Placed) → p d ≡ true) → filter p ds ≡ ds
filter_all p [] h = refl
filter_all p (d ∷ ds) h = ap (λ b. cond b (d ∷ filter p ds) (filter p ds)) (h d) ∙ ap (λ l. d ∷ l) (filter_all p ds h)

pub left_all : (config : IndexConfig) (tasks : List DeleteTask) (marks : List (Part × ℕ)) (ds : List Placed) → left_in config tasks 0 marks ds ≡ ds
left_all config tasks marks ds = filter_all (λ x. not (is_dropped_by config tasks 0 marks x)) ds (λ x. ap not (none_dropped config tasks marks x))

-- ---- and all documents are kept where no place is dropped

kept_all : (place : ℕ) (ds : List Placed) → keeping.kept_from place [] ds ≡ ds
kept_all place [] = refl
kept_all place (d ∷ ds) = ap (λ l. d ∷ l) (kept_all (suc place) ds)

pub kept_none : (lists : List (List Placed)) → keeping.kept [] (keeping.joined lists) ≡ keeping.joined lists
kept_none lists = kept_all 0 (keeping.joined lists)

joined_alike : (lists : List (List Placed)) → keeping.joined lists ≡ joined lists
joined_alike [] = refl
joined_alike (ds ∷ lists) = ap (λ l. ds ++ l) (joined_alike lists)

pub all_kept : (lists : List (List Placed)) → keeping.kept [] (keeping.joined lists) ≡ joined lists
all_kept lists = kept_all 0 (keeping.joined lists) ∙ joined_alike lists

pub are_splits : (config : IndexConfig) (files : List (List ℕ)) (lists : List (List Placed)) → AreFilesOf config files lists → AreSplits config.schema files lists
are_splits config [] [] h = tt
are_splits config [] (ds ∷ lists) h = absurd h
are_splits config (bytes ∷ files) [] h = absurd h
are_splits config (bytes ∷ files) (ds ∷ lists) h = (subst (λ (bs : List ℕ). IsSplit config.schema bs ds) (sym h.0.0) h.0.1.stands, are_splits config files lists h.1)

-- ---- what is known of planned rows

pub docs_are : (config : IndexConfig) (ds : List Placed) (n : ℕ) → (facts_of config ds n).docs ≡ length ds
unfolding form_facts
docs_are config ds n = refl

pub weight_is : (config : IndexConfig) (ds : List Placed) (n : ℕ) → (facts_of config ds n).weight ≡ total_weight ds
unfolding form_facts
weight_is config ds n = refl

rejected_is : (config : IndexConfig) (ds : List Placed) (n : ℕ) → (facts_of config ds n).rejected ≡ min n most
unfolding form_facts
rejected_is config ds n = refl

abbrev pub with_rejected : ℕ → RowFacts → RowFacts
with_rejected n facts = record facts { rejected = n }

pub rejected_as : (config : IndexConfig) (ds : List Placed) (n : ℕ) → with_rejected (min n most) (facts_of config ds 0) ≡ facts_of config ds n
unfolding form_facts
rejected_as config ds n = refl

module _ (config : IndexConfig) (until : ℕ) (log : Log) (core : Core) where
  abbrev InHand : Row → List Placed → Type 0
  InHand row ds = IsRowInHand config until log core row ds

  pub files_are : (rows : List Row) (lists : List (List Placed)) → AllZip InHand rows lists → AreFilesOf config (map (file_of config) lists) lists
  files_are [] [] h = tt
  files_are [] (ds ∷ lists) h = absurd h
  files_are (row ∷ rows) [] h = absurd h
  files_are (row ∷ rows) (ds ∷ lists) h = ((refl, h.0.split), files_are rows lists h.1)

  pub fetched_are : (rows : List Row) (lists : List (List Placed)) → AllZip InHand rows lists → AreFetchedIn core (row_numbers rows) (map (file_of config) lists)
  fetched_are [] [] h = tt
  fetched_are [] (ds ∷ lists) h = absurd h
  fetched_are (row ∷ rows) [] h = absurd h
  fetched_are (row ∷ rows) (ds ∷ lists) h = (h.0.found, fetched_are rows lists h.1)

  pub planned_are : (rows : List Row) (lists : List (List Placed)) → AllZip InHand rows lists → WerePlanned core.history (row_numbers rows) (map marks_of rows)
  planned_are [] [] h = tt
  planned_are [] (ds ∷ lists) h = absurd h
  planned_are (row ∷ rows) [] h = absurd h
  planned_are (row ∷ rows) (ds ∷ lists) h = (h.0.marks, planned_are rows lists h.1)

  pub as_many : (rows : List Row) (lists : List (List Placed)) → AllZip InHand rows lists → length lists ≡ length rows
  as_many [] [] h = refl
  as_many [] (ds ∷ lists) h = absurd h
  as_many (row ∷ rows) [] h = absurd h
  as_many (row ∷ rows) (ds ∷ lists) h = ap suc (as_many rows lists h.1)

  -- their documents and weights together are those of the rows
  pub count_is : (rows : List Row) (lists : List (List Placed)) → AllZip InHand rows lists → length (joined lists) ≡ sum_by (λ (row : Row). row.facts.docs) rows
  count_is [] [] h = refl
  count_is [] (ds ∷ lists) h = absurd h
  count_is (row ∷ rows) [] h = absurd h
  count_is (row ∷ rows) (ds ∷ lists) h =
      let rest = count_is rows lists h.1 in
      let here : row.facts.docs ≡ length ds = ap (λ (f : RowFacts). f.docs) h.0.facts ∙ docs_are config ds (rejected_in config log (ranges_of row)) in
      let both = length-append ds (joined lists) in
      let sum = sum_by-cons (λ (r : Row). r.facts.docs) row rows in
      omega (arith, rest, here, both, sum)

  pub weights_are : (rows : List Row) (lists : List (List Placed)) → AllZip InHand rows lists → total_weight (joined lists) ≡ sum_by (λ (row : Row). row.facts.weight) rows
  weights_are [] [] h = refl
  weights_are [] (ds ∷ lists) h = absurd h
  weights_are (row ∷ rows) [] h = absurd h
  weights_are (row ∷ rows) (ds ∷ lists) h =
      let rest = weights_are rows lists h.1 in
      let here : row.facts.weight ≡ total_weight ds = ap (λ (f : RowFacts). f.weight) h.0.facts ∙ weight_is config ds (rejected_in config log (ranges_of row)) in
      let both = weights_joined ds (joined lists) in
      let sum = sum_by-cons (λ (r : Row). r.facts.weight) row rows in
      omega (arith, rest, here, both, sum)

  ranges_are : (spans : List Span) → map (λ (mark : Part × ℕ). mark.0) (map mark_of spans) ≡ map range_of spans
  ranges_are [] = refl
  ranges_are (s ∷ spans) = ap (λ l. range_of s ∷ l) (ranges_are spans)

  abbrev ranges_in : List Row → List Part
  ranges_in rows = map (λ (mark : Part × ℕ). mark.0) (joined (map marks_of rows))

  -- THE RECORDS THAT ARE NO DOCUMENTS: what the rows say together is what is rejected of all their ranges, up to the greatest count
  pub rejected_together : (rows : List Row) (lists : List (List Placed)) → IsLog log → AllZip InHand rows lists → min (rejected_of rows) most ≡ min (rejected_in config log (ranges_in rows)) most
  rejected_together [] [] is h = refl
  rejected_together [] (ds ∷ lists) is h = absurd h
  rejected_together (row ∷ rows) [] is h = absurd h
  rejected_together (row ∷ rows) (ds ∷ lists) is h =
      let rest = rejected_together rows lists is h.1 in
      let here : row.facts.rejected ≡ min (rejected_in config log (ranges_of row)) most = ap (λ (f : RowFacts). f.rejected) h.0.facts ∙ rejected_is config ds (rejected_in config log (ranges_of row)) in
      let sum = sum_by-cons (λ (r : Row). r.facts.rejected) row rows in
      let split : ranges_in (row ∷ rows) ≡ ranges_of row ++ ranges_in rows = map-append (λ (mark : Part × ℕ). mark.0) (marks_of row) (joined (map marks_of rows)) ∙ ap (λ l. l ++ ranges_in rows) (ranges_are row.spans) in
      let both : rejected_in config log (ranges_in (row ∷ rows)) ≡ rejected_in config log (ranges_of row) + rejected_in config log (ranges_in rows) =
      ap (rejected_in config log) split ∙ rejected_joined config log (ranges_of row) (ranges_in rows) is in
      sums row.facts.rejected (rejected_in config log (ranges_of row)) (rejected_of rows) (rejected_in config log (ranges_in rows)) (rejected_of (row ∷ rows)) (rejected_in config log (ranges_in (row ∷ rows))) here rest sum both
    where
      sums : (a x b y c z : ℕ) → a ≡ min x most → min b most ≡ min y most → c ≡ a + b → z ≡ x + y → min c most ≡ min z most
      sums a x b y c z e f g h = omega (arith, e, f, g, h)

-- ---- what the plan says of them

pub sum_said : (rows : List Row) → sum_by (λ (row : PlanRow). rejected_by row.work) (map worked_row rows) ≡ rejected_of rows
sum_said [] = refl
sum_said (row ∷ rows) =
    let rest = sum_said rows in
    let one = sum_by-cons (λ (r : PlanRow). rejected_by r.work) (worked_row row) (map worked_row rows) in
    let other = sum_by-cons (λ (r : Row). r.facts.rejected) row rows in
    omega (arith, rest, one, other)

pub no_numbers : (rows : List Row) → row_numbers rows ≡ [] → rows ≡ []
no_numbers [] e = refl
no_numbers (row ∷ rows) e = cc e

-- ---- a split that was made of all their documents

-- whatever documents the files stand for, it is built of all of them
abbrev pub IsBuiltOf : IndexConfig → List (List ℕ) → BuiltSplit → Type 0
IsBuiltOf config files built = (lists : List (List Placed)) → AreFilesOf config files lists →
    IsBuilt config.schema (joined lists) built × (built.bytes ≡ file_of config (joined lists)) × (built.facts ≡ facts_of config (joined lists) 0)

module _ (log : Log) (core : Core) (work : Work) (built : BuiltSplit) (is : IsLog log) (w : IsWork log core work) (made : IsBuiltOf work.config (map (file_of work.config) work.contents) built) where
  abbrev files : List (List ℕ)
  files = map (file_of work.config) work.contents

  own : AreFilesOf work.config files work.contents
  own = files_are work.config (until_of work) log core work.rows work.contents w.each

  pub file_held : built.bytes ≡ held_file (held_of Merging work core 0)
  file_held = (made work.contents own).1

  -- its facts, with the records that are no documents
  pub facts_held : (rows : List PlanRow) → rows ≡ map worked_row work.rows → facts_said rows built ≡ held_facts (held_of Merging work core 0)
  facts_held rows same =
      ap (λ n. with_rejected n built.facts) (ap (λ (l : List PlanRow). rejected_said l) same ∙ ap (λ n. min n most) (sum_said work.rows))
      ∙ ap (with_rejected (min (rejected_of work.rows) most)) (made work.contents own).2
      ∙ rejected_as work.config (documents_of work) (rejected_of work.rows)

  module _ (number : ℕ) (aim : Aim) (for_aim : IsPlannedFor aim work) where
    tasks : List DeleteTask
    tasks = (ledger reads (history core.history)).tasks

    marks : List (Part × ℕ)
    marks = joined (map marks_of work.rows)

    all_left : (ts : List DeleteTask) (lists : List (List Placed)) → left_in work.config ts 0 (joined (map marks_of work.rows)) (joined lists) ≡ joined lists
    all_left ts lists = left_all work.config ts (joined (map marks_of work.rows)) (joined lists)

    -- WHAT A MERGE MAKES is what its Replace needs
    pub merge_is_made : IsHeldMade log core (held_of Merging work core number)
    merge_is_made =
        record {
          some = λ none. for_aim.some (no_numbers work.rows none);
          apart = for_aim.apart;
          files = files;
          marks = map marks_of work.rows;
          fetched = fetched_are work.config (until_of work) log core work.rows work.contents w.each;
          planned = planned_are work.config (until_of work) log core work.rows work.contents w.each;
          known = omega arith;
          made =
              record {
                file = λ lists are. sym file_held ∙ (made lists are).1 ∙ ap (file_of work.config) (sym (all_left (ledger reads (history core.history)).tasks lists));
                agree = λ lists are.
                    sym (rejected_as work.config (documents_of work) (rejected_of work.rows))
                    ∙ ap (with_rejected (min (rejected_of work.rows) most)) (sym (made work.contents own).2 ∙ (made lists are).2)
                    ∙ rejected_as work.config (joined lists) (rejected_of work.rows)
                    ∙ ap (λ n. form_facts work.config.schema (joined lists) n) (rejected_together work.config (until_of work) log core work.rows work.contents is w.each)
                    ∙ ap (λ (ds : List Placed). facts_of work.config ds (rejected_in work.config log (map (λ (mark : Part × ℕ). mark.0) (joined (map marks_of work.rows))))) (sym (all_left (ledger reads (history core.history)).tasks lists));
                split = λ lists are.
                    let b = made lists are in
                    subst (AreSplit work.config) (sym (all_left (ledger reads (history core.history)).tasks lists))
                    (record { stands = subst (λ (bs : List ℕ). IsSplit work.config.schema bs (joined lists)) b.1 b.0.split; few = b.0.within.few });
              };
        }
