-- The rows of a plan are in hand.
use Rattle.std.proofs.Common.{◌≡◌, ℕ, ◌+◌, ◌≤◌, List, [], ◌∷◌, length, map, refl, sym, ap, ◌∙◌, subst, inl, arith, true, Option, Some}
use Rattle.std.specs.List.{AllByRecursion, AllZip}
use Rattle.std.specs.Option.{IfSome}
use Rattle.doc_value.specs.Documents.{IsDynamic}
use Rattle.index_config.specs.declared.config.IndexConfig.{IndexConfig}
use Rattle.merge_policy.specs.Choice.{FitsSplit}
use Rattle.meta_store.proofs.Current.{tasks_agree}
use Rattle.meta_store.proofs.Numbers.{each_found}
use Rattle.meta_store.proofs.RowLists.{AllOf-both}
use Rattle.meta_store.proofs.Sound.{sound}
use Rattle.meta_store.proofs.Tallied.{tallied}
use Rattle.meta_store.specs.History.{history, last_opstamp}
use Rattle.meta_store.specs.Laws.{NumberedFrom}
use Rattle.meta_store.specs.Ledgers.{ledger}
use Rattle.meta_store.specs.Readings.{config_of}
use Rattle.meta_store.specs.Rows.{rows}
use Rattle.meta_store.specs.Tasks.{tasks_of}
use Rattle.source_log.specs.Log.{Log}
use Rattle.split_states.specs.Rows.{is_published, row_at}
use Rattle.split_states.specs.declared.rows.Row.{Row}
use Rattle.split_states.specs.declared.rows.RowState.{RowState}
use Rattle.split_states.specs.declared.rows.RowState.TheVariants.{Marked, Published, Staged}
use Rattle.index_world.proofs.Asking.{begun_history}
use Rattle.index_world.proofs.Configured.{configured-unread}
use Rattle.index_world.proofs.InCore.{plan_begins}
use Rattle.index_world.proofs.Numbers.{revision_is}
use Rattle.index_world.proofs.Replaced.{marks_begin}
use Rattle.index_world.proofs.StoreChanges.{All-each}
use Rattle.index_world.specs.Config.{reads}
use Rattle.index_world.specs.Configuration.{config_or, configuration, index_of}
use Rattle.index_world.specs.Core.{Core, IsConfigured, journal_of}
use Rattle.index_world.specs.Gate.{IsSoundCore}
use Rattle.index_world.specs.Index.{IsRowKept, ranges_of}
use Rattle.index_world.specs.Seen.{rejected_in}
use Rattle.std.proofs.lemmas.List.Sums.{sum_by-cons}
use Rattle.split_bundle.specs.Documents.{total_weight}
use Rattle.split_states.specs.declared.facts.RowFacts.{RowFacts}
use Rattle.upkeep_run.specs.Dropping.{AreAsked}
use Rattle.upkeep_run.proofs.Asked.{tasks_asked}
use Rattle.upkeep_run.proofs.Making.{docs_are, weight_is}
use Rattle.upkeep_run.specs.Places.{IsPlannedFor, IsRowInHand, IsWork}
use Rattle.upkeep_run.specs.Steps.{config_in, contents_in, rows_in, work_in}
use Rattle.upkeep_run.specs.declared.work.Aim.{Aim}
use Rattle.upkeep_run.specs.declared.work.Aim.TheVariants.{Deleting, Merging}
use Rattle.upkeep_run.proofs.Holding.{sound_legal}
use Rattle.upkeep_run.proofs.PlannedOnce.{delete_once, merge_once, rows_apart}
use Rattle.upkeep_run.proofs.PlannedRows.{delete_rows, merge_rows}

published_state : (state : RowState) → is_published state ≡ true → state ≡ Published
published_state Staged e = absurd cc
published_state Published e = refl
published_state Marked e = absurd cc

-- ---- the configuration

pub seen_config : (core : Core) (log : Log) → IsSoundCore core log → configuration core.history ≡ Some (config_in core)
seen_config core log s =
    let some = s.opened in
    let b = begun_history (history core.history) (sound_legal core log s) (let e = revision_is core.history in omega (arith, some, e)) in
    let is : configuration core.history ≡ Some b.config.settings.index = ap index_of b.is in
    is ∙ ap Some (sym (ap config_or is))

pub config_stands : (core : Core) (log : Log) → IsSoundCore core log → IsConfigured (config_in core) core
config_stands core log s = configured-unread s.kept core log (config_in core) s.world (seen_config core log s)

pub same_config : (o : Option IndexConfig) (one other : IndexConfig) → o ≡ Some one → o ≡ Some other → one ≡ other
same_config o one other e f = cc

pub config_is : (core : Core) (log : Log) (config : IndexConfig) → IsSoundCore core log → IsConfigured config core → config_in core ≡ config
config_is core log config s i = same_config (configuration (journal_of core)) (config_in core) config (config_stands core log s) i

-- ---- the rows

module _ (core : Core) (log : Log) (s : IsSoundCore core log) where
  abbrev config : IndexConfig
  config = config_in core

  abbrev until : ℕ
  until = core.moment + config.deletion_grace

  abbrev IsFound : Row → Type 0
  IsFound row = row_at (rows (history core.history)) row.number ≡ Some row

  abbrev IsKept : Row → Type 0
  IsKept row = IsRowKept s.kept config (ledger reads (history core.history)).tasks log (history core.history) row

  abbrev InHand : Row → Type 0
  InHand row = IsRowInHand config until log core row (contents_in log core row)

  in_hand : (row : Row) → IsFound row × IsKept row → is_published row.state ≡ true → InHand row
  in_hand row b shown =
      let state = published_state row.state shown in
      let begun = plan_begins s.kept core log config row.number row s.world (seen_config core log s) b.0 state in
      let sound_row = b.1.published state in
      record { planned = begun.2; found = inl begun.0; marks = marks_begin core.history row.number row (sound_legal core log s) b.0 state; facts = sound_row.facts; split = sound_row.split }

  each_row : AllByRecursion (λ row. IsFound row × (is_published row.state ≡ true → InHand row)) (rows (history core.history))
  each_row =
      let apart = (sound reads (history core.history) (sound_legal core log s)).held.apart in
      All-each (λ row. IsFound row × IsKept row) (λ row. IsFound row × (is_published row.state ≡ true → InHand row)) (rows (history core.history)) (λ row b. (b.0, in_hand row b))
      (AllOf-both IsFound IsKept (rows (history core.history)) (each_found (rows (history core.history)) apart) (s.world.taken config (seen_config core log s)))

  zipped : (list : List Row) → AllByRecursion InHand list → AllZip (IsRowInHand config until log core) list (map (contents_in log core) list)
  zipped [] h = tt
  zipped (row ∷ list) h = (h.0, zipped list h.1)

  -- what one row says is no more than a split can hold
  one_fits : (list : List Row) → AllByRecursion InHand list → length list ≤ 1 → FitsSplit list
  one_fits [] h le = record { docs = omega arith; weight = omega arith }
  one_fits (row ∷ other ∷ list) h le = absurd (omega (arith, le))
  one_fits (row ∷ []) h le =
      let few = h.0.split.few in
      let light = h.0.split.stands.is_split.are_documents.light in
      let docs : row.facts.docs ≡ length (contents_in log core row) = ap (λ (f : RowFacts). f.docs) h.0.facts ∙ docs_are config (contents_in log core row) (rejected_in config log (ranges_of row)) in
      let weight : row.facts.weight ≡ total_weight (contents_in log core row) = ap (λ (f : RowFacts). f.weight) h.0.facts ∙ weight_is config (contents_in log core row) (rejected_in config log (ranges_of row)) in
      let one = sum_by-cons (λ (r : Row). r.facts.docs) row [] in
      let other = sum_by-cons (λ (r : Row). r.facts.weight) row [] in
      record { docs = omega (arith, few, docs, one); weight = omega (arith, light, weight, other) }

  -- the tasks that stand are numbered, and each of them can be asked
  all_numbered : NumberedFrom 1 (ledger reads (history core.history)).tasks
  all_numbered = subst (NumberedFrom 1) (sym (tasks_agree reads (history core.history))) (tallied reads (history core.history) (sound_legal core log s)).numbered

  all_asked : IfSome (config_in core).schema.dynamic (IsDynamic (config_in core).schema.fields) → AreAsked (config_in core).schema (ledger reads (history core.history)).tasks
  all_asked dynamic =
      let some = s.opened in
      let begun = begun_history (history core.history) (sound_legal core log s) (let e = revision_is core.history in omega (arith, some, e)) in
      let here : begun.config.settings.index ≡ config_in core =
      same_config (configuration core.history) begun.config.settings.index (config_in core) (ap index_of begun.is) (seen_config core log s) in
      let asked = tasks_asked (history core.history) begun.config (subst (λ (c : IndexConfig). IfSome c.schema.dynamic (IsDynamic c.schema.fields)) (sym here) dynamic) (sound_legal core log s) begun.is in
      subst (AreAsked (config_in core).schema) (sym (tasks_agree reads (history core.history))) (subst (λ (c : IndexConfig). AreAsked c.schema (tasks_of reads (history core.history))) here asked)

  -- WHAT IS PLANNED is work in hand
  pub plan_is_work : (aim : Aim) → IsWork log core (work_in aim log core)
  plan_is_work Merging =
      let r = merge_rows InHand (rows (history core.history)) each_row (config_of reads (history core.history)) core.moment (last_opstamp (history core.history)) in
      record { configured = config_stands core log s; each = zipped (rows_in Merging core) r.0; fits = r.1; few = r.2; known = omega arith; numbered = all_numbered; asked = all_asked; covers = λ x n. refl }
  plan_is_work Deleting =
      let r = delete_rows InHand (rows (history core.history)) each_row (config_of reads (history core.history)) core.moment (last_opstamp (history core.history)) in
      let few = r.1 in
      record { configured = config_stands core log s; each = zipped (rows_in Deleting core) r.0; fits = one_fits (rows_in Deleting core) r.0 few; few = omega (arith, few); known = omega arith; numbered = all_numbered; asked = all_asked; covers = λ x n. refl }

  -- each of its rows once, and of deletes one
  pub plan_is_for : (aim : Aim) → (rows_in aim core ≡ [] → ⊥) → IsPlannedFor aim (work_in aim log core)
  plan_is_for Merging some =
      let apart = (sound reads (history core.history) (sound_legal core log s)).held.apart in
      record {
        some = some;
        apart = merge_once (rows (history core.history)) (rows_apart (rows (history core.history)) apart) (each_found (rows (history core.history)) apart) (config_of reads (history core.history)) core.moment (last_opstamp (history core.history));
        one = tt;
        for_it = refl;
      }
  plan_is_for Deleting some =
      record {
        some = some;
        apart = delete_once (rows (history core.history)) (config_of reads (history core.history)) core.moment (last_opstamp (history core.history));
        one = (delete_rows InHand (rows (history core.history)) each_row (config_of reads (history core.history)) core.moment (last_opstamp (history core.history))).1;
        for_it = refl;
      }
