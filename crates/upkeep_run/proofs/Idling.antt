-- When a step has nothing to do.
use Rattle.std.proofs.Common.{◌≡◌, ℕ, zero, suc, ◌≤◌, ◌&&◌, Bool, true, false, cond, List, [], ◌∷◌, find, length, min, refl, sym, ap, ◌∙◌, subst, arith, Ok, Err, Option, Some, None, Result}
use Rattle.std.specs.Prelude.{⊤, ◌↔◌, nat_le, option_to_list}
use Rattle.std.specs.Option.{option_map, option_or}
use Rattle.std.specs.List.{AllByRecursion}
use Rattle.std.proofs.lemmas.Bool.{and_parts, leb-true}
use Rattle.index_config.specs.declared.config.Policy.{Policy}
use Rattle.merge_policy.specs.Choice.{max_merge_factor, merge_factor, level_rows}
use Rattle.merge_policy.specs.Chosen.{chosen, fitting, given, in_order, least_given, level_count, merge_of}
use Rattle.meta_store.proofs.Numbers.{each_found}
use Rattle.meta_store.proofs.Sound.{sound}
use Rattle.meta_store.specs.History.{history, last_opstamp}
use Rattle.meta_store.specs.Planning.{config_fits, is_behind, rows_for, rows_of}
use Rattle.meta_store.specs.Readings.{config_of}
use Rattle.meta_store.specs.Rows.{rows}
use Rattle.meta_store.specs.State.{Legal}
use Rattle.meta_store.specs.declared.config.Config.{Config}
use Rattle.meta_store.specs.declared.planning.Choice.TheVariants as choices
use Rattle.source_log.specs.Log.{Log}
use Rattle.split_states.specs.Rows.{row_at, row_numbers}
use Rattle.split_states.specs.declared.rows.Row.{Row}
use Rattle.index_world.specs.Calls.{Trouble, asked_and_looked, faulted, no_memory}
use Rattle.index_world.specs.Config.{reads}
use Rattle.index_world.specs.Core.{Core}
use Rattle.upkeep_run.specs.Outcomes as said
use Rattle.upkeep_run.specs.Outcomes.{UpkeepOutcome}
use Rattle.upkeep_run.specs.Places.{Work, idle}
use Rattle.upkeep_run.specs.Steps.{WorkerLuck, or_short, plan_by, plan_with, rows_in, step_worker, work_in}
use Rattle.upkeep_run.specs.declared.work.Aim.{Aim}
use Rattle.upkeep_run.specs.declared.work.Aim.TheVariants.{Deleting, Merging}
use Rattle.upkeep_run.proofs.PlannedRows.{FitIf, least_fit, named}

-- ---- a step

abbrev pub HadNone : Aim → Bool → Result ⊤ Trouble → Core → Type 0
HadNone aim short answer core = (short ≡ false) × (answer ≡ Ok tt) × (rows_in aim core ≡ [])

no_plan : (rows : List Row) (work : Work) (core : Core) → (plan_with rows work core).outcome ≡ Some said.Nothing → rows ≡ []
no_plan [] work core e = refl
no_plan (row ∷ rows) work core e = cc

no_trouble : (aim : Aim) (trouble : Trouble) (log : Log) (core : Core) → (plan_by aim (Err trouble) log core).outcome ≡ Some said.Nothing → ⊥
no_trouble aim (faulted fault) log core e = cc
no_trouble aim no_memory log core e = cc

had_none : (aim : Aim) (short : Bool) (answer : Result ⊤ Trouble) (log : Log) (core : Core) → (or_short short (plan_by aim answer log core)).outcome ≡ Some said.Nothing → HadNone aim short answer core
had_none aim true answer log core e = cc
had_none aim false (Ok done) log core e = (refl, refl, no_plan (rows_in aim core) (work_in aim log core) core e)
had_none aim false (Err trouble) log core e = absurd (no_trouble aim trouble log core e)

says_none : (aim : Aim) (short : Bool) (answer : Result ⊤ Trouble) (log : Log) (core : Core) → HadNone aim short answer core → (or_short short (plan_by aim answer log core)).outcome ≡ Some said.Nothing
says_none aim true answer log core h = absurd (never h.0)
  where
    never : true ≡ false → ⊥
    never e = cc
says_none aim false (Ok done) log core h = ap (λ rs. (plan_with rs (work_in aim log core) core).outcome) h.2
says_none aim false (Err trouble) log core h = absurd (never h.1)
  where
    never : ◌≡◌ {A = Result ⊤ Trouble} (Err trouble) (Ok tt) → ⊥
    never e = cc

pub nothing_is : (aim : Aim) (luck : WorkerLuck) (log : Log) (core : Core) →
    ((step_worker aim luck log idle core).outcome ≡ Some said.Nothing) ↔ HadNone aim luck.short (asked_and_looked luck.world core).answer (asked_and_looked luck.world core).core
nothing_is aim luck log core = (
  had_none aim luck.short (asked_and_looked luck.world core).answer log (asked_and_looked luck.world core).core,
  says_none aim luck.short (asked_and_looked luck.world core).answer log (asked_and_looked luck.world core).core,
)

-- ---- the choice of a merge has several rows

several_merged : (factor greatest : ℕ) (level merged : List Row) → merge_of factor greatest level ≡ Some merged → 2 ≤ length merged
several_merged factor greatest level merged e = by (nat_le factor (length level) && nat_le 2 (length fit)) refl e
  where
    fit : List Row
    fit = fitting (min greatest (length level)) level

    by : (b : Bool) → (nat_le factor (length level) && nat_le 2 (length (fitting (min greatest (length level)) level))) ≡ b → cond b (Some (fitting (min greatest (length level)) level)) None ≡ Some merged → 2 ≤ length merged
    by true t s =
        let same : fitting (min greatest (length level)) level ≡ merged = cc s in
        let long = leb-true 2 (length (fitting (min greatest (length level)) level)) (and_parts (nat_le factor (length level)) _ t).1 in
        let as_long = ap (λ (l : List Row). length l) same in
        omega (arith, long, as_long)
    by false t s = cc

several_least : (policy : Policy) (target now : ℕ) (list : List Row) (k count : ℕ) (merged : List Row) → least_given policy target now list k count ≡ Some merged → 2 ≤ length merged
several_least policy target now list k zero merged e = cc
several_least policy target now list k (suc count) merged e = by (given policy target now list k) refl e (several_least policy target now list (suc k) count merged)
  where
    by : (o : Option (List Row)) → given policy target now list k ≡ o → option_or o (least_given policy target now list (suc k) count) ≡ Some merged →
        (least_given policy target now list (suc k) count ≡ Some merged → 2 ≤ length merged) → 2 ≤ length merged
    by None g s rest = rest s
    by (Some found) g s rest = several_merged (merge_factor policy) (max_merge_factor policy) (in_order (level_rows policy target now list k)) merged (g ∙ s)

module _ (core : Core) (config : Config) (legal : Legal reads (history core.history)) (is : config_of reads (history core.history) ≡ Some config) (fits : config_fits config.settings.index ≡ true) where
  abbrev all : List Row
  all = rows (history core.history)

  abbrev pub choice : Option (List ℕ)
  choice = chosen config.settings.index.policy config.settings.index.docs_target core.moment (rows (history core.history))

  merge_rows_are : rows_in Merging core ≡ rows_of (rows (history core.history)) (chosen config.settings.index.policy config.settings.index.docs_target core.moment (rows (history core.history)))
  merge_rows_are =
      ap (λ (c : Option Config). rows_for c choices.Merge core.moment (last_opstamp (history core.history)) (rows (history core.history))) is
      ∙ ap (λ b. cond b (rows_of (rows (history core.history)) (chosen config.settings.index.policy config.settings.index.docs_target core.moment (rows (history core.history)))) []) fits

  own : AllByRecursion (λ row. row_at (rows (history core.history)) row.number ≡ Some row) (rows (history core.history))
  own = each_found (rows (history core.history)) (sound reads (history core.history) legal).held.apart

  none_chosen : (o : Option (List Row)) → least_given config.settings.index.policy config.settings.index.docs_target core.moment (rows (history core.history)) 0 (level_count (rows (history core.history))) ≡ o →
      rows_of (rows (history core.history)) (option_map row_numbers o) ≡ [] → option_map row_numbers o ≡ None
  none_chosen None e empty = refl
  none_chosen (Some merged) e empty =
      let several = several_least config.settings.index.policy config.settings.index.docs_target core.moment (rows (history core.history)) 0 (level_count (rows (history core.history))) merged e in
      let found = subst (λ (o : Option (List Row)). FitFound o) e (least_fit (λ row. row_at (rows (history core.history)) row.number ≡ Some row) (λ row. row_at (rows (history core.history)) row.number ≡ Some row) config.settings.index.policy config.settings.index.docs_target core.moment (rows (history core.history)) (λ row shown p. p) own 0 (level_count (rows (history core.history)))) in
      let same = named (rows (history core.history)) merged found.0 in
      let none = ap (λ (l : List Row). length l) (sym same ∙ empty) in
      absurd (omega (arith, several, none))
    where
      FitFound : Option (List Row) → Type 0
      FitFound o = FitIf (max_merge_factor config.settings.index.policy) (λ row. row_at (rows (history core.history)) row.number ≡ Some row) o

  pub merge_none : (rows_in Merging core ≡ []) ↔ (chosen config.settings.index.policy config.settings.index.docs_target core.moment (rows (history core.history)) ≡ None)
  merge_none = (
    λ empty. none_chosen (least_given config.settings.index.policy config.settings.index.docs_target core.moment (rows (history core.history)) 0 (level_count (rows (history core.history)))) refl (sym merge_rows_are ∙ empty),
    λ none. merge_rows_are ∙ ap (λ (o : Option (List ℕ)). rows_of (rows (history core.history)) o) none,
  )

-- ---- the row of deletes

none_found : (last : ℕ) (list : List Row) → option_to_list (find (is_behind last) list) ≡ [] → AllByRecursion (λ row. is_behind last row ≡ false) list
none_found last [] e = tt
none_found last (row ∷ list) e = by (is_behind last row) refl e (none_found last list)
  where
    by : (b : Bool) → is_behind last row ≡ b → option_to_list (cond b (Some row) (find (is_behind last) list)) ≡ [] →
        (option_to_list (find (is_behind last) list) ≡ [] → AllByRecursion (λ r. is_behind last r ≡ false) list) → (is_behind last row ≡ false) × AllByRecursion (λ r. is_behind last r ≡ false) list
    by true t s rest = cc
    by false t s rest = (t, rest s)

found_none : (last : ℕ) (list : List Row) → AllByRecursion (λ row. is_behind last row ≡ false) list → option_to_list (find (is_behind last) list) ≡ []
found_none last [] h = refl
found_none last (row ∷ list) h = ap (λ b. option_to_list (cond b (Some row) (find (is_behind last) list))) h.0 ∙ found_none last list h.1

pub delete_none : (core : Core) (config : Config) → config_of reads (history core.history) ≡ Some config →
    (rows_in Deleting core ≡ []) ↔ AllByRecursion (λ row. is_behind (last_opstamp (history core.history)) row ≡ false) (rows (history core.history))
delete_none core config is =
    let same : rows_in Deleting core ≡ option_to_list (find (is_behind (last_opstamp (history core.history))) (rows (history core.history))) =
    ap (λ (c : Option Config). rows_for c choices.Deletes core.moment (last_opstamp (history core.history)) (rows (history core.history))) is in
    (λ empty. none_found (last_opstamp (history core.history)) (rows (history core.history)) (sym same ∙ empty), λ none. same ∙ found_none (last_opstamp (history core.history)) (rows (history core.history)) none)
