-- A plan without rows: the policy chooses none, or all published rows are applied up to the last task.
use Rattle.std.proofs.Common.{◌≡◌, ℕ, ◌<◌, ◌≤◌, ◌&&◌, Bool, true, false, List, [], ◌∷◌, length, refl, sym, ap, ◌∙◌, subst, arith}
use Rattle.std.proofs.lemmas.Bool.{and_from, le-leb, ltb-false, or_parts}
use Rattle.std.specs.List.{AllByRecursion, list_any}
use Rattle.std.specs.Prelude.{Some, None, nat_le, nat_lt}
use Rattle.index_config.proofs.Ranges.{accepted-ranges}
use Rattle.index_config.specs.Accepted.{HasPolicyRanges, HasRanges, IsBetween}
use Rattle.index_config.specs.declared.config.IndexConfig.{IndexConfig}
use Rattle.index_config.specs.declared.config.Policy.{Policy}
use Rattle.index_config.specs.declared.config.Policy.TheVariants.{StableLog, LimitMerge, NoMerge}
use Rattle.merge_policy.specs.Chosen.{chosen}
use Rattle.meta_store.proofs.Formed.{IsGood, shaped}
use Rattle.meta_store.specs.History.{history, last_opstamp}
use Rattle.meta_store.specs.Planning.{config_fits, is_behind, is_within, policy_fits}
use Rattle.meta_store.specs.Rows.{rows}
use Rattle.meta_store.specs.State.{Legal}
use Rattle.source_checkpoint.specs.Deltas.{IsSpan}
use Rattle.source_checkpoint.specs.declared.span.Span.{Span}
use Rattle.split_states.specs.Rows.{is_published}
use Rattle.split_states.specs.declared.rows.Row.{Row}
use Rattle.index_world.specs.Config.{reads}
use Rattle.index_world.specs.Configuration.{configuration, index_of}
use Rattle.index_world.specs.Core.{Core}
use Rattle.index_world.proofs.Asking.{Begun, begun_history}
use Rattle.index_world.proofs.Configured.{configured_read}
use Rattle.index_world.proofs.Numbers.{revision_is}
use Rattle.upkeep_run.proofs.Idling.{delete_none, merge_none}
use Rattle.upkeep_run.specs.Steps.{rows_in}
use Rattle.upkeep_run.specs.declared.work.Aim.TheVariants.{Deleting, Merging}
use Rattle.thread_run.specs.Ends.{IsApplied}

-- the numbers of each configuration that was accepted fit
within : (least most n : ℕ) → IsBetween least most n → is_within least most n ≡ true
within least most n h = and_from (nat_le least n) (nat_le n most) (le-leb least n h.0) (le-leb n most h.1)

policy_is : (p : Policy) → HasPolicyRanges p → policy_fits p ≡ true
policy_is (StableLog least factor greatest period) h =
    and_from (is_within 1 16777216 least) (is_within 2 100 factor && (is_within factor 100 greatest && nat_le period 2147483647)) (within 1 16777216 least h.0)
    (and_from (is_within 2 100 factor) (is_within factor 100 greatest && nat_le period 2147483647) (within 2 100 factor h.1)
    (and_from (is_within factor 100 greatest) (nat_le period 2147483647) (within factor 100 greatest h.2) (le-leb period 2147483647 h.3)))
policy_is (LimitMerge factor greatest ops period) h =
    and_from (is_within 2 100 factor) (is_within factor 100 greatest && (is_within 1 100 ops && nat_le period 2147483647)) (within 2 100 factor h.0)
    (and_from (is_within factor 100 greatest) (is_within 1 100 ops && nat_le period 2147483647) (within factor 100 greatest h.1)
    (and_from (is_within 1 100 ops) (nat_le period 2147483647) (within 1 100 ops h.2) (le-leb period 2147483647 h.3)))
policy_is NoMerge h = refl

config_is_fit : (config : IndexConfig) → HasRanges config → config_fits config ≡ true
config_is_fit config h = and_from (policy_fits config.policy) (is_within 1 16777216 config.docs_target) (policy_is config.policy h.policy) (within 1 16777216 config.docs_target h.docs_target)

-- spans that are applied no further than the last task, and none of them less
and_rest : (b c : Bool) → (b && c) ≡ false → b ≡ true → c ≡ false
and_rest true c e t = e
and_rest false c e t = absurd (false_true t)
  where
    false_true : false ≡ true → ⊥
    false_true f = cc

spans_applied : (last : ℕ) (spans : List Span) → list_any (λ s. nat_lt s.applied last) spans ≡ false → AllByRecursion (IsSpan last) spans → AllByRecursion (λ s. s.applied ≡ last) spans
spans_applied last [] none good = tt
spans_applied last (s ∷ spans) none good =
    let p = or_parts (nat_lt s.applied last) (list_any (λ (t : Span). nat_lt t.applied last) spans) none in
    let low : last ≤ s.applied = ltb-false s.applied last p.0 in
    let high : s.applied ≤ last = good.0.applied in
    (omega (arith, low, high), spans_applied last spans p.1 good.1)

row_applied : (last : ℕ) (row : Row) → is_behind last row ≡ false → IsGood last row → IsApplied last row
row_applied last row none good is = spans_applied last row.spans (and_rest (is_published row.state) (list_any (λ (s : Span). nat_lt s.applied last) row.spans) none is) good

rows_applied : (last : ℕ) (list : List Row) → AllByRecursion (λ row. is_behind last row ≡ false) list → AllByRecursion (IsGood last) list → AllByRecursion (IsApplied last) list
rows_applied last [] none good = tt
rows_applied last (row ∷ list) none good = (row_applied last row none.0 good.0, rows_applied last list none.1 good.1)

module _ (core : Core) (legal : Legal reads (history core.history)) (some : 0 < length core.history) where
  begun_core : Begun (history core.history)
  begun_core = begun_history (history core.history) legal (let r = revision_is core.history in omega (arith, r, some))

  -- where a merger has none, none is chosen
  pub none_chosen : (config : IndexConfig) → configuration core.history ≡ Some config → rows_in Merging core ≡ [] → chosen config.policy config.docs_target core.moment (rows (history core.history)) ≡ None
  none_chosen config is none =
      let here : IndexConfig = begun_core.config.settings.index in
      let both : Some begun_core.config.settings.index ≡ Some config = sym (ap index_of begun_core.is) ∙ is in
      let same : begun_core.config.settings.index ≡ config = cc both in
      let read = configured_read core.history config is in
      let fit : config_fits config ≡ true = config_is_fit config (accepted-ranges read.0 config read.1) in
      let fit_here : config_fits begun_core.config.settings.index ≡ true = ap config_fits same ∙ fit in
      subst (λ (c : IndexConfig). chosen c.policy c.docs_target core.moment (rows (history core.history)) ≡ None) same ((merge_none core begun_core.config legal begun_core.is fit_here).0 none)

  -- where a delete worker has none, all published rows are applied up to the last task
  pub all_applied : rows_in Deleting core ≡ [] → AllByRecursion (IsApplied (last_opstamp (history core.history))) (rows (history core.history))
  all_applied none =
      rows_applied (last_opstamp (history core.history)) (rows (history core.history)) ((delete_none core begun_core.config begun_core.is).0 none) (shaped reads (history core.history) legal).good
