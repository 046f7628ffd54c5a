-- The conditions over the state are those over ledger and rows, and only the first entry has no configuration before it.
use Rattle.std.proofs.Common.{◌≡◌, ◌≢◌, ℕ, ◌↔◌, List, [], length, Option, Some, None, Result, Ok, Err, IsOk, refl, ap, sym, subst, ◌∙◌, arith}
use Rattle.std.specs.Prelude.{IsSome, is_some}
use Rattle.std.proofs.lemmas.Bool.{false≢true}
use Rattle.meta_store.proofs.RowLists.{the_row}
use Rattle.meta_store.proofs.Current.{tasks_agree, opstamps_agree}
use Rattle.meta_store.proofs.Sound.{IsSound, sound, staged_ranges, AllOf-ranges}
use Rattle.meta_store.proofs.Tallied.{IsTallied, tallied}
use Rattle.meta_store.specs.Words.{IsFirst, FollowsLedger}
use Rattle.meta_journal.specs.declared.entry.Act.{Act}
use Rattle.meta_journal.specs.declared.entry.Act.TheVariants.{Fence, Create, Stage, Publish, Replace, Raise, MarkStaged, Remove, Retire, Task as AddTask}
use Rattle.meta_store.specs.History.{History, at, delta_of}
use Rattle.meta_store.specs.History.History.{Start, ◌▸◌}
use Rattle.meta_store.specs.Ledgers.{ledger}
use Rattle.meta_store.specs.Rows.{rows}
use Rattle.meta_store.specs.Readings.{configured, Reads, config_of, reading_of}
use Rattle.meta_store.specs.State.{state_of, Follows, MayCome, Legal, checkpoints_of}
use Rattle.meta_store.specs.declared.config.Config.{Config}
use Rattle.index_config.specs.declared.config_error.ConfigError.{ConfigError}
use Rattle.meta_store.specs.Said.{Said}
use Rattle.meta_store.specs.declared.config.Settings.{Settings}
use Rattle.source_checkpoint.specs.Checkpoints.{checkpoint_at}
use Rattle.source_checkpoint.specs.Deltas.{MayAdmit}
use Rattle.split_states.specs.Rows.{row_at, row_ranges}
use Rattle.split_states.specs.declared.rows.RowState.TheVariants.{Staged}

may_admit : (reads : Reads) (h : History) (number : ℕ) → IsSound reads h → row_ranges (rows h) number ≡ delta_of h number → MayAdmit (row_ranges (rows h) number) (checkpoint_at (checkpoints_of h)) → MayAdmit (delta_of h number) (ledger reads h).checkpoints
may_admit reads h number s ranges may =
    let allowed : MayAdmit (delta_of h number) (checkpoint_at (checkpoints_of h)) = subst (λ d. MayAdmit d (checkpoint_at (checkpoints_of h))) ranges may in
    (allowed.0, AllOf-ranges (checkpoint_at (checkpoints_of h)) (ledger reads h).checkpoints (delta_of h number) s.agree allowed.1)

admit_may : (reads : Reads) (h : History) (number : ℕ) → IsSound reads h → row_ranges (rows h) number ≡ delta_of h number → MayAdmit (delta_of h number) (ledger reads h).checkpoints → MayAdmit (row_ranges (rows h) number) (checkpoint_at (checkpoints_of h))
admit_may reads h number s ranges may =
    subst (λ d. MayAdmit d (checkpoint_at (checkpoints_of h))) (sym ranges)
    (may.0, AllOf-ranges (ledger reads h).checkpoints (checkpoint_at (checkpoints_of h)) (delta_of h number) (λ p. sym (s.agree p)) may.1)

publish_words : (reading : Said) (settings : Settings) (reads : Reads) (h : History) (m number : ℕ) → IsSound reads h → IsTallied reads h → Follows reading settings (state_of reads h) m (Publish number) ↔ FollowsLedger reading settings reads h m (Publish number)
publish_words reading settings reads h m number s t = (
  (λ f. let w = the_row (row_at (rows h) number) (λ row. (row.state ≡ Staged) × (row.spans ≢ [])) f.0 in
      let ranges = staged_ranges reads h number w.0 s w.1 w.2.0 in
      (f.0, may_admit reads h number s ranges f.1, omega (arith, f.2, t.spans, ap length ranges))),
  (λ f. let w = the_row (row_at (rows h) number) (λ row. (row.state ≡ Staged) × (row.spans ≢ [])) f.0 in
      let ranges = staged_ranges reads h number w.0 s w.1 w.2.0 in
      (f.0, admit_may reads h number s ranges f.1, omega (arith, f.2, t.spans, ap length ranges))),
)

by_act : (reading : Said) (settings : Settings) (reads : Reads) (h : History) (m : ℕ) (act : Act) → IsSound reads h → IsTallied reads h → Follows reading settings (state_of reads h) m act ↔ FollowsLedger reading settings reads h m act
by_act reading settings reads h m Fence s t = ((λ f. f), (λ f. f))
by_act reading settings reads h m (Create config) s t = ((λ f. f), (λ f. f))
by_act reading settings reads h m (Stage number delta facts) s t = ((λ f. f), (λ f. f))
by_act reading settings reads h m (Publish number) s t = publish_words reading settings reads h m number s t
by_act reading settings reads h m (Replace new old upto) s t = rw (tasks_agree reads h, opstamps_agree reads h) ((λ f. f), (λ f. f))
by_act reading settings reads h m (Raise number upto) s t = rw (tasks_agree reads h, opstamps_agree reads h) ((λ f. f), (λ f. f))
by_act reading settings reads h m (AddTask opstamp text fields times) s t = rw (tasks_agree reads h, opstamps_agree reads h) ((λ f. f), (λ f. f))
by_act reading settings reads h m (MarkStaged numbers) s t = ((λ f. f), (λ f. f))
by_act reading settings reads h m (Remove numbers) s t = ((λ f. f), (λ f. f))
by_act reading settings reads h m (Retire numbers) s t = ((λ f. f), (λ f. f))

pub in_words : (reads : Reads) (h : History) → Legal reads h → (reading : Said) (settings : Settings) (m : ℕ) (act : Act) → Follows reading settings (state_of reads h) m act ↔ FollowsLedger reading settings reads h m act
in_words reads h l reading settings m act = by_act reading settings reads h m act (sound reads h l) (tallied reads h l)

-- behind an entry of a legal history there is a configuration
made : (text : List ℕ) (said : Result Settings ConfigError) → IsOk said → IsSome (configured text said)
made text (Ok settings) h = refl
made text (Err error) h = absurd (false≢true h)

some_stays : (reads : Reads) (c : Option Config) (h : History) (m : ℕ) (act : Act) → config_of reads h ≡ c → MayCome (reading_of reads c act) c (state_of reads h) m act → IsSome (config_of reads (h ▸ at m act))
some_stays reads None h m (Create config) e f = made config (reads.config config) f
some_stays reads None h m Fence e f = absurd f
some_stays reads None h m (Stage number delta facts) e f = absurd f
some_stays reads None h m (Publish number) e f = absurd f
some_stays reads None h m (Replace new old upto) e f = absurd f
some_stays reads None h m (Raise number upto) e f = absurd f
some_stays reads None h m (AddTask opstamp text fields times) e f = absurd f
some_stays reads None h m (MarkStaged numbers) e f = absurd f
some_stays reads None h m (Remove numbers) e f = absurd f
some_stays reads None h m (Retire numbers) e f = absurd f
some_stays reads (Some c) h m (Create config) e f = absurd f
some_stays reads (Some c) h m Fence e f = rw e refl
some_stays reads (Some c) h m (Stage number delta facts) e f = rw e refl
some_stays reads (Some c) h m (Publish number) e f = rw e refl
some_stays reads (Some c) h m (Replace new old upto) e f = rw e refl
some_stays reads (Some c) h m (Raise number upto) e f = rw e refl
some_stays reads (Some c) h m (AddTask opstamp text fields times) e f = rw e refl
some_stays reads (Some c) h m (MarkStaged numbers) e f = rw e refl
some_stays reads (Some c) h m (Remove numbers) e f = rw e refl
some_stays reads (Some c) h m (Retire numbers) e f = rw e refl

pub first_only : (reads : Reads) (h : History) → Legal reads h → config_of reads h ≡ None ↔ IsFirst h
first_only reads Start l = ((λ e. tt), (λ f. refl))
first_only reads (h ▸ e) l = (
  (λ none. false≢true (sym (ap is_some none) ∙ some_stays reads (config_of reads h) h e.moment e.act refl l.1.1)),
  (λ f. absurd f),
)
