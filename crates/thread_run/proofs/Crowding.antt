-- A Stage without records of its own is refused only where no row more may be staged.
use Rattle.std.proofs.Common.{◌≡◌, ℕ, ◌+◌, ◌<◌, ◌≤◌, Bool, true, false, cond, List, [], length, refl, sym, ap, ◌∙◌, arith}
use Rattle.std.proofs.lemmas.Bool.{eq-eqb, le-ltb, ltb-false}
use Rattle.std.specs.Prelude.{Option, Some, Result, Ok, Err, nat_lt}
use Rattle.meta_journal.specs.declared.entry.Act.{Act}
use Rattle.meta_journal.specs.declared.entry.Act.TheVariants.{Stage}
use Rattle.meta_journal.specs.declared.entry.Entry.{Entry}
use Rattle.meta_store.specs.Answers as answers
use Rattle.meta_store.specs.History.{history, last_number, moment_of}
use Rattle.meta_store.specs.Readings.{config_of, reading_of}
use Rattle.meta_store.specs.Rows.{rows}
use Rattle.meta_store.specs.State.{Legal, state_of}
use Rattle.meta_store.specs.declared.config.Config.{Config}
use Rattle.meta_store.specs.declared.refusal.Refusal.{Refusal}
use Rattle.meta_store.specs.declared.refusal.Refusal.TheVariants.{MomentBack, NotNext, TooManyRows}
use Rattle.source_checkpoint.specs.Deltas.{then_answer}
use Rattle.split_states.specs.declared.facts.RowFacts.{RowFacts}
use Rattle.index_world.specs.Calls.{answer_behind}
use Rattle.index_world.specs.Config.{reads}
use Rattle.index_world.proofs.Asking.{Begun, begun_history}
use Rattle.index_world.proofs.Numbers.{revision_is}
use Rattle.thread_run.specs.Settling.{IsCrowded}

ok_is_err : (refusal : Refusal) → ◌≡◌ {A = Result (Unit {0}) Refusal} (Ok tt) (Err refusal) → ⊥
ok_is_err refusal e = cc

refusal_same : (a b : Refusal) → ◌≡◌ {A = Result (Unit {0}) Refusal} (Err a) (Err b) → a ≡ b
refusal_same a b e = cc

module _ (es : List Entry) (moment : ℕ) (legal : Legal reads (history es)) (some : 0 < length es) (late : moment_of (history es) ≤ moment) where
  begun_here : Begun (history es)
  begun_here = begun_history (history es) legal (let r = revision_is es in omega (arith, r, some))

  abbrev Answering : (act : Act) → Option Config → Result (Unit {0}) Refusal
  Answering act c = answers.answer_by (reading_of reads c act) c (state_of reads (history es)) moment act

  -- behind a configuration, where the moment doesn't fall
  answer_here : (act : Act) → answer_behind es (record { moment = moment; act = act }) ≡ Answering act (Some begun_here.config)
  answer_here act =
      ap (λ (b : Bool). then_answer (cond b (Err (MomentBack moment (moment_of (history es)))) (Ok tt)) (Answering act (config_of reads (history es)))) (le-ltb moment (moment_of (history es)) late)
      ∙ ap (Answering act) begun_here.is

  pub is_crowded : (facts : RowFacts) (refusal : Refusal) → answer_behind es (record { moment = moment; act = Stage (last_number (history es) + 1) [] facts }) ≡ Err refusal → IsCrowded es refusal
  is_crowded facts refusal e = by (nat_lt (length (rows (history es))) 100000) refl (staged_rows ∙ e)
    where
      next : ℕ
      next = last_number (history es) + 1

      staged_rows : answers.answer_to_rows (length (rows (history es))) ≡ answer_behind es (record { moment = moment; act = Stage next [] facts })
      staged_rows =
          ap (λ (b : Bool). then_answer (cond b (Ok tt) (Err (NotNext next next))) (answers.answer_to_rows (length (rows (history es))))) (sym (eq-eqb next next refl))
          ∙ sym (answer_here (Stage next [] facts))

      by : (b : Bool) → nat_lt (length (rows (history es))) 100000 ≡ b → answers.answer_to_rows (length (rows (history es))) ≡ Err refusal → IsCrowded es refusal
      by true t k = absurd (ok_is_err refusal (ap (λ (b : Bool). cond b (Ok tt) (Err (TooManyRows (length (rows (history es)))))) (sym t) ∙ k))
      by false t k =
          (ltb-false (length (rows (history es))) 100000 t, refusal_same refusal (TooManyRows (length (rows (history es)))) (sym (ap (λ (b : Bool). cond b (Ok tt) (Err (TooManyRows (length (rows (history es)))))) (sym t) ∙ k)))
