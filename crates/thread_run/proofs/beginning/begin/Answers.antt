use Rattle.std.proofs.Common.{◌≡◌, ◌≤◌, ◌∙◌, List, ℕ, ap, arith, subst, sym}
use Rattle.std.specs.Prelude.{None, Some}
use Rattle.source_log.specs.Log.{IsToldLog, Log}
use Rattle.indexing_run.specs.Making.{IsAssigned}
use Rattle.indexing_run.specs.Places.{idle}
use Rattle.indexing_run.specs.Standing.{IndexerStands}
use Rattle.run_plan.proofs.EverySo.{every_assigned}
use Rattle.thread_run.proofs.Beginnings.{no_calls}
use Rattle.thread_run.proofs.beginning.begin.Goals as goal

pub returns-in-Ok : goal.returns-in-Ok
returns-in-Ok g c =
    let t = g.L.SourceLog in
    let told = c.in-Ok.ensures.told in
    let partitions : List (List ℕ) = c.in-Ok.partitions in
    let last = c.assign.new.self in
    let apart : (read : Log) → t.told c.args.log ≡ Some read → IsAssigned (Some partitions) =
    λ read tells. subst (λ n. IsAssigned (Some n)) (sym (c.in-Ok.ensures.names read tells)) (every_assigned read c.args.count c.args.skipped (subst IsToldLog tells c.faults-before.ensures.sound)) in
    let stands : (read : Log) → t.told c.args.log ≡ Some read → IndexerStands t.told t.fault_count last (record { assignment = Some partitions; place = idle; log_faults = t.fault_count c.assigned.new.log }) no_calls read =
    λ read tells. c.assign.ensures.stands (record { assignment = None; place = idle; log_faults = t.fault_count c.assigned.new.log }) no_calls read (c.start-indexer.ensures.stands no_calls read (told read tells)) (apart read tells) in
    record {
      kept = record {
        later = subst (t.since c.args.log) (sym (c.assign.ensures.log ∙ c.start-indexer.ensures.log)) c.in-Ok.ensures.later;
        counts = subst (λ (log : g.row.L.Denot). t.fault_count c.args.log ≤ t.fault_count log) (sym (c.assign.ensures.log ∙ c.start-indexer.ensures.log)) c.in-Ok.ensures.cause.later;
        tells = λ read tells. (stands read tells).told;
      };
      idle = c.assign.ensures.place ∙ c.start-indexer.ensures.idle;
      counted = omega (arith, c.log_faults-count.ensures, c.log_faults-count.type_inv);
      names = λ read tells. (stands read tells).assignment ∙ ap (λ n. Some n) (c.in-Ok.ensures.names read tells);
      assigned = λ read tells. subst IsAssigned (sym (stands read tells).assignment) (apart read tells);
    }
