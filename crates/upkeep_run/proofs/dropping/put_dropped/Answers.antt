use Rattle.std.proofs.Common.{◌≡◌, ◌∙◌, ◌≤◌, ◌<◌, ◌||◌, ◌&&◌, ℕ, length, refl, sym, ap, subst, arith}
use Rattle.std.specs.Prelude.{IsOkAnd}
use Rattle.delete_tasks.specs.Removes.{DeleteTask}
use Rattle.doc_sets.specs.Bits.{has}
use Rattle.doc_sets.specs.Sets.{is_one_of}
use Rattle.doc_sets.specs.Faults.{IsMemory}
use Rattle.query_ast.specs.Askable.{CanAsk}
use Rattle.leaf_search.specs.Numbers.{numbers_of}
use Rattle.query_ast.specs.Meaning.{meaning, within_times}
use Rattle.upkeep_run.specs.Dropping.{drops, holds, is_before}
use Rattle.upkeep_run.proofs.DropSets.{always_given, drops_put, none_past, or_same}
use Rattle.upkeep_run.proofs.dropping.put_dropped.Goals as goal

pub returns-then-upto-task-clause-there : goal.returns-then-upto-task-clause-there
returns-then-upto-task-clause-there c = λ documents p part all asked k lt.
    let same = ap (λ (t : DeleteTask). t.opstamp) c.task.view_is in
    or_same (has c.args.bits.now k) (has c.args.bits.now k) (holds (λ d. drops c.args.schema.now c.args.spans.now c.args.upto d c.args.task.now) documents k) refl
    (none_past c.args.schema.now c.args.spans.now c.args.task.now c.args.upto documents k (omega (arith, c.if-upto-task.true, same)))

pub returns-clause-there : goal.returns-clause-there
returns-clause-there c = λ documents p part all asked.
    let s = c.args.schema.now in
    let spans = c.args.spans.now in
    let task = c.args.task.now in
    let same = ap (λ (t : DeleteTask). t.opstamp) c.task.view_is in
    let le : task.opstamp ≤ c.args.upto = omega (arith, c.if-upto-task.false, same) in
    let found = c.in_ok-numbers.ensures.there documents p part all (subst (λ (t : DeleteTask). CanAsk s t.query) (sym c.task.view_is) asked) in
    let numbers : c.as_slice.result.now ≡ numbers_of (λ d. meaning s d task.query && within_times s task.times d) documents =
    c.as_slice.ensures.value ∙ subst (λ (t : DeleteTask). c.in_ok-numbers.numbers.items ≡ numbers_of (λ d. meaning s d t.query && within_times s t.times d) documents) c.task.view_is found in
    let put = subst (λ (o : ℕ). IsOkAnd c.put_each.result (λ _. (k : ℕ) → has c.put_each.new.bits k ≡ (has c.args.bits.now k || (is_one_of k c.as_slice.result.now && holds (is_before spans o) documents k)))) same
    (c.put_each.ensures.there s documents p part all) in
    always_given c.put_each.result (λ _. (k : ℕ) → has c.put_each.new.bits k ≡ (has c.args.bits.now k || (is_one_of k c.as_slice.result.now && holds (is_before spans task.opstamp) documents k)))
    (λ _. (k : ℕ) → k < length documents → has c.put_each.new.bits k ≡ (has c.args.bits.now k || holds (λ d. drops s spans c.args.upto d task) documents k)) IsMemory put
    (λ _ each k lt. drops_put s spans c.args.upto task le documents c.as_slice.result.now k (has c.put_each.new.bits k) (has c.args.bits.now k) numbers (each k))
