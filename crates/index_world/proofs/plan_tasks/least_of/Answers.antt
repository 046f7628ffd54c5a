use Rattle.std.proofs.Common.{◌≡◌, ◌≤◌, ℕ, List, [], ◌∷◌, drop, min, arith}
use Rattle.source_checkpoint.specs.declared.span.Span.{Span}
use Rattle.index_world.specs.PlanTasks.{least_of}
use Rattle.index_world.proofs.plan_tasks.least_of.Goals as goal

least_low : (upto : ℕ) (spans : List Span) → least_of upto spans ≤ upto
least_low upto [] = omega arith
least_low upto (s ∷ spans) = let low = least_low upto spans in omega (arith, low)

start_least : (upto : ℕ) (spans : List Span) → min upto (least_of upto (drop 0 spans)) ≡ least_of upto spans
start_least upto [] = omega arith
start_least upto (s ∷ spans) = let low = least_low upto (s ∷ spans) in omega (arith, low)

pub loop-span-init : goal.loop-span-init
loop-span-init c = record { low = omega arith; value = start_least c.args.upto c.args.spans.now }
