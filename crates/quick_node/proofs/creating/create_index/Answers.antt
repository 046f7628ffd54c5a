use Rattle.std.proofs.Common.{◌≡◌, ◌<◌, ◌≤◌, List, ℕ, length, refl, sym, ◌∙◌, subst}
use Rattle.byte_fields.specs.Causes.{Rose}
use Rattle.quick_node.specs.Creating.{IsWhole, IsFaulty}
use Rattle.quick_node.specs.Reading.{max_config}
use Rattle.quick_node.specs.declared.creating.Whole.{Whole}
use Rattle.quick_node.specs.declared.error_line.End.TheVariants as ended
use Rattle.quick_node.proofs.Finding.{if_told, some_moment}
use Rattle.quick_node.proofs.CreateLeaves.{untouched}
use Rattle.quick_node.proofs.creating.create_index.Goals as goal

pub returns-in-Ok-Text-clause-creates : goal.returns-in-Ok-Text-clause-creates
returns-in-Ok-Text-clause-creates g c history before told count left reads content writes i =
    let whole = subst (λ (w : Whole). IsWhole w before.input) c.in-Ok-Text.field-0-is (c.in-Ok-Text.ensures.reads before.input left) in
    let text : c.as_slice.result.now ≡ before.input = c.as_slice.ensures.value ∙ whole.0 in
    c.make_index.ensures.makes history before (g.R.Source.fault_count c.read_whole.new.input) told count text (subst (λ (t : List ℕ). length t ≤ max_config) (sym text) whole.1) content writes i

pub returns-in-Ok-Text-clause-causes : goal.returns-in-Ok-Text-clause-causes
returns-in-Ok-Text-clause-causes g c = c.make_index.ensures.causes (g.R.Source.fault_count c.args.input.now) (g.R.Source.fault_count c.read_whole.new.input)

pub returns-in-Ok-Over-clause-creates : goal.returns-in-Ok-Over-clause-creates
returns-in-Ok-Over-clause-creates g c history before told count left reads content writes i =
    let at = some_moment (g.C.Clock.told c.args.clock) in (
      at.0,
      at.1,
      untouched history before at.0 i _ _ _ _ _ ended.ConfigOver told content
          (subst (λ (w : Whole). IsWhole w before.input) c.in-Ok-Over.field-0-is (c.in-Ok-Over.ensures.reads before.input left), refl, refl),
    )

pub returns-in-Ok-Fault-clause-creates : goal.returns-in-Ok-Fault-clause-creates
returns-in-Ok-Fault-clause-creates g c history before told count left reads content writes i =
    let at = some_moment (g.C.Clock.told c.args.clock) in (
      at.0,
      at.1,
      untouched history before at.0 i _ _ _ _ _ ended.ReadFault told content
          (subst (λ (n : ℕ). Rose n (g.R.Source.fault_count c.read_whole.new.input)) reads (c.in-Ok-Fault.ensures.cause.failed (subst IsFaulty (sym c.in-Ok-Fault.field-0-is) tt)), refl, refl),
    )

pub returns-in-Err-clause-creates : goal.returns-in-Err-clause-creates
returns-in-Err-clause-creates g c history before told count left reads content writes i =
    let at = some_moment (g.C.Clock.told c.args.clock) in
    (at.0, at.1, untouched history before at.0 i _ _ _ _ _ ended.Memory told content (refl, refl))

pub returns-in-Ok-Text-clause-opening : goal.returns-in-Ok-Text-clause-opening
returns-in-Ok-Text-clause-opening g c =
    c.make_index.ensures.opening (g.R.Source.left c.args.input.now) (g.R.Source.left c.read_whole.new.input) (g.R.Source.fault_count c.args.input.now) (g.R.Source.fault_count c.read_whole.new.input)
    (if_told (g.R.Source.left c.args.input.now) (λ (bytes : List ℕ). (c.as_slice.result.now ≡ bytes) × (length bytes ≤ max_config)) (λ text left.
    let whole = subst (λ (w : Whole). IsWhole w text) c.in-Ok-Text.field-0-is (c.in-Ok-Text.ensures.reads text left) in (c.as_slice.ensures.value ∙ whole.0, whole.1)))

pub returns-in-Ok-Over-clause-opening : goal.returns-in-Ok-Over-clause-opening
returns-in-Ok-Over-clause-opening g c = (
  (refl, refl),
  if_told (g.R.Source.left c.args.input.now) (λ (bytes : List ℕ). max_config < length bytes) (λ text left. subst (λ (w : Whole). IsWhole w text) c.in-Ok-Over.field-0-is (c.in-Ok-Over.ensures.reads text left)),
)

pub returns-in-Ok-Fault-clause-opening : goal.returns-in-Ok-Fault-clause-opening
returns-in-Ok-Fault-clause-opening g c = (refl, refl)

pub returns-in-Err-clause-opening : goal.returns-in-Err-clause-opening
returns-in-Err-clause-opening g c = (refl, refl)
