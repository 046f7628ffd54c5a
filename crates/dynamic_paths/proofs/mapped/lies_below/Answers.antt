use Rattle.std.proofs.Common.{nat_eq, Bool, ◌&&◌, [], ◌∷◌, length, drop, ap, sym, ◌∙◌}
use Rattle.std.specs.List.{starts_with}
use Rattle.std.proofs.lemmas.List.{take_rest}
use Rattle.dynamic_paths.proofs.Fronts.{starts_by_parts}
use Rattle.dynamic_paths.proofs.mapped.lies_below.Goals as goal

pub returns-then-starts_with : goal.returns-then-starts_with
returns-then-starts_with c =
    c.starts_with-then-starts_with.ensures.value
    ∙ ap (λ l. starts_with nat_eq l (46 ∷ [])) (take_rest c.args.path.now (length c.args.above.now))
    ∙ sym (starts_by_parts c.args.above.now (46 ∷ []) c.args.path.now
    ∙ ap (λ (b : Bool). b && starts_with nat_eq (drop (length c.args.above.now) c.args.path.now) (46 ∷ [])) (sym c.starts_with.ensures.value ∙ c.if-starts_with.true))

pub returns-else-starts_with : goal.returns-else-starts_with
returns-else-starts_with c =
    c.if-starts_with.false
    ∙ sym (starts_by_parts c.args.above.now (46 ∷ []) c.args.path.now
    ∙ ap (λ (b : Bool). b && starts_with nat_eq (drop (length c.args.above.now) c.args.path.now) (46 ∷ [])) (sym c.starts_with.ensures.value ∙ c.if-starts_with.false))
