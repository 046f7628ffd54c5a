use Rattle.std.proofs.Common.{◌≡◌, List, ◌∙◌, ap, subst, sym, None}
use Rattle.real_edge.specs.declared.shelf_files.Object.{Object}
use Rattle.real_edge.specs.Entries.{entries, found, IsPlaceOf}
use Rattle.real_edge.proofs.Positions.{removed_at, removed_absent}
use Rattle.real_edge.proofs.shelf_files.remove.Goals as goal

pub returns-in-Ok-clause-entries : goal.returns-in-Ok-clause-entries
returns-in-Ok-clause-entries c =
    let place = subst (λ (l : List Object). IsPlaceOf c.args.key.now l c.in-Ok.at) c.deref.ensures.value c.in-Ok.ensures.ok in
    ap entries c.remove-object.ensures.items
    ∙ removed_at c.args.key.now c.args.objects.now.items c.in-Ok.at c.remove-object.result c.requires.order place.within (place.key_is c.remove-object.result)

pub returns-in-Err-clause-entries : goal.returns-in-Err-clause-entries
returns-in-Err-clause-entries c =
    let none : found c.args.key.now (entries c.args.objects.now.items) ≡ None = ap (λ (l : List Object). found c.args.key.now (entries l)) (sym c.deref.ensures.value) ∙ c.in-Err.ensures.err.absent in
    removed_absent c.args.key.now c.args.objects.now.items none
