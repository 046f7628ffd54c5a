use Rattle.std.proofs.Common.{◌≡◌, ◌∷◌, [], ◌++◌, List, ℕ, ap, arith, get_or, length, map, refl, subst, sym, ◌∙◌}
use Rattle.std.specs.Prelude.{Some, slice_get, slice_set}
use Rattle.std.proofs.lemmas.Option.{slice_get-get_or}
use Rattle.run_plan.specs.Asked.{AreAsked, HasPlaces, names_of, place_in}
use Rattle.run_plan.specs.declared.clients.Asking.{Asking}
use Rattle.run_plan.proofs.Asked.{asked_more, names_set}
use Rattle.run_plan.proofs.clients.Clients.add.Goals as goal

pub returns : goal.returns
returns c requests has asked =
    let k = c.in_ok-place.ensures.asked requests c.args.self.now.by.items has asked in
    let askings = c.known.new.askings.items in
    let place = c.in_ok-place.place in
    let old : Asking = c.index_mut.result.now in
    let new : Asking = record { client = c.index_mut.result.now.client; texts = c.push-2.new.self } in
    let at : slice_get askings place ≡ Some old = slice_get-get_or askings place old (let less = c.in_ok-place.ensures.within in omega (arith, less, c.known.new.askings.ok.0)) ∙ ap (λ x. Some x) (sym c.index_mut.ensures.value) in (
      subst (HasPlaces c.known.new.places.entries) (sym (names_set askings place old new at refl)) k.0,
      subst (λ (l : List ℕ). AreAsked (requests ++ c.args.request ∷ []) (slice_set askings place new) l) (sym c.in_ok-push.ensures.items)
          (asked_more requests askings c.args.self.now.by.items place old new c.args.request k.1 at k.2 refl c.in_ok-push-2.ensures.items),
    )
