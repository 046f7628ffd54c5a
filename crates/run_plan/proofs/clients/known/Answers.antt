use Rattle.std.proofs.Common.{◌≡◌, ◌∷◌, [], ◌++◌, List, ℕ, ap, arith, length, map, refl, subst, sym, ◌∙◌}
use Rattle.std.specs.Prelude.{Some, None}
use Rattle.std.proofs.lemmas.List.{length-map, map_push}
use Rattle.run_plan.specs.Asked.{AreAsked, HasPlaces, names_of, place_in}
use Rattle.run_plan.specs.declared.clients.Asking.{Asking}
use Rattle.run_plan.proofs.Asked.{asked_beside}
use Rattle.run_plan.proofs.Places.{itself, place_last, put_behind}
use Rattle.run_plan.proofs.clients.known.Goals as goal

pub returns-in-Ok-clause-asked : goal.returns-in-Ok-clause-asked
returns-in-Ok-clause-asked c requests by has asked =
    let name = c.args.client.now in
    let old = c.args.askings.now.items in
    let has' : HasPlaces c.args.places.now.entries (names_of c.as_slice.result.now) = subst (λ (l : List Asking). HasPlaces c.args.places.now.entries (names_of l)) (sym c.as_slice.ensures.value) has in
    let none : place_in name (names_of old) ≡ None = ap (λ (l : List Asking). place_in name (names_of l)) (sym c.as_slice.ensures.value) ∙ sym (c.in-None.ensures.exact has') in
    let new : Asking = record { client = name; texts = c.new.result } in
    let items : c.push.new.self.items ≡ old ++ new ∷ [] = c.in-Ok.ensures.items ∙ ap (λ (l : List Asking). l ++ new ∷ []) c.reserve.ensures.items in
    let names : names_of (old ++ new ∷ []) ≡ names_of old ++ name ∷ [] = map_push (λ (asking : Asking). asking.client) old new in
    let last : c.len-place.result ≡ length (names_of old) = (let l = c.len-place.ensures in let m = length-map old (λ (asking : Asking). asking.client) in omega (arith, l, m, c.args.askings.now.ok.0)) in
    let put = put_behind name (names_of old) c.args.places.now.entries c.insert.new.self.entries c.len-place.result last none has c.in_ok-insert-in-None.ensures.updates.0 in
    let there : place_in name (names_of old ++ name ∷ []) ≡ Some c.len-place.result = place_last name name (names_of old) (itself name) none ∙ ap (λ n. Some n) (sym last) in (
      subst (λ (l : List Asking). HasPlaces c.insert.new.self.entries (names_of l)) (sym items) (subst (HasPlaces c.insert.new.self.entries) (sym names) put),
      subst (λ (l : List Asking). AreAsked requests l by) (sym items) (asked_beside requests old by new c.new.ensures.items asked),
      subst (λ (l : List Asking). place_in name (names_of l) ≡ Some c.len-place.result) (sym items) (subst (λ ns. place_in name ns ≡ Some c.len-place.result) (sym names) there),
    )
