use Rattle.std.proofs.Common.{◌≡◌, ◌∙◌, List, ℕ, Option, Result, sym, ap, subst, min}
use Rattle.std.specs.List.{reduce}
use Rattle.std.specs.Option.{option_copied}
use Rattle.std.specs.Prelude.{IfSome, true}
use Rattle.index_world.specs.Collecting.{is_swept}
use Rattle.index_world.specs.Answering.{list_answered}
use Rattle.index_world.specs.declared.tokens.SweepPage.{SweepPage}
use Rattle.index_world.specs.declared.world_error.WorldError.{WorldError}
use Rattle.split_collector.specs.Ending.{CallsTo, Told, page_of, told, turn_of}
use Rattle.split_collector.specs.Paging.{paged_turn}
use Rattle.split_collector.specs.Standing.{Alike, CollectsAs}
use Rattle.split_collector.specs.Steps.{outcomes}
use Rattle.split_collector.specs.Turns.{Turn, behind_list, next_behind, page_turn, paging, to_list}
use Rattle.split_collector.proofs.Calling.{IsToSweep, lists, page_reached, retold}
use Rattle.split_collector.proofs.Running.{one_called, then_called, then_collects}
use Rattle.split_collector.proofs.tries.sweep_page.Goals as goal

pub returns-in-Err-clause-ends : goal.returns-in-Err-clause-ends
returns-in-Err-clause-ends g c =
    one_called g.G.Gate.told g.G.Gate.Answers (to_list c.args.behind.now) (paged_turn c.unlisted.result) (list_answered (option_copied c.as_ref.result) c.sweep_list.result) c.args.gate.now c.sweep_list.new.self c.sweep_list.ensures.answered tt
    (c.as_ref.ensures.value, c.unlisted.ensures.turn ∙ sym (ap (λ (r : Result SweepPage WorldError). behind_list told (page_of c.args.behind.now r)) c.in-Err.is))

pub returns-in-Err-clause-step : goal.returns-in-Err-clause-step
returns-in-Err-clause-step g c = λ core log stands.
    let listing =
    (subst (λ (b : Option (List ℕ)). (f : CollectsAs g.G.Gate.Stands g.G.Gate.Between g.G.Gate.Adds (to_list b) (behind_list told (page_of b c.sweep_list.result)) core log c.args.gate.now c.sweep_list.new.self) × IsToSweep c.sweep_list.result f.after) c.as_ref.ensures.value
    (lists g.G.Gate.Stands g.G.Gate.Between g.G.Gate.Owns g.G.Gate.Adds g.met.G.Gate.between_goes core log c.args.gate.now c.sweep_list.new.self (option_copied c.as_ref.result) c.sweep_list.result (c.sweep_list.ensures.step core log stands))) in
    retold g.G.Gate.Stands g.G.Gate.Between g.G.Gate.Owns g.G.Gate.Adds g.met.G.Gate.between_goes core log c.args.gate.now c.sweep_list.new.self (to_list c.args.behind.now) (behind_list told (page_of c.args.behind.now c.sweep_list.result)) (paged_turn c.unlisted.result)
    (ap (λ (r : Result SweepPage WorldError). behind_list told (page_of c.args.behind.now r)) c.in-Err.is ∙ sym c.unlisted.ensures.turn) listing.0

pub returns-clause-ends : goal.returns-clause-ends
returns-clause-ends g c =
    let next = next_behind c.args.behind.now c.in-Ok.page.next in
    let first = page_turn told (reduce min c.in-Ok.page.numbers.items) next in
    let listing =
    one_called g.G.Gate.told g.G.Gate.Answers (to_list c.args.behind.now) first (list_answered (option_copied c.as_ref.result) c.sweep_list.result) c.args.gate.now c.sweep_list.new.self c.sweep_list.ensures.answered tt
    (c.as_ref.ensures.value, sym (ap (λ (r : Result SweepPage WorldError). behind_list told (page_of c.args.behind.now r)) c.in-Ok.is)) in
    let sweeping =
    subst (λ (ns : List ℕ). CallsTo g.G.Gate.told g.G.Gate.Answers (page_turn told (reduce min ns) next) (turn_of c.sweep_least-swept.result (paging told next)) c.sweep_list.new.self c.sweep_least-swept.new.gate) c.as_slice.ensures.value (c.sweep_least-swept.ensures.ends next) in
    subst (λ (t : Turn Told). CallsTo g.G.Gate.told g.G.Gate.Answers (to_list c.args.behind.now) t c.args.gate.now c.sweep_least-swept.new.gate) (sym c.behind_page.ensures.turn)
    (then_called g.G.Gate.told g.G.Gate.Answers (to_list c.args.behind.now) first (turn_of c.sweep_least-swept.result (paging told next)) c.args.gate.now c.sweep_list.new.self c.sweep_least-swept.new.gate listing sweeping)

pub returns-clause-step : goal.returns-clause-step
returns-clause-step g c = λ core log stands.
    let next = next_behind c.args.behind.now c.in-Ok.page.next in
    let least = reduce min c.in-Ok.page.numbers.items in
    let listing =
    (subst (λ (b : Option (List ℕ)). (f : CollectsAs g.G.Gate.Stands g.G.Gate.Between g.G.Gate.Adds (to_list b) (behind_list told (page_of b c.sweep_list.result)) core log c.args.gate.now c.sweep_list.new.self) × IsToSweep c.sweep_list.result f.after) c.as_ref.ensures.value
    (lists g.G.Gate.Stands g.G.Gate.Between g.G.Gate.Owns g.G.Gate.Adds g.met.G.Gate.between_goes core log c.args.gate.now c.sweep_list.new.self (option_copied c.as_ref.result) c.sweep_list.result (c.sweep_list.ensures.step core log stands))) in
    let first = listing.0 in
    let alike = subst (λ (t : Turn Told). Alike t first.reached) (ap (λ (r : Result SweepPage WorldError). behind_list told (page_of c.args.behind.now r)) c.in-Ok.is) first.alike in
    let swept : IfSome least (λ n. is_swept first.after n ≡ true) = subst (λ (r : Result SweepPage WorldError). IsToSweep r first.after) c.in-Ok.is listing.1 in
    let sweeping =
    subst (λ (ns : List ℕ). IfSome (reduce min ns) (λ n. is_swept first.after n ≡ true) → CollectsAs g.G.Gate.Stands g.G.Gate.Between g.G.Gate.Adds (page_turn outcomes (reduce min ns) next) (turn_of c.sweep_least-swept.result (paging told next)) first.after log c.sweep_list.new.self c.sweep_least-swept.new.gate) c.as_slice.ensures.value
    (c.sweep_least-swept.ensures.step first.after log next first.stands) swept in
    subst (λ (t : Turn Told). CollectsAs g.G.Gate.Stands g.G.Gate.Between g.G.Gate.Adds (to_list c.args.behind.now) t core log c.args.gate.now c.sweep_least-swept.new.gate) (sym c.behind_page.ensures.turn)
    (then_collects g.G.Gate.Stands g.G.Gate.Between g.G.Gate.Adds g.met.G.Gate.adds_more (to_list c.args.behind.now) (page_turn outcomes least next) (behind_list told (page_of c.args.behind.now c.sweep_list.result)) (turn_of c.sweep_least-swept.result (paging told next)) core log c.args.gate.now c.sweep_list.new.self
    c.sweep_least-swept.new.gate first (page_reached least next first.reached alike) sweeping)
