use Rattle.std.proofs.Common.{◌≡◌, ◌<◌, ℕ, List, Option, None, length, ap, sym, subst, ◌∙◌}
use Rattle.std.proofs.lemmas.List.Elements.{recursion_from_All}
use Rattle.split_bundle.specs.declared.placed.Placed.{Placed}
use Rattle.doc_tallies.specs.declared.hit_order.HitOrder.{HitOrder}
use Rattle.doc_tallies.specs.Causes.{AsksDocuments, LacksPart}
use Rattle.doc_tallies.specs.Near.{shown}
use Rattle.doc_tallies.specs.Orders.{firsts}
use Rattle.doc_tallies.specs.Picked.{AllBelow, picked}
use Rattle.doc_tallies.proofs.Faults.{result_wider}
use Rattle.doc_tallies.proofs.Nears.{shown_all, shown_firsts}
use Rattle.doc_tallies.proofs.Taken.{all_among}
use Rattle.doc_tallies.proofs.hits.sorted_hits.Goals as goal

pub hits_among-requires : goal.hits_among-requires
hits_among-requires c =
    let docs = c.args.view.now.footer.layout.docs in
    subst (λ (ns : List ℕ). AllBelow docs ns) (sym c.as_slice.ensures.value) (all_among (λ (n : ℕ). n < docs) c.args.numbers.now c.in-Ok.near.items c.requires.below c.in-Ok.ensures.among)

pub returns-in-None-clause-only : goal.returns-in-None-clause-only
returns-in-None-clause-only c = λ documents p part sorted.
    let wanted = c.args.wanted in
    let ns = c.args.numbers.now in
    let pieces = c.args.view.now.pieces in
    let none : c.args.order ≡ None = rw c.in-None.is at sorted in
    let all = ap (λ (o : Option HitOrder). shown o wanted documents ns) none ∙ shown_all wanted documents ns c.requires.some in
    result_wider (λ (hits : List Placed). hits ≡ firsts wanted None (picked ns documents)) (λ (hits : List Placed). hits ≡ firsts wanted c.args.order (picked ns documents))
    (LacksPart (AsksDocuments p documents ns) pieces) (LacksPart (AsksDocuments p documents (shown c.args.order wanted documents ns)) pieces) c.hits_by_address.result
    (λ hits e. e ∙ ap (λ (o : Option HitOrder). firsts wanted o (picked ns documents)) (sym none)) (λ e h. subst (λ (ms : List ℕ). LacksPart (AsksDocuments p documents ms) pieces e) (sym all) h) (c.hits_by_address.ensures.only documents p part)

pub returns-in-Ok-clause-only : goal.returns-in-Ok-clause-only
returns-in-Ok-clause-only c = λ documents p part sorted.
    let order = c.args.order in
    let wanted = c.args.wanted in
    let ns = c.args.numbers.now in
    let near = c.as_slice.result.now in
    let pieces = c.args.view.now.pieces in
    let below = subst (λ (n : ℕ). AllBelow n ns) (part.footer.layout.docs ∙ part.is_split.docs) c.requires.below in
    let told = c.in-Ok.ensures.only c.args.schema.now documents order part.is_split.are_documents (rw c.in-Some.is at sorted) below in
    let same = c.as_slice.ensures.value ∙ told in
    result_wider (λ (hits : List Placed). hits ≡ firsts wanted order (picked near documents)) (λ (hits : List Placed). hits ≡ firsts wanted order (picked ns documents))
    (LacksPart (AsksDocuments p documents near) pieces) (LacksPart (AsksDocuments p documents (shown order wanted documents ns)) pieces) c.hits_among.result
    (λ hits e. e ∙ (ap (λ (ms : List ℕ). firsts wanted order (picked ms documents)) same ∙ shown_firsts order wanted documents ns (recursion_from_All (λ (n : ℕ). n < length documents) ns below)))
    (λ e h. subst (λ (ms : List ℕ). LacksPart (AsksDocuments p documents ms) pieces e) same h) (c.hits_among.ensures.only documents p part)
