use Rattle.std.proofs.Common.{true, ◌∙◌, drop, ap, refl, subst, arith}
use Rattle.split_bundle.specs.Keys.{keys_of}
use Rattle.split_bundle.specs.Lists.{places_of, posting_list}
use Rattle.term_postings.specs.Cursors.{StandsBefore, first_document, first_positions}
use Rattle.doc_sets.proofs.SeekLaws.{entry, entry_places, found_from, given_is, given_places}
use Rattle.doc_sets.proofs.places.seek_places.Goals as goal

pub returns-in-Ok : goal.returns-in-Ok
returns-in-Ok c = λ s documents key d can kept got has.
    let document = c.args.document in
    let f = found_from s key document d documents got has in
    let e = can.rest document (omega arith) ∙ f.1 in
    let r = c.in-Ok.ensures.only true can.after can.left can.past can.stands in
    let stands = subst (λ ps. StandsBefore true c.seek.new.self (drop 1 ps) (first_positions ps can.left)) e r.1 in
    let given = c.take_places.ensures.given ∙ given_is _ _ _ _ document r.0 (ap first_document e) c.in-Ok.ensures.given in
    given_places c.take_places.result c.take_places.new.places.items (entry s key document d).positions (places_of key (keys_of s d.doc)) (posting_list s documents key) f.0 (entry s key document d) document c.seek.new.self
    c.take_places.new.cursor f.1 refl stands given (entry_places s key document d kept) (c.take_places.ensures.only f.0 (entry s key document d).positions stands)

pub returns-in-Err : goal.returns-in-Err
returns-in-Err c = λ s documents key d can kept got has.
    let r = (c.in-Err.ensures.only true can.after can.left can.past can.stands).0 in
    absurd (cc)
