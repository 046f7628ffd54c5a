use Rattle.term_postings.proofs.Puts.{one_number}
use Rattle.term_postings.proofs.encode.put_positions.Goals as goal

pub loop-position-preserved : goal.loop-position-preserved
loop-position-preserved c =
    one_number c.args.places.now.items c.loop-position.places.items c.put_gap.new.out.items c.loop-position.last c.in-Some.position.now c.loop-position.rest.now c.in-Some.behind.now c.args.positions.now
    c.in-Some.ensures.cases.0 c.loop-position.invariant c.in_ok-put_gap.ensures.bytes c.in_ok-put_gap.ensures.fits
