use Rattle.std.proofs.Common.{◌<◌, ◌≤◌, arith, length}
use Rattle.term_postings.specs.Rows.{lent}
use Rattle.term_postings.proofs.Puts.{all_documents, one_document, first_document_of, row_front, lent-length}
use Rattle.term_postings.proofs.encode.put_documents.Goals as goal

pub put_document-requires : goal.put_document-requires
put_document-requires c =
    let lt : c.loop-row.row-index < length c.args.rows.now = omega arith in
    (first_document_of _ _ _ _ _ _ c.loop-row.last _ _ _ (lent c.args.rows.now) (row_front c.args.rows.now c.loop-row.row-index _ lt) c.loop-row.invariant).above.0

pub put_positions-requires : goal.put_positions-requires
put_positions-requires c =
    let lt : c.loop-row.row-index < length c.args.rows.now = omega arith in
    (first_document_of _ _ _ _ _ _ c.loop-row.last _ _ _ (lent c.args.rows.now) (row_front c.args.rows.now c.loop-row.row-index _ lt) c.loop-row.invariant).wants.0.0

pub loop-row-preserved : goal.loop-row-preserved
loop-row-preserved c =
    let lt : c.loop-row.row-index < length c.args.rows.now = omega arith in
    one_document c.args.counted c.args.blocks.now.items c.args.places.now.items c.loop-row.blocks.items c.loop-row.places.items c.put_document.new.blocks.items c.put_positions.new.places.items
    c.args.before c.loop-row.last _ _ _ (lent c.args.rows.now) (row_front c.args.rows.now c.loop-row.row-index _ lt) c.loop-row.invariant
    c.in_ok-put_document.ensures.bytes c.in_ok-put_positions.ensures.bytes c.in_ok-put_document.ensures.fits c.in_ok-put_positions.ensures.fits

pub returns-clause-blocks : goal.returns-clause-blocks
returns-clause-blocks c =
    let whole : length (lent c.args.rows.now) ≤ c.loop-row.row-index = omega (arith, lent-length c.args.rows.now) in
    (all_documents c.args.counted c.args.blocks.now.items c.args.places.now.items c.loop-row.blocks.items c.loop-row.places.items c.args.before c.loop-row.last c.loop-row.row-index (lent c.args.rows.now) whole c.loop-row.invariant).blocks

pub returns-clause-places : goal.returns-clause-places
returns-clause-places c =
    let whole : length (lent c.args.rows.now) ≤ c.loop-row.row-index = omega (arith, lent-length c.args.rows.now) in
    (all_documents c.args.counted c.args.blocks.now.items c.args.places.now.items c.loop-row.blocks.items c.loop-row.places.items c.args.before c.loop-row.last c.loop-row.row-index (lent c.args.rows.now) whole c.loop-row.invariant).places_are

pub returns-clause-last : goal.returns-clause-last
returns-clause-last c =
    let whole : length (lent c.args.rows.now) ≤ c.loop-row.row-index = omega (arith, lent-length c.args.rows.now) in
    let p = all_documents c.args.counted c.args.blocks.now.items c.args.places.now.items c.loop-row.blocks.items c.loop-row.places.items c.args.before c.loop-row.last c.loop-row.row-index (lent c.args.rows.now) whole c.loop-row.invariant in
    (p.last_is, p.up)

pub returns-clause-fits : goal.returns-clause-fits
returns-clause-fits c =
    let whole : length (lent c.args.rows.now) ≤ c.loop-row.row-index = omega (arith, lent-length c.args.rows.now) in
    (all_documents c.args.counted c.args.blocks.now.items c.args.places.now.items c.loop-row.blocks.items c.loop-row.places.items c.args.before c.loop-row.last c.loop-row.row-index (lent c.args.rows.now) whole c.loop-row.invariant).fits
