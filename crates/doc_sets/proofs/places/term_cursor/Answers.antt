use Rattle.std.proofs.Common.{true, sym}
use Rattle.split_bundle.specs.Lists.{posting_list}
use Rattle.doc_sets.proofs.ListPlaces.{none_given}
use Rattle.doc_sets.proofs.SeekLaws.{can_first}
use Rattle.doc_sets.proofs.places.term_cursor.Goals as goal

pub returns : goal.returns
returns c = λ s documents p key is found kept.
    can_first (posting_list s documents key) c.in_ok-cursor.cursor (c.in_ok-cursor.ensures.only s documents p key is.part found (sym kept))
    (none_given c.args.part.now.footer.layout.sections c.args.part.now.pieces c.args.info.now true c.in_ok-cursor.cursor c.in_ok-cursor.ensures.exact)
