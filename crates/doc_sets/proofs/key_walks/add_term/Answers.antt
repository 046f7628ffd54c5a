use Rattle.std.proofs.Common.{◌<◌, ◌||◌, ◌∙◌, ap, sym, subst}
use Rattle.std.specs.List.{AllByRecursion}
use Rattle.split_bundle.specs.Keys.{keys_of}
use Rattle.split_bundle.specs.Lists.{has_key, posting_list}
use Rattle.split_bundle.proofs.Infos.{info_found}
use Rattle.term_postings.specs.Reading.{walk}
use Rattle.doc_sets.specs.Faults.{LacksPart, fault_of}
use Rattle.doc_sets.specs.Needed.{IsListFor}
use Rattle.doc_sets.specs.Reads.{numbers_at, numbers_in, of_view, then_read, PutsRead}
use Rattle.doc_sets.specs.Sets.{IsSetOf}
use Rattle.doc_sets.proofs.ReadLists.{put_fault}
use Rattle.doc_sets.proofs.Causes.{list_lacks}
use Rattle.doc_sets.proofs.Numbers.{posting_list_below}
use Rattle.doc_sets.proofs.WalkSteps.{filled_set}
use Rattle.doc_sets.proofs.key_walks.add_term.Goals as goal

pub returns-in_err-cursor-clause-only : goal.returns-in_err-cursor-clause-only
returns-in_err-cursor-clause-only c = λ s documents p key test is found flag set.
    list_lacks c.args.part.now s documents p (λ u. IsSetOf (λ d. test d || has_key key (keys_of s d)) documents c.args.bits.now) key c.args.info.now c.in_err-cursor.field-0.0 c.from_residual.result found
    c.from_residual.ensures.1 (c.in_err-cursor.ensures.only s documents p key is.part found flag)

pub returns-clause-only : goal.returns-clause-only
returns-clause-only c = λ s documents p key test is found flag set.
    let list = posting_list s documents key in
    let below = subst (λ n. AllByRecursion (λ p. p.document < n) list) (sym set.size) (posting_list_below s key documents) in
    filled_set (LacksPart (IsListFor c.args.part.now s documents p key) c.args.part.now.pieces) c.fill.result s key documents test c.args.bits.now c.fill.new.bits c.fill.ensures.size set
    (c.fill.ensures.only list (c.in_ok-cursor.ensures.only s documents p key is.part found flag) (info_found s documents p key c.args.info.now is.part.is_split found).docs below)

pub returns-in_err-cursor-clause-exact : goal.returns-in_err-cursor-clause-exact
returns-in_err-cursor-clause-exact c = λ size.
    let v = c.args.part.now in
    let info = c.args.info.now in
    put_fault c.args.bits.now c.args.bits.now c.from_residual.result (fault_of c.in_err-cursor.field-0.0) (numbers_at v c.args.positions info) c.from_residual.ensures.1
    (ap (λ r. then_read (of_view r) (λ w. numbers_in info.docs v.footer.layout.docs w)) c.in_err-cursor.ensures.exact)

pub returns-clause-exact : goal.returns-clause-exact
returns-clause-exact c = λ size.
    let v = c.args.part.now in
    let info = c.args.info.now in
    let w = walk c.in_ok-cursor.cursor in
    subst (λ r. PutsRead c.args.bits.now c.fill.new.bits c.fill.result r)
    (ap (λ n. numbers_in info.docs n w) size ∙ ap (λ r. then_read (of_view r) (λ x. numbers_in info.docs v.footer.layout.docs x)) (sym c.in_ok-cursor.ensures.exact)) c.fill.ensures.exact
