use Rattle.std.proofs.Common.{◌≡◌, ◌∙◌, Bool, false, true, [], subst, sym}
use Rattle.term_postings.specs.Cursors.{StandsBefore}
use Rattle.term_postings.specs.Postings.{AreDocuments}
use Rattle.split_bundle.specs.Lists.{keeps_places, posting_list}
use Rattle.split_bundle.proofs.Infos.{info_found}
use Rattle.split_merge.proofs.KeyListLemmas.{can_spell, positions_length}
use Rattle.split_merge.proofs.key_lists.put_term.Goals as goal

pub returns-then-kept : goal.returns-then-kept
returns-then-kept c = λ s ds p key is found kept.
    let at = info_found s ds p key c.args.info.now is.is_split found in
    let list = posting_list s ds key in
    let on : c.args.kept ≡ true = c.if-kept.true in
    let can = can_spell true list (subst (λ (b : Bool). AreDocuments b list) (sym kept ∙ on) at.are_documents) in
    let stands = subst (λ (b : Bool). StandsBefore b c.in-Ok.cursor list []) on (c.in-Ok.ensures s ds p key is found kept) in
    rw on (c.put_kept.ensures list stands at.docs (positions_length p c.args.info.now (keeps_places s key) list at) can)

pub returns-else-kept : goal.returns-else-kept
returns-else-kept c = λ s ds p key is found kept.
    let at = info_found s ds p key c.args.info.now is.is_split found in
    let list = posting_list s ds key in
    let off : c.args.kept ≡ false = c.if-kept.false in
    let can = can_spell false list (subst (λ (b : Bool). AreDocuments b list) (sym kept ∙ off) at.are_documents) in
    let stands = subst (λ (b : Bool). StandsBefore b c.in-Ok.cursor list []) off (c.in-Ok.ensures s ds p key is found kept) in
    rw off (c.put_bare.ensures list stands at.docs can)
