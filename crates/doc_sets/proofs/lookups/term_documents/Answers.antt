use Rattle.std.proofs.Common.{◌≡◌, ◌<◌, ◌∙◌, sym, subst, length}
use Rattle.std.specs.List.{AllByRecursion}
use Rattle.split_bundle.specs.Keys.{keys_of}
use Rattle.split_bundle.specs.Lists.{has_key, posting_list}
use Rattle.split_bundle.proofs.Infos.{info_found}
use Rattle.doc_sets.specs.Sets.{IsSetOf}
use Rattle.doc_sets.proofs.Causes.{documents_lack}
use Rattle.doc_sets.proofs.Numbers.{posting_list_below}
use Rattle.doc_sets.proofs.SetLemmas.{listed_set}
use Rattle.doc_sets.proofs.lookups.term_documents.Goals as goal

pub returns-in_err-cursor-clause-only : goal.returns-in_err-cursor-clause-only
returns-in_err-cursor-clause-only c = λ s documents p key is found flag.
    documents_lack c.args.part.now s documents p (IsSetOf (λ d. has_key key (keys_of s d)) documents) key c.args.info.now c.in_err-cursor.field-0.0 c.from_residual-in_err-cursor.result found
    c.from_residual-in_err-cursor.ensures.1 (c.in_err-cursor.ensures.only s documents p key is.part found flag)

pub returns-in_err-fill-clause-only : goal.returns-in_err-fill-clause-only
returns-in_err-fill-clause-only c = λ s documents p key is found flag.
    let list = posting_list s documents key in
    let size : c.in_ok-bits.bits.size ≡ length documents = c.in_ok-bits.ensures.size ∙ c.doc_count.ensures.only s documents p is.part in
    let below = subst (λ n. AllByRecursion (λ p. p.document < n) list) (sym size) (posting_list_below s key documents) in
    let bad = (c.in_err-fill.ensures.only list (c.in_ok-cursor.ensures.only s documents p key is.part found flag) (info_found s documents p key c.args.info.now is.part.is_split found).docs below).0 in
    absurd (cc)

pub returns-clause-only : goal.returns-clause-only
returns-clause-only c = λ s documents p key is found flag.
    let list = posting_list s documents key in
    let size : c.in_ok-bits.bits.size ≡ length documents = c.in_ok-bits.ensures.size ∙ c.doc_count.ensures.only s documents p is.part in
    let below = subst (λ n. AllByRecursion (λ p. p.document < n) list) (sym size) (posting_list_below s key documents) in
    listed_set s key documents c.in_ok-bits.bits c.fill.new.bits c.in_ok-fill.ensures.size size c.in_ok-bits.ensures.none
    (c.in_ok-fill.ensures.only list (c.in_ok-cursor.ensures.only s documents p key is.part found flag) (info_found s documents p key c.args.info.now is.part.is_split found).docs below).1
