use Rattle.std.proofs.Common.{arith, rules, ◌≡◌, ◌∙◌, ap, sym, refl, true, false, cond, ℕ, List, Option, Some, None, Result, Ok}
use Rattle.byte_fields.specs.declared.corrupt.Corrupt.{Corrupt}
use Rattle.std.specs.Ordering.{is_eq}
use Rattle.term_dict.specs.Keys.{order}
use Rattle.term_dict.specs.declared.term.TermInfo.{TermInfo}
use Rattle.term_dict.specs.declared.term.Term.{Term}
use Rattle.term_dict.specs.Readers.{term_of}
use Rattle.term_dict.proofs.Scans.{nothing_there, there, reads_there}
use Rattle.term_dict.proofs.Walking.{raised, info_walk, fault_walk, said_end, said_term, said_fault}
use Rattle.term_dict.proofs.block.find_from.Goals as goal

abbrev found : Option TermInfo → Result (Option TermInfo) Corrupt
found o = Ok o

abbrev said : List ℕ → Term × ℕ → Option TermInfo
said key t = cond (is_eq (order t.0.key key)) (Some t.0.info) None

pub returns-then-at-bytes-clause-only : goal.returns-then-at-bytes-clause-only
returns-then-at-bytes-clause-only c terms are e =
    sym (ap found (nothing_there c.args.bytes.now c.in_ok-at.at c.args.key.now terms are (c.in_ok-at.ensures.only terms are e) (omega arith)))

pub returns-in_err-entry-clause-only : goal.returns-in_err-entry-clause-only
returns-in_err-entry-clause-only c terms are e =
    absurd (reads_there c.args.bytes.now c.in_ok-at.at c.args.key.now terms are (c.in_ok-at.ensures.only terms are e) (omega (arith, c.in_ok-at.ensures.within)) c.in_err-entry.ensures.only)

pub returns-then-not-is_same-clause-only : goal.returns-then-not-is_same-clause-only
returns-then-not-is_same-clause-only c terms are e =
    let other : is_eq (order c.in_ok-entry.entry.key.now c.args.key.now) ≡ false = search rules in
    sym (ap found (there c.args.bytes.now c.in_ok-at.at c.in_ok-entry._behind c.args.key.now terms c.in_ok-entry.entry are (c.in_ok-at.ensures.only terms are e) (omega (arith, c.in_ok-at.ensures.within)) c.in_ok-entry.ensures.only
    ∙ rw other refl))

pub returns-clause-only : goal.returns-clause-only
returns-clause-only c terms are e =
    let same : is_eq (order c.in_ok-entry.entry.key.now c.args.key.now) ≡ true = search rules in
    sym (ap found (there c.args.bytes.now c.in_ok-at.at c.in_ok-entry._behind c.args.key.now terms c.in_ok-entry.entry are (c.in_ok-at.ensures.only terms are e) (omega (arith, c.in_ok-at.ensures.within)) c.in_ok-entry.ensures.only
    ∙ rw same refl))

pub returns-in_err-at-clause-exact : goal.returns-in_err-at-clause-exact
returns-in_err-at-clause-exact c = fault_walk c.args.bytes.now c.args.from c.args.key.now c.in_err-at.field-0.0 c.from_residual.result c.in_err-at.ensures.exact (raised c.from_residual.result c.in_err-at.field-0.0 c.from_residual.ensures.1)

pub returns-then-at-bytes-clause-exact : goal.returns-then-at-bytes-clause-exact
returns-then-at-bytes-clause-exact c = info_walk c.args.bytes.now c.args.from c.args.key.now c.in_ok-at.at _ c.in_ok-at.ensures.exact
    (sym (said_end c.args.bytes.now c.in_ok-at.at None (said c.args.key.now) (omega arith)))

pub returns-in_err-entry-clause-exact : goal.returns-in_err-entry-clause-exact
returns-in_err-entry-clause-exact c = info_walk c.args.bytes.now c.args.from c.args.key.now c.in_ok-at.at _ c.in_ok-at.ensures.exact
    (raised c.from_residual-in_err-entry.result c.in_err-entry.field-0.0 c.from_residual-in_err-entry.ensures.1
    ∙ sym (said_fault c.args.bytes.now c.in_ok-at.at None (said c.args.key.now) c.in_err-entry.field-0.0 (omega (arith, c.in_ok-at.ensures.within)) c.in_err-entry.ensures.exact))

pub returns-then-not-is_same-clause-exact : goal.returns-then-not-is_same-clause-exact
returns-then-not-is_same-clause-exact c =
    let other : is_eq (order c.in_ok-entry.entry.key.now c.args.key.now) ≡ false = search rules in
    info_walk c.args.bytes.now c.args.from c.args.key.now c.in_ok-at.at _ c.in_ok-at.ensures.exact
    (sym (said_term c.args.bytes.now c.in_ok-at.at None (said c.args.key.now) (term_of c.in_ok-entry.entry, c.in_ok-entry._behind) (omega (arith, c.in_ok-at.ensures.within)) c.in_ok-entry.ensures.exact ∙ rw other refl))

pub returns-clause-exact : goal.returns-clause-exact
returns-clause-exact c =
    let same : is_eq (order c.in_ok-entry.entry.key.now c.args.key.now) ≡ true = search rules in
    info_walk c.args.bytes.now c.args.from c.args.key.now c.in_ok-at.at _ c.in_ok-at.ensures.exact
    (sym (said_term c.args.bytes.now c.in_ok-at.at None (said c.args.key.now) (term_of c.in_ok-entry.entry, c.in_ok-entry._behind) (omega (arith, c.in_ok-at.ensures.within)) c.in_ok-entry.ensures.exact ∙ rw same refl))
