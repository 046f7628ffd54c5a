use Rattle.std.proofs.Common.{◌<◌, ◌∙◌, refl, sym, arith, length}
use Rattle.term_dict.specs.Terms.{area}
use Rattle.term_dict.proofs.Lending.{lent_end, has_next, lent_step}
use Rattle.term_dict.proofs.range.TermRange.next.Goals as goal

pub returns-then-self-clause-only : goal.returns-then-self-clause-only
returns-then-self-clause-only c lent l =
    let none = lent_end c.args.self.now lent l (omega arith) in
    rw none (tt, record { rest = l.rest; are_terms = l.are_terms; bytes_are = l.bytes_are; lent_is = sym none ∙ l.lent_is })

pub returns-in_err-entry-clause-only : goal.returns-in_err-entry-clause-only
returns-in_err-entry-clause-only c lent l =
    let lt : c.args.self.now.at < length c.args.self.now.area.now = omega (arith, c.args.self.now.within) in
    let h = has_next c.args.self.now lent l lt in
    absurd (c.in_err-entry.ensures.only h.first (area h.more) h.fits h.bytes_are)

pub returns-clause-only : goal.returns-clause-only
returns-clause-only c lent l =
    let lt : c.args.self.now.at < length c.args.self.now.area.now = omega (arith, c.args.self.now.within) in
    let h = has_next c.args.self.now lent l lt in
    let got = c.in_ok-entry.ensures.only h.first (area h.more) h.fits h.bytes_are in
    let step = lent_step c.args.self.now lent c.in_ok-entry.next c.in_ok-entry.entry h c.in_ok-entry.ensures.only (sym c.if-not-is_before.ensures) in
    rw step ((got.key, got.info), record { rest = h.more; are_terms = h.are_terms; bytes_are = got.left_is; lent_is = refl })
