use Rattle.std.proofs.Common.{◌++◌, subst, ◌≡◌, ◌∙◌, ◌<◌, List, length, get_or, Some, refl, ℕ, ap, arith}
use Rattle.std.specs.Prelude.{slice_get}
use Rattle.std.proofs.lemmas.Option.{slice_get_read}
use Rattle.term_dict.specs.declared.term.Term.{Term}
use Rattle.term_dict.specs.Terms.{Fits, term_bytes}
use Rattle.term_dict.specs.Blocks.{with_block}
use Rattle.term_dict.specs.Builders.{term_with}
use Rattle.term_dict.proofs.Builds.{one_built, all_built}
use Rattle.term_dict.proofs.build.build_dict.Goals as goal

pub loop-number-preserved : goal.loop-number-preserved
loop-number-preserved c =
    let size = ap (λ (l : List Term). length l) c.as_slice-term-items.ensures in
    let lt : c.loop-number.number < length c.args.terms.now = omega arith in
    let at : slice_get c.args.terms.now c.loop-number.number ≡ Some c.term-item.result =
    slice_get_read c.args.terms.now (length c.args.terms.now) c.loop-number.number c.term-item.result refl lt
    (c.term-item.is ∙ ap (λ (l : List Term). get_or l c.loop-number.number c.term-item.result) c.as_slice-term-items.ensures) in
    let start : c.len.result ≡ length c.loop-number.area.items = omega arith in
    let key = c.as_slice-key.ensures in
    one_built c.loop-number.area.items c.put_term.new.out.items c.loop-number.index c.start_block.new.index c.args.terms.now c.loop-number.number c.term-item.result c.loop-number.invariant lt at
    (c.in_ok-start_block.ensures ∙ ap (λ (k : List ℕ). with_block c.loop-number.index c.loop-number.number k c.len.result) key
    ∙ ap (λ (s : ℕ). with_block c.loop-number.index c.loop-number.number c.term-item.result.key s) start)
    (c.in_ok-put_term.ensures.ok ∙ ap (λ (k : List ℕ). c.loop-number.area.items ++ term_bytes (term_with k c.term-item.result.info)) key)
    (subst (λ (k : List ℕ). Fits (term_with k c.term-item.result.info)) key c.in_ok-put_term.ensures.fits)

pub returns : goal.returns
returns c =
    let size = ap (λ (l : List Term). length l) c.as_slice-term-items.ensures in
    rw c.from_vec.ensures (all_built c.loop-number.area.items c.loop-number.index c.args.terms.now c.loop-number.number c.loop-number.invariant (omega arith) (omega arith) c.requires)
