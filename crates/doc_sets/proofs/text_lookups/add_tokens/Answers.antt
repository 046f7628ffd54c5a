use Rattle.std.proofs.Common.{◌∙◌, ◌++◌, nat_lt, length, append-nil, ap, sym}
use Rattle.doc_sets.proofs.Looked.{each_looked, looked_all}
use Rattle.doc_sets.proofs.Steps.{none_behind}
use Rattle.doc_sets.proofs.text_lookups.add_tokens.Goals as goal

pub returns : goal.returns
returns c =
    let n = c.args.number in
    let ts = c.args.tokens.now in
    let ls = c.loop-token.lookups in
    sym (append-nil ls) ∙ (ap (λ us. ls ++ each_looked (nat_lt 1 (length ts)) n us) (sym (none_behind ts c.loop-token.token-index c.loop-token-test.false))
    ∙ (c.loop-token.invariant ∙ ap (λ all. c.args.lookups.now ++ all) (looked_all n ts)))
