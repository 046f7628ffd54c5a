use Rattle.std.proofs.Common.{◌≤◌, length, arith}
use Rattle.doc_tallies.proofs.Leasts.{no_bar, the_bar}
use Rattle.doc_tallies.proofs.least.last_of.Goals as goal

pub returns-then-len-wanted : goal.returns-then-len-wanted
returns-then-len-wanted c = λ seen are.
    let kept = c.args.best.now.data.items in
    let counted = c.len.ensures in
    let long = c.args.best.now.data.ok.0 in
    no_bar c.args.wanted seen kept are.least (omega arith)

pub returns-in-Some : goal.returns-in-Some
returns-in-Some c = λ seen are.
    let kept = c.args.best.now.data.items in
    let counted = c.len.ensures in
    let long = c.args.best.now.data.ok.0 in
    let full : c.args.wanted ≤ length kept = omega arith in
    the_bar c.args.wanted c.in-Some.greatest.now seen kept c.requires are.least full (c.in-Some.ensures.greatest are.heap) c.in-Some.ensures.lookup
