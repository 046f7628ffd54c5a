use Rattle.std.proofs.Common.{◌+◌, ◌<◌, ◌≤◌, ap, drop, length, arith}
use Rattle.split_merge.specs.declared.lists.Listed.{Listed}
use Rattle.split_merge.proofs.SpellLemmas.{all_listed, listed_front, none_listed_yet, one_listed}
use Rattle.split_merge.proofs.spelling.put_documents.Goals as goal

pub loop-entry-init : goal.loop-entry-init
loop-entry-init c = λ ps is. none_listed_yet c.args.kept c.args.blocks.now.items c.args.before ps

pub loop-entry-preserved : goal.loop-entry-preserved
loop-entry-preserved c = λ ps is.
    let i = c.loop-entry.entry-index in
    let lt : c.loop-entry.entry-index < length c.args.entries.now = omega arith in
    let f = listed_front ps c.args.entries.now i _ is lt in
    one_listed c.args.kept c.args.blocks.now.items c.loop-entry.blocks.items c.put_document.new.blocks.items c.args.before c.loop-entry.last _ f.0 (drop i ps) (drop (i + 1) ps) ps f.1 (c.loop-entry.invariant ps is)
    (ap (λ (x : Listed). x.document) f.2) (c.in_ok-put_document.ensures f.0.positions (ap (λ (x : Listed). x.positions) f.2))

pub returns-clause-blocks : goal.returns-clause-blocks
returns-clause-blocks c = λ ps is.
    let whole : length c.args.entries.now ≤ c.loop-entry.entry-index = omega arith in
    (all_listed c.args.kept c.args.blocks.now.items c.loop-entry.blocks.items c.args.before c.loop-entry.last c.loop-entry.entry-index ps c.args.entries.now is whole (c.loop-entry.invariant ps is)).0

pub returns-clause-last : goal.returns-clause-last
returns-clause-last c = λ ps is.
    let whole : length c.args.entries.now ≤ c.loop-entry.entry-index = omega arith in
    (all_listed c.args.kept c.args.blocks.now.items c.loop-entry.blocks.items c.args.before c.loop-entry.last c.loop-entry.entry-index ps c.args.entries.now is whole (c.loop-entry.invariant ps is)).1
