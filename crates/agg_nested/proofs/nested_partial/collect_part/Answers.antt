use Rattle.std.proofs.Common.{arith, ◌+◌}
use Rattle.agg_nested.proofs.Joining.{ok_then}
use Rattle.agg_nested.proofs.Raised.{can_raise, groups_raised}
use Rattle.agg_nested.proofs.nested_partial.collect_part.Goals as goal

pub collect_groups-requires-clause-known : goal.collect_groups-requires-clause-known
collect_groups-requires-clause-known c = λ some.
    let few = c.requires.few in
    let many = c.requires.known.many in
    can_raise c.args.asked.now.agg c.args.asked.now.nested c.args.part.now.groups c.requires.known.documents (c.args.documents + 1) (omega arith) (c.requires.known.stands.groups some)

pub returns : goal.returns
returns c =
    ok_then c.collect_groups.result
    (λ raised docs many h. record {
      flat = c.in_ok-collect_flat.ensures docs h.flat;
      groups = λ some.
          groups_raised c.args.asked.now.agg c.args.asked.now.nested c.args.part.now.groups c.collect_groups.new.groups c.args.doc.now (c.args.documents + 1) docs (omega arith) (h.groups some) (raised some);
    })
    c.collect_groups.ensures
