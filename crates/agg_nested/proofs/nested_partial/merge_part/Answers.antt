use Rattle.agg_nested.proofs.Joining.{ok_then}
use Rattle.agg_nested.proofs.Raised.{can_join, groups_merged}
use Rattle.agg_nested.proofs.nested_partial.merge_part.Goals as goal

pub join_groups-requires : goal.join_groups-requires
join_groups-requires c = λ some.
    can_join c.args.asked.now.agg c.args.asked.now.nested c.args.into.now.groups c.args.other.now.groups c.requires.known.0 c.requires.known.1 c.requires.known.4
    (c.requires.known.2.groups some) (c.requires.known.3.groups some)

pub returns : goal.returns
returns c =
    ok_then c.join_groups.result
    (λ joined mine yours h k. record {
      flat = c.in_ok-merge_flat.ensures mine yours h.flat k.flat;
      groups = λ some.
          groups_merged c.args.asked.now.agg c.args.asked.now.nested c.args.into.now.groups c.args.other.now.groups c.join_groups.new.groups (joined some) mine yours (h.groups some) (k.groups some);
    })
    c.join_groups.ensures
