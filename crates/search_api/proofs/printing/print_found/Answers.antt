use Rattle.std.proofs.Common.{[]}
use Rattle.std.specs.Prelude.{codes}
use Rattle.std.specs.Fmt.{decimal}
use Rattle.doc_value.specs.Printed.{quoted}
use Rattle.search_api.specs.Replies.{pair_text, list_text, aggs_text, found_text}
use Rattle.search_api.proofs.Objects.{five_pairs}
use Rattle.search_api.proofs.printing.print_found.Goals as goal

pub returns : goal.returns
unfolding found_text
returns c =
    rw (
      c.in_ok-push-2.ensures.ok,
      c.in_ok-push_number-2.ensures,
      c.in_ok-push_number.ensures,
      c.in_ok-push_hit_list.ensures,
      c.in_ok-push_text.ensures,
      c.in_ok-push_aggregations.ensures,
      c.in_ok-push.ensures.ok,
      c.vacant-out.ensures,
    )
    (five_pairs [] (pair_text (codes "aggregations") (aggs_text c.args.aggregations.now)) (pair_text (codes "client") (quoted c.args.client.now))
    (pair_text (codes "hits") (list_text c.args.hits.now)) (pair_text (codes "num_hits") (decimal c.args.count))
    (pair_text (codes "revision") (decimal c.args.revision)))
