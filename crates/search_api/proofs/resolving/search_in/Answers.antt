use Rattle.search_api.proofs.Within.{aggs_within}
use Rattle.search_api.proofs.resolving.search_in.Goals as goal

pub checked-requires : goal.checked-requires
checked-requires c = aggs_within c.args.schema.now.fields c.args.asked.now.aggs c.in_ok-aggs.aggs (cc (c.in_ok-aggs.ensures, c.as_slice-fields.ensures, c.as_slice.ensures))
