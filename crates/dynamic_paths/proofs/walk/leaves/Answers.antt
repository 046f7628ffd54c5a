use Rattle.std.proofs.Common.{ap, ◌∙◌}
use Rattle.serde_json.specs.View.{view}
use Rattle.dynamic_paths.specs.Leaves.{leaf_list}
use Rattle.dynamic_paths.specs.Walk.{noted_all}
use Rattle.dynamic_paths.proofs.Noting.{answered}
use Rattle.dynamic_paths.proofs.walk.leaves.Goals as goal

pub returns : goal.returns
returns c =
    answered c.args.schema.now (view c.args.value.now) c.record_leaves.new.gathered c.finish.result c.finish.ensures
    (c.in_ok-record_leaves.ensures ∙ ap (noted_all (leaf_list c.args.schema.now (view c.args.value.now))) c.none-gathered.ensures)
