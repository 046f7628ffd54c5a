use Rattle.root_search.proofs.ShareJoins.{shares_given}
use Rattle.root_search.proofs.leaves.first_shares.Goals as goal

pub returns : goal.returns
returns g c =
    shares_given c.args.schema.now c.args.request.now c.in_ok-asked.asked c.args.wanted c.args.views.now c.in_ok-answers.field-0.items c.shares_of.result c.in_ok-asked.ensures.alike c.in_ok-asked.ensures.wanted c.requires.some c.requires.part c.in_ok-answers.ensures
    c.shares_of.ensures
