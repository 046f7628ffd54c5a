use Rattle.root_search.proofs.Joining.{all_searched, are_counted, asked_searched, join_of, refused_in, whole_searched}
use Rattle.root_search.proofs.leaves.search_whole.Goals as goal

pub joined-requires : goal.joined-requires
joined-requires g c = are_counted c.args.schema.now c.args.request.now c.args.views.now c.in_ok-answers.answers.items c.in_ok-answers.ensures

pub returns-clause-only : goal.returns-clause-only
returns-clause-only g c = λ lists.
    all_searched c.args.schema.now c.args.request.now c.args.views.now lists c.in_ok-answers.answers.items c.joined.result c.in_ok-answers.ensures (c.joined.ensures.only c.args.schema.now) c.joined.ensures.fault

pub returns-clause-there : goal.returns-clause-there
returns-clause-there g c = λ lists.
    whole_searched c.args.schema.now c.args.request.now c.args.views.now lists c.in_ok-answers.answers.items c.joined.result c.in_ok-answers.ensures (c.joined.ensures.only c.args.schema.now) c.joined.ensures.fault

pub returns-clause-asked : goal.returns-clause-asked
returns-clause-asked g c = λ lists.
    asked_searched c.args.schema.now c.args.request.now c.args.views.now lists c.in_ok-answers.answers.items c.joined.result c.in_ok-answers.ensures (c.joined.ensures.only c.args.schema.now) c.joined.ensures.fault

pub returns-clause-each : goal.returns-clause-each
returns-clause-each g c = join_of c.args.schema.now c.args.request.now c.args.views.now c.in_ok-answers.answers.items c.joined.result c.in_ok-answers.ensures c.joined.ensures.each

pub returns-clause-refused : goal.returns-clause-refused
returns-clause-refused g c = refused_in c.args.schema.now c.args.request.now c.args.views.now c.in_ok-answers.answers.items c.joined.result c.in_ok-answers.ensures c.joined.ensures.fault
