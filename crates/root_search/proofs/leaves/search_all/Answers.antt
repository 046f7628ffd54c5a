use Rattle.root_search.specs.Leaves.{IsJoinOf}
use Rattle.root_search.proofs.Joining.{asked_views, whole_views}
use Rattle.root_search.proofs.ShareJoins.{some_is}
use Rattle.root_search.proofs.ShareWholes.{answer_of_join}
use Rattle.root_search.proofs.leaves.search_all.Goals as goal

pub returns-in-Some-clause-only : goal.returns-in-Some-clause-only
returns-in-Some-clause-only g c = λ lists are few asked.
    let s = c.args.schema.now in
    let r = c.args.request.now in
    let views = c.args.views.now in
    answer_of_join s r views lists c.in-Some.all (some_is (IsJoinOf s r views) c.in_ok-all.all c.in-Some.all c.in_ok-all.ensures.each c.in-Some.is) are asked

pub returns-in-Some-clause-asked : goal.returns-in-Some-clause-asked
returns-in-Some-clause-asked g c = λ lists are few asked.
    let s = c.args.schema.now in
    let r = c.args.request.now in
    let views = c.args.views.now in
    answer_of_join s r views lists c.in-Some.all (some_is (IsJoinOf s r views) c.in_ok-all.all c.in-Some.all c.in_ok-all.ensures.each c.in-Some.is) (asked_views s r views lists are) asked

pub returns-in-Some-clause-there : goal.returns-in-Some-clause-there
returns-in-Some-clause-there g c = λ lists are few asked.
    let s = c.args.schema.now in
    let r = c.args.request.now in
    let views = c.args.views.now in
    answer_of_join s r views lists c.in-Some.all (some_is (IsJoinOf s r views) c.in_ok-all.all c.in-Some.all c.in_ok-all.ensures.each c.in-Some.is) (whole_views s views lists are) asked
