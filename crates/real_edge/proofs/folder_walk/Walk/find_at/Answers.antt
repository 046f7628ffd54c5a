use Rattle.std.proofs.Common.{Option, ◌++◌, subst}
use Rattle.std.proofs.lemmas.Result.{on_ok_weaker}
use Rattle.real_edge.specs.declared.waiting.Wait.{Wait}
use Rattle.real_edge.specs.Walk.{Meets, option_list}
use Rattle.real_edge.proofs.Meetings.{meets_added, meets_none, rest_added}
use Rattle.real_edge.proofs.folder_walk.Walk.find_at.Goals as goal

pub returns-in-Some-clause-meets : goal.returns-in-Some-clause-meets
returns-in-Some-clause-meets c =
    let prefix = c.args.self.now.prefix in
    let after = c.args.self.now.after in
    let name = c.args.folder.now ++ c.args.name.now in
    on_ok_weaker c.push.result (λ e. meets_added prefix after name c.args.found.now c.push.new.self c.in-Some.one e
    (subst (λ (o : Option Wait). Meets prefix after name (option_list o)) c.in-Some.is c.in_ok-one.ensures)) c.push.ensures.ok

pub returns-in-Some-clause-rest : goal.returns-in-Some-clause-rest
returns-in-Some-clause-rest c = on_ok_weaker c.push.result (λ e. rest_added c.args.found.now c.push.new.self c.in-Some.one e) c.push.ensures.ok

pub returns-in-None-clause-meets : goal.returns-in-None-clause-meets
returns-in-None-clause-meets c =
    let prefix = c.args.self.now.prefix in
    let after = c.args.self.now.after in
    let name = c.args.folder.now ++ c.args.name.now in
    meets_none prefix after name c.args.found.now (subst (λ (o : Option Wait). Meets prefix after name (option_list o)) c.in-None.is c.in_ok-one.ensures)
