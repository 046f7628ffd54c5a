use Rattle.std.proofs.Common.{sym, subst, ap, get_or, add-one, arith}
use Rattle.std.specs.Prelude.{slice_set}
use Rattle.node_run.specs.Each.{ChangedUpTo}
use Rattle.node_run.specs.Restarting.{Dropped}
use Rattle.root_search.specs.Searching.{SearcherStands}
use Rattle.root_search.specs.Steps.{without_request}
use Rattle.node_run.proofs.Zips.{none_changed, one_changed, all_changed, zip_map}
use Rattle.node_run.proofs.drive.restart_clients.Goals as goal

pub loop-i-init : goal.loop-i-init
loop-i-init c = none_changed Dropped c.args.clients.now

pub loop-i-preserved : goal.loop-i-preserved
loop-i-preserved c =
    subst (λ n. ChangedUpTo Dropped n c.args.clients.now (slice_set c.loop-i.clients c.loop-i.i c.restart.new.self)) (sym (add-one c.loop-i.i))
    (one_changed Dropped c.loop-i.i c.args.clients.now c.loop-i.clients (get_or c.loop-i.clients c.loop-i.i c.index-clients-i.result) c.restart.new.self c.loop-i.invariant c.loop-i-test.true
    (ap (λ v. get_or c.loop-i.clients c.loop-i.i v) c.index-clients-i.is)
    (record { stands = λ client core after log s. c.restart.ensures.step client core after log s }))

pub returns : goal.returns
returns c = λ models core after log z.
    zip_map Dropped (λ searcher model. SearcherStands searcher model core log) (λ searcher model. SearcherStands searcher model after log) without_request
    c.args.clients.now c.loop-i.clients models
    (all_changed Dropped c.loop-i.i c.args.clients.now c.loop-i.clients c.loop-i.invariant (omega (arith, c.loop-i.auto.i-end, c.loop-i-test.false)))
    z (λ x y m r s. r.stands m core after log s)
