use Rattle.std.proofs.Common.{arith, []}
use Rattle.index_world.specs.Gate.{grace_of}
use Rattle.root_search.specs.Fetching.{IsLooked, IsPartFetched, needed_calls, part_calls}
use Rattle.root_search.proofs.Fetches.{all_done, file_stands, handed_on, made_of, then_fetched}
use Rattle.root_search.proofs.Needed.{looked_part, no_more, once_more}
use Rattle.split_bundle.specs.Files.{file_bytes}
use Rattle.root_search.specs.FetchCalls.{IsNoPart, IsPartLooked, IsPartRead, NeverRefused}
use Rattle.root_search.proofs.CallsMade.{all_of, none_called, part_looked, then_lost, then_read}
use Rattle.root_search.proofs.Stands.{configured_after}
use Rattle.root_search.proofs.fetching.fetch_part.Goals as goal

pub returns-in_err-part-clause-step : goal.returns-in_err-part-clause-step
returns-in_err-part-clause-step g c = λ config documents p core log stands configured file is asked known.
    handed_on (grace_of config c.args.plan.now) file.row.number g.G.Gate.Stands g.G.Gate.Between g.G.Gate.Adds g.G.Gate.bytes_fetched core log c.args.gate.now (IsPartFetched config.schema c.args.request.now c.args.known documents p (needed_calls c.args.known)) (IsPartFetched config.schema c.args.request.now c.args.known documents p (part_calls c.args.known))
    c.in_err-part.field-0.0 c.from_residual.result _ c.from_residual.ensures.1 (c.in_err-part.ensures.step config documents p core log stands configured file is asked known)

pub returns-then-asked_nothing-clause-step : goal.returns-then-asked_nothing-clause-step
returns-then-asked_nothing-clause-step g c = λ config documents p core log stands configured file is asked known.
    let part = c.in_ok-part.part in
    let k = c.in_ok-part.ensures.step config documents p core log stands configured file is asked known in
    let one = made_of (grace_of config c.args.plan.now) file.row.number g.G.Gate.Stands g.G.Gate.Between g.G.Gate.Adds g.G.Gate.bytes_fetched core log c.args.gate.now (IsPartFetched config.schema c.args.request.now c.args.known documents p (needed_calls c.args.known)) part (needed_calls c.args.known part) k.drawn _ k k.says.1.calls_are (omega arith) in
    let count = once_more c.args.known part c.is_some-was_known.result c.asked_nothing.result c.is_some-was_known.ensures c.asked_nothing.ensures c.if-asked_nothing.true in
    then_fetched (grace_of config c.args.plan.now) file.row.number g.G.Gate.Stands g.G.Gate.Between g.G.Gate.Adds g.G.Gate.bytes_fetched core log c.args.gate.now g.met.G.Gate.adds_more (IsLooked part) (IsPartFetched config.schema c.args.request.now c.args.known documents p (part_calls c.args.known)) c.look.result (needed_calls c.args.known part) k.drawn _ _ one
    (λ given n d h. looked_part config.schema c.args.request.now c.args.known documents p part given _ n k.drawn d k.says.1 h count)
    (c.look.ensures.step config (file_bytes p) one.after log one.stands (configured_after core one.after config configured one.goes_on.always) (file_stands core one.after (grace_of config c.args.plan.now).until c.args.plan.now c.args.place (file_bytes p) one.goes_on.always file))

pub returns-clause-step : goal.returns-clause-step
returns-clause-step g c = λ config documents p core log stands configured file is asked known.
    let part = c.in_ok-part.part in
    let k = c.in_ok-part.ensures.step config documents p core log stands configured file is asked known in
    let one = made_of (grace_of config c.args.plan.now) file.row.number g.G.Gate.Stands g.G.Gate.Between g.G.Gate.Adds g.G.Gate.bytes_fetched core log c.args.gate.now (IsPartFetched config.schema c.args.request.now c.args.known documents p (needed_calls c.args.known)) part (needed_calls c.args.known part) k.drawn _ k k.says.1.calls_are (omega arith) in
    all_done (grace_of config c.args.plan.now) file.row.number g.G.Gate.Stands g.G.Gate.Between g.G.Gate.Adds g.G.Gate.bytes_fetched core log c.args.gate.now (IsPartFetched config.schema c.args.request.now c.args.known documents p (part_calls c.args.known)) part (needed_calls c.args.known part) k.drawn _ one
    (record {
      needed = k.says.1.needed;
      footer = k.says.1.footer;
      calls_are = no_more c.args.known part c.is_some-was_known.result c.asked_nothing.result c.is_some-was_known.ensures c.asked_nothing.ensures c.if-asked_nothing.false;
      draws = k.says.1.draws;
    })

pub returns-in_err-part-clause-reads : goal.returns-in_err-part-clause-reads
returns-in_err-part-clause-reads g c = λ row there.
    then_lost g.G.Gate.Stands g.G.Gate.Between g.G.Gate.Owns g.G.Gate.Adds g.G.Gate.bytes_fetched g.G.Gate.told g.G.Gate.Answers c.args.plan.now c.args.place (IsPartRead c.args.known row.number row.size) (IsPartRead c.args.known row.number row.size) (IsNoPart c.args.known row.size) (IsNoPart c.args.known row.size) c.in_err-part.field-0.0 c.from_residual.result [] c.args.gate.now c.args.gate.now _
    (none_called g.G.Gate.Stands g.G.Gate.Between g.G.Gate.Owns g.G.Gate.Adds g.G.Gate.bytes_fetched g.G.Gate.told g.G.Gate.Answers c.args.plan.now c.args.place c.args.gate.now) c.from_residual.ensures.1 (λ ys none. none) (c.in_err-part.ensures.reads row there)

pub returns-then-asked_nothing-clause-reads : goal.returns-then-asked_nothing-clause-reads
returns-then-asked_nothing-clause-reads g c = λ row there.
    let part = c.in_ok-part.part in
    let k = c.in_ok-part.ensures.reads row there in
    then_read g.G.Gate.Stands g.G.Gate.Between g.G.Gate.Owns g.G.Gate.Adds g.G.Gate.bytes_fetched g.G.Gate.told g.G.Gate.Answers c.args.plan.now c.args.place (IsPartLooked part) (IsPartRead c.args.known row.number row.size) NeverRefused (IsNoPart c.args.known row.size) c.look.result k.calls c.args.gate.now _ _ (all_of g.G.Gate.Stands g.G.Gate.Between g.G.Gate.Owns g.G.Gate.Adds g.G.Gate.bytes_fetched g.G.Gate.told g.G.Gate.Answers c.args.plan.now c.args.place (IsPartRead c.args.known row.number row.size) (IsNoPart c.args.known row.size) part c.args.gate.now _ k)
    (λ given ys l. part_looked c.args.known row.number row.size part given k.calls ys k.says.1 l) (λ ys never. absurd never) c.look.ensures.reads

pub returns-clause-reads : goal.returns-clause-reads
returns-clause-reads g c = c.in_ok-part.ensures.reads
