use Rattle.std.proofs.Common.{refl, arith, ◌≡◌, [], List, sym, subst}
use Rattle.index_world.specs.Gate.{grace_of}
use Rattle.root_search.specs.Fetching.{IsLooked, IsPieceFetched}
use Rattle.root_search.proofs.Fetches.{all_done, handed_on, made_of}
use Rattle.std.specs.List.{AllByRecursion}
use Rattle.root_search.specs.FetchCalls.{FetchCall, IsPartLooked, IsPieceRead, NeverRefused}
use Rattle.root_search.proofs.CallsMade.{all_of, none_called, read_well, then_lost}
use Rattle.root_search.proofs.fetching.look.Goals as goal

pub returns-in-Ok-clause-step : goal.returns-in-Ok-clause-step
returns-in-Ok-clause-step g c = λ config bytes core log stands configured file.
    let f = c.in-Ok.ensures.step config bytes core log stands configured file in
    all_done (grace_of config c.args.plan.now) file.row.number g.G.Gate.Stands g.G.Gate.Between g.G.Gate.Adds g.G.Gate.bytes_fetched core log c.args.gate.now (IsLooked c.args.part) c.args.part 1 0 _
    (made_of (grace_of config c.args.plan.now) file.row.number g.G.Gate.Stands g.G.Gate.Between g.G.Gate.Adds g.G.Gate.bytes_fetched core log c.args.gate.now (IsPieceFetched bytes 0 0) _ 1 0 _ f f.says.1.once f.says.1.few)
    (record { same = refl; once = refl; none = omega arith })

pub returns-clause-step : goal.returns-clause-step
returns-clause-step g c = λ config bytes core log stands configured file.
    handed_on (grace_of config c.args.plan.now) file.row.number g.G.Gate.Stands g.G.Gate.Between g.G.Gate.Adds g.G.Gate.bytes_fetched core log c.args.gate.now (IsPieceFetched bytes 0 0) (IsLooked c.args.part) c.in-Err.error _ _ refl (c.in-Err.ensures.step config bytes core log stands configured file)

pub returns-in-Ok-clause-reads : goal.returns-in-Ok-clause-reads
returns-in-Ok-clause-reads g c =
    let f = c.in-Ok.ensures.reads in
    read_well g.G.Gate.Stands g.G.Gate.Between g.G.Gate.Owns g.G.Gate.Adds g.G.Gate.bytes_fetched g.G.Gate.told g.G.Gate.Answers c.args.plan.now c.args.place (IsPartLooked c.args.part) NeverRefused c.args.part f.calls c.args.gate.now _ (all_of g.G.Gate.Stands g.G.Gate.Between g.G.Gate.Owns g.G.Gate.Adds g.G.Gate.bytes_fetched g.G.Gate.told g.G.Gate.Answers c.args.plan.now c.args.place (IsPieceRead 0 0) NeverRefused _ c.args.gate.now _ f)
    (record { same = refl; no_bytes = subst (λ (cs : List FetchCall). AllByRecursion (λ call. call.len ≡ 0) cs) (sym f.says.1.calls_are) (refl, tt) })

pub returns-clause-reads : goal.returns-clause-reads
returns-clause-reads g c =
    then_lost g.G.Gate.Stands g.G.Gate.Between g.G.Gate.Owns g.G.Gate.Adds g.G.Gate.bytes_fetched g.G.Gate.told g.G.Gate.Answers c.args.plan.now c.args.place (IsPieceRead 0 0) (IsPartLooked c.args.part) NeverRefused NeverRefused c.in-Err.error _ [] c.args.gate.now c.args.gate.now _ (none_called g.G.Gate.Stands g.G.Gate.Between g.G.Gate.Owns g.G.Gate.Adds g.G.Gate.bytes_fetched g.G.Gate.told g.G.Gate.Answers c.args.plan.now c.args.place c.args.gate.now) refl (λ ys never. never) c.in-Err.ensures.reads
