use Rattle.index_world.specs.Gate.{grace_of}
use Rattle.root_search.proofs.Fetches.{one_failed, one_fetched}
use Rattle.std.proofs.Common.{ℕ, ap}
use Rattle.root_search.specs.declared.fetched_splits.KeptPiece.{KeptPiece}
use Rattle.root_search.proofs.CallsMade.{one_gave, one_lost}
use Rattle.root_search.proofs.fetching.fetch_piece.Goals as goal

pub returns-in-Ok-clause-step : goal.returns-in-Ok-clause-step
returns-in-Ok-clause-step g c = λ config bytes core log stands configured file.
    one_fetched (grace_of config c.args.plan.now) file.row.number g.G.Gate.Stands g.G.Gate.Between g.G.Gate.Adds g.G.Gate.bytes_fetched core log c.args.gate.now g.G.Gate.Owns g.met.G.Gate.between_goes bytes c.args.start c.args.len c.min.result c.in-Ok.piece _
    file.planned (c.in-Ok.ensures.step core log config file.row stands configured file.stands) c.in-Ok.ensures.counts c.min.ensures

pub returns-in-Err-clause-step : goal.returns-in-Err-clause-step
returns-in-Err-clause-step g c = λ config bytes core log stands configured file.
    one_failed (grace_of config c.args.plan.now) file.row.number g.G.Gate.Stands g.G.Gate.Between g.G.Gate.Adds g.G.Gate.bytes_fetched core log c.args.gate.now g.G.Gate.Owns g.met.G.Gate.between_goes bytes c.args.start c.args.len c.in-Err.error _
    file.planned (c.in-Err.ensures.step core log config file.row stands configured file.stands) c.in-Err.ensures.counts

pub returns-in-Ok-clause-reads : goal.returns-in-Ok-clause-reads
returns-in-Ok-clause-reads g c =
    one_gave g.G.Gate.Stands g.G.Gate.Between g.G.Gate.Owns g.G.Gate.Adds g.G.Gate.bytes_fetched g.G.Gate.told g.G.Gate.Answers c.args.plan.now c.args.place c.args.start c.args.len _ c.in-Ok.piece c.args.gate.now _ (record { counts = c.in-Ok.ensures.counts; answered = c.in-Ok.ensures.answered; kinds = c.in-Ok.ensures.kinds; answers = c.in-Ok.ensures.answers; step = c.in-Ok.ensures.step })
    (ap (λ (n : ℕ). let kept : KeptPiece = record { start = n; bytes = c.in-Ok.piece.bytes } in kept) c.min.ensures)

pub returns-in-Err-clause-reads : goal.returns-in-Err-clause-reads
returns-in-Err-clause-reads g c = one_lost g.G.Gate.Stands g.G.Gate.Between g.G.Gate.Owns g.G.Gate.Adds g.G.Gate.bytes_fetched g.G.Gate.told g.G.Gate.Answers c.args.plan.now c.args.place c.args.start c.args.len c.in-Err.error c.args.gate.now _ (record { counts = c.in-Err.ensures.counts; answered = c.in-Err.ensures.answered; kinds = c.in-Err.ensures.kinds; answers = c.in-Err.ensures.answers; step = c.in-Err.ensures.step })
