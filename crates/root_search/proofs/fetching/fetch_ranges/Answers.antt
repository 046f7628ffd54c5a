use Rattle.std.proofs.Common.{List, ◌+◌, ◌++◌, sym, ap, ◌∙◌, arith, take, []}
use Rattle.std.proofs.lemmas.List.{append-nil, take_all}
use Rattle.index_world.specs.Gate.{grace_of}
use Rattle.leaf_search.specs.FileRanges.{total}
use Rattle.leaf_search.specs.declared.file_ranges.FileRange.{FileRange}
use Rattle.root_search.specs.Fetching.{AreRangesFetched, IsPieceFetched}
use Rattle.root_search.specs.FetchedSplits.{pieces_at}
use Rattle.root_search.proofs.Fetches.{all_done, all_short, file_stands, made_as, none_made, then_failed, then_given}
use Rattle.root_search.proofs.Kept.{kept_more, total_more}
use Rattle.root_search.specs.FetchCalls.{AreKeptBehind, IsPieceRead, NeverRefused}
use Rattle.root_search.proofs.CallsMade.{none_called, piece_kept, read_ill, read_well, then_all, then_lost}
use Rattle.root_search.proofs.Stands.{configured_after}
use Rattle.root_search.proofs.fetching.fetch_ranges.Goals as goal

pub loop-range-init : goal.loop-range-init
loop-range-init g c = record {
  later = g.met.G.Gate.since_same c.args.gate.now;
  step = λ config bytes core log stands configured file. (none_made (grace_of config c.args.plan.now) file.row.number g.G.Gate.Stands g.G.Gate.Between g.G.Gate.Adds g.G.Gate.bytes_fetched core log _ (g.met.G.Gate.adds_none c.args.gate.now) stands, sym (append-nil c.args.pieces.now));
  reads = ([], none_called g.G.Gate.Stands g.G.Gate.Between g.G.Gate.Owns g.G.Gate.Adds g.G.Gate.bytes_fetched g.G.Gate.told g.G.Gate.Answers c.args.plan.now c.args.place c.args.gate.now, sym (append-nil c.args.pieces.now));
}

pub loop-range-preserved : goal.loop-range-preserved
loop-range-preserved g c = record {
  later = g.met.G.Gate.since_more c.args.gate.now c.loop-range.gate c.fetch_piece.new.gate c.loop-range.invariant.later c.fetch_piece.ensures.later;
  step = λ config bytes core log stands configured file.
      let i = c.loop-range.invariant.step config bytes core log stands configured file in
      let r = c.range-item.result in
      let rs = c.args.ranges.now in
      let n = c.loop-range.range-index in
      let f = c.in_ok-piece.ensures.step config bytes i.0.after log i.0.stands (configured_after core i.0.after config configured i.0.goes_on.always) (file_stands core i.0.after (grace_of config c.args.plan.now).until c.args.plan.now c.args.place bytes i.0.goes_on.always file) in (
        made_as (grace_of config c.args.plan.now) file.row.number g.G.Gate.Stands g.G.Gate.Between g.G.Gate.Adds g.G.Gate.bytes_fetched core log _ (n + 1) (total (take n rs) + r.len) (total (take (n + 1) rs)) _ (total_more rs n r c.loop-range-test.true c.range-item.is)
            (then_given (grace_of config c.args.plan.now) file.row.number g.G.Gate.Stands g.G.Gate.Between g.G.Gate.Adds g.G.Gate.bytes_fetched core log _ g.met.G.Gate.adds_more (IsPieceFetched bytes r.start r.len) c.in_ok-piece.piece n (total (take n rs)) 1 r.len _ _ i.0 f f.says.1.once f.says.1.few),
        kept_more bytes rs n c.args.pieces.now c.loop-range.pieces c.push.new.self r c.in_ok-piece.piece i.1 c.loop-range-test.true c.range-item.is f.says.1.start f.says.1.bytes_are c.in_ok-push.ensures.ok,
      );
  reads = (
      let i = c.loop-range.invariant.reads in
      let r = c.range-item.result in
      let f = c.in_ok-piece.ensures.reads in (
        i.0 ++ f.calls,
        then_all g.G.Gate.Stands g.G.Gate.Between g.G.Gate.Owns g.G.Gate.Adds g.G.Gate.bytes_fetched g.G.Gate.told g.G.Gate.Answers c.args.plan.now c.args.place (IsPieceRead r.start r.len) NeverRefused c.in_ok-piece.piece i.0 c.args.gate.now _ _ i.1 f,
        piece_kept c.args.pieces.now c.loop-range.pieces c.push.new.self r.start r.len c.in_ok-piece.piece i.0 f.calls i.2 f.says.1 c.in_ok-push.ensures.ok,
      )
      );
}

pub returns-in_err-piece-clause-step : goal.returns-in_err-piece-clause-step
returns-in_err-piece-clause-step g c = λ config bytes core log stands configured file.
    let i = c.loop-range.invariant.step config bytes core log stands configured file in
    let r = c.range-item.result in
    let n = c.loop-range.range-index in
    let f = c.in_err-piece.ensures.step config bytes i.0.after log i.0.stands (configured_after core i.0.after config configured i.0.goes_on.always) (file_stands core i.0.after (grace_of config c.args.plan.now).until c.args.plan.now c.args.place bytes i.0.goes_on.always file) in
    then_failed (grace_of config c.args.plan.now) file.row.number g.G.Gate.Stands g.G.Gate.Between g.G.Gate.Adds g.G.Gate.bytes_fetched core log _ g.met.G.Gate.adds_more (IsPieceFetched bytes r.start r.len) _ c.in_err-piece.field-0.0 c.from_residual.result n (total (take n c.args.ranges.now)) _ _ i.0 c.from_residual.ensures.1 f

pub returns-in_err-push-clause-step : goal.returns-in_err-push-clause-step
returns-in_err-push-clause-step g c = λ config bytes core log stands configured file.
    let i = c.loop-range.invariant.step config bytes core log stands configured file in
    let r = c.range-item.result in
    let n = c.loop-range.range-index in
    let f = c.in_ok-piece.ensures.step config bytes i.0.after log i.0.stands (configured_after core i.0.after config configured i.0.goes_on.always) (file_stands core i.0.after (grace_of config c.args.plan.now).until c.args.plan.now c.args.place bytes i.0.goes_on.always file) in
    let m = then_given (grace_of config c.args.plan.now) file.row.number g.G.Gate.Stands g.G.Gate.Between g.G.Gate.Adds g.G.Gate.bytes_fetched core log _ g.met.G.Gate.adds_more (IsPieceFetched bytes r.start r.len) c.in_ok-piece.piece n (total (take n c.args.ranges.now)) 1 r.len _ _ i.0 f f.says.1.once f.says.1.few in
    all_short (grace_of config c.args.plan.now) file.row.number g.G.Gate.Stands g.G.Gate.Between g.G.Gate.Adds g.G.Gate.bytes_fetched core log _ _ c.from_residual-in_err-push.result _ (n + 1) (total (take n c.args.ranges.now) + r.len) _ m c.from_residual-in_err-push.ensures.1 tt

pub returns-clause-step : goal.returns-clause-step
returns-clause-step g c = λ config bytes core log stands configured file.
    let i = c.loop-range.invariant.step config bytes core log stands configured file in
    let rs = c.args.ranges.now in
    let n = c.loop-range.range-index in
    let all = take_all n rs c.loop-range-test.false in
    all_done (grace_of config c.args.plan.now) file.row.number g.G.Gate.Stands g.G.Gate.Between g.G.Gate.Adds g.G.Gate.bytes_fetched core log _ (λ done. AreRangesFetched bytes rs c.args.pieces.now c.loop-range.pieces) tt n (total (take n rs)) _ i.0
    (record {
      pieces = i.1 ∙ ap (λ (l : List FileRange). c.args.pieces.now ++ pieces_at bytes l) all;
      each = omega arith;
      few = (let e = ap (λ (l : List FileRange). total l) all in omega (arith, e));
    })

pub returns-in_err-piece-clause-reads : goal.returns-in_err-piece-clause-reads
returns-in_err-piece-clause-reads g c =
    let i = c.loop-range.invariant.reads in
    let r = c.range-item.result in
    then_lost g.G.Gate.Stands g.G.Gate.Between g.G.Gate.Owns g.G.Gate.Adds g.G.Gate.bytes_fetched g.G.Gate.told g.G.Gate.Answers c.args.plan.now c.args.place (IsPieceRead r.start r.len) _ NeverRefused NeverRefused c.in_err-piece.field-0.0 c.from_residual.result i.0 c.args.gate.now _ _ i.1 c.from_residual.ensures.1 (λ ys never. never) c.in_err-piece.ensures.reads

pub returns-in_err-push-clause-reads : goal.returns-in_err-push-clause-reads
returns-in_err-push-clause-reads g c =
    let i = c.loop-range.invariant.reads in
    let r = c.range-item.result in
    let f = c.in_ok-piece.ensures.reads in
    read_ill g.G.Gate.Stands g.G.Gate.Between g.G.Gate.Owns g.G.Gate.Adds g.G.Gate.bytes_fetched g.G.Gate.told g.G.Gate.Answers c.args.plan.now c.args.place _ NeverRefused c.from_residual-in_err-push.result _ (i.0 ++ f.calls) c.args.gate.now _ (then_all g.G.Gate.Stands g.G.Gate.Between g.G.Gate.Owns g.G.Gate.Adds g.G.Gate.bytes_fetched g.G.Gate.told g.G.Gate.Answers c.args.plan.now c.args.place (IsPieceRead r.start r.len) NeverRefused c.in_ok-piece.piece i.0 c.args.gate.now _ _ i.1 f) c.from_residual-in_err-push.ensures.1 tt

pub returns-clause-reads : goal.returns-clause-reads
returns-clause-reads g c =
    let i = c.loop-range.invariant.reads in
    read_well g.G.Gate.Stands g.G.Gate.Between g.G.Gate.Owns g.G.Gate.Adds g.G.Gate.bytes_fetched g.G.Gate.told g.G.Gate.Answers c.args.plan.now c.args.place (λ done. AreKeptBehind c.args.pieces.now c.loop-range.pieces) NeverRefused tt i.0 c.args.gate.now _ i.1 i.2
