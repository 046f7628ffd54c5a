use Rattle.std.proofs.Common.{◌≡◌, length, refl, ap, sym, ◌∙◌, arith, List, [], ◌++◌, map}
use Rattle.index_world.specs.Gate.{grace_of}
use Rattle.leaf_search.specs.FileRanges.{total}
use Rattle.leaf_search.specs.declared.file_ranges.FileRange.{FileRange}
use Rattle.split_bundle.specs.Files.{file_bytes}
use Rattle.root_search.specs.Fetching.{AreBlocksFetched, AreRangesFetched}
use Rattle.root_search.proofs.Fetches.{all_done, all_short, handed_on, made_of, none_made}
use Rattle.root_search.proofs.Needed.{blocks_of, config_same, first_kept, many_kept}
use Rattle.root_search.proofs.Schemas.{few_fields}
use Rattle.root_search.specs.FetchCalls.{AreKeptBehind, NeverRefused, kept_of}
use Rattle.root_search.specs.declared.fetched_splits.KeptPiece.{KeptPiece}
use Rattle.root_search.proofs.CallsMade.{all_of, none_called, read_ill, read_well, then_lost}
use Rattle.root_search.proofs.fetching.fetch_blocks.Goals as goal

pub blocks_needed-requires : goal.blocks_needed-requires
blocks_needed-requires g c = few_fields c.config.result.now.schema c.config.ensures.schema

pub returns-in_err-blocks-clause-step : goal.returns-in_err-blocks-clause-step
returns-in_err-blocks-clause-step g c = λ config documents p core log stands configured file is foot.
    all_short (grace_of config c.args.plan.now) file.row.number g.G.Gate.Stands g.G.Gate.Between g.G.Gate.Adds g.G.Gate.bytes_fetched core log c.args.gate.now (AreBlocksFetched config.schema c.args.request.now documents p c.args.footer.now) c.from_residual.result _ 0 0 _
    (none_made (grace_of config c.args.plan.now) file.row.number g.G.Gate.Stands g.G.Gate.Between g.G.Gate.Adds g.G.Gate.bytes_fetched core log c.args.gate.now (g.met.G.Gate.adds_none c.args.gate.now) stands) c.from_residual.ensures.1 tt

pub returns-in_err-fetch_ranges-clause-step : goal.returns-in_err-fetch_ranges-clause-step
returns-in_err-fetch_ranges-clause-step g c = λ config documents p core log stands configured file is foot.
    handed_on (grace_of config c.args.plan.now) file.row.number g.G.Gate.Stands g.G.Gate.Between g.G.Gate.Adds g.G.Gate.bytes_fetched core log c.args.gate.now (λ done. AreRangesFetched (file_bytes p) c.as_slice.result.now c.vacant-pieces.result c.fetch_ranges.new.pieces)
    (AreBlocksFetched config.schema c.args.request.now documents p c.args.footer.now) c.in_err-fetch_ranges.field-0.0 c.from_residual-in_err-fetch_ranges.result _ c.from_residual-in_err-fetch_ranges.ensures.1
    (c.in_err-fetch_ranges.ensures.step config (file_bytes p) core log stands configured file)

pub returns-clause-step : goal.returns-clause-step
returns-clause-step g c = λ config documents p core log stands configured file is foot.
    let pieces = c.fetch_ranges.new.pieces in
    let ranges = c.in_ok-blocks.blocks in
    let same = config_same core c.config.result.now config (c.config.ensures.step core log stands) configured in
    let blocks = blocks_of c.config.result.now config c.args.footer.now documents p c.args.request.now ranges same is foot c.in_ok-blocks.ensures.only in
    let f = c.in_ok-fetch_ranges.ensures.step config (file_bytes p) core log stands configured file in
    let kept = first_kept pieces c.vacant-pieces.result (file_bytes p) c.as_slice.result.now ranges f.says.1.pieces c.vacant-pieces.ensures c.as_slice.ensures in
    let many : length f.passages ≡ length pieces = f.says.1.each ∙ (ap (λ (l : List FileRange). length l) c.as_slice.ensures ∙ sym (many_kept pieces (file_bytes p) ranges kept)) in
    let few = f.says.1.few in
    let all = ap (λ (l : List FileRange). total l) c.as_slice.ensures in
    all_done (grace_of config c.args.plan.now) file.row.number g.G.Gate.Stands g.G.Gate.Between g.G.Gate.Adds g.G.Gate.bytes_fetched core log c.args.gate.now (AreBlocksFetched config.schema c.args.request.now documents p c.args.footer.now) pieces (length pieces) (total ranges) _
    (made_of (grace_of config c.args.plan.now) file.row.number g.G.Gate.Stands g.G.Gate.Between g.G.Gate.Adds g.G.Gate.bytes_fetched core log c.args.gate.now (λ done. AreRangesFetched (file_bytes p) c.as_slice.result.now c.vacant-pieces.result pieces) tt (length pieces) (total ranges) _ f many (omega (arith, few, all)))
    (record { held = record { blocks = ranges; are_blocks = blocks; pieces = kept }; each = refl; few = omega arith })

pub returns-in_err-blocks-clause-reads : goal.returns-in_err-blocks-clause-reads
returns-in_err-blocks-clause-reads g c = read_ill g.G.Gate.Stands g.G.Gate.Between g.G.Gate.Owns g.G.Gate.Adds g.G.Gate.bytes_fetched g.G.Gate.told g.G.Gate.Answers c.args.plan.now c.args.place (AreKeptBehind []) NeverRefused c.from_residual.result _ [] c.args.gate.now _ (none_called g.G.Gate.Stands g.G.Gate.Between g.G.Gate.Owns g.G.Gate.Adds g.G.Gate.bytes_fetched g.G.Gate.told g.G.Gate.Answers c.args.plan.now c.args.place c.args.gate.now) c.from_residual.ensures.1 tt

pub returns-in_err-fetch_ranges-clause-reads : goal.returns-in_err-fetch_ranges-clause-reads
returns-in_err-fetch_ranges-clause-reads g c =
    then_lost g.G.Gate.Stands g.G.Gate.Between g.G.Gate.Owns g.G.Gate.Adds g.G.Gate.bytes_fetched g.G.Gate.told g.G.Gate.Answers c.args.plan.now c.args.place (λ done. AreKeptBehind c.vacant-pieces.result c.fetch_ranges.new.pieces) (AreKeptBehind []) NeverRefused NeverRefused c.in_err-fetch_ranges.field-0.0 c.from_residual-in_err-fetch_ranges.result [] c.args.gate.now c.args.gate.now _
    (none_called g.G.Gate.Stands g.G.Gate.Between g.G.Gate.Owns g.G.Gate.Adds g.G.Gate.bytes_fetched g.G.Gate.told g.G.Gate.Answers c.args.plan.now c.args.place c.args.gate.now) c.from_residual-in_err-fetch_ranges.ensures.1 (λ ys never. never) c.in_err-fetch_ranges.ensures.reads

pub returns-clause-reads : goal.returns-clause-reads
returns-clause-reads g c =
    let f = c.in_ok-fetch_ranges.ensures.reads in
    read_well g.G.Gate.Stands g.G.Gate.Between g.G.Gate.Owns g.G.Gate.Adds g.G.Gate.bytes_fetched g.G.Gate.told g.G.Gate.Answers c.args.plan.now c.args.place (AreKeptBehind []) NeverRefused c.fetch_ranges.new.pieces f.calls c.args.gate.now _ (all_of g.G.Gate.Stands g.G.Gate.Between g.G.Gate.Owns g.G.Gate.Adds g.G.Gate.bytes_fetched g.G.Gate.told g.G.Gate.Answers c.args.plan.now c.args.place (λ done. AreKeptBehind c.vacant-pieces.result c.fetch_ranges.new.pieces) NeverRefused _ c.args.gate.now _ f)
    (f.says.1 ∙ ap (λ (l : List KeptPiece). l ++ map kept_of f.calls) c.vacant-pieces.ensures)
