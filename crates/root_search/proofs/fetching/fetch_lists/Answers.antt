use Rattle.std.proofs.Common.{◌≡◌, ◌++◌, length, refl, ap, sym, subst, ◌∙◌, arith, List, []}
use Rattle.index_config.specs.declared.config.IndexConfig.{IndexConfig}
use Rattle.index_world.specs.Gate.{grace_of}
use Rattle.leaf_search.specs.Answers.{IsAsked}
use Rattle.leaf_search.specs.FileRanges.{AreRangesOf, total}
use Rattle.leaf_search.specs.Shown.{NeedsListed}
use Rattle.leaf_search.specs.declared.file_ranges.FileRange.{FileRange}
use Rattle.split_bundle.specs.Files.{file_bytes}
use Rattle.split_bundle.specs.Splits.{IsSplitOf}
use Rattle.root_search.specs.Fetching.{AreListsFetched, AreRangesFetched}
use Rattle.root_search.specs.FetchedSplits.{HoldsBlocks, over, pieces_at}
use Rattle.root_search.specs.declared.fetched_splits.KeptPiece.{KeptPiece}
use Rattle.root_search.proofs.Fetches.{all_done, all_short, handed_on, made_of, none_made}
use Rattle.root_search.proofs.Needed.{config_same}
use Rattle.root_search.proofs.Schemas.{few_fields}
use Rattle.std.specs.Prelude.{⊤}
use Rattle.root_search.specs.FetchCalls.{AreKeptBehind, NeverRefused}
use Rattle.root_search.proofs.CallsMade.{all_of, none_called, read_ill, read_well, then_lost}
use Rattle.root_search.proofs.fetching.fetch_lists.Goals as goal

pub lists_of-requires : goal.lists_of-requires
lists_of-requires g c = few_fields c.config.result.now.schema c.config.ensures.schema

pub returns-in_err-lists-clause-step : goal.returns-in_err-lists-clause-step
returns-in_err-lists-clause-step g c = λ config documents p core log stands configured file is foot asked holds.
    let same = config_same core c.config.result.now config (c.config.ensures.step core log stands) configured in
    let there = subst (λ (ks : List KeptPiece). HoldsBlocks config.schema c.args.request.now documents p c.args.footer.now ks) (sym c.as_slice.ensures) holds in
    all_short (grace_of config c.args.plan.now) file.row.number g.G.Gate.Stands g.G.Gate.Between g.G.Gate.Adds g.G.Gate.bytes_fetched core log c.args.gate.now (AreListsFetched config.schema c.args.request.now documents p c.args.footer.now c.args.blocks) c.from_residual.result c.in_err-lists.field-0.0 0 0 _
    (none_made (grace_of config c.args.plan.now) file.row.number g.G.Gate.Stands g.G.Gate.Between g.G.Gate.Adds g.G.Gate.bytes_fetched core log c.args.gate.now (g.met.G.Gate.adds_none c.args.gate.now) stands) c.from_residual.ensures.1
    (c.in_err-lists.ensures.step documents p (subst (λ (x : IndexConfig). IsSplitOf x.schema documents p) (sym same) is) foot (subst (λ (x : IndexConfig). IsAsked x.schema c.args.request.now) (sym same) asked)
    (subst (λ (x : IndexConfig). HoldsBlocks x.schema c.args.request.now documents p c.args.footer.now c.as_slice.result.now) (sym same) there))

pub returns-in_err-fetch_ranges-clause-step : goal.returns-in_err-fetch_ranges-clause-step
returns-in_err-fetch_ranges-clause-step g c = λ config documents p core log stands configured file is foot asked holds.
    handed_on (grace_of config c.args.plan.now) file.row.number g.G.Gate.Stands g.G.Gate.Between g.G.Gate.Adds g.G.Gate.bytes_fetched core log c.args.gate.now (λ done. AreRangesFetched (file_bytes p) c.as_slice-2.result.now c.args.blocks c.fetch_ranges.new.pieces)
    (AreListsFetched config.schema c.args.request.now documents p c.args.footer.now c.args.blocks) c.in_err-fetch_ranges.field-0.0 c.from_residual-in_err-fetch_ranges.result _ c.from_residual-in_err-fetch_ranges.ensures.1
    (c.in_err-fetch_ranges.ensures.step config (file_bytes p) core log stands configured file)

pub returns-clause-step : goal.returns-clause-step
returns-clause-step g c = λ config documents p core log stands configured file is foot asked holds.
    let pieces = c.fetch_ranges.new.pieces in
    let lists = c.in_ok-lists.lists in
    let same = config_same core c.config.result.now config (c.config.ensures.step core log stands) configured in
    let there = subst (λ (ks : List KeptPiece). HoldsBlocks config.schema c.args.request.now documents p c.args.footer.now ks) (sym c.as_slice.ensures) holds in
    let named = c.in_ok-lists.ensures.step documents p (subst (λ (x : IndexConfig). IsSplitOf x.schema documents p) (sym same) is) foot (subst (λ (x : IndexConfig). IsAsked x.schema c.args.request.now) (sym same) asked)
    (subst (λ (x : IndexConfig). HoldsBlocks x.schema c.args.request.now documents p c.args.footer.now c.as_slice.result.now) (sym same) there) in
    let f = c.in_ok-fetch_ranges.ensures.step config (file_bytes p) core log stands configured file in
    let many : length f.passages ≡ length lists = f.says.1.each ∙ ap (λ (l : List FileRange). length l) c.as_slice-2.ensures in
    let few = f.says.1.few in
    let all = ap (λ (l : List FileRange). total l) c.as_slice-2.ensures in
    all_done (grace_of config c.args.plan.now) file.row.number g.G.Gate.Stands g.G.Gate.Between g.G.Gate.Adds g.G.Gate.bytes_fetched core log c.args.gate.now (AreListsFetched config.schema c.args.request.now documents p c.args.footer.now c.args.blocks) pieces (length lists) (total lists) _
    (made_of (grace_of config c.args.plan.now) file.row.number g.G.Gate.Stands g.G.Gate.Between g.G.Gate.Adds g.G.Gate.bytes_fetched core log c.args.gate.now (λ done. AreRangesFetched (file_bytes p) c.as_slice-2.result.now c.args.blocks pieces) tt (length lists) (total lists) _ f many (omega (arith, few, all)))
    (record {
      lists = lists;
      are_lists = subst (λ (x : IndexConfig). AreRangesOf (NeedsListed (over c.args.footer.now) x.schema documents p c.args.request.now) lists) same named;
      pieces_are = f.says.1.pieces ∙ ap (λ (l : List FileRange). c.args.blocks ++ pieces_at (file_bytes p) l) c.as_slice-2.ensures;
      each = refl;
      few = omega arith;
    })

pub returns-in_err-lists-clause-reads : goal.returns-in_err-lists-clause-reads
returns-in_err-lists-clause-reads g c = read_ill g.G.Gate.Stands g.G.Gate.Between g.G.Gate.Owns g.G.Gate.Adds g.G.Gate.bytes_fetched g.G.Gate.told g.G.Gate.Answers c.args.plan.now c.args.place (AreKeptBehind c.args.blocks) (λ calls. ⊤) c.from_residual.result _ [] c.args.gate.now _ (none_called g.G.Gate.Stands g.G.Gate.Between g.G.Gate.Owns g.G.Gate.Adds g.G.Gate.bytes_fetched g.G.Gate.told g.G.Gate.Answers c.args.plan.now c.args.place c.args.gate.now) c.from_residual.ensures.1 c.in_err-lists.ensures.fault

pub returns-in_err-fetch_ranges-clause-reads : goal.returns-in_err-fetch_ranges-clause-reads
returns-in_err-fetch_ranges-clause-reads g c =
    then_lost g.G.Gate.Stands g.G.Gate.Between g.G.Gate.Owns g.G.Gate.Adds g.G.Gate.bytes_fetched g.G.Gate.told g.G.Gate.Answers c.args.plan.now c.args.place (λ done. AreKeptBehind c.args.blocks c.fetch_ranges.new.pieces) (AreKeptBehind c.args.blocks) NeverRefused (λ calls. ⊤) c.in_err-fetch_ranges.field-0.0 c.from_residual-in_err-fetch_ranges.result [] c.args.gate.now c.args.gate.now _
    (none_called g.G.Gate.Stands g.G.Gate.Between g.G.Gate.Owns g.G.Gate.Adds g.G.Gate.bytes_fetched g.G.Gate.told g.G.Gate.Answers c.args.plan.now c.args.place c.args.gate.now) c.from_residual-in_err-fetch_ranges.ensures.1 (λ ys never. absurd never) c.in_err-fetch_ranges.ensures.reads

pub returns-clause-reads : goal.returns-clause-reads
returns-clause-reads g c =
    let f = c.in_ok-fetch_ranges.ensures.reads in
    read_well g.G.Gate.Stands g.G.Gate.Between g.G.Gate.Owns g.G.Gate.Adds g.G.Gate.bytes_fetched g.G.Gate.told g.G.Gate.Answers c.args.plan.now c.args.place (AreKeptBehind c.args.blocks) (λ calls. ⊤) c.fetch_ranges.new.pieces f.calls c.args.gate.now _ (all_of g.G.Gate.Stands g.G.Gate.Between g.G.Gate.Owns g.G.Gate.Adds g.G.Gate.bytes_fetched g.G.Gate.told g.G.Gate.Answers c.args.plan.now c.args.place (λ done. AreKeptBehind c.args.blocks c.fetch_ranges.new.pieces) NeverRefused _ c.args.gate.now _ f) f.says.1
