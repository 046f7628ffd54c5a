use Rattle.std.proofs.Common.{◌≡◌, ◌+◌, ◌++◌, length, ap, sym, subst, ◌∙◌, arith, append-nil, List, []}
use Rattle.std.specs.Prelude.{⊤}
use Rattle.index_config.specs.declared.config.IndexConfig.{IndexConfig}
use Rattle.index_world.specs.Gate.{grace_of}
use Rattle.leaf_search.specs.Answers.{IsAsked}
use Rattle.leaf_search.specs.FileRanges.{total}
use Rattle.leaf_search.specs.declared.file_ranges.FileRange.{FileRange}
use Rattle.split_bundle.specs.Files.{file_bytes}
use Rattle.split_bundle.specs.Splits.{IsSplitOf}
use Rattle.root_search.specs.FetchCalls.{AreKeptBehind, NeverRefused}
use Rattle.root_search.specs.Fetching.{AreRangesFetched, AreShownFetched}
use Rattle.root_search.specs.FetchedSplits.{HoldsListed}
use Rattle.root_search.specs.declared.fetched_splits.KeptPiece.{KeptPiece}
use Rattle.root_search.proofs.CallsMade.{all_of, kept_further, none_called, read_ill, read_well, then_all, then_lost}
use Rattle.root_search.proofs.Fetches.{all_done, all_short, file_stands, handed_on, made_of, none_made, then_failed, then_given}
use Rattle.root_search.proofs.Needed.{config_same, none_shown_more, shown_kept, starts_kept}
use Rattle.root_search.proofs.Schemas.{few_fields}
use Rattle.root_search.proofs.Stands.{configured_after}
use Rattle.root_search.proofs.fetching.fetch_shown.Goals as goal

pub starts_of-requires : goal.starts_of-requires
starts_of-requires g c = few_fields c.config.result.now.schema c.config.ensures.schema

-- no hit is shown, and nothing more is fetched
pub returns-then-request-eq0-clause-step : goal.returns-then-request-eq0-clause-step
returns-then-request-eq0-clause-step g c = λ config documents p core log stands configured file is foot asked holds.
    all_done (grace_of config c.args.plan.now) file.row.number g.G.Gate.Stands g.G.Gate.Between g.G.Gate.Adds g.G.Gate.bytes_fetched core log c.args.gate.now (AreShownFetched config.schema c.args.request.now documents p c.args.footer.now c.args.listed) c.args.listed 0 0 _
    (none_made (grace_of config c.args.plan.now) file.row.number g.G.Gate.Stands g.G.Gate.Between g.G.Gate.Adds g.G.Gate.bytes_fetched core log c.args.gate.now (g.met.G.Gate.adds_none c.args.gate.now) stands)
    (none_shown_more config.schema c.args.request.now documents p c.args.footer.now c.args.listed c.if-request-eq0.true)

pub returns-then-request-eq0-clause-reads : goal.returns-then-request-eq0-clause-reads
returns-then-request-eq0-clause-reads g c =
    read_well g.G.Gate.Stands g.G.Gate.Between g.G.Gate.Owns g.G.Gate.Adds g.G.Gate.bytes_fetched g.G.Gate.told g.G.Gate.Answers c.args.plan.now c.args.place (AreKeptBehind c.args.listed) (λ calls. ⊤) c.args.listed [] c.args.gate.now _
    (none_called g.G.Gate.Stands g.G.Gate.Between g.G.Gate.Owns g.G.Gate.Adds g.G.Gate.bytes_fetched g.G.Gate.told g.G.Gate.Answers c.args.plan.now c.args.place c.args.gate.now) (sym (append-nil c.args.listed))

pub returns-in_err-named-clause-step : goal.returns-in_err-named-clause-step
returns-in_err-named-clause-step g c = λ config documents p core log stands configured file is foot asked holds.
    let same = config_same core c.config.result.now config (c.config.ensures.step core log stands) configured in
    let there = subst (λ (ks : List KeptPiece). HoldsListed config.schema c.args.request.now documents p c.args.footer.now ks) (sym c.as_slice.ensures) holds in
    all_short (grace_of config c.args.plan.now) file.row.number g.G.Gate.Stands g.G.Gate.Between g.G.Gate.Adds g.G.Gate.bytes_fetched core log c.args.gate.now (AreShownFetched config.schema c.args.request.now documents p c.args.footer.now c.args.listed) c.from_residual.result c.in_err-named.field-0.0 0 0 _
    (none_made (grace_of config c.args.plan.now) file.row.number g.G.Gate.Stands g.G.Gate.Between g.G.Gate.Adds g.G.Gate.bytes_fetched core log c.args.gate.now (g.met.G.Gate.adds_none c.args.gate.now) stands) c.from_residual.ensures.1
    (c.in_err-named.ensures.step documents p (subst (λ (x : IndexConfig). IsSplitOf x.schema documents p) (sym same) is) foot (subst (λ (x : IndexConfig). IsAsked x.schema c.args.request.now) (sym same) asked)
    (subst (λ (x : IndexConfig). HoldsListed x.schema c.args.request.now documents p c.args.footer.now c.as_slice.result.now) (sym same) there))

pub returns-in_err-fetch_ranges-clause-step : goal.returns-in_err-fetch_ranges-clause-step
returns-in_err-fetch_ranges-clause-step g c = λ config documents p core log stands configured file is foot asked holds.
    handed_on (grace_of config c.args.plan.now) file.row.number g.G.Gate.Stands g.G.Gate.Between g.G.Gate.Adds g.G.Gate.bytes_fetched core log c.args.gate.now (λ done. AreRangesFetched (file_bytes p) c.as_slice-2.result.now c.args.listed c.fetch_ranges.new.pieces)
    (AreShownFetched config.schema c.args.request.now documents p c.args.footer.now c.args.listed) c.in_err-fetch_ranges.field-0.0 c.from_residual-in_err-fetch_ranges.result _ c.from_residual-in_err-fetch_ranges.ensures.1
    (c.in_err-fetch_ranges.ensures.step config (file_bytes p) core log stands configured file)

pub returns-in_err-shown-clause-step : goal.returns-in_err-shown-clause-step
returns-in_err-shown-clause-step g c = λ config documents p core log stands configured file is foot asked holds.
    let same = config_same core c.config.result.now config (c.config.ensures.step core log stands) configured in
    let f = c.in_ok-fetch_ranges.ensures.step config (file_bytes p) core log stands configured file in
    let k = starts_kept c.config.result.now config c.args.request.now documents p c.args.footer.now c.in_ok-named.named c.args.listed c.as_slice.result.now c.fetch_ranges.new.pieces c.as_slice-3.result.now c.as_slice-2.result.now same is foot asked holds c.as_slice.ensures c.in_ok-named.ensures.step c.as_slice-2.ensures c.as_slice-3.ensures f.says.1.pieces in
    let starts = c.in_ok-named.named.starts in
    let many : length f.passages ≡ length starts = f.says.1.each ∙ ap (λ (l : List FileRange). length l) c.as_slice-2.ensures in
    let few = f.says.1.few in
    let all = ap (λ (l : List FileRange). total l) c.as_slice-2.ensures in
    let one = made_of (grace_of config c.args.plan.now) file.row.number g.G.Gate.Stands g.G.Gate.Between g.G.Gate.Adds g.G.Gate.bytes_fetched core log c.args.gate.now (λ done. AreRangesFetched (file_bytes p) c.as_slice-2.result.now c.args.listed c.fetch_ranges.new.pieces) tt (length starts) (total starts) _ f many (omega (arith, few, all)) in
    all_short (grace_of config c.args.plan.now) file.row.number g.G.Gate.Stands g.G.Gate.Between g.G.Gate.Adds g.G.Gate.bytes_fetched core log c.args.gate.now (AreShownFetched config.schema c.args.request.now documents p c.args.footer.now c.args.listed) c.from_residual-in_err-shown.result c.in_err-shown.field-0.0 (length starts) (total starts) _ one c.from_residual-in_err-shown.ensures.1
    (c.in_err-shown.ensures.step config.schema c.args.request.now documents p is foot k.holds k.few)

pub returns-in_err-fetch_ranges-2-clause-step : goal.returns-in_err-fetch_ranges-2-clause-step
returns-in_err-fetch_ranges-2-clause-step g c = λ config documents p core log stands configured file is foot asked holds.
    let f = c.in_ok-fetch_ranges.ensures.step config (file_bytes p) core log stands configured file in
    let starts = c.in_ok-named.named.starts in
    let many : length f.passages ≡ length starts = f.says.1.each ∙ ap (λ (l : List FileRange). length l) c.as_slice-2.ensures in
    let few = f.says.1.few in
    let all = ap (λ (l : List FileRange). total l) c.as_slice-2.ensures in
    let one = made_of (grace_of config c.args.plan.now) file.row.number g.G.Gate.Stands g.G.Gate.Between g.G.Gate.Adds g.G.Gate.bytes_fetched core log c.args.gate.now (λ done. AreRangesFetched (file_bytes p) c.as_slice-2.result.now c.args.listed c.fetch_ranges.new.pieces) tt (length starts) (total starts) _ f many (omega (arith, few, all)) in
    then_failed (grace_of config c.args.plan.now) file.row.number g.G.Gate.Stands g.G.Gate.Between g.G.Gate.Adds g.G.Gate.bytes_fetched core log c.args.gate.now g.met.G.Gate.adds_more (λ done. AreRangesFetched (file_bytes p) c.as_slice-4.result.now c.fetch_ranges.new.pieces c.fetch_ranges-2.new.pieces) (AreShownFetched config.schema c.args.request.now documents p c.args.footer.now c.args.listed) c.in_err-fetch_ranges-2.field-0.0 c.from_residual-in_err-fetch_ranges-2.result (length starts) (total starts) _ _ one
    c.from_residual-in_err-fetch_ranges-2.ensures.1 (c.in_err-fetch_ranges-2.ensures.step config (file_bytes p) one.after log one.stands (configured_after core one.after config configured one.goes_on.always) (file_stands core one.after (grace_of config c.args.plan.now).until c.args.plan.now c.args.place (file_bytes p) one.goes_on.always file))

pub returns-clause-step : goal.returns-clause-step
returns-clause-step g c = λ config documents p core log stands configured file is foot asked holds.
    let same = config_same core c.config.result.now config (c.config.ensures.step core log stands) configured in
    let f = c.in_ok-fetch_ranges.ensures.step config (file_bytes p) core log stands configured file in
    let k = starts_kept c.config.result.now config c.args.request.now documents p c.args.footer.now c.in_ok-named.named c.args.listed c.as_slice.result.now c.fetch_ranges.new.pieces c.as_slice-3.result.now c.as_slice-2.result.now same is foot asked holds c.as_slice.ensures c.in_ok-named.ensures.step c.as_slice-2.ensures c.as_slice-3.ensures f.says.1.pieces in
    let starts = c.in_ok-named.named.starts in
    let many : length f.passages ≡ length starts = f.says.1.each ∙ ap (λ (l : List FileRange). length l) c.as_slice-2.ensures in
    let few = f.says.1.few in
    let all = ap (λ (l : List FileRange). total l) c.as_slice-2.ensures in
    let one = made_of (grace_of config c.args.plan.now) file.row.number g.G.Gate.Stands g.G.Gate.Between g.G.Gate.Adds g.G.Gate.bytes_fetched core log c.args.gate.now (λ done. AreRangesFetched (file_bytes p) c.as_slice-2.result.now c.args.listed c.fetch_ranges.new.pieces) tt (length starts) (total starts) _ f many (omega (arith, few, all)) in
    let shown = c.in_ok-shown.shown in
    let t = c.in_ok-fetch_ranges-2.ensures.step config (file_bytes p) one.after log one.stands (configured_after core one.after config configured one.goes_on.always) (file_stands core one.after (grace_of config c.args.plan.now).until c.args.plan.now c.args.place (file_bytes p) one.goes_on.always file) in
    let again : length t.passages ≡ length shown = t.says.1.each ∙ ap (λ (l : List FileRange). length l) c.as_slice-4.ensures in
    let fewer = t.says.1.few in
    let rest = ap (λ (l : List FileRange). total l) c.as_slice-4.ensures in
    let two = then_given (grace_of config c.args.plan.now) file.row.number g.G.Gate.Stands g.G.Gate.Between g.G.Gate.Adds g.G.Gate.bytes_fetched core log c.args.gate.now g.met.G.Gate.adds_more (λ done. AreRangesFetched (file_bytes p) c.as_slice-4.result.now c.fetch_ranges.new.pieces c.fetch_ranges-2.new.pieces) tt (length starts) (total starts) (length shown) (total shown) _ _ one t again (omega (arith, fewer, rest)) in
    all_done (grace_of config c.args.plan.now) file.row.number g.G.Gate.Stands g.G.Gate.Between g.G.Gate.Adds g.G.Gate.bytes_fetched core log c.args.gate.now (AreShownFetched config.schema c.args.request.now documents p c.args.footer.now c.args.listed) c.fetch_ranges-2.new.pieces (length starts + length shown) (total starts + total shown) _ two
    (shown_kept config.schema c.args.request.now documents p c.args.footer.now c.in_ok-named.named shown c.args.listed c.fetch_ranges.new.pieces c.as_slice-3.result.now c.fetch_ranges-2.new.pieces c.as_slice-4.result.now k (c.in_ok-shown.ensures.step config.schema c.args.request.now documents p is foot k.holds k.few) c.as_slice-4.ensures t.says.1.pieces)

pub returns-in_err-named-clause-reads : goal.returns-in_err-named-clause-reads
returns-in_err-named-clause-reads g c = read_ill g.G.Gate.Stands g.G.Gate.Between g.G.Gate.Owns g.G.Gate.Adds g.G.Gate.bytes_fetched g.G.Gate.told g.G.Gate.Answers c.args.plan.now c.args.place (AreKeptBehind c.args.listed) (λ calls. ⊤) c.from_residual.result _ [] c.args.gate.now _ (none_called g.G.Gate.Stands g.G.Gate.Between g.G.Gate.Owns g.G.Gate.Adds g.G.Gate.bytes_fetched g.G.Gate.told g.G.Gate.Answers c.args.plan.now c.args.place c.args.gate.now) c.from_residual.ensures.1 c.in_err-named.ensures.fault

pub returns-in_err-fetch_ranges-clause-reads : goal.returns-in_err-fetch_ranges-clause-reads
returns-in_err-fetch_ranges-clause-reads g c =
    then_lost g.G.Gate.Stands g.G.Gate.Between g.G.Gate.Owns g.G.Gate.Adds g.G.Gate.bytes_fetched g.G.Gate.told g.G.Gate.Answers c.args.plan.now c.args.place (λ done. AreKeptBehind c.args.listed c.fetch_ranges.new.pieces) (AreKeptBehind c.args.listed) NeverRefused (λ calls. ⊤) c.in_err-fetch_ranges.field-0.0 c.from_residual-in_err-fetch_ranges.result [] c.args.gate.now c.args.gate.now _
    (none_called g.G.Gate.Stands g.G.Gate.Between g.G.Gate.Owns g.G.Gate.Adds g.G.Gate.bytes_fetched g.G.Gate.told g.G.Gate.Answers c.args.plan.now c.args.place c.args.gate.now) c.from_residual-in_err-fetch_ranges.ensures.1 (λ ys never. absurd never) c.in_err-fetch_ranges.ensures.reads

pub returns-in_err-shown-clause-reads : goal.returns-in_err-shown-clause-reads
returns-in_err-shown-clause-reads g c =
    let f = c.in_ok-fetch_ranges.ensures.reads in
    read_ill g.G.Gate.Stands g.G.Gate.Between g.G.Gate.Owns g.G.Gate.Adds g.G.Gate.bytes_fetched g.G.Gate.told g.G.Gate.Answers c.args.plan.now c.args.place (AreKeptBehind c.args.listed) (λ calls. ⊤) c.from_residual-in_err-shown.result _ f.calls c.args.gate.now _
    (all_of g.G.Gate.Stands g.G.Gate.Between g.G.Gate.Owns g.G.Gate.Adds g.G.Gate.bytes_fetched g.G.Gate.told g.G.Gate.Answers c.args.plan.now c.args.place (λ done. AreKeptBehind c.args.listed c.fetch_ranges.new.pieces) NeverRefused tt c.args.gate.now _ f) c.from_residual-in_err-shown.ensures.1 c.in_err-shown.ensures.fault

pub returns-in_err-fetch_ranges-2-clause-reads : goal.returns-in_err-fetch_ranges-2-clause-reads
returns-in_err-fetch_ranges-2-clause-reads g c =
    let f = c.in_ok-fetch_ranges.ensures.reads in
    then_lost g.G.Gate.Stands g.G.Gate.Between g.G.Gate.Owns g.G.Gate.Adds g.G.Gate.bytes_fetched g.G.Gate.told g.G.Gate.Answers c.args.plan.now c.args.place (λ done. AreKeptBehind c.fetch_ranges.new.pieces c.fetch_ranges-2.new.pieces) (AreKeptBehind c.args.listed) NeverRefused (λ calls. ⊤) c.in_err-fetch_ranges-2.field-0.0 c.from_residual-in_err-fetch_ranges-2.result f.calls c.args.gate.now _ _
    (all_of g.G.Gate.Stands g.G.Gate.Between g.G.Gate.Owns g.G.Gate.Adds g.G.Gate.bytes_fetched g.G.Gate.told g.G.Gate.Answers c.args.plan.now c.args.place (λ done. AreKeptBehind c.args.listed c.fetch_ranges.new.pieces) NeverRefused tt c.args.gate.now _ f) c.from_residual-in_err-fetch_ranges-2.ensures.1 (λ ys never. absurd never) c.in_err-fetch_ranges-2.ensures.reads

pub returns-clause-reads : goal.returns-clause-reads
returns-clause-reads g c =
    let f = c.in_ok-fetch_ranges.ensures.reads in
    let t = c.in_ok-fetch_ranges-2.ensures.reads in
    read_well g.G.Gate.Stands g.G.Gate.Between g.G.Gate.Owns g.G.Gate.Adds g.G.Gate.bytes_fetched g.G.Gate.told g.G.Gate.Answers c.args.plan.now c.args.place (AreKeptBehind c.args.listed) (λ calls. ⊤) c.fetch_ranges-2.new.pieces (f.calls ++ t.calls) c.args.gate.now _
    (then_all g.G.Gate.Stands g.G.Gate.Between g.G.Gate.Owns g.G.Gate.Adds g.G.Gate.bytes_fetched g.G.Gate.told g.G.Gate.Answers c.args.plan.now c.args.place (λ done. AreKeptBehind c.fetch_ranges.new.pieces c.fetch_ranges-2.new.pieces) NeverRefused tt f.calls c.args.gate.now _ _ (all_of g.G.Gate.Stands g.G.Gate.Between g.G.Gate.Owns g.G.Gate.Adds g.G.Gate.bytes_fetched g.G.Gate.told g.G.Gate.Answers c.args.plan.now c.args.place (λ done. AreKeptBehind c.args.listed c.fetch_ranges.new.pieces) NeverRefused tt c.args.gate.now _ f) t)
    (kept_further c.args.listed c.fetch_ranges.new.pieces c.fetch_ranges-2.new.pieces f.calls t.calls f.says.1 t.says.1)
