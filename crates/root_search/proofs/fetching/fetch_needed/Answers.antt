use Rattle.std.proofs.Common.{◌+◌, length, refl, ◌≡◌, ◌++◌, [], List, inl, inr, ap, sym, ◌∙◌, append_assoc}
use Rattle.index_world.specs.Gate.{grace_of}
use Rattle.leaf_search.specs.FileRanges.{total}
use Rattle.split_bundle.specs.Files.{file_bytes}
use Rattle.root_search.specs.Fetching.{AreBlocksFetched, AreListsFetched, IsFooterFetched, IsPartFetched, footer_calls, footer_drawn, needed_calls}
use Rattle.root_search.proofs.Fetches.{file_stands, handed_on, made_of, then_failed, then_given}
use Rattle.root_search.proofs.Needed.{lost_last, whole_part}
use Rattle.root_search.proofs.Stands.{configured_after}
use Rattle.std.specs.Prelude.{⊤}
use Rattle.std.proofs.lemmas.List.{append-nil}
use Rattle.meta_store.specs.declared.planning.PlanRow.{PlanRow}
use Rattle.root_search.specs.FetchCalls.{AreKeptBehind, FetchCall, IsFooterGiven, IsNoFooter, IsNoPart, IsPartRead, NeverRefused}
use Rattle.root_search.proofs.CallsMade.{all_of, kept_further, none_called, read_well, then_all, then_lost}
use Rattle.root_search.proofs.Kept.{same_row}
use Rattle.root_search.proofs.fetching.fetch_needed.Goals as goal

pub returns-in_err-footer-clause-step : goal.returns-in_err-footer-clause-step
returns-in_err-footer-clause-step g c = λ config documents p core log stands configured file is asked known.
    handed_on (grace_of config c.args.plan.now) file.row.number g.G.Gate.Stands g.G.Gate.Between g.G.Gate.Adds g.G.Gate.bytes_fetched core log c.args.gate.now (IsFooterFetched c.args.known p) (IsPartFetched config.schema c.args.request.now c.args.known documents p (needed_calls c.args.known)) c.in_err-footer.field-0.0 c.from_residual.result _ c.from_residual.ensures.1
    (c.in_err-footer.ensures.step config config.schema documents p core log stands configured file is known)

pub returns-in_err-blocks-clause-step : goal.returns-in_err-blocks-clause-step
returns-in_err-blocks-clause-step g c = λ config documents p core log stands configured file is asked known.
    let k = c.in_ok-footer.ensures.step config config.schema documents p core log stands configured file is known in
    let one = made_of (grace_of config c.args.plan.now) file.row.number g.G.Gate.Stands g.G.Gate.Between g.G.Gate.Adds g.G.Gate.bytes_fetched core log c.args.gate.now (IsFooterFetched c.args.known p) c.in_ok-footer.footer (footer_calls c.args.known) (footer_drawn c.args.known p) _ k k.says.1.calls k.says.1.few in
    let foot = k.says.1.is_footer config.schema documents p is refl in
    then_failed (grace_of config c.args.plan.now) file.row.number g.G.Gate.Stands g.G.Gate.Between g.G.Gate.Adds g.G.Gate.bytes_fetched core log c.args.gate.now g.met.G.Gate.adds_more (AreBlocksFetched config.schema c.args.request.now documents p c.in_ok-footer.footer) _ c.in_err-blocks.field-0.0 c.from_residual-in_err-blocks.result (footer_calls c.args.known) (footer_drawn c.args.known p) _ _ one
    c.from_residual-in_err-blocks.ensures.1
    (c.in_err-blocks.ensures.step config documents p one.after log one.stands (configured_after core one.after config configured one.goes_on.always) (file_stands core one.after (grace_of config c.args.plan.now).until c.args.plan.now c.args.place (file_bytes p) one.goes_on.always file) is foot)

pub returns-in_err-listed-clause-step : goal.returns-in_err-listed-clause-step
returns-in_err-listed-clause-step g c = λ config documents p core log stands configured file is asked known.
    let k = c.in_ok-footer.ensures.step config config.schema documents p core log stands configured file is known in
    let one = made_of (grace_of config c.args.plan.now) file.row.number g.G.Gate.Stands g.G.Gate.Between g.G.Gate.Adds g.G.Gate.bytes_fetched core log c.args.gate.now (IsFooterFetched c.args.known p) c.in_ok-footer.footer (footer_calls c.args.known) (footer_drawn c.args.known p) _ k k.says.1.calls k.says.1.few in
    let foot = k.says.1.is_footer config.schema documents p is refl in
    let b = c.in_ok-blocks.ensures.step config documents p one.after log one.stands (configured_after core one.after config configured one.goes_on.always) (file_stands core one.after (grace_of config c.args.plan.now).until c.args.plan.now c.args.place (file_bytes p) one.goes_on.always file) is foot in
    let two = then_given (grace_of config c.args.plan.now) file.row.number g.G.Gate.Stands g.G.Gate.Between g.G.Gate.Adds g.G.Gate.bytes_fetched core log c.args.gate.now g.met.G.Gate.adds_more (AreBlocksFetched config.schema c.args.request.now documents p c.in_ok-footer.footer) c.in_ok-blocks.blocks (footer_calls c.args.known) (footer_drawn c.args.known p) (length c.in_ok-blocks.blocks) (total b.says.1.held.blocks)
    _ _ one b b.says.1.each b.says.1.few in
    then_failed (grace_of config c.args.plan.now) file.row.number g.G.Gate.Stands g.G.Gate.Between g.G.Gate.Adds g.G.Gate.bytes_fetched core log c.args.gate.now g.met.G.Gate.adds_more (AreListsFetched config.schema c.args.request.now documents p c.in_ok-footer.footer c.in_ok-blocks.blocks) _ c.in_err-listed.field-0.0 c.from_residual-in_err-listed.result (footer_calls c.args.known + length c.in_ok-blocks.blocks)
    (footer_drawn c.args.known p + total b.says.1.held.blocks) _ _ two c.from_residual-in_err-listed.ensures.1
    (c.in_err-listed.ensures.step config documents p two.after log two.stands (configured_after core two.after config configured two.goes_on.always) (file_stands core two.after (grace_of config c.args.plan.now).until c.args.plan.now c.args.place (file_bytes p) two.goes_on.always file) is foot asked b.says.1.held)

pub returns-in_err-pieces-clause-step : goal.returns-in_err-pieces-clause-step
returns-in_err-pieces-clause-step g c = λ config documents p core log stands configured file is asked known.
    lost_last g.G.Gate.Stands g.G.Gate.Between g.G.Gate.Adds g.G.Gate.bytes_fetched g.met.G.Gate.adds_more config c.args.plan.now c.args.place c.args.known documents p c.args.request.now core log c.from_residual-in_err-pieces.result c.in_err-pieces.field-0.0 c.in_ok-footer.footer c.in_ok-blocks.blocks c.in_ok-listed.listed
    c.args.gate.now _ _ _ _ configured file is (c.in_ok-footer.ensures.step config config.schema documents p core log stands configured file is known) (λ foot after on same there. c.in_ok-blocks.ensures.step config documents p after log on same there is foot)
    (λ foot after on same there held. c.in_ok-listed.ensures.step config documents p after log on same there is foot asked held) (λ foot after on same there held. c.in_err-pieces.ensures.step config documents p after log on same there is foot asked held) c.from_residual-in_err-pieces.ensures.1

pub returns-clause-step : goal.returns-clause-step
returns-clause-step g c = λ config documents p core log stands configured file is asked known.
    whole_part g.G.Gate.Stands g.G.Gate.Between g.G.Gate.Adds g.G.Gate.bytes_fetched g.met.G.Gate.adds_more config c.args.plan.now c.args.place c.args.known documents p c.args.request.now core log c.at.result.now.number c.in_ok-footer.footer c.in_ok-blocks.blocks c.in_ok-listed.listed c.in_ok-pieces.pieces c.args.gate.now _ _ _ _ configured file is
    (c.in_ok-footer.ensures.step config config.schema documents p core log stands configured file is known) (λ foot after on same there. c.in_ok-blocks.ensures.step config documents p after log on same there is foot)
    (λ foot after on same there held. c.in_ok-listed.ensures.step config documents p after log on same there is foot asked held)
    (λ foot after on same there held. c.in_ok-pieces.ensures.step config documents p after log on same there is foot asked held)

pub returns-in_err-footer-clause-reads : goal.returns-in_err-footer-clause-reads
returns-in_err-footer-clause-reads g c = λ row there.
    then_lost g.G.Gate.Stands g.G.Gate.Between g.G.Gate.Owns g.G.Gate.Adds g.G.Gate.bytes_fetched g.G.Gate.told g.G.Gate.Answers c.args.plan.now c.args.place (IsFooterGiven c.args.known row.size) (IsPartRead c.args.known row.number row.size) (IsNoFooter c.args.known row.size) (IsNoPart c.args.known row.size) c.in_err-footer.field-0.0 c.from_residual.result [] c.args.gate.now c.args.gate.now _
    (none_called g.G.Gate.Stands g.G.Gate.Between g.G.Gate.Owns g.G.Gate.Adds g.G.Gate.bytes_fetched g.G.Gate.told g.G.Gate.Answers c.args.plan.now c.args.place c.args.gate.now) c.from_residual.ensures.1 (λ ys none. inl none) (c.in_err-footer.ensures.reads row there)

pub returns-in_err-blocks-clause-reads : goal.returns-in_err-blocks-clause-reads
returns-in_err-blocks-clause-reads g c = λ row there.
    let k = c.in_ok-footer.ensures.reads row there in
    then_lost g.G.Gate.Stands g.G.Gate.Between g.G.Gate.Owns g.G.Gate.Adds g.G.Gate.bytes_fetched g.G.Gate.told g.G.Gate.Answers c.args.plan.now c.args.place (AreKeptBehind []) (IsPartRead c.args.known row.number row.size) NeverRefused (IsNoPart c.args.known row.size) c.in_err-blocks.field-0.0 c.from_residual-in_err-blocks.result k.calls c.args.gate.now _ _
    (all_of g.G.Gate.Stands g.G.Gate.Between g.G.Gate.Owns g.G.Gate.Adds g.G.Gate.bytes_fetched g.G.Gate.told g.G.Gate.Answers c.args.plan.now c.args.place (IsFooterGiven c.args.known row.size) (IsNoFooter c.args.known row.size) c.in_ok-footer.footer c.args.gate.now _ k) c.from_residual-in_err-blocks.ensures.1 (λ ys never. absurd never) c.in_err-blocks.ensures.reads

pub returns-in_err-listed-clause-reads : goal.returns-in_err-listed-clause-reads
returns-in_err-listed-clause-reads g c = λ row there.
    let k = c.in_ok-footer.ensures.reads row there in
    let b = c.in_ok-blocks.ensures.reads in
    then_lost g.G.Gate.Stands g.G.Gate.Between g.G.Gate.Owns g.G.Gate.Adds g.G.Gate.bytes_fetched g.G.Gate.told g.G.Gate.Answers c.args.plan.now c.args.place (AreKeptBehind c.in_ok-blocks.blocks) (IsPartRead c.args.known row.number row.size) (λ calls. ⊤) (IsNoPart c.args.known row.size) c.in_err-listed.field-0.0 c.from_residual-in_err-listed.result (k.calls ++ b.calls) c.args.gate.now _ _
    (then_all g.G.Gate.Stands g.G.Gate.Between g.G.Gate.Owns g.G.Gate.Adds g.G.Gate.bytes_fetched g.G.Gate.told g.G.Gate.Answers c.args.plan.now c.args.place (AreKeptBehind []) NeverRefused c.in_ok-blocks.blocks k.calls c.args.gate.now _ _ (all_of g.G.Gate.Stands g.G.Gate.Between g.G.Gate.Owns g.G.Gate.Adds g.G.Gate.bytes_fetched g.G.Gate.told g.G.Gate.Answers c.args.plan.now c.args.place (IsFooterGiven c.args.known row.size) (IsNoFooter c.args.known row.size) c.in_ok-footer.footer c.args.gate.now _ k) b) c.from_residual-in_err-listed.ensures.1
    (λ ys done. inr (record { footer = c.in_ok-footer.footer; footer_calls = k.calls; rest = b.calls ++ ys; calls_are = append_assoc k.calls b.calls ys; footer_given = k.says.1 })) c.in_err-listed.ensures.reads

pub returns-in_err-pieces-clause-reads : goal.returns-in_err-pieces-clause-reads
returns-in_err-pieces-clause-reads g c = λ row there.
    let k = c.in_ok-footer.ensures.reads row there in
    let b = c.in_ok-blocks.ensures.reads in
    let l = c.in_ok-listed.ensures.reads in
    let two = then_all g.G.Gate.Stands g.G.Gate.Between g.G.Gate.Owns g.G.Gate.Adds g.G.Gate.bytes_fetched g.G.Gate.told g.G.Gate.Answers c.args.plan.now c.args.place (AreKeptBehind []) NeverRefused c.in_ok-blocks.blocks k.calls c.args.gate.now _ _ (all_of g.G.Gate.Stands g.G.Gate.Between g.G.Gate.Owns g.G.Gate.Adds g.G.Gate.bytes_fetched g.G.Gate.told g.G.Gate.Answers c.args.plan.now c.args.place (IsFooterGiven c.args.known row.size) (IsNoFooter c.args.known row.size) c.in_ok-footer.footer c.args.gate.now _ k) b in
    then_lost g.G.Gate.Stands g.G.Gate.Between g.G.Gate.Owns g.G.Gate.Adds g.G.Gate.bytes_fetched g.G.Gate.told g.G.Gate.Answers c.args.plan.now c.args.place (AreKeptBehind c.in_ok-listed.listed) (IsPartRead c.args.known row.number row.size) (λ calls. ⊤) (IsNoPart c.args.known row.size) c.in_err-pieces.field-0.0 c.from_residual-in_err-pieces.result ((k.calls ++ b.calls) ++ l.calls) c.args.gate.now _ _
    (then_all g.G.Gate.Stands g.G.Gate.Between g.G.Gate.Owns g.G.Gate.Adds g.G.Gate.bytes_fetched g.G.Gate.told g.G.Gate.Answers c.args.plan.now c.args.place (AreKeptBehind c.in_ok-blocks.blocks) (λ calls. ⊤) c.in_ok-listed.listed (k.calls ++ b.calls) c.args.gate.now _ _ two l) c.from_residual-in_err-pieces.ensures.1
    (λ ys done. inr (record { footer = c.in_ok-footer.footer; footer_calls = k.calls; rest = b.calls ++ (l.calls ++ ys); calls_are = append_assoc (k.calls ++ b.calls) l.calls ys ∙ append_assoc k.calls b.calls (l.calls ++ ys); footer_given = k.says.1 })) c.in_err-pieces.ensures.reads

pub returns-clause-reads : goal.returns-clause-reads
returns-clause-reads g c = λ row there.
    let k = c.in_ok-footer.ensures.reads row there in
    let b = c.in_ok-blocks.ensures.reads in
    let l = c.in_ok-listed.ensures.reads in
    let w = c.in_ok-pieces.ensures.reads in
    let same : c.at.result.now ≡ row = same_row _ c.at.result.now row c.at.ensures there in
    let two = then_all g.G.Gate.Stands g.G.Gate.Between g.G.Gate.Owns g.G.Gate.Adds g.G.Gate.bytes_fetched g.G.Gate.told g.G.Gate.Answers c.args.plan.now c.args.place (AreKeptBehind []) NeverRefused c.in_ok-blocks.blocks k.calls c.args.gate.now _ _ (all_of g.G.Gate.Stands g.G.Gate.Between g.G.Gate.Owns g.G.Gate.Adds g.G.Gate.bytes_fetched g.G.Gate.told g.G.Gate.Answers c.args.plan.now c.args.place (IsFooterGiven c.args.known row.size) (IsNoFooter c.args.known row.size) c.in_ok-footer.footer c.args.gate.now _ k) b in
    let three = then_all g.G.Gate.Stands g.G.Gate.Between g.G.Gate.Owns g.G.Gate.Adds g.G.Gate.bytes_fetched g.G.Gate.told g.G.Gate.Answers c.args.plan.now c.args.place (AreKeptBehind c.in_ok-blocks.blocks) (λ calls. ⊤) c.in_ok-listed.listed (k.calls ++ b.calls) c.args.gate.now _ _ two l in
    let behind = kept_further [] c.in_ok-blocks.blocks c.in_ok-listed.listed b.calls l.calls b.says.1 l.says.1 in
    read_well g.G.Gate.Stands g.G.Gate.Between g.G.Gate.Owns g.G.Gate.Adds g.G.Gate.bytes_fetched g.G.Gate.told g.G.Gate.Answers c.args.plan.now c.args.place (IsPartRead c.args.known row.number row.size) (IsNoPart c.args.known row.size) _ (((k.calls ++ b.calls) ++ l.calls) ++ w.calls) c.args.gate.now _
    (then_all g.G.Gate.Stands g.G.Gate.Between g.G.Gate.Owns g.G.Gate.Adds g.G.Gate.bytes_fetched g.G.Gate.told g.G.Gate.Answers c.args.plan.now c.args.place (AreKeptBehind c.in_ok-listed.listed) (λ calls. ⊤) c.in_ok-pieces.pieces ((k.calls ++ b.calls) ++ l.calls) c.args.gate.now _ _ three w)
    (record {
      footer_calls = k.calls;
      piece_calls = (b.calls ++ l.calls) ++ w.calls;
      looks = [];
      calls_are = ap (λ (cs : List FetchCall). cs ++ w.calls) (append_assoc k.calls b.calls l.calls) ∙ (append_assoc k.calls (b.calls ++ l.calls) w.calls ∙ ap (λ (cs : List FetchCall). k.calls ++ cs) (sym (append-nil ((b.calls ++ l.calls) ++ w.calls))));
      footer_given = k.says.1;
      pieces_are = kept_further [] c.in_ok-listed.listed c.in_ok-pieces.pieces (b.calls ++ l.calls) w.calls behind w.says.1;
      number_is = ap (λ (r : PlanRow). r.number) same;
      no_bytes = tt;
    })
