use Rattle.std.proofs.Common.{◌≡◌, ◌+◌, ℕ, List, length, nat_eq, refl, sym, ap, subst, ◌∙◌, Ok, false, map, drop, arith}
use Rattle.std.specs.Map.{lookup}
use Rattle.index_world.specs.Gate.{grace_of}
use Rattle.index_world.specs.Core.{IsStoredIn, Nobody}
use Rattle.index_world.proofs.InCore.{shown_goes, stored_is_shown}
use Rattle.meta_store.specs.declared.planning.PlanRow.{PlanRow}
use Rattle.split_bundle.specs.Files.{file_bytes}
use Rattle.root_search.specs.Fetching.{IsPartFetched, part_calls}
use Rattle.root_search.specs.Footers.{entries}
use Rattle.root_search.specs.FetchedSplits.{IsFooterIn}
use Rattle.root_search.specs.Searching.{Ends, FaultEnds, documents_at}
use Rattle.root_search.specs.Steps.{config_at, fetch_by, or_short}
use Rattle.root_search.specs.declared.outcome.SearchStep.TheVariants.{Fetched}
use Rattle.root_search.specs.declared.searcher.Searcher.{Searcher}
use Rattle.root_search.proofs.Fetches.{graced}
use Rattle.root_search.proofs.Bounds.{fetched_one, no_answer, no_draw, step_draws}
use Rattle.root_search.proofs.Kept.{fewer_kept, kept_footer, known_footer, more_kept, same_row}
use Rattle.root_search.proofs.PlannedRows.{fewer_known, file_of_next, more_known, next_footer, next_row, planned_few, one_more}
use Rattle.root_search.proofs.Stands.{configured_then, footers_go_on, known_goes_on, work_goes_on}
use Rattle.root_search.proofs.Steps.{fault_as, fetched_as, short_as}
use Rattle.root_search.specs.FetchCalls.{IsNoPart, IsPartRead}
use Rattle.root_search.specs.StepReads.{IsFetchRefusal, Refuses}
use Rattle.root_search.proofs.Leaving.{fewer_left, works_behind, works_fetched, works_short}
use Rattle.root_search.proofs.RowReads.{never_corrupt, row_read, row_refused, row_short}
use Rattle.root_search.proofs.searcher.Searcher.fetch.Goals as goal

pub returns-in_err-later-in-Ok-clause-step : goal.returns-in_err-later-in-Ok-clause-step
returns-in_err-later-in-Ok-clause-step g c plan client core log good asked planned seen stands w =
    let row = c.at.result.now in
    let next = next_row c.args.planned plan core log row planned c.at.ensures in
    let left = map (λ (r : PlanRow). r.number) (drop (c.args.planned.next + 1) c.args.planned.plan.rows) in
    let configured = configured_then core log plan.revision plan.grace.until (g.met.G.Gate.is_sound c.args.gate.now core log stands) planned.in_hand in
    let docs = documents_at plan.revision core log next.row in
    let p = next.split.stands.parts in
    let there = file_of_next c.args.planned plan core log row p next c.at.ensures next.split.stands.bytes_are in
    let known = known_footer c.args.self.now.footers row.number (file_bytes p) c.take-known.result (next_footer c.args.self.now.footers c.args.planned plan core log row.number row.size (file_bytes p) seen next next.split.stands.bytes_are) c.take-known.ensures.found in
    let f = graced _ _ _ _ _ _ _ _ _ _ _ _ _ (sym planned.grace) (c.in-Ok.ensures.step (config_at plan.revision core) docs p core log stands configured there.1 next.split.stands.is_split planned.asked known) in
    let kept = more_kept c.take-known.new.self c.keep.new.self f.after row.number c.in-Ok.part.footer c.keep.ensures (record { bytes = file_bytes p; shown = shown_goes Nobody core f.after row.number (file_bytes p) f.goes_on.always there.0; footer_is = f.says.1.footer })
    (footers_go_on Nobody c.take-known.new.self core f.after f.goes_on.always (fewer_kept c.args.self.now.footers c.take-known.new.self core row.number c.take-known.ensures.left w.footers)) in
    short_as g.G.Gate.Stands g.G.Gate.Between g.G.Gate.Adds c.args.gate.now _ _ _ client core log plan row.number left f.passages f.answer f.after (g.met.G.Gate.none_between core) f.passed f.did f.goes_on f.stands asked next.left c.from_residual.ensures.0
    (record { vacant = w.vacant; name = w.name; front = w.front; footers = kept }) f.made f.own f.recorded

pub returns-in_err-later-in-Ok-clause-draws : goal.returns-in_err-later-in-Ok-clause-draws
returns-in_err-later-in-Ok-clause-draws g c plan client core log planned stands w number documents p fetched uploaded is =
    absurd (no_answer c.from_residual.result (Fetched number) c.from_residual.ensures.0 fetched)

pub returns-in_ok-later-in-Ok-clause-step : goal.returns-in_ok-later-in-Ok-clause-step
returns-in_ok-later-in-Ok-clause-step g c plan client core log good asked planned seen stands w =
    let row = c.at.result.now in
    let next = next_row c.args.planned plan core log row planned c.at.ensures in
    let left = map (λ (r : PlanRow). r.number) (drop (c.args.planned.next + 1) c.args.planned.plan.rows) in
    let configured = configured_then core log plan.revision plan.grace.until (g.met.G.Gate.is_sound c.args.gate.now core log stands) planned.in_hand in
    let docs = documents_at plan.revision core log next.row in
    let p = next.split.stands.parts in
    let there = file_of_next c.args.planned plan core log row p next c.at.ensures next.split.stands.bytes_are in
    let known = known_footer c.args.self.now.footers row.number (file_bytes p) c.take-known.result (next_footer c.args.self.now.footers c.args.planned plan core log row.number row.size (file_bytes p) seen next next.split.stands.bytes_are) c.take-known.ensures.found in
    let f = graced _ _ _ _ _ _ _ _ _ _ _ _ _ (sym planned.grace) (c.in-Ok.ensures.step (config_at plan.revision core) docs p core log stands configured there.1 next.split.stands.is_split planned.asked known) in
    let kept = more_kept c.take-known.new.self c.keep.new.self f.after row.number c.in-Ok.part.footer c.keep.ensures (record { bytes = file_bytes p; shown = shown_goes Nobody core f.after row.number (file_bytes p) f.goes_on.always there.0; footer_is = f.says.1.footer })
    (footers_go_on Nobody c.take-known.new.self core f.after f.goes_on.always (fewer_kept c.args.self.now.footers c.take-known.new.self core row.number c.take-known.ensures.left w.footers)) in
    let many = planned_few c.args.planned plan core log planned in
    let calls : length f.passages ≡ part_calls c.take-known.result c.in-Ok.part = f.says.1.calls_are in
    fetched_as g.G.Gate.Stands g.G.Gate.Between g.G.Gate.Adds c.args.gate.now _ _ _ client core log plan row.number left false f.passages f.answer (Ok tt) f.after (omega (arith, calls)) f.passed f.did f.goes_on f.stands asked next.left f.says.0
    (subst (λ (s : Searcher). Ends (Ok (Fetched row.number)) s (or_short false client (fetch_by (Ok tt) plan row.number left client f.after)) log) (sym c.hold.ensures) (record {
      says = refl;
      stands = record {
        name = w.name;
        front = w.front;
        footers = kept;
        request = (
          record plan { unfetched = left },
          refl,
          one_more c.args.planned _ plan core f.after log row.number row.size c.in-Ok.part planned next f.goes_on.always c.in_ok-later-in-Ok.ensures.ask c.in_ok-later-in-Ok.ensures.plan (omega (arith, c.in_ok-later-in-Ok.ensures.next, c.requires, many)) c.in_ok-later-in-Ok.ensures.parts f.says.1.needed,
          known_goes_on Nobody c.keep.new.self core f.after log plan.revision f.goes_on.always planned.in_hand.within
              (more_known c.take-known.new.self c.keep.new.self c.args.planned plan core log row.number row.size c.in-Ok.part.footer planned next c.keep.ensures (subst (λ (bytes : List ℕ). IsFooterIn bytes c.in-Ok.part.footer) (sym next.split.stands.bytes_are) f.says.1.footer)
              (fewer_known c.args.self.now.footers c.take-known.new.self plan.revision core log row.number c.take-known.ensures.left seen)),
        );
      };
    })) f.made f.own f.recorded

pub returns-in_ok-later-in-Ok-clause-draws : goal.returns-in_ok-later-in-Ok-clause-draws
returns-in_ok-later-in-Ok-clause-draws g c plan client core log planned stands w number documents p fetched uploaded is =
    let row = c.at.result.now in
    let next = next_row c.args.planned plan core log row planned c.at.ensures in
    let configured = configured_then core log plan.revision plan.grace.until (g.met.G.Gate.is_sound c.args.gate.now core log stands) planned.in_hand in
    let same : row.number ≡ number = fetched_one row.number number _ refl fetched in
    let stored = subst (λ (n : ℕ). IsStoredIn core n (file_bytes p)) (sym same) uploaded in
    let there = file_of_next c.args.planned plan core log row p next c.at.ensures (sym (stored_is_shown core row.number (file_bytes p) _ stored next.shown)) in
    let known = known_footer c.args.self.now.footers row.number (file_bytes p) c.take-known.result (kept_footer c.args.self.now.footers core row.number (file_bytes p) w.footers stored) c.take-known.ensures.found in
    let f = graced _ _ _ _ _ _ _ _ _ _ _ _ _ (sym planned.grace) (c.in-Ok.ensures.step (config_at plan.revision core) documents p core log stands configured there.1 is planned.asked known) in
    step_draws c.args.self.now (config_at plan.revision core).schema plan.search c.args.planned.ask c.take-known.result number documents p c.in-Ok.part.footer f.drawn _ _ is (f.says.1.footer (config_at plan.revision core).schema documents p is refl) planned.asks planned.asked f.says.1.draws f.count
    (c.take-known.ensures.found ∙ ap (λ (n : ℕ). lookup (nat_eq n) (entries c.args.self.now.footers)) same)

pub returns-in-Err-clause-step : goal.returns-in-Err-clause-step
returns-in-Err-clause-step g c plan client core log good asked planned seen stands w =
    let row = c.at.result.now in
    let next = next_row c.args.planned plan core log row planned c.at.ensures in
    let left = map (λ (r : PlanRow). r.number) (drop (c.args.planned.next + 1) c.args.planned.plan.rows) in
    let configured = configured_then core log plan.revision plan.grace.until (g.met.G.Gate.is_sound c.args.gate.now core log stands) planned.in_hand in
    let docs = documents_at plan.revision core log next.row in
    let p = next.split.stands.parts in
    let there = file_of_next c.args.planned plan core log row p next c.at.ensures next.split.stands.bytes_are in
    let known = known_footer c.args.self.now.footers row.number (file_bytes p) c.take-known.result (next_footer c.args.self.now.footers c.args.planned plan core log row.number row.size (file_bytes p) seen next next.split.stands.bytes_are) c.take-known.ensures.found in
    let f = graced _ _ _ _ _ _ _ _ _ _ _ _ _ (sym planned.grace) (c.in-Err.ensures.step (config_at plan.revision core) docs p core log stands configured there.1 next.split.stands.is_split planned.asked known) in
    let ends = c.refuse_fetch.ensures.step client f.after log (work_goes_on _ client core f.after f.goes_on.always (record { vacant = w.vacant; name = w.name; front = w.front; footers = fewer_kept c.args.self.now.footers c.take-known.new.self core row.number c.take-known.ensures.left w.footers })) in
    fault_as g.G.Gate.Stands g.G.Gate.Between g.G.Gate.Adds c.args.gate.now _ _ _ client core log g.G.Gate.bytes_fetched (IsPartFetched (config_at plan.revision core).schema c.args.planned.ask.request c.take-known.result docs p (part_calls c.take-known.result)) c.in-Err.fault plan row.number left
    (g.met.G.Gate.none_between core) f (subst (λ (r : ℕ). FaultEnds c.in-Err.fault c.refuse_fetch.result c.refuse_fetch.new.self r client f.after log) planned.revision ends) asked next.left

pub returns-in-Err-clause-draws : goal.returns-in-Err-clause-draws
returns-in-Err-clause-draws g c plan client core log planned stands w number documents p fetched uploaded is = absurd (no_draw c.refuse_fetch.result number c.refuse_fetch.ensures.replied fetched)

pub returns-in_err-later-in-Ok-clause-reads : goal.returns-in_err-later-in-Ok-clause-reads
returns-in_err-later-in-Ok-clause-reads g c row there =
    let same : c.at.result.now ≡ row = same_row _ c.at.result.now row c.at.ensures there in
    let number : c.at.result.now.number ≡ row.number = ap (λ (r : PlanRow). r.number) same in
    let found = c.take-known.ensures.found ∙ ap (λ (n : ℕ). lookup (nat_eq n) (entries c.args.self.now.footers)) number in
    row_short g.G.Gate.Stands g.G.Gate.Between g.G.Gate.Owns g.G.Gate.Adds g.G.Gate.bytes_fetched g.G.Gate.told g.G.Gate.Answers c.args.self.now.footers c.args.planned row _ c.args.gate.now _ c.take-known.result found (IsPartRead c.take-known.result row.number row.size) (IsNoPart c.take-known.result row.size) _ c.from_residual.result (c.in-Ok.ensures.reads row there) c.from_residual.ensures.0

pub returns-in_ok-later-in-Ok-clause-reads : goal.returns-in_ok-later-in-Ok-clause-reads
returns-in_ok-later-in-Ok-clause-reads g c row there =
    let same : c.at.result.now ≡ row = same_row _ c.at.result.now row c.at.ensures there in
    let number : c.at.result.now.number ≡ row.number = ap (λ (r : PlanRow). r.number) same in
    let found = c.take-known.ensures.found ∙ ap (λ (n : ℕ). lookup (nat_eq n) (entries c.args.self.now.footers)) number in
    row_read g.G.Gate.Stands g.G.Gate.Between g.G.Gate.Owns g.G.Gate.Adds g.G.Gate.bytes_fetched g.G.Gate.told g.G.Gate.Answers c.args.self.now.footers c.args.planned row _ c.args.gate.now _ c.take-known.result found c.in-Ok.part _ c.at.result.now.number (c.in-Ok.ensures.reads row there) number (ap (λ (s : Searcher). s.request) c.hold.ensures) c.in_ok-later-in-Ok.ensures.ask c.in_ok-later-in-Ok.ensures.plan c.in_ok-later-in-Ok.ensures.next c.in_ok-later-in-Ok.ensures.parts

pub returns-in-Err-clause-reads : goal.returns-in-Err-clause-reads
returns-in-Err-clause-reads g c row there =
    let same : c.at.result.now ≡ row = same_row _ c.at.result.now row c.at.ensures there in
    let number : c.at.result.now.number ≡ row.number = ap (λ (r : PlanRow). r.number) same in
    let found = c.take-known.ensures.found ∙ ap (λ (n : ℕ). lookup (nat_eq n) (entries c.args.self.now.footers)) number in
    row_refused g.G.Gate.Stands g.G.Gate.Between g.G.Gate.Owns g.G.Gate.Adds g.G.Gate.bytes_fetched g.G.Gate.told g.G.Gate.Answers c.args.self.now.footers c.args.planned row _ c.args.gate.now _ c.take-known.result found c.in-Err.fault c.refuse_fetch.result (c.in-Err.ensures.reads row there)
    (subst (λ (n : ℕ). Refuses c.args.planned.plan.revision (IsFetchRefusal n c.in-Err.fault) c.refuse_fetch.result) number c.refuse_fetch.ensures.refuses)
    (λ is_corrupt config documents p core log stands configured file is asked known.
    never_corrupt (grace_of config c.args.planned.plan) file.row.number g.G.Gate.Stands g.G.Gate.Between g.G.Gate.Adds g.G.Gate.bytes_fetched (IsPartFetched config.schema c.args.planned.ask.request c.take-known.result documents p (part_calls c.take-known.result)) c.in-Err.fault core log c.args.gate.now _ (c.in-Err.ensures.step config documents p core log stands configured file is asked known) is_corrupt)

pub returns-in_err-later-in-Ok-clause-leaves : goal.returns-in_err-later-in-Ok-clause-leaves
returns-in_err-later-in-Ok-clause-leaves g c none = works_short c.args.self.now (record c.args.self.now { footers = c.keep.new.self }) c.from_residual.result c.from_residual.ensures.0 refl refl none

pub returns-in_ok-later-in-Ok-clause-leaves : goal.returns-in_ok-later-in-Ok-clause-leaves
returns-in_ok-later-in-Ok-clause-leaves g c none =
    let read = c.in-Ok.ensures.reads c.at.result.now c.at.ensures in
    works_fetched c.args.self.now c.hold.new.self c.take-known.new.self c.keep.new.self c.at.result.now.number _ c.args.planned.parts c.in-Ok.part c.hold.ensures c.in_ok-later-in-Ok.ensures.parts read.says.1.number_is c.take-known.ensures.left c.keep.ensures

pub returns-in-Err-clause-leaves : goal.returns-in-Err-clause-leaves
returns-in-Err-clause-leaves g c none =
    let mid : Searcher = record c.args.self.now { footers = c.take-known.new.self } in
    works_behind c.args.self.now mid c.refuse_fetch.new.self c.refuse_fetch.result refl refl (fewer_left c.args.self.now.footers c.take-known.new.self c.at.result.now.number c.take-known.ensures.left) (c.refuse_fetch.ensures.leaves none)
