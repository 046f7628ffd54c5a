use Rattle.std.proofs.Common.{◌≡◌, Option, Some, Ok, ap, refl, sym, subst, ◌∙◌, arith, [], ℕ, None}
use Rattle.index_world.specs.Gate.{grace_of}
use Rattle.meta_store.specs.declared.planning.PlanRow.{PlanRow}
use Rattle.split_bundle.specs.Files.{file_bytes}
use Rattle.split_bundle.specs.declared.footer.Footer.{Footer}
use Rattle.root_search.specs.Fetching.{FetchesAs, IsFooterFetched}
use Rattle.root_search.specs.FetchedSplits.{IsKnown}
use Rattle.root_search.proofs.Fetches.{all_done, none_made}
use Rattle.root_search.proofs.Kept.{same_row}
use Rattle.root_search.specs.FetchCalls.{IsFooterGiven, IsNoFooter, ReadsAs}
use Rattle.root_search.proofs.CallsMade.{none_called, read_well}
use Rattle.root_search.proofs.fetching.footer_of.Goals as goal

pub returns-in-Some-clause-step : goal.returns-in-Some-clause-step
returns-in-Some-clause-step g c = λ config s documents p core log stands configured file is known.
    subst (λ (o : Option Footer). FetchesAs (grace_of config c.args.plan.now) file.row.number g.G.Gate.Stands g.G.Gate.Between g.G.Gate.Adds g.G.Gate.bytes_fetched (IsFooterFetched o p) (Ok c.in-Some.footer) core log c.args.gate.now c.args.gate.now) (sym c.in-Some.is)
    (all_done (grace_of config c.args.plan.now) file.row.number g.G.Gate.Stands g.G.Gate.Between g.G.Gate.Adds g.G.Gate.bytes_fetched core log c.args.gate.now (IsFooterFetched (Some c.in-Some.footer) p) c.in-Some.footer 0 0 _
    (none_made (grace_of config c.args.plan.now) file.row.number g.G.Gate.Stands g.G.Gate.Between g.G.Gate.Adds g.G.Gate.bytes_fetched core log c.args.gate.now (g.met.G.Gate.adds_none c.args.gate.now) stands)
    (record { is_footer = subst (IsKnown (file_bytes p)) c.in-Some.is known; calls = refl; few = omega arith }))

pub returns-in-None-clause-step : goal.returns-in-None-clause-step
returns-in-None-clause-step g c = λ config s documents p core log stands configured file is known.
    let same : c.at.result.now ≡ file.row = same_row _ c.at.result.now file.row c.at.ensures file.stands in
    subst (λ (o : Option Footer). FetchesAs (grace_of config c.args.plan.now) file.row.number g.G.Gate.Stands g.G.Gate.Between g.G.Gate.Adds g.G.Gate.bytes_fetched (IsFooterFetched o p) c.read_footer.result core log c.args.gate.now c.read_footer.new.gate) (sym c.in-None.is)
    (c.read_footer.ensures.step config s documents p core log stands configured file is (ap (λ (r : PlanRow). r.size) same ∙ file.size))

pub returns-in-Some-clause-reads : goal.returns-in-Some-clause-reads
returns-in-Some-clause-reads g c = λ row there.
    subst (λ (o : Option Footer). ReadsAs g.G.Gate.Stands g.G.Gate.Between g.G.Gate.Owns g.G.Gate.Adds g.G.Gate.bytes_fetched g.G.Gate.told g.G.Gate.Answers c.args.plan.now c.args.place (IsFooterGiven o row.size) (IsNoFooter o row.size) (Ok c.in-Some.footer) c.args.gate.now c.args.gate.now) (sym c.in-Some.is)
    (read_well g.G.Gate.Stands g.G.Gate.Between g.G.Gate.Owns g.G.Gate.Adds g.G.Gate.bytes_fetched g.G.Gate.told g.G.Gate.Answers c.args.plan.now c.args.place (IsFooterGiven (Some c.in-Some.footer) row.size) (IsNoFooter (Some c.in-Some.footer) row.size) c.in-Some.footer [] c.args.gate.now c.args.gate.now (none_called g.G.Gate.Stands g.G.Gate.Between g.G.Gate.Owns g.G.Gate.Adds g.G.Gate.bytes_fetched g.G.Gate.told g.G.Gate.Answers c.args.plan.now c.args.place c.args.gate.now) (refl, refl))

pub returns-in-None-clause-reads : goal.returns-in-None-clause-reads
returns-in-None-clause-reads g c = λ row there.
    let same : c.at.result.now ≡ row = same_row _ c.at.result.now row c.at.ensures there in
    subst (λ (o : Option Footer). ReadsAs g.G.Gate.Stands g.G.Gate.Between g.G.Gate.Owns g.G.Gate.Adds g.G.Gate.bytes_fetched g.G.Gate.told g.G.Gate.Answers c.args.plan.now c.args.place (IsFooterGiven o row.size) (IsNoFooter o row.size) c.read_footer.result c.args.gate.now c.read_footer.new.gate) (sym c.in-None.is)
    (subst (λ (n : ℕ). ReadsAs g.G.Gate.Stands g.G.Gate.Between g.G.Gate.Owns g.G.Gate.Adds g.G.Gate.bytes_fetched g.G.Gate.told g.G.Gate.Answers c.args.plan.now c.args.place (IsFooterGiven None n) (IsNoFooter None n) c.read_footer.result c.args.gate.now c.read_footer.new.gate) (ap (λ (r : PlanRow). r.size) same) c.read_footer.ensures.reads)
