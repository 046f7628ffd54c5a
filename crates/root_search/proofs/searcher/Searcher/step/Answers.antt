use Rattle.std.proofs.Common.{◌≡◌, ◌≤◌, ℕ, List, length, ap, refl, subst, sym, ◌∙◌, Some}
use Rattle.root_search.specs.declared.searcher.Request.{Request}
use Rattle.root_search.specs.declared.searcher.Request.TheVariants.{Opened, Planned, Vacant}
use Rattle.root_search.specs.Requests.{asked_of}
use Rattle.root_search.specs.Searching.{IsPlanned, IsRequest}
use Rattle.root_search.specs.StepPlans.{AnswersText}
use Rattle.root_search.specs.Steps.{no_request, opened}
use Rattle.root_search.proofs.Leaving.{idle_leaves, opened_leaves, planned_leaves, vacant_same, works_behind}
use Rattle.root_search.proofs.Steps.{idle_as, opened_one, opened_unplanned, planned_is, planned_one, vacant_unopened, vacant_unplanned}
use Rattle.std.specs.Prelude.{slice_get}
use Rattle.root_search.specs.StepReads.{FetchesRow, SaysOver}
use Rattle.root_search.specs.declared.planned.Planned.{Planned as GivenPlan}
use Rattle.root_search.proofs.searcher.Searcher.step.Goals as goal

pub returns-in-Vacant-clause-step : goal.returns-in-Vacant-clause-step
returns-in-Vacant-clause-step g c client core log good stands s =
    let was : c.args.self.now.request ≡ Vacant = sym c.replace.ensures.value ∙ c.in-Vacant.is in
    let none : client.request ≡ no_request = subst (λ r. IsRequest c.args.self.now.footers r client.request core log) was s.request in
    idle_as g.G.Gate.Stands g.G.Gate.Between g.G.Gate.Adds c.args.gate.now _ _ _ client core log (g.met.G.Gate.none_between core) (g.met.G.Gate.adds_none c.args.gate.now) stands none
    (record {
      says = refl;
      stands = record { name = s.name; front = s.front; footers = s.footers; request = subst (λ r. IsRequest c.args.self.now.footers r client.request core log) (sym c.replace.ensures.after) none };
    })

pub returns-in-Vacant-clause-draws : goal.returns-in-Vacant-clause-draws
returns-in-Vacant-clause-draws g c plan client core log asked stands s number documents p fetched uploaded is = absurd (cc)

pub returns-in-Opened-clause-step : goal.returns-in-Opened-clause-step
returns-in-Opened-clause-step g c client core log good stands s =
    let was : c.args.self.now.request ≡ Opened c.in-Opened.text = sym c.replace.ensures.value ∙ c.in-Opened.is in
    let asked : client.request ≡ opened c.in-Opened.text = subst (λ r. IsRequest c.args.self.now.footers r client.request core log) was s.request in
    c.take_up.ensures.step client core log asked stands (record { vacant = c.replace.ensures.after; name = s.name; front = s.front; footers = s.footers })

pub returns-in-Opened-clause-draws : goal.returns-in-Opened-clause-draws
returns-in-Opened-clause-draws g c plan client core log asked stands s =
    let was : c.args.self.now.request ≡ Opened c.in-Opened.text = sym c.replace.ensures.value ∙ c.in-Opened.is in
    let other : client.request ≡ opened c.in-Opened.text = subst (λ r. IsRequest c.args.self.now.footers r client.request core log) was s.request in
    absurd (cc)

pub returns-in-Planned-clause-step : goal.returns-in-Planned-clause-step
returns-in-Planned-clause-step g c client core log good stands s =
    let was : c.args.self.now.request ≡ Planned c.in-Planned.planned = sym c.replace.ensures.value ∙ c.in-Planned.is in
    let held = subst (λ r. IsRequest c.args.self.now.footers r client.request core log) was s.request in
    c.go_on.ensures.step held.0 client core log good held.1 held.2 held.3 stands (record { vacant = c.replace.ensures.after; name = s.name; front = s.front; footers = s.footers })

pub returns-in-Planned-clause-draws : goal.returns-in-Planned-clause-draws
returns-in-Planned-clause-draws g c plan client core log asked stands s =
    let was : c.args.self.now.request ≡ Planned c.in-Planned.planned = sym c.replace.ensures.value ∙ c.in-Planned.is in
    let held = subst (λ r. IsRequest c.args.self.now.footers r client.request core log) was s.request in
    let same = planned_is client.request held.0 plan held.1 asked in
    c.go_on.ensures.draws plan client core log (subst (λ q. IsPlanned c.in-Planned.planned q core log) same held.2) stands (record { vacant = c.replace.ensures.after; name = s.name; front = s.front; footers = s.footers })

pub returns-in-Vacant-clause-reads : goal.returns-in-Vacant-clause-reads
returns-in-Vacant-clause-reads g c planned row is there = absurd (vacant_unplanned c.args.self.now.request planned (sym c.replace.ensures.value ∙ c.in-Vacant.is) is)

pub returns-in-Opened-clause-reads : goal.returns-in-Opened-clause-reads
returns-in-Opened-clause-reads g c planned row is there = absurd (opened_unplanned c.args.self.now.request c.in-Opened.text planned (sym c.replace.ensures.value ∙ c.in-Opened.is) is)

pub returns-in-Planned-clause-reads : goal.returns-in-Planned-clause-reads
returns-in-Planned-clause-reads g c planned row is there =
    let same : planned ≡ c.in-Planned.planned = planned_one c.args.self.now.request c.in-Planned.planned planned (sym c.replace.ensures.value ∙ c.in-Planned.is) is in
    subst (λ (q : GivenPlan). FetchesRow g.G.Gate.Stands g.G.Gate.Between g.G.Gate.Owns g.G.Gate.Adds g.G.Gate.bytes_fetched g.G.Gate.told g.G.Gate.Answers c.args.self.now.footers q row c.go_on.new.self.request c.go_on.result c.args.gate.now c.go_on.new.gate) (sym same)
    (c.go_on.ensures.reads row (subst (λ (q : GivenPlan). slice_get q.plan.rows q.next ≡ Some row) same there))

pub returns-in-Vacant-clause-answers : goal.returns-in-Vacant-clause-answers
returns-in-Vacant-clause-answers g c planned is over = absurd (vacant_unplanned c.args.self.now.request planned (sym c.replace.ensures.value ∙ c.in-Vacant.is) is)

pub returns-in-Opened-clause-answers : goal.returns-in-Opened-clause-answers
returns-in-Opened-clause-answers g c planned is over = absurd (opened_unplanned c.args.self.now.request c.in-Opened.text planned (sym c.replace.ensures.value ∙ c.in-Opened.is) is)

pub returns-in-Planned-clause-answers : goal.returns-in-Planned-clause-answers
returns-in-Planned-clause-answers g c planned is over =
    let same : planned ≡ c.in-Planned.planned = planned_one c.args.self.now.request c.in-Planned.planned planned (sym c.replace.ensures.value ∙ c.in-Planned.is) is in
    subst (λ (q : GivenPlan). SaysOver (g.G.Gate.configured c.args.gate.now) q c.go_on.result) (sym same) (c.go_on.ensures.answers (subst (λ (q : GivenPlan). length q.plan.rows ≤ q.next) same over))

pub returns-in-Vacant-clause-plans : goal.returns-in-Vacant-clause-plans
returns-in-Vacant-clause-plans g c text is = absurd (vacant_unopened c.args.self.now.request text (sym c.replace.ensures.value ∙ c.in-Vacant.is) is)

pub returns-in-Opened-clause-plans : goal.returns-in-Opened-clause-plans
returns-in-Opened-clause-plans g c text is =
    let same : text ≡ c.in-Opened.text = opened_one c.args.self.now.request c.in-Opened.text text (sym c.replace.ensures.value ∙ c.in-Opened.is) is in
    let config = g.G.Gate.configured c.args.gate.now in
    subst (λ (t : List ℕ). AnswersText g.G.Gate.Stands g.G.Gate.Between g.G.Gate.Owns g.G.Gate.Adds g.G.Gate.bytes_fetched g.G.Gate.Answers config.schema (asked_of config t) c.args.self.now.front c.take_up.new.self.request c.take_up.result c.args.gate.now c.take_up.new.gate) (sym same) c.take_up.ensures.plans

pub returns-in-Planned-clause-plans : goal.returns-in-Planned-clause-plans
returns-in-Planned-clause-plans g c text is = absurd (opened_unplanned c.args.self.now.request text c.in-Planned.planned is (sym c.replace.ensures.value ∙ c.in-Planned.is))

pub returns-in-Vacant-clause-leaves : goal.returns-in-Vacant-clause-leaves
returns-in-Vacant-clause-leaves g c =
    let was : c.args.self.now.request ≡ Vacant = sym c.replace.ensures.value ∙ c.in-Vacant.is in
    idle_leaves c.args.self.now _ _ was (refl, vacant_same c.args.self.now _ was (ap (λ (q : Request). record c.args.self.now { request = q }) c.replace.ensures.after))

pub returns-in-Opened-clause-leaves : goal.returns-in-Opened-clause-leaves
returns-in-Opened-clause-leaves g c =
    opened_leaves c.args.self.now c.take_up.new.self c.take_up.result c.in-Opened.text (sym c.replace.ensures.value ∙ c.in-Opened.is)
    (works_behind c.args.self.now _ c.take_up.new.self c.take_up.result refl refl (λ number footer kept. kept) (c.take_up.ensures.leaves c.replace.ensures.after))

pub returns-in-Planned-clause-leaves : goal.returns-in-Planned-clause-leaves
returns-in-Planned-clause-leaves g c =
    planned_leaves c.args.self.now c.go_on.new.self c.go_on.result c.in-Planned.planned (sym c.replace.ensures.value ∙ c.in-Planned.is)
    (works_behind c.args.self.now _ c.go_on.new.self c.go_on.result refl refl (λ number footer kept. kept) (c.go_on.ensures.leaves c.replace.ensures.after))
