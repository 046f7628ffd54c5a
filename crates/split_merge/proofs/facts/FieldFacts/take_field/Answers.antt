use Rattle.std.proofs.Common.{ℕ, sym, ◌++◌, ◌∷◌, []}
use Rattle.split_merge.specs.Scanning.{holding}
use Rattle.split_merge.proofs.GainLemmas.{none_gained, same_facts}
use Rattle.split_merge.proofs.ScanLemmas.{all_below, field_stop, field_taken, scan_fails, scan_stop, values_fail}
use Rattle.split_merge.proofs.facts.FieldFacts.take_field.Goals as goal

pub returns-in-Ok-take_values-clause-exact : goal.returns-in-Ok-take_values-clause-exact
returns-in-Ok-take_values-clause-exact c = λ s ds fs below h.
    let head = c.in-Ok.head in
    let under = all_below c.args.least head.number fs c.in-Ok.ensures.least below in
    field_taken c.args.fields.now c.args.least c.args.bytes.now c.args.at c.take_values.new.self s ds fs head c.in-Ok-take_values.next c.in-Ok.ensures.found (sym c.in-Ok.ensures.exact)
    (c.in-Ok-take_values.ensures.exact s ds fs under (same_facts ds (holding fs) (holding (fs ++ record { number = head.number; values = [] } ∷ [])) (none_gained fs head.number under) c.args.self.now s h))

pub returns-in-Err-take_values-clause-exact : goal.returns-in-Err-take_values-clause-exact
returns-in-Err-take_values-clause-exact c = λ s ds fs below h.
    let head = c.in-Ok.head in
    let under = all_below c.args.least head.number fs c.in-Ok.ensures.least below in
    scan_fails {X = ℕ} {V = ℕ} (λ n r. Unit {0}) (λ n r. Unit {0}) c.in-Err-take_values.fault _ _ (λ e read. values_fail c.args.fields.now c.args.least c.args.bytes.now c.args.at head e (sym c.in-Ok.ensures.exact) read)
    (c.in-Err-take_values.ensures.exact s ds fs under (same_facts ds (holding fs) (holding (fs ++ record { number = head.number; values = [] } ∷ [])) (none_gained fs head.number under) c.args.self.now s h))

pub returns-in-Err-clause-exact : goal.returns-in-Err-clause-exact
returns-in-Err-clause-exact c = λ s ds fs below h.
    scan_stop {X = ℕ} (λ n r. Unit {0}) c.bad_document.result _ c.in-Err._fault c.bad_document.ensures (field_stop c.args.fields.now c.args.least c.args.bytes.now c.args.at c.in-Err._fault (sym c.in-Err.ensures.exact))
