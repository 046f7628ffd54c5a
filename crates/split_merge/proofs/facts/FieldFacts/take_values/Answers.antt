use Rattle.std.proofs.Common.{ℕ, ◌++◌, ◌∷◌, [], ◌+◌, arith, refl}
use Rattle.split_merge.specs.Lent.{value_of}
use Rattle.split_merge.specs.Scanning.{holding}
use Rattle.split_merge.proofs.GainLemmas.{gains_one}
use Rattle.split_merge.proofs.ScanLemmas.{scan_stop, values_all, values_next, values_stop}
use Rattle.split_merge.proofs.facts.FieldFacts.take_values.Goals as goal

pub returns-in-Err-clause-exact : goal.returns-in-Err-clause-exact
returns-in-Err-clause-exact c = λ s ds fs below h.
    scan_stop {X = ℕ} (λ n r. Unit {0}) c.bad_document.result _ c.in-Err._fault c.bad_document.ensures
    (values_stop s ds fs c.args.head.now c.args.bytes.now c.loop-taken.self c.loop-taken._taken c.loop-taken.at c.in-Err._fault c.loop-taken-test.true c.in-Err.ensures.exact (c.loop-taken.invariant.exact s ds fs below h))

pub loop-taken-preserved : goal.loop-taken-preserved
loop-taken-preserved c = record {
  within = c.in-Ok.ensures.found.within;
  exact = λ s ds fs below h.
      let so_far = c.loop-taken.invariant.exact s ds fs below h in
      values_next s ds fs c.args.head.now c.args.bytes.now c.loop-taken.self c.add.new.self c.loop-taken._taken (c.loop-taken._taken + 1) c.loop-taken.at c.in-Ok.next (value_of c.in-Ok.value) so_far c.loop-taken-test.true refl c.in-Ok.ensures.exact c.in-Ok.ensures.found c.in-Ok.ensures.held
      (c.in_ok-add-in-Ok.ensures s ds (holding (fs ++ record { number = c.args.head.now.number; values = so_far.done } ∷ [])) (holding (fs ++ record { number = c.args.head.now.number; values = so_far.done ++ value_of c.in-Ok.value ∷ [] } ∷ []))
      (gains_one fs c.args.head.now.number so_far.done (value_of c.in-Ok.value) below) so_far.facts);
}

pub returns-clause-exact : goal.returns-clause-exact
returns-clause-exact c = λ s ds fs below h.
    values_all s ds fs c.args.head.now c.args.bytes.now c.loop-taken.self c.loop-taken._taken c.loop-taken.at (omega (arith, c.loop-taken-test.false, c.loop-taken.auto._taken-end)) (c.loop-taken.invariant.exact s ds fs below h)
