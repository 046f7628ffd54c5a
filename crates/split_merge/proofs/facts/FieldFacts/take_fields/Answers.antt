use Rattle.std.proofs.Common.{ℕ, arith}
use Rattle.split_merge.proofs.ScanLemmas.{fields_all, fields_first, fields_next, fields_stop, scan_fails}
use Rattle.split_merge.proofs.facts.FieldFacts.take_fields.Goals as goal

pub loop-taken-init : goal.loop-taken-init
loop-taken-init c = record {
  within = c.requires;
  exact = λ s ds h. fields_first s ds c.args.fields.now c.args.count c.args.bytes.now c.args.from c.args.self.now c.requires h;
}

pub loop-taken-preserved : goal.loop-taken-preserved
loop-taken-preserved c = record {
  within = c.in-Ok.ensures.within;
  exact = λ s ds h.
      let so_far = c.loop-taken.invariant.exact s ds h in
      fields_next s ds c.args.fields.now c.args.count c.args.bytes.now c.args.from c.loop-taken.self c.take_field.new.self c.loop-taken._taken c.loop-taken.least c.loop-taken.at c.in-Ok.above c.in-Ok.next so_far c.loop-taken-test.true
      (c.in-Ok.ensures.exact s ds so_far.done so_far.below so_far.facts) c.in-Ok.ensures.least;
}

pub returns-in-Err : goal.returns-in-Err
returns-in-Err c = record {
  exact = λ s ds h.
      let so_far = c.loop-taken.invariant.exact s ds h in
      scan_fails {X = ℕ} {V = ℕ} (λ n r. Unit {0}) (λ n r. Unit {0}) c.in-Err.fault _ _ (λ e read. fields_stop s ds c.args.fields.now c.args.count c.args.bytes.now c.args.from c.loop-taken.self c.loop-taken._taken c.loop-taken.least c.loop-taken.at e c.loop-taken-test.true so_far read)
      (c.in-Err.ensures.exact s ds so_far.done so_far.below so_far.facts);
}

pub returns : goal.returns
returns c = record {
  exact = λ s ds h.
      fields_all s ds c.args.fields.now c.args.count c.args.bytes.now c.args.from c.loop-taken.self c.loop-taken._taken c.loop-taken.least c.loop-taken.at (omega (arith, c.loop-taken-test.false, c.loop-taken.auto._taken-end)) (c.loop-taken.invariant.exact s ds h);
}
