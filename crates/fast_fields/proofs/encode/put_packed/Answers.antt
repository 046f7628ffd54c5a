use Rattle.std.proofs.Common.{◌-◌, ℕ, map, arith}
use Rattle.std.specs.Prelude.{OnOk, Result, Ok, Err}
use Rattle.std.specs.declared.alloc.AllocError.{AllocError}
use Rattle.fast_fields.specs.Columns.{numbers}
use Rattle.fast_fields.specs.declared.entries.Entry.{Entry}
use Rattle.fast_fields.proofs.Packing.{no_numbers}
use Rattle.fast_fields.proofs.Packs.{entry_put, entries_put}
use Rattle.fast_fields.proofs.encode.put_packed.Goals as goal

pub loop-entry-init : goal.loop-entry-init
loop-entry-init c = (omega arith, no_numbers c.args.out.now.items c.args.width (map (λ (n : ℕ). n - c.args.least) (numbers c.args.entries.now)))

pub loop-entry-preserved : goal.loop-entry-preserved
loop-entry-preserved c =
    let none : Entry = record { document = 0; number = 0 } in
    entry_put c.args.out.now.items c.loop-entry.out.items c.put_number.new.out.items c.args.width c.args.least c.loop-entry.entry-index c.loop-entry.held.bits c.loop-entry.held.count c.number_less.result
    c.in_ok-held.held.bits c.in_ok-held.held.count c.args.entries.now none c.loop-entry.invariant.1 c.loop-entry.invariant.0 c.requires.width c.requires.narrow c.loop-entry-test.true c.number_less.ensures
    c.in_ok-held.ensures.below c.in_ok-held.ensures.above

-- what follows from a success
then_ok : {P Q : Type 0} (r : Result (Unit {0}) AllocError) → (P → Q) → OnOk r P → OnOk r Q
then_ok (Ok x) f h = f h
then_ok (Err e) f h = h

pub returns : goal.returns
returns c =
    then_ok c.put_last.result (λ put. entries_put c.args.out.now.items c.loop-entry.out.items c.put_last.new.out.items c.args.width c.args.least c.loop-entry.entry-index c.loop-entry.held.bits c.loop-entry.held.count
    c.args.entries.now c.loop-entry.invariant.1 (omega arith) c.loop-entry.invariant.0 c.requires.narrow put) c.put_last.ensures
