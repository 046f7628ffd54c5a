use Rattle.std.proofs.Common.{◌≡◌, ◌+◌, ◌-◌, ℕ, None, Option, false, length, take, sym, subst, arith}
use Rattle.std.proofs.lemmas.List.{length-take-le}
use Rattle.split_merge.specs.Numbering.{number_in}
use Rattle.split_merge.proofs.BlockLemmas.{block_above, block_fits, block_put}
use Rattle.split_merge.proofs.ListLemmas.{AddsThese, PutsList, none_added, none_put}
use Rattle.split_merge.proofs.lists.KeyList.put_bare.Goals.{then-count-eq0-via-then-count-eq0, then-count-eq0-via-else-count-eq0+then-count-left}
use Rattle.split_merge.proofs.lists.KeyList.put_bare.Goals as goal

pub loop-left-init : goal.loop-left-init
loop-left-init c =
    let number = number_in c.args.numbers.now in
    let none : c.args.docs - c.args.docs ≡ 0 = omega arith in
    record {
      left = omega arith;
      puts = subst (λ (n : ℕ). PutsList false (AddsThese false number c.args.self.now c.args.self.now) n None c.args.cursor c.args.cursor) (sym none) (none_put false (AddsThese false number c.args.self.now c.args.self.now) c.args.cursor (none_added false c.args.self.now));
    }

pub returns-then-count-eq0 : goal.returns-then-count-eq0
returns-then-count-eq0 c = λ list stands len can.
    let i = c.loop-left.invariant in
    let block = take c.in-Ok.count c.next_block.new.found in
    let size : length block ≡ c.in-Ok.count = length-take-le c.in-Ok.count c.next_block.new.found c.in-Ok.ensures.exact.3 in
    let fits = block_fits (number_in c.args.numbers.now) c.args.self.now c.loop-left.self (c.args.docs - c.loop-left.left) c.loop-left.last c.args.cursor c.loop-left.cursor i.puts c.next_block.new.self block list c.loop-left.left c.in-Ok.ensures.only stands can
    (omega (arith, c.loop-left-test.true)) (omega (arith, len, i.left)) in
    elim c.then-count-eq0.branch [
      | then-count-eq0-via-then-count-eq0 w ↦ absurd (fits.0 (omega (arith, size, w.if-count-eq0)))
      | then-count-eq0-via-else-count-eq0+then-count-left w ↦ absurd (omega (arith, size, fits.1, w.if-count-left))
    ]

pub returns-in-Err-put_block : goal.returns-in-Err-put_block
returns-in-Err-put_block c = λ list stands len can.
    c.in-Err-put_block.ensures.cause
    (block_above (number_in c.args.numbers.now) c.args.self.now c.loop-left.self (c.args.docs - c.loop-left.left) c.loop-left.last c.args.cursor c.loop-left.cursor c.loop-left.invariant.puts c.next_block.new.self
    (take c.in-Ok.count c.next_block.new.found) list c.in-Ok.ensures.only stands can)

pub loop-left-preserved : goal.loop-left-preserved
loop-left-preserved c =
    let i = c.loop-left.invariant in
    let number = number_in c.args.numbers.now in
    let block = take c.in-Ok.count c.next_block.new.found in
    let size : length block ≡ c.in-Ok.count = length-take-le c.in-Ok.count c.next_block.new.found c.in-Ok.ensures.exact.3 in
    let holds = AddsThese false number c.args.self.now c.put_block.new.self in
    let taken : c.args.docs - c.loop-left.left + length block ≡ c.args.docs - (c.loop-left.left - c.in-Ok.count) = omega (arith, size, i.left, c.if-count-left.false) in
    let last = c.in-Ok-put_block.ensures.last in
    record {
      left = omega (arith, i.left);
      puts = subst (λ (n : ℕ). PutsList false holds n c.in-Ok-put_block.now c.args.cursor c.next_block.new.self) taken
          (subst (λ (o : Option ℕ). PutsList false holds (c.args.docs - c.loop-left.left + length block) o c.args.cursor c.next_block.new.self) (sym last.1)
          (block_put number c.args.self.now c.loop-left.self (c.args.docs - c.loop-left.left) c.loop-left.last c.args.cursor c.loop-left.cursor i.puts c.next_block.new.self block c.put_block.new.self c.in-Ok.ensures.only last.0 c.in-Ok-put_block.ensures.added));
    }

pub returns-in-Err : goal.returns-in-Err
returns-in-Err c = λ list stands len can.
    let o = c.loop-left.invariant.puts.only list stands can in
    absurd (c.in-Err.ensures.only false o.1 o.2 o.3)
