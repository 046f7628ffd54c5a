use Rattle.std.proofs.Common.{◌<◌, ◌+◌, ◌∷◌, arith, true, ◌∙◌, sym, ap, refl, length, drop, [], map, length-append}
use Rattle.std.proofs.lemmas.Result.{err_from_is_err_and}
use Rattle.query_reader.specs.Tree.{view, Group, Not, no_trees, behind, trees_after, or_tree}
use Rattle.query_reader.proofs.Rows.{more_trees}
use Rattle.query_reader.specs.Machine.{First, run, state, After, Want, fresh, with_operand, negated, with_or}
use Rattle.query_reader.specs.Reading.{operand_rest, negated_rest, sunk_word_rest, word_rest, quote_rest, group_rest, sunk, next_run, members}
use Rattle.query_reader.proofs.Parts.{operand_word, escaped_end, misplaced, no_operand, refuted, want_operand, reads_from}
use Rattle.query_reader.proofs.Nest.{fails_more, reads_sunk, fails_in_group, group_fails, group_faults, operand_faults, operand_end, operand_quote, operand_star, operand_plus, operand_minus, plus_deep, minus_deep, operand_open, open_deep, operand_stuck, not_wants, not_stuck, not_deep, group_closes, group_open, members_end}
use Rattle.query_reader.proofs.reader.+reader.Goals as goal

pub operand_at-returns-then-at-text-clause-read : goal.operand_at-returns-then-at-text-clause-read
operand_at-returns-then-at-text-clause-read t c = λ f fs. operand_end c.args.text.now c.args.depth c.args.at f fs c.if-at-text.true

pub operand_at-returns-in-Quote-clause-read : goal.operand_at-returns-in-Quote-clause-read
operand_at-returns-in-Quote-clause-read t c =
    let l : c.args.at < length c.args.text.now = omega arith in
    reads_sunk c.args.text.now _ (quote_rest c.args.text.now First (c.args.at + 1)) (operand_rest c.args.text.now c.args.depth c.args.at) c.args.depth
    (λ f fs. operand_quote c.args.text.now c.args.depth c.args.at f fs l (sym c.byte_kind.ensures ∙ c.in-Quote.is)) c.quoted.ensures.read

pub operand_at-returns-in-Star-clause-read : goal.operand_at-returns-in-Star-clause-read
operand_at-returns-in-Star-clause-read t c = λ f fs.
    let l : c.args.at < length c.args.text.now = omega arith in
    operand_star c.args.text.now c.args.depth c.args.at f fs l (sym c.byte_kind.ensures ∙ c.in-Star.is)

pub operand_at-returns-in_default-clause-read : goal.operand_at-returns-in_default-clause-read
operand_at-returns-in_default-clause-read t c = λ f fs.
    let l : c.args.at < length c.args.text.now = omega arith in
    operand_stuck c.args.text.now c.args.depth c.args.at f fs c.byte_kind.result l (sym c.byte_kind.ensures)
    c.in_default.not-Quote c.in_default.not-Open c.in_default.not-Star c.in_default.not-Plus c.in_default.not-Minus c.in_default.not-Escape c.in_default.not-Angle c.in_default.not-Plain

pub operand_at-returns-then-depth-lt-LIMIT-clause-read : goal.operand_at-returns-then-depth-lt-LIMIT-clause-read
operand_at-returns-then-depth-lt-LIMIT-clause-read t c =
    let l : c.args.at < length c.args.text.now = omega arith in
    reads_from c.args.text.now _ (operand_rest c.args.text.now (c.args.depth + 1) (c.args.at + 1)) (operand_rest c.args.text.now c.args.depth c.args.at)
    (λ f fs. operand_plus c.args.text.now c.args.depth c.args.at f fs l (sym c.byte_kind.ensures ∙ c.in-Plus.is) c.if-depth-lt-LIMIT.true) c.operand_at.ensures.read

pub operand_at-returns-else-depth-lt-LIMIT-clause-read : goal.operand_at-returns-else-depth-lt-LIMIT-clause-read
operand_at-returns-else-depth-lt-LIMIT-clause-read t c = λ f fs.
    let l : c.args.at < length c.args.text.now = omega arith in
    plus_deep c.args.text.now c.args.depth c.args.at f fs l (sym c.byte_kind.ensures ∙ c.in-Plus.is) c.if-depth-lt-LIMIT.false

pub operand_at-returns-then-depth-lt-LIMIT-2-clause-read : goal.operand_at-returns-then-depth-lt-LIMIT-2-clause-read
operand_at-returns-then-depth-lt-LIMIT-2-clause-read t c =
    let l : c.args.at < length c.args.text.now = omega arith in
    reads_from c.args.text.now _ (negated_rest c.args.text.now (c.args.depth + 1) (c.args.at + 1)) (operand_rest c.args.text.now c.args.depth c.args.at)
    (λ f fs. operand_minus c.args.text.now c.args.depth c.args.at f fs l (sym c.byte_kind.ensures ∙ c.in-Minus.is) c.if-depth-lt-LIMIT-2.true) c.negated_operand.ensures.read

pub operand_at-returns-else-depth-lt-LIMIT-2-clause-read : goal.operand_at-returns-else-depth-lt-LIMIT-2-clause-read
operand_at-returns-else-depth-lt-LIMIT-2-clause-read t c = λ f fs.
    let l : c.args.at < length c.args.text.now = omega arith in
    minus_deep c.args.text.now c.args.depth c.args.at f fs l (sym c.byte_kind.ensures ∙ c.in-Minus.is) c.if-depth-lt-LIMIT-2.false

pub word_operand-returns-then-scan-clause-read : goal.word_operand-returns-then-scan-clause-read
word_operand-returns-then-scan-clause-read t c = λ f fs.
    operand_word c.args.text.now c.args.at (sunk c.args.depth f) fs c.requires.within c.requires.begins
    ∙ c.scan_word-scan.ensures.reads First (sunk c.args.depth f) fs
    ∙ escaped_end c.args.text.now _ _ _ _ _ _ (sunk c.args.depth f) fs c.scan_word-scan.ensures.escaped c.if-scan.true

pub word_operand-returns-in-SaidWord-clause-read : goal.word_operand-returns-in-SaidWord-clause-read
word_operand-returns-in-SaidWord-clause-read t c =
    reads_sunk c.args.text.now _ (word_rest c.args.text.now First c.args.at c.scan_word-scan.result) (operand_rest c.args.text.now c.args.depth c.args.at) c.args.depth
    (λ f fs. operand_word c.args.text.now c.args.at (sunk c.args.depth f) fs c.requires.within c.requires.begins ∙ c.scan_word-scan.ensures.reads First (sunk c.args.depth f) fs) c.named.ensures.read

pub word_operand-returns-in-SaidNot-clause-read : goal.word_operand-returns-in-SaidNot-clause-read
word_operand-returns-in-SaidNot-clause-read t c =
    reads_from c.args.text.now _ (sunk_word_rest c.args.text.now c.args.depth c.args.at c.scan_word-scan.result) (operand_rest c.args.text.now c.args.depth c.args.at)
    (λ f fs. operand_word c.args.text.now c.args.at (sunk c.args.depth f) fs c.requires.within c.requires.begins ∙ c.scan_word-scan.ensures.reads First (sunk c.args.depth f) fs) c.negation.ensures.read

pub word_operand-returns-in_default-clause-read : goal.word_operand-returns-in_default-clause-read
word_operand-returns-in_default-clause-read t c = λ f fs.
    operand_word c.args.text.now c.args.at (sunk c.args.depth f) fs c.requires.within c.requires.begins
    ∙ c.scan_word-scan.ensures.reads First (sunk c.args.depth f) fs
    ∙ misplaced c.args.text.now _ _ _ _ _ _ (sunk c.args.depth f) fs c.scan_word-scan.ensures.stop c.if-scan.false
    (no_operand _ (λ h. c.in_default.not-SaidWord (c.what_is_said.ensures ∙ h)) (λ h. c.in_default.not-SaidNot (c.what_is_said.ensures ∙ h)))

pub negation-returns-then-depth-ge-LIMIT-clause-read : goal.negation-returns-then-depth-ge-LIMIT-clause-read
negation-returns-then-depth-ge-LIMIT-clause-read t c = λ f fs.
    not_deep c.args.text.now _ _ _ _ c.args.depth f fs c.requires.scanned.stop c.requires.scanned.done c.requires.said c.if-depth-ge-LIMIT.true

pub negation-returns-then-ends_operator-clause-read : goal.negation-returns-then-ends_operator-clause-read
negation-returns-then-ends_operator-clause-read t c =
    let l : c.args.depth < 64 = omega arith in
    reads_from c.args.text.now _ (negated_rest c.args.text.now (c.args.depth + 1) c.skip_blanks.result) (sunk_word_rest c.args.text.now c.args.depth c.args.from c.args.scan)
    (λ f fs. not_wants c.args.text.now _ _ _ _ c.args.depth f fs c.requires.scanned.stop (c.ends_operator.ensures.0 c.if-ends_operator.true) c.requires.scanned.done c.requires.said l
    ∙ c.skip_blanks.ensures.stays (Want true) (negated (sunk c.args.depth f)) fs (λ at c. refl)
    ∙ want_operand c.args.text.now c.skip_blanks.result true (negated (sunk c.args.depth f)) fs c.skip_blanks.ensures.stop) c.negated_operand.ensures.read

pub negation-returns-else-ends_operator-clause-read : goal.negation-returns-else-ends_operator-clause-read
negation-returns-else-ends_operator-clause-read t c = λ f fs.
    let l : c.args.depth < 64 = omega arith in
    not_stuck c.args.text.now _ _ _ _ c.args.depth f fs c.requires.scanned.stop (refuted c.ends_operator.ensures c.if-ends_operator.false) c.requires.scanned.done c.requires.said l

pub negated_operand-returns-clause-read : goal.negated_operand-returns-clause-read
negated_operand-returns-clause-read t c = λ f fs.
    c.in_ok-inner.ensures.read (negated f) fs
    ∙ ap (λ x. run c.in_ok-inner.inner.end (state (After c.in_ok-inner.inner.free) (with_operand f (Not (view x))) fs) (drop c.in_ok-inner.inner.end c.args.text.now)) (sym c.in_ok-new.ensures.ok)

pub bracket-returns-then-depth-ge-LIMIT-clause-read : goal.bracket-returns-then-depth-ge-LIMIT-clause-read
bracket-returns-then-depth-ge-LIMIT-clause-read t c = λ f fs. open_deep c.args.text.now c.args.depth c.args.at f fs c.requires.open.0 c.requires.open.1 c.if-depth-ge-LIMIT.true

pub bracket-returns-in_ok-new-clause-read : goal.bracket-returns-in_ok-new-clause-read
bracket-returns-in_ok-new-clause-read t c = λ f fs.
    operand_open c.args.text.now c.args.depth c.args.at f fs c.requires.open.0 c.requires.open.1 (omega arith)
    ∙ c.in_ok-inner.ensures.read (sunk c.args.depth f ∷ fs)
    ∙ group_closes c.args.text.now (c.args.depth + 1) c.in_ok-inner.inner.end (view c.in_ok-inner.inner.raw) (sunk c.args.depth f) fs c.if-inner-text.true (c.in_ok-inner.ensures.close c.if-inner-text.true)
    ∙ ap (λ x. run (c.in_ok-inner.inner.end + 1) (state (After true) (with_operand f (Group (view x))) fs) (drop (c.in_ok-inner.inner.end + 1) c.args.text.now)) (sym c.in_ok-new.ensures.ok)

pub bracket-returns-else-inner-text-clause-read : goal.bracket-returns-else-inner-text-clause-read
bracket-returns-else-inner-text-clause-read t c = λ f fs.
    operand_open c.args.text.now c.args.depth c.args.at f fs c.requires.open.0 c.requires.open.1 (omega arith)
    ∙ c.in_ok-inner.ensures.read (sunk c.args.depth f ∷ fs)
    ∙ group_open c.args.text.now (c.args.depth + 1) c.in_ok-inner.inner.end (view c.in_ok-inner.inner.raw) (sunk c.args.depth f) fs c.if-inner-text.false

pub group-returns-in_ok-raw-in-Ok-clause-read : goal.group-returns-in_ok-raw-in-Ok-clause-read
group-returns-in_ok-raw-in-Ok-clause-read t c = λ fs.
    c.skip_blanks.ensures.stays (Want true) (fresh c.args.depth) fs (λ at c. refl)
    ∙ want_operand c.args.text.now c.skip_blanks.result true (fresh c.args.depth) fs c.skip_blanks.ensures.stop
    ∙ c.in_ok-first.ensures.read (fresh c.args.depth) fs
    ∙ ap (λ y. run c.in_ok-first.first.end (state (After c.in_ok-first.first.free) (members c.args.depth [] y) fs) (drop c.in_ok-first.first.end c.args.text.now)) (sym c.in_ok-ands.ensures.items)
    ∙ ap (λ x. run c.in_ok-first.first.end (state (After c.in_ok-first.first.free) (members c.args.depth x c.in_ok-ands.ands.items) fs) (drop c.in_ok-first.first.end c.args.text.now)) (sym c.new-ors.ensures.items)
    ∙ c.in-Ok.ensures.read fs
    ∙ members_end c.args.text.now c.args.depth c.in-Ok.end c.operands.new.ors.items c.operands.new.ands.items (view c.in_ok-raw-in-Ok.raw) fs c.in-Ok.ensures.close c.in-Ok.ensures.some
    (c.in_ok-raw-in-Ok.ensures.ok ∙ ap (λ x. or_tree (behind (trees_after no_trees (map view c.operands.new.ors.items)) x)) c.all_of.ensures)

pub group-returns-in-Err-clause-read : goal.group-returns-in-Err-clause-read
group-returns-in-Err-clause-read t c =
    group_faults c.args.text.now c.args.depth c.in-Err.error (λ fs. run c.in_ok-first.first.end (state (After c.in_ok-first.first.free) (members c.args.depth c.new-ors.result.items c.in_ok-ands.ands.items) fs) (drop c.in_ok-first.first.end c.args.text.now)) (group_rest c.args.text.now c.args.depth c.args.from)
    (λ fs. c.skip_blanks.ensures.stays (Want true) (fresh c.args.depth) fs (λ at c. refl)
    ∙ want_operand c.args.text.now c.skip_blanks.result true (fresh c.args.depth) fs c.skip_blanks.ensures.stop
    ∙ c.in_ok-first.ensures.read (fresh c.args.depth) fs
    ∙ ap (λ y. run c.in_ok-first.first.end (state (After c.in_ok-first.first.free) (members c.args.depth [] y) fs) (drop c.in_ok-first.first.end c.args.text.now)) (sym c.in_ok-ands.ensures.items)
    ∙ ap (λ x. run c.in_ok-first.first.end (state (After c.in_ok-first.first.free) (members c.args.depth x c.in_ok-ands.ands.items) fs) (drop c.in_ok-first.first.end c.args.text.now)) (sym c.new-ors.ensures.items)) c.in-Err.ensures.fault

pub operands-returns-in-Ok-End-clause-read : goal.operands-returns-in-Ok-End-clause-read
operands-returns-in-Ok-End-clause-read t c = λ fs.
    c.operands.invariant.reads fs ∙ c.in-Ok-End.ensures.reads (members c.args.depth c.operands.ors.items c.operands.ands.items) fs ∙ ap (λ n. next_run c.args.text.now n (members c.args.depth c.operands.ors.items c.operands.ands.items) fs) c.in-Ok-End.field-0-is

pub operands-operands-preserved-in-Ok-And : goal.operands-operands-preserved-in-Ok-And
operands-operands-preserved-in-Ok-And t c =
    let n = rw c.in-Ok-And.field-0-is at c.in-Ok-And.ensures.next in record {
      behind = omega (arith, n.0, c.in_ok-next-in-Ok-And.ensures.end.0);
      within = c.in_ok-next-in-Ok-And.ensures.end.1;
      some = omega (arith, simp length-append at (ap length c.in_ok-push-in-Ok-And.ensures.items));
      reads = λ fs. c.operands.invariant.reads fs ∙ c.in-Ok-And.ensures.reads (members c.args.depth c.operands.ors.items c.operands.ands.items) fs ∙ ap (λ n. next_run c.args.text.now n (members c.args.depth c.operands.ors.items c.operands.ands.items) fs) c.in-Ok-And.field-0-is
          ∙ c.in_ok-next-in-Ok-And.ensures.read (members c.args.depth c.operands.ors.items c.operands.ands.items) fs
          ∙ ap (λ x. run c.in_ok-next-in-Ok-And.next.end (state (After c.in_ok-next-in-Ok-And.next.free) (record { ors = trees_after no_trees (map view c.operands.ors.items); ands = x; negations = 0; base = c.args.depth; deep = c.args.depth }) fs) (drop c.in_ok-next-in-Ok-And.next.end c.args.text.now))
          (sym (more_trees no_trees c.operands.ands.items c.in_ok-next-in-Ok-And.next.raw))
          ∙ ap (λ ys. run c.in_ok-next-in-Ok-And.next.end (state (After c.in_ok-next-in-Ok-And.next.free) (members c.args.depth c.operands.ors.items ys) fs) (drop c.in_ok-next-in-Ok-And.next.end c.args.text.now)) (sym c.in_ok-push-in-Ok-And.ensures.items);
    }

pub operands-operands-preserved : goal.operands-operands-preserved
operands-operands-preserved t c =
    let n = rw c.in-Ok-Or.field-0-is at c.in-Ok-Or.ensures.next in record {
      behind = omega (arith, n.0, c.in_ok-next-in-Ok-Or.ensures.end.0);
      within = c.in_ok-next-in-Ok-Or.ensures.end.1;
      some = omega (arith, ap length c.in_ok-begin_or-in-Ok-Or.ensures.ands);
      reads = λ fs. c.operands.invariant.reads fs ∙ c.in-Ok-Or.ensures.reads (members c.args.depth c.operands.ors.items c.operands.ands.items) fs ∙ ap (λ n. next_run c.args.text.now n (members c.args.depth c.operands.ors.items c.operands.ands.items) fs) c.in-Ok-Or.field-0-is
          ∙ c.in_ok-next-in-Ok-Or.ensures.read (with_or (members c.args.depth c.operands.ors.items c.operands.ands.items)) fs
          ∙ ap (λ x. run c.in_ok-next-in-Ok-Or.next.end (state (After c.in_ok-next-in-Ok-Or.next.free) (record { ors = x; ands = behind no_trees (view c.in_ok-next-in-Ok-Or.next.raw); negations = 0; base = c.args.depth; deep = c.args.depth }) fs) (drop c.in_ok-next-in-Ok-Or.next.end c.args.text.now)) (sym c.in_ok-begin_or-in-Ok-Or.ensures.ors)
          ∙ ap (λ ys. run c.in_ok-next-in-Ok-Or.next.end (state (After c.in_ok-next-in-Ok-Or.next.free) (members c.args.depth c.begin_or.new.ors.items ys) fs) (drop c.in_ok-next-in-Ok-Or.next.end c.args.text.now)) (sym c.in_ok-begin_or-in-Ok-Or.ensures.ands);
    }

pub bracket-returns-in_err-inner-clause-read : goal.bracket-returns-in_err-inner-clause-read
bracket-returns-in_err-inner-clause-read t c = let p = err_from_is_err_and c.from_residual.result c.from_residual.ensures.1 in
    rw (p.1, p.2) (fails_in_group c.args.text.now (c.args.depth + 1) c.in_err-inner.field-0.0 (group_rest c.args.text.now (c.args.depth + 1) (c.args.at + 1)) (operand_rest c.args.text.now c.args.depth c.args.at)
    (λ f fs. sunk c.args.depth f ∷ fs) (λ f fs. operand_open c.args.text.now c.args.depth c.args.at f fs c.requires.open.0 c.requires.open.1 (omega arith)) c.in_err-inner.ensures.read)

pub negated_operand-returns-in_err-inner-clause-read : goal.negated_operand-returns-in_err-inner-clause-read
negated_operand-returns-in_err-inner-clause-read t c = let p = err_from_is_err_and c.from_residual.result c.from_residual.ensures.1 in
    rw (p.1, p.2) (fails_more c.in_err-inner.field-0.0 (operand_rest c.args.text.now c.args.depth c.args.at) (negated_rest c.args.text.now c.args.depth c.args.at) negated (λ f fs. refl) c.in_err-inner.ensures.read)

pub group-returns-in_err-first-clause-read : goal.group-returns-in_err-first-clause-read
group-returns-in_err-first-clause-read t c = let p = err_from_is_err_and c.from_residual.result c.from_residual.ensures.1 in
    rw (p.1, p.2) (group_fails c.args.text.now c.args.depth c.in_err-first.field-0.0 (operand_rest c.args.text.now c.args.depth c.skip_blanks.result) (group_rest c.args.text.now c.args.depth c.args.from) (fresh c.args.depth)
    (λ fs. c.skip_blanks.ensures.stays (Want true) (fresh c.args.depth) fs (λ at c. refl) ∙ want_operand c.args.text.now c.skip_blanks.result true (fresh c.args.depth) fs c.skip_blanks.ensures.stop) c.in_err-first.ensures.read)

pub operands-returns-in_err-next-in-Ok-And-clause-fault : goal.operands-returns-in_err-next-in-Ok-And-clause-fault
operands-returns-in_err-next-in-Ok-And-clause-fault t c = let p = err_from_is_err_and c.from_residual.result c.from_residual.ensures.1 in
    rw (p.1, p.2) (operand_faults c.in_err-next-in-Ok-And.field-0.0 (operand_rest c.args.text.now c.args.depth c.in-Ok-And.place) (λ fs. run c.args.start (state (After c.args.first_free) (members c.args.depth c.args.ors.now.items c.args.ands.now.items) fs) (drop c.args.start c.args.text.now)) (members c.args.depth c.operands.ors.items c.operands.ands.items)
    (λ fs. c.operands.invariant.reads fs ∙ c.in-Ok-And.ensures.reads (members c.args.depth c.operands.ors.items c.operands.ands.items) fs ∙ ap (λ n. next_run c.args.text.now n (members c.args.depth c.operands.ors.items c.operands.ands.items) fs) c.in-Ok-And.field-0-is) c.in_err-next-in-Ok-And.ensures.read)

pub operands-returns-in_err-next-in-Ok-Or-clause-fault : goal.operands-returns-in_err-next-in-Ok-Or-clause-fault
operands-returns-in_err-next-in-Ok-Or-clause-fault t c = let p = err_from_is_err_and c.from_residual-in_err-next-in-Ok-Or.result c.from_residual-in_err-next-in-Ok-Or.ensures.1 in
    rw (p.1, p.2) (operand_faults c.in_err-next-in-Ok-Or.field-0.0 (operand_rest c.args.text.now c.args.depth c.in-Ok-Or.place) (λ fs. run c.args.start (state (After c.args.first_free) (members c.args.depth c.args.ors.now.items c.args.ands.now.items) fs) (drop c.args.start c.args.text.now)) (with_or (members c.args.depth c.operands.ors.items c.operands.ands.items))
    (λ fs. c.operands.invariant.reads fs ∙ c.in-Ok-Or.ensures.reads (members c.args.depth c.operands.ors.items c.operands.ands.items) fs ∙ ap (λ n. next_run c.args.text.now n (members c.args.depth c.operands.ors.items c.operands.ands.items) fs) c.in-Ok-Or.field-0-is) c.in_err-next-in-Ok-Or.ensures.read)
