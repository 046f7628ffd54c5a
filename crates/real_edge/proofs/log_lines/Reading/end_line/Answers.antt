use Rattle.std.proofs.Common.{◌≡◌, ◌≤◌, ◌<◌, ◌+◌, ◌^◌, ◌∙◌, ap, sym, refl, arith, length, ◌++◌, ◌∷◌, [], List, ℕ, length-append}
use Rattle.real_edge.specs.declared.log_lines.Reading.{Reading}
use Rattle.real_edge.proofs.Lines.{line_passed, line_taken, line_behind, count-fits}
use Rattle.real_edge.proofs.log_lines.Reading.end_line.Goals as goal
use Rattle.real_edge.proofs.log_lines.Reading.end_line.Goals.{then-self-from+else-len-most+in_ok-record+in_ok-push, else-self-from}

pub returns-then-len-most-clause-full : goal.returns-then-len-most-clause-full
returns-then-len-most-clause-full c is bytes r =
    line_behind c.args.from c.args.most bytes c.args.self.now r c.if-self-from.true (omega arith)

pub returns-clause-goes : goal.returns-clause-goes
returns-clause-goes c is bytes fits r =
    let size = length-append bytes (10 ∷ []) in
    let few = count-fits c.args.from c.args.most bytes c.args.self.now r in
    let at : c.args.self.now.next ≡ length bytes = r.next in
    elim c.if-self-from.branch [
      | then-self-from+else-len-most+in_ok-record+in_ok-push w ↦
          let count = ap (λ (s : Reading). s.behind.record) w.self-is in
          let next = ap (λ (s : Reading). s.next) w.self-is in
          line_taken c.args.from c.args.most bytes c.args.self.now _ r w.if-self-from.true (omega arith)
          (ap (λ (s : Reading). s.list) w.self-is ∙ w.in_ok-push.ensures.ok ∙ ap (λ (x : List ℕ). c.args.self.now.list ++ x ∷ []) (w.in_ok-record.ensures ∙ w.as_slice.ensures.value))
          (omega (arith, count)) refl (omega (arith, next)) c.clear.ensures.items
      | else-self-from w ↦
          let count = ap (λ (s : Reading). s.behind.record) w.self-is in
          let next = ap (λ (s : Reading). s.next) w.self-is in
          line_passed c.args.from c.args.most bytes c.args.self.now _ r w.if-self-from.false (ap (λ (s : Reading). s.list) w.self-is)
          (omega (arith, count)) refl (omega (arith, next)) c.clear.ensures.items
    ]
