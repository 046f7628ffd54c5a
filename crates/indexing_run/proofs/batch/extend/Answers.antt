use Rattle.std.proofs.Common.{◌≡◌, ◌∙◌, sym, suc, ◌-◌, length, arith, ap, bytes_eq, ◌++◌, ◌∷◌, []}
use Rattle.indexing_run.proofs.Queues.{same_read, extends_last, extends_new, true_or_false}
use Rattle.indexing_run.proofs.batch.extend.Goals as goal
use Rattle.indexing_run.proofs.batch.extend.Goals.{else-count-gt0-via-then-count-gt0+else-is, else-count-gt0-via-else-count-gt0}

pub returns-then-is : goal.returns-then-is
returns-then-is c = λ f.
    let parts = c.args.parts.now in
    let n = c.len-count.result - 1 in
    let long : suc n ≡ length parts.items = (let some = c.if-count-gt0.true in let a = c.len-count.ensures in let b = parts.ok.0 in omega (arith, some, a, b)) in
    let last = c.index_mut.result.now in
    let same = same_read parts.items n last c.index.result.now long c.index_mut.ensures.value c.index.ensures in
    extends_last parts.items c.args.partition.now c.args.from c.args.to n last f long c.index_mut.ensures.value
    (ap (λ p. bytes_eq p.partition c.args.partition.now) same ∙ sym c.is.ensures.value ∙ c.if-is.true)

pub returns : goal.returns
returns c = λ f.
    let parts = c.args.parts.now in
    c.in_ok-push.ensures.items ∙ ap (λ name. parts.items ++ record { partition = name; from = c.args.from; to = c.args.to } ∷ []) c.copy.ensures
    ∙ extends_new parts.items c.args.partition.now c.args.from c.args.to f
    (λ n last long at same. elim c.else-count-gt0.branch [
      | else-count-gt0-via-then-count-gt0+else-is w ↦
          let e : n ≡ c.len-count.result - 1 = (let a = c.len-count.ensures in let b = parts.ok.0 in omega (arith, long, a, b)) in
          let one = same_read parts.items n last w.index.result.now long at (rw e w.index.ensures) in
          true_or_false (bytes_eq last.partition c.args.partition.now) same (ap (λ p. bytes_eq p.partition c.args.partition.now) one ∙ sym w.is.ensures.value ∙ w.if-is.false)
      | else-count-gt0-via-else-count-gt0 w ↦
          let none = w.if-count-gt0.false in let a = c.len-count.ensures in let b = parts.ok.0 in absurd (omega (arith, long, none, a, b))
    ])
