-- The last task of a list.
use Rattle.std.proofs.Common.{◌≡◌, ℕ, zero, suc, ◌+◌, List, [], ◌∷◌, ◌++◌, length, get_or, refl, ap, sym, arith}
use Rattle.delete_tasks.specs.Ledger.{last_of}
use Rattle.delete_tasks.specs.Removes.{DeleteTask}

pub last_read : (tasks : List DeleteTask) (i : ℕ) (t : DeleteTask) → i + 1 ≡ length tasks → t ≡ get_or tasks i t → last_of tasks ≡ t.opstamp
last_read [] i t e h = absurd (omega (arith, e))
last_read (a ∷ []) zero t e h = ap (λ (x : DeleteTask). x.opstamp) (sym h)
last_read (a ∷ []) (suc i) t e h = absurd (omega (arith, e))
last_read (a ∷ b ∷ tasks) zero t e h = absurd (omega (arith, e))
last_read (a ∷ b ∷ tasks) (suc i) t e h = last_read (b ∷ tasks) i t (omega (arith, e)) h

pub last_push : (tasks : List DeleteTask) (task : DeleteTask) → last_of (tasks ++ task ∷ []) ≡ task.opstamp
last_push [] task = refl
last_push (a ∷ []) task = refl
last_push (a ∷ b ∷ tasks) task = last_push (b ∷ tasks) task
