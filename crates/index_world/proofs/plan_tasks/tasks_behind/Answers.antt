use Rattle.std.proofs.Common.{◌≡◌, ◌≤◌, ◌<◌, ◌-◌, ℕ, Bool, true, false, List, length, min, drop, nat_le, refl, sym, ap, ◌∙◌, arith}
use Rattle.std.proofs.lemmas.Bool.{leb-true, leb-false}
use Rattle.std.proofs.lemmas.List.{drop_all, length-drop, take_all}
use Rattle.index_world.proofs.plan_tasks.tasks_behind.Goals as goal

drop_least : {X : Type 0} (b : ℕ) (xs : List X) → drop (min b (length xs)) xs ≡ drop b xs
drop_least {X} b xs = by (nat_le b (length xs)) refl
  where
    by : (t : Bool) → nat_le b (length xs) ≡ t → drop (min b (length xs)) xs ≡ drop b xs
    by true t = let le : b ≤ length xs = leb-true b (length xs) t in let e : min b (length xs) ≡ b = omega (arith, le) in ap (λ (n : ℕ). drop n xs) e
    by false t =
        let lt : length xs < b = leb-false b (length xs) t in
        drop_all (min b (length xs)) xs (omega (arith, lt)) ∙ sym (drop_all b xs (omega (arith, lt)))

pub returns : goal.returns
returns c =
    let few : length (drop c.min-from.result c.args.tasks.now) ≤ length c.args.tasks.now - c.min-from.result = let e = length-drop c.min-from.result c.args.tasks.now in omega (arith, e) in
    take_all (length c.args.tasks.now - c.min-from.result) (drop c.min-from.result c.args.tasks.now) few ∙ ap (λ (n : ℕ). drop n c.args.tasks.now) c.min-from.ensures ∙ drop_least c.args.behind c.args.tasks.now
