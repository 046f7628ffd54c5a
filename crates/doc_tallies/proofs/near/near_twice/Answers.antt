use Rattle.std.proofs.Common.{◌≡◌, ◌≤◌, ℕ, List, Contains, length, ap, subst, ◌∙◌, arith}
use Rattle.doc_tallies.specs.Ranks.{key_at, near_keys}
use Rattle.doc_tallies.proofs.Faults.{ok_wider}
use Rattle.doc_tallies.proofs.Keys.{near_cut, up_to}
use Rattle.doc_tallies.proofs.near.near_twice.Goals as goal

pub returns-then-len-wanted-clause-only : goal.returns-then-len-wanted-clause-only
returns-then-len-wanted-clause-only c = λ texts entries holds.
    let ns = c.args.numbers.now in
    let down = c.args.sort.now.descending in
    let wanted = c.args.wanted in
    let bar = c.in-Some.bar in
    let f = key_at down entries in
    let near = c.in_ok-near.ensures.only texts entries holds in
    let long = ap (λ (xs : List ℕ). length xs) near in
    let counted = c.len.ensures in
    let enough : wanted ≤ length (up_to f bar ns) = omega arith in
    ok_wider (λ nearer. nearer.items ≡ near_keys down entries wanted c.as_slice-then-len-wanted.result.now) (λ nearer. nearer.items ≡ near_keys down entries wanted ns) c.near_by.result
    (λ nearer e. e ∙ (ap (near_keys down entries wanted) (c.as_slice-then-len-wanted.ensures.value ∙ near) ∙ near_cut f bar wanted ns enough)) (c.near_by.ensures.only texts entries holds)

pub returns-then-len-wanted-clause-among : goal.returns-then-len-wanted-clause-among
returns-then-len-wanted-clause-among c =
    ok_wider (λ nearer. (n : ℕ) → Contains nearer.items n → Contains c.as_slice-then-len-wanted.result.now n) (λ nearer. (n : ℕ) → Contains nearer.items n → Contains c.args.numbers.now n) c.near_by.result
    (λ nearer among n has. c.in_ok-near.ensures.among n (subst (λ (xs : List ℕ). Contains xs n) c.as_slice-then-len-wanted.ensures.value (among n has))) c.near_by.ensures.among
