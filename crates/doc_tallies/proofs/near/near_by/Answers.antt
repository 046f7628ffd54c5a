use Rattle.std.proofs.Common.{◌≡◌, ◌<◌, ◌≤◌, ◌+◌, length, ◌∙◌}
use Rattle.std.specs.List.{filter}
use Rattle.doc_tallies.specs.Least.{below, few_before, is_near}
use Rattle.doc_tallies.specs.Ranks.{key_at, keys_of, near_keys}
use Rattle.doc_tallies.proofs.Faults.{ok_wider}
use Rattle.doc_tallies.proofs.Keys.{all_few, exact_bar, filter_all, filter_same}
use Rattle.doc_tallies.proofs.near.near_by.Goals as goal

pub returns-in-Some-clause-only : goal.returns-in-Some-clause-only
returns-in-Some-clause-only c = λ texts entries holds.
    let ns = c.args.numbers.now in
    let down = c.args.sort.now.descending in
    let wanted = c.args.wanted in
    let bar = c.in-Some.bar in
    let told = c.in_ok-bar.ensures texts entries holds in
    let is : (below bar (keys_of down entries ns) < wanted) × (wanted ≤ below (bar + 1) (keys_of down entries ns)) = rw c.in-Some.is at told in
    ok_wider (λ near. near.items ≡ filter (λ n. is_near bar (key_at down entries n)) ns) (λ near. near.items ≡ near_keys down entries wanted ns) c.near_in.result
    (λ near e. e ∙ filter_same (λ n. is_near bar (key_at down entries n)) (λ n. few_before wanted (keys_of down entries ns) (key_at down entries n))
    (λ n. exact_bar wanted bar (keys_of down entries ns) (key_at down entries n) is) ns) (c.near_in.ensures.only texts entries holds)

pub returns-in-None-clause-only : goal.returns-in-None-clause-only
returns-in-None-clause-only c = λ texts entries holds.
    let ns = c.args.numbers.now in
    let down = c.args.sort.now.descending in
    let wanted = c.args.wanted in
    let told = c.in_ok-bar.ensures texts entries holds in
    let few : length (keys_of down entries ns) < wanted = rw c.in-None.is at told in
    ok_wider (λ near. near.items ≡ ns) (λ near. near.items ≡ near_keys down entries wanted ns) c.from_slice.result
    (λ near e. e ∙ filter_all (λ n. few_before wanted (keys_of down entries ns) (key_at down entries n)) (λ n. all_few wanted (keys_of down entries ns) (key_at down entries n) few) ns) c.from_slice.ensures.items
