use Rattle.std.proofs.Common.{◌++◌, ℕ, List, Option, take, ap, sym, subst, ◌∙◌}
use Rattle.std.specs.Option.{option_map, option_to_list}
use Rattle.std.proofs.lemmas.List.{take_all}
use Rattle.doc_tallies.specs.Least.{AreLeast}
use Rattle.doc_tallies.specs.Ranks.{key_at, key_of, keys_of}
use Rattle.doc_tallies.proofs.KeyOrders.{keys_more}
use Rattle.doc_tallies.proofs.near.bar_of.Goals as goal

pub loop-number-preserved : goal.loop-number-preserved
loop-number-preserved c = λ texts entries holds.
    let i = c.loop-number.number-index in
    let ns = c.args.numbers.now in
    let down = c.args.sort.now.descending in
    let value = c.value_at-value.ensures.only texts entries holds in
    let kept = c.in_ok-keep_key.ensures (keys_of down entries (take i ns)) (c.loop-number.invariant texts entries holds) in
    subst (λ (ks : List ℕ). AreLeast c.args.wanted ks c.keep_key.new.best.data.items)
    (ap (λ (o : Option ℕ). keys_of down entries (take i ns) ++ option_to_list (option_map (key_of down) o)) value ∙ sym (keys_more (key_at down entries) ns i c.loop-number-test.true)) kept

pub returns : goal.returns
returns c = λ texts entries holds.
    let i = c.loop-number.number-index in
    let ns = c.args.numbers.now in
    let down = c.args.sort.now.descending in
    c.last_of.ensures (keys_of down entries ns)
    (subst (λ (ms : List ℕ). AreLeast c.args.wanted (keys_of down entries ms) c.loop-number.best.data.items) (take_all i ns c.loop-number-test.false) (c.loop-number.invariant texts entries holds))
