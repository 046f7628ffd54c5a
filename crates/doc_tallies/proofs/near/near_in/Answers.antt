use Rattle.std.proofs.Common.{◌<◌, ℕ, List, length, get_or, Option, refl, ap, sym, subst, ◌∙◌}
use Rattle.std.specs.List.{filter}
use Rattle.std.specs.Option.{option_map}
use Rattle.std.proofs.lemmas.List.{take_all}
use Rattle.std.proofs.lemmas.List.Elements.{Contains-get_or}
use Rattle.fast_fields.specs.Readers.{Holds}
use Rattle.fast_fields.specs.declared.column.Column.{Column}
use Rattle.doc_tallies.specs.Least.{is_near}
use Rattle.doc_tallies.specs.Ranks.{key_at, key_of}
use Rattle.doc_tallies.proofs.Taken.{among_more}
use Rattle.doc_tallies.proofs.TimeValues.{within_step}
use Rattle.doc_tallies.proofs.near.near_in.Goals as goal

pub loop-number-preserved : goal.loop-number-preserved
loop-number-preserved c = record {
  column = c.value_at.ensures.column ∙ c.loop-number.invariant.column;
  only = λ texts entries holds.
      let i = c.loop-number.number-index in
      let ns = c.args.numbers.now in
      let n : ℕ = get_or ns i 0 in
      let lt : i < length ns = c.loop-number-test.true in
      within_step (λ k. is_near c.args.bar (key_at c.args.descending entries k)) ns c.loop-number.near.items c.push_if.new.numbers.items i n c.is_near-kept.result lt refl
      (c.loop-number.invariant.only texts entries holds)
      (c.is_near-kept.ensures ∙ ap (λ (o : Option ℕ). is_near c.args.bar (option_map (key_of c.args.descending) o)) (c.value_at.ensures.only texts entries (subst (λ (k : Column). Holds k texts entries) (sym c.loop-number.invariant.column) holds)))
      c.in_ok-push_if.ensures;
  among = among_more c.args.numbers.now c.loop-number.near.items c.push_if.new.numbers.items (get_or c.args.numbers.now c.loop-number.number-index 0) c.is_near-kept.result c.loop-number.invariant.among
      (Contains-get_or c.args.numbers.now c.loop-number.number-index 0 c.loop-number-test.true) c.in_ok-push_if.ensures;
}

pub returns-clause-only : goal.returns-clause-only
returns-clause-only c = λ texts entries holds.
    c.loop-number.invariant.only texts entries holds
    ∙ ap (λ (xs : List ℕ). filter (λ n. is_near c.args.bar (key_at c.args.descending entries n)) xs) (take_all c.loop-number.number-index c.args.numbers.now c.loop-number-test.false)
