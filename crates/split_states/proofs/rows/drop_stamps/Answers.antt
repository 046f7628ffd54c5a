use Rattle.std.proofs.Common.{List, not, ◌∙◌, ap, rules}
use Rattle.std.specs.Prelude.{filter}
use Rattle.std.proofs.lemmas.Fn.{filter_same}
use Rattle.split_states.specs.Answers.{Repeats}
use Rattle.split_states.specs.declared.stamps.Stamp.{Stamp}
use Rattle.split_states.proofs.Stamped.{left_stamped}
use Rattle.split_states.proofs.rows.drop_stamps.Goals as goal

pub returns : goal.returns
returns c = λ rows same.
    filter_same _ (λ (s : Stamp). not (Repeats c.args.numbers.now s.number)) _ (λ x b f' k. search rules) _ _ c.retain.ensures.filtered
    ∙ ap (λ (l : List Stamp). filter (λ (s : Stamp). not (Repeats c.args.numbers.now s.number)) l) same
    ∙ left_stamped c.args.numbers.now rows
