use Rattle.split_form.proofs.Rising.{sorted_rises, sorted_in, in_sorted, sorted_one}
use Rattle.split_form.proofs.laws.sorted_laws.Goals as goal

pub returns : goal.returns
returns c = record {
  rising = λ texts. sorted_rises texts;
  exact = λ texts text. (sorted_in texts text, in_sorted texts text);
  only = λ texts others rising same. sorted_one others texts rising same;
}
