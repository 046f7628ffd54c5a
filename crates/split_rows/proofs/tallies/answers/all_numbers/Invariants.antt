use Rattle.doc_tallies.specs.Picked.{AllBelow}
use Rattle.split_rows.proofs.tallies.answers.all_numbers.Given as goal

abbrev pub invariant-loop-number : goal.invariant-loop-number
invariant-loop-number l = AllBelow l.view.footer.layout.docs l.numbers.items
