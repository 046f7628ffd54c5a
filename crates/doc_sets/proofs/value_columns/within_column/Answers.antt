use Rattle.std.proofs.Common.{◌≡◌, ◌∙◌, ◌||◌, true, ap, sym, subst}
use Rattle.doc_sets.specs.Ranged.{documents_from}
use Rattle.doc_sets.specs.Reads.{are_below}
use Rattle.doc_sets.specs.Sets.{is_one_of}
use Rattle.doc_sets.proofs.ReadColumns.{numbers_all}
use Rattle.doc_sets.proofs.value_columns.within_column.Goals as goal

pub returns-clause-exact : goal.returns-clause-exact
returns-clause-exact c =
    let column = c.args.column.now in
    let found = documents_from c.args.range column column.count 0 in
    let put = c.in_ok-put_values.ensures.exact in
    let below = subst (λ m. are_below m found ≡ true) c.in_ok-bits.ensures.size put.0 in
    (found, sym (numbers_all c.args.part.now.footer.layout.docs c.args.range column below), λ k. put.1 k ∙ ap (λ b. b || is_one_of k found) (c.in_ok-bits.ensures.none k))
