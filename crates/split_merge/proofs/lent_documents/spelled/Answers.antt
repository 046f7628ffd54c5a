use Rattle.std.proofs.Common.{◌∙◌, ◌++◌, List, ℕ, ap, get_or}
use Rattle.byte_fields.specs.Spelling.{varint}
use Rattle.split_build.proofs.DocumentLemmas.{mapped_more}
use Rattle.split_merge.proofs.LentLemmas.{got_again}
use Rattle.split_merge.proofs.lent_documents.spelled.Goals as goal

pub loop-number-preserved : goal.loop-number-preserved
loop-number-preserved c =
    let number : ℕ = get_or c.args.numbers.now c.loop-number.number-index 0 in
    mapped_more varint c.args.numbers.now c.loop-number.number-index number c.loop-number.all.items c.push.new.self.items c.from_vec.result c.loop-number-test.true (got_again c.args.numbers.now c.loop-number.number-index 0)
    c.in_ok-push.ensures.items (c.from_vec.ensures ∙ c.in_ok-put_varint.ensures.ok ∙ ap (λ (l : List ℕ). l ++ varint number) c.new-bytes.ensures.items) c.loop-number.invariant
