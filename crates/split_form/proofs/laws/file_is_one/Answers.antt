use Rattle.std.proofs.Common.{◌<◌, arith}
use Rattle.std.proofs.lemmas.List.Elements.{All-from_get_or, recursion_from_All}
use Rattle.split_form.proofs.Whole.{file_one}
use Rattle.split_form.proofs.laws.file_is_one.Goals as goal

pub returns : goal.returns
returns c = λ s documents split.
    file_one s c.args.bytes.now documents split
    (recursion_from_All (λ b. b < 256) c.args.bytes.now (All-from_get_or (λ b. b < 256) c.args.bytes.now 0 (λ i lt. omega (arith, c.type_inv.bytes i))))
