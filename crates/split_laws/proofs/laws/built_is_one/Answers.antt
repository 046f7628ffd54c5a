use Rattle.std.proofs.Common.{ℕ, List, sym, ◌∙◌, subst}
use Rattle.split_bundle.specs.Splits.{IsSplit}
use Rattle.split_laws.proofs.Built.{built_one}
use Rattle.split_laws.proofs.laws.built_is_one.Goals as goal

pub returns : goal.returns
returns c = λ s documents built.
    let same = c.as_slice.ensures in
    built_one s documents c.args.split.now built (sym same ∙ c.file_is_one.ensures s documents (subst (λ (l : List ℕ). IsSplit s l documents) (sym same) built.split))
