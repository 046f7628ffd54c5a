use Rattle.std.proofs.Common.{◌<◌, ◌^◌, length, sym, ap, subst, ◌∙◌, ℕ}
use Rattle.split_bundle.proofs.KeyCounts.{few_blocks}
use Rattle.split_bundle.proofs.part_view.PartView.index.Goals as goal

pub returns-clause-only : goal.returns-clause-only
returns-clause-only c s documents p part = c.index.ensures ∙ part.footer.index

pub returns-clause-few : goal.returns-clause-few
returns-clause-few c s documents p part = let P : ℕ → Type 0 = λ n. n < 2 ^ 32 in subst P (ap length (sym c.index.ensures)) (few_blocks c.args.self.now s documents p part)
