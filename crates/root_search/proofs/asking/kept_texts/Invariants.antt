use Rattle.std.proofs.Common.{◌≡◌, take}
use Rattle.std.specs.List.{AllByRecursion}
use Rattle.meta_journal.specs.Spelling.{IsText}
use Rattle.root_search.proofs.asking.kept_texts.Given as goal

abbrev pub invariant-loop-text : goal.invariant-loop-text
invariant-loop-text l = record {
  same : l.kept ≡ take l.text-index l.texts;
  can : AllByRecursion IsText l.kept;
}
