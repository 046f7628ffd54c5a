use Rattle.std.proofs.Common.{◌≡◌, false, take}
use Rattle.term_postings.specs.Reading.{last_of}
use Rattle.split_merge.specs.Joining.{Adds, AreAbove, bare, renumbered}
use Rattle.split_merge.specs.Numbering.{number_in}
use Rattle.split_merge.proofs.lists.KeyList.put_block.Given as goal

abbrev pub invariant-loop-document : goal.invariant-loop-document
invariant-loop-document l = record {
  above : AreAbove l.fn.before (take l.document-index l.block);
  last_is : l.last ≡ last_of (take l.document-index l.block) l.fn.before;
  added : Adds false l.fn.self l.self (renumbered (number_in l.numbers) (bare (take l.document-index l.block)));
}
