use Rattle.std.proofs.Common.{◌≡◌, List, drop, map}
use Rattle.term_postings.specs.declared.list.Posting.{Posting}
use Rattle.split_merge.specs.Joining.{listed}
use Rattle.split_merge.proofs.SpellLemmas.{PutsListed}
use Rattle.split_merge.proofs.spelling.put_documents.Given as goal

abbrev pub invariant-loop-entry : goal.invariant-loop-entry
invariant-loop-entry l = (ps : List Posting) → l.entries ≡ map listed ps → PutsListed l.kept l.fn.blocks.items l.blocks.items l.before l.last (drop l.entry-index ps) ps
