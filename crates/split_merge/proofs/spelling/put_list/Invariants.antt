use Rattle.std.proofs.Common.{◌≡◌, ◌-◌, ◌≤◌, List, drop, length, map}
use Rattle.std.specs.List.{AllByRecursion}
use Rattle.term_postings.specs.Postings.{Fits, position_bytes}
use Rattle.term_postings.specs.declared.list.Posting.{Posting}
use Rattle.split_merge.specs.Joining.{listed}
use Rattle.split_merge.proofs.SpellLemmas.{PutsHeads}
use Rattle.split_merge.proofs.spelling.put_list.Given as goal

abbrev pub invariant-loop-from : goal.invariant-loop-from
invariant-loop-from l = record {
  within : l.from ≤ length l.entries;
  at_within : l.at ≤ length l.places;
  puts : (ps : List Posting) → l.entries ≡ map listed ps → l.places ≡ position_bytes ps → AllByRecursion (Fits l.kept) ps
      → PutsHeads l.kept l.fn.postings.items l.postings.items l.blocks.items l.before (drop l.from ps) ps × (drop l.at l.places ≡ position_bytes (drop l.from ps));
}

abbrev pub decreases-loop-from : goal.decreases-loop-from
decreases-loop-from l = length l.entries - l.from
