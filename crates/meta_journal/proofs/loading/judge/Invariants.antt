use Rattle.std.proofs.Common.{◌≡◌, ◌≤◌, ◌+◌, take}
use Rattle.meta_journal.specs.Journal.{max_entries}
use Rattle.meta_journal.specs.Loading.{keys_from}
use Rattle.meta_journal.proofs.loading.judge.Given as goal

abbrev pub invariant-loop-key : goal.invariant-loop-key
invariant-loop-key l = record {
  front : take l.key-index l.keys ≡ keys_from l.start l.key-index;
  count : l.number ≡ l.start + l.key-index;
  within : l.number ≤ max_entries;
}
