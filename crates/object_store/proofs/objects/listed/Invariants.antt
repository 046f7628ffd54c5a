use Rattle.std.proofs.Common.{◌≡◌, ◌≤◌, length, take, map, filter}
use Rattle.std.specs.Option.{option_copied}
use Rattle.object_store.specs.Entries.{entries}
use Rattle.object_store.specs.Store.{is_wanted}
use Rattle.object_store.proofs.objects.listed.Given as goal

abbrev pub invariant-loop-object : goal.invariant-loop-object
invariant-loop-object l = record {
  some : length l.keys ≤ l.max;
  so_far : l.keys ≡ filter (is_wanted l.prefix (option_copied l.after)) (map (λ e. e.0) (entries (take l.object-index l.objects)));
}
