use Rattle.std.proofs.Common.{◌≡◌, ◌*◌, ◌≤◌, ◌^◌, List, drop, Ok}
use Rattle.split_bundle.specs.declared.placed.Placed.{Placed}
use Rattle.split_merge.specs.Keeping.{RiseFrom}
use Rattle.split_merge.specs.Kept.{HasKept}
use Rattle.split_merge.specs.Reading.{behind, read_from, read_kept}
use Rattle.split_merge.proofs.keeping.kept_documents.Given as goal

abbrev pub invariant-loop-number : goal.invariant-loop-number
invariant-loop-number l = record {
  room : l.first ≤ l.number * 2 ^ 32;
  rise : RiseFrom l.first l.rest;
  exact : (now : List Placed) × HasKept l.documents l.schema now × (behind (Ok now) (read_from l.schema l.rest l.number l.first (drop l.number l.views)) ≡ read_kept l.schema l.dropped l.views);
}
