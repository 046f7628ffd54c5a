use Rattle.std.proofs.Common.{◌≡◌, ℕ, true, [], List, Option, Some, drop}
use Rattle.std.specs.List.{AllByRecursion}
use Rattle.doc_value.specs.declared.schema.Schema.{Schema}
use Rattle.split_bundle.specs.declared.placed.Placed.{Placed}
use Rattle.split_bundle.specs.Lists.{keeps_places}
use Rattle.split_build.proofs.Zipped.{Partly}
use Rattle.split_merge.specs.Joining.{Holds, joined_list}
use Rattle.split_merge.specs.Keeping.{AreViewsOf}
use Rattle.split_merge.specs.Walking.{AreWalks, IsNotBelow, IsWalkOf, is_past}
use Rattle.split_merge.proofs.GatherLemmas.{IsReady, JoinsSoFar}
use Rattle.split_merge.proofs.key_lists.gather_key.Given as goal

abbrev pub invariant-loop-i : goal.invariant-loop-i
invariant-loop-i l = record {
  walks : (s : Schema) (last : Option (List ℕ)) → l.kept ≡ keeps_places s l.key → is_past last l.key ≡ true → AreWalks s last l.views l.fn.walks → AllByRecursion (IsNotBelow l.key) l.fn.walks
      → Partly (IsWalkOf s (Some l.key)) (IsReady s last l.key) l.i l.views l.walks;
  only : (s : Schema) (last : Option (List ℕ)) (lists : List (List Placed)) → l.kept ≡ keeps_places s l.key → is_past last l.key ≡ true → AreWalks s last l.views l.fn.walks → AllByRecursion (IsNotBelow l.key) l.fn.walks
      → AreViewsOf s l.views lists → Holds l.kept l.fn.list [] → JoinsSoFar s l.key (drop l.i lists) (drop l.i l.numbers) (joined_list s l.key lists l.numbers) l.kept l.list;
}
