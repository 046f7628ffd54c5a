-- Readers that were started stand for the fresh ones.
use Rattle.std.proofs.Common.{◌≡◌, ℕ, List, [], ◌∷◌, refl, sym, subst, map, All, false}
use Rattle.std.specs.Prelude.{Option, Some, None}
use Rattle.std.specs.List.{AllZip, AllByRecursion}
use Rattle.std.proofs.lemmas.List.Elements.{All-head, All-tail}
use Rattle.source_log.specs.Log.{Log, IsLog}
use Rattle.index_world.specs.Core.{Core}
use Rattle.index_world.specs.World.{Keeping, WorldStands}
use Rattle.indexing_run.specs.Standing.{IndexerStands}
use Rattle.indexing_run.specs.declared.indexer.Indexer.{Indexer as Reader}
use Rattle.upkeep_run.specs.Places.{idle}
use Rattle.upkeep_run.specs.Standing.{PlaceStands}
use Rattle.upkeep_run.specs.declared.work.Aim.TheVariants.{Deleting, Merging}
use Rattle.upkeep_run.specs.declared.work.WorkerPlace.{WorkerPlace as WorkerPlace}
use Rattle.node_run.specs.Turns.{reader_of}
use Rattle.node_run.proofs.Workers.{idle_other, idle_work_apart}
use Rattle.node_run.specs.Standing.{IsFresh, PartsStand, fresh_node, HoldApart, AllApart}

none_some : (n : ℕ) → None ≡ Some n → ⊥
none_some n e = cc

apart_from : (n : ℕ) (counts : List ℕ) → AllByRecursion (HoldApart (reader_of n)) (map reader_of counts)
apart_from n [] = tt
apart_from n (m ∷ counts) = (λ k a b. none_some k a, apart_from n counts)

fresh_apart : (counts : List ℕ) → AllApart (map reader_of counts)
fresh_apart [] = tt
fresh_apart (n ∷ counts) = (apart_from n counts, fresh_apart counts)

module _ {L : Type 0} (told : L → Option Log) (count : L → ℕ) (since : L → L → Type 0) (itself : (log : L) → since log log) where
  fresh_stand : (logs : List L) (readers : List (Reader L)) (core : Core) (log : Log) → AllZip (IsFresh told count) logs readers → All (λ l. told l ≡ Some log) logs →
      AllZip (λ reader indexer. IndexerStands told count reader indexer core log) readers (map reader_of (map count logs))
  fresh_stand [] [] core log z h = tt
  fresh_stand [] (r ∷ readers) core log z h = absurd z
  fresh_stand (l ∷ logs) [] core log z h = absurd z
  fresh_stand (l ∷ logs) (r ∷ readers) core log z h =
      (z.0.1 core log (All-head (λ l. told l ≡ Some log) l logs h), fresh_stand logs readers core log z.1 (All-tail (λ l. told l ≡ Some log) l logs h))

  fresh_later : (logs : List L) (readers : List (Reader L)) → AllZip (IsFresh told count) logs readers → AllZip since logs (map (λ reader. reader.log) readers)
  fresh_later [] [] z = tt
  fresh_later [] (r ∷ readers) z = absurd z
  fresh_later (l ∷ logs) [] z = absurd z
  fresh_later (l ∷ logs) (r ∷ readers) z = (subst (since l) (sym z.0.0) (itself l), fresh_later logs readers z.1)

  pub fresh_parts : (logs : List L) (readers : List (Reader L)) (merger deleter : WorkerPlace) (world : Keeping) (core : Core) (log : Log) → AllZip (IsFresh told count) logs readers →
      PlaceStands Merging log core merger idle → PlaceStands Deleting log core deleter idle → WorldStands world core log → core.clock ≡ 0 → IsLog log → All (λ l. told l ≡ Some log) logs →
      PartsStand told count since logs world readers merger deleter [] [] 0 false (fresh_node core log (map count logs))
  fresh_parts logs readers merger deleter world core log z merging deleting w clock is h =
      record {
        world_stands = w;
        is_log = is;
        moment = sym clock;
        down = refl;
        indexers = fresh_stand logs readers core log z h;
        apart = fresh_apart (map count logs);
        merging = merging;
        merger_apart = idle_other (map reader_of (map count logs));
        deleting = deleting;
        deleter_apart = idle_other (map reader_of (map count logs));
        workers_apart = idle_work_apart idle;
        clients = tt;
        placed = λ name. refl;
        later = fresh_later logs readers z;
      }
