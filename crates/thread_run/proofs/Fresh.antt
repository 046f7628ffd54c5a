-- An indexer that is to work stands for an idle one.
use Rattle.std.proofs.Common.{◌≡◌, ℕ, refl, subst, sym}
use Rattle.std.specs.Prelude.{Option, Some}
use Rattle.source_log.specs.Log.{Log}
use Rattle.index_world.specs.Core.{Core}
use Rattle.indexing_run.specs.Making.{IsAssigned}
use Rattle.indexing_run.specs.Places.{idle}
use Rattle.indexing_run.specs.Standing.{HoldsOwn, IndexerStands, PlaceStands}
use Rattle.indexing_run.specs.declared.indexer.Indexer.{Indexer as Reader}
use Rattle.indexing_run.specs.declared.indexer.IndexerPlace.{IndexerPlace as HeldPlace}
use Rattle.indexing_run.specs.declared.indexer.IndexerPlace.TheVariants as places
use Rattle.thread_run.specs.Jobs.{fresh_of}

pub fresh_stands : {L : Type 0} (told : L → Option Log) (count : L → ℕ) (reader : Reader L) (core : Core) (log : Log) → reader.place ≡ places.Idle → IsAssigned reader.assignment → told reader.log ≡ Some log →
    IndexerStands told count reader (fresh_of count reader) core log
fresh_stands told count reader core log is assigned tells =
    let P : HeldPlace → Type 0 = λ place. PlaceStands log core place idle in
    record { told = tells; log_faults = refl; assignment = refl; assigned = assigned; place = subst P (sym is) refl }

pub holds_none : {W : Type 0} (Owns : W → ℕ → Type 0) (gate : W) (place : HeldPlace) → place ≡ places.Idle → HoldsOwn Owns gate place
holds_none Owns gate place is = let P : HeldPlace → Type 0 = λ p. HoldsOwn Owns gate p in subst P (sym is) tt
