use Rattle.std.proofs.Common.{refl, sym, subst}
use Rattle.indexing_run.specs.Places.{idle}
use Rattle.indexing_run.specs.Standing.{PlaceStands}
use Rattle.indexing_run.proofs.indexer.Indexer.restart.Goals as goal

pub returns-clause-stands : goal.returns-clause-stands
returns-clause-stands g c = λ indexer core after read s. record {
  told = s.told;
  log_faults = s.log_faults;
  assignment = s.assignment;
  assigned = s.assigned;
  place = subst (λ k. PlaceStands read after k idle) (sym c.put.ensures) refl;
}
