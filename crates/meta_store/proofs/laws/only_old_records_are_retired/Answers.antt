use Rattle.meta_store.proofs.TakenOut.{only_old}
use Rattle.meta_store.proofs.laws.only_old_records_are_retired.Goals as goal

pub returns : goal.returns
returns c = λ reads entries l reading settings moment numbers f. only_old reads entries l settings moment numbers f
