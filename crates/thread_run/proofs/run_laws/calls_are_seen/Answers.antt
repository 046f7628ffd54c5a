use Rattle.shared_gate.specs.Recording.{Begun}
use Rattle.thread_run.proofs.Called.{are_called, as_many}
use Rattle.thread_run.proofs.run_laws.calls_are_seen.Goals as goal

pub returns : goal.returns
returns g c = λ opened source events log first last exit places made linked told stands ends on at.
    (are_called (Begun g.M.SourceLog.told opened source) log ((first, stands), told) first last exit opened events linked stands ends on places made at, as_many events places made at)
