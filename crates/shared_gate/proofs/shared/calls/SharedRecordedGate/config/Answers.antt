use Rattle.shared_gate.proofs.shared.calls.SharedRecordedGate.config.Goals as goal

pub returns-clause-step : goal.returns-clause-step
returns-clause-step g c core log s = s.configured
