-- A Stage by other words.
use Rattle.std.proofs.Common.{◌≡◌, ℕ, List, [], subst, Result, None}
use Rattle.source_checkpoint.specs.declared.delta.Part.{Part}
use Rattle.source_log.specs.Log.{Log}
use Rattle.split_states.specs.declared.facts.RowFacts.{RowFacts}
use Rattle.index_world.specs.CallsMade.{CallMade, of_stage}
use Rattle.index_world.specs.Core.{Core}
use Rattle.index_world.specs.Gate.{Does, IsUnmade, WasStaged, stage_call}
use Rattle.index_world.specs.declared.tokens.Staged.{Staged}
use Rattle.index_world.specs.declared.world_error.WorldError.{WorldError}

module _ {W : Type 0} (Stands : W → Core → Log → Type 0) (Between : Core → Core → Type 0) (Owns : W → ℕ → Type 0) (Adds : W → List CallMade → W → Type 0) (core : Core) (log : Log) (old new : W) where
  abbrev StagesWith : List Part → RowFacts → Result Staged WorldError → Type 0
  StagesWith delta facts result = Does Stands Between Owns Adds None (of_stage delta facts) (stage_call delta facts) IsUnmade (WasStaged core delta facts) result core log old new

  pub staged_with : (delta : List Part) (facts other : RowFacts) (result : Result Staged WorldError) → delta ≡ [] → facts ≡ other → StagesWith delta facts result → StagesWith [] other result
  staged_with delta facts other result none same d = subst (λ f. StagesWith [] f result) same (subst (λ p. StagesWith p facts result) none d)
