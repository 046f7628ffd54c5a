-- An indexer's steps are few: each of its Stages is an entry more, and from one to the next it comes nearer step by step.
use Rattle.std.proofs.Common.{◌≡◌, ◌⊎◌, inl, inr, ℕ, zero, suc, ◌+◌, ◌*◌, ◌-◌, ◌^◌, ◌≤◌, ◌<◌, List, [], ◌∷◌, length, refl, sym, ap, ◌∙◌, subst, arith}
use Rattle.std.proofs.Math.Nat.{mul-suc, mul-zero}
use Rattle.std.proofs.lemmas.List.{length-append}
use Rattle.std.specs.List.{AllByRecursion}
use Rattle.std.specs.Prelude.{Option, Some, None, Ok, Err}
use Rattle.meta_journal.specs.declared.entry.Entry.{Entry}
use Rattle.source_log.specs.Log.{Log}
use Rattle.index_world.specs.CallsMade.{CallMade}
use Rattle.index_world.specs.Core.{Core, Nobody}
use Rattle.index_world.specs.Gate.{IsSoundCore}
use Rattle.index_world.specs.Index.{max_entries}
use Rattle.index_world.specs.Ran.{AreSteps, EndsBy, StepMade}
use Rattle.index_world.specs.World.{GoesFor}
use Rattle.indexing_run.specs.Asking.{IsIdle}
use Rattle.indexing_run.specs.IndexAll.{IndexerAt, IndexerDid, IndexerStep, Told, end_of, indexer_at}
use Rattle.indexing_run.specs.Outcomes.{IndexerOutcome}
use Rattle.indexing_run.specs.Places.{IndexerPlace, idle, reading, staged, uploaded, Indexer}
use Rattle.indexing_run.specs.Standing.{Answers}
use Rattle.indexing_run.specs.Steps.{Stepped, partitions_for}
use Rattle.indexing_run.specs.declared.indexer.Indexer.{Indexer as Reader}
use Rattle.indexing_run.specs.declared.indexing.IndexerEnd.{IndexerEnd}
use Rattle.indexing_run.specs.declared.indexing.IndexerEnd.TheVariants as ends
use Rattle.indexing_run.specs.declared.outcome.IndexerOutcome.TheVariants as said
use Rattle.indexing_run.specs.IndexLaws.{most_partitions, most_steps, steps_to_stage}
use Rattle.indexing_run.proofs.Rising.{entries_within}
use Rattle.indexing_run.proofs.Nearing.{GoesOn, HasRoom, IsNearer, Nears, step_near, steps_left}

-- ---- what a step of the code answered

-- one that is no end is none of the machine's
goes_by : (told : Told) (outcome : Option IndexerOutcome) → Answers told outcome → end_of told ≡ None → GoesOn outcome
goes_by (Ok given) None answer e = absurd answer
goes_by (Err refused) outcome answer e = absurd cc
goes_by (Ok said.Checkpoint) (Some outcome) answer e = subst (λ (o : IndexerOutcome). GoesOn (Some o)) (sym answer) tt
goes_by (Ok (said.Read count)) (Some outcome) answer e = subst (λ (o : IndexerOutcome). GoesOn (Some o)) (sym answer) tt
goes_by (Ok (said.Staged number)) (Some outcome) answer e = subst (λ (o : IndexerOutcome). GoesOn (Some o)) (sym answer) tt
goes_by (Ok (said.Uploaded number)) (Some outcome) answer e = subst (λ (o : IndexerOutcome). GoesOn (Some o)) (sym answer) tt
goes_by (Ok (said.Published number)) (Some outcome) answer e = subst (λ (o : IndexerOutcome). GoesOn (Some o)) (sym answer) tt
goes_by (Ok said.CaughtUp) (Some outcome) answer e = absurd cc
goes_by (Ok (said.Stale partition current from)) (Some outcome) answer e = subst (λ (o : IndexerOutcome). GoesOn (Some o)) (sym answer) tt
goes_by (Ok (said.Lost number refusal)) (Some outcome) answer e = subst (λ (o : IndexerOutcome). GoesOn (Some o)) (sym answer) tt
goes_by (Ok (said.Refused refusal)) (Some outcome) answer e = absurd cc
goes_by (Ok (said.Fault error)) (Some outcome) answer e = absurd cc
goes_by (Ok (said.SourceFault before after)) (Some outcome) answer e = absurd cc

-- no step ends with the turns
never_turns : (told : Told) → end_of told ≡ Some ends.Turns → ⊥
never_turns (Ok said.Checkpoint) e = cc
never_turns (Ok (said.Read count)) e = cc
never_turns (Ok (said.Staged number)) e = cc
never_turns (Ok (said.Uploaded number)) e = cc
never_turns (Ok (said.Published number)) e = cc
never_turns (Ok said.CaughtUp) e = cc
never_turns (Ok (said.Stale partition current from)) e = cc
never_turns (Ok (said.Lost number refusal)) e = cc
never_turns (Ok (said.Refused refusal)) e = cc
never_turns (Ok (said.Fault error)) e = cc
never_turns (Ok (said.SourceFault before after)) e = cc
never_turns (Err refused) e = cc

-- ---- entries

product_on : (k a more : ℕ) → k * (a + more) ≡ k * a + k * more
product_on k a zero = let none = mul-zero k in let same : a + 0 ≡ a = omega arith in ap (λ m. k * m) same ∙ omega (arith, none)
product_on k a (suc more) =
    let rest = product_on k a more in
    let left = mul-suc k (a + more) in
    let right = mul-suc k more in
    let same : a + suc more ≡ suc (a + more) = omega arith in
    ap (λ m. k * m) same ∙ omega (arith, rest, left, right)

longer_by : (core after : Core) → GoesFor Nobody core after → (more : ℕ) × (length after.history ≡ length core.history + more)
longer_by core after on = (length on.grown.0, ap (λ (l : List Entry). length l) on.grown.1 ∙ length-append core.history on.grown.0)

-- an entry more is worth as many steps as lead from one Stage to the next
worth : (k a b left before more : ℕ) → b ≡ a + more → (left < before) ⊎ ((a < b) × (left < k)) → 1 + left + k * a ≤ before + k * b
worth k a b left before more is (inl less) =
    let all : k * b ≡ k * a + k * more = ap (λ m. k * m) is ∙ product_on k a more in
    omega (arith, all, less)
worth k a b left before zero is (inr near) = let less = near.0 in absurd (omega (arith, is, less))
worth k a b left before (suc more) is (inr near) =
    let all : k * b ≡ k * a + k * suc more = ap (λ m. k * m) is ∙ product_on k a (suc more) in
    let one = mul-suc k more in
    let less = near.1 in
    omega (arith, all, one, less)

-- ---- steps

module _ (Between : Core → Core → Type 0) (log : Log) (between_goes : (core mid : Core) → Between core mid → GoesFor Nobody core mid) (n : ℕ) where
  abbrev round : ℕ
  round = steps_to_stage n + 3

  abbrev HasNames : Indexer → Type 0
  HasNames indexer = length (partitions_for indexer.assignment log) ≡ n

  one_near : (from : IndexerAt) (step : StepMade Told) (to : IndexerAt) (s : IndexerStep Between log from step to) → HasRoom from.indexer.place → HasNames from.indexer →
      Nears n (steps_left n from.indexer.place) log s.mid (record { outcome = s.outcome; indexer = to.indexer; core = to.core })
  one_near from step to s room same =
      let P : Stepped → Type 0 = λ st. Nears n (steps_left n from.indexer.place) log s.mid st in
      subst P s.did (step_near n (steps_left n from.indexer.place) log s.luck s.mid from.indexer (omega arith) room same)

  one_worth : (from : IndexerAt) (step : StepMade Told) (to : IndexerAt) → IndexerStep Between log from step to → HasRoom from.indexer.place → HasNames from.indexer → end_of step.result ≡ None →
      1 + steps_left n to.indexer.place + round * length from.core.history ≤ steps_left n from.indexer.place + round * length to.core.history
  one_worth from step to s room same none =
      let on = longer_by from.core to.core s.goes_on in
      worth round (length from.core.history) (length to.core.history) (steps_left n to.indexer.place) (steps_left n from.indexer.place) on.0 on.1
      (by ((one_near from step to s room same).near (goes_by step.result s.outcome s.answer none)))
    where
      by : IsNearer n (steps_left n from.indexer.place) s.mid to.indexer.place to.core →
          (steps_left n to.indexer.place < steps_left n from.indexer.place) ⊎ ((length from.core.history < length to.core.history) × (steps_left n to.indexer.place < round))
      by (inl less) = inl less
      by (inr step_up) =
          let before = (longer_by from.core s.mid (between_goes from.core s.mid s.passed)).1 in
          let longer = step_up.0 in
          let near = step_up.1 in
          inr (omega (arith, before, longer), omega (arith, near))

  steps_worth : (from to : IndexerAt) (steps : List (StepMade Told)) → AreSteps (IndexerStep Between log) from steps to → AllByRecursion (λ (step : StepMade Told). end_of step.result ≡ None) steps →
      HasRoom from.indexer.place → HasNames from.indexer → length steps + round * length from.core.history ≤ steps_left n from.indexer.place + round * length to.core.history
  steps_worth from to [] are none room same =
      let here : round * length to.core.history ≡ round * length from.core.history = ap (λ (at : IndexerAt). round * length at.core.history) are in
      omega (arith, here)
  steps_worth from to (step ∷ more) are none room same =
      let next = one_near from step are.0 are.1 room same in
      let one = one_worth from step are.0 are.1 room same none.0 in
      let rest = steps_worth are.0 to more are.2 none.1 next.room next.same in
      omega (arith, one, rest)

-- ---- from an idle indexer on

idle_left : (n : ℕ) (place : IndexerPlace) → IsIdle place → (steps_left n place ≡ steps_to_stage n) × HasRoom place
idle_left n idle i = (refl, tt)
idle_left n (reading batch) i = absurd i
idle_left n (staged held) i = absurd i
idle_left n (uploaded held) i = absurd i

module _ {L : Type 0} (tells : L → Option Log) (count : L → ℕ) (Between : Core → Core → Type 0) (between_goes : (core mid : Core) → Between core mid → GoesFor Nobody core mid) where
  -- the turns of one that has used them up are few
  pub turns_few : (log : Log) (turns : ℕ) (reader : Reader L) (indexer : Indexer) (core after : Core) (made : List CallMade) (entries : ℕ) → IsIdle indexer.place →
      IndexerDid tells count Between log turns ends.Turns reader indexer core made after → length after.history ≤ length core.history + entries →
      turns ≤ most_steps (length (partitions_for indexer.assignment log)) entries
  turns_few log turns reader indexer core after made entries idled d few = by d.works.ended
    where
      n : ℕ
      n = length (partitions_for indexer.assignment log)

      k : ℕ
      k = steps_to_stage n + 3

      by : EndsBy (λ (step : StepMade Told). end_of step.result) ends.Turns turns d.works.steps ends.Turns → turns ≤ most_steps n entries
      by (inl last) = absurd (never_turns last.1.last.result last.1.ends)
      by (inr out) =
          let w = d.works in
          let place = idle_left n indexer.place idled in
          let all = steps_worth Between log between_goes n (indexer_at indexer core) w.last w.steps w.are out.2 place.1 refl in
          let left = place.0 in
          let many = out.1 in
          let on = longer_by w.last.core after w.goes_on in
          let later = on.1 in
          let some = longer_by_steps in
          summed (length core.history) (length w.last.core.history) some.0 entries some.1 (omega (arith, later, few)) (omega (arith, all, left, many))
        where
          longer_by_steps : (more : ℕ) × (length d.works.last.core.history ≡ length core.history + more)
          longer_by_steps = grown (indexer_at indexer core) d.works.last d.works.steps d.works.are
            where
              grown : (from to : IndexerAt) (steps : List (StepMade Told)) → AreSteps (IndexerStep Between log) from steps to → (more : ℕ) × (length to.core.history ≡ length from.core.history + more)
              grown from to [] are = (0, ap (λ (at : IndexerAt). length at.core.history) are ∙ omega arith)
              grown from to (step ∷ more) are =
                  let one = longer_by from.core are.0.core are.1.goes_on in
                  let rest = grown are.0 to more are.2 in
                  let first = one.1 in
                  let then = rest.1 in
                  (one.0 + rest.0, omega (arith, first, then))

          summed : (a b more entries : ℕ) → b ≡ a + more → b ≤ a + entries → turns + k * a ≤ steps_to_stage n + k * b → turns ≤ steps_to_stage n + k * entries
          summed a b more entries is le all =
              let rest : entries ≡ more + (entries - more) = omega (arith, is, le) in
              let grows : k * b ≡ k * a + k * more = ap (λ m. k * m) is ∙ product_on k a more in
              let whole : k * entries ≡ k * more + k * (entries - more) = ap (λ m. k * m) rest ∙ product_on k more (entries - more) in
              omega (arith, grows, whole, all)

  -- so 2^64 - 1 are enough
  pub turns_enough : (log : Log) (end : IndexerEnd) (reader : Reader L) (indexer : Indexer) (core after exit : Core) (made : List CallMade) → IsIdle indexer.place →
      length (partitions_for indexer.assignment log) ≤ most_partitions → IndexerDid tells count Between log (2 ^ 64 - 1) end reader indexer core made after → GoesFor Nobody after exit → IsSoundCore exit log →
      end ≡ ends.Turns → ⊥
  turns_enough log end reader indexer core after exit made idled many d later s is =
      let P : IndexerEnd → Type 0 = λ e. IndexerDid tells count Between log (2 ^ 64 - 1) e reader indexer core made after in
      let kept = (longer_by after exit later).1 in
      let most : length exit.history ≤ max_entries = entries_within exit log s in
      let few = turns_few log (2 ^ 64 - 1) reader indexer core after made 10000000 idled (subst P is d) (omega (arith, kept, most)) in
      too_many (length (partitions_for indexer.assignment log)) many few
    where
      too_many : (n : ℕ) → n ≤ 1099511627776 → 18446744073709551615 ≤ 16777216 + n + 1 + (16777216 + n + 1 + 3) * 10000000 → ⊥
      too_many n low high = omega (arith, low, high)
