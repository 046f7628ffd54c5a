use Rattle.std.proofs.Common.{ℕ, List, ◌++◌, inl, inr, sym, subst, arith}
use Rattle.std.specs.Prelude.{Contains}
use Rattle.std.proofs.lemmas.List.{take_all}
use Rattle.real_edge.specs.Walk.{Meets}
use Rattle.real_edge.proofs.Walks.{took_cases}
use Rattle.real_edge.proofs.Meetings.{meets_more}
use Rattle.real_edge.proofs.folder_walk.Walk.found.Goals as goal

pub loop-name-init : goal.loop-name-init
loop-name-init c = λ name h. absurd (omega (arith, h.1))

pub loop-name-preserved : goal.loop-name-preserved
loop-name-preserved c = λ name h.
    let prefix = c.args.self.now.prefix in
    let after = c.args.self.now.after in
    let folder = c.args.folder.now in
    elim (took_cases c.args.names.now c.loop-name.name-index c.name-item.result name c.loop-name-test.true c.name-item.is h) [
      | inl k ↦ meets_more prefix after (folder ++ name) c.loop-name.found c.find_at.new.found c.in_ok-find_at.ensures.rest (c.loop-name.invariant name k)
      | inr e ↦ subst (λ (n : List ℕ). Meets prefix after (folder ++ n) c.find_at.new.found) e (rw c.as_slice.ensures at c.in_ok-find_at.ensures.meets)
    ]

pub returns : goal.returns
returns c = λ name h. c.loop-name.invariant name (subst (λ (l : List (List ℕ)). Contains l name) (sym (take_all c.loop-name.name-index c.args.names.now (omega (arith, c.loop-name-test.false)))) h)
