use Rattle.std.proofs.Common.{◌≡◌, ◌+◌, ◌∙◌, ap, sym, subst, ℕ, List, Option, true, false}
use Rattle.std.specs.Prelude.{IfSome, Contains}
use Rattle.real_edge.specs.Growing.{Grown, names_of}
use Rattle.real_edge.proofs.Logs.{HasGiven, given-more, given-none}
use Rattle.real_edge.proofs.Pieces.{some_by}
use Rattle.real_edge.proofs.file_log.given_of.Goals as goal
use Rattle.real_edge.proofs.file_log.given_of.Goals.{then-branch+in_ok-push, else-branch}

pub loop-partition-preserved : goal.loop-partition-preserved
loop-partition-preserved g c =
    let told : Option (List Grown) = g.G.GrowingFiles.told c.args.files.now in
    let told' : Option (List Grown) = g.G.GrowingFiles.told c.is_given.new.files in
    let same : told' ≡ told = c.in_ok-is_given.ensures.same ∙ c.loop-partition.invariant.same in
    let name : List ℕ = c.partition-item.result in
    let at : ℕ = c.loop-partition.partition-index in
    elim c.if-branch.branch [
      | then-branch+in_ok-push w ↦
          subst (λ (given : List (List ℕ)). HasGiven told told' c.args.names.now given (at + 1)) (sym (w.given-is ∙ w.in_ok-push.ensures.ok))
          (given-more told told' c.args.names.now c.loop-partition.given at name c.loop-partition-test.true c.partition-item.is same c.loop-partition.invariant.all)
      | else-branch w ↦
          let none : IfSome told (λ files. Contains (names_of files) name → false ≡ true) =
          subst (λ (o : Option (List Grown)). IfSome o (λ files. Contains (names_of files) name → false ≡ true)) c.loop-partition.invariant.same
          (some_by (λ files. Contains (names_of files) name → c.in_ok-is_given.field-0 ≡ true) (λ files. Contains (names_of files) name → false ≡ true) (g.G.GrowingFiles.told c.loop-partition.files)
          (λ files h has. sym w.if-branch.false ∙ h has) c.in_ok-is_given.ensures.given) in
          subst (λ (given : List (List ℕ)). HasGiven told told' c.args.names.now given (at + 1)) (sym w.given-is)
          (given-none told told' c.args.names.now c.loop-partition.given at name c.loop-partition-test.true c.partition-item.is same c.requires none)
    ]
