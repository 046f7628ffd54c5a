use Rattle.std.proofs.Common.{◌≡◌, ◌∙◌, Bool, false, Result, Option, sym, subst, inr, refl}
use Rattle.std.specs.Prelude.{IfSome}
use Rattle.object_store.specs.declared.store.CreateError.{CreateError}
use Rattle.object_store.specs.Store.{AfterLanding, Creates}
use Rattle.real_edge.specs.Objects.{state_in, Places, IsPlaced}
use Rattle.real_edge.proofs.Led.{walks_in, walks_out}
use Rattle.real_edge.proofs.Wheres.{works_not, if_all}
use Rattle.real_edge.proofs.Calls.{creates, if_placed, walk_unsought, sure_in, sure_out, sure_by}
use Rattle.real_edge.proofs.folder_store.FolderStoreObjectStore.create.Goals as goal

pub returns-then-self-clause-step : goal.returns-then-self-clause-step
returns-then-self-clause-step g c = works_not _ _ (λ s. inr (inr refl))

pub returns-then-self-clause-disk : goal.returns-then-self-clause-disk
returns-then-self-clause-disk g c = if_all (g.D.Disk.told c.args.self.now.disk) (λ f. record { on_disk = tt; keeps = λ name content is safe. safe })

pub make-made-requires : goal.make-made-requires
make-made-requires g c = c.forget.ensures.lost ∙ c.if-self.false

pub invariant_of-self : goal.invariant_of-self
invariant_of-self g c = record { walks = c.args.self.now.walks; sure = c.args.self.now.sure }

pub invariant_of-self-2 : goal.invariant_of-self-2
invariant_of-self-2 g c =
    let told = g.D.Disk.told in
    let left = g.D.Disk.may_leave in
    let s = c.forget.new.self in
    let b = c.make-made.new.disk in
    let l = c.make-made.new.is_lost in
    record {
      walks = walks_out (told b) s.walk (walk_unsought (told s.disk) (told b) s.walk c.args.key.now {P = Places c.args.key.now c.args.content.now c.make-made.result l (left s.disk) (left b)} (λ o n p q is ne. p.others q is ne)
          c.forget.ensures.walk (walks_in (told s.disk) s.walk s.walks) c.make-made.ensures);
      sure = sure_out (told b) l (left b) (sure_by (told s.disk) (told b) l (left s.disk) (left b) {P = Places c.args.key.now c.args.content.now c.make-made.result l (left s.disk) (left b)} (λ o n p. p.sure)
          (sure_in (told s.disk) s.is_lost (left s.disk) s.sure (c.forget.ensures.lost ∙ c.if-self.false)) c.make-made.ensures);
    }

pub returns-clause-step : goal.returns-clause-step
returns-clause-step g c =
    let told = g.D.Disk.told in
    let left = g.D.Disk.may_leave in
    let crashed = g.D.Disk.crashed in
    let s = c.args.self.now in
    let a = c.args.self.now.disk in
    let b = c.make-made.new.disk in
    let l = c.make-made.new.is_lost in
    subst (λ (k : Bool). AfterLanding (state_in (told a) k (crashed a)) (state_in (told b) l (crashed b)) (Creates c.args.key.now c.args.content.now c.answer_create.result)) (sym c.if-self.false)
    (subst (λ (r : Result (Unit {0}) CreateError). AfterLanding (state_in (told a) false (crashed a)) (state_in (told b) l (crashed b)) (Creates c.args.key.now c.args.content.now r)) (sym c.answer_create.ensures.answer)
    (creates l (told a) (told b) (crashed a) (crashed b) c.args.key.now c.args.content.now c.make-made.result (left a) (left b) (sure_in (told a) s.is_lost (left a) s.sure c.if-self.false) (g.met.D.Disk.leaves_some b)
    (rw c.forget.ensures.disk at c.make-made.ensures)))

pub returns-clause-disk : goal.returns-clause-disk
returns-clause-disk g c =
    let told = g.D.Disk.told in
    let left = g.D.Disk.may_leave in
    let a = c.args.self.now.disk in
    let b = c.make-made.new.disk in
    subst (λ (r : Result (Unit {0}) CreateError). IfSome (told a) (λ f. IsPlaced c.args.key.now c.args.content.now r (left a) (left b))) (sym c.answer_create.ensures.answer)
    (if_placed (told a) (told b) c.args.key.now c.args.content.now c.make-made.result c.make-made.new.is_lost (left a) (left b) (rw c.forget.ensures.disk at c.make-made.ensures))
