use Rattle.std.proofs.Common.{◌≡◌, ◌∙◌, Bool, false, Result, Option, sym, subst, inr, refl}
use Rattle.std.specs.Prelude.{IfSome}
use Rattle.byte_fields.specs.declared.calls.Failed.{Failed}
use Rattle.object_store.specs.Store.{AfterLanding, Deletes}
use Rattle.real_edge.specs.Objects.{state_in, Takes, IsTaken}
use Rattle.real_edge.proofs.Led.{walks_in, walks_out}
use Rattle.real_edge.proofs.Wheres.{works_not, if_all}
use Rattle.real_edge.proofs.Calls.{deletes, if_taken, walk_unsought, sure_in, sure_out, sure_by}
use Rattle.real_edge.proofs.folder_store.FolderStoreObjectStore.delete.Goals as goal

pub returns-then-self-clause-step : goal.returns-then-self-clause-step
returns-then-self-clause-step g c = works_not _ _ (λ s. inr refl)

pub returns-then-self-clause-disk : goal.returns-then-self-clause-disk
returns-then-self-clause-disk g c = if_all (g.D.Disk.told c.args.self.now.disk) (λ f. record { gone = tt; keeps = λ q content is ne safe. safe })

pub take_out-taken-requires : goal.take_out-taken-requires
take_out-taken-requires g c = c.forget.ensures.lost ∙ c.if-self.false

pub invariant_of-self : goal.invariant_of-self
invariant_of-self g c = record { walks = c.args.self.now.walks; sure = c.args.self.now.sure }

pub invariant_of-self-2 : goal.invariant_of-self-2
invariant_of-self-2 g c =
    let told = g.D.Disk.told in
    let left = g.D.Disk.may_leave in
    let s = c.forget.new.self in
    let b = c.take_out-taken.new.disk in
    let l = c.take_out-taken.new.is_lost in
    record {
      walks = walks_out (told b) s.walk (walk_unsought (told s.disk) (told b) s.walk c.args.key.now {P = Takes c.args.key.now c.take_out-taken.result l (left s.disk) (left b)} (λ o n p q is ne. p.others q is ne)
          c.forget.ensures.walk (walks_in (told s.disk) s.walk s.walks) c.take_out-taken.ensures);
      sure = sure_out (told b) l (left b) (sure_by (told s.disk) (told b) l (left s.disk) (left b) {P = Takes c.args.key.now c.take_out-taken.result l (left s.disk) (left b)} (λ o n p. p.sure)
          (sure_in (told s.disk) s.is_lost (left s.disk) s.sure (c.forget.ensures.lost ∙ c.if-self.false)) c.take_out-taken.ensures);
    }

pub returns-clause-step : goal.returns-clause-step
returns-clause-step g c =
    let told = g.D.Disk.told in
    let left = g.D.Disk.may_leave in
    let crashed = g.D.Disk.crashed in
    let s = c.args.self.now in
    let a = c.args.self.now.disk in
    let b = c.take_out-taken.new.disk in
    let l = c.take_out-taken.new.is_lost in
    subst (λ (k : Bool). AfterLanding (state_in (told a) k (crashed a)) (state_in (told b) l (crashed b)) (Deletes c.args.key.now c.answer_delete.result)) (sym c.if-self.false)
    (subst (λ (r : Result (Unit {0}) Failed). AfterLanding (state_in (told a) false (crashed a)) (state_in (told b) l (crashed b)) (Deletes c.args.key.now r)) (sym c.answer_delete.ensures.answer)
    (deletes l (told a) (told b) (crashed a) (crashed b) c.args.key.now c.take_out-taken.result (left a) (left b) (sure_in (told a) s.is_lost (left a) s.sure c.if-self.false) (g.met.D.Disk.leaves_some b)
    (rw c.forget.ensures.disk at c.take_out-taken.ensures)))

pub returns-clause-disk : goal.returns-clause-disk
returns-clause-disk g c =
    let told = g.D.Disk.told in
    let left = g.D.Disk.may_leave in
    let a = c.args.self.now.disk in
    let b = c.take_out-taken.new.disk in
    subst (λ (r : Result (Unit {0}) Failed). IfSome (told a) (λ f. IsTaken c.args.key.now r (left a) (left b))) (sym c.answer_delete.ensures.answer)
    (if_taken (told a) (told b) c.args.key.now c.take_out-taken.result c.take_out-taken.new.is_lost (left a) (left b) (rw c.forget.ensures.disk at c.take_out-taken.ensures))
