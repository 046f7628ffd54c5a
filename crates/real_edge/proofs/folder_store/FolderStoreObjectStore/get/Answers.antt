use Rattle.std.proofs.Common.{◌≡◌, ◌≤◌, length, Bool, false, Result, Option, sym, subst, refl}
use Rattle.std.specs.Prelude.{IfOk, IfSome}
use Rattle.object_store.specs.declared.store.GetError.{GetError}
use Rattle.object_store.specs.declared.store.Piece.{Piece}
use Rattle.object_store.specs.Store.{AfterLanding, Gets}
use Rattle.real_edge.specs.Objects.{state_in, KeepsObjects}
use Rattle.real_edge.proofs.Led.{walks_in, walks_out}
use Rattle.real_edge.proofs.Wheres.{works_not, if_all}
use Rattle.real_edge.proofs.Calls.{gets_answer, piece_bound, if_kept, walk_kept, sure_in, sure_out, sure_still}
use Rattle.real_edge.proofs.folder_store.FolderStoreObjectStore.get.Goals as goal

pub returns-then-self-clause-step : goal.returns-then-self-clause-step
returns-then-self-clause-step g c = works_not _ _ (λ s. (refl, tt))

pub returns-then-self-clause-disk : goal.returns-then-self-clause-disk
returns-then-self-clause-disk g c = if_all (g.D.Disk.told c.args.self.now.disk) (λ f name content is safe. safe)

pub invariant_of-self : goal.invariant_of-self
invariant_of-self g c = record { walks = c.args.self.now.walks; sure = c.args.self.now.sure }

pub invariant_of-self-2 : goal.invariant_of-self-2
invariant_of-self-2 g c =
    let told = g.D.Disk.told in
    let left = g.D.Disk.may_leave in
    let s = c.args.self.now in
    let b = c.piece_of-found.new.disk in
    record {
      walks = walks_out (told b) s.walk (walk_kept (told s.disk) (told b) s.walk {P = KeepsObjects (left s.disk) (left b)} (λ o n p q is. p.same q is) (walks_in (told s.disk) s.walk s.walks) c.piece_of-found.ensures.keeps);
      sure = sure_out (told b) s.is_lost (left b) (sure_still (told s.disk) (told b) s.is_lost (left s.disk) (left b) (sure_in (told s.disk) s.is_lost (left s.disk) s.sure c.if-self.false) c.piece_of-found.ensures.keeps);
    }

pub returns-clause-step : goal.returns-clause-step
returns-clause-step g c =
    let told = g.D.Disk.told in
    let left = g.D.Disk.may_leave in
    let crashed = g.D.Disk.crashed in
    let a = c.args.self.now.disk in
    let b = c.piece_of-found.new.disk in
    subst (λ (l : Bool). AfterLanding (state_in (told a) l (crashed a)) (state_in (told b) l (crashed b)) (Gets c.args.key.now c.args.from c.args.len c.answer_get-answer.result)) (sym c.if-self.false)
    (subst (λ (r : Result Piece GetError). AfterLanding (state_in (told a) false (crashed a)) (state_in (told b) false (crashed b)) (Gets c.args.key.now c.args.from c.args.len r)) (sym c.answer_get-answer.ensures.answer)
    (gets_answer (told a) (told b) (crashed a) (crashed b) c.args.key.now c.args.from c.args.len c.piece_of-found.result (left a) (left b) c.piece_of-found.ensures.object c.piece_of-found.ensures.keeps c.piece_of-found.ensures.finds))

pub returns-clause-bound : goal.returns-clause-bound
returns-clause-bound g c = subst (λ (r : Result Piece GetError). IfOk r (λ piece. length piece.bytes ≤ c.args.len)) (sym c.answer_get-answer.ensures.answer) (piece_bound c.args.len c.piece_of-found.result c.piece_of-found.ensures.bound)

pub returns-clause-disk : goal.returns-clause-disk
returns-clause-disk g c =
    let told = g.D.Disk.told in
    let left = g.D.Disk.may_leave in
    let a = c.args.self.now.disk in
    let b = c.piece_of-found.new.disk in
    if_kept (told a) (told b) (left a) (left b) c.piece_of-found.ensures.keeps
