use Rattle.std.proofs.Common.{◌≡◌, Bool, Option, Ok, Err, sym, subst, refl}
use Rattle.std.specs.Prelude.{IfSome}
use Rattle.std.specs.Option.{option_copied}
use Rattle.object_store.specs.Store.{AfterLanding, Lists}
use Rattle.real_edge.specs.declared.folder_walk.Walk.{Walk}
use Rattle.real_edge.specs.Objects.{state_in}
use Rattle.real_edge.specs.Walk.{IsCovering}
use Rattle.real_edge.proofs.Led.{walks_in, walks_out}
use Rattle.real_edge.proofs.Wheres.{works_not, if_all}
use Rattle.real_edge.proofs.Calls.{lists, unlisted, if_kept, sure_in, sure_out, sure_still}
use Rattle.real_edge.proofs.folder_store.FolderStoreObjectStore.list.Goals as goal

pub returns-then-self-clause-step : goal.returns-then-self-clause-step
returns-then-self-clause-step g c = works_not _ _ (λ s. refl)

pub returns-then-self-clause-disk : goal.returns-then-self-clause-disk
returns-then-self-clause-disk g c = if_all (g.D.Disk.told c.args.self.now.disk) (λ f name content is safe. safe)

pub keys_of-requires : goal.keys_of-requires
keys_of-requires g c =
    let told = g.D.Disk.told c.args.self.now.disk in
    subst (λ (o : Option Walk). IfSome told (λ f. IfSome o (λ w. IsCovering w f))) (sym c.take-walk.ensures.value) (walks_in told c.args.self.now.walk c.args.self.now.walks)

pub invariant_of-self : goal.invariant_of-self
invariant_of-self g c = record { walks = c.args.self.now.walks; sure = c.args.self.now.sure }

pub invariant_of-self-in-Ok : goal.invariant_of-self-in-Ok
invariant_of-self-in-Ok g c =
    let told = g.D.Disk.told in
    let left = g.D.Disk.may_leave in
    let s = c.args.self.now in
    let b = c.keys_of.new.disk in
    record {
      walks = walks_out (told b) c.in-Ok.page.walk c.in-Ok.ensures.covers;
      sure = sure_out (told b) s.is_lost (left b) (sure_still (told s.disk) (told b) s.is_lost (left s.disk) (left b) (sure_in (told s.disk) s.is_lost (left s.disk) s.sure c.if-self.false) c.keys_of.ensures.keeps);
    }

pub returns-in-Ok-clause-step : goal.returns-in-Ok-clause-step
returns-in-Ok-clause-step g c =
    let told = g.D.Disk.told in
    let left = g.D.Disk.may_leave in
    let crashed = g.D.Disk.crashed in
    let a = c.args.self.now.disk in
    let b = c.keys_of.new.disk in
    subst (λ (l : Bool). AfterLanding (state_in (told a) l (crashed a)) (state_in (told b) l (crashed b)) (Lists c.args.prefix.now (option_copied c.args.after) c.args.max (Ok c.in-Ok.page.keys))) (sym c.if-self.false)
    (lists (told a) (told b) (crashed a) (crashed b) c.args.prefix.now (option_copied c.args.after) c.args.max c.in-Ok.page.keys (left a) (left b) c.keys_of.ensures.keeps c.in-Ok.ensures.keys)

pub returns-in-Ok-clause-disk : goal.returns-in-Ok-clause-disk
returns-in-Ok-clause-disk g c =
    let told = g.D.Disk.told in
    let left = g.D.Disk.may_leave in
    let a = c.args.self.now.disk in
    let b = c.keys_of.new.disk in
    if_kept (told a) (told b) (left a) (left b) c.keys_of.ensures.keeps

pub returns-in-Err-clause-step : goal.returns-in-Err-clause-step
returns-in-Err-clause-step g c =
    let told = g.D.Disk.told in
    let left = g.D.Disk.may_leave in
    let crashed = g.D.Disk.crashed in
    let a = c.args.self.now.disk in
    let b = c.keys_of.new.disk in
    subst (λ (l : Bool). AfterLanding (state_in (told a) l (crashed a)) (state_in (told b) l (crashed b)) (Lists c.args.prefix.now (option_copied c.args.after) c.args.max (Err c.answer_list.result))) (sym c.if-self.false)
    (unlisted (told a) (told b) (crashed a) (crashed b) c.args.prefix.now (option_copied c.args.after) c.args.max c.answer_list.result (left a) (left b) c.keys_of.ensures.keeps)

pub returns-in-Err-clause-disk : goal.returns-in-Err-clause-disk
returns-in-Err-clause-disk g c =
    let told = g.D.Disk.told in
    let left = g.D.Disk.may_leave in
    let a = c.args.self.now.disk in
    let b = c.keys_of.new.disk in
    if_kept (told a) (told b) (left a) (left b) c.keys_of.ensures.keeps
