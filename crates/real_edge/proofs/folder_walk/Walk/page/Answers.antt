use Rattle.std.proofs.Common.{◌≡◌, ◌≤◌, ℕ, Bool, List, ◌++◌, length, Option, sym, subst, arith}
use Rattle.std.specs.Prelude.{IfSome}
use Rattle.real_edge.specs.Disk.{Files}
use Rattle.real_edge.specs.Walk.{IsCovering, Goes, left_of}
use Rattle.real_edge.proofs.Wheres.{leaves_all, leaves_then, if_left}
use Rattle.real_edge.proofs.Meetings.{page_begun, page_full, page_ended, page_goes, page_covers, page_covered}
use Rattle.real_edge.proofs.folder_walk.Walk.page.Goals as goal

pub loop-init : goal.loop-init
loop-init g c = record {
  leaves = leaves_all (g.D.Disk.told c.args.disk.now) (g.D.Disk.may_leave c.args.disk.now) (g.D.Disk.has_way c.args.disk.now);
  bound = rw c.vacant-keys.ensures (omega arith);
  so_far = subst (λ (keys : List (List ℕ)). IfSome (g.D.Disk.told c.args.disk.now) (λ f. (left_of c.args.self.now f ≡ keys ++ left_of c.args.self.now f) × IsCovering c.args.self.now f)) (sym c.vacant-keys.ensures)
      (page_begun (g.D.Disk.told c.args.disk.now) c.args.self.now c.requires);
}

pub returns-then-len-max-clause-keys : goal.returns-then-len-max-clause-keys
returns-then-len-max-clause-keys g c =
    page_full (g.D.Disk.told c.args.disk.now) c.args.self.now c.loop.self c.loop.keys c.args.max (omega (arith, c.loop.invariant.bound, c.if-len-max.true, c.len.ensures)) c.loop.invariant.so_far

pub returns-then-len-max-clause-covers : goal.returns-then-len-max-clause-covers
returns-then-len-max-clause-covers g c = page_covered (g.D.Disk.told c.args.disk.now) c.args.self.now c.loop.self c.loop.keys c.loop.invariant.so_far

pub step-requires : goal.step-requires
step-requires g c =
    let told = g.D.Disk.told in
    if_left (told c.args.disk.now) (told c.loop.disk) (IsCovering c.loop.self) c.loop.invariant.leaves.same (page_covered (told c.args.disk.now) c.args.self.now c.loop.self c.loop.keys c.loop.invariant.so_far)

pub returns-in_err-more-clause-leaves : goal.returns-in_err-more-clause-leaves
returns-in_err-more-clause-leaves g c =
    let told = g.D.Disk.told in
    let left = g.D.Disk.may_leave in
    let way = g.D.Disk.has_way in
    let a = c.args.disk.now in
    let b = c.loop.disk in
    let d = c.step.new.disk in
    leaves_then (told a) (told b) (told d) (left a) (left b) (left d) (way a) (way b) (way d) c.loop.invariant.leaves c.step.ensures.leaves

pub returns-then-not-more-clause-leaves : goal.returns-then-not-more-clause-leaves
returns-then-not-more-clause-leaves g c =
    let told = g.D.Disk.told in
    let left = g.D.Disk.may_leave in
    let way = g.D.Disk.has_way in
    let a = c.args.disk.now in
    let b = c.loop.disk in
    let d = c.step.new.disk in
    leaves_then (told a) (told b) (told d) (left a) (left b) (left d) (way a) (way b) (way d) c.loop.invariant.leaves c.step.ensures.leaves

pub returns-then-not-more-clause-bound : goal.returns-then-not-more-clause-bound
returns-then-not-more-clause-bound g c = omega (arith, c.step.ensures.len, c.if-len-max.false, c.len.ensures)

pub returns-then-not-more-clause-keys : goal.returns-then-not-more-clause-keys
returns-then-not-more-clause-keys g c =
    let told = g.D.Disk.told c.args.disk.now in
    let start = c.args.self.now in
    let mid = c.loop.self in
    let new = c.step.new.self in
    let keys = c.loop.keys in
    let more = c.step.new.keys in
    let goes = subst (λ (b : Bool). IfSome told (Goes b keys more mid new)) c.if-not-more.true (subst (λ (x : Option Files). IfSome x (Goes c.in_ok-more.more keys more mid new)) c.loop.invariant.leaves.same c.in_ok-more.ensures.goes) in
    page_ended told start mid new keys more c.args.max c.loop.invariant.bound c.loop.invariant.so_far goes

pub returns-then-not-more-clause-covers : goal.returns-then-not-more-clause-covers
returns-then-not-more-clause-covers g c =
    let told = g.D.Disk.told c.args.disk.now in
    let start = c.args.self.now in
    let mid = c.loop.self in
    let new = c.step.new.self in
    let keys = c.loop.keys in
    let more = c.step.new.keys in
    let goes = subst (λ (b : Bool). IfSome told (Goes b keys more mid new)) c.if-not-more.true (subst (λ (x : Option Files). IfSome x (Goes c.in_ok-more.more keys more mid new)) c.loop.invariant.leaves.same c.in_ok-more.ensures.goes) in
    page_covers told keys more mid new goes

pub loop-preserved : goal.loop-preserved
loop-preserved g c =
    let told = g.D.Disk.told c.args.disk.now in
    let start = c.args.self.now in
    let mid = c.loop.self in
    let new = c.step.new.self in
    let keys = c.loop.keys in
    let more = c.step.new.keys in
    let goes = subst (λ (b : Bool). IfSome told (Goes b keys more mid new)) c.if-not-more.false (subst (λ (x : Option Files). IfSome x (Goes c.in_ok-more.more keys more mid new)) c.loop.invariant.leaves.same c.in_ok-more.ensures.goes) in
    record {
      leaves = (let told = g.D.Disk.told in
          let left = g.D.Disk.may_leave in
          let way = g.D.Disk.has_way in
          leaves_then (told c.args.disk.now) (told c.loop.disk) (told c.step.new.disk) (left c.args.disk.now) (left c.loop.disk) (left c.step.new.disk) (way c.args.disk.now) (way c.loop.disk) (way c.step.new.disk)
          c.loop.invariant.leaves c.step.ensures.leaves);
      bound = omega (arith, c.step.ensures.len, c.if-len-max.false, c.len.ensures);
      so_far = page_goes told start mid new keys more c.loop.invariant.so_far goes;
    }
