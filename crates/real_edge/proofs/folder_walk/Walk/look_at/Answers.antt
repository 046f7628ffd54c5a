use Rattle.std.proofs.Common.{◌≡◌, ◌≤◌, ◌+◌, ℕ, Bool, List, [], ◌∷◌, ◌++◌, length, ap, subst, ◌∙◌, arith}
use Rattle.std.specs.Prelude.{IfSome}
use Rattle.std.proofs.lemmas.List.{length-append}
use Rattle.real_edge.specs.Walk.{Gives}
use Rattle.real_edge.proofs.Meetings.{goes_given, goes_passed}
use Rattle.real_edge.proofs.folder_walk.Walk.look_at.Goals as goal

pub returns-then-not-given-clause-goes : goal.returns-then-not-given-clause-goes
returns-then-not-given-clause-goes g c =
    let told = g.D.Disk.told c.args.disk.now in
    let key = c.args.next.now.key in
    goes_passed told c.args.self.now c.take.new.self key c.args.keys.now c.take.ensures.prefix
    (subst (λ (b : Bool). IfSome told (Gives b key c.args.self.now c.take.new.self)) c.if-not-given.true c.in_ok-given.ensures.gives)

pub returns-in-Ok-clause-len : goal.returns-in-Ok-clause-len
returns-in-Ok-clause-len g c = omega (arith, ap (λ (l : List (List ℕ)). length l) c.in-Ok.ensures.ok ∙ length-append c.args.keys.now (c.args.next.now.key ∷ []))

pub returns-in-Ok-clause-goes : goal.returns-in-Ok-clause-goes
returns-in-Ok-clause-goes g c =
    let told = g.D.Disk.told c.args.disk.now in
    let key = c.args.next.now.key in
    goes_given told c.args.self.now c.take.new.self key c.args.keys.now c.push.new.self c.in-Ok.ensures.ok
    (subst (λ (b : Bool). IfSome told (Gives b key c.args.self.now c.take.new.self)) c.if-not-given.false c.in_ok-given.ensures.gives)

pub returns-in-Err-clause-len : goal.returns-in-Err-clause-len
returns-in-Err-clause-len g c = omega (arith, ap (λ (l : List (List ℕ)). length l) c.in-Err.ensures.err)
