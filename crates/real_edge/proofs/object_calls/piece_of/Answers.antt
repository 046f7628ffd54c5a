use Rattle.std.proofs.Common.{◌≡◌, ℕ, List, true, Option, sym, subst}
use Rattle.real_edge.specs.Names.{is_object}
use Rattle.real_edge.proofs.Walks.{object_from_key}
use Rattle.std.specs.Prelude.{IfOk, IfSome}
use Rattle.real_edge.specs.Disk.{Files, Reads}
use Rattle.real_edge.proofs.Wheres.{where_leaves}
use Rattle.real_edge.proofs.object_calls.piece_of.Goals as goal

pub returns-in_err-begin-clause-keeps : goal.returns-in_err-begin-clause-keeps
returns-in_err-begin-clause-keeps g c = c.begin.ensures

pub returns-clause-keeps : goal.returns-clause-keeps
returns-clause-keeps g c =
    let told = g.D.Disk.told in
    let left = g.D.Disk.may_leave in
    let a = c.args.disk.now in
    let b = c.begin.new.disk in
    let d = c.read.new.self in
    where_leaves (told a) (told b) (told d) (left a) (left b) (left d) c.begin.ensures c.read.ensures.leaves.same c.read.ensures.leaves.left

pub returns-clause-finds : goal.returns-clause-finds
returns-clause-finds g c =
    subst (λ (x : Option Files). IfOk c.read.result (λ found. IfSome x (λ files. Reads c.args.key.now c.args.from c.args.len found files))) (sym c.read.ensures.leaves.same)
    (rw c.as_bytes-name.ensures.bytes at c.read.ensures.finds)

pub returns-clause-bound : goal.returns-clause-bound
returns-clause-bound g c = c.read.ensures.bound

pub returns-in_err-begin-clause-object : goal.returns-in_err-begin-clause-object
returns-in_err-begin-clause-object g c = subst (λ (name : List ℕ). is_object name ≡ true) c.as_bytes-name.ensures.bytes (object_from_key c.as_bytes-name.result.now c.as_bytes-name.ensures.key)

pub returns-clause-object : goal.returns-clause-object
returns-clause-object g c = subst (λ (name : List ℕ). is_object name ≡ true) c.as_bytes-name.ensures.bytes (object_from_key c.as_bytes-name.result.now c.as_bytes-name.ensures.key)
