use Rattle.std.proofs.Common.{◌≡◌, ◌<◌, ◌-◌, ℕ, List, [], ◌∷◌, ◌++◌, take, length, Option, true, sym, ap, subst, ◌∙◌, arith}
use Rattle.std.specs.Prelude.{IfSome, OnOk}
use Rattle.std.proofs.lemmas.List.{length-take-le}
use Rattle.real_edge.specs.declared.disk.Standing.{Standing}
use Rattle.real_edge.specs.declared.disk.Standing.TheVariants as standings
use Rattle.real_edge.specs.Disk.{Files, Begins, Looks, NoneWithin}
use Rattle.real_edge.specs.Names.{is_object}
use Rattle.real_edge.specs.Walk.{IsCovering}
use Rattle.real_edge.proofs.Wheres.{leaves_then, if_map}
use Rattle.real_edge.proofs.Walks.{all_begin, prefix_begins, nothing_begins, slash_front, front_begins, object_front, object_from_key, key_from_object}
use Rattle.real_edge.proofs.folder_walk.Walk.begin.Goals as goal

pub read_folder-requires : goal.read_folder-requires
read_folder-requires g c = all_begin (g.D.Disk.told c.args.disk.now) c.args.self.now.prefix c.args.self.now.after c.args.self.now.waiting

pub of-requires : goal.of-requires
of-requires g c =
    let name = c.as_bytes-name.result.now in
    let len = c.folder_len-len.result in
    let some : 0 < len = omega (arith, c.if-len-eq0.false) in
    let some_front : 0 < length (take len name) = omega (arith, some, length-take-le len name c.folder_len-len.ensures.within) in
    key_from_object (take len name) (object_front (take len name) name some_front (front_begins name len) (object_from_key name c.as_bytes-name.ensures.key))

pub read_folder-requires-in-Folder : goal.read_folder-requires-in-Folder
read_folder-requires-in-Folder g c =
    let name = c.as_bytes-name.result.now in
    let len = c.folder_len-len.result in
    let prefix = c.args.self.now.prefix in
    prefix_begins (g.D.Disk.told c.look_along.new.self) prefix c.args.self.now.after c.of.result c.args.self.now.waiting
    (subst (λ (k : List ℕ). Begins k prefix) (sym c.of.ensures) (subst (λ (k : List ℕ). Begins (take len name) k) c.as_bytes-name.ensures.bytes (front_begins name len)))

pub returns-in-Folder-clause-leaves : goal.returns-in-Folder-clause-leaves
returns-in-Folder-clause-leaves g c =
    let told = g.D.Disk.told in
    let left = g.D.Disk.may_leave in
    let way = g.D.Disk.has_way in
    let a = c.args.disk.now in
    let b = c.look_along.new.self in
    let d = c.read_folder-in-Folder.new.disk in
    leaves_then (told a) (told b) (told d) (left a) (left b) (left d) (way a) (way b) (way d) c.look_along.ensures.leaves c.read_folder-in-Folder.ensures.leaves

pub returns-in-Folder-clause-covers : goal.returns-in-Folder-clause-covers
returns-in-Folder-clause-covers g c =
    subst (λ (x : Option Files). OnOk c.read_folder-in-Folder.result (IfSome x (IsCovering c.read_folder-in-Folder.new.self))) c.look_along.ensures.leaves.same c.read_folder-in-Folder.ensures.covers

pub returns-in-PlainFile-clause-covers : goal.returns-in-PlainFile-clause-covers
returns-in-PlainFile-clause-covers g c =
    let told = g.D.Disk.told c.args.disk.now in
    let name = c.as_bytes-name.result.now in
    let len = c.folder_len-len.result in
    let some : 0 < len = omega (arith, c.if-len-eq0.false) in
    let way = take (len - 1) name in
    let parts : take len name ≡ way ++ 47 ∷ [] = slash_front name len some c.folder_len-len.ensures.within (c.folder_len-len.ensures.slash some) in
    let front : Begins (way ++ 47 ∷ []) c.args.self.now.prefix = subst (λ (k : List ℕ). Begins k c.args.self.now.prefix) parts (subst (λ (k : List ℕ). Begins (take len name) k) c.as_bytes-name.ensures.bytes (front_begins name len)) in
    nothing_begins told c.args.self.now.prefix c.args.self.now.after way c.args.self.now.waiting front
    (if_map told {Q = Looks way standings.PlainFile} {R = NoneWithin way} (λ f h. h.1) (subst (λ (s : Standing). IfSome told (Looks way s)) c.in-PlainFile.is c.in_ok-standing.ensures.looks))

pub returns-in-Nothing-clause-covers : goal.returns-in-Nothing-clause-covers
returns-in-Nothing-clause-covers g c =
    let told = g.D.Disk.told c.args.disk.now in
    let name = c.as_bytes-name.result.now in
    let len = c.folder_len-len.result in
    let some : 0 < len = omega (arith, c.if-len-eq0.false) in
    let way = take (len - 1) name in
    let parts : take len name ≡ way ++ 47 ∷ [] = slash_front name len some c.folder_len-len.ensures.within (c.folder_len-len.ensures.slash some) in
    let front : Begins (way ++ 47 ∷ []) c.args.self.now.prefix = subst (λ (k : List ℕ). Begins k c.args.self.now.prefix) parts (subst (λ (k : List ℕ). Begins (take len name) k) c.as_bytes-name.ensures.bytes (front_begins name len)) in
    nothing_begins told c.args.self.now.prefix c.args.self.now.after way c.args.self.now.waiting front
    (if_map told {Q = Looks way standings.Nothing} {R = NoneWithin way} (λ f h. h.1) (subst (λ (s : Standing). IfSome told (Looks way s)) c.in-Nothing.is c.in_ok-standing.ensures.looks))

pub returns-in-Other-clause-covers : goal.returns-in-Other-clause-covers
returns-in-Other-clause-covers g c =
    let told = g.D.Disk.told c.args.disk.now in
    let name = c.as_bytes-name.result.now in
    let len = c.folder_len-len.result in
    let some : 0 < len = omega (arith, c.if-len-eq0.false) in
    let way = take (len - 1) name in
    let parts : take len name ≡ way ++ 47 ∷ [] = slash_front name len some c.folder_len-len.ensures.within (c.folder_len-len.ensures.slash some) in
    let front : Begins (way ++ 47 ∷ []) c.args.self.now.prefix = subst (λ (k : List ℕ). Begins k c.args.self.now.prefix) parts (subst (λ (k : List ℕ). Begins (take len name) k) c.as_bytes-name.ensures.bytes (front_begins name len)) in
    nothing_begins told c.args.self.now.prefix c.args.self.now.after way c.args.self.now.waiting front
    (if_map told {Q = Looks way standings.Other} {R = NoneWithin way} (λ f h. h.1) (subst (λ (s : Standing). IfSome told (Looks way s)) c.in-Other.is c.in_ok-standing.ensures.looks))
