use Rattle.std.proofs.Common.{◌≡◌, ℕ, List, ◌∷◌, subst}
use Rattle.std.specs.Prelude.{IfSome}
use Rattle.object_store.specs.Key.{IsKey}
use Rattle.real_edge.specs.declared.disk.Standing.{Standing}
use Rattle.real_edge.specs.Disk.{Looks}
use Rattle.real_edge.specs.Walk.{Covers, CoversWith}
use Rattle.real_edge.proofs.Wheres.{if_map}
use Rattle.real_edge.proofs.Walks.{with_folder}
use Rattle.real_edge.proofs.Meetings.{take_plain, take_nothing, take_within, take_read}
use Rattle.real_edge.proofs.folder_walk.Walk.take.Goals as goal

pub read_folder-requires : goal.read_folder-requires
read_folder-requires g c =
    let old = c.args.self.now in
    if_map (g.D.Disk.told c.args.disk.now) {Q = Covers old.prefix old.after (c.args.next.now ∷ old.waiting)} {R = CoversWith old.prefix old.after c.args.next.now.key old.waiting} (λ f h. with_folder old.prefix old.after c.args.next.now old.waiting f c.if-next.true h) c.requires.covers

pub returns-then-next-clause-gives : goal.returns-then-next-clause-gives
returns-then-next-clause-gives g c = take_read (g.D.Disk.told c.args.disk.now) c.args.self.now c.read_folder.new.self c.args.next.now.key c.read_folder.ensures.after c.in_ok-read_folder.ensures.covers

pub returns-in-PlainFile-clause-gives : goal.returns-in-PlainFile-clause-gives
returns-in-PlainFile-clause-gives g c =
    let told = g.D.Disk.told c.args.disk.now in
    let old = c.args.self.now in
    let n = c.args.next.now in
    let looks : IfSome told (λ f. Looks n.key c.in_ok-standing.standing f) = subst (λ (k : List ℕ). IfSome told (λ f. Looks k c.in_ok-standing.standing f)) c.as_bytes.ensures.bytes c.in_ok-standing.ensures.looks in
    take_plain told old c.gives.new.self n c.gives.result c.if-next.false (subst IsKey c.as_bytes.ensures.bytes c.as_bytes.ensures.key) c.gives.ensures.sought c.gives.ensures.prefix c.gives.ensures.after c.gives.ensures.waiting
    c.requires.first c.requires.covers (subst (λ (s : Standing). IfSome told (λ f. Looks n.key s f)) c.in-PlainFile.is looks)

pub returns-in_ok-wait_within-in-Folder-clause-gives : goal.returns-in_ok-wait_within-in-Folder-clause-gives
returns-in_ok-wait_within-in-Folder-clause-gives g c =
    let told = g.D.Disk.told c.args.disk.now in
    let old = c.args.self.now in
    let n = c.args.next.now in
    let looks : IfSome told (λ f. Looks n.key c.in_ok-standing.standing f) = subst (λ (k : List ℕ). IfSome told (λ f. Looks k c.in_ok-standing.standing f)) c.as_bytes.ensures.bytes c.in_ok-standing.ensures.looks in
    take_within told old c.wait_within.new.self n c.if-next.false c.wait_within.ensures.prefix c.wait_within.ensures.after c.in_ok-wait_within-in-Folder.ensures.within c.in_ok-wait_within-in-Folder.ensures.rest c.requires.covers
    (subst (λ (s : Standing). IfSome told (λ f. Looks n.key s f)) c.in-Folder.is looks)

pub returns-in-Nothing-clause-gives : goal.returns-in-Nothing-clause-gives
returns-in-Nothing-clause-gives g c =
    let told = g.D.Disk.told c.args.disk.now in
    let n = c.args.next.now in
    let looks : IfSome told (λ f. Looks n.key c.in_ok-standing.standing f) = subst (λ (k : List ℕ). IfSome told (λ f. Looks k c.in_ok-standing.standing f)) c.as_bytes.ensures.bytes c.in_ok-standing.ensures.looks in
    take_nothing told c.args.self.now n c.if-next.false c.requires.covers (subst (λ (s : Standing). IfSome told (λ f. Looks n.key s f)) c.in-Nothing.is looks)

pub returns-in-Other-clause-gives : goal.returns-in-Other-clause-gives
returns-in-Other-clause-gives g c =
    let told = g.D.Disk.told c.args.disk.now in
    let n = c.args.next.now in
    let looks : IfSome told (λ f. Looks n.key c.in_ok-standing.standing f) = subst (λ (k : List ℕ). IfSome told (λ f. Looks k c.in_ok-standing.standing f)) c.as_bytes.ensures.bytes c.in_ok-standing.ensures.looks in
    take_nothing told c.args.self.now n c.if-next.false c.requires.covers (subst (λ (s : Standing). IfSome told (λ f. Looks n.key s f)) c.in-Other.is looks)
