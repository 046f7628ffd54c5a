use Rattle.std.proofs.Common.{◌≡◌, ◌∙◌, ◌++◌, ℕ, List, sym, ap, subst}
use Rattle.std.specs.Prelude.{Contains, IfSome}
use Rattle.real_edge.specs.declared.waiting.Wait.{Wait}
use Rattle.real_edge.specs.Folders.{folder_key}
use Rattle.real_edge.specs.Disk.{Names}
use Rattle.real_edge.specs.Walk.{Covers, CoversWith, Meets}
use Rattle.real_edge.proofs.Wheres.{if_both}
use Rattle.real_edge.proofs.Walks.{read_covers}
use Rattle.real_edge.proofs.folder_walk.Walk.read_folder.Goals as goal

pub returns-clause-covers : goal.returns-clause-covers
returns-clause-covers g c =
    let told = g.D.Disk.told c.args.disk.now in
    let prefix = c.args.self.now.prefix in
    let after = c.args.self.now.after in
    let old = c.args.self.now.waiting in
    let new = c.put_all.new.self in
    let key = c.name-name.result.now in
    let found = c.in_ok-found.found in
    let e : key ≡ folder_key c.args.folder = c.name-name.ensures ∙ ap folder_key c.beginning-read.ensures in
    let meets : (name : List ℕ) → Contains c.in_ok-names.names name → Meets prefix after (key ++ name) found =
    subst (λ (l : List (List ℕ)). (name : List ℕ) → Contains l name → Meets prefix after (key ++ name) found) c.as_slice.ensures c.in_ok-found.ensures in
    let put : (w : Wait) → Contains found w → Contains new w = subst (λ (l : List Wait). (w : Wait) → Contains l w → Contains new w) c.as_slice-2.ensures c.in_ok-put_all.ensures.found in
    if_both told {P = CoversWith prefix after key old} {Q = Names key c.in_ok-names.names} {R = Covers prefix after new} (λ f p q. read_covers prefix after key old found new c.in_ok-names.names f p q meets put c.in_ok-put_all.ensures.rest)
    (subst (λ (k : List ℕ). IfSome told (CoversWith prefix after k old)) (sym e) c.requires) c.in_ok-names.ensures.names
