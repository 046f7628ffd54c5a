use Rattle.std.proofs.Common.{◌≡◌, ◌∙◌, Ok, Bool, subst, arith}
use Rattle.std.specs.Option.{option_copied}
use Rattle.object_store.specs.Store.{WhereTold, LandsThen, Lists}
use Rattle.object_store.proofs.Told.{told_map, told_then}
use Rattle.std.proofs.lemmas.Bool.{ltb-true}
use Rattle.meta_journal.specs.Places.{meta_prefix}
use Rattle.meta_journal.specs.Loading.{last_key, IsOther, HasGap, IsOtherKey, LooksBehind, Pages}
use Rattle.meta_journal.proofs.Pages.{page_listed, other_listed, gap_looked, gap_page}
use Rattle.meta_journal.proofs.loading.list_page.Goals as goal

pub returns-in-Ok-judge-clause-pages : goal.returns-in-Ok-judge-clause-pages
returns-in-Ok-judge-clause-pages g c =
    let after : option_copied c.as_ref.result ≡ last_key c.args.start = c.as_ref.ensures.value ∙ c.last_key-last.ensures in
    let step : WhereTold (g.S.ObjectStore.told c.args.store.now) (g.S.ObjectStore.told c.list.new.self) (LandsThen (Lists meta_prefix (last_key c.args.start) 1000 (Ok c.in-Ok.keys))) =
    rw (c.meta_prefix-prefix.ensures, after) at c.in-Ok.ensures.step in
    let judged = rw c.as_slice.ensures at c.in-Ok-judge.ensures in
    told_map _ _ (λ o n h. page_listed c.args.start c.in-Ok.keys o n h _ judged.0 judged.1 (λ e. let few = ltb-true _ _ e in omega arith)) step

pub returns-in-Ok-clause-pages : goal.returns-in-Ok-clause-pages
returns-in-Ok-clause-pages g c =
    let after : option_copied c.as_ref.result ≡ last_key c.args.start = c.as_ref.ensures.value ∙ c.last_key-last.ensures in
    let step : WhereTold (g.S.ObjectStore.told c.args.store.now) (g.S.ObjectStore.told c.list.new.self) (LandsThen (Lists meta_prefix (last_key c.args.start) 1000 (Ok c.in-Ok.keys))) =
    rw (c.meta_prefix-prefix.ensures, after) at c.in-Ok.ensures.step in
    let other : IsOtherKey c.in-Ok.keys c.args.start c.in-Err.other.key =
    subst (λ (b : Bool). IsOther c.in-Ok.keys c.args.start c.in-Err.other.number c.in-Err.other.key b) c.if-other.false (rw c.as_slice.ensures at c.in-Err.ensures) in
    told_map _ _ (λ o n h. other_listed c.args.start c.in-Ok.keys o n h c.in-Err.other.key other) step

pub returns-then-other-clause-pages : goal.returns-then-other-clause-pages
returns-then-other-clause-pages g c =
    let after : option_copied c.as_ref.result ≡ last_key c.args.start = c.as_ref.ensures.value ∙ c.last_key-last.ensures in
    let step : WhereTold (g.S.ObjectStore.told c.args.store.now) (g.S.ObjectStore.told c.list.new.self) (LandsThen (Lists meta_prefix (last_key c.args.start) 1000 (Ok c.in-Ok.keys))) =
    rw (c.meta_prefix-prefix.ensures, after) at c.in-Ok.ensures.step in
    let gap : HasGap c.in-Ok.keys c.args.start c.in-Err.other.number c.in-Err.other.key =
    subst (λ (b : Bool). IsOther c.in-Ok.keys c.args.start c.in-Err.other.number c.in-Err.other.key b) c.if-other.true (rw c.as_slice.ensures at c.in-Err.ensures) in
    told_then (g.S.ObjectStore.told c.args.store.now) (g.S.ObjectStore.told c.list.new.self) (g.S.ObjectStore.told c.look_behind.new.store) {P = LandsThen (Lists meta_prefix (last_key c.args.start) 1000 (Ok c.in-Ok.keys))}
    {Q = LooksBehind c.in-Err.other.number c.in-Err.other.key c.look_behind.result} {R = Pages c.args.start c.look_behind.result}
    (λ o m s h k. gap_looked c.args.start c.in-Ok.keys o m h c.in-Err.other.number c.in-Err.other.key gap c.look_behind.result s k) step c.look_behind.ensures.looks

pub returns-then-other-clause-page : goal.returns-then-other-clause-page
returns-then-other-clause-page g c =
    let gap : HasGap c.in-Ok.keys c.args.start c.in-Err.other.number c.in-Err.other.key =
    subst (λ (b : Bool). IsOther c.in-Ok.keys c.args.start c.in-Err.other.number c.in-Err.other.key b) c.if-other.true (rw c.as_slice.ensures at c.in-Err.ensures) in
    gap_page c.in-Ok.keys c.args.start c.in-Err.other.number c.in-Err.other.key gap c.look_behind.result c.look_behind.ensures.page
