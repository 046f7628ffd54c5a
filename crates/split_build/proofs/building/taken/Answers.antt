use Rattle.std.proofs.Common.{◌≡◌, ◌∙◌, ◌++◌, ◌∷◌, [], List, ap, sym, subst, append_assoc}
use Rattle.std.specs.List.{AllByRecursion}
use Rattle.std.proofs.lemmas.List.{nil_from_length}
use Rattle.doc_value.specs.Documents.{IsOfSchema}
use Rattle.split_bundle.specs.declared.placed.Placed.{Placed}
use Rattle.split_build.specs.Builders.{HasTaken}
use Rattle.split_build.proofs.OnWay.{begin, go_on, arrive}
use Rattle.split_build.proofs.BuilderLemmas.{all_behind}
use Rattle.split_build.proofs.building.taken.Goals as goal

pub loop-placed-init : goal.loop-placed-init
loop-placed-init c = begin (HasTaken c.in_ok-builder.builder c.args.schema.now) [] c.args.documents.now c.in_ok-builder.ensures

pub add-requires : goal.add-requires
add-requires c =
    let inv = c.loop-placed.invariant in
    let whole : inv.done ++ (c.in-Some.placed.now ∷ c.in-Some.behind.now) ≡ c.args.documents.now = ap (λ (xs : List Placed). inv.done ++ xs) (sym c.in-Some.ensures.cases.0) ∙ inv.whole_is in
    let all = all_behind (λ (d : Placed). IsOfSchema c.args.schema.now d.doc) inv.done (c.in-Some.placed.now ∷ c.in-Some.behind.now)
    (subst (λ (xs : List Placed). AllByRecursion (λ (d : Placed). IsOfSchema c.args.schema.now d.doc) xs) (sym whole) c.requires.documents) in
    ∣ (c.args.schema.now, inv.done, inv.holds, all.0) ∣₁

pub loop-placed-preserved : goal.loop-placed-preserved
loop-placed-preserved c =
    let inv = c.loop-placed.invariant in
    let whole : inv.done ++ (c.in-Some.placed.now ∷ c.in-Some.behind.now) ≡ c.args.documents.now = ap (λ (xs : List Placed). inv.done ++ xs) (sym c.in-Some.ensures.cases.0) ∙ inv.whole_is in
    let all = all_behind (λ (d : Placed). IsOfSchema c.args.schema.now d.doc) inv.done (c.in-Some.placed.now ∷ c.in-Some.behind.now)
    (subst (λ (xs : List Placed). AllByRecursion (λ (d : Placed). IsOfSchema c.args.schema.now d.doc) xs) (sym whole) c.requires.documents) in
    go_on (HasTaken c.loop-placed.builder c.args.schema.now) (HasTaken c.add.new.self c.args.schema.now) c.loop-placed.rest.now (c.in-Some.placed.now ∷ []) c.in-Some.behind.now c.args.documents.now c.in-Some.ensures.cases.0
    (λ done h. c.in-Ok.ensures c.args.schema.now done h all.0) inv

pub returns : goal.returns
returns c = arrive (HasTaken c.loop-placed.builder c.args.schema.now) c.loop-placed.rest.now c.args.documents.now (nil_from_length c.loop-placed.rest.now c.in_default.ensures.cases) c.loop-placed.invariant

pub returns-in-Err : goal.returns-in-Err
returns-in-Err c =
    let inv = c.loop-placed.invariant in
    let whole : inv.done ++ (c.in-Some.placed.now ∷ c.in-Some.behind.now) ≡ c.args.documents.now = ap (λ (xs : List Placed). inv.done ++ xs) (sym c.in-Some.ensures.cases.0) ∙ inv.whole_is in
    let all = all_behind (λ (d : Placed). IsOfSchema c.args.schema.now d.doc) inv.done (c.in-Some.placed.now ∷ c.in-Some.behind.now)
    (subst (λ (xs : List Placed). AllByRecursion (λ (d : Placed). IsOfSchema c.args.schema.now d.doc) xs) (sym whole) c.requires.documents) in
    c.refusal_of.ensures (inv.done ++ c.in-Some.placed.now ∷ []) c.in-Some.behind.now (append_assoc inv.done (c.in-Some.placed.now ∷ []) c.in-Some.behind.now ∙ whole) (c.in-Err.ensures c.args.schema.now inv.done inv.holds all.0).0
