use Rattle.std.proofs.Common.{◌≡◌, ◌∙◌, ◌++◌, List, ℕ, ap, sym, subst, String, Global}
use Rattle.std.specs.Prelude.{All, Contains}
use Rattle.std.specs.Borrow.{Bor}
use Rattle.std.proofs.lemmas.List.{append-nil, nil_from_length}
use Rattle.std.proofs.lemmas.List.Sorted.{All-permutation, Contains-permutation, IsPermutation-map}
use Rattle.fast_fields.specs.Texts.{IsCellText, texts_in}
use Rattle.split_build.specs.HeldColumns.{texts_of}
use Rattle.split_build.proofs.CellLemmas.{name_more, are_cell_texts}
use Rattle.split_build.proofs.column_texts.rising.Goals as goal

pub loop-name-init : goal.loop-name-init
loop-name-init c = ap (λ (l : List (Bor (List ℕ))). texts_in l ++ texts_of c.args.names.now) c.new-all.ensures.items

pub loop-name-preserved : goal.loop-name-preserved
loop-name-preserved c =
    name_more c.loop-name.all.items c.as_str.result c.push.new.self.items c.in-Some.name.now c.loop-name.rest.now c.in-Some.behind.now c.args.names.now c.in_ok-push.ensures.items c.as_str.ensures.value c.in-Some.ensures.cases.0 c.loop-name.invariant

pub returns-clause-texts : goal.returns-clause-texts
returns-clause-texts c = λ cs some utf8.
    let all : texts_in c.loop-name.all.items ≡ texts_of c.args.names.now =
    sym (append-nil (texts_in c.loop-name.all.items)) ∙ ap (λ (l : List (String Global)). texts_in c.loop-name.all.items ++ texts_of l) (sym (nil_from_length c.loop-name.rest.now c.in_default.ensures.cases)) ∙ c.loop-name.invariant in
    let sorted = All-permutation (IsCellText cs) c.loop-name.all.items c.sort.new.self.items c.in_ok-sort.ensures.permutation (are_cell_texts cs c.loop-name.all.items (texts_of c.args.names.now) all some utf8) in
    c.distinct.ensures.texts cs (subst (λ (l : List (Bor (List ℕ))). All (IsCellText cs) l) (sym c.deref.ensures.value) sorted)

pub returns-clause-each : goal.returns-clause-each
returns-clause-each c = λ t h.
    let all : texts_in c.loop-name.all.items ≡ texts_of c.args.names.now =
    sym (append-nil (texts_in c.loop-name.all.items)) ∙ ap (λ (l : List (String Global)). texts_in c.loop-name.all.items ++ texts_of l) (sym (nil_from_length c.loop-name.rest.now c.in_default.ensures.cases)) ∙ c.loop-name.invariant in
    let moved = IsPermutation-map (λ (b : Bor (List ℕ)). b.now) c.loop-name.all.items c.sort.new.self.items c.in_ok-sort.ensures.permutation in
    let there : Contains (texts_in c.sort.new.self.items) t = Contains-permutation (texts_in c.loop-name.all.items) (texts_in c.sort.new.self.items) t moved (subst (λ (l : List (List ℕ)). Contains l t) (sym all) h) in
    c.distinct.ensures.each t (subst (λ (l : List (Bor (List ℕ))). Contains (texts_in l) t) (sym c.deref.ensures.value) there)
