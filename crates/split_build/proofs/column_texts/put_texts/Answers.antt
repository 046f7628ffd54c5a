use Rattle.std.proofs.Common.{◌≡◌, ◌∙◌, ◌<◌, ◌^◌, List, ℕ, ap, sym, subst, map, length, arith, String, Global}
use Rattle.std.proofs.Math.Logic.{∥∥₁_elim}
use Rattle.std.specs.Prelude.{Contains, IsUtf8}
use Rattle.std.specs.List.{AllByRecursion, AllZip}
use Rattle.std.specs.Borrow.{Bor}
use Rattle.std.proofs.lemmas.List.{length-map}
use Rattle.fast_fields.specs.Columns.{Fits, IsSpelled, SomeText, TextsRise, has_texts}
use Rattle.fast_fields.specs.Texts.{texts_in}
use Rattle.fast_fields.specs.declared.entries.Entry.{Entry}
use Rattle.split_build.specs.HeldColumns.{IsPlaceOf, renumbered, texts_of}
use Rattle.split_build.proofs.CellLemmas.{fit_again, numbers_within, put_texted}
use Rattle.split_build.proofs.Mere.{all_prop, fits_prop, lt_prop, texts_prop}
use Rattle.split_build.proofs.column_texts.put_texts.Goals as goal

pub ordinals_of-requires-clause-rise : goal.ordinals_of-requires-clause-rise
ordinals_of-requires-clause-rise c = ∥∥₁_elim c.requires.can (texts_prop _) (λ r.
    let are = c.in_ok-texts.ensures.texts r.0 (subst (λ (l : List (String Global)). AllByRecursion (SomeText r.0) (texts_of l)) (sym c.as_slice-names.ensures.keys) r.1.cells_are.used)
    (subst (λ (l : List (String Global)). AllByRecursion IsUtf8 (texts_of l)) (sym c.as_slice-names.ensures.keys) r.1.cells_are.utf8) in
    subst (λ (l : List (Bor (List ℕ))). TextsRise (texts_in l)) (sym c.deref.ensures.value) are.rise)

pub ordinals_of-requires-clause-among : goal.ordinals_of-requires-clause-among
ordinals_of-requires-clause-among c t h = subst (λ (l : List (Bor (List ℕ))). Contains (texts_in l) t) (sym c.deref.ensures.value) (c.in_ok-texts.ensures.each t h)

pub renumbered_of-requires : goal.renumbered_of-requires
renumbered_of-requires c =
    let zip : AllZip (IsPlaceOf (texts_in c.in_ok-texts.texts.items)) (texts_of c.args.log.now.texts.keys) c.in_ok-ordinals.ordinals.items =
    subst (λ (l : List (String Global)). AllZip (IsPlaceOf (texts_in c.in_ok-texts.texts.items)) (texts_of l) c.in_ok-ordinals.ordinals.items) c.as_slice-names.ensures.keys
    (subst (λ (l : List (Bor (List ℕ))). AllZip (IsPlaceOf (texts_in l)) (texts_of c.as_slice-names.result.now) c.in_ok-ordinals.ordinals.items) c.deref.ensures.value c.in_ok-ordinals.ensures) in
    let within = ∥∥₁_elim c.requires.can (all_prop (λ (e : Entry). e.number < length c.in_ok-ordinals.ordinals.items) (λ e. lt_prop e.number (length c.in_ok-ordinals.ordinals.items)) c.args.log.now.entries.items)
    (λ r. numbers_within c.args.field.now.kind (texts_in c.in_ok-texts.texts.items) c.args.log.now c.in_ok-ordinals.ordinals.items r.0 c.requires.texted r.1 zip) in
    subst (λ (es : List Entry). AllByRecursion (λ (e : Entry). e.number < length c.deref-3.result.now) es) (sym c.deref-2.ensures.value)
    (subst (λ (os : List ℕ). AllByRecursion (λ (e : Entry). e.number < length os) c.args.log.now.entries.items) (sym c.deref-3.ensures.value) within)

pub put_column-requires : goal.put_column-requires
put_column-requires c =
    let again : c.in_ok-entries.entries.items ≡ map (renumbered c.in_ok-ordinals.ordinals.items) c.args.log.now.entries.items =
    c.in_ok-entries.ensures.again ∙ ap (λ (es : List Entry). map (renumbered c.deref-3.result.now) es) c.deref-2.ensures.value ∙ ap (λ (os : List ℕ). map (renumbered os) c.args.log.now.entries.items) c.deref-3.ensures.value in
    subst (λ (es : List Entry). Fits es) (sym c.deref-5.ensures.value)
    (∥∥₁_elim c.requires.can (fits_prop c.in_ok-entries.entries.items)
    (λ r. fit_again c.args.log.now c.args.field.now.kind r.0 c.in_ok-ordinals.ordinals.items c.in_ok-entries.entries.items r.1 again c.in_ok-entries.ensures.small))

pub returns : goal.returns
returns c = λ cs can.
    let are = c.in_ok-texts.ensures.texts cs (subst (λ (l : List (String Global)). AllByRecursion (SomeText cs) (texts_of l)) (sym c.as_slice-names.ensures.keys) can.cells_are.used)
    (subst (λ (l : List (String Global)). AllByRecursion IsUtf8 (texts_of l)) (sym c.as_slice-names.ensures.keys) can.cells_are.utf8) in
    let zip : AllZip (IsPlaceOf (texts_in c.in_ok-texts.texts.items)) (texts_of c.args.log.now.texts.keys) c.in_ok-ordinals.ordinals.items =
    subst (λ (l : List (String Global)). AllZip (IsPlaceOf (texts_in c.in_ok-texts.texts.items)) (texts_of l) c.in_ok-ordinals.ordinals.items) c.as_slice-names.ensures.keys
    (subst (λ (l : List (Bor (List ℕ))). AllZip (IsPlaceOf (texts_in l)) (texts_of c.as_slice-names.result.now) c.in_ok-ordinals.ordinals.items) c.deref.ensures.value c.in_ok-ordinals.ensures) in
    let again : c.in_ok-entries.entries.items ≡ map (renumbered c.in_ok-ordinals.ordinals.items) c.args.log.now.entries.items =
    c.in_ok-entries.ensures.again ∙ ap (λ (es : List Entry). map (renumbered c.deref-3.result.now) es) c.deref-2.ensures.value ∙ ap (λ (os : List ℕ). map (renumbered os) c.args.log.now.entries.items) c.deref-3.ensures.value in
    let fits = fit_again c.args.log.now c.args.field.now.kind cs c.in_ok-ordinals.ordinals.items c.in_ok-entries.entries.items can again c.in_ok-entries.ensures.small in
    let few : length (texts_in c.in_ok-texts.texts.items) < 2 ^ 64 =
    omega (arith, length-map c.in_ok-texts.texts.items (λ (b : Bor (List ℕ)). b.now), c.in_ok-texts.texts.ok.0, c.in_ok-texts.texts.small) in
    let put = c.in_ok-put_column.ensures in
    put_texted c.args.field.now.kind c.args.log.now cs (texts_in c.in_ok-texts.texts.items) c.in_ok-ordinals.ordinals.items c.in_ok-entries.entries.items c.args.out.now.items c.put_column.new.area.items put.0 c.requires.texted can are few zip again fits put.1
    (subst (λ (es : List Entry). IsSpelled (has_texts c.args.field.now.kind) (texts_in c.in_ok-texts.texts.items) es put.0) c.deref-5.ensures.value
    (subst (λ (l : List (Bor (List ℕ))). IsSpelled (has_texts c.args.field.now.kind) (texts_in l) c.deref-5.result.now put.0) c.deref-4.ensures.value put.2))
