use Rattle.std.proofs.Common.{◌≡◌, ◌∙◌, ◌++◌, ◌∷◌, [], List, ℕ, ap, sym, subst, String, Global, Some}
use Rattle.std.specs.Prelude.{Contains, string_bytes, slice_get}
use Rattle.std.specs.List.{AllZip}
use Rattle.std.proofs.lemmas.List.{nil_from_length}
use Rattle.fast_fields.specs.Texts.{texts_in}
use Rattle.split_build.specs.HeldColumns.{IsPlaceOf, texts_of}
use Rattle.split_build.proofs.CellLemmas.{contains_next}
use Rattle.split_build.proofs.OnWay.{begin, go_on, arrive}
use Rattle.split_build.proofs.Zipped.{zip_push}
use Rattle.split_build.proofs.column_texts.ordinals_of.Goals as goal

pub loop-name-init : goal.loop-name-init
loop-name-init c =
    begin (λ (ts : List (List ℕ)). AllZip (IsPlaceOf (texts_in c.args.texts.now)) ts c.new-ordinals.result.items) [] (texts_of c.args.names.now)
    (subst (λ (os : List ℕ). AllZip (IsPlaceOf (texts_in c.args.texts.now)) [] os) (sym c.new-ordinals.ensures.items) tt)

pub ordinal-requires-clause-among : goal.ordinal-requires-clause-among
ordinal-requires-clause-among c =
    let inv = c.loop-name.invariant in
    let whole : inv.done ++ (string_bytes c.in-Some.name.now ∷ texts_of c.in-Some.behind.now) ≡ texts_of c.args.names.now = ap (λ (l : List (String Global)). inv.done ++ texts_of l) (sym c.in-Some.ensures.cases.0) ∙ inv.whole_is in
    subst (λ (t : List ℕ). Contains (texts_in c.args.texts.now) t) (sym c.as_str.ensures.value)
    (c.requires.among (string_bytes c.in-Some.name.now) (contains_next inv.done (string_bytes c.in-Some.name.now) (texts_of c.in-Some.behind.now) (texts_of c.args.names.now) whole))

pub loop-name-preserved : goal.loop-name-preserved
loop-name-preserved c =
    let place : slice_get (texts_in c.args.texts.now) c.ordinal.result ≡ Some (string_bytes c.in-Some.name.now) = c.ordinal.ensures ∙ ap (λ (t : List ℕ). Some t) c.as_str.ensures.value in
    go_on (λ (ts : List (List ℕ)). AllZip (IsPlaceOf (texts_in c.args.texts.now)) ts c.loop-name.ordinals.items) (λ (ts : List (List ℕ)). AllZip (IsPlaceOf (texts_in c.args.texts.now)) ts c.push.new.self.items)
    (texts_of c.loop-name.rest.now) (string_bytes c.in-Some.name.now ∷ []) (texts_of c.in-Some.behind.now) (texts_of c.args.names.now) (ap (λ (l : List (String Global)). texts_of l) c.in-Some.ensures.cases.0)
    (λ ts h. subst (λ (os : List ℕ). AllZip (IsPlaceOf (texts_in c.args.texts.now)) (ts ++ string_bytes c.in-Some.name.now ∷ []) os) (sym c.in_ok-push.ensures.items)
    (zip_push (IsPlaceOf (texts_in c.args.texts.now)) ts c.loop-name.ordinals.items (string_bytes c.in-Some.name.now) c.ordinal.result h place))
    c.loop-name.invariant

pub returns : goal.returns
returns c =
    arrive (λ (ts : List (List ℕ)). AllZip (IsPlaceOf (texts_in c.args.texts.now)) ts c.loop-name.ordinals.items) (texts_of c.loop-name.rest.now) (texts_of c.args.names.now)
    (ap (λ (l : List (String Global)). texts_of l) (nil_from_length c.loop-name.rest.now c.in_default.ensures.cases)) c.loop-name.invariant
