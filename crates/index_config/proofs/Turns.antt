-- One more member of a list, in a loop that puts something behind a list for each.
use Rattle.std.proofs.Common.{◌≡◌, ℕ, suc, ◌+◌, ◌<◌, List, ◌++◌, append_assoc, drop, length, get_or, sym, ap, ◌∙◌, arith}
use Rattle.toml.specs.Data.{Data, Items, item}
use Rattle.toml.specs.View.{view, items_view}
use Rattle.toml.specs.declared.value.Value.{Value}
use Rattle.toml.proofs.Views.{items_view-drop}

pub turn : {A : Type 0} (each : ℕ → Items → List A) (part : Data → List A) (values : List Value) (i : ℕ) (value : Value) (old new end : List A)
    → ((d : Data) (ds : Items) → each i (item d ds) ≡ part d ++ each (suc i) ds) → i < length values → value ≡ get_or values i value
    → new ≡ old ++ part (view value) → old ++ each i (items_view (drop i values)) ≡ end → new ++ each (i + 1) (items_view (drop (i + 1) values)) ≡ end
turn each part values i value old new end opens l at n h =
    let rest = items_view (drop (i + 1) values) in
    let after : i + 1 ≡ suc i = omega arith in
    let opened : each i (items_view (drop i values)) ≡ part (view value) ++ each (suc i) rest =
    ap (each i) (items_view-drop values i value l) ∙ opens _ _ ∙ ap (λ x. part (view x) ++ each (suc i) rest) (sym at) in
    ap (λ k. new ++ each k rest) after ∙ ap (λ x. x ++ each (suc i) rest) n ∙ append_assoc old (part (view value)) (each (suc i) rest) ∙ ap (λ x. old ++ x) (sym opened) ∙ h
