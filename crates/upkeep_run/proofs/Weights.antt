-- What the documents of a view weigh, one behind the other.
use Rattle.std.proofs.Common.{◌≡◌, ℕ, zero, suc, ◌+◌, ◌≤◌, List, [], ◌∷◌, drop, length, refl, ap, ◌∙◌, arith, Ok, Err, Option, Some, None, Result}
use Rattle.split_bundle.specs.Documents.{total_weight}
use Rattle.split_bundle.specs.declared.placed.Placed.{Placed}
use Rattle.split_bundle.specs.DocReading.{weight_of}
use Rattle.split_bundle.specs.SplitViews.{pieces_of}
use Rattle.split_bundle.specs.declared.split_error.SplitError.{SplitError}
use Rattle.split_bundle.specs.declared.split_view.SplitView.{SplitView}
use Rattle.upkeep_run.specs.Judging.{more, weights_of}

-- so much, and what follows
abbrev pub plus : ℕ → Option ℕ → Option ℕ
plus n None = None
plus n (Some m) = Some (n + m)

pub plus_none : (o : Option ℕ) → plus 0 o ≡ o
plus_none None = refl
plus_none (Some m) = ap Some (omega arith)

one_more : (r : Result ℕ SplitError) (sum w : ℕ) (o : Option ℕ) → r ≡ Ok w → plus sum (more r o) ≡ plus (sum + w) o
one_more r sum w None e = ap (λ x. plus sum (more x None)) e
one_more r sum w (Some m) e = ap (λ x. plus sum (more x (Some m))) e ∙ ap Some (omega arith)

fault_first : (r : Result ℕ SplitError) (e : SplitError) (sum : ℕ) (o : Option ℕ) → r ≡ Err e → plus sum (more r o) ≡ None
fault_first r e sum o is = ap (λ x. plus sum (more x o)) is

pub weights_step : (v : SplitView) (doc left rest sum w : ℕ) → left ≡ suc rest → weight_of v.layout (pieces_of v) doc ≡ Ok w → plus sum (weights_of v doc left) ≡ plus (sum + w) (weights_of v (suc doc) rest)
weights_step v doc left rest sum w e is = ap (λ n. plus sum (weights_of v doc n)) e ∙ one_more (weight_of v.layout (pieces_of v) doc) sum w (weights_of v (suc doc) rest) is

pub weights_fault : (v : SplitView) (doc left rest sum : ℕ) (e : SplitError) → left ≡ suc rest → weight_of v.layout (pieces_of v) doc ≡ Err e → plus sum (weights_of v doc left) ≡ None
weights_fault v doc left rest sum e same is = ap (λ n. plus sum (weights_of v doc n)) same ∙ fault_first (weight_of v.layout (pieces_of v) doc) e sum (weights_of v (suc doc) rest) is

pub weights_end : (v : SplitView) (doc left sum : ℕ) → left ≡ 0 → plus sum (weights_of v doc left) ≡ Some sum
weights_end v doc left sum e = ap (λ n. plus sum (weights_of v doc n)) e ∙ ap Some (omega arith)

pub same_weight : (a b : ℕ) → ◌≡◌ {A = Result ℕ SplitError} (Ok a) (Ok b) → a ≡ b
same_weight a b e = cc

pub no_fault : (e : SplitError) (w : ℕ) → ◌≡◌ {A = Result ℕ SplitError} (Err e) (Ok w) → ⊥
no_fault e w is = cc

-- nothing weighs behind the last document
pub past_all : (documents : List Placed) (n : ℕ) → length documents ≤ n → total_weight (drop n documents) ≡ 0
past_all [] zero le = refl
past_all [] (suc n) le = refl
past_all (d ∷ documents) zero le = absurd (omega (arith, le))
past_all (d ∷ documents) (suc n) le = past_all documents n (omega (arith, le))
