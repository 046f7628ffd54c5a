-- What a schema says of the searches over it.
use Rattle.std.proofs.Common.{◌≡◌, ℕ, ◌<◌, ◌≤◌, Bool, true, false, T, List, [], ◌∷◌, length, Option, Some, None, ◌&&◌, refl, sym, ap₂, subst, arith, slice_get}
use Rattle.std.proofs.Props.{props}
use Rattle.std.proofs.Math.Logic.{∥∥₁_elim}
use Rattle.std.specs.List.{All, list_all}
use Rattle.std.specs.Option.{IfSome, MatchOption}
use Rattle.std.proofs.lemmas.Bool.{and_parts}
use Rattle.std.proofs.lemmas.List.Elements.{All-nil, All-cons, All-head, All-tail}
use Rattle.std.proofs.lemmas.Option.{slice_get_within}
use lib.Signed.{le_z_yes}
use base.Stored.{Coded-set}
use Rattle.doc_value.specs.Documents.{IsDynamic, IsSchema}
use Rattle.doc_value.specs.contracts.schema.Kind as kind_row
use Rattle.doc_value.specs.contracts.schema.Tokenizer as tokenizer_row
use Rattle.doc_value.specs.declared.schema.Field.{Field}
use Rattle.doc_value.specs.declared.schema.Kind.{Kind}
use Rattle.doc_value.specs.declared.schema.Kind.TheVariants as kinds
use Rattle.doc_value.specs.declared.schema.Schema.{Schema}
use Rattle.doc_value.specs.declared.schema.Tokenizer.{Tokenizer}
use Rattle.doc_value.specs.declared.schema.Tokenizer.TheVariants as tokenizers
use Rattle.query_ast.specs.Queries.{HasField}
use Rattle.agg_model.specs.Checking.{has_interval, HasInterval}
use Rattle.agg_model.specs.declared.request.Agg.{Agg}
use Rattle.agg_model.specs.declared.request.Agg.TheVariants.{Terms, Histogram}
use Rattle.agg_nested.specs.Checking.{HasStep, HaveSteps}
use Rattle.agg_nested.specs.declared.request.FlatAgg.{FlatAgg}
use Rattle.agg_nested.specs.declared.request.FlatAgg.TheVariants.{Counted, Metric, Ranges}
use Rattle.agg_nested.specs.declared.request.NamedFlat.{NamedFlat}
use Rattle.agg_nested.specs.declared.request.NestedAgg.{NestedAgg}
use Rattle.search_api.specs.Answerable.{IsAnswerable}
use Rattle.search_api.specs.Resolved.{Search}
use Rattle.search_api.specs.declared.resolved.SortField.{SortField}
use Rattle.root_search.specs.Intervals.{has_step, have_steps}

few_prop : (a b : ℕ) → IsProp (a ≤ b)
few_prop a b = hlevel props

pub few_fields : (s : Schema) → ∥ IsSchema s ∥₁ → length s.fields ≤ 256
few_fields s h = ∥∥₁_elim h (few_prop (length s.fields) 256) (λ x. x.few)

-- ---- the field for what is not mapped

Kind-set : IsSet Kind
Kind-set = Coded-set kind_row.the_row.coded

Tokenizer-set : IsSet Tokenizer
Tokenizer-set = Coded-set tokenizer_row.the_row.coded

unmapped_prop : (o : Option Field) → IsProp (MatchOption o ⊥ (λ f.
    (f.kind ≡ kinds.TextList) × (f.tokenizer ≡ tokenizers.Raw) × (f.indexed ≡ true) × (f.fast ≡ false) × (f.tag ≡ false) × (f.positions ≡ false)))
unmapped_prop None = hlevel props
unmapped_prop (Some f) = hlevel (Kind-set, Tokenizer-set, props)

dynamic_prop : (fields : List Field) (o : Option ℕ) → IsProp (IfSome o (IsDynamic fields))
dynamic_prop fields None = hlevel props
dynamic_prop fields (Some number) = unmapped_prop (slice_get fields number)

pub dynamic_field : (s : Schema) → ∥ IsSchema s ∥₁ → IfSome s.dynamic (IsDynamic s.fields)
dynamic_field s h = ∥∥₁_elim h (dynamic_prop s.fields s.dynamic) (λ x. x.dynamic)

-- ---- the field that is sorted by

there_within : (o : Option Field) (P : Field → Type 0) → MatchOption o ⊥ P → (f : Field) × (o ≡ Some f)
there_within None P h = absurd h
there_within (Some f) P h = (f, refl)

field_within : (s : Schema) (n : ℕ) (P : Field → Type 0) → HasField s n P → n < length s.fields
field_within s n P h = let f = there_within (slice_get s.fields n) P h in slice_get_within s.fields n f.0 f.1

sort_if : (o : Option SortField) (P : SortField → Type 0) (x : SortField) → IfSome o P → o ≡ Some x → P x
sort_if None P x h e = absurd (cc)
sort_if (Some y) P x h e = let same : y ≡ x = cc in subst P same h

pub sort_narrow : (s : Schema) (search : Search) → ∥ IsSchema s ∥₁ → IsAnswerable s search → (x : SortField) → search.sort ≡ Some x → x.field < 4294967296
sort_narrow s search schema h x e =
    let has = sort_if search.sort (λ sort. HasField s sort.field (λ f. f.fast ≡ true)) x h.sort e in
    let within = field_within s x.field (λ f. f.fast ≡ true) has in
    let few = few_fields s schema in
    omega (arith, within, few)

-- ---- the intervals of aggregations

t_true : (b : Bool) → T b → b ≡ true
t_true true t = refl
t_true false t = absurd t

interval_kept : (agg : Agg) → HasInterval agg → has_interval agg ≡ true
interval_kept (Terms field size) h = refl
interval_kept (Histogram field interval offset least dated) h = t_true _ h.le

interval_there : (agg : Agg) → has_interval agg ≡ true → HasInterval agg
interval_there (Terms field size) e = tt
interval_there (Histogram field interval offset least dated) e = le_z_yes (subst T (sym e) tt)

step_kept : (agg : FlatAgg) → HasStep agg → has_step agg ≡ true
step_kept (Counted agg) h = interval_kept agg h
step_kept (Metric kind field) h = refl
step_kept (Ranges field ranges) h = refl

step_there : (agg : FlatAgg) → has_step agg ≡ true → HasStep agg
step_there (Counted agg) e = interval_there agg e
step_there (Metric kind field) e = tt
step_there (Ranges field ranges) e = tt

inner_kept : (nested : List NamedFlat) → All (λ named. HasStep named.agg) nested → list_all (λ named. has_step named.agg) nested ≡ true
inner_kept [] all = refl
inner_kept (named ∷ nested) all =
    ap₂ (λ (a b : Bool). a && b) (step_kept named.agg (All-head (λ (n : NamedFlat). HasStep n.agg) named nested all)) (inner_kept nested (All-tail (λ (n : NamedFlat). HasStep n.agg) named nested all))

inner_there : (nested : List NamedFlat) → list_all (λ named. has_step named.agg) nested ≡ true → All (λ named. HasStep named.agg) nested
inner_there [] e = All-nil (λ (n : NamedFlat). HasStep n.agg)
inner_there (named ∷ nested) e =
    let both = and_parts (has_step named.agg) (list_all (λ n. has_step n.agg) nested) e in
    All-cons (λ (n : NamedFlat). HasStep n.agg) named nested (step_there named.agg both.0) (inner_there nested both.1)

abbrev Steps : NestedAgg → Type 0
Steps asked = HasStep asked.agg × All (λ named. HasStep named.agg) asked.nested

abbrev steps : NestedAgg → Bool
steps asked = has_step asked.agg && list_all (λ named. has_step named.agg) asked.nested

pub intervals_kept : (request : List NestedAgg) → HaveSteps request → have_steps request ≡ true
intervals_kept [] all = refl
intervals_kept (asked ∷ request) all =
    let own = All-head Steps asked request all in
    ap₂ (λ (a b : Bool). a && b) (ap₂ (λ (a b : Bool). a && b) (step_kept asked.agg own.0) (inner_kept asked.nested own.1)) (intervals_kept request (All-tail Steps asked request all))

pub intervals_there : (request : List NestedAgg) → have_steps request ≡ true → HaveSteps request
intervals_there [] e = All-nil Steps
intervals_there (asked ∷ request) e =
    let both = and_parts (steps asked) (have_steps request) e in
    let own = and_parts (has_step asked.agg) (list_all (λ n. has_step n.agg) asked.nested) both.0 in
    All-cons Steps asked request (step_there asked.agg own.0, inner_there asked.nested own.1) (intervals_there request both.1)
