-- A document more for a builder.
use Rattle.std.proofs.Common.{◌≡◌, ℕ, suc, ◌+◌, ◌≤◌, List, [], ◌∷◌, ◌++◌, length, ℤ, refl, sym, ◌∙◌, ap, subst, arith, append_assoc}
use Rattle.std.specs.Prelude.{Option, None, Some}
use Rattle.std.proofs.lemmas.List.{append-nil}
use Rattle.std.specs.List.{AllByRecursion, flat_map}
use Rattle.doc_value.specs.declared.schema.Schema.{Schema}
use Rattle.doc_value.specs.declared.doc.Value.{Value}
use Rattle.doc_value.specs.declared.doc.Value.TheVariants as values
use Rattle.doc_value.specs.Documents.{IsOfSchema, values_in}
use Rattle.split_bundle.specs.declared.placed.Placed.{Placed}
use Rattle.split_bundle.specs.Documents.{weight, total_weight}
use Rattle.split_bundle.specs.Held.{IsHeld}
use Rattle.split_bundle.specs.Splits.{AreDocumentsOf, max_weight}
use Rattle.split_bundle.proofs.Light.{IsShortText, are_light, weighs, each_light}
use Rattle.split_build.specs.Bodies.{body_of}
use Rattle.split_build.specs.Limits.{AreWithin, max_documents}
use Rattle.split_build.specs.Said.{Said, in_document, said_from}
use Rattle.split_build.specs.Tags.{terms_in}
use Rattle.split_bundle.specs.Tagged.{value_term, second_of}
use Rattle.split_states.specs.declared.facts.Times.{Times}
use Rattle.split_build.specs.Times.{AreTimes, seconds_in}
use Rattle.split_build.specs.Walks.{IsShort, IsShortDoc}
use Rattle.split_build.specs.WrittenTerms.{CanBeListed}
use Rattle.split_bundle.specs.Keys.{keys_of}

-- ---- weights

pub weight_more : (ds : List Placed) (d : Placed) → total_weight (ds ++ d ∷ []) ≡ total_weight ds + weight d
weight_more [] d = omega arith
weight_more (x ∷ xs) d = omega (arith, weight_more xs d)

pub body_weighs : (d : Placed) (body : List ℕ) → body ≡ body_of d → weight d ≡ 257 + length body
body_weighs d body is = omega (arith, ap (λ (l : List ℕ). length l) is)

pub all_push : {X : Type 0} (P : X → Type 0) (xs : List X) (x : X) → AllByRecursion P xs → P x → AllByRecursion P (xs ++ x ∷ [])
all_push P [] x h p = (p, tt)
all_push P (y ∷ ys) x h p = (h.0, all_push P ys x h.1 p)

pub documents_more : (s : Schema) (ds : List Placed) (d : Placed) → AreDocumentsOf s ds → IsOfSchema s d.doc → IsHeld d → total_weight ds + weight d ≤ max_weight → AreDocumentsOf s (ds ++ d ∷ [])
documents_more s ds d are of_schema held light = record {
  schema = are.schema;
  of_schema = all_push (λ (x : Placed). IsOfSchema s x.doc) ds d are.of_schema of_schema;
  held = all_push IsHeld ds d are.held held;
  light = omega (arith, light, weight_more ds d);
}

-- documents that are light together are few
pub light_few : (ds : List Placed) → total_weight ds ≤ max_weight → length ds ≤ max_documents
light_few ds light = omega (arith, weighs ds, light)

pub light_within : (ds : List Placed) → total_weight ds ≤ max_weight → AreWithin ds
light_within ds light = record { few = light_few ds light; light = light }

-- ---- their values are few and short

short_values : (vs : List Value) → AllByRecursion IsShortText vs → AllByRecursion IsShort vs
short_values [] h = tt
short_values (values.Text t ∷ vs) h = (omega (arith, h.0), short_values vs h.1)
short_values (values.I64 z ∷ vs) h = (tt, short_values vs h.1)
short_values (values.U64 n ∷ vs) h = (tt, short_values vs h.1)
short_values (values.Bool b ∷ vs) h = (tt, short_values vs h.1)
short_values (values.Datetime z ∷ vs) h = (tt, short_values vs h.1)

pub short_doc : (d : Placed) → weight d ≤ max_weight → IsShortDoc d.doc
short_doc d le n =
    let light = are_light d n le in
    record { each = short_values (values_in d.doc n) light.short; few = omega (arith, light.few) }

short_docs : (ds : List Placed) → AllByRecursion (λ d. weight d ≤ max_weight) ds → AllByRecursion (λ d. IsShortDoc d.doc) ds
short_docs [] h = tt
short_docs (d ∷ ds) h = (short_doc d h.0, short_docs ds h.1)

pub can_be_listed : (s : Schema) (ds : List Placed) → AreDocumentsOf s ds → CanBeListed s ds
can_be_listed s ds are = record {
  schema = are.schema;
  short = short_docs ds (each_light ds max_weight are.light);
  few = omega (arith, weighs ds, are.light);
}

-- ---- what they say

said_more_from : (s : Schema) (n : ℕ) (ds : List Placed) (d : Placed) → said_from s n (ds ++ d ∷ []) ≡ said_from s n ds ++ in_document (n + length ds) (keys_of s d.doc)
said_more_from s n [] d =
    let at : n ≡ n + 0 = omega arith in
    append-nil (in_document n (keys_of s d.doc)) ∙ ap (λ (i : ℕ). in_document i (keys_of s d.doc)) at
said_more_from s n (x ∷ xs) d =
    let at : suc n + length xs ≡ n + suc (length xs) = omega arith in
    ap (λ (os : List Said). in_document n (keys_of s x.doc) ++ os) (said_more_from s (suc n) xs d ∙ ap (λ (i : ℕ). said_from s (suc n) xs ++ in_document i (keys_of s d.doc)) at)
    ∙ sym (append_assoc (in_document n (keys_of s x.doc)) (said_from s (suc n) xs) (in_document (n + suc (length xs)) (keys_of s d.doc)))

pub said_more : (s : Schema) (ds : List Placed) (d : Placed) → said_from s 0 (ds ++ d ∷ []) ≡ said_from s 0 ds ++ in_document (length ds) (keys_of s d.doc)
said_more s ds d =
    let at : 0 + length ds ≡ length ds = omega arith in
    said_more_from s 0 ds d ∙ ap (λ (i : ℕ). said_from s 0 ds ++ in_document i (keys_of s d.doc)) at

-- ---- their terms and seconds

flat_more : {X Y : Type 0} (f : X → List Y) (xs : List X) (x : X) → flat_map f (xs ++ x ∷ []) ≡ flat_map f xs ++ f x
flat_more f [] x = append-nil (f x)
flat_more f (y ∷ ys) x = ap (λ l. f y ++ l) (flat_more f ys x) ∙ sym (append_assoc (f y) (flat_map f ys) (f x))

pub terms_more : (n : ℕ) (ds : List Placed) (d : Placed) → terms_in n (ds ++ d ∷ []) ≡ terms_in n ds ++ flat_map value_term (values_in d.doc n)
terms_more n ds d = flat_more (λ (x : Placed). flat_map value_term (values_in x.doc n)) ds d

pub seconds_more : (n : ℕ) (ds : List Placed) (d : Placed) → seconds_in (Some n) (ds ++ d ∷ []) ≡ seconds_in (Some n) ds ++ flat_map second_of (values_in d.doc n)
seconds_more n ds d = flat_more (λ (x : Placed). flat_map second_of (values_in x.doc n)) ds d

-- ---- times

pub no_seconds : (o : Option ℕ) → seconds_in o [] ≡ []
no_seconds None = refl
no_seconds (Some n) = refl

pub times_none : (o : Option ℕ) (ds : List Placed) (d : Placed) (t : Option Times) → o ≡ None → AreTimes (seconds_in o ds) t → AreTimes (seconds_in o (ds ++ d ∷ [])) t
times_none None ds d t is h = h
times_none (Some n) ds d t is h = absurd cc

pub times_some : (o : Option ℕ) (n : ℕ) (ds : List Placed) (d : Placed) (t r : Option Times) (vs : List Value) → o ≡ Some n → vs ≡ values_in d.doc n → ((zs : List ℤ) → AreTimes zs t → AreTimes (zs ++ flat_map second_of vs) r)
    → AreTimes (seconds_in o ds) t → AreTimes (seconds_in o (ds ++ d ∷ [])) r
times_some None n ds d t r vs is vs_are wide h = absurd cc
times_some (Some m) n ds d t r vs is vs_are wide h =
    let same : n ≡ m = cc in
    let values : vs ≡ values_in d.doc m = vs_are ∙ ap (λ (k : ℕ). values_in d.doc k) same in
    subst (λ (zs : List ℤ). AreTimes zs r) (sym (seconds_more m ds d)) (subst (λ (ws : List Value). AreTimes (seconds_in (Some m) ds ++ flat_map second_of ws) r) values (wide (seconds_in (Some m) ds) h))
