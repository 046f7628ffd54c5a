-- A builder takes a document, and makes the split of those that it has.
use Rattle.std.proofs.Common.{◌≡◌, ℕ, ◌+◌, ◌<◌, ◌≤◌, ◌^◌, List, [], ◌∷◌, ◌++◌, length, sym, ◌∙◌, ap, subst, arith, length-append, Vec}
use Rattle.std.specs.Prelude.{Option}
use Rattle.std.specs.List.{AllByRecursion}
use Rattle.std.specs.declared.alloc.Global.{Global}
use Rattle.sha2.specs.Sha256.{sha256}
use Rattle.doc_value.specs.declared.schema.Schema.{Schema}
use Rattle.doc_value.specs.Documents.{IsSchema, IsOfSchema}
use Rattle.split_states.specs.declared.facts.Times.{Times}
use Rattle.split_bundle.specs.declared.placed.Placed.{Placed}
use Rattle.split_bundle.specs.Columns.{fast_fields}
use Rattle.split_bundle.specs.Documents.{weight, total_weight}
use Rattle.split_bundle.specs.Held.{IsHeld}
use Rattle.split_bundle.specs.Keys.{keys_of}
use Rattle.split_bundle.specs.Splits.{AreDocumentsOf, IsSplit, max_weight}
use Rattle.split_bundle.proofs.Light.{weighs}
use Rattle.split_build.specs.declared.builder.Builder.{Builder}
use Rattle.split_build.specs.declared.builder.BuiltSplit.{BuiltSplit}
use Rattle.split_build.specs.declared.build_error.BuildError.TheVariants.{TooManyDocs, TooLarge}
use Rattle.split_build.specs.Bodies.{body_of}
use Rattle.split_build.specs.Builders.{HasTaken, CanTake, IsBuilt}
use Rattle.split_build.specs.HeldColumns.{HasColumns}
use Rattle.split_build.specs.HeldDocuments.{HasDocuments}
use Rattle.split_build.specs.HeldTags.{HasTags}
use Rattle.split_build.specs.HeldTerms.{HasSaid}
use Rattle.split_build.specs.Limits.{MakeNone, max_documents}
use Rattle.split_build.specs.Said.{Said, in_document, said_from}
use Rattle.split_build.specs.Sections.{AreLogs}
use Rattle.split_build.specs.Tags.{AreTagsOf}
use Rattle.split_bundle.specs.Tagged.{tag_numbers}
use Rattle.split_build.specs.Times.{AreTimes, seconds_in}
use Rattle.split_build.proofs.TakenLemmas.{body_weighs, weight_more, documents_more, light_few, light_within, said_more}

-- ---- what it can take

pub can_take : (b : Builder) (body : Vec ℕ Global) (s : Schema) (ds : List Placed) (d : Placed) → HasTaken b s ds → IsOfSchema s d.doc → IsHeld d → body.items ≡ body_of d → b.weight + (257 + length body.items) ≤ max_weight
    → CanTake (record b { body = body }) s ds d
can_take b body s ds d h of_schema held is light = record {
  taken = record { schema = h.schema; are_documents = h.are_documents; count = h.count; weight = h.weight; bodies = h.bodies; said = h.said; columns = h.columns; tags = h.tags; times = h.times };
  body = is;
  are_documents = documents_more s ds d h.are_documents of_schema held (omega (arith, light, h.weight, body_weighs d body.items is));
}

pub other_body : (b : Builder) (body : Vec ℕ Global) (s : Schema) (ds : List Placed) → HasTaken b s ds → HasTaken (record b { body = body }) s ds
other_body b body s ds h = record { schema = h.schema; are_documents = h.are_documents; count = h.count; weight = h.weight; bodies = h.bodies; said = h.said; columns = h.columns; tags = h.tags; times = h.times }

pub taken_light : (b : Builder) (s : Schema) (ds : List Placed) → HasTaken b s ds → b.weight ≤ max_weight
taken_light b s ds h = omega (arith, h.weight, h.are_documents.light)

pub too_large : (b : Builder) (s : Schema) (ds : List Placed) (d : Placed) (body : List ℕ) (n : ℕ) → HasTaken b s ds → body ≡ body_of d → n ≡ b.weight + (257 + length body) → n < 2 ^ 64 → max_weight < n → MakeNone (ds ++ d ∷ []) (TooLarge n)
too_large b s ds d body n h is n_is fits large =
    let all : total_weight (ds ++ d ∷ []) ≡ n = omega (arith, weight_more ds d, body_weighs d body is, h.weight, n_is) in
    (omega (arith, light_few ds h.are_documents.light, length-append ds (d ∷ []), light_fewer ds h.are_documents.light), omega (arith, all, large), omega (arith, all, fits))
  where
    light_fewer : (xs : List Placed) → total_weight xs ≤ max_weight → length xs < max_documents
    light_fewer xs light = omega (arith, weighs xs, light)

-- ---- what a taken document needs

pub is_schema : (b : Builder) (s : Schema) (ds : List Placed) → HasTaken b s ds → IsSchema b.schema
is_schema b s ds h = subst (λ (x : Schema). IsSchema x) (sym h.schema) h.are_documents.schema

pub is_light : (s : Schema) (ds : List Placed) (d : Placed) → AreDocumentsOf s (ds ++ d ∷ []) → weight d ≤ max_weight
is_light s ds d are = omega (arith, weight_more ds d, are.light)

pub said_of : (b : Builder) (s : Schema) (ds : List Placed) → HasTaken b s ds → HasSaid b.terms b.schema (said_from b.schema 0 ds)
said_of b s ds h = subst (λ (x : Schema). HasSaid b.terms x (said_from x 0 ds)) (sym h.schema) h.said

pub times_of : (b : Builder) (s : Schema) (ds : List Placed) → HasTaken b s ds → AreTimes (seconds_in b.schema.timestamp ds) b.times
times_of b s ds h = subst (λ (x : Schema). AreTimes (seconds_in x.timestamp ds) b.times) (sym h.schema) h.times

pub taken_more : (b n : Builder) (s : Schema) (ds : List Placed) (d : Placed) → CanTake b s ds d → n.schema ≡ b.schema → n.count ≡ b.count + 1 → n.weight ≡ b.weight + (257 + length b.body.items) → HasDocuments n.documents (ds ++ d ∷ [])
    → HasSaid n.terms b.schema (said_from b.schema 0 ds ++ in_document (length ds) (keys_of b.schema d.doc)) → HasColumns (ds ++ d ∷ []) (fast_fields s) n.columns.items → HasTags (ds ++ d ∷ []) (tag_numbers 0 s.fields) n.tags.items
    → AreTimes (seconds_in b.schema.timestamp (ds ++ d ∷ [])) n.times → HasTaken n s (ds ++ d ∷ [])
taken_more b n s ds d can schema count heavy bodies said columns tags times = record {
  schema = schema ∙ can.taken.schema;
  are_documents = can.are_documents;
  count = omega (arith, count, can.taken.count, length-append ds (d ∷ []));
  weight = omega (arith, heavy, can.taken.weight, weight_more ds d, body_weighs d b.body.items can.body);
  bodies = bodies;
  said = subst (λ (os : List Said). HasSaid n.terms s os) (sym (said_more s ds d)) (subst (λ (x : Schema). HasSaid n.terms x (said_from x 0 ds ++ in_document (length ds) (keys_of x d.doc))) can.taken.schema said);
  columns = columns;
  tags = tags;
  times = subst (λ (x : Schema). AreTimes (seconds_in x.timestamp (ds ++ d ∷ [])) n.times) can.taken.schema times;
}

-- ---- what it makes

pub own_schema : (b : Builder) (s : Schema) (ds : List Placed) → HasTaken b s ds → HasTaken b b.schema ds
own_schema b s ds h = subst (λ (x : Schema). HasTaken b x ds) (sym h.schema) h

pub are_logs : (b : Builder) (s : Schema) (ds : List Placed) → HasTaken b s ds → AreLogs b.schema ds b.documents b.terms b.columns.items
are_logs b s ds h =
    let own = own_schema b s ds h in
    record { are_documents = own.are_documents; bodies = own.bodies; said = own.said; columns_are = own.columns }

pub built : (b : Builder) (s : Schema) (ds : List Placed) (file : List ℕ) (r : BuiltSplit) → HasTaken b s ds → IsSplit b.schema file ds
    → r.bytes ≡ file → r.facts.docs ≡ b.count → r.facts.rejected ≡ 0 → r.facts.weight ≡ b.weight → r.facts.size ≡ length file → r.facts.digest ≡ sha256 file → r.facts.times ≡ b.times → AreTagsOf ds (tag_numbers 0 s.fields) r.facts.tags
    → IsBuilt s ds r
built b s ds file r h split bytes count rejected heavy size digest times tags = record {
  split = subst (λ (l : List ℕ). IsSplit s l ds) (sym bytes) (subst (λ (x : Schema). IsSplit x file ds) h.schema split);
  facts = record {
    docs = count ∙ h.count;
    rejected_are = rejected;
    weight = heavy ∙ h.weight;
    size = size ∙ sym (ap (λ (l : List ℕ). length l) bytes);
    digest = digest ∙ sym (ap (λ (l : List ℕ). sha256 l) bytes);
    times = subst (λ (t : Option Times). AreTimes (seconds_in s.timestamp ds) t) (sym times) h.times;
    tags = tags;
  };
  within = light_within ds h.are_documents.light;
}

-- ---- a list of documents

pub all_behind : {X : Type 0} (P : X → Type 0) (xs ys : List X) → AllByRecursion P (xs ++ ys) → AllByRecursion P ys
all_behind P [] ys h = h
all_behind P (x ∷ xs) ys h = all_behind P xs ys h.1

total_within : (xs ys : List Placed) → total_weight (xs ++ ys) ≡ total_weight xs + total_weight ys
total_within [] ys = omega arith
total_within (x ∷ xs) ys = omega (arith, total_within xs ys)

-- where the first of some documents weigh too much, all of them do
pub heavy_front : (front behind documents : List Placed) (n : ℕ) → front ++ behind ≡ documents → MakeNone front (TooLarge n) → max_weight < total_weight documents
heavy_front front behind documents n is h = omega (arith, h.1, ap (λ (xs : List Placed). total_weight xs) is, total_within front behind)

-- the first of documents that are not too many are not too many
pub few_front : (front behind documents : List Placed) (count : ℕ) → length documents ≤ max_documents → front ++ behind ≡ documents → MakeNone front (TooManyDocs count) → ⊥
few_front front behind documents count few is h = absurd (omega (arith, h.0, few, ap (λ (xs : List Placed). length xs) is, length-append front behind))
