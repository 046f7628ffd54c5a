-- What documents are gathered: what one more weighs, and that none is refused that is light.
use Rattle.std.proofs.Common.{◌≡◌, ℕ, ◌+◌, ◌*◌, ◌^◌, ◌<◌, ◌≤◌, List, [], ◌∷◌, ◌++◌, length, false, Some, Ok, refl, inl, inr, arith, nat_lt}
use Rattle.std.proofs.Math.Logic.{∥∥₁_elim}
use Rattle.std.proofs.lemmas.Bool.{cases_Bool}
use Rattle.std.proofs.lemmas.Bool.Decides.{nat_tests}
use Rattle.std.specs.declared.alloc.AllocError.{AllocError}
use Rattle.doc_mapping.specs.Answer.{answer, max_record}
use Rattle.doc_mapping.proofs.Fitting.{accepted-fits}
use Rattle.doc_value.specs.Documents.{IsSchema, IsOfSchema}
use Rattle.doc_value.specs.declared.doc.DocField.{DocField}
use Rattle.doc_value.specs.declared.schema.Schema.{Schema}
use Rattle.index_config.specs.declared.config.IndexConfig.{IndexConfig}
use Rattle.index_world.specs.Accepted.{accepted}
use Rattle.split_build.proofs.Mere.{schema_prop}
use Rattle.split_build.specs.Builders.{HasTaken}
use Rattle.split_build.specs.Limits.{MakeNone}
use Rattle.split_build.specs.declared.build_error.BuildError.{BuildError}
use Rattle.split_build.specs.declared.builder.Builder.{Builder}
use Rattle.split_build.specs.declared.build_error.BuildError.TheVariants.{Memory, TooManyDocs, TooLarge}
use Rattle.split_bundle.specs.Documents.{weight as weight_of, total_weight}
use Rattle.split_bundle.specs.declared.placed.Placed.{Placed}
use Rattle.document_laws.proofs.Weighed.{schema_weight}
use Rattle.indexing_run.proofs.Light.{accepted_as}

-- ---- a document more

pub total_more : (documents : List Placed) (p : Placed) → total_weight (documents ++ p ∷ []) ≡ total_weight documents + weight_of p
total_more [] p = omega arith
total_more (d ∷ documents) p = let more = total_more documents p in omega (arith, more)

pub room_left : (w : ℕ) → nat_lt 134217728 w ≡ false → w ≤ 134217728
room_left w e = grind (e, arith, nat_tests)

pub schema_is : (s : Schema) → ∥ IsSchema s ∥₁ → IsSchema s
schema_is s h = ∥∥₁_elim h (schema_prop s) (λ x. x)

-- ---- a document that is accepted

pub accepted_fits : (config : IndexConfig) (bytes : List ℕ) (doc : List DocField) → accepted config bytes ≡ Some doc → IsOfSchema config.schema doc
accepted_fits config bytes doc e = accepted-fits config bytes doc (accepted_as config bytes doc e)

record_short : (config : IndexConfig) (bytes : List ℕ) (doc : List DocField) → answer config bytes ≡ Ok doc → length bytes ≤ max_record
record_short config bytes doc e =
    elim (cases_Bool (nat_lt max_record (length bytes))) [
      | inl long ↦ absurd (let refused = rw long at e in cc)
      | inr short ↦ grind (short, arith, nat_tests)
    ]

pub accepted_light : (config : IndexConfig) (bytes : List ℕ) (p : Placed) → ∥ IsSchema config.schema ∥₁ → accepted config bytes ≡ Some p.doc → p.offset < 2 ^ 64 → weight_of p ≤ 134217728
accepted_light config bytes p kept e offset =
    let said = accepted_as config bytes p.doc e in
    let schema = schema_is config.schema kept in
    let short = record_short config bytes p.doc said in
    let whole = schema_weight config bytes p schema said offset in
    omega (arith, whole, short)

-- ---- documents that are light

weighs_much : (documents : List Placed) → 257 * length documents ≤ total_weight documents
weighs_much [] = omega arith
weighs_much (d ∷ documents) = let more = weighs_much documents in omega (arith, more)

-- documents that are light make a split, but for want of memory
makes_one : (documents : List Placed) (w : ℕ) (e : BuildError) → w ≡ total_weight documents → w ≤ 268435456 → MakeNone documents e → ((a : AllocError) → e ≡ Memory a → ⊥) → ⊥
makes_one documents w (Memory a) same light h other = other a refl
makes_one documents w (TooManyDocs count) same light h other = let much = weighs_much documents in omega (arith, much, h.0, same, light)
makes_one documents w (TooLarge weight) same light h other = omega (arith, h.1, same, light)

-- a builder refuses no document with which its documents are light
pub refuses_none : (b : Builder) (s : Schema) (documents : List Placed) (p : Placed) (e : BuildError) → HasTaken b s documents → b.weight ≤ 134217728 → weight_of p ≤ 134217728 → MakeNone (documents ++ p ∷ []) e → ((a : AllocError) → e ≡ Memory a → ⊥) → ⊥
refuses_none b s documents p e h room light none other =
    let all = total_more documents p in
    let same = h.weight in
    makes_one (documents ++ p ∷ []) (b.weight + weight_of p) e (omega (arith, all, same)) (omega (arith, room, light)) none other
