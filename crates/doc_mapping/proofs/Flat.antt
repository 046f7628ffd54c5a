-- Fields whose paths have no dots.
use Rattle.std.proofs.Common.{◌≡◌, ℕ, Bool, true, false, ◌==◌, ◌||◌, List, [], ◌∷◌, ◌++◌, slice_get, Option, Some, None, refl, ap, sym, ◌∙◌, subst}
use Rattle.doc_value.specs.declared.schema.Schema.{Schema}
use Rattle.doc_value.specs.Documents.{mapped_fields}
use Rattle.dynamic_paths.specs.Leaves.{is_object}
use Rattle.serde_json.specs.Data.{Data}
use Rattle.index_config.specs.declared.config.IndexConfig.{IndexConfig}
use Rattle.doc_mapping.specs.declared.reject.Reject.{Reject}
use Rattle.doc_mapping.specs.Faults.{has_dot, number_of_mapped, unmapped, field_fault, key_fault}
use Rattle.doc_mapping.specs.Walk.{AreFlat}
use Rattle.doc_mapping.proofs.Mapped.{mapped_is, stands_mapped, object_from}

pub dot_between : (front back : List ℕ) → has_dot (front ++ 46 ∷ back) ≡ true
dot_between [] back = refl
dot_between (c ∷ front) back = by (c == 46) (has_dot (front ++ 46 ∷ back)) (dot_between front back)
  where
    by : (a b : Bool) → b ≡ true → (a || b) ≡ true
    by true b h = refl
    by false b h = h

-- a key that is a field's path has no dot
pub flat_key : (schema : Schema) (path : List ℕ) (n : ℕ) → AreFlat schema.fields → Some n ≡ number_of_mapped schema path → has_dot path ≡ false
flat_key schema path n flat e =
    let s = stands_mapped schema path n (sym e) in
    subst (λ (p : List ℕ). has_dot p ≡ false) s.1.1 (flat n s.0 (mapped_is schema n s.0 s.1.0).0)

-- no field lies in an object
pub flat_object : (schema : Schema) (path : List ℕ) → AreFlat schema.fields → is_object (mapped_fields schema) (path ++ 46 ∷ []) ≡ false
flat_object schema path flat = by (is_object (mapped_fields schema) (path ++ 46 ∷ [])) refl
  where
    by : (b : Bool) → is_object (mapped_fields schema) (path ++ 46 ∷ []) ≡ b → is_object (mapped_fields schema) (path ++ 46 ∷ []) ≡ false
    by false h = h
    by true h =
        let s = object_from schema path h in
        absurd (let wrong : true ≡ false = sym (dot_between path s.2.1.0) ∙ sym (ap has_dot s.2.1.1) ∙ flat s.0 s.1 (mapped_is schema s.0 s.1 s.2.0).0 in cc)

module _ (config : IndexConfig) (path : List ℕ) (d : Data) (inner : Option Reject) (flat : AreFlat config.schema.fields) where
  -- the fault of a key that is a field's path
  pub flat_hit : (n : ℕ) → Some n ≡ number_of_mapped config.schema path
      → field_fault config path d n (slice_get config.schema.fields n) ≡ key_fault config path path d inner
  flat_hit n e = rw (flat_key config.schema path n flat e) (rw (sym e) refl)

  -- any other key is one that the schema doesn't have
  pub flat_miss : None ≡ number_of_mapped config.schema path → unmapped config.mode path ≡ key_fault config path path d inner
  flat_miss e = by (has_dot path) refl
    where
      by : (b : Bool) → has_dot path ≡ b → unmapped config.mode path ≡ key_fault config path path d inner
      by true dotted = rw dotted refl
      by false plain = rw plain (rw (sym e) (rw (flat_object config.schema path flat) refl))
