-- What is reached by names in a record whose keys have no fault.
use Rattle.std.proofs.Common.{◌≡◌, ℕ, Bool, true, false, List, [], ◌∷◌, ◌++◌, append_assoc, slice_get, Option, Some, None, refl, ap, sym, ◌∙◌, subst, ◌⊎◌, inl, inr, if◌then◌else◌}
use Rattle.std.specs.Prelude.{option_and_then}
use Rattle.std.specs.Ordering.{nat_cmp}
use Rattle.std.specs.Cmp.Lexicographic.{slice_cmp}
use Rattle.std.specs.declared.cmp.Ordering.{Ordering}
use Rattle.std.specs.declared.cmp.Ordering.TheVariants.{Less, Equal, Greater}
use Rattle.serde_json.specs.Data.{Data, null, boolean, number, string, array, object, Members, no_members, member}
use Rattle.serde_json.specs.Find.{get_member}
use Rattle.doc_value.specs.declared.schema.Field.{Field}
use Rattle.doc_value.specs.Documents.{mapped_fields}
use Rattle.dynamic_paths.specs.Leaves.{is_object}
use Rattle.index_config.specs.declared.config.Mode.TheVariants.{Strict}
use Rattle.index_config.specs.declared.config.IndexConfig.{IndexConfig}
use Rattle.doc_mapping.specs.Faults.{under, formats_at, mapped_at, number_of_mapped, unmapped, has_dot, path_fault, key_fault, members_fault, inner_fault}
use Rattle.doc_mapping.specs.Documents.{value_at}
use Rattle.doc_mapping.specs.Held.{path_from, ArePlain}
use Rattle.doc_mapping.proofs.Holding.{some_none, none_some, first_none, same_key, no_object, grows}
use Rattle.doc_mapping.proofs.Mapped.{mapped_is, stands_mapped, object_by}

and_itself : (o : Option Data) → o ≡ option_and_then (value_at []) o
and_itself None = refl
and_itself (Some d) = refl

abbrev pub last : List ℕ → List (List ℕ) → List ℕ
last name [] = name
last name (n ∷ ns) = last n ns

module _ (config : IndexConfig) where
  -- the key at this path, with this value, has no fault
  abbrev pub IsFitting : List ℕ → List ℕ → Data → Type 0
  IsFitting path key d = key_fault config path key d (inner_fault config path d) ≡ None

  found_member : (prefix : List ℕ) (ms : Members) (name : List ℕ) (d : Data) → members_fault config prefix ms ≡ None → get_member name ms ≡ Some d
      → IsFitting (under prefix name) name d
  found_member prefix no_members name d h g = none_some d g
  found_member prefix (member key e more) name d h g =
      let parts = first_none (key_fault config (under prefix key) key e (inner_fault config (under prefix key) e)) (members_fault config prefix more) h in
      by (found_member prefix more name d parts.1) parts.0 (slice_cmp nat_cmp name key) refl
    where
      by : (get_member name more ≡ Some d → IsFitting (under prefix name) name d) → IsFitting (under prefix key) key e
          → (o : Ordering) → slice_cmp nat_cmp name key ≡ o → IsFitting (under prefix name) name d
      by rest own Less c = rest (rw c at g)
      by rest own Greater c = rest (rw c at g)
      by rest own Equal c =
          let here : Some e ≡ Some d = rw c at g in
          let same : e ≡ d = cc in
          subst (λ (x : Data). IsFitting (under prefix name) name x) same (subst (λ (k : List ℕ). IsFitting (under prefix k) k e) (sym (same_key name key c)) own)

  -- what stands behind a key is looked at: in strict mode, or where some field lies there
  abbrev pub May : List ℕ → List ℕ → Type 0
  May path key = (config.mode ≡ Strict) ⊎ ((has_dot key ≡ false) × (is_object (mapped_fields config.schema) (path ++ 46 ∷ []) ≡ true))

  pub strict_refuses : {B : Type 0} (path : List ℕ) → config.mode ≡ Strict → unmapped config.mode path ≡ None → B
  strict_refuses path e h = some_none _ (rw e at h)

  step : (path key : List ℕ) (ms : Members) → May path key → IsFitting path key (object ms) → members_fault config path ms ≡ None
  step path key ms may h = dots (has_dot key) refl
    where
      objects : (b : Bool) → is_object (mapped_fields config.schema) (path ++ 46 ∷ []) ≡ b → (if b then members_fault config path ms else unmapped config.mode path) ≡ None
          → members_fault config path ms ≡ None
      objects true e g = g
      objects false e g = elim may [
        | inl strict ↦ strict_refuses path strict g
        | inr parts ↦ absurd (let x : false ≡ true = sym e ∙ parts.1 in cc)
      ]

      numbers : (o : Option ℕ) → number_of_mapped config.schema path ≡ o → path_fault config path (object ms) (members_fault config path ms) o ≡ None
          → members_fault config path ms ≡ None
      numbers (Some n) e g =
          let at = stands_mapped config.schema path n e in
          let here : slice_get config.schema.fields n ≡ Some at.0 = (mapped_is config.schema n at.0 at.1.0).0 in
          no_object at.0.kind (formats_at config.formats n) path ms (rw here at g)
      numbers None e g = objects (is_object (mapped_fields config.schema) (path ++ 46 ∷ [])) refl g

      dots : (b : Bool) → has_dot key ≡ b → members_fault config path ms ≡ None
      dots true e = elim may [
        | inl strict ↦ strict_refuses path strict (rw e at h)
        | inr parts ↦ absurd (let x : true ≡ false = sym e ∙ parts.0 in cc)
      ]
      dots false e = numbers (number_of_mapped config.schema path) refl (rw e at h)

  -- in strict mode each key is plain
  plain_key : (path key : List ℕ) (d : Data) → IsFitting path key d → config.mode ≡ Strict → has_dot key ≡ false
  plain_key path key d h strict = by (has_dot key) refl
    where
      by : (b : Bool) → has_dot key ≡ b → b ≡ false
      by true e = strict_refuses path strict (rw e at h)
      by false e = refl

  -- each key on the way is looked behind
  abbrev pub Descends : List ℕ → List ℕ → List (List ℕ) → Type 0
  Descends path key [] = Unit {0}
  Descends path key (n ∷ ns) = May path key × Descends (under path n) n ns

  pub descends_strict : config.mode ≡ Strict → (path key : List ℕ) (names : List (List ℕ)) → Descends path key names
  descends_strict e path key [] = tt
  descends_strict e path key (n ∷ ns) = (inl e, descends_strict e (under path n) n ns)

  pub descends_to : (names : List (List ℕ)) (c : ℕ) (r key : List ℕ) (n : ℕ) (f : Field) (tail : List ℕ) → mapped_at config.schema n ≡ Some f
      → f.path ≡ path_from (c ∷ r) names ++ tail → has_dot key ≡ false → ArePlain names → Descends (c ∷ r) key names
  descends_to [] c r key n f tail a e k p = tt
  descends_to (m ∷ ns) c r key n f tail a e k p =
      let g = grows c (r ++ 46 ∷ m) ns in
      let long : f.path ≡ (c ∷ r) ++ 46 ∷ (m ++ (g.0 ++ tail)) =
      e ∙ ap (λ y. y ++ tail) g.1 ∙ append_assoc (c ∷ (r ++ 46 ∷ m)) g.0 tail ∙ append_assoc (c ∷ r) (46 ∷ m) (g.0 ++ tail) in
      (inr (k, object_by config.schema n f (c ∷ r) (m ++ (g.0 ++ tail)) a long), descends_to ns c (r ++ 46 ∷ m) m n f tail a e p.0 p.1)

  -- what is reached has no fault, and in strict mode all names on the way are plain
  abbrev pub Reaches : List ℕ → List ℕ → List (List ℕ) → Data → Type 0
  Reaches path name names e = IsFitting (path_from path names) (last name names) e × (config.mode ≡ Strict → ArePlain (name ∷ names))

  pub walk : (names : List (List ℕ)) (name prefix : List ℕ) (ms : Members) (e : Data) → members_fault config prefix ms ≡ None
      → option_and_then (value_at names) (get_member name ms) ≡ Some e → Descends (under prefix name) name names → Reaches (under prefix name) name names e
  walk [] name prefix ms e h g d =
      let here = found_member prefix ms name e h (and_itself (get_member name ms) ∙ g) in
      (here, λ strict. (plain_key (under prefix name) name e here strict, tt))
  walk (n ∷ ns) name prefix ms e h g d = by (λ ms' h' g'. walk ns n (under prefix name) ms' e h' g' d.1) (get_member name ms) refl
    where
      by : ((ms' : Members) → members_fault config (under prefix name) ms' ≡ None → option_and_then (value_at ns) (get_member n ms') ≡ Some e
          → Reaches (under (under prefix name) n) n ns e)
          → (o : Option Data) → get_member name ms ≡ o → Reaches (under prefix name) name (n ∷ ns) e
      by again None m = none_some e (rw m at g)
      by again (Some (object ms')) m =
          let here = found_member prefix ms name (object ms') h m in
          let more = again ms' (step (under prefix name) name ms' d.0 here) (rw m at g) in
          (more.0, λ strict. (plain_key (under prefix name) name (object ms') here strict, more.1 strict))
      by again (Some null) m = none_some e (rw m at g)
      by again (Some (boolean b)) m = none_some e (rw m at g)
      by again (Some (number k)) m = none_some e (rw m at g)
      by again (Some (string s)) m = none_some e (rw m at g)
      by again (Some (array ds)) m = none_some e (rw m at g)
