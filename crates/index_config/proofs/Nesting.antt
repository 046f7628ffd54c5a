-- What a member of a list of fields gives, by how deep objects may still nest.
use Rattle.std.proofs.Common.{◌≡◌, ℕ, zero, suc, ◌-◌, ◌<◌, true, false, List, [], ◌∷◌, ◌++◌, refl, sym, ap, ◌∙◌, subst, arith, append_assoc, is_some, Option, Some, None, inl, inr}
use Rattle.std.specs.Prelude.{codes}
use Rattle.std.proofs.lemmas.Bool.{cases_Bool}
use Rattle.toml.specs.Data.{Data, Items, get, as_table}
use Rattle.index_config.specs.declared.config.Mode.{Mode}
use Rattle.index_config.specs.declared.raw.RawField.{RawField}
use Rattle.index_config.specs.declared.config_error.ConfigError.{ConfigError}
use Rattle.index_config.specs.declared.rule.FieldType.{FieldType}
use Rattle.index_config.specs.Rules.{under, member_path, wrong_unless}
use Rattle.index_config.specs.Tables.{type_of, is_object, items_in, field_faults, inner_fields, optional_table, where_table, member_at, fields_faults, each_fault, indexing_faults, indexing_key_faults, indexing_path, policy_faults, policy_path}
use Rattle.index_config.specs.Fields.{name_of, raw_field, inner_raws, raw_member, raw_fields, each_raw, mode_of, dynamic_raws, mapped_raws, all_raws, in_mapping, in_option}
use Rattle.index_config.specs.Sections.{section_faults}
use Rattle.index_config.specs.declared.rule.Section.TheVariants as sections
use Rattle.index_config.proofs.Named.{no-key}

member-inner : (levels : ℕ) (path : List ℕ) (n : ℕ) (d : Data) → is_some (as_table d) ≡ true → 0 < levels → is_object (type_of d) ≡ true
    → member_at levels path n d ≡ field_faults false (member_path path n) d (type_of d)
    ++ fields_faults (levels - 1) (under (member_path path n) (codes "field_mappings")) (items_in (get (codes "field_mappings") d))
member-inner zero path n d e z o = absurd (omega arith)
member-inner (suc levels) path n d e z o =
    let less : suc levels - 1 ≡ levels = omega arith in
    rw (e, less) (ap (λ b. field_faults false (member_path path n) d (type_of d) ++ inner_fields b (λ p i. each_fault (member_at levels p) 0 i) (member_path path n) d) o)

raw-inner : (levels : ℕ) (place path : List ℕ) (d : Data) → 0 < levels → is_object (type_of d) ≡ true
    → raw_member levels place path d ≡ raw_field place path d
    ∷ raw_fields (levels - 1) (under place (codes "field_mappings")) (under path (name_of d)) (items_in (get (codes "field_mappings") d))
raw-inner zero place path d z o = absurd (omega arith)
raw-inner (suc levels) place path d z o =
    let less : suc levels - 1 ≡ levels = omega arith in
    rw less (ap (λ b. raw_field place path d ∷ inner_raws b (λ p q i. each_raw (λ n e. raw_member levels (member_path p n) q e) 0 i) place path d) o)

-- one more part at the end
pub chain : {A : Type 0} (old mid new x y : List A) → mid ≡ old ++ x → new ≡ mid ++ y → new ≡ old ++ (x ++ y)
chain old mid new x y m n = rw (n, m) (append_assoc old x y)

-- a member with its own fields behind it
pub step-member : (levels : ℕ) (path : List ℕ) (n : ℕ) (d : Data) (t : Option FieldType) (place : List ℕ) (old mid new : List ConfigError)
    → is_some (as_table d) ≡ true → 0 < levels → t ≡ type_of d → is_object t ≡ true → place ≡ member_path path n
    → mid ≡ old ++ field_faults false place d t
    → new ≡ mid ++ fields_faults (levels - 1) (under place (codes "field_mappings")) (items_in (get (codes "field_mappings") d))
    → new ≡ old ++ member_at levels path n d
step-member levels path n d t place old mid new tab z ty o p m e =
    let object : is_object (type_of d) ≡ true = subst (λ x. is_object x ≡ true) ty o in
    let own : field_faults false place d t ≡ field_faults false (member_path path n) d (type_of d) =
    ap (λ x. field_faults false x d t) p ∙ ap (field_faults false (member_path path n) d) ty in
    let items = items_in (get (codes "field_mappings") d) in
    let first = m ∙ ap (λ x. old ++ x) own in
    let second = e ∙ ap (λ x. mid ++ fields_faults (levels - 1) (under x (codes "field_mappings")) items) p in
    chain old mid new _ _ first second ∙ ap (λ x. old ++ x) (sym (member-inner levels path n d tab z object))

pub step-raws : (levels : ℕ) (place path : List ℕ) (d : Data) (raw : RawField) (inner_place inner_path : List ℕ) (items : Items)
    (old mid new : List RawField) → 0 < levels → is_object (type_of d) ≡ true → raw ≡ raw_field place path d → mid ≡ old ++ raw ∷ []
    → inner_place ≡ under place (codes "field_mappings") → inner_path ≡ under path (name_of d)
    → items ≡ items_in (get (codes "field_mappings") d) → new ≡ mid ++ raw_fields (levels - 1) inner_place inner_path items
    → new ≡ old ++ raw_member levels place path d
step-raws levels place path d raw inner_place inner_path items old mid new z o r m ip ipa it e =
    let first : mid ≡ old ++ raw_field place path d ∷ [] = m ∙ ap (λ x. old ++ x ∷ []) r in
    let nested : raw_fields (levels - 1) inner_place inner_path items
    ≡ raw_fields (levels - 1) (under place (codes "field_mappings")) (under path (name_of d)) (items_in (get (codes "field_mappings") d)) =
    ap (λ x. raw_fields (levels - 1) x inner_path items) ip
    ∙ ap (λ x. raw_fields (levels - 1) (under place (codes "field_mappings")) x items) ipa
    ∙ ap (raw_fields (levels - 1) (under place (codes "field_mappings")) (under path (name_of d))) it in
    let second = e ∙ ap (λ x. mid ++ x) nested in
    chain old mid new _ _ first second ∙ ap (λ x. old ++ x) (sym (raw-inner levels place path d z o))

-- a table that may be absent, where a value stands
pub wrong-table : (p path : List ℕ) (f : Data → List ConfigError) (o : Option Data) (d : Data) (old new : List ConfigError)
    → Some d ≡ o → is_some (as_table d) ≡ false → path ≡ p → new ≡ old ++ wrong_unless false path → new ≡ old ++ optional_table p f o
wrong-table p path f o d old new s t e n =
    subst (λ (x : Option Data). new ≡ old ++ optional_table p f x) s (rw t (n ∙ ap (λ x. old ++ wrong_unless false x) e))

pub right-table : (p path : List ℕ) (g : List ℕ → Data → List ConfigError) (o : Option Data) (d : Data) (old new : List ConfigError)
    → Some d ≡ o → is_some (as_table d) ≡ true → path ≡ p → new ≡ old ++ g path d → new ≡ old ++ optional_table p (g p) o
right-table p path g o d old new s t e n =
    subst (λ (x : Option Data). new ≡ old ++ optional_table p (g p) x) s (rw t (n ∙ ap (λ x. old ++ g x d) e))

pub there-table : (p path : List ℕ) (g : List ℕ → Data → List ConfigError) (o : Option Data) (d : Data) (old new : List ConfigError)
    → Some d ≡ o → is_some (as_table d) ≡ true → path ≡ p → new ≡ old ++ g path d → new ≡ old ++ where_table (g p) o
there-table p path g o d old new s t e n =
    subst (λ (x : Option Data). new ≡ old ++ where_table (g p) x) s (rw t (n ∙ ap (λ x. old ++ g x d) e))

-- the keys of the indexing settings, and the policy behind them
settings-parts : (o : Option Data) → optional_table indexing_path (indexing_key_faults indexing_path) o
    ++ optional_table policy_path (policy_faults policy_path) (in_option (codes "merge_policy") o)
    ≡ optional_table indexing_path (indexing_faults indexing_path) o
settings-parts None = refl
settings-parts (Some d) =
    elim (cases_Bool (is_some (as_table d))) [
      | inl there ↦ rw there refl
      | inr lacks ↦ rw (lacks, no-key (codes "merge_policy") d lacks) refl
    ]

pub settings-chain : (root : Data) (old mid new : List ConfigError) → mid ≡ old ++ section_faults sections.Indexing root
    → new ≡ mid ++ section_faults sections.Policy root → new ≡ old ++ optional_table indexing_path (indexing_faults indexing_path) (get indexing_path root)
settings-chain root old mid new m n = chain old mid new _ _ m n ∙ ap (λ x. old ++ x) (settings-parts (get indexing_path root))

pub raws-all : (root : Data) (mode : Mode) (place path : List ℕ) (items : Items) (old new : List RawField) → mode ≡ mode_of root → old ≡ dynamic_raws mode
    → place ≡ codes "doc_mapping.field_mappings" → path ≡ [] → items ≡ items_in (in_mapping (codes "field_mappings") root)
    → new ≡ old ++ raw_fields 16 place path items → new ≡ all_raws root
raws-all root mode place path items old new m o p q i e =
    let fields : raw_fields 16 place path items ≡ mapped_raws root =
    ap (λ x. raw_fields 16 x path items) p ∙ ap (λ x. raw_fields 16 (codes "doc_mapping.field_mappings") x items) q
    ∙ ap (raw_fields 16 (codes "doc_mapping.field_mappings") []) i in
    e ∙ ap (λ x. x ++ raw_fields 16 place path items) (o ∙ ap dynamic_raws m) ∙ ap (λ x. dynamic_raws (mode_of root) ++ x) fields
