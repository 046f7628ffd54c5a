-- Which leaf texts a document has of its record's leaves.
use Rattle.std.proofs.Common.{◌≡◌, ℕ, zero, suc, ◌+◌, ◌^◌, ◌<◌, ◌≤◌, Bool, true, false, List, [], ◌∷◌, ◌++◌, length, length-append, decimal, slice_get, Option, Some, None, Ok, refl, ap, ap₂, sym, ◌∙◌, subst, arith, leb-true, ◌⊎◌, inl, inr}
use Rattle.std.specs.Prelude.{map, ◌↔◌, MatchOption}
use Rattle.std.specs.List.{Contains}
use Rattle.serde_json.specs.Data.{Data}
use Rattle.doc_value.specs.declared.schema.Field.{Field}
use Rattle.doc_value.specs.declared.schema.Kind.{Kind}
use Rattle.doc_value.specs.declared.schema.Kind.TheVariants as kinds
use Rattle.doc_value.specs.declared.schema.Tokenizer.TheVariants as tokenizers
use Rattle.doc_value.specs.declared.doc.Value.{Value}
use Rattle.doc_value.specs.declared.doc.Value.TheVariants as values
use Rattle.doc_value.specs.declared.doc.DocField.{DocField}
use Rattle.doc_value.specs.Documents.{IsDynamic}
use Rattle.dynamic_paths.specs.LeafTexts.{Leaf, leaf_text, max_leaf_text, fits, fitting_texts}
use Rattle.dynamic_paths.specs.Leaves.{leaf_list}
use Rattle.dynamic_paths.proofs.Apart.{apart}
use Rattle.index_config.specs.declared.config.IndexConfig.{IndexConfig}
use Rattle.doc_mapping.specs.Answer.{answer, value_of}
use Rattle.doc_mapping.specs.Documents.{leaf_values, leaves_for, doc_of}
use Rattle.doc_mapping.specs.Held.{values_at}
use Rattle.doc_mapping.proofs.Recorded.{its_number, values_dynamic, document_from}

-- membership, element by element
module _ {X : Type 0} where
  abbrev IsIn : X → List X → Type 0
  IsIn x [] = ⊥
  IsIn x (y ∷ ys) = (y ≡ x) ⊎ IsIn x ys

  contains_in : (xs : List X) (x : X) → Contains xs x → IsIn x xs
  contains_in [] x (k, l, e) = absurd (omega (arith, l))
  contains_in (y ∷ ys) x (zero, l, e) = inl e
  contains_in (y ∷ ys) x (suc k, l, e) = inr (contains_in ys x (k, omega (arith, l), e))

  in_contains : (xs : List X) (x : X) → IsIn x xs → Contains xs x
  in_contains [] x h = absurd h
  in_contains (y ∷ ys) x (inl e) = (0, omega arith, e)
  in_contains (y ∷ ys) x (inr h) = let more = in_contains ys x h in (suc more.0, omega (arith, more.1), more.2)

short_path : (path text : List ℕ) → fits (leaf_text path text) ≡ true → length path < 2 ^ 64
short_path path text h =
    let whole : length (leaf_text path text) ≤ 255 = leb-true (length (leaf_text path text)) max_leaf_text h in
    let a : length (leaf_text path text) ≡ length (decimal (length path) ++ 58 ∷ path) + length (58 ∷ text) = length-append (decimal (length path) ++ 58 ∷ path) (58 ∷ text) in
    let b : length (decimal (length path) ++ 58 ∷ path) ≡ length (decimal (length path)) + length (58 ∷ path) = length-append (decimal (length path)) (58 ∷ path) in
    omega (arith, whole, a, b)

same_text : (s t : List ℕ) → values.Text s ≡ values.Text t → s ≡ t
same_text s t e = cc

same_leaf : (leaf : Leaf) (path text : List ℕ) → fits (leaf_text leaf.0 leaf.1) ≡ true → leaf_text leaf.0 leaf.1 ≡ leaf_text path text → leaf ≡ (path, text)
same_leaf leaf path text h e =
    let own = apart leaf.0 leaf.1 path text (short_path leaf.0 leaf.1 h) (short_path path text (subst (λ (t : List ℕ). fits t ≡ true) e h)) e in
    ap₂ (λ (p t : List ℕ). (p, t)) own.0 own.1

abbrev IsKept : List Leaf → List ℕ → List ℕ → Type 0
IsKept leaves path text = IsIn (path, text) leaves × (fits (leaf_text path text) ≡ true)

kept_from : (leaves : List Leaf) (path text : List ℕ) → IsIn (values.Text (leaf_text path text)) (map values.Text (fitting_texts leaves)) → IsKept leaves path text
kept_from [] path text h = absurd h
kept_from (leaf ∷ leaves) path text h = by (kept_from leaves path text) (fits (leaf_text leaf.0 leaf.1)) refl
  where
    Rest : Type 0
    Rest = IsIn (values.Text (leaf_text path text)) (map values.Text (fitting_texts leaves)) → IsKept leaves path text

    behind : IsKept leaves path text → IsKept (leaf ∷ leaves) path text
    behind kept = (inr kept.0, kept.1)

    here : Rest → fits (leaf_text leaf.0 leaf.1) ≡ true
        → (values.Text (leaf_text leaf.0 leaf.1) ≡ values.Text (leaf_text path text)) ⊎ IsIn (values.Text (leaf_text path text)) (map values.Text (fitting_texts leaves))
        → IsKept (leaf ∷ leaves) path text
    here more e (inl same) =
        let text_is = same_text (leaf_text leaf.0 leaf.1) (leaf_text path text) same in
        (inl (same_leaf leaf path text e text_is), subst (λ (t : List ℕ). fits t ≡ true) text_is e)
    here more e (inr rest) = behind (more rest)

    by : Rest → (b : Bool) → fits (leaf_text leaf.0 leaf.1) ≡ b → IsKept (leaf ∷ leaves) path text
    by more true e = here more e (rw e at h)
    by more false e = behind (more (rw e at h))

kept_so : (leaves : List Leaf) (path text : List ℕ) → IsKept leaves path text → IsIn (values.Text (leaf_text path text)) (map values.Text (fitting_texts leaves))
kept_so [] path text h = absurd h.0
kept_so (leaf ∷ leaves) path text h = by (λ is. kept_so leaves path text (is, h.1)) h.0 (fits (leaf_text leaf.0 leaf.1)) refl
  where
    Found : List Leaf → Type 0
    Found ls = IsIn (values.Text (leaf_text path text)) (map values.Text (fitting_texts ls))

    by : (IsIn (path, text) leaves → Found leaves) → (leaf ≡ (path, text)) ⊎ IsIn (path, text) leaves → (b : Bool) → fits (leaf_text leaf.0 leaf.1) ≡ b → Found (leaf ∷ leaves)
    by more (inr rest) true e = rw e (inr (more rest))
    by more (inr rest) false e = rw e (more rest)
    by more (inl same) true e = rw e (inl (ap (λ (l : Leaf). values.Text (leaf_text l.0 l.1)) same))
    by more (inl same) false e =
        absurd (let own : fits (leaf_text leaf.0 leaf.1) ≡ true = ap (λ (l : Leaf). fits (leaf_text l.0 l.1)) same ∙ h.1 in let wrong : true ≡ false = sym own ∙ e in cc)

-- a document has just the kept leaf texts of its record
abbrev IsLeafOf : IndexConfig → List ℕ → List ℕ → List ℕ → Type 0
IsLeafOf config bytes path text =
    (d : Data) × ((value_of bytes ≡ Some d) × Contains (leaf_list config.schema d) (path, text) × (fits (leaf_text path text) ≡ true))

module _ (config : IndexConfig) (bytes : List ℕ) (doc : List DocField) (n : ℕ) (e : answer config bytes ≡ Ok doc) (its : config.schema.dynamic ≡ Some n)
    (dynamic : IsDynamic config.schema.fields n) where
  own : (d : Data) × ((value_of bytes ≡ Some d) × (doc_of config.schema d ≡ doc))
  own = document_from config bytes doc e

  has_leaves : values_at doc n ≡ leaf_values config.schema own.0
  has_leaves = by (slice_get config.schema.fields n) refl dynamic
    where
      by : (o : Option Field) → slice_get config.schema.fields n ≡ o
          → MatchOption o ⊥ (λ f. (f.kind ≡ kinds.TextList) × (f.tokenizer ≡ tokenizers.Raw) × (f.indexed ≡ true) × (f.fast ≡ false) × (f.tag ≡ false) × (f.positions ≡ false))
          → values_at doc n ≡ leaf_values config.schema own.0
      by None a h = absurd h
      by (Some f) a h =
          ap (λ (x : List DocField). values_at x n) (sym own.1.1)
          ∙ values_dynamic config.schema (leaf_values config.schema own.0) own.0 n f a (its_number config.schema.dynamic n its)
          ∙ ap (λ (k : Kind). leaves_for k (leaf_values config.schema own.0)) h.0

  pub leaf_law : (path text : List ℕ) → Contains (values_at doc n) (values.Text (leaf_text path text)) ↔ IsLeafOf config bytes path text
  leaf_law path text = (into, from)
    where
      into : Contains (values_at doc n) (values.Text (leaf_text path text)) → IsLeafOf config bytes path text
      into h =
          let found = contains_in (leaf_values config.schema own.0) (values.Text (leaf_text path text))
          (subst (λ (vs : List Value). Contains vs (values.Text (leaf_text path text))) has_leaves h) in
          let kept = kept_from (leaf_list config.schema own.0) path text found in
          (own.0, (own.1.0, in_contains (leaf_list config.schema own.0) (path, text) kept.0, kept.1))

      from : IsLeafOf config bytes path text → Contains (values_at doc n) (values.Text (leaf_text path text))
      from h =
          let both : Some h.0 ≡ Some own.0 = sym h.1.0 ∙ own.1.0 in
          let same : h.0 ≡ own.0 = cc in
          let listed : Contains (leaf_list config.schema own.0) (path, text) = subst (λ (d : Data). Contains (leaf_list config.schema d) (path, text)) same h.1.1 in
          let kept = kept_so (leaf_list config.schema own.0) path text (contains_in (leaf_list config.schema own.0) (path, text) listed, h.1.2) in
          subst (λ (vs : List Value). Contains vs (values.Text (leaf_text path text))) (sym has_leaves)
          (in_contains (leaf_values config.schema own.0) (values.Text (leaf_text path text)) kept)
