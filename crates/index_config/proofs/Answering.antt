-- The answer by what a text is and by the first thing that is wrong with it.
use Rattle.std.proofs.Common.{◌≡◌, ℕ, List, [], ◌∷◌, ◌++◌, Option, Some, None, Result, Ok, Err, slice_get, refl, sym, ap, ◌∙◌, subst, inl, inr}
use Rattle.std.specs.Result.{MatchResult}
use Rattle.std.specs.Str.{is_utf8, IsUtf8}
use Rattle.std.proofs.lemmas.Bool.{cases_Bool}
use Rattle.std.proofs.lemmas.Str.{IsUtf8-from_is_utf8, is_utf8-from_IsUtf8}
use Rattle.toml.specs.Data.{Data, Members, table}
use Rattle.toml.specs.Parse.{parse_document}
use Rattle.index_config.specs.declared.config.IndexConfig.{IndexConfig}
use Rattle.index_config.specs.declared.config_error.ConfigError.{ConfigError}
use Rattle.index_config.specs.declared.config_error.ConfigError.TheVariants.{NotToml}
use Rattle.index_config.specs.Answer.{config_answer, read_answer, config_faults, first_answer, IsMemory}
use Rattle.index_config.specs.declared.raw.RawField.{RawField}
use Rattle.index_config.specs.Tables.{table_faults}
use Rattle.index_config.specs.Fields.{all_raws, whole_faults, schema_of, config_with}

-- no text
pub answer-no_text : (bytes : List ℕ) → ¬ (IsUtf8 bytes) → config_answer bytes ≡ Err NotToml
answer-no_text bytes lacks =
    elim (cases_Bool (is_utf8 bytes)) [
      | inl is_text ↦ absurd (lacks (IsUtf8-from_is_utf8 bytes is_text))
      | inr not_text ↦ rw not_text refl
    ]

-- a text that is no TOML
pub answer-no_toml : (bytes text : List ℕ) → IsUtf8 bytes → text ≡ bytes → parse_document text ≡ None → config_answer bytes ≡ Err NotToml
answer-no_toml bytes text is_text e r = rw (is_utf8-from_IsUtf8 bytes is_text, ← e, r) refl

-- a text that is TOML
pub answer-toml : (bytes text : List ℕ) (top : Members) (root : Data) → IsUtf8 bytes → text ≡ bytes
    → parse_document text ≡ Some top → root ≡ table top → config_answer bytes ≡ read_answer (Some root)
answer-toml bytes text top root is_text e r v = rw (is_utf8-from_IsUtf8 bytes is_text, ← e, r, v) refl

pub answered : (result : Result IndexConfig ConfigError) (x y : Result IndexConfig ConfigError) → y ≡ x
    → MatchResult result (λ config. x ≡ Ok config) (λ refusal. ¬ (IsMemory refusal) → x ≡ Err refusal)
    → MatchResult result (λ config. y ≡ Ok config) (λ refusal. ¬ (IsMemory refusal) → y ≡ Err refusal)
answered result x y e h =
    subst (λ (z : Result IndexConfig ConfigError). MatchResult result (λ config. z ≡ Ok config) (λ refusal. ¬ (IsMemory refusal) → z ≡ Err refusal)) (sym e) h

none-first : (faults : List ConfigError) → slice_get faults 0 ≡ None → faults ≡ []
none-first [] e = refl
none-first (f ∷ fs) e = cc

some-first : (faults : List ConfigError) (root : Data) (fault : ConfigError) → slice_get faults 0 ≡ Some fault
    → first_answer faults root ≡ Err fault
some-first [] root fault e = cc
some-first (f ∷ fs) root fault e = let same : f ≡ fault = cc in ap Err same

front-first : (xs ys : List ConfigError) (fault : ConfigError) → slice_get xs 0 ≡ Some fault → slice_get (xs ++ ys) 0 ≡ Some fault
front-first [] ys fault e = absurd (cc)
front-first (x ∷ xs) ys fault e = e

same-faults : (root : Data) (raws : List RawField) → slice_get (table_faults root) 0 ≡ None → raws ≡ all_raws root → whole_faults root raws ≡ config_faults root
same-faults root raws t r =
    ap (λ x. whole_faults root x) r ∙ sym (ap (λ x. x ++ whole_faults root (all_raws root)) (none-first (table_faults root) t))

-- the answer where something is wrong with the tables, where it is with the whole, and where nothing is
pub answer-tables : (root : Data) (first : Option ConfigError) (fault : ConfigError) → first ≡ slice_get (table_faults root) 0 → first ≡ Some fault
    → read_answer (Some root) ≡ Err fault
answer-tables root first fault f e =
    some-first (config_faults root) root fault (front-first (table_faults root) (whole_faults root (all_raws root)) fault (sym f ∙ e))

pub answer-fault : (root : Data) (raws seen : List RawField) (first : Option ConfigError) (fault : ConfigError) → slice_get (table_faults root) 0 ≡ None
    → raws ≡ all_raws root → seen ≡ raws → first ≡ slice_get (whole_faults root seen) 0 → first ≡ Some fault → read_answer (Some root) ≡ Err fault
answer-fault root raws seen first fault t r s f e =
    some-first (config_faults root) root fault (ap (λ x. slice_get x 0) (sym (same-faults root seen t (s ∙ r))) ∙ sym f ∙ e)

pub answer-config : (root : Data) (raws seen : List RawField) (first : Option ConfigError) (config : IndexConfig) → slice_get (table_faults root) 0 ≡ None
    → raws ≡ all_raws root → seen ≡ raws → first ≡ slice_get (whole_faults root seen) 0 → first ≡ None
    → config ≡ config_with root raws (schema_of root raws) → read_answer (Some root) ≡ Ok config
answer-config root raws seen first config t r s f e c =
    let none : config_faults root ≡ [] = sym (same-faults root seen t (s ∙ r)) ∙ none-first (whole_faults root seen) (sym f ∙ e) in
    rw none (ap Ok (sym (c ∙ ap (λ x. config_with root x (schema_of root x)) r)))
