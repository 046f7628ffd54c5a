-- Under a configuration that is accepted the field for what is not mapped stands beside all others.
use Rattle.std.proofs.Common.{◌≡◌, ◌≢◌, ℕ, false, List, ◌∷◌, ◌++◌, Option, Ok, refl, ap, sym, ◌∙◌, subst}
use Rattle.std.specs.Prelude.{MatchOption, codes, slice_get}
use Rattle.doc_mapping.specs.Faults.{has_dot}
use Rattle.doc_value.specs.declared.schema.Field.{Field}
use Rattle.index_config.proofs.Accepted.{accepted-dynamic, accepted-outside}
use Rattle.index_config.specs.Answer.{config_answer}
use Rattle.index_config.specs.declared.config.IndexConfig.{IndexConfig}
use Rattle.index_config.specs.declared.config.Mode.TheVariants as modes
use Rattle.document_laws.specs.ReadBack.{IsBeside}

pub accepted-beside : (text : List ℕ) (config : IndexConfig) → config_answer text ≡ Ok config → IsBeside config.schema
accepted-beside text config e n f dynamic here =
    let held : (config.mode ≡ modes.Dynamic) × MatchOption (slice_get config.schema.fields n) ⊥ (λ f. f.path ≡ codes "_dynamic") =
    subst (λ (o : Option ℕ). MatchOption o (config.mode ≢ modes.Dynamic) (λ n. (config.mode ≡ modes.Dynamic) × MatchOption (slice_get config.schema.fields n) ⊥ (λ f. f.path ≡ codes "_dynamic")))
    dynamic (accepted-dynamic text config e) in
    let named : f.path ≡ codes "_dynamic" = subst (λ (o : Option Field). MatchOption o ⊥ (λ f. f.path ≡ codes "_dynamic")) here held.1 in (
      subst (λ (path : List ℕ). has_dot path ≡ false) (sym named) refl,
      λ m g rest found same. accepted-outside text config e held.0 m g found rest (same ∙ ap (λ (path : List ℕ). path ++ 46 ∷ rest) named),
    )
