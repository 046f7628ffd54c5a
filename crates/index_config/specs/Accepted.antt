-- What holds of the fields of a configuration.
use Rattle.std.specs.Prelude.{◌≡◌, ◌≢◌, ℕ, ◌<◌, ◌≤◌, ◌==◌, true, false, List, [], ◌∷◌, ◌++◌, codes, length, slice_get, Some, IfSome, MatchOption}
use Rattle.std.specs.Str.{IsUtf8}
use Rattle.doc_value.specs.declared.schema.Field.{Field}
use Rattle.doc_value.specs.declared.schema.Kind.{Kind}
use Rattle.doc_value.specs.declared.schema.Kind.TheVariants as kinds
use Rattle.doc_value.specs.declared.schema.Tokenizer.{Tokenizer}
use Rattle.doc_value.specs.declared.schema.Tokenizer.TheVariants as tokenizers
use Rattle.doc_value.specs.declared.schema.Schema.{Schema}
use Rattle.index_config.specs.declared.config.Mode.{Mode}
use Rattle.index_config.specs.declared.config.Mode.TheVariants as modes
use Rattle.index_config.specs.declared.config.Policy.{Policy}
use Rattle.index_config.specs.declared.config.Policy.TheVariants as policies
use Rattle.index_config.specs.declared.config.IndexConfig.{IndexConfig}

-- no path begins with a dot
abbrev pub BeginsPlain : List ℕ → Type 0
BeginsPlain [] = Unit {0}
BeginsPlain (c ∷ cs) = (c == 46) ≡ false

abbrev pub BeginPlain : List Field → Type 0
BeginPlain fields = (n : ℕ) (f : Field) → slice_get fields n ≡ Some f → BeginsPlain f.path

abbrev pub IsBetween : ℕ → ℕ → ℕ → Type 0
IsBetween least most n = (least ≤ n) × (n ≤ most)

-- the numbers of a merge policy; its period is in seconds
abbrev pub HasPolicyRanges : Policy → Type 0
HasPolicyRanges (policies.StableLog least factor greatest period) =
    IsBetween 1 16777216 least × IsBetween 2 100 factor × IsBetween factor 100 greatest × (period ≤ 2147483647)
HasPolicyRanges (policies.LimitMerge factor greatest ops period) =
    IsBetween 2 100 factor × IsBetween factor 100 greatest × IsBetween 1 100 ops × (period ≤ 2147483647)
HasPolicyRanges policies.NoMerge = Unit {0}

-- each number of a configuration lies within its range
pub record HasRanges (config : IndexConfig) : Type 0 where
  pub commit_timeout : IsBetween 1 86400 config.commit_timeout
  pub docs_target : IsBetween 1 16777216 config.docs_target
  pub policy : HasPolicyRanges config.policy
  pub staged_grace : IsBetween 1 2147483647 config.staged_grace
  pub deletion_grace : IsBetween 1 2147483647 config.deletion_grace
  pub retention : IfSome config.retention (IsBetween 1 2147483647)

-- a tag field is a text that is one token, a number or a truth value
abbrev pub IsTagKind : Kind → Tokenizer → Type 0
IsTagKind kinds.Text tokenizers.Raw = Unit {0}
IsTagKind kinds.I64 tokenizer = Unit {0}
IsTagKind kinds.U64 tokenizer = Unit {0}
IsTagKind kinds.Bool tokenizer = Unit {0}
IsTagKind _ tokenizer = ⊥

abbrev pub AreTags : List Field → Type 0
AreTags fields = (n : ℕ) (f : Field) → slice_get fields n ≡ Some f → f.tag ≡ true → IsTagKind f.kind f.tokenizer

abbrev pub IsTextKind : Kind → Type 0
IsTextKind kinds.Text = Unit {0}
IsTextKind kinds.TextList = Unit {0}
IsTextKind _ = ⊥

-- each of these numbers is that of a field of texts
abbrev pub AreTextFields : List Field → List ℕ → Type 0
AreTextFields fields [] = Unit {0}
AreTextFields fields (n ∷ ns) = MatchOption (slice_get fields n) ⊥ (λ f. IsTextKind f.kind) × AreTextFields fields ns

-- exactly in mode dynamic a field holds what is not mapped, and it is the one whose path is `_dynamic`
abbrev pub HoldsUnmapped : Mode → Schema → Type 0
HoldsUnmapped mode schema = MatchOption schema.dynamic (mode ≢ modes.Dynamic)
    (λ n. (mode ≡ modes.Dynamic) × MatchOption (slice_get schema.fields n) ⊥ (λ f. f.path ≡ codes "_dynamic"))

-- a path doesn't go on behind `_dynamic` and a dot
abbrev pub IsOutside : List ℕ → Type 0
IsOutside path = (rest : List ℕ) → path ≢ codes "_dynamic." ++ rest

abbrev pub AreOutside : List Field → Type 0
AreOutside fields = (n : ℕ) (f : Field) → slice_get fields n ≡ Some f → IsOutside f.path
