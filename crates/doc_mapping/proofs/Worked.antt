-- A record that was worked out by hand.
use Rattle.std.proofs.Common.{◌≡◌, ℕ, false, true, List, [], ◌∷◌, Some, None, option_map, codes, refl}
use Rattle.std.specs.Fmt.{digits}
use Rattle.serde_json.specs.Read.{read}
use Rattle.serde_json.proofs.OnLiterals.{serde_json_on_literals}
use Rattle.doc_value.specs.declared.schema.Field.{Field}
use Rattle.doc_value.specs.declared.schema.Kind.{Kind}
use Rattle.doc_value.specs.declared.schema.Kind.TheVariants as kinds
use Rattle.doc_value.specs.declared.schema.Tokenizer.TheVariants as tokenizers
use Rattle.doc_value.specs.declared.schema.Schema.{Schema}
use Rattle.doc_value.specs.declared.doc.Value.TheVariants as values
use Rattle.doc_mapping.specs.Documents.{doc_of}

abbrev field : List ℕ → Kind → Field
field path kind = record { path = path; kind = kind; fast = false; indexed = true; tag = false; tokenizer = tokenizers.Raw; positions = false }

-- a field for what is not mapped, and a text
abbrev schema : Schema
schema = record { fields = field (codes "_dynamic") kinds.TextList ∷ field (codes "body") kinds.Text ∷ []; timestamp = None; dynamic = Some 0 }

-- what is mapped stands at its field, and the leaf texts of what is not at theirs
of_both : option_map (doc_of schema) (read (codes "{\"body\":\"red\",\"user\":{\"id\":7,\"ok\":true},\"f\":1.5,\"tags\":[\"x\",\"y\"]}"))
    ≡ Some (record {
      number = 0;
      values = values.Text (codes "4:tags:x") ∷ values.Text (codes "4:tags:y") ∷ values.Text (codes "7:user.id:7") ∷ values.Text (codes "7:user.ok:true") ∷ [];
    } ∷ record { number = 1; values = values.Text (codes "red") ∷ [] } ∷ [])
unfolding digits serde_json_on_literals
of_both = refl

-- a record's own key of the path of that field is a leaf
its_own_path : option_map (doc_of schema) (read (codes "{\"_dynamic\":[\"x\"]}")) ≡ Some (record { number = 0; values = values.Text (codes "8:_dynamic:x") ∷ [] } ∷ [])
unfolding digits serde_json_on_literals
its_own_path = refl
