-- What a document gets of the leaves of its record.
use Rattle.std.specs.Prelude.{◌≡◌, Bool, true, false, List, [], Option, Some, None}
use Rattle.serde_json.specs.Data.{Data}
use Rattle.doc_value.specs.declared.schema.Field.{Field}
use Rattle.doc_value.specs.declared.schema.Kind.{Kind}
use Rattle.doc_value.specs.declared.schema.Kind.TheVariants as kinds
use Rattle.doc_value.specs.declared.schema.Schema.{Schema}
use Rattle.doc_value.specs.declared.doc.Value.{Value}
use Rattle.doc_mapping.specs.declared.leaf_texts.LeafTexts.{LeafTexts}
use Rattle.doc_mapping.specs.declared.leaf_texts.LeafTexts.TheVariants.{Dropped, Kept, TooMany}
use Rattle.doc_mapping.specs.declared.reject.Reject.TheVariants.{TooManyLeaves}
use Rattle.doc_mapping.specs.Answer.{leaf_fault}
use Rattle.doc_mapping.specs.Documents.{leaf_values, leaves_for}

-- the leaf texts of a record under a schema, or that there are too many
abbrev pub AreOf : Schema → Data → LeafTexts → Type 0
AreOf schema d Dropped = schema.dynamic ≡ None
AreOf schema d (Kept number vs) = (schema.dynamic ≡ Some number) × (leaf_fault schema d ≡ None) × (vs ≡ leaf_values schema d)
AreOf schema d (TooMany count) = leaf_fault schema d ≡ Some (TooManyLeaves count)

abbrev pub is_list : Kind → Bool
is_list kinds.TextList = true
is_list _ = false

-- the field of a number, if there is one, is a list of texts; what it then has of these leaves
abbrev pub takes_leaves : Option Field → Bool
takes_leaves None = false
takes_leaves (Some f) = is_list f.kind

abbrev pub leaves_at : Option Field → List Value → List Value
leaves_at None vs = []
leaves_at (Some f) vs = leaves_for f.kind vs
