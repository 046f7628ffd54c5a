-- What is looked up for a text.
use Rattle.std.specs.Prelude.{ℕ, List, [], ◌∷◌, ◌++◌, map, Option, Some, None, if◌then◌else◌}
use Rattle.doc_value.specs.declared.schema.Field.{Field}
use Rattle.doc_value.specs.declared.doc.Value.{Value}
use Rattle.doc_value.specs.Terms.{term_bytes}
use Rattle.query_ast.specs.FieldTokens.{field_tokens}
use Rattle.query_ast.specs.Meaning.{is_text}
use Rattle.query_ast.specs.Spelled.{spelled}
use Rattle.query_ast.specs.declared.query.Item.{Item}
use Rattle.split_bundle.specs.Keys.{field_key}
use Rattle.doc_sets.specs.declared.dictionary_lookup.Lookup.{Lookup}
use Rattle.doc_sets.specs.declared.dictionary_lookup.Lookup.TheVariants.{Documents, Places}
use Rattle.doc_sets.specs.Needed.{token_keys}

-- the key of a value, if there is one
abbrev pub value_keys : ℕ → Option Value → List (List ℕ)
value_keys number None = []
value_keys number (Some v) = field_key number (term_bytes v) ∷ []

-- the keys of the tokens of a text, or of the value that it spells
abbrev pub text_keys : Field → ℕ → List ℕ → List (List ℕ)
text_keys f number text = if is_text f.kind then token_keys number (field_tokens f text) else value_keys number (spelled f.kind text)

-- the documents of a key, or where there are several keys their places
abbrev pub lookups_for : List (List ℕ) → List Lookup
lookups_for [] = []
lookups_for (key ∷ []) = Documents key ∷ []
lookups_for keys = map Places keys

abbrev pub text_lookups : Field → ℕ → List ℕ → List Lookup
text_lookups f number text = lookups_for (text_keys f number text)

-- the same of the members of a set
abbrev pub item_lookups : Field → ℕ → List Item → List Lookup
item_lookups f number [] = []
item_lookups f number (item ∷ items) = text_lookups f number item.text ++ item_lookups f number items

-- the key of a text of a field of texts, if it is one token
abbrev pub only : List (List ℕ) → Option (List ℕ)
only [] = None
only (key ∷ []) = Some key
only (key ∷ more ∷ keys) = None

abbrev pub one_token : Field → ℕ → List ℕ → Option (List ℕ)
one_token f number text = if is_text f.kind then only (token_keys number (field_tokens f text)) else None
