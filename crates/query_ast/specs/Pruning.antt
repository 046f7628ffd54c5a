-- Whether a document with some tag facts can meet a query.
use Rattle.std.specs.Prelude.{◌≡◌, ℕ, ◌==◌, ◌≤◌, ℤ, Bool, true, false, not, ◌&&◌, ◌||◌, List, [], ◌∷◌, length, Option, Some, None, option_map, slice_get, if◌then◌else◌}
use Rattle.std.specs.List.{All}
use Rattle.std.specs.Option.{option_map_or}
use Rattle.std.specs.Str.{bytes_eq}
use Rattle.doc_value.specs.declared.schema.Field.{Field}
use Rattle.doc_value.specs.declared.schema.Kind.{Kind}
use Rattle.doc_value.specs.declared.schema.Schema.{Schema}
use Rattle.doc_value.specs.declared.schema.Tokenizer.{Tokenizer}
use Rattle.doc_value.specs.declared.schema.Tokenizer.TheVariants as tokenizers
use Rattle.doc_value.specs.declared.doc.DocField.{DocField}
use Rattle.doc_value.specs.declared.doc.Value.{Value}
use Rattle.doc_value.specs.declared.doc.Value.TheVariants as values
use Rattle.doc_value.specs.declared.facts.Tags.{Tags}
use Rattle.doc_value.specs.declared.facts.Tags.TheVariants.{Many, Listed}
use Rattle.doc_value.specs.declared.facts.FieldTags.{FieldTags}
use Rattle.doc_value.specs.Terms.{term_bytes}
use Rattle.text_tokens.specs.Tokens.{max_token}
use Rattle.query_ast.specs.declared.query.Item.{Item}
use Rattle.query_ast.specs.declared.query.Query.{Query}
use Rattle.query_ast.specs.Sought.{Sought, Soughts, no_more, more, view}
use Rattle.query_ast.specs.Sought as sought
use Rattle.query_ast.specs.Spelled.{spelled}
use Rattle.query_ast.specs.Meaning.{is_text}
use Rattle.doc_value.specs.Documents.{values_in}

-- some listed term is this one
abbrev pub is_listed : List ℕ → List (List ℕ) → Bool
is_listed term [] = false
is_listed term (t ∷ ts) = bytes_eq t term || is_listed term ts

-- a text that spells no value has no term, and none is listed
abbrev pub has_listed : Option (List ℕ) → List (List ℕ) → Bool
has_listed None terms = false
has_listed (Some term) terms = is_listed term terms

-- what is known of the values doesn't rule this term out
abbrev pub allows : Tags → Option (List ℕ) → Bool
allows Many term = true
allows (Listed terms) term = has_listed term terms

-- the same of a field: one that the facts don't list counts as having many values
abbrev pub allowed : List FieldTags → ℕ → Option (List ℕ) → Bool
allowed [] number term = true
allowed (f ∷ fs) number term = if f.number == number then allows f.tags term else allowed fs number term

-- whether what is known lists the values of a field
abbrev pub lists : Tags → Bool
lists Many = false
lists (Listed terms) = true

abbrev pub has_list : List FieldTags → ℕ → Bool
has_list [] number = false
has_list (f ∷ fs) number = if f.number == number then lists f.tags else has_list fs number

-- the terms of numbers and truth values
abbrev pub signed_term : ℤ → List ℕ
signed_term z = term_bytes (values.I64 z)

abbrev pub unsigned_term : ℕ → List ℕ
unsigned_term n = term_bytes (values.U64 n)

abbrev pub truth_term : Bool → List ℕ
truth_term b = term_bytes (values.Bool b)

-- the term of the value that a text spells
abbrev pub term_of : Kind → List ℕ → Option (List ℕ)
term_of kind text = option_map term_bytes (spelled kind text)

abbrev pub is_raw : Tokenizer → Bool
is_raw tokenizers.Raw = true
is_raw _ = false

-- a tag field is looked up, unless its texts are cut into tokens
abbrev pub is_looked_up : Field → Bool
is_looked_up f = f.tag && (is_raw f.tokenizer || not (is_text f.kind))

abbrev pub can_equal : Schema → List FieldTags → ℕ → List ℕ → Bool
can_equal s facts number text = option_map_or (λ f. if is_looked_up f then allowed facts number (term_of f.kind text) else true) (slice_get s.fields number) true

abbrev pub some_can_equal : Schema → List FieldTags → ℕ → List Item → Bool
some_can_equal s facts number [] = false
some_can_equal s facts number (i ∷ is) = can_equal s facts number i.text || some_can_equal s facts number is

-- a set on a field that is looked up: one without items is ruled out where the values are listed, and not where they are many
abbrev pub can_be_among : Schema → List FieldTags → ℕ → List Item → Bool
can_be_among s facts number items = option_map_or (λ f. if is_looked_up f && has_list facts number then some_can_equal s facts number items else true) (slice_get s.fields number) true

abbrev mutual
  pub can_match : Schema → List FieldTags → Sought → Bool
  can_match s facts (sought.Word n text) = can_equal s facts n text
  can_match s facts (sought.Quoted n text) = can_equal s facts n text
  can_match s facts (sought.AnyOf n items) = can_be_among s facts n items
  can_match s facts (sought.And qs) = all_can s facts qs
  can_match s facts (sought.Or qs) = some_can s facts qs
  can_match s facts _ = true

  pub all_can : Schema → List FieldTags → Soughts → Bool
  all_can s facts no_more = true
  all_can s facts (more q qs) = can_match s facts q && all_can s facts qs

  pub some_can : Schema → List FieldTags → Soughts → Bool
  some_can s facts no_more = false
  some_can s facts (more q qs) = can_match s facts q || some_can s facts qs

-- the same of a list of trees in memory
abbrev pub all_can_in : Schema → List FieldTags → List Query → Bool
all_can_in s facts [] = true
all_can_in s facts (q ∷ qs) = can_match s facts (view q) && all_can_in s facts qs

abbrev pub some_can_in : Schema → List FieldTags → List Query → Bool
some_can_in s facts [] = false
some_can_in s facts (q ∷ qs) = can_match s facts (view q) || some_can_in s facts qs

-- a value has a term: a text of at most 255 bytes, and each other value
abbrev pub HasTerm : Value → Type 0
HasTerm (values.Text t) = length t ≤ max_token
HasTerm _ = Unit {0}

-- the facts hold of a document: the term of each value that it has of a field is one that the facts allow there
abbrev pub AreFactsOf : List FieldTags → List DocField → Type 0
AreFactsOf facts doc = (n : ℕ) → All (λ v. HasTerm v → allowed facts n (Some (term_bytes v)) ≡ true) (values_in doc n)
