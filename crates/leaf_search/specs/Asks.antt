-- What a query looks up in a split.
use Rattle.std.specs.Prelude.{ℕ, List, [], ◌∷◌, ◌++◌, slice_get}
use Rattle.std.specs.Option.{option_map_or}
use Rattle.doc_value.specs.declared.schema.Field.{Field}
use Rattle.doc_value.specs.declared.schema.Schema.{Schema}
use Rattle.query_ast.specs.FieldTokens.{prefix_text}
use Rattle.query_ast.specs.Sought.{Sought, Soughts, no_more, more}
use Rattle.query_ast.specs.Sought as sought
use Rattle.split_bundle.specs.Keys.{field_key, presence_key}
use Rattle.split_bundle.specs.declared.footer.Footer.{Footer}
use Rattle.doc_sets.specs.declared.dictionary_lookup.Lookup.{Lookup}
use Rattle.doc_sets.specs.declared.dictionary_lookup.Lookup.TheVariants.{Documents, Walk}
use Rattle.doc_sets.specs.Texts.{text_lookups, item_lookups}
use Rattle.doc_sets.specs.Ranged.{range_lookup}
use Rattle.doc_sets.specs.declared.wanted.Wanted.TheVariants.{Each}

-- what is looked up of a field, if the schema has it
abbrev pub of_field : Schema → ℕ → (Field → List Lookup) → List Lookup
of_field s n looked = option_map_or looked (slice_get s.fields n) []

abbrev mutual
  -- of words, quoted texts, members and presence the keys, of prefixes the walks over the keys that begin so, and of ranges the same or
  -- the columns
  pub lookups_of : Footer → Schema → Sought → List Lookup
  lookups_of footer s sought.All = []
  lookups_of footer s sought.Nothing = []
  lookups_of footer s (sought.Word n text) = of_field s n (λ f. text_lookups f n text)
  lookups_of footer s (sought.Quoted n text) = of_field s n (λ f. text_lookups f n text)
  lookups_of footer s (sought.Prefix n text) = of_field s n (λ f. Walk (field_key n (prefix_text f text)) Each ∷ [])
  lookups_of footer s (sought.Exists n) = of_field s n (λ f. Documents (presence_key n) ∷ [])
  lookups_of footer s (sought.Range n low high) = of_field s n (λ f. range_lookup footer n f low high ∷ [])
  lookups_of footer s (sought.AnyOf n items) = of_field s n (λ f. item_lookups f n items)
  lookups_of footer s (sought.Not q) = lookups_of footer s q
  lookups_of footer s (sought.And qs) = lookups_of_each footer s qs
  lookups_of footer s (sought.Or qs) = lookups_of_each footer s qs

  pub lookups_of_each : Footer → Schema → Soughts → List Lookup
  lookups_of_each footer s no_more = []
  lookups_of_each footer s (more q qs) = lookups_of footer s q ++ lookups_of_each footer s qs
