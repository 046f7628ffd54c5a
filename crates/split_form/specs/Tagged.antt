-- The times and the tags of documents.
use Rattle.std.specs.Prelude.{ℕ, ℤ, List, [], ◌∷◌, Option, Some, None, length, map, nat_le, if◌then◌else◌}
use Rattle.std.specs.List.{flat_map, fold}
use Rattle.std.specs.Int.{int_min, int_max}
use Rattle.doc_value.specs.declared.doc.Value.{Value}
use Rattle.doc_value.specs.declared.facts.Tags.{Tags}
use Rattle.doc_value.specs.declared.facts.Tags.TheVariants.{Many, Listed}
use Rattle.doc_value.specs.declared.facts.FieldTags.{FieldTags}
use Rattle.doc_value.specs.declared.schema.Field.{Field}
use Rattle.doc_value.specs.Documents.{values_in}
use Rattle.split_states.specs.declared.facts.Times.{Times}
use Rattle.split_bundle.specs.declared.placed.Placed.{Placed}
use Rattle.split_bundle.specs.Tagged.{max_tags, second_of, tag_numbers, value_term}
use Rattle.split_form.specs.Sorted.{sorted}

-- all values of a field, document by document
abbrev pub values_of : ℕ → List Placed → List Value
values_of number documents = flat_map (λ d. values_in d.doc number) documents

-- the least and the greatest of some seconds, if there are some
abbrev pub ends_of : List ℤ → Option Times
ends_of [] = None
ends_of (z ∷ zs) = Some (record { least = fold int_min z zs; greatest = fold int_max z zs })

-- the times of documents: of the values of the timestamp field
abbrev pub times_of : Option ℕ → List Placed → Option Times
times_of None documents = None
times_of (Some number) documents = ends_of (flat_map second_of (values_of number documents))

-- distinct terms, unless they are more than 100
abbrev pub listed : List (List ℕ) → Tags
listed terms = if nat_le (length terms) max_tags then Listed terms else Many

-- what is known of a field's terms
abbrev pub field_tags : List Placed → ℕ → FieldTags
field_tags documents number = record { number = number; tags = listed (sorted (flat_map value_term (values_of number documents))) }

-- what is known of each tag field
abbrev pub tags_of : List Field → List Placed → List FieldTags
tags_of fields documents = map (field_tags documents) (tag_numbers 0 fields)
