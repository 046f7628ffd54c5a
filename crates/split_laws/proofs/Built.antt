-- A built split is the file of its documents, with their facts.
use Rattle.std.proofs.Common.{◌≡◌, ℕ, List, length, ◌∙◌, ap}
use Rattle.sha2.specs.Sha256.{sha256}
use Rattle.doc_value.specs.declared.schema.Schema.{Schema}
use Rattle.split_states.specs.declared.facts.RowFacts.{RowFacts}
use Rattle.split_bundle.specs.declared.placed.Placed.{Placed}
use Rattle.split_build.specs.declared.builder.BuiltSplit.{BuiltSplit}
use Rattle.split_build.specs.Builders.{IsBuilt}
use Rattle.split_build.specs.Facts.{AreFacts}
use Rattle.split_form.specs.Facts.{facts_of}
use Rattle.split_form.specs.Form.{file_of}
use Rattle.split_laws.proofs.Tags.{field_tags_one}
use Rattle.split_laws.proofs.Times.{times_one}

-- the same facts, one by one
record AreSame (f g : RowFacts) : Type 0 where
  docs : f.docs ≡ g.docs
  rejected : f.rejected ≡ g.rejected
  weight : f.weight ≡ g.weight
  size : f.size ≡ g.size
  digest : f.digest ≡ g.digest
  times : f.times ≡ g.times
  tags : f.tags ≡ g.tags

same_facts : (f g : RowFacts) → AreSame f g → f ≡ g
same_facts f g e = λ i. record {
  docs = e.docs i;
  rejected = e.rejected i;
  weight = e.weight i;
  size = e.size i;
  digest = e.digest i;
  times = e.times i;
  tags = e.tags i;
}

pub facts_one : (s : Schema) (ds : List Placed) (rejected : ℕ) (bytes : List ℕ) (f : RowFacts) → AreFacts s ds rejected bytes f → bytes ≡ file_of s ds → f ≡ facts_of s ds rejected
unfolding facts_of
facts_one s ds rejected bytes f h is = same_facts f (facts_of s ds rejected) (record {
  docs = h.docs;
  rejected = h.rejected_are;
  weight = h.weight;
  size = h.size ∙ ap (λ (l : List ℕ). length l) is;
  digest = h.digest ∙ ap (λ (l : List ℕ). sha256 l) is;
  times = times_one s.timestamp ds f.times h.times;
  tags = field_tags_one s.fields ds f.tags h.tags;
})

pub built_one : (s : Schema) (ds : List Placed) (b : BuiltSplit) → IsBuilt s ds b → b.bytes ≡ file_of s ds → (b.bytes ≡ file_of s ds) × (b.facts ≡ facts_of s ds 0)
built_one s ds b h is = (is, facts_one s ds 0 b.bytes b.facts h.facts is)
