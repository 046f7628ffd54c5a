-- Lists, an index, packed numbers and a column worked out by hand.
use Rattle.std.specs.Prelude.{◌≡◌, ℕ, ◌^◌, List, [], ◌∷◌, codes, refl}
use Rattle.byte_fields.specs.Spelling.{varint}
use Rattle.doc_value.specs.declared.doc.Value.TheVariants as values
use Rattle.doc_value.specs.declared.schema.Kind.TheVariants as kinds
use Rattle.term_dict.specs.declared.term.Term.{Term}
use Rattle.split_form.specs.Sorted.{sorted}
use Rattle.split_form.specs.Blocks.{blocks_from, index_of}
use Rattle.split_form.specs.Packing.{width_of, of_bits, packed}
use Rattle.split_form.specs.Spelled.{column_bytes}

-- distinct texts, a text before those that go on from it
pub sorted_texts : sorted (codes "pear" ∷ codes "fig" ∷ codes "figs" ∷ codes "pear" ∷ codes "date" ∷ []) ≡ codes "date" ∷ codes "fig" ∷ codes "figs" ∷ codes "pear" ∷ []
sorted_texts = refl

abbrev term : List ℕ → Term
term key = record { key = key; info = record { docs = 1; postings = 0; postings_len = 2; positions = 0; positions_len = 1 } }

-- three terms of 9, 8 and 9 bytes have one block, and as the terms with the numbers 63, 64 and 65 they have one that begins with the second
pub index_of_three : index_of (term (codes "fig") ∷ term (codes "go") ∷ term (codes "hat") ∷ []) ≡ (record { first = codes "fig"; start = 0 }) ∷ []
index_of_three = refl

pub blocks_of_three : blocks_from 63 500 (term (codes "fig") ∷ term (codes "go") ∷ term (codes "hat") ∷ []) ≡ (record { first = codes "go"; start = 509 }) ∷ []
unfolding varint
blocks_of_three = refl

pub width_of_none : width_of 0 ≡ 0
unfolding width_of
width_of_none = refl

pub width_of_one : width_of 1 ≡ 1
unfolding width_of
width_of_one = refl

pub width_of_byte : width_of 255 ≡ 8
unfolding width_of
width_of_byte = refl

pub width_of_more : width_of 256 ≡ 9
unfolding width_of
width_of_more = refl

pub width_of_most : width_of (2 ^ 63) ≡ 64
unfolding width_of
width_of_most = refl

-- 1, 5 and 7 in three bits each: 100 101 11 1
pub packed_three : packed 3 (1 ∷ 5 ∷ 7 ∷ []) ≡ 233 ∷ 1 ∷ []
unfolding packed of_bits
packed_three = refl

pub packed_none : packed 0 (0 ∷ 0 ∷ []) ≡ []
unfolding packed of_bits
packed_none = refl

-- document 0 has `b`, and document 2 has `a`: two entries, two texts, two documents, the least number 0, the width 1, and 1 0
pub column_of_texts : column_bytes kinds.Text ((record { document = 0; values = values.Text (codes "b") ∷ [] }) ∷ (record { document = 2; values = values.Text (codes "a") ∷ [] }) ∷ [])
    ≡ 2 ∷ 2 ∷ 1 ∷ 97 ∷ 1 ∷ 98 ∷ 0 ∷ 0 ∷ 0 ∷ 0 ∷ 2 ∷ 0 ∷ 0 ∷ 0 ∷ 0 ∷ 0 ∷ 0 ∷ 0 ∷ 0 ∷ 0 ∷ 0 ∷ 0 ∷ 1 ∷ 1 ∷ []
unfolding column_bytes width_of packed of_bits varint
column_of_texts = refl

-- documents 0 and 1 have 7, and 10 and 12: the least number 7, the width 3, and 0 3 5
pub column_of_numbers : column_bytes kinds.U64 ((record { document = 0; values = values.U64 7 ∷ [] }) ∷ (record { document = 1; values = values.U64 10 ∷ values.U64 12 ∷ [] }) ∷ [])
    ≡ 3 ∷ 0 ∷ 0 ∷ 0 ∷ 0 ∷ 1 ∷ 0 ∷ 0 ∷ 0 ∷ 1 ∷ 0 ∷ 0 ∷ 0 ∷ 7 ∷ 0 ∷ 0 ∷ 0 ∷ 0 ∷ 0 ∷ 0 ∷ 0 ∷ 3 ∷ 88 ∷ 1 ∷ []
unfolding column_bytes width_of packed of_bits varint
column_of_numbers = refl
