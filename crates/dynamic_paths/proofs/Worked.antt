-- Records that were worked out by hand.
use Rattle.std.proofs.Common.{◌≡◌, ℕ, false, true, List, [], ◌∷◌, length, Option, Some, None, option_map, Result, Ok, Err, codes, refl}
use Rattle.std.specs.Fmt.{digits}
use Rattle.std.proofs.Math.ListN.{replicate}
use Rattle.serde_json.specs.Data.{Data, string, object, no_members, member}
use Rattle.serde_json.specs.Read.{read}
use Rattle.serde_json.proofs.OnLiterals.{serde_json_on_literals}
use Rattle.doc_value.specs.declared.schema.Field.{Field}
use Rattle.doc_value.specs.declared.schema.Kind.TheVariants as kinds
use Rattle.doc_value.specs.declared.schema.Tokenizer.TheVariants as tokenizers
use Rattle.doc_value.specs.declared.schema.Schema.{Schema}
use Rattle.dynamic_paths.specs.declared.fault.LeafFault.{LeafFault}
use Rattle.dynamic_paths.specs.declared.fault.LeafFault.TheVariants.{TooManyLeaves}
use Rattle.dynamic_paths.specs.LeafTexts.{Leaf, leaf_text, fitting_texts}
use Rattle.dynamic_paths.specs.Leaves.{answer, answer_of}

abbrev field : List ℕ → Field
field path = record { path = path; kind = kinds.Text; fast = false; indexed = true; tag = false; tokenizer = tokenizers.Raw; positions = false }

-- a field of the record itself, and one in an object within an object
abbrev schema : Schema
schema = record { fields = field (codes "body") ∷ field (codes "o.p.q") ∷ []; timestamp = None; dynamic = None }

-- the leaf texts of a record in JSON
abbrev kept : List ℕ → Option (Result (List (List ℕ)) LeafFault)
kept text = option_map (answer schema) (read text)

abbrev are : List (List ℕ) → Option (Result (List (List ℕ)) LeafFault)
are texts = Some (Ok texts)

-- texts, whole numbers and truth values are leaves, a fraction is not; keys stand in byte order, an array's values have its path
of_each_kind : kept (codes "{\"body\":\"red\",\"user\":{\"id\":7,\"ok\":true},\"f\":1.5,\"tags\":[\"x\",\"y\"]}")
    ≡ are (codes "4:tags:x" ∷ codes "4:tags:y" ∷ codes "7:user.id:7" ∷ codes "7:user.ok:true" ∷ [])
unfolding digits serde_json_on_literals
of_each_kind = refl

-- what a field takes is no leaf, nor what lies below it, nor a plain value where an object lies
mapped : kept (codes "{\"body\":{\"r\":1},\"o\":{\"p\":{\"q\":\"x\",\"w\":1}}}") ≡ are (codes "5:o.p.w:1" ∷ [])
unfolding digits serde_json_on_literals
mapped = refl

-- a key with a dot has the path of the keys that it stands for, and the field of that path does not take it
dotted_object : kept (codes "{\"o.p\":{\"w\":1}}") ≡ are (codes "5:o.p.w:1" ∷ [])
unfolding digits serde_json_on_literals
dotted_object = refl

dotted_plain : kept (codes "{\"o.p\":5}") ≡ are []
unfolding digits serde_json_on_literals
dotted_plain = refl

dotted_field : kept (codes "{\"o.p.q\":{\"r\":1}}") ≡ are []
unfolding digits serde_json_on_literals
dotted_field = refl

-- leaves stand by the keys of each object, and not by their paths
by_keys : kept (codes "{\"a.b\":2,\"a\":{\"z\":1,\"b\":3}}") ≡ are (codes "3:a.b:3" ∷ codes "3:a.z:1" ∷ codes "3:a.b:2" ∷ [])
unfolding digits serde_json_on_literals
by_keys = refl

-- a leaf that stands twice is listed twice
twice : kept (codes "{\"t\":[\"x\",\"x\"]}") ≡ are (codes "1:t:x" ∷ codes "1:t:x" ∷ [])
unfolding digits serde_json_on_literals
twice = refl

-- arrays in arrays, and objects in arrays
nested : kept (codes "{\"t\":[[\"x\"],[{\"u\":1}]],\"o\":[5,{\"w\":1}]}") ≡ are (codes "3:o.w:1" ∷ codes "1:t:x" ∷ codes "3:t.u:1" ∷ [])
unfolding digits serde_json_on_literals
nested = refl

-- numbers in 64 bits, with a sign or without; one past them and one with an exponent are floats
numbers : kept (codes "{\"i\":-7,\"u\":18446744073709551615,\"v\":18446744073709551616,\"w\":1e2,\"x\":null}")
    ≡ are (codes "1:i:-7" ∷ codes "1:u:18446744073709551615" ∷ [])
unfolding digits serde_json_on_literals
numbers = refl

-- a record's own key `_dynamic` is a leaf as any other, and an empty key has a path too
odd_keys : kept (codes "{\"_dynamic\":\"x\",\"\":{\"a\":1}}") ≡ are (codes "2:.a:1" ∷ codes "8:_dynamic:x" ∷ [])
unfolding digits serde_json_on_literals
odd_keys = refl

-- The same with a field for what is not mapped: at its path nothing is mapped, and nothing lies in an object there.
abbrev with_dynamic : Schema
with_dynamic = record { fields = field (codes "_dynamic") ∷ field (codes "body") ∷ []; timestamp = None; dynamic = Some 0 }

its_own_path : option_map (answer with_dynamic) (read (codes "{\"_dynamic\":\"x\",\"body\":\"red\"}")) ≡ are (codes "8:_dynamic:x" ∷ [])
unfolding digits serde_json_on_literals
its_own_path = refl

below_its_path : option_map (answer with_dynamic) (read (codes "{\"_dynamic\":{\"body\":1},\"body\":\"red\"}")) ≡ are (codes "13:_dynamic.body:1" ∷ [])
unfolding digits serde_json_on_literals
below_its_path = refl

-- an array has no members
no_object : kept (codes "[\"x\"]") ≡ are []
unfolding digits serde_json_on_literals
no_object = refl

-- 255 bytes are kept, and 256 dropped
of_length : ℕ → Data
of_length n = object (member (codes "k") (string (replicate n 120)) no_members)

longest : answer schema (of_length 251) ≡ Ok (leaf_text (codes "k") (replicate 251 120) ∷ [])
unfolding digits of_length
longest = refl

too_long : answer schema (of_length 252) ≡ Ok []
unfolding digits of_length
too_long = refl

-- 65,536 leaves are given, and one more is too many, also where their leaf texts are dropped
most : (leaves : List Leaf) → length leaves ≡ 65536 → answer_of leaves ≡ Ok (fitting_texts leaves)
most leaves n = rw n refl

one_too_many : (leaves : List Leaf) → length leaves ≡ 65537 → answer_of leaves ≡ Err (TooManyLeaves 65537)
one_too_many leaves n = rw n refl
