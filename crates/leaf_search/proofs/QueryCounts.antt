-- How many documents match a query, and what is looked up for one token.
use Rattle.std.proofs.Common.{◌≡◌, ℕ, ◌-◌, ◌+◌, ◌≤◌, inl, Bool, true, false, not, cond, List, [], ◌∷◌, length, filter, slice_get, Option, Some, None, refl, ap, sym, ◌∙◌, subst, arith}
use Rattle.std.specs.Option.{option_and_then, option_map_or}
use Rattle.doc_value.specs.declared.schema.Field.{Field}
use Rattle.doc_value.specs.declared.schema.Schema.{Schema}
use Rattle.doc_value.specs.declared.doc.DocField.{DocField}
use Rattle.doc_value.specs.Documents.{IsOfSchema}
use Rattle.query_ast.specs.FieldTokens.{field_tokens}
use Rattle.query_ast.specs.Meaning.{meaning, is_text}
use Rattle.query_ast.specs.Sought.{Sought}
use Rattle.query_ast.specs.Sought as sought
use Rattle.query_ast.specs.Spelled.{spelled}
use Rattle.split_bundle.specs.declared.part_view.PartView.{PartView}
use Rattle.split_bundle.specs.declared.placed.Placed.{Placed}
use Rattle.split_bundle.specs.Files.{Parts}
use Rattle.split_bundle.specs.Keys.{keys_of}
use Rattle.split_bundle.specs.Lists.{has_key, posting_list}
use Rattle.split_bundle.specs.Splits.{AreDocumentsOf}
use Rattle.doc_sets.specs.declared.bits.DocBits.{DocBits}
use Rattle.doc_sets.specs.declared.dictionary_lookup.Lookup.{Lookup}
use Rattle.doc_sets.specs.declared.dictionary_lookup.Lookup.TheVariants.{Documents}
use Rattle.doc_sets.specs.Asking.{AsksLookups}
use Rattle.doc_sets.specs.Bits.{has}
use Rattle.doc_sets.specs.BitWords.{members}
use Rattle.doc_sets.specs.Needed.{IsBlockFor, token_keys}
use Rattle.doc_sets.specs.Sets.{IsSetOf}
use Rattle.doc_sets.specs.Texts.{lookups_for, one_token, only, text_lookups, value_keys}
use Rattle.doc_sets.proofs.TermWalks.{all_map}
use Rattle.query_ast.specs.Askable.{CanAsk}
use Rattle.leaf_search.specs.Asks.{lookups_of}
use Rattle.leaf_search.specs.Counts.{one_key}
use Rattle.leaf_search.proofs.KeyCounts.{key_meaning, many_posted}
use Rattle.leaf_search.proofs.LeafSteps.{many}
use Rattle.leaf_search.proofs.NumberLists.{members_of}

abbrev some : List ℕ → Option (List ℕ)
some key = Some key

-- as many documents match a query of one token as have its key
pub key_counted : (s : Schema) (q : Sought) (key : List ℕ) (ds : List Placed) → length s.fields ≤ 256 → AreDocumentsOf s ds → one_key s q ≡ some key → CanAsk s q
    → length (posting_list s ds key) ≡ length (filter (λ d. meaning s d.doc q) ds)
key_counted s q key ds few docs one can =
    many_posted s key (λ d. meaning s d q) 0 ds
    (all_map (λ d. IsOfSchema s d.doc) (λ d. meaning s d.doc q ≡ has_key key (keys_of s d.doc)) ds (λ d h. key_meaning s few key d.doc h q one can) docs.of_schema)

-- as many as their set has
pub set_counted : (s : Schema) (q : Sought) (ds : List Placed) (b : DocBits) → IsSetOf (λ d. meaning s d q) ds b → length (members (has b) 0 b.size) ≡ length (filter (λ d. meaning s d.doc q) ds)
set_counted s q ds b set = ap length (members_of (λ d. meaning s d q) ds b set) ∙ many (λ d. meaning s d q) ds

-- those that do not pass are all but those that do
pub others_counted : (test : List DocField → Bool) (ds : List Placed) → length (filter (λ d. test d.doc) ds) + length (filter (λ d. not (test d.doc)) ds) ≡ length ds
others_counted test [] = refl
others_counted test (d ∷ ds) = go (test d.doc) (others_counted test ds)
  where
    go : (b : Bool) → length (filter (λ e. test e.doc) ds) + length (filter (λ e. not (test e.doc)) ds) ≡ length ds
        → length (cond b (d ∷ filter (λ e. test e.doc) ds) (filter (λ e. test e.doc) ds)) + length (cond (not b) (d ∷ filter (λ e. not (test e.doc)) ds) (filter (λ e. not (test e.doc)) ds)) ≡ length (d ∷ ds)
    go true h = omega (arith, h)
    go false h = omega (arith, h)

pub not_counted : (s : Schema) (q : Sought) (ds : List Placed) (docs n : ℕ) → docs ≡ length ds → n ≡ length (filter (λ d. meaning s d.doc q) ds)
    → docs - n ≡ length (filter (λ d. not (meaning s d.doc q)) ds)
not_counted s q ds docs n e f = let all = others_counted (λ d. meaning s d q) ds in omega (arith, e, f, all)

-- ---- what is looked up

token_lookups : (f : Field) (n : ℕ) (text key : List ℕ) → one_token f n text ≡ some key → text_lookups f n text ≡ Documents key ∷ []
token_lookups f n text key e = by_kind (is_text f.kind) e
  where
    by_keys : (ks : List (List ℕ)) → only ks ≡ some key → lookups_for ks ≡ Documents key ∷ []
    by_keys [] h = absurd (cc)
    by_keys (k ∷ []) h = let same : k ≡ key = cc in ap (λ x. Documents x ∷ []) same
    by_keys (k ∷ m ∷ ks) h = absurd (cc)

    by_kind : (b : Bool) → cond b (only (token_keys n (field_tokens f text))) None ≡ some key → lookups_for (cond b (token_keys n (field_tokens f text)) (value_keys n (spelled f.kind text))) ≡ Documents key ∷ []
    by_kind true h = by_keys (token_keys n (field_tokens f text)) h
    by_kind false h = absurd (cc)

field_lookups : (n : ℕ) (text key : List ℕ) (o : Option Field) → option_and_then (λ f. one_token f n text) o ≡ some key → option_map_or (λ f. text_lookups f n text) o [] ≡ Documents key ∷ []
field_lookups n text key None h = absurd (cc)
field_lookups n text key (Some f) h = token_lookups f n text key h

key_lookups : (v : PartView) (s : Schema) (q : Sought) (key : List ℕ) → one_key s q ≡ some key → lookups_of v.footer s q ≡ Documents key ∷ []
key_lookups v s (sought.Word n text) key e = field_lookups n text key (slice_get s.fields n) e
key_lookups v s (sought.Quoted n text) key e = field_lookups n text key (slice_get s.fields n) e
key_lookups v s sought.All key e = absurd (cc)
key_lookups v s sought.Nothing key e = absurd (cc)
key_lookups v s (sought.Prefix n text) key e = absurd (cc)
key_lookups v s (sought.Exists n) key e = absurd (cc)
key_lookups v s (sought.Range n low high) key e = absurd (cc)
key_lookups v s (sought.AnyOf n items) key e = absurd (cc)
key_lookups v s (sought.Not q) key e = absurd (cc)
key_lookups v s (sought.And qs) key e = absurd (cc)
key_lookups v s (sought.Or qs) key e = absurd (cc)

-- the block of the token's key is asked for
pub block_asked : (v : PartView) (s : Schema) (ds : List Placed) (p : Parts) (q : Sought) (key : List ℕ) (at len : ℕ) → one_key s q ≡ some key → IsBlockFor v s ds p key at len → AsksLookups v s ds p (lookups_of v.footer s q) at len
block_asked v s ds p q key at len e block = subst (λ (ls : List Lookup). AsksLookups v s ds p ls at len) (sym (key_lookups v s q key e)) (inl (inl block))
