-- What is read where something is looked up.
use Rattle.std.proofs.Common.{◌≡◌, ℕ, ◌+◌, ◌<◌, ◌≤◌, Bool, List, [], ◌∷◌, ◌++◌, length, drop, get_or, map, inl, inr, Result, Ok, Err, IsErrAnd, ap, sym, subst, ◌∙◌, arith}
use Rattle.std.proofs.lemmas.List.{drop_more}
use Rattle.std.specs.declared.alloc.AllocError.{AllocError}
use Rattle.doc_value.specs.declared.schema.Field.{Field}
use Rattle.query_ast.specs.declared.query.Item.{Item}
use Rattle.split_bundle.specs.Keys.{field_key}
use Rattle.split_bundle.specs.declared.part_view.PartView.{PartView}
use Rattle.text_tokens.specs.declared.tokens.Token.{Token}
use Rattle.doc_sets.specs.Needed.{token_keys}
use Rattle.doc_sets.specs.Reads.{AreRead, HasRead, MetBy, ReadsAll, ReadsKey, SomeMeets}
use Rattle.doc_sets.specs.Texts.{item_lookups, lookups_for, text_lookups}
use Rattle.doc_sets.specs.declared.bits.DocBits.{DocBits}
use Rattle.doc_sets.specs.declared.dictionary_lookup.Lookup.{Lookup}
use Rattle.doc_sets.specs.declared.dictionary_lookup.Lookup.TheVariants.{Documents, Places}
use Rattle.doc_sets.specs.declared.leaf_error.LeafError.{LeafError}
use Rattle.doc_sets.specs.declared.leaf_error.LeafError.TheVariants as faults

-- a fault that is handed on as it is
pub met : {A : Type 0} (v : PartView) (ls : List Lookup) (result : Result A LeafError) (e : LeafError) → IsErrAnd result (λ f. f ≡ e) → MetBy v ls e → ReadsAll v ls result
met v ls (Ok x) e is h = absurd is
met v ls (Err f) e is h = subst (MetBy v ls) (sym is) h

-- want of memory
pub no_memory : {A : Type 0} (v : PartView) (ls : List Lookup) (result : Result A LeafError) (a : AllocError) → IsErrAnd result (λ f. f ≡ faults.Memory a) → ReadsAll v ls result
no_memory v ls result a is = met v ls result (faults.Memory a) is tt

pub met_wider : (v : PartView) (ls more : List Lookup) (e : LeafError) → ((f : LeafError) → SomeMeets v ls f → SomeMeets v more f) → MetBy v ls e → MetBy v more e
met_wider v ls more (faults.Memory a) wider h = tt
met_wider v ls more (faults.Corrupt section) wider h = wider (faults.Corrupt section) h
met_wider v ls more (faults.Missing at) wider h = wider (faults.Missing at) h

pub reads_as : {A : Type 0} (v : PartView) (ls more : List Lookup) (result : Result A LeafError) → (AreRead v ls → AreRead v more) → ((f : LeafError) → SomeMeets v ls f → SomeMeets v more f) → ReadsAll v ls result → ReadsAll v more result
reads_as v ls more (Ok x) read wider h = read h
reads_as v ls more (Err e) read wider h = met_wider v ls more e wider h

-- the documents of a key
pub key_reads : (v : PartView) (key : List ℕ) (counted : Bool) (result : Result DocBits LeafError) (read : Result (List ℕ) LeafError) → ReadsKey v key counted read → HasRead result read → ReadsAll v (Documents key ∷ []) result
key_reads v key counted (Ok b) read reads has = ((counted, has.0, subst (λ r. ReadsKey v key counted r) has.1 reads), tt)
key_reads v key counted (Err (faults.Memory a)) read reads has = tt
key_reads v key counted (Err (faults.Corrupt section)) read reads has = inl (counted, subst (λ r. ReadsKey v key counted r) has reads)
key_reads v key counted (Err (faults.Missing at)) read reads has = inl (counted, subst (λ r. ReadsKey v key counted r) has reads)

-- of several keys nothing is said
all_places : (v : PartView) (keys : List (List ℕ)) → AreRead v (map Places keys)
all_places v [] = tt
all_places v (key ∷ keys) = (tt, all_places v keys)

pub several_reads : {A : Type 0} (v : PartView) (a b : List ℕ) (keys : List (List ℕ)) (result : Result A LeafError) → ReadsAll v (lookups_for (a ∷ b ∷ keys)) result
several_reads v a b keys (Ok x) = (tt, (tt, all_places v keys))
several_reads v a b keys (Err (faults.Memory x)) = tt
several_reads v a b keys (Err (faults.Corrupt section)) = inl tt
several_reads v a b keys (Err (faults.Missing at)) = inl tt

pub each_reads : {A : Type 0} (v : PartView) (keys : List (List ℕ)) (result : Result A LeafError) → ReadsAll v (map Documents keys) result → ReadsAll v (lookups_for keys) result
each_reads v [] result h = h
each_reads v (key ∷ []) result h = h
each_reads v (a ∷ b ∷ keys) result h = several_reads v a b keys result

-- what is read of the first ones, and of the others
pub read_both : (v : PartView) (a b : List Lookup) → AreRead v a → AreRead v b → AreRead v (a ++ b)
read_both v [] b first others = others
read_both v (l ∷ a) b first others = (first.0, read_both v a b first.1 others)

pub meets_first : (v : PartView) (a b : List Lookup) (e : LeafError) → SomeMeets v a e → SomeMeets v (a ++ b) e
meets_first v [] b e h = absurd h
meets_first v (l ∷ a) b e (inl h) = inl h
meets_first v (l ∷ a) b e (inr h) = inr (meets_first v a b e h)

pub meets_others : (v : PartView) (a b : List Lookup) (e : LeafError) → SomeMeets v b e → SomeMeets v (a ++ b) e
meets_others v [] b e h = h
meets_others v (l ∷ a) b e h = inr (meets_others v a b e h)

-- behind one of some tokens
pub tokens_from : (n i : ℕ) (x : Token) (ts : List Token) → i < length ts → x ≡ get_or ts i x → map Documents (token_keys n (drop i ts)) ≡ Documents (field_key n x.text) ∷ map Documents (token_keys n (drop (i + 1) ts))
tokens_from n i x ts lt e =
    let rest : drop i ts ≡ x ∷ drop (i + 1) ts = drop_more ts i x lt ∙ ap (λ y. y ∷ drop (i + 1) ts) (sym e) in
    ap (λ (l : List Token). map Documents (token_keys n l)) rest

-- behind one of some members
pub items_from : (f : Field) (n i : ℕ) (x : Item) (items : List Item) → i < length items → x ≡ get_or items i x → item_lookups f n (drop i items) ≡ text_lookups f n x.text ++ item_lookups f n (drop (i + 1) items)
items_from f n i x items lt e =
    let rest : drop i items ≡ x ∷ drop (i + 1) items = drop_more items i x lt ∙ ap (λ y. y ∷ drop (i + 1) items) (sym e) in
    ap (λ (l : List Item). item_lookups f n l) rest

-- of a phrase of several tokens nothing is said
pub phrase_reads : {A : Type 0} (v : PartView) (n : ℕ) (phrase : List Token) (result : Result A LeafError) → 2 ≤ length phrase → ReadsAll v (lookups_for (token_keys n phrase)) result
phrase_reads v n [] result many = absurd (omega (arith, many))
phrase_reads v n (a ∷ []) result many = absurd (omega (arith, many))
phrase_reads v n (a ∷ b ∷ ts) result many = several_reads v (field_key n a.text) (field_key n b.text) (token_keys n ts) result
