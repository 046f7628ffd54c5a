-- What is read for a query.
use Rattle.std.proofs.Common.{◌≡◌, ℕ, ◌+◌, ◌<◌, List, [], ◌∷◌, ◌++◌, length, drop, get_or, slice_get, Option, Some, None, inl, Result, Ok, Err, true, false, ap, sym, subst, ◌∙◌, IfOk, if◌then◌else◌}
use Rattle.std.proofs.lemmas.List.{drop_more}
use Rattle.std.specs.Option.{option_map_or}
use Rattle.doc_value.specs.declared.schema.Field.{Field}
use Rattle.doc_value.specs.declared.schema.Schema.{Schema}
use Rattle.query_ast.specs.declared.query.Query.{Query}
use Rattle.query_ast.specs.Sought.{Sought, view, view_all}
use Rattle.split_bundle.specs.declared.part_view.PartView.{PartView}
use Rattle.doc_sets.specs.Reads.{AreRead, Finds, MetBy, ReadsAll}
use Rattle.doc_sets.specs.declared.dictionary_lookup.Lookup.{Lookup}
use Rattle.doc_sets.specs.declared.dictionary_lookup.Lookup.TheVariants.{Count}
use Rattle.doc_sets.specs.declared.leaf_error.LeafError.{LeafError}
use Rattle.doc_sets.specs.declared.leaf_error.LeafError.TheVariants as faults
use Rattle.leaf_search.specs.Asks.{lookups_of, lookups_of_each, of_field}
use Rattle.leaf_search.specs.Counts.{count_lookups, counted_key, evaluated_lookups, one_key, only_counts, plain_lookups, read_lookups}
use Rattle.leaf_search.specs.declared.request.LeafRequest.{LeafRequest}

-- of a field of the schema
pub field_reads : {A : Type 0} (v : PartView) (s : Schema) (n : ℕ) (f : Field) (looked : Field → List Lookup) (result : Result A LeafError) → slice_get s.fields n ≡ Some f → ReadsAll v (looked f) result → ReadsAll v (of_field s n looked) result
field_reads v s n f looked result got h = subst (λ (o : Option Field). ReadsAll v (option_map_or looked o []) result) (sym got) h

pub no_field_reads : (v : PartView) (s : Schema) (n : ℕ) (looked : Field → List Lookup) → slice_get s.fields n ≡ None → AreRead v (of_field s n looked)
no_field_reads v s n looked none = subst (λ (o : Option Field). AreRead v (option_map_or looked o [])) (sym none) tt

pub query_reads : {A : Type 0} (v : PartView) (s : Schema) (result : Result A LeafError) (q w : Sought) → q ≡ w → ReadsAll v (lookups_of v.footer s w) result → ReadsAll v (lookups_of v.footer s q) result
query_reads v s result q w same h = subst (λ (x : Sought). ReadsAll v (lookups_of v.footer s x) result) (sym same) h

-- behind one of some queries
pub queries_from : (v : PartView) (s : Schema) (i : ℕ) (x : Query) (qs : List Query) → i < length qs → x ≡ get_or qs i x → lookups_of_each v.footer s (view_all (drop i qs)) ≡ lookups_of v.footer s (view x) ++ lookups_of_each v.footer s (view_all (drop (i + 1) qs))
queries_from v s i x qs lt e =
    let rest : drop i qs ≡ x ∷ drop (i + 1) qs = drop_more qs i x lt ∙ ap (λ y. y ∷ drop (i + 1) qs) (sym e) in
    ap (λ (l : List Query). lookups_of_each v.footer s (view_all l)) rest

-- ---- where documents are counted

-- the fault of a key's block
pub count_met : (v : PartView) (key : List ℕ) (e : LeafError) → Finds v key (Err e) → MetBy v (Count key ∷ []) e
count_met v key (faults.Memory a) h = tt
count_met v key (faults.Corrupt section) h = inl h
count_met v key (faults.Missing at) h = inl h

-- an answer where all is read
pub if_read : {A : Type 0} (v : PartView) (ls : List Lookup) (result : Result A LeafError) → ReadsAll v ls result → IfOk result (λ a. AreRead v ls)
if_read v ls (Ok x) h = h
if_read v ls (Err e) h = tt

pub read_before : {A : Type 0} (v : PartView) (ls : List Lookup) (result : Result A LeafError) → AreRead v ls → IfOk result (λ a. AreRead v ls)
read_before v ls (Ok x) h = h
read_before v ls (Err e) h = tt

pub only_counted : {A : Type 0} (v : PartView) (s : Schema) (r : LeafRequest) (result : Result A LeafError) → only_counts r ≡ true → ReadsAll v (count_lookups v.footer s (view r.query)) result → ReadsAll v (evaluated_lookups v.footer s r) result
only_counted v s r result e h = subst (λ b. ReadsAll v (if b then count_lookups v.footer s (view r.query) else lookups_of v.footer s (view r.query)) result) (sym e) h

pub all_evaluated : (v : PartView) (s : Schema) (r : LeafRequest) → only_counts r ≡ false → AreRead v (lookups_of v.footer s (view r.query)) → AreRead v (evaluated_lookups v.footer s r)
all_evaluated v s r e h = subst (λ b. AreRead v (if b then count_lookups v.footer s (view r.query) else lookups_of v.footer s (view r.query))) (sym e) h

pub key_plain : {A : Type 0} (v : PartView) (s : Schema) (q : Sought) (key : List ℕ) (result : Result A LeafError) → one_key s q ≡ Some key → ReadsAll v (Count key ∷ []) result → ReadsAll v (plain_lookups v.footer s q) result
key_plain v s q key result e h = subst (λ (o : Option (List ℕ)). ReadsAll v (option_map_or (λ key. Count key ∷ []) o (lookups_of v.footer s q)) result) (sym e) h

pub set_plain : {A : Type 0} (v : PartView) (s : Schema) (q : Sought) (result : Result A LeafError) → one_key s q ≡ None → ReadsAll v (lookups_of v.footer s q) result → ReadsAll v (plain_lookups v.footer s q) result
set_plain v s q result e h = subst (λ (o : Option (List ℕ)). ReadsAll v (option_map_or (λ key. Count key ∷ []) o (lookups_of v.footer s q)) result) (sym e) h

pub key_read : {A : Type 0} (v : PartView) (s : Schema) (r : LeafRequest) (key : List ℕ) (result : Result A LeafError) → counted_key s r ≡ Some key → ReadsAll v (Count key ∷ []) result → ReadsAll v (read_lookups v.footer s r) result
key_read v s r key result e h = subst (λ (o : Option (List ℕ)). ReadsAll v (option_map_or (λ key. Count key ∷ []) o (evaluated_lookups v.footer s r)) result) (sym e) h

pub evaluated_read : {A : Type 0} (v : PartView) (s : Schema) (r : LeafRequest) (result : Result A LeafError) → counted_key s r ≡ None → ReadsAll v (evaluated_lookups v.footer s r) result → ReadsAll v (read_lookups v.footer s r) result
evaluated_read v s r result e h = subst (λ (o : Option (List ℕ)). ReadsAll v (option_map_or (λ key. Count key ∷ []) o (evaluated_lookups v.footer s r)) result) (sym e) h

pub are_read : (v : PartView) (s : Schema) (r : LeafRequest) → counted_key s r ≡ None → AreRead v (evaluated_lookups v.footer s r) → AreRead v (read_lookups v.footer s r)
are_read v s r e h = subst (λ (o : Option (List ℕ)). AreRead v (option_map_or (λ key. Count key ∷ []) o (evaluated_lookups v.footer s r))) (sym e) h

pub if_evaluated : {A : Type 0} (v : PartView) (s : Schema) (r : LeafRequest) (result : Result A LeafError) → counted_key s r ≡ None → IfOk result (λ a. AreRead v (evaluated_lookups v.footer s r)) → IfOk result (λ a. AreRead v (read_lookups v.footer s r))
if_evaluated v s r (Ok x) e h = are_read v s r e h
if_evaluated v s r (Err x) e h = tt
