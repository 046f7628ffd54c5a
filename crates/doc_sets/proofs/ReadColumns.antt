-- What is read of a column.
use Rattle.std.proofs.Common.{◌≡◌, ℕ, suc, ◌+◌, ◌-◌, ◌<◌, ◌≤◌, Bool, true, false, ◌&&◌, ◌||◌, List, [], ◌∷◌, ◌++◌, nat_lt, inl, Option, Some, None, slice_get, Result, Ok, Err, refl, ap, sym, ◌∙◌, arith}
use Rattle.doc_value.specs.declared.schema.Field.{Field}
use Rattle.doc_value.specs.declared.schema.Schema.{Schema}
use Rattle.fast_fields.specs.Readers.{parts}
use Rattle.fast_fields.specs.Reading.{Parts as ColumnParts}
use Rattle.fast_fields.specs.declared.column.Column.{Column}
use Rattle.query_ast.specs.Queries.{has_order}
use Rattle.split_bundle.specs.Lending.{column_in, column_read}
use Rattle.split_bundle.specs.Reading.{and_then}
use Rattle.split_bundle.specs.declared.part_view.PartView.{PartView}
use Rattle.split_bundle.specs.declared.split_error.SplitError.{SplitError}
use Rattle.doc_sets.specs.Faults.{fault_of}
use Rattle.doc_sets.specs.Ranged.{document_if, documents_from}
use Rattle.doc_sets.specs.Reads.{HasReadBy, ReadsAll, ReadsColumn, are_below, numbers_within}
use Rattle.doc_sets.specs.Sets.{is_one_of}
use Rattle.doc_sets.specs.declared.bits.DocBits.{DocBits}
use Rattle.doc_sets.specs.declared.dictionary_lookup.Lookup.TheVariants.{Values}
use Rattle.doc_sets.specs.declared.leaf_error.LeafError.{LeafError}
use Rattle.doc_sets.specs.declared.leaf_error.LeafError.TheVariants as faults
use Rattle.doc_sets.specs.declared.wanted.NumberRange.{NumberRange}
use Rattle.doc_sets.proofs.ReadLists.{in_both}

-- ---- the values from a place on

and_assoc : (a b c : Bool) → (a && b) && c ≡ a && (b && c)
and_assoc true b c = refl
and_assoc false b c = refl

or_assoc : (a b c : Bool) → (a || b) || c ≡ a || (b || c)
or_assoc true b c = refl
or_assoc false b c = refl

below_both : (size : ℕ) (xs ys : List ℕ) → are_below size (xs ++ ys) ≡ are_below size xs && are_below size ys
below_both size [] ys = refl
below_both size (x ∷ xs) ys = ap (λ b. nat_lt x size && b) (below_both size xs ys) ∙ sym (and_assoc (nat_lt x size) (are_below size xs) (are_below size ys))

next_place : (r : NumberRange) (c : Column) (place : ℕ) → place < c.count → documents_from r c (c.count - place) place ≡ document_if r c place ++ documents_from r c (c.count - (place + 1)) (place + 1)
next_place r c place lt =
    let more : c.count - place ≡ suc (c.count - (place + 1)) = omega arith in
    ap (λ n. documents_from r c n place) more

-- a value's document was put
pub value_below : (r : NumberRange) (c : Column) (size place : ℕ) (all : Bool) → place < c.count → are_below size (document_if r c place) ≡ true → are_below size (documents_from r c (c.count - place) place) ≡ all
    → are_below size (documents_from r c (c.count - (place + 1)) (place + 1)) ≡ all
value_below r c size place all lt here before =
    let rest = documents_from r c (c.count - (place + 1)) (place + 1) in
    sym (ap (λ b. b && are_below size rest) here) ∙ (sym (below_both size (document_if r c place) rest) ∙ (sym (ap (λ l. are_below size l) (next_place r c place lt)) ∙ before))

pub value_above : (r : NumberRange) (c : Column) (size place : ℕ) (all : Bool) → place < c.count → are_below size (document_if r c place) ≡ false → are_below size (documents_from r c (c.count - place) place) ≡ all → all ≡ false
value_above r c size place all lt here before =
    let rest = documents_from r c (c.count - (place + 1)) (place + 1) in
    sym before ∙ (ap (λ l. are_below size l) (next_place r c place lt) ∙ (below_both size (document_if r c place) rest ∙ ap (λ b. b && are_below size rest) here))

pub value_put : (r : NumberRange) (c : Column) (k place : ℕ) (new old all : Bool) → place < c.count → new ≡ old || is_one_of k (document_if r c place) → old || is_one_of k (documents_from r c (c.count - place) place) ≡ all
    → new || is_one_of k (documents_from r c (c.count - (place + 1)) (place + 1)) ≡ all
value_put r c k place new old all lt put before =
    let here = document_if r c place in
    let rest = documents_from r c (c.count - (place + 1)) (place + 1) in
    ap (λ b. b || is_one_of k rest) put
    ∙ (or_assoc old (is_one_of k here) (is_one_of k rest)
    ∙ (ap (λ b. old || b) (sym (in_both k here rest)) ∙ (ap (λ l. old || is_one_of k l) (sym (next_place r c place lt)) ∙ before)))

or_false : (a : Bool) → a || false ≡ a
or_false true = refl
or_false false = refl

none_left : (r : NumberRange) (c : Column) (place : ℕ) → c.count ≤ place → documents_from r c (c.count - place) place ≡ []
none_left r c place le = let none : c.count - place ≡ 0 = omega arith in ap (λ n. documents_from r c n place) none

pub values_below : (r : NumberRange) (c : Column) (size place : ℕ) (all : Bool) → c.count ≤ place → are_below size (documents_from r c (c.count - place) place) ≡ all → all ≡ true
values_below r c size place all le before = sym before ∙ ap (λ l. are_below size l) (none_left r c place le)

pub values_put : (r : NumberRange) (c : Column) (k place : ℕ) (new all : Bool) → c.count ≤ place → new || is_one_of k (documents_from r c (c.count - place) place) ≡ all → new ≡ all
values_put r c k place new all le before = sym (ap (λ l. new || is_one_of k l) (none_left r c place le) ∙ or_false new) ∙ before

-- ---- a column

pub numbers_all : (size : ℕ) (r : NumberRange) (c : Column) → are_below size (documents_from r c c.count 0) ≡ true → numbers_within size r c ≡ Ok (documents_from r c c.count 0)
numbers_all size r c h = rw h refl

pub numbers_fault : (size : ℕ) (r : NumberRange) (c : Column) → are_below size (documents_from r c c.count 0) ≡ false → numbers_within size r c ≡ Err (faults.Corrupt 5)
numbers_fault size r c h = rw h refl

-- the column of a fast field
some_parts : Result ColumnParts SplitError → Result (Option ColumnParts) SplitError
some_parts read = and_then read (λ column. Ok (Some column))

fast_read : (v : PartView) (s : Schema) (n : ℕ) (f : Field) → slice_get s.fields n ≡ Some f → f.fast ≡ true
    → column_read s v.footer.layout.sections v.pieces v.footer.bytes v.footer.layout.columns n ≡ and_then (column_in f.kind v.footer.layout.sections v.pieces v.footer.bytes v.footer.layout.columns n) (λ column. Ok (Some column))
unfolding column_read
fast_read v s n f got fast = rw (got, fast) refl

opened : (read : Result ColumnParts SplitError) (c : Column) → and_then read (λ column. Ok (Some column)) ≡ Ok (Some (parts c)) → read ≡ Ok (parts c)
opened (Ok ps) c e = cc
opened (Err x) c e = absurd (cc)

not_opened : (read : Result ColumnParts SplitError) (fault : SplitError) → and_then read (λ column. Ok (Some column)) ≡ Err fault → read ≡ Err fault
not_opened (Ok ps) fault e = absurd (cc)
not_opened (Err x) fault e = cc

never_none : (read : Result ColumnParts SplitError) → and_then read (λ column. Ok (Some column)) ≡ Ok None → ⊥
never_none (Ok ps) e = cc
never_none (Err x) e = cc

pub by_reading : (P Q : Result (List ℕ) LeafError → Type 0) (result : Result DocBits LeafError) → ((read : Result (List ℕ) LeafError) → P read → Q read) → HasReadBy P result → HasReadBy Q result
by_reading P Q (Ok b) wider h = (h.0, wider (Ok h.0) h.1, h.2)
by_reading P Q (Err (faults.Memory a)) wider h = tt
by_reading P Q (Err (faults.Corrupt section)) wider h = wider (Err (faults.Corrupt section)) h
by_reading P Q (Err (faults.Missing at)) wider h = wider (Err (faults.Missing at)) h

module _ (v : PartView) (s : Schema) (n : ℕ) (f : Field) (r : NumberRange) (got : slice_get s.fields n ≡ Some f) (fast : f.fast ≡ true) (ordered : has_order f.kind ≡ true) where
  abbrev Read : Result (Option ColumnParts) SplitError → Type 0
  Read o = column_read s v.footer.layout.sections v.pieces v.footer.bytes v.footer.layout.columns n ≡ o

  of_read : Result ColumnParts SplitError
  of_read = column_in f.kind v.footer.layout.sections v.pieces v.footer.bytes v.footer.layout.columns n

  pub column_is_read : (c : Column) (read : Result (List ℕ) LeafError) → Read (Ok (Some (parts c))) → read ≡ numbers_within v.footer.layout.docs r c → ReadsColumn v n r read
  column_is_read c read e same =
      let here = opened (column_in f.kind v.footer.layout.sections v.pieces v.footer.bytes v.footer.layout.columns n) c (sym (fast_read v s n f got fast) ∙ e) in
      record { kind = f.kind; ordered = ordered; reads = rw here (c, refl, same) }

  pub column_fails : (fault : SplitError) → Read (Err fault) → ReadsColumn v n r (Err (fault_of fault))
  column_fails fault e =
      let here = not_opened (column_in f.kind v.footer.layout.sections v.pieces v.footer.bytes v.footer.layout.columns n) fault (sym (fast_read v s n f got fast) ∙ e) in
      record { kind = f.kind; ordered = ordered; reads = rw here refl }

  pub no_column : Read (Ok None) → ⊥
  no_column e = never_none (column_in f.kind v.footer.layout.sections v.pieces v.footer.bytes v.footer.layout.columns n) (sym (fast_read v s n f got fast) ∙ e)

-- what is looked up is read
pub values_read : (v : PartView) (n : ℕ) (r : NumberRange) (result : Result DocBits LeafError) → HasReadBy (ReadsColumn v n r) result → ReadsAll v (Values n r ∷ []) result
values_read v n r (Ok b) h = ((h.0, h.1), tt)
values_read v n r (Err (faults.Memory a)) h = tt
values_read v n r (Err (faults.Corrupt section)) h = inl h
values_read v n r (Err (faults.Missing at)) h = inl h
