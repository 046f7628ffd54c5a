-- The numbers of a column stand in the order of the values.
use Rattle.std.proofs.Common.{◌≡◌, ℕ, ℤ, pos, negsuc, zero, suc, ◌<◌, ◌^◌, Bool, true, false, List, [], ◌∷◌, slice_get, Option, Some, None, nat_lt, int_lt, ◌-◌, ◌==◌, if◌then◌else◌, refl, ap, sym, ◌∙◌, subst, arith, Ordering}
use Rattle.std.specs.Cmp.Lexicographic.{slice_cmp}
use Rattle.std.specs.List.{AllByRecursion}
use Rattle.std.specs.Option.{option_map}
use Rattle.std.specs.Ordering.{nat_cmp, int_cmp, is_lt}
use Rattle.std.specs.declared.cmp.Ordering.TheVariants.{Less, Equal, Greater}
use Rattle.std.proofs.lemmas.Bool.{lt-ltb}
use Rattle.std.proofs.lemmas.Bool.Decides.{nat_tests}
use Rattle.byte_fields.specs.Spelling.{zigzag}
use Rattle.doc_value.specs.declared.schema.Field.{Field}
use Rattle.doc_value.specs.declared.schema.Kind.{Kind}
use Rattle.doc_value.specs.declared.schema.Kind.TheVariants as kinds
use Rattle.doc_value.specs.declared.schema.Schema.{Schema}
use Rattle.doc_value.specs.declared.doc.Value.{Value}
use Rattle.doc_value.specs.declared.doc.Value.TheVariants as values
use Rattle.doc_value.specs.Documents.{IsOfKind, IsOfSchema, values_in}
use Rattle.doc_value.specs.Terms.{value_cmp, turned}
use Rattle.fast_fields.specs.Columns.{IsNumber, TextsRise, AreEntries, cells, cells_of, is_below}
use Rattle.fast_fields.specs.Readers.{first_number}
use Rattle.fast_fields.specs.declared.entries.Entry.{Entry}
use Rattle.split_bundle.specs.Columns.{column_rows}
use Rattle.split_bundle.specs.Held.{IsHeld, IsHeldValue}
use Rattle.split_bundle.specs.Splits.{AreDocumentsOf}
use Rattle.split_bundle.specs.declared.placed.Placed.{Placed}
use Rattle.doc_tallies.specs.declared.hit_order.HitOrder.{HitOrder}
use Rattle.doc_tallies.specs.Near.{is_ahead}
use Rattle.doc_tallies.specs.Orders.{first_cmp, first_value}
use Rattle.doc_tallies.specs.Ranks.{key_at, key_of}
use Rattle.doc_tallies.proofs.FieldValues.{AreValues, are_values, each_at}
use Rattle.doc_tallies.proofs.Owned.{first_of, owned}
use Rattle.doc_tallies.proofs.HitOrders.{values_order}
use Rattle.doc_tallies.proofs.Keys.{key_before}
use Rattle.doc_tallies.proofs.Stable.{not_before_itself}

-- ---- two numbers

lt_less : (o : Ordering) → is_lt o ≡ true → o ≡ Less
lt_less Less h = refl
lt_less Equal h = absurd (cc)
lt_less Greater h = absurd (cc)

text_less : (texts : List (List ℕ)) (i j : ℕ) (t u : List ℕ) → TextsRise texts → slice_get texts i ≡ Some t → slice_get texts j ≡ Some u → i < j → slice_cmp nat_cmp t u ≡ Less
text_less [] i j t u rise at there lt = absurd (cc)
text_less (x ∷ xs) zero zero t u rise at there lt = absurd (omega arith)
text_less (x ∷ xs) (suc i) zero t u rise at there lt = absurd (omega arith)
text_less (x ∷ xs) zero (suc j) t u rise at there lt =
    let same : x ≡ t = cc in
    subst (λ (y : List ℕ). slice_cmp nat_cmp y u ≡ Less) same (lt_less (slice_cmp nat_cmp x u) (each_at (λ (y : List ℕ). is_below x y ≡ true) xs j u rise.0 there))
text_less (x ∷ xs) (suc i) (suc j) t u rise at there lt = text_less xs i j t u rise.1 at there (omega arith)

nat_less : (i j : ℕ) → i < j → nat_cmp i j ≡ Less
nat_less i j lt = rw (lt-ltb i j lt) refl

int_less : (a b : ℤ) → int_lt a b ≡ true → int_cmp a b ≡ Less
int_less a b h = rw h refl

turned_less : (a b : ℤ) → zigzag a < 2 ^ 64 → zigzag b < 2 ^ 64 → turned a < turned b → int_lt a b ≡ true
turned_less (pos a) (pos b) fa fb lt = let less : a < b = omega (arith, lt) in lt-ltb a b less
turned_less (negsuc a) (pos b) fa fb lt = refl
turned_less (negsuc a) (negsuc b) fa fb lt = let less : b < a = omega (arith, lt, fa, fb) in lt-ltb b a less
turned_less (pos a) (negsuc b) fa fb lt = absurd (omega (arith, lt, fa, fb))

number_less : (kind : Kind) (texts : List (List ℕ)) (v w : Value) (i j : ℕ) → TextsRise texts → IsOfKind kind v → IsOfKind kind w → IsHeldValue v → IsHeldValue w → IsNumber texts v i → IsNumber texts w j → i < j → value_cmp v w ≡ Less
number_less kinds.Text texts (values.Text t) (values.Text u) i j rise kv kw hv hw iv iw lt = text_less texts i j t u rise iv iw lt
number_less kinds.Text texts (values.Text t) _ i j rise kv kw hv hw iv iw lt = absurd kw
number_less kinds.Text texts _ w i j rise kv kw hv hw iv iw lt = absurd kv
number_less kinds.TextList texts (values.Text t) (values.Text u) i j rise kv kw hv hw iv iw lt = text_less texts i j t u rise iv iw lt
number_less kinds.TextList texts (values.Text t) _ i j rise kv kw hv hw iv iw lt = absurd kw
number_less kinds.TextList texts _ w i j rise kv kw hv hw iv iw lt = absurd kv
number_less kinds.I64 texts (values.I64 a) (values.I64 b) i j rise kv kw hv hw iv iw lt = int_less a b (turned_less a b hv hw (omega (arith, iv, iw)))
number_less kinds.I64 texts (values.I64 a) _ i j rise kv kw hv hw iv iw lt = absurd kw
number_less kinds.I64 texts _ w i j rise kv kw hv hw iv iw lt = absurd kv
number_less kinds.U64 texts (values.U64 a) (values.U64 b) i j rise kv kw hv hw iv iw lt = nat_less a b (omega (arith, iv, iw))
number_less kinds.U64 texts (values.U64 a) _ i j rise kv kw hv hw iv iw lt = absurd kw
number_less kinds.U64 texts _ w i j rise kv kw hv hw iv iw lt = absurd kv
number_less kinds.Bool texts (values.Bool a) (values.Bool b) i j rise kv kw hv hw iv iw lt = bool_less texts a b i j iv iw lt
  where
    bool_less : (texts : List (List ℕ)) (a b : Bool) (i j : ℕ) → IsNumber texts (values.Bool a) i → IsNumber texts (values.Bool b) j → i < j → value_cmp (values.Bool a) (values.Bool b) ≡ Less
    bool_less texts false false i j iv iw lt = absurd (omega (arith, iv, iw))
    bool_less texts false true i j iv iw lt = refl
    bool_less texts true false i j iv iw lt = absurd (omega (arith, iv, iw))
    bool_less texts true true i j iv iw lt = absurd (omega (arith, iv, iw))
number_less kinds.Bool texts (values.Bool a) _ i j rise kv kw hv hw iv iw lt = absurd kw
number_less kinds.Bool texts _ w i j rise kv kw hv hw iv iw lt = absurd kv
number_less kinds.Datetime texts (values.Datetime a) (values.Datetime b) i j rise kv kw hv hw iv iw lt = int_less a b (turned_less a b hv hw (omega (arith, iv, iw)))
number_less kinds.Datetime texts (values.Datetime a) _ i j rise kv kw hv hw iv iw lt = absurd kw
number_less kinds.Datetime texts _ w i j rise kv kw hv hw iv iw lt = absurd kv

same_text : (t u : List ℕ) → Some t ≡ Some u → t ≡ u
same_text t u h = cc

same_turned : (a b : ℤ) → zigzag a < 2 ^ 64 → zigzag b < 2 ^ 64 → turned a ≡ turned b → a ≡ b
same_turned (pos a) (pos b) fa fb h = let same : a ≡ b = omega (arith, h) in ap (λ (n : ℕ). pos n) same
same_turned (negsuc a) (negsuc b) fa fb h = let same : a ≡ b = omega (arith, h, fa, fb) in ap (λ (n : ℕ). negsuc n) same
same_turned (pos a) (negsuc b) fa fb h = absurd (omega (arith, h, fb))
same_turned (negsuc a) (pos b) fa fb h = absurd (omega (arith, h, fa))

same_flag : (texts : List (List ℕ)) (a b : Bool) (i : ℕ) → IsNumber texts (values.Bool a) i → IsNumber texts (values.Bool b) i → values.Bool a ≡ values.Bool b
same_flag texts true true i iv iw = refl
same_flag texts false false i iv iw = refl
same_flag texts true false i iv iw = absurd (omega (arith, iv, iw))
same_flag texts false true i iv iw = absurd (omega (arith, iv, iw))

-- ---- first values

-- a number stands for a first value, if there is one
abbrev IsRank : Kind → List (List ℕ) → Option Value → Option ℕ → Type 0
IsRank kind texts None None = Unit {0}
IsRank kind texts None (Some n) = ⊥
IsRank kind texts (Some v) None = ⊥
IsRank kind texts (Some v) (Some n) = IsOfKind kind v × IsHeldValue v × IsNumber texts v n

is_rank : (kind : Kind) (texts : List (List ℕ)) (k : ℕ) (vs : List Value) (own : List Entry) → AreEntries texts (cells_of k vs) own → AreValues kind vs → IsRank kind texts (slice_get vs 0) (first_of own)
is_rank kind texts k [] [] are h = tt
is_rank kind texts k [] (e ∷ es) are h = absurd are
is_rank kind texts k (v ∷ vs) [] are h = absurd are
is_rank kind texts k (v ∷ vs) (e ∷ es) are h = (h.of_kind.0, h.held.0, are.1)

same_number : (kind : Kind) (texts : List (List ℕ)) (v w : Value) (i : ℕ) → IsOfKind kind v → IsOfKind kind w → IsHeldValue v → IsHeldValue w → IsNumber texts v i → IsNumber texts w i → v ≡ w
same_number kinds.Text texts (values.Text t) (values.Text u) i kv kw hv hw iv iw = ap (λ (t : List ℕ). values.Text t) (same_text t u (sym iv ∙ iw))
same_number kinds.Text texts (values.Text t) _ i kv kw hv hw iv iw = absurd kw
same_number kinds.Text texts _ w i kv kw hv hw iv iw = absurd kv
same_number kinds.TextList texts (values.Text t) (values.Text u) i kv kw hv hw iv iw = ap (λ (t : List ℕ). values.Text t) (same_text t u (sym iv ∙ iw))
same_number kinds.TextList texts (values.Text t) _ i kv kw hv hw iv iw = absurd kw
same_number kinds.TextList texts _ w i kv kw hv hw iv iw = absurd kv
same_number kinds.I64 texts (values.I64 a) (values.I64 b) i kv kw hv hw iv iw = ap (λ (z : ℤ). values.I64 z) (same_turned a b hv hw (sym iv ∙ iw))
same_number kinds.I64 texts (values.I64 a) _ i kv kw hv hw iv iw = absurd kw
same_number kinds.I64 texts _ w i kv kw hv hw iv iw = absurd kv
same_number kinds.U64 texts (values.U64 a) (values.U64 b) i kv kw hv hw iv iw = ap (λ (n : ℕ). values.U64 n) (sym iv ∙ iw)
same_number kinds.U64 texts (values.U64 a) _ i kv kw hv hw iv iw = absurd kw
same_number kinds.U64 texts _ w i kv kw hv hw iv iw = absurd kv
same_number kinds.Bool texts (values.Bool a) (values.Bool b) i kv kw hv hw iv iw = same_flag texts a b i iv iw
same_number kinds.Bool texts (values.Bool a) _ i kv kw hv hw iv iw = absurd kw
same_number kinds.Bool texts _ w i kv kw hv hw iv iw = absurd kv
same_number kinds.Datetime texts (values.Datetime a) (values.Datetime b) i kv kw hv hw iv iw = ap (λ (z : ℤ). values.Datetime z) (same_turned a b hv hw (sym iv ∙ iw))
same_number kinds.Datetime texts (values.Datetime a) _ i kv kw hv hw iv iw = absurd kw
same_number kinds.Datetime texts _ w i kv kw hv hw iv iw = absurd kv

-- values stand in the order of their numbers
value_lt : (kind : Kind) (texts : List (List ℕ)) (v w : Value) (i j : ℕ) → TextsRise texts → IsOfKind kind v → IsOfKind kind w → IsHeldValue v → IsHeldValue w → IsNumber texts v i → IsNumber texts w j
    → is_lt (value_cmp v w) ≡ nat_lt i j
value_lt kind texts v w i j rise kv kw hv hw iv iw = go (nat_lt i j) refl (nat_lt j i) refl
  where
    go : (s : Bool) → nat_lt i j ≡ s → (t : Bool) → nat_lt j i ≡ t → is_lt (value_cmp v w) ≡ nat_lt i j
    go true e t f = ap is_lt (number_less kind texts v w i j rise kv kw hv hw iv iw (grind (arith, nat_tests))) ∙ sym e
    go false e true f = values_order.one_way w v (ap is_lt (number_less kind texts w v j i rise kw kv hw hv iw iv (grind (arith, nat_tests)))) ∙ sym e
    go false e false f =
        let same : i ≡ j = grind (arith, nat_tests) in
        let one : v ≡ w = same_number kind texts v w i kv kw hv hw iv (subst (λ (n : ℕ). IsNumber texts w n) (sym same) iw) in
        ap (λ (x : Value). is_lt (value_cmp v x)) (sym one) ∙ (not_before_itself (λ (x y : Value). is_lt (value_cmp x y)) values_order v ∙ sym e)

-- a number of 64 bits, if there is one
abbrev pub IsSmall : Option ℕ → Type 0
IsSmall None = Unit {0}
IsSmall (Some n) = n < 2 ^ 64

turned_back : (i j : ℕ) → i < 2 ^ 64 → j < 2 ^ 64 → nat_lt j i ≡ nat_lt (18446744073709551615 - i) (18446744073709551615 - j)
turned_back i j small other = go (nat_lt j i) refl (nat_lt (18446744073709551615 - i) (18446744073709551615 - j)) refl
  where
    go : (s : Bool) → nat_lt j i ≡ s → (t : Bool) → nat_lt (18446744073709551615 - i) (18446744073709551615 - j) ≡ t → nat_lt j i ≡ nat_lt (18446744073709551615 - i) (18446744073709551615 - j)
    go true e true f = e ∙ sym f
    go false e false f = e ∙ sym f
    go true e false f = absurd (grind (arith, nat_tests))
    go false e true f = absurd (grind (arith, nat_tests))

first_key : (kind : Kind) (texts : List (List ℕ)) (descending : Bool) (a b : Option Value) (ra rb : Option ℕ) → TextsRise texts → IsRank kind texts a ra → IsRank kind texts b rb → IsSmall ra → IsSmall rb
    → is_lt (first_cmp descending a b) ≡ key_before (option_map (key_of descending) ra) (option_map (key_of descending) rb)
first_key kind texts descending None None None None rise ia ib sa sb = refl
first_key kind texts descending None None None (Some j) rise ia ib sa sb = absurd ib
first_key kind texts descending None (Some w) None rb rise ia ib sa sb = refl
first_key kind texts descending None b (Some i) rb rise ia ib sa sb = absurd ia
first_key kind texts descending (Some v) b None rb rise ia ib sa sb = absurd ia
first_key kind texts descending (Some v) None (Some i) None rise ia ib sa sb = refl
first_key kind texts descending (Some v) None (Some i) (Some j) rise ia ib sa sb = absurd ib
first_key kind texts descending (Some v) (Some w) (Some i) None rise ia ib sa sb = absurd ib
first_key kind texts false (Some v) (Some w) (Some i) (Some j) rise ia ib sa sb = value_lt kind texts v w i j rise ia.0 ib.0 ia.1 ib.1 ia.2 ib.2
first_key kind texts true (Some v) (Some w) (Some i) (Some j) rise ia ib sa sb = value_lt kind texts w v j i rise ib.0 ia.0 ib.1 ia.1 ib.2 ia.2 ∙ turned_back i j sa sb

small_first : (n : ℕ) (es : List Entry) → AllByRecursion (λ e. e.number < 2 ^ 64) es → IsSmall (first_number n es)
small_first n [] all = tt
small_first n (e ∷ es) all = go (e.document == n) (small_first n es all.1)
  where
    go : (t : Bool) → IsSmall (first_number n es) → IsSmall (if t then Some e.number else first_number n es)
    go true rest = all.0
    go false rest = rest

-- ---- documents

rank_at : (s : Schema) (documents : List Placed) (f : Field) (number n : ℕ) (x : Placed) (texts : List (List ℕ)) (es : List Entry) → AreDocumentsOf s documents → slice_get s.fields number ≡ Some f → slice_get documents n ≡ Some x
    → AreEntries texts (cells (column_rows number documents)) es → IsRank f.kind texts (first_value number x.doc) (first_number n es)
rank_at s documents f number n x texts es of here got are =
    let own = owned texts number n documents x es are got in
    let vs = are_values s number f x.doc here (each_at (λ (d : Placed). IsOfSchema s d.doc) documents n x of.of_schema got) (each_at IsHeld documents n x of.held got).doc in
    subst (λ (r : Option ℕ). IsRank f.kind texts (first_value number x.doc) r) (sym own.first) (is_rank f.kind texts n (values_in x.doc number) own.own own.are vs)

-- a document is ahead of another where its key stands before that one's
pub ahead_key : (s : Schema) (documents : List Placed) (by : HitOrder) (f : Field) (texts : List (List ℕ)) (es : List Entry) (n m : ℕ) (x y : Placed) → AreDocumentsOf s documents → slice_get s.fields by.field ≡ Some f
    → TextsRise texts → AllByRecursion (λ e. e.number < 2 ^ 64) es → AreEntries texts (cells (column_rows by.field documents)) es → slice_get documents n ≡ Some x → slice_get documents m ≡ Some y
    → is_ahead by x y ≡ key_before (key_at by.descending es n) (key_at by.descending es m)
ahead_key s documents by f texts es n m x y of here rise small are at there =
    first_key f.kind texts by.descending (first_value by.field x.doc) (first_value by.field y.doc) (first_number n es) (first_number m es) rise
    (rank_at s documents f by.field n x texts es of here at are) (rank_at s documents f by.field m y texts es of here there are) (small_first n es small) (small_first m es small)
