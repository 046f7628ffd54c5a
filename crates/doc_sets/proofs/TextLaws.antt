-- What is found for the tokens or the value of a text is what the text asks for.
use Rattle.std.proofs.Common.{◌≡◌, ℕ, zero, suc, ◌+◌, ◌<◌, ◌==◌, ◌⊎◌, inl, inr, Bool, true, false, not, ◌&&◌, ◌||◌, cond, List, [], ◌∷◌, length, drop, get_or, Option, Some, None, option_map, Result, MatchResult, refl, ap, sym, ◌∙◌, subst, arith}
use Rattle.std.proofs.lemmas.List.{drop_more}
use Rattle.doc_value.specs.declared.schema.Field.{Field}
use Rattle.doc_value.specs.declared.schema.Kind.{Kind}
use Rattle.doc_value.specs.declared.schema.Kind.TheVariants as kinds
use Rattle.doc_value.specs.declared.schema.Schema.{Schema}
use Rattle.doc_value.specs.declared.doc.DocField.{DocField}
use Rattle.doc_value.specs.declared.doc.Value.{Value}
use Rattle.doc_value.specs.declared.doc.Value.TheVariants as values
use Rattle.doc_value.specs.Documents.{IsOfKind, values_in}
use Rattle.query_ast.specs.FieldTokens.{field_tokens}
use Rattle.query_ast.specs.Meaning.{is_text, equals_some, each_stands, each_holds, phrase_holds, quoted_holds, word_holds, item_holds, some_item_holds}
use Rattle.query_ast.specs.Spelled.{spelled, signed_of, unsigned_of, truth_of, datetime_of}
use Rattle.query_ast.specs.declared.query.Item.{Item}
use Rattle.text_tokens.specs.declared.tokens.Token.{Token}
use Rattle.split_bundle.specs.declared.placed.Placed.{Placed}
use Rattle.split_bundle.specs.declared.part_view.PartView.{PartView}
use Rattle.split_bundle.specs.Files.{Parts}
use Rattle.doc_sets.specs.declared.bits.DocBits.{DocBits}
use Rattle.doc_sets.specs.declared.leaf_error.LeafError.{LeafError}
use Rattle.doc_sets.specs.Asking.{AsksLookups, LacksLookups}
use Rattle.doc_sets.specs.Needed.{token_keys}
use Rattle.doc_sets.specs.Sets.{IsSetOf}
use Rattle.doc_sets.specs.Texts.{item_lookups, lookups_for, text_keys, text_lookups, value_keys}
use Rattle.query_ast.specs.Askable.{CanPlace, CanPlaceEach}
use Rattle.doc_sets.proofs.Causes.{cause_wider}
use Rattle.doc_sets.proofs.Looked.{lookups_end, lookups_front}

-- the value that a text spells is of the kind
pub spelled_kind : (k : Kind) (text : List ℕ) (v : Value) → spelled k text ≡ Some v → IsOfKind k v
spelled_kind kinds.Text text v e = let same : values.Text text ≡ v = cc in subst (IsOfKind kinds.Text) same tt
spelled_kind kinds.TextList text v e = let same : values.Text text ≡ v = cc in subst (IsOfKind kinds.TextList) same tt
spelled_kind kinds.I64 text v e = go (signed_of text) e
  where
    go : (o : Option _) → option_map values.I64 o ≡ Some v → IsOfKind kinds.I64 v
    go None h = absurd (cc)
    go (Some z) h = let same : values.I64 z ≡ v = cc in subst (IsOfKind kinds.I64) same tt
spelled_kind kinds.U64 text v e = go (unsigned_of text) e
  where
    go : (o : Option _) → option_map values.U64 o ≡ Some v → IsOfKind kinds.U64 v
    go None h = absurd (cc)
    go (Some z) h = let same : values.U64 z ≡ v = cc in subst (IsOfKind kinds.U64) same tt
spelled_kind kinds.Bool text v e = go (truth_of text) e
  where
    go : (o : Option _) → option_map values.Bool o ≡ Some v → IsOfKind kinds.Bool v
    go None h = absurd (cc)
    go (Some z) h = let same : values.Bool z ≡ v = cc in subst (IsOfKind kinds.Bool) same tt
spelled_kind kinds.Datetime text v e = go (datetime_of text) e
  where
    go : (o : Option _) → option_map values.Datetime o ≡ Some v → IsOfKind kinds.Datetime v
    go None h = absurd (cc)
    go (Some z) h = let same : values.Datetime z ≡ v = cc in subst (IsOfKind kinds.Datetime) same tt

pub each_some : (f : Field) (ts : List Token) (vs : List Value) → 0 < length ts → each_stands f ts vs ≡ each_holds f ts vs
each_some f [] vs lt = absurd (omega arith)
each_some f (t ∷ ts) vs lt = refl

pub some_tokens : (xs ts : List Token) → xs ≡ ts → (length xs == 0) ≡ false → 0 < length ts
some_tokens xs ts same h = subst (λ (l : List Token). 0 < length l) same (go xs h)
  where
    go : (l : List Token) → (length l == 0) ≡ false → 0 < length l
    go [] e = absurd (let x : true ≡ false = e in cc)
    go (t ∷ l) e = omega arith

module _ (v : PartView) (s : Schema) (ds : List Placed) (p : Parts) (n : ℕ) (f : Field) where
  abbrev Finds : (List DocField → Bool) → List (List ℕ) → Result DocBits LeafError → Type 0
  Finds test keys r = MatchResult r (IsSetOf test ds) (LacksLookups v s ds p (lookups_for keys))

  abbrev Quoted : List ℕ → Bool → Result DocBits LeafError → Type 0
  Quoted text b r =
      Finds (λ d. cond b (phrase_holds f (field_tokens f text) (values_in d n)) (equals_some (spelled f.kind text) (values_in d n))) (cond b (token_keys n (field_tokens f text)) (value_keys n (spelled f.kind text))) r

  pub quoted_text : (text : List ℕ) (r : Result DocBits LeafError) → is_text f.kind ≡ true → Finds (λ d. phrase_holds f (field_tokens f text) (values_in d n)) (token_keys n (field_tokens f text)) r
      → Finds (λ d. quoted_holds f text (values_in d n)) (text_keys f n text) r
  quoted_text text r e h = subst (λ b. Quoted text b r) (sym e) h

  pub quoted_value : (text : List ℕ) (r : Result DocBits LeafError) → is_text f.kind ≡ false → Finds (λ d. equals_some (spelled f.kind text) (values_in d n)) (value_keys n (spelled f.kind text)) r
      → Finds (λ d. quoted_holds f text (values_in d n)) (text_keys f n text) r
  quoted_value text r e h = subst (λ b. Quoted text b r) (sym e) h

  abbrev Word : List ℕ → Bool → Bool → Result DocBits LeafError → Type 0
  Word text b c r =
      Finds (λ d. cond (b && not c) (each_holds f (field_tokens f text) (values_in d n)) (cond b (phrase_holds f (field_tokens f text) (values_in d n)) (equals_some (spelled f.kind text) (values_in d n))))
      (cond b (token_keys n (field_tokens f text)) (value_keys n (spelled f.kind text))) r

  pub word_gathered : (text : List ℕ) (r : Result DocBits LeafError) → is_text f.kind ≡ true → f.positions ≡ false → Finds (λ d. each_holds f (field_tokens f text) (values_in d n)) (token_keys n (field_tokens f text)) r
      → Finds (λ d. word_holds f text (values_in d n)) (text_keys f n text) r
  word_gathered text r e g h = subst (λ b. Word text b f.positions r) (sym e) (subst (λ c. Word text true c r) (sym g) h)

  pub word_quoted : (text : List ℕ) (r : Result DocBits LeafError) → (is_text f.kind ≡ false) ⊎ (f.positions ≡ true) → Finds (λ d. quoted_holds f text (values_in d n)) (text_keys f n text) r
      → Finds (λ d. word_holds f text (values_in d n)) (text_keys f n text) r
  word_quoted text r (inl e) h = subst (λ b. Word text b f.positions r) (sym e) (subst (λ b. Quoted text b r) e h)
  word_quoted text r (inr g) h = subst (λ c. Word text (is_text f.kind) c r) (sym g) (go (is_text f.kind) h)
    where
      go : (b : Bool) → Quoted text b r → Word text b true r
      go true k = k
      go false k = k

  -- a word that is looked for as a quoted text needs no more
  pub word_can : (text : List ℕ) → (is_text f.kind ≡ false) ⊎ (f.positions ≡ true) → CanPlace f text
  word_can text (inl e) = λ kind lt. absurd (let x : true ≡ false = sym kind ∙ e in cc)
  word_can text (inr g) = λ kind lt. g

  abbrev Member : Item → Bool → Result DocBits LeafError → Type 0
  Member item b r = Finds (λ d. cond b (quoted_holds f item.text (values_in d n)) (word_holds f item.text (values_in d n))) (text_keys f n item.text) r

  pub item_quoted : (item : Item) (r : Result DocBits LeafError) → item.quoted ≡ true → Finds (λ d. quoted_holds f item.text (values_in d n)) (text_keys f n item.text) r
      → Finds (λ d. item_holds f (values_in d n) item) (text_keys f n item.text) r
  item_quoted item r e h = subst (λ b. Member item b r) (sym e) h

  pub item_word : (item : Item) (r : Result DocBits LeafError) → item.quoted ≡ false → Finds (λ d. word_holds f item.text (values_in d n)) (text_keys f n item.text) r
      → Finds (λ d. item_holds f (values_in d n) item) (text_keys f n item.text) r
  item_word item r e h = subst (λ b. Member item b r) (sym e) h

  -- ---- members of a set

  item_asks : (i : ℕ) (x : Item) (items : List Item) → i < length items → x ≡ get_or items i x → (at len : ℕ) → AsksLookups v s ds p (text_lookups f n x.text) at len → AsksLookups v s ds p (item_lookups f n items) at len
  item_asks i x [] lt e at len asked = absurd (omega arith)
  item_asks zero x (y ∷ ys) lt e at len asked = lookups_front v s ds p (text_lookups f n y.text) (item_lookups f n ys) at len (subst (λ (z : Item). AsksLookups v s ds p (text_lookups f n z.text) at len) e asked)
  item_asks (suc i) x (y ∷ ys) lt e at len asked = lookups_end v s ds p (text_lookups f n y.text) (item_lookups f n ys) at len (item_asks i x ys (omega arith) e at len asked)

  pub item_lacks : (i : ℕ) (x : Item) (items : List Item) (e : LeafError) → i < length items → x ≡ get_or items i x → LacksLookups v s ds p (text_lookups f n x.text) e → LacksLookups v s ds p (item_lookups f n items) e
  item_lacks i x items e lt is h = cause_wider (AsksLookups v s ds p (text_lookups f n x.text)) (AsksLookups v s ds p (item_lookups f n items)) v.pieces e (item_asks i x items lt is) h

pub can_item : (f : Field) (i : ℕ) (x : Item) (items : List Item) → i < length items → x ≡ get_or items i x → CanPlaceEach f items → x.quoted ≡ true → CanPlace f x.text
can_item f i x [] lt e can = absurd (omega arith)
can_item f zero x (y ∷ ys) lt e can = subst (λ (z : Item). z.quoted ≡ true → CanPlace f z.text) (sym e) can.0
can_item f (suc i) x (y ∷ ys) lt e can = can_item f i x ys (omega arith) e can.1

or_group : (a b r : Bool) → (a || b) || r ≡ a || (b || r)
or_group true b r = refl
or_group false b r = refl

pub item_step : (f : Field) (vs : List Value) (x : Item) (items : List Item) (i : ℕ) (a : Bool) → i < length items → x ≡ get_or items i x
    → (a || item_holds f vs x) || some_item_holds f vs (drop (i + 1) items) ≡ a || some_item_holds f vs (drop i items)
item_step f vs x items i a lt e =
    let rest : drop i items ≡ x ∷ drop (i + 1) items = drop_more items i x lt ∙ ap (λ y. y ∷ drop (i + 1) items) (sym e) in
    or_group a (item_holds f vs x) (some_item_holds f vs (drop (i + 1) items)) ∙ ap (λ ys. a || some_item_holds f vs ys) (sym rest)
