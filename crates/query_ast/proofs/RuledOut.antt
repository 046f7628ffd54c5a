-- Where the tag facts rule a query out, no document with those facts meets it.
use Rattle.std.proofs.Common.{◌≡◌, ℕ, suc, ℤ, Bool, true, false, not, ◌&&◌, ◌||◌, List, [], ◌∷◌, Option, Some, None, refl, ap, sym, ◌∙◌, subst, length, arith, if◌then◌else◌}
use Rattle.std.specs.Prelude.{slice_get, nat_le, int_le, option_map}
use Rattle.std.specs.List.{All}
use Rattle.std.specs.Cmp.{unsigned_Decides}
use Rattle.std.proofs.lemmas.Slice.Eq.{bytes_eq-Decides}
use Rattle.std.proofs.lemmas.Bool.{leb-true}
use Rattle.std.proofs.lemmas.Int.{ints}
use Rattle.std.specs.Str.{bytes_eq}
use Rattle.std.specs.Option.{option_map_or}
use Rattle.doc_value.specs.declared.schema.Field.{Field}
use Rattle.doc_value.specs.declared.schema.Schema.{Schema}
use Rattle.doc_value.specs.declared.schema.Kind.{Kind}
use Rattle.doc_value.specs.declared.schema.Kind.TheVariants as kinds
use Rattle.doc_value.specs.declared.schema.Tokenizer.{Tokenizer}
use Rattle.doc_value.specs.declared.schema.Tokenizer.TheVariants as tokenizers
use Rattle.doc_value.specs.declared.doc.Value.{Value}
use Rattle.doc_value.specs.declared.doc.Value.TheVariants as values
use Rattle.doc_value.specs.declared.doc.DocField.{DocField}
use Rattle.doc_value.specs.declared.facts.FieldTags.{FieldTags}
use Rattle.text_tokens.specs.Tokens.{raw_tokens, max_token}
use Rattle.query_ast.specs.FieldTokens.{field_tokens, tokens_by}
use Rattle.query_ast.specs.Sought.{Sought, Soughts, no_more, more}
use Rattle.query_ast.specs.Sought as sought
use Rattle.query_ast.specs.declared.query.Item.{Item}
use Rattle.query_ast.specs.Meaning.{same_value, equals_some, has_token, tokens_in, is_text, some_has_token, phrase_holds, each_holds, quoted_holds, word_holds, item_holds, some_item_holds, meaning, all_hold, some_hold}
use Rattle.doc_value.specs.Documents.{values_in}
use Rattle.query_ast.specs.Spelled.{spelled, signed_of, unsigned_of, truth_of, datetime_of}
use Rattle.query_ast.specs.Pruning.{allowed, term_of, is_raw, is_looked_up, has_list, HasTerm, can_equal, some_can_equal, can_match, all_can, some_can, AreFactsOf}
use Rattle.doc_value.specs.Terms.{term_bytes}

and_left : (a b : Bool) → (a && b) ≡ true → a ≡ true
and_left true b h = refl
and_left false b h = h

and_right : (a b : Bool) → (a && b) ≡ true → b ≡ true
and_right true b h = h
and_right false b h = absurd (let x : false ≡ true = h in cc)

or_left : (a b : Bool) → a ≡ true → (a || b) ≡ true
or_left true b h = refl
or_left false b h = absurd (let x : false ≡ true = h in cc)

or_right : (a b : Bool) → b ≡ true → (a || b) ≡ true
or_right true b h = refl
or_right false b h = h

-- a disjunction implies another side by side
or_each : (a b c d : Bool) → (a ≡ true → c ≡ true) → (b ≡ true → d ≡ true) → (a || b) ≡ true → (c || d) ≡ true
or_each true b c d f g h = or_left c d (f refl)
or_each false b c d f g h = or_right c d (g h)

and_each : (a b c d : Bool) → (a ≡ true → c ≡ true) → (b ≡ true → d ≡ true) → (a && b) ≡ true → (c && d) ≡ true
and_each true b c d f g h = rw (f refl) (g h)
and_each false b c d f g h = absurd (let x : false ≡ true = h in cc)

or_none : (a : Bool) → (a || false) ≡ true → a ≡ true
or_none true h = refl
or_none false h = h

-- a value is no text
abbrev IsNoText : Value → Type 0
IsNoText (values.Text t) = ⊥
IsNoText _ = Unit {0}

mapped : {A : Type 0} (o : Option A) (f : A → Value) (w : Value) → ((a : A) → IsNoText (f a)) → option_map f o ≡ Some w → IsNoText w
mapped None f w h e = absurd (let x : None ≡ Some w = e in cc)
mapped (Some a) f w h e = subst IsNoText (let x : Some (f a) ≡ Some w = e in cc) (h a)

-- what is spelled of a kind that is no text is no text
spelled_no_text : (k : Kind) (text : List ℕ) (w : Value) → is_text k ≡ false → spelled k text ≡ Some w → IsNoText w
spelled_no_text kinds.Text text w n e = absurd (let x : true ≡ false = n in cc)
spelled_no_text kinds.TextList text w n e = absurd (let x : true ≡ false = n in cc)
spelled_no_text kinds.I64 text w n e = mapped (signed_of text) values.I64 w (λ a. tt) e
spelled_no_text kinds.U64 text w n e = mapped (unsigned_of text) values.U64 w (λ a. tt) e
spelled_no_text kinds.Bool text w n e = mapped (truth_of text) values.Bool w (λ a. tt) e
spelled_no_text kinds.Datetime text w n e = mapped (datetime_of text) values.Datetime w (λ a. tt) e

int_same : (a b : ℤ) → (int_le a b && int_le b a) ≡ true → a ≡ b
int_same a b h = grind (arith, ints)

same_truth : (a b : Bool) → same_value (values.Bool a) (values.Bool b) ≡ true → a ≡ b
same_truth false false h = refl
same_truth false true h = absurd (let x : false ≡ true = h in cc)
same_truth true true h = refl
same_truth true false h = absurd (let x : false ≡ true = h in cc)

-- a value that equals one that is no text has a term, and it is the same
same_term : (v w : Value) → IsNoText w → same_value v w ≡ true → HasTerm v × (term_bytes v ≡ term_bytes w)
same_term (values.I64 a) (values.I64 b) n h = (tt, ap (λ z. term_bytes (values.I64 z)) (int_same a b h))
same_term (values.U64 a) (values.U64 b) n h = (tt, ap (λ z. term_bytes (values.U64 z)) ((unsigned_Decides a b).0 h))
same_term (values.Bool a) (values.Bool b) n h = (tt, ap (λ z. term_bytes (values.Bool z)) (same_truth a b h))
same_term (values.Datetime a) (values.Datetime b) n h = (tt, ap (λ z. term_bytes (values.Datetime z)) (int_same a b h))
same_term v (values.Text t) n h = absurd n
same_term (values.Bool false) (values.I64 x) n h = absurd (let x : false ≡ true = h in cc)
same_term (values.Bool false) (values.U64 x) n h = absurd (let x : false ≡ true = h in cc)
same_term (values.Bool false) (values.Datetime x) n h = absurd (let x : false ≡ true = h in cc)
same_term (values.Bool true) (values.I64 x) n h = absurd (let x : false ≡ true = h in cc)
same_term (values.Bool true) (values.U64 x) n h = absurd (let x : false ≡ true = h in cc)
same_term (values.Bool true) (values.Datetime x) n h = absurd (let x : false ≡ true = h in cc)
same_term _ _ n h = absurd (let x : false ≡ true = h in cc)

module _ (facts : List FieldTags) (n : ℕ) where
  -- the facts allow the term of each value
  abbrev AllowsEach : List Value → Type 0
  AllowsEach vs = All (λ v. HasTerm v → allowed facts n (Some (term_bytes v)) ≡ true) vs

  later : (v : Value) (vs : List Value) → AllowsEach (v ∷ vs) → AllowsEach vs
  later v vs h = λ k d l. h (suc k) d (omega (arith, l))

  equal_allowed : (w : Value) (vs : List Value) → IsNoText w → AllowsEach vs → equals_some (Some w) vs ≡ true → allowed facts n (Some (term_bytes w)) ≡ true
  equal_allowed w [] t all h = absurd (let x : false ≡ true = h in cc)
  equal_allowed w (v ∷ vs) t all h = by (equal_allowed w vs t (later v vs all)) (same_value v w) refl
    where
      by : (equals_some (Some w) vs ≡ true → allowed facts n (Some (term_bytes w)) ≡ true) → (b : Bool) → same_value v w ≡ b → allowed facts n (Some (term_bytes w)) ≡ true
      by later_on true e = let s = same_term v w t e in subst (λ x. allowed facts n (Some x) ≡ true) s.1 (all 0 v (omega arith) s.0)
      by later_on false e = later_on (rw e at h)

  -- of a value that a text spells
  spelled_allowed : (k : Kind) (text : List ℕ) (vs : List Value) → is_text k ≡ false → AllowsEach vs → equals_some (spelled k text) vs ≡ true → allowed facts n (term_of k text) ≡ true
  spelled_allowed k text vs t all h = by (spelled k text) refl
    where
      by : (o : Option Value) → spelled k text ≡ o → allowed facts n (option_map term_bytes o) ≡ true
      by None e = absurd (let x : false ≡ true = rw e at h in cc)
      by (Some w) e = equal_allowed w vs (spelled_no_text k text w t e) all (rw e at h)

  -- of a token of a raw text
  token_allowed : (f : Field) (w : List ℕ) (vs : List Value) → f.tokenizer ≡ tokenizers.Raw → AllowsEach vs → some_has_token f w vs ≡ true → allowed facts n (Some w) ≡ true
  token_allowed f w [] r all h = absurd (let x : false ≡ true = h in cc)
  token_allowed f w (v ∷ vs) r all h = by (token_allowed f w vs r (later v vs all)) (has_token w (tokens_in f v)) refl
    where
      short : (t : List ℕ) (b : Bool) → nat_le (length t) max_token ≡ b → v ≡ values.Text t → has_token w (raw_tokens t) ≡ true → allowed facts n (Some w) ≡ true
      short t true e is g = let same : t ≡ w = (bytes_eq-Decides t w).0 (or_none (bytes_eq t w) (rw e at g)) in
          subst (λ x. allowed facts n (Some x) ≡ true) same
          (subst (λ x. HasTerm x → allowed facts n (Some (term_bytes x)) ≡ true) is (all 0 v (omega arith)) (leb-true (length t) max_token e))
      short t false e is g = absurd (let x : false ≡ true = rw e at g in cc)

      one : (x : Value) → v ≡ x → has_token w (tokens_in f x) ≡ true → allowed facts n (Some w) ≡ true
      one (values.Text t) is g = short t (nat_le (length t) max_token) refl is (subst (λ k. has_token w (tokens_by k t) ≡ true) r g)
      one (values.I64 z) is g = absurd (let x : false ≡ true = g in cc)
      one (values.U64 z) is g = absurd (let x : false ≡ true = g in cc)
      one (values.Bool z) is g = absurd (let x : false ≡ true = g in cc)
      one (values.Datetime z) is g = absurd (let x : false ≡ true = g in cc)

      by : (some_has_token f w vs ≡ true → allowed facts n (Some w) ≡ true) → (b : Bool) → has_token w (tokens_in f v) ≡ b → allowed facts n (Some w) ≡ true
      by later_on true e = one v refl e
      by later_on false e = later_on (rw e at h)

-- a raw text is looked for as one token
raw_phrase : (f : Field) (w : List ℕ) (vs : List Value) (b : Bool) → nat_le (length w) max_token ≡ b → phrase_holds f (raw_tokens w) vs ≡ true → some_has_token f w vs ≡ true
raw_phrase f w vs true e h = rw e at h
raw_phrase f w vs false e h = absurd (let x : false ≡ true = rw e at h in cc)

raw_each : (f : Field) (w : List ℕ) (vs : List Value) (b : Bool) → nat_le (length w) max_token ≡ b → each_holds f (raw_tokens w) vs ≡ true → some_has_token f w vs ≡ true
raw_each f w vs true e h = and_left (some_has_token f w vs) true (rw e at h)
raw_each f w vs false e h = absurd (let x : false ≡ true = rw e at h in cc)

text_term : (k : Kind) (w : List ℕ) → is_text k ≡ true → term_of k w ≡ Some w
text_term kinds.Text w e = refl
text_term kinds.TextList w e = refl
text_term kinds.I64 w e = absurd (let x : false ≡ true = e in cc)
text_term kinds.U64 w e = absurd (let x : false ≡ true = e in cc)
text_term kinds.Bool w e = absurd (let x : false ≡ true = e in cc)
text_term kinds.Datetime w e = absurd (let x : false ≡ true = e in cc)

raw_is : (t : Tokenizer) → is_raw t ≡ true → t ≡ tokenizers.Raw
raw_is tokenizers.Raw e = refl
raw_is tokenizers.Whitespace e = absurd (let x : false ≡ true = e in cc)
raw_is tokenizers.Default e = absurd (let x : false ≡ true = e in cc)

-- of a field that is looked up: texts are raw
looked_raw : (f : Field) → is_looked_up f ≡ true → is_text f.kind ≡ true → f.tokenizer ≡ tokenizers.Raw
looked_raw f l t = raw_is f.tokenizer (or_none (is_raw f.tokenizer) (subst (λ b. (is_raw f.tokenizer || not b) ≡ true) t (and_right f.tag (is_raw f.tokenizer || not (is_text f.kind)) l)))

module _ (facts : List FieldTags) (n : ℕ) (f : Field) (looked : is_looked_up f ≡ true) (w : List ℕ) (vs : List Value) (all : AllowsEach facts n vs) where
  quoted_of : (b : Bool) → is_text f.kind ≡ b → quoted_holds f w vs ≡ true → allowed facts n (term_of f.kind w) ≡ true
  quoted_of true t h =
      let raw = looked_raw f looked t in
      subst (λ o. allowed facts n o ≡ true) (sym (text_term f.kind w t))
      (token_allowed facts n f w vs raw all (raw_phrase f w vs (nat_le (length w) max_token) refl (subst (λ k. phrase_holds f (tokens_by k w) vs ≡ true) raw (rw t at h))))
  quoted_of false t h = spelled_allowed facts n f.kind w vs t all (rw t at h)

  quoted_allowed : quoted_holds f w vs ≡ true → allowed facts n (term_of f.kind w) ≡ true
  quoted_allowed h = quoted_of (is_text f.kind) refl h

  word_of : (b p : Bool) → is_text f.kind ≡ b → f.positions ≡ p → word_holds f w vs ≡ true → allowed facts n (term_of f.kind w) ≡ true
  word_of true false t e h =
      let raw = looked_raw f looked t in
      subst (λ o. allowed facts n o ≡ true) (sym (text_term f.kind w t))
      (token_allowed facts n f w vs raw all (raw_each f w vs (nat_le (length w) max_token) refl (subst (λ k. each_holds f (tokens_by k w) vs ≡ true) raw (rw (t, e) at h))))
  word_of true true t e h =
      let g = subst (λ b. (if b && not f.positions then each_holds f (field_tokens f w) vs else quoted_holds f w vs) ≡ true) t h in
      quoted_allowed (subst (λ p. (if true && not p then each_holds f (field_tokens f w) vs else quoted_holds f w vs) ≡ true) e g)
  word_of false p t e h = quoted_allowed (subst (λ b. (if b && not f.positions then each_holds f (field_tokens f w) vs else quoted_holds f w vs) ≡ true) t h)

  word_allowed : word_holds f w vs ≡ true → allowed facts n (term_of f.kind w) ≡ true
  word_allowed h = word_of (is_text f.kind) f.positions refl refl h

module _ (s : Schema) (facts : List FieldTags) (doc : List DocField) (hold : AreFactsOf facts doc) where
  asked_word : (n : ℕ) (w : List ℕ) (o : Option Field) → slice_get s.fields n ≡ o → option_map_or (λ f. word_holds f w (values_in doc n)) o false ≡ true
      → option_map_or (λ f. if is_looked_up f then allowed facts n (term_of f.kind w) else true) o true ≡ true
  asked_word n w None e h = refl
  asked_word n w (Some f) e h = of (is_looked_up f) refl
    where
      of : (b : Bool) → is_looked_up f ≡ b → (if b then allowed facts n (term_of f.kind w) else true) ≡ true
      of true t = word_allowed facts n f t w (values_in doc n) (hold n) h
      of false t = refl

  asked_quoted : (n : ℕ) (w : List ℕ) (o : Option Field) → slice_get s.fields n ≡ o → option_map_or (λ f. quoted_holds f w (values_in doc n)) o false ≡ true
      → option_map_or (λ f. if is_looked_up f then allowed facts n (term_of f.kind w) else true) o true ≡ true
  asked_quoted n w None e h = refl
  asked_quoted n w (Some f) e h = of (is_looked_up f) refl
    where
      of : (b : Bool) → is_looked_up f ≡ b → (if b then allowed facts n (term_of f.kind w) else true) ≡ true
      of true t = quoted_allowed facts n f t w (values_in doc n) (hold n) h
      of false t = refl

  one_item : (n : ℕ) (f : Field) (item : Item) (b : Bool) → item.quoted ≡ b → slice_get s.fields n ≡ Some f → item_holds f (values_in doc n) item ≡ true → can_equal s facts n item.text ≡ true
  one_item n f item true q e h = asked_quoted n item.text (slice_get s.fields n) refl (rw e (rw q at h))
  one_item n f item false q e h = asked_word n item.text (slice_get s.fields n) refl (rw e (rw q at h))

  some_item : (n : ℕ) (f : Field) (items : List Item) → slice_get s.fields n ≡ Some f → some_item_holds f (values_in doc n) items ≡ true → some_can_equal s facts n items ≡ true
  some_item n f [] e h = h
  some_item n f (i ∷ is) e h =
      or_each (item_holds f (values_in doc n) i) (some_item_holds f (values_in doc n) is) (can_equal s facts n i.text) (some_can_equal s facts n is)
      (one_item n f i i.quoted refl e) (some_item n f is e) h

  asked_set : (n : ℕ) (items : List Item) (o : Option Field) → slice_get s.fields n ≡ o → option_map_or (λ f. some_item_holds f (values_in doc n) items) o false ≡ true
      → option_map_or (λ f. if is_looked_up f && has_list facts n then some_can_equal s facts n items else true) o true ≡ true
  asked_set n items None e h = refl
  asked_set n items (Some f) e h = of (is_looked_up f && has_list facts n)
    where
      of : (b : Bool) → (if b then some_can_equal s facts n items else true) ≡ true
      of true = some_item n f items e h
      of false = refl

  mutual
    can : (q : Sought) → meaning s doc q ≡ true → can_match s facts q ≡ true
    can (sought.Word n w) h = asked_word n w (slice_get s.fields n) refl h
    can (sought.Quoted n w) h = asked_quoted n w (slice_get s.fields n) refl h
    can (sought.AnyOf n items) h = asked_set n items (slice_get s.fields n) refl h
    can (sought.And qs) h = can_all qs h
    can (sought.Or qs) h = can_some qs h
    can _ h = refl

    can_all : (qs : Soughts) → all_hold s doc qs ≡ true → all_can s facts qs ≡ true
    can_all no_more h = refl
    can_all (more q qs) h = and_each (meaning s doc q) (all_hold s doc qs) (can_match s facts q) (all_can s facts qs) (can q) (can_all qs) h

    can_some : (qs : Soughts) → some_hold s doc qs ≡ true → some_can s facts qs ≡ true
    can_some no_more h = h
    can_some (more q qs) h = or_each (meaning s doc q) (some_hold s doc qs) (can_match s facts q) (some_can s facts qs) (can q) (can_some qs) h

  pub ruled_out : (q : Sought) → can_match s facts q ≡ false → meaning s doc q ≡ false
  ruled_out q h = go (meaning s doc q) refl
    where
      go : (b : Bool) → meaning s doc q ≡ b → b ≡ false
      go true e = sym (can q e) ∙ h
      go false e = refl
