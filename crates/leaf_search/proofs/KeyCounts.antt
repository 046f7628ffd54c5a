-- A query of one token matches the documents that have its key, and the dictionary says how many these are.
use Rattle.std.proofs.Common.{◌≡◌, ℕ, suc, ◌≤◌, ◌==◌, inl, Bool, true, false, not, ◌&&◌, ◌||◌, cond, List, [], ◌∷◌, length, filter, slice_get, Option, Some, None, Result, Ok, Err, MatchResult, refl, ap, sym, ◌∙◌, subst, arith}
use Rattle.std.specs.List.{AllByRecursion, AllZip}
use Rattle.std.specs.Option.{option_and_then, option_map_or}
use Rattle.std.proofs.lemmas.Bool.{eqb-true, and_parts, or_parts}
use Rattle.std.proofs.lemmas.Option.{slice_get_within}
use Rattle.doc_value.specs.declared.schema.Field.{Field}
use Rattle.doc_value.specs.declared.schema.Schema.{Schema}
use Rattle.doc_value.specs.declared.doc.DocField.{DocField}
use Rattle.doc_value.specs.declared.doc.Value.{Value}
use Rattle.doc_value.specs.Documents.{IsOfSchema, values_in}
use Rattle.text_tokens.specs.declared.tokens.Token.{Token}
use Rattle.query_ast.specs.FieldTokens.{field_tokens}
use Rattle.query_ast.specs.Meaning.{meaning, is_text, is_unlimited, has_time_within, some_has_token, each_holds, phrase_holds, equals_some, word_holds, quoted_holds}
use Rattle.query_ast.specs.Sought.{Sought, view}
use Rattle.query_ast.specs.Sought as sought
use Rattle.query_ast.specs.Spelled.{spelled}
use Rattle.agg_nested.specs.Buckets.{IsNestedPartial, IsPartFor, NestedStands, PartStands, documents_counted}
use Rattle.agg_nested.specs.declared.nested_partial.NestedPart.{NestedPart}
use Rattle.agg_nested.specs.declared.nested_partial.NestedPartial.{NestedPartial}
use Rattle.agg_nested.specs.declared.request.NestedAgg.{NestedAgg}
use Rattle.term_postings.specs.declared.list.Posting.{Posting}
use Rattle.split_bundle.specs.declared.placed.Placed.{Placed}
use Rattle.split_bundle.specs.Keys.{field_key, keys_of}
use Rattle.split_bundle.specs.Lists.{has_key, posted, posting_list, stands_in}
use Rattle.split_bundle.specs.Splits.{AreDocumentsOf}
use Rattle.split_bundle.specs.Files.{Parts, file_bytes}
use Rattle.split_bundle.specs.Lending.{IsPartOf}
use Rattle.split_bundle.specs.Wholes.{HaveAll}
use Rattle.split_bundle.specs.declared.part_view.PartView.{PartView}
use Rattle.doc_sets.specs.declared.dictionary_lookup.Lookup.TheVariants.{Count}
use Rattle.doc_sets.specs.declared.leaf_error.LeafError.{LeafError}
use Rattle.doc_sets.specs.Faults.{LacksPart, IsMemory}
use Rattle.doc_sets.specs.Needed.{IsBlockFor, token_keys}
use Rattle.doc_sets.proofs.Causes.{cause_wider}
use Rattle.doc_sets.proofs.WithinFile.{lookups_within, only_memory}
use Rattle.doc_sets.specs.Texts.{one_token, only}
use Rattle.query_ast.specs.Askable.{CanPlace, CanAsk}
use Rattle.doc_sets.proofs.PlaceKeys.{token_is_key}
use Rattle.doc_sets.proofs.Steps.{and_true, texts_in}
use Rattle.doc_sets.proofs.TermWalks.{all_map}
use Rattle.doc_tallies.specs.Orders.{firsts}
use Rattle.doc_tallies.specs.Picked.{docs_of}
use Rattle.leaf_search.specs.Answers.{AsksLeaf, AsksWith, found, passes, IsAnswerOf, IsAsked}
use Rattle.leaf_search.specs.Asks.{lookups_of}
use Rattle.leaf_search.specs.Counts.{counted_key, one_key, only_counts, request_lookups}
use Rattle.leaf_search.specs.declared.request.LeafAnswer.{LeafAnswer}
use Rattle.leaf_search.specs.declared.request.LeafRequest.{LeafRequest}
use Rattle.leaf_search.proofs.QuerySteps.{field_fact}

abbrev some : List ℕ → Option (List ℕ)
some key = Some key

-- ---- a text of one token

pub record IsToken (f : Field) (n : ℕ) (text key : List ℕ) : Type 0 where
  pub kind : is_text f.kind ≡ true
  pub token : Token
  pub tokens : field_tokens f text ≡ token ∷ []
  pub key_is : key ≡ field_key n token.text

is_token : (f : Field) (n : ℕ) (text key : List ℕ) → one_token f n text ≡ some key → IsToken f n text key
is_token f n text key e = by_kind (is_text f.kind) refl e
  where
    by_tokens : (ts : List Token) → is_text f.kind ≡ true → field_tokens f text ≡ ts → only (token_keys n ts) ≡ some key → IsToken f n text key
    by_tokens [] kind tokens h = absurd (cc)
    by_tokens (t ∷ []) kind tokens h = let same : field_key n t.text ≡ key = cc in record { kind = kind; token = t; tokens = tokens; key_is = sym same }
    by_tokens (t ∷ u ∷ ts) kind tokens h = absurd (cc)

    by_kind : (b : Bool) → is_text f.kind ≡ b → cond b (only (token_keys n (field_tokens f text))) None ≡ some key → IsToken f n text key
    by_kind true kind h = by_tokens (field_tokens f text) kind refl h
    by_kind false kind h = absurd (cc)

-- a word or a quoted text of one token stands where the token does
quoted_one : (f : Field) (n : ℕ) (text key : List ℕ) (vs : List Value) (is : IsToken f n text key) → quoted_holds f text vs ≡ some_has_token f is.token.text vs
quoted_one f n text key vs is =
    ap (λ b. cond b (phrase_holds f (field_tokens f text) vs) (equals_some (spelled f.kind text) vs)) is.kind ∙ ap (λ ts. phrase_holds f ts vs) is.tokens

word_one : (f : Field) (n : ℕ) (text key : List ℕ) (vs : List Value) (is : IsToken f n text key) → word_holds f text vs ≡ some_has_token f is.token.text vs
word_one f n text key vs is =
    ap (λ b. cond (b && not f.positions) (each_holds f (field_tokens f text) vs) (quoted_holds f text vs)) is.kind
    ∙ (ap (λ q. cond (not f.positions) (each_holds f (field_tokens f text) vs) q) (quoted_one f n text key vs is)
    ∙ (ap (λ ts. cond (not f.positions) (each_holds f ts vs) (some_has_token f is.token.text vs)) is.tokens ∙ either (not f.positions) (some_has_token f is.token.text vs)))
  where
    either : (b a : Bool) → cond b (a && true) a ≡ a
    either true a = and_true a
    either false a = refl

-- ---- a query of one token

module _ (s : Schema) (few : length s.fields ≤ 256) (key : List ℕ) (d : List DocField) (of_schema : IsOfSchema s d) where
  abbrev Matches : Bool → Type 0
  Matches b = b ≡ has_key key (keys_of s d)

  by_token : (f : Field) (n : ℕ) (text : List ℕ) → slice_get s.fields n ≡ Some f → f.indexed ≡ true → (is : IsToken f n text key) → some_has_token f is.token.text (values_in d n) ≡ has_key key (keys_of s d)
  by_token f n text got on is =
      let small = slice_get_within s.fields n f got in
      token_is_key s n f is.token.text d got (omega (arith, small)) on (texts_in s n f d got is.kind of_schema) ∙ ap (λ k. has_key k (keys_of s d)) (sym is.key_is)

  by_field : (holds : Field → Bool) (n : ℕ) (text : List ℕ) → ((f : Field) → (is : IsToken f n text key) → holds f ≡ some_has_token f is.token.text (values_in d n)) → ((f : Field) → slice_get s.fields n ≡ Some f → f.indexed ≡ true)
      → option_and_then (λ f. one_token f n text) (slice_get s.fields n) ≡ some key → Matches (option_map_or holds (slice_get s.fields n) false)
  by_field holds n text one on e = go (slice_get s.fields n) refl e
    where
      go : (o : Option Field) → slice_get s.fields n ≡ o → option_and_then (λ f. one_token f n text) o ≡ some key → Matches (option_map_or holds o false)
      go None got h = absurd (cc)
      go (Some f) got h = let is = is_token f n text key h in one f is ∙ by_token f n text got (on f got) is

  pub key_meaning : (q : Sought) → one_key s q ≡ some key → CanAsk s q → Matches (meaning s d q)
  key_meaning (sought.Word n text) e can =
      by_field (λ f. word_holds f text (values_in d n)) n text (λ f is. word_one f n text key (values_in d n) is) (λ f got. (field_fact s n f (λ g. (g.indexed ≡ true) × Unit {0}) got can).0) e
  key_meaning (sought.Quoted n text) e can =
      by_field (λ f. quoted_holds f text (values_in d n)) n text (λ f is. quoted_one f n text key (values_in d n) is) (λ f got. (field_fact s n f (λ g. (g.indexed ≡ true) × CanPlace g text) got can).0) e
  key_meaning sought.All e can = absurd (cc)
  key_meaning sought.Nothing e can = absurd (cc)
  key_meaning (sought.Prefix n text) e can = absurd (cc)
  key_meaning (sought.Exists n) e can = absurd (cc)
  key_meaning (sought.Range n low high) e can = absurd (cc)
  key_meaning (sought.AnyOf n items) e can = absurd (cc)
  key_meaning (sought.Not q) e can = absurd (cc)
  key_meaning (sought.And qs) e can = absurd (cc)
  key_meaning (sought.Or qs) e can = absurd (cc)

-- ---- a request that only counts

pub record OnlyCounts (s : Schema) (r : LeafRequest) (key : List ℕ) : Type 0 where
  pub wanted : r.wanted ≡ 0
  pub unlimited : is_unlimited r.times.start r.times.end ≡ true
  pub aggs : r.aggs ≡ []
  pub query : one_key s (view r.query) ≡ some key

pub no_aggs : (aggs : List NestedAgg) → (length aggs == 0) ≡ true → aggs ≡ []
no_aggs [] e = refl
no_aggs (a ∷ aggs) e = absurd (let none : length (a ∷ aggs) ≡ 0 = eqb-true (length (a ∷ aggs)) 0 e in omega arith)

pub counts : (s : Schema) (r : LeafRequest) (key : List ℕ) → counted_key s r ≡ some key → OnlyCounts s r key
counts s r key e = go (only_counts r) refl e
  where
    go : (b : Bool) → only_counts r ≡ b → cond b (one_key s (view r.query)) None ≡ some key → OnlyCounts s r key
    go false is h = absurd (cc)
    go true is h =
        let first = and_parts (r.wanted == 0) (is_unlimited r.times.start r.times.end && (length r.aggs == 0)) is in
        let second = and_parts (is_unlimited r.times.start r.times.end) (length r.aggs == 0) first.1 in
        record { wanted = eqb-true r.wanted 0 first.0; unlimited = second.0; aggs = no_aggs r.aggs second.1; query = h }

passes_key : (s : Schema) (r : LeafRequest) (key : List ℕ) (d : List DocField) → length s.fields ≤ 256 → IsOfSchema s d → OnlyCounts s r key → CanAsk s (view r.query) → passes s r d ≡ has_key key (keys_of s d)
passes_key s r key d few of_schema c can =
    ap (λ u. meaning s d (view r.query) && (u || has_time_within r.times s.timestamp d)) c.unlimited ∙ (and_true (meaning s d (view r.query)) ∙ key_meaning s few key d of_schema (view r.query) c.query can)

-- ---- how many documents have a key

none_posted : (s : Schema) (key : List ℕ) (n : ℕ) (ds : List Placed) → stands_in s key ds ≡ false → length (posted s key n ds) ≡ 0
none_posted s key n [] h = refl
none_posted s key n (d ∷ ds) h =
    let both = or_parts (has_key key (keys_of s d.doc)) (stands_in s key ds) h in
    go (has_key key (keys_of s d.doc)) _ both.0 (none_posted s key (suc n) ds both.1)
  where
    go : (b : Bool) (x : Posting) → b ≡ false → length (posted s key (suc n) ds) ≡ 0 → length (cond b (x ∷ posted s key (suc n) ds) (posted s key (suc n) ds)) ≡ 0
    go true x e rest = absurd (cc)
    go false x e rest = rest

pub no_posting : (s : Schema) (key : List ℕ) (ds : List Placed) → stands_in s key ds ≡ false → length (posting_list s ds key) ≡ 0
no_posting s key ds h = none_posted s key 0 ds h

pub many_posted : (s : Schema) (key : List ℕ) (test : List DocField → Bool) (n : ℕ) (ds : List Placed) → AllByRecursion (λ d. test d.doc ≡ has_key key (keys_of s d.doc)) ds
    → length (posted s key n ds) ≡ length (filter (λ d. test d.doc) ds)
many_posted s key test n [] all = refl
many_posted s key test n (d ∷ ds) all =
    go (has_key key (keys_of s d.doc)) _ (many_posted s key test (suc n) ds all.1) ∙ ap (λ b. length (cond b (d ∷ filter (λ e. test e.doc) ds) (filter (λ e. test e.doc) ds))) (sym all.0)
  where
    go : (b : Bool) (x : Posting) → length (posted s key (suc n) ds) ≡ length (filter (λ e. test e.doc) ds)
        → length (cond b (x ∷ posted s key (suc n) ds) (posted s key (suc n) ds)) ≡ length (cond b (d ∷ filter (λ e. test e.doc) ds) (filter (λ e. test e.doc) ds))
    go true x h = ap suc h
    go false x h = h

-- ---- the answer

no_parts : (number : ℕ) (docs : List (List DocField)) (parts : List NestedPart) → AllZip (λ (asked : NestedAgg) (part : NestedPart). IsPartFor asked number part) [] parts → AllZip (λ (asked : NestedAgg) (part : NestedPart). PartStands asked part docs) [] parts
no_parts number docs [] h = tt
no_parts number docs (x ∷ xs) h = absurd h

pub stands_for : (aggs : List NestedAgg) (partial : NestedPartial) (docs : List (List DocField)) → aggs ≡ [] → IsNestedPartial aggs partial → documents_counted partial ≡ length docs → NestedStands aggs partial docs
stands_for aggs partial docs none is many = record {
  many = many;
  parts = subst (λ (l : List NestedAgg). AllZip (λ (asked : NestedAgg) (part : NestedPart). PartStands asked part docs) l partial.parts.items) (sym none)
      (no_parts partial.documents docs partial.parts.items (subst (λ (l : List NestedAgg). AllZip (λ (asked : NestedAgg) (part : NestedPart). IsPartFor asked partial.documents part) l partial.parts.items) none is.parts));
}

pub many_docs : (ds : List Placed) → length ds ≡ length (docs_of ds)
many_docs [] = refl
many_docs (d ∷ ds) = ap suc (many_docs ds)

pub is_counted : (s : Schema) (r : LeafRequest) (ds : List Placed) (key : List ℕ) (a : LeafAnswer) → AreDocumentsOf s ds → length s.fields ≤ 256 → IsAsked s r → OnlyCounts s r key → a.count ≡ length (posting_list s ds key) → a.hits ≡ []
    → documents_counted a.partial ≡ a.count → IsNestedPartial r.aggs a.partial → IsAnswerOf s r ds a
is_counted s r ds key a docs few ask c count hits documents partial =
    let all = all_map (λ d. IsOfSchema s d.doc) (λ d. passes s r d.doc ≡ has_key key (keys_of s d.doc)) ds (λ d h. passes_key s r key d.doc few h c ask.query) docs.of_schema in
    let many : a.count ≡ length (found s r ds) = count ∙ many_posted s key (passes s r) 0 ds all in
    record {
      count = many;
      hits = hits ∙ sym (ap (λ n. firsts n r.order (found s r ds)) c.wanted);
      partial = stands_for r.aggs a.partial (docs_of (found s r ds)) c.aggs partial (documents ∙ (many ∙ many_docs (found s r ds)));
    }

-- ---- what is asked for

module _ (v : PartView) (s : Schema) (ds : List Placed) (p : Parts) (r : LeafRequest) where
  pub counted_lookups : (key : List ℕ) → counted_key s r ≡ some key → request_lookups v.footer s r ≡ Count key ∷ []
  counted_lookups key same = ap (λ (o : Option (List ℕ)). option_map_or (λ k. Count k ∷ []) o (lookups_of v.footer s (view r.query))) same

  pub counted_cause : (key : List ℕ) (e : LeafError) → counted_key s r ≡ some key → LacksPart (IsBlockFor v s ds p key) v.pieces e → LacksPart (AsksLeaf v s ds p r) v.pieces e
  counted_cause key e same cause =
      subst (λ (o : Option (List ℕ)). LacksPart (AsksWith v s ds p r (option_map_or (λ k. Count k ∷ []) o (lookups_of v.footer s (view r.query)))) v.pieces e) (sym same)
      (cause_wider (IsBlockFor v s ds p key) (AsksWith v s ds p r (Count key ∷ [])) v.pieces e (λ at len b. inl (inl b)) cause)

  pub uncounted : {X : Type 0} (good : X → Type 0) (result : Result X LeafError) → counted_key s r ≡ None → MatchResult result good (LacksPart (AsksWith v s ds p r (lookups_of v.footer s (view r.query))) v.pieces)
      → MatchResult result good (LacksPart (AsksLeaf v s ds p r) v.pieces)
  uncounted good result same h =
      subst (λ (o : Option (List ℕ)). MatchResult result good (LacksPart (AsksWith v s ds p r (option_map_or (λ k. Count k ∷ []) o (lookups_of v.footer s (view r.query)))) v.pieces)) (sym same) h

  pub block_memory : (key : List ℕ) (e : LeafError) → IsPartOf v s ds p → HaveAll (file_bytes p) v.pieces → LacksPart (IsBlockFor v s ds p key) v.pieces e → IsMemory e
  block_memory key e part all cause = only_memory (IsBlockFor v s ds p key) (file_bytes p) v.pieces e (λ at len b. lookups_within v s ds p part (Count key ∷ []) at len (inl (inl b))) all cause

-- a result by parts
pub by_parts : {X : Type 0} (good better : X → Type 0) (P Q : LeafError → Type 0) (result : Result X LeafError) → ((x : X) → result ≡ Ok x → good x → better x) → ((e : LeafError) → P e → Q e) → MatchResult result good P → MatchResult result better Q
by_parts good better P Q (Ok x) more wider h = more x refl h
by_parts good better P Q (Err e) more wider h = wider e h
