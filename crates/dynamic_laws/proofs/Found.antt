-- What is found among the leaf texts that a document lists.
use Rattle.std.proofs.Common.{◌≡◌, ℕ, ◌<◌, ◌&&◌, ◌||◌, Bool, true, false, List, [], ◌∷◌, ◌++◌, length, length-append, map, decimal, refl, ap, sym, ◌∙◌, nat_eq, nat_le, not, if◌then◌else◌, arith}
use Rattle.std.proofs.lemmas.Bool.{and_parts}
use Rattle.std.proofs.lemmas.Bool.Decides.{nat_tests}
use Rattle.std.specs.List.{AllByRecursion, list_any, starts_with}
use Rattle.std.specs.Str.{bytes_eq}
use Rattle.std.proofs.lemmas.Slice.Eq.{bytes_eq-Decides}
use Rattle.text_tokens.specs.Tokens.{raw_tokens, max_token}
use Rattle.text_tokens.specs.declared.tokens.Token.{Token}
use Rattle.doc_value.specs.declared.doc.Value.{Value}
use Rattle.doc_value.specs.declared.doc.Value.TheVariants as values
use Rattle.doc_value.specs.declared.schema.Field.{Field}
use Rattle.doc_value.specs.declared.schema.Tokenizer.{Tokenizer}
use Rattle.dynamic_paths.specs.LeafTexts.{Leaf, leaf_text, fits, fitting_texts, max_leaf_text}
use Rattle.dynamic_paths.proofs.Apart.{apart, by_front, by_path}
use Rattle.query_ast.specs.FieldTokens.{field_tokens, tokens_by, prefix_text, prefix_by}
use Rattle.query_ast.specs.Meaning.{is_text, has_token, has_prefix, some_has_token, some_has_prefix, word_holds, quoted_holds, phrase_holds, each_holds, some_item_holds, equals_some}
use Rattle.query_ast.specs.Spelled.{spelled}
use Rattle.query_reader.specs.Resolve.{leaf_item}
use Rattle.query_reader.specs.Texts.{text_at}
use Rattle.query_reader.specs.declared.special.Member.{Member}
use Rattle.query_reader.proofs.Holding.{IsHolder}
use Rattle.dynamic_laws.specs.Listed.{IsShort, has_kept, has_front, has_path}

-- ---- the tokens of a whole text

raw : (f : Field) (w : List ℕ) → IsHolder f → field_tokens f w ≡ raw_tokens w
raw f w h = ap (λ (t : Tokenizer). tokens_by t w) h.tokenizer

or_no : (b : Bool) → b || false ≡ b
or_no true = refl
or_no false = refl

and_yes : (b : Bool) → b && true ≡ b
and_yes true = refl
and_yes false = refl

no_and : (b : Bool) → b && false ≡ false
no_and true = refl
no_and false = refl

one_has : (w v : List ℕ) → has_token w (raw_tokens v) ≡ (fits v && bytes_eq v w)
one_has w v = go (nat_le (length v) max_token) (record { text = v; from = 0; to = length v; position = 0 }) refl
  where
    go : (b : Bool) (t : Token) → t.text ≡ v → has_token w (if b then t ∷ [] else []) ≡ (b && bytes_eq v w)
    go true t e = or_no (bytes_eq t.text w) ∙ ap (λ x. bytes_eq x w) e
    go false t e = refl

one_begins : (w v : List ℕ) → has_prefix w (raw_tokens v) ≡ (fits v && starts_with nat_eq v w)
one_begins w v = go (nat_le (length v) max_token) (record { text = v; from = 0; to = length v; position = 0 }) refl
  where
    go : (b : Bool) (t : Token) → t.text ≡ v → has_prefix w (if b then t ∷ [] else []) ≡ (b && starts_with nat_eq v w)
    go true t e = or_no (starts_with nat_eq t.text w) ∙ ap (λ x. starts_with nat_eq x w) e
    go false t e = refl

-- ---- two leaf texts

same_bool : (a b : Bool) → (a ≡ true → b ≡ true) → (b ≡ true → a ≡ true) → a ≡ b
same_bool true true f g = refl
same_bool true false f g = sym (f refl)
same_bool false true f g = g refl
same_bool false false f g = refl

equal_leaves : (leaf : Leaf) (path text : List ℕ) → IsShort leaf.0 → IsShort path → bytes_eq (leaf_text leaf.0 leaf.1) (leaf_text path text) ≡ (bytes_eq path leaf.0 && bytes_eq text leaf.1)
equal_leaves leaf path text short long = same_bool _ _
    (λ e.
    let same = apart leaf.0 leaf.1 path text short long ((bytes_eq-Decides (leaf_text leaf.0 leaf.1) (leaf_text path text)).0 e) in
    let one : bytes_eq path leaf.0 ≡ true = (bytes_eq-Decides path leaf.0).1 (sym same.0) in
    let two : bytes_eq text leaf.1 ≡ true = (bytes_eq-Decides text leaf.1).1 (sym same.1) in
    ap (λ b. b && bytes_eq text leaf.1) one ∙ two)
    (λ e.
    let p = and_parts (bytes_eq path leaf.0) (bytes_eq text leaf.1) e in
    let one : path ≡ leaf.0 = (bytes_eq-Decides path leaf.0).0 p.0 in
    let two : text ≡ leaf.1 = (bytes_eq-Decides text leaf.1).0 p.1 in
    (bytes_eq-Decides (leaf_text leaf.0 leaf.1) (leaf_text path text)).1 (sym (ap (λ x. leaf_text x text) one ∙ ap (leaf_text leaf.0) two)))

-- a leaf whose leaf text is dropped is another than one whose leaf text is kept
other_leaf : (leaf : Leaf) (path text : List ℕ) → IsShort leaf.0 → IsShort path → fits (leaf_text path text) ≡ true → fits (leaf_text leaf.0 leaf.1) ≡ false → (bytes_eq path leaf.0 && bytes_eq text leaf.1) ≡ false
other_leaf leaf path text short long kept dropped = go (bytes_eq path leaf.0 && bytes_eq text leaf.1) refl
  where
    go : (b : Bool) → (bytes_eq path leaf.0 && bytes_eq text leaf.1) ≡ b → (bytes_eq path leaf.0 && bytes_eq text leaf.1) ≡ false
    go false e = e
    go true e =
        let l : leaf_text leaf.0 leaf.1 ≡ leaf_text path text = (bytes_eq-Decides (leaf_text leaf.0 leaf.1) (leaf_text path text)).0 (equal_leaves leaf path text short long ∙ e) in
        absurd (let y : false ≡ true = sym dropped ∙ ap fits l ∙ kept in cc)

-- ---- what is found in a list

module _ (f : Field) (h : IsHolder f) where
  -- one leaf more
  token_step : (path text : List ℕ) → IsShort path → fits (leaf_text path text) ≡ true → (leaf : Leaf) (rest : List (List ℕ)) (found : Bool) → IsShort leaf.0
      → some_has_token f (leaf_text path text) (map values.Text rest) ≡ found → (b : Bool) → fits (leaf_text leaf.0 leaf.1) ≡ b
      → some_has_token f (leaf_text path text) (map values.Text (if b then leaf_text leaf.0 leaf.1 ∷ rest else rest)) ≡ ((bytes_eq path leaf.0 && bytes_eq text leaf.1) || found)
  token_step path text long kept leaf rest found short more true e =
      ap (λ ts. has_token (leaf_text path text) ts || some_has_token f (leaf_text path text) (map values.Text rest)) (raw f (leaf_text leaf.0 leaf.1) h)
      ∙ ap (λ b. b || some_has_token f (leaf_text path text) (map values.Text rest))
      (one_has (leaf_text path text) (leaf_text leaf.0 leaf.1) ∙ ap (λ b. b && bytes_eq (leaf_text leaf.0 leaf.1) (leaf_text path text)) e ∙ equal_leaves leaf path text short long)
      ∙ ap (λ b. (bytes_eq path leaf.0 && bytes_eq text leaf.1) || b) more
  token_step path text long kept leaf rest found short more false e = more ∙ sym (ap (λ b. b || found) (other_leaf leaf path text short long kept e))

  token_in : (path text : List ℕ) → IsShort path → fits (leaf_text path text) ≡ true → (leaves : List Leaf) → AllByRecursion (λ (leaf : Leaf). IsShort leaf.0) leaves
      → some_has_token f (leaf_text path text) (map values.Text (fitting_texts leaves)) ≡ list_any (λ (leaf : Leaf). bytes_eq path leaf.0 && bytes_eq text leaf.1) leaves
  token_in path text long kept [] short = refl
  token_in path text long kept (leaf ∷ leaves) short =
      token_step path text long kept leaf (fitting_texts leaves) (list_any (λ (leaf : Leaf). bytes_eq path leaf.0 && bytes_eq text leaf.1) leaves) short.0
      (token_in path text long kept leaves short.1) (fits (leaf_text leaf.0 leaf.1)) refl

  prefix_step : (w : List ℕ) (leaf : Leaf) (t : Bool) → starts_with nat_eq (leaf_text leaf.0 leaf.1) w ≡ t → (rest : List (List ℕ)) (found : Bool)
      → some_has_prefix f w (map values.Text rest) ≡ found → (b : Bool) → fits (leaf_text leaf.0 leaf.1) ≡ b
      → some_has_prefix f w (map values.Text (if b then leaf_text leaf.0 leaf.1 ∷ rest else rest)) ≡ ((fits (leaf_text leaf.0 leaf.1) && t) || found)
  prefix_step w leaf t begins rest found more true e =
      ap (λ ts. has_prefix w ts || some_has_prefix f w (map values.Text rest)) (raw f (leaf_text leaf.0 leaf.1) h)
      ∙ ap (λ b. b || some_has_prefix f w (map values.Text rest)) (one_begins w (leaf_text leaf.0 leaf.1) ∙ ap (λ b. fits (leaf_text leaf.0 leaf.1) && b) begins)
      ∙ ap (λ b. (fits (leaf_text leaf.0 leaf.1) && t) || b) more
  prefix_step w leaf t begins rest found more false e = more ∙ sym (ap (λ b. (b && t) || found) e)

  prefix_in : (w : List ℕ) (t : Leaf → Bool) → ((leaf : Leaf) → IsShort leaf.0 → starts_with nat_eq (leaf_text leaf.0 leaf.1) w ≡ t leaf)
      → (leaves : List Leaf) → AllByRecursion (λ (leaf : Leaf). IsShort leaf.0) leaves
      → some_has_prefix f (prefix_text f w) (map values.Text (fitting_texts leaves)) ≡ list_any (λ (leaf : Leaf). fits (leaf_text leaf.0 leaf.1) && t leaf) leaves
  prefix_in w t begins leaves short = ap (λ p. some_has_prefix f p (map values.Text (fitting_texts leaves))) (ap (λ (k : Tokenizer). prefix_by k w) h.tokenizer) ∙ go leaves short
    where
      go : (leaves : List Leaf) → AllByRecursion (λ (leaf : Leaf). IsShort leaf.0) leaves
          → some_has_prefix f w (map values.Text (fitting_texts leaves)) ≡ list_any (λ (leaf : Leaf). fits (leaf_text leaf.0 leaf.1) && t leaf) leaves
      go [] short = refl
      go (leaf ∷ leaves) short =
          prefix_step w leaf (t leaf) (begins leaf short.0) (fitting_texts leaves) (list_any (λ (leaf : Leaf). fits (leaf_text leaf.0 leaf.1) && t leaf) leaves)
          (go leaves short.1) (fits (leaf_text leaf.0 leaf.1)) refl

  pub front_in : (path front : List ℕ) → IsShort path → (leaves : List Leaf) → AllByRecursion (λ (leaf : Leaf). IsShort leaf.0) leaves
      → some_has_prefix f (prefix_text f (leaf_text path front)) (map values.Text (fitting_texts leaves)) ≡ has_front leaves path front
  front_in path front long leaves short =
      prefix_in (leaf_text path front) (λ leaf. bytes_eq path leaf.0 && starts_with nat_eq leaf.1 front) (λ leaf s. by_front path front leaf.0 leaf.1 long s) leaves short

  pub path_in : (path : List ℕ) → IsShort path → (leaves : List Leaf) → AllByRecursion (λ (leaf : Leaf). IsShort leaf.0) leaves
      → some_has_prefix f (prefix_text f (leaf_text path [])) (map values.Text (fitting_texts leaves)) ≡ has_path leaves path
  path_in path long leaves short = prefix_in (leaf_text path []) (λ leaf. bytes_eq path leaf.0) (λ leaf s. by_path path leaf.0 leaf.1 long s) leaves short

  -- a whole text is looked for where it is a token
  phrase_raw : (w : List ℕ) (vs : List Value) → phrase_holds f (raw_tokens w) vs ≡ (fits w && some_has_token f w vs)
  phrase_raw w vs = go (nat_le (length w) max_token) (record { text = w; from = 0; to = length w; position = 0 }) refl
    where
      go : (b : Bool) (t : Token) → t.text ≡ w → phrase_holds f (if b then t ∷ [] else []) vs ≡ (b && some_has_token f w vs)
      go true t e = ap (λ x. some_has_token f x vs) e
      go false t e = refl

  each_raw : (w : List ℕ) (vs : List Value) → each_holds f (raw_tokens w) vs ≡ (fits w && some_has_token f w vs)
  each_raw w vs = go (nat_le (length w) max_token) (record { text = w; from = 0; to = length w; position = 0 }) refl
    where
      go : (b : Bool) (t : Token) → t.text ≡ w → each_holds f (if b then t ∷ [] else []) vs ≡ (b && some_has_token f w vs)
      go true t e = and_yes (some_has_token f t.text vs) ∙ ap (λ x. some_has_token f x vs) e
      go false t e = refl

  quoted_is : (w : List ℕ) (vs : List Value) → quoted_holds f w vs ≡ (fits w && some_has_token f w vs)
  quoted_is w vs =
      ap (λ b. if b then phrase_holds f (field_tokens f w) vs else equals_some (spelled f.kind w) vs) (ap is_text h.kind)
      ∙ ap (λ ts. phrase_holds f ts vs) (raw f w h) ∙ phrase_raw w vs

  word_is : (w : List ℕ) (vs : List Value) → word_holds f w vs ≡ (fits w && some_has_token f w vs)
  word_is w vs =
      ap (λ b. if b && not f.positions then each_holds f (field_tokens f w) vs else quoted_holds f w vs) (ap is_text h.kind)
      ∙ ap (λ b. if not b then each_holds f (field_tokens f w) vs else quoted_holds f w vs) h.unplaced
      ∙ ap (λ ts. each_holds f ts vs) (raw f w h) ∙ each_raw w vs

  kept_by : (b x y : Bool) → (b ≡ true → x ≡ y) → (b && x) ≡ (b && y)
  kept_by true x y g = g refl
  kept_by false x y g = refl

  module _ (path : List ℕ) (long : IsShort path) (leaves : List Leaf) (short : AllByRecursion (λ (leaf : Leaf). IsShort leaf.0) leaves) where
    kept_is : (text : List ℕ) → (fits (leaf_text path text) && some_has_token f (leaf_text path text) (map values.Text (fitting_texts leaves))) ≡ has_kept leaves path text
    kept_is text =
        kept_by (fits (leaf_text path text)) (some_has_token f (leaf_text path text) (map values.Text (fitting_texts leaves))) (list_any (λ (leaf : Leaf). bytes_eq path leaf.0 && bytes_eq text leaf.1) leaves)
        (λ kept. token_in path text long kept leaves short)

    pub word_in : (text : List ℕ) → word_holds f (leaf_text path text) (map values.Text (fitting_texts leaves)) ≡ has_kept leaves path text
    word_in text = word_is (leaf_text path text) (map values.Text (fitting_texts leaves)) ∙ kept_is text

    pub quoted_in : (text : List ℕ) → quoted_holds f (leaf_text path text) (map values.Text (fitting_texts leaves)) ≡ has_kept leaves path text
    quoted_in text = quoted_is (leaf_text path text) (map values.Text (fitting_texts leaves)) ∙ kept_is text

    item_in : (quoted : Bool) (text : List ℕ)
        → (if quoted then quoted_holds f (leaf_text path text) (map values.Text (fitting_texts leaves)) else word_holds f (leaf_text path text) (map values.Text (fitting_texts leaves))) ≡ has_kept leaves path text
    item_in true text = quoted_in text
    item_in false text = word_in text

    pub items_in : (text : List ℕ) (ms : List Member)
        → some_item_holds f (map values.Text (fitting_texts leaves)) (map (leaf_item text path) ms) ≡ list_any (λ (m : Member). has_kept leaves path (text_at text m.place)) ms
    items_in text [] = refl
    items_in text (m ∷ ms) =
        ap (λ b. b || some_item_holds f (map values.Text (fitting_texts leaves)) (map (leaf_item text path) ms)) (item_in m.quoted (text_at text m.place))
        ∙ ap (λ b. has_kept leaves path (text_at text m.place) || b) (items_in text ms)

-- ---- a path so long that no leaf text of it is kept

pub none_fits : (path text : List ℕ) → fits path ≡ false → fits (leaf_text path text) ≡ false
none_fits path text e =
    let long : max_leaf_text < length path = grind (arith, e, nat_tests) in
    let one = length-append (decimal (length path) ++ 58 ∷ path) (58 ∷ text) in
    let two = length-append (decimal (length path)) (58 ∷ path) in
    let longer : max_leaf_text < length (leaf_text path text) = omega (arith, long, one, two) in
    grind (arith, longer, nat_tests)

pub none_kept : (leaves : List Leaf) (path text : List ℕ) → fits path ≡ false → has_kept leaves path text ≡ false
none_kept leaves path text e = ap (λ b. b && list_any (λ (leaf : Leaf). bytes_eq path leaf.0 && bytes_eq text leaf.1) leaves) (none_fits path text e)

pub none_of : (leaves : List Leaf) (path text : List ℕ) → fits path ≡ false → (ms : List Member) → list_any (λ (m : Member). has_kept leaves path (text_at text m.place)) ms ≡ false
none_of leaves path text e [] = refl
none_of leaves path text e (m ∷ ms) =
    ap (λ b. b || list_any (λ (m : Member). has_kept leaves path (text_at text m.place)) ms) (none_kept leaves path (text_at text m.place) e) ∙ none_of leaves path text e ms

-- a leaf that is kept has another path
none_here : (path : List ℕ) → fits path ≡ false → (leaf : Leaf) (t : Bool) → (fits (leaf_text leaf.0 leaf.1) && (bytes_eq path leaf.0 && t)) ≡ false
none_here path e leaf t = go (bytes_eq path leaf.0) refl
  where
    go : (b : Bool) → bytes_eq path leaf.0 ≡ b → (fits (leaf_text leaf.0 leaf.1) && (b && t)) ≡ false
    go false h = no_and (fits (leaf_text leaf.0 leaf.1))
    go true h =
        let same : path ≡ leaf.0 = (bytes_eq-Decides path leaf.0).0 h in
        ap (λ b. b && t) (ap (λ p. fits (leaf_text p leaf.1)) (sym same) ∙ none_fits path leaf.1 e)

pub none_begins : (leaves : List Leaf) (path front : List ℕ) → fits path ≡ false → has_front leaves path front ≡ false
none_begins [] path front e = refl
none_begins (leaf ∷ leaves) path front e = ap (λ b. b || has_front leaves path front) (none_here path e leaf (starts_with nat_eq leaf.1 front)) ∙ none_begins leaves path front e

pub none_there : (leaves : List Leaf) (path : List ℕ) → fits path ≡ false → has_path leaves path ≡ false
none_there [] path e = refl
none_there (leaf ∷ leaves) path e =
    ap (λ b. b || has_path leaves path) (sym (ap (λ b. fits (leaf_text leaf.0 leaf.1) && b) (and_yes (bytes_eq path leaf.0))) ∙ none_here path e leaf true) ∙ none_there leaves path e
