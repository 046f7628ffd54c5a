-- Words of a line are read one after another.
use Rattle.std.proofs.Common.{◌≡◌, ◌≢◌, ℕ, ◌<◌, ◌≤◌, Bool, true, false, List, [], ◌∷◌, ◌++◌, length, get_or, refl, sym, ap, ◌∙◌, subst, append_assoc, arith, length-append}
use Rattle.std.proofs.lemmas.Bool.{ne_eqb, eqb-true}
use Rattle.std.proofs.Math.ListN.{get_or-append}
use Rattle.std.proofs.Math.Seq.{get_or-append_seam}
use Rattle.std.proofs.lemmas.List.Elements.{recursion_from_All, All-push, All-nil}
use Rattle.std.proofs.lemmas.List.{get_or_default}
use Rattle.std.proofs.lemmas.List.Folds.{Any-from_list_any, list_any_at}
use Rattle.std.proofs.lemmas.List.Quantifiers.{all_pairs_push}
use Rattle.std.proofs.lemmas.Slice.Eq.{bytes_eq-Decides}
use Rattle.std.specs.List.{AllByRecursion, list_any}
use Rattle.std.specs.Prelude.{Option, Some, None, IfSome, IfNone, decimal, All, AllPairs, bytes_eq, if◌then◌else◌, ◌==◌}
use Rattle.byte_fields.specs.ClientName.{IsClientName}
use Rattle.source_checkpoint.specs.Names.{IsPartition}
use Rattle.indexing_run.specs.Outcomes.{words}
use Rattle.node_run.specs.Lines.{AreNames}
use Rattle.node_run.proofs.Begins.{IsAssign, IsOfClient, opens, steps}
use Rattle.node_run.proofs.Spelling.{decimal-blankless, client-blankless, Blankless, words_in, onto_word, words_in-one, words_in-next, words_in-words, each-blankless}

false_is_true : false ≡ true → ⊥
false_is_true e = cc

blankless_rec : (word : List ℕ) → AllByRecursion (λ byte. byte ≢ 32) word → Blankless word
blankless_rec [] all = tt
blankless_rec (c ∷ word) all = (ne_eqb c 32 all.0, blankless_rec word all.1)

pub blankless : (word : List ℕ) → All (λ byte. byte ≢ 32) word → Blankless word
blankless word all = blankless_rec word (recursion_from_All (λ byte. byte ≢ 32) word all)

pub one_word : (rest word : List ℕ) → All (λ byte. byte ≢ 32) word → rest ≡ word → words_in rest ≡ word ∷ []
one_word rest word all e = ap words_in e ∙ words_in-one word (blankless word all)

pub next_word : (rest word more : List ℕ) → All (λ byte. byte ≢ 32) word → rest ≡ word ++ 32 ∷ more → words_in rest ≡ word ∷ words_in more
next_word rest word more all e = ap words_in e ∙ words_in-next word more (blankless word all)

-- what is known of a text by its first word and what stands behind it
pub rest_at_none : {B : Type 0} (rest word : List ℕ) (o : Option B) → o ≡ None → IfNone o (rest ≡ word) → rest ≡ word
rest_at_none {B} rest word o is none = (subst (λ (x : Option B). IfNone x (rest ≡ word)) is none)

pub rest_at_some : {B : Type 0} (now : B → List ℕ) (rest word : List ℕ) (o : Option B) (b : B) → o ≡ Some b → IfSome o (λ x. rest ≡ word ++ 32 ∷ now x) →
    rest ≡ word ++ 32 ∷ now b
rest_at_some {B} now rest word o b is some = subst (λ (x : Option B). IfSome x (λ y. rest ≡ word ++ 32 ∷ now y)) is some

pub first_in : {B : Type 0} (now : B → List ℕ) (rest word : List ℕ) (o : Option B) → All (λ byte. byte ≢ 32) word →
    IfSome o (λ x. rest ≡ word ++ 32 ∷ now x) → IfNone o (rest ≡ word) → (later : List (List ℕ)) × (words_in rest ≡ word ∷ later)
first_in now rest word None all some none = ([], one_word rest word all none)
first_in now rest word (Some b) all some none = (words_in (now b), next_word rest word (now b) all some)

-- ---- the words of a text make it up

onto_words : (c : ℕ) (ws : List (List ℕ)) → 0 < length ws → words (onto_word c ws) ≡ c ∷ words ws
onto_words c [] h = absurd (omega (arith, h))
onto_words c (word ∷ []) h = refl
onto_words c (word ∷ next ∷ more) h = refl

some_words_by : (c : ℕ) (b : Bool) (ws : List (List ℕ)) → 0 < length ws → 0 < length (if b then [] ∷ ws else onto_word c ws)
some_words_by c true ws h = omega arith
some_words_by c false [] h = omega arith
some_words_by c false (word ∷ ws) h = omega arith

some_words : (text : List ℕ) → 0 < length (words_in text)
some_words [] = omega arith
some_words (c ∷ text) = some_words_by c (c == 32) (words_in text) (some_words text)

blank_words : (ws : List (List ℕ)) → 0 < length ws → words ([] ∷ ws) ≡ 32 ∷ words ws
blank_words [] h = absurd (omega (arith, h))
blank_words (word ∷ more) h = refl

made_up : (c : ℕ) (b : Bool) (ws : List (List ℕ)) → (b ≡ true → c ≡ 32) → 0 < length ws → words (if b then [] ∷ ws else onto_word c ws) ≡ c ∷ words ws
made_up c true ws h n = blank_words ws n ∙ ap (λ x. x ∷ words ws) (sym (h refl))
made_up c false ws h n = onto_words c ws n

pub words-words_in : (text : List ℕ) → words (words_in text) ≡ text
words-words_in [] = refl
words-words_in (c ∷ text) =
    made_up c (c == 32) (words_in text) (eqb-true c 32) (some_words text) ∙ ap (λ (t : List ℕ). c ∷ t) (words-words_in text)

-- ---- names that were read

pub found_again : (b r : Bool) (xs names : List (List ℕ)) (given word : List ℕ) → r ≡ list_any (λ other. bytes_eq other given) xs → xs ≡ names →
    given ≡ word → r ≡ b → list_any (λ other. bytes_eq other word) names ≡ b
found_again b r xs names given word e same is r_is =
    sym (ap (λ ns. list_any (λ other. bytes_eq other word) ns) same) ∙ sym (ap (λ w. list_any (λ other. bytes_eq other w) xs) is) ∙ sym e ∙ r_is

abbrev Differ : List ℕ → List ℕ → Type 0
Differ a b = a ≡ b → ⊥

-- these names are the first words of the text, and the rest is still to be read
pub record ReadNames (text : List ℕ) (names : List (List ℕ)) (rest : List ℕ) : Type 0 where
  pub split : words_in text ≡ names ++ words_in rest
  pub most : length names ≤ 64
  pub each : All IsPartition names
  pub apart : AllPairs (λ a b. a ≡ b → ⊥) names

pub none_read : (text : List ℕ) → ReadNames text [] text
none_read text = record { split = refl; most = omega arith; each = All-nil IsPartition; apart = λ i j d p q. absurd (omega (arith, q)) }

pub all_read : (text : List ℕ) (names : List (List ℕ)) → AreNames names → text ≡ words names → words_in text ≡ names
all_read text [] are e = absurd (omega (arith, are.some))
all_read text (name ∷ names) are e =
    let each = each-blankless (name ∷ names) (recursion_from_All IsPartition (name ∷ names) are.each) in
    ap words_in e ∙ words_in-words name names each.0 each.1

among : (P : List ℕ → Type 0) (xs : List (List ℕ)) (x : List ℕ) (ys : List (List ℕ)) → AllByRecursion P (xs ++ x ∷ ys) → P x
among P [] x ys all = all.0
among P (y ∷ xs) x ys all = among P xs x ys all.1

module _ (text : List ℕ) (names : List (List ℕ)) (rest word : List ℕ) (later : List (List ℕ)) (r : ReadNames text names rest) (e : words_in rest ≡ word ∷ later) where
  behind : (all : List (List ℕ)) → AreNames all → text ≡ words all → all ≡ names ++ word ∷ later
  behind all are is = sym (all_read text all are is) ∙ r.split ∙ ap (λ ws. names ++ ws) e

  -- a word that is no name
  pub not_named : ¬ (IsPartition word) → (all : List (List ℕ)) → AreNames all → text ≡ words all → ⊥
  not_named bad all are is =
      bad (among IsPartition names word later (recursion_from_All IsPartition (names ++ word ∷ later) (subst (All IsPartition) (behind all are is) are.each)))

  -- a name that stands already
  pub twice : list_any (λ other. bytes_eq other word) names ≡ true → (all : List (List ℕ)) → AreNames all → text ≡ words all → ⊥
  twice found all are is =
      let at = Any-from_list_any (λ other. bytes_eq other word) names found in
      let apart = subst (AllPairs Differ) (behind all are is) are.apart in
      apart at.0 (length names) word at.2 (omega (arith, length-append names (word ∷ later)))
      (get_or-append names (word ∷ later) word at.0 at.2 ∙ get_or_default names at.0 word at.1 at.2 ∙ at.3 ∙ (bytes_eq-Decides at.1 word).0 at.4 ∙ sym (get_or-append_seam names word later word))

  -- one more name
  pub one_more : length names < 64 → IsPartition word → list_any (λ other. bytes_eq other word) names ≡ false → (behind' : List ℕ) → later ≡ words_in behind' →
      ReadNames text (names ++ word ∷ []) behind'
  one_more most is found behind' same =
      record {
        split = r.split ∙ ap (λ ws. names ++ ws) (e ∙ ap (λ ws. word ∷ ws) same) ∙ sym (append_assoc names (word ∷ []) (words_in behind'));
        most = omega (arith, length-append names (word ∷ []));
        each = All-push IsPartition names word r.each is;
        apart = all_pairs_push Differ names word r.apart
            (λ k d below same'. false_is_true (sym found ∙ list_any_at (λ other. bytes_eq other word) names k d below ((bytes_eq-Decides (get_or names k d) word).1 same')));
      }

  -- the last name
  pub last_name : later ≡ [] → IsPartition word → length names < 64 → list_any (λ other. bytes_eq other word) names ≡ false →
      (text ≡ words (names ++ word ∷ [])) × AreNames (names ++ word ∷ [])
  last_name none is most found = (
    sym (words-words_in text) ∙ ap words (r.split ∙ ap (λ ws. names ++ ws) (e ∙ ap (λ ws. word ∷ ws) none)),
    record {
      some = omega (arith, length-append names (word ∷ []));
      most = omega (arith, length-append names (word ∷ []));
      each = All-push IsPartition names word r.each is;
      apart = all_pairs_push Differ names word r.apart
          (λ k d below same'. false_is_true (sym found ∙ list_any_at (λ other. bytes_eq other word) names k d below ((bytes_eq-Decides (get_or names k d) word).1 same')));
    },
  )

-- more names than a line may have
pub too_many : (text : List ℕ) (names : List (List ℕ)) (rest : List ℕ) → ReadNames text names rest → 64 ≤ length names →
    (all : List (List ℕ)) → AreNames all → text ≡ words all → ⊥
too_many text names rest r full all are is =
    let same = ap length (sym (all_read text all are is) ∙ r.split) in
    omega (arith, same, full, are.most, length-append names (words_in rest), some_words rest)

-- ---- a number and names

cons_same : (x y : List ℕ) (xs ys : List (List ℕ)) → x ∷ xs ≡ y ∷ ys → (x ≡ y) × (xs ≡ ys)
cons_same x y xs ys e = (cc, cc)

module _ (rest number : List ℕ) (blankless' : All (λ byte. byte ≢ 32) number) (is : IsAssign rest) where
  assign_words : words_in rest ≡ decimal is.indexer ∷ is.names
  assign_words =
      ap words_in is.text
      ∙ words_in-words (decimal is.indexer) is.names (decimal-blankless is.indexer is.below) (each-blankless is.names (recursion_from_All IsPartition is.names is.are.each))

  -- there is a word behind the number
  pub has_names : rest ≡ number → ⊥
  has_names e =
      let same = ap length (sym assign_words ∙ one_word rest number blankless' e) in
      omega (arith, same, is.are.some)

  pub number_is : (text : List ℕ) → rest ≡ number ++ 32 ∷ text → number ≡ decimal is.indexer
  number_is text e = (cons_same number (decimal is.indexer) (words_in text) is.names (sym (next_word rest number text blankless' e) ∙ assign_words)).0

  pub names_are : (text : List ℕ) → rest ≡ number ++ 32 ∷ text → text ≡ words is.names
  names_are text e =
      sym (words-words_in text)
      ∙ ap words (cons_same number (decimal is.indexer) (words_in text) is.names (sym (next_word rest number text blankless' e) ∙ assign_words)).1

-- ---- a client's name

pub client_is : (rest name : List ℕ) (later : List (List ℕ)) → words_in rest ≡ name ∷ later → IsOfClient rest → IsClientName name
client_is rest name later e (opens other text is named) =
    subst IsClientName
    (sym (cons_same name other later (words_in text) (sym e ∙ ap words_in is ∙ words_in-next other text (client-blankless other named))).0) named
client_is rest name later e (steps other is named) =
    subst IsClientName
    (sym (cons_same name other later [] (sym e ∙ ap words_in is ∙ words_in-one other (client-blankless other named))).0) named
