-- Rising places that are compared in step.
use Rattle.std.proofs.Common.{◌≡◌, ℕ, zero, suc, ◌+◌, ◌-◌, ◌<◌, ◌≤◌, ◌≢◌, ◌==◌, Bool, true, false, not, ◌&&◌, ◌||◌, cond, List, [], ◌∷◌, ◌++◌, length, drop, take, filter, get_or, set, refl, ap, sym, ◌∙◌, arith, eq-eqb, append-nil, get_or-set_other}
use Rattle.std.specs.List.{AllByRecursion}
use Rattle.std.proofs.lemmas.Bool.{ne_eqb}
use Rattle.std.proofs.lemmas.List.{drop_more, take_more, take_more_set}
use Rattle.std.proofs.lemmas.List.Elements.{filter-append}
use Rattle.text_tokens.specs.declared.tokens.Token.{Token}
use Rattle.term_postings.specs.Postings.{AreRising}
use Rattle.split_bundle.specs.Keys.{Occurrence, field_key}
use Rattle.split_bundle.specs.Lists.{places_of}
use Rattle.doc_sets.specs.Asked.{is_among, stands_from, stands_from_one, has_run}
use Rattle.doc_sets.specs.Seeking.{begins_with, BeginFrom}

or_false : (a : Bool) → a || false ≡ a
or_false true = refl
or_false false = refl

above_none : (m p : ℕ) (ps : List ℕ) → AllByRecursion (λ q. p < q) ps → m ≤ p → is_among m ps ≡ false
above_none m p [] h le = refl
above_none m p (q ∷ qs) h le = let low = h.0 in ap (λ b. b || is_among m qs) (ne_eqb q m (λ e. absurd (omega (arith, low)))) ∙ above_none m p qs h.1 le

-- a number is among rising ones that do not begin below it, if they begin with it
pub rising_begins : (m : ℕ) (ps : List ℕ) → AreRising ps → BeginFrom m ps → is_among m ps ≡ begins_with m ps
rising_begins m [] rising from = refl
rising_begins m (p ∷ ps) rising from = ap (λ b. (p == m) || b) (above_none m p ps rising.0 from) ∙ or_false (p == m)

pub rising_drop : (i : ℕ) (ps : List ℕ) → AreRising ps → AreRising (drop i ps)
rising_drop zero ps rising = rising
rising_drop (suc i) [] rising = rising
rising_drop (suc i) (p ∷ ps) rising = rising_drop i ps rising.1

all_at : (p j : ℕ) (ps : List ℕ) → AllByRecursion (λ q. p < q) ps → j < length ps → p < get_or ps j 0
all_at p j [] h lt = absurd (omega arith)
all_at p zero (q ∷ qs) h lt = h.0
all_at p (suc j) (q ∷ qs) h lt = all_at p j qs h.1 (omega arith)

pub rising_order : (i j : ℕ) (ps : List ℕ) → AreRising ps → i < j → j < length ps → get_or ps i 0 < get_or ps j 0
rising_order i j [] rising less lt = absurd (omega arith)
rising_order i zero (p ∷ ps) rising less lt = absurd (omega arith)
rising_order zero (suc j) (p ∷ ps) rising less lt = all_at p j ps rising.0 (omega arith)
rising_order (suc i) (suc j) (p ∷ ps) rising less lt = rising_order i j ps rising.1 (omega arith) (omega arith)

filter_above : (test : ℕ → Bool) (p : ℕ) (ps : List ℕ) → AllByRecursion (λ q. p < q) ps → AllByRecursion (λ q. p < q) (filter test ps)
filter_above test p [] h = tt
filter_above test p (q ∷ qs) h = go (test q) (filter_above test p qs h.1)
  where
    go : (b : Bool) → AllByRecursion (λ m. p < m) (filter test qs) → AllByRecursion (λ m. p < m) (cond b (q ∷ filter test qs) (filter test qs))
    go true rest = (h.0, rest)
    go false rest = rest

pub rising_filter : (test : ℕ → Bool) (ps : List ℕ) → AreRising ps → AreRising (filter test ps)
rising_filter test [] rising = rising
rising_filter test (p ∷ ps) rising = go (test p) (rising_filter test ps rising.1)
  where
    go : (b : Bool) → AreRising (filter test ps) → AreRising (cond b (p ∷ filter test ps) (filter test ps))
    go true rest = (filter_above test p ps rising.0, rest)
    go false rest = rest

-- those that pass of one number more
pub filter_more : (test : ℕ → Bool) (xs : List ℕ) (i : ℕ) (b : Bool) → i < length xs → test (get_or xs i 0) ≡ b → filter test (take (i + 1) xs) ≡ filter test (take i xs) ++ cond b (get_or xs i 0 ∷ []) []
filter_more test xs i b lt e =
    ap (λ l. filter test l) (take_more xs i 0 lt)
    ∙ (filter-append test (take i xs) (get_or xs i 0 ∷ []) ∙ ap (λ c. filter test (take i xs) ++ cond c (get_or xs i 0 ∷ []) []) e)

-- one number more was put in front of the others, if it passes
pub front_step : (test : ℕ → Bool) (starts now orig : List ℕ) (kept more i : ℕ) (b : Bool) → kept ≤ i → i < length orig → length starts ≡ length orig → get_or starts i 0 ≡ get_or orig i 0 → test (get_or orig i 0) ≡ b
    → now ≡ cond b (set starts kept (get_or starts i 0)) starts → more ≡ cond b (kept + 1) kept → take kept starts ≡ filter test (take i orig) → take more now ≡ filter test (take (i + 1) orig)
front_step test starts now orig kept more i true le lt len same passes put count h =
    ap (λ n. take n now) count
    ∙ (ap (λ l. take (kept + 1) l) put
    ∙ (take_more_set starts kept (get_or starts i 0) (omega arith)
    ∙ (ap (λ l. l ++ get_or starts i 0 ∷ []) h ∙ (ap (λ x. filter test (take i orig) ++ x ∷ []) same ∙ sym (filter_more test orig i true lt passes)))))
front_step test starts now orig kept more i false le lt len same passes put count h =
    ap (λ n. take n now) count ∙ (ap (λ l. take kept l) put ∙ (h ∙ (sym (append-nil (filter test (take i orig))) ∙ sym (filter_more test orig i false lt passes))))

-- and the others stay
pub others_stay : (starts now orig : List ℕ) (kept i j : ℕ) (b : Bool) → kept ≤ i → i + 1 ≤ j → now ≡ cond b (set starts kept (get_or starts i 0)) starts → get_or starts j 0 ≡ get_or orig j 0 → get_or now j 0 ≡ get_or orig j 0
others_stay starts now orig kept i j true le low put same =
    let other : j ≢ kept = λ e. omega arith in ap (λ l. get_or l j 0) put ∙ (get_or-set_other starts kept j (get_or starts i 0) 0 other ∙ same)
others_stay starts now orig kept i j false le low put same = ap (λ l. get_or l j 0) put ∙ same

-- whether a place stands at a distance behind a number is seen at the first one that is far enough
pub seen_first : (m at next : ℕ) (places : List ℕ) (b : Bool) → AreRising places → is_among m (drop next places) ≡ is_among m (drop at places) → BeginFrom m (drop next places) → b ≡ begins_with m (drop next places)
    → is_among m (drop at places) ≡ is_among m places → is_among m places ≡ b
seen_first m at next places b rising others from is before = sym before ∙ (sym others ∙ (rising_begins m (drop next places) (rising_drop next places rising) from ∙ sym is))

-- ---- the tokens of a phrase

-- the places behind which a token stands at its distance stand for all
behind_token : (n from : ℕ) (t : Token) (ts : List Token) (starts : List ℕ) (os : List Occurrence)
    → stands_from_one n (t ∷ ts) from starts os ≡ stands_from_one n ts from (filter (λ start. is_among (start + (t.position - from)) (places_of (field_key n t.text) os)) starts) os
behind_token n from t ts [] os = refl
behind_token n from t ts (p ∷ ps) os = go (is_among (p + (t.position - from)) (places_of (field_key n t.text) os)) (behind_token n from t ts ps os)
  where
    go : (b : Bool)
        → stands_from_one n (t ∷ ts) from ps os ≡ stands_from_one n ts from (filter (λ start. is_among (start + (t.position - from)) (places_of (field_key n t.text) os)) ps) os
        → (b && stands_from n ts from p os) || stands_from_one n (t ∷ ts) from ps os
        ≡ stands_from_one n ts from (cond b (p ∷ filter (λ start. is_among (start + (t.position - from)) (places_of (field_key n t.text) os)) ps) (filter (λ start. is_among (start + (t.position - from)) (places_of (field_key n t.text) os)) ps)) os
    go true rest = ap (λ b. stands_from n ts from p os || b) rest
    go false rest = rest

pub token_behind : (n from i : ℕ) (x : Token) (ts : List Token) (starts kept places : List ℕ) (os : List Occurrence) → i < length ts → x ≡ get_or ts i x → places ≡ places_of (field_key n x.text) os
    → kept ≡ filter (λ start. is_among (start + (x.position - from)) places) starts → stands_from_one n (drop (i + 1) ts) from kept os ≡ stands_from_one n (drop i ts) from starts os
token_behind n from i x ts starts kept places os lt is there e =
    ap (λ l. stands_from_one n (drop (i + 1) ts) from l os) (e ∙ ap (λ l. filter (λ start. is_among (start + (x.position - from)) l) starts) there)
    ∙ (sym (behind_token n from x (drop (i + 1) ts) starts os)
    ∙ sym (ap (λ l. stands_from_one n l from starts os) (drop_more ts i x lt ∙ ap (λ y. y ∷ drop (i + 1) ts) (sym is))))

or_true : (a : Bool) → a || true ≡ true
or_true true = refl
or_true false = refl

among_wider : (q : ℕ) (ps starts : List ℕ) → AllByRecursion (λ p. is_among p ps ≡ true) starts → AllByRecursion (λ p. is_among p (q ∷ ps) ≡ true) starts
among_wider q ps [] h = tt
among_wider q ps (p ∷ rest) h = (ap (λ b. (q == p) || b) h.0 ∙ or_true (q == p), among_wider q ps rest h.1)

among_all : (ps : List ℕ) → AllByRecursion (λ p. is_among p ps ≡ true) ps
among_all [] = tt
among_all (p ∷ ps) = (ap (λ b. b || is_among p ps) (eq-eqb p p refl), among_wider p ps ps (among_all ps))

-- the first token stands at each of its places
first_token : (n : ℕ) (t : Token) (ts : List Token) (starts : List ℕ) (os : List Occurrence) → AllByRecursion (λ p. is_among p (places_of (field_key n t.text) os) ≡ true) starts
    → stands_from_one n ts t.position starts os ≡ stands_from_one n (t ∷ ts) t.position starts os
first_token n t ts [] os h = refl
first_token n t ts (p ∷ ps) os h =
    let here : p + (t.position - t.position) ≡ p = omega arith in
    let is : is_among (p + (t.position - t.position)) (places_of (field_key n t.text) os) ≡ true = ap (λ m. is_among m (places_of (field_key n t.text) os)) here ∙ h.0 in
    ap (λ b. stands_from n ts t.position p os || b) (first_token n t ts ps os h.1)
    ∙ sym (ap (λ b. (b && stands_from n ts t.position p os) || stands_from_one n (t ∷ ts) t.position ps os) is)

pub run_first : (n : ℕ) (x : Token) (phrase : List Token) (starts : List ℕ) (os : List Occurrence) → 0 < length phrase → x ≡ get_or phrase 0 x → starts ≡ places_of (field_key n x.text) os
    → stands_from_one n (drop 1 phrase) x.position starts os ≡ has_run n phrase os
run_first n x [] starts os lt e there = absurd (omega arith)
run_first n x (t ∷ ts) starts os lt e there =
    ap (λ l. stands_from_one n ts x.position l os) there
    ∙ (ap (λ y. stands_from_one n ts y.position (places_of (field_key n y.text) os) os) e
    ∙ first_token n t ts (places_of (field_key n t.text) os) os (among_all (places_of (field_key n t.text) os)))

-- where no token is left, each place stands for the phrase
pub end_none : (n from : ℕ) (ts : List Token) (starts : List ℕ) (os : List Occurrence) → length starts ≡ 0 → stands_from_one n ts from starts os ≡ false
end_none n from ts [] os e = refl
end_none n from ts (p ∷ ps) os e = absurd (omega arith)

pub end_some : (n from : ℕ) (starts : List ℕ) (os : List Occurrence) → 0 < length starts → stands_from_one n [] from starts os ≡ true
end_some n from [] os lt = absurd (omega arith)
end_some n from (p ∷ ps) os lt = refl

pub end_is : (n from : ℕ) (ts : List Token) (starts : List ℕ) (os : List Occurrence) (len : ℕ) → ts ≡ [] → len ≡ length starts → stands_from_one n ts from starts os ≡ not (len == 0)
end_is n from ts starts os len none e = ap (λ l. stands_from_one n l from starts os) none ∙ (go starts ∙ ap (λ k. not (k == 0)) (sym e))
  where
    go : (l : List ℕ) → stands_from_one n [] from l os ≡ not (length l == 0)
    go [] = refl
    go (p ∷ ps) = sym (ap not (ne_eqb (length (p ∷ ps)) 0 (λ e. absurd (omega arith))))
