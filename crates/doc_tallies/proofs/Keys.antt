-- Numbers by keys that some of them have: those before which fewer than so many stand.
use Rattle.std.proofs.Common.{◌≡◌, ℕ, ◌+◌, ◌<◌, ◌≤◌, inl, inr, nat_lt, nat_le, Bool, true, false, cond, List, [], ◌∷◌, length, Option, Some, None, refl, ap, sym, subst, ◌∙◌, arith}
use Rattle.std.specs.List.{count_by, filter, filter_map, cons_option}
use Rattle.std.proofs.lemmas.Bool.{lt-ltb, le-ltb}
use Rattle.std.proofs.lemmas.Bool.Decides.{nat_tests}
use Rattle.std.proofs.lemmas.List.Sums.{sum_by-cons, count_by-le-length}
use Rattle.doc_tallies.specs.Least.{below, few_before, is_near, keys_before}
use Rattle.doc_tallies.proofs.Leasts.{below_cons, below_counted}

-- one key stands before another; what has none stands last
abbrev pub key_before : Option ℕ → Option ℕ → Bool
key_before None b = false
key_before (Some a) None = true
key_before (Some a) (Some b) = nat_lt a b

-- ---- counted by keys

count_one : (f : ℕ → Option ℕ) (o : Option ℕ) (n : ℕ) (ns : List ℕ) → cond {A = ℕ} (key_before (f n) o) 1 0 + keys_before (filter_map f ns) o ≡ keys_before (cons_option (f n) (filter_map f ns)) o
count_one f o n ns = go (f n) o
  where
    go : (k o : Option ℕ) → cond {A = ℕ} (key_before k o) 1 0 + keys_before (filter_map f ns) o ≡ keys_before (cons_option k (filter_map f ns)) o
    go None None = omega arith
    go None (Some b) = omega arith
    go (Some a) None = omega arith
    go (Some a) (Some b) = sym (below_cons b a (filter_map f ns))

pub count_keys : (f : ℕ → Option ℕ) (o : Option ℕ) (ns : List ℕ) → count_by (λ m. key_before (f m) o) ns ≡ keys_before (filter_map f ns) o
count_keys f None [] = refl
count_keys f (Some k) [] = refl
count_keys f o (n ∷ ns) =
    sum_by-cons (λ m. cond {A = ℕ} (key_before (f m) o) 1 0) n ns
    ∙ (ap (λ (k : ℕ). cond {A = ℕ} (key_before (f n) o) 1 0 + k) (count_keys f o ns) ∙ count_one f o n ns)

-- ---- a bar

fewer_below : (k m : ℕ) (xs : List ℕ) → k ≤ m → below k xs ≤ below m xs
fewer_below k m [] le = omega arith
fewer_below k m (x ∷ xs) le =
    let rest = fewer_below k m xs le in
    let low = below_cons k x xs in
    let high = below_cons m x xs in
    elim (below_counted x k) [
      | inl h ↦ (let c = h.1 in elim (below_counted x m) [ inl g ↦ (let d = g.1 in omega arith) | inr g ↦ absurd (let lt = h.0 in let ge = g.0 in omega arith) ])
      | inr h ↦ (let c = h.1 in omega arith)
    ]

pub exact_bar : (wanted bar : ℕ) (ks : List ℕ) (o : Option ℕ) → (below bar ks < wanted) × (wanted ≤ below (bar + 1) ks) → is_near bar o ≡ few_before wanted ks o
exact_bar wanted bar ks None is =
    let enough = is.1 in
    let all = count_by-le-length (λ m. nat_lt m (bar + 1)) ks in
    sym (le-ltb (length ks) wanted (omega arith))
exact_bar wanted bar ks (Some k) is = go (nat_le k bar) refl
  where
    go : (t : Bool) → nat_le k bar ≡ t → nat_le k bar ≡ nat_lt (below k ks) wanted
    go true e =
        let le : k ≤ bar = grind (arith, nat_tests) in
        let few = is.0 in
        let fewer = fewer_below k bar ks le in
        e ∙ sym (lt-ltb (below k ks) wanted (omega arith))
    go false e =
        let gt : bar + 1 ≤ k = grind (arith, nat_tests) in
        let enough = is.1 in
        let more = fewer_below (bar + 1) k ks gt in
        e ∙ sym (le-ltb (below k ks) wanted (omega arith))

pub all_few : (wanted : ℕ) (ks : List ℕ) (o : Option ℕ) → length ks < wanted → few_before wanted ks o ≡ true
all_few wanted ks None few = lt-ltb (length ks) wanted few
all_few wanted ks (Some k) few = let some = count_by-le-length (λ m. nat_lt m k) ks in lt-ltb (below k ks) wanted (omega arith)

-- ---- filters

pub filter_same : {X : Type 0} (p q : X → Bool) → ((x : X) → p x ≡ q x) → (xs : List X) → filter p xs ≡ filter q xs
filter_same p q same [] = refl
filter_same p q same (x ∷ xs) = rw (same x, filter_same p q same xs) refl

pub filter_all : {X : Type 0} (p : X → Bool) → ((x : X) → p x ≡ true) → (xs : List X) → xs ≡ filter p xs
filter_all p all [] = refl
filter_all p all (x ∷ xs) = rw (all x, ← filter_all p all xs) refl

filter_twice : {X : Type 0} (p q r : X → Bool) → ((x : X) → p x ≡ true → q x ≡ r x) → ((x : X) → p x ≡ false → r x ≡ false) → (xs : List X) → filter q (filter p xs) ≡ filter r xs
filter_twice p q r passed failed [] = refl
filter_twice p q r passed failed (x ∷ xs) = go (p x) refl (filter_twice p q r passed failed xs)
  where
    go : (t : Bool) → p x ≡ t → filter q (filter p xs) ≡ filter r xs → filter q (cond t (x ∷ filter p xs) (filter p xs)) ≡ cond (r x) (x ∷ filter r xs) (filter r xs)
    go true e rest = rw (passed x e, rest) refl
    go false e rest = rw (failed x e) rest

-- ---- those at a first bar

-- the numbers whose keys do not stand behind a bar
abbrev pub up_to : (ℕ → Option ℕ) → ℕ → List ℕ → List ℕ
up_to f bar ns = filter (λ n. is_near bar (f n)) ns

-- what the numbers at a bar, their keys and all keys have to do with each other
record Cut (bar k : ℕ) (near kept keys : List ℕ) : Type 0 where
  long : length kept ≡ length near
  shorter : length kept ≤ length keys
  fewer : below k kept ≤ below k keys
  low : k ≤ bar + 1 → below k kept ≡ below k keys
  high : bar < k → below k kept ≡ length kept

cut_more : (bar k n : ℕ) (o : Option ℕ) (near kept keys : List ℕ) → Cut bar k near kept keys
    → Cut bar k (cond (is_near bar o) (n ∷ near) near) (cond (is_near bar o) (cons_option o kept) kept) (cons_option o keys)
cut_more bar k n None near kept keys rest = rest
cut_more bar k n (Some m) near kept keys rest = go (nat_le m bar) refl
  where
    go : (t : Bool) → nat_le m bar ≡ t → Cut bar k (cond t (n ∷ near) near) (cond t (m ∷ kept) kept) (m ∷ keys)
    go true e =
        let within : m ≤ bar = grind (arith, nat_tests) in
        let first = below_cons k m keys in
        let second = below_cons k m kept in
        let long = rest.long in
        let shorter = rest.shorter in
        let fewer = rest.fewer in
        record {
          long = omega arith;
          shorter = omega arith;
          fewer = omega arith;
          low = λ l. (let same = rest.low l in omega arith);
          high = λ l. (let all = rest.high l in elim (below_counted m k) [ inl h ↦ (let c = h.1 in omega arith) | inr h ↦ absurd (let ge = h.0 in omega arith) ]);
        }
    go false e =
        let behind : bar + 1 ≤ m = grind (arith, nat_tests) in
        let first = below_cons k m keys in
        let shorter = rest.shorter in
        let fewer = rest.fewer in
        record {
          long = rest.long;
          shorter = omega arith;
          fewer = omega arith;
          low = λ l. (let same = rest.low l in elim (below_counted m k) [ inl h ↦ absurd (let lt = h.0 in omega arith) | inr h ↦ (let c = h.1 in omega arith) ]);
          high = rest.high;
        }

kept_keys : (f : ℕ → Option ℕ) (n : ℕ) (near : List ℕ) (t : Bool) → filter_map f (cond t (n ∷ near) near) ≡ cond t (cons_option (f n) (filter_map f near)) (filter_map f near)
kept_keys f n near true = refl
kept_keys f n near false = refl

cut : (f : ℕ → Option ℕ) (bar k : ℕ) (ns : List ℕ) → Cut bar k (up_to f bar ns) (filter_map f (up_to f bar ns)) (filter_map f ns)
cut f bar k [] = record { long = refl; shorter = omega arith; fewer = omega arith; low = λ le. refl; high = λ lt. refl }
cut f bar k (n ∷ ns) =
    subst (λ (ks : List ℕ). Cut bar k (up_to f bar (n ∷ ns)) ks (filter_map f (n ∷ ns))) (sym (kept_keys f n (up_to f bar ns) (is_near bar (f n))))
    (cut_more bar k n (f n) (up_to f bar ns) (filter_map f (up_to f bar ns)) (filter_map f ns) (cut f bar k ns))

-- where so many stand at a first bar, those with few before them are among them, and have as few before them there
pub near_cut : (f : ℕ → Option ℕ) (bar wanted : ℕ) (ns : List ℕ) → wanted ≤ length (up_to f bar ns)
    → filter (λ n. few_before wanted (filter_map f (up_to f bar ns)) (f n)) (up_to f bar ns) ≡ filter (λ n. few_before wanted (filter_map f ns) (f n)) ns
near_cut f bar wanted ns enough =
    filter_twice (λ n. is_near bar (f n)) (λ n. few_before wanted (filter_map f (up_to f bar ns)) (f n)) (λ n. few_before wanted (filter_map f ns) (f n)) (λ n h. passed (f n) h) (λ n h. failed (f n) h) ns
  where
    passed : (o : Option ℕ) → is_near bar o ≡ true → few_before wanted (filter_map f (up_to f bar ns)) o ≡ few_before wanted (filter_map f ns) o
    passed None h = absurd (cc)
    passed (Some k) h =
        let within : k ≤ bar + 1 = grind (arith, nat_tests) in
        ap (λ (b : ℕ). nat_lt b wanted) ((cut f bar k ns).low within)

    failed : (o : Option ℕ) → is_near bar o ≡ false → few_before wanted (filter_map f ns) o ≡ false
    failed None h =
        let both = cut f bar 0 ns in
        let long = both.long in
        let shorter = both.shorter in
        le-ltb (length (filter_map f ns)) wanted (omega arith)
    failed (Some k) h =
        let behind : bar < k = grind (arith, nat_tests) in
        let both = cut f bar k ns in
        let long = both.long in
        let fewer = both.fewer in
        let all = both.high behind in
        le-ltb (below k (filter_map f ns)) wanted (omega arith)
