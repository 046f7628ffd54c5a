-- Printed numbers and seconds spell those numbers and seconds.
use Rattle.std.proofs.Common.{◌≡◌, ℕ, zero, suc, ◌+◌, ◌-◌, ◌*◌, ◌/◌, ◌%◌, ◌^◌, ◌<◌, ◌≤◌, Bool, true, false, not, List, [], ◌∷◌, ◌++◌, Option, Some, None, ℤ, pos, negsuc, refl, ap, ◌∙◌, subst, arith, nat_eq, nat_lt, nat_le, ne_eqb, lt-ltb, le-leb, ltb-true, leb-true, if◌then◌else◌, option_and_then, ◌*ℤ◌}
use Rattle.std.specs.Fmt.{decimal, signed_decimal}
use Rattle.std.specs.Char.{is_ascii_digit}
use Rattle.std.proofs.lemmas.Fmt.{decimal_by_steps}
use Rattle.jiff.specs.Types.{DateTime}
use Rattle.clock_time.specs.Datetimes.{unix_seconds, IsTimestampSecond, IsShownAt, civil_text, date_text, time_text}
use Rattle.clock_time.proofs.Reading.{reads_back}
use Rattle.query_ast.specs.Spelled.{number_from, below, unsigned_of, signed_of, negative, positive, minus, are_digits, datetime_of}
use Rattle.query_reader.specs.Kinds.{kind_of}
use Rattle.query_reader.specs.Ranges.{ends_run}
use Rattle.query_reader.specs.Printed.{IsPlainSecond}
use Rattle.query_reader.specs.declared.kind.Kind.TheVariants.{Plain}
use Rattle.query_laws.proofs.Edges.{is_run}

pub digit_kind : (c : ℕ) → 48 ≤ c → c ≤ 57 → kind_of c ≡ Plain
unfolding kind_of
digit_kind c g h = rw (
  ne_eqb c 32 (λ e. omega (arith, e, g)),
  ne_eqb c 9 (λ e. omega (arith, e, g)),
  ne_eqb c 10 (λ e. omega (arith, e, g)),
  ne_eqb c 13 (λ e. omega (arith, e, g)),
  ne_eqb c 34 (λ e. omega (arith, e, g)),
  ne_eqb c 40 (λ e. omega (arith, e, g)),
  ne_eqb c 41 (λ e. omega (arith, e, g)),
  ne_eqb c 42 (λ e. omega (arith, e, g)),
  ne_eqb c 58 (λ e. omega (arith, e, h)),
  ne_eqb c 43 (λ e. omega (arith, e, g)),
  ne_eqb c 45 (λ e. omega (arith, e, g)),
  ne_eqb c 92 (λ e. omega (arith, e, h)),
  ne_eqb c 60 (λ e. omega (arith, e, h)),
  ne_eqb c 62 (λ e. omega (arith, e, h)),
  ne_eqb c 91 (λ e. omega (arith, e, h)),
  ne_eqb c 93 (λ e. omega (arith, e, h)),
  ne_eqb c 123 (λ e. omega (arith, e, h)),
  ne_eqb c 125 (λ e. omega (arith, e, h)),
  ne_eqb c 96 (λ e. omega (arith, e, h)),
  ne_eqb c 94 (λ e. omega (arith, e, h)),
  ne_eqb c 126 (λ e. omega (arith, e, h)),
  ne_eqb c 33 (λ e. omega (arith, e, g)),
) refl

is_digit : (d : ℕ) → d < 10 → is_ascii_digit (48 + d) ≡ true
is_digit d l = rw (le-leb 48 (48 + d) (omega arith), le-leb (48 + d) 57 (omega (arith, l))) refl

step_digit : (b n : ℕ) (bs : List ℕ) → is_ascii_digit b ≡ true → number_from n (b ∷ bs) ≡ number_from (n * 10 + (b - 48)) bs
step_digit b n bs d = ap (λ t. if t then number_from (n * 10 + (b - 48)) bs else None) d

-- one digit more
number_more : (k m d : ℕ) (ds : List ℕ) → d < 10 → number_from k ds ≡ Some m → number_from k (ds ++ (48 + d) ∷ []) ≡ Some (m * 10 + d)
number_more k m d [] l e =
    let i : k ≡ m = ap (some_or 0) e in
    step_digit (48 + d) k [] (is_digit d l) ∙ ap Some (let y : k * 10 + (48 + d - 48) ≡ m * 10 + d = omega (arith, i) in y)
  where
    some_or : ℕ → Option ℕ → ℕ
    some_or x None = x
    some_or x (Some y) = y
number_more k m d (b ∷ bs) l e = go (λ y. number_more (k * 10 + (b - 48)) m d bs l y) (is_ascii_digit b) refl
  where
    go : (number_from (k * 10 + (b - 48)) bs ≡ Some m → number_from (k * 10 + (b - 48)) (bs ++ (48 + d) ∷ []) ≡ Some (m * 10 + d))
        → (t : Bool) → is_ascii_digit b ≡ t → number_from k (b ∷ bs ++ (48 + d) ∷ []) ≡ Some (m * 10 + d)
    go again true h = let y : number_from (k * 10 + (b - 48)) bs ≡ Some m = rw h at e in rw h (again y)
    go again false h = let y : ◌≡◌ {A = Option ℕ} None (Some m) = rw h at e in absurd cc

digits_more : (ds : List ℕ) (d : ℕ) → d < 10 → are_digits ds ≡ true → are_digits (ds ++ (48 + d) ∷ []) ≡ true
digits_more [] d l e = rw (is_digit d l) refl
digits_more (b ∷ bs) d l e = go (λ y. digits_more bs d l y) (is_ascii_digit b) refl
  where
    go : (are_digits bs ≡ true → are_digits (bs ++ (48 + d) ∷ []) ≡ true) → (t : Bool) → is_ascii_digit b ≡ t → are_digits (b ∷ bs ++ (48 + d) ∷ []) ≡ true
    go again true h = let y : are_digits bs ≡ true = rw h at e in rw h (again y)
    go again false h = let y : false ≡ true = rw h at e in absurd cc

digit_runs : (c : ℕ) → 48 ≤ c → c ≤ 57 → not (ends_run (kind_of c)) ≡ true
digit_runs c g h = ap (λ k. not (ends_run k)) (digit_kind c g h)

run_more : (ds : List ℕ) (d : ℕ) → d < 10 → is_run ds ≡ true → is_run (ds ++ (48 + d) ∷ []) ≡ true
run_more [] d l e = rw (digit_runs (48 + d) (omega arith) (omega (arith, l))) refl
run_more (b ∷ bs) d l e = go (λ y. run_more bs d l y) (not (ends_run (kind_of b))) refl
  where
    go : (is_run bs ≡ true → is_run (bs ++ (48 + d) ∷ []) ≡ true) → (t : Bool) → not (ends_run (kind_of b)) ≡ t → is_run (b ∷ bs ++ (48 + d) ∷ []) ≡ true
    go again true h = let y : is_run bs ≡ true = rw h at e in rw h (again y)
    go again false h = let y : false ≡ true = rw h at e in absurd cc

-- what is printed of a number: digits, of which the first is one
pub record AreDigitsOf (n : ℕ) (ds : List ℕ) : Type 0 where
  pub first : ℕ
  pub others : List ℕ
  pub are : ds ≡ first ∷ others
  pub least : 48 ≤ first
  pub greatest : first ≤ 57
  pub number : number_from 0 ds ≡ Some n
  pub digits : are_digits ds ≡ true
  pub run : is_run others ≡ true

pub decimal_digits : (n : ℕ) → n < 2 ^ 64 → AreDigitsOf n (decimal n)
decimal_digits = decimal_by_steps AreDigitsOf
    (λ n l. record {
      first = 48 + n;
      others = [];
      are = refl;
      least = omega arith;
      greatest = omega (arith, l);
      number = number_more 0 0 n [] l refl ∙ ap Some (let y : 0 * 10 + n ≡ n = omega arith in y);
      digits = digits_more [] n l refl;
      run = refl;
    })
    (λ n ds l h. record {
      first = h.first;
      others = h.others ++ (48 + n % 10) ∷ [];
      are = ap (λ xs. xs ++ (48 + n % 10) ∷ []) h.are;
      least = h.least;
      greatest = h.greatest;
      number = number_more 0 (n / 10) (n % 10) ds (omega arith) h.number ∙ ap Some (let y : n / 10 * 10 + n % 10 ≡ n = omega arith in y);
      digits = digits_more ds (n % 10) (omega arith) h.digits;
      run = run_more h.others (n % 10) (omega arith) h.run;
    })

below_limit : (n : ℕ) → n < 2 ^ 64 → below (2 ^ 64) n ≡ Some n
below_limit n l = rw (lt-ltb n (2 ^ 64) l) refl

unsigned_some : (n : ℕ) (ds : List ℕ) → n < 2 ^ 64 → AreDigitsOf n ds → unsigned_of ds ≡ Some n
unsigned_some n [] l h = let y : ◌≡◌ {A = List ℕ} [] (h.first ∷ h.others) = h.are in absurd cc
unsigned_some n (d ∷ ds) l h = ap (option_and_then (below (2 ^ 64))) h.number ∙ below_limit n l

pub unsigned_decimal : (n : ℕ) → n < 2 ^ 64 → unsigned_of (decimal n) ≡ Some n
unsigned_decimal n l = unsigned_some n (decimal n) l (decimal_digits n l)

signed_some : (n : ℕ) (ds : List ℕ) → n < 2 ^ 63 → AreDigitsOf n ds → signed_of ds ≡ Some (pos n)
signed_some n [] l h = let y : ◌≡◌ {A = List ℕ} [] (h.first ∷ h.others) = h.are in absurd cc
signed_some n (d ∷ ds) l h =
    let e : d ≡ h.first = ap (head_or 0) h.are in
    let s : nat_eq d 45 ≡ false = ne_eqb d 45 (λ x. omega (arith, x, e, h.least)) in
    rw s (ap (option_and_then positive) (unsigned_some n (d ∷ ds) (omega (arith, l)) h) ∙ (rw (lt-ltb n (2 ^ 63) l) refl))
  where
    head_or : ℕ → List ℕ → ℕ
    head_or x [] = x
    head_or x (y ∷ ys) = y

-- the numbers of 64 bits
abbrev pub FitsI64 : ℤ → Type 0
FitsI64 (pos n) = n < 2 ^ 63
FitsI64 (negsuc n) = n < 2 ^ 63

pub signed_printed : (n : ℤ) → FitsI64 n → signed_of (signed_decimal n) ≡ Some n
signed_printed (pos n) l = signed_some n (decimal n) l (decimal_digits n (omega (arith, l)))
signed_printed (negsuc n) l =
    ap (option_and_then negative) (unsigned_decimal (suc n) (omega (arith, l))) ∙ (rw (le-leb (suc n) (2 ^ 63) (omega (arith, l))) refl)

-- what is read fits
unsigned_fits : (o : Option ℕ) (n : ℕ) → option_and_then (below (2 ^ 64)) o ≡ Some n → n < 2 ^ 64
unsigned_fits None n e = absurd (let y : ◌≡◌ {A = Option ℕ} None (Some n) = e in cc)
unsigned_fits (Some m) n e = go (nat_lt m (2 ^ 64)) refl
  where
    go : (t : Bool) → nat_lt m (2 ^ 64) ≡ t → n < 2 ^ 64
    go true h = let y : Some m ≡ Some n = rw h at e in let i : m ≡ n = cc in let l : m < 2 ^ 64 = ltb-true m (2 ^ 64) h in omega (arith, i, l)
    go false h = absurd (let y : ◌≡◌ {A = Option ℕ} None (Some n) = rw h at e in cc)

pub unsigned_of_fits : (ds : List ℕ) (n : ℕ) → unsigned_of ds ≡ Some n → n < 2 ^ 64
unsigned_of_fits [] n e = absurd (let y : ◌≡◌ {A = Option ℕ} None (Some n) = e in cc)
unsigned_of_fits (d ∷ ds) n e = unsigned_fits (number_from 0 (d ∷ ds)) n e

positive_fits : (o : Option ℕ) (n : ℤ) → option_and_then positive o ≡ Some n → FitsI64 n
positive_fits None n e = absurd (let y : ◌≡◌ {A = Option ℤ} None (Some n) = e in cc)
positive_fits (Some m) n e = go (nat_lt m (2 ^ 63)) refl
  where
    go : (t : Bool) → nat_lt m (2 ^ 63) ≡ t → FitsI64 n
    go true h = let y : Some (pos m) ≡ Some n = rw h at e in let i : pos m ≡ n = cc in subst FitsI64 i (ltb-true m (2 ^ 63) h)
    go false h = absurd (let y : ◌≡◌ {A = Option ℤ} None (Some n) = rw h at e in cc)

minus_fits : (m : ℕ) → m ≤ 2 ^ 63 → FitsI64 (minus m)
minus_fits zero l = omega arith
minus_fits (suc m) l = omega (arith, l)

negative_fits : (o : Option ℕ) (n : ℤ) → option_and_then negative o ≡ Some n → FitsI64 n
negative_fits None n e = absurd (let y : ◌≡◌ {A = Option ℤ} None (Some n) = e in cc)
negative_fits (Some m) n e = go (nat_le m (2 ^ 63)) refl
  where
    go : (t : Bool) → nat_le m (2 ^ 63) ≡ t → FitsI64 n
    go true h = let y : Some (minus m) ≡ Some n = rw h at e in let i : minus m ≡ n = cc in subst FitsI64 i (minus_fits m (leb-true m (2 ^ 63) h))
    go false h = absurd (let y : ◌≡◌ {A = Option ℤ} None (Some n) = rw h at e in cc)

pub signed_of_fits : (ds : List ℕ) (n : ℤ) → signed_of ds ≡ Some n → FitsI64 n
signed_of_fits [] n e = absurd (let y : ◌≡◌ {A = Option ℤ} None (Some n) = e in cc)
signed_of_fits (d ∷ ds) n e = go (nat_eq d 45) refl
  where
    go : (t : Bool) → nat_eq d 45 ≡ t → FitsI64 n
    go true h = negative_fits (unsigned_of ds) n (rw h at e)
    go false h = positive_fits (unsigned_of (d ∷ ds)) n (rw h at e)

-- seconds
pub plain_reads : (n : ℤ) → IsPlainSecond n → datetime_of (signed_decimal n) ≡ Some n
plain_reads (negsuc n) l = absurd l
plain_reads (pos n) l =
    let h = decimal_digits n (omega (arith, l)) in
    rw h.digits (ap (option_and_then unix_seconds) (signed_some n (decimal n) (omega (arith, l)) h)
    ∙ (rw (le-leb 0 n (omega arith), le-leb n 8_589_934_591 l) refl))

digits_append : (xs ys : List ℕ) → are_digits ys ≡ false → are_digits (xs ++ ys) ≡ false
digits_append [] ys e = e
digits_append (x ∷ xs) ys e = go (digits_append xs ys e) (is_ascii_digit x) refl
  where
    go : are_digits (xs ++ ys) ≡ false → (t : Bool) → is_ascii_digit x ≡ t → are_digits (x ∷ xs ++ ys) ≡ false
    go again true h = rw h again
    go again false h = rw h refl

-- a date is no digits
date_no_digits : (dt : DateTime) → are_digits (civil_text dt) ≡ false
date_no_digits dt = digits_append (date_text dt ++ (84 ∷ time_text dt)) (90 ∷ []) refl

pub dated_reads : (n : ℤ) (dt : DateTime) → IsShownAt n dt → IsTimestampSecond n → datetime_of (civil_text dt) ≡ Some n
dated_reads n dt s t = rw (date_no_digits dt) (reads_back dt (record { nanosecond = n *ℤ pos 1_000_000_000; in_range = t }) n s refl)
