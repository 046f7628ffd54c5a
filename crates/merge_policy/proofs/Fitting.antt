-- The longest prefix that one split file can hold.
use Rattle.std.proofs.Common.{◌≡◌, ℕ, zero, suc, ◌+◌, ◌<◌, ◌≤◌, List, [], ◌∷◌, length, take, get_or, refl, sym, ap, subst, ◌∙◌, inl, inr, arith}
use Rattle.std.specs.Prelude.{sum_by}
use Rattle.std.proofs.lemmas.Bool.{cases_lt}
use Rattle.std.proofs.lemmas.List.{length-take-le, length-take}
use Rattle.std.proofs.lemmas.List.Sums.{sum_by_more, sum_by-cons}
use Rattle.split_states.specs.declared.rows.Row.{Row}
use Rattle.merge_policy.specs.declared.candidate.Candidate.{Candidate}
use Rattle.merge_policy.specs.Choice.{FitsSplit, IsMerge}
use Rattle.merge_policy.specs.Walk.{rows_of}

abbrev pub docs_of : List Candidate → ℕ
docs_of list = sum_by (λ c. c.row.now.facts.docs) list

abbrev pub weight_of : List Candidate → ℕ
weight_of list = sum_by (λ c. c.row.now.facts.weight) list

sum_rows : (f : Row → ℕ) (n : ℕ) (list : List Candidate) → sum_by f (take n (rows_of list)) ≡ sum_by (λ c. f c.row.now) (take n list)
sum_rows f zero list = refl
sum_rows f (suc n) [] = refl
sum_rows f (suc n) (c ∷ list) =
    let rest = sum_rows f n list in
    let one = sum_by-cons f c.row.now (take n (rows_of list)) in
    let other = sum_by-cons (λ d. f d.row.now) c (take n list) in
    one ∙ (ap (λ (s : ℕ). f c.row.now + s) rest ∙ sym other)

sum_longer : (f : Candidate → ℕ) (m n : ℕ) (list : List Candidate) → m ≤ n → sum_by f (take m list) ≤ sum_by f (take n list)
sum_longer f zero n list le = omega arith
sum_longer f (suc m) zero list le = absurd (omega arith)
sum_longer f (suc m) (suc n) [] le = omega arith
sum_longer f (suc m) (suc n) (c ∷ list) le =
    let rest = sum_longer f m n list (omega arith) in
    let one = sum_by-cons f c (take m list) in
    let other = sum_by-cons f c (take n list) in
    rw (one, other) (omega arith)

pub fits_so : (list : List Candidate) (n : ℕ) → docs_of (take n list) ≤ 16777216 → weight_of (take n list) ≤ 268435456 → FitsSplit (take n (rows_of list))
fits_so list n docs weight = record {
  docs = rw (sum_rows (λ row. row.facts.docs) n list) docs;
  weight = rw (sum_rows (λ row. row.facts.weight) n list) weight;
}

-- where the limit on documents is passed, or that on weight, no longer prefix fits
pub stops_docs : (list : List Candidate) (i : ℕ) → 16777216 < docs_of (take (i + 1) list) → (n : ℕ) → FitsSplit (take n (rows_of list)) → n ≤ i
stops_docs list i over n fits = elim (cases_lt i n) [
  | inl less ↦
      let e = sum_rows (λ row. row.facts.docs) n list in
      let more = sum_longer (λ c. c.row.now.facts.docs) (i + 1) n list (omega arith) in
      let most = fits.docs in
      absurd (omega arith)
  | inr le ↦ le
]

pub stops_weight : (list : List Candidate) (i : ℕ) → 268435456 < weight_of (take (i + 1) list) → (n : ℕ) → FitsSplit (take n (rows_of list)) → n ≤ i
stops_weight list i over n fits = elim (cases_lt i n) [
  | inl less ↦
      let e = sum_rows (λ row. row.facts.weight) n list in
      let more = sum_longer (λ c. c.row.now.facts.weight) (i + 1) n list (omega arith) in
      let most = fits.weight in
      absurd (omega arith)
  | inr le ↦ le
]

pub docs_more : (list : List Candidate) (i docs : ℕ) (c : Candidate) → i < length list → c ≡ get_or list i c → docs ≡ docs_of (take i list) → docs + c.row.now.facts.docs ≡ docs_of (take (i + 1) list)
docs_more list i docs c lt is e =
    let more = sum_by_more (λ c. c.row.now.facts.docs) list i c lt in
    let same : (get_or list i c).row.now.facts.docs ≡ c.row.now.facts.docs = sym (ap (λ (d : Candidate). d.row.now.facts.docs) is) in
    omega arith

pub weight_more : (list : List Candidate) (i weight : ℕ) (c : Candidate) → i < length list → c ≡ get_or list i c → weight ≡ weight_of (take i list) → weight + c.row.now.facts.weight ≡ weight_of (take (i + 1) list)
weight_more list i weight c lt is e =
    let more = sum_by_more (λ c. c.row.now.facts.weight) list i c lt in
    let same : (get_or list i c).row.now.facts.weight ≡ c.row.now.facts.weight = sym (ap (λ (d : Candidate). d.row.now.facts.weight) is) in
    omega arith

length-rows : (list : List Candidate) → length (rows_of list) ≡ length list
length-rows [] = refl
length-rows (c ∷ list) = ap suc (length-rows list)

prefix-within : (n m : ℕ) (list : List Candidate) → n ≤ m → take n (rows_of (take m list)) ≡ take n (rows_of list)
prefix-within zero m list le = refl
prefix-within (suc n) zero list le = absurd (omega arith)
prefix-within (suc n) (suc m) [] le = refl
prefix-within (suc n) (suc m) (c ∷ list) le = ap (λ (rows : List Row). c.row.now ∷ rows) (prefix-within n m list (omega arith))

-- what is known of the longest prefix that fits among the first of a level
pub record Fitting (level : List Candidate) (most len : ℕ) : Type 0 where
  pub within : len ≤ length (take most level)
  pub fits : FitsSplit (take len (rows_of (take most level)))
  pub longest : (n : ℕ) → n ≤ length (take most level) → FitsSplit (take n (rows_of (take most level))) → n ≤ len

module _ (factor greatest most len : ℕ) (level : List Candidate) (short : most ≤ length level) (bound : most ≤ greatest) (least : (n : ℕ) → n ≤ length level → n ≤ greatest → n ≤ most)
    (f : Fitting level most len) where
  still_longest : (n : ℕ) → n ≤ length (rows_of level) → n ≤ greatest → FitsSplit (take n (rows_of level)) → n ≤ len
  still_longest n le within fits =
      let rows = length-rows level in
      let below = least n (omega arith) within in
      let first = length-take-le most level short in
      f.longest n (omega arith) (rw (prefix-within n most level below) fits)

  pub none_merged : len < 2 → (other : List Row) → IsMerge factor greatest (rows_of level) other → ⊥
  none_merged small other merged =
      let n : ℕ = length other in
      let cut = length-take n (rows_of level) in
      let same = ap length merged.first in
      let le : n ≤ length (rows_of level) = omega arith in
      let fits : FitsSplit (take n (rows_of level)) = subst FitsSplit merged.first merged.fits in
      let longest = still_longest n le merged.bounded fits in
      let several = merged.several in
      absurd (omega arith)

  pub some_merged : factor ≤ length level → 2 ≤ len → IsMerge factor greatest (rows_of level) (take len (rows_of level))
  some_merged enough two =
      let rows = length-rows level in
      let first = length-take-le most level short in
      let within = f.within in
      let long : length (take len (rows_of level)) ≡ len = length-take-le len (rows_of level) (omega arith) in record {
        enough = omega arith;
        first = ap (λ (n : ℕ). take n (rows_of level)) (sym long);
        bounded = omega arith;
        fits = subst FitsSplit (prefix-within len most level (omega arith)) f.fits;
        longest = λ n le below fits. let h = still_longest n le below fits in omega arith;
        several = omega arith;
      }
