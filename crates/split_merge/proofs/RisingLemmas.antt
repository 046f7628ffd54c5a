-- Numbers that rise by one, and places of which none is before one.
use Rattle.std.proofs.Common.{◌≡◌, ℕ, zero, suc, ◌+◌, ◌<◌, ◌≤◌, List, [], ◌∷◌, Option, Some, None, refl, sym, subst, ap, ◌∙◌, leb, arith}
use Rattle.std.proofs.lemmas.Bool.{le-leb, leb-true, ne_eqb}
use Rattle.std.specs.Prelude.{◌↔◌, IsTrue, slice_get}
use Rattle.split_merge.specs.HeldNumbers.{rising}
use Rattle.split_merge.specs.Keeping.{RiseFrom}
use Rattle.split_merge.specs.Numbering.{kept_count, no_number, number_in, number_of, table_of}
use Rattle.split_merge.proofs.KeptLemmas.{named_ahead}

-- ---- numbers that rise

abbrev some : ℕ → Option ℕ
some n = Some n

get_rising : (first docs doc : ℕ) → doc < docs → slice_get (rising first docs) doc ≡ Some (first + doc)
get_rising first zero doc lt = absurd (omega (arith, lt))
get_rising first (suc docs) zero lt = let same : first ≡ first + 0 = omega arith in ap some same
get_rising first (suc docs) (suc doc) lt = let same : suc first + doc ≡ first + suc doc = omega arith in get_rising (suc first) docs doc (omega (arith, lt)) ∙ ap some same

get_past : (first docs doc : ℕ) → docs ≤ doc → slice_get (rising first docs) doc ≡ None
get_past first zero doc le = refl
get_past first (suc docs) zero le = absurd (omega (arith, le))
get_past first (suc docs) (suc doc) le = get_past (suc first) docs doc (omega (arith, le))

-- the number of a document
pub number_rising : (first docs doc : ℕ) → first + docs ≤ no_number → doc < docs → Some (first + doc) ≡ number_in (rising first docs) doc
number_rising first docs doc small lt =
    let other : first + doc ≡ no_number → ⊥ = λ same. absurd (omega (arith, same, small, lt)) in
    let one : number_of (Some (first + doc)) ≡ Some (first + doc) = rw (ne_eqb (first + doc) no_number other) refl in
    sym (ap number_of (get_rising first docs doc lt) ∙ one)

-- that there is not
pub number_past : (first docs doc : ℕ) → docs ≤ doc → None ≡ number_in (rising first docs) doc
number_past first docs doc le = sym (ap number_of (get_past first docs doc le))

-- ---- places that rise

pub rise_all : (place : ℕ) (ps : List ℕ) → slice_get ps 0 ≡ None → RiseFrom place ps
rise_all place [] is = tt
rise_all place (p ∷ ps) is = absurd cc

rise_more : (least place first : ℕ) (ps : List ℕ) → slice_get ps 0 ≡ Some first → RiseFrom least ps → place ≤ first → RiseFrom place ps
rise_more least place first [] is rise le = absurd cc
rise_more least place first (p ∷ ps) is rise le = let same : p ≡ first = cc in (omega (arith, same, le), rise.1)

rise_first : (place first : ℕ) (ps : List ℕ) → slice_get ps 0 ≡ Some first → RiseFrom place ps → place ≤ first
rise_first place first [] is rise = absurd cc
rise_first place first (p ∷ ps) is rise = let same : p ≡ first = cc in omega (arith, same, rise.0)

-- they rise from one on where the first is not below it
pub rise_test : (least place first wide : ℕ) (ps : List ℕ) → slice_get ps 0 ≡ Some first → wide ≡ first → RiseFrom least ps → IsTrue (leb place wide) ↔ RiseFrom place ps
rise_test least place first wide ps is same rise = (
  λ t. let le : place ≤ wide = leb-true place wide t in rise_more least place first ps is rise (omega (arith, le, same)),
  λ r. let le : place ≤ first = rise_first place first ps is r in le-leb place wide (omega (arith, le, same)),
)

-- ---- documents of which none is dropped

pub table_rising : (ps : List ℕ) (place next left : ℕ) → RiseFrom (place + left) ps → table_of ps place next left ≡ rising next left
table_rising ps place next zero rise = refl
table_rising ps place next (suc left) rise =
    let same : place + suc left ≡ suc place + left = omega arith in
    rw (named_ahead (place + suc left) place ps rise (omega arith), table_rising ps (suc place) (suc next) left (subst (λ (n : ℕ). RiseFrom n ps) same rise)) refl

pub count_rising : (ps : List ℕ) (place left : ℕ) → RiseFrom (place + left) ps → kept_count ps place left ≡ left
count_rising ps place zero rise = refl
count_rising ps place (suc left) rise =
    let same : place + suc left ≡ suc place + left = omega arith in
    rw (named_ahead (place + suc left) place ps rise (omega arith), count_rising ps (suc place) left (subst (λ (n : ℕ). RiseFrom n ps) same rise)) refl
