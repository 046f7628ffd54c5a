-- A dictionary that is built term by term.
use Rattle.std.proofs.Common.{◌≡◌, ◌≢◌, ℕ, zero, suc, ◌+◌, ◌*◌, ◌/◌, ◌%◌, ◌<◌, ◌≤◌, Bool, true, false, cond, eqb, List, [], ◌∷◌, ◌++◌, length, take, Some, refl, sym, ◌∙◌, ap, subst, arith, inl, inr, length-append}
use Rattle.std.specs.Prelude.{slice_get}
use Rattle.std.specs.List.{AllByRecursion}
use Rattle.std.proofs.lemmas.Bool.{cases_lt, eqb-true, eqb-false}
use Rattle.std.proofs.lemmas.List.{append-nil, take_at, take-append-le, take_more, take_all}
use Rattle.std.proofs.lemmas.Option.{get_or_from_slice_get, slice_get_within}
use Rattle.term_dict.specs.Terms.{Fits, IsRising, IsDict, area, term_bytes}
use Rattle.term_dict.specs.Blocks.{with_block}
use Rattle.term_dict.specs.declared.term.Term.{Term}
use Rattle.term_dict.specs.declared.index.BlockStart.{BlockStart}
use Rattle.term_dict.proofs.Areas.{term_some}
use Rattle.term_dict.proofs.Starts.{area-append}

abbrev pub Indexes : List BlockStart → List Term → ℕ → Type 0
Indexes index terms n = (b : ℕ) (t : Term) → 64 * b < n → slice_get terms (64 * b) ≡ Some t
    → slice_get index b ≡ Some (record { first = t.key; start = length (area (take (64 * b) terms)) })

-- the first terms are in the area, and their blocks in the index
pub record IsBuilt (bytes : List ℕ) (index : List BlockStart) (terms : List Term) (n : ℕ) : Type 0 where
  pub bytes_are : bytes ≡ area (take n terms)
  pub count : length index ≡ (n + 63) / 64
  pub each : Indexes index terms n
  pub fits : AllByRecursion Fits (take n terms)

pub none_built : (terms : List Term) → IsBuilt [] [] terms 0
none_built terms = record { bytes_are = refl; count = refl; each = λ b t lt e. absurd (omega arith); fits = tt }

get_front : {X : Type 0} (index : List X) (y : X) (b : ℕ) → b < length index → slice_get (index ++ y ∷ []) b ≡ slice_get index b
get_front [] y b lt = absurd (omega arith)
get_front (x ∷ xs) y zero lt = refl
get_front (x ∷ xs) y (suc b) lt = get_front xs y b (omega arith)

get_last : {X : Type 0} (index : List X) (y : X) (b : ℕ) → b ≡ length index → slice_get (index ++ y ∷ []) b ≡ Some y
get_last [] y b e = rw e refl
get_last (x ∷ xs) y zero e = absurd (omega arith)
get_last (x ∷ xs) y (suc b) e = get_last xs y b (omega arith)

abbrev block : List ℕ → ℕ → BlockStart
block first start = record { first = first; start = start }

some_is : (t u : Term) → Some t ≡ Some u → t ≡ u
some_is t u e = cc

fits_push : (ts : List Term) (t : Term) → AllByRecursion Fits ts → Fits t → AllByRecursion Fits (ts ++ t ∷ [])
fits_push [] t h f = (f, tt)
fits_push (x ∷ xs) t h f = (h.0, fits_push xs t h.1 f)

one_more : (index : List BlockStart) (terms : List Term) (n start : ℕ) (t : Term) → length index ≡ (n + 63) / 64 → n % 64 ≡ 0 → slice_get terms n ≡ Some t → start ≡ length (area (take n terms))
    → Indexes index terms n → Indexes (index ++ block t.key start ∷ []) terms (n + 1)
one_more index terms n start t count whole at is each b u lt e =
    elim (cases_lt (64 * b) n) [
      | inl before ↦ get_front index (block t.key start) b (omega (arith, count)) ∙ each b u before e
      | inr here ↦
          let place : 64 * b ≡ n = omega arith in
          let last : b ≡ length index = omega (arith, count) in
          let same : t ≡ u = some_is t u (sym at ∙ ap (λ (i : ℕ). slice_get terms i) (sym place) ∙ e) in
          get_last index (block t.key start) b last
          ∙ ap (λ (k : List ℕ). Some (block k start)) (ap (λ (x : Term). x.key) same)
          ∙ ap (λ (s : ℕ). Some (block u.key s)) (is ∙ ap (λ (i : ℕ). length (area (take i terms))) (sym place))
    ]

abbrev IsIndexed : List BlockStart → List Term → ℕ → Type 0
IsIndexed index terms n = (length index ≡ (n + 63) / 64) × Indexes index terms n

more_index : (index : List BlockStart) (terms : List Term) (n start : ℕ) (t : Term) (b : Bool) → eqb (n % 64) 0 ≡ b → length index ≡ (n + 63) / 64 → slice_get terms n ≡ Some t → start ≡ length (area (take n terms))
    → Indexes index terms n → IsIndexed (cond b (index ++ block t.key start ∷ []) index) terms (n + 1)
more_index index terms n start t true e count at is each =
    let whole : n % 64 ≡ 0 = eqb-true (n % 64) 0 e in
    (omega (arith, count, length-append index (block t.key start ∷ [])), one_more index terms n start t count whole at is each)
more_index index terms n start t false e count at is each =
    let broken : n % 64 ≢ 0 = eqb-false (n % 64) 0 e in
    (omega (arith, count), λ b u lt get. each b u (omega arith) get)

-- a term more
pub one_built : (bytes next : List ℕ) (index blocks : List BlockStart) (terms : List Term) (n : ℕ) (t : Term) → IsBuilt bytes index terms n → n < length terms → slice_get terms n ≡ Some t
    → blocks ≡ with_block index n t.key (length bytes) → next ≡ bytes ++ term_bytes t → Fits t → IsBuilt next blocks terms (n + 1)
one_built bytes next index blocks terms n t built lt at blocks_are next_is fits =
    let more : take (n + 1) terms ≡ take n terms ++ t ∷ [] =
    take_more terms n t lt ∙ ap (λ (x : Term). take n terms ++ x ∷ []) (get_or_from_slice_get terms n t t at) in
    let indexed = more_index index terms n (length bytes) t (eqb (n % 64) 0) refl built.count at (ap (λ (l : List ℕ). length l) built.bytes_are) built.each in
    record {
      bytes_are = next_is ∙ ap (λ (l : List ℕ). l ++ term_bytes t) built.bytes_are ∙ ap (λ (l : List ℕ). area (take n terms) ++ l) (sym (append-nil (term_bytes t)))
          ∙ sym (area-append (take n terms) (t ∷ [])) ∙ ap (λ (l : List Term). area l) (sym more);
      count = ap (λ (l : List BlockStart). length l) blocks_are ∙ indexed.0;
      each = λ b u less get. ap (λ (l : List BlockStart). slice_get l b) blocks_are ∙ indexed.1 b u less get;
      fits = rw more (fits_push (take n terms) t built.fits fits);
    }

pub all_built : (bytes : List ℕ) (index : List BlockStart) (terms : List Term) (n : ℕ) → IsBuilt bytes index terms n → length terms ≤ n → n ≤ length terms → IsRising terms → IsDict bytes index terms
all_built bytes index terms n built le ge rising =
    let whole : take n terms ≡ terms = take_all n terms le in
    let same : n ≡ length terms = omega arith in
    record {
      are_terms = record { fits = subst (λ (l : List Term). AllByRecursion Fits l) whole built.fits; rising = rising };
      area_is = built.bytes_are ∙ ap (λ (l : List Term). area l) whole;
      index_is = record {
        count = built.count ∙ ap (λ (i : ℕ). (i + 63) / 64) same;
        each = λ b t get. built.each b t (omega (arith, slice_get_within terms (64 * b) t get)) get;
      };
    }

-- ---- a term behind a dictionary

built_of : (bytes : List ℕ) (index : List BlockStart) (terms : List Term) (t : Term) → IsDict bytes index terms → IsBuilt bytes index (terms ++ t ∷ []) (length terms)
built_of bytes index terms t d =
    let front : take (length terms) (terms ++ t ∷ []) ≡ terms = take_at terms (t ∷ []) (length terms) refl in
    record {
      bytes_are = d.area_is ∙ ap (λ (l : List Term). area l) (sym front);
      count = d.index_is.count;
      each = λ b u lt get.
          d.index_is.each b u (sym (get_front terms t (64 * b) lt) ∙ get)
          ∙ ap (λ (l : List Term). Some (block u.key (length (area l)))) (sym (take-append-le (64 * b) terms (t ∷ []) (omega arith)));
      fits = rw front d.are_terms.fits;
    }

pub one_taken : (bytes next : List ℕ) (index blocks : List BlockStart) (terms : List Term) (t : Term) → IsDict bytes index terms → IsRising (terms ++ t ∷ [])
    → blocks ≡ with_block index (length terms) t.key (length bytes) → next ≡ bytes ++ term_bytes t → Fits t → IsDict next blocks (terms ++ t ∷ [])
one_taken bytes next index blocks terms t d rising blocks_are next_is fits =
    let size = length-append terms (t ∷ []) in
    all_built next blocks (terms ++ t ∷ []) (length terms + 1)
    (one_built bytes next index blocks (terms ++ t ∷ []) (length terms) t (built_of bytes index terms t d) (omega (arith, size)) (get_last terms t (length terms) refl) blocks_are next_is fits)
    (omega (arith, size)) (omega (arith, size)) rising

-- a term takes a byte at least
pub count_within : (terms : List Term) → length terms ≤ length (area terms)
count_within [] = omega arith
count_within (t ∷ ts) = omega (arith, count_within ts, term_some t, length-append (term_bytes t) (area ts))
