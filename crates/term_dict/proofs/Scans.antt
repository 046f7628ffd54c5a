-- Walking over terms in bytes.
use Rattle.std.proofs.Common.{◌≡◌, ℕ, ◌<◌, ◌≤◌, Bool, true, false, cond, List, [], ◌∷◌, ◌++◌, length, drop, Some, None, refl, sym, ◌∙◌, ap, subst, arith, length-drop}
use Rattle.std.specs.List.{AllByRecursion}
use Rattle.std.specs.Ordering.{is_eq}
use Rattle.term_dict.specs.Keys.{order, is_below}
use Rattle.term_dict.specs.Terms.{AreTerms, Fits, area, term_bytes, lookup, from_key}
use Rattle.term_dict.specs.Readers.{IsReadTerm}
use Rattle.term_dict.specs.declared.term.Term.{Term}
use Rattle.term_dict.specs.declared.block.Entry.{Entry}
use Rattle.term_dict.proofs.Areas.{area_nil}
use Rattle.term_dict.proofs.Runs.{lookup_first, front_at}

-- from a place on stand terms, which begin at a key as these do
pub record IsRun (bytes : List ℕ) (at : ℕ) (key : List ℕ) (terms : List Term) : Type 0 where
  pub rest : List Term
  pub are_terms : AreTerms rest
  pub bytes_are : drop at bytes ≡ area rest
  pub same : from_key key terms ≡ from_key key rest

-- such a run with its first term
pub record HasFront (bytes : List ℕ) (at : ℕ) (key : List ℕ) (terms : List Term) : Type 0 where
  pub first : Term
  pub more : List Term
  pub fits : Fits first
  pub are_terms : AreTerms more
  pub bytes_are : drop at bytes ≡ term_bytes first ++ area more
  pub same : from_key key terms ≡ from_key key (first ∷ more)

front_of : (bytes : List ℕ) (at : ℕ) (key : List ℕ) (terms rest : List Term) → AreTerms rest → drop at bytes ≡ area rest → from_key key terms ≡ from_key key rest → at < length bytes → HasFront bytes at key terms
front_of bytes at key terms [] are e same lt = absurd (omega (arith, length-drop at bytes, ap (λ (l : List ℕ). length l) e))
front_of bytes at key terms (t ∷ ts) are e same lt = record {
  first = t;
  more = ts;
  fits = are.fits.0;
  are_terms = record { fits = are.fits.1; rising = are.rising.1 };
  bytes_are = e;
  same = same;
}

pub has_front : (bytes : List ℕ) (at : ℕ) (key : List ℕ) (terms : List Term) → IsRun bytes at key terms → at < length bytes → HasFront bytes at key terms
has_front bytes at key terms r lt = front_of bytes at key terms r.rest r.are_terms r.bytes_are r.same lt

pub run_start : (bytes : List ℕ) (at : ℕ) (key : List ℕ) (terms : List Term) → AreTerms terms → drop at bytes ≡ area terms → IsRun bytes at key terms
run_start bytes at key terms are e = record { rest = terms; are_terms = are; bytes_are = e; same = refl }

pub run_end : (bytes : List ℕ) (at : ℕ) (key : List ℕ) (terms : List Term) → IsRun bytes at key terms → length bytes ≤ at → drop at bytes ≡ area (from_key key terms)
run_end bytes at key terms r le =
    let none : r.rest ≡ [] = area_nil r.rest (omega (arith, length-drop at bytes, ap (λ (l : List ℕ). length l) r.bytes_are)) in
    r.bytes_are ∙ ap (λ (l : List Term). area l) (none ∙ sym (ap (λ (l : List Term). from_key key l) none) ∙ sym r.same)

-- what reading gives at such a place
abbrev pub Reads : List ℕ → ℕ → Entry → ℕ → Type 0
Reads bytes at entry next = (t : Term) (rest : List ℕ) → Fits t → drop at bytes ≡ term_bytes t ++ rest → IsReadTerm t rest (drop next bytes) entry

pub run_step : (bytes : List ℕ) (at next : ℕ) (key : List ℕ) (terms : List Term) (entry : Entry) → IsRun bytes at key terms → at < length bytes → Reads bytes at entry next
    → is_below entry.key.now key ≡ true → IsRun bytes next key terms
run_step bytes at next key terms entry r lt reads below =
    let f = has_front bytes at key terms r lt in
    let got = reads f.first (area f.more) f.fits f.bytes_are in
    let b : is_below f.first.key key ≡ true = subst (λ (k : List ℕ). is_below k key ≡ true) got.key below in
    record { rest = f.more; are_terms = f.are_terms; bytes_are = got.left_is; same = f.same ∙ (rw b refl) }

pub run_stop : (bytes : List ℕ) (at next : ℕ) (key : List ℕ) (terms : List Term) (entry : Entry) → IsRun bytes at key terms → at < length bytes → Reads bytes at entry next
    → is_below entry.key.now key ≡ false → drop at bytes ≡ area (from_key key terms)
run_stop bytes at next key terms entry r lt reads above =
    let f = has_front bytes at key terms r lt in
    let got = reads f.first (area f.more) f.fits f.bytes_are in
    let b : is_below f.first.key key ≡ false = subst (λ (k : List ℕ). is_below k key ≡ false) got.key above in
    let whole : from_key key (f.first ∷ f.more) ≡ f.first ∷ f.more = rw b refl in
    f.bytes_are ∙ sym (ap (λ (l : List Term). area l) (f.same ∙ whole))

pub run_reads : (bytes : List ℕ) (at : ℕ) (key : List ℕ) (terms : List Term) → IsRun bytes at key terms → at < length bytes
    → ((t : Term) (rest : List ℕ) → Fits t → drop at bytes ≡ term_bytes t ++ rest → ⊥) → ⊥
run_reads bytes at key terms r lt refused =
    let f = has_front bytes at key terms r lt in
    refused f.first (area f.more) f.fits f.bytes_are

-- ---- what stands at a key

fits_cases : (key : List ℕ) (t : Term) (ts : List Term) (b : Bool) → Fits t → AllByRecursion Fits ts → AllByRecursion Fits (from_key key ts) → AllByRecursion Fits (cond b (from_key key ts) (t ∷ ts))
fits_cases key t ts true f fs more = more
fits_cases key t ts false f fs more = (f, fs)

from_key_fits : (key : List ℕ) (ts : List Term) → AllByRecursion Fits ts → AllByRecursion Fits (from_key key ts)
from_key_fits key [] h = tt
from_key_fits key (t ∷ ts) h = fits_cases key t ts (is_below t.key key) h.0 h.1 (from_key_fits key ts h.1)

pub nothing_there : (bytes : List ℕ) (at : ℕ) (key : List ℕ) (terms : List Term) → AreTerms terms → drop at bytes ≡ area (from_key key terms) → length bytes ≤ at → lookup key terms ≡ None
nothing_there bytes at key terms are e le =
    let none : from_key key terms ≡ [] = area_nil (from_key key terms) (omega (arith, length-drop at bytes, ap (λ (l : List ℕ). length l) e)) in
    lookup_first key terms are.rising ∙ ap (λ (l : List Term). front_at key l) none

first_there : (bytes : List ℕ) (at next : ℕ) (key : List ℕ) (run : List Term) (entry : Entry) → AllByRecursion Fits run → drop at bytes ≡ area run → at < length bytes → Reads bytes at entry next
    → front_at key run ≡ cond (is_eq (order entry.key.now key)) (Some entry.info) None
first_there bytes at next key [] entry fits e lt reads = absurd (omega (arith, length-drop at bytes, ap (λ (l : List ℕ). length l) e))
first_there bytes at next key (t ∷ ts) entry fits e lt reads =
    let got = reads t (area ts) fits.0 e in
    rw (got.key, got.info) refl

pub there : (bytes : List ℕ) (at next : ℕ) (key : List ℕ) (terms : List Term) (entry : Entry) → AreTerms terms → drop at bytes ≡ area (from_key key terms) → at < length bytes → Reads bytes at entry next
    → lookup key terms ≡ cond (is_eq (order entry.key.now key)) (Some entry.info) None
there bytes at next key terms entry are e lt reads =
    lookup_first key terms are.rising ∙ first_there bytes at next key (from_key key terms) entry (from_key_fits key terms are.fits) e lt reads

front_of_run : (bytes : List ℕ) (at : ℕ) (run : List Term) → AllByRecursion Fits run → drop at bytes ≡ area run → at < length bytes
    → (t : Term) × (rest : List ℕ) × Fits t × (drop at bytes ≡ term_bytes t ++ rest)
front_of_run bytes at [] fits e lt = absurd (omega (arith, length-drop at bytes, ap (λ (l : List ℕ). length l) e))
front_of_run bytes at (t ∷ ts) fits e lt = (t, area ts, fits.0, e)

pub reads_there : (bytes : List ℕ) (at : ℕ) (key : List ℕ) (terms : List Term) → AreTerms terms → drop at bytes ≡ area (from_key key terms) → at < length bytes
    → ((t : Term) (rest : List ℕ) → Fits t → drop at bytes ≡ term_bytes t ++ rest → ⊥) → ⊥
reads_there bytes at key terms are e lt refused =
    let f = front_of_run bytes at (from_key key terms) (from_key_fits key terms are.fits) e lt in
    refused f.0 f.1 f.2 f.3
