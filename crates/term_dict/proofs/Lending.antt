-- What a range lends, term by term.
use Rattle.std.proofs.Common.{◌≡◌, ℕ, ◌<◌, ◌≤◌, Bool, true, false, cond, List, [], ◌∷◌, ◌++◌, length, drop, refl, ◌∙◌, ap, subst, arith, length-drop, one-add}
use Rattle.std.specs.List.{take_while}
use Rattle.term_dict.specs.Keys.{is_below}
use Rattle.term_dict.specs.Terms.{AreTerms, Fits, area, term_bytes, from_key}
use Rattle.term_dict.specs.Readers.{Lends, is_before_end}
use Rattle.term_dict.specs.declared.term.Term.{Term}
use Rattle.term_dict.specs.declared.block.Entry.{Entry}
use Rattle.term_dict.specs.declared.range.TermRange.{TermRange}
use Rattle.term_dict.proofs.Areas.{area_nil}
use Rattle.term_dict.proofs.Scans.{Reads}

terms_cases : (key : List ℕ) (t : Term) (ts : List Term) (b : Bool) → AreTerms (t ∷ ts) → AreTerms (from_key key ts) → AreTerms (cond b (from_key key ts) (t ∷ ts))
terms_cases key t ts true are more = more
terms_cases key t ts false are more = are

pub from_key_terms : (key : List ℕ) (ts : List Term) → AreTerms ts → AreTerms (from_key key ts)
from_key_terms key [] are = are
from_key_terms key (t ∷ ts) are = terms_cases key t ts (is_below t.key key) are (from_key_terms key ts (record { fits = are.fits.1; rising = are.rising.1 }))

-- a range at the end lends nothing more
pub lent_end : (r : TermRange) (lent : List Term) → Lends r lent → length r.area.now ≤ r.at → lent ≡ []
lent_end r lent l le =
    let none : l.rest ≡ [] = area_nil l.rest (omega (arith, length-drop r.at r.area.now, ap (λ (b : List ℕ). length b) l.bytes_are)) in
    l.lent_is ∙ ap (λ (ts : List Term). take_while (λ t. is_before_end r.end t.key) ts) none

-- a range with the first of its terms
pub record HasNext (r : TermRange) (lent : List Term) : Type 0 where
  pub first : Term
  pub more : List Term
  pub fits : Fits first
  pub are_terms : AreTerms more
  pub bytes_are : drop r.at r.area.now ≡ term_bytes first ++ area more
  pub lent_is : lent ≡ take_while (λ t. is_before_end r.end t.key) (first ∷ more)

next_of : (r : TermRange) (lent rest : List Term) → AreTerms rest → drop r.at r.area.now ≡ area rest → lent ≡ take_while (λ t. is_before_end r.end t.key) rest → r.at < length r.area.now → HasNext r lent
next_of r lent [] are e is lt = absurd (omega (arith, length-drop r.at r.area.now, ap (λ (l : List ℕ). length l) e))
next_of r lent (t ∷ ts) are e is lt = record {
  first = t;
  more = ts;
  fits = are.fits.0;
  are_terms = record { fits = are.fits.1; rising = are.rising.1 };
  bytes_are = e;
  lent_is = is;
}

pub has_next : (r : TermRange) (lent : List Term) → Lends r lent → r.at < length r.area.now → HasNext r lent
has_next r lent l lt = next_of r lent l.rest l.are_terms l.bytes_are l.lent_is lt

pub lent_stop : (r : TermRange) (lent : List Term) (next : ℕ) (entry : Entry) (h : HasNext r lent) → Reads r.area.now r.at entry next → is_before_end r.end entry.key.now ≡ false → lent ≡ []
lent_stop r lent next entry h reads outside =
    let got = reads h.first (area h.more) h.fits h.bytes_are in
    let end : is_before_end r.end h.first.key ≡ false = subst (λ (k : List ℕ). is_before_end r.end k ≡ false) got.key outside in
    h.lent_is ∙ (rw end refl)

pub lent_step : (r : TermRange) (lent : List Term) (next : ℕ) (entry : Entry) (h : HasNext r lent) → Reads r.area.now r.at entry next → is_before_end r.end entry.key.now ≡ true
    → lent ≡ h.first ∷ take_while (λ t. is_before_end r.end t.key) h.more
lent_step r lent next entry h reads inside =
    let got = reads h.first (area h.more) h.fits h.bytes_are in
    let before : is_before_end r.end h.first.key ≡ true = subst (λ (k : List ℕ). is_before_end r.end k ≡ true) got.key inside in
    h.lent_is ∙ (rw (before, one-add) refl)
