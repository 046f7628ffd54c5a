-- A walk over terms below a key, over any bytes.
use Rattle.std.proofs.Common.{◌≡◌, ◌≢◌, ℕ, ◌<◌, ◌≤◌, Bool, true, false, cond, List, [], ◌∷◌, ◌++◌, length, Option, Some, None, Result, Ok, Err, refl, sym, ◌∙◌, ap, arith, eq-eqb}
use Rattle.std.specs.Prelude.{◌==◌, IsErrAnd}
use Rattle.std.specs.List.{AllByRecursion}
use Rattle.std.specs.Ordering.{is_eq}
use Rattle.std.proofs.lemmas.Bool.{ne_eqb, le-leb}
use Rattle.byte_fields.specs.declared.corrupt.Corrupt.{Corrupt}
use Rattle.byte_fields.specs.Reading.{varint_part, varint_at, bytes_at}
use Rattle.term_dict.specs.Keys.{order, is_below}
use Rattle.term_dict.specs.declared.term.Term.{Term}
use Rattle.term_dict.specs.declared.term.TermInfo.{TermInfo}
use Rattle.byte_fields.specs.Steps.{◌>>=◌, corrupt}
use Rattle.term_dict.specs.Reading.{term_at, said_at, Stand, Passes, is_term_below, Walks, place_there, info_there}

abbrev pub placed : ℕ → Result ℕ Corrupt
placed at = Ok at

abbrev pub broken : {A : Type 0} → Corrupt → Result A Corrupt
broken c = Err c

-- a fault that is handed on
pub raised : {A : Type 0} (r : Result A Corrupt) (c : Corrupt) → IsErrAnd r (λ d. d ≡ c) → r ≡ broken c
raised (Ok x) c h = absurd h
raised (Err d) c h = ap broken h

-- ---- the terms passed

stand_more : (bytes : List ℕ) (from : ℕ) (ts : List Term) (at next : ℕ) (t : Term) → Stand bytes from ts at → term_at bytes at ≡ Ok (t, next) → Stand bytes from (ts ++ t ∷ []) next
stand_more bytes from [] at next t s e = (next, ap (λ (i : ℕ). term_at bytes i) s ∙ e, refl)
stand_more bytes from (u ∷ us) at next t s e = (s.0, s.1, stand_more bytes s.0 us at next t s.2 e)

below_more : (key : List ℕ) (ts : List Term) (t : Term) → AllByRecursion (λ t. is_below t.key key ≡ true) ts → is_below t.key key ≡ true → AllByRecursion (λ t. is_below t.key key ≡ true) (ts ++ t ∷ [])
below_more key [] t h b = (b, tt)
below_more key (u ∷ us) t h b = (h.0, below_more key us t h.1 b)

pub none_passed : (bytes : List ℕ) (from : ℕ) (key : List ℕ) → Passes bytes from key from
none_passed bytes from key = record { passed = []; stand = refl; below = tt }

pub one_passed : (bytes : List ℕ) (from : ℕ) (key : List ℕ) (at next : ℕ) (t : Term) → Passes bytes from key at → term_at bytes at ≡ Ok (t, next) → is_below t.key key ≡ true → Passes bytes from key next
one_passed bytes from key at next t p e b = record {
  passed = p.passed ++ t ∷ [];
  stand = stand_more bytes from p.passed at next t p.stand e;
  below = below_more key p.passed t p.below b;
}

-- ---- where a walk ends

-- at the end of the bytes there is no term
no_term : (bytes : List ℕ) (at : ℕ) → length bytes ≤ at → term_at bytes at ≡ Err (corrupt (length bytes))
unfolding term_at bytes_at varint_at varint_part
no_term bytes at le = rw (le-leb (length bytes) at le) refl

pub ends_there : (bytes : List ℕ) (at : ℕ) (key : List ℕ) → length bytes ≤ at → is_term_below key (term_at bytes at) ≡ false
ends_there bytes at key le = rw (no_term bytes at le) refl

pub ends_at : (bytes : List ℕ) (at : ℕ) (key : List ℕ) (t : Term) (next : ℕ) → term_at bytes at ≡ Ok (t, next) → is_below t.key key ≡ false → is_term_below key (term_at bytes at) ≡ false
ends_at bytes at key t next e b = rw e b

pub ends_by : (bytes : List ℕ) (at : ℕ) (key : List ℕ) (c : Corrupt) → term_at bytes at ≡ Err c → is_term_below key (term_at bytes at) ≡ false
ends_by bytes at key c e = rw e refl

-- ---- what is said there

pub said_end : {A : Type 0} (bytes : List ℕ) (at : ℕ) (ended : A) (said : Term × ℕ → A) → at ≡ length bytes → said_at bytes at ended said ≡ Ok ended
said_end bytes at ended said e = rw (eq-eqb at (length bytes) e) refl

pub said_term : {A : Type 0} (bytes : List ℕ) (at : ℕ) (ended : A) (said : Term × ℕ → A) (t : Term × ℕ) → at < length bytes → term_at bytes at ≡ Ok t → said_at bytes at ended said ≡ Ok (said t)
said_term bytes at ended said t lt e =
    let ne : at ≢ length bytes = omega arith in
    rw (ne_eqb at (length bytes) ne, e) refl

pub said_fault : {A : Type 0} (bytes : List ℕ) (at : ℕ) (ended : A) (said : Term × ℕ → A) (c : Corrupt) → at < length bytes → term_at bytes at ≡ Err c → said_at bytes at ended said ≡ Err c
said_fault bytes at ended said c lt e =
    let ne : at ≢ length bytes = omega arith in
    rw (ne_eqb at (length bytes) ne, e) refl

-- ---- from the place to what stands there

place_is_of : (b : Bool) (r : Result (Term × ℕ) Corrupt) (at place : ℕ) → cond b (placed at) (r >>= λ t. placed at) ≡ placed place → at ≡ place
place_is_of true r at place e = cc
place_is_of false (Ok t) at place e = cc
place_is_of false (Err c) at place e = absurd cc

fault_of : {A : Type 0} (b : Bool) (r : Result (Term × ℕ) Corrupt) (at : ℕ) (ended : A) (said : Term × ℕ → A) (c : Corrupt) → cond b (placed at) (r >>= λ t. placed at) ≡ broken c
    → cond b (Ok ended) (r >>= λ t. Ok (said t)) ≡ broken c
fault_of true r at ended said c e = absurd cc
fault_of false (Ok t) at ended said c e = absurd cc
fault_of false (Err d) at ended said c e = cc

pub walked_to : (bytes : List ℕ) (from : ℕ) (key : List ℕ) (at : ℕ) (w : Walks bytes from key place_there (Ok at)) → w.at ≡ at
walked_to bytes from key at w = place_is_of (w.at == length bytes) (term_at bytes w.at) w.at at (sym w.answers)

pub info_walk : (bytes : List ℕ) (from : ℕ) (key : List ℕ) (at : ℕ) (result : Result (Option TermInfo) Corrupt) → Walks bytes from key place_there (Ok at) → result ≡ info_there key bytes at
    → Walks bytes from key (info_there key) result
info_walk bytes from key at result w e = record {
  at = w.at;
  passes = w.passes;
  ends = w.ends;
  answers = e ∙ ap (λ (i : ℕ). info_there key bytes i) (sym (walked_to bytes from key at w));
}

pub fault_walk : (bytes : List ℕ) (from : ℕ) (key : List ℕ) (c : Corrupt) (result : Result (Option TermInfo) Corrupt) → Walks bytes from key place_there (Err c) → result ≡ broken c → Walks bytes from key (info_there key) result
fault_walk bytes from key c result w e = record {
  at = w.at;
  passes = w.passes;
  ends = w.ends;
  answers = e ∙ sym (fault_of (w.at == length bytes) (term_at bytes w.at) w.at None (λ t. cond (is_eq (order t.0.key key)) (Some t.0.info) None) c (sym w.answers));
}
