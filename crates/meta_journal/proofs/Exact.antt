-- Readers that read exactly what is spelled, and how they are put together.
use Rattle.std.proofs.Common.{◌≡◌, ℕ, zero, suc, ◌+◌, ◌≤◌, Bool, true, false, cond, List, [], ◌∷◌, ◌++◌, length, drop, Option, Some, None, Result, Ok, Err, refl, sym, ap, subst, ◌∙◌, append_assoc, arith}
use Rattle.std.specs.List.{AllByRecursion}
use Rattle.std.proofs.lemmas.List.{length-append, append-nil, drop-drop, drop_at}
use Rattle.byte_fields.specs.declared.field_error.FieldError.{FieldError}
use Rattle.byte_fields.specs.declared.field_error.FieldError.TheVariants.{NotText}
use Rattle.byte_fields.specs.Spelling.{varint, signed, byte_string, flag, SpelledAt}
use Rattle.byte_fields.specs.Reading.{bytes_at, text_at, varint_at, signed_at, flag_at}
use Rattle.byte_fields.proofs.Taken.{IsBytes, varint_takes, varint_again, bytes_takes, bytes_again, SpelledAt-then}
use Rattle.byte_fields.proofs.Taken as taken
use Rattle.byte_fields.proofs.Others.{text_takes, text_again, signed_takes, signed_again, flag_takes, flag_again}
use Rattle.std.specs.Str.{is_utf8}
use Rattle.meta_journal.specs.declared.entry_error.EntryError.{EntryError}
use Rattle.meta_journal.specs.declared.entry_error.EntryError.TheVariants.{Field}
use Rattle.meta_journal.specs.Spelling.{each_spelled, counted, optional, IsNumber, IsTime, IsText, IsString, IsIfGiven, AreAll}
use Rattle.meta_journal.specs.Reading.{◌>>=◌, Reader, field, both, made, where_is, members, number_at, string_at, utf8_at, time_at, bit_at, given, optional_at}

pub bind_ok : {A B : Type 0} (r : Result A EntryError) (f : A → Result B EntryError) (y : B) → (r >>= f) ≡ Ok y → (x : A) × (r ≡ Ok x) × (f x ≡ Ok y)
bind_ok (Ok x) f y e = (x, refl, e)
bind_ok (Err d) f y e = absurd cc

pub ok_is : {A : Type 0} (x y : A) → ◌≡◌ {A = Result A EntryError} (Ok x) (Ok y) → x ≡ y
ok_is x y e = cc

pub field_ok : {A : Type 0} (r : Result A FieldError) (x : A) → field r ≡ Ok x → r ≡ Ok x
field_ok (Ok y) x e = let same : y ≡ x = cc in ap (λ z. Ok z) same
field_ok (Err d) x e = absurd cc

pub guard_ok : {A : Type 0} (b : Bool) (d : EntryError) (r : Result A EntryError) (y : A) → cond b (Err d) r ≡ Ok y → (b ≡ false) × (r ≡ Ok y)
guard_ok true d r y e = absurd cc
guard_ok false d r y e = (refl, e)

pub guard_else_ok : {A : Type 0} (b : Bool) (d : EntryError) (r : Result A EntryError) (y : A) → cond b r (Err d) ≡ Ok y → (b ≡ true) × (r ≡ Ok y)
guard_else_ok true d r y e = (refl, e)
guard_else_ok false d r y e = absurd cc

-- ---- one reader

-- what is read of bytes is spelled there, and can be spelled
abbrev pub Takes : {A : Type 0} → List ℕ → Reader A → (A → List ℕ) → (A → Type 0) → Type 0
Takes {A} bytes read spell Can = IsBytes bytes → (at : ℕ) (x : A × ℕ) → at ≤ length bytes → read at ≡ Ok x → SpelledAt bytes at (spell x.0) x.1 × Can x.0

-- what can be spelled and is spelled there is read
abbrev pub Again : {A : Type 0} → List ℕ → Reader A → (A → List ℕ) → (A → Type 0) → Type 0
Again {A} bytes read spell Can = (at : ℕ) (a : A) (rest : List ℕ) → Can a → drop at bytes ≡ spell a ++ rest → read at ≡ Ok (a, at + length (spell a))

pub record IsExact {A : Type 0} (bytes : List ℕ) (read : Reader A) (spell : A → List ℕ) (Can : A → Type 0) : Type 0 where
  pub takes : Takes bytes read spell Can
  pub again : Again bytes read spell Can

-- what stands behind a field
pub behind : (bytes : List ℕ) (at : ℕ) (text rest : List ℕ) → drop at bytes ≡ text ++ rest → drop (at + length text) bytes ≡ rest
behind bytes at text rest e = sym (drop-drop (length text) at bytes) ∙ ap (drop (length text)) e ∙ drop_at text rest (length text) refl

module _ (bytes : List ℕ) where
  pub number_exact : IsExact bytes (number_at bytes) varint IsNumber
  number_exact = record {
    takes = λ fits at x le e. varint_takes bytes at x.0 x.1 fits (field_ok (varint_at bytes at) x e);
    again = λ at n rest can e. ap field (varint_again bytes at n rest can e);
  }

  pub string_exact : IsExact bytes (string_at bytes) byte_string IsString
  string_exact = record {
    takes = λ fits at x le e. bytes_takes bytes at x fits (field_ok (bytes_at bytes at) x e);
    again = λ at text rest can e. ap field (bytes_again bytes at text rest can e);
  }

  text_bytes : (at : ℕ) (x : List ℕ × ℕ) → text_at bytes at ≡ Ok x → bytes_at bytes at ≡ Ok x
  unfolding text_at
  text_bytes at x e =
      let read = taken.bind_ok (bytes_at bytes at) (λ text. cond (is_utf8 text.0) (Ok text) (Err (NotText at))) x e in
      let g = taken.guard_else_ok (is_utf8 read.0.0) (NotText at) (Ok read.0) x read.2 in
      read.1 ∙ g.1

  pub utf8_exact : IsExact bytes (utf8_at bytes) byte_string IsText
  utf8_exact = record {
    takes = λ fits at x le e.
        let read = field_ok (text_at bytes at) x e in
        let text = text_takes bytes at x fits read in
        let piece = bytes_takes bytes at x fits (text_bytes at x read) in
        (text.0, (piece.1, text.1));
    again = λ at text rest can e. ap field (text_again bytes at text rest can.0 can.1 e);
  }

  pub time_exact : IsExact bytes (time_at bytes) signed IsTime
  time_exact = record {
    takes = λ fits at x le e. signed_takes bytes at x fits (field_ok (signed_at bytes at) x e);
    again = λ at z rest can e. ap field (signed_again bytes at z rest can e);
  }

  pub bit_takes : (at : ℕ) (x : Bool × ℕ) → bit_at bytes at ≡ Ok x → SpelledAt bytes at (flag x.0) x.1
  bit_takes at x e = flag_takes bytes at x (field_ok (flag_at bytes at) x e)

  pub bit_again : (at : ℕ) (b : Bool) (rest : List ℕ) → drop at bytes ≡ flag b ++ rest → bit_at bytes at ≡ Ok (b, at + 1)
  bit_again at b rest e = ap field (flag_again bytes at b rest e)

-- ---- one behind the other

module _ {A B : Type 0} (bytes : List ℕ) (first : Reader A) (second : Reader B) (spell : A → List ℕ) (spell' : B → List ℕ) (Can : A → Type 0) (Can' : B → Type 0) (p : IsExact bytes first spell Can) (q : IsExact bytes second spell' Can') where
  both_takes : Takes bytes (both first second) (λ x. spell x.0 ++ spell' x.1) (λ x. Can x.0 × Can' x.1)
  both_takes fits at x le e =
      let a = bind_ok (first at) (λ a. second a.1 >>= λ b. Ok ((a.0, b.0), b.1)) x e in
      let b = bind_ok (second a.0.1) (λ b. Ok ((a.0.0, b.0), b.1)) x a.2 in
      let one = p.takes fits at a.0 le a.1 in
      let two = q.takes fits a.0.1 b.0 one.0.within b.1 in
      let got : (A × B) × ℕ = ((a.0.0, b.0.0), b.0.1) in
      subst (λ (y : (A × B) × ℕ). SpelledAt bytes at (spell y.0.0 ++ spell' y.0.1) y.1 × (Can y.0.0 × Can' y.0.1)) (ok_is got x b.2)
      (SpelledAt-then bytes at a.0.1 b.0.1 (spell a.0.0) (spell' b.0.0) one.0 two.0, (one.1, two.1))

  both_again : Again bytes (both first second) (λ x. spell x.0 ++ spell' x.1) (λ x. Can x.0 × Can' x.1)
  both_again at x rest can e =
      let regrouped : drop at bytes ≡ spell x.0 ++ (spell' x.1 ++ rest) = e ∙ append_assoc (spell x.0) (spell' x.1) rest in
      let one = p.again at x.0 (spell' x.1 ++ rest) can.0 regrouped in
      let two = q.again (at + length (spell x.0)) x.1 rest can.1 (behind bytes at (spell x.0) (spell' x.1 ++ rest) regrouped) in
      let end : at + length (spell x.0) + length (spell' x.1) ≡ at + length (spell x.0 ++ spell' x.1) = omega (arith, length-append (spell x.0) (spell' x.1)) in
      rw (one, two, end) refl

  pub both_exact : IsExact bytes (both first second) (λ x. spell x.0 ++ spell' x.1) (λ x. Can x.0 × Can' x.1)
  both_exact = record { takes = both_takes; again = both_again }

-- ---- made of what was read

pub made_takes : {A B : Type 0} (bytes : List ℕ) (make : A → B) (read : Reader A) (spell : A → List ℕ) (Can : A → Type 0) (spell' : B → List ℕ) (Can' : B → Type 0)
    → ((a : A) → spell' (make a) ≡ spell a) → ((a : A) → Can a → Can' (make a)) → IsExact bytes read spell Can → Takes bytes (made make read) spell' Can'
made_takes {A} {B} bytes make read spell Can spell' Can' spelled can p fits at x le e =
    let a = bind_ok (read at) (λ a. Ok (make a.0, a.1)) x e in
    let one = p.takes fits at a.0 le a.1 in
    let got : B × ℕ = (make a.0.0, a.0.1) in
    subst (λ (y : B × ℕ). SpelledAt bytes at (spell' y.0) y.1 × Can' y.0) (ok_is got x a.2) (rw (spelled a.0.0) one.0, can a.0.0 one.1)

pub made_again : {A B : Type 0} (bytes : List ℕ) (make : A → B) (read : Reader A) (spell : A → List ℕ) (Can : A → Type 0) → IsExact bytes read spell Can
    → (at : ℕ) (a : A) (rest : List ℕ) → Can a → drop at bytes ≡ spell a ++ rest → made make read at ≡ Ok (make a, at + length (spell a))
made_again bytes make read spell Can p at a rest can e = rw (p.again at a rest can e) refl

pub made_exact : {A B : Type 0} (bytes : List ℕ) (make : A → B) (back : B → A) (read : Reader A) (spell : A → List ℕ) (Can : A → Type 0) (spell' : B → List ℕ) (Can' : B → Type 0)
    → ((b : B) → make (back b) ≡ b) → ((a : A) → spell' (make a) ≡ spell a) → ((a : A) → Can a → Can' (make a)) → ((b : B) → Can' b → Can (back b))
    → IsExact bytes read spell Can → IsExact bytes (made make read) spell' Can'
made_exact {A} {B} bytes make back read spell Can spell' Can' same spelled can can_back p = record {
  takes = made_takes bytes make read spell Can spell' Can' spelled can p;
  again = λ at b rest c e.
      let text : spell (back b) ≡ spell' b = sym (spelled (back b)) ∙ ap spell' (same b) in
      let there : drop at bytes ≡ spell (back b) ++ rest = e ∙ ap (λ (l : List ℕ). l ++ rest) (sym text) in
      made_again bytes make read spell Can p at (back b) rest (can_back b c) there
      ∙ ap (λ (y : B). Ok (y, at + length (spell (back b)))) (same b) ∙ ap (λ (l : List ℕ). Ok (b, at + length l)) text;
}

-- ---- what passes a test

pub where_exact : {A : Type 0} (bytes : List ℕ) (test : A → Bool) (fault : ℕ → FieldError) (read : Reader A) (spell : A → List ℕ) (Can Good : A → Type 0)
    → ((a : A) → test a ≡ true → Good a) → ((a : A) → Good a → test a ≡ true) → IsExact bytes read spell Can → IsExact bytes (where_is test fault read) spell (λ a. Can a × Good a)
where_exact {A} bytes test fault read spell Can Good good passes p = record {
  takes = λ fits at x le e.
      let a = bind_ok (read at) (λ a. cond (test a.0) (Ok a) (Err (Field (fault at)))) x e in
      let g = guard_else_ok (test a.0.0) (Field (fault at)) (Ok a.0) x a.2 in
      let one = p.takes fits at a.0 le a.1 in
      subst (λ (y : A × ℕ). SpelledAt bytes at (spell y.0) y.1 × (Can y.0 × Good y.0)) (ok_is a.0 x g.1) (one.0, (one.1, good a.0.0 g.0));
  again = λ at a rest can e. rw (p.again at a rest can.0 e, passes a can.1) refl;
}

-- ---- what may be there

module _ {A : Type 0} (bytes : List ℕ) (read : Reader A) (spell : A → List ℕ) (Can : A → Type 0) (p : IsExact bytes read spell Can) where
  given_takes : IsBytes bytes → (b : Bool) (at next : ℕ) (x : Option A × ℕ) → SpelledAt bytes at (flag b) next → given bytes read b next ≡ Ok x → SpelledAt bytes at (optional spell x.0) x.1 × IsIfGiven Can x.0
  given_takes fits false at next x bit e =
      let got : Option A × ℕ = (None, next) in
      subst (λ (y : Option A × ℕ). SpelledAt bytes at (optional spell y.0) y.1 × IsIfGiven Can y.0) (ok_is got x e) (bit, tt)
  given_takes fits true at next x bit e =
      let a = bind_ok (read next) (λ a. Ok (Some a.0, a.1)) x e in
      let one = p.takes fits next a.0 bit.within a.1 in
      let got : Option A × ℕ = (Some a.0.0, a.0.1) in
      subst (λ (y : Option A × ℕ). SpelledAt bytes at (optional spell y.0) y.1 × IsIfGiven Can y.0) (ok_is got x a.2)
      (SpelledAt-then bytes at next a.0.1 (flag true) (spell a.0.0) bit one.0, one.1)

  optional_again : Again bytes (optional_at bytes read) (optional spell) (IsIfGiven Can)
  optional_again at None rest can e = rw (bit_again bytes at false rest e) refl
  optional_again at (Some a) rest can e =
      let regrouped : drop at bytes ≡ flag true ++ (spell a ++ rest) = e ∙ append_assoc (flag true) (spell a) rest in
      let bit = bit_again bytes at true (spell a ++ rest) regrouped in
      let one = p.again (at + 1) a rest can (behind bytes at (flag true) (spell a ++ rest) regrouped) in
      let end : at + 1 + length (spell a) ≡ at + length (flag true ++ spell a) = omega (arith, length-append (flag true) (spell a)) in
      rw (bit, one, end) refl

  pub optional_exact : IsExact bytes (optional_at bytes read) (optional spell) (IsIfGiven Can)
  optional_exact = record {
    takes = λ fits at x le e.
        let b = bind_ok (bit_at bytes at) (λ b. given bytes read b.0 b.1) x e in
        given_takes fits b.0.0 at b.0.1 x (bit_takes bytes at b.0 b.1) b.2;
    again = optional_again;
  }

-- ---- members

-- each may stand behind those before it
abbrev pub Chain : {A : Type 0} → (List A → A → Type 0) → List A → List A → Type 0
Chain Above done [] = Unit {0}
Chain Above done (x ∷ xs) = Above done x × Chain Above (done ++ x ∷ []) xs

pub record AreTaken {A : Type 0} (bytes : List ℕ) (spell : A → List ℕ) (Can : A → Type 0) (Above : List A → A → Type 0) (left : ℕ) (done : List A) (at : ℕ) (x : List A × ℕ) : Type 0 where
  pub more : List A
  pub whole : x.0 ≡ done ++ more
  pub spelled : SpelledAt bytes at (each_spelled spell more) x.1
  pub count : length more ≡ left
  pub each : AllByRecursion Can more
  pub chain : Chain Above done more

module _ {A : Type 0} (bytes : List ℕ) (step : List A → Reader A) (spell : A → List ℕ) (Can : A → Type 0) (Above : List A → A → Type 0) (p : (done : List A) → IsExact bytes (step done) spell (λ a. Can a × Above done a)) where
  pub members_takes : IsBytes bytes → (left : ℕ) (done : List A) (at : ℕ) (x : List A × ℕ) → at ≤ length bytes → members step left done at ≡ Ok x → AreTaken bytes spell Can Above left done at x
  unfolding members
  members_takes fits zero done at x le e =
      let got : List A × ℕ = (done, at) in
      subst (λ (y : List A × ℕ). AreTaken bytes spell Can Above zero done at y) (ok_is got x e)
      (record { more = []; whole = sym (append-nil done); spelled = record { parts = refl; next_is = omega arith; within = le }; count = refl; each = tt; chain = tt })
  members_takes fits (suc left) done at x le e =
      let a = bind_ok (step done at) (λ one. members step left (done ++ one.0 ∷ []) one.1) x e in
      let one = (p done).takes fits at a.0 le a.1 in
      let rest = members_takes fits left (done ++ a.0.0 ∷ []) a.0.1 x one.0.within a.2 in
      record {
        more = a.0.0 ∷ rest.more;
        whole = rest.whole ∙ append_assoc done (a.0.0 ∷ []) rest.more;
        spelled = SpelledAt-then bytes at a.0.1 x.1 (spell a.0.0) (each_spelled spell rest.more) one.0 rest.spelled;
        count = ap suc rest.count;
        each = (one.1.0, rest.each);
        chain = (one.1.1, rest.chain);
      }

  pub members_again : (more done : List A) (at : ℕ) (rest : List ℕ) → AllByRecursion Can more → Chain Above done more → drop at bytes ≡ each_spelled spell more ++ rest → members step (length more) done at ≡ Ok (done ++ more, at + length (each_spelled spell more))
  unfolding members
  members_again [] done at rest each chain e =
      let z : at ≡ at + 0 = omega arith in
      ap (λ (l : List A). Ok (l, at)) (sym (append-nil done)) ∙ ap (λ (n : ℕ). Ok (done ++ [], n)) z
  members_again (x ∷ more) done at rest each chain e =
      let regrouped : drop at bytes ≡ spell x ++ (each_spelled spell more ++ rest) = e ∙ append_assoc (spell x) (each_spelled spell more) rest in
      let one = (p done).again at x (each_spelled spell more ++ rest) (each.0, chain.0) regrouped in
      let two = members_again more (done ++ x ∷ []) (at + length (spell x)) rest each.1 chain.1 (behind bytes at (spell x) (each_spelled spell more ++ rest) regrouped) in
      let end : at + length (spell x) + length (each_spelled spell more) ≡ at + length (spell x ++ each_spelled spell more) = omega (arith, length-append (spell x) (each_spelled spell more)) in
      rw (one, two, append_assoc done (x ∷ []) more, end) refl

  -- a count that passes a test, and so many members
  module _ (count_at : Reader ℕ) (Few : ℕ → Type 0) (q : IsExact bytes count_at varint (λ n. IsNumber n × Few n)) where
    counted_takes : Takes bytes (λ at. count_at at >>= λ n. members step n.0 [] n.1) (counted spell) (λ xs. AreAll Can xs × Chain Above [] xs × Few (length xs))
    counted_takes fits at x le e =
        let n = bind_ok (count_at at) (λ n. members step n.0 [] n.1) x e in
        let one = q.takes fits at n.0 le n.1 in
        let rest = members_takes fits n.0.0 [] n.0.1 x one.0.within n.2 in
        let count : length rest.more ≡ n.0.0 = rest.count in
        let few : IsNumber (length rest.more) × Few (length rest.more) = subst (λ (k : ℕ). IsNumber k × Few k) (sym count) one.1 in
        let head : SpelledAt bytes at (varint (length rest.more)) n.0.1 = subst (λ (k : ℕ). SpelledAt bytes at (varint k) n.0.1) (sym count) one.0 in
        let all : SpelledAt bytes at (counted spell rest.more) x.1 = SpelledAt-then bytes at n.0.1 x.1 (varint (length rest.more)) (each_spelled spell rest.more) head rest.spelled in
        subst (λ (xs : List A). SpelledAt bytes at (counted spell xs) x.1 × (AreAll Can xs × Chain Above [] xs × Few (length xs))) (sym rest.whole)
        (all, ((few.0, rest.each), rest.chain, few.1))

    counted_again : Again bytes (λ at. count_at at >>= λ n. members step n.0 [] n.1) (counted spell) (λ xs. AreAll Can xs × Chain Above [] xs × Few (length xs))
    counted_again at xs rest can e =
        let regrouped : drop at bytes ≡ varint (length xs) ++ (each_spelled spell xs ++ rest) = e ∙ append_assoc (varint (length xs)) (each_spelled spell xs) rest in
        let one = q.again at (length xs) (each_spelled spell xs ++ rest) (can.0.0, can.2) regrouped in
        let two = members_again xs [] (at + length (varint (length xs))) rest can.0.1 can.1 (behind bytes at (varint (length xs)) (each_spelled spell xs ++ rest) regrouped) in
        let end : at + length (varint (length xs)) + length (each_spelled spell xs) ≡ at + length (counted spell xs) = omega (arith, length-append (varint (length xs)) (each_spelled spell xs)) in
        rw (one, two, end) refl

    pub counted_exact : IsExact bytes (λ at. count_at at >>= λ n. members step n.0 [] n.1) (counted spell) (λ xs. AreAll Can xs × Chain Above [] xs × Few (length xs))
    counted_exact = record { takes = counted_takes; again = counted_again }
