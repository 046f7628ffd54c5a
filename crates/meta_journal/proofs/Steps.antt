-- Reading members one after another.
use Rattle.std.proofs.Common.{◌≡◌, ℕ, suc, ◌+◌, ◌-◌, ◌<◌, List, [], ◌∷◌, ◌++◌, Result, Ok, Err, refl, sym, ◌∙◌, arith}
use Rattle.meta_journal.specs.declared.entry_error.EntryError.{EntryError}
use Rattle.meta_journal.specs.declared.entry_error.EntryError.TheVariants.{Memory, BadMagic, BadVersion, BadKind, Field, Trailing}
use Rattle.meta_journal.specs.Reading.{Reader, Reads, members}

-- a fault of a part is the fault of the whole
pub fault_of : {A B : Type 0} (e : EntryError) (part : Result A EntryError) (whole : Result B EntryError) → ((f : EntryError) → part ≡ Err f → whole ≡ Err f) → Reads (Err e) part → Reads (Err e) whole
fault_of (Memory a) part whole same read = tt
fault_of BadMagic part whole same read = same BadMagic read
fault_of (BadVersion n) part whole same read = same (BadVersion n) read
fault_of (BadKind n) part whole same read = same (BadKind n) read
fault_of (Field f) part whole same read = same (Field f) read
fault_of (Trailing at) part whole same read = same (Trailing at) read

module _ {A : Type 0} (step : List A → Reader A) (count taken : ℕ) (done : List A) (at : ℕ) (whole : Result (List A × ℕ) EntryError) (so_far : members step (count - taken) done at ≡ whole) where
  -- nothing is left
  pub members_end : taken ≡ count → whole ≡ Ok (done, at)
  unfolding members
  members_end e = let none : count - taken ≡ 0 = omega arith in sym so_far ∙ rw none refl

  -- one more was read
  pub members_more : (x : A) (next : ℕ) → taken < count → step done at ≡ Ok (x, next) → members step (count - (taken + 1)) (done ++ x ∷ []) next ≡ whole
  unfolding members
  members_more x next lt e =
      let left : count - taken ≡ suc (count - (taken + 1)) = omega arith in
      let here : members step (count - taken) done at ≡ members step (count - (taken + 1)) (done ++ x ∷ []) next = rw (left, e) refl in
      sym here ∙ so_far

  -- the next one has a fault
  pub members_fault : (e : EntryError) → taken < count → Reads (Err e) (step done at) → Reads (Err e) whole
  unfolding members
  members_fault e lt read =
      let left : count - taken ≡ suc (count - (taken + 1)) = omega arith in
      fault_of e (step done at) whole (λ f is. sym so_far ∙ rw (left, is) refl) read
