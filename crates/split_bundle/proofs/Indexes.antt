-- Indexes of blocks that are read.
use Rattle.std.proofs.Common.{◌≡◌, ℕ, suc, ◌+◌, ◌-◌, ◌<◌, List, [], ◌∷◌, ◌++◌, Result, Ok, Err, refl, sym, ap, ◌∙◌, arith, append_assoc}
use Rattle.std.proofs.lemmas.List.{append-nil}
use Rattle.byte_fields.specs.declared.corrupt.Corrupt.{Corrupt}
use Rattle.byte_fields.specs.Steps.{◌>>=◌}
use Rattle.term_dict.specs.declared.index.BlockStart.{BlockStart}
use Rattle.split_bundle.specs.declared.split_error.SplitError.TheVariants.{BadSection}
use Rattle.split_bundle.specs.Reading.{block_start_at, block_starts_at, of_section}

-- blocks that were read before others
abbrev pub prepended : List BlockStart → Result (List BlockStart) Corrupt → Result (List BlockStart) Corrupt
prepended done (Ok more) = Ok (done ++ more)
prepended done (Err c) = Err c

abbrev blocks : List BlockStart → Result (List BlockStart) Corrupt
blocks xs = Ok xs

prepended_one : (done : List BlockStart) (b : BlockStart) (r : Result (List BlockStart) Corrupt) → prepended done (r >>= λ more. Ok (b ∷ more)) ≡ prepended (done ++ b ∷ []) r
prepended_one done b (Ok more) = ap (λ (l : List BlockStart). blocks l) (sym (append_assoc done (b ∷ []) more))
prepended_one done b (Err c) = refl

pub prepended_none : (r : Result (List BlockStart) Corrupt) → prepended [] r ≡ r
prepended_none (Ok more) = refl
prepended_none (Err c) = refl

module _ (bytes : List ℕ) (count taken at : ℕ) (done : List BlockStart) (whole : Result (List BlockStart) Corrupt) (so_far : prepended done (block_starts_at (count - taken) bytes at) ≡ whole) where
  -- nothing is left
  pub blocks_end : taken ≡ count → whole ≡ Ok done
  unfolding block_starts_at
  blocks_end e =
      let none : count - taken ≡ 0 = omega arith in
      let here : prepended done (block_starts_at (count - taken) bytes at) ≡ blocks done = rw none (ap (λ (l : List BlockStart). blocks l) (append-nil done)) in
      sym so_far ∙ here

  -- one more was read
  pub blocks_more : (b : BlockStart) (next : ℕ) → taken < count → block_start_at bytes at ≡ Ok (b, next) → prepended (done ++ b ∷ []) (block_starts_at (count - (taken + 1)) bytes next) ≡ whole
  unfolding block_starts_at
  blocks_more b next lt e =
      let left : count - taken ≡ suc (count - (taken + 1)) = omega arith in
      let here : prepended done (block_starts_at (count - taken) bytes at) ≡ prepended done (block_starts_at (count - (taken + 1)) bytes next >>= λ more. Ok (b ∷ more)) = rw (left, e) refl in
      sym (prepended_one done b (block_starts_at (count - (taken + 1)) bytes next)) ∙ sym here ∙ so_far

  -- the next one has a fault
  pub blocks_fault : (c : Corrupt) (number : ℕ) → taken < count → block_start_at bytes at ≡ Err c → of_section number whole ≡ Err (BadSection number)
  unfolding block_starts_at
  blocks_fault c number lt e =
      let left : count - taken ≡ suc (count - (taken + 1)) = omega arith in
      let here : prepended done (block_starts_at (count - taken) bytes at) ≡ Err c = rw (left, e) refl in
      let is : whole ≡ Err c = sym so_far ∙ here in
      rw is refl

-- none was read
pub blocks_begun : (bytes : List ℕ) (count at : ℕ) (done : List BlockStart) → done ≡ [] → prepended done (block_starts_at (count - 0) bytes at) ≡ block_starts_at count bytes at
blocks_begun bytes count at done e =
    let all : count - 0 ≡ count = omega arith in
    rw (e, all) (prepended_none (block_starts_at count bytes at))
