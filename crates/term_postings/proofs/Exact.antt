-- What is read of any bytes: so many pieces one behind the other, and a document that is sought.
use Rattle.std.proofs.Common.{◌≡◌, ℕ, suc, ◌+◌, ◌-◌, ◌<◌, ◌≤◌, List, Option, Some, None, Result, Ok, Err, refl, sym, ◌∙◌, arith}
use Rattle.std.specs.Prelude.{◌==◌, if◌then◌else◌}
use Rattle.std.proofs.lemmas.Bool.{lt-leb, le-leb}
use Rattle.std.proofs.lemmas.Bool.Decides.{nat_tests}
use Rattle.byte_fields.specs.declared.corrupt.Corrupt.{Corrupt}
use Rattle.term_postings.specs.declared.moves.Head.{Head}
use Rattle.byte_fields.specs.Steps.{◌>>=◌, number_at}
use Rattle.term_postings.specs.Reading.{numbers_behind, head_at, heads_behind, Walk, left_by, step_of, next_of, unless, block_below, LeavesBlocks, Passes, Sought, kept}

-- so many numbers
module _ (bytes : List ℕ) (count taken at : ℕ) (whole : Result ℕ Corrupt) (so_far : numbers_behind (count - taken) bytes at ≡ whole) where
  pub numbers_done : count ≤ taken → whole ≡ Ok at
  unfolding numbers_behind
  numbers_done le = let none : count - taken ≡ 0 = omega arith in sym so_far ∙ rw none refl

  pub numbers_next : taken < count → whole ≡ (number_at bytes at >>= λ number. numbers_behind (count - (taken + 1)) bytes number.1)
  unfolding numbers_behind
  numbers_next lt = let left : count - taken ≡ suc (count - (taken + 1)) = omega arith in sym so_far ∙ rw left refl

-- so many heads
module _ (postings : List ℕ) (count taken at : ℕ) (whole : Result ℕ Corrupt) (so_far : heads_behind (count - taken) postings at ≡ whole) where
  pub heads_done : count ≤ taken → whole ≡ Ok at
  unfolding heads_behind
  heads_done le = let none : count - taken ≡ 0 = omega arith in sym so_far ∙ rw none refl

  pub heads_next : taken < count → whole ≡ (head_at postings at >>= λ head. heads_behind (count - (taken + 1)) postings head.next)
  unfolding heads_behind
  heads_next lt = let left : count - taken ≡ suc (count - (taken + 1)) = omega arith in sym so_far ∙ rw left refl

-- ---- blocks below a document

abbrev left_block : Walk → Result Walk Corrupt
left_block w = Ok w

module _ (document : ℕ) (w : Walk) where
  pub few_left : w.left + w.passed ≤ 128 → block_below document w ≡ Ok None
  few_left few = rw (le-leb (w.left + w.passed) 128 few) refl

  module _ (many : 128 < w.left + w.passed) where
    pub head_fault : (fault : Corrupt) → Err fault ≡ head_at w.source.postings w.head → block_below document w ≡ Err fault
    head_fault fault read = rw (lt-leb (w.left + w.passed) 128 many, sym read) refl

    module _ (head : Head) (read : Ok head ≡ head_at w.source.postings w.head) where
      pub not_below : document ≤ w.block_before + head.gap → block_below document w ≡ Ok None
      not_below le = rw (lt-leb (w.left + w.passed) 128 many, sym read, le-leb document (w.block_before + head.gap) le) refl

      module _ (below : w.block_before + head.gap < document) where
        pub block_fault : (fault : Corrupt) → Err fault ≡ left_by head w → block_below document w ≡ Err fault
        block_fault fault is = rw (lt-leb (w.left + w.passed) 128 many, sym read, lt-leb document (w.block_before + head.gap) below, sym is) refl

        pub block_left : (next : Walk) → left_block next ≡ left_by head w → block_below document w ≡ Ok (Some next)
        block_left next is = rw (lt-leb (w.left + w.passed) 128 many, sym read, lt-leb document (w.block_before + head.gap) below, sym is) refl

-- ---- the document that is sought

abbrev passed : ℕ × Walk → Result (ℕ × Walk) Corrupt
passed x = Ok x

unless_none : {A : Type 0} (fault : Option Corrupt) (read : Result A Corrupt) → fault ≡ None → unless fault read ≡ read
unless_none None read e = refl
unless_none (Some x) read e = absurd cc

some_left : {A : Type 0} (n : ℕ) (none read : Result A Corrupt) → 0 < n → (if n == 0 then none else read) ≡ read
some_left n none read lt = grind (arith, nat_tests)

module _ (w : Walk) (sound : w.source.fault ≡ None) where
  pub none_next : w.left ≡ 0 → next_of w ≡ Ok (None, w)
  none_next none = rw (sound, none) refl

  module _ (some : 0 < w.left) where
    stepped : next_of w ≡ (step_of w >>= λ d. Ok (Some d.0, d.1))
    stepped = unless_none w.source.fault (if w.left == 0 then Ok (None, w) else (step_of w >>= λ d. Ok (Some d.0, d.1))) sound
        ∙ some_left w.left (Ok (None, w)) (step_of w >>= λ d. Ok (Some d.0, d.1)) some

    pub next_fault : (fault : Corrupt) → Err fault ≡ step_of w → next_of w ≡ Err fault
    next_fault fault is = stepped ∙ rw (sym is) refl

    pub next_found : (found : ℕ) (next : Walk) → passed (found, next) ≡ step_of w → next_of w ≡ Ok (Some found, next)
    next_found found next is = stepped ∙ rw (sym is) refl

pub is_sound : (fault : Option Corrupt) → ((x : Corrupt) → fault ≡ Some x → ⊥) → fault ≡ None
is_sound None h = refl
is_sound (Some x) h = absurd (h x refl)

pub sought : (document : ℕ) (w start : Walk) (end : Result (Option ℕ × Walk) Corrupt) → w.source.fault ≡ None → LeavesBlocks document w (Ok start) → Passes document start end
    → Sought document w.source.fault w (kept w end)
sought document w start end sound blocks seen = by_soundness w.source.fault sound
  where
    by_soundness : (fault : Option Corrupt) → fault ≡ None → Sought document fault w (kept w end)
    by_soundness None e = (Ok start, blocks, (end, seen, refl))
    by_soundness (Some x) e = absurd cc
