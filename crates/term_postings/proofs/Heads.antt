-- Walking over the heads of blocks.
use Rattle.std.proofs.Common.{◌≡◌, ℕ, ◌-◌, ◌<◌, Bool, List, ◌++◌, length, take, drop, sym, ◌∙◌, ap, arith, append_assoc, length-drop}
use Rattle.byte_fields.specs.Spelling.{varint}
use Rattle.term_postings.specs.Postings.{document_bytes, position_bytes, last_document, head_bytes, head_list, later_blocks}
use Rattle.term_postings.specs.Cursors.{AreBehind, IsHead}
use Rattle.term_postings.specs.declared.list.Posting.{Posting}
use Rattle.term_postings.specs.declared.moves.Head.{Head}
use Rattle.term_postings.proofs.Lists.{block_behind, rest_behind, head_step}

pub head_parts : (bytes rest : List ℕ) (at : ℕ) (counted : Bool) (before : ℕ) (block : List Posting) → drop at bytes ≡ head_bytes counted before block ++ rest
    → drop at bytes ≡ varint (last_document before block - before) ++ (varint (length (document_bytes counted before block)) ++ (varint (length (position_bytes block)) ++ rest))
head_parts bytes rest at counted before block e = e ∙ simp append_assoc

-- so many heads stand at a place, and then the rest
pub record HeadsAt (bytes : List ℕ) (at n : ℕ) (counted : Bool) (rest : List ℕ) : Type 0 where
  pub before : ℕ
  pub ps : List Posting
  pub are_behind : AreBehind counted before ps
  pub count_is : n ≡ later_blocks ps
  pub here : drop at bytes ≡ head_list n counted before ps ++ rest

-- what reading a head gives there
abbrev pub ReadsHead : List ℕ → ℕ → Head → Type 0
ReadsHead bytes at h = (counted : Bool) (before : ℕ) (block : List Posting) (rest : List ℕ) → AreBehind counted before block → drop at bytes ≡ head_bytes counted before block ++ rest
    → IsHead counted before block h.gap h.len h.positions_len × (drop h.next bytes ≡ rest)

front_head : (bytes : List ℕ) (at n : ℕ) (counted : Bool) (rest : List ℕ) (h : HeadsAt bytes at n counted rest) → 0 < n
    → drop at bytes ≡ head_bytes counted h.before (take 128 h.ps) ++ (head_list (later_blocks (drop 128 h.ps)) counted (last_document h.before (take 128 h.ps)) (drop 128 h.ps) ++ rest)
front_head bytes at n counted rest h pos =
    let more : 128 < length h.ps = omega (arith, h.count_is) in
    h.here ∙ ap (λ (i : ℕ). head_list i counted h.before h.ps ++ rest) h.count_is ∙ ap (λ (l : List ℕ). l ++ rest) (head_step counted h.before h.ps more)
    ∙ append_assoc (head_bytes counted h.before (take 128 h.ps)) (head_list (later_blocks (drop 128 h.ps)) counted (last_document h.before (take 128 h.ps)) (drop 128 h.ps)) rest

pub heads_step : (bytes : List ℕ) (at n : ℕ) (counted : Bool) (rest : List ℕ) (head : Head) → HeadsAt bytes at n counted rest → 0 < n → ReadsHead bytes at head → HeadsAt bytes head.next (n - 1) counted rest
heads_step bytes at n counted rest head h pos reads =
    let more : 128 < length h.ps = omega (arith, h.count_is) in
    let got = reads counted h.before (take 128 h.ps) (head_list (later_blocks (drop 128 h.ps)) counted (last_document h.before (take 128 h.ps)) (drop 128 h.ps) ++ rest)
    (block_behind counted h.before h.ps h.are_behind) (front_head bytes at n counted rest h pos) in
    let count : n - 1 ≡ later_blocks (drop 128 h.ps) = omega (arith, h.count_is, length-drop 128 h.ps) in
    record {
      before = last_document h.before (take 128 h.ps);
      ps = drop 128 h.ps;
      are_behind = rest_behind counted h.before h.ps h.are_behind;
      count_is = count;
      here = got.1 ∙ ap (λ (i : ℕ). head_list i counted (last_document h.before (take 128 h.ps)) (drop 128 h.ps) ++ rest) (sym count);
    }

pub heads_read : (bytes : List ℕ) (at n : ℕ) (counted : Bool) (rest : List ℕ) → HeadsAt bytes at n counted rest → 0 < n
    → ((counted : Bool) (before : ℕ) (block : List Posting) (rest : List ℕ) → AreBehind counted before block → drop at bytes ≡ head_bytes counted before block ++ rest → ⊥) → ⊥
heads_read bytes at n counted rest h pos refused =
    refused counted h.before (take 128 h.ps) (head_list (later_blocks (drop 128 h.ps)) counted (last_document h.before (take 128 h.ps)) (drop 128 h.ps) ++ rest)
    (block_behind counted h.before h.ps h.are_behind) (front_head bytes at n counted rest h pos)

pub heads_end : (bytes : List ℕ) (at n : ℕ) (counted : Bool) (rest : List ℕ) → HeadsAt bytes at n counted rest → n ≡ 0 → drop at bytes ≡ rest
heads_end bytes at n counted rest h e = h.here ∙ ap (λ (i : ℕ). head_list i counted h.before h.ps ++ rest) e

pub heads_start : (bytes : List ℕ) (n m : ℕ) (counted : Bool) (before : ℕ) (ps : List Posting) (rest : List ℕ) → AreBehind counted before ps → n ≡ later_blocks ps → m ≡ n
    → bytes ≡ head_list n counted before ps ++ rest → HeadsAt bytes 0 m counted rest
heads_start bytes n m counted before ps rest behind count same e = record {
  before = before;
  ps = ps;
  are_behind = behind;
  count_is = same ∙ count;
  here = e ∙ ap (λ (i : ℕ). head_list i counted before ps ++ rest) (sym same);
}
