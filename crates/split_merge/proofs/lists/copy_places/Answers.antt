use Rattle.std.proofs.Common.{◌∙◌, ◌++◌, ℕ, List, length, take, ap, sym, arith, length-append}
use Rattle.std.proofs.lemmas.List.{take_at}
use Rattle.term_postings.specs.Postings.{position_bytes}
use Rattle.split_merge.proofs.lists.copy_places.Goals as goal

pub returns-then-len-bytes : goal.returns-then-len-bytes
returns-then-len-bytes c = λ list stands len.
    let h = c.in-Ok.ensures.only list stands in
    absurd (omega (arith, len, c.if-len-bytes.true, ap (λ (l : List ℕ). length l) h.1, length-append (position_bytes list) h.0))

pub returns-in_ok-extend_from_slice-in-Ok : goal.returns-in_ok-extend_from_slice-in-Ok
returns-in_ok-extend_from_slice-in-Ok c = λ list stands len.
    let h = c.in-Ok.ensures.only list stands in
    c.in_ok-extend_from_slice-in-Ok.ensures.items
    ∙ ap (λ (l : List ℕ). c.args.places.now.items ++ l) (ap (λ (l : List ℕ). take c.args.len l) h.1 ∙ take_at (position_bytes list) h.0 c.args.len (sym len))

pub returns-in-Err : goal.returns-in-Err
returns-in-Err c = λ list stands len. absurd (c.in-Err.ensures.only list stands)
