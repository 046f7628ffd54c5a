use Rattle.std.proofs.Common.{◌≡◌, ◌++◌, List, ℕ, Bool, true, false, length, drop, rules}
use Rattle.byte_fields.specs.Spelling.{varint}
use Rattle.term_postings.specs.Postings.{count_bytes}
use Rattle.term_postings.specs.declared.list.Posting.{Posting}
use Rattle.term_postings.proofs.Numbers.{number_read}
use Rattle.term_postings.proofs.moves.read_count.Goals as goal

counted_bytes : (counted : Bool) (p : Posting) (rest bytes : List ℕ) → counted ≡ true → bytes ≡ count_bytes counted p.positions ++ rest → bytes ≡ varint (length p.positions) ++ rest
counted_bytes true p rest bytes is e = e
counted_bytes false p rest bytes is e = absurd cc

pub returns-clause-only : goal.returns-clause-only
returns-clause-only c p rest fits few e =
    let is : c.args.counted ≡ true = search rules in
    let e0 = counted_bytes c.args.counted p rest (drop c.args.at c.args.postings.now) is e in
    number_read c.args.postings.now rest c.args.at (length p.positions) c.in_ok-take_varint.field-0.0 c.in_ok-take_varint.field-0.1 e0 (c.in_ok-take_varint.ensures.only (length p.positions) rest few e0)
