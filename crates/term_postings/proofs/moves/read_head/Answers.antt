use Rattle.std.proofs.Common.{◌-◌, ◌++◌, length}
use Rattle.byte_fields.specs.Spelling.{varint}
use Rattle.term_postings.specs.Postings.{last_document, document_bytes, position_bytes}
use Rattle.term_postings.proofs.Numbers.{not_failed, number_read}
use Rattle.term_postings.proofs.Lists.{gap_fits}
use Rattle.term_postings.proofs.Heads.{head_parts}
use Rattle.term_postings.proofs.moves.read_head.Goals as goal

pub returns-in_err-gap-clause-only : goal.returns-in_err-gap-clause-only
returns-in_err-gap-clause-only c counted before block rest behind e =
    let l = varint (length (document_bytes counted before block)) in
    let p = varint (length (position_bytes block)) in
    let e0 = head_parts c.args.postings.now rest c.args.at counted before block e in
    absurd (not_failed _ _ (c.in_err-gap.ensures.only (last_document before block - before) (l ++ (p ++ rest)) (gap_fits counted before block behind.fits) e0))

pub returns-in_err-len-clause-only : goal.returns-in_err-len-clause-only
returns-in_err-len-clause-only c counted before block rest behind e =
    let l = varint (length (document_bytes counted before block)) in
    let p = varint (length (position_bytes block)) in
    let e0 = head_parts c.args.postings.now rest c.args.at counted before block e in
    let a = number_read c.args.postings.now (l ++ (p ++ rest)) c.args.at (last_document before block - before) c.in_ok-gap.gap c.in_ok-gap.behind_gap e0
    (c.in_ok-gap.ensures.only (last_document before block - before) (l ++ (p ++ rest)) (gap_fits counted before block behind.fits) e0) in
    absurd (not_failed _ _ (c.in_err-len.ensures.only (length (document_bytes counted before block)) (p ++ rest) behind.size a.1))

pub returns-in_err-positions_len-clause-only : goal.returns-in_err-positions_len-clause-only
returns-in_err-positions_len-clause-only c counted before block rest behind e =
    let l = varint (length (document_bytes counted before block)) in
    let p = varint (length (position_bytes block)) in
    let e0 = head_parts c.args.postings.now rest c.args.at counted before block e in
    let a = number_read c.args.postings.now (l ++ (p ++ rest)) c.args.at (last_document before block - before) c.in_ok-gap.gap c.in_ok-gap.behind_gap e0
    (c.in_ok-gap.ensures.only (last_document before block - before) (l ++ (p ++ rest)) (gap_fits counted before block behind.fits) e0) in
    let b = number_read c.args.postings.now (p ++ rest) c.in_ok-gap.behind_gap (length (document_bytes counted before block)) c.in_ok-len.len c.in_ok-len.behind_len a.1
    (c.in_ok-len.ensures.only (length (document_bytes counted before block)) (p ++ rest) behind.size a.1) in
    absurd (not_failed _ _ (c.in_err-positions_len.ensures.only (length (position_bytes block)) rest behind.positions_size b.1))

pub returns-clause-only : goal.returns-clause-only
returns-clause-only c counted before block rest behind e =
    let l = varint (length (document_bytes counted before block)) in
    let p = varint (length (position_bytes block)) in
    let e0 = head_parts c.args.postings.now rest c.args.at counted before block e in
    let a = number_read c.args.postings.now (l ++ (p ++ rest)) c.args.at (last_document before block - before) c.in_ok-gap.gap c.in_ok-gap.behind_gap e0
    (c.in_ok-gap.ensures.only (last_document before block - before) (l ++ (p ++ rest)) (gap_fits counted before block behind.fits) e0) in
    let b = number_read c.args.postings.now (p ++ rest) c.in_ok-gap.behind_gap (length (document_bytes counted before block)) c.in_ok-len.len c.in_ok-len.behind_len a.1
    (c.in_ok-len.ensures.only (length (document_bytes counted before block)) (p ++ rest) behind.size a.1) in
    let d = number_read c.args.postings.now rest c.in_ok-len.behind_len (length (position_bytes block)) c.in_ok-positions_len.positions_len c.in_ok-positions_len.next b.1
    (c.in_ok-positions_len.ensures.only (length (position_bytes block)) rest behind.positions_size b.1) in
    (record { gap_is = a.0; len_is = b.0; positions_len_is = d.0 }, d.1)
