use Rattle.std.proofs.Common.{◌++◌, arith}
use Rattle.byte_fields.specs.Spelling.{varint}
use Rattle.term_dict.proofs.Areas.{info_parts, not_failed, number_read, same_info}
use Rattle.term_dict.proofs.block.read_info.Goals as goal

pub returns-in_err-postings-clause-only : goal.returns-in_err-postings-clause-only
returns-in_err-postings-clause-only c t rest fits e =
    let e0 = info_parts c.args.bytes.now rest c.args.at t.info e in
    let a1 = number_read c.args.bytes.now (varint t.info.postings ++ (varint t.info.postings_len ++ (varint t.info.positions ++ (varint t.info.positions_len ++ rest)))) c.args.at t.info.docs c.in_ok-docs.docs c.in_ok-docs.next e0 (c.in_ok-docs.ensures.only t.info.docs (varint t.info.postings ++ (varint t.info.postings_len ++ (varint t.info.positions ++ (varint t.info.positions_len ++ rest)))) (omega arith) e0) in
    absurd (not_failed _ _ (c.in_err-postings.ensures.only t.info.postings (varint t.info.postings_len ++ (varint t.info.positions ++ (varint t.info.positions_len ++ rest))) (omega arith) a1.1))

pub returns-in_err-postings_len-clause-only : goal.returns-in_err-postings_len-clause-only
returns-in_err-postings_len-clause-only c t rest fits e =
    let e0 = info_parts c.args.bytes.now rest c.args.at t.info e in
    let a1 = number_read c.args.bytes.now (varint t.info.postings ++ (varint t.info.postings_len ++ (varint t.info.positions ++ (varint t.info.positions_len ++ rest)))) c.args.at t.info.docs c.in_ok-docs.docs c.in_ok-docs.next e0 (c.in_ok-docs.ensures.only t.info.docs (varint t.info.postings ++ (varint t.info.postings_len ++ (varint t.info.positions ++ (varint t.info.positions_len ++ rest)))) (omega arith) e0) in
    let a2 = number_read c.args.bytes.now (varint t.info.postings_len ++ (varint t.info.positions ++ (varint t.info.positions_len ++ rest))) c.in_ok-docs.next t.info.postings c.in_ok-postings.postings c.in_ok-postings.after_postings a1.1 (c.in_ok-postings.ensures.only t.info.postings (varint t.info.postings_len ++ (varint t.info.positions ++ (varint t.info.positions_len ++ rest))) (omega arith) a1.1) in
    absurd (not_failed _ _ (c.in_err-postings_len.ensures.only t.info.postings_len (varint t.info.positions ++ (varint t.info.positions_len ++ rest)) (omega arith) a2.1))

pub returns-in_err-positions-clause-only : goal.returns-in_err-positions-clause-only
returns-in_err-positions-clause-only c t rest fits e =
    let e0 = info_parts c.args.bytes.now rest c.args.at t.info e in
    let a1 = number_read c.args.bytes.now (varint t.info.postings ++ (varint t.info.postings_len ++ (varint t.info.positions ++ (varint t.info.positions_len ++ rest)))) c.args.at t.info.docs c.in_ok-docs.docs c.in_ok-docs.next e0 (c.in_ok-docs.ensures.only t.info.docs (varint t.info.postings ++ (varint t.info.postings_len ++ (varint t.info.positions ++ (varint t.info.positions_len ++ rest)))) (omega arith) e0) in
    let a2 = number_read c.args.bytes.now (varint t.info.postings_len ++ (varint t.info.positions ++ (varint t.info.positions_len ++ rest))) c.in_ok-docs.next t.info.postings c.in_ok-postings.postings c.in_ok-postings.after_postings a1.1 (c.in_ok-postings.ensures.only t.info.postings (varint t.info.postings_len ++ (varint t.info.positions ++ (varint t.info.positions_len ++ rest))) (omega arith) a1.1) in
    let a3 = number_read c.args.bytes.now (varint t.info.positions ++ (varint t.info.positions_len ++ rest)) c.in_ok-postings.after_postings t.info.postings_len c.in_ok-postings_len.postings_len c.in_ok-postings_len.after_len a2.1 (c.in_ok-postings_len.ensures.only t.info.postings_len (varint t.info.positions ++ (varint t.info.positions_len ++ rest)) (omega arith) a2.1) in
    absurd (not_failed _ _ (c.in_err-positions.ensures.only t.info.positions (varint t.info.positions_len ++ rest) (omega arith) a3.1))

pub returns-in_err-positions_len-clause-only : goal.returns-in_err-positions_len-clause-only
returns-in_err-positions_len-clause-only c t rest fits e =
    let e0 = info_parts c.args.bytes.now rest c.args.at t.info e in
    let a1 = number_read c.args.bytes.now (varint t.info.postings ++ (varint t.info.postings_len ++ (varint t.info.positions ++ (varint t.info.positions_len ++ rest)))) c.args.at t.info.docs c.in_ok-docs.docs c.in_ok-docs.next e0 (c.in_ok-docs.ensures.only t.info.docs (varint t.info.postings ++ (varint t.info.postings_len ++ (varint t.info.positions ++ (varint t.info.positions_len ++ rest)))) (omega arith) e0) in
    let a2 = number_read c.args.bytes.now (varint t.info.postings_len ++ (varint t.info.positions ++ (varint t.info.positions_len ++ rest))) c.in_ok-docs.next t.info.postings c.in_ok-postings.postings c.in_ok-postings.after_postings a1.1 (c.in_ok-postings.ensures.only t.info.postings (varint t.info.postings_len ++ (varint t.info.positions ++ (varint t.info.positions_len ++ rest))) (omega arith) a1.1) in
    let a3 = number_read c.args.bytes.now (varint t.info.positions ++ (varint t.info.positions_len ++ rest)) c.in_ok-postings.after_postings t.info.postings_len c.in_ok-postings_len.postings_len c.in_ok-postings_len.after_len a2.1 (c.in_ok-postings_len.ensures.only t.info.postings_len (varint t.info.positions ++ (varint t.info.positions_len ++ rest)) (omega arith) a2.1) in
    let a4 = number_read c.args.bytes.now (varint t.info.positions_len ++ rest) c.in_ok-postings_len.after_len t.info.positions c.in_ok-positions.positions c.in_ok-positions.after_positions a3.1 (c.in_ok-positions.ensures.only t.info.positions (varint t.info.positions_len ++ rest) (omega arith) a3.1) in
    absurd (not_failed _ _ (c.in_err-positions_len.ensures.only t.info.positions_len rest (omega arith) a4.1))

pub returns-clause-only : goal.returns-clause-only
returns-clause-only c t rest fits e =
    let e0 = info_parts c.args.bytes.now rest c.args.at t.info e in
    let a1 = number_read c.args.bytes.now (varint t.info.postings ++ (varint t.info.postings_len ++ (varint t.info.positions ++ (varint t.info.positions_len ++ rest)))) c.args.at t.info.docs c.in_ok-docs.docs c.in_ok-docs.next e0 (c.in_ok-docs.ensures.only t.info.docs (varint t.info.postings ++ (varint t.info.postings_len ++ (varint t.info.positions ++ (varint t.info.positions_len ++ rest)))) (omega arith) e0) in
    let a2 = number_read c.args.bytes.now (varint t.info.postings_len ++ (varint t.info.positions ++ (varint t.info.positions_len ++ rest))) c.in_ok-docs.next t.info.postings c.in_ok-postings.postings c.in_ok-postings.after_postings a1.1 (c.in_ok-postings.ensures.only t.info.postings (varint t.info.postings_len ++ (varint t.info.positions ++ (varint t.info.positions_len ++ rest))) (omega arith) a1.1) in
    let a3 = number_read c.args.bytes.now (varint t.info.positions ++ (varint t.info.positions_len ++ rest)) c.in_ok-postings.after_postings t.info.postings_len c.in_ok-postings_len.postings_len c.in_ok-postings_len.after_len a2.1 (c.in_ok-postings_len.ensures.only t.info.postings_len (varint t.info.positions ++ (varint t.info.positions_len ++ rest)) (omega arith) a2.1) in
    let a4 = number_read c.args.bytes.now (varint t.info.positions_len ++ rest) c.in_ok-postings_len.after_len t.info.positions c.in_ok-positions.positions c.in_ok-positions.after_positions a3.1 (c.in_ok-positions.ensures.only t.info.positions (varint t.info.positions_len ++ rest) (omega arith) a3.1) in
    let a5 = number_read c.args.bytes.now rest c.in_ok-positions.after_positions t.info.positions_len c.in_ok-positions_len.positions_len c.in_ok-positions_len.end a4.1 (c.in_ok-positions_len.ensures.only t.info.positions_len rest (omega arith) a4.1) in
    (same_info _ _ _ _ _ t.info a1.0 a2.0 a3.0 a4.0 a5.0, a5.1)
