use Rattle.std.proofs.Common.{◌++◌, arith, ◌∙◌, append_assoc}
use Rattle.byte_fields.specs.Spelling.{byte_string}
use Rattle.term_dict.specs.Terms.{info_bytes}
use Rattle.term_dict.proofs.Areas.{bytes_read, byte_string_some}
use Rattle.term_dict.proofs.block.read_term.Goals as goal

pub returns-in_err-info-clause-only : goal.returns-in_err-info-clause-only
returns-in_err-info-clause-only c t rest fits e =
    let parts = e ∙ append_assoc (byte_string t.key) (info_bytes t.info) rest in
    let a = bytes_read c.args.bytes.now (info_bytes t.info ++ rest) t.key c.in_ok-key.key.now c.args.at c.in_ok-key.next parts (c.in_ok-key.ensures.only t.key (info_bytes t.info ++ rest) parts) in
    absurd (c.in_err-info.ensures.only t rest fits a.1)

pub returns-clause-forward : goal.returns-clause-forward
returns-clause-forward c =
    let found = c.in_ok-key.ensures.found in
    let forward = c.in_ok-info.ensures.forward in
    (omega (arith, found.next_is, byte_string_some c.in_ok-key.key.now, forward.0), forward.1)

pub returns-clause-only : goal.returns-clause-only
returns-clause-only c t rest fits e =
    let parts = e ∙ append_assoc (byte_string t.key) (info_bytes t.info) rest in
    let a = bytes_read c.args.bytes.now (info_bytes t.info ++ rest) t.key c.in_ok-key.key.now c.args.at c.in_ok-key.next parts (c.in_ok-key.ensures.only t.key (info_bytes t.info ++ rest) parts) in
    let b = c.in_ok-info.ensures.only t rest fits a.1 in
    record { key = a.0; info = b.0; left_is = b.1 }
