use Rattle.std.proofs.Common.{◌≡◌, ◌++◌, ◌∙◌, Bool, true, false, ℕ, List, length, drop, refl, sym, rules, append_assoc, arith}
use Rattle.std.specs.List.{flat_map}
use Rattle.byte_fields.specs.Spelling.{varint, byte_string}
use Rattle.fast_fields.specs.Columns.{texts_bytes}
use Rattle.fast_fields.proofs.Pieces.{number_read, between}
use Rattle.fast_fields.proofs.Areas.{area_whole, area_none}
use Rattle.fast_fields.proofs.column.read_texts.Goals as goal

texted_bytes : (texted : Bool) (texts : List (List ℕ)) (rest bytes : List ℕ) → texted ≡ true → bytes ≡ texts_bytes texted texts ++ rest → bytes ≡ varint (length texts) ++ (flat_map byte_string texts ++ rest)
texted_bytes true texts rest bytes is e = e ∙ append_assoc (varint (length texts)) (flat_map byte_string texts) rest
texted_bytes false texts rest bytes is e = absurd cc

pub returns-in_err-to-clause-only : goal.returns-in_err-to-clause-only
returns-in_err-to-clause-only c texts rest utf8 few none e =
    let is : c.args.texted ≡ true = search rules in
    let parts = texted_bytes c.args.texted texts rest (drop c.args.at c.args.bytes.now) is e in
    let a = number_read c.args.bytes.now (varint (length texts)) (flat_map byte_string texts ++ rest) c.args.at (length texts) c.in_ok-count.count c.in_ok-count.from (length (varint (length texts))) refl parts
    (c.in_ok-count.ensures.only (length texts) (flat_map byte_string texts ++ rest) few parts) in
    absurd (c.in_err-to.ensures.only texts rest utf8 a.0 a.1)

pub returns-clause-only : goal.returns-clause-only
returns-clause-only c texts rest utf8 few none e =
    let is : c.args.texted ≡ true = search rules in
    let parts = texted_bytes c.args.texted texts rest (drop c.args.at c.args.bytes.now) is e in
    let a = number_read c.args.bytes.now (varint (length texts)) (flat_map byte_string texts ++ rest) c.args.at (length texts) c.in_ok-count.count c.in_ok-count.from (length (varint (length texts))) refl parts
    (c.in_ok-count.ensures.only (length texts) (flat_map byte_string texts ++ rest) few parts) in
    let behind = c.in_ok-to.ensures.only texts rest utf8 a.0 a.1 in
    (between c.args.bytes.now (flat_map byte_string texts) rest c.in_ok-count.from c.in_ok-to.to a.1 behind c.in_ok-to.ensures.within.0 c.in_ok-to.ensures.within.1, a.0, behind)

pub returns-clause-whole : goal.returns-clause-whole
returns-clause-whole c = area_whole c.in_ok-count.count c.args.bytes.now c.in_ok-count.from c.in_ok-to.to (λ i. omega (arith, c.type_inv.bytes i)) c.in_ok-count.ensures.found.within (sym c.in_ok-to.ensures.exact)

pub returns-then-not-texted-clause-whole : goal.returns-then-not-texted-clause-whole
returns-then-not-texted-clause-whole c = area_none c.args.bytes.now c.args.at
