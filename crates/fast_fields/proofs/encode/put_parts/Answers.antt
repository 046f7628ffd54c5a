use Rattle.std.proofs.Common.{◌-◌, ◌++◌, ◌∷◌, ℕ, ap, subst, length, map}
use Rattle.byte_fields.specs.Spelling.{varint, eight}
use Rattle.fast_fields.specs.Packed.{IsWidth, IsPacked}
use Rattle.fast_fields.specs.Columns.{numbers, least_of, texts_bytes, documents_bytes}
use Rattle.fast_fields.specs.Texts.{texts_in}
use Rattle.fast_fields.proofs.Packs.{are_narrow, least_greatest, parts_put}
use Rattle.fast_fields.proofs.encode.put_parts.Goals as goal

pub overflow_sub-greatest : goal.overflow_sub-greatest
overflow_sub-greatest c = rw (c.least-least.ensures, c.greatest.ensures) (least_greatest c.args.entries.now)

pub returns : goal.returns
returns c =
    let es = c.args.entries.now in
    let p = c.in_ok-put_packed.ensures in
    let column = varint (length c.args.entries.now) ++ (texts_bytes c.args.texted (texts_in c.args.texts.now) ++ (documents_bytes c.args.entries.now ++ (eight c.least-least.result ++ (c.width_of-width.result ∷ p.0)))) in
    let parts = parts_put c.args.out.now.items c.put_varint.new.out.items c.put_texts.new.out.items c.put_documents.new.out.items c.put_eight.new.out.items c.push.new.self.items c.put_packed.new.out.items
    (varint (length c.args.entries.now)) (texts_bytes c.args.texted (texts_in c.args.texts.now)) (documents_bytes c.args.entries.now) (eight c.least-least.result) p.0 c.width_of-width.result
    c.in_ok-put_varint.ensures.ok c.in_ok-put_texts.ensures c.in_ok-put_documents.ensures c.in_ok-put_eight.ensures.ok c.in_ok-push.ensures.items p.1 in (
      varint (length c.args.entries.now) ++ (texts_bytes c.args.texted (texts_in c.args.texts.now) ++ (documents_bytes c.args.entries.now ++ (eight c.least-least.result ++ (c.width_of-width.result ∷ p.0)))),
      parts,
      record {
        width = c.width_of-width.result;
        packed = p.0;
        bytes_are = ap (λ (n : ℕ). varint (length c.args.entries.now) ++ (texts_bytes c.args.texted (texts_in c.args.texts.now) ++ (documents_bytes c.args.entries.now ++ (eight n ++ (c.width_of-width.result ∷ p.0))))) c.least-least.ensures;
        width_is = subst (λ (n : ℕ). IsWidth (n - least_of (numbers c.args.entries.now)) c.width_of-width.result) c.greatest.ensures
            (subst (λ (n : ℕ). IsWidth (c.greatest.result - n) c.width_of-width.result) c.least-least.ensures c.width_of-width.ensures.width);
        packed_are = subst (λ (k : ℕ). IsPacked c.width_of-width.result (map (λ (n : ℕ). n - k) (numbers c.args.entries.now)) p.0) c.least-least.ensures p.2;
      },
    )

pub put_packed-requires-clause-narrow : goal.put_packed-requires-clause-narrow
put_packed-requires-clause-narrow c = are_narrow c.args.entries.now c.least-least.result c.greatest.result c.width_of-width.result c.width_of-width.ensures.width c.greatest.ensures
