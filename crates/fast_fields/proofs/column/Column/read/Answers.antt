use Rattle.std.proofs.Common.{◌≡◌, ◌+◌, ◌-◌, ◌*◌, ◌/◌, ◌++◌, ◌∷◌, ◌∙◌, ℕ, List, Bool, false, [], length, map, refl, sym, ap, subst, arith}
use Rattle.std.proofs.lemmas.List.{length-map}
use Rattle.byte_fields.specs.Spelling.{varint, eight}
use Rattle.fast_fields.specs.Packed.{IsPacked, IsWidth}
use Rattle.fast_fields.specs.Columns.{numbers, least_of, greatest_of, has_texts, texts_bytes, documents_bytes}
use Rattle.fast_fields.specs.declared.entries.Entry.{Entry}
use Rattle.fast_fields.proofs.Pieces.{not_failed, number_read, column_parts, end_of}
use Rattle.fast_fields.proofs.Bits.{width_within}
use Rattle.fast_fields.proofs.Places.{length-documents, least_small, greatest_small}
use Rattle.fast_fields.proofs.column.Column.read.Goals as goal

pub returns-in_err-count-clause-only : goal.returns-in_err-count-clause-only
returns-in_err-count-clause-only c column rest rows is e =
    let parts = column_parts c.args.bytes.now column rest (varint (length is.entries)) (texts_bytes (has_texts c.args.field.now.kind) is.texts) (documents_bytes is.entries) (eight (least_of (numbers is.entries))) is.spelled.packed is.spelled.width e is.spelled.bytes_are in
    absurd (not_failed _ _ (c.in_err-count.ensures.only (length is.entries) (texts_bytes (has_texts c.args.field.now.kind) is.texts ++ (documents_bytes is.entries ++ (eight (least_of (numbers is.entries)) ++ (is.spelled.width ∷ (is.spelled.packed ++ rest))))) (omega (arith, is.fits.few)) parts))

pub returns-then-count-from-clause-only : goal.returns-then-count-from-clause-only
returns-then-count-from-clause-only c column rest rows is e =
    let parts = column_parts c.args.bytes.now column rest (varint (length is.entries)) (texts_bytes (has_texts c.args.field.now.kind) is.texts) (documents_bytes is.entries) (eight (least_of (numbers is.entries))) is.spelled.packed is.spelled.width e is.spelled.bytes_are in
    let a = number_read c.args.bytes.now (varint (length is.entries)) (texts_bytes (has_texts c.args.field.now.kind) is.texts ++ (documents_bytes is.entries ++ (eight (least_of (numbers is.entries)) ++ (is.spelled.width ∷ (is.spelled.packed ++ rest))))) 0 (length is.entries) c.in_ok-count.count c.in_ok-count.behind_count (length (varint (length is.entries))) refl parts
    (c.in_ok-count.ensures.only (length is.entries) (texts_bytes (has_texts c.args.field.now.kind) is.texts ++ (documents_bytes is.entries ++ (eight (least_of (numbers is.entries)) ++ (is.spelled.width ∷ (is.spelled.packed ++ rest))))) (omega (arith, is.fits.few)) parts) in
    absurd (omega (arith, a.0, is.fits.few))

pub returns-in_err-texts-clause-only : goal.returns-in_err-texts-clause-only
returns-in_err-texts-clause-only c column rest rows is e =
    let parts = column_parts c.args.bytes.now column rest (varint (length is.entries)) (texts_bytes (has_texts c.args.field.now.kind) is.texts) (documents_bytes is.entries) (eight (least_of (numbers is.entries))) is.spelled.packed is.spelled.width e is.spelled.bytes_are in
    let a = number_read c.args.bytes.now (varint (length is.entries)) (texts_bytes (has_texts c.args.field.now.kind) is.texts ++ (documents_bytes is.entries ++ (eight (least_of (numbers is.entries)) ++ (is.spelled.width ∷ (is.spelled.packed ++ rest))))) 0 (length is.entries) c.in_ok-count.count c.in_ok-count.behind_count (length (varint (length is.entries))) refl parts
    (c.in_ok-count.ensures.only (length is.entries) (texts_bytes (has_texts c.args.field.now.kind) is.texts ++ (documents_bytes is.entries ++ (eight (least_of (numbers is.entries)) ++ (is.spelled.width ∷ (is.spelled.packed ++ rest))))) (omega (arith, is.fits.few)) parts) in
    let texts_at = a.1 ∙ ap (λ (k : Bool). texts_bytes k is.texts ++ (documents_bytes is.entries ++ (eight (least_of (numbers is.entries)) ++ (is.spelled.width ∷ (is.spelled.packed ++ rest))))) (sym c.has_texts.ensures) in
    let no_texts : c.has_texts.result ≡ false → is.texts ≡ [] = λ none. is.no_texts (sym c.has_texts.ensures ∙ none) in
    absurd (c.in_err-texts.ensures.only is.texts (documents_bytes is.entries ++ (eight (least_of (numbers is.entries)) ++ (is.spelled.width ∷ (is.spelled.packed ++ rest)))) is.are_texts.utf8 is.few_texts no_texts texts_at)

pub returns-in_err-documents-clause-only : goal.returns-in_err-documents-clause-only
returns-in_err-documents-clause-only c column rest rows is e =
    let parts = column_parts c.args.bytes.now column rest (varint (length is.entries)) (texts_bytes (has_texts c.args.field.now.kind) is.texts) (documents_bytes is.entries) (eight (least_of (numbers is.entries))) is.spelled.packed is.spelled.width e is.spelled.bytes_are in
    let a = number_read c.args.bytes.now (varint (length is.entries)) (texts_bytes (has_texts c.args.field.now.kind) is.texts ++ (documents_bytes is.entries ++ (eight (least_of (numbers is.entries)) ++ (is.spelled.width ∷ (is.spelled.packed ++ rest))))) 0 (length is.entries) c.in_ok-count.count c.in_ok-count.behind_count (length (varint (length is.entries))) refl parts
    (c.in_ok-count.ensures.only (length is.entries) (texts_bytes (has_texts c.args.field.now.kind) is.texts ++ (documents_bytes is.entries ++ (eight (least_of (numbers is.entries)) ++ (is.spelled.width ∷ (is.spelled.packed ++ rest))))) (omega (arith, is.fits.few)) parts) in
    let texts_at = a.1 ∙ ap (λ (k : Bool). texts_bytes k is.texts ++ (documents_bytes is.entries ++ (eight (least_of (numbers is.entries)) ++ (is.spelled.width ∷ (is.spelled.packed ++ rest))))) (sym c.has_texts.ensures) in
    let no_texts : c.has_texts.result ≡ false → is.texts ≡ [] = λ none. is.no_texts (sym c.has_texts.ensures ∙ none) in
    let b = c.in_ok-texts.ensures.only is.texts (documents_bytes is.entries ++ (eight (least_of (numbers is.entries)) ++ (is.spelled.width ∷ (is.spelled.packed ++ rest)))) is.are_texts.utf8 is.few_texts no_texts texts_at in
    let size : length (documents_bytes is.entries) ≡ 4 * c.in_ok-count.count = length-documents is.entries ∙ ap (λ (k : ℕ). 4 * k) (sym a.0) in
    absurd (c.in_err-documents.ensures.only (documents_bytes is.entries) (eight (least_of (numbers is.entries)) ++ (is.spelled.width ∷ (is.spelled.packed ++ rest))) size b.2)

pub returns-in_err-least-clause-only : goal.returns-in_err-least-clause-only
returns-in_err-least-clause-only c column rest rows is e =
    let parts = column_parts c.args.bytes.now column rest (varint (length is.entries)) (texts_bytes (has_texts c.args.field.now.kind) is.texts) (documents_bytes is.entries) (eight (least_of (numbers is.entries))) is.spelled.packed is.spelled.width e is.spelled.bytes_are in
    let a = number_read c.args.bytes.now (varint (length is.entries)) (texts_bytes (has_texts c.args.field.now.kind) is.texts ++ (documents_bytes is.entries ++ (eight (least_of (numbers is.entries)) ++ (is.spelled.width ∷ (is.spelled.packed ++ rest))))) 0 (length is.entries) c.in_ok-count.count c.in_ok-count.behind_count (length (varint (length is.entries))) refl parts
    (c.in_ok-count.ensures.only (length is.entries) (texts_bytes (has_texts c.args.field.now.kind) is.texts ++ (documents_bytes is.entries ++ (eight (least_of (numbers is.entries)) ++ (is.spelled.width ∷ (is.spelled.packed ++ rest))))) (omega (arith, is.fits.few)) parts) in
    let texts_at = a.1 ∙ ap (λ (k : Bool). texts_bytes k is.texts ++ (documents_bytes is.entries ++ (eight (least_of (numbers is.entries)) ++ (is.spelled.width ∷ (is.spelled.packed ++ rest))))) (sym c.has_texts.ensures) in
    let no_texts : c.has_texts.result ≡ false → is.texts ≡ [] = λ none. is.no_texts (sym c.has_texts.ensures ∙ none) in
    let b = c.in_ok-texts.ensures.only is.texts (documents_bytes is.entries ++ (eight (least_of (numbers is.entries)) ++ (is.spelled.width ∷ (is.spelled.packed ++ rest)))) is.are_texts.utf8 is.few_texts no_texts texts_at in
    let size : length (documents_bytes is.entries) ≡ 4 * c.in_ok-count.count = length-documents is.entries ∙ ap (λ (k : ℕ). 4 * k) (sym a.0) in
    let d = c.in_ok-documents.ensures.only (documents_bytes is.entries) (eight (least_of (numbers is.entries)) ++ (is.spelled.width ∷ (is.spelled.packed ++ rest))) size b.2 in
    let least = least_small is.entries is.fits.small_numbers in
    absurd (not_failed _ _ (c.in_err-least.ensures.only (least_of (numbers is.entries)) (is.spelled.width ∷ (is.spelled.packed ++ rest)) least d.1))

pub returns-in_err-width-clause-only : goal.returns-in_err-width-clause-only
returns-in_err-width-clause-only c column rest rows is e =
    let parts = column_parts c.args.bytes.now column rest (varint (length is.entries)) (texts_bytes (has_texts c.args.field.now.kind) is.texts) (documents_bytes is.entries) (eight (least_of (numbers is.entries))) is.spelled.packed is.spelled.width e is.spelled.bytes_are in
    let a = number_read c.args.bytes.now (varint (length is.entries)) (texts_bytes (has_texts c.args.field.now.kind) is.texts ++ (documents_bytes is.entries ++ (eight (least_of (numbers is.entries)) ++ (is.spelled.width ∷ (is.spelled.packed ++ rest))))) 0 (length is.entries) c.in_ok-count.count c.in_ok-count.behind_count (length (varint (length is.entries))) refl parts
    (c.in_ok-count.ensures.only (length is.entries) (texts_bytes (has_texts c.args.field.now.kind) is.texts ++ (documents_bytes is.entries ++ (eight (least_of (numbers is.entries)) ++ (is.spelled.width ∷ (is.spelled.packed ++ rest))))) (omega (arith, is.fits.few)) parts) in
    let texts_at = a.1 ∙ ap (λ (k : Bool). texts_bytes k is.texts ++ (documents_bytes is.entries ++ (eight (least_of (numbers is.entries)) ++ (is.spelled.width ∷ (is.spelled.packed ++ rest))))) (sym c.has_texts.ensures) in
    let no_texts : c.has_texts.result ≡ false → is.texts ≡ [] = λ none. is.no_texts (sym c.has_texts.ensures ∙ none) in
    let b = c.in_ok-texts.ensures.only is.texts (documents_bytes is.entries ++ (eight (least_of (numbers is.entries)) ++ (is.spelled.width ∷ (is.spelled.packed ++ rest)))) is.are_texts.utf8 is.few_texts no_texts texts_at in
    let size : length (documents_bytes is.entries) ≡ 4 * c.in_ok-count.count = length-documents is.entries ∙ ap (λ (k : ℕ). 4 * k) (sym a.0) in
    let d = c.in_ok-documents.ensures.only (documents_bytes is.entries) (eight (least_of (numbers is.entries)) ++ (is.spelled.width ∷ (is.spelled.packed ++ rest))) size b.2 in
    let least = least_small is.entries is.fits.small_numbers in
    let l = number_read c.args.bytes.now (eight (least_of (numbers is.entries))) (is.spelled.width ∷ (is.spelled.packed ++ rest)) c.in_ok-documents.behind_documents (least_of (numbers is.entries)) c.in_ok-least.least c.in_ok-least.behind_least 8 refl d.1
    (c.in_ok-least.ensures.only (least_of (numbers is.entries)) (is.spelled.width ∷ (is.spelled.packed ++ rest)) least d.1) in
    let narrow = width_within (greatest_of (numbers is.entries) - least_of (numbers is.entries)) is.spelled.width is.spelled.width_is (omega (arith, greatest_small is.entries is.fits.small_numbers)) in
    absurd (c.in_err-width.ensures.only is.spelled.width (is.spelled.packed ++ rest) narrow l.1)

pub returns-in_err-packed-clause-only : goal.returns-in_err-packed-clause-only
returns-in_err-packed-clause-only c column rest rows is e =
    let parts = column_parts c.args.bytes.now column rest (varint (length is.entries)) (texts_bytes (has_texts c.args.field.now.kind) is.texts) (documents_bytes is.entries) (eight (least_of (numbers is.entries))) is.spelled.packed is.spelled.width e is.spelled.bytes_are in
    let a = number_read c.args.bytes.now (varint (length is.entries)) (texts_bytes (has_texts c.args.field.now.kind) is.texts ++ (documents_bytes is.entries ++ (eight (least_of (numbers is.entries)) ++ (is.spelled.width ∷ (is.spelled.packed ++ rest))))) 0 (length is.entries) c.in_ok-count.count c.in_ok-count.behind_count (length (varint (length is.entries))) refl parts
    (c.in_ok-count.ensures.only (length is.entries) (texts_bytes (has_texts c.args.field.now.kind) is.texts ++ (documents_bytes is.entries ++ (eight (least_of (numbers is.entries)) ++ (is.spelled.width ∷ (is.spelled.packed ++ rest))))) (omega (arith, is.fits.few)) parts) in
    let texts_at = a.1 ∙ ap (λ (k : Bool). texts_bytes k is.texts ++ (documents_bytes is.entries ++ (eight (least_of (numbers is.entries)) ++ (is.spelled.width ∷ (is.spelled.packed ++ rest))))) (sym c.has_texts.ensures) in
    let no_texts : c.has_texts.result ≡ false → is.texts ≡ [] = λ none. is.no_texts (sym c.has_texts.ensures ∙ none) in
    let b = c.in_ok-texts.ensures.only is.texts (documents_bytes is.entries ++ (eight (least_of (numbers is.entries)) ++ (is.spelled.width ∷ (is.spelled.packed ++ rest)))) is.are_texts.utf8 is.few_texts no_texts texts_at in
    let size : length (documents_bytes is.entries) ≡ 4 * c.in_ok-count.count = length-documents is.entries ∙ ap (λ (k : ℕ). 4 * k) (sym a.0) in
    let d = c.in_ok-documents.ensures.only (documents_bytes is.entries) (eight (least_of (numbers is.entries)) ++ (is.spelled.width ∷ (is.spelled.packed ++ rest))) size b.2 in
    let least = least_small is.entries is.fits.small_numbers in
    let l = number_read c.args.bytes.now (eight (least_of (numbers is.entries))) (is.spelled.width ∷ (is.spelled.packed ++ rest)) c.in_ok-documents.behind_documents (least_of (numbers is.entries)) c.in_ok-least.least c.in_ok-least.behind_least 8 refl d.1
    (c.in_ok-least.ensures.only (least_of (numbers is.entries)) (is.spelled.width ∷ (is.spelled.packed ++ rest)) least d.1) in
    let narrow = width_within (greatest_of (numbers is.entries) - least_of (numbers is.entries)) is.spelled.width is.spelled.width_is (omega (arith, greatest_small is.entries is.fits.small_numbers)) in
    let w = c.in_ok-width.ensures.only is.spelled.width (is.spelled.packed ++ rest) narrow l.1 in
    let count : length (map (λ (n : ℕ). n - least_of (numbers is.entries)) (numbers is.entries)) ≡ c.in_ok-count.count =
    length-map (numbers is.entries) (λ (n : ℕ). n - least_of (numbers is.entries)) ∙ length-map is.entries (λ (f : Entry). f.number) ∙ sym a.0 in
    let packed_size : length is.spelled.packed ≡ (c.from-2.result * c.from-3.result + 7) / 8 =
    is.spelled.packed_are.size ∙ ap (λ (k : ℕ). (is.spelled.width * k + 7) / 8) (count ∙ sym c.from-3.ensures) ∙ ap (λ (k : ℕ). (k * c.from-3.result + 7) / 8) (sym w.0 ∙ sym c.from-2.ensures) in
    absurd (c.in_err-packed.ensures.only is.spelled.packed rest packed_size w.1)

pub returns-clause-only : goal.returns-clause-only
returns-clause-only c column rest rows is e =
    let parts = column_parts c.args.bytes.now column rest (varint (length is.entries)) (texts_bytes (has_texts c.args.field.now.kind) is.texts) (documents_bytes is.entries) (eight (least_of (numbers is.entries))) is.spelled.packed is.spelled.width e is.spelled.bytes_are in
    let a = number_read c.args.bytes.now (varint (length is.entries)) (texts_bytes (has_texts c.args.field.now.kind) is.texts ++ (documents_bytes is.entries ++ (eight (least_of (numbers is.entries)) ++ (is.spelled.width ∷ (is.spelled.packed ++ rest))))) 0 (length is.entries) c.in_ok-count.count c.in_ok-count.behind_count (length (varint (length is.entries))) refl parts
    (c.in_ok-count.ensures.only (length is.entries) (texts_bytes (has_texts c.args.field.now.kind) is.texts ++ (documents_bytes is.entries ++ (eight (least_of (numbers is.entries)) ++ (is.spelled.width ∷ (is.spelled.packed ++ rest))))) (omega (arith, is.fits.few)) parts) in
    let texts_at = a.1 ∙ ap (λ (k : Bool). texts_bytes k is.texts ++ (documents_bytes is.entries ++ (eight (least_of (numbers is.entries)) ++ (is.spelled.width ∷ (is.spelled.packed ++ rest))))) (sym c.has_texts.ensures) in
    let no_texts : c.has_texts.result ≡ false → is.texts ≡ [] = λ none. is.no_texts (sym c.has_texts.ensures ∙ none) in
    let b = c.in_ok-texts.ensures.only is.texts (documents_bytes is.entries ++ (eight (least_of (numbers is.entries)) ++ (is.spelled.width ∷ (is.spelled.packed ++ rest)))) is.are_texts.utf8 is.few_texts no_texts texts_at in
    let size : length (documents_bytes is.entries) ≡ 4 * c.in_ok-count.count = length-documents is.entries ∙ ap (λ (k : ℕ). 4 * k) (sym a.0) in
    let d = c.in_ok-documents.ensures.only (documents_bytes is.entries) (eight (least_of (numbers is.entries)) ++ (is.spelled.width ∷ (is.spelled.packed ++ rest))) size b.2 in
    let least = least_small is.entries is.fits.small_numbers in
    let l = number_read c.args.bytes.now (eight (least_of (numbers is.entries))) (is.spelled.width ∷ (is.spelled.packed ++ rest)) c.in_ok-documents.behind_documents (least_of (numbers is.entries)) c.in_ok-least.least c.in_ok-least.behind_least 8 refl d.1
    (c.in_ok-least.ensures.only (least_of (numbers is.entries)) (is.spelled.width ∷ (is.spelled.packed ++ rest)) least d.1) in
    let narrow = width_within (greatest_of (numbers is.entries) - least_of (numbers is.entries)) is.spelled.width is.spelled.width_is (omega (arith, greatest_small is.entries is.fits.small_numbers)) in
    let w = c.in_ok-width.ensures.only is.spelled.width (is.spelled.packed ++ rest) narrow l.1 in
    let count : length (map (λ (n : ℕ). n - least_of (numbers is.entries)) (numbers is.entries)) ≡ c.in_ok-count.count =
    length-map (numbers is.entries) (λ (n : ℕ). n - least_of (numbers is.entries)) ∙ length-map is.entries (λ (f : Entry). f.number) ∙ sym a.0 in
    let packed_size : length is.spelled.packed ≡ (c.from-2.result * c.from-3.result + 7) / 8 =
    is.spelled.packed_are.size ∙ ap (λ (k : ℕ). (is.spelled.width * k + 7) / 8) (count ∙ sym c.from-3.ensures) ∙ ap (λ (k : ℕ). (k * c.from-3.result + 7) / 8) (sym w.0 ∙ sym c.from-2.ensures) in
    let p = c.in_ok-packed.ensures.only is.spelled.packed rest packed_size w.1 in (
      record {
        texts = is.texts;
        entries = is.entries;
        are_texts = is.are_texts;
        are_entries = is.are_entries;
        holds = record {
          fits = is.fits;
          utf8 = is.are_texts.utf8;
          count_is = a.0;
          text_count_is = b.1;
          texts_are = b.0;
          documents_are = d.0;
          least_is = l.0;
          width_is = subst (λ (k : ℕ). IsWidth (greatest_of (numbers is.entries) - least_of (numbers is.entries)) k) (sym w.0) is.spelled.width_is;
          packed_are = subst (λ (k : ℕ). IsPacked k (map (λ (n : ℕ). n - least_of (numbers is.entries)) (numbers is.entries)) c.in_ok-packed.packed.now) (sym w.0)
              (subst (λ (q : List ℕ). IsPacked is.spelled.width (map (λ (n : ℕ). n - least_of (numbers is.entries)) (numbers is.entries)) q) (sym p.0) is.spelled.packed_are);
        };
      },
      end_of c.args.bytes.now column rest c.in_ok-packed.end e c.in_ok-packed.ensures.within.0 p.1,
    )
