use Rattle.std.proofs.Common.{◌≡◌, ◌∙◌, ◌++◌, Bool, ℕ, List, ap, sym, subst, length, arith}
use Rattle.std.specs.Borrow.{Bor}
use Rattle.std.proofs.lemmas.List.{length-map}
use Rattle.fast_fields.specs.declared.rows.ColumnRow.{ColumnRow}
use Rattle.fast_fields.specs.declared.entries.Entry.{Entry}
use Rattle.fast_fields.specs.Columns.{cells, has_texts, AreTexts, AreEntries, IsSpelled}
use Rattle.fast_fields.specs.Texts.{texts_in}
use Rattle.fast_fields.proofs.Packs.{none_used}
use Rattle.fast_fields.proofs.encode.encode_column.Goals as goal

pub returns : goal.returns
returns c =
    let rows = c.as_slice-rows.ensures in
    let loans = c.in_ok-texts.texts.items in
    let texts = subst (λ (r : List ColumnRow). AreTexts (cells r) (texts_in c.in_ok-texts.texts.items)) rows c.in_ok-texts.ensures.texts in
    let entries = subst (λ (l : List (Bor (List ℕ))). AreEntries (texts_in l) (cells c.args.values.now) c.in_ok-entries.entries.items) c.deref.ensures.value
    (subst (λ (r : List ColumnRow). AreEntries (texts_in c.deref.result.now) (cells r) c.in_ok-entries.entries.items) rows c.in_ok-entries.ensures.0) in
    let count : length (texts_in c.in_ok-texts.texts.items) ≡ length c.in_ok-texts.texts.items = length-map c.in_ok-texts.texts.items (λ (b : Bor (List ℕ)). b.now) in
    record {
      texts = texts_in c.in_ok-texts.texts.items;
      entries = c.in_ok-entries.entries.items;
      are_texts = texts;
      few_texts = omega (arith, count, c.deref.ensures.len, ap (λ (l : List (Bor (List ℕ))). length l) c.deref.ensures.value);
      no_texts = none_used c.args.field.now.kind (cells c.args.values.now) (texts_in c.in_ok-texts.texts.items) c.requires.of_kind texts;
      are_entries = entries;
      fits = c.in_ok-entries.ensures.1;
      spelled =
          subst (λ (l : List ℕ). IsSpelled (has_texts c.args.field.now.kind) (texts_in c.in_ok-texts.texts.items) c.in_ok-entries.entries.items l)
          (sym (c.from_vec.ensures ∙ c.in_ok-put_parts.ensures.1 ∙ ap (λ (l : List ℕ). l ++ c.in_ok-put_parts.ensures.0) c.new-bytes.ensures.items))
          (subst (λ (k : Bool). IsSpelled k (texts_in c.in_ok-texts.texts.items) c.in_ok-entries.entries.items c.in_ok-put_parts.ensures.0) c.has_texts.ensures
          (subst (λ (e : List Entry). IsSpelled c.has_texts.result (texts_in c.in_ok-texts.texts.items) e c.in_ok-put_parts.ensures.0) c.deref-3.ensures.value
          (subst (λ (l : List (Bor (List ℕ))). IsSpelled c.has_texts.result (texts_in l) c.deref-3.result.now c.in_ok-put_parts.ensures.0) c.deref-2.ensures.value c.in_ok-put_parts.ensures.2)));
    }
