use Rattle.std.proofs.Common.{◌≡◌, ◌∙◌, length, ap, arith}
use Rattle.split_bundle.specs.declared.footer.Footer.{Footer}
use Rattle.split_bundle.specs.declared.layout.Sections.{Sections}
use Rattle.leaf_search.proofs.ColumnParts.{columns_start_is, ends_before, has_fast}
use Rattle.leaf_search.proofs.column_ranges.column_end.Goals as goal

pub returns-then-next-len : goal.returns-then-next-len
returns-then-next-len c = λ documents p part fast.
    let s = c.args.schema.now in
    let v = c.args.bare.now in
    let n = c.args.number in
    let next = c.next_fast-next.result in
    let next_is_fast = c.next_fast-next.ensures.fast (omega (arith, c.if-next-len.true, c.len.ensures)) in
    let there = has_fast s next next_is_fast in
    let ends = ends_before s documents p n next part.is_split (has_fast s n fast) c.next_fast-next.ensures.behind c.next_fast-next.ensures.between in
    let start = c.column_start.ensures documents p part next_is_fast in
    omega (arith, start, ends.to_next there.field there.here there.fast)

pub returns : goal.returns
returns c = λ documents p part fast.
    let s = c.args.schema.now in
    let v = c.args.bare.now in
    let n = c.args.number in
    let next = c.next_fast-next.result in
    let ends = ends_before s documents p n next part.is_split (has_fast s n fast) c.next_fast-next.ensures.behind c.next_fast-next.ensures.between in
    let last = ends.to_end (omega (arith, c.if-next-len.false, c.len.ensures)) in
    let sections = c.sections-sections.ensures ∙ ap (λ (g : Footer). g.layout.sections) c.footer.ensures in
    let documents_are = ap (λ (l : Sections). l.documents) sections in
    let dictionary_is = ap (λ (l : Sections). l.dictionary) sections in
    let postings_are = ap (λ (l : Sections). l.postings) sections in
    let positions_are = ap (λ (l : Sections). l.positions) sections in
    let columns_are = ap (λ (l : Sections). l.columns) sections in
    let columns_long : v.footer.layout.sections.columns ≡ length p.columns = ap (λ (l : Sections). l.columns) part.footer.layout.sections in
    let whole = columns_start_is v s documents p part in
    omega (arith, last, documents_are, dictionary_is, postings_are, positions_are, columns_are, columns_long, whole, part.is_split.size, c.saturating_add.ensures, c.saturating_add-2.ensures, c.saturating_add-3.ensures, c.saturating_add-4.ensures, c.saturating_add-5.ensures)
