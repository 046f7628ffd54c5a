use Rattle.std.proofs.Common.{◌≡◌, ℕ, ◌+◌, ◌-◌, ◌*◌, ◌^◌, min, sym, subst, ap, ◌∙◌, arith}
use Rattle.split_bundle.specs.Pieces.{section_part}
use Rattle.split_bundle.specs.declared.pieces.Section.TheVariants.{Documents}
use Rattle.split_bundle.proofs.DocsLent.{got_bytes, doc_part_is}
use Rattle.split_bundle.proofs.documents.doc_part.Goals as goal

pub returns-in-Ok : goal.returns-in-Ok
returns-in-Ok c =
    let starts = subst (λ (n : ℕ). section_part Documents c.args.layout.now.sections c.args.pieces.now (8 * n) 16 ≡ got_bytes c.in_ok-starts.starts.now) c.from-entry.ensures c.in_ok-starts.ensures.exact in
    let from = c.saturating_add-from.ensures ∙ ap (λ (n : ℕ). min (n + c.in-Ok.start) (2 ^ 64 - 1)) c.starts_size-area.ensures.exact in
    rw (doc_part_is c.args.layout.now c.args.pieces.now c.args.number c.in_ok-starts.starts.now c.in-Ok.start c.in-Ok.end c.saturating_add-from.result starts (sym c.in-Ok.ensures.exact) from (omega (arith, c.requires)))
    c.section_part-in-Ok.ensures.exact
