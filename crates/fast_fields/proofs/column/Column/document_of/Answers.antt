use Rattle.std.proofs.Common.{◌≡◌, ◌*◌, ◌+◌, ◌-◌, ◌∙◌, ℕ, List, ap, drop, take, refl, ◌<◌, ◌^◌, arith}
use Rattle.std.specs.Int.{w32, from_le_bytes}
use Rattle.std.proofs.lemmas.Nat.{from_le_bytes-to_le_bytes_4}
use Rattle.std.proofs.lemmas.List.{take_at}
use Rattle.byte_fields.specs.Spelling.{four}
use Rattle.fast_fields.specs.Columns.{documents_bytes}
use Rattle.fast_fields.specs.declared.entries.Entry.{Entry}
use Rattle.fast_fields.proofs.Places.{all_at, document_there}
use Rattle.fast_fields.specs.Lookups.{document_of}
use Rattle.fast_fields.proofs.column.Column.document_of.Goals as goal

pub returns-clause-only : goal.returns-clause-only
returns-clause-only c texts es e h is =
    let here = ap (λ (l : List ℕ). drop (4 * c.args.place) l) h.documents_are ∙ document_there es c.args.place e is in
    let small = all_at (λ (f : Entry). f.document < 2 ^ 32) es c.args.place e h.fits.small_documents is in
    let size : 4 * c.args.place + 4 - 4 * c.args.place ≡ 4 = omega arith in
    let front : take 4 (drop (4 * c.args.place) c.args.self.now.documents.now) ≡ four e.document =
    ap (λ (l : List ℕ). take 4 l) here ∙ take_at (four e.document) (documents_bytes (drop (c.args.place + 1) es)) 4 refl in
    c.from_le_bytes.ensures ∙ ap (λ (n : ℕ). from_le_bytes w32 (take n (drop (4 * c.args.place) c.args.self.now.documents.now))) size ∙ ap (λ (l : List ℕ). from_le_bytes w32 l) front
    ∙ from_le_bytes-to_le_bytes_4 e.document small

pub returns-clause-exact : goal.returns-clause-exact
unfolding document_of
returns-clause-exact c =
    let size : 4 * c.args.place + 4 - 4 * c.args.place ≡ 4 = omega arith in
    c.from_le_bytes.ensures ∙ ap (λ (n : ℕ). from_le_bytes w32 (take n (drop (4 * c.args.place) c.args.self.now.documents.now))) size
