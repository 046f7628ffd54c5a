-- Places at which the documents pass one, over a column of some entries.
use Rattle.std.proofs.Common.{◌≡◌, ℕ, ◌+◌, ◌-◌, ◌*◌, ◌^◌, ◌<◌, ◌≤◌, List, [], ◌∷◌, take, drop, Some, refl, ◌∙◌, ap, subst, arith, inl, inr}
use Rattle.std.specs.Prelude.{slice_get}
use Rattle.std.specs.Int.{w32, from_le_bytes}
use Rattle.std.proofs.lemmas.Bool.{cases_lt}
use Rattle.std.proofs.lemmas.Nat.{from_le_bytes-to_le_bytes_4}
use Rattle.std.proofs.lemmas.List.{take_at}
use Rattle.byte_fields.specs.Spelling.{four}
use Rattle.fast_fields.specs.Columns.{documents_bytes}
use Rattle.fast_fields.specs.declared.column.Column.{Column}
use Rattle.fast_fields.specs.declared.entries.Entry.{Entry}
use Rattle.fast_fields.specs.Lookups.{IsBetween, document_of}
use Rattle.fast_fields.specs.Readers.{Holds, count_below}
use Rattle.fast_fields.proofs.Places.{all_at, count_down, count_none, count_one, count_up, count_within, document_there, get_some}

pub document_held : (c : Column) (texts : List (List ℕ)) (es : List Entry) (place : ℕ) (e : Entry) → Holds c texts es → slice_get es place ≡ Some e → document_of c place ≡ e.document
unfolding document_of
document_held c texts es place e h is =
    let here = ap (λ (l : List ℕ). drop (4 * place) l) h.documents_are ∙ document_there es place e is in
    let small = all_at (λ (f : Entry). f.document < 2 ^ 32) es place e h.fits.small_documents is in
    let front : take 4 (drop (4 * place) c.documents.now) ≡ four e.document = ap (λ (l : List ℕ). take 4 l) here ∙ take_at (four e.document) (documents_bytes (drop (place + 1) es)) 4 refl in
    ap (λ (l : List ℕ). from_le_bytes w32 l) front ∙ from_le_bytes-to_le_bytes_4 e.document small

-- all places below one have a document below this one, so as many entries have
up_to : (c : Column) (texts : List (List ℕ)) (es : List Entry) (document place : ℕ) → Holds c texts es → place ≤ c.count → (0 < place → document_of c (place - 1) < document) → place ≤ count_below document es
up_to c texts es document place h within before = elim (cases_lt 0 place) [
  | inl some ↦
      let e = get_some es (place - 1) (omega (arith, h.count_is)) in
      let small : e.0.document < document = subst (λ (n : ℕ). n < document) (document_held c texts es (place - 1) e.0 h e.1) (before some) in
      omega (arith, count_up document es (place - 1) e.0 h.fits.rise e.1 small)
  | inr none ↦ omega arith
]

down_to : (c : Column) (texts : List (List ℕ)) (es : List Entry) (document place : ℕ) → Holds c texts es → (place < c.count → document ≤ document_of c place) → count_below document es ≤ place
down_to c texts es document place h behind = elim (cases_lt place c.count) [
  | inl lt ↦
      let e = get_some es place (omega (arith, h.count_is)) in
      let large : document ≤ e.0.document = subst (λ (n : ℕ). document ≤ n) (document_held c texts es place e.0 h e.1) (behind lt) in
      count_down document es place e.0 h.fits.rise e.1 large
  | inr past ↦ omega (arith, h.count_is, count_within document es)
]

pub between_counts : (c : Column) (texts : List (List ℕ)) (es : List Entry) (document low high : ℕ) → Holds c texts es → IsBetween c document low high → (low ≤ count_below document es) × (count_below document es ≤ high)
between_counts c texts es document low high h b = (up_to c texts es document low h (omega (arith, b.order, b.within)) b.before, down_to c texts es document high h b.behind)
