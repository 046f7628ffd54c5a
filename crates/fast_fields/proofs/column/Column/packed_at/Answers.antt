use Rattle.std.proofs.Common.{◌≡◌, ◌<◌, ◌-◌, ◌*◌, ◌^◌, ◌∙◌, ℕ, length, map, get_or, ap, arith}
use Rattle.std.proofs.lemmas.List.{length-map}
use Rattle.fast_fields.specs.Columns.{numbers, least_of}
use Rattle.fast_fields.specs.Lookups.{bits_at}
use Rattle.fast_fields.specs.declared.entries.Entry.{Entry}
use Rattle.fast_fields.proofs.Bits.{number_there, bits_within}
use Rattle.fast_fields.proofs.Places.{less_at, greatest_ge}
use Rattle.fast_fields.proofs.column.Column.packed_at.Goals as goal

pub bits_from-requires-clause-within : goal.bits_from-requires-clause-within
bits_from-requires-clause-within c =
    let w = c.args.self.now.width in
    let start : c.from.result * c.from-2.result ≡ c.args.self.now.width * c.args.place = ap (λ (n : ℕ). n * c.from-2.result) c.from.ensures ∙ ap (λ (n : ℕ). c.args.self.now.width * n) c.from-2.ensures in
    let within = bits_within c.args.self.now.width c.args.place c.args.self.now.count (length c.args.self.now.packed.now) c.requires c.args.self.now.packed_size in
    omega (arith, start, within)

pub returns-clause-only : goal.returns-clause-only
returns-clause-only c texts es e h is =
    let w = c.args.self.now.width in
    let ns = map (λ (n : ℕ). n - least_of (numbers es)) (numbers es) in
    let start : c.from.result * c.from-2.result ≡ c.args.self.now.width * c.args.place = ap (λ (n : ℕ). n * c.from-2.result) c.from.ensures ∙ ap (λ (n : ℕ). c.args.self.now.width * n) c.from-2.ensures in
    let count : length (map (λ (n : ℕ). n - least_of (numbers es)) (numbers es)) ≡ length es = length-map (numbers es) (λ (n : ℕ). n - least_of (numbers es)) ∙ length-map es (λ (f : Entry). f.number) in
    let here = less_at (least_of (numbers es)) es c.args.place e is in
    let small : get_or (map (λ (n : ℕ). n - least_of (numbers es)) (numbers es)) c.args.place 0 < 2 ^ c.args.self.now.width = omega (arith, here, h.width_is.within, greatest_ge es c.args.place e is) in
    c.bits_from.ensures ∙ ap (λ (n : ℕ). bits_at c.args.self.now.width c.args.self.now.packed.now n) start
    ∙ number_there c.args.self.now.width (map (λ (n : ℕ). n - least_of (numbers es)) (numbers es)) c.args.self.now.packed.now c.args.place h.packed_are (omega (arith, count, h.count_is)) small
    ∙ here

pub returns-clause-exact : goal.returns-clause-exact
returns-clause-exact c =
    let start : c.from.result * c.from-2.result ≡ c.args.self.now.width * c.args.place = ap (λ (n : ℕ). n * c.from-2.result) c.from.ensures ∙ ap (λ (n : ℕ). c.args.self.now.width * n) c.from-2.ensures in
    c.bits_from.ensures ∙ ap (λ (n : ℕ). bits_at c.args.self.now.width c.args.self.now.packed.now n) start
