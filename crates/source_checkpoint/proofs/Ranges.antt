-- When two partitions or two ranges are one.
use Rattle.std.proofs.Common.{◌≡◌, ℕ, ◌==◌, ◌&&◌, true, List, bytes_eq, refl, eqb-true, eq-eqb}
use Rattle.std.proofs.lemmas.Slice.Eq.{bytes_eq-Decides}
use Rattle.std.proofs.lemmas.Bool.{and_parts, and_from}
use Rattle.source_checkpoint.specs.Deltas.{Part, same_range}

pub same_partition : (a b : List ℕ) → bytes_eq a b ≡ true → a ≡ b
same_partition a b h = (bytes_eq-Decides a b).0 h

pub partition_itself : (a b : List ℕ) → a ≡ b → bytes_eq a b ≡ true
partition_itself a b h = (bytes_eq-Decides a b).1 h

pub same_range-true : (a b : Part) → same_range a b ≡ true → a ≡ b
same_range-true a b h =
    let ends = and_parts (bytes_eq a.partition b.partition && (a.from == b.from)) (a.to == b.to) h in
    let starts = and_parts (bytes_eq a.partition b.partition) (a.from == b.from) ends.0 in
    let names : a.partition ≡ b.partition = same_partition a.partition b.partition starts.0 in
    let froms : a.from ≡ b.from = eqb-true a.from b.from starts.1 in
    let tos : a.to ≡ b.to = eqb-true a.to b.to ends.1 in
    λ i. record { partition = names i; from = froms i; to = tos i }

pub range_itself : (a : Part) → same_range a a ≡ true
range_itself a =
    and_from (bytes_eq a.partition a.partition && (a.from == a.from)) (a.to == a.to)
    (and_from (bytes_eq a.partition a.partition) (a.from == a.from) (partition_itself a.partition a.partition refl) (eq-eqb a.from a.from refl))
    (eq-eqb a.to a.to refl)
