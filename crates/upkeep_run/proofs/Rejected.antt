-- How many records of joined ranges are no documents.
use Rattle.std.proofs.Common.{◌≡◌, ℕ, zero, suc, ◌+◌, ◌-◌, ◌≤◌, ◌&&◌, Bool, true, false, cond, List, [], ◌∷◌, ◌++◌, length, filter, take, drop, Option, Some, None, nat_le, nat_lt, min, refl, sym, ap, ◌∙◌, arith}
use Rattle.std.proofs.lemmas.Bool.Decides.{nat_tests}
use Rattle.std.proofs.lemmas.Grind.{flat_map-append}
use Rattle.std.proofs.lemmas.List.{length-append}
use Rattle.doc_value.specs.declared.doc.DocField.{DocField}
use Rattle.index_config.specs.declared.config.IndexConfig.{IndexConfig}
use Rattle.index_world.specs.Accepted.{accepted}
use Rattle.index_world.specs.Seen.{onto, accepted_from, accepted_records, accepted_part, accepted_in, record_count, rejected_in}
use Rattle.index_world.proofs.Slices.{part_of, part_more, part_none}
use Rattle.source_checkpoint.specs.declared.delta.Part.{Part}
use Rattle.source_log.specs.Log.{Log, IsLog, records_of}
use Rattle.split_bundle.specs.Documents.{weight, total_weight}
use Rattle.split_bundle.specs.declared.placed.Placed.{Placed}
use Rattle.std.specs.Prelude.{bytes_eq}

-- ---- a part has no more documents than records

few_onto : (name : List ℕ) (offset n : ℕ) (doc : Option (List DocField)) (more : List Placed) → length more ≤ n → length (onto name offset doc more) ≤ suc n
few_onto name offset n None more le = omega (arith, le)
few_onto name offset n (Some d) more le = omega (arith, le)

few_from : (config : IndexConfig) (name : List ℕ) (offset : ℕ) (records : List (List ℕ)) → length (accepted_from config name offset records) ≤ length records
few_from config name offset [] = omega arith
few_from config name offset (r ∷ records) = few_onto name offset (length records) (accepted config r) (accepted_from config name (suc offset) records) (few_from config name (suc offset) records)

few_taken : (n : ℕ) (xs : List (List ℕ)) → length (take n xs) ≤ n
few_taken zero xs = omega arith
few_taken (suc n) [] = omega arith
few_taken (suc n) (x ∷ xs) = let rest = few_taken n xs in omega (arith, rest)

part_slice : (config : IndexConfig) (log : Log) (name : List ℕ) (from n : ℕ) → IsLog log → accepted_part config log (part_of name from (from + n)) ≡ accepted_from config name from (take n (drop from (records_of log name)))
part_slice config log name from n is =
    part_more config log name from from n is.in_order (omega arith) ∙ ap (λ l. l ++ accepted_from config name from (take n (drop from (records_of log name)))) (part_none config log name from)

filter_none : (p : Placed → Bool) (xs : List Placed) → ((x : Placed) → p x ≡ false) → filter p xs ≡ []
filter_none p [] h = refl
filter_none p (x ∷ xs) h = ap (λ b. cond b (x ∷ filter p xs) (filter p xs)) (h x) ∙ filter_none p xs h

part_back : (config : IndexConfig) (log : Log) (name : List ℕ) (from to : ℕ) → to ≤ from → accepted_part config log (part_of name from to) ≡ []
part_back config log name from to back = filter_none _ (accepted_records config log) (λ x. never (bytes_eq name x.partition) x.offset)
  where
    nowhere : (o : ℕ) → to ≤ from → (nat_le from o && nat_lt o to) ≡ false
    nowhere o b = grind (b, arith, nat_tests)

    never : (b : Bool) (o : ℕ) → (b && (nat_le from o && nat_lt o to)) ≡ false
    never true o = nowhere o back
    never false o = refl

pub part_few : (config : IndexConfig) (log : Log) (part : Part) → IsLog log → length (accepted_part config log part) ≤ part.to - part.from
part_few config log part is = by (nat_le part.from part.to) refl
  where
    by : (b : Bool) → nat_le part.from part.to ≡ b → length (accepted_part config log part) ≤ part.to - part.from
    by true e =
        let le : part.from ≤ part.to = grind (e, arith, nat_tests) in
        let whole : part.from + (part.to - part.from) ≡ part.to = omega (arith, le) in
        let same : accepted_part config log part ≡ accepted_from config part.partition part.from (take (part.to - part.from) (drop part.from (records_of log part.partition))) =
        ap (λ (to : ℕ). accepted_part config log (part_of part.partition part.from to)) (sym whole) ∙ part_slice config log part.partition part.from (part.to - part.from) is in
        let few = few_from config part.partition part.from (take (part.to - part.from) (drop part.from (records_of log part.partition))) in
        let taken = few_taken (part.to - part.from) (drop part.from (records_of log part.partition)) in
        let long : length (accepted_part config log part) ≡ length (accepted_from config part.partition part.from (take (part.to - part.from) (drop part.from (records_of log part.partition)))) = ap length same in
        omega (arith, few, taken, long)
    by false e =
        let back : part.to ≤ part.from = grind (e, arith, nat_tests) in
        let none : length (accepted_part config log part) ≡ 0 = ap length (part_back config log part.partition part.from part.to back) in
        omega (arith, none)

in_few : (config : IndexConfig) (log : Log) (parts : List Part) → IsLog log → length (accepted_in config log parts) ≤ record_count parts
in_few config log [] is = omega arith
in_few config log (part ∷ parts) is =
    let first = part_few config log part is in
    let rest = in_few config log parts is in
    let both : length (accepted_in config log (part ∷ parts)) ≡ length (accepted_part config log part) + length (accepted_in config log parts) = length-append (accepted_part config log part) (accepted_in config log parts) in
    omega (arith, first, rest, both)

count_joined : (a b : List Part) → record_count (a ++ b) ≡ record_count a + record_count b
count_joined [] b = omega arith
count_joined (part ∷ a) b = let rest = count_joined a b in omega (arith, rest)

-- THE RECORDS OF JOINED RANGES that are no documents are those of the one and of the other
pub rejected_joined : (config : IndexConfig) (log : Log) (a b : List Part) → IsLog log → rejected_in config log (a ++ b) ≡ rejected_in config log a + rejected_in config log b
rejected_joined config log a b is =
    let one = in_few config log a is in
    let other = in_few config log b is in
    let count = count_joined a b in
    let both : length (accepted_in config log (a ++ b)) ≡ length (accepted_in config log a) + length (accepted_in config log b) =
    ap length (flat_map-append (accepted_part config log) a b) ∙ length-append (accepted_in config log a) (accepted_in config log b) in
    omega (arith, one, other, count, both)

-- counts that stop at a greatest one
pub least_sum : (a b most : ℕ) → min (min a most + min b most) most ≡ min (a + b) most
least_sum a b most = omega arith

-- ---- what files hold together

pub weights_joined : (a b : List Placed) → total_weight (a ++ b) ≡ total_weight a + total_weight b
weights_joined [] b = omega arith
weights_joined (d ∷ a) b = let rest = weights_joined a b in omega (arith, rest)

pub weights_left : (p : Placed → Bool) (ds : List Placed) → total_weight (filter p ds) ≤ total_weight ds
weights_left p [] = omega arith
weights_left p (d ∷ ds) =
    let rest = weights_left p ds in
    elim (p d) as (λ b. total_weight (cond b (d ∷ filter p ds) (filter p ds)) ≤ weight d + total_weight ds) [ true ↦ omega (arith, rest) | false ↦ omega (arith, rest) ]

pub count_left : (p : Placed → Bool) (ds : List Placed) → length (filter p ds) ≤ length ds
count_left p [] = omega arith
count_left p (d ∷ ds) =
    let rest = count_left p ds in
    elim (p d) as (λ b. length (cond b (d ∷ filter p ds) (filter p ds)) ≤ suc (length ds)) [ true ↦ omega (arith, rest) | false ↦ omega (arith, rest) ]
