-- Where the bytes of a document stand in the section of documents.
use Rattle.std.proofs.Common.{◌≡◌, ℕ, zero, suc, ◌+◌, ◌*◌, ◌≤◌, List, [], ◌∷◌, ◌++◌, length, take, drop, Option, Some, refl, sym, ap, subst, ◌∙◌, arith, append_assoc, length-append}
use Rattle.std.specs.List.{flat_map, slice_get}
use Rattle.byte_fields.specs.Spelling.{eight}
use Rattle.split_bundle.specs.declared.placed.Placed.{Placed}
use Rattle.split_bundle.specs.Documents.{placed_bytes, each_in_bytes, joined, starts, section_of}
use Rattle.split_bundle.proofs.Infos.{piece_behind}

-- a document among the others: its start and the next one among the starts, and its bytes among theirs
pub record StandsAmong (at : ℕ) (ds : List (List ℕ)) (number : ℕ) (d : List ℕ) : Type 0 where
  pub front : List ℕ
  pub behind : List ℕ
  pub documents : joined ds ≡ joined (take number ds) ++ (d ++ behind)
  pub start : ℕ
  pub start_is : start ≡ at + length (joined (take number ds))
  pub others : List ℕ
  pub starts_are : flat_map eight (starts at ds) ≡ front ++ ((eight start ++ eight (start + length d)) ++ others)
  pub front_long : length front ≡ 8 * number

abbrev some : List ℕ → Option (List ℕ)
some l = Some l

-- the first of some starts
first_start : (at : ℕ) (ds : List (List ℕ)) → (others : List ℕ) × (flat_map eight (starts at ds) ≡ eight at ++ others)
first_start at [] = ([], refl)
first_start at (d ∷ ds) = (flat_map eight (starts (at + length d) ds), refl)

pub some_is : {X : Type 0} (x y : X) → ◌≡◌ {A = Option X} (Some x) (Some y) → x ≡ y
some_is x y e = cc

pub stands_among : (ds : List (List ℕ)) (at number : ℕ) (d : List ℕ) → slice_get ds number ≡ Some d → StandsAmong at ds number d
stands_among [] at number d here = absurd cc
stands_among (e ∷ ds) at zero d here =
    let same : e ≡ d = some_is e d here in
    let next = first_start (at + length e) ds in
    subst (λ (x : List ℕ). StandsAmong at (e ∷ ds) 0 x) same (record {
      front = [];
      behind = joined ds;
      documents = refl;
      start = at;
      start_is = omega arith;
      others = next.0;
      starts_are = ap (λ (l : List ℕ). eight at ++ l) next.1 ∙ sym (append_assoc (eight at) (eight (at + length e)) next.0);
      front_long = refl;
    })
stands_among (e ∷ ds) at (suc k) d here =
    let more = stands_among ds (at + length e) k d here in
    record {
      front = eight at ++ more.front;
      behind = more.behind;
      documents = ap (λ (l : List ℕ). e ++ l) more.documents ∙ sym (append_assoc e (joined (take k ds)) (d ++ more.behind));
      start = more.start;
      start_is = omega (arith, more.start_is, length-append e (joined (take k ds)));
      others = more.others;
      starts_are = ap (λ (l : List ℕ). eight at ++ l) more.starts_are ∙ sym (append_assoc (eight at) more.front ((eight more.start ++ eight (more.start + length d)) ++ more.others));
      front_long = omega (arith, more.front_long, length-append (eight at) more.front);
    }

-- so many starts
pub length-starts : (at : ℕ) (ds : List (List ℕ)) → length (flat_map eight (starts at ds)) ≡ 8 * (length ds + 1)
length-starts at [] = refl
length-starts at (d ∷ ds) = omega (arith, length-starts (at + length d) ds, length-append (eight at) (flat_map eight (starts (at + length d) ds)))

pub length-each : (partitions : List (List ℕ)) (documents : List Placed) → length (each_in_bytes partitions documents) ≡ length documents
length-each partitions [] = refl
length-each partitions (p ∷ ps) = omega (arith, length-each partitions ps)

pub each_at : (partitions : List (List ℕ)) (documents : List Placed) (number : ℕ) (d : Placed) → slice_get documents number ≡ Some d → slice_get (each_in_bytes partitions documents) number ≡ Some (placed_bytes partitions d)
each_at partitions [] number d here = absurd cc
each_at partitions (p ∷ ps) zero d here =
    let same : p ≡ d = some_is p d here in
    ap (λ (x : Placed). some (placed_bytes partitions x)) same
each_at partitions (p ∷ ps) (suc k) d here = each_at partitions ps k d here

-- the start of a document and the next one, and its bytes, in the section
pub record StandsIn (section : List ℕ) (starts_at start at : ℕ) (d : List ℕ) : Type 0 where
  pub starts_within : starts_at + 16 ≤ length section
  pub starts_are : take 16 (drop starts_at section) ≡ eight start ++ eight (start + length d)
  pub within : at + length d ≤ length section
  pub bytes_are : take (length d) (drop at section) ≡ d

pub stands_in_section : (ds : List (List ℕ)) (number : ℕ) (d : List ℕ) → slice_get ds number ≡ Some d
    → StandsIn (section_of ds) (8 * number) (length (joined (take number ds))) (8 * (length ds + 1) + length (joined (take number ds))) d
stands_in_section ds number d here =
    let among = stands_among ds 0 number d here in
    let table : List ℕ = flat_map eight (starts 0 ds) in
    let pair : List ℕ = eight among.start ++ eight (among.start + length d) in
    let long : length pair ≡ 16 = length-append (eight among.start) (eight (among.start + length d)) in
    let start_is : among.start ≡ length (joined (take number ds)) = omega (arith, among.start_is) in
    let a = piece_behind (section_of ds) among.front pair (among.others ++ joined ds) (8 * number)
    (ap (λ (l : List ℕ). l ++ joined ds) among.starts_are ∙ append_assoc among.front (pair ++ among.others) (joined ds) ∙ ap (λ (l : List ℕ). among.front ++ l) (append_assoc pair among.others (joined ds))) (sym among.front_long) in
    let b = piece_behind (section_of ds) (table ++ joined (take number ds)) d among.behind (8 * (length ds + 1) + length (joined (take number ds)))
    (ap (λ (l : List ℕ). table ++ l) among.documents ∙ sym (append_assoc table (joined (take number ds)) (d ++ among.behind)))
    (omega (arith, length-starts 0 ds, length-append table (joined (take number ds)))) in
    record {
      starts_within = omega (arith, a.0, long);
      starts_are = subst (λ (n : ℕ). take 16 (drop (8 * number) (section_of ds)) ≡ eight n ++ eight (n + length d)) start_is
          (ap (λ (n : ℕ). take n (drop (8 * number) (section_of ds))) (sym long) ∙ a.1);
      within = b.0;
      bytes_are = b.1;
    }
