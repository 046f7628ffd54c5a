-- Reading a file of partitions piece by piece.
use Rattle.std.proofs.Common.{◌≡◌, ℕ, ◌+◌, ◌-◌, ◌<◌, ◌≤◌, ◌^◌, Bool, true, false, List, [], ◌∷◌, ◌++◌, length, take, drop, Option, Some, None, refl, sym, ap, subst, ◌∙◌, arith, lit<, length-append, length-take, length-drop}
use Rattle.std.specs.Prelude.{min, IfSome, bytes_eq, if◌then◌else◌}
use Rattle.std.specs.List.{AllByRecursion}
use Rattle.std.proofs.lemmas.List.{take_all, take-append-drop, take_min}
use Rattle.std.proofs.Math.Seq.{take-add}
use Rattle.real_edge.specs.declared.log_lines.Mark.{Mark}
use Rattle.real_edge.specs.declared.log_lines.Reading.{Reading}
use Rattle.real_edge.specs.Growing.{Grown, AreGrown, IsGoodFile, bytes_of}
use Rattle.real_edge.specs.Lines.{IsMark, IsReadTo, HasFilled}
use Rattle.real_edge.proofs.Lines.{Takes, filled-append}

-- no file has 2^63 bytes
good_size : (files : List Grown) (name : List ℕ) → AllByRecursion IsGoodFile files → length (bytes_of files name) < 2 ^ 63
good_size [] name good = lit< tt
good_size (file ∷ files) name good = by (good_size files name good.1) (bytes_eq file.name name) refl
  where
    by : length (bytes_of files name) < 2 ^ 63 → (t : Bool) → bytes_eq file.name name ≡ t → length (if bytes_eq file.name name then file.bytes else bytes_of files name) < 2 ^ 63
    by later true e = subst (λ (t : Bool). length (if t then file.bytes else bytes_of files name) < 2 ^ 63) (sym e) good.0.1
    by later false e = subst (λ (t : Bool). length (if t then file.bytes else bytes_of files name) < 2 ^ 63) (sym e) later

pub grown-size : (files : List Grown) (name : List ℕ) → AreGrown files → length (bytes_of files name) < 2 ^ 63
grown-size files name a = good_size files name a.good

-- what stands before the next byte was read
pub record IsReading (from most : ℕ) (bytes : List ℕ) (reading : Reading) : Type 0 where
  pub front : IsReadTo from most (take reading.next bytes) reading
  pub within : reading.next ≤ length bytes

-- the files are as they were, and so much of one was read
pub record IsAt (told told' : Option (List Grown)) (from most : ℕ) (name : List ℕ) (reading : Reading) : Type 0 where
  pub same : told' ≡ told
  pub few : length reading.list ≤ most
  pub reads : IfSome told (λ files. IsReading from most (bytes_of files name) reading)

pub reading-begins : (from most : ℕ) (bytes : List ℕ) (start : Mark) (r : Reading) → IsMark bytes start → IsReadTo from most (take start.byte bytes) r → IsReading from most bytes r
reading-begins from most bytes start r m i =
    let within : start.byte ≤ length bytes = m.within in
    let at : r.next ≡ start.byte = i.next ∙ length-take start.byte bytes ∙ omega arith in
    record {
      front = subst (λ (n : ℕ). IsReadTo from most (take n bytes) r) (sym at) i;
      within = omega (arith, at, within);
    }

-- a piece from a place on ends where it ends
piece_is : (bytes piece : List ℕ) (n len : ℕ) → n ≤ length bytes → piece ≡ take len (drop n bytes) → (take n bytes ++ piece ≡ take (n + length piece) bytes) × (n + length piece ≤ length bytes)
piece_is bytes piece n len within is =
    let size : length piece ≡ min len (length (drop n bytes)) = ap length is ∙ length-take len (drop n bytes) in
    let left = length-drop n bytes in (
      sym (take-add n (length piece) bytes
          ∙ ap (λ (k : ℕ). take n bytes ++ take k (drop n bytes)) size
          ∙ ap (λ (l : List ℕ). take n bytes ++ l) (take_min len (drop n bytes) ∙ sym is)),
      omega (arith, size, left, within),
    )

piece_fits : (bytes piece : List ℕ) (n len : ℕ) → n ≤ length bytes → length bytes < 2 ^ 63 → piece ≡ take len (drop n bytes) → length (take n bytes ++ piece) < 2 ^ 63
piece_fits bytes piece n len within small is =
    let p = piece_is bytes piece n len within is in
    let size = ap length p.0 ∙ length-take (n + length piece) bytes in
    let end : n + length piece ≤ length bytes = p.1 in
    omega (arith, size, end, small)

pub reading-goes : (from most : ℕ) (bytes piece : List ℕ) (len : ℕ) (old new : Reading) → length bytes < 2 ^ 63 → piece ≡ take len (drop old.next bytes) → IsReading from most bytes old → Takes from most piece old new → IsReading from most bytes new
reading-goes from most bytes piece len old new small is i takes =
    let within : old.next ≤ length bytes = i.within in
    let p = piece_is bytes piece old.next len within is in
    let r : IsReadTo from most (take (old.next + length piece) bytes) new =
    subst (λ (l : List ℕ). IsReadTo from most l new) p.0 (takes (take old.next bytes) (piece_fits bytes piece old.next len within small is) i.front) in
    let end : old.next + length piece ≤ length bytes = p.1 in
    let at : new.next ≡ old.next + length piece = r.next ∙ length-take (old.next + length piece) bytes ∙ omega (arith, end) in
    record {
      front = subst (λ (n : ℕ). IsReadTo from most (take n bytes) new) (sym at) r;
      within = omega (arith, at, end);
    }

pub reading-full : (from most : ℕ) (bytes piece : List ℕ) (len : ℕ) (old new : Reading) → length bytes < 2 ^ 63 → piece ≡ take len (drop old.next bytes) → IsReading from most bytes old →
    ((front : List ℕ) → length (front ++ piece) < 2 ^ 63 → IsReadTo from most front old → HasFilled from most (front ++ piece) new) → HasFilled from most bytes new
reading-full from most bytes piece len old new small is i fills =
    let within : old.next ≤ length bytes = i.within in
    let p = piece_is bytes piece old.next len within is in
    let f : HasFilled from most (take (old.next + length piece) bytes) new =
    subst (λ (l : List ℕ). HasFilled from most l new) p.0 (fills (take old.next bytes) (piece_fits bytes piece old.next len within small is) i.front) in
    subst (λ (l : List ℕ). HasFilled from most l new) (take-append-drop (old.next + length piece) bytes)
    (filled-append from most (take (old.next + length piece) bytes) (drop (old.next + length piece) bytes) new f)

pub reading-ends : (from most : ℕ) (bytes : List ℕ) (r : Reading) → IsReading from most bytes r → length bytes ≤ r.next → IsReadTo from most bytes r
reading-ends from most bytes r i end = subst (λ (l : List ℕ). IsReadTo from most l r) (take_all r.next bytes end) i.front

-- ---- where files are told

pub some_by : {X : Type 0} (P Q : X → Type 0) (o : Option X) → ((x : X) → P x → Q x) → IfSome o P → IfSome o Q
some_by P Q None by h = tt
some_by P Q (Some x) by h = by x h

pub some_and : {X : Type 0} (P Q : X → Type 0) (o : Option X) → IfSome o P → IfSome o Q → IfSome o (λ x. P x × Q x)
some_and P Q None h k = tt
some_and P Q (Some x) h k = (h, k)
