-- Reading lines.
use Rattle.std.proofs.Common.{◌≡◌, ℕ, zero, suc, ◌+◌, ◌-◌, ◌<◌, ◌≤◌, ◌^◌, Bool, true, false, not, cond, List, [], ◌∷◌, ◌++◌, length, map, take, drop, refl, sym, ap, subst, ◌∙◌, ◌⊎◌, inl, inr, get_or, arith, length-append, length-take, length-drop, append_assoc}
use Rattle.std.specs.Prelude.{◌==◌, ◌↔◌, IsTrue, fold, min}
use Rattle.std.specs.List.{position_or_len, prefix_len}
use Rattle.std.proofs.lemmas.List.{append-nil, take-append-le, drop-append-le, take_all, take_at, take-append-drop, map-append, length-map, drop_all, take_min, drop_more}
use Rattle.std.proofs.lemmas.Bool.{cases_lt, eqb-true}
use Rattle.std.proofs.lemmas.List.Sums.{fold-append, prefix_len_is, prefix_len_stops}
use Rattle.std.proofs.Math.Nat.{min_comm}
use Rattle.std.proofs.Math.Seq.{take-add, take-append-add}
use Rattle.source_log.specs.declared.lists.Records.{Records}
use Rattle.source_log.specs.Log.{IsSliceOf}
use Rattle.real_edge.proofs.Walks.{true_false}
use Rattle.real_edge.specs.declared.log_lines.Mark.{Mark}
use Rattle.real_edge.specs.declared.log_lines.Reading.{Reading}
use Rattle.real_edge.specs.Lines.{Lines, feed, lines_of, longest, records_in, IsMark, IsReadTo, HasFilled}

-- ---- what bytes do to the lines

pub lines-append : (xs ys : List ℕ) → lines_of (xs ++ ys) ≡ fold feed (lines_of xs) ys
lines-append xs ys = fold-append feed (record { ended = []; line = [] }) xs ys

-- a byte that is no line feed
feed_other : (l : Lines) (b : ℕ) → (b == 10) ≡ false → feed l b ≡ record { ended = l.ended; line = l.line ++ b ∷ [] }
feed_other l b e = ap (λ (t : Bool). cond t (record { ended = l.ended ++ l.line ∷ []; line = [] }) (record { ended = l.ended; line = l.line ++ b ∷ [] })) e

one-add : (n : ℕ) → 1 + n ≡ suc n
one-add n = omega arith

not_not : (t : Bool) → not t ≡ false → t ≡ true
not_not true e = refl
not_not false e = absurd (true_false e)

not_feed : (b : ℕ) (n m : ℕ) → cond (not (b == 10)) (1 + n) 0 ≡ suc m → ((b == 10) ≡ false) × (n ≡ m)
not_feed b n m h = by (b == 10) refl
  where
    by : (t : Bool) → (b == 10) ≡ t → ((b == 10) ≡ false) × (n ≡ m)
    by true e = absurd (let z : 0 ≡ suc m = sym (ap (λ (t : Bool). cond (not t) (1 + n) 0) e) ∙ h in omega arith)
    by false e = (e, (let s : 1 + n ≡ suc m = sym (ap (λ (t : Bool). cond (not t) (1 + n) 0) e) ∙ h in omega arith))

-- bytes among which is no line feed go to the line
pub feed-none : (l : Lines) (xs : List ℕ) → position_or_len (λ b. b == 10) xs ≡ length xs → fold feed l xs ≡ record { ended = l.ended; line = l.line ++ xs }
feed-none l [] e = ap (λ (line : List ℕ). record { ended = l.ended; line = line }) (sym (append-nil l.line))
feed-none l (x ∷ xs) e =
    let s = not_feed x (position_or_len (λ b. b == 10) xs) (length xs) e in
    ap (λ (m : Lines). fold feed m xs) (feed_other l x s.0)
    ∙ feed-none (record { ended = l.ended; line = l.line ++ x ∷ [] }) xs s.1
    ∙ ap (λ (line : List ℕ). record { ended = l.ended; line = line }) (append_assoc l.line (x ∷ []) xs)

-- lines that ended stay
pub feed-grows : (l : Lines) (xs : List ℕ) → (more : List (List ℕ)) × ((fold feed l xs).ended ≡ l.ended ++ more)
feed-grows l [] = ([], sym (append-nil l.ended))
feed-grows l (x ∷ xs) = by (λ m. feed-grows m xs) (x == 10) refl
  where
    by : ((m : Lines) → (more : List (List ℕ)) × ((fold feed m xs).ended ≡ m.ended ++ more)) → (t : Bool) → (x == 10) ≡ t → (more : List (List ℕ)) × ((fold feed (feed l x) xs).ended ≡ l.ended ++ more)
    by later true e =
        let m : Lines = record { ended = l.ended ++ l.line ∷ []; line = [] } in
        let r = later m in (
          l.line ∷ r.0,
          ap (λ (t : Bool). (fold feed (cond t m (record { ended = l.ended; line = l.line ++ x ∷ [] })) xs).ended) e ∙ r.1 ∙ append_assoc l.ended (l.line ∷ []) r.0,
        )
    by later false e =
        let m : Lines = record { ended = l.ended; line = l.line ++ x ∷ [] } in
        let r = later m in
        (r.0, ap (λ (t : Bool). (fold feed (cond t (record { ended = l.ended ++ l.line ∷ []; line = [] }) m) xs).ended) e ∙ r.1)

pub ended-append : (xs ys : List ℕ) → (more : List (List ℕ)) × ((lines_of (xs ++ ys)).ended ≡ (lines_of xs).ended ++ more)
ended-append xs ys = let r = feed-grows (lines_of xs) ys in (r.0, ap (λ (l : Lines). l.ended) (lines-append xs ys) ∙ r.1)

pub records-append : (xs ys : List ℕ) → (more : List (List ℕ)) × (records_in (xs ++ ys) ≡ records_in xs ++ more)
records-append xs ys =
    let r = ended-append xs ys in
    (map (take longest) r.0, ap (map (take longest)) r.1 ∙ map-append (take longest) (lines_of xs).ended r.0)

-- there are no more lines than bytes
feed-count : (l : Lines) (xs : List ℕ) → length (fold feed l xs).ended ≤ length l.ended + length xs
feed-count l [] = omega arith
feed-count l (x ∷ xs) = by (λ m. feed-count m xs) (x == 10) refl
  where
    by : ((m : Lines) → length (fold feed m xs).ended ≤ length m.ended + length xs) → (t : Bool) → (x == 10) ≡ t → length (fold feed (feed l x) xs).ended ≤ length l.ended + suc (length xs)
    by later true e =
        let m : Lines = record { ended = l.ended ++ l.line ∷ []; line = [] } in
        let is = ap (λ (t : Bool). length (fold feed (cond t m (record { ended = l.ended; line = l.line ++ x ∷ [] })) xs).ended) e in
        let h = later m in
        let n = length-append l.ended (l.line ∷ []) in
        omega (arith, is, h, n)
    by later false e =
        let m : Lines = record { ended = l.ended; line = l.line ++ x ∷ [] } in
        let is = ap (λ (t : Bool). length (fold feed (cond t (record { ended = l.ended ++ l.line ∷ []; line = [] }) m) xs).ended) e in
        let h = later m in
        omega (arith, is, h)

pub count-ended : (xs : List ℕ) → length (lines_of xs).ended ≤ length xs
count-ended xs = let h = feed-count (record { ended = []; line = [] }) xs in omega (arith, h)

pub count-records : (xs : List ℕ) → length (records_in xs) ≤ length xs
count-records xs =
    let h = count-ended xs in
    let n = length-map (lines_of xs).ended (take longest) in
    omega (arith, h, n)

none-of : (n : ℕ) → take {A = ℕ} n [] ≡ []
none-of zero = refl
none-of (suc n) = refl

-- so many bytes of a line are kept, whether they come at once or in pieces
pub kept-append : (most : ℕ) (whole piece : List ℕ) → take most whole ++ take (min (length piece) (most - length (take most whole))) piece ≡ take most (whole ++ piece)
kept-append most whole piece = by (cases_lt most (length whole))
  where
    by : (most < length whole) ⊎ (length whole ≤ most) → take most whole ++ take (min (length piece) (most - length (take most whole))) piece ≡ take most (whole ++ piece)
    by (inr le) =
        let all : take most whole ≡ whole = take_all most whole le in
        let room : ℕ = most - length whole in
        let is : take most (whole ++ piece) ≡ whole ++ take room piece = ap (λ (n : ℕ). take n (whole ++ piece)) (let e : most ≡ length whole + room = omega (arith, le) in e) ∙ take-append-add whole piece room in
        ap (λ (w : List ℕ). w ++ take (min (length piece) (most - length w)) piece) all
        ∙ ap (λ (n : ℕ). whole ++ take n piece) (min_comm (length piece) room)
        ∙ ap (λ (p : List ℕ). whole ++ p) (take_min room piece)
        ∙ sym is
    by (inl lt) =
        let size : length (take most whole) ≡ most = length-take most whole ∙ omega (arith, lt) in
        ap (λ (n : ℕ). take most whole ++ take (min (length piece) (most - n)) piece) size
        ∙ ap (λ (n : ℕ). take most whole ++ take n piece) (let z : min (length piece) (most - most) ≡ 0 = omega arith in z)
        ∙ append-nil (take most whole)
        ∙ sym (take-append-le most whole piece (omega (arith, lt)))

pub longest-is : longest ≡ 1048577
unfolding longest
longest-is = refl

-- ---- a place

pub mark-append : (xs ys : List ℕ) (mark : Mark) → IsMark xs mark → IsMark (xs ++ ys) mark
mark-append xs ys mark m =
    let same : take mark.byte (xs ++ ys) ≡ take mark.byte xs = take-append-le mark.byte xs ys m.within in
    record {
      within = (let n = length-append xs ys in let w : mark.byte ≤ length xs = m.within in omega (arith, n, w));
      count = ap (λ (bytes : List ℕ). length (lines_of bytes).ended) same ∙ m.count;
      at_front = ap (λ (bytes : List ℕ). (lines_of bytes).line) same ∙ m.at_front;
    }

-- where all was read and the line is empty
pub mark-end : (xs : List ℕ) (mark : Mark) → mark.byte ≡ length xs → length (lines_of xs).ended ≡ mark.record → (lines_of xs).line ≡ [] → IsMark xs mark
mark-end xs mark at count front =
    let all : take mark.byte xs ≡ xs = take_all mark.byte xs (omega (arith, at)) in
    record {
      within = omega (arith, at);
      count = ap (λ (bytes : List ℕ). length (lines_of bytes).ended) all ∙ count;
      at_front = ap (λ (bytes : List ℕ). (lines_of bytes).line) all ∙ front;
    }

pub mark-front : (xs : List ℕ) (mark : Mark) → mark.byte ≡ 0 → mark.record ≡ 0 → IsMark xs mark
mark-front xs mark byte count =
    let none : take mark.byte xs ≡ [] = ap (λ (n : ℕ). take n xs) byte in
    record {
      within = omega (arith, byte);
      count = ap (λ (bytes : List ℕ). length (lines_of bytes).ended) none ∙ sym count;
      at_front = ap (λ (bytes : List ℕ). (lines_of bytes).line) none;
    }

-- ---- what was read

pub begun : (from most : ℕ) (bytes : List ℕ) (start : Mark) (reading : Reading) → IsMark bytes start → start.record ≤ from →
    reading.list ≡ [] → reading.line.items ≡ [] → reading.behind ≡ start → reading.next ≡ start.byte → IsReadTo from most (take start.byte bytes) reading
begun from most bytes start reading m before list line behind next =
    let front : List ℕ = take start.byte bytes in
    let within : start.byte ≤ length bytes = m.within in
    let size : length front ≡ start.byte = length-take start.byte bytes ∙ omega arith in
    let count : length (records_in front) ≡ start.record = length-map (lines_of front).ended (take longest) ∙ m.count in
    record {
      list = list ∙ sym (drop_all from (records_in front) (omega (arith, count, before)));
      few = (let n : length reading.list ≡ 0 = ap length list in omega (arith, n));
      count = ap (λ (k : Mark). k.record) behind ∙ sym m.count;
      behind = subst (IsMark front) (sym behind) (mark-end front start (sym size) m.count m.at_front);
      line = line ∙ sym (ap (take longest) m.at_front ∙ none-of longest);
      next = next ∙ sym size;
    }

-- bytes without a line feed
pub read-front : (from most : ℕ) (bytes front : List ℕ) (old new : Reading) → position_or_len (λ b. b == 10) front ≡ length front → IsReadTo from most bytes old →
    new.list ≡ old.list → new.behind ≡ old.behind → new.line.items ≡ take longest ((lines_of bytes).line ++ front) → new.next ≡ old.next + length front → IsReadTo from most (bytes ++ front) new
read-front from most bytes front old new none r list behind line next =
    let is : lines_of (bytes ++ front) ≡ record { ended = (lines_of bytes).ended; line = (lines_of bytes).line ++ front } = lines-append bytes front ∙ feed-none (lines_of bytes) front none in
    record {
      list = list ∙ r.list ∙ sym (ap (λ (l : Lines). drop from (map (take longest) l.ended)) is);
      few = (let n : length new.list ≡ length old.list = ap length list in let f : length old.list ≤ most = r.few in omega (arith, n, f));
      count = ap (λ (k : Mark). k.record) behind ∙ r.count ∙ sym (ap (λ (l : Lines). length l.ended) is);
      behind = subst (IsMark (bytes ++ front)) (sym behind) (mark-append bytes front old.behind r.behind);
      line = line ∙ sym (ap (λ (l : Lines). take longest l.line) is);
      next = (let n = length-append bytes front in let o : old.next ≡ length bytes = r.next in omega (arith, n, o, next));
    }

fed : (bytes : List ℕ) → lines_of (bytes ++ 10 ∷ []) ≡ record { ended = (lines_of bytes).ended ++ (lines_of bytes).line ∷ []; line = [] }
fed bytes = lines-append bytes (10 ∷ [])

fed_records : (bytes : List ℕ) → records_in (bytes ++ 10 ∷ []) ≡ records_in bytes ++ take longest (lines_of bytes).line ∷ []
fed_records bytes = ap (λ (l : Lines). map (take longest) l.ended) (fed bytes) ∙ map-append (take longest) (lines_of bytes).ended ((lines_of bytes).line ∷ [])

-- the counts behind a line feed
fed_count : (from most : ℕ) (bytes : List ℕ) (old : Reading) → IsReadTo from most bytes old → length (lines_of (bytes ++ 10 ∷ [])).ended ≡ old.behind.record + 1
fed_count from most bytes old r =
    ap (λ (l : Lines). length l.ended) (fed bytes) ∙ length-append (lines_of bytes).ended ((lines_of bytes).line ∷ []) ∙ ap (λ (n : ℕ). n + 1) (sym r.count)

-- a line that ended and is passed over, or taken
line_ended : (from most : ℕ) (bytes : List ℕ) (old new : Reading) → IsReadTo from most bytes old → new.behind.record ≡ old.behind.record + 1 → new.behind.byte ≡ new.next → new.next ≡ old.next + 1 → new.line.items ≡ [] →
    new.list ≡ drop from (records_in (bytes ++ 10 ∷ [])) → length new.list ≤ most → IsReadTo from most (bytes ++ 10 ∷ []) new
line_ended from most bytes old new r count byte next line list few =
    let size : new.next ≡ length (bytes ++ 10 ∷ []) = (let n = length-append bytes (10 ∷ []) in let o : old.next ≡ length bytes = r.next in omega (arith, n, o, next)) in
    let counts : length (lines_of (bytes ++ 10 ∷ [])).ended ≡ new.behind.record = fed_count from most bytes old r ∙ sym count in
    let front : (lines_of (bytes ++ 10 ∷ [])).line ≡ [] = ap (λ (l : Lines). l.line) (fed bytes) in
    record {
      list = list;
      few = few;
      count = sym counts;
      behind = mark-end (bytes ++ 10 ∷ []) new.behind (byte ∙ size) counts front;
      line = line ∙ sym (ap (take longest) front ∙ none-of longest);
      next = size;
    }

pub line_passed : (from most : ℕ) (bytes : List ℕ) (old new : Reading) → IsReadTo from most bytes old → old.behind.record < from → new.list ≡ old.list →
    new.behind.record ≡ old.behind.record + 1 → new.behind.byte ≡ new.next → new.next ≡ old.next + 1 → new.line.items ≡ [] → IsReadTo from most (bytes ++ 10 ∷ []) new
line_passed from most bytes old new r before list count byte next line =
    let few : length new.list ≤ most = (let n : length new.list ≡ length old.list = ap length list in let f : length old.list ≤ most = r.few in omega (arith, n, f)) in
    let n : length (records_in (bytes ++ 10 ∷ [])) ≡ old.behind.record + 1 = length-map (lines_of (bytes ++ 10 ∷ [])).ended (take longest) ∙ fed_count from most bytes old r in
    let m : length (records_in bytes) ≡ old.behind.record = length-map (lines_of bytes).ended (take longest) ∙ sym r.count in
    let old_none : old.list ≡ [] = r.list ∙ drop_all from (records_in bytes) (omega (arith, m, before)) in
    line_ended from most bytes old new r count byte next line (list ∙ old_none ∙ sym (drop_all from (records_in (bytes ++ 10 ∷ [])) (omega (arith, n, before)))) few

pub line_taken : (from most : ℕ) (bytes : List ℕ) (old new : Reading) → IsReadTo from most bytes old → from ≤ old.behind.record → length old.list < most → new.list ≡ old.list ++ old.line.items ∷ [] →
    new.behind.record ≡ old.behind.record + 1 → new.behind.byte ≡ new.next → new.next ≡ old.next + 1 → new.line.items ≡ [] → IsReadTo from most (bytes ++ 10 ∷ []) new
line_taken from most bytes old new r at room list count byte next line =
    let few : length new.list ≤ most = (let n = ap length list ∙ length-append old.list (old.line.items ∷ []) in omega (arith, n, room)) in
    let m : length (records_in bytes) ≡ old.behind.record = length-map (lines_of bytes).ended (take longest) ∙ sym r.count in
    let more : drop from (records_in (bytes ++ 10 ∷ [])) ≡ drop from (records_in bytes) ++ take longest (lines_of bytes).line ∷ [] =
    ap (drop from) (fed_records bytes) ∙ drop-append-le from (records_in bytes) (take longest (lines_of bytes).line ∷ []) (omega (arith, m, at)) in
    line_ended from most bytes old new r count byte next line
    (list ∙ ap (λ (l : List (List ℕ)). l ++ old.line.items ∷ []) r.list ∙ ap (λ (x : List ℕ). drop from (records_in bytes) ++ x ∷ []) r.line ∙ sym more) few

-- a line that ended, behind as many as there may be
pub line_behind : (from most : ℕ) (bytes : List ℕ) (old : Reading) → IsReadTo from most bytes old → from ≤ old.behind.record → most ≤ length old.list → HasFilled from most (bytes ++ 10 ∷ []) old
line_behind from most bytes old r at full =
    let m : length (records_in bytes) ≡ old.behind.record = length-map (lines_of bytes).ended (take longest) ∙ sym r.count in
    let few : length old.list ≤ most = r.few in
    let size : length (drop from (records_in bytes)) ≡ most = ap length (sym r.list) ∙ omega (arith, few, full) in
    let left = length-drop from (records_in bytes) in
    let more : drop from (records_in (bytes ++ 10 ∷ [])) ≡ drop from (records_in bytes) ++ take longest (lines_of bytes).line ∷ [] =
    ap (drop from) (fed_records bytes) ∙ drop-append-le from (records_in bytes) (take longest (lines_of bytes).line ∷ []) (omega (arith, m, at)) in
    record {
      list = r.list ∙ sym (ap (take most) more ∙ take_at (drop from (records_in bytes)) (take longest (lines_of bytes).line ∷ []) most size);
      full = omega (arith, few, full);
      more = (let n = fed_count from most bytes old r in omega (arith, n, m, size, left, at));
      behind = mark-append bytes (10 ∷ []) old.behind r.behind;
    }

pub filled-append : (from most : ℕ) (xs ys : List ℕ) (r : Reading) → HasFilled from most xs r → HasFilled from most (xs ++ ys) r
filled-append from most xs ys r f =
    let more = records-append xs ys in
    let n : length (records_in xs) ≡ length (lines_of xs).ended = length-map (lines_of xs).ended (take longest) in
    let over : from + most < length (lines_of xs).ended = f.more in
    let left = length-drop from (records_in xs) in
    let goes : drop from (records_in (xs ++ ys)) ≡ drop from (records_in xs) ++ more.0 = ap (drop from) more.1 ∙ drop-append-le from (records_in xs) more.0 (omega (arith, n, over)) in
    record {
      list = f.list ∙ sym (ap (take most) goes ∙ take-append-le most (drop from (records_in xs)) more.0 (omega (arith, n, over, left)));
      full = f.full;
      more = (let e = ended-append xs ys in let k = ap length e.1 ∙ length-append (lines_of xs).ended e.0 in omega (arith, k, over));
      behind = mark-append xs ys r.behind f.behind;
    }

-- ---- what is given

pub gives_all : (from most : ℕ) (bytes : List ℕ) (r : Reading) (records : Records) → IsReadTo from most bytes r → from ≤ r.behind.record → records.list ≡ r.list → records.end ≡ true → IsSliceOf (records_in bytes) from most records
gives_all from most bytes r records i at list end =
    let m : length (records_in bytes) ≡ r.behind.record = length-map (lines_of bytes).ended (take longest) ∙ sym i.count in
    let few : length r.list ≤ most = i.few in
    let is : records.list ≡ drop from (records_in bytes) = list ∙ i.list in
    let size : length records.list ≡ length (records_in bytes) - from = ap length is ∙ length-drop from (records_in bytes) in
    let same = ap length list in
    let left = length-drop from (records_in bytes) in
    record {
      list_is = is ∙ sym (take_all most (drop from (records_in bytes)) (omega (arith, left, size, same, few)));
      end_is = (λ e. omega (arith, size, m, at), λ le. end);
    }

pub gives_some : (from most : ℕ) (bytes : List ℕ) (r : Reading) (records : Records) → HasFilled from most bytes r → records.list ≡ r.list → records.end ≡ false → IsSliceOf (records_in bytes) from most records
gives_some from most bytes r records f list end =
    let n : length (records_in bytes) ≡ length (lines_of bytes).ended = length-map (lines_of bytes).ended (take longest) in
    let size : length records.list ≡ most = ap length list ∙ f.full in
    let over : from + most < length (lines_of bytes).ended = f.more in
    record {
      list_is = list ∙ f.list;
      end_is = (λ e. absurd (true_false (sym e ∙ end)), λ le. absurd (let h : length (records_in bytes) ≤ from + length records.list = le in omega (arith, h, n, size, over)));
    }

-- the bytes that a line feed ends are fewer than all
pub count-fits : (from most : ℕ) (bytes : List ℕ) (r : Reading) → IsReadTo from most bytes r → r.behind.record ≤ length bytes
count-fits from most bytes r i = let c : r.behind.record ≡ length (lines_of bytes).ended = i.count in let h = count-ended bytes in omega (arith, c, h)

-- ---- the bytes before the first line feed

pub front-at : (bytes : List ℕ) (n : ℕ) → n ≤ length bytes → ((k : ℕ) → k < n → (get_or bytes k 0 == 10) ≡ false) → (n < length bytes → (get_or bytes n 0 == 10) ≡ true) → n ≡ position_or_len (λ b. b == 10) bytes
front-at bytes n le before here = sym (prefix_len_is (λ b. not (b == 10)) bytes n 0 le (λ k lt. ap not (before k lt)) (λ lt. ap not (here lt)))

-- ---- a piece, line by line

pub front-front : (xs : List ℕ) → position_or_len (λ b. b == 10) (take (position_or_len (λ b. b == 10) xs) xs) ≡ length (take (position_or_len (λ b. b == 10) xs) xs)
front-front [] = refl
front-front (x ∷ xs) = by (front-front xs) (x == 10) refl
  where
    n : ℕ
    n = position_or_len (λ b. b == 10) xs

    by : position_or_len (λ b. b == 10) (take n xs) ≡ length (take n xs) → (t : Bool) → (x == 10) ≡ t →
        position_or_len (λ b. b == 10) (take (cond (not (x == 10)) (1 + n) 0) (x ∷ xs)) ≡ length (take (cond (not (x == 10)) (1 + n) 0) (x ∷ xs))
    by later true e =
        let k : cond (not (x == 10)) (1 + n) 0 ≡ 0 = ap (λ (t : Bool). cond (not t) (1 + n) 0) e in
        ap (λ (k : ℕ). position_or_len (λ b. b == 10) (take k (x ∷ xs))) k ∙ sym (ap (λ (k : ℕ). length (take k (x ∷ xs))) k)
    by later false e =
        let k : cond (not (x == 10)) (1 + n) 0 ≡ suc n = ap (λ (t : Bool). cond (not t) (1 + n) 0) e ∙ one-add n in
        let more : cond (not (x == 10)) (1 + position_or_len (λ b. b == 10) (take n xs)) 0 ≡ suc (length (take n xs)) =
        ap (λ (t : Bool). cond (not t) (1 + position_or_len (λ b. b == 10) (take n xs)) 0) e ∙ ap (λ (m : ℕ). 1 + m) later ∙ one-add (length (take n xs)) in
        ap (λ (k : ℕ). position_or_len (λ b. b == 10) (take k (x ∷ xs))) k ∙ more ∙ sym (ap (λ (k : ℕ). length (take k (x ∷ xs))) k)

-- a line feed stands behind the front, where it is not all
pub feed-behind : (xs : List ℕ) (n : ℕ) → n ≡ position_or_len (λ b. b == 10) xs → n < length xs → xs ≡ take n xs ++ 10 ∷ drop (n + 1) xs
feed-behind xs n is lt =
    let at : (get_or xs n 0 == 10) ≡ true = subst (λ (k : ℕ). (get_or xs k 0 == 10) ≡ true) (sym is)
    (not_not (get_or xs (position_or_len (λ b. b == 10) xs) 0 == 10) (prefix_len_stops (λ b. not (b == 10)) xs 0 (omega (arith, is, lt)))) in
    sym (take-append-drop n xs) ∙ ap (λ (l : List ℕ). take n xs ++ l) (drop_more xs n 0 lt ∙ ap (λ (b : ℕ). b ∷ drop (n + 1) xs) (eqb-true (get_or xs n 0) 10 at))

-- what is left of a piece, when its front was read behind any bytes
pub record Goes (from most : ℕ) (piece rest : List ℕ) (old new : Reading) : Type 0 where
  pub front : List ℕ
  pub splits : piece ≡ front ++ rest
  pub reads : (bytes : List ℕ) → length (bytes ++ piece) < 2 ^ 63 → IsReadTo from most bytes old → IsReadTo from most (bytes ++ front) new
  pub few : length old.list ≤ most → length new.list ≤ most

pub goes-first : (from most : ℕ) (piece : List ℕ) (r : Reading) → Goes from most piece piece r r
goes-first from most piece r = record {
  front = [];
  splits = refl;
  reads = λ bytes fits i. subst (λ (b : List ℕ). IsReadTo from most b r) (sym (append-nil bytes)) i;
  few = λ few. few;
}

-- bytes that any reading may take in
abbrev pub Takes : ℕ → ℕ → List ℕ → Reading → Reading → Type 0
Takes from most front old new = (bytes : List ℕ) → length (bytes ++ front) < 2 ^ 63 → IsReadTo from most bytes old → IsReadTo from most (bytes ++ front) new

shorter : (bytes front more : List ℕ) → length (bytes ++ (front ++ more)) < 2 ^ 63 → length (bytes ++ front) < 2 ^ 63
shorter bytes front more fits =
    let a = length-append bytes (front ++ more) in
    let b = length-append front more in
    let c = length-append bytes front in
    omega (arith, a, b, c, fits)

-- the front of what is left is taken in too
goes_by : (from most : ℕ) (piece rest front more : List ℕ) (old mid new : Reading) → (g : Goes from most piece rest old mid) → rest ≡ front ++ more → Takes from most front mid new →
    (bytes : List ℕ) → length (bytes ++ piece) < 2 ^ 63 → IsReadTo from most bytes old → IsReadTo from most ((bytes ++ g.front) ++ front) new
goes_by from most piece rest front more old mid new g splits takes bytes fits i =
    let whole : piece ≡ g.front ++ (front ++ more) = g.splits ∙ ap (λ (l : List ℕ). g.front ++ l) splits in
    let all : length (bytes ++ (g.front ++ (front ++ more))) < 2 ^ 63 = subst (λ (l : List ℕ). length (bytes ++ l) < 2 ^ 63) whole fits in
    let both : length ((bytes ++ g.front) ++ (front ++ more)) < 2 ^ 63 = subst (λ (l : List ℕ). length l < 2 ^ 63) (sym (append_assoc bytes g.front (front ++ more))) all in
    takes (bytes ++ g.front) (shorter (bytes ++ g.front) front more both) (g.reads bytes fits i)

pub goes-on : (from most : ℕ) (piece rest front more : List ℕ) (old mid new : Reading) → Goes from most piece rest old mid → rest ≡ front ++ more → Takes from most front mid new → (length mid.list ≤ most → length new.list ≤ most) →
    Goes from most piece more old new
goes-on from most piece rest front more old mid new g splits takes few = record {
  front = g.front ++ front;
  splits = g.splits ∙ ap (λ (l : List ℕ). g.front ++ l) splits ∙ sym (append_assoc g.front front more);
  reads = λ bytes fits i. subst (λ (b : List ℕ). IsReadTo from most b new) (append_assoc bytes g.front front) (goes_by from most piece rest front more old mid new g splits takes bytes fits i);
  few = λ f. few (g.few f);
}

pub goes-all : (from most : ℕ) (piece rest : List ℕ) (old new : Reading) → Goes from most piece rest old new → rest ≡ [] → Takes from most piece old new
goes-all from most piece rest old new g none bytes fits i =
    let whole : g.front ≡ piece = sym (g.splits ∙ ap (λ (l : List ℕ). g.front ++ l) none ∙ append-nil g.front) in
    subst (λ (l : List ℕ). IsReadTo from most (bytes ++ l) new) whole (g.reads bytes fits i)

-- as many as there may be were read before the piece's end
pub goes-full : (from most : ℕ) (piece rest more : List ℕ) (old mid new : Reading) → Goes from most piece rest old mid → rest ≡ 10 ∷ more →
    ((bytes : List ℕ) → IsReadTo from most bytes mid → HasFilled from most (bytes ++ 10 ∷ []) new) →
    (bytes : List ℕ) → length (bytes ++ piece) < 2 ^ 63 → IsReadTo from most bytes old → HasFilled from most (bytes ++ piece) new
goes-full from most piece rest more old mid new g splits fills bytes fits i =
    let whole : piece ≡ g.front ++ (10 ∷ [] ++ more) = g.splits ∙ ap (λ (l : List ℕ). g.front ++ l) splits in
    let filled : HasFilled from most (((bytes ++ g.front) ++ 10 ∷ []) ++ more) new = filled-append from most ((bytes ++ g.front) ++ 10 ∷ []) more new (fills (bytes ++ g.front) (g.reads bytes fits i)) in
    let is : ((bytes ++ g.front) ++ 10 ∷ []) ++ more ≡ bytes ++ piece =
    append_assoc (bytes ++ g.front) (10 ∷ []) more ∙ append_assoc bytes g.front (10 ∷ [] ++ more) ∙ ap (λ (l : List ℕ). bytes ++ l) (sym whole) in
    subst (λ (l : List ℕ). HasFilled from most l new) is filled

pub no-bytes : (l : List ℕ) → (length l == 0) ≡ true → l ≡ []
no-bytes [] e = refl
no-bytes (x ∷ l) e = absurd (let z : suc (length l) ≡ 0 = eqb-true (suc (length l)) 0 e in omega (arith, z))
