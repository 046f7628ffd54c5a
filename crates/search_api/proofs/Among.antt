-- The pairs of a bucket as they are written, one after the other.
use Rattle.std.proofs.Common.{◌≡◌, ℕ, suc, ◌≤◌, ◌&&◌, ◌==◌, Bool, true, false, List, [], ◌∷◌, ◌++◌, length, map, append_assoc, append-nil, refl, ap, sym, arith, if◌then◌else◌}
use Rattle.std.proofs.lemmas.Bool.Decides.{nat_tests}
use Rattle.doc_value.specs.Printed.{comma}
use Rattle.search_api.specs.Replies.{with_commas, begun_pair, pair_text, object_text, pair, line_of, is_below, before, behind, own_among, behind_all, among, own_text, own_key_text, left_text, bucket_text}
use Rattle.search_api.specs.declared.bucket_pairs.Pair.{Pair}

-- texts behind one are written behind it
pub commas_more : (b : Bool) (xs : List (List ℕ)) (x : List ℕ) (ys : List (List ℕ)) → with_commas b (xs ++ (x ∷ ys)) ≡ with_commas b (xs ++ (x ∷ [])) ++ with_commas false ys
commas_more b [] x ys = simp (append_assoc, append-nil)
commas_more b (y ∷ zs) x ys = rw (commas_more false zs x ys) (simp append_assoc)

pub commas_both : (xs ys : List (List ℕ)) → with_commas false (xs ++ ys) ≡ with_commas false xs ++ with_commas false ys
commas_both [] ys = refl
commas_both (x ∷ xs) ys = rw (commas_both xs ys) (simp append_assoc)

map_both : (xs ys : List Pair) → map line_of (xs ++ ys) ≡ map line_of xs ++ map line_of ys
map_both [] ys = refl
map_both (x ∷ xs) ys = ap (λ ts. line_of x ∷ ts) (map_both xs ys)

-- ---- a pair of the bucket's own
fewer_by : (b : Bool) (p : Pair) (left ps : List Pair) → length left ≤ length ps → length (if b then left else p ∷ ps) ≤ suc (length ps)
fewer_by true p left ps l = omega (arith, l)
fewer_by false p left ps l = omega arith

behind_fewer : (key : List ℕ) (ps : List Pair) → length (behind key ps) ≤ length ps
behind_fewer key [] = omega arith
behind_fewer key (p ∷ ps) = fewer_by (is_below p.key key) p (behind key ps) ps (behind_fewer key ps)

same_count : (n : ℕ) → (n == n) ≡ true
same_count n = grind (arith, nat_tests)

other_count : (m n : ℕ) → m ≤ n → (m == suc n) ≡ false
other_count m n l = grind (arith, nat_tests)

and_true : (b : Bool) → (b && true) ≡ b
and_true true = refl
and_true false = refl

and_false : (b : Bool) → (b && false) ≡ false
and_false true = refl
and_false false = refl

-- whether a comma stands before it
first_fits : (b : Bool) (key t : List ℕ) (ps : List Pair) → with_commas b (map line_of (before key ps) ++ (t ∷ []))
    ≡ with_commas b (map line_of (before key ps)) ++ (comma (b && (length (behind key ps) == length ps)) ++ t)
first_fits b key t [] = rw (and_true b) (simp append-nil)
first_fits b key t (p ∷ ps) = by (is_below p.key key) refl
  where
    by : (s : Bool) → is_below p.key key ≡ s → with_commas b (map line_of (before key (p ∷ ps)) ++ (t ∷ []))
        ≡ with_commas b (map line_of (before key (p ∷ ps))) ++ (comma (b && (length (behind key (p ∷ ps)) == length (p ∷ ps))) ++ t)
    by true e =
        let fewer = other_count (length (behind key ps)) (length ps) (behind_fewer key ps) in
        let both = commas_both (map line_of (before key ps)) (t ∷ []) in
        rw (e, fewer, and_false b, both) (simp (append_assoc, append-nil))
    by false e = rw (e, same_count (suc (length ps)), and_true b) (simp append-nil)

pub own_pair : (b : Bool) (out key value : List ℕ) (ps : List Pair)
    → (out ++ own_key_text b key ps) ++ value ≡ out ++ own_text b (pair key value ∷ []) ps
unfolding own_text own_key_text pair_text begun_pair
own_pair b out key value ps =
    rw (map_both (before key ps) (pair key value ∷ []), first_fits b key (line_of (pair key value)) ps) (simp append_assoc)

pub own_none : (b : Bool) (out : List ℕ) (ps : List Pair) → out ++ own_text b [] ps ≡ out
unfolding own_text
own_none b out ps = append-nil out

-- ---- a bucket

-- pairs of its own behind others
own_both : (xs ys nested : List Pair) → own_among (xs ++ ys) nested ≡ own_among xs nested ++ own_among ys (behind_all xs nested)
own_both [] ys nested = refl
own_both (x ∷ xs) ys nested =
    rw (own_both xs ys (behind x.key nested))
    (sym (append_assoc (before x.key nested) (x ∷ own_among xs (behind x.key nested)) (own_among ys (behind_all xs (behind x.key nested)))))

behind_both : (xs ys nested : List Pair) → behind_all (xs ++ ys) nested ≡ behind_all ys (behind_all xs nested)
behind_both [] ys nested = refl
behind_both (x ∷ xs) ys nested = behind_both xs ys (behind x.key nested)

own_text_both : (xs ys nested : List Pair) → own_text false (xs ++ ys) nested ≡ own_text false xs nested ++ own_text false ys (behind_all xs nested)
unfolding own_text
own_text_both xs ys nested =
    rw (own_both xs ys nested, map_both (own_among xs nested) (own_among ys (behind_all xs nested)))
    (commas_both (map line_of (own_among xs nested)) (map line_of (own_among ys (behind_all xs nested))))

-- the first of its own, the others, and what is left
all_text : (p : Pair) (own nested : List Pair) → with_commas true (map line_of (among (p ∷ own) nested))
    ≡ own_text true (p ∷ []) nested ++ (own_text false own (behind p.key nested) ++ left_text (behind_all own (behind p.key nested)))
unfolding own_text left_text
all_text p own nested =
    let a = before p.key nested in
    let b = own_among own (behind p.key nested) in
    let c = behind_all own (behind p.key nested) in
    rw (
      map_both (a ++ (p ∷ b)) c,
      map_both a (p ∷ b),
      map_both a (p ∷ []),
      append_assoc (map line_of a) (line_of p ∷ map line_of b) (map line_of c),
      commas_more true (map line_of a) (line_of p) (map line_of b ++ map line_of c),
      commas_both (map line_of b) (map line_of c),
    )
    refl

pub value_written : (out : List ℕ) (p q : Pair) (nested : List Pair)
    → ((((out ++ 123 ∷ []) ++ own_text true (p ∷ []) nested) ++ own_text false (q ∷ []) (behind p.key nested)) ++ left_text (behind q.key (behind p.key nested))) ++ 125 ∷ []
    ≡ out ++ bucket_text (p ∷ q ∷ []) nested
unfolding bucket_text object_text
value_written out p q nested = rw (all_text p (q ∷ []) nested) (simp append_assoc)

-- its own pairs behind the first one, of which two may be absent
range_text : (from : List Pair) (q : Pair) (to nested : List Pair) → own_text false (from ++ (q ∷ to)) nested
    ≡ own_text false from nested ++ (own_text false (q ∷ []) (behind_all from nested) ++ own_text false to (behind q.key (behind_all from nested)))
range_text from q to nested =
    rw (own_text_both from (q ∷ to) nested, own_text_both (q ∷ []) to (behind_all from nested)) refl

pub range_written : (out : List ℕ) (p : Pair) (from : List Pair) (q : Pair) (to nested : List Pair)
    → ((((((out ++ 123 ∷ []) ++ own_text true (p ∷ []) nested)
    ++ own_text false from (behind p.key nested))
    ++ own_text false (q ∷ []) (behind_all from (behind p.key nested)))
    ++ own_text false to (behind q.key (behind_all from (behind p.key nested))))
    ++ left_text (behind_all to (behind q.key (behind_all from (behind p.key nested))))) ++ 125 ∷ []
    ≡ out ++ bucket_text (p ∷ (from ++ (q ∷ to))) nested
unfolding bucket_text object_text
range_written out p from q to nested =
    rw (all_text p (from ++ (q ∷ to)) nested, range_text from q to (behind p.key nested), behind_both from (q ∷ to) (behind p.key nested))
    (simp append_assoc)

-- ---- a bucket as it grows
pub value_chain : (out t u v w : List ℕ) (p q : Pair) (nested r s : List Pair) → t ≡ out ++ 123 ∷ [] → u ≡ t ++ own_text true (p ∷ []) nested → r ≡ behind p.key nested
    → v ≡ u ++ own_text false (q ∷ []) r → s ≡ behind q.key r → w ≡ v ++ left_text s → w ++ 125 ∷ [] ≡ out ++ bucket_text (p ∷ q ∷ []) nested
value_chain out t u v w p q nested r s a b c d e f = rw (f, e, d, c, b, a) (value_written out p q nested)

pub range_chain : (out t u v w x y : List ℕ) (p : Pair) (from : List Pair) (q : Pair) (to nested r s k l : List Pair) → t ≡ out ++ 123 ∷ []
    → u ≡ t ++ own_text true (p ∷ []) nested → r ≡ behind p.key nested → v ≡ u ++ own_text false from r → s ≡ behind_all from r
    → w ≡ v ++ own_text false (q ∷ []) s → k ≡ behind q.key s → x ≡ w ++ own_text false to k → l ≡ behind_all to k → y ≡ x ++ left_text l
    → y ++ 125 ∷ [] ≡ out ++ bucket_text (p ∷ (from ++ (q ∷ to))) nested
range_chain out t u v w x y p from q to nested r s k l a b c d e f g h i j = rw (j, i, h, g, f, e, d, c, b, a) (range_written out p from q to nested)
