-- What is written from one row of a document to the next.
use Rattle.std.proofs.Common.{◌≡◌, ℕ, Bool, true, false, List, [], ◌∷◌, ◌++◌, refl, sym, ap, ◌∙◌, append_assoc, ◌-◌, ◌≤◌, ◌<◌, length, take, drop, get_or, arith, subst, if◌then◌else◌}
use Rattle.std.proofs.Math.Seq.{take-length}
use Rattle.std.specs.Str.{bytes_eq}
use Rattle.doc_value.specs.declared.rows.Row.{Row}
use Rattle.doc_value.specs.Printed.{quoted, comma, Members, none, object, inside, behind, with_path, members_of, members_text}
use Rattle.doc_value.specs.Writing.{front, closings, begun, row_text, remaining}

remaining-none : (os : List (List ℕ)) → remaining false os none ≡ closings os
remaining-none [] = refl
remaining-none (o ∷ os) = ap (λ x. x ++ 125 ∷ []) (remaining-none os)

deep : (a b c d e : List ℕ) → a ++ (b ++ 58 ∷ 123 ∷ ((c ++ d) ++ 125 ∷ e)) ≡ (a ++ (b ++ 58 ∷ 123 ∷ c)) ++ (d ++ 125 ∷ e)
deep a b c d e = simp append_assoc

flat : (a b t r : List ℕ) → a ++ (b ++ 58 ∷ (t ++ r)) ≡ (a ++ (b ++ 58 ∷ t)) ++ r
flat a b t r = simp append_assoc

ended : (c b r : List ℕ) → c ++ 125 ∷ (b ++ r) ≡ ((c ++ 125 ∷ []) ++ b) ++ r
ended c b r = simp append_assoc

text-with_path : (first : Bool) (n : List ℕ) (ns : List (List ℕ)) (t : List ℕ) (ms : Members)
    → members_text first (with_path (n ∷ ns) t ms) ≡ begun first (n ∷ ns) t ++ remaining false (front (n ∷ ns)) ms
text-with_path first n [] t ms = flat (comma first) (quoted n) t (members_text false ms)
text-with_path first n (m ∷ ns) t ms =
    ap (λ x. comma first ++ (quoted n ++ 58 ∷ 123 ∷ (x ++ 125 ∷ members_text false (behind n ms)))) (text-with_path true m ns t (inside n ms))
    ∙ deep (comma first) (quoted n) (begun true (m ∷ ns) t) (remaining false (front (m ∷ ns)) (inside n ms)) (members_text false (behind n ms))

-- the objects in hand end before a row of another place
ends-before : (os : List (List ℕ)) (n : List ℕ) (ns : List (List ℕ)) (t : List ℕ) (ms : Members)
    → remaining false os none ++ 125 ∷ members_text false (with_path (n ∷ ns) t ms)
    ≡ ((closings os ++ 125 ∷ []) ++ begun false (n ∷ ns) t) ++ remaining false (front (n ∷ ns)) ms
ends-before os n ns t ms =
    ap (λ x. x ++ 125 ∷ members_text false (with_path (n ∷ ns) t ms)) (remaining-none os)
    ∙ ap (λ y. closings os ++ 125 ∷ y) (text-with_path false n ns t ms)
    ∙ ended (closings os) (begun false (n ∷ ns) t) (remaining false (front (n ∷ ns)) ms)

pub remaining-with_path : (first : Bool) (os : List (List ℕ)) (n : List ℕ) (ns : List (List ℕ)) (t : List ℕ) (ms : Members)
    → remaining first os (with_path (n ∷ ns) t ms) ≡ row_text first os (n ∷ ns) t ++ remaining false (front (n ∷ ns)) ms
remaining-with_path first [] n ns t ms = text-with_path first n ns t ms
remaining-with_path first (o ∷ os) n [] t ms = ends-before os n [] t ms
remaining-with_path first (o ∷ os) n (m ∷ ns) t ms =
    elim (bytes_eq o n) as (λ b. remaining false os (if b then with_path (m ∷ ns) t (inside n ms) else none)
    ++ 125 ∷ members_text false (if b then behind n ms else object n (with_path (m ∷ ns) t (inside n ms)) (behind n ms))
    ≡ (if b then row_text false os (m ∷ ns) t else closings (o ∷ os) ++ begun false (n ∷ m ∷ ns) t) ++ remaining false (front (n ∷ m ∷ ns)) ms) [
      | true ↦ ap (λ x. x ++ 125 ∷ members_text false (behind n ms)) (remaining-with_path false os m ns t (inside n ms))
          ∙ append_assoc (row_text false os (m ∷ ns) t) (remaining false (front (m ∷ ns)) (inside n ms)) (125 ∷ members_text false (behind n ms))
      | false ↦ ends-before os n (m ∷ ns) t ms
    ]

-- all but the last by places
front-take : (n : List ℕ) (ns : List (List ℕ)) → take (length ns) (n ∷ ns) ≡ front (n ∷ ns)
front-take n [] = refl
front-take n (m ∷ ns) = ap (λ x. n ∷ x) (front-take m ns)

named-step : (first : Bool) (os names : List (List ℕ)) (t : List ℕ) (ms : Members) (out mid new : List ℕ) → 1 ≤ length names
    → mid ≡ out ++ row_text first os names t → new ≡ mid ++ remaining false (take (length names - 1) names) ms
    → new ≡ out ++ remaining first os (with_path names t ms)
named-step first os [] t ms out mid new h m e = absurd (omega arith)
named-step first os (n ∷ ns) t ms out mid new h m e =
    let count : length (n ∷ ns) - 1 ≡ length ns = omega arith in
    let way : take (length (n ∷ ns) - 1) (n ∷ ns) ≡ front (n ∷ ns) = ap (λ k. take k (n ∷ ns)) count ∙ front-take n ns in
    e ∙ ap (λ x. mid ++ remaining false x ms) way ∙ ap (λ x. x ++ remaining false (front (n ∷ ns)) ms) m
    ∙ append_assoc out (row_text first os (n ∷ ns) t) (remaining false (front (n ∷ ns)) ms)
    ∙ ap (λ x. out ++ x) (sym (remaining-with_path first os n ns t ms))

-- one row is written, and then the others
pub rows-step : (first : Bool) (os : List (List ℕ)) (rows : List Row) (row : Row) (out mid new : List ℕ)
    → 1 ≤ length rows → row ≡ get_or rows 0 row → 1 ≤ length row.names
    → mid ≡ out ++ row_text first os row.names row.text
    → new ≡ mid ++ remaining false (take (length row.names - 1) row.names) (members_of (drop 1 rows))
    → new ≡ out ++ remaining first os (members_of rows)
rows-step first os [] row out mid new h i n m e = absurd (omega arith)
rows-step first os (r ∷ rows) row out mid new h i n m e =
    let rest : drop 1 (r ∷ rows) ≡ rows = refl in
    let done = named-step first os row.names row.text (members_of rows) out mid new n m e in
    subst (λ (x : Row). new ≡ out ++ remaining first os (with_path x.names x.text (members_of rows))) i done

-- all that stands behind the first
rest-whole : (rows : List Row) → take (length rows - 1) (drop 1 rows) ≡ drop 1 rows
rest-whole [] = refl
rest-whole (r ∷ rows) =
    let count : length (r ∷ rows) - 1 ≡ length rows = omega arith in
    ap (λ k. take k rows) count ∙ take-length rows

-- the same, where the names stand in two further lists
pub rows-step-by : (first : Bool) (os : List (List ℕ)) (rows : List Row) (row : Row) (a b : List (List ℕ)) (out mid new : List ℕ)
    → 1 ≤ length rows → row ≡ get_or rows 0 row → a ≡ row.names → b ≡ row.names → 1 ≤ length a
    → mid ≡ out ++ row_text first os b row.text
    → new ≡ mid ++ remaining false (take (length a - 1) a) (members_of (take (length rows - 1) (drop 1 rows)))
    → new ≡ out ++ remaining first os (members_of rows)
rows-step-by first os rows row a b out mid new h i ea eb n m e =
    rows-step first os rows row out mid new h i
    (subst (λ x. 1 ≤ length x) ea n) (subst (λ x. mid ≡ out ++ row_text first os x row.text) eb m)
    (subst (λ x. new ≡ mid ++ remaining false (take (length x - 1) x) (members_of (drop 1 rows))) ea
    (subst (λ (x : List Row). new ≡ mid ++ remaining false (take (length a - 1) a) (members_of x)) (rest-whole rows) e))

-- no row is left
pub rows-end : (first : Bool) (os : List (List ℕ)) (rows : List Row) (out new : List ℕ)
    → length rows < 1 → new ≡ out ++ closings os → new ≡ out ++ remaining first os (members_of rows)
rows-end first [] [] out new h e = e
rows-end first (o ∷ os) [] out new h e = e ∙ ap (λ x. out ++ x) (sym (remaining-none (o ∷ os)))
rows-end first os (r ∷ rows) out new h e = absurd (omega arith)
