-- Pieces that are put one behind the other.
use Rattle.std.proofs.Common.{◌≡◌, ℕ, zero, suc, List, [], ◌∷◌, ◌++◌, drop, Some, refl, sym, ◌∙◌, ap, append_assoc}
use Rattle.std.specs.Prelude.{slice_get}
use Rattle.split_bundle.specs.Files.{Parts, head, foot, footer_bytes, file_bytes, lengths_bytes, sections_bytes, partitions_bytes, index_bytes, starts_bytes}
use Rattle.byte_fields.specs.Spelling.{varint, eight}
use Rattle.std.proofs.Common.{length}

pub drop_at : {X : Type 0} (xs : List X) (i j : ℕ) (x : X) → j ≡ suc i → slice_get xs i ≡ Some x → drop i xs ≡ x ∷ drop j xs
drop_at [] i j x next e = absurd cc
drop_at (y ∷ ys) zero j x next e = let same : y ≡ x = cc in ap (λ z. z ∷ ys) same ∙ ap (λ (k : ℕ). x ∷ drop k (y ∷ ys)) (sym next)
drop_at (y ∷ ys) (suc i) j x next e = drop_at ys i (suc i) x refl e ∙ ap (λ (k : ℕ). x ∷ drop k (y ∷ ys)) (sym next)

-- one piece, or two, of what is left
pub put_one : (out out1 a rest before : List ℕ) → out1 ≡ out ++ a → out ++ (a ++ rest) ≡ before → out1 ++ rest ≡ before
put_one out out1 a rest before one all = ap (λ (l : List ℕ). l ++ rest) one ∙ append_assoc out a rest ∙ all

pub put_two : (out out1 out2 a b rest before : List ℕ) → out1 ≡ out ++ a → out2 ≡ out1 ++ b → out ++ ((a ++ b) ++ rest) ≡ before → out2 ++ rest ≡ before
put_two out out1 out2 a b rest before one two all =
    put_one out out2 (a ++ b) rest before (two ∙ ap (λ (l : List ℕ). l ++ b) one ∙ append_assoc out a b) all

pub put_behind : (old o1 o2 a b : List ℕ) → o1 ≡ old ++ a → o2 ≡ o1 ++ b → o2 ≡ old ++ (a ++ b)
put_behind old o1 o2 a b one two = two ∙ ap (λ (l : List ℕ). l ++ b) one ∙ append_assoc old a b

-- five pieces
pub put_five : (old o1 o2 o3 o4 o5 a b c d e : List ℕ) → o1 ≡ old ++ a → o2 ≡ o1 ++ b → o3 ≡ o2 ++ c → o4 ≡ o3 ++ d → o5 ≡ o4 ++ e → o5 ≡ old ++ (a ++ (b ++ (c ++ (d ++ e))))
put_five old o1 o2 o3 o4 o5 a b c d e one two three four five =
    put_behind old o1 o5 a (b ++ (c ++ (d ++ e))) one (put_behind o1 o2 o5 b (c ++ (d ++ e)) two (put_behind o2 o3 o5 c (d ++ e) three (put_behind o3 o4 o5 d e four five)))

pub put_six : (old o1 o2 o3 o4 o5 o6 a b c d e f : List ℕ) → o1 ≡ old ++ a → o2 ≡ o1 ++ b → o3 ≡ o2 ++ c → o4 ≡ o3 ++ d → o5 ≡ o4 ++ e → o6 ≡ o5 ++ f → o6 ≡ old ++ (a ++ (b ++ (c ++ (d ++ (e ++ f)))))
put_six old o1 o2 o3 o4 o5 o6 a b c d e f one two three four five six =
    put_behind old o1 o6 a (b ++ (c ++ (d ++ (e ++ f)))) one (put_five o1 o2 o3 o4 o5 o6 b c d e f two three four five six)

pub footer_put : (p : Parts) (old o1 o2 o3 o4 o5 o6 : List ℕ) → o1 ≡ old ++ varint p.docs → o2 ≡ o1 ++ lengths_bytes p → o3 ≡ o2 ++ partitions_bytes p.partitions → o4 ≡ o3 ++ varint (length p.keys) → o5 ≡ o4 ++ index_bytes p.index → o6 ≡ o5 ++ starts_bytes p.column_starts
    → o6 ≡ old ++ footer_bytes p
unfolding footer_bytes
footer_put p old o1 o2 o3 o4 o5 o6 one two three four five six =
    put_six old o1 o2 o3 o4 o5 o6 (varint p.docs) (lengths_bytes p) (partitions_bytes p.partitions) (varint (length p.keys)) (index_bytes p.index) (starts_bytes p.column_starts) one two three four five six

-- four pieces behind the documents
pub sections_put : (begun documents o1 o2 o3 o4 a b c d : List ℕ) → begun ≡ head ++ documents → o1 ≡ begun ++ a → o2 ≡ o1 ++ b → o3 ≡ o2 ++ c → o4 ≡ o3 ++ d → o4 ≡ head ++ (documents ++ (a ++ (b ++ (c ++ d))))
sections_put begun documents o1 o2 o3 o4 a b c d is one two three four =
    put_behind begun o1 o4 a (b ++ (c ++ d)) one (put_behind o1 o2 o4 b (c ++ d) two (put_behind o2 o3 o4 c d three four))
    ∙ ap (λ (l : List ℕ). l ++ (a ++ (b ++ (c ++ d)))) is ∙ append_assoc head documents (a ++ (b ++ (c ++ d)))

pub file_put : (p : Parts) (footer o1 o2 o3 o4 o5 : List ℕ) → footer ≡ [] ++ footer_bytes p → o1 ≡ [] ++ head → o2 ≡ o1 ++ sections_bytes p → o3 ≡ o2 ++ footer → o4 ≡ o3 ++ eight (length footer) → o5 ≡ o4 ++ foot → o5 ≡ file_bytes p
unfolding file_bytes
file_put p footer o1 o2 o3 o4 o5 is one two three four five =
    put_five [] o1 o2 o3 o4 o5 head (sections_bytes p) footer (eight (length footer)) foot one two three four five ∙ ap (λ (l : List ℕ). head ++ (sections_bytes p ++ (l ++ (eight (length l) ++ foot)))) is
