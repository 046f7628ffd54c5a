-- How many keys may stand behind another one: no key is longer than 128 bytes.
use Rattle.std.proofs.Common.{◌≡◌, ◌⊎◌, inl, inr, ℕ, zero, suc, ◌+◌, ◌-◌, ◌*◌, ◌^◌, ◌<◌, ◌≤◌, lit<, Bool, true, false, List, [], ◌∷◌, length, refl, ap, arith, cond}
use Rattle.std.proofs.Math.Nat.{mul-le-mul_right, pow-succ', suc-mul}
use Rattle.std.proofs.lemmas.Bool.Decides.{nat_tests}
use Rattle.std.proofs.lemmas.List.Elements.{recursion_from_All}
use Rattle.std.specs.Cmp.Lexicographic.{slice_cmp}
use Rattle.std.specs.List.{AllByRecursion}
use Rattle.std.specs.Ordering.{is_lt, nat_cmp, ordering_then}
use Rattle.std.specs.Prelude.{IfSome, IsTrue, None, Option, Some, nat_lt, ◌==◌}
use Rattle.std.specs.declared.cmp.Ordering.{Ordering}
use Rattle.std.specs.declared.cmp.Ordering.TheVariants.{Less, Equal, Greater}
use Rattle.object_store.specs.Key.{IsKey, is_key_byte}
use Rattle.object_store.specs.Store.{is_behind}

-- A key with so much room as a number: its bytes, each as one more than it is, are the digits.
rank : ℕ → List ℕ → ℕ
rank zero key = 0
rank (suc room) [] = 0
rank (suc room) (b ∷ more) = suc b * 257 ^ room + rank room more

abbrev AreBytes : List ℕ → Type 0
AreBytes key = AllByRecursion (λ b. b < 256) key

some_left : (room : ℕ) → 0 < 257 ^ room
some_left zero = lit< tt
some_left (suc room) = let some = some_left room in let e = pow-succ' 257 room in omega (arith, some, e)

below_all : (room : ℕ) (key : List ℕ) → AreBytes key → rank room key < 257 ^ room
unfolding rank
below_all zero key bytes = lit< tt
below_all (suc room) [] bytes = some_left (suc room)
below_all (suc room) (b ∷ more) bytes =
    let rest = below_all room more bytes.1 in
    let first : suc (suc b) * 257 ^ room ≤ 257 * 257 ^ room = mul-le-mul_right (257 ^ room) (let byte = bytes.0 in omega (arith, byte)) in
    let one = suc-mul (suc b) (257 ^ room) in
    let all = pow-succ' 257 room in
    omega (arith, rest, first, one, all)

-- the first bytes decide, or they are the same
heads : (x y : ℕ) (o : Ordering) → is_lt (ordering_then (nat_cmp x y) o) ≡ true → (x < y) ⊎ ((x ≡ y) × (is_lt o ≡ true))
heads x y o h = by (nat_lt x y) (x == y) refl refl h
  where
    by : (a b : Bool) → nat_lt x y ≡ a → (x == y) ≡ b → is_lt (ordering_then (cond a Less (cond b Equal Greater)) o) ≡ true → (x < y) ⊎ ((x ≡ y) × (is_lt o ≡ true))
    by true b less same h' = inl (grind (arith, nat_tests))
    by false true less same h' = inr (grind (arith, nat_tests), h')
    by false false less same h' = absurd (cc)

rises : (room : ℕ) (a b : List ℕ) → AreBytes a → length b ≤ room → is_lt (slice_cmp nat_cmp a b) ≡ true → rank room a < rank room b
unfolding rank
rises room [] [] bytes fits less = absurd (cc)
rises room (x ∷ xs) [] bytes fits less = absurd (cc)
rises zero a (y ∷ ys) bytes fits less = absurd (omega arith)
rises (suc room) [] (y ∷ ys) bytes fits less = let some = some_left room in let one = suc-mul y (257 ^ room) in omega (arith, some, one)
rises (suc room) (x ∷ xs) (y ∷ ys) bytes fits less = by (heads x y (slice_cmp nat_cmp xs ys) less) (λ later. rises room xs ys bytes.1 (omega arith) later)
  where
    by : (x < y) ⊎ ((x ≡ y) × (is_lt (slice_cmp nat_cmp xs ys) ≡ true)) → (is_lt (slice_cmp nat_cmp xs ys) ≡ true → rank room xs < rank room ys) → suc x * 257 ^ room + rank room xs < suc y * 257 ^ room + rank room ys
    by (inl below) later =
        let rest = below_all room xs bytes.1 in
        let first : suc (suc x) * 257 ^ room ≤ suc y * 257 ^ room = mul-le-mul_right (257 ^ room) (omega (arith, below)) in
        let one = suc-mul (suc x) (257 ^ room) in
        omega (arith, rest, first, one)
    by (inr same) later =
        let rest = later same.1 in
        let first = ap (λ (n : ℕ). suc n * 257 ^ room) same.0 in
        omega (arith, rest, first)

byte_is : (b : ℕ) → IsTrue (is_key_byte b) → b < 256
byte_is b h = grind (arith, nat_tests)

each_byte : (bs : List ℕ) → AllByRecursion (λ b. IsTrue (is_key_byte b)) bs → AreBytes bs
each_byte [] h = tt
each_byte (b ∷ bs) h = (byte_is b h.0, each_byte bs h.1)

bytes_of : (key : List ℕ) → IsKey key → AreBytes key
bytes_of key k = each_byte key (recursion_from_All (λ b. IsTrue (is_key_byte b)) key k.each)

-- how many keys may stand behind this one, where there is one
pub keys_behind : Option (List ℕ) → ℕ
keys_behind None = suc (257 ^ 128)
keys_behind (Some key) = 257 ^ 128 - rank 128 key

less_all : (all r : ℕ) → all - r < suc all
less_all all r = omega arith

less_still : (all a b : ℕ) → a < b → b < all → all - b < all - a
less_still all a b rise below = omega arith

pub keys_fall : (behind : Option (List ℕ)) (key : List ℕ) → IfSome behind IsKey → IsKey key → is_behind behind key ≡ true → keys_behind (Some key) < keys_behind behind
unfolding keys_behind
keys_fall None key first next behind = less_all (257 ^ 128) (rank 128 key)
keys_fall (Some before) key first next behind =
    less_still (257 ^ 128) (rank 128 before) (rank 128 key) (rises 128 before key (bytes_of before first) next.short behind) (below_all 128 key (bytes_of key next))
