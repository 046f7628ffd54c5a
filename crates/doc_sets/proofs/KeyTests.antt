-- Keys of fields are equal where field and term are.
use Rattle.std.proofs.Common.{◌≡◌, ℕ, ◌/◌, ◌%◌, ◌<◌, ◌≢◌, ◌⊎◌, inl, inr, true, false, List, nat_eq, refl, arith, eq-eqb}
use Rattle.std.specs.Str.{bytes_eq}
use Rattle.std.proofs.lemmas.Bool.{cases_eq, ne_eqb}
use Rattle.split_bundle.specs.Keys.{field_key, presence_key}

pub same_number : (n : ℕ) → nat_eq n n ≡ true
same_number n = eq-eqb n n refl

pub other_number : (m n : ℕ) → m ≢ n → nat_eq m n ≡ false
other_number m n h = ne_eqb m n h

pub same_field : (n : ℕ) (t u : List ℕ) → bytes_eq (field_key n t) (field_key n u) ≡ bytes_eq t u
same_field n t u = rw (same_number (n / 256), same_number (n % 256))

pub other_field : (m n : ℕ) (t u : List ℕ) → m ≢ n → bytes_eq (field_key m t) (field_key n u) ≡ false
other_field m n t u h = go (cases_eq (m / 256) (n / 256)) (cases_eq (m % 256) (n % 256))
  where
    go : ((m / 256 ≡ n / 256) ⊎ (m / 256 ≢ n / 256)) → ((m % 256 ≡ n % 256) ⊎ (m % 256 ≢ n % 256)) → bytes_eq (field_key m t) (field_key n u) ≡ false
    go (inr ne) _ = (rw (other_number (m / 256) (n / 256) ne))
    go (inl e) (inr ne) = rw (e, same_number (n / 256), other_number (m % 256) (n % 256) ne)
    go (inl e) (inl d) = absurd (h (omega arith))

pub no_presence : (m n : ℕ) (u : List ℕ) → n < 65280 → bytes_eq (presence_key m) (field_key n u) ≡ false
no_presence m n u lt = let ne : 255 ≢ n / 256 = (λ e. absurd (omega arith)) in let h = other_number 255 (n / 256) ne in rw (h)
