-- Paths that stood before, kept in a set.
use Rattle.std.proofs.Common.{◌≡◌, ℕ, zero, suc, ◌+◌, ◌||◌, Bool, true, false, not, List, [], ◌∷◌, ◌++◌, append_assoc, take, drop, length, slice_get, get_or, Some, refl, ap, sym, ◌∙◌, arith, ◌<◌}
use Rattle.std.specs.Prelude.{cond}
use Rattle.std.specs.Ordering.{nat_cmp, is_eq}
use Rattle.std.specs.Cmp.Lexicographic.{slice_cmp}
use Rattle.std.specs.Str.{bytes_eq}
use Rattle.std.proofs.lemmas.Map.Text.{is_eq-slice_cmp}
use Rattle.std.proofs.lemmas.Option.{slice_get-get_or}
use Rattle.index_config.specs.declared.raw.RawField.{RawField}
use Rattle.index_config.specs.declared.config_error.ConfigError.{ConfigError}
use Rattle.index_config.specs.Fields.{has_path, doubled, duplicate_faults}

pub parted : (xs : List RawField) (i : ℕ) (x : RawField) → slice_get xs i ≡ Some x → (drop i xs ≡ x ∷ drop (suc i) xs) × (take (suc i) xs ≡ take i xs ++ x ∷ [])
parted [] i x e = absurd (cc)
parted (y ∷ ys) zero x e = let same : y ≡ x = cc in (ap (λ (z : RawField). z ∷ ys) same, ap (λ (z : RawField). z ∷ []) same)
parted (y ∷ ys) (suc i) x e = let more = parted ys i x e in (more.0, ap (λ zs. y ∷ zs) more.1)

pub or_false : (b : Bool) → (b || false) ≡ b
or_false true = refl
or_false false = refl

pub or_more : (b x y z : Bool) → x ≡ (y || z) → (b || x) ≡ ((b || y) || z)
or_more true x y z e = refl
or_more false x y z e = e

has_append : (q : List ℕ) (xs : List RawField) (raw : RawField) → has_path q (xs ++ raw ∷ []) ≡ (has_path q xs || bytes_eq raw.path q)
has_append q [] raw = or_false (bytes_eq raw.path q)
has_append q (r ∷ xs) raw = or_more (bytes_eq r.path q) _ (has_path q xs) (bytes_eq raw.path q) (has_append q xs raw)

pub cond_or : (c x : Bool) → cond c true x ≡ (x || c)
cond_or true true = refl
cond_or true false = refl
cond_or false true = refl
cond_or false false = refl

not_not : (a b : Bool) → a ≡ not b → not a ≡ b
not_not a true e = rw e refl
not_not a false e = rw e refl

pub stands_at : (raws : List RawField) (i : ℕ) (raw : RawField) → i < length raws → raw ≡ get_or raws i raw → slice_get raws i ≡ Some raw
stands_at raws i raw l e = slice_get-get_or raws i raw l ∙ ap Some (sym e)

-- one path more among those that stood
pub seen_step : (raws : List RawField) (i next : ℕ) (raw : RawField) (path q : List ℕ) (old new : Bool) → next ≡ i + 1 → slice_get raws i ≡ Some raw → path ≡ raw.path
    → old ≡ has_path q (take i raws) → new ≡ cond (is_eq (slice_cmp nat_cmp path q)) true old → new ≡ has_path q (take next raws)
seen_step raws i next raw path q old new n at p o e =
    let after : next ≡ suc i = omega arith in
    let same : is_eq (slice_cmp nat_cmp path q) ≡ bytes_eq raw.path q = is_eq-slice_cmp path q ∙ ap (λ x. bytes_eq x q) p in
    let here : new ≡ (has_path q (take i raws) || bytes_eq raw.path q) =
    e ∙ cond_or (is_eq (slice_cmp nat_cmp path q)) old ∙ ap (λ x. x || is_eq (slice_cmp nat_cmp path q)) o ∙ ap (λ x. has_path q (take i raws) || x) same in
    here ∙ sym (has_append q (take i raws) raw) ∙ ap (has_path q) (sym (parted raws i raw at).1) ∙ ap (λ m. has_path q (take m raws)) (sym after)

pub faults_step : (raws : List RawField) (i next : ℕ) (raw : RawField) (path : List ℕ) (whole faults more : List ConfigError) (added stood : Bool) → next ≡ i + 1 → slice_get raws i ≡ Some raw
    → path ≡ raw.path → stood ≡ has_path path (take i raws) → added ≡ not stood → more ≡ faults ++ doubled (not added) raw
    → faults ++ duplicate_faults (take i raws) (drop i raws) ≡ whole → more ++ duplicate_faults (take next raws) (drop next raws) ≡ whole
faults_step raws i next raw path whole faults more added stood n at p s a m h =
    let after : next ≡ suc i = omega arith in
    let parts = parted raws i raw at in
    let rest : List ConfigError = duplicate_faults (take i raws ++ raw ∷ []) (drop (suc i) raws) in
    let before : has_path raw.path (take i raws) ≡ not added = ap (λ x. has_path x (take i raws)) (sym p) ∙ sym s ∙ sym (not_not added stood a) in
    let opened : duplicate_faults (take i raws) (drop i raws) ≡ doubled (has_path raw.path (take i raws)) raw ++ rest = ap (duplicate_faults (take i raws)) parts.0 in
    let closed : more ++ duplicate_faults (take next raws) (drop next raws) ≡ more ++ rest =
    ap (λ k. more ++ duplicate_faults (take k raws) (drop k raws)) after ∙ ap (λ t. more ++ duplicate_faults t (drop (suc i) raws)) parts.1 in
    closed ∙ ap (λ x. x ++ rest) m ∙ append_assoc faults (doubled (not added) raw) rest
    ∙ ap (λ b. faults ++ (doubled b raw ++ rest)) (sym before) ∙ ap (λ x. faults ++ x) (sym opened) ∙ h
