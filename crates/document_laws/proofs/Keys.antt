-- Keys in byte order, and members whose keys rise.
use Rattle.std.proofs.Common.{◌≡◌, ℕ, List, true, false, Some, None, refl, sym, ap, ◌∙◌}
use Rattle.std.specs.Ordering.{nat_cmp, is_eq, ordering_reverse}
use Rattle.std.specs.Str.{bytes_eq}
use Rattle.std.specs.Cmp.Lexicographic.{slice_cmp}
use Rattle.std.specs.declared.cmp.Ordering.{Ordering}
use Rattle.std.specs.declared.cmp.Ordering.TheVariants.{Less, Equal, Greater}
use Rattle.std.proofs.lemmas.Cmp.{nat_list_cmp_total, tied_itself}
use Rattle.std.proofs.lemmas.Map.Text.{is_eq-slice_cmp}
use Rattle.std.proofs.lemmas.Slice.Eq.{bytes_eq-Decides}
use Rattle.doc_value.specs.Documents.{IsBefore}
use Rattle.serde_json.specs.Data.{Data, Members, no_members, member, put}
use Rattle.serde_json.specs.Find.{get_member}

pub before-trans : (a b c : List ℕ) → IsBefore a b → IsBefore b c → IsBefore a c
before-trans a b c p q = nat_list_cmp_total.trans a b c p q

pub same-key : (a b : List ℕ) → slice_cmp nat_cmp a b ≡ Equal → a ≡ b
same-key a b h = (bytes_eq-Decides a b).0 (sym (is_eq-slice_cmp a b) ∙ ap is_eq h)

pub equal-key : (a : List ℕ) → slice_cmp nat_cmp a a ≡ Equal
equal-key a = tied_itself nat_list_cmp_total a

pub same-bytes : (a : List ℕ) → bytes_eq a a ≡ true
same-bytes a = (bytes_eq-Decides a a).1 refl

pub other-bytes : (a b : List ℕ) → IsBefore a b → bytes_eq a b ≡ false
other-bytes a b h = sym (is_eq-slice_cmp a b) ∙ ap is_eq h

pub turned : (a b : List ℕ) (o : Ordering) → slice_cmp nat_cmp a b ≡ o → slice_cmp nat_cmp b a ≡ ordering_reverse o
turned a b o e = nat_list_cmp_total.antisymm b a ∙ ap ordering_reverse e

-- a key comes before another, is it, or comes behind it
pub data Order (a b : List ℕ) : Type 0 where
  before : IsBefore a b → Order a b
  same : a ≡ b → Order a b
  behind : IsBefore b a → Order a b

pub order : (a b : List ℕ) → Order a b
order a b = go (slice_cmp nat_cmp a b) refl
  where
    go : (o : Ordering) → slice_cmp nat_cmp a b ≡ o → Order a b
    go Less h = before h
    go Equal h = same (same-key a b h)
    go Greater h = behind (turned a b Greater h)

-- what an object has at its first key, and at another
pub get-first : (k : List ℕ) (d : Data) (ms : Members) → get_member k (member k d ms) ≡ Some d
get-first k d ms = rw (equal-key k) refl

pub get-behind : (k l : List ℕ) (d : Data) (ms : Members) → IsBefore k l → get_member k (member l d ms) ≡ get_member k ms
get-behind k l d ms h = rw h refl

pub get-later : (k l : List ℕ) (d : Data) (ms : Members) → IsBefore l k → get_member k (member l d ms) ≡ get_member k ms
get-later k l d ms h = rw (turned l k Less h) refl

-- a key comes before all of these members
abbrev pub Above : List ℕ → Members → Type 0
Above k no_members = Unit {0}
Above k (member l d ms) = IsBefore k l × Above k ms

pub above-trans : (a b : List ℕ) (ms : Members) → IsBefore a b → Above b ms → Above a ms
above-trans a b no_members p h = tt
above-trans a b (member l d ms) p h = (before-trans a b l p h.0, above-trans a b ms p h.1)

pub get-none : (k : List ℕ) (ms : Members) → Above k ms → get_member k ms ≡ None
get-none k no_members h = refl
get-none k (member l d ms) h = get-behind k l d ms h.0 ∙ get-none k ms h.1

-- members behind others
abbrev pub join : Members → Members → Members
join no_members ms = ms
join (member k d done) ms = member k d (join done ms)

pub join-more : (done : Members) (k : List ℕ) (d : Data) (ms : Members) → join (join done (member k d no_members)) ms ≡ join done (member k d ms)
join-more no_members k d ms = refl
join-more (member l e done) k d ms = ap (member l e) (join-more done k d ms)

pub join-none : (done : Members) → join done no_members ≡ done
join-none no_members = refl
join-none (member l e done) = ap (member l e) (join-none done)

above-joined : (l : List ℕ) (done : Members) (k : List ℕ) (d : Data) (ms : Members) → Above l (join done (member k d ms)) → IsBefore l k
above-joined l no_members k d ms h = h.0
above-joined l (member m e done) k d ms h = above-joined l done k d ms h.1

-- each key comes before all others behind it
abbrev pub Rises : Members → Type 0
Rises no_members = Unit {0}
Rises (member k d ms) = Above k ms × Rises ms

-- a key that is put behind all others comes last
pub put-last : (done : Members) (k : List ℕ) (d : Data) (ms : Members) → Rises (join done (member k d ms)) → put k d done ≡ join done (member k d no_members)
put-last no_members k d ms h = refl
put-last (member l e done) k d ms h = rw (turned l k Less (above-joined l done k d ms h.0)) (ap (member l e) (put-last done k d ms h.1))
