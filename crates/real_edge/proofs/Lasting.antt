-- A disk that may lose what was not put on it.
use Rattle.std.proofs.Common.{◌≡◌, ◌≢◌, ◌⊎◌, ℕ, Bool, true, false, List, Option, Some, None, Result, Ok, Err, refl, sym, ap, subst, ◌∙◌, inl, inr}
use Rattle.std.specs.Prelude.{is_some}
use Rattle.std.specs.FinMap as finmap
use Rattle.std.specs.declared.alloc.AllocError.{AllocError}
use Rattle.real_edge.specs.declared.faults.Trouble.{Trouble}
use Rattle.real_edge.specs.declared.disk.MakeError.{MakeError}
use Rattle.real_edge.specs.declared.disk.MakeError.TheVariants as makes
use Rattle.real_edge.specs.Disk.{Files, Leaves, MayTurn, Turns, SameBut, HalfMade, Links, LinksTo, LinkFails, Removes, Makes, IsSettled, NoMore, folder_of}
use Rattle.real_edge.specs.MemoryDisk.{IsLeft}
use Rattle.real_edge.proofs.Maps.{cases_same}
use Rattle.real_edge.proofs.Steps.{get_new, get_other, get_left, gone}

pub none_of : (x : Option (List ℕ)) → is_some x ≡ false → x ≡ None
none_of None e = refl
none_of (Some y) e = absurd cc

-- under a name stands this again
abbrev restored : Files → List ℕ → Option (List ℕ) → Files
restored c name None = finmap.remove c name
restored c name (Some x) = finmap.insert c name x

here : (c : Files) (name : List ℕ) (x : Option (List ℕ)) → finmap.get (restored c name x) name ≡ x
here c name None = gone c name
here c name (Some x) = get_new c name x

others : (c : Files) (name : List ℕ) (x : Option (List ℕ)) (q : List ℕ) → q ≢ name → finmap.get (restored c name x) q ≡ finmap.get c q
others c name None q ne = get_left c name q ne
others c name (Some x) q ne = get_other c name x q ne

-- one name came or went, and is not on the disk yet
pub turned : (m n s : Files) (name : List ℕ) (x : Option (List ℕ)) → finmap.get n name ≡ x → ((q : List ℕ) → q ≢ name → finmap.get n q ≡ finmap.get m q) → MayTurn name x (IsLeft m s) (IsLeft n s)
turned m n s name x is same c left = (d, before, record { others = λ q ne. sym (others c name (finmap.get s name) q ne); here = now })
  where
    d : Files
    d = restored c name (finmap.get s name)

    before : IsLeft m s d
    before q = elim (cases_same q name) [
      | inl e ↦ inr (ap (finmap.get d) e ∙ here c name (finmap.get s name) ∙ ap (finmap.get s) (sym e))
      | inr ne ↦ elim (left q) [
        | inl a ↦ inl (others c name (finmap.get s name) q ne ∙ a ∙ same q ne)
        | inr b ↦ inr (others c name (finmap.get s name) q ne ∙ b)
      ]
    ]

    now : (finmap.get c name ≡ finmap.get d name) ⊎ (finmap.get c name ≡ x)
    now = elim (left name) [
      | inl a ↦ inr (a ∙ is)
      | inr b ↦ inl (b ∙ sym (here c name (finmap.get s name)))
    ]

pub stays : (m s : Files) (name : List ℕ) (x : Option (List ℕ)) → MayTurn name x (IsLeft m s) (IsLeft m s)
stays m s name x c left = (c, left, record { others = λ q ne. refl; here = inl refl })

pub added : (m n s : Files) (name content : List ℕ) → is_some (finmap.get m name) ≡ false → n ≡ finmap.insert m name content → (finmap.get m name ≡ None) × (n ≡ finmap.insert m name content) × MayTurn name (Some content) (IsLeft m s) (IsLeft n s)
added m n s name content none e = (
  none_of (finmap.get m name) none,
  e,
  turned m n s name (Some content) (ap (λ (f : Files). finmap.get f name) e ∙ get_new m name content) (λ q ne. ap (λ (f : Files). finmap.get f q) e ∙ get_other m name content q ne),
)

pub taken : (m n s : Files) (name : List ℕ) → n ≡ finmap.remove m name → (n ≡ finmap.remove m name) × MayTurn name None (IsLeft m s) (IsLeft n s)
taken m n s name e = (e, turned m n s name None (ap (λ (f : Files). finmap.get f name) e ∙ gone m name) (λ q ne. ap (λ (f : Files). finmap.get f q) e ∙ get_left m name q ne))

pub unmade : (m s : Files) (name : List ℕ) → HalfMade name m m (IsLeft m s) (IsLeft m s)
unmade m s name = record { others = λ q ne. refl; left = λ c left. (c, left, λ q ne. refl); stood = λ some. (refl, λ c left. left) }

pub linked : (m n s : Files) (from to content : List ℕ) → is_some (finmap.get m to) ≡ false → Some content ≡ finmap.get m from → n ≡ finmap.insert m to content → LinksTo to (finmap.get m from) (IsLeft m s) (IsLeft n s) m n
linked m n s from to content none is e = subst (λ (x : Option (List ℕ)). LinksTo to x (IsLeft m s) (IsLeft n s) m n) is (added m n s to content none e)

pub unlinked : (m s : Files) (to : List ℕ) (x : Option (List ℕ)) → LinkFails to x (IsLeft m s) (IsLeft m s) m m
unlinked m s to None = (refl, λ c left. left)
unlinked m s to (Some content) = inr (refl, λ c left. left)

pub more_synced : (m s : Files) → NoMore (IsLeft m s) (IsLeft m m)
more_synced m s c left q = elim (left q) [ inl a ↦ inl a | inr b ↦ inl b ]

pub all_settled : (m : Files) (name : List ℕ) (way : List ℕ → Type 0) → IsSettled name way m (IsLeft m m)
all_settled m name way = record {
  seen = λ on c left q e. elim (left q) [ inl a ↦ a | inr b ↦ b ];
  no_other = λ c left q e. elim (left q) [ inl a ↦ inl a | inr b ↦ inl b ];
}

pub same_more : (m n s : Files) → n ≡ m → (n ≡ m) × NoMore (IsLeft m s) (IsLeft n s)
same_more m n s e = (e, λ c left. subst (λ (f : Files). IsLeft f s c) e left)

-- a sync leaves no more than what is seen
pub leaves_synced : (m s c : Files) (way : List ℕ → Type 0) → c ≡ m → Leaves (Some m) (Some m) (IsLeft m s) (IsLeft m c) way way
leaves_synced m s c way e = record { same = refl; left = subst (λ (x : Files). NoMore (IsLeft m s) (IsLeft m x)) (sym e) (more_synced m s); ways = λ q h. h }

pub synced_settled : (m c : Files) (name : List ℕ) (way : List ℕ → Type 0) → c ≡ m → IsSettled name way m (IsLeft m c)
synced_settled m c name way e = subst (λ (x : Files). IsSettled name way m (IsLeft m x)) (sym e) (all_settled m name way)
