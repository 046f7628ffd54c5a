-- Numbers of buckets, and answers, one after another.
use Rattle.std.proofs.Common.{◌≡◌, ℕ, zero, suc, ◌<◌, ◌+◌, ◌-◌, ◌^◌, List, [], ◌∷◌, ◌++◌, map, take, length, get_or, min, Option, Some, None, refl, sym, ◌∙◌, ap, subst, arith}
use Rattle.std.proofs.lemmas.List.{take_more, map-append}
use Rattle.std.proofs.lemmas.List.Sums.{sum_by_more}
use Rattle.std.specs.List.{sum_by}
use Rattle.doc_value.specs.declared.doc.DocField.{DocField}
use Rattle.agg_nested.specs.Answers.{told}
use Rattle.agg_nested.specs.Buckets.{GroupsStand, group_at, parts_of}
use Rattle.agg_nested.specs.Groups.{GroupStands}
use Rattle.agg_nested.specs.Partials.{AreStanding}
use Rattle.agg_nested.specs.Spots.{Spot, range, documents_at, places_from}
use Rattle.agg_nested.specs.declared.answer.RangeBucket.{RangeBucket}
use Rattle.agg_nested.specs.declared.flat_part.FlatPart.{FlatPart}
use Rattle.agg_nested.specs.declared.group.Group.{Group}
use Rattle.agg_nested.specs.declared.groups.Groups.{Groups}
use Rattle.agg_nested.specs.declared.request.FlatAgg.{FlatAgg}
use Rattle.agg_nested.specs.declared.request.NamedFlat.{NamedFlat}
use Rattle.agg_nested.proofs.Sums.{told_both, told_more}

-- ---- the spots of an answer

pub places_long : (first : ℕ) (bs : List RangeBucket) → length (places_from first bs) ≡ length bs
places_long first [] = refl
places_long first (b ∷ bs) = let rest = places_long (first + 1) bs in omega (arith, rest)

place_is : (first : ℕ) (bs : List RangeBucket) (i : ℕ) (other : Spot) → i < length bs → get_or (places_from first bs) i other ≡ range (first + i)
place_is first [] i other l = absurd (omega (arith, l))
place_is first (b ∷ bs) zero other l = let same : first ≡ first + 0 = omega arith in ap range same
place_is first (b ∷ bs) (suc i) other l =
    let same : first + 1 + i ≡ first + suc i = omega arith in
    place_is (first + 1) bs i other (omega (arith, l)) ∙ ap range same

pub place_first : (bs : List RangeBucket) (i : ℕ) (other : Spot) → i < length (places_from 0 bs) → get_or (places_from 0 bs) i other ≡ range i
place_first bs i other l =
    let same : 0 + i ≡ i = omega arith in
    place_is 0 bs i other (omega (arith, l, places_long 0 bs)) ∙ ap range same

-- ---- the parts of a bucket

pub parts_stand : (agg : FlatAgg) (nested : List NamedFlat) (vacant : List FlatPart) (groups : Groups) (documents : List (List DocField)) (spot : Spot)
    → AreStanding nested vacant [] → GroupsStand agg nested groups documents → AreStanding nested (parts_of vacant (group_at groups spot)) (documents_at agg documents spot)
parts_stand agg nested vacant groups documents spot none h = at (group_at groups spot) (h.each spot)
  where
    at : (o : Option Group) → GroupStands nested o (documents_at agg documents spot) → AreStanding nested (parts_of vacant o) (documents_at agg documents spot)
    at None e = subst (λ (ds : List (List DocField)). AreStanding nested vacant ds) (sym e) none
    at (Some group) h = h

-- ---- one more

pub told_next : {X : Type 0} (f : X → ℕ) (xs : List X) (i : ℕ) (other : X) (now more next : ℕ) → i < length xs → now ≡ told (sum_by f (take i xs))
    → more ≡ f (get_or xs i other) → next ≡ min (now + more) (2 ^ 128 - 1) → next ≡ told (sum_by f (take (i + 1) xs))
told_next f xs i other now more next l e m n =
    n ∙ rw (e, m, sum_by_more f xs i other l) (told_more (sum_by f (take i xs)) (f (get_or xs i other)))

pub told_after : {X : Type 0} (f : X → ℕ) (xs : List X) (i : ℕ) (other : X) (now more next : ℕ) → i < length xs → now ≡ told (sum_by f (take i xs))
    → more ≡ told (f (get_or xs i other)) → next ≡ min (now + more) (2 ^ 128 - 1) → next ≡ told (sum_by f (take (i + 1) xs))
told_after f xs i other now more next l e m n =
    n ∙ rw (e, m, sum_by_more f xs i other l) (told_both (sum_by f (take i xs)) (f (get_or xs i other)))

pub mapped_next : {X Y : Type 0} (f : X → Y) (xs : List X) (i : ℕ) (other : X) (now next : List Y) (y : Y) → i < length xs → now ≡ map f (take i xs)
    → y ≡ f (get_or xs i other) → next ≡ now ++ y ∷ [] → next ≡ map f (take (i + 1) xs)
mapped_next f xs i other now next y l e m n =
    n ∙ rw (e, m, take_more xs i other l, map-append f (take i xs) (get_or xs i other ∷ [])) refl
