-- Groups are raised in some buckets and then in others, and which documents they stand for then.
use Rattle.std.proofs.Common.{◌≡◌, ◌≢◌, ℕ, ◌+◌, ◌<◌, ◌≤◌, ◌^◌, Bool, true, false, cond, ◌||◌, List, [], ◌∷◌, ◌++◌, length, Option, refl, sym, ◌∙◌, ap, arith, nat_eq}
use Rattle.std.proofs.lemmas.Bool.{false≢true}
use Rattle.std.proofs.lemmas.Cmp.{int_eq_equiv, nat_eq_equiv, nat_list_eq_equiv}
use Rattle.std.proofs.lemmas.List.{append-nil, length-append}
use Rattle.std.proofs.lemmas.List.Elements.{filter-append}
use Rattle.std.proofs.lemmas.List.Sums.{length-filter, count_by-le-length}
use Rattle.std.specs.HashMap.{get, get_by_text}
use Rattle.std.specs.List.{list_any}
use Rattle.std.specs.Ordering.{int_eq}
use Rattle.doc_value.specs.declared.doc.DocField.{DocField}
use Rattle.agg_model.specs.Counting.{Slot, text, signed, unsigned, truth, datetime, same_slot}
use Rattle.agg_nested.specs.Buckets.{group_at, GroupsStand}
use Rattle.agg_nested.specs.Groups.{GroupStands, last_of, CanRaise, IsRaised, IsRaisedAt, CanJoin, AreJoined}
use Rattle.agg_nested.specs.Spots.{Spot, value, step, range, same_spot, has_spot, documents_at}
use Rattle.agg_nested.specs.declared.group.Group.{Group}
use Rattle.agg_nested.specs.declared.groups.Groups.{Groups}
use Rattle.agg_nested.specs.declared.request.FlatAgg.{FlatAgg}
use Rattle.agg_nested.specs.declared.request.NamedFlat.{NamedFlat}

-- ---- raised twice
once_more : (nested : List NamedFlat) (doc : List DocField) (number : ℕ) (a b c : Option Group) → IsRaised nested doc number a b → IsRaised nested doc number b c → IsRaised nested doc number a c
once_more nested doc number a b c h k = record {
  last = k.last;
  first = λ n docs s. k.again h.last (docs ++ doc ∷ []) (h.first n docs s);
  again = λ e docs s. k.again h.last docs (h.again e docs s);
}

or_no : (x y : Bool) → false ≡ x → false ≡ y → (x || y) ≡ true → false ≡ true
or_no false false u v e = e
or_no false true u v e = v
or_no true y u v e = u

or_left : (x y : Bool) → true ≡ x → (x || y) ≡ false → false ≡ true
or_left true y u e = sym e
or_left false y u e = sym u

or_right : (x y : Bool) → true ≡ y → (x || y) ≡ false → false ≡ true
or_right true y u e = sym e
or_right false true u e = sym e
or_right false false u e = sym u

-- in some buckets, and then in others
pub raised_both : {Q : Type 0} (f g h : Q → Bool) (nested : List NamedFlat) (doc : List DocField) (number : ℕ) (old now new : Q → Option Group)
    → ((q : Q) → h q ≡ (f q || g q)) → IsRaisedAt f nested doc number old now → IsRaisedAt g nested doc number now new → IsRaisedAt h nested doc number old new
raised_both {Q} f g h nested doc number old now new all before then = record { here = λ q e. here q (f q) (g q) refl refl (sym (all q) ∙ e); others = λ q e. others q (f q) (g q) refl refl (sym (all q) ∙ e) }
  where
    here : (q : Q) (a b : Bool) → a ≡ f q → b ≡ g q → (f q || g q) ≡ true → IsRaised nested doc number (old q) (new q)
    here q true true u v e = once_more nested doc number (old q) (now q) (new q) (before.here q (sym u)) (then.here q (sym v))
    here q true false u v e = rw (then.others q (sym v)) (before.here q (sym u))
    here q false true u v e = rw (← before.others q (sym u)) (then.here q (sym v))
    here q false false u v e = absurd (false≢true (or_no (f q) (g q) u v e))

    others : (q : Q) (a b : Bool) → a ≡ f q → b ≡ g q → (f q || g q) ≡ false → new q ≡ old q
    others q true b u v e = absurd (false≢true (or_left (f q) (g q) u e))
    others q false true u v e = absurd (false≢true (or_right (f q) (g q) v e))
    others q false false u v e = then.others q (sym v) ∙ before.others q (sym u)

-- the same buckets, tested otherwise
pub raised_as : {Q : Type 0} (f g : Q → Bool) (nested : List NamedFlat) (doc : List DocField) (number : ℕ) (old new : Q → Option Group)
    → ((q : Q) → g q ≡ f q) → IsRaisedAt f nested doc number old new → IsRaisedAt g nested doc number old new
raised_as f g nested doc number old new same h = record { here = λ q e. h.here q (sym (same q) ∙ e); others = λ q e. h.others q (sym (same q) ∙ e) }

-- nothing is raised
pub raised_none : {Q : Type 0} (f : Q → Bool) (nested : List NamedFlat) (doc : List DocField) (number : ℕ) (old : Q → Option Group) → ((q : Q) → f q ≡ false) → IsRaisedAt f nested doc number old old
raised_none f nested doc number old never = record { here = λ q e. absurd (false≢true (sym (never q) ∙ e)); others = λ q e. refl }

-- it can be raised again
pub can_again : {Q : Type 0} (f : Q → Bool) (nested : List NamedFlat) (doc : List DocField) (number : ℕ) (old now : Q → Option Group) (q : Q)
    → IsRaisedAt f nested doc number old now → CanRaise nested number (old q) → CanRaise nested number (now q)
can_again f nested doc number old now q h can ne = go (f q) refl
  where
    go : (b : Bool) → b ≡ f q → (documents : List (List DocField)) × GroupStands nested (now q) documents × (length documents + 1 < 2 ^ 62)
    go true e = absurd (ne (h.here q (sym e)).last)
    go false e =
        let same = h.others q (sym e) in
        rw same (can (λ l. ne (ap last_of same ∙ l)))

-- ---- all seven maps are joined
pub groups_joined : (nested : List NamedFlat) (old others new : Groups) → AreJoined nested (get_by_text old.texts) (get_by_text others.texts) (get_by_text new.texts)
    → AreJoined nested (get int_eq old.signed) (get int_eq others.signed) (get int_eq new.signed) → AreJoined nested (get int_eq old.unsigned) (get int_eq others.unsigned) (get int_eq new.unsigned)
    → AreJoined nested (get int_eq old.truths) (get int_eq others.truths) (get int_eq new.truths) → AreJoined nested (get int_eq old.datetimes) (get int_eq others.datetimes) (get int_eq new.datetimes)
    → AreJoined nested (get int_eq old.steps) (get int_eq others.steps) (get int_eq new.steps) → AreJoined nested (get nat_eq old.ranges) (get nat_eq others.ranges) (get nat_eq new.ranges)
    → AreJoined nested (group_at old) (group_at others) (group_at new)
groups_joined nested old others new a b c d e f g (value (text t)) = a t
groups_joined nested old others new a b c d e f g (value (signed z)) = b z
groups_joined nested old others new a b c d e f g (value (unsigned z)) = c z
groups_joined nested old others new a b c d e f g (value (truth z)) = d z
groups_joined nested old others new a b c d e f g (value (datetime z)) = e z
groups_joined nested old others new a b c d e f g (step z) = f z
groups_joined nested old others new a b c d e f g (range n) = g n

-- ---- the documents of each bucket
same_slot_flip : (a b : Slot) → same_slot a b ≡ same_slot b a
same_slot_flip (text a) (text b) = nat_list_eq_equiv.symm a b
same_slot_flip (signed a) (signed b) = int_eq_equiv.symm a b
same_slot_flip (unsigned a) (unsigned b) = int_eq_equiv.symm a b
same_slot_flip (truth a) (truth b) = int_eq_equiv.symm a b
same_slot_flip (datetime a) (datetime b) = int_eq_equiv.symm a b
same_slot_flip a b = refl

pub same_spot_flip : (a b : Spot) → same_spot a b ≡ same_spot b a
same_spot_flip (value a) (value b) = same_slot_flip a b
same_spot_flip (step a) (step b) = int_eq_equiv.symm a b
same_spot_flip (range a) (range b) = nat_eq_equiv.symm a b
same_spot_flip a b = refl

pub any_flip : (spots : List Spot) (spot : Spot) → list_any (same_spot spot) spots ≡ list_any (λ s. same_spot s spot) spots
any_flip [] spot = refl
any_flip (s ∷ ss) spot = rw (same_spot_flip spot s, any_flip ss spot) refl

pub few_at : (agg : FlatAgg) (documents : List (List DocField)) (spot : Spot) → length (documents_at agg documents spot) ≤ length documents
few_at agg documents spot = rw (length-filter (has_spot agg spot) documents) (count_by-le-length (has_spot agg spot) documents)

pub can_raise : (agg : FlatAgg) (nested : List NamedFlat) (groups : Groups) (documents : List (List DocField)) (number : ℕ) → length documents + 1 < 2 ^ 62
    → GroupsStand agg nested groups documents → (spot : Spot) → CanRaise nested number (group_at groups spot)
can_raise agg nested groups documents number few h spot ne = (documents_at agg documents spot, h.each spot, (let l = few_at agg documents spot in omega arith))

pub groups_raised : (agg : FlatAgg) (nested : List NamedFlat) (old new : Groups) (doc : List DocField) (number : ℕ) (documents : List (List DocField)) → number ≡ length documents + 1
    → GroupsStand agg nested old documents → IsRaisedAt (λ spot. has_spot agg spot doc) nested doc number (group_at old) (group_at new) → GroupsStand agg nested new (documents ++ doc ∷ [])
groups_raised agg nested old new doc number documents is h raised = record { each = λ spot. each spot (has_spot agg spot doc) refl; last = λ spot. last spot (has_spot agg spot doc) refl }
  where
    split : (spot : Spot) → documents_at agg (documents ++ doc ∷ []) spot ≡ documents_at agg documents spot ++ documents_at agg (doc ∷ []) spot
    split spot = filter-append (has_spot agg spot) documents (doc ∷ [])

    one : (spot : Spot) (b : Bool) → has_spot agg spot doc ≡ b → documents_at agg (doc ∷ []) spot ≡ cond b (doc ∷ []) []
    one spot b e = rw e refl

    each : (spot : Spot) (b : Bool) → b ≡ has_spot agg spot doc → GroupStands nested (group_at new spot) (documents_at agg (documents ++ doc ∷ []) spot)
    each spot true e =
        let fresh : last_of (group_at old spot) ≢ number = (λ l. (let low = h.last spot in omega arith)) in
        rw (split spot, one spot true (sym e)) ((raised.here spot (sym e)).first fresh (documents_at agg documents spot) (h.each spot))
    each spot false e = rw (split spot, one spot false (sym e), append-nil (documents_at agg documents spot), raised.others spot (sym e)) (h.each spot)

    last : (spot : Spot) (b : Bool) → b ≡ has_spot agg spot doc → last_of (group_at new spot) ≤ length (documents ++ doc ∷ [])
    last spot true e = let l = (raised.here spot (sym e)).last in let n = length-append documents (doc ∷ []) in omega arith
    last spot false e = let l = ap last_of (raised.others spot (sym e)) in let low = h.last spot in let n = length-append documents (doc ∷ []) in omega arith

pub can_join : (agg : FlatAgg) (nested : List NamedFlat) (a b : Groups) (mine yours : List (List DocField)) → length mine + length yours < 2 ^ 62
    → GroupsStand agg nested a mine → GroupsStand agg nested b yours → (spot : Spot) → CanJoin nested (group_at a spot) (group_at b spot)
can_join agg nested a b mine yours few h k spot =
    (documents_at agg mine spot, documents_at agg yours spot, h.each spot, k.each spot, (let l = few_at agg mine spot in let m = few_at agg yours spot in omega arith))

pub groups_merged : (agg : FlatAgg) (nested : List NamedFlat) (old others new : Groups) → AreJoined nested (group_at old) (group_at others) (group_at new)
    → (mine yours : List (List DocField)) → GroupsStand agg nested old mine → GroupsStand agg nested others yours → GroupsStand agg nested new (mine ++ yours)
groups_merged agg nested old others new joined mine yours h k = record {
  each = λ spot. rw (filter-append (has_spot agg spot) mine yours) ((joined spot).stands (documents_at agg mine spot) (documents_at agg yours spot) (h.each spot) (k.each spot));
  last = λ spot. (let l = (joined spot).last in let low = h.last spot in let n = length-append mine yours in omega arith);
}
