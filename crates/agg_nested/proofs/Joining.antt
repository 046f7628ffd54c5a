-- Groups are raised and joined, each under its key.
use Rattle.std.proofs.Common.{◌≡◌, ℕ, Bool, true, false, cond, List, ◌∷◌, ◌++◌, Option, Some, None, refl, sym, ◌∙◌, ap, subst}
use Rattle.std.proofs.lemmas.List.{append-nil}
use Rattle.std.proofs.lemmas.Bool.{false≢true}
use Rattle.std.proofs.lemmas.Option.{none-some}
use Rattle.std.specs.Bool.{Decides}
use Rattle.std.specs.Map.{lookup}
use Rattle.std.specs.Prelude.{Result, Ok, Err, OnOk}
use Rattle.doc_value.specs.declared.doc.DocField.{DocField}
use Rattle.agg_nested.specs.Groups.{GroupStands, IsRaised, IsRaisedAt, CanJoin, IsJoined, IsJoinedAt}
use Rattle.agg_nested.specs.declared.group.Group.{Group}
use Rattle.agg_nested.specs.declared.request.NamedFlat.{NamedFlat}

-- what follows of an Ok
pub ok_then : {T E : Type 0} {A B : Type 0} (r : Result T E) → (A → B) → OnOk r A → OnOk r B
ok_then (Ok x) f a = f a
ok_then (Err e) f a = tt

-- the group of one key was raised
pub put_raised : {Q : Type 0} (at : Q → Bool) (key : Q) (nested : List NamedFlat) (doc : List DocField) (number : ℕ) (old new : Q → Option Group) (was is : Group)
    → ((q : Q) → at q ≡ true → key ≡ q) → old key ≡ Some was → ((q : Q) → new q ≡ cond (at q) (Some is) (old q))
    → IsRaised nested doc number (Some was) (Some is) → IsRaisedAt at nested doc number old new
put_raised {Q} at key nested doc number old new was is same before step h = record {
  here = here;
  others = λ q e. step q ∙ ap (λ b. cond b (Some is) (old q)) e;
}
  where
    here : (q : Q) → at q ≡ true → IsRaised nested doc number (old q) (new q)
    here q e =
        let o : old q ≡ Some was = ap old (sym (same q e)) ∙ before in
        let n : new q ≡ Some is = step q ∙ ap (λ b. cond b (Some is) (old q)) e in
        rw (o, n) h

-- to the group of one key another was joined
pub put_joined : {Q : Type 0} (at : Q → Bool) (key : Q) (nested : List NamedFlat) (other : Group) (old new : Q → Option Group) (was is : Group)
    → ((q : Q) → at q ≡ true → key ≡ q) → old key ≡ Some was → ((q : Q) → new q ≡ cond (at q) (Some is) (old q))
    → IsJoined nested (Some was) (Some other) (Some is) → IsJoinedAt at nested other old new
put_joined {Q} at key nested other old new was is same before step h = record {
  here = here;
  others = λ q e. step q ∙ ap (λ b. cond b (Some is) (old q)) e;
}
  where
    here : (q : Q) → at q ≡ true → IsJoined nested (old q) (Some other) (new q)
    here q e =
        let o : old q ≡ Some was = ap old (sym (same q e)) ∙ before in
        let n : new q ≡ Some is = step q ∙ ap (λ b. cond b (Some is) (old q)) e in
        rw (o, n) h

-- nothing is joined
pub joined_none : (nested : List NamedFlat) (o : Option Group) → IsJoined nested o None o
joined_none nested o = record {
  last = refl;
  stands = λ mine yours h k. subst (GroupStands nested o) (sym (ap (λ ys. mine ++ ys) k ∙ append-nil mine)) h;
}

-- some groups are joined, and others are left
pub record IsLeft {Q : Type 0} (nested : List NamedFlat) (old other now left : Q → Option Group) : Type 0 where
  pub joined : (q : Q) → left q ≡ None → IsJoined nested (old q) (other q) (now q)
  pub waits : (q : Q) (group : Group) → left q ≡ Some group → (other q ≡ Some group) × (now q ≡ old q)

pub all_left : {Q : Type 0} (nested : List NamedFlat) (old other : Q → Option Group) → IsLeft nested old other old other
all_left nested old other = record {
  joined = λ q e. rw e (joined_none nested (old q));
  waits = λ q group e. (e, refl);
}

-- a group that is left can be joined
pub can_join_left : {Q : Type 0} (nested : List NamedFlat) (old other now left : Q → Option Group) (q : Q) (group : Group) → IsLeft nested old other now left → left q ≡ Some group
    → CanJoin nested (old q) (other q) → CanJoin nested (now q) (Some group)
can_join_left nested old other now left q group h e can =
    let w = h.waits q group e in
    subst (λ o. CanJoin nested o (Some group)) (sym w.1) (subst (λ o. CanJoin nested (old q) o) w.0 can)

module _ {K Q : Type 0} (key : K → Q) (test : Q → K → Bool) (same : (q : Q) (k : K) → Decides (test q k) (q ≡ key k)) where
  pub first_left : (k : K) (v : Group) (rest : List (K × Group)) → lookup (test (key k)) ((k, v) ∷ rest) ≡ Some v
  first_left k v rest = ap (λ b. cond b (Some v) (lookup (test (key k)) rest)) ((same (key k) k).1 refl)

  -- one more is joined
  pub left_more : (nested : List NamedFlat) (old other now new : Q → Option Group) (at : Q → Bool) (k : K) (v : Group) (rest : List (K × Group))
      → ((q : Q) → Decides (at q) (key k ≡ q))
      → IsLeft nested old other now (λ q. lookup (test q) ((k, v) ∷ rest)) → IsJoinedAt at nested v now new → lookup (test (key k)) rest ≡ None
      → IsLeft nested old other new (λ q. lookup (test q) rest)
  left_more nested old other now new at k v rest decides before step none = record { joined = λ q e. joined q e (test q k) refl; waits = λ q g e. waits q g e (test q k) refl }
    where
      at_false : (q : Q) → test q k ≡ false → at q ≡ false
      at_false q e = go (at q) refl
        where
          go : (b : Bool) → b ≡ at q → at q ≡ false
          go true f = absurd (false≢true (sym e ∙ (same q k).1 (sym ((decides q).0 (sym f)))))
          go false f = sym f

      at_key : (q : Q) → test q k ≡ true → lookup (test q) ((k, v) ∷ rest) ≡ Some v
      at_key q e = ap (λ b. cond b (Some v) (lookup (test q) rest)) e

      not_key : (q : Q) → test q k ≡ false → lookup (test q) ((k, v) ∷ rest) ≡ lookup (test q) rest
      not_key q e = ap (λ b. cond b (Some v) (lookup (test q) rest)) e

      joined : (q : Q) → lookup (test q) rest ≡ None → (b : Bool) → b ≡ test q k → IsJoined nested (old q) (other q) (new q)
      joined q e true f =
          let w = before.waits q v (at_key q (sym f)) in
          let s = step.here q ((decides q).1 (sym ((same q k).0 (sym f)))) in
          rw (w.0, ← w.1) s
      joined q e false f = rw (step.others q (at_false q (sym f))) (before.joined q (not_key q (sym f) ∙ e))

      waits : (q : Q) (g : Group) → lookup (test q) rest ≡ Some g → (b : Bool) → b ≡ test q k → (other q ≡ Some g) × (new q ≡ old q)
      waits q g e true f =
          let gone : lookup (test q) rest ≡ None = ap (λ p. lookup (test p) rest) ((same q k).0 (sym f)) ∙ none in
          absurd (none-some g (sym gone ∙ e))
      waits q g e false f =
          let w = before.waits q g (not_key q (sym f) ∙ e) in
          (w.0, step.others q (at_false q (sym f)) ∙ w.1)
