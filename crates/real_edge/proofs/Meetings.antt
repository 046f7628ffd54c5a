-- Names that a walk comes to, and what it gives of them.
use Rattle.std.proofs.Common.{◌≡◌, ◌⊎◌, ℕ, ◌+◌, ◌<◌, ◌≤◌, Bool, true, false, cond, List, [], ◌∷◌, ◌++◌, length, take, Option, Some, None, Result, Ok, Err, refl, sym, ap, subst, ◌∙◌, inl, inr, arith}
use Rattle.std.specs.Prelude.{IfOk, IfSome, IfNone, Contains, IsSortedBy}
use Rattle.real_edge.specs.declared.disk.DiskError.{DiskError}
use Rattle.std.specs.Option.{option_to_list}
use Rattle.std.proofs.lemmas.List.{append-nil, length-append, take_at, take_all}
use Rattle.std.proofs.lemmas.List.Elements.{Contains-append_left, Contains-append_right, Contains-push}
use Rattle.object_store.specs.Key.{IsKey}
use Rattle.object_store.specs.Store.{is_wanted, listed}
use Rattle.real_edge.specs.declared.waiting.Wait.{Wait}
use Rattle.real_edge.specs.declared.folder_walk.Walk.{Walk}
use Rattle.real_edge.specs.declared.disk.Standing.TheVariants as standings
use Rattle.real_edge.specs.Disk.{Files, Begins, NoneWithin, Looks}
use Rattle.real_edge.specs.Names.{is_object}
use Rattle.real_edge.specs.Objects.{objects_of}
use Rattle.real_edge.specs.Waiting.{IsFirst, is_behind_key}
use Rattle.real_edge.specs.Walk.{LeadsBy, Leads, IsSought, Covers, IsCovering, Gives, Goes, Meets, MeetsWithin, left_of, may_have}
use Rattle.real_edge.proofs.Ordered.{last_first, order_kept, taken_or_waits}
use Rattle.real_edge.proofs.Walks.{true_false, may_lead, object_front, none_left, take_given, take_none, take_folder, unsought, absent}
use Rattle.real_edge.proofs.Wheres.{if_map, if_both}

-- ---- a name is taken from those that wait

pub popped_order : (old new : List Wait) (r : Option Wait) → old ≡ new ++ option_to_list r → IsSortedBy is_behind_key old → IsSortedBy is_behind_key new
popped_order old new None e up = subst (λ (l : List Wait). IsSortedBy is_behind_key l) (e ∙ append-nil new) up
popped_order old new (Some w) e up = order_kept new w (subst (λ (l : List Wait). IsSortedBy is_behind_key l) e up)

pub popped_first : (old new : List Wait) (r : Option Wait) → old ≡ new ++ option_to_list r → IsSortedBy is_behind_key old → IfSome r (λ w. IsFirst w.key new)
popped_first old new None e up = tt
popped_first old new (Some w) e up = last_first new w (subst (λ (l : List Wait). IsSortedBy is_behind_key l) e up)

pub popped_rest : (old new : List Wait) (r : Option Wait) → old ≡ new ++ option_to_list r → IfSome r (λ w. (x : Wait) → Contains old x → (x ≡ w) ⊎ Contains new x)
popped_rest old new None e = tt
popped_rest old new (Some w) e = λ x h. taken_or_waits new w x (subst (λ (l : List Wait). Contains l x) e h)

-- ---- names that are worth a look

some_slash : (name : List ℕ) → 0 < length (name ++ 47 ∷ [])
some_slash name = omega (arith, length-append name (47 ∷ []))

pub meets_one : (prefix : List ℕ) (after : Option (List ℕ)) (name : List ℕ) (w : Wait) → w.key ≡ name → w.is_folder ≡ false → Meets prefix after name (w ∷ [])
meets_one prefix after name w key not q is wanted led =
    (w, Contains-push [] w, subst (λ (b : Bool). LeadsBy b w.key q) (sym not) (subst (λ (k : List ℕ). LeadsBy false k q) (sym key) led))

-- a name that is no key, with the slash behind it
pub meets_slash : (prefix : List ℕ) (after : Option (List ℕ)) (name : List ℕ) (w : Wait) → is_object name ≡ false → w.key ≡ name ++ 47 ∷ [] → w.is_folder ≡ true → Meets prefix after name (w ∷ [])
meets_slash prefix after name w not key folder q is wanted (inl e) = absurd (true_false (sym is ∙ ap is_object e ∙ not))
meets_slash prefix after name w not key folder q is wanted (inr h) =
    (w, Contains-push [] w, subst (λ (b : Bool). LeadsBy b w.key q) (sym folder) (subst (λ (k : List ℕ). Begins k q) (sym key) h))

pub meets_other : (prefix : List ℕ) (after : Option (List ℕ)) (name : List ℕ) → is_object name ≡ false → is_object (name ++ 47 ∷ []) ≡ false → Meets prefix after name []
meets_other prefix after name not none q is wanted (inl e) = absurd (true_false (sym is ∙ ap is_object e ∙ not))
meets_other prefix after name not none q is wanted (inr h) = absurd (true_false (sym (object_front (name ++ 47 ∷ []) q (some_slash name) h is) ∙ none))

pub meets_nothing : (prefix : List ℕ) (after : Option (List ℕ)) (name : List ℕ) → is_wanted prefix after name ≡ false → may_have prefix after (name ++ 47 ∷ []) ≡ false → Meets prefix after name []
meets_nothing prefix after name not none q is wanted (inl e) = absurd (true_false (sym wanted ∙ ap (is_wanted prefix after) e ∙ not))
meets_nothing prefix after name not none q is wanted (inr h) = absurd (true_false (sym (may_lead prefix after (name ++ 47 ∷ []) q wanted h) ∙ none))

pub meets_added : (prefix : List ℕ) (after : Option (List ℕ)) (name : List ℕ) (old new : List Wait) (w : Wait) → new ≡ old ++ w ∷ [] → Meets prefix after name (w ∷ []) → Meets prefix after name new
meets_added prefix after name old new w e meets q is wanted led =
    let found = meets q is wanted led in
    (found.0, subst (λ (l : List Wait). Contains l found.0) (sym e) (Contains-append_right old (w ∷ []) found.0 found.1), found.2)

pub rest_added : (old new : List Wait) (w : Wait) → new ≡ old ++ w ∷ [] → (x : Wait) → Contains old x → Contains new x
rest_added old new w e x h = subst (λ (l : List Wait). Contains l x) (sym e) (Contains-append_left old (w ∷ []) x h)

pub meets_more : (prefix : List ℕ) (after : Option (List ℕ)) (name : List ℕ) (old new : List Wait) → ((w : Wait) → Contains old w → Contains new w) → Meets prefix after name old → Meets prefix after name new
meets_more prefix after name old new more meets q is wanted led =
    let found = meets q is wanted led in
    (found.0, more found.0 found.1, found.2)

-- ---- names within a folder

pub within_other : (prefix : List ℕ) (after : Option (List ℕ)) (name : List ℕ) (ws : List Wait) → is_object (name ++ 47 ∷ []) ≡ false → MeetsWithin prefix after name ws
within_other prefix after name ws not q is wanted h = absurd (true_false (sym (object_front (name ++ 47 ∷ []) q (some_slash name) h is) ∙ not))

pub within_nothing : (prefix : List ℕ) (after : Option (List ℕ)) (name : List ℕ) (ws : List Wait) → may_have prefix after (name ++ 47 ∷ []) ≡ false → MeetsWithin prefix after name ws
within_nothing prefix after name ws none q is wanted h = absurd (true_false (sym (may_lead prefix after (name ++ 47 ∷ []) q wanted h) ∙ none))

pub within_one : (prefix : List ℕ) (after : Option (List ℕ)) (name : List ℕ) (ws : List Wait) (w : Wait) → w.key ≡ name ++ 47 ∷ [] → w.is_folder ≡ true → Contains ws w → MeetsWithin prefix after name ws
within_one prefix after name ws w key folder has q is wanted h =
    (w, has, subst (λ (b : Bool). LeadsBy b w.key q) (sym folder) (subst (λ (k : List ℕ). Begins k q) (sym key) h))

-- ---- what is given of a name

covers_as : (p p' : List ℕ) (a a' : Option (List ℕ)) (ws ws' : List Wait) (f : Files) → p' ≡ p → a' ≡ a → ws' ≡ ws → Covers p a ws f → Covers p' a' ws' f
covers_as p p' a a' ws ws' f e1 e2 e3 h =
    subst (λ (x : List ℕ). Covers x a' ws' f) (sym e1) (subst (λ (x : Option (List ℕ)). Covers p x ws' f) (sym e2) (subst (λ (x : List Wait). Covers p a x f) (sym e3) h))

left_as : (p p' : List ℕ) (a a' : Option (List ℕ)) (f : Files) → p' ≡ p → a' ≡ a → listed p' a' (objects_of f) ≡ listed p a (objects_of f)
left_as p p' a a' f e1 e2 = λ i. listed (e1 i) (e2 i) (objects_of f)

pub take_plain : (t : Option Files) (old new : Walk) (n : Wait) (given : Bool) → n.is_folder ≡ false → IsKey n.key → given ≡ is_wanted old.prefix old.after n.key
    → new.prefix ≡ old.prefix → new.after ≡ cond given (Some n.key) old.after → new.waiting ≡ old.waiting → IsFirst n.key old.waiting
    → IfSome t (Covers old.prefix old.after (n ∷ old.waiting)) → IfSome t (Looks n.key standings.PlainFile) → IfSome t (Gives given n.key old new)
take_plain t old new n true not key sought prefix after waiting first covers looks =
    if_map t {Q = λ f. (listed old.prefix old.after (objects_of f) ≡ n.key ∷ listed old.prefix (Some n.key) (objects_of f)) × Covers old.prefix (Some n.key) old.waiting f} {R = Gives true n.key old new} (λ f h. (
      h.0 ∙ ap (λ (l : List (List ℕ)). n.key ∷ l) (sym (left_as old.prefix new.prefix (Some n.key) new.after f prefix after)),
      covers_as old.prefix new.prefix (Some n.key) new.after old.waiting new.waiting f prefix after waiting h.1,
    )) (take_given t old.prefix old.after n old.waiting not key (sym sought) first covers looks)
take_plain t old new n false not key sought prefix after waiting first covers looks =
    if_map t {Q = Covers old.prefix old.after old.waiting} {R = Gives false n.key old new} (λ f h. (after, covers_as old.prefix new.prefix old.after new.after old.waiting new.waiting f prefix after waiting h))
    (take_none t old.prefix old.after n old.waiting not covers
    (if_map t {Q = Looks n.key standings.PlainFile} {R = λ f. (IsSought old.prefix old.after f n.key → ⊥) × NoneWithin n.key f} (λ f l. unsought old.prefix old.after f n.key (sym sought) l) looks))

-- nothing is there, or what is no file
pub take_nothing : (t : Option Files) (old : Walk) (n : Wait) → n.is_folder ≡ false → IfSome t (Covers old.prefix old.after (n ∷ old.waiting))
    → IfSome t (Looks n.key standings.Nothing) → IfSome t (Gives false n.key old old)
take_nothing t old n not covers looks =
    if_map t {Q = Covers old.prefix old.after old.waiting} {R = Gives false n.key old old} (λ f h. (refl, h))
    (take_none t old.prefix old.after n old.waiting not covers
    (if_map t {Q = Looks n.key standings.Nothing} {R = λ f. (IsSought old.prefix old.after f n.key → ⊥) × NoneWithin n.key f} (λ f l. absent old.prefix old.after f n.key l) looks))

pub take_within : (t : Option Files) (old new : Walk) (n : Wait) → n.is_folder ≡ false → new.prefix ≡ old.prefix → new.after ≡ old.after → MeetsWithin old.prefix old.after n.key new.waiting
    → ((w : Wait) → Contains old.waiting w → Contains new.waiting w) → IfSome t (Covers old.prefix old.after (n ∷ old.waiting)) → IfSome t (Looks n.key standings.Folder) → IfSome t (Gives false n.key old new)
take_within t old new n not prefix after meets rest covers looks =
    if_map t {Q = Covers old.prefix old.after new.waiting} {R = Gives false n.key old new} (λ f h. (after, covers_as old.prefix new.prefix old.after new.after new.waiting new.waiting f prefix after refl h))
    (take_folder t old.prefix old.after n old.waiting new.waiting not meets rest covers looks)

pub take_read : (t : Option Files) (old new : Walk) (key : List ℕ) → new.after ≡ old.after → IfSome t (IsCovering new) → IfSome t (Gives false key old new)
take_read t old new key after covers = if_map t {Q = IsCovering new} {R = Gives false key old new} (λ f h. (after, h)) covers

-- ---- a step of a page

joined : (a b c : List (List ℕ)) → (a ++ b) ++ c ≡ a ++ (b ++ c)
joined [] b c = refl
joined (x ∷ a) b c = ap (λ (z : List (List ℕ)). x ∷ z) (joined a b c)

-- a key is given
pub goes_given : (t : Option Files) (old new : Walk) (key : List ℕ) (keys keys' : List (List ℕ)) → keys' ≡ keys ++ key ∷ [] → IfSome t (Gives true key old new) → IfSome t (Goes true keys keys' old new)
goes_given t old new key keys keys' e = if_map t {Q = Gives true key old new} {R = Goes true keys keys' old new} (λ f h. (
  ap (λ (l : List (List ℕ)). keys ++ l) h.0 ∙ sym (joined keys (key ∷ []) (left_of new f)) ∙ ap (λ (l : List (List ℕ)). l ++ left_of new f) (sym e),
  h.1,
))

-- none is given
pub goes_passed : (t : Option Files) (old new : Walk) (key : List ℕ) (keys : List (List ℕ)) → new.prefix ≡ old.prefix → IfSome t (Gives false key old new) → IfSome t (Goes true keys keys old new)
goes_passed t old new key keys prefix = if_map t {Q = Gives false key old new} {R = Goes true keys keys old new} (λ f h. (
  ap (λ (l : List (List ℕ)). keys ++ l) (sym (left_as old.prefix new.prefix old.after new.after f prefix h.0)),
  h.1,
))

-- no name is left
pub goes_ended : (t : Option Files) (walk new : Walk) (keys : List (List ℕ)) → walk.waiting ≡ [] → new.prefix ≡ walk.prefix → new.after ≡ walk.after
    → ((f : Files) → Covers walk.prefix walk.after [] f → Covers walk.prefix walk.after new.waiting f) → IfSome t (IsCovering walk) → IfSome t (Goes false keys keys walk new)
goes_ended t walk new keys none prefix after more = if_map t {Q = IsCovering walk} {R = Goes false keys keys walk new} (λ f h.
    let empty : Covers walk.prefix walk.after [] f = subst (λ (ws : List Wait). Covers walk.prefix walk.after ws f) none h in
    (refl, none_left walk.prefix walk.after f empty, covers_as walk.prefix new.prefix walk.after new.after new.waiting new.waiting f prefix after refl (more f empty)))

-- nothing leads to what is sought, so whatever waits covers it
pub covers_any : (prefix : List ℕ) (after : Option (List ℕ)) (ws : List Wait) (f : Files) → Covers prefix after [] f → Covers prefix after ws f
covers_any prefix after ws f h q is = let led = h q is in absurd (none led.0 led.1)
  where
    none : (w : Wait) → Contains [] w → ⊥
    none w k = omega (arith, k.1)

-- ---- a page

-- a walk of the same prefix and place, with the same names
pub covers_walk : (t : Option Files) (old new : Walk) → new.prefix ≡ old.prefix → new.after ≡ old.after → new.waiting ≡ old.waiting → IfSome t (IsCovering old) → IfSome t (IsCovering new)
covers_walk t old new prefix after waiting = if_map t {Q = IsCovering old} {R = IsCovering new} (λ f h. covers_as old.prefix new.prefix old.after new.after old.waiting new.waiting f prefix after waiting h)

-- the keys of a page are those of its walk
pub page_keys : (a b : Option Files) (walk : Walk) (keys : List (List ℕ)) (prefix : List ℕ) (after : Option (List ℕ)) (max : ℕ) → b ≡ a → walk.prefix ≡ prefix → walk.after ≡ after
    → IfSome b (λ f. keys ≡ take max (left_of walk f)) → IfSome a (λ f. keys ≡ take max (listed prefix after (objects_of f)))
page_keys a b walk keys prefix after max same p e h =
    if_map a {Q = λ f. keys ≡ take max (left_of walk f)} {R = λ f. keys ≡ take max (listed prefix after (objects_of f))} (λ f k. k ∙ ap (take max) (left_as prefix walk.prefix after walk.after f p e))
    (subst (λ (x : Option Files). IfSome x (λ f. keys ≡ take max (left_of walk f))) same h)

-- what was given, behind a step
pub page_goes : (t : Option Files) (start old new : Walk) (keys keys' : List (List ℕ)) → IfSome t (λ f. (left_of start f ≡ keys ++ left_of old f) × IsCovering old f) → IfSome t (Goes true keys keys' old new)
    → IfSome t (λ f. (left_of start f ≡ keys' ++ left_of new f) × IsCovering new f)
page_goes t start old new keys keys' h g =
    if_both t {P = λ f. (left_of start f ≡ keys ++ left_of old f) × IsCovering old f} {Q = Goes true keys keys' old new} {R = λ f. (left_of start f ≡ keys' ++ left_of new f) × IsCovering new f} (λ f p q. (p.0 ∙ q.0, q.1)) h g

pub page_full : (t : Option Files) (start mid : Walk) (keys : List (List ℕ)) (max : ℕ) → length keys ≡ max → IfSome t (λ f. (left_of start f ≡ keys ++ left_of mid f) × IsCovering mid f) → IfSome t (λ f. keys ≡ take max (left_of start f))
page_full t start mid keys max len = if_map t {Q = λ f. (left_of start f ≡ keys ++ left_of mid f) × IsCovering mid f} {R = λ f. keys ≡ take max (left_of start f)} (λ f h. sym (ap (take max) h.0 ∙ take_at keys (left_of mid f) max len))

pub page_ended : (t : Option Files) (start old new : Walk) (keys keys' : List (List ℕ)) (max : ℕ) → length keys ≤ max → IfSome t (λ f. (left_of start f ≡ keys ++ left_of old f) × IsCovering old f) → IfSome t (Goes false keys keys' old new)
    → IfSome t (λ f. keys' ≡ take max (left_of start f))
page_ended t start old new keys keys' max len h g =
    if_both t {P = λ f. (left_of start f ≡ keys ++ left_of old f) × IsCovering old f} {Q = Goes false keys keys' old new} {R = λ f. keys' ≡ take max (left_of start f)} (λ f p q.
    let all : left_of start f ≡ keys = p.0 ∙ ap (λ (l : List (List ℕ)). keys ++ l) q.1 ∙ append-nil keys in
    q.0 ∙ sym (ap (take max) all ∙ take_all max keys len)) h g

pub page_covers : (t : Option Files) (keys keys' : List (List ℕ)) (old new : Walk) → IfSome t (Goes false keys keys' old new) → IfSome t (IsCovering new)
page_covers t keys keys' old new = if_map t {Q = Goes false keys keys' old new} {R = IsCovering new} (λ f g. g.2)

pub page_covered : (t : Option Files) (start mid : Walk) (keys : List (List ℕ)) → IfSome t (λ f. (left_of start f ≡ keys ++ left_of mid f) × IsCovering mid f) → IfSome t (IsCovering mid)
page_covered t start mid keys = if_map t {Q = λ f. (left_of start f ≡ keys ++ left_of mid f) × IsCovering mid f} {R = IsCovering mid} (λ f h. h.1)

-- a page begins
pub page_begun : (t : Option Files) (walk : Walk) → IfSome t (IsCovering walk) → IfSome t (λ f. (left_of walk f ≡ [] ++ left_of walk f) × IsCovering walk f)
page_begun t walk = if_map t {Q = IsCovering walk} {R = λ f. (left_of walk f ≡ [] ++ left_of walk f) × IsCovering walk f} (λ f h. (refl, h))

-- what is said of a walk whose first name was taken is said of the walk
pub goes_of : (t : Option Files) (r : Result Bool DiskError) (keys keys' : List (List ℕ)) (mid old new : Walk) → old.prefix ≡ mid.prefix → old.after ≡ mid.after
    → IfOk r (λ more. IfSome t (Goes more keys keys' mid new)) → IfOk r (λ more. IfSome t (Goes more keys keys' old new))
goes_of t (Err e) keys keys' mid old new prefix after h = tt
goes_of t (Ok true) keys keys' mid old new prefix after h =
    if_map t {Q = Goes true keys keys' mid new} {R = Goes true keys keys' old new} (λ f g. (ap (λ (l : List (List ℕ)). keys ++ l) (left_as mid.prefix old.prefix mid.after old.after f prefix after) ∙ g.0, g.1)) h
goes_of t (Ok false) keys keys' mid old new prefix after h =
    if_map t {Q = Goes false keys keys' mid new} {R = Goes false keys keys' old new} (λ f g. (g.0, left_as mid.prefix old.prefix mid.after old.after f prefix after ∙ g.1, g.2)) h

-- nothing is worth a look, whatever is added
pub meets_none : (prefix : List ℕ) (after : Option (List ℕ)) (name : List ℕ) (ws : List Wait) → Meets prefix after name [] → Meets prefix after name ws
meets_none prefix after name ws meets q is wanted led = let found = meets q is wanted led in absurd (none found.0 found.1)
  where
    none : (w : Wait) → Contains [] w → ⊥
    none w k = omega (arith, k.1)
