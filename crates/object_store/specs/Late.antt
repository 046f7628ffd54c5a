-- When the late creates of a store in memory land, and what its calls leave.
use Rattle.std.specs.Prelude.{ℕ, ◌+◌, Bool, false, not, List, [], ◌∷◌, ◌++◌, filter, min, remove, Option, Some, None, Result, Ok, Err, nat_le}
use Rattle.std.specs.FinMap as finmap
use Rattle.byte_fields.specs.Causes.{last_count}
use Rattle.object_store.specs.declared.kept.LateObject.{LateObject}
use Rattle.object_store.specs.declared.kept.Kept.{Kept}
use Rattle.object_store.specs.declared.objects.Object.{Object}
use Rattle.object_store.specs.declared.plan.Landing.{Landing}
use Rattle.object_store.specs.declared.plan.Landing.TheVariants as landings
use Rattle.object_store.specs.declared.store.CreateError.{CreateError}
use Rattle.object_store.specs.declared.store.CreateError.TheVariants as creates
use Rattle.object_store.specs.Store.{Objects}

-- the objects, and the late creates in the order in which they failed, each with the number of the call that it lands with, if any
pub record Held : Type 0 where
  pub objects : Objects
  pub late : List LateObject

abbrev pub held_of : Kept → Held
held_of k = record { objects = k.shelf.objects; late = k.late.items }

-- whether a call has this number or a lower one
abbrev pub is_by : ℕ → Option ℕ → Bool
is_by number None = false
is_by number (Some call) = nat_le call number

-- a late create is due as the call with a number begins
abbrev pub is_due : ℕ → LateObject → Bool
is_due number l = is_by number l.call

-- an object comes to stand where its key is absent
abbrev pub put_where : Option (List ℕ) → Object → Objects → Objects
put_where None o objects = finmap.insert objects o.key o.content
put_where (Some standing) o objects = objects

abbrev pub with_new : Objects → Object → Objects
with_new objects o = put_where (finmap.get objects o.key) o objects

-- these land, one after another
abbrev pub with_all : Objects → List LateObject → Objects
with_all objects [] = objects
with_all objects (l ∷ ls) = with_all (with_new objects l.object) ls

-- the late create at a place lands
abbrev pub landed_at : ℕ → LateObject → Held → Held
landed_at place l h = record { objects = with_new h.objects l.object; late = remove h.late place }

-- the call with a number begins: what is due lands, and nothing else
abbrev pub begun : ℕ → Held → Held
begun number h = record { objects = with_all h.objects (filter (is_due number) h.late); late = filter (λ l. not (is_due number l)) h.late }

-- with one more late create
abbrev pub waiting : Object → Option ℕ → Held → Held
waiting o call h = record { objects = h.objects; late = h.late ++ record { object = o; call = call } ∷ [] }

-- what a create that fails leaves, in the call with a number: it lands at once, with the call that is so many later, or never
abbrev pub fallen : Landing → Object → ℕ → Held → Held
fallen landings.AtOnce o number h = record { objects = with_new h.objects o; late = h.late }
fallen (landings.AfterCalls count) o number h = waiting o (Some (min (number + count) last_count)) h
fallen landings.Never o number h = waiting o None h

abbrev pub fallen_where : Option Landing → Object → ℕ → Held → Held
fallen_where None o number h = h
fallen_where (Some landing) o number h = fallen landing o number h

-- what a create leaves
abbrev pub created : Option Landing → Object → ℕ → Result (Unit {0}) CreateError → Held → Held
created landing o number (Ok done) h = record { objects = finmap.insert h.objects o.key o.content; late = h.late }
created landing o number (Err creates.Exists) h = h
created landing o number (Err creates.Failed) h = fallen_where landing o number h
created landing o number (Err (creates.Memory e)) h = h

abbrev pub without : List ℕ → Held → Held
without key h = record { objects = finmap.remove h.objects key; late = h.late }

-- what a delete leaves: one that fails takes effect where it is to land at once
abbrev pub deleted : Option Landing → List ℕ → Held → Held
deleted None key h = without key h
deleted (Some landings.AtOnce) key h = without key h
deleted (Some (landings.AfterCalls count)) key h = h
deleted (Some landings.Never) key h = h
