-- Where the count of the store stands still and nothing is late, a call of the world gives what it gives with a calm fate,
-- or finds no memory.
use Rattle.std.proofs.Common.{◌≡◌, ◌⊎◌, ℕ, ◌<◌, ◌≤◌, min, List, [], ◌∷◌, refl, sym, ap, ◌∙◌, Bool, true, false, subst, inl, inr, arith, le-ltb}
use Rattle.std.proofs.lemmas.Bool.{ne_eqb}
use Rattle.std.specs.Prelude.{Option, None, Result, Ok, Err, ⊤, is_some, slice_get, nat_lt, ◌==◌, ◌&&◌, ◌||◌, nat_le}
use Rattle.meta_journal.specs.declared.entry.Act.{Act}
use Rattle.meta_journal.specs.declared.entry.Entry.{Entry}
use Rattle.index_world.specs.Calls.{Fate, Call, Effect, done_never, Trouble, no_memory, Unmade, troubled, Gives, gives, risen, may_fail, land_at, all_landed, begun, made_behind, made_at, create_at_end, or_short, unless_short, asked_moment, asked_clock, asking, settle_with, settled_and_copied, and_then, entry_of, may_append, adopted_making, first_unless, transact, appended, looked, asked_and_looked, asked, file_by, file_made, got_file, file_got, Grace, unless_over, fetched, calm_call, calm_fate}
use Rattle.index_world.specs.Core.{Core, file_at, last_count}
use Rattle.node_run.specs.Calm.{IsStill}
use Rattle.root_search.specs.Steps.{fetched_each, unless_fault}
use Rattle.call_laws.proofs.CallMoves.{landed_kept, tried_kept, file_by_kept, got_file_same, fetched_moves}
use Rattle.node_run.proofs.Fetches.{each_moves}

-- the count is as it was
abbrev pub Same : Core → Core → Type 0
Same core after = after.store_faults ≡ core.store_faults

-- no memory was found, or all is as with a calm fate
abbrev pub Calms : {E A : Type 0} → E → Gives E A → Gives E A → Type 0
Calms e given calm = (given.answer ≡ Err e) ⊎ (given ≡ calm)

landed_none : (places : List ℕ) (core : Core) → core.late ≡ [] → all_landed places core ≡ core
landed_none [] core e = refl
landed_none (place ∷ places) core e =
    let step : land_at (slice_get core.late place) place core ≡ core = ap (λ l. land_at (slice_get l place) place core) e in
    ap (all_landed places) step ∙ landed_none places core e

pub begun_is : (call : Call) (core : Core) → core.late ≡ [] → begun call core ≡ record core { store_faults = risen core.store_faults call.rises }
begun_is call core l = landed_none call.lands (record core { store_faults = risen core.store_faults call.rises }) l

pub begun_still : (call : Call) (core : Core) → core.late ≡ [] → risen core.store_faults call.rises ≡ core.store_faults → begun call core ≡ core
begun_still call core l r = begun_is call core l ∙ ap (λ n. record core { store_faults = n }) r

pub begun_count : (call : Call) (core : Core) → (begun call core).store_faults ≡ risen core.store_faults call.rises
begun_count call core = ap (λ k. k.1) (landed_kept call.lands (record core { store_faults = risen core.store_faults call.rises }))

pub risen_same : (call : Call) (core : Core) → Same core (begun call core) → risen core.store_faults call.rises ≡ core.store_faults
risen_same call core s = sym (begun_count call core) ∙ s

pub calm_risen : (n : ℕ) → n < last_count → risen n 0 ≡ n
calm_risen n h = omega (arith, h)

pub false_by : (f a b : Bool) → a ≡ false → b ≡ false → (f && (a || b)) ≡ false
false_by true a b ea eb = rw (ea, eb)
false_by false a b ea eb = refl

pub not_fails : (call : Call) (n : ℕ) → risen n call.rises ≡ n → n < last_count → may_fail call n ≡ false
not_fails call n r below =
    false_by call.fails (nat_lt n (risen n call.rises)) (n == last_count) (le-ltb n (risen n call.rises) (omega (arith, r)))
    (ne_eqb n last_count (λ e. omega (arith, e, below)))

-- ---- a create at the end

pub create_still : (call : Call) (entry : Entry) (core : Core) → IsStill core → risen core.store_faults call.rises ≡ core.store_faults →
    create_at_end call entry core ≡ made_behind core.standing entry core
create_still call entry core s r =
    ap (λ b. made_at b call.effect entry (begun call core)) (not_fails call core.store_faults r s.below)
    ∙ ap (λ c. made_at false call.effect entry c) (begun_still call core s.late r)

made_count : (b : Bool) (effect : Effect) (second third : Call) (before : ℕ) (act : Core → Act) (entry : Entry) (core : Core) → core.standing ≡ None →
    (adopted_making second third before act entry (made_at b effect entry core)).core.store_faults ≡ core.store_faults
made_count true effect second third before act entry core e = ap (λ k. k.1) (tried_kept effect core.standing entry core)
made_count false effect second third before act entry core e =
    subst (λ st. (adopted_making second third before act entry (made_behind st entry core)).core.store_faults ≡ core.store_faults) (sym e) refl

made_by_none : (standing : Option Entry) (second third : Call) (before : ℕ) (act : Core → Act) (entry : Entry) (core : Core) → standing ≡ None →
    adopted_making second third before act entry (made_behind standing entry core) ≡ adopted_making calm_call calm_call before act entry (made_behind standing entry core)
made_by_none standing second third before act entry core e =
    subst (λ st. adopted_making second third before act entry (made_behind st entry core) ≡ adopted_making calm_call calm_call before act entry (made_behind st entry core)) (sym e) refl

first_calms : (r : Result ⊤ Unmade) (first second third : Call) (act : Core → Act) (core : Core) → IsStill core → Same core (first_unless r first second third act core).core →
    first_unless r first second third act core ≡ first_unless r calm_call calm_call calm_call act core
first_calms (Err e) first second third act core s same = refl
first_calms (Ok done) first second third act core s same =
    ap (adopted_making second third core.store_faults act entry) (create_still first entry core s r)
    ∙ made_by_none core.standing second third core.store_faults act entry core s.standing
    ∙ ap (adopted_making calm_call calm_call core.store_faults act entry) (sym (create_still calm_call entry core s (calm_risen core.store_faults s.below)))
  where
    entry : Entry
    entry = entry_of (act core) core

    stands : (begun first core).standing ≡ None
    stands = ap (λ c. c.standing) (begun_is first core s.late) ∙ s.standing

    r : risen core.store_faults first.rises ≡ core.store_faults
    r = risen_same first core (sym (made_count (may_fail first core.store_faults) first.effect second third core.store_faults act entry (begun first core) stands) ∙ same)

-- ---- want of memory, and the clock

pub short_calms : {E A : Type 0} (b : Bool) (e : E) (call : Call) (core : Core) (x y : Gives E A) → (Same core x.core → Calms e x y) →
    Same core (or_short b e call core x).core → Calms e (or_short b e call core x) y
short_calms true e call core x y h same = inl refl
short_calms false e call core x y h same = h same

pub asking_calms : {E A : Type 0} (b : Bool) (e : E) (core : Core) (next next' : Core → Gives E A) →
    (Same core (next (asked_clock core)).core → Calms e (next (asked_clock core)) (next' (asked_clock core))) →
    Same core (asking b e core next).core → Calms e (asking b e core next) (next' (asked_clock core))
asking_calms true e core next next' h same = inl refl
asking_calms false e core next next' h same = h same

pub asked_still : (core : Core) → IsStill core → IsStill (asked_clock core)
asked_still core s = record { late = s.late; standing = s.standing; unsure = s.unsure; below = s.below }

-- ---- the calls

copied_calms : (b c : Bool) (core : Core) →
    Calms no_memory (and_then (unless_short b core) (λ c'. unless_short c c')) (and_then (unless_short false core) (λ c'. unless_short false c'))
copied_calms true c core = inl refl
copied_calms false true core = inl refl
copied_calms false false core = inr refl

pub looked_calms : (fate : Fate) (core : Core) → IsStill core → Calms no_memory (looked fate core) (looked calm_fate core)
looked_calms fate core s =
    subst (λ b. Calms no_memory (and_then (settle_with b fate.first fate.second core) (λ c'. unless_short fate.third.short c'))
    (and_then (settle_with b calm_call calm_call core) (λ c'. unless_short false c'))) (sym s.unsure) (copied_calms fate.first.short fate.third.short core)

pub asked_and_looked_calms : (fate : Fate) (core : Core) → IsStill core → Same core (asked_and_looked fate core).core →
    Calms no_memory (asked_and_looked fate core) (asked_and_looked calm_fate core)
asked_and_looked_calms fate core s same =
    asking_calms fate.unasked no_memory core (λ c. settled_and_copied fate c) (λ c. settled_and_copied calm_fate c)
    (λ _. looked_calms fate (asked_clock core) (asked_still core s)) same

pub asked_calms : (fate : Fate) (core : Core) → Same core (asked fate core).core → Calms no_memory (asked fate core) (asked calm_fate core)
asked_calms fate core same =
    asking_calms fate.unasked no_memory core (λ c. gives (Ok tt) c) (λ c. gives (Ok tt) c) (λ _. inr refl) same

transact_calms : (b : Bool) (first second third : Call) (act : Core → Act) (core : Core) → b ≡ false → IsStill core →
    Same core (transact b first second third act core).core →
    Calms (troubled no_memory) (transact b first second third act core) (transact b calm_call calm_call calm_call act core)
transact_calms true first second third act core e s same = absurd (true_is_false e)
  where
    true_is_false : true ≡ false → ⊥
    true_is_false e = cc
transact_calms false first second third act core e s same =
    short_calms first.short (troubled no_memory) first core (first_unless (may_append (act core) core) first second third act core)
    (first_unless (may_append (act core) core) calm_call calm_call calm_call act core)
    (λ counted. inr (first_calms (may_append (act core) core) first second third act core s counted)) same

pub appended_calms : (fate : Fate) (act : Core → Act) (core : Core) → IsStill core → Same core (appended fate act core).core →
    Calms (troubled no_memory) (appended fate act core) (appended calm_fate act core)
appended_calms fate act core s same =
    asking_calms fate.unasked (troubled no_memory) core (λ c. transact c.unsure fate.first fate.second fate.third act c)
    (λ c. transact c.unsure calm_call calm_call calm_call act c)
    (λ counted. transact_calms core.unsure fate.first fate.second fate.third act (asked_clock core) s.unsure (asked_still core s) counted) same

file_by_calm : (a b : Effect) (d : Bool) (before : ℕ) (key bytes : List ℕ) (core : Core) → file_by false a d before key bytes core ≡ file_by false b d before key bytes core
file_by_calm a b true before key bytes core = refl
file_by_calm a b false before key bytes core = refl

-- a create outside the journal, in the words of the core that is as it was
file_still : (call : Call) (key bytes : List ℕ) (core : Core) → IsStill core → risen core.store_faults call.rises ≡ core.store_faults →
    file_by (may_fail call core.store_faults) call.effect (is_some (file_at (begun call core).files key)) core.store_faults key bytes (begun call core)
    ≡ file_by false done_never (is_some (file_at core.files key)) core.store_faults key bytes core
file_still call key bytes core s r =
    ap (λ b. file_by b call.effect (is_some (file_at (begun call core).files key)) core.store_faults key bytes (begun call core)) (not_fails call core.store_faults r s.below)
    ∙ ap (λ c. file_by false call.effect (is_some (file_at c.files key)) core.store_faults key bytes c) (begun_still call core s.late r)
    ∙ file_by_calm call.effect done_never (is_some (file_at core.files key)) core.store_faults key bytes core

pub file_made_calms : (call : Call) (key bytes : List ℕ) (core : Core) → IsStill core → Same core (file_made call key bytes core).core →
    Calms no_memory (file_made call key bytes core) (file_made calm_call key bytes core)
file_made_calms call key bytes core s same =
    short_calms call.short no_memory call core (does call) (does calm_call)
    (λ counted. inr (file_still call key bytes core s (risen_same call core (sym (kept call) ∙ counted))
    ∙ sym (file_still calm_call key bytes core s (calm_risen core.store_faults s.below)))) same
  where
    does : Call → Gives Trouble ⊤
    does c = file_by (may_fail c core.store_faults) c.effect (is_some (file_at (begun c core).files key)) core.store_faults key bytes (begun c core)

    kept : (c : Call) → (does c).core.store_faults ≡ (begun c core).store_faults
    kept c = ap (λ k. k.1) (file_by_kept (may_fail c core.store_faults) c.effect (is_some (file_at (begun c core).files key)) core.store_faults key bytes (begun c core))

pub got_still : (call : Call) (core : Core) → IsStill core → risen core.store_faults call.rises ≡ core.store_faults →
    got_file (may_fail call core.store_faults) core.store_faults (begun call core) ≡ gives (Ok tt) core
got_still call core s r =
    ap (λ b. got_file b core.store_faults (begun call core)) (not_fails call core.store_faults r s.below)
    ∙ ap (λ c. got_file false core.store_faults c) (begun_still call core s.late r)

pub file_got_calms : (call : Call) (core : Core) → IsStill core → Same core (file_got call core).core → Calms no_memory (file_got call core) (file_got calm_call core)
file_got_calms call core s same =
    short_calms call.short no_memory call core (got_file (may_fail call core.store_faults) core.store_faults (begun call core))
    (got_file (may_fail calm_call core.store_faults) core.store_faults (begun calm_call core))
    (λ counted. inr (got_still call core s (risen_same call core (ap (λ c. c.store_faults) (sym (got_file_same (may_fail call core.store_faults) core.store_faults (begun call core))) ∙ counted))
    ∙ sym (got_still calm_call core s (calm_risen core.store_faults s.below)))) same

-- behind the asking of the clock
abbrev got_unless : Grace → Call → Core → Gives Trouble ⊤
got_unless grace call core = unless_over (nat_le grace.until core.moment) grace.planned_at core (file_got call core)

got_unless_calms : (grace : Grace) (call : Call) (core : Core) → IsStill core → Same core (got_unless grace call core).core → Calms no_memory (got_unless grace call core) (got_unless grace calm_call core)
got_unless_calms grace call core s = by (nat_le grace.until core.moment)
  where
    by : (over : Bool) → Same core (unless_over over grace.planned_at core (file_got call core)).core →
        Calms no_memory (unless_over over grace.planned_at core (file_got call core)) (unless_over over grace.planned_at core (file_got calm_call core))
    by true same = inr refl
    by false same = file_got_calms call core s same

pub fetched_calms : (grace : Grace) (fate : Fate) (core : Core) → IsStill core → Same core (fetched grace fate core).core → Calms no_memory (fetched grace fate core) (fetched grace calm_fate core)
fetched_calms grace fate core s same =
    asking_calms fate.unasked no_memory core (got_unless grace fate.first) (got_unless grace calm_call)
    (λ counted. got_unless_calms grace fate.first (asked_clock core) (asked_still core s) counted) same

-- ---- fetches one after another

asked_twice : (frozen : Bool) (moment clock : ℕ) → asked_moment frozen (asked_moment frozen moment clock) clock ≡ asked_moment frozen moment clock
asked_twice true moment clock = refl
asked_twice false moment clock = omega arith

clock_twice : (core : Core) → asked_clock (asked_clock core) ≡ asked_clock core
clock_twice core = ap (λ m. record core { moment = m }) (asked_twice core.frozen core.moment core.clock)

pub fetched_calm : (grace : Grace) (core : Core) → IsStill core → (fetched grace calm_fate core).core ≡ asked_clock core
fetched_calm grace core s = by (nat_le grace.until (asked_clock core).moment)
  where
    by : (over : Bool) → (unless_over over grace.planned_at (asked_clock core) (file_got calm_call (asked_clock core))).core ≡ asked_clock core
    by true = refl
    by false = ap (λ (g : Gives Trouble ⊤). g.core) (got_still calm_call (asked_clock core) (asked_still core s) (calm_risen core.store_faults s.below))

fetched_twice : (grace : Grace) (core : Core) → fetched grace calm_fate (asked_clock core) ≡ fetched grace calm_fate core
fetched_twice grace core = ap (got_unless grace calm_call) (clock_twice core)

no_memory_is_ok : ◌≡◌ {A = Result ⊤ Trouble} (Err no_memory) (Ok tt) → ⊥
no_memory_is_ok e = cc

pub count_inside : (a b c : ℕ) → c ≡ a → a < last_count → min a last_count ≤ b → min b last_count ≤ c → b ≡ a
count_inside a b c e below g h = omega (arith, e, below, g, h)

abbrev EachCalms : Grace → Fate → List Fate → Core → Type 0
EachCalms grace fate more core = Same core (fetched_each grace fate more core).core → Calms no_memory (fetched_each grace fate more core) (fetched grace calm_fate core)

module _ (grace : Grace) (fate next : Fate) (more : List Fate) (core : Core) (s : IsStill core) (behind : EachCalms grace next more (asked_clock core)) where
  -- behind a fetch that gave something
  next_calms : (mid : Core) → mid ≡ asked_clock core → Same core (fetched_each grace next more mid).core → Calms no_memory (fetched_each grace next more mid) (fetched grace calm_fate core)
  next_calms mid e =
      subst (λ m. Same core (fetched_each grace next more m).core → Calms no_memory (fetched_each grace next more m) (fetched grace calm_fate core)) (sym e)
      (λ same. subst (λ g. Calms no_memory (fetched_each grace next more (asked_clock core)) g) (fetched_twice grace core) (behind same))

  given_calms : (answer : Result ⊤ Trouble) → (fetched grace fate core).answer ≡ answer → Same core (unless_fault answer (fetched grace fate core).core (fetched_each grace next more)).core →
      Calms no_memory (unless_fault answer (fetched grace fate core).core (fetched_each grace next more)) (fetched grace calm_fate core)
  given_calms (Ok done) e same = by (fetched_calms grace fate core s mid_same)
    where
      mid : Core
      mid = (fetched grace fate core).core

      mid_same : Same core mid
      mid_same =
          count_inside core.store_faults mid.store_faults (fetched_each grace next more mid).core.store_faults same s.below (fetched_moves grace fate core).later.rises
          (each_moves grace more next mid).later.rises

      by : Calms no_memory (fetched grace fate core) (fetched grace calm_fate core) → Calms no_memory (fetched_each grace next more mid) (fetched grace calm_fate core)
      by (inl none) = absurd (no_memory_is_ok (sym none ∙ e))
      by (inr is) = next_calms mid (ap (λ (g : Gives Trouble ⊤). g.core) is ∙ fetched_calm grace core s) same
  given_calms (Err trouble) e same = by (fetched_calms grace fate core s same)
    where
      by : Calms no_memory (fetched grace fate core) (fetched grace calm_fate core) → Calms no_memory (gives (Err trouble) (fetched grace fate core).core) (fetched grace calm_fate core)
      by (inl none) = inl (sym e ∙ none)
      by (inr is) = inr (ap (λ (a : Result ⊤ Trouble). gives a (fetched grace fate core).core) (sym e) ∙ is)

pub each_calms : (grace : Grace) (more : List Fate) (fate : Fate) (core : Core) → IsStill core → EachCalms grace fate more core
each_calms grace [] fate core s = fetched_calms grace fate core s
each_calms grace (next ∷ more) fate core s =
    given_calms grace fate next more core s (each_calms grace more next (asked_clock core) (asked_still core s)) (fetched grace fate core).answer refl
