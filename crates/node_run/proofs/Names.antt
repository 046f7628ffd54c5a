-- Clients by name, and their searchers.
use Rattle.std.proofs.Common.{◌≡◌, ℕ, zero, suc, List, [], ◌∷◌, ◌++◌, length, get_or, refl, sym, ap, ◌∙◌, subst, Bool, true, false, not}
use Rattle.std.proofs.lemmas.Slice.Eq.{bytes_eq-Decides}
use Rattle.std.specs.List.{AllByRecursion, AllZip, list_any}
use Rattle.std.specs.Prelude.{Option, Some, None, is_some, slice_set, bytes_eq, ◌||◌, if◌then◌else◌}
use Rattle.source_log.specs.Log.{Log}
use Rattle.index_world.specs.Core.{Core}
use Rattle.root_search.specs.Steps.{Client, no_request, without_request}
use Rattle.root_search.specs.Searching.{SearcherStands}
use Rattle.root_search.specs.declared.searcher.Searcher.{Searcher}
use Rattle.node_run.specs.Named.{NamedAt}
use Rattle.node_run.specs.Turns.{client_named, with_client, fresh_client, with_dropped}

pub true_false : {P : Type 0} → true ≡ false → P
true_false e = cc

is_true : (a b : List ℕ) → a ≡ b → bytes_eq a b ≡ true
is_true a b e = (bytes_eq-Decides a b).1 e

is_false : (a b : List ℕ) → (a ≡ b → ⊥) → bytes_eq a b ≡ false
is_false a b other = by (bytes_eq a b) refl where
  by : (t : Bool) → bytes_eq a b ≡ t → bytes_eq a b ≡ false
  by true e = absurd (other ((bytes_eq-Decides a b).0 e))
  by false e = e

-- ---- clients by name

pub named_name : (name : List ℕ) (ms : List Client) → (client_named name ms).name ≡ name
named_name name [] = refl
named_name name (m ∷ ms) = by (bytes_eq m.name name) refl (named_name name ms) where
  by : (t : Bool) → bytes_eq m.name name ≡ t → (client_named name ms).name ≡ name → (if t then m else client_named name ms).name ≡ name
  by true e again = (bytes_eq-Decides m.name name).0 e
  by false e again = again

pub named_with : (name : List ℕ) (c : Client) (ms : List Client) → c.name ≡ name → client_named name (with_client c ms) ≡ c
named_with name c [] e = ap (λ (t : Bool). if t then c else fresh_client name) (is_true c.name name e)
named_with name c (m ∷ ms) e = by (bytes_eq m.name c.name) refl (named_with name c ms e) where
  by : (t : Bool) → bytes_eq m.name c.name ≡ t → client_named name (with_client c ms) ≡ c → client_named name (if t then c ∷ ms else m ∷ with_client c ms) ≡ c
  by true h again = ap (λ (t : Bool). if t then c else client_named name ms) (is_true c.name name e)
  by false h again =
      ap (λ (t : Bool). if t then m else client_named name (with_client c ms)) (ap (bytes_eq m.name) (sym e) ∙ h) ∙ again

pub with_with : (c d : Client) (ms : List Client) → c.name ≡ d.name → with_client c (with_client d ms) ≡ with_client c ms
with_with c d [] e = ap (λ (t : Bool). if t then c ∷ [] else d ∷ with_client c []) (is_true d.name c.name (sym e))
with_with c d (m ∷ ms) e = by (bytes_eq m.name d.name) refl (with_with c d ms e) where
  by : (t : Bool) → bytes_eq m.name d.name ≡ t → with_client c (with_client d ms) ≡ with_client c ms →
      with_client c (if t then d ∷ ms else m ∷ with_client d ms) ≡ (if bytes_eq m.name c.name then c ∷ ms else m ∷ with_client c ms)
  by true h again =
      ap (λ (t : Bool). if t then c ∷ ms else d ∷ with_client c ms) (is_true d.name c.name (sym e))
      ∙ sym (ap (λ (t : Bool). if t then c ∷ ms else m ∷ with_client c ms) (ap (bytes_eq m.name) e ∙ h))
  by false h again =
      ap (λ (t : Bool). if t then c ∷ with_client d ms else m ∷ with_client c (with_client d ms)) (ap (bytes_eq m.name) e ∙ h)
      ∙ ap (λ l. m ∷ l) again
      ∙ sym (ap (λ (t : Bool). if t then c ∷ ms else m ∷ with_client c ms) (ap (bytes_eq m.name) e ∙ h))

-- a client that has a request is known
pub kept_by_request : (name : List ℕ) (ms : List Client) → ((client_named name ms).request ≡ no_request → ⊥) → with_client (client_named name ms) ms ≡ ms
kept_by_request name [] busy = absurd (busy refl)
kept_by_request name (m ∷ ms) busy = by (bytes_eq m.name name) refl (kept_by_request name ms) busy where
  by : (t : Bool) → bytes_eq m.name name ≡ t → (((client_named name ms).request ≡ no_request → ⊥) → with_client (client_named name ms) ms ≡ ms) → ((if t then m else client_named name ms).request ≡ no_request → ⊥) →
      with_client (if t then m else client_named name ms) (m ∷ ms) ≡ m ∷ ms
  by true h again b = ap (λ (t : Bool). if t then m ∷ ms else m ∷ with_client m ms) (is_true m.name m.name refl)
  by false h again b =
      ap (λ (t : Bool). if t then client_named name ms ∷ ms else m ∷ with_client (client_named name ms) ms)
      (ap (bytes_eq m.name) (named_name name ms) ∙ h)
      ∙ ap (λ l. m ∷ l) (again b)

-- ---- searchers by name

-- none has this name
abbrev pub IsUnknown : List ℕ → List Searcher → Type 0
IsUnknown name searchers = AllByRecursion (λ searcher. searcher.client ≡ name → ⊥) searchers

module _ (core : Core) (log : Log) where
  abbrev pub Stand : Searcher → Client → Type 0
  Stand s m = SearcherStands s m core log

  -- one that is known
  pub known_stays : (name : List ℕ) (ss : List Searcher) (ms : List Client) (i : ℕ) → NamedAt name ss i → AllZip Stand ss ms →
      with_client (client_named name ms) ms ≡ ms
  known_stays name [] ms i at z = absurd at
  known_stays name (s ∷ ss) [] i at z = absurd z
  known_stays name (s ∷ ss) (m ∷ ms) zero at z =
      let same : bytes_eq m.name name ≡ true = is_true m.name name (sym z.0.name ∙ at) in
      ap (λ (t : Bool). with_client (if t then m else client_named name ms) (m ∷ ms)) same
      ∙ ap (λ (t : Bool). if t then m ∷ ms else m ∷ with_client m ms) (is_true m.name m.name refl)
  known_stays name (s ∷ ss) (m ∷ ms) (suc i) at z =
      let other : bytes_eq m.name name ≡ false = is_false m.name name (λ e. at.0 (z.0.name ∙ e)) in
      ap (λ (t : Bool). with_client (if t then m else client_named name ms) (m ∷ ms)) other
      ∙ ap (λ (t : Bool). if t then client_named name ms ∷ ms else m ∷ with_client (client_named name ms) ms) (ap (bytes_eq m.name) (named_name name ms) ∙ other)
      ∙ ap (λ l. m ∷ l) (known_stays name ss ms i at.1 z.1)

  pub named_stands : (name : List ℕ) (ss : List Searcher) (ms : List Client) (i : ℕ) (s : Searcher) → NamedAt name ss i → AllZip Stand ss ms →
      s ≡ get_or ss i s → Stand s (client_named name ms)
  named_stands name [] ms i s at z e = absurd at
  named_stands name (t ∷ ss) [] i s at z e = absurd z
  named_stands name (t ∷ ss) (m ∷ ms) zero s at z e =
      subst (λ (c : Client). Stand s c) (sym (ap (λ (b : Bool). if b then m else client_named name ms) (is_true m.name name (sym z.0.name ∙ at))))
      (subst (λ v. Stand v m) (sym e) z.0)
  named_stands name (t ∷ ss) (m ∷ ms) (suc i) s at z e =
      subst (λ (c : Client). Stand s c)
      (sym (ap (λ (b : Bool). if b then m else client_named name ms) (is_false m.name name (λ e'. at.0 (z.0.name ∙ e')))))
      (named_stands name ss ms i s at.1 z.1 e)

  -- none of that name
  pub unknown_fresh : (name : List ℕ) (ss : List Searcher) (ms : List Client) → IsUnknown name ss → AllZip Stand ss ms → client_named name ms ≡ fresh_client name
  unknown_fresh name [] [] un z = refl
  unknown_fresh name [] (m ∷ ms) un z = absurd z
  unknown_fresh name (s ∷ ss) [] un z = absurd z
  unknown_fresh name (s ∷ ss) (m ∷ ms) un z =
      ap (λ (b : Bool). if b then m else client_named name ms) (is_false m.name name (λ e. un.0 (z.0.name ∙ e))) ∙ unknown_fresh name ss ms un.1 z.1

  pub unknown_with : (name : List ℕ) (c : Client) (ss : List Searcher) (ms : List Client) → c.name ≡ name → IsUnknown name ss → AllZip Stand ss ms →
      with_client c ms ≡ ms ++ c ∷ []
  unknown_with name c [] [] e un z = refl
  unknown_with name c [] (m ∷ ms) e un z = absurd z
  unknown_with name c (s ∷ ss) [] e un z = absurd z
  unknown_with name c (s ∷ ss) (m ∷ ms) e un z =
      ap (λ (b : Bool). if b then c ∷ ms else m ∷ with_client c ms) (is_false m.name c.name (λ h. un.0 (z.0.name ∙ h ∙ e)))
      ∙ ap (λ l. m ∷ l) (unknown_with name c ss ms e un.1 z.1)

  pub unknown_dropped : (name : List ℕ) (ss : List Searcher) (ms : List Client) → IsUnknown name ss → AllZip Stand ss ms → with_dropped name ms ≡ ms
  unknown_dropped name [] [] un z = refl
  unknown_dropped name [] (m ∷ ms) un z = absurd z
  unknown_dropped name (s ∷ ss) [] un z = absurd z
  unknown_dropped name (s ∷ ss) (m ∷ ms) un z =
      ap (λ (b : Bool). if b then without_request m ∷ ms else m ∷ with_dropped name ms) (is_false m.name name (λ e. un.0 (z.0.name ∙ e)))
      ∙ ap (λ l. m ∷ l) (unknown_dropped name ss ms un.1 z.1)

-- a searcher that changed, and its client
pub named_set : (core after : Core) (log : Log) (name : List ℕ) (ss : List Searcher) (ms : List Client) (i : ℕ) (s : Searcher) (c : Client) →
    ((t : Searcher) (m : Client) → SearcherStands t m core log → SearcherStands t m after log) → c.name ≡ name →
    NamedAt name ss i → AllZip (λ t m. SearcherStands t m core log) ss ms → SearcherStands s c after log →
    AllZip (λ t m. SearcherStands t m after log) (slice_set ss i s) (with_client c ms)
named_set core after log name [] ms i s c goes e at z new = absurd at
named_set core after log name (t ∷ ss) [] i s c goes e at z new = absurd z
named_set core after log name (t ∷ ss) (m ∷ ms) zero s c goes e at z new =
    subst (λ (l : List Client). AllZip (λ t m. SearcherStands t m after log) (s ∷ ss) l)
    (sym (ap (λ (b : Bool). if b then c ∷ ms else m ∷ with_client c ms) (is_true m.name c.name (sym z.0.name ∙ at ∙ sym e))))
    (new, all ss ms z.1)
  where
    all : (us : List Searcher) (ns : List Client) → AllZip (λ t m. SearcherStands t m core log) us ns → AllZip (λ t m. SearcherStands t m after log) us ns
    all [] [] w = tt
    all [] (n ∷ ns) w = absurd w
    all (u ∷ us) [] w = absurd w
    all (u ∷ us) (n ∷ ns) w = (goes u n w.0, all us ns w.1)
named_set core after log name (t ∷ ss) (m ∷ ms) (suc i) s c goes e at z new =
    subst (λ (l : List Client). AllZip (λ t m. SearcherStands t m after log) (t ∷ slice_set ss i s) l)
    (sym (ap (λ (b : Bool). if b then c ∷ ms else m ∷ with_client c ms) (is_false m.name c.name (λ h. at.0 (z.0.name ∙ h ∙ e)))))
    (goes t m z.0, named_set core after log name ss ms i s c goes e at.1 z.1 new)

pub named_dropped : (core : Core) (log : Log) (name : List ℕ) (ss : List Searcher) (ms : List Client) (i : ℕ) → NamedAt name ss i →
    AllZip (λ t m. SearcherStands t m core log) ss ms → with_dropped name ms ≡ with_client (without_request (client_named name ms)) ms
named_dropped core log name [] ms i at z = absurd at
named_dropped core log name (s ∷ ss) [] i at z = absurd z
named_dropped core log name (s ∷ ss) (m ∷ ms) zero at z =
    let same : bytes_eq m.name name ≡ true = is_true m.name name (sym z.0.name ∙ at) in
    ap (λ (t : Bool). if t then without_request m ∷ ms else m ∷ with_dropped name ms) same
    ∙ sym (ap (λ (t : Bool). with_client (without_request (if t then m else client_named name ms)) (m ∷ ms)) same
    ∙ ap (λ (t : Bool). if t then without_request m ∷ ms else m ∷ with_client (without_request m) ms) (is_true m.name m.name refl))
named_dropped core log name (s ∷ ss) (m ∷ ms) (suc i) at z =
    let other : bytes_eq m.name name ≡ false = is_false m.name name (λ e. at.0 (z.0.name ∙ e)) in
    ap (λ (t : Bool). if t then without_request m ∷ ms else m ∷ with_dropped name ms) other
    ∙ ap (λ l. m ∷ l) (named_dropped core log name ss ms i at.1 z.1)
    ∙ sym (ap (λ (t : Bool). with_client (without_request (if t then m else client_named name ms)) (m ∷ ms)) other
    ∙ ap (λ (t : Bool). if t then without_request (client_named name ms) ∷ ms else m ∷ with_client (without_request (client_named name ms)) ms)
    (ap (bytes_eq m.name) (named_name name ms) ∙ other))

-- ---- places

pub pushed_at : (name : List ℕ) (ss : List Searcher) (s : Searcher) → IsUnknown name ss → s.client ≡ name → NamedAt name (ss ++ s ∷ []) (length ss)
pushed_at name [] s un e = e
pushed_at name (t ∷ ss) s un e = (un.0, pushed_at name ss s un.1 e)

-- the searcher of a client that is known by now
pub known_one : (core : Core) (log : Log) (name : List ℕ) (known : List Searcher) (ms : List Client) (place : ℕ) (s : Searcher) → NamedAt name known place →
    AllZip (λ t m. SearcherStands t m core log) known (with_client (client_named name ms) ms) → s ≡ get_or known place s →
    SearcherStands s (client_named name ms) core log
known_one core log name known ms place s at z e =
    subst (λ (c : Client). SearcherStands s c core log) (named_with name (client_named name ms) ms (named_name name ms))
    (named_stands core log name known (with_client (client_named name ms) ms) place s at z e)

pub unknown_any : (core : Core) (log : Log) (name : List ℕ) (ss : List Searcher) (ms : List Client) → IsUnknown name ss →
    AllZip (λ t m. SearcherStands t m core log) ss ms → list_any (λ client. bytes_eq client.name name) ms ≡ false
unknown_any core log name [] [] un z = refl
unknown_any core log name [] (m ∷ ms) un z = absurd z
unknown_any core log name (s ∷ ss) [] un z = absurd z
unknown_any core log name (s ∷ ss) (m ∷ ms) un z =
    ap (λ (b : Bool). b || list_any (λ client. bytes_eq client.name name) ms) (is_false m.name name (λ e. un.0 (z.0.name ∙ e)))
    ∙ unknown_any core log name ss ms un.1 z.1

pub known_any : (core : Core) (log : Log) (name : List ℕ) (ss : List Searcher) (ms : List Client) (i : ℕ) → NamedAt name ss i →
    AllZip (λ t m. SearcherStands t m core log) ss ms → list_any (λ client. bytes_eq client.name name) ms ≡ true
known_any core log name [] ms i at z = absurd at
known_any core log name (s ∷ ss) [] i at z = absurd z
known_any core log name (s ∷ ss) (m ∷ ms) zero at z =
    ap (λ (b : Bool). b || list_any (λ client. bytes_eq client.name name) ms) (is_true m.name name (sym z.0.name ∙ at))
known_any core log name (s ∷ ss) (m ∷ ms) (suc i) at z =
    ap (λ (b : Bool). b || list_any (λ client. bytes_eq client.name name) ms) (is_false m.name name (λ e. at.0 (z.0.name ∙ e)))
    ∙ known_any core log name ss ms i at.1 z.1

pub none_is : (o : Option ℕ) → is_some o ≡ false → o ≡ None
none_is None e = refl
none_is (Some i) e = true_false e

pub some_is : (o : Option ℕ) (b : Bool) → is_some o ≡ not b → b ≡ false → (i : ℕ) × (o ≡ Some i)
some_is None b e off = true_false (sym (e ∙ ap not off))
some_is (Some i) b e off = (i, refl)
