-- What a batch has read is a delta: its partitions differ, and of each it has read some.
use Rattle.std.proofs.Common.{◌≡◌, inl, inr, ℕ, zero, suc, ◌+◌, ◌≤◌, ◌<◌, ◌==◌, ◌||◌, Bool, true, false, List, [], ◌∷◌, ◌++◌, bytes_eq, refl, sym, ap, ◌∙◌, subst, arith, ne_eqb}
use Rattle.std.specs.List.{AllByRecursion}
use Rattle.std.specs.Prelude.{if◌then◌else◌}
use Rattle.source_checkpoint.specs.Deltas.{IsDelta, Names}
use Rattle.source_checkpoint.specs.declared.delta.Part.{Part}
use Rattle.source_checkpoint.specs.declared.ledger.Checkpoint.{Checkpoint}
use Rattle.source_checkpoint.proofs.Ranges.{same_partition}
use Rattle.index_config.specs.declared.config.IndexConfig.{IndexConfig}
use Rattle.indexing_run.specs.Making.{AreApart, AreNew, AreOthers, Follows, IsNew, IsQueue}
use Rattle.indexing_run.specs.Places.{Batch}
use Rattle.indexing_run.specs.Steps.{Taken, batch_after, extended, fresh_batch, marks_at, parts_after, queue_after}
use Rattle.indexing_run.proofs.Batches.{extended-last, extended-new}

abbrev part_of : List ℕ → ℕ → ℕ → Part
part_of name from to = record { partition = name; from = from; to = to }

false_true : false ≡ true → ⊥
false_true e = cc

apart_so : (a b : List ℕ) → bytes_eq a b ≡ false → bytes_eq b a ≡ false
apart_so a b e = by (bytes_eq b a) refl
  where
    by : (t : Bool) → bytes_eq b a ≡ t → bytes_eq b a ≡ false
    by true same = absurd (false_true (sym e ∙ (ap (λ (x : List ℕ). bytes_eq a x) (same_partition b a same) ∙ (ap (λ (x : List ℕ). bytes_eq x a) (sym (same_partition b a same)) ∙ same))))
    by false other = other

-- ---- one part more

or_none : (a b : Bool) → a ≡ false → b ≡ false → (a || b) ≡ false
or_none false b e f = f
or_none true b e f = e

or_first : (a b : Bool) → (a || b) ≡ false → a ≡ false
or_first false b e = refl
or_first true b e = e

or_second : (a b : Bool) → (a || b) ≡ false → b ≡ false
or_second false b e = e
or_second true b e = absurd (false_true (sym e))

names_more : (front : List Part) (x : Part) (name : List ℕ) → Names front name ≡ false → bytes_eq x.partition name ≡ false → Names (front ++ x ∷ []) name ≡ false
names_more [] x name none other = or_none (bytes_eq x.partition name) false other refl
names_more (p ∷ front) x name none other =
    or_none (bytes_eq p.partition name) (Names (front ++ x ∷ []) name) (or_first (bytes_eq p.partition name) (Names front name) none)
    (names_more front x name (or_second (bytes_eq p.partition name) (Names front name) none) other)

names_less : (front : List Part) (x : Part) (name : List ℕ) → Names (front ++ x ∷ []) name ≡ false → Names front name ≡ false
names_less [] x name none = refl
names_less (p ∷ front) x name none =
    or_none (bytes_eq p.partition name) (Names front name) (or_first (bytes_eq p.partition name) (Names (front ++ x ∷ []) name) none)
    (names_less front x name (or_second (bytes_eq p.partition name) (Names (front ++ x ∷ []) name) none))

delta_more : (front : List Part) (x : Part) → IsDelta front → IsNew front x.partition → x.from < x.to → IsDelta (front ++ x ∷ [])
delta_more [] x d new some = (some, refl, tt)
delta_more (p ∷ front) x d new some = (d.0, names_more front x p.partition d.1 (apart_so p.partition x.partition new.0), delta_more front x d.2 new.1 some)

delta_less : (front : List Part) (x : Part) → IsDelta (front ++ x ∷ []) → IsDelta front
delta_less [] x d = tt
delta_less (p ∷ front) x d = (d.0, names_less front x p.partition d.1, delta_less front x d.2)

new_more : (front : List Part) (x : Part) (name : List ℕ) → IsNew front name → bytes_eq x.partition name ≡ false → IsNew (front ++ x ∷ []) name
new_more [] x name new other = (other, tt)
new_more (p ∷ front) x name new other = (new.0, new_more front x name new.1 other)

new_less : (front : List Part) (x : Part) (name : List ℕ) → IsNew (front ++ x ∷ []) name → IsNew front name
new_less [] x name new = tt
new_less (p ∷ front) x name new = (new.0, new_less front x name new.1)

-- ---- a batch

-- what it read is a delta, and what it is to read goes on behind that
pub record IsOpen (batch : Batch) : Type 0 where
  pub delta : IsDelta batch.parts
  pub queue : IsQueue batch.parts batch.queue

all_new : (parts after : List Part) (name : List ℕ) (marks : List Checkpoint) → ((other : List ℕ) → bytes_eq name other ≡ false → IsNew parts other → IsNew after other) → AreOthers name marks → AreNew parts marks → AreNew after marks
all_new parts after name [] f o h = tt
all_new parts after name (m ∷ ms) f o h = (f m.partition o.0 h.0, h.1, all_new parts after name ms f o.1 h.2)

queue_new : (parts : List Part) (rest : List Checkpoint) → AreNew parts rest → IsQueue parts rest
queue_new parts [] h = tt
queue_new parts (m ∷ ms) h = (inl h.0, h.1, h.2)

queue_on : (parts : List Part) (at_end : Bool) (mark : Checkpoint) (n : ℕ) (rest : List Checkpoint) → Follows parts (record mark { at = mark.at + n }) → AreOthers mark.partition rest → AreNew parts rest → IsQueue parts (queue_after at_end mark n rest)
queue_on parts true mark n rest f o h = queue_new parts rest h
queue_on parts false mark n rest f o h = (f, o, h)

record Reads (parts : List Part) (mark : Checkpoint) (n : ℕ) (rest : List Checkpoint) : Type 0 where
  delta : IsDelta parts
  follows : Follows parts (record mark { at = mark.at + n })
  others : AreNew parts rest

module _ (parts : List Part) (mark : Checkpoint) (rest : List Checkpoint) (d : IsDelta parts) (f : Follows parts mark) (o : AreOthers mark.partition rest) (h : AreNew parts rest) where
  reads_none : (n : ℕ) → n ≡ 0 → Reads parts mark n rest
  reads_none n none =
      let same : mark.at ≡ mark.at + n = omega (arith, none) in
      record { delta = d; follows = subst (λ at. Follows parts (record mark { at = at })) same f; others = h }

  -- behind a front that has no such partition stands the one that was read
  reads_behind : (front : List Part) (from n : ℕ) → IsDelta front → IsNew front mark.partition → from ≤ mark.at → 0 < n → ((other : List ℕ) → IsNew parts other → IsNew front other) → (after : List Part) →
      after ≡ front ++ part_of mark.partition from (mark.at + n) ∷ [] → Reads after mark n rest
  reads_behind front from n df new rises some less after is =
      let last = part_of mark.partition from (mark.at + n) in
      record {
        delta = subst IsDelta (sym is) (delta_more front last df new (omega (arith, rises, some)));
        follows = inr (record { front = front; from = from; is = is; rises = omega (arith, rises); new = new });
        others = all_new parts after mark.partition rest (λ other apart n. subst (λ l. IsNew l other) (sym is) (new_more front last other (less other n) apart)) o h;
      }

  reads_some : (n : ℕ) → 0 < n → Reads (extended parts mark.partition mark.at (mark.at + n)) mark n rest
  reads_some n some = by f
    where
      by : Follows parts mark → Reads (extended parts mark.partition mark.at (mark.at + n)) mark n rest
      by (inl new) =
          reads_behind parts mark.at n d new (omega arith) some (λ other k. k) (extended parts mark.partition mark.at (mark.at + n)) (extended-new parts mark.partition mark.at (mark.at + n) new)
      by (inr last) =
          let x = part_of mark.partition last.from mark.at in
          reads_behind last.front last.from n (delta_less last.front x (subst IsDelta last.is d)) last.new last.rises some
          (λ other k. new_less last.front x other (subst (λ l. IsNew l other) last.is k)) (extended parts mark.partition mark.at (mark.at + n))
          (ap (λ l. extended l mark.partition mark.at (mark.at + n)) last.is ∙ extended-last last.front mark.partition last.from mark.at mark.at (mark.at + n) last.new)

  reads_so : (n : ℕ) → Reads (parts_after n parts mark.partition mark.at) mark n rest
  reads_so zero = reads_none 0 refl
  reads_so (suc n) = by (suc n == 0) refl
    where
      apart : (suc n == 0) ≡ false
      apart = ne_eqb (suc n) 0 (λ same. omega (arith, same))

      by : (b : Bool) → (suc n == 0) ≡ b → Reads (if b then parts else extended parts mark.partition mark.at (mark.at + suc n)) mark (suc n) rest
      by true e = absurd (false_true (sym apart ∙ e))
      by false e = reads_some (suc n) (omega arith)

-- A READ KEEPS IT SO
pub read_opens : (batch : Batch) (mark : Checkpoint) (rest : List Checkpoint) (taken : Taken) (at_end : Bool) (now : ℕ) → batch.queue ≡ mark ∷ rest → IsOpen batch → IsOpen (batch_after batch mark rest taken at_end now)
read_opens batch mark rest taken at_end now queue_is b =
    let q : IsQueue batch.parts (mark ∷ rest) = subst (IsQueue batch.parts) queue_is b.queue in
    let r = reads_so batch.parts mark rest b.delta q.0 q.1 q.2 taken.count in
    record { delta = r.delta; queue = queue_on (parts_after taken.count batch.parts mark.partition mark.at) at_end mark taken.count rest r.follows q.1 r.others }

-- a fresh one is
marked_others : (checkpoints : List Checkpoint) (name : List ℕ) (names : List (List ℕ)) → AllByRecursion (λ other. bytes_eq name other ≡ false) names → AreOthers name (marks_at checkpoints names)
marked_others checkpoints name [] h = tt
marked_others checkpoints name (n ∷ names) h = (h.0, marked_others checkpoints name names h.1)

marked_new : (checkpoints : List Checkpoint) (names : List (List ℕ)) → AreApart names → AreNew [] (marks_at checkpoints names)
marked_new checkpoints [] h = tt
marked_new checkpoints (name ∷ names) h = (tt, marked_others checkpoints name names h.0, marked_new checkpoints names h.1)

pub fresh_opens : (config : IndexConfig) (checkpoints : List Checkpoint) (names : List (List ℕ)) → AreApart names → IsOpen (fresh_batch config (marks_at checkpoints names))
fresh_opens config checkpoints names apart = record { delta = tt; queue = queue_new [] (marks_at checkpoints names) (marked_new checkpoints names apart) }
