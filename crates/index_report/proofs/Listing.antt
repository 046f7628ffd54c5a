-- The checkpoints of a legal history stand in the order of their names, and none of them is 0.
use Rattle.std.proofs.Common.{◌≡◌, ℕ, ◌<◌, Bool, true, false, cond, T, List, [], ◌∷◌, Option, Some, None, bytes_eq, refl, sym, ap, subst, ◌∙◌, arith, Ordering, ◌||◌}
use Rattle.std.specs.declared.cmp.Ordering.TheVariants.{Less, Equal, Greater}
use Rattle.std.specs.List.{AllByRecursion}
use Rattle.std.specs.Ordering.{nat_cmp, is_eq, is_lt, ordering_reverse}
use Rattle.std.specs.Cmp.Lexicographic.{slice_cmp, nat_list_cmp_total}
use Rattle.std.specs.FinMap.{slice_cmp-IsAntisymmetric, nat_cmp-IsAntisymmetric}
use Rattle.std.specs.FinMap.Entries.{by_order, put, below_all, is_sorted, is_sorted-put}
use Rattle.std.proofs.lemmas.Bool.{and_parts}
use Rattle.std.proofs.lemmas.Map.Text.{is_eq-slice_cmp}
use Rattle.source_checkpoint.proofs.Ranges.{partition_itself}
use Rattle.source_checkpoint.specs.Deltas.{Partition, IsDelta}
use Rattle.source_checkpoint.specs.declared.delta.Part.{Part}
use Rattle.source_checkpoint.specs.declared.ledger.Checkpoint.{Checkpoint}
use Rattle.source_checkpoint.specs.Checkpoints.{checkpoint_at, entry, entries, end_of, move_to, move_all, IsInOrder}
use Rattle.split_states.specs.Rows.{row_ranges}
use Rattle.delete_tasks.specs.Ledger.{Ledger}
use Rattle.meta_journal.specs.declared.entry.Act.{Act}
use Rattle.meta_journal.specs.declared.entry.Act.TheVariants.{Fence, Create, Stage, Publish, Replace, Raise, MarkStaged, Remove, Retire, Task as AddTask}
use Rattle.meta_store.specs.declared.config.Config.{Config}
use Rattle.meta_store.specs.History.{History}
use Rattle.meta_store.specs.History.History.{Start, ◌▸◌}
use Rattle.meta_store.specs.Readings.{Reads, reading_of, config_of}
use Rattle.meta_store.specs.Rows.{rows}
use Rattle.meta_store.specs.Said.{Said}
use Rattle.meta_store.specs.State.{Legal, MayCome, state_of, checkpoints_of, checkpoints_after}
use Rattle.index_report.specs.Listed.{is_named, AreNamed}

abbrev order : Partition → Partition → Ordering
order a b = slice_cmp nat_cmp a b

turned_round : (a b : Partition) (r : Ordering) → order a b ≡ r → order b a ≡ ordering_reverse r
turned_round a b r e = nat_list_cmp_total.antisymm b a ∙ ap ordering_reverse e

same_from_tie : (a b : Partition) → order a b ≡ Equal → a ≡ b
same_from_tie a b e = slice_cmp-IsAntisymmetric nat_cmp-IsAntisymmetric a b e

is_in : (b : Bool) → b ≡ true → T b
is_in b e = subst T (sym e) tt

is_true : (b : Bool) → T b → b ≡ true
is_true true h = refl
is_true false h = absurd h

-- ---- moving a checkpoint keeps the order

abbrev moved_where : Part → Checkpoint → List Checkpoint → Ordering → List Checkpoint
moved_where part c cs o = by_order o (c ∷ move_to part cs) (end_of part ∷ cs) (end_of part ∷ c ∷ cs)

abbrev put_where : Part → Checkpoint → List Checkpoint → Ordering → List (Partition × ℕ)
put_where part c cs o =
    by_order o ((part.partition, part.to) ∷ entry c ∷ entries cs) ((c.partition, part.to) ∷ entries cs) (entry c ∷ put (slice_cmp nat_cmp) part.partition part.to (entries cs))

entries_moved : (part : Part) (cs : List Checkpoint) → entries (move_to part cs) ≡ put (slice_cmp nat_cmp) part.partition part.to (entries cs)
entries_moved part [] = refl
entries_moved part (c ∷ cs) =
    elim (order c.partition part.partition) as (λ o. order c.partition part.partition ≡ o → entries (moved_where part c cs o) ≡ put_where part c cs (order part.partition c.partition)) [
      | Less ↦ λ e. ap (λ (l : List (Partition × ℕ)). entry c ∷ l) (entries_moved part cs) ∙ sym (ap (put_where part c cs) (turned_round c.partition part.partition Less e))
      | Equal ↦ λ e.
          ap (λ (p : Partition). (p, part.to) ∷ entries cs) (sym (same_from_tie c.partition part.partition e))
          ∙ sym (ap (put_where part c cs) (turned_round c.partition part.partition Equal e))
      | Greater ↦ λ e. sym (ap (put_where part c cs) (turned_round c.partition part.partition Greater e))
    ] refl

order_kept : (part : Part) (cs : List Checkpoint) → IsInOrder cs → IsInOrder (move_to part cs)
order_kept part cs h =
    let sorted : is_sorted (slice_cmp nat_cmp) (put (slice_cmp nat_cmp) part.partition part.to (entries cs)) ≡ true =
    is_true _ (is_sorted-put (slice_cmp nat_cmp) nat_list_cmp_total part.partition part.to (entries cs) (is_in _ h)) in
    ap (is_sorted (slice_cmp nat_cmp)) (entries_moved part cs) ∙ sorted

-- ---- and no checkpoint is 0

abbrev IsPositive : Checkpoint → Type 0
IsPositive c = 0 < c.at

positive_moved : (part : Part) (cs : List Checkpoint) → 0 < part.to → AllByRecursion IsPositive cs → AllByRecursion IsPositive (move_to part cs)
positive_moved part [] lt h = (lt, tt)
positive_moved part (c ∷ cs) lt h =
    let rest = positive_moved part cs lt h.1 in
    elim (order c.partition part.partition) as (λ o. AllByRecursion IsPositive (moved_where part c cs o)) [ Less ↦ (h.0, rest) | Equal ↦ (lt, h.1) | Greater ↦ (lt, h) ]

record IsKept (cs : List Checkpoint) : Type 0 where
  in_order : IsInOrder cs
  positive : AllByRecursion IsPositive cs

kept_moved : (parts : List Part) (cs : List Checkpoint) → IsDelta parts → IsKept cs → IsKept (move_all parts cs)
kept_moved [] cs d k = k
kept_moved (part ∷ parts) cs d k =
    let forward : part.from < part.to = d.0 in
    kept_moved parts (move_to part cs) d.2 (record { in_order = order_kept part cs k.in_order; positive = positive_moved part cs (omega arith) k.positive })

-- ---- over a history

kept_after : (reads : Reads) (reading : Said) (config : Option Config) (h : History) (m : ℕ) (act : Act) → IsKept (checkpoints_of h) → MayCome reading config (state_of reads h) m act
    → IsKept (checkpoints_after act (rows h) (checkpoints_of h))
kept_after reads reading config h m Fence k f = k
kept_after reads reading config h m (Create text) k f = k
kept_after reads reading config h m (Stage number delta facts) k f = k
kept_after reads reading None h m (Publish number) k f = absurd f
kept_after reads reading (Some config) h m (Publish number) k f = kept_moved (row_ranges (rows h) number) (checkpoints_of h) f.1.0 k
kept_after reads reading config h m (Replace new old upto) k f = k
kept_after reads reading config h m (Raise number upto) k f = k
kept_after reads reading config h m (AddTask opstamp text fields times) k f = k
kept_after reads reading config h m (MarkStaged numbers) k f = k
kept_after reads reading config h m (Remove numbers) k f = k
kept_after reads reading config h m (Retire numbers) k f = k

kept : (reads : Reads) (h : History) → Legal reads h → IsKept (checkpoints_of h)
kept reads Start legal = record { in_order = refl; positive = tt }
kept reads (h ▸ e) legal =
    kept_after reads (reading_of reads (config_of reads h) e.act) (config_of reads h) h e.moment e.act (kept reads h legal.0) legal.1.1

-- ---- each is read back, and none is missed

read_behind : (c : Checkpoint) (all cs : List Checkpoint) → below_all (slice_cmp nat_cmp) c.partition (entries cs) ≡ true
    → AllByRecursion (λ d. checkpoint_at all d.partition ≡ d.at) cs → AllByRecursion (λ d. checkpoint_at (c ∷ all) d.partition ≡ d.at) cs
read_behind c all [] below h = tt
read_behind c all (d ∷ cs) below h =
    let both = and_parts (is_lt (order c.partition d.partition)) (below_all (slice_cmp nat_cmp) c.partition (entries cs)) below in
    let other = apart_where (order c.partition d.partition) both.0 in
    let apart : bytes_eq c.partition d.partition ≡ false = sym (is_eq-slice_cmp c.partition d.partition) ∙ other in
    (ap (λ (b : Bool). cond b c.at (checkpoint_at all d.partition)) apart ∙ h.0, read_behind c all cs both.1 h.1)
  where
    apart_where : (r : Ordering) → is_lt r ≡ true → is_eq r ≡ false
    apart_where Less e = refl
    apart_where Equal e = absurd cc
    apart_where Greater e = refl

read_back : (cs : List Checkpoint) → IsInOrder cs → AllByRecursion (λ c. checkpoint_at cs c.partition ≡ c.at) cs
read_back [] h = tt
read_back (c ∷ cs) h =
    let both = and_parts (below_all (slice_cmp nat_cmp) c.partition (entries cs)) (is_sorted (slice_cmp nat_cmp) (entries cs)) h in
    (ap (λ (b : Bool). cond b c.at (checkpoint_at cs c.partition)) (partition_itself c.partition c.partition refl), read_behind c cs cs both.0 (read_back cs both.1))

none_missed : (p : Partition) (cs : List Checkpoint) → 0 < checkpoint_at cs p → is_named cs p ≡ true
none_missed p [] lt = absurd (omega arith)
none_missed p (c ∷ cs) lt =
    elim (bytes_eq c.partition p) as (λ b. 0 < cond b c.at (checkpoint_at cs p) → (b || is_named cs p) ≡ true) [ true ↦ λ low. refl | false ↦ λ low. none_missed p cs low ] lt

each_agrees : (all cs : List Checkpoint) (l : Ledger) → ((p : Partition) → checkpoint_at all p ≡ l.checkpoints p)
    → AllByRecursion (λ c. checkpoint_at all c.partition ≡ c.at) cs → AllByRecursion IsPositive cs
    → AllByRecursion (λ c. (c.at ≡ l.checkpoints c.partition) × (0 < c.at)) cs
each_agrees all [] l agree read positive = tt
each_agrees all (c ∷ cs) l agree read positive = ((sym read.0 ∙ agree c.partition, positive.0), each_agrees all cs l agree read.1 positive.1)

pub are_named : (reads : Reads) (h : History) (l : Ledger) → Legal reads h → ((p : Partition) → checkpoint_at (checkpoints_of h) p ≡ l.checkpoints p) → AreNamed (checkpoints_of h) l
are_named reads h l legal agree =
    let k = kept reads h legal in
    record {
      in_order = k.in_order;
      each = each_agrees (checkpoints_of h) (checkpoints_of h) l agree (read_back (checkpoints_of h) k.in_order) k.positive;
      all = λ p lt. none_missed p (checkpoints_of h) (subst (λ (n : ℕ). 0 < n) (sym (agree p)) lt);
    }
