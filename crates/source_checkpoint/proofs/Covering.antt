-- Checkpoints that move with the parts of a delta.
use Rattle.std.proofs.Common.{◌≡◌, ℕ, true, false, cond, List, [], ◌∷◌, refl, ap, sym, ◌∙◌, inl, inr, bytes_eq, Ordering}
use Rattle.std.specs.Ordering.{nat_cmp}
use Rattle.std.specs.Cmp.Lexicographic.{slice_cmp}
use Rattle.std.specs.FinMap.Entries.{by_order}
use Rattle.std.specs.declared.cmp.Ordering.TheVariants.{Less, Equal, Greater}
use Rattle.std.proofs.lemmas.Bool.{cases_Bool, or_parts, false≢true, false_from_ne_true}
use Rattle.std.proofs.lemmas.Map.Text.{is_eq-slice_cmp}
use Rattle.std.specs.Ordering.{is_eq}
use Rattle.source_checkpoint.proofs.Ranges.{same_partition, partition_itself}
use Rattle.source_checkpoint.specs.Deltas.{Partition, Part, Names, IsDelta, moved}
use Rattle.source_checkpoint.specs.Checkpoints.{Checkpoint, checkpoint_at, end_of, move_to, move_all}

checkpoint_moved : (part : Part) (checkpoints : List Checkpoint) (p : Partition) → checkpoint_at (move_to part checkpoints) p ≡ cond (bytes_eq part.partition p) part.to (checkpoint_at checkpoints p)
checkpoint_moved part [] p = refl
checkpoint_moved part (c ∷ checkpoints) p = by_case (checkpoint_moved part checkpoints p) (slice_cmp nat_cmp c.partition part.partition) (is_eq-slice_cmp c.partition part.partition)
  where
    by_case : checkpoint_at (move_to part checkpoints) p ≡ cond (bytes_eq part.partition p) part.to (checkpoint_at checkpoints p) → (o : Ordering) → is_eq o ≡ bytes_eq c.partition part.partition → checkpoint_at (by_order o (c ∷ move_to part checkpoints) (end_of part ∷ checkpoints) (end_of part ∷ c ∷ checkpoints)) p ≡ cond (bytes_eq part.partition p) part.to (checkpoint_at (c ∷ checkpoints) p)
    by_case rest Less other =
        elim (cases_Bool (bytes_eq c.partition p)) [
          | inl here ↦
              let e : c.partition ≡ p = same_partition c.partition p here in
              let apart : bytes_eq part.partition p ≡ false = false_from_ne_true (bytes_eq part.partition p) (λ t.
              let f : part.partition ≡ p = same_partition part.partition p t in
              let one : c.partition ≡ part.partition = e ∙ sym f in
              false≢true (other ∙ partition_itself c.partition part.partition one)) in
              rw (here, apart) refl
          | inr there ↦ rw there rest
        ]
    by_case rest Equal same =
        let e : c.partition ≡ part.partition = same_partition c.partition part.partition (sym same) in
        rw e (elim (bytes_eq part.partition p) as (λ b. cond b part.to (checkpoint_at checkpoints p) ≡ cond b part.to (cond b c.at (checkpoint_at checkpoints p))) [ true ↦ refl | false ↦ refl ])
    by_case rest Greater other = refl

pub moved_by : (delta : List Part) (f g : Partition → ℕ) (p : Partition) → f p ≡ g p → moved delta f p ≡ moved delta g p
moved_by [] f g p e = e
moved_by (part ∷ parts) f g p e = ap (cond (bytes_eq part.partition p) part.to) (moved_by parts f g p e)

moved_aside : (delta : List Part) (f : Partition → ℕ) (p : Partition) → Names delta p ≡ false → moved delta f p ≡ f p
moved_aside [] f p h = refl
moved_aside (part ∷ parts) f p h =
    let apart = or_parts (bytes_eq part.partition p) (Names parts p) h in
    rw apart.0 (moved_aside parts f p apart.1)

-- the listed checkpoints move as a delta says
pub checkpoints_moved : (delta : List Part) (checkpoints : List Checkpoint) → IsDelta delta → (p : Partition) → checkpoint_at (move_all delta checkpoints) p ≡ moved delta (checkpoint_at checkpoints) p
checkpoints_moved [] checkpoints h p = refl
checkpoints_moved (part ∷ parts) checkpoints h p =
    checkpoints_moved parts (move_to part checkpoints) h.2 p
    ∙ elim (cases_Bool (bytes_eq part.partition p)) [
      | inl same ↦
          let e : part.partition ≡ p = same_partition part.partition p same in
          let last = checkpoint_moved part checkpoints p in
          rw same (moved_aside parts (checkpoint_at (move_to part checkpoints)) p (rw e at h.1) ∙ (last ∙ rw same refl))
      | inr other ↦
          let last = checkpoint_moved part checkpoints p in
          rw other (moved_by parts (checkpoint_at (move_to part checkpoints)) (checkpoint_at checkpoints) p (last ∙ rw other refl))
    ]
