-- What is read of an act of each kind, and of an entry.
use Rattle.std.proofs.Common.{◌≡◌, ℕ, true, false, eqb, List, length, Result, Ok, Err, refl, ap, ◌∙◌}
use Rattle.std.proofs.lemmas.Bool.{eq-eqb, ne_eqb}
use Rattle.byte_fields.specs.Reading.{varint_at, bytes_at}
use Rattle.source_checkpoint.specs.declared.delta.Part.{Part}
use Rattle.doc_value.specs.declared.facts.TimeRange.{TimeRange}
use Rattle.split_states.specs.declared.facts.RowFacts.{RowFacts}
use Rattle.meta_journal.specs.declared.entry.Act.{Act}
use Rattle.meta_journal.specs.declared.entry.Act.TheVariants as acts
use Rattle.meta_journal.specs.declared.entry_error.EntryError.{EntryError}
use Rattle.meta_journal.specs.declared.entry_error.EntryError.TheVariants.{Trailing}
use Rattle.meta_journal.specs.declared.reading.Kind.{Kind}
use Rattle.meta_journal.specs.declared.reading.Kind.TheVariants as kinds
use Rattle.meta_journal.specs.Reading.{number_at, utf8_at, counted_at, part_at, facts_at, range_at, row_numbers_at, kind_at, moment_at, act_at, entry_of}

module _ (bytes : List ℕ) (kind : Kind) (at : ℕ) where
  of_kind : (k : Kind) (r : Result (Act × ℕ) EntryError) → kind ≡ k → act_at bytes k at ≡ r → act_at bytes kind at ≡ r
  of_kind k r is read = ap (λ (k : Kind). act_at bytes k at) is ∙ read

  pub fence_read : kind ≡ kinds.Fence → act_at bytes kind at ≡ Ok (acts.Fence, at)
  unfolding act_at
  fence_read is = of_kind kinds.Fence (Ok (acts.Fence, at)) is refl

  pub create_read : (config held : List ℕ) (next : ℕ) → kind ≡ kinds.Create → bytes_at bytes at ≡ Ok (config, next) → held ≡ config → act_at bytes kind at ≡ Ok (acts.Create held, next)
  unfolding act_at
  create_read config held next is read same = of_kind kinds.Create (Ok (acts.Create held, next)) is (rw (read, same) refl)

  pub publish_read : (n next : ℕ) → kind ≡ kinds.Publish → ◌≡◌ (Ok (n, next)) (varint_at bytes at) → act_at bytes kind at ≡ Ok (acts.Publish n, next)
  unfolding act_at
  publish_read n next is read = of_kind kinds.Publish (Ok (acts.Publish n, next)) is (rw (← read) refl)

  pub replace_read : (new next upto next' : ℕ) (old : List ℕ) (end : ℕ) → kind ≡ kinds.Replace → ◌≡◌ (Ok (new, next)) (varint_at bytes at) → counted_at bytes (λ before. number_at bytes) next ≡ Ok (old, next') → ◌≡◌ (Ok (upto, end)) (varint_at bytes next')
      → act_at bytes kind at ≡ Ok (acts.Replace new old upto, end)
  unfolding act_at
  replace_read new next upto next' old end is a b c = of_kind kinds.Replace (Ok (acts.Replace new old upto, end)) is (rw (← a, b, ← c) refl)

  pub raise_read : (n next upto end : ℕ) → kind ≡ kinds.Raise → ◌≡◌ (Ok (n, next)) (varint_at bytes at) → ◌≡◌ (Ok (upto, end)) (varint_at bytes next) → act_at bytes kind at ≡ Ok (acts.Raise n upto, end)
  unfolding act_at
  raise_read n next upto end is a b = of_kind kinds.Raise (Ok (acts.Raise n upto, end)) is (rw (← a, ← b) refl)

  pub stage_read : (number next : ℕ) (delta : List Part) (next' : ℕ) (facts : RowFacts) (end : ℕ) → kind ≡ kinds.Stage → ◌≡◌ (Ok (number, next)) (varint_at bytes at) → counted_at bytes (λ before. part_at bytes) next ≡ Ok (delta, next') → facts_at bytes next' ≡ Ok (facts, end)
      → act_at bytes kind at ≡ Ok (acts.Stage number delta facts, end)
  unfolding act_at
  stage_read number next delta next' facts end is a b c = of_kind kinds.Stage (Ok (acts.Stage number delta facts, end)) is (rw (← a, b, c) refl)

  pub task_read : (opstamp next : ℕ) (text : List ℕ) (next' : ℕ) (fields : List (List ℕ)) (next'' : ℕ) (times : TimeRange) (end : ℕ) → kind ≡ kinds.Task → ◌≡◌ (Ok (opstamp, next)) (varint_at bytes at) → utf8_at bytes next ≡ Ok (text, next')
      → counted_at bytes (λ before. utf8_at bytes) next' ≡ Ok (fields, next'') → range_at bytes next'' ≡ Ok (times, end) → act_at bytes kind at ≡ Ok (acts.Task opstamp text fields times, end)
  unfolding act_at
  task_read opstamp next text next' fields next'' times end is a b c d = of_kind kinds.Task (Ok (acts.Task opstamp text fields times, end)) is (rw (← a, b, c, d) refl)

  module _ (numbers : List ℕ) (next : ℕ) (read : row_numbers_at bytes at ≡ Ok (numbers, next)) where
    pub marked_read : kind ≡ kinds.MarkStaged → act_at bytes kind at ≡ Ok (acts.MarkStaged numbers, next)
    unfolding act_at
    marked_read is = of_kind kinds.MarkStaged (Ok (acts.MarkStaged numbers, next)) is (rw read refl)

    pub removed_read : kind ≡ kinds.Remove → act_at bytes kind at ≡ Ok (acts.Remove numbers, next)
    unfolding act_at
    removed_read is = of_kind kinds.Remove (Ok (acts.Remove numbers, next)) is (rw read refl)

    pub retired_read : kind ≡ kinds.Retire → act_at bytes kind at ≡ Ok (acts.Retire numbers, next)
    unfolding act_at
    retired_read is = of_kind kinds.Retire (Ok (acts.Retire numbers, next)) is (rw read refl)

module _ (bytes : List ℕ) (kind : Kind) (moment next : ℕ) (act : Act) (end : ℕ) (k : ◌≡◌ (Ok kind) (kind_at bytes)) (m : moment_at bytes 5 ≡ Ok (moment, next)) (a : act_at bytes kind next ≡ Ok (act, end)) where
  pub whole_read : end ≡ length bytes → entry_of bytes ≡ Ok (record { moment = moment; act = act })
  unfolding entry_of
  whole_read all = let same : eqb end (length bytes) ≡ true = eq-eqb end (length bytes) all in rw (← k, m, a, same) refl

  pub more_behind : (end ≡ length bytes → ⊥) → entry_of bytes ≡ Err (Trailing end)
  unfolding entry_of
  more_behind not_all = let other : eqb end (length bytes) ≡ false = ne_eqb end (length bytes) not_all in rw (← k, m, a, other) refl
