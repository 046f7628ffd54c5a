use Rattle.std.proofs.Common.{List, ℕ, ap, ◌∙◌}
use Rattle.std.specs.Ordering.{nat_cmp}
use Rattle.std.specs.Cmp.Lexicographic.{slice_cmp}
use Rattle.std.specs.FinMap as finmap
use Rattle.std.specs.FinMap.Entries.{is_sorted}
use Rattle.real_edge.specs.Entries.{entries}
use Rattle.real_edge.specs.Shelved.{Shelved}
use Rattle.object_store.proofs.States.{Contents, remove_of, sorted_removed}
use Rattle.real_edge.proofs.shelf.Shelf.take_out.Goals as goal

pub invariant_of-self : goal.invariant_of-self
invariant_of-self c =
    ap (λ (es : List (List ℕ × List ℕ)). is_sorted (slice_cmp nat_cmp) es) c.remove.ensures.entries ∙ sorted_removed (entries c.self.inside.held.items) c.args.key.now c.self.invariant

pub returns-clause-objects : goal.returns-clause-objects
returns-clause-objects c =
    ap (λ (es : List (List ℕ × List ℕ)). Contents es) c.remove.ensures.entries ∙ remove_of (entries c.self.inside.held.items) c.args.key.now c.self.invariant
    ∙ ap (λ (s : Shelved). finmap.remove s.objects c.args.key.now) c.self.view_is
