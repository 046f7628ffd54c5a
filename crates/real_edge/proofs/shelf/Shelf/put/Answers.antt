use Rattle.std.proofs.Common.{List, ℕ, sym, ap, ◌∙◌}
use Rattle.std.specs.Ordering.{nat_cmp}
use Rattle.std.specs.Cmp.Lexicographic.{slice_cmp}
use Rattle.std.specs.FinMap as finmap
use Rattle.std.specs.FinMap.Entries.{is_sorted}
use Rattle.real_edge.specs.Entries.{entries}
use Rattle.real_edge.specs.Shelved.{Shelved}
use Rattle.object_store.proofs.States.{Contents, get_of, insert_of, sorted_placed}
use Rattle.real_edge.proofs.shelf.Shelf.put.Goals as goal

pub insert-requires-clause-absent : goal.insert-requires-clause-absent
insert-requires-clause-absent c =
    sym (get_of (entries c.self.inside.held.items) c.args.object.key c.self.invariant) ∙ ap (λ (s : Shelved). finmap.get s.objects c.args.object.key) c.self.view_is ∙ c.requires.absent

pub invariant_of-self : goal.invariant_of-self
invariant_of-self c =
    ap (λ (es : List (List ℕ × List ℕ)). is_sorted (slice_cmp nat_cmp) es) c.insert.ensures.entries
    ∙ sorted_placed (entries c.self.inside.held.items) c.args.object.key c.args.object.content c.self.invariant

pub returns-clause-objects : goal.returns-clause-objects
returns-clause-objects c =
    ap (λ (es : List (List ℕ × List ℕ)). Contents es) c.insert.ensures.entries
    ∙ insert_of (entries c.self.inside.held.items) c.args.object.key c.args.object.content c.self.invariant
    ∙ ap (λ (s : Shelved). finmap.insert s.objects c.args.object.key c.args.object.content) c.self.view_is
