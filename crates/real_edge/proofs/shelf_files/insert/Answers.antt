use Rattle.std.proofs.Common.{◌≡◌, ℕ, List, ◌∷◌, ◌++◌, ◌∙◌, ap, take, drop}
use Rattle.real_edge.specs.declared.shelf_files.Object.{Object}
use Rattle.real_edge.specs.Entries.{entries, entry, rank_of}
use Rattle.real_edge.proofs.Entries.{placed_at_rank, inserted_entries}
use Rattle.real_edge.proofs.shelf_files.insert.Goals as goal

pub returns-clause-entries : goal.returns-clause-entries
returns-clause-entries c =
    let os = c.args.objects.now.items in
    let o = c.args.object in
    let at : c.place_for-at.result ≡ rank_of o.key (entries os) = c.place_for-at.ensures.rank_is ∙ ap (λ (k : List ℕ). rank_of k (entries c.deref.result.now)) c.as_slice.ensures ∙ ap (λ (l : List Object). rank_of o.key (entries l)) c.deref.ensures.value in
    let items : c.insert.new.self.items ≡ take c.place_for-at.result os ++ o ∷ drop c.place_for-at.result os = rw c.unwrap.ensures at c.insert.ensures.items in
    ap entries items ∙ inserted_entries os c.place_for-at.result o ∙ ap (λ (n : ℕ). take n (entries os) ++ entry o ∷ drop n (entries os)) at ∙ placed_at_rank o.key o.content (entries os) c.requires.absent
