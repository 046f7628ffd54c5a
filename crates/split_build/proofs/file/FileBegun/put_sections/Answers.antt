use Rattle.std.proofs.Common.{◌∙◌, ◌++◌, List, ℕ, ap}
use Rattle.split_build.proofs.FileLemmas.{sections_put}
use Rattle.split_build.proofs.file.FileBegun.put_sections.Goals as goal

pub returns : goal.returns
returns c = λ documents keys begun.
    sections_put c.args.self.begun.items documents c.put_all.new.out.items c.put_all-2.new.out.items c.put_all-3.new.out.items c.put_all-4.new.out.items
    c.args.self.terms.dictionary c.args.self.terms.postings.items c.args.self.terms.positions.items c.args.self.columns.bytes.items begun
    (c.in_ok-put_all.ensures ∙ ap (λ (l : List ℕ). c.args.self.begun.items ++ l) c.into_vec.ensures)
    c.in_ok-put_all-2.ensures c.in_ok-put_all-3.ensures c.in_ok-put_all-4.ensures
