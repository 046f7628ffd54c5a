use Rattle.std.proofs.Common.{◌≡◌, ◌++◌, ◌∷◌, [], ℕ, length, length-append, sym, subst, arith}
use Rattle.std.specs.Prelude.{Option}
use Rattle.split_bundle.specs.Columns.{fast_fields}
use Rattle.split_bundle.specs.Tagged.{tag_numbers}
use Rattle.split_build.specs.Times.{AreTimes, seconds_in}
use Rattle.split_merge.proofs.facts.FieldFacts.add.Goals as goal

pub returns : goal.returns
returns c = λ s ds d e gains h.
    let last : c.saturating_sub-last.result ≡ length ds = omega (arith, c.saturating_sub-last.ensures, h.count, length-append ds (d ∷ [])) in
    record {
      count = omega (arith, h.count, length-append ds (d ∷ []), length-append ds (e ∷ []));
      timestamp = h.timestamp;
      tags = c.in_ok-add_tag.ensures (tag_numbers 0 s.fields) ds d e gains h.tags;
      times = subst (λ (o : Option ℕ). AreTimes (seconds_in o (ds ++ e ∷ [])) c.times_with-self.result) h.timestamp
          (c.times_with-self.ensures ds d e gains (subst (λ (o : Option ℕ). AreTimes (seconds_in o (ds ++ d ∷ [])) c.args.self.now.times) (sym h.timestamp) h.times));
      columns = c.in_ok-add_column.ensures (fast_fields s) ds d e last gains h.columns;
    }
