use Rattle.std.proofs.Common.{◌≡◌, ◌∙◌, ap, sym, ◌-◌, ◌++◌, List, ℕ, length, take, arith}
use Rattle.std.specs.Prelude.{min}
use Rattle.real_edge.specs.Lines.{longest}
use Rattle.real_edge.proofs.Lines.{kept-append, longest-is}
use Rattle.real_edge.proofs.log_lines.keep.Goals as goal

pub returns : goal.returns
returns c whole e =
    let size = ap length e in
    let n : c.min.result ≡ min (length c.args.piece.now) (longest - length (take longest whole)) = omega (arith, size, longest-is, c.args.line.now.ok) in
    c.in_ok-extend_from_slice.ensures.items
    ∙ ap (λ (l : List ℕ). l ++ take c.min.result c.args.piece.now) e
    ∙ ap (λ (k : ℕ). take longest whole ++ take k c.args.piece.now) n
    ∙ kept-append longest whole c.args.piece.now
