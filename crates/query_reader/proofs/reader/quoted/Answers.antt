use Rattle.std.proofs.Common.{◌≡◌, ◌∙◌, refl, false, Option, Some, None, List, ℕ, ◌+◌, ap, drop}
use Rattle.query_reader.proofs.Steps.{goes}
use Rattle.query_reader.specs.Machine.{InQuote, Frame, after_quote, after_leaf}
use Rattle.query_reader.specs.Asking as asks
use Rattle.query_reader.specs.Machine.{span, run}
use Rattle.query_reader.specs.Reading.{role_for}
use Rattle.query_reader.specs.declared.tree.Span.{Span}
use Rattle.query_reader.specs.declared.kind.Kind.TheVariants.{Quote}
use Rattle.query_reader.proofs.reader.quoted.Goals as goal

closed : (field : Option Span) (from at : ℕ) (f : Frame) (fs : List Frame) → after_quote (role_for field) from at f fs ≡ after_leaf field (asks.Quoted (span from at)) f fs
closed None from at f fs = refl
closed (Some s) from at f fs = refl

pub returns-in-Ok-clause-read : goal.returns-in-Ok-clause-read
returns-in-Ok-clause-read c = λ f fs. c.in-Ok.ensures.3 (role_for c.args.field) f fs
    ∙ goes c.args.text.now c.in-Ok.to (InQuote (role_for c.args.field) c.args.from false) f fs Quote _ c.in-Ok.ensures.1 c.in-Ok.ensures.2 refl
    ∙ ap (λ s. run (c.in-Ok.to + 1) s (drop (c.in-Ok.to + 1) c.args.text.now)) (closed c.args.field c.args.from c.in-Ok.to f fs)
