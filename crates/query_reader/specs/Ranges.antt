-- How a range or a comparison is read, one byte after another.
use Rattle.std.specs.Prelude.{ℕ, ◌+◌, ◌==◌, ◌&&◌, Bool, true, false, Option, Some, None, if◌then◌else◌}
use Rattle.query_reader.specs.declared.kind.Kind.{Kind}
use Rattle.query_reader.specs.declared.kind.Kind.TheVariants.{Blank, Quote, Close, Star, Escape, SquareClose, CurlyClose, Plain}
use Rattle.query_reader.specs.declared.special.Bound.{Bound}
use Rattle.query_reader.specs.declared.special.Bound.TheVariants as bounds
use Rattle.query_reader.specs.declared.special.Compare.{Compare}
use Rattle.query_reader.specs.declared.special.Compare.TheVariants.{AtLeast, AtMost, Above, Below}
use Rattle.query_reader.specs.declared.special.Ranged.{Ranged}
use Rattle.query_reader.specs.declared.special.Ranged.TheVariants.{Between, Compared}
use Rattle.query_reader.specs.declared.special.Spot.{Spot}
use Rattle.query_reader.specs.declared.special.Spot.TheVariants.{Low, High, One}
use Rattle.query_reader.specs.declared.special.RangeMode.{RangeMode}
use Rattle.query_reader.specs.declared.special.RangeMode.TheVariants.{Wanted, Quoting, Running, BehindLow, LetterT, BehindTo, Closing, Sign}
use Rattle.query_reader.specs.declared.special.RangeStep.{RangeStep}
use Rattle.query_reader.specs.declared.special.RangeStep.TheVariants.{More, Done, Ended, Before, Refused}

-- white space and `]`, `}`, `)` end a run
abbrev pub ends_run : Kind → Bool
ends_run Blank = true
ends_run SquareClose = true
ends_run CurlyClose = true
ends_run Close = true
ends_run _ = false

-- a star that stands alone is no value
abbrev pub run_bound : ℕ → ℕ → Bool → Bound
run_bound from to true = bounds.Unbounded
run_bound from to false = bounds.Run (record { from = from; to = to })

abbrev pub edge_closed : Spot → Bound → RangeStep
edge_closed (Low c) b = More (BehindLow c b false)
edge_closed (High c low) b = More (Closing c low b)
edge_closed (One op) b = Ended (Compared op b)

abbrev pub behind_low : Bool → Bound → Bool → ℕ → Kind → RangeStep
behind_low c low spaced byte Blank = More (BehindLow c low true)
behind_low c low spaced byte Plain = if spaced && (byte == 84) then More (LetterT c low) else Refused
behind_low c low spaced byte _ = Refused

abbrev pub close_range : Bool → Bound → Bound → Kind → RangeStep
close_range c low high Blank = More (Closing c low high)
close_range c low high SquareClose = Done (Between c low high true)
close_range c low high CurlyClose = Done (Between c low high false)
close_range c low high _ = Refused

abbrev pub edge_before : Spot → Bound → ℕ → Kind → RangeStep
edge_before (Low c) b byte k = behind_low c b false byte k
edge_before (High c low) b byte k = close_range c low b k
edge_before (One op) bounds.Unbounded byte k = Refused
edge_before (One op) (bounds.Quoted s) byte k = Before (Compared op (bounds.Quoted s))
edge_before (One op) (bounds.Run s) byte k = Before (Compared op (bounds.Run s))

abbrev pub want_blank : Spot → RangeStep
want_blank (One op) = Refused
want_blank (Low c) = More (Wanted (Low c))
want_blank (High c low) = More (Wanted (High c low))

abbrev pub want_bound : Spot → ℕ → Kind → RangeStep
want_bound spot at Blank = want_blank spot
want_bound spot at Quote = More (Quoting spot (at + 1) false)
want_bound spot at SquareClose = Refused
want_bound spot at CurlyClose = Refused
want_bound spot at Close = Refused
want_bound spot at Star = More (Running spot at true)
want_bound spot at _ = More (Running spot at false)

abbrev pub sign_of : Bool → Bool → Compare
sign_of true true = AtLeast
sign_of true false = Above
sign_of false true = AtMost
sign_of false false = Below

-- within quotes a backslash stands before a quote or a backslash alone
abbrev pub quoting : Spot → ℕ → Bool → ℕ → Kind → RangeStep
quoting spot from true at Quote = More (Quoting spot from false)
quoting spot from true at Escape = More (Quoting spot from false)
quoting spot from true at _ = Refused
quoting spot from false at Quote = edge_closed spot (bounds.Quoted (record { from = from; to = at }))
quoting spot from false at Escape = More (Quoting spot from true)
quoting spot from false at _ = More (Quoting spot from false)

abbrev pub behind_to : Bool → Bound → Kind → RangeStep
behind_to c low Blank = More (Wanted (High c low))
behind_to c low _ = Refused

-- one byte of a range, at its place
abbrev pub range_step : RangeMode → ℕ → ℕ → Kind → RangeStep
range_step (Wanted spot) at byte k = want_bound spot at k
range_step (Quoting spot from escaped) at byte k = quoting spot from escaped at k
range_step (Running spot from star) at byte k = if ends_run k then edge_before spot (run_bound from at star) byte k else More (Running spot from false)
range_step (BehindLow c low spaced) at byte k = behind_low c low spaced byte k
range_step (LetterT c low) at byte k = if byte == 79 then More (BehindTo c low) else Refused
range_step (BehindTo c low) at byte k = behind_to c low k
range_step (Closing c low high) at byte k = close_range c low high k
range_step (Sign above) at byte k = if byte == 61 then More (Wanted (One (sign_of above true))) else want_bound (One (sign_of above false)) at k

-- what ends with the text
abbrev pub range_end : RangeMode → ℕ → Option Ranged
range_end (Running (One op) from false) at = Some (Compared op (bounds.Run (record { from = from; to = at })))
range_end _ at = None
