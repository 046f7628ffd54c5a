-- How a query text is read, one byte after another: the machine whose stuck places are the faults of syntax.
use Rattle.std.specs.Prelude.{slice_index, ℕ, suc, ◌+◌, ◌==◌, Bool, true, false, not, nat_lt, List, [], ◌∷◌, ◌++◌, Option, Some, None, Result, Ok, Err, if◌then◌else◌}
use Rattle.query_reader.specs.Kinds.{kind_of, said, names_set, is_escape_kind}
use Rattle.query_reader.specs.Asking.{Asking}
use Rattle.query_reader.specs.Asking as asks
use Rattle.query_reader.specs.Ranges.{range_step, range_end}
use Rattle.query_reader.specs.Tree.{Tree, Trees, no_trees, behind, Leaf, Group, nots, and_tree, or_tree}
use Rattle.query_reader.specs.declared.kind.Kind.{Kind}
use Rattle.query_reader.specs.declared.kind.Kind.TheVariants.{Blank, Quote, Open, Close, Star, Colon, Plus, Minus, Escape, Angle, SquareOpen, SquareClose, CurlyOpen, CurlyClose, Reserved, Plain}
use Rattle.query_reader.specs.declared.kind.Said.{Said}
use Rattle.query_reader.specs.declared.kind.Said.TheVariants.{SaidWord, SaidAnd, SaidOr, SaidNot}
use Rattle.query_reader.specs.declared.fault.Fault.{Fault}
use Rattle.query_reader.specs.declared.fault.Fault.TheVariants as faults
use Rattle.query_reader.specs.declared.tree.Span.{Span}
use Rattle.query_reader.specs.declared.special.Member.{Member}
use Rattle.query_reader.specs.declared.special.Spot.TheVariants as spots
use Rattle.query_reader.specs.declared.special.Ranged.{Ranged}
use Rattle.query_reader.specs.declared.special.RangeMode.{RangeMode}
use Rattle.query_reader.specs.declared.special.RangeMode.TheVariants as ranges
use Rattle.query_reader.specs.declared.special.RangeStep.{RangeStep}
use Rattle.query_reader.specs.declared.special.RangeStep.TheVariants as moves

-- What stands before an operand, inside one bracket: the finished members of the Or, the finished members of the
-- And after the last `OR`, how many `NOT` and `-` stand before the operand, how deep the bracket is, and how deep
-- the operand is.
pub record Frame : Type 0 where
  pub ors : Trees
  pub ands : Trees
  pub negations : ℕ
  pub base : ℕ
  pub deep : ℕ

-- Where a word or a quote stands: where an operand begins, where it may be an operator between two operands, behind a
-- field and its colon, or in a set of a field, whose `IN` stands at a place, behind these members.
pub data Role : Type 0 where
  First : Role
  Joined : Role
  Fielded : Span → Role
  InASet : Span → ℕ → List Member → Role

abbrev pub field_of : Role → Option Span
field_of First = None
field_of Joined = None
field_of (Fielded s) = Some s
field_of (InASet s n ms) = Some s

-- A word that has begun: where it stands, where it began, its bytes, whether it has no backslash, and whether a
-- backslash stands before the next byte.
pub record Head : Type 0 where
  pub role : Role
  pub from : ℕ
  pub bytes : List ℕ
  pub plain : Bool
  pub escaped : Bool

pub data Mode : Type 0 where
  -- an operand comes, and white space may stand before it
  Want : Bool → Mode
  -- an operand has ended; whether another may begin at once
  After : Bool → Mode
  InWord : Head → Mode
  InQuote : Role → ℕ → Bool → Mode
  -- behind a field and its colon, and behind white space that stands there
  Behind : Span → Mode
  Spaced : Span → Mode
  -- behind the `I` of an `IN` that stands at the place, and behind the `IN`
  LetterI : Span → ℕ → Mode
  BehindIn : Span → ℕ → Mode
  -- in a set, behind these members
  InSet : Span → ℕ → List Member → Mode
  -- in a range or a comparison that began at the place
  InRange : Span → ℕ → RangeMode → Mode

pub record State : Type 0 where
  pub mode : Mode
  pub frame : Frame
  pub outer : List Frame

pub data Step : Type 0 where
  Go : State → Step
  Stuck : Step
  Deep : ℕ → Step

abbrev pub state : Mode → Frame → List Frame → State
state m f fs = record { mode = m; frame = f; outer = fs }

-- the beginning of a bracket
abbrev pub fresh : ℕ → Frame
fresh n = record { ors = no_trees; ands = no_trees; negations = 0; base = n; deep = n }

abbrev pub whole_with : Trees → Trees → Option Tree
whole_with ors no_trees = None
whole_with ors (behind ts t) = Some (or_tree (behind ors (and_tree (behind ts t))))

-- what the bracket contains, if an operand has ended
abbrev pub whole : Frame → Option Tree
whole f = whole_with f.ors f.ands

-- the frame after an operand
abbrev pub with_operand : Frame → Tree → Frame
with_operand f t = record { ors = f.ors; ands = behind f.ands (nots f.negations t); negations = 0; base = f.base; deep = f.base }

-- behind a sign or a `NOT`
abbrev pub deeper : Frame → Frame
deeper f = record { ors = f.ors; ands = f.ands; negations = f.negations; base = f.base; deep = f.deep + 1 }

abbrev pub negated : Frame → Frame
negated f = record { ors = f.ors; ands = f.ands; negations = suc f.negations; base = f.base; deep = f.deep + 1 }

abbrev pub with_or : Frame → Frame
with_or f = record { ors = behind f.ors (and_tree f.ands); ands = no_trees; negations = 0; base = f.base; deep = f.base }

abbrev pub limit : ℕ
limit = 64

-- one nesting more, whose bracket, `NOT` or sign stands at the place
abbrev pub nest : ℕ → Frame → State → Step
nest at f s = if nat_lt f.deep limit then Go s else Deep at

abbrev pub leaf : Option Span → Asking → Tree
leaf field ask = Leaf field ask

abbrev pub after_leaf : Option Span → Asking → Frame → List Frame → State
after_leaf field ask f fs = state (After false) (with_operand f (leaf field ask)) fs

abbrev pub open_bracket : ℕ → Frame → List Frame → Step
open_bracket at f fs = nest at f (state (Want true) (fresh (f.deep + 1)) (f ∷ fs))

-- a closing bracket
abbrev pub close_with : Option Tree → List Frame → Step
close_with None fs = Stuck
close_with (Some t) [] = Stuck
close_with (Some t) (f ∷ fs) = Go (state (After true) (with_operand f (Group t)) fs)

abbrev pub word : Role → ℕ → List ℕ → Bool → Bool → Mode
word role from bytes plain escaped =
    InWord (record { role = role; from = from; bytes = bytes; plain = plain; escaped = escaped })

abbrev pub span : ℕ → ℕ → Span
span i j = record { from = i; to = j }

abbrev pub member : ℕ → ℕ → Bool → Member
member i j quoted = record { place = span i j; quoted = quoted }

-- where an operand or an operator may begin
abbrev pub role_of : Bool → Role
role_of true = Joined
role_of false = First

-- the first byte of an operand
abbrev pub begin : Bool → ℕ → ℕ → Kind → Frame → List Frame → Step
begin joined at c Plain f fs = Go (state (word (role_of joined) at (c ∷ []) true false) f fs)
begin joined at c Angle f fs = Go (state (word (role_of joined) at (c ∷ []) true false) f fs)
begin joined at c Escape f fs = Go (state (word (role_of joined) at (c ∷ []) false true) f fs)
begin joined at c Quote f fs = Go (state (InQuote First (at + 1) false) f fs)
begin joined at c Star f fs = Go (after_leaf None asks.Any f fs)
begin joined at c Open f fs = open_bracket at f fs
begin joined at c Plus f fs = nest at f (state (Want false) (deeper f) fs)
begin joined at c Minus f fs = nest at f (state (Want false) (negated f) fs)
begin joined at c Blank f fs = Stuck
begin joined at c Colon f fs = Stuck
begin joined at c Close f fs = Stuck
begin joined at c SquareOpen f fs = Stuck
begin joined at c SquareClose f fs = Stuck
begin joined at c CurlyOpen f fs = Stuck
begin joined at c CurlyClose f fs = Stuck
begin joined at c Reserved f fs = Stuck

abbrev pub step_want : Bool → ℕ → ℕ → Kind → Frame → List Frame → Step
step_want spaced at c Blank f fs = if spaced then Go (state (Want true) f fs) else Stuck
step_want spaced at c k f fs = begin false at c k f fs

abbrev pub step_after : Bool → ℕ → ℕ → Kind → Frame → List Frame → Step
step_after free at c Blank f fs = Go (state (After true) f fs)
step_after free at c Close f fs = close_with (whole f) fs
step_after free at c Open f fs = open_bracket at f fs
step_after free at c k f fs = if free then begin true at c k f fs else Stuck

-- an operator wants white space or an opening bracket behind it
abbrev pub behind_operator : ℕ → ℕ → Kind → Frame → List Frame → Step
behind_operator at c Blank f fs = Go (state (Want true) f fs)
behind_operator at c Open f fs = open_bracket at f fs
behind_operator at c k f fs = Stuck

-- what follows a `NOT`
abbrev pub after_not : ℕ → ℕ → Kind → Frame → List Frame → Step
after_not at c Blank f fs = Go (state (Want true) (negated f) fs)
after_not at c Open f fs = open_bracket at (negated f) fs
after_not at c k f fs = Stuck

-- `NOT`, which stands at `from`: it counts as soon as it stands alone
abbrev pub behind_not : ℕ → ℕ → ℕ → Kind → Frame → List Frame → Step
behind_not from at c k f fs = if nat_lt f.deep limit then after_not at c k f fs else Deep from

-- a byte of a set, behind these members
abbrev pub step_set : Span → ℕ → List Member → ℕ → ℕ → Kind → Frame → List Frame → Step
step_set s n ms at c Blank f fs = Go (state (InSet s n ms) f fs)
step_set s n ms at c SquareClose f fs = Go (state (After true) (with_operand f (leaf (Some s) (asks.OneOf n ms))) fs)
step_set s n ms at c Quote f fs = Go (state (InQuote (InASet s n ms) (at + 1) false) f fs)
step_set s n ms at c Plain f fs = Go (state (word (InASet s n ms) at (c ∷ []) true false) f fs)
step_set s n ms at c Angle f fs = Go (state (word (InASet s n ms) at (c ∷ []) true false) f fs)
step_set s n ms at c Escape f fs = Go (state (word (InASet s n ms) at (c ∷ []) false true) f fs)
step_set s n ms at c _ f fs = Stuck

-- an `IN` behind a field, which stands at `from`: it begins a set where white space or `[` follows
abbrev pub behind_in : Span → ℕ → ℕ → ℕ → Kind → Frame → List Frame → Step
behind_in s from at c Blank f fs = Go (state (BehindIn s from) f fs)
behind_in s from at c SquareOpen f fs = Go (state (InSet s from []) f fs)
behind_in s from at c k f fs = step_after false at c k (with_operand f (leaf (Some s) (asks.Word (span from at)))) fs

-- what ends a word that is no operator; whether it is an unescaped `IN`
abbrev pub end_plain : Role → Bool → ℕ → ℕ → ℕ → Kind → Frame → List Frame → Step
end_plain First names from at c k f fs = step_after false at c k (with_operand f (leaf None (asks.Word (span from at)))) fs
end_plain Joined names from at c k f fs = step_after false at c k (with_operand f (leaf None (asks.Word (span from at)))) fs
end_plain (Fielded s) true from at c k f fs = behind_in s from at c k f fs
end_plain (Fielded s) false from at c k f fs = step_after false at c k (with_operand f (leaf (Some s) (asks.Word (span from at)))) fs
end_plain (InASet s n ms) names from at c k f fs = step_set s n (ms ++ member from at false ∷ []) at c k f fs

-- what ends an `AND` or an `OR`
abbrev pub end_join : Role → ℕ → ℕ → Kind → Frame → List Frame → Step
end_join Joined at c k f fs = behind_operator at c k f fs
end_join _ at c k f fs = Stuck

-- what ends a `NOT`
abbrev pub end_not : Role → ℕ → ℕ → ℕ → Kind → Frame → List Frame → Step
end_not First from at c k f fs = behind_not from at c k f fs
end_not Joined from at c k f fs = behind_not from at c k f fs
end_not _ from at c k f fs = Stuck

-- what ends a word, with what it said
abbrev pub end_word : Head → ℕ → ℕ → Kind → Said → Frame → List Frame → Step
end_word h at c k SaidWord f fs = end_plain h.role (names_set h.bytes) h.from at c k f fs
end_word h at c k SaidAnd f fs = end_join h.role at c k f fs
end_word h at c k SaidOr f fs = end_join h.role at c k (with_or f) fs
end_word h at c k SaidNot f fs = end_not h.role h.from at c k f fs

-- the field ends at the colon
abbrev pub name_field : Role → ℕ → ℕ → Frame → List Frame → Step
name_field First from at f fs = Go (state (Behind (span from at)) f fs)
name_field Joined from at f fs = Go (state (Behind (span from at)) f fs)
name_field _ from at f fs = Stuck

abbrev pub end_field : Head → ℕ → ℕ → Kind → Said → Frame → List Frame → Step
end_field h at c k SaidWord f fs = name_field h.role h.from at f fs
end_field h at c k SaidNot f fs = end_not h.role h.from at c k f fs
end_field h at c k s f fs = Stuck

abbrev pub name_prefix : Role → ℕ → ℕ → Frame → List Frame → Step
name_prefix (InASet s n ms) from at f fs = Stuck
name_prefix role from at f fs = Go (after_leaf (field_of role) (asks.Prefix (span from at)) f fs)

abbrev pub end_prefix : Head → ℕ → ℕ → Kind → Said → Frame → List Frame → Step
end_prefix h at c k SaidWord f fs = name_prefix h.role h.from at f fs
end_prefix h at c k SaidNot f fs = end_not h.role h.from at c k f fs
end_prefix h at c k s f fs = Stuck

abbrev pub more_of : Head → ℕ → Bool → Bool → Frame → List Frame → Step
more_of h c plain escaped f fs = Go (state (word h.role h.from (h.bytes ++ c ∷ []) plain escaped) f fs)

abbrev pub step_word : Head → ℕ → ℕ → Kind → Frame → List Frame → Step
step_word h at c Plain f fs = more_of h c h.plain false f fs
step_word h at c Angle f fs = more_of h c h.plain false f fs
step_word h at c Minus f fs = more_of h c h.plain false f fs
step_word h at c Escape f fs = more_of h c false true f fs
step_word h at c Colon f fs = end_field h at c Colon (said h.plain h.bytes) f fs
step_word h at c Star f fs = end_prefix h at c Star (said h.plain h.bytes) f fs
step_word h at c k f fs = end_word h at c k (said h.plain h.bytes) f fs

-- behind a quote
abbrev pub after_quote : Role → ℕ → ℕ → Frame → List Frame → State
after_quote (InASet s n ms) from at f fs = state (InSet s n (ms ++ member from at true ∷ [])) f fs
after_quote role from at f fs = after_leaf (field_of role) (asks.Quoted (span from at)) f fs

-- within quotes a backslash stands before a quote or a backslash alone
abbrev pub step_quote : Role → ℕ → Bool → ℕ → Kind → Frame → List Frame → Step
step_quote role from true at Quote f fs = Go (state (InQuote role from false) f fs)
step_quote role from true at Escape f fs = Go (state (InQuote role from false) f fs)
step_quote role from true at k f fs = Stuck
step_quote role from false at Quote f fs = Go (after_quote role from at f fs)
step_quote role from false at Escape f fs = Go (state (InQuote role from true) f fs)
step_quote role from false at k f fs = Go (state (InQuote role from false) f fs)

-- the first byte of a range or a comparison, or the star that asks for any value
abbrev pub begin_special : Span → ℕ → ℕ → Kind → Frame → List Frame → Step
begin_special s at c Star f fs = Go (after_leaf (Some s) asks.Any f fs)
begin_special s at c SquareOpen f fs = Go (state (InRange s at (ranges.Wanted (spots.Low true))) f fs)
begin_special s at c CurlyOpen f fs = Go (state (InRange s at (ranges.Wanted (spots.Low false))) f fs)
begin_special s at c Angle f fs = Go (state (InRange s at (ranges.Sign (c == 62))) f fs)
begin_special s at c _ f fs = Stuck

abbrev pub step_behind : Span → ℕ → ℕ → Kind → Frame → List Frame → Step
step_behind s at c Plain f fs = Go (state (word (Fielded s) at (c ∷ []) true false) f fs)
step_behind s at c Escape f fs = Go (state (word (Fielded s) at (c ∷ []) false true) f fs)
step_behind s at c Quote f fs = Go (state (InQuote (Fielded s) (at + 1) false) f fs)
step_behind s at c Blank f fs = Go (state (Spaced s) f fs)
step_behind s at c k f fs = begin_special s at c k f fs

abbrev pub step_spaced : Span → ℕ → ℕ → Kind → Frame → List Frame → Step
step_spaced s at c Blank f fs = Go (state (Spaced s) f fs)
step_spaced s at c Plain f fs = if c == 73 then Go (state (LetterI s at) f fs) else Stuck
step_spaced s at c k f fs = begin_special s at c k f fs

abbrev pub step_in : Span → ℕ → ℕ → ℕ → Kind → Frame → List Frame → Step
step_in s n at c Blank f fs = Go (state (BehindIn s n) f fs)
step_in s n at c SquareOpen f fs = Go (state (InSet s n []) f fs)
step_in s n at c k f fs = Stuck

-- what the range's step does
abbrev pub move_range : Span → ℕ → RangeStep → ℕ → ℕ → Kind → Frame → List Frame → Step
move_range s n (moves.More m) at c k f fs = Go (state (InRange s n m) f fs)
move_range s n (moves.Done r) at c k f fs = Go (state (After true) (with_operand f (leaf (Some s) (asks.Within n r))) fs)
move_range s n (moves.Ended r) at c k f fs = Go (state (After false) (with_operand f (leaf (Some s) (asks.Within n r))) fs)
move_range s n (moves.Before r) at c k f fs = step_after false at c k (with_operand f (leaf (Some s) (asks.Within n r))) fs
move_range s n moves.Refused at c k f fs = Stuck

-- one byte, at its place
abbrev pub step : Mode → ℕ → ℕ → Kind → Frame → List Frame → Step
step (Want spaced) at c k f fs = step_want spaced at c k f fs
step (After free) at c k f fs = step_after free at c k f fs
step (InWord h) at c k f fs = if h.escaped then more_of h c false false f fs else step_word h at c k f fs
step (InQuote role from escaped) at c k f fs = step_quote role from escaped at k f fs
step (Behind s) at c k f fs = step_behind s at c k f fs
step (Spaced s) at c k f fs = step_spaced s at c k f fs
step (LetterI s n) at c k f fs = if c == 78 then Go (state (BehindIn s n) f fs) else Stuck
step (BehindIn s n) at c k f fs = step_in s n at c k f fs
step (InSet s n ms) at c k f fs = step_set s n ms at c k f fs
step (InRange s n m) at c k f fs = move_range s n (range_step m at c k) at c k f fs

-- what the text is, if it ends here
abbrev pub done_with : List Frame → Option Tree → Option Tree
done_with [] t = t
done_with (f ∷ fs) t = None

abbrev pub finished : ℕ → Option Tree → Result Tree Fault
finished at (Some t) = Ok t
finished at None = Err (faults.Syntax at)

-- the text ends behind an operand
abbrev pub finish_with : Tree → ℕ → Frame → List Frame → Result Tree Fault
finish_with t at f fs = finished at (done_with fs (whole (with_operand f t)))

abbrev pub finish_plain : Role → ℕ → ℕ → Frame → List Frame → Result Tree Fault
finish_plain (InASet s n ms) from at f fs = Err (faults.Syntax at)
finish_plain role from at f fs = finish_with (leaf (field_of role) (asks.Word (span from at))) at f fs

abbrev pub finish_not : Role → ℕ → ℕ → Frame → Result Tree Fault
finish_not First from at f = if nat_lt f.deep limit then Err (faults.Syntax at) else Err (faults.TooDeep from)
finish_not Joined from at f = if nat_lt f.deep limit then Err (faults.Syntax at) else Err (faults.TooDeep from)
finish_not _ from at f = Err (faults.Syntax at)

abbrev pub finish_word : Role → Said → ℕ → ℕ → Frame → List Frame → Result Tree Fault
finish_word role SaidWord from at f fs = finish_plain role from at f fs
finish_word role SaidNot from at f fs = finish_not role from at f
finish_word role s from at f fs = Err (faults.Syntax at)

abbrev pub finish_range : Span → ℕ → Option Ranged → ℕ → Frame → List Frame → Result Tree Fault
finish_range s n (Some r) at f fs = finish_with (leaf (Some s) (asks.Within n r)) at f fs
finish_range s n None at f fs = Err (faults.Syntax at)

abbrev pub finish : Mode → ℕ → Frame → List Frame → Result Tree Fault
finish (After free) at f fs = finished at (done_with fs (whole f))
finish (InWord h) at f fs = if h.escaped then Err (faults.Syntax at) else finish_word h.role (said h.plain h.bytes) h.from at f fs
finish (InRange s n m) at f fs = finish_range s n (range_end m at) at f fs
finish m at f fs = Err (faults.Syntax at)

abbrev pub go_on : ℕ → Step → (State → Result Tree Fault) → Result Tree Fault
go_on at (Go s) next = next s
go_on at Stuck next = Err (faults.Syntax at)
go_on at (Deep from) next = Err (faults.TooDeep from)

-- what is left of the text, from a place in a state
unfoldable pub run : ℕ → State → List ℕ → Result Tree Fault
run at s [] = finish s.mode at s.frame s.outer
run at s (c ∷ cs) = go_on at (step s.mode at c (kind_of c) s.frame s.outer) (λ next. run (at + 1) next cs)

abbrev pub start : State
start = state (Want true) (fresh 0) []

-- what a text reads as
abbrev pub reads : List ℕ → Result Tree Fault
reads text = run 0 start text

-- what is left of the text, where an operand is to begin
unfoldable pub from_operand : ℕ → Frame → List Frame → List ℕ → Result Tree Fault
from_operand at f fs [] = Err (faults.Syntax at)
from_operand at f fs (c ∷ cs) = go_on at (begin false at c (kind_of c) f fs) (λ next. run (at + 1) next cs)

-- a word with its first byte
abbrev pub begun_word : Role → ℕ → List ℕ → Mode
begun_word role from text =
    let first = slice_index text from in
    let escaped = is_escape_kind (kind_of first) in
    word role from (first ∷ []) (not escaped) escaped
