-- What brackets, signs and `NOT` do to the machine.
use Rattle.std.proofs.Common.{◌≡◌, ◌⊎◌, inl, inr, Some, None, ℕ, ◌+◌, ◌<◌, ◌≤◌, Bool, true, false, List, [], ◌∷◌, length, drop, get_or, Result, Ok, Err, refl, ap, sym, ◌∙◌, arith}
use Rattle.std.specs.Prelude.{slice_range}
use Rattle.std.proofs.lemmas.Bool.{cases_lt}
use Rattle.std.proofs.lemmas.List.{drop_all}
use Rattle.query_reader.proofs.Steps.{steps, goes, ends, begins}
use Rattle.query_reader.specs.Kinds.{kind_of, said, ends_word}
use Rattle.query_reader.specs.declared.fault.QuerySyntaxError.{QuerySyntaxError}
use Rattle.query_reader.specs.declared.fault.QuerySyntaxError.TheVariants as errors
use Rattle.query_reader.specs.Tree.{Tree, Trees, Group, view, no_trees, behind, trees_after, and_tree, or_tree}
use Rattle.query_reader.specs.Machine.{run, state, State, Frame, Go, Stuck, Deep, go_on, step, begin, from_operand, word, First, Want, After, with_operand, after_leaf, after_not}
use Rattle.query_reader.specs.Reading.{IsOperatorEnd, Rest, Reads}
use Rattle.query_reader.specs.declared.reader.Operand.{Operand}
use Rattle.query_reader.specs.declared.kind.Kind.{Kind}
use Rattle.query_reader.specs.declared.kind.Kind.TheVariants.{Blank, Quote, Open, Close, Star, Plus, Minus, Escape, Angle, Plain}
use Rattle.query_reader.specs.declared.kind.Said.TheVariants.{SaidNot}
use Rattle.query_reader.specs.Asking as asks
use Rattle.query_reader.specs.declared.fault.Fault.{Fault}
use Rattle.query_reader.specs.declared.fault.Fault.TheVariants as faults
use Rattle.query_reader.proofs.Parts.{stuck_at, alike, tight_operand}
use Rattle.std.proofs.Common.{nat_lt, lt-ltb, le-ltb, if◌then◌else◌, map}
use Rattle.query_reader.specs.Machine.{deeper, negated, limit, behind_not, close_with, whole, whole_with, done_with, finished, fresh}
use Rattle.query_reader.specs.Reading.{operand_rest, negated_rest, quote_rest, sunk, Fails, group_rest, OnFault, ReadsGroup, members}
use Rattle.query_reader.specs.declared.tree.Raw.{Raw}
use Rattle.query_reader.proofs.Rows.{count, count_after}

-- what a call failed with, seen from an earlier place
pub fails_more : (e : QuerySyntaxError) (rest rest' : Rest) (g : Frame → Frame) → ((f : Frame) (fs : List Frame) → rest' f fs ≡ rest (g f) fs) → Fails rest e → Fails rest' e
fails_more errors.Memory rest rest' g h p = p
fails_more (errors.Refused x) rest rest' g h p = λ f fs. h f fs ∙ p (g f) fs

pub reads_sunk : (text : List ℕ) (r : Result Operand QuerySyntaxError) (rest rest' : Rest) (depth : ℕ) → ((f : Frame) (fs : List Frame) → rest' f fs ≡ rest (sunk depth f) fs) → Reads text rest r → Reads text rest' r
reads_sunk text (Ok o) rest rest' depth h p = λ f fs. h f fs ∙ p (sunk depth f) fs
reads_sunk text (Err errors.Memory) rest rest' depth h p = p
reads_sunk text (Err (errors.Refused x)) rest rest' depth h p = λ f fs. h f fs ∙ p (sunk depth f) fs

pub fails_in_group : (text : List ℕ) (depth : ℕ) (e : QuerySyntaxError) (rest : List Frame → Result Tree Fault) (rest' : Rest) (g : Frame → List Frame → List Frame)
    → ((f : Frame) (fs : List Frame) → rest' f fs ≡ rest (g f fs)) → ReadsGroup text depth rest (Err e) → Fails rest' e
fails_in_group text depth errors.Memory rest rest' g h p = p
fails_in_group text depth (errors.Refused x) rest rest' g h p = λ f fs. h f fs ∙ p (g f fs)

pub group_fails : (text : List ℕ) (depth : ℕ) (e : QuerySyntaxError) (rest : Rest) (rest' : List Frame → Result Tree Fault) (f : Frame)
    → ((fs : List Frame) → rest' fs ≡ rest f fs) → Fails rest e → ReadsGroup text depth rest' (Err e)
group_fails text depth errors.Memory rest rest' f h p = p
group_fails text depth (errors.Refused x) rest rest' f h p = λ fs. h fs ∙ p f fs

-- what stands between two brackets fails where its operands do
pub group_faults : (text : List ℕ) (depth : ℕ) (e : QuerySyntaxError) (rest rest' : List Frame → Result Tree Fault)
    → ((fs : List Frame) → rest' fs ≡ rest fs) → OnFault e (λ fault. (fs : List Frame) → rest fs ≡ Err fault) → ReadsGroup text depth rest' (Err e)
group_faults text depth errors.Memory rest rest' h p = p
group_faults text depth (errors.Refused x) rest rest' h p = λ fs. h fs ∙ p fs

pub operand_faults : (e : QuerySyntaxError) (rest : Rest) (rest' : List Frame → Result Tree Fault) (f : Frame)
    → ((fs : List Frame) → rest' fs ≡ rest f fs) → Fails rest e → OnFault e (λ fault. (fs : List Frame) → rest' fs ≡ Err fault)
operand_faults errors.Memory rest rest' f h p = p
operand_faults (errors.Refused x) rest rest' f h p = λ fs. h fs ∙ p f fs

-- the depth has room, or not
under : (depth : ℕ) → depth < 64 → nat_lt depth limit ≡ true
under depth l = lt-ltb depth 64 l

over : (depth : ℕ) → 64 ≤ depth → nat_lt depth limit ≡ false
over depth l = le-ltb depth 64 l

-- an operand begins
pub operand_end : (text : List ℕ) (depth at : ℕ) (f : Frame) (fs : List Frame) → length text ≤ at → operand_rest text depth at f fs ≡ Err (faults.Syntax at)
unfolding from_operand
operand_end text depth at f fs l = ap (from_operand at (sunk depth f) fs) (drop_all at text l)

pub operand_quote : (text : List ℕ) (depth at : ℕ) (f : Frame) (fs : List Frame) → at < length text → kind_of (get_or text at 0) ≡ Quote
    → operand_rest text depth at f fs ≡ quote_rest text First (at + 1) (sunk depth f) fs
operand_quote text depth at f fs l e = begins text at (sunk depth f) fs Quote l e

pub operand_star : (text : List ℕ) (depth at : ℕ) (f : Frame) (fs : List Frame) → at < length text → kind_of (get_or text at 0) ≡ Star
    → operand_rest text depth at f fs ≡ run (at + 1) (after_leaf None asks.Any f fs) (drop (at + 1) text)
operand_star text depth at f fs l e = begins text at (sunk depth f) fs Star l e

nest_go : (text : List ℕ) (at depth : ℕ) (s : State) → depth < 64
    → go_on at (if nat_lt depth limit then Go s else Deep at) (λ next. run (at + 1) next (drop (at + 1) text)) ≡ run (at + 1) s (drop (at + 1) text)
nest_go text at depth s l = rw (under depth l) refl

nest_deep : (text : List ℕ) (at from depth : ℕ) (s : State) → 64 ≤ depth
    → go_on at (if nat_lt depth limit then Go s else Deep from) (λ next. run (at + 1) next (drop (at + 1) text)) ≡ Err (faults.TooDeep from)
nest_deep text at from depth s l = rw (over depth l) refl

pub operand_plus : (text : List ℕ) (depth at : ℕ) (f : Frame) (fs : List Frame) → at < length text → kind_of (get_or text at 0) ≡ Plus → depth < 64
    → operand_rest text depth at f fs ≡ operand_rest text (depth + 1) (at + 1) f fs
operand_plus text depth at f fs l e d = begins text at (sunk depth f) fs Plus l e ∙ nest_go text at depth (state (Want false) (deeper (sunk depth f)) fs) d
    ∙ tight_operand text (at + 1) (deeper (sunk depth f)) fs

pub operand_minus : (text : List ℕ) (depth at : ℕ) (f : Frame) (fs : List Frame) → at < length text → kind_of (get_or text at 0) ≡ Minus → depth < 64
    → operand_rest text depth at f fs ≡ negated_rest text (depth + 1) (at + 1) f fs
operand_minus text depth at f fs l e d = begins text at (sunk depth f) fs Minus l e ∙ nest_go text at depth (state (Want false) (negated (sunk depth f)) fs) d
    ∙ tight_operand text (at + 1) (negated (sunk depth f)) fs

pub plus_deep : (text : List ℕ) (depth at : ℕ) (f : Frame) (fs : List Frame) → at < length text → kind_of (get_or text at 0) ≡ Plus → 64 ≤ depth
    → operand_rest text depth at f fs ≡ Err (faults.TooDeep at)
plus_deep text depth at f fs l e d = begins text at (sunk depth f) fs Plus l e ∙ nest_deep text at at depth (state (Want false) (deeper (sunk depth f)) fs) d

pub minus_deep : (text : List ℕ) (depth at : ℕ) (f : Frame) (fs : List Frame) → at < length text → kind_of (get_or text at 0) ≡ Minus → 64 ≤ depth
    → operand_rest text depth at f fs ≡ Err (faults.TooDeep at)
minus_deep text depth at f fs l e d = begins text at (sunk depth f) fs Minus l e ∙ nest_deep text at at depth (state (Want false) (negated (sunk depth f)) fs) d

pub operand_open : (text : List ℕ) (depth at : ℕ) (f : Frame) (fs : List Frame) → at < length text → kind_of (get_or text at 0) ≡ Open → depth < 64
    → operand_rest text depth at f fs ≡ group_rest text (depth + 1) (at + 1) (sunk depth f ∷ fs)
operand_open text depth at f fs l e d = begins text at (sunk depth f) fs Open l e ∙ nest_go text at depth (state (Want true) (fresh (depth + 1)) (sunk depth f ∷ fs)) d

pub open_deep : (text : List ℕ) (depth at : ℕ) (f : Frame) (fs : List Frame) → at < length text → kind_of (get_or text at 0) ≡ Open → 64 ≤ depth
    → operand_rest text depth at f fs ≡ Err (faults.TooDeep at)
open_deep text depth at f fs l e d = begins text at (sunk depth f) fs Open l e ∙ nest_deep text at at depth (state (Want true) (fresh (depth + 1)) (sunk depth f ∷ fs)) d

begin_stuck : (at c : ℕ) (k : Kind) (f : Frame) (fs : List Frame) → (k ≡ Quote → ⊥) → (k ≡ Open → ⊥) → (k ≡ Star → ⊥) → (k ≡ Plus → ⊥) → (k ≡ Minus → ⊥) → (k ≡ Escape → ⊥) → (k ≡ Angle → ⊥) → (k ≡ Plain → ⊥)
    → begin false at c k f fs ≡ Stuck
begin_stuck at c Quote f fs n o p q r s t u = absurd (n refl)
begin_stuck at c Open f fs n o p q r s t u = absurd (o refl)
begin_stuck at c Star f fs n o p q r s t u = absurd (p refl)
begin_stuck at c Plus f fs n o p q r s t u = absurd (q refl)
begin_stuck at c Minus f fs n o p q r s t u = absurd (r refl)
begin_stuck at c Escape f fs n o p q r s t u = absurd (s refl)
begin_stuck at c Angle f fs n o p q r s t u = absurd (t refl)
begin_stuck at c Plain f fs n o p q r s t u = absurd (u refl)
begin_stuck at c _ f fs n o p q r s t u = refl

pub operand_stuck : (text : List ℕ) (depth at : ℕ) (f : Frame) (fs : List Frame) (k : Kind) → at < length text → kind_of (get_or text at 0) ≡ k
    → (k ≡ Quote → ⊥) → (k ≡ Open → ⊥) → (k ≡ Star → ⊥) → (k ≡ Plus → ⊥) → (k ≡ Minus → ⊥) → (k ≡ Escape → ⊥) → (k ≡ Angle → ⊥) → (k ≡ Plain → ⊥)
    → operand_rest text depth at f fs ≡ Err (faults.Syntax at)
operand_stuck text depth at f fs k l e n o p q r s t u = begins text at (sunk depth f) fs k l e
    ∙ ap (λ x. go_on at x (λ next. run (at + 1) next (drop (at + 1) text))) (begin_stuck at (get_or text at 0) k (sunk depth f) fs n o p q r s t u)

-- `NOT`
not_ends : (c : ℕ) (k : Kind) (from : ℕ) (bytes : List ℕ) (p : Bool) (to : ℕ) (f : Frame) (fs : List Frame) → ends_word k ≡ true → said p bytes ≡ SaidNot
    → step (word First from bytes p false) to c k f fs ≡ behind_not from to c k f fs
not_ends c Plain from bytes p to f fs e s = absurd (let x : false ≡ true = e in cc)
not_ends c Angle from bytes p to f fs e s = absurd (let x : false ≡ true = e in cc)
not_ends c Minus from bytes p to f fs e s = absurd (let x : false ≡ true = e in cc)
not_ends c Escape from bytes p to f fs e s = absurd (let x : false ≡ true = e in cc)
not_ends c _ from bytes p to f fs e s = rw s refl

not_then : (c : ℕ) (k : Kind) (to : ℕ) (f : Frame) (fs : List Frame) → (k ≡ Blank) ⊎ (k ≡ Open) → after_not to c k f fs ≡ step (Want true) to c k (negated f) fs
not_then c k to f fs (inl e) = rw e refl
not_then c k to f fs (inr e) = rw e refl

not_under : (from to c : ℕ) (k : Kind) (depth : ℕ) (f : Frame) (fs : List Frame) → depth < 64 → behind_not from to c k (sunk depth f) fs ≡ after_not to c k (sunk depth f) fs
not_under from to c k depth f fs d = rw (under depth d) refl

not_over : (from to c : ℕ) (k : Kind) (depth : ℕ) (f : Frame) (fs : List Frame) → 64 ≤ depth → behind_not from to c k (sunk depth f) fs ≡ Deep from
not_over from to c k depth f fs d = rw (over depth d) refl

pub not_wants : (text : List ℕ) (to from : ℕ) (p b : Bool) (depth : ℕ) (f : Frame) (fs : List Frame) → (to < length text → ends_word (kind_of (get_or text to 0)) ≡ true) → IsOperatorEnd text to → b ≡ false
    → said p (slice_range text from to) ≡ SaidNot → depth < 64
    → run to (state (word First from (slice_range text from to) p b) (sunk depth f) fs) (drop to text) ≡ run to (state (Want true) (negated (sunk depth f)) fs) (drop to text)
not_wants text to from p b depth f fs w o e s d = alike text to _ (Want true) (sunk depth f) (negated (sunk depth f)) fs
    (λ l. rw e (not_ends (get_or text to 0) (kind_of (get_or text to 0)) from (slice_range text from to) p to (sunk depth f) fs (w l) s
    ∙ not_under from to (get_or text to 0) (kind_of (get_or text to 0)) depth f fs d ∙ not_then (get_or text to 0) (kind_of (get_or text to 0)) to (sunk depth f) fs o.1))
    (λ l. absurd (omega (arith, o.0)))

not_nothing : (c : ℕ) (k : Kind) (to : ℕ) (f : Frame) (fs : List Frame) → (k ≡ Blank → ⊥) → (k ≡ Open → ⊥) → after_not to c k f fs ≡ Stuck
not_nothing c Blank to f fs a b = absurd (a refl)
not_nothing c Open to f fs a b = absurd (b refl)
not_nothing c _ to f fs a b = refl

pub not_stuck : (text : List ℕ) (to from : ℕ) (p b : Bool) (depth : ℕ) (f : Frame) (fs : List Frame) → (to < length text → ends_word (kind_of (get_or text to 0)) ≡ true) → (IsOperatorEnd text to → ⊥) → b ≡ false
    → said p (slice_range text from to) ≡ SaidNot → depth < 64
    → run to (state (word First from (slice_range text from to) p b) (sunk depth f) fs) (drop to text) ≡ Err (faults.Syntax to)
not_stuck text to from p b depth f fs w o e s d = stuck_at text to (word First from (slice_range text from to) p b) (sunk depth f) fs
    (λ l. rw e (not_ends (get_or text to 0) (kind_of (get_or text to 0)) from (slice_range text from to) p to (sunk depth f) fs (w l) s
    ∙ not_under from to (get_or text to 0) (kind_of (get_or text to 0)) depth f fs d ∙ not_nothing (get_or text to 0) (kind_of (get_or text to 0)) to (sunk depth f) fs (λ k. o (l, inl k)) (λ k. o (l, inr k))))
    (λ l. rw (e, s, under depth d) refl)

pub not_deep : (text : List ℕ) (to from : ℕ) (p b : Bool) (depth : ℕ) (f : Frame) (fs : List Frame) → (to < length text → ends_word (kind_of (get_or text to 0)) ≡ true) → b ≡ false
    → said p (slice_range text from to) ≡ SaidNot → 64 ≤ depth
    → run to (state (word First from (slice_range text from to) p b) (sunk depth f) fs) (drop to text) ≡ Err (faults.TooDeep from)
not_deep text to from p b depth f fs w e s d = elim (cases_lt to (length text)) [
  | inl l ↦ let y : step (word First from (slice_range text from to) p b) to (get_or text to 0) (kind_of (get_or text to 0)) (sunk depth f) fs ≡ Deep from
      = rw e (not_ends (get_or text to 0) (kind_of (get_or text to 0)) from (slice_range text from to) p to (sunk depth f) fs (w l) s
      ∙ not_over from to (get_or text to 0) (kind_of (get_or text to 0)) depth f fs d) in
      steps text to (word First from (slice_range text from to) p b) (sunk depth f) fs (kind_of (get_or text to 0)) l refl
      ∙ ap (λ x. go_on to x (λ next. run (to + 1) next (drop (to + 1) text))) y
  | inr l ↦ ends text to (word First from (slice_range text from to) p b) (sunk depth f) fs l ∙ rw (e, s, over depth d) refl
]

-- a bracket closes, or the text ends in it
pub group_closes : (text : List ℕ) (depth end : ℕ) (t : Tree) (f : Frame) (fs : List Frame) → end < length text → kind_of (get_or text end 0) ≡ Close
    → run end (state (After true) (with_operand (fresh depth) t) (f ∷ fs)) (drop end text) ≡ run (end + 1) (state (After true) (with_operand f (Group t)) fs) (drop (end + 1) text)
group_closes text depth end t f fs l e = goes text end (After true) (with_operand (fresh depth) t) (f ∷ fs) Close _ l e refl

pub group_open : (text : List ℕ) (depth end : ℕ) (t : Tree) (f : Frame) (fs : List Frame) → length text ≤ end
    → run end (state (After true) (with_operand (fresh depth) t) (f ∷ fs)) (drop end text) ≡ Err (faults.Syntax end)
group_open text depth end t f fs l = ends text end (After true) (with_operand (fresh depth) t) (f ∷ fs) l

pub whole_ends : (text : List ℕ) (end : ℕ) (t : Tree) → length text ≤ end → run end (state (After true) (with_operand (fresh 0) t) []) (drop end text) ≡ Ok t
whole_ends text end t l = ends text end (After true) (with_operand (fresh 0) t) [] l

pub whole_closes : (text : List ℕ) (end : ℕ) (t : Tree) → end < length text → kind_of (get_or text end 0) ≡ Close
    → run end (state (After true) (with_operand (fresh 0) t) []) (drop end text) ≡ Err (faults.Syntax end)
whole_closes text end t l e = steps text end (After true) (with_operand (fresh 0) t) [] Close l e

-- the members of a bracket are one where it ends
whole_some : (ors ands : Trees) (t : Tree) → (0 < count ands) → t ≡ or_tree (behind ors (and_tree ands)) → whole_with ors ands ≡ Some t
whole_some ors no_trees t l h = absurd (omega (arith, l))
whole_some ors (behind ts u) t l h = ap Some (sym h)

pub members_end : (text : List ℕ) (depth end : ℕ) (ors ands : List Raw) (t : Tree) (fs : List Frame) → (end < length text → kind_of (get_or text end 0) ≡ Close) → 0 < length ands
    → t ≡ or_tree (behind (trees_after no_trees (map view ors)) (and_tree (trees_after no_trees (map view ands))))
    → run end (state (After true) (members depth ors ands) fs) (drop end text) ≡ run end (state (After true) (with_operand (fresh depth) t) fs) (drop end text)
members_end text depth end ors ands t fs e l h =
    let same : whole (members depth ors ands) ≡ Some t = whole_some (trees_after no_trees (map view ors)) (trees_after no_trees (map view ands)) t (omega (arith, l, count_after no_trees ands)) h in
    alike text end (After true) (After true) (members depth ors ands) (with_operand (fresh depth) t) fs (λ l. rw (e l) (ap (λ x. close_with x fs) same)) (λ l. ap (λ x. finished end (done_with fs x)) same)
