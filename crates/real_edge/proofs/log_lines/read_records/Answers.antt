use Rattle.std.proofs.Common.{◌≡◌, ◌≤◌, ◌<◌, ◌^◌, ◌∙◌, ap, sym, refl, subst, arith, length, take, drop, List, ℕ, Option, Ok, Bool}
use Rattle.std.specs.Prelude.{IfSome}
use Rattle.source_log.specs.Log.{IsSliceOf}
use Rattle.real_edge.specs.Growing.{Grown, AreGrown, bytes_of}
use Rattle.real_edge.specs.Lines.{IsMark, HasFilled, records_in}
use Rattle.real_edge.proofs.Pieces.{IsReading, grown-size, reading-begins, reading-goes, reading-full, reading-ends, some_by, some_and}
use Rattle.real_edge.proofs.log_lines.read_records.Goals as goal

pub loop-init : goal.loop-init
loop-init g c =
    let none = ap length c.from-reading.ensures.few in
    record {
      same = c.in_ok-is_front.ensures;
      few = omega (arith, none);
      reads = some_by (λ files. IsMark (bytes_of files c.args.partition.now) c.args.start) (λ files. IsReading c.args.from c.args.most (bytes_of files c.args.partition.now) c.from-reading.result) (g.G.GrowingFiles.told c.args.files.now)
          (λ files m. reading-begins c.args.from c.args.most (bytes_of files c.args.partition.now) c.args.start c.from-reading.result m
          (c.from-reading.ensures.reads (bytes_of files c.args.partition.now) c.args.from c.args.most m c.requires.before))
          c.requires.start;
    }

pub loop-preserved : goal.loop-preserved
loop-preserved g c =
    let told : Option (List Grown) = g.G.GrowingFiles.told c.args.files.now in
    let name : List ℕ = c.args.partition.now in
    let Is : List Grown → Type 0 = λ files. c.in_ok-piece.piece ≡ take c.min-len.result (drop c.loop.reading.next (bytes_of files name)) in
    let Was : List Grown → Type 0 = λ files. IsReading c.args.from c.args.most (bytes_of files name) c.loop.reading in
    let piece : IfSome told Is = subst (λ (o : Option (List Grown)). IfSome o Is) c.loop.invariant.same c.in_ok-piece.ensures.bytes in
    record {
      same = c.in_ok-piece.ensures.same ∙ c.loop.invariant.same;
      few = c.in_ok-take.ensures.few c.loop.invariant.few;
      reads = some_by (λ files. (Is files × Was files) × AreGrown files) (λ files. IsReading c.args.from c.args.most (bytes_of files name) c.take.new.self) told
          (λ files h. reading-goes c.args.from c.args.most (bytes_of files name) c.as_slice.result.now c.min-len.result c.loop.reading c.take.new.self
          (grown-size files name h.1) (c.as_slice.ensures ∙ h.0.0) h.0.1 (c.in_ok-take.ensures.goes (ap (λ (b : Bool). Ok b) c.if-branch.false)))
          (some_and (λ files. Is files × Was files) AreGrown told (some_and Is Was told piece c.loop.invariant.reads) (g.met.G.GrowingFiles.sound c.args.files.now));
    }

pub returns-then-branch-clause-records : goal.returns-then-branch-clause-records
returns-then-branch-clause-records g c =
    let told : Option (List Grown) = g.G.GrowingFiles.told c.args.files.now in
    let name : List ℕ = c.args.partition.now in
    let Is : List Grown → Type 0 = λ files. c.in_ok-piece.piece ≡ take c.min-len.result (drop c.loop.reading.next (bytes_of files name)) in
    let Was : List Grown → Type 0 = λ files. IsReading c.args.from c.args.most (bytes_of files name) c.loop.reading in
    let piece : IfSome told Is = subst (λ (o : Option (List Grown)). IfSome o Is) c.loop.invariant.same c.in_ok-piece.ensures.bytes in
    some_by (λ files. (Is files × Was files) × AreGrown files) (λ files. IsSliceOf (records_in (bytes_of files name)) c.args.from c.args.most c.filled.result.0) told
    (λ files h. c.filled.ensures.records (bytes_of files name) c.args.from c.args.most
    (reading-full c.args.from c.args.most (bytes_of files name) c.as_slice.result.now c.min-len.result c.loop.reading c.take.new.self
    (grown-size files name h.1) (c.as_slice.ensures ∙ h.0.0) h.0.1 (c.in_ok-take.ensures.full (ap (λ (b : Bool). Ok b) c.if-branch.true))))
    (some_and (λ files. Is files × Was files) AreGrown told (some_and Is Was told piece c.loop.invariant.reads) (g.met.G.GrowingFiles.sound c.args.files.now))

pub returns-then-branch-clause-mark : goal.returns-then-branch-clause-mark
returns-then-branch-clause-mark g c =
    let told : Option (List Grown) = g.G.GrowingFiles.told c.args.files.now in
    let name : List ℕ = c.args.partition.now in
    let Is : List Grown → Type 0 = λ files. c.in_ok-piece.piece ≡ take c.min-len.result (drop c.loop.reading.next (bytes_of files name)) in
    let Was : List Grown → Type 0 = λ files. IsReading c.args.from c.args.most (bytes_of files name) c.loop.reading in
    let piece : IfSome told Is = subst (λ (o : Option (List Grown)). IfSome o Is) c.loop.invariant.same c.in_ok-piece.ensures.bytes in
    some_by (λ files. (Is files × Was files) × AreGrown files) (λ files. IsMark (bytes_of files name) c.filled.result.1) told
    (λ files h. subst (IsMark (bytes_of files name)) (sym c.filled.ensures.mark)
    (let f : HasFilled c.args.from c.args.most (bytes_of files name) c.take.new.self =
    reading-full c.args.from c.args.most (bytes_of files name) c.as_slice.result.now c.min-len.result c.loop.reading c.take.new.self
    (grown-size files name h.1) (c.as_slice.ensures ∙ h.0.0) h.0.1 (c.in_ok-take.ensures.full (ap (λ (b : Bool). Ok b) c.if-branch.true)) in f.behind))
    (some_and (λ files. Is files × Was files) AreGrown told (some_and Is Was told piece c.loop.invariant.reads) (g.met.G.GrowingFiles.sound c.args.files.now))

pub returns-in-Some-clause-records : goal.returns-in-Some-clause-records
returns-in-Some-clause-records g c =
    let told : Option (List Grown) = g.G.GrowingFiles.told c.args.files.now in
    let name : List ℕ = c.args.partition.now in
    let Size : List Grown → Type 0 = λ files. c.args.size ≡ length (bytes_of files name) in
    let Was : List Grown → Type 0 = λ files. IsReading c.args.from c.args.most (bytes_of files name) c.loop.reading in
    some_by (λ files. Size files × Was files) (λ files. IsSliceOf (records_in (bytes_of files name)) c.args.from c.args.most c.in-Some.read.0) told
    (λ files h. c.in-Some.ensures.records (bytes_of files name) c.args.most
    (reading-ends c.args.from c.args.most (bytes_of files name) c.loop.reading h.1 (let size : c.args.size ≡ length (bytes_of files name) = h.0 in omega (arith, size))))
    (some_and Size Was told c.requires.size c.loop.invariant.reads)
