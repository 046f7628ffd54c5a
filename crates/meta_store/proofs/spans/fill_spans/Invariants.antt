use Rattle.std.proofs.Common.{◌≡◌, ◌+◌, ◌++◌, take, vec_len, vec_capacity}
use Rattle.source_checkpoint.specs.Deltas.{spans_of}
use Rattle.meta_store.proofs.spans.fill_spans.Given as goal

abbrev pub invariant-loop-part : goal.invariant-loop-part
invariant-loop-part l = record {
  filled : l.spans.items ≡ l.initial.spans.items ++ spans_of l.opstamp (take l.part-index l.parts);
  len : vec_len l.spans ≡ vec_len l.initial.spans + l.part-index;
  room : vec_capacity l.spans ≡ vec_capacity l.initial.spans;
}
