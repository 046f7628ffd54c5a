use Rattle.std.proofs.Common.{◌≡◌, ◌∙◌, ◌+◌, ◌<◌, ◌^◌, ◌++◌, ◌∷◌, List, ℕ, suc, ap, sym, subst, drop, arith}
use Rattle.std.specs.List.{AllByRecursion, flat_map}
use Rattle.byte_fields.specs.Spelling.{varint, byte_string}
use Rattle.term_dict.specs.declared.index.BlockStart.{BlockStart}
use Rattle.split_bundle.specs.Files.{block_bytes}
use Rattle.split_build.proofs.FileLemmas.{drop_at, put_two}
use Rattle.split_build.proofs.file.put_index.Goals as goal

pub loop-number-preserved : goal.loop-number-preserved
loop-number-preserved c =
    let next : c.loop-number.number + 1 ≡ suc c.loop-number.number = omega arith in
    let at : drop c.loop-number.number c.args.index.now ≡ c.at-block.result.now ∷ drop (c.loop-number.number + 1) c.args.index.now = drop_at c.args.index.now c.loop-number.number (c.loop-number.number + 1) c.at-block.result.now next c.at-block.ensures in
    let small : c.at-block.result.now.start < 2 ^ 64 = omega arith in
    record {
      bytes =
          put_two c.loop-number.out.items c.put_bytes.new.out.items c.put_varint-in-loop-number.new.out.items (byte_string c.at-block.result.now.first) (varint c.at-block.result.now.start) (flat_map block_bytes (drop (c.loop-number.number + 1) c.args.index.now)) _
          (c.in_ok-put_bytes.ensures.ok ∙ ap (λ (l : List ℕ). c.loop-number.out.items ++ byte_string l) c.as_slice.ensures) c.in_ok-put_varint-2.ensures.ok
          (ap (λ (l : List BlockStart). c.loop-number.out.items ++ flat_map block_bytes l) (sym at) ∙ c.loop-number.invariant.bytes);
      starts = λ h. c.loop-number.invariant.starts (subst (λ (l : List BlockStart). AllByRecursion (λ b. b.start < 2 ^ 64) l) (sym at) (small, h));
    }
