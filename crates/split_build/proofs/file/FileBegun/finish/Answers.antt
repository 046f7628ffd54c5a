use Rattle.std.proofs.Common.{◌≡◌, ◌∙◌, ◌++◌, List, ℕ, ap, length, refl, arith}
use Rattle.byte_fields.specs.Spelling.{eight}
use Rattle.split_bundle.specs.Files.{head, footer_bytes}
use Rattle.split_build.specs.Filed.{begun_parts}
use Rattle.split_build.proofs.FileLemmas.{file_put}
use Rattle.split_build.proofs.file.FileBegun.finish.Goals as goal

pub returns : goal.returns
returns c = λ documents keys begun count.
    let foot = c.in_ok-put_footer.ensures documents keys begun count in
    let size : c.len.result ≡ length c.put_footer.new.out.items = omega (arith, c.len.ensures, c.put_footer.new.out.ok.0) in
    record {
      bytes =
          file_put (begun_parts c.args.self documents keys) c.put_footer.new.out.items head c.in_ok-out.out.items c.extend_from_slice.new.self.items c.put_eight.new.out.items c.extend_from_slice-2.new.self.items
          (foot.bytes ∙ ap (λ (l : List ℕ). l ++ footer_bytes (begun_parts c.args.self documents keys)) c.new-footer.ensures.items)
          refl
          (c.in_ok-out.ensures documents keys begun)
          (c.in_ok-extend_from_slice.ensures.items ∙ ap (λ (l : List ℕ). c.in_ok-out.out.items ++ l) c.deref.ensures.value)
          (c.in_ok-put_eight.ensures.ok ∙ ap (λ (n : ℕ). c.extend_from_slice.new.self.items ++ eight n) size)
          c.in_ok-extend_from_slice-2.ensures.items;
      names = foot.names;
      numbers = foot.numbers;
    }
