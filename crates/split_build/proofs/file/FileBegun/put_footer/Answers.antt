use Rattle.std.proofs.Common.{◌∙◌, ◌<◌, ◌^◌, ◌++◌, List, ℕ, ap, subst, arith}
use Rattle.std.specs.List.{AllByRecursion}
use Rattle.byte_fields.specs.Spelling.{varint}
use Rattle.source_checkpoint.specs.Names.{IsPartition}
use Rattle.split_bundle.specs.declared.layout.ColumnStart.{ColumnStart}
use Rattle.split_bundle.specs.Files.{partitions_bytes, starts_bytes}
use Rattle.split_build.specs.Filed.{begun_parts}
use Rattle.split_build.proofs.FileLemmas.{footer_put}
use Rattle.split_build.proofs.file.FileBegun.put_footer.Goals as goal

pub returns : goal.returns
returns c = λ documents keys begun count.
    let fit = c.in_ok-put_lengths.ensures.fit documents keys begun in
    record {
      bytes =
          footer_put (begun_parts c.args.self.now documents keys) c.args.out.now.items c.put_varint.new.out.items c.put_lengths.new.out.items c.put_partitions.new.out.items c.put_varint-2.new.out.items c.put_index.new.out.items c.put_starts.new.out.items
          (c.in_ok-put_varint.ensures.ok ∙ ap (λ (n : ℕ). c.args.out.now.items ++ varint n) c.from.ensures)
          (c.in_ok-put_lengths.ensures.bytes documents keys begun)
          (c.in_ok-put_partitions.ensures.bytes ∙ ap (λ (l : List (List ℕ)). c.put_lengths.new.out.items ++ partitions_bytes l) c.deref.ensures.value)
          (c.in_ok-put_varint-2.ensures.ok ∙ ap (λ (n : ℕ). c.put_partitions.new.out.items ++ varint n) count)
          c.in_ok-put_index.ensures.bytes
          (c.in_ok-put_starts.ensures.bytes ∙ ap (λ (l : List ColumnStart). c.put_index.new.out.items ++ starts_bytes l) c.deref-2.ensures.value);
      names = subst (λ (l : List (List ℕ)). AllByRecursion IsPartition l) c.deref.ensures.value c.in_ok-put_partitions.ensures.names;
      numbers = record {
        docs = omega arith;
        documents = fit.documents;
        dictionary = fit.dictionary;
        postings = fit.postings;
        positions = fit.positions;
        columns = fit.columns;
        partitions = omega (arith, c.args.self.now.partitions.ok.0, c.args.self.now.partitions.small);
        keys = omega (arith, count);
        blocks = c.in_ok-put_index.ensures.count;
        fields = omega (arith, c.args.self.now.columns.starts.ok.0, c.args.self.now.columns.starts.small);
        block_starts = c.in_ok-put_index.ensures.starts;
        column_starts = subst (λ (l : List ColumnStart). AllByRecursion (λ x. (x.number < 2 ^ 64) × (x.start < 2 ^ 64)) l) c.deref-2.ensures.value c.in_ok-put_starts.ensures.numbers;
      };
    }
