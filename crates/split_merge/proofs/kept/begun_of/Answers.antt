use Rattle.std.proofs.Common.{◌∙◌, ◌++◌, List, ℕ, ap, sym, subst}
use Rattle.std.proofs.Math.Logic.{∥∥₁_map}
use Rattle.split_bundle.specs.Columns.{fast_fields}
use Rattle.split_bundle.specs.Documents.{documents_section}
use Rattle.split_bundle.specs.Files.{head}
use Rattle.split_build.specs.declared.columns.ColumnLog.{ColumnLog}
use Rattle.split_build.specs.HeldColumns.{HasColumns}
use Rattle.split_merge.proofs.kept.begun_of.Goals as goal

pub write_columns-requires : goal.write_columns-requires
write_columns-requires c =
    ∥∥₁_map c.requires (λ r. (r.0, r.1.are_documents, subst (λ (l : List ColumnLog). HasColumns r.0 (fast_fields c.args.schema.now) l) (sym c.deref.ensures.value) r.1.columns_are))

pub file_front-requires : goal.file_front-requires
file_front-requires c = ∥∥₁_map c.requires (λ r. (r.0, r.1.bodies))

pub returns-clause-sections : goal.returns-clause-sections
returns-clause-sections c = λ ds h. record {
  partitions = c.in_ok-partitions.ensures ds h.bodies;
  begun_is = c.in_ok-begun.ensures ds h.bodies ∙ ap (λ (l : List (List ℕ)). head ++ documents_section l ds) c.deref-2.ensures.value;
  columns = c.in_ok-section.ensures ds h.are_documents (subst (λ (l : List ColumnLog). HasColumns ds (fast_fields c.args.schema.now) l) (sym c.deref.ensures.value) h.columns_are);
}
