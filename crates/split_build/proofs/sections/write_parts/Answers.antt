use Rattle.std.proofs.Common.{◌∙◌, List, ℕ, ap, sym, subst}
use Rattle.std.proofs.Math.Logic.{∥∥₁_map}
use Rattle.split_bundle.specs.Documents.{documents_section}
use Rattle.split_build.specs.declared.columns.ColumnLog.{ColumnLog}
use Rattle.split_build.specs.HeldColumns.{HasColumns}
use Rattle.split_bundle.specs.Columns.{fast_fields}
use Rattle.split_build.proofs.TakenLemmas.{can_be_listed}
use Rattle.split_build.proofs.sections.write_parts.Goals as goal

pub write_terms-requires : goal.write_terms-requires
write_terms-requires c =
    ∥∥₁_map c.requires (λ r. (r.0, record { can = can_be_listed c.args.schema.now r.0 r.1.are_documents; said = r.1.said }))

pub write_columns-requires : goal.write_columns-requires
write_columns-requires c =
    ∥∥₁_map c.requires (λ r. (r.0, r.1.are_documents, subst (λ (l : List ColumnLog). HasColumns r.0 (fast_fields c.args.schema.now) l) (sym c.deref.ensures.value) r.1.columns_are))

pub section_of-requires : goal.section_of-requires
section_of-requires c = ∥∥₁_map c.requires (λ r. (r.0, r.1.bodies))

pub returns-clause-parts : goal.returns-clause-parts
returns-clause-parts c = λ ds h. record {
  partitions = c.in_ok-partitions.ensures ds h.bodies;
  documents_are = c.in_ok-documents.ensures ds h.bodies ∙ ap (λ (l : List (List ℕ)). documents_section l ds) c.deref-2.ensures.value;
  terms = c.in_ok-terms.ensures ds (record { can = can_be_listed c.args.schema.now ds h.are_documents; said = h.said });
  columns = c.in_ok-columns.ensures ds h.are_documents (subst (λ (l : List ColumnLog). HasColumns ds (fast_fields c.args.schema.now) l) (sym c.deref.ensures.value) h.columns_are);
}
