-- The column of a fast field is lent.
use Rattle.std.proofs.Common.{◌≡◌, ℕ, ◌+◌, ◌-◌, true, List, length, take, drop, Option, Some, Ok, Err, refl, sym, ap, subst, ◌∙◌, arith}
use Rattle.std.specs.List.{slice_get}
use Rattle.doc_value.specs.declared.schema.Field.{Field}
use Rattle.doc_value.specs.declared.schema.Schema.{Schema}
use Rattle.fast_fields.specs.Readers.{IsOf}
use Rattle.fast_fields.specs.declared.column.Column.{Column}
use Rattle.split_bundle.specs.declared.placed.Placed.{Placed}
use Rattle.split_bundle.specs.declared.pieces.FilePiece.{FilePiece}
use Rattle.split_bundle.specs.declared.layout.Layout.{Layout}
use Rattle.split_bundle.specs.declared.split_error.SplitError.{SplitError}
use Rattle.split_bundle.specs.Columns.{column_rows}
use Rattle.split_bundle.specs.Files.{Parts, footer_bytes}
use Rattle.split_bundle.specs.Reading.{column_among}
use Rattle.split_bundle.specs.Splits.{IsSplitOf}
use Rattle.split_bundle.specs.SplitReading.{IsLaidOut}
use Rattle.split_bundle.specs.Lending.{IsMissing, IsColumnAt, LendsFast, start_of_column, length_of_column}
use Rattle.split_bundle.proofs.Infos.{piece_behind}
use Rattle.split_bundle.proofs.Tables.{found_in}

-- where a column was found
pub record Stands (layout : Layout) (footer : List ℕ) (documents : List Placed) (p : Parts) (f : Field) (number : ℕ) : Type 0 where
  pub start : ℕ
  pub end : ℕ
  pub among : column_among layout.columns.count number layout.sections.columns footer layout.columns.at ≡ Ok (Some (start, end))
  pub at : IsColumnAt p f.kind (column_rows number documents) start end
  pub start_is : start_of_column number p.column_starts ≡ start
  pub length_is : length_of_column number (length p.columns) p.column_starts ≡ end - start

pub column_stands : (layout : Layout) (footer : List ℕ) (pieces : List FilePiece) (s : Schema) (documents : List Placed) (p : Parts) (f : Field) (number : ℕ) → IsSplitOf s documents p → IsLaidOut p layout footer pieces
    → slice_get s.fields number ≡ Some f → f.fast ≡ true → Stands layout footer documents p f number
column_stands layout footer pieces s documents p f number is part here fast =
    let table = part.layout_is.columns in
    let found = found_in documents (footer_bytes p) f number (length p.columns) s.fields 0 number 0 layout.columns.at p.column_starts table.rest p.columns here fast (omega arith) is.columns is.numbers.column_starts table.stand (omega arith) in
    let piece = piece_behind p.columns found.front found.column found.behind (0 + length found.front) found.parts (omega arith) in
    let width : 0 + length found.front + length found.column - (0 + length found.front) ≡ length found.column = omega arith in
    let sizes = ap (λ x. x.columns) part.layout_is.sections in
    record {
      start = 0 + length found.front;
      end = 0 + length found.front + length found.column;
      among = rw (table.count, sizes, part.footer_is) found.among;
      at = record {
        column = found.column;
        is_column = found.is_column;
        end_is = refl;
        within = piece.0;
        bytes_are = ap (λ (n : ℕ). take n (drop (0 + length found.front) p.columns)) width ∙ piece.1;
      };
      start_is = found.start_is;
      length_is = found.length_is ∙ sym width;
    }

pub ok_lends : (pieces : List FilePiece) (at len number : ℕ) (documents : List Placed) (o : Option Field) (f : Field) (column : Column) → o ≡ Some f → f.fast ≡ true → IsOf column (column_rows number documents)
    → LendsFast pieces at len number documents o (Ok (Some column))
ok_lends pieces at len number documents o f column e fast is = rw e (λ slow. absurd cc, λ again. is)

pub err_lends : (pieces : List FilePiece) (at len number : ℕ) (documents : List Placed) (o : Option Field) (f : Field) (e : SplitError) → o ≡ Some f → f.fast ≡ true → IsMissing pieces at len e
    → LendsFast pieces at len number documents o (Err e)
err_lends pieces at len number documents o f e here fast is = rw here (λ slow. absurd cc, λ again. is)

-- the same pieces and the same place
pub missing_same : (pieces others : List FilePiece) (at other len long : ℕ) (e : SplitError) → others ≡ pieces → other ≡ at → long ≡ len → IsMissing others other long e → IsMissing pieces at len e
missing_same pieces others at other len long e same place width missing =
    subst (λ (n : ℕ). IsMissing pieces n len e) place (subst (λ (n : ℕ). IsMissing pieces other n e) width (subst (λ (ps : List FilePiece). IsMissing ps other long e) same missing))
