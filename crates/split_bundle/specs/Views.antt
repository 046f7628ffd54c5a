-- What a footer and the views hold and lend.
use Rattle.std.specs.Prelude.{◌≡◌, ℕ, ◌-◌, ◌≤◌, List, ◌++◌, length, drop, Result, Ok, Err, nat_lt, if◌then◌else◌, ⊤}
use Rattle.std.specs.List.{flat_map}
use Rattle.byte_fields.specs.Spelling.{byte_string}
use Rattle.split_bundle.specs.declared.footer.Footer.{Footer}
use Rattle.split_bundle.specs.declared.layout.Sections.{Sections}
use Rattle.split_bundle.specs.declared.layout.Table.{Table}
use Rattle.split_bundle.specs.declared.layout.Layout.{Layout}
use Rattle.split_bundle.specs.declared.split_error.SplitError.{SplitError}
use Rattle.split_bundle.specs.declared.split_error.SplitError.TheVariants.{Memory, BadMagic, BadSection, BadVersion, Truncated}
use Rattle.split_bundle.specs.Files.{Parts, file_bytes, footer_bytes, block_bytes, start_bytes}
use Rattle.split_bundle.specs.Reading.{Held}

-- what a footer holds
abbrev pub held : Footer → Held
held f = record { bytes = f.bytes; layout = f.layout; index = f.index }

-- the lengths of the sections
abbrev pub sections_of : Parts → Sections
sections_of p = record { documents = length p.documents; dictionary = length p.dictionary; postings = length p.postings; positions = length p.positions; columns = length p.columns }

-- entries of a list stand in the bytes
pub record IsTable {X : Type 0} (spelled : X → List ℕ) (xs : List X) (bytes : List ℕ) (t : Table) : Type 0 where
  pub count : t.count ≡ length xs
  pub rest : List ℕ
  pub stand : drop t.at bytes ≡ flat_map spelled xs ++ rest

-- a layout of the footer of these parts
pub record IsLayoutOf (p : Parts) (l : Layout) : Type 0 where
  pub docs : l.docs ≡ p.docs
  pub sections : l.sections ≡ sections_of p
  pub partitions : IsTable byte_string p.partitions (footer_bytes p) l.partitions
  pub terms : l.terms ≡ length p.keys
  pub blocks : IsTable block_bytes p.index (footer_bytes p) l.blocks
  pub columns : IsTable start_bytes p.column_starts (footer_bytes p) l.columns

-- the footer of these parts
pub record IsFooterOf (p : Parts) (f : Footer) : Type 0 where
  pub bytes : f.bytes ≡ footer_bytes p
  pub layout : IsLayoutOf p f.layout
  pub index : f.index ≡ p.index

-- the end of the file of these parts, which has so many bytes
pub record IsEndOf (p : Parts) (tail : List ℕ) (size : ℕ) : Type 0 where
  pub size_is : size ≡ length (file_bytes p)
  pub within : length tail ≤ size
  pub tail_is : tail ≡ drop (size - length tail) (file_bytes p)

-- the footer of these parts, or want of memory
abbrev pub ReadsFooter : Parts → Result Footer SplitError → Type 0
ReadsFooter p (Ok f) = IsFooterOf p f
ReadsFooter p (Err (Memory a)) = ⊤
ReadsFooter p (Err BadMagic) = ⊥
ReadsFooter p (Err (Truncated at)) = ⊥
ReadsFooter p (Err (BadSection number)) = ⊥
ReadsFooter p (Err (BadVersion number)) = ⊥

-- where the missing bytes of a footer begin, or, where less than the trailer is there, those of the trailer
abbrev pub cut_at : ℕ → ℕ → ℕ → ℕ
cut_at size there footer = if nat_lt there 12 then size - 12 else size - 12 - footer

-- the bytes from a place on are not there, or want of memory
abbrev pub ReadsCut : {A : Type 0} → ℕ → Result A SplitError → Type 0
ReadsCut place (Ok x) = ⊥
ReadsCut place (Err (Memory a)) = ⊤
ReadsCut place (Err BadMagic) = ⊥
ReadsCut place (Err (Truncated at)) = at ≡ place
ReadsCut place (Err (BadSection number)) = ⊥
ReadsCut place (Err (BadVersion number)) = ⊥
