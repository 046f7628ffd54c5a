-- The one spelling of an entry, and what can be spelled.
use Rattle.std.specs.Prelude.{◌≡◌, ◌⊎◌, ℕ, ℤ, ◌≤◌, ◌<◌, ◌^◌, true, false, List, [], ◌∷◌, ◌++◌, length, Option, Some, None}
use Rattle.std.specs.List.{AllByRecursion}
use Rattle.std.specs.Str.{IsUtf8}
use Rattle.std.specs.Ordering.{nat_cmp}
use Rattle.std.specs.Cmp.Lexicographic.{slice_cmp}
use Rattle.std.specs.declared.cmp.Ordering.TheVariants.{Less}
use Rattle.byte_fields.specs.Spelling.{varint, zigzag, signed, byte_string, flag}
use Rattle.source_checkpoint.specs.Names.{IsPartition}
use Rattle.source_checkpoint.specs.declared.delta.Part.{Part}
use Rattle.doc_value.specs.declared.facts.Tags.{Tags}
use Rattle.doc_value.specs.declared.facts.Tags.TheVariants.{Many, Listed}
use Rattle.doc_value.specs.declared.facts.FieldTags.{FieldTags}
use Rattle.doc_value.specs.declared.facts.TimeRange.{TimeRange}
use Rattle.split_states.specs.declared.facts.RowFacts.{RowFacts}
use Rattle.split_states.specs.declared.facts.Times.{Times}
use Rattle.meta_journal.specs.declared.entry.Act.{Act}
use Rattle.meta_journal.specs.declared.entry.Act.TheVariants as acts
use Rattle.meta_journal.specs.declared.entry.Entry.{Entry}

-- ---- spelling

-- members one behind another
abbrev pub each_spelled : {A : Type 0} → (A → List ℕ) → List A → List ℕ
each_spelled spell [] = []
each_spelled spell (x ∷ xs) = spell x ++ each_spelled spell xs

-- their count, and they
abbrev pub counted : {A : Type 0} → (A → List ℕ) → List A → List ℕ
counted spell xs = varint (length xs) ++ each_spelled spell xs

-- a flag, and where it is 1 the value
abbrev pub optional : {A : Type 0} → (A → List ℕ) → Option A → List ℕ
optional spell None = flag false
optional spell (Some x) = flag true ++ spell x

abbrev pub part_spelled : Part → List ℕ
part_spelled part = byte_string part.partition ++ (varint part.from ++ varint part.to)

abbrev pub times_spelled : Times → List ℕ
times_spelled times = signed times.least ++ signed times.greatest

-- 1 for many values, else 0 and the values
abbrev pub tags_spelled : Tags → List ℕ
tags_spelled Many = flag true
tags_spelled (Listed terms) = flag false ++ counted byte_string terms

abbrev pub field_spelled : FieldTags → List ℕ
field_spelled field = varint field.number ++ tags_spelled field.tags

abbrev pub facts_spelled : RowFacts → List ℕ
facts_spelled facts =
    varint facts.docs ++ (varint facts.rejected ++ (varint facts.weight ++ (varint facts.size
    ++ (facts.digest ++ (optional times_spelled facts.times ++ counted field_spelled facts.tags)))))

abbrev pub range_spelled : TimeRange → List ℕ
range_spelled times = optional signed times.start ++ optional signed times.end

abbrev pub kind_number : Act → ℕ
kind_number acts.Fence = 0
kind_number (acts.Create config) = 1
kind_number (acts.Stage number delta facts) = 2
kind_number (acts.Publish number) = 3
kind_number (acts.Replace new old upto) = 4
kind_number (acts.Raise number upto) = 5
kind_number (acts.Task opstamp text fields times) = 6
kind_number (acts.MarkStaged numbers) = 7
kind_number (acts.Remove numbers) = 8
kind_number (acts.Retire numbers) = 9

abbrev pub payload : Act → List ℕ
payload acts.Fence = []
payload (acts.Create config) = byte_string config
payload (acts.Stage number delta facts) = varint number ++ (counted part_spelled delta ++ facts_spelled facts)
payload (acts.Publish number) = varint number
payload (acts.Replace new old upto) = varint new ++ (counted varint old ++ varint upto)
payload (acts.Raise number upto) = varint number ++ varint upto
payload (acts.Task opstamp text fields times) = varint opstamp ++ (byte_string text ++ (counted byte_string fields ++ range_spelled times))
payload (acts.MarkStaged numbers) = counted varint numbers
payload (acts.Remove numbers) = counted varint numbers
payload (acts.Retire numbers) = counted varint numbers

-- QWJ, the version and the kind
abbrev pub header : ℕ → ℕ → List ℕ
header version kind = 0x51 ∷ 0x57 ∷ 0x4a ∷ version ∷ kind ∷ []

abbrev pub spelled_in : ℕ → Entry → List ℕ
spelled_in version entry = header version (kind_number entry.act) ++ (varint entry.moment ++ payload entry.act)

-- the bytes that are written, in format 2
unfoldable pub spelling : Entry → List ℕ
spelling entry = spelled_in 2 entry

-- what is read as this entry: it is spelled in format 2, or in format 1, which has no Retire
unfoldable pub Spells : List ℕ → Entry → Type 0
Spells bytes entry = (bytes ≡ spelled_in 2 entry) ⊎ ((bytes ≡ spelled_in 1 entry) × (kind_number entry.act ≤ 8))

-- ---- what can be spelled

abbrev pub IsNumber : ℕ → Type 0
IsNumber n = n < 2 ^ 64

abbrev pub IsTime : ℤ → Type 0
IsTime z = zigzag z < 2 ^ 64

abbrev pub IsBehind : {A : Type 0} → (A → A → Type 0) → Option A → A → Type 0
IsBehind Below None x = Unit {0}
IsBehind Below (Some before) x = Below before x

-- each member is above the one before it
abbrev pub RisesFrom : {A : Type 0} → (A → A → Type 0) → Option A → List A → Type 0
RisesFrom Below before [] = Unit {0}
RisesFrom Below before (x ∷ xs) = IsBehind Below before x × RisesFrom Below (Some x) xs

abbrev pub Rises : {A : Type 0} → (A → A → Type 0) → List A → Type 0
Rises Below xs = RisesFrom Below None xs

-- few enough to be counted, and each of this kind
abbrev pub AreAll : {A : Type 0} → (A → Type 0) → List A → Type 0
AreAll Can xs = (length xs < 2 ^ 64) × AllByRecursion Can xs

abbrev pub IsIfGiven : {A : Type 0} → (A → Type 0) → Option A → Type 0
IsIfGiven Can None = Unit {0}
IsIfGiven Can (Some x) = Can x

abbrev pub IsString : List ℕ → Type 0
IsString bytes = length bytes < 2 ^ 64

abbrev pub IsText : List ℕ → Type 0
IsText bytes = (length bytes < 2 ^ 64) × IsUtf8 bytes

abbrev pub IsTermBelow : List ℕ → List ℕ → Type 0
IsTermBelow a b = slice_cmp nat_cmp a b ≡ Less

-- at least one, rising
pub record AreRowNumbers (numbers : List ℕ) : Type 0 where
  pub some : 0 < length numbers
  pub each : AreAll IsNumber numbers
  pub rising : Rises ◌<◌ numbers

pub record CanSpellPart (part : Part) : Type 0 where
  pub partition : IsPartition part.partition
  pub from : IsNumber part.from
  pub to : IsNumber part.to

abbrev pub CanSpellTimes : Times → Type 0
CanSpellTimes times = IsTime times.least × IsTime times.greatest

abbrev pub CanSpellTags : Tags → Type 0
CanSpellTags Many = Unit {0}
CanSpellTags (Listed terms) = AreAll IsString terms × Rises IsTermBelow terms

abbrev pub CanSpellField : FieldTags → Type 0
CanSpellField field = IsNumber field.number × CanSpellTags field.tags

abbrev pub IsFieldBelow : FieldTags → FieldTags → Type 0
IsFieldBelow a b = a.number < b.number

pub record CanSpellFacts (facts : RowFacts) : Type 0 where
  pub docs : IsNumber facts.docs
  pub rejected : IsNumber facts.rejected
  pub weight : IsNumber facts.weight
  pub size : IsNumber facts.size
  pub digest : length facts.digest ≡ 32
  pub times : IsIfGiven CanSpellTimes facts.times
  pub tags : AreAll CanSpellField facts.tags
  pub rising : Rises IsFieldBelow facts.tags

pub record CanSpellRange (range : TimeRange) : Type 0 where
  pub start : IsIfGiven IsTime range.start
  pub end : IsIfGiven IsTime range.end

abbrev pub CanSpellAct : Act → Type 0
CanSpellAct acts.Fence = Unit {0}
CanSpellAct (acts.Create config) = IsString config
CanSpellAct (acts.Stage number delta facts) = IsNumber number × AreAll CanSpellPart delta × CanSpellFacts facts
CanSpellAct (acts.Publish number) = IsNumber number
CanSpellAct (acts.Replace new old upto) = IsNumber new × AreAll IsNumber old × IsNumber upto
CanSpellAct (acts.Raise number upto) = IsNumber number × IsNumber upto
CanSpellAct (acts.Task opstamp text fields times) = IsNumber opstamp × IsText text × AreAll IsText fields × CanSpellRange times
CanSpellAct (acts.MarkStaged numbers) = AreRowNumbers numbers
CanSpellAct (acts.Remove numbers) = AreRowNumbers numbers
CanSpellAct (acts.Retire numbers) = AreRowNumbers numbers

pub record CanSpell (entry : Entry) : Type 0 where
  pub moment : entry.moment < 2 ^ 62
  pub act : CanSpellAct entry.act
