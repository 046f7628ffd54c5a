-- Where a field is at fault.
use Rattle.std.specs.Prelude.{ℕ}
use Rattle.byte_fields.specs.declared.field_error.FieldError.{FieldError}
use Rattle.byte_fields.specs.declared.field_error.FieldError.TheVariants.{Short, NotMinimal, TooLarge, NotText, BadFlag, BadOrder}

abbrev pub place_of : FieldError → ℕ
place_of (Short at) = at
place_of (NotMinimal at) = at
place_of (TooLarge at) = at
place_of (NotText at) = at
place_of (BadFlag at) = at
place_of (BadOrder at) = at
