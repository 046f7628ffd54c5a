-- Numbers as a person reads them.
use Rattle.std.specs.Prelude.{ℕ, ◌/◌, ◌%◌, ◌==◌, List, ◌++◌, Option, Some, None, decimal, codes, nat_lt, if◌then◌else◌, zero, suc}

-- a comma and the last three digits of a number
abbrev pub group_text : ℕ → List ℕ
group_text number = codes "," ++ (decimal (number / 100 % 10) ++ (decimal (number / 10 % 10) ++ decimal (number % 10)))

-- a number with so many commas, or as many as it has
abbrev pub grouped_within : ℕ → ℕ → List ℕ
grouped_within zero number = decimal number
grouped_within (suc commas) number = if nat_lt number 1000 then decimal number
    else grouped_within commas (number / 1000) ++ group_text number

-- a number with a comma before each three digits at its end; one of 64 bits has at most six
abbrev pub grouped : ℕ → List ℕ
grouped number = grouped_within 6 number

-- so many things, as `1 split` and `3 splits`
abbrev pub count_text : ℕ → List ℕ → List ℕ → List ℕ
count_text count one many = grouped count ++ (codes " " ++ (if count == 1 then one else many))

abbrev pub records_text : ℕ → List ℕ
records_text count = count_text count (codes "record") (codes "records")

-- as `12,000 records` and, where it is known of how many, `12,000 of 100,000 records`
abbrev pub taken_text : ℕ → Option ℕ → List ℕ
taken_text records None = records_text records
taken_text records (Some total) = grouped records ++ (codes " of " ++ records_text total)
