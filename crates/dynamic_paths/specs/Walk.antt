-- What a walk over a record has gathered.
use Rattle.std.specs.Prelude.{ℕ, ◌+◌, ◌-◌, ◌^◌, ◌&&◌, nat_lt, min, List, [], ◌∷◌, ◌++◌, Result, Ok, Err, if◌then◌else◌}
use Rattle.dynamic_paths.specs.declared.fault.LeafFault.{LeafFault}
use Rattle.dynamic_paths.specs.declared.fault.LeafFault.TheVariants.{TooManyLeaves}
use Rattle.dynamic_paths.specs.declared.gathered.Gathered.{Gathered}
use Rattle.dynamic_paths.specs.LeafTexts.{Leaf, leaf_text, fits}
use Rattle.dynamic_paths.specs.Leaves.{max_leaves}

abbrev pub nothing : Gathered
nothing = record { texts = []; count = 0 }

-- the texts with that of one leaf more, if it is kept
abbrev pub texts_with : Leaf → Gathered → List (List ℕ)
texts_with leaf g =
    if nat_lt g.count max_leaves && fits (leaf_text leaf.0 leaf.1) then g.texts ++ leaf_text leaf.0 leaf.1 ∷ [] else g.texts

-- one leaf more, and many
abbrev pub noted : Leaf → Gathered → Gathered
noted leaf g = record { texts = texts_with leaf g; count = min (g.count + 1) (2 ^ 64 - 1) }

abbrev pub noted_all : List Leaf → Gathered → Gathered
noted_all [] g = g
noted_all (leaf ∷ leaves) g = noted_all leaves (noted leaf g)

abbrev pub finished : Gathered → Result (List (List ℕ)) LeafFault
finished g = if nat_lt max_leaves g.count then Err (TooManyLeaves g.count) else Ok g.texts
