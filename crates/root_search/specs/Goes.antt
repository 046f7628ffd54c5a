-- How an index goes on from one core to another, over calls between which other actors may act.
use Rattle.std.specs.Prelude.{◌≡◌, None}
use Rattle.index_world.specs.Core.{Core, Nobody}
use Rattle.index_world.specs.World.{GoesFor, GoesOn}

-- Others may use numbers that are unused. Where no other actor acts each stays unused.
pub record GoesBy (Between : Core → Core → Type 0) (core after : Core) : Type 0 where
  pub always : GoesFor Nobody core after
  pub alone : ((a b : Core) → Between a b → b ≡ a) → GoesOn None core after
