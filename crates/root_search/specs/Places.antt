-- Documents at their places.
use Rattle.std.specs.Prelude.{◌≡◌, List, Contains}
use Rattle.std.specs.declared.cmp.Ordering.TheVariants.{Equal}
use Rattle.split_bundle.specs.declared.placed.Placed.{Placed}
use Rattle.doc_tallies.specs.Orders.{place_cmp}

-- at each partition and offset stands one document at most
pub record OneAtEach (documents : List Placed) : Type 0 where
  pub one : (a b : Placed) → Contains documents a → Contains documents b → place_cmp a b ≡ Equal → a ≡ b
