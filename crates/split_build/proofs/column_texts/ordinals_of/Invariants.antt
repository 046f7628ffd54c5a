use Rattle.std.proofs.Common.{List, ℕ, length}
use Rattle.std.specs.List.{AllZip}
use Rattle.fast_fields.specs.Texts.{texts_in}
use Rattle.split_build.specs.HeldColumns.{IsPlaceOf, texts_of}
use Rattle.split_build.proofs.OnWay.{IsOnWay}
use Rattle.split_build.proofs.column_texts.ordinals_of.Given as goal

abbrev pub invariant-loop-name : goal.invariant-loop-name
invariant-loop-name l = IsOnWay {X = List ℕ} (λ ts. AllZip (IsPlaceOf (texts_in l.texts)) ts l.ordinals.items) (texts_of l.rest) (texts_of l.names)

abbrev pub decreases-loop-name : goal.decreases-loop-name
decreases-loop-name l = length l.rest
