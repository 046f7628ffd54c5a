-- What a store answers, by what its disk did.
use Rattle.std.specs.Prelude.{Option, Some, None, Result, Ok, Err}
use Rattle.object_store.specs.declared.store.GetError.{GetError}
use Rattle.object_store.specs.declared.store.GetError.TheVariants as gets
use Rattle.object_store.specs.declared.store.Piece.{Piece}
use Rattle.real_edge.specs.declared.disk.DiskError.{DiskError}
use Rattle.real_edge.specs.declared.disk.DiskError.TheVariants as reads

-- what a read is to whoever gets
abbrev pub get_answer : Result (Option Piece) DiskError → Result Piece GetError
get_answer (Ok (Some piece)) = Ok piece
get_answer (Ok None) = Err gets.Absent
get_answer (Err (reads.Memory e)) = Err (gets.Memory e)
get_answer (Err (reads.Failed t)) = Err gets.Failed
