pub mod CallMoves
pub mod CallTells
pub mod CollectingMoves
