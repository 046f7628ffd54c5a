use Rattle.dynamic_paths.proofs.Apart.{apart, by_front, by_path}
use Rattle.dynamic_paths.proofs.laws.leaf_text_laws.Goals as goal

pub returns : goal.returns
returns c = record { apart = apart; prefix = by_front; presence = by_path }
