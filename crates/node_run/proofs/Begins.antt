-- What a line is that begins with a front.
use Rattle.std.proofs.Common.{◌≡◌, ℕ, zero, suc, true, false, eq-eqb, drop, ◌<◌, ◌^◌, List, [], ◌∷◌, ◌++◌, refl, sym, ap, ◌∙◌}
use Rattle.std.specs.Prelude.{◌==◌, decimal, codes}
use Rattle.byte_fields.specs.ClientName.{IsClientName}
use Rattle.indexing_run.specs.Outcomes.{words}
use Rattle.node_run.specs.Lines.{Spells, AreNames}
use Rattle.node_run.specs.Node.{Line, At, Assign, StepIndexer, RestartIndexer, RestartClient, StepMerger, RestartMerger, StepDeleter, RestartDeleter, StepCollector, RestartCollector, RestartNode, Open, StepClient}

abbrev byte_at : ℕ → List ℕ → ℕ
byte_at k [] = 0
byte_at zero (c ∷ text) = c
byte_at (suc k) (c ∷ text) = byte_at k text

true_is_false : false ≡ true → ⊥
true_is_false e = cc

-- two texts differ at a place
differ : (k : ℕ) (a b : List ℕ) → (byte_at k a == byte_at k b) ≡ false → a ≡ b → ⊥
differ k a b apart same = true_is_false (sym apart ∙ eq-eqb (byte_at k a) (byte_at k b) (ap (byte_at k) same))

pub record IsAt (rest : List ℕ) : Type 0 where
  pub moment : ℕ
  pub digits : rest ≡ decimal moment
  pub below : moment < 2 ^ 62

pub record IsAssign (rest : List ℕ) : Type 0 where
  pub indexer : ℕ
  pub names : List (List ℕ)
  pub text : rest ≡ words (decimal indexer ∷ names)
  pub below : indexer < 2 ^ 64
  pub are : AreNames names

pub record IsNumber (rest : List ℕ) : Type 0 where
  pub number : ℕ
  pub digits : rest ≡ decimal number
  pub below : number < 2 ^ 64

pub data IsOfClient (rest : List ℕ) : Type 0 where
  opens : (name text : List ℕ) → rest ≡ name ++ 32 ∷ text → IsClientName name → IsOfClient rest
  steps : (name : List ℕ) → rest ≡ name → IsClientName name → IsOfClient rest

pub at_only : (rest : List ℕ) (line : Line) → Spells (codes "at " ++ rest) line → IsAt rest
at_only rest (At moment) s = record { moment = moment; digits = ap (drop 3) s.is; below = s.formed }
at_only rest (Assign i names) s = absurd (differ 1 _ _ refl s.is)
at_only rest (StepIndexer i) s = absurd (differ 0 _ _ refl s.is)
at_only rest (RestartIndexer i) s = absurd (differ 0 _ _ refl s.is)
at_only rest (RestartClient name) s = absurd (differ 0 _ _ refl s.is)
at_only rest StepMerger s = absurd (differ 0 _ _ refl s.is)
at_only rest RestartMerger s = absurd (differ 0 _ _ refl s.is)
at_only rest StepDeleter s = absurd (differ 0 _ _ refl s.is)
at_only rest RestartDeleter s = absurd (differ 0 _ _ refl s.is)
at_only rest StepCollector s = absurd (differ 0 _ _ refl s.is)
at_only rest RestartCollector s = absurd (differ 0 _ _ refl s.is)
at_only rest RestartNode s = absurd (differ 0 _ _ refl s.is)
at_only rest (Open name text) s = absurd (differ 0 _ _ refl s.is)
at_only rest (StepClient name) s = absurd (differ 0 _ _ refl s.is)

pub assign_only : (rest : List ℕ) (line : Line) → Spells (codes "assign " ++ rest) line → IsAssign rest
assign_only rest (At moment) s = absurd (differ 1 _ _ refl s.is)
assign_only rest (Assign i names) s = record { indexer = i; names = names; text = ap (drop 7) s.is; below = s.formed.0; are = s.formed.1 }
assign_only rest (StepIndexer i) s = absurd (differ 0 _ _ refl s.is)
assign_only rest (RestartIndexer i) s = absurd (differ 0 _ _ refl s.is)
assign_only rest (RestartClient name) s = absurd (differ 0 _ _ refl s.is)
assign_only rest StepMerger s = absurd (differ 0 _ _ refl s.is)
assign_only rest RestartMerger s = absurd (differ 0 _ _ refl s.is)
assign_only rest StepDeleter s = absurd (differ 0 _ _ refl s.is)
assign_only rest RestartDeleter s = absurd (differ 0 _ _ refl s.is)
assign_only rest StepCollector s = absurd (differ 0 _ _ refl s.is)
assign_only rest RestartCollector s = absurd (differ 0 _ _ refl s.is)
assign_only rest RestartNode s = absurd (differ 0 _ _ refl s.is)
assign_only rest (Open name text) s = absurd (differ 0 _ _ refl s.is)
assign_only rest (StepClient name) s = absurd (differ 0 _ _ refl s.is)

pub client_only : (rest : List ℕ) (line : Line) → Spells (codes "client " ++ rest) line → IsOfClient rest
client_only rest (At moment) s = absurd (differ 0 _ _ refl s.is)
client_only rest (Assign i names) s = absurd (differ 0 _ _ refl s.is)
client_only rest (StepIndexer i) s = absurd (differ 0 _ _ refl s.is)
client_only rest (RestartIndexer i) s = absurd (differ 0 _ _ refl s.is)
client_only rest (RestartClient name) s = absurd (differ 0 _ _ refl s.is)
client_only rest StepMerger s = absurd (differ 0 _ _ refl s.is)
client_only rest RestartMerger s = absurd (differ 0 _ _ refl s.is)
client_only rest StepDeleter s = absurd (differ 0 _ _ refl s.is)
client_only rest RestartDeleter s = absurd (differ 0 _ _ refl s.is)
client_only rest StepCollector s = absurd (differ 1 _ _ refl s.is)
client_only rest RestartCollector s = absurd (differ 0 _ _ refl s.is)
client_only rest RestartNode s = absurd (differ 0 _ _ refl s.is)
client_only rest (Open name text) s = opens name text (ap (drop 7) s.is) s.formed
client_only rest (StepClient name) s = steps name (ap (drop 7) s.is) s.formed
