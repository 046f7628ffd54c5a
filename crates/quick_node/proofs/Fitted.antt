-- Whether a node takes a line is whether the line fits behind those that the node answered.
use Rattle.std.proofs.Common.{◌≡◌, ℕ, suc, Bool, true, false, List, [], ◌∷◌, length, refl, sym, ap, ◌∙◌, arith}
use Rattle.std.proofs.lemmas.Bool.{ltb-true, ltb-false, leb-true, leb-false, lt-ltb, le-ltb, le-leb, lt-leb}
use Rattle.std.specs.List.{list_any}
use Rattle.std.specs.Prelude.{◌||◌, if◌then◌else◌, nat_le, nat_lt, bytes_eq}
use Rattle.node_run.specs.declared.drive.Accepts.{Accepts}
use Rattle.node_run.specs.declared.drive.Accepts.TheVariants as accepts
use Rattle.node_run.specs.Node.{Node, Line, At, Assign, StepIndexer, RestartIndexer, RestartClient, StepMerger, RestartMerger, StepDeleter, RestartDeleter, StepCollector, RestartCollector, RestartNode, Open, StepClient}
use Rattle.node_run.specs.Standing.{accepts_of, accepts_client}
use Rattle.input_lines.specs.Reading.{max_clients}
use Rattle.quick_node.specs.Reading.{Fit, fits, falls_or_unknown, too_many_clients, fit_if, fit_of, client_fit, names_in, last_moment}
use Rattle.quick_node.specs.Running.{HasAnswered}

abbrev pub accepts_as : Fit → Accepts
accepts_as fits = accepts.Yes
accepts_as falls_or_unknown = accepts.BadLine
accepts_as too_many_clients = accepts.TooManyClients

moment_fits : (b : Bool) (last moment : ℕ) → nat_le last moment ≡ b → (if nat_lt moment last then accepts.BadLine else accepts.Yes) ≡ accepts_as (fit_if b falls_or_unknown)
moment_fits true last moment e = ap (λ c. if c then accepts.BadLine else accepts.Yes) (le-ltb moment last (leb-true last moment e))
moment_fits false last moment e = ap (λ c. if c then accepts.BadLine else accepts.Yes) (lt-ltb moment last (leb-false last moment e))

indexer_fits : (b : Bool) → (if b then accepts.Yes else accepts.BadLine) ≡ accepts_as (fit_if b falls_or_unknown)
indexer_fits true = refl
indexer_fits false = refl

room_fits : (count : ℕ) (b : Bool) → nat_lt count max_clients ≡ b → (if b || false then accepts.Yes else accepts.TooManyClients) ≡ accepts_as (fit_if (nat_le (suc count) max_clients) too_many_clients)
room_fits count true e = ap (λ c. accepts_as (fit_if c too_many_clients)) (sym (le-leb (suc count) max_clients (omega (arith, ltb-true count max_clients e))))
room_fits count false e = ap (λ c. accepts_as (fit_if c too_many_clients)) (sym (lt-leb (suc count) max_clients (omega (arith, ltb-false count max_clients e))))

or_true : (b : Bool) → (b || true) ≡ true
or_true true = refl
or_true false = refl

module _ (readers : ℕ) (lines : List Line) (node : Node) (has : HasAnswered readers lines node) where
  abbrev names : List (List ℕ)
  names = names_in [] lines

  client_fits : (name : List ℕ) → accepts_client name node ≡ accepts_as (client_fit lines name)
  client_fits name = by (list_any (bytes_eq name) names) refl
    where
      by : (b : Bool) → list_any (bytes_eq name) names ≡ b → accepts_client name node ≡ accepts_as (client_fit lines name)
      by true e =
          ap (λ k. if nat_lt (length node.clients) max_clients || k then accepts.Yes else accepts.TooManyClients) (sym (has.clients.same name) ∙ e)
          ∙ ap (λ k. if k then accepts.Yes else accepts.TooManyClients) (or_true (nat_lt (length node.clients) max_clients))
          ∙ ap (λ c. accepts_as (fit_if c too_many_clients)) (sym (ap (λ k. nat_le (length (if k then names else name ∷ names)) max_clients) e ∙ le-leb (length names) max_clients has.few))
      by false e =
          ap (λ k. if nat_lt (length node.clients) max_clients || k then accepts.Yes else accepts.TooManyClients) (sym (has.clients.same name) ∙ e)
          ∙ room_fits (length node.clients) (nat_lt (length node.clients) max_clients) refl
          ∙ ap (λ c. accepts_as (fit_if c too_many_clients))
          (ap (λ n. nat_le (suc n) max_clients) (sym has.clients.long) ∙ sym (ap (λ k. nat_le (length (if k then names else name ∷ names)) max_clients) e))

  pub line_fits : (line : Line) → accepts_of node line ≡ accepts_as (fit_of readers lines line)
  line_fits (At moment) =
      ap (λ c. if nat_lt moment c then accepts.BadLine else accepts.Yes) has.clock
      ∙ moment_fits (nat_le (last_moment 0 lines) moment) (last_moment 0 lines) moment refl
  line_fits (Assign i parts) = ap (λ n. if nat_lt i n then accepts.Yes else accepts.BadLine) has.readers_are ∙ indexer_fits (nat_lt i readers)
  line_fits (StepIndexer i) = ap (λ n. if nat_lt i n then accepts.Yes else accepts.BadLine) has.readers_are ∙ indexer_fits (nat_lt i readers)
  line_fits (RestartIndexer i) = ap (λ n. if nat_lt i n then accepts.Yes else accepts.BadLine) has.readers_are ∙ indexer_fits (nat_lt i readers)
  line_fits (RestartClient name) = client_fits name
  line_fits StepMerger = refl
  line_fits RestartMerger = refl
  line_fits StepDeleter = refl
  line_fits RestartDeleter = refl
  line_fits StepCollector = refl
  line_fits RestartCollector = refl
  line_fits RestartNode = refl
  line_fits (Open name text) = client_fits name
  line_fits (StepClient name) = client_fits name
