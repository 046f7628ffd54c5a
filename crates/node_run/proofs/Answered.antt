-- The line of a client's step.
use Rattle.std.proofs.Common.{◌≡◌, ℕ, List, ◌∷◌, ◌++◌, refl, sym, subst, ◌∙◌}
use Rattle.std.specs.Prelude.{Result, Ok, Err, IfOk}
use Rattle.std.specs.declared.alloc.AllocError.{AllocError}
use Rattle.indexing_run.specs.Outcomes.{words}
use Rattle.root_search.specs.Steps.{step_words}
use Rattle.root_search.specs.declared.outcome.SearchStep.{SearchStep}
use Rattle.root_search.specs.declared.outcome.SearchStep.TheVariants.{Idle, Planned, Fetched, Replied}
use Rattle.search_api.specs.declared.reply.Reply.{Reply}
use Rattle.node_run.specs.declared.out_line.OutLine.{OutLine}
use Rattle.node_run.specs.Lines.{search_text}

-- a reply is a line of its own
pub replied : (name : List ℕ) (step : SearchStep) (reply : Reply) → step ≡ Replied reply → words (step_words step) ≡ search_text name step
replied name step reply is = subst (λ s. words (step_words s) ≡ search_text name s) (sym is) refl

-- else the client's name comes first
pub not_replied : (name : List ℕ) (step : SearchStep) → ((reply : Reply) → step ≡ Replied reply → ⊥) → name ++ 32 ∷ words (step_words step) ≡ search_text name step
not_replied name Idle other = refl
not_replied name (Planned revision count) other = refl
not_replied name (Fetched number) other = refl
not_replied name (Replied reply) other = absurd (other reply refl)

pub ok_along : (r : Result OutLine AllocError) (x y : List ℕ) → IfOk r (λ out. out.bytes ≡ x) → x ≡ y → IfOk r (λ out. out.bytes ≡ y)
ok_along (Ok out) x y is e = is ∙ e
ok_along (Err refused) x y is e = tt
