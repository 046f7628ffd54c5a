-- Which documents are kept of splits one behind another.
use Rattle.std.specs.Prelude.{ℕ, suc, ◌≤◌, ◌==◌, Bool, false, ◌||◌, List, [], ◌∷◌, ◌++◌, ⊤, if◌then◌else◌}
use Rattle.doc_value.specs.declared.schema.Schema.{Schema}
use Rattle.split_bundle.specs.declared.placed.Placed.{Placed}
use Rattle.split_bundle.specs.declared.split_view.SplitView.{SplitView}
use Rattle.split_bundle.specs.Files.{Parts}
use Rattle.split_bundle.specs.SplitViews.{IsViewOf}

-- a place is one of these
abbrev pub is_named : ℕ → List ℕ → Bool
is_named place [] = false
is_named place (p ∷ ps) = (p == place) || is_named place ps

-- the documents, of which the first has that place, without those whose places are named
abbrev pub kept_from : ℕ → List ℕ → List Placed → List Placed
kept_from place dropped [] = []
kept_from place dropped (d ∷ ds) = if is_named place dropped then kept_from (suc place) dropped ds else d ∷ kept_from (suc place) dropped ds

abbrev pub kept : List ℕ → List Placed → List Placed
kept dropped documents = kept_from 0 dropped documents

-- places that rise, from one on
abbrev pub RiseFrom : ℕ → List ℕ → Type 0
RiseFrom least [] = ⊤
RiseFrom least (p ∷ ps) = (least ≤ p) × RiseFrom (suc p) ps

-- lists one behind another
abbrev pub joined : List (List Placed) → List Placed
joined [] = []
joined (ds ∷ dss) = ds ++ joined dss

-- the view is one of a split of these documents
abbrev pub ViewsSplit : Schema → SplitView → List Placed → Type 0
ViewsSplit s v documents = (p : Parts) × IsViewOf v s documents p

-- each of the views is one of a split of the documents at its place
abbrev pub AreViewsOf : Schema → List SplitView → List (List Placed) → Type 0
AreViewsOf s [] [] = ⊤
AreViewsOf s [] (ds ∷ dss) = ⊥
AreViewsOf s (v ∷ vs) [] = ⊥
AreViewsOf s (v ∷ vs) (ds ∷ dss) = ViewsSplit s v ds × AreViewsOf s vs dss
