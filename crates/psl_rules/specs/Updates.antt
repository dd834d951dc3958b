-- Changes of ids that cascade from model to model.
use Rattle.std.specs.Prelude.{◌≡◌, ◌⊎◌, ℕ, zero, suc, List, [], ◌∷◌, ◌++◌, Bool, true, false, ◌&&◌, not, length, map, filter, Option, Some, None, bytes_eq, codes}
use Rattle.std.specs.List.{list_any}
use Rattle.qe_text.specs.Lists.{In, is_among}
use Rattle.psl_text.specs.declared.tree.Tree.{Tree}
use Rattle.psl_rules.specs.Parts.{Spelling, Places, failing}
use Rattle.psl_rules.specs.Relations.{End, end_place, own_names, other_names, leads_to}
use Rattle.psl_rules.specs.Foreign.{holders, action}

abbrev pub cascades : Option Spelling → Bool
cascades None = true
cascades (Some name) = bytes_eq name (codes "Cascade")

-- a field of the foreign key is among what the other relation, to the same model, refers to
abbrev pub goes_on : End → End → Bool
goes_on end other = leads_to other end.model && list_any (λ name. is_among name (other_names other)) (own_names end)

-- a relation whose updates cascade, and may cascade on
abbrev pub is_arrow : List End → End → Bool
is_arrow holders end = cascades (action (codes "onUpdate") end) && list_any (goes_on end) holders

-- each an arrow from the model that it refers to to the one that it stands in
abbrev pub arrows : Tree → List End
arrows tree = filter (is_arrow (holders tree)) (holders tree)

-- a step from one model to another, by their names
pub record Step : Type 0 where
  pub from : Spelling
  pub to : Spelling

abbrev pub step_of : End → Step
step_of arrow = record { from = arrow.field.type.text; to = arrow.model.name.text }

abbrev pub steps : Tree → List Step
steps tree = map step_of (arrows tree)

-- steps lead from the one model to the other, one behind another, or none where they are the same
pub data Leads (all : List Step) : Spelling → Spelling → Type 0 where
  here : {model : Spelling} → Leads all model model
  on : {to : Spelling} (step : Step) → In step all → Leads all step.to to → Leads all step.from to

-- the models that at most so many steps lead to
unfoldable pub reached : List Step → ℕ → Spelling → List Spelling
reached all zero from = from ∷ []
reached all (suc count) from = reached all count from ++ map (λ step. step.to) (filter (λ step. is_among step.from (reached all count from)) all)

-- whether steps lead from the one model to the other; as many as there are steps are enough
abbrev pub leads : List Step → Spelling → Spelling → Bool
leads all from to = is_among to (reached all (length all) from)

-- a step leads from those that were reached to one that was not
abbrev pub leads_out : (Spelling → Bool) → Step → Bool
leads_out is_reached step = is_reached step.from && not (is_reached step.to)

-- steps lead back from an arrow's end to its beginning
abbrev pub is_on_cycle : List Step → End → Bool
is_on_cycle steps arrow = leads steps (step_of arrow).to (step_of arrow).from

-- V24. No arrow lies on a cycle. Broken at the name of its field.
abbrev pub updates_form_no_cycle : Tree → Places
updates_form_no_cycle tree = failing (λ arrow. not (is_on_cycle (steps tree) arrow)) end_place (arrows tree)
