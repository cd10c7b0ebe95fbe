-- Actions on a copy of a folder, and what they make of its paths.
use Rattle.std.specs.Prelude.{List, [], ◌∷◌, Option, None, Some}
use Rattle.notify_paths.specs.Path.{PathValue}
use Rattle.debounce_model.specs.Play.{Paths, with_path, without_at}
use Rattle.reader_paths.specs.declared.plan.action.Standing.{Standing}

-- what a copy is to have at a path: if nothing, what stands there goes with all below it
pub record ActionValue : Type 0 where
  pub path : PathValue
  pub wanted : Option Standing

-- the copy's paths after what is wanted at the path has come about
abbrev pub carried_at : Paths → PathValue → Option Standing → Paths
carried_at paths path None = without_at paths path
carried_at paths path (Some standing) = with_path paths path

-- the copy's paths after the actions, carried out one after the other
abbrev pub carried : Paths → List ActionValue → Paths
carried paths [] = paths
carried paths (action ∷ actions) = carried (carried_at paths action.path action.wanted) actions
