-- The queue at the path is untouched by what happens at the two paths, and goes along then.
use Rattle.std.proofs.Common.{◌≡◌, ◌∙◌, ap, false}
use Rattle.std.specs.Option.{option_map}
use Rattle.std.specs.BTreeMap.{is_at}
use Rattle.notify_paths.specs.Path.{path_cmp, is_below}
use Rattle.notify_paths.specs.PathMoves.{relocated}
use Rattle.debounce_model.specs.Moved.{began, moved_queue}
use Rattle.debounce_model.specs.Queues.{queue_at}
use Rattle.debounce_model.specs.Rename.{joined_halves}
use Rattle.debounce_model.proofs.MovedLemmas.{queue-moved_below}
use Rattle.debounce_model.proofs.MovedPaths.{below_relocated, below_prefix, relocated_back}
use Rattle.debounce_model.proofs.MoveSteps.{apart_both, below_itself, differs, halves-other, not_below}
use Rattle.reader_laws.proofs.renames.law_of_renamed_folders.Goals as goal

pub returns : goal.returns
returns c = λ queues f t time attrs path events apart below waits.
    let halves = joined_halves queues f t time attrs in
    let start = began queues f time in
    let above : is_below t f ≡ false = not_below t f (apart_both f t apart).0 in
    let not_from : is_at (path_cmp path) f ≡ false = differs path f f below (below_itself f) in
    let not_to : is_at (path_cmp path) t ≡ false = differs path t f below above in
    let back : relocated t f (relocated f t path) ≡ path = relocated_back f t path (below_prefix path f below) in
    rw apart
    (queue-moved_below halves f t start (relocated f t path) (below_relocated f t path below)
    ∙ ap (option_map (moved_queue f t start))
    (ap (queue_at halves) back ∙ halves-other queues f t time attrs path not_from not_to ∙ waits))
