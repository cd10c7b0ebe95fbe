-- No flood: of each kind a batch has at most one event at a path, and no more is emitted than was accepted.
use Rattle.std.specs.Prelude.{◌≤◌, ◌+◌, ℕ, Bool, not, ◌&&◌, List, [], ◌∷◌, length, is_some}
use Rattle.std.specs.List.{count_by}
use Rattle.notify_types.specs.Event.{Timed}
use Rattle.notify_types.specs.KindNumbers.{kind_eq}
use Rattle.notify_paths.specs.Path.{PathValue, path_eq}
use Rattle.notify_types.specs.declared.kind.EventKind.{EventKind}
use Rattle.debounce_model.specs.Command.{CommandValue, ReplyValue, BatchReply}
use Rattle.debounce_model.specs.Kept.{has_first}
use Rattle.debounce_model.specs.PathsLaw.{emitted}
use Rattle.debounce_model.specs.Play.{accepted}
use Rattle.debounce_model.specs.State.{State, waiting}
use Rattle.debounce_model.specs.WellFormed.{kept_by}

-- an event stands at this path: at its first one, a joined rename at its second
abbrev pub stands_at : PathValue → Timed → Bool
stands_at path x = has_first (λ p. path_eq p path) (kept_by x)

-- an event without the Rescan flag, of this kind, that stands at this path
abbrev pub is_of : PathValue → EventKind → Timed → Bool
is_of path kind x = not (is_some x.event.attrs.flag) && (stands_at path x && kind_eq kind x.event.kind)

-- each batch of these replies has at most one event of a kind at a path
abbrev pub HaveNoFlood : List ReplyValue → Type 0
HaveNoFlood [] = Unit {0}
HaveNoFlood (BatchReply batch ∷ replies) =
    ((path : PathValue) (kind : EventKind) → count_by (is_of path kind) batch ≤ 1) × HaveNoFlood replies
HaveNoFlood (reply ∷ replies) = HaveNoFlood replies

-- commands with these replies, which led to this state: no batch is a flood, and what was emitted and what waits are no
-- more events than were accepted
pub record FloodsNowhere (commands : List CommandValue) (replies : List ReplyValue) (s : State) : Type 0 where
  pub batches : HaveNoFlood replies
  pub events : length (emitted replies) + waiting s ≤ length (accepted commands replies)
