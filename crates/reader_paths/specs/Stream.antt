-- Honest streams of commands with a reply each.
use Rattle.std.specs.Prelude.{◌≡◌, ◌==◌, Bool, ◌&&◌, List, length}
use Rattle.debounce_model.specs.Command.{CommandValue, ReplyValue}
use Rattle.debounce_model.specs.Honest.{is_closed, are_honest, IsHonest}
use Rattle.debounce_model.specs.Play.{Paths, accepted}

-- each command has a reply, and the accepted events are honest from these paths on
pub record IsHonestStream (start : Paths) (commands : List CommandValue) (replies : List ReplyValue) : Type 0
  where
    pub paired : length commands ≡ length replies
    pub honest : IsHonest start commands replies

-- the same as a test
abbrev pub is_honest : Paths → List CommandValue → List ReplyValue → Bool
is_honest start commands replies =
    (length commands == length replies) && (is_closed start && are_honest start (accepted commands replies))
