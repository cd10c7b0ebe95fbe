use Rattle.std.proofs.Common.{◌≡◌, take, true}
use Rattle.std.specs.List.{list_all}
use Rattle.debounce_model.specs.Honest.{folders_of}
use Rattle.poll_rounds.specs.Parts.{has_folder}
use Rattle.poll_rounds.specs.Beside.{put_in}
use Rattle.poll_rounds.proofs.part.top_of.Given as goal

-- the folders above the next path are there
abbrev pub invariant-loop-count : goal.invariant-loop-count
invariant-loop-count g l = list_all (has_folder (put_in l.listing)) (folders_of (take l.count l.path)) ≡ true
