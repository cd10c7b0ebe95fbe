use Rattle.std.proofs.Common.{◌≡◌, drop}
use Rattle.notify_types.specs.KindWords.{kind_among}
use Rattle.notify_types.proofs.word.kind_among.Given as goal

-- what is left gives the answer
abbrev pub invariant-loop-kind : goal.invariant-loop-kind
invariant-loop-kind l = kind_among (drop l.kind-index l.kinds) l.word ≡ kind_among l.kinds l.word
