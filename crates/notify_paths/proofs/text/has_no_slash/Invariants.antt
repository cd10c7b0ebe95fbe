use Rattle.std.proofs.Common.{◌≡◌, drop}
use Rattle.std.specs.Path.{has_no_slash}
use Rattle.notify_paths.proofs.text.has_no_slash.Given as goal

-- the bytes that are left decide
abbrev pub invariant-loop-byte : goal.invariant-loop-byte
invariant-loop-byte l = has_no_slash (drop l.byte-index l.bytes) ≡ has_no_slash l.bytes
