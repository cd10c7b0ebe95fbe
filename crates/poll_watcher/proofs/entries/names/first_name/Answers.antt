use Rattle.std.proofs.Common.{not, ◌==◌}
use Rattle.std.proofs.lemmas.List.Sums.{prefix_len-le-length}
use Rattle.poll_watcher.proofs.entries.names.first_name.Goals as goal

pub split_at-requires : goal.split_at-requires
split_at-requires c =
    rw c.length_of_name.ensures (prefix_len-le-length (λ byte. not (byte == 0)) c.args.bytes.now)
