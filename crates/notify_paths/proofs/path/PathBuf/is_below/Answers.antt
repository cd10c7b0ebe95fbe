-- A path below the base begins with the base's parts, and isn't the base.
use Rattle.std.proofs.Common.{◌≡◌, true, false}
use Rattle.notify_paths.specs.Path.{is_prefix}
use Rattle.notify_paths.proofs.path.PathBuf.is_below.Goals as goal

pub returns-then-starts_with : goal.returns-then-starts_with
returns-then-starts_with g c =
    let begins : is_prefix c.args.base.now c.args.self.now ≡ true = cc in
    rw begins c.ne.ensures

pub returns-else-starts_with : goal.returns-else-starts_with
returns-else-starts_with g c =
    let differs : is_prefix c.args.base.now c.args.self.now ≡ false = cc in
    rw differs (cc)
