-- The scan's own clause, and what was found over the numbers.
use Rattle.std.proofs.Common.{rules}
use Rattle.debounce_cache.proofs.file_id_map.FileIdMapFileIdCache.add_path.Goals as goal

pub returns-clause-ok : goal.returns-clause-ok
returns-clause-ok g c = record { scan = search rules; numbers = search rules; count = search rules }
