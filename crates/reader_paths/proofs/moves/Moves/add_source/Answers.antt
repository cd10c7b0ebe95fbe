use Rattle.std.proofs.Common.{◌≡◌, Some, cond, rules, ap, ◌∙◌}
use Rattle.std.specs.Prelude.{slice_get}
use Rattle.std.specs.BTreeMap.{is_at}
use Rattle.std.specs.Map.{lookup}
use Rattle.notify_paths.specs.Path.{path_cmp}
use Rattle.reader_paths.specs.Moves.{source_of}
use Rattle.reader_paths.proofs.MovesLemmas.SourceLemmas.{added}
use Rattle.reader_paths.proofs.moves.Moves.add_source.Goals as goal

pub returns : goal.returns
returns g c =
    let event = c.args.event.now.event in
    let source = c.in-Some-Some.source in
    let old = c.args.sources.now.entries in
    let first : slice_get event.paths 0 ≡ Some c.in-Some-Some.path.now = search rules in
    let is : source_of c.args.self.now event ≡ Some source = search rules in
    added c.args.self.now event c.in-Some-Some.path.now source old c.insert.new.self.entries first is
    (λ q. c.in_ok-insert.ensures.updates.0 q
    ∙ ap (λ p. cond (is_at (path_cmp p) q) (Some source) (lookup (is_at (path_cmp q)) old))
    c.in_ok-clone.ensures.cases)
