-- One more path has its folders in the set.
use Rattle.std.proofs.Common.{◌≡◌, ◌∙◌, sym, ap, true, ◌&&◌}
use Rattle.std.specs.List.{list_all}
use Rattle.debounce_model.specs.Honest.{has_folders}
use Rattle.reader_paths.proofs.path_set.PathSet.is_closed.Goals as goal

pub loop-path-preserved : goal.loop-path-preserved
loop-path-preserved g c =
    let f = has_folders c.args.self.now in
    let yes : f c.in-Some.path.now ≡ true = cc (c.in_ok-has_folders.ensures.ok) in
    sym (ap (λ b. b && list_all f c.next.new.self) yes)
    ∙ sym (ap (list_all f) c.in-Some.ensures.steps) ∙ c.loop-path.invariant
