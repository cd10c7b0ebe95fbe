use Rattle.std.proofs.Common.{◌≡◌, ◌∙◌, ap, sym}
use Rattle.std.specs.BTreeMap.{is_at}
use Rattle.std.specs.Map.{keys_of}
use Rattle.std.proofs.lemmas.Map.Made.{is_some-lookup}
use Rattle.notify_paths.specs.Path.{path_cmp}
use Rattle.debounce_model.specs.Play.{has_path}
use Rattle.program_logic.specs.Words.Index.{put_if, put_wanted}
use Rattle.program_logic.proofs.words.index.DocumentIndex.put_wanted.Goals as goal

pub loop-path-preserved : goal.loop-path-preserved
loop-path-preserved g c =
    let paths = keys_of c.args.paths.now.entries in
    let known : c.contains_key.result ≡ has_path paths c.in-Some.path =
    c.contains_key.ensures ∙ is_some-lookup (is_at (path_cmp c.in-Some.path)) c.args.paths.now.entries in
    ap (λ index. put_wanted paths index c.next.new.self)
    (c.in_ok-put_if.ensures ∙ ap (λ b. put_if b c.loop-path.self c.in-Some.path c.in-Some.words) known)
    ∙ ap (put_wanted paths c.loop-path.self) (sym c.in-Some.ensures.steps)
    ∙ c.loop-path.invariant
