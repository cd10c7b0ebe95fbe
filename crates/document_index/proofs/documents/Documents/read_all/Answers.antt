use Rattle.std.proofs.Common.{◌≡◌, ◌∙◌, ◌∷◌, true, subst, sym}
use Rattle.std.specs.List.{AllByRecursion}
use Rattle.std.specs.Map.{keys_of}
use Rattle.debounce_model.specs.Play.{has_path}
use Rattle.document_index.proofs.ReadLemmas.{among_themselves, nothing_among, puts_among}
use Rattle.document_index.proofs.documents.Documents.read_all.Goals as goal

pub loop-path-init : goal.loop-path-init
loop-path-init g c =
    let paths = keys_of c.args.paths.now.entries in (
      nothing_among paths c.new-read.result.entries c.new-read.ensures.empty,
      subst (AllByRecursion (λ p. has_path paths p ≡ true))
          (sym (c.into_iter-path-iterator.ensures.into_iter_gives ∙ c.keys-path-items.ensures.rest))
          (among_themselves paths),
    )

pub loop-path-preserved : goal.loop-path-preserved
loop-path-preserved g c =
    let paths = keys_of c.args.paths.now.entries in
    let left : AllByRecursion (λ p. has_path paths p ≡ true) (c.in-Some.path.now ∷ c.next.new.self) =
    subst (AllByRecursion (λ p. has_path paths p ≡ true)) c.in-Some.ensures.steps c.loop-path.invariant.1 in (
      puts_among paths c.in-Some.path.now c.loop-path.read.entries c.read_one.new.read.entries left.0
          c.in_ok-read_one.ensures.put c.loop-path.invariant.0,
      left.1,
    )
