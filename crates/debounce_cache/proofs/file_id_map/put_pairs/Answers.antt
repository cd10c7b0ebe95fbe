-- One pair more goes in, for which there is room; at the end all are in.
use Rattle.std.proofs.Common.{◌≡◌, ◌∙◌, ◌<◌, ◌++◌, ◌∷◌, [], Some, ap, arith, append_assoc, length, Result, Ok, Err, IsOk, OnOk}
use Rattle.std.specs.HashMap.{spare}
use Rattle.std.specs.Map.{update}
use Rattle.std.proofs.lemmas.Map.{update_all_push}
use Rattle.notify_paths.specs.Path.{PathValue, path_eq}
use Rattle.debounce_model.specs.declared.file_id.FileId.{FileId}
use Rattle.debounce_model.proofs.RunLemmas.{all_taken}
use Rattle.debounce_cache.specs.Scans.{Pairs}
use Rattle.debounce_cache.specs.FileIdMap.{Numbers, numbers_in, with_pairs}
use Rattle.debounce_cache.proofs.file_id_map.put_pairs.Goals as goal

-- what a call that succeeds ensures
from_ok : {T E P : Type 0} (r : Result T E) → IsOk r → OnOk r P → P
from_ok (Ok x) h p = p
from_ok (Err e) h p = cc

-- one pair more over the numbers
put_more : (before : Numbers) (es after ys : Pairs) (pair : PathValue × FileId) (p : PathValue)
    → numbers_in after p ≡ update path_eq (numbers_in es) pair.0 (Some pair.1) p
    → numbers_in es p ≡ with_pairs before ys p
    → numbers_in after p ≡ with_pairs before (ys ++ pair ∷ []) p
put_more before es after ys pair p put so_far =
    put ∙ update_all_push path_eq before (numbers_in es) ys pair p so_far

pub loop-path-preserved : goal.loop-path-preserved
loop-path-preserved g c =
    let l = c.loop-path in
    let i = l.invariant in
    let e = c.in-Some.ensures.steps in
    let some : 0 < spare l.entries = omega (arith, e.1, i.room) in
    let ok : IsOk c.insert.result = c.insert.ensures.succeeds some in
    let put = from_ok c.insert.result ok c.insert.ensures.updates in
    let before = numbers_in c.args.entries.now.entries in
    let pair : PathValue × FileId = (c.in-Some.path, c.in-Some.id) in
    record {
      put = λ p. put_more before l.entries.entries c.insert.new.self.entries l.yielded pair p (put.0 p)
          (i.put p);
      left = rw (append_assoc, ← e.0) i.left;
      counted = omega (arith, ap length e.0, e.1, i.counted);
      law = c.insert.ensures.unique;
      room = omega (arith, c.insert.ensures.spare, e.1, i.room);
    }

pub returns-clause-ok : goal.returns-clause-ok
returns-clause-ok g c = λ p.
    let i = c.loop-path.invariant in
    let before = numbers_in c.args.entries.now.entries in
    let all = all_taken c.loop-path.yielded _ _ _ i.left i.counted c.in-None.ensures.steps.0 in
    i.put p ∙ ap (λ (xs : Pairs). with_pairs before xs p) all
