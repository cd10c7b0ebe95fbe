-- How many paths have a number.
use Rattle.std.proofs.Common.{◌≡◌, ◌∙◌, Bool, ◌||◌, ◌++◌, Option, ap, length, sym}
use Rattle.std.proofs.lemmas.List.Folds.{list_any-append}
use Rattle.std.proofs.lemmas.Map.Entries.{length-keys_of}
use Rattle.std.proofs.lemmas.Map.Made.{is_some-lookup, is_some-update_all, length-from_keys}
use Rattle.std.specs.List.{IsDistinct}
use Rattle.std.specs.Map.{keys_of}
use Rattle.std.specs.Option.{is_some}
use Rattle.std.specs.Set.{is_member}
use Rattle.notify_paths.specs.Path.{PathValue, path_eq}
use Rattle.notify_paths.specs.PathLaws.{path_eq_equiv}
use Rattle.debounce_model.specs.declared.file_id.FileId.{FileId}
use Rattle.debounce_cache.specs.Scans.{Pairs}
use Rattle.debounce_cache.specs.FileIdMap.{Holds, count_with, numbers_in, with_pairs}

-- entries that hold the numbers of some others, with pairs over them, are as many as the paths of both
pub count_put : (before mid pairs after : Pairs) → IsDistinct path_eq (keys_of after) →
    Holds mid (numbers_in before) → Holds after (with_pairs (numbers_in mid) pairs) →
    length after ≡ count_with before pairs
count_put before mid pairs after law kept holds =
    sym (length-keys_of after)
    ∙ length-from_keys path_eq_equiv (keys_of after) (keys_of before ++ keys_of pairs) law same
  where
    same : (q : PathValue) → is_member path_eq (keys_of after) q
        ≡ is_member path_eq (keys_of before ++ keys_of pairs) q
    same q =
        sym (is_some-lookup (path_eq q) after)
        ∙ ap is_some (holds q)
        ∙ is_some-update_all path_eq_equiv q (numbers_in mid) pairs
        ∙ ap (λ (n : Option FileId). is_some n || is_member path_eq (keys_of pairs) q) (kept q)
        ∙ ap (λ (b : Bool). b || is_member path_eq (keys_of pairs) q) (is_some-lookup (path_eq q) before)
        ∙ sym (list_any-append (path_eq q) (keys_of before) (keys_of pairs))
