-- What is kept is a filter by paths, so a look-up finds what it found, or nothing.
use Rattle.std.proofs.Common.{◌≡◌, ◌∙◌, ap, rules, Bool, true, false, cond, not, None, refl}
use Rattle.std.specs.Map.{lookup}
use Rattle.std.proofs.lemmas.Map.Entries.{lookup-filter-keys}
use Rattle.std.proofs.lemmas.Map.Made.{filter_same_pairs}
use Rattle.notify_paths.specs.Path.{PathValue, path_eq, is_prefix}
use Rattle.notify_paths.specs.PathLaws.{path_eq_decides}
use Rattle.debounce_cache.specs.FileIdMap.{numbers_in}
use Rattle.debounce_cache.proofs.file_id_map.drop_at_or_below.Goals as goal

-- a test turned round
cond-not : {X : Type 0} (b : Bool) (x y : X) → cond (not b) x y ≡ cond b y x
cond-not true x y = refl
cond-not false x y = refl

pub returns-clause-left : goal.returns-clause-left
returns-clause-left g c =
    filter_same_pairs _ (λ e. not (is_prefix c.args.path.now e.0)) _ (λ k v b w f' t. search rules)
    c.args.entries.now.entries c.retain.new.self.entries c.retain.ensures.filtered

pub returns-clause-ok : goal.returns-clause-ok
returns-clause-ok g c = λ p.
    let path = c.args.path.now in
    let es = c.args.entries.now.entries in
    let after = c.retain.new.self.entries in
    let outside : PathValue → Bool = λ k. not (is_prefix path k) in
    let told = c.retain.ensures.filtered in
    let left = filter_same_pairs _ (λ e. outside e.0) _ (λ k v b w f' t. search rules) es after told in
    let found = lookup-filter-keys (path_eq p) outside (outside p) (λ k e. rw (← (path_eq_decides p k).0 e)
    refl) es in
    ap (lookup (path_eq p)) left ∙ found ∙ cond-not (is_prefix path p) (numbers_in es p) None
