-- What a batch makes of an index, read at one path. `take_batch` cites the last two lemmas.
use Rattle.std.proofs.Common.{◌≡◌, Bool, true, false, cond, not, ◌&&◌, ◌||◌, List, [], ◌∷◌, Option, None, Some, refl, sym, ap, subst, ◌∙◌, is_eq}
use Rattle.std.specs.declared.cmp.Ordering.TheVariants.{Less}
use Rattle.std.specs.Prelude.{is_some, if◌then◌else◌}
use Rattle.std.specs.BTreeMap.{is_at, insert_entry}
use Rattle.std.specs.List.{AllByRecursion}
use Rattle.std.specs.List.Sorted.{IsStrictlySortedBy}
use Rattle.std.specs.Map.{keys_of}
use Rattle.std.specs.Option.{option_or}
use Rattle.notify_paths.specs.Path.{PathValue, path_cmp, is_prefix}
use Rattle.notify_paths.specs.PathLaws.{path_cmp_total}
use Rattle.notify_types.specs.Event.{EventValue}
use Rattle.notify_types.specs.declared.kind.EventKind.{EventKind}
use Rattle.debounce_model.proofs.Entries.{lookup-insert_other, lookup-insert_same}
use Rattle.debounce_laws.proofs.PathSets.{tied}
use Rattle.debounce_model.specs.Play.{Paths, has_path}
use Rattle.reader_paths.specs.Plan.{Stands, gone_first, goes, goes_at, goes_first, is_named, look_at, stands, wanted}
use Rattle.reader_paths.proofs.PlanLemmas.PlanLaw.{gone_where_named, not_wanted_goes, unnamed_not_wanted}
use Rattle.program_logic.specs.Words.Index.{Documents, IndexValue, IsExact, IsIndexAfter, StaysExact, Tells, put_if, put_wanted, read_at, without_document, without_gone, without_if}
use Rattle.program_logic.specs.Words.{WordsValue}

-- ---- the index without what goes

-- the same words, either way
no_words : (b : Bool) (w : Option WordsValue) → w ≡ cond b w w
no_words true w = refl
no_words false w = refl

-- without a document, read at a path
look_at-without : (s : IndexValue) (p q : PathValue) →
    look_at (without_document p s) q ≡ cond (is_prefix p q) None (look_at s q)
look_at-without [] p q = no_words (is_prefix p q) None
look_at-without (e ∷ s) p q = by (is_prefix p e.0) refl (is_eq (path_cmp q e.0)) refl (look_at-without s p q)
  where
    by : (gone : Bool) → is_prefix p e.0 ≡ gone → (at : Bool) → is_eq (path_cmp q e.0) ≡ at →
        look_at (without_document p s) q ≡ cond (is_prefix p q) None (look_at s q) →
        look_at (cond (not gone) (e ∷ without_document p s) (without_document p s)) q
        ≡ cond (is_prefix p q) None (cond at (Some e.1) (look_at s q))
    by true g true h more =
        let here : is_prefix p q ≡ true = ap (is_prefix p) (tied q e.0 h) ∙ g in
        more ∙ rw here refl
    by true g false h more = more
    by false g true h more =
        let here : is_prefix p q ≡ false = ap (is_prefix p) (tied q e.0 h) ∙ g in
        rw (h, here) refl
    by false g false h more = rw h more

-- without what one event takes away
look_at-without_first : (there : Stands) (kind : EventKind) (ps : List PathValue) (s : IndexValue) (q : PathValue) →
    look_at (without_if (gone_first there kind ps) s) q ≡ cond (goes_first there kind q ps) None (look_at s q)
look_at-without_first there kind [] s q = refl
look_at-without_first there kind (p ∷ ps) s q = by (goes_at kind (there p))
  where
    by : (b : Bool) → look_at (without_if (if b then Some p else None) s) q
        ≡ cond (b && is_prefix p q) None (look_at s q)
    by true = look_at-without s p q
    by false = refl

-- without what the events take away
look_at-without_gone : (there : Stands) (es : List EventValue) (s : IndexValue) (q : PathValue) →
    look_at (without_gone there es s) q ≡ cond (goes there es q) None (look_at s q)
look_at-without_gone there [] s q = refl
look_at-without_gone there (e ∷ es) s q =
    look_at-without_gone there es (without_if (gone_first there e.kind e.paths) s) q
    ∙ ap (λ w. cond (goes there es q) None w) (look_at-without_first there e.kind e.paths s q)
    ∙ by (goes_first there e.kind q e.paths) (goes there es q) (look_at s q)
  where
    by : (a b : Bool) (w : Option WordsValue) → cond b None (cond a None w) ≡ cond (a || b) None w
    by true true w = refl
    by true false w = refl
    by false b w = refl

-- ---- the index with what was read

-- what is put at a path, read at a path
look_at-put : (s : IndexValue) (p q : PathValue) (w : WordsValue) (b : Bool) → is_at (path_cmp q) p ≡ b →
    look_at (insert_entry path_cmp s p w) q ≡ cond b (Some w) (look_at s q)
look_at-put s p q w true h =
    let same : q ≡ p = tied q p h in
    subst (λ r. look_at (insert_entry path_cmp s p w) r ≡ Some w) (sym same) (lookup-insert_same path_cmp_total s p w)
look_at-put s p q w false h = lookup-insert_other path_cmp_total s p q w h

-- where all paths are above x, nothing stands at x
look_at-above : (x : PathValue) (es : IndexValue) → AllByRecursion (λ y. path_cmp x y ≡ Less) (keys_of es) →
    look_at es x ≡ None
look_at-above x [] a = refl
look_at-above x (e ∷ es) a = rw a.0 (look_at-above x es a.1)

-- where the documents at some paths are put in, theirs are found first
look_at-put_wanted : (ps : Paths) (s es : IndexValue) → IsStrictlySortedBy path_cmp (keys_of es) → (q : PathValue) →
    look_at (put_wanted ps s es) q ≡ option_or (cond (has_path ps q) (look_at es q) None) (look_at s q)
unfolding IsStrictlySortedBy
look_at-put_wanted ps s [] sorted q = nothing (has_path ps q)
  where
    nothing : (b : Bool) → look_at s q ≡ option_or (cond b None None) (look_at s q)
    nothing true = refl
    nothing false = refl
look_at-put_wanted ps s (e ∷ es) sorted q =
    look_at-put_wanted ps (put_if (has_path ps e.0) s e.0 e.1) es sorted.1 q
    ∙ by (is_at (path_cmp q) e.0) refl (has_path ps q) refl
  where
    put : (b w : Bool) → is_at (path_cmp q) e.0 ≡ b → look_at (put_if w s e.0 e.1) q
        ≡ cond (b && w) (Some e.1) (look_at s q)
    put true true h = look_at-put s e.0 q e.1 true h
    put false true h = look_at-put s e.0 q e.1 false h
    put true false h = refl
    put false false h = refl

    by : (b : Bool) → is_at (path_cmp q) e.0 ≡ b → (w : Bool) → has_path ps q ≡ w →
        option_or (cond w (look_at es q) None) (look_at (put_if (has_path ps e.0) s e.0 e.1) q)
        ≡ option_or (cond w (cond b (Some e.1) (look_at es q)) None) (look_at s q)
    by true h true k =
        let same : q ≡ e.0 = tied q e.0 h in
        let none : look_at es q ≡ None = ap (look_at es) same ∙ look_at-above e.0 es sorted.0 in
        let there : has_path ps e.0 ≡ true = ap (has_path ps) (sym same) ∙ k in
        ap (λ o. option_or o (look_at (put_if (has_path ps e.0) s e.0 e.1) q)) none
        ∙ put true (has_path ps e.0) h ∙ ap (λ t. cond t (Some e.1) (look_at s q)) there
    by true h false k =
        let there : has_path ps e.0 ≡ false = ap (has_path ps) (sym (tied q e.0 h)) ∙ k in
        put true (has_path ps e.0) h ∙ ap (λ t. cond t (Some e.1) (look_at s q)) there
    by false h w k = ap (option_or (cond w (look_at es q) None)) (put false (has_path ps e.0) h)

-- ---- the laws of a batch

-- what goes is forgotten, and then what was read at the wanted paths is put in
pub index_after : (read old : IndexValue) (es : List EventValue) → IsStrictlySortedBy path_cmp (keys_of read) →
    IsIndexAfter read es old (put_wanted (wanted es) (without_gone (stands (look_at read)) es old) read)
index_after read old es sorted = λ path.
    look_at-put_wanted (wanted es) (without_gone (stands (look_at read)) es old) read sorted path
    ∙ ap (option_or (read_at read es path)) (look_at-without_gone (stands (look_at read)) es old path)

-- so an index stays exact
pub stays_exact : (read old new : IndexValue) (es : List EventValue) → IsIndexAfter read es old new →
    StaysExact read es old new
stays_exact read old new es after = λ before now tells was path. at before now tells was path (is_named es path) refl
  where
    there : Stands
    there = stands (look_at read)

    at : (before now : Documents) → Tells read es before now → IsExact before old → (path : PathValue) → (b : Bool) →
        is_named es path ≡ b → look_at new path ≡ now path
    at before now tells was path true n =
        after path ∙ by (look_at read path) refl (has_path (wanted es) path) refl ∙ tells.named path n
      where
        by : (o : Option WordsValue) → look_at read path ≡ o → (w : Bool) → has_path (wanted es) path ≡ w →
            option_or (cond w o None) (cond (goes there es path) None (look_at old path)) ≡ cond w o None
        by (Some words) e true k = refl
        by (Some words) e false k = rw (not_wanted_goes there es path n k) refl
        by None e true k = rw (gone_where_named there es path n (ap is_some e)) refl
        by None e false k = rw (gone_where_named there es path n (ap is_some e)) refl
    at before now tells was path false n =
        after path
        ∙ ap (λ w. option_or (cond w (look_at read path) None) (cond (goes there es path) None (look_at old path)))
        (unnamed_not_wanted es path n)
        ∙ ap (λ o. cond (goes there es path) None o) (was path)
        ∙ sym (tells.others path n)
