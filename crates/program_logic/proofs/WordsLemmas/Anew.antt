-- An index that is read anew. The function that does that cites the last of these.
use Rattle.std.proofs.Common.{◌≡◌, ◌∙◌, Bool, true, false, cond, ◌||◌, List, [], ◌∷◌, Option, None, Some, refl, sym, true≢false}
use Rattle.std.specs.Prelude.{if◌then◌else◌}
use Rattle.std.specs.BTreeMap.{is_at}
use Rattle.notify_paths.specs.Path.{PathValue, path_cmp, path_eq}
use Rattle.notify_paths.specs.PathLaws.{path_eq_decides}
use Rattle.notify_types.specs.Event.{EventValue, Timed}
use Rattle.debounce_laws.proofs.PathSets.{tied}
use Rattle.reader_paths.specs.Plan.{goes, is_named, look_at, stands}
use Rattle.program_logic.specs.Words.Index.{IndexValue, StaysExact}
use Rattle.program_logic.specs.Words.Kept.{BecomesExact, Readings, Takes, TakesAnew, anew}

-- neither of two
neither : (a b : Bool) → (a || b) ≡ false → (a ≡ false) × (b ≡ false)
neither true b h = absurd (true≢false h)
neither false b h = (refl, h)

-- a path that none of the events names stands at none of the paths that the first of them name
unnamed_key : (index : IndexValue) (listed : List Timed) (p : PathValue) → is_named (anew index listed) p ≡ false →
    look_at index p ≡ None
unnamed_key [] listed p h = refl
unnamed_key (e ∷ index) listed p h =
    let neither_of = neither (path_eq p e.0) (is_named (anew index listed) p) h in
    by (is_at (path_cmp p) e.0) refl neither_of.0 (unnamed_key index listed p neither_of.1)
  where
    by : (b : Bool) → is_at (path_cmp p) e.0 ≡ b → path_eq p e.0 ≡ false → look_at index p ≡ None →
        cond b (Some e.1) (look_at index p) ≡ None
    by true at other more = absurd (true≢false (sym ((path_eq_decides p e.0).1 (tied p e.0 at)) ∙ other))
    by false at other more = more

-- nothing, either way
nothing : {V : Type 0} (b : Bool) (o : Option V) → o ≡ None → (if b then None else o) ≡ None
nothing true o e = refl
nothing false o e = e

-- what stands on nothing that was known before is exact if the index that it had is exact for itself
becomes_exact : (read old new : IndexValue) (es : List EventValue) →
    ((p : PathValue) → is_named es p ≡ false → look_at old p ≡ None) → StaysExact read es old new →
    BecomesExact read es new
becomes_exact read old new es unnamed stays = λ after named others. stays (look_at old) after (record {
  named = named;
  others = λ p h. others p h ∙ sym (nothing (goes (stands (look_at read)) es p) (look_at old p) (unnamed p h));
}) (λ p. refl)

-- a batch that names all that the index has leaves nothing of what was known before
pub takes_anew : (readings : Readings) (old new : IndexValue) (listed : List Timed) →
    Takes readings (anew old listed) old new → TakesAnew readings (anew old listed) old new
takes_anew readings old new listed taken =
    (taken.0, taken.1, taken.2, becomes_exact taken.0 old new (anew old listed) (unnamed_key old listed) taken.3)
