-- What a batch makes of a mirror, from what was seen. `mirror` cites these.
use Rattle.std.proofs.Common.{◌≡◌, ◌∙◌, true, inl, inr, List, ◌++◌, None, sym, ap, subst}
use Rattle.std.specs.Prelude.{◌⊎◌, if◌then◌else◌}
use Rattle.std.specs.BTreeMap.{is_at}
use Rattle.std.specs.Map.{keys_of}
use Rattle.std.proofs.lemmas.Map.Made.{is_some-lookup}
use Rattle.notify_paths.specs.Path.{PathValue, path_cmp}
use Rattle.notify_types.specs.Event.{EventValue, Timed}
use Rattle.debounce_model.specs.Play.{events_of, has_path}
use Rattle.reader_paths.specs.Plan.{is_named, look_at, wanted}
use Rattle.program_copy.specs.After.{WaitOrAreCopied, WaitingValue, waits}
use Rattle.program_copy.specs.Copy.{CopiedValue}
use Rattle.program_copy.specs.Looked.{AreSeen, IsSeen, OthersSeen, PathMap, Sees, is_known}
use Rattle.program_copy.specs.Seen.{standing_of}
use Rattle.program_copy.proofs.NamedLemmas.{events_append, named_among, named_last}

-- where the copy has what was seen, or the path waits
pub like_seen : (sees : Sees) (events : List EventValue) (map : PathMap) (standing : CopiedValue) (others : OthersSeen)
    (waiting : WaitingValue) (copied : CopiedValue) → keys_of map ≡ wanted events →
    ((p : PathValue) → is_named events p ≡ true → is_known standing others p ≡ true) →
    AreSeen sees map standing others →
    ((p : PathValue) → is_named events p ≡ true →
    (waits waiting p ≡ true) ⊎ (look_at copied p ≡ look_at standing p)) →
    WaitOrAreCopied sees events waiting copied
like_seen sees events map standing others waiting copied keys known seen like = λ p h. by p h (like p h)
  where
    by : (p : PathValue) → is_named events p ≡ true →
        (waits waiting p ≡ true) ⊎ (look_at copied p ≡ look_at standing p) →
        (waits waiting p ≡ true) ⊎ IsSeen sees p (has_path (wanted events) p) (look_at copied p)
    by p h (inl w) = inl w
    by p h (inr e) =
        let noted = seen p (known p h) in
        let same = is_some-lookup (is_at (path_cmp p)) map ∙ ap (λ ks. has_path ks p) keys in
        inr (noted.0, noted.1, e ∙ noted.2 ∙ ap (λ b. if b then standing_of noted.0 else None) same)

-- of the last of the events
pub after_last : (sees : Sees) (first last : List Timed) (waiting : WaitingValue) (copied : CopiedValue) →
    WaitOrAreCopied sees (events_of (first ++ last)) waiting copied →
    WaitOrAreCopied sees (events_of last) waiting copied
after_last sees first last waiting copied after = λ p h. by p h
  where
    all : WaitOrAreCopied sees (events_of first ++ events_of last) waiting copied
    all = subst (λ es. WaitOrAreCopied sees es waiting copied) (events_append first last) after

    by : (p : PathValue) → is_named (events_of last) p ≡ true →
        (waits waiting p ≡ true) ⊎ IsSeen sees p (has_path (wanted (events_of last)) p) (look_at copied p)
    by p h = subst (λ b. (waits waiting p ≡ true) ⊎ IsSeen sees p b (look_at copied p))
        (named_last (events_of first) (events_of last) p h) (all p (named_among (events_of first) (events_of last) p h))
