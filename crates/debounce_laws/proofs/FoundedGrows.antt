-- What is founded on some accepted events is founded on these and more.
use Rattle.std.proofs.Common.{◌≡◌, List, [], ◌∷◌, ◌++◌, ap, ◌∙◌, append_assoc}
use Rattle.std.specs.List.{AllByRecursion}
use Rattle.std.proofs.lemmas.List.Elements.{filter-append}
use Rattle.notify_types.specs.Event.{Timed}
use Rattle.notify_paths.specs.Path.{PathValue}
use Rattle.debounce_model.specs.Command.{ReplyValue, BatchReply}
use Rattle.debounce_model.specs.Founded.{AcceptedEvent, renames, Matched, Founded, Told, TakenOn, TakenAlong, AreFounded, IsFoundedUnflagged, IsReplyFounded}
use Rattle.debounce_model.specs.Kept.{tells_rename}

module _ (history more : List AcceptedEvent) where
  -- the renames of both
  pub renames-more : renames (history ++ more) ≡ renames history ++ renames more
  renames-more = filter-append (λ a. tells_rename a.event) history more

  -- two halves are still matched
  matched-more : {f t : PathValue} → Matched history f t → Matched (history ++ more) f t
  matched-more m = record {
    earlier = m.earlier;
    first = m.first;
    second = m.second;
    later = m.later ++ renames more;
    neighbours = renames-more ∙ ap (λ r. r ++ renames more) m.neighbours
        ∙ append_assoc m.earlier (m.first ∷ m.second ∷ m.later) (renames more);
    from = m.from;
    to = m.to;
    linked = m.linked;
  }

  -- what is founded stays so
  pub founded-more : {o t : PathValue} → Founded history o t → Founded (history ++ more) o t
  founded-more (Told m) = Told (matched-more m)
  founded-more (TakenOn e m) = TakenOn (founded-more e) (matched-more m)
  founded-more (TakenAlong e m b a) = TakenAlong (founded-more e) (matched-more m) b a

  -- .. the paths of an event
  are_founded-more : (ps : List PathValue) → AreFounded history ps → AreFounded (history ++ more) ps
  are_founded-more (o ∷ t ∷ []) e = founded-more e
  are_founded-more ps e = absurd e

  -- .. the events of a batch
  batch-more : (xs : List Timed) → AllByRecursion (IsFoundedUnflagged history) xs →
      AllByRecursion (IsFoundedUnflagged (history ++ more)) xs
  batch-more [] a = tt
  batch-more (x ∷ xs) a = (λ f b. are_founded-more x.event.paths (a.0 f b), batch-more xs a.1)

  -- .. a reply
  pub reply-more : (y : ReplyValue) → IsReplyFounded history y → IsReplyFounded (history ++ more) y
  reply-more (BatchReply batch) a = batch-more batch a
  reply-more y a = tt
