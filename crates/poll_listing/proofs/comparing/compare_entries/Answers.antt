use Rattle.std.proofs.Common.{◌≡◌, ◌∙◌, ◌++◌, ap, sym, subst, None}
use Rattle.std.specs.Option.{option_copied}
use Rattle.poll_listing.specs.Changes.{changes, LeadsTo}
use Rattle.poll_listing.specs.Pairs.{PartsValue, walk, joined, paired}
use Rattle.std.specs.Map.{keys_of}
use Rattle.std.proofs.lemmas.Result.{IfOk-weaker}
use Rattle.poll_listing.proofs.HonestLemmas.{changes_lead}
use Rattle.poll_listing.proofs.WalkLemmas.{walk_finds_all, joined-none}
use Rattle.poll_listing.proofs.comparing.compare_entries.Goals as goal

pub returns-clause-ok : goal.returns-clause-ok
returns-clause-ok g c =
    let parts = c.loop-pair.parts in
    let old = c.args.old.now.entries in
    let new = c.args.new.now.entries in
    let all : parts ≡ walk None (paired old new) =
    sym (joined-none parts)
    ∙ ap (λ ps. joined parts (walk (option_copied c.loop-pair.top) ps)) (sym c.in_default.ensures)
    ∙ c.loop-pair.invariant in
    let same : parts.removed ++ (parts.created ++ parts.rewritten) ≡ changes old new =
    ap (λ (p : PartsValue). p.removed ++ (p.created ++ p.rewritten)) (all
    ∙ walk_finds_all old new c.requires.0.ordered c.requires.1.ordered) in
    rw (← same) c.into_events.ensures

pub returns-clause-honest : goal.returns-clause-honest
returns-clause-honest g c =
    let old = c.args.old.now.entries in
    let new = c.args.new.now.entries in
    IfOk-weaker c.into_events.result (λ events. events.items
    ≡ changes old new) (λ events. LeadsTo (keys_of old) (keys_of new) events.items)
    (λ events is. subst (LeadsTo (keys_of old) (keys_of new)) (sym is)
    (changes_lead old new c.requires.0 c.requires.1)) (returns-clause-ok g c)
