-- The path has two pairs at most; the old one goes, if it is another one.
use Rattle.std.proofs.Common.{◌∙◌, ◌||◌, ◌==◌, ap, sym}
use Rattle.debounce_queues.specs.Fronts.{is_time}
use Rattle.debounce_queues.proofs.FrontLemmas.{kept_pair, old_out, one_time, or_none}
use Rattle.debounce_queues.proofs.index.IndexedMap.drop_old_front.Goals as goal

pub returns-in_default-clause-fronts : goal.returns-in_default-clause-fronts
returns-in_default-clause-fronts g c =
    let s = c.args.time in
    kept_pair c.args.self.now.fronts s c.args.self.now.spare
    (λ t. c.requires t ∙ ap (λ o. (s == t) || is_time o t) (sym c.front_time.ensures ∙ c.in_default.is)
    ∙ or_none s t)

pub returns-then-was-time-clause-fronts : goal.returns-then-was-time-clause-fronts
returns-then-was-time-clause-fronts g c =
    let s = c.args.time in
    kept_pair c.args.self.now.fronts s c.args.self.now.spare
    (λ t. c.requires t ∙ ap (λ o. (s == t) || is_time o t) (sym c.front_time.ensures ∙ c.in-Some.is)
    ∙ ap (λ w. (s == t) || (w == t)) c.if-was-time.true ∙ one_time s t)

pub returns-clause-fronts : goal.returns-clause-fronts
returns-clause-fronts g c =
    let s = c.args.time in
    old_out c.args.self.now.fronts c.remove.new.self c.in-Some.was s c.args.self.now.spare c.if-was-time.false
    (λ t. c.requires t ∙ ap (λ o. (s == t) || is_time o t) (sym c.front_time.ensures ∙ c.in-Some.is))
    (rw c.replace.ensures.value at c.remove.ensures.updates.0)
