use Rattle.std.proofs.Common.{rules, ◌≡◌, not, filter}
use Rattle.std.proofs.lemmas.Map.Made.{filter_same_pairs}
use Rattle.poll_rounds.specs.Closed.{is_kept}
use Rattle.poll_rounds.proofs.ClosedLemmas.{kept, kept_update, whole}
use Rattle.poll_rounds.proofs.closed.keep.Goals as goal

pub returns-clause-kept : goal.returns-clause-kept
returns-clause-kept g c =
    let closed = c.args.closed.now in
    let last = c.args.last.now in
    let us = c.args.updates.now.entries in
    let fewer : c.retain.new.self.entries ≡ filter (λ u. not (is_kept closed last u.0)) us =
    filter_same_pairs _ (λ u. not (is_kept closed last u.0)) _ (λ k v b w f' t. search rules) us
    c.retain.new.self.entries c.retain.ensures.filtered in
    kept closed last us c.retain.new.self.entries c.iter-entries.ensures.law c.requires fewer

pub returns-clause-update : goal.returns-clause-update
returns-clause-update g c =
    let closed = c.args.closed.now in
    let last = c.args.last.now in
    let us = c.args.updates.now.entries in
    let fewer : c.retain.new.self.entries ≡ filter (λ u. not (is_kept closed last u.0)) us =
    filter_same_pairs _ (λ u. not (is_kept closed last u.0)) _ (λ k v b w f' t. search rules) us
    c.retain.new.self.entries c.retain.ensures.filtered in
    kept_update closed last us c.retain.new.self.entries c.iter-entries.ensures.law c.requires fewer

pub returns-clause-whole : goal.returns-clause-whole
returns-clause-whole g c = λ none.
    let closed = c.args.closed.now in
    let last = c.args.last.now in
    let us = c.args.updates.now.entries in
    let fewer : c.retain.new.self.entries ≡ filter (λ u. not (is_kept closed last u.0)) us =
    filter_same_pairs _ (λ u. not (is_kept closed last u.0)) _ (λ k v b w f' t. search rules) us
    c.retain.new.self.entries c.retain.ensures.filtered in
    whole closed last us c.retain.new.self.entries fewer none
