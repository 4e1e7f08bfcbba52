use Rattle.std.proofs.Common.{ℕ, List, ap, ◌∙◌}
use Rattle.sb_regex.specs.Numbered.{regex_at}
use Rattle.sb_trace.specs.Pairing.{has_first}
use Rattle.sb_trace.proofs.Pairs.{pairs_start, paired_start, members_exact, firsts_expanded, expanded_of_two}
use Rattle.sb_trace.proofs.trace.Trace.within.Goals as goal

pub returns-then-not-branch-clause-only : goal.returns-then-not-branch-clause-only
returns-then-not-branch-clause-only g c =
    let h = c.in_ok-expand_pairs.ensures in
    let rs = c.args.arena.now in
    let r = regex_at rs c.args.regex in
    let s = regex_at rs c.args.guard in
    expanded_of_two c.expand_pairs.new.arena r s c.expand_pairs.new.pairs.keys c.args.self.now c.expand_pairs.new.self
    (h.reached r s
    (pairs_start rs c.args.regex c.args.guard c.new-pairs.result.keys c.add_pair.new.pairs.keys
    c.new-pairs.ensures.empty c.requires.known c.requires.guard c.in_ok-add_pair.ensures.only)) h.only

pub returns-clause-only : goal.returns-clause-only
returns-clause-only g c =
    let h = c.in_ok-expand_pairs.ensures in
    let rs = c.args.arena.now in
    let r = regex_at rs c.args.regex in
    let s = regex_at rs c.args.guard in
    expanded_of_two c.expand_pairs.new.arena r s c.expand_pairs.new.pairs.keys c.args.self.now c.expand_pairs.new.self
    (h.reached r s
    (pairs_start rs c.args.regex c.args.guard c.new-pairs.result.keys c.add_pair.new.pairs.keys
    c.new-pairs.ensures.empty c.requires.known c.requires.guard c.in_ok-add_pair.ensures.only)) h.only

pub returns-clause-exact : goal.returns-clause-exact
returns-clause-exact g c =
    let h = c.in_ok-expand_pairs.ensures in
    let rs = c.args.arena.now in
    let more = c.expand_pairs.new.arena in
    let r = regex_at rs c.args.regex in
    let s = regex_at rs c.args.guard in
    let first = c.add_pair.new.pairs.keys in
    let pairs = c.expand_pairs.new.pairs.keys in
    members_exact c.nullable_has_empty_word.ensures c.derivative_has_rests.ensures c.derivative_along_has_rests.ensures
    more r s pairs c.normal_regexes_each_once.ensures.distinct c.in_ok-members.members.items
    (h.led c.if-not-branch.false)
    (h.reached r s
    (pairs_start rs c.args.regex c.args.guard c.new-pairs.result.keys first c.new-pairs.ensures.empty c.requires.known
    c.requires.guard c.in_ok-add_pair.ensures.only))
    (paired_start rs more c.args.regex c.args.guard first pairs h.goes.extends c.requires.known c.requires.guard h.grew
    c.in_ok-add_pair.ensures.met)
    (λ n. c.in_ok-members.ensures.exact n
    ∙ ap (λ (ps : List (ℕ × ℕ)). has_first more ps n) c.as_slice.ensures.keys)

pub returns-clause-expanded : goal.returns-clause-expanded
returns-clause-expanded g c =
    let more = c.expand_pairs.new.arena in
    firsts_expanded more c.expand_pairs.new.pairs.keys c.in_ok-members.members.items c.expand_pairs.new.self
    (λ n. c.in_ok-members.ensures.exact n
    ∙ ap (λ (ps : List (ℕ × ℕ)). has_first more ps n) c.as_slice.ensures.keys)
    (c.in_ok-expand_pairs.ensures.expanded c.if-not-branch.false)
