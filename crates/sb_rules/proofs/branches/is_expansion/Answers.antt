use Rattle.std.proofs.Common.{◌≡◌, ◌<◌, IfOk, [], length, sym, ap, subst, ◌∙◌}
use Rattle.std.specs.List.{All}
use Rattle.std.proofs.lemmas.List.Sorted.{All-permutation}
use Rattle.std.proofs.lemmas.List.Elements.{All-weaker}
use Rattle.sb_regex.specs.Numbered.{regex_at}
use Rattle.sb_regex.proofs.CallerLemmas.{number_kept, at_kept, extends_more}
use Rattle.sb_rulebook.specs.Expansions as rules
use Rattle.sb_rules.specs.Pieces.{Piece, ArePieces, LeadRight, ranged_at, pieces_in, covers_from}
use Rattle.sb_rules.proofs.Counts.{IsWithin}
use Rattle.sb_rules.proofs.Gathered.{all-within, are-within, all-known}
use Rattle.sb_rules.proofs.Deciding.{branches-are, not-canonical, not-covered, all-judged}
use Rattle.sb_plain.specs.CutPoints.{AreCutPoints}
use Rattle.sb_rules.proofs.branches.is_expansion.Goals as goal

pub returns-in_default-clause-ok : goal.returns-in_default-clause-ok
returns-in_default-clause-ok c =
    let old = c.args.arena.now in
    let r = regex_at c.args.arena.now c.args.regex in
    let all = ranged_at c.args.classes.now c.args.targets.now in
    let found = subst (λ o. ArePieces all o) c.in_default.is c.in_ok-pieces.ensures in
    sym
    (ap (λ bs. rules.is_expansion r bs) (branches-are old c.args.classes.now c.args.targets.now)
    ∙ not-canonical old r all [] c.test_decides_expansion.ensures found)

pub returns-then-not-covers-clause-ok : goal.returns-then-not-covers-clause-ok
returns-then-not-covers-clause-ok c =
    let old = c.args.arena.now in
    let r = regex_at c.args.arena.now c.args.regex in
    let all = ranged_at c.args.classes.now c.args.targets.now in
    let ps = c.in-Some.pieces.items in
    let found = subst (λ o. ArePieces all o) c.in-Some.is c.in_ok-pieces.ensures in
    sym
    (ap (λ bs. rules.is_expansion r bs) (branches-are old c.args.classes.now c.args.targets.now)
    ∙ not-covered old r all ps c.test_decides_expansion.ensures found.0 found.1 found.2
    (are-within ps (All-permutation IsWithin (pieces_in all) ps found.1 (all-within all found.0)))
    (ap (λ ps. covers_from 0 ps) (sym c.deref.ensures.value) ∙ sym c.if-not-covers.ensures))

pub lead_right-requires-clause-targets : goal.lead_right-requires-clause-targets
lead_right-requires-clause-targets c =
    let old = c.args.arena.now in
    let all = ranged_at c.args.classes.now c.args.targets.now in
    let ps = c.in-Some.pieces.items in
    let found = subst (λ o. ArePieces all o) c.in-Some.is c.in_ok-pieces.ensures in
    let known = All-permutation (λ (p : Piece). p.1.1 < length old) (pieces_in all) ps found.1
    (all-known (length old) c.args.classes.now c.args.targets.now c.requires.targets) in
    subst (λ ps. All (λ (p : Piece). p.1.1 < length c.cut_points.new.arena) ps) (sym c.deref-2.ensures.value)
    (All-weaker (λ (p : Piece). p.1.1 < length old) (λ (p : Piece). p.1.1 < length c.cut_points.new.arena)
    (λ p h. number_kept old c.cut_points.new.arena p.1.1 c.cut_points.ensures.extends h) ps known)

pub returns-clause-ok : goal.returns-clause-ok
returns-clause-ok c =
    let old = c.args.arena.now in
    let new = c.cut_points.new.arena in
    let r = regex_at c.args.arena.now c.args.regex in
    let all = ranged_at c.args.classes.now c.args.targets.now in
    let ps = c.in-Some.pieces.items in
    let found = subst (λ o. ArePieces all o) c.in-Some.is c.in_ok-pieces.ensures in
    let known = All-permutation (λ (p : Piece). p.1.1 < length old) (pieces_in all) ps found.1
    (all-known (length old) c.args.classes.now c.args.targets.now c.requires.targets) in
    let ok = subst (λ ps. IfOk c.lead_right.result (λ b. LeadRight new (regex_at new c.args.regex) ps b))
    c.deref-2.ensures.value c.lead_right.ensures.ok in
    subst (λ bs. IfOk c.lead_right.result (λ b. b ≡ rules.is_expansion r bs))
    (sym (branches-are old c.args.classes.now c.args.targets.now))
    (all-judged old new c.args.regex c.cut_points.ensures.extends c.requires.known all ps
    c.test_decides_expansion.ensures found.0 found.1
    (ap (λ ps. covers_from 0 ps) (sym c.deref.ensures.value) ∙ sym c.if-not-covers.ensures) known
    c.lead_right.result ok)

pub lead_right-requires-clause-known : goal.lead_right-requires-clause-known
lead_right-requires-clause-known c =
    number_kept c.args.arena.now c.cut_points.new.arena c.args.regex c.cut_points.ensures.extends c.requires.known

pub lead_right-requires-clause-points : goal.lead_right-requires-clause-points
lead_right-requires-clause-points c =
    let new = c.cut_points.new.arena in
    subst (AreCutPoints (regex_at new c.args.regex)) (sym c.deref-3.ensures.value)
    (subst (λ r. AreCutPoints r c.in_ok-points.points.items)
    (sym (at_kept c.args.arena.now new c.args.regex c.cut_points.ensures.extends c.requires.known))
    c.in_ok-points.ensures.ok)

pub returns-clause-extends : goal.returns-clause-extends
returns-clause-extends c =
    extends_more c.args.arena.now c.cut_points.new.arena c.lead_right.new.arena c.cut_points.ensures.extends
    c.lead_right.ensures.extends
