use Rattle.std.proofs.Common.{arith, sym, subst}
use Rattle.sb_plain.specs.Memory.{AreWalked}
use Rattle.sb_plain.specs.Staying.{cut_to, AreAlike}
use Rattle.sb_plain.proofs.Staying.{walked_cut, walked_none, walked_whole, written_over}
use Rattle.sb_plain.proofs.walked.Walked.leave.Goals as goal

pub returns : goal.returns
returns c = λ rs codes alike walked.
    let items = c.self.inside.stays.items in
    walked_cut rs codes (c.self.inside.codes.items, c.self.inside.regexes.keys, items) c.args.count _
    (subst (λ w. AreAlike c.args.count codes w.0) (sym c.self.view_is) alike)
    (written_over (cut_to c.args.count) items c.deref_mut.result.now c.cut.new.stays _ c.self.inside.stays.len
    c.deref_mut.ensures.value c.deref_mut.ensures.len c.cut.ensures)
    (subst (AreWalked rs) (sym c.self.view_is) walked)

pub returns-then-count-len : goal.returns-then-count-len
returns-then-count-len c = λ rs codes alike walked.
    subst (λ w. AreWalked rs (codes, w.1, w.2)) c.self.view_is
    (walked_whole rs codes (c.self.inside.codes.items, c.self.inside.regexes.keys, c.self.inside.stays.items)
    c.args.count (subst (λ w. AreAlike c.args.count codes w.0) (sym c.self.view_is) alike)
    (omega (arith, c.if-count-len.true, c.len.ensures, c.self.inside.codes.ok.0))
    (subst (AreWalked rs) (sym c.self.view_is) walked))

pub returns-then-count-wanted : goal.returns-then-count-wanted
returns-then-count-wanted c = λ rs codes alike walked. walked_none rs codes _ _ c.new-then-count-wanted.ensures.empty
