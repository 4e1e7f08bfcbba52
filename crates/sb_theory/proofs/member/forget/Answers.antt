use Rattle.sb_theory.proofs.Words.{[], ◌∷◌, wanted_of}
use Rattle.sb_theory.proofs.Rows.{members_dropped, members_left}
use Rattle.sb_theory.proofs.member.forget.Goals as goal

pub returns-in_default : goal.returns-in_default
returns-in_default c = λ ls h.
    members_left c.args.atoms.now c.args.rows.now.items ls (wanted_of c.args.wanted.now (c.args.literal ∷ []))
    c.in_default.ensures.none h

pub returns : goal.returns
returns c = λ ls h.
    members_dropped c.args.atoms.now c.args.wanted.now c.args.rows.now.items c.drop_member.new.rows.items ls
    c.args.literal c.in-Some.member.serial.0 c.in-Some.ensures.some c.in-Some.ensures.wanted c.drop_member.ensures h
