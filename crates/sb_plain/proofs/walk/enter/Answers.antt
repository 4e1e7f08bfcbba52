use Rattle.std.proofs.lemmas.Result.{on_ok_weaker}
use Rattle.sb_regex.proofs.CallerLemmas.{names_below}
use Rattle.sb_plain.proofs.Along.{code_below}
use Rattle.sb_plain.proofs.Turns.{entered_by}
use Rattle.sb_plain.proofs.walk.enter.Goals as goal

pub plain_derivative-requires-clause-character : goal.plain_derivative-requires-clause-character
plain_derivative-requires-clause-character c =
    code_below c.args.codes.now c.args.state.place c.requires.word c.requires.place

pub put_members-requires : goal.put_members-requires
put_members-requires c = names_below c.plain_derivative.new.arena c.in_ok-target.target _ c.in_ok-target.ensures.ok

pub returns-clause-entered : goal.returns-clause-entered
returns-clause-entered c =
    on_ok_weaker c.put_members.result
    (λ put. entered_by c.derivative_has_rests.ensures c.args.arena.now c.plain_derivative.new.arena c.args.codes.now
    c.args.state c.in_ok-target.target c.args.states.now.items c.push.new.self.items c.put_members.new.states.items
    c.in_ok-target.ensures.extends c.requires.known c.requires.place c.in_ok-target.ensures.ok
    c.in_ok-push.ensures.items put)
    c.put_members.ensures
