use Rattle.sb_decide.proofs.Words.{sym, ap, with_word}
use Rattle.sb_decide.proofs.closing.put_word.Goals as goal

pub returns-in_default : goal.returns-in_default
returns-in_default c = sym (ap (with_word c.args.words.now c.args.place) c.in_default.is)

pub returns : goal.returns
returns c = sym (ap (with_word c.args.words.now c.args.place) c.in-Some.is)
