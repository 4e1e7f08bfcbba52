use Rattle.sb_clash.proofs.Words.{◌<◌, length, subst, sym, IfOk-weaker, extends_same}
use Rattle.sb_clash.proofs.AskedFacts.{asked_negative, asked_positive, regex_below}
use Rattle.sb_clash.proofs.asking.asked_by.Goals as goal

pub not-requires : goal.not-requires
not-requires c =
    subst (λ k. k < length c.args.arena.now) (sym c.regex_of-regex.ensures)
    (regex_below (length c.args.arena.now) c.args.atoms.now c.args.serial.0 c.args.literal c.requires.regexes
    c.requires.about)

pub returns-then-literal : goal.returns-then-literal
returns-then-literal c = record {
  ok = asked_positive c.args.arena.now c.args.atoms.now c.args.serial.0 c.regex_of-regex.result c.args.literal
      c.if-literal.true c.regex_of-regex.ensures c.requires.regexes c.requires.about;
  extends = extends_same c.args.arena.now;
}

pub returns-else-literal : goal.returns-else-literal
returns-else-literal c = record {
  ok = IfOk-weaker c.not.result _ _
      (λ id names. asked_negative c.args.arena.now c.not.new.self c.args.atoms.now c.args.serial.0
      c.regex_of-regex.result id c.args.literal c.if-literal.false c.regex_of-regex.ensures c.requires.regexes
      c.requires.about c.not.ensures.extends names) c.not.ensures.ok;
  extends = c.not.ensures.extends;
}
