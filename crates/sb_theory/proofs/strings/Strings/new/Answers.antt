use Rattle.sb_theory.proofs.Words.{refl}
use Rattle.sb_theory.proofs.Beginning.{left_joined}
use Rattle.sb_theory.proofs.Standing.{stands_new}
use Rattle.sb_theory.proofs.strings.Strings.new.Goals as goal

pub returns-in-Ok : goal.returns-in-Ok
returns-in-Ok c = record {
  stands = stands_new _ c.requires.store c.requires.regexes c.requires.formed c.requires.wanted c.in-Ok.ensures.noted
      c.in-Ok.ensures.joined (λ a wanted joined. left_joined _ a c.requires.regexes wanted joined)
      c.new-in-Ok-2.ensures.items
      c.new-in-Ok-3.ensures.items c.new-in-Ok-5.ensures.items;
  store = refl;
  trace = refl;
  atoms = refl;
  proves = refl;
  wanted = refl;
}

pub returns-in-Err : goal.returns-in-Err
returns-in-Err c = record { stands = tt; store = tt; trace = tt; atoms = tt; proves = tt; wanted = tt }
