use Rattle.sb_split.proofs.Words.{ℕ, length, refl, sym, ap, subst, ◌∙◌, Memo, AtomOver, bool_atom, and_atom, iff_atom, AllKept, Asked, atom_in, HasRegexBelow, OnlyNumbers, Tracks, only_numbers_same, Called, IsLineOf}
use Rattle.sb_split.proofs.DefinedAtoms.{plain_line}
use Rattle.sb_split.proofs.Exits.{called_none}
use Rattle.sb_split.proofs.defining.line_of.Goals as goal

pub returns-in-Bool : goal.returns-in-Bool
returns-in-Bool g c = record {
  ok = λ asked memo before tracks.
      plain_line asked before c.args.arena.now memo c.args.trace.now _ _ (bool_atom c.in-Bool.serial)
      (g.L.Tape.told c.args.tape.now) (ap atom_in c.in-Bool.is) c.constant_line.ensures refl (λ known. refl) tracks;
  rest = only_numbers_same c.args.trace.now;
  counts = refl;
}

pub member_line-requires : goal.member_line-requires
member_line-requires g c = subst (HasRegexBelow (length c.args.arena.now)) (ap atom_in c.in-In.is) c.requires.regex

pub returns-in-In : goal.returns-in-In
returns-in-In g c =
    subst (λ (a : AtomOver ℕ). Called c.member_line.result
    (λ line. (asked : Asked) (memo : Memo) (before : AllKept) → Tracks c.args.arena.now memo c.args.trace.now before
    → IsLineOf asked before c.args.arena.now memo c.member_line.new.trace a (atom_in line)
    (g.L.Tape.told c.args.tape.now) (g.L.Tape.told c.member_line.new.tape))
    (OnlyNumbers c.args.trace.now c.member_line.new.trace) (g.L.Tape.faults c.args.tape.now)
    (g.L.Tape.faults c.member_line.new.tape)) (sym (ap atom_in c.in-In.is)) c.member_line.ensures

pub returns-in_ok-conjunction_line-in-And : goal.returns-in_ok-conjunction_line-in-And
returns-in_ok-conjunction_line-in-And g c = record {
  ok = λ asked memo before tracks.
      plain_line asked before c.args.arena.now memo c.args.trace.now _ _ (and_atom c.as_slice.result.now)
      (g.L.Tape.told c.args.tape.now) (ap atom_in c.in-And.is ∙ ap and_atom (sym c.as_slice.ensures))
      c.in_ok-conjunction_line-in-And.ensures refl (λ known. refl) tracks;
  rest = only_numbers_same c.args.trace.now;
  counts = refl;
}

pub returns-in-Iff : goal.returns-in-Iff
returns-in-Iff g c = record {
  ok = λ asked memo before tracks.
      plain_line asked before c.args.arena.now memo c.args.trace.now _ _ (iff_atom c.in-Iff.one c.in-Iff.other)
      (g.L.Tape.told c.args.tape.now) (ap atom_in c.in-Iff.is) c.equivalence_line.ensures refl (λ known. refl) tracks;
  rest = only_numbers_same c.args.trace.now;
  counts = refl;
}

pub returns-in_err-conjunction_line-in-And : goal.returns-in_err-conjunction_line-in-And
returns-in_err-conjunction_line-in-And g c =
    let x = c.from_residual in
    called_none _ x.result _ _ x.ensures.0 x.ensures.1 refl (only_numbers_same c.args.trace.now)
