use Rattle.sb_solve.proofs.Words.{ℕ, List, refl, subst, sym, ◌∙◌, IfOk-weaker, Names, Piece, in_atom}
use Rattle.sb_refute.specs.Settling.{pieces_of_word}
use Rattle.sb_solve.proofs.Goings.{end-settles, no-word, some-word}
use Rattle.sb_solve.proofs.settling.settle_bare.Goals as goal

pub settle_end-requires : goal.settle_end-requires
settle_end-requires g c = record {
  names = subst (λ (w : List ℕ). Names c.args.evidence.now.atoms c.args.atom
      (in_atom (pieces_of_word w) c.args.regex))
      (no-word c.args.word.now (sym c.is_empty.ensures ∙ c.if-is_empty.true)) c.requires.names;
  regexes = c.requires.regexes;
}

pub returns-then-is_empty : goal.returns-then-is_empty
returns-then-is_empty g c = record {
  settles = IfOk-weaker c.settle_end.result _ _
      (λ done h.
      end-settles c.args.proves c.args.store.now c.args.evidence.now c.settle_end.new.evidence c.args.budget.now
      c.settle_end.new.budget (g.L.Tape.told c.args.tape.now) (g.L.Tape.told c.settle_end.new.tape)
      c.args.ends.now.items done (h c.args.store.now refl))
      c.settle_end.ensures.steps;
  counts = c.settle_end.ensures.counts;
}

pub settle_word-requires : goal.settle_word-requires
settle_word-requires g c = record {
  names = subst (λ (ps : List Piece). Names c.args.evidence.now.atoms c.args.atom (in_atom ps c.args.regex))
      (some-word c.args.word.now (sym c.is_empty.ensures ∙ c.if-is_empty.false)) c.requires.names;
  word = c.requires.word;
  store = c.requires.store;
  regexes = c.requires.regexes;
}

pub returns : goal.returns
returns g c = record { settles = c.settle_word.ensures.settles; counts = c.settle_word.ensures.counts }
