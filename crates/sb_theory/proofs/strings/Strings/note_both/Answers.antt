use Rattle.sb_theory.proofs.Words.{◌||◌, ◌∙◌, ap, subst, sym, Bool, IfOk-from_err}
use Rattle.sb_theory.specs.Walks.{Notes}
use Rattle.sb_theory.proofs.Moving.{keeps_both}
use Rattle.sb_theory.proofs.Noting.{notable_kept, noted_more, notes_both}
use Rattle.sb_theory.proofs.strings.Strings.note_both.Goals as goal

pub note-requires : goal.note-requires
note-requires c = record { stands = c.requires.stands; known = c.requires.lead }

pub returns-in_err-first : goal.returns-in_err-first
returns-in_err-first c =
    let r = c.from_residual in record {
      notes = IfOk-from_err r.result _ r.ensures.0;
      lead = IfOk-from_err r.result _ r.ensures.0;
      rest = IfOk-from_err r.result _ r.ensures.0;
      keeps = c.in_err-first.ensures.keeps;
    }

pub note-requires-2 : goal.note-requires-2
note-requires-2 c =
    let first = c.in_ok-first.ensures in record {
      stands = first.notes.stands;
      known = notable_kept c.args.step.now.rest first.keeps c.requires.rest;
    }

pub returns-in_err-second : goal.returns-in_err-second
returns-in_err-second c =
    let r = c.from_residual-in_err-second in record {
      notes = IfOk-from_err r.result _ r.ensures.0;
      lead = IfOk-from_err r.result _ r.ensures.0;
      rest = IfOk-from_err r.result _ r.ensures.0;
      keeps = keeps_both c.in_ok-first.ensures.keeps c.in_err-second.ensures.keeps;
    }

pub returns-then-first : goal.returns-then-first
returns-then-first c =
    let first = c.in_ok-first.ensures in
    let second = c.in_ok-second.ensures in record {
      notes = subst (Notes c.args.self.now c.note-2.new.self c.args.trail.now.literals)
          (ap (λ (b : Bool). b || c.in_ok-second.second) c.if-first.true ∙ sym c.if-first.true)
          (notes_both first.notes second.notes);
      lead = noted_more c.args.step.now.lead second.notes first.noted;
      rest = second.noted;
      keeps = keeps_both first.keeps second.keeps;
    }

pub returns-else-first : goal.returns-else-first
returns-else-first c =
    let first = c.in_ok-first.ensures in
    let second = c.in_ok-second.ensures in record {
      notes = subst (Notes c.args.self.now c.note-2.new.self c.args.trail.now.literals)
          (ap (λ (b : Bool). b || c.in_ok-second.second) c.if-first.false) (notes_both first.notes second.notes);
      lead = noted_more c.args.step.now.lead second.notes first.noted;
      rest = second.noted;
      keeps = keeps_both first.keeps second.keeps;
    }
