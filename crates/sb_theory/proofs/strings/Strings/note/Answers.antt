use Rattle.sb_theory.proofs.Words.{◌∙◌, refl, sym, subst, IfOk-from_err}
use Rattle.sb_theory.specs.Walks.{IsNotable, IsNoted}
use Rattle.sb_theory.proofs.Moving.{keeps_both, keeps_none}
use Rattle.sb_theory.proofs.Noting.{keeps_noted, noted_there, notes_added, notes_back, notes_none}
use Rattle.sb_theory.proofs.strings.Strings.note.Goals as goal

pub returns-in_default : goal.returns-in_default
returns-in_default c =
    let x = c.args.self.now in record {
      notes = notes_none c.requires.stands;
      noted = subst (IsNoted x) (sym c.in_default.is) tt;
      keeps = keeps_none c.requires.stands.holds;
    }

pub returns-then-contains : goal.returns-then-contains
returns-then-contains c =
    let x = c.args.self.now in record {
      notes = notes_none c.requires.stands;
      noted = subst (IsNoted x) (sym c.in-Some.is) (sym c.contains.ensures ∙ c.if-contains.true);
      keeps = keeps_none c.requires.stands.holds;
    }

pub returns-in_err-add : goal.returns-in_err-add
returns-in_err-add c =
    let r = c.from_residual in record {
      notes = IfOk-from_err r.result _ r.ensures.0;
      noted = IfOk-from_err r.result _ r.ensures.0;
      keeps = keeps_noted refl c.requires.stands.holds;
    }

pub returns-then-not-has_row : goal.returns-then-not-has_row
returns-then-not-has_row c =
    let x = c.args.self.now in
    let known = subst (IsNotable x) c.in-Some.is c.requires.known in record {
      notes = notes_added c.in-Some.literal refl c.in_ok-add.ensures known (sym c.has_row.ensures
          ∙ c.if-not-has_row.true)
          c.requires.stands;
      noted = noted_there (record x { noted = c.add.new.self }) x.noted c.args.literal c.in-Some.literal c.in-Some.is
          c.in_ok-add.ensures;
      keeps = keeps_noted refl c.requires.stands.holds;
    }

pub take_back-requires : goal.take_back-requires
take_back-requires c = c.requires.stands.holds

pub returns-in_err-add-2 : goal.returns-in_err-add-2
returns-in_err-add-2 c =
    let r = c.from_residual-in_err-add-2 in
    let back = c.take_back.ensures in record {
      notes = IfOk-from_err r.result _ r.ensures.0;
      noted = IfOk-from_err r.result _ r.ensures.0;
      keeps = keeps_both back.keeps (keeps_noted refl back.back.holds);
    }

pub returns : goal.returns
returns c =
    let x = c.args.self.now in
    let known = subst (IsNotable x) c.in-Some.is c.requires.known in
    let back = c.take_back.ensures in record {
      notes = notes_back c.in-Some.literal back.back back.keeps refl c.in_ok-add-2.ensures known
          (sym c.contains.ensures ∙ c.if-contains.false) (sym c.has_row.ensures ∙ c.if-not-has_row.false)
          c.requires.stands;
      noted = noted_there (record c.take_back.new.self { noted = c.add-2.new.self }) c.take_back.new.self.noted
          c.args.literal c.in-Some.literal c.in-Some.is c.in_ok-add-2.ensures;
      keeps = keeps_both back.keeps (keeps_noted refl back.back.holds);
    }
