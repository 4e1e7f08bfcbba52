use Rattle.std.proofs.Common.{length, refl, sym, ap, subst, ◌∙◌}
use Rattle.std.proofs.lemmas.Bool.{ltb-true}
use Rattle.sb_term.specs.Numbered.{AllNumbers}
use Rattle.sb_sorts.specs.Heads.{head_in, head_below, has_number_below}
use Rattle.sb_sorts.proofs.Applying.{constant_alone, term_alone, none_of, small_serial, read_by}
use Rattle.sb_sorts.proofs.Reading.{grows_same}
use Rattle.sb_sorts.proofs.apply.applied_to.Goals as goal

pub returns-in_ok-constant-in-Constant-clause-reads : goal.returns-in_ok-constant-in-Constant-clause-reads
returns-in_ok-constant-in-Constant-clause-reads c = (
  constant_alone _ _ _ c.args.table.now c.args.ids.items _ (ap (head_in c.args.table.now) c.in-Constant.is)
      (none_of c.args.ids.items c.if-is_empty.ensures)
      c.in_ok-constant-in-Constant.ensures.value,
  c.in_ok-constant-in-Constant.ensures.number,
)

pub returns-in_ok-constant-in-Constant-clause-grows : goal.returns-in_ok-constant-in-Constant-clause-grows
returns-in_ok-constant-in-Constant-clause-grows c =
    λ n below. c.constant.ensures.grows n
    (small_serial c.in-Constant.serial.0 n (ap (head_below n) (sym c.in-Constant.is) ∙ below))

pub returns-in_err-constant-in-Constant-clause-grows : goal.returns-in_err-constant-in-Constant-clause-grows
returns-in_err-constant-in-Constant-clause-grows c =
    λ n below. c.constant.ensures.grows n
    (small_serial c.in-Constant.serial.0 n (ap (head_below n) (sym c.in-Constant.is) ∙ below))

pub returns-in_ok-character-in-Character-clause-reads : goal.returns-in_ok-character-in-Character-clause-reads
returns-in_ok-character-in-Character-clause-reads c = (
  term_alone _ _ c.args.table.now c.args.ids.items _ (ap (head_in c.args.table.now) c.in-Character.is)
      (none_of c.args.ids.items c.if-is_empty-2.ensures)
      c.in_ok-character-in-Character.ensures.value,
  c.in_ok-character-in-Character.ensures.number,
)

pub returns-in_err-character-in-Character-clause-grows : goal.returns-in_err-character-in-Character-clause-grows
returns-in_err-character-in-Character-clause-grows c = λ n below. c.character.ensures.grows n

pub returns-in_ok-character-in-Character-clause-grows : goal.returns-in_ok-character-in-Character-clause-grows
returns-in_ok-character-in-Character-clause-grows c = λ n below. c.character.ensures.grows n

pub returns-in-Bound : goal.returns-in-Bound
returns-in-Bound c =
    let ts = c.args.table.now in record {
      reads = (
        term_alone _ _ ts c.args.ids.items _ (ap (head_in ts) c.in-Bound.is)
            (none_of c.args.ids.items c.if-is_empty-3.ensures) refl,
        ltb-true _ _ (ap (has_number_below (length ts)) (sym c.in-Bound.is) ∙ c.requires.head),
      );
      grows = λ n below. grows_same n ts;
    }

pub returns-in-Symbol-clause-grows : goal.returns-in-Symbol-clause-grows
returns-in-Symbol-clause-grows c = λ n below. c.symbol_applied.ensures.grows n

pub definition_applied-requires : goal.definition_applied-requires
definition_applied-requires c =
    let ts = c.args.table.now in record {
      body = ltb-true _ _ (ap (has_number_below (length ts)) (sym c.in-Definition.is) ∙ c.requires.head);
      numbers = subst (AllNumbers ts) (sym c.deref.ensures) c.requires.numbers;
    }

pub returns-in-Definition : goal.returns-in-Definition
returns-in-Definition c =
    let ts = c.args.table.now in
    record {
      reads = read_by c.definition_applied.new.table ts _ _ c.args.ids.items c.deref.result.now
          c.definition_applied.result (ap (head_in ts) c.in-Definition.is) c.deref.ensures
          c.definition_applied.ensures.reads;
      grows = λ n below. c.definition_applied.ensures.grows n;
    }
