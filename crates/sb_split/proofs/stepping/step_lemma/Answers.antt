use Rattle.std.specs.Prelude.{IsSomeAnd}
use Rattle.sb_split.specs.declared.fronts.Front.{Front}
use Rattle.sb_split.proofs.Words.{[], ◌∷◌, map, refl, subst, sym, IfOk-weaker, IsFrontOf, IsWord, IsWordStep, Names, atoms_in, constant_piece, declares_at, in_atom, nd_along, piece_in, regex_at, word_piece}
use Rattle.sb_split.proofs.AddedFacts.{adds_given, adds_none, at_declares, declare}
use Rattle.sb_split.proofs.OnlyFacts.{step_none}
use Rattle.sb_split.proofs.StepFacts.{constant_at, end_at, none_at, word_at}
use Rattle.sb_split.proofs.stepping.step_lemma.Goals as goal

pub returns-in_err-front-clause-adds : goal.returns-in_err-front-clause-adds
returns-in_err-front-clause-adds c =
    adds_none (declares_at c.args.atoms.now c.args.literal.atom) c.args.arena.now c.args.atoms.now c.requires.regexes

-- No pieces.

pub end_step-requires : goal.end_step-requires
end_step-requires c =
    let at = c.in_ok-front.ensures in
    c.requires.regexes c.args.literal.atom (in_atom [] c.in-End.regex)
    (subst (Names c.args.atoms.now c.args.literal.atom)
    (subst (λ (f : Front). IsFrontOf at.atom f) c.in-End.is at.is) at.names)

pub returns-in-End-clause-step : goal.returns-in-End-clause-step
returns-in-End-clause-step c =
    let at = c.in_ok-front.ensures in
    IfOk-weaker c.end_step.result _ _
    (λ answer. end_at c.args.arena.now c.args.atoms.now c.args.between c.args.literal c.in-End.regex answer
    (subst (Names c.args.atoms.now c.args.literal.atom)
    (subst (λ (f : Front). IsFrontOf at.atom f) c.in-End.is at.is) at.names)) c.end_step.ensures

pub returns-in-End-clause-adds : goal.returns-in-End-clause-adds
returns-in-End-clause-adds c =
    adds_none (declares_at c.args.atoms.now c.args.literal.atom) c.args.arena.now c.args.atoms.now c.requires.regexes

pub returns-in-End-clause-only : goal.returns-in-End-clause-only
returns-in-End-clause-only c =
    IfOk-weaker c.end_step.result _ _ (λ answer is. step_none c.args.atoms.now answer) c.end_step.ensures

-- A word and more pieces.

pub word_step-requires : goal.word_step-requires
word_step-requires c =
    let at = c.in_ok-front.ensures in
    let of = subst (λ (f : Front). IsFrontOf at.atom f) c.in-Word.is at.is in
    record {
      regex = c.requires.regexes c.args.literal.atom
          (in_atom (word_piece c.in-Word.word.items ∷ map piece_in c.in-Word.pieces.items) c.in-Word.regex)
          (subst (Names c.args.atoms.now c.args.literal.atom) of.is at.names);
      word = subst IsWord (sym c.deref.ensures.value) of.word;
      formed = of.formed;
      regexes = c.requires.regexes;
      right = c.requires.right;
    }

pub returns-in-Word-clause-step : goal.returns-in-Word-clause-step
returns-in-Word-clause-step c =
    let at = c.in_ok-front.ensures in
    let of = subst (λ (f : Front). IsFrontOf at.atom f) c.in-Word.is at.is in
    let ps = map piece_in c.in-Word.pieces.items in
    let names = subst (Names c.args.atoms.now c.args.literal.atom) of.is at.names in
    IfOk-weaker c.word_step.result _ _
    (λ answer are. word_at (declare ps) c.args.arena.now c.word_step.new.arena c.args.atoms.now c.word_step.new.atoms
    c.args.between c.args.literal c.in-Word.word.items ps c.in-Word.regex answer c.word_step.ensures.adds names
    (c.requires.regexes c.args.literal.atom _ names)
    (subst (λ w. IsSomeAnd answer (IsWordStep (atoms_in c.word_step.new.arena c.word_step.new.atoms) c.args.literal
    (in_atom ps (nd_along (regex_at c.args.arena.now c.in-Word.regex) w)))) c.deref.ensures.value are))
    c.word_step.ensures.step

pub returns-in-Word-clause-adds : goal.returns-in-Word-clause-adds
returns-in-Word-clause-adds c =
    let at = c.in_ok-front.ensures in
    let of = subst (λ (f : Front). IsFrontOf at.atom f) c.in-Word.is at.is in
    let ps = map piece_in c.in-Word.pieces.items in
    adds_given (declare ps) (declares_at c.args.atoms.now c.args.literal.atom) c.args.arena.now c.word_step.new.arena
    c.args.atoms.now c.word_step.new.atoms
    (at_declares c.args.atoms.now c.args.literal.atom (word_piece c.in-Word.word.items ∷ ps) c.in-Word.regex
    (subst (Names c.args.atoms.now c.args.literal.atom) of.is at.names)) c.word_step.ensures.adds

-- A constant and more pieces.

pub constant_step-requires : goal.constant_step-requires
constant_step-requires c =
    let at = c.in_ok-front.ensures in
    let of = subst (λ (f : Front). IsFrontOf at.atom f) c.in-Constant.is at.is in
    record {
      regex = c.requires.regexes c.args.literal.atom
          (in_atom (constant_piece c.in-Constant.serial ∷ map piece_in c.in-Constant.pieces.items)
          c.in-Constant.regex) (subst (Names c.args.atoms.now c.args.literal.atom) of.is at.names);
      between = c.requires.between;
      formed = of.formed;
      regexes = c.requires.regexes;
    }

pub returns-in-Constant-clause-step : goal.returns-in-Constant-clause-step
returns-in-Constant-clause-step c =
    let at = c.in_ok-front.ensures in
    let of = subst (λ (f : Front). IsFrontOf at.atom f) c.in-Constant.is at.is in
    let ps = map piece_in c.in-Constant.pieces.items in
    let names = subst (Names c.args.atoms.now c.args.literal.atom) of.is at.names in
    IfOk-weaker c.constant_step.result _ _
    (λ answer. constant_at (declare (constant_piece c.in-Constant.serial ∷ ps)) c.args.arena.now
    c.constant_step.new.arena c.args.atoms.now c.constant_step.new.atoms c.args.between c.args.literal
    c.in-Constant.serial ps of.first of.others c.in-Constant.regex answer c.constant_step.ensures.adds of.more names
    (c.requires.regexes c.args.literal.atom _ names) c.requires.between) c.constant_step.ensures.step

pub returns-in-Constant-clause-adds : goal.returns-in-Constant-clause-adds
returns-in-Constant-clause-adds c =
    let at = c.in_ok-front.ensures in
    let of = subst (λ (f : Front). IsFrontOf at.atom f) c.in-Constant.is at.is in
    let ps = map piece_in c.in-Constant.pieces.items in
    adds_given (declare (constant_piece c.in-Constant.serial ∷ ps))
    (declares_at c.args.atoms.now c.args.literal.atom)
    c.args.arena.now c.constant_step.new.arena c.args.atoms.now c.constant_step.new.atoms
    (at_declares c.args.atoms.now c.args.literal.atom (constant_piece c.in-Constant.serial ∷ ps) c.in-Constant.regex
    (subst (Names c.args.atoms.now c.args.literal.atom) of.is at.names)) c.constant_step.ensures.adds

pub returns-in-Constant-clause-right : goal.returns-in-Constant-clause-right
returns-in-Constant-clause-right c =
    c.right_stays.ensures c.args.arena.now c.constant_step.new.arena c.args.plain.now
    c.constant_step.ensures.adds.arena c.requires.right

-- Another atom.

pub returns-in-Other : goal.returns-in-Other
returns-in-Other c =
    let at = c.in_ok-front.ensures in
    record {
      step = none_at c.args.arena.now c.args.atoms.now c.args.between c.args.literal at.atom at.names
          (subst (λ (f : Front). IsFrontOf at.atom f) c.in-Other.is at.is);
      adds = adds_none (declares_at c.args.atoms.now c.args.literal.atom) c.args.arena.now c.args.atoms.now
          c.requires.regexes;
      only = refl;
      right = c.requires.right;
    }
