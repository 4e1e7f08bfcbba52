use Rattle.std.proofs.lemmas.Result.{IfOk-from_err}
use Rattle.sb_deriv.proofs.Derivatives.{map_same}
use Rattle.sb_deriv.proofs.Gathering.{choice_numbers_of, made_of_choices}
use Rattle.sb_regex.proofs.CallerLemmas.{extends_same}
use Rattle.sb_deriv.proofs.deriver.Deriver.of_all.Goals as goal

pub make_each-requires-clause-members : goal.make_each-requires-clause-members
make_each-requires-clause-members c =
    choice_numbers_of c.args.arena.now c.args.constants.now c.args.operation c.args.self.now c.args.parts.now
    c.in_ok-maps.maps.items c.in_ok-choices.choices (record {
      constants = c.requires.constants;
      faithful = c.requires.faithful;
      entries = c.in_ok-want.ensures.none c.if-branch.false;
      maps_are = c.in_ok-maps.ensures;
      values = rw (c.deref.ensures.value) at c.in_ok-choices.ensures.values;
    })

pub returns : goal.returns
returns c =
    let w = c.in_ok-want.ensures in
    record {
      found = rw (c.new.ensures) (map_same c.make_each.new.arena _ _ c.in_ok-pieces.pieces.items
          (made_of_choices c.args.arena.now c.args.constants.now c.args.operation c.args.self.now c.args.parts.now
          c.in_ok-maps.maps.items c.in_ok-choices.choices (record {
            constants = c.requires.constants;
            faithful = c.requires.faithful;
            entries = c.in_ok-want.ensures.none c.if-branch.false;
            maps_are = c.in_ok-maps.ensures;
            values = rw (c.deref.ensures.value) at c.in_ok-choices.ensures.values;
          })) c.in_ok-pieces.ensures.map);
      idle = w.idle c.if-branch.false;
      waits = tt;
      added = w.added;
      extends = c.in_ok-pieces.ensures.extends;
    }

pub returns-in_err-want : goal.returns-in_err-want
returns-in_err-want c =
    let x = c.from_residual in
    record {
      found = IfOk-from_err x.result _ x.ensures.0;
      idle = IfOk-from_err x.result _ x.ensures.0;
      waits = IfOk-from_err x.result _ x.ensures.0;
      added = IfOk-from_err x.result _ x.ensures.0;
      extends = extends_same c.args.arena.now;
    }

pub returns-then-branch : goal.returns-then-branch
returns-then-branch c =
    let w = c.in_ok-want.ensures in
    record {
      found = tt;
      idle = tt;
      waits = w.waits c.if-branch.true;
      added = w.added;
      extends = extends_same c.args.arena.now;
    }

pub returns-in_err-maps : goal.returns-in_err-maps
returns-in_err-maps c =
    let x = c.from_residual-in_err-maps in
    record {
      found = IfOk-from_err x.result _ x.ensures.0;
      idle = IfOk-from_err x.result _ x.ensures.0;
      waits = IfOk-from_err x.result _ x.ensures.0;
      added = IfOk-from_err x.result _ x.ensures.0;
      extends = extends_same c.args.arena.now;
    }

pub returns-in_err-choices : goal.returns-in_err-choices
returns-in_err-choices c =
    let x = c.from_residual-in_err-choices in
    record {
      found = IfOk-from_err x.result _ x.ensures.0;
      idle = IfOk-from_err x.result _ x.ensures.0;
      waits = IfOk-from_err x.result _ x.ensures.0;
      added = IfOk-from_err x.result _ x.ensures.0;
      extends = extends_same c.args.arena.now;
    }

pub returns-in_err-pieces : goal.returns-in_err-pieces
returns-in_err-pieces c =
    let x = c.from_residual-in_err-pieces in
    record {
      found = IfOk-from_err x.result _ x.ensures.0;
      idle = IfOk-from_err x.result _ x.ensures.0;
      waits = IfOk-from_err x.result _ x.ensures.0;
      added = IfOk-from_err x.result _ x.ensures.0;
      extends = c.in_err-pieces.ensures.extends;
    }
