use Rattle.std.proofs.Common.{◌∙◌, ap, map, refl, subst, sym}
use Rattle.std.proofs.lemmas.Result.{IfOk-from_err}
use Rattle.std.proofs.lemmas.Bool.{true≢false, false≢true}
use Rattle.sb_plain.proofs.Waiting.{any_after, wanted_after}
use Rattle.sb_plain.proofs.Remembering.{below_more, found_still, targets_still}
use Rattle.sb_plain.specs.Making.{target_at, IsShape}
use Rattle.sb_regex.proofs.CallerLemmas.{extends_same}
use Rattle.sb_plain.proofs.learnt.Learnt.advance.Goals as goal

pub returns-then-branch : goal.returns-then-branch
returns-then-branch c =
    record {
      extends = extends_same c.args.arena.now;
      right = c.requires.right;
      long = refl;
      elsewhere = λ n a. refl;
      added = λ t. absurd (false≢true t);
      same = λ t. refl;
      waits = λ t.
          any_after c.args.id c.want.new.waiting.keys c.insert.new.self.keys c.in_ok-insert.ensures.keys
          (c.in_ok-want.ensures.waits c.if-branch.true c.args.id (rw (c.deref.ensures.value)
          c.in_ok-shape.ensures.below));
      wanted = λ f e n l h.
          wanted_after c.args.self.now c.args.c n c.args.id c.want.new.waiting.keys c.insert.new.self.keys
          c.in_ok-insert.ensures.keys l e
          (c.in_ok-want.ensures.added n (rw (c.deref.ensures.value) (below_more c.args.id n
          c.in_ok-shape.shape.parts.items l
          c.in_ok-shape.ensures.below)) h);
    }

pub learn_derivative-requires-clause-parts : goal.learn_derivative-requires-clause-parts
learn_derivative-requires-clause-parts c =
    found_still c.args.self.now c.learn_points.new.self c.args.c c.in_ok-shape.shape.parts.items
    c.in_ok-learn_points.ensures.kept (rw (← c.deref.ensures.value) (c.in_ok-want.ensures.none c.if-branch.false))

pub learn_derivative-requires-clause-targets : goal.learn_derivative-requires-clause-targets
learn_derivative-requires-clause-targets c =
    c.deref-3.ensures.value ∙ c.in_ok-want.ensures.targets c.if-branch.false
    ∙ ap (map (target_at c.args.self.now c.args.c)) c.deref.ensures.value
    ∙ targets_still c.args.self.now c.learn_points.new.self c.args.c c.in_ok-shape.shape.parts.items
    c.in_ok-learn_points.ensures.kept (rw (← c.deref.ensures.value) (c.in_ok-want.ensures.none c.if-branch.false))

pub returns-in_err-learn_derivative : goal.returns-in_err-learn_derivative
returns-in_err-learn_derivative c =
    let x = c.from_residual-in_err-learn_derivative in
    let p = c.in_ok-learn_points.ensures in
    let d = c.learn_derivative.ensures in
    record {
      extends = d.extends;
      right = d.right;
      long = d.long ∙ p.long;
      elsewhere = λ n a.
          c.in_err-learn_derivative.ensures.elsewhere n a ∙ c.in_ok-learn_points.ensures.elsewhere n c.args.c a;
      added = IfOk-from_err x.result _ x.ensures.0;
      same = IfOk-from_err x.result _ x.ensures.0;
      waits = IfOk-from_err x.result _ x.ensures.0;
      wanted = IfOk-from_err x.result _ x.ensures.0;
    }

pub returns : goal.returns
returns c =
    let p = c.in_ok-learn_points.ensures in
    let d = c.in_ok-learn_derivative.ensures in
    record {
      extends = d.extends;
      right = d.right;
      long = d.long ∙ p.long;
      elsewhere = λ n a.
          c.in_ok-learn_derivative.ensures.elsewhere n a ∙ c.in_ok-learn_points.ensures.elsewhere n c.args.c a;
      added = λ t. (d.done, c.in_ok-want.ensures.idle c.if-branch.false);
      same = λ t. absurd (true≢false t);
      waits = λ t. absurd (true≢false t);
      wanted = λ t. absurd (true≢false t);
    }

pub returns-in_err-shape : goal.returns-in_err-shape
returns-in_err-shape c =
    let x = c.from_residual in
    record {
      extends = extends_same c.args.arena.now;
      right = c.requires.right;
      long = refl;
      elsewhere = λ n a. refl;
      added = IfOk-from_err x.result _ x.ensures.0;
      same = IfOk-from_err x.result _ x.ensures.0;
      waits = IfOk-from_err x.result _ x.ensures.0;
      wanted = IfOk-from_err x.result _ x.ensures.0;
    }

pub returns-in_err-want : goal.returns-in_err-want
returns-in_err-want c =
    let x = c.from_residual-in_err-want in
    record {
      extends = extends_same c.args.arena.now;
      right = c.requires.right;
      long = refl;
      elsewhere = λ n a. refl;
      added = IfOk-from_err x.result _ x.ensures.0;
      same = IfOk-from_err x.result _ x.ensures.0;
      waits = IfOk-from_err x.result _ x.ensures.0;
      wanted = IfOk-from_err x.result _ x.ensures.0;
    }

pub returns-in_err-insert : goal.returns-in_err-insert
returns-in_err-insert c =
    let x = c.from_residual-in_err-insert in
    record {
      extends = extends_same c.args.arena.now;
      right = c.requires.right;
      long = refl;
      elsewhere = λ n a. refl;
      added = IfOk-from_err x.result _ x.ensures.0;
      same = IfOk-from_err x.result _ x.ensures.0;
      waits = IfOk-from_err x.result _ x.ensures.0;
      wanted = IfOk-from_err x.result _ x.ensures.0;
    }

pub returns-in_err-learn_points : goal.returns-in_err-learn_points
returns-in_err-learn_points c =
    let x = c.from_residual-in_err-learn_points in
    let p = c.learn_points.ensures in
    record {
      extends = extends_same c.args.arena.now;
      right = p.right;
      long = p.long;
      elsewhere = λ n a. p.elsewhere n c.args.c a;
      added = IfOk-from_err x.result _ x.ensures.0;
      same = IfOk-from_err x.result _ x.ensures.0;
      waits = IfOk-from_err x.result _ x.ensures.0;
      wanted = IfOk-from_err x.result _ x.ensures.0;
    }

pub learn_points-requires-clause-known : goal.learn_points-requires-clause-known
learn_points-requires-clause-known c = c.requires.known

pub learn_points-requires-clause-room : goal.learn_points-requires-clause-room
learn_points-requires-clause-room c = c.requires.room

pub learn_points-requires-clause-right : goal.learn_points-requires-clause-right
learn_points-requires-clause-right c = c.requires.right

pub learn_points-requires-clause-shape : goal.learn_points-requires-clause-shape
learn_points-requires-clause-shape c =
    subst (IsShape c.args.arena.now c.args.id c.in_ok-shape.shape.operation) (sym c.deref-2.ensures.value)
    c.in_ok-shape.ensures

pub learn_derivative-requires-clause-known : goal.learn_derivative-requires-clause-known
learn_derivative-requires-clause-known c = c.requires.known

pub learn_derivative-requires-clause-character : goal.learn_derivative-requires-clause-character
learn_derivative-requires-clause-character c = c.requires.character

pub learn_derivative-requires-clause-right : goal.learn_derivative-requires-clause-right
learn_derivative-requires-clause-right c = c.in_ok-learn_points.ensures.right

pub learn_derivative-requires-clause-points : goal.learn_derivative-requires-clause-points
learn_derivative-requires-clause-points c = c.in_ok-learn_points.ensures.done

pub learn_derivative-requires-clause-shape : goal.learn_derivative-requires-clause-shape
learn_derivative-requires-clause-shape c = c.in_ok-shape.ensures
