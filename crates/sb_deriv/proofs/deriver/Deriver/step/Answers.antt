use Rattle.std.proofs.Common.{arith, refl, length}
use Rattle.std.proofs.lemmas.Result.{IfOk-weaker, IfOk-from_err}
use Rattle.sb_deriv.proofs.Heads.{none_weaker, below_more, found_idle, found_waits}
use Rattle.sb_regex.proofs.CallerLemmas.{extends_same}
use Rattle.sb_deriv.proofs.deriver.Deriver.step.Goals as goal

pub returns-in-Cat-clause-waits : goal.returns-in-Cat-clause-waits
returns-in-Cat-clause-waits c =
    let s = rw (c.in-Cat.is) at c.in_ok-shape_of.ensures in
    IfOk-weaker c.of_cat.result _ _ (λ f h. none_weaker f _ _ (λ w. w c.args.id s.0 s.1) h) c.of_cat.ensures.waits

pub returns-in-Cat-clause-added : goal.returns-in-Cat-clause-added
returns-in-Cat-clause-added c =
    let s = rw (c.in-Cat.is) at c.in_ok-shape_of.ensures in
    IfOk-weaker c.of_cat.result _ _ (λ f h n l. h n (omega (arith, s.0, l)) (omega (arith, s.1, l)))
    c.of_cat.ensures.added

pub returns-in-Made-clause-waits : goal.returns-in-Made-clause-waits
returns-in-Made-clause-waits c =
    let s = rw (c.in-Made.is) at c.in_ok-shape_of.ensures in
    IfOk-weaker c.of_all.result _ _ (λ f h. none_weaker f _ _ (λ w. w c.args.id s.below) h)
    (rw (c.as_slice.ensures) at c.of_all.ensures.waits)

pub returns-in-Made-clause-added : goal.returns-in-Made-clause-added
returns-in-Made-clause-added c =
    let s = rw (c.in-Made.is) at c.in_ok-shape_of.ensures in
    IfOk-weaker c.of_all.result _ _ (λ f h n l. h n (below_more c.args.id n c.in-Made.parts.items l s.below))
    (rw (c.as_slice.ensures) at c.of_all.ensures.added)

pub returns-in-Rep-clause-waits : goal.returns-in-Rep-clause-waits
returns-in-Rep-clause-waits c =
    let s = rw (c.in-Rep.is) at c.in_ok-shape_of.ensures in
    IfOk-weaker c.of_rep.result _ _ (λ f h. none_weaker f _ _ (λ w. w c.args.id s.0) h) c.of_rep.ensures.waits

pub returns-in-Rep-clause-added : goal.returns-in-Rep-clause-added
returns-in-Rep-clause-added c =
    let s = rw (c.in-Rep.is) at c.in_ok-shape_of.ensures in
    IfOk-weaker c.of_rep.result _ _ (λ f h n l. h n (omega (arith, s.0, l))) c.of_rep.ensures.added

pub returns-in-Set-clause-idle : goal.returns-in-Set-clause-idle
returns-in-Set-clause-idle c =
    IfOk-weaker c.of_set.result _ _ (λ f h. found_idle f _ _ refl h) c.of_set.ensures.found

pub returns-in-Set-clause-waits : goal.returns-in-Set-clause-waits
returns-in-Set-clause-waits c =
    IfOk-weaker c.of_set.result _ _ (λ f h. found_waits f _ _ h) c.of_set.ensures.found

pub returns-in-Set-clause-added : goal.returns-in-Set-clause-added
returns-in-Set-clause-added c =
    IfOk-weaker c.of_set.result _ _ (λ f h n l w. w) c.of_set.ensures.found

pub returns-in-Set-clause-extends : goal.returns-in-Set-clause-extends
returns-in-Set-clause-extends c = extends_same c.args.arena.now

pub returns-in-Nowhere-clause-idle : goal.returns-in-Nowhere-clause-idle
returns-in-Nowhere-clause-idle c =
    IfOk-weaker c.nowhere.result _ _ (λ f h. found_idle f _ _ refl h) c.nowhere.ensures.found

pub returns-in-Nowhere-clause-waits : goal.returns-in-Nowhere-clause-waits
returns-in-Nowhere-clause-waits c =
    IfOk-weaker c.nowhere.result _ _ (λ f h. found_waits f _ _ h) c.nowhere.ensures.found

pub returns-in-Nowhere-clause-added : goal.returns-in-Nowhere-clause-added
returns-in-Nowhere-clause-added c =
    IfOk-weaker c.nowhere.result _ _ (λ f h n l w. w) c.nowhere.ensures.found

pub returns-in-Nowhere-clause-extends : goal.returns-in-Nowhere-clause-extends
returns-in-Nowhere-clause-extends c = extends_same c.args.arena.now

pub returns-in-Made-clause-idle : goal.returns-in-Made-clause-idle
returns-in-Made-clause-idle c = c.of_all.ensures.idle

pub returns-in-Made-clause-extends : goal.returns-in-Made-clause-extends
returns-in-Made-clause-extends c = c.of_all.ensures.extends

pub returns-in-Rep-clause-idle : goal.returns-in-Rep-clause-idle
returns-in-Rep-clause-idle c = c.of_rep.ensures.idle

pub returns-in-Rep-clause-extends : goal.returns-in-Rep-clause-extends
returns-in-Rep-clause-extends c = c.of_rep.ensures.extends

pub returns-in-Cat-clause-idle : goal.returns-in-Cat-clause-idle
returns-in-Cat-clause-idle c = c.of_cat.ensures.idle

pub returns-in-Cat-clause-extends : goal.returns-in-Cat-clause-extends
returns-in-Cat-clause-extends c = c.of_cat.ensures.extends

pub of_cat-requires : goal.of_cat-requires
of_cat-requires c =
    let s = rw (c.in-Cat.is) at c.in_ok-shape_of.ensures in
    record {
      constants = c.requires.constants;
      left = omega (arith, s.0, c.requires.known);
      right = omega (arith, s.1, c.requires.known);
      faithful = c.requires.faithful;
    }

pub of_rep-requires : goal.of_rep-requires
of_rep-requires c =
    let s = rw (c.in-Rep.is) at c.in_ok-shape_of.ensures in
    record {
      constants = c.requires.constants;
      body = omega (arith, s.0, c.requires.known);
      some = s.1;
      faithful = c.requires.faithful;
    }

pub of_all-requires-clause-hint : goal.of_all-requires-clause-hint
of_all-requires-clause-hint c = c.requires.known

pub of_all-requires-clause-constants : goal.of_all-requires-clause-constants
of_all-requires-clause-constants c = c.requires.constants

pub of_all-requires-clause-faithful : goal.of_all-requires-clause-faithful
of_all-requires-clause-faithful c = c.requires.faithful

pub of_all-requires-clause-numbers : goal.of_all-requires-clause-numbers
of_all-requires-clause-numbers c =
    let s = rw (c.in-Made.is) at c.in_ok-shape_of.ensures in
    rw (c.as_slice.ensures)
    (below_more c.args.id (length c.args.arena.now) c.in-Made.parts.items (omega (arith, c.requires.known)) s.below)

pub returns-in_err-shape_of : goal.returns-in_err-shape_of
returns-in_err-shape_of c =
    let x = c.from_residual in
    record {
      found = IfOk-from_err x.result _ x.ensures.0;
      idle = IfOk-from_err x.result _ x.ensures.0;
      waits = IfOk-from_err x.result _ x.ensures.0;
      added = IfOk-from_err x.result _ x.ensures.0;
      extends = extends_same c.args.arena.now;
    }
