use Rattle.std.proofs.Common.{arith}
use Rattle.std.proofs.lemmas.Result.{IfOk-weaker, IfOk-from_err}
use Rattle.sb_regex.proofs.CallerLemmas.{number_kept, extends_more}
use Rattle.sb_plain.proofs.Failing.{learnt_changed, parts_right}
use Rattle.sb_plain.proofs.Staying.{stay_number, stay_matched, stay_ended}
use Rattle.sb_plain.proofs.plain.Plain.matches.Goals as goal

pub walk_on-requires-clause-known : goal.walk_on-requires-clause-known
walk_on-requires-clause-known c =
    stay_number c.args.arena.now c.args.r c.codes-codes.result.now c.begin-begun.result c.begin-begun.ensures.begins
    (c.begin-begun.ensures.right c.args.arena.now
    (parts_right c.args.arena.now c.self.inside.learnt c.self.inside.failed c.self.inside.walked c.args.self.now
    c.self.view_is c.requires.right).walked c.requires.known)

pub returns-in_err-stay : goal.returns-in_err-stay
returns-in_err-stay c =
    let x = c.from_residual in
    record {
      ok = IfOk-from_err x.result _ x.ensures.0;
      extends = c.in_err-stay.ensures.extends;
      right = learnt_changed c.args.arena.now c.walk_on.new.arena c.self.inside.learnt c.walk_on.new.self
          c.self.inside.failed c.self.inside.walked c.args.self.now c.self.view_is c.requires.right
          c.in_err-stay.ensures.extends c.in_err-stay.ensures.right;
    }

pub matches_from-requires-clause-known : goal.matches_from-requires-clause-known
matches_from-requires-clause-known c =
    stay_number c.walk_on.new.arena c.args.r c.codes-codes.result.now c.in_ok-stay.stay c.in_ok-stay.ensures.begins
    (c.in_ok-stay.ensures.stay c.args.r c.requires.known (c.begin-begun.ensures.right c.args.arena.now
    (parts_right c.args.arena.now c.self.inside.learnt c.self.inside.failed c.self.inside.walked c.args.self.now
    c.self.view_is c.requires.right).walked c.requires.known))

pub matches_from-requires-clause-right : goal.matches_from-requires-clause-right
matches_from-requires-clause-right c =
    learnt_changed c.args.arena.now c.walk_on.new.arena c.self.inside.learnt c.walk_on.new.self
    c.self.inside.failed c.self.inside.walked c.args.self.now c.self.view_is c.requires.right
    c.in_ok-stay.ensures.extends c.in_ok-stay.ensures.right

pub returns-then-place-codes : goal.returns-then-place-codes
returns-then-place-codes c =
    record {
      ok = IfOk-weaker c.matches_from.result _ _
          (λ b h. stay_matched c.args.arena.now c.walk_on.new.arena c.args.r c.codes-codes.result.now c.args.word.now
          c.in_ok-stay.stay b c.derivative_along_has_rests.ensures c.codes-codes.ensures.value
          c.in_ok-stay.ensures.extends
          c.requires.known c.in_ok-stay.ensures.begins
          (c.in_ok-stay.ensures.stay c.args.r c.requires.known (c.begin-begun.ensures.right c.args.arena.now
          (parts_right c.args.arena.now c.self.inside.learnt c.self.inside.failed c.self.inside.walked c.args.self.now
          c.self.view_is c.requires.right).walked c.requires.known)) h)
          c.matches_from.ensures.ok;
      extends = extends_more c.args.arena.now c.walk_on.new.arena c.matches_from.new.arena c.in_ok-stay.ensures.extends
          c.matches_from.ensures.extends;
      right = c.matches_from.ensures.right;
    }

pub nullable-requires : goal.nullable-requires
nullable-requires c =
    stay_number c.walk_on.new.arena c.args.r c.codes-codes.result.now c.in_ok-stay.stay c.in_ok-stay.ensures.begins
    (c.in_ok-stay.ensures.stay c.args.r c.requires.known (c.begin-begun.ensures.right c.args.arena.now
    (parts_right c.args.arena.now c.self.inside.learnt c.self.inside.failed c.self.inside.walked c.args.self.now
    c.self.view_is c.requires.right).walked c.requires.known))

pub returns-then-place-first : goal.returns-then-place-first
returns-then-place-first c =
    record {
      ok = stay_ended c.args.arena.now c.walk_on.new.arena c.args.r c.codes-codes.result.now c.args.word.now
          c.in_ok-stay.stay c.nullable.result c.derivative_along_has_rests.ensures c.nullable_has_empty_word.ensures
          c.codes-codes.ensures.value c.in_ok-stay.ensures.extends c.requires.known c.in_ok-stay.ensures.begins
          (omega (arith, c.if-place-codes.false))
          (c.in_ok-stay.ensures.stay c.args.r c.requires.known (c.begin-begun.ensures.right c.args.arena.now
          (parts_right c.args.arena.now c.self.inside.learnt c.self.inside.failed c.self.inside.walked c.args.self.now
          c.self.view_is c.requires.right).walked c.requires.known))
          c.nullable.ensures;
      extends = c.in_ok-stay.ensures.extends;
      right = learnt_changed c.args.arena.now c.walk_on.new.arena c.self.inside.learnt c.walk_on.new.self
          c.self.inside.failed c.self.inside.walked c.args.self.now c.self.view_is c.requires.right
          c.in_ok-stay.ensures.extends c.in_ok-stay.ensures.right;
    }

pub returns-in_err-put : goal.returns-in_err-put
returns-in_err-put c =
    let x = c.from_residual-in_err-put in
    record {
      ok = IfOk-from_err x.result _ x.ensures.0;
      extends = c.in_ok-stay.ensures.extends;
      right = let kept = learnt_changed c.args.arena.now c.walk_on.new.arena c.self.inside.learnt c.walk_on.new.self
          c.self.inside.failed c.self.inside.walked c.args.self.now c.self.view_is c.requires.right
          c.in_ok-stay.ensures.extends c.in_ok-stay.ensures.right in record {
            learnt = kept.learnt;
            failed = kept.failed;
            walked = c.in_err-put.ensures c.walk_on.new.arena kept.walked
                (number_kept c.args.arena.now c.walk_on.new.arena c.args.r c.in_ok-stay.ensures.extends c.requires.known)
                (c.in_ok-stay.ensures.stay c.args.r c.requires.known (c.begin-begun.ensures.right c.args.arena.now
                (parts_right c.args.arena.now c.self.inside.learnt c.self.inside.failed c.self.inside.walked c.args.self.now
                c.self.view_is c.requires.right).walked c.requires.known));
          };
    }

pub nullable-requires-2 : goal.nullable-requires-2
nullable-requires-2 c =
    stay_number c.walk_on.new.arena c.args.r c.codes-codes.result.now c.in_ok-stay.stay c.in_ok-stay.ensures.begins
    (c.in_ok-stay.ensures.stay c.args.r c.requires.known (c.begin-begun.ensures.right c.args.arena.now
    (parts_right c.args.arena.now c.self.inside.learnt c.self.inside.failed c.self.inside.walked c.args.self.now
    c.self.view_is c.requires.right).walked c.requires.known))

pub returns : goal.returns
returns c =
    record {
      ok = stay_ended c.args.arena.now c.walk_on.new.arena c.args.r c.codes-codes.result.now c.args.word.now
          c.in_ok-stay.stay c.nullable-2.result c.derivative_along_has_rests.ensures c.nullable_has_empty_word.ensures
          c.codes-codes.ensures.value c.in_ok-stay.ensures.extends c.requires.known c.in_ok-stay.ensures.begins
          (omega (arith, c.if-place-codes.false))
          (c.in_ok-stay.ensures.stay c.args.r c.requires.known (c.begin-begun.ensures.right c.args.arena.now
          (parts_right c.args.arena.now c.self.inside.learnt c.self.inside.failed c.self.inside.walked c.args.self.now
          c.self.view_is c.requires.right).walked c.requires.known))
          c.nullable-2.ensures;
      extends = c.in_ok-stay.ensures.extends;
      right = let kept = learnt_changed c.args.arena.now c.walk_on.new.arena c.self.inside.learnt c.walk_on.new.self
          c.self.inside.failed c.self.inside.walked c.args.self.now c.self.view_is c.requires.right
          c.in_ok-stay.ensures.extends c.in_ok-stay.ensures.right in record {
            learnt = kept.learnt;
            failed = kept.failed;
            walked = c.in_ok-put.ensures c.walk_on.new.arena kept.walked
                (number_kept c.args.arena.now c.walk_on.new.arena c.args.r c.in_ok-stay.ensures.extends c.requires.known)
                (c.in_ok-stay.ensures.stay c.args.r c.requires.known (c.begin-begun.ensures.right c.args.arena.now
                (parts_right c.args.arena.now c.self.inside.learnt c.self.inside.failed c.self.inside.walked c.args.self.now
                c.self.view_is c.requires.right).walked c.requires.known));
          };
    }

pub walk_on-requires-clause-begins : goal.walk_on-requires-clause-begins
walk_on-requires-clause-begins c = c.begin-begun.ensures.begins

pub walk_on-requires-clause-right : goal.walk_on-requires-clause-right
walk_on-requires-clause-right c =
    (parts_right c.args.arena.now c.self.inside.learnt c.self.inside.failed c.self.inside.walked c.args.self.now
    c.self.view_is c.requires.right).learnt
