use Rattle.std.proofs.Common.{◌∙◌, ap, drop}
use Rattle.std.proofs.lemmas.Result.{IfOk-from_err}
use Rattle.sb_lang.specs.Language.{language}
use Rattle.sb_regex.proofs.CallerLemmas.{at_kept, extends_more, names_below, extends_same, number_kept}
use Rattle.sb_plain.proofs.Along.{matched, slice_is, word_slice}
use Rattle.sb_plain.proofs.Failing.{failed_kept, parts_right}
use Rattle.sb_plain.proofs.Staying.{walked_kept}
use Rattle.sb_plain.proofs.plain.Plain.matches_from.Goals as goal

pub returns-in_err-turn_to : goal.returns-in_err-turn_to
returns-in_err-turn_to c =
    let x = c.from_residual in
    record {
      ok = IfOk-from_err x.result _ x.ensures.0;
      extends = extends_same c.args.arena.now;
      right = let parts = parts_right c.args.arena.now c.self.inside.learnt c.self.inside.failed c.self.inside.walked
          c.args.self.now c.self.view_is c.requires.right in record {
            learnt = parts.learnt;
            failed = c.in_err-turn_to.ensures.right c.args.arena.now parts.failed;
            walked = parts.walked;
          };
    }

pub search-requires : goal.search-requires
search-requires c =
    record {
      known = c.requires.known;
      word = c.requires.word;
      place = c.requires.place;
      same = c.in_ok-turn_to.ensures.word;
      right = (parts_right c.args.arena.now c.self.inside.learnt c.self.inside.failed c.self.inside.walked
          c.args.self.now c.self.view_is c.requires.right).learnt;
      failed = let parts = parts_right c.args.arena.now c.self.inside.learnt c.self.inside.failed c.self.inside.walked
          c.args.self.now c.self.view_is c.requires.right in
          c.in_ok-turn_to.ensures.right c.args.arena.now parts.failed;
    }

pub returns-in_err-found : goal.returns-in_err-found
returns-in_err-found c =
    let x = c.from_residual-in_err-found in
    record {
      ok = IfOk-from_err x.result _ x.ensures.0;
      extends = c.in_err-found.ensures.extends;
      right = record {
        learnt = c.in_err-found.ensures.right;
        failed = c.in_err-found.ensures.failed;
        walked = walked_kept c.args.arena.now c.search.new.arena c.self.inside.walked c.in_err-found.ensures.extends
            (parts_right c.args.arena.now c.self.inside.learnt c.self.inside.failed c.self.inside.walked c.args.self.now
            c.self.view_is c.requires.right).walked;
      };
    }

pub returns-in-Some-clause-right : goal.returns-in-Some-clause-right
returns-in-Some-clause-right c = record {
  learnt = c.in_ok-found.ensures.right;
  failed = c.in_ok-found.ensures.failed;
  walked = walked_kept c.args.arena.now c.search.new.arena c.self.inside.walked c.in_ok-found.ensures.extends
      (parts_right c.args.arena.now c.self.inside.learnt c.self.inside.failed c.self.inside.walked c.args.self.now
      c.self.view_is c.requires.right).walked;
}

pub along-requires : goal.along-requires
along-requires c =
    record {
      known = number_kept c.args.arena.now c.search.new.arena c.args.r c.in_ok-found.ensures.extends c.requires.known;
      word = word_slice c.args.codes.now c.args.place c.requires.word;
      right = c.in_ok-found.ensures.right;
    }

pub returns-in_err-rest : goal.returns-in_err-rest
returns-in_err-rest c =
    let x = c.from_residual-in_err-rest in
    record {
      ok = IfOk-from_err x.result _ x.ensures.0;
      extends = extends_more c.args.arena.now c.search.new.arena c.along.new.arena c.in_ok-found.ensures.extends
          c.in_err-rest.ensures.extends;
      right = record {
        learnt = c.in_err-rest.ensures.right;
        failed = failed_kept c.search.new.arena c.along.new.arena c.search.new.failed c.in_err-rest.ensures.extends
            c.in_ok-found.ensures.failed;
        walked = walked_kept c.args.arena.now c.along.new.arena c.self.inside.walked
            (extends_more c.args.arena.now c.search.new.arena c.along.new.arena c.in_ok-found.ensures.extends
            c.in_err-rest.ensures.extends)
            (parts_right c.args.arena.now c.self.inside.learnt c.self.inside.failed c.self.inside.walked c.args.self.now
            c.self.view_is c.requires.right).walked;
      };
    }

pub nullable-requires : goal.nullable-requires
nullable-requires c = names_below c.along.new.arena c.in_ok-rest.rest _ c.in_ok-rest.ensures.ok

pub returns : goal.returns
returns c =
    record {
      ok = matched c.along.new.arena _ _ (drop c.args.place c.args.codes.now) c.in_ok-rest.rest c.nullable.result
          c.derivative_along_has_rests.ensures c.nullable_has_empty_word.ensures
          (slice_is c.args.codes.now c.args.place) c.in_ok-rest.ensures.ok c.nullable.ensures
          ∙ ap (λ r. language r (drop c.args.place c.args.codes.now))
          (at_kept c.args.arena.now c.search.new.arena c.args.r c.in_ok-found.ensures.extends c.requires.known);
      extends = extends_more c.args.arena.now c.search.new.arena c.along.new.arena c.in_ok-found.ensures.extends
          c.in_ok-rest.ensures.extends;
      right = record {
        learnt = c.in_ok-rest.ensures.right;
        failed = failed_kept c.search.new.arena c.along.new.arena c.search.new.failed c.in_ok-rest.ensures.extends
            c.in_ok-found.ensures.failed;
        walked = walked_kept c.args.arena.now c.along.new.arena c.self.inside.walked
            (extends_more c.args.arena.now c.search.new.arena c.along.new.arena c.in_ok-found.ensures.extends
            c.in_ok-rest.ensures.extends)
            (parts_right c.args.arena.now c.self.inside.learnt c.self.inside.failed c.self.inside.walked c.args.self.now
            c.self.view_is c.requires.right).walked;
      };
    }

pub returns-in-Some-clause-extends : goal.returns-in-Some-clause-extends
returns-in-Some-clause-extends c = c.in_ok-found.ensures.extends
