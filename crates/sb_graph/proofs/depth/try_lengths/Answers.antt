use Rattle.std.proofs.Common.{subst}
use Rattle.std.proofs.lemmas.Bool.{false≢true}
use Rattle.std.proofs.lemmas.Result.{IfOk-from_err}
use Rattle.sb_lang.specs.Language.{language}
use Rattle.sb_regex.specs.Numbered.{regex_at}
use Rattle.sb_regex.proofs.CallerLemmas.{extends_more, number_kept}
use Rattle.sb_graph.specs.Lengths.{IsTried}
use Rattle.sb_graph.proofs.Looping.{search_begun, search_next, search_found}
use Rattle.sb_graph.proofs.depth.try_lengths.Goals as goal

pub loop-wanted-init : goal.loop-wanted-init
loop-wanted-init c =
    search_begun c.args.arena.now c.args.deriver.now c.args.failed.now.keys c.args.root c.args.codes.now.items
    c.requires.faithful c.requires.failed c.requires.codes

pub try_length-requires : goal.try_length-requires
try_length-requires c =
    let x = c.loop-wanted.invariant in
    record {
      known = number_kept c.args.arena.now c.loop-wanted.arena c.args.root x.extends c.requires.known;
      faithful = x.faithful;
      failed = x.failed;
    }

pub returns-in_err-try_length : goal.returns-in_err-try_length
returns-in_err-try_length c =
    let x = c.loop-wanted.invariant in
    let e = c.in_err-try_length.ensures in
    record {
      found = IfOk-from_err c.from_residual.result _ c.from_residual.ensures.0;
      extends = extends_more c.args.arena.now c.loop-wanted.arena c.try_length.new.arena x.extends e.extends;
      faithful = e.faithful;
      kept = λ m ps h. e.kept m ps (x.kept m ps h);
    }

pub returns-in-Found : goal.returns-in-Found
returns-in-Found c =
    let x = c.loop-wanted.invariant in
    let e = c.in_ok-try_length.ensures in
    record {
      found = λ t. search_found c.args.arena.now c.loop-wanted.arena c.args.deriver.now c.loop-wanted.deriver
          c.loop-wanted.failed.keys c.args.root c.loop-wanted.wanted c.loop-wanted.codes.items c.requires.known x
          c.try_length.new.codes.items
          (subst (IsTried (language (regex_at c.loop-wanted.arena c.args.root)) c.loop-wanted.wanted
          c.loop-wanted.codes.items c.try_length.new.codes.items) c.in-Found.is e.tried);
      extends = extends_more c.args.arena.now c.loop-wanted.arena c.try_length.new.arena x.extends e.extends;
      faithful = e.faithful;
      kept = λ m ps h. e.kept m ps (x.kept m ps h);
    }

pub returns-in-Stopped : goal.returns-in-Stopped
returns-in-Stopped c =
    let x = c.loop-wanted.invariant in
    let e = c.in_ok-try_length.ensures in
    record {
      found = λ t. absurd (false≢true t);
      extends = extends_more c.args.arena.now c.loop-wanted.arena c.try_length.new.arena x.extends e.extends;
      faithful = e.faithful;
      kept = λ m ps h. e.kept m ps (x.kept m ps h);
    }

pub loop-wanted-preserved : goal.loop-wanted-preserved
loop-wanted-preserved c =
    let e = c.in_ok-try_length.ensures in
    let nothing = subst (IsTried (language (regex_at c.loop-wanted.arena c.args.root)) c.loop-wanted.wanted
    c.loop-wanted.codes.items c.try_length.new.codes.items) c.in-Nothing.is e.tried in
    search_next c.args.arena.now c.loop-wanted.arena c.args.deriver.now c.loop-wanted.deriver
    c.loop-wanted.failed.keys c.args.root c.loop-wanted.wanted c.loop-wanted.codes.items c.requires.known
    c.loop-wanted.invariant c.try_length.new.arena c.try_length.new.deriver c.try_length.new.failed.keys
    c.try_length.new.codes.items e.extends e.faithful e.kept e.failed nothing.0 nothing.1

pub returns : goal.returns
returns c =
    let x = c.loop-wanted.invariant in
    record { found = λ t. absurd (false≢true t); extends = x.extends; faithful = x.faithful; kept = x.kept }
