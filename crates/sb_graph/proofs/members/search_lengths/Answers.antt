use Rattle.std.proofs.Common.{IfSome, sym, subst, ◌∙◌}
use Rattle.std.proofs.lemmas.Result.{IfOk-from_err}
use Rattle.sb_word.specs.Words.{IsWord}
use Rattle.sb_lang.specs.Language.{language}
use Rattle.sb_lang.specs.Least.{IsShortestLeast}
use Rattle.sb_regex.specs.Numbered.{regex_at}
use Rattle.sb_graph.proofs.Walking.{many_kept}
use Rattle.sb_graph.proofs.members.search_lengths.Goals as goal

pub find_by_length-requires : goal.find_by_length-requires
find_by_length-requires c = record { known = c.requires.known; faithful = c.requires.faithful }

pub returns-in_err-codes : goal.returns-in_err-codes
returns-in_err-codes c =
    let x = c.from_residual in
    let e = c.find_by_length.ensures in
    record {
      found = IfOk-from_err x.result _ x.ensures.0;
      bound = IfOk-from_err x.result _ x.ensures.0;
      extends = e.extends;
      faithful = e.faithful;
      kept = e.kept;
    }

pub word_from-requires : goal.word_from-requires
word_from-requires c =
    let L = language (regex_at c.args.arena.now c.args.root) in
    let least = subst (λ found. IfSome found (λ codes. IsShortestLeast L codes.items)) c.in-Some.is
    c.in_ok-codes.ensures.found in
    subst IsWord (sym c.deref.ensures.value) least.word

pub returns-in_err-word-in-Some : goal.returns-in_err-word-in-Some
returns-in_err-word-in-Some c =
    let x = c.from_residual-in_err-word-in-Some in
    let e = c.find_by_length.ensures in
    record {
      found = IfOk-from_err x.result _ x.ensures.0;
      bound = IfOk-from_err x.result _ x.ensures.0;
      extends = e.extends;
      faithful = e.faithful;
      kept = e.kept;
    }

pub returns-in_ok-word-in-Some : goal.returns-in_ok-word-in-Some
returns-in_ok-word-in-Some c =
    let L = language (regex_at c.args.arena.now c.args.root) in
    let e = c.find_by_length.ensures in
    let least = subst (λ found. IfSome found (λ codes. IsShortestLeast L codes.items)) c.in-Some.is
    c.in_ok-codes.ensures.found in
    record {
      found = subst (IsShortestLeast L) (sym (c.in_ok-word-in-Some.ensures ∙ c.deref.ensures.value)) least;
      bound = tt;
      extends = e.extends;
      faithful = e.faithful;
      kept = e.kept;
    }

pub returns-in-None : goal.returns-in-None
returns-in-None c =
    let e = c.find_by_length.ensures in
    record {
      found = tt;
      bound = many_kept c.args.arena.now c.find_by_length.new.arena (language (regex_at c.args.arena.now c.args.root))
          c.args.bound e.extends c.requires.many;
      extends = e.extends;
      faithful = e.faithful;
      kept = e.kept;
    }
