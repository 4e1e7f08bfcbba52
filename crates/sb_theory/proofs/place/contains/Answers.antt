use Rattle.sb_theory.proofs.Words.{◌∙◌, ap, sym, IfOk-weaker, language, regex_at, regexes_same, walked}
use Rattle.sb_theory.proofs.place.contains.Goals as goal

pub returns-in-Some : goal.returns-in-Some
returns-in-Some c = record {
  ok = IfOk-weaker c.matches.result _ _
      (λ b is. is ∙ ap (language (regex_at c.args.store.now.arena c.args.regex)) c.in-Some.ensures.some)
      c.matches.ensures.ok;
  grows = walked c.regexes_grow.ensures.arena _ _ _ c.matches.ensures.extends c.matches.ensures.right;
}

pub returns-in-None : goal.returns-in-None
returns-in-None c = record {
  ok = c.nullable.ensures ∙ c.nullable_has_empty_word.ensures (regex_at c.args.store.now.arena c.args.regex)
      ∙ ap (language (regex_at c.args.store.now.arena c.args.regex)) (sym c.in-None.ensures.none);
  grows = regexes_same c.args.store.now;
}
