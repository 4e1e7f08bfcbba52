use Rattle.sb_solve.proofs.Words.{ℕ, Bool, [], ◌∷◌, refl, sym, ap, subst, ◌∙◌, slice_get_within, AtomOver, IfOk-from_err, CountsTapeFault, List, Names, Regex, StepsOnce, counts_none, counts_on, err_from_is_err_and, in_atom, walked, word_piece}
use Rattle.sb_lang.specs.Derivative.{nd_along}
use Rattle.sb_regex.proofs.CallerLemmas.{at_kept, names_at}
use Rattle.sb_atoms.proofs.CallerLemmas.{regexes_kept}
use Rattle.sb_solve.proofs.Goings.{goes-both, two-atoms, word-settles, word-spent, word-starts}
use Rattle.sb_solve.proofs.Growing.{named_still}
use Rattle.sb_solve.proofs.settling.settle_word.Goals as goal

pub along-requires : goal.along-requires
along-requires g c = record {
  known = c.requires.regexes c.args.atom (in_atom (word_piece c.args.word.now ∷ []) c.args.regex) c.requires.names;
  word = c.requires.word;
  right = c.requires.store.plain;
}

pub ends-requires : goal.ends-requires
ends-requires g c = record {
  known = slice_get_within c.along.new.arena c.in_ok-rest.rest _ c.in_ok-rest.ensures.ok;
  regexes = regexes_kept c.args.store.now.arena c.along.new.arena c.args.evidence.now.atoms c.along.ensures.extends
      c.requires.regexes;
}

pub settle_end-requires : goal.settle_end-requires
settle_end-requires g c =
    record { names = c.in_ok-end.ensures.ends.names; regexes = c.in_ok-end.ensures.ends.regexes }

pub nullable-truth-requires : goal.nullable-truth-requires
nullable-truth-requires g c = slice_get_within c.along.new.arena c.in_ok-rest.rest _ c.in_ok-rest.ensures.ok

pub cut-requires : goal.cut-requires
cut-requires g c =
    let x = c.args.store.now in
    let y = record x { arena = c.along.new.arena; plain = c.along.new.self } in
    let e = c.args.evidence.now in
    let s = c.in_ok-settled.ensures.steps y refl in
    let alone = c.in_ok-end.ensures.ends in
    let a = in_atom (word_piece c.args.word.now ∷ []) c.args.regex in
    let b = in_atom [] c.in_ok-rest.rest in
    let k = c.settle_end.new.evidence in
    let named : Names k.atoms c.args.atom a =
    subst (λ (ts : List (AtomOver ℕ)). Names ts c.args.atom a) (sym s.same)
    (named_still e.atoms c.ends.new.self.atoms c.args.atom a alone.extends c.requires.names) in
    let there : Names k.atoms c.in_ok-end.end b =
    subst (λ (ts : List (AtomOver ℕ)). Names ts c.in_ok-end.end b) (sym s.same) alone.names in
    record {
      known = (
        slice_get_within k.atoms c.args.atom a named,
        slice_get_within k.atoms c.in_ok-end.end b there,
      );
      apart = two-atoms k.atoms c.args.atom c.in_ok-end.end c.args.word.now c.args.regex c.in_ok-rest.rest named
          there;
    }

pub returns-then-not-settled : goal.returns-then-not-settled
returns-then-not-settled g c =
    let x = c.args.store.now in
    let y = record x { arena = c.along.new.arena; plain = c.along.new.self } in
    let told = g.L.Tape.told c.args.tape.now in
    let between = g.L.Tape.told c.ends.new.tape in
    let new = g.L.Tape.told c.settle_end.new.tape in
    let grows = walked c.regexes_grow.ensures.arena x _ _ c.along.ensures.extends c.along.ensures.right in
    let s = c.in_ok-settled.ensures.steps y refl in
    let start = word-starts c.follows_by_rule.ensures c.line_stays_sound.ensures c.counted_again_stays_sound.ensures
    c.args.proves x y c.args.evidence.now c.ends.new.self c.args.budget.now told between c.in_ok-rest.rest
    c.in_ok-end.end c.requires.regexes grows c.in_ok-end.ensures.ends in
    record {
      settles = word-spent c.args.proves x y c.args.evidence.now c.settle_end.new.evidence c.args.budget.now
          c.settle_end.new.budget told new c.args.ends.now.items
          (goes-both c.args.proves x y y c.args.evidence.now c.ends.new.self c.settle_end.new.evidence
          c.args.budget.now c.args.budget.now c.settle_end.new.budget told between new start s.goes)
          (s.spent c.if-not-settled.true);
      counts = c.in_ok-settled.ensures.counts ∙ c.in_ok-end.ensures.counts;
    }

pub returns-then-not-done : goal.returns-then-not-done
returns-then-not-done g c =
    let x = c.args.store.now in
    let y = record x { arena = c.along.new.arena; plain = c.along.new.self } in
    let e = c.args.evidence.now in
    let f = c.ends.new.self in
    let k = c.settle_end.new.evidence in
    let told = g.L.Tape.told c.args.tape.now in
    let between = g.L.Tape.told c.ends.new.tape in
    let mid = g.L.Tape.told c.settle_end.new.tape in
    let new = g.L.Tape.told c.cut.new.tape in
    let grows = walked c.regexes_grow.ensures.arena x _ _ c.along.ensures.extends c.along.ensures.right in
    let s = c.in_ok-settled.ensures.steps y refl in
    let alone = c.in_ok-end.ensures.ends in
    let start = word-starts c.follows_by_rule.ensures c.line_stays_sound.ensures c.counted_again_stays_sound.ensures
    c.args.proves x y e f c.args.budget.now told between c.in_ok-rest.rest c.in_ok-end.end c.requires.regexes grows
    alone in
    let to_end = goes-both c.args.proves x y y e f k c.args.budget.now c.args.budget.now c.settle_end.new.budget told
    between mid start s.goes in
    let cut = c.in_ok-done.ensures.steps y s.goes.regexes (
      c.args.word.now,
      c.args.regex,
      c.in_ok-rest.rest,
      named_still e.atoms k.atoms c.args.atom (in_atom (word_piece c.args.word.now ∷ []) c.args.regex) to_end.atoms
          c.requires.names,
      subst (λ (ts : List (AtomOver ℕ)). Names ts c.in_ok-end.end (in_atom [] c.in_ok-rest.rest)) (sym s.same)
          alone.names,
      names_at y.arena c.in_ok-rest.rest _ c.in_ok-rest.ensures.ok
          ∙ ap (λ (r : Regex). nd_along r c.args.word.now)
          (sym (at_kept x.arena y.arena c.args.regex c.along.ensures.extends
          (c.requires.regexes c.args.atom (in_atom (word_piece c.args.word.now ∷ []) c.args.regex)
          c.requires.names))),
    ) in
    record {
      settles = word-spent c.args.proves x y e c.cut.new.evidence c.args.budget.now c.cut.new.budget told new
          c.args.ends.now.items
          (goes-both c.args.proves x y y e k c.cut.new.evidence c.args.budget.now c.settle_end.new.budget
          c.cut.new.budget told mid new to_end cut.goes)
          (cut.spent c.if-not-done.true);
      counts = c.in_ok-done.ensures.counts ∙ c.in_ok-settled.ensures.counts ∙ c.in_ok-end.ensures.counts;
    }

pub returns : goal.returns
returns g c =
    let x = c.args.store.now in
    let y = record x { arena = c.along.new.arena; plain = c.along.new.self } in
    let e = c.args.evidence.now in
    let f = c.ends.new.self in
    let k = c.settle_end.new.evidence in
    let told = g.L.Tape.told c.args.tape.now in
    let between = g.L.Tape.told c.ends.new.tape in
    let mid = g.L.Tape.told c.settle_end.new.tape in
    let new = g.L.Tape.told c.cut.new.tape in
    let grows = walked c.regexes_grow.ensures.arena x _ _ c.along.ensures.extends c.along.ensures.right in
    let s = c.in_ok-settled.ensures.steps y refl in
    let alone = c.in_ok-end.ensures.ends in
    let start = word-starts c.follows_by_rule.ensures c.line_stays_sound.ensures c.counted_again_stays_sound.ensures
    c.args.proves x y e f c.args.budget.now told between c.in_ok-rest.rest c.in_ok-end.end c.requires.regexes grows
    alone in
    let to_end = goes-both c.args.proves x y y e f k c.args.budget.now c.args.budget.now c.settle_end.new.budget told
    between mid start s.goes in
    let is_rest = names_at y.arena c.in_ok-rest.rest _ c.in_ok-rest.ensures.ok
    ∙ ap (λ (r : Regex). nd_along r c.args.word.now)
    (sym (at_kept x.arena y.arena c.args.regex c.along.ensures.extends
    (c.requires.regexes c.args.atom (in_atom (word_piece c.args.word.now ∷ []) c.args.regex) c.requires.names))) in
    let cut = c.in_ok-done.ensures.steps y s.goes.regexes (
      c.args.word.now,
      c.args.regex,
      c.in_ok-rest.rest,
      named_still e.atoms k.atoms c.args.atom (in_atom (word_piece c.args.word.now ∷ []) c.args.regex) to_end.atoms
          c.requires.names,
      subst (λ (ts : List (AtomOver ℕ)). Names ts c.in_ok-end.end (in_atom [] c.in_ok-rest.rest)) (sym s.same)
          alone.names,
      is_rest,
    ) in
    record {
      settles = word-settles c.args.proves x y e f k c.cut.new.evidence c.args.budget.now c.settle_end.new.budget
          c.cut.new.budget told between mid new c.in_ok-end.end c.in_ok-rest.rest c.args.ends.now.items
          c.put_end.new.ends.items start alone.names alone.gates
          (subst (λ (b : Bool). StepsOnce c.args.proves y f c.args.budget.now between k c.settle_end.new.budget mid b)
          c.if-not-settled.false s)
          (subst (λ (b : Bool). StepsOnce c.args.proves y k c.settle_end.new.budget mid c.cut.new.evidence
          c.cut.new.budget new b) c.if-not-done.false cut)
          c.in_ok-put_end.ensures;
      counts = c.in_ok-done.ensures.counts ∙ c.in_ok-settled.ensures.counts ∙ c.in_ok-end.ensures.counts;
    }

pub returns-in_err-rest : goal.returns-in_err-rest
returns-in_err-rest g c =
    let r = c.from_residual in
    let p = err_from_is_err_and r.result r.ensures.1 in
    record { settles = IfOk-from_err r.result _ r.ensures.0; counts = counts_none r.result p.0 _ p.1 p.2 }

pub returns-in_err-end : goal.returns-in_err-end
returns-in_err-end g c =
    let r = c.from_residual-in_err-end in
    let p = err_from_is_err_and r.result r.ensures.1 in
    record {
      settles = IfOk-from_err r.result _ r.ensures.0;
      counts = counts_on ℕ r.result p.0 _ _ _ p.1 p.2 c.in_err-end.ensures.counts;
    }

pub returns-in_err-settled : goal.returns-in_err-settled
returns-in_err-settled g c =
    let r = c.from_residual-in_err-settled in
    let p = err_from_is_err_and r.result r.ensures.1 in
    record {
      settles = IfOk-from_err r.result _ r.ensures.0;
      counts = subst (λ n. CountsTapeFault r.result n (g.L.Tape.faults c.settle_end.new.tape))
          c.in_ok-end.ensures.counts
          (counts_on Bool r.result p.0 _ _ _ p.1 p.2 c.in_err-settled.ensures.counts);
    }

pub returns-in_err-done : goal.returns-in_err-done
returns-in_err-done g c =
    let r = c.from_residual-in_err-done in
    let p = err_from_is_err_and r.result r.ensures.1 in
    record {
      settles = IfOk-from_err r.result _ r.ensures.0;
      counts = subst (λ n. CountsTapeFault r.result n (g.L.Tape.faults c.cut.new.tape))
          (c.in_ok-settled.ensures.counts ∙ c.in_ok-end.ensures.counts)
          (counts_on Bool r.result p.0 _ _ _ p.1 p.2 c.in_err-done.ensures.counts);
    }

pub returns-in_err-put_end : goal.returns-in_err-put_end
returns-in_err-put_end g c =
    let r = c.from_residual-in_err-put_end in
    let p = err_from_is_err_and r.result r.ensures.1 in
    record {
      settles = IfOk-from_err r.result _ r.ensures.0;
      counts = subst (λ n. CountsTapeFault r.result (g.L.Tape.faults c.args.tape.now) n)
          (sym (c.in_ok-done.ensures.counts ∙ c.in_ok-settled.ensures.counts ∙ c.in_ok-end.ensures.counts))
          (counts_none r.result p.0 _ p.1 p.2);
    }
