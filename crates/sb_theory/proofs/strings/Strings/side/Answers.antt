use Rattle.std.proofs.Common.{ap₂}
use Rattle.sb_theory.proofs.Words.{List, [], ap, refl, ◌++◌, ◌∙◌, ◌∷◌, IfOk-from_err, Lit, row_at, wanted_on}
use Rattle.sb_theory.proofs.Moving.{keeps_grown, keeps_none, store_explored}
use Rattle.sb_theory.proofs.Walking.{about_denied}
use Rattle.sb_theory.proofs.strings.Strings.side.Goals as goal

pub returns-in_default : goal.returns-in_default
returns-in_default c = record { atom = refl; rows = refl; noted = refl; keeps = keeps_none c.requires.holds }

pub returns-in_err-row : goal.returns-in_err-row
returns-in_err-row c = record {
  atom = IfOk-from_err c.from_residual.result _ c.from_residual.ensures.0;
  rows = refl;
  noted = refl;
  keeps = keeps_none c.requires.holds;
}

pub returns-in_err-push : goal.returns-in_err-push
returns-in_err-push c = record {
  atom = IfOk-from_err c.from_residual-in_err-push.result _ c.from_residual-in_err-push.ensures.0;
  rows = refl;
  noted = refl;
  keeps = keeps_none c.requires.holds;
}

pub least_word-requires : goal.least_word-requires
least_word-requires c =
    let x = c.args.self.now in
    let h = c.requires.holds in
    let z = c.in-Some.member.serial.0 in
    record {
      about = about_denied x.atoms z c.in-Some.member.regex c.args.lead x.members.items
          (wanted_on x.noted x.taken.items)
          c.deref-2.result.now c.in-Some.ensures.some
          (c.deref-2.ensures.value ∙ c.in_ok-push.ensures.items
          ∙ ap₂ (λ (row : List Lit) (l : Lit). row ++ l ∷ [])
          (c.in_ok-row.ensures.items ∙ c.row_of.ensures
          ∙ ap (λ (rows : List (List Lit)). row_at rows z) c.deref.ensures.value) c.negated.ensures) h.rows.members;
      regexes = h.regexes;
      graph = h.store.graph;
    }

pub returns-in_err-explored : goal.returns-in_err-explored
returns-in_err-explored c = record {
  atom = IfOk-from_err c.from_residual-in_err-explored.result _ c.from_residual-in_err-explored.ensures.0;
  rows = refl;
  noted = refl;
  keeps = keeps_grown c.requires.holds
      (store_explored c.regexes_grow.ensures.arena _ _ _ c.in_err-explored.ensures.explores) refl refl;
}

pub returns-in-Alive : goal.returns-in-Alive
returns-in-Alive c = record {
  atom = refl;
  rows = refl;
  noted = refl;
  keeps = keeps_grown c.requires.holds
      (store_explored c.regexes_grow.ensures.arena _ _ _ c.in_ok-explored.ensures.explores) refl refl;
}

pub returns : goal.returns
returns c = record {
  atom = ap (λ (l : Lit). l.atom) c.negated-in-Dead.ensures;
  rows = refl;
  noted = refl;
  keeps = keeps_grown c.requires.holds
      (store_explored c.regexes_grow.ensures.arena _ _ _ c.in_ok-explored.ensures.explores) refl refl;
}
