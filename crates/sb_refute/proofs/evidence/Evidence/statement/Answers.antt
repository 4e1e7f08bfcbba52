use Rattle.sb_atoms.specs.Translated.{AreDefined}
use Rattle.sb_store.proofs.CallerLemmas.{termed}
use Rattle.sb_refute.proofs.Words.{◌≡◌, length, ℕ, Some, IfSome, List, option_map, refl, sym, ap, subst, ◌∙◌, IfOk-weaker, IfOk-from_err, err_from_is_err_and, AtomOver, atoms_in, Extends, HaveRegexesBelow, brought_translation, OnlyNumbers, only_numbers_same, counts_none, Asserted, Backing, Backs, HasGates, asserted_at, backing_of, term_at, take_known}
use Rattle.sb_refute.proofs.Backs.{backs-grown}
use Rattle.sb_refute.proofs.Holding.{stand-atoms}
use Rattle.sb_refute.proofs.Asserting.{due-stated, is-statement}
use Rattle.sb_refute.proofs.evidence.Evidence.statement.Goals as goal

pub invariant_of-self : goal.invariant_of-self
invariant_of-self g c = (
  stand-atoms (backing_of c.self.inside.parts) c.translate.new.self c.translate.ensures.extends
      c.translate.ensures.earlier (λ i a new named. (c.translate.ensures.defined i a new named).0)
      c.self.invariant.0,
  c.self.invariant.1,
)

pub invariant_of-self-2 : goal.invariant_of-self-2
invariant_of-self-2 g c = (
  stand-atoms (backing_of c.self.inside.parts) c.translate.new.self c.translate.ensures.extends
      c.translate.ensures.earlier (λ i a new named. (c.translate.ensures.defined i a new named).0)
      c.self.invariant.0,
  c.self.invariant.1,
)

pub translate-requires-clause-regexes : goal.translate-requires-clause-regexes
translate-requires-clause-regexes g c =
    subst (λ (e : Backing). HaveRegexesBelow (length c.args.store.now.arena) e.atoms) (sym c.self.view_is)
    c.requires.regexes

pub returns : goal.returns
returns g c =
    let old = c.args.self.now in
    let w = backing_of c.self.inside.parts in
    let atoms = c.translate.new.self in
    let more = c.translate.new.arena in
    let t = term_at c.args.table.now c.args.term in
    let known = c.len-known.result in
    let translated = c.in_ok-found.ensures in
    let same = c.lines.ensures.rest.1 in
    let literal = translated.ok ∙ ap (λ (ts : List (AtomOver ℕ)). brought_translation (atoms_in more ts) t)
    (sym same) in
    let r = c.lines.result in
    let ok = c.lines.ensures.ok in
    record {
      puts = IfOk-weaker r _ _
          (λ found h asked memo before b live.
          h.0.puts asked memo
          (due-stated asked w.atoms atoms known c.args.place c.args.level t live translated.defined c.len-known.ensures)
          (is-statement asked (atoms_in more atoms) c.args.place t c.in_ok-found.found c.args.level live translated.ok)
          before
          (subst (λ (ts : List (AtomOver ℕ)). Backs more memo (record w { atoms = ts }) before)
          (sym (take_known w.atoms atoms known translated.extends c.len-known.ensures))
          (subst (λ (e : Backing). Backs more memo e before) (sym c.self.view_is)
          (backs-grown c.args.store.now.arena more memo memo old before translated.arena (λ n pieces h. h)
          c.requires.regexes b)))) ok;
      asserted = IfOk-weaker r _ _ (λ found h. h.0.asserted) ok;
      literal = IfOk-weaker r _ _ (λ found h. h.0.literal_is ∙ literal) ok;
      level = IfOk-weaker r _ _ (λ found h. h.0.level_is) ok;
      none = IfOk-weaker r _ _
          (λ found h none.
          translated.none (sym h.0.literal_is ∙ ap (option_map (λ (a : Asserted). a.literal)) none)) ok;
      gates = IfOk-weaker r _ _
          (λ found h. subst (λ n. HasGates n c.lines.new.self.atoms c.lines.new.self.kept) h.1 h.0.gated) ok;
      stays = IfOk-weaker r _ _
          (λ found h own q b there.
          h.0.stays
          (subst (λ (e : Backing). IfSome (asserted_at e.asserted c.args.place)
          (λ a. (a.level ≡ c.args.level) × (Some a.literal ≡ c.in_ok-found.found))) (sym c.self.view_is)
          (subst (λ o. IfSome (asserted_at old.asserted c.args.place)
          (λ a. (a.level ≡ c.args.level) × (Some a.literal ≡ o))) (sym literal) own)) q b
          (ap (λ (e : Backing). asserted_at e.asserted q) c.self.view_is ∙ there)) ok;
      others = IfOk-weaker r _ _
          (λ found h other apart.
          h.0.others other apart ∙ ap (λ (e : Backing). asserted_at e.asserted other) c.self.view_is) ok;
      only = subst (λ (e : Backing). OnlyNumbers e.trace c.lines.new.self.trace) c.self.view_is
          c.lines.ensures.rest.0;
      extends = subst (Extends old.atoms) (sym same)
          (subst (λ (e : Backing). Extends e.atoms atoms) c.self.view_is c.translate.ensures.extends);
      defined = subst (λ (ts : List (AtomOver ℕ)). AreDefined old.atoms ts t) (sym same)
          (subst (λ (e : Backing). AreDefined e.atoms atoms t) c.self.view_is c.translate.ensures.defined);
      regexes = subst (HaveRegexesBelow (length more)) (sym same) c.translate.ensures.regexes;
      store = termed c.regexes_grow.ensures.arena _ _ _ _ _ c.translate.ensures.arena
          (λ h. (c.translate.ensures.normals, c.translate.ensures.right));
      graph = refl;
      counts = c.lines.ensures.counts;
    }

pub returns-in_err-found : goal.returns-in_err-found
returns-in_err-found g c =
    let x = c.from_residual in
    let p = err_from_is_err_and x.result x.ensures.1 in
    record {
      puts = IfOk-from_err x.result _ x.ensures.0;
      asserted = IfOk-from_err x.result _ x.ensures.0;
      literal = IfOk-from_err x.result _ x.ensures.0;
      level = IfOk-from_err x.result _ x.ensures.0;
      none = IfOk-from_err x.result _ x.ensures.0;
      gates = IfOk-from_err x.result _ x.ensures.0;
      stays = IfOk-from_err x.result _ x.ensures.0;
      others = IfOk-from_err x.result _ x.ensures.0;
      only = subst (λ (f : Backing). OnlyNumbers f.trace c.self.inside.parts.trace) c.self.view_is
          (only_numbers_same c.self.inside.parts.trace);
      extends = subst (λ (f : Backing). Extends f.atoms c.translate.new.self) c.self.view_is
          c.translate.ensures.extends;
      defined = subst (λ (f : Backing).
          AreDefined f.atoms c.translate.new.self (term_at c.args.table.now c.args.term)) c.self.view_is
          c.translate.ensures.defined;
      regexes = c.translate.ensures.regexes;
      store = termed c.regexes_grow.ensures.arena _ _ _ _ _ c.translate.ensures.arena
          (λ h. (c.translate.ensures.normals, c.translate.ensures.right));
      graph = refl;
      counts = counts_none x.result p.0 _ p.1 p.2;
    }
