use Rattle.sb_clash.proofs.Words.{◌∙◌, List, ap, subst, sym, remove, AreClashing, CanBeAsked, IfOk-from_err, Lit}
use Rattle.sb_clash.proofs.AskedFacts.{explores_none}
use Rattle.sb_clash.proofs.FewerFacts.{left_out, none_left_out, others_can}
use Rattle.sb_clash.proofs.few.leaves_out.Goals as goal

pub returns-in_err-others : goal.returns-in_err-others
returns-in_err-others c =
    let r = c.from_residual in
    record { ok = IfOk-from_err r.result _ r.ensures.0; explores = explores_none c.requires.can.graph }

pub clash-requires : goal.clash-requires
clash-requires c =
    subst (CanBeAsked c.args.arena.now c.args.graph.now c.args.atoms.now c.args.serial.0)
    (sym (c.deref-2.ensures.value ∙ c.remove.ensures.items
    ∙ ap (λ (ls : List Lit). remove ls c.args.place)
    (c.in_ok-others.ensures.items ∙ c.deref.ensures.value)))
    (others_can c.args.left.now.items c.args.place c.requires.can)

pub returns-in_err-clash : goal.returns-in_err-clash
returns-in_err-clash c =
    let r = c.from_residual-in_err-clash in
    record { ok = IfOk-from_err r.result _ r.ensures.0; explores = c.in_err-clash.ensures.explores }

pub returns-then-not-branch : goal.returns-then-not-branch
returns-then-not-branch c =
    let e = c.in_ok-clash.ensures.explores in
    record { ok = none_left_out c.args.left.now.items e c.requires.can c.requires.clash; explores = e }

pub returns : goal.returns
returns c =
    let e = c.in_ok-clash.ensures.explores in
    record {
      ok = left_out c.args.left.now.items c.remove.new.self.items c.args.place c.requires.place
          (c.remove.ensures.items ∙ ap (λ (ls : List Lit). remove ls c.args.place)
          (c.in_ok-others.ensures.items ∙ c.deref.ensures.value)) e c.requires.can
          (subst (AreClashing c.clash.new.arena c.args.atoms.now) c.deref-2.ensures.value
          (c.in_ok-clash.ensures.clash c.if-not-branch.false));
      explores = e;
    }
