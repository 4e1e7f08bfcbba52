use Rattle.sb_theory.proofs.Words.{◌∙◌, List, ap, refl, subst, sym, take, AreClashing, AreFewer, IfOk-from_err, IfOk-weaker, Lit, row_at, wanted_on}
use Rattle.sb_theory.proofs.Denied.{fewer_front, fewer_same}
use Rattle.sb_theory.proofs.Moving.{holds_kept, looks_both, looks_grown, looks_none, store_explored}
use Rattle.sb_theory.proofs.Rows.{front_about}
use Rattle.sb_theory.proofs.strings.Strings.clashing.Goals as goal

pub returns-then-current_level-eq0 : goal.returns-then-current_level-eq0
returns-then-current_level-eq0 c =
    let x = c.args.self.now in
    let n = c.args.serial.0 in
    let row = c.row_of.ensures ∙ ap (λ (rows : List (List Lit)). row_at rows n) c.deref.ensures.value in
    record {
      few = IfOk-weaker c.from_slice.result _ _
          (λ few is. record {
            holds = c.requires.holds;
            fewer = fewer_same few.items (row_at x.members.items n) (is ∙ row);
            clash = subst (λ (ls : List Lit). AreClashing x.store.arena x.atoms ls) (sym (is ∙ row)) c.requires.clash;
          }) c.from_slice.ensures.items;
      whole = IfOk-weaker c.from_slice.result _ _ (λ few is low. is ∙ row) c.from_slice.ensures.items;
      looks = looks_none c.requires.holds;
    }

pub returns-in_err-long : goal.returns-in_err-long
returns-in_err-long c =
    let r = c.from_residual in
    record {
      few = IfOk-from_err r.result _ r.ensures.0;
      whole = IfOk-from_err r.result _ r.ensures.0;
      looks = c.in_err-long.ensures.looks;
    }

pub core-requires : goal.core-requires
core-requires c =
    let y = c.clashing_front.new.self in
    let n = c.args.serial.0 in
    let h = c.in_ok-long.ensures.front.holds in
    record {
      can = record {
        about = front_about y.atoms n c.in_ok-long.long y.members.items c.deref-2.result.now
            (wanted_on y.noted y.taken.items) c.front_of.result.now c.deref-2.ensures.value c.front_of.ensures
            h.rows.members;
        regexes = h.regexes;
        graph = h.store.graph;
      };
      clash = subst (λ (ls : List Lit). AreClashing y.store.arena y.atoms ls)
          (sym (c.front_of.ensures
          ∙ ap (λ (rows : List (List Lit)). take c.in_ok-long.long (row_at rows n)) c.deref-2.ensures.value))
          c.in_ok-long.ensures.front.clash;
    }

pub returns : goal.returns
returns c =
    let y = c.clashing_front.new.self in
    let n = c.args.serial.0 in
    let h = c.in_ok-long.ensures.front.holds in
    let few = c.core.ensures in
    let grows = store_explored c.regexes_grow.ensures.arena y.store c.core.new.arena c.core.new.graph few.explores in
    let front = c.front_of.ensures
    ∙ ap (λ (rows : List (List Lit)). take c.in_ok-long.long (row_at rows n)) c.deref-2.ensures.value in
    record {
      few = IfOk-weaker c.core.result _ _
          (λ found core. record {
            holds = holds_kept grows refl h;
            fewer = fewer_front found.items (row_at y.members.items n) c.in_ok-long.long
                (subst (λ (ls : List Lit). AreFewer found.items ls) front core.fewer);
            clash = core.clash;
          }) few.few;
      whole = IfOk-weaker c.core.result _ _
          (λ found core low. absurd (c.if-current_level-eq0.false (c.current_level.ensures ∙ low))) few.few;
      looks = looks_both c.in_ok-long.ensures.looks (looks_grown h grows refl refl refl);
    }
