use Rattle.sb_theory.proofs.Words.{refl, subst, IfOk-from_err}
use Rattle.sb_theory.specs.Walks.{IsOpenLead}
use Rattle.sb_theory.proofs.Moving.{atoms_stay, keeps_none}
use Rattle.sb_theory.proofs.Walking.{lead_asked, lead_known, told, weighed, wish_kept}
use Rattle.sb_theory.proofs.strings.Strings.weigh.Goals as goal

pub side-requires : goal.side-requires
side-requires c =
    let x = c.args.self.now in
    let r = c.requires in
    let t = told c.nullable_has_empty_word.ensures c.derivative_along_has_rests.ensures c.mkpath_keeps_language.ensures
    c.order_tells_apart.ensures x c.args.trail.now.literals c.args.at c.args.between c.args.step r.wrong r.between
    r.step in
    let unled = subst (IsOpenLead c.args.trail.now.literals c.args.step) c.in-Some.is c.open_lead.ensures in
    record { holds = r.stands.holds; known = lead_known x c.in-Some.lead (t.lead c.in-Some.lead unled.0) }

pub returns-in_err-asked : goal.returns-in_err-asked
returns-in_err-asked c =
    let e = c.in_err-asked.ensures in record {
      end = IfOk-from_err c.from_residual.result _ c.from_residual.ensures.0;
      rows = e.rows;
      noted = e.noted;
      keeps = e.keeps;
    }

pub returns-in-Some : goal.returns-in-Some
returns-in-Some c =
    let x = c.args.self.now in
    let r = c.requires in
    let e = c.in_ok-asked.ensures in
    let t = told c.nullable_has_empty_word.ensures c.derivative_along_has_rests.ensures c.mkpath_keeps_language.ensures
    c.order_tells_apart.ensures x c.args.trail.now.literals c.args.at c.args.between c.args.step r.wrong r.between
    r.step in
    let unled = subst (IsOpenLead c.args.trail.now.literals c.args.step) c.in-Some.is c.open_lead.ensures in
    record {
      end = lead_asked x c.side.new.self c.args.trail.now.literals c.in-Some.lead c.in_ok-asked.asked
          (t.lead c.in-Some.lead unled.0) unled.1
          e.atom (wish_kept c.in-Some.lead.atom e.keeps) (atoms_stay e.keeps);
      rows = e.rows;
      noted = e.noted;
      keeps = e.keeps;
    }

pub returns : goal.returns
returns c =
    let x = c.args.self.now in
    let r = c.requires in
    let es = c.args.trail.now.literals in
    let t = told c.nullable_has_empty_word.ensures c.derivative_along_has_rests.ensures c.mkpath_keeps_language.ensures
    c.order_tells_apart.ensures x es c.args.at c.args.between c.args.step r.wrong r.between r.step in
    record {
      end = weighed x es c.args.at c.args.between c.args.step c.weigh_rest.result r.stands.holds r.whole r.settled
          r.wrong
          t r.step r.lead r.rest (subst (IsOpenLead es c.args.step) c.in_default.is c.open_lead.ensures)
          c.weigh_rest.ensures;
      rows = refl;
      noted = refl;
      keeps = keeps_none r.stands.holds;
    }
