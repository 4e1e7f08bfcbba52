use Rattle.sb_refute.proofs.Words.{◌<◌, length, Option, Some, None, IfSome, refl, sym, subst, Lit, Asserted, asserted_at, IsClaimed, IsStanding, LeadsClaimed, placed, called_none, called_on}
use Rattle.sb_refute.proofs.Asserting.{claimed-none, claimed-standing, claims-alone}
use Rattle.sb_refute.proofs.evidence.Evidence.stated.Goals as goal

pub returns-in_default : goal.returns-in_default
returns-in_default g c =
    let e = c.args.self.now in
    let f = c.keep.new.self in
    let told = g.L.Tape.told c.args.tape.now in
    record {
      ok = subst (λ (o : Option Lit). IsClaimed (LeadsClaimed c.args.place o c.args.level e f told told) c.args.place o
          c.args.level e f None) (sym c.in_default.is)
          (claimed-none e f c.args.place c.args.level told c.stands.ensures c.in_ok-keep.ensures);
      rest = claims-alone e f e.kept (placed e.asserted c.args.place None) c.in_ok-keep.ensures;
      counts = refl;
    }

pub returns-in-Some-standing : goal.returns-in-Some-standing
returns-in-Some-standing g c =
    let e = c.args.self.now in
    let told = g.L.Tape.told c.args.tape.now in
    record {
      ok = subst (λ (o : Option Lit). IsClaimed (LeadsClaimed c.args.place o c.args.level e e told told) c.args.place o
          c.args.level e e (Some c.in-Some-standing.asserted)) (sym c.in-Some.is)
          (claimed-standing e c.args.place c.args.level c.in-Some.literal told c.in-Some-standing.asserted
          c.stands.ensures
          (subst (IsStanding (asserted_at e.asserted c.args.place) c.in-Some.literal c.args.level)
          c.in-Some-standing.is c.standing.ensures));
      rest = refl;
      counts = refl;
    }

pub claim-requires : goal.claim-requires
claim-requires g c = record {
  known = subst (λ (o : Option Lit). IfSome o (λ l. l.atom < length c.args.self.now.atoms)) c.in-Some.is c.requires;
  lacks = subst (IsStanding (asserted_at c.args.self.now.asserted c.args.place) c.in-Some.literal c.args.level)
      c.in_default-standing.is c.standing.ensures;
}

pub returns : goal.returns
returns g c =
    let e = c.args.self.now in
    let f = c.claim.new.self in
    record {
      ok = subst (λ (o : Option Lit). IsClaimed (LeadsClaimed c.args.place o c.args.level e f
          (g.L.Tape.told c.args.tape.now) (g.L.Tape.told c.claim.new.tape)) c.args.place o c.args.level e f
          (Some c.in_ok-claim.field-0)) (sym c.in-Some.is) c.in_ok-claim.ensures.ok;
      rest = c.in_ok-claim.ensures.rest;
      counts = c.in_ok-claim.ensures.counts;
    }

pub returns-in_err-claim : goal.returns-in_err-claim
returns-in_err-claim g c =
    let x = c.from_residual-in_err-claim in
    called_on Asserted _ x.result _ _ _ _ x.ensures.0 x.ensures.1 refl c.in_err-claim.ensures.counts
    c.in_err-claim.ensures.rest

pub returns-in_err-keep : goal.returns-in_err-keep
returns-in_err-keep g c =
    let x = c.from_residual in
    let e = c.args.self.now in
    called_none _ x.result _ _ x.ensures.0 x.ensures.1 refl
    (claims-alone e c.keep.new.self e.kept e.asserted c.in_err-keep.ensures)
