use Rattle.sb_decide.proofs.Words.{refl, IfOk-from_err, grows_both, names_below, normal}
use Rattle.sb_decide.proofs.DemandFacts.{no_regex, positive_regex, negative_regex}
use Rattle.sb_store.proofs.CallerLemmas.{normalized}
use Rattle.sb_decide.proofs.demand.regex_of.Goals as goal

pub pattern-requires : goal.pattern-requires
pattern-requires c = record { known = c.requires.number; normals = c.requires.store.normals }

pub returns-in_err-id : goal.returns-in_err-id
returns-in_err-id c =
    let x = c.from_residual in
    let e = c.pattern.ensures in
    record {
      number = IfOk-from_err x.result _ x.ensures.0;
      store = normalized c.regexes_grow.ensures.arena c.args.table.now c.args.store.now _ _ e.extends e.normals;
    }

pub returns-in_default : goal.returns-in_default
returns-in_default c =
    let e = c.in_ok-id.ensures in
    record {
      number = no_regex c.pattern.new.arena c.args.table.now c.args.demand (rw c.in_default.is at e.number);
      store = normalized c.regexes_grow.ensures.arena c.args.table.now c.args.store.now _ _ e.extends e.normals;
    }

pub returns-then-demand : goal.returns-then-demand
returns-then-demand c =
    let e = c.in_ok-id.ensures in
    record {
      number = positive_regex c.pattern.new.arena c.args.table.now c.args.demand c.in-Some.id c.if-demand.true
          (rw c.in-Some.is at e.number);
      store = normalized c.regexes_grow.ensures.arena c.args.table.now c.args.store.now _ _ e.extends e.normals;
    }

pub not-requires : goal.not-requires
not-requires c =
    let r = rw c.in-Some.is at c.in_ok-id.ensures.number in
    names_below c.pattern.new.arena c.in-Some.id (normal r.reglan) r.names

pub returns-in_err-complement : goal.returns-in_err-complement
returns-in_err-complement c =
    let x = c.from_residual-in_err-complement in
    let e = c.in_ok-id.ensures in
    let law = c.regexes_grow.ensures in
    record {
      number = IfOk-from_err x.result _ x.ensures.0;
      store = grows_both _ _ _ _
          (normalized law.arena c.args.table.now c.args.store.now c.pattern.new.arena c.pattern.new.self e.extends
          e.normals) (law.alone _ _ _ (law.arena _ _ c.not.ensures.extends refl));
    }

pub returns : goal.returns
returns c =
    let e = c.in_ok-id.ensures in
    let law = c.regexes_grow.ensures in
    record {
      number = negative_regex c.pattern.new.arena c.not.new.self c.args.table.now c.args.demand c.in-Some.id
          c.in_ok-complement.complement c.if-demand.false (rw c.in-Some.is at e.number) c.in_ok-complement.ensures.ok;
      store = grows_both _ _ _ _
          (normalized law.arena c.args.table.now c.args.store.now c.pattern.new.arena c.pattern.new.self e.extends
          e.normals) (law.alone _ _ _ (law.arena _ _ c.not.ensures.extends refl));
    }
