use Rattle.std.proofs.Common.{◌≡◌, ◌<◌, ◌∷◌, [], true, nat_lt, length, sym, ap, subst, ◌∙◌}
use Rattle.std.specs.List.{list_all}
use Rattle.std.proofs.lemmas.Bool.{ltb-true}
use Rattle.std.proofs.lemmas.List.{map-append}
use Rattle.std.proofs.lemmas.Result.{IfOk-from_err}
use Rattle.sb_regex.proofs.CallerLemmas.{extends_same, extends_more}
use Rattle.sb_term.specs.Numbered.{term_at, terms_at}
use Rattle.sb_problem.specs.Parts.{parts_in}
use Rattle.sb_problem.specs.Taking.{GoesOn, Taking, weight_of}
use Rattle.sb_problem.proofs.Chains.{none_left}
use Rattle.sb_problem.proofs.Keeping.{all_last, texts}
use Rattle.sb_problem.proofs.Takings.{below_one, none_at, taking_start, taken_end}
use Rattle.sb_problem.proofs.normals.Normals.single_pieces.Goals as goal

pub loop-next-init : goal.loop-next-init
loop-next-init c = record {
  normals = c.requires.normals;
  extends = extends_same c.args.arena.now;
  below = below_one (length c.args.table.now) c.args.id c.in_ok-left.left.items c.requires.known
      c.in_ok-left.ensures.items;
  taking = taking_start (term_at c.args.table.now c.args.id) (parts_in c.new-parts.result.items)
      c.new-run.result.items c.new-met.result.keys (terms_at c.args.table.now c.in_ok-left.left.items)
      (ap parts_in c.new-parts.ensures.items) c.new-run.ensures.items c.new-met.ensures.empty
      (ap (terms_at c.args.table.now) c.in_ok-left.ensures.items);
}

pub reach-requires : goal.reach-requires
reach-requires c =
    let all = subst (λ is. list_all (λ i. nat_lt i (length c.args.table.now)) is ≡ true) c.in-Some.ensures.items
    c.loop-next.invariant.below in
    record {
      known = ltb-true c.in-Some.next (length c.args.table.now)
          (all_last (λ i. nat_lt i (length c.args.table.now)) c.pop.new.self.items c.in-Some.next all).1;
      normals = c.loop-next.invariant.normals;
    }

pub returns-in_err-reach : goal.returns-in_err-reach
returns-in_err-reach c =
    let x = c.from_residual-in_err-reach in
    let e = c.in_err-reach.ensures in
    record {
      ok = IfOk-from_err x.result _ x.ensures.0;
      written = IfOk-from_err x.result _ x.ensures.0;
      extends = extends_more _ _ _ c.loop-next.invariant.extends e.extends;
      normals = e.normals;
    }

pub take-requires : goal.take-requires
take-requires c =
    let all = subst (λ is. list_all (λ i. nat_lt i (length c.args.table.now)) is ≡ true) c.in-Some.ensures.items
    c.loop-next.invariant.below in
    let e = c.in_ok-reach.ensures in
    record {
      number = ltb-true c.in-Some.next (length c.args.table.now)
          (all_last (λ i. nat_lt i (length c.args.table.now)) c.pop.new.self.items c.in-Some.next all).1;
      known = e.reached;
      texts = texts c.args.table.now c.reach.new.arena c.reach.new.self e.normals;
    }

pub returns-in_err-goes : goal.returns-in_err-goes
returns-in_err-goes c =
    let x = c.from_residual-in_err-goes in
    let e = c.in_ok-reach.ensures in
    record {
      ok = IfOk-from_err x.result _ x.ensures.0;
      written = IfOk-from_err x.result _ x.ensures.0;
      extends = extends_more _ _ _ c.loop-next.invariant.extends e.extends;
      normals = e.normals;
    }

pub returns-then-not-goes : goal.returns-then-not-goes
returns-then-not-goes c =
    let ts = c.args.table.now in
    let e = c.in_ok-reach.ensures in
    let taken = subst (Taking (term_at ts c.args.id) (parts_in c.loop-next.parts.items) c.loop-next.run.items
    c.loop-next.met.keys)
    (ap (terms_at ts) c.in-Some.ensures.items ∙ map-append (term_at ts) c.pop.new.self.items (c.in-Some.next ∷ []))
    c.loop-next.invariant.taking in
    let none = subst (λ b. GoesOn b (term_at ts c.args.id) (parts_in c.take.new.parts.items) c.take.new.run.items
    c.take.new.met.keys (terms_at ts c.take.new.left.items)) c.if-not-goes.true
    (c.in_ok-goes.ensures.goes (term_at ts c.args.id) taken) in
    record {
      ok = sym none;
      written = tt;
      extends = extends_more _ _ _ c.loop-next.invariant.extends e.extends;
      normals = e.normals;
    }

pub loop-next-preserved : goal.loop-next-preserved
loop-next-preserved c =
    let ts = c.args.table.now in
    let e = c.in_ok-reach.ensures in
    let all = subst (λ is. list_all (λ i. nat_lt i (length ts)) is ≡ true) c.in-Some.ensures.items
    c.loop-next.invariant.below in
    let taken = subst (Taking (term_at ts c.args.id) (parts_in c.loop-next.parts.items) c.loop-next.run.items
    c.loop-next.met.keys)
    (ap (terms_at ts) c.in-Some.ensures.items ∙ map-append (term_at ts) c.pop.new.self.items (c.in-Some.next ∷ []))
    c.loop-next.invariant.taking in
    record {
      normals = e.normals;
      extends = extends_more _ _ _ c.loop-next.invariant.extends e.extends;
      below = c.in_ok-goes.ensures.fewer.below
          (all_last (λ i. nat_lt i (length ts)) c.pop.new.self.items c.in-Some.next all).0;
      taking = subst (λ b. GoesOn b (term_at ts c.args.id) (parts_in c.take.new.parts.items) c.take.new.run.items
          c.take.new.met.keys (terms_at ts c.take.new.left.items)) c.if-not-goes.false
          (c.in_ok-goes.ensures.goes (term_at ts c.args.id) taken);
    }

pub loop-next-smaller : goal.loop-next-smaller
loop-next-smaller c =
    subst (λ is. weight_of (terms_at c.args.table.now c.take.new.left.items) < weight_of (terms_at c.args.table.now is))
    (sym c.in-Some.ensures.items) c.in_ok-goes.ensures.fewer.lighter

pub returns : goal.returns
returns c =
    let end = taken_end (term_at c.args.table.now c.args.id) (parts_in c.loop-next.parts.items)
    (parts_in c.put_run.new.parts.items) c.loop-next.run.items c.loop-next.met.keys
    (terms_at c.args.table.now c.loop-next.left.items) c.loop-next.invariant.taking
    (none_at c.args.table.now c.loop-next.left.items (none_left c.loop-next.left c.in_default.ensures.cases.0))
    c.in_ok-put_run.ensures.parts in
    record {
      ok = end.0;
      written = end.1;
      extends = c.loop-next.invariant.extends;
      normals = c.loop-next.invariant.normals;
    }

pub returns-in_err-put_run : goal.returns-in_err-put_run
returns-in_err-put_run c =
    let x = c.from_residual-in_err-put_run in
    record {
      ok = IfOk-from_err x.result _ x.ensures.0;
      written = IfOk-from_err x.result _ x.ensures.0;
      extends = c.loop-next.invariant.extends;
      normals = c.loop-next.invariant.normals;
    }
