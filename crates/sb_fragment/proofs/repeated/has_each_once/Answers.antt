use Rattle.std.proofs.Common.{◌<◌, ◌∷◌, [], length, sym, ap, subst, ◌∙◌, arith}
use Rattle.std.proofs.lemmas.List.{map-append}
use Rattle.sb_meaning.specs.Terms.{terms_of}
use Rattle.sb_term.specs.Numbered.{term_at, terms_at}
use Rattle.sb_problem.specs.Waiting.{sizes}
use Rattle.sb_problem.proofs.CallerLemmas.{below_one, last_below, none_at, none_left}
use Rattle.sb_fragment.specs.Ruled.{Meeting, MeetsMore}
use Rattle.sb_fragment.proofs.RuledFacts.{meeting_start, meeting_end}
use Rattle.sb_fragment.proofs.repeated.has_each_once.Goals as goal

pub loop-next-init : goal.loop-next-init
loop-next-init c = record {
  below = below_one (length c.args.measures.now) c.args.id c.in_ok-left.left.items c.requires.number
      c.in_ok-left.ensures.items;
  meeting = meeting_start (term_at c.args.table.now c.args.id) c.new-met.result.keys
      (terms_at c.args.table.now c.in_ok-left.left.items) c.new-met.ensures.empty
      (ap (terms_at c.args.table.now) c.in_ok-left.ensures.items);
}

pub meet-requires : goal.meet-requires
meet-requires c =
    let next = (last_below (length c.args.measures.now) c.loop-next.left.items c.pop.new.self.items c.in-Some.next
    c.in-Some.ensures.items c.loop-next.invariant.below).1 in
    record { number = omega (arith, next, c.requires.right.few); reached = next; right = c.requires.right }

pub returns-then-not-goes : goal.returns-then-not-goes
returns-then-not-goes c =
    let ts = c.args.table.now in
    let meeting = subst (Meeting (term_at ts c.args.id) c.loop-next.met.keys)
    (ap (terms_at ts) c.in-Some.ensures.items ∙ map-append (term_at ts) c.pop.new.self.items (c.in-Some.next ∷ []))
    c.loop-next.invariant.meeting in
    sym (subst (λ b. MeetsMore b (term_at ts c.args.id) c.meet.new.met.keys (terms_at ts c.meet.new.left.items))
    c.if-not-goes.true (c.in_ok-goes.ensures.goes (term_at ts c.args.id) meeting))

pub loop-next-preserved : goal.loop-next-preserved
loop-next-preserved c =
    let ts = c.args.table.now in
    let meeting = subst (Meeting (term_at ts c.args.id) c.loop-next.met.keys)
    (ap (terms_at ts) c.in-Some.ensures.items ∙ map-append (term_at ts) c.pop.new.self.items (c.in-Some.next ∷ []))
    c.loop-next.invariant.meeting in
    let next = last_below (length c.args.measures.now) c.loop-next.left.items c.pop.new.self.items c.in-Some.next
    c.in-Some.ensures.items c.loop-next.invariant.below in
    record {
      below = c.in_ok-goes.ensures.lessens.below (length c.args.measures.now) next.1 next.0;
      meeting = subst (λ b. MeetsMore b (term_at ts c.args.id) c.meet.new.met.keys
          (terms_at ts c.meet.new.left.items)) c.if-not-goes.false
          (c.in_ok-goes.ensures.goes (term_at ts c.args.id) meeting);
    }

pub loop-next-smaller : goal.loop-next-smaller
loop-next-smaller c =
    subst (λ is. sizes (terms_of (terms_at c.args.table.now c.meet.new.left.items))
    < sizes (terms_of (terms_at c.args.table.now is))) (sym c.in-Some.ensures.items)
    c.in_ok-goes.ensures.lessens.lighter

pub returns : goal.returns
returns c =
    meeting_end (term_at c.args.table.now c.args.id) c.loop-next.met.keys
    (terms_at c.args.table.now c.loop-next.left.items)
    (none_at c.args.table.now c.loop-next.left.items (none_left c.loop-next.left c.in_default.ensures.cases.0))
    c.loop-next.invariant.meeting
