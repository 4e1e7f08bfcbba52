use Rattle.std.proofs.Common.{subst, sym}
use Rattle.std.proofs.lemmas.Result.{IfOk-weaker}
use Rattle.sb_regex.specs.Table.{regexes_of}
use Rattle.sb_regex.proofs.Remembering.{remembered_more, basic_more}
use Rattle.sb_regex.proofs.Interned.{extended, table_added, named, found, pushed}
use Rattle.sb_regex.specs.Interning.{IsTable}
use Rattle.sb_regex.proofs.arena.Arena.intern.Goals as goal

pub returns-in-Some-clause-ok : goal.returns-in-Some-clause-ok
returns-in-Some-clause-ok c =
    IfOk-weaker c.new.result _ _
    (λ id e. rw e
    (found c.args.self.now c.self.inside.nodes.keys c.self.inside.facts.items c.args.node c.in-Some.number
    c.self.invariant.0 c.self.view_is c.requires.parts c.in-Some.ensures.index))
    c.new.ensures

pub invariant_of-self-2 : goal.invariant_of-self-2
invariant_of-self-2 c =
    let grown = extended c.args.self.now c.self.inside.nodes.keys c.insert_full.new.self.keys c.args.node c.self.view_is
    c.in_ok-number.ensures.keys in (
      table_added c.args.self.now c.self.inside.nodes.keys c.insert_full.new.self.keys c.self.inside.facts.items
          c.push.new.self.items c.args.node _ c.self.invariant.0 c.self.view_is c.requires.parts c.requires.normal
          c.node_nullable.ensures c.node_lengths.ensures c.in_default.ensures.found c.in_ok-number.ensures.keys
          (pushed _ _ _ _ c.in_ok-reserve.ensures.items c.in_ok-push.ensures.items),
      remembered_more c.args.self.now (regexes_of c.insert_full.new.self.keys) _ _ grown
          (rw (c.self.view_is) at c.self.invariant.1),
      basic_more c.args.self.now (regexes_of c.insert_full.new.self.keys) _ _ _ grown
          (rw (c.self.view_is) at c.self.invariant.2),
    )

pub returns-clause-ok : goal.returns-clause-ok
returns-clause-ok c =
    let grown = extended c.args.self.now c.self.inside.nodes.keys c.insert_full.new.self.keys c.args.node c.self.view_is
    c.in_ok-number.ensures.keys in
    IfOk-weaker c.new-2.result _ _
    (λ id e. rw e
    (named c.args.self.now c.insert_full.new.self.keys _ c.args.node c.in_ok-number.number
    (table_added c.args.self.now c.self.inside.nodes.keys c.insert_full.new.self.keys c.self.inside.facts.items
    c.push.new.self.items c.args.node _ c.self.invariant.0 c.self.view_is c.requires.parts c.requires.normal
    c.node_nullable.ensures c.node_lengths.ensures c.in_default.ensures.found c.in_ok-number.ensures.keys
    (pushed _ _ _ _ c.in_ok-reserve.ensures.items c.in_ok-push.ensures.items))
    grown c.requires.parts c.in_ok-number.ensures.stored))
    c.new-2.ensures

pub returns-clause-extends : goal.returns-clause-extends
returns-clause-extends c =
    extended c.args.self.now c.self.inside.nodes.keys c.insert_full.new.self.keys c.args.node c.self.view_is
    c.in_ok-number.ensures.keys

pub invariant_of-self : goal.invariant_of-self
invariant_of-self c =
    let ks = c.self.inside.nodes.keys in (
      subst (IsTable (regexes_of ks) ks) (sym c.in_err-reserve.ensures.items) c.self.invariant.0,
      c.self.invariant.1,
      c.self.invariant.2,
    )
