use Rattle.std.proofs.Common.{map, sym, ap, subst, ◌∙◌}
use Rattle.std.proofs.lemmas.Result.{IfOk-from_err, IfOk-weaker}
use Rattle.sb_term.specs.Numbered.{terms_at, AllNumbers}
use Rattle.sb_term.specs.Nodes.{node_term, ArgumentsBelow}
use Rattle.sb_term.specs.Serials.{has_serials_below}
use Rattle.sb_term.proofs.CallerLemmas.{belows_at}
use Rattle.sb_sorts.specs.Unfolding.{next_in}
use Rattle.sb_sorts.proofs.Remaking.{arguments_are, are_numbers, node_next, parameter_next, itself_next, closed_node}
use Rattle.sb_sorts.proofs.Reading.{grows_same}
use Rattle.sb_sorts.proofs.unfold.remade.Goals as goal

pub returns-in-Parameter : goal.returns-in-Parameter
returns-in-Parameter c =
    let ts = c.args.table.now in record {
      value = parameter_next ts c.args.given.now _ _ c.args.id c.argument_at.result c.requires.given c.requires.id
          (sym (ap (node_term ts) c.in-Parameter.is) ∙ c.term.ensures.value) c.argument_at.ensures;
      grows = λ n. grows_same n ts;
    }

pub add-requires : goal.add-requires
add-requires c =
    let ts = c.args.table.now in
    let is = c.in-Apply.arguments.items in
    let same = arguments_are ts c.args.id _ is (sym (ap (node_term ts) c.in-Apply.is) ∙ c.term.ensures.value) in
    let moved = c.in_ok-ids-in-Apply.ensures ∙ ap (map (next_in c.args.made.now.entries)) c.as_slice.ensures in record {
      arguments = subst (AllNumbers ts) (sym moved)
          (are_numbers ts ts (terms_at ts c.args.given.now) c.args.made.now.entries is
          (c.requires.parts is same (subst (ArgumentsBelow c.args.id) c.in-Apply.is c.term.ensures.arguments)));
      written = tt;
    }

pub returns-in_err-ids-in-Apply : goal.returns-in_err-ids-in-Apply
returns-in_err-ids-in-Apply c = record {
  value = IfOk-from_err c.from_residual.result _ c.from_residual.ensures.0;
  grows = λ n. grows_same n c.args.table.now;
}

pub returns-in_ok-ids-in-Apply : goal.returns-in_ok-ids-in-Apply
returns-in_ok-ids-in-Apply c =
    let ts = c.args.table.now in
    let gs = terms_at ts c.args.given.now in
    let is = c.in-Apply.arguments.items in
    let node = sym (ap (node_term ts) c.in-Apply.is) ∙ c.term.ensures.value in
    let below = subst (ArgumentsBelow c.args.id) c.in-Apply.is c.term.ensures.arguments in
    let moved = c.in_ok-ids-in-Apply.ensures ∙ ap (map (next_in c.args.made.now.entries)) c.as_slice.ensures in
    let numbers = are_numbers ts ts gs c.args.made.now.entries is
    (c.requires.parts is (arguments_are ts c.args.id _ is node) below) in record {
      value = IfOk-weaker c.add.result _ _
          (λ next named. node_next ts c.add.new.self gs c.args.made.now.entries c.args.id next _ is
          c.in_ok-ids-in-Apply.ids.items node below c.requires.parts moved named) c.add.ensures.ok;
      grows = λ n. record {
        extends = c.add.ensures.extends;
        below = λ h. c.add.ensures.only (has_serials_below n) h
            (belows_at n ts c.in_ok-ids-in-Apply.ids.items h (subst (AllNumbers ts) (sym moved) numbers));
      };
    }

pub returns-in_default : goal.returns-in_default
returns-in_default c =
    let ts = c.args.table.now in record {
      value = itself_next ts (terms_at ts c.args.given.now) c.args.id (node_term ts c.term.result.now) c.requires.id
          c.term.ensures.value (closed_node ts c.term.result.now c.in_default.not-Apply c.in_default.not-Parameter);
      grows = λ n. grows_same n ts;
    }
