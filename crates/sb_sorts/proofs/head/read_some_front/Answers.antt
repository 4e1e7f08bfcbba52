use Rattle.std.proofs.Common.{length, sym, ap, subst}
use Rattle.sb_reader.specs.Forms.{shape_of, shapes_in}
use Rattle.sb_script.specs.Heads.{read_head}
use Rattle.sb_script.specs.Reading.{read_list_head}
use Rattle.sb_sorts.specs.Locals.{names_at}
use Rattle.sb_sorts.specs.Heads.{beginning_in, some_beginning, Gives}
use Rattle.sb_sorts.proofs.Staying.{theories_below, theories_number}
use Rattle.sb_sorts.proofs.head.read_some_front.Goals as goal

pub returns-in-Symbol : goal.returns-in-Symbol
returns-in-Symbol c =
    let given = c.read_symbol_front.ensures in
    record {
      reads = λ ts. subst (λ reading. Gives (beginning_in ts) reading c.read_symbol_front.result)
          (sym (ap (λ f. some_beginning (names_at ts c.args.locals.now c.args.scope.now) (shape_of f)
          (shapes_in c.args.others)) c.in-Symbol.is)) (given.reads ts);
      declared = given.declared;
      numbers = given.numbers;
    }

pub returns-in-QuotedSymbol : goal.returns-in-QuotedSymbol
returns-in-QuotedSymbol c =
    let given = c.takes_arguments.ensures in
    let head = c.read_head.ensures in
    record {
      reads = λ ts.
          let names = names_at ts c.args.locals.now c.args.scope.now in
          subst (λ reading. Gives (beginning_in ts) reading c.takes_arguments.result)
          (sym (ap (λ f. some_beginning names (shape_of f) (shapes_in c.args.others)) c.in-QuotedSymbol.is))
          (given.reads ts (read_head names c.in-QuotedSymbol.name.now) (head.reads ts));
      declared = given.declared (length c.args.scope.now.sorts) head.declared;
      numbers = λ ts right. given.numbers (length ts) (head.numbers ts right);
    }

pub returns-in-List : goal.returns-in-List
returns-in-List c =
    let given = c.takes_arguments-in-List.ensures in
    let head = c.read_list_head.ensures in
    record {
      reads = λ ts.
          let names = names_at ts c.args.locals.now c.args.scope.now in
          subst (λ reading. Gives (beginning_in ts) reading c.takes_arguments-in-List.result)
          (sym (ap (λ f. some_beginning names (shape_of f) (shapes_in c.args.others)) c.in-List.is))
          (given.reads ts (read_list_head names (shapes_in c.in-List.forms)) (head.reads ts));
      declared = given.declared (length c.args.scope.now.sorts)
          (theories_below (length c.args.scope.now.sorts) c.read_list_head.result head.declared);
      numbers = λ ts right. given.numbers (length ts)
          (theories_number (length ts) c.read_list_head.result head.declared);
    }
