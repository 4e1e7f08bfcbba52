use Rattle.std.proofs.Common.{◌+◌, ◌*◌, length}
use Rattle.sb_reader.specs.Forms.{shape_of, shapes_in}
use Rattle.sb_sorts.specs.Binding.{pairs_of}
use Rattle.sb_sorts.proofs.Reading.{HasRead}
use Rattle.sb_sorts.proofs.Binds.{HasBoundSofar}
use Rattle.sb_sorts.proofs.Sizes.{size, size_of_all}
use Rattle.sb_sorts.proofs.read.+read.Given as goal

abbrev pub invariant-read_all-loop-form : goal.invariant-read_all-loop-form
invariant-read_all-loop-form l =
    HasRead (length l.scope.sorts) l.scope l.fn.table l.fn.locals (shapes_in l.forms) l.table l.locals l.ids.items
    (shapes_in l.left)

abbrev pub decreases-read_all-loop-form : goal.decreases-read_all-loop-form
decreases-read_all-loop-form l = size_of_all (shapes_in l.left)

abbrev pub invariant-read_bindings-loop-binding : goal.invariant-read_bindings-loop-binding
invariant-read_bindings-loop-binding l =
    HasBoundSofar (length l.scope.sorts) l.scope l.fn.table l.fn.locals (shapes_in l.bindings) l.table l.locals
    (pairs_of l.bound.items) (shapes_in l.left)

abbrev pub decreases-read_bindings-loop-binding : goal.decreases-read_bindings-loop-binding
decreases-read_bindings-loop-binding l = size_of_all (shapes_in l.left)

abbrev pub decreases-read_form : goal.decreases-read_form
decreases-read_form l = 3 * size (shape_of l.form)

abbrev pub decreases-read_list : goal.decreases-read_list
decreases-read_list l = 3 * size_of_all (shapes_in l.forms) + 2

abbrev pub decreases-read_all : goal.decreases-read_all
decreases-read_all l = 3 * size_of_all (shapes_in l.forms) + 1

abbrev pub decreases-read_let : goal.decreases-read_let
decreases-read_let l = 3 * size_of_all (shapes_in l.bindings) + 3 * size (shape_of l.body) + 2

abbrev pub decreases-read_bindings : goal.decreases-read_bindings
decreases-read_bindings l = 3 * size_of_all (shapes_in l.bindings) + 1
