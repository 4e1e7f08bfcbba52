use Rattle.std.proofs.Common.{ltb, ◌∙◌, arith, rules}
use Rattle.std.proofs.lemmas.Bool.{ltb-true, ltb-false}
use Rattle.std.proofs.lemmas.List.Sorted.{IsPartitionPoint-from_clause, IsPartitionedBy-ltb}
use Rattle.sb_stack.specs.declared.value.Constant.{Constant}
use Rattle.sb_stack.proofs.NamesBySerial.{rising, found_at, none_at}
use Rattle.sb_stack.proofs.assuming.name_of.Goals as goal

pub returns-in-Some : goal.returns-in-Some
returns-in-Some c =
    let cs = c.args.constants.now in
    let serial = c.args.serial.0 in
    let found = c.in-Some.constant.now in
    let parted = IsPartitionedBy-ltb (λ (k : Constant). k.serial.0) cs serial (rising 0 cs c.requires) in
    let point = IsPartitionPoint-from_clause (λ (k : Constant). ltb k.serial.0 serial) _ _
    c.partition_point-place.ensures.partitioned parted (λ a r q k. search rules) in
    let within = c.in-Some.ensures.lookup.3.0 in
    c.name_where.ensures
    ∙ found_at c.partition_point-place.result 0 cs serial found c.requires within c.in-Some.ensures.lookup.1
    (λ k d l. ltb-true _ _ (point.0 k d (omega arith) l))
    (λ d. ltb-false _ _ (point.1 c.partition_point-place.result d (omega arith) within))

pub returns-in-None : goal.returns-in-None
returns-in-None c =
    let cs = c.args.constants.now in
    let serial = c.args.serial.0 in
    let parted = IsPartitionedBy-ltb (λ (k : Constant). k.serial.0) cs serial (rising 0 cs c.requires) in
    let point = IsPartitionPoint-from_clause (λ (k : Constant). ltb k.serial.0 serial) _ _
    c.partition_point-place.ensures.partitioned parted (λ a r q k. search rules) in
    none_at cs serial
    (λ k d l. ltb-true _ _ (point.0 k d (omega arith) (omega (arith, c.in-None.ensures.lookup.3, l))))
