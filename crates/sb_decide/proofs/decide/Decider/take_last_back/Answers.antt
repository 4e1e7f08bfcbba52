use Rattle.sb_decide.proofs.Words.{◌≡◌, ◌≤◌, ◌-◌, [], ◌∷◌, ◌++◌, Some, None, length, length-append, take, vec_len, refl, ap, ◌∙◌, arith, IfOk-from_err, with_items}
use Rattle.sb_decide.proofs.Hearing.{heard_none, heard_same, take_front}
use Rattle.sb_decide.proofs.Knowledge.{knows_back, knows_back_other, last_within}
use Rattle.sb_decide.proofs.TakingOver.{back_here, settled_through}
use Rattle.sb_decide.proofs.decide.Decider.take_last_back.Goals as goal

pub returns-then-self-len : goal.returns-then-self-len
returns-then-self-len c =
    let was = c.in-Some.ensures.items ∙ ap (λ o. c.pop.new.self.items ++ o ∷ []) c.in_default-last.is in
    let kept = c.args.self.now in
    let others = c.pop-in_default-last.new.self in
    let rest = c.pop-in_default-last.ensures.rest in
    let few : kept.heard ≤ length others.items = omega (arith, c.if-self-len.true, c.len.ensures, others.ok.0) in
    record {
      knows = λ stack.
          knows_back_other kept (record kept { members = c.pop.new.self; roots = c.pop-2.new.self; others = others })
          stack was c.pop-2.ensures.rest rest
          (heard_same stack.table stack.assertions kept.others.items others.items kept.heard kept.spoken.keys
          (take_front kept.others.items others.items _ kept.heard rest few) few);
      fewer = λ _. omega (arith, ap length was, length-append c.pop.new.self.items (None ∷ []));
      same = refl;
    }

pub returns-in_default-last : goal.returns-in_default-last
returns-in_default-last c =
    let was = c.in-Some.ensures.items ∙ ap (λ o. c.pop.new.self.items ++ o ∷ []) c.in_default-last.is in
    let others = c.pop-in_default-last.new.self in
    record {
      knows = λ stack.
          knows_back_other c.args.self.now
          (record c.args.self.now {
            members = c.pop.new.self;
            roots = c.pop-2.new.self;
            others = others;
            spoken = c.clear.new.self;
            heard = 0;
          })
          stack was c.pop-2.ensures.rest c.pop-in_default-last.ensures.rest (λ _. heard_none stack.table
          stack.assertions others.items 0 c.clear.new.self.keys refl c.clear.ensures.empty);
      fewer = λ _. omega (arith, ap length was, length-append c.pop.new.self.items (None ∷ []));
      same = refl;
    }

pub returns-then-member-len : goal.returns-then-member-len
returns-then-member-len c =
    let was = c.in-Some.ensures.items ∙ ap (λ o. c.pop.new.self.items ++ o ∷ []) c.in-Some-last.is in
    let one = length-append c.pop.new.self.items (Some c.in-Some-last.member ∷ []) in
    record {
      knows = λ stack k.
          let low = last_within c.args.self.now c.in-Some-last.member c.pop.new.self.items stack was k in
          absurd (omega (arith, low, c.if-member-len.true, c.len-2.ensures, c.args.self.now.constants.ok.0));
      fewer = λ _. omega (arith, ap length was, one);
      same = refl;
    }

pub returns-in_err-put_back : goal.returns-in_err-put_back
returns-in_err-put_back c =
    let was = c.in-Some.ensures.items ∙ ap (λ o. c.pop.new.self.items ++ o ∷ []) c.in-Some-last.is in
    let one = length-append c.pop.new.self.items (Some c.in-Some-last.member ∷ []) in
    let x = c.from_residual in
    record {
      knows = IfOk-from_err x.result _ x.ensures.0;
      fewer = λ _. omega (arith, ap length was, one);
      same = refl;
    }

pub returns : goal.returns
returns c =
    let member = c.in-Some-last.member in
    let was = c.in-Some.ensures.items ∙ ap (λ o. c.pop.new.self.items ++ o ∷ []) c.in-Some-last.is in
    let one = length-append c.pop.new.self.items (Some member ∷ []) in
    let e = c.in_ok-put_back.ensures in
    record {
      knows = λ stack k.
          let few : vec_len c.args.self.now.roots - 1 ≡ length c.pop.new.self.items =
          omega (arith, k.taken.rooted.abreast, ap length was, one, c.args.self.now.roots.ok.0) in
          knows_back c.args.self.now member c.pop.new.self c.pop-2.new.self
          (with_items c.args.self.now.constants c.put_back.new.constants) c.unlist.new.changed
          c.other_dead-self.result stack was
          (c.pop-2.ensures.rest ∙ ap (λ n. take n c.args.self.now.roots.items) few) c.other_dead-self.ensures
          (back_here c.args.self.now.constants c.deref_mut.result.now c.put_back.new.constants member.serial.0
          c.deref_mut.ensures.value e.put)
          (λ h. (rw c.deref.ensures.value at c.unlist.ensures.settled) c.args.self.now.left.items
          (settled_through c.args.self.now.constants c.deref_mut.result.now c.put_back.new.constants
          member.serial.0 _ c.args.self.now.left.items c.put_back.new.changed.items c.deref_mut.ensures.value e.put
          (e.settled c.args.self.now.left.items (rw c.deref_mut.ensures.value h))))
          (λ h. c.unlist.ensures.listed (length c.args.self.now.constants.items)
          ((rw c.deref_mut.ensures.value at e.listed) h)) k;
      fewer = λ _. omega (arith, ap length was, one);
      same = refl;
    }
