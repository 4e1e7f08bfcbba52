use Rattle.sb_refute.proofs.Words.{◌≡◌, ◌-◌, ◌++◌, [], ◌∷◌, length, take, replicate, None, ap, ◌∙◌, arith, placed}
use Rattle.sb_refute.proofs.Places.{set-placed, filled-placed}
use Rattle.sb_refute.proofs.evidence.put_at.Goals as goal

pub returns-then-place-len : goal.returns-then-place-len
returns-then-place-len c =
    set-placed c.args.all.now.items c.args.place c.args.asserted
    (omega (arith, c.if-place-len.true, c.len.ensures, c.args.all.now.ok.0))

pub returns : goal.returns
returns c =
    let v = c.reserve.new.self in
    let long : v.len ≡ length v.items = omega (arith, v.ok.0) in
    c.in_ok-push.ensures.items
    ∙ (ap (λ xs. xs ++ c.args.asserted ∷ [])
    (c.in_ok-resize.ensures.items ∙ ap (λ n. take c.args.place v.items ++ replicate (c.args.place - n) None) long)
    ∙ (filled-placed v.items c.args.place c.args.asserted
    (omega (arith, long, c.if-place-len.false, c.len.ensures, c.in_ok-reserve.ensures.len))
    ∙ ap (λ xs. placed xs c.args.place c.args.asserted) c.in_ok-reserve.ensures.items))
