use Rattle.sb_decide.proofs.Words.{ap, sym, ◌∙◌, ◌&&◌, [], ◌∷◌, and-true, list_all, list_all-append, take_all, passes, passes_at}
use Rattle.sb_decide.proofs.Occurring.{terms_next}
use Rattle.sb_decide.proofs.question.terms_at.Goals as goal

pub loop-place-init : goal.loop-place-init
loop-place-init c = λ test. ap (list_all test) c.new-terms.ensures.items

pub loop-place-preserved-in_default : goal.loop-place-preserved-in_default
loop-place-preserved-in_default c = λ test.
    terms_next test c.args.assertions.now c.args.places.now c.loop-place.terms.items c.loop-place.terms.items
    c.loop-place.place-index _ c.index-assertions-place.result c.loop-place-test.true
    (c.requires c.loop-place.place-index _ c.loop-place-test.true) c.index-assertions-place.is
    (sym (ap (λ o. list_all test c.loop-place.terms.items && passes test o) c.in_default.is
    ∙ and-true (list_all test c.loop-place.terms.items))) (c.loop-place.invariant test)

pub loop-place-preserved : goal.loop-place-preserved
loop-place-preserved c = λ test.
    terms_next test c.args.assertions.now c.args.places.now c.loop-place.terms.items c.push.new.self.items
    c.loop-place.place-index _ c.index-assertions-place.result c.loop-place-test.true
    (c.requires c.loop-place.place-index _ c.loop-place-test.true) c.index-assertions-place.is
    (ap (list_all test) c.in_ok-push.ensures.items
    ∙ (list_all-append test c.loop-place.terms.items (c.in-Some.term ∷ [])
    ∙ ap (λ b. list_all test c.loop-place.terms.items && b)
    (and-true (test c.in-Some.term) ∙ sym (ap (passes test) c.in-Some.is)))) (c.loop-place.invariant test)

pub returns : goal.returns
returns c = λ test.
    c.loop-place.invariant test
    ∙ ap (list_all (passes_at test c.args.assertions.now))
    (take_all c.loop-place.place-index c.args.places.now c.loop-place-test.false)
