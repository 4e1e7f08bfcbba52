use Rattle.std.proofs.Common.{sym, subst, ap, ap₂, refl, ◌∙◌, arith}
use Rattle.std.specs.Prelude.{is_some, slice_get}
use Rattle.sb_plain.specs.Memory.{AreWalked, IsStay}
use Rattle.sb_plain.proofs.Staying.{walked_put, found_at, none_past, pushed_there, pushed_others, inserted_last}
use Rattle.sb_plain.proofs.walked.Walked.keep.Goals as goal

pub returns-in-Some : goal.returns-in-Some
returns-in-Some c = λ rs walked l stay.
    let keys = c.self.inside.regexes.keys in
    walked_put rs c.self.inside.codes.items keys keys c.self.inside.stays.items c.put_at.new.stays.items
    c.in-Some.place c.args.regex c.args.stay
    (λ k is. found_at keys c.args.regex c.in-Some.place k (sym c.in-Some.ensures.index) is)
    (λ i h. refl) c.put_at.ensures.there c.put_at.ensures.others l
    (subst (λ w. IsStay rs c.args.regex w.0 c.args.stay) (sym c.self.view_is) stay)
    (subst (AreWalked rs) (sym c.self.view_is) walked)

pub returns-in_err-put_at : goal.returns-in_err-put_at
returns-in_err-put_at c = λ rs walked l stay.
    let keys = c.self.inside.regexes.keys in
    walked_put rs c.self.inside.codes.items keys keys c.self.inside.stays.items c.put_at-2.new.stays.items
    c.len-place.result c.args.regex c.args.stay
    (λ k is. none_past keys c.args.regex c.len-place.result k (omega (arith, c.len-place.ensures.len)) is)
    (λ i h. refl) c.in_err-put_at.ensures.there c.in_err-put_at.ensures.others l
    (subst (λ w. IsStay rs c.args.regex w.0 c.args.stay) (sym c.self.view_is) stay)
    (subst (AreWalked rs) (sym c.self.view_is) walked)

pub returns-in_err-insert : goal.returns-in_err-insert
returns-in_err-insert c = λ rs walked l stay.
    let keys = c.self.inside.regexes.keys in
    rw (c.in_err-insert.ensures.err)
    (walked_put rs c.self.inside.codes.items keys keys c.self.inside.stays.items c.put_at-2.new.stays.items
    c.len-place.result c.args.regex c.args.stay
    (λ k is. none_past keys c.args.regex c.len-place.result k (omega (arith, c.len-place.ensures.len)) is)
    (λ i h. refl) c.in_ok-put_at.ensures.there c.in_ok-put_at.ensures.others l
    (subst (λ w. IsStay rs c.args.regex w.0 c.args.stay) (sym c.self.view_is) stay)
    (subst (AreWalked rs) (sym c.self.view_is) walked))

pub returns : goal.returns
returns c = λ rs walked l stay.
    let keys = c.self.inside.regexes.keys in
    let absent = sym c.get_index_of.ensures.found ∙ ap is_some c.in_default.is in
    let is = inserted_last keys c.insert.new.self.keys c.args.regex absent c.in_ok-insert.ensures.keys in
    walked_put rs c.self.inside.codes.items keys c.insert.new.self.keys c.self.inside.stays.items
    c.put_at-2.new.stays.items c.len-place.result c.args.regex c.args.stay
    (λ k at. pushed_there keys c.args.regex k (sym (ap₂ (λ ks i. slice_get ks i) is c.len-place.ensures.len) ∙ at))
    (λ i h. ap (λ ks. slice_get ks i) is
    ∙ pushed_others keys c.args.regex i (λ e. h (e ∙ sym c.len-place.ensures.len)))
    c.in_ok-put_at.ensures.there c.in_ok-put_at.ensures.others l
    (subst (λ w. IsStay rs c.args.regex w.0 c.args.stay) (sym c.self.view_is) stay)
    (subst (AreWalked rs) (sym c.self.view_is) walked)
