-- What stands at a place of a list, or past its end.
use Rattle.std.proofs.Common.{◌≡◌, ℕ, ◌<◌, ◌≤◌, List, length, get_or, slice_get, unwrap_or, refl, sym, ap, ◌∙◌}
use Rattle.std.proofs.lemmas.Option.{slice_get_past, slice_get_read}

module _ {A : Type 0} (now items xs : List A) (n : ℕ) (d : A) (same : now ≡ items) (is : items ≡ xs) where
  pub at_none : length now ≤ n → unwrap_or (slice_get xs n) d ≡ d
  at_none past =
      ap (λ o. unwrap_or o d) (ap (λ ys. slice_get ys n) (sym (same ∙ is)) ∙ slice_get_past now n past)

  pub at_some : (x : A) → n < length now → x ≡ get_or now n x → unwrap_or (slice_get xs n) d ≡ x
  at_some x low at =
      ap (λ o. unwrap_or o d)
      (ap (λ ys. slice_get ys n) (sym (same ∙ is)) ∙ slice_get_read now (length now) n x refl low at)
