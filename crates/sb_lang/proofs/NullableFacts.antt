-- A regex is nullable exactly where its language has the empty word.
use Rattle.std.proofs.Common.{◌≡◌, not, ◌&&◌, ◌||◌, ◌==◌, nat_le, [], refl, sym, ap, ap₂, ◌∙◌}
use Rattle.sb_lang.specs.Languages.{cut}
use Rattle.sb_lang.specs.Regex.{Regex, Regexes, none, eps, set, cat, alt, and, neg, star, rep, path, no_more, more}
use Rattle.sb_lang.specs.Derivative.{nullable, some_nullable, all_nullable, nd_along}
use Rattle.sb_lang.specs.Language.{language, some_language, all_languages}
use Rattle.sb_lang.proofs.CutFacts.{repeat-empty, iterate-empty}

mutual
  unfolding nullable some_nullable all_nullable language some_language all_languages nd_along cut

  pub nullable_tells : (r : Regex) → nullable r ≡ language r []
  nullable_tells none = refl
  nullable_tells eps = refl
  nullable_tells (set rs) = refl
  nullable_tells (cat a b) = ap₂ ◌&&◌ (nullable_tells a) (nullable_tells b)
  nullable_tells (alt ps) = some_nullable_tells ps
  nullable_tells (and ps) = all_nullable_tells ps
  nullable_tells (neg a) = ap not (nullable_tells a)
  nullable_tells (star a) = sym (iterate-empty (language a))
  nullable_tells (rep a n m) = ap (λ x. nat_le n m && ((n == 0) || x)) (nullable_tells a)
      ∙ sym (repeat-empty (language a) n m)
  nullable_tells (path a b) = refl

  some_nullable_tells : (ps : Regexes) → some_nullable ps ≡ some_language ps []
  some_nullable_tells no_more = refl
  some_nullable_tells (more r rs) = ap₂ ◌||◌ (nullable_tells r) (some_nullable_tells rs)

  all_nullable_tells : (ps : Regexes) → all_nullable ps ≡ all_languages ps []
  all_nullable_tells no_more = refl
  all_nullable_tells (more r rs) = ap₂ ◌&&◌ (nullable_tells r) (all_nullable_tells rs)
