-- The constants of terms, by their serials.
use Rattle.std.specs.Prelude.{ℕ, Bool, true, ◌&&◌, nat_lt, List}
use Rattle.std.specs.List.{list_all}
use Rattle.sb_meaning.specs.Terms.{Term, Terms, constant, word, numeral, apply, parameter, no_terms, with_term}

-- each constant in the term has a serial below this
abbrev mutual
  pub has_serials_below : ℕ → Term → Bool
  has_serials_below n (constant serial sort) = nat_lt serial n
  has_serials_below n (word w) = true
  has_serials_below n (numeral m) = true
  has_serials_below n (apply s terms) = have_serials_below n terms
  has_serials_below n (parameter place sort) = true

  pub have_serials_below : ℕ → Terms → Bool
  have_serials_below n no_terms = true
  have_serials_below n (with_term term terms) = has_serials_below n term && have_serials_below n terms

-- and so in each of these terms
abbrev pub all_below : ℕ → List Term → Bool
all_below n ts = list_all (has_serials_below n) ts
