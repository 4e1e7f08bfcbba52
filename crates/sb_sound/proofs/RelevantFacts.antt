-- What the tests of relevant atoms and regexes say.
use Rattle.std.proofs.Common.{◌≡◌, ◌≢◌, ℕ, zero, suc, ◌<◌, Bool, true, false, List, [], ◌∷◌, length, get_or, sym, ap, ◌∙◌, arith}
use Rattle.std.specs.List.{list_any}
use Rattle.std.specs.Ordering.{is_eq}
use Rattle.std.proofs.lemmas.Bool.{false≢true, and_parts, not-true, or_parts}
use Rattle.sb_lang.specs.Regex.{Regex}
use Rattle.sb_lang.specs.Order.{regex_eq}
use Rattle.sb_lang.specs.OrderLaws.{OrderTellsApart}
use Rattle.sb_rulebook.specs.Atoms.{Atom, bool_atom, in_atom, le_atom, sum_atom, and_atom, iff_atom}
use Rattle.sb_rulebook.specs.Relevant.{Signed, speaks_of, are_distinct}
use Rattle.sb_sound.specs.RelevantLaws.{StandsIn}
use Rattle.sb_sound.proofs.PassFacts.{find_any}
use Rattle.sb_sound.proofs.SameParts.{same_variable}
use Rattle.sb_script.specs.Sums.{Variable, is_same_variable}

pub stands : (x : Variable) (a : Atom) → speaks_of x a ≡ true → StandsIn x a
stands x (le_atom y k) h = same_variable x y h
stands x (sum_atom k ss) h =
    let f = find_any (λ s. is_same_variable x s.1) ss h in
    (f.element, f.within, same_variable x f.element.1 f.passes)
stands x (bool_atom serial) h = absurd (false≢true h)
stands x (in_atom ps r) h = absurd (false≢true h)
stands x (and_atom ls) h = absurd (false≢true h)
stands x (iff_atom l m) h = absurd (false≢true h)

-- where none passes, the one at a place does not
none_at : {A : Type 0} (test : A → Bool) (xs : List A) → list_any test xs ≡ false → (j : ℕ) (d : A) → j < length xs
    → test (get_or xs j d) ≡ false
none_at test [] h j d l = absurd (omega (arith, l))
none_at test (x ∷ xs) h zero d l = (or_parts (test x) (list_any test xs) h).0
none_at test (x ∷ xs) h (suc j) d l =
    none_at test xs (or_parts (test x) (list_any test xs) h).1 j d (omega (arith, l))

equal_regexes : OrderTellsApart → (r s : Regex) → r ≡ s → regex_eq r s ≡ true
equal_regexes apart r s e = ap is_eq ((apart r s).1 e)

pub distinct : OrderTellsApart → (ms : List Signed) → are_distinct ms ≡ true → (i j : ℕ) (d : Signed) → i < j
    → j < length ms → (get_or ms i d).0 ≢ (get_or ms j d).0
distinct apart [] h i j d l m = absurd (omega (arith, m))
distinct apart (x ∷ xs) h i zero d l m = absurd (omega (arith, l))
distinct apart (x ∷ xs) h zero (suc j) d l m = λ e.
    let none = not-true (list_any (λ n. regex_eq x.0 n.0) xs) (and_parts _ (are_distinct xs) h).0 in
    false≢true
    (sym (none_at (λ n. regex_eq x.0 n.0) xs none j d (omega (arith, m)))
    ∙ equal_regexes apart x.0 (get_or xs j d).0 e)
distinct apart (x ∷ xs) h (suc i) (suc j) d l m =
    distinct apart xs (and_parts _ (are_distinct xs) h).1 i j d (omega (arith, l)) (omega (arith, m))
