-- What a caller cites of terms by their numbers, in a table that grows, and of terms from the largest number down.
use Rattle.std.proofs.Common.{◌≡◌, ℕ, zero, suc, ◌+◌, ◌<◌, ◌≤◌, true, nat_lt, Some, List, [], ◌∷◌, ◌++◌, length, get_or, refl, sym, ap, ap₂, ◌∙◌, arith, append_assoc, length-append}
use Rattle.std.proofs.lemmas.Bool.{and_parts, and_from}
use Rattle.std.proofs.lemmas.Bool.Decides.{nat_tests}
use Rattle.std.proofs.lemmas.List.{append-nil, get_or_append_left}
use Rattle.std.proofs.lemmas.Option.{get_or_from_slice_get, slice_get_within, slice_get-get_or}
use Rattle.sb_meaning.specs.Terms.{Term, Terms, constant, word, numeral, apply, parameter, no_terms, with_term, terms_of}
use Rattle.sb_term.specs.Numbered.{term_at, terms_at, Names, AllNumbers, Extends}
use Rattle.sb_term.specs.Serials.{has_serials_below, have_serials_below, all_below}
-- what is left to be gone into, the largest number first, until nothing is left
pub use Rattle.sb_term.proofs.Descending.{reaching_start, next_within, next_passes, reaching_step, reached_all, top_falls}
-- what is known of terms, from the smallest number up
pub use Rattle.sb_term.proofs.Knowing.{none_known, parts_known, next_known, all_known}

pub extends_same : (ts : List Term) → Extends ts ts
extends_same ts = record { more = []; is = sym (append-nil ts) }

pub extends_more : (a b c : List Term) → Extends a b → Extends b c → Extends a c
extends_more a b c p q =
    record { more = p.more ++ q.more; is = q.is ∙ ap (λ x. x ++ q.more) p.is ∙ append_assoc a p.more q.more }

pub long_kept : (old new : List Term) → Extends old new → length old ≤ length new
long_kept old new e = omega (arith, ap length e.is, length-append old e.more)

pub at_kept : (old new : List Term) (i : ℕ) → Extends old new → i < length old → term_at new i ≡ term_at old i
at_kept old new i e h = ap (λ xs. get_or xs i (word [])) e.is ∙ get_or_append_left old e.more (word []) i h

pub names_at : (ts : List Term) (i : ℕ) (t : Term) → Names ts i t → term_at ts i ≡ t
names_at ts i t h = get_or_from_slice_get ts i t (word []) h

pub names_below : (ts : List Term) (i : ℕ) (t : Term) → Names ts i t → i < length ts
names_below ts i t h = slice_get_within ts i t h

pub names_from : (ts : List Term) (i : ℕ) (t : Term) → i < length ts → term_at ts i ≡ t → Names ts i t
names_from ts i t l e = slice_get-get_or ts i (word []) l ∙ ap Some e

pub names_kept : (old new : List Term) (i : ℕ) (t : Term) → Extends old new → Names old i t → Names new i t
names_kept old new i t e h =
    let l = names_below old i t h in
    names_from new i t (omega (arith, l, long_kept old new e)) (at_kept old new i e l ∙ names_at old i t h)

pub number_kept : (old new : List Term) (i : ℕ) → Extends old new → i < length old → i < length new
number_kept old new i e h = omega (arith, h, long_kept old new e)

pub numbers_kept : (old new : List Term) (is : List ℕ) → Extends old new → AllNumbers old is → AllNumbers new is
numbers_kept old new is e h = λ k d l. number_kept old new (get_or is k d) e (h k d l)

pub ats_kept : (old new : List Term) (is : List ℕ) → Extends old new → AllNumbers old is
    → terms_at new is ≡ terms_at old is
ats_kept old new [] e h = refl
ats_kept old new (i ∷ is) e h =
    ap₂ (λ t ts. t ∷ ts) (at_kept old new i e (h 0 0 (omega arith)))
    (ats_kept old new is e (λ k d l. h (suc k) d (omega (arith, l))))

-- The serials of constants.

pub below_at : (n : ℕ) (ts : List Term) (i : ℕ) → all_below n ts ≡ true → i < length ts
    → has_serials_below n (term_at ts i) ≡ true
below_at n [] i h l = absurd (omega arith)
below_at n (t ∷ ts) zero h l = (and_parts (has_serials_below n t) (all_below n ts) h).0
below_at n (t ∷ ts) (suc i) h l =
    below_at n ts i (and_parts (has_serials_below n t) (all_below n ts) h).1 (omega arith)

-- the terms of numbers in the table
pub belows_at : (n : ℕ) (ts : List Term) (is : List ℕ) → all_below n ts ≡ true → AllNumbers ts is
    → have_serials_below n (terms_of (terms_at ts is)) ≡ true
belows_at n ts [] h l = refl
belows_at n ts (i ∷ is) h l =
    and_from _ _ (below_at n ts i h (l 0 0 (omega arith)))
    (belows_at n ts is h (λ k d m. l (suc k) d (omega (arith, m))))

below_next : (serial n : ℕ) → nat_lt serial n ≡ true → nat_lt serial (n + 1) ≡ true
below_next serial n h = grind (arith, nat_tests)

mutual
  term_below_more : (n : ℕ) (t : Term) → has_serials_below n t ≡ true → has_serials_below (n + 1) t ≡ true
  term_below_more n (constant serial sort) h = below_next serial n h
  term_below_more n (word w) h = refl
  term_below_more n (numeral m) h = refl
  term_below_more n (apply s terms) h = terms_below_more n terms h
  term_below_more n (parameter place sort) h = refl

  terms_below_more : (n : ℕ) (ts : Terms) → have_serials_below n ts ≡ true → have_serials_below (n + 1) ts ≡ true
  terms_below_more n no_terms h = refl
  terms_below_more n (with_term t ts) h = let parts = and_parts _ _ h in
      and_from _ _ (term_below_more n t parts.0) (terms_below_more n ts parts.1)

-- where one more constant is declared
pub all_below_more : (n : ℕ) (ts : List Term) → all_below n ts ≡ true → all_below (n + 1) ts ≡ true
all_below_more n [] h = refl
all_below_more n (t ∷ ts) h = let parts = and_parts (has_serials_below n t) (all_below n ts) h in
    and_from _ _ (term_below_more n t parts.0) (all_below_more n ts parts.1)
