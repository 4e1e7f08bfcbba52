-- The set of what a clause denies, and the assumptions that are taken out of it.
use Rattle.sb_solve.proofs.Words.{◌≡◌, ℕ, Bool, true, false, not, cond, ◌&&◌, ◌==◌, if◌then◌else◌, List, [], ◌∷◌, ◌++◌, filter, slice_get, Option, Some, None, option_map, refl, sym, ap, ◌∙◌, list_any, list_any-append, append_assoc, eq-eqb, false≢true, slice_get-map, AreDenials, Assumption, AtomOver, Lit, Names, Regex, are_equal, atoms_in, bool_atom, in_atom, le_atom, sum_atom, and_atom, iff_atom, claim_of, denied_in, denies, each_once, filter_twice, is_constant, is_same_assumption, is_same_truth, over}
use Rattle.std.proofs.Math.Bool.{and_comm, or-false}
use Rattle.std.specs.Prelude.{◌||◌}
use mathlib.Core.Bool.{beq}

-- Truth values.

pub with_one : (x b : Bool) → cond x true b ≡ (b || x)
with_one true true = refl
with_one true false = refl
with_one false true = refl
with_one false false = refl

without_one : (x b : Bool) → cond x false b ≡ (b && not x)
without_one true true = refl
without_one true false = refl
without_one false true = refl
without_one false false = refl

same_value : (p q : Bool) → beq p q ≡ (if p then q else not q)
same_value true true = refl
same_value true false = refl
same_value false true = refl
same_value false false = refl

other_value : (p q : Bool) → beq (not p) q ≡ is_same_truth p (not q)
other_value true true = refl
other_value true false = refl
other_value false true = refl
other_value false false = refl

-- What is in the set.

-- where one is taken out
pub taken_out : (a b : Assumption) (there : Bool)
    → cond (are_equal (claim_of a) (claim_of b)) false there ≡ (there && not (is_same_assumption a b))
taken_out a b there =
    without_one (are_equal (claim_of a) (claim_of b)) there
    ∙ ap (λ x. there && not ((a.0 == b.0) && x)) (same_value a.1 b.1)

-- what a literal of a Bool constant denies, and that another denies nothing
pub denies_there : (rs : List Regex) (atoms : List (AtomOver ℕ)) (l : Lit) (serial : ℕ) (a : Assumption)
    → Names atoms l.atom (bool_atom serial)
    → are_equal (record { serial = serial; holds = not l.positive }) (claim_of a)
    ≡ denies l (slice_get (atoms_in rs atoms) l.atom) a
denies_there rs atoms l serial a at =
    ap (λ x. (serial == a.0) && x) (other_value l.positive a.1)
    ∙ ap (λ o. denies l o a)
    (sym (slice_get-map (over rs) atoms l.atom ∙ ap (option_map (over rs)) at))

denies_nowhere : (rs : List Regex) (atoms : List (AtomOver ℕ)) (l : Lit) (a : Assumption)
    → ((serial : ℕ) → is_constant serial (slice_get atoms l.atom) ≡ false)
    → denies l (slice_get (atoms_in rs atoms) l.atom) a ≡ false
denies_nowhere rs atoms l a none =
    ap (λ o. denies l o a) (slice_get-map (over rs) atoms l.atom) ∙ step (slice_get atoms l.atom) none
  where
    step : (o : Option (AtomOver ℕ)) → ((serial : ℕ) → is_constant serial o ≡ false)
        → denies l (option_map (over rs) o) a ≡ false
    step None h = refl
    step (Some (bool_atom serial)) h = absurd (false≢true (sym (h serial) ∙ eq-eqb serial serial refl))
    step (Some (in_atom ps r)) h = refl
    step (Some (le_atom x k)) h = refl
    step (Some (sum_atom k ss)) h = refl
    step (Some (and_atom ls)) h = refl
    step (Some (iff_atom l m)) h = refl

pub nothing_denied : (rs : List Regex) (atoms : List (AtomOver ℕ)) (l : Lit) (a : Assumption) (there : Bool)
    → ((serial : ℕ) → is_constant serial (slice_get atoms l.atom) ≡ false)
    → there ≡ (there || denies l (slice_get (atoms_in rs atoms) l.atom) a)
nothing_denied rs atoms l a there none =
    sym (ap (λ d. there || d) (denies_nowhere rs atoms l a none) ∙ or-false there)

-- one literal more
pub denials_more : (atoms : List (AtomOver ℕ)) (ls : List Lit) (l : Lit) (has now : Assumption → Bool)
    → AreDenials atoms ls has
    → ((rs : List Regex) (a : Assumption)
    → now a ≡ (has a || denies l (slice_get (atoms_in rs atoms) l.atom) a))
    → AreDenials atoms (ls ++ l ∷ []) now
denials_more atoms ls l has now are more = λ rs a.
    let test : Lit → Bool = λ m. denies m (slice_get (atoms_in rs atoms) m.atom) a in
    more rs a
    ∙ ap (λ b. b || test l) (are rs a)
    ∙ sym (list_any-append test ls (l ∷ []) ∙ ap (λ b. list_any test ls || b) (or-false (test l)))

-- Those that are taken out, one after the other.

filter_same : (p q : Assumption → Bool) → ((a : Assumption) → p a ≡ q a) → (xs : List Assumption)
    → filter p xs ≡ filter q xs
filter_same p q same [] = refl
filter_same p q same (x ∷ xs) =
    ap (λ b. cond b (x ∷ filter p xs) (filter p xs)) (same x)
    ∙ ap (λ (ys : List Assumption). cond (q x) (x ∷ ys) ys) (filter_same p q same xs)

-- those that are left are what the first ones leave
pub left_first : (rs : List Regex) (atoms : List (AtomOver ℕ)) (clause : List Lit) (given : List Assumption)
    (has : Assumption → Bool) → AreDenials atoms clause has
    → filter has (each_once given) ≡ denied_in (atoms_in rs atoms) clause given
left_first rs atoms clause given has are =
    filter_same has (λ a. list_any (λ l. denies l (slice_get (atoms_in rs atoms) l.atom) a) clause)
    (are rs) (each_once given)

left_behind : (has now : Assumption → Bool) (a : Assumption) (rest : List Assumption)
    → ((b : Assumption) → now b ≡ (has b && not (is_same_assumption a b)))
    → filter has (filter (λ b. not (is_same_assumption a b)) (each_once rest)) ≡ filter now (each_once rest)
left_behind has now a rest left =
    filter_twice has (λ b. not (is_same_assumption a b)) (each_once rest)
    ∙ filter_same (λ b. not (is_same_assumption a b) && has b) now
    (λ b. and_comm (not (is_same_assumption a b)) (has b) ∙ sym (left b)) (each_once rest)

-- one that is not there,
pub left_other : (has now : Assumption → Bool) (a : Assumption) (found rest whole : List Assumption)
    → has a ≡ false → ((b : Assumption) → now b ≡ (has b && not (is_same_assumption a b)))
    → found ++ filter has (each_once (a ∷ rest)) ≡ whole → found ++ filter now (each_once rest) ≡ whole
left_other has now a found rest whole none left h =
    let behind = filter has (filter (λ b. not (is_same_assumption a b)) (each_once rest)) in
    ap (λ (xs : List Assumption). found ++ xs) (sym (left_behind has now a rest left))
    ∙ ap (λ b. found ++ cond b (a ∷ behind) behind) (sym none)
    ∙ h

-- and one that is
pub left_taken : (has now : Assumption → Bool) (a : Assumption) (found rest whole : List Assumption)
    → has a ≡ true → ((b : Assumption) → now b ≡ (has b && not (is_same_assumption a b)))
    → found ++ filter has (each_once (a ∷ rest)) ≡ whole
    → (found ++ a ∷ []) ++ filter now (each_once rest) ≡ whole
left_taken has now a found rest whole there left h =
    let behind = filter has (filter (λ b. not (is_same_assumption a b)) (each_once rest)) in
    append_assoc found (a ∷ []) (filter now (each_once rest))
    ∙ ap (λ (xs : List Assumption). found ++ a ∷ xs) (sym (left_behind has now a rest left))
    ∙ ap (λ b. found ++ cond b (a ∷ behind) behind) (sym there)
    ∙ h
