-- The live assertions with their levels, by the assertions that are kept.
use Rattle.sb_solve.proofs.Words.{◌≡◌, ℕ, zero, suc, ◌+◌, Bool, true, false, ◌==◌, if◌then◌else◌, List, [], ◌∷◌, ◌++◌, map, length, take, drop, get_or, slice_get, Option, Some, None, option_map, refl, sym, ap, ap₂, subst, ◌∙◌, arith, AreTerms, fits_sorts, live_laid, IfSome, ◌<◌, nat_eq, All, list_all, and_parts, and_from, false≢true, map-append, take-map, drop-map, take-append-drop, slice_get-get_or, slice_get-map, slice_get_within, same_Some, same_number, Sort, Term, Terms, constant, word, numeral, apply, parameter, no_terms, with_term, is_same_sort, Assertion, asserted, a_mark, live, live_terms, terms_in, term_of, at_level, live_by_level, asked_in, is_declared, names_in, has_sort, are_sorted, is_one_of, speaks_of, speak_of, Stacked, state_of, live_constants, assertion_of, assertion_in, front_names, first_level, levels_above, have_levels, HasNumberBelow, same_sort, IsAssertionAt, term_at, Naming, is_decided, has_declared, have_declared, FittingIsTranslated, HasNoLiteral, brought_translation, fits, is_structure, ◌&&◌, is_well_sorted, translation}
use Rattle.std.specs.List.{Contains}
use Rattle.sb_term.specs.declared.assertion.Assertion as code
use Rattle.sb_stack.specs.declared.level.Level as levels
use Rattle.sb_solve.proofs.Gathered.{all_at}

abbrev Row : Type 0
Row = Option Term × ℕ

-- the assertion's term and its level
abbrev row_of : List Term → code.Assertion → Row
row_of ts a = (option_map (term_at ts) a.term, a.level)

term_as : (ts : List Term) (t : Option ℕ) → term_of (assertion_of ts t) ≡ option_map (term_at ts) t
term_as ts None = refl
term_as ts (Some id) = refl

rows_at : (ts : List Term) (n : ℕ) (xs : List code.Assertion) → list_all (λ a. a.level == n) xs ≡ true
    → at_level n (map (assertion_in ts) xs) ≡ map (row_of ts) xs
rows_at ts n [] h = refl
rows_at ts n (a ∷ xs) h =
    let parts = and_parts (a.level == n) (list_all (λ a. a.level == n) xs) h in
    ap₂ (λ row rows. row ∷ rows) (ap₂ (λ t m. (t, m)) (term_as ts a.term) (same_number a.level n parts.0))
    (rows_at ts n xs parts.1)

levels_kept : (global : Bool) (ls : List levels.Level) (names : List Naming) (xs : List Assertion)
    → length (levels_above global ls names xs) ≡ length ls
levels_kept global [] names xs = refl
levels_kept global (l ∷ ls) names xs =
    ap suc (levels_kept global ls (front_names global l.names names) (take l.assertions xs))

next_level : (global : Bool) (ls : List levels.Level) (names : List Naming) (xs : List Assertion)
    → length (levels_above global ls names xs) + 1 ≡ suc (length ls)
next_level global ls names xs = let kept = levels_kept global ls names xs in omega (arith, kept)

rows_by_level : (global : Bool) (ts : List Term) (ls : List levels.Level) (names : List Naming)
    (xs : List code.Assertion) → have_levels ls xs ≡ true
    → live_by_level (first_level global ls names (map (assertion_in ts) xs))
    (levels_above global ls names (map (assertion_in ts) xs)) ≡ map (row_of ts) xs
rows_by_level global ts [] names xs h = rows_at ts 0 xs h
rows_by_level global ts (l ∷ ls) names xs h =
    let front : List Naming = front_names global l.names names in
    let parts = and_parts (list_all (λ a. a.level == suc (length ls)) (drop l.assertions xs))
    (have_levels ls (take l.assertions xs)) h in
    ap₂ (λ a b. a ++ b)
    (ap (λ ys. live_by_level (first_level global ls front ys) (levels_above global ls front ys))
    (take-map (assertion_in ts) l.assertions xs)
    ∙ rows_by_level global ts ls front (take l.assertions xs) parts.1)
    (ap₂ (λ m ys. at_level m ys)
    (next_level global ls front (take l.assertions (map (assertion_in ts) xs)))
    (drop-map (assertion_in ts) l.assertions xs)
    ∙ rows_at ts (suc (length ls)) (drop l.assertions xs) parts.0)
    ∙ (sym (map-append (row_of ts) (take l.assertions xs) (drop l.assertions xs))
    ∙ ap (map (row_of ts)) (take-append-drop l.assertions xs))

live_rows : (s : Stacked) → have_levels s.levels s.assertions ≡ true
    → (asked_in (state_of s)).live ≡ map (row_of s.table) s.assertions
live_rows s h = rows_by_level s.scope.global s.table s.levels (names_in s.table s.scope) s.assertions h

-- Where those by their levels fit the sorts of the constants, so does the one at a place.

rows_fit : (sorts : List Sort) (ts : List Term) (xs : List code.Assertion) (place : ℕ) (t : Term)
    → ((a : Row) (u : Term) → Contains (map (row_of ts) xs) a → a.0 ≡ Some u → fits_sorts sorts u ≡ true)
    → slice_get (map (assertion_in ts) xs) place ≡ Some (asserted t) → fits_sorts sorts t ≡ true
rows_fit sorts ts [] place t f there = absurd (Prim.cc (there))
rows_fit sorts ts (x ∷ xs) zero t f there =
    f (row_of ts x) t (0, omega arith, refl)
    (sym (term_as ts x.term) ∙ ap term_of (same_Some (assertion_in ts x) (asserted t) there))
rows_fit sorts ts (x ∷ xs) (suc place) t f there =
    rows_fit sorts ts xs place t (λ a u c is. f a u (suc c.0, omega (arith, c.1), c.2) is) there

pub live_fits : (s : Stacked) → have_levels s.levels s.assertions ≡ true → AreTerms (asked_in (state_of s))
    → (place : ℕ) (t : Term) → slice_get (live (state_of s)) place ≡ Some (asserted t)
    → fits_sorts (state_of s).sorts t ≡ true
live_fits s levelled terms place t there =
    rows_fit (state_of s).sorts s.table s.assertions place t
    (λ a u c. terms a u (subst (λ (rows : List Row). Contains rows a) (sym (live_rows s levelled)) c))
    (ap (λ xs. slice_get xs place) (sym (live_laid s)) ∙ there)

-- A term that speaks of constants whose sorts these are has each of them declared.

pub sorted_there : (sorts : List Sort) (cs : List (ℕ × Sort)) (serial : ℕ) (sort : Sort) → are_sorted sorts cs ≡ true
    → is_one_of cs serial sort ≡ true → is_declared sorts sort serial ≡ true
sorted_there sorts [] serial sort h one = absurd (false≢true one)
sorted_there sorts (c ∷ cs) serial sort h one =
    step (nat_eq c.0 serial) refl one (sorted_there sorts cs serial sort parts.1)
  where
    parts : (has_sort sorts c ≡ true) × (are_sorted sorts cs ≡ true)
    parts = and_parts (has_sort sorts c) (are_sorted sorts cs) h

    step : (b : Bool) → nat_eq c.0 serial ≡ b → (if b then is_same_sort c.1 sort else is_one_of cs serial sort) ≡ true
        → (is_one_of cs serial sort ≡ true → is_declared sorts sort serial ≡ true)
        → is_declared sorts sort serial ≡ true
    step true is same later =
        ap₂ (is_declared sorts) (sym (same_sort c.1 sort same)) (same_number c.0 serial is) ∙ parts.0
    step false is one later = later one

module _ (sorts : List Sort) (cs : List (ℕ × Sort)) (sorted : are_sorted sorts cs ≡ true) where
  mutual
    declared_of : (t : Term) → speaks_of cs t ≡ true → has_declared sorts t ≡ true
    declared_of (constant serial sort) h = sorted_there sorts cs serial sort sorted h
    declared_of (word w) h = refl
    declared_of (numeral n) h = refl
    declared_of (apply s terms) h = all_declared terms h
    declared_of (parameter place sort) h = refl

    all_declared : (ts : Terms) → speak_of cs ts ≡ true → have_declared sorts ts ≡ true
    all_declared no_terms h = refl
    all_declared (with_term t ts) h =
        let parts = and_parts (speaks_of cs t) (speak_of cs ts) h in
        and_from (has_declared sorts t) (have_declared sorts ts) (declared_of t parts.0) (all_declared ts parts.1)

-- A live term.

pub same_term : (t u : Term) → asserted t ≡ asserted u → t ≡ u
same_term t u h = cc

pub term_passes : (p : Term → Bool) (assertions : List Assertion) (place : ℕ) (t : Term)
    → list_all p (terms_in assertions) ≡ true → slice_get assertions place ≡ Some (asserted t) → p t ≡ true
term_passes p [] place t h there = absurd (omega (arith, slice_get_within [] place (asserted t) there))
term_passes p (asserted u ∷ rest) zero t h there =
    ap p (sym (same_term u t (same_Some (asserted u) (asserted t) there)))
    ∙ (and_parts (p u) (list_all p (terms_in rest)) h).0
term_passes p (asserted u ∷ rest) (suc place) t h there =
    term_passes p rest place t (and_parts (p u) (list_all p (terms_in rest)) h).1 there
term_passes p (a_mark ∷ rest) zero t h there = absurd (cc (there))
term_passes p (a_mark ∷ rest) (suc place) t h there = term_passes p rest place t h there

-- what is decided is Boolean structure within the fragment
decided_parts : (t : Term) → is_decided (asserted t) ≡ true
    → (is_structure t ≡ true) × (fits t ≡ true)
decided_parts t h = and_parts (is_structure t) (fits t) h

-- a well-sorted one that is decided has a literal
pub has_literal : FittingIsTranslated → (assertions : List Assertion) (place : ℕ) (t : Term)
    → list_all is_decided assertions ≡ true → list_all is_well_sorted (terms_in assertions) ≡ true
    → slice_get assertions place ≡ Some (asserted t) → HasNoLiteral t → ⊥
has_literal law assertions place t decided sorted there none =
    let parts = decided_parts t (all_at is_decided assertions place (asserted t) decided there) in
    let found = law t parts.1 (term_passes is_well_sorted assertions place t sorted there) [] in
    let is : brought_translation found.0 t ≡ Some found.1 =
    ap (λ b. if b then translation found.0 t else None) parts.0 ∙ found.2 in
    let e : Some found.1 ≡ None = sym is ∙ none found.0 in
    Prim.cc (e)

-- What stands at a place.

module _ (s : Stacked) (rows : List code.Assertion) (place : ℕ) (a : code.Assertion) (value : rows ≡ s.assertions)
    (same : map (assertion_in s.table) rows ≡ live (state_of s)) (within : place < length s.assertions)
    (is : a ≡ get_or rows place a)
  where
    inside : place < length rows
    inside = subst (λ (xs : List code.Assertion). place < length xs) (sym value) within

    there : slice_get (live (state_of s)) place ≡ Some (assertion_in s.table a)
    there = ap (λ xs. slice_get xs place) (sym same) ∙ slice_get-map (assertion_in s.table) rows place
        ∙ ap (option_map (assertion_in s.table)) (slice_get-get_or rows place a inside)
        ∙ ap (λ b. Some (assertion_in s.table b)) (sym is)

    pub no_mark : list_all is_decided (live (state_of s)) ≡ true → a.term ≡ None → ⊥
    no_mark decided none =
        false≢true (ap (λ o. is_decided (assertion_of s.table o)) (sym none)
        ∙ all_at is_decided (live (state_of s)) place (assertion_in s.table a) decided there)

    pub assertion_there : (sorts : List Sort) (id : ℕ) → list_all is_decided (live (state_of s)) ≡ true
        → All (HasNumberBelow (length s.table)) s.assertions
        → list_all (speaks_of (live_constants s)) (live_terms (state_of s)) ≡ true
        → sorts ≡ (state_of s).sorts → are_sorted sorts (live_constants s) ≡ true
        → have_levels s.levels s.assertions ≡ true → a.term ≡ Some id → IsAssertionAt s place id a.level
    assertion_there sorts id decided numbers named its_sorts sorted levelled some = record {
      known = subst (λ o. IfSome o (λ i. i < length s.table)) (ap (λ (b : code.Assertion). b.term) (sym it) ∙ some)
          (numbers place a within);
      stands = stands;
      statement = record {
        live = ap (λ xs. slice_get xs place) (live_rows s levelled)
            ∙ slice_get-map (row_of s.table) s.assertions place
            ∙ ap (option_map (row_of s.table)) (slice_get-get_or s.assertions place a within)
            ∙ ap₂ (λ o n. Some (option_map (term_at s.table) o, n))
            (ap (λ (b : code.Assertion). b.term) (sym it) ∙ some)
            (ap (λ (b : code.Assertion). b.level) (sym it));
        decided = all_at is_decided (live (state_of s)) place (asserted (term_at s.table id)) decided stands;
        declared = declared_of (state_of s).sorts (live_constants s)
            (subst (λ (xs : List Sort). are_sorted xs (live_constants s) ≡ true) its_sorts sorted) (term_at s.table id)
            (term_passes (speaks_of (live_constants s)) (live (state_of s)) place (term_at s.table id) named stands);
      };
    }
      where
        it : a ≡ get_or s.assertions place a
        it = subst (λ (xs : List code.Assertion). a ≡ get_or xs place a) value is

        stands : slice_get (live (state_of s)) place ≡ Some (asserted (term_at s.table id))
        stands = there ∙ ap (λ o. Some (assertion_of s.table o)) some
