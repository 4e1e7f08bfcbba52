-- What a check of the state asks of a line, over the table of its terms.
use Rattle.std.proofs.Common.{◌≡◌, ◌==◌, ℕ, suc, ◌+◌, Bool, true, List, [], ◌∷◌, ◌++◌, map, length, take, drop, Option, Some, None, option_map, refl, ap, ap₂, sym, ◌∙◌, subst, add-one}
use Rattle.std.specs.List.{list_all}
use Rattle.std.proofs.lemmas.Bool.{and_parts, eqb-true}
use Rattle.std.proofs.lemmas.List.{take-map, drop-map, map-append, take-append-drop}
use Rattle.sb_meaning.specs.Terms.{Term}
use Rattle.sb_script.specs.State as meaning
use Rattle.sb_script.specs.Scopes.{Naming}
use Rattle.sb_rulebook.specs.Accepted.{at_level, live_by_level, asked_in, term_of}
use Rattle.sb_term.specs.Numbered.{term_at}
use Rattle.sb_term.specs.declared.assertion.Assertion.{Assertion}
use Rattle.sb_term.specs.declared.sort.Sort.{Sort}
use Rattle.sb_sorts.specs.Scopes.{names_in}
use Rattle.sb_stack.specs.declared.level.Level.{Level}
use Rattle.sb_stack.specs.Stacked.{Stacked, state_of, assertion_in, assertion_of, front_names, first_level, levels_above, have_levels}
use Rattle.sb_rules.specs.Kept.{IsAsked, live_in}

term_as : (ts : List Term) (t : Option ℕ) → term_of (assertion_of ts t) ≡ option_map (term_at ts) t
term_as ts None = refl
term_as ts (Some id) = refl

at_one_level : (ts : List Term) (level : ℕ) (assertions : List Assertion)
    → list_all (λ a. a.level == level) assertions ≡ true
    → at_level level (map (assertion_in ts) assertions) ≡ map (live_in ts) assertions
at_one_level ts level [] h = refl
at_one_level ts level (a ∷ rest) h =
    let parts = and_parts (a.level == level) (list_all (λ b. b.level == level) rest) h in
    ap₂ (λ x ls. x ∷ ls) (ap₂ (λ t n. (t, n)) (term_as ts a.term) (sym (eqb-true a.level level parts.0)))
    (at_one_level ts level rest parts.1)

as_many : (global : Bool) (ls : List Level) (names : List Naming) (assertions : List meaning.Assertion)
    → length (levels_above global ls names assertions) ≡ length ls
as_many global [] names assertions = refl
as_many global (l ∷ ls) names assertions =
    ap suc (as_many global ls (front_names global l.names names) (take l.assertions assertions))

-- the live assertions with their levels, by the number that each has
live_as : (global : Bool) (ts : List Term) (ls : List Level) (names : List Naming) (xs : List Assertion)
    → have_levels ls xs ≡ true
    → live_by_level (first_level global ls names (map (assertion_in ts) xs))
    (levels_above global ls names (map (assertion_in ts) xs)) ≡ map (live_in ts) xs
live_as global ts [] names xs h = at_one_level ts 0 xs h
live_as global ts (l ∷ ls) names xs h =
    let front : List Naming = front_names global l.names names in
    let parts = and_parts (list_all (λ a. a.level == suc (length ls)) (drop l.assertions xs))
    (have_levels ls (take l.assertions xs)) h in
    ap₂ (λ a b. a ++ b)
    (ap (λ ys. live_by_level (first_level global ls front ys) (levels_above global ls front ys))
    (take-map (assertion_in ts) l.assertions xs) ∙ live_as global ts ls front (take l.assertions xs) parts.1)
    (ap₂ at_level (ap (λ m. m + 1) (as_many global ls front (take l.assertions (map (assertion_in ts) xs)))
    ∙ add-one (length ls)) (drop-map (assertion_in ts) l.assertions xs)
    ∙ at_one_level ts (suc (length ls)) (drop l.assertions xs) parts.0)
    ∙ (sym (map-append (live_in ts) (take l.assertions xs) (drop l.assertions xs))
    ∙ ap (map (live_in ts)) (take-append-drop l.assertions xs))

pub asked_of : (stack : Stacked) → have_levels stack.levels stack.assertions ≡ true
    → IsAsked stack.table stack.assertions stack.scope.sorts 0 (asked_in (state_of stack))
asked_of stack levels = record {
  live = live_as stack.scope.global stack.table stack.levels (names_in stack.table stack.scope) stack.assertions
      levels;
  declared = refl;
  limit = refl;
}

pub asked_over : (stack : Stacked) (ts : List Term) (assertions : List Assertion) (sorts : List Sort) → ts ≡ stack.table
    → assertions ≡ stack.assertions → sorts ≡ stack.scope.sorts → have_levels stack.levels stack.assertions ≡ true
    → IsAsked ts assertions sorts 0 (asked_in (state_of stack))
asked_over stack ts assertions sorts t a d levels =
    subst (λ x. IsAsked x assertions sorts 0 (asked_in (state_of stack))) (sym t)
    (subst (λ x. IsAsked stack.table x sorts 0 (asked_in (state_of stack))) (sym a)
    (subst (λ x. IsAsked stack.table stack.assertions x 0 (asked_in (state_of stack))) (sym d) (asked_of stack levels)))
