-- Each entry of a script keeps that everything in the state is well sorted.
use Rattle.std.proofs.Common.{◌≡◌, ℕ, ◌+◌, true, List, [], ◌∷◌, ◌++◌, length, refl, ap, ◌∙◌, subst, arith}
use Rattle.std.specs.List.{list_all}
use Rattle.std.proofs.lemmas.Bool.{and_parts, and_from, false≢true}
use Rattle.std.proofs.lemmas.List.{append_assoc}
use Rattle.sb_reader.specs.Entries.{Entry}
use Rattle.sb_meaning.specs.Terms.{Sort, Term, Terms, constant, word, numeral, apply, parameter, no_terms, with_term}
use Rattle.sb_script.specs.Names.{Name}
use Rattle.sb_script.specs.Scopes.{Naming, Named, a_constant, a_definition, a_marked_name, a_term}
use Rattle.sb_script.specs.Commands.{Parameter}
use Rattle.sb_script.specs.State.{State, live_terms}
use Rattle.sb_script.specs.Replies.{bound_from, step_of}
use Rattle.sb_script.specs.WellSorted.{is_parameter_of, is_well_sorted_over, are_well_sorted_over, is_well_sorted}
use Rattle.sb_script.specs.ReadingLaws.{is_sorted_naming}
use Rattle.sb_script.specs.SortedStates.{is_sorted_state, is_sorted_behind}
use Rattle.sb_script.proofs.ReadingFacts.{all_both}
use Rattle.sb_script.proofs.LevelLemmas.{LevelsKeep, live_all, levels_keep}
use Rattle.sb_script.proofs.SortedTerms.{same_sort_itself, read_is_well_sorted}

-- Without parameters a term is well sorted over any.

mutual
  over_any : (ps : List Sort) (t : Term) → is_well_sorted t ≡ true → is_well_sorted_over ps t ≡ true
  over_any ps (constant serial sort) h = refl
  over_any ps (word w) h = refl
  over_any ps (numeral n) h = refl
  over_any ps (apply s terms) h =
      let parts = and_parts _ (are_well_sorted_over [] terms) h in
      and_from _ (are_well_sorted_over ps terms) parts.0 (each_over_any ps terms parts.1)
  over_any ps (parameter place sort) h = absurd (false≢true h)

  each_over_any : (ps : List Sort) (terms : Terms) → are_well_sorted_over [] terms ≡ true
      → are_well_sorted_over ps terms ≡ true
  each_over_any ps no_terms h = refl
  each_over_any ps (with_term t terms) h =
      let parts = and_parts (is_well_sorted t) (are_well_sorted_over [] terms) h in
      and_from (is_well_sorted_over ps t) (are_well_sorted_over ps terms) (over_any ps t parts.0)
      (each_over_any ps terms parts.1)

named_over_any : (ps : List Sort) (name : Name) (kind : Named) → is_sorted_naming [] (name, kind) ≡ true
    → is_sorted_naming ps (name, kind) ≡ true
named_over_any ps name (a_constant serial sort) h = refl
named_over_any ps name (a_definition own body) h = h
named_over_any ps name a_marked_name h = refl
named_over_any ps name (a_term t) h = over_any ps t h

names_over_any : (ps : List Sort) (names : List Naming) → list_all (is_sorted_naming []) names ≡ true
    → list_all (is_sorted_naming ps) names ≡ true
names_over_any ps [] h = refl
names_over_any ps (n ∷ ns) h =
    let parts = and_parts (is_sorted_naming [] n) (list_all (is_sorted_naming []) ns) h in
    and_from (is_sorted_naming ps n) (list_all (is_sorted_naming ps) ns) (named_over_any ps n.0 n.1 parts.0)
    (names_over_any ps ns parts.1)

-- a sort at its place
sort_at : (before : List Sort) (sort : Sort) (rest : List Sort)
    → is_parameter_of (before ++ sort ∷ rest) sort (length before) ≡ true
sort_at [] sort rest = same_sort_itself sort
sort_at (k ∷ ks) sort rest = sort_at ks sort rest

parameters_sorted : (before : List Sort) (place : ℕ) (ps : List Parameter) (sorts : List Sort) → place ≡ length before
    → list_all (is_sorted_naming (before ++ sorts)) (bound_from place ps sorts) ≡ true
parameters_sorted before place [] sorts e = refl
parameters_sorted before place (p ∷ ps) [] e = refl
parameters_sorted before place (p ∷ ps) (sort ∷ sorts) e =
    and_from (is_parameter_of (before ++ sort ∷ sorts) sort place)
    (list_all (is_sorted_naming (before ++ sort ∷ sorts)) (bound_from (place + 1) ps sorts))
    (ap (is_parameter_of (before ++ sort ∷ sorts) sort) e ∙ sort_at before sort sorts)
    (subst (λ (own : List Sort). list_all (is_sorted_naming own) (bound_from (place + 1) ps sorts) ≡ true)
    (append_assoc before (sort ∷ []) sorts)
    (parameters_sorted (before ++ sort ∷ []) (place + 1) ps sorts (one_more before place e)))
  where
    one_more : (ks : List Sort) (n : ℕ) → n ≡ length ks → n + 1 ≡ length (ks ++ sort ∷ [])
    one_more [] n e = omega arith
    one_more (k ∷ ks) n e =
        let rest : length ks + 1 ≡ length (ks ++ sort ∷ []) = one_more ks (length ks) refl in omega (arith, e, rest)

pub sorts_keep : LevelsKeep (is_sorted_naming []) is_well_sorted
sorts_keep = record {
  declares = λ name serial sort brought. refl;
  marks = λ name. refl;
  makes = λ names all name ps sorts form body brought is.
      read_is_well_sorted sorts (bound_from 0 ps sorts ++ names)
      (all_both (is_sorted_naming sorts) (bound_from 0 ps sorts) names (parameters_sorted [] 0 ps sorts refl)
      (names_over_any sorts names all)) form body is;
  asserts = λ names all form t is truth. read_is_well_sorted [] names all form t is;
}

pub entry_sorted : (entry : Entry) (s : State) → is_sorted_state s ≡ true → is_sorted_behind (step_of entry s) ≡ true
entry_sorted = levels_keep (is_sorted_naming []) is_well_sorted sorts_keep

pub live_sorted : (s : State) → is_sorted_state s ≡ true → list_all is_well_sorted (live_terms s) ≡ true
live_sorted = live_all (is_sorted_naming []) is_well_sorted
