-- Terms of the fragment that are well sorted have literals over some table.
use Rattle.std.proofs.Common.{◌≡◌, suc, Bool, true, false, ◌&&◌, nat_le, if◌then◌else◌, List, [], ◌∷◌, ◌++◌, map, length, Option, Some, None, is_some, option_map, option_and_then, refl, sym, ap, ◌∙◌, arith}
use Rattle.std.specs.Prelude.{ℤ, pos, neg_ℤ, is_none}
use Rattle.std.specs.List.{list_all}
use Rattle.std.proofs.lemmas.Bool.{and_parts, and_from, false≢true}
use Rattle.sb_lit.specs.declared.clause.Lit.{Lit}
use Rattle.sb_lang.specs.OrderLaws.{OrderTellsApart}
use Rattle.sb_lang.specs.Affixes.{beginning_with, ending_with, containing, prefixes, suffixes, factors}
use Rattle.sb_meaning.specs.Terms.{Sort, boolean, integer, text, reglan, Symbol, Term, Terms, constant, word, numeral, apply, parameter, no_terms, with_term, terms_in}
use Rattle.sb_meaning.specs.Terms as symbol
use Rattle.sb_meaning.specs.Sorts.{sort_of, is_same_sort, arity_of, takes_sorts}
use Rattle.sb_meaning.specs.Truth.{meaning_of, is_chain, are_pairs}
use Rattle.sb_rulebook.specs.Atoms.{Atom, bool_atom}
use Rattle.sb_rulebook.specs.Parts.{together, regex_meant, regex_of}
use Rattle.sb_rulebook.specs.Translation.{negated, conjunction, disjunction, equivalence, implications, exclusive, choice, compared, affix, truth_equality, equality, of_neighbours, of_pairs, all_true, only_one, member_of, of_terms, of_literals, applied, translation, arguments_of}
use Rattle.sb_rulebook.proofs.TableStays.{AllStay, none_stay, one_stays, negated_stays, compared_stays, argument, arguments_are, Relation, PairStays, equality_by, equality_stays, literals_stay, neighbours_stay, pairs_stay, term_stays, list_stays}
use Rattle.sb_script.proofs.CallerLemmas.{same_sort}
use Rattle.sb_script.specs.Heads.{judged}
use Rattle.sb_script.specs.WellSorted.{is_well_sorted, are_well_sorted_over}
use Rattle.sb_script.specs.Fragment.{is_word_pair, is_linear_pair, is_membership_pair, is_affix_pair, of_two, sort_of_first, fits_applied, fits, each_fits, are_bounded, is_unmarked, are_in_fragment}
use Rattle.sb_script.specs.State.{State, live, live_terms}
use Rattle.sb_script.specs.Sizes.{is_regular, has_short_words, size_of}
use Rattle.sb_script.specs.Pieces.{is_ground, single_pieces}
use Rattle.sb_rulebook.proofs.TakenArguments.{Each, any_term, test_of, IsTaken, taken, all_of_first}
use Rattle.sb_rulebook.proofs.TableReached.{Reached, AllReached, given_reached, same_reached, then_reached, none_reached, one_reached, Is, positive_reached, negated_reached, conjunction_reached, disjunction_reached, equivalence_reached, implications_reached, exclusive_from_reached, all_true_reached, choice_reached, linear_pair, number_equality_reached, membership_reached, word_equality_reached, affix_reached}

-- Regular expressions.

-- a term of sort RegLan without constants means a regular expression
means_regex : (t : Term) → sort_of t ≡ reglan → is_ground t ≡ true → Is (regex_meant (meaning_of [] t))
means_regex (constant serial sort) e ground = absurd (false≢true ground)
means_regex (parameter place sort) e ground = absurd (false≢true ground)
means_regex (word w) e ground = absurd (Prim.cc (e))
means_regex (numeral n) e ground = absurd (Prim.cc (e))
means_regex (apply symbol.str_to_re terms) e ground = record { value = _; is = refl }
means_regex (apply symbol.re_none terms) e ground = record { value = _; is = refl }
means_regex (apply symbol.re_all terms) e ground = record { value = _; is = refl }
means_regex (apply symbol.re_allchar terms) e ground = record { value = _; is = refl }
means_regex (apply symbol.re_concat terms) e ground = record { value = _; is = refl }
means_regex (apply symbol.re_union terms) e ground = record { value = _; is = refl }
means_regex (apply symbol.re_inter terms) e ground = record { value = _; is = refl }
means_regex (apply symbol.re_diff terms) e ground = record { value = _; is = refl }
means_regex (apply symbol.re_star terms) e ground = record { value = _; is = refl }
means_regex (apply symbol.re_plus terms) e ground = record { value = _; is = refl }
means_regex (apply symbol.re_opt terms) e ground = record { value = _; is = refl }
means_regex (apply symbol.re_comp terms) e ground = record { value = _; is = refl }
means_regex (apply symbol.re_range terms) e ground = record { value = _; is = refl }
means_regex (apply (symbol.re_power n) terms) e ground = record { value = _; is = refl }
means_regex (apply (symbol.re_loop n m) terms) e ground = record { value = _; is = refl }
means_regex (apply _ terms) e ground = absurd (Prim.cc (e))

regex_there : (R : Term) → sort_of R ≡ reglan → is_regular R ≡ true → Is (regex_of R)
regex_there R sort regular =
    let parts = and_parts (is_ground R) (has_short_words R && nat_le (size_of R) 1000000) regular in
    let means = means_regex R sort parts.0 in
    record {
      value = means.value;
      is = ap (λ b. if b then regex_meant (meaning_of [] R) else None) regular ∙ means.is;
    }

-- so many literals as arguments
length_together : {A : Type 0} (os : List (Option A)) (xs : List A) → together os ≡ Some xs → length xs ≡ length os
length_together [] [] h = refl
length_together [] (x ∷ xs) h = absurd (Prim.cc (h))
length_together (None ∷ os) xs h = absurd (Prim.cc (h))
length_together {A} (Some y ∷ os) xs h = step (together os) refl xs h (length_together os)
  where
    step : (o : Option (List A)) → together os ≡ o → (xs : List A) → option_map (λ ys. y ∷ ys) o ≡ Some xs
        → ((ys : List A) → together os ≡ Some ys → length ys ≡ length os) → length xs ≡ suc (length os)
    step None e xs h rest = absurd (Prim.cc (h))
    step (Some ys) e xs h rest =
        let same : y ∷ ys ≡ xs = Prim.cc (h) in ap length (sym same) ∙ ap suc (rest ys e)

module _ (apart : OrderTellsApart) where
  -- Arguments.

  abbrev TermReached : Term → Type 0
  TermReached t = Reached (λ atoms. translation atoms t)

  abbrev PairReached : Relation → Term → Term → Type 0
  PairReached relation a b = Reached (λ atoms. relation atoms (argument atoms a) (argument atoms b))

  literals_reached : (ts : List Term) → Each TermReached ts
      → AllReached (λ atoms. map (λ a. a.1) (map (argument atoms) ts))
  literals_reached [] all = none_reached
  literals_reached (t ∷ ts) all = one_reached (term_stays t) all.0 (literals_reached ts all.1)

  of_literals_reached : (f : List Lit → List Atom → Option Lit) (ts : List Term) → Each TermReached ts
      → ((ls : List Lit) → length ls ≡ length ts → Reached (f ls))
      → Reached (λ atoms. of_literals (λ ls. f ls atoms) (map (argument atoms) ts))
  of_literals_reached f ts all reach =
      then_reached f (literals_stay ts (list_stays ts)).all_stay (literals_reached ts all).all_reached
      (λ ls atoms e. reach ls (length_together (map (λ a. a.1) (map (argument atoms) ts)) ls e
      ∙ lengths atoms ts))
    where
      lengths : (atoms : List Atom) (ts : List Term) → length (map (λ a. a.1) (map (argument atoms) ts)) ≡ length ts
      lengths atoms [] = refl
      lengths atoms (t ∷ ts) = ap suc (lengths atoms ts)

  -- terms that are related as the test says, each of them as P says
  record IsReached (P : Term → Type 0) (test : Term → Term → Bool) (relation : Relation) : Type 0 where
    stays : (a b : Term) → PairStays relation a b
    reached : (a b : Term) → P a → P b → test a b ≡ true → PairReached relation a b

  neighbours_reached : (P : Term → Type 0) (test : Term → Term → Bool) (relation : Relation)
      → IsReached P test relation → (ts : List Term) → Each P ts → is_chain test ts ≡ true
      → AllReached (λ atoms. of_neighbours (relation atoms) (map (argument atoms) ts))
  neighbours_reached P test relation r [] all h = none_reached
  neighbours_reached P test relation r (t ∷ []) all h = none_reached
  neighbours_reached P test relation r (t ∷ u ∷ ts) all h =
      let parts = and_parts (test t u) (is_chain test (u ∷ ts)) h in
      one_reached (r.stays t u) (r.reached t u all.0 all.1.0 parts.0)
      (neighbours_reached P test relation r (u ∷ ts) all.1 parts.1)

  with_each_reached : (P : Term → Type 0) (test : Term → Term → Bool) (relation : Relation)
      → IsReached P test relation → (t : Term) → P t → {others : List Atom → List (Option Lit)} → AllReached others
      → (ts : List Term) → Each P ts → list_all (test t) ts ≡ true
      → AllReached (λ atoms. map (relation atoms (argument atoms t)) (map (argument atoms) ts) ++ others atoms)
  with_each_reached P test relation r t here more [] all h = more
  with_each_reached P test relation r t here more (u ∷ us) all h =
      let parts = and_parts (test t u) (list_all (test t) us) h in
      one_reached (r.stays t u) (r.reached t u here all.0 parts.0)
      (with_each_reached P test relation r t here more us all.1 parts.1)

  pairs_reached : (P : Term → Type 0) (test : Term → Term → Bool) (relation : Relation)
      → IsReached P test relation → (ts : List Term) → Each P ts → are_pairs test ts ≡ true
      → AllReached (λ atoms. of_pairs (relation atoms) (map (argument atoms) ts))
  pairs_reached P test relation r [] all h = none_reached
  pairs_reached P test relation r (t ∷ ts) all h =
      let parts = and_parts (list_all (test t) ts) (are_pairs test ts) h in
      with_each_reached P test relation r t all.0 (pairs_reached P test relation r ts all.1 parts.1) ts all.1 parts.0

  chain_reached : (P : Term → Type 0) (test : Term → Term → Bool) (relation : Relation)
      → IsReached P test relation → (ts : List Term) → Each P ts → is_chain test ts ≡ true
      → Reached (λ atoms. all_true atoms (of_neighbours (relation atoms) (map (argument atoms) ts)))
  chain_reached P test relation r ts all h =
      all_true_reached apart (neighbours_stay relation (λ a b s t. r.stays a b) ts (list_stays ts))
      (neighbours_reached P test relation r ts all h)

  distinct_reached : (P : Term → Type 0) (test : Term → Term → Bool) (relation : Relation)
      → IsReached P test relation → (ts : List Term) → Each P ts → are_pairs test ts ≡ true
      → Reached (λ atoms. all_true atoms (of_pairs (relation atoms) (map (argument atoms) ts)))
  distinct_reached P test relation r ts all h =
      all_true_reached apart (pairs_stay relation (λ a b s t. r.stays a b) ts (list_stays ts))
      (pairs_reached P test relation r ts all h)

  -- Equalities.

  -- of this sort, and of sort Bool with a literal
  record IsOf (k : Sort) (t : Term) : Type 0 where
    sort : sort_of t ≡ k
    literal : k ≡ boolean → TermReached t

  truth_equality_reached : (a b : Term) → TermReached a → TermReached b
      → Reached (λ atoms. truth_equality atoms (translation atoms a) (translation atoms b))
  truth_equality_reached a b r q =
      then_reached (λ l atoms. option_and_then (equivalence atoms l) (translation atoms b)) (term_stays a) r
      (λ l atoms e. then_reached (λ m atoms. equivalence atoms l m) (term_stays b) q
      (λ m atoms e. equivalence_reached apart l m))

  equality_by_reached : (k : Sort) (a b : Term) → IsOf k a → IsOf k b → test_of k a b ≡ true
      → PairReached (equality_by k) a b
  equality_by_reached boolean a b i j h = truth_equality_reached a b (i.literal refl) (j.literal refl)
  equality_by_reached integer a b i j h = number_equality_reached apart a b h
  equality_by_reached text a b i j h = word_equality_reached apart a b h
  equality_by_reached reglan a b i j h = absurd (false≢true h)

  equality_reached : (k : Sort) → IsReached (IsOf k) (test_of k) equality
  equality_reached k = record {
    stays = λ a b. equality_stays a b (term_stays a) (term_stays b);
    reached = λ a b i j h.
        same_reached (λ atoms. equality atoms (argument atoms a) (argument atoms b))
        (λ atoms. ap (λ k. equality_by k atoms (argument atoms a) (argument atoms b)) i.sort)
        (equality_by_reached k a b i j h);
  }

  difference_reached : (k : Sort) → IsReached (IsOf k) (test_of k) (λ atoms a b. negated (equality atoms a b))
  difference_reached k =
      let r = equality_reached k in
      record {
        stays = λ a b. negated_stays (r.stays a b);
        reached = λ a b i j h. negated_reached apart (r.reached a b i j h);
      }

  chain_of_all : (ts : List Term) → is_chain (λ a b. true) ts ≡ true
  chain_of_all [] = refl
  chain_of_all (t ∷ []) = refl
  chain_of_all (t ∷ u ∷ ts) = chain_of_all (u ∷ ts)

  all_of_all : (ts : List Term) → list_all (λ t. true) ts ≡ true
  all_of_all [] = refl
  all_of_all (t ∷ ts) = all_of_all ts

  pairs_of_all : (ts : List Term) → are_pairs (λ a b. true) ts ≡ true
  pairs_of_all [] = refl
  pairs_of_all (t ∷ ts) =
      and_from (list_all (λ t. true) ts) (are_pairs (λ a b. true) ts) (all_of_all ts) (pairs_of_all ts)

  -- Sorts.

  -- each term is of the sort, and has a literal where that is Bool
  each_of : (k : Sort) (ts : List Term) → list_all (is_same_sort k) (map sort_of ts) ≡ true
      → (k ≡ boolean → Each TermReached ts) → Each (IsOf k) ts
  each_of k [] h literals = tt
  each_of k (t ∷ ts) h literals =
      let parts = and_parts (is_same_sort k (sort_of t)) (list_all (is_same_sort k) (map sort_of ts)) h in (
        record { sort = same_sort k (sort_of t) parts.0; literal = λ e. (literals e).0 },
        each_of k ts parts.1 (λ e. (literals e).1),
      )

  -- Symbols.

  -- the arguments of a symbol, which takes them; where each fits they have literals
  record AreArguments (s : Symbol) (ts : List Term) (each : Bool) : Type 0 where
    are_taken : IsTaken (arity_of s) (map sort_of ts)
    literals : each ≡ true → Each TermReached ts

  equal_reached : (ts : List Term) (b : Bool) → AreArguments symbol.core_equal ts b
      → fits_applied symbol.core_equal ts b ≡ true
      → Reached (λ atoms. applied atoms symbol.core_equal (map (argument atoms) ts))
  equal_reached ts b are h = step (sort_of_first ts) (all_of_first ts are.are_taken.takes) h
    where
      step : (k : Sort) → list_all (is_same_sort k) (map sort_of ts) ≡ true → elim k as (λ _. Bool) [
        | boolean ↦ b
        | integer ↦ is_chain is_linear_pair ts
        | text ↦ is_chain is_word_pair ts
        | reglan ↦ false
      ] ≡ true → Reached (λ atoms. all_true atoms (of_neighbours (equality atoms) (map (argument atoms) ts)))
      step boolean sorts h =
          chain_reached (IsOf boolean) (test_of boolean) equality (equality_reached boolean) ts
          (each_of boolean ts sorts (λ e. are.literals h)) (chain_of_all ts)
      step integer sorts h =
          chain_reached (IsOf integer) (test_of integer) equality (equality_reached integer) ts
          (each_of integer ts sorts (λ e. absurd (Prim.cc (e)))) h
      step text sorts h =
          chain_reached (IsOf text) (test_of text) equality (equality_reached text) ts
          (each_of text ts sorts (λ e. absurd (Prim.cc (e)))) h
      step reglan sorts h = absurd (false≢true h)

  distinct_are_reached : (ts : List Term) (b : Bool) → AreArguments symbol.core_distinct ts b
      → fits_applied symbol.core_distinct ts b ≡ true
      → Reached (λ atoms. applied atoms symbol.core_distinct (map (argument atoms) ts))
  distinct_are_reached ts b are h = step (sort_of_first ts) (all_of_first ts are.are_taken.takes) h
    where
      step : (k : Sort) → list_all (is_same_sort k) (map sort_of ts) ≡ true → elim k as (λ _. Bool) [
        | boolean ↦ b
        | integer ↦ are_pairs is_linear_pair ts
        | text ↦ are_pairs is_word_pair ts
        | reglan ↦ false
      ] ≡ true → Reached (λ atoms. all_true atoms
          (of_pairs (λ a b. negated (equality atoms a b)) (map (argument atoms) ts)))
      step boolean sorts h =
          distinct_reached (IsOf boolean) (test_of boolean) (λ atoms a b. negated (equality atoms a b))
          (difference_reached boolean) ts (each_of boolean ts sorts (λ e. are.literals h)) (pairs_of_all ts)
      step integer sorts h =
          distinct_reached (IsOf integer) (test_of integer) (λ atoms a b. negated (equality atoms a b))
          (difference_reached integer) ts (each_of integer ts sorts (λ e. absurd (Prim.cc (e)))) h
      step text sorts h =
          distinct_reached (IsOf text) (test_of text) (λ atoms a b. negated (equality atoms a b))
          (difference_reached text) ts (each_of text ts sorts (λ e. absurd (Prim.cc (e)))) h
      step reglan sorts h = absurd (false≢true h)

  comparisons_reached : (k : ℤ) (ts : List Term) → is_chain is_linear_pair ts ≡ true
      → Reached (λ atoms. all_true atoms (of_neighbours (λ a b. compared atoms k a.0 b.0) (map (argument atoms) ts)))
  comparisons_reached k ts h =
      chain_reached (λ t. Unit {0}) is_linear_pair (λ atoms a b. compared atoms k a.0 b.0)
      (record {
        stays = λ a b. compared_stays k a b;
        reached = λ a b i j h. (linear_pair apart a b h).forth k;
      }) ts (any_term ts) h

  comparisons_back_reached : (k : ℤ) (ts : List Term) → is_chain is_linear_pair ts ≡ true
      → Reached (λ atoms. all_true atoms (of_neighbours (λ a b. compared atoms k b.0 a.0) (map (argument atoms) ts)))
  comparisons_back_reached k ts h =
      chain_reached (λ t. Unit {0}) is_linear_pair (λ atoms a b. compared atoms k b.0 a.0)
      (record {
        stays = λ a b. compared_stays k b a;
        reached = λ a b i j h. (linear_pair apart a b h).back k;
      }) ts (any_term ts) h

  member_reached : (ts : List Term) → takes_sorts (arity_of symbol.str_in_re) (map sort_of ts) ≡ true
      → is_membership_pair ts ≡ true → Reached (λ atoms. member_of atoms (map (argument atoms) ts))
  member_reached [] takes h = absurd (false≢true h)
  member_reached (t ∷ []) takes h = absurd (false≢true h)
  member_reached (t ∷ R ∷ []) takes h =
      let sorts = and_parts (is_same_sort text (sort_of t)) (is_same_sort reglan (sort_of R) && true) takes in
      let parts = and_parts (is_some (single_pieces t)) (is_regular R) h in
      membership_reached apart t (regex_of R)
      (regex_there R (same_sort reglan (sort_of R) (and_parts (is_same_sort reglan (sort_of R)) true sorts.1).0)
      parts.1)
      parts.0
  member_reached (t ∷ R ∷ u ∷ ts) takes h = absurd (false≢true h)

  of_terms_reached : (make : List Atom → Term → Term → Option Lit) (test : Term → Term → Bool)
      → ((s t : Term) → test s t ≡ true → Reached (λ atoms. make atoms s t)) → (ts : List Term)
      → of_two test ts ≡ true → Reached (λ atoms. of_terms (make atoms) (map (argument atoms) ts))
  of_terms_reached make test reached (s ∷ t ∷ []) h = reached s t h
  of_terms_reached make test reached [] h = absurd (false≢true h)
  of_terms_reached make test reached (s ∷ []) h = absurd (false≢true h)
  of_terms_reached make test reached (s ∷ t ∷ u ∷ ts) h = absurd (false≢true h)

  one_taken : (ts : List Term) → takes_sorts (arity_of symbol.core_not) (map sort_of ts) ≡ true → length ts ≡ 1
  one_taken [] takes = absurd (false≢true takes)
  one_taken (t ∷ []) takes = refl
  one_taken (t ∷ u ∷ ts) takes = absurd (false≢true (and_parts (is_same_sort boolean (sort_of t)) false takes).1)

  three_taken : (ts : List Term) → takes_sorts (arity_of symbol.core_ite) (map sort_of ts) ≡ true → length ts ≡ 3
  three_taken [] takes = absurd (false≢true takes)
  three_taken (t ∷ []) takes = absurd (false≢true takes)
  three_taken (t ∷ u ∷ []) takes = absurd (false≢true takes)
  three_taken (t ∷ u ∷ r ∷ []) takes = refl
  three_taken (t ∷ u ∷ r ∷ s ∷ ts) takes = absurd (false≢true takes)

  only_reached : (ls : List Lit) → length ls ≡ 1 → Reached (λ atoms. only_one ls)
  only_reached [] e = absurd (omega arith)
  only_reached (l ∷ []) e = given_reached (Some l) l refl
  only_reached (l ∷ m ∷ ls) e = absurd (omega arith)

  three_reached : (ls : List Lit) → length ls ≡ 3 → Reached (λ atoms. choice atoms ls)
  three_reached (c ∷ l ∷ m ∷ []) e = choice_reached apart c l m
  three_reached [] e = absurd (omega arith)
  three_reached (c ∷ []) e = absurd (omega arith)
  three_reached (c ∷ l ∷ []) e = absurd (omega arith)
  three_reached (c ∷ l ∷ m ∷ n ∷ ls) e = absurd (omega arith)

  -- two arguments or more
  some_taken : (ts : List Term) → nat_le 2 (length (map sort_of ts)) ≡ true → (ls : List Lit)
      → length ls ≡ length ts → ls ≡ [] → ⊥
  some_taken [] count ls e none = false≢true count
  some_taken (t ∷ ts) count ls e none = let same : 0 ≡ suc (length ts) = ap length (sym none) ∙ e in omega arith

  implications_of_some : (ls : List Lit) → (ls ≡ [] → ⊥) → Reached (λ atoms. implications atoms ls)
  implications_of_some [] some = absurd (some refl)
  implications_of_some (l ∷ ls) some = implications_reached apart l ls

  exclusive_of_some : (ls : List Lit) → (ls ≡ [] → ⊥) → Reached (λ atoms. exclusive atoms ls)
  exclusive_of_some [] some = absurd (some refl)
  exclusive_of_some (l ∷ ls) some = exclusive_from_reached apart l ls

  applied_reached : (s : Symbol) (ts : List Term) (b : Bool) → AreArguments s ts b → fits_applied s ts b ≡ true
      → Reached (λ atoms. applied atoms s (map (argument atoms) ts))
  applied_reached symbol.core_true ts b are h = conjunction_reached apart []
  applied_reached symbol.core_false ts b are h = negated_reached apart (conjunction_reached apart [])
  applied_reached symbol.core_not ts b are h =
      negated_reached apart (of_literals_reached (λ ls atoms. only_one ls) ts (are.literals h)
      (λ ls e. only_reached ls (e ∙ one_taken ts are.are_taken.takes)))
  applied_reached symbol.core_and ts b are h =
      of_literals_reached (λ ls atoms. conjunction atoms ls) ts (are.literals h) (λ ls e. conjunction_reached apart ls)
  applied_reached symbol.core_or ts b are h =
      of_literals_reached (λ ls atoms. disjunction atoms ls) ts (are.literals h) (λ ls e. disjunction_reached apart ls)
  applied_reached symbol.core_implies ts b are h =
      of_literals_reached (λ ls atoms. implications atoms ls) ts (are.literals h)
      (λ ls e. implications_of_some ls (some_taken ts are.are_taken.count ls e))
  applied_reached symbol.core_xor ts b are h =
      of_literals_reached (λ ls atoms. exclusive atoms ls) ts (are.literals h)
      (λ ls e. exclusive_of_some ls (some_taken ts are.are_taken.count ls e))
  applied_reached symbol.core_ite ts b are h =
      of_literals_reached (λ ls atoms. choice atoms ls) ts (are.literals h)
      (λ ls e. three_reached ls (e ∙ three_taken ts are.are_taken.takes))
  applied_reached symbol.core_equal ts b are h = equal_reached ts b are h
  applied_reached symbol.core_distinct ts b are h = distinct_are_reached ts b are h
  applied_reached symbol.at_most ts b are h = comparisons_reached (pos 0) ts h
  applied_reached symbol.less ts b are h = comparisons_reached (neg_ℤ (pos 1)) ts h
  applied_reached symbol.at_least ts b are h = comparisons_back_reached (pos 0) ts h
  applied_reached symbol.greater ts b are h = comparisons_back_reached (neg_ℤ (pos 1)) ts h
  applied_reached symbol.str_in_re ts b are h = member_reached ts are.are_taken.takes h
  applied_reached symbol.str_prefixof ts b are h =
      of_terms_reached (λ atoms part whole. affix atoms beginning_with prefixes part whole) is_affix_pair
      (affix_reached apart beginning_with prefixes) ts h
  applied_reached symbol.str_suffixof ts b are h =
      of_terms_reached (λ atoms part whole. affix atoms ending_with suffixes part whole) is_affix_pair
      (affix_reached apart ending_with suffixes) ts h
  applied_reached symbol.str_contains ts b are h =
      of_terms_reached (λ atoms whole part. affix atoms containing factors part whole)
      (λ whole part. is_affix_pair part whole) (λ whole part h. affix_reached apart containing factors part whole h)
      ts h
  applied_reached _ ts b are h = absurd (false≢true h)

  -- Terms.

  mutual
    pub term_reached : (t : Term) → fits t ≡ true → is_well_sorted t ≡ true → TermReached t
    term_reached (constant serial boolean) h well = positive_reached apart (bool_atom serial)
    term_reached (constant serial integer) h well = absurd (false≢true h)
    term_reached (constant serial text) h well = absurd (false≢true h)
    term_reached (constant serial reglan) h well = absurd (false≢true h)
    term_reached (word w) h well = absurd (false≢true h)
    term_reached (numeral n) h well = absurd (false≢true h)
    term_reached (apply s terms) h well =
        let parts =
        and_parts (is_none (judged s (map sort_of (terms_in terms)))) (are_well_sorted_over [] terms) well in
        same_reached (λ atoms. applied atoms s (arguments_of atoms terms))
        (λ atoms. ap (applied atoms s) (arguments_are atoms terms))
        (applied_reached s (terms_in terms) (each_fits terms)
        (record {
          are_taken = taken s (map sort_of (terms_in terms)) parts.0;
          literals = λ each. terms_reached terms each parts.1;
        }) h)
    term_reached (parameter place sort) h well = absurd (false≢true h)

    terms_reached : (terms : Terms) → each_fits terms ≡ true → are_well_sorted_over [] terms ≡ true
        → Each TermReached (terms_in terms)
    terms_reached no_terms h well = tt
    terms_reached (with_term t terms) h well =
        let parts = and_parts (fits t) (each_fits terms) h in
        let sorted = and_parts (is_well_sorted t) (are_well_sorted_over [] terms) well in
        (term_reached t parts.0 sorted.0, terms_reached terms parts.1 sorted.1)

  translations_stay : (ts : List Term) → AllStay (λ atoms. map (translation atoms) ts)
  translations_stay [] = none_stay
  translations_stay (t ∷ ts) = one_stays (term_stays t) (translations_stay ts)

  translations_reached : (ts : List Term) → list_all fits ts ≡ true → list_all is_well_sorted ts ≡ true
      → AllReached (λ atoms. map (translation atoms) ts)
  translations_reached [] h well = none_reached
  translations_reached (t ∷ ts) h well =
      let parts = and_parts (fits t) (list_all fits ts) h in
      let sorted = and_parts (is_well_sorted t) (list_all is_well_sorted ts) well in
      one_reached (term_stays t) (term_reached t parts.0 sorted.0) (translations_reached ts parts.1 sorted.1)

  pub live_reached : (s : State) → are_in_fragment (live s) ≡ true → list_all is_well_sorted (live_terms s) ≡ true
      → Reached (λ atoms. together (map (translation atoms) (live_terms s)))
  live_reached s h well =
      let ts = live_terms s in
      let parts = and_parts (list_all is_unmarked (live s)) (list_all fits ts && are_bounded ts) h in
      (translations_reached ts (and_parts (list_all fits ts) (are_bounded ts) parts.1).0 well).all_reached
