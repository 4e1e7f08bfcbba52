-- Well-sorted terms that have literals over some table are of the fragment.
use Rattle.std.proofs.Common.{◌≡◌, ℕ, Bool, true, false, ◌&&◌, nat_le, if◌then◌else◌, List, [], ◌∷◌, ◌++◌, map, length, Option, Some, None, is_some, option_map, option_and_then, refl, sym, ap, ◌∙◌}
use Rattle.std.specs.Prelude.{ℤ, pos, neg_ℤ, is_none}
use Rattle.std.specs.List.{list_all}
use Rattle.std.proofs.lemmas.Bool.{and_parts, and_from, false≢true}
use Rattle.std.proofs.lemmas.List.Folds.{list_all-append}
use Rattle.sb_lit.specs.declared.clause.Lit.{Lit}
use Rattle.sb_lang.specs.Regex.{Regex}
use Rattle.sb_lang.specs.Normal.{word_regex}
use Rattle.sb_lang.specs.Affixes.{beginning_with, ending_with, containing, prefixes, suffixes, factors}
use Rattle.sb_meaning.specs.Terms.{Sort, boolean, integer, text, reglan, Symbol, Term, Terms, constant, word, numeral, apply, parameter, no_terms, with_term, terms_in}
use Rattle.sb_meaning.specs.Terms as symbol
use Rattle.sb_meaning.specs.Sorts.{of_each, sort_of, is_same_sort, arity_of, takes_sorts}
use Rattle.sb_meaning.specs.Truth.{meaning_of, is_chain, are_pairs}
use Rattle.sb_rulebook.specs.Atoms.{Atom, in_atom}
use Rattle.sb_rulebook.specs.Parts.{together, regex_meant, regex_of}
use Rattle.sb_rulebook.specs.Translation.{positive, negated, conjunction, disjunction, implications, exclusive, choice, difference_bound, compared, membership, word_equality, affix, equivalence, truth_equality, equality, of_neighbours, of_pairs, all_true, only_one, member_of, of_terms, of_literals, applied, translation}
use Rattle.sb_rulebook.proofs.TableStays.{argument, arguments_are, Relation, equality_by}
use Rattle.sb_rulebook.proofs.TakenArguments.{Each, any_term, test_of, IsTaken, taken, all_of_first}
use Rattle.sb_script.proofs.CallerLemmas.{same_sort}
use Rattle.sb_script.specs.Heads.{judged}
use Rattle.sb_script.specs.WellSorted.{is_well_sorted, are_well_sorted_over}
use Rattle.sb_script.specs.Fragment.{is_word_pair, is_small_difference, is_linear_pair, is_membership_pair, is_affix_pair, of_two, sort_of_first, fits_applied, fits, each_fits}
use Rattle.sb_script.specs.Sizes.{is_regular}
use Rattle.sb_script.specs.SumLaws.{SmallBothWays}
use Rattle.sb_script.specs.Sums.{Sum, subtracted, is_small, if_small, sum_of}
use Rattle.sb_script.specs.Pieces.{single_pieces, ground_word, whole_word}

-- Parts of what is there are there.

first_there : {A B : Type 0} (f : A → Option B) (o : Option A) → is_some (option_and_then f o) ≡ true → is_some o ≡ true
first_there f None h = h
first_there f (Some x) h = refl

mapped_there : {A B : Type 0} (f : A → B) (o : Option A) → is_some (option_map f o) ≡ true → is_some o ≡ true
mapped_there f None h = h
mapped_there f (Some x) h = refl

each_there : {A : Type 0} (os : List (Option A)) → is_some (together os) ≡ true → list_all is_some os ≡ true
each_there [] h = refl
each_there (None ∷ os) h = absurd (false≢true h)
each_there (Some x ∷ os) h = each_there os (mapped_there (λ xs. x ∷ xs) (together os) h)

module _ (both : SmallBothWays) (atoms : List Atom) where
  -- Pairs.

  membership_there : (t : Term) (regex : Option Regex) → is_some (membership atoms t regex) ≡ true
      → (is_some regex ≡ true) × (is_some (single_pieces t) ≡ true)
  membership_there t None h = absurd (false≢true h)
  membership_there t (Some r) h =
      (refl, first_there (λ ps. positive atoms (in_atom ps r)) (single_pieces t) h)

  small_there : (s : Sum) → is_some (if_small s) ≡ true → is_small s ≡ true
  small_there s h = step (is_small s) h
    where
      step : (b : Bool) → is_some (if b then Some s else None) ≡ true → b ≡ true
      step true h = refl
      step false h = h

  compared_there : (k : ℤ) (a b : Term) → is_some (compared atoms k a b) ≡ true → is_linear_pair a b ≡ true
  compared_there k a b h = step (sum_of a) refl (sum_of b) refl h
    where
      step : (o : Option Sum) → sum_of a ≡ o → (p : Option Sum) → sum_of b ≡ p
          → is_some (option_and_then (λ s. option_and_then (difference_bound atoms k s) p) o) ≡ true
          → is_small_difference o p ≡ true
      step None e p f h = h
      step (Some s) e None f h = h
      step (Some s) e (Some t) f h =
          let small : is_small (subtracted s t) ≡ true =
          small_there (subtracted s t) (first_there _ (if_small (subtracted s t)) h) in
          and_from (is_small (subtracted s t)) (is_small (subtracted t s)) small (both a b s t e f small)

  compared_back : (k : ℤ) (a b : Term) → is_some (compared atoms k b a) ≡ true → is_linear_pair a b ≡ true
  compared_back k a b h = step (sum_of a) (sum_of b) (compared_there k b a h)
    where
      step : (o p : Option Sum) → is_small_difference p o ≡ true → is_small_difference o p ≡ true
      step None None h = h
      step None (Some t) h = h
      step (Some s) None h = h
      step (Some s) (Some t) h =
          let parts = and_parts (is_small (subtracted t s)) (is_small (subtracted s t)) h in
          and_from (is_small (subtracted s t)) (is_small (subtracted t s)) parts.1 parts.0

  all_there : (os : List (Option Lit)) → is_some (all_true atoms os) ≡ true → list_all is_some os ≡ true
  all_there os h = each_there os (first_there (conjunction atoms) (together os) h)

  word_pair_there : (a b : Term) → is_some (word_equality atoms a b) ≡ true → is_word_pair a b ≡ true
  word_pair_there a b h = step (ground_word b) h
    where
      step : (o : Option (List ℕ)) → is_some (elim o as (λ _. Option Lit) [
        | Some w ↦ membership atoms a (Some (word_regex w))
        | None ↦ membership atoms b (option_map word_regex (ground_word a))
      ]) ≡ true → elim o as (λ _. Bool) [
        | Some w ↦ is_some (single_pieces a)
        | None ↦ is_some (ground_word a) && is_some (single_pieces b)
      ] ≡ true
      step (Some w) h = (membership_there a (Some (word_regex w)) h).1
      step None h =
          let parts = membership_there b (option_map word_regex (ground_word a)) h in
          and_from (is_some (ground_word a)) (is_some (single_pieces b))
          (mapped_there word_regex (ground_word a) parts.0) parts.1

  affix_there : (holders parts : List ℕ → Regex) (part whole : Term)
      → is_some (affix atoms holders parts part whole) ≡ true → is_affix_pair part whole ≡ true
  affix_there holders parts part whole h = step (ground_word part) h
    where
      step : (o : Option (List ℕ)) → is_some (elim o as (λ _. Option Lit) [
        | Some w ↦ membership atoms whole (Some (holders w))
        | None ↦ membership atoms part (option_map parts (whole_word whole))
      ]) ≡ true → elim o as (λ _. Bool) [
        | Some w ↦ is_some (single_pieces whole)
        | None ↦ is_some (whole_word whole) && is_some (single_pieces part)
      ] ≡ true
      step (Some w) h = (membership_there whole (Some (holders w)) h).1
      step None h =
          let both = membership_there part (option_map parts (whole_word whole)) h in
          and_from (is_some (whole_word whole)) (is_some (single_pieces part))
          (mapped_there parts (whole_word whole) both.0) both.1

  -- Arguments.

  abbrev There : Relation → Term → Term → Type 0
  There relation a b = is_some (relation atoms (argument atoms a) (argument atoms b)) ≡ true

  abbrev HasLiteral : Term → Type 0
  HasLiteral t = is_some (translation atoms t) ≡ true

  literals_there : (ts : List Term) → list_all is_some (map (λ a. a.1) (map (argument atoms) ts)) ≡ true
      → Each HasLiteral ts
  literals_there [] h = tt
  literals_there (t ∷ ts) h =
      let parts = and_parts (is_some (translation atoms t))
      (list_all is_some (map (λ a. a.1) (map (argument atoms) ts))) h in
      (parts.0, literals_there ts parts.1)

  of_literals_there : (make : List Lit → Option Lit) (ts : List Term)
      → is_some (of_literals make (map (argument atoms) ts)) ≡ true → Each HasLiteral ts
  of_literals_there make ts h =
      literals_there ts (each_there (map (λ a. a.1) (map (argument atoms) ts))
      (first_there make (together (map (λ a. a.1) (map (argument atoms) ts))) h))

  -- terms as P says pass the test where the relation gives a literal
  abbrev Tests : (Term → Type 0) → (Term → Term → Bool) → Relation → Type 0
  Tests P test relation = (a b : Term) → P a → P b → There relation a b → test a b ≡ true

  abbrev neighbours : Relation → List Term → List (Option Lit)
  neighbours relation ts = of_neighbours (relation atoms) (map (argument atoms) ts)

  abbrev pairs : Relation → List Term → List (Option Lit)
  pairs relation ts = of_pairs (relation atoms) (map (argument atoms) ts)

  abbrev row : Relation → Term → List Term → List (Option Lit)
  row relation t ts = map (relation atoms (argument atoms t)) (map (argument atoms) ts)

  chain_there : (P : Term → Type 0) (test : Term → Term → Bool) (relation : Relation) → Tests P test relation
      → (ts : List Term) → Each P ts → list_all is_some (neighbours relation ts) ≡ true → is_chain test ts ≡ true
  chain_there P test relation tests [] all h = refl
  chain_there P test relation tests (t ∷ []) all h = refl
  chain_there P test relation tests (t ∷ u ∷ ts) all h =
      let parts = and_parts (is_some (relation atoms (argument atoms t) (argument atoms u)))
      (list_all is_some (neighbours relation (u ∷ ts))) h in
      and_from (test t u) (is_chain test (u ∷ ts)) (tests t u all.0 all.1.0 parts.0)
      (chain_there P test relation tests (u ∷ ts) all.1 parts.1)

  row_there : (P : Term → Type 0) (test : Term → Term → Bool) (relation : Relation) → Tests P test relation
      → (t : Term) → P t → (ts : List Term) → Each P ts → list_all is_some (row relation t ts) ≡ true
      → list_all (test t) ts ≡ true
  row_there P test relation tests t here [] all h = refl
  row_there P test relation tests t here (u ∷ us) all h =
      let parts = and_parts (is_some (relation atoms (argument atoms t) (argument atoms u)))
      (list_all is_some (row relation t us)) h in
      and_from (test t u) (list_all (test t) us) (tests t u here all.0 parts.0)
      (row_there P test relation tests t here us all.1 parts.1)

  row_parts : (relation : Relation) (t : Term) (ts : List Term)
      → list_all is_some (row relation t ts ++ pairs relation ts) ≡ true
      → (list_all is_some (row relation t ts) ≡ true) × (list_all is_some (pairs relation ts) ≡ true)
  row_parts relation t ts h =
      and_parts (list_all is_some (row relation t ts)) (list_all is_some (pairs relation ts))
      (sym (list_all-append is_some (row relation t ts) (pairs relation ts)) ∙ h)

  pairs_there : (P : Term → Type 0) (test : Term → Term → Bool) (relation : Relation) → Tests P test relation
      → (ts : List Term) → Each P ts → list_all is_some (pairs relation ts) ≡ true → are_pairs test ts ≡ true
  pairs_there P test relation tests [] all h = refl
  pairs_there P test relation tests (t ∷ ts) all h =
      let parts = row_parts relation t ts h in
      and_from (list_all (test t) ts) (are_pairs test ts) (row_there P test relation tests t all.0 ts all.1 parts.0)
      (pairs_there P test relation tests ts all.1 parts.1)

  -- where the relation gives a literal of two terms, both have one
  abbrev GivesBoth : (Term → Type 0) → Relation → Type 0
  GivesBoth P relation = (a b : Term) → P a → There relation a b → HasLiteral a × HasLiteral b

  neighbours_both : (P : Term → Type 0) (relation : Relation) → GivesBoth P relation → (t u : Term) (ts : List Term)
      → Each P (t ∷ u ∷ ts) → list_all is_some (neighbours relation (t ∷ u ∷ ts)) ≡ true
      → Each HasLiteral (t ∷ u ∷ ts)
  neighbours_both P relation gives t u [] all h =
      let two = gives t u all.0
      (and_parts (is_some (relation atoms (argument atoms t) (argument atoms u))) true h).0 in
      (two.0, (two.1, tt))
  neighbours_both P relation gives t u (v ∷ ts) all h =
      let parts = and_parts (is_some (relation atoms (argument atoms t) (argument atoms u)))
      (list_all is_some (neighbours relation (u ∷ v ∷ ts))) h in
      ((gives t u all.0 parts.0).0, neighbours_both P relation gives u v ts all.1 parts.1)

  row_both : (P : Term → Type 0) (relation : Relation) → GivesBoth P relation → (t : Term) → P t → (ts : List Term)
      → list_all is_some (row relation t ts) ≡ true → Each HasLiteral ts
  row_both P relation gives t here [] h = tt
  row_both P relation gives t here (u ∷ us) h =
      let parts = and_parts (is_some (relation atoms (argument atoms t) (argument atoms u)))
      (list_all is_some (row relation t us)) h in
      ((gives t u here parts.0).1, row_both P relation gives t here us parts.1)

  pairs_both : (P : Term → Type 0) (relation : Relation) → GivesBoth P relation → (t u : Term) (ts : List Term)
      → Each P (t ∷ u ∷ ts) → list_all is_some (pairs relation (t ∷ u ∷ ts)) ≡ true → Each HasLiteral (t ∷ u ∷ ts)
  pairs_both P relation gives t u ts all h =
      let first = (row_parts relation t (u ∷ ts) h).0 in
      let parts = and_parts (is_some (relation atoms (argument atoms t) (argument atoms u)))
      (list_all is_some (row relation t ts)) first in
      ((gives t u all.0 parts.0).0, row_both P relation gives t all.0 (u ∷ ts) first)

  -- Equalities.

  abbrev OfSort : Sort → Term → Type 0
  OfSort k t = sort_of t ≡ k

  equality_tests : (k : Sort) → Tests (OfSort k) (test_of k) equality
  equality_tests k a b i j h =
      step k (sym (ap (λ k. is_some (equality_by k atoms (argument atoms a) (argument atoms b))) i) ∙ h)
    where
      step : (k : Sort) → There (equality_by k) a b → test_of k a b ≡ true
      step boolean h = refl
      step integer h =
          compared_there (pos 0) a b
          (and_parts (is_some (compared atoms (pos 0) a b)) (is_some (compared atoms (pos 0) b a) && true)
          (all_there (compared atoms (pos 0) a b ∷ compared atoms (pos 0) b a ∷ []) h)).0
      step text h = word_pair_there a b h
      step reglan h = h

  difference_tests : (k : Sort) → Tests (OfSort k) (test_of k) (λ table a b. negated (equality table a b))
  difference_tests k a b i j h =
      equality_tests k a b i j (mapped_there _ (equality atoms (argument atoms a) (argument atoms b)) h)

  truth_there : (o p : Option Lit) → is_some (truth_equality atoms o p) ≡ true
      → (is_some o ≡ true) × (is_some p ≡ true)
  truth_there None p h = absurd (false≢true h)
  truth_there (Some l) p h = (refl, first_there (equivalence atoms l) p h)

  equality_both : GivesBoth (OfSort boolean) equality
  equality_both a b i h =
      truth_there (translation atoms a) (translation atoms b)
      (sym (ap (λ k. is_some (equality_by k atoms (argument atoms a) (argument atoms b))) i) ∙ h)

  difference_both : GivesBoth (OfSort boolean) (λ table a b. negated (equality table a b))
  difference_both a b i h =
      equality_both a b i (mapped_there _ (equality atoms (argument atoms a) (argument atoms b)) h)

  each_of : (k : Sort) (ts : List Term) → list_all (is_same_sort k) (map sort_of ts) ≡ true → Each (OfSort k) ts
  each_of k [] h = tt
  each_of k (t ∷ ts) h =
      let parts = and_parts (is_same_sort k (sort_of t)) (list_all (is_same_sort k) (map sort_of ts)) h in
      (same_sort k (sort_of t) parts.0, each_of k ts parts.1)

  abbrev AreTwo : List Term → Type 0
  AreTwo ts = nat_le 2 (length (map sort_of ts)) ≡ true

  neighbours_literals : (ts : List Term) → AreTwo ts → Each (OfSort boolean) ts
      → list_all is_some (neighbours equality ts) ≡ true → Each HasLiteral ts
  neighbours_literals [] two all h = absurd (false≢true two)
  neighbours_literals (t ∷ []) two all h = absurd (false≢true two)
  neighbours_literals (t ∷ u ∷ ts) two all h = neighbours_both (OfSort boolean) equality equality_both t u ts all h

  pairs_literals : (ts : List Term) → AreTwo ts → Each (OfSort boolean) ts
      → list_all is_some (pairs (λ table a b. negated (equality table a b)) ts) ≡ true → Each HasLiteral ts
  pairs_literals [] two all h = absurd (false≢true two)
  pairs_literals (t ∷ []) two all h = absurd (false≢true two)
  pairs_literals (t ∷ u ∷ ts) two all h =
      pairs_both (OfSort boolean) (λ table a b. negated (equality table a b)) difference_both t u ts all h

  no_chain : (ts : List Term) → AreTwo ts → is_chain (λ a b. false) ts ≡ true → false ≡ true
  no_chain [] two h = two
  no_chain (t ∷ []) two h = two
  no_chain (t ∷ u ∷ ts) two h = h

  no_pairs : (ts : List Term) → AreTwo ts → are_pairs (λ a b. false) ts ≡ true → false ≡ true
  no_pairs [] two h = two
  no_pairs (t ∷ []) two h = two
  no_pairs (t ∷ u ∷ ts) two h = h

  equal_fits : (ts : List Term) (b : Bool) → IsTaken (arity_of symbol.core_equal) (map sort_of ts)
      → (Each HasLiteral ts → b ≡ true) → list_all is_some (neighbours equality ts) ≡ true
      → fits_applied symbol.core_equal ts b ≡ true
  equal_fits ts b are each h = step (sort_of_first ts) (each_of (sort_of_first ts) ts (all_of_first ts are.takes))
    where
      step : (k : Sort) → Each (OfSort k) ts → elim k as (λ _. Bool) [
        | boolean ↦ b
        | integer ↦ is_chain is_linear_pair ts
        | text ↦ is_chain is_word_pair ts
        | reglan ↦ false
      ] ≡ true
      step boolean all = each (neighbours_literals ts are.count all h)
      step integer all = chain_there (OfSort integer) (test_of integer) equality (equality_tests integer) ts all h
      step text all = chain_there (OfSort text) (test_of text) equality (equality_tests text) ts all h
      step reglan all =
          no_chain ts are.count (chain_there (OfSort reglan) (test_of reglan) equality (equality_tests reglan) ts all h)

  distinct_fits : (ts : List Term) (b : Bool) → IsTaken (arity_of symbol.core_distinct) (map sort_of ts)
      → (Each HasLiteral ts → b ≡ true)
      → list_all is_some (pairs (λ table a b. negated (equality table a b)) ts) ≡ true
      → fits_applied symbol.core_distinct ts b ≡ true
  distinct_fits ts b are each h = step (sort_of_first ts) (each_of (sort_of_first ts) ts (all_of_first ts are.takes))
    where
      step : (k : Sort) → Each (OfSort k) ts → elim k as (λ _. Bool) [
        | boolean ↦ b
        | integer ↦ are_pairs is_linear_pair ts
        | text ↦ are_pairs is_word_pair ts
        | reglan ↦ false
      ] ≡ true
      step boolean all = each (pairs_literals ts are.count all h)
      step integer all =
          pairs_there (OfSort integer) (test_of integer) (λ table a b. negated (equality table a b))
          (difference_tests integer) ts all h
      step text all =
          pairs_there (OfSort text) (test_of text) (λ table a b. negated (equality table a b))
          (difference_tests text) ts
          all h
      step reglan all =
          no_pairs ts are.count
          (pairs_there (OfSort reglan) (test_of reglan) (λ table a b. negated (equality table a b))
          (difference_tests reglan) ts all h)

  -- Comparisons and memberships.

  comparisons_fit : (k : ℤ) (ts : List Term)
      → list_all is_some (neighbours (λ table a b. compared table k a.0 b.0) ts) ≡ true
      → is_chain is_linear_pair ts ≡ true
  comparisons_fit k ts h =
      chain_there (λ t. Unit {0}) is_linear_pair (λ table a b. compared table k a.0 b.0)
      (λ a b i j there. compared_there k a b there) ts (any_term ts) h

  comparisons_back_fit : (k : ℤ) (ts : List Term)
      → list_all is_some (neighbours (λ table a b. compared table k b.0 a.0) ts) ≡ true
      → is_chain is_linear_pair ts ≡ true
  comparisons_back_fit k ts h =
      chain_there (λ t. Unit {0}) is_linear_pair (λ table a b. compared table k b.0 a.0)
      (λ a b i j there. compared_back k a b there) ts (any_term ts) h

  regular_there : (R : Term) → is_some (regex_of R) ≡ true → is_regular R ≡ true
  regular_there R h = step (is_regular R) h
    where
      step : (b : Bool) → is_some (if b then regex_meant (meaning_of [] R) else None) ≡ true → b ≡ true
      step true h = refl
      step false h = h

  member_fits : (ts : List Term) → is_some (member_of atoms (map (argument atoms) ts)) ≡ true
      → is_membership_pair ts ≡ true
  member_fits [] h = h
  member_fits (t ∷ []) h = h
  member_fits (t ∷ R ∷ []) h =
      let parts = membership_there t (regex_of R) h in
      and_from (is_some (single_pieces t)) (is_regular R) parts.1 (regular_there R parts.0)
  member_fits (t ∷ R ∷ u ∷ ts) h = h

  of_terms_fit : (make : Term → Term → Option Lit) (test : Term → Term → Bool)
      → ((s t : Term) → is_some (make s t) ≡ true → test s t ≡ true) → (ts : List Term)
      → is_some (of_terms make (map (argument atoms) ts)) ≡ true → of_two test ts ≡ true
  of_terms_fit make test fit [] h = h
  of_terms_fit make test fit (s ∷ []) h = h
  of_terms_fit make test fit (s ∷ t ∷ []) h = fit s t h
  of_terms_fit make test fit (s ∷ t ∷ u ∷ ts) h = h

  -- Symbols.

  -- of no arguments each has a literal
  none_taken : (ts : List Term) → takes_sorts (of_each []) (map sort_of ts) ≡ true → Each HasLiteral ts
  none_taken [] takes = tt
  none_taken (t ∷ ts) takes = absurd (false≢true takes)

  applied_fits : (s : Symbol) (ts : List Term) (b : Bool) → IsTaken (arity_of s) (map sort_of ts)
      → (Each HasLiteral ts → b ≡ true) → is_some (applied atoms s (map (argument atoms) ts)) ≡ true
      → fits_applied s ts b ≡ true
  applied_fits symbol.core_true ts b are each h = each (none_taken ts are.takes)
  applied_fits symbol.core_false ts b are each h = each (none_taken ts are.takes)
  applied_fits symbol.core_not ts b are each h =
      each (of_literals_there only_one ts (mapped_there _ (of_literals only_one (map (argument atoms) ts)) h))
  applied_fits symbol.core_and ts b are each h = each (of_literals_there (conjunction atoms) ts h)
  applied_fits symbol.core_or ts b are each h = each (of_literals_there (disjunction atoms) ts h)
  applied_fits symbol.core_implies ts b are each h = each (of_literals_there (implications atoms) ts h)
  applied_fits symbol.core_xor ts b are each h = each (of_literals_there (exclusive atoms) ts h)
  applied_fits symbol.core_ite ts b are each h = each (of_literals_there (choice atoms) ts h)
  applied_fits symbol.core_equal ts b are each h = equal_fits ts b are each (all_there (neighbours equality ts) h)
  applied_fits symbol.core_distinct ts b are each h =
      distinct_fits ts b are each (all_there (pairs (λ table a b. negated (equality table a b)) ts) h)
  applied_fits symbol.at_most ts b are each h =
      comparisons_fit (pos 0) ts (all_there (neighbours (λ table a b. compared table (pos 0) a.0 b.0) ts) h)
  applied_fits symbol.less ts b are each h =
      comparisons_fit (neg_ℤ (pos 1)) ts
      (all_there (neighbours (λ table a b. compared table (neg_ℤ (pos 1)) a.0 b.0) ts) h)
  applied_fits symbol.at_least ts b are each h =
      comparisons_back_fit (pos 0) ts (all_there (neighbours (λ table a b. compared table (pos 0) b.0 a.0) ts) h)
  applied_fits symbol.greater ts b are each h =
      comparisons_back_fit (neg_ℤ (pos 1)) ts
      (all_there (neighbours (λ table a b. compared table (neg_ℤ (pos 1)) b.0 a.0) ts) h)
  applied_fits symbol.str_in_re ts b are each h = member_fits ts h
  applied_fits symbol.str_prefixof ts b are each h =
      of_terms_fit (affix atoms beginning_with prefixes) is_affix_pair (affix_there beginning_with prefixes) ts h
  applied_fits symbol.str_suffixof ts b are each h =
      of_terms_fit (affix atoms ending_with suffixes) is_affix_pair (affix_there ending_with suffixes) ts h
  applied_fits symbol.str_contains ts b are each h =
      of_terms_fit (λ whole part. affix atoms containing factors part whole) (λ whole part. is_affix_pair part whole)
      (λ whole part h. affix_there containing factors part whole h) ts h
  applied_fits _ ts b are each h = absurd (false≢true h)

  -- Terms.

  mutual
    pub term_fits : (t : Term) → is_well_sorted t ≡ true → HasLiteral t → fits t ≡ true
    term_fits (constant serial boolean) well h = refl
    term_fits (constant serial integer) well h = h
    term_fits (constant serial text) well h = h
    term_fits (constant serial reglan) well h = h
    term_fits (word w) well h = h
    term_fits (numeral n) well h = h
    term_fits (apply s terms) well h =
        let parts =
        and_parts (is_none (judged s (map sort_of (terms_in terms)))) (are_well_sorted_over [] terms) well in
        applied_fits s (terms_in terms) (each_fits terms) (taken s (map sort_of (terms_in terms)) parts.0)
        (terms_fit terms parts.1)
        (ap (λ given. is_some (applied atoms s given)) (sym (arguments_are atoms terms)) ∙ h)
    term_fits (parameter place sort) well h = h

    terms_fit : (terms : Terms) → are_well_sorted_over [] terms ≡ true → Each HasLiteral (terms_in terms)
        → each_fits terms ≡ true
    terms_fit no_terms well all = refl
    terms_fit (with_term t terms) well all =
        let parts = and_parts (is_well_sorted t) (are_well_sorted_over [] terms) well in
        and_from (fits t) (each_fits terms) (term_fits t parts.0 all.0) (terms_fit terms parts.1 all.1)
