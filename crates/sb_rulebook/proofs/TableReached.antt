-- What can be made over some table that is larger than a given one: literals of literals, of bounds and of memberships.
use Rattle.std.proofs.Common.{◌≡◌, ℕ, Bool, true, false, ◌&&◌, ◌||◌, if◌then◌else◌, List, [], ◌∷◌, ◌++◌, map, Option, Some, None, is_some, option_map, option_and_then, refl, sym, ap, ◌∙◌}
use Rattle.std.specs.Prelude.{ℤ, pos, ◌-ℤ◌, neg_ℤ, int_le}
use Rattle.std.specs.List.{list_any, position_from}
use Rattle.std.specs.Ordering.{is_gt}
use Rattle.std.proofs.lemmas.Bool.{and_parts, or_left, or_right, false≢true}
use Rattle.std.proofs.lemmas.List.Folds.{list_any-append}
use Rattle.sb_rulebook.proofs.ListFacts.{any-position}
use Rattle.std.proofs.lemmas.List.{append_assoc}
use Rattle.sb_lit.specs.declared.clause.Lit.{Lit}
use Rattle.sb_lit.specs.Clauses.{negation, literal_order}
use Rattle.sb_lang.specs.Regex.{Regex}
use Rattle.sb_lang.specs.Normal.{word_regex}
use Rattle.sb_lang.specs.OrderLaws.{OrderTellsApart}
use Rattle.sb_meaning.specs.Terms.{Term}
use Rattle.sb_rulebook.specs.Atoms.{Atom, in_atom, le_atom, sum_atom, and_atom, iff_atom, is_same_atom, number_of, is_one}
use Rattle.sb_rulebook.specs.Parts.{together}
use Rattle.sb_rulebook.specs.Translation.{positive, negated, in_order, conjunction_of, conjunction, disjunction, implication, equivalence, implications, exclusive_from, choice, bound, difference_bound, compared, membership, word_equality, affix, number_equality, all_true}
use Rattle.sb_rulebook.proofs.SameFacts.{atom_itself}
use Rattle.sb_rulebook.proofs.TableStays.{Stays, AllStay, given_stays, together_one, no_literals, none_stay, one_stays, negated_stays, implication_stays, equivalence_stays, implications_stay, compared_stays}
use Rattle.sb_script.specs.Fragment.{is_word_pair, is_small_difference, is_linear_pair, is_affix_pair}
use Rattle.sb_script.specs.Sums.{Summand, Sum, subtracted, is_small, if_small, sum_of}
use Rattle.sb_script.specs.Pieces.{single_pieces, ground_word, whole_word}

-- a value over some table that is larger than this one
pub record Found {A : Type 0} (make : List Atom → Option A) (atoms : List Atom) : Type 0 where
  pub more : List Atom
  pub value : A
  pub found : make (atoms ++ more) ≡ Some value

pub record Reached {A : Type 0} (make : List Atom → Option A) : Type 0 where
  pub reach : (atoms : List Atom) → Found make atoms

pub record AllReached {A : Type 0} (make : List Atom → List (Option A)) : Type 0 where
  pub all_reached : Reached (λ atoms. together (make atoms))

-- Parts.

pub given_reached : {A : Type 0} (o : Option A) (x : A) → o ≡ Some x → Reached (λ atoms. o)
given_reached o x e = record { reach = λ atoms. record { more = []; value = x; found = e } }

pub same_reached : {A : Type 0} {other : List Atom → Option A} (make : List Atom → Option A)
    → ((atoms : List Atom) → make atoms ≡ other atoms) → Reached other → Reached make
same_reached {A} {other} make same r = record { reach = λ atoms. step atoms (r.reach atoms) }
  where
    step : (atoms : List Atom) → Found other atoms → Found make atoms
    step atoms one =
        record { more = one.more; value = one.value; found = same (atoms ++ one.more) ∙ one.found }

pub then_reached : {A B : Type 0} {make : List Atom → Option A} (f : A → List Atom → Option B) → Stays make
    → Reached make
    → ((x : A) (atoms : List Atom) → make atoms ≡ Some x → Reached (f x))
    → Reached (λ atoms. option_and_then (λ x. f x atoms) (make atoms))
then_reached {A} {B} {make} f s r k = record { reach = λ atoms. step atoms (r.reach atoms) }
  where
    step : (atoms : List Atom) → Found make atoms
        → Found (λ atoms. option_and_then (λ x. f x atoms) (make atoms)) atoms
    step atoms one =
        let two = (k one.value (atoms ++ one.more) one.found).reach (atoms ++ one.more) in
        record {
          more = one.more ++ two.more;
          value = two.value;
          found = ap (λ (table : List Atom). option_and_then (λ x. f x table) (make table))
              (sym (append_assoc atoms one.more two.more))
              ∙ ap (option_and_then (λ x. f x ((atoms ++ one.more) ++ two.more)))
              (s.stay (atoms ++ one.more) two.more one.value one.found)
              ∙ two.found;
        }

pub map_reached : {A B : Type 0} {make : List Atom → Option A} (f : A → B) → Reached make
    → Reached (λ atoms. option_map f (make atoms))
map_reached {A} {B} {make} f r = record { reach = λ atoms. step atoms (r.reach atoms) }
  where
    step : (atoms : List Atom) → Found make atoms → Found (λ atoms. option_map f (make atoms)) atoms
    step atoms one = record { more = one.more; value = f one.value; found = ap (option_map f) one.found }

either_reached : {A : Type 0} {make other : List Atom → Option A} (b : Bool) → Reached make → Reached other
    → Reached (λ atoms. if b then make atoms else other atoms)
either_reached true r s = r
either_reached false r s = s

pub none_reached : AllReached no_literals
none_reached = record { all_reached = given_reached (Some []) [] refl }

pub one_reached : {A : Type 0} {make : List Atom → Option A} {others : List Atom → List (Option A)} → Stays make
    → Reached make → AllReached others → AllReached (λ atoms. make atoms ∷ others atoms)
one_reached {A} {make} {others} s r t = record {
  all_reached = same_reached (λ atoms. together (make atoms ∷ others atoms))
      (λ atoms. together_one (make atoms) (others atoms))
      (then_reached (λ x atoms. option_map (λ xs. x ∷ xs) (together (others atoms))) s r
      (λ x atoms e. map_reached (λ xs. x ∷ xs) t.all_reached));
}

-- what is there
pub record Is {A : Type 0} (o : Option A) : Type 0 where
  pub value : A
  pub is : o ≡ Some value

pub there : {A : Type 0} (o : Option A) → is_some o ≡ true → Is o
there None h = absurd (false≢true h)
there (Some x) h = record { value = x; is = refl }

-- what passes at the end has a place
at_end : {A : Type 0} (test : A → Bool) (xs : List A) (x : A) → test x ≡ true
    → Is (position_from test 0 (xs ++ x ∷ []))
at_end test xs x passes =
    there (position_from test 0 (xs ++ x ∷ []))
    (sym (any-position test 0 (xs ++ x ∷ [])) ∙ list_any-append test xs (x ∷ [])
    ∙ or_right (list_any test xs) (test x || false) (or_left (test x) false passes))

-- both comparisons
pub record ComparedBoth (a b : Term) : Type 0 where
  pub forth : (k : ℤ) → Reached (λ atoms. compared atoms k a b)
  pub back : (k : ℤ) → Reached (λ atoms. compared atoms k b a)

module _ (apart : OrderTellsApart) where
  -- Literals.

  pub positive_reached : (atom : Atom) → Reached (λ atoms. positive atoms atom)
  positive_reached atom = map_reached (λ n. record { atom = n; positive = true }) number
    where
      number : Reached (λ atoms. number_of atoms atom)
      number = record {
        reach = λ atoms.
            let at = at_end (is_same_atom atom) atoms atom (atom_itself apart atom) in
            record { more = atom ∷ []; value = at.value; found = at.is };
      }

  pub negated_reached : {make : List Atom → Option Lit} → Reached make → Reached (λ atoms. negated (make atoms))
  negated_reached r = map_reached negation r

  conjunction_of_reached : (ls : List Lit) → Reached (λ atoms. conjunction_of atoms ls)
  conjunction_of_reached [] = positive_reached (and_atom [])
  conjunction_of_reached (l ∷ []) = given_reached (Some l) l refl
  conjunction_of_reached (l ∷ m ∷ ls) = positive_reached (and_atom (l ∷ m ∷ ls))

  pub conjunction_reached : (ls : List Lit) → Reached (λ atoms. conjunction atoms ls)
  conjunction_reached ls = conjunction_of_reached (in_order ls)

  pub disjunction_reached : (ls : List Lit) → Reached (λ atoms. disjunction atoms ls)
  disjunction_reached ls = negated_reached (conjunction_reached (map negation ls))

  implication_reached : (l m : Lit) → Reached (λ atoms. implication atoms l m)
  implication_reached l m = negated_reached (conjunction_reached (l ∷ negation m ∷ []))

  pub equivalence_reached : (l m : Lit) → Reached (λ atoms. equivalence atoms l m)
  equivalence_reached l m = positive_reached (if is_gt (literal_order l m) then iff_atom m l else iff_atom l m)

  pub implications_reached : (l : Lit) (ls : List Lit) → Reached (λ atoms. implications atoms (l ∷ ls))
  implications_reached l [] = given_reached (Some l) l refl
  implications_reached l (m ∷ ls) =
      then_reached (λ k atoms. implication atoms l k) (implications_stay (m ∷ ls)) (implications_reached m ls)
      (λ k atoms e. implication_reached l k)

  pub exclusive_from_reached : (l : Lit) (ls : List Lit) → Reached (λ atoms. exclusive_from atoms l ls)
  exclusive_from_reached l [] = given_reached (Some l) l refl
  exclusive_from_reached l (m ∷ ms) =
      then_reached (λ k atoms. exclusive_from atoms k ms) (negated_stays (equivalence_stays l m))
      (negated_reached (equivalence_reached l m)) (λ k atoms e. exclusive_from_reached k ms)

  pub all_true_reached : {make : List Atom → List (Option Lit)} → AllStay make → AllReached make
      → Reached (λ atoms. all_true atoms (make atoms))
  all_true_reached s r =
      then_reached (λ ls atoms. conjunction atoms ls) s.all_stay r.all_reached
      (λ ls atoms e. conjunction_reached ls)

  both_reached : {make other : List Atom → Option Lit} → Stays make → Reached make → Stays other → Reached other
      → Reached (λ atoms. all_true atoms (make atoms ∷ other atoms ∷ []))
  both_reached s r t q =
      all_true_reached (one_stays s (one_stays t none_stay)) (one_reached s r (one_reached t q none_reached))

  pub choice_reached : (c l m : Lit) → Reached (λ atoms. choice atoms (c ∷ l ∷ m ∷ []))
  choice_reached c l m =
      both_reached (implication_stays c l) (implication_reached c l) (implication_stays (negation c) m)
      (implication_reached (negation c) m)

  -- Numbers and words.

  bound_reached : (ss : List Summand) (k : ℤ) → Reached (λ atoms. bound atoms ss k)
  bound_reached [] k =
      either_reached (int_le (pos 0) k) (conjunction_reached []) (negated_reached (conjunction_reached []))
  bound_reached (s ∷ []) k =
      either_reached (is_one s.0) (positive_reached (le_atom s.1 k))
      (either_reached (is_one (neg_ℤ s.0)) (negated_reached (positive_reached (le_atom s.1 (neg_ℤ k -ℤ pos 1))))
      (positive_reached (sum_atom k (s ∷ []))))
  bound_reached (s ∷ t ∷ ss) k = positive_reached (sum_atom k (s ∷ t ∷ ss))

  difference_bound_reached : (k : ℤ) (s t : Sum) → is_small (subtracted s t) ≡ true
      → Reached (λ atoms. difference_bound atoms k s t)
  difference_bound_reached k s t small =
      then_reached (λ d atoms. bound atoms d.summands (k -ℤ d.constant)) (given_stays (if_small (subtracted s t)))
      (given_reached (if_small (subtracted s t)) (subtracted s t)
      (ap (λ b. if b then Some (subtracted s t) else None) small))
      (λ d atoms e. bound_reached d.summands (k -ℤ d.constant))

  compared_reached : (k : ℤ) (a b : Term) (s t : Sum) → sum_of a ≡ Some s → sum_of b ≡ Some t
      → is_small (subtracted s t) ≡ true → Reached (λ atoms. compared atoms k a b)
  compared_reached k a b s t first second small =
      same_reached (λ atoms. compared atoms k a b)
      (λ atoms. ap (option_and_then (λ s. option_and_then (difference_bound atoms k s) (sum_of b))) first
      ∙ ap (option_and_then (difference_bound atoms k s)) second)
      (difference_bound_reached k s t small)

  pub linear_pair : (a b : Term) → is_linear_pair a b ≡ true → ComparedBoth a b
  linear_pair a b h = step (sum_of a) refl (sum_of b) refl h
    where
      step : (o : Option Sum) → sum_of a ≡ o → (p : Option Sum) → sum_of b ≡ p → is_small_difference o p ≡ true
          → ComparedBoth a b
      step None e p f h = absurd (false≢true h)
      step (Some s) e None f h = absurd (false≢true h)
      step (Some s) e (Some t) f h =
          let parts = and_parts (is_small (subtracted s t)) (is_small (subtracted t s)) h in
          record {
            forth = λ k. compared_reached k a b s t e f parts.0;
            back = λ k. compared_reached k b a t s f e parts.1;
          }

  pub number_equality_reached : (a b : Term) → is_linear_pair a b ≡ true → Reached (λ atoms. number_equality atoms a b)
  number_equality_reached a b h =
      let both = linear_pair a b h in
      both_reached (compared_stays (pos 0) a b) (both.forth (pos 0)) (compared_stays (pos 0) b a) (both.back (pos 0))

  pub membership_reached : (t : Term) (regex : Option Regex) → Is regex → is_some (single_pieces t) ≡ true
      → Reached (λ atoms. membership atoms t regex)
  membership_reached t regex r single =
      let pieces = there (single_pieces t) single in
      then_reached (λ r atoms. option_and_then (λ ps. positive atoms (in_atom ps r)) (single_pieces t))
      (given_stays regex) (given_reached regex r.value r.is)
      (λ r atoms e. then_reached (λ ps atoms. positive atoms (in_atom ps r)) (given_stays (single_pieces t))
      (given_reached (single_pieces t) pieces.value pieces.is) (λ ps atoms e. positive_reached (in_atom ps r)))

  pub word_equality_reached : (a b : Term) → is_word_pair a b ≡ true → Reached (λ atoms. word_equality atoms a b)
  word_equality_reached a b h = step (ground_word b) h
    where
      step : (o : Option (List ℕ)) → elim o as (λ _. Bool) [
        | Some w ↦ is_some (single_pieces a)
        | None ↦ is_some (ground_word a) && is_some (single_pieces b)
      ] ≡ true → Reached (λ atoms. elim o as (λ _. Option Lit) [
        | Some w ↦ membership atoms a (Some (word_regex w))
        | None ↦ membership atoms b (option_map word_regex (ground_word a))
      ])
      step (Some w) h = membership_reached a (Some (word_regex w)) (record { value = word_regex w; is = refl }) h
      step None h =
          let parts = and_parts (is_some (ground_word a)) (is_some (single_pieces b)) h in
          let here = there (ground_word a) parts.0 in
          membership_reached b (option_map word_regex (ground_word a))
          (record { value = word_regex here.value; is = ap (option_map word_regex) here.is }) parts.1

  pub affix_reached : (holders parts : List ℕ → Regex) (part whole : Term) → is_affix_pair part whole ≡ true
      → Reached (λ atoms. affix atoms holders parts part whole)
  affix_reached holders parts part whole h = step (ground_word part) h
    where
      step : (o : Option (List ℕ)) → elim o as (λ _. Bool) [
        | Some w ↦ is_some (single_pieces whole)
        | None ↦ is_some (whole_word whole) && is_some (single_pieces part)
      ] ≡ true → Reached (λ atoms. elim o as (λ _. Option Lit) [
        | Some w ↦ membership atoms whole (Some (holders w))
        | None ↦ membership atoms part (option_map parts (whole_word whole))
      ])
      step (Some w) h = membership_reached whole (Some (holders w)) (record { value = holders w; is = refl }) h
      step None h =
          let both = and_parts (is_some (whole_word whole)) (is_some (single_pieces part)) h in
          let here = there (whole_word whole) both.0 in
          membership_reached part (option_map parts (whole_word whole))
          (record { value = parts here.value; is = ap (option_map parts) here.is }) both.1
