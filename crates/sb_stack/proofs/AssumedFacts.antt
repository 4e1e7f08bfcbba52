-- Assumptions: of which constants they are, what a list of items is answered, and how they are printed.
use Rattle.std.proofs.Common.{◌≡◌, ℕ, zero, suc, ◌+◌, ◌<◌, ◌≤◌, Bool, true, false, ◌==◌, nat_lt, if◌then◌else◌, List, [], ◌∷◌, ◌++◌, map, drop, length, get_or, Option, Some, None, refl, sym, ap, ap₂, subst, ◌∙◌, arith}
use Rattle.std.specs.List.{list_all}
use Rattle.std.proofs.lemmas.Bool.{and_parts, and_from, false≢true, eqb-true, lt-ltb}
use Rattle.std.proofs.lemmas.List.{append-nil, drop_more, drop_all}
use Rattle.std.proofs.lemmas.Option.{none-some, same_Some}
use Rattle.sb_reader.specs.Forms.{Form, Symbol, QuotedSymbol, Keyword, Numeral, OtherNumber, Words, Group, none, more}
use Rattle.sb_meaning.specs.Sorts.{is_same_sort}
use Rattle.sb_meaning.specs.Terms.{Sort, Term, boolean}
use Rattle.sb_script.specs.Errors as error
use Rattle.sb_script.specs.Errors.{Error, earlier, first_of}
use Rattle.sb_script.specs.Names.{Name, begins_term}
use Rattle.sb_script.specs.Symbols.{is_theory_name}
use Rattle.sb_script.specs.Scopes.{Named, Constant, a_constant, a_definition, a_marked_name, a_term, named}
use Rattle.sb_script.specs.State.{State, Assumption, constants_of}
use Rattle.sb_script.specs.Steps.{Step, checks, fails_by}
use Rattle.sb_script.specs.Replies as meaning
use Rattle.sb_script.specs.Replies.{an_assumption, an_error, assumed_name, assumed_form, is_not, errors_in, assumptions_in, unless_error, assumption_text, name_of}
use Rattle.sb_term.specs.declared.term.Serial.{Serial}
use Rattle.sb_sorts.specs.declared.scope.Named as scope
use Rattle.sb_sorts.specs.Scopes.{naming_in, constants_among, serials_in, ascend_below, has_sort, are_sorted}
use Rattle.sb_stack.specs.declared.assuming.Assumed.{Assumed}
use Rattle.sb_stack.specs.declared.assuming.Assumed.TheVariants as item
use Rattle.sb_stack.specs.Assumptions.{assumed_in, first_unknown_in, some_wrong_sort, all_literals, error_among, assumes, is_live_assumed, named_by, assumption_said}
use Rattle.sb_stack.specs.Speaking.{is_one_of, are_assumed}
use Rattle.sb_stack.specs.Values.{with_names}
use Rattle.sb_stack.proofs.Items.{with_front, with_front_more}
use Rattle.sb_stack.proofs.ByWords.{constant_live}
use Rattle.sb_stack.proofs.Live.{same_sort, one_more}

-- Of which constants they are.

assumed_more : (cs ds : List (ℕ × Sort))
    → ((n : ℕ) → is_one_of cs n boolean ≡ true → is_one_of ds n boolean ≡ true) → (xs : List Assumption)
    → are_assumed cs xs ≡ true → are_assumed ds xs ≡ true
assumed_more cs ds wider [] h = refl
assumed_more cs ds wider (a ∷ xs) h =
    let parts = and_parts (is_one_of cs a.0 boolean) (are_assumed cs xs) h in
    and_from (is_one_of ds a.0 boolean) (are_assumed ds xs) (wider a.0 parts.0) (assumed_more cs ds wider xs parts.1)

-- of the live ones, where there is one more name
pub assumed_named : (ns ms : List (Name × scope.Named)) (x : Name × scope.Named) (xs : List Assumption)
    → ms ≡ ns ++ x ∷ [] → are_assumed (constants_among ns) xs ≡ true → are_assumed (constants_among ms) xs ≡ true
assumed_named ns ms x xs is h =
    ap (λ ks. are_assumed (constants_among ks) xs) is
    ∙ assumed_more (constants_among ns) (constants_among (ns ++ x ∷ [])) (λ n one. one_more ns x n boolean one) xs h

-- a constant has the sort that stands at its serial
one_sorted : (sorts : List Sort) (cs : List (ℕ × Sort)) (n : ℕ) (kind : Sort) → are_sorted sorts cs ≡ true
    → is_one_of cs n kind ≡ true → has_sort sorts (n, kind) ≡ true
one_sorted sorts [] n kind sorted one = absurd (false≢true one)
one_sorted sorts (c ∷ cs) n kind sorted one =
    let parts = and_parts (has_sort sorts c) (are_sorted sorts cs) sorted in
    step (c.0 == n) refl one parts.0 (one_sorted sorts cs n kind parts.1)
  where
    step : (b : Bool) → (c.0 == n) ≡ b → (if b then is_same_sort c.1 kind else is_one_of cs n kind) ≡ true
        → has_sort sorts c ≡ true → (is_one_of cs n kind ≡ true → has_sort sorts (n, kind) ≡ true)
        → has_sort sorts (n, kind) ≡ true
    step true is same has later =
        subst (λ m. has_sort sorts (m, kind) ≡ true) (eqb-true c.0 n is)
        (subst (λ k. has_sort sorts (c.0, k) ≡ true) (same_sort c.1 kind same) has)
    step false is same has later = later same

serial_below : (sorts : List Sort) (n : ℕ) (kind : Sort) → has_sort sorts (n, kind) ≡ true → n < length sorts
serial_below [] n kind h = absurd (false≢true h)
serial_below (s ∷ sorts) zero kind h = omega arith
serial_below (s ∷ sorts) (suc n) kind h = omega (arith, serial_below sorts n kind h)

pub assumed_sorted : (sorts : List Sort) (cs : List (ℕ × Sort)) (xs : List Assumption) → are_sorted sorts cs ≡ true
    → are_assumed cs xs ≡ true → list_all (λ (a : Assumption). has_sort sorts (a.0, boolean)) xs ≡ true
assumed_sorted sorts cs [] sorted h = refl
assumed_sorted sorts cs (a ∷ xs) sorted h =
    let parts = and_parts (is_one_of cs a.0 boolean) (are_assumed cs xs) h in
    and_from (has_sort sorts (a.0, boolean)) (list_all (λ (b : Assumption). has_sort sorts (b.0, boolean)) xs)
    (one_sorted sorts cs a.0 boolean sorted parts.0) (assumed_sorted sorts cs xs sorted parts.1)

pub assumed_below : (sorts : List Sort) (n : ℕ) (xs : List Assumption) → length sorts ≡ n
    → list_all (λ (a : Assumption). has_sort sorts (a.0, boolean)) xs ≡ true
    → list_all (λ (a : Assumption). nat_lt a.0 n) xs ≡ true
assumed_below sorts n [] count h = refl
assumed_below sorts n (a ∷ xs) count h =
    let parts = and_parts (has_sort sorts (a.0, boolean))
    (list_all (λ (b : Assumption). has_sort sorts (b.0, boolean)) xs) h in
    and_from (nat_lt a.0 n) (list_all (λ (b : Assumption). nat_lt b.0 n) xs)
    (lt-ltb a.0 n (omega (arith, serial_below sorts a.0 boolean parts.0, count)))
    (assumed_below sorts n xs count parts.1)

-- What is assumed by a name.

abbrev assumed_for : Bool → Name → Option Named → meaning.Assumed
assumed_for positive name o = elim o [
  | Some (a_constant serial sort) ↦ if is_same_sort boolean sort then an_assumption (serial, positive)
      else an_error error.wrong_sort
  | Some _ ↦ an_error error.not_a_literal
  | None ↦ if is_theory_name name then an_error error.not_a_literal else an_error (error.unknown_symbol name)
]

one_live : (cs : List (ℕ × Sort)) (positive : Bool) (name : Name) (o : Option Named)
    → ((serial : ℕ) (sort : Sort) → o ≡ Some (a_constant serial sort) → is_one_of cs serial sort ≡ true)
    → is_live_assumed cs (assumed_for positive name o) ≡ true
one_live cs positive name None live = step (is_theory_name name)
  where
    step : (b : Bool)
        → is_live_assumed cs (if b then an_error error.not_a_literal else an_error (error.unknown_symbol name)) ≡ true
    step true = refl
    step false = refl
one_live cs positive name (Some (a_constant serial sort)) live = step (is_same_sort boolean sort) refl
  where
    step : (b : Bool) → is_same_sort boolean sort ≡ b
        → is_live_assumed cs (if b then an_assumption (serial, positive) else an_error error.wrong_sort) ≡ true
    step true same = ap (is_one_of cs serial) (same_sort boolean sort same) ∙ live serial sort refl
    step false same = refl
one_live cs positive name (Some (a_definition sorts body)) live = refl
one_live cs positive name (Some a_marked_name) live = refl
one_live cs positive name (Some (a_term t)) live = refl

either_live : (cs : List (ℕ × Sort)) (b : Bool) (x y : meaning.Assumed) → is_live_assumed cs x ≡ true
    → is_live_assumed cs y ≡ true → is_live_assumed cs (if b then x else y) ≡ true
either_live cs true x y one other = one
either_live cs false x y one other = other

module _ (ts : List Term) (bound : ℕ) (ns : List (Name × scope.Named))
    (h : ascend_below 0 bound (serials_in ns) ≡ true) where
  abbrev state : State
  state = with_names (map (naming_in ts) ns)

  abbrev live : meaning.Assumed → Type 0
  live x = is_live_assumed (constants_among ns) x ≡ true

  name_live : (positive : Bool) (name : Name) → live (assumed_name state positive name)
  name_live positive name =
      one_live (constants_among ns) positive name (named (map (naming_in ts) ns) name)
      (constant_live ts 0 bound (constants_among ns) ns name h (λ n sort one. one))

  bare_live : (positive : Bool) (name : Name) → live (meaning.assumed_bare state positive name)
  bare_live positive name =
      either_live (constants_among ns) (begins_term name) (an_error error.not_a_literal)
      (assumed_name state positive name) refl (name_live positive name)

  form_live : (form : Form) → live (assumed_form state form)
  form_live (Symbol name) = bare_live true name
  form_live (QuotedSymbol name) = name_live true name
  form_live (Keyword name) = refl
  form_live (Numeral digits) = refl
  form_live (OtherNumber digits) = refl
  form_live (Words bytes) = refl
  form_live (Group none) = refl
  form_live (Group (more head none)) = refl
  form_live (Group (more head (more (Symbol name) none))) =
      either_live (constants_among ns) (is_not head) (meaning.assumed_bare state false name)
      (an_error error.not_a_literal) (bare_live false name) refl
  form_live (Group (more head (more (QuotedSymbol name) none))) =
      either_live (constants_among ns) (is_not head) (assumed_name state false name) (an_error error.not_a_literal)
      (name_live false name) refl
  form_live (Group (more head (more _ none))) = refl
  form_live (Group (more head (more (Symbol name) (more form forms)))) = refl
  form_live (Group (more head (more (QuotedSymbol name) (more form forms)))) = refl
  form_live (Group (more head (more _ (more form forms)))) = refl

  pub assumed_forms_live : (forms : List Form)
      → list_all (is_live_assumed (constants_among ns)) (map (assumed_form state) forms) ≡ true
  assumed_forms_live [] = refl
  assumed_forms_live (form ∷ forms) =
      and_from (is_live_assumed (constants_among ns) (assumed_form state form)) _ (form_live form)
      (assumed_forms_live forms)

-- What a list of items is answered.

abbrev pick : Option Name → Bool → Option (List Assumption) → Option Error
pick u w o = elim u [
  | Some name ↦ Some (error.unknown_symbol name)
  | None ↦ if w then Some error.wrong_sort else elim o [ Some all ↦ None | None ↦ Some error.not_a_literal ]
]

by_literal : (a : Assumption) (u : Option Name) (w : Bool) (o : Option (List Assumption))
    → pick u w o
    ≡ pick u w (elim o as (λ _. Option (List Assumption)) [ Some others ↦ Some (a ∷ others) | None ↦ None ])
by_literal a (Some name) w o = refl
by_literal a None true o = refl
by_literal a None false None = refl
by_literal a None false (Some others) = refl

by_unknown : (name : Name) (u : Option Name) (w : Bool) (o : Option (List Assumption))
    → Some (earlier (error.unknown_symbol name) (pick u w o)) ≡ Some (error.unknown_symbol name)
by_unknown name (Some other) w o = refl
by_unknown name None true o = refl
by_unknown name None false None = refl
by_unknown name None false (Some others) = refl

by_wrong_sort : (u : Option Name) (w : Bool) (o : Option (List Assumption))
    → Some (earlier error.wrong_sort (pick u w o)) ≡ pick u true None
by_wrong_sort (Some name) w o = refl
by_wrong_sort None true o = refl
by_wrong_sort None false None = refl
by_wrong_sort None false (Some others) = refl

by_no_literal : (u : Option Name) (w : Bool) (o : Option (List Assumption))
    → Some (earlier error.not_a_literal (pick u w o)) ≡ pick u w None
by_no_literal (Some name) w o = refl
by_no_literal None true o = refl
by_no_literal None false None = refl
by_no_literal None false (Some others) = refl

error_is : (xs : List Assumed) → first_of (errors_in (map assumed_in xs)) ≡ error_among xs
error_is [] = refl
error_is (item.Literal serial positive ∷ xs) =
    error_is xs ∙ by_literal (serial.0, positive) (first_unknown_in xs) (some_wrong_sort xs) (all_literals xs)
error_is (item.Unknown name ∷ xs) =
    ap (λ e. Some (earlier (error.unknown_symbol name.now) e)) (error_is xs)
    ∙ by_unknown name.now (first_unknown_in xs) (some_wrong_sort xs) (all_literals xs)
error_is (item.WrongSort ∷ xs) =
    ap (λ e. Some (earlier error.wrong_sort e)) (error_is xs)
    ∙ by_wrong_sort (first_unknown_in xs) (some_wrong_sort xs) (all_literals xs)
error_is (item.NotALiteral ∷ xs) =
    ap (λ e. Some (earlier error.not_a_literal e)) (error_is xs)
    ∙ by_no_literal (first_unknown_in xs) (some_wrong_sort xs) (all_literals xs)

given_more : (a : Assumption) (given : List Assumption) (o : Option (List Assumption)) (all : List Assumption)
    → ((others : List Assumption) → o ≡ Some others → given ≡ others)
    → (elim o as (λ _. Option (List Assumption)) [ Some others ↦ Some (a ∷ others) | None ↦ None ]) ≡ Some all
    → a ∷ given ≡ all
given_more a given None all later is = absurd (none-some all is)
given_more a given (Some others) all later is = ap (λ bs. a ∷ bs) (later others refl) ∙ same_Some (a ∷ others) all is

given_all : (xs : List Assumed) (all : List Assumption) → all_literals xs ≡ Some all
    → assumptions_in (map assumed_in xs) ≡ all
given_all [] all is = same_Some [] all is
given_all (item.Literal serial positive ∷ xs) all is =
    given_more (serial.0, positive) (assumptions_in (map assumed_in xs)) (all_literals xs) all (given_all xs) is
given_all (item.Unknown name ∷ xs) all is = absurd (none-some all is)
given_all (item.WrongSort ∷ xs) all is = absurd (none-some all is)
given_all (item.NotALiteral ∷ xs) all is = absurd (none-some all is)

by_parts : (u : Option Name) (w : Bool) (o : Option (List Assumption)) (given : List Assumption) (s : State)
    → ((all : List Assumption) → o ≡ Some all → given ≡ all)
    → (elim (pick u w o) as (λ _. Step) [ Some e ↦ fails_by e s | None ↦ checks given ])
    ≡ (elim u as (λ _. Step) [
      | Some name ↦ fails_by (error.unknown_symbol name) s
      | None ↦ if w then fails_by error.wrong_sort s
          else elim o [ Some all ↦ checks all | None ↦ fails_by error.not_a_literal s ]
    ])
by_parts (Some name) w o given s h = refl
by_parts None true o given s h = refl
by_parts None false None given s h = refl
by_parts None false (Some all) given s h = ap checks (h all refl)

-- what is answered by the definitions, by the code's tests
pub assumes_is : (xs : List Assumed) (s : State)
    → unless_error (errors_in (map assumed_in xs)) (checks (assumptions_in (map assumed_in xs))) s ≡ assumes xs s
assumes_is xs s =
    ap (λ e. elim e as (λ _. Step)
    [ Some f ↦ fails_by f s | None ↦ checks (assumptions_in (map assumed_in xs)) ]) (error_is xs)
    ∙ by_parts (first_unknown_in xs) (some_wrong_sort xs) (all_literals xs) (assumptions_in (map assumed_in xs)) s
    (given_all xs)

-- all of them are of live constants
live_given : (cs : List (ℕ × Sort)) (xs : List meaning.Assumed) → list_all (is_live_assumed cs) xs ≡ true
    → are_assumed cs (assumptions_in xs) ≡ true
live_given cs [] h = refl
live_given cs (an_assumption a ∷ xs) h =
    let parts = and_parts (is_one_of cs a.0 boolean) (list_all (is_live_assumed cs) xs) h in
    and_from (is_one_of cs a.0 boolean) (are_assumed cs (assumptions_in xs)) parts.0 (live_given cs xs parts.1)
live_given cs (an_error e ∷ xs) h = live_given cs xs h

pub literals_live : (cs : List (ℕ × Sort)) (xs : List Assumed) (all : List Assumption)
    → list_all (is_live_assumed cs) (map assumed_in xs) ≡ true → all_literals xs ≡ Some all
    → are_assumed cs all ≡ true
literals_live cs xs all h is =
    ap (are_assumed cs) (sym (given_all xs all is)) ∙ live_given cs (map assumed_in xs) h

-- The assumptions, item by item.

pub literals_step : (xs : List Assumed) (i : ℕ) (d : Assumed) (serial : Serial) (positive : Bool)
    (old new : List Assumption) → i < length xs → get_or xs i d ≡ item.Literal serial positive
    → new ≡ old ++ (serial.0, positive) ∷ []
    → all_literals xs ≡ with_front old (all_literals (drop i xs))
    → all_literals xs ≡ with_front new (all_literals (drop (i + 1) xs))
literals_step xs i d serial positive old new within is pushed before =
    let rest = drop (i + 1) xs in
    let left : drop i xs ≡ item.Literal serial positive ∷ rest = drop_more xs i d within ∙ ap (λ x. x ∷ rest) is in
    before ∙ ap (λ ys. with_front old (all_literals ys)) left
    ∙ with_front_more old (serial.0, positive) (all_literals rest)
    ∙ ap (λ bs. with_front bs (all_literals rest)) (sym pushed)

no_literal : (x : Assumed) (xs : List Assumed)
    → ((serial : Serial) (positive : Bool) → x ≡ item.Literal serial positive → ⊥)
    → all_literals (x ∷ xs) ≡ None
no_literal (item.Literal serial positive) xs other = absurd (other serial positive refl)
no_literal (item.Unknown name) xs other = refl
no_literal item.WrongSort xs other = refl
no_literal item.NotALiteral xs other = refl

pub literals_stop : (xs : List Assumed) (i : ℕ) (d : Assumed) (front : List Assumption) → i < length xs
    → ((serial : Serial) (positive : Bool) → get_or xs i d ≡ item.Literal serial positive → ⊥)
    → all_literals xs ≡ with_front front (all_literals (drop i xs)) → None ≡ all_literals xs
literals_stop xs i d front within other before =
    sym (before ∙ ap (λ ys. with_front front (all_literals ys)) (drop_more xs i d within)
    ∙ ap (with_front front) (no_literal (get_or xs i d) (drop (i + 1) xs) other))

pub literals_all : (xs : List Assumed) (i : ℕ) (front : List Assumption) → length xs ≤ i
    → all_literals xs ≡ with_front front (all_literals (drop i xs)) → Some front ≡ all_literals xs
literals_all xs i front ended before =
    sym (before ∙ ap (λ ys. with_front front (all_literals ys)) (drop_all i xs ended) ∙ ap Some (append-nil front))

-- How they are printed.

pub said_by : (cs : List Constant) (a : Assumption) (name : Name) (positive : Bool) → name ≡ name_of cs a.0
    → positive ≡ a.1 → assumption_said (name, positive) ≡ assumption_said (named_by cs a)
said_by cs a name positive names truth = ap₂ (λ (n : Name) (b : Bool). assumption_said (n, b)) names truth

text_is : (s : State) (a : Assumption) → assumption_text s a ≡ assumption_said (named_by (constants_of s) a)
text_is s (serial, true) = refl
text_is s (serial, false) = refl

pub texts_are : (s : State) (xs : List Assumption)
    → map (assumption_text s) xs ≡ map assumption_said (map (named_by (constants_of s)) xs)
texts_are s [] = refl
texts_are s (a ∷ xs) = ap₂ (λ (t : List ℕ) (rest : List (List ℕ)). t ∷ rest) (text_is s a) (texts_are s xs)
