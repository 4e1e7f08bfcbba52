-- Values of the kinds that the constants have.
use Rattle.std.proofs.Common.{◌≡◌, ℕ, ◌+◌, ◌<◌, Bool, true, false, ◌&&◌, ◌==◌, if◌then◌else◌, List, [], ◌∷◌, length, map, drop, get_or, refl, sym, ap, ap₂, ◌∙◌, arith, Some, None, option_map, Option}
use Rattle.std.specs.List.{list_all}
use Rattle.std.proofs.lemmas.Bool.{and_parts, eq-eqb, eqb-true, false≢true}
use Rattle.std.proofs.lemmas.List.{drop_more}
use Rattle.std.proofs.Math.Bool.{beq}
use Rattle.sb_meaning.specs.Terms.{Term, Terms, Sort, boolean, integer, text, reglan, constant, word, numeral, apply, parameter, no_terms, with_term}
use Rattle.sb_meaning.specs.Sorts.{is_same_sort}
use Rattle.sb_meaning.specs.Values.{Value, Valuation, Text, Int, Truth, value_in, is_of}
use Rattle.sb_script.specs.Scopes.{Constant}
use Rattle.sb_script.specs.State.{Assertion, asserted, a_mark, Assumption, terms_in, fits}
use Rattle.sb_atoms.specs.Given.{GivesValues, GivesEach}
use Rattle.sb_proof.specs.declared.line.Value as code
use Rattle.sb_proof.specs.Lines.{value_in as read}
use Rattle.sb_rulebook.specs.Atoms as rulebook
use Rattle.sb_rulebook.specs.Verdicts.{valued, is_same_truth, assumption_holds}
use Rattle.sb_stack.specs.declared.constant.LiveConstant.{LiveConstant}
use Rattle.sb_stack.specs.Speaking.{is_one_of, speaks_of, speak_of}
use Rattle.sb_stack.specs.Stacked.{value_at, values_at, live_in}
use Rattle.sb_models.specs.Knowing.{GiveAll, word_at, truth_at}
use Rattle.sb_models.specs.Tried.{is_kind, are_kinds, is_word, text_in, texts_in, truth_in, truths_in, one_given, word_given, given, is_assumed}

-- One value after the other.

abbrev pub AreKindsFrom : List LiveConstant → List code.Value → ℕ → Type 0
AreKindsFrom constants values place =
    are_kinds (map live_in constants) (map read values)
    ≡ are_kinds (map live_in (drop place constants)) (map read (drop place values))

kinds_at : (constants : List LiveConstant) (values : List code.Value) (place : ℕ) (d : LiveConstant) (x : code.Value)
    → place < length constants → place < length values → x ≡ get_or values place x
    → are_kinds (map live_in (drop place constants)) (map read (drop place values))
    ≡ (is_kind (live_in (get_or constants place d)).1 (read x)
    && are_kinds (map live_in (drop (place + 1) constants)) (map read (drop (place + 1) values)))
kinds_at constants values place d x low few there =
    ap₂ (λ cs xs. are_kinds (map live_in cs) (map read xs)) (drop_more constants place d low)
    (drop_more values place x few ∙ ap (λ y. y ∷ drop (place + 1) values) (sym there))

pub kinds_next : (constants : List LiveConstant) (values : List code.Value) (place : ℕ) (d : LiveConstant)
    (x : code.Value) → place < length constants → length values ≡ length constants
    → x ≡ get_or values place x → is_kind (live_in (get_or constants place d)).1 (read x) ≡ true → AreKindsFrom constants values place
    → AreKindsFrom constants values (place + 1)
kinds_next constants values place d x low long there here before =
    before ∙ kinds_at constants values place d x low (omega (arith, low, long)) there
    ∙ ap (λ b. b && are_kinds (map live_in (drop (place + 1) constants)) (map read (drop (place + 1) values))) here

pub kind_fails : (constants : List LiveConstant) (values : List code.Value) (place : ℕ) (d : LiveConstant)
    (x : code.Value) → place < length constants → length values ≡ length constants
    → x ≡ get_or values place x → is_kind (live_in (get_or constants place d)).1 (read x) ≡ false → AreKindsFrom constants values place
    → are_kinds (map live_in constants) (map read values) ≡ false
kind_fails constants values place d x low long there here before =
    before ∙ kinds_at constants values place d x low (omega (arith, low, long)) there
    ∙ ap (λ b. b && are_kinds (map live_in (drop (place + 1) constants)) (map read (drop (place + 1) values))) here

-- What is made of values for constants.

abbrev pub made : List Constant → (Valuation → Bool) → Option Valuation → Bool
made cs test None = false
made cs test (Some v) = fits cs v && test v

made_more : (c : Constant) (cs : List Constant) (x : Value) (test : Valuation → Bool) (o : Option Valuation)
    → is_of c.sort x ≡ true → made (c ∷ cs) test (option_map (λ v. (c.serial, x) ∷ v) o)
    ≡ made cs (λ v. test ((c.serial, x) ∷ v)) o
made_more c cs x test None h = refl
made_more c cs x test (Some v) h = let same : (c.serial == c.serial) ≡ true = eq-eqb c.serial c.serial refl in
    rw (same, h) refl

made_none : (c : Constant) (cs : List Constant) (x : Value) (test : Valuation → Bool) (o : Option Valuation)
    → is_of c.sort x ≡ false → made (c ∷ cs) test (option_map (λ v. (c.serial, x) ∷ v) o) ≡ false
made_none c cs x test None h = refl
made_none c cs x test (Some v) h = let same : (c.serial == c.serial) ≡ true = eq-eqb c.serial c.serial refl in
    rw (same, h) refl

-- a constant for which an empty value fits takes the values of its kind
kind_of_empty : (sort kind : Sort) (n : ℕ) (x : Value) → is_of sort (value_at [] [] n kind) ≡ true
    → is_of sort x ≡ (is_kind kind x && is_word x)
kind_of_empty boolean boolean n (Truth b) h = refl
kind_of_empty boolean boolean n (Int m) h = refl
kind_of_empty boolean boolean n (Text w) h = refl
kind_of_empty integer integer n (Truth b) h = refl
kind_of_empty integer integer n (Int m) h = refl
kind_of_empty integer integer n (Text w) h = refl
kind_of_empty text text n (Truth b) h = refl
kind_of_empty text text n (Int m) h = refl
kind_of_empty text text n (Text w) h = refl
kind_of_empty text reglan n (Truth b) h = refl
kind_of_empty text reglan n (Int m) h = refl
kind_of_empty text reglan n (Text w) h = refl
kind_of_empty boolean integer n x h = absurd (false≢true h)
kind_of_empty boolean text n x h = absurd (false≢true h)
kind_of_empty boolean reglan n x h = absurd (false≢true h)
kind_of_empty integer boolean n x h = absurd (false≢true h)
kind_of_empty integer text n x h = absurd (false≢true h)
kind_of_empty integer reglan n x h = absurd (false≢true h)
kind_of_empty text boolean n x h = absurd (false≢true h)
kind_of_empty text integer n x h = absurd (false≢true h)
kind_of_empty reglan boolean n x h = absurd (false≢true h)
kind_of_empty reglan integer n x h = absurd (false≢true h)
kind_of_empty reglan text n x h = absurd (false≢true h)
kind_of_empty reglan reglan n x h = absurd (false≢true h)

both_true : (k w : Bool) (ks ws t : Bool) → (k && w) ≡ true → (ks && (ws && t)) ≡ ((k && ks) && ((w && ws) && t))
both_true true true ks ws t h = refl
both_true true false ks ws t h = absurd (false≢true h)
both_true false w ks ws t h = absurd (false≢true h)

one_false : (k w : Bool) (ks ws t : Bool) → (k && w) ≡ false → false ≡ ((k && ks) && ((w && ws) && t))
one_false true true ks ws t h = absurd (false≢true (sym h))
one_false true false false ws t h = refl
one_false true false true ws t h = refl
one_false false w ks ws t h = refl

pub values_made : (cs : List Constant) (ds : List (ℕ × Sort)) (xs : List Value) (test : Valuation → Bool)
    → fits cs (values_at ds [] []) ≡ true
    → made cs test (valued cs xs) ≡ (are_kinds ds xs && (list_all is_word xs && test (given ds xs)))
values_made [] [] [] test h = refl
values_made [] [] (x ∷ xs) test h = refl
values_made [] (d ∷ ds) xs test h = absurd (false≢true h)
values_made (c ∷ cs) [] xs test h = absurd (false≢true h)
values_made (c ∷ cs) (d ∷ ds) [] test h = refl
values_made (c ∷ cs) (d ∷ ds) (x ∷ xs) test h =
    step (is_of c.sort x) refl (values_made cs ds xs (λ v. test ((c.serial, x) ∷ v)) parts.1)
  where
    parts : (((c.serial == d.0) && is_of c.sort (value_at [] [] d.0 d.1)) ≡ true)
        × (fits cs (values_at ds [] []) ≡ true)
    parts = and_parts ((c.serial == d.0) && is_of c.sort (value_at [] [] d.0 d.1)) (fits cs (values_at ds [] [])) h

    here : ((c.serial == d.0) ≡ true) × (is_of c.sort (value_at [] [] d.0 d.1) ≡ true)
    here = and_parts (c.serial == d.0) (is_of c.sort (value_at [] [] d.0 d.1)) parts.0

    kind : is_of c.sort x ≡ (is_kind d.1 x && is_word x)
    kind = kind_of_empty c.sort d.1 d.0 x here.1

    step : (b : Bool) → is_of c.sort x ≡ b
        → made cs (λ v. test ((c.serial, x) ∷ v)) (valued cs xs)
        ≡ (are_kinds ds xs && (list_all is_word xs && test ((c.serial, x) ∷ given ds xs)))
        → made (c ∷ cs) test (option_map (λ v. (c.serial, x) ∷ v) (valued cs xs))
        ≡ ((is_kind d.1 x && are_kinds ds xs)
        && ((is_word x && list_all is_word xs) && test ((d.0, x) ∷ given ds xs)))
    step true e rest =
        made_more c cs x test (valued cs xs) e ∙ rest
        ∙ ap (λ m. are_kinds ds xs && (list_all is_word xs && test ((m, x) ∷ given ds xs)))
        (eqb-true c.serial d.0 here.0)
        ∙ both_true (is_kind d.1 x) (is_word x) (are_kinds ds xs) (list_all is_word xs)
        (test ((d.0, x) ∷ given ds xs)) (sym kind ∙ e)
    step false e rest =
        made_none c cs x test (valued cs xs) e
        ∙ one_false (is_kind d.1 x) (is_word x) (are_kinds ds xs) (list_all is_word xs)
        (test ((d.0, x) ∷ given ds xs)) (sym kind ∙ e)

-- The words and truth values that they give.

text_kind : (sort : Sort) (x : Value) → is_same_sort sort text ≡ true → is_kind sort x ≡ true → x ≡ Text (text_in x)
text_kind text (Text w) h k = refl
text_kind text (Int n) h k = absurd (false≢true k)
text_kind text (Truth b) h k = absurd (false≢true k)
text_kind boolean x h k = absurd (false≢true h)
text_kind integer x h k = absurd (false≢true h)
text_kind reglan x h k = absurd (false≢true h)

truth_kind : (sort : Sort) (x : Value) → is_same_sort sort boolean ≡ true → is_kind sort x ≡ true
    → x ≡ Truth (truth_in x)
truth_kind boolean (Truth b) h k = refl
truth_kind boolean (Int n) h k = absurd (false≢true k)
truth_kind boolean (Text w) h k = absurd (false≢true k)
truth_kind text x h k = absurd (false≢true h)
truth_kind integer x h k = absurd (false≢true h)
truth_kind reglan x h k = absurd (false≢true h)

-- a constant of the sort has the value that is made of what it is given
constant_given : {X : Type 0} (sort : Sort) (f : code.Value → X) (make : X → Value) (other : X)
    → ((kind : Sort) (x : code.Value) → is_same_sort kind sort ≡ true → is_kind kind (read x) ≡ true
    → read x ≡ make (f x))
    → (constants : List LiveConstant) (xs : List code.Value) (n : ℕ)
    → are_kinds (map live_in constants) (map read xs) ≡ true → is_one_of (map live_in constants) n sort ≡ true
    → value_in (given (map live_in constants) (map read xs)) n sort ≡ make (one_given constants (map f xs) n other)
constant_given sort f make other kind [] xs n kinds one = absurd (false≢true one)
constant_given sort f make other kind (c ∷ constants) [] n kinds one = absurd (false≢true kinds)
constant_given sort f make other kind (c ∷ constants) (x ∷ xs) n kinds one =
    by (c.serial.0 == n) one (constant_given sort f make other kind constants xs n parts.1)
  where
    parts : (is_kind (live_in c).1 (read x) ≡ true) × (are_kinds (map live_in constants) (map read xs) ≡ true)
    parts = and_parts (is_kind (live_in c).1 (read x)) (are_kinds (map live_in constants) (map read xs)) kinds

    by : (b : Bool)
        → (if b then is_same_sort (live_in c).1 sort else is_one_of (map live_in constants) n sort) ≡ true
        → (is_one_of (map live_in constants) n sort ≡ true
        → value_in (given (map live_in constants) (map read xs)) n sort
        ≡ make (one_given constants (map f xs) n other))
        → (if b then read x else value_in (given (map live_in constants) (map read xs)) n sort)
        ≡ make (if b then f x else one_given constants (map f xs) n other)
    by true h again = kind (live_in c).1 x h parts.0
    by false h again = again h

mutual
  gives_term : (ds : List (ℕ × Sort)) (v : Valuation) (ws : List (List ℕ)) (bs : List Bool)
      → ((n : ℕ) → is_one_of ds n text ≡ true → value_in v n text ≡ Text (word_at ws n))
      → ((n : ℕ) → is_one_of ds n boolean ≡ true → value_in v n boolean ≡ Truth (truth_at bs n))
      → (t : Term) → speaks_of ds t ≡ true → GivesValues ws bs v t
  gives_term ds v ws bs texts truths (constant n text) h = texts n h
  gives_term ds v ws bs texts truths (constant n boolean) h = truths n h
  gives_term ds v ws bs texts truths (constant n integer) h = tt
  gives_term ds v ws bs texts truths (constant n reglan) h = tt
  gives_term ds v ws bs texts truths (word w) h = tt
  gives_term ds v ws bs texts truths (numeral n) h = tt
  gives_term ds v ws bs texts truths (parameter place sort) h = tt
  gives_term ds v ws bs texts truths (apply s terms) h = gives_terms ds v ws bs texts truths terms h

  gives_terms : (ds : List (ℕ × Sort)) (v : Valuation) (ws : List (List ℕ)) (bs : List Bool)
      → ((n : ℕ) → is_one_of ds n text ≡ true → value_in v n text ≡ Text (word_at ws n))
      → ((n : ℕ) → is_one_of ds n boolean ≡ true → value_in v n boolean ≡ Truth (truth_at bs n))
      → (ts : Terms) → speak_of ds ts ≡ true → GivesEach ws bs v ts
  gives_terms ds v ws bs texts truths no_terms h = tt
  gives_terms ds v ws bs texts truths (with_term t ts) h =
      let parts = and_parts (speaks_of ds t) (speak_of ds ts) h in
      (gives_term ds v ws bs texts truths t parts.0, gives_terms ds v ws bs texts truths ts parts.1)

gives_all : (ds : List (ℕ × Sort)) (v : Valuation) (ws : List (List ℕ)) (bs : List Bool)
    → ((n : ℕ) → is_one_of ds n text ≡ true → value_in v n text ≡ Text (word_at ws n))
    → ((n : ℕ) → is_one_of ds n boolean ≡ true → value_in v n boolean ≡ Truth (truth_at bs n))
    → (assertions : List Assertion) → list_all (speaks_of ds) (terms_in assertions) ≡ true
    → GiveAll ws bs v assertions
gives_all ds v ws bs texts truths [] h = tt
gives_all ds v ws bs texts truths (a_mark ∷ rest) h = gives_all ds v ws bs texts truths rest h
gives_all ds v ws bs texts truths (asserted t ∷ rest) h =
    let parts = and_parts (speaks_of ds t) (list_all (speaks_of ds) (terms_in rest)) h in
    (gives_term ds v ws bs texts truths t parts.0, gives_all ds v ws bs texts truths rest parts.1)

-- the values give all constants of assertions that speak of these the words and truth values that are read out of them
pub values_given : (constants : List LiveConstant) (values : List code.Value) (ws : List (List ℕ)) (bs : List Bool)
    (assertions : List Assertion) → are_kinds (map live_in constants) (map read values) ≡ true
    → list_all (speaks_of (map live_in constants)) (terms_in assertions) ≡ true
    → ((n : ℕ) → word_at ws n ≡ word_given constants (texts_in values) n [])
    → ((n : ℕ) → truth_at bs n ≡ one_given constants (truths_in values) n false)
    → GiveAll ws bs (given (map live_in constants) (map read values)) assertions
values_given constants values ws bs assertions kinds named words truths =
    gives_all (map live_in constants) (given (map live_in constants) (map read values)) ws bs
    (λ n one. constant_given text (λ x. text_in (read x)) Text [] (λ kind x. text_kind kind (read x)) constants values n
    kinds one ∙ ap Text (sym (words n)))
    (λ n one. constant_given boolean (λ x. truth_in (read x)) Truth false (λ kind x. truth_kind kind (read x)) constants
    values n kinds one ∙ ap Truth (sym (truths n))) assertions named

-- Assumptions.

-- as `==` finds out
pub beq_same : (a b : Bool) → beq a b ≡ is_same_truth a b
beq_same true true = refl
beq_same true false = refl
beq_same false true = refl
beq_same false false = refl

-- the truth that a value is
abbrev truth_of : Value → Bool
truth_of x = elim x [ Text w ↦ false | Int n ↦ false | Truth b ↦ b ]

truth_of-in : (x : Value) → truth_of x ≡ truth_in x
truth_of-in (Text w) = refl
truth_of-in (Int n) = refl
truth_of-in (Truth b) = refl

-- a serial has the truth value that its constant is given, whatever the sort
truth_given : (constants : List LiveConstant) (values : List code.Value) (n : ℕ)
    → rulebook.truth_at (given (map live_in constants) (map read values)) n
    ≡ one_given constants (truths_in values) n false
truth_given [] values n = refl
truth_given (c ∷ constants) [] n = refl
truth_given (c ∷ constants) (x ∷ values) n = by (c.serial.0 == n) (truth_given constants values n)
  where
    by : (b : Bool)
        → truth_of (value_in (given (map live_in constants) (map read values)) n boolean)
        ≡ one_given constants (truths_in values) n false
        → truth_of (if b then read x else value_in (given (map live_in constants) (map read values)) n boolean)
        ≡ (if b then truth_in (read x) else one_given constants (truths_in values) n false)
    by true h = truth_of-in (read x)
    by false h = h

-- assumptions are true under the values where they are under the truth values that are read out of them
pub assumed_given : (constants : List LiveConstant) (values : List code.Value) (bs : List Bool)
    (assumptions : List Assumption) → ((n : ℕ) → truth_at bs n ≡ one_given constants (truths_in values) n false)
    → list_all (is_assumed bs) assumptions
    ≡ list_all (assumption_holds (given (map live_in constants) (map read values))) assumptions
assumed_given constants values bs [] truths = refl
assumed_given constants values bs (a ∷ assumptions) truths =
    ap₂ (λ b c. b && c)
    (ap (λ b. is_same_truth b a.1) (truths a.0 ∙ sym (truth_given constants values a.0)))
    (assumed_given constants values bs assumptions truths)
