-- Values that fit the constants are of their sorts, and their words are of characters.
use Rattle.std.proofs.Common.{◌≡◌, ℕ, zero, suc, Bool, true, false, ◌&&◌, ◌==◌, if◌then◌else◌, List, [], ◌∷◌, slice_get, Option, Some, None, refl, subst, ◌∙◌}
use Rattle.std.specs.List.{list_all}
use Rattle.std.proofs.lemmas.Bool.{and_parts, and_from, eqb-true, false≢true}
use Rattle.sb_word.specs.Words.{IsWord}
use Rattle.sb_meaning.specs.Terms.{Sort, boolean, integer, text, reglan}
use Rattle.sb_meaning.specs.Values.{Value, Valuation, Text, Int, Truth, value_in, is_of}
use Rattle.sb_meaning.specs.Sorts.{is_same_sort}
use Rattle.sb_script.specs.Scopes.{Naming, Constant, a_constant, a_definition, a_marked_name, a_term, constants_in}
use Rattle.sb_script.specs.State.{fits}
use Rattle.sb_script.proofs.CallerLemmas.{same_sort}
use Rattle.sb_rulebook.specs.Atoms.{word_at}
use Rattle.sb_rulebook.specs.AtomRules.{is_declared}
use Rattle.sb_sound.specs.Tables.{HasWords}
use Rattle.sb_sound.specs.TermLaws.{HasSorts}
use Rattle.sb_sound.specs.ScriptLaws.{naming_fits, has_default}

all_at : {X : Type 0} → (p : X → Bool) (xs : List X) (k : ℕ) (x : X) → list_all p xs ≡ true
    → slice_get xs k ≡ Some x → p x ≡ true
all_at p [] k x all there = absurd (Prim.cc (there))
all_at p (y ∷ ys) zero x all there =
    let same : y ≡ x = Prim.cc (there) in
    subst (λ z. p z ≡ true) same (and_parts (p y) (list_all p ys) all).0
all_at p (y ∷ ys) (suc k) x all there = all_at p ys k x (and_parts (p y) (list_all p ys) all).1 there

pub declared_there : (sorts : List Sort) (sort : Sort) (serial : ℕ) → is_declared sorts sort serial ≡ true
    → slice_get sorts serial ≡ Some sort
declared_there sorts sort serial h = step (slice_get sorts serial) h
  where
    step : (o : Option Sort) → (elim o as (λ _. Bool) [ None ↦ false | Some other ↦ is_same_sort sort other ]) ≡ true
        → o ≡ Some sort
    step None h = absurd (false≢true h)
    step (Some other) h = let same : other ≡ sort = same_sort sort other h in cc

abbrev constant_fits : List Sort → Constant → Bool
constant_fits sorts c = is_declared sorts c.sort c.serial

pub constants_fit : (sorts : List Sort) (names : List Naming) → list_all (naming_fits sorts 0) names ≡ true
    → list_all (constant_fits sorts) (constants_in names) ≡ true
constants_fit sorts [] h = refl
constants_fit sorts ((name, a_constant serial sort) ∷ ns) h =
    let parts = and_parts (is_declared sorts sort serial) (list_all (naming_fits sorts 0) ns) h in
    and_from (is_declared sorts sort serial) (list_all (constant_fits sorts) (constants_in ns)) parts.0
    (constants_fit sorts ns parts.1)
constants_fit sorts ((name, a_definition kinds body) ∷ ns) h =
    constants_fit sorts ns
    (and_parts (naming_fits sorts 0 (name, a_definition kinds body)) (list_all (naming_fits sorts 0) ns) h).1
constants_fit sorts ((name, a_marked_name) ∷ ns) h = constants_fit sorts ns h
constants_fit sorts ((name, a_term t) ∷ ns) h =
    constants_fit sorts ns
    (and_parts (naming_fits sorts 0 (name, a_term t)) (list_all (naming_fits sorts 0) ns) h).1

-- the first constant and its value, and all others
record FitsFirst (c : Constant) (cs : List Constant) (p : ℕ × Value) (v : Valuation) : Type 0 where
  serial : c.serial ≡ p.0
  sort : is_of c.sort p.1 ≡ true
  others : fits cs v ≡ true

first_fits : (c : Constant) (cs : List Constant) (p : ℕ × Value) (v : Valuation) → fits (c ∷ cs) (p ∷ v) ≡ true
    → FitsFirst c cs p v
first_fits c cs p v h =
    let parts = and_parts ((c.serial == p.0) && is_of c.sort p.1) (fits cs v) h in
    let one = and_parts (c.serial == p.0) (is_of c.sort p.1) parts.0 in
    record { serial = eqb-true c.serial p.0 one.0; sort = one.1; others = parts.1 }

-- a value of a serial is of the sort with which it is declared, or the default
value_fits : (sorts : List Sort) (cs : List Constant) (v : Valuation) (serial : ℕ) (sort : Sort)
    → fits cs v ≡ true → list_all (constant_fits sorts) cs ≡ true → slice_get sorts serial ≡ Some sort
    → has_default sort ≡ true → is_of sort (value_in v serial sort) ≡ true
value_fits sorts [] [] serial sort fit all there default = default
value_fits sorts [] (p ∷ v) serial sort fit all there default = absurd (false≢true fit)
value_fits sorts (c ∷ cs) [] serial sort fit all there default = absurd (false≢true fit)
value_fits sorts (c ∷ cs) (p ∷ v) serial sort fit all there default =
    let declared = and_parts (constant_fits sorts c) (list_all (constant_fits sorts) cs) all in
    let own = declared_there sorts c.sort c.serial declared.0 in
    let first = first_fits c cs p v fit in
    step own first (p.0 == serial) refl
    (value_fits sorts cs v serial sort first.others declared.1 there default)
  where
    step : slice_get sorts c.serial ≡ Some c.sort → FitsFirst c cs p v → (b : Bool) → (p.0 == serial) ≡ b
        → is_of sort (value_in v serial sort) ≡ true
        → is_of sort (if b then p.1 else value_in v serial sort) ≡ true
    step own first true is rest =
        let serials : c.serial ≡ serial = first.serial ∙ eqb-true p.0 serial is in
        let one : c.sort ≡ sort = Prim.cc (serials, own, there) in
        subst (λ (k : Sort). is_of k p.1 ≡ true) one first.sort
    step own first false is rest = rest

pub has_sorts : (sorts : List Sort) (names : List Naming) (v : Valuation) → list_all has_default sorts ≡ true
    → list_all (naming_fits sorts 0) names ≡ true → fits (constants_in names) v ≡ true → HasSorts v sorts
has_sorts sorts names v valued named fit serial sort there =
    value_fits sorts (constants_in names) v serial sort fit (constants_fit sorts names named) there
    (all_at has_default sorts serial sort valued there)

abbrev word_of : Value → List ℕ
word_of x = elim x [ Text w ↦ w | Int n ↦ [] | Truth b ↦ [] ]

value_has_word : (sort : Sort) (x : Value) → is_of sort x ≡ true → IsWord (word_of x)
value_has_word text (Text w) h = h
value_has_word boolean (Text w) h = absurd (false≢true h)
value_has_word integer (Text w) h = absurd (false≢true h)
value_has_word reglan (Text w) h = absurd (false≢true h)
value_has_word sort (Int n) h = refl
value_has_word sort (Truth b) h = refl

word_fits : (cs : List Constant) (v : Valuation) → fits cs v ≡ true → (serial : ℕ) → IsWord (word_at v serial)
word_fits [] [] fit serial = refl
word_fits [] (p ∷ v) fit serial = absurd (false≢true fit)
word_fits (c ∷ cs) [] fit serial = absurd (false≢true fit)
word_fits (c ∷ cs) (p ∷ v) fit serial =
    let first = first_fits c cs p v fit in
    step (p.0 == serial) (value_has_word c.sort p.1 first.sort) (word_fits cs v first.others serial)
  where
    step : (b : Bool) → IsWord (word_of p.1) → IsWord (word_of (value_in v serial text))
        → IsWord (word_of (if b then p.1 else value_in v serial text))
    step true here rest = here
    step false here rest = rest

pub has_words : (cs : List Constant) (v : Valuation) → fits cs v ≡ true → HasWords v
has_words = word_fits
