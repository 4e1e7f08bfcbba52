-- The name of the constant of a serial, where constants stand by rising serials.
use Rattle.std.proofs.Common.{◌≡◌, ℕ, zero, suc, ◌+◌, ◌<◌, ◌≤◌, Bool, true, false, ◌==◌, nat_le, if◌then◌else◌, List, [], ◌∷◌, map, length, get_or, refl, sym, ap, ◌∙◌, arith}
use Rattle.std.specs.List.Sorted.{IsNonDecreasingBy}
use Rattle.std.proofs.lemmas.Bool.{and_parts, and_from, leb-true, eqb-true}
use Rattle.sb_meaning.specs.Terms.{Term}
use Rattle.sb_script.specs.Names.{Name}
use Rattle.sb_script.specs.Scopes.{Constant, constants_in}
use Rattle.sb_script.specs.Replies.{name_of}
use Rattle.sb_sorts.specs.declared.scope.Named.{Named}
use Rattle.sb_sorts.specs.declared.scope.Named.TheVariants as code
use Rattle.sb_sorts.specs.Scopes.{naming_in, serials_in, ascend_below}
use Rattle.sb_stack.specs.declared.value.Constant as value
use Rattle.sb_stack.specs.Assumptions.{rise}
use Rattle.sb_stack.specs.Values.{constant_in}
use Rattle.sb_stack.proofs.Live.{rest_ascends}

abbrev serials_of : List value.Constant → List ℕ
serials_of cs = map (λ (c : value.Constant). c.serial.0) cs

first_rises : (from n : ℕ) (ns : List ℕ) → rise from (n ∷ ns) ≡ true → from ≤ n
first_rises from n ns h = leb-true from n (and_parts (nat_le from n) (rise (n + 1) ns) h).0

others_rise : (from n : ℕ) (ns : List ℕ) → rise from (n ∷ ns) ≡ true → rise (n + 1) ns ≡ true
others_rise from n ns h = (and_parts (nat_le from n) (rise (n + 1) ns) h).1

-- each is no lower than the first number
no_lower : (from : ℕ) (cs : List value.Constant) → rise from (serials_of cs) ≡ true → (j : ℕ) (d : value.Constant)
    → j < length cs → from ≤ (get_or cs j d).serial.0
no_lower from [] h j d l = absurd (omega (arith, l))
no_lower from (c ∷ cs) h zero d l = first_rises from c.serial.0 (serials_of cs) h
no_lower from (c ∷ cs) h (suc j) d l =
    let first : from ≤ c.serial.0 = first_rises from c.serial.0 (serials_of cs) h in
    let rest : c.serial.0 + 1 ≤ (get_or cs j d).serial.0 =
    no_lower (c.serial.0 + 1) cs (others_rise from c.serial.0 (serials_of cs) h) j d (omega (arith, l)) in
    omega (arith, first, rest)

pub rising : (from : ℕ) (cs : List value.Constant) → rise from (serials_of cs) ≡ true
    → IsNonDecreasingBy (λ (c : value.Constant). c.serial.0) cs
rising from [] h i j d le l = absurd (omega (arith, l))
rising from (c ∷ cs) h zero zero d le l = omega arith
rising from (c ∷ cs) h zero (suc j) d le l =
    let rest : c.serial.0 + 1 ≤ (get_or cs j d).serial.0 =
    no_lower (c.serial.0 + 1) cs (others_rise from c.serial.0 (serials_of cs) h) j d (omega (arith, l)) in
    omega (arith, rest)
rising from (c ∷ cs) h (suc i) zero d le l = absurd (omega (arith, le))
rising from (c ∷ cs) h (suc i) (suc j) d le l =
    rising (c.serial.0 + 1) cs (others_rise from c.serial.0 (serials_of cs) h) i j d (omega (arith, le))
    (omega (arith, l))

-- a serial below the first number is none of theirs
not_there : (from : ℕ) (cs : List value.Constant) (n : ℕ) → n < from → rise from (serials_of cs) ≡ true
    → name_of (map constant_in cs) n ≡ []
not_there from [] n low h = refl
not_there from (c ∷ cs) n low h =
    step (c.serial.0 == n) refl
    (not_there (c.serial.0 + 1) cs n (omega (arith, first, low)) (others_rise from c.serial.0 (serials_of cs) h))
  where
    first : from ≤ c.serial.0
    first = first_rises from c.serial.0 (serials_of cs) h

    step : (b : Bool) → (c.serial.0 == n) ≡ b → name_of (map constant_in cs) n ≡ []
        → (if b then c.name.now else name_of (map constant_in cs) n) ≡ []
    step true is rest = absurd (omega (arith, first, low, eqb-true c.serial.0 n is))
    step false is rest = rest

-- the name of a constant, where it is the one of the serial
abbrev named_where : value.Constant → ℕ → Name
named_where c n = if c.serial.0 == n then c.name.now else []

-- the constant at a place, where those before it have lower serials and it has none
at_place : (place from : ℕ) (cs : List value.Constant) (n : ℕ) (d : value.Constant)
    → rise from (serials_of cs) ≡ true → place < length cs
    → ((k : ℕ) (d : value.Constant) → k < place → (get_or cs k d).serial.0 < n)
    → n ≤ (get_or cs place d).serial.0 → named_where (get_or cs place d) n ≡ name_of (map constant_in cs) n
at_place place from [] n d h within low high = absurd (omega (arith, within))
at_place zero from (c ∷ cs) n d h within low high = step (c.serial.0 == n)
  where
    reached : n ≤ c.serial.0
    reached = high

    step : (b : Bool)
        → (if b then c.name.now else []) ≡ (if b then c.name.now else name_of (map constant_in cs) n)
    step true = refl
    step false =
        sym (not_there (c.serial.0 + 1) cs n (omega (arith, reached)) (others_rise from c.serial.0 (serials_of cs) h))
at_place (suc place) from (c ∷ cs) n d h within low high =
    step (c.serial.0 == n) refl
    (at_place place (c.serial.0 + 1) cs n d (others_rise from c.serial.0 (serials_of cs) h) (omega (arith, within))
    (λ k e l. low (suc k) e (omega (arith, l))) high)
  where
    before : c.serial.0 < n
    before = low zero c (omega arith)

    step : (b : Bool) → (c.serial.0 == n) ≡ b
        → named_where (get_or cs place d) n ≡ name_of (map constant_in cs) n
        → named_where (get_or cs place d) n ≡ (if b then c.name.now else name_of (map constant_in cs) n)
    step true is rest = absurd (omega (arith, before, eqb-true c.serial.0 n is))
    step false is rest = rest

pub found_at : (place from : ℕ) (cs : List value.Constant) (n : ℕ) (c : value.Constant)
    → rise from (serials_of cs) ≡ true → place < length cs → c ≡ get_or cs place c
    → ((k : ℕ) (d : value.Constant) → k < place → (get_or cs k d).serial.0 < n)
    → ((d : value.Constant) → n ≤ (get_or cs place d).serial.0)
    → (if c.serial.0 == n then c.name.now else []) ≡ name_of (map constant_in cs) n
found_at place from cs n c h within is low high =
    ap (λ (d : value.Constant). named_where d n) is ∙ at_place place from cs n c h within low (high c)

-- and where all have lower serials
pub none_at : (cs : List value.Constant) (n : ℕ)
    → ((k : ℕ) (d : value.Constant) → k < length cs → (get_or cs k d).serial.0 < n)
    → [] ≡ name_of (map constant_in cs) n
none_at [] n low = refl
none_at (c ∷ cs) n low =
    step (c.serial.0 == n) refl (none_at cs n (λ k d l. low (suc k) d (omega (arith, l))))
  where
    before : c.serial.0 < n
    before = low zero c (omega arith)

    step : (b : Bool) → (c.serial.0 == n) ≡ b → [] ≡ name_of (map constant_in cs) n
        → [] ≡ (if b then c.name.now else name_of (map constant_in cs) n)
    step true is rest = absurd (omega (arith, before, eqb-true c.serial.0 n is))
    step false is rest = rest

-- The constants of a scope stand by rising serials.

rises : (from bound : ℕ) (ns : List ℕ) → ascend_below from bound ns ≡ true → rise from ns ≡ true
rises from bound [] h = refl
rises from bound (n ∷ ns) h =
    and_from (nat_le from n) (rise (n + 1) ns) (and_parts (nat_le from n) _ h).0
    (rises (n + 1) bound ns (rest_ascends from bound n ns h))

serials_found : (cs : List value.Constant) → serials_of cs ≡ map (λ (c : Constant). c.serial) (map constant_in cs)
serials_found [] = refl
serials_found (c ∷ cs) = ap (λ ns. c.serial.0 ∷ ns) (serials_found cs)

serials_named : (ts : List Term) (ns : List (Name × Named))
    → map (λ (c : Constant). c.serial) (constants_in (map (naming_in ts) ns)) ≡ serials_in ns
serials_named ts [] = refl
serials_named ts ((name, code.Constant serial sort) ∷ ns) = ap (λ ms. serial.0 ∷ ms) (serials_named ts ns)
serials_named ts ((name, code.Definition d) ∷ ns) = serials_named ts ns
serials_named ts ((name, code.Marked) ∷ ns) = serials_named ts ns

pub constants_rise : (ts : List Term) (bound : ℕ) (ns : List (Name × Named)) (cs : List value.Constant)
    → map constant_in cs ≡ constants_in (map (naming_in ts) ns) → ascend_below 0 bound (serials_in ns) ≡ true
    → rise 0 (map (λ (c : value.Constant). c.serial.0) cs) ≡ true
constants_rise ts bound ns cs are h =
    ap (rise 0) (serials_found cs ∙ ap (map (λ (c : Constant). c.serial)) are ∙ serials_named ts ns)
    ∙ rises 0 bound (serials_in ns) h
