-- The wishes of the theory and how many of them have not come true, and what is left of wanted memberships.
use Rattle.std.proofs.Common.{◌≡◌, ◌⊎◌, ℕ, zero, suc, ◌+◌, ◌<◌, ◌≤◌, Bool, true, false, not, cond, ◌&&◌, ◌||◌, if◌then◌else◌, nat_eq, nat_lt, List, [], ◌∷◌, ◌++◌, map, length, get_or, slice_get, flat_map, count_by, Contains, Option, Some, None, option_map, refl, sym, ap, ap₂, subst, ◌∙◌, inl, inr, arith}
use Rattle.std.specs.List.{AllByRecursion, IsDistinct, list_all, list_any, position_from}
use Rattle.std.proofs.lemmas.Bool.{and_from, and_parts, eq-eqb, false_from_ne_true, false≢true, lt-ltb, ltb-false, ltb-true, or_left, or_right}
use Rattle.std.proofs.lemmas.Bool.Decides.{nat_tests}
use Rattle.std.proofs.lemmas.List.Elements.{Contains-append_cases, Contains-append_left, Contains-append_right}
use Rattle.std.proofs.lemmas.List.Folds.{list_any-append}
use Rattle.std.proofs.lemmas.List.Sums.{sum_by-cons}
use Rattle.std.proofs.lemmas.Map.Keys.{IsDistinct-head, IsDistinct-tail}
use Rattle.std.proofs.lemmas.Option.{same_Some, slice_get-map, slice_get_within}
use Rattle.sb_facts.proofs.CallerLemmas.{equal_itself, get_mapped}
use Rattle.sb_lang.specs.OrderLaws.{OrderTellsApart}
use Rattle.sb_trail.proofs.CallerLemmas.{cond_none}
use Rattle.sb_trail.specs.Assignments.{entry_of, value_of}
use Rattle.sb_rulebook.proofs.CallerLemmas.{atom_itself, same_atom}
use Rattle.sb_regex.proofs.CallerLemmas.{at_kept, long_kept}
use Rattle.sb_regex.specs.Numbered as regex
use Rattle.sb_graph.specs.Findings.{is_marked}
use Rattle.sb_atoms.proofs.CallerLemmas.{atoms_kept, atoms_more, over_one}
use Rattle.sb_atoms.specs.Numbered.{AreDistinct}
use Rattle.sb_trace.proofs.CallerLemmas.{number-there}
use Rattle.sb_trace.specs.Tracking.{IsExpandedIn, OnlyNumbers}
use Rattle.sb_search.specs.Asking.{decided}
use Rattle.sb_theory.specs.Memberships.{is_atom}
use Rattle.sb_theory.specs.Words.{Assigned, Atom, AtomOver, Extends, HaveRegexesBelow, Lit, Names, Piece, Regex, Traced, atoms_in, constant_piece, current_level, in_atom, mkpath, nd_along, over, regex_at, word_piece}
use Rattle.sb_theory.specs.Wishes.{IsLeft, IsWish, Wish, bases_of, behind_words, expanded_in, is_granted, is_same_as, is_there, is_valued, is_within, leads_to, left_or_led, marked_from, numbers_to, regexes_in, tails, tails_in, tails_of, ungranted, wish_atom, wishes, wishes_behind, wishes_from, wishes_of, wishes_to}
use Rattle.sb_theory.specs.WishLaws.{fewer, gives, granted_longer, one_if_not, ones}
use Rattle.sb_theory.specs.declared.strings.Strings.{Strings}

-- Members of lists.

first_there : {X : Type 0} (x : X) (xs : List X) → Contains (x ∷ xs) x
first_there x xs = (0, omega arith, refl)

later_there : {X : Type 0} (y : X) (xs : List X) (x : X) → Contains xs x → Contains (y ∷ xs) x
later_there y xs x h = let low = h.1 in (suc h.0, omega (arith, low), h.2)

nowhere : {X : Type 0} (x : X) → Contains [] x → ⊥
nowhere x h = let low = h.1 in omega (arith, low)

one_of : {X : Type 0} (y : X) (xs : List X) (x : X) → Contains (y ∷ xs) x → (y ≡ x) ⊎ Contains xs x
one_of y xs x h = at h.0 h.1 h.2
  where
    at : (k : ℕ) → k < length (y ∷ xs) → get_or (y ∷ xs) k x ≡ x → (y ≡ x) ⊎ Contains xs x
    at zero low is = inl is
    at (suc k) low is = inr (k, omega (arith, low), is)

map_at : {X Y : Type 0} (f : X → Y) (xs : List X) (x : X) (k : ℕ) → k < length xs → get_or xs k x ≡ x
    → Contains (map f xs) (f x)
map_at f [] x k low is = absurd (omega (arith, low))
map_at f (y ∷ xs) x zero low is =
    subst (λ z. Contains (f y ∷ map f xs) (f z)) is (first_there (f y) (map f xs))
map_at f (y ∷ xs) x (suc k) low is =
    later_there (f y) (map f xs) (f x) (map_at f xs x k (omega (arith, low)) is)

in_map : {X Y : Type 0} (f : X → Y) (xs : List X) (x : X) → Contains xs x → Contains (map f xs) (f x)
in_map f xs x h = map_at f xs x h.0 h.1 h.2

flat_at : {X Y : Type 0} (f : X → List Y) (xs : List X) (x : X) (y : Y) (k : ℕ) → k < length xs
    → get_or xs k x ≡ x → Contains (f x) y → Contains (flat_map f xs) y
flat_at f [] x y k low is h = absurd (omega (arith, low))
flat_at f (z ∷ xs) x y zero low is h =
    Contains-append_left (f z) (flat_map f xs) y (subst (λ u. Contains (f u) y) (sym is) h)
flat_at f (z ∷ xs) x y (suc k) low is h =
    Contains-append_right (f z) (flat_map f xs) y (flat_at f xs x y k (omega (arith, low)) is h)

in_flat : {X Y : Type 0} (f : X → List Y) (xs : List X) (x : X) (y : Y) → Contains xs x → Contains (f x) y
    → Contains (flat_map f xs) y
in_flat f xs x y h there = flat_at f xs x y h.0 h.1 h.2 there

-- what a member of such a list is of
record HasSource {X Y : Type 0} (f : X → List Y) (xs : List X) (y : Y) : Type 0 where
  source : X
  among : Contains xs source
  there : Contains (f source) y

source_of : {X Y : Type 0} (f : X → List Y) (xs : List X) (y : Y) → Contains (flat_map f xs) y → HasSource f xs y
source_of f [] y h = absurd (nowhere y h)
source_of f (x ∷ xs) y h = elim (Contains-append_cases (f x) (flat_map f xs) y h) [
  | inl here ↦ record { source = x; among = first_there x xs; there = here }
  | inr later ↦ let s = source_of f xs y later in record {
    source = s.source;
    among = later_there x xs s.source s.among;
    there = s.there;
  }
]

flat_same : {Y : Type 0} (f g : ℕ → List Y) (test : ℕ → Bool) → ((i : ℕ) → test i ≡ true → f i ≡ g i) → (is : List ℕ)
    → list_all test is ≡ true → flat_map f is ≡ flat_map g is
flat_same f g test same [] h = refl
flat_same f g test same (i ∷ is) h =
    let parts = and_parts (test i) (list_all test is) h in
    ap₂ (λ us vs. us ++ vs) (same i parts.0) (flat_same f g test same is parts.1)

get_more : {X : Type 0} (xs more : List X) (i : ℕ) → i < length xs → slice_get (xs ++ more) i ≡ slice_get xs i
get_more [] more i low = absurd (omega (arith, low))
get_more (x ∷ xs) more zero low = refl
get_more (x ∷ xs) more (suc i) low = get_more xs more i (omega (arith, low))

any_weaker : {X : Type 0} (p q : X → Bool) → ((x : X) → p x ≡ true → q x ≡ true) → (xs : List X)
    → list_any p xs ≡ true → list_any q xs ≡ true
any_weaker p q passes [] h = h
any_weaker p q passes (x ∷ xs) h = step (p x) refl h (any_weaker p q passes xs)
  where
    step : (b : Bool) → p x ≡ b → (b || list_any p xs) ≡ true → (list_any p xs ≡ true → list_any q xs ≡ true)
        → (q x || list_any q xs) ≡ true
    step true is h rest = or_left (q x) (list_any q xs) (passes x is)
    step false is h rest = or_right (q x) (list_any q xs) (rest h)

-- Counts of those that do not pass a test, where more pass another one.

one_fewer : {X : Type 0} (old new : X → Bool) → ((x : X) → old x ≡ true → new x ≡ true) → (xs : List X) (x : X) (k : ℕ)
    → k < length xs → get_or xs k x ≡ x → old x ≡ false → new x ≡ true
    → count_by (λ x. not (new x)) xs < count_by (λ x. not (old x)) xs
one_fewer old new stays [] x k low is was now = absurd (omega (arith, low))
one_fewer old new stays (y ∷ xs) x zero low is was now =
    let none : one_if_not new y ≡ 0 = ap (λ b. cond (not b) 1 0) (ap new is ∙ now) in
    let one : one_if_not old y ≡ 1 = ap (λ b. cond (not b) 1 0) (ap old is ∙ was) in
    omega (
      arith,
      none,
      one,
      fewer old new xs stays,
      sum_by-cons (one_if_not new) y xs,
      sum_by-cons (one_if_not old) y xs,
    )
one_fewer old new stays (y ∷ xs) x (suc k) low is was now =
    omega (
      arith,
      ones (old y) (new y) (stays y),
      one_fewer old new stays xs x k (omega (arith, low)) is was now,
      sum_by-cons (one_if_not new) y xs,
      sum_by-cons (one_if_not old) y xs,
    )

-- The wishes of some pieces and some regexes.

numbers_there : (n k : ℕ) → k ≤ n → Contains (numbers_to n) k
numbers_there zero k le =
    let none : 0 ≡ k = omega (arith, le) in subst (Contains (numbers_to 0)) none (first_there 0 [])
numbers_there (suc n) k le = step (nat_lt k (suc n)) refl (numbers_there n k)
  where
    step : (b : Bool) → nat_lt k (suc n) ≡ b → (k ≤ n → Contains (numbers_to n) k) → Contains (suc n ∷ numbers_to n) k
    step true is rest =
        later_there (suc n) (numbers_to n) k (rest (omega (arith, ltb-true k (suc n) is)))
    step false is rest =
        let last : suc n ≡ k = omega (arith, le, ltb-false k (suc n) is) in
        subst (Contains (suc n ∷ numbers_to n)) last (first_there (suc n) (numbers_to n))

-- where there is a regex to lead to, it is one of these
abbrev pub IsTo : List ℕ → Option ℕ → Type 0
IsTo numbers None = Unit {0}
IsTo numbers (Some q) = Contains numbers q

to_there : (numbers : List ℕ) (to : Option ℕ) → IsTo numbers to → Contains (None ∷ map Some numbers) to
to_there numbers None h = first_there None (map Some numbers)
to_there numbers (Some q) h = later_there None (map Some numbers) (Some q) (in_map Some numbers q h)

abbrev pub wish_of : List Piece → ℕ → ℕ → Option ℕ → Wish
wish_of ps from behind to = record { pieces = ps; from = from; behind = behind; to = to }

pub wish_among : (pss : List (List Piece)) (ps : List Piece) (numbers : List ℕ) (from behind : ℕ) (to : Option ℕ)
    → Contains pss ps → Contains numbers from → behind ≤ length ps → IsTo numbers to
    → Contains (wishes_of pss numbers) (wish_of ps from behind to)
wish_among pss ps numbers from behind to tail base few its =
    in_flat (λ qs. wishes_from qs numbers numbers) pss ps (wish_of ps from behind to) tail
    (in_flat (λ n. wishes_behind ps n (numbers_to (length ps)) numbers) numbers from (wish_of ps from behind to) base
    (in_flat (λ k. wishes_to ps from k (None ∷ map Some numbers)) (numbers_to (length ps)) behind
    (wish_of ps from behind to) (numbers_there (length ps) behind few)
    (in_map (wish_of ps from behind) (None ∷ map Some numbers) to (to_there numbers to its))))

-- Tables and arenas that grow.

table_grown : (old new : List Regex) (atoms grown : List (AtomOver ℕ)) → regex.Extends old new
    → (e : Extends atoms grown) → HaveRegexesBelow (length old) atoms
    → atoms_in new grown ≡ atoms_in old atoms ++ atoms_in new e.more
table_grown old new atoms grown r e below =
    ap (atoms_in new) e.is
    ∙ atoms_more new atoms e.more
    ∙ ap (λ (table : List Atom). table ++ atoms_in new e.more) (atoms_kept old new atoms r below)

pub named_grown : (old new : List Regex) (atoms grown : List (AtomOver ℕ)) → regex.Extends old new
    → Extends atoms grown → HaveRegexesBelow (length old) atoms → (i : ℕ) (a : Atom)
    → slice_get (atoms_in old atoms) i ≡ Some a → slice_get (atoms_in new grown) i ≡ Some a
named_grown old new atoms grown r e below i a h =
    ap (λ (table : List Atom). slice_get table i) (table_grown old new atoms grown r e below)
    ∙ get_more (atoms_in old atoms) (atoms_in new e.more) i (slice_get_within (atoms_in old atoms) i a h)
    ∙ h

pub named_in : (rs : List Regex) (atoms : List (AtomOver ℕ)) (i : ℕ) (a : AtomOver ℕ) → Names atoms i a
    → slice_get (atoms_in rs atoms) i ≡ Some (over rs a)
named_in rs atoms i a h = slice_get-map (over rs) atoms i ∙ ap (option_map (over rs)) h

-- each atom has one number over the regexes too
table_once : (rs : List Regex) (atoms : List (AtomOver ℕ)) → regex.AreDistinct rs → AreDistinct atoms
    → HaveRegexesBelow (length rs) atoms → (i j : ℕ) (a : Atom) → slice_get (atoms_in rs atoms) i ≡ Some a
    → slice_get (atoms_in rs atoms) j ≡ Some a → i ≡ j
table_once rs atoms once distinct below i j a h g =
    let p = get_mapped (over rs) atoms i a h in
    let q = get_mapped (over rs) atoms j a g in
    let same : q.0 ≡ p.0 = over_one rs q.0 p.0 once (below j q.0 q.1) (below i p.0 p.1) (q.2 ∙ sym p.2) in
    distinct i j p.0 p.1 (q.1 ∙ ap Some same)

-- The atom of a wish over a larger arena.

less_more : (i n m : ℕ) → n ≤ m → nat_lt i n ≡ true → nat_lt i m ≡ true
less_more i n m le h = let low = ltb-true i n h in lt-ltb i m (omega (arith, low, le))

within_grown : (old new : List Regex) (to : Option ℕ) → length old ≤ length new → is_within old to ≡ true
    → is_within new to ≡ true
within_grown old new None le h = refl
within_grown old new (Some q) le h = less_more q (length old) (length new) le h

there_grown : (old new : List Regex) (wish : Wish) → length old ≤ length new → is_there old wish ≡ true
    → is_there new wish ≡ true
there_grown old new wish le h =
    let parts = and_parts (nat_lt wish.from (length old)) (is_within old wish.to) h in
    and_from (nat_lt wish.from (length new)) (is_within new wish.to)
    (less_more wish.from (length old) (length new) le parts.0) (within_grown old new wish.to le parts.1)

-- what is left of pieces and of a regex, as a wish's atom
abbrev Left : Type 0
Left = List Piece × Regex

abbrev left_of : List Piece → Regex → Left
left_of ps r = (ps, r)

abbrev atom_of : List Regex → Option ℕ → Option Left → Option Atom
atom_of rs to o = elim o as (λ _. Option Atom) [ None ↦ None | Some left ↦ left_or_led rs to left ]

led_grown : (old new : List Regex) (to : Option ℕ) (left : Left) → regex.Extends old new → is_within old to ≡ true
    → left_or_led new to left ≡ left_or_led old to left
led_grown old new None left r h = refl
led_grown old new (Some q) left r h =
    ap (λ (to : Regex). leads_to to left.0 left.1) (at_kept old new q r (ltb-true q (length old) h))

atom_of_grown : (old new : List Regex) (to : Option ℕ) (o : Option Left) → regex.Extends old new
    → is_within old to ≡ true → atom_of new to o ≡ atom_of old to o
atom_of_grown old new to None r h = refl
atom_of_grown old new to (Some left) r h = led_grown old new to left r h

pub atom_grown : (old new : List Regex) (wish : Wish) → regex.Extends old new → is_there old wish ≡ true
    → wish_atom new wish ≡ wish_atom old wish
atom_grown old new wish r h =
    let parts = and_parts (nat_lt wish.from (length old)) (is_within old wish.to) h in
    ap (λ (from : Regex). atom_of new wish.to (behind_words wish.behind wish.pieces from))
    (at_kept old new wish.from r (ltb-true wish.from (length old) parts.0))
    ∙ atom_of_grown old new wish.to (behind_words wish.behind wish.pieces (regex_at old wish.from)) r parts.1

-- Wishes that have come true.

same_as_more : (table more : List Atom) (i : ℕ) (a : Option Atom) → is_same_as (slice_get table i) a ≡ true
    → is_same_as (slice_get (table ++ more) i) a ≡ true
same_as_more [] more i a h = absurd (false≢true h)
same_as_more (b ∷ table) more zero a h = h
same_as_more (b ∷ table) more (suc i) a h = same_as_more table more i a h

valued_more : (table more : List Atom) (entries : List Assigned) (a : Option Atom)
    → is_valued table entries a ≡ true → is_valued (table ++ more) entries a ≡ true
valued_more table more entries a h =
    any_weaker (gives table a) (gives (table ++ more) a)
    (λ e passes. same_as_more table more e.literal.atom a passes) entries h

granted_grown : (old new : List Regex) (atoms grown : List (AtomOver ℕ)) → regex.Extends old new
    → Extends atoms grown → HaveRegexesBelow (length old) atoms → (entries : List Assigned) (wish : Wish)
    → is_granted old (atoms_in old atoms) entries wish ≡ true → is_granted new (atoms_in new grown) entries wish ≡ true
granted_grown old new atoms grown r e below entries wish h =
    let parts = and_parts (is_there old wish) (is_valued (atoms_in old atoms) entries (wish_atom old wish)) h in
    and_from (is_there new wish) (is_valued (atoms_in new grown) entries (wish_atom new wish))
    (there_grown old new wish (long_kept old new r) parts.0)
    (ap (is_valued (atoms_in new grown) entries) (atom_grown old new wish r parts.0)
    ∙ ap (λ (table : List Atom). is_valued table entries (wish_atom old wish))
    (table_grown old new atoms grown r e below)
    ∙ valued_more (atoms_in old atoms) (atoms_in new e.more) entries (wish_atom old wish) parts.1)

-- so many of these wishes have not
abbrev ungranted_of : List Regex → List Atom → List Assigned → List Wish → ℕ
ungranted_of rs table entries ws = count_by (λ wish. not (is_granted rs table entries wish)) ws

-- A wish that has come true stays so where arena and table grow.

pub ungranted_grown : (x y : Strings) → wishes y ≡ wishes x → regex.Extends x.store.arena y.store.arena
    → Extends x.atoms y.atoms → HaveRegexesBelow (length x.store.arena) x.atoms → (entries : List Assigned)
    → ungranted y entries ≤ ungranted x entries
ungranted_grown x y same r e below entries =
    subst (λ (ws : List Wish).
    ungranted_of y.store.arena (atoms_in y.store.arena y.atoms) entries ws ≤ ungranted x entries) (sym same)
    (fewer (is_granted x.store.arena (atoms_in x.store.arena x.atoms) entries)
    (is_granted y.store.arena (atoms_in y.store.arena y.atoms) entries) (wishes x)
    (granted_grown x.store.arena y.store.arena x.atoms y.atoms r e below entries))

-- One that is decided comes true.

no_entry : {X Y : Type 0} (f : X → Y) (o : Option X) → option_map f o ≡ None → o ≡ None
no_entry f None h = refl
no_entry f (Some x) h = absurd (Prim.cc (h))

same_entry : OrderTellsApart → (o : Option Atom) (a : Atom) → is_same_as o (Some a) ≡ true → o ≡ Some a
same_entry apart None a h = absurd (false≢true h)
same_entry apart (Some b) a h = ap Some (same_atom apart b a h)

not_valued : (table : List Atom) (n : ℕ) (a : Atom) → OrderTellsApart
    → ((i : ℕ) → slice_get table i ≡ Some a → i ≡ n) → (entries : List Assigned) → entry_of entries n ≡ None
    → is_valued table entries (Some a) ≡ false
not_valued table n a apart only [] none = refl
not_valued table n a apart only (e ∷ entries) none =
    let parts = cond_none (nat_eq e.literal.atom n) e (entry_of entries n) none in
    ap₂ (λ b c. b || c)
    (false_from_ne_true (gives table (Some a) e) (λ h.
    false≢true
    (sym parts.0
    ∙ eq-eqb e.literal.atom n (only e.literal.atom (same_entry apart (slice_get table e.literal.atom) a h)))))
    (not_valued table n a apart only entries parts.1)

abbrev decision : List Assigned → Lit → Assigned
decision entries l = record { literal = l; level = current_level entries + 1; reason = None }

valued_last : (table : List Atom) (entries : List Assigned) (l : Lit) (a : Atom) → OrderTellsApart
    → slice_get table l.atom ≡ Some a → is_valued table (decided entries l) (Some a) ≡ true
valued_last table entries l a apart h =
    list_any-append (gives table (Some a)) entries (decision entries l ∷ [])
    ∙ or_right (is_valued table entries (Some a)) (is_valued table (decision entries l ∷ []) (Some a))
    (or_left (gives table (Some a) (decision entries l)) false
    (ap (λ (o : Option Atom). is_same_as o (Some a)) h ∙ atom_itself apart a))

granted_last : (rs : List Regex) (table : List Atom) (entries : List Assigned) (l : Lit) (wish : Wish) (a : Atom)
    → OrderTellsApart → is_there rs wish ≡ true → wish_atom rs wish ≡ Some a → slice_get table l.atom ≡ Some a
    → is_granted rs table (decided entries l) wish ≡ true
granted_last rs table entries l wish a apart there is names =
    and_from (is_there rs wish) (is_valued table (decided entries l) (wish_atom rs wish)) there
    (ap (is_valued table (decided entries l)) is ∙ valued_last table entries l a apart names)

not_granted : (rs : List Regex) (table : List Atom) (entries : List Assigned) (wish : Wish) (a : Atom)
    → is_there rs wish ≡ true → wish_atom rs wish ≡ Some a → is_valued table entries (Some a) ≡ false
    → is_granted rs table entries wish ≡ false
not_granted rs table entries wish a there is none =
    ap₂ (λ b c. b && c) there (ap (is_valued table entries) is ∙ none)

pub ungranted_asked : (y : Strings) (entries : List Assigned) (l : Lit) → OrderTellsApart
    → regex.AreDistinct y.store.arena → AreDistinct y.atoms → HaveRegexesBelow (length y.store.arena) y.atoms
    → IsWish y l.atom → value_of entries l.atom ≡ None → ungranted y (decided entries l) < ungranted y entries
ungranted_asked y entries l apart once distinct below h none =
    let rs = y.store.arena in
    let table = atoms_in y.store.arena y.atoms in
    one_fewer (is_granted rs table entries) (is_granted rs table (decided entries l))
    (granted_longer rs table entries (decision entries l ∷ [])) (wishes y) h.wish h.among.0 h.among.1 h.among.2
    (not_granted rs table entries h.wish h.atom h.there h.is
    (not_valued table l.atom h.atom apart
    (λ i at. table_once rs y.atoms once distinct below i l.atom h.atom at h.names) entries
    (no_entry (λ (e : Assigned). e.literal.positive) (entry_of entries l.atom) none)))
    (granted_last rs table entries l h.wish h.atom apart h.there h.is h.names)

-- Wanted memberships, where the table grows.

wanted_same : {Y : Type 0} (f : Option (AtomOver ℕ) → List Y) (atoms grown : List (AtomOver ℕ)) (wanted : List ℕ)
    → Extends atoms grown → list_all (is_atom atoms) wanted ≡ true
    → flat_map (λ i. f (slice_get grown i)) wanted ≡ flat_map (λ i. f (slice_get atoms i)) wanted
wanted_same f atoms grown wanted e known =
    flat_same (λ i. f (slice_get grown i)) (λ i. f (slice_get atoms i)) (is_atom atoms)
    (λ i low. ap f (ap (λ (as_now : List (AtomOver ℕ)). slice_get as_now i) e.is
    ∙ get_more atoms e.more i (ltb-true i (length atoms) low)))
    wanted known

pub wanted_all_same : {Y : Type 0} (f : Option (AtomOver ℕ) → List Y) (x y : Strings) → y.wanted ≡ x.wanted
    → Extends x.atoms y.atoms → list_all (is_atom x.atoms) x.wanted ≡ true
    → flat_map (λ i. f (slice_get y.atoms i)) y.wanted ≡ flat_map (λ i. f (slice_get x.atoms i)) x.wanted
wanted_all_same f x y wanted e known =
    ap (flat_map (λ i. f (slice_get y.atoms i))) wanted ∙ wanted_same f x.atoms y.atoms x.wanted e known

pub tails_same : (x y : Strings) → y.wanted ≡ x.wanted → Extends x.atoms y.atoms
    → list_all (is_atom x.atoms) x.wanted ≡ true → tails_of y ≡ tails_of x
tails_same x y wanted e known = wanted_all_same tails_in x y wanted e known

-- Regexes that are expanded in a proof.

marked_same : (f g : ℕ → Bool) → ((n : ℕ) → f n ≡ g n) → (n : ℕ) (rs : List ℕ) → marked_from f n rs ≡ marked_from g n rs
marked_same f g same n [] = refl
marked_same f g same n (r ∷ rs) =
    ap₂ (λ b ms. if b then r ∷ ms else ms) (same n) (marked_same f g same (n + 1) rs)

marked_none : (f : ℕ → Bool) (n : ℕ) (rs : List ℕ) → ((k : ℕ) → n ≤ k → f k ≡ false) → marked_from f n rs ≡ []
marked_none f n [] none = refl
marked_none f n (r ∷ rs) none =
    ap (λ b. if b then r ∷ marked_from f (n + 1) rs else marked_from f (n + 1) rs) (none n (omega arith))
    ∙ marked_none f (n + 1) rs (λ k le. none k (omega (arith, le)))

marked_more : (f : ℕ → Bool) (n : ℕ) (rs more : List ℕ) → ((k : ℕ) → n + length rs ≤ k → f k ≡ false)
    → marked_from f n (rs ++ more) ≡ marked_from f n rs
marked_more f n [] more none = marked_none f n more (λ k le. none k (omega (arith, le)))
marked_more f n (r ∷ rs) more none =
    ap (λ ms. if f n then r ∷ ms else ms) (marked_more f (n + 1) rs more (λ k le. none k (omega (arith, le))))

pub expanded_same : (t u : Traced) → OnlyNumbers t u
    → ((n : ℕ) → length t.order ≤ n → is_marked t.expanded n ≡ false) → expanded_in u ≡ expanded_in t
expanded_same t u o none =
    ap (marked_from (is_marked u.expanded) 0) o.stays.1
    ∙ marked_same (is_marked u.expanded) (is_marked t.expanded) o.expanded 0 (t.order ++ o.stays.0)
    ∙ marked_more (is_marked t.expanded) 0 t.order o.stays.0 (λ k le. none k (omega (arith, le)))

marked_there : (f : ℕ → Bool) (i : ℕ) (rs : List ℕ) (k n : ℕ) → slice_get rs k ≡ Some n → f (i + k) ≡ true
    → Contains (marked_from f i rs) n
marked_there f i [] k n h marked = absurd (omega (arith, slice_get_within [] k n h))
marked_there f i (r ∷ rs) zero n h marked =
    let at : i ≡ i + 0 = omega arith in
    subst (λ b. Contains (if b then r ∷ marked_from f (i + 1) rs else marked_from f (i + 1) rs) n)
    (sym (ap f at ∙ marked))
    (subst (Contains (r ∷ marked_from f (i + 1) rs)) (same_Some r n h) (first_there r (marked_from f (i + 1) rs)))
marked_there f i (r ∷ rs) (suc k) n h marked =
    let at : i + 1 + k ≡ i + suc k = omega arith in
    either (f i) (marked_there f (i + 1) rs k n h (ap f at ∙ marked))
  where
    either : (b : Bool) → Contains (marked_from f (i + 1) rs) n
        → Contains (if b then r ∷ marked_from f (i + 1) rs else marked_from f (i + 1) rs) n
    either true later = later_there r (marked_from f (i + 1) rs) n later
    either false later = later

pub expanded_among : (t : Traced) (n : ℕ) → IsExpandedIn t n → Contains (expanded_in t) n
expanded_among t n h =
    let at : 0 + h.0 ≡ h.0 = omega arith in
    marked_there (is_marked t.expanded) 0 t.order h.0 n (number-there t.order n h.0 h.1)
    (ap (is_marked t.expanded) at ∙ h.2)

-- where a regex with a mark stands
record IsMarkedAt (f : ℕ → Bool) (i : ℕ) (rs : List ℕ) (n : ℕ) : Type 0 where
  place : ℕ
  at : slice_get rs place ≡ Some n
  marked : f (i + place) ≡ true

marked_at : (f : ℕ → Bool) (i : ℕ) (rs : List ℕ) (n : ℕ) → Contains (marked_from f i rs) n → IsMarkedAt f i rs n
marked_at f i [] n h = absurd (nowhere n h)
marked_at f i (r ∷ rs) n h = step (f i) refl h (marked_at f (i + 1) rs n)
  where
    later : IsMarkedAt f (i + 1) rs n → IsMarkedAt f i (r ∷ rs) n
    later m =
        let at : i + suc m.place ≡ i + 1 + m.place = omega arith in
        record { place = suc m.place; at = m.at; marked = ap f at ∙ m.marked }

    first : f i ≡ true → r ≡ n → IsMarkedAt f i (r ∷ rs) n
    first is same =
        let at : i + 0 ≡ i = omega arith in record { place = 0; at = ap Some same; marked = ap f at ∙ is }

    step : (b : Bool) → f i ≡ b → Contains (if b then r ∷ marked_from f (i + 1) rs else marked_from f (i + 1) rs) n
        → (Contains (marked_from f (i + 1) rs) n → IsMarkedAt f (i + 1) rs n) → IsMarkedAt f i (r ∷ rs) n
    step true is h rest = elim (one_of r (marked_from f (i + 1) rs) n h) [
      | inl same ↦ first is same
      | inr more ↦ later (rest more)
    ]
    step false is h rest = later (rest h)

all_at : {X : Type 0} (P : X → Type 0) (xs : List X) (k : ℕ) (x : X) → AllByRecursion P xs → slice_get xs k ≡ Some x
    → P x
all_at P [] k x h at = absurd (omega (arith, slice_get_within [] k x at))
all_at P (y ∷ xs) zero x h at = subst P (same_Some y x at) h.0
all_at P (y ∷ xs) (suc k) x h at = all_at P xs k x h.1 at

other_turned : (m n : ℕ) → nat_eq m n ≡ false → nat_eq n m ≡ false
other_turned m n h = grind (arith, nat_tests, h)

pub position_there : (order : List ℕ) (i k n : ℕ) → IsDistinct nat_eq order → slice_get order k ≡ Some n
    → position_from (nat_eq n) i order ≡ Some (i + k)
position_there [] i k n once at = absurd (omega (arith, slice_get_within [] k n at))
position_there (r ∷ order) i zero n once at =
    ap (λ b. cond b (Some i) (position_from (nat_eq n) (i + 1) order))
    (ap (nat_eq n) (same_Some r n at) ∙ equal_itself n)
    ∙ ap Some (omega arith)
position_there (r ∷ order) i (suc k) n once at =
    ap (λ b. cond b (Some i) (position_from (nat_eq n) (i + 1) order))
    (other_turned r n (all_at (λ m. nat_eq r m ≡ false) order k n (IsDistinct-head nat_eq r order once) at))
    ∙ position_there order (i + 1) k n (IsDistinct-tail nat_eq r order once) at
    ∙ ap Some (omega arith)

pub among_expanded : (t : Traced) (n : ℕ) → IsDistinct nat_eq t.order → Contains (expanded_in t) n → IsExpandedIn t n
among_expanded t n once h =
    let m = marked_at (is_marked t.expanded) 0 t.order n h in
    let at : m.place ≡ 0 + m.place = omega arith in (
      m.place,
      position_there t.order 0 m.place n once m.at ∙ ap Some (sym at),
      ap (is_marked t.expanded) at ∙ m.marked,
    )

-- Where only regexes get numbers the wishes are the same; where more are expanded, none is lost.

pub wishes_same : (x y : Strings) → y.wanted ≡ x.wanted → y.expanded.keys ≡ x.expanded.keys → Extends x.atoms y.atoms
    → list_all (is_atom x.atoms) x.wanted ≡ true → OnlyNumbers x.trace y.trace
    → ((n : ℕ) → length x.trace.order ≤ n → is_marked x.trace.expanded n ≡ false) → wishes y ≡ wishes x
wishes_same x y wanted keys e known o none =
    ap₂ wishes_of (tails_same x y wanted e known)
    (ap₂ (λ us vs. us ++ vs) (ap₂ (λ us vs. us ++ vs) (wanted_all_same regexes_in x y wanted e known) keys)
    (expanded_same x.trace y.trace o none))

abbrev regexes_wanted : Strings → List ℕ
regexes_wanted z = flat_map (λ i. regexes_in (slice_get z.atoms i)) z.wanted

pub bases_grow : (x y : Strings) → y.wanted ≡ x.wanted → Extends x.atoms y.atoms
    → list_all (is_atom x.atoms) x.wanted ≡ true → ((n : ℕ) → Contains x.expanded.keys n → Contains y.expanded.keys n)
    → IsDistinct nat_eq x.trace.order → ((n : ℕ) → IsExpandedIn x.trace n → IsExpandedIn y.trace n) → (n : ℕ)
    → Contains (bases_of x) n → Contains (bases_of y) n
bases_grow x y wanted e known keys once expanded n h =
    elim (Contains-append_cases (regexes_wanted x ++ x.expanded.keys) (expanded_in x.trace) n h) [
      | inl more ↦ Contains-append_left (regexes_wanted y ++ y.expanded.keys) (expanded_in y.trace) n (front more)
      | inr there ↦
          Contains-append_right (regexes_wanted y ++ y.expanded.keys) (expanded_in y.trace) n
          (expanded_among y.trace n (expanded n (among_expanded x.trace n once there)))
    ]
  where
    front : Contains (regexes_wanted x ++ x.expanded.keys) n → Contains (regexes_wanted y ++ y.expanded.keys) n
    front more = elim (Contains-append_cases (regexes_wanted x) x.expanded.keys n more) [
      | inl here ↦
          Contains-append_left (regexes_wanted y) y.expanded.keys n
          (subst (λ (ns : List ℕ). Contains ns n) (sym (wanted_all_same regexes_in x y wanted e known)) here)
      | inr there ↦ Contains-append_right (regexes_wanted y) y.expanded.keys n (keys n there)
    ]

-- What is left of wanted memberships.

pub left_grown : (x y : Strings) (a : ℕ) → tails_of y ≡ tails_of x
    → ((n : ℕ) → Contains (bases_of x) n → Contains (bases_of y) n) → regex.Extends x.store.arena y.store.arena
    → Extends x.atoms y.atoms → HaveRegexesBelow (length x.store.arena) x.atoms → IsLeft x a → IsLeft y a
left_grown x y a tails bases r e below h = record {
  pieces = h.pieces;
  from = h.from;
  behind = h.behind;
  tail = subst (λ (pss : List (List Piece)). Contains pss h.pieces) (sym tails) h.tail;
  base = bases h.from h.base;
  below = let low = h.below in omega (arith, low, long_kept x.store.arena y.store.arena r);
  few = h.few;
  left = h.left;
  regex = h.regex;
  leads = ap (behind_words h.behind h.pieces) (at_kept x.store.arena y.store.arena h.from r h.below) ∙ h.leads;
  names = named_grown x.store.arena y.store.arena x.atoms y.atoms r e below a (in_atom h.left h.regex) h.names;
}

tails_themselves : (ps : List Piece) → Contains (tails ps) ps
tails_themselves [] = first_there [] []
tails_themselves (p ∷ ps) = first_there (p ∷ ps) (tails ps)

pub left_start : (x : Strings) (i : ℕ) (ps : List Piece) (r : ℕ) → Names x.atoms i (in_atom ps r)
    → Contains x.wanted i → HaveRegexesBelow (length x.store.arena) x.atoms → IsLeft x i
left_start x i ps r names wanted below = record {
  pieces = ps;
  from = r;
  behind = 0;
  tail = in_flat (λ j. tails_in (slice_get x.atoms j)) x.wanted i ps wanted
      (subst (λ (o : Option (AtomOver ℕ)). Contains (tails_in o) ps) (sym names) (tails_themselves ps));
  base = Contains-append_left (regexes_wanted x ++ x.expanded.keys) (expanded_in x.trace) r
      (Contains-append_left (regexes_wanted x) x.expanded.keys r
      (in_flat (λ j. regexes_in (slice_get x.atoms j)) x.wanted i r wanted
      (subst (λ (o : Option (AtomOver ℕ)). Contains (regexes_in o) r) (sym names) (first_there r []))));
  below = below i (in_atom ps r) names;
  few = omega arith;
  left = ps;
  regex = regex_at x.store.arena r;
  leads = refl;
  names = named_in x.store.arena x.atoms i (in_atom ps r) names;
}

pub left_wish : (x : Strings) (a : ℕ) → IsLeft x a → IsWish x a
left_wish x a h = record {
  wish = wish_of h.pieces h.from h.behind None;
  among = wish_among (tails_of x) h.pieces (bases_of x) h.from h.behind None h.tail h.base h.few tt;
  there = and_from (nat_lt h.from (length x.store.arena)) true (lt-ltb h.from (length x.store.arena) h.below) refl;
  atom = in_atom h.left h.regex;
  is = ap (atom_of x.store.arena None) h.leads;
  names = h.names;
}

-- Behind a first piece.

same_pieces : (ps qs : List Piece) (r q : Regex) → Some (left_of ps r) ≡ Some (left_of qs q) → ps ≡ qs
same_pieces ps qs r q h = ap (λ (left : Left). left.0) (same_Some (left_of ps r) (left_of qs q) h)

same_regexes : (ps qs : List Piece) (r q : Regex) → Some (left_of ps r) ≡ Some (left_of qs q) → r ≡ q
same_regexes ps qs r q h = ap (λ (left : Left). left.1) (same_Some (left_of ps r) (left_of qs q) h)

nothing_left : (left : Left) → None ≡ Some left → ⊥
nothing_left left h = Prim.cc (h)

behind_next : (k : ℕ) (pieces : List Piece) (r : Regex) (w : List ℕ) (ps : List Piece) (q : Regex)
    → behind_words k pieces r ≡ Some (left_of (word_piece w ∷ ps) q)
    → behind_words (suc k) pieces r ≡ Some (left_of ps (nd_along q w))
behind_next zero pieces r w ps q h =
    ap₂ (behind_words 1) (same_pieces pieces (word_piece w ∷ ps) r q h)
    (same_regexes pieces (word_piece w ∷ ps) r q h)
behind_next (suc k) [] r w ps q h = absurd (nothing_left (left_of (word_piece w ∷ ps) q) h)
behind_next (suc k) (constant_piece s ∷ pieces) r w ps q h =
    absurd (nothing_left (left_of (word_piece w ∷ ps) q) h)
behind_next (suc k) (word_piece v ∷ pieces) r w ps q h = behind_next k pieces (nd_along r v) w ps q h

left_long : (k : ℕ) (pieces : List Piece) (r : Regex) (ps : List Piece) (q : Regex)
    → behind_words k pieces r ≡ Some (left_of ps q) → k + length ps ≡ length pieces
left_long zero pieces r ps q h =
    let same : length ps ≡ length pieces = ap length (sym (same_pieces pieces ps r q h)) in omega (arith, same)
left_long (suc k) [] r ps q h = absurd (nothing_left (left_of ps q) h)
left_long (suc k) (constant_piece s ∷ pieces) r ps q h = absurd (nothing_left (left_of ps q) h)
left_long (suc k) (word_piece v ∷ pieces) r ps q h =
    let rest = left_long k pieces (nd_along r v) ps q h in omega (arith, rest)

left_leads : (x : Strings) (a : ℕ) (h : IsLeft x a) (ps : List Piece) → h.left ≡ ps
    → behind_words h.behind h.pieces (regex_at x.store.arena h.from) ≡ Some (left_of ps h.regex)
left_leads x a h ps is = h.leads ∙ ap (λ (left : List Piece). Some (left_of left h.regex)) is

pub left_word : (x : Strings) (a c : ℕ) (h : IsLeft x a) (w : List ℕ) (ps : List Piece) → h.left ≡ word_piece w ∷ ps
    → slice_get (atoms_in x.store.arena x.atoms) c ≡ Some (in_atom ps (nd_along h.regex w)) → IsLeft x c
left_word x a c h w ps is names =
    let leads = left_leads x a h (word_piece w ∷ ps) is in
    let long = left_long h.behind h.pieces (regex_at x.store.arena h.from) (word_piece w ∷ ps) h.regex leads in
    record {
      pieces = h.pieces;
      from = h.from;
      behind = suc h.behind;
      tail = h.tail;
      base = h.base;
      below = h.below;
      few = omega (arith, long);
      left = ps;
      regex = nd_along h.regex w;
      leads = behind_next h.behind h.pieces (regex_at x.store.arena h.from) w ps h.regex leads;
      names = names;
    }

-- Tails are closed.

no_pieces : (p : Piece) (ps : List Piece) → [] ≡ p ∷ ps → ⊥
no_pieces p ps h = Prim.cc (h)

same_rest : (q p : Piece) (qs ps : List Piece) → q ∷ qs ≡ p ∷ ps → qs ≡ ps
same_rest q p qs ps h = Prim.cc (h)

tails_behind : (qs : List Piece) (p : Piece) (ps : List Piece) → Contains (tails qs) (p ∷ ps) → Contains (tails qs) ps
tails_behind [] p ps h = elim (one_of [] [] (p ∷ ps) h) [
  | inl is ↦ absurd (no_pieces p ps is)
  | inr later ↦ absurd (nowhere (p ∷ ps) later)
]
tails_behind (q ∷ qs) p ps h = elim (one_of (q ∷ qs) (tails qs) (p ∷ ps) h) [
  | inl is ↦
      later_there (q ∷ qs) (tails qs) ps (subst (Contains (tails qs)) (same_rest q p qs ps is) (tails_themselves qs))
  | inr later ↦ later_there (q ∷ qs) (tails qs) ps (tails_behind qs p ps later)
]

tails_in_behind : (o : Option (AtomOver ℕ)) (p : Piece) (ps : List Piece) → Contains (tails_in o) (p ∷ ps)
    → Contains (tails_in o) ps
tails_in_behind (Some (in_atom qs r)) p ps h = tails_behind qs p ps h
tails_in_behind _ p ps h = absurd (nowhere (p ∷ ps) h)

tails_of_behind : (x : Strings) (p : Piece) (ps : List Piece) → Contains (tails_of x) (p ∷ ps)
    → Contains (tails_of x) ps
tails_of_behind x p ps h =
    let s = source_of (λ i. tails_in (slice_get x.atoms i)) x.wanted (p ∷ ps) h in
    in_flat (λ i. tails_in (slice_get x.atoms i)) x.wanted s.source ps s.among
    (tails_in_behind (slice_get x.atoms s.source) p ps s.there)

left_tail : (x : Strings) (k : ℕ) (pieces : List Piece) (r : Regex) (ps : List Piece) (q : Regex)
    → behind_words k pieces r ≡ Some (left_of ps q) → Contains (tails_of x) pieces → Contains (tails_of x) ps
left_tail x zero pieces r ps q h there = subst (Contains (tails_of x)) (same_pieces pieces ps r q h) there
left_tail x (suc k) [] r ps q h there = absurd (nothing_left (left_of ps q) h)
left_tail x (suc k) (constant_piece s ∷ pieces) r ps q h there = absurd (nothing_left (left_of ps q) h)
left_tail x (suc k) (word_piece v ∷ pieces) r ps q h there =
    left_tail x k pieces (nd_along r v) ps q h (tails_of_behind x (word_piece v) pieces there)

-- behind a constant that leads to a regex,
pub left_behind : (x : Strings) (a c q : ℕ) (h : IsLeft x a) (z : ℕ) (ps : List Piece)
    → h.left ≡ constant_piece z ∷ ps → Contains (bases_of x) q → q < length x.store.arena
    → slice_get (atoms_in x.store.arena x.atoms) c ≡ Some (in_atom ps (regex_at x.store.arena q)) → IsLeft x c
left_behind x a c q h z ps is base below names =
    let leads = left_leads x a h (constant_piece z ∷ ps) is in record {
      pieces = ps;
      from = q;
      behind = 0;
      tail = tails_of_behind x (constant_piece z) ps
          (left_tail x h.behind h.pieces (regex_at x.store.arena h.from) (constant_piece z ∷ ps) h.regex leads h.tail);
      base = base;
      below = below;
      few = omega arith;
      left = ps;
      regex = regex_at x.store.arena q;
      leads = refl;
      names = names;
    }

-- and that it does
pub left_constant : (x : Strings) (a b q : ℕ) (h : IsLeft x a) (z : ℕ) (ps : List Piece)
    → h.left ≡ constant_piece z ∷ ps → Contains (bases_of x) q → q < length x.store.arena
    → slice_get (atoms_in x.store.arena x.atoms) b
    ≡ Some (in_atom (constant_piece z ∷ []) (mkpath h.regex (regex_at x.store.arena q)))
    → IsWish x b
left_constant x a b q h z ps is base below names = record {
  wish = wish_of h.pieces h.from h.behind (Some q);
  among = wish_among (tails_of x) h.pieces (bases_of x) h.from h.behind (Some q) h.tail h.base h.few base;
  there = and_from (nat_lt h.from (length x.store.arena)) (nat_lt q (length x.store.arena))
      (lt-ltb h.from (length x.store.arena) h.below) (lt-ltb q (length x.store.arena) below);
  atom = in_atom (constant_piece z ∷ []) (mkpath h.regex (regex_at x.store.arena q));
  is = ap (atom_of x.store.arena (Some q)) (left_leads x a h (constant_piece z ∷ ps) is);
  names = names;
}
