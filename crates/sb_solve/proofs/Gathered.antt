-- Atoms that are gathered with their parts.
use Rattle.sb_solve.proofs.Words.{◌≡◌, ℕ, zero, suc, ◌+◌, ◌<◌, ◌≤◌, Bool, true, false, ◌&&◌, nat_eq, nat_lt, if◌then◌else◌, List, [], ◌∷◌, ◌++◌, length, take, get_or, slice_get, Option, Some, None, option_map, refl, sym, ap, subst, ◌∙◌, arith, append_assoc, list_all, list_any, IsDistinct, and_parts, and_from, or_left, or_right, lt-ltb, ltb-true, append-nil, take_more, take-append-le, list_any-append, slice_get-map, equal_itself, insert_key, insert_all, Lit, Regex, AtomOver, bool_atom, in_atom, le_atom, sum_atom, and_atom, iff_atom, is_table, names_below, names_from, over, atoms_in, is_atom, are_atoms, is_in, atoms_of, parts_of, parts_at, is_simple_at, is_closed, AreLeast, AreWanted, all_push, all_weaker, list_all-map, slice_get_within, same_Some, slice_get-get_or, Follow, Closes}
use Rattle.std.specs.Prelude.{Result, OnOk}
use Rattle.std.proofs.lemmas.Result.{on_ok_weaker}
use Rattle.sb_rulebook.specs.Atoms.{literals_in}
use Rattle.sb_atoms.specs.Numbered.{Names}
use Rattle.sb_solve.specs.Wanted.{is_simple}

-- Numbers that are added where they are not there.

abbrev added : Bool → List ℕ → ℕ → List ℕ
added b ks x = if b then ks else ks ++ x ∷ []

pub all_with : (test : ℕ → Bool) (ks : List ℕ) (x : ℕ) → list_all test ks ≡ true → test x ≡ true
    → list_all test (insert_key nat_eq ks x) ≡ true
all_with test ks x h t = step (list_any (nat_eq x) ks)
  where
    step : (b : Bool) → list_all test (added b ks x) ≡ true
    step true = h
    step false = all_push test ks x h t

pub all_with_all : (test : ℕ → Bool) (ks xs : List ℕ) → list_all test ks ≡ true → list_all test xs ≡ true
    → list_all test (insert_all nat_eq ks xs) ≡ true
all_with_all test ks [] h t = h
all_with_all test ks (x ∷ xs) h t =
    let p = and_parts (test x) (list_all test xs) t in
    all_with_all test (insert_key nat_eq ks x) xs (all_with test ks x h p.0) p.1

-- the old ones stay in front
abbrev IsFront : List ℕ → List ℕ → Type 0
IsFront old new = (more : List ℕ) × (new ≡ old ++ more)

front_with : (ks : List ℕ) (x : ℕ) → IsFront ks (insert_key nat_eq ks x)
front_with ks x = step (list_any (nat_eq x) ks)
  where
    step : (b : Bool) → IsFront ks (added b ks x)
    step true = ([], sym (append-nil ks))
    step false = (x ∷ [], refl)

fronts : (a b c : List ℕ) → IsFront a b → IsFront b c → IsFront a c
fronts a b c p q = (p.0 ++ q.0, q.1 ∙ ap (λ xs. xs ++ q.0) p.1 ∙ append_assoc a p.0 q.0)

front_with_all : (ks xs : List ℕ) → IsFront ks (insert_all nat_eq ks xs)
front_with_all ks [] = ([], sym (append-nil ks))
front_with_all ks (x ∷ xs) =
    fronts ks (insert_key nat_eq ks x) (insert_all nat_eq (insert_key nat_eq ks x) xs) (front_with ks x)
    (front_with_all (insert_key nat_eq ks x) xs)

in_front : (old new : List ℕ) (n : ℕ) → IsFront old new → is_in old n ≡ true → is_in new n ≡ true
in_front old new n p h =
    ap (λ xs. is_in xs n) p.1 ∙ list_any-append (nat_eq n) old p.0 ∙ or_left (is_in old n) (is_in p.0 n) h

all_in_front_of : (old new xs : List ℕ) → IsFront old new → list_all (is_in old) xs ≡ true
    → list_all (is_in new) xs ≡ true
all_in_front_of old new xs p h = all_weaker (is_in old) (is_in new) (λ n there. in_front old new n p there) xs h

in_with : (ks : List ℕ) (x : ℕ) → is_in (insert_key nat_eq ks x) x ≡ true
in_with ks x = step (list_any (nat_eq x) ks) refl
  where
    step : (b : Bool) → list_any (nat_eq x) ks ≡ b → is_in (added b ks x) x ≡ true
    step true e = e
    step false e =
        list_any-append (nat_eq x) ks (x ∷ [])
        ∙ or_right (is_in ks x) (is_in (x ∷ []) x) (or_left (nat_eq x x) false (equal_itself x))

pub in_with_all : (ks xs : List ℕ) → list_all (is_in (insert_all nat_eq ks xs)) xs ≡ true
in_with_all ks [] = refl
in_with_all ks (x ∷ xs) =
    let now = insert_key nat_eq ks x in
    let new = insert_all nat_eq now xs in
    and_from (is_in new x) (list_all (is_in new) xs) (in_front now new x (front_with_all now xs) (in_with ks x))
    (in_with_all now xs)

-- Until there are no more.

-- the parts of those before the place are there
pub record Closing (atoms : List (AtomOver ℕ)) (old : List ℕ) (place : ℕ) (new : List ℕ) : Type 0 where
  pub more : List ℕ
  pub is : new ≡ old ++ more
  pub closed : list_all (is_closed atoms new) (take place new) ≡ true
  pub follow : Follow atoms old new

still_closed : (atoms : List (AtomOver ℕ)) (old new xs : List ℕ) → IsFront old new
    → list_all (is_closed atoms old) xs ≡ true → list_all (is_closed atoms new) xs ≡ true
still_closed atoms old new xs p h =
    all_weaker (is_closed atoms old) (is_closed atoms new)
    (λ x closed.
    let r = and_parts (is_simple_at atoms x) (list_all (is_in old) (parts_at atoms x)) closed in
    and_from (is_simple_at atoms x) (list_all (is_in new) (parts_at atoms x)) r.0
    (all_in_front_of old new (parts_at atoms x) p r.1)) xs h

pub all_at : {X : Type 0} (p : X → Bool) (xs : List X) (i : ℕ) (x : X) → list_all p xs ≡ true
    → slice_get xs i ≡ Some x → p x ≡ true
all_at p [] i x h there = absurd (omega (arith, slice_get_within [] i x there))
all_at p (y ∷ ys) zero x h there = ap p (sym (same_Some y x there)) ∙ (and_parts (p y) (list_all p ys) h).0
all_at p (y ∷ ys) (suc i) x h there = all_at p ys i x (and_parts (p y) (list_all p ys) h).1 there

pub closing_step : (atoms : List (AtomOver ℕ)) (old keys new : List ℕ) (place x d : ℕ) → place < length keys
    → x ≡ get_or keys place d → new ≡ insert_all nat_eq keys (parts_at atoms x) → is_simple_at atoms x ≡ true
    → Closing atoms old place keys → Closing atoms old (place + 1) new
closing_step atoms old keys new place x d below is made simple h =
    subst (λ (ks : List ℕ). Closing atoms old (place + 1) ks) (sym made) (record {
      more = h.more ++ front.0;
      is = front.1 ∙ ap (λ xs. xs ++ front.0) h.is ∙ append_assoc old h.more front.0;
      closed = ap (list_all (is_closed atoms now)) taken
          ∙ all_push (is_closed atoms now) (take place keys) x
          (still_closed atoms keys now (take place keys) front h.closed)
          (and_from (is_simple_at atoms x) (list_all (is_in now) (parts_at atoms x)) simple
          (in_with_all keys (parts_at atoms x)));
      follow = λ test first step.
          let all = h.follow test first step in
          all_with_all test keys (parts_at atoms x) all
          (step x (ap test is
          ∙ all_at test keys place (get_or keys place d) all (slice_get-get_or keys place d below)));
    })
  where
    now : List ℕ
    now = insert_all nat_eq keys (parts_at atoms x)

    front : IsFront keys now
    front = front_with_all keys (parts_at atoms x)

    taken : take (place + 1) now ≡ take place keys ++ x ∷ []
    taken =
        ap (take (place + 1)) front.1
        ∙ take-append-le (place + 1) keys front.0 (omega (arith, below))
        ∙ take_more keys place d below
        ∙ ap (λ y. take place keys ++ y ∷ []) (sym is)

-- The whole.

pub are_wanted : (atoms : List (AtomOver ℕ)) (literals : List Lit) (start new : List ℕ)
    → start ≡ insert_all nat_eq [] (atoms_of literals) → Closes atoms start new → IsDistinct nat_eq new
    → AreWanted atoms literals new
are_wanted atoms literals start new made h once = record {
  first = all_in_front_of start new (atoms_of literals) (h.more, h.is)
      (ap (λ ks. list_all (is_in ks) (atoms_of literals)) made ∙ in_with_all [] (atoms_of literals));
  closed = h.closed;
  least = λ test first step.
      h.follow test (ap (list_all test) made ∙ all_with_all test [] (atoms_of literals) refl first) step;
  once = once;
}

-- Atoms of a table.

parts_known : (n k : ℕ) (rs : List Regex) (a : AtomOver ℕ) → k ≤ n → names_below k (over rs a) ≡ true
    → list_all (λ i. nat_lt i n) (parts_of a) ≡ true
parts_known n k rs (bool_atom serial) le h = refl
parts_known n k rs (in_atom ps r) le h = refl
parts_known n k rs (le_atom x b) le h = refl
parts_known n k rs (sum_atom b ss) le h = refl
parts_known n k rs (and_atom ls) le h =
    list_all-map (λ i. nat_lt i n) (λ (l : Lit). l.atom) ls
    ∙ all_weaker (λ (l : Lit). nat_lt l.atom k) (λ (l : Lit). nat_lt l.atom n)
    (λ l less. lt-ltb l.atom n (omega (arith, le, ltb-true l.atom k less))) ls h
parts_known n k rs (iff_atom l m) le h =
    let p = and_parts (nat_lt l.atom k) (nat_lt m.atom k) h in
    and_from (nat_lt l.atom n) (nat_lt m.atom n && true)
    (lt-ltb l.atom n (omega (arith, le, ltb-true l.atom k p.0)))
    (and_from (nat_lt m.atom n) true (lt-ltb m.atom n (omega (arith, le, ltb-true m.atom k p.1))) refl)

-- the atoms that an atom of a table names are before it
pub names_before : (rs : List Regex) (atoms : List (AtomOver ℕ)) (i : ℕ) (a : AtomOver ℕ)
    → is_table (atoms_in rs atoms) ≡ true → slice_get atoms i ≡ Some a → names_below i (over rs a) ≡ true
names_before rs atoms i a table there =
    subst (λ (n : ℕ). names_below n (over rs a) ≡ true) (omega arith)
    (names_from 0 (atoms_in rs atoms) i (over rs a) table
    (slice_get-map (over rs) atoms i ∙ ap (option_map (over rs)) there))

pub are_known_atoms : (rs : List Regex) (atoms : List (AtomOver ℕ)) (literals : List Lit) (new : List ℕ)
    → AreLeast atoms literals new → is_table (atoms_in rs atoms) ≡ true → are_atoms atoms literals ≡ true
    → list_all (is_atom atoms) new ≡ true
are_known_atoms rs atoms literals new least table h =
    least (is_atom atoms) (list_all-map (is_atom atoms) (λ (l : Lit). l.atom) literals ∙ h)
    (λ i known. parts_in i (slice_get atoms i) refl known)
  where
    parts_in : (i : ℕ) (o : Option (AtomOver ℕ)) → slice_get atoms i ≡ o → is_atom atoms i ≡ true
        → list_all (is_atom atoms) (elim o as (λ _. List ℕ) [ None ↦ [] | Some atom ↦ parts_of atom ]) ≡ true
    parts_in i None there known = refl
    parts_in i (Some a) there known =
        parts_known (length atoms) i rs a (omega (arith, ltb-true i (length atoms) known))
        (names_before rs atoms i a table there)

-- What is added for the atom of a number.

pub parts_there : {A E : Type 0} (r : Result A E) (atoms : List (AtomOver ℕ)) (i n : ℕ) (a : AtomOver ℕ)
    (old new : List ℕ) (ls : List Lit) → n ≡ i → Names atoms n a → ls ≡ literals_in a
    → OnOk r (new ≡ insert_all nat_eq old (atoms_of ls)) → OnOk r (new ≡ insert_all nat_eq old (parts_at atoms i))
parts_there r atoms i n a old new ls is named read added =
    on_ok_weaker r
    (λ e. e ∙ ap (insert_all nat_eq old) (ap atoms_of read
    ∙ sym (ap (λ o. elim o as (λ _. List ℕ) [ None ↦ [] | Some atom ↦ parts_of atom ])
    (subst (λ j. slice_get atoms j ≡ Some a) is named)))) added

pub simple_there : (atoms : List (AtomOver ℕ)) (i n : ℕ) (a : AtomOver ℕ) → n ≡ i → Names atoms n a
    → is_simple a ≡ true → is_simple_at atoms i ≡ true
simple_there atoms i n a is named simple =
    ap (λ o. elim o as (λ _. Bool) [ None ↦ true | Some atom ↦ is_simple atom ])
    (subst (λ j. slice_get atoms j ≡ Some a) is named)
    ∙ simple
