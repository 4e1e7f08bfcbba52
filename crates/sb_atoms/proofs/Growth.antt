-- Tables of atoms that grow, and arenas beside them.
use Rattle.std.proofs.Common.{◌≡◌, ℕ, zero, suc, ◌+◌, ◌≤◌, Bool, true, false, ◌⊎◌, inl, inr, Some, List, [], ◌∷◌, ◌++◌, length, slice_get, Option, refl, sym, ap, ap₂, ◌∙◌, arith, length-append, append_assoc}
use Rattle.std.proofs.lemmas.List.{append-nil}
use Rattle.std.proofs.lemmas.Option.{slice_get_within, same_Some}
use Rattle.sb_lang.specs.Regex.{Regex}
use Rattle.sb_meaning.specs.Terms.{Sort, Term}
use Rattle.sb_regex.specs.Numbered as regex
use Rattle.sb_regex.proofs.CallerLemmas.{extends_same, extends_more, long_kept}
use Rattle.sb_rulebook.specs.Atoms.{Atom, AtomOver, is_well_formed}
use Rattle.sb_rulebook.specs.AtomRules.{has_its_parts}
use Rattle.sb_rulebook.specs.Tables.{names_below}
use Rattle.sb_rulebook.proofs.CallerLemmas.{Stays}
use Rattle.sb_atoms.specs.Numbered.{Names, Extends, over, atoms_in, HasRegexBelow, HaveRegexesBelow, NameEarlier}
use Rattle.sb_atoms.specs.Translated.{has_declared, AreDefined}
use Rattle.sb_atoms.specs.Growing.{Grown, GrownByGates, GrownByOne, Moves}
use Rattle.sb_atoms.proofs.CallerLemmas.{regex_kept, atoms_kept, atoms_more}

nothing : {X : Type 0} (x : X) (n : ℕ) → slice_get {X = X} [] n ≡ Some x → ⊥
nothing x n h = omega (arith, slice_get_within [] n x h)

-- where an element of two lists stands
pub split : {X : Type 0} (xs ys : List X) (i : ℕ) (x : X) → slice_get (xs ++ ys) i ≡ Some x
    → (slice_get xs i ≡ Some x) ⊎ ((j : ℕ) × (i ≡ length xs + j) × (slice_get ys j ≡ Some x))
split [] ys i x h = inr (i, omega arith, h)
split (y ∷ xs) ys zero x h = inl h
split (y ∷ xs) ys (suc i) x h = elim (split xs ys i x h) [
  | inl k ↦ inl k
  | inr t ↦ inr (t.0, later i (length xs) t.0 t.1, t.2)
]
  where
    later : (n m j : ℕ) → n ≡ m + j → suc n ≡ suc m + j
    later n m j e = omega (arith, e)

-- The table of atoms.

pub grown_none : (adds : Bool) (regexes : ℕ) (given : List Sort → Bool) (old : List (AtomOver ℕ))
    → Grown adds regexes given old old
grown_none adds regexes given old = record {
  more = [];
  is = sym (append-nil old);
  still = λ e. refl;
  regex = λ i a h. absurd (nothing a i h);
  formed = λ i a h. absurd (nothing a i h);
  earlier = λ i a h. absurd (nothing a i h);
  parts = λ sorts g i a h before l. absurd (nothing a i h);
}

grown_same : (adds : Bool) (regexes : ℕ) (given : List Sort → Bool) (old new : List (AtomOver ℕ)) → new ≡ old
    → Grown adds regexes given old new
grown_same adds regexes given old new e = rw e (grown_none adds regexes given old)

one_only : (a b : AtomOver ℕ) (i : ℕ) → slice_get (a ∷ []) i ≡ Some b → (i ≡ 0) × (a ≡ b)
one_only a b zero h = (refl, same_Some a b h)
one_only a b (suc i) h = absurd (nothing b i h)

longer_by_one : (old : List (AtomOver ℕ)) (a : AtomOver ℕ) → old ++ a ∷ [] ≡ old → ⊥
longer_by_one old a e = omega (arith, ap length e, length-append old (a ∷ []))

pub grown_one : (adds : Bool) (regexes : ℕ) (given : List Sort → Bool) (old new : List (AtomOver ℕ)) (a : AtomOver ℕ)
    → GrownByOne adds old new a → HasRegexBelow regexes a → is_well_formed a ≡ true
    → ((rs : List Regex) → names_below (length old) (over rs a) ≡ true)
    → ((sorts : List Sort) → given sorts ≡ true → (before : List Atom) → length before ≡ length old
    → has_its_parts sorts before a ≡ true) → Grown adds regexes given old new
grown_one adds regexes given old new a g below formed earlier parts = step g.one
  where
    step : (new ≡ old) ⊎ (new ≡ old ++ a ∷ []) → Grown adds regexes given old new
    step (inl e) = grown_same adds regexes given old new e
    step (inr e) = record {
      more = a ∷ [];
      is = e;
      still = λ off. absurd (longer_by_one old a (sym e ∙ g.still off));
      regex = λ i b h. let p = one_only a b i h in rw (← p.1) below;
      formed = λ i b h. let p = one_only a b i h in rw (← p.1) formed;
      earlier = λ i b h rs.
          let p = one_only a b i h in
          let at : length old + i ≡ length old = omega (arith, p.0) in
          rw (← p.1) (ap (λ n. names_below n (over rs a)) at ∙ earlier rs);
      parts = λ sorts is i b h before l.
          let p = one_only a b i h in
          rw (← p.1) (parts sorts is before (omega (arith, l, p.0)));
    }

pub grown_given : (adds : Bool) (regexes : ℕ) (given wider : List Sort → Bool) (old new : List (AtomOver ℕ))
    → ((sorts : List Sort) → wider sorts ≡ true → given sorts ≡ true) → Grown adds regexes given old new
    → Grown adds regexes wider old new
grown_given adds regexes given wider old new f g = record {
  more = g.more;
  is = g.is;
  still = g.still;
  regex = g.regex;
  formed = g.formed;
  earlier = g.earlier;
  parts = λ sorts is. g.parts sorts (f sorts is);
}

pub grown_both : (adds : Bool) (n m : ℕ) (given : List Sort → Bool) (old mid new : List (AtomOver ℕ)) → n ≤ m
    → Grown adds n given old mid → Grown adds m given mid new → Grown adds m given old new
grown_both adds n m given old mid new le p q = record {
  more = p.more ++ q.more;
  is = q.is ∙ ap (λ xs. xs ++ q.more) p.is ∙ append_assoc old p.more q.more;
  still = λ off. ap₂ (λ xs ys. xs ++ ys) (p.still off) (q.still off);
  regex = λ i a h. elim (split p.more q.more i a h) [
    | inl k ↦ regex_kept n m a le (p.regex i a k)
    | inr t ↦ q.regex t.0 a t.2
  ];
  formed = λ i a h. elim (split p.more q.more i a h) [ inl k ↦ p.formed i a k | inr t ↦ q.formed t.0 a t.2 ];
  earlier = λ i a h rs. elim (split p.more q.more i a h) [
    | inl k ↦ p.earlier i a k rs
    | inr t ↦
        let at : length old + i ≡ length mid + t.0 =
        omega (arith, t.1, ap length p.is, length-append old p.more) in
        ap (λ n. names_below n (over rs a)) at ∙ q.earlier t.0 a t.2 rs
  ];
  parts = λ sorts is i a h before l. elim (split p.more q.more i a h) [
    | inl k ↦ p.parts sorts is i a k before l
    | inr t ↦ q.parts sorts is t.0 a t.2 before
        (omega (arith, l, t.1, ap length p.is, length-append old p.more))
  ];
}

pub gates_none : (adds : Bool) (old : List (AtomOver ℕ)) → GrownByGates adds old old
gates_none adds old = λ regexes given. grown_none adds regexes given old

pub gates_both : (adds : Bool) (old mid new : List (AtomOver ℕ)) → GrownByGates adds old mid
    → GrownByGates adds mid new → GrownByGates adds old new
gates_both adds old mid new p q = λ regexes given.
    grown_both adds regexes regexes given old mid new (omega arith) (p regexes given) (q regexes given)

pub grown_longer : {adds : Bool} {regexes : ℕ} {given : List Sort → Bool} (old new : List (AtomOver ℕ))
    → Grown adds regexes given old new → length old ≤ length new
grown_longer old new g = omega (arith, ap length g.is, length-append old g.more)

pub gates_longer : (adds : Bool) (old new : List (AtomOver ℕ)) → GrownByGates adds old new → length old ≤ length new
gates_longer adds old new g = grown_longer old new (g 0 (λ sorts. true))

pub grown_still : (regexes : ℕ) (given : List Sort → Bool) (old new : List (AtomOver ℕ))
    → Grown false regexes given old new → new ≡ old
grown_still regexes given old new g = g.is ∙ ap (λ xs. old ++ xs) (g.still refl) ∙ append-nil old

pub grown_extends : {adds : Bool} {regexes : ℕ} {given : List Sort → Bool} (old new : List (AtomOver ℕ))
    → Grown adds regexes given old new → Extends old new
grown_extends old new g = record { more = g.more; is = g.is }

pub grown_regexes : {adds : Bool} {given : List Sort → Bool} (n m : ℕ) (old new : List (AtomOver ℕ)) → n ≤ m
    → HaveRegexesBelow n old → Grown adds m given old new → HaveRegexesBelow m new
grown_regexes n m old new le below g = rw g.is (λ i a h. elim (split old g.more i a h) [
  | inl k ↦ regex_kept n m a le (below i a k)
  | inr t ↦ g.regex t.0 a t.2
])

pub grown_defined : {adds : Bool} (regexes : ℕ) (t : Term) (old new : List (AtomOver ℕ))
    → Grown adds regexes (λ sorts. has_declared sorts t) old new → AreDefined old new t
grown_defined regexes t old new g = rw g.is (λ i a from h. elim (split old g.more i a h) [
  | inl k ↦ absurd (early i a from k)
  | inr p ↦ (g.formed p.0 a p.2, λ sorts before is l. g.parts sorts is p.0 a p.2 before (l ∙ p.1))
])
  where
    early : (i : ℕ) (a : AtomOver ℕ) → length old ≤ i → Names old i a → ⊥
    early i a from k = omega (arith, from, slice_get_within old i a k)

pub grown_earlier : {adds : Bool} {regexes : ℕ} {given : List Sort → Bool} (old new : List (AtomOver ℕ))
    → Grown adds regexes given old new → NameEarlier (length old) new
grown_earlier old new g = rw g.is (λ i a from h rs. elim (split old g.more i a h) [
  | inl k ↦ absurd (early i a from k)
  | inr p ↦ ap (λ n. names_below n (over rs a)) p.1 ∙ g.earlier p.0 a p.2 rs
])
  where
    early : (i : ℕ) (a : AtomOver ℕ) → length old ≤ i → Names old i a → ⊥
    early i a from k = omega (arith, from, slice_get_within old i a k)

-- what is found over the atoms stays
pub carried : {A : Type 0} {make : List Atom → Option A} {adds : Bool} (x : A) (old new : List (AtomOver ℕ))
    → Stays make → GrownByGates adds old new → ((rs : List Regex) → Some x ≡ make (atoms_in rs old))
    → (rs : List Regex) → Some x ≡ make (atoms_in rs new)
carried {A} {make} x old new s g h rs =
    let m = g 0 (λ sorts. true) in
    sym (ap (λ atoms. make (atoms_in rs atoms)) m.is ∙ ap make (atoms_more rs old m.more)
    ∙ s.stay (atoms_in rs old) (atoms_in rs m.more) x (sym (h rs)))

-- The arena too.

pub moves_none : (adds : Bool) (given : List Sort → Bool) (rs : List Regex) (old : List (AtomOver ℕ))
    → Moves adds given rs rs old old
moves_none adds given rs old = record { arena = extends_same rs; atoms = grown_none adds (length rs) given old }

pub moves_arena : (adds : Bool) (given : List Sort → Bool) (rs more : List Regex) (old : List (AtomOver ℕ))
    → regex.Extends rs more → Moves adds given rs more old old
moves_arena adds given rs more old e = record { arena = e; atoms = grown_none adds (length more) given old }

pub moves_gates : (adds : Bool) (given : List Sort → Bool) (rs : List Regex) (old new : List (AtomOver ℕ))
    → GrownByGates adds old new → Moves adds given rs rs old new
moves_gates adds given rs old new g = record { arena = extends_same rs; atoms = g (length rs) given }

pub moves_given : (adds : Bool) (given wider : List Sort → Bool) (rs more : List Regex) (old new : List (AtomOver ℕ))
    → ((sorts : List Sort) → wider sorts ≡ true → given sorts ≡ true) → Moves adds given rs more old new
    → Moves adds wider rs more old new
moves_given adds given wider rs more old new f m =
    record { arena = m.arena; atoms = grown_given adds (length more) given wider old new f m.atoms }

pub moves_both : (adds : Bool) (given : List Sort → Bool) (rs ss us : List Regex) (old mid new : List (AtomOver ℕ))
    → Moves adds given rs ss old mid → Moves adds given ss us mid new → Moves adds given rs us old new
moves_both adds given rs ss us old mid new p q = record {
  arena = extends_more rs ss us p.arena q.arena;
  atoms = grown_both adds (length ss) (length us) given old mid new (long_kept ss us q.arena) p.atoms q.atoms;
}

pub moves_table : {adds : Bool} {given : List Sort → Bool} (rs ss : List Regex) (old new : List (AtomOver ℕ))
    → HaveRegexesBelow (length rs) old → (m : Moves adds given rs ss old new)
    → atoms_in ss new ≡ atoms_in rs old ++ atoms_in ss m.atoms.more
moves_table rs ss old new below m =
    ap (atoms_in ss) m.atoms.is ∙ atoms_more ss old m.atoms.more
    ∙ ap (λ atoms. atoms ++ atoms_in ss m.atoms.more) (atoms_kept rs ss old m.arena below)

pub moved : {A : Type 0} {make : List Atom → Option A} {adds : Bool} {given : List Sort → Bool} (x : A)
    (rs ss : List Regex) (old new : List (AtomOver ℕ)) → Stays make → HaveRegexesBelow (length rs) old
    → Moves adds given rs ss old new → Some x ≡ make (atoms_in rs old) → Some x ≡ make (atoms_in ss new)
moved {A} {make} x rs ss old new s below m h =
    sym (ap make (moves_table rs ss old new below m)
    ∙ s.stay (atoms_in rs old) (atoms_in ss m.atoms.more) x (sym h))
