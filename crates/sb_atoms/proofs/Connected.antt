-- What connectives make of literals, over a table of atoms that grows.
use Rattle.std.proofs.Common.{◌≡◌, ℕ, zero, suc, ◌+◌, ◌-◌, ◌<◌, ◌≤◌, ◌==◌, Bool, true, false, not, ◌&&◌, if◌then◌else◌, List, [], ◌∷◌, ◌++◌, length, map, take, drop, get_or, Option, Some, None, option_map, option_and_then, refl, sym, ap, ap₂, subst, ◌∙◌, arith, take-append-drop}
use Rattle.std.specs.declared.cmp.Ordering.{Ordering}
use Rattle.std.specs.declared.cmp.Ordering.TheVariants.{Less, Equal, Greater}
use Rattle.std.specs.Ordering.{is_gt}
use Rattle.std.proofs.lemmas.Bool.{and_parts, and_from, false≢true}
use Rattle.std.proofs.lemmas.Bool.Decides.{nat_tests}
use Rattle.std.proofs.lemmas.List.{drop_more, drop_all, take_more, map-append, take_all}
use Rattle.std.proofs.lemmas.Option.{slice_get_within, same_Some}
use Rattle.sb_facts.proofs.CallerLemmas.{some_then, some-none}
use Rattle.sb_lang.specs.Regex.{Regex}
use Rattle.sb_lit.specs.declared.clause.Lit.{Lit}
use Rattle.sb_lit.specs.Clauses.{negation, literal_order, are_ascending}
use Rattle.sb_rulebook.specs.Atoms.{Atom, AtomOver, and_atom, iff_atom, is_conjunction, is_well_formed}
use Rattle.sb_rulebook.specs.AtomRules.{are_known}
use Rattle.sb_rulebook.specs.Parts.{together}
use Rattle.sb_rulebook.specs.Translation.{positive, negated, in_order, conjunction_of, conjunction, implication, equivalence, implications, exclusive_from, exclusive, choice, only_one}
use Rattle.sb_rulebook.proofs.CallerLemmas.{Stays, AllStay, none_stay, one_stays, negated_stays, implication_stays, equivalence_stays, implications_stay, exclusive_from_stays}
use Rattle.sb_fragment.specs.declared.shape.Connective.TheVariants as connective
use Rattle.sb_atoms.specs.Numbered.{Names, over, atoms_in}
use Rattle.sb_fragment.specs.Compared.{compared}
use Rattle.sb_atoms.specs.Connecting.{signed, with_sign, equivalences, connected}
use Rattle.sb_atoms.specs.Growing.{is_below, are_below, are_pairs_below, GrownByGates, GrownByOne, Gives, GivesLike, IsLiteralOf}
use Rattle.sb_fragment.proofs.CallerLemmas.{compared_all}
use Rattle.sb_atoms.proofs.Growth.{grown_one, carried, gates_none, gates_longer, gates_both}
use Rattle.sb_atoms.proofs.Ordered.{below_in_order, order_ascends, not_greater}
use Rattle.sb_atoms.proofs.Translating.{apart_and, apart_iff}

-- Below a number.

pub below_more : (n m : ℕ) (l : Lit) → n ≤ m → is_below n l ≡ true → is_below m l ≡ true
below_more n m l le h = grind (arith, nat_tests)

pub all_below_more : (n m : ℕ) (ls : List Lit) → n ≤ m → are_below n ls ≡ true → are_below m ls ≡ true
all_below_more n m [] le h = refl
all_below_more n m (l ∷ ls) le h =
    let p = and_parts (is_below n l) (are_below n ls) h in
    and_from (is_below m l) (are_below m ls) (below_more n m l le p.0) (all_below_more n m ls le p.1)

pub below_push : (n : ℕ) (ls : List Lit) (l : Lit) → are_below n ls ≡ true → is_below n l ≡ true
    → are_below n (ls ++ l ∷ []) ≡ true
below_push n [] l h p = and_from (is_below n l) true p refl
below_push n (m ∷ ls) l h p =
    let q = and_parts (is_below n m) (are_below n ls) h in
    and_from (is_below n m) (are_below n (ls ++ l ∷ [])) q.0 (below_push n ls l q.1 p)

pub below_at : (n : ℕ) (ls : List Lit) (i : ℕ) (l : Lit) → are_below n ls ≡ true → i < length ls → l ≡ get_or ls i l
    → is_below n l ≡ true
below_at n [] i l h within e = absurd (omega (arith, within))
below_at n (m ∷ ls) zero l h within e =
    ap (is_below n) e ∙ (and_parts (is_below n m) (are_below n ls) h).0
below_at n (m ∷ ls) (suc i) l h within e =
    below_at n ls i l (and_parts (is_below n m) (are_below n ls) h).1 (omega (arith, within)) e

pub pair_below_at : (n : ℕ) (ps : List (Lit × Lit)) (i : ℕ) (p : Lit × Lit) → are_pairs_below n ps ≡ true
    → i < length ps → p ≡ get_or ps i p → (is_below n p.0 && is_below n p.1) ≡ true
pair_below_at n [] i p h within e = absurd (omega (arith, within))
pair_below_at n (q ∷ ps) zero p h within e =
    ap (λ r. is_below n r.0 && is_below n r.1) e
    ∙ (and_parts (is_below n q.0 && is_below n q.1) (are_pairs_below n ps) h).0
pair_below_at n (q ∷ ps) (suc i) p h within e =
    pair_below_at n ps i p (and_parts (is_below n q.0 && is_below n q.1) (are_pairs_below n ps) h).1
    (omega (arith, within)) e

pub pairs_below_more : (n m : ℕ) (ps : List (Lit × Lit)) → n ≤ m → are_pairs_below n ps ≡ true
    → are_pairs_below m ps ≡ true
pairs_below_more n m [] le h = refl
pairs_below_more n m (p ∷ ps) le h =
    let q = and_parts (is_below n p.0 && is_below n p.1) (are_pairs_below n ps) h in
    let r = and_parts (is_below n p.0) (is_below n p.1) q.0 in
    and_from (is_below m p.0 && is_below m p.1) (are_pairs_below m ps)
    (and_from (is_below m p.0) (is_below m p.1) (below_more n m p.0 le r.0) (below_more n m p.1 le r.1))
    (pairs_below_more n m ps le q.1)

pub compared_below : (n : ℕ) (distinct : Bool) (ls : List Lit) → are_below n ls ≡ true
    → are_pairs_below n (compared distinct ls) ≡ true
compared_below n distinct ls h = compared_all (is_below n) distinct ls h

-- One atom.

named_below : (new : List (AtomOver ℕ)) (l : Lit) (a : AtomOver ℕ) → Names new l.atom a
    → is_below (length new) l ≡ true
named_below new l a h = let within = slice_get_within new l.atom a h in grind (arith, nat_tests)

pub gives_atom : (adds : Bool) (new : List (AtomOver ℕ)) (a : AtomOver ℕ) (make : List Atom → Option Lit)
    (found : Option Lit) → IsLiteralOf adds new a found
    → ((rs : List Regex) → positive (atoms_in rs new) (over rs a) ≡ make (atoms_in rs new))
    → ((rs : List Regex) (i : ℕ) (b : AtomOver ℕ) → Names new i b → over rs b ≡ over rs a → b ≡ a)
    → Gives is_below adds new make found
gives_atom adds new a make found h same apart = record {
  is = λ rs. h.is rs (apart rs) ∙ same rs;
  sure = h.sure;
  below = λ l e. named_below new l a (h.names l e).0;
}

many : (atoms : List Atom) (ls : List Lit) → (length ls ≡ 1 → ⊥)
    → positive atoms (and_atom ls) ≡ conjunction_of atoms ls
many atoms [] h = refl
many atoms (l ∷ []) h = absurd (h refl)
many atoms (l ∷ m ∷ ls) h = refl

pub gives_conjunction : (adds : Bool) (new : List (AtomOver ℕ)) (ls ordered : List Lit) (found : Option Lit)
    → ordered ≡ in_order ls → (length ordered ≡ 1 → ⊥) → IsLiteralOf adds new (and_atom ordered) found
    → Gives is_below adds new (λ atoms. conjunction atoms ls) found
gives_conjunction adds new ls ordered found e other h =
    gives_atom adds new (and_atom ordered) (λ atoms. conjunction atoms ls) found h
    (λ rs. many (atoms_in rs new) ordered other ∙ ap (conjunction_of (atoms_in rs new)) e)
    (λ rs. apart_and rs new ordered)

one_of : (ls : List Lit) (l : Lit) → length ls ≡ 1 → l ≡ get_or ls 0 l → ls ≡ l ∷ []
one_of [] l h e = absurd (omega (arith, h))
one_of (m ∷ []) l h e = ap (λ k. k ∷ []) (sym e)
one_of (m ∷ k ∷ ls) l h e = absurd (omega (arith, h))

pub gives_one : (adds : Bool) (new : List (AtomOver ℕ)) (ls ordered : List Lit) (l : Lit)
    → are_below (length new) ls ≡ true → ordered ≡ in_order ls → length ordered ≡ 1 → l ≡ get_or ordered 0 l
    → Gives is_below adds new (λ atoms. conjunction atoms ls) (Some l)
gives_one adds new ls ordered l below e one first = record {
  is = λ rs. ap (conjunction_of (atoms_in rs new)) (sym (one_of ordered l one first) ∙ e);
  sure = λ on. some-none l;
  below = λ k same.
      ap (is_below (length new)) (sym (same_Some l k same))
      ∙ (and_parts (is_below (length new) l) true
      (ap (are_below (length new)) (sym (one_of ordered l one first) ∙ e) ∙ below_in_order (length new) ls below)).0;
}

pub gives_first : (adds : Bool) (new : List (AtomOver ℕ)) (ls slice : List Lit) (d : Lit)
    → are_below (length new) ls ≡ true → slice ≡ in_order ls → 1 ≤ length slice → length slice < 2
    → Gives is_below adds new (λ atoms. conjunction atoms ls) (Some (get_or slice 0 d))
gives_first adds new ls [] d below e one two = absurd (omega (arith, one))
gives_first adds new ls (l ∷ []) d below e one two = gives_one adds new ls (l ∷ []) l below e refl refl
gives_first adds new ls (l ∷ m ∷ slice) d below e one two = absurd (omega (arith, two))

known_below : (n : ℕ) (ls : List Lit) (before : List Atom) → length before ≡ n → are_below n ls ≡ true
    → are_known before ls ≡ true
known_below n ls before e h = ap (λ m. are_below m ls) e ∙ h

formed_many : (ls : List Lit) → (length ls ≡ 1 → ⊥) → are_ascending ls ≡ true → is_conjunction ls ≡ true
formed_many [] other h = refl
formed_many (l ∷ []) other h = absurd (other refl)
formed_many (l ∷ m ∷ ls) other h = h

pub grown_conjunction : (adds : Bool) (old new : List (AtomOver ℕ)) (ls ordered : List Lit) → ordered ≡ in_order ls
    → (length ordered ≡ 1 → ⊥) → are_below (length old) ls ≡ true → GrownByOne adds old new (and_atom ordered)
    → GrownByGates adds old new
grown_conjunction adds old new ls ordered e other below g = λ regexes given.
    grown_one adds regexes given old new (and_atom ordered) g tt
    (formed_many ordered other (ap are_ascending e ∙ order_ascends ls))
    (λ rs. ap (are_below (length old)) e ∙ below_in_order (length old) ls below)
    (λ sorts is before l. known_below (length old) ordered before l
    (ap (are_below (length old)) e ∙ below_in_order (length old) ls below))

-- Signs.

pub gives_negated : (adds : Bool) (new : List (AtomOver ℕ)) (make : List Atom → Option Lit) (found : Option Lit)
    → Gives is_below adds new make found → Gives is_below adds new (λ atoms. negated (make atoms)) (negated found)
gives_negated adds new make found h = record {
  is = λ rs. ap negated (h.is rs);
  sure = λ on none. h.sure on (was_none found none);
  below = λ l e. was_below found l e h.below;
}
  where
    was_none : (o : Option Lit) → negated o ≡ None → o ≡ None
    was_none None e = refl
    was_none (Some l) e = absurd (some-none (negation l) e)

    was_below : (o : Option Lit) (l : Lit) → negated o ≡ Some l
        → ((k : Lit) → o ≡ Some k → is_below (length new) k ≡ true) → is_below (length new) l ≡ true
    was_below None l e below = absurd (some-none l (sym e))
    was_below (Some k) l e below = ap (is_below (length new)) (sym (same_Some (negation k) l e)) ∙ below k refl

pub gives_same : {A : Type 0} {known : ℕ → A → Bool} (adds : Bool) (new : List (AtomOver ℕ))
    (make other : List Atom → Option A) (found same : Option A) → same ≡ found
    → ((atoms : List Atom) → make atoms ≡ other atoms)
    → Gives known adds new make found → Gives known adds new other same
gives_same adds new make other found same e f h = rw e (record {
  is = λ rs. h.is rs ∙ f (atoms_in rs new);
  sure = h.sure;
  below = h.below;
})

-- Equivalence.

abbrev pub in_two : Lit → Lit → AtomOver ℕ
in_two l m = if is_gt (literal_order l m) then iff_atom m l else iff_atom l m

pub gives_equivalence : (adds : Bool) (new : List (AtomOver ℕ)) (l m : Lit) (a : AtomOver ℕ) (found : Option Lit)
    → a ≡ in_two l m → IsLiteralOf adds new a found → Gives is_below adds new (λ atoms. equivalence atoms l m) found
gives_equivalence adds new l m a found e h = step (is_gt (literal_order l m)) refl
  where
    step : (b : Bool) → is_gt (literal_order l m) ≡ b
        → Gives is_below adds new (λ atoms. equivalence atoms l m) found
    step true is =
        let same : a ≡ iff_atom m l = e ∙ ap (λ (b : Bool). if b then iff_atom m l else iff_atom l m) is in
        gives_atom adds new a (λ atoms. equivalence atoms l m) found h
        (λ rs. ap (λ b. positive (atoms_in rs new) (over rs b)) same
        ∙ sym (ap (λ (b : Bool). positive (atoms_in rs new) (if b then iff_atom m l else iff_atom l m)) is))
        (λ rs. rw same (apart_iff rs new m l))
    step false is =
        let same : a ≡ iff_atom l m = e ∙ ap (λ (b : Bool). if b then iff_atom m l else iff_atom l m) is in
        gives_atom adds new a (λ atoms. equivalence atoms l m) found h
        (λ rs. ap (λ b. positive (atoms_in rs new) (over rs b)) same
        ∙ sym (ap (λ (b : Bool). positive (atoms_in rs new) (if b then iff_atom m l else iff_atom l m)) is))
        (λ rs. rw same (apart_iff rs new l m))

grown_iff : (adds : Bool) (old new : List (AtomOver ℕ)) (l m : Lit) → is_well_formed {R = ℕ} (iff_atom l m) ≡ true
    → is_below (length old) l ≡ true → is_below (length old) m ≡ true → GrownByOne adds old new (iff_atom l m)
    → GrownByGates adds old new
grown_iff adds old new l m formed p q g = λ regexes given.
    grown_one adds regexes given old new (iff_atom l m) g tt formed
    (λ rs. and_from (is_below (length old) l) (is_below (length old) m) p q)
    (λ sorts is before e. known_below (length old) (l ∷ m ∷ []) before e
    (and_from (is_below (length old) l) (is_below (length old) m && true) p
    (and_from (is_below (length old) m) true q refl)))

greater_is : (o : Ordering) → is_gt o ≡ true → o ≡ Greater
greater_is Less e = absurd (false≢true e)
greater_is Equal e = absurd (false≢true e)
greater_is Greater e = refl

pub grown_equivalence : (adds : Bool) (old new : List (AtomOver ℕ)) (l m : Lit) (a : AtomOver ℕ) → a ≡ in_two l m
    → is_below (length old) l ≡ true → is_below (length old) m ≡ true → GrownByOne adds old new a
    → GrownByGates adds old new
grown_equivalence adds old new l m a e p q g = step (is_gt (literal_order l m)) refl
  where
    step : (b : Bool) → is_gt (literal_order l m) ≡ b → GrownByGates adds old new
    step true is =
        let same : a ≡ iff_atom m l = e ∙ ap (λ (b : Bool). if b then iff_atom m l else iff_atom l m) is in
        grown_iff adds old new m l (not_greater l m (greater_is (literal_order l m) is)) q p (rw same at g)
    step false is =
        let same : a ≡ iff_atom l m = e ∙ ap (λ (b : Bool). if b then iff_atom m l else iff_atom l m) is in
        grown_iff adds old new l m (ap not is) p q (rw same at g)

-- As many literals.

pub gives_like : (adds : Bool) (new : List (AtomOver ℕ)) (make : List Atom → List Lit → Option Lit) (ls : List Lit)
    (found : Option Lit) → Gives is_below adds new (λ atoms. make atoms ls) found → GivesLike adds new make ls found
gives_like adds new make ls found h =
    record { is = h.is; none = λ on none. absurd (h.sure on none); below = h.below }

pub like_items : (adds : Bool) (new : List (AtomOver ℕ)) (make : List Atom → List Lit → Option Lit)
    (slice ls : List Lit) (found : Option Lit) → slice ≡ ls → GivesLike adds new make slice found
    → GivesLike adds new make ls found
like_items adds new make slice ls found e h = subst (λ ms. GivesLike adds new make ms found) e h

pub gives_nothing : (adds : Bool) (new : List (AtomOver ℕ)) (make : List Atom → List Lit → Option Lit) (ls : List Lit)
    → ((atoms : List Atom) (others : List Lit) → length others ≡ length ls → make atoms others ≡ None)
    → GivesLike adds new make ls None
gives_nothing adds new make ls none = record {
  is = λ rs. sym (none (atoms_in rs new) ls refl);
  none = λ on e. none;
  below = λ l e. absurd (some-none l (sym e));
}

-- there is none because an atom is missing
pub gives_missing : (adds : Bool) (new : List (AtomOver ℕ)) (make : List Atom → List Lit → Option Lit) (ls : List Lit)
    → (adds ≡ true → ⊥) → ((rs : List Regex) → make (atoms_in rs new) ls ≡ None) → GivesLike adds new make ls None
gives_missing adds new make ls off none = record {
  is = λ rs. sym (none rs);
  none = λ on e. absurd (off on);
  below = λ l e. absurd (some-none l (sym e));
}

-- Implications, from the last to the first.

none_then : {A B : Type 0} (f : A → Option B) (o : Option A) → o ≡ None → option_and_then f o ≡ None
none_then f o e = ap (option_and_then f) e

implications_before : (atoms : List Atom) (l : Lit) (ls : List Lit) → (length ls ≡ 0 → ⊥)
    → implications atoms (l ∷ ls) ≡ option_and_then (implication atoms l) (implications atoms ls)
implications_before atoms l [] h = absurd (h refl)
implications_before atoms l (m ∷ ls) h = refl

none_before : (atoms : List Atom) (ls : List Lit) (i : ℕ) → i < length ls → implications atoms (drop i ls) ≡ None
    → implications atoms ls ≡ None
none_before atoms [] i within h = absurd (omega (arith, within))
none_before atoms (l ∷ ls) zero within h = h
none_before atoms (l ∷ ls) (suc i) within h =
    implications_before atoms l ls (λ e. omega (arith, e, within))
    ∙ none_then (implication atoms l) (implications atoms ls) (none_before atoms ls i (omega (arith, within)) h)

long_drop : (ls : List Lit) (i : ℕ) → i < length ls → length (drop i ls) ≡ 0 → ⊥
long_drop ls i within e = omega (arith, e, within, ap length (drop_more ls i (record { atom = 0; positive = true }) within))

-- what is implied from a place on, once an implication is put before it
implied : (atoms : List Atom) (ls : List Lit) (i j : ℕ) (l last : Lit) → j ≡ i + 1 → j < length ls
    → l ≡ get_or ls i l → Some last ≡ implications atoms (drop j ls)
    → implications atoms (drop i ls) ≡ implication atoms l last
implied atoms ls i j l last e within is before =
    ap (implications atoms) (drop_more ls i l (omega (arith, e, within))
    ∙ ap₂ (λ x k. x ∷ drop k ls) (sym is) (sym e))
    ∙ implications_before atoms l (drop j ls) (long_drop ls j within)
    ∙ some_then (implication atoms l) last (implications atoms (drop j ls)) before

-- some literals of the whole list are put together from its end
pub record Implied (adds : Bool) (old new : List (AtomOver ℕ)) (ls : List Lit) (i : ℕ) (last : Lit) : Type 0 where
  pub within : i < length ls
  pub is : (rs : List Regex) → Some last ≡ implications (atoms_in rs new) (drop i ls)
  pub below : is_below (length new) last ≡ true
  pub grows : GrownByGates adds old new

pub implied_start : (adds : Bool) (old : List (AtomOver ℕ)) (ls : List Lit) (i : ℕ) (last : Lit) → i + 1 ≡ length ls
    → last ≡ get_or ls i last → are_below (length old) ls ≡ true → GrownByGates adds old old
    → Implied adds old old ls i last
implied_start adds old ls i last e is below g = record {
  within = omega (arith, e);
  is = λ rs. sym (ap (implications (atoms_in rs old)) (drop_more ls i last (omega (arith, e))
      ∙ ap₂ (λ x xs. x ∷ xs) (sym is) (drop_all_of (i + 1) ls (omega (arith, e)))));
  below = below_at (length old) ls i last below (omega (arith, e)) is;
  grows = g;
}
  where
    drop_all_of : (n : ℕ) (xs : List Lit) → length xs ≤ n → drop n xs ≡ []
    drop_all_of n xs le = drop_all n xs le

pub implied_step : (adds : Bool) (old mid new : List (AtomOver ℕ)) (ls : List Lit) (i j : ℕ) (last l next : Lit)
    (found : Option Lit) → Implied adds old mid ls j last → j ≡ i + 1 → l ≡ get_or ls i l → found ≡ Some next
    → Gives is_below adds new (λ atoms. implication atoms l last) found → GrownByGates adds mid new
    → Implied adds old new ls i next
implied_step adds old mid new ls i j last l next found h e is some g grows = record {
  within = omega (arith, e, h.within);
  is = λ rs.
      sym some ∙ g.is rs
      ∙ sym (implied (atoms_in rs new) ls i j l last e h.within is
      (carried last mid new (implications_stay (drop j ls)) grows h.is rs));
  below = g.below next some;
  grows = gates_both adds old mid new h.grows grows;
}

pub implied_missing : (adds : Bool) (old mid new : List (AtomOver ℕ)) (ls : List Lit) (i j : ℕ) (last l : Lit)
    (found : Option Lit) → Implied adds old mid ls j last → j ≡ i + 1 → l ≡ get_or ls i l → found ≡ None
    → Gives is_below adds new (λ atoms. implication atoms l last) found → GrownByGates adds mid new
    → GivesLike adds new implications ls None
implied_missing adds old mid new ls i j last l found h e is none g grows =
    gives_missing adds new implications ls (λ on. g.sure on none)
    (λ rs. none_before (atoms_in rs new) ls i (omega (arith, e, h.within))
    (implied (atoms_in rs new) ls i j l last e h.within is
    (carried last mid new (implications_stay (drop j ls)) grows h.is rs) ∙ sym (g.is rs) ∙ none))

pub implied_end : (adds : Bool) (old new : List (AtomOver ℕ)) (ls : List Lit) (i : ℕ) (last : Lit)
    → Implied adds old new ls i last → i ≡ 0 → GivesLike adds new implications ls (Some last)
implied_end adds old new ls i last h e = record {
  is = λ rs. h.is rs ∙ ap (λ n. implications (atoms_in rs new) (drop n ls)) e;
  none = λ on none. absurd (some-none last none);
  below = λ l same. ap (is_below (length new)) (sym (same_Some last l same)) ∙ h.below;
}

-- Exclusive or, from the first to the last.

exclusive_behind : (atoms : List Atom) (l : Lit) (xs ys : List Lit)
    → exclusive_from atoms l (xs ++ ys) ≡ option_and_then (λ k. exclusive_from atoms k ys) (exclusive_from atoms l xs)
exclusive_behind atoms l [] ys = refl
exclusive_behind atoms l (x ∷ xs) ys =
    step (negated (equivalence atoms l x)) (λ k. exclusive_behind atoms k xs ys)
  where
    step : (o : Option Lit)
        → ((k : Lit) → exclusive_from atoms k (xs ++ ys)
        ≡ option_and_then (λ j. exclusive_from atoms j ys) (exclusive_from atoms k xs))
        → option_and_then (λ k. exclusive_from atoms k (xs ++ ys)) o
        ≡ option_and_then (λ k. exclusive_from atoms k ys) (option_and_then (λ k. exclusive_from atoms k xs) o)
    step None rest = refl
    step (Some k) rest = rest k

pub record Excluded (adds : Bool) (old new : List (AtomOver ℕ)) (l : Lit) (xs : List Lit) (last : Lit) : Type 0 where
  pub is : (rs : List Regex) → Some last ≡ exclusive_from (atoms_in rs new) l xs
  pub below : is_below (length new) last ≡ true
  pub grows : GrownByGates adds old new

pub excluded_step : (adds : Bool) (old mid new : List (AtomOver ℕ)) (first last l next : Lit) (xs ys : List Lit)
    (found : Option Lit) → Excluded adds old mid first xs last → ys ≡ xs ++ l ∷ [] → found ≡ Some next
    → Gives is_below adds new (λ atoms. equivalence atoms last l) found → GrownByGates adds mid new
    → Excluded adds old new first ys (negation next)
excluded_step adds old mid new first last l next xs ys found h e some g grows = record {
  is = λ rs.
      ap negated (sym some ∙ g.is rs)
      ∙ sym (ap (exclusive_from (atoms_in rs new) first) e
      ∙ exclusive_behind (atoms_in rs new) first xs (l ∷ [])
      ∙ some_then (λ k. exclusive_from (atoms_in rs new) k (l ∷ [])) last _
      (carried last mid new (exclusive_from_stays first xs) grows h.is rs)
      ∙ last_one (negated (equivalence (atoms_in rs new) last l)));
  below = g.below next some;
  grows = gates_both adds old mid new h.grows grows;
}
  where
    last_one : (o : Option Lit) → option_and_then (λ k. Some k) o ≡ o
    last_one None = refl
    last_one (Some k) = refl

pub excluded_missing : (adds : Bool) (old mid new : List (AtomOver ℕ)) (first last l : Lit) (xs ys ls : List Lit)
    (found : Option Lit) → Excluded adds old mid first xs last → ls ≡ first ∷ xs ++ l ∷ ys → found ≡ None
    → Gives is_below adds new (λ atoms. equivalence atoms last l) found → GrownByGates adds mid new
    → GivesLike adds new exclusive ls None
excluded_missing adds old mid new first last l xs ys ls found h e none g grows =
    gives_missing adds new exclusive ls (λ on. g.sure on none)
    (λ rs. ap (exclusive (atoms_in rs new)) e
    ∙ exclusive_behind (atoms_in rs new) first xs (l ∷ ys)
    ∙ some_then (λ k. exclusive_from (atoms_in rs new) k (l ∷ ys)) last _
    (carried last mid new (exclusive_from_stays first xs) grows h.is rs)
    ∙ none_then (λ k. exclusive_from (atoms_in rs new) k ys) _ (ap negated (sym (g.is rs) ∙ none)))

pub excluded_end : (adds : Bool) (old new : List (AtomOver ℕ)) (first last : Lit) (xs ls : List Lit)
    → Excluded adds old new first xs last → ls ≡ first ∷ xs → GivesLike adds new exclusive ls (Some last)
excluded_end adds old new first last xs ls h e = record {
  is = λ rs. h.is rs ∙ sym (ap (exclusive (atoms_in rs new)) e);
  none = λ on none. absurd (some-none last none);
  below = λ l same. ap (is_below (length new)) (sym (same_Some last l same)) ∙ h.below;
}

pub cut_at : (xs : List Lit) (i : ℕ) (d : Lit) → i < length xs
    → xs ≡ take i xs ++ get_or xs i d ∷ drop (i + 1) xs
cut_at xs i d within =
    sym (take-append-drop i xs) ∙ ap (λ ys. take i xs ++ ys) (drop_more xs i d within)

-- A choice.

pub not_three : (atoms : List Atom) (ls : List Lit) → (length ls ≡ 3 → ⊥) → choice atoms ls ≡ None
not_three atoms [] h = refl
not_three atoms (c ∷ []) h = refl
not_three atoms (c ∷ l ∷ []) h = refl
not_three atoms (c ∷ l ∷ m ∷ []) h = absurd (h refl)
not_three atoms (c ∷ l ∷ m ∷ k ∷ ls) h = refl

pub three : (ls : List Lit) (c l m : Lit) → length ls ≡ 3 → c ≡ get_or ls 0 c → l ≡ get_or ls 1 l → m ≡ get_or ls 2 m
    → ls ≡ c ∷ l ∷ m ∷ []
three [] c l m h p q r = absurd (omega (arith, h))
three (x ∷ []) c l m h p q r = absurd (omega (arith, h))
three (x ∷ y ∷ []) c l m h p q r = absurd (omega (arith, h))
three (x ∷ y ∷ z ∷ []) c l m h p q r = sym (ap₂ (λ k ks. k ∷ ks) p (ap₂ (λ k ks. k ∷ ks) q (ap (λ k. k ∷ []) r)))
three (x ∷ y ∷ z ∷ u ∷ ls) c l m h p q r = absurd (omega (arith, h))

pub choice_first_missing : (adds : Bool) (new : List (AtomOver ℕ)) (c l m : Lit) (ls : List Lit) (found : Option Lit)
    → ls ≡ c ∷ l ∷ m ∷ [] → found ≡ None → Gives is_below adds new (λ atoms. implication atoms c l) found
    → GivesLike adds new choice ls None
choice_first_missing adds new c l m ls found e none g =
    gives_missing adds new choice ls (λ on. g.sure on none)
    (λ rs. ap (choice (atoms_in rs new)) e
    ∙ ap (λ o. option_and_then (conjunction (atoms_in rs new))
    (together (o ∷ implication (atoms_in rs new) (negation c) m ∷ []))) (sym (g.is rs) ∙ none))

pub choice_second_missing : (adds : Bool) (mid new : List (AtomOver ℕ)) (c l m here : Lit) (ls : List Lit)
    (first found : Option Lit) → ls ≡ c ∷ l ∷ m ∷ [] → first ≡ Some here
    → Gives is_below adds mid (λ atoms. implication atoms c l) first → found ≡ None
    → Gives is_below adds new (λ atoms. implication atoms (negation c) m) found → GrownByGates adds mid new
    → GivesLike adds new choice ls None
choice_second_missing adds mid new c l m here ls first found e some f none g grows =
    gives_missing adds new choice ls (λ on. g.sure on none)
    (λ rs. ap (choice (atoms_in rs new)) e
    ∙ ap₂ (λ o p. option_and_then (conjunction (atoms_in rs new)) (together (o ∷ p ∷ [])))
    (sym (carried here mid new (implication_stays c l) grows (λ ss. sym some ∙ f.is ss) rs)) (sym (g.is rs) ∙ none))

pub choice_both : (adds : Bool) (mid more new : List (AtomOver ℕ)) (c l m here otherwise : Lit) (ls both : List Lit)
    (first second found : Option Lit) → ls ≡ c ∷ l ∷ m ∷ [] → first ≡ Some here
    → Gives is_below adds mid (λ atoms. implication atoms c l) first → second ≡ Some otherwise
    → Gives is_below adds more (λ atoms. implication atoms (negation c) m) second → GrownByGates adds mid more
    → both ≡ here ∷ otherwise ∷ [] → Gives is_below adds new (λ atoms. conjunction atoms both) found
    → GrownByGates adds more new → GivesLike adds new choice ls found
choice_both adds mid more new c l m here otherwise ls both first second found e some f other g grows list h last = record {
  is = λ rs.
      h.is rs
      ∙ sym (ap (choice (atoms_in rs new)) e
      ∙ ap₂ (λ o p. option_and_then (conjunction (atoms_in rs new)) (together (o ∷ p ∷ [])))
      (sym (carried here mid new (implication_stays c l) (gates_both adds mid more new grows last)
      (λ ss. sym some ∙ f.is ss) rs))
      (sym (carried otherwise more new (implication_stays (negation c) m) last (λ ss. sym other ∙ g.is ss) rs))
      ∙ ap (conjunction (atoms_in rs new)) (sym list));
  none = λ on none. absurd (h.sure on none);
  below = h.below;
}

pub three_of : (ls : List Lit) (d : Lit) → 3 ≤ length ls → length ls < 4
    → ls ≡ get_or ls 0 d ∷ get_or ls 1 d ∷ get_or ls 2 d ∷ []
three_of [] d h k = absurd (omega (arith, h))
three_of (x ∷ []) d h k = absurd (omega (arith, h))
three_of (x ∷ y ∷ []) d h k = absurd (omega (arith, h))
three_of (x ∷ y ∷ z ∷ []) d h k = refl
three_of (x ∷ y ∷ z ∷ u ∷ ls) d h k = absurd (omega (arith, k))

-- One literal alone.

only_of : (ls others : List Lit) → length others ≡ length ls → negated (only_one ls) ≡ None
    → negated (only_one others) ≡ None
only_of ls [] e h = refl
only_of [] (m ∷ []) e h = absurd (omega (arith, e))
only_of (l ∷ []) (m ∷ []) e h = absurd (some-none (negation l) h)
only_of (l ∷ k ∷ ls) (m ∷ []) e h = absurd (omega (arith, e))
only_of ls (m ∷ n ∷ others) e h = refl

only_below : (n : ℕ) (ls : List Lit) (l : Lit) → are_below n ls ≡ true → negated (only_one ls) ≡ Some l
    → is_below n l ≡ true
only_below n [] l h e = absurd (some-none l (sym e))
only_below n (k ∷ []) l h e =
    ap (is_below n) (sym (same_Some (negation k) l e)) ∙ (and_parts (is_below n k) true h).0
only_below n (k ∷ m ∷ ls) l h e = absurd (some-none l (sym e))

pub gives_denied : (adds : Bool) (new : List (AtomOver ℕ)) (ls slice : List Lit) (found : Option Lit) → slice ≡ ls
    → found ≡ negated (only_one slice) → are_below (length new) ls ≡ true
    → GivesLike adds new (connected connective.Not) ls found
gives_denied adds new ls slice found same e below = record {
  is = λ rs. e ∙ ap (λ ms. negated (only_one ms)) same;
  none = λ on none atoms others long.
      only_of ls others long (sym (e ∙ ap (λ ms. negated (only_one ms)) same) ∙ none);
  below = λ l some. only_below (length new) ls l below (sym (e ∙ ap (λ ms. negated (only_one ms)) same) ∙ some);
}

pub pair_below : (n : ℕ) (l m k : Lit) (items : List Lit) → items ≡ l ∷ k ∷ [] → k ≡ negation m
    → is_below n l ≡ true → is_below n m ≡ true → are_below n items ≡ true
pair_below n l m k items e is p q =
    ap (are_below n) e
    ∙ and_from (is_below n l) (is_below n k && true) p (and_from (is_below n k) true (ap (is_below n) is ∙ q) refl)

pub two_below : (n : ℕ) (l k : Lit) (items : List Lit) → items ≡ l ∷ k ∷ [] → is_below n l ≡ true
    → is_below n k ≡ true → are_below n items ≡ true
two_below n l k items e p q =
    ap (are_below n) e
    ∙ and_from (is_below n l) (is_below n k && true) p (and_from (is_below n k) true q refl)

pub not_zero : (n : ℕ) → false ≡ (n == 0) → (n - 1) + 1 ≡ n
not_zero n h = grind (arith, nat_tests)

pub excluded_start : (adds : Bool) (old : List (AtomOver ℕ)) (ls : List Lit) (d : Lit) → 1 ≤ length ls
    → are_below (length old) ls ≡ true → GrownByGates adds old old
    → (first : Lit) × (ls ≡ first ∷ take (length ls - 1) (drop 1 ls)) × Excluded adds old old first [] (get_or ls 0 d)
excluded_start adds old [] d h below g = absurd (omega (arith, h))
excluded_start adds old (l ∷ ls) d h below g = (
  l,
  ap (λ xs. l ∷ xs) (sym (take_all (length (l ∷ ls) - 1) ls (omega arith))),
  record { is = λ rs. refl; below = (and_parts (is_below (length old) l) (are_below (length old) ls) below).0; grows = g },
)

-- All of a list.

pub all_stay : {X : Type 0} (f : List Atom → X → Option Lit) → ((x : X) → Stays (λ atoms. f atoms x)) → (xs : List X)
    → AllStay (λ atoms. map (f atoms) xs)
all_stay f s [] = none_stay
all_stay f s (x ∷ xs) = one_stays (s x) (all_stay f s xs)

together_push : (os : List (Option Lit)) (ls : List Lit) (l : Lit) → Some ls ≡ together os
    → Some (ls ++ l ∷ []) ≡ together (os ++ Some l ∷ [])
together_push [] ls l h = ap (λ ms. Some (ms ++ l ∷ [])) (same_Some ls [] h)
together_push (None ∷ os) ls l h = absurd (some-none ls h)
together_push (Some k ∷ os) ls l h = step (together os) h (λ ms e. together_push os ms l e) refl
  where
    step : (o : Option (List Lit)) → Some ls ≡ option_map (λ ms. k ∷ ms) o
        → ((ms : List Lit) → Some ms ≡ together os → Some (ms ++ l ∷ []) ≡ together (os ++ Some l ∷ []))
        → together os ≡ o → Some (ls ++ l ∷ []) ≡ option_map (λ ms. k ∷ ms) (together (os ++ Some l ∷ []))
    step None h rest e = absurd (some-none ls h)
    step (Some ms) h rest e =
        ap (λ ns. Some (ns ++ l ∷ [])) (same_Some ls (k ∷ ms) h) ∙ ap (option_map (λ ns. k ∷ ns)) (rest ms (sym e))

pub all_push : {X : Type 0} (f : X → Option Lit) (xs : List X) (i : ℕ) (x : X) (ls : List Lit) (l : Lit)
    → i < length xs → x ≡ get_or xs i x → Some ls ≡ together (map f (take i xs)) → Some l ≡ f x
    → Some (ls ++ l ∷ []) ≡ together (map f (take (i + 1) xs))
all_push f xs i x ls l within is h e =
    together_push (map f (take i xs)) ls l h
    ∙ ap together (ap (λ o. map f (take i xs) ++ o ∷ []) (e ∙ ap f is)
    ∙ sym (ap (map f) (take_more xs i x within) ∙ map-append f (take i xs) (get_or xs i x ∷ [])))

pub all_stop : {X : Type 0} (f : X → Option Lit) (xs : List X) (i : ℕ) (x : X) → i < length xs → x ≡ get_or xs i x
    → f x ≡ None → together (map f xs) ≡ None
all_stop f [] i x within is e = absurd (omega (arith, within))
all_stop f (y ∷ xs) zero x within is e = ap (λ o. together (o ∷ map f xs)) (ap f (sym is) ∙ e)
all_stop f (y ∷ xs) (suc i) x within is e = step (f y) (all_stop f xs i x (omega (arith, within)) is e)
  where
    step : (o : Option Lit) → together (map f xs) ≡ None → together (o ∷ map f xs) ≡ None
    step None rest = refl
    step (Some k) rest = ap (option_map (λ ms. k ∷ ms)) rest

-- Equivalences of pairs.

abbrev pub of_pair : Bool → List Atom → Lit × Lit → Option Lit
of_pair distinct atoms p = signed distinct (equivalence atoms p.0 p.1)

of_pair_stays : (distinct : Bool) (p : Lit × Lit) → Stays (λ atoms. of_pair distinct atoms p)
of_pair_stays true p = negated_stays (equivalence_stays p.0 p.1)
of_pair_stays false p = equivalence_stays p.0 p.1

pub record Compared (adds distinct : Bool) (old new : List (AtomOver ℕ)) (ps : List (Lit × Lit)) (ls : List Lit)
    : Type 0
  where
    pub is : (rs : List Regex) → Some ls ≡ equivalences (atoms_in rs new) distinct ps
    pub below : are_below (length new) ls ≡ true
    pub grows : GrownByGates adds old new

pub compared_start : (adds distinct : Bool) (old : List (AtomOver ℕ)) (ls : List Lit) → ls ≡ []
    → Compared adds distinct old old [] ls
compared_start adds distinct old ls e =
    rw e (record { is = λ rs. refl; below = refl; grows = gates_none adds old })

signed_some : (distinct : Bool) (l : Lit) → signed distinct (Some l) ≡ Some (with_sign distinct l)
signed_some true l = refl
signed_some false l = refl

sign_below : (n : ℕ) (distinct : Bool) (l : Lit) → is_below n l ≡ true → is_below n (with_sign distinct l) ≡ true
sign_below n true l h = h
sign_below n false l h = h

pub compared_step : (adds distinct : Bool) (old mid new : List (AtomOver ℕ)) (ps : List (Lit × Lit)) (i : ℕ)
    (p : Lit × Lit) (ls more : List Lit) (l : Lit) (found : Option Lit)
    → Compared adds distinct old mid (take i ps) ls → i < length ps → p ≡ get_or ps i p → found ≡ Some l
    → Gives is_below adds new (λ atoms. equivalence atoms p.0 p.1) found → GrownByGates adds mid new
    → more ≡ ls ++ with_sign distinct l ∷ [] → Compared adds distinct old new (take (i + 1) ps) more
compared_step adds distinct old mid new ps i p ls more l found h within is some g grows e = rw e (record {
  is = λ rs.
      all_push (of_pair distinct (atoms_in rs new)) ps i p ls (with_sign distinct l) within is
      (carried ls mid new (all_stay (of_pair distinct) (of_pair_stays distinct) (take i ps)).all_stay grows h.is rs)
      (sym (signed_some distinct l) ∙ ap (signed distinct) (sym some ∙ g.is rs));
  below = below_push (length new) ls (with_sign distinct l)
      (all_below_more (length mid) (length new) ls (gates_longer adds mid new grows) h.below)
      (sign_below (length new) distinct l (g.below l some));
  grows = gates_both adds old mid new h.grows grows;
})

signed_none : (distinct : Bool) → signed distinct None ≡ None
signed_none true = refl
signed_none false = refl

pub compared_missing : (adds distinct : Bool) (new : List (AtomOver ℕ)) (ps : List (Lit × Lit)) (i : ℕ)
    (p : Lit × Lit) (found : Option Lit) → i < length ps → p ≡ get_or ps i p → found ≡ None
    → Gives is_below adds new (λ atoms. equivalence atoms p.0 p.1) found
    → Gives are_below adds new (λ atoms. equivalences atoms distinct ps) None
compared_missing adds distinct new ps i p found within is none g = record {
  is = λ rs. sym (all_stop (of_pair distinct (atoms_in rs new)) ps i p within is
      (ap (signed distinct) (sym (g.is rs) ∙ none) ∙ signed_none distinct));
  sure = λ on _. g.sure on none;
  below = λ ls e. absurd (some-none ls (sym e));
}

pub compared_end : (adds distinct : Bool) (old new : List (AtomOver ℕ)) (ps : List (Lit × Lit)) (i : ℕ) (ls : List Lit)
    → Compared adds distinct old new (take i ps) ls → length ps ≤ i
    → Gives are_below adds new (λ atoms. equivalences atoms distinct ps) (Some ls)
compared_end adds distinct old new ps i ls h done = record {
  is = λ rs. h.is rs ∙ ap (equivalences (atoms_in rs new) distinct) (take_all i ps done);
  sure = λ on. some-none ls;
  below = λ ms e. ap (are_below (length new)) (sym (same_Some ls ms e)) ∙ h.below;
}

pub comparison_missing : (adds distinct : Bool) (new : List (AtomOver ℕ)) (ls : List Lit) (ps : List (Lit × Lit))
    (found : Option (List Lit)) → ps ≡ compared distinct ls → found ≡ None
    → Gives are_below adds new (λ atoms. equivalences atoms distinct ps) found
    → GivesLike adds new (connected (connective.Compare distinct)) ls None
comparison_missing adds distinct new ls ps found e none g =
    gives_missing adds new (connected (connective.Compare distinct)) ls (λ on. g.sure on none)
    (λ rs. none_then (conjunction (atoms_in rs new)) _
    (ap (equivalences (atoms_in rs new) distinct) (sym e) ∙ sym (g.is rs) ∙ none))

pub comparison_made : (adds distinct : Bool) (mid new : List (AtomOver ℕ)) (ls made : List Lit) (ps : List (Lit × Lit))
    (literals : Option (List Lit)) (found : Option Lit) → ps ≡ compared distinct ls → literals ≡ Some made
    → Gives are_below adds mid (λ atoms. equivalences atoms distinct ps) literals → GrownByGates adds mid new
    → Gives is_below adds new (λ atoms. conjunction atoms made) found
    → GivesLike adds new (connected (connective.Compare distinct)) ls found
comparison_made adds distinct mid new ls made ps literals found e some g grows h = record {
  is = λ rs.
      h.is rs
      ∙ sym (some_then (conjunction (atoms_in rs new)) made _
      (carried made mid new (all_stay (of_pair distinct) (of_pair_stays distinct) ps).all_stay grows
      (λ ss. sym some ∙ g.is ss) rs ∙ ap (equivalences (atoms_in rs new) distinct) e));
  none = λ on none. absurd (h.sure on none);
  below = h.below;
}
