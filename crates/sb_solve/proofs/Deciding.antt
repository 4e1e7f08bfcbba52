-- Where each atom that is wanted has a value, and no kept clause is false, the values are truths.
use Rattle.sb_solve.proofs.Words.{◌≡◌, ℕ, zero, suc, ◌+◌, ◌<◌, ◌⊎◌, Bool, true, false, not, ◌&&◌, ◌==◌, nat_eq, nat_lt, cond, if◌then◌else◌, List, [], ◌∷◌, length, get_or, slice_get, Option, Some, None, option_map, option_and_then, unwrap_or, refl, sym, ap, ap₂, subst, ◌∙◌, arith, inl, inr, list_all, list_any, is_none, false≢true, and_parts, and_from, or_cases, or_left, or_right, eqb-true, eq-eqb, ltb-true, append-nil, slice_get-map, get_or_from_slice_get, unwrap_or-slice_get, Lit, is_among, is_same_literal, is_false_under, is_false_clause, is_true_under, Kept, is_same_literal-of, is_same_literal-true, literal_of_parts, all_among, Regex, regex_at, Assigned, held, value_of, entry_of, IsConsistent, HasNoneFalse, Sort, Term, Valuation, holds, Piece, constant_piece, word_piece, Atom, AtomOver, bool_atom, in_atom, le_atom, sum_atom, and_atom, iff_atom, literal_holds, truths_of, translation, HasSorts, fits_sorts, TranslationHolds, IsTruthAt, truth_at_place, all_in_front, literal_holds-take, over, atoms_in, are_alike, gate_clauses, gate, is_as_it_says, all_say, each-part, of-gate, has_value, word_at, is_true_by, fits_subject, constant_of, subject_of, is_atom, is_of_wanted, wanted_of, wanted_on, is_in, is_same_truth, atoms_of, parts_of, is_simple, is_closed, is_true, is_constant, makes_true, truth_by, IsKept, AreKept, IsDecided, IsGiven, all_weaker, list_all-map, slice_get-get_or, some-none, any-filter_same, language, all_hold, number_in, list_any_none, Contains, ◌++◌}
use Rattle.sb_rulebook.specs.Atoms as rulebook
use Rattle.std.specs.List.{flat_map}
use Rattle.sb_theory.specs.Memberships.{fits_pieces, joined_word}
use Rattle.sb_solve.proofs.Gathered.{names_before}
use Rattle.sb_solve.proofs.Truths.{contains_first, contains_later}

-- A literal of a wanted atom is one of those of wanted atoms.
among_wanted : (wanted : List ℕ) (ls : List Lit) (l : Lit) → is_in wanted l.atom ≡ true → is_among ls l ≡ true
    → is_among (wanted_of wanted ls) l ≡ true
among_wanted wanted ls l there among =
    any-filter_same (λ m. is_same_literal m l) (is_of_wanted wanted) true
    (λ m same. ap (is_of_wanted wanted) (is_same_literal-true m l same) ∙ there) ls ∙ among

-- Numbers of a list.

pub all_in : (test : ℕ → Bool) (xs : List ℕ) (n : ℕ) → list_all test xs ≡ true → is_in xs n ≡ true → test n ≡ true
all_in test [] n h there = absurd (false≢true there)
all_in test (x ∷ xs) n h there =
    let p = and_parts (test x) (list_all test xs) h in
    elim (or_cases (nat_eq n x) (is_in xs n) there) [
      | inl here ↦ ap test (eqb-true n x here) ∙ p.0
      | inr later ↦ all_in test xs n p.1 later
    ]

pub any_in : (test : ℕ → Bool) (xs : List ℕ) (n : ℕ) → is_in xs n ≡ true → test n ≡ true → list_any test xs ≡ true
any_in test [] n there h = absurd (false≢true there)
any_in test (x ∷ xs) n there h = elim (or_cases (nat_eq n x) (is_in xs n) there) [
  | inl here ↦ or_left (test x) (list_any test xs) (ap test (sym (eqb-true n x here)) ∙ h)
  | inr later ↦ or_right (test x) (list_any test xs) (any_in test xs n later h)
]

-- What stands on a trail.

-- the literal is true by the value of its atom
abbrev on_trail : List Assigned → Lit → Bool
on_trail es l = if l.positive then is_true es l.atom else not (is_true es l.atom)

abbrev signed : ℕ → Bool → Lit
signed atom positive = record { atom = atom; positive = positive }

pub value_among : (es : List Assigned) (atom : ℕ) (b : Bool) → value_of es atom ≡ Some b
    → is_among (held es) (signed atom b) ≡ true
value_among [] atom b h = absurd (Prim.cc (h))
value_among (e ∷ es) atom b h = step (e.literal.atom == atom) refl h (value_among es atom b)
  where
    step : (t : Bool) → (e.literal.atom == atom) ≡ t
        → option_map (λ (x : Assigned). x.literal.positive) (cond t (Some e) (entry_of es atom)) ≡ Some b
        → (value_of es atom ≡ Some b → is_among (held es) (signed atom b) ≡ true)
        → is_among (held (e ∷ es)) (signed atom b) ≡ true
    step true same h rest =
        or_left (is_same_literal e.literal (signed atom b)) (is_among (held es) (signed atom b))
        (is_same_literal-of e.literal (signed atom b)
        (literal_of_parts e.literal.atom atom e.literal.positive b (eqb-true e.literal.atom atom same) (Prim.cc (h))))
    step false other h rest =
        or_right (is_same_literal e.literal (signed atom b)) (is_among (held es) (signed atom b)) (rest h)

pub valued : (es : List Assigned) (atom : ℕ) → has_value es atom ≡ true → value_of es atom ≡ Some (is_true es atom)
valued es atom h = step (value_of es atom) h
  where
    step : (o : Option Bool) → not (is_none o) ≡ true → o ≡ Some (unwrap_or o false)
    step None h = absurd (false≢true h)
    step (Some b) h = refl

sign_case : (es : List Assigned) (atom : ℕ) (s b : Bool) → is_true es atom ≡ b
    → is_among (held es) (signed atom b) ≡ true
    → (on_trail es (signed atom s) ≡ true) ⊎ (is_false_under (held es) (signed atom s) ≡ true)
sign_case es atom true true is there = inl is
sign_case es atom true false is there = inr there
sign_case es atom false true is there = inr there
sign_case es atom false false is there = inl (ap not is)

pub true_or_false : (es : List Assigned) (l : Lit) → has_value es l.atom ≡ true
    → (on_trail es l ≡ true) ⊎ (is_false_under (held es) l ≡ true)
true_or_false es l h =
    sign_case es l.atom l.positive (is_true es l.atom) refl
    (value_among es l.atom (is_true es l.atom) (valued es l.atom h))

pub some_true : (es : List Assigned) (clause : List Lit) → list_all (λ l. has_value es l.atom) clause ≡ true
    → is_false_clause (held es) clause ≡ false → list_any (on_trail es) clause ≡ true
some_true es [] full h = absurd (false≢true (sym h))
some_true es (l ∷ ls) full h =
    let p = and_parts (has_value es l.atom) (list_all (λ m. has_value es m.atom) ls) full in
    elim (true_or_false es l p.0) [
      | inl yes_here ↦ or_left (on_trail es l) (list_any (on_trail es) ls) yes_here
      | inr false_here ↦ or_right (on_trail es l) (list_any (on_trail es) ls)
          (some_true es ls p.1 (sym (ap (λ b. b && is_false_clause (held es) ls) false_here) ∙ h))
    ]

-- The truths that a trail gives the first atoms.

abbrev truths_on : List Assigned → ℕ → ℕ → List Bool
truths_on es k zero = []
truths_on es k (suc n) = is_true es k ∷ truths_on es (suc k) n

truth_on : (es : List Assigned) (k n i : ℕ) → i < n → get_or (truths_on es k n) i false ≡ is_true es (k + i)
truth_on es k zero i below = absurd (omega (arith, below))
truth_on es k (suc n) zero below = ap (is_true es) (omega arith)
truth_on es k (suc n) (suc i) below = truth_on es (suc k) n i (omega (arith, below)) ∙ ap (is_true es) (omega arith)

holds_on : (es : List Assigned) (n : ℕ) (l : Lit) → l.atom < n → literal_holds (truths_on es 0 n) l ≡ on_trail es l
holds_on es n l below =
    ap (λ b. if l.positive then b else not b)
    (unwrap_or-slice_get (truths_on es 0 n) l.atom false ∙ truth_on es 0 n l.atom below ∙ ap (is_true es) (omega arith))

-- each atom of which this one speaks passes
part_each : (test : ℕ → Bool) (a : AtomOver ℕ) → list_all test (parts_of a) ≡ true → each-part test a ≡ true
part_each test (bool_atom serial) h = refl
part_each test (in_atom ps r) h = refl
part_each test (le_atom x k) h = refl
part_each test (sum_atom k ss) h = refl
part_each test (and_atom ls) h = sym (list_all-map test (λ (l : Lit). l.atom) ls) ∙ h
part_each test (iff_atom l m) h =
    let q = and_parts (test l.atom) (test m.atom && true) h in
    and_from (test l.atom) (test m.atom) q.0 (and_parts (test m.atom) true q.1).0

-- Kept clauses are true on the trail.

kept_true : (es : List Assigned) (n : ℕ) (kept : Kept) (clauses : List (List Lit)) → HasNoneFalse kept (held es)
    → AreKept kept clauses
    → list_all (list_all (λ (l : Lit). has_value es l.atom && nat_lt l.atom n)) clauses ≡ true
    → all_hold (truths_on es 0 n) clauses ≡ true
kept_true es n kept [] none_false k full = refl
kept_true es n kept (clause ∷ clauses) none_false k h =
    let q = and_parts (list_all (λ (l : Lit). has_value es l.atom && nat_lt l.atom n) clause) _ h in
    let full = all_weaker (λ (l : Lit). has_value es l.atom && nat_lt l.atom n) (λ (l : Lit). has_value es l.atom)
    (λ l both. (and_parts (has_value es l.atom) (nat_lt l.atom n) both).0) clause q.0 in
    let one = k.0 in
    let now : is_false_clause (held es) clause ≡ false =
    ap (is_false_clause (held es)) (sym one.3) ∙ none_false one.0 one.1 one.2 in
    and_from (list_any (literal_holds (truths_on es 0 n)) clause) (all_hold (truths_on es 0 n) clauses)
    (moved clause q.0 (some_true es clause full now)) (kept_true es n kept clauses none_false k.1 q.1)
  where
    moved : (ls : List Lit) → list_all (λ (l : Lit). has_value es l.atom && nat_lt l.atom n) ls ≡ true
        → list_any (on_trail es) ls ≡ true → list_any (literal_holds (truths_on es 0 n)) ls ≡ true
    moved [] h some = absurd (false≢true some)
    moved (l ∷ ls) h some =
        let q = and_parts (has_value es l.atom && nat_lt l.atom n) _ h in
        elim (or_cases (on_trail es l) (list_any (on_trail es) ls) some) [
          | inl here ↦ or_left (literal_holds (truths_on es 0 n) l) (list_any (literal_holds (truths_on es 0 n)) ls)
              (holds_on es n l (ltb-true l.atom n (and_parts (has_value es l.atom) (nat_lt l.atom n) q.0).1) ∙ here)
          | inr later ↦ or_right (literal_holds (truths_on es 0 n) l) (list_any (literal_holds (truths_on es 0 n)) ls)
              (moved ls q.1 later)
        ]

-- Atom by atom.

same_sign : (p b : Bool) → (if p then b else not b) ≡ true → is_same_truth b p ≡ true
same_sign true true h = refl
same_sign true false h = absurd (false≢true h)
same_sign false true h = absurd (false≢true h)
same_sign false false h = refl

same_truths : (a b : Bool) → are_alike a b ≡ true → a ≡ b
same_truths true true h = refl
same_truths true false h = absurd (false≢true h)
same_truths false true h = absurd (false≢true h)
same_truths false false h = refl

module _ (rs : List Regex) (atoms : List (AtomOver ℕ)) (wanted : List ℕ) (kept : Kept) (es : List Assigned)
    (words : List (Option (List ℕ))) (v : Valuation) (d : IsDecided rs atoms wanted kept es)
    (g : IsGiven rs atoms wanted es words v)
  where
    abbrev table : List Atom
    table = atoms_in rs atoms

    -- the truth of an atom
    abbrev truth : ℕ → Bool
    truth i = get_or (truths_of v table) i false

    truth_is : (i : ℕ) (a : AtomOver ℕ) → slice_get atoms i ≡ Some a
        → IsTruthAt v (truths_of v table) i (over rs a)
    truth_is i a there =
        truth_at_place v table i (over rs a) (slice_get-map (over rs) atoms i ∙ ap (option_map (over rs)) there)

    -- of a Bool constant

    of_true : (i serial : ℕ) → is_in wanted i ≡ true → slice_get atoms i ≡ Some (bool_atom serial)
        → is_true es i ≡ true → truth_by atoms es wanted serial ≡ true
    of_true i serial there at h =
        any_in (makes_true atoms es serial) wanted i there
        (and_from (is_constant serial (slice_get atoms i)) (is_true es i)
        (ap (is_constant serial) at ∙ eq-eqb serial serial refl) h)

    of_false : (i serial : ℕ) → slice_get atoms i ≡ Some (bool_atom serial) → is_true es i ≡ false
        → truth_by atoms es wanted serial ≡ false
    of_false i serial at h = list_any_none (makes_true atoms es serial) wanted
        (λ k d low. other (get_or wanted k d) (slice_get atoms (get_or wanted k d)) refl)
      where
        other : (j : ℕ) (o : Option (AtomOver ℕ)) → slice_get atoms j ≡ o
            → (is_constant serial o && is_true es j) ≡ false
        other j None there = refl
        other j (Some (bool_atom s)) there = step (s == serial) refl
          where
            step : (b : Bool) → (s == serial) ≡ b → (b && is_true es j) ≡ false
            step false e = refl
            step true e =
                let same : j ≡ i =
                d.distinct j i (bool_atom serial) (there ∙ ap (λ n. Some (bool_atom n)) (eqb-true s serial e)) at in
                ap (is_true es) same ∙ h
        other j (Some (in_atom ps r)) there = refl
        other j (Some (le_atom x k)) there = refl
        other j (Some (sum_atom k ss)) there = refl
        other j (Some (and_atom ls)) there = refl
        other j (Some (iff_atom l m)) there = refl

    of_constant : (i serial : ℕ) → is_in wanted i ≡ true → slice_get atoms i ≡ Some (bool_atom serial)
        → truth_by atoms es wanted serial ≡ is_true es i
    of_constant i serial there at = step (is_true es i) refl
      where
        step : (b : Bool) → is_true es i ≡ b → truth_by atoms es wanted serial ≡ b
        step true h = of_true i serial there at h
        step false h = of_false i serial at h

    -- of a membership

    -- a literal of it that is true of the words is true of the joined word of its pieces
    joined_fits : (i : ℕ) (b : Bool) (ps : List Piece) (r : ℕ) → slice_get atoms i ≡ Some (in_atom ps r)
        → fits_subject rs atoms words (signed i b) (constant_of (in_atom ps r)) ≡ true
        → fits_pieces rs words b (Some (in_atom ps r)) ≡ true
    joined_fits i b [] r at h = ap (fits_pieces rs words b) (sym at) ∙ h
    joined_fits i b (word_piece w ∷ ps) r at h = ap (fits_pieces rs words b) (sym at) ∙ h
    joined_fits i b (constant_piece x ∷ p ∷ ps) r at h = ap (fits_pieces rs words b) (sym at) ∙ h
    joined_fits i b (constant_piece x ∷ []) r at h =
        let number : number_in (get_or atoms i (bool_atom 0)) ≡ r =
        ap number_in (get_or_from_slice_get atoms i (in_atom (constant_piece x ∷ []) r) (bool_atom 0) at) in
        ap₂ (λ (n : ℕ) (w : List ℕ). if b then language (regex_at rs n) w else not (language (regex_at rs n) w))
        (sym number) (append-nil (word_at words x))
        ∙ h

    of_membership : (i : ℕ) (ps : List Piece) (r : ℕ) → is_in wanted i ≡ true
        → slice_get atoms i ≡ Some (in_atom ps r) → is_true es i ≡ language (regex_at rs r) (joined_word words ps)
    of_membership i ps r there at =
        let l = signed i (is_true es i) in
        let has = all_in (has_value es) wanted i d.full there in
        let among = value_among es i (is_true es i) (valued es i has) in
        let fits : is_true_by rs atoms words l ≡ true =
        all_among (is_true_by rs atoms words) (wanted_on wanted es) l g.agrees
        (among_wanted wanted (held es) l there among) in
        let subject : subject_of atoms l ≡ constant_of (in_atom ps r) = ap (λ o. option_and_then constant_of o) at in
        let now : fits_subject rs atoms words l (constant_of (in_atom ps r)) ≡ true =
        ap (fits_subject rs atoms words l) (sym subject) ∙ fits in
        same_truths (is_true es i) (language (regex_at rs r) (joined_word words ps))
        (joined_fits i (is_true es i) ps r at now)

    -- the words of its pieces are those that the valuation gives
    words_given : (ps : List Piece)
        → ((serial : ℕ) → Contains ps (constant_piece serial) → rulebook.word_at v serial ≡ word_at words serial)
        → flat_map (rulebook.word_of_piece v) ps ≡ joined_word words ps
    words_given [] h = refl
    words_given (constant_piece x ∷ ps) h =
        ap₂ (λ (first rest : List ℕ). first ++ rest) (h x (contains_first (constant_piece x) ps))
        (words_given ps (λ serial there.
        h serial (contains_later (constant_piece x) ps (constant_piece serial) there)))
    words_given (word_piece w ∷ ps) h =
        ap (λ (rest : List ℕ). w ++ rest)
        (words_given ps (λ serial there. h serial (contains_later (word_piece w) ps (constant_piece serial) there)))

    closed_there : (i : ℕ) (a : AtomOver ℕ) → is_in wanted i ≡ true → slice_get atoms i ≡ Some a
        → (is_simple a ≡ true) × (list_all (is_in wanted) (parts_of a) ≡ true)
    closed_there i a there is =
        and_parts (is_simple a) (list_all (is_in wanted) (parts_of a))
        (subst (λ o. (elim o as (λ _. Bool) [ None ↦ true | Some b ↦ is_simple b ]
        && list_all (is_in wanted) (elim o as (λ _. List ℕ) [ None ↦ [] | Some b ↦ parts_of b ])) ≡ true) is
        (all_in (is_closed atoms wanted) wanted i d.closed there))

    within : (i : ℕ) → is_in wanted i ≡ true → i < length atoms
    within i there = ltb-true i (length atoms) (all_in (is_atom atoms) wanted i d.known there)

    -- of what speaks of literals

    says : (i : ℕ) (a : AtomOver ℕ) → is_in wanted i ≡ true → slice_get atoms i ≡ Some a
        → is_as_it_says (truths_on es 0 (length atoms)) i a ≡ true
    says i a there at =
        let n = length atoms in
        let test : ℕ → Bool = λ j. has_value es j && nat_lt j n in
        let tested : (j : ℕ) → is_in wanted j ≡ true → test j ≡ true = λ j h.
        and_from (has_value es j) (nat_lt j n) (all_in (has_value es) wanted j d.full h)
        (all_in (is_atom atoms) wanted j d.known h) in
        let parts = all_weaker (is_in wanted) test tested (parts_of a) (closed_there i a there at).1 in
        let clauses = gate_clauses i a in
        let are : AreKept kept clauses =
        subst (λ (b : AtomOver ℕ). AreKept kept (gate_clauses i b)) (get_or_from_slice_get atoms i a (bool_atom 0) at)
        (d.gates i there) in
        sym (all_say (truths_on es 0 n) i a)
        ∙ kept_true es n kept clauses d.none_false are (of-gate test i a (tested i there) (part_each test a parts))

    abbrev on : List Bool
    on = truths_on es 0 (length atoms)

    -- the value of an atom is its truth
    abbrev Right : ℕ → Type 0
    Right i = is_true es i ≡ truth i

    holds_both : (l : Lit) → l.atom < length atoms → Right l.atom
        → literal_holds on l ≡ literal_holds (truths_of v table) l
    holds_both l below right =
        holds_on es (length atoms) l below
        ∙ ap (λ b. if l.positive then b else not b)
        (right ∙ sym (unwrap_or-slice_get (truths_of v table) l.atom false))

    each_holds : (i : ℕ) (ls : List Lit) → i < length atoms → list_all (λ (l : Lit). nat_lt l.atom i) ls ≡ true
        → list_all (is_in wanted) (atoms_of ls) ≡ true → ((j : ℕ) → j < i → is_in wanted j ≡ true → Right j)
        → list_all (literal_holds on) ls ≡ list_all (literal_holds (truths_of v table)) ls
    each_holds i [] low below parts rest = refl
    each_holds i (l ∷ ls) low below parts rest =
        let p = and_parts (nat_lt l.atom i) (list_all (λ (m : Lit). nat_lt m.atom i) ls) below in
        let q = and_parts (is_in wanted l.atom) (list_all (is_in wanted) (atoms_of ls)) parts in
        let less : l.atom < i = ltb-true l.atom i p.0 in
        ap₂ (λ a b. a && b) (holds_both l (omega (arith, less, low)) (rest l.atom less q.0))
        (each_holds i ls low p.1 q.1 rest)

    of_conjunction : (i : ℕ) (ls : List Lit) → is_in wanted i ≡ true → slice_get atoms i ≡ Some (and_atom ls)
        → ((j : ℕ) → j < i → is_in wanted j ≡ true → Right j) → Right i
    of_conjunction i ls there at rest =
        let at_place = truth_is i (and_atom ls) at in
        let low = within i there in
        let below = names_before rs atoms i (and_atom ls) d.table at in
        sym (holds_on es (length atoms) (gate i true) low)
        ∙ same_truths (literal_holds on (gate i true)) (list_all (literal_holds on) ls) (says i (and_atom ls) there at)
        ∙ each_holds i ls low below (closed_there i (and_atom ls) there at).1 rest
        ∙ sym (all_in_front (truths_of v table) i ls below (omega (arith, at_place.0)))
        ∙ sym at_place.1

    of_equivalence : (i : ℕ) (l m : Lit) → is_in wanted i ≡ true → slice_get atoms i ≡ Some (iff_atom l m)
        → ((j : ℕ) → j < i → is_in wanted j ≡ true → Right j) → Right i
    of_equivalence i l m there at rest =
        let at_place = truth_is i (iff_atom l m) at in
        let low = within i there in
        let T = truths_of v table in
        let p = and_parts (nat_lt l.atom i) (nat_lt m.atom i) (names_before rs atoms i (iff_atom l m) d.table at) in
        let parts = (closed_there i (iff_atom l m) there at).1 in
        let q = and_parts (is_in wanted l.atom) (is_in wanted m.atom && true) parts in
        let r = and_parts (is_in wanted m.atom) true q.1 in
        let first : l.atom < i = ltb-true l.atom i p.0 in
        let second : m.atom < i = ltb-true m.atom i p.1 in
        sym (holds_on es (length atoms) (gate i true) low)
        ∙ same_truths (literal_holds on (gate i true)) (are_alike (literal_holds on l) (literal_holds on m))
        (says i (iff_atom l m) there at)
        ∙ ap₂ are_alike
        (holds_both l (omega (arith, first, low)) (rest l.atom first q.0)
        ∙ sym (literal_holds-take T i l first (omega (arith, at_place.0))))
        (holds_both m (omega (arith, second, low)) (rest m.atom second r.0)
        ∙ sym (literal_holds-take T i m second (omega (arith, at_place.0))))
        ∙ sym at_place.1

    of_atom : (i : ℕ) (o : Option (AtomOver ℕ)) → slice_get atoms i ≡ o → is_in wanted i ≡ true
        → ((j : ℕ) → j < i → is_in wanted j ≡ true → Right j) → Right i
    of_atom i None at there rest =
        absurd (some-none _ (sym (slice_get-get_or atoms i (bool_atom 0) (within i there)) ∙ at))
    of_atom i (Some (bool_atom serial)) at there rest =
        sym (of_constant i serial there at) ∙ sym (g.gives_truths i serial there at)
        ∙ sym (truth_is i (bool_atom serial) at).1
    of_atom i (Some (in_atom ps r)) at there rest =
        of_membership i ps r there at
        ∙ ap (language (regex_at rs r))
        (sym (words_given ps (λ serial among. g.gives_words i serial r ps there at among)))
        ∙ sym (truth_is i (in_atom ps r) at).1
    of_atom i (Some (le_atom x k)) at there rest = absurd (false≢true (closed_there i (le_atom x k) there at).0)
    of_atom i (Some (sum_atom k ss)) at there rest = absurd (false≢true (closed_there i (sum_atom k ss) there at).0)
    of_atom i (Some (and_atom ls)) at there rest = of_conjunction i ls there at rest
    of_atom i (Some (iff_atom l m)) at there rest = of_equivalence i l m there at rest

    right_below : (n i : ℕ) → i < n → is_in wanted i ≡ true → Right i
    right_below zero i below there = absurd (omega (arith, below))
    right_below (suc n) i below there =
        of_atom i (slice_get atoms i) refl there (λ j less h. right_below n j (omega (arith, below, less)) h)

    -- each value is the truth
    pub value_right : (i : ℕ) → is_in wanted i ≡ true
        → value_of es i ≡ Some (get_or (truths_of v (atoms_in rs atoms)) i false)
    value_right i there =
        valued es i (all_in (has_value es) wanted i d.full there) ∙ ap Some (right_below (suc i) i (omega arith) there)

    -- and a literal is true that the trail has

    by_trail : (l : Lit) → is_in wanted l.atom ≡ true → on_trail es l ≡ true
        → literal_holds (truths_of v (atoms_in rs atoms)) l ≡ true
    by_trail l there h =
        let low = within l.atom there in
        sym (holds_both l low (right_below (suc l.atom) l.atom (omega arith) there))
        ∙ holds_on es (length atoms) l low
        ∙ h

    has_sign : (l : Lit) → is_in wanted l.atom ≡ true → IsConsistent (held es) → is_true_under (held es) l ≡ true
        → on_trail es l ≡ true
    has_sign l there consistent h = elim (true_or_false es l (all_in (has_value es) wanted l.atom d.full there)) [
      | inl yes_here ↦ yes_here
      | inr false_here ↦ absurd (false≢true (sym (consistent l h) ∙ false_here))
    ]

    pub literal_right : (l : Lit) → is_in wanted l.atom ≡ true → IsConsistent (held es)
        → is_true_under (held es) l ≡ true → literal_holds (truths_of v (atoms_in rs atoms)) l ≡ true
    literal_right l there consistent h = by_trail l there (has_sign l there consistent h)

    -- and a constant is as true as the literal has it that the trail has of its atom
    pub constant_right : (l : Lit) (serial : ℕ) → is_in wanted l.atom ≡ true → IsConsistent (held es)
        → is_true_under (held es) l ≡ true → slice_get atoms l.atom ≡ Some (bool_atom serial)
        → is_same_truth (truth_by atoms es wanted serial) l.positive ≡ true
    constant_right l serial there consistent h at =
        ap (λ b. is_same_truth b l.positive) (of_constant l.atom serial there at)
        ∙ same_sign l.positive (is_true es l.atom) (has_sign l there consistent h)

    pub term_right : TranslationHolds → (sorts : List Sort) (t : Term) (l : Lit) → HasSorts v sorts
        → fits_sorts sorts t ≡ true → translation (atoms_in rs atoms) t ≡ Some l → is_in wanted l.atom ≡ true
        → IsKept kept (l ∷ []) → holds t v ≡ true
    term_right law sorts t l has fit is there k =
        let not_false : is_false_clause (held es) (l ∷ []) ≡ false =
        ap (is_false_clause (held es)) (sym k.3) ∙ d.none_false k.0 k.1 k.2 in
        let valued_there = all_in (has_value es) wanted l.atom d.full there in
        let some = some_true es (l ∷ []) (and_from (has_value es l.atom) true valued_there refl) not_false in
        sym (law v sorts (atoms_in rs atoms) t l d.table has fit is)
        ∙ by_trail l there (elim (or_cases (on_trail es l) false some) [ inl h ↦ h | inr h ↦ absurd (false≢true h) ])
