-- The clauses of gates.
use Rattle.std.proofs.Common.{◌≡◌, ℕ, zero, suc, ◌+◌, ◌<◌, ◌≤◌, Bool, true, false, not, ◌&&◌, ◌||◌, nat_lt, if◌then◌else◌, List, [], ◌∷◌, ◌++◌, map, length, drop, get_or, Some, option_map, Ok, Err, refl, ap, ap₂, sym, ◌∙◌, arith}
use Rattle.std.specs.List.{list_all, list_any}
use Rattle.std.proofs.Math.Bool.{or-false}
use Rattle.std.proofs.lemmas.Bool.{false≢true, false_from_ne_true, or_left, or_right, ltb-true}
use Rattle.std.proofs.lemmas.List.Folds.{list_all_at, list_any-append}
use Rattle.std.proofs.lemmas.List.{at_drop_more, at_drop_all, length-map}
use Rattle.std.proofs.lemmas.Option.{slice_get-map, slice_get-get_or}
use Rattle.sb_lang.specs.Regex.{Regex}
use Rattle.sb_lit.specs.declared.clause.Lit.{Lit}
use Rattle.sb_lit.specs.Clauses.{negation, is_same_literal, is_among, are_among, are_ascending}
use Rattle.sb_lit.specs.Hints.{is_repeated}
use Rattle.sb_lit.proofs.CallerLemmas.{is_same_literal-beq, is_same_literal-self}
use Rattle.sb_hints.specs.Sets.{are_equal}
use Rattle.sb_atoms.specs.Numbered.{Names, over, atoms_in}
use Rattle.sb_atoms.specs.GateClauses.{atom_at}
use Rattle.sb_atoms.proofs.CallerLemmas.{clauses_over}
use Rattle.sb_rulebook.specs.Atoms.{Atom, AtomOver, bool_atom, in_atom, le_atom, sum_atom, and_atom, iff_atom}
use Rattle.sb_rulebook.specs.Gates.{gate, clauses_of, atom_of, has_both_signs, is_set_of, is_link_of, is_gate_of, is_gate}
use Rattle.sb_rulebook.specs.Brought.{is_brought_atom, is_brought_rule}
use Rattle.sb_sound.proofs.CallerLemmas.{any_at}
use Rattle.sb_rulebook.specs.ClauseRules.{holds_by, is_counted, follows_rule}
use Rattle.sb_rulebook.specs.Kept.{AllKept, Asked, counting, most_counted, with_clause}
use Rattle.sb_rulebook.specs.Lines as lines
use Rattle.sb_rulebook.specs.Lines.{Rule, rule_line}
use Rattle.sb_rulebook.specs.Refusals.{unknown_id, repeated, rule_broken, wrong_verdict}
use Rattle.sb_rulebook.specs.Follows.{follows, not_brought}
use Rattle.sb_rules.specs.declared.kept.Kept.{Kept}
use Rattle.sb_rules.specs.Kept.{kept_in}
use Rattle.sb_rules.specs.Gating.{HasLiterals}
use Rattle.sb_rules.proofs.AtomLines.{all_same}
use Rattle.sb_rules.proofs.Loops.{or-right}

-- Sets of literals.

any_same : {A : Type 0} (p q : A → Bool) (xs : List A) → ((x : A) → p x ≡ q x) → list_any p xs ≡ list_any q xs
any_same p q [] h = refl
any_same p q (x ∷ xs) h = ap₂ (λ a b. a || b) (h x) (any_same p q xs h)

-- each is among the few, as `==` finds out
pub among_few : (ls few : List Lit) → list_all (λ l. list_any (λ m. are_equal m l) few) ls ≡ are_among ls few
among_few ls few =
    all_same (λ l. list_any (λ m. are_equal m l) few) (is_among few) ls (λ l.
    any_same (λ m. are_equal m l) _ few (λ m. is_same_literal-beq m l))

pub are_these : (clause ls : List Lit) (has : Lit → Bool) → HasLiterals clause has
    → list_all has ls ≡ are_among ls clause
are_these clause ls has set = all_same has (is_among clause) ls set

pub is_few : (clause few : List Lit) (has : Lit → Bool) → HasLiterals clause has
    → (list_all (λ l. list_any (λ m. are_equal m l) few) clause && list_all has few) ≡ is_set_of clause few
is_few clause few has set = ap₂ ◌&&◌ (among_few clause few) (are_these clause few has set)

both_ways : (a b : Bool) → (a && b) ≡ (b && a)
both_ways true true = refl
both_ways true false = refl
both_ways false true = refl
both_ways false false = refl

-- the other way round, each of the two by a set
pub is_many : (clause ls : List Lit) (has its : Lit → Bool) → HasLiterals clause has → HasLiterals ls its
    → (list_all has ls && list_all its clause) ≡ is_set_of clause ls
is_many clause ls has its set other =
    both_ways (list_all has ls) (list_all its clause)
    ∙ ap₂ ◌&&◌ (are_these ls clause its other) (are_these clause ls has set)

pub not_many : (clause ls : List Lit) (has : Lit → Bool) → HasLiterals clause has → list_all has ls ≡ false
    → false ≡ is_set_of clause ls
not_many clause ls has set h =
    sym (both_ways (are_among clause ls) (are_among ls clause)
    ∙ ap (λ b. b && are_among clause ls) (sym (are_these clause ls has set) ∙ h))

pub many : (clause ls : List Lit) (has its : Lit → Bool) (b : Bool) → HasLiterals clause has → HasLiterals ls its
    → list_all has ls ≡ true → b ≡ list_all its clause → b ≡ is_set_of clause ls
many clause ls has its b set other h is =
    is ∙ (ap (λ t. t && list_all its clause) (sym h) ∙ is_many clause ls has its set other)

-- the atom of a literal, as it was found in the table
pub gate_at : (rs : List Regex) (atoms : List (AtomOver ℕ)) (clause : List Lit) (l : Lit) (a : AtomOver ℕ)
    → Names atoms l.atom a
    → is_gate_of (atoms_in rs atoms) clause l (atom_of (atoms_in rs atoms) l)
    ≡ is_gate_of (atoms_in rs atoms) clause l (Some (over rs a))
gate_at rs atoms clause l a h =
    ap (is_gate_of (atoms_in rs atoms) clause l) (slice_get-map (over rs) atoms l.atom ∙ ap (option_map (over rs)) h)

-- The clauses of a conjunction, by the sign of its literal in the clause.

other_sign : (clause : List Lit) (l : Lit) → has_both_signs clause ≡ false → is_among clause l ≡ true
    → is_among clause (negation l) ≡ false
other_sign clause l none among = false_from_ne_true (is_among clause (negation l)) (λ there.
    false≢true (sym none ∙ any_at (λ m. is_among clause (negation m)) clause l among there))

without : (clause : List Lit) (l : Lit) (ls : List Lit) → is_among clause l ≡ false → is_set_of clause (l ∷ ls) ≡ false
without clause l ls none =
    ap (λ b. are_among clause (l ∷ ls) && (b && are_among ls clause)) none ∙ both_ways (are_among clause (l ∷ ls)) false

no_parts : (clause : List Lit) (l : Lit) (ls : List Lit) → is_among clause l ≡ false
    → list_any (is_set_of clause) (map (λ m. l ∷ m ∷ []) ls) ≡ false
no_parts clause l [] none = refl
no_parts clause l (m ∷ ms) none =
    ap₂ (λ a b. a || b) (without clause l (m ∷ []) none) (no_parts clause l ms none)

any_mapped : (test : List Lit → Bool) (l : Lit) (ls : List Lit)
    → list_any test (map (λ m. l ∷ m ∷ []) ls) ≡ list_any (λ m. test (l ∷ m ∷ [])) ls
any_mapped test l [] = refl
any_mapped test l (m ∷ ms) = ap (λ b. test (l ∷ m ∷ []) || b) (any_mapped test l ms)

by_sign : (clause : List Lit) (g : ℕ) (s : Bool) (ls : List Lit) → is_among clause (gate g (not s)) ≡ false
    → (if s then is_set_of clause (gate g s ∷ map negation ls)
    else list_any (λ m. is_set_of clause (gate g s ∷ m ∷ [])) ls)
    ≡ list_any (is_set_of clause) (map (λ m. gate g false ∷ m ∷ []) ls ++ (gate g true ∷ map negation ls) ∷ [])
by_sign clause g true ls none =
    sym (list_any-append (is_set_of clause) (map (λ m. gate g false ∷ m ∷ []) ls) ((gate g true ∷ map negation ls) ∷ [])
    ∙ ap₂ (λ a b. a || b) (no_parts clause (gate g false) ls none)
    (or-false (is_set_of clause (gate g true ∷ map negation ls))))
by_sign clause g false ls none =
    sym (list_any-append (is_set_of clause) (map (λ m. gate g false ∷ m ∷ []) ls) ((gate g true ∷ map negation ls) ∷ [])
    ∙ ap₂ (λ a b. a || b) (any_mapped (is_set_of clause) (gate g false) ls)
    (ap (λ b. b || false) (without clause (gate g true) (map negation ls) none))
    ∙ or-false (list_any (λ m. is_set_of clause (gate g false ∷ m ∷ [])) ls))

-- no brought atom is of a bound
no_link : (rs : List Regex) (atoms : List Atom) (clause : List Lit) (l : Lit) (a : AtomOver ℕ)
    → is_brought_atom a ≡ true → is_link_of atoms clause l (over rs a) ≡ false
no_link rs atoms clause l (bool_atom serial) brought = refl
no_link rs atoms clause l (in_atom ps r) brought = refl
no_link rs atoms clause l (le_atom x k) brought = absurd (false≢true brought)
no_link rs atoms clause l (sum_atom k ss) brought = refl
no_link rs atoms clause l (and_atom ls) brought = refl
no_link rs atoms clause l (iff_atom a b) brought = refl

-- the atom of a literal of the table

pub atom_there : (atoms : List (AtomOver ℕ)) (l : Lit) → nat_lt l.atom (length atoms) ≡ true
    → Names atoms l.atom (atom_at atoms l.atom)
atom_there atoms l low = slice_get-get_or atoms l.atom (bool_atom 0) (ltb-true l.atom (length atoms) low)

pub brought_there : (atoms : List (AtomOver ℕ)) (l : Lit) → nat_lt l.atom (length atoms) ≡ true
    → list_all is_brought_atom atoms ≡ true → is_brought_atom (atom_at atoms l.atom) ≡ true
brought_there atoms l low all = by (is_brought_atom (atom_at atoms l.atom)) refl
  where
    by : (b : Bool) → is_brought_atom (atom_at atoms l.atom) ≡ b → b ≡ true
    by true e = refl
    by false e =
        absurd (false≢true
        (sym (list_all_at is_brought_atom atoms l.atom (bool_atom 0) (ltb-true l.atom (length atoms) low) e) ∙ all))

pub by_clauses : (rs : List Regex) (atoms : List (AtomOver ℕ)) (clause : List Lit) (l : Lit) (a : AtomOver ℕ) (b : Bool)
    → Names atoms l.atom a → is_brought_atom a ≡ true → b ≡ list_any (is_set_of clause) (clauses_of l.atom a)
    → b ≡ is_gate_of (atoms_in rs atoms) clause l (atom_of (atoms_in rs atoms) l)
by_clauses rs atoms clause l a b named brought is =
    is
    ∙ ap (list_any (is_set_of clause)) (sym (clauses_over rs l.atom a))
    ∙ sym (or-false (list_any (is_set_of clause) (clauses_of l.atom (over rs a))))
    ∙ ap (λ t. list_any (is_set_of clause) (clauses_of l.atom (over rs a)) || t)
    (sym (no_link rs (atoms_in rs atoms) clause l a brought))
    ∙ sym (gate_at rs atoms clause l a named)

pub by_conjunction : (rs : List Regex) (atoms : List (AtomOver ℕ)) (clause : List Lit) (l : Lit) (ls : List Lit)
    (b : Bool) → Names atoms l.atom (and_atom ls) → has_both_signs clause ≡ false → is_among clause l ≡ true
    → b ≡ (if l.positive then is_set_of clause (l ∷ map negation ls)
    else list_any (λ m. is_set_of clause (l ∷ m ∷ [])) ls)
    → b ≡ is_gate_of (atoms_in rs atoms) clause l (atom_of (atoms_in rs atoms) l)
by_conjunction rs atoms clause l ls b named none among is =
    by_clauses rs atoms clause l (and_atom ls) b named refl
    (is ∙ by_sign clause l.atom l.positive ls (other_sign clause l none among))

-- The literals are tested one by one.

pub among_itself : (ls : List Lit) (i : ℕ) (d : Lit) → i < length ls → is_among ls (get_or ls i d) ≡ true
among_itself [] i d low = absurd (omega (arith, low))
among_itself (l ∷ ls) zero d low = or_left (is_same_literal l l) (is_among ls l) (is_same_literal-self l)
among_itself (l ∷ ls) (suc i) d low =
    or_right (is_same_literal l (get_or ls i d)) (is_among ls (get_or ls i d))
    (among_itself ls i d (omega (arith, low)))

pub any_there : {A : Type 0} (test : A → Bool) (ls : List A) (i : ℕ) (d : A) (both b : Bool) → i < length ls
    → list_any test (drop i ls) ≡ list_any test ls → b ≡ test (get_or ls i d) → b ≡ true
    → true ≡ (both || list_any test ls)
any_there test ls i d both b low so is holds =
    sym (or-right both (list_any test ls)
    (sym so
    ∙ at_drop_more (list_any test) ls i d low
    ∙ ap (λ t. t || list_any test (drop (i + 1) ls)) (sym is ∙ holds)))

pub any_more : {A : Type 0} (test : A → Bool) (ls : List A) (i : ℕ) (d : A) (b : Bool) → i < length ls
    → list_any test (drop i ls) ≡ list_any test ls → b ≡ test (get_or ls i d) → b ≡ false
    → list_any test (drop (i + 1) ls) ≡ list_any test ls
any_more test ls i d b low so is fails =
    sym (sym so
    ∙ at_drop_more (list_any test) ls i d low
    ∙ ap (λ t. t || list_any test (drop (i + 1) ls)) (sym is ∙ fails))

pub any_none : {A : Type 0} (test : A → Bool) (ls : List A) (i : ℕ) (both : Bool) → length ls ≤ i
    → list_any test (drop i ls) ≡ list_any test ls → both ≡ false → false ≡ (both || list_any test ls)
any_none test ls i both past so none =
    sym (ap₂ (λ a b. a || b) none (sym so ∙ at_drop_all (list_any test) ls i past))

-- what is made of a line by rule gate, of known atoms that ascend
pub by_rule_gate : (asked : Asked) (k : Kept) (others : AllKept) (ls : List Lit) (b : Bool)
    → list_all (λ m. nat_lt m.atom (length k.atoms)) ls ≡ true → are_ascending ls ≡ true
    → b ≡ is_gate (atoms_in k.arena k.atoms) ls
    → follows asked (kept_in k others) (rule_line lines.gate ls)
    ≡ (if not b then Err rule_broken else Ok (with_clause (kept_in k others) ls 0 []))
by_rule_gate asked k others ls b known ascend is =
    ap (λ t. if not t then Err unknown_id
    else if not (are_ascending ls && is_gate (atoms_in k.arena k.atoms) ls) then Err rule_broken
    else Ok (with_clause (kept_in k others) ls 0 []))
    (ap (λ n. list_all (λ m. nat_lt m.atom n) ls) (length-map k.atoms (over k.arena)) ∙ known)
    ∙ (ap (λ t. if not (t && is_gate (atoms_in k.arena k.atoms) ls) then Err rule_broken
    else Ok (with_clause (kept_in k others) ls 0 [])) ascend
    ∙ ap (λ t. if not t then Err rule_broken else Ok (with_clause (kept_in k others) ls 0 [])) (sym is))

-- A clause by a rule that is not brought is refused by rule.

no_other : (asked : Asked) (kept after : AllKept) (a b c : Bool)
    → not_brought (if a then Err repeated else if b then Err rule_broken
    else if c then counting asked after else Ok after) ≡ Err rule_broken
no_other asked kept after true b c = refl
no_other asked kept after false true c = refl
no_other asked kept after false false false = refl
no_other asked kept after false false true = counted (nat_lt after.counted (most_counted asked))
  where
    counted : (t : Bool)
        → not_brought (if t then Ok (record after { counted = after.counted + 1 }) else Err wrong_verdict)
        ≡ Err rule_broken
    counted true = refl
    counted false = refl

pub by_other_rule : (asked : Asked) (k : Kept) (others : AllKept) (ls : List Lit) (rule : Rule)
    → list_all (λ m. nat_lt m.atom (length k.atoms)) ls ≡ true → is_brought_rule rule ls ≡ false
    → follows asked (kept_in k others) (rule_line rule ls) ≡ Err rule_broken
by_other_rule asked k others ls rule known is =
    ap (λ (t : Bool). if t then follows_rule asked (kept_in k others) rule ls
    else not_brought (follows_rule asked (kept_in k others) rule ls)) is
    ∙ (ap (λ t. not_brought (if not t then Err unknown_id
    else if is_counted rule && is_repeated k.clauses ls then Err repeated
    else if not (are_ascending ls && holds_by (kept_in k others) rule ls) then Err rule_broken
    else if is_counted rule then counting asked (with_clause (kept_in k others) ls 0 [])
    else Ok (with_clause (kept_in k others) ls 0 [])))
    (ap (λ n. list_all (λ m. nat_lt m.atom n) ls) (length-map k.atoms (over k.arena)) ∙ known)
    ∙ no_other asked (kept_in k others) (with_clause (kept_in k others) ls 0 [])
    (is_counted rule && is_repeated k.clauses ls) (not (are_ascending ls && holds_by (kept_in k others) rule ls))
    (is_counted rule))
