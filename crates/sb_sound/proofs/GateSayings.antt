-- The clauses of an atom say that it is as true as what it says of its literals, and each begins with its literal.
use Rattle.std.proofs.Common.{◌≡◌, ℕ, Bool, true, false, not, ◌&&◌, ◌||◌, ◌==◌, List, [], ◌∷◌, ◌++◌, map, refl, ap, ap₂, ◌∙◌}
use Rattle.std.specs.List.{list_all, list_any}
use Rattle.std.proofs.Math.Bool.{and-true}
use Rattle.std.proofs.lemmas.Bool.{and_from, eq-eqb}
use Rattle.std.proofs.lemmas.List.Folds.{list_all-append}
use Rattle.sb_lit.specs.declared.clause.Lit.{Lit}
use Rattle.sb_lit.specs.Clauses.{negation}
use Rattle.sb_rulebook.specs.Atoms.{AtomOver, bool_atom, in_atom, le_atom, sum_atom, and_atom, iff_atom, literal_holds}
use Rattle.sb_rulebook.specs.Gates.{gate, clauses_of}
use Rattle.sb_sound.specs.GateLaws.{all_hold, are_alike, is_as_it_says}
use Rattle.sb_sound.proofs.ClauseSets.{literal_holds-negation, any_negated}

-- Of a conjunction.

or_always : (g : Bool) → true ≡ (g || true)
or_always true = refl
or_always false = refl

or_both : (g l a : Bool) → ((g || (l || false)) && (g || a)) ≡ (g || (l && a))
or_both true l a = refl
or_both false true a = refl
or_both false false a = refl

parts_say : (truths : List Bool) (g : ℕ) (ls : List Lit)
    → all_hold truths (map (λ l. gate g false ∷ l ∷ []) ls)
    ≡ (not (literal_holds truths (gate g true)) || list_all (literal_holds truths) ls)
parts_say truths g [] = or_always (not (literal_holds truths (gate g true)))
parts_say truths g (l ∷ ls) =
    ap (λ b. (not (literal_holds truths (gate g true)) || (literal_holds truths l || false)) && b) (parts_say truths g ls)
    ∙ or_both (not (literal_holds truths (gate g true))) (literal_holds truths l) (list_all (literal_holds truths) ls)

both_ways : (g a : Bool) → ((not g || a) && (g || not a)) ≡ are_alike g a
both_ways true true = refl
both_ways true false = refl
both_ways false true = refl
both_ways false false = refl

and_says : (truths : List Bool) (g : ℕ) (ls : List Lit)
    → all_hold truths (map (λ l. gate g false ∷ l ∷ []) ls ++ (gate g true ∷ map negation ls) ∷ [])
    ≡ are_alike (literal_holds truths (gate g true)) (list_all (literal_holds truths) ls)
and_says truths g ls =
    list_all-append (list_any (literal_holds truths)) (map (λ l. gate g false ∷ l ∷ []) ls)
    ((gate g true ∷ map negation ls) ∷ [])
    ∙ ap₂ (λ a b. a && b) (parts_say truths g ls)
    (and-true (list_any (literal_holds truths) (gate g true ∷ map negation ls))
    ∙ ap (λ b. literal_holds truths (gate g true) || b) (any_negated truths ls))
    ∙ both_ways (literal_holds truths (gate g true)) (list_all (literal_holds truths) ls)

-- Of an equivalence.

all_four : (g l m : Bool)
    → ((g || (l || (m || false))) && ((g || (not l || (not m || false)))
    && ((not g || (not l || (m || false))) && ((not g || (l || (not m || false))) && true))))
    ≡ are_alike g (are_alike l m)
all_four true true true = refl
all_four true true false = refl
all_four true false true = refl
all_four true false false = refl
all_four false true true = refl
all_four false true false = refl
all_four false false true = refl
all_four false false false = refl

four_say : (g l m n k : Bool) → n ≡ not l → k ≡ not m
    → ((g || (l || (m || false))) && ((g || (n || (k || false)))
    && ((not g || (n || (m || false))) && ((not g || (l || (k || false))) && true))))
    ≡ are_alike g (are_alike l m)
four_say g l m n k e f = rw (e, f) (all_four g l m)

iff_says : (truths : List Bool) (g : ℕ) (l m : Lit)
    → all_hold truths ((gate g true ∷ l ∷ m ∷ []) ∷ (gate g true ∷ negation l ∷ negation m ∷ [])
    ∷ (gate g false ∷ negation l ∷ m ∷ []) ∷ (gate g false ∷ l ∷ negation m ∷ []) ∷ [])
    ≡ are_alike (literal_holds truths (gate g true)) (are_alike (literal_holds truths l) (literal_holds truths m))
iff_says truths g l m =
    four_say (literal_holds truths (gate g true)) (literal_holds truths l) (literal_holds truths m)
    (literal_holds truths (negation l)) (literal_holds truths (negation m)) (literal_holds-negation truths l)
    (literal_holds-negation truths m)

-- Of any atom.

pub clauses_say : {R : Type 0} (truths : List Bool) (g : ℕ) (a : AtomOver R)
    → all_hold truths (clauses_of g a) ≡ is_as_it_says truths g a
clauses_say truths g (bool_atom serial) = refl
clauses_say truths g (in_atom ps r) = refl
clauses_say truths g (le_atom x k) = refl
clauses_say truths g (sum_atom k ss) = refl
clauses_say truths g (and_atom ls) = and_says truths g ls
clauses_say truths g (iff_atom l m) = iff_says truths g l m

-- the first literal is of the atom
abbrev pub is_first : ℕ → List Lit → Bool
is_first g [] = false
is_first g (l ∷ ls) = g == l.atom

parts_begin : (g : ℕ) (ls : List Lit) → list_all (is_first g) (map (λ l. gate g false ∷ l ∷ []) ls) ≡ true
parts_begin g [] = refl
parts_begin g (l ∷ ls) =
    and_from (g == g) (list_all (is_first g) (map (λ l. gate g false ∷ l ∷ []) ls)) (eq-eqb g g refl) (parts_begin g ls)

pub clauses_begin : {R : Type 0} (g : ℕ) (a : AtomOver R) → list_all (is_first g) (clauses_of g a) ≡ true
clauses_begin g (bool_atom serial) = refl
clauses_begin g (in_atom ps r) = refl
clauses_begin g (le_atom x k) = refl
clauses_begin g (sum_atom k ss) = refl
clauses_begin g (and_atom ls) =
    list_all-append (is_first g) (map (λ l. gate g false ∷ l ∷ []) ls) ((gate g true ∷ map negation ls) ∷ [])
    ∙ and_from (list_all (is_first g) (map (λ l. gate g false ∷ l ∷ []) ls)) ((g == g) && true) (parts_begin g ls)
    (and_from (g == g) true (eq-eqb g g refl) refl)
clauses_begin g (iff_atom l m) = rw (eq-eqb g g refl) refl
