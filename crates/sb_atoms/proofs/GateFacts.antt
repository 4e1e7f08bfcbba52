-- The clauses of gates are gates, in order.
use Rattle.std.proofs.Common.{◌≡◌, ℕ, ◌+◌, ◌<◌, Bool, true, false, ◌||◌, if◌then◌else◌, List, [], ◌∷◌, ◌++◌, length, map, take, get_or, option_map, refl, sym, ap, ap₂, subst, ◌∙◌}
use Rattle.std.specs.List.{list_all, list_any, flat_map, Contains}
use Rattle.std.specs.Ordering.{match_ordering}
use Rattle.std.specs.declared.cmp.Ordering.{Ordering}
use Rattle.std.specs.declared.cmp.Ordering.TheVariants.{Less, Equal, Greater}
use Rattle.std.proofs.lemmas.Bool.{and_parts, and_from}
use Rattle.std.proofs.lemmas.List.{flat_map_more, take_more}
use Rattle.std.proofs.lemmas.List.Folds.{list_all-append}
use Rattle.std.proofs.lemmas.Option.{slice_get-map, slice_get-get_or, get_or_from_slice_get}
use Rattle.sb_facts.proofs.CallerLemmas.{or_swap}
use Rattle.sb_lang.specs.Regex.{Regex}
use Rattle.sb_lit.specs.declared.clause.Lit.{Lit}
use Rattle.sb_lit.specs.Clauses.{are_ascending, are_among, is_among, is_same_literal, literal_order}
use Rattle.sb_lit.proofs.CallerLemmas.{all_from_among}
use Rattle.sb_rulebook.specs.Atoms.{AtomOver, bool_atom, in_atom, le_atom, sum_atom, and_atom, iff_atom}
use Rattle.sb_rulebook.specs.Gates.{gate, clauses_of, is_gate, is_set_of}
use Rattle.sb_rulebook.specs.Translation.{in_order, with_literal}
use Rattle.sb_sound.proofs.CallerLemmas.{same_literal, all_from, said_gate}
use Rattle.sb_atoms.specs.Numbered.{Names, over, atoms_in}
use Rattle.sb_atoms.specs.GateClauses.{atom_at, clause_of, gate_clauses, is_trivial}
use Rattle.sb_atoms.proofs.Gathering.{mapped-more}
use Rattle.sb_atoms.proofs.Ordered.{order_ascends}

-- Literals in order are the same literals.

abbrev by_order : Ordering → Lit → Lit → List Lit → List Lit
by_order o l m ms = match_ordering o (l ∷ m ∷ ms) (m ∷ ms) (m ∷ with_literal l ms)

twice : (a c : Bool) → (a || c) ≡ (a || (a || c))
twice true c = refl
twice false c = refl

any_with : (p : Lit → Bool) (l : Lit) (ls : List Lit) → list_any p (with_literal l ls) ≡ list_any p (l ∷ ls)
any_with p l [] = refl
any_with p l (m ∷ ms) = step (literal_order l m) refl (any_with p l ms)
  where
    step : (o : Ordering) → literal_order l m ≡ o → list_any p (with_literal l ms) ≡ list_any p (l ∷ ms)
        → list_any p (by_order o l m ms) ≡ list_any p (l ∷ m ∷ ms)
    step Less e rest = refl
    step Equal e rest = twice (p m) (list_any p ms) ∙ ap (λ x. p x || (p m || list_any p ms)) (sym (same_literal l m e))
    step Greater e rest = ap (λ b. p m || b) rest ∙ or_swap (p m) (p l) (list_any p ms)

pub any_order : (p : Lit → Bool) (ls : List Lit) → list_any p (in_order ls) ≡ list_any p ls
any_order p [] = refl
any_order p (l ∷ ls) = any_with p l (in_order ls) ∙ ap (λ b. p l || b) (any_order p ls)

among_order : (ls : List Lit) (k : Lit) → is_among (in_order ls) k ≡ is_among ls k
among_order ls k = any_order (λ m. is_same_literal m k) ls

set_of_order : (ls : List Lit) → is_set_of (in_order ls) ls ≡ true
set_of_order ls =
    and_from (are_among (in_order ls) ls) (are_among ls (in_order ls))
    (all_from_among (is_among ls) (in_order ls) (λ l h. sym (among_order ls l) ∙ h))
    (all_from_among (is_among (in_order ls)) ls (λ l h. among_order ls l ∙ h))

-- What holds of each clause in order holds of those that are kept.

pub all_ordered : (test : List Lit → Bool) (cs : List (List Lit)) → list_all (λ c. test (in_order c)) cs ≡ true
    → list_all test (flat_map clause_of cs) ≡ true
all_ordered test [] h = refl
all_ordered test (c ∷ cs) h =
    let p = and_parts (test (in_order c)) (list_all (λ d. test (in_order d)) cs) h in
    list_all-append test (clause_of c) (flat_map clause_of cs)
    ∙ and_from (list_all test (clause_of c)) (list_all test (flat_map clause_of cs)) (one (is_trivial (in_order c)) p.0)
    (all_ordered test cs p.1)
  where
    one : (b : Bool) → test (in_order c) ≡ true → list_all test (if b then [] else in_order c ∷ []) ≡ true
    one true is = refl
    one false is = and_from (test (in_order c)) true is refl

pub all_ascend : (cs : List (List Lit)) → list_all are_ascending (flat_map clause_of cs) ≡ true
all_ascend cs = all_ordered are_ascending cs (all_from (λ c. are_ascending (in_order c)) cs (λ c among. order_ascends c))

-- The clauses of an atom are the same over the regexes.

pub clauses_over : (rs : List Regex) (g : ℕ) (a : AtomOver ℕ) → clauses_of g (over rs a) ≡ clauses_of g a
clauses_over rs g (bool_atom serial) = refl
clauses_over rs g (in_atom ps r) = refl
clauses_over rs g (le_atom x k) = refl
clauses_over rs g (sum_atom k ss) = refl
clauses_over rs g (and_atom ls) = refl
clauses_over rs g (iff_atom l m) = refl

pub all_gates : (rs : List Regex) (atoms : List (AtomOver ℕ)) (g : ℕ) (a : AtomOver ℕ) → Names atoms g a
    → list_all (is_gate (atoms_in rs atoms)) (gate_clauses g a) ≡ true
all_gates rs atoms g a h =
    all_ordered (is_gate (atoms_in rs atoms)) (clauses_of g a)
    (all_from (λ c. is_gate (atoms_in rs atoms) (in_order c)) (clauses_of g a) (λ c among.
    said_gate (atoms_in rs atoms) (in_order c) g (over rs a) c
    (slice_get-map (over rs) atoms g ∙ ap (option_map (over rs)) h)
    (subst (λ (cs : List (List Lit)). Contains cs c) (sym (clauses_over rs g a)) among) (set_of_order c)))

-- What is put.

pub names_at : (atoms : List (AtomOver ℕ)) (g : ℕ) (a : AtomOver ℕ) → Names atoms g a → atom_at atoms g ≡ a
names_at atoms g a h = get_or_from_slice_get atoms g a (bool_atom 0) h

pub names_there : (atoms : List (AtomOver ℕ)) (g : ℕ) → g < length atoms → Names atoms g (atom_at atoms g)
names_there atoms g low = slice_get-get_or atoms g (bool_atom 0) low

-- one more literal of a conjunction
pub part_more : (g : ℕ) (ls : List Lit) (i : ℕ) (d h : Lit) (old now new : List (List Lit)) → i < length ls
    → now ≡ old ++ map (λ l. gate g false ∷ l ∷ []) (take i ls) → h ≡ gate g false
    → new ≡ now ++ (h ∷ get_or ls i d ∷ []) ∷ [] → new ≡ old ++ map (λ l. gate g false ∷ l ∷ []) (take (i + 1) ls)
part_more g ls i d h old now new within before is put =
    mapped-more (λ l. gate g false ∷ l ∷ []) ls i d old now new (h ∷ get_or ls i d ∷ []) within before
    (ap (λ (k : Lit). k ∷ get_or ls i d ∷ []) is) put

-- one more clause of those that are said
pub ordered_step : (cs : List (List Lit)) (i : ℕ) (d c : List Lit) (now new : List (List Lit)) → i < length cs
    → c ≡ get_or cs i d → now ≡ flat_map clause_of (take i cs) → new ≡ now ++ clause_of c
    → new ≡ flat_map clause_of (take (i + 1) cs)
ordered_step cs i d c now new within is before put =
    put
    ∙ ap₂ (λ (all : List (List Lit)) (ls : List Lit). all ++ clause_of ls) before is
    ∙ flat_map_more clause_of [] (take i cs) (get_or cs i d)
    ∙ ap (flat_map clause_of) (sym (take_more cs i d within))
