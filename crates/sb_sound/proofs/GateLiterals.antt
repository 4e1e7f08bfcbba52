-- The literals of conjunctions, of what is made of them, and of equivalences: what they say of their parts.
use Rattle.std.proofs.Common.{◌≡◌, ℕ, Bool, true, false, not, cond, ◌&&◌, ◌||◌, ◌==◌, nat_lt, if◌then◌else◌, List, [], ◌∷◌, map, Option, Some, None, option_map, option_and_then, refl, sym, ap, ap₂, ◌∙◌}
use Rattle.std.specs.List.{list_all}
use Rattle.std.specs.declared.cmp.Ordering.{Ordering}
use Rattle.std.specs.declared.cmp.Ordering.TheVariants.{Less, Equal, Greater}
use Rattle.std.specs.Ordering.{nat_cmp, bool_cmp, ordering_then, is_gt, match_ordering}
use Rattle.std.proofs.Math.Bool.{and-true, not-not}
use Rattle.std.proofs.lemmas.Bool.{eqb-true}
use Rattle.sb_lit.specs.declared.clause.Lit.{Lit}
use Rattle.sb_lit.specs.Clauses.{negation, literal_order}
use Rattle.sb_lit.proofs.CallerLemmas.{literal_of_parts}
use Rattle.sb_meaning.specs.Values.{Valuation}
use Rattle.sb_meaning.specs.Truth.{all_true, some_true, implied, differs, xor_from, xor_of}
use Rattle.sb_rulebook.specs.Atoms.{Atom, and_atom, iff_atom, literal_holds, truths_of}
use Rattle.sb_rulebook.specs.Parts.{together}
use Rattle.sb_rulebook.specs.Translation.{positive, negated, with_literal, in_order, conjunction_of, conjunction, disjunction, implication, equivalence, implications, exclusive_from, exclusive, choice}
use Rattle.sb_sound.proofs.ClauseSets.{literal_holds-negation}
use Rattle.sb_sound.proofs.AtomLiterals.{HasAtomsTruth}

-- the truth of a literal
abbrev pub T : Valuation → List Atom → Lit → Bool
T v atoms = literal_holds (truths_of v atoms)

-- the literal, where there is one, has this truth
abbrev pub Says : Valuation → List Atom → Option Lit → Bool → Type 0
Says v atoms o b = (l : Lit) → o ≡ Some l → T v atoms l ≡ b

pub says_itself : (v : Valuation) (atoms : List Atom) (l : Lit) → Says v atoms (Some l) (T v atoms l)
says_itself v atoms l m e = ap (T v atoms) (same l m e)
  where
    same : (l m : Lit) → Some l ≡ Some m → m ≡ l
    same l m e = cc

pub says_other : (v : Valuation) (atoms : List Atom) (o : Option Lit) (b c : Bool) → b ≡ c → Says v atoms o b
    → Says v atoms o c
says_other v atoms o b c same says l e = says l e ∙ same

pub says_nothing : (v : Valuation) (atoms : List Atom) (b : Bool) → Says v atoms None b
says_nothing v atoms b l e = absurd (Prim.cc (e))

pub says_negated : (v : Valuation) (atoms : List Atom) (o : Option Lit) (b : Bool) → Says v atoms o b
    → Says v atoms (negated o) (not b)
says_negated v atoms None b says l e = absurd (Prim.cc (e))
says_negated v atoms (Some m) b says l e =
    ap (T v atoms) (same (negation m) l e) ∙ literal_holds-negation (truths_of v atoms) m ∙ ap not (says m refl)
  where
    same : (m l : Lit) → Some m ≡ Some l → l ≡ m
    same m l e = cc

pub says_then : {A : Type 0} (v : Valuation) (atoms : List Atom) (f : A → Option Lit) (o : Option A) (b : Bool)
    → ((x : A) → o ≡ Some x → Says v atoms (f x) b) → Says v atoms (option_and_then f o) b
says_then v atoms f None b says l e = absurd (Prim.cc (e))
says_then v atoms f (Some x) b says l e = says x refl l e

-- The literals in order.

same_place : (a b : ℕ) → nat_cmp a b ≡ Equal → a ≡ b
same_place a b h = step (nat_lt a b) h
  where
    last : (c : Bool) → (a == b) ≡ c → cond c Equal Greater ≡ Equal → a ≡ b
    last true e h = eqb-true a b e
    last false e h = absurd (Prim.cc (h))

    step : (c : Bool) → cond c Less (cond (a == b) Equal Greater) ≡ Equal → a ≡ b
    step true h = absurd (Prim.cc (h))
    step false h = last (a == b) refl h

same_sign : (p q : Bool) → bool_cmp q p ≡ Equal → p ≡ q
same_sign true true h = refl
same_sign true false h = absurd (Prim.cc (h))
same_sign false true h = absurd (Prim.cc (h))
same_sign false false h = refl

then_parts : (x y : Ordering) → ordering_then x y ≡ Equal → (x ≡ Equal) × (y ≡ Equal)
then_parts Equal y h = (refl, h)
then_parts Less y h = absurd (Prim.cc (h))
then_parts Greater y h = absurd (Prim.cc (h))

pub same_literal : (l m : Lit) → literal_order l m ≡ Equal → l ≡ m
same_literal l m h =
    let parts = then_parts (nat_cmp l.atom m.atom) (bool_cmp m.positive l.positive) h in
    literal_of_parts l.atom m.atom l.positive m.positive (same_place l.atom m.atom parts.0)
    (same_sign l.positive m.positive parts.1)

and_swap : (a b c : Bool) → (b && (a && c)) ≡ (a && (b && c))
and_swap true b c = refl
and_swap false true c = refl
and_swap false false c = refl

and_once : (a c : Bool) → (a && c) ≡ (a && (a && c))
and_once true c = refl
and_once false c = refl

all_with : (p : Lit → Bool) (l : Lit) (ms : List Lit) → list_all p (with_literal l ms) ≡ (p l && list_all p ms)
all_with p l [] = refl
all_with p l (m ∷ ms) = step (literal_order l m) refl (all_with p l ms)
  where
    step : (o : Ordering) → literal_order l m ≡ o → list_all p (with_literal l ms) ≡ (p l && list_all p ms)
        → list_all p (match_ordering o (l ∷ m ∷ ms) (m ∷ ms) (m ∷ with_literal l ms))
        ≡ (p l && (p m && list_all p ms))
    step Less e later = refl
    step Equal e later =
        and_once (p m) (list_all p ms) ∙ ap (λ x. p x && (p m && list_all p ms)) (sym (same_literal l m e))
    step Greater e later = ap (λ b. p m && b) later ∙ and_swap (p l) (p m) (list_all p ms)

all_in_order : (p : Lit → Bool) (ls : List Lit) → list_all p (in_order ls) ≡ list_all p ls
all_in_order p [] = refl
all_in_order p (l ∷ ls) = all_with p l (in_order ls) ∙ ap (λ b. p l && b) (all_in_order p ls)

-- Conjunctions, and what is made of them.

conjunction_of_says : (v : Valuation) (atoms : List Atom) → HasAtomsTruth v atoms → (ls : List Lit)
    → Says v atoms (conjunction_of atoms ls) (list_all (T v atoms) ls)
conjunction_of_says v atoms truth [] l e = truth (and_atom []) l e
conjunction_of_says v atoms truth (m ∷ []) l e = says_itself v atoms m l e ∙ sym (and-true (T v atoms m))
conjunction_of_says v atoms truth (m ∷ n ∷ ls) l e = truth (and_atom (m ∷ n ∷ ls)) l e

pub conjunction_says : (v : Valuation) (atoms : List Atom) → HasAtomsTruth v atoms → (ls : List Lit)
    → Says v atoms (conjunction atoms ls) (list_all (T v atoms) ls)
conjunction_says v atoms truth ls l e =
    conjunction_of_says v atoms truth (in_order ls) l e ∙ all_in_order (T v atoms) ls

pub all_true_literals : (p : Lit → Bool) (ls : List Lit) → list_all p ls ≡ all_true (map p ls)
all_true_literals p [] = refl
all_true_literals p (l ∷ ls) = ap (λ b. p l && b) (all_true_literals p ls)

not_and : (a b : Bool) → not (not a && b) ≡ (a || not b)
not_and true b = refl
not_and false b = refl

some_true_literals : (v : Valuation) (atoms : List Atom) (ls : List Lit)
    → not (list_all (T v atoms) (map negation ls)) ≡ some_true (map (T v atoms) ls)
some_true_literals v atoms [] = refl
some_true_literals v atoms (l ∷ ls) =
    ap (λ b. not (b && list_all (T v atoms) (map negation ls))) (literal_holds-negation (truths_of v atoms) l)
    ∙ not_and (T v atoms l) (list_all (T v atoms) (map negation ls))
    ∙ ap (λ b. T v atoms l || b) (some_true_literals v atoms ls)

pub disjunction_says : (v : Valuation) (atoms : List Atom) → HasAtomsTruth v atoms → (ls : List Lit)
    → Says v atoms (disjunction atoms ls) (some_true (map (T v atoms) ls))
disjunction_says v atoms truth ls l e =
    says_negated v atoms (conjunction atoms (map negation ls)) (list_all (T v atoms) (map negation ls))
    (conjunction_says v atoms truth (map negation ls)) l e
    ∙ some_true_literals v atoms ls

not_second : (a b : Bool) → not (a && (not b && true)) ≡ (not a || b)
not_second true true = refl
not_second true false = refl
not_second false b = refl

implication_says : (v : Valuation) (atoms : List Atom) → HasAtomsTruth v atoms → (l m : Lit)
    → Says v atoms (implication atoms l m) (not (T v atoms l) || T v atoms m)
implication_says v atoms truth l m k e =
    says_negated v atoms (conjunction atoms (l ∷ negation m ∷ [])) (list_all (T v atoms) (l ∷ negation m ∷ []))
    (conjunction_says v atoms truth (l ∷ negation m ∷ [])) k e
    ∙ ap (λ b. not (T v atoms l && (b && true))) (literal_holds-negation (truths_of v atoms) m)
    ∙ not_second (T v atoms l) (T v atoms m)

pub implications_say : (v : Valuation) (atoms : List Atom) → HasAtomsTruth v atoms → (ls : List Lit)
    → Says v atoms (implications atoms ls) (implied (map (T v atoms) ls))
implications_say v atoms truth [] = says_nothing v atoms true
implications_say v atoms truth (l ∷ []) = says_itself v atoms l
implications_say v atoms truth (l ∷ m ∷ ms) =
    says_then v atoms (implication atoms l) (implications atoms (m ∷ ms)) (implied (map (T v atoms) (l ∷ m ∷ ms)))
    (λ k e. says_other v atoms (implication atoms l k) (not (T v atoms l) || T v atoms k)
    (not (T v atoms l) || implied (map (T v atoms) (m ∷ ms)))
    (ap (λ b. not (T v atoms l) || b) (implications_say v atoms truth (m ∷ ms) k e))
    (implication_says v atoms truth l k))

iff_turned : (a b : Bool) → (if a then b else not b) ≡ (if b then a else not a)
iff_turned true true = refl
iff_turned true false = refl
iff_turned false true = refl
iff_turned false false = refl

iff_differs : (a b : Bool) → (if a then b else not b) ≡ not (differs a b)
iff_differs true b = sym (not-not b)
iff_differs false b = refl

pub equivalence_says : (v : Valuation) (atoms : List Atom) → HasAtomsTruth v atoms → (l m : Lit)
    → Says v atoms (equivalence atoms l m) (not (differs (T v atoms l) (T v atoms m)))
equivalence_says v atoms truth l m k e = step (is_gt (literal_order l m)) e ∙ iff_differs (T v atoms l) (T v atoms m)
  where
    step : (b : Bool) → positive atoms (if b then iff_atom m l else iff_atom l m) ≡ Some k
        → T v atoms k ≡ (if T v atoms l then T v atoms m else not (T v atoms m))
    step true e = truth (iff_atom m l) k e ∙ iff_turned (T v atoms m) (T v atoms l)
    step false e = truth (iff_atom l m) k e

exclusive_from_says : (v : Valuation) (atoms : List Atom) → HasAtomsTruth v atoms → (l : Lit) (ms : List Lit)
    → Says v atoms (exclusive_from atoms l ms) (xor_from (T v atoms l) (map (T v atoms) ms))
exclusive_from_says v atoms truth l [] = says_itself v atoms l
exclusive_from_says v atoms truth l (m ∷ ms) =
    says_then v atoms (λ k. exclusive_from atoms k ms) (negated (equivalence atoms l m))
    (xor_from (differs (T v atoms l) (T v atoms m)) (map (T v atoms) ms))
    (λ k e. says_other v atoms (exclusive_from atoms k ms) (xor_from (T v atoms k) (map (T v atoms) ms))
    (xor_from (differs (T v atoms l) (T v atoms m)) (map (T v atoms) ms))
    (ap (λ b. xor_from b (map (T v atoms) ms)) (differs_says k e))
    (exclusive_from_says v atoms truth k ms))
  where
    differs_says : (k : Lit) → negated (equivalence atoms l m) ≡ Some k
        → T v atoms k ≡ differs (T v atoms l) (T v atoms m)
    differs_says k e =
        says_negated v atoms (equivalence atoms l m) (not (differs (T v atoms l) (T v atoms m)))
        (equivalence_says v atoms truth l m) k e
        ∙ not-not (differs (T v atoms l) (T v atoms m))

pub exclusive_says : (v : Valuation) (atoms : List Atom) → HasAtomsTruth v atoms → (ls : List Lit)
    → Says v atoms (exclusive atoms ls) (xor_of (map (T v atoms) ls))
exclusive_says v atoms truth [] = says_nothing v atoms false
exclusive_says v atoms truth (l ∷ ls) = exclusive_from_says v atoms truth l ls

-- Literals of options that all are there.

-- what the first one is, and the others
pub record Front {A : Type 0} (o : Option A) (os : List (Option A)) (xs : List A) : Type 0 where
  pub one : A
  pub others : List A
  pub first : o ≡ Some one
  pub later : together os ≡ Some others
  pub whole : xs ≡ one ∷ others

pub front : {A : Type 0} (o : Option A) (os : List (Option A)) (xs : List A) → together (o ∷ os) ≡ Some xs
    → Front o os xs
front {A = A} None os xs h = absurd (Prim.cc (h))
front {A = A} (Some x) os xs h = step (together os) refl h
  where
    step : (r : Option (List A)) → together os ≡ r → option_map (λ others. x ∷ others) r ≡ Some xs
        → Front (Some x) os xs
    step None e g = absurd (Prim.cc (g))
    step (Some others) e g =
        record { one = x; others = others; first = refl; later = e; whole = sym (same (x ∷ others) xs g) }
      where
        same : (u w : List A) → Some u ≡ Some w → u ≡ w
        same u w e = cc

pub nothing_together : {A : Type 0} (xs : List A) → together [] ≡ Some xs → xs ≡ []
nothing_together xs h = cc

-- all of them are true, where each says so
abbrev pub SayEach : Valuation → List Atom → List (Option Lit) → Bool → Type 0
SayEach v atoms os b = (ls : List Lit) → together os ≡ Some ls → list_all (T v atoms) ls ≡ b

pub say_none : (v : Valuation) (atoms : List Atom) → SayEach v atoms [] true
say_none v atoms ls e = ap (list_all (T v atoms)) (nothing_together ls e)

pub say_one : (v : Valuation) (atoms : List Atom) (o : Option Lit) (os : List (Option Lit)) (b c : Bool)
    → Says v atoms o b → SayEach v atoms os c → SayEach v atoms (o ∷ os) (b && c)
say_one v atoms o os b c says rest ls e =
    let f = front o os ls e in
    ap (list_all (T v atoms)) f.whole ∙ ap₂ ◌&&◌ (says f.one f.first) (rest f.others f.later)

pub all_say : (v : Valuation) (atoms : List Atom) → HasAtomsTruth v atoms → (os : List (Option Lit)) (b : Bool)
    → SayEach v atoms os b → Says v atoms (option_and_then (conjunction atoms) (together os)) b
all_say v atoms truth os b each =
    says_then v atoms (conjunction atoms) (together os) b
    (λ ls e l f. conjunction_says v atoms truth ls l f ∙ each ls e)

-- the second where the first is true, else the third

choose : (c a b : Bool) → ((not c || a) && ((not (not c) || b) && true)) ≡ (if c then a else b)
choose true a b = and-true a
choose false a b = and-true b

pub choice_says : (v : Valuation) (atoms : List Atom) → HasAtomsTruth v atoms → (c l m : Lit)
    → Says v atoms (choice atoms (c ∷ l ∷ m ∷ [])) (if T v atoms c then T v atoms l else T v atoms m)
choice_says v atoms truth c l m =
    let p = T v atoms in
    says_other v atoms (choice atoms (c ∷ l ∷ m ∷ []))
    ((not (p c) || p l) && ((not (not (p c)) || p m) && true)) (if p c then p l else p m)
    (choose (p c) (p l) (p m))
    (all_say v atoms truth (implication atoms c l ∷ implication atoms (negation c) m ∷ [])
    ((not (p c) || p l) && ((not (not (p c)) || p m) && true))
    (say_one v atoms (implication atoms c l) (implication atoms (negation c) m ∷ []) (not (p c) || p l)
    ((not (not (p c)) || p m) && true) (implication_says v atoms truth c l)
    (say_one v atoms (implication atoms (negation c) m) [] (not (not (p c)) || p m) true
    (says_other v atoms (implication atoms (negation c) m) (not (p (negation c)) || p m) (not (not (p c)) || p m)
    (ap (λ b. not b || p m) (literal_holds-negation (truths_of v atoms) c))
    (implication_says v atoms truth (negation c) m))
    (say_none v atoms))))
