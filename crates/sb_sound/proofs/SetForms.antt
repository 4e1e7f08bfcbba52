-- The tests of sets of literals, as statements.
use Rattle.std.proofs.Common.{◌≡◌, Bool, true, false, not, if◌then◌else◌, List, ◌∷◌, refl, subst}
use Rattle.std.specs.List.{Contains}
use Rattle.std.proofs.lemmas.Bool.{and_parts, and_from, false≢true}
use Rattle.sb_lit.specs.declared.clause.Lit.{Lit}
use Rattle.sb_lit.specs.Clauses.{is_same_literal, is_among, are_among}
use Rattle.sb_lit.proofs.CallerLemmas.{literal_of_parts, is_same_literal-true, is_same_literal-self}
use Rattle.sb_rulebook.specs.Gates.{is_set_of, differ_in_sign}
use Rattle.sb_sound.specs.ClauseForms.{of_sign, IsSetOf}
use Rattle.sb_sound.proofs.PassFacts.{Contains-first, Contains-later, find_any, any_of, all_contained, all_from}

pub among_there : (ls : List Lit) (l : Lit) → is_among ls l ≡ true → Contains ls l
among_there ls l h =
    let f = find_any (λ m. is_same_literal m l) ls h in
    subst (λ m. Contains ls m) (is_same_literal-true f.element l f.passes) f.within

pub there_among : (ls : List Lit) (l : Lit) → Contains ls l → is_among ls l ≡ true
there_among ls l within = any_of (λ m. is_same_literal m l) ls l within (is_same_literal-self l)

pub all_among_there : (ls ms : List Lit) → are_among ls ms ≡ true → (l : Lit) → Contains ls l → Contains ms l
all_among_there ls ms h l within = among_there ms l (all_contained (is_among ms) ls l h within)

pub all_there_among : (ls ms : List Lit) → ((l : Lit) → Contains ls l → Contains ms l) → are_among ls ms ≡ true
all_there_among ls ms h = all_from (is_among ms) ls (λ l within. there_among ms l (h l within))

pub set_of : (clause ls : List Lit) → is_set_of clause ls ≡ true → IsSetOf clause ls
set_of clause ls h =
    let parts = and_parts (are_among clause ls) (are_among ls clause) h in
    record { no_others = all_among_there clause ls parts.0; has_all = all_among_there ls clause parts.1 }

pub set_from : (clause ls : List Lit) → IsSetOf clause ls → is_set_of clause ls ≡ true
set_from clause ls set =
    and_from (are_among clause ls) (are_among ls clause) (all_there_among clause ls set.no_others)
    (all_there_among ls clause set.has_all)

-- a literal by its sign
pub as_sign : (l : Lit) (s : Bool) → l.positive ≡ s → l ≡ of_sign s l.atom
as_sign l s e = literal_of_parts l.atom l.atom l.positive s refl e

pub other_sign : (l m : Lit) → differ_in_sign l m ≡ true → m.positive ≡ not l.positive
other_sign l m h = step l.positive m.positive h
  where
    step : (s t : Bool) → (if s then not t else t) ≡ true → t ≡ not s
    step true true h = absurd (false≢true h)
    step true false h = refl
    step false t h = h

pub signs_differ : (s : Bool) → (if s then not (not s) else not s) ≡ true
signs_differ true = refl
signs_differ false = refl

-- where a literal stands
pub first_there : (clause : List Lit) (l : Lit) (ls : List Lit) → IsSetOf clause (l ∷ ls) → Contains clause l
first_there clause l ls set = set.has_all l (Contains-first l ls)

pub second_there : (clause : List Lit) (l m : Lit) (ls : List Lit) → IsSetOf clause (l ∷ m ∷ ls) → Contains clause m
second_there clause l m ls set = set.has_all m (Contains-later l (m ∷ ls) m (Contains-first m ls))

pub third_there : (clause : List Lit) (l m n : Lit) (ls : List Lit) → IsSetOf clause (l ∷ m ∷ n ∷ ls)
    → Contains clause n
third_there clause l m n ls set =
    set.has_all n (Contains-later l (m ∷ n ∷ ls) n (Contains-later m (n ∷ ls) n (Contains-first n ls)))

-- the clause is of the same literals, by other names
pub set_by_first : (clause : List Lit) (l k : Lit) (ls : List Lit) → l ≡ k → is_set_of clause (l ∷ ls) ≡ true
    → IsSetOf clause (k ∷ ls)
set_by_first clause l k ls e h = subst (λ k. IsSetOf clause (k ∷ ls)) e (set_of clause (l ∷ ls) h)
