-- What is compared of terms by number, one after the other.
use Rattle.std.proofs.Common.{◌≡◌, ℕ, zero, suc, ◌+◌, ◌<◌, ◌≤◌, Bool, true, false, ◌&&◌, List, [], ◌∷◌, ◌++◌, length, map, take, get_or, refl, sym, ap, ◌∙◌, subst, arith}
use Rattle.std.specs.List.{list_all}
use Rattle.std.proofs.Math.Bool.{beq}
use Rattle.std.proofs.lemmas.Bool.{false≢true, and_from}
use Rattle.std.proofs.lemmas.List.{take_all, take_more, map-append}
use Rattle.std.proofs.lemmas.List.Folds.{list_all-append, list_all_at}
use Rattle.sb_meaning.specs.Terms.{Term, Terms, constant, word, numeral, apply, parameter, no_terms, with_term, terms_in}
use Rattle.sb_meaning.specs.Values.{Valuation}
use Rattle.sb_meaning.specs.Truth.{differs}
use Rattle.sb_term.specs.Numbered.{term_at}
use Rattle.sb_fragment.specs.Compared.{neighbours, pairs, compared}
use Rattle.sb_fragment.specs.Memberships.{equality}
use Rattle.sb_fragment.specs.Shapes.{parts_of, terms_of_pairs}
use Rattle.sb_fragment.proofs.CallerLemmas.{pair_at, pair_within, pair_read}
use Rattle.sb_atoms.specs.Given.{GivesValues, GivesEach}
use Rattle.sb_atoms.specs.Truths.{AllOf, IsTruthUnder, GivesPair, AreAsWanted, are_as_wanted}

-- Values of the constants in terms, and in what is compared.

all_of_at : {X : Type 0} (P : X → Type 0) (xs : List X) (i : ℕ) (x : X) → AllOf P xs → i < length xs
    → x ≡ get_or xs i x → P x
all_of_at P [] i x h within at = absurd (omega (arith, within))
all_of_at P (y ∷ xs) zero x h within at = subst P (sym at) h.0
all_of_at P (y ∷ xs) (suc i) x h within at = all_of_at P xs i x h.1 (omega (arith, within)) at

neighbours_of_all : {X : Type 0} (P : X → Type 0) (xs : List X) → AllOf P xs
    → AllOf (λ p. P p.0 × P p.1) (neighbours xs)
neighbours_of_all P [] h = tt
neighbours_of_all P (x ∷ []) h = tt
neighbours_of_all P (x ∷ y ∷ xs) h = ((h.0, h.1.0), neighbours_of_all P (y ∷ xs) h.1)

with_each_of_all : {X : Type 0} (P : X → Type 0) (x : X) (xs : List X) (ps : List (X × X)) → P x → AllOf P xs
    → AllOf (λ p. P p.0 × P p.1) ps → AllOf (λ p. P p.0 × P p.1) (map (λ y. (x, y)) xs ++ ps)
with_each_of_all P x [] ps one h rest = rest
with_each_of_all P x (y ∷ xs) ps one h rest = ((one, h.0), with_each_of_all P x xs ps one h.1 rest)

pairs_of_all : {X : Type 0} (P : X → Type 0) (xs : List X) → AllOf P xs → AllOf (λ p. P p.0 × P p.1) (pairs xs)
pairs_of_all P [] h = tt
pairs_of_all P (x ∷ xs) h = with_each_of_all P x xs (pairs xs) h.0 h.1 (pairs_of_all P xs h.1)

pub compared_given : (ws : List (List ℕ)) (bs : List Bool) (v : Valuation) (distinct : Bool) (ts : List Term)
    → AllOf (GivesValues ws bs v) ts → AllOf (GivesPair ws bs v) (compared distinct ts)
compared_given ws bs v true ts h = pairs_of_all (GivesValues ws bs v) ts h
compared_given ws bs v false ts h = neighbours_of_all (GivesValues ws bs v) ts h

each_given : (ws : List (List ℕ)) (bs : List Bool) (v : Valuation) (terms : Terms) → GivesEach ws bs v terms
    → AllOf (GivesValues ws bs v) (terms_in terms)
each_given ws bs v no_terms h = tt
each_given ws bs v (with_term t terms) h = (h.0, each_given ws bs v terms h.1)

pub parts_given : (ws : List (List ℕ)) (bs : List Bool) (v : Valuation) (t : Term) → GivesValues ws bs v t
    → AllOf (GivesValues ws bs v) (parts_of t)
parts_given ws bs v (apply s terms) h = each_given ws bs v terms h
parts_given ws bs v (constant serial sort) h = tt
parts_given ws bs v (word w) h = tt
parts_given ws bs v (numeral n) h = tt
parts_given ws bs v (parameter place sort) h = tt

pair_given : (ws : List (List ℕ)) (bs : List Bool) (v : Valuation) (ts : List Term) (ps : List (ℕ × ℕ)) (i : ℕ)
    (p : ℕ × ℕ) → AllOf (GivesPair ws bs v) (terms_of_pairs ts ps) → i < length ps → p ≡ get_or ps i p
    → GivesPair ws bs v (pair_at ts p)
pair_given ws bs v ts ps i p h within at =
    all_of_at (GivesPair ws bs v) (terms_of_pairs ts ps) i (pair_at ts p) h (pair_within ts ps i within)
    (pair_read ts ps i p within at)

-- Comparisons.

wanted : (a b : Bool) → beq a b ≡ false → differs b a ≡ true
wanted true true h = absurd (false≢true (sym h))
wanted true false h = refl
wanted false true h = refl
wanted false false h = absurd (false≢true (sym h))

unwanted : (a b : Bool) → beq a b ≡ true → differs b a ≡ false
unwanted true true h = refl
unwanted true false h = absurd (false≢true h)
unwanted false true h = absurd (false≢true h)
unwanted false false h = refl

-- one pair more
pub wanted_more : (ws : List (List ℕ)) (distinct : Bool) (ts : List Term) (ps : List (ℕ × ℕ)) (i : ℕ) (p : ℕ × ℕ)
    (equal : Bool) → AreAsWanted ws distinct (terms_of_pairs ts ps) (terms_of_pairs ts (take i ps)) true
    → i < length ps → p ≡ get_or ps i p → IsTruthUnder ws (equality (term_at ts p.0) (term_at ts p.1)) equal
    → beq equal distinct ≡ false
    → AreAsWanted ws distinct (terms_of_pairs ts ps) (terms_of_pairs ts (take (i + 1) ps)) true
wanted_more ws distinct ts ps i p equal before within at h other = λ v bs gives.
    let test = are_as_wanted distinct v in
    let g = pair_given ws bs v ts ps i p gives within at in
    let holds_at : test (pair_at ts p) ≡ true =
    ap (differs distinct) (sym (h v bs (g.0, (g.1, tt)))) ∙ wanted equal distinct other in
    sym (ap (λ qs. list_all test (terms_of_pairs ts qs))
    (take_more ps i p within ∙ ap (λ q. take i ps ++ q ∷ []) (sym at))
    ∙ ap (list_all test) (map-append (pair_at ts) (take i ps) (p ∷ []))
    ∙ list_all-append test (terms_of_pairs ts (take i ps)) (pair_at ts p ∷ [])
    ∙ and_from (list_all test (terms_of_pairs ts (take i ps))) (test (pair_at ts p) && true) (sym (before v bs gives))
    (ap (λ b. b && true) holds_at))

pub wanted_stop : (ws : List (List ℕ)) (distinct : Bool) (ts : List Term) (ps : List (ℕ × ℕ)) (i : ℕ) (p : ℕ × ℕ)
    (equal : Bool) → i < length ps → p ≡ get_or ps i p
    → IsTruthUnder ws (equality (term_at ts p.0) (term_at ts p.1)) equal → beq equal distinct ≡ true
    → AreAsWanted ws distinct (terms_of_pairs ts ps) (terms_of_pairs ts ps) false
wanted_stop ws distinct ts ps i p equal within at h same = λ v bs gives.
    let test = are_as_wanted distinct v in
    let g = pair_given ws bs v ts ps i p gives within at in
    sym (list_all_at test (terms_of_pairs ts ps) i (pair_at ts p) (pair_within ts ps i within)
    (ap test (sym (pair_read ts ps i p within at))
    ∙ ap (differs distinct) (sym (h v bs (g.0, (g.1, tt))))
    ∙ unwanted equal distinct same))

pub wanted_end : (ws : List (List ℕ)) (distinct : Bool) (ts : List Term) (ps : List (ℕ × ℕ)) (i : ℕ) → length ps ≤ i
    → AreAsWanted ws distinct (terms_of_pairs ts ps) (terms_of_pairs ts (take i ps)) true
    → AreAsWanted ws distinct (terms_of_pairs ts ps) (terms_of_pairs ts ps) true
wanted_end ws distinct ts ps i done h =
    subst (λ qs. AreAsWanted ws distinct (terms_of_pairs ts ps) (terms_of_pairs ts qs) true) (take_all i ps done) h
