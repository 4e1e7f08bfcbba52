-- Clauses by the set of their literals, and the truth of a literal and its negation.
use Rattle.std.proofs.Common.{◌≡◌, Bool, true, false, not, ◌&&◌, ◌||◌, if◌then◌else◌, List, [], ◌∷◌, map, slice_get, unwrap_or, refl, sym, ap, ◌∙◌, inl, inr}
use Rattle.std.specs.List.{list_all, list_any}
use Rattle.std.proofs.Math.Bool.{not-not}
use Rattle.std.proofs.lemmas.Bool.{and_parts, or_cases, or_left, or_right, false≢true, cases_Bool}
use Rattle.sb_lit.specs.declared.clause.Lit.{Lit}
use Rattle.sb_lit.specs.Clauses.{negation, is_same_literal, is_among, are_among}
use Rattle.sb_lit.proofs.CallerLemmas.{is_same_literal-true, is_same_literal-self}
use Rattle.sb_rulebook.specs.Atoms.{literal_holds}
use Rattle.sb_rulebook.specs.Gates.{is_set_of}

-- a literal of the list that passes
pub record PassesAmong (p : Lit → Bool) (ls : List Lit) : Type 0 where
  pub literal : Lit
  pub among : is_among ls literal ≡ true
  pub passes : p literal ≡ true

pub any_among : (p : Lit → Bool) (ls : List Lit) → list_any p ls ≡ true → PassesAmong p ls
any_among p [] h = absurd (false≢true h)
any_among p (l ∷ ls) h = elim (or_cases (p l) (list_any p ls) h) [
  | inl here ↦ record {
    literal = l;
    among = or_left (is_same_literal l l) (is_among ls l) (is_same_literal-self l);
    passes = here;
  }
  | inr later ↦
      let r = any_among p ls later in
      record {
        literal = r.literal;
        among = or_right (is_same_literal l r.literal) (is_among ls r.literal) r.among;
        passes = r.passes;
      }
]

pub any_at : (p : Lit → Bool) (ls : List Lit) (l : Lit) → is_among ls l ≡ true → p l ≡ true → list_any p ls ≡ true
any_at p [] l among h = absurd (false≢true among)
any_at p (m ∷ ms) l among h = elim (or_cases (is_same_literal m l) (is_among ms l) among) [
  | inl here ↦ or_left (p m) (list_any p ms) (ap p (is_same_literal-true m l here) ∙ h)
  | inr later ↦ or_right (p m) (list_any p ms) (any_at p ms l later h)
]

-- more literals, and it still has one that passes
pub any_more : (p : Lit → Bool) (ls clause : List Lit) → are_among ls clause ≡ true → list_any p ls ≡ true
    → list_any p clause ≡ true
any_more p [] clause among h = absurd (false≢true h)
any_more p (l ∷ ls) clause among h =
    let parts = and_parts (is_among clause l) (are_among ls clause) among in
    elim (or_cases (p l) (list_any p ls) h) [
      | inl here ↦ any_at p clause l parts.0 here
      | inr later ↦ any_more p ls clause parts.1 later
    ]

-- a clause is true where the set of its literals has a true one
pub any_of_set : (p : Lit → Bool) (clause ls : List Lit) → is_set_of clause ls ≡ true → list_any p ls ≡ true
    → list_any p clause ≡ true
any_of_set p clause ls set h = any_more p ls clause (and_parts (are_among clause ls) (are_among ls clause) set).1 h

-- the negation of a literal is true where the literal is false
pub other_sign : (s b : Bool) → (if not s then b else not b) ≡ not (if s then b else not b)
other_sign true b = refl
other_sign false b = sym (not-not b)

pub literal_holds-negation : (truths : List Bool) (l : Lit)
    → literal_holds truths (negation l) ≡ not (literal_holds truths l)
literal_holds-negation truths l = other_sign l.positive (unwrap_or (slice_get truths l.atom) false)

-- a literal and its negation
pub any_of_both : (truths : List Bool) (clause : List Lit) (l : Lit) → is_among clause l ≡ true
    → is_among clause (negation l) ≡ true → list_any (literal_holds truths) clause ≡ true
any_of_both truths clause l among other = elim (cases_Bool (literal_holds truths l)) [
  | inl here ↦ any_at (literal_holds truths) clause l among here
  | inr there ↦ any_at (literal_holds truths) clause (negation l) other (literal_holds-negation truths l ∙ ap not there)
]

-- some negation of these is true where not all of these are
not_both : (a b : Bool) → (not a || not b) ≡ not (a && b)
not_both true b = refl
not_both false b = refl

pub any_negated : (truths : List Bool) (ls : List Lit)
    → list_any (literal_holds truths) (map negation ls) ≡ not (list_all (literal_holds truths) ls)
any_negated truths [] = refl
any_negated truths (l ∷ ls) =
    ap (λ b. b || list_any (literal_holds truths) (map negation ls)) (literal_holds-negation truths l)
    ∙ ap (λ b. not (literal_holds truths l) || b) (any_negated truths ls)
    ∙ not_both (literal_holds truths l) (list_all (literal_holds truths) ls)

-- the truth of a literal of a sign
pub if_positive : (s b : Bool) → s ≡ true → (if s then b else not b) ≡ b
if_positive true b h = refl
if_positive false b h = absurd (false≢true h)

pub if_negative : (s b : Bool) → not s ≡ true → (if s then b else not b) ≡ not b
if_negative true b h = absurd (false≢true h)
if_negative false b h = refl
