-- Clauses that are kept and not yet listed.
use Rattle.std.proofs.Common.{◌≡◌, ℕ, zero, suc, eqb, ◌<◌, Bool, true, false, List, [], ◌∷◌, length, Option, Some, None, refl, sym, ◌∙◌, ap, inl, inr, arith}
use Rattle.std.specs.List.{list_all}
use Rattle.std.specs.Option.{option_map, is_none}
use Rattle.std.proofs.lemmas.Bool.{false≢true, or_cases, or_left, eq-eqb, false_from_ne_true}
use Rattle.std.proofs.lemmas.Option.{same_Some}
use Rattle.sb_lit.specs.declared.clause.Lit.{Lit}
use Rattle.sb_lit.specs.Clauses.{negation, is_same_literal, is_among, is_false_under, value_under}
use Rattle.sb_trail.specs.declared.assigned.Assigned.{Assigned}
use Rattle.sb_trail.specs.Assignments.{held, is_of, entry_of, value_of, up_to, AreDistinct}
use Rattle.sb_clauses.specs.Looking.{is_or_false, IsLeft}
use Rattle.sb_clauses.specs.Watching.{literal_at, no_literal, is_short}
use Rattle.sb_clauses.specs.Marking.{mark_at, held_up_to, AreBelow, IsFront}
use Rattle.sb_clauses.specs.Waiting.{is_the, IsOther, IsBest, AreWatchable, AreBest, AreLate, HasRank}
use Rattle.sb_lit.proofs.CallerLemmas.{is_same_literal-true}
use Rattle.sb_trail.proofs.CallerLemmas.{entry_of-up_to}
use Rattle.sb_clauses.proofs.Literals.{all_weaker, open_by_value, leaves_only-from, among_at}
use Rattle.sb_clauses.proofs.Settling.{short_back}
use Rattle.sb_clauses.proofs.Marked.{front_at, up_to_in}

-- places to watch
pub no_places : (clause : List Lit) → list_all (is_the None) clause ≡ true → AreWatchable clause no_literal no_literal
no_places [] h = record { inside = λ some. absurd (omega arith); bare = λ none. (refl, refl); short = λ is. refl }
no_places (x ∷ xs) h = absurd (false≢true h)

pub one_place : (clause : List Lit) (first : ℕ) → IsOther clause None first
    → list_all (is_the (Some (literal_at clause first))) clause ≡ true
    → AreWatchable clause (literal_at clause first) (literal_at clause first)
one_place clause first h all =
    let among = among_at clause clause first no_literal h.inside in
    record {
      inside = λ some. (among, among);
      bare = λ none. absurd (omega (arith, ap length none, h.inside));
      short = λ is. all;
    }

record HasEntry (es : List Assigned) (a : ℕ) : Type 0 where
  entry : Assigned
  there : entry_of es a ≡ Some entry

has_entry : (es : List Assigned) (l : Lit) → is_among (held es) l ≡ true → HasEntry es l.atom
has_entry [] l among = absurd (false≢true among)
has_entry (x ∷ xs) l among = go (is_of l.atom x) refl (has_entry xs l)
  where
    go : (b : Bool) → is_of l.atom x ≡ b → (is_among (held xs) l ≡ true → HasEntry xs l.atom) → HasEntry (x ∷ xs) l.atom
    go true here rest = record { entry = x; there = rw here refl }
    go false here rest =
        elim (or_cases (is_same_literal x.literal l) (is_among (held xs) l) among) [
          | inl same ↦ absurd (false≢true
              (sym here ∙ eq-eqb x.literal.atom l.atom
              (ap (λ (m : Lit). m.atom) (is_same_literal-true x.literal l same))))
          | inr later ↦ record { entry = (rest later).entry; there = rw here (rest later).there }
        ]

-- a literal is not false up to a level below the one at which it became false
not_false_up_to : (es : List Assigned) (level rank : ℕ) (l : Lit) → AreDistinct es → HasRank es l rank → level < rank
    → is_false_under (held_up_to level es) l ≡ true → ⊥
not_false_up_to es level rank l distinct ranked below is =
    let found : HasEntry (up_to level es) l.atom = has_entry (up_to level es) (negation l) is in
    let there = entry_of-up_to level l.atom es found.entry distinct found.there in
    elim (ranked (up_to_in level es (negation l) is)) [
      | inl zero_rank ↦ omega (arith, below, zero_rank)
      | inr at ↦
          let same : found.entry.level ≡ rank =
          same_Some found.entry.level rank
          (sym (ap (option_map (λ (e : Assigned). e.level)) there.0) ∙ at) in
          omega (arith, below, same, there.1)
    ]

pub late_literal : (es : List Assigned) (level rank : ℕ) (l : Lit) → AreDistinct es → HasRank es l rank → level < rank
    → is_false_under (held_up_to level es) l ≡ false
late_literal es level rank l distinct ranked below =
    false_from_ne_true (is_false_under (held_up_to level es) l) (not_false_up_to es level rank l distinct ranked below)

-- both literals are not false up to the marks that are left
pub both_late : (es : List Assigned) (mid new : List ℕ) (a b : Lit) (first second : ℕ) → AreDistinct es
    → IsFront mid new → AreBelow mid first → AreBelow new second → HasRank es a first
    → HasRank es b second → is_short a b ≡ false → AreLate es new a b
both_late es mid new a b first second distinct front below also ranked ranked_too long i within =
    let before = front_at mid new i front within in
    record {
      long = long;
      own_open = late_literal es (mark_at new i) first a distinct ranked
          (omega (arith, before.1, below i before.0));
      other_open = late_literal es (mark_at new i) second b distinct ranked_too (also i within);
    }

-- what the places to watch say of the others
pub no_best : (literals clause : List Lit) → list_all (is_the None) clause ≡ true → AreBest literals clause no_literal no_literal
no_best literals [] h = record { top = λ is. refl; next = λ is. refl }
no_best literals (x ∷ xs) h = absurd (false≢true h)

pub one_best : (literals clause : List Lit) (first : ℕ) → IsBest literals clause None first
    → list_all (is_the (Some (literal_at clause first))) clause ≡ true
    → AreBest literals clause (literal_at clause first) (literal_at clause first)
one_best literals clause first h all = record {
  top = h.best;
  next = λ is. all_weaker (is_the (Some (literal_at clause first))) (is_or_false literals (literal_at clause first))
      (λ m same. or_left (is_same_literal m (literal_at clause first)) (is_false_under literals m) same) clause all;
}

pub some_length : (n : ℕ) → eqb n 0 ≡ false → 0 < n
some_length zero h = absurd (false≢true (sym h))
some_length (suc n) h = omega arith

pub arrives_forced : (entries : List Assigned) (clause : List Lit) (own other : Lit) (v : Option Bool) → is_among clause own ≡ true
    → AreWatchable clause own other → AreBest (held entries) clause own other
    → v ≡ value_under (held entries) own → v ≡ None
    → is_none v ≡ is_none (value_of entries own.atom)
    → is_or_false (held entries) own other ≡ true
    → IsLeft entries clause own own
arrives_forced entries clause own other v within places best value is atom h =
    let l : Lit = own in
    let literals : List Lit = held entries in
    let all : list_all (is_or_false literals l) clause ≡ true =
    elim (or_cases (is_same_literal other l) (is_false_under literals other) h) [
      | inl same ↦ short_all same
      | inr gone ↦ best.next gone
    ]
    in
    record {
      inside = within;
      there = refl;
      forces = leaves_only-from literals clause l within
          (open_by_value literals l (sym value ∙ is)) all;
      unassigned = none_of (value_of entries l.atom) (sym atom ∙ ap is_none is);
    }
  where
    none_of : {A : Type 0} (o : Option A) → is_none o ≡ true → o ≡ None
    none_of None e = refl
    none_of (Some x) e = absurd (false≢true e)

    short_all : is_same_literal other own ≡ true
        → list_all (is_or_false (held entries) own) clause ≡ true
    short_all same =
        let short : is_short own other ≡ true = short_back other own same in
        all_weaker (λ m. is_same_literal m other)
        (is_or_false (held entries) own) (λ m here.
        or_left (is_same_literal m own) (is_false_under (held entries) m)
        (rw (is_same_literal-true other own same) at here)) clause
        (places.short short)
