-- Which clauses are learned by their hints.
use Rattle.std.proofs.Common.{◌≡◌, ◌≢◌, ℕ, ◌≤◌, max, Bool, true, false, not, if◌then◌else◌, ◌&&◌, ltb, eqb, List, [], ◌∷◌, map, filter, Option, Some, None, option_map, Result, Ok, Err, refl, sym, ap, subst, ◌∙◌, inl, inr, arith}
use Rattle.std.specs.List.{list_all, Contains}
use Rattle.std.specs.Ordering.{is_lt, bool_cmp}
use Rattle.std.proofs.lemmas.Option.{slice_get-get_or}
use Rattle.std.proofs.lemmas.Bool.{and_parts, and_from, not_from_false, false≢true, false_from_ne_true, cases_Bool, cases_order, lt-ltb, le-ltb, eq-eqb, ne_eqb}
use Rattle.sb_lit.specs.declared.clause.Lit.{Lit}
use Rattle.sb_lit.specs.Clauses.{negation, is_same_literal, literal_order, are_ascending, is_true_under, is_false_under, is_open_under}
use Rattle.sb_lit.specs.Kept.{KeptClause, Kept}
use Rattle.sb_lit.specs.Hints.{hinted, has_only, is_repeated, Finding, falsified, forces, idle, finding_of_rest, finding, Course, ends_false, has_idle_hint, course, greatest_level, Unlearned, unknown_hint, repeated_clause, not_by_hints, level_by, learned}
use Rattle.sb_lit.proofs.CallerLemmas.{is_same_literal-true, is_same_literal-of, open-not_false, open-not_true}
use Rattle.sb_sound.specs.HintLaws.{AreNamed, IsFalse, LeavesOpen, Refutes, StandsBefore, by_atom, by_sign, Ascend, IsGreatestLevel, HasNoSubset, IsByHints, LearnedIsExact}
use Rattle.sb_sound.proofs.Accepting.{Contains-slice_get}
use Rattle.sb_sound.proofs.ByNumber.{kept_there, there_kept}
use Rattle.sb_sound.proofs.FilterForms.{none_left, left_none, left_within, passing_left}
use Rattle.sb_sound.proofs.HintFacts.{learned-parts, hinted-parts}
use Rattle.sb_sound.proofs.PassFacts.{Contains-cases, Contains-first, Contains-later, Contains-none, find_any, any_of, all_contained, all_from}
use Rattle.sb_sound.proofs.SetForms.{among_there, there_among, all_among_there, all_there_among}

-- What one hint gives.

-- the literals of a clause that are not false
abbrev not_false : List Lit → List Lit → List Lit
not_false held clause = filter (λ l. not (is_false_under held l)) clause

false_there : (held : List Lit) (l : Lit) → not (is_false_under held l) ≡ false → Contains held (negation l)
false_there held l h = among_there held (negation l) (step (is_false_under held l) h)
  where
    step : (b : Bool) → not b ≡ false → b ≡ true
    step true h = refl
    step false h = absurd (false≢true (sym h))

there_false : (held : List Lit) (l : Lit) → Contains held (negation l) → not (is_false_under held l) ≡ false
there_false held l within = ap not (there_among held (negation l) within)

same_forced : (l m : Lit) → forces l ≡ forces m → l ≡ m
same_forced l m h = Prim.cc (h)

module _ (held clause : List Lit) where
  -- a clause that is false
  false_form : (rest : List Lit) → not_false held clause ≡ rest → finding_of_rest held rest ≡ falsified
      → IsFalse held clause
  false_form [] left h = λ l within.
      false_there held l (none_left (λ l. not (is_false_under held l)) clause left l within)
  false_form (m ∷ rest) left h = step (is_open_under held m && list_all (is_same_literal m) rest) h
    where
      step : (b : Bool) → (if b then forces m else idle) ≡ falsified → IsFalse held clause
      step true h = absurd (Prim.cc (h))
      step false h = absurd (Prim.cc (h))

  from_false : IsFalse held clause → finding held clause ≡ falsified
  from_false all =
      ap (finding_of_rest held) (left_none (λ l. not (is_false_under held l)) clause
      (λ l within. there_false held l (all l within)))

  -- a clause that leaves one literal open
  open_of : (m : Lit) (rest : List Lit) → not_false held clause ≡ m ∷ rest → is_open_under held m ≡ true
      → list_all (is_same_literal m) rest ≡ true → LeavesOpen held clause m
  open_of m rest left is_open same = record {
    within =
        (left_within (λ l. not (is_false_under held l)) clause m
        (subst (λ ls. Contains ls m) (sym left) (Contains-first m rest))).0;
    not_true = λ among. false≢true (sym (open-not_true held m is_open) ∙ there_among held m among);
    not_false = λ among. false≢true (sym (open-not_false held m is_open) ∙ there_among held (negation m) among);
    others = λ n within other. elim (cases_Bool (not (is_false_under held n))) [
      | inr is_false ↦ false_there held n is_false
      | inl passes ↦ elim (Contains-cases m rest n (subst (λ ls. Contains ls n) left
          (passing_left (λ l. not (is_false_under held l)) clause n within passes))) [
            | inl here ↦ absurd (other (sym here))
            | inr later ↦
                absurd (other (sym (is_same_literal-true m n (all_contained (is_same_literal m) rest n same later))))
          ]
    ];
  }

  open_form : (l : Lit) (rest : List Lit) → not_false held clause ≡ rest → finding_of_rest held rest ≡ forces l
      → LeavesOpen held clause l
  open_form l [] left h = absurd (Prim.cc (h))
  open_form l (m ∷ rest) left h = step (is_open_under held m && list_all (is_same_literal m) rest) refl h
    where
      step : (b : Bool) → (is_open_under held m && list_all (is_same_literal m) rest) ≡ b
          → (if b then forces m else idle) ≡ forces l → LeavesOpen held clause l
      step true is h =
          let parts = and_parts (is_open_under held m) (list_all (is_same_literal m) rest) is in
          subst (λ k. LeavesOpen held clause k) (same_forced m l h) (open_of m rest left parts.0 parts.1)
      step false is h = absurd (Prim.cc (h))

  -- what is not false is the literal that is left open
  left_is : (l n : Lit) → LeavesOpen held clause l → Contains (not_false held clause) n → n ≡ l
  left_is l n o within =
      let both = left_within (λ m. not (is_false_under held m)) clause n within in
      elim (cases_Bool (is_same_literal n l)) [
        | inl same ↦ is_same_literal-true n l same
        | inr other ↦
            let apart : n ≢ l = λ e. false≢true (sym other ∙ is_same_literal-of n l e) in
            absurd (false≢true (sym (there_false held n (o.others n both.0 apart)) ∙ both.1))
      ]

  open_under : (l : Lit) → LeavesOpen held clause l → is_open_under held l ≡ true
  open_under l o =
      and_from (not (is_true_under held l)) (not (is_false_under held l))
      (not_from_false (is_true_under held l)
      (false_from_ne_true (is_true_under held l) (λ h. o.not_true (among_there held l h))))
      (not_from_false (is_false_under held l)
      (false_from_ne_true (is_false_under held l) (λ h. o.not_false (among_there held (negation l) h))))

  from_open_rest : (l : Lit) (rest : List Lit) → not_false held clause ≡ rest → LeavesOpen held clause l
      → finding_of_rest held rest ≡ forces l
  from_open_rest l [] left o =
      let passes : not (is_false_under held l) ≡ true =
      (and_parts (not (is_true_under held l)) (not (is_false_under held l)) (open_under l o)).1 in
      absurd (Contains-none l (subst (λ ls. Contains ls l) left
      (passing_left (λ m. not (is_false_under held m)) clause l o.within passes)))
  from_open_rest l (m ∷ rest) left o =
      let is : m ≡ l = left_is l m o (subst (λ ls. Contains ls m) (sym left) (Contains-first m rest)) in
      let is_open : is_open_under held m ≡ true = ap (is_open_under held) is ∙ open_under l o in
      let same : list_all (is_same_literal m) rest ≡ true =
      all_from (is_same_literal m) rest (λ n within. is_same_literal-of m n
      (is ∙ sym (left_is l n o (subst (λ ls. Contains ls n) (sym left) (Contains-later m rest n within))))) in
      ap (λ b. if b then forces m else idle) (and_from (is_open_under held m) (list_all
      (is_same_literal m) rest) is_open same)
      ∙ ap forces is

  from_open : (l : Lit) → LeavesOpen held clause l → finding held clause ≡ forces l
  from_open l o = from_open_rest l (not_false held clause) refl o

-- What hints give in order.

-- the course behind a hint
abbrev behind : List Lit → List KeptClause → Finding → Course
behind held hints f = elim f as (λ _. Course) [
  | falsified ↦ elim hints as (λ _. Course) [ [] ↦ ends_false | _ ∷ _ ↦ has_idle_hint ]
  | forces l ↦ course (l ∷ held) hints
  | idle ↦ has_idle_hint
]

last_form : (held : List Lit) (hint : KeptClause) (f : Finding) → finding held hint.literals ≡ f
    → behind held [] f ≡ ends_false → IsFalse held hint.literals
last_form held hint falsified is h = false_form held hint.literals (not_false held hint.literals) refl is
last_form held hint (forces l) is h = absurd (Prim.cc (h))
last_form held hint idle is h = absurd (Prim.cc (h))

next_form : (held : List Lit) (hint next : KeptClause) (hints : List KeptClause)
    → ((l : Lit) → course (l ∷ held) (next ∷ hints) ≡ ends_false → Refutes (l ∷ held) (next ∷ hints)) → (f : Finding)
    → finding held hint.literals ≡ f → behind held (next ∷ hints) f ≡ ends_false
    → (l : Lit) × LeavesOpen held hint.literals l × Refutes (l ∷ held) (next ∷ hints)
next_form held hint next hints more falsified is h = absurd (Prim.cc (h))
next_form held hint next hints more (forces l) is h =
    (l, open_form held hint.literals l (not_false held hint.literals) refl is, more l h)
next_form held hint next hints more idle is h = absurd (Prim.cc (h))

refutes_form : (held : List Lit) (hints : List KeptClause) → course held hints ≡ ends_false → Refutes held hints
refutes_form held [] h = absurd (Prim.cc (h))
refutes_form held (hint ∷ []) h = last_form held hint (finding held hint.literals) refl h
refutes_form held (hint ∷ next ∷ hints) h =
    next_form held hint next hints (λ l. refutes_form (l ∷ held) (next ∷ hints)) (finding held hint.literals) refl h

from_refutes : (held : List Lit) (hints : List KeptClause) → Refutes held hints → course held hints ≡ ends_false
from_refutes held [] r = absurd r
from_refutes held (hint ∷ []) r = ap (behind held []) (from_false held hint.literals r)
from_refutes held (hint ∷ next ∷ hints) r =
    ap (behind held (next ∷ hints)) (from_open held hint.literals r.0 r.1)
    ∙ from_refutes (r.0 ∷ held) (next ∷ hints) r.2

-- The clauses that the hints name.

named_form : (kept : Kept) (ids : List ℕ) (hints : List KeptClause) → hinted kept ids ≡ Some hints
    → AreNamed kept ids hints
named_form kept [] hints h =
    let none : [] ≡ hints = Prim.cc (h) in subst (λ hs. AreNamed kept [] hs) none tt
named_form kept (id ∷ ids) hints h =
    let l = hinted-parts kept id ids hints h in
    subst (λ hs. AreNamed kept (id ∷ ids) hs) (sym l.all) (l.there, named_form kept ids l.others l.rest)

from_named : (kept : Kept) (ids : List ℕ) (hints : List KeptClause) → AreNamed kept ids hints
    → hinted kept ids ≡ Some hints
from_named kept [] [] n = refl
from_named kept [] (hint ∷ hints) n = absurd n
from_named kept (id ∷ ids) [] n = absurd n
from_named kept (id ∷ ids) (hint ∷ hints) n =
    ap (λ o. elim o as (λ _. Option (List KeptClause))
    [ None ↦ None | Some clause ↦ option_map (λ clauses. clause ∷ clauses) (hinted kept ids) ]) n.0
    ∙ ap (option_map (λ clauses. hint ∷ clauses)) (from_named kept ids hints n.1)

-- Order.

at_one_atom : (a : ℕ) (p q : Bool)
    → is_lt (literal_order (record { atom = a; positive = p }) (record { atom = a; positive = q })) ≡ true
    → (p ≡ true) × (q ≡ false)
at_one_atom a p q h =
    let not_below : ltb a a ≡ false = le-ltb a a (omega arith) in
    let sign : is_lt (bool_cmp q p) ≡ true = rw (not_below, eq-eqb a a refl) at h in
    signs p q sign
  where
    signs : (p q : Bool) → is_lt (bool_cmp q p) ≡ true → (p ≡ true) × (q ≡ false)
    signs true true h = absurd (false≢true h)
    signs true false h = (refl, refl)
    signs false true h = absurd (false≢true h)
    signs false false h = absurd (false≢true h)

before_form : (l m : Lit) → is_lt (literal_order l m) ≡ true → StandsBefore l m
before_form l m h =
    elim (cases_order l.atom m.atom) [
      | inl same ↦
          let signs = at_one_atom m.atom l.positive m.positive
          (subst (λ (n : ℕ). is_lt (literal_order (record { atom = n; positive = l.positive }) m) ≡ true) same h) in
          by_sign same signs.0 signs.1
      | inr apart ↦ elim apart [
        | inl below ↦ by_atom below
        | inr above ↦
            let not_below : ltb l.atom m.atom ≡ false = le-ltb l.atom m.atom (omega (arith, above)) in
            let other : eqb l.atom m.atom ≡ false = ne_eqb l.atom m.atom (λ e. omega (arith, above, e)) in
            let greater : is_lt (literal_order l m) ≡ false = rw (not_below, other) refl in
            absurd (false≢true (sym greater ∙ h))
      ]
    ]

from_before : (l m : Lit) → StandsBefore l m → is_lt (literal_order l m) ≡ true
from_before l m (by_atom below) = rw (lt-ltb l.atom m.atom below) refl
from_before l m (by_sign same plus minus) =
    let not_below : ltb l.atom m.atom ≡ false = le-ltb l.atom m.atom (omega (arith, same)) in
    rw (not_below, eq-eqb l.atom m.atom same, plus, minus) refl

pub ascend_form : (ls : List Lit) → are_ascending ls ≡ true → Ascend ls
ascend_form [] h = tt
ascend_form (l ∷ []) h = tt
ascend_form (l ∷ m ∷ ls) h =
    let parts = and_parts (is_lt (literal_order l m)) (are_ascending (m ∷ ls)) h in
    (before_form l m parts.0, ascend_form (m ∷ ls) parts.1)

pub from_ascend : (ls : List Lit) → Ascend ls → are_ascending ls ≡ true
from_ascend [] a = refl
from_ascend (l ∷ []) a = refl
from_ascend (l ∷ m ∷ ls) a =
    and_from (is_lt (literal_order l m)) (are_ascending (m ∷ ls)) (from_before l m a.0) (from_ascend (m ∷ ls) a.1)

-- Levels.

greatest_above : (hints : List KeptClause) (hint : KeptClause) → Contains hints hint
    → hint.level ≤ greatest_level hints
greatest_above [] hint within = absurd (Contains-none hint within)
greatest_above (first ∷ hints) hint within = elim (Contains-cases first hints hint within) [
  | inl here ↦
      let same : first.level ≡ hint.level = ap (λ (c : KeptClause). c.level) here in
      left first.level (greatest_level hints) hint.level same
  | inr later ↦ right first.level (greatest_level hints) hint.level (greatest_above hints hint later)
]
  where
    left : (a b n : ℕ) → a ≡ n → n ≤ max a b
    left a b n same = omega (arith, same)

    right : (a b n : ℕ) → n ≤ b → n ≤ max a b
    right a b n low = omega (arith, low)

high_left : (a b : ℕ) → b ≤ a → a ≡ max a b
high_left a b h = omega (arith, h)

high_right : (a b : ℕ) → a ≤ b → b ≡ max a b
high_right a b h = omega (arith, h)

greatest_reached : (first : KeptClause) (hints : List KeptClause)
    → (hint : KeptClause) × Contains (first ∷ hints) hint × (hint.level ≡ greatest_level (first ∷ hints))
greatest_reached first [] = (first, Contains-first first [], high_left first.level 0 (omega arith))
greatest_reached first (next ∷ hints) =
    let top = greatest_level (next ∷ hints) in
    let r = greatest_reached next hints in
    let later = Contains-later first (next ∷ hints) r.0 r.1 in
    elim (cases_order first.level top) [
      | inl same ↦ (r.0, later, r.2 ∙ high_right first.level top (omega (arith, same)))
      | inr apart ↦ elim apart [
        | inl below ↦ (r.0, later, r.2 ∙ high_right first.level top (omega (arith, below)))
        | inr above ↦ (first, Contains-first first (next ∷ hints), high_left first.level top (omega (arith, above)))
      ]
    ]

greatest_form : (held : List Lit) (hints : List KeptClause) (level : ℕ) → Refutes held hints
    → greatest_level hints ≡ level → IsGreatestLevel hints level
greatest_form held [] level r h = absurd r
greatest_form held (first ∷ hints) level r h =
    let g = greatest_reached first hints in
    record {
      hint = g.0;
      among = g.1;
      is = g.2 ∙ h;
      none_above = λ other within.
          subst (λ (n : ℕ). other.level ≤ n) h (greatest_above (first ∷ hints) other within);
    }

level_below : (hints : List KeptClause) (level : ℕ)
    → ((other : KeptClause) → Contains hints other → other.level ≤ level) → greatest_level hints ≤ level
level_below [] level h = omega arith
level_below (first ∷ hints) level h =
    both first.level (greatest_level hints) level (h first (Contains-first first hints))
    (level_below hints level (λ other within. h other (Contains-later first hints other within)))
  where
    both : (a b n : ℕ) → a ≤ n → b ≤ n → max a b ≤ n
    both a b n p q = omega (arith, p, q)

from_greatest : (hints : List KeptClause) (level : ℕ) → IsGreatestLevel hints level → greatest_level hints ≡ level
from_greatest hints level g =
    both (greatest_level hints) level (level_below hints level g.none_above)
    (subst (λ (n : ℕ). n ≤ greatest_level hints) g.is (greatest_above hints g.hint g.among))
  where
    both : (a b : ℕ) → a ≤ b → b ≤ a → a ≡ b
    both a b p q = omega (arith, p, q)

-- Subsets.

pub no_subset_form : (kept : Kept) (clause : List Lit) → is_repeated kept clause ≡ false → HasNoSubset kept clause
no_subset_form kept clause h id other there all =
    let within = Contains-slice_get kept id (Some other) (kept_there kept id other there) in
    false≢true (sym h ∙ any_of (has_only clause) kept (Some other) within (all_there_among other.literals clause all))

pub from_no_subset : (kept : Kept) (clause : List Lit) → HasNoSubset kept clause → is_repeated kept clause ≡ false
from_no_subset kept clause new = false_from_ne_true (is_repeated kept clause) (λ h.
    let f = find_any (has_only clause) kept h in by f.element f.within f.passes)
  where
    by : (o : Option KeptClause) → Contains kept o → has_only clause o ≡ true → ⊥
    by None within h = false≢true h
    by (Some other) within h =
        let there = slice_get-get_or kept within.0 (Some other) within.1 ∙ ap Some within.2 in
        new within.0 other (there_kept kept within.0 other there) (all_among_there other.literals clause h)

-- All together.

learned_form : (kept : Kept) (clause : List Lit) (ids : List ℕ) (level : ℕ) → learned kept clause ids ≡ Ok level
    → IsByHints kept clause ids level
learned_form kept clause ids level h =
    let l = learned-parts kept clause ids level h in
    let refutes = refutes_form (map negation clause) l.hints l.ends in
    record {
      hints = l.hints;
      named = named_form kept ids l.hints l.are;
      refutes = refutes;
      new = no_subset_form kept clause l.new;
      ascend = ascend_form clause l.ascends;
      greatest = greatest_form (map negation clause) l.hints level refutes l.greatest;
    }

from_hints : (kept : Kept) (clause : List Lit) (ids : List ℕ) (level : ℕ) → IsByHints kept clause ids level
    → learned kept clause ids ≡ Ok level
from_hints kept clause ids level e =
    ap (λ o. elim o as (λ _. Result ℕ Unlearned) [
      | None ↦ Err unknown_hint
      | Some hints ↦ if is_repeated kept clause then Err repeated_clause
          else level_by (course (map negation clause) hints) clause hints
    ]) (from_named kept ids e.hints e.named)
    ∙ ap (λ b. if b then Err repeated_clause else level_by (course (map negation clause) e.hints) clause e.hints)
    (from_no_subset kept clause e.new)
    ∙ ap (λ c. level_by c clause e.hints) (from_refutes (map negation clause) e.hints e.refutes)
    ∙ ap (λ b. if b then Ok (greatest_level e.hints) else Err not_by_hints) (from_ascend clause e.ascend)
    ∙ ap Ok (from_greatest e.hints level e.greatest)

pub learned_exact : LearnedIsExact
learned_exact kept clause ids level = (learned_form kept clause ids level, from_hints kept clause ids level)
