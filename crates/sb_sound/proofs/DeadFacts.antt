-- Expansions that are kept are right, and a set of regexes among which they stay has no word.
use Rattle.std.proofs.Common.{◌≡◌, ℕ, ◌+◌, nat_lt, Bool, true, false, if◌then◌else◌, ◌||◌, eqb, List, [], ◌∷◌, map, filter, slice_get, Option, Some, None, is_some, option_map, Result, Ok, Err, refl, sym, ap, subst, ◌∙◌, inl, inr}
use Rattle.std.specs.List.{list_all, list_any, Contains}
use Rattle.std.proofs.lemmas.Bool.{and_parts, or_cases, eqb-true, false≢true}
use Rattle.std.specs.Prelude.{set}
use Rattle.sb_class.specs.Ranges.{in_ranges}
use Rattle.sb_word.specs.Words.{is_character, are_characters, IsWord}
use Rattle.sb_lang.specs.Regex.{Regex}
use Rattle.sb_lang.specs.Order.{regex_eq}
use Rattle.sb_lang.specs.OrderLaws.{OrderTellsApart}
use Rattle.sb_lang.specs.Derivative.{nullable, nd}
use Rattle.sb_lang.specs.Language.{language}
use Rattle.sb_lang.specs.DerivativeLaws.{NullableHasEmptyWord, DerivativeHasRests}
use Rattle.sb_rulebook.specs.Refusals.{Refusal, unknown_id, repeated, wrong_target, wrong_verdict, holds_empty_word, not_closed}
use Rattle.sb_rulebook.specs.Lines.{Class}
use Rattle.sb_rulebook.specs.Parts.{together}
use Rattle.sb_rulebook.specs.Kept.{AllKept, Asked, is_among_numbers, is_dead, targets_in, with_expansion, with_dead, marked, most_counted, counting}
use Rattle.sb_rulebook.specs.Expansions.{Branch, leads_right, is_right_at, is_expansion}
use Rattle.sb_rulebook.specs.ExpansionLaws.{TestDecidesExpansion}
use Rattle.sb_rulebook.specs.RegexRules.{branch_of, expanded, follows_expansion, has_repeated, is_settled, is_closed, first_alive, died, member_at, follows_dead}
use Rattle.sb_sound.specs.DeadLaws.{LeadsOn, AreRight, ExpandedIsRight, DeadStaysEmpty}
use Rattle.sb_sound.specs.MembershipLaws.{AreEmpty}
use Rattle.sb_sound.proofs.SameParts.{same_regex}
use Rattle.sb_sound.proofs.ByNumber.{slice_get-set, targets_there, there_targets, mark_there, marked-cases}
use Rattle.sb_sound.proofs.PassFacts.{list_any-from_filter, Contains-cases, Contains-first, Contains-later, Contains-none, all_contained}

some_same : {A : Type 0} (a b : A) → Some a ≡ Some b → a ≡ b
some_same a b e = Prim.cc (e)

-- what all have together, one by one
pub record AreTogether {A : Type 0} (o : Option A) (os : List (Option A)) (all : List A) : Type 0 where
  pub first : A
  pub others : List A
  pub is : o ≡ Some first
  pub rest : together os ≡ Some others
  pub whole : first ∷ others ≡ all

pub together-parts : {A : Type 0} → (o : Option A) (os : List (Option A)) (all : List A) → together (o ∷ os) ≡ Some all
    → AreTogether o os all
together-parts None os all h = absurd (Prim.cc (h))
together-parts {A} (Some first) os all h = step (together os) refl h
  where
    step : (more : Option (List A)) → together os ≡ more → option_map (λ others. first ∷ others) more ≡ Some all
        → AreTogether (Some first) os all
    step None rest h = absurd (Prim.cc (h))
    step (Some others) rest h =
        record { first = first; others = others; is = refl; rest = rest; whole = Prim.cc (h) }

-- Expansions.

-- what an accepted expansion has
pub record IsExpanded (asked : Asked) (kept after : AllKept) (id : ℕ) (ks : List Class) : Type 0 where
  pub regex : Regex
  pub branches : List Branch
  pub there : slice_get kept.regexes id ≡ Some regex
  pub are : together (map (branch_of kept.regexes) ks) ≡ Some branches
  pub new : is_some (targets_in kept.expansions id) ≡ false
  pub expands : is_expansion regex branches ≡ true
  pub counts : counting asked (with_expansion id (map (λ (k : Class). k.1) ks) kept) ≡ Ok after
  pub same : after.regexes ≡ kept.regexes
  pub more : after.expansions ≡ set kept.expansions id (Some (map (λ (k : Class). k.1) ks))

counted-parts : (asked : Asked) (kept after : AllKept) → counting asked kept ≡ Ok after
    → (after.regexes ≡ kept.regexes) × (after.expansions ≡ kept.expansions)
counted-parts asked kept after h = step (nat_lt kept.counted (most_counted asked)) h
  where
    step : (b : Bool)
        → (if b then Ok (record kept { counted = kept.counted + 1 }) else Err wrong_verdict) ≡ Ok after
        → (after.regexes ≡ kept.regexes) × (after.expansions ≡ kept.expansions)
    step true h =
        let same : after ≡ record kept { counted = kept.counted + 1 } = Prim.cc (h) in
        (ap (λ (k : AllKept). k.regexes) same, ap (λ (k : AllKept). k.expansions) same)
    step false h = absurd (Prim.cc (h))

pub expansion-parts : (asked : Asked) (kept after : AllKept) (id : ℕ) (ks : List Class)
    → follows_expansion asked kept id ks ≡ Ok after → IsExpanded asked kept after id ks
expansion-parts asked kept after id ks h = step (slice_get kept.regexes id) refl h
  where
    more : AllKept
    more = with_expansion id (map (λ (k : Class). k.1) ks) kept

    tests : (r : Regex) (ps : List Branch) → slice_get kept.regexes id ≡ Some r
        → together (map (branch_of kept.regexes) ks) ≡ Some ps → (b d : Bool)
        → is_some (targets_in kept.expansions id) ≡ b → is_expansion r ps ≡ d
        → (if b then Err repeated else if d then counting asked more else Err wrong_target) ≡ Ok after
        → IsExpanded asked kept after id ks
    tests r ps there are true d new expands h = absurd (Prim.cc (h))
    tests r ps there are false true new expands h =
        let parts = counted-parts asked more after h in
        record {
          regex = r;
          branches = ps;
          there = there;
          are = are;
          new = new;
          expands = expands;
          counts = h;
          same = parts.0;
          more = parts.1;
        }
    tests r ps there are false false new expands h = absurd (Prim.cc (h))

    by : (r : Regex) (o : Option (List Branch)) → slice_get kept.regexes id ≡ Some r
        → together (map (branch_of kept.regexes) ks) ≡ o
        → (elim o as (λ _. Result AllKept Refusal) [ None ↦ Err unknown_id | Some ps ↦ expanded asked kept id ks r ps ])
        ≡ Ok after → IsExpanded asked kept after id ks
    by r None there are h = absurd (Prim.cc (h))
    by r (Some ps) there are h =
        tests r ps there are (is_some (targets_in kept.expansions id)) (is_expansion r ps) refl refl h

    step : (o : Option Regex) → slice_get kept.regexes id ≡ o
        → (elim o as (λ _. Result AllKept Refusal) [
          | None ↦ Err unknown_id
          | Some r ↦ elim (together (map (branch_of kept.regexes) ks)) as (λ _. Result AllKept Refusal)
              [ None ↦ Err unknown_id | Some ps ↦ expanded asked kept id ks r ps ]
        ]) ≡ Ok after → IsExpanded asked kept after id ks
    step None there h = absurd (Prim.cc (h))
    step (Some r) there h = by r (together (map (branch_of kept.regexes) ks)) there refl h

module _ (tells : OrderTellsApart) (known : List Regex) (r : Regex) (c : ℕ) where
  -- the branch leads to the derivative
  abbrev leads : Branch → Bool
  leads p = regex_eq (nd r c) p.1

  leads-later : (k : Class) (ks : List Class) → LeadsOn known r (map (λ (k : Class). k.1) ks) c
      → LeadsOn known r (map (λ (k : Class). k.1) (k ∷ ks)) c
  leads-later k ks l = record {
    target = l.target;
    among = Contains-later k.1 (map (λ (k : Class). k.1) ks) l.target l.among;
    there = l.there;
  }

  -- the class of a branch that leads to the derivative has its number
  leads-class : (ks : List Class) (ps : List Branch) → together (map (branch_of known) ks) ≡ Some ps
      → list_any leads ps ≡ true → LeadsOn known r (map (λ (k : Class). k.1) ks) c
  leads-class [] ps are any =
      let none : ps ≡ [] = sym (some_same [] ps are) in
      absurd (false≢true (sym (ap (list_any leads) none) ∙ any))
  leads-class (k ∷ ks) ps are any =
      let parts = together-parts (branch_of known k) (map (branch_of known) ks) ps are in
      elim (or_cases (leads parts.first) (list_any leads parts.others) (ap (list_any leads) parts.whole ∙ any)) [
        | inl here ↦ record {
          target = k.1;
          among = Contains-first k.1 (map (λ (k : Class). k.1) ks);
          there =
              at (slice_get known k.1) parts.first parts.is
              ∙ ap Some (sym (same_regex tells (nd r c) parts.first.1 here));
        }
        | inr later ↦ leads-later k ks (leads-class ks parts.others parts.rest later)
      ]
    where
      at : (o : Option Regex) (p : Branch) → option_map (λ (s : Regex). (k.0, s)) o ≡ Some p → o ≡ Some p.1
      at None p e = absurd (Prim.cc (e))
      at (Some s) p e = ap (λ (q : Branch). Some q.1) (some_same (k.0, s) p e)

  leads-some : (ps : List Branch) → leads_right r c ps ≡ true → list_any leads ps ≡ true
  leads-some [] h = h
  leads-some (p ∷ []) h = ap (λ b. b || false) h
  leads-some (p ∷ q ∷ ps) h = absurd (false≢true h)

  leads-right : (ks : List Class) (ps : List Branch) → together (map (branch_of known) ks) ≡ Some ps
      → is_right_at r ps c ≡ true → LeadsOn known r (map (λ (k : Class). k.1) ks) c
  leads-right ks ps are right =
      leads-class ks ps are (list_any-from_filter (λ p. in_ranges p.0 c) leads ps
      (leads-some (filter (λ p. in_ranges p.0 c) ps) right))

pub expanded_right : OrderTellsApart → TestDecidesExpansion → ExpandedIsRight
expanded_right tells decides asked kept after id ks h right =
    let l = expansion-parts asked kept after id ks h in
    subst (λ (rs : List Regex). AreRight rs after.expansions) (sym l.same)
    (subst (λ (es : List (Option (List ℕ))). AreRight kept.regexes es) (sym l.more) (λ n r targets are there c is.
    elim (slice_get-set kept.expansions id (Some (map (λ (k : Class). k.1) ks)) n (Some targets)
    (targets_there (set kept.expansions id (Some (map (λ (k : Class). k.1) ks))) n targets are)) [
      | inr before ↦ right n r targets (there_targets kept.expansions n targets before) there c is
      | inl here ↦
          let found : slice_get kept.regexes id ≡ Some r = ap (slice_get kept.regexes) (sym here.0) ∙ there in
          let same : l.regex ≡ r = some_same l.regex r (sym l.there ∙ found) in
          let right_at = ((decides l.regex l.branches).0 l.expands).right c is in
          subst (λ (ts : List ℕ). LeadsOn kept.regexes r ts c)
          (some_same (map (λ (k : Class). k.1) ks) targets here.1)
          (subst (λ (q : Regex). LeadsOn kept.regexes q (map (λ (k : Class). k.1) ks) c) same
          (leads-right tells kept.regexes l.regex c ks l.branches l.are right_at))
    ]))

-- Dead regexes.

pub among_contains : (ns : List ℕ) (n : ℕ) → is_among_numbers ns n ≡ true → Contains ns n
among_contains [] n h = absurd (false≢true h)
among_contains (m ∷ ns) n h = elim (or_cases (eqb m n) (is_among_numbers ns n) h) [
  | inl here ↦ subst (λ k. Contains (m ∷ ns) k) (eqb-true m n here) (Contains-first m ns)
  | inr later ↦ Contains-later m ns n (among_contains ns n later)
]

-- what an accepted line of dead regexes has
pub record HaveDied (kept after : AllKept) (ids : List ℕ) : Type 0 where
  pub members : List (ℕ × Regex)
  pub are : together (map (member_at kept.regexes) ids) ≡ Some members
  pub none_repeated : has_repeated kept ids ≡ false
  pub none_alive : first_alive kept ids members ≡ None
  pub whole : after ≡ with_dead ids kept
  pub same : after.regexes ≡ kept.regexes
  pub more : after.dead ≡ marked ids kept.dead

pub dead-parts : (kept after : AllKept) (ids : List ℕ) → follows_dead kept ids ≡ Ok after → HaveDied kept after ids
dead-parts kept after ids h = step (together (map (member_at kept.regexes) ids)) refl h
  where
    now : AllKept
    now = with_dead ids kept

    tests : (ms : List (ℕ × Regex)) → together (map (member_at kept.regexes) ids) ≡ Some ms → (b : Bool)
        (o : Option Refusal) → has_repeated kept ids ≡ b → first_alive kept ids ms ≡ o
        → (if b then Err repeated else elim o as (λ _. Result AllKept Refusal)
        [ Some refusal ↦ Err refusal | None ↦ Ok now ]) ≡ Ok after
        → HaveDied kept after ids
    tests ms are true o twice alive h = absurd (Prim.cc (h))
    tests ms are false (Some refusal) twice alive h = absurd (Prim.cc (h))
    tests ms are false None twice alive h =
        let same : after ≡ now = Prim.cc (h) in
        record {
          members = ms;
          are = are;
          none_repeated = twice;
          none_alive = alive;
          whole = same;
          same = ap (λ (k : AllKept). k.regexes) same;
          more = ap (λ (k : AllKept). k.dead) same;
        }

    step : (o : Option (List (ℕ × Regex))) → together (map (member_at kept.regexes) ids) ≡ o
        → (elim o as (λ _. Result AllKept Refusal) [ None ↦ Err unknown_id | Some ms ↦ died kept ids ms ]) ≡ Ok after
        → HaveDied kept after ids
    step None are h = absurd (Prim.cc (h))
    step (Some ms) are h = tests ms are (has_repeated kept ids) (first_alive kept ids ms) refl refl h

-- a member is not nullable, and closed
pub record IsMember (kept : AllKept) (ids : List ℕ) (id : ℕ) (r : Regex) : Type 0 where
  pub empty_word : nullable r ≡ false
  pub closed : is_closed kept ids id ≡ true

alive-parts : (kept : AllKept) (ids : List ℕ) (m : ℕ × Regex) (ms : List (ℕ × Regex))
    → first_alive kept ids (m ∷ ms) ≡ None → IsMember kept ids m.0 m.1 × (first_alive kept ids ms ≡ None)
alive-parts kept ids m ms h = step (nullable m.1) (is_closed kept ids m.0) refl refl h
  where
    step : (b d : Bool) → nullable m.1 ≡ b → is_closed kept ids m.0 ≡ d
        → (if b then Some holds_empty_word else if d then first_alive kept ids ms else Some not_closed) ≡ None
        → IsMember kept ids m.0 m.1 × (first_alive kept ids ms ≡ None)
    step true d is closed h = absurd (Prim.cc (h))
    step false true is closed h = (record { empty_word = is; closed = closed }, h)
    step false false is closed h = absurd (Prim.cc (h))

pub members-are : (kept : AllKept) (all ids : List ℕ) (ms : List (ℕ × Regex))
    → together (map (member_at kept.regexes) ids) ≡ Some ms → first_alive kept all ms ≡ None → (id : ℕ) (r : Regex)
    → Contains ids id → slice_get kept.regexes id ≡ Some r → IsMember kept all id r
members-are kept all [] ms are alive id r among there = absurd (Contains-none id among)
members-are kept all (n ∷ ids) ms are alive id r among there =
    let parts = together-parts (member_at kept.regexes n) (map (member_at kept.regexes) ids) ms are in
    let tests = alive-parts kept all parts.first parts.others (ap (first_alive kept all) parts.whole ∙ alive) in
    elim (Contains-cases n ids id among) [
      | inl here ↦
          let found : slice_get kept.regexes n ≡ Some r = ap (slice_get kept.regexes) here ∙ there in
          let same : ◌≡◌ {A = ℕ × Regex} (n, r) parts.first =
          some_same (n, r) parts.first (ap (option_map (λ (s : Regex). (n, s))) (sym found) ∙ parts.is) in
          subst (λ k. IsMember kept all k r) here
          (subst (λ (m : ℕ × Regex). IsMember kept all m.0 m.1) (sym same) tests.0)
      | inr later ↦ members-are kept all ids parts.others parts.rest tests.1 id r later there
    ]

-- where a derivative of a closed regex is kept, and that it is settled
record IsNext (kept : AllKept) (ids : List ℕ) (r : Regex) (c : ℕ) : Type 0 where
  target : ℕ
  there : slice_get kept.regexes target ≡ Some (nd r c)
  settled : is_settled kept ids target ≡ true

closed-next : (kept : AllKept) (ids : List ℕ) → AreRight kept.regexes kept.expansions → (id : ℕ) (r : Regex)
    → slice_get kept.regexes id ≡ Some r → is_closed kept ids id ≡ true → (c : ℕ) → is_character c ≡ true
    → IsNext kept ids r c
closed-next kept ids right id r there closed c is = step (targets_in kept.expansions id) refl closed
  where
    step : (o : Option (List ℕ)) → targets_in kept.expansions id ≡ o
        → (elim o as (λ _. Bool) [ None ↦ false | Some targets ↦ list_all (is_settled kept ids) targets ]) ≡ true
        → IsNext kept ids r c
    step None at h = absurd (false≢true h)
    step (Some targets) at h =
        let next = right id r targets at there c is in
        record {
          target = next.target;
          there = next.there;
          settled = all_contained (is_settled kept ids) targets next.target h next.among;
        }

module _ (empty : NullableHasEmptyWord) (rests : DerivativeHasRests) (kept : AllKept) (ids : List ℕ)
    (right : AreRight kept.regexes kept.expansions) (dead : AreEmpty kept.regexes kept.dead)
    (member : (id : ℕ) (r : Regex) → Contains ids id → slice_get kept.regexes id ≡ Some r
    → IsMember kept ids id r) where
  no_word : (w : List ℕ) (id : ℕ) (r : Regex) → Contains ids id → slice_get kept.regexes id ≡ Some r → IsWord w
      → language r w ≡ false
  no_word [] id r among there word = sym (empty r) ∙ (member id r among there).empty_word
  no_word (c ∷ w) id r among there word =
      let parts = and_parts (is_character c) (are_characters w) word in
      let next = closed-next kept ids right id r there (member id r among there).closed c parts.0 in
      sym (rests r c w)
      ∙ (elim (or_cases (is_among_numbers ids next.target) (is_dead kept next.target) next.settled) [
        | inl in_line ↦ no_word w next.target (nd r c) (among_contains ids next.target in_line) next.there parts.1
        | inr before ↦ dead next.target (nd r c) (mark_there kept.dead next.target before) next.there w parts.1
      ])

pub dead_empty : NullableHasEmptyWord → DerivativeHasRests → DeadStaysEmpty
dead_empty empty rests kept after ids h right dead =
    let l = dead-parts kept after ids h in
    subst (λ (rs : List Regex). AreEmpty rs after.dead) (sym l.same)
    (subst (λ (marks : List Bool). AreEmpty kept.regexes marks) (sym l.more) (λ id r mark there w word.
    elim (marked-cases ids kept.dead id mark) [
      | inr before ↦ dead id r before there w word
      | inl in_line ↦ no_word empty rests kept ids right dead
          (members-are kept ids ids l.members l.are l.none_alive) w id r in_line there word
    ]))
