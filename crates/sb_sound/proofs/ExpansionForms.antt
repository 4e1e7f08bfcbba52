-- Which expansions are accepted.
use Rattle.std.proofs.Common.{◌≡◌, ℕ, ◌+◌, ◌<◌, Bool, true, false, ◌&&◌, nat_lt, if◌then◌else◌, cond, List, [], ◌∷◌, map, filter, slice_get, Option, Some, None, is_some, option_map, Result, Ok, Err, refl, sym, ap, ◌∙◌, inl, inr}
use Rattle.std.specs.List.{list_all, Contains}
use Rattle.std.proofs.lemmas.Bool.{ltb-true, lt-ltb, false≢true}
use Rattle.sb_class.specs.Ranges.{in_ranges, rises_from}
use Rattle.sb_lang.specs.Regex.{Regex}
use Rattle.sb_lang.specs.Order.{regex_eq}
use Rattle.sb_lang.specs.OrderLaws.{OrderTellsApart}
use Rattle.sb_lang.specs.Derivative.{nd}
use Rattle.sb_rulebook.specs.Refusals.{Refusal, unknown_id, repeated, wrong_target, wrong_verdict}
use Rattle.sb_rulebook.specs.Lines.{Class}
use Rattle.sb_rulebook.specs.Parts.{together}
use Rattle.sb_rulebook.specs.Kept.{AllKept, Asked, targets_in, with_expansion, most_counted, counting}
use Rattle.sb_rulebook.specs.Expansions.{Branch, leads_right, is_right_at, are_classes, is_expansion}
use Rattle.sb_rulebook.specs.ExpansionLaws.{TestDecidesExpansion}
use Rattle.sb_rulebook.specs.RegexRules.{branch_of, expanded, follows_expansion}
use Rattle.sb_rulebook.proofs.CallerLemmas.{same_regex, regex_itself}
use Rattle.sb_sound.specs.DeadLaws.{LeadsOnce, IsRightlyExpanded, ExpandedIsExact}
use Rattle.sb_sound.proofs.DeadFacts.{together-parts, expansion-parts}
use Rattle.sb_sound.proofs.FilterForms.{one_left, left_one}
use Rattle.sb_sound.proofs.PassFacts.{Contains-cases, Contains-first, Contains-later, Contains-none, all_contained, all_from}

-- the class has the character
abbrev has : ℕ → Class → Bool
has c k = in_ranges k.0 c

-- Classes and their branches.

-- the class of a branch, and the regex of its target
branch_parts : (known : List Regex) (k : Class) (p : Branch) → branch_of known k ≡ Some p
    → (k.0 ≡ p.0) × (slice_get known k.1 ≡ Some p.1)
branch_parts known k p h = step (slice_get known k.1) h
  where
    step : (o : Option Regex) → option_map (λ (r : Regex). (k.0, r)) o ≡ Some p → (k.0 ≡ p.0) × (o ≡ Some p.1)
    step None h = absurd (Prim.cc (h))
    step (Some r) h =
        let same : ◌≡◌ {A = Branch} (k.0, r) p = Prim.cc (h) in
        (ap (λ (b : Branch). b.0) same, ap (λ (b : Branch). Some b.1) same)

branch_there : (known : List Regex) (k : Class) (r : Regex) → slice_get known k.1 ≡ Some r
    → branch_of known k ≡ Some (k.0, r)
branch_there known k r h = ap (option_map (λ (r : Regex). (k.0, r))) h

module _ (known : List Regex) where
  -- a test of classes passes classes and branches alike
  same_classes : (test : Class → Bool) (test_branch : Branch → Bool)
      → ((k : Class) (p : Branch) → k.0 ≡ p.0 → test k ≡ test_branch p) → (ks : List Class) (ps : List Branch)
      → together (map (branch_of known) ks) ≡ Some ps → list_all test ks ≡ list_all test_branch ps
  same_classes test test_branch alike [] ps are =
      let none : [] ≡ ps = Prim.cc (are) in ap (list_all test_branch) none
  same_classes test test_branch alike (k ∷ ks) ps are =
      let l = together-parts (branch_of known k) (map (branch_of known) ks) ps are in
      ap (λ b. b && list_all test ks) (alike k l.first (branch_parts known k l.first l.is).0)
      ∙ ap (λ b. test_branch l.first && b) (same_classes test test_branch alike ks l.others l.rest)
      ∙ ap (list_all test_branch) l.whole

  -- the branches of the classes that have a character
  filtered : (c : ℕ) (ks : List Class) (ps : List Branch) → together (map (branch_of known) ks) ≡ Some ps
      → together (map (branch_of known) (filter (has c) ks)) ≡ Some (filter (λ p. in_ranges p.0 c) ps)
  filtered c [] ps are =
      let none : [] ≡ ps = Prim.cc (are) in ap (λ (ps : List Branch). Some (filter (λ p. in_ranges p.0 c) ps)) none
  filtered c (k ∷ ks) ps are =
      let l = together-parts (branch_of known k) (map (branch_of known) ks) ps are in
      let rest = filter (λ (p : Branch). in_ranges p.0 c) l.others in
      step (has c k) l.first l.is (filtered c ks l.others l.rest)
      ∙ ap (λ b. Some (cond b (l.first ∷ rest) rest))
      (ap (λ rs. in_ranges rs c) (branch_parts known k l.first l.is).0)
      ∙ ap (λ (ps : List Branch). Some (filter (λ p. in_ranges p.0 c) ps)) l.whole
    where
      step : (b : Bool) (p : Branch) → branch_of known k ≡ Some p → {rest : List Branch}
          → together (map (branch_of known) (filter (has c) ks)) ≡ Some rest
          → together (map (branch_of known) (cond b (k ∷ filter (has c) ks) (filter (has c) ks)))
          ≡ Some (cond b (p ∷ rest) rest)
      step true p is {rest} are =
          ap (λ o. together (o ∷ map (branch_of known) (filter (has c) ks))) is
          ∙ ap (option_map (λ others. p ∷ others)) are
      step false p is are = are

  defined_form : (ks : List Class) (ps : List Branch) → together (map (branch_of known) ks) ≡ Some ps → (k : Class)
      → Contains ks k → (r : Regex) × (slice_get known k.1 ≡ Some r)
  defined_form [] ps are k within = absurd (Contains-none k within)
  defined_form (first ∷ ks) ps are k within =
      let l = together-parts (branch_of known first) (map (branch_of known) ks) ps are in
      elim (Contains-cases first ks k within) [
        | inl here ↦ (
          l.first.1,
          ap (λ (k : Class). slice_get known k.1) (sym here) ∙ (branch_parts known first l.first l.is).1,
        )
        | inr later ↦ defined_form ks l.others l.rest k later
      ]

  branches_of : (ks : List Class) → ((k : Class) → Contains ks k → (r : Regex) × (slice_get known k.1 ≡ Some r))
      → (ps : List Branch) × (together (map (branch_of known) ks) ≡ Some ps)
  branches_of [] defined = ([], refl)
  branches_of (k ∷ ks) defined =
      let d = defined k (Contains-first k ks) in
      let rest = branches_of ks (λ other within. defined other (Contains-later k ks other within)) in (
        (k.0, d.0) ∷ rest.0,
        ap (λ o. together (o ∷ map (branch_of known) ks)) (branch_there known k d.0 d.1)
            ∙ ap (option_map (λ others. (k.0, d.0) ∷ others)) rest.1,
      )

module _ (apart : OrderTellsApart) (known : List Regex) (r : Regex) (c : ℕ) where
  -- From the test.

  leads_of : (ks left : List Class) (ps : List Branch) → filter (has c) ks ≡ left
      → together (map (branch_of known) left) ≡ Some ps → leads_right r c ps ≡ true → LeadsOnce known r ks c
  leads_of ks [] ps left are h =
      let none : [] ≡ ps = Prim.cc (are) in absurd (false≢true (ap (leads_right r c) none ∙ h))
  leads_of ks (k ∷ []) ps left are h =
      let l = together-parts (branch_of known k) [] ps are in
      let none : [] ≡ l.others = Prim.cc (l.rest) in
      let leads : regex_eq (nd r c) l.first.1 ≡ true =
      ap (λ (os : List Branch). leads_right r c (l.first ∷ os)) none ∙ ap (leads_right r c) l.whole ∙ h in
      let p = one_left (has c) ks k left in
      record {
        before = p.before;
        one = k;
        behind = p.behind;
        parts = p.parts;
        inside = p.passes;
        none_before = p.none_before;
        none_behind = p.none_behind;
        target =
            (branch_parts known k l.first l.is).1
            ∙ ap Some (sym (same_regex apart (nd r c) l.first.1 leads));
      }
  leads_of ks (k ∷ n ∷ left_ks) ps left are h =
      let l = together-parts (branch_of known k) (map (branch_of known) (n ∷ left_ks)) ps are in
      let m = together-parts (branch_of known n) (map (branch_of known) left_ks) l.others l.rest in
      let two : leads_right r c (l.first ∷ m.first ∷ m.others) ≡ true =
      ap (λ (os : List Branch). leads_right r c (l.first ∷ os)) m.whole ∙ ap (leads_right r c) l.whole ∙ h in
      absurd (false≢true two)

  leads_form : (ks : List Class) (ps : List Branch) → together (map (branch_of known) ks) ≡ Some ps
      → is_right_at r ps c ≡ true → LeadsOnce known r ks c
  leads_form ks ps are h =
      leads_of ks (filter (has c) ks) (filter (λ p. in_ranges p.0 c) ps) refl (filtered known c ks ps are) h

  -- To the test.

  from_leads : (ks : List Class) (ps : List Branch) → together (map (branch_of known) ks) ≡ Some ps
      → LeadsOnce known r ks c → is_right_at r ps c ≡ true
  from_leads ks ps are l =
      let left : filter (has c) ks ≡ l.one ∷ [] =
      ap (filter (has c)) l.parts ∙ left_one (has c) l.before l.behind l.one l.inside l.none_before l.none_behind in
      let one : Some ((l.one.0, nd r c) ∷ []) ≡ Some (filter (λ (p : Branch). in_ranges p.0 c) ps) =
      sym (ap (λ o. together (o ∷ [])) (branch_there known l.one (nd r c) l.target))
      ∙ ap (λ (ks : List Class). together (map (branch_of known) ks)) (sym left)
      ∙ filtered known c ks ps are in
      let same : (l.one.0, nd r c) ∷ [] ≡ filter (λ (p : Branch). in_ranges p.0 c) ps = Prim.cc (one) in
      ap (leads_right r c) (sym same) ∙ regex_itself apart (nd r c)

-- Counting.

pub counting_form : (asked : Asked) (kept after : AllKept) → counting asked kept ≡ Ok after
    → (kept.counted < most_counted asked) × (after ≡ record kept { counted = kept.counted + 1 })
counting_form asked kept after h = step (nat_lt kept.counted (most_counted asked)) refl h
  where
    step : (b : Bool) → nat_lt kept.counted (most_counted asked) ≡ b
        → (if b then Ok (record kept { counted = kept.counted + 1 }) else Err wrong_verdict) ≡ Ok after
        → (kept.counted < most_counted asked) × (after ≡ record kept { counted = kept.counted + 1 })
    step true is h = (ltb-true kept.counted (most_counted asked) is, Prim.cc (h))
    step false is h = absurd (Prim.cc (h))

pub from_counting : (asked : Asked) (kept after : AllKept) → kept.counted < most_counted asked
    → after ≡ record kept { counted = kept.counted + 1 } → counting asked kept ≡ Ok after
from_counting asked kept after room is =
    ap (λ b. if b then Ok (record kept { counted = kept.counted + 1 }) else Err wrong_verdict)
    (lt-ltb kept.counted (most_counted asked) room)
    ∙ ap Ok (sym is)

-- All together.

is_none : {A : Type 0} (o : Option A) → is_some o ≡ false → o ≡ None
is_none None h = refl
is_none (Some a) h = absurd (false≢true (sym h))

module _ (apart : OrderTellsApart) (decides : TestDecidesExpansion) where
  expanded_form : (asked : Asked) (kept after : AllKept) (id : ℕ) (ks : List Class)
      → follows_expansion asked kept id ks ≡ Ok after → IsRightlyExpanded kept id ks
      × (kept.counted < most_counted asked)
      × (after ≡ record (with_expansion id (map (λ k. k.1) ks) kept) { counted = kept.counted + 1 })
  expanded_form asked kept after id ks h =
      let l = expansion-parts asked kept after id ks h in
      let counted = counting_form asked (with_expansion id (map (λ (k : Class). k.1) ks) kept) after l.counts in
      let e = (decides l.regex l.branches).0 l.expands in
      let classes : list_all (λ (k : Class). rises_from 0 k.0) ks ≡ true =
      same_classes kept.regexes (λ k. rises_from 0 k.0) (λ p. rises_from 0 p.0) (λ k p same. ap (rises_from 0) same) ks
      l.branches l.are ∙ e.classes in (
        record {
          regex = l.regex;
          there = l.there;
          new = is_none (targets_in kept.expansions id) l.new;
          classes = λ k within. all_contained (λ (k : Class). rises_from 0 k.0) ks k classes within;
          defined = defined_form kept.regexes ks l.branches l.are;
          right = λ c is. leads_form apart kept.regexes l.regex c ks l.branches l.are (e.right c is);
        },
        counted.0,
        counted.1,
      )

  from_expanded : (asked : Asked) (kept after : AllKept) (id : ℕ) (ks : List Class) → IsRightlyExpanded kept id ks
      → kept.counted < most_counted asked
      → after ≡ record (with_expansion id (map (λ k. k.1) ks) kept) { counted = kept.counted + 1 }
      → follows_expansion asked kept id ks ≡ Ok after
  from_expanded asked kept after id ks e room is =
      let known = kept.regexes in
      let more = with_expansion id (map (λ (k : Class). k.1) ks) kept in
      let b = branches_of known ks e.defined in
      let classes : are_classes b.0 ≡ true =
      sym (same_classes known (λ k. rises_from 0 k.0) (λ p. rises_from 0 p.0) (λ k p same. ap (rises_from 0) same) ks
      b.0 b.1) ∙ all_from (λ (k : Class). rises_from 0 k.0) ks e.classes in
      let expands : is_expansion e.regex b.0 ≡ true =
      (decides e.regex b.0).1 (record {
        classes = classes;
        right = λ c is. from_leads apart known e.regex c ks b.0 b.1 (e.right c is);
      }) in
      ap (λ o. elim o as (λ _. Result AllKept Refusal) [
        | None ↦ Err unknown_id
        | Some r ↦ elim (together (map (branch_of known) ks)) as (λ _. Result AllKept Refusal)
            [ None ↦ Err unknown_id | Some ps ↦ expanded asked kept id ks r ps ]
      ]) e.there
      ∙ ap (λ o. elim o as (λ _. Result AllKept Refusal)
      [ None ↦ Err unknown_id | Some ps ↦ expanded asked kept id ks e.regex ps ]) b.1
      ∙ ap (λ o. if is_some o then Err repeated else if is_expansion e.regex b.0 then counting asked more
      else Err wrong_target) e.new
      ∙ ap (λ b. if b then counting asked more else Err wrong_target) expands
      ∙ from_counting asked more after room is

  pub expanded_exact : ExpandedIsExact
  expanded_exact asked kept after id ks =
      (expanded_form asked kept after id ks, λ e. from_expanded asked kept after id ks e.0 e.1 e.2)
