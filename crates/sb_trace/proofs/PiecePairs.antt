-- The pairs of the targets of two interval maps.
use Rattle.std.proofs.Common.{◌≡◌, ◌≢◌, inl, inr, ℕ, zero, suc, ◌+◌, ◌<◌, ◌≤◌, min, Bool, true, false, cond, ◌||◌, List, [], ◌∷◌, length, get_or, drop, refl, sym, ap, ap₂, subst, ◌∙◌, arith}
use Rattle.std.specs.Prelude.{nat_le}
use Rattle.std.specs.List.{All}
use Rattle.std.proofs.lemmas.Bool.{or_cases, le-leb, leb-true, leb-false}
use Rattle.std.proofs.lemmas.List.{get_or_default, drop_more, drop_all}
use Rattle.sb_word.specs.Words.{is_character}
use Rattle.sb_lang.specs.Regex.{Regex, none}
use Rattle.sb_lang.specs.Derivative.{nd}
use Rattle.sb_regex.specs.Numbered.{regex_at, Names, Extends}
use Rattle.sb_regex.proofs.CallerLemmas.{at_kept, names_from}
use Rattle.sb_deriv.specs.Faithful.{IsKnown}
use Rattle.sb_deriv.specs.Pieces.{value_from, value_at, rises, end_of_characters, IsIntervalMap, targets_of}
use Rattle.sb_deriv.proofs.CallerLemmas.{rises_head, rises_rest, covers_first, covers_rises, value_between}
use Rattle.sb_trace.specs.Defining.{first_of}
use Rattle.sb_trace.specs.Pairing.{is_pair, has_pair, PairsGrewTo, AddsSteps, LeadsToPairs, AreMetBelow, AddsTargets, StandsAt}
use Rattle.sb_trace.proofs.Pairs.{pair_same, pair_stays}

-- Where pieces begin and end.

next_later : (n : ℕ) (pieces : List (ℕ × ℕ)) (k : ℕ) → rises n pieces end_of_characters ≡ true → k < length pieces
    → (get_or pieces k (0, 0)).0 < first_of end_of_characters (drop (suc k) pieces)
next_later n [] k h l = absurd (omega (arith, l))
next_later n (p ∷ ps) zero h l =
    let r = rises_head (suc p.0) ps end_of_characters (rises_rest n p ps end_of_characters h) in
    omega (arith, r)
next_later n (p ∷ ps) (suc k) h l =
    next_later (suc p.0) ps k (rises_rest n p ps end_of_characters h) (omega (arith, l))

next_after : (n : ℕ) (pieces : List (ℕ × ℕ)) (k : ℕ) → rises n pieces end_of_characters ≡ true → k < length pieces
    → (get_or pieces k (0, 0)).0 < first_of end_of_characters (drop (k + 1) pieces)
next_after n pieces k h l =
    let one : suc k ≡ k + 1 = omega arith in
    subst (λ (i : ℕ). (get_or pieces k (0, 0)).0 < first_of end_of_characters (drop i pieces)) one
    (next_later n pieces k h l)

next_at : (pieces : List (ℕ × ℕ)) (k : ℕ) → k < length pieces
    → first_of end_of_characters (drop k pieces) ≡ (get_or pieces k (0, 0)).0
next_at pieces k l = ap (first_of end_of_characters) (drop_more pieces k (0, 0) l)

next_past : (pieces : List (ℕ × ℕ)) (k : ℕ) → length pieces ≤ k
    → first_of end_of_characters (drop k pieces) ≡ end_of_characters
next_past pieces k l = ap (first_of end_of_characters) (drop_all k pieces l)

pub stands_first : (pieces : List (ℕ × ℕ)) → IsIntervalMap pieces → StandsAt pieces 0 0
stands_first [] map =
    let z : 0x30000 ≡ 0 = covers_first [] end_of_characters map.whole in
    absurd (omega (arith, z))
stands_first (p ∷ ps) map =
    let z : p.0 ≡ 0 = covers_first (p ∷ ps) end_of_characters map.whole in
    let later = next_after 0 (p ∷ ps) 0 (covers_rises (p ∷ ps) end_of_characters map.whole) (omega arith) in
    record { within = omega arith; begins = omega (arith, z); ends = omega (arith, later) }

pub stands_still : (pieces : List (ℕ × ℕ)) (place c character : ℕ) → StandsAt pieces place c → c < character
    → character < first_of end_of_characters (drop (place + 1) pieces) → StandsAt pieces place character
stands_still pieces place c character s l low =
    record { within = s.within; begins = let b = s.begins in omega (arith, b, l); ends = low }

pub stands_next : (pieces : List (ℕ × ℕ)) (place character : ℕ) → IsIntervalMap pieces
    → character < end_of_characters → character ≤ first_of end_of_characters (drop (place + 1) pieces)
    → first_of end_of_characters (drop (place + 1) pieces) ≤ character → StandsAt pieces (place + 1) character
stands_next pieces place character map low most least = step (nat_le (length pieces) (place + 1)) refl
  where
    step : (b : Bool) → nat_le (length pieces) (place + 1) ≡ b → StandsAt pieces (place + 1) character
    step true is =
        let past = next_past pieces (place + 1) (leb-true (length pieces) (place + 1) is) in
        absurd (omega (arith, past, least, low))
    step false is =
        let within : place + 1 < length pieces = leb-false (length pieces) (place + 1) is in
        let at = next_at pieces (place + 1) within in
        let later = next_after 0 pieces (place + 1) (covers_rises pieces end_of_characters map.whole) within in
        record { within = within; begins = omega (arith, at, least); ends = omega (arith, at, most, later) }

pub value_stands : (pieces : List (ℕ × ℕ)) (place c x : ℕ) → IsIntervalMap pieces → StandsAt pieces place c → c ≤ x
    → x < first_of end_of_characters (drop (place + 1) pieces)
    → value_at pieces x ≡ (get_or pieces place (0, 0)).1
value_stands pieces place c x map s l low =
    value_between 0 0 pieces end_of_characters place x (0, 0) (covers_rises pieces end_of_characters map.whole) s.within
    (let b = s.begins in omega (arith, b, l)) next
  where
    next : suc place < length pieces → x < (get_or pieces (suc place) (0, 0)).0
    next m =
        let one : place + 1 ≡ suc place = omega arith in
        let at = next_at pieces (place + 1) (omega (arith, m)) in
        subst (λ (i : ℕ). x < (get_or pieces i (0, 0)).0) one (omega (arith, at, low))

-- The pair of two pieces.

module _ (first second old pairs new : List (ℕ × ℕ)) (i j c : ℕ) (p q : ℕ × ℕ) (map : IsIntervalMap first)
    (other : IsIntervalMap second) (s : StandsAt first i c) (t : StandsAt second j c) (is : p ≡ get_or first i p)
    (also : q ≡ get_or second j q)
  where
    first_value : (x : ℕ) → c ≤ x → x < first_of end_of_characters (drop (i + 1) first) → value_at first x ≡ p.1
    first_value x l low =
        value_stands first i c x map s l low
        ∙ ap (λ (r : ℕ × ℕ). r.1) (sym (is ∙ get_or_default first i p (0, 0) s.within))

    second_value : (x : ℕ) → c ≤ x → x < first_of end_of_characters (drop (j + 1) second)
        → value_at second x ≡ q.1
    second_value x l low =
        value_stands second j c x other t l low
        ∙ ap (λ (r : ℕ × ℕ). r.1) (sym (also ∙ get_or_default second j q (0, 0) t.within))

    pub met_more : (rs : List Regex) (end : ℕ) → PairsGrewTo pairs new
        → end ≡ min (first_of end_of_characters (drop (i + 1) first)) (first_of end_of_characters (drop (j + 1) second))
        → (regex_at rs q.1 ≢ none → has_pair new (p.1, q.1) ≡ true) → AreMetBelow rs first second pairs c
        → AreMetBelow rs first second new end
    met_more rs end grew ends here before x low lives = step (nat_le c x) refl
      where
        step : (b : Bool) → nat_le c x ≡ b → has_pair new (value_at first x, value_at second x) ≡ true
        step true high =
            let l : c ≤ x = leb-true c x high in
            let v = first_value x l (omega (arith, low, ends)) in
            let w = second_value x l (omega (arith, low, ends)) in
            ap (has_pair new) (ap₂ (λ (a b : ℕ). (a, b)) v w)
            ∙ here (λ dead. lives (ap (regex_at rs) w ∙ dead))
        step false high =
            pair_stays pairs new (value_at first x, value_at second x) grew (before x (leb-false c x high) lives)

    pub adds_more : c < end_of_characters
        → ((r : ℕ × ℕ) → has_pair new r ≡ true → (has_pair pairs r || is_pair r (p.1, q.1)) ≡ true)
        → AddsTargets first second old pairs → AddsTargets first second old new
    adds_more below only before r h = elim (or_cases (has_pair pairs r) (is_pair r (p.1, q.1)) (only r h)) [
      | inl there ↦ before r there
      | inr here ↦
          let v = first_value c (omega arith) s.ends in
          let w = second_value c (omega arith) t.ends in
          inr (
            c,
            le-leb c 0x2ffff (omega (arith, below)),
            pair_same r (p.1, q.1) here ∙ ap₂ (λ (a b : ℕ). (a, b)) (sym v) (sym w),
          )
    ]

pub end_grows : (first second : List (ℕ × ℕ)) (i j c end : ℕ) → StandsAt first i c → StandsAt second j c
    → end ≡ min (first_of end_of_characters (drop (i + 1) first)) (first_of end_of_characters (drop (j + 1) second))
    → c < end
end_grows first second i j c end s t ends = let a = s.ends in
    let b = t.ends in
    omega (arith, a, b, ends)

pub none_met : (rs : List Regex) (first second pairs : List (ℕ × ℕ)) → AreMetBelow rs first second pairs 0
none_met rs first second pairs x low lives = absurd (omega (arith, low))

pub met_all_below : (rs : List Regex) (first second pairs : List (ℕ × ℕ)) (c end : ℕ) → end ≤ c
    → AreMetBelow rs first second pairs c → AreMetBelow rs first second pairs end
met_all_below rs first second pairs c end l met x low lives = met x (omega (arith, low, l)) lives

pub target_known : (n : ℕ) (pieces : List (ℕ × ℕ)) (k : ℕ) (p : ℕ × ℕ) → All (λ i. i < n) (targets_of pieces)
    → k < length pieces → p ≡ get_or pieces k p → p.1 < n
target_known n [] k p all l is = absurd (omega (arith, l))
target_known n (q ∷ qs) zero p all l is =
    let e : p ≡ q = is in
    subst (λ (r : ℕ × ℕ). r.1 < n) (sym e) (all 0 0 (omega arith))
target_known n (q ∷ qs) (suc k) p all l is =
    target_known n qs k p (λ i d m. all (suc i) d (omega (arith, m))) (omega (arith, l)) is

-- The derivatives of two regexes.

value_known : (d n : ℕ) (pieces : List (ℕ × ℕ)) (c : ℕ) → d < n → All (λ i. i < n) (targets_of pieces)
    → value_from d pieces c < n
unfolding value_from
value_known d n [] c l all = l
value_known d n (p ∷ ps) c l all =
    value_known (cond (nat_le p.0 c) p.1 d) n ps c (chosen (nat_le p.0 c)) (λ k e m. all (suc k) e (omega (arith, m)))
  where
    chosen : (b : Bool) → cond b p.1 d < n
    chosen true = all 0 0 (omega arith)
    chosen false = l

target_names : (rs more : List Regex) (n : ℕ) (pieces : List (ℕ × ℕ)) → Extends rs more → n < length rs
    → IsKnown more n pieces → (c : ℕ) → is_character c ≡ true → Names more (value_at pieces c) (nd (regex_at rs n) c)
target_names rs more n pieces extends l known c character =
    let m : n < length more = known.number in
    names_from more (value_at pieces c) (nd (regex_at rs n) c)
    (value_known 0 (length more) pieces c (omega (arith, m)) known.derivative.targets)
    (known.derivative.values c character ∙ ap (λ (r : Regex). nd r c) (at_kept rs more n extends l))

module _ (rs more : List Regex) (first second : ℕ) (ahead behind : List (ℕ × ℕ)) (extends : Extends rs more)
    (l : first < length rs) (m : second < length rs) (known : IsKnown more first ahead)
    (other : IsKnown more second behind)
  where
    pub lead_pairs : (pairs : List (ℕ × ℕ)) → AreMetBelow more ahead behind pairs end_of_characters
        → LeadsToPairs more pairs (regex_at rs first) (regex_at rs second)
    lead_pairs pairs met c character lives = record {
      first = value_at ahead c;
      second = value_at behind c;
      there = let low = leb-true c 0x2ffff character in
          met c (omega (arith, low))
          (λ dead. lives (sym (ap (λ (r : Regex). nd r c) (at_kept rs more second extends m))
          ∙ sym (other.derivative.values c character) ∙ dead));
      names_first = target_names rs more first ahead extends l known c character;
      names_second = target_names rs more second behind extends m other c character;
    }

    pub lead_steps : (old new : List (ℕ × ℕ)) → AddsTargets ahead behind old new
        → AddsSteps more (regex_at rs first) (regex_at rs second) old new
    lead_steps old new only p h = elim (only p h) [
      | inl there ↦ inl there
      | inr x ↦ inr (record {
        character = x.0;
        is = x.1;
        first = subst (λ (q : ℕ × ℕ). Names more q.0 (nd (regex_at rs first) x.0)) (sym x.2)
            (target_names rs more first ahead extends l known x.0 x.1);
        second = subst (λ (q : ℕ × ℕ). Names more q.1 (nd (regex_at rs second) x.0)) (sym x.2)
            (target_names rs more second behind extends m other x.0 x.1);
      })
    ]
