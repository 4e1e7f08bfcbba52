-- Pairs of regexes to which a common word leads, as more of them come.
use Rattle.std.proofs.Common.{◌≡◌, ◌≢◌, ◌⊎◌, inl, inr, ℕ, suc, ◌+◌, ◌<◌, ◌≤◌, nat_eq, Bool, true, false, cond, ◌||◌, List, [], ◌∷◌, ◌++◌, length, get_or, take, refl, sym, ap, ap₂, subst, ◌∙◌, arith, append_assoc}
use Rattle.std.specs.Prelude.{nat_le}
use Rattle.std.specs.List.{list_any, list_all}
use Rattle.std.proofs.lemmas.Bool.{and_parts, and_from, or_cases, leb-true, leb-false, false≢true}
use Rattle.std.proofs.lemmas.List.{append-nil, get_or_append_left, get_or_default, take_more, take_all}
use Rattle.std.proofs.lemmas.List.Folds.{list_any-append, list_all-append, list_any_at}
use Rattle.indexmap.specs.IndexSet.{insert_key}
use Rattle.sb_word.specs.Words.{is_character, IsWord}
use Rattle.sb_lang.specs.Regex.{Regex, none}
use Rattle.sb_lang.specs.Derivative.{nullable, nd, nd_along}
use Rattle.sb_lang.specs.DerivativeLaws.{NullableHasEmptyWord, DerivativeHasRests, DerivativeAlongHasRests}
use Rattle.sb_lang.specs.Language.{language}
use Rattle.sb_regex.specs.Numbered.{regex_at, Names, AllNumbers, AreDistinct, Extends}
use Rattle.sb_regex.proofs.CallerLemmas.{at_kept, names_at, names_below, names_from, names_kept, number_kept}
use Rattle.sb_trace.specs.Tracking.{Traced, is_expanded_in}
use Rattle.sb_trace.specs.Reaching.{is_member, IsReached, IsReachedWithin, AreReachedWithin, ExpandsReachedOfTwo}
use Rattle.sb_trace.specs.Pairing.{is_pair, has_pair, PairsGrewTo, ArePairsKnown, IsPairReached, ArePairsReached, AddsSteps, IsPaired, LeadsToPairs, LeadsAt, PairsLeadUpTo, IsPartOf, ArePartsOf, has_parts, HavePartsUpTo, is_first, has_first}
use Rattle.sb_trace.proofs.Positions.{nat_same, same_nat}
use Rattle.sb_trace.proofs.Closures.{member_at}
use Rattle.sb_trace.proofs.Reached.{along_last}

left_of : (a b : Bool) → a ≡ true → (a || b) ≡ true
left_of true b h = refl
left_of false b h = absurd (false≢true h)

right_of : (a b : Bool) → b ≡ true → (a || b) ≡ true
right_of true b h = refl
right_of false b h = h

-- Pairs by place.

pub pair_same : (p q : ℕ × ℕ) → is_pair p q ≡ true → p ≡ q
pair_same p q h =
    let e = and_parts (nat_eq p.0 q.0) (nat_eq p.1 q.1) h in
    ap₂ (λ (a b : ℕ). (a, b)) (nat_same p.0 q.0 e.0) (nat_same p.1 q.1 e.1)

pub same_pair : (p : ℕ × ℕ) → is_pair p p ≡ true
same_pair p = and_from (nat_eq p.0 p.0) (nat_eq p.1 p.1) (same_nat p.0 p.0 refl) (same_nat p.1 p.1 refl)

pub has_at : (pairs : List (ℕ × ℕ)) (k : ℕ) → k < length pairs → has_pair pairs (get_or pairs k (0, 0)) ≡ true
has_at pairs k l =
    list_any_at (is_pair (get_or pairs k (0, 0))) pairs k (0, 0) l (same_pair (get_or pairs k (0, 0)))

any_place : (test : ℕ × ℕ → Bool) (pairs : List (ℕ × ℕ)) → list_any test pairs ≡ true
    → (k : ℕ) × (k < length pairs) × (test (get_or pairs k (0, 0)) ≡ true)
any_place test [] h = absurd (false≢true h)
any_place test (p ∷ pairs) h = step (test p) refl h (any_place test pairs)
  where
    step : (b : Bool) → test p ≡ b → (b || list_any test pairs) ≡ true
        → (list_any test pairs ≡ true → (k : ℕ) × (k < length pairs) × (test (get_or pairs k (0, 0)) ≡ true))
        → (k : ℕ) × (k < suc (length pairs)) × (test (get_or (p ∷ pairs) k (0, 0)) ≡ true)
    step true is h rest = (0, omega arith, is)
    step false is h rest =
        let r = rest h in
        let l = r.1 in
        (suc r.0, omega (arith, l), r.2)

pub place_of_pair : (pairs : List (ℕ × ℕ)) (p : ℕ × ℕ) → has_pair pairs p ≡ true
    → (k : ℕ) × (k < length pairs) × (get_or pairs k (0, 0) ≡ p)
place_of_pair pairs p h =
    let r = any_place (is_pair p) pairs h in
    (r.0, r.1, sym (pair_same p (get_or pairs r.0 (0, 0)) r.2))

-- Pairs that grow.

pub pairs_grew_none : (pairs : List (ℕ × ℕ)) → PairsGrewTo pairs pairs
pairs_grew_none pairs = ([], sym (append-nil pairs))

pub pairs_grew_both : (a b c : List (ℕ × ℕ)) → PairsGrewTo a b → PairsGrewTo b c → PairsGrewTo a c
pairs_grew_both a b c p q =
    (p.0 ++ q.0, q.1 ∙ ap (λ (ps : List (ℕ × ℕ)). ps ++ q.0) p.1 ∙ append_assoc a p.0 q.0)

pub pairs_grew_at : (old new : List (ℕ × ℕ)) (k : ℕ) → PairsGrewTo old new → k < length old
    → get_or new k (0, 0) ≡ get_or old k (0, 0)
pairs_grew_at old new k grew l =
    ap (λ (ps : List (ℕ × ℕ)). get_or ps k (0, 0)) grew.1 ∙ get_or_append_left old grew.0 (0, 0) k l

pub pair_stays : (old new : List (ℕ × ℕ)) (p : ℕ × ℕ) → PairsGrewTo old new → has_pair old p ≡ true
    → has_pair new p ≡ true
pair_stays old new p grew h =
    ap (list_any (is_pair p)) grew.1
    ∙ list_any-append (is_pair p) old grew.0
    ∙ left_of (has_pair old p) (list_any (is_pair p) grew.0) h

-- A pair that is added.

module _ (old new : List (ℕ × ℕ)) (p : ℕ × ℕ) (is : new ≡ insert_key is_pair old p) where
  pub pair_there : has_pair new p ≡ true
  pair_there = step (has_pair old p) refl is
    where
      step : (b : Bool) → has_pair old p ≡ b → new ≡ cond b old (old ++ p ∷ []) → has_pair new p ≡ true
      step true found is = ap (λ (ps : List (ℕ × ℕ)). has_pair ps p) is ∙ found
      step false found is =
          ap (λ (ps : List (ℕ × ℕ)). has_pair ps p) is
          ∙ list_any-append (is_pair p) old (p ∷ [])
          ∙ right_of (has_pair old p) (is_pair p p || false) (left_of (is_pair p p) false (same_pair p))

  pub pair_only : (q : ℕ × ℕ) → has_pair new q ≡ true → (has_pair old q || is_pair q p) ≡ true
  pair_only q h = step (has_pair old p) is
    where
      last : (a b : Bool) → (a || (b || false)) ≡ true → (a || b) ≡ true
      last true b h = refl
      last false true h = refl
      last false false h = h

      step : (b : Bool) → new ≡ cond b old (old ++ p ∷ []) → (has_pair old q || is_pair q p) ≡ true
      step true is =
          left_of (has_pair old q) (is_pair q p) (ap (λ (ps : List (ℕ × ℕ)). has_pair ps q) (sym is) ∙ h)
      step false is =
          last (has_pair old q) (is_pair q p)
          (sym (list_any-append (is_pair q) old (p ∷ [])) ∙ ap (λ (ps : List (ℕ × ℕ)). has_pair ps q) (sym is) ∙ h)

  pub pair_grew : PairsGrewTo old new
  pair_grew = step (has_pair old p) is
    where
      step : (b : Bool) → new ≡ cond b old (old ++ p ∷ []) → PairsGrewTo old new
      step true is = ([], is ∙ sym (append-nil old))
      step false is = (p ∷ [], is)

-- All pairs are known, or reached, where those are that came by one step.

pub known_more : (rs more : List Regex) (a b : Regex) (old new : List (ℕ × ℕ)) → Extends rs more
    → ArePairsKnown rs old → AddsSteps more a b old new → ArePairsKnown more new
known_more rs more a b old new extends known only p h = elim (only p h) [
  | inl there ↦
      let k = known p there in
      (number_kept rs more p.0 extends k.0, number_kept rs more p.1 extends k.1)
  | inr s ↦
      (names_below more p.0 (nd a s.character) s.first, names_below more p.1 (nd b s.character) s.second)
]

pub pairs_reached_later : (rs more : List Regex) (r g : Regex) (pairs : List (ℕ × ℕ)) → Extends rs more
    → ArePairsReached rs r g pairs → ArePairsReached more r g pairs
pairs_reached_later rs more r g pairs extends reached p h =
    let x = reached p h in
    record {
      word = x.word;
      characters = x.characters;
      first = names_kept rs more p.0 (nd_along r x.word) extends x.first;
      second = names_kept rs more p.1 (nd_along g x.word) extends x.second;
    }

pub reached_more : (rs more : List Regex) (r g : Regex) (p : ℕ × ℕ) (old new : List (ℕ × ℕ)) → Extends rs more
    → has_pair old p ≡ true → AddsSteps more (regex_at rs p.0) (regex_at rs p.1) old new
    → ArePairsReached rs r g old → ArePairsReached more r g new
reached_more rs more r g p old new extends here only reached q h = elim (only q h) [
  | inl there ↦ pairs_reached_later rs more r g old extends reached q there
  | inr s ↦
      let x = reached p here in
      let c = s.character in
      record {
        word = x.word ++ c ∷ [];
        characters = list_all-append is_character x.word (c ∷ [])
            ∙ and_from _ _ x.characters (and_from (is_character c) true s.is refl);
        first = subst (λ (a : Regex). Names more q.0 a)
            (ap (λ (a : Regex). nd a c) (names_at rs p.0 (nd_along r x.word) x.first) ∙ sym (along_last r x.word c))
            s.first;
        second = subst (λ (a : Regex). Names more q.1 a)
            (ap (λ (a : Regex). nd a c) (names_at rs p.1 (nd_along g x.word) x.second) ∙ sym (along_last g x.word c))
            s.second;
      }
]

-- One pair more leads to pairs.

paired_stays : (rs more : List Regex) (old new : List (ℕ × ℕ)) (a b : Regex) → Extends rs more → PairsGrewTo old new
    → IsPaired rs old a b → IsPaired more new a b
paired_stays rs more old new a b extends grew x = record {
  first = x.first;
  second = x.second;
  there = pair_stays old new (x.first, x.second) grew x.there;
  names_first = names_kept rs more x.first a extends x.names_first;
  names_second = names_kept rs more x.second b extends x.names_second;
}

leads_at : (rs more : List Regex) (old new : List (ℕ × ℕ)) (k : ℕ) → Extends rs more → PairsGrewTo old new
    → k < length old → ArePairsKnown rs old
    → LeadsToPairs more new (regex_at rs (get_or old k (0, 0)).0) (regex_at rs (get_or old k (0, 0)).1)
    → LeadsAt more new k
leads_at rs more old new k extends grew l known here =
    let p = get_or old k (0, 0) in
    let n = known p (has_at old k l) in
    subst (λ (q : ℕ × ℕ). LeadsToPairs more new (regex_at more q.0) (regex_at more q.1))
    (sym (pairs_grew_at old new k grew l))
    (subst (λ (a : Regex). LeadsToPairs more new a (regex_at more p.1)) (sym (at_kept rs more p.0 extends n.0))
    (subst (λ (b : Regex). LeadsToPairs more new (regex_at rs p.0) b) (sym (at_kept rs more p.1 extends n.1)) here))

pub pairs_lead_more : (rs more : List Regex) (old new : List (ℕ × ℕ)) (place : ℕ) → Extends rs more
    → PairsGrewTo old new → place < length old → ArePairsKnown rs old
    → LeadsToPairs more new (regex_at rs (get_or old place (0, 0)).0) (regex_at rs (get_or old place (0, 0)).1)
    → PairsLeadUpTo rs old place → PairsLeadUpTo more new (place + 1)
pairs_lead_more rs more old new place extends grew l known here before k low = step (nat_le place k) refl
  where
    step : (b : Bool) → nat_le place k ≡ b → LeadsAt more new k
    step true is =
        let high = leb-true place k is in
        let e : k ≡ place = omega (arith, high, low) in
        subst (λ (j : ℕ). LeadsAt more new j) (sym e) (leads_at rs more old new place extends grew l known here)
    step false is =
        let less : k < place = leb-false place k is in
        let there : k < length old = omega (arith, less, l) in
        leads_at rs more old new k extends grew there known
        (λ c character lives. paired_stays rs more old new (nd (regex_at rs (get_or old k (0, 0)).0) c)
        (nd (regex_at rs (get_or old k (0, 0)).1) c) extends grew (before k less c character lives))

pub pairs_lead_all : (rs : List Regex) (pairs : List (ℕ × ℕ)) (place : ℕ) → length pairs ≤ place
    → PairsLeadUpTo rs pairs place → PairsLeadUpTo rs pairs (length pairs)
pairs_lead_all rs pairs place l led k low = led k (omega (arith, l, low))

pub pairs_lead_later : (rs more : List Regex) (pairs : List (ℕ × ℕ)) → Extends rs more → ArePairsKnown rs pairs
    → PairsLeadUpTo rs pairs (length pairs) → PairsLeadUpTo more pairs (length pairs)
pairs_lead_later rs more pairs extends known led k low =
    leads_at rs more pairs pairs k extends (pairs_grew_none pairs) low known
    (λ c character lives. paired_stays rs more pairs pairs (nd (regex_at rs (get_or pairs k (0, 0)).0) c)
    (nd (regex_at rs (get_or pairs k (0, 0)).1) c) extends (pairs_grew_none pairs) (led k low c character lives))

pub known_later : (rs more : List Regex) (pairs : List (ℕ × ℕ)) → Extends rs more → ArePairsKnown rs pairs
    → ArePairsKnown more pairs
known_later rs more pairs extends known p h =
    let k = known p h in
    (number_kept rs more p.0 extends k.0, number_kept rs more p.1 extends k.1)

-- The parts of one pair more.

pub have_parts_more : (parts more : List ℕ) (old new : List (ℕ × ℕ)) (place : ℕ)
    → ((n : ℕ) → is_member parts n ≡ true → is_member more n ≡ true) → PairsGrewTo old new → place < length old
    → has_parts more (get_or old place (0, 0)) ≡ true → HavePartsUpTo parts old place
    → HavePartsUpTo more new (place + 1)
have_parts_more parts more old new place stay grew l here before k low = step (nat_le place k) refl
  where
    step : (b : Bool) → nat_le place k ≡ b → has_parts more (get_or new k (0, 0)) ≡ true
    step true is =
        let high = leb-true place k is in
        let e : k ≡ place = omega (arith, high, low) in
        subst (λ (j : ℕ). has_parts more (get_or new j (0, 0)) ≡ true) (sym e)
        (ap (has_parts more) (pairs_grew_at old new place grew l) ∙ here)
    step false is =
        let less : k < place = leb-false place k is in
        let there : k < length old = omega (arith, less, l) in
        let p = get_or old k (0, 0) in
        let both = and_parts (is_member parts p.0) (is_member parts p.1) (before k less) in
        ap (has_parts more) (pairs_grew_at old new k grew there)
        ∙ and_from (is_member more p.0) (is_member more p.1) (stay p.0 both.0) (stay p.1 both.1)

pub have_parts_all : (parts : List ℕ) (pairs : List (ℕ × ℕ)) (place : ℕ) → length pairs ≤ place
    → HavePartsUpTo parts pairs place → HavePartsUpTo parts pairs (length pairs)
have_parts_all parts pairs place l have k low = have k (omega (arith, l, low))

pub first_among : (parts : List ℕ) (pairs : List (ℕ × ℕ)) (p : ℕ × ℕ) → HavePartsUpTo parts pairs (length pairs)
    → has_pair pairs p ≡ true → is_member parts p.0 ≡ true
first_among parts pairs p have h =
    let x = place_of_pair pairs p h in
    let here = ap (has_parts parts) (sym x.2) ∙ have x.0 x.1 in
    (and_parts (is_member parts p.0) (is_member parts p.1) here).0

pub parts_more : (old new : List (ℕ × ℕ)) (parts more : List ℕ) (p : ℕ × ℕ) → PairsGrewTo old new
    → has_pair old p ≡ true
    → ((n : ℕ) → is_member more n ≡ true → (is_member parts n || (nat_eq n p.0 || nat_eq n p.1)) ≡ true)
    → ArePartsOf old parts → ArePartsOf new more
parts_more old new parts more p grew here only before n h = either (is_member parts n) refl (only n h)
  where
    either : (b : Bool) → is_member parts n ≡ b → (b || (nat_eq n p.0 || nat_eq n p.1)) ≡ true → IsPartOf new n
    either true is h = let x = before n is in
        (x.0, pair_stays old new x.0 grew x.1, x.2)
    either false is h = (p, pair_stays old new p grew here, h)

pub parts_later : (old new : List (ℕ × ℕ)) (parts : List ℕ) → PairsGrewTo old new → ArePartsOf old parts
    → ArePartsOf new parts
parts_later old new parts grew before n h = let x = before n h in
    (x.0, pair_stays old new x.0 grew x.1, x.2)

pub part_known : (rs : List Regex) (pairs : List (ℕ × ℕ)) (n : ℕ) → ArePairsKnown rs pairs → IsPartOf pairs n
    → n < length rs
part_known rs pairs n known x = let k = known x.0 x.1 in
    elim (or_cases (nat_eq n x.0.0) (nat_eq n x.0.1) x.2) [
      | inl e ↦ subst (λ (m : ℕ). m < length rs) (sym (nat_same n x.0.0 e)) k.0
      | inr e ↦ subst (λ (m : ℕ). m < length rs) (sym (nat_same n x.0.1 e)) k.1
    ]

pub parts_known : (rs : List Regex) (pairs : List (ℕ × ℕ)) (parts : List ℕ) → ArePairsKnown rs pairs
    → ArePartsOf pairs parts → AllNumbers rs parts
parts_known rs pairs parts known are k d l =
    subst (λ (n : ℕ). n < length rs) (get_or_default parts k 0 d l)
    (part_known rs pairs (get_or parts k 0) known (are (get_or parts k 0) (member_at parts k l)))

-- What is expanded is reached from one of the two.

pub part_reached : (rs : List Regex) (r g : Regex) (pairs : List (ℕ × ℕ)) (n : ℕ) → ArePairsReached rs r g pairs
    → IsPartOf pairs n → IsReached rs r n ⊎ IsReached rs g n
part_reached rs r g pairs n reached x =
    let y = reached x.0 x.1 in
    let first : IsReached rs r x.0.0 =
    record { word = y.word; characters = y.characters; along = y.first; wanted = tt } in
    let second : IsReached rs g x.0.1 =
    record { word = y.word; characters = y.characters; along = y.second; wanted = tt } in
    elim (or_cases (nat_eq n x.0.0) (nat_eq n x.0.1) x.2) [
      | inl e ↦ inl (subst (IsReached rs r) (sym (nat_same n x.0.0 e)) first)
      | inr e ↦ inr (subst (IsReached rs g) (sym (nat_same n x.0.1 e)) second)
    ]

pub expanded_of_two : (rs : List Regex) (r g : Regex) (pairs : List (ℕ × ℕ)) (t u : Traced)
    → ArePairsReached rs r g pairs
    → ((n : ℕ) → is_expanded_in u n ≡ true → (is_expanded_in t n ≡ true) ⊎ IsPartOf pairs n)
    → ExpandsReachedOfTwo rs r g t u
expanded_of_two rs r g pairs t u reached only n h = elim (only n h) [
  | inl before ↦ inl before
  | inr part ↦ inr (part_reached rs r g pairs n reached part)
]

-- what is expanded is a part, or was so before
pub expanded_part : (pairs : List (ℕ × ℕ)) (parts : List ℕ) (t u : Traced) → ArePartsOf pairs parts
    → ((n : ℕ) → is_expanded_in u n ≡ true → (is_member parts n || is_expanded_in t n) ≡ true) → (n : ℕ)
    → is_expanded_in u n ≡ true → (is_expanded_in t n ≡ true) ⊎ IsPartOf pairs n
expanded_part pairs parts t u are only n h = elim (or_cases (is_member parts n) (is_expanded_in t n) (only n h)) [
  | inl there ↦ inr (are n there)
  | inr before ↦ inl before
]

-- The first pair.

pub pairs_start : (rs : List Regex) (r g : ℕ) (start pairs : List (ℕ × ℕ)) → start ≡ [] → r < length rs → g < length rs
    → ((p : ℕ × ℕ) → has_pair pairs p ≡ true → (has_pair start p || is_pair p (r, g)) ≡ true)
    → ArePairsReached rs (regex_at rs r) (regex_at rs g) pairs
unfolding nd_along
pairs_start rs r g start pairs is l m only p h =
    let here : is_pair p (r, g) ≡ true =
    ap (λ (ps : List (ℕ × ℕ)). has_pair ps p || is_pair p (r, g)) (sym is) ∙ only p h in
    let e : p ≡ (r, g) = pair_same p (r, g) here in
    subst (IsPairReached rs (regex_at rs r) (regex_at rs g)) (sym e)
    (record {
      word = [];
      characters = refl;
      first = names_from rs r (regex_at rs r) l refl;
      second = names_from rs g (regex_at rs g) m refl;
    })

pub paired_start : (rs more : List Regex) (r g : ℕ) (old new : List (ℕ × ℕ)) → Extends rs more → r < length rs
    → g < length rs → PairsGrewTo old new → (regex_at rs g ≢ none → has_pair old (r, g) ≡ true)
    → regex_at rs g ≢ none → IsPaired more new (regex_at rs r) (regex_at rs g)
paired_start rs more r g old new extends l m grew there lives = record {
  first = r;
  second = g;
  there = pair_stays old new (r, g) grew (there lives);
  names_first = names_kept rs more r (regex_at rs r) extends (names_from rs r (regex_at rs r) l refl);
  names_second = names_kept rs more g (regex_at rs g) extends (names_from rs g (regex_at rs g) m refl);
}

pub reached_known : (rs : List Regex) (r g : Regex) (pairs : List (ℕ × ℕ)) → ArePairsReached rs r g pairs
    → ArePairsKnown rs pairs
reached_known rs r g pairs reached p h =
    let x = reached p h in
    (names_below rs p.0 (nd_along r x.word) x.first, names_below rs p.1 (nd_along g x.word) x.second)

-- The walk goes along each word of the guard.

none_empty : (b : Regex) (w : List ℕ) → language b w ≡ true → b ≢ none
unfolding language
none_empty b w h is = false≢true (ap (λ (r : Regex). language r w) (sym is) ∙ h)

leads_paired : (rs : List Regex) (pairs : List (ℕ × ℕ)) (a b : Regex) → PairsLeadUpTo rs pairs (length pairs)
    → IsPaired rs pairs a b → LeadsToPairs rs pairs a b
leads_paired rs pairs a b led x =
    let k = place_of_pair pairs (x.first, x.second) x.there in
    let here = subst (λ (p : ℕ × ℕ). LeadsToPairs rs pairs (regex_at rs p.0) (regex_at rs p.1)) k.2 (led k.0 k.1) in
    subst (λ (d : Regex). LeadsToPairs rs pairs a d) (names_at rs x.second b x.names_second)
    (subst (λ (d : Regex). LeadsToPairs rs pairs d (regex_at rs x.second)) (names_at rs x.first a x.names_first) here)

walk_along : (rests : DerivativeHasRests) (rs : List Regex) (pairs : List (ℕ × ℕ))
    → PairsLeadUpTo rs pairs (length pairs) → (w : List ℕ) → IsWord w → (a b : Regex) → IsPaired rs pairs a b
    → language b w ≡ true → IsPaired rs pairs (nd_along a w) (nd_along b w)
unfolding nd_along
walk_along rests rs pairs led [] characters a b x h = x
walk_along rests rs pairs led (c ∷ w) characters a b x h =
    let both = and_parts (is_character c) (list_all is_character w) characters in
    let next : language (nd b c) w ≡ true = rests b c w ∙ h in
    walk_along rests rs pairs led w both.1 (nd a c) (nd b c)
    (leads_paired rs pairs a b led x c both.0 (none_empty (nd b c) w next)) next

module _ (empty : NullableHasEmptyWord) (rests : DerivativeHasRests) (along : DerivativeAlongHasRests)
    (rs : List Regex) (r g : Regex) (pairs : List (ℕ × ℕ)) (apart : AreDistinct rs)
  where
    ends : (w : List ℕ) → language g w ≡ nullable (nd_along g w)
    ends w =
        sym (empty (nd_along g w) ∙ along g w [] ∙ ap (language g) (append-nil w))

    first_reached : (n : ℕ) → ArePairsReached rs r g pairs → has_first rs pairs n ≡ true → IsReachedWithin rs r g n
    first_reached n reached h =
        let k = any_place (is_first rs n) pairs h in
        let p = get_or pairs k.0 (0, 0) in
        let x = reached p (has_at pairs k.0 k.1) in
        let both = and_parts (nat_eq n p.0) (nullable (regex_at rs p.1)) k.2 in
        record {
          word = x.word;
          characters = x.characters;
          along = subst (λ (m : ℕ). Names rs m (nd_along r x.word)) (sym (nat_same n p.0 both.0)) x.first;
          wanted = ends x.word
              ∙ ap nullable (sym (names_at rs p.1 (nd_along g x.word) x.second)) ∙ both.1;
        }

    reached_first : (n : ℕ) → PairsLeadUpTo rs pairs (length pairs) → (g ≢ none → IsPaired rs pairs r g)
        → IsReachedWithin rs r g n → has_first rs pairs n ≡ true
    reached_first n led start x =
        let y = walk_along rests rs pairs led x.word x.characters r g (start (none_empty g x.word x.wanted)) x.wanted in
        let same : n ≡ y.first =
        apart n y.first (names_below rs n (nd_along r x.word) x.along)
        (names_below rs y.first (nd_along r x.word) y.names_first)
        (names_at rs n (nd_along r x.word) x.along ∙ sym (names_at rs y.first (nd_along r x.word) y.names_first)) in
        let k = place_of_pair pairs (y.first, y.second) y.there in
        list_any_at (is_first rs n) pairs k.0 (0, 0) k.1
        (ap (is_first rs n) k.2
        ∙ and_from (nat_eq n y.first) (nullable (regex_at rs y.second)) (same_nat n y.first same)
        (ap nullable (names_at rs y.second (nd_along g x.word) y.names_second) ∙ sym (ends x.word) ∙ x.wanted))

    pub members_exact : (members : List ℕ) → PairsLeadUpTo rs pairs (length pairs) → ArePairsReached rs r g pairs
        → (g ≢ none → IsPaired rs pairs r g) → ((n : ℕ) → is_member members n ≡ has_first rs pairs n)
        → AreReachedWithin rs r g members
    members_exact members led reached start are n = (
      λ h. first_reached n reached (sym (are n) ∙ h),
      λ x. are n ∙ reached_first n led start x,
    )

-- each of the firsts is expanded
pub firsts_expanded : (rs : List Regex) (pairs : List (ℕ × ℕ)) (members : List ℕ) (t : Traced)
    → ((n : ℕ) → is_member members n ≡ has_first rs pairs n)
    → ((p : ℕ × ℕ) → has_pair pairs p ≡ true → is_expanded_in t p.0 ≡ true) → (n : ℕ)
    → is_member members n ≡ true → is_expanded_in t n ≡ true
firsts_expanded rs pairs members t are expanded n h =
    let k = any_place (is_first rs n) pairs (sym (are n) ∙ h) in
    let p = get_or pairs k.0 (0, 0) in
    let both = and_parts (nat_eq n p.0) (nullable (regex_at rs p.1)) k.2 in
    ap (is_expanded_in t) (nat_same n p.0 both.0) ∙ expanded p (has_at pairs k.0 k.1)

-- One pair more whose first regex may be a member.

pub known_at : (rs : List Regex) (pairs : List (ℕ × ℕ)) (i : ℕ) (q : ℕ × ℕ) → ArePairsKnown rs pairs
    → i < length pairs → q ≡ get_or pairs i q → (q.0 < length rs) × (q.1 < length rs)
known_at rs pairs i q known l is =
    let same : get_or pairs i (0, 0) ≡ q = get_or_default pairs i (0, 0) q l ∙ sym is in
    subst (λ (p : ℕ × ℕ). (p.0 < length rs) × (p.1 < length rs)) same
    (known (get_or pairs i (0, 0)) (has_at pairs i l))

pub firsts_more : (rs : List Regex) (pairs : List (ℕ × ℕ)) (i : ℕ) (q : ℕ × ℕ) (old new : List ℕ) → i < length pairs
    → q ≡ get_or pairs i q
    → ((n : ℕ) → is_member new n ≡ (is_member old n || is_first rs n (q.0, q.1)))
    → ((n : ℕ) → is_member old n ≡ has_first rs (take i pairs) n) → (n : ℕ)
    → is_member new n ≡ has_first rs (take (i + 1) pairs) n
firsts_more rs pairs i q old new l is here before n =
    here n
    ∙ ap (λ b. b || is_first rs n q) (before n)
    ∙ last (has_first rs (take i pairs) n) (is_first rs n q)
    ∙ sym (list_any-append (is_first rs n) (take i pairs) (q ∷ []))
    ∙ ap (λ (ps : List (ℕ × ℕ)). has_first rs ps n)
    (sym (take_more pairs i q l ∙ ap (λ (p : ℕ × ℕ). take i pairs ++ p ∷ []) (sym is)))
  where
    last : (a b : Bool) → (a || b) ≡ (a || (b || false))
    last true b = refl
    last false true = refl
    last false false = refl

pub firsts_all : (rs : List Regex) (pairs : List (ℕ × ℕ)) (i : ℕ) (members : List ℕ) → length pairs ≤ i
    → ((n : ℕ) → is_member members n ≡ has_first rs (take i pairs) n) → (n : ℕ)
    → is_member members n ≡ has_first rs pairs n
firsts_all rs pairs i members l before n =
    before n ∙ ap (λ (ps : List (ℕ × ℕ)). has_first rs ps n) (take_all i pairs l)
