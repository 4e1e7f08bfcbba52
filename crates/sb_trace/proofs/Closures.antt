-- Members that are closed under derivatives, as more of them come.
use Rattle.std.proofs.Common.{◌≡◌, ℕ, zero, suc, ◌+◌, ◌<◌, ◌≤◌, nat_eq, Bool, true, false, cond, not, ◌&&◌, ◌||◌, List, [], ◌∷◌, ◌++◌, length, get_or, slice_get, take, Some, is_some, refl, sym, ap, ap₂, subst, ◌∙◌, arith, append_assoc}
use Rattle.std.specs.Prelude.{nat_le}
use Rattle.std.specs.List.{list_all, list_any, All}
use Rattle.std.proofs.lemmas.Bool.{and_parts, and_from, not_from_false, le-leb, leb-true, leb-false, false≢true}
use Rattle.std.proofs.lemmas.List.{append-nil, get_or_append_left, get_or_default, take_more, take_all, map-append}
use Rattle.std.proofs.lemmas.List.Folds.{list_all-append, list_any-append, list_any_at}
use Rattle.sb_word.specs.Words.{is_character}
use Rattle.sb_lang.specs.Regex.{Regex}
use Rattle.sb_lang.specs.Derivative.{nd}
use Rattle.sb_regex.specs.Numbered.{regex_at, AreDistinct, AllNumbers, Extends}
use Rattle.sb_regex.proofs.CallerLemmas.{names_at, names_below, one_number, number_kept as number_grows}
use Rattle.sb_deriv.specs.Faithful.{Memo, IsKnown, KeepsEntries}
use Rattle.sb_deriv.specs.Pieces.{value_from, rises, end_of_characters, targets_of}
use Rattle.sb_deriv.proofs.CallerLemmas.{above_stays, rises_head, rises_rest, rises_le, covers_rises}
use Rattle.sb_graph.specs.Findings.{is_marked, HasMark, IsBarren}
use Rattle.sb_trace.specs.Tracking.{Traced, is_dead_in, is_expanded_in}
use Rattle.sb_trace.proofs.Positions.{nat_same, same_nat}
use Rattle.sb_trace.proofs.Numbering.{expanded_told}
use Rattle.sb_trace.proofs.DeadLines.{or_first}
use Rattle.sb_trace.specs.Defining.{IsNumbered}
use Rattle.sb_trace.specs.Reaching.{is_member, IsClosed}
use Rattle.sb_trace.specs.Closing.{is_met, is_unburied, IsLed, AreLedUpTo, IsClosedIn, AreClosedUpTo, GrewTo}

-- Members that grow.

pub grew_none : (members : List ℕ) → GrewTo members members
grew_none members = ([], sym (append-nil members))

pub grew_both : (a b c : List ℕ) → GrewTo a b → GrewTo b c → GrewTo a c
grew_both a b c p q = (p.0 ++ q.0, q.1 ∙ ap (λ members. members ++ q.0) p.1 ∙ append_assoc a p.0 q.0)

pub grew_at : (old new : List ℕ) (k : ℕ) → GrewTo old new → k < length old → get_or new k 0 ≡ get_or old k 0
grew_at old new k grew l = ap (λ members. get_or members k 0) grew.1 ∙ get_or_append_left old grew.0 0 k l

member_stays : (old new : List ℕ) (n : ℕ) → GrewTo old new → is_member old n ≡ true → is_member new n ≡ true
member_stays old new n grew h =
    ap (list_any (nat_eq n)) grew.1
    ∙ list_any-append (nat_eq n) old grew.0
    ∙ or_first (is_member old n) (list_any (nat_eq n) grew.0) h

-- a regex stays met where members grow and the dead ones stay
pub met_stays : (skips : Bool) (t u : Traced) (old new : List ℕ) → ((n : ℕ) → is_dead_in u n ≡ is_dead_in t n)
    → GrewTo old new → (n : ℕ) → is_met skips t old n ≡ true → is_met skips u new n ≡ true
met_stays skips t u old new buried grew n h =
    either (is_member old n) (is_member new n) (skips && is_dead_in t n) (skips && is_dead_in u n)
    (member_stays old new n grew) (ap (λ b. skips && b) (buried n)) h
  where
    either : (a b d e : Bool) → (a ≡ true → b ≡ true) → e ≡ d → (a || d) ≡ true → (b || e) ≡ true
    either true b d e more same h = or_first b e (more refl)
    either false true d e more same h = refl
    either false false d e more same h = same ∙ h

all_stays : (p q : ℕ → Bool) → ((n : ℕ) → p n ≡ true → q n ≡ true) → (ns : List ℕ) → list_all p ns ≡ true
    → list_all q ns ≡ true
all_stays p q more [] h = refl
all_stays p q more (n ∷ ns) h =
    let parts = and_parts (p n) (list_all p ns) h in
    and_from (q n) (list_all q ns) (more n parts.0) (all_stays p q more ns parts.1)

pub all_met_stay : (skips : Bool) (t u : Traced) (old new ns : List ℕ)
    → ((n : ℕ) → is_dead_in u n ≡ is_dead_in t n) → GrewTo old new → list_all (is_met skips t old) ns ≡ true
    → list_all (is_met skips u new) ns ≡ true
all_met_stay skips t u old new ns buried grew h =
    all_stays (is_met skips t old) (is_met skips u new) (met_stays skips t u old new buried grew) ns h

pub unburied_stay : (marks more : List Bool) (t u : Traced) (ms : List ℕ) → more ≡ marks
    → ((n : ℕ) → is_dead_in u n ≡ is_dead_in t n) → list_all (is_unburied marks t) ms ≡ true
    → list_all (is_unburied more u) ms ≡ true
unburied_stay marks more t u ms same buried h =
    all_stays (is_unburied marks t) (is_unburied more u)
    (λ n here. ap₂ (λ (ds : List Bool) d. is_marked ds n && not d) same (buried n) ∙ here) ms h

-- Targets, one more in each step.

pub target_at : (p : ℕ → Bool) (pieces : List (ℕ × ℕ)) (i : ℕ) (q : ℕ × ℕ) → list_all p (targets_of pieces) ≡ true
    → i < length pieces → q ≡ get_or pieces i q → p q.1 ≡ true
target_at p [] i q h l is = absurd (omega (arith, l))
target_at p (x ∷ xs) zero q h l is =
    let e : q ≡ x = is in
    subst (λ (r : ℕ × ℕ). p r.1 ≡ true) (sym e) (and_parts (p x.1) (list_all p (targets_of xs)) h).0
target_at p (x ∷ xs) (suc i) q h l is =
    target_at p xs i q (and_parts (p x.1) (list_all p (targets_of xs)) h).1 (omega (arith, l)) is

targets_more : (pieces : List (ℕ × ℕ)) (i : ℕ) (q : ℕ × ℕ) → i < length pieces → q ≡ get_or pieces i q
    → targets_of (take (i + 1) pieces) ≡ targets_of (take i pieces) ++ q.1 ∷ []
targets_more pieces i q l is =
    ap targets_of (take_more pieces i q l ∙ ap (λ (r : ℕ × ℕ). take i pieces ++ r ∷ []) (sym is))
    ∙ map-append (λ (r : ℕ × ℕ). r.1) (take i pieces) (q ∷ [])

pub met_more : (skips : Bool) (t : Traced) (old new : List ℕ) (pieces : List (ℕ × ℕ)) (i : ℕ) (q : ℕ × ℕ)
    → GrewTo old new → i < length pieces → q ≡ get_or pieces i q → is_met skips t new q.1 ≡ true
    → list_all (is_met skips t old) (targets_of (take i pieces)) ≡ true
    → list_all (is_met skips t new) (targets_of (take (i + 1) pieces)) ≡ true
met_more skips t old new pieces i q grew l is here before =
    ap (list_all (is_met skips t new)) (targets_more pieces i q l is)
    ∙ list_all-append (is_met skips t new) (targets_of (take i pieces)) (q.1 ∷ [])
    ∙ and_from (list_all (is_met skips t new) (targets_of (take i pieces))) (is_met skips t new q.1 && true)
    (all_met_stay skips t t old new (targets_of (take i pieces)) (λ n. refl) grew before)
    (and_from (is_met skips t new q.1) true here refl)

pub met_all : (skips : Bool) (t : Traced) (members : List ℕ) (pieces : List (ℕ × ℕ)) (i : ℕ) → length pieces ≤ i
    → list_all (is_met skips t members) (targets_of (take i pieces)) ≡ true
    → list_all (is_met skips t members) (targets_of pieces) ≡ true
met_all skips t members pieces i l h =
    ap (λ (xs : List (ℕ × ℕ)). list_all (is_met skips t members) (targets_of xs)) (sym (take_all i pieces l)) ∙ h

-- new members are old ones or targets
pub from_more : (first old new : List ℕ) (pieces : List (ℕ × ℕ)) (i : ℕ) (q : ℕ × ℕ) → i < length pieces
    → q ≡ get_or pieces i q
    → ((n : ℕ) → is_member new n ≡ true → (is_member old n || nat_eq n q.1) ≡ true)
    → ((n : ℕ) → is_member old n ≡ true → (is_member first n || is_member (targets_of (take i pieces)) n) ≡ true)
    → (n : ℕ) → is_member new n ≡ true → (is_member first n || is_member (targets_of (take (i + 1) pieces)) n) ≡ true
from_more first old new pieces i q l is now before n h =
    ap (λ ns. is_member first n || is_member ns n) (targets_more pieces i q l is)
    ∙ ap (λ b. is_member first n || b) (list_any-append (nat_eq n) (targets_of (take i pieces)) (q.1 ∷ []))
    ∙ either (is_member old n) (is_member first n) (is_member (targets_of (take i pieces)) n) (nat_eq n q.1) (now n h)
    (before n)
  where
    either : (o f t e : Bool) → (o || e) ≡ true → (o ≡ true → (f || t) ≡ true) → (f || (t || (e || false))) ≡ true
    either o true t e h g = refl
    either o false true e h g = refl
    either true false false e h g = absurd (false≢true (g refl))
    either false false false true h g = refl
    either false false false false h g = h

pub from_all : (first new : List ℕ) (pieces : List (ℕ × ℕ)) (i : ℕ) → length pieces ≤ i
    → ((n : ℕ) → is_member new n ≡ true → (is_member first n || is_member (targets_of (take i pieces)) n) ≡ true)
    → (n : ℕ) → is_member new n ≡ true → (is_member first n || is_member (targets_of pieces) n) ≡ true
from_all first new pieces i l h n here =
    ap (λ (xs : List (ℕ × ℕ)). is_member first n || is_member (targets_of xs) n) (sym (take_all i pieces l)) ∙ h n here

-- The targets of a regex with a mark have marks.

target_marked : (rs : List Regex) (dead : List Bool) (r : Regex) (t : ℕ) → AreDistinct rs → t < length rs
    → regex_at rs t ≡ r → HasMark rs dead r → is_marked dead t ≡ true
target_marked rs dead r t apart known same mark =
    let e : mark.number ≡ t = apart mark.number t (names_below rs mark.number r mark.names) known
    (names_at rs mark.number r mark.names ∙ sym same) in
    ap (is_marked dead) (sym e) ∙ mark.marked

pub value_of_first : (d n : ℕ) (p : ℕ × ℕ) (ps : List (ℕ × ℕ)) → rises n (p ∷ ps) end_of_characters ≡ true
    → value_from d (p ∷ ps) p.0 ≡ p.1
unfolding value_from
value_of_first d n p ps h =
    ap (λ b. value_from (cond b p.1 d) ps p.0) (le-leb p.0 p.0 (omega arith))
    ∙ above_stays p.1 (suc p.0) ps end_of_characters p.0 (rises_rest n p ps end_of_characters h) (omega arith)

pub value_passes : (d : ℕ) (p : ℕ × ℕ) (ps : List (ℕ × ℕ)) (c : ℕ) → p.0 ≤ c
    → value_from d (p ∷ ps) c ≡ value_from p.1 ps c
unfolding value_from
value_passes d p ps c l = ap (λ b. value_from (cond b p.1 d) ps c) (le-leb p.0 c l)

pieces_marked : (rs : List Regex) (dead : List Bool) (r : Regex) (d n : ℕ) (ps : List (ℕ × ℕ)) → AreDistinct rs
    → rises n ps end_of_characters ≡ true → ((k e : ℕ) → k < length (targets_of ps)
    → get_or (targets_of ps) k e < length rs)
    → ((c : ℕ) → n ≤ c → is_character c ≡ true → regex_at rs (value_from d ps c) ≡ nd r c)
    → ((c : ℕ) → is_character c ≡ true → HasMark rs dead (nd r c))
    → list_all (is_marked dead) (targets_of ps) ≡ true
pieces_marked rs dead r d n [] apart rising known values closed = refl
pieces_marked rs dead r d n (p ∷ ps) apart rising known values closed =
    let start = rises_head n (p ∷ ps) end_of_characters rising in
    let rest = rises_rest n p ps end_of_characters rising in
    let low = rises_le (suc p.0) ps end_of_characters rest in
    let is : is_character p.0 ≡ true = le-leb p.0 0x2ffff (omega (arith, low)) in
    and_from (is_marked dead p.1) (list_all (is_marked dead) (targets_of ps))
    (target_marked rs dead (nd r p.0) p.1 apart (known 0 0 (omega arith))
    (ap (regex_at rs) (sym (value_of_first d n p ps rising)) ∙ values p.0 start is) (closed p.0 is))
    (pieces_marked rs dead r p.1 (suc p.0) ps apart rest (λ k e l. known (suc k) e (omega (arith, l)))
    (λ c l character. ap (regex_at rs) (sym (value_passes d p ps c (omega (arith, l))))
    ∙ values c (omega (arith, l, start)) character) closed)

pub targets_marked : (rs : List Regex) (dead : List Bool) (n : ℕ) (pieces : List (ℕ × ℕ)) → AreDistinct rs
    → IsBarren rs dead n → IsKnown rs n pieces → list_all (is_marked dead) (targets_of pieces) ≡ true
targets_marked rs dead n pieces apart barren known =
    pieces_marked rs dead (regex_at rs n) 0 0 pieces apart
    (covers_rises pieces end_of_characters known.derivative.ordered.whole) known.derivative.targets
    (λ c l character. known.derivative.values c character) barren.closed

-- One member more is closed.

pub unburied_at : (marks : List Bool) (t : Traced) (ms : List ℕ) (k : ℕ) → list_all (is_unburied marks t) ms ≡ true
    → k < length ms → is_marked marks (get_or ms k 0) ≡ true
unburied_at marks t [] k h l = absurd (omega (arith, l))
unburied_at marks t (m ∷ ms) zero h l =
    (and_parts (is_marked marks m) (not (is_dead_in t m))
    (and_parts (is_unburied marks t m) (list_all (is_unburied marks t) ms) h).0).0
unburied_at marks t (m ∷ ms) (suc k) h l =
    unburied_at marks t ms k (and_parts (is_unburied marks t m) (list_all (is_unburied marks t) ms) h).1
    (omega (arith, l))

led_stays : (memo more : Memo) (skips : Bool) (t u : Traced) (old new : List ℕ) (n : ℕ) → KeepsEntries memo more
    → ((n : ℕ) → is_dead_in u n ≡ is_dead_in t n) → GrewTo old new → IsLed memo skips t old n
    → IsLed more skips u new n
led_stays memo more skips t u old new n keeps buried grew c = record {
  pieces = c.pieces;
  derivative = keeps n c.pieces c.derivative;
  met = all_met_stay skips t u old new (targets_of c.pieces) buried grew c.met;
}

pub led_more : (memo more : Memo) (skips : Bool) (t : Traced) (old new : List ℕ) (place : ℕ) → KeepsEntries memo more
    → GrewTo old new → place < length old → IsLed more skips t new (get_or old place 0)
    → AreLedUpTo memo skips t old place → AreLedUpTo more skips t new (place + 1)
led_more memo more skips t old new place keeps grew l here before k low = step (nat_le place k) refl
  where
    step : (b : Bool) → nat_le place k ≡ b → IsLed more skips t new (get_or new k 0)
    step true is =
        let high = leb-true place k is in
        let e : k ≡ place = omega (arith, high, low) in
        subst (λ (j : ℕ). IsLed more skips t new (get_or new j 0)) (sym e)
        (subst (λ (n : ℕ). IsLed more skips t new n) (sym (grew_at old new place grew l)) here)
    step false is =
        let less : k < place = leb-false place k is in
        let there : k < length old = omega (arith, less, l) in
        subst (λ (n : ℕ). IsLed more skips t new n) (sym (grew_at old new k grew there))
        (led_stays memo more skips t t old new (get_or old k 0) keeps (λ n. refl) grew (before k less))

-- all members at a place behind the last one
pub led_all : (memo : Memo) (skips : Bool) (t : Traced) (members : List ℕ) (place : ℕ) → length members ≤ place
    → AreLedUpTo memo skips t members place → AreLedUpTo memo skips t members (length members)
led_all memo skips t members place l led k low = led k (omega (arith, l, low))

-- where more regexes are expanded
pub led_later : (memo more : Memo) (skips : Bool) (t u : Traced) (members : List ℕ) → KeepsEntries memo more
    → ((n : ℕ) → is_dead_in u n ≡ is_dead_in t n) → AreLedUpTo memo skips t members (length members)
    → AreLedUpTo more skips u members (length members)
led_later memo more skips t u members keeps buried led k low =
    led_stays memo more skips t u members members (get_or members k 0) keeps buried (grew_none members) (led k low)

-- Members by place, and by number.

pub member_at : (members : List ℕ) (k : ℕ) → k < length members → is_member members (get_or members k 0) ≡ true
member_at members k l =
    list_any_at (nat_eq (get_or members k 0)) members k 0 l (same_nat (get_or members k 0) (get_or members k 0) refl)

pub place_of : (members : List ℕ) (n : ℕ) → is_member members n ≡ true
    → (k : ℕ) × (k < length members) × (get_or members k 0 ≡ n)
place_of [] n h = absurd (false≢true h)
place_of (m ∷ members) n h = step (nat_eq n m) refl h (place_of members n)
  where
    step : (b : Bool) → nat_eq n m ≡ b → (b || is_member members n) ≡ true
        → (is_member members n ≡ true → (k : ℕ) × (k < length members) × (get_or members k 0 ≡ n))
        → (k : ℕ) × (k < suc (length members)) × (get_or (m ∷ members) k 0 ≡ n)
    step true is h rest = (0, omega arith, sym (nat_same n m is))
    step false is h rest =
        let r = rest h in
        let l = r.1 in
        (suc r.0, omega (arith, l), r.2)

pub led_closed : (memo : Memo) (t : Traced) (members : List ℕ) → AreLedUpTo memo false t members (length members)
    → IsClosed memo members
led_closed memo t members led n h =
    let p = place_of members n h in
    let here = subst (λ m. IsLed memo false t members m) p.2 (led p.0 p.1) in
    record {
      pieces = here.pieces;
      derivative = here.derivative;
      within = all_stays (is_met false t members) (is_member members) (λ m. or_false (is_member members m))
          (targets_of here.pieces) here.met;
    }
  where
    or_false : (b : Bool) → (b || false) ≡ true → b ≡ true
    or_false true h = refl
    or_false false h = h

-- where each member is expanded
pub closed_in : (memo : Memo) (t : Traced) (members : List ℕ) → AreLedUpTo memo true t members (length members)
    → ((n : ℕ) → is_member members n ≡ true → is_expanded_in t n ≡ true)
    → AreClosedUpTo memo t members (length members)
closed_in memo t members led expanded k low =
    let here = led k low in
    record {
      expanded = expanded_told t (get_or members k 0) (expanded (get_or members k 0) (member_at members k low));
      pieces = here.pieces;
      derivative = here.derivative;
      settled = here.met;
    }

pub members_expanded : (t u : Traced) (members : List ℕ)
    → ((n : ℕ) → is_expanded_in u n ≡ (is_member members n || is_expanded_in t n)) → (n : ℕ)
    → is_member members n ≡ true → is_expanded_in u n ≡ true
members_expanded t u members all n h = all n ∙ or_first (is_member members n) (is_expanded_in t n) h

-- Numbers of members, where more of them come.

pub numbers_from : (rs more : List Regex) (old new ns : List ℕ) → Extends rs more → AllNumbers rs old
    → AllNumbers more ns
    → ((n : ℕ) → is_member new n ≡ true → (is_member old n || is_member ns n) ≡ true) → AllNumbers more new
numbers_from rs more old new ns extends known targets only k d l =
    subst (λ n. n < length more) (get_or_default new k 0 d l)
    (either (is_member old n) refl (only n (member_at new k l)))
  where
    n : ℕ
    n = get_or new k 0

    either : (b : Bool) → is_member old n ≡ b → (b || is_member ns n) ≡ true → n < length more
    either true is h =
        let p = place_of old n is in
        number_grows rs more n extends (subst (λ m. m < length rs) p.2 (known p.0 0 p.1))
    either false is h = let p = place_of ns n h in subst (λ m. m < length more) p.2 (targets p.0 0 p.1)

-- What is closed has a number.

numbered : (memo : Memo) (t : Traced) (members : List ℕ) (n : ℕ) → IsClosedIn memo t members n → IsNumbered t.order n
numbered memo t members n c = ap is_some c.expanded.1

pub closed_numbered : (memo : Memo) (t : Traced) (members : List ℕ) → AreClosedUpTo memo t members (length members)
    → All (IsNumbered t.order) members
closed_numbered memo t members closed k d l =
    subst (IsNumbered t.order) (get_or_default members k 0 d l)
    (numbered memo t members (get_or members k 0) (closed k l))

-- A regex that is alone among members, and then the first of them.

pub numbers_alone : (rs : List Regex) (n : ℕ) (members : List ℕ) → members ≡ n ∷ [] → n < length rs
    → AllNumbers rs members
numbers_alone rs n members is l = subst (AllNumbers rs) (sym is) (one_number rs n l)

pub first_member : (n : ℕ) (first members : List ℕ) → first ≡ n ∷ [] → GrewTo first members
    → slice_get members 0 ≡ Some n
first_member n first members is grew = ap (λ (ms : List ℕ). slice_get ms 0) (grew.1 ∙ ap (λ ms. ms ++ grew.0) is)

pub unburied_alone : (marks : List Bool) (t : Traced) (n : ℕ) (members : List ℕ) → members ≡ n ∷ []
    → is_marked marks n ≡ true → is_dead_in t n ≡ false → list_all (is_unburied marks t) members ≡ true
unburied_alone marks t n members is mark alive =
    ap (list_all (is_unburied marks t)) is
    ∙ and_from (is_unburied marks t n) true
    (and_from (is_marked marks n) (not (is_dead_in t n)) mark (not_from_false (is_dead_in t n) alive)) refl

pub first_dead : (t : Traced) (n : ℕ) (first members : List ℕ) → first ≡ n ∷ [] → GrewTo first members
    → list_all (is_dead_in t) members ≡ true → is_dead_in t n ≡ true
first_dead t n first members is grew h =
    let all : list_all (is_dead_in t) (n ∷ grew.0) ≡ true =
    ap (list_all (is_dead_in t)) (sym (grew.1 ∙ ap (λ ms. ms ++ grew.0) is)) ∙ h in
    (and_parts (is_dead_in t n) (list_all (is_dead_in t) grew.0) all).0
