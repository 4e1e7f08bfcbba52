-- The tables of a trail when an entry is added or taken off, and when atoms get a place.
use Rattle.std.proofs.Common.{◌≡◌, ◌≢◌, ℕ, zero, suc, ◌+◌, ◌-◌, ◌<◌, ◌≤◌, Bool, cond, eqb, List, [], ◌∷◌, ◌++◌, length, get_or, set, take, replicate, Option, Some, None, refl, sym, ◌∙◌, ap, inl, inr, arith}
use Rattle.std.specs.Option.{option_map}
use Rattle.std.specs.List.{slice_get, count_by}
use Rattle.std.proofs.lemmas.Bool.{cases_eq, cases_lt, eqb-true, ne_eqb}
use Rattle.std.proofs.lemmas.Option.{none-some}
use Rattle.std.proofs.lemmas.List.{length-append, length-set, length-replicate, length_push, get_or-set_same, get_or-set_other, take_all}
use Rattle.std.proofs.lemmas.List.Sums.{sum_by-set}
use Rattle.sb_trail.specs.declared.assigned.Assigned.{Assigned}
use Rattle.sb_trail.specs.Assignments.{entry_of, current_level, level_behind}
use Rattle.sb_trail.specs.Tables.{Tabulates, IsPlace, Locates, AreTables}
use Rattle.sb_trail.proofs.EntryLemmas.{cond_cases, entry_of-push_same, entry_of-push_other, entry_of-push_none, AreDistinct-push, AreDistinct-pop, AreLevelled-push, AreLevelled-pop}

Tabulates-push : {T : Type 0} (f : Assigned → T) (es : List Assigned) (e : Assigned) (table : List (Option T))
    → Tabulates f es table → entry_of es e.literal.atom ≡ None
    → Tabulates f (es ++ e ∷ []) (set table e.literal.atom (Some (f e)))
Tabulates-push f es e table h none a within =
    let place : a < length table = omega (arith, length-set table e.literal.atom (Some (f e))) in
    elim (cases_eq e.literal.atom a) [
      | inl same ↦
          rw (← same) (get_or-set_same table e.literal.atom (Some (f e)) None (rw (← same) at place)
          ∙ ap (option_map f) (sym (entry_of-push_same es e none)))
      | inr other ↦
          get_or-set_other table e.literal.atom a (Some (f e)) None (λ same. other (sym same)) ∙ h a place
          ∙ ap (option_map f) (sym (entry_of-push_other es e a other))
    ]

Tabulates-pop : {T : Type 0} (f : Assigned → T) (es : List Assigned) (e : Assigned) (table : List (Option T))
    → Tabulates f (es ++ e ∷ []) table → entry_of es e.literal.atom ≡ None
    → Tabulates f es (set table e.literal.atom None)
Tabulates-pop f es e table h none a within =
    let place : a < length table = omega (arith, length-set table e.literal.atom None) in
    elim (cases_eq e.literal.atom a) [
      | inl same ↦
          rw (← same) (get_or-set_same table e.literal.atom None None (rw (← same) at place)
          ∙ ap (option_map f) (sym none))
      | inr other ↦
          get_or-set_other table e.literal.atom a None None (λ same. other (sym same)) ∙ h a place
          ∙ ap (option_map f) (entry_of-push_other es e a other)
    ]

pub length-grown : {X : Type 0} (xs : List X) (n : ℕ) (y : X) → length xs ≤ n
    → length (take n xs ++ replicate (n - length xs) y) ≡ n
length-grown xs n y more =
    omega (
      arith,
      length-append (take n xs) (replicate (n - length xs) y),
      ap length (take_all n xs more),
      length-replicate (n - length xs) y,
    )

-- the entry of an atom is of it
entry_atom : (es : List Assigned) (a : ℕ) (e : Assigned) → entry_of es a ≡ Some e → e.literal.atom ≡ a
entry_atom [] a e is = absurd (none-some e is)
entry_atom (x ∷ xs) a e is =
    elim (cond_cases (eqb x.literal.atom a) x e (entry_of xs a) is) [
      | inl here ↦ ap (λ (y : Assigned). y.literal.atom) (sym here.1) ∙ eqb-true x.literal.atom a here.0
      | inr later ↦ entry_atom xs a e later.1
    ]

get_front : (es fs : List Assigned) (k : ℕ) → k < length es → slice_get (es ++ fs) k ≡ slice_get es k
get_front [] fs k within = absurd (omega arith)
get_front (x ∷ xs) fs zero within = refl
get_front (x ∷ xs) fs (suc k) within = get_front xs fs k (omega arith)

get_last : (es : List Assigned) (e : Assigned) → slice_get (es ++ e ∷ []) (length es) ≡ Some e
get_last [] e = refl
get_last (x ∷ xs) e = get_last xs e

-- an entry stays where it is when one comes behind it,
place_more : (es : List Assigned) (e : Assigned) (n : ℕ) (o : Option Assigned) → IsPlace es n o
    → IsPlace (es ++ e ∷ []) n o
place_more es e n None h = h
place_more es e n (Some x) h =
    (h.0, omega (arith, h.1, length_push es e), get_front es (e ∷ []) (n - 1) (omega (arith, h.0, h.1)) ∙ h.2)

-- and when another one goes that stands behind it
place_less : (es : List Assigned) (e : Assigned) (n : ℕ) (o : Option Assigned) → (o ≡ Some e → ⊥)
    → IsPlace (es ++ e ∷ []) n o → IsPlace es n o
place_less es e n None other h = h
place_less es e n (Some x) other h =
    elim (cases_lt (n - 1) (length es)) [
      | inl within ↦ (h.0, omega (arith, within, h.0), sym (get_front es (e ∷ []) (n - 1) within) ∙ h.2)
      | inr past ↦
          let at_end : n - 1 ≡ length es = omega (arith, past, h.0, h.1, length_push es e) in
          absurd (other (sym h.2 ∙ ap (slice_get (es ++ e ∷ [])) at_end ∙ get_last es e))
    ]

Locates-push : (es : List Assigned) (e : Assigned) (table : List ℕ) → Locates es table
    → entry_of es e.literal.atom ≡ None
    → Locates (es ++ e ∷ []) (set table e.literal.atom (length es + 1))
Locates-push es e table h none a within =
    let place : a < length table = omega (arith, length-set table e.literal.atom (length es + 1)) in
    elim (cases_eq e.literal.atom a) [
      | inl same ↦
          let last : IsPlace (es ++ e ∷ []) (length es + 1) (Some e) = (
            omega arith,
            omega (arith, length_push es e),
            ap (slice_get (es ++ e ∷ [])) (omega arith) ∙ get_last es e,
          ) in
          rw (← same) (rw (
            get_or-set_same table e.literal.atom (length es + 1) 0 (rw (← same) at place),
            entry_of-push_same es e none,
          ) last)
      | inr other ↦
          rw (
            get_or-set_other table e.literal.atom a (length es + 1) 0 (λ same. other (sym same)),
            entry_of-push_other es e a other,
          ) (place_more es e (get_or table a 0) (entry_of es a) (h a place))
    ]

Locates-pop : (es : List Assigned) (e : Assigned) (table : List ℕ) → Locates (es ++ e ∷ []) table
    → entry_of es e.literal.atom ≡ None → Locates es (set table e.literal.atom 0)
Locates-pop es e table h none a within =
    let place : a < length table = omega (arith, length-set table e.literal.atom 0) in
    elim (cases_eq e.literal.atom a) [
      | inl same ↦
          rw (← same) (rw (get_or-set_same table e.literal.atom 0 0 (rw (← same) at place), none) refl)
      | inr other ↦
          rw (get_or-set_other table e.literal.atom a 0 0 (λ same. other (sym same)))
          (place_less es e (get_or table a 0) (entry_of es a) (λ is. other (entry_atom es a e is))
          (rw (entry_of-push_other es e a other) at (h a place)))
    ]

-- how many atoms have no value when one gets or loses it
abbrev vacant : List ℕ → ℕ
vacant table = count_by (λ n. eqb n 0) table

count-set : (table : List ℕ) (a n : ℕ) → a < length table
    → vacant (set table a n) + cond (eqb (get_or table a 0) 0) 1 0 ≡ vacant table + cond (eqb n 0) 1 0
count-set table a n place = sum_by-set (λ x. cond (eqb x 0) 1 0) table a n 0 place

pub AreTables-push : {es : List Assigned} {room : ℕ} {values : List (Option Bool)} {places : List ℕ}
    → AreTables es room values places → (e : Assigned) (more : ℕ) → room ≤ more → e.literal.atom < length places
    → entry_of es e.literal.atom ≡ None → e.level ≡ level_behind (current_level es) e.reason
    → AreTables (es ++ e ∷ []) more (set values e.literal.atom (Some e.literal.positive))
    (set places e.literal.atom (length es + 1))
AreTables-push {es} {room} {values} {places} h e more wide place none level = record {
  trail = record {
    distinct = AreDistinct-push es e h.trail.distinct none;
    reserved = λ a past.
        let old : length places ≤ a = omega (arith, length-set places e.literal.atom (length es + 1)) in
        entry_of-push_other es e a (λ same. omega (arith, same)) ∙ h.trail.reserved a old;
    levelled = AreLevelled-push 0 es e h.trail.levelled level;
  };
  values_agree = Tabulates-push (λ entry. entry.literal.positive) es e values h.values_agree none;
  located = Locates-push es e places h.located none;
  covered = omega (
    arith,
    h.covered,
    length-set values e.literal.atom (Some e.literal.positive),
    length-set places e.literal.atom (length es + 1),
  );
  counted =
      let empty : get_or places e.literal.atom 0 ≡ 0 = rw none at (h.located e.literal.atom place) in
      let count = count-set places e.literal.atom (length es + 1) place in
      omega (
        arith,
        h.counted,
        rw (empty, ne_eqb (length es + 1) 0 (λ e. omega (arith, e))) at count,
        length_push es e,
        length-set places e.literal.atom (length es + 1),
      );
  fits = omega (arith, h.fits, length-set places e.literal.atom (length es + 1));
  small = omega (arith, h.small, length-set places e.literal.atom (length es + 1));
}

-- an atom that has an entry has a place
pub atom_within : (es : List Assigned) (e : Assigned) {room : ℕ} {values : List (Option Bool)}
    {places : List ℕ} → AreTables (es ++ e ∷ []) room values places → e.literal.atom < length places
atom_within es e {room} {values} {places} h =
    elim (cases_lt e.literal.atom (length places)) [
      | inl place ↦ place
      | inr past ↦ absurd ((entry_of-push_none es e e.literal.atom (h.trail.reserved e.literal.atom past)).1 refl)
    ]

pub AreTables-pop : (es : List Assigned) (e : Assigned) {room : ℕ} {values : List (Option Bool)}
    {places : List ℕ} → AreTables (es ++ e ∷ []) room values places
    → AreTables es room (set values e.literal.atom None) (set places e.literal.atom 0)
AreTables-pop es e {room} {values} {places} h =
    let parts = AreDistinct-pop es e h.trail.distinct in
    let place : e.literal.atom < length places = atom_within es e h in
    record {
      trail = record {
        distinct = parts.0;
        reserved = λ a past.
            let old : length places ≤ a = omega (arith, length-set places e.literal.atom 0) in
            (entry_of-push_none es e a (h.trail.reserved a old)).0;
        levelled = AreLevelled-pop 0 es e h.trail.levelled;
      };
      values_agree = Tabulates-pop (λ entry. entry.literal.positive) es e values h.values_agree parts.1;
      located = Locates-pop es e places h.located parts.1;
      covered = omega (arith, h.covered, length-set values e.literal.atom None, length-set places e.literal.atom 0);
      counted =
          let full = rw (entry_of-push_same es e parts.1) at (h.located e.literal.atom place) in
          let some : get_or places e.literal.atom 0 ≢ 0 = λ is. omega (arith, is, full.0) in
          let count = count-set places e.literal.atom 0 place in
          omega (
            arith,
            h.counted,
            rw (ne_eqb (get_or places e.literal.atom 0) 0 some) at count,
            length_push es e,
            length-set places e.literal.atom 0,
          );
      fits = omega (arith, h.fits, length-set places e.literal.atom 0);
      small = omega (arith, h.small, length-set places e.literal.atom 0);
    }

-- the same where the entries are known to end in one
pub popped_within : {es : List Assigned} (new : List Assigned) (e : Assigned) {room : ℕ} {values : List (Option Bool)}
    {places : List ℕ} → es ≡ new ++ e ∷ [] → AreTables es room values places
    → e.literal.atom < length places
popped_within new e split h = atom_within new e (rw split at h)

pub AreTables-popped : {es : List Assigned} (new : List Assigned) (e : Assigned) {room : ℕ}
    {values : List (Option Bool)} {places : List ℕ} → es ≡ new ++ e ∷ []
    → AreTables es room values places
    → AreTables new room (set values e.literal.atom None) (set places e.literal.atom 0)
AreTables-popped new e split h = AreTables-pop new e (rw split at h)
