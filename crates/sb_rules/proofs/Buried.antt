-- The line of dead regexes: what the rules of proofs make of it.
use Rattle.std.proofs.Common.{◌≡◌, ℕ, ◌<◌, Bool, true, false, ◌||◌, ◌&&◌, nat_eq, nat_lt, if◌then◌else◌, List, [], ◌∷◌, length, map, get_or, slice_get, Option, Some, None, option_map, Result, Ok, Err, refl, sym, ap, ap₂, ◌∙◌, arith}
use Rattle.std.specs.List.{list_all, list_any}
use Rattle.std.proofs.lemmas.Bool.{and_parts, true≢false}
use Rattle.std.proofs.lemmas.Bool.Decides.{nat_tests}
use Rattle.std.proofs.lemmas.Option.{slice_get-map, slice_get-get_or, slice_get_within}
use Rattle.sb_lang.specs.Regex.{Regex}
use Rattle.sb_lang.specs.Derivative.{nullable}
use Rattle.sb_regex.specs.Numbered.{regex_at, regexes_at}
use Rattle.sb_rulebook.specs.Refusals.{Refusal, unknown_id, repeated, holds_empty_word, not_closed}
use Rattle.sb_rulebook.specs.Parts.{together}
use Rattle.sb_rulebook.specs.Lines.{dead_line}
use Rattle.sb_rulebook.specs.Kept.{AllKept, Asked, is_among_numbers, targets_in, marked, with_dead}
use Rattle.sb_rulebook.specs.RegexRules.{has_repeated, is_settled, is_closed, first_alive, died, member_at}
use Rattle.sb_rulebook.specs.Follows.{follows}
use Rattle.sb_rules.specs.Known.{Known, with_known}
use Rattle.sb_rules.specs.Burying.{is_dead_by, has_twice, is_settled_by, are_settled_by, first_alive_of}

lt-is : (n m : ℕ) → nat_lt n m ≡ true → n < m
lt-is n m h = grind (arith, nat_tests)

module _ (rs : List Regex) (order : List ℕ) where
  abbrev pub member : ℕ → ℕ × Regex
  member n = (n, regex_at rs (get_or order n 0))

  abbrev pub is_known : ℕ → Bool
  is_known n = nat_lt n (length order)

  found : (n : ℕ) → is_known n ≡ true → member_at (regexes_at rs order) n ≡ Some (member n)
  found n h =
      ap (option_map (λ r. (n, r)))
      (slice_get-map (regex_at rs) order n
      ∙ ap (option_map (regex_at rs)) (slice_get-get_or order n 0 (lt-is n (length order) h)))

  missing : (n : ℕ) → is_known n ≡ false → member_at (regexes_at rs order) n ≡ None
  missing n h = ap (option_map (λ r. (n, r))) (slice_get-map (regex_at rs) order n ∙ step (slice_get order n) refl)
    where
      step : (o : Option ℕ) → slice_get order n ≡ o → option_map (regex_at rs) o ≡ None
      step None e = refl
      step (Some id) e = let l = slice_get_within order n id e in absurd (grind (arith, nat_tests))

  pub members-known : (ns : List ℕ) → list_all is_known ns ≡ true
      → together (map (member_at (regexes_at rs order)) ns) ≡ Some (map member ns)
  members-known [] h = refl
  members-known (n ∷ ns) h =
      let p = and_parts (is_known n) (list_all is_known ns) h in
      ap (λ o. together (o ∷ map (member_at (regexes_at rs order)) ns)) (found n p.0)
      ∙ ap (option_map (λ others. member n ∷ others)) (members-known ns p.1)

  pub members-missing : (ns : List ℕ) → list_all is_known ns ≡ false
      → together (map (member_at (regexes_at rs order)) ns) ≡ None
  members-missing [] h = absurd (true≢false h)
  members-missing (n ∷ ns) h = step (is_known n) refl h (members-missing ns)
    where
      step : (b : Bool) → is_known n ≡ b → (b && list_all is_known ns) ≡ false
          → (list_all is_known ns ≡ false → together (map (member_at (regexes_at rs order)) ns) ≡ None)
          → together (map (member_at (regexes_at rs order)) (n ∷ ns)) ≡ None
      step true e rest later =
          ap (λ o. together (o ∷ map (member_at (regexes_at rs order)) ns)) (found n e)
          ∙ ap (option_map (λ others. member n ∷ others)) (later rest)
      step false e rest later = ap (λ o. together (o ∷ map (member_at (regexes_at rs order)) ns)) (missing n e)

twice-is : (kept : AllKept) (ns : List ℕ) → has_repeated kept ns ≡ has_twice kept.dead ns
twice-is kept [] = refl
twice-is kept (n ∷ ns) = ap (λ b. is_among_numbers ns n || (is_dead_by kept.dead n || b)) (twice-is kept ns)

module _ (kept : AllKept) (ids members : List ℕ)
    (same : (n : ℕ) → list_any (nat_eq n) members ≡ is_among_numbers ids n) where
  settled-are : (targets : List ℕ) → list_all (is_settled_by kept.dead members) targets
      ≡ list_all (is_settled kept ids) targets
  settled-are [] = refl
  settled-are (t ∷ ts) = ap₂ (λ a b. (a || is_dead_by kept.dead t) && b) (same t) (settled-are ts)

  closed-is : (n : ℕ) → are_settled_by kept.dead members (targets_in kept.expansions n) ≡ is_closed kept ids n
  closed-is n = step (targets_in kept.expansions n)
    where
      step : (o : Option (List ℕ)) → are_settled_by kept.dead members o
          ≡ elim o as (λ _. Bool) [ None ↦ false | Some targets ↦ list_all (is_settled kept ids) targets ]
      step None = refl
      step (Some targets) = settled-are targets

abbrev after_one : Bool → Bool → Option Refusal → Option Refusal
after_one empty closed rest = if empty then Some holds_empty_word else if closed then rest else Some not_closed

first-is : (rs : List Regex) (known : Known) (kept : AllKept) (ids members ns : List ℕ)
    → ((n : ℕ) → list_any (nat_eq n) members ≡ is_among_numbers ids n)
    → first_alive_of rs known members ns
    ≡ first_alive (with_known rs known kept) ids (map (member rs known.order) ns)
first-is rs known kept ids members [] same = refl
first-is rs known kept ids members (n ∷ ns) same =
    step (nullable (regex_at rs (get_or known.order n 0)))
    (are_settled_by known.dead members (targets_in known.expansions n))
    ∙ ap₂ (after_one (nullable (regex_at rs (get_or known.order n 0))))
    (closed-is (with_known rs known kept) ids members same n)
    (first-is rs known kept ids members ns same)
  where
    rest : Option Refusal
    rest = first_alive_of rs known members ns

    step : (empty closed : Bool)
        → (elim (if empty then Some holds_empty_word else if closed then None else Some not_closed)
        as (λ _. Option Refusal)
        [ Some refusal ↦ Some refusal | None ↦ rest ]) ≡ after_one empty closed rest
    step true closed = refl
    step false true = refl
    step false false = refl

-- What the rules of proofs make of the line.

module _ (asked : Asked) (kept : AllKept) (rs : List Regex) (known : Known) (ns : List ℕ) where
  abbrev before : AllKept
  before = with_known rs known kept

  abbrev pub of-members : Option (List (ℕ × Regex)) → Result AllKept Refusal
  of-members o = elim o as (λ _. Result AllKept Refusal) [ None ↦ Err unknown_id | Some ms ↦ died before ns ms ]

  abbrev pub of-alive : Option Refusal → Result AllKept Refusal
  of-alive o =
      elim o as (λ _. Result AllKept Refusal) [ Some refusal ↦ Err refusal | None ↦ Ok (with_dead ns before) ]

  pub dead-unknown : list_all (is_known rs known.order) ns ≡ false
      → follows asked (with_known rs known kept) (dead_line ns) ≡ Err unknown_id
  dead-unknown h = ap of-members (members-missing rs known.order ns h)

  module _ (all : list_all (is_known rs known.order) ns ≡ true) where
    pub dead-repeated : has_twice known.dead ns ≡ true
        → follows asked (with_known rs known kept) (dead_line ns) ≡ Err repeated
    dead-repeated h =
        ap of-members (members-known rs known.order ns all)
        ∙ ap (λ b. if b then Err repeated else of-alive (first_alive before ns (map (member rs known.order) ns)))
        (twice-is before ns ∙ h)

    module _ (members : List ℕ) (once : has_twice known.dead ns ≡ false)
        (same : (n : ℕ) → list_any (nat_eq n) members ≡ is_among_numbers ns n) where
      dead-is : follows asked (with_known rs known kept) (dead_line ns)
          ≡ of-alive (first_alive_of rs known members ns)
      dead-is =
          ap of-members (members-known rs known.order ns all)
          ∙ ap (λ b. if b then Err repeated else of-alive (first_alive before ns (map (member rs known.order) ns)))
          (twice-is before ns ∙ once)
          ∙ ap of-alive (sym (first-is rs known kept ns members ns same))

      pub dead-alive : (refusal : Refusal) → first_alive_of rs known members ns ≡ Some refusal
          → follows asked (with_known rs known kept) (dead_line ns) ≡ Err refusal
      dead-alive refusal h = dead-is ∙ ap of-alive h

      pub dead-taken : (after : Known) → first_alive_of rs known members ns ≡ None
          → after ≡ record known { dead = marked ns known.dead }
          → follows asked (with_known rs known kept) (dead_line ns) ≡ Ok (with_known rs after kept)
      dead-taken after h e = dead-is ∙ ap of-alive h ∙ ap (λ k. Ok (with_known rs k kept)) (sym e)
