-- The line of a regex: what the rules of proofs make of it.
use Rattle.std.proofs.Common.{◌≡◌, ℕ, suc, ◌<◌, Bool, true, false, ◌||◌, ◌&&◌, nat_eq, if◌then◌else◌, List, [], ◌∷◌, ◌++◌, length, map, slice_get, Option, Some, None, option_map, Result, Ok, Err, refl, sym, ap, ap₂, subst, ◌∙◌, arith}
use Rattle.std.specs.List.{list_all, list_any}
use Rattle.std.proofs.lemmas.Bool.{and_parts, true≢false}
use Rattle.std.proofs.lemmas.Bool.Decides.{nat_tests}
use Rattle.std.proofs.lemmas.List.{map-append}
use Rattle.std.proofs.lemmas.Option.{get_or_from_slice_get, slice_get_within, slice_get-map}
use Rattle.sb_lang.specs.Regex.{Regex}
use Rattle.sb_lang.specs.Order.{regex_eq}
use Rattle.sb_lang.specs.OrderLaws.{OrderTellsApart}
use Rattle.sb_lang.specs.NormalForm.{is_normal}
use Rattle.sb_regex.specs.Numbered.{regex_at, regexes_at, AllNumbers, AreDistinct, Extends, Names}
use Rattle.sb_regex.proofs.CallerLemmas.{at_kept, ats_kept, names_at, names_below, number_kept, numbers_kept}
use Rattle.sb_rulebook.specs.Refusals.{Refusal, unknown_id, repeated, not_normal}
use Rattle.sb_rulebook.specs.Parts.{together}
use Rattle.sb_rulebook.specs.Lines.{Node, regex_line}
use Rattle.sb_rulebook.specs.Kept.{AllKept, Asked, with_regex}
use Rattle.sb_rulebook.specs.RegexRules.{regex_of_node, defined}
use Rattle.sb_rulebook.specs.Follows.{follows}
use Rattle.sb_rulebook.proofs.CallerLemmas.{same_regex, regex_itself}
use Rattle.sb_rules.specs.Known.{Known, with_known}

-- What the numbers of parts name.

pub named-at : (rs : List Regex) (order : List ℕ) (n id : ℕ) → slice_get order n ≡ Some id
    → slice_get (regexes_at rs order) n ≡ Some (regex_at rs id)
named-at rs order n id h = slice_get-map (regex_at rs) order n ∙ ap (option_map (regex_at rs)) h

-- the number in the arena of a number of the proof
pub known_number : (rs : List Regex) (order : List ℕ) (n id : ℕ) → AllNumbers rs order → slice_get order n ≡ Some id
    → id < length rs
known_number rs order n id all h =
    let l = slice_get_within order n id h in
    let e = get_or_from_slice_get order n id 0 h in
    let b = all n 0 l in
    subst (λ k. k < length rs) e b

module _ {A B : Type 0} (f : A → B) where
  pub together-mapped : (os : List (Option A)) → together (map (option_map f) os) ≡ option_map (map f) (together os)
  together-mapped [] = refl
  together-mapped (None ∷ os) = refl
  together-mapped (Some x ∷ os) = ap (option_map (λ ys. f x ∷ ys)) (together-mapped os) ∙ step (together os)
    where
      step : (o : Option (List A)) → option_map (λ ys. f x ∷ ys) (option_map (map f) o)
          ≡ option_map (map f) (option_map (λ xs. x ∷ xs) o)
      step None = refl
      step (Some xs) = refl

pub all-looked-up : (rs : List Regex) (order ns : List ℕ)
    → map (slice_get (regexes_at rs order)) ns ≡ map (option_map (regex_at rs)) (map (slice_get order) ns)
all-looked-up rs order [] = refl
all-looked-up rs order (n ∷ ns) = ap₂ ◌∷◌ (slice_get-map (regex_at rs) order n) (all-looked-up rs order ns)

pub several-at : (rs : List Regex) (order ns : List ℕ)
    → together (map (slice_get (regexes_at rs order)) ns)
    ≡ option_map (regexes_at rs) (together (map (slice_get order) ns))
several-at rs order ns =
    ap together (all-looked-up rs order ns) ∙ together-mapped (regex_at rs) (map (slice_get order) ns)

-- Whether a regex is kept.

pub nat-same : (n m : ℕ) → nat_eq n m ≡ true → n ≡ m
nat-same n m h = grind (arith, nat_tests)

same-nat : (n m : ℕ) → n ≡ m → nat_eq n m ≡ true
same-nat n m h = grind (arith, nat_tests)

one-way : (b c : Bool) → (b ≡ true → c ≡ true) → (c ≡ true → b ≡ true) → b ≡ c
one-way true c h k = sym (h refl)
one-way false true h k = k refl
one-way false false h k = refl

-- over an arena that grew, in which the regex has a number
module _ (old new : List Regex) (r : Regex) (id : ℕ) (apart : OrderTellsApart) (once : AreDistinct new)
    (grew : Extends old new) (is : Names new id r) where
  pub same-at : (n : ℕ) → n < length old → regex_eq r (regex_at old n) ≡ nat_eq id n
  same-at n l =
      one-way _ _
      (λ h. same-nat id n (once id n (names_below new id r is) (number_kept old new n grew l)
      (names_at new id r is ∙ same_regex apart r (regex_at old n) h ∙ sym (at_kept old new n grew l))))
      (λ h. let e : r ≡ regex_at old n =
      sym (names_at new id r is) ∙ ap (regex_at new) (nat-same id n h) ∙ at_kept old new n grew l in
      subst (λ x. regex_eq r x ≡ true) e (regex_itself apart r))

  pub kept-by-number : (order : List ℕ) → AllNumbers old order
      → list_any (regex_eq r) (regexes_at old order) ≡ list_any (nat_eq id) order
  kept-by-number [] h = refl
  kept-by-number (n ∷ ns) h =
      ap₂ ◌||◌ (same-at n (h 0 0 (omega arith)))
      (kept-by-number ns (λ k d l. h (suc k) d (omega (arith, l))))

  pub kept-with : (order : List ℕ) → AllNumbers old order
      → regexes_at old order ++ r ∷ [] ≡ regexes_at new (order ++ id ∷ [])
  kept-with order h =
      ap₂ (λ xs x. xs ++ x ∷ []) (sym (ats_kept old new order grew h)) (sym (names_at new id r is))
      ∙ sym (map-append (regex_at new) order (id ∷ []))

-- a regex that is not normal is none of normal ones
pub not-among-normal : (rs : List Regex) (r : Regex) → OrderTellsApart → list_all is_normal rs ≡ true
    → is_normal r ≡ false → list_any (regex_eq r) rs ≡ false
not-among-normal [] r apart all h = refl
not-among-normal (x ∷ xs) r apart all h =
    let p = and_parts (is_normal x) (list_all is_normal xs) all in
    ap₂ ◌||◌ (step (regex_eq r x) refl p.0) (not-among-normal xs r apart p.1 h)
  where
    step : (b : Bool) → regex_eq r x ≡ b → is_normal x ≡ true → b ≡ false
    step true e n = absurd (true≢false (sym n ∙ ap is_normal (sym (same_regex apart r x e)) ∙ h))
    step false e n = refl

pub normal-ats : (rs : List Regex) (order : List ℕ) → ((n : ℕ) → n < length rs → is_normal (regex_at rs n) ≡ true)
    → AllNumbers rs order → list_all is_normal (regexes_at rs order) ≡ true
normal-ats rs [] all h = refl
normal-ats rs (n ∷ ns) all h =
    ap₂ ◌&&◌ (all n (h 0 0 (omega arith)))
    (normal-ats rs ns all (λ k d l. h (suc k) d (omega (arith, l))))

-- What the rules of proofs make of the line.

module _ (asked : Asked) (kept : AllKept) (n : Node) where
  abbrev pub by-regex : Option Regex → Result AllKept Refusal
  by-regex o = elim o as (λ _. Result AllKept Refusal) [ None ↦ Err unknown_id | Some r ↦ defined kept r ]

  pub line-made : (r : Regex) → regex_of_node kept.regexes n ≡ Some r
      → follows asked kept (regex_line n) ≡ defined kept r
  line-made r made = ap by-regex made

pub defined-repeated : (kept : AllKept) (r : Regex) → list_any (regex_eq r) kept.regexes ≡ true
    → defined kept r ≡ Err repeated
defined-repeated kept r h =
    ap (λ b. if b then Err repeated else if is_normal r then Ok (with_regex r kept) else Err not_normal) h

pub defined-unnormal : (kept : AllKept) (r : Regex) → list_any (regex_eq r) kept.regexes ≡ false
    → is_normal r ≡ false → defined kept r ≡ Err not_normal
defined-unnormal kept r h e =
    ap (λ b. if b then Err repeated else if is_normal r then Ok (with_regex r kept) else Err not_normal) h
    ∙ ap (λ b. if b then Ok (with_regex r kept) else Err not_normal) e

pub defined-new : (kept : AllKept) (r : Regex) → list_any (regex_eq r) kept.regexes ≡ false
    → is_normal r ≡ true → defined kept r ≡ Ok (with_regex r kept)
defined-new kept r h e =
    ap (λ b. if b then Err repeated else if is_normal r then Ok (with_regex r kept) else Err not_normal) h
    ∙ ap (λ b. if b then Ok (with_regex r kept) else Err not_normal) e

-- all together: a regex that is new, one that is kept, and one that is not normal
module _ (asked : Asked) (kept : AllKept) (n : Node) (old new : List Regex) (known after : Known) (r : Regex)
    (apart : OrderTellsApart) (normal : list_all is_normal new ≡ true) (grew : Extends old new)
    (all : AllNumbers old known.order)
    (made : regex_of_node (regexes_at old known.order) n ≡ Some r) where
  abbrev pub before : AllKept
  before = with_known old known kept

  pub line-refused : is_normal r ≡ false → ((n : ℕ) → n < length new → is_normal (regex_at new n) ≡ true)
      → follows asked (with_known old known kept) (regex_line n) ≡ Err not_normal
  line-refused h at =
      line-made asked before n r made
      ∙ defined-unnormal before r
      (not-among-normal (regexes_at old known.order) r apart
      (ap (list_all is_normal) (sym (ats_kept old new known.order grew all))
      ∙ normal-ats new known.order at (numbers_kept old new known.order grew all)) h) h

  module _ (id : ℕ) (once : AreDistinct new) (is : Names new id r) where
    pub line-repeated : list_any (nat_eq id) known.order ≡ true
        → follows asked (with_known old known kept) (regex_line n) ≡ Err repeated
    line-repeated h =
        line-made asked before n r made
        ∙ defined-repeated before r (kept-by-number old new r id apart once grew is known.order all ∙ h)

    pub line-taken : list_any (nat_eq id) known.order ≡ false → is_normal r ≡ true
        → after ≡ record {
          order = known.order ++ id ∷ [];
          expansions = known.expansions ++ None ∷ [];
          dead = known.dead ++ false ∷ [];
        }
        → follows asked (with_known old known kept) (regex_line n) ≡ Ok (with_known new after kept)
    line-taken h normal e =
        line-made asked before n r made
        ∙ defined-new before r (kept-by-number old new r id apart once grew is known.order all ∙ h) normal
        ∙ ap Ok (ap (λ rs. record (with_regex r before) { regexes = rs })
        (kept-with old new r id apart once grew is known.order all)
        ∙ ap (λ k. with_known new k kept) (sym e))
