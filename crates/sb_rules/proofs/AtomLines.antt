-- The line of an atom.
use Rattle.std.proofs.Common.{◌≡◌, ℕ, ◌<◌, Bool, true, false, ◌&&◌, nat_lt, if◌then◌else◌, List, [], ◌∷◌, ◌++◌, map, length, Option, Some, None, is_some, option_map, slice_get, Result, Ok, Err, refl, ap, ap₂, sym, subst, ◌∙◌}
use Rattle.std.specs.List.{All, list_all, list_any}
use Rattle.std.proofs.lemmas.Bool.{and_parts, false≢true}
use Rattle.std.proofs.lemmas.List.{length-map}
use Rattle.std.proofs.lemmas.Option.{slice_get-map, get_or_from_slice_get, slice_get_within}
use Rattle.sb_lang.specs.Regex.{Regex}
use Rattle.sb_regex.specs.Numbered.{regex_at, regexes_at}
use Rattle.sb_meaning.specs.Terms.{Sort}
use Rattle.sb_script.specs.Pieces.{Piece}
use Rattle.sb_atoms.specs.Numbered.{over, atoms_in, HasRegexBelow}
use Rattle.sb_rulebook.specs.Refusals.{Refusal, unknown_id, repeated, rule_broken, not_normal}
use Rattle.sb_rulebook.specs.Atoms.{Atom, AtomOver, bool_atom, in_atom, le_atom, sum_atom, and_atom, iff_atom, is_same_atom, is_well_formed, map_atom, regex_in}
use Rattle.sb_rulebook.specs.AtomRules.{with_regex, has_its_parts, defined, follows_atom, is_known, is_declared_piece}
use Rattle.sb_rulebook.specs.Brought.{is_brought_atom}
use Rattle.sb_rulebook.specs.Kept.{AllKept, Asked}
use Rattle.sb_rulebook.specs.Lines.{atom_line}
use Rattle.sb_rulebook.specs.Follows.{follows, not_brought}
use Rattle.sb_rules.specs.declared.kept.Kept.{Kept}
use Rattle.sb_rules.specs.Kept.{kept_in}
use Rattle.sb_proof.specs.declared.atom.Atom as code
use Rattle.sb_proof.specs.Lines.{atom_in}
use Rattle.sb_rules.specs.Defining.{IsBroughtAs, have_parts, numbered}

-- Tests of all in a list.

pub all_mapped : {A B : Type 0} (p : B → Bool) (f : A → B) (xs : List A)
    → list_all p (map f xs) ≡ list_all (λ x. p (f x)) xs
all_mapped p f [] = refl
all_mapped p f (x ∷ xs) = ap (λ b. p (f x) && b) (all_mapped p f xs)

pub all_same : {A : Type 0} (p q : A → Bool) (xs : List A) → ((x : A) → p x ≡ q x) → list_all p xs ≡ list_all q xs
all_same p q [] h = refl
all_same p q (x ∷ xs) h = ap₂ (λ a b. a && b) (h x) (all_same p q xs h)

and_true : (b : Bool) → (b && true) ≡ b
and_true true = refl
and_true false = refl

-- The parts of an atom are there by the rules where they are by numbers.

is_found : (rs : List Regex) (ps : List Piece) (o : Option ℕ)
    → is_some (option_map {T = Regex} (in_atom ps) (option_map (regex_at rs) o)) ≡ is_some o
is_found rs ps None = refl
is_found rs ps (Some id) = refl

parts_by : (sorts : List Sort) (k : Kept) (others : AllKept) (a : AtomOver ℕ)
    → (is_some (with_regex (kept_in k others).regexes a)
    && has_its_parts sorts (kept_in k others).atoms a)
    ≡ have_parts sorts k.regexes.order (length k.atoms) a
parts_by sorts k others (bool_atom serial) = refl
parts_by sorts k others (in_atom ps r) =
    ap (λ b. b && list_all (is_declared_piece sorts) ps)
    (ap (λ o. is_some (option_map {T = Regex} (in_atom ps) o)) (slice_get-map (regex_at k.arena) k.regexes.order r)
    ∙ is_found k.arena ps (slice_get k.regexes.order r))
parts_by sorts k others (le_atom x m) = refl
parts_by sorts k others (sum_atom m ss) = refl
parts_by sorts k others (and_atom ls) =
    all_same (is_known (atoms_in k.arena k.atoms)) (λ l. nat_lt l.atom (length k.atoms)) ls
    (λ l. ap (nat_lt l.atom) (length-map k.atoms (over k.arena)))
parts_by sorts k others (iff_atom l m) =
    ap₂ (λ a b. a && b) (ap (nat_lt l.atom) (length-map k.atoms (over k.arena)))
    (ap (λ j. nat_lt m.atom j && true) (length-map k.atoms (over k.arena)) ∙ and_true (nat_lt m.atom (length k.atoms)))

parts_same : (sorts : List Sort) (asked : Asked) (k : Kept) (others : AllKept) (a : AtomOver ℕ)
    → asked.sorts ≡ sorts
    → (is_some (with_regex (kept_in k others).regexes a)
    && has_its_parts asked.sorts (kept_in k others).atoms a)
    ≡ have_parts sorts k.regexes.order (length k.atoms) a
parts_same sorts asked k others a d =
    ap (λ ks. is_some (with_regex (kept_in k others).regexes a) && has_its_parts ks (kept_in k others).atoms a) d
    ∙ parts_by sorts k others a

-- An atom is refused whose parts are not there.

lacks : (o : Option Atom) (b : Bool) (r : Atom → Result AllKept Refusal) → (is_some o && b) ≡ false
    → (elim o as (λ _. Result AllKept Refusal)
    [ None ↦ Err unknown_id | Some atom ↦ if b then r atom else Err unknown_id ]) ≡ Err unknown_id
lacks None b r h = refl
lacks (Some a) true r h = absurd (false≢true (sym h))
lacks (Some a) false r h = refl

pub by_no_parts : (sorts : List Sort) (asked : Asked) (k : Kept) (others : AllKept) (a : AtomOver ℕ)
    → asked.sorts ≡ sorts
    → have_parts sorts k.regexes.order (length k.atoms) a ≡ false
    → follows asked (kept_in k others) (atom_line a) ≡ Err unknown_id
by_no_parts sorts asked k others a d h =
    step (is_brought_atom a) (lacks (with_regex (kept_in k others).regexes a)
    (has_its_parts asked.sorts (kept_in k others).atoms a) (defined (kept_in k others))
    (parts_same sorts asked k others a d ∙ h))
  where
    step : (b : Bool) → follows_atom asked (kept_in k others) a ≡ Err unknown_id
        → (if b then follows_atom asked (kept_in k others) a
        else not_brought (follows_atom asked (kept_in k others) a)) ≡ Err unknown_id
    step true e = e
    step false e = ap not_brought e

-- One that is not brought is refused by rule: to define an atom never names what is not there.

abbrev made : AllKept → Atom → Bool → Bool → Result AllKept Refusal
made kept a b c =
    if b then Err repeated else if c then Ok (record kept { atoms = kept.atoms ++ a ∷ [] }) else Err not_normal

never_made : (kept : AllKept) (a : Atom) (b c : Bool) → made kept a b c ≡ Err unknown_id → ⊥
never_made kept a true c e = Prim.cc (e)
never_made kept a false true e = Prim.cc (e)
never_made kept a false false e = Prim.cc (e)

never : (kept : AllKept) (a : Atom) → defined kept a ≡ Err unknown_id → ⊥
never kept a e = never_made kept a (list_any (is_same_atom a) kept.atoms) (is_well_formed a) e

not_brought_yet : (o : Option Atom) (b : Bool) (r : Atom → Result AllKept Refusal)
    → ((a : Atom) → r a ≡ Err unknown_id → ⊥) → (is_some o && b) ≡ true
    → not_brought (elim o as (λ _. Result AllKept Refusal)
    [ None ↦ Err unknown_id | Some atom ↦ if b then r atom else Err unknown_id ]) ≡ Err rule_broken
not_brought_yet None b r h there = absurd (false≢true there)
not_brought_yet (Some a) false r h there = absurd (false≢true there)
not_brought_yet (Some a) true r h there = other (r a) (h a)
  where
    other : (x : Result AllKept Refusal) → (x ≡ Err unknown_id → ⊥) → not_brought x ≡ Err rule_broken
    other (Ok after) h = refl
    other (Err unknown_id) h = absurd (h refl)
    other (Err _) h = refl

pub by_unbrought : (sorts : List Sort) (asked : Asked) (k : Kept) (others : AllKept) (a : AtomOver ℕ)
    → asked.sorts ≡ sorts
    → is_brought_atom a ≡ false → have_parts sorts k.regexes.order (length k.atoms) a ≡ true
    → follows asked (kept_in k others) (atom_line a) ≡ Err rule_broken
by_unbrought sorts asked k others a d is there =
    ap (λ (b : Bool). if b then follows_atom asked (kept_in k others) a
    else not_brought (follows_atom asked (kept_in k others) a)) is
    ∙ not_brought_yet (with_regex (kept_in k others).regexes a)
    (has_its_parts asked.sorts (kept_in k others).atoms a) (defined (kept_in k others)) (never (kept_in k others))
    (parts_same sorts asked k others a d ∙ there)

-- One that is brought is judged by what is defined.

named : (rs : List Regex) (order : List ℕ) (a : AtomOver ℕ)
    → with_regex (regexes_at rs order) a ≡ option_map (over rs) (numbered order a)
named rs order (bool_atom serial) = refl
named rs order (in_atom ps r) =
    ap (option_map (in_atom ps)) (slice_get-map (regex_at rs) order r) ∙ fused (slice_get order r)
  where
    fused : (o : Option ℕ)
        → option_map (in_atom ps) (option_map (regex_at rs) o) ≡ option_map (over rs) (option_map (in_atom ps) o)
    fused None = refl
    fused (Some i) = refl
named rs order (le_atom x k) = refl
named rs order (sum_atom k ss) = refl
named rs order (and_atom ls) = refl
named rs order (iff_atom l m) = refl

pub by_brought : (sorts : List Sort) (asked : Asked) (k : Kept) (others : AllKept) (a b : AtomOver ℕ)
    → asked.sorts ≡ sorts
    → is_brought_atom a ≡ true → have_parts sorts k.regexes.order (length k.atoms) a ≡ true
    → numbered k.regexes.order a ≡ Some b
    → follows asked (kept_in k others) (atom_line a) ≡ defined (kept_in k others) (over k.arena b)
by_brought sorts asked k others a b d is there found =
    let parts = and_parts (is_some (with_regex (kept_in k others).regexes a))
    (has_its_parts asked.sorts (kept_in k others).atoms a) (parts_same sorts asked k others a d ∙ there) in
    ap (λ (t : Bool). if t then follows_atom asked (kept_in k others) a
    else not_brought (follows_atom asked (kept_in k others) a)) is
    ∙ ap (λ o. elim o as (λ _. Result AllKept Refusal) [
      | None ↦ Err unknown_id
      | Some atom ↦ if has_its_parts asked.sorts (kept_in k others).atoms a
          then defined (kept_in k others) atom else Err unknown_id
    ]) (named k.arena k.regexes.order a ∙ ap (option_map (over k.arena)) found)
    ∙ ap (λ t. if t then defined (kept_in k others) (over k.arena b) else Err unknown_id) parts.1

some_is : {X : Type 0} (x y : X) → Some x ≡ Some y → x ≡ y
some_is x y e = cc

-- An atom by its number is brought where it is.

no_number : (order : List ℕ) (a : AtomOver ℕ) → is_brought_atom a ≡ true → None ≡ numbered order a
    → is_some (numbered order a) ≡ true → is_brought_atom a ≡ false
no_number order a is none e = absurd (false≢true (ap is_some none ∙ e))

pub brought_as : (order : List ℕ) (a : AtomOver ℕ) (found : Option (code.Atom ℕ)) → is_brought_atom a ≡ true
    → option_map atom_in found ≡ numbered order a → IsBroughtAs order a found
brought_as order a None is h = no_number order a is h
brought_as order a (Some found) is h = (is, sym h)

pub unnumbered : (order : List ℕ) (d : ℕ) (a : AtomOver ℕ) → regex_in a ≡ None
    → Some (map_atom (λ _. d) a) ≡ numbered order a
unnumbered order d (bool_atom serial) h = refl
unnumbered order d (in_atom ps r) h = absurd (Prim.cc (h))
unnumbered order d (le_atom x k) h = refl
unnumbered order d (sum_atom k ss) h = refl
unnumbered order d (and_atom ls) h = refl
unnumbered order d (iff_atom l m) h = refl

pub by_number : (order : List ℕ) (a : AtomOver ℕ) (r : ℕ) → regex_in a ≡ Some r
    → numbered order a ≡ option_map (λ n. map_atom (λ _. n) a) (slice_get order r)
by_number order a r h =
    ap (λ o. elim o as (λ _. Option (AtomOver ℕ)) [
      | None ↦ Some a
      | Some r ↦ option_map (λ n. map_atom (λ _. n) a) (slice_get order r)
    ]) h

pub brought_stays : (order : List ℕ) (a b : AtomOver ℕ) → numbered order a ≡ Some b
    → is_brought_atom b ≡ is_brought_atom a
brought_stays order (in_atom ps r) b h = step (slice_get order r) h
  where
    step : (o : Option ℕ) → option_map {T = ℕ} (in_atom ps) o ≡ Some b → is_brought_atom b ≡ true
    step None h = absurd (Prim.cc (h))
    step (Some i) h = ap is_brought_atom (sym (some_is (in_atom ps i) b h))
brought_stays order (bool_atom serial) b h = ap is_brought_atom (sym (some_is (bool_atom serial) b h))
brought_stays order (le_atom x k) b h = ap is_brought_atom (sym (some_is (le_atom x k) b h))
brought_stays order (sum_atom k ss) b h = ap is_brought_atom (sym (some_is (sum_atom k ss) b h))
brought_stays order (and_atom ls) b h = ap is_brought_atom (sym (some_is (and_atom ls) b h))
brought_stays order (iff_atom l m) b h = ap is_brought_atom (sym (some_is (iff_atom l m) b h))

-- where the parts are there, the regex is
pub has_number : (sorts : List Sort) (count : ℕ) (order : List ℕ) (a : AtomOver ℕ) → have_parts sorts order count a ≡ true
    → is_some (numbered order a) ≡ true
has_number sorts count order (bool_atom serial) h = refl
has_number sorts count order (in_atom ps r) h =
    found (slice_get order r) (and_parts (is_some (slice_get order r)) (list_all (is_declared_piece sorts) ps) h).0
  where
    found : (o : Option ℕ) → is_some o ≡ true → is_some (option_map {T = ℕ} (in_atom ps) o) ≡ true
    found None e = e
    found (Some i) e = refl
has_number sorts count order (le_atom x k) h = refl
has_number sorts count order (sum_atom k ss) h = refl
has_number sorts count order (and_atom ls) h = refl
has_number sorts count order (iff_atom l m) h = refl

-- a number of the order is one of the arena
pub found_one : (n : ℕ) (order : List ℕ) (m i : ℕ) → All (λ j. j < n) order → slice_get order m ≡ Some i → i < n
found_one n order m i all h =
    subst (λ j. j < n) (get_or_from_slice_get order m i 0 h) (all m 0 (slice_get_within order m i h))

pub number_below : (n : ℕ) (order : List ℕ) (a b : AtomOver ℕ) → All (λ j. j < n) order → numbered order a ≡ Some b
    → HasRegexBelow n b
number_below n order (bool_atom serial) b all h = subst (HasRegexBelow n) (some_is _ b h) tt
number_below n order (in_atom ps r) b all h = step (slice_get order r) refl h
  where
    step : (o : Option ℕ) → slice_get order r ≡ o → option_map (in_atom ps) o ≡ Some b → HasRegexBelow n b
    step None e h = absurd (Prim.cc (h))
    step (Some i) e h = subst (HasRegexBelow n) (some_is _ b h) (found_one n order r i all e)
number_below n order (le_atom x k) b all h = subst (HasRegexBelow n) (some_is _ b h) tt
number_below n order (sum_atom k ss) b all h = subst (HasRegexBelow n) (some_is _ b h) tt
number_below n order (and_atom ls) b all h = subst (HasRegexBelow n) (some_is _ b h) tt
number_below n order (iff_atom l m) b all h = subst (HasRegexBelow n) (some_is _ b h) tt
