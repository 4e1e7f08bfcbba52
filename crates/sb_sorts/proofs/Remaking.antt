-- Terms made anew with arguments in the places of parameters, from the last one on.
use Rattle.std.proofs.Common.{◌≡◌, ℕ, zero, suc, ◌-◌, ◌<◌, ◌≤◌, Bool, true, false, nat_lt, cond, List, [], ◌∷◌, length, map, drop, get_or, All, Option, Some, None, refl, sym, ap, subst, ◌∙◌, arith}
use Rattle.std.specs.Prelude.{unwrap_or, slice_get}
use Rattle.std.specs.List.{list_all}
use Rattle.std.specs.Map.{lookup}
use Rattle.std.specs.BTreeMap.{is_at}
use Rattle.std.specs.Ordering.{nat_cmp}
use Rattle.std.proofs.lemmas.Bool.{and_parts, false≢true, ltb-true}
use Rattle.std.proofs.lemmas.Bool.Decides.{nat_tests}
use Rattle.sb_meaning.specs.Terms.{Sort, Symbol, Term, apply, parameter, terms_of, terms_in}
use Rattle.sb_script.specs.Heads.{with_arguments}
use Rattle.sb_term.specs.Numbered.{term_at, terms_at, AllNumbers, Names, Extends}
use Rattle.sb_term.specs.Nodes.{node_term}
use Rattle.sb_term.specs.Parameters.{has_parameters}
use Rattle.sb_term.specs.declared.term.Term as code
use Rattle.sb_term.specs.declared.term.Term.TheVariants as node
use Rattle.sb_term.proofs.CallerLemmas.{at_kept, ats_kept, number_kept, names_at, names_below, none_known, parts_known, next_known, all_known}
use Rattle.sb_term.specs.Descending.{AllOf, known_at, AreKnown}
use Rattle.sb_sorts.specs.Unfolding.{arguments_in, open_parts, open_numbers, AreOpen, next_in, IsMadeAs, IsNext, HasNext, AreMadeOf}
use Rattle.sb_sorts.proofs.Unfolding.{closed_same, each_made}
use Rattle.sb_sorts.proofs.OpenTerms.{open_parts_are, open_below}

-- The arguments of a term.

terms_in_of : (ts : List Term) → terms_in (terms_of ts) ≡ ts
terms_in_of [] = refl
terms_in_of (t ∷ ts) = ap (λ us. t ∷ us) (terms_in_of ts)

-- those of a symbol, by their numbers
pub arguments_are : (ts : List Term) (i : ℕ) (s : Symbol) (is : List ℕ)
    → apply s (terms_of (terms_at ts is)) ≡ term_at ts i → terms_at ts is ≡ arguments_in (term_at ts i)
arguments_are ts i s is e = sym (terms_in_of (terms_at ts is)) ∙ ap arguments_in e

-- One term.

pub are_numbers : (ts us given : List Term) (made : List (ℕ × ℕ)) (is : List ℕ) → AllOf (IsNext ts us given made) is
    → AllNumbers us (map (next_in made) is)
are_numbers ts us given made [] h k d l = absurd (omega (arith, l))
are_numbers ts us given made (i ∷ is) h zero d l = h.0.0
are_numbers ts us given made (i ∷ is) h (suc k) d l = are_numbers ts us given made is h.1 k d (omega (arith, l))

-- a symbol with its arguments
pub node_next : (ts us given : List Term) (made : List (ℕ × ℕ)) (i next : ℕ) (s : Symbol) (is js : List ℕ)
    → apply s (terms_of (terms_at ts is)) ≡ term_at ts i → All (λ j. j < i) is → HasNext ts given made i
    → js ≡ map (next_in made) is → Names us next (apply s (terms_of (terms_at ts js)))
    → IsMadeAs ts us given i next
node_next ts us given made i next s is js node below parts moved named = (
  names_below us next _ named,
  names_at us next _ named ∙ ap (λ ks. apply s (terms_of (terms_at ts ks))) moved
      ∙ ap (apply s) (sym (each_made ts ts given made is (parts is (arguments_are ts i s is node) below)))
      ∙ ap (with_arguments given) node,
)

-- an argument in the place of a parameter
pub argument_next : (ts : List Term) (given : List ℕ) (place i : ℕ) (t : Term) → AllNumbers ts given → i < length ts
    → term_at ts i ≡ t
    → (unwrap_or (slice_get given place) i < length ts)
    × (term_at ts (unwrap_or (slice_get given place) i) ≡ unwrap_or (slice_get (terms_at ts given) place) t)
argument_next ts [] place i t all within e = (within, e)
argument_next ts (j ∷ js) zero i t all within e = (all 0 0 (omega arith), refl)
argument_next ts (j ∷ js) (suc k) i t all within e =
    argument_next ts js k i t (λ n d l. all (suc n) d (omega (arith, l))) within e

pub parameter_next : (ts : List Term) (given : List ℕ) (place : ℕ) (sort : Sort) (i next : ℕ) → AllNumbers ts given
    → i < length ts → parameter place sort ≡ term_at ts i → next ≡ unwrap_or (slice_get given place) i
    → IsMadeAs ts ts (terms_at ts given) i next
parameter_next ts given place sort i next all within is value =
    let here = argument_next ts given place i (parameter place sort) all within (sym is) in
    subst (IsMadeAs ts ts (terms_at ts given) i) (sym value) (
      here.0,
      here.1 ∙ ap (with_arguments (terms_at ts given)) is,
    )

-- a term that is no parameter and has no arguments
pub closed_node : (ts : List Term) (d : code.Term)
    → ((s : _) (is : _) → d ≡ node.Apply s is → ⊥) → ((place : _) (sort : _) → d ≡ node.Parameter place sort → ⊥)
    → has_parameters (node_term ts d) ≡ false
closed_node ts (node.Constant serial sort) a p = refl
closed_node ts (node.Word codes) a p = refl
closed_node ts (node.Numeral n) a p = refl
closed_node ts (node.Apply s is) a p = absurd (a s is refl)
closed_node ts (node.Parameter place sort) a p = absurd (p place sort refl)

pub itself_next : (ts given : List Term) (i : ℕ) (t : Term) → i < length ts → t ≡ term_at ts i
    → has_parameters t ≡ false → IsMadeAs ts ts given i i
itself_next ts given i t within is closed =
    (within, sym (closed_same given (term_at ts i) (ap has_parameters (sym is) ∙ closed)))

-- The terms at places from the last one on.

passes_at : (test : ℕ → Bool) (is : List ℕ) (p i : ℕ) → list_all test is ≡ true → p < length is → i ≡ get_or is p i
    → test i ≡ true
passes_at test [] p i h within at = absurd (omega (arith, within))
passes_at test (j ∷ is) zero i h within at =
    subst (λ k. test k ≡ true) (sym at) (and_parts (test j) (list_all test is) h).0
passes_at test (j ∷ is) (suc p) i h within at =
    passes_at test is p i (and_parts (test j) (list_all test is) h).1 (omega (arith, within)) at

pub place_within : (ts : List Term) (is : List ℕ) (place i : ℕ) → AreOpen ts is → 0 < place → place ≤ length is
    → i ≡ get_or is (place - 1) i → i < length ts
place_within ts is place i all pos within at =
    ltb-true i (length ts)
    (passes_at (λ j. nat_lt j (length ts)) is (place - 1) i all.below (omega (arith, pos, within)) at)

place_open : (ts : List Term) (is : List ℕ) (place i : ℕ) → AreOpen ts is → 0 < place → place ≤ length is
    → i ≡ get_or is (place - 1) i → has_parameters (term_at ts i) ≡ true
place_open ts is place i all pos within at =
    passes_at (λ j. has_parameters (term_at ts j)) is (place - 1) i all.parametric (omega (arith, pos, within)) at

-- The terms of these numbers are made, and nothing is known of terms without parameters. What a number is where nothing
-- is known of it may be any: in the end it is the number itself.
pub record SoFar (ts us given : List Term) (made : List (ℕ × ℕ)) (rest : List ℕ) : Type 0 where
  pub done : (none : ℕ) → AreKnown none (IsMadeAs ts us given) made rest
  pub closed : (i : ℕ) → has_parameters (term_at ts i) ≡ false → lookup (is_at (nat_cmp i)) made ≡ None

pub so_far_none : (ts given : List Term) (made : List (ℕ × ℕ)) (is : List ℕ) → made ≡ []
    → SoFar ts ts given made (drop (length is) is)
so_far_none ts given made is empty = record {
  done = λ none. none_known none (IsMadeAs ts ts given) made is;
  closed = λ i h. ap (lookup (is_at (nat_cmp i))) empty;
}

-- The arguments of the next one.

by_itself : (P : ℕ → ℕ → Type 0) (made : List (ℕ × ℕ)) (is : List ℕ)
    → ((none : ℕ) → AllOf (λ i. P i (known_at none made i)) is) → AllOf (λ i. P i (next_in made i)) is
by_itself P made [] h = tt
by_itself P made (i ∷ is) h = ((h i).0, by_itself P made is (λ none. (h none).1))

module _ (ts us : List Term) (given : List ℕ) (made : List (ℕ × ℕ)) (rest : List ℕ) (extends : Extends ts us)
    (so_far : SoFar ts us (terms_at ts given) made rest) where
  open_next : (i : ℕ) → i < length ts → IsNext ts us (terms_at ts given) made i
      → IsNext us us (terms_at ts given) made i
  open_next i within h =
      (h.0, h.1 ∙ ap (with_arguments (terms_at ts given)) (sym (at_kept ts us i extends within)))

  closed_next : (i : ℕ) → i < length ts → has_parameters (term_at ts i) ≡ false
      → IsNext us us (terms_at ts given) made i
  closed_next i within e =
      let itself : next_in made i ≡ i = ap (λ (o : Option ℕ). unwrap_or o i) (so_far.closed i e) in
      let same = at_kept ts us i extends within in
      subst (IsMadeAs us us (terms_at ts given) i) (sym itself)
      (itself_next us (terms_at ts given) i (term_at ts i) (number_kept ts us i extends within) (sym same) e)

  all_next : (is : List ℕ) → AllNumbers ts is → AllOf (IsNext ts us (terms_at ts given) made) (open_numbers ts is)
      → AllOf (IsNext us us (terms_at ts given) made) is
  all_next [] within there = tt
  all_next (i ∷ is) within there =
      step (has_parameters (term_at ts i)) refl there
      (λ h. all_next is (λ k d l. within (suc k) d (omega (arith, l))) h)
    where
      step : (b : Bool) → has_parameters (term_at ts i) ≡ b
          → AllOf (IsNext ts us (terms_at ts given) made) (cond b (i ∷ open_numbers ts is) (open_numbers ts is))
          → (AllOf (IsNext ts us (terms_at ts given) made) (open_numbers ts is)
          → AllOf (IsNext us us (terms_at ts given) made) is)
          → AllOf (IsNext us us (terms_at ts given) made) (i ∷ is)
      step true e h others = (open_next i (within 0 0 (omega arith)) h.0, others h.1)
      step false e h others = (closed_next i (within 0 0 (omega arith)) e, others h)

pub parts_next : (ts us : List Term) (given : List ℕ) (made : List (ℕ × ℕ)) (is : List ℕ) (place i : ℕ)
    → AreOpen ts is → AllNumbers ts given → 0 < place → place ≤ length is → i ≡ get_or is (place - 1) i
    → Extends ts us → SoFar ts us (terms_at ts given) made (drop place is) → HasNext us (terms_at us given) made i
parts_next ts us given made is place i all numbers pos within at extends so_far js same below =
    let inside = place_within ts is place i all pos within at in
    let numbers_in : AllNumbers ts js = λ k d l. omega (arith, below k d l, inside) in
    let here = sym (ats_kept ts us js extends numbers_in) ∙ same ∙ ap arguments_in (at_kept ts us i extends inside) in
    subst (λ gs. AllOf (IsNext us us gs made) js) (sym (ats_kept ts us given extends numbers))
    (all_next ts us given made (drop place is) extends so_far js numbers_in
    (by_itself (IsMadeAs ts us (terms_at ts given)) made (open_numbers ts js)
    (λ none. parts_known open_parts none (IsMadeAs ts us (terms_at ts given)) made ts is place i all.parts pos within at
    (so_far.done none) (open_numbers ts js) (open_parts_are ts (term_at ts i) js here) (open_below ts i js below))))

-- One more is made.

same_key : (k i : ℕ) → is_at (nat_cmp k) i ≡ true → k ≡ i
same_key k i h = grind (arith, nat_tests)

module _ (ts us vs given : List Term) (old new : List (ℕ × ℕ)) (k a : ℕ) (extends : Extends us vs)
    (updates : (i : ℕ) → lookup (is_at (nat_cmp i)) new
    ≡ cond (is_at (nat_cmp k) i) (Some a) (lookup (is_at (nat_cmp i)) old)) where
  pub so_far_more : (is : List ℕ) (place : ℕ) → AreOpen ts is → 0 < place → place ≤ length is
      → k ≡ get_or is (place - 1) k → IsMadeAs ts vs given k a → SoFar ts us given old (drop place is)
      → SoFar ts vs given new (drop (place - 1) is)
  so_far_more is place all pos within at here before = record {
    done = λ none. next_known none (IsMadeAs ts vs given) old new is place k a pos within at updates here
        (λ i h. let was = before.done none i h in
        (number_kept us vs _ extends was.0, at_kept us vs _ extends was.0 ∙ was.1));
    closed = λ i h. closed (is_at (nat_cmp k) i) i refl h;
  }
    where
      closed : (b : Bool) (i : ℕ) → is_at (nat_cmp k) i ≡ b → has_parameters (term_at ts i) ≡ false
          → lookup (is_at (nat_cmp i)) new ≡ None
      closed true i e h =
          absurd (false≢true (sym h ∙ ap (λ j. has_parameters (term_at ts j)) (sym (same_key k i e))
          ∙ place_open ts is place k all pos within at))
      closed false i e h =
          updates i ∙ ap (λ (c : Bool). cond c (Some a) (lookup (is_at (nat_cmp i)) old)) e ∙ before.closed i h

pub so_far_all : (ts us given : List Term) (made : List (ℕ × ℕ)) (is : List ℕ) (place : ℕ) → place ≤ 0
    → SoFar ts us given made (drop place is) → AreMadeOf ts us given made is
so_far_all ts us given made is place past so_far i h =
    all_known i (IsMadeAs ts us given) made is place past (so_far.done i) i h
