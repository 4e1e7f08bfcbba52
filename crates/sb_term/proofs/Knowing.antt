-- What is known of terms by their numbers, found from the last one on, whatever the parts of a term are.
use Rattle.std.proofs.Common.{◌≡◌, ℕ, zero, suc, ◌+◌, ◌-◌, ◌<◌, ◌≤◌, Bool, true, false, nat_eq, cond, List, [], ◌∷◌, length, drop, get_or, Option, Some, refl, sym, ap, ap₂, subst, ◌∙◌, arith}
use Rattle.std.specs.Prelude.{◌||◌, unwrap_or}
use Rattle.std.specs.List.{list_all}
use Rattle.std.specs.Map.{lookup}
use Rattle.std.specs.BTreeMap.{is_at}
use Rattle.std.specs.Ordering.{nat_cmp}
use Rattle.std.proofs.lemmas.Bool.{and_parts, false≢true}
use Rattle.std.proofs.lemmas.Bool.Decides.{nat_tests}
use Rattle.std.proofs.lemmas.List.{append-nil, drop_more, drop_all}
use Rattle.sb_meaning.specs.Terms.{Term}
use Rattle.sb_term.specs.Descending.{has, AllOf, PartsPass, PartsAre, HaveParts, known_at, AreKnown}

-- Places from the last one on.

one_back : (place : ℕ) → 0 < place → place - 1 + 1 ≡ place
one_back place pos = omega (arith, pos)

behind : (is : List ℕ) (place i : ℕ) → 0 < place → place ≤ length is → i ≡ get_or is (place - 1) i
    → drop (place - 1) is ≡ i ∷ drop place is
behind is place i pos within at =
    drop_more is (place - 1) i (omega (arith, pos, within))
    ∙ ap₂ (λ j k. j ∷ drop k is) (sym at) (one_back place pos)

parts_behind : (parts : Term → List Term) (ts : List Term) (is : List ℕ) (p i : ℕ) → HaveParts parts ts is []
    → p < length is → i ≡ get_or is p i → PartsPass parts ts (has (drop (suc p) is)) i
parts_behind parts ts [] p i h within at = absurd (omega (arith, within))
parts_behind parts ts (j ∷ is) zero i h within at =
    subst (PartsPass parts ts (has is)) (sym at) (subst (λ js. PartsPass parts ts (has js) j) (append-nil is) h.0)
parts_behind parts ts (j ∷ is) (suc p) i h within at = parts_behind parts ts is p i h.1 (omega (arith, within)) at

all_of : (P : ℕ → Type 0) (done : List ℕ) → ((i : ℕ) → has done i ≡ true → P i) → (is : List ℕ)
    → list_all (has done) is ≡ true → AllOf P is
all_of P done f [] h = tt
all_of P done f (i ∷ is) h =
    let both = and_parts (has done i) (list_all (has done) is) h in
    (f i both.0, all_of P done f is both.1)

-- What is known of the parts of the term that is next.
pub parts_known : {A : Type 0} (parts : Term → List Term) (none : A) (P : ℕ → A → Type 0) (known : List (ℕ × A))
    (ts : List Term) (is : List ℕ) (place i : ℕ) → HaveParts parts ts is [] → 0 < place → place ≤ length is
    → i ≡ get_or is (place - 1) i → AreKnown none P known (drop place is)
    → PartsAre parts ts (λ j. P j (known_at none known j)) i
parts_known parts none P known ts is place i have pos within at h js same below =
    let next : suc (place - 1) ≡ place = omega (arith, pos) in
    all_of (λ j. P j (known_at none known j)) (drop place is) h js
    (subst (λ k. PartsPass parts ts (has (drop k is)) i) next
    (parts_behind parts ts is (place - 1) i have (omega (arith, pos, within)) at) js same below)

-- One more is known.

same_key : (k i : ℕ) → is_at (nat_cmp k) i ≡ true → k ≡ i
same_key k i h = grind (arith, nat_tests)

other_key : (k i : ℕ) → is_at (nat_cmp k) i ≡ false → nat_eq i k ≡ false
other_key k i h = grind (arith, nat_tests)

known_more : {A : Type 0} (none : A) (P : ℕ → A → Type 0) (old new : List (ℕ × A)) (is : List ℕ) (k : ℕ) (a : A)
    → ((i : ℕ) → lookup (is_at (nat_cmp i)) new
    ≡ cond (is_at (nat_cmp k) i) (Some a) (lookup (is_at (nat_cmp i)) old)) → P k a → AreKnown none P old is
    → AreKnown none P new (k ∷ is)
known_more {A} none P old new is k a updates here before i h = step (is_at (nat_cmp k) i) refl
  where
    step : (b : Bool) → is_at (nat_cmp k) i ≡ b → P i (known_at none new i)
    step true e =
        let value : known_at none new i ≡ a = ap (λ (o : Option A). unwrap_or o none)
        (updates i ∙ ap (λ (b : Bool). cond b (Some a) (lookup (is_at (nat_cmp i)) old)) e) in
        subst (P i) (sym value) (subst (λ j. P j a) (same_key k i e) here)
    step false e =
        let value : known_at none new i ≡ known_at none old i = ap (λ (o : Option A). unwrap_or o none)
        (updates i ∙ ap (λ (b : Bool). cond b (Some a) (lookup (is_at (nat_cmp i)) old)) e) in
        subst (P i) (sym value) (before i (sym (ap (λ b. b || has is i) (other_key k i e)) ∙ h))

pub none_known : {A : Type 0} (none : A) (P : ℕ → A → Type 0) (known : List (ℕ × A)) (is : List ℕ)
    → AreKnown none P known (drop (length is) is)
none_known none P known is i h =
    absurd (false≢true (sym (ap (λ js. has js i) (drop_all (length is) is (omega arith))) ∙ h))

pub next_known : {A : Type 0} (none : A) (P : ℕ → A → Type 0) (old new : List (ℕ × A)) (is : List ℕ) (place k : ℕ)
    (a : A) → 0 < place → place ≤ length is → k ≡ get_or is (place - 1) k
    → ((i : ℕ) → lookup (is_at (nat_cmp i)) new
    ≡ cond (is_at (nat_cmp k) i) (Some a) (lookup (is_at (nat_cmp i)) old)) → P k a
    → AreKnown none P old (drop place is) → AreKnown none P new (drop (place - 1) is)
next_known none P old new is place k a pos within at updates here before =
    subst (AreKnown none P new) (sym (behind is place k pos within at))
    (known_more none P old new (drop place is) k a updates here before)

pub all_known : {A : Type 0} (none : A) (P : ℕ → A → Type 0) (known : List (ℕ × A)) (is : List ℕ) (place : ℕ)
    → place ≤ 0 → AreKnown none P known (drop place is) → AreKnown none P known is
all_known none P known is place done h = subst (λ k. AreKnown none P known (drop k is)) (nothing place done) h
  where
    nothing : (k : ℕ) → k ≤ 0 → k ≡ 0
    nothing k l = omega (arith, l)
