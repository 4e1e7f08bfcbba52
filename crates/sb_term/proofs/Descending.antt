-- Terms that are taken from the largest number down, with their parts, whatever the parts of a term are.
use Rattle.std.proofs.Common.{◌≡◌, ℕ, suc, ◌+◌, ◌<◌, ◌≤◌, Bool, true, false, ◌&&◌, nat_eq, nat_lt, List, [], ◌∷◌, ◌++◌, length, take, get_or, All, refl, sym, ap, subst, ◌∙◌, arith}
use Rattle.std.specs.Prelude.{◌||◌}
use Rattle.std.specs.List.{list_all}
use Rattle.std.specs.Ordering.{nat_cmp, match_ordering}
use Rattle.std.specs.declared.cmp.Ordering.{Ordering}
use Rattle.std.specs.declared.cmp.Ordering.TheVariants.{Less, Equal, Greater}
use Rattle.std.specs.BTreeSet.{insert_key}
use Rattle.std.proofs.lemmas.Bool.{and_parts, and_from, or_left, or_right, false≢true, eq-eqb, lt-ltb, ltb-true}
use Rattle.std.proofs.lemmas.List.{append-nil, take_more}
use Rattle.std.proofs.lemmas.List.Folds.{list_all-append, list_any-append, list_all-map}
use Rattle.sb_facts.proofs.CallerLemmas.{cmp_equal, cmp_less, all_append, all_push, all_weaker}
use Rattle.sb_meaning.specs.Terms.{Term}
use Rattle.sb_term.specs.Numbered.{term_at, terms_at, AreDistinct}
use Rattle.sb_term.specs.Descending.{has, PartsPass, HaveParts, GoesDown, AreReached, Reaching, top, Puts}
use Rattle.sb_term.proofs.NodeEq.{same_numbers}

-- The set of those that are left.

or_later : (a b c : Bool) → (b ≡ true → c ≡ true) → (a || b) ≡ true → (a || c) ≡ true
or_later true b c f h = refl
or_later false b c f h = f h

inserted_all : (test : ℕ → Bool) (ks : List ℕ) (k : ℕ) → list_all test ks ≡ true → test k ≡ true
    → list_all test (insert_key nat_cmp ks k) ≡ true
inserted_all test [] k h p = and_from (test k) true p refl
inserted_all test (x ∷ ks) k h p =
    let both = and_parts (test x) (list_all test ks) h in
    step (nat_cmp k x) both.0 (inserted_all test ks k both.1 p)
  where
    step : (o : Ordering) → test x ≡ true → list_all test (insert_key nat_cmp ks k) ≡ true
        → list_all test (match_ordering o (k ∷ x ∷ ks) (x ∷ ks) (x ∷ insert_key nat_cmp ks k)) ≡ true
    step Less here rest = and_from (test k) (list_all test (x ∷ ks)) p h
    step Equal here rest = h
    step Greater here rest = and_from (test x) (list_all test (insert_key nat_cmp ks k)) here rest

inserted_kept : (ks : List ℕ) (k i : ℕ) → has ks i ≡ true → has (insert_key nat_cmp ks k) i ≡ true
inserted_kept [] k i h = absurd (false≢true h)
inserted_kept (x ∷ ks) k i h = step (nat_cmp k x) (inserted_kept ks k i)
  where
    step : (o : Ordering) → (has ks i ≡ true → has (insert_key nat_cmp ks k) i ≡ true)
        → has (match_ordering o (k ∷ x ∷ ks) (x ∷ ks) (x ∷ insert_key nat_cmp ks k)) i ≡ true
    step Less rest = or_right (nat_eq i k) (has (x ∷ ks) i) h
    step Equal rest = h
    step Greater rest = or_later (nat_eq i x) (has ks i) (has (insert_key nat_cmp ks k) i) rest h

inserted_there : (ks : List ℕ) (k : ℕ) → has (insert_key nat_cmp ks k) k ≡ true
inserted_there [] k = or_left (nat_eq k k) false (eq-eqb k k refl)
inserted_there (x ∷ ks) k = step (nat_cmp k x) refl (inserted_there ks k)
  where
    step : (o : Ordering) → nat_cmp k x ≡ o → has (insert_key nat_cmp ks k) k ≡ true
        → has (match_ordering o (k ∷ x ∷ ks) (x ∷ ks) (x ∷ insert_key nat_cmp ks k)) k ≡ true
    step Less is rest = or_left (nat_eq k k) (has (x ∷ ks) k) (eq-eqb k k refl)
    step Equal is rest = or_left (nat_eq k x) (has ks k) (eq-eqb k x (cmp_equal k x is))
    step Greater is rest = or_right (nat_eq k x) (has (insert_key nat_cmp ks k) k) rest

pub puts_none : (ks : List ℕ) → Puts ks [] ks
puts_none ks = record { kept = λ i h. h; there = refl; only = λ test h p. h }

pub puts_more : (old mid new is : List ℕ) (i x : ℕ) → Puts old (take i is) mid → i < length is → x ≡ get_or is i x
    → new ≡ insert_key nat_cmp mid x → Puts old (take (i + 1) is) new
puts_more old mid new is i x p within at e =
    subst (λ js. Puts old js new) (sym (take_more is i x within ∙ ap (λ j. take i is ++ j ∷ []) (sym at)))
    (subst (Puts old (take i is ++ x ∷ [])) (sym e) (record {
      kept = λ j h. inserted_kept mid x j (p.kept j h);
      there = all_push (has (insert_key nat_cmp mid x)) (take i is) x
          (all_weaker (has mid) (has (insert_key nat_cmp mid x)) (inserted_kept mid x) (take i is) p.there)
          (inserted_there mid x);
      only = λ test h more.
          let both = and_parts (list_all test (take i is)) (test x && true)
          (sym (list_all-append test (take i is) (x ∷ [])) ∙ more) in
          inserted_all test mid x (p.only test h both.0) (and_parts (test x) true both.1).0;
    }))

pub puts_end : (old new is : List ℕ) (i : ℕ) → take i is ≡ is → Puts old (take i is) new → Puts old is new
puts_end old new is i all p = subst (λ js. Puts old js new) all p

-- The largest of those that are left.

top_below : (n : ℕ) (ks : List ℕ) → list_all (λ k. nat_lt k n) ks ≡ true → top ks ≤ n
top_below n [] h = omega arith
top_below n (k ∷ ks) h =
    let both = and_parts (nat_lt k n) (list_all (λ j. nat_lt j n) ks) h in
    let first = ltb-true k n both.0 in
    let rest = top_below n ks both.1 in
    omega (arith, first, rest)

top_last : (ks : List ℕ) (k : ℕ) → k < top (ks ++ k ∷ [])
top_last [] k = omega arith
top_last (j ∷ ks) k = let rest = top_last ks k in omega (arith, rest)

below_all : (n : ℕ) (is : List ℕ) → All (λ i. i < n) is → list_all (λ i. nat_lt i n) is ≡ true
below_all n [] h = refl
below_all n (i ∷ is) h =
    and_from (nat_lt i n) (list_all (λ j. nat_lt j n) is) (lt-ltb i n (h 0 0 (omega arith)))
    (below_all n is (λ k d l. h (suc k) d (omega (arith, l))))

less_all : (n : ℕ) (ks : List ℕ) → All (λ k. nat_cmp k n ≡ Less) ks → list_all (λ k. nat_lt k n) ks ≡ true
less_all n ks h = below_all n ks (λ k d l. cmp_less (get_or ks k d) n (h k d l))

pub top_falls : (old left new more : List ℕ) (k : ℕ) → old ≡ left ++ k ∷ [] → All (λ j. nat_cmp j k ≡ Less) left
    → All (λ j. j < k) more → Puts left more new → top new < top old
top_falls old left new more k e below parts p =
    let now = top_below k new (p.only (λ j. nat_lt j k) (less_all k left below) (below_all k more parts)) in
    let before = top_last left k in
    omega (arith, now, before, ap top e)

-- What was taken, and what is left.

last_passes : (test : ℕ → Bool) (is left : List ℕ) (k : ℕ) → list_all test (is ++ (left ++ k ∷ [])) ≡ true
    → test k ≡ true
last_passes test is left k h =
    let rest = (and_parts (list_all test is) (list_all test (left ++ k ∷ []))
    (sym (list_all-append test is (left ++ k ∷ [])) ∙ h)).1 in
    let last = (and_parts (list_all test left) (test k && true)
    (sym (list_all-append test left (k ∷ [])) ∙ rest)).1 in
    (and_parts (test k) true last).0

any_moved : (a b c d : Bool) → (b ≡ true → d ≡ true) → (a || (b || (c || false))) ≡ true
    → ((a || (c || false)) || d) ≡ true
any_moved true b c d f h = refl
any_moved false b true d f h = refl
any_moved false true false d f h = f refl
any_moved false false false d f h = absurd (false≢true h)

has_moved : (is left new : List ℕ) (k i : ℕ) → ((j : ℕ) → has left j ≡ true → has new j ≡ true)
    → has (is ++ (left ++ k ∷ [])) i ≡ true → has ((is ++ k ∷ []) ++ new) i ≡ true
has_moved is left new k i kept h =
    list_any-append (nat_eq i) (is ++ k ∷ []) new
    ∙ ap (λ b. b || has new i) (list_any-append (nat_eq i) is (k ∷ []))
    ∙ any_moved (has is i) (has left i) (nat_eq i k) (has new i) (kept i)
    (sym (list_any-append (nat_eq i) is (left ++ k ∷ [])
    ∙ ap (λ b. has is i || b) (list_any-append (nat_eq i) left (k ∷ []))) ∙ h)

all_moved : (test : ℕ → Bool) (is left new : List ℕ) (k : ℕ)
    → (list_all test left ≡ true → test k ≡ true → list_all test new ≡ true)
    → list_all test (is ++ (left ++ k ∷ [])) ≡ true → list_all test ((is ++ k ∷ []) ++ new) ≡ true
all_moved test is left new k kept h =
    let front = and_parts (list_all test is) (list_all test (left ++ k ∷ []))
    (sym (list_all-append test is (left ++ k ∷ [])) ∙ h) in
    let back = and_parts (list_all test left) (test k && true)
    (sym (list_all-append test left (k ∷ [])) ∙ front.1) in
    let last = (and_parts (test k) true back.1).0 in
    all_append test (is ++ k ∷ []) new (all_push test is k front.0 last) (kept back.0 last)

module _ (parts : Term → List Term) (ts : List Term) where
  parts_moved : (is left new : List ℕ) (k : ℕ) → ((j : ℕ) → has left j ≡ true → has new j ≡ true)
      → PartsPass parts ts (has new) k → HaveParts parts ts is (left ++ k ∷ [])
      → HaveParts parts ts (is ++ k ∷ []) new
  parts_moved [] left new k kept here h = (here, tt)
  parts_moved (i ∷ is) left new k kept here h = (
    λ js e l. all_weaker (has (is ++ (left ++ k ∷ []))) (has ((is ++ k ∷ []) ++ new))
        (λ j. has_moved is left new k j kept) js (h.0 js e l),
    parts_moved is left new k kept here h.1,
  )

  module _ (root : ℕ) where
    pub reaching_start : (is none left : List ℕ) → root < length ts → is ≡ [] → none ≡ []
        → left ≡ insert_key nat_cmp none root → Reaching parts ts root is left
    reaching_start is none left within e n l =
        subst (λ js. Reaching parts ts root js left) (sym e)
        (subst (Reaching parts ts root []) (sym (l ∙ ap (λ ks. insert_key nat_cmp ks root) n)) (record {
          first = or_left (nat_eq root root) false (eq-eqb root root refl);
          below = and_from (nat_lt root (length ts)) true (lt-ltb root (length ts) within) refl;
          passes = λ test down h. and_from (test (term_at ts root)) true h refl;
          behind = tt;
        }))

    -- the next one
    pub next_within : (is old left : List ℕ) (k : ℕ) → Reaching parts ts root is old → old ≡ left ++ k ∷ []
        → k < length ts
    next_within is old left k h e =
        ltb-true k (length ts) (last_passes (λ i. nat_lt i (length ts)) is left k
        (subst (λ ks. list_all (λ i. nat_lt i (length ts)) (is ++ ks) ≡ true) e h.below))

    pub next_passes : (test : Term → Bool) → GoesDown parts test → test (term_at ts root) ≡ true
        → (is old left : List ℕ) (k : ℕ) → Reaching parts ts root is old → old ≡ left ++ k ∷ []
        → test (term_at ts k) ≡ true
    next_passes test down passes is old left k h e =
        last_passes (λ i. test (term_at ts i)) is left k
        (subst (λ ks. list_all (λ i. test (term_at ts i)) (is ++ ks) ≡ true) e (h.passes test down passes))

    pub reaching_step : (is all old left new more : List ℕ) (k : ℕ) → AreDistinct ts → Reaching parts ts root is old
        → old ≡ left ++ k ∷ [] → terms_at ts more ≡ parts (term_at ts k) → All (λ j. j < k) more
        → Puts left more new → all ≡ is ++ k ∷ [] → Reaching parts ts root all new
    reaching_step is all old left new more k once h e are below p a =
        subst (λ js. Reaching parts ts root js new) (sym a) (step (subst (Reaching parts ts root is) e h))
      where
        step : Reaching parts ts root is (left ++ k ∷ []) → Reaching parts ts root (is ++ k ∷ []) new
        step r =
            let within = ltb-true k (length ts) (last_passes (λ i. nat_lt i (length ts)) is left k r.below) in record {
              first = has_moved is left new k root p.kept r.first;
              below = all_moved (λ i. nat_lt i (length ts)) is left new k
                  (λ rest here. p.only (λ i. nat_lt i (length ts)) rest
                  (below_all (length ts) more (λ j d l. omega (arith, below j d l, within)))) r.below;
              passes = λ test down is_so. all_moved (λ i. test (term_at ts i)) is left new k
                  (λ rest here. p.only (λ i. test (term_at ts i)) rest
                  (sym (list_all-map test (term_at ts) more) ∙ ap (list_all test) are ∙ down (term_at ts k) here))
                  (r.passes test down is_so);
              behind = parts_moved is left new k p.kept (λ js same l.
                  subst (λ ks. list_all (has new) ks ≡ true)
                  (same_numbers ts more js once (λ j d m. omega (arith, below j d m, within))
                  (λ j d m. omega (arith, l j d m, within)) (are ∙ sym same)) p.there) r.behind;
            }

    pub reached_all : (is old : List ℕ) → (0 < length old → ⊥) → Reaching parts ts root is old
        → AreReached parts ts root is
    reached_all is old none h = step (subst (Reaching parts ts root is) (nothing old none) h)
      where
        nothing : (ks : List ℕ) → (0 < length ks → ⊥) → ks ≡ []
        nothing [] n = refl
        nothing (k ∷ ks) n = absurd (n (omega arith))

        step : Reaching parts ts root is [] → AreReached parts ts root is
        step r = record {
          first = subst (λ js. has js root ≡ true) (append-nil is) r.first;
          below = subst (λ js. list_all (λ i. nat_lt i (length ts)) js ≡ true) (append-nil is) r.below;
          passes = λ test down is_so. subst (λ js. list_all (λ i. test (term_at ts i)) js ≡ true) (append-nil is)
              (r.passes test down is_so);
          behind = r.behind;
        }
