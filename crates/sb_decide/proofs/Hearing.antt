-- The constants that were heard of, as terms and assertions come and go.
use Rattle.sb_decide.proofs.Words.{◌≡◌, ℕ, zero, suc, ◌<◌, ◌≤◌, Bool, not, ◌&&◌, List, [], ◌∷◌, ◌++◌, length, get_or, slice_get, take, drop, Option, Some, None, IfSome, refl, sym, ap, ap₂, subst, ◌∙◌, arith, All, All-head, All-tail, All-take, AreHeard, AreMembers, HasNumberBelow, Hears, IsTakenAs, Member, Regex, Serial, Speaks, Term, is_silent, list_all, list_all-append, occurs, passes_at, take-append-drop, take-append-le, passes, passes_in}
use Rattle.sb_term.specs.declared.assertion.Assertion as code
use Rattle.sb_term.specs.Numbered as table
use Rattle.sb_term.proofs.CallerLemmas as table_facts

-- nothing was heard
pub heard_none : (ts : List Term) (xs : List code.Assertion) (places : List ℕ) (count : ℕ) (serials : List Serial)
    → count ≡ 0 → serials ≡ [] → AreHeard ts xs places count serials
heard_none ts xs places count serials none empty =
    rw (none, empty) (record { within = omega arith; speaks = λ n. refl })

-- others come behind, and go
pub heard_same : (ts : List Term) (xs : List code.Assertion) (places more : List ℕ) (count : ℕ) (serials : List Serial)
    → take count more ≡ take count places → count ≤ length more → AreHeard ts xs places count serials
    → AreHeard ts xs more count serials
heard_same ts xs places more count serials same few heard =
    record { within = few; speaks = subst (λ ps. Speaks ts xs ps serials) (sym same) heard.speaks }

-- so many first ones of the first ones
pub take_front : (places front : List ℕ) (m count : ℕ) → front ≡ take m places → count ≤ length front
    → take count front ≡ take count places
take_front places front m count is few =
    sym (take-append-le count front (drop m places) few)
    ∙ ap (take count) (ap (λ ps. ps ++ drop m places) is ∙ take-append-drop m places)

-- all are heard
pub speaks_all : (ts : List Term) (xs : List code.Assertion) (places : List ℕ) (count : ℕ) (was serials : List Serial)
    → AreHeard ts xs places count was → Hears ts xs (drop count places) was serials → Speaks ts xs places serials
speaks_all ts xs places count was serials heard hears n =
    ap (list_all (passes_at (is_silent ts n) xs)) (sym (take-append-drop count places))
    ∙ (list_all-append (passes_at (is_silent ts n) xs) (take count places) (drop count places)
    ∙ (ap (λ b. b && list_all (passes_at (is_silent ts n) xs) (drop count places)) (heard.speaks n)
    ∙ sym (hears n)))

-- two tests agree on these
all_agree : (p q : ℕ → Bool) (is : List ℕ) → All (λ i. p i ≡ q i) is → list_all p is ≡ list_all q is
all_agree p q [] h = refl
all_agree p q (i ∷ is) h =
    ap₂ ◌&&◌ (All-head (λ j. p j ≡ q j) i is h) (all_agree p q is (All-tail (λ j. p j ≡ q j) i is h))

-- the table grows
passes_kept : (rs : List Regex) (ts us : List Term) (n : ℕ) (ms : List (Option Member)) (xs : List code.Assertion)
    (p : ℕ) → table.Extends ts us → AreMembers rs ts ms xs → p < length ms
    → passes_at (is_silent us n) xs p ≡ passes_at (is_silent ts n) xs p
passes_kept rs ts us n [] xs p e h l = absurd (omega (arith, l))
passes_kept rs ts us n (o ∷ ms) [] p e h l = absurd h
passes_kept rs ts us n (o ∷ ms) (x ∷ xs) (suc p) e h l = passes_kept rs ts us n ms xs p e h.1 (omega (arith, l))
passes_kept rs ts us n (o ∷ ms) (x ∷ xs) zero e h l = same x.term (number o h.0)
  where
    number : (o : Option Member) → IsTakenAs rs ts o x → HasNumberBelow (length ts) x
    number None h = h.number
    number (Some m) h = h.number

    same : (q : Option ℕ) → IfSome q (λ id. id < length ts) → passes (is_silent us n) q ≡ passes (is_silent ts n) q
    same None h = refl
    same (Some id) h = ap (λ t. not (occurs n t)) (table_facts.at_kept ts us id e h)

-- and other assertions stand behind those that were taken in
pub heard_told : (rs : List Regex) (ts us : List Term) (ms : List (Option Member)) (xs ys : List code.Assertion)
    (places : List ℕ) (count : ℕ) (serials : List Serial) → table.Extends ts us → AreMembers rs ts ms xs
    → ((p : ℕ) → p < length ms → slice_get ys p ≡ slice_get xs p) → All (λ p. p < length ms) places
    → AreHeard ts xs places count serials → AreHeard us ys places count serials
heard_told rs ts us ms xs ys places count serials e members same low heard = record {
  within = heard.within;
  speaks = λ n.
      all_agree (passes_at (is_silent us n) ys) (passes_at (is_silent ts n) xs) (take count places)
      (All-take (λ p. passes_at (is_silent us n) ys p ≡ passes_at (is_silent ts n) xs p) count places
      (λ k d l. ap (passes_in (is_silent us n)) (same (get_or places k d) (low k d l))
      ∙ passes_kept rs ts us n ms xs (get_or places k d) e members (low k d l)))
      ∙ heard.speaks n;
}
