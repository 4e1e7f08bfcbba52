-- Fewer of some literals.
use Rattle.sb_clash.proofs.Words.{[], if◌then◌else◌, ◌+◌, ◌<◌, ◌∷◌, ◌≡◌, ◌≤◌, Bool, List, arith, drop, false, get_or, length, refl, subst, suc, sym, take, true, zero, ℕ, All-append, All-cons, All-drop, All-nil, All-take, AreClashing, AreFewer, AtomOver, CanBeAsked, Explores, Findings, IsAbout, IsCore, LeavesOut, Lit, Regex, count_by, false≢true, is_same_literal, true≢false, remove, length-remove, get_or-le-sum_by, sum_by-cons, sum_by-remove}
use Rattle.sb_clash.proofs.AskedFacts.{can_later, clash_later}

abbrev pub one_if : Bool → ℕ
one_if b = if b then 1 else 0

pub count_cons : (p : Lit → Bool) (l : Lit) (ls : List Lit) → count_by p (l ∷ ls) ≡ one_if (p l) + count_by p ls
count_cons p l ls = sum_by-cons (λ x. one_if (p x)) l ls

without : (p : Lit → Bool) (xs : List Lit) (i : ℕ) (d : Lit) → i < length xs → count_by p (remove xs i) ≤ count_by p xs
without p xs i d l =
    let parts : count_by p (remove xs i) + one_if (p (get_or xs i d)) ≡ count_by p xs =
    sum_by-remove (λ x. one_if (p x)) xs i d l in
    omega (arith, parts)

one_of : (p : Lit → Bool) (xs : List Lit) (j : ℕ) (e : Lit) → j < length xs → one_if (p (get_or xs j e)) ≤ count_by p xs
one_of p xs j e l = get_or-le-sum_by (λ x. one_if (p x)) xs j e l

two_of : (p : Lit → Bool) (xs : List Lit) (i j : ℕ) (d e : Lit) → i < j → j < length xs
    → one_if (p (get_or xs i d)) + one_if (p (get_or xs j e)) ≤ count_by p xs
two_of p [] i j d e a l = absurd (omega (arith, l))
two_of p (x ∷ xs) zero zero d e a l = absurd (omega (arith, a))
two_of p (x ∷ xs) zero (suc j) d e a l = omega (arith, one_of p xs j e (omega (arith, l)), count_cons p x xs)
two_of p (x ∷ xs) (suc i) zero d e a l = absurd (omega (arith, a))
two_of p (x ∷ xs) (suc i) (suc j) d e a l =
    omega (arith, two_of p xs i j d e (omega (arith, a)) (omega (arith, l)), count_cons p x xs)

-- two of them
pub pair_fewer : (ls : List Lit) (i j : ℕ) (d e : Lit) → i < j → j < length ls
    → AreFewer (get_or ls i d ∷ get_or ls j e ∷ []) ls
pair_fewer ls i j d e a l = λ m.
    let p : Lit → Bool = λ k. is_same_literal k m in
    omega (
      arith,
      two_of p ls i j d e a l,
      count_cons p (get_or ls i d) (get_or ls j e ∷ []),
      count_cons p (get_or ls j e) [],
    )

pub pair_can : {rs : List Regex} {found : Findings} {atoms : List (AtomOver ℕ)} {x : ℕ} (ls : List Lit) (i j : ℕ)
    (d e : Lit) → i < j → j < length ls → CanBeAsked rs found atoms x ls
    → CanBeAsked rs found atoms x (get_or ls i d ∷ get_or ls j e ∷ [])
pair_can {atoms = atoms} {x = x} ls i j d e a l can = record {
  about = All-cons (IsAbout atoms x) (get_or ls i d) (get_or ls j e ∷ []) (can.about i d (omega (arith, a, l)))
      (All-cons (IsAbout atoms x) (get_or ls j e) [] (can.about j e l) (All-nil (IsAbout atoms x)));
  regexes = can.regexes;
  graph = can.graph;
}

-- all but one
pub others_can : {rs : List Regex} {found : Findings} {atoms : List (AtomOver ℕ)} {x : ℕ} (ls : List Lit) (i : ℕ)
    → CanBeAsked rs found atoms x ls → CanBeAsked rs found atoms x (remove ls i)
others_can {atoms = atoms} {x = x} ls i can = record {
  about = All-append (IsAbout atoms x) (take i ls) (drop (suc i) ls) (All-take (IsAbout atoms x) i ls can.about)
      (All-drop (IsAbout atoms x) (suc i) ls can.about);
  regexes = can.regexes;
  graph = can.graph;
}

pub left_out : {rs more : List Regex} {old found : Findings} {atoms : List (AtomOver ℕ)} {x : ℕ} (ls others : List Lit)
    (i : ℕ) → i < length ls → others ≡ remove ls i → Explores rs more old found
    → CanBeAsked rs old atoms x ls → AreClashing more atoms others → LeavesOut more found atoms x ls others true
left_out {more = more} {found = found} {atoms = atoms} {x = x} ls others i inside is e can clash = record {
  can = subst (CanBeAsked more found atoms x) (sym is) (can_later e (others_can ls i can));
  clash = clash;
  fewer = subst (λ (ms : List Lit). AreFewer ms ls) (sym is) (λ l. without (λ m. is_same_literal m l) ls i l inside);
  shorter = λ out. subst (λ (ms : List Lit). length ms + 1 ≡ length ls) (sym is) (length-remove ls i inside);
  same = λ out. absurd (true≢false out);
}

pub none_left_out : {rs more : List Regex} {old found : Findings} {atoms : List (AtomOver ℕ)} {x : ℕ} (ls : List Lit)
    → Explores rs more old found → CanBeAsked rs old atoms x ls → AreClashing rs atoms ls
    → LeavesOut more found atoms x ls ls false
none_left_out ls e can clash = record {
  can = can_later e can;
  clash = clash_later e can clash;
  fewer = λ l. omega arith;
  shorter = λ out. absurd (false≢true out);
  same = λ out. refl;
}

pub core_left : {rs more : List Regex} {found : Findings} {atoms : List (AtomOver ℕ)} {x : ℕ} {ls left others : List Lit}
    {out : Bool} → LeavesOut more found atoms x left others out → IsCore rs atoms ls left → IsCore more atoms ls others
core_left h few = record { fewer = λ l. omega (arith, h.fewer l, few.fewer l); clash = h.clash }
