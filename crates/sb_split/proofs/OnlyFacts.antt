-- Which atoms are added: those of literals that are given.
use Rattle.std.proofs.Common.{length-append}
use Rattle.std.proofs.lemmas.Bool.{ltb-true}
use Rattle.std.proofs.lemmas.Bool.Decides.{nat_tests}
use Rattle.std.specs.Prelude.{nat_lt, IsSomeAnd}
use Rattle.sb_atoms.specs.Numbered as atoms
use Rattle.sb_split.proofs.Words.{All, All-cons, All-contains, All-nil, ap₂, Bool, List, None, Option, Some, [], ap, arith, false, inl, inr, length, refl, slice_get, subst, sym, true, ℕ, ◌++◌, ◌<◌, ◌∙◌, ◌∷◌, ◌≡◌, ◌≤◌, AreOf, AreOfStep, AreSpokenOf, AtomOver, Contains, Contains-append_left, Contains-append_right, IsOneOf, IsStepOver, IsWith, Lit, Names, Step, in_order, negation}
use Rattle.sb_split.proofs.OrderFacts.{set_ordered}

last_there : (old : List (AtomOver ℕ)) (a : AtomOver ℕ) → slice_get (old ++ a ∷ []) (length old) ≡ Some a
last_there [] a = refl
last_there (x ∷ xs) a = last_there xs a

first_in : {A : Type 0} (x : A) (xs : List A) → Contains (x ∷ xs) x
first_in x xs = (0, omega (arith), refl)

second_in : {A : Type 0} (x y : A) (xs : List A) → Contains (x ∷ y ∷ xs) y
second_in x y xs = (1, omega (arith), refl)

third_in : {A : Type 0} (x y z : A) (xs : List A) → Contains (x ∷ y ∷ z ∷ xs) z
third_in x y z xs = (2, omega (arith), refl)

pub of_none : (old : List (AtomOver ℕ)) (ls : List Lit) → AreOf old old ls
of_none old ls = λ i low high. absurd (none i low high)
  where
    none : (i : ℕ) → length old ≤ i → i < length old → ⊥
    none i low high = omega (arith, low, high)

pub of_member : (old new : List (AtomOver ℕ)) (a : AtomOver ℕ) (l : Lit) → IsWith old new a → atoms.AreDistinct new
    → Names new l.atom a → AreOf old new (l ∷ [])
of_member old new a l (inl same) once names =
    subst (λ all. AreOf old all (l ∷ [])) (sym same) (of_none old (l ∷ []))
of_member old new a l (inr one) once names = λ i low high. record {
  literal = l;
  among = first_in l [];
  is = once l.atom (length old) a names (subst (λ all. Names all (length old) a) (sym one) (last_there old a))
      ∙ end i low high;
}
  where
    end : (i : ℕ) → length old ≤ i → i < length new → length old ≡ i
    end i low high = omega (arith, low, high, ap length one, length-append old (a ∷ []))

pub of_both : (old mid new : List (AtomOver ℕ)) (ks ls : List Lit) → AreOf old mid ks → AreOf mid new ls
    → AreOf old new (ks ++ ls)
of_both old mid new ks ls p q = λ i low high. step i low high (nat_lt i (length mid)) refl
  where
    step : (i : ℕ) → length old ≤ i → i < length new → (b : Bool) → nat_lt i (length mid) ≡ b → IsOneOf (ks ++ ls) i
    step i low high true is =
        let one = p i low (ltb-true i (length mid) is) in
        record { literal = one.literal; among = Contains-append_left ks ls one.literal one.among; is = one.is }
    step i low high false is =
        let one = q i (grind (arith, nat_tests)) high in
        record { literal = one.literal; among = Contains-append_right ks ls one.literal one.among; is = one.is }

pub of_more : (old new : List (AtomOver ℕ)) (ks ls : List Lit) → All (λ l. IsOneOf ls l.atom) ks → AreOf old new ks
    → AreOf old new ls
of_more old new ks ls f h = λ i low high.
    let one = h i low high in
    let other = All-contains (λ l. IsOneOf ls l.atom) ks one.literal f one.among in
    record { literal = other.literal; among = other.among; is = other.is ∙ one.is }

pub of_same : (old new : List (AtomOver ℕ)) (ks ls : List Lit) → ks ≡ ls → AreOf old new ks → AreOf old new ls
of_same old new ks ls same h = subst (AreOf old new) same h

-- one of the first clause's literals, where these are put in order
pub spoken_first : (old new : List (AtomOver ℕ)) (ls clause : List Lit) (clauses others : List (List Lit))
    → AreOf old new ls → clause ≡ in_order ls → clauses ≡ clause ∷ others → AreSpokenOf old new clauses
spoken_first old new ls clause clauses others h is are = λ i low high.
    let one = h i low high in
    record {
      clause = clause;
      literal = one.literal;
      among = subst (λ all. Contains all clause) (sym are) (first_in clause others);
      within = subst (λ all. Contains all one.literal) (sym is) ((set_ordered ls).has_all one.literal one.among);
      is = one.is;
    }

pub spoken_none : (old : List (AtomOver ℕ)) (clauses : List (List Lit)) → AreSpokenOf old old clauses
spoken_none old clauses = λ i low high. absurd (none i low high)
  where
    none : (i : ℕ) → length old ≤ i → i < length old → ⊥
    none i low high = omega (arith, low, high)

-- Of the literals of steps, and of pairs.

pub step_none : (old : List (AtomOver ℕ)) (answer : Option Step) → AreOfStep old old answer
step_none old None = refl
step_none old (Some step) = spoken_none old (step.clause ∷ [])

pub step_word : (old new : List (AtomOver ℕ)) (behind refused rest : Lit) (lead last : Option Lit)
    (answer : Option Step) → AreOf old new (behind ∷ []) → rest.atom ≡ behind.atom
    → IsSomeAnd answer (IsStepOver (refused ∷ rest ∷ []) lead last) → AreOfStep old new answer
step_word old new behind refused rest lead last None h same over = absurd over
step_word old new behind refused rest lead last (Some step) h same over =
    let ls = refused ∷ rest ∷ [] in
    spoken_first old new ls step.clause (step.clause ∷ []) []
    (of_more old new (behind ∷ []) ls
    (All-cons (λ l. IsOneOf ls l.atom) behind []
    (record { literal = rest; among = second_in refused rest []; is = same })
    (All-nil (λ l. IsOneOf ls l.atom))) h) over.clause refl

pub step_constant : (old mid new : List (AtomOver ℕ)) (front behind unless refused rest : Lit) (lead last : Option Lit)
    (answer : Option Step) → AreOf old mid (front ∷ []) → AreOf mid new (behind ∷ []) → unless ≡ negation front
    → rest.atom ≡ behind.atom → IsSomeAnd answer (IsStepOver (unless ∷ refused ∷ rest ∷ []) lead last)
    → AreOfStep old new answer
step_constant old mid new front behind unless refused rest lead last None h k turned same over = absurd over
step_constant old mid new front behind unless refused rest lead last (Some step) h k turned same over =
    let ls = unless ∷ refused ∷ rest ∷ [] in
    spoken_first old new ls step.clause (step.clause ∷ []) []
    (of_more old new (front ∷ behind ∷ []) ls
    (All-cons (λ l. IsOneOf ls l.atom) front (behind ∷ [])
    (record { literal = unless; among = first_in unless (refused ∷ rest ∷ []); is = ap (λ l. l.atom) turned })
    (All-cons (λ l. IsOneOf ls l.atom) behind []
    (record { literal = rest; among = third_in unless refused rest []; is = same })
    (All-nil (λ l. IsOneOf ls l.atom)))) (of_both old mid new (front ∷ []) (behind ∷ []) h k)) over.clause refl

pub spoken_pair : (old mid new : List (AtomOver ℕ)) (first second one other : Lit) (clause : List Lit)
    → AreOf old mid (first ∷ []) → AreOf mid new (second ∷ []) → one ≡ negation first → other ≡ negation second
    → clause ≡ in_order (one ∷ other ∷ []) → AreSpokenOf old new (clause ∷ [])
spoken_pair old mid new first second one other clause h k denied refused is =
    let ls = negation first ∷ negation second ∷ [] in
    spoken_first old new ls clause (clause ∷ []) []
    (of_more old new (first ∷ second ∷ []) ls
    (All-cons (λ l. IsOneOf ls l.atom) first (second ∷ [])
    (record { literal = negation first; among = first_in (negation first) (negation second ∷ []); is = refl })
    (All-cons (λ l. IsOneOf ls l.atom) second []
    (record { literal = negation second; among = second_in (negation first) (negation second) []; is = refl })
    (All-nil (λ l. IsOneOf ls l.atom)))) (of_both old mid new (first ∷ []) (second ∷ []) h k))
    (is ∙ ap₂ (λ l m. in_order (l ∷ m ∷ [])) denied refused) refl
