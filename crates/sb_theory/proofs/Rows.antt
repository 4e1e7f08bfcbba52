-- Which constant a literal is about, and the rows of literals as they come and go.
use Rattle.sb_theory.proofs.Words.{[], if◌then◌else◌, ◌++◌, ◌∙◌, ◌∷◌, ◌≡◌, Bool, List, None, Option, Some, ap, cond, false, get_or, nat_eq, option_and_then, refl, slice_get, subst, sym, take, true, ℕ, All-take, AreAbout, AreMembers, Assigned, AtomOver, IsAbout, IsAdded, IsDropped, Lit, append-nil, bool_atom, constant_of, constant_piece, eq-eqb, eqb-true, false_from_ne_true, false≢true, filter-append, held, in_atom, is_about, is_of_wanted, is_subject, is_wanted, list_all, literals_about, map-append, row_at, same_Some, subject_of, wanted_of, wanted_on, filter_passes, AllPass-from_list_all, list_all-from_AllPass, word_piece, and_atom, iff_atom, le_atom, sum_atom, and_parts, or_cases, inl, inr}

-- the numbers at which something is put,
pub put_at : {A : Type 0} (new old put : ℕ → A) (x : ℕ)
    → ((y : ℕ) → new y ≡ (if nat_eq x y then put y else old y)) → new x ≡ put x
put_at new old put x h = h x ∙ ap (λ b. if b then put x else old x) (eq-eqb x x refl)

-- and the others
pub put_off : {A : Type 0} (new old put : ℕ → A) (x : ℕ)
    → ((y : ℕ) → new y ≡ (if nat_eq x y then put y else old y)) → (y : ℕ) → nat_eq x y ≡ false → new y ≡ old y
put_off new old put x h y e = h y ∙ ap (λ b. if b then put y else old y) e

-- Which constant a literal is about.

record IsOne (a : AtomOver ℕ) (x : ℕ) : Type 0 where
  regex : ℕ
  is : a ≡ in_atom (constant_piece x ∷ []) regex

one_of : (a : AtomOver ℕ) (x : ℕ) → constant_of a ≡ Some x → IsOne a x
one_of (in_atom (constant_piece y ∷ []) r) x h =
    record { regex = r; is = ap (λ z. in_atom (constant_piece z ∷ []) r) (same_Some y x h) }
one_of (in_atom [] r) x h = absurd (Prim.cc (h))
one_of (in_atom (constant_piece y ∷ p ∷ ps) r) x h = absurd (Prim.cc (h))
one_of (in_atom (word_piece w ∷ ps) r) x h = absurd (Prim.cc (h))
one_of (bool_atom serial) x h = absurd (Prim.cc (h))
one_of (le_atom y k) x h = absurd (Prim.cc (h))
one_of (sum_atom k ss) x h = absurd (Prim.cc (h))
one_of (and_atom ls) x h = absurd (Prim.cc (h))
one_of (iff_atom l m) x h = absurd (Prim.cc (h))

pub subject_names : (atoms : List (AtomOver ℕ)) (l : Lit) (x : ℕ) → subject_of atoms l ≡ Some x → IsAbout atoms x l
subject_names atoms l x h = step (slice_get atoms l.atom) refl h
  where
    step : (o : Option (AtomOver ℕ)) → slice_get atoms l.atom ≡ o → option_and_then constant_of o ≡ Some x
        → IsAbout atoms x l
    step None is h = absurd (Prim.cc (h))
    step (Some a) is h = let r = one_of a x h in record { regex = r.regex; names = is ∙ ap Some r.is }

subject_test : (x : ℕ) (o : Option ℕ) → is_subject x o ≡ true → o ≡ Some x
subject_test x None h = absurd (false≢true h)
subject_test x (Some y) h = ap Some (sym (eqb-true x y h))

about_one : (atoms : List (AtomOver ℕ)) (l : Lit) (x : ℕ) → subject_of atoms l ≡ Some x → is_about atoms x l ≡ true
about_one atoms l x subject = ap (is_subject x) subject ∙ eq-eqb x x refl

not_about : (atoms : List (AtomOver ℕ)) (l : Lit) (x y : ℕ) → subject_of atoms l ≡ Some x → nat_eq x y ≡ false
    → is_about atoms y l ≡ false
not_about atoms l x y subject other =
    ap (is_subject y) subject
    ∙ false_from_ne_true (nat_eq y x) (λ same. false≢true (sym other ∙ eq-eqb x y (sym (eqb-true y x same))))

-- the test, and what it stands for

pub all_about : (atoms : List (AtomOver ℕ)) (x : ℕ) (ls : List Lit) → list_all (is_about atoms x) ls ≡ true
    → AreAbout atoms x ls
all_about atoms x ls h = λ k d within.
    subject_names atoms (get_or ls k d) x
    (subject_test x (subject_of atoms (get_or ls k d)) (AllPass-from_list_all (is_about atoms x) ls h k d within))

-- The literals of a row are about its constant.

pub row_passes : (atoms : List (AtomOver ℕ)) (x : ℕ) (rows : List (List Lit)) (ls : List Lit)
    → AreMembers atoms rows ls → list_all (is_about atoms x) (row_at rows x) ≡ true
row_passes atoms x rows ls h =
    ap (list_all (is_about atoms x)) (h x)
    ∙ list_all-from_AllPass (is_about atoms x) (literals_about atoms x ls) (filter_passes (is_about atoms x) ls)

pub row_about : (atoms : List (AtomOver ℕ)) (x : ℕ) (rows : List (List Lit)) (ls : List Lit)
    → AreMembers atoms rows ls → AreAbout atoms x (row_at rows x)
row_about atoms x rows ls h = all_about atoms x (row_at rows x) (row_passes atoms x rows ls h)

pub front_about : (atoms : List (AtomOver ℕ)) (x n : ℕ) (rows given : List (List Lit)) (ls front : List Lit)
    → given ≡ rows → front ≡ take n (row_at given x) → AreMembers atoms rows ls → AreAbout atoms x front
front_about atoms x n rows given ls front same is h =
    subst (λ (ms : List Lit). AreAbout atoms x ms)
    (sym (is ∙ ap (λ (rs : List (List Lit)). take n (row_at rs x)) same))
    (All-take (IsAbout atoms x) n (row_at rows x) (row_about atoms x rows ls h))

-- Whether a literal is of a wanted atom.

-- what passes for all wanted atoms passes for each
pub wanted_passes : (test : ℕ → Bool) (wanted : List ℕ) (a : ℕ) → list_all test wanted ≡ true
    → is_wanted wanted a ≡ true → test a ≡ true
wanted_passes test [] a h there = absurd (false≢true there)
wanted_passes test (n ∷ wanted) a h there =
    let p = and_parts (test n) (list_all test wanted) h in
    elim (or_cases (nat_eq a n) (is_wanted wanted a) there) [
      | inl here ↦ subst (λ i. test i ≡ true) (sym (eqb-true a n here)) p.0
      | inr later ↦ wanted_passes test wanted a p.1 later
    ]

-- of no constant, or of another atom, it is in no row
pub none_about : (wanted : List ℕ) (atoms : List (AtomOver ℕ)) (l : Lit) → subject_of atoms l ≡ None
    → (x : ℕ) → literals_about atoms x (wanted_of wanted (l ∷ [])) ≡ []
none_about wanted atoms l none x = step (is_of_wanted wanted l)
  where
    step : (b : Bool) → literals_about atoms x (cond b (l ∷ []) []) ≡ []
    step true = ap (λ b. cond b (l ∷ []) []) (ap (is_subject x) none)
    step false = refl

pub none_wanted : (wanted : List ℕ) (atoms : List (AtomOver ℕ)) (l : Lit) → is_wanted wanted l.atom ≡ false
    → (x : ℕ) → literals_about atoms x (wanted_of wanted (l ∷ [])) ≡ []
none_wanted wanted atoms l out x = ap (λ b. literals_about atoms x (cond b (l ∷ []) [])) out

-- One literal more.

row_passed : (atoms : List (AtomOver ℕ)) (x : ℕ) (ls more : List Lit) → literals_about atoms x more ≡ []
    → literals_about atoms x (ls ++ more) ≡ literals_about atoms x ls
row_passed atoms x ls more none =
    filter-append (is_about atoms x) ls more
    ∙ ap (λ (ms : List Lit). literals_about atoms x ls ++ ms) none
    ∙ append-nil (literals_about atoms x ls)

pub members_passed : (atoms : List (AtomOver ℕ)) (rows : List (List Lit)) (ls more : List Lit)
    → ((x : ℕ) → literals_about atoms x more ≡ []) → AreMembers atoms rows ls → AreMembers atoms rows (ls ++ more)
members_passed atoms rows ls more none h = λ x. h x ∙ sym (row_passed atoms x ls more (none x))

-- of the constant that it is about, and of the others
row_more : (atoms : List (AtomOver ℕ)) (wanted : List ℕ) (ls : List Lit) (l : Lit) (x : ℕ)
    → subject_of atoms l ≡ Some x → is_wanted wanted l.atom ≡ true → (y : ℕ)
    → literals_about atoms y (ls ++ wanted_of wanted (l ∷ []))
    ≡ (if nat_eq x y then literals_about atoms y ls ++ l ∷ [] else literals_about atoms y ls)
row_more atoms wanted ls l x subject asked y =
    ap (λ b. literals_about atoms y (ls ++ cond b (l ∷ []) [])) asked
    ∙ filter-append (is_about atoms y) ls (l ∷ []) ∙ step (nat_eq x y) refl
  where
    step : (b : Bool) → nat_eq x y ≡ b → literals_about atoms y ls ++ cond (is_about atoms y l) (l ∷ []) []
        ≡ (if b then literals_about atoms y ls ++ l ∷ [] else literals_about atoms y ls)
    step true e =
        ap (λ b. literals_about atoms y ls ++ cond b (l ∷ []) [])
        (subst (λ z. is_about atoms z l ≡ true) (eqb-true x y e) (about_one atoms l x subject))
    step false e =
        ap (λ b. literals_about atoms y ls ++ cond b (l ∷ []) []) (not_about atoms l x y subject e)
        ∙ append-nil (literals_about atoms y ls)

pub members_added : (atoms : List (AtomOver ℕ)) (wanted : List ℕ) (rows now : List (List Lit)) (ls : List Lit) (l : Lit)
    (x : ℕ) → subject_of atoms l ≡ Some x → is_wanted wanted l.atom ≡ true → IsAdded rows now x l
    → AreMembers atoms rows ls → AreMembers atoms now (ls ++ wanted_of wanted (l ∷ []))
members_added atoms wanted rows now ls l x subject asked added h = λ y.
    added y ∙ ap (λ (row : List Lit). if nat_eq x y then row ++ l ∷ [] else row) (h y)
    ∙ sym (row_more atoms wanted ls l x subject asked y)

-- and one less

pub members_left : (atoms : List (AtomOver ℕ)) (rows : List (List Lit)) (ls more : List Lit)
    → ((x : ℕ) → literals_about atoms x more ≡ []) → AreMembers atoms rows (ls ++ more) → AreMembers atoms rows ls
members_left atoms rows ls more none h = λ x. h x ∙ row_passed atoms x ls more (none x)

pub members_dropped : (atoms : List (AtomOver ℕ)) (wanted : List ℕ) (rows now : List (List Lit)) (ls : List Lit)
    (l : Lit) (x : ℕ) → subject_of atoms l ≡ Some x → is_wanted wanted l.atom ≡ true → IsDropped rows now x
    → AreMembers atoms rows (ls ++ wanted_of wanted (l ∷ [])) → AreMembers atoms now ls
members_dropped atoms wanted rows now ls l x subject asked dropped h = λ y.
    step y (nat_eq x y) refl (h y ∙ row_more atoms wanted ls l x subject asked y)
  where
    step : (y : ℕ) (b : Bool) → nat_eq x y ≡ b
        → row_at rows y ≡ (if nat_eq x y then literals_about atoms y ls ++ l ∷ [] else literals_about atoms y ls)
        → row_at now y ≡ literals_about atoms y ls
    step y true e at =
        let same = eqb-true x y e in
        let last = subst (λ z. row_at rows z ≡ literals_about atoms y ls ++ l ∷ []) (sym same)
        (at ∙ ap (λ b. if b then literals_about atoms y ls ++ l ∷ [] else literals_about atoms y ls) e) in
        subst (λ z. row_at now z ≡ literals_about atoms y ls) same (dropped.last (literals_about atoms y ls) l last)
    step y false e at =
        dropped.others y e ∙ at ∙ ap (λ b. if b then literals_about atoms y ls ++ l ∷ [] else literals_about atoms y ls) e

-- The rows of a trail.

held_push : (taken now : List Assigned) (e : Assigned) (l : Lit) → now ≡ taken ++ e ∷ [] → l ≡ e.literal
    → held now ≡ held taken ++ l ∷ []
held_push taken now e l is same =
    ap held is ∙ map-append (λ (a : Assigned). a.literal) taken (e ∷ [])
    ∙ ap (λ (k : Lit). held taken ++ k ∷ []) (sym same)

pub wanted_push : (wanted : List ℕ) (taken now : List Assigned) (e : Assigned) (l : Lit) → now ≡ taken ++ e ∷ []
    → l ≡ e.literal → wanted_on wanted now ≡ wanted_on wanted taken ++ wanted_of wanted (l ∷ [])
wanted_push wanted taken now e l is same =
    ap (wanted_of wanted) (held_push taken now e l is same)
    ∙ filter-append (is_of_wanted wanted) (held taken) (l ∷ [])

pub wanted_front : (wanted : List ℕ) (old new more : List Assigned) → old ≡ new ++ more
    → wanted_on wanted old ≡ wanted_on wanted new ++ wanted_on wanted more
wanted_front wanted old new more is =
    ap (wanted_on wanted) is
    ∙ ap (wanted_of wanted) (map-append (λ (a : Assigned). a.literal) new more)
    ∙ filter-append (is_of_wanted wanted) (held new) (held more)
