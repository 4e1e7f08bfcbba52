-- How much of each row is known to be true of the words, as literals come and words are put.
use Rattle.sb_theory.proofs.Words.{[], if◌then◌else◌, ◌||◌, ◌++◌, ◌+◌, ◌-◌, ◌<◌, ◌∙◌, ◌∷◌, ◌≡◌, ◌≤◌, Bool, List, None, Option, Some, ap, arith, cond, false, filter, get_or, length, nat_eq, not, option_and_then, refl, subst, suc, sym, take, true, zero, ℕ, Agrees, All-take, AreAbout, AreFitting, AreMembers, AreRows, Assigned, AtomOver, Extends, HaveRegexesBelow, Holds, IsAbout, IsAdded, IsNoted, IsPut, IsSet, IsWhole, Lit, MkandKeepsLanguage, MknotKeepsLanguage, Names, Regex, Rises, Serial, Strings, and_from, and_parts, asked_by, asked_by_all, at_kept, bool_atom, constant_of, constant_piece, eq-eqb, eqb-true, false≢true, filter-append, fits_subject, get_or_from_slice_get, in_all, in_atom, is_about, is_front_true, is_in, is_subject, is_true_by, is_true_of, is_wanted, length-append, list_all, literals_about, number_at, number_in, regex_at, regex_below, row_at, subject_of, take-append-le, take_all, take_at, take_more, wanted_of, wanted_on, word_at, beq, all_push, mknot, language, inl, inr, slice_get, all_among, all_from_among, fits_pieces, held, is_among, is_joined, is_joined_atom, is_of_wanted, is_same_literal, or_cases, word_piece, and_atom, iff_atom, le_atom, sum_atom}
use Rattle.std.proofs.lemmas.Bool.{or_left, or_right}
use Rattle.std.specs.Prelude.{◌⊎◌}
use Rattle.sb_theory.specs.Judged.{AreJudged}
use Rattle.sb_theory.proofs.Rows.{members_added, members_passed, put_at, put_off, row_about, wanted_passes}

-- The word of a constant, tried.

sign_is : (s b : Bool) → beq b s ≡ (if s then b else not b)
sign_is true true = refl
sign_is true false = refl
sign_is false true = refl
sign_is false false = refl

pub true_by_word : (rs : List Regex) (atoms : List (AtomOver ℕ)) (words : List (Option (List ℕ))) (l : Lit) (x r : ℕ)
    (b : Bool) → Names atoms l.atom (in_atom (constant_piece x ∷ []) r)
    → b ≡ language (regex_at rs r) (word_at words x) → beq b l.positive ≡ is_true_by rs atoms words l
true_by_word rs atoms words l x r b names is =
    sign_is l.positive b
    ∙ ap (λ c. if l.positive then c else not c) is
    ∙ sym (ap (λ n. if l.positive then language (regex_at rs n) (word_at words x)
    else not (language (regex_at rs n) (word_at words x)))
    (ap number_in (get_or_from_slice_get atoms l.atom (in_atom (constant_piece x ∷ []) r) (bool_atom 0) names)))
    ∙ sym (ap (λ (o : Option ℕ). fits_subject rs atoms words l o) (ap (option_and_then constant_of) names))

-- What a literal asks for is where it is true.

asked_holds : MknotKeepsLanguage → (rs : List Regex) (atoms : List (AtomOver ℕ)) (w : List ℕ) (l : Lit)
    → language (asked_by rs atoms l) w ≡ is_true_of rs atoms w l
unfolding language
asked_holds keeps rs atoms w l = by_sign l.positive (regex_at rs (number_in (get_or atoms l.atom (bool_atom 0))))
  where
    by_sign : (b : Bool) (r : Regex)
        → language (if b then r else mknot r) w ≡ (if b then language r w else not (language r w))
    by_sign true r = refl
    by_sign false r = keeps r w

all_of_word : MkandKeepsLanguage → MknotKeepsLanguage → (rs : List Regex) (atoms : List (AtomOver ℕ))
    (ls : List Lit) (w : List ℕ) → language (asked_by_all rs atoms ls) w ≡ list_all (is_true_of rs atoms w) ls
all_of_word keeps negates rs atoms ls w = in_all keeps rs atoms ls w ∙ same ls
  where
    same : (ls : List Lit) → list_all (λ l. language (asked_by rs atoms l) w) ls ≡ list_all (is_true_of rs atoms w) ls
    same [] = refl
    same (l ∷ ls) = rw (asked_holds negates rs atoms w l, same ls) refl

-- Where the arena grows.

true_grown : (rs more : List Regex) (atoms : List (AtomOver ℕ)) (w : List ℕ) (x : ℕ) (ls : List Lit)
    → Extends rs more → HaveRegexesBelow (length rs) atoms → AreAbout atoms x ls
    → list_all (is_true_of more atoms w) ls ≡ list_all (is_true_of rs atoms w) ls
true_grown rs more atoms w x [] e below about = refl
true_grown rs more atoms w x (l ∷ ls) e below about =
    let here : is_true_of more atoms w l ≡ is_true_of rs atoms w l =
    ap (λ (r : Regex). if l.positive then language r w else not (language r w))
    (at_kept rs more (number_in (get_or atoms l.atom (bool_atom 0))) e
    (regex_below (length rs) atoms x l below (about 0 l (omega arith)))) in
    rw (here, true_grown rs more atoms w x ls e below (λ k d m. about (suc k) d (omega (arith, m)))) refl

pub rows_grown : {rs more : List Regex} {atoms : List (AtomOver ℕ)} {words : List (Option (List ℕ))}
    {rows : List (List Lit)} {fitting : List ℕ} {changed : List Serial} {ls : List Lit} → Extends rs more
    → HaveRegexesBelow (length rs) atoms → AreRows rs atoms words rows fitting changed ls
    → AreRows more atoms words rows fitting changed ls
rows_grown {rs} {more} {atoms} {words} {rows} {fitting} {ls = ls} e below h = record {
  members = h.members;
  fit = record {
    front = λ x. true_grown rs more atoms (word_at words x) x (take (number_at fitting x) (row_at rows x)) e below
        (All-take (IsAbout atoms x) (number_at fitting x) (row_at rows x) (row_about atoms x rows ls h.members))
        ∙ h.fit.front x;
    whole = h.fit.whole;
  };
}

-- At the beginning.
pub rows_none : (rs : List Regex) (atoms : List (AtomOver ℕ)) (words : List (Option (List ℕ)))
    (rows : List (List Lit)) (fitting : List ℕ) (changed : List Serial) (ls : List Lit) → rows ≡ [] → fitting ≡ []
    → ls ≡ [] → AreRows rs atoms words rows fitting changed ls
rows_none rs atoms words rows fitting changed ls none no_numbers no_literals = record {
  members = λ x. ap (λ (all : List (List Lit)). row_at all x) none ∙ sym (ap (literals_about atoms x) no_literals);
  fit = record {
    front = λ x. ap (λ (ns : List ℕ). is_front_true rs atoms (word_at words x) (number_at ns x) (row_at rows x))
        no_numbers;
    whole = λ x out.
        let empty : length (row_at rows x) ≡ 0 = ap (λ (all : List (List Lit)). length (row_at all x)) none in
        omega (arith, empty);
  };
}

-- Once all rows fit, all literals of wanted atoms are true.

filtered : (p q : Lit → Bool) (l : Lit) (ls : List Lit) → list_all q (filter p (l ∷ ls)) ≡ true
    → (p l ≡ true → q l ≡ true) × (list_all q (filter p ls) ≡ true)
filtered p q l ls h = step (p l) refl h
  where
    step : (b : Bool) → p l ≡ b → list_all q (cond b (l ∷ filter p ls) (filter p ls)) ≡ true
        → (p l ≡ true → q l ≡ true) × (list_all q (filter p ls) ≡ true)
    step true is h =
        let both = and_parts (q l) (list_all q (filter p ls)) h in (λ here. both.0, both.1)
    step false is h = (λ here. absurd (false≢true (sym is ∙ here)), h)

-- where a literal is about a constant, it is true of its word
abbrev fits_row : List Regex → List (AtomOver ℕ) → List (Option (List ℕ)) → Lit → Option ℕ → Bool
fits_row rs atoms words l None = true
fits_row rs atoms words l (Some x) = is_true_of rs atoms (word_at words x) l

abbrev is_true_in_row : List Regex → List (AtomOver ℕ) → List (Option (List ℕ)) → Lit → Bool
is_true_in_row rs atoms words l = fits_row rs atoms words l (subject_of atoms l)

one_true : (rs : List Regex) (atoms : List (AtomOver ℕ)) (words : List (Option (List ℕ))) (l : Lit) (o : Option ℕ)
    → ((x : ℕ) → is_subject x o ≡ true → is_true_of rs atoms (word_at words x) l ≡ true)
    → fits_row rs atoms words l o ≡ true
one_true rs atoms words l None h = refl
one_true rs atoms words l (Some x) h = h x (eq-eqb x x refl)

all_true : (rs : List Regex) (atoms : List (AtomOver ℕ)) (words : List (Option (List ℕ))) (ls : List Lit)
    → ((x : ℕ) → list_all (is_true_of rs atoms (word_at words x)) (literals_about atoms x ls) ≡ true)
    → list_all (is_true_in_row rs atoms words) ls ≡ true
all_true rs atoms words [] h = refl
all_true rs atoms words (l ∷ ls) h =
    let split = λ (x : ℕ). filtered (is_about atoms x) (is_true_of rs atoms (word_at words x)) l ls (h x) in
    and_from (is_true_in_row rs atoms words l) (list_all (is_true_in_row rs atoms words) ls)
    (one_true rs atoms words l (subject_of atoms l) (λ x. (split x).0))
    (all_true rs atoms words ls (λ x. (split x).1))

row_true : (p : Lit → Bool) (row : List Lit) (n : ℕ) → length row ≤ n → list_all p (take n row) ≡ true
    → list_all p row ≡ true
row_true p row n all h = sym (ap (list_all p) (take_all n row all)) ∙ h

-- a membership that is not of one constant is of several pieces, or of none; of other atoms nothing is said
joined_or_other : (a : AtomOver ℕ) → constant_of a ≡ None → (is_joined_atom a ≡ true)
    ⊎ ((rs : List Regex) (words : List (Option (List ℕ))) (positive : Bool)
    → fits_pieces rs words positive (Some a) ≡ true)
joined_or_other (in_atom [] r) h = inl refl
joined_or_other (in_atom (constant_piece x ∷ []) r) h = absurd (Prim.cc (h))
joined_or_other (in_atom (constant_piece x ∷ p ∷ ps) r) h = inl refl
joined_or_other (in_atom (word_piece w ∷ ps) r) h = inl refl
joined_or_other (bool_atom serial) h = inr (λ rs words positive. refl)
joined_or_other (le_atom x k) h = inr (λ rs words positive. refl)
joined_or_other (sum_atom k ss) h = inr (λ rs words positive. refl)
joined_or_other (and_atom ls) h = inr (λ rs words positive. refl)
joined_or_other (iff_atom l m) h = inr (λ rs words positive. refl)

true_of_none : (rs : List Regex) (atoms : List (AtomOver ℕ)) (words : List (Option (List ℕ))) (l : Lit)
    (o : Option (AtomOver ℕ)) → slice_get atoms l.atom ≡ o → option_and_then constant_of o ≡ None
    → (is_joined atoms l.atom ≡ true → is_true_by rs atoms words l ≡ true) → is_true_by rs atoms words l ≡ true
true_of_none rs atoms words l None is none joined =
    ap (fits_subject rs atoms words l) (ap (option_and_then constant_of) is)
    ∙ ap (fits_pieces rs words l.positive) is
true_of_none rs atoms words l (Some a) is none joined = elim (joined_or_other a none) [
  | inl whole ↦ joined
      (ap (λ (o : Option (AtomOver ℕ)). elim o as (λ _. Bool) [ None ↦ false | Some b ↦ is_joined_atom b ]) is ∙ whole)
  | inr other ↦ ap (fits_subject rs atoms words l) (ap (option_and_then constant_of) is ∙ none)
      ∙ ap (fits_pieces rs words l.positive) is ∙ other rs words l.positive
]

-- what is true in its row, or of the word of its pieces, is true of the words
pub true_alone : (rs : List Regex) (atoms : List (AtomOver ℕ)) (words : List (Option (List ℕ))) (l : Lit)
    → is_true_in_row rs atoms words l ≡ true → (is_joined atoms l.atom ≡ true → is_true_by rs atoms words l ≡ true)
    → is_true_by rs atoms words l ≡ true
true_alone rs atoms words l fits joined = step (subject_of atoms l) refl fits
  where
    step : (o : Option ℕ) → subject_of atoms l ≡ o → fits_row rs atoms words l o ≡ true
        → is_true_by rs atoms words l ≡ true
    step None is h = true_of_none rs atoms words l (slice_get atoms l.atom) refl is joined
    step (Some x) is h = ap (fits_subject rs atoms words l) is ∙ h

among_more : (p q : Lit → Bool) → ((m : Lit) → p m ≡ true → q m ≡ true) → (ls : List Lit) (l : Lit)
    → is_among (filter p ls) l ≡ true → is_among (filter q ls) l ≡ true
among_more p q more [] l h = h
among_more p q more (m ∷ ms) l h = step (p m) (q m) (more m) h (among_more p q more ms l)
  where
    step : (a b : Bool) → (a ≡ true → b ≡ true) → is_among (cond a (m ∷ filter p ms) (filter p ms)) l ≡ true
        → (is_among (filter p ms) l ≡ true → is_among (filter q ms) l ≡ true)
        → is_among (cond b (m ∷ filter q ms) (filter q ms)) l ≡ true
    step true true stays h later = elim (or_cases (is_same_literal m l) (is_among (filter p ms) l) h) [
      | inl here ↦ or_left (is_same_literal m l) (is_among (filter q ms) l) here
      | inr behind ↦ or_right (is_same_literal m l) (is_among (filter q ms) l) (later behind)
    ]
    step true false stays h later = absurd (false≢true (stays refl))
    step false true stays h later = or_right (is_same_literal m l) (is_among (filter q ms) l) (later h)
    step false false stays h later = later h

-- the literals of noted atoms that are of one constant are true once the rows fit
pub row_settled : (x : Strings) (entries : List Assigned) → Holds x → x.changed ≡ [] → x.taken.items ≡ entries
    → list_all (is_true_in_row x.store.arena x.atoms x.words.items) (wanted_on x.noted entries) ≡ true
row_settled x entries h none taken =
    ap (λ (es : List Assigned). list_all (is_true_in_row x.store.arena x.atoms x.words.items) (wanted_on x.noted es))
    (sym taken) ∙ all_true x.store.arena x.atoms x.words.items (wanted_on x.noted x.taken.items) (λ n.
    ap (list_all (is_true_of x.store.arena x.atoms (word_at x.words.items n))) (sym (h.rows.members n))
    ∙ row_true (is_true_of x.store.arena x.atoms (word_at x.words.items n)) (row_at x.members.items n)
    (number_at x.fitting.items n) (h.rows.fit.whole n (ap (λ (cs : List Serial). is_in cs n) none))
    (h.rows.fit.front n))

-- so is that of a noted atom on the trail, unless it is of several pieces and wrong
pub noted_true : (x : Strings) (entries : List Assigned) (l : Lit) → Holds x → x.changed ≡ [] → x.taken.items ≡ entries
    → is_among (wanted_on x.noted entries) l ≡ true
    → (is_joined x.atoms l.atom ≡ true → is_true_by x.store.arena x.atoms x.words.items l ≡ true)
    → is_true_by x.store.arena x.atoms x.words.items l ≡ true
noted_true x entries l h none taken among judged =
    true_alone x.store.arena x.atoms x.words.items l
    (all_among (is_true_in_row x.store.arena x.atoms x.words.items) (wanted_on x.noted entries) l
    (row_settled x entries h none taken) among) judged

pub among_noted : (x : Strings) (entries : List Assigned) (l : Lit) → Holds x
    → is_among (wanted_on x.wanted entries) l ≡ true → is_among (wanted_on x.noted entries) l ≡ true
among_noted x entries l h among =
    among_more (is_of_wanted x.wanted) (is_of_wanted x.noted)
    (λ m wanted. wanted_passes (is_wanted x.noted) x.wanted m.atom h.among wanted) (held entries) l among

pub agrees_settled : (x : Strings) (entries : List Assigned) → Holds x → x.changed ≡ [] → x.taken.items ≡ entries
    → AreJudged x entries None → Agrees x entries
agrees_settled x entries h none taken judged =
    all_from_among (is_true_by x.store.arena x.atoms x.words.items) (wanted_on x.wanted entries) (λ l among.
    noted_true x entries l h none taken (among_noted x entries l h among) (λ whole. judged l among whole))

-- One constant's word, row or number is another one.

record IsSame (words put : List (Option (List ℕ))) (rows now : List (List Lit)) (fitting set : List ℕ) (y : ℕ) : Type 0
  where
    word : word_at put y ≡ word_at words y
    row : row_at now y ≡ row_at rows y
    number : number_at set y ≡ number_at fitting y

fitting_but : {rs : List Regex} {atoms : List (AtomOver ℕ)} {words : List (Option (List ℕ))} {rows : List (List Lit)}
    {fitting : List ℕ} {changed : List Serial} (put : List (Option (List ℕ))) (now : List (List Lit)) (set : List ℕ)
    (after : List Serial) (x : ℕ)
    → ((y : ℕ) → nat_eq x y ≡ false → IsSame words put rows now fitting set y)
    → ((y : ℕ) → is_in after y ≡ false → is_in changed y ≡ false)
    → is_front_true rs atoms (word_at put x) (number_at set x) (row_at now x) ≡ true
    → (is_in after x ≡ false → IsWhole now set x) → AreFitting rs atoms words rows fitting changed
    → AreFitting rs atoms put now set after
fitting_but {rs} {atoms} {words} {rows} {fitting} put now set after x same stay here out h =
    record { front = λ y. front y (nat_eq x y) refl; whole = λ y. whole y (nat_eq x y) refl }
  where
    front : (y : ℕ) (b : Bool) → nat_eq x y ≡ b
        → is_front_true rs atoms (word_at put y) (number_at set y) (row_at now y) ≡ true
    front y true e =
        subst (λ z. is_front_true rs atoms (word_at put z) (number_at set z) (row_at now z) ≡ true) (eqb-true x y e) here
    front y false e =
        let s = same y e in
        ap (λ w. is_front_true rs atoms w (number_at set y) (row_at now y)) s.word
        ∙ ap (λ n. is_front_true rs atoms (word_at words y) n (row_at now y)) s.number
        ∙ ap (λ (row : List Lit). is_front_true rs atoms (word_at words y) (number_at fitting y) row) s.row
        ∙ h.front y

    whole : (y : ℕ) (b : Bool) → nat_eq x y ≡ b → is_in after y ≡ false → IsWhole now set y
    whole y true e = subst (λ z. is_in after z ≡ false → IsWhole now set z) (eqb-true x y e) out
    whole y false e = λ off.
        let s = same y e in omega (arith, h.whole y (stay y off), s.number, ap length s.row)

-- One literal more.

pub rows_passed : {rs : List Regex} {atoms : List (AtomOver ℕ)} {words : List (Option (List ℕ))}
    {rows : List (List Lit)} {fitting : List ℕ} {changed : List Serial} {ls : List Lit} (more : List Lit)
    → ((x : ℕ) → literals_about atoms x more ≡ []) → AreRows rs atoms words rows fitting changed ls
    → AreRows rs atoms words rows fitting changed (ls ++ more)
rows_passed {atoms = atoms} {rows = rows} {ls = ls} more none h =
    record { members = members_passed atoms rows ls more none h.members; fit = h.fit }

-- where the row is not known to fit whole, its constant is looked at whatever comes
pub rows_behind : {rs : List Regex} {atoms : List (AtomOver ℕ)} {words : List (Option (List ℕ))}
    {rows : List (List Lit)} {fitting : List ℕ} {changed : List Serial} {ls : List Lit} (wanted : List ℕ)
    (now : List (List Lit)) (l : Lit) (x : ℕ) → subject_of atoms l ≡ Some x → is_wanted wanted l.atom ≡ true
    → number_at fitting x < length (row_at rows x) → IsAdded rows now x l
    → AreRows rs atoms words rows fitting changed ls
    → AreRows rs atoms words now fitting changed (ls ++ wanted_of wanted (l ∷ []))
rows_behind {rs} {atoms} {words} {rows} {fitting} {changed} {ls} wanted now l x subject asked short added h = record {
  members = members_added atoms wanted rows now ls l x subject asked added h.members;
  fit = fitting_but words now fitting changed x
      (λ y e. record {
        word = refl;
        row = put_off (row_at now) (row_at rows) (λ z. row_at rows z ++ l ∷ []) x added y e;
        number = refl;
      }) (λ y out. out)
      (ap (λ (row : List Lit). is_front_true rs atoms (word_at words x) (number_at fitting x) row)
      (put_at (row_at now) (row_at rows) (λ z. row_at rows z ++ l ∷ []) x added)
      ∙ ap (list_all (is_true_of rs atoms (word_at words x)))
      (take-append-le (number_at fitting x) (row_at rows x) (l ∷ []) (omega (arith, short)))
      ∙ h.fit.front x) (λ out. absurd (omega (arith, short, h.fit.whole x out))) h.fit;
}

noted_front : (p : Lit → Bool) (row : List Lit) (l : Lit) (n long : ℕ) (b : Bool) → long ≡ length row → long ≤ n
    → list_all p (take n row) ≡ true → b ≡ p l
    → list_all p (take (if b then long + 1 else long) (row ++ l ∷ [])) ≡ true
noted_front p row l n long true is enough h same =
    ap (list_all p) (take_all (long + 1) (row ++ l ∷ []) (omega (arith, is, length-append row (l ∷ []))))
    ∙ all_push p row l (row_true p row n (omega (arith, is, enough)) h) (sym same)
noted_front p row l n long false is enough h same =
    ap (list_all p) (take_at row (l ∷ []) long (sym is)) ∙ row_true p row n (omega (arith, is, enough)) h

noted_whole : (row : List Lit) (l : Lit) (long : ℕ) (b out : Bool) → long ≡ length row → (b ≡ false → out ≡ true)
    → out ≡ false → length (row ++ l ∷ []) ≤ (if b then long + 1 else long)
noted_whole row l long true out is here gone = omega (arith, is, length-append row (l ∷ []))
noted_whole row l long false out is here gone = absurd (false≢true (sym gone ∙ here refl))

-- where it is, the next literal is matched
pub rows_noted : {rs : List Regex} {atoms : List (AtomOver ℕ)} {words : List (Option (List ℕ))}
    {rows : List (List Lit)} {fitting : List ℕ} {changed : List Serial} {ls : List Lit} (wanted : List ℕ)
    (now : List (List Lit)) (set : List ℕ) (after : List Serial) (l : Lit) (x long : ℕ) (matches : Bool)
    → subject_of atoms l ≡ Some x → is_wanted wanted l.atom ≡ true → long ≡ length (row_at rows x)
    → long ≤ number_at fitting x → matches ≡ is_true_by rs atoms words l
    → IsNoted fitting set changed after x long matches → IsAdded rows now x l
    → AreRows rs atoms words rows fitting changed ls
    → AreRows rs atoms words now set after (ls ++ wanted_of wanted (l ∷ []))
rows_noted {rs} {atoms} {words} {rows} {fitting} {changed} {ls} wanted now set after l x long matches subject asked is
    enough same noted added h =
    let number : number_at set x ≡ (if matches then long + 1 else long) =
    put_at (number_at set) (number_at fitting) (λ y. if matches then long + 1 else long) x noted.set in
    let row = put_at (row_at now) (row_at rows) (λ z. row_at rows z ++ l ∷ []) x added in
    let known : matches ≡ is_true_of rs atoms (word_at words x) l =
    same ∙ ap (fits_subject rs atoms words l) subject in
    record {
      members = members_added atoms wanted rows now ls l x subject asked added h.members;
      fit = fitting_but words now set after x
          (λ y e. record {
            word = refl;
            row = put_off (row_at now) (row_at rows) (λ z. row_at rows z ++ l ∷ []) x added y e;
            number = put_off (number_at set) (number_at fitting) (λ z. if matches then long + 1 else long) x noted.set
                y e;
          }) noted.stay
          (ap (λ n. is_front_true rs atoms (word_at words x) n (row_at now x)) number
          ∙ ap (λ (r : List Lit). list_all (is_true_of rs atoms (word_at words x))
          (take (if matches then long + 1 else long) r)) row
          ∙ noted_front (is_true_of rs atoms (word_at words x)) (row_at rows x) l (number_at fitting x) long matches is
          enough (h.fit.front x) known)
          (λ out. subst (λ n. length (row_at now x) ≤ n) (sym number)
          (subst (λ (r : List Lit). length r ≤ (if matches then long + 1 else long)) (sym row)
          (noted_whole (row_at rows x) l long matches (is_in after x) is noted.here out))) h.fit;
    }

-- the trail's literals are one more
pub rows_taken : {rs more : List Regex} {atoms : List (AtomOver ℕ)} {rows now : List (List Lit)}
    {fitting set : List ℕ} {changed after : List Serial} {ls new : List Lit} (words given : List (Option (List ℕ)))
    (one : List Lit) → given ≡ words → new ≡ ls ++ one
    → (AreRows rs atoms given rows fitting changed ls → AreRows more atoms given now set after (ls ++ one))
    → AreRows rs atoms words rows fitting changed ls → AreRows more atoms words now set after new
rows_taken {rs} {more} {atoms} {rows} {now} {fitting} {set} {changed} {after} {ls} words given one same is took h =
    subst (λ (all : List Lit). AreRows more atoms words now set after all) (sym is)
    (subst (λ (ws : List (Option (List ℕ))). AreRows more atoms ws now set after (ls ++ one)) same
    (took (subst (λ (ws : List (Option (List ℕ))). AreRows rs atoms ws rows fitting changed ls) (sym same) h)))

-- Literals are taken off from the end.

take_front : (p : Lit → Bool) (n : ℕ) (xs ys : List Lit) → list_all p (take n (xs ++ ys)) ≡ true
    → list_all p (take n xs) ≡ true
take_front p zero xs ys h = refl
take_front p (suc n) [] ys h = refl
take_front p (suc n) (x ∷ xs) ys h =
    let q = and_parts (p x) (list_all p (take n (xs ++ ys))) h in
    and_from (p x) (list_all p (take n xs)) q.0 (take_front p n xs ys q.1)

pub rows_cut : {rs : List Regex} {atoms : List (AtomOver ℕ)} {words : List (Option (List ℕ))} {rows : List (List Lit)}
    {fitting : List ℕ} {changed : List Serial} {old : List Lit} (now : List (List Lit)) (new more : List Lit)
    → old ≡ new ++ more → AreMembers atoms now new → AreRows rs atoms words rows fitting changed old
    → AreRows rs atoms words now fitting changed new
rows_cut {rs} {atoms} {words} {rows} {fitting} {old = old} now new more is members h =
    let row : (x : ℕ) → row_at rows x ≡ row_at now x ++ literals_about atoms x more = λ x.
    h.members x ∙ ap (literals_about atoms x) is ∙ filter-append (is_about atoms x) new more
    ∙ ap (λ (r : List Lit). r ++ literals_about atoms x more) (sym (members x)) in
    record {
      members = members;
      fit = record {
        front = λ x. take_front (is_true_of rs atoms (word_at words x)) (number_at fitting x) (row_at now x)
            (literals_about atoms x more)
            (ap (λ (r : List Lit). is_front_true rs atoms (word_at words x) (number_at fitting x) r) (sym (row x))
            ∙ h.fit.front x);
        whole = λ x out.
            let all = ap length (row x) ∙ length-append (row_at now x) (literals_about atoms x more) in
            omega (arith, all, h.fit.whole x out);
      };
    }

-- More of a row is known to be true.

fitting_moved : {rs : List Regex} {atoms : List (AtomOver ℕ)} {words : List (Option (List ℕ))} {rows : List (List Lit)}
    {fitting : List ℕ} {changed : List Serial} (put : List (Option (List ℕ))) (set : List ℕ) (x long : ℕ)
    → ((y : ℕ) → nat_eq x y ≡ false → word_at put y ≡ word_at words y) → IsSet fitting set x long
    → number_at fitting x < long → long ≤ length (row_at rows x)
    → is_front_true rs atoms (word_at put x) long (row_at rows x) ≡ true
    → AreFitting rs atoms words rows fitting changed → AreFitting rs atoms put rows set changed
fitting_moved {rs} {atoms} {rows = rows} {fitting} {changed} put set x long others is more within here h =
    fitting_but put rows set changed x
    (λ y e. record {
      word = others y e;
      row = refl;
      number = put_off (number_at set) (number_at fitting) (λ z. long) x is y e;
    }) (λ y out. out)
    (ap (λ n. is_front_true rs atoms (word_at put x) n (row_at rows x))
    (put_at (number_at set) (number_at fitting) (λ z. long) x is) ∙ here)
    (λ out. absurd (omega (arith, more, within, h.whole x out))) h

pub rises_set : (old new : List ℕ) (x long : ℕ) → IsSet old new x long → number_at old x ≤ long → Rises old new
rises_set old new x long is more = λ y. step y (nat_eq x y) refl
  where
    step : (y : ℕ) (b : Bool) → nat_eq x y ≡ b → number_at old y ≤ number_at new y
    step y true e =
        subst (λ z. number_at old z ≤ number_at new z) (eqb-true x y e)
        (omega (arith, put_at (number_at new) (number_at old) (λ z. long) x is, more))
    step y false e = omega (arith, put_off (number_at new) (number_at old) (λ z. long) x is y e)

-- by a word that is put,
pub rows_put : MkandKeepsLanguage → MknotKeepsLanguage → {rs : List Regex} {atoms : List (AtomOver ℕ)}
    {words : List (Option (List ℕ))} {rows : List (List Lit)} {fitting : List ℕ} {changed : List Serial}
    {ls : List Lit} (put : List (Option (List ℕ))) (set : List ℕ) (row : List Lit) (x long : ℕ) (w : List ℕ)
    → IsPut words put x w → IsSet fitting set x long → number_at fitting x < long → long ≤ length (row_at rows x)
    → row ≡ take long (row_at rows x) → language (asked_by_all rs atoms row) w ≡ true
    → AreRows rs atoms words rows fitting changed ls → AreRows rs atoms put rows set changed ls
rows_put keeps negates {rs} {atoms} {words} {rows} put set row x long w is_put is_set more within is found h = record {
  members = h.members;
  fit = fitting_moved put set x long (put_off (word_at put) (word_at words) (λ y. w) x is_put) is_set more within
      (ap (λ v. is_front_true rs atoms v long (row_at rows x)) (put_at (word_at put) (word_at words) (λ y. w) x is_put)
      ∙ ap (list_all (is_true_of rs atoms w)) (sym is) ∙ sym (all_of_word keeps negates rs atoms row w) ∙ found) h.fit;
}

-- or as the next literal is matched.
pub rows_next : {rs : List Regex} {atoms : List (AtomOver ℕ)} {words : List (Option (List ℕ))} {rows : List (List Lit)}
    {fitting : List ℕ} {changed : List Serial} {ls : List Lit} (set : List ℕ) (x long : ℕ) (l : Lit)
    → IsSet fitting set x long → number_at fitting x + 1 ≡ long → long ≤ length (row_at rows x)
    → l ≡ get_or (row_at rows x) (long - 1) l → is_true_by rs atoms words l ≡ true
    → AreRows rs atoms words rows fitting changed ls → AreRows rs atoms words rows set changed ls
rows_next {rs} {atoms} {words} {rows} {fitting} {ls = ls} set x long l is_set next within is matched h =
    let row = row_at rows x in
    let i = number_at fitting x in
    let p = is_true_of rs atoms (word_at words x) in
    let inside : i < length row = omega (arith, next, within) in
    let place : long - 1 ≡ i = omega (arith, next) in
    let here : l ≡ get_or row i l = is ∙ ap (λ n. get_or row n l) place in
    let subject : subject_of atoms l ≡ Some x =
    ap (subject_of atoms) here
    ∙ ap (option_and_then constant_of) (row_about atoms x rows ls h.members i l inside).names in
    let passes : p l ≡ true = sym (ap (fits_subject rs atoms words l) subject) ∙ matched in
    record {
      members = h.members;
      fit = fitting_moved words set x long (λ y e. refl) is_set (omega (arith, next)) within
          (ap (λ n. list_all p (take n row)) (sym next) ∙ ap (list_all p) (take_more row i l inside)
          ∙ all_push p (take i row) (get_or row i l) (h.fit.front x) (ap p (sym here) ∙ passes)) h.fit;
    }

-- A word is given to a constant, of which nothing is known then.
pub rows_given : {rs : List Regex} {atoms : List (AtomOver ℕ)} {words : List (Option (List ℕ))} {rows : List (List Lit)}
    {fitting : List ℕ} {changed : List Serial} {ls : List Lit} (put : List (Option (List ℕ))) (set : List ℕ)
    (after : List Serial) (x : ℕ) (w : List ℕ) → IsPut words put x w → IsSet fitting set x 0
    → ((y : ℕ) → is_in after y ≡ (is_in changed y || nat_eq x y)) → AreRows rs atoms words rows fitting changed ls
    → AreRows rs atoms put rows set after ls
rows_given {rs} {atoms} {words} {rows} {fitting} {changed} put set after x w is_put is_set added h = record {
  members = h.members;
  fit = fitting_but put rows set after x
      (λ y e. record {
        word = put_off (word_at put) (word_at words) (λ z. w) x is_put y e;
        row = refl;
        number = put_off (number_at set) (number_at fitting) (λ z. 0) x is_set y e;
      }) (λ y out. not_first (is_in changed y) (nat_eq x y) (sym (added y) ∙ out))
      (ap (λ n. is_front_true rs atoms (word_at put x) n (row_at rows x))
      (put_at (number_at set) (number_at fitting) (λ z. 0) x is_set))
      (λ out. absurd (false≢true (sym out ∙ added x ∙ there (is_in changed x)))) h.fit;
}
  where
    not_first : (a b : Bool) → (a || b) ≡ false → a ≡ false
    not_first true b e = e
    not_first false b e = refl

    there : (a : Bool) → (a || nat_eq x x) ≡ true
    there true = refl
    there false = eq-eqb x x refl
