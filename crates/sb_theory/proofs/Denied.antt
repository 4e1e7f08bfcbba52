-- A few literals of one constant that clash, and their clause: it is false on the trail, new, true whatever the values
-- are, and its lines follow.
use Rattle.sb_theory.proofs.Words.{[], if◌then◌else◌, inl, inr, ◌+◌, ◌||◌, ◌∙◌, ◌∷◌, ◌≡◌, ◌≤◌, Bool, List, None, Option, ap, arith, eqb, false, filter, get_or, length, map, not, refl, subst, suc, sym, take, true, zero, ℕ, AllKept, Answers, AreAbout, AreFew, AreFewer, AreSingle, Assigned, AtomOver, Checked, Fine, Grows, HaveAtoms, Holds, IsDenied, IsPaid, IsPermutation, IsTaught, IsValid, Kept, Lemma, Lit, MkandKeepsLanguage, Regex, Spending, Spent, Stands, Strings, Writes, all_among, all_from_among, and_from, and_parts, are_atoms, asked_by, asked_by_all, atoms_in, count_cons, denied_all, eq-eqb, false≢true, have_more, held, is_about, is_among, is_atom, is_denial, is_false_clause, is_false_under, is_same_literal, is_same_literal-true, kept_behind, list_all, list_permuted, literals_about, negation, negation_twice, one_if, or_cases, row_at, same_Some, slice_get_within, wanted_on, written, lt-ltb, get_or_default, All-filter, sum_by-filter_both, AllPass-from_list_all, list_all-from_AllPass, sum_by-take-le, count_by, cond_none, AreDistinct, entry_of, HasNoneFalse, nothing_kept, Ascend, HasNoSubset, AreEmpty, EmptyHolds, EmptyIsExact, HasNone, Denying, IsDenial, Sofar, Ticks, sofar, with_denial, IsFair, is_of_wanted, ExpandsRelevant, HaveRegexesBelow, IsQuiet, IsWished, are_declared, regexes_kept, ◌≢◌}
use Rattle.sb_clash.specs.Denials.{ExpandsDenied, IsOfDenial}
use Rattle.sb_theory.proofs.Moving.{passes_grow, proves_stays, taught_grows}
use Rattle.sb_theory.proofs.Tables.{have_atoms_more}
use Rattle.sb_theory.proofs.Rows.{all_about, row_passes}

-- How often a literal stands in a list.

abbrev is_it : Lit → Lit → Bool
is_it l m = is_same_literal m l

counted_there : (l : Lit) (ls : List Lit) → is_among ls l ≡ true → 1 ≤ count_by (is_it l) ls
counted_there l [] h = absurd (false≢true h)
counted_there l (m ∷ ms) h = elim (or_cases (is_same_literal m l) (is_among ms l) h) [
  | inl here ↦ let one : one_if (is_it l m) ≡ 1 = ap one_if here in omega (arith, count_cons (is_it l) m ms, one)
  | inr later ↦ omega (arith, count_cons (is_it l) m ms, counted_there l ms later)
]

there_counted : (l : Lit) (ls : List Lit) → 1 ≤ count_by (is_it l) ls → is_among ls l ≡ true
there_counted l [] h = absurd (omega (arith, h))
there_counted l (m ∷ ms) h = step (is_it l m) refl (there_counted l ms)
  where
    step : (b : Bool) → is_it l m ≡ b → (1 ≤ count_by (is_it l) ms → is_among ms l ≡ true) → (b || is_among ms l) ≡ true
    step true e later = refl
    step false e later =
        let none : one_if (is_it l m) ≡ 0 = ap one_if e in later (omega (arith, h, count_cons (is_it l) m ms, none))

-- what passes for all literals passes for fewer of them
pub fewer_pass : (p : Lit → Bool) (few literals : List Lit) → AreFewer few literals → list_all p literals ≡ true
    → list_all p few ≡ true
fewer_pass p few literals fewer h =
    all_from_among p few (λ l among. all_among p literals l h
    (there_counted l literals (omega (arith, counted_there l few among, fewer l))))

take_counts : (p : Lit → Bool) (n : ℕ) (ls : List Lit) → count_by p (take n ls) ≤ count_by p ls
take_counts p n ls = sum_by-take-le (λ l. one_if (p l)) ls n

pub fewer_same : (few literals : List Lit) → few ≡ literals → AreFewer few literals
fewer_same few literals same = subst (λ (ls : List Lit). AreFewer few ls) same (λ l. omega arith)

-- fewer of a front are fewer of the whole
pub fewer_front : (few literals : List Lit) (n : ℕ) → AreFewer few (take n literals) → AreFewer few literals
fewer_front few literals n fewer = λ l. omega (arith, fewer l, take_counts (is_it l) n literals)

-- Fewer of a row's literals.

filter_keeps : (p q : Lit → Bool) (ls : List Lit) → list_all q ls ≡ true → list_all q (filter p ls) ≡ true
filter_keeps p q ls h =
    list_all-from_AllPass q (filter p ls) (All-filter p (λ l. q l ≡ true) ls (AllPass-from_list_all q ls h))

filter_counts : (p q : Lit → Bool) (ls : List Lit) → count_by q (filter p ls) ≤ count_by q ls
filter_counts p q ls =
    let parts : count_by q (filter p ls) + count_by q (filter (λ l. not (p l)) ls) ≡ count_by q ls =
    sum_by-filter_both p (λ l. not (p l)) (λ l. refl) (λ l. one_if (q l)) ls in
    omega (arith, parts)

-- A row's literals are on the trail,
row_among : (atoms : List (AtomOver ℕ)) (wanted : List ℕ) (x : ℕ) (entries : List Assigned)
    → list_all (is_among (held entries)) (literals_about atoms x (wanted_on wanted entries)) ≡ true
row_among atoms wanted x entries =
    filter_keeps (is_about atoms x) (is_among (held entries)) (wanted_on wanted entries)
    (filter_keeps (is_of_wanted wanted) (is_among (held entries)) (held entries)
    (all_from_among (is_among (held entries)) (held entries) (λ l among. among)))

none_of_atom : (es : List Assigned) (a : ℕ) (l : Lit) → l.atom ≡ a → entry_of es a ≡ None
    → count_by (is_it l) (held es) ≡ 0
none_of_atom [] a l same h = refl
none_of_atom (e ∷ es) a l same h =
    let parts = cond_none (eqb e.literal.atom a) e (entry_of es a) h in
    let not_it : is_it l e.literal ≡ false =
    step (is_same_literal e.literal l) refl parts.0 in
    let none : one_if (is_it l e.literal) ≡ 0 = ap one_if not_it in
    omega (arith, count_cons (is_it l) e.literal (held es), none, none_of_atom es a l same parts.1)
  where
    step : (b : Bool) → is_same_literal e.literal l ≡ b → eqb e.literal.atom a ≡ false → b ≡ false
    step false is other = refl
    step true is other =
        absurd (false≢true (sym other ∙ eq-eqb e.literal.atom a
        (ap (λ (m : Lit). m.atom) (is_same_literal-true e.literal l is) ∙ same)))

trail_single : (es : List Assigned) → AreDistinct es → AreSingle (held es)
trail_single [] h = λ l. omega arith
trail_single (e ∷ es) h = λ l. step l (is_it l e.literal) refl (trail_single es h.1 l)
  where
    step : (l : Lit) (b : Bool) → is_it l e.literal ≡ b → count_by (is_it l) (held es) ≤ 1
        → count_by (is_it l) (held (e ∷ es)) ≤ 1
    step l true is few =
        let one : one_if (is_it l e.literal) ≡ 1 = ap one_if is in
        let none = none_of_atom es e.literal.atom l
        (ap (λ (m : Lit). m.atom) (sym (is_same_literal-true e.literal l is))) h.0 in
        omega (arith, count_cons (is_it l) e.literal (held es), one, none)
    step l false is few =
        let none : one_if (is_it l e.literal) ≡ 0 = ap one_if is in
        omega (arith, count_cons (is_it l) e.literal (held es), none, few)

-- each once
row_single : (atoms : List (AtomOver ℕ)) (wanted : List ℕ) (x : ℕ) (entries : List Assigned)
    → AreDistinct entries → AreSingle (literals_about atoms x (wanted_on wanted entries))
row_single atoms wanted x entries distinct = λ l.
    omega (
      arith,
      filter_counts (is_about atoms x) (is_it l) (wanted_on wanted entries),
      filter_counts (is_of_wanted wanted) (is_it l) (held entries),
      trail_single entries distinct l,
    )

-- The clause.

false_on : (held few : List Lit) → list_all (is_among held) few ≡ true
    → list_all (is_false_under held) (map negation few) ≡ true
false_on held [] h = refl
false_on held (l ∷ ls) h =
    let p = and_parts (is_among held l) (list_all (is_among held) ls) h in
    and_from (is_false_under held (negation l)) (list_all (is_false_under held) (map negation ls))
    (ap (is_among held) (negation_twice l) ∙ p.0) (false_on held ls p.1)

row_is : (x : Strings) (entries : List Assigned) (constant : ℕ) → Holds x → x.taken.items ≡ entries
    → row_at x.members.items constant ≡ literals_about x.atoms constant (wanted_on x.noted entries)
row_is x entries constant h taken =
    h.rows.members constant
    ∙ ap (λ (es : List Assigned). literals_about x.atoms constant (wanted_on x.noted es)) taken

-- the clause of a few literals of a row
pub denied_row : MkandKeepsLanguage → (x : Strings) (entries : List Assigned) (constant : ℕ) (few clause : List Lit)
    → AreFew x constant few → x.taken.items ≡ entries → Ascend clause → IsPermutation (map negation few) clause
    → IsDenied x entries constant clause
denied_row keeps x entries constant few clause h taken ascend perm =
    let row = row_is x entries constant h.holds taken in
    let pass = λ (p : Lit → Bool) (all : list_all p (literals_about x.atoms constant (wanted_on x.noted entries)) ≡ true).
    fewer_pass p few (row_at x.members.items constant) h.fewer (ap (list_all p) row ∙ all) in
    record {
      denial = is_denial keeps x.store.arena x.atoms constant few clause
          (all_about x.atoms constant few (fewer_pass (is_about x.atoms constant) few (row_at x.members.items constant)
          h.fewer (row_passes x.atoms constant x.members.items (wanted_on x.noted x.taken.items) h.holds.rows.members)))
          h.clash ascend perm;
      is_false = list_permuted (is_false_under (held entries)) (map negation few) clause perm
          (false_on (held entries) few (pass (is_among (held entries)) (row_among x.atoms x.noted constant entries)));
    }

pub few_single : (x : Strings) (entries : List Assigned) (constant : ℕ) (few : List Lit) → AreFew x constant few
    → x.taken.items ≡ entries → AreDistinct entries → AreSingle few
few_single x entries constant few h taken distinct = λ l.
    omega (
      arith,
      subst (λ (ls : List Lit). AreFewer few ls) (row_is x entries constant h.holds taken) h.fewer l,
      row_single x.atoms x.noted constant entries distinct l,
    )

-- It is new,
no_subset : (kept : Kept) (held clause : List Lit) → HasNoneFalse kept held → is_false_clause held clause ≡ true
    → HasNoSubset kept clause
no_subset kept held clause none_false is_false = λ id other there subset.
    false≢true (sym (none_false id other there)
    ∙ list_all-from_AllPass (is_false_under held) other.literals (λ k d within.
    let l = get_or other.literals k d in
    let found = subset l (k, within, get_or_default other.literals k l d within) in
    ap (is_false_under held) (sym found.2)
    ∙ AllPass-from_list_all (is_false_under held) clause is_false found.0 l found.1))

-- of known atoms,
about_atoms : (atoms : List (AtomOver ℕ)) (x : ℕ) (ls : List Lit) → AreAbout atoms x ls → are_atoms atoms ls ≡ true
about_atoms atoms x ls h =
    list_all-from_AllPass (λ l. is_atom atoms l.atom) ls (λ k d within.
    lt-ltb (get_or ls k d).atom (length atoms)
    (slice_get_within atoms (get_or ls k d).atom _ (h k d within).names))

-- and true.

all_kept : List Regex → List (AtomOver ℕ) → Regex → AllKept
all_kept rs atoms r = record (nothing_kept 0) { atoms = atoms_in rs atoms; regexes = r ∷ []; dead = true ∷ [] }

only_dead : (r : Regex) → HasNone r → AreEmpty (r ∷ []) (true ∷ [])
only_dead r h zero s marked there = subst HasNone (same_Some r s there) h
only_dead r h (suc n) s marked there = absurd (Prim.cc (there))

is_valid : EmptyHolds → EmptyIsExact → (rs : List Regex) (atoms : List (AtomOver ℕ)) (x : ℕ) (clause : List Lit)
    → IsDenial rs atoms x clause → IsValid rs atoms clause
unfolding all_kept
is_valid holds exact rs atoms x clause d = λ v words.
    let r = asked_by_all rs atoms (map negation clause) in
    holds v (all_kept rs atoms r) clause words (only_dead r d.clash)
    ((exact (all_kept rs atoms r) clause).1 (record {
      some = d.some;
      constant = x;
      regexes = map (asked_by rs atoms) (map negation clause);
      denied = denied_all rs atoms x clause d.about;
      place = 0;
      defined = refl;
      dead = refl;
    }))

-- What is answered.

abbrev pub answer_of : Bool → List Lit → Checked
answer_of done clause = if done then Lemma clause else Spent

never_fine : (clause : List Lit) (done : Bool) → answer_of done clause ≡ Fine → ⊥
never_fine clause true fine = absurd (Prim.cc (fine))
never_fine clause false fine = absurd (Prim.cc (fine))

fair_answer : {x y : Strings} (entries : List Assigned) (constant : ℕ) (clause : List Lit) (done : Bool) → Grows x y
    → IsDenied x entries constant clause → IsValid x.store.arena x.atoms clause
    → IsFair (λ atom. is_atom y.atoms atom ≡ true) (IsTaught y.store.arena y.atoms) entries (answer_of done clause)
fair_answer {x} entries constant clause true g d valid =
    let known = about_atoms x.atoms constant clause d.denial.about in (
      λ l among. passes_grow g l.atom (all_among (λ m. is_atom x.atoms m.atom) clause l known among),
      taught_grows g clause (known, valid),
    )
fair_answer entries constant clause false g d valid = tt

paid_answer : {before after : Spending} (clause : List Lit) (done : Bool) → Ticks before after done
    → IsPaid before after (answer_of done clause)
paid_answer clause true h = h.more refl
paid_answer clause false h = h.spent refl

quiet_answer : (x y : Strings) {before after : Spending} (clause : List Lit) (done : Bool) → Ticks before after done
    → answer_of done clause ≢ Spent → IsQuiet x y before after
quiet_answer x y clause true h some = λ same entries. absurd (omega (arith, same, h.more refl))
quiet_answer x y clause false h some = absurd (some refl)

wished_answer : (y : Strings) (entries : List Assigned) (clause : List Lit) (done : Bool)
    → IsWished y entries (answer_of done clause)
wished_answer y entries clause true = tt
wished_answer y entries clause false = tt

kept_answer : (kept : Kept) (clause : List Lit) (done : Bool)
    → kept_behind kept (answer_of done clause) ≡ (if done then with_denial kept clause else kept)
kept_answer kept clause true = refl
kept_answer kept clause false = refl

have_behind : {x y : Strings} (kept : Kept) (clause : List Lit) (done : Bool) → Grows x y
    → are_atoms x.atoms clause ≡ true → HaveAtoms x.atoms kept
    → HaveAtoms y.atoms (kept_behind kept (answer_of done clause))
have_behind {x} {y} kept clause done g known h =
    have_atoms_more x.atoms y.atoms (kept_behind kept (answer_of done clause)) g.table.extends (step done)
  where
    step : (done : Bool) → HaveAtoms x.atoms (kept_behind kept (answer_of done clause))
    step true = have_more x.atoms kept clause 0 h known
    step false = h

-- what is expanded for a denial
denied_relevant : (x y : Strings) → y.atoms ≡ x.atoms → ExpandsDenied y.store.arena x.atoms x.trace y.trace
    → ExpandsRelevant y.store.arena y.atoms x.trace y.trace
denied_relevant x y atoms only = λ n marked. elim (only n marked) [
  | inl before ↦ inl before
  | inr denial ↦ inr (inl
      (subst (λ (ts : List (AtomOver ℕ)). IsOfDenial y.store.arena ts n) (sym atoms) denial))
]

abbrev sofar_of : Strings → Spending → Option (List ℕ) → Sofar
sofar_of x budget told = sofar x.store.arena x.store.graph x.trace budget told

writes_answer : {x y : Strings} (kept : Kept) (clause : List Lit) (done : Bool) (before after : Spending)
    (old new : Option (List ℕ)) → Grows x y → y.atoms ≡ x.atoms → are_atoms x.atoms clause ≡ true
    → HasNoSubset kept clause
    → (x.proves ≡ false → y.trace ≡ x.trace) → ExpandsDenied y.store.arena x.atoms x.trace y.trace
    → (x.proves ≡ true → Denying (sofar_of x before old) (sofar_of y after new) x.atoms clause done)
    → Writes x y (written kept before old) (written (kept_behind kept (answer_of done clause)) after new)
writes_answer {x} {y} kept clause done before after old new g atoms known fresh silent only puts = record {
  table = g.table;
  proves = proves_stays g;
  store = g.store;
  below = λ h. subst (HaveRegexesBelow (length y.store.arena)) (sym atoms)
      (regexes_kept x.store.arena y.store.arena x.atoms g.store.more.extends h);
  known = have_behind kept clause done g known;
  silent = silent;
  only = λ h. denied_relevant x y atoms only;
  lines = λ on below asked k b.
      let d = puts on asked k b.tracks b.atoms (subst (λ (ks : Kept). HasNoSubset ks clause) (sym b.clauses) fresh)
      b.counted in (
        d.after,
        d.puts,
        record {
          tracks = d.tracks;
          atoms = d.atoms_stay ∙ ap (atoms_in y.store.arena) (sym atoms);
          declared = ap (are_declared asked.sorts) atoms ∙ b.declared;
          clauses = d.clauses ∙ ap (λ (ks : Kept). if done then with_denial ks clause else ks) b.clauses
              ∙ sym (kept_answer kept clause done);
          known = have_behind kept clause done g known b.known;
          counted = d.counts;
        },
      );
}

pub answers_denied : EmptyHolds → EmptyIsExact → {x y : Strings} {entries : List Assigned} {before after : Spending}
    {last : Bool} (constant : ℕ) (clause : List Lit) (done : Bool) (answer : Checked) (old new : Option (List ℕ))
    → answer ≡ answer_of done clause → IsDenied x entries constant clause → Grows x y → y.atoms ≡ x.atoms
    → Stands y entries → Ticks before after done → (x.proves ≡ false → y.trace ≡ x.trace)
    → ExpandsDenied y.store.arena x.atoms x.trace y.trace
    → (x.proves ≡ true → Denying (sofar_of x before old) (sofar_of y after new) x.atoms clause done)
    → Answers x y entries before after old new last answer
answers_denied holds exact {x} {y} {entries} {before} {after} {last} constant clause done answer old new is d g atoms
    stands ticks silent only puts =
    subst (λ (a : Checked). Answers x y entries before after old new last a) (sym is) (record {
      stands = stands;
      agrees = λ whole fine. absurd (never_fine clause done fine);
      fair = fair_answer entries constant clause done g d
          (is_valid holds exact x.store.arena x.atoms constant clause d.denial);
      paid = paid_answer clause done ticks;
      quiet = quiet_answer x y clause done ticks;
      wished = wished_answer y entries clause done;
      writes = λ kept none_false.
          writes_answer kept clause done before after old new g atoms
          (about_atoms x.atoms constant clause d.denial.about)
          (no_subset kept (held entries) clause none_false d.is_false) silent only puts;
    })
