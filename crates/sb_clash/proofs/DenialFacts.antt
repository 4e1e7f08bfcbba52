-- The clause that some literals are not all true, and its line.
use Rattle.sb_clash.proofs.Words.{[], if◌then◌else◌, ◌+◌, ◌<◌, ◌∙◌, ◌∷◌, ◌≡◌, ◌≤◌, Bool, List, None, Option, Some, ap, ap₂, arith, false, get_or, length, map, not, option_map, refl, slice_get, subst, sym, true, ℕ, All-head, All-map, All-tail, AreAbout, AreClashing, AreSingle, Ascend, AtomOver, CanBeDenied, Denying, Extends, Findings, HasNoSubset, HaveRegexesBelow, IsAbout, IsDenial, IsPermutation, IsSorted, Lit, MkandKeepsLanguage, Names, Regex, Sofar, Spending, Ticks, Traced, Tracks, asked_by, asked_by_all, at_kept, atoms_in, atoms_kept, bool_atom, count_by, denied_by, empty, false_from_ne_true, false≢true, is_dead_in, is_same_literal, is_small_literal, language, line, list_all, mknot, names_at, names_below, negation, number-there, number_in, puts_both, puts_none, puts_one, regex_at, rule_line, sofar, text_of, true≢false, with_bytes, with_denial, or-false, length-map, All-permutation, IsPermutation-map, IsPermutation-sym, AllPass-from_list_all, list_all-from_AllPass, slice_get-map, slice_get_within, mark_there, among_negated, negation_twice, literal_order, Kept, IsShortestLeast, Memo, is_marked, Atom, AllKept, Asked, with_clause, ascend_form, AreDefined, RuleLinesAreExact, AreDeniedIn, IsDeniedIn, over, IsCounted, Traces, ascending_from_sort}
use Rattle.sb_clash.proofs.AskedFacts.{clash_grown, in_all, number_at, root_asked}
use Rattle.sb_clash.proofs.FewerFacts.{count_cons, one_if}
use Rattle.sb_trace.specs.Tracking as tracking

-- The clause, made of its literals.

same_negated : (m l : Lit) → is_same_literal (negation m) l ≡ is_same_literal m (negation l)
same_negated m l =
    sym (or-false (is_same_literal (negation m) l)) ∙ among_negated (m ∷ []) l
    ∙ or-false (is_same_literal m (negation l))

-- as often as a literal stands among the negations its negation stands among the literals
negated_count : (l : Lit) (ls : List Lit)
    → count_by (λ m. is_same_literal m l) (map negation ls) ≡ count_by (λ m. is_same_literal m (negation l)) ls
negated_count l [] = refl
negated_count l (k ∷ ls) =
    count_cons (λ m. is_same_literal m l) (negation k) (map negation ls)
    ∙ ap₂ (λ a b. a + b) (ap one_if (same_negated k l)) (negated_count l ls)
    ∙ sym (count_cons (λ m. is_same_literal m (negation l)) k ls)

pub single_negated : (ls : List Lit) → AreSingle ls → AreSingle (map negation ls)
single_negated ls h = λ l. subst (λ n. n ≤ 1) (sym (negated_count l ls)) (h (negation l))

pub ascends : (ls clause : List Lit) → AreSingle ls → IsPermutation (map negation ls) clause
    → IsSorted literal_order clause → Ascend clause
ascends ls clause h perm sorted =
    ascend_form clause (ascending_from_sort (map negation ls) clause perm sorted (single_negated ls h))

-- What is true of the literals, and so of the clause.

pub about_negations : (atoms : List (AtomOver ℕ)) (x : ℕ) (ls : List Lit) → AreAbout atoms x ls
    → AreAbout atoms x (map negation ls)
about_negations atoms x ls h =
    All-map (IsAbout atoms x) negation ls (λ k d m. let g = h k d m in record { regex = g.regex; names = g.names })

about_clause : (atoms : List (AtomOver ℕ)) (x : ℕ) (ls clause : List Lit) → AreAbout atoms x ls
    → IsPermutation (map negation ls) clause → AreAbout atoms x clause
about_clause atoms x ls clause h perm =
    All-permutation (IsAbout atoms x) (map negation ls) clause perm (about_negations atoms x ls h)

pub list_permuted : (p : Lit → Bool) (xs ys : List Lit) → IsPermutation xs ys → list_all p xs ≡ true → list_all p ys ≡ true
list_permuted p xs ys perm h =
    list_all-from_AllPass p ys (All-permutation (λ x. p x ≡ true) xs ys perm (AllPass-from_list_all p xs h))

negated_twice : (ls : List Lit) → map negation (map negation ls) ≡ ls
negated_twice [] = refl
negated_twice (l ∷ ls) = ap₂ (λ m ms. m ∷ ms) (negation_twice l) (negated_twice ls)

-- what passes for all negations of the clause passes for all literals
all_opposite : (p : Lit → Bool) (ls clause : List Lit) → IsPermutation (map negation ls) clause
    → list_all p (map negation clause) ≡ true → list_all p ls ≡ true
all_opposite p ls clause perm h =
    ap (list_all p) (sym (negated_twice ls))
    ∙ list_permuted p (map negation clause) (map negation (map negation ls))
    (IsPermutation-sym (map negation (map negation ls)) (map negation clause)
    (IsPermutation-map negation (map negation ls) clause perm)) h

clash_clause : MkandKeepsLanguage → (rs : List Regex) (atoms : List (AtomOver ℕ)) (ls clause : List Lit)
    → IsPermutation (map negation ls) clause → AreClashing rs atoms ls → AreClashing rs atoms (map negation clause)
clash_clause keeps rs atoms ls clause perm h = λ w word.
    false_from_ne_true (language (asked_by_all rs atoms (map negation clause)) w) (λ is.
    false≢true (sym (h w word) ∙ in_all keeps rs atoms ls w
    ∙ all_opposite (λ l. language (asked_by rs atoms l) w) ls clause perm
    (sym (in_all keeps rs atoms (map negation clause) w) ∙ is)))

never_clash_none : MkandKeepsLanguage → (rs : List Regex) (atoms : List (AtomOver ℕ)) (ls : List Lit) → ls ≡ []
    → AreClashing rs atoms ls → ⊥
never_clash_none keeps rs atoms ls none h =
    false≢true (sym (h [] refl) ∙ ap (λ (ms : List Lit). language (asked_by_all rs atoms ms) []) none
    ∙ in_all keeps rs atoms [] [])

pub is_denial : MkandKeepsLanguage → (rs : List Regex) (atoms : List (AtomOver ℕ)) (x : ℕ) (few clause : List Lit)
    → AreAbout atoms x few → AreClashing rs atoms few → Ascend clause → IsPermutation (map negation few) clause
    → IsDenial rs atoms x clause
is_denial keeps rs atoms x few clause about clash ascend perm =
    let clashes = clash_clause keeps rs atoms few clause perm clash in
    record {
      about = about_clause atoms x few clause about perm;
      clash = clashes;
      some = λ none. never_clash_none keeps rs atoms (map negation clause) (ap (map negation) none) clashes;
      ascend = ascend;
    }

-- The line.

record IsDeadAt (t : Traced) (root : ℕ) : Type 0 where
  number : ℕ
  there : slice_get t.order number ≡ Some root
  marked : is_marked t.dead number ≡ true

dead_at : (t : Traced) (root : ℕ) → is_dead_in t root ≡ true → IsDeadAt t root
dead_at t root h = step (tracking.number_in t.order root) refl h
  where
    step : (o : Option ℕ) → tracking.number_in t.order root ≡ o
        → elim o as (λ _. Bool) [ None ↦ false | Some n ↦ is_marked t.dead n ] ≡ true → IsDeadAt t root
    step None is h = absurd (false≢true h)
    step (Some n) is h = record { number = n; there = number-there t.order root n is; marked = h }

by_sign : (b : Bool) (r : Regex) → (if not b then r else mknot r) ≡ (if b then mknot r else r)
by_sign true r = refl
by_sign false r = refl

denied_one : (rs : List Regex) (atoms : List (AtomOver ℕ)) (x : ℕ) (l : Lit) → IsAbout atoms x l
    → IsDeniedIn (atoms_in rs atoms) x l (asked_by rs atoms (negation l))
denied_one rs atoms x l h = record {
  regex = regex_at rs h.regex;
  there = slice_get-map (over rs) atoms l.atom ∙ ap (option_map (over rs)) h.names;
  is = by_sign l.positive (regex_at rs (number_in (get_or atoms l.atom (bool_atom 0))))
      ∙ ap (λ n. if l.positive then mknot (regex_at rs n) else regex_at rs n) (number_at atoms l.atom _ h.names);
}

pub denied_all : (rs : List Regex) (atoms : List (AtomOver ℕ)) (x : ℕ) (ls : List Lit) → AreAbout atoms x ls
    → AreDeniedIn (atoms_in rs atoms) x ls (map (asked_by rs atoms) (map negation ls))
denied_all rs atoms x [] h = tt
denied_all rs atoms x (l ∷ ls) h =
    (denied_one rs atoms x l (All-head (IsAbout atoms x) l ls h), denied_all rs atoms x ls (All-tail (IsAbout atoms x) l ls h))

defined_all : (rs : List Regex) (atoms : List (AtomOver ℕ)) (x : ℕ) (ls : List Lit) (table : List Atom)
    → table ≡ atoms_in rs atoms → AreAbout atoms x ls → AreDefined table ls
defined_all rs atoms x ls table is about l among =
    let low = slice_get_within atoms (get_or ls among.0 l).atom _ (about among.0 l among.1).names in
    subst (λ (m : Lit). m.atom < length table) among.2
    (omega (arith, low, ap length is ∙ length-map atoms (over rs)))

-- where other clauses are kept
pub tracks_kept : (rs : List Regex) (memo : Memo) (t : Traced) (kept : AllKept) (clauses : Kept) (rests : List (List ℕ))
    (counted : ℕ) → Tracks rs memo t kept
    → Tracks rs memo t (record kept { clauses = clauses; rests = rests; counted = counted })
tracks_kept rs memo t kept clauses rests counted h = record {
  numbers = h.numbers;
  regexes = h.regexes;
  expansions_long = h.expansions_long;
  dead_long = h.dead_long;
  expanded = h.expanded;
  dead = h.dead;
  targets = h.targets;
}

abbrev pub denied : AllKept → List Lit → AllKept
denied before clause = record (with_clause before clause 0 []) { counted = before.counted + 1 }

pub denial_put : RuleLinesAreExact → (rs : List Regex) (g : Findings) (t : Traced) (atoms : List (AtomOver ℕ))
    (clause : List Lit) (before after : Spending) (old new : Option (List ℕ)) → CanBeDenied rs t atoms clause
    → before.spent < before.limit → after ≡ record before { spent = before.spent + 1 }
    → list_all is_small_literal clause ≡ true → new ≡ with_bytes (line (text_of (rule_line empty clause))) old
    → Denying (sofar rs g t before old) (sofar rs g t after new) atoms clause true
denial_put exact rs g t atoms clause before after old new can room ticked small told =
    λ asked kept tracks over_atoms fresh counts.
    let at = dead_at t can.meet can.dead in
    let is_denied = subst (λ (all : List Atom). AreDeniedIn all can.constant clause
    (map (asked_by rs atoms) (map negation clause))) (sym over_atoms) (denied_all rs atoms can.constant clause can.about) in
    record {
      after = denied kept clause;
      puts = puts_one asked kept (denied kept clause) (rule_line empty clause) old new
          ((exact asked kept (denied kept clause) empty clause).1 (record {
            defined = defined_all rs atoms can.constant clause kept.atoms over_atoms can.about;
            ascend = can.ascend;
            form = record {
              some = can.some;
              constant = can.constant;
              regexes = map (asked_by rs atoms) (map negation clause);
              denied = is_denied;
              place = at.number;
              defined = ap (λ known. slice_get known at.number) tracks.regexes
                  ∙ slice_get-map (regex_at rs) t.order at.number ∙ ap (option_map (regex_at rs)) at.there
                  ∙ ap Some can.meets;
              dead = mark_there kept.dead at.number (tracks.dead at.number ∙ at.marked);
            };
            new = λ c. fresh;
            counts = λ c. (omega (arith, room, counts.spent, counts.limit), refl);
            is_free = λ c. absurd (true≢false c);
          }))
          small told;
      tracks = tracks_kept rs g.memo t kept (denied kept clause).clauses (denied kept clause).rests (kept.counted + 1)
          tracks;
      atoms_stay = over_atoms;
      clauses = refl;
      counts = record {
        spent = ap (λ n. n + 1) counts.spent ∙ sym (ap (λ (b : Spending). b.spent) ticked);
        limit = counts.limit ∙ sym (ap (λ (b : Spending). b.limit) ticked);
      };
    }

-- where no step is left
pub denial_waits : (rs : List Regex) (g : Findings) (t : Traced) (before after : Spending) (told : Option (List ℕ))
    (atoms : List (AtomOver ℕ)) (clause : List Lit) → after ≡ before
    → Denying (sofar rs g t before told) (sofar rs g t after told) atoms clause false
denial_waits rs g t before after told atoms clause waits =
    subst (λ (b : Spending). Denying (sofar rs g t before told) (sofar rs g t b told) atoms clause false) (sym waits)
    (λ asked kept tracks is fresh counts. record {
      after = kept;
      puts = puts_none asked kept told;
      tracks = tracks;
      atoms_stay = is;
      clauses = refl;
      counts = counts;
    })

-- behind the lines that show the intersection dead atoms and clauses are as before, so that the line may follow
pub behind_traces : (old mid new : Sofar) (atoms : List (AtomOver ℕ)) (clause : List Lit) (done : Bool)
    → Extends old.regexes mid.regexes → HaveRegexesBelow (length old.regexes) atoms
    → ((asked : Asked) (before : AllKept) → Tracks old.regexes old.graph.memo old.trace before
    → IsCounted asked before old.budget
    → Traces asked before mid.regexes mid.graph.memo mid.trace mid.budget old.told mid.told)
    → Denying mid new atoms clause done → Denying old new atoms clause done
behind_traces old mid new atoms clause done e below traces line = λ asked before tracks is fresh counts.
    let first = traces asked before tracks counts in
    let second = line asked first.after first.tracks
    (first.keeps.atoms ∙ is ∙ sym (atoms_kept old.regexes mid.regexes atoms e below))
    (subst (λ (kept : Kept). HasNoSubset kept clause) (sym first.keeps.clauses) fresh) first.counts in
    record {
      after = second.after;
      puts = puts_both asked before first.after second.after old.told mid.told new.told first.puts second.puts;
      tracks = second.tracks;
      atoms_stay = second.atoms_stay;
      clauses = second.clauses
          ∙ ap (λ (kept : Kept). if done then with_denial kept clause else kept) first.keeps.clauses;
      counts = second.counts;
    }

-- A regex that has no word is not found to have one.
pub never_alive : (rs more : List Regex) (atoms : List (AtomOver ℕ)) (x root : ℕ) (clause : List Lit) (w : List ℕ)
    → Extends rs more → HaveRegexesBelow (length rs) atoms → IsDenial rs atoms x clause
    → Names more root (asked_by_all more atoms (map negation clause))
    → IsShortestLeast (language (regex_at more root)) w → ⊥
never_alive rs more atoms x root clause w e below d names least =
    false≢true (sym (clash_grown rs more atoms x (map negation clause) e below (about_negations atoms x clause d.about)
    d.clash w least.word)
    ∙ ap (λ (r : Regex). language r w) (sym (names_at more root _ names)) ∙ least.member)

-- the intersection is dead in the proof
pub can_be_denied : (rs more most : List Regex) (t : Traced) (atoms : List (AtomOver ℕ)) (x root : ℕ)
    (clause : List Lit) → Extends rs more → Extends more most → HaveRegexesBelow (length rs) atoms
    → IsDenial rs atoms x clause → Names more root (denied_by more atoms clause)
    → is_dead_in t root ≡ true → CanBeDenied most t atoms clause
can_be_denied rs more most t atoms x root clause e f below d names dead = record {
  constant = x;
  about = d.about;
  some = d.some;
  ascend = d.ascend;
  meet = root;
  meets = at_kept more most root f (names_below more root _ names)
      ∙ root_asked rs more most atoms x root (map negation clause) e f below (about_negations atoms x clause d.about)
      names;
  dead = dead;
}

-- A step.

pub ticks_later : (a b c : Spending) (done : Bool) → a.spent ≤ b.spent → Ticks b c done → Ticks a c done
ticks_later a b c done le h = record { more = λ is. omega (arith, le, h.more is); spent = h.spent }
