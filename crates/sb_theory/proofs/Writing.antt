-- What lines make of a proof, step behind step, and what came of a look so far.
use Rattle.sb_theory.proofs.Words.{[], inl, inr, ◌++◌, ◌+◌, ◌<◌, ◌||◌, ◌∙◌, ◌∷◌, ◌≡◌, ◌≤◌, Bool, List, None, Ok, Option, Some, ap, arith, false, get_or, length, nat_eq, refl, subst, suc, sym, take, true, ℕ, ap₂, slice_get, AllKept, AllPass-from_list_all, Asked, Assigned, AtomOver, Atom, Contains, Grows, HasNoneFalse, HaveRegexesBelow, Holds, IsOfMembership, IsQuiet, IsSofar, Keeps, Kept, Lemma, Lit, Names, Piece, Regex, RegexesGrow, Spending, SpendsWithin, Stands, Strings, TableExtends, TableGrows, Tables, Traced, Tracks, Writes, Written, all_among, are_declared, atoms_in, atoms_kept, bases_of, expanded_in, flat_map, eqb-true, false≢true, frame_of, have_more, held, in_atom, is_among, is_false_clause, is_false_under, kept_behind, list_all-from_AllPass, lt-ltb, or_cases, regexes_kept, regexes_same, tables_of, ungranted, writes_both, writes_grown, writes_none, writes_still, written}
use Rattle.std.proofs.Common.{ltb, nat_lt}
use Rattle.std.proofs.lemmas.Bool.{and_from, eq-eqb, le-ltb, ltb-true}
use Rattle.std.proofs.lemmas.Bool.Decides.{nat_tests}
use Rattle.std.proofs.lemmas.Option.{same_Some, slice_get-get_or}
use Rattle.std.specs.List.{IsDistinct}
use Rattle.std.specs.Ordering.{is_lt}
use Rattle.sb_lit.specs.Clauses.{are_among, are_ascending, literal_order}
use Rattle.sb_lit.specs.Hints.{is_repeated}
use Rattle.sb_deriv.specs.Faithful.{Memo}
use Rattle.sb_graph.specs.Findings.{is_marked}
use Rattle.sb_rulebook.specs.AtomRules.{are_known}
use Rattle.sb_rulebook.specs.Follows.{follows}
use Rattle.sb_rulebook.specs.Kept.{most_counted, with_clause}
use Rattle.sb_rulebook.specs.Lines as rules
use Rattle.sb_rulebook.specs.Lines.{rule_line}
use Rattle.sb_rulebook.specs.Splits.{is_step}
use Rattle.sb_sound.specs.HintLaws.{Ascend, StandsBefore, by_atom, by_sign}
use Rattle.sb_sound.specs.MembershipLaws.{StepsAreExact}
use Rattle.sb_clash.proofs.CallerLemmas.{tracks_kept}
use Rattle.sb_split.proofs.CallerLemmas.{take_known}
use Rattle.sb_split.specs.Added.{Adds, declares_at}
use Rattle.sb_split.specs.Defining.{AreDue, DefinesAtoms}
use Rattle.sb_trace.proofs.CallerLemmas.{expanded_same, number-below, number_kept, puts_one, tracks_grow}
use Rattle.sb_trace.specs.Putting.{IsCounted}
use Rattle.sb_trace.specs.Tracking.{IsExpandedIn, OnlyNumbers, Spends, StaysNumbered, Traces, is_expanded_in, is_put, number_in}
use Rattle.sb_trace.specs.declared.trace.Expand.{Expand}
use Rattle.sb_trace.specs.declared.trace.Expand.TheVariants as expand
use Rattle.sb_theory.specs.Judged.{PutsStep}
use Rattle.sb_theory.specs.Laws.{are_known_in}
use Rattle.sb_theory.specs.Walks.{Counts, IsFalseStep, Widens, rows_of}
use Rattle.sb_theory.proofs.Moving.{bases_kept, grows_both, grows_store, holds_grown, keeps_none, stands_looked, wishes_kept}
use Rattle.sb_theory.proofs.Tables.{due_defined, extends_none, have_atoms_more, of_membership_more, relevant_none, table_defined, table_none, wanted_known}
use Rattle.sb_theory.proofs.Wishes.{bases_grow, position_there, ungranted_grown, wanted_all_same, wishes_same}
use Rattle.sb_theory.proofs.Wishes.{expanded_same as expanded_list}
use Rattle.sb_theory.specs.Wishes.{regexes_in}
use Rattle.std.proofs.lemmas.List.Elements.{Contains-append_cases, Contains-append_left, Contains-append_right}

-- no mark is on a number that is not there yet
abbrev pub HaveNumbers : Traced → Type 0
HaveNumbers t = (n : ℕ) → length t.order ≤ n → is_marked t.expanded n ≡ false

-- what `define_atoms` says of lines of the atoms from a number on
abbrev pub Defines : ℕ → List Regex → List (AtomOver ℕ) → Traced → Traced → Option (List ℕ) → Option (List ℕ) → Type 0
Defines known rs atoms t u old new = (asked : Asked) (memo : Memo) (before : AllKept) → AreDue asked known atoms
    → Tracks rs memo t before → before.atoms ≡ atoms_in rs (take known atoms)
    → DefinesAtoms asked before rs memo u atoms old new

-- Where no line is put.

pub writes_kept : {x y : Strings} → Keeps x y → (proof : Written) → Writes x y proof proof
writes_kept {x} {y} k proof = writes_grown x y proof k

-- nor are lines put where the tables stay, whatever else changes
pub writes_same : {x y : Strings} (proof : Written) → y.proves ≡ x.proves → tables_of y ≡ tables_of x
    → RegexesGrow x.store y.store → Writes x y proof proof
writes_same {x} {y} proof proves tables g =
    writes_still x y proof (ap (λ (t : Tables). t.atoms) tables) proves (ap (λ (t : Tables). t.trace) tables) g

-- A regex may be counted, where no lines are put.
pub writes_counted : {x y : Strings} (kept : Kept) (before after : Spending) (old new : Option (List ℕ))
    → x.proves ≡ false → Counts x y before after → Writes x y (written kept before old) (written kept after new)
writes_counted {x} {y} kept before after old new off counts =
    subst (λ (z : Strings). Writes x z (written kept before old) (written kept after new)) (sym counts.is) (record {
      table = table_none x.atoms;
      proves = refl;
      store = regexes_same x.store;
      below = λ h. h;
      known = λ h. h;
      silent = λ unsaid. refl;
      only = λ h. relevant_none x.store.arena x.atoms x.trace x.trace refl;
      lines = λ on. absurd (false≢true (sym off ∙ on));
    })

-- The lines of new atoms: those of a step of the membership of a number, with the clauses of `step_lemma` and
-- `define_atoms`.
pub writes_defined : {x y : Strings} (at : ℕ) (ps : List Piece) (r known : ℕ) (kept : Kept) (budget : Spending)
    (old new : Option (List ℕ)) → Names x.atoms at (in_atom ps r) → known ≡ length x.atoms
    → Adds (declares_at x.atoms at) x.store.arena y.store.arena x.atoms y.atoms → RegexesGrow x.store y.store
    → y.proves ≡ x.proves → HaveNumbers x.trace → OnlyNumbers x.trace y.trace → (x.proves ≡ false → y.trace ≡ x.trace)
    → (x.proves ≡ true → Defines known y.store.arena y.atoms x.trace y.trace old new)
    → Writes x y (written kept budget old) (written kept budget new)
writes_defined {x} {y} at ps r known kept budget old new names is adds g proves numbers only silent defines =
    let table = table_defined at ps r names adds in
    record {
      table = table;
      proves = proves;
      store = g;
      below = λ h. adds.regexes;
      known = λ h. have_atoms_more x.atoms y.atoms kept adds.atoms h;
      silent = silent;
      only = λ h n marked. inl (sym (expanded_same x.trace y.trace only.stays only.expanded numbers n) ∙ marked);
      lines = λ on below asked all b.
          let d = defines on asked y.store.graph.memo all (due_defined asked at ps r known names is b.declared adds)
          (tracks_grow x.store.arena y.store.arena x.store.graph.memo y.store.graph.memo x.trace all g.more.extends
          g.more.derivatives b.tracks)
          (b.atoms ∙ sym (atoms_kept x.store.arena y.store.arena x.atoms g.more.extends below)
          ∙ ap (atoms_in y.store.arena) (sym (take_known x.atoms y.atoms known adds.atoms is))) in (
            d.after,
            d.puts,
            record {
              tracks = d.tracks;
              atoms = d.atoms;
              declared = table.declared asked.sorts b.declared;
              clauses = d.clauses ∙ b.clauses;
              known = have_atoms_more x.atoms y.atoms kept adds.atoms b.known;
              counted = record { spent = d.counted ∙ b.counted.spent; limit = b.counted.limit };
            },
          );
    }

-- what the tables of the theory are then
pub grows_defined : {x y : Strings} (at : ℕ) (ps : List Piece) (r : ℕ) → Holds x → Names x.atoms at (in_atom ps r)
    → Adds (declares_at x.atoms at) x.store.arena y.store.arena x.atoms y.atoms → RegexesGrow x.store y.store
    → frame_of y ≡ frame_of x → Grows x y
grows_defined at ps r h names adds g frame =
    record { frame = frame; table = table_defined at ps r names adds; below = h.regexes; store = g }

-- where nothing but tables changed
pub holds_defined : {x y : Strings} (at : ℕ) (ps : List Piece) (r : ℕ) → Names x.atoms at (in_atom ps r)
    → Adds (declares_at x.atoms at) x.store.arena y.store.arena x.atoms y.atoms → RegexesGrow x.store y.store
    → y ≡ record x { store = y.store; atoms = y.atoms; trace = y.trace }
    → ((n : ℕ) → Contains (bases_of x) n → Contains (bases_of y) n) → Holds x → Holds y
holds_defined at ps r names adds g is bases h =
    holds_grown g (table_defined at ps r names adds) adds.regexes (ap (λ (z : Strings). z.wanted) is)
    (ap (λ (z : Strings). z.noted) is) (ap (λ (z : Strings). z.joined.items) is) bases (ap rows_of is) h

put_is : (put : Expand) (regex n : ℕ) → is_put put regex n ≡ true → n ≡ regex
put_is expand.Expanded regex n h = eqb-true n regex h
put_is expand.Already regex n h = absurd (false≢true h)
put_is expand.Spent regex n h = absurd (false≢true h)

-- The line of an expansion, with the clauses of `Trace::expand`.
pub writes_expanded : {x y : Strings} (regex : ℕ) (put : Expand) (kept : Kept) (before after : Spending)
    (old new : Option (List ℕ)) → x.proves ≡ true → y.proves ≡ x.proves → y.atoms ≡ x.atoms
    → RegexesGrow x.store y.store → IsOfMembership x.store.arena x.atoms regex
    → ((n : ℕ) → is_expanded_in y.trace n ≡ (is_put put regex n || is_expanded_in x.trace n))
    → ((asked : Asked) (all : AllKept) → Tracks x.store.arena x.store.graph.memo x.trace all
    → IsCounted asked all before
    → Traces asked all y.store.arena y.store.graph.memo y.trace after old new)
    → Writes x y (written kept before old) (written kept after new)
writes_expanded {x} {y} regex put kept before after old new on proves atoms g relevant only traces = record {
  table = subst (TableGrows x.atoms) (sym atoms) (table_none x.atoms);
  proves = proves;
  store = g;
  below = λ h. subst (HaveRegexesBelow (length y.store.arena)) (sym atoms)
      (regexes_kept x.store.arena y.store.arena x.atoms g.more.extends h);
  known = λ h. have_atoms_more x.atoms y.atoms kept same h;
  silent = λ off. absurd (false≢true (sym off ∙ on));
  only = λ h n marked. elim (or_cases (is_put put regex n) (is_expanded_in x.trace n) (sym (only n) ∙ marked)) [
    | inl here ↦ inr (inr (of_membership_more x.store.arena y.store.arena x.atoms y.atoms n g.more.extends same
        (subst (IsOfMembership x.store.arena x.atoms) (sym (put_is put regex n here)) relevant)))
    | inr before ↦ inl before
  ];
  lines = λ proving below asked all b.
      let t = traces asked all b.tracks b.counted in (
        t.after,
        t.puts,
        record {
          tracks = t.tracks;
          atoms = t.keeps.atoms ∙ b.atoms
              ∙ sym (atoms_kept x.store.arena y.store.arena x.atoms g.more.extends below)
              ∙ ap (atoms_in y.store.arena) (sym atoms);
          declared = ap (are_declared asked.sorts) atoms ∙ b.declared;
          clauses = t.keeps.clauses ∙ b.clauses;
          known = have_atoms_more x.atoms y.atoms kept same b.known;
          counted = t.counts;
        },
      );
}
  where
    same : TableExtends x.atoms y.atoms
    same = subst (TableExtends x.atoms) (sym atoms) (extends_none x.atoms)

-- The clause of a step is new where it is false and no kept clause is,

false_part : (trail ks clause : List Lit) → is_false_clause trail clause ≡ true → are_among ks clause ≡ true
    → is_false_clause trail ks ≡ true
false_part trail ks clause is_false part =
    list_all-from_AllPass (is_false_under trail) ks (λ k d within.
    all_among (is_false_under trail) clause (get_or ks k d) is_false
    (AllPass-from_list_all (is_among clause) ks part k d within))

not_repeated : (trail : List Lit) (kept : Kept) (clause : List Lit) → HasNoneFalse kept trail
    → is_false_clause trail clause ≡ true → is_repeated kept clause ≡ false
not_repeated trail [] clause none is_false = refl
not_repeated trail (None ∷ kept) clause none is_false =
    not_repeated trail kept clause (λ id. none (suc id)) is_false
not_repeated trail (Some k ∷ kept) clause none is_false =
    ap (λ b. b || is_repeated kept clause) (step (are_among k.literals clause) refl)
    ∙ not_repeated trail kept clause (λ id. none (suc id)) is_false
  where
    step : (b : Bool) → are_among k.literals clause ≡ b → b ≡ false
    step false is = refl
    step true is = absurd (false≢true (sym (none 0 k refl) ∙ false_part trail k.literals clause is_false is))

from_before : (l m : Lit) → StandsBefore l m → is_lt (literal_order l m) ≡ true
from_before l m (by_atom below) = rw (lt-ltb l.atom m.atom below) refl
from_before l m (by_sign same plus minus) =
    let not_below : ltb l.atom m.atom ≡ false = le-ltb l.atom m.atom (omega (arith, same)) in
    rw (not_below, eq-eqb l.atom m.atom same, plus, minus) refl

from_ascend : (ls : List Lit) → Ascend ls → are_ascending ls ≡ true
from_ascend [] a = refl
from_ascend (l ∷ []) a = refl
from_ascend (l ∷ m ∷ ls) a =
    and_from (is_lt (literal_order l m)) (are_ascending (m ∷ ls)) (from_before l m a.0) (from_ascend (m ∷ ls) a.1)

-- and its line follows.
step_follows : (asked : Asked) (kept : AllKept) (clause : List Lit) → are_known kept.atoms clause ≡ true
    → is_repeated kept.clauses clause ≡ false → are_ascending clause ≡ true → is_step kept.atoms clause ≡ true
    → kept.counted < most_counted asked
    → follows asked kept (rule_line rules.step clause)
    ≡ Ok (record (with_clause kept clause 0 []) { counted = kept.counted + 1 })
step_follows asked kept clause known new ascends is room =
    rw (known, new, ascends, is, lt-ltb kept.counted (most_counted asked) room) refl

-- The line of a clause by rule step that is false on the trail, for which a step is spent.
pub writes_step : StepsAreExact → {x : Strings} {entries : List Assigned} (kept : Kept) (clause : List Lit)
    (before after : Spending) (old new : Option (List ℕ)) → IsFalseStep x entries clause
    → HasNoneFalse kept (held entries) → before.spent < before.limit
    → after ≡ record before { spent = before.spent + 1 } → (x.proves ≡ true → PutsStep clause old new)
    → Writes x x (written kept before old) (written (kept_behind kept (Lemma clause)) after new)
writes_step exact {x} {entries} kept clause before after old new wrong none_false room spent puts = record {
  table = table_none x.atoms;
  proves = refl;
  store = regexes_same x.store;
  below = λ h. h;
  known = λ h. have_more x.atoms kept clause 0 h wrong.known;
  silent = λ off. refl;
  only = λ h. relevant_none x.store.arena x.atoms x.trace x.trace refl;
  lines = λ on below asked all b.
      let p = puts on in
      let next : AllKept = record (with_clause all clause 0 []) { counted = all.counted + 1 } in (
        next,
        puts_one asked all next (rule_line rules.step clause) old new
            (step_follows asked all clause
            (are_known_in x.store.arena x.atoms all.atoms clause b.atoms wrong.known)
            (ap (λ (ks : Kept). is_repeated ks clause) b.clauses
            ∙ not_repeated (held entries) kept clause none_false wrong.is_false)
            (from_ascend clause wrong.ascend)
            (ap (λ (table : List Atom). is_step table clause) b.atoms
            ∙ (exact (atoms_in x.store.arena x.atoms) clause).1 wrong.step)
            (omega (arith, room, b.counted.spent, b.counted.limit))) p.text p.told,
        record {
          tracks = tracks_kept x.store.arena x.store.graph.memo x.trace all next.clauses next.rests next.counted
              b.tracks;
          atoms = b.atoms;
          declared = b.declared;
          clauses = ap (λ (ks : Kept). ks ++ Some (record { literals = clause; level = 0 }) ∷ []) b.clauses;
          known = have_more x.atoms kept clause 0 b.known wrong.known;
          counted = record {
            spent = ap (λ n. n + 1) b.counted.spent ∙ sym (ap (λ (s : Spending). s.spent) spent);
            limit = b.counted.limit ∙ sym (ap (λ (s : Spending). s.limit) spent);
          };
        },
      );
}

-- Where no step was spent.

pub quiet_none : (x : Strings) (before after : Spending) → IsQuiet x x before after
quiet_none x before after = λ same entries. omega arith

pub quiet_both : (x y z : Strings) {a b c : Spending} → SpendsWithin a b → SpendsWithin b c → IsQuiet x y a b
    → IsQuiet y z b c → IsQuiet x z a c
quiet_both x y z {a = a} {b = b} {c = c} first second p q = λ same entries.
    let before : b.spent ≡ a.spent = omega (arith, same, first.spent, second.spent) in
    let behind : c.spent ≡ b.spent = omega (arith, same, first.spent, second.spent) in
    omega (arith, p before entries, q behind entries)

-- what has come true stays so
pub ungranted_kept : {x y : Strings} → Keeps x y → (entries : List Assigned) → ungranted y entries ≤ ungranted x entries
ungranted_kept {x} {y} k entries =
    ungranted_grown x y (wishes_kept k) k.grows.store.more.extends k.grows.table.extends k.grows.below entries

pub quiet_kept : {x y : Strings} (before after : Spending) → Keeps x y → IsQuiet x y before after
quiet_kept before after k = λ same entries. ungranted_kept k entries

-- What came of a look so far, step behind step.

pub sofar_none : {x : Strings} {entries : List Assigned} (budget : Spending) (told : Option (List ℕ)) → Stands x entries
    → IsSofar x x entries budget budget told told
sofar_none {x} budget told stands = record {
  stands = stands;
  quiet = quiet_none x budget budget;
  writes = λ kept. writes_none x (written kept budget told);
}

pub sofar_kept : {x y : Strings} {entries : List Assigned} (budget : Spending) (told : Option (List ℕ)) → Keeps x y
    → Stands y entries → IsSofar x y entries budget budget told told
sofar_kept budget told k stands = record {
  stands = stands;
  quiet = quiet_kept budget budget k;
  writes = λ kept. writes_kept k (written kept budget told);
}

pub sofar_both : {x y z : Strings} {entries : List Assigned} {a b c : Spending} {old mid new : Option (List ℕ)}
    → SpendsWithin a b → SpendsWithin b c → IsSofar x y entries a b old mid → IsSofar y z entries b c mid new
    → IsSofar x z entries a c old new
sofar_both {x} {y} {z} {a = a} {b = b} {c = c} {old = old} {mid = mid} {new = new} first second p q = record {
  stands = q.stands;
  quiet = quiet_both x y z first second p.quiet q.quiet;
  writes = λ kept.
      writes_both x y z (written kept a old) (written kept b mid) (written kept c new) (p.writes kept) (q.writes kept);
}

pub widens_none : {x : Strings} {entries : List Assigned} (budget : Spending) (told : Option (List ℕ))
    → Stands x entries → Widens x x entries budget budget told told
widens_none budget told stands = record {
  sofar = sofar_none budget told stands;
  grows = (keeps_none stands.holds).grows;
  rows = refl;
  noted = refl;
  bases = λ n among. among;
}

-- where the tables stay, and so do rows and words
pub widens_kept : {x y : Strings} {entries : List Assigned} (budget : Spending) (told : Option (List ℕ)) → Keeps x y
    → Stands y entries → rows_of y ≡ rows_of x → y.noted ≡ x.noted → Widens x y entries budget budget told told
widens_kept budget told k stands rows noted = record {
  sofar = sofar_kept budget told k stands;
  grows = k.grows;
  rows = rows;
  noted = noted;
  bases = bases_kept k;
}

pub widens_both : {x y z : Strings} {entries : List Assigned} {a b c : Spending} {old mid new : Option (List ℕ)}
    → SpendsWithin a b → SpendsWithin b c → Widens x y entries a b old mid → Widens y z entries b c mid new
    → Widens x z entries a c old new
widens_both first second p q = record {
  sofar = sofar_both first second p.sofar q.sofar;
  grows = grows_both p.grows q.grows;
  rows = q.rows ∙ p.rows;
  noted = q.noted ∙ p.noted;
  bases = λ n among. q.bases n (p.bases n among);
}

-- New atoms come, with their lines, where lines are put; nothing is spent.

pub bases_defined : (x y : Strings) → Holds x → y.wanted ≡ x.wanted → y.expanded.keys ≡ x.expanded.keys
    → TableExtends x.atoms y.atoms → OnlyNumbers x.trace y.trace → HaveNumbers x.trace → bases_of y ≡ bases_of x
bases_defined x y h wanted keys e only numbers =
    ap₂ (λ (us vs : List ℕ). us ++ vs)
    (ap₂ (λ (us vs : List ℕ). us ++ vs) (wanted_all_same regexes_in x y wanted e (wanted_known h)) keys)
    (expanded_list x.trace y.trace only numbers)

pub widens_defined : {x y : Strings} {entries : List Assigned} (at : ℕ) (ps : List Piece) (r known : ℕ)
    (budget : Spending) (old new : Option (List ℕ)) → Stands x entries → Names x.atoms at (in_atom ps r)
    → known ≡ length x.atoms → Adds (declares_at x.atoms at) x.store.arena y.store.arena x.atoms y.atoms
    → RegexesGrow x.store y.store → y ≡ record x { store = y.store; atoms = y.atoms; trace = y.trace }
    → HaveNumbers x.trace → OnlyNumbers x.trace y.trace → (x.proves ≡ false → y.trace ≡ x.trace)
    → (x.proves ≡ true → Defines known y.store.arena y.atoms x.trace y.trace old new)
    → Widens x y entries budget budget old new
widens_defined {x} {y} at ps r known budget old new stands names count adds g is numbers only silent defines =
    let h = stands.holds in
    let wanted = ap (λ (z : Strings). z.wanted) is in
    let keys = ap (λ (z : Strings). z.expanded.keys) is in
    let bases = λ (n : ℕ) (among : Contains (bases_of x) n).
    subst (λ (ns : List ℕ). Contains ns n) (sym (bases_defined x y h wanted keys adds.atoms only numbers)) among in
    record {
      sofar = record {
        stands = stands_looked (holds_defined at ps r names adds g is bases h)
            (ap (λ (z : Strings). z.taken.items) is) stands;
        quiet = λ unspent.
            ungranted_grown x y (wishes_same x y wanted keys adds.atoms (wanted_known h) only numbers) g.more.extends
            adds.atoms h.regexes;
        writes = λ kept.
            writes_defined at ps r known kept budget old new names count adds g (ap (λ (z : Strings). z.proves) is)
            numbers only silent defines;
      };
      grows = grows_defined at ps r h names adds g (ap frame_of is);
      rows = ap rows_of is;
      noted = ap (λ (z : Strings). z.noted) is;
      bases = bases;
    }

-- A regex is counted, where no lines are put.

more_keys : (first old new last : List ℕ) (n : ℕ) → (Contains old n → Contains new n)
    → Contains (first ++ old ++ last) n → Contains (first ++ new ++ last) n
more_keys first old new last n more h = elim (Contains-append_cases (first ++ old) last n h) [
  | inl front ↦ Contains-append_left (first ++ new) last n (elim (Contains-append_cases first old n front) [
    | inl early ↦ Contains-append_left first new n early
    | inr late ↦ Contains-append_right first new n (more late)
  ])
  | inr end ↦ Contains-append_right (first ++ new) last n end
]

no_more : (n : ℕ) → n ≤ n
no_more n = omega arith

pub widens_counted : {x y : Strings} {entries : List Assigned} (before after : Spending) (told : Option (List ℕ))
    → x.proves ≡ false → Stands x entries → Counts x y before after → Widens x y entries before after told told
widens_counted {x} {y} before after told off stands counts =
    let h = stands.holds in
    let z : Strings = record x { expanded = y.expanded } in
    let bases : (n : ℕ) → Contains (bases_of x) n → Contains (bases_of z) n = λ n among.
    more_keys (flat_map (λ i. regexes_in (slice_get x.atoms i)) x.wanted) x.expanded.keys y.expanded.keys
    (expanded_in x.trace) n (counts.stay n) among in
    let holds : Holds z = holds_grown {x = x} {y = z} (regexes_same x.store) (table_none x.atoms) h.regexes refl refl
    refl bases refl h in
    let same : Grows x z = record {
      frame = refl;
      table = table_none x.atoms;
      below = h.regexes;
      store = regexes_same x.store;
    } in
    record {
      sofar = record {
        stands = stands_looked (subst Holds (sym counts.is) holds) (ap (λ (s : Strings). s.taken.items) counts.is)
            stands;
        quiet = λ unspent entries.
            subst (λ (s : Strings). ungranted s entries ≤ ungranted x entries)
            (sym (counts.is ∙ ap (λ e. record x { expanded = e }) (counts.quiet unspent)))
            (no_more (ungranted x entries));
        writes = λ kept. writes_counted kept before after told told off counts;
      };
      grows = subst (Grows x) (sym counts.is) same;
      rows = ap rows_of counts.is;
      noted = ap (λ (s : Strings). s.noted) counts.is;
      bases = subst (λ (s : Strings). (n : ℕ) → Contains (bases_of x) n → Contains (bases_of s) n) (sym counts.is)
          bases;
    }

-- A regex is expanded in the proof, or nothing but numbers comes.

place_mark : (t : Traced) (n k : ℕ) → number_in t.order n ≡ Some k → is_expanded_in t n ≡ is_marked t.expanded k
place_mark t n k h =
    ap (λ (o : Option ℕ). elim o as (λ _. Bool) [ None ↦ false | Some m ↦ is_marked t.expanded m ]) h

numbered_at : (order : List ℕ) (k : ℕ) → IsDistinct nat_eq order → k < length order
    → number_in order (get_or order k 0) ≡ Some k
numbered_at order k once low =
    let at : 0 + k ≡ k = omega arith in
    position_there order 0 k (get_or order k 0) once (slice_get-get_or order k 0 low) ∙ ap Some at

not_yet : (t u : Traced) (n k : ℕ) → StaysNumbered t u → length t.order ≤ k → number_in u.order n ≡ Some k
    → is_expanded_in t n ≡ false
not_yet t u n k stays late here = step (number_in t.order n) refl
  where
    step : (o : Option ℕ) → number_in t.order n ≡ o → is_expanded_in t n ≡ false
    step None is =
        ap (λ (o : Option ℕ). elim o as (λ _. Bool) [ None ↦ false | Some m ↦ is_marked t.expanded m ]) is
    step (Some j) is =
        let same = same_Some j k (sym (number_kept t u n j stays is) ∙ here) in
        absurd (omega (arith, same, number-below t.order n j is, late))

-- where no regex is expanded that was not
pub only_numbered : (t u : Traced) → StaysNumbered t u → IsDistinct nat_eq t.order → IsDistinct nat_eq u.order
    → HaveNumbers t → HaveNumbers u → ((n : ℕ) → is_expanded_in u n ≡ is_expanded_in t n)
    → ((k : ℕ) → is_marked u.dead k ≡ is_marked t.dead k) → OnlyNumbers t u
only_numbered t u stays once_before once_after before after same dead =
    record { stays = stays; expanded = λ k. early k (nat_lt k (length t.order)) refl; dead = dead }
  where
    late : (k : ℕ) → length t.order ≤ k → (b : Bool) → nat_lt k (length u.order) ≡ b
        → is_marked u.expanded k ≡ is_marked t.expanded k
    late k high true is =
        let n = get_or u.order k 0 in
        let numbered = numbered_at u.order k once_after (ltb-true k (length u.order) is) in
        sym (place_mark u n k numbered) ∙ same n ∙ not_yet t u n k stays high numbered ∙ sym (before k high)
    late k high false is = after k (grind (arith, nat_tests)) ∙ sym (before k high)

    early : (k : ℕ) (b : Bool) → nat_lt k (length t.order) ≡ b → is_marked u.expanded k ≡ is_marked t.expanded k
    early k true is =
        let n = get_or t.order k 0 in
        let numbered = numbered_at t.order k once_before (ltb-true k (length t.order) is) in
        sym (place_mark u n k (number_kept t u n k stays numbered)) ∙ same n ∙ place_mark t n k numbered
    early k false is = late k (grind (arith, nat_tests)) (nat_lt k (length u.order)) refl

-- what is known of a trace and of what it grew to
pub record AreNumbered (t u : Traced) : Type 0 where
  pub stays : StaysNumbered t u
  pub once_before : IsDistinct nat_eq t.order
  pub once_after : IsDistinct nat_eq u.order
  pub before : HaveNumbers t
  pub after : HaveNumbers u
  pub dead : (k : ℕ) → is_marked u.dead k ≡ is_marked t.dead k

numbered_only : {t u : Traced} → AreNumbered t u → ((n : ℕ) → is_expanded_in u n ≡ is_expanded_in t n) → OnlyNumbers t u
numbered_only {t} {u} h same = only_numbered t u h.stays h.once_before h.once_after h.before h.after same h.dead

quiet_expanded : (x y : Strings) (regex : ℕ) (put : Expand) (before after : Spending) → Holds x
    → RegexesGrow x.store y.store → y.wanted ≡ x.wanted → y.expanded.keys ≡ x.expanded.keys
    → TableExtends x.atoms y.atoms → AreNumbered x.trace y.trace → Spends put before after
    → ((n : ℕ) → is_expanded_in y.trace n ≡ (is_put put regex n || is_expanded_in x.trace n)) → IsQuiet x y before after
quiet_expanded x y regex expand.Expanded before after h g wanted keys e numbered spends only = λ same entries.
    let one = ap (λ (s : Spending). s.spent) spends.1 in absurd (omega (arith, same, one))
quiet_expanded x y regex expand.Already before after h g wanted keys e numbered spends only = λ same.
    ungranted_grown x y
    (wishes_same x y wanted keys e (wanted_known h) (numbered_only numbered only) numbered.before) g.more.extends e
    h.regexes
quiet_expanded x y regex expand.Spent before after h g wanted keys e numbered spends only = λ same.
    ungranted_grown x y
    (wishes_same x y wanted keys e (wanted_known h) (numbered_only numbered only) numbered.before) g.more.extends e
    h.regexes

-- with the clauses of `Trace::expand`
pub widens_expanded : {x y : Strings} {entries : List Assigned} (regex : ℕ) (put : Expand) (before after : Spending)
    (old new : Option (List ℕ)) → x.proves ≡ true → Stands x entries → RegexesGrow x.store y.store
    → y ≡ record x { store = y.store; trace = y.trace } → IsOfMembership x.store.arena x.atoms regex
    → AreNumbered x.trace y.trace → Spends put before after
    → ((n : ℕ) → is_expanded_in y.trace n ≡ (is_put put regex n || is_expanded_in x.trace n))
    → ((n : ℕ) → IsExpandedIn x.trace n → IsExpandedIn y.trace n)
    → ((asked : Asked) (all : AllKept) → Tracks x.store.arena x.store.graph.memo x.trace all
    → IsCounted asked all before
    → Traces asked all y.store.arena y.store.graph.memo y.trace after old new)
    → Widens x y entries before after old new
widens_expanded {x} {y} regex put before after old new on stands g is relevant numbered spends only stay traces =
    let h = stands.holds in
    let wanted = ap (λ (z : Strings). z.wanted) is in
    let keys = ap (λ (z : Strings). z.expanded.keys) is in
    let atoms = ap (λ (z : Strings). z.atoms) is in
    let e : TableExtends x.atoms y.atoms = subst (TableExtends x.atoms) (sym atoms) (extends_none x.atoms) in
    let bases = bases_grow x y wanted e (wanted_known h)
    (λ n among. subst (λ (ns : List ℕ). Contains ns n) (sym keys) among) numbered.once_before stay in
    let grows : Grows x y = grows_store h g (ap frame_of is) atoms in
    let below = subst (HaveRegexesBelow (length y.store.arena)) (sym atoms)
    (regexes_kept x.store.arena y.store.arena x.atoms g.more.extends h.regexes) in
    let holds : Holds y = holds_grown g grows.table below wanted (ap (λ (z : Strings). z.noted) is)
    (ap (λ (z : Strings). z.joined.items) is) bases (ap rows_of is) h in
    record {
      sofar = record {
        stands = stands_looked holds (ap (λ (z : Strings). z.taken.items) is) stands;
        quiet = quiet_expanded x y regex put before after h g wanted keys e numbered spends only;
        writes = λ kept.
            writes_expanded regex put kept before after old new on (ap (λ (z : Strings). z.proves) is) atoms g relevant
            only traces;
      };
      grows = grows;
      rows = ap rows_of is;
      noted = ap (λ (z : Strings). z.noted) is;
      bases = bases;
    }
