-- What stays where the table of atoms and the arena grow.
use Rattle.sb_theory.proofs.Words.{[], if◌then◌else◌, ◌&&◌, ◌++◌, ◌<◌, ◌∙◌, ◌∷◌, ◌≡◌, ◌≤◌, Bool, List, None, Option, Some, ap, ap₂, arith, cond, false, filter, get_or, length, list_all, nat_lt, not, option_and_then, refl, slice_get, subst, suc, sym, take, true, zero, ℕ, All-take, AllPass-from_list_all, AreAbout, AreRows, Asked, Assigned, Atom, AtomOver, Contains, Extends, HaveRegexesBelow, Holds, IsAbout, IsTaught, Lit, Names, Piece, Regex, RegexesGrow, Serial, Sort, Strings, TableExtends, TableGrows, and_parts, are_atoms, are_declared, at_kept, atoms_in, atoms_kept, bases_of, bool_atom, clause_holds, constant_of, constant_piece, filter_passes, fits_pieces, fits_subject, flat_map, get_or_from_slice_get, held, in_atom, is_about, is_atom, is_joined, is_joined_atom, is_of_wanted, is_sorted, is_subject, is_true_by, is_true_of, is_wanted, joined_word, language, list_all-from_AllPass, list_any, literals_about, number_at, row_at, slice_get_within, subject_of, wanted_on, word_at, word_piece}
use Rattle.std.proofs.lemmas.Bool.{ltb-true}
use Rattle.std.proofs.lemmas.Bool.Decides.{nat_tests}
use Rattle.std.proofs.lemmas.List.{get_or_append_left}
use Rattle.std.proofs.lemmas.Option.{slice_get-get_or}
use Rattle.sb_meaning.specs.Terms.{text}
use Rattle.sb_meaning.specs.Values.{Valuation}
use Rattle.sb_rulebook.specs.AtomRules.{are_known, has_its_parts, is_declared, is_declared_piece}
use Rattle.sb_rulebook.specs.Atoms.{and_atom, iff_atom, is_well_formed, le_atom, literal_holds, piece_constants, sum_atom, truths_of}
use Rattle.sb_sound.proofs.CallerLemmas.{any_holds-front, length-truths_of, truths_from-append, truths_from-front}
use Rattle.sb_atoms.proofs.CallerLemmas.{atoms_more, named_before}
use Rattle.sb_split.proofs.CallerLemmas.{due_added}
use Rattle.sb_split.specs.Added.{Adds, declares_at}
use Rattle.sb_split.specs.Defining.{AreDue}
pub use Rattle.sb_theory.specs.Growth.{about_more, all_atoms_more, atom_more, denial_more, extends_both, extends_none, have_atoms_more, of_denial_more, of_membership_more, relevant_both, relevant_none, table_both, table_none}
use Rattle.sb_theory.specs.Growth.{regex_more}
use Rattle.sb_theory.specs.Laws.{are_known_in}
use Rattle.sb_theory.specs.Tables.{is_declared_constant}
use Rattle.sb_theory.specs.Walks.{Rows, rows_of}
use Rattle.sb_theory.proofs.Rows.{row_about, subject_names, wanted_passes}
use Rattle.sb_theory.proofs.Wishes.{left_grown, tails_same}

-- Lists.

get_more : {X : Type 0} (xs more : List X) (i : ℕ) → i < length xs → slice_get (xs ++ more) i ≡ slice_get xs i
get_more [] more i low = absurd (omega (arith, low))
get_more (x ∷ xs) more zero low = refl
get_more (x ∷ xs) more (suc i) low = get_more xs more i (omega (arith, low))

-- An atom that was there has its number.

pub slice_same : {ts us : List (AtomOver ℕ)} (i : ℕ) → TableExtends ts us → is_atom ts i ≡ true
    → slice_get us i ≡ slice_get ts i
slice_same {ts} i e h =
    ap (λ (all : List (AtomOver ℕ)). slice_get all i) e.is ∙ get_more ts e.more i (ltb-true i (length ts) h)

pub get_same : {ts us : List (AtomOver ℕ)} (i : ℕ) (d : AtomOver ℕ) → TableExtends ts us → is_atom ts i ≡ true
    → get_or us i d ≡ get_or ts i d
get_same {ts} i d e h =
    ap (λ (all : List (AtomOver ℕ)). get_or all i d) e.is
    ∙ get_or_append_left ts e.more d i (ltb-true i (length ts) h)

pub subject_same : {ts us : List (AtomOver ℕ)} (l : Lit) → TableExtends ts us → is_atom ts l.atom ≡ true
    → subject_of us l ≡ subject_of ts l
subject_same l e h = ap (option_and_then constant_of) (slice_same l.atom e h)

pub joined_same : {ts us : List (AtomOver ℕ)} (i : ℕ) → TableExtends ts us → is_atom ts i ≡ true
    → is_joined us i ≡ is_joined ts i
joined_same i e h =
    ap (λ (o : Option (AtomOver ℕ)). elim o as (λ _. Bool) [ None ↦ false | Some a ↦ is_joined_atom a ])
    (slice_same i e h)

-- those of several pieces, or of none, are the same ones
pub all_joined_same : {ts us : List (AtomOver ℕ)} (is : List ℕ) → TableExtends ts us → list_all (is_atom ts) is ≡ true
    → filter (is_joined us) is ≡ filter (is_joined ts) is
all_joined_same [] e h = refl
all_joined_same {ts} (i ∷ is) e h =
    let p = and_parts (is_atom ts i) (list_all (is_atom ts) is) h in
    ap₂ (λ (b : Bool) (rest : List ℕ). cond b (i ∷ rest) rest) (joined_same i e p.0) (all_joined_same is e p.1)

pub about_same : {ts us : List (AtomOver ℕ)} (x : ℕ) (l : Lit) → TableExtends ts us → is_atom ts l.atom ≡ true
    → is_about us x l ≡ is_about ts x l
about_same x l e h = ap (is_subject x) (subject_same l e h)

pub literals_same : {ts us : List (AtomOver ℕ)} (x : ℕ) (ls : List Lit) → TableExtends ts us → are_atoms ts ls ≡ true
    → literals_about us x ls ≡ literals_about ts x ls
literals_same x [] e h = refl
literals_same {ts} x (l ∷ ls) e h =
    let p = and_parts (is_atom ts l.atom) (are_atoms ts ls) h in
    ap₂ (λ (b : Bool) (rest : List Lit). cond b (l ∷ rest) rest) (about_same x l e p.0) (literals_same x ls e p.1)

-- A literal of one constant is true of the same words,
pub true_of_same : {rs ss : List Regex} {ts us : List (AtomOver ℕ)} (w : List ℕ) (x : ℕ) (l : Lit) → Extends rs ss
    → TableExtends ts us → HaveRegexesBelow (length rs) ts → IsAbout ts x l
    → is_true_of ss us w l ≡ is_true_of rs ts w l
true_of_same {rs} {ss} {ts} {us} w x l r e below h =
    ap (λ (s : Regex). if l.positive then language s w else not (language s w)) (regex_more rs ss ts us x l r e below h)

all_true_same : {rs ss : List Regex} {ts us : List (AtomOver ℕ)} (w : List ℕ) (x : ℕ) (ls : List Lit) → Extends rs ss
    → TableExtends ts us → HaveRegexesBelow (length rs) ts → AreAbout ts x ls
    → list_all (is_true_of ss us w) ls ≡ list_all (is_true_of rs ts w) ls
all_true_same w x [] r e below about = refl
all_true_same w x (l ∷ ls) r e below about =
    ap₂ (λ (a b : Bool). a && b) (true_of_same w x l r e below (about 0 l (omega arith)))
    (all_true_same w x ls r e below (λ k d m. about (suc k) d (omega (arith, m))))

fits_same : {rs ss : List Regex} (ts : List (AtomOver ℕ)) (words : List (Option (List ℕ))) (positive : Bool) (i : ℕ)
    (o : Option (AtomOver ℕ)) → Extends rs ss → HaveRegexesBelow (length rs) ts → slice_get ts i ≡ o
    → fits_pieces ss words positive o ≡ fits_pieces rs words positive o
fits_same ts words positive i None r below is = refl
fits_same {rs} {ss} ts words positive i (Some (in_atom ps n)) r below is =
    ap (λ (s : Regex). if positive then language s (joined_word words ps) else not (language s (joined_word words ps)))
    (at_kept rs ss n r (below i (in_atom ps n) is))
fits_same ts words positive i (Some (bool_atom serial)) r below is = refl
fits_same ts words positive i (Some (le_atom x k)) r below is = refl
fits_same ts words positive i (Some (sum_atom k ss)) r below is = refl
fits_same ts words positive i (Some (and_atom ls)) r below is = refl
fits_same ts words positive i (Some (iff_atom l m)) r below is = refl

-- and so is that of any atom that was there.
pub true_by_same : {rs ss : List Regex} {ts us : List (AtomOver ℕ)} (words : List (Option (List ℕ))) (l : Lit)
    → Extends rs ss → TableExtends ts us → HaveRegexesBelow (length rs) ts → is_atom ts l.atom ≡ true
    → is_true_by ss us words l ≡ is_true_by rs ts words l
true_by_same {rs} {ss} {ts} {us} words l r e below h =
    ap (fits_subject ss us words l) (subject_same l e h) ∙ step (subject_of ts l) refl
  where
    step : (o : Option ℕ) → subject_of ts l ≡ o → fits_subject ss us words l o ≡ fits_subject rs ts words l o
    step None is =
        ap (fits_pieces ss words l.positive) (slice_same l.atom e h)
        ∙ fits_same ts words l.positive l.atom (slice_get ts l.atom) r below refl
    step (Some x) is = true_of_same (word_at words x) x l r e below (subject_names ts l x is)

-- Wanted and noted atoms were there.

pub wanted_atom : (ts : List (AtomOver ℕ)) (noted : List ℕ) (a : ℕ) → list_all (is_atom ts) noted ≡ true
    → is_wanted noted a ≡ true → is_atom ts a ≡ true
wanted_atom ts noted a h wanted = wanted_passes (is_atom ts) noted a h wanted

pub wanted_atoms : (ts : List (AtomOver ℕ)) (noted : List ℕ) (entries : List Assigned)
    → list_all (is_atom ts) noted ≡ true → are_atoms ts (wanted_on noted entries) ≡ true
wanted_atoms ts noted entries h =
    list_all-from_AllPass (λ (l : Lit). is_atom ts l.atom) (wanted_on noted entries) (λ k d within.
    wanted_atom ts noted (get_or (wanted_on noted entries) k d).atom h
    (filter_passes (is_of_wanted noted) (held entries) k d within))

-- the atom of each wanted number is there
pub wanted_known : {x : Strings} → Holds x → list_all (is_atom x.atoms) x.wanted ≡ true
wanted_known {x} h =
    list_all-from_AllPass (is_atom x.atoms) x.wanted (λ k d within.
    wanted_atom x.atoms x.noted (get_or x.wanted k d) h.noted
    (AllPass-from_list_all (is_wanted x.noted) x.wanted h.among k d within))

pub all_numbers_more : {ts us : List (AtomOver ℕ)} (is : List ℕ) → TableExtends ts us → list_all (is_atom ts) is ≡ true
    → list_all (is_atom us) is ≡ true
all_numbers_more {ts} {us} is e h =
    list_all-from_AllPass (is_atom us) is (λ k d within.
    atom_more ts us (get_or is k d) e (AllPass-from_list_all (is_atom ts) is h k d within))

-- Rows, and what holds.

pub rows_over : {rs ss : List Regex} {ts us : List (AtomOver ℕ)} {words : List (Option (List ℕ))}
    {rows : List (List Lit)} {fitting : List ℕ} {changed : List Serial} (noted : List ℕ) (entries : List Assigned)
    → Extends rs ss → TableExtends ts us → HaveRegexesBelow (length rs) ts → list_all (is_atom ts) noted ≡ true
    → AreRows rs ts words rows fitting changed (wanted_on noted entries)
    → AreRows ss us words rows fitting changed (wanted_on noted entries)
rows_over {ts = ts} {words = words} {rows = rows} {fitting = fitting} noted entries r e below known h = record {
  members = λ x. h.members x ∙ sym (literals_same x (wanted_on noted entries) e (wanted_atoms ts noted entries known));
  fit = record {
    front = λ x. all_true_same (word_at words x) x (take (number_at fitting x) (row_at rows x)) r e below
        (All-take (IsAbout ts x) (number_at fitting x) (row_at rows x)
        (row_about ts x rows (wanted_on noted entries) h.members))
        ∙ h.fit.front x;
    whole = h.fit.whole;
  };
}

-- the atoms in front are the same over the larger table and arena
pub table_over : {rs ss : List Regex} {ts us : List (AtomOver ℕ)} → Extends rs ss → (e : TableExtends ts us)
    → HaveRegexesBelow (length rs) ts → atoms_in ss us ≡ atoms_in rs ts ++ atoms_in ss e.more
table_over {rs} {ss} {ts} r e below =
    ap (atoms_in ss) e.is ∙ atoms_more ss ts e.more
    ∙ ap (λ (front : List Atom). front ++ atoms_in ss e.more) (atoms_kept rs ss ts r below)

pub holds_grown : {x y : Strings} → RegexesGrow x.store y.store → TableGrows x.atoms y.atoms
    → HaveRegexesBelow (length y.store.arena) y.atoms → y.wanted ≡ x.wanted → y.noted ≡ x.noted
    → y.joined.items ≡ x.joined.items → ((n : ℕ) → Contains (bases_of x) n → Contains (bases_of y) n)
    → rows_of y ≡ rows_of x → Holds x → Holds y
holds_grown {x} {y} g table below wanted noted joined bases rows h =
    let known = wanted_known h in
    record {
      store = g.right h.store;
      regexes = below;
      formed = table.formed h.formed;
      noted = ap (list_all (is_atom y.atoms)) noted ∙ all_numbers_more x.noted table.extends h.noted;
      among = ap₂ (λ (ns ws : List ℕ). list_all (is_wanted ns) ws) noted wanted ∙ h.among;
      rows = subst (λ (ns : List ℕ). AreRows y.store.arena y.atoms y.words.items y.members.items y.fitting.items
          y.changed (wanted_on ns y.taken.items)) (sym noted)
          (subst (λ (s : Rows). AreRows y.store.arena y.atoms s.words s.rows s.fitting s.changed
          (wanted_on x.noted s.entries)) (sym rows)
          (rows_over x.noted x.taken.items g.more.extends table.extends h.regexes h.noted h.rows));
      joined = joined ∙ h.joined ∙ sym (all_joined_same x.wanted table.extends known)
          ∙ ap (filter (is_joined y.atoms)) (sym wanted);
      left = λ a one whole.
          let was = ap (λ (ns : List ℕ). is_wanted ns a) (sym noted) ∙ one in
          left_grown x y a (tails_same x y wanted table.extends known) bases g.more.extends table.extends h.regexes
          (h.left a was (sym (joined_same a table.extends (wanted_atom x.atoms x.noted a h.noted was)) ∙ whole));
    }

-- What was taught is taught.

clause_more : (v : Valuation) (atoms more : List Atom) (clause : List Lit) → are_known atoms clause ≡ true
    → clause_holds v (atoms ++ more) clause ≡ clause_holds v atoms clause
clause_more v atoms more clause known =
    let front = truths_from-front v (truths_of v atoms) more in
    ap (λ (truths : List Bool). list_any (literal_holds truths) clause) (truths_from-append v [] atoms more ∙ front.1)
    ∙ any_holds-front (truths_of v atoms) front.0 clause
    (ap (λ (n : ℕ). list_all (λ (l : Lit). nat_lt l.atom n) clause) (length-truths_of v atoms) ∙ known)

-- the truth of a clause of atoms that were there
pub clause_same : {rs ss : List Regex} {ts us : List (AtomOver ℕ)} (v : Valuation) (clause : List Lit) → Extends rs ss
    → TableExtends ts us → HaveRegexesBelow (length rs) ts → are_atoms ts clause ≡ true
    → clause_holds v (atoms_in ss us) clause ≡ clause_holds v (atoms_in rs ts) clause
clause_same {rs} {ss} {ts} v clause r e below h =
    ap (λ (table : List Atom). clause_holds v table clause) (table_over r e below)
    ∙ clause_more v (atoms_in rs ts) (atoms_in ss e.more) clause (are_known_in rs ts (atoms_in rs ts) clause refl h)

pub taught_more : {rs ss : List Regex} {ts us : List (AtomOver ℕ)} (clause : List Lit) → Extends rs ss
    → TableExtends ts us → HaveRegexesBelow (length rs) ts → IsTaught rs ts clause → IsTaught ss us clause
taught_more {ts = ts} {us = us} clause r e below h = (
  all_atoms_more ts us clause e h.0,
  λ v words. clause_same v clause r e below h.0 ∙ h.1 v words,
)

-- A table that gained the atoms of a step.

-- the constants of a membership are declared where its pieces are
sorted_parts : (sorts : List Sort) (ps : List Piece)
    → list_all (is_declared_constant sorts) (flat_map piece_constants ps) ≡ list_all (is_declared_piece sorts) ps
sorted_parts sorts [] = refl
sorted_parts sorts (constant_piece x ∷ ps) = ap (λ b. is_declared sorts text x && b) (sorted_parts sorts ps)
sorted_parts sorts (word_piece w ∷ ps) = sorted_parts sorts ps

declares_given : (ts : List (AtomOver ℕ)) (at : ℕ) (ps : List Piece) (r : ℕ) (sorts : List Sort)
    → Names ts at (in_atom ps r) → are_declared sorts ts ≡ true → declares_at ts at sorts ≡ true
declares_given ts at ps r sorts names h =
    let is = get_or_from_slice_get ts at (in_atom ps r) (bool_atom 0) names in
    let one : is_sorted sorts (get_or ts at (bool_atom 0)) ≡ true =
    AllPass-from_list_all (is_sorted sorts) ts h at (bool_atom 0) (slice_get_within ts at (in_atom ps r) names) in
    ap (has_its_parts sorts []) is ∙ sym (sorted_parts sorts ps) ∙ ap (is_sorted sorts) (sym is) ∙ one

-- which are of the constants of its membership
pub table_defined : {rs ss : List Regex} {ts us : List (AtomOver ℕ)} (at : ℕ) (ps : List Piece) (r : ℕ)
    → Names ts at (in_atom ps r) → Adds (declares_at ts at) rs ss ts us → TableGrows ts us
table_defined {ts = ts} {us = us} at ps r names adds = record {
  extends = adds.atoms;
  members = adds.members;
  formed = λ h i a there. formed h i a there (nat_lt i (length ts)) refl;
  declared = λ sorts h. list_all-from_AllPass (is_sorted sorts) us (λ k d within.
      sorted sorts h k d within (nat_lt k (length ts)) refl);
}
  where
    formed : ((i : ℕ) (a : AtomOver ℕ) → Names ts i a → is_well_formed a ≡ true) → (i : ℕ) (a : AtomOver ℕ)
        → Names us i a → (b : Bool) → nat_lt i (length ts) ≡ b → is_well_formed a ≡ true
    formed h i a there true is =
        h i a
        (named_before ts adds.atoms.more i a (ltb-true i (length ts) is)
        (subst (λ (all : List (AtomOver ℕ)). Names all i a) adds.atoms.is there))
    formed h i a there false is = (adds.defined i a (grind (arith, nat_tests)) there).0

    sorted : (sorts : List Sort) → are_declared sorts ts ≡ true → (k : ℕ) (d : AtomOver ℕ) → k < length us
        → (b : Bool) → nat_lt k (length ts) ≡ b → is_sorted sorts (get_or us k d) ≡ true
    sorted sorts h k d within true is =
        ap (is_sorted sorts) (get_same k d adds.atoms is)
        ∙ AllPass-from_list_all (is_sorted sorts) ts h k d (ltb-true k (length ts) is)
    sorted sorts h k d within false is =
        let low : length ts ≤ k = grind (arith, nat_tests) in
        let there = slice_get-get_or us k d within in
        let member = adds.members k (get_or us k d) low there in
        let parts = (adds.defined k (get_or us k d) low there).1 sorts [] (declares_given ts at ps r sorts names h) in
        ap (is_sorted sorts) member.is ∙ sorted_parts sorts member.pieces
        ∙ sym (ap (has_its_parts sorts []) member.is) ∙ parts

-- and the lines of which are due
pub due_defined : {rs ss : List Regex} {ts us : List (AtomOver ℕ)} (asked : Asked) (at : ℕ) (ps : List Piece)
    (r known : ℕ) → Names ts at (in_atom ps r) → known ≡ length ts → are_declared asked.sorts ts ≡ true
    → Adds (declares_at ts at) rs ss ts us → AreDue asked known us
due_defined {rs} {ss} {ts} {us} asked at ps r known names is declared adds =
    due_added asked (declares_at ts at) rs ss ts us known is (declares_given ts at ps r asked.sorts names declared) adds
