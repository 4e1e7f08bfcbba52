-- What is found of terms, over an arena and a table of atoms that grow.
use Rattle.std.proofs.Common.{◌≡◌, ℕ, suc, ◌+◌, ◌<◌, ◌≤◌, Bool, true, false, ◌&&◌, if◌then◌else◌, List, [], ◌∷◌, ◌++◌, length, map, take, get_or, Option, Some, None, IfSome, option_map, option_and_then, refl, sym, ap, ◌∙◌, arith}
use Rattle.std.specs.List.{list_all}
use Rattle.std.proofs.lemmas.Bool.{and_parts, and_from}
use Rattle.std.proofs.lemmas.Bool.Decides.{nat_tests}
use Rattle.std.proofs.lemmas.List.{take_all}
use Rattle.std.proofs.lemmas.Option.{slice_get_within, same_Some}
use Rattle.sb_facts.proofs.CallerLemmas.{some_then, some-none}
use Rattle.sb_lang.specs.Regex.{Regex}
use Rattle.sb_lang.specs.Normal.{normal}
use Rattle.sb_lit.specs.declared.clause.Lit.{Lit}
use Rattle.sb_meaning.specs.Terms.{Sort, boolean, text, Term, Terms, constant, word, numeral, apply, parameter, no_terms, with_term, terms_in}
use Rattle.sb_meaning.specs.Terms as symbol
use Rattle.sb_meaning.specs.Truth.{meaning_of}
use Rattle.sb_regex.specs.Numbered.{regex_at}
use Rattle.sb_regex.specs.Numbered as regex
use Rattle.sb_regex.proofs.CallerLemmas.{names_at, names_below, long_kept}
use Rattle.sb_script.specs.Brought.{asked, is_regex, is_structure}
use Rattle.sb_script.specs.Pieces.{Piece, constant_piece}
use Rattle.sb_script.specs.Sizes.{is_regular}
use Rattle.sb_script.proofs.CallerLemmas.{IsAsking, a_membership, a_word_behind, a_word_in_front, asked_looks}
use Rattle.sb_rulebook.specs.Atoms.{Atom, AtomOver, bool_atom, in_atom, are_pieces}
use Rattle.sb_rulebook.specs.AtomRules.{is_declared}
use Rattle.sb_rulebook.specs.Parts.{together, regex_meant, regex_of}
use Rattle.sb_rulebook.specs.Translation.{translation, membership, positive, negated, word_equality}
use Rattle.sb_rulebook.proofs.CallerLemmas.{Stays, asked_translation, negated_stays, term_stays, word_equality_stays}
use Rattle.sb_problem.specs.Normals.{IsRegexOf}
use Rattle.sb_problem.specs.Known.{AreNormals}
use Rattle.sb_problem.specs.declared.normals.Known.{Known}
use Rattle.sb_fragment.specs.declared.measure.Measure.{Measure}
use Rattle.sb_fragment.specs.Measures.{AreMeasures}
use Rattle.sb_atoms.specs.Numbered.{Names, over, atoms_in, HasRegexBelow, HaveRegexesBelow}
use Rattle.sb_atoms.specs.Translated.{brought_translation, has_declared, have_declared}
use Rattle.sb_fragment.specs.Compared.{compared}
use Rattle.sb_atoms.specs.Connecting.{signed, with_sign}
use Rattle.sb_atoms.specs.Growing.{are_declared_pieces, is_below, are_below, Grown, GrownByGates, GrownByOne, Gives, GivesLike, IsLiteralOf, Finds, AreReady, Moves}
use Rattle.sb_fragment.specs.Memberships.{in_re}
use Rattle.sb_fragment.specs.Shapes.{parts_of}
use Rattle.sb_atoms.specs.Shapes.{IsAtomOf, have_declared_pairs, member_literal}
use Rattle.sb_atoms.proofs.CallerLemmas.{atoms_more}
pub use Rattle.sb_fragment.proofs.CallerLemmas.{all_at}
use Rattle.sb_fragment.proofs.CallerLemmas.{compared_all}
use Rattle.sb_atoms.proofs.Growth.{grown_one, grown_longer, moves_both, moves_given, moves_none, moved, grown_regexes}
use Rattle.sb_atoms.proofs.Connected.{all_push, all_stop, all_stay, all_below_more, below_push}
use Rattle.sb_atoms.proofs.Structured.{signed_none}
use Rattle.sb_atoms.proofs.TextFacts.{membership_some}
use Rattle.sb_atoms.proofs.Translating.{apart_in, apart_bool}

pub named_below : (new : List (AtomOver ℕ)) (l : Lit) (a : AtomOver ℕ) → Names new l.atom a
    → is_below (length new) l ≡ true
named_below new l a h = let within = slice_get_within new l.atom a h in grind (arith, nat_tests)

-- What is found.

pub finds_other : {A : Type 0} {known : ℕ → A → Bool} (adds : Bool) (rs : List Regex) (new : List (AtomOver ℕ))
    (make other : List Atom → Option A) (found : Option A) → ((atoms : List Atom) → make atoms ≡ other atoms)
    → Finds known adds rs new make found → Finds known adds rs new other found
finds_other adds rs new make other found same h = record {
  is = h.is ∙ same (atoms_in rs new);
  none = λ on e atoms. sym (same atoms) ∙ h.none on e atoms;
  below = h.below;
}

pub finds_none : {A : Type 0} {known : ℕ → A → Bool} (adds : Bool) (rs : List Regex) (new : List (AtomOver ℕ))
    (make : List Atom → Option A) → ((atoms : List Atom) → make atoms ≡ None) → Finds known adds rs new make None
finds_none adds rs new make none = record {
  is = sym (none (atoms_in rs new));
  none = λ on e. none;
  below = λ x e. absurd (some-none x (sym e));
}

pub finds_given : {A : Type 0} {known : ℕ → A → Bool} (adds : Bool) (rs : List Regex) (new : List (AtomOver ℕ))
    (make : List Atom → Option A) (found : Option A) → Gives known adds new make found
    → Finds known adds rs new make found
finds_given adds rs new make found g =
    record { is = g.is rs; none = λ on e. absurd (g.sure on e); below = g.below }

pub finds_signed : (distinct adds : Bool) (rs : List Regex) (new : List (AtomOver ℕ))
    (make : List Atom → Option Lit) (found : Option Lit) → Finds is_below adds rs new make found
    → Finds is_below adds rs new (λ atoms. signed distinct (make atoms)) (signed distinct found)
finds_signed distinct adds rs new make found h = record {
  is = ap (signed distinct) h.is;
  none = λ on e atoms. ap (signed distinct) (h.none on (was_none distinct found e) atoms) ∙ signed_none distinct;
  below = λ l e. was_below distinct found l e h.below;
}
  where
    was_none : (d : Bool) (o : Option Lit) → signed d o ≡ None → o ≡ None
    was_none true None e = refl
    was_none false None e = refl
    was_none true (Some l) e = absurd (cc)
    was_none false (Some l) e = absurd (cc)

    was_below : (d : Bool) (o : Option Lit) (l : Lit) → signed d o ≡ Some l
        → ((k : Lit) → o ≡ Some k → is_below (length new) k ≡ true) → is_below (length new) l ≡ true
    was_below true None l e below = absurd (cc)
    was_below false None l e below = absurd (cc)
    was_below true (Some k) l e below = ap (is_below (length new)) (sym (same_Some _ l e)) ∙ below k refl
    was_below false (Some k) l e below = ap (is_below (length new)) (sym (same_Some k l e)) ∙ below k refl

pub signed_is : (distinct : Bool) (found : Option Lit) (l : Lit) → found ≡ Some l
    → signed distinct found ≡ Some (with_sign distinct l)
signed_is true found l e = ap negated e
signed_is false found l e = e

pub signed_nothing : (distinct : Bool) (found : Option Lit) → found ≡ None → signed distinct found ≡ None
signed_nothing distinct found e = ap (signed distinct) e ∙ signed_none distinct

-- What is in a regular expression.

member_is : (rs : List Regex) (ps : List Piece) (R : Term) (id : ℕ) → is_regular R ≡ true → IsRegexOf rs R id
    → (atoms : List Atom) → member_literal atoms ps R ≡ positive atoms (in_atom ps (regex_at rs id))
member_is rs ps R id within r atoms = ap (option_and_then (λ s. positive atoms (in_atom ps s))) regex
  where
    regex : regex_of R ≡ Some (regex_at rs id)
    regex = ap (λ (m : Bool). if m then regex_meant (meaning_of [] R) else None) within
        ∙ ap regex_meant (r.means [])
        ∙ ap Some (sym (names_at rs id (normal r.reglan) r.names))

its_regex : (rs : List Regex) (ps : List Piece) (R : Term) (a : AtomOver ℕ) → IsAtomOf rs ps R (Some a)
    → HasRegexBelow (length rs) a
its_regex rs ps R a of = rw of.1 (names_below rs of.0 _ of.3.names)

pub member_finds : (adds : Bool) (rs : List Regex) (new : List (AtomOver ℕ)) (ps : List Piece) (R : Term)
    (a : AtomOver ℕ) (found : Option Lit) → IsAtomOf rs ps R (Some a) → regex.AreDistinct rs
    → HaveRegexesBelow (length rs) new → IsLiteralOf adds new a found
    → Finds is_below adds rs new (λ atoms. member_literal atoms ps R) found
member_finds adds rs new ps R a found of once below h = record {
  is = h.is rs (apart_in rs new a once below (its_regex rs ps R a of))
      ∙ ap (λ b. positive (atoms_in rs new) (over rs b)) of.1
      ∙ sym (member_is rs ps R of.0 of.2 of.3 (atoms_in rs new));
  none = λ on e. absurd (h.sure on e);
  below = λ l e. named_below new l a (h.names l e).0;
}

-- past the limits on sizes there is none
pub member_past : (adds : Bool) (rs : List Regex) (new : List (AtomOver ℕ)) (ps : List Piece) (R : Term)
    → is_regular R ≡ false → Finds is_below adds rs new (λ atoms. member_literal atoms ps R) None
member_past adds rs new ps R past =
    finds_none adds rs new (λ atoms. member_literal atoms ps R)
    (λ atoms. ap (λ (m : Bool). option_and_then (λ r. positive atoms (in_atom ps r))
    (if m then regex_meant (meaning_of [] R) else None)) past)

pub member_moves : (adds : Bool) (rs more : List Regex) (old new : List (AtomOver ℕ)) (ps : List Piece) (R : Term)
    (a : AtomOver ℕ) → regex.Extends rs more → IsAtomOf more ps R (Some a) → are_pieces ps ≡ true
    → GrownByOne adds old new a → Moves adds (λ sorts. are_declared_pieces sorts ps) rs more old new
member_moves adds rs more old new ps R a e of formed g = record {
  arena = e;
  atoms = grown_one adds (length more) (λ sorts. are_declared_pieces sorts ps) old new a g (its_regex more ps R a of)
      (rw of.1 formed) (λ rs. rw of.1 refl) (λ sorts is before l. rw of.1 is);
}

pub ready_moved : {adds : Bool} {given : List Sort → Bool} (ts : List Term) (ms : List Measure) (ks : List Known)
    (rs more : List Regex) (old new : List (AtomOver ℕ)) → AreMeasures ts ms → AreNormals ts more ks
    → HaveRegexesBelow (length rs) old → Moves adds given rs more old new → AreReady ts ms ks more new
ready_moved ts ms ks rs more old new right normals below m = record {
  right = right;
  normals = normals;
  regexes = grown_regexes (length rs) (length more) old new (long_kept rs more m.arena) below m.atoms;
}

-- What is asked of terms.

declared_serial : (sorts : List Sort) (t : Term) (serial : ℕ) (R : Term) → asked t ≡ Some (serial, R)
    → has_declared sorts t ≡ true → is_declared sorts text serial ≡ true
declared_serial sorts t serial R h d = step (asked_looks t serial R h)
  where
    step : IsAsking serial t R → is_declared sorts text serial ≡ true
    step (a_membership is) =
        (and_parts (is_declared sorts text serial) (has_declared sorts R && true)
        (ap (has_declared sorts) (sym is) ∙ d)).0
    step (a_word_behind w is S) =
        (and_parts (is_declared sorts text serial) true (ap (has_declared sorts) (sym is) ∙ d)).0
    step (a_word_in_front w is S) =
        (and_parts (is_declared sorts text serial) true (ap (has_declared sorts) (sym is) ∙ d)).0

-- of one constant's word
pub declared_asked : (sorts : List Sort) (t : Term) (serial : ℕ) (R : Term) → asked t ≡ Some (serial, R)
    → has_declared sorts t ≡ true → are_declared_pieces sorts (constant_piece serial ∷ []) ≡ true
declared_asked sorts t serial R h d =
    and_from (is_declared sorts text serial) true (declared_serial sorts t serial R h d) refl

declared_each : (sorts : List Sort) (us : Terms) → have_declared sorts us ≡ true
    → list_all (has_declared sorts) (terms_in us) ≡ true
declared_each sorts no_terms h = refl
declared_each sorts (with_term u us) h =
    let p = and_parts (has_declared sorts u) (have_declared sorts us) h in
    and_from (has_declared sorts u) (list_all (has_declared sorts) (terms_in us)) p.0 (declared_each sorts us p.1)

pub declared_parts : (sorts : List Sort) (t : Term) → has_declared sorts t ≡ true
    → list_all (has_declared sorts) (parts_of t) ≡ true
declared_parts sorts (constant serial sort) h = refl
declared_parts sorts (word w) h = refl
declared_parts sorts (numeral n) h = refl
declared_parts sorts (apply s terms) h = declared_each sorts terms h
declared_parts sorts (parameter place sort) h = refl

pub declared_compared : (sorts : List Sort) (distinct : Bool) (t : Term) → has_declared sorts t ≡ true
    → have_declared_pairs sorts (compared distinct (parts_of t)) ≡ true
declared_compared sorts distinct t h =
    compared_all (has_declared sorts) distinct (parts_of t) (declared_parts sorts t h)

-- of a membership, by its String term
pub declared_text : (sorts : List Sort) (t u R : Term) → t ≡ in_re u R → has_declared sorts t ≡ true
    → has_declared sorts u ≡ true
declared_text sorts t u R is h =
    (and_parts (has_declared sorts u) (has_declared sorts R && true)
    (declared_parts sorts (in_re u R) (ap (has_declared sorts) (sym is) ∙ h))).0

-- A membership, by what it is asked of.

pub asked_member : (t : Term) (serial : ℕ) (R : Term) → asked t ≡ Some (serial, R) → (atoms : List Atom)
    → member_literal atoms (constant_piece serial ∷ []) R ≡ translation atoms t
asked_member t serial R h atoms =
    membership_some (constant serial text) (constant_piece serial ∷ []) R refl atoms
    ∙ sym (asked_translation t serial R h atoms)

pub text_member : (t u R : Term) → t ≡ in_re u R → (atoms : List Atom)
    → membership atoms u (regex_of R) ≡ translation atoms t
text_member t u R is atoms = sym (ap (translation atoms) is)

pub text_regex_of : (t u R : Term) → t ≡ in_re u R → is_structure t ≡ true → is_regex R ≡ true
text_regex_of t u R is h = ap is_structure (sym is) ∙ h

-- What is found of a list, one by one.

pub record Collected {X : Type 0} (f : List Atom → X → Option Lit) (adds : Bool) (given : List Sort → Bool)
    (rs more : List Regex) (old new : List (AtomOver ℕ)) (xs : List X) (ls : List Lit) : Type 0
  where
    pub is : Some ls ≡ together (map (f (atoms_in more new)) xs)
    pub below : are_below (length new) ls ≡ true
    pub moves : Moves adds given rs more old new

pub collected_start : {X : Type 0} (f : List Atom → X → Option Lit) (adds : Bool) (given : List Sort → Bool)
    (rs : List Regex) (old : List (AtomOver ℕ)) (ls : List Lit) → ls ≡ [] → Collected f adds given rs rs old old [] ls
collected_start f adds given rs old ls e =
    rw e (record { is = refl; below = refl; moves = moves_none adds given rs old })

pub collected_step : {X : Type 0} (f : List Atom → X → Option Lit) → ((x : X) → Stays (λ atoms. f atoms x))
    → (adds : Bool) (given own : List Sort → Bool) (rs ss us : List Regex) (old mid new : List (AtomOver ℕ))
    (xs : List X) (i : ℕ) (x : X) (ls all : List Lit) (l : Lit) (found : Option Lit)
    → Collected f adds given rs ss old mid (take i xs) ls → i < length xs → x ≡ get_or xs i x
    → HaveRegexesBelow (length ss) mid → found ≡ Some l → Finds is_below adds us new (λ atoms. f atoms x) found
    → ((sorts : List Sort) → given sorts ≡ true → own sorts ≡ true) → Moves adds own ss us mid new
    → all ≡ ls ++ l ∷ [] → Collected f adds given rs us old new (take (i + 1) xs) all
collected_step f s adds given own rs ss us old mid new xs i x ls all l found h within is below some g wider m e = rw e (record {
  is = all_push (f (atoms_in us new)) xs i x ls l within is
      (moved ls ss us mid new (all_stay f s (take i xs)).all_stay below m h.is)
      (sym some ∙ g.is);
  below = below_push (length new) ls l
      (all_below_more (length mid) (length new) ls (grown_longer mid new m.atoms) h.below) (g.below l some);
  moves = moves_both adds given rs ss us old mid new h.moves (moves_given adds own given ss us mid new wider m);
})

pub collected_stop : {X : Type 0} (f : List Atom → X → Option Lit) (adds : Bool) (us : List Regex)
    (new : List (AtomOver ℕ)) (xs : List X) (i : ℕ) (x : X) (found : Option Lit) → i < length xs → x ≡ get_or xs i x
    → found ≡ None → Finds is_below adds us new (λ atoms. f atoms x) found
    → Finds are_below adds us new (λ atoms. together (map (f atoms) xs)) None
collected_stop f adds us new xs i x found within is none g = record {
  is = sym (all_stop (f (atoms_in us new)) xs i x within is (sym g.is ∙ none));
  none = λ on _ atoms. all_stop (f atoms) xs i x within is (g.none on none atoms);
  below = λ ls e. absurd (some-none ls (sym e));
}

pub collected_end : {X : Type 0} (f : List Atom → X → Option Lit) (adds : Bool) (given : List Sort → Bool)
    (rs more : List Regex) (old new : List (AtomOver ℕ)) (xs : List X) (i : ℕ) (ls : List Lit)
    → Collected f adds given rs more old new (take i xs) ls → length xs ≤ i
    → Finds are_below adds more new (λ atoms. together (map (f atoms) xs)) (Some ls)
collected_end f adds given rs more old new xs i ls h done = record {
  is = h.is ∙ ap (λ ys. together (map (f (atoms_in more new)) ys)) (take_all i xs done);
  none = λ on none. absurd (some-none ls none);
  below = λ ms e. ap (are_below (length new)) (sym (same_Some ls ms e)) ∙ h.below;
}

-- What is made of what was found.

long_together : {X : Type 0} (f : X → Option Lit) (xs : List X) (ls : List Lit) → together (map f xs) ≡ Some ls
    → length ls ≡ length xs
long_together f [] ls h = ap length (sym (same_Some [] ls h))
long_together f (x ∷ xs) ls h = step (f x) (together (map f xs)) refl h (λ ms e. long_together f xs ms e)
  where
    step : (o : Option Lit) (p : Option (List Lit)) → together (map f xs) ≡ p → together (o ∷ map f xs) ≡ Some ls
        → ((ms : List Lit) → together (map f xs) ≡ Some ms → length ms ≡ length xs) → length ls ≡ suc (length xs)
    step None p e h rest = absurd (some-none ls (sym h))
    step (Some l) None e h rest = absurd (some-none ls (sym (sym (ap (option_map (λ ms. l ∷ ms)) e) ∙ h)))
    step (Some l) (Some ms) e h rest =
        let same = same_Some (l ∷ ms) ls (sym (ap (option_map (λ ns. l ∷ ns)) e) ∙ h) in
        ap length (sym same) ∙ ap suc (rest ms e)

pub then_none : {X : Type 0} (f : List Atom → X → Option Lit) (make : List Atom → List Lit → Option Lit) (adds : Bool)
    (us : List Regex) (new : List (AtomOver ℕ)) (xs : List X) (found : Option (List Lit)) → found ≡ None
    → Finds are_below adds us new (λ atoms. together (map (f atoms) xs)) found
    → Finds is_below adds us new (λ atoms. option_and_then (make atoms) (together (map (f atoms) xs))) None
then_none f make adds us new xs found none g = record {
  is = sym (ap (option_and_then (make (atoms_in us new))) (sym g.is ∙ none));
  none = λ on _ atoms. ap (option_and_then (make atoms)) (g.none on none atoms);
  below = λ l e. absurd (some-none l (sym e));
}

pub then_made : {X : Type 0} (f : List Atom → X → Option Lit) → ((x : X) → Stays (λ atoms. f atoms x))
    → (make : List Atom → List Lit → Option Lit) (adds : Bool) (us : List Regex) (mid new : List (AtomOver ℕ))
    (xs : List X) (ls : List Lit) (first : Option (List Lit)) (found : Option Lit) → first ≡ Some ls
    → Finds are_below adds us mid (λ atoms. together (map (f atoms) xs)) first → GrownByGates adds mid new
    → GivesLike adds new make ls found
    → Finds is_below adds us new (λ atoms. option_and_then (make atoms) (together (map (f atoms) xs))) found
then_made f s make adds us mid new xs ls first found some g grows h = record {
  is = h.is us ∙ sym (some_then (make (atoms_in us new)) ls _ here);
  none = λ on e atoms. step on e atoms (together (map (f atoms) xs)) refl;
  below = h.below;
}
  where
    m : Grown adds (length us) (λ sorts. true) mid new
    m = grows (length us) (λ sorts. true)

    here : Some ls ≡ together (map (f (atoms_in us new)) xs)
    here = sym (ap (λ atoms. together (map (f (atoms_in us atoms)) xs)) m.is
        ∙ ap (λ atoms. together (map (f atoms) xs)) (atoms_more us mid m.more)
        ∙ (all_stay f s xs).all_stay.stay (atoms_in us mid) (atoms_in us m.more) ls (sym g.is ∙ some))

    long : length ls ≡ length xs
    long = long_together (f (atoms_in us new)) xs ls (sym here)

    step : adds ≡ true → found ≡ None → (atoms : List Atom) (o : Option (List Lit)) → together (map (f atoms) xs) ≡ o
        → option_and_then (make atoms) (together (map (f atoms) xs)) ≡ None
    step on e atoms None is = ap (option_and_then (make atoms)) is
    step on e atoms (Some others) is =
        ap (option_and_then (make atoms)) is
        ∙ h.none on e atoms others (long_together (f atoms) xs others is ∙ sym long)

-- Bool constants.

pub constant_finds : (adds : Bool) (rs : List Regex) (new : List (AtomOver ℕ)) (t : Term) (serial : ℕ)
    (a : AtomOver ℕ) (found : Option Lit) → t ≡ constant serial boolean → a ≡ bool_atom serial
    → IsLiteralOf adds new a found → Finds is_below adds rs new (λ atoms. translation atoms t) found
constant_finds adds rs new t serial a found is e h = record {
  is = h.is rs (rw e (apart_bool rs new serial))
      ∙ ap (λ b. positive (atoms_in rs new) (over rs b)) e
      ∙ sym (ap (translation (atoms_in rs new)) is);
  none = λ on none. absurd (h.sure on none);
  below = λ l same. named_below new l a (h.names l same).0;
}

pub constant_moves : (adds : Bool) (rs : List Regex) (old new : List (AtomOver ℕ)) (t : Term) (serial : ℕ)
    (a : AtomOver ℕ) → t ≡ constant serial boolean → a ≡ bool_atom serial → GrownByOne adds old new a
    → regex.Extends rs rs → Moves adds (λ sorts. has_declared sorts t) rs rs old new
constant_moves adds rs old new t serial a is e g same = record {
  arena = same;
  atoms = grown_one adds (length rs) (λ sorts. has_declared sorts t) old new a g (rw e tt) (rw e refl)
      (λ rs. rw e refl) (λ sorts d before l. rw e (ap (has_declared sorts) (sym is) ∙ d));
}

-- The literals of parts.

pub word_stays : (distinct : Bool) (p : Term × Term) → Stays (λ atoms. signed distinct (word_equality atoms p.0 p.1))
word_stays true p = negated_stays (word_equality_stays p.0 p.1)
word_stays false p = word_equality_stays p.0 p.1

pub part_stays : (t : Term) → Stays (λ atoms. translation atoms t)
part_stays t = term_stays t

-- The literal of a term of structure, and of another term.

pub brought_is : (t : Term) (b : Bool) → b ≡ is_structure t → b ≡ true → (atoms : List Atom)
    → translation atoms t ≡ brought_translation atoms t
brought_is t b is e atoms = sym (ap (λ (c : Bool). if c then translation atoms t else None) (sym is ∙ e))

pub brought_none : (t : Term) (b : Bool) → b ≡ is_structure t → b ≡ false → (atoms : List Atom)
    → brought_translation atoms t ≡ None
brought_none t b is e atoms = ap (λ (c : Bool). if c then translation atoms t else None) (sym is ∙ e)

pub finds_known : (adds : Bool) (rs : List Regex) (new : List (AtomOver ℕ)) (make : List Atom → Option Lit)
    (found : Option Lit) → Finds is_below adds rs new make found → IfSome found (λ l. l.atom < length new)
finds_known adds rs new make None h = tt
finds_known adds rs new make (Some l) h = let below = h.below l refl in grind (arith, nat_tests)
