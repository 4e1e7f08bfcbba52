-- What literals ask for: it stays as the arena grows, and its words are those that make the literals true.
use Rattle.sb_clash.proofs.Words.{[], if◌then◌else◌, ◌&&◌, ◌++◌, ◌+◌, ◌<◌, ◌∙◌, ◌∷◌, ◌≡◌, ◌≤◌, List, Some, ap, ap₂, false, get_or, length, map, refl, subst, sym, take, true, ℕ, All-head, All-push, All-tail, All-take, AllNumbers, AreAbout, AreClashing, AtomOver, CanBeAsked, Explores, Extends, Findings, HaveRegexesBelow, IsAbout, IsGraph, Lit, MkandKeepsLanguage, Names, Regex, asked_by, asked_by_all, at_kept, ats_kept, bool_atom, extends_more, extends_same, list_all, mkand, mknot, names_at, names_below, names_from, number_in, numbers_kept, regex_at, regexes_at, regexes_kept, map-append, take_all, take_more, list_all-map, get_or_from_slice_get, language, GraphStays}
use Rattle.sb_lang.specs.Regex.{and, regexes}
use Rattle.sb_atoms.specs.Numbered as numbered

pub number_at : (atoms : List (AtomOver ℕ)) (k : ℕ) (a : AtomOver ℕ) → numbered.Names atoms k a
    → number_in (get_or atoms k (bool_atom 0)) ≡ number_in a
number_at atoms k a h = ap number_in (get_or_from_slice_get atoms k a (bool_atom 0) h)

pub regex_below : (n : ℕ) (atoms : List (AtomOver ℕ)) (x : ℕ) (l : Lit) → HaveRegexesBelow n atoms
    → IsAbout atoms x l → number_in (get_or atoms l.atom (bool_atom 0)) < n
regex_below n atoms x l below about =
    subst (λ k. k < n) (sym (number_at atoms l.atom _ about.names)) (below l.atom _ about.names)

pub asked_grown : (rs more : List Regex) (atoms : List (AtomOver ℕ)) (x : ℕ) (l : Lit) → Extends rs more
    → HaveRegexesBelow (length rs) atoms → IsAbout atoms x l → asked_by more atoms l ≡ asked_by rs atoms l
asked_grown rs more atoms x l e below about =
    ap (λ (r : Regex). if l.positive then r else mknot r)
    (at_kept rs more (number_in (get_or atoms l.atom (bool_atom 0))) e
    (regex_below (length rs) atoms x l below about))

pub all_grown : (rs more : List Regex) (atoms : List (AtomOver ℕ)) (x : ℕ) (ls : List Lit) → Extends rs more
    → HaveRegexesBelow (length rs) atoms → AreAbout atoms x ls
    → map (asked_by more atoms) ls ≡ map (asked_by rs atoms) ls
all_grown rs more atoms x [] e below about = refl
all_grown rs more atoms x (l ∷ ls) e below about =
    ap₂ (λ r rest. r ∷ rest) (asked_grown rs more atoms x l e below (All-head (IsAbout atoms x) l ls about))
    (all_grown rs more atoms x ls e below (All-tail (IsAbout atoms x) l ls about))

-- what all of them ask for is the same regex where an arena grows once more
pub meet_grown : (rs more most : List Regex) (atoms : List (AtomOver ℕ)) (x : ℕ) (ls : List Lit) → Extends rs more
    → Extends more most → HaveRegexesBelow (length rs) atoms → AreAbout atoms x ls
    → asked_by_all most atoms ls ≡ asked_by_all more atoms ls
meet_grown rs more most atoms x ls e f below about =
    ap mkand (all_grown more most atoms x ls f (regexes_kept rs more atoms e below) about)

-- so a number that the intersection got has it then too
pub root_asked : (rs more most : List Regex) (atoms : List (AtomOver ℕ)) (x root : ℕ) (ls : List Lit)
    → Extends rs more → Extends more most → HaveRegexesBelow (length rs) atoms → AreAbout atoms x ls
    → Names more root (asked_by_all more atoms ls) → regex_at more root ≡ asked_by_all most atoms ls
root_asked rs more most atoms x root ls e f below about names =
    names_at more root _ names ∙ sym (meet_grown rs more most atoms x ls e f below about)

-- literals that clash go on clashing
pub clash_grown : (rs more : List Regex) (atoms : List (AtomOver ℕ)) (x : ℕ) (ls : List Lit) → Extends rs more
    → HaveRegexesBelow (length rs) atoms → AreAbout atoms x ls → AreClashing rs atoms ls → AreClashing more atoms ls
clash_grown rs more atoms x ls e below about h =
    λ w word. ap (λ all. language (mkand all) w) (all_grown rs more atoms x ls e below about) ∙ h w word

-- One literal.

pub asked_positive : (rs : List Regex) (atoms : List (AtomOver ℕ)) (x n : ℕ) (l : Lit) → l.positive ≡ true
    → n ≡ number_in (get_or atoms l.atom (bool_atom 0)) → HaveRegexesBelow (length rs) atoms → IsAbout atoms x l
    → Names rs n (asked_by rs atoms l)
asked_positive rs atoms x n l positive is below about =
    names_from rs n (asked_by rs atoms l)
    (subst (λ k. k < length rs) (sym is) (regex_below (length rs) atoms x l below about))
    (ap (regex_at rs) is
    ∙ ap (λ b. if b then regex_at rs (number_in (get_or atoms l.atom (bool_atom 0)))
    else mknot (regex_at rs (number_in (get_or atoms l.atom (bool_atom 0))))) (sym positive))

pub asked_negative : (rs more : List Regex) (atoms : List (AtomOver ℕ)) (x n id : ℕ) (l : Lit)
    → l.positive ≡ false → n ≡ number_in (get_or atoms l.atom (bool_atom 0)) → HaveRegexesBelow (length rs) atoms
    → IsAbout atoms x l → Extends rs more → Names more id (mknot (regex_at rs n)) → Names more id (asked_by more atoms l)
asked_negative rs more atoms x n id l negative is below about e names =
    names
    ∙ ap Some (ap (λ k. mknot (regex_at rs k)) is
    ∙ ap mknot (sym (at_kept rs more (number_in (get_or atoms l.atom (bool_atom 0))) e
    (regex_below (length rs) atoms x l below about)))
    ∙ ap (λ b. if b then regex_at more (number_in (get_or atoms l.atom (bool_atom 0)))
    else mknot (regex_at more (number_in (get_or atoms l.atom (bool_atom 0))))) (sym negative))

-- The intersection is made.

-- the numbers so far are of what the first literals ask for
pub record IsAskedSofar (rs : List Regex) (atoms : List (AtomOver ℕ)) (ls : List Lit) (ids : List ℕ) : Type 0 where
  pub known : AllNumbers rs ids
  pub are : regexes_at rs ids ≡ map (asked_by rs atoms) ls

pub asked_more : (rs more : List Regex) (atoms : List (AtomOver ℕ)) (x : ℕ) (ls : List Lit) (i : ℕ) (d : Lit)
    (ids : List ℕ) (id : ℕ) → Extends rs more → HaveRegexesBelow (length rs) atoms → AreAbout atoms x ls
    → i < length ls → IsAskedSofar rs atoms (take i ls) ids → Names more id (asked_by more atoms (get_or ls i d))
    → IsAskedSofar more atoms (take (i + 1) ls) (ids ++ id ∷ [])
asked_more rs more atoms x ls i d ids id e below about l h names = record {
  known = All-push (λ k. k < length more) ids id (numbers_kept rs more ids e h.known)
      (names_below more id (asked_by more atoms (get_or ls i d)) names);
  are = map-append (regex_at more) ids (id ∷ [])
      ∙ ap₂ (λ front one. front ++ one ∷ [])
      (ats_kept rs more ids e h.known ∙ h.are
      ∙ sym (all_grown rs more atoms x (take i ls) e below (All-take (IsAbout atoms x) i ls about)))
      (names_at more id (asked_by more atoms (get_or ls i d)) names)
      ∙ sym (ap (map (asked_by more atoms)) (take_more ls i d l)
      ∙ map-append (asked_by more atoms) (take i ls) (get_or ls i d ∷ []));
}

-- all are made
pub asked_met : (rs more : List Regex) (atoms : List (AtomOver ℕ)) (x : ℕ) (ls : List Lit) (i : ℕ) (ids : List ℕ)
    (id : ℕ) → length ls ≤ i → Extends rs more → HaveRegexesBelow (length rs) atoms → AreAbout atoms x ls
    → IsAskedSofar rs atoms (take i ls) ids → Names more id (mkand (regexes_at rs ids))
    → Names more id (asked_by_all more atoms ls)
asked_met rs more atoms x ls i ids id all e below about h names =
    names
    ∙ ap (λ ss. Some (mkand ss)) (h.are ∙ ap (map (asked_by rs atoms)) (take_all i ls all)
    ∙ sym (all_grown rs more atoms x ls e below about))

all_meet : (ss : List Regex) (w : List ℕ) → language (and (regexes ss)) w ≡ list_all (λ r. language r w) ss
unfolding language regexes
all_meet [] w = refl
all_meet (s ∷ ss) w = ap (λ b. language s w && b) (all_meet ss w)

-- a word is in the intersection exactly where it is in what each of the literals asks for
pub in_all : MkandKeepsLanguage → (rs : List Regex) (atoms : List (AtomOver ℕ)) (ls : List Lit) (w : List ℕ)
    → language (asked_by_all rs atoms ls) w ≡ list_all (λ l. language (asked_by rs atoms l) w) ls
in_all keeps rs atoms ls w =
    keeps (map (asked_by rs atoms) ls) w ∙ all_meet (map (asked_by rs atoms) ls) w
    ∙ list_all-map (λ r. language r w) (asked_by rs atoms) ls

-- One word is asked for after the other.

pub explores_none : {rs : List Regex} {found : Findings} → IsGraph rs found → Explores rs rs found found
explores_none {rs} graph =
    record { extends = extends_same rs; graph = graph; derivatives = λ n pieces h. h; marks = λ n h. h }

pub explores_arena : {rs more : List Regex} {found : Findings} → GraphStays → Extends rs more → IsGraph rs found
    → Explores rs more found found
explores_arena {rs} {more} {found} stays e graph =
    record { extends = e; graph = stays rs more found e graph; derivatives = λ n pieces h. h; marks = λ n h. h }

pub explores_both : {rs more most : List Regex} {a b c : Findings} → Explores rs more a b → Explores more most b c
    → Explores rs most a c
explores_both {rs} {more} {most} p q = record {
  extends = extends_more rs more most p.extends q.extends;
  graph = q.graph;
  derivatives = λ n pieces h. q.derivatives n pieces (p.derivatives n pieces h);
  marks = λ n h. q.marks n (p.marks n h);
}

-- it may be asked for later too, and literals that clash go on clashing
pub can_later : {rs more : List Regex} {old new : Findings} {atoms : List (AtomOver ℕ)} {x : ℕ} {ls : List Lit}
    → Explores rs more old new → CanBeAsked rs old atoms x ls → CanBeAsked more new atoms x ls
can_later {rs} {more} {atoms = atoms} e can =
    record { about = can.about; regexes = regexes_kept rs more atoms e.extends can.regexes; graph = e.graph }

pub clash_later : {rs more : List Regex} {old new : Findings} {atoms : List (AtomOver ℕ)} {x : ℕ} {ls : List Lit}
    → Explores rs more old new → CanBeAsked rs old atoms x ls → AreClashing rs atoms ls → AreClashing more atoms ls
clash_later {rs} {more} {atoms = atoms} {x = x} {ls = ls} e can h =
    clash_grown rs more atoms x ls e.extends can.regexes can.about h
