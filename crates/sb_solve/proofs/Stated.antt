-- The clauses of live assertions, and the literals of assumptions, one behind the other.
use Rattle.sb_solve.proofs.Words.{AreSaid, Assumes, Assumption, HasGates, Names, and_parts, append-nil, append_assoc, assumption_fits, bool_atom, list_all, list_all-append, slice_get_within, ◌≡◌, ◌≢◌, ◌⊎◌, inl, inr, ℕ, ◌<◌, Bool, true, false, nat_eq, List, [], ◌∷◌, ◌++◌, length, slice_get, Option, Some, refl, sym, ap, subst, ◌∙◌, arith, and_from, eqb-false, eqb-true, lt-ltb, same_Some, Lit, Kept, Regex, Extends, grows_both, grows_same, Term, Assertion, asserted, live, asked_in, Atom, AtomOver, translation, Stacked, state_of, HaveRegexesBelow, atoms_in, atoms_kept, atoms_more, is_atom, are_atoms, Asserted, Backing, asserted_at, leads-none, uncounted-both, IsLiteral, AreLiterals, term_onto, terms_at, AreOfLevels, level_at, IsStated, States, AllStated, AreStated, Sort, Store, TranslationStays}
use Rattle.sb_atoms.specs.Numbered as table
use Rattle.sb_solve.proofs.Growing.{names_more}
use Rattle.sb_solve.proofs.LiveRows.{same_term}

-- One behind the other.

pub stated_none : (s : Stacked) (x : Store) (e : Backing) (told : Option (List ℕ))
    → HaveRegexesBelow (length x.arena) e.atoms → AreStated s [] x x e e told told []
stated_none s x e told below = record {
  puts = leads-none (asked_in (state_of s)) x.arena x.graph.memo e told;
  store = grows_same s.table x;
  regexes = below;
  declared = λ before. before;
  levels = λ place a h. inl h;
  gates = λ some. absurd (omega (arith, some));
  all = tt;
}

pub translates_still : TranslationStays → (rs more : List Regex) (old new : List (AtomOver ℕ)) (t : Term) (l : Lit)
    → Extends rs more → HaveRegexesBelow (length rs) old → table.Extends old new
    → translation (atoms_in rs old) t ≡ Some l → translation (atoms_in more new) t ≡ Some l
translates_still stays rs more old new t l grows below atoms h =
    subst (λ (ts : List Atom). translation ts t ≡ Some l) (sym larger)
    (stays (atoms_in rs old) (atoms_in more atoms.more) t l h)
  where
    larger : atoms_in more new ≡ atoms_in rs old ++ atoms_in more atoms.more
    larger = ap (atoms_in more) atoms.is ∙ atoms_more more old atoms.more
        ∙ ap (λ ts. ts ++ atoms_in more atoms.more) (atoms_kept rs more old grows below)

-- an assertion that was stated stays so, also where it is stated again
stated_still : TranslationStays → (s : Stacked) (place other : ℕ) (l m : Lit) (y z : Store) (f g : Backing)
    (told new : Option (List ℕ)) → States s place y z f g told new m → IsStated s y.arena f other l
    → IsStated s z.arena g other l
stated_still stays s place other l m y z f g told new h was = step (nat_eq other place) refl
  where
    still : translation (atoms_in z.arena g.atoms) was.term ≡ Some l
    still = translates_still stays y.arena z.arena f.atoms g.atoms was.term l h.store.more.extends h.below h.atoms
        was.translates

    again : other ≡ place → IsStated s z.arena g other l
    again same =
        let now = h.stated in
        let term : now.term ≡ was.term = same_term now.term was.term
        (same_Some (asserted now.term) (asserted was.term)
        (sym now.stands ∙ ap (slice_get (live (state_of s))) (sym same) ∙ was.stands)) in
        let literal : m ≡ l = same_Some m l
        (sym now.translates ∙ ap (translation (atoms_in z.arena g.atoms)) term ∙ still) in
        record {
          term = was.term;
          stands = was.stands;
          translates = still;
          clause = now.clause;
          there = ap (asserted_at g.asserted) same ∙ now.there;
          literal = now.literal ∙ literal;
        }

    step : (b : Bool) → nat_eq other place ≡ b → IsStated s z.arena g other l
    step true is = again (eqb-true other place is)
    step false is =
        record {
          term = was.term;
          stands = was.stands;
          translates = still;
          clause = was.clause;
          there = h.others other (eqb-false other place is) ∙ was.there;
          literal = was.literal;
        }

-- so it is with all of them, and with one more
all_more : (s : Stacked) (mid more : List Regex) (f g : Backing) (place : ℕ) (l : Lit)
    → ((other : ℕ) (m : Lit) → IsStated s mid f other m → IsStated s more g other m) → IsStated s more g place l
    → (places : List ℕ) (ls : List Lit) → AllStated s mid f places ls
    → AllStated s more g (places ++ place ∷ []) (ls ++ l ∷ [])
all_more s mid more f g place l still one [] [] h = (one, tt)
all_more s mid more f g place l still one [] (m ∷ ls) h = absurd h
all_more s mid more f g place l still one (other ∷ places) [] h = absurd h
all_more s mid more f g place l still one (other ∷ places) (m ∷ ls) h =
    (still other m h.0, all_more s mid more f g place l still one places ls h.1)

levels_both : (live : List (Option Term × ℕ)) (place : ℕ) (e f g : List (Option Asserted))
    → AreOfLevels live e f
    → ((other : ℕ) → other ≢ place → asserted_at g other ≡ asserted_at f other)
    → ((a : Asserted) → asserted_at g place ≡ Some a → level_at live place ≡ Some a.level) → AreOfLevels live e g
levels_both live place e f g h others here = λ other a found. step other a found (nat_eq other place) refl
  where
    step : (other : ℕ) (a : Asserted) → asserted_at g other ≡ Some a → (b : Bool) → nat_eq other place ≡ b
        → (asserted_at e other ≡ Some a) ⊎ (level_at live other ≡ Some a.level)
    step other a found true is =
        let same : place ≡ other = sym (eqb-true other place is) in
        inr (subst (λ (n : ℕ). level_at live n ≡ Some a.level) same
        (here a (ap (asserted_at g) same ∙ found)))
    step other a found false is = h other a (sym (others other (eqb-false other place is)) ∙ found)

pub stated_more : TranslationStays → (s : Stacked) (places : List ℕ) (x y z : Store) (e f g : Backing)
    (old told new : Option (List ℕ)) (ls : List Lit) (place : ℕ) (l : Lit) → AreStated s places x y e f old told ls
    → States s place y z f g told new l → AreStated s (places ++ place ∷ []) x z e g old new (ls ++ l ∷ [])
stated_more stays s places x y z e f g old told new ls place l h one = record {
  puts = λ before b.
      uncounted-both (asked_in (state_of s)) before y.arena z.arena y.graph.memo z.graph.memo f g old told new
      (h.puts before b) one.puts;
  store = grows_both s.table x y z h.store one.store;
  regexes = one.regexes;
  declared = λ before. one.declared (h.declared before);
  levels = levels_both (asked_in (state_of s)).live place e.asserted f.asserted g.asserted h.levels one.others
      one.level;
  gates = λ some. one.gates;
  all = all_more s y.arena z.arena f g place l
      (λ other m was. stated_still stays s place other m l y z f g told new one was) one.stated places ls h.all;
}

-- All of them.

abbrev pub IsOne : List Atom → Kept → List Assertion → ℕ → Lit → Type 0
IsOne atoms kept xs place l =
    (t : Term) × (slice_get xs place ≡ Some (asserted t)) × IsLiteral atoms kept t l

pub are_literals : (s : Stacked) (more : List Regex) (f : Backing) (atoms : List Atom) (kept : Kept)
    → ((place : ℕ) (l : Lit) → IsStated s more f place l → IsOne atoms kept (live (state_of s)) place l)
    → (places : List ℕ) (ls : List Lit) → AllStated s more f places ls
    → AreLiterals atoms kept (terms_at (live (state_of s)) places) ls
are_literals s more f atoms kept each [] [] h = tt
are_literals s more f atoms kept each [] (l ∷ ls) h = absurd h
are_literals s more f atoms kept each (place ∷ places) [] h = absurd h
are_literals s more f atoms kept each (place ∷ places) (l ∷ ls) h =
    let xs = live (state_of s) in
    let first = each place l h.0 in
    subst (λ (o : Option Assertion). AreLiterals atoms kept (term_onto o (terms_at xs places)) (l ∷ ls)) (sym first.1)
    (first.2, are_literals s more f atoms kept each places ls h.1)

pub are_of_table : (s : Stacked) (more : List Regex) (f : Backing) (atoms : List (AtomOver ℕ))
    → ((place : ℕ) (l : Lit) → IsStated s more f place l → l.atom < length atoms) → (places : List ℕ) (ls : List Lit)
    → AllStated s more f places ls → are_atoms atoms ls ≡ true
are_of_table s more f atoms each [] [] h = refl
are_of_table s more f atoms each [] (l ∷ ls) h = absurd h
are_of_table s more f atoms each (place ∷ places) [] h = absurd h
are_of_table s more f atoms each (place ∷ places) (l ∷ ls) h =
    and_from (is_atom atoms l.atom) (are_atoms atoms ls) (lt-ltb l.atom (length atoms) (each place l h.0))
    (are_of_table s more f atoms each places ls h.1)

-- Assumptions.

-- one literal behind those that there were, over a larger table
said_more : (old new : List (AtomOver ℕ)) → table.Extends old new → (given bs : List Assumption) (ls ms : List Lit)
    → AreSaid old given ls → AreSaid new bs ms → AreSaid new (given ++ bs) (ls ++ ms)
said_more old new extends [] bs [] ms are more = more
said_more old new extends [] bs (l ∷ ls) ms are more = absurd are
said_more old new extends (a ∷ given) bs [] ms are more = absurd are
said_more old new extends (a ∷ given) bs (l ∷ ls) ms are more = (
  (
    subst (λ (atoms : List (AtomOver ℕ)). Names atoms l.atom (bool_atom a.0)) (sym extends.is)
        (names_more old extends.more l.atom (bool_atom a.0) are.0.0),
    are.0.1,
  ),
  said_more old new extends given bs ls ms are.1 more,
)

-- the same literals over a larger table
pub said_over : (old new : List (AtomOver ℕ)) → table.Extends old new → (given : List Assumption) (ls : List Lit)
    → AreSaid old given ls → AreSaid new given ls
said_over old new extends [] [] are = tt
said_over old new extends [] (l ∷ ls) are = absurd are
said_over old new extends (a ∷ given) [] are = absurd are
said_over old new extends (a ∷ given) (l ∷ ls) are = (
  (
    subst (λ (atoms : List (AtomOver ℕ)). Names atoms l.atom (bool_atom a.0)) (sym extends.is)
        (names_more old extends.more l.atom (bool_atom a.0) are.0.0),
    are.0.1,
  ),
  said_over old new extends given ls are.1,
)

-- their atoms are in the table
pub said_known : (atoms : List (AtomOver ℕ)) (given : List Assumption) (ls : List Lit) → AreSaid atoms given ls
    → are_atoms atoms ls ≡ true
said_known atoms [] [] are = refl
said_known atoms [] (l ∷ ls) are = absurd are
said_known atoms (a ∷ given) [] are = absurd are
said_known atoms (a ∷ given) (l ∷ ls) are =
    and_from (is_atom atoms l.atom) (are_atoms atoms ls)
    (lt-ltb l.atom (length atoms) (slice_get_within atoms l.atom (bool_atom a.0) are.0.0))
    (said_known atoms given ls are.1)

both_fit : (sorts : List Sort) (given bs : List Assumption) → list_all (assumption_fits sorts) (given ++ bs) ≡ true
    → (list_all (assumption_fits sorts) given ≡ true) × (list_all (assumption_fits sorts) bs ≡ true)
both_fit sorts given bs fits =
    and_parts (list_all (assumption_fits sorts) given) (list_all (assumption_fits sorts) bs)
    (sym (list_all-append (assumption_fits sorts) given bs) ∙ fits)

pub assumes_none : (rs : List Regex) (e : Backing) (told : Option (List ℕ)) → HaveRegexesBelow (length rs) e.atoms
    → Assumes [] rs e e told told []
assumes_none rs e told below = record {
  puts = λ asked memo before fits b. leads-none asked rs memo e told before b;
  atoms = record { more = []; is = sym (append-nil e.atoms) };
  regexes = below;
  declared = λ sorts fits before. before;
  asserted = refl;
  gates = λ h. h;
  own = λ some. absurd (omega (arith, some));
  all = tt;
}

pub assumes_both : (given bs : List Assumption) (rs : List Regex) (e f k : Backing) (old told new : Option (List ℕ))
    (ls ms : List Lit) → Assumes given rs e f old told ls → Assumes bs rs f k told new ms
    → Assumes (given ++ bs) rs e k old new (ls ++ ms)
assumes_both given bs rs e f k old told new ls ms h one = record {
  puts = λ asked memo before fits b.
      let p = both_fit asked.sorts given bs fits in
      uncounted-both asked before rs rs memo memo f k old told new (h.puts asked memo before p.0 b)
      (λ mid c. one.puts asked memo mid p.1 c);
  atoms = record {
    more = h.atoms.more ++ one.atoms.more;
    is = one.atoms.is ∙ ap (λ (ts : List (AtomOver ℕ)). ts ++ one.atoms.more) h.atoms.is
        ∙ append_assoc e.atoms h.atoms.more one.atoms.more;
  };
  regexes = one.regexes;
  declared = λ sorts fits before.
      let p = both_fit sorts given bs fits in one.declared sorts p.1 (h.declared sorts p.0 before);
  asserted = one.asserted ∙ h.asserted;
  gates = λ has. one.gates (h.gates has);
  own = ends ms one.own;
  all = said_more f.atoms k.atoms one.atoms given bs ls ms h.all one.all;
}
  where
    ends : (ms : List Lit) → (0 < length ms → HasGates (length k.atoms) k.atoms k.kept) → 0 < length (ls ++ ms)
        → HasGates (length k.atoms) k.atoms k.kept
    ends [] last some =
        one.gates (h.own (subst (λ (ns : List Lit). 0 < length ns) (append-nil ls) some))
    ends (m ∷ ms) last some = last (omega arith)

-- What stands of assertions does so where assumptions are behind them.

stated_over : TranslationStays → (s : Stacked) (y : Store) (f k : Backing) (place : ℕ) (l : Lit)
    → HaveRegexesBelow (length y.arena) f.atoms → table.Extends f.atoms k.atoms → k.asserted ≡ f.asserted
    → IsStated s y.arena f place l → IsStated s y.arena k place l
stated_over stays s y f k place l below atoms same was = record {
  term = was.term;
  stands = was.stands;
  translates = translates_still stays y.arena y.arena f.atoms k.atoms was.term l
      (grows_same s.table y).more.extends below atoms was.translates;
  clause = was.clause;
  there = ap (λ (xs : List (Option Asserted)). asserted_at xs place) same ∙ was.there;
  literal = was.literal;
}

all_over : (s : Stacked) (y : Store) (f k : Backing)
    → ((place : ℕ) (l : Lit) → IsStated s y.arena f place l → IsStated s y.arena k place l) → (places : List ℕ)
    (ls : List Lit) → AllStated s y.arena f places ls → AllStated s y.arena k places ls
all_over s y f k still [] [] h = tt
all_over s y f k still [] (l ∷ ls) h = absurd h
all_over s y f k still (place ∷ places) [] h = absurd h
all_over s y f k still (place ∷ places) (l ∷ ls) h =
    (still place l h.0, all_over s y f k still places ls h.1)

pub stated_under : TranslationStays → (s : Stacked) (places : List ℕ) (given : List Assumption) (x y : Store)
    (e f k : Backing) (old told new : Option (List ℕ)) (ls ms : List Lit)
    → list_all (assumption_fits (asked_in (state_of s)).sorts) given ≡ true
    → AreStated s places x y e f old told ls → Assumes given y.arena f k told new ms
    → AreStated s places x y e k old new ls
stated_under stays s places given x y e f k old told new ls ms fits h one = record {
  puts = λ before b.
      uncounted-both (asked_in (state_of s)) before y.arena y.arena y.graph.memo y.graph.memo f k old told new
      (h.puts before b) (λ mid c. one.puts (asked_in (state_of s)) y.graph.memo mid fits c);
  store = h.store;
  regexes = one.regexes;
  declared = λ before. one.declared (state_of s).sorts fits (h.declared before);
  levels = subst (AreOfLevels (asked_in (state_of s)).live e.asserted) (sym one.asserted) h.levels;
  gates = λ some. one.gates (h.gates some);
  all = all_over s y f k
      (λ place l was. stated_over stays s y f k place l h.regexes one.atoms one.asserted was) places ls h.all;
}

-- all atoms have their gates then, where there are any literals
pub gates_under : (given : List Assumption) (rs : List Regex) (f k : Backing) (told new : Option (List ℕ))
    (ls ms : List Lit) → (0 < length ls → HasGates (length f.atoms) f.atoms f.kept)
    → Assumes given rs f k told new ms → 0 < length (ls ++ ms) → HasGates (length k.atoms) k.atoms k.kept
gates_under given rs f k told new [] ms has one some = one.own some
gates_under given rs f k told new (l ∷ ls) ms has one some = one.gates (has (omega arith))
