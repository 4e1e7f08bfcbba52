-- A table of atoms stays one, and known clauses keep their truth, where an atom is appended.
use Rattle.std.proofs.Common.{◌≡◌, ℕ, suc, ◌+◌, ◌<◌, nat_lt, Bool, true, false, not, ◌&&◌, ◌||◌, if◌then◌else◌, List, [], ◌∷◌, ◌++◌, length, slice_get, Option, Some, None, option_map, unwrap_or, Ok, Err, refl, ap, ap₂, subst, ◌∙◌, arith, length-append}
use Rattle.std.specs.List.{list_all, list_any}
use Rattle.std.proofs.lemmas.Bool.{and_parts, and_from, ltb-true, lt-ltb}
use Rattle.sb_lit.specs.declared.clause.Lit.{Lit}
use Rattle.sb_lang.specs.Regex.{Regex}
use Rattle.sb_meaning.specs.Terms.{Sort}
use Rattle.sb_meaning.specs.Values.{Valuation}
use Rattle.sb_rulebook.specs.Refusals.{Refusal, unknown_id, repeated, not_normal}
use Rattle.sb_rulebook.specs.Atoms.{Atom, AtomOver, bool_atom, in_atom, le_atom, sum_atom, and_atom, iff_atom, is_well_formed, is_same_atom, atom_holds, literal_holds, truths_from, truths_of, clause_holds}
use Rattle.sb_rulebook.specs.AtomRules.{is_known, are_known, has_its_parts, with_regex, defined, follows_atom}
use Rattle.sb_rulebook.specs.Kept.{AllKept, Asked}
use Rattle.sb_sound.specs.Tables.{names_below, is_table_from}
use Rattle.sb_sound.specs.SoundLaws.{IsSound}
use Rattle.sb_sound.proofs.Accepting.{some_of, if_so, if_not, same_ok, slice_get-front}

-- The truths of a table.

length-truths_from : (v : Valuation) (truths : List Bool) (atoms : List Atom)
    → length (truths_from v truths atoms) ≡ length truths + length atoms
length-truths_from v truths [] = omega arith
length-truths_from v truths (a ∷ atoms) =
    let b = atom_holds v truths a in
    length-truths_from v (truths ++ b ∷ []) atoms ∙ omega (arith, length-append truths (b ∷ []))

pub truths_from-append : (v : Valuation) (truths : List Bool) (atoms more : List Atom)
    → truths_from v truths (atoms ++ more) ≡ truths_from v (truths_from v truths atoms) more
truths_from-append v truths [] more = refl
truths_from-append v truths (a ∷ atoms) more = truths_from-append v (truths ++ atom_holds v truths a ∷ []) atoms more

pub length-truths_of : (v : Valuation) (atoms : List Atom) → length (truths_of v atoms) ≡ length atoms
length-truths_of v atoms = length-truths_from v [] atoms ∙ omega arith

-- Known literals.

literal_holds-front : (truths more : List Bool) (l : Lit) → l.atom < length truths
    → literal_holds (truths ++ more) l ≡ literal_holds truths l
literal_holds-front truths more l below =
    ap (λ (o : Option Bool). let b = unwrap_or o false in if l.positive then b else not b)
    (slice_get-front truths more l.atom below)

pub any_holds-front : (truths more : List Bool) (ls : List Lit) → list_all (λ l. nat_lt l.atom (length truths)) ls ≡ true
    → list_any (literal_holds (truths ++ more)) ls ≡ list_any (literal_holds truths) ls
any_holds-front truths more [] low = refl
any_holds-front truths more (l ∷ ls) low =
    let parts =
    and_parts (nat_lt l.atom (length truths)) (list_all (λ m. nat_lt m.atom (length truths)) ls) low in
    ap₂ ◌||◌ (literal_holds-front truths more l (ltb-true l.atom (length truths) parts.0))
    (any_holds-front truths more ls parts.1)

-- a known clause has the same truth over more atoms
clause_holds-push : (v : Valuation) (atoms : List Atom) (a : Atom) (clause : List Lit) → are_known atoms clause ≡ true
    → clause_holds v (atoms ++ a ∷ []) clause ≡ clause_holds v atoms clause
clause_holds-push v atoms a clause known =
    ap (λ (ts : List Bool). list_any (literal_holds ts) clause) (truths_from-append v [] atoms (a ∷ []))
    ∙ any_holds-front (truths_of v atoms) (atom_holds v (truths_of v atoms) a ∷ []) clause
    (ap (λ (n : ℕ). list_all (λ (l : Lit). nat_lt l.atom n) clause) (length-truths_of v atoms) ∙ known)

are_known-push : (atoms : List Atom) (a : Atom) (ls : List Lit) → are_known atoms ls ≡ true
    → are_known (atoms ++ a ∷ []) ls ≡ true
are_known-push atoms a [] known = refl
are_known-push atoms a (l ∷ ls) known =
    let parts = and_parts (is_known atoms l) (are_known atoms ls) known in
    and_from (is_known (atoms ++ a ∷ []) l) (are_known (atoms ++ a ∷ []) ls)
    (lt-ltb l.atom (length (atoms ++ a ∷ []))
    (omega (arith, length-append atoms (a ∷ []), ltb-true l.atom (length atoms) parts.0)))
    (are_known-push atoms a ls parts.1)

-- Tables.

is_table-push : (n : ℕ) (atoms : List Atom) (a : Atom) → is_table_from n atoms ≡ true
    → names_below (n + length atoms) a ≡ true → is_table_from n (atoms ++ a ∷ []) ≡ true
is_table-push n [] a table below =
    and_from (names_below n a) true (subst (λ (k : ℕ). names_below k a ≡ true) (omega arith) below) refl
is_table-push n (b ∷ atoms) a table below =
    let parts = and_parts (names_below n b) (is_table_from (suc n) atoms) table in
    and_from (names_below n b) (is_table_from (suc n) (atoms ++ a ∷ [])) parts.0
    (is_table-push (suc n) atoms a parts.1 (subst (λ (k : ℕ). names_below k a ≡ true) (omega arith) below))

-- an atom of a line names only atoms that are there
names-below : (sorts : List Sort) (known : List Regex) (atoms : List Atom) (line : AtomOver ℕ) (a : Atom)
    → with_regex known line ≡ Some a → has_its_parts sorts atoms line ≡ true → names_below (length atoms) a ≡ true
names-below sorts known atoms (bool_atom serial) a is parts =
    let same : bool_atom serial ≡ a = Prim.cc (is) in
    subst (λ (c : Atom). names_below (length atoms) c ≡ true) same refl
names-below sorts known atoms (in_atom ps r) a is parts = step (slice_get known r) is
  where
    step : (o : Option Regex) → option_map (in_atom ps) o ≡ Some a → names_below (length atoms) a ≡ true
    step None is = absurd (Prim.cc (is))
    step (Some s) is =
        let same : in_atom ps s ≡ a = Prim.cc (is) in
        subst (λ (c : Atom). names_below (length atoms) c ≡ true) same refl
names-below sorts known atoms (le_atom x k) a is parts =
    let same : le_atom x k ≡ a = Prim.cc (is) in
    subst (λ (c : Atom). names_below (length atoms) c ≡ true) same refl
names-below sorts known atoms (sum_atom k ss) a is parts =
    let same : sum_atom k ss ≡ a = Prim.cc (is) in
    subst (λ (c : Atom). names_below (length atoms) c ≡ true) same refl
names-below sorts known atoms (and_atom ls) a is parts =
    let same : and_atom ls ≡ a = Prim.cc (is) in
    subst (λ (c : Atom). names_below (length atoms) c ≡ true) same parts
names-below sorts known atoms (iff_atom l m) a is parts =
    let same : iff_atom l m ≡ a = Prim.cc (is) in
    let first = and_parts (is_known atoms l) (is_known atoms m && true) parts in
    let second = and_parts (is_known atoms m) true first.1 in
    subst (λ (c : Atom). names_below (length atoms) c ≡ true) same
    (and_from (is_known atoms l) (is_known atoms m) first.0 second.0)

pub atom_sound : (asked : Asked) (kept after : AllKept) (line : AtomOver ℕ) → IsSound asked kept
    → follows_atom asked kept line ≡ Ok after → IsSound asked after
atom_sound asked kept after line sound h =
    let atoms = kept.atoms in
    let found =
    some_of (with_regex kept.regexes line) unknown_id
    (λ (a : Atom). if has_its_parts asked.sorts atoms line then defined kept a else Err unknown_id) after h in
    let a = found.0 in
    let now : AllKept = record kept { atoms = atoms ++ a ∷ [] } in
    let parts = if_so (has_its_parts asked.sorts atoms line) unknown_id (defined kept a) after found.2 in
    let new =
    if_not (list_any (is_same_atom a) atoms) repeated (if is_well_formed a then Ok now else Err not_normal) after
    parts.1 in
    let formed = if_so (is_well_formed a) not_normal (Ok now) after new.1 in
    subst (λ (k : AllKept). IsSound asked k) (same_ok {E = Refusal} now after formed.1) (record {
      table = is_table-push 0 atoms a sound.table (subst (λ (n : ℕ). names_below n a ≡ true) (omega arith)
          (names-below asked.sorts kept.regexes atoms line a found.1 parts.0));
      right = sound.right;
      empty = sound.empty;
      expanded = sound.expanded;
      died = sound.died;
      resting = sound.resting;
      known = λ id clause there. are_known-push atoms a clause.literals (sound.known id clause there);
      clauses = λ id clause there v words sorts hold.
          clause_holds-push v atoms a clause.literals (sound.known id clause there)
          ∙ sound.clauses id clause there v words sorts hold;
      places = sound.places;
      rested = λ id clause there v words sorts hold.
          clause_holds-push v atoms a clause.literals (sound.known id clause there)
          ∙ sound.rested id clause there v words sorts hold;
    })
