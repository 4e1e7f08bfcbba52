-- Gates are true.
use Rattle.std.proofs.Common.{◌≡◌, ℕ, ◌<◌, ◌≤◌, ℤ, pos, negsuc, Bool, true, false, not, ◌||◌, nat_lt, int_le, if◌then◌else◌, List, [], ◌∷◌, length, slice_get, take, Option, Some, None, refl, sym, ap, ap₂, subst, ◌∙◌, arith, inl, inr}
use Rattle.std.specs.List.{list_all, list_any}
use Rattle.std.proofs.lemmas.List.{append-nil}
use Rattle.std.proofs.lemmas.Bool.{and_parts, or_cases, or_left, or_right, false≢true, ltb-true}
use Rattle.sb_lit.specs.declared.clause.Lit.{Lit}
use Rattle.sb_lit.specs.Clauses.{negation, is_among}
use Rattle.sb_lang.specs.Regex.{Regex}
use Rattle.sb_lang.specs.OrderLaws.{OrderTellsApart}
use Rattle.sb_lang.specs.LanguageLaws.{RepetitionIsSomePower}
use Rattle.sb_lang.specs.Constructors.{any_character, mkrep}
use Rattle.sb_lang.specs.ConstructorLaws.{MkrepKeepsLanguage}
use Rattle.sb_lang.specs.Language.{language}
use Rattle.sb_meaning.specs.Values.{Valuation}
use Rattle.sb_rulebook.specs.Atoms.{Atom, bool_atom, in_atom, le_atom, sum_atom, and_atom, iff_atom, is_same_atom, word_at, literal_holds, atom_holds, truths_of, clause_holds}
use Rattle.sb_rulebook.specs.Gates.{gate, clauses_of, is_set_of, atom_of, differ_in_sign, is_short_membership, is_length_link, is_link_of, is_gate_of, has_both_signs}
use Rattle.sb_sound.specs.Tables.{names_below, is_table, HasWords}
use Rattle.sb_sound.specs.GateLaws.{GatesHold, are_alike, is_as_it_says}
use Rattle.sb_sound.proofs.GateSayings.{clauses_say}
use Rattle.sb_sound.proofs.PassFacts.{find_any, all_contained}
use Rattle.sb_sound.proofs.SameParts.{same_atom}
use Rattle.sb_sound.proofs.TableFacts.{truth_at_place, literal_holds-atom, literal_holds-take, names_from, all_in_front}
use Rattle.sb_sound.proofs.ClauseSets.{any_among, any_of_set, any_of_both}
use Rattle.sb_sound.proofs.ShortWords.{short_language}
use Rattle.sb_script.specs.Pieces.{constant_piece}
use Rattle.sb_script.specs.Sums.{length_of}

-- an atom of a table names those before it
names_at : (atoms : List Atom) (l : Lit) (atom : Atom) → is_table atoms ≡ true → atom_of atoms l ≡ Some atom
    → names_below l.atom atom ≡ true
names_at atoms l atom table there =
    subst (λ (m : ℕ). names_below m atom ≡ true) (omega arith) (names_from 0 atoms l.atom atom table there)

-- the length of the table reaches to the atom
within_table : (v : Valuation) (atoms : List Atom) (l : Lit) (atom : Atom) → atom_of atoms l ≡ Some atom
    → l.atom ≤ length (truths_of v atoms)
within_table v atoms l atom there =
    let at = truth_at_place v atoms l.atom atom there in
    less (l.atom) (length (truths_of v atoms)) at.0
  where
    less : (i n : ℕ) → i < n → i ≤ n
    less i n h = omega arith

-- Conjunctions.

-- the truth of a literal of a conjunction, by the whole table
literal_holds-and : (v : Valuation) (atoms : List Atom) (l : Lit) (ls : List Lit) → is_table atoms ≡ true
    → atom_of atoms l ≡ Some (and_atom ls)
    → literal_holds (truths_of v atoms) l ≡ (let b = list_all (literal_holds (truths_of v atoms)) ls in
    if l.positive then b else not b)
literal_holds-and v atoms l ls table there =
    literal_holds-atom v atoms l (and_atom ls) there
    ∙ ap (λ b. if l.positive then b else not b)
    (all_in_front (truths_of v atoms) l.atom ls (names_at atoms l (and_atom ls) table there)
    (within_table v atoms l (and_atom ls) there))

-- Equivalences.

literal_holds-iff : (v : Valuation) (atoms : List Atom) (l a b : Lit) → is_table atoms ≡ true
    → atom_of atoms l ≡ Some (iff_atom a b)
    → literal_holds (truths_of v atoms) l ≡ (let t = are_alike (literal_holds (truths_of v atoms) a)
    (literal_holds (truths_of v atoms) b) in
    if l.positive then t else not t)
literal_holds-iff v atoms l a b table there =
    let ts = truths_of v atoms in
    let parts = and_parts (nat_lt a.atom l.atom) (nat_lt b.atom l.atom) (names_at atoms l (iff_atom a b) table there) in
    let within = within_table v atoms l (iff_atom a b) there in
    literal_holds-atom v atoms l (iff_atom a b) there
    ∙ ap₂ (λ x y. let t = if x then y else not y in if l.positive then t else not t)
    (literal_holds-take ts l.atom a (ltb-true a.atom l.atom parts.0) within)
    (literal_holds-take ts l.atom b (ltb-true b.atom l.atom parts.1) within)

-- What an atom says of its literals is so.

alike : (a b : Bool) → a ≡ b → are_alike a b ≡ true
alike true b e = sym e
alike false b e = ap not (sym e)

as_it_says : (v : Valuation) (atoms : List Atom) (g : ℕ) (atom : Atom) → is_table atoms ≡ true
    → slice_get atoms g ≡ Some atom → is_as_it_says (truths_of v atoms) g atom ≡ true
as_it_says v atoms g (and_atom ls) table there =
    alike (literal_holds (truths_of v atoms) (gate g true)) (list_all (literal_holds (truths_of v atoms)) ls)
    (literal_holds-and v atoms (gate g true) ls table there)
as_it_says v atoms g (iff_atom a b) table there =
    alike (literal_holds (truths_of v atoms) (gate g true))
    (are_alike (literal_holds (truths_of v atoms) a) (literal_holds (truths_of v atoms) b))
    (literal_holds-iff v atoms (gate g true) a b table there)
as_it_says v atoms g (bool_atom serial) table there = refl
as_it_says v atoms g (in_atom ps r) table there = refl
as_it_says v atoms g (le_atom x k) table there = refl
as_it_says v atoms g (sum_atom k ss) table there = refl

-- a clause of an atom
said_holds : (v : Valuation) (atoms : List Atom) (clause : List Lit) (g : ℕ) (atom : Atom) → is_table atoms ≡ true
    → slice_get atoms g ≡ Some atom → list_any (is_set_of clause) (clauses_of g atom) ≡ true
    → clause_holds v atoms clause ≡ true
said_holds v atoms clause g atom table there h =
    let ts = truths_of v atoms in
    let c = find_any (is_set_of clause) (clauses_of g atom) h in
    any_of_set (literal_holds ts) clause c.element c.passes
    (all_contained (list_any (literal_holds ts)) (clauses_of g atom) c.element
    (clauses_say ts g atom ∙ as_it_says v atoms g atom table there) c.within)

-- Lengths.

-- a membership of the one constant in the regex
membership_holds : OrderTellsApart → (v : Valuation) (truths : List Bool) (serial : ℕ) (r : Regex) (atom : Atom)
    → is_same_atom (in_atom (constant_piece serial ∷ []) r) atom ≡ true
    → atom_holds v truths atom ≡ language r (word_at v serial)
membership_holds tells v truths serial r atom h =
    ap (atom_holds v truths) (sym (same_atom tells (in_atom (constant_piece serial ∷ []) r) atom h))
    ∙ ap (language r) (append-nil (word_at v serial))

-- two literals of the same truth with different signs
one_of_signs : (s t x y b : Bool) → (if s then not t else t) ≡ true → x ≡ (if s then b else not b)
    → y ≡ (if t then b else not b) → (x || (y || false)) ≡ true
one_of_signs true true x y b differ e f = absurd (false≢true differ)
one_of_signs true false x y true differ e f = or_left x (y || false) e
one_of_signs true false x y false differ e f = or_right x (y || false) (or_left y false f)
one_of_signs false true x y true differ e f = or_right x (y || false) (or_left y false f)
one_of_signs false true x y false differ e f = or_left x (y || false) e
one_of_signs false false x y b differ e f = absurd (false≢true differ)

-- the laws of regexes that gates rest on
record RegexLaws : Type 0 where
  pub apart : OrderTellsApart
  pub repeated : MkrepKeepsLanguage
  pub powers : RepetitionIsSomePower

short_holds : RegexLaws → (v : Valuation) (atoms : List Atom) (l m : Lit) (serial : ℕ) (k : ℤ)
    (o : Option Atom) → HasWords v → atom_of atoms l ≡ Some (le_atom (length_of serial) k) → atom_of atoms m ≡ o
    → is_short_membership serial k o ≡ true → differ_in_sign l m ≡ true
    → list_any (literal_holds (truths_of v atoms)) (l ∷ m ∷ []) ≡ true
short_holds laws v atoms l m serial (pos n) (Some atom) words there other short differ =
    let w = word_at v serial in
    let b = int_le (pos (length w)) (pos n) in
    one_of_signs l.positive m.positive (literal_holds (truths_of v atoms) l) (literal_holds (truths_of v atoms) m) b
    differ (literal_holds-atom v atoms l (le_atom (length_of serial) (pos n)) there)
    (literal_holds-atom v atoms m atom other ∙ ap (λ t. if m.positive then t else not t)
    (membership_holds laws.apart v (take m.atom (truths_of v atoms)) serial (mkrep any_character 0 n) atom short
    ∙ short_language laws.repeated laws.powers n w (words serial)))
short_holds laws v atoms l m serial (pos n) None words there other short differ = absurd (false≢true short)
short_holds laws v atoms l m serial (negsuc n) o words there other short differ = absurd (false≢true short)

link_holds : RegexLaws → (v : Valuation) (atoms : List Atom) (clause : List Lit) (l : Lit) (serial : ℕ) (k : ℤ)
    → HasWords v → atom_of atoms l ≡ Some (le_atom (length_of serial) k)
    → is_length_link atoms clause l serial k ≡ true → clause_holds v atoms clause ≡ true
link_holds laws v atoms clause l serial k words there h =
    let m = find_any _ clause h in
    let parts = and_parts (is_short_membership serial k (atom_of atoms m.element)) _ m.passes in
    let rest = and_parts (differ_in_sign l m.element) (is_set_of clause (l ∷ m.element ∷ [])) parts.1 in
    any_of_set (literal_holds (truths_of v atoms)) clause (l ∷ m.element ∷ []) rest.1
    (short_holds laws v atoms l m.element serial k (atom_of atoms m.element) words there refl parts.0 rest.0)

linked_holds : RegexLaws → (v : Valuation) (atoms : List Atom) (clause : List Lit) (l : Lit) (atom : Atom)
    → HasWords v → atom_of atoms l ≡ Some atom → is_link_of atoms clause l atom ≡ true
    → clause_holds v atoms clause ≡ true
linked_holds laws v atoms clause l (le_atom (length_of serial) k) words there h =
    link_holds laws v atoms clause l serial k words there h
linked_holds laws v atoms clause l _ words there h = absurd (false≢true h)

gate_of_holds : RegexLaws → (v : Valuation) (atoms : List Atom) (clause : List Lit) (l : Lit) (o : Option Atom)
    → is_table atoms ≡ true → HasWords v → atom_of atoms l ≡ o → is_gate_of atoms clause l o ≡ true
    → clause_holds v atoms clause ≡ true
gate_of_holds laws v atoms clause l None table words there h = absurd (false≢true h)
gate_of_holds laws v atoms clause l (Some atom) table words there h =
    elim (or_cases (list_any (is_set_of clause) (clauses_of l.atom atom)) (is_link_of atoms clause l atom) h) [
      | inl said ↦ said_holds v atoms clause l.atom atom table there said
      | inr linked ↦ linked_holds laws v atoms clause l atom words there linked
    ]

gate_holds : RegexLaws → GatesHold
gate_holds laws v atoms clause table words h = elim (or_cases (has_both_signs clause) _ h) [
  | inl signs ↦
      let l = any_among (λ l. is_among clause (negation l)) clause signs in
      any_of_both (truths_of v atoms) clause l.literal l.among l.passes
  | inr of_one ↦
      let l = find_any _ clause of_one in
      gate_of_holds laws v atoms clause l.element (atom_of atoms l.element) table words refl l.passes
]

pub gates_hold : OrderTellsApart → MkrepKeepsLanguage → RepetitionIsSomePower → GatesHold
gates_hold apart repeated powers = gate_holds record { apart = apart; repeated = repeated; powers = powers }
