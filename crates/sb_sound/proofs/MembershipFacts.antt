-- Clauses of memberships are true: what the tests of the rules find in a clause, and what it says of languages.
use Rattle.std.proofs.Common.{◌≡◌, ℕ, Bool, true, false, not, if◌then◌else◌, ◌&&◌, ◌||◌, ◌==◌, List, [], ◌∷◌, ◌++◌, map, Option, Some, None, option_map, inl, inr, refl, sym, ap, subst, ◌∙◌}
use Rattle.std.specs.List.{list_all, list_any, flat_map}
use Rattle.std.specs.Cmp.Lexicographic.{pointwise}
use Rattle.std.proofs.lemmas.Bool.{and_parts, and_from, or_cases, or_parts, or_left, true_from_ne_false, false≢true, not-false, eqb-true}
use Rattle.std.proofs.lemmas.List.{append-nil}
use Rattle.sb_lit.specs.declared.clause.Lit.{Lit}
use Rattle.sb_lang.specs.Regex.{Regex}
use Rattle.sb_lang.specs.Order.{regex_eq}
use Rattle.sb_lang.specs.OrderLaws.{OrderTellsApart}
use Rattle.sb_lang.specs.Language.{language}
use Rattle.sb_lang.specs.Constructors.{mkand, mknot, mkpath}
use Rattle.sb_lang.specs.ConstructorLaws.{IntersectionIsOfEach, MkandKeepsLanguage, MknotKeepsLanguage, MkpathKeepsLanguage}
use Rattle.sb_lang.specs.Derivative.{nullable, nd_along}
use Rattle.sb_lang.specs.DerivativeLaws.{NullableHasEmptyWord, DerivativeAlongHasRests}
use Rattle.sb_meaning.specs.Values.{Valuation}
use Rattle.sb_rulebook.specs.Atoms.{Atom, in_atom, is_same_piece, is_same_atom, word_at, word_of_piece, literal_holds, truths_of, clause_holds}
use Rattle.sb_rulebook.specs.Parts.{together}
use Rattle.sb_rulebook.specs.Kept.{AllKept}
use Rattle.sb_rulebook.specs.Gates.{is_set_of, atom_of, differ_in_sign}
use Rattle.sb_rulebook.specs.Splits.{is_split, is_cut, is_end, is_split_by, is_step_of, denied, is_dead_regex, have_no_word}
use Rattle.sb_sound.specs.Tables.{HasWords}
use Rattle.sb_sound.specs.MembershipLaws.{StepsHold, HasNone, AreEmpty, EmptyHolds}
use Rattle.sb_sound.proofs.PassFacts.{find_any}
use Rattle.sb_sound.proofs.ByNumber.{find_beside}
use Rattle.sb_sound.proofs.ClauseSets.{any_of_set}
use Rattle.sb_sound.proofs.SameParts.{same_regex, same_pieces, same_atom}
use Rattle.sb_sound.proofs.TableFacts.{literal_holds-atom}
use Rattle.sb_script.specs.Pieces.{Piece, constant_piece, word_piece}

-- Memberships.

-- the concatenation of the pieces is in the language
abbrev holds : Valuation → List Piece → Regex → Bool
holds v ps r = language r (flat_map (word_of_piece v) ps)

-- the truth of a literal of an atom
abbrev signed : Bool → Bool → Bool
signed positive b = if positive then b else not b

membership_holds : (v : Valuation) (atoms : List Atom) (l : Lit) (ps : List Piece) (r : Regex)
    → atom_of atoms l ≡ Some (in_atom ps r) → literal_holds (truths_of v atoms) l ≡ signed l.positive (holds v ps r)
membership_holds v atoms l ps r there = literal_holds-atom v atoms l (in_atom ps r) there

-- Steps: what the tests find.

record IsEnd (positive : Bool) (o : Option Atom) : Type 0 where
  regex : Regex
  there : o ≡ Some (in_atom [] regex)
  right : signed positive (nullable regex) ≡ true

seen_end : (positive : Bool) (o : Option Atom) → is_end positive o ≡ true → IsEnd positive o
seen_end positive (Some (in_atom [] r)) h = record { regex = r; there = refl; right = h }
seen_end positive _ h = absurd (false≢true h)

record IsCut (a c : Option Atom) : Type 0 where
  word : List ℕ
  pieces : List Piece
  from : Regex
  onto : Regex
  whole : a ≡ Some (in_atom (word_piece word ∷ pieces) from)
  rest : c ≡ Some (in_atom pieces onto)
  leads : nd_along from word ≡ onto

seen_cut : OrderTellsApart → (a c : Option Atom) → is_cut a c ≡ true → IsCut a c
seen_cut apart (Some (in_atom (word_piece w ∷ ps) r)) (Some (in_atom qs q)) h =
    let parts = and_parts (pointwise is_same_piece ps qs) (regex_eq (nd_along r w) q) h in
    record {
      word = w;
      pieces = ps;
      from = r;
      onto = q;
      whole = refl;
      rest = ap (λ rs. Some (in_atom rs q)) (sym (same_pieces ps qs parts.0));
      leads = same_regex apart (nd_along r w) q parts.1;
    }
seen_cut apart _ _ h = absurd (false≢true h)

record IsSplit (a b c : Option Atom) : Type 0 where
  serial : ℕ
  pieces : List Piece
  from : Regex
  onto : Regex
  whole : a ≡ Some (in_atom (constant_piece serial ∷ pieces) from)
  front : b ≡ Some (in_atom (constant_piece serial ∷ []) (mkpath from onto))
  rest : c ≡ Some (in_atom pieces onto)

seen_split : OrderTellsApart → (a b c : Option Atom) → is_split a b c ≡ true → IsSplit a b c
seen_split apart (Some (in_atom (constant_piece x ∷ ps) r)) (Some b) (Some (in_atom qs q)) h =
    let parts =
    and_parts (pointwise is_same_piece ps qs) (is_same_atom (in_atom (constant_piece x ∷ []) (mkpath r q)) b) h in
    record {
      serial = x;
      pieces = ps;
      from = r;
      onto = q;
      whole = refl;
      front = ap Some (sym (same_atom apart (in_atom (constant_piece x ∷ []) (mkpath r q)) b parts.1));
      rest = ap (λ rs. Some (in_atom rs q)) (sym (same_pieces ps qs parts.0));
    }
seen_split apart _ _ _ h = absurd (false≢true h)

-- Steps: why they are true.

-- of two literals with different signs, of atoms with one truth, one is true
one_of_two : (p q b : Bool) → (if p then not q else q) ≡ true → (signed p b || (signed q b || false)) ≡ true
one_of_two true true b h = absurd (false≢true h)
one_of_two true false true h = refl
one_of_two true false false h = refl
one_of_two false true true h = refl
one_of_two false true false h = refl
one_of_two false false b h = absurd (false≢true h)

-- so where the truth is one if a third atom is true, and its negation is there
one_of_three : (s p q a b c : Bool) → not s ≡ true → (if p then not q else q) ≡ true → (b ≡ true → a ≡ c)
    → (signed s b || (signed p a || (signed q c || false))) ≡ true
one_of_three true p q a b c sign differ one = absurd (false≢true sign)
one_of_three false p q a false c sign differ one = refl
one_of_three false p q a true c sign differ one = rw (one refl) (one_of_two p q c differ)

end_holds : NullableHasEmptyWord → (v : Valuation) (atoms : List Atom) (l : Lit)
    → is_end l.positive (atom_of atoms l) ≡ true → literal_holds (truths_of v atoms) l ≡ true
end_holds empty v atoms l h =
    let e = seen_end l.positive (atom_of atoms l) h in
    membership_holds v atoms l [] e.regex e.there
    ∙ ap (signed l.positive) (sym (empty e.regex))
    ∙ e.right

cut_holds : OrderTellsApart → DerivativeAlongHasRests → (v : Valuation) (atoms : List Atom) (a c : Lit)
    → differ_in_sign a c ≡ true → is_cut (atom_of atoms a) (atom_of atoms c) ≡ true
    → list_any (literal_holds (truths_of v atoms)) (a ∷ c ∷ []) ≡ true
cut_holds apart along v atoms a c differ h =
    let e = seen_cut apart (atom_of atoms a) (atom_of atoms c) h in
    let w = flat_map (word_of_piece v) e.pieces in
    let b = holds v e.pieces e.onto in
    let same : language e.from (e.word ++ w) ≡ language e.onto w =
    sym (along e.from e.word w) ∙ ap (λ r. language r w) e.leads in
    let first : literal_holds (truths_of v atoms) a ≡ signed a.positive b =
    membership_holds v atoms a (word_piece e.word ∷ e.pieces) e.from e.whole ∙ ap (signed a.positive) same in
    let second : literal_holds (truths_of v atoms) c ≡ signed c.positive b =
    membership_holds v atoms c e.pieces e.onto e.rest in
    ap (λ x. x || (literal_holds (truths_of v atoms) c || false)) first
    ∙ ap (λ x. signed a.positive b || (x || false)) second
    ∙ one_of_two a.positive c.positive b differ

-- the word leads from the one regex to the other
path_leads : OrderTellsApart → MkpathKeepsLanguage → (r q : Regex) (w : List ℕ) → language (mkpath r q) w ≡ true
    → nd_along r w ≡ q
unfolding language
path_leads apart keeps r q w h = same_regex apart (nd_along r w) q (sym (keeps r q w) ∙ h)

split_holds : OrderTellsApart → DerivativeAlongHasRests → MkpathKeepsLanguage
    → (v : Valuation) (atoms : List Atom) (a b c : Lit) → not b.positive ≡ true → differ_in_sign a c ≡ true
    → is_split (atom_of atoms a) (atom_of atoms b) (atom_of atoms c) ≡ true
    → list_any (literal_holds (truths_of v atoms)) (b ∷ a ∷ c ∷ []) ≡ true
split_holds apart along keeps v atoms a b c sign differ h =
    let e = seen_split apart (atom_of atoms a) (atom_of atoms b) (atom_of atoms c) h in
    let u = word_at v e.serial in
    let w = flat_map (word_of_piece v) e.pieces in
    let ta = language e.from (u ++ w) in
    let tb = language (mkpath e.from e.onto) u in
    let tc = language e.onto w in
    let one : tb ≡ true → ta ≡ tc =
    λ led. sym (along e.from u w) ∙ ap (λ r. language r w) (path_leads apart keeps e.from e.onto u led) in
    let first : literal_holds (truths_of v atoms) b ≡ signed b.positive tb =
    membership_holds v atoms b (constant_piece e.serial ∷ []) (mkpath e.from e.onto) e.front
    ∙ ap (λ x. signed b.positive (language (mkpath e.from e.onto) x)) (append-nil u) in
    let second : literal_holds (truths_of v atoms) a ≡ signed a.positive ta =
    membership_holds v atoms a (constant_piece e.serial ∷ e.pieces) e.from e.whole in
    let third : literal_holds (truths_of v atoms) c ≡ signed c.positive tc =
    membership_holds v atoms c e.pieces e.onto e.rest in
    ap (λ x. x || (literal_holds (truths_of v atoms) a || (literal_holds (truths_of v atoms) c || false))) first
    ∙ ap (λ x. signed b.positive tb || (x || (literal_holds (truths_of v atoms) c || false))) second
    ∙ ap (λ x. signed b.positive tb || (signed a.positive ta || (x || false))) third
    ∙ one_of_three b.positive a.positive c.positive ta tb tc sign differ one

split_by_holds : OrderTellsApart → DerivativeAlongHasRests → MkpathKeepsLanguage
    → (v : Valuation) (atoms : List Atom) (clause : List Lit) (a c : Lit) → differ_in_sign a c ≡ true
    → is_split_by atoms clause a c ≡ true → clause_holds v atoms clause ≡ true
split_by_holds apart along keeps v atoms clause a c differ h =
    let b = find_any _ clause h in by b.element b.passes
  where
    by : (b : Lit) → (not b.positive
        && (is_set_of clause (b ∷ a ∷ c ∷ []) && is_split (atom_of atoms a) (atom_of atoms b) (atom_of atoms c)))
        ≡ true → clause_holds v atoms clause ≡ true
    by b here =
        let split = is_split (atom_of atoms a) (atom_of atoms b) (atom_of atoms c) in
        let one = and_parts (not b.positive) (is_set_of clause (b ∷ a ∷ c ∷ []) && split) here in
        let two = and_parts (is_set_of clause (b ∷ a ∷ c ∷ [])) split one.1 in
        any_of_set (literal_holds (truths_of v atoms)) clause (b ∷ a ∷ c ∷ []) two.0
        (split_holds apart along keeps v atoms a b c one.0 differ two.1)

step_of_holds : OrderTellsApart → DerivativeAlongHasRests → MkpathKeepsLanguage
    → (v : Valuation) (atoms : List Atom) (clause : List Lit) (a c : Lit) → is_step_of atoms clause a c ≡ true
    → clause_holds v atoms clause ≡ true
step_of_holds apart along keeps v atoms clause a c h =
    let set = is_set_of clause (a ∷ c ∷ []) in
    let is_cut_of = is_cut (atom_of atoms a) (atom_of atoms c) in
    let one = and_parts (differ_in_sign a c) (set && is_cut_of || is_split_by atoms clause a c) h in
    elim (or_cases (set && is_cut_of) (is_split_by atoms clause a c) one.1) [
      | inl cut ↦
          let two = and_parts set is_cut_of cut in
          any_of_set (literal_holds (truths_of v atoms)) clause (a ∷ c ∷ []) two.0
          (cut_holds apart along v atoms a c one.0 two.1)
      | inr split ↦ split_by_holds apart along keeps v atoms clause a c one.0 split
    ]

pub steps_hold : NullableHasEmptyWord → OrderTellsApart → DerivativeAlongHasRests → MkpathKeepsLanguage → StepsHold
steps_hold empty apart along keeps v atoms clause h =
    let a = find_any _ clause h in by a.element a.passes
  where
    by : (a : Lit) → (is_set_of clause (a ∷ []) && is_end a.positive (atom_of atoms a)
        || list_any (is_step_of atoms clause a) clause) ≡ true → clause_holds v atoms clause ≡ true
    by a here =
        let set = is_set_of clause (a ∷ []) in
        let ends = is_end a.positive (atom_of atoms a) in
        elim (or_cases (set && ends) (list_any (is_step_of atoms clause a) clause) here) [
          | inl end ↦
              let one = and_parts set ends end in
              any_of_set (literal_holds (truths_of v atoms)) clause (a ∷ []) one.0
              (or_left (literal_holds (truths_of v atoms) a) false (end_holds empty v atoms a one.1))
          | inr more ↦
              let c = find_any (is_step_of atoms clause a) clause more in
              step_of_holds apart along keeps v atoms clause a c.element c.passes
        ]

-- Empty: the words that the negations of the literals speak of.

pub record IsDenied (positive : Bool) (o : Option Atom) (m : ℕ × Regex) : Type 0 where
  pub regex : Regex
  pub there : o ≡ Some (in_atom (constant_piece m.0 ∷ []) regex)
  pub is : m.1 ≡ (if positive then mknot regex else regex)

pub seen_denied : (positive : Bool) (o : Option Atom) (m : ℕ × Regex) → denied positive o ≡ Some m
    → IsDenied positive o m
seen_denied true (Some (in_atom (constant_piece x ∷ []) r)) m h =
    let same : (x, mknot r) ≡ m = cc in
    subst (IsDenied true (Some (in_atom (constant_piece x ∷ []) r))) same
    (record { regex = r; there = refl; is = refl })
seen_denied false (Some (in_atom (constant_piece x ∷ []) r)) m h =
    let same : (x, r) ≡ m = cc in
    subst (IsDenied false (Some (in_atom (constant_piece x ∷ []) r))) same
    (record { regex = r; there = refl; is = refl })
seen_denied true _ m h = absurd (Prim.cc (h))
seen_denied false _ m h = absurd (Prim.cc (h))

-- the word of a constant is in the regex
abbrev has_word : Valuation → ℕ × Regex → Bool
has_word v m = language m.1 (word_at v m.0)

taken_word : MknotKeepsLanguage → (positive : Bool) (r : Regex) (w : List ℕ) → signed positive (language r w) ≡ false
    → language (if positive then mknot r else r) w ≡ true
unfolding language
taken_word keeps true r w is = keeps r w ∙ ap not is
taken_word keeps false r w is = not-false (language r w) is

-- a literal that is false puts the word into the regex
denied_word : MknotKeepsLanguage → (v : Valuation) (atoms : List Atom) (l : Lit) (m : ℕ × Regex)
    → denied l.positive (atom_of atoms l) ≡ Some m → literal_holds (truths_of v atoms) l ≡ false → has_word v m ≡ true
denied_word keeps v atoms l m h wrong =
    let e = seen_denied l.positive (atom_of atoms l) m h in
    let w = word_at v m.0 in
    let value : signed l.positive (language e.regex w) ≡ false =
    ap (λ x. signed l.positive (language e.regex x)) (sym (append-nil w))
    ∙ sym (membership_holds v atoms l (constant_piece m.0 ∷ []) e.regex e.there)
    ∙ wrong in
    ap (λ r. language r w) e.is ∙ taken_word keeps l.positive e.regex w value

-- what holds of each, holds of all together
all_together : {A : Type 0} (p : A → Bool) (o : Option A) (os : List (Option A)) (ms : List A)
    → together (o ∷ os) ≡ Some ms → ((m : A) → o ≡ Some m → p m ≡ true)
    → ((ns : List A) → together os ≡ Some ns → list_all p ns ≡ true) → list_all p ms ≡ true
all_together p None os ms h first rest = absurd (Prim.cc (h))
all_together {A = A} p (Some m) os ms h first rest = by (together os) refl
  where
    by : (t : Option (List A)) → together os ≡ t → list_all p ms ≡ true
    by None e =
        let none : None ≡ Some ms = ap (option_map (λ others. m ∷ others)) (sym e) ∙ h in absurd (Prim.cc (none))
    by (Some ns) e =
        let all : Some (m ∷ ns) ≡ Some ms = ap (option_map (λ others. m ∷ others)) (sym e) ∙ h in
        let parts : ms ≡ m ∷ ns = cc in
        ap (list_all p) parts ∙ and_from (p m) (list_all p ns) (first m refl) (rest ns e)

-- so a clause that is false puts it into each
denied_words : MknotKeepsLanguage → (v : Valuation) (atoms : List Atom) (clause : List Lit) (ms : List (ℕ × Regex))
    → together (map (λ l. denied l.positive (atom_of atoms l)) clause) ≡ Some ms → clause_holds v atoms clause ≡ false
    → list_all (has_word v) ms ≡ true
denied_words keeps v atoms [] ms h wrong = let none_left : ms ≡ [] = cc in ap (list_all (has_word v)) none_left
denied_words keeps v atoms (l ∷ ls) ms h wrong =
    let parts = or_parts (literal_holds (truths_of v atoms) l) (clause_holds v atoms ls) wrong in
    all_together (has_word v) (denied l.positive (atom_of atoms l))
    (map (λ l. denied l.positive (atom_of atoms l)) ls) ms h
    (λ m e. denied_word keeps v atoms l m e parts.0)
    (λ ns e. denied_words keeps v atoms ls ns e parts.1)

-- where they are of one constant, its word is in each regex
one_word : (v : Valuation) (x : ℕ) (ms : List (ℕ × Regex)) → list_all (λ n. n.0 == x) ms ≡ true
    → list_all (has_word v) ms ≡ true → list_all (λ r. language r (word_at v x)) (map (λ n. n.1) ms) ≡ true
one_word v x [] same all = refl
one_word v x (m ∷ ms) same all =
    let one = and_parts (m.0 == x) (list_all (λ n. n.0 == x) ms) same in
    let two = and_parts (has_word v m) (list_all (has_word v) ms) all in
    and_from (language m.1 (word_at v x)) (list_all (λ r. language r (word_at v x)) (map (λ n. n.1) ms))
    (ap (λ y. language m.1 (word_at v y)) (sym (eqb-true m.0 x one.0)) ∙ two.0)
    (one_word v x ms one.1 two.1)

-- a regex that is kept as dead has no word of characters
dead_has_none : OrderTellsApart → (kept : AllKept) (r : Regex) → AreEmpty kept.regexes kept.dead
    → is_dead_regex kept r ≡ true → HasNone r
dead_has_none apart kept r dead h =
    let f = find_beside (regex_eq r) kept.regexes kept.dead h in
    λ w is. ap (λ q. language q w) (same_regex apart r f.element f.passes)
    ∙ dead f.number f.element f.is_marked f.there w is

-- so not all of them can be in regexes whose intersection is dead
no_word_in_all : OrderTellsApart → IntersectionIsOfEach → MkandKeepsLanguage → (v : Valuation) (kept : AllKept)
    → HasWords v → AreEmpty kept.regexes kept.dead → (ms : List (ℕ × Regex)) → have_no_word kept ms ≡ true
    → list_all (has_word v) ms ≡ true → ⊥
no_word_in_all apart each keeps v kept words dead [] h all = false≢true h
no_word_in_all apart each keeps v kept words dead (m ∷ ms) h all =
    let rs = map (λ n. n.1) (m ∷ ms) in
    let w = word_at v m.0 in
    let one = and_parts (list_all (λ n. n.0 == m.0) ms) (is_dead_regex kept (mkand rs)) h in
    let two = and_parts (has_word v m) (list_all (has_word v) ms) all in
    let in_rest : list_all (λ r. language r w) (map (λ n. n.1) ms) ≡ true = one_word v m.0 ms one.0 two.1 in
    let in_all : list_all (λ r. language r w) rs ≡ true =
    and_from (language m.1 w) (list_all (λ r. language r w) (map (λ n. n.1) ms)) two.0 in_rest in
    let there : language (mkand rs) w ≡ true = keeps rs w ∙ each rs w ∙ in_all in
    let not_there : language (mkand rs) w ≡ false =
    dead_has_none apart kept (mkand rs) dead one.1 w (words m.0) in
    false≢true (sym not_there ∙ there)

pub empty_holds : OrderTellsApart → IntersectionIsOfEach → MkandKeepsLanguage → MknotKeepsLanguage → EmptyHolds
empty_holds apart each keeps keeps_not v kept clause words dead h =
    true_from_ne_false (clause_holds v kept.atoms clause) (λ wrong.
    by (together (map (λ l. denied l.positive (atom_of kept.atoms l)) clause)) refl h wrong)
  where
    by : (o : Option (List (ℕ × Regex))) → together (map (λ l. denied l.positive (atom_of kept.atoms l)) clause) ≡ o
        → elim o as (λ _. Bool) [ None ↦ false | Some ms ↦ have_no_word kept ms ] ≡ true
        → clause_holds v kept.atoms clause ≡ false → ⊥
    by None there found wrong = false≢true found
    by (Some ms) there found wrong =
        no_word_in_all apart each keeps v kept words dead ms found
        (denied_words keeps_not v kept.atoms clause ms there wrong)
