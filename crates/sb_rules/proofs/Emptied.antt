-- The clauses of memberships with no word in common.
use Rattle.std.proofs.Common.{◌≡◌, ℕ, ◌<◌, Bool, true, false, ◌&&◌, ◌==◌, not, nat_lt, if◌then◌else◌, List, [], ◌∷◌, ◌++◌, map, length, get_or, Option, Some, None, is_some, option_map, slice_get, Err, refl, ap, ap₂, sym, subst, ◌∙◌}
use Rattle.std.specs.List.{list_all}
use Rattle.std.proofs.lemmas.Bool.{and_parts, false≢true}
use Rattle.std.proofs.lemmas.Bool.Decides.{nat_tests}
use Rattle.std.proofs.Common.{arith}
use Rattle.std.proofs.lemmas.Option.{slice_get-map}
use Rattle.std.proofs.lemmas.List.{length-map, map-append}
use Rattle.std.proofs.lemmas.List.Folds.{list_all_at}
use Rattle.std.proofs.lemmas.List.Elements.{All-append, All-cons, All-nil}
use Rattle.sb_lang.specs.Regex.{Regex}
use Rattle.sb_lang.specs.Constructors.{mkand, mknot}
use Rattle.sb_regex.specs.Numbered.{regex_at, Extends}
use Rattle.sb_regex.proofs.CallerLemmas.{at_kept, ats_kept, numbers_kept, extends_same, extends_more}
use Rattle.sb_lit.specs.declared.clause.Lit.{Lit}
use Rattle.sb_lit.specs.Clauses.{are_ascending}
use Rattle.sb_lit.specs.Hints.{is_repeated}
use Rattle.sb_script.specs.Pieces.{constant_piece, word_piece}
use Rattle.sb_atoms.specs.Numbered.{over, atoms_in, HaveRegexesBelow}
use Rattle.sb_rulebook.specs.Atoms.{AtomOver, bool_atom, in_atom, le_atom, sum_atom, and_atom, iff_atom}
use Rattle.sb_rulebook.specs.Gates.{atom_of}
use Rattle.sb_rulebook.specs.AtomRules.{are_known}
use Rattle.sb_rulebook.specs.Follows.{follows}
use Rattle.sb_rulebook.specs.Kept.{AllKept, Asked, counting, with_clause}
use Rattle.sb_rulebook.specs.Lines.{rule_line, empty, step}
use Rattle.sb_rulebook.specs.Refusals.{unknown_id, repeated, rule_broken}
use Rattle.sb_rulebook.specs.Parts.{together}
use Rattle.sb_rulebook.specs.Splits.{denied, have_no_word, is_empty, is_dead_regex, is_step}
use Rattle.sb_rules.specs.declared.kept.Kept.{Kept}
use Rattle.sb_rules.specs.Kept.{kept_in}
use Rattle.sb_rules.specs.Refuting.{member_in, member_at, is_of, denied_regex, denied_at, AreDenied}

-- A literal's membership, and the regex in which the constant's word is where the literal is false.

abbrev denial : List Regex → Bool → Option (ℕ × ℕ) → Option (ℕ × Regex)
denial rs positive o = option_map (λ m. (m.0, denied_regex rs positive (Some m))) o

denied_one : (rs : List Regex) (p : Bool) (o : Option (AtomOver ℕ))
    → denied p (option_map (over rs) o) ≡ denial rs p (member_in o)
denied_one rs true None = refl
denied_one rs true (Some (in_atom (constant_piece x ∷ []) r)) = refl
denied_one rs true (Some (in_atom [] r)) = refl
denied_one rs true (Some (in_atom (word_piece w ∷ ps) r)) = refl
denied_one rs true (Some (in_atom (constant_piece x ∷ p ∷ ps) r)) = refl
denied_one rs true (Some (bool_atom serial)) = refl
denied_one rs true (Some (le_atom x k)) = refl
denied_one rs true (Some (sum_atom k ss)) = refl
denied_one rs true (Some (and_atom ls)) = refl
denied_one rs true (Some (iff_atom l m)) = refl
denied_one rs false None = refl
denied_one rs false (Some (in_atom (constant_piece x ∷ []) r)) = refl
denied_one rs false (Some (in_atom [] r)) = refl
denied_one rs false (Some (in_atom (word_piece w ∷ ps) r)) = refl
denied_one rs false (Some (in_atom (constant_piece x ∷ p ∷ ps) r)) = refl
denied_one rs false (Some (bool_atom serial)) = refl
denied_one rs false (Some (le_atom x k)) = refl
denied_one rs false (Some (sum_atom k ss)) = refl
denied_one rs false (Some (and_atom ls)) = refl
denied_one rs false (Some (iff_atom l m)) = refl

-- the same of all literals
abbrev denials : List Regex → List (AtomOver ℕ) → List Lit → List (Option (ℕ × Regex))
denials rs atoms ls = map (λ l. denial rs l.positive (member_at atoms l)) ls

denied_all : (rs : List Regex) (atoms : List (AtomOver ℕ)) (ls : List Lit)
    → map (λ l. denied l.positive (atom_of (atoms_in rs atoms) l)) ls ≡ denials rs atoms ls
denied_all rs atoms [] = refl
denied_all rs atoms (l ∷ ls) =
    ap₂ ◌∷◌ (ap (denied l.positive) (slice_get-map (over rs) atoms l.atom)
    ∙ denied_one rs l.positive (slice_get atoms l.atom)) (denied_all rs atoms ls)

some_is : {X : Type 0} (x y : X) → Some x ≡ Some y → x ≡ y
some_is x y e = cc

itself : (n : ℕ) → (n == n) ≡ true
itself n = grind (arith, nat_tests)

same_number : (n m : ℕ) → (n == m) ≡ true → n ≡ m
same_number n m h = grind (arith, nat_tests)

module _ (rs : List Regex) (atoms : List (AtomOver ℕ)) (x : ℕ) where
  abbrev pub are_of : List Lit → Bool
  are_of ls = list_all (λ l. is_of x (member_at atoms l)) ls

  -- where all are memberships of the constant
  all_there : (ls : List Lit) → are_of ls ≡ true
      → together (denials rs atoms ls) ≡ Some (map (λ l. (x, denied_at rs atoms l)) ls)
  all_there [] h = refl
  all_there (l ∷ ls) h =
      let parts = and_parts (is_of x (member_at atoms l)) (are_of ls) h in
      first (member_at atoms l) refl parts.0
      ∙ ap (option_map (λ others. (x, denied_at rs atoms l) ∷ others)) (all_there ls parts.1)
    where
      first : (o : Option (ℕ × ℕ)) → member_at atoms l ≡ o → is_of x o ≡ true
          → together (denial rs l.positive o ∷ denials rs atoms ls)
          ≡ option_map (λ others. (x, denied_regex rs l.positive o) ∷ others) (together (denials rs atoms ls))
      first None e h = absurd (false≢true h)
      first (Some m) e h =
          ap (λ n. option_map (λ others. (n, denied_regex rs l.positive (Some m)) ∷ others)
          (together (denials rs atoms ls))) (same_number m.0 x h)

  -- where one is not
  not_all_there : (ls : List Lit) → are_of ls ≡ false → (ms : List (ℕ × Regex))
      → together (denials rs atoms ls) ≡ Some ms → list_all (λ n. n.0 == x) ms ≡ false
  not_all_there [] h ms e = absurd (false≢true (sym h))
  not_all_there (l ∷ ls) h ms e =
      first (λ f others is. not_all_there ls f others is) (member_at atoms l) h e
    where
      first : (are_of ls ≡ false → (others : List (ℕ × Regex)) → together (denials rs atoms ls) ≡ Some others
          → list_all (λ n. n.0 == x) others ≡ false) → (o : Option (ℕ × ℕ)) → (is_of x o && are_of ls) ≡ false
          → together (denial rs l.positive o ∷ denials rs atoms ls) ≡ Some ms → list_all (λ n. n.0 == x) ms ≡ false
      first again None h e = absurd (Prim.cc (e))
      first again (Some m) h e = rest (together (denials rs atoms ls)) refl e
        where
          rest : (o : Option (List (ℕ × Regex))) → together (denials rs atoms ls) ≡ o
              → option_map (λ others. (m.0, denied_regex rs l.positive (Some m)) ∷ others) o ≡ Some ms
              → list_all (λ n. n.0 == x) ms ≡ false
          rest None is e = absurd (Prim.cc (e))
          rest (Some others) is e =
              ap (list_all (λ n. n.0 == x)) (sym (some_is _ ms e)) ∙ last (m.0 == x) (are_of ls) refl h
            where
              last : (s t : Bool) → are_of ls ≡ t → (s && t) ≡ false
                  → (s && list_all (λ n. n.0 == x) others) ≡ false
              last false t f h = refl
              last true true f h = absurd (false≢true (sym h))
              last true false f h = again f others is

  same_constants : (ls : List Lit)
      → list_all (λ (n : ℕ × Regex). n.0 == x) (map (λ l. (x, denied_at rs atoms l)) ls) ≡ true
  same_constants [] = refl
  same_constants (l ∷ ls) = ap₂ ◌&&◌ (itself x) (same_constants ls)

  same_regexes : (ls : List Lit)
      → map (λ (n : ℕ × Regex). n.1) (map (λ l. (x, denied_at rs atoms l)) ls) ≡ map (denied_at rs atoms) ls
  same_regexes [] = refl
  same_regexes (l ∷ ls) = ap (λ qs. denied_at rs atoms l ∷ qs) (same_regexes ls)

-- What rule empty asks.

abbrev asks : AllKept → Option (List (ℕ × Regex)) → Bool
asks kept o = elim o as (λ _. Bool) [ None ↦ false | Some ms ↦ have_no_word kept ms ]

by_denials : (k : Kept) (others : AllKept) (ls : List Lit)
    → is_empty (kept_in k others) ls ≡ asks (kept_in k others) (together (denials k.arena k.atoms ls))
by_denials k others ls = ap (λ os. asks (kept_in k others) (together os)) (denied_all k.arena k.atoms ls)

-- the first literal is no membership of one constant
pub not_member : (k : Kept) (others : AllKept) (l : Lit) (ls : List Lit) → slice_get ls 0 ≡ Some l
    → None ≡ member_at k.atoms l → false ≡ is_empty (kept_in k others) ls
not_member k others l [] e h = absurd (Prim.cc (e))
not_member k others l (m ∷ ls) e h =
    sym (by_denials k others (m ∷ ls)
    ∙ ap (λ o. asks (kept_in k others) (together (denial k.arena m.positive o ∷ denials k.arena k.atoms ls)))
    (ap (member_at k.atoms) (some_is m l e) ∙ sym h))

-- it is of a constant, and some literal is not
pub not_constants : (k : Kept) (others : AllKept) (l : Lit) (ls : List Lit) (x r : ℕ) → slice_get ls 0 ≡ Some l
    → Some (x, r) ≡ member_at k.atoms l → are_of k.arena k.atoms x ls ≡ false
    → false ≡ is_empty (kept_in k others) ls
not_constants k others l [] x r e h f = absurd (Prim.cc (e))
not_constants k others l (m ∷ ls) x r e h f =
    sym (by_denials k others (m ∷ ls) ∙ step (together (denials k.arena k.atoms (m ∷ ls))) refl)
  where
    its : member_at k.atoms m ≡ Some (x, r)
    its = ap (member_at k.atoms) (some_is m l e) ∙ sym h

    step : (o : Option (List (ℕ × Regex))) → together (denials k.arena k.atoms (m ∷ ls)) ≡ o
        → asks (kept_in k others) o ≡ false
    step None is = refl
    step (Some ms) is = last (together (denials k.arena k.atoms ls))
        (sym is ∙ ap (λ q. together (denial k.arena m.positive q ∷ denials k.arena k.atoms ls)) its)
      where
        last : (o : Option (List (ℕ × Regex)))
            → Some ms ≡ option_map (λ os. (x, denied_regex k.arena m.positive (Some (x, r))) ∷ os) o
            → have_no_word (kept_in k others) ms ≡ false
        last None g = absurd (Prim.cc (g))
        last (Some os) g =
            let front : ms ≡ (x, denied_regex k.arena m.positive (Some (x, r))) ∷ os = some_is _ _ g in
            let all : list_all (λ n. n.0 == x) ms ≡ false =
            not_all_there k.arena k.atoms x (m ∷ ls) f ms is in
            let others_not : list_all (λ n. n.0 == x) os ≡ false =
            sym (ap (λ b. b && list_all (λ n. n.0 == x) os) (itself x))
            ∙ sym (ap (list_all (λ n. n.0 == x)) front) ∙ all in
            ap (have_no_word (kept_in k others)) front
            ∙ ap (λ b. b && is_dead_regex (kept_in k others) (mkand (denied_regex k.arena m.positive (Some (x, r))
            ∷ map (λ n. n.1) os))) others_not

-- all are of the constant
pub by_regex : (k : Kept) (others : AllKept) (l : Lit) (ls : List Lit) (x : ℕ) (d : Bool) (r : Regex)
    (qs : List Regex) → slice_get ls 0 ≡ Some l → are_of k.arena k.atoms x ls ≡ true
    → qs ≡ map (denied_at k.arena k.atoms) ls → r ≡ mkand qs
    → d ≡ is_dead_regex (kept_in k others) r → d ≡ is_empty (kept_in k others) ls
by_regex k others l [] x d r qs e f i n h = absurd (Prim.cc (e))
by_regex k others l (m ∷ ls) x d r qs e f i n h =
    h ∙ ap (λ q. is_dead_regex (kept_in k others) q) (n ∙ ap mkand i)
    ∙ sym (by_denials k others (m ∷ ls)
    ∙ ap (asks (kept_in k others)) (all_there k.arena k.atoms x (m ∷ ls) f)
    ∙ ap₂ (λ s ps. s && is_dead_regex (kept_in k others) (mkand (denied_at k.arena k.atoms m ∷ ps)))
    (same_constants k.arena k.atoms x ls) (same_regexes k.arena k.atoms x ls))

-- Lists of literals that are tested one by one.

pub all_members : (atoms : List (AtomOver ℕ)) (x : ℕ) (ls : List Lit)
    → list_all (λ l. is_of x (member_at atoms l)) ls ≡ true → list_all (λ l. is_some (member_at atoms l)) ls ≡ true
all_members atoms x [] h = refl
all_members atoms x (l ∷ ls) h =
    let parts = and_parts (is_of x (member_at atoms l)) (list_all (λ m. is_of x (member_at atoms m)) ls) h in
    ap₂ ◌&&◌ (one (member_at atoms l) parts.0) (all_members atoms x ls parts.1)
  where
    one : (o : Option (ℕ × ℕ)) → is_of x o ≡ true → is_some o ≡ true
    one None h = h
    one (Some m) h = refl

-- a membership's regex is one of the arena
pub member_below : (n : ℕ) (atoms : List (AtomOver ℕ)) (i x r : ℕ) → HaveRegexesBelow n atoms
    → Some (x, r) ≡ member_in (slice_get atoms i) → r < n
member_below n atoms i x r below e = step (slice_get atoms i) refl e
  where
    step : (o : Option (AtomOver ℕ)) → slice_get atoms i ≡ o → Some (x, r) ≡ member_in o → r < n
    step (Some (in_atom (constant_piece y ∷ []) q)) is e =
        subst (λ (p : ℕ × ℕ). p.1 < n) (sym (some_is (x, r) (y, q) e)) (below i (in_atom (constant_piece y ∷ []) q) is)
    step None is e = absurd (Prim.cc (e))
    step (Some (in_atom [] q)) is e = absurd (Prim.cc (e))
    step (Some (in_atom (word_piece w ∷ ps) q)) is e = absurd (Prim.cc (e))
    step (Some (in_atom (constant_piece y ∷ p ∷ ps) q)) is e = absurd (Prim.cc (e))
    step (Some (bool_atom serial)) is e = absurd (Prim.cc (e))
    step (Some (le_atom y k)) is e = absurd (Prim.cc (e))
    step (Some (sum_atom k ss)) is e = absurd (Prim.cc (e))
    step (Some (and_atom ls)) is e = absurd (Prim.cc (e))
    step (Some (iff_atom l m)) is e = absurd (Prim.cc (e))

-- what holds of each literal of some holds of one of them
pub at-literal : (p : Lit → Bool) (ls : List Lit) (i : ℕ) (d : Lit) → list_all p ls ≡ true → i < length ls
    → p (get_or ls i d) ≡ true
at-literal p ls i d h low = by (p (get_or ls i d)) refl
  where
    by : (b : Bool) → p (get_or ls i d) ≡ b → b ≡ true
    by true e = refl
    by false e = absurd (false≢true (sym (list_all_at p ls i d low e) ∙ h))

pub atom-within : (ls : List Lit) (n i : ℕ) (d : Lit) → list_all (λ l. nat_lt l.atom n) ls ≡ true → i < length ls
    → (get_or ls i d).atom < n
atom-within ls n i d h low =
    let test = at-literal (λ l. nat_lt l.atom n) ls i d h low in grind (arith, nat_tests, test)

pub member-there : (atoms : List (AtomOver ℕ)) (ls : List Lit) (i : ℕ) (d : Lit)
    → list_all (λ l. is_some (member_at atoms l)) ls ≡ true → i < length ls
    → None ≡ member_at atoms (get_or ls i d) → ⊥
member-there atoms ls i d h low none =
    false≢true (ap is_some none ∙ at-literal (λ l. is_some (member_at atoms l)) ls i d h low)

-- one regex more
pub none_denied : (rs : List Regex) (atoms : List (AtomOver ℕ)) → AreDenied rs atoms rs [] []
none_denied rs atoms = record { regexes = refl; known = All-nil _; extends = extends_same rs }

pub one_denied : (old mid new : List Regex) (atoms : List (AtomOver ℕ)) (ids : List ℕ) (ls : List Lit) (l : Lit)
    (x r id : ℕ) → HaveRegexesBelow (length old) atoms → AreDenied old atoms mid ids ls
    → Some (x, r) ≡ member_at atoms l
    → regex_at new id ≡ (if l.positive then mknot (regex_at mid r) else regex_at mid r) → id < length new
    → Extends mid new → AreDenied old atoms new (ids ++ id ∷ []) (ls ++ l ∷ [])
one_denied old mid new atoms ids ls l x r id below so is regex low grows = record {
  regexes = map-append (regex_at new) ids (id ∷ [])
      ∙ ap₂ (λ ps q. ps ++ q ∷ []) (ats_kept mid new ids grows so.known ∙ so.regexes) its
      ∙ sym (map-append (denied_at old atoms) ls (l ∷ []));
  known = All-append (λ i. i < length new) ids (id ∷ []) (numbers_kept mid new ids grows so.known)
      (All-cons (λ i. i < length new) id [] low (All-nil _));
  extends = extends_more old mid new so.extends grows;
}
  where
    its : regex_at new id ≡ denied_at old atoms l
    its = regex
        ∙ ap (λ q. if l.positive then mknot q else q)
        (at_kept old mid r so.extends (member_below (length old) atoms l.atom x r below is))
        ∙ ap (denied_regex old l.positive) is

-- what is made of a line of a rule by which clauses are new and counted, of literals of known atoms that ascend and are
-- new
by_new_rule : (asked : Asked) (k : Kept) (others : AllKept) (ls : List Lit) (b holds : Bool)
    → list_all (λ m. nat_lt m.atom (length k.atoms)) ls ≡ true
    → is_repeated k.clauses ls ≡ false → are_ascending ls ≡ true → b ≡ holds
    → (if not (are_known (atoms_in k.arena k.atoms) ls) then Err unknown_id
    else if is_repeated k.clauses ls then Err repeated
    else if not (are_ascending ls && holds) then Err rule_broken
    else counting asked (with_clause (kept_in k others) ls 0 []))
    ≡ (if not b then Err rule_broken else counting asked (with_clause (kept_in k others) ls 0 []))
by_new_rule asked k others ls b holds known new ascend is =
    ap (λ t. if not t then Err unknown_id
    else if is_repeated k.clauses ls then Err repeated
    else if not (are_ascending ls && holds) then Err rule_broken
    else counting asked (with_clause (kept_in k others) ls 0 []))
    (ap (λ n. list_all (λ m. nat_lt m.atom n) ls) (length-map k.atoms (over k.arena)) ∙ known)
    ∙ (ap (λ t. if t then Err repeated
    else if not (are_ascending ls && holds) then Err rule_broken
    else counting asked (with_clause (kept_in k others) ls 0 [])) new
    ∙ (ap (λ t. if not (t && holds) then Err rule_broken
    else counting asked (with_clause (kept_in k others) ls 0 [])) ascend
    ∙ ap (λ t. if not t then Err rule_broken else counting asked (with_clause (kept_in k others) ls 0 [])) (sym is)))

pub by_rule_empty : (asked : Asked) (k : Kept) (others : AllKept) (ls : List Lit) (b : Bool)
    → list_all (λ m. nat_lt m.atom (length k.atoms)) ls ≡ true
    → is_repeated k.clauses ls ≡ false → are_ascending ls ≡ true → b ≡ is_empty (kept_in k others) ls
    → follows asked (kept_in k others) (rule_line empty ls)
    ≡ (if not b then Err rule_broken else counting asked (with_clause (kept_in k others) ls 0 []))
by_rule_empty asked k others ls b known new ascend is =
    by_new_rule asked k others ls b (is_empty (kept_in k others) ls) known new ascend is

pub by_rule_step : (asked : Asked) (k : Kept) (others : AllKept) (ls : List Lit) (b : Bool)
    → list_all (λ m. nat_lt m.atom (length k.atoms)) ls ≡ true
    → is_repeated k.clauses ls ≡ false → are_ascending ls ≡ true → b ≡ is_step (kept_in k others).atoms ls
    → follows asked (kept_in k others) (rule_line step ls)
    ≡ (if not b then Err rule_broken else counting asked (with_clause (kept_in k others) ls 0 []))
by_rule_step asked k others ls b known new ascend is =
    by_new_rule asked k others ls b (is_step (kept_in k others).atoms ls) known new ascend is
