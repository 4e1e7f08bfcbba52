-- What holds of all names, and of all terms of assertions, at each level of a state: what every entry keeps so.
use Rattle.std.proofs.Common.{◌≡◌, ℕ, zero, suc, Bool, true, false, ◌&&◌, if◌then◌else◌, List, [], ◌∷◌, ◌++◌, length, drop, replicate, Ok, refl, ap, ◌∙◌}
use Rattle.std.specs.List.{list_all}
use Rattle.std.proofs.lemmas.Bool.{and_parts, and_from}
use Rattle.sb_reader.specs.Forms.{Form}
use Rattle.sb_reader.specs.Entries.{Entry}
use Rattle.sb_meaning.specs.Terms.{Sort, boolean, Term}
use Rattle.sb_meaning.specs.Sorts.{sort_of, is_same_sort}
use Rattle.sb_script.specs.Names.{Name}
use Rattle.sb_script.specs.Brought.{definitions, is_brought, is_brought_sort}
use Rattle.sb_script.specs.Scopes.{Naming, a_constant, a_definition, a_marked_name}
use Rattle.sb_script.specs.Commands.{Parameter}
use Rattle.sb_script.specs.State.{State, Level, Assertion, asserted, a_mark, empty_level, over_levels, names_of, live_terms, in_level, in_level_of_names, innermost, said, with_name, with_assertion, terms_in}
use Rattle.sb_script.specs.Steps.{Step, answers, leaves, checks, exits}
use Rattle.sb_script.specs.Reading.{read}
use Rattle.sb_script.specs.Replies.{bound_from, step_of}
use Rattle.sb_script.proofs.ReadingFacts.{all_both}
use Rattle.sb_script.proofs.StepLemmas.{entry_keeps}

all_dropped : {A : Type 0} (p : A → Bool) (n : ℕ) (xs : List A) → list_all p xs ≡ true → list_all p (drop n xs) ≡ true
all_dropped p zero xs all = all
all_dropped p (suc n) [] all = refl
all_dropped p (suc n) (x ∷ xs) all = all_dropped p n xs (and_parts (p x) (list_all p xs) all).1

all_repeated : {A : Type 0} (p : A → Bool) (n : ℕ) (x : A) → p x ≡ true → list_all p (replicate n x) ≡ true
all_repeated p zero x here = refl
all_repeated p (suc n) x here = and_from (p x) (list_all p (replicate n x)) here (all_repeated p n x here)

terms_of_both : (xs ys : List Assertion) → terms_in (xs ++ ys) ≡ terms_in xs ++ terms_in ys
terms_of_both [] ys = refl
terms_of_both (asserted t ∷ xs) ys = ap (λ ts. t ∷ ts) (terms_of_both xs ys)
terms_of_both (a_mark ∷ xs) ys = terms_of_both xs ys

-- The tests hold of what is declared, defined and asserted, where that of names holds of the names in force.
pub record LevelsKeep (name_is : Naming → Bool) (term_is : Term → Bool) : Type 0 where
  pub declares : (name : Name) (serial : ℕ) (sort : Sort) → is_brought_sort sort ≡ true
      → name_is (name, a_constant serial sort) ≡ true
  pub marks : (name : Name) → name_is (name, a_marked_name) ≡ true
  pub makes : (names : List Naming) → list_all name_is names ≡ true → (name : Name) (parameters : List Parameter)
      (sorts : List Sort) (form : Form) (body : Term) → is_brought definitions ≡ true
      → read (bound_from 0 parameters sorts ++ names) form ≡ Ok body → name_is (name, a_definition sorts body) ≡ true
  pub asserts : (names : List Naming) → list_all name_is names ≡ true → (form : Form) (t : Term)
      → read names form ≡ Ok t → is_same_sort boolean (sort_of t) ≡ true → term_is t ≡ true

module _ (name_is : Naming → Bool) (term_is : Term → Bool) where
  abbrev level_is : Level → Bool
  level_is l = list_all name_is l.names && list_all term_is (terms_in l.assertions)

  abbrev state_is : State → Bool
  state_is s = level_is s.first && list_all level_is s.above

  abbrev pub behind_is : Step → Bool
  behind_is (answers text new) = state_is new
  behind_is (leaves what text new) = state_is new
  behind_is (checks assumptions) = true
  behind_is (exits text) = true

  level_parts : (l : Level) → level_is l ≡ true
      → (list_all name_is l.names ≡ true) × (list_all term_is (terms_in l.assertions) ≡ true)
  level_parts l h = and_parts (list_all name_is l.names) (list_all term_is (terms_in l.assertions)) h

  state_parts : (s : State) → state_is s ≡ true → (level_is s.first ≡ true) × (list_all level_is s.above ≡ true)
  state_parts s h = and_parts (level_is s.first) (list_all level_is s.above) h

  pub names_all : (s : State) → state_is s ≡ true → list_all name_is (names_of s) ≡ true
  names_all s h = over s.first s.above (state_parts s h).0 (state_parts s h).1
    where
      over : (first : Level) (above : List Level) → level_is first ≡ true → list_all level_is above ≡ true
          → list_all name_is (over_levels (λ l. l.names) first above) ≡ true
      over first [] one all = (level_parts first one).0
      over first (l ∷ ls) one all =
          let parts = and_parts (level_is l) (list_all level_is ls) all in
          all_both name_is (over_levels (λ l. l.names) first ls) l.names (over first ls one parts.1)
          (level_parts l parts.0).0

  pub live_all : (s : State) → state_is s ≡ true → list_all term_is (live_terms s) ≡ true
  live_all s h = over s.first s.above (state_parts s h).0 (state_parts s h).1
    where
      over : (first : Level) (above : List Level) → level_is first ≡ true → list_all level_is above ≡ true
          → list_all term_is (terms_in (over_levels (λ l. l.assertions) first above)) ≡ true
      over first [] one all = (level_parts first one).1
      over first (l ∷ ls) one all =
          let parts = and_parts (level_is l) (list_all level_is ls) all in
          ap (list_all term_is) (terms_of_both (over_levels (λ l. l.assertions) first ls) l.assertions)
          ∙ all_both term_is (terms_in (over_levels (λ l. l.assertions) first ls)) (terms_in l.assertions)
          (over first ls one parts.1) (level_parts l parts.0).1

  in_one : (change : Level → Level) → ((l : Level) → level_is l ≡ true → level_is (change l) ≡ true)
      → (first : Level) (above : List Level) → level_is first ≡ true → list_all level_is above ≡ true
      → (level_is (in_level change first above).0 && list_all level_is (in_level change first above).1) ≡ true
  in_one change keeps first [] one all = and_from (level_is (change first)) true (keeps first one) refl
  in_one change keeps first (l ∷ ls) one all =
      let parts = and_parts (level_is l) (list_all level_is ls) all in
      and_from (level_is first) (list_all level_is (change l ∷ ls)) one
      (and_from (level_is (change l)) (list_all level_is ls) (keeps l parts.0) parts.1)

  -- the innermost level changed
  changed : (change : Level → Level) → ((l : Level) → level_is l ≡ true → level_is (change l) ≡ true) → (s : State)
      → state_is s ≡ true → state_is (innermost change s) ≡ true
  changed change keeps s h = in_one change keeps s.first s.above (state_parts s h).0 (state_parts s h).1

  -- the level changed that new names enter
  changed_of_names : (global : Bool) (change : Level → Level)
      → ((l : Level) → level_is l ≡ true → level_is (change l) ≡ true) → (first : Level) (above : List Level)
      → level_is first ≡ true → list_all level_is above ≡ true
      → (let levels = in_level_of_names global change first above in
      level_is levels.0 && list_all level_is levels.1) ≡ true
  changed_of_names true change keeps first above one all =
      and_from (level_is (change first)) (list_all level_is above) (keeps first one) all
  changed_of_names false change keeps first above one all = in_one change keeps first above one all

  named : (n : Naming) (s : State) → state_is s ≡ true → name_is n ≡ true → state_is (with_name n.0 n.1 s) ≡ true
  named n s h here =
      let both = state_parts s h in
      changed_of_names s.options.global_declarations (λ l. record l { names = l.names ++ n ∷ [] })
      (λ l one.
      let parts = level_parts l one in
      and_from (list_all name_is (l.names ++ n ∷ [])) (list_all term_is (terms_in l.assertions))
      (all_both name_is l.names (n ∷ []) parts.0 (and_from (name_is n) true here refl)) parts.1) s.first s.above both.0
      both.1

  with_one : (a : Assertion) (s : State) → state_is s ≡ true → list_all term_is (terms_in (a ∷ [])) ≡ true
      → state_is (with_assertion a s) ≡ true
  with_one a s h here = changed (λ l. record l { assertions = l.assertions ++ a ∷ [] })
      (λ l one.
      let parts = level_parts l one in
      and_from (list_all name_is l.names) (list_all term_is (terms_in (l.assertions ++ a ∷ []))) parts.0
      (ap (list_all term_is) (terms_of_both l.assertions (a ∷ []))
      ∙ all_both term_is (terms_in l.assertions) (terms_in (a ∷ [])) parts.1 here)) (said s) h

  -- the first level without its assertions, and without its names too unless these stay
  emptied : (global : Bool) (l : Level) → level_is l ≡ true
      → (level_is (record { names = if global then l.names else []; assertions = [] }) && true) ≡ true
  emptied true l one =
      and_from (list_all name_is l.names && true) true
      (and_from (list_all name_is l.names) true (level_parts l one).0 refl) refl
  emptied false l one = refl

  pub levels_keep : LevelsKeep name_is term_is → (entry : Entry) (s : State) → state_is s ≡ true
      → behind_is (step_of entry s) ≡ true
  levels_keep keep entry s h = entry_keeps s.mode s (λ ends other x. behind_is x ≡ true) (record {
    stays = λ bytes text. h;
    sets = λ bytes logic begun options. h;
    declares = λ bytes name sort brought.
        named (name, a_constant (length s.sorts) sort) (record s { sorts = s.sorts ++ sort ∷ [] }) h
        (keep.declares name (length s.sorts) sort brought);
    marks = λ bytes name. named (name, a_marked_name) s h (keep.marks name);
    makes = λ bytes name ps sorts form body brought is.
        named (name, a_definition sorts body) s h
        (keep.makes (names_of s) (names_all s h) name ps sorts form body brought is);
    asserts = λ bytes form t is truth.
        with_one (asserted t) s h
        (and_from (term_is t) true (keep.asserts (names_of s) (names_all s h) form t is truth) refl);
    omits = λ bytes. with_one a_mark s h refl;
    pushes = λ bytes n.
        let parts = state_parts s h in
        and_from (level_is s.first) (list_all level_is (replicate n empty_level ++ s.above)) parts.0
        (all_both level_is (replicate n empty_level) s.above (all_repeated level_is n empty_level refl) parts.1);
    pops = λ bytes n.
        let parts = state_parts s h in
        and_from (level_is s.first) (list_all level_is (drop n s.above)) parts.0
        (all_dropped level_is n s.above parts.1);
    clears = λ bytes. emptied s.options.global_declarations s.first (state_parts s h).0;
    resets = λ bytes. refl;
    asks = λ forms. refl;
    ends = λ bytes. refl;
  }) entry
