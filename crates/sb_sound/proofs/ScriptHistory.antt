-- The events of a script are a history.
use Rattle.std.proofs.Common.{◌≡◌, ℕ, zero, suc, ◌+◌, ◌≤◌, Bool, true, false, if◌then◌else◌, nat_lt, List, [], ◌∷◌, ◌++◌, length, map, drop, slice_get, Option, Some, None, inl, inr, ◌⊎◌, refl, sym, subst, ap, ◌∙◌, arith, append_assoc}
use Rattle.std.specs.Prelude.{replicate}
use Rattle.std.specs.List.{list_all, All, Contains}
use Rattle.std.proofs.lemmas.Bool.{and_parts, and_from, false≢true, lt-ltb, ltb-true}
use Rattle.std.proofs.lemmas.List.{append-nil, length-drop}
use Rattle.std.proofs.lemmas.List.Elements.{All-nil, All-cons, All-append, All-contains}
use Rattle.sb_reader.specs.Forms.{Form, Symbol, QuotedSymbol, Group, none, more}
use Rattle.sb_reader.specs.Entries.{Entry}
use Rattle.sb_meaning.specs.Terms.{Sort, Term, Terms, boolean, integer, text, reglan, constant, word, numeral, apply, parameter, no_terms, with_term}
use Rattle.sb_meaning.specs.Sorts.{is_same_sort}
use Rattle.sb_script.specs.Names.{Name, begins_term}
use Rattle.sb_script.specs.Scopes.{Named, a_constant, a_definition, a_marked_name, a_term, named}
use Rattle.sb_script.specs.Symbols.{is_theory_name}
use Rattle.sb_script.specs.Brought.{is_brought_sort}
use Rattle.sb_script.specs.Errors as error
use Rattle.sb_script.specs.State.{Assertion, asserted, a_mark, Mode, Options, Level, State, empty_level, start, over_levels, names_of, in_level, in_level_of_names, with_name, declared, with_assertion, pushed}
use Rattle.sb_script.specs.Commands.{Parameter}
use Rattle.sb_script.specs.Steps.{Step, answers, leaves, checks, exits, Leaving, above, all}
use Rattle.sb_script.specs.Replies.{bound_from, Assumed, an_assumption, an_error, assumed_name, assumed_bare, is_not, assumed_form, assumptions_in, step_of}
use Rattle.sb_script.proofs.CallerLemmas.{if_some, same_sort, same_sort_itself}
use Rattle.sb_script.proofs.CallerLemmas.{entry_keeps as steps_keep}
use Rattle.sb_rulebook.specs.AtomRules.{is_declared}
use Rattle.sb_rulebook.specs.Kept.{Asked}
use Rattle.sb_rulebook.specs.Judging.{Event}
use Rattle.sb_rulebook.specs.Accepted.{term_of, at_level, live_by_level, asked_in, events_of, state_behind, events}
use Rattle.sb_sound.specs.TermLaws.{fits_sorts}
use Rattle.sb_sound.specs.SoundLaws.{KeepsSorts, Continues, GoesOn}
use Rattle.sb_sound.specs.AcceptedLaws.{IsHistory, ScriptIsHistory}
use Rattle.sb_sound.proofs.Accepting.{slice_get-more, Contains-slice_get}
use Rattle.sb_sound.proofs.PassFacts.{all_weaker, all_append, all_push}
use Rattle.sb_sound.specs.ScriptLaws.{fits_in, all_in, kind_fits, naming_fits, assertion_fits, Fits, AllFit, assumption_fits, has_default, IsFit, StartIsFit, FitMeansTerms, LeadsOn, EntriesLeadOn}
use Rattle.sb_sound.proofs.ReadTerms.{named_fits, fits_without, read_fits}

-- Sorts grow at the end.

declared_more : (xs ys : List Sort) (sort : Sort) (serial : ℕ) → is_declared xs sort serial ≡ true
    → is_declared (xs ++ ys) sort serial ≡ true
declared_more [] ys sort serial h = absurd (false≢true h)
declared_more (x ∷ xs) ys sort zero h = h
declared_more (x ∷ xs) ys sort (suc serial) h = declared_more xs ys sort serial h

declared_last : (xs : List Sort) (sort : Sort) → is_declared (xs ++ sort ∷ []) sort (length xs) ≡ true
declared_last [] sort = same_sort_itself sort
declared_last (x ∷ xs) sort = declared_last xs sort

module _ (xs ys : List Sort) (n m : ℕ) (low : n ≤ m) where
  mutual
    fits_more : (t : Term) → fits_in xs n t ≡ true → fits_in (xs ++ ys) m t ≡ true
    fits_more (constant serial sort) h = declared_more xs ys sort serial h
    fits_more (word w) h = h
    fits_more (numeral k) h = refl
    fits_more (apply s terms) h = all_more terms h
    fits_more (parameter place sort) h = lt-ltb place m (omega (arith, ltb-true place n h, low))

    all_more : (ts : Terms) → all_in xs n ts ≡ true → all_in (xs ++ ys) m ts ≡ true
    all_more no_terms h = refl
    all_more (with_term t ts) h =
        let parts = and_parts (fits_in xs n t) (all_in xs n ts) h in
        and_from (fits_in (xs ++ ys) m t) (all_in (xs ++ ys) m ts) (fits_more t parts.0) (all_more ts parts.1)

kind_more : (xs ys : List Sort) (n m : ℕ) → n ≤ m → (kind : Named) → kind_fits xs n kind ≡ true
    → kind_fits (xs ++ ys) m kind ≡ true
kind_more xs ys n m low (a_constant serial sort) h = declared_more xs ys sort serial h
kind_more xs ys n m low (a_definition kinds body) h =
    fits_more xs ys (length kinds) (length kinds) (omega arith) body h
kind_more xs ys n m low a_marked_name h = refl
kind_more xs ys n m low (a_term t) h = fits_more xs ys n m low t h

-- The names in force and the live terms fit the sorts of the constants.

assertion_more : (xs ys : List Sort) (a : Assertion) → assertion_fits xs a ≡ true
    → assertion_fits (xs ++ ys) a ≡ true
assertion_more xs ys (asserted term) h = fits_more xs ys 0 0 (omega arith) term h
assertion_more xs ys a_mark h = refl

empty_fits : (sorts : List Sort) → Fits sorts empty_level
empty_fits sorts = record { names = refl; assertions = refl }

fits_longer : (xs ys : List Sort) (level : Level) → Fits xs level → Fits (xs ++ ys) level
fits_longer xs ys level h = record {
  names = all_weaker (naming_fits xs 0) (naming_fits (xs ++ ys) 0) level.names
      (λ n. kind_more xs ys 0 0 (omega arith) n.1) h.names;
  assertions = all_weaker (assertion_fits xs) (assertion_fits (xs ++ ys)) level.assertions (assertion_more xs ys)
      h.assertions;
}

pub names_fit : (sorts : List Sort) (first : Level) (levels : List Level) → AllFit sorts first levels
    → list_all (naming_fits sorts 0) (over_levels (λ l. l.names) first levels) ≡ true
names_fit sorts first [] h = h.names
names_fit sorts first (level ∷ levels) h =
    all_append (naming_fits sorts 0) (over_levels (λ l. l.names) first levels) level.names
    (names_fit sorts first levels h.0) h.1.names

abbrev IsTerm : List Sort → Option Term × ℕ → Type 0
IsTerm sorts a = (t : Term) → a.0 ≡ Some t → fits_sorts sorts t ≡ true

is_term : (sorts : List Sort) (n : ℕ) (a : Assertion) → assertion_fits sorts a ≡ true → IsTerm sorts (term_of a, n)
is_term sorts n (asserted term) h t e =
    let same : term ≡ t = Prim.cc (e) in
    subst (λ (u : Term). fits_sorts sorts u ≡ true) same (fits_without sorts term h)
is_term sorts n a_mark h t e = absurd (Prim.cc (e))

level_terms : (sorts : List Sort) (n : ℕ) (xs : List Assertion) → list_all (assertion_fits sorts) xs ≡ true
    → All (IsTerm sorts) (at_level n xs)
level_terms sorts n [] h = All-nil (IsTerm sorts)
level_terms sorts n (a ∷ xs) h =
    let parts = and_parts (assertion_fits sorts a) (list_all (assertion_fits sorts) xs) h in
    All-cons (IsTerm sorts) (term_of a, n) (at_level n xs) (is_term sorts n a parts.0)
    (level_terms sorts n xs parts.1)

live_terms_fit : (sorts : List Sort) (first : Level) (levels : List Level) → AllFit sorts first levels
    → All (IsTerm sorts) (live_by_level first levels)
live_terms_fit sorts first [] h = level_terms sorts 0 first.assertions h.assertions
live_terms_fit sorts first (level ∷ levels) h =
    All-append (IsTerm sorts) (live_by_level first levels) (at_level (length levels + 1) level.assertions)
    (live_terms_fit sorts first levels h.0) (level_terms sorts (length levels + 1) level.assertions h.1.assertions)

pub are_terms : FitMeansTerms
are_terms s fit a t among is =
    All-contains (IsTerm s.sorts) (live_by_level s.first s.above) a
    (live_terms_fit s.sorts s.first s.above fit.0) among t is

-- A state goes on to another: no sort and no live assertion is lost.

pub record IsLonger (before now : List (Option Term × ℕ)) : Type 0 where
  pub more : List (Option Term × ℕ)
  pub whole : now ≡ before ++ more

pub record Goes (s now : State) : Type 0 where
  pub sorts : KeepsSorts (asked_in s) (asked_in now)
  pub live : IsLonger (live_by_level s.first s.above) (live_by_level now.first now.above)
  pub fit : IsFit now

same_live : (live : List (Option Term × ℕ)) → IsLonger live live
same_live live = record { more = []; whole = sym (append-nil live) }

-- what is left: of some levels, or of none
abbrev pub Leaves : State → Leaving → State → Type 0
Leaves s (above level) now = GoesOn level (asked_in s) (asked_in now) × IsFit now
Leaves s all now = KeepsSorts (asked_in s) (asked_in now) × IsFit now

abbrev pub IsKept : State → Step → Type 0
IsKept s (answers bytes now) = Goes s now
IsKept s (leaves what bytes now) = Leaves s what now
IsKept s (checks given) = list_all (assumption_fits s.sorts) given ≡ true
IsKept s (exits bytes) = Unit {0}

goes_same : (s : State) (logic begun : Bool) (options : Options) (mode : Mode) → IsFit s
    → Goes s (record s { logic_set = logic; begun = begun; options = options; mode = mode })
goes_same s logic begun options mode fit =
    record { sorts = λ v has. has; live = same_live (live_by_level s.first s.above); fit = fit }

-- A change of the innermost level.

at_level-append : (n : ℕ) (xs ys : List Assertion) → at_level n (xs ++ ys) ≡ at_level n xs ++ at_level n ys
at_level-append n [] ys = refl
at_level-append n (x ∷ xs) ys = Prim.cc (at_level-append n xs ys)

live_longer : (change : Level → Level) (extra : List Assertion)
    → ((level : Level) → (change level).assertions ≡ level.assertions ++ extra) → (first : Level) (levels : List Level)
    → IsLonger (live_by_level first levels)
    (live_by_level (in_level change first levels).0 (in_level change first levels).1)
live_longer change extra adds first [] = record {
  more = at_level 0 extra;
  whole = ap (at_level 0) (adds first) ∙ at_level-append 0 first.assertions extra;
}
live_longer change extra adds first (level ∷ levels) =
    let below = live_by_level first levels in
    let n = length levels + 1 in
    record {
      more = at_level n extra;
      whole =
          ap (λ xs. below ++ at_level n xs) (adds level)
          ∙ ap (λ ys. below ++ ys) (at_level-append n level.assertions extra)
          ∙ sym (append_assoc below (at_level n level.assertions) (at_level n extra));
    }

-- a change of the first level that leaves its assertions
first_live : (change : Level → Level) → ((level : Level) → (change level).assertions ≡ level.assertions)
    → (first : Level) (levels : List Level) → live_by_level (change first) levels ≡ live_by_level first levels
first_live change same first [] = ap (at_level 0) (same first)
first_live change same first (level ∷ levels) =
    ap (λ rows. rows ++ at_level (length levels + 1) level.assertions) (first_live change same first levels)

-- a change of the level that new names enter
live_named : (global : Bool) (change : Level → Level)
    → ((level : Level) → (change level).assertions ≡ level.assertions) → (first : Level) (levels : List Level)
    → IsLonger (live_by_level first levels)
    (live_by_level (in_level_of_names global change first levels).0 (in_level_of_names global change first levels).1)
live_named true change same first levels = record {
  more = [];
  whole = first_live change same first levels ∙ sym (append-nil (live_by_level first levels));
}
live_named false change same first levels =
    live_longer change [] (λ l. same l ∙ sym (append-nil l.assertions)) first levels

fit_longer : (xs ys : List Sort) (first : Level) (levels : List Level) → AllFit xs first levels
    → AllFit (xs ++ ys) first levels
fit_longer xs ys first [] h = fits_longer xs ys first h
fit_longer xs ys first (level ∷ levels) h = (fit_longer xs ys first levels h.0, fits_longer xs ys level h.1)

fit_changed : (sorts : List Sort) (change : Level → Level)
    → ((level : Level) → Fits sorts level → Fits sorts (change level)) → (first : Level) (levels : List Level)
    → AllFit sorts first levels
    → AllFit sorts (in_level change first levels).0 (in_level change first levels).1
fit_changed sorts change f first [] h = f first h
fit_changed sorts change f first (level ∷ levels) h = (h.0, f level h.1)

first_fits : (sorts : List Sort) (change : Level → Level) → (first : Level) (levels : List Level)
    → (Fits sorts first → Fits sorts (change first)) → AllFit sorts first levels → AllFit sorts (change first) levels
first_fits sorts change first [] f h = f h
first_fits sorts change first (level ∷ levels) f h = (first_fits sorts change first levels f h.0, h.1)

fit_named : (global : Bool) (sorts : List Sort) (change : Level → Level)
    → ((level : Level) → Fits sorts level → Fits sorts (change level)) → (first : Level) (levels : List Level)
    → AllFit sorts first levels
    → AllFit sorts (in_level_of_names global change first levels).0 (in_level_of_names global change first levels).1
fit_named true sorts change f first levels h = first_fits sorts change first levels (f first) h
fit_named false sorts change f first levels h = fit_changed sorts change f first levels h

-- the first level without its assertions, and without its names too unless these stay
first_of_all : (sorts : List Sort) (first : Level) (levels : List Level) → AllFit sorts first levels → Fits sorts first
first_of_all sorts first [] h = h
first_of_all sorts first (level ∷ levels) h = first_of_all sorts first levels h.0

cleared_fits : (global : Bool) (sorts : List Sort) (first : Level) → Fits sorts first
    → Fits sorts (record { names = if global then first.names else []; assertions = [] })
cleared_fits true sorts first h = record { names = h.names; assertions = refl }
cleared_fits false sorts first h = record { names = refl; assertions = refl }

-- a name is added, over sorts of which some are new
goes_named : (s : State) (new : List Sort) (name : Name) (kind : Named) → kind_fits (s.sorts ++ new) 0 kind ≡ true
    → list_all has_default new ≡ true → IsFit s
    → Goes s (with_name name kind (record s { sorts = s.sorts ++ new }))
goes_named s new name kind here valued fit =
    let change : Level → Level = λ l. record l { names = l.names ++ (name, kind) ∷ [] } in
    let sorts = s.sorts ++ new in
    record {
      sorts = λ v has serial sort there. has serial sort (slice_get-more s.sorts new serial sort there);
      live = live_named s.options.global_declarations change (λ l. refl) s.first s.above;
      fit = (
        fit_named s.options.global_declarations sorts change
            (λ l h. record {
              names = all_push (naming_fits sorts 0) l.names (name, kind) h.names here;
              assertions = h.assertions;
            })
            s.first s.above (fit_longer s.sorts new s.first s.above fit.0),
        all_append has_default s.sorts new fit.1 valued,
      );
    }

-- a name is added, and no sort
goes_renamed : (s : State) (name : Name) (kind : Named) → kind_fits s.sorts 0 kind ≡ true → IsFit s
    → Goes s (with_name name kind s)
goes_renamed s name kind here fit =
    let change : Level → Level = λ l. record l { names = l.names ++ (name, kind) ∷ [] } in
    record {
      sorts = λ v has. has;
      live = live_named s.options.global_declarations change (λ l. refl) s.first s.above;
      fit = (
        fit_named s.options.global_declarations s.sorts change
            (λ l h. record {
              names = all_push (naming_fits s.sorts 0) l.names (name, kind) h.names here;
              assertions = h.assertions;
            })
            s.first s.above fit.0,
        fit.1,
      );
    }

goes_declared : (s : State) (name : Name) (sort : Sort) → has_default sort ≡ true → IsFit s
    → Goes s (declared name sort s)
goes_declared s name sort valued fit =
    goes_named s (sort ∷ []) name (a_constant (length s.sorts) sort) (declared_last s.sorts sort)
    (and_from (has_default sort) true valued refl) fit

goes_asserted : (s : State) (assertion : Assertion) → assertion_fits s.sorts assertion ≡ true → IsFit s
    → Goes s (with_assertion assertion s)
goes_asserted s assertion here fit =
    let change : Level → Level = λ l. record l { assertions = l.assertions ++ assertion ∷ [] } in
    record {
      sorts = λ v has. has;
      live = live_longer change (assertion ∷ []) (λ l. refl) s.first s.above;
      fit = (
        fit_changed s.sorts change
            (λ l h. record {
              names = h.names;
              assertions = all_push (assertion_fits s.sorts) l.assertions assertion h.assertions here;
            })
            s.first s.above fit.0,
        fit.1,
      );
    }

-- Levels are entered, and left.

pushed_live : (n : ℕ) (first : Level) (levels : List Level)
    → live_by_level first (replicate n empty_level ++ levels) ≡ live_by_level first levels
pushed_live zero first levels = refl
pushed_live (suc n) first levels =
    append-nil (live_by_level first (replicate n empty_level ++ levels)) ∙ pushed_live n first levels

pushed_fit : (sorts : List Sort) (n : ℕ) (first : Level) (levels : List Level) → AllFit sorts first levels
    → AllFit sorts first (replicate n empty_level ++ levels)
pushed_fit sorts zero first levels h = h
pushed_fit sorts (suc n) first levels h = (pushed_fit sorts n first levels h, empty_fits sorts)

goes_pushed : (s : State) (n : ℕ) → IsFit s → Goes s (pushed n s)
goes_pushed s n fit = record {
  sorts = λ v has. has;
  live = record {
    more = [];
    whole = pushed_live n s.first s.above ∙ sym (append-nil (live_by_level s.first s.above));
  };
  fit = (pushed_fit s.sorts n s.first s.above fit.0, fit.1);
}

popped_fit : (sorts : List Sort) (n : ℕ) (first : Level) (levels : List Level) → AllFit sorts first levels
    → AllFit sorts first (drop n levels)
popped_fit sorts zero first levels h = h
popped_fit sorts (suc n) first [] h = h
popped_fit sorts (suc n) first (level ∷ levels) h = popped_fit sorts n first levels h.0

-- what stands in two lists stands in the first one, or is of the second one
in_front_or_behind : {X : Type 0} → (xs ys : List X) (k : ℕ) (x : X) → slice_get (xs ++ ys) k ≡ Some x
    → (slice_get xs k ≡ Some x) ⊎ Contains ys x
in_front_or_behind [] ys k x h = inr (Contains-slice_get ys k x h)
in_front_or_behind (z ∷ xs) ys zero x h = inl h
in_front_or_behind (z ∷ xs) ys (suc k) x h = in_front_or_behind xs ys k x h

level_is : (n : ℕ) (xs : List Assertion) → All (λ (a : Option Term × ℕ). a.1 ≡ n) (at_level n xs)
level_is n [] = All-nil (λ (a : Option Term × ℕ). a.1 ≡ n)
level_is n (x ∷ xs) = All-cons (λ (a : Option Term × ℕ). a.1 ≡ n) (term_of x, n) (at_level n xs) refl (level_is n xs)

popped_live : (n : ℕ) (first : Level) (levels : List Level) (place : ℕ) (a : Option Term × ℕ)
    → slice_get (live_by_level first levels) place ≡ Some a → a.1 ≤ length (drop n levels)
    → slice_get (live_by_level first (drop n levels)) place ≡ Some a
popped_live zero first levels place a there low = there
popped_live (suc n) first [] place a there low = there
popped_live (suc n) first (level ∷ levels) place a there low =
    let own = at_level (length levels + 1) level.assertions in
    elim (in_front_or_behind (live_by_level first levels) own place a there) [
      | inl below ↦ popped_live n first levels place a below low
      | inr here ↦
          let is : a.1 ≡ length levels + 1 =
          All-contains (λ (b : Option Term × ℕ). b.1 ≡ length levels + 1) own a
          (level_is (length levels + 1) level.assertions) here in
          absurd (omega (arith, is, low, length-drop n levels))
    ]

-- Each entry.

default_brought : (sort : Sort) → is_brought_sort sort ≡ true → has_default sort ≡ true
default_brought boolean h = refl
default_brought text h = refl
default_brought integer h = absurd (false≢true h)
default_brought reglan h = absurd (false≢true h)

module _ (s : State) (fit : IsFit s) where
  in_force : list_all (naming_fits s.sorts 0) (names_of s) ≡ true
  in_force = names_fit s.sorts s.first s.above fit.0

  bound_fits : (n place : ℕ) (ps : List Parameter) (kinds : List Sort) → place + length kinds ≤ n
      → list_all (naming_fits s.sorts n) (bound_from place ps kinds) ≡ true
  bound_fits n place [] kinds low = refl
  bound_fits n place (p ∷ ps) [] low = refl
  bound_fits n place (p ∷ ps) (kind ∷ kinds) low =
      and_from (nat_lt place n) (list_all (naming_fits s.sorts n) (bound_from (place + 1) ps kinds))
      (lt-ltb place n (omega (arith, low))) (bound_fits n (place + 1) ps kinds (omega (arith, low)))

  -- the names in force fit beside parameters too
  names_beside : (n : ℕ) → list_all (naming_fits s.sorts n) (names_of s) ≡ true
  names_beside n =
      subst (λ (sorts : List Sort). list_all (naming_fits sorts n) (names_of s) ≡ true) (append-nil s.sorts)
      (all_weaker (naming_fits s.sorts 0) (naming_fits (s.sorts ++ []) n) (names_of s)
      (λ m. kind_more s.sorts [] 0 n (omega arith) m.1) in_force)

  -- Assumptions.

  abbrev item_fits : Assumed → Bool
  item_fits (an_assumption a) = assumption_fits s.sorts a
  item_fits (an_error e) = true

  name_assumed : (positive : Bool) (name : Name) → item_fits (assumed_name s positive name) ≡ true
  name_assumed positive name =
      step (named (names_of s) name)
      (named_fits s.sorts 0 (names_of s) name in_force)
    where
      constant_assumed : (b : Bool) (serial : ℕ) (sort : Sort) → is_same_sort boolean sort ≡ b
          → is_declared s.sorts sort serial ≡ true
          → item_fits (if b then an_assumption (serial, positive) else an_error error.wrong_sort) ≡ true
      constant_assumed true serial sort is h =
          subst (λ (kind : Sort). is_declared s.sorts kind serial ≡ true) (same_sort boolean sort is) h
      constant_assumed false serial sort is h = refl

      theory : (b : Bool)
          → item_fits (if b then an_error error.not_a_literal else an_error (error.unknown_symbol name)) ≡ true
      theory true = refl
      theory false = refl

      step : (o : Option Named) → if_some (kind_fits s.sorts 0) o ≡ true → item_fits (elim o as (λ _. Assumed) [
        | Some (a_constant serial sort) ↦ if is_same_sort boolean sort then an_assumption (serial, positive)
            else an_error error.wrong_sort
        | Some _ ↦ an_error error.not_a_literal
        | None ↦ if is_theory_name name then an_error error.not_a_literal else an_error (error.unknown_symbol name)
      ]) ≡ true
      step (Some (a_constant serial sort)) h = constant_assumed (is_same_sort boolean sort) serial sort refl h
      step (Some (a_definition kinds body)) h = refl
      step (Some a_marked_name) h = refl
      step (Some (a_term t)) h = refl
      step None h = theory (is_theory_name name)

  either_fits : (b : Bool) (x y : Assumed) → item_fits x ≡ true → item_fits y ≡ true
      → item_fits (if b then x else y) ≡ true
  either_fits true x y h k = h
  either_fits false x y h k = k

  bare_assumed : (positive : Bool) (name : Name) → item_fits (assumed_bare s positive name) ≡ true
  bare_assumed positive name = either_fits (begins_term name) (an_error error.not_a_literal)
      (assumed_name s positive name) refl (name_assumed positive name)

  form_assumed : (form : Form) → item_fits (assumed_form s form) ≡ true
  form_assumed (Symbol name) = bare_assumed true name
  form_assumed (QuotedSymbol name) = name_assumed true name
  form_assumed (Group (more head (more (Symbol name) none))) =
      either_fits (is_not head) (assumed_bare s false name) (an_error error.not_a_literal)
      (bare_assumed false name) refl
  form_assumed (Group (more head (more (QuotedSymbol name) none))) =
      either_fits (is_not head) (assumed_name s false name) (an_error error.not_a_literal)
      (name_assumed false name) refl
  form_assumed _ = refl

  items_fit : (items : List Assumed) → list_all item_fits items ≡ true
      → list_all (assumption_fits s.sorts) (assumptions_in items) ≡ true
  items_fit [] h = refl
  items_fit (an_assumption a ∷ items) h =
      let parts = and_parts (assumption_fits s.sorts a) (list_all item_fits items) h in
      and_from (assumption_fits s.sorts a) (list_all (assumption_fits s.sorts) (assumptions_in items)) parts.0
      (items_fit items parts.1)
  items_fit (an_error e ∷ items) h = items_fit items h

  forms_fit : (forms : List Form) → list_all item_fits (map (assumed_form s) forms) ≡ true
  forms_fit [] = refl
  forms_fit (form ∷ forms) =
      and_from (item_fits (assumed_form s form)) (list_all item_fits (map (assumed_form s) forms)) (form_assumed form)
      (forms_fit forms)

  assumptions_fit : (forms : List Form)
      → list_all (assumption_fits s.sorts) (assumptions_in (map (assumed_form s) forms)) ≡ true
  assumptions_fit forms = items_fit (map (assumed_form s) forms) (forms_fit forms)

  pub entry_keeps : (entry : Entry) → IsKept s (step_of entry s)
  entry_keeps = steps_keep s.mode s (λ ends other x. IsKept s x) (record {
    stays = λ bytes text. goes_same s s.logic_set s.begun s.options s.mode fit;
    sets = λ bytes logic begun options. goes_same s logic begun options s.mode fit;
    declares = λ bytes name sort brought. goes_declared s name sort (default_brought sort brought) fit;
    marks = λ bytes name. goes_renamed s name a_marked_name refl fit;
    makes = λ bytes name ps kinds form body brought is.
        let n = length kinds in
        goes_renamed s name (a_definition kinds body)
        (read_fits s.sorts n (bound_from 0 ps kinds ++ names_of s)
        (all_append (naming_fits s.sorts n) (bound_from 0 ps kinds) (names_of s) (bound_fits n 0 ps kinds (omega arith))
        (names_beside n)) form body is) fit;
    asserts = λ bytes form t is truth.
        goes_asserted s (asserted t) (read_fits s.sorts 0 (names_of s) in_force form t is) fit;
    omits = λ bytes. goes_asserted s a_mark refl fit;
    pushes = λ bytes n. goes_pushed s n fit;
    pops = λ bytes n. (
      record { sorts = λ v has. has; live = popped_live n s.first s.above },
      (popped_fit s.sorts n s.first s.above fit.0, fit.1),
    );
    clears = λ bytes. (
      λ v has. has,
      (
        cleared_fits s.options.global_declarations s.sorts s.first (first_of_all s.sorts s.first s.above fit.0),
        fit.1,
      ),
    );
    resets = λ bytes. (λ v has. has, (empty_fits s.sorts, fit.1));
    asks = assumptions_fit;
    ends = λ bytes. tt;
  })

-- All entries.

goes_on_same : (asked : Asked) → Continues asked asked
goes_on_same asked = record { sorts = λ v has. has; live = λ place a there. there }

goes_further : (before : Asked) (s now : State) → Continues before (asked_in s) → Goes s now
    → Continues before (asked_in now)
goes_further before s now goes on = record {
  sorts = λ v has. goes.sorts v (on.sorts v has);
  live = λ place a there. subst (λ (live : List (Option Term × ℕ)). slice_get live place ≡ Some a) (sym on.live.whole)
      (slice_get-more (live_by_level s.first s.above) on.live.more place a (goes.live place a there));
}

module _ (s : State) (fit : IsFit s) (before : Asked) (goes : Continues before (asked_in s)) where
  history_by : (entries : List Entry) (x : Step)
      → ((now : State) → IsFit now → (asked : Asked) → Continues asked (asked_in now)
      → IsHistory asked (events now entries))
      → IsKept s x
      → IsHistory before (events_of x s
      ++ elim (state_behind x s) as (λ _. List Event) [ Some next ↦ events next entries | None ↦ [] ])
  history_by entries (answers bytes now) rest on = rest now on.fit before (goes_further before s now goes on)
  history_by entries (leaves (above level) bytes now) rest left = (
    asked_in now,
    record {
      sorts = λ v has. goes.sorts v (left.0.sorts v has);
      live = λ place a there low. left.0.live place a (goes.live place a there) low;
    },
    rest now left.1 (asked_in now) (goes_on_same (asked_in now)),
  )
  history_by entries (leaves all bytes now) rest left = (
    asked_in now,
    λ v has. goes.sorts v (left.0 v has),
    rest now left.1 (asked_in now) (goes_on_same (asked_in now)),
  )
  history_by entries (checks given) rest kept =
      (goes, are_terms s fit, rest s fit (asked_in s) (goes_on_same (asked_in s)))
  history_by entries (exits bytes) rest kept = tt

history : (entries : List Entry) (s : State) → IsFit s → (before : Asked) → Continues before (asked_in s)
    → IsHistory before (events s entries)
history [] s fit before goes = tt
history (entry ∷ entries) s fit before goes =
    history_by s fit before goes entries (step_of entry s) (history entries) (entry_keeps s fit entry)

pub start_fits : StartIsFit
start_fits = (empty_fits [], refl)

pub script_history : ScriptIsHistory
script_history entries = history entries start start_fits (asked_in start) (goes_on_same (asked_in start))

goes_on : (s : State) (x : Step) → IsKept s x → LeadsOn s x
goes_on s (answers bytes now) on = (goes_further (asked_in s) s now (goes_on_same (asked_in s)) on, on.fit)
goes_on s (leaves (above level) bytes now) left = left
goes_on s (leaves all bytes now) left = left
goes_on s (checks given) kept = tt
goes_on s (exits bytes) kept = tt

pub entries_lead_on : EntriesLeadOn
entries_lead_on entry s fit = goes_on s (step_of entry s) (entry_keeps s fit entry)
