-- What was taken in of a trail, as it grows and as levels are taken back.
use Rattle.sb_theory.proofs.Words.{[], inl, inr, ◌++◌, ◌+◌, ◌-◌, ◌<◌, ◌||◌, ◌∙◌, ◌∷◌, ◌≡◌, ◌≤◌, Bool, List, Option, Some, ap, append_assoc, arith, false, get_or, length, nat_eq, nat_le, nat_lt, refl, slice_get, subst, suc, sym, take, true, ℕ, AreLevelled, AreRows, Assigned, AtomOver, HaveRegexesBelow, Holds, Intake, IsCut, IsSettled, IsStore, IsWhole, Lit, Looks, Regex, Serial, Stands, Strings, current_level, eqb-true, filter-append, is_in, nat_tests, or_cases, row_at, same_Some, up_to, wanted_on, list_any_more, level_after-push, up_to-all, up_to-push_above, level_after, AreFormed, IsLeft, and_from, and_parts, eq-eqb, filter, is_atom, is_joined, is_wanted, list_all}
use Rattle.std.proofs.lemmas.Bool.{or_left, or_right}
use Rattle.sb_theory.proofs.Fitting.{rows_none}
use Rattle.sb_theory.proofs.Moving.{rows_stay}

-- At the beginning noted atoms are the wanted ones.

wanted_more : (w : ℕ) (ws vs : List ℕ) → list_all (is_wanted ws) vs ≡ true → list_all (is_wanted (w ∷ ws)) vs ≡ true
wanted_more w ws [] h = refl
wanted_more w ws (v ∷ vs) h =
    let p = and_parts (is_wanted ws v) (list_all (is_wanted ws) vs) h in
    and_from (is_wanted (w ∷ ws) v) (list_all (is_wanted (w ∷ ws)) vs) (or_right (nat_eq v w) (is_wanted ws v) p.0)
    (wanted_more w ws vs p.1)

all_wanted : (ws : List ℕ) → list_all (is_wanted ws) ws ≡ true
all_wanted [] = refl
all_wanted (w ∷ ws) =
    and_from (is_wanted (w ∷ ws) w) (list_all (is_wanted (w ∷ ws)) ws)
    (or_left (nat_eq w w) (is_wanted ws w) (eq-eqb w w refl)) (wanted_more w ws ws (all_wanted ws))

pub stands_new : (x : Strings) → IsStore x.store → HaveRegexesBelow (length x.store.arena) x.atoms → AreFormed x.atoms
    → list_all (is_atom x.atoms) x.wanted ≡ true → x.noted ≡ x.wanted
    → x.joined.items ≡ filter (is_joined x.atoms) x.wanted
    → ((a : ℕ) → is_wanted x.wanted a ≡ true → is_joined x.atoms a ≡ true → IsLeft x a) → x.taken.items ≡ []
    → x.members.items ≡ [] → x.fitting.items ≡ [] → Stands x []
stands_new x store regexes formed known noted joined left none no_members no_numbers = record {
  holds = record {
    store = store;
    regexes = regexes;
    formed = formed;
    noted = ap (list_all (is_atom x.atoms)) noted ∙ known;
    among = ap (λ (ns : List ℕ). list_all (is_wanted ns) x.wanted) noted ∙ all_wanted x.wanted;
    rows = rows_none x.store.arena x.atoms x.words.items x.members.items x.fitting.items x.changed
        (wanted_on x.noted x.taken.items) no_members no_numbers (ap (wanted_on x.noted) none);
    joined = joined;
    left = λ a one whole. left a (ap (λ (ns : List ℕ). is_wanted ns a) (sym noted) ∙ one) whole;
  };
  levelled = subst (λ (es : List Assigned). AreLevelled 0 es) (sym none) tt;
  rest = [];
  is = sym (ap (λ (es : List Assigned). es ++ []) none);
}

-- One entry more.

levelled_front : (n : ℕ) (xs ys : List Assigned) → AreLevelled n (xs ++ ys) → AreLevelled n xs
levelled_front n [] ys h = tt
levelled_front n (x ∷ xs) ys h = (h.0, levelled_front x.level xs ys h.1)

split_next : (taken rest : List Assigned) (e : Assigned) → length taken < length (taken ++ rest)
    → e ≡ get_or (taken ++ rest) (length taken) e → (more : List Assigned) × (rest ≡ e ∷ more)
split_next [] [] e more is = absurd (omega (arith, more))
split_next [] (x ∷ xs) e more is = (xs, ap (λ (y : Assigned). y ∷ xs) (sym is))
split_next (t ∷ ts) rest e more is = split_next ts rest e (omega (arith, more)) is

-- the entry is the first that was not taken in
pub stands_next : {x y : Strings} {entries : List Assigned} (all : List Assigned) (i : ℕ) (e : Assigned) → Stands x entries
    → all ≡ entries → i ≡ length x.taken.items → length x.taken.items < length entries → e ≡ get_or all i e
    → AreLevelled 0 entries → y.taken.items ≡ x.taken.items ++ e ∷ [] → Holds y → Stands y entries
stands_next {x} {y} {entries} all i e h same place more is levelled now holds =
    let at = is ∙ ap (λ n. get_or all n e) place
    ∙ ap (λ (es : List Assigned). get_or es (length x.taken.items) e) (same ∙ h.is) in
    let long = subst (λ (es : List Assigned). length x.taken.items < length es) h.is more in
    let found = split_next x.taken.items h.rest e long at in
    let whole : entries ≡ y.taken.items ++ found.0 =
    h.is ∙ ap (λ (es : List Assigned). x.taken.items ++ es) found.1
    ∙ sym (append_assoc x.taken.items (e ∷ []) found.0) ∙ ap (λ (es : List Assigned). es ++ found.0) (sym now) in
    record {
      holds = holds;
      levelled = levelled_front 0 y.taken.items found.0
          (subst (λ (es : List Assigned). AreLevelled 0 es) whole levelled);
      rest = found.0;
      is = whole;
    }

none_behind : (taken rest : List Assigned) → length (taken ++ rest) ≤ length taken → taken ≡ taken ++ rest
none_behind [] [] h = refl
none_behind [] (e ∷ es) h = absurd (omega (arith, h))
none_behind (t ∷ ts) rest h = ap (λ (es : List Assigned). t ∷ es) (none_behind ts rest (omega (arith, h)))

-- all of the trail was taken in
pub taken_whole : (x : Strings) (entries : List Assigned) → Stands x entries → length entries ≤ length x.taken.items
    → x.taken.items ≡ entries
taken_whole x entries h all =
    none_behind x.taken.items h.rest (subst (λ (es : List Assigned). length es ≤ length x.taken.items) h.is all)
    ∙ sym h.is

-- Entries that are taken off.

pub level_last : (n : ℕ) (es : List Assigned) (e : Assigned) → slice_get es (length es - 1) ≡ Some e
    → e.level ≡ level_after n es
level_last n [] e h = absurd (Prim.cc (h))
level_last n (x ∷ []) e h = ap (λ (y : Assigned). y.level) (sym (same_Some x e h))
level_last n (x ∷ y ∷ ys) e h =
    let index : length (x ∷ y ∷ ys) - 1 ≡ suc (length (y ∷ ys) - 1) = omega arith in
    level_last x.level (y ∷ ys) e (rw index at h)

pub record IsCutting (level : ℕ) (old now : List Assigned) : Type 0 where
  pub same : up_to level now ≡ up_to level old
  pub more : List Assigned
  pub front : old ≡ now ++ more

pub cut_step : (level : ℕ) (old now new : List Assigned) (e : Assigned) → nat_lt level (current_level now) ≡ true
    → now ≡ new ++ e ∷ [] → IsCutting level old now → IsCutting level old new
cut_step level old now new e above is h =
    let high : level < current_level now = grind (arith, nat_tests, above) in
    let last = ap current_level is ∙ level_after-push 0 new e in
    record {
      same = sym (up_to-push_above level new e (omega (arith, high, last))) ∙ ap (up_to level) (sym is) ∙ h.same;
      more = e ∷ h.more;
      front = h.front ∙ ap (λ (es : List Assigned). es ++ h.more) is ∙ append_assoc new (e ∷ []) h.more;
    }

pub cut_end : (level : ℕ) (old now : List Assigned) → nat_lt level (current_level now) ≡ false → AreLevelled 0 old
    → IsCutting level old now → IsCut level old now
cut_end level old now low levelled h =
    let below : current_level now ≤ level = grind (arith, nat_tests, low) in
    record {
      is = sym (up_to-all level 0 now
          (levelled_front 0 now h.more (subst (λ (es : List Assigned). AreLevelled 0 es) h.front levelled)) below) ∙ h.same;
      more = h.more;
      front = h.front;
    }

pub stands_cut : {x y : Strings} {entries : List Assigned} (level : ℕ) → IsCut level x.taken.items y.taken.items
    → Holds y → Stands x entries → Stands y (up_to level entries)
stands_cut {x} {y} level cut holds h = record {
  holds = holds;
  levelled = levelled_front 0 y.taken.items cut.more
      (subst (λ (es : List Assigned). AreLevelled 0 es) cut.front h.levelled);
  rest = up_to level h.rest;
  is = ap (up_to level) h.is
      ∙ filter-append (λ (e : Assigned). nat_le e.level level) x.taken.items h.rest
      ∙ ap (λ (es : List Assigned). es ++ up_to level h.rest) (sym cut.is);
}

-- Each constant of the list is looked at.

-- the next constant fits, and those that did go on to
pub whole_more : {x y : Strings} (place : ℕ) (s : Serial) → Looks x y → place < length x.changed
    → s ≡ get_or x.changed place s → IsSettled x y s.0 true
    → ((n : ℕ) → is_in (take place x.changed) n ≡ true → IsWhole x.members.items x.fitting.items n)
    → (n : ℕ) → is_in (take (place + 1) y.changed) n ≡ true → IsWhole y.members.items y.fitting.items n
whole_more {x} {y} place s looks inside at h before n there =
    elim (or_cases (is_in (take place x.changed) n) (nat_eq s.0 n)
    (ap (λ (t : Serial). is_in (take place x.changed) n || nat_eq t.0 n) at
    ∙ sym (list_any_more (λ t. nat_eq t.0 n) x.changed place s inside)
    ∙ ap (λ (t : Intake). is_in (take (place + 1) t.changed) n) (sym looks.intake) ∙ there)) [
      | inl old ↦
          omega (arith, before n old, h.rises n, ap (λ (rs : List (List Lit)). length (row_at rs n)) (rows_stay looks))
      | inr new ↦ subst (IsWhole y.members.items y.fitting.items) (eqb-true s.0 n new) (h.whole refl)
    ]

-- once all do, none is to be looked at
pub rows_settled : {rs : List Regex} {atoms : List (AtomOver ℕ)} {words : List (Option (List ℕ))}
    {rows : List (List Lit)} {fitting : List ℕ} {changed : List Serial} {ls : List Lit} (left : List Serial)
    → ((n : ℕ) → is_in changed n ≡ true → IsWhole rows fitting n) → AreRows rs atoms words rows fitting changed ls
    → AreRows rs atoms words rows fitting left ls
rows_settled {rows = rows} {fitting} {changed} left whole h = record {
  members = h.members;
  fit = record { front = h.fit.front; whole = λ n out. step n (is_in changed n) refl };
}
  where
    step : (n : ℕ) (b : Bool) → is_in changed n ≡ b → IsWhole rows fitting n
    step n true e = whole n e
    step n false e = h.fit.whole n e
