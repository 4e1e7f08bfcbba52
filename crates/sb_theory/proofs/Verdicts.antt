-- What is judged of memberships of several pieces, once the words fit the rows.
use Rattle.std.proofs.Common.{◌&&◌, ◌⊎◌, drop}
use Rattle.std.proofs.lemmas.Bool.{or_right}
use Rattle.std.proofs.lemmas.List.{drop_all, drop_more}
use Rattle.sb_lit.proofs.CallerLemmas.{is_same_literal-of}
use Rattle.sb_theory.proofs.Words.{[], if◌then◌else◌, inl, inr, ◌+◌, ◌<◌, ◌||◌, ◌∙◌, ◌∷◌, ◌≡◌, All-filter, AllPass-from_list_all, Bool, List, None, Option, Some, ap, arith, cond, eq-eqb, eqb-true, false, false≢true, filter, filter_passes, get_or, get_or_from_slice_get, length, nat_eq, not, option_and_then, or_cases, refl, slice_get, suc, sym, true, zero, ℕ, Assigned, AtomOver, Extends, HaveRegexesBelow, Holds, IsWish, IsWrong, Keeps, Lit, Regex, Strings, all_among, all_from_among, and_atom, and_from, and_parts, at_kept, bool_atom, constant_of, fits_pieces, fits_subject, held, iff_atom, in_atom, is_among, is_atom, is_joined, is_of_wanted, is_same_literal, is_true_by, is_wanted, language, le_atom, list_all, list_all-from_AllPass, number_in, regex_at, sum_atom, value_of, word_at}
use Rattle.sb_atoms.specs.Numbered.{HasRegexBelow}
use Rattle.sb_theory.proofs.Moving.{atoms_stay}
use Rattle.sb_theory.proofs.Wishes.{left_wish}
use Rattle.sb_theory.specs.Judged.{AreJudged, is_wrong_by}
use Rattle.sb_theory.specs.Memberships.{joined_word}
use Rattle.sb_theory.specs.Walks.{Rows, rows_of}

-- Literals of a list that pass a test.

passing_among : (p : Lit → Bool) (ls : List Lit) (l : Lit) → is_among (filter p ls) l ≡ true
    → (p l ≡ true) × (is_among ls l ≡ true)
passing_among p ls l h = (
  all_among p (filter p ls) l (list_all-from_AllPass p (filter p ls) (filter_passes p ls)) h,
  all_among (is_among ls) (filter p ls) l
      (list_all-from_AllPass (is_among ls) (filter p ls) (All-filter p (λ m. is_among ls m ≡ true) ls
      (AllPass-from_list_all (is_among ls) ls (all_from_among (is_among ls) ls (λ m among. among))))) h,
)

-- Wanted atoms are noted.

pub passes_wanted : (p : ℕ → Bool) (ns : List ℕ) (a : ℕ) → list_all p ns ≡ true → is_wanted ns a ≡ true → p a ≡ true
passes_wanted p [] a all there = absurd (false≢true there)
passes_wanted p (n ∷ ns) a all there =
    let q = and_parts (p n) (list_all p ns) all in elim (or_cases (nat_eq a n) (is_wanted ns a) there) [
      | inl same ↦ ap p (eqb-true a n same) ∙ q.0
      | inr later ↦ passes_wanted p ns a q.1 later
    ]

-- What is true of words stays as the arena grows.

pieces_grown : (rs ss : List Regex) (words : List (Option (List ℕ))) (s : Bool) (a : AtomOver ℕ) → Extends rs ss
    → HasRegexBelow (length rs) a → fits_pieces ss words s (Some a) ≡ fits_pieces rs words s (Some a)
pieces_grown rs ss words s (in_atom ps r) e below =
    ap (λ (q : Regex). if s then language q (joined_word words ps) else not (language q (joined_word words ps)))
    (at_kept rs ss r e below)
pieces_grown rs ss words s (bool_atom serial) e below = refl
pieces_grown rs ss words s (le_atom y k) e below = refl
pieces_grown rs ss words s (sum_atom k ss') e below = refl
pieces_grown rs ss words s (and_atom ls) e below = refl
pieces_grown rs ss words s (iff_atom l m) e below = refl

number_grown : (rs ss : List Regex) (a : AtomOver ℕ) (x : ℕ) → Extends rs ss → constant_of a ≡ Some x
    → HasRegexBelow (length rs) a → regex_at ss (number_in a) ≡ regex_at rs (number_in a)
number_grown rs ss (in_atom ps r) x e is below = at_kept rs ss r e below
number_grown rs ss (bool_atom serial) x e is below = absurd (Prim.cc (is))
number_grown rs ss (le_atom y k) x e is below = absurd (Prim.cc (is))
number_grown rs ss (sum_atom k ts) x e is below = absurd (Prim.cc (is))
number_grown rs ss (and_atom ls) x e is below = absurd (Prim.cc (is))
number_grown rs ss (iff_atom l m) x e is below = absurd (Prim.cc (is))

there_grown : (rs ss : List Regex) (ts : List (AtomOver ℕ)) (words : List (Option (List ℕ))) (l : Lit) (a : AtomOver ℕ)
    (o : Option ℕ) → Extends rs ss → HasRegexBelow (length rs) a → slice_get ts l.atom ≡ Some a → constant_of a ≡ o
    → fits_subject ss ts words l o ≡ fits_subject rs ts words l o
there_grown rs ss ts words l a None e below is none =
    ap (fits_pieces ss words l.positive) is ∙ pieces_grown rs ss words l.positive a e below
    ∙ sym (ap (fits_pieces rs words l.positive) is)
there_grown rs ss ts words l a (Some x) e below is some =
    let got = get_or_from_slice_get ts l.atom a (bool_atom 0) is in
    let w = word_at words x in
    ap (λ (q : Regex). if l.positive then language q w else not (language q w))
    (ap (λ (b : AtomOver ℕ). regex_at ss (number_in b)) got ∙ number_grown rs ss a x e some below
    ∙ sym (ap (λ (b : AtomOver ℕ). regex_at rs (number_in b)) got))

true_by_grown : (rs ss : List Regex) (ts : List (AtomOver ℕ)) (words : List (Option (List ℕ))) (l : Lit) → Extends rs ss
    → HaveRegexesBelow (length rs) ts → is_true_by ss ts words l ≡ is_true_by rs ts words l
true_by_grown rs ss ts words l e below = step (slice_get ts l.atom) refl
  where
    step : (o : Option (AtomOver ℕ)) → slice_get ts l.atom ≡ o
        → fits_subject ss ts words l (option_and_then constant_of o)
        ≡ fits_subject rs ts words l (option_and_then constant_of o)
    step None is = ap (fits_pieces ss words l.positive) is ∙ sym (ap (fits_pieces rs words l.positive) is)
    step (Some a) is = there_grown rs ss ts words l a (constant_of a) e (below l.atom a is) is refl

-- and so does what is wrong.
pub wrong_stays : {x y : Strings} (l : Lit) → Holds x → Keeps x y → rows_of y ≡ rows_of x → y.noted ≡ x.noted
    → is_wrong_by y l ≡ is_wrong_by x l
wrong_stays {x} {y} l h k rows noted =
    let said = λ (ns : List ℕ) (ts : List (AtomOver ℕ)) (b : Bool).
    (is_wanted ns l.atom && is_joined ts l.atom) && not b in
    ap (λ (ns : List ℕ). said ns y.atoms (is_true_by y.store.arena y.atoms y.words.items l)) noted
    ∙ ap (λ (ts : List (AtomOver ℕ)). said x.noted ts (is_true_by y.store.arena ts y.words.items l)) (atoms_stay k)
    ∙ ap (λ (r : Rows). said x.noted x.atoms (is_true_by y.store.arena x.atoms r.words l)) rows
    ∙ ap (said x.noted x.atoms)
    (true_by_grown x.store.arena y.store.arena x.atoms x.words.items l k.grows.store.more.extends h.regexes)

-- Along the trail from its end.

among_at : (es : List Assigned) (i : ℕ) (e : Assigned) (l : Lit) → i < length es → e ≡ get_or es i e → l ≡ e.literal
    → is_among (held es) l ≡ true
among_at [] i e l within at is = absurd (omega (arith, within))
among_at (x ∷ xs) zero e l within at is =
    ap (λ b. b || is_among (held xs) l)
    (is_same_literal-of x.literal l (sym (is ∙ ap (λ (a : Assigned). a.literal) at)))
among_at (x ∷ xs) (suc i) e l within at is =
    or_right (is_same_literal x.literal l) (is_among (held xs) l) (among_at xs i e l (omega (arith, within)) at is)

-- none of the literals from a place on is wrong
abbrev pub AreFine : Strings → List Assigned → ℕ → Type 0
AreFine x entries place = list_all (λ l. not (is_wrong_by x l)) (held (drop place entries)) ≡ true

pub fine_end : (x : Strings) (entries : List Assigned) (place : ℕ) → place ≡ length entries → AreFine x entries place
fine_end x entries place is =
    ap (λ (es : List Assigned). list_all (λ l. not (is_wrong_by x l)) (held es))
    (drop_all place entries (omega (arith, is)))

pub fine_more : (x : Strings) (entries : List Assigned) (place next : ℕ) (e : Assigned) (l : Lit) → next ≡ place + 1
    → place < length entries → e ≡ get_or entries place e → l ≡ e.literal → is_wrong_by x l ≡ false
    → AreFine x entries next → AreFine x entries place
fine_more x entries place next e l is within at literal right h =
    let p = λ (m : Lit). not (is_wrong_by x m) in
    ap (λ (es : List Assigned). list_all p (held es)) (drop_more entries place e within)
    ∙ and_from (p (get_or entries place e).literal) (list_all p (held (drop (place + 1) entries)))
    (ap (λ (a : Assigned). p a.literal) (sym at) ∙ ap p (sym literal) ∙ ap not right)
    (ap (λ n. list_all p (held (drop n entries))) (sym is) ∙ h)

unwrong : (a b t : Bool) → a ≡ true → b ≡ true → not ((a && b) && not t) ≡ true → t ≡ true
unwrong true true true p q h = refl
unwrong true true false p q h = absurd (false≢true h)
unwrong true false t p q h = absurd (false≢true q)
unwrong false b t p q h = absurd (false≢true p)

pub judged_fine : {x y : Strings} (entries : List Assigned) (place : ℕ) → Holds x → Holds y → Keeps x y
    → rows_of y ≡ rows_of x → y.noted ≡ x.noted → place ≡ 0 → AreFine x entries place → AreJudged y entries None
judged_fine {x} {y} entries place hx hy k rows noted is fine = λ l among joined.
    let both = passing_among (is_of_wanted y.wanted) (held entries) l among in
    let all = ap (λ n. list_all (λ m. not (is_wrong_by x m)) (held (drop n entries))) (sym is) ∙ fine in
    unwrong (is_wanted y.noted l.atom) (is_joined y.atoms l.atom) (is_true_by y.store.arena y.atoms y.words.items l)
    (passes_wanted (is_wanted y.noted) y.wanted l.atom hy.among both.0) joined
    (ap not (wrong_stays l hx k rows noted) ∙ all_among (λ m. not (is_wrong_by x m)) (held entries) l all both.1)

-- No wanted membership of several pieces is listed, so there is none.

filter_wanted : (p : ℕ → Bool) (ns : List ℕ) (a : ℕ) → is_wanted ns a ≡ true → p a ≡ true
    → is_wanted (filter p ns) a ≡ true
filter_wanted p [] a there pass = there
filter_wanted p (n ∷ ns) a there pass =
    step (p n) refl (or_cases (nat_eq a n) (is_wanted ns a) there) (λ later. filter_wanted p ns a later pass)
  where
    step : (b : Bool) → p n ≡ b → (nat_eq a n ≡ true) ⊎ (is_wanted ns a ≡ true)
        → (is_wanted ns a ≡ true → is_wanted (filter p ns) a ≡ true)
        → is_wanted (cond b (n ∷ filter p ns) (filter p ns)) a ≡ true
    step true e (inl same) more = ap (λ b. b || is_wanted (filter p ns) a) same
    step true e (inr later) more = or_right (nat_eq a n) (is_wanted (filter p ns) a) (more later)
    step false e (inl same) more = absurd (false≢true (sym e ∙ ap p (sym (eqb-true a n same)) ∙ pass))
    step false e (inr later) more = more later

none_wanted : (ns : List ℕ) (a : ℕ) → length ns ≡ 0 → is_wanted ns a ≡ true → ⊥
none_wanted [] a none there = false≢true there
none_wanted (n ∷ ns) a none there = absurd (omega (arith, none))

pub judged_empty : (x : Strings) (entries : List Assigned) → Holds x → length x.joined.items ≡ 0
    → AreJudged x entries None
judged_empty x entries h none = λ l among joined.
    let wanted = (passing_among (is_of_wanted x.wanted) (held entries) l among).0 in
    absurd (none_wanted x.joined.items l.atom none
    (ap (λ (ns : List ℕ). is_wanted ns l.atom) h.joined
    ∙ filter_wanted (is_joined x.atoms) x.wanted l.atom wanted joined))

-- One that is wrong on the trail.

not_true : (b : Bool) → not b ≡ true → b ≡ false
not_true true h = absurd (false≢true h)
not_true false h = refl

pub wrong_at : (y : Strings) (entries : List Assigned) (place : ℕ) (e : Assigned) (l : Lit) → Holds y
    → place < length entries → e ≡ get_or entries place e → l ≡ e.literal → is_wrong_by y l ≡ true → IsWrong y entries l
wrong_at y entries place e l h within at is wrong =
    let q = and_parts (is_wanted y.noted l.atom && is_joined y.atoms l.atom)
    (not (is_true_by y.store.arena y.atoms y.words.items l)) wrong in
    let p = and_parts (is_wanted y.noted l.atom) (is_joined y.atoms l.atom) q.0 in
    record {
      held = among_at entries place e l within at is;
      left = h.left l.atom p.0 p.1;
      joined = p.1;
      wrong = not_true (is_true_by y.store.arena y.atoms y.words.items l) q.1;
    }

-- whether a literal is, by its parts
pub not_wrong : (y : Strings) (l : Lit) → (is_wanted y.noted l.atom ≡ false) ⊎ (is_joined y.atoms l.atom ≡ false)
    → false ≡ is_wrong_by y l
not_wrong y l (inl h) =
    sym (ap (λ b. (b && is_joined y.atoms l.atom) && not (is_true_by y.store.arena y.atoms y.words.items l)) h)
not_wrong y l (inr h) =
    sym (ap (λ b. (is_wanted y.noted l.atom && b) && not (is_true_by y.store.arena y.atoms y.words.items l)) h
    ∙ none (is_wanted y.noted l.atom))
  where
    none : (b : Bool) → ((b && false) && not (is_true_by y.store.arena y.atoms y.words.items l)) ≡ false
    none true = refl
    none false = refl

pub wrong_by_fit : {x y : Strings} (l : Lit) (b : Bool) → Holds x → Keeps x y → rows_of y ≡ rows_of x
    → y.noted ≡ x.noted → is_wanted x.noted l.atom ≡ true → is_joined x.atoms l.atom ≡ true
    → b ≡ is_true_by x.store.arena x.atoms x.words.items l → not b ≡ is_wrong_by y l
wrong_by_fit {x} {y} l b h k rows noted wanted joined is =
    sym (wrong_stays l h k rows noted
    ∙ ap (λ a. (a && is_joined x.atoms l.atom) && not (is_true_by x.store.arena x.atoms x.words.items l)) wanted
    ∙ ap (λ a. a && not (is_true_by x.store.arena x.atoms x.words.items l)) joined ∙ ap not (sym is))

-- A wanted membership of several pieces that is listed.

pub wanted_at : (ns : List ℕ) (i d : ℕ) → i < length ns → is_wanted ns (get_or ns i d) ≡ true
wanted_at [] i d within = absurd (omega (arith, within))
wanted_at (n ∷ ns) zero d within = ap (λ b. b || is_wanted ns n) (eq-eqb n n refl)
wanted_at (n ∷ ns) (suc i) d within =
    or_right (nat_eq (get_or ns i d) n) (is_wanted ns (get_or ns i d)) (wanted_at ns i d (omega (arith, within)))

listed_wanted : (p : ℕ → Bool) (ns : List ℕ) (a : ℕ) → is_wanted (filter p ns) a ≡ true
    → (p a ≡ true) × (is_wanted ns a ≡ true)
listed_wanted p ns a there = (
  passes_wanted p (filter p ns) a (list_all-from_AllPass p (filter p ns) (filter_passes p ns)) there,
  passes_wanted (is_wanted ns) (filter p ns) a
      (list_all-from_AllPass (is_wanted ns) (filter p ns)
      (All-filter p (λ n. is_wanted ns n ≡ true) ns (λ k d m. wanted_at ns k d m))) there,
)

pub listed_wish : (y : Strings) (entries : List Assigned) (a : ℕ) → Holds y → is_wanted y.joined.items a ≡ true
    → value_of entries a ≡ None → (value_of entries a ≡ None) × IsWish y a × (is_atom y.atoms a ≡ true)
listed_wish y entries a h there unset =
    let listed = listed_wanted (is_joined y.atoms) y.wanted a
    (ap (λ (ns : List ℕ). is_wanted ns a) (sym h.joined) ∙ there) in
    let noted = passes_wanted (is_wanted y.noted) y.wanted a h.among listed.1 in (
      unset,
      left_wish y a (h.left a noted listed.0),
      passes_wanted (is_atom y.atoms) y.noted a h.noted noted,
    )
