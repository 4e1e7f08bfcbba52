-- Atoms of steps are noted.
use Rattle.std.proofs.Common.{◌≡◌, ◌⊎◌, ℕ, ◌<◌, Bool, true, false, cond, not, ◌&&◌, ◌||◌, if◌then◌else◌, nat_eq, List, [], ◌∷◌, ◌++◌, find, count_by, slice_get, Option, Some, None, option_map, option_and_then, is_some, IfNone, IfSome, refl, sym, ap, subst, ◌∙◌, inl, inr, arith}
use Rattle.std.specs.List.{list_all}
use Rattle.std.proofs.lemmas.Bool.{and_from, and_parts, eq-eqb, eqb-true, false≢true, true≢false, or_cases, or_left, or_right}
use Rattle.std.proofs.lemmas.List.{map-append}
use Rattle.std.proofs.lemmas.List.Folds.{list_any-append}
use Rattle.std.proofs.lemmas.List.Sums.{sum_by-cons}
use Rattle.sb_facts.proofs.CallerLemmas.{all_push}
use Rattle.sb_lit.proofs.CallerLemmas.{is_same_literal-self, is_same_literal-true}
use Rattle.sb_lit.specs.Clauses.{is_among, is_same_literal}
use Rattle.sb_trail.specs.Assignments.{is_of, value_of}
use Rattle.sb_store.proofs.CallerLemmas.{regexes_same}
use Rattle.sb_theory.specs.Judged.{IsTakenBack}
use Rattle.sb_theory.specs.Memberships.{constant_of, is_about, is_atom, is_joined, is_subject, literals_about, subject_of}
use Rattle.sb_theory.specs.Strings.{Holds, Keeps, Stands}
use Rattle.sb_theory.specs.Walks.{IsNotable, IsNoted, Notes, has_row}
use Rattle.sb_theory.specs.Wanted.{IsWithAtom, is_of_wanted, is_wanted, wanted_of}
use Rattle.sb_theory.specs.Wishes.{IsLeft}
use Rattle.sb_theory.specs.WishLaws.{fewer, one_if_not, ones}
use Rattle.sb_theory.specs.Words.{AreLevelled, Assigned, AtomOver, Lit, Names, constant_piece, held, in_atom}
use Rattle.sb_theory.specs.declared.strings.Strings.{Strings}
use Rattle.sb_theory.specs.declared.member.Member.{Member}
use Rattle.sb_theory.proofs.Moving.{atoms_stay, keeps_both, keeps_grown, keeps_none, left_kept, stands_looked}

-- Rows stay where no literal that was taken in is newly noted and of one constant.

same_about : (ts : List (AtomOver ℕ)) (old new : List ℕ) (z : ℕ) (ls : List Lit)
    → ((l : Lit) → is_among ls l ≡ true → is_about ts z l ≡ true → is_of_wanted new l ≡ is_of_wanted old l)
    → literals_about ts z (wanted_of new ls) ≡ literals_about ts z (wanted_of old ls)
same_about ts old new z [] h = refl
same_about ts old new z (m ∷ ls) h =
    step (is_of_wanted new m) (is_of_wanted old m) (is_about ts z m) refl refl refl
    (h m (or_left (is_same_literal m m) (is_among ls m) (is_same_literal-self m)))
    (same_about ts old new z ls (λ l among. h l (or_right (is_same_literal m l) (is_among ls l) among)))
  where
    step : (a b t : Bool) → is_of_wanted new m ≡ a → is_of_wanted old m ≡ b → is_about ts z m ≡ t
        → (is_about ts z m ≡ true → is_of_wanted new m ≡ is_of_wanted old m)
        → literals_about ts z (wanted_of new ls) ≡ literals_about ts z (wanted_of old ls)
        → literals_about ts z (if a then m ∷ wanted_of new ls else wanted_of new ls)
        ≡ literals_about ts z (if b then m ∷ wanted_of old ls else wanted_of old ls)
    step true true t is was about same more =
        ap (λ (left : List Lit). if is_about ts z m then m ∷ left else left) more
    step false false t is was about same more = more
    step true false true is was about same more = absurd (true≢false (sym is ∙ same about ∙ was))
    step false true true is was about same more = absurd (false≢true (sym is ∙ same about ∙ was))
    step true false false is was about same more =
        ap (λ c. if c then m ∷ literals_about ts z (wanted_of new ls) else literals_about ts z (wanted_of new ls)) about
        ∙ more
    step false true false is was about same more =
        more ∙ sym (ap (λ c. if c then m ∷ literals_about ts z (wanted_of old ls)
        else literals_about ts z (wanted_of old ls)) about)

-- what is wanted, with an atom more

wanted_more : (old new : List ℕ) (atom n : ℕ) → IsWithAtom old new atom → is_wanted old n ≡ true
    → is_wanted new n ≡ true
wanted_more old new atom n (inl same) h = ap (λ (w : List ℕ). is_wanted w n) same.0 ∙ h
wanted_more old new atom n (inr more) h =
    ap (λ (w : List ℕ). is_wanted w n) more ∙ list_any-append (nat_eq n) old (atom ∷ [])
    ∙ or_left (is_wanted old n) (is_wanted (atom ∷ []) n) h

wanted_there : (old new : List ℕ) (atom : ℕ) → IsWithAtom old new atom → is_wanted new atom ≡ true
wanted_there old new atom (inl same) = ap (λ (w : List ℕ). is_wanted w atom) same.0 ∙ same.1
wanted_there old new atom (inr more) =
    ap (λ (w : List ℕ). is_wanted w atom) more ∙ list_any-append (nat_eq atom) old (atom ∷ [])
    ∙ or_right (is_wanted old atom) (is_wanted (atom ∷ []) atom)
    (or_left (nat_eq atom atom) false (eq-eqb atom atom refl))

wanted_cases : (old new : List ℕ) (atom n : ℕ) → IsWithAtom old new atom → is_wanted new n ≡ true
    → ◌⊎◌ (is_wanted old n ≡ true) (n ≡ atom)
wanted_cases old new atom n (inl same) h = inl (sym (ap (λ (w : List ℕ). is_wanted w n) same.0) ∙ h)
wanted_cases old new atom n (inr more) h =
    elim (or_cases (is_wanted old n) (is_wanted (atom ∷ []) n)
    (sym (list_any-append (nat_eq n) old (atom ∷ [])) ∙ sym (ap (λ (w : List ℕ). is_wanted w n) more) ∙ h)) [
      | inl was ↦ inl was
      | inr is ↦ elim (or_cases (nat_eq n atom) false is) [
        | inl here ↦ inr (eqb-true n atom here)
        | inr never ↦ absurd (false≢true never)
      ]
    ]

-- a literal that is newly wanted is of the atom
newly : (old new : List ℕ) (atom n : ℕ) → IsWithAtom old new atom → (n ≡ atom → ⊥) → is_wanted new n ≡ is_wanted old n
newly old new atom n put other = step (is_wanted new n) (is_wanted old n) refl refl
  where
    step : (a b : Bool) → is_wanted new n ≡ a → is_wanted old n ≡ b → a ≡ b
    step true true is was = refl
    step false false is was = refl
    step false true is was = sym is ∙ wanted_more old new atom n put was
    step true false is was = elim (wanted_cases old new atom n put is) [
      | inl h ↦ sym h ∙ was
      | inr same ↦ absurd (other same)
    ]

-- An atom of an entry has a value.

among_valued : (es : List Assigned) (l : Lit) → is_among (held es) l ≡ true → is_some (value_of es l.atom) ≡ true
among_valued [] l h = absurd (false≢true h)
among_valued (e ∷ es) l h =
    step (is_of l.atom e) refl (or_cases (is_same_literal e.literal l) (is_among (held es) l) h) (among_valued es l)
  where
    step : (b : Bool) → is_of l.atom e ≡ b
        → ◌⊎◌ (is_same_literal e.literal l ≡ true) (is_among (held es) l ≡ true)
        → (is_among (held es) l ≡ true → is_some (value_of es l.atom) ≡ true)
        → is_some (option_map (λ (n : Assigned). n.literal.positive) (if b then Some e else find (is_of l.atom) es))
        ≡ true
    step true is cases more = refl
    step false is (inr there) more = more there
    step false is (inl here) more =
        absurd (false≢true (sym is ∙ eq-eqb e.literal.atom l.atom (ap (λ (m : Lit). m.atom)
        (is_same_literal-true e.literal l here))))

-- Holds with an atom more.

pub holds_noted : {x y : Strings} (l : Lit) → y ≡ record x { noted = y.noted } → IsWithAtom x.noted y.noted l.atom
    → is_atom x.atoms l.atom ≡ true → (is_joined x.atoms l.atom ≡ true → IsLeft x l.atom)
    → ((m : Lit) → is_among (held x.taken.items) m ≡ true → m.atom ≡ l.atom → (z : ℕ) → is_about x.atoms z m ≡ true → ⊥)
    → Holds x → Holds y
holds_noted {x} {y} l is put known left none h = subst Holds (sym is) (record {
  store = h.store;
  regexes = h.regexes;
  formed = h.formed;
  noted = noted_known x.noted y.noted put h.noted;
  among = among_more x.wanted h.among;
  rows = record {
    members = λ z. h.rows.members z
        ∙ sym (same_about x.atoms x.noted y.noted z (held x.taken.items)
        (λ m among about. newly x.noted y.noted l.atom m.atom put (λ same. none m among same z about)));
    fit = h.rows.fit;
  };
  joined = h.joined;
  left = λ a there joined. left_over a (elim (wanted_cases x.noted y.noted l.atom a put there) [
    | inl was ↦ h.left a was joined
    | inr same ↦ subst (IsLeft x) (sym same) (left (sym (ap (is_joined x.atoms) same) ∙ joined))
  ]);
})
  where
    noted_known : (old new : List ℕ) → IsWithAtom old new l.atom → list_all (is_atom x.atoms) old ≡ true
        → list_all (is_atom x.atoms) new ≡ true
    noted_known old new (inl same) all = ap (list_all (is_atom x.atoms)) same.0 ∙ all
    noted_known old new (inr more) all =
        ap (list_all (is_atom x.atoms)) more ∙ all_push (is_atom x.atoms) old l.atom all known

    among_more : (ws : List ℕ) → list_all (is_wanted x.noted) ws ≡ true → list_all (is_wanted y.noted) ws ≡ true
    among_more [] all = refl
    among_more (w ∷ ws) all =
        let p = and_parts (is_wanted x.noted w) (list_all (is_wanted x.noted) ws) all in
        and_from (is_wanted y.noted w) (list_all (is_wanted y.noted) ws) (wanted_more x.noted y.noted l.atom w put p.0)
        (among_more ws p.1)

    left_over : (a : ℕ) → IsLeft x a → IsLeft (record x { noted = y.noted }) a
    left_over a i = record {
      pieces = i.pieces;
      from = i.from;
      behind = i.behind;
      tail = i.tail;
      base = i.base;
      below = i.below;
      few = i.few;
      left = i.left;
      regex = i.regex;
      leads = i.leads;
      names = i.names;
    }

-- One entry more is of an atom that is noted.

one_less : (old new : ℕ → Bool) (atom : ℕ) (es : List Assigned) → ((n : ℕ) → old n ≡ true → new n ≡ true)
    → old atom ≡ false → new atom ≡ true → is_some (value_of es atom) ≡ true
    → count_by (λ (e : Assigned). not (new e.literal.atom)) es < count_by (λ (e : Assigned). not (old e.literal.atom))
    es
one_less old new atom [] stays was now there = absurd (false≢true there)
one_less old new atom (e ∷ es) stays was now there =
    step (is_of atom e) refl there (one_less old new atom es stays was now)
  where
    step : (b : Bool) → is_of atom e ≡ b
        → is_some (option_map (λ (d : Assigned). d.literal.positive) (if b then Some e else find (is_of atom) es))
        ≡ true
        → (is_some (value_of es atom) ≡ true → count_by (λ (d : Assigned). not (new d.literal.atom)) es
        < count_by (λ (d : Assigned). not (old d.literal.atom)) es)
        → count_by (λ (d : Assigned). not (new d.literal.atom)) (e ∷ es)
        < count_by (λ (d : Assigned). not (old d.literal.atom)) (e ∷ es)
    step true is there more =
        let same = eqb-true e.literal.atom atom is in
        let none : one_if_not (λ (d : Assigned). new d.literal.atom) e ≡ 0 =
        ap (λ b. cond (not b) 1 0) (ap new same ∙ now) in
        let one : one_if_not (λ (d : Assigned). old d.literal.atom) e ≡ 1 =
        ap (λ b. cond (not b) 1 0) (ap old same ∙ was) in
        omega (
          arith,
          none,
          one,
          fewer (λ (d : Assigned). old d.literal.atom) (λ (d : Assigned). new d.literal.atom) es
              (λ d. stays d.literal.atom),
          sum_by-cons (one_if_not (λ (d : Assigned). new d.literal.atom)) e es,
          sum_by-cons (one_if_not (λ (d : Assigned). old d.literal.atom)) e es,
        )
    step false is there more =
        omega (
          arith,
          ones (old e.literal.atom) (new e.literal.atom) (stays e.literal.atom),
          more there,
          sum_by-cons (one_if_not (λ (d : Assigned). new d.literal.atom)) e es,
          sum_by-cons (one_if_not (λ (d : Assigned). old d.literal.atom)) e es,
        )

-- What noting an atom leaves.

pub keeps_noted : {x y : Strings} → y ≡ record x { noted = y.noted } → Holds x → Keeps x y
keeps_noted {x} {y} is h =
    subst (Keeps x) (sym is) (keeps_grown {x = x} {y = record x { noted = y.noted }} h (regexes_same x.store) refl refl)

pub notes_none : {x : Strings} {entries : List Assigned} → Stands x entries → Notes x x entries false
notes_none {x} {entries} h = record {
  stands = h;
  fewer = omega arith;
  new = λ never. absurd (false≢true never);
  same = λ still. refl;
  stay = λ a there. there;
  keeps = keeps_none h.holds;
}

subject_some : (z : ℕ) (o : Option ℕ) → is_subject z o ≡ true → is_some o ≡ true
subject_some z None h = absurd (false≢true h)
subject_some z (Some y) h = refl

-- no literal of a constant that was taken in is of the atom
none_taken : {x : Strings} {entries : List Assigned} (l : Lit) → has_row x.atoms entries l ≡ false → Stands x entries
    → (m : Lit) → is_among (held x.taken.items) m ≡ true → m.atom ≡ l.atom → (z : ℕ) → is_about x.atoms z m ≡ true → ⊥
none_taken {x} {entries} l no_row h m among same z about =
    let subject : is_some (subject_of x.atoms l) ≡ true =
    sym (ap (λ n. is_some (option_and_then constant_of (slice_get x.atoms n))) same)
    ∙ subject_some z (subject_of x.atoms m) about in
    let on : is_among (held entries) m ≡ true =
    ap (λ (es : List Assigned). is_among (held es) m) h.is
    ∙ ap (λ (ls : List Lit). is_among ls m) (map-append (λ (e : Assigned). e.literal) x.taken.items h.rest)
    ∙ list_any-append (λ k. is_same_literal k m) (held x.taken.items) (held h.rest)
    ∙ or_left (is_among (held x.taken.items) m) (is_among (held h.rest) m) among in
    let value : is_some (value_of entries l.atom) ≡ true =
    sym (ap (λ n. is_some (value_of entries n)) same) ∙ among_valued entries m on in
    true≢false (sym (and_from (is_some (subject_of x.atoms l)) (is_some (value_of entries l.atom)) subject value)
    ∙ no_row)

pub notes_added : {x y : Strings} {entries : List Assigned} (l : Lit) → y ≡ record x { noted = y.noted }
    → IsWithAtom x.noted y.noted l.atom → IsNotable x (Some l) → has_row x.atoms entries l ≡ false → Stands x entries
    → Notes x y entries false
notes_added {x} {y} {entries} l is put known no_row h = record {
  stands = stands_looked (holds_noted l is put known.0 known.1 (none_taken l no_row h) h.holds)
      (ap (λ (s : Strings). s.taken.items) is) h;
  fewer = fewer (λ (e : Assigned). is_wanted x.noted e.literal.atom)
      (λ (e : Assigned). is_wanted y.noted e.literal.atom)
      entries (λ e. wanted_more x.noted y.noted l.atom e.literal.atom put);
  new = λ never. absurd (false≢true never);
  same = λ still. is;
  stay = λ a there. wanted_more x.noted y.noted l.atom a put there;
  keeps = keeps_noted is h.holds;
}

pub notes_back : {x t y : Strings} {entries : List Assigned} (l : Lit) → IsTakenBack x t → Keeps x t
    → y ≡ record t { noted = y.noted } → IsWithAtom t.noted y.noted l.atom → IsNotable x (Some l)
    → is_wanted x.noted l.atom ≡ false → has_row x.atoms entries l ≡ true → Stands x entries → Notes x y entries true
notes_back {x} {t} {y} {entries} l back k is put known new row h =
    let tables = atoms_stay k in
    let added : IsWithAtom x.noted y.noted l.atom = subst (λ (w : List ℕ). IsWithAtom w y.noted l.atom) back.noted put
    in
    let stays : (n : ℕ) → is_wanted x.noted n ≡ true → is_wanted y.noted n ≡ true =
    λ n. wanted_more x.noted y.noted l.atom n added in
    let none : y.taken.items ≡ [] = ap (λ (s : Strings). s.taken.items) is ∙ back.none in
    record {
      stands = record {
        holds = holds_noted l is put (ap (λ (ts : List (AtomOver ℕ)). is_atom ts l.atom) tables ∙ known.0)
            (λ joined. left_kept k l.atom (known.1 (sym (ap (λ (ts : List (AtomOver ℕ)). is_joined ts l.atom) tables)
            ∙ joined)))
            (λ m among same z about. false≢true
            (sym (ap (λ (es : List Assigned). is_among (held es) m) back.none) ∙ among)) back.holds;
        levelled = subst (λ (es : List Assigned). AreLevelled 0 es) (sym none) tt;
        rest = entries;
        is = sym (ap (λ (es : List Assigned). es ++ entries) none);
      };
      fewer = fewer (λ (e : Assigned). is_wanted x.noted e.literal.atom)
          (λ (e : Assigned). is_wanted y.noted e.literal.atom) entries (λ e. stays e.literal.atom);
      new = λ again. one_less (is_wanted x.noted) (is_wanted y.noted) l.atom entries stays new
          (wanted_there x.noted y.noted l.atom added)
          (and_parts (is_some (subject_of x.atoms l)) (is_some (value_of entries l.atom))
          row).1;
      same = λ never. absurd (true≢false never);
      stay = stays;
      keeps = keeps_both k (keeps_noted is back.holds);
    }

pub notes_both : {x y z : Strings} {entries : List Assigned} {a b : Bool} → Notes x y entries a → Notes y z entries b
    → Notes x z entries (a || b)
notes_both {x} {y} {z} {entries} {a} {b} p q = record {
  stands = q.stands;
  fewer = omega (arith, p.fewer, q.fewer);
  new = λ some. elim (or_cases a b some) [
    | inl first ↦ omega (arith, p.new first, q.fewer)
    | inr second ↦ omega (arith, p.fewer, q.new second)
  ];
  same = λ none. q.same (second_none a b none)
      ∙ ap (λ (s : Strings). record s { noted = z.noted }) (p.same (first_none a b none));
  stay = λ n there. q.stay n (p.stay n there);
  keeps = keeps_both p.keeps q.keeps;
}
  where
    first_none : (c d : Bool) → (c || d) ≡ false → c ≡ false
    first_none true d h = h
    first_none false d h = refl

    second_none : (c d : Bool) → (c || d) ≡ false → d ≡ false
    second_none true d h = absurd (true≢false h)
    second_none false d h = h

-- what was noted is noted
pub noted_more : {x y : Strings} {entries : List Assigned} {again : Bool} (o : Option Lit) → Notes x y entries again
    → IsNoted x o → IsNoted y o
noted_more None n h = tt
noted_more (Some l) n h = n.stay l.atom h

pub noted_there : (y : Strings) (old : List ℕ) (o : Option Lit) (l : Lit) → o ≡ Some l → IsWithAtom old y.noted l.atom
    → IsNoted y o
noted_there y old o l is put = subst (IsNoted y) (sym is) (wanted_there old y.noted l.atom put)

-- what may be noted may still be
pub notable_kept : {x y : Strings} (o : Option Lit) → Keeps x y → IsNotable x o → IsNotable y o
notable_kept None k h = tt
notable_kept {x} {y} (Some l) k h =
    let tables = atoms_stay k in (
      ap (λ (ts : List (AtomOver ℕ)). is_atom ts l.atom) tables ∙ h.0,
      λ joined. left_kept k l.atom (h.1 (sym (ap (λ (ts : List (AtomOver ℕ)). is_joined ts l.atom) tables) ∙ joined)),
    )

-- Whether the atom of a literal is of one constant and has a value.

pub row_there : (ts : List (AtomOver ℕ)) (entries : List Assigned) (l : Lit) (found : Option Member)
    (value : Option Bool)
    (there : Bool)
    → IfSome found (λ m. Names ts l.atom (in_atom (constant_piece m.serial.0 ∷ []) m.regex)) → is_some found ≡ true
    → value ≡ value_of entries l.atom → there ≡ is_some value → there ≡ has_row ts entries l
row_there ts entries l (Some m) value there names one same is =
    is ∙ ap is_some same
    ∙ sym (ap (λ (o : Option (AtomOver ℕ)). is_some (option_and_then constant_of o) && is_some
    (value_of entries l.atom))
    names)
row_there ts entries l None value there names one same is = absurd (false≢true one)

pub no_row : (ts : List (AtomOver ℕ)) (entries : List Assigned) (l : Lit) (found : Option Member)
    → IfNone found (subject_of ts l ≡ None) → is_some found ≡ false → false ≡ has_row ts entries l
no_row ts entries l None none out = sym (ap (λ (o : Option ℕ). is_some o && is_some (value_of entries l.atom)) none)
no_row ts entries l (Some m) none out = absurd (true≢false out)
