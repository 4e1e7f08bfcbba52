-- The values of the end of a search make the assertions true that it is about, and the assumptions.
use Rattle.sb_solve.proofs.Words.{◌≡◌, ℕ, zero, suc, ◌+◌, ◌<◌, Bool, true, false, if◌then◌else◌, List, [], ◌∷◌, map, length, get_or, slice_get, Option, Some, None, refl, sym, ap, ap₂, subst, ◌∙◌, arith, list_all, false≢true, and_parts, or_left, or_right, eq-eqb, same_Some, Lit, Kept, Regex, Assigned, Sort, boolean, integer, text, reglan, Term, Terms, constant, word, numeral, apply, parameter, no_terms, with_term, is_same_sort, Value, Valuation, Text, Int, Truth, is_of, default_of, value_in, holds, constant_piece, Assertion, asserted, a_mark, live, Atom, AtomOver, bool_atom, in_atom, HasSorts, TranslationHolds, is_declared, is_one_of, speaks_of, speak_of, Stacked, state_of, live_constants, value_at, values_at, value_there, same_sort, atoms_in, is_in, atoms_of, truth_by, truth_in, word_in, word_or_empty, word_there, is_word_there, are_words_there, AreLiterals, IsAnswered, IsLiteral, term_onto, terms_at, are_declared, is_sorted, HasLive, AreTrueAt, ne_eqb, are_characters, is_brought_sort, occurs, occurs_in_some, sort_in, list_all-map, AreSaid, AreTrueUnder, Assumption, IsConsistent, Says, and_from, are_true, held, is_same_truth, is_true_under, list_all-append, make_true, map-append, Piece, cons-cases, inl, inr, is_declared_constant, not-in-nil, word_piece}
use Rattle.std.specs.List.{Contains, flat_map}
use Rattle.sb_rulebook.specs.Atoms.{piece_constants}
use Rattle.sb_meaning.specs.Truth as meaning
use Rattle.sb_term.specs.declared.sort.Sort as code_sort
use Rattle.sb_solve.specs.Decided as deciding
use Rattle.sb_solve.proofs.Gathered.{all_at}
use Rattle.sb_solve.proofs.Deciding.{constant_right, term_right}
use Rattle.sb_solve.proofs.LiveRows.{live_fits, sorted_there, term_passes}

-- Valuations that agree on the constants that occur in a term give it the same meaning.

mutual
  same_meaning : (cs : List (ℕ × Sort)) (v w : Valuation) (t : Term)
      → ((n : ℕ) (k : Sort) → occurs n t ≡ true → is_one_of cs n k ≡ true → value_in v n k ≡ value_in w n k)
      → speaks_of cs t ≡ true → meaning.meaning_of v t ≡ meaning.meaning_of w t
  same_meaning cs v w (constant serial sort) g h =
      ap meaning.meaning_of_value (g serial sort (eq-eqb serial serial refl) h)
  same_meaning cs v w (word u) g h = refl
  same_meaning cs v w (numeral n) g h = refl
  same_meaning cs v w (apply s terms) g h = ap (meaning.applied s) (same_meanings cs v w terms g h)
  same_meaning cs v w (parameter place sort) g h = refl

  same_meanings : (cs : List (ℕ × Sort)) (v w : Valuation) (ts : Terms)
      → ((n : ℕ) (k : Sort) → occurs_in_some n ts ≡ true → is_one_of cs n k ≡ true
      → value_in v n k ≡ value_in w n k)
      → speak_of cs ts ≡ true → meaning.meanings_of v ts ≡ meaning.meanings_of w ts
  same_meanings cs v w no_terms g h = refl
  same_meanings cs v w (with_term t ts) g h =
      let p = and_parts (speaks_of cs t) (speak_of cs ts) h in
      ap₂ (λ m ms. m ∷ ms)
      (same_meaning cs v w t (λ n k o one. g n k (or_left (occurs n t) (occurs_in_some n ts) o) one) p.0)
      (same_meanings cs v w ts (λ n k o one. g n k (or_right (occurs n t) (occurs_in_some n ts) o) one) p.1)

-- A value for each constant that was declared.

-- the values of the constants from this serial on, which have these sorts
abbrev given : (ℕ → Sort → Value) → ℕ → List Sort → Valuation
given value i [] = []
given value i (k ∷ ks) = (i, value i k) ∷ given value (suc i) ks

given_there : (value : ℕ → Sort → Value) (i : ℕ) (ks : List Sort) (n serial : ℕ) (k j : Sort)
    → slice_get ks n ≡ Some k → serial ≡ i + n → value_in (given value i ks) serial j ≡ value serial k
given_there value i [] n serial k j there at = absurd (Prim.cc (there))
given_there value i (first ∷ ks) zero serial k j there at =
    let here : i ≡ serial = omega (arith, at) in
    ap (λ b. if b then value i first else value_in (given value (suc i) ks) serial j) (eq-eqb i serial here)
    ∙ ap₂ value here (same_Some first k there)
given_there value i (first ∷ ks) (suc n) serial k j there at =
    ap (λ b. if b then value i first else value_in (given value (suc i) ks) serial j)
    (ne_eqb i serial (λ here. omega (arith, at, here)))
    ∙ given_there value (suc i) ks n serial k j there (omega (arith, at))

-- by these words and truth values
abbrev value_for : List (Option (List ℕ)) → List Bool → ℕ → Sort → Value
value_for words truths n boolean = Truth (truth_in truths n)
value_for words truths n integer = default_of integer
value_for words truths n text = Text (word_or_empty (word_there words n))
value_for words truths n reglan = Text (word_or_empty (word_there words n))

same_value : (words : List (Option (List ℕ))) (truths : List Bool) (full : List (List ℕ)) (others : List Bool) (n : ℕ)
    (k : Sort) → word_in full n ≡ word_or_empty (word_there words n) → truth_in others n ≡ truth_in truths n
    → value_for words truths n k ≡ value_at full others n k
same_value words truths full others n boolean w t = ap Truth (sym t)
same_value words truths full others n integer w t = refl
same_value words truths full others n text w t = ap Text (sym w)
same_value words truths full others n reglan w t = ap Text (sym w)

word_right : (words : List (Option (List ℕ))) (n : ℕ) → are_words_there words ≡ true
    → are_characters (word_or_empty (word_there words n)) ≡ true
word_right [] n h = refl
word_right (None ∷ words) zero h = refl
word_right (Some w ∷ words) zero h = (and_parts (are_characters w) (are_words_there words) h).0
word_right (o ∷ words) (suc n) h = word_right words n (and_parts (is_word_there o) (are_words_there words) h).1

value_right : (words : List (Option (List ℕ))) (truths : List Bool) (n : ℕ) (k : Sort)
    → are_words_there words ≡ true → is_brought_sort k ≡ true → is_of k (value_for words truths n k) ≡ true
value_right words truths n boolean h b = refl
value_right words truths n text h b = word_right words n h
value_right words truths n integer h b = absurd (false≢true b)
value_right words truths n reglan h b = absurd (false≢true b)

have_sorts : (ss : List code_sort.Sort) (words : List (Option (List ℕ))) (truths : List Bool)
    → list_all (λ s. is_brought_sort (sort_in s)) ss ≡ true → are_words_there words ≡ true
    → HasSorts (given (value_for words truths) 0 (map sort_in ss)) (map sort_in ss)
have_sorts ss words truths read characters n k there =
    ap (is_of k) (given_there (value_for words truths) 0 (map sort_in ss) n n k k there (omega arith))
    ∙ value_right words truths n k characters
    (all_at is_brought_sort (map sort_in ss) n k (list_all-map is_brought_sort sort_in ss ∙ read) there)

declared_there : (sorts : List Sort) (k : Sort) (n : ℕ) → is_declared sorts k n ≡ true → slice_get sorts n ≡ Some k
declared_there sorts k n h = step (slice_get sorts n) h
  where
    step : (o : Option Sort)
        → elim o as (λ _. Bool) [ None ↦ false | Some other ↦ is_same_sort k other ] ≡ true → o ≡ Some k
    step None h = absurd (false≢true h)
    step (Some other) h = ap Some (sym (same_sort k other h))

-- the constants of pieces are declared where those of their atom are
piece_declared : (sorts : List Sort) (ps : List Piece) (n : ℕ)
    → list_all (is_declared_constant sorts) (flat_map piece_constants ps) ≡ true → Contains ps (constant_piece n)
    → is_declared sorts text n ≡ true
piece_declared sorts [] n h among = absurd (not-in-nil (constant_piece n) among)
piece_declared sorts (constant_piece x ∷ ps) n h among =
    let p = and_parts (is_declared sorts text x)
    (list_all (is_declared_constant sorts) (flat_map piece_constants ps)) h in
    elim (cons-cases (constant_piece x) ps (constant_piece n) among) [
      | inl same ↦ ap (is_declared sorts text) (sym (same_constant x n same)) ∙ p.0
      | inr more ↦ piece_declared sorts ps n p.1 more
    ]
  where
    same_constant : (x n : ℕ) → constant_piece x ≡ constant_piece n → x ≡ n
    same_constant x n e = cc
piece_declared sorts (word_piece w ∷ ps) n h among =
    elim (cons-cases (word_piece w) ps (constant_piece n) among) [
      | inl same ↦ absurd (other_piece same)
      | inr more ↦ piece_declared sorts ps n h more
    ]
  where
    other_piece : word_piece w ≡ constant_piece n → ⊥
    other_piece e = Prim.cc (e)

-- The literal of a term at one of the places.

record IsStatedBy (atoms : List Atom) (kept : Kept) (wanted : List ℕ) (t : Term) : Type 0 where
  literal : Lit
  is : IsLiteral atoms kept t literal
  there : is_in wanted literal.atom ≡ true

module _ (atoms : List Atom) (kept : Kept) (wanted : List ℕ) (xs : List Assertion) where
  first_stated : (t : Term) (ts : List Term) (ls : List Lit) → AreLiterals atoms kept (t ∷ ts) ls
      → list_all (is_in wanted) (atoms_of ls) ≡ true → IsStatedBy atoms kept wanted t
  first_stated t ts [] are there = absurd are
  first_stated t ts (l ∷ ls) are there = record {
    literal = l;
    is = are.0;
    there = (and_parts (is_in wanted l.atom) (list_all (is_in wanted) (atoms_of ls)) there).0;
  }

  stated_at : (places : List ℕ) (ls : List Lit) → AreLiterals atoms kept (terms_at xs places) ls
      → list_all (is_in wanted) (atoms_of ls) ≡ true → (k place : ℕ) (t : Term) → k < length places
      → get_or places k place ≡ place → slice_get xs place ≡ Some (asserted t) → IsStatedBy atoms kept wanted t
  stated_at [] ls are there k place t low is at = absurd (omega (arith, low))
  stated_at (other ∷ places) ls are there zero place t low is at =
      first_stated t (terms_at xs places) ls
      (subst (λ (o : Option Assertion). AreLiterals atoms kept (term_onto o (terms_at xs places)) ls)
      (ap (slice_get xs) is ∙ at) are) there
  stated_at (other ∷ places) ls are there (suc k) place t low is at =
      later (slice_get xs other) ls are there
      (λ ms those here. stated_at places ms those here k place t (omega (arith, low)) is at)
    where
      later : (o : Option Assertion) (ls : List Lit) → AreLiterals atoms kept (term_onto o (terms_at xs places)) ls
          → list_all (is_in wanted) (atoms_of ls) ≡ true
          → ((ms : List Lit) → AreLiterals atoms kept (terms_at xs places) ms
          → list_all (is_in wanted) (atoms_of ms) ≡ true → IsStatedBy atoms kept wanted t)
          → IsStatedBy atoms kept wanted t
      later None ls are there rest = rest ls are there
      later (Some a_mark) ls are there rest = rest ls are there
      later (Some (asserted u)) [] are there rest = absurd are
      later (Some (asserted u)) (l ∷ ls) are there rest =
          rest ls are.1 (and_parts (is_in wanted l.atom) (list_all (is_in wanted) (atoms_of ls)) there).1

-- The theory's words, and the truth values of the trail.

module _ (rs : List Regex) (atoms : List (AtomOver ℕ)) (wanted : List ℕ) (literals assumed : List Lit) (kept : Kept)
    (entries : List Assigned) (theory : List (Option (List ℕ))) (places : List ℕ) (s : Stacked) (h : HasLive s)
    (a : IsAnswered rs atoms wanted literals assumed kept entries theory places (state_of s) s.assumptions)
    (consistent : IsConsistent (held entries))
    (declared : are_declared (map sort_in s.scope.sorts) atoms ≡ true)
    (characters : are_words_there theory ≡ true) (truths : List Bool)
    (said : (n : ℕ) → truth_in truths n ≡ truth_by atoms entries wanted n)
  where
    abbrev Cs : List (ℕ × Sort)
    Cs = live_constants s

    abbrev Sorts : List Sort
    Sorts = map sort_in s.scope.sorts

    abbrev v : Valuation
    v = given (value_for theory truths) 0 Sorts

    value_here : (n : ℕ) (k : Sort) → is_declared Sorts k n ≡ true → value_in v n k ≡ value_for theory truths n k
    value_here n k known =
        given_there (value_for theory truths) 0 Sorts n n k k (declared_there Sorts k n known) (omega arith)

    atom_sorted : (i : ℕ) (x : AtomOver ℕ) → is_in wanted i ≡ true → slice_get atoms i ≡ Some x
        → is_sorted Sorts x ≡ true
    atom_sorted i x there at = all_at (is_sorted Sorts) atoms i x declared at

    abbrev text_of : Value → List ℕ
    text_of x = elim x [ Text w ↦ w | Int n ↦ [] | Truth b ↦ [] ]

    abbrev truth_of : Value → Bool
    truth_of x = elim x [ Text w ↦ false | Int n ↦ false | Truth b ↦ b ]

    gives : deciding.IsGiven rs atoms wanted entries theory v
    gives = record {
      agrees = a.agrees;
      gives_words = λ i n r ps there at among.
          ap text_of (value_here n text (piece_declared Sorts ps n (atom_sorted i (in_atom ps r) there at) among));
      gives_truths = λ i n there at.
          ap truth_of (value_here n boolean
          (and_parts (is_declared Sorts boolean n) true (atom_sorted i (bool_atom n) there at)).0) ∙ said n;
    }

    -- the atoms of the assertions' literals are wanted, and those of the assumptions
    wanted_both : (list_all (is_in wanted) (atoms_of literals) ≡ true)
        × (list_all (is_in wanted) (atoms_of assumed) ≡ true)
    wanted_both =
        and_parts (list_all (is_in wanted) (atoms_of literals)) (list_all (is_in wanted) (atoms_of assumed))
        (sym (list_all-append (is_in wanted) (atoms_of literals) (atoms_of assumed))
        ∙ ap (list_all (is_in wanted)) (sym (map-append (λ (l : Lit). l.atom) literals assumed))
        ∙ a.wanted_there)

    true_here : TranslationHolds → (place : ℕ) (t : Term) → Contains places place
        → slice_get (live (state_of s)) place ≡ Some (asserted t) → holds t v ≡ true
    true_here law place t listed at =
        let q = stated_at (atoms_in rs atoms) kept wanted (live (state_of s)) places literals a.stated wanted_both.0
        listed.0 place t listed.1 listed.2 at in
        term_right rs atoms wanted kept entries theory v a.decided gives law Sorts t q.literal
        (have_sorts s.scope.sorts theory truths h.brought characters)
        (live_fits s h.levelled a.terms place t at) q.is.is q.there q.is.kept_there

    one_true : (b : Assumption) (l : Lit) → Says atoms b l → is_in wanted l.atom ≡ true
        → is_true_under (held entries) l ≡ true → is_same_truth (truth_in truths b.0) b.1 ≡ true
    one_true b l says there on =
        ap (λ t. is_same_truth t b.1) (said b.0)
        ∙ ap (is_same_truth (truth_by atoms entries wanted b.0)) (sym says.1)
        ∙ constant_right rs atoms wanted kept entries theory v a.decided gives l b.0 there consistent on says.0

    all_true : (bs : List Assumption) (ls : List Lit) → AreSaid atoms bs ls
        → list_all (is_in wanted) (atoms_of ls) ≡ true → are_true (held entries) ls ≡ true
        → make_true truths bs ≡ true
    all_true [] [] are there on = refl
    all_true [] (l ∷ ls) are there on = absurd are
    all_true (b ∷ bs) [] are there on = absurd are
    all_true (b ∷ bs) (l ∷ ls) are there on =
        let p = and_parts (is_in wanted l.atom) (list_all (is_in wanted) (atoms_of ls)) there in
        let q = and_parts (is_true_under (held entries) l) (are_true (held entries) ls) on in
        and_from (is_same_truth (truth_in truths b.0) b.1) (make_true truths bs) (one_true b l are.0 p.0 q.0)
        (all_true bs ls are.1 p.1 q.1)

    true_at : TranslationHolds → AreTrueAt s places theory truths
    true_at law full others are same place t listed at =
        sym (ap (λ m. meaning.all_true (meaning.truth_in m))
        (same_meaning Cs v (values_at Cs full others) t
        (λ n k o one.
        let given = same n (record { place = place; term = t; listed = listed; stands = at; there = o }) in
        value_here n k (sorted_there Sorts Cs n k h.sorted one)
        ∙ same_value theory truths full others n k given.0 given.1
        ∙ sym (value_there Cs full others n k one))
        (term_passes (speaks_of Cs) (live (state_of s)) place t h.named at)))
        ∙ true_here law place t listed at

    pub true_under : TranslationHolds → AreTrueUnder s places theory truths
    true_under law = (true_at law, all_true s.assumptions assumed a.said wanted_both.1 a.on)
