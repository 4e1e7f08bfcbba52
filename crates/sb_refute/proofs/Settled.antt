-- Memberships without constants, and the clauses by rule step that say whether they are true.
use Rattle.std.specs.Prelude.{MatchOption}
use Rattle.sb_lit.specs.declared.clause.ClauseId.{ClauseId}
use Rattle.sb_proof.specs.Lines.{piece_in}
use Rattle.sb_proof.specs.declared.atom.Piece as code
use Rattle.sb_rulebook.specs.Lines as lines
use Rattle.sb_refute.proofs.Words.{◌≡◌, ℕ, zero, suc, ◌+◌, ◌<◌, ◌≤◌, Bool, true, false, ◌&&◌, ◌||◌, List, [], ◌∷◌, ◌++◌, length, map, take, get_or, slice_get, Option, Some, None, option_map, is_some, Ok, refl, sym, ap, ap₂, subst, ◌∙◌, arith, append-nil, append_assoc, nat_lt, list_all, all_append, all_from_among, all_push, among_negated, and_parts, false≢true, lt-ltb, length-map, map-append, nat_tests, negation, negation_twice, none-some, same_Some, slice_get-get_or, slice_get-map, slice_get_within, some-none, take_more, AllKept, Asked, AtomOver, Atom, Backing, Backs, Evidences, HasGates, HasNoneFalse, IsConflict, IsCounted, IsCover, IsCovered, Kept, KeptClause, KeptStay, Lit, Memo, Piece, Regex, Spending, are_among, are_ascending, are_characters, are_known, are_letters, are_pieces, are_reserved, at_bottom, atoms_in, constant_piece, follows, is_among, is_character, is_false_clause, is_letters, is_repeated, is_small_literal, is_step, kept_at, letters_in, letters_of, line, most_counted, over, pieces_of_word, puts_one, rule_line, text_of, with_bytes, with_clause, word_in, word_piece}
use Rattle.sb_refute.proofs.Backs.{backs-clause, units-stay}
use Rattle.sb_refute.proofs.Clauses.{kept-last, kept-stays}

-- Pieces without constants.

-- well formed ones are one word, or none
pub bare-pieces : (ps : List Piece) → are_pieces ps ≡ true → are_letters ps ≡ true
    → ps ≡ pieces_of_word (letters_of ps)
bare-pieces [] formed words = refl
bare-pieces (constant_piece x ∷ ps) formed words = absurd (false≢true words)
bare-pieces (word_piece [] ∷ ps) formed words = absurd (false≢true formed)
bare-pieces (word_piece (c ∷ w) ∷ []) formed words =
    ap (λ (v : List ℕ). word_piece (c ∷ v) ∷ []) (sym (append-nil w))
bare-pieces (word_piece (c ∷ w) ∷ constant_piece x ∷ ps) formed words = absurd (false≢true words)
bare-pieces (word_piece (c ∷ w) ∷ word_piece v ∷ ps) formed words = absurd (false≢true formed)

pieces-rest : (p : Piece) (ps : List Piece) → are_pieces (p ∷ ps) ≡ true → are_pieces ps ≡ true
pieces-rest (constant_piece x) ps h = h
pieces-rest (word_piece []) ps h = absurd (false≢true h)
pieces-rest (word_piece (c ∷ w)) [] h = refl
pieces-rest (word_piece (c ∷ w)) (constant_piece x ∷ ps) h =
    (and_parts (are_characters (c ∷ w)) (are_pieces (constant_piece x ∷ ps)) h).1
pieces-rest (word_piece (c ∷ w)) (word_piece v ∷ ps) h = absurd (false≢true h)

first-characters : (w : List ℕ) (ps : List Piece) → are_pieces (word_piece w ∷ ps) ≡ true → are_characters w ≡ true
first-characters [] ps h = absurd (false≢true h)
first-characters (c ∷ w) [] h = (and_parts (are_characters (c ∷ w)) (are_pieces []) h).0
first-characters (c ∷ w) (constant_piece x ∷ ps) h =
    (and_parts (are_characters (c ∷ w)) (are_pieces (constant_piece x ∷ ps)) h).0
first-characters (c ∷ w) (word_piece v ∷ ps) h = absurd (false≢true h)

pub piece-characters : (ps : List Piece) (i : ℕ) (w : List ℕ) → are_pieces ps ≡ true
    → slice_get ps i ≡ Some (word_piece w) → are_characters w ≡ true
piece-characters [] i w h there = absurd (omega (arith, slice_get_within [] i (word_piece w) there))
piece-characters (p ∷ ps) zero w h there =
    first-characters w ps (subst (λ (q : Piece). are_pieces (q ∷ ps) ≡ true) (same_Some p (word_piece w) there) h)
piece-characters (p ∷ ps) (suc i) w h there = piece-characters ps i w (pieces-rest p ps h) there

piece-letters : (p : Piece) (ps : List Piece) → are_pieces (p ∷ ps) ≡ true → are_characters (letters_in p) ≡ true
piece-letters (constant_piece x) ps h = refl
piece-letters (word_piece w) ps h = first-characters w ps h

pub letters-characters : (ps : List Piece) → are_pieces ps ≡ true → are_characters (letters_of ps) ≡ true
letters-characters [] h = refl
letters-characters (p ∷ ps) h =
    all_append is_character (letters_in p) (letters_of ps) (piece-letters p ps h)
    (letters-characters ps (pieces-rest p ps h))

-- the characters of a piece

pub of-word : (q : Piece) (w : List ℕ) → Some w ≡ word_in q → q ≡ word_piece w
of-word (constant_piece x) w h = absurd (some-none w h)
of-word (word_piece v) w h = ap word_piece (sym (same_Some w v h))

pub of-constant : (q : Piece) → None ≡ word_in q → is_letters q ≡ false
of-constant (constant_piece x) h = refl
of-constant (word_piece v) h = absurd (none-some v h)

and-false : (b : Bool) → (b && false) ≡ false
and-false true = refl
and-false false = refl

pub not-letters : (ps : List Piece) (i : ℕ) (q : Piece) → slice_get ps i ≡ Some q → is_letters q ≡ false
    → are_letters ps ≡ false
not-letters [] i q there h = absurd (omega (arith, slice_get_within [] i q there))
not-letters (p ∷ ps) zero q there h = ap (λ b. b && are_letters ps) (ap is_letters (same_Some p q there) ∙ h)
not-letters (p ∷ ps) (suc i) q there h =
    ap (λ b. is_letters p && b) (not-letters ps i q there h) ∙ and-false (is_letters p)

pub piece-there : (ps : List code.Piece) (i : ℕ) (p : code.Piece) → i < length ps → p ≡ get_or ps i p
    → slice_get (map piece_in ps) i ≡ Some (piece_in p)
piece-there ps i p low is =
    slice_get-map piece_in ps i
    ∙ ap (option_map piece_in) (slice_get-get_or ps i p low ∙ ap Some (sym is))

letters-push : (xs : List Piece) (p : Piece) → letters_of (xs ++ p ∷ []) ≡ letters_of xs ++ letters_in p
letters-push [] p = append-nil (letters_in p)
letters-push (x ∷ xs) p =
    ap (λ (w : List ℕ). letters_in x ++ w) (letters-push xs p)
    ∙ sym (append_assoc (letters_in x) (letters_of xs) (letters_in p))

-- the letters so far
abbrev pub AreLettersTo : List code.Piece → ℕ → List ℕ → Type 0
AreLettersTo ps i word = (are_letters (map piece_in (take i ps)) ≡ true)
    × (word ≡ letters_of (map piece_in (take i ps)))

pub letters-more : (ps : List code.Piece) (i : ℕ) (p : code.Piece) (w now new : List ℕ) → i < length ps
    → p ≡ get_or ps i p → piece_in p ≡ word_piece w → AreLettersTo ps i now → new ≡ now ++ w
    → AreLettersTo ps (i + 1) new
letters-more ps i p w now new low is word h pushed = (
  ap are_letters taken ∙ all_push is_letters (map piece_in (take i ps)) (piece_in p) h.0 (ap is_letters word),
  pushed ∙ ap (λ (v : List ℕ). v ++ w) h.1
      ∙ ap (λ (q : Piece). letters_of (map piece_in (take i ps)) ++ letters_in q) (sym word)
      ∙ sym (letters-push (map piece_in (take i ps)) (piece_in p)) ∙ ap letters_of (sym taken),
)
  where
    taken : map piece_in (take (i + 1) ps) ≡ map piece_in (take i ps) ++ piece_in p ∷ []
    taken =
        ap (map piece_in) (take_more ps i p low)
        ∙ map-append piece_in (take i ps) (get_or ps i p ∷ [])
        ∙ ap (λ (q : code.Piece). map piece_in (take i ps) ++ piece_in q ∷ []) (sym is)

-- Characters, as smaller numbers.

pub character-at : (ws : List ℕ) (i d : ℕ) → are_characters ws ≡ true → i < length ws → get_or ws i d ≤ 0x2ffff
character-at [] i d h low = absurd (omega (arith, low))
character-at (c ∷ ws) zero d h low =
    let one = (and_parts (is_character c) (are_characters ws) h).0 in grind (arith, nat_tests, one)
character-at (c ∷ ws) (suc i) d h low =
    character-at ws i d (and_parts (is_character c) (are_characters ws) h).1 (omega (arith, low))

pub characters-more : (ws word now new : List ℕ) (i d x : ℕ) → i < length ws → now ≡ word ++ take i ws
    → x ≡ get_or ws i d → new ≡ now ++ x ∷ [] → new ≡ word ++ take (i + 1) ws
characters-more ws word now new i d x low before is pushed =
    pushed ∙ ap₂ (λ (v : List ℕ) (y : ℕ). v ++ y ∷ []) before is
    ∙ append_assoc word (take i ws) (get_or ws i d ∷ [])
    ∙ ap (λ (v : List ℕ). word ++ v) (sym (take_more ws i d low))

-- Clauses that have only literals of others.

same-among : (clause ls : List Lit) → is_false_clause (map negation clause) ls ≡ are_among ls clause
same-among clause [] = refl
same-among clause (l ∷ ls) =
    ap₂ (λ a b. a && b)
    (among_negated clause (negation l) ∙ ap (is_among clause) (negation_twice l))
    (same-among clause ls)

covered-by : (kept : Kept) (clause : List Lit) (id : ℕ) → IsConflict kept (map negation clause) id
    → IsCovered kept clause
covered-by kept clause id h = (
  id,
  h.clause,
  h.there,
  sym (same-among clause h.clause.literals) ∙ h.is_false,
)

-- what a look-up says
pub cover-of : (kept k : Kept) (clause ls : List Lit) (found : Option ClauseId) → k ≡ kept
    → ls ≡ map negation clause → MatchOption found (HasNoneFalse k ls) (λ id. IsConflict k ls id.0)
    → IsCover kept clause (is_some found)
cover-of kept k clause ls None same is h =
    subst (λ (ms : List Lit). HasNoneFalse kept ms) is (subst (λ (j : Kept). HasNoneFalse j ls) same h)
cover-of kept k clause ls (Some id) same is h =
    covered-by kept clause id.0
    (subst (λ (ms : List Lit). IsConflict kept ms id.0) is (subst (λ (j : Kept). IsConflict j ls id.0) same h))

-- a clause has only its own literals
pub covered-new : (kept : Kept) (clause : List Lit) → IsCovered (kept ++ at_bottom clause ∷ []) clause
covered-new kept clause = (
  length kept,
  record { literals = clause; level = 0 },
  kept-last kept (at_bottom clause),
  all_from_among (is_among clause) clause (λ l h. h),
)

pub stay-behind : (old more new : Kept) → new ≡ old ++ more → KeptStay old new
stay-behind old more new is id clause h =
    ap (λ (k : Kept). kept_at k id) is ∙ kept-stays old more id clause h

-- the clauses of gates stay with the others
pub gates-stay : (n : ℕ) (atoms : List (AtomOver ℕ)) (old new : Kept) → KeptStay old new → HasGates n atoms old
    → HasGates n atoms new
gates-stay n atoms old new stay h = λ i low a clause named among.
    let it = h i low a clause named among in
    (it.0, stay it.0 (record { literals = clause; level = 0 }) it.1)

-- The line of a clause.

-- no kept clause has only literals of it, where none is false under their negations
not-repeated : (kept : Kept) (clause : List Lit)
    → ((id : ℕ) (k : KeptClause) → kept_at kept id ≡ Some k → are_among k.literals clause ≡ false)
    → is_repeated kept clause ≡ false
not-repeated [] clause h = refl
not-repeated (None ∷ kept) clause h = not-repeated kept clause (λ id. h (suc id))
not-repeated (Some k ∷ kept) clause h =
    ap (λ b. b || is_repeated kept clause) (h 0 k refl) ∙ not-repeated kept clause (λ id. h (suc id))

is-new : (kept : Kept) (clause : List Lit) → HasNoneFalse kept (map negation clause)
    → is_repeated kept clause ≡ false
is-new kept clause none =
    not-repeated kept clause (λ id k there. sym (same-among clause k.literals) ∙ none id k there)

-- it is kept, and counted
abbrev stepped : AllKept → List Lit → AllKept
stepped kept clause = record (with_clause kept clause 0 []) { counted = kept.counted + 1 }

step-follows : (asked : Asked) (kept : AllKept) (clause : List Lit) → are_known kept.atoms clause ≡ true
    → is_repeated kept.clauses clause ≡ false → are_ascending clause ≡ true → is_step kept.atoms clause ≡ true
    → kept.counted < most_counted asked
    → follows asked kept (rule_line lines.step clause) ≡ Ok (stepped kept clause)
step-follows asked kept clause known new ascends step room =
    rw (known, new, ascends, step, lt-ltb kept.counted (most_counted asked) room) refl

known-in : (rs : List Regex) (atoms : List (AtomOver ℕ)) (table : List Atom) (clause : List Lit)
    → table ≡ atoms_in rs atoms → are_reserved (length atoms) clause ≡ true → are_known table clause ≡ true
known-in rs atoms table clause is h =
    ap (λ n. list_all (λ (l : Lit). nat_lt l.atom n) clause) (ap length is ∙ length-map atoms (over rs)) ∙ h

-- the count says nothing of what is known
backs-counted : (rs : List Regex) (memo : Memo) (e : Backing) (kept : AllKept) (n : ℕ) → Backs rs memo e kept
    → Backs rs memo e (record kept { counted = n })
backs-counted rs memo e kept n b = record {
  tracks = record {
    numbers = b.tracks.numbers;
    regexes = b.tracks.regexes;
    expansions_long = b.tracks.expansions_long;
    dead_long = b.tracks.dead_long;
    expanded = b.tracks.expanded;
    dead = b.tracks.dead;
    targets = b.tracks.targets;
  };
  atoms = b.atoms;
  clauses = b.clauses;
  asserted = b.asserted;
}

pub step-put : (e : Backing) (clause : List Lit) (old new : Option (List ℕ)) (before after : Spending)
    → are_reserved (length e.atoms) clause ≡ true → are_ascending clause ≡ true
    → HasNoneFalse e.kept (map negation clause) → list_all is_small_literal clause ≡ true
    → before.spent < before.limit → after ≡ record before { spent = before.spent + 1 }
    → new ≡ with_bytes (line (text_of (rule_line lines.step clause))) old
    → (asked : Asked) (rs : List Regex) (memo : Memo) (kept : AllKept) → is_step (atoms_in rs e.atoms) clause ≡ true
    → Backs rs memo e kept → IsCounted asked kept before
    → Evidences asked kept rs memo (record e { kept = e.kept ++ at_bottom clause ∷ [] }) after old new
step-put e clause old new before after reserved ascends none smalls room ticked told asked rs memo kept step b counted =
    record {
      after = stepped kept clause;
      puts = puts_one asked kept (stepped kept clause) (rule_line lines.step clause) old new
          (step-follows asked kept clause (known-in rs e.atoms kept.atoms clause b.atoms reserved)
          (ap (λ (k : Kept). is_repeated k clause) b.clauses ∙ is-new e.kept clause none) ascends
          (ap (λ (atoms : List Atom). is_step atoms clause) b.atoms ∙ step)
          (omega (arith, room, counted.spent, counted.limit))) smalls told;
      backs = backs-counted rs memo (record e { kept = e.kept ++ at_bottom clause ∷ [] }) (with_clause kept clause 0 [])
          (kept.counted + 1)
          (backs-clause rs memo e kept clause 0 [] e.asserted
          (units-stay e.kept (record { literals = clause; level = 0 }) e.asserted b.asserted) b);
      counts = record {
        spent = ap (λ n. n + 1) counted.spent ∙ sym (ap (λ (s : Spending). s.spent) ticked);
        limit = counted.limit ∙ sym (ap (λ (s : Spending). s.limit) ticked);
      };
    }
