-- The tests of equals find equals alone, and each equal to itself: words, pieces, variables, regexes and atoms.
use Rattle.std.proofs.Common.{◌≡◌, ℕ, ℤ, Bool, true, ◌==◌, List, [], ◌∷◌, refl, ap, ap₂, arith}
use Rattle.std.specs.Ordering.{int_eq}
use Rattle.std.specs.Cmp.{Equal-is}
use Rattle.std.specs.Cmp.Lexicographic.{pointwise}
use Rattle.std.proofs.lemmas.Bool.{and_parts, and_from, false≢true, eqb-true}
use Rattle.std.proofs.lemmas.Bool.Decides.{Decides-int_eq, nat_tests}
use Rattle.sb_lit.specs.Clauses.{is_same_literal}
use Rattle.sb_lit.proofs.CallerLemmas.{is_same_literal-true, is_same_literal-self}
use Rattle.sb_lang.specs.Regex.{Regex}
use Rattle.sb_lang.specs.Order.{regex_cmp, regex_eq}
use Rattle.sb_lang.specs.OrderLaws.{OrderTellsApart}
use Rattle.sb_lang.specs.Membership.{is_word}
use Rattle.sb_rulebook.specs.Atoms.{Atom, bool_atom, in_atom, le_atom, sum_atom, and_atom, iff_atom, is_same_piece, is_same_summand, is_same_atom}
use Rattle.sb_script.specs.Pieces.{Piece, constant_piece, word_piece}
use Rattle.sb_script.specs.Sums.{Variable, int_constant, length_of, Summand, is_same_variable}

-- Equals alone.

abbrev pub FindsEquals : (A : Type 0) → (A → A → Bool) → Type 0
FindsEquals A test = (a b : A) → test a b ≡ true → a ≡ b

pub same_lists : {A : Type 0} (test : A → A → Bool) → FindsEquals A test → FindsEquals (List A) (pointwise test)
same_lists test finds [] [] h = refl
same_lists test finds [] (y ∷ ys) h = absurd (false≢true h)
same_lists test finds (x ∷ xs) [] h = absurd (false≢true h)
same_lists test finds (x ∷ xs) (y ∷ ys) h =
    let parts = and_parts (test x y) (pointwise test xs ys) h in
    ap₂ ◌∷◌ (finds x y parts.0) (same_lists test finds xs ys parts.1)

pub same_regex : OrderTellsApart → FindsEquals Regex regex_eq
same_regex apart r s h = (apart r s).0 ((Equal-is (regex_cmp r s)).0 h)

pub same_number : FindsEquals ℤ int_eq
same_number m n h = (Decides-int_eq m n).0 h

pub same_word : FindsEquals (List ℕ) is_word
same_word [] [] h = refl
same_word [] (c ∷ w) h = absurd (false≢true h)
same_word (a ∷ v) [] h = absurd (false≢true h)
same_word (a ∷ v) (c ∷ w) h =
    let parts = and_parts (a == c) (is_word v w) h in
    ap₂ ◌∷◌ (eqb-true a c parts.0) (same_word v w parts.1)

pub same_piece : FindsEquals Piece is_same_piece
same_piece (constant_piece s) (constant_piece t) h = ap constant_piece (eqb-true s t h)
same_piece (word_piece v) (word_piece w) h = ap word_piece (same_word v w h)
same_piece (constant_piece s) (word_piece w) h = absurd (false≢true h)
same_piece (word_piece v) (constant_piece t) h = absurd (false≢true h)

pub same_pieces : FindsEquals (List Piece) (pointwise is_same_piece)
same_pieces = same_lists is_same_piece same_piece

pub same_variable : FindsEquals Variable is_same_variable
same_variable (int_constant s) (int_constant t) h = ap int_constant (eqb-true s t h)
same_variable (length_of s) (length_of t) h = ap length_of (eqb-true s t h)
same_variable (int_constant s) (length_of t) h = absurd (false≢true h)
same_variable (length_of s) (int_constant t) h = absurd (false≢true h)

pub same_summand : FindsEquals Summand is_same_summand
same_summand s t h =
    let parts = and_parts (int_eq s.0 t.0) (is_same_variable s.1 t.1) h in
    pairs s.0 t.0 s.1 t.1 (same_number s.0 t.0 parts.0) (same_variable s.1 t.1 parts.1)
  where
    pairs : (c d : ℤ) (x y : Variable) → c ≡ d → x ≡ y → ◌≡◌ {A = Summand} (c, x) (d, y)
    pairs c d x y e f = cc

pub same_atom : OrderTellsApart → FindsEquals Atom is_same_atom
same_atom apart (bool_atom s) (bool_atom t) h = ap bool_atom (eqb-true s t h)
same_atom apart (in_atom ps r) (in_atom qs s) h =
    let parts = and_parts (pointwise is_same_piece ps qs) (regex_eq r s) h in
    ap₂ in_atom (same_pieces ps qs parts.0) (same_regex apart r s parts.1)
same_atom apart (le_atom x k) (le_atom y j) h =
    let parts = and_parts (is_same_variable x y) (int_eq k j) h in
    ap₂ le_atom (same_variable x y parts.0) (same_number k j parts.1)
same_atom apart (sum_atom k ss) (sum_atom j ts) h =
    let parts = and_parts (int_eq k j) (pointwise is_same_summand ss ts) h in
    ap₂ sum_atom (same_number k j parts.0) (same_lists is_same_summand same_summand ss ts parts.1)
same_atom apart (and_atom ls) (and_atom ms) h =
    ap and_atom (same_lists is_same_literal is_same_literal-true ls ms h)
same_atom apart (iff_atom l m) (iff_atom k n) h =
    let parts = and_parts (is_same_literal l k) (is_same_literal m n) h in
    ap₂ iff_atom (is_same_literal-true l k parts.0) (is_same_literal-true m n parts.1)
same_atom apart (bool_atom s) _ h = absurd (false≢true h)
same_atom apart (in_atom ps r) _ h = absurd (false≢true h)
same_atom apart (le_atom x k) _ h = absurd (false≢true h)
same_atom apart (sum_atom k ss) _ h = absurd (false≢true h)
same_atom apart (and_atom ls) _ h = absurd (false≢true h)
same_atom apart (iff_atom l m) _ h = absurd (false≢true h)

-- Each to itself.

abbrev pub FindsItself : (A : Type 0) → (A → A → Bool) → Type 0
FindsItself A test = (a : A) → test a a ≡ true

pub lists_themselves : {A : Type 0} (test : A → A → Bool) → FindsItself A test
    → FindsItself (List A) (pointwise test)
lists_themselves test itself [] = refl
lists_themselves test itself (x ∷ xs) =
    and_from (test x x) (pointwise test xs xs) (itself x) (lists_themselves test itself xs)

pub regex_itself : OrderTellsApart → FindsItself Regex regex_eq
regex_itself apart r = (Equal-is (regex_cmp r r)).1 ((apart r r).1 refl)

natural_itself : (n : ℕ) → (n == n) ≡ true
natural_itself n = grind (arith, nat_tests)

number_itself : FindsItself ℤ int_eq
number_itself n = (Decides-int_eq n n).1 refl

word_itself : FindsItself (List ℕ) is_word
word_itself [] = refl
word_itself (c ∷ w) = and_from (c == c) (is_word w w) (natural_itself c) (word_itself w)

piece_itself : FindsItself Piece is_same_piece
piece_itself (constant_piece s) = natural_itself s
piece_itself (word_piece w) = word_itself w

variable_itself : FindsItself Variable is_same_variable
variable_itself (int_constant s) = natural_itself s
variable_itself (length_of s) = natural_itself s

summand_itself : FindsItself Summand is_same_summand
summand_itself s =
    and_from (int_eq s.0 s.0) (is_same_variable s.1 s.1) (number_itself s.0) (variable_itself s.1)

pub atom_itself : OrderTellsApart → FindsItself Atom is_same_atom
atom_itself apart (bool_atom s) = natural_itself s
atom_itself apart (in_atom ps r) =
    and_from (pointwise is_same_piece ps ps) (regex_eq r r) (lists_themselves is_same_piece piece_itself ps)
    (regex_itself apart r)
atom_itself apart (le_atom x k) =
    and_from (is_same_variable x x) (int_eq k k) (variable_itself x) (number_itself k)
atom_itself apart (sum_atom k ss) =
    and_from (int_eq k k) (pointwise is_same_summand ss ss) (number_itself k)
    (lists_themselves is_same_summand summand_itself ss)
atom_itself apart (and_atom ls) = lists_themselves is_same_literal is_same_literal-self ls
atom_itself apart (iff_atom l m) =
    and_from (is_same_literal l l) (is_same_literal m m) (is_same_literal-self l) (is_same_literal-self m)
