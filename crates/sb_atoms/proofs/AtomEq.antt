-- The derived test of atoms of the code.
use Rattle.std.proofs.Common.{◌≡◌, ℕ, Bool, true, false, nat_eq, List, [], ◌∷◌, map, refl, sym, ap, ap₂, ◌∙◌}
use Rattle.std.specs.Cmp.Lexicographic.{pointwise, pointwise_decides}
use Rattle.std.proofs.lemmas.Bool.{and_parts, and_from, false≢true, eq-eqb, eqb-true}
use Rattle.sb_lit.specs.declared.clause.Lit.{Lit}
use Rattle.sb_lit.specs.contracts.clause.LitPartialEq.TheImpl as of_literal
use Rattle.sb_lit.proofs.CallerLemmas.{is_same_literal-beq, is_same_literal-true, is_same_literal-of}
use Rattle.sb_script.specs.Pieces as pieces
use Rattle.sb_rulebook.specs.Atoms.{AtomOver, bool_atom, in_atom, le_atom, sum_atom, and_atom, iff_atom}
use Rattle.sb_rulebook.specs.Brought.{is_brought_atom}
use Rattle.sb_proof.specs.declared.atom.Piece.{Piece}
use Rattle.sb_proof.specs.declared.atom.Piece.TheVariants as piece
use Rattle.sb_proof.specs.contracts.atom.PiecePartialEq.TheImpl as of_piece
use Rattle.sb_proof.specs.declared.atom.Atom as code
use Rattle.sb_proof.specs.declared.atom.Atom.TheVariants as atom
use Rattle.sb_proof.specs.contracts.atom.AtomPartialEq.TheImpl as derived
use Rattle.sb_regex.specs.contracts.node.RegexId as id
use Rattle.sb_regex.specs.contracts.node.RegexIdPartialEq.TheImpl as of_id
use Rattle.sb_proof.specs.Lines.{atom_in, piece_in}
use Rattle.sb_atoms.proofs.TableFacts.{Decides}

-- Atoms of other kinds, and the parts of equal ones.

abbrev kind : {R : Type 0} → AtomOver R → ℕ
kind (bool_atom serial) = 0
kind (in_atom ps r) = 1
kind (le_atom x k) = 2
kind (sum_atom k ss) = 3
kind (and_atom ls) = 4
kind (iff_atom l m) = 5

pub other_kinds : {R : Type 0} (a b : AtomOver R) → nat_eq (kind a) (kind b) ≡ false → a ≡ b → ⊥
other_kinds a b h e = false≢true (sym h ∙ eq-eqb (kind a) (kind b) (ap kind e))

pub bool_part : {R : Type 0} (s t : ℕ) → ◌≡◌ {A = AtomOver R} (bool_atom s) (bool_atom t) → s ≡ t
bool_part s t e = cc

pub and_part : {R : Type 0} (ls ms : List Lit) → ◌≡◌ {A = AtomOver R} (and_atom ls) (and_atom ms) → ls ≡ ms
and_part ls ms e = cc

pub iff_parts : {R : Type 0} (l m k n : Lit) → ◌≡◌ {A = AtomOver R} (iff_atom l m) (iff_atom k n)
    → (l ≡ k) × (m ≡ n)
iff_parts l m k n e = (cc, cc)

in_parts : {R : Type 0} (ps qs : List pieces.Piece) (r q : R)
    → ◌≡◌ {A = AtomOver R} (in_atom ps r) (in_atom qs q) → (ps ≡ qs) × (r ≡ q)
in_parts ps qs r q e = (cc, cc)

-- The derived tests.

abbrev same_literal : Lit → Lit → Bool
same_literal = of_literal.ghosts.eq

literal_decides : (l m : Lit) → (of_literal.ghosts.eq l m ≡ true → l ≡ m) × (l ≡ m → of_literal.ghosts.eq l m ≡ true)
literal_decides l m = (
  λ h. is_same_literal-true l m (sym (is_same_literal-beq l m) ∙ h),
  λ e. is_same_literal-beq l m ∙ is_same_literal-of l m e,
)

number_decides : (m n : ℕ) → (nat_eq m n ≡ true → m ≡ n) × (m ≡ n → nat_eq m n ≡ true)
number_decides m n = (eqb-true m n, eq-eqb m n)

abbrev same_piece : Piece → Piece → Bool
same_piece = of_piece.ghosts.eq

constant_part : (s t : ℕ) → pieces.constant_piece s ≡ pieces.constant_piece t → s ≡ t
constant_part s t e = cc

word_part : (v w : List ℕ) → pieces.word_piece v ≡ pieces.word_piece w → v ≡ w
word_part v w e = cc

two_kinds : (s : ℕ) (w : List ℕ) → pieces.constant_piece s ≡ pieces.word_piece w → ⊥
two_kinds s w e = Prim.cc (e)

piece_gives : (p q : Piece) → same_piece p q ≡ true → piece_in p ≡ piece_in q
piece_gives (piece.Constant s) (piece.Constant t) h = ap pieces.constant_piece (eqb-true s t h)
piece_gives (piece.Word v) (piece.Word w) h =
    ap pieces.word_piece ((pointwise_decides number_decides v.items w.items).0 h)
piece_gives _ _ h = absurd (false≢true h)

piece_given : (p q : Piece) → piece_in p ≡ piece_in q → same_piece p q ≡ true
piece_given (piece.Constant s) (piece.Constant t) e = eq-eqb s t (constant_part s t e)
piece_given (piece.Word v) (piece.Word w) e =
    (pointwise_decides number_decides v.items w.items).1 (word_part v.items w.items e)
piece_given (piece.Constant s) (piece.Word w) e = absurd (two_kinds s w.items e)
piece_given (piece.Word v) (piece.Constant t) e = absurd (two_kinds t v.items (sym e))

head_part : {A : Type 0} (x y : A) (xs ys : List A) → x ∷ xs ≡ y ∷ ys → (x ≡ y) × (xs ≡ ys)
head_part x y xs ys e = (cc, cc)

no_head : {A : Type 0} (x : A) (xs : List A) → x ∷ xs ≡ [] → ⊥
no_head x xs e = Prim.cc (e)

pieces_give : (ps qs : List Piece) → pointwise same_piece ps qs ≡ true → map piece_in ps ≡ map piece_in qs
pieces_give [] [] h = refl
pieces_give (p ∷ ps) (q ∷ qs) h =
    let parts = and_parts (same_piece p q) (pointwise same_piece ps qs) h in
    ap₂ (λ (x : pieces.Piece) (xs : List pieces.Piece). x ∷ xs) (piece_gives p q parts.0) (pieces_give ps qs parts.1)
pieces_give [] (q ∷ qs) h = absurd (false≢true h)
pieces_give (p ∷ ps) [] h = absurd (false≢true h)

pieces_given : (ps qs : List Piece) → map piece_in ps ≡ map piece_in qs → pointwise same_piece ps qs ≡ true
pieces_given [] [] e = refl
pieces_given (p ∷ ps) (q ∷ qs) e =
    let parts = head_part (piece_in p) (piece_in q) (map piece_in ps) (map piece_in qs) e in
    and_from (same_piece p q) (pointwise same_piece ps qs) (piece_given p q parts.0) (pieces_given ps qs parts.1)
pieces_given [] (q ∷ qs) e = absurd (no_head (piece_in q) (map piece_in qs) (sym e))
pieces_given (p ∷ ps) [] e = absurd (no_head (piece_in p) (map piece_in ps) e)

abbrev pub same : code.Atom ℕ → code.Atom ℕ → Bool
same = (derived.ghosts id.the_row of_id.ghosts derived.no_dict).eq

same_gives : (d e : code.Atom ℕ) → is_brought_atom (atom_in d) ≡ true → same d e ≡ true → atom_in d ≡ atom_in e
same_gives (atom.Bool s) (atom.Bool t) is h = ap bool_atom (eqb-true s t h)
same_gives (atom.In ps r) (atom.In qs q) is h =
    let p = and_parts (pointwise same_piece ps.items qs.items) (nat_eq r q) h in
    ap₂ in_atom (pieces_give ps.items qs.items p.0) (eqb-true r q p.1)
same_gives (atom.Le x k) e is h = absurd (false≢true is)
same_gives (atom.Sum k ss) e is h = absurd (false≢true is)
same_gives (atom.And ls) (atom.And ms) is h = ap and_atom ((pointwise_decides literal_decides ls.items ms.items).0 h)
same_gives (atom.Iff l m) (atom.Iff k n) is h =
    let p = and_parts (same_literal l k) (same_literal m n) h in
    ap₂ iff_atom ((literal_decides l k).0 p.0) ((literal_decides m n).0 p.1)
same_gives _ _ is h = absurd (false≢true h)

gives_same : (d e : code.Atom ℕ) → is_brought_atom (atom_in d) ≡ true → atom_in d ≡ atom_in e → same d e ≡ true
gives_same (atom.Bool s) (atom.Bool t) is h = eq-eqb s t (bool_part s t h)
gives_same (atom.In ps r) (atom.In qs q) is h =
    let p = in_parts (map piece_in ps.items) (map piece_in qs.items) r q h in
    and_from (pointwise same_piece ps.items qs.items) (nat_eq r q) (pieces_given ps.items qs.items p.0) (eq-eqb r q p.1)
gives_same (atom.Le x k) e is h = absurd (false≢true is)
gives_same (atom.Sum k ss) e is h = absurd (false≢true is)
gives_same (atom.And ls) (atom.And ms) is h =
    (pointwise_decides literal_decides ls.items ms.items).1 (and_part ls.items ms.items h)
gives_same (atom.Iff l m) (atom.Iff k n) is h =
    let p = iff_parts l m k n h in
    and_from (same_literal l k) (same_literal m n) ((literal_decides l k).1 p.0) ((literal_decides m n).1 p.1)
gives_same d e is h = absurd (other_kinds (atom_in d) (atom_in e) refl h)

pub decides : Decides same
decides = record { gives = same_gives; given = gives_same }
