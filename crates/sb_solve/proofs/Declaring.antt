-- Atoms that are defined for a term whose constants are declared are over declared constants, and so is that of an
-- assumption of a declared constant.
use Rattle.sb_solve.proofs.Words.{◌≡◌, ◌≤◌, ℕ, true, List, [], ◌∷◌, ◌++◌, length, append_assoc, refl, sym, ap, subst, ◌∙◌, arith, list_all, and_from, and_parts, Atom, AtomOver, bool_atom, in_atom, le_atom, sum_atom, and_atom, iff_atom, constant_piece, word_piece, Sort, text, is_declared, has_declared, has_its_parts, Term, Names, AreDefined, are_declared, is_sorted, Piece, boolean, map, all_weaker, list_all-map, inl, inr, IsWith, is_declared_constant}
use Rattle.std.proofs.Common.{replicate}
use Rattle.std.specs.List.{flat_map}
use Rattle.sb_script.specs.Sums.{Variable, Summand, int_constant, length_of}
use Rattle.sb_rulebook.specs.AtomRules.{is_declared_piece, is_declared_variable}
use Rattle.sb_rulebook.specs.Atoms.{piece_constants, variable_constant}
use Rattle.std.proofs.lemmas.List.{length-append, length-replicate}
use Rattle.sb_atoms.specs.Numbered as table

pieces_declared : (sorts : List Sort) (ps : List Piece) → list_all (is_declared_piece sorts) ps ≡ true
    → list_all (is_declared_constant sorts) (flat_map piece_constants ps) ≡ true
pieces_declared sorts [] h = refl
pieces_declared sorts (constant_piece serial ∷ ps) h =
    let parts = and_parts (is_declared sorts text serial) (list_all (is_declared_piece sorts) ps) h in
    and_from (is_declared sorts text serial) (list_all (is_declared_constant sorts) (flat_map piece_constants ps))
    parts.0 (pieces_declared sorts ps parts.1)
pieces_declared sorts (word_piece w ∷ ps) h = pieces_declared sorts ps h

variable_declared : (sorts : List Sort) (x : Variable) → is_declared_variable sorts x ≡ true
    → is_declared_constant sorts (variable_constant x) ≡ true
variable_declared sorts (int_constant serial) h = h
variable_declared sorts (length_of serial) h = h

summands_declared : (sorts : List Sort) (ss : List Summand)
    → list_all (λ (s : Summand). is_declared_variable sorts s.1) ss ≡ true
    → list_all (is_declared_constant sorts) (map (λ (s : Summand). variable_constant s.1) ss) ≡ true
summands_declared sorts ss h =
    list_all-map (is_declared_constant sorts) (λ (s : Summand). variable_constant s.1) ss
    ∙ all_weaker (λ (s : Summand). is_declared_variable sorts s.1)
    (λ (s : Summand). is_declared_constant sorts (variable_constant s.1)) (λ s there. variable_declared sorts s.1 there)
    ss h

parts_declared : (sorts : List Sort) (before : List Atom) (a : AtomOver ℕ) → has_its_parts sorts before a ≡ true
    → is_sorted sorts a ≡ true
parts_declared sorts before (bool_atom serial) h = and_from (is_declared sorts boolean serial) true h refl
parts_declared sorts before (in_atom ps r) h = pieces_declared sorts ps h
parts_declared sorts before (le_atom x k) h =
    and_from (is_declared_constant sorts (variable_constant x)) true (variable_declared sorts x h) refl
parts_declared sorts before (sum_atom k ss) h = summands_declared sorts ss h
parts_declared sorts before (and_atom ls) h = refl
parts_declared sorts before (iff_atom l m) h = refl

front_at : (front more : List (AtomOver ℕ)) (a : AtomOver ℕ) → Names (front ++ a ∷ more) (length front) a
front_at [] more a = refl
front_at (x ∷ front) more a = front_at front more a

rest_declared : (sorts : List Sort) (front more : List (AtomOver ℕ))
    → ((i : ℕ) (a : AtomOver ℕ) → length front ≤ i → Names (front ++ more) i a → is_sorted sorts a ≡ true)
    → are_declared sorts more ≡ true
rest_declared sorts front [] h = refl
rest_declared sorts front (a ∷ more) h =
    and_from (is_sorted sorts a) (are_declared sorts more) (h (length front) a (omega arith) (front_at front more a))
    (rest_declared sorts (front ++ a ∷ []) more
    (λ i b low at.
    h i b (let e = length-append front (a ∷ []) in omega (arith, low, e))
    (subst (λ (xs : List (AtomOver ℕ)). Names xs i b) (append_assoc front (a ∷ []) more) at)))

both_declared : (sorts : List Sort) (xs ys : List (AtomOver ℕ)) → are_declared sorts xs ≡ true
    → are_declared sorts ys ≡ true → are_declared sorts (xs ++ ys) ≡ true
both_declared sorts [] ys h k = k
both_declared sorts (x ∷ xs) ys h k =
    let parts = and_parts (is_sorted sorts x) (are_declared sorts xs) h in
    and_from (is_sorted sorts x) (are_declared sorts (xs ++ ys)) parts.0 (both_declared sorts xs ys parts.1 k)

pub declared_more : (sorts : List Sort) (old new : List (AtomOver ℕ)) (t : Term) → table.Extends old new
    → AreDefined old new t → has_declared sorts t ≡ true → are_declared sorts old ≡ true
    → are_declared sorts new ≡ true
declared_more sorts old new t extends defined has h =
    ap (λ (xs : List (AtomOver ℕ)). are_declared sorts xs) extends.is
    ∙ both_declared sorts old extends.more h
    (rest_declared sorts old extends.more
    (λ i a low at.
    let is = defined i a low (subst (λ (xs : List (AtomOver ℕ)). Names xs i a) (sym extends.is) at) in
    parts_declared sorts (replicate i (bool_atom 0)) a
    (is.1 sorts (replicate i (bool_atom 0)) has (length-replicate i (bool_atom 0)))))

pub declared_with : (sorts : List Sort) (old new : List (AtomOver ℕ)) (serial : ℕ) → IsWith old new (bool_atom serial)
    → is_declared sorts boolean serial ≡ true → are_declared sorts old ≡ true → are_declared sorts new ≡ true
declared_with sorts old new serial (inl same) here h = ap (λ (xs : List (AtomOver ℕ)). are_declared sorts xs) same ∙ h
declared_with sorts old new serial (inr more) here h =
    ap (λ (xs : List (AtomOver ℕ)). are_declared sorts xs) more
    ∙ both_declared sorts old (bool_atom serial ∷ []) h
    (and_from (is_sorted sorts (bool_atom serial)) true (and_from (is_declared sorts boolean serial) true here refl)
    refl)

-- no constant stands in the membership of no pieces
pub declared_end : (sorts : List Sort) (old new : List (AtomOver ℕ)) (r : ℕ) → IsWith old new (in_atom [] r)
    → are_declared sorts old ≡ true → are_declared sorts new ≡ true
declared_end sorts old new r (inl same) h = ap (λ (xs : List (AtomOver ℕ)). are_declared sorts xs) same ∙ h
declared_end sorts old new r (inr more) h =
    ap (λ (xs : List (AtomOver ℕ)). are_declared sorts xs) more
    ∙ both_declared sorts old (in_atom [] r ∷ []) h refl
