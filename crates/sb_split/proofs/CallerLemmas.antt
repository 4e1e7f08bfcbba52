-- What a caller cites of tables that grow, of the literals in clauses of steps, of paths and guards that stay, and of
-- the lines of atoms.
use Rattle.sb_split.proofs.Words.{Bool, List, [], ◌∷◌, ◌≡◌, ◌<◌, arith, length, not, true, ℕ, Adds, AreDue, Asked, AtomOver, Regex, Sort, slice_get_within, All-cons, All-contains, All-nil, Atom, Contains, IsStep, Lit, constant_piece, in_atom, minus, mkpath, nd_along, of_constant, of_not_nullable, of_nullable, of_sign, of_word, plus, word_piece}
pub use Rattle.sb_split.proofs.AddedFacts.{names_more, adds_none, adds_arena, adds_both, adds_given}
pub use Rattle.sb_split.proofs.OrderFacts.{set_ordered}
pub use Rattle.sb_split.proofs.StepFacts.{IsLead, IsRest, lead_known, named_at, named_over, rest_known, step_is, step_lead, step_other, step_rest}
pub use Rattle.sb_split.proofs.CoverFacts.{about_later, path_later, paths_later, covers_later}
pub use Rattle.sb_split.proofs.DefinedAtoms.{take_known, tracks_beside}
pub use Rattle.sb_split.proofs.Exits.{called_none, called_on}

-- what is added is due, where the constants are declared
pub due_added : (asked : Asked) (given : List Sort → Bool) (rs ss : List Regex) (old new : List (AtomOver ℕ))
    (known : ℕ) → known ≡ length old → given asked.sorts ≡ true → Adds given rs ss old new → AreDue asked known new
due_added asked given rs ss old new known is declared added = λ i a low names.
    let it = added.defined i a (omega (arith, is, low)) names in
    (it.0, λ before long. it.1 asked.sorts before declared)

-- the atom of each literal is in the table
pub step_known : (atoms : List Atom) (clause : List Lit) → IsStep atoms clause → (l : Lit) → Contains clause l
    → l.atom < length atoms
step_known atoms clause (of_nullable a r there is set) l among =
    All-contains (λ m. m.atom < length atoms) (plus a ∷ []) l
    (All-cons (λ m. m.atom < length atoms) (plus a) [] (slice_get_within atoms a (in_atom [] r) there)
    (All-nil (λ m. m.atom < length atoms))) (set.no_others l among)
step_known atoms clause (of_not_nullable a r there is set) l among =
    All-contains (λ m. m.atom < length atoms) (minus a ∷ []) l
    (All-cons (λ m. m.atom < length atoms) (minus a) [] (slice_get_within atoms a (in_atom [] r) there)
    (All-nil (λ m. m.atom < length atoms))) (set.no_others l among)
step_known atoms clause (of_word a c w ps r s first second set) l among =
    All-contains (λ m. m.atom < length atoms) (of_sign s a ∷ of_sign (not s) c ∷ []) l
    (All-cons (λ m. m.atom < length atoms) (of_sign s a) (of_sign (not s) c ∷ [])
    (slice_get_within atoms a (in_atom (word_piece w ∷ ps) r) first)
    (All-cons (λ m. m.atom < length atoms) (of_sign (not s) c) []
    (slice_get_within atoms c (in_atom ps (nd_along r w)) second) (All-nil (λ m. m.atom < length atoms))))
    (set.no_others l among)
step_known atoms clause (of_constant a b c x ps r q s first between second set) l among =
    All-contains (λ m. m.atom < length atoms) (minus b ∷ of_sign s a ∷ of_sign (not s) c ∷ []) l
    (All-cons (λ m. m.atom < length atoms) (minus b) (of_sign s a ∷ of_sign (not s) c ∷ [])
    (slice_get_within atoms b (in_atom (constant_piece x ∷ []) (mkpath r q)) between)
    (All-cons (λ m. m.atom < length atoms) (of_sign s a) (of_sign (not s) c ∷ [])
    (slice_get_within atoms a (in_atom (constant_piece x ∷ ps) r) first)
    (All-cons (λ m. m.atom < length atoms) (of_sign (not s) c) [] (slice_get_within atoms c (in_atom ps q) second)
    (All-nil (λ m. m.atom < length atoms))))) (set.no_others l among)
