-- What stays and what grows, step behind step.
use Rattle.sb_theory.proofs.Words.{inl, inr, ◌++◌, ◌∙◌, ◌≡◌, Bool, List, ap, ap₂, arith, length, refl, slice_get, subst, sym, true, ℕ, AreClashing, AreLevelled, ArenaGrows, Assigned, AtomOver, Contains, Explores, Findings, Frame, Grows, HasClash, HaveRegexesBelow, Holds, Intake, IsAsked, IsLeft, IsSettled, IsTaught, Keeps, Lit, Looks, Piece, Regex, RegexesGrow, Stands, Store, Strings, TableGrows, Tables, atoms_in, atoms_kept, bases_of, clash_grown, expanded_in, explored, flat_map, frame_of, intake_of, is_atom, regexes_both, regexes_kept, regexes_same, row_at, tables_of, tails_in, tails_of, take_all, wanted_on, wishes}
use Rattle.std.proofs.lemmas.List.Elements.{Contains-append_cases, Contains-append_left, Contains-append_right}
use Rattle.sb_theory.specs.Wishes.{regexes_in, wishes_of}
use Rattle.sb_theory.proofs.Rows.{row_about}
use Rattle.sb_theory.proofs.Tables.{atom_more, table_both, table_none, taught_more}
pub use Rattle.sb_theory.proofs.Tables.{holds_grown}
use Rattle.sb_theory.proofs.Wishes.{left_grown}
use Rattle.sb_theory.specs.Walks.{rows_of}

-- The store where regexes were explored.
pub store_explored : ArenaGrows → (x : Store) (rs : List Regex) (g : Findings) → Explores x.arena rs x.graph g
    → RegexesGrow x (record x { arena = rs; graph = g })
store_explored grow x rs g e = explored grow x rs g e.extends e.graph e.derivatives e.marks

-- Where the store grows,

-- and lines may be put,
pub grows_store : {x y : Strings} → Holds x → RegexesGrow x.store y.store → frame_of y ≡ frame_of x
    → y.atoms ≡ x.atoms → Grows x y
grows_store {x} h g frame atoms = record {
  frame = frame;
  table = subst (TableGrows x.atoms) (sym atoms) (table_none x.atoms);
  below = h.regexes;
  store = g;
}

-- or none are,
pub keeps_grown : {x y : Strings} → Holds x → RegexesGrow x.store y.store → frame_of y ≡ frame_of x
    → tables_of y ≡ tables_of x → Keeps x y
keeps_grown h g frame tables =
    record { grows = grows_store h g frame (ap (λ (t : Tables). t.atoms) tables); tables = tables }

pub keeps_none : {x : Strings} → Holds x → Keeps x x
keeps_none {x} h = keeps_grown h (regexes_same x.store) refl refl

pub looks_grown : {x y : Strings} → Holds x → RegexesGrow x.store y.store → frame_of y ≡ frame_of x
    → tables_of y ≡ tables_of x → intake_of y ≡ intake_of x → Looks x y
looks_grown h g frame tables intake = record { keeps = keeps_grown h g frame tables; intake = intake }

pub looks_none : {x : Strings} → Holds x → Looks x x
looks_none {x} h = looks_grown h (regexes_same x.store) refl refl refl

more_expanded : (front old new : List ℕ) (n : ℕ) → (Contains old n → Contains new n) → Contains (front ++ old) n
    → Contains (front ++ new) n
more_expanded front old new n more h = elim (Contains-append_cases front old n h) [
  | inl early ↦ Contains-append_left front new n early
  | inr late ↦ Contains-append_right front new n (more late)
]

-- what holds goes on to where nothing else changes,
pub holds_kept : {x y : Strings} → RegexesGrow x.store y.store → y ≡ record x { store = y.store } → Holds x → Holds y
holds_kept {x} {y} g is h =
    let z : Strings = record x { store = y.store } in
    subst Holds (sym is)
    (holds_grown {x = x} {y = z} g (table_none x.atoms)
    (regexes_kept x.store.arena y.store.arena x.atoms g.more.extends h.regexes) refl refl refl (λ n among. among) refl
    h)

-- or lines were put and expansions stay,
pub holds_traced : {x y : Strings} → RegexesGrow x.store y.store → y ≡ record x { store = y.store; trace = y.trace }
    → ((n : ℕ) → Contains (expanded_in x.trace) n → Contains (expanded_in y.trace) n) → Holds x → Holds y
holds_traced {x} {y} g is bases h =
    let z : Strings = record x { store = y.store; trace = y.trace } in
    subst Holds (sym is)
    (holds_grown {x = x} {y = z} g (table_none x.atoms)
    (regexes_kept x.store.arena y.store.arena x.atoms g.more.extends h.regexes) refl refl refl
    (λ n among. more_expanded (flat_map (λ i. regexes_in (slice_get x.atoms i)) x.wanted ++ x.expanded.keys)
    (expanded_in x.trace) (expanded_in y.trace) n (bases n) among) refl h)

pub grows_both : {x y z : Strings} → Grows x y → Grows y z → Grows x z
grows_both {x} {y} {z} p q = record {
  frame = q.frame ∙ p.frame;
  table = table_both x.atoms y.atoms z.atoms p.table q.table;
  below = p.below;
  store = regexes_both x.store y.store z.store p.store q.store;
}

pub keeps_both : {x y z : Strings} → Keeps x y → Keeps y z → Keeps x z
keeps_both p q = record { grows = grows_both p.grows q.grows; tables = q.tables ∙ p.tables }

pub looks_both : {x y z : Strings} → Looks x y → Looks y z → Looks x z
looks_both p q = record { keeps = keeps_both p.keeps q.keeps; intake = q.intake ∙ p.intake }

-- the parts

pub wanted_stays : {x y : Strings} → Grows x y → y.wanted ≡ x.wanted
wanted_stays g = ap (λ (f : Frame). f.wanted) g.frame

pub proves_stays : {x y : Strings} → Grows x y → y.proves ≡ x.proves
proves_stays g = ap (λ (f : Frame). f.proves) g.frame

pub atoms_stay : {x y : Strings} → Keeps x y → y.atoms ≡ x.atoms
atoms_stay k = ap (λ (t : Tables). t.atoms) k.tables

pub trace_stays : {x y : Strings} → Keeps x y → y.trace ≡ x.trace
trace_stays k = ap (λ (t : Tables). t.trace) k.tables

pub joined_stays : {x y : Strings} → Keeps x y → y.joined.items ≡ x.joined.items
joined_stays k = ap (λ (t : Tables). t.joined) k.tables

pub expanded_stays : {x y : Strings} → Keeps x y → y.expanded.keys ≡ x.expanded.keys
expanded_stays k = ap (λ (t : Tables). t.expanded) k.tables

pub entries_stay : {x y : Strings} → Looks x y → y.taken.items ≡ x.taken.items
entries_stay l = ap (λ (t : Intake). t.entries) l.intake

pub rows_stay : {x y : Strings} → Looks x y → y.members.items ≡ x.members.items
rows_stay l = ap (λ (t : Intake). t.rows) l.intake

pub bases_stay : {x y : Strings} → Keeps x y → bases_of y ≡ bases_of x
bases_stay k =
    ap₂ (λ (f : Frame) (t : Tables). flat_map (λ i. regexes_in (slice_get t.atoms i)) f.wanted ++ t.expanded
    ++ expanded_in t.trace) k.grows.frame k.tables

pub tails_kept : {x y : Strings} → Keeps x y → tails_of y ≡ tails_of x
tails_kept k =
    ap₂ (λ (f : Frame) (t : Tables). flat_map (λ i. tails_in (slice_get t.atoms i)) f.wanted) k.grows.frame k.tables

pub wishes_kept : {x y : Strings} → Keeps x y → wishes y ≡ wishes x
wishes_kept k = ap₂ (λ (pss : List (List Piece)) (ns : List ℕ). wishes_of pss ns) (tails_kept k) (bases_stay k)

-- each base of wishes stays one
pub bases_kept : {x y : Strings} → Keeps x y → (n : ℕ) → Contains (bases_of x) n → Contains (bases_of y) n
bases_kept k n among = subst (λ (ns : List ℕ). Contains ns n) (sym (bases_stay k)) among

-- what is left of a wanted membership
pub left_kept : {x y : Strings} → Keeps x y → (a : ℕ) → IsLeft x a → IsLeft y a
left_kept {x} {y} k a h =
    left_grown x y a (tails_kept k) (bases_kept k) k.grows.store.more.extends k.grows.table.extends k.grows.below h

-- the atoms are the same over the larger arena
pub table_stays : {x y : Strings} → Keeps x y → atoms_in y.store.arena y.atoms ≡ atoms_in x.store.arena x.atoms
table_stays {x} {y} k =
    ap (atoms_in y.store.arena) (atoms_stay k)
    ∙ atoms_kept x.store.arena y.store.arena x.atoms k.grows.store.more.extends k.grows.below

pub below_stays : {x y : Strings} → Keeps x y → HaveRegexesBelow (length y.store.arena) y.atoms
below_stays {x} {y} k =
    subst (HaveRegexesBelow (length y.store.arena)) (sym (atoms_stay k))
    (regexes_kept x.store.arena y.store.arena x.atoms k.grows.store.more.extends k.grows.below)

-- what holds goes on to where tables and rows are as they were
pub holds_moved : {x y : Strings} → Keeps x y → rows_of y ≡ rows_of x → y.noted ≡ x.noted → Holds x → Holds y
holds_moved k rows noted h =
    holds_grown k.grows.store k.grows.table (below_stays k) (wanted_stays k.grows) noted (joined_stays k) (bases_kept k)
    rows h

-- known atoms are known
pub passes_grow : {x y : Strings} → Grows x y → (atom : ℕ) → is_atom x.atoms atom ≡ true → is_atom y.atoms atom ≡ true
passes_grow {x} {y} g atom h = atom_more x.atoms y.atoms atom g.table.extends h

pub taught_grows : {x y : Strings} → Grows x y → (clause : List Lit) → IsTaught x.store.arena x.atoms clause
    → IsTaught y.store.arena y.atoms clause
taught_grows g clause taught = taught_more clause g.store.more.extends g.table.extends g.below taught

-- what was taken in stands on the trail where it is as it was
pub stands_looked : {x y : Strings} {entries : List Assigned} → Holds y → y.taken.items ≡ x.taken.items
    → Stands x entries → Stands y entries
stands_looked holds same h = record {
  holds = holds;
  levelled = subst (λ (es : List Assigned). AreLevelled 0 es) (sym same) h.levelled;
  rest = h.rest;
  is = h.is ∙ ap (λ (es : List Assigned). es ++ h.rest) (sym same);
}

-- A row that has no word has none as the arena grows.
pub clash_looked : {x y : Strings} (constant : ℕ) → Holds x → Looks x y → HasClash x constant → HasClash y constant
clash_looked {x} {y} constant h looks clash =
    subst (λ (ts : List (AtomOver ℕ)). AreClashing y.store.arena ts (row_at y.members.items constant))
    (sym (atoms_stay looks.keeps))
    (subst (λ (rows : List (List Lit)). AreClashing y.store.arena x.atoms (row_at rows constant))
    (sym (rows_stay looks)) (clash_grown x.store.arena y.store.arena x.atoms constant
    (row_at x.members.items constant) looks.keeps.grows.store.more.extends h.regexes
    (row_about x.atoms constant x.members.items (wanted_on x.noted x.taken.items) h.rows.members) clash))

-- where the whole row was asked for
pub settled_by : {x y : Strings} {constant : ℕ} {row : List Lit} (found : Bool)
    → IsAsked (length row) x y constant found → row ≡ row_at y.members.items constant → IsSettled x y constant found
settled_by {x} {y} {constant} {row} found h is = record {
  holds = h.holds;
  whole = λ alive. omega (arith, h.fits alive, ap length is);
  clash = λ dead. subst (λ (ls : List Lit). AreClashing y.store.arena y.atoms ls)
      (take_all (length row) (row_at y.members.items constant) (omega (arith, ap length is))) (h.clash dead);
  rises = h.rises;
}
