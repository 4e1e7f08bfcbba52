-- The clauses of gates of an atom speak of the atoms up to it, and their lines follow.
use Rattle.sb_refute.proofs.Words.{◌≡◌, ◌≢◌, ◌⊎◌, ℕ, zero, suc, ◌+◌, ◌<◌, true, nat_lt, List, [], ◌∷◌, ◌++◌, length, map, take, Option, Result, Ok, Err, All, Contains, inl, inr, refl, sym, ap, subst, ◌∙◌, arith, append_assoc, list_all, and_parts, and_from, false≢true, lt-ltb, ltb-true, length-map, map-append, get_or_from_slice_get, slice_get-get_or, IfOk, Lit, are_ascending, Kept, kept_at, are_reserved, Regex, line, AtomOver, bool_atom, in_atom, le_atom, sum_atom, and_atom, iff_atom, AllKept, Asked, with_clause, follows, rule_line, text_of, is_small_literal, RuleLinesAreExact, with_bytes, NameEarlier, over, atoms_in, atom_at, gate_clauses, puts_one, Backing, EvidencesUncounted, HasGatesOf, IsOfGates, LeadsAlways, at_bottom, All-nil, All-cons, Atom, names_below, is_gate, GatesAreExact, ascend_form}
use Rattle.sb_rulebook.specs.Lines as lines
use Rattle.sb_sound.specs.ClauseLaws.{AreDefined}
use Rattle.sb_refute.proofs.Backs.{backs-beside, backs-clause, units-stay}
use Rattle.sb_refute.proofs.GateLiterals.{each-part, of-gate}
use Rattle.sb_refute.proofs.Holding.{literals-grown}

-- Elements of lists.

pub cons-cases : {X : Type 0} (y : X) (xs : List X) (x : X) → Contains (y ∷ xs) x → (y ≡ x) ⊎ Contains xs x
cons-cases y xs x (zero, l, e) = inl e
cons-cases y xs x (suc k, l, e) = inr (k, omega (arith, l), e)

pub not-in-nil : {X : Type 0} (x : X) → Contains [] x → ⊥
not-in-nil x (k, l, e) = omega (arith, l)

-- The atoms of the clauses.

parts-below : (rs : List Regex) (n i : ℕ) (a : AtomOver ℕ) → i < n → names_below i (over rs a) ≡ true
    → each-part (λ k. nat_lt k n) a ≡ true
parts-below rs n i (bool_atom serial) low h = refl
parts-below rs n i (in_atom ps r) low h = refl
parts-below rs n i (le_atom x k) low h = refl
parts-below rs n i (sum_atom k ss) low h = refl
parts-below rs n i (and_atom ls) low h = literals-grown i n ls (omega (arith, low)) h
parts-below rs n i (iff_atom l m) low h =
    let p = and_parts (nat_lt l.atom i) (nat_lt m.atom i) h in
    and_from (nat_lt l.atom n) (nat_lt m.atom n) (lower l.atom p.0) (lower m.atom p.1)
  where
    lower : (k : ℕ) → nat_lt k i ≡ true → nat_lt k n ≡ true
    lower k is = let less = ltb-true k i is in lt-ltb k n (omega (arith, less, low))

-- those of an atom that names none but atoms before it
gates-below : (rs : List Regex) (n i : ℕ) (a : AtomOver ℕ) → i < n → names_below i (over rs a) ≡ true
    → list_all (are_reserved n) (gate_clauses i a) ≡ true
gates-below rs n i a low h = of-gate (λ k. nat_lt k n) i a (lt-ltb i n low) (parts-below rs n i a low h)

pub are-gates : (atoms : List (AtomOver ℕ)) (cs : List (List Lit))
    → list_all (are_reserved (length atoms)) cs ≡ true → list_all are_ascending cs ≡ true
    → ((rs : List Regex) → list_all (is_gate (atoms_in rs atoms)) cs ≡ true) → All (IsOfGates atoms) cs
are-gates atoms [] known ascend gates = All-nil (IsOfGates atoms)
are-gates atoms (c ∷ cs) known ascend gates =
    let p = and_parts (are_reserved (length atoms) c) (list_all (are_reserved (length atoms)) cs) known in
    let q = and_parts (are_ascending c) (list_all are_ascending cs) ascend in
    All-cons (IsOfGates atoms) c cs
    (record {
      known = p.0;
      ascends = q.0;
      gate = λ rs. (and_parts (is_gate (atoms_in rs atoms) c) (list_all (is_gate (atoms_in rs atoms)) cs) (gates rs)).0;
    })
    (are-gates atoms cs p.1 q.1
    (λ rs. (and_parts (is_gate (atoms_in rs atoms) c) (list_all (is_gate (atoms_in rs atoms)) cs) (gates rs)).1))

pub gates-found : {A E : Type 0} (r : Result A E) (items : A → List (List Lit)) (atoms : List (AtomOver ℕ)) (i : ℕ)
    → i < length atoms → NameEarlier 0 atoms → IfOk r (λ x. items x ≡ gate_clauses i (atom_at atoms i))
    → IfOk r (λ x. list_all are_ascending (items x) ≡ true)
    → IfOk r (λ x. (rs : List Regex) → list_all (is_gate (atoms_in rs atoms)) (items x) ≡ true)
    → IfOk r (λ x. All (IsOfGates atoms) (items x))
gates-found (Err e) items atoms i low earlier exact ascend gates = tt
gates-found (Ok x) items atoms i low earlier exact ascend gates =
    are-gates atoms (items x)
    (ap (list_all (are_reserved (length atoms))) exact
    ∙ gates-below [] (length atoms) i (atom_at atoms i) low
    (earlier i (atom_at atoms i) (omega arith) (slice_get-get_or atoms i (bool_atom 0) low) []))
    ascend gates

-- none is empty
pub some-gate : (atoms : List (AtomOver ℕ)) (clause : List Lit) → IsOfGates atoms clause → clause ≢ []
some-gate atoms clause h none =
    false≢true (subst (λ (ls : List Lit). is_gate (atoms_in [] atoms) ls ≡ true) none (h.gate []))

-- The line of a clause.

known-defined : (rs : List Regex) (atoms : List (AtomOver ℕ)) (clause : List Lit)
    → are_reserved (length atoms) clause ≡ true → AreDefined (atoms_in rs atoms) clause
known-defined rs atoms [] h l among = absurd (not-in-nil l among)
known-defined rs atoms (m ∷ ms) h l among =
    let p = and_parts (nat_lt m.atom (length atoms)) (are_reserved (length atoms) ms) h in
    elim (cons-cases m ms l among) [
      | inl one ↦ subst (λ (k : Lit). k.atom < length (atoms_in rs atoms)) one
          (subst (λ n. m.atom < n) (sym (length-map atoms (over rs))) (ltb-true m.atom (length atoms) p.0))
      | inr more ↦ known-defined rs atoms ms p.1 l more
    ]

gate-follows : RuleLinesAreExact → GatesAreExact → (asked : Asked) (kept : AllKept) (rs : List Regex)
    (atoms : List (AtomOver ℕ)) (clause : List Lit) → kept.atoms ≡ atoms_in rs atoms → IsOfGates atoms clause
    → follows asked kept (rule_line lines.gate clause) ≡ Ok (with_clause kept clause 0 [])
gate-follows exact gates asked kept rs atoms clause is h =
    (exact asked kept (with_clause kept clause 0 []) lines.gate clause).1 (record {
      defined = subst (λ (all : List Atom). AreDefined all clause) (sym is) (known-defined rs atoms clause h.known);
      ascend = ascend_form clause h.ascends;
      form = (gates kept.atoms clause).0 (ap (λ (all : List Atom). is_gate all clause) is ∙ h.gate rs);
      new = λ c. absurd (false≢true c);
      counts = λ c. absurd (false≢true c);
      is_free = λ c. refl;
    })

pub gate-put : RuleLinesAreExact → GatesAreExact → (e f : Backing) (clause given : List Lit) (old new : Option (List ℕ))
    → IsOfGates e.atoms clause → list_all is_small_literal given ≡ true → given ≡ clause
    → f ≡ record e { kept = e.kept ++ at_bottom clause ∷ [] }
    → new ≡ with_bytes (line (text_of (rule_line lines.gate given))) old → LeadsAlways e f old new
gate-put exact gates e f clause given old new h smalls same is told = λ asked rs memo before b.
    subst (λ (x : Backing). EvidencesUncounted asked before rs memo x old new) (sym is) (record {
      after = with_clause before clause 0 [];
      puts = puts_one asked before (with_clause before clause 0 []) (rule_line lines.gate clause) old new
          (gate-follows exact gates asked before rs e.atoms clause b.atoms h)
          (ap (list_all is_small_literal) (sym same) ∙ smalls)
          (told ∙ ap (λ (ls : List Lit). with_bytes (line (text_of (rule_line lines.gate ls))) old) same);
      backs = backs-clause rs memo e before clause 0 [] e.asserted
          (units-stay e.kept (record { literals = clause; level = 0 }) e.asserted b.asserted) b;
      counted = refl;
    })

-- where more atoms have their gates
pub gates-passed : (e f : Backing) (gates : ℕ) (old new : Option (List ℕ)) → LeadsAlways e f old new
    → LeadsAlways e (record f { gates = gates }) old new
gates-passed e f gates old new leads = λ asked rs memo before b.
    let h = leads asked rs memo before b in
    record {
      after = h.after;
      puts = h.puts;
      backs = backs-beside rs memo f h.after f.refuted gates h.backs;
      counted = h.counted;
    }

-- All clauses of an atom.

kept-behind : (kept : Kept) (cs : List (List Lit)) (c : List Lit) → Contains cs c
    → (id : ℕ) × (kept_at (kept ++ map at_bottom cs) id ≡ at_bottom c)
kept-behind (k ∷ kept) cs c among = let it = kept-behind kept cs c among in (suc it.0, it.1)
kept-behind [] [] c among = absurd (not-in-nil c among)
kept-behind [] (d ∷ cs) c among = elim (cons-cases d cs c among) [
  | inl one ↦ (0, ap at_bottom one)
  | inr more ↦ let it = kept-behind [] cs c more in (suc it.0, it.1)
]

-- nothing else is other than before
pub kept-alone : (e f : Backing) (kept : Kept) → f ≡ record e { kept = kept } → f ≡ record e { kept = f.kept }
kept-alone e f kept is = is ∙ ap (λ (k : Kept). record e { kept = k }) (sym (ap (λ (x : Backing). x.kept) is))

pub gates-alone : (e f : Backing) (kept : Kept) (gates : ℕ) → f ≡ record e { kept = kept; gates = gates }
    → f ≡ record e { kept = f.kept; gates = f.gates }
gates-alone e f kept gates is = is ∙ ap (λ (x : Backing). record e { kept = x.kept; gates = x.gates }) (sym is)

pub gates-alone-both : (e f g : Backing) → f ≡ record e { kept = f.kept; gates = f.gates }
    → g ≡ record f { kept = g.kept; gates = g.gates } → g ≡ record e { kept = g.kept; gates = g.gates }
gates-alone-both e f g p q = q ∙ ap (λ (x : Backing). record x { kept = g.kept; gates = g.gates }) p

pub kept-more : (e mid new : Backing) (cs : List (List Lit)) (i : ℕ) (c : List Lit)
    → take (i + 1) cs ≡ take i cs ++ c ∷ [] → mid ≡ record e { kept = e.kept ++ map at_bottom (take i cs) }
    → new ≡ record mid { kept = mid.kept ++ at_bottom c ∷ [] }
    → new ≡ record e { kept = e.kept ++ map at_bottom (take (i + 1) cs) }
kept-more e mid new cs i c more before now =
    now ∙ ap (λ (f : Backing). record f { kept = f.kept ++ at_bottom c ∷ [] }) before
    ∙ ap (λ (k : Kept). record e { kept = k })
    (append_assoc e.kept (map at_bottom (take i cs)) (at_bottom c ∷ [])
    ∙ ap (λ (k : Kept). e.kept ++ k) (sym (ap (map at_bottom) more ∙ map-append at_bottom (take i cs) (c ∷ []))))

pub has-gates : (atoms : List (AtomOver ℕ)) (i : ℕ) (old new : Kept) (cs : List (List Lit))
    → cs ≡ gate_clauses i (atom_at atoms i) → new ≡ old ++ map at_bottom cs → HasGatesOf i atoms new
has-gates atoms i old new cs are is = λ a clause named among.
    let at : gate_clauses i a ≡ cs =
    ap (gate_clauses i) (sym (get_or_from_slice_get atoms i a (bool_atom 0) named)) ∙ sym are in
    let it = kept-behind old cs clause (subst (λ (ds : List (List Lit)). Contains ds clause) at among) in
    (it.0, ap (λ (k : Kept). kept_at k it.0) is ∙ it.1)
