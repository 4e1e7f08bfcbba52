-- What is put of an assertion: the lines of its atoms, and its clause.
use Rattle.sb_refute.proofs.Words.{◌≡◌, ℕ, ◌^◌, ◌<◌, Bool, true, false, nat_eq, if◌then◌else◌, List, [], ◌∷◌, ◌++◌, length, slice_get, Option, Some, None, Ok, IfSome, refl, sym, ap, subst, ◌∙◌, arith, EvidencesUncounted, ◌≢◌, and_from, and_parts, ◌&&◌, lt-ltb, nat_tests, length-map, none-some, same_Some, some-none, Lit, Kept, Regex, Memo, line, AtomOver, follows, AllKept, Asked, with_clause, assertion_line, text_of, is_small, is_small_literal, translation, AssertionLinesAreExact, with_bytes, over, atoms_in, brought_translation, puts_none, puts_one, puts_both, Backing, Backs, DefinesAtoms, Traced, Tracks, IsStatement, KeepsAsserted, asserted_at, unit_at, Asserted, AreDue, IsAssertion, IsClaimed, IsStanding, Leads, LeadsClaimed, placed, Stand, Term, is_structure, Atom, AreDefined}
use Rattle.sb_script.specs.Brought.{a_statement_of}
use Rattle.sb_script.specs.Brought as script
use Rattle.sb_script.specs.Fragment.{fits, is_decided}
use Rattle.sb_script.specs.State as state
use Rattle.sb_refute.proofs.Backs.{backs-clause, backs-without, units-placed}
use Rattle.sb_refute.proofs.Holding.{gates-more}
use Rattle.sb_refute.proofs.Places.{placed-there, placed-others}

-- what a term adds is due
pub due-stated : (asked : Asked) (old new : List (AtomOver ℕ)) (known place level : ℕ) (t : Term)
    → IsStatement asked place t level → AreDefined old new t → known ≡ length old → AreDue asked known new
due-stated asked old new known place level t stated defined is = λ i a low names.
    let it = defined i a (omega (arith, is, low)) names in
    (it.0, λ before long. it.1 asked.sorts before stated.declared long)

pub structure-is : (atoms : List Atom) (t : Term) (l : Lit) → Some l ≡ brought_translation atoms t
    → translation atoms t ≡ Some l
structure-is atoms t l h = step (is_structure t) h
  where
    step : (b : Bool) → Some l ≡ (if b then translation atoms t else None) → translation atoms t ≡ Some l
    step true h = sym h
    step false h = absurd (none-some l (sym h))

-- what is decided may be stated
may-be-stated : (t : Term) → is_decided (state.asserted t) ≡ true → is_structure t ≡ true
may-be-stated t h = (and_parts (is_structure t) (fits t) h).0

-- its literal is the assertion's, if it has one
pub is-statement : (asked : Asked) (atoms : List Atom) (place : ℕ) (t : Term) (found : Option Lit) (level : ℕ)
    → IsStatement asked place t level → found ≡ brought_translation atoms t
    → IfSome found (λ l. IsAssertion asked atoms place l level)
is-statement asked atoms place t None level stated literal = tt
is-statement asked atoms place t (Some l) level stated literal =
    record {
      term = t;
      live = stated.live;
      stated = may-be-stated t stated.decided;
      literal = structure-is atoms t l literal;
    }

-- Lines that are put one behind another.

pub leads-none : (asked : Asked) (rs : List Regex) (memo : Memo) (e : Backing) (told : Option (List ℕ))
    → Leads asked rs memo e e told told
leads-none asked rs memo e told before b =
    record { after = before; puts = puts_none asked before told; backs = b; counted = refl }

pub uncounted-both : (asked : Asked) (before : AllKept) (rs more : List Regex) (memo new : Memo) (f g : Backing)
    (x y z : Option (List ℕ)) → EvidencesUncounted asked before rs memo f x y
    → ((after : AllKept) → Backs rs memo f after → EvidencesUncounted asked after more new g y z)
    → EvidencesUncounted asked before more new g x z
uncounted-both asked before rs more memo new f g x y z p second =
    let q = second p.after p.backs in
    record {
      after = q.after;
      puts = puts_both asked before p.after q.after x y z p.puts q.puts;
      backs = q.backs;
      counted = q.counted ∙ p.counted;
    }

pub leads-both : (asked : Asked) (rs : List Regex) (memo : Memo) (e f g : Backing) (x y z : Option (List ℕ))
    → Leads asked rs memo e f x y → Leads asked rs memo f g y z → Leads asked rs memo e g x z
leads-both asked rs memo e f g x y z first second before b =
    uncounted-both asked before rs rs memo memo f g x y z (first before b) second

-- those of atoms that are new
pub leads-defined : (asked : Asked) (rs : List Regex) (memo : Memo) (e : Backing) (t : Traced)
    (first : List (AtomOver ℕ)) (old new : Option (List ℕ))
    → ((before : AllKept) → Tracks rs memo e.trace before → before.atoms ≡ atoms_in rs first
    → DefinesAtoms asked before rs memo t e.atoms old new)
    → Leads asked rs memo (record e { atoms = first }) (record e { trace = t }) old new
leads-defined asked rs memo e t first old new defines before b =
    let d = defines before b.tracks b.atoms in
    record {
      after = d.after;
      puts = d.puts;
      backs = record { tracks = d.tracks; atoms = d.atoms; clauses = d.clauses ∙ b.clauses; asserted = b.asserted };
      counted = d.counted;
    }

-- The line of an assertion's clause.

assertion-follows : AssertionLinesAreExact → (asked : Asked) (kept : AllKept) (place : ℕ) (l : Lit) (t : Term)
    (level : ℕ) → slice_get asked.live place ≡ Some (Some t, level)
    → script.is_brought (a_statement_of t) ≡ true
    → l.atom < length kept.atoms → translation kept.atoms t ≡ Some l
    → follows asked kept (assertion_line place l) ≡ Ok (with_clause kept (l ∷ []) level (place ∷ []))
assertion-follows exact asked kept place l t level live stated known literal =
    (exact asked kept (with_clause kept (l ∷ []) level (place ∷ [])) place l).1 (record {
      term = t;
      level = level;
      live = live;
      stated = stated;
      defined = known;
      literal = literal;
      is_kept = refl;
    })

assertion-put : AssertionLinesAreExact → (e : Backing) (place : ℕ) (a : Asserted) (old new : Option (List ℕ))
    → a.literal.atom < length e.atoms → a.clause.0 ≡ length e.kept → place < 2 ^ 64 → a.literal.atom < 2 ^ 64
    → new ≡ with_bytes (line (text_of (assertion_line place a.literal))) old
    → LeadsClaimed place (Some a.literal) a.level e
    (record e { kept = e.kept ++ Some (unit_at a) ∷ []; asserted = placed e.asserted place (Some a) }) old new
assertion-put exact e place a old new known number sp sa told = λ asked rs memo is before b. record {
  after = with_clause before (a.literal ∷ []) a.level (place ∷ []);
  puts = puts_one asked before (with_clause before (a.literal ∷ []) a.level (place ∷ []))
      (assertion_line place a.literal) old new
      (assertion-follows exact asked before place a.literal is.term a.level is.live is.stated
      (omega (arith, ap length b.atoms, length-map e.atoms (over rs), known))
      (ap (λ (atoms : List Atom). translation atoms is.term) b.atoms ∙ is.literal))
      (and_from (is_small place) (is_small_literal a.literal) (lt-ltb place (2 ^ 64) sp)
      (lt-ltb a.literal.atom (2 ^ 64) sa)) told;
  backs = backs-clause rs memo e before (a.literal ∷ []) a.level (place ∷ []) (placed e.asserted place (Some a))
      (units-placed e.kept e.asserted place a number b.asserted) b;
  counted = refl;
}

-- The clause that stands for an assertion.

-- nothing else is other than before
pub claims-alone : (e f : Backing) (kept : Kept) (asserted : List (Option Asserted))
    → f ≡ record e { kept = kept; asserted = asserted } → f ≡ record e { kept = f.kept; asserted = f.asserted }
claims-alone e f kept asserted is =
    is ∙ ap (λ (x : Backing). record e { kept = x.kept; asserted = x.asserted }) (sym is)

-- at each place but one the clauses stay
stays-at : (e f : Backing) (place : ℕ) (x : Option Asserted) → f.asserted ≡ placed e.asserted place x
    → ((b : Asserted) → asserted_at e.asserted place ≡ Some b → ⊥) → KeepsAsserted e f
stays-at e f place x is never = λ q b h. step q b h (nat_eq q place) refl
  where
    step : (q : ℕ) (b : Asserted) → asserted_at e.asserted q ≡ Some b → (t : Bool) → nat_eq q place ≡ t
        → asserted_at f.asserted q ≡ Some b
    step q b h true same =
        let here : q ≡ place = grind (arith, nat_tests) in
        absurd (never b (ap (asserted_at e.asserted) (sym here) ∙ h))
    step q b h false other =
        let apart : q ≢ place = grind (arith, nat_tests) in
        ap (λ xs. asserted_at xs q) is ∙ placed-others e.asserted place x q apart ∙ h

-- none, where the term has no literal;
pub claimed-none : (e f : Backing) (place level : ℕ) (told : Option (List ℕ)) → Stand e
    → f ≡ record e { asserted = placed e.asserted place None }
    → IsClaimed (LeadsClaimed place None level e f told told) place None level e f None
claimed-none e f place level told stand is =
    subst (λ (g : Backing). IsClaimed (LeadsClaimed place None level e g told told) place None level e g None) (sym is)
    (record {
      puts = λ asked rs memo none before b. record {
        after = before;
        puts = puts_none asked before told;
        backs = backs-without rs memo e before place b;
        counted = refl;
      };
      asserted = sym (placed-there e.asserted place None);
      literal_is = refl;
      level_is = tt;
      stays = λ own. stays-at e (record e { asserted = placed e.asserted place None }) place None refl
          (λ b h.
          some-none b.literal
          (subst (λ (o : Option Asserted). IfSome o (λ x. (x.level ≡ level) × (Some x.literal ≡ None))) h own).1);
      others = λ other apart. placed-others e.asserted place None other apart;
      gated = stand.gated;
    })

-- the one that is there;
pub claimed-standing : (e : Backing) (place level : ℕ) (l : Lit) (told : Option (List ℕ)) (a : Asserted) → Stand e
    → IsStanding (asserted_at e.asserted place) l level (Some a)
    → IsClaimed (LeadsClaimed place (Some l) level e e told told) place (Some l) level e e (Some a)
claimed-standing e place level l told a stand is = record {
  puts = λ asked rs memo term. leads-none asked rs memo e told;
  asserted = sym is.0;
  literal_is = ap Some is.1;
  level_is = is.2;
  stays = λ own q b h. h;
  others = λ other apart. refl;
  gated = stand.gated;
}

-- and a new one, where none is
pub claimed-new : AssertionLinesAreExact → (e f : Backing) (place : ℕ) (a : Asserted) (old new : Option (List ℕ))
    → Stand e → IsStanding (asserted_at e.asserted place) a.literal a.level None → a.literal.atom < length e.atoms
    → a.clause.0 ≡ length e.kept → place < 2 ^ 64 → a.literal.atom < 2 ^ 64
    → new ≡ with_bytes (line (text_of (assertion_line place a.literal))) old
    → f ≡ record e { kept = e.kept ++ Some (unit_at a) ∷ []; asserted = placed e.asserted place (Some a) }
    → IsClaimed (LeadsClaimed place (Some a.literal) a.level e f old new) place (Some a.literal) a.level e f (Some a)
claimed-new exact e f place a old new stand lacks known number sp sa told is =
    subst (λ (g : Backing). IsClaimed (LeadsClaimed place (Some a.literal) a.level e g old new) place (Some a.literal)
    a.level e g (Some a)) (sym is)
    (record {
      puts = assertion-put exact e place a old new known number sp sa told;
      asserted = sym (placed-there e.asserted place (Some a));
      literal_is = refl;
      level_is = refl;
      stays = λ own. stays-at e (record e { asserted = placed e.asserted place (Some a) }) place (Some a) refl
          (λ b h.
          let it = subst
          (λ (o : Option Asserted). IfSome o (λ x. (x.level ≡ a.level) × (Some x.literal ≡ Some a.literal))) h own in
          lacks b h (same_Some b.literal a.literal it.1) it.0);
      others = λ other apart. placed-others e.asserted place (Some a) other apart;
      gated = gates-more e.gates e.atoms e.kept (Some (unit_at a)) stand.gated;
    })

-- behind other work, which leaves the assertions
pub claimed-after : {P Q : Type 0} (place level : ℕ) (literal : Option Lit) (e mid f : Backing)
    (found : Option Asserted) → mid.asserted ≡ e.asserted → (P → Q) → IsClaimed P place literal level mid f found
    → IsClaimed Q place literal level e f found
claimed-after place level literal e mid f found same puts h = record {
  puts = puts h.puts;
  asserted = h.asserted;
  literal_is = h.literal_is;
  level_is = h.level_is;
  stays = λ own q b there.
      h.stays
      (subst (λ xs. IfSome (asserted_at xs place) (λ a. (a.level ≡ level) × (Some a.literal ≡ literal))) (sym same) own)
      q b (ap (λ xs. asserted_at xs q) same ∙ there);
  others = λ other apart. h.others other apart ∙ ap (λ xs. asserted_at xs other) same;
  gated = h.gated;
}
