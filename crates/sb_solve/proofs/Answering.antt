-- What a check comes to, by the clauses that were put, the search and its end.
use Rattle.sb_solve.proofs.Words.{AreSaid, Assumption, IsKeptCore, IsRefuting, Regex, Says, all_weaker, and_from, are_atoms, denies, eq-eqb, inl, inr, is_among, is_same_literal, is_same_literal-true, is_same_truth, list_all-append, list_any, map, negation, not, option_map, or_cases, or_left, or_right, over, slice_get, slice_get-map, ◌++◌, ◌==◌, ◌≡◌, ℕ, ◌<◌, Bool, true, false, List, [], ◌∷◌, length, Option, refl, sym, ap, subst, ◌∙◌, arith, list_all, false≢true, ltb-true, slice_get-get_or, Lit, Spending, Kept, held, HasNoneFalse, live, asked_in, AtomOver, bool_atom, AllKept, Asked, AreTerms, FollowsByRule, LineStaysSound, CountedAgainStaysSound, Stacked, Store, state_of, atom_at, gate_clauses, atoms_in, earlier_table, IsCounted, puts_both, Backing, Backs, Evidences, HasGates, GrowsTo, is_atom, AreWanted, is_in, AreKept, IsKept, AreLiterals, IsAnswered, terms_at, Answers, IsDone, IsValuedBy, AreOfLevels, IsSolved, AreStated, IsTrue, Solved, Contains, AllSettle, Goes, TranslationStays, RegexesGrow, and_parts, are_declared, atoms_of, map-append, regexes_both, ◌≤◌, Stand}
use Rattle.sb_solve.specs.declared.check.Solved.TheVariants as solved
use Rattle.sb_solve.proofs.Deciding.{all_in}
use Rattle.sb_solve.proofs.Ended.{kept_grown}
use Rattle.sb_atoms.specs.Numbered as table
use Rattle.sb_solve.proofs.Goings.{extends-both}
use Rattle.sb_solve.proofs.Growing.{closed_still, earlier_grown, numbers_still, place_still}
use Rattle.sb_solve.proofs.Stated.{are_literals, are_of_table, said_known, said_over, translates_still}
use Rattle.sb_solve.proofs.Truths.{contains_first, contains_later, true-behind, true-following}

-- The gates of atoms that are wanted.

are_kept : (kept : Kept) (clauses : List (List Lit))
    → ((clause : List Lit) → Contains clauses clause → IsKept kept clause) → AreKept kept clauses
are_kept kept [] h = tt
are_kept kept (clause ∷ clauses) h = (
  h clause (contains_first clause clauses),
  are_kept kept clauses (λ other there. h other (contains_later clause clauses other there)),
)

none_wanted : (atoms : List (AtomOver ℕ)) (wanted : List ℕ) (i : ℕ) → AreWanted atoms [] wanted
    → is_in wanted i ≡ true → ⊥
none_wanted atoms wanted i h there =
    false≢true (all_in (λ j. false) wanted i (h.least (λ j. false) refl (λ j h. absurd (false≢true h))) there)

gated : (atoms : List (AtomOver ℕ)) (old kept : Kept) (literals : List Lit) (wanted : List ℕ) → GrowsTo old kept
    → (0 < length literals → HasGates (length atoms) atoms old) → AreWanted atoms literals wanted
    → list_all (is_atom atoms) wanted ≡ true → (i : ℕ) → is_in wanted i ≡ true
    → AreKept kept (gate_clauses i (atom_at atoms i))
gated atoms old kept [] wanted grows gates are known i there = absurd (none_wanted atoms wanted i are there)
gated atoms old kept (l ∷ ls) wanted grows gates are known i there =
    are_kept kept (gate_clauses i (atom_at atoms i))
    (λ clause among.
    let at = slice_get-get_or atoms i (bool_atom 0) below in
    let k = gates (omega arith) i below (atom_at atoms i) clause at among in (
      k.0,
      record { literals = clause; level = 0 },
      kept_grown old kept k.0 (record { literals = clause; level = 0 }) grows k.1,
      refl,
    ))
  where
    below : i < length atoms
    below = ltb-true i (length atoms) (all_in (is_atom atoms) wanted i known there)

-- A clause that has negated literals of assumptions alone.

same_truth_itself : (p : Bool) → is_same_truth p p ≡ true
same_truth_itself true = refl
same_truth_itself false = refl

-- a literal that is the negation of one of an assumption denies it
denies_one : (rs : List Regex) (atoms : List (AtomOver ℕ)) (a : Assumption) (l m : Lit) → Says atoms a l
    → is_same_literal (negation l) m ≡ true → denies m (slice_get (atoms_in rs atoms) m.atom) a ≡ true
denies_one rs atoms a l m says same =
    subst (λ (n : Lit). denies n (slice_get (atoms_in rs atoms) n.atom) a ≡ true)
    (is_same_literal-true (negation l) m same)
    (ap (λ o. denies (negation l) o a)
    (slice_get-map (over rs) atoms l.atom ∙ ap (option_map (over rs)) says.0)
    ∙ and_from (a.0 == a.0) (is_same_truth (not l.positive) (not a.1)) (eq-eqb a.0 a.0 refl)
    (ap (λ p. is_same_truth (not l.positive) (not p)) (sym says.1) ∙ same_truth_itself (not l.positive)))

denies_some : (rs : List Regex) (atoms : List (AtomOver ℕ)) (given : List Assumption) (ls : List Lit)
    → AreSaid atoms given ls → (m : Lit) → is_among (map negation ls) m ≡ true
    → list_any (denies m (slice_get (atoms_in rs atoms) m.atom)) given ≡ true
denies_some rs atoms [] [] are m among = absurd (false≢true among)
denies_some rs atoms [] (l ∷ ls) are m among = absurd are
denies_some rs atoms (a ∷ given) [] are m among = absurd are
denies_some rs atoms (a ∷ given) (l ∷ ls) are m among =
    let test : Assumption → Bool = denies m (slice_get (atoms_in rs atoms) m.atom) in
    elim (or_cases (is_same_literal (negation l) m) (is_among (map negation ls) m) among) [
      | inl here ↦ or_left (test a) (list_any test given) (denies_one rs atoms a l m are.0 here)
      | inr later ↦ or_right (test a) (list_any test given) (denies_some rs atoms given ls are.1 m later)
    ]

refuting : (atoms : List (AtomOver ℕ)) (given : List Assumption) (ls : List Lit) (kept : Kept) (id : ℕ)
    → AreSaid atoms given ls → IsKeptCore kept ls id → IsRefuting given atoms kept id
refuting atoms given ls kept id are core = record {
  clause = core.clause;
  there = core.there;
  refutes = λ rs.
      all_weaker (is_among (map negation ls))
      (λ (m : Lit). list_any (denies m (slice_get (atoms_in rs atoms) m.atom)) given)
      (λ m among. denies_some rs atoms given ls are m among) core.clause.literals core.negated;
}

-- What a search is over.

-- the literals are of atoms of the table
pub asked_known : (s : Stacked) (places : List ℕ) (x y : Store) (e f : Backing) (told between : Option (List ℕ))
    (literals assumed : List Lit) → AreStated s places x y e f told between literals → Stand f
    → AreSaid f.atoms s.assumptions assumed → are_atoms f.atoms (literals ++ assumed) ≡ true
asked_known s places x y e f told between literals assumed stated stand said =
    list_all-append (λ (l : Lit). is_atom f.atoms l.atom) literals assumed
    ∙ and_from (are_atoms f.atoms literals) (are_atoms f.atoms assumed)
    (are_of_table s y.arena f f.atoms
    (λ place l one. subst (λ (n : Lit). n.atom < length f.atoms) one.literal
    (stand.of_atoms place one.clause one.there)) places literals stated.all)
    (said_known f.atoms s.assumptions assumed said)

-- The literals are those of the assertions at some places, whose clauses are kept.
module _ (s : Stacked) (places : List ℕ) (x y : Store) (e f : Backing) (told between : Option (List ℕ))
    (literals : List Lit) (stated : AreStated s places x y e f told between literals) where
  abbrev asked : Asked
  asked = asked_in (state_of s)

  -- What is settled in front of a search, or before all is spent.
  module _ (u : Store) (g : Backing) (proves : Bool) (before middle : Spending) (settled : Option (List ℕ))
      (goes : Goes proves y f before between u g middle settled) where
    pub settled_puts : proves ≡ true → (start : AllKept) → Backs x.arena x.graph.memo e start
        → IsCounted asked start before → Evidences asked start u.arena u.graph.memo g middle told settled
    settled_puts on start b counted =
        let p = stated.puts start b in
        let q = goes.puts on asked p.after p.backs
        (record { spent = p.counted ∙ counted.spent; limit = counted.limit }) in
        record {
          after = q.after;
          puts = puts_both asked start p.after q.after told between settled p.puts q.puts;
          backs = q.backs;
          counts = q.counts;
        }

    pub settled_sound : FollowsByRule → LineStaysSound → CountedAgainStaysSound → proves ≡ false → AreTerms asked
        → IsTrue asked x.arena x.graph.memo e → IsTrue asked u.arena u.graph.memo g
    settled_sound rule line again off terms t =
        let p = stated.puts t.kept t.backs in
        goes.sound off asked terms
        (true-behind rule line again asked x.arena y.arena x.graph.memo y.graph.memo e f terms t p.after told between
        p.puts p.backs)

    pub settled_levels : AreOfLevels asked.live e.asserted g.asserted
    settled_levels = subst (AreOfLevels asked.live e.asserted) (sym goes.asserted) stated.levels

    pub settled_declared : are_declared (state_of s).sorts e.atoms ≡ true
        → are_declared (state_of s).sorts g.atoms ≡ true
    settled_declared had = goes.declared (state_of s).sorts (stated.declared had)

  -- A search was made behind it, over these literals and those of the assumptions.
  module _ (assumed : List Lit) (u z : Store) (g k : Backing) (settled new : Option (List ℕ)) (ends : List Lit)
      (proves : Bool) (before middle after : Spending) (solution : Solved)
      (gates : 0 < length (literals ++ assumed) → HasGates (length f.atoms) f.atoms f.kept)
      (said : AreSaid f.atoms s.assumptions assumed)
      (all : AllSettle proves y f before between u g middle settled ends)
      (done : IsDone s ((literals ++ assumed) ++ ends) assumed proves u g middle settled z k after new solution)
    where
      abbrev goes : Goes proves y f before between u g middle settled
      goes = all.goes

      pub puts : are_declared (state_of s).sorts e.atoms ≡ true → proves ≡ true → (start : AllKept)
          → Backs x.arena x.graph.memo e start → IsCounted asked start before
          → Evidences asked start z.arena z.graph.memo k after told new
      puts had on start b counted =
          let p = settled_puts u g proves before middle settled goes on start b counted in
          let q = done.searched.puts on asked p.after (settled_declared u g proves before middle settled goes had)
          p.backs p.counts in
          record {
            after = q.after;
            puts = puts_both asked start p.after q.after told settled new p.puts q.puts;
            backs = q.backs;
            counts = q.counts;
          }

      -- what is true, where the search puts no lines
      pub sound : FollowsByRule → LineStaysSound → CountedAgainStaysSound → proves ≡ false → AreTerms asked
          → IsTrue asked x.arena x.graph.memo e → IsTrue asked z.arena z.graph.memo k
      sound rule line again off terms t =
          true-following asked proves u z g k middle after settled new off done.searched goes.regexes
          done.stand.earlier (settled_sound u g proves before middle settled goes rule line again off terms t)

      pub levels : AreOfLevels asked.live e.asserted k.asserted
      levels = subst (AreOfLevels asked.live e.asserted) (sym done.searched.asserted)
          (settled_levels u g proves before middle settled goes)

      pub limit : after.limit ≡ before.limit
      limit = done.searched.limit ∙ goes.limit

      pub spends : before.spent ≤ after.spent
      spends = omega (arith, goes.spends, done.searched.spends)

      pub stores : RegexesGrow y z
      stores = regexes_both y u z goes.store done.searched.store

      pub declared : are_declared (state_of s).sorts e.atoms ≡ true → are_declared (state_of s).sorts k.atoms ≡ true
      declared had =
          done.searched.atoms.declared (state_of s).sorts (settled_declared u g proves before middle settled goes had)

      -- the answer

      said_there : AreSaid g.atoms s.assumptions assumed
      said_there = said_over f.atoms g.atoms goes.atoms s.assumptions assumed said

      extends : table.Extends f.atoms k.atoms
      extends = extends-both f.atoms g.atoms k.atoms goes.atoms done.searched.atoms.extends

      literals_there : TranslationStays → (start : AllKept) → Backs x.arena x.graph.memo e start
          → AreLiterals (atoms_in z.arena k.atoms) k.kept (terms_at (live (state_of s)) places) literals
      literals_there stays start b =
          let behind = stated.puts start b in
          are_literals s y.arena f (atoms_in z.arena k.atoms) k.kept
          (λ place l one. (
            one.term,
            one.stands,
            record {
              is = translates_still stays y.arena z.arena f.atoms k.atoms one.term l stores.more.extends stated.regexes
                  extends one.translates;
              kept_there = (
                one.clause.clause.0,
                record { literals = one.clause.literal ∷ []; level = one.clause.level },
                kept_grown g.kept k.kept one.clause.clause.0
                    (record { literals = one.clause.literal ∷ []; level = one.clause.level }) done.searched.kept
                    (goes.stay one.clause.clause.0
                    (record { literals = one.clause.literal ∷ []; level = one.clause.level })
                    (behind.backs.asserted place one.clause one.there)),
                ap (λ (n : Lit). n ∷ []) one.literal,
              );
            },
          )) places literals stated.all

      said_behind : AreSaid k.atoms s.assumptions assumed
      said_behind = said_over g.atoms k.atoms done.searched.atoms.extends s.assumptions assumed said_there

      all_gates : 0 < length ((literals ++ assumed) ++ ends) → HasGates (length g.atoms) g.atoms g.kept
      all_gates = gates_over (literals ++ assumed) gates
        where
          gates_over : (ls : List Lit) → (0 < length ls → HasGates (length f.atoms) f.atoms f.kept)
              → 0 < length (ls ++ ends) → HasGates (length g.atoms) g.atoms g.kept
          gates_over [] has some =
              all.ends.own (subst (λ (ls : List Lit). 0 < length ls) all.ends.is some)
          gates_over (l ∷ ls) has some = goes.gates (has (omega arith))

      first_there : list_all (is_in done.wanted) (atoms_of (literals ++ assumed)) ≡ true
      first_there =
          (and_parts (list_all (is_in done.wanted) (atoms_of (literals ++ assumed)))
          (list_all (is_in done.wanted) (atoms_of ends))
          (sym (ap (list_all (is_in done.wanted)) (map-append (λ (l : Lit). l.atom) (literals ++ assumed) ends)
          ∙ list_all-append (is_in done.wanted) (atoms_of (literals ++ assumed)) (atoms_of ends))
          ∙ done.closed.first)).0

      answered : TranslationStays → (words : List (Option (List ℕ))) (truths : List Bool)
          → (v : IsValuedBy s assumed z.arena k.atoms k.kept done.wanted words truths) → (start : AllKept)
          → Backs x.arena x.graph.memo e start → AreTerms asked
          → IsAnswered z.arena k.atoms done.wanted literals assumed k.kept v.search.trail.literals v.theory places
          (state_of s) s.assumptions
      answered stays words truths v start b terms = record {
        decided = record {
          table = earlier_table z.arena k.atoms
              (earlier_grown g.atoms k.atoms done.searched.atoms done.stand.earlier);
          distinct = done.distinct;
          known = numbers_still g.atoms k.atoms done.wanted done.searched.atoms.extends done.known;
          closed = closed_still g.atoms k.atoms done.wanted done.wanted done.searched.atoms.extends done.known
              done.closed.closed;
          full = v.full.full;
          none_false = subst (λ (kept : Kept). HasNoneFalse kept (held v.search.trail.literals)) v.keeps
              v.full.none_false;
          gates = λ i there.
              subst (λ (a : AtomOver ℕ). AreKept k.kept (gate_clauses i a))
              (sym (place_still g.atoms k.atoms i done.searched.atoms.extends
              (ltb-true i (length g.atoms) (all_in (is_atom g.atoms) done.wanted i done.known there))))
              (gated g.atoms g.kept k.kept ((literals ++ assumed) ++ ends) done.wanted done.searched.kept all_gates
              done.closed done.known i there);
        };
        agrees = v.agrees;
        wanted_there = first_there;
        stated = literals_there stays start b;
        said = said_behind;
        on = v.full.assumed;
        terms = terms;
      }

      by_kind : TranslationStays → (a : Solved) → Answers s assumed z.arena k.atoms k.kept done.wanted after a
          → IsSolved s places x.arena x.graph.memo e k after a
      by_kind stays (solved.Sat words truths) v = record {
        characters = v.model.characters;
        given = λ start b terms.
            v.model.given places literals assumed k.kept (answered stays words.items truths.items v start b terms);
      }
      by_kind stays (solved.Unsat id) core = refuting k.atoms s.assumptions assumed k.kept id.0 said_behind core
      by_kind stays solved.Spent spent = spent

      pub answer : TranslationStays → IsSolved s places x.arena x.graph.memo e k after solution
      answer stays = by_kind stays solution done.answers
