-- Lines that the search puts over the theory, and lines behind lines.
use Rattle.std.proofs.Common.{◌≡◌, ◌⊎◌, ℕ, zero, suc, ◌+◌, ◌<◌, Bool, true, false, not, ◌&&◌, nat_lt, if◌then◌else◌, List, [], ◌∷◌, ◌++◌, length, Some, Result, Ok, Err, refl, sym, ap, subst, ◌∙◌, inl, inr, arith, append_assoc}
use Rattle.sb_theory.specs.Words.{AllKept, Asked, Assigned, Atom, AtomOver, HaveRegexesBelow, Kept, KeptClause, Lit, Regex, RegexesGrow, Traced, Tracks, Written, atoms_in, counting, kept_at, list_all, most_counted, over, rests_of_any, true_or_false, with_clause, with_gate, with_learned}
use Rattle.std.proofs.lemmas.Bool.{and_from, or_left, or_right, le-ltb, eq-eqb, lt-ltb}
use Rattle.std.proofs.lemmas.List.{length-map}
use Rattle.std.proofs.lemmas.Option.{same_Some}
use Rattle.sb_lit.specs.Clauses.{is_among, is_same_literal, are_ascending}
use Rattle.sb_lit.specs.Hints.{Unlearned, learned}
use Rattle.sb_lit.proofs.CallerLemmas.{is_same_literal-self, all_from_among}
use Rattle.sb_analyze.specs.Learning.{IsLesson}
use Rattle.sb_rulebook.specs.AtomRules.{are_known}
use Rattle.sb_rulebook.specs.ClauseRules.{Refusal, refusal_of, unknown_id}
use Rattle.sb_rulebook.specs.Gates.{is_gate, has_both_signs}
use Rattle.sb_rulebook.specs.Follows.{follows}
use Rattle.sb_rulebook.specs.Lines.{learned_line, rule_line, gate}
use Rattle.sb_rulebook.specs.LineLaws.{has_text}
use Rattle.sb_store.proofs.CallerLemmas.{regexes_same, regexes_both}
use Rattle.sb_trace.proofs.CallerLemmas.{puts_none, puts_one, puts_both, tracks_grow}
pub use Rattle.sb_clash.proofs.CallerLemmas.{tracks_kept}
use Rattle.sb_atoms.proofs.CallerLemmas.{atoms_kept, regexes_kept}
use Rattle.sb_search.specs.Asking.{AreKnown}
use Rattle.sb_theory.specs.declared.strings.Strings.{Strings}
use Rattle.sb_theory.specs.Growth.{relevant_both, relevant_none, table_both, table_none}
use Rattle.sb_theory.specs.Memberships.{is_atom, are_atoms, HaveAtoms}
use Rattle.sb_theory.specs.Strings.{Frame, Keeps, Stands, Tables, Writes}
use Rattle.sb_theory.specs.Tables.{TableGrows, are_declared}
pub use Rattle.sb_theory.specs.WishLaws.{ungranted_longer}

pub stands_longer : (x : Strings) (entries more : List Assigned) → Stands x entries → Stands x (entries ++ more)
stands_longer x entries more h = record {
  holds = h.holds;
  levelled = h.levelled;
  rest = h.rest ++ more;
  is = ap (λ es. es ++ more) h.is ∙ append_assoc x.taken.items h.rest more;
}

-- Lines behind lines.

pub writes_both : (x y z : Strings) (before between after : Written) → Writes x y before between
    → Writes y z between after → Writes x z before after
writes_both x y z before between after p q = record {
  table = table_both x.atoms y.atoms z.atoms p.table q.table;
  proves = q.proves ∙ p.proves;
  store = regexes_both x.store y.store z.store p.store q.store;
  below = λ h. q.below (p.below h);
  known = λ h. q.known (p.known h);
  silent = λ off. q.silent (p.proves ∙ off) ∙ p.silent off;
  only = λ h.
      relevant_both y.store.arena z.store.arena y.atoms z.atoms x.trace y.trace z.trace q.store.more.extends
      q.table.extends (q.below (p.below h)) (p.only h) (q.only (p.below h));
  lines = λ on h asked kept backs.
      let first = p.lines on h asked kept backs in
      let second = q.lines (p.proves ∙ on) (p.below h) asked first.0 first.2 in (
        second.0,
        puts_both asked kept first.0 second.0 before.told between.told after.told first.1 second.1,
        second.2,
      );
}

-- where more is known of regexes
pub writes_still : (x y : Strings) (proof : Written) → y.atoms ≡ x.atoms → y.proves ≡ x.proves → y.trace ≡ x.trace
    → RegexesGrow x.store y.store → Writes x y proof proof
writes_still x y proof atoms proves trace g = record {
  table = subst (TableGrows x.atoms) (sym atoms) (table_none x.atoms);
  proves = proves;
  store = g;
  below = λ h. subst (HaveRegexesBelow (length y.store.arena)) (sym atoms)
      (regexes_kept x.store.arena y.store.arena x.atoms g.more.extends h);
  known = λ h. subst (λ (ts : List (AtomOver ℕ)). HaveAtoms ts proof.kept) (sym atoms) h;
  silent = λ off. trace;
  only = λ h. relevant_none y.store.arena y.atoms x.trace y.trace trace;
  lines = λ on h asked kept b. (
    kept,
    puts_none asked kept proof.told,
    record {
      tracks = subst (λ (t : Traced). Tracks y.store.arena y.store.graph.memo t kept) (sym trace)
          (tracks_grow x.store.arena y.store.arena x.store.graph.memo y.store.graph.memo x.trace kept g.more.extends
          g.more.derivatives b.tracks);
      atoms = b.atoms ∙ sym (atoms_kept x.store.arena y.store.arena x.atoms g.more.extends h)
          ∙ ap (atoms_in y.store.arena) (sym atoms);
      declared = ap (are_declared asked.sorts) atoms ∙ b.declared;
      clauses = b.clauses;
      known = subst (λ (ts : List (AtomOver ℕ)). HaveAtoms ts proof.kept) (sym atoms) b.known;
      counted = b.counted;
    },
  );
}

pub writes_grown : (x y : Strings) (proof : Written) → Keeps x y → Writes x y proof proof
writes_grown x y proof k =
    writes_still x y proof (ap (λ (t : Tables). t.atoms) k.tables) (ap (λ (f : Frame). f.proves) k.grows.frame)
    (ap (λ (t : Tables). t.trace) k.tables) k.grows.store

pub writes_none : (x : Strings) (proof : Written) → Writes x x proof proof
writes_none x proof = writes_still x x proof refl refl refl (regexes_same x.store)

-- Atoms of clauses that are kept.

added_at : (kept : Kept) (k clause : KeptClause) (id : ℕ) → kept_at (kept ++ Some k ∷ []) id ≡ Some clause
    → (kept_at kept id ≡ Some clause) ⊎ (k ≡ clause)
added_at [] k clause zero h = inr (same_Some k clause h)
added_at [] k clause (suc id) h = absurd (Prim.cc (h))
added_at (x ∷ xs) k clause zero h = inl h
added_at (x ∷ xs) k clause (suc id) h = added_at xs k clause id h

pub have_more : (atoms : List (AtomOver ℕ)) (kept : Kept) (clause : List Lit) (level : ℕ) → HaveAtoms atoms kept
    → are_atoms atoms clause ≡ true
    → HaveAtoms atoms (kept ++ Some (record { literals = clause; level = level }) ∷ [])
have_more atoms kept clause level h new = λ id c there.
    elim (added_at kept (record { literals = clause; level = level }) c id there) [
      | inl old ↦ h id c old
      | inr is ↦ subst (λ (k : KeptClause). are_atoms atoms k.literals ≡ true) is new
    ]

pub are_known_in : (rs : List Regex) (atoms : List (AtomOver ℕ)) (table : List Atom) (clause : List Lit)
    → table ≡ atoms_in rs atoms → are_atoms atoms clause ≡ true → are_known table clause ≡ true
are_known_in rs atoms table clause is h =
    ap (λ n. list_all (λ (l : Lit). nat_lt l.atom n) clause) (ap length is ∙ length-map atoms (over rs)) ∙ h

-- The line of a clause that is learned.

counting_on : (asked : Asked) (kept : AllKept) → kept.counted < most_counted asked
    → counting asked kept ≡ Ok (record kept { counted = kept.counted + 1 })
counting_on asked kept room = rw (lt-ltb kept.counted (most_counted asked) room) refl

learned_as : Asked → AllKept → List Lit → List ℕ → Result ℕ Unlearned → Result AllKept Refusal
learned_as asked kept clause ids r = elim r [
  | Err unlearned ↦ Err (refusal_of unlearned)
  | Ok level ↦ counting asked (with_clause kept clause level (rests_of_any kept ids))
]

learned_follows : (asked : Asked) (kept : AllKept) (clause : List Lit) (ids : List ℕ) (level : ℕ)
    → are_known kept.atoms clause ≡ true → learned kept.clauses clause ids ≡ Ok level
    → kept.counted < most_counted asked
    → follows asked kept (learned_line clause ids)
    ≡ Ok (record (with_clause kept clause level (rests_of_any kept ids)) { counted = kept.counted + 1 })
unfolding learned_as
learned_follows asked kept clause ids level known accepted room =
    ap (λ b. if not b then Err unknown_id else learned_as asked kept clause ids (learned kept.clauses clause ids)) known
    ∙ ap (learned_as asked kept clause ids) accepted
    ∙ counting_on asked (with_clause kept clause level (rests_of_any kept ids)) room

pub writes_learned : (x : Strings) (proof : Written) (clause : List Lit) (hints : List ℕ) (level : ℕ)
    → IsLesson proof.kept clause hints level → AreKnown (λ atom. is_atom x.atoms atom ≡ true) clause
    → has_text (learned_line clause hints) ≡ true → proof.budget.spent < proof.budget.limit
    → Writes x x proof (with_learned clause hints level proof)
writes_learned x proof clause hints level lesson all text room =
    let new : are_atoms x.atoms clause ≡ true = all_from_among (λ l. is_atom x.atoms l.atom) clause all in
    record {
      table = table_none x.atoms;
      proves = refl;
      store = regexes_same x.store;
      below = λ h. h;
      known = λ h. have_more x.atoms proof.kept clause level h new;
      silent = λ off. refl;
      only = λ h. relevant_none x.store.arena x.atoms x.trace x.trace refl;
      lines = λ on below asked kept b.
          let known = are_known_in x.store.arena x.atoms kept.atoms clause b.atoms new in
          let accepted = ap (λ (ks : Kept). learned ks clause hints) b.clauses ∙ lesson.accepted in
          let after : AllKept = record (with_clause kept clause level (rests_of_any kept hints)) {
            counted = kept.counted + 1;
          } in (
            after,
            puts_one asked kept after (learned_line clause hints) proof.told (with_learned clause hints level proof).told
                (learned_follows asked kept clause hints level known accepted
                (omega (arith, room, b.counted.spent, b.counted.limit))) text refl,
            record {
              tracks = tracks_kept x.store.arena x.store.graph.memo x.trace kept after.clauses after.rests after.counted
                  b.tracks;
              atoms = b.atoms;
              declared = b.declared;
              clauses = ap (λ (ks : Kept). ks ++ Some (record { literals = clause; level = level }) ∷ []) b.clauses;
              known = have_more x.atoms proof.kept clause level b.known new;
              counted = record { spent = ap (λ n. n + 1) b.counted.spent; limit = b.counted.limit };
            },
          );
    }

-- The line of the clause that an atom is true or false.

both_ascend : (atom : ℕ) → are_ascending (true_or_false atom) ≡ true
both_ascend atom = rw (le-ltb atom atom (omega arith), eq-eqb atom atom refl) refl

abbrev one : ℕ → Bool → Lit
one atom positive = record { atom = atom; positive = positive }

both_gate : (atoms : List Atom) (atom : ℕ) → is_gate atoms (true_or_false atom) ≡ true
both_gate atoms atom =
    or_left (has_both_signs (true_or_false atom)) _
    (or_left (is_among (true_or_false atom) (one atom false)) _
    (or_right (is_same_literal (one atom true) (one atom false)) _
    (or_left (is_same_literal (one atom false) (one atom false)) false (is_same_literal-self (one atom false)))))

gate_follows : (asked : Asked) (kept : AllKept) (atom : ℕ) → are_known kept.atoms (true_or_false atom) ≡ true
    → follows asked kept (rule_line gate (true_or_false atom)) ≡ Ok (with_clause kept (true_or_false atom) 0 [])
gate_follows asked kept atom known = rw (known, both_ascend atom, both_gate kept.atoms atom) refl

both_known : (atoms : List (AtomOver ℕ)) (atom : ℕ) → is_atom atoms atom ≡ true
    → are_atoms atoms (true_or_false atom) ≡ true
both_known atoms atom there =
    and_from (is_atom atoms atom) (is_atom atoms atom && true) there (and_from (is_atom atoms atom) true there refl)

pub writes_gate : (x : Strings) (proof : Written) (atom : ℕ) → is_atom x.atoms atom ≡ true
    → has_text (rule_line gate (true_or_false atom)) ≡ true → Writes x x proof (with_gate atom proof)
writes_gate x proof atom there text = record {
  table = table_none x.atoms;
  proves = refl;
  store = regexes_same x.store;
  below = λ h. h;
  known = λ h. have_more x.atoms proof.kept (true_or_false atom) 0 h (both_known x.atoms atom there);
  silent = λ off. refl;
  only = λ h. relevant_none x.store.arena x.atoms x.trace x.trace refl;
  lines = λ on below asked kept b.
      let new = both_known x.atoms atom there in
      let known = are_known_in x.store.arena x.atoms kept.atoms (true_or_false atom) b.atoms new in
      let after : AllKept = with_clause kept (true_or_false atom) 0 [] in (
        after,
        puts_one asked kept after (rule_line gate (true_or_false atom)) proof.told (with_gate atom proof).told
            (gate_follows asked kept atom known) text refl,
        record {
          tracks = tracks_kept x.store.arena x.store.graph.memo x.trace kept after.clauses after.rests kept.counted
              b.tracks;
          atoms = b.atoms;
          declared = b.declared;
          clauses = ap (λ (ks : Kept). ks ++ Some (record { literals = true_or_false atom; level = 0 }) ∷ []) b.clauses;
          known = have_more x.atoms proof.kept (true_or_false atom) 0 b.known new;
          counted = record { spent = b.counted.spent; limit = b.counted.limit };
        },
      );
}
