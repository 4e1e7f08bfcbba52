-- What is kept stays as it is where the arena grows, and what a line about regexes makes of it.
use Rattle.std.specs.List.{All}
use Rattle.std.proofs.lemmas.List.Elements.{All-nil, All-cons}
use Rattle.std.proofs.lemmas.Option.{get_or_from_slice_get, slice_get_within}
use Rattle.sb_rulebook.specs.Parts.{together}
use Rattle.std.proofs.Common.{◌≡◌, ℕ, suc, ◌<◌, map, Option, None, option_map, slice_get, subst, List, [], ◌∷◌, ◌++◌, length, Some, Result, Ok, Err, refl, inl, ap, ap₂, sym, ◌∙◌}
use Rattle.std.specs.Prelude.{OnErr}
use Rattle.sb_lang.specs.Regex.{Regex}
use Rattle.sb_lit.specs.declared.clause.Lit.{Lit}
use Rattle.sb_lit.specs.Kept as clauses
use Rattle.sb_regex.specs.Numbered.{regexes_at, Extends}
use Rattle.sb_regex.proofs.CallerLemmas.{ats_kept}
use Rattle.sb_atoms.specs.Numbered.{atoms_in}
use Rattle.sb_atoms.proofs.CallerLemmas.{atoms_kept}
use Rattle.sb_rulebook.specs.Atoms.{Atom}
use Rattle.sb_rulebook.specs.Refusals.{Refusal}
use Rattle.sb_rulebook.specs.Kept.{AllKept, Asked, counting, with_clause}
use Rattle.sb_rulebook.specs.Lines.{Line}
use Rattle.sb_rulebook.specs.Follows.{follows}
use Rattle.sb_rules.specs.Answers.{IsJudged}
use Rattle.sb_rules.specs.Known.{Known, with_known}
use Rattle.sb_rules.specs.declared.fault.Fault.{Fault}
use Rattle.sb_rules.specs.declared.fault.Fault.TheVariants as fault
use Rattle.sb_rules.specs.declared.kept.Kept.{Kept}
use Rattle.sb_rules.specs.Kept.{kept_in, IsWhole}
use Rattle.sb_rules.specs.Judged.{Judges, LeavesKept, Meets, IsCounting}

-- all that is kept, by its parts
abbrev pub all_of : AllKept → List Regex → Known → List Atom → clauses.Kept → ℕ → AllKept
all_of others rs known atoms kept counted =
    record others {
      regexes = rs;
      expansions = known.expansions;
      dead = known.dead;
      atoms = atoms;
      clauses = kept;
      counted = counted;
    }

-- where regexes, atoms, clauses and the count are as before
pub same_kept : (old new : Kept) (others : AllKept) → IsWhole old → Extends old.arena new.arena
    → new.regexes ≡ old.regexes → new.atoms ≡ old.atoms → new.clauses ≡ old.clauses → new.counted ≡ old.counted
    → kept_in new others ≡ kept_in old others
same_kept old new others w e r a c n =
    ap (λ k. all_of others (regexes_at new.arena k.order) k (atoms_in new.arena new.atoms) new.clauses new.counted) r
    ∙ (ap (λ xs. all_of others (regexes_at new.arena old.regexes.order) old.regexes (atoms_in new.arena xs)
    new.clauses new.counted) a
    ∙ (ap (λ cs. all_of others (regexes_at new.arena old.regexes.order) old.regexes (atoms_in new.arena old.atoms)
    cs new.counted) c
    ∙ (ap (λ m. all_of others (regexes_at new.arena old.regexes.order) old.regexes (atoms_in new.arena old.atoms)
    old.clauses m) n
    ∙ ap₂ (λ rs xs. all_of others rs old.regexes xs old.clauses old.counted)
    (ats_kept old.arena new.arena old.regexes.order e w.regexes)
    (atoms_kept old.arena new.arena old.atoms e w.atoms))))

-- where only regexes are other ones
pub judged-known : {A : Type 0} (result : Result A Fault) (asked : Asked) (old new : Kept) (line : Line) → IsWhole old
    → Extends old.arena new.arena → new.atoms ≡ old.atoms → new.clauses ≡ old.clauses → new.counted ≡ old.counted
    → OnErr result (new.regexes ≡ old.regexes)
    → ((kept : AllKept) → IsJudged result (with_known new.arena new.regexes kept)
    (follows asked (with_known old.arena old.regexes kept) line)) → Judges result asked old new line
judged-known (Ok done) asked old new line w e a c n u h =
    λ others. (
      others.rests,
      h (kept_in old others)
          ∙ ap Ok (sym (ap (λ xs. all_of others (regexes_at new.arena new.regexes.order) new.regexes (atoms_in new.arena xs)
          new.clauses new.counted) a
          ∙ (ap (λ cs. all_of others (regexes_at new.arena new.regexes.order) new.regexes (atoms_in new.arena old.atoms)
          cs new.counted) c
          ∙ (ap (λ m. all_of others (regexes_at new.arena new.regexes.order) new.regexes (atoms_in new.arena old.atoms)
          old.clauses m) n
          ∙ ap (λ xs. all_of others (regexes_at new.arena new.regexes.order) new.regexes xs old.clauses old.counted)
          (atoms_kept old.arena new.arena old.atoms e w.atoms))))),
    )
judged-known (Err (fault.Refused refusal)) asked old new line w e a c n u h =
    λ others. (h (kept_in old others), same_kept old new others w e u a c n)
judged-known (Err fault.NoMemory) asked old new line w e a c n u h =
    λ others. inl (same_kept old new others w e u a c n)

-- A line that is counted.

pub refused_count : (A : Type 0) (result : Result A Fault) (e f : Fault) (asked : Asked) (old : Kept)
    (kept others : AllKept) → result ≡ Err e → e ≡ f → IsCounting (Err f) asked kept
    → Meets result (counting asked kept) old old others
refused_count A result e (fault.Refused refusal) asked old kept others r s h = rw (r, s) (h, refl)
refused_count A result e fault.NoMemory asked old kept others r s h = absurd h

-- with one clause more
pub clause_kept : (old middle : Kept) (others : AllKept) (cs : clauses.Kept) (clause : List Lit) (level : ℕ)
    (rests : List ℕ)
    → kept_in middle (record others { rests = others.rests ++ rests ∷ [] })
    ≡ kept_in old (record others { rests = others.rests ++ rests ∷ [] })
    → cs ≡ middle.clauses ++ Some (record { literals = clause; level = level }) ∷ []
    → with_clause (kept_in old others) clause level rests
    ≡ record (kept_in middle (record others { rests = others.rests ++ rests ∷ [] })) { clauses = cs }
clause_kept old middle others cs clause level rests h e =
    sym (ap (λ xs. record (kept_in middle (record others { rests = others.rests ++ rests ∷ [] })) { clauses = xs }) e
    ∙ ap (λ (k : AllKept). record k {
      clauses = k.clauses ++ Some (record { literals = clause; level = level }) ∷ [];
    }) h)

-- where the rules make the same of a line, and the same was kept
pub judged_by : {A : Type 0} (result : Result A Fault) (one other : Result AllKept Refusal) (old middle new : Kept)
    (others : AllKept) → one ≡ other → kept_in middle others ≡ kept_in old others
    → Meets result other middle new others → Meets result one old new others
judged_by (Ok done) one other old middle new others e k m = (m.0, e ∙ m.1)
judged_by (Err (fault.Refused refusal)) one other old middle new others e k m = (e ∙ m.0, m.1 ∙ k)
judged_by (Err fault.NoMemory) one other old middle new others e k m =
    subst (λ (kept : AllKept). LeavesKept kept (kept_in new others)) k m

pub exits : (A : Type 0) (result : Result A Fault) (e f : Fault) (ruled : Result AllKept Refusal) (old new : Kept)
    (others : AllKept) → result ≡ Err e → e ≡ f → Meets {A = Unit {0}} (Err f) ruled old new others
    → Meets result ruled old new others
exits A result e (fault.Refused refusal) ruled old new others r s m = rw (r, s) m
exits A result e fault.NoMemory ruled old new others r s m = rw (r, s) m

-- memory was wanted, and what is kept is as before
pub wanted : (A : Type 0) (result : Result A Fault) (e : Fault) (ruled : Result AllKept Refusal) (old new : Kept)
    (others : AllKept) → result ≡ Err e → e ≡ fault.NoMemory → kept_in new others ≡ kept_in old others
    → Meets result ruled old new others
wanted A result e ruled old new others r s same = rw (r, s) (inl same)

-- or the clauses alone are other ones, and these are as before
pub clauses_wanted : (A : Type 0) (result : Result A Fault) (e : Fault) (ruled : Result AllKept Refusal)
    (old middle : Kept) (others : AllKept) (cs : clauses.Kept) → result ≡ Err e → e ≡ fault.NoMemory
    → kept_in middle others ≡ kept_in old others → cs ≡ middle.clauses
    → Meets result ruled old (record middle { clauses = cs }) others
clauses_wanted A result e ruled old middle others cs r s same stays =
    wanted A result e ruled old (record middle { clauses = cs }) others r s
    (ap (λ (ks : clauses.Kept). record (kept_in middle others) { clauses = ks }) stays ∙ same)

-- Numbers that were found are below the length.

some_is : {X : Type 0} (x y : X) → Some x ≡ Some y → x ≡ y
some_is x y e = cc

found_front : (n : ℕ) (order : List ℕ) (m : ℕ) (tail : List (Option ℕ)) (count : ℕ) (ids : List ℕ) (o : Option ℕ)
    → slice_get order m ≡ o → All (λ i. i < n) order
    → ((is : List ℕ) → Some is ≡ together tail → All (λ i. i < n) is × (length is ≡ count))
    → Some ids ≡ together (o ∷ tail) → All (λ i. i < n) ids × (length ids ≡ suc count)
found_front n order m tail count ids None h all again e = absurd (Prim.cc (e))
found_front n order m tail count ids (Some i) h all again e = second (together tail) refl e
  where
    low : i < n
    low = subst (λ j. j < n) (get_or_from_slice_get order m i 0 h) (all m 0 (slice_get_within order m i h))

    second : (rest : Option (List ℕ)) → together tail ≡ rest → Some ids ≡ option_map (λ others. i ∷ others) rest
        → All (λ i. i < n) ids × (length ids ≡ suc count)
    second None r e = absurd (Prim.cc (e))
    second (Some is) r e =
        let front : ids ≡ i ∷ is = some_is ids (i ∷ is) e in
        let others = again is (sym r) in
        rw front (All-cons (λ j. j < n) i is low others.0, ap suc others.1)

pub found_below : (n : ℕ) (order numbers ids : List ℕ) → All (λ i. i < n) order
    → Some ids ≡ together (map (slice_get order) numbers) → All (λ i. i < n) ids × (length ids ≡ length numbers)
found_below n order [] ids all e = let empty : ids ≡ [] = some_is ids [] e in rw empty (All-nil _, refl)
found_below n order (m ∷ ms) ids all e =
    found_front n order m (map (slice_get order) ms) (length ms) ids (slice_get order m) refl all
    (λ is h. found_below n order ms is all h) e
