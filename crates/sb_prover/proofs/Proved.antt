-- The lines that were put prove the verdict, and the proof has come so far behind them.
use Rattle.sb_prover.proofs.Words.{is_unsat, question_of, ◌≡◌, ℕ, ◌^◌, Bool, true, false, if◌then◌else◌, List, [], ◌∷◌, ◌++◌, map, length, Option, None, refl, sym, ap, subst, ◌∙◌, AllKept, Backing, Backs, HaveRegexesBelow, IsAbreast, IsNumbered, IsProved, IsSolution, IsSpent, Progress, Proving, Question, SaysTrue, SaysVerdict, Solution, Stacked, Store, Tells, asked_in, backs-again, bytes_of, count_again, end_line, first_lines, has_text, header_line, last_lines, line, live_constants, lt-ltb, newest_format, refusal_of, said_by, state_of, text_of, true≢false, values_at, verdict_in, verdict_line, verdict_of, with_bytes}
use Rattle.sb_prover.specs.declared.checking.Solution.TheVariants as solution
use Rattle.sb_prover.proofs.LinesTaken.{verdict-said, tells-both, tells-one}
use Rattle.sb_prover.proofs.Sayings.{unsat-right, unknown-right, unsupported-right}
use Rattle.sb_prover.proofs.Formats.{format-stays}
use Rattle.sb_prover.proofs.SatValues.{sat-said}
use Rattle.sb_prover.proofs.Solutions.{refuted-by}

abbrev asked : Stacked → Question
asked s = question_of s

-- The line of an answer's verdict has a text, and may be said of what its reader keeps.
record IsRight (s : Stacked) (r : Solution) (kept : AllKept) : Type 0 where
  spelled : has_text (verdict_line (said_by s r)) ≡ true
  right : refusal_of (asked s) kept (said_by s r) ≡ None
  says : SaysVerdict (asked s) (count_again kept) (said_by s r) (verdict_in (live_constants s) (verdict_of r))

line-right : (s : Stacked) (r : Solution) (x : Store) (e : Backing) (kept : AllKept) → IsNumbered r → SaysTrue s e r
    → Backs x.arena x.graph.memo e kept → IsSpent kept r → kept.format ≡ newest_format → IsRight s r kept
line-right s (solution.Sat words truths) x e kept small says backs spent format =
    let right = sat-said s words.items truths.items says.0 says.1.model says.2 in
    record {
      spelled = right.small;
      right = right.right kept;
      says = (values_at (live_constants s) words.items truths.items, right.valued_as, refl);
    }
line-right s (solution.Unsat id core) x e kept small says backs spent format =
    let r = refuted-by s x e kept id.0 core.items backs says.1 says.2 in
    record {
      spelled = lt-ltb id.0 (2 ^ 64) small;
      right = unsat-right (asked s) kept id.0 r.clause says.0 format r.there r.refuting;
      says = (r.clause, r.there, ap is_unsat r.named);
    }
line-right s solution.Spent x e kept small says backs spent format =
    record { spelled = refl; right = unknown-right (asked s) kept says refl spent; says = refl }
line-right s solution.Outside x e kept small says backs spent format =
    record { spelled = refl; right = unsupported-right (asked s) kept says; says = refl }

-- The first line where it did not stand there, lines that lead to an answer, and the line of its verdict prove it.
pub solved-proved : (s : Stacked) (r : Solution) (before : Progress)
    (x y : Store) (p : Proving) (e : Backing) (old begun mid new : Option (List ℕ))
    → IsNumbered r → SaysTrue s e r → IsAbreast x p before → Tells (first_lines p.begun) old begun
    → IsSolution s before.kept y e r begun mid → HaveRegexesBelow (length y.arena) e.atoms
    → new ≡ with_bytes (line (text_of (verdict_line (said_by s r)))) mid → IsProved (asked s)
    (verdict_in (live_constants s) (verdict_of r)) before y (record { evidence = e; begun = true }) old new
solved-proved s r before x y p e old begun mid new small says h told z below told-last =
    let format = format-stays (asked_in (state_of s)) before.kept z.after z.puts.lines z.puts.follow ∙ h.format in
    let line = line-right s r y e z.after small says z.backs z.spent format in
    let said = verdict-said before z.after (asked s) (said_by s r)
    (verdict_in (live_constants s) (verdict_of r)) old begun mid new h.rests h.first
    (subst (λ b. Tells (first_lines b) old begun) (sym h.begun) told) z.puts line.spelled line.right line.says
    told-last in
    record {
      lines = said.lines;
      after = said.after;
      proves = said.proves;
      told = said.told;
      abreast = record {
        rests = said.proves.answered;
        begun = said.begun;
        first = λ unbegun. absurd (true≢false (sym said.begun ∙ unbegun));
        format = ap (λ (k : AllKept). k.format) said.kept ∙ format;
        counted = ap (λ (k : AllKept). k.counted) said.kept;
        backs = subst (Backs y.arena y.graph.memo e) (sym said.kept)
            (backs-again y.arena y.graph.memo e z.after z.backs);
        regexes = below;
      };
    }

pub finished : (x : Store) (p : Proving) (before : Progress) (old begun new : Option (List ℕ))
    → IsAbreast x p before → Tells (first_lines p.begun) old begun
    → new ≡ with_bytes (line (text_of end_line)) begun → new ≡ with_bytes (last_lines before) old
finished x p before old begun new h told told-last =
    step before.begun (tells-both (first_lines before.begun) (end_line ∷ []) old begun new
    (subst (λ b. Tells (first_lines b) old begun) (sym h.begun) told) (tells-one end_line begun new told-last))
  where
    step : (b : Bool) → Tells (first_lines b ++ end_line ∷ []) old new → new ≡ with_bytes (bytes_of (map text_of
        (if b then end_line ∷ [] else header_line newest_format ∷ end_line ∷ []))) old
    step true lines = lines
    step false lines = lines
