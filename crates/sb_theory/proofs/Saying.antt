-- What is said of memberships of several pieces, as an answer.
use Rattle.sb_theory.proofs.Words.{[], ◌<◌, ◌≡◌, List, ap, arith, count_by, false, false≢true, is_wanted, None, not, Option, sym, true, ℕ, Answers, Ask, Assigned, Checked, Fine, Keeps, Lemma, Spending, Spent, Stands, Strings}
use Rattle.sb_theory.proofs.Answering.{answers_asked, answers_fine}
use Rattle.sb_theory.proofs.Fitting.{agrees_settled}
use Rattle.sb_theory.specs.Judged.{AreJudged, IsDecided, IsSaid, is_again}
use Rattle.sb_theory.specs.Walks.{IsEnd, unnoted}
use Rattle.sb_theory.specs.declared.strings.walking.Walked.{Walked}
use Rattle.sb_theory.specs.declared.strings.walking.Walked.TheVariants as walk

-- A wish, where some may still be open.
pub answers_decided : {x y : Strings} {entries : List Assigned} {budget : Spending} {told : Option (List ℕ)}
    (answer : Checked) → IsDecided y entries answer → Stands y entries → Keeps x y
    → Answers x y entries budget budget told told false answer
answers_decided (Ask l) d stands k = answers_asked l stands d.0 d.1 d.2 k
answers_decided Fine d stands k = answers_fine stands (λ last. absurd (false≢true last)) k
answers_decided (Lemma clause) d stands k = absurd d
answers_decided Spent d stands k = absurd d

-- Nothing is wrong where none of several pieces is.
pub answers_judged : {x y : Strings} {entries : List Assigned} {budget : Spending} {told : Option (List ℕ)}
    → Stands y entries → y.changed ≡ [] → y.taken.items ≡ entries → AreJudged y entries None → Keeps x y
    → Answers x y entries budget budget told told true Fine
answers_judged {y = y} {entries} stands settled whole judged k =
    answers_fine stands (λ last. agrees_settled y entries stands.holds settled whole judged) k

-- What a walk has ended with, where it goes on no further.
pub said_of : (x y : Strings) (entries : List Assigned) (after : Spending) (walked : Walked)
    → is_again walked ≡ false → IsEnd x y entries 0 after walked → IsSaid y entries after walked
said_of x y entries after (walk.Ask l) off h = h
said_of x y entries after (walk.Step clause) off h = h
said_of x y entries after (walk.To l) off h = absurd (omega (arith, h.1))
said_of x y entries after walk.Noted off h = absurd (false≢true (sym off))
said_of x y entries after walk.Spent off h = h

-- More entries are of atoms that are noted.
pub noted_of : (x y : Strings) (entries : List Assigned) (after : Spending) (walked : Walked)
    → is_again walked ≡ true → IsEnd x y entries 0 after walked → unnoted y entries < unnoted x entries
noted_of x y entries after (walk.Ask l) on h = absurd (false≢true on)
noted_of x y entries after (walk.Step clause) on h = absurd (false≢true on)
noted_of x y entries after (walk.To l) on h = absurd (false≢true on)
noted_of x y entries after walk.Noted on h = h
noted_of x y entries after walk.Spent on h = absurd (false≢true on)

-- as many where the same atoms are
pub unnoted_same : (x y : Strings) (entries : List Assigned) → y.noted ≡ x.noted
    → unnoted y entries ≡ unnoted x entries
unnoted_same x y entries same =
    ap (λ (ns : List ℕ). count_by (λ (e : Assigned). not (is_wanted ns e.literal.atom)) entries) same
