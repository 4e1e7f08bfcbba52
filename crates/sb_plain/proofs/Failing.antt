-- What failed, as an arena grows and as more fails.
use Rattle.std.proofs.Common.{◌≡◌, ℕ, ◌<◌, subst, suc, Bool, true, false, cond, inl, inr, nat_eq, List, [], ◌∷◌, ◌++◌, length, get_or, drop, sym, ap, ap₂, ◌∙◌, arith}
use Rattle.std.specs.List.{list_any}
use Rattle.std.proofs.lemmas.List.Elements.{All-append, All-cons, All-nil}
use Rattle.std.proofs.lemmas.Bool.{and_parts, or_cases, false≢true}
use Rattle.std.proofs.lemmas.Bool.Decides.{nat_tests}
use Rattle.sb_lang.specs.Regex.{Regex}
use Rattle.sb_lang.specs.Language.{language}
use Rattle.sb_regex.specs.Numbered.{regex_at, Extends}
use Rattle.sb_regex.proofs.CallerLemmas.{at_kept, number_kept}
use Rattle.sb_plain.specs.Memory.{Learnt, Failed, Walked, Memory, LearntIsRight, AreFailed, IsRight, same_pair, RightStays}
use Rattle.sb_plain.proofs.Remembering.{right_kept}
use Rattle.sb_plain.proofs.Staying.{walked_kept}

pub failed_kept : (old new : List Regex) (f : Failed) → Extends old new → AreFailed old f → AreFailed new f
failed_kept old new f more failed k d l =
    let p = failed k d l in
    let pair = get_or f.1 k d in (
      number_kept old new pair.0 more p.0,
      ap (λ r. language r (drop pair.1 f.0)) (at_kept old new pair.0 more p.0) ∙ p.1,
    )

pub failed_put : (codes : List ℕ) (pairs pairs' : List (ℕ × ℕ)) (f : Failed) (regex place : ℕ) → (codes, pairs) ≡ f
    → (b : Bool) → pairs' ≡ cond b pairs (pairs ++ (regex, place) ∷ []) → (rs : List Regex) → AreFailed rs f
    → regex < length rs → language (regex_at rs regex) (drop place f.0) ≡ false → AreFailed rs (codes, pairs')
failed_put codes pairs pairs' f regex place is true e rs failed l fails =
    subst (λ ps. AreFailed rs (codes, ps)) (sym e) (subst (AreFailed rs) (sym is) failed)
failed_put codes pairs pairs' f regex place is false e rs failed l fails =
    let no_word = λ (p : ℕ × ℕ). (p.0 < length rs) × (language (regex_at rs p.0) (drop p.1 codes) ≡ false) in
    subst (λ ps. AreFailed rs (codes, ps)) (sym e)
    (All-append no_word pairs ((regex, place) ∷ []) (subst (AreFailed rs) (sym is) failed)
    (All-cons no_word (regex, place) [] (
      l,
      ap (λ (g : Failed). language (regex_at rs regex) (drop place g.0)) is ∙ fails,
    ) (All-nil no_word)))

pub failed_has : (rs : List Regex) (codes : List ℕ) (pairs : List (ℕ × ℕ)) (regex place : ℕ)
    → list_any (same_pair (regex, place)) pairs ≡ true → AreFailed rs (codes, pairs)
    → language (regex_at rs regex) (drop place codes) ≡ false
failed_has rs codes [] regex place found failed = absurd (false≢true found)
failed_has rs codes (p ∷ ps) regex place found failed = elim (or_cases (same_pair (regex, place) p) _ found) [
  | inl here ↦
      let q = and_parts (nat_eq regex p.0) (nat_eq place p.1) here in
      let first : regex ≡ p.0 = grind (arith, nat_tests, q.0) in
      let second : place ≡ p.1 = grind (arith, nat_tests, q.1) in
      ap₂ (λ r i. language (regex_at rs r) (drop i codes)) first second ∙ (failed 0 p (omega arith)).1
  | inr later ↦ failed_has rs codes ps regex place later (λ k d l. failed (suc k) d (omega (arith, l)))
]

pub all_right_kept : RightStays
all_right_kept old new m more right = record {
  learnt = right_kept old new m.0 more right.learnt;
  failed = failed_kept old new m.1 more right.failed;
  walked = walked_kept old new m.2 more right.walked;
}

-- the parts of what is right

pub parts_right : (rs : List Regex) (learnt : Learnt) (failed : Failed) (walked : Walked) (m : Memory)
    → (learnt, failed, walked) ≡ m → IsRight rs m → IsRight rs (learnt, failed, walked)
parts_right rs learnt failed walked m is right = subst (IsRight rs) (sym is) right

-- what was learnt changes, and the others stay
pub learnt_changed : (old new : List Regex) (learnt learnt' : Learnt) (failed : Failed) (walked : Walked) (m : Memory)
    → (learnt, failed, walked) ≡ m → IsRight old m → Extends old new → LearntIsRight new learnt'
    → IsRight new (learnt', failed, walked)
learnt_changed old new learnt learnt' failed walked m is right grown now =
    let parts = parts_right old learnt failed walked m is right in record {
      learnt = now;
      failed = failed_kept old new failed grown parts.failed;
      walked = walked_kept old new walked grown parts.walked;
    }
