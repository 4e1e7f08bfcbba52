-- Levels that are left.
use Rattle.sb_prover.proofs.Words.{◌≡◌, ℕ, zero, suc, ◌<◌, List, [], ◌∷◌, take, Option, Some, refl, ◌∙◌, arith, AreLow, AreUpTo, Backing, Backs, HaveLevels, IsAbreast, Progress, Proving, Store, Term, AllKept, asserted_at, left_above, level_at, newest_format, nothing_kept, none-some, Asserted}

pub none-there : (q : ℕ) (a : Asserted) → asserted_at [] q ≡ Some a → ⊥
none-there zero a h = none-some a h
none-there (suc q) a h = none-some a h

-- what stands before a place stays
front-level : (live : List (Option Term × ℕ)) (count q : ℕ) → q < count → level_at (take count live) q ≡ level_at live q
front-level live zero q low = absurd (omega (arith, low))
front-level [] (suc count) q low = refl
front-level (x ∷ live) (suc count) zero low = refl
front-level (x ∷ live) (suc count) (suc q) low = front-level live count q (omega (arith, low))

front-place : (xs : List (Option Asserted)) (count q : ℕ) (a : Asserted) → asserted_at (take count xs) q ≡ Some a
    → (q < count) × (asserted_at xs q ≡ Some a)
front-place xs zero q a h = absurd (none-there q a h)
front-place [] (suc count) q a h = absurd (none-there q a h)
front-place (x ∷ xs) (suc count) zero a h = (omega arith, h)
front-place (x ∷ xs) (suc count) (suc q) a h =
    let rest = front-place xs count q a h in let low = rest.0 in (omega (arith, low), rest.1)

pub levels-up-to : (live : List (Option Term × ℕ)) (level count : ℕ) (e : Backing) → HaveLevels live e
    → AreLow level (take count live) → AreUpTo level count e.asserted
levels-up-to live level count e h low place a before there =
    low place a.level (front-level live count place before ∙ h place a there)

pub levels-left_above : (live : List (Option Term × ℕ)) (level count : ℕ) (e : Backing) → HaveLevels live e
    → HaveLevels (take count live) (left_above level count e)
levels-left_above live level count e h place a there =
    let at = front-place e.asserted count place a there in
    front-level live count place at.0 ∙ h place a at.1

-- The proof has come so far.

pub left-behind : (x : Store) (p : Progress) (proving : Proving) (e : Backing) (kept : AllKept)
    → IsAbreast x proving p → e.atoms ≡ proving.evidence.atoms
    → (p.kept ≡ nothing_kept newest_format → kept ≡ nothing_kept newest_format) → kept.format ≡ p.kept.format
    → kept.counted ≡ p.kept.counted → Backs x.arena x.graph.memo e kept
    → IsAbreast x (record proving { evidence = e }) (record p { kept = kept })
left-behind x p proving e kept h atoms none format counted backs = record {
  rests = h.rests;
  begun = h.begun;
  first = λ unbegun. none (h.first unbegun);
  format = format ∙ h.format;
  counted = counted ∙ h.counted;
  backs = backs;
  regexes = rw atoms h.regexes;
}
