-- A command with the two required words: a parse of it has a value for each.
use Rattle.std.proofs.Common.{◌≡◌, ◌∙◌, ℕ, zero, suc, false, true, [], ◌∷◌, is_some, slice_index, codes, ap, subst, sym, refl, inl, inr, arith}
use Rattle.std.specs.List.{All}
use Rattle.std.specs.Str.{bytes_eq}
use Rattle.clap.specs.Words.{AddsArg, Text, args_of, groups_of, first_value, found_of}
use Rattle.clap.specs.Built.{AddsInTurn, FitsChain, HasDistinctIds}
use Rattle.clap.proofs.CallerLemmas.{required_in_chain}
use Rattle.clap.specs.declared.builder.arg.Arg.{Arg}
use Rattle.clap.specs.declared.builder.command.Command.{Command}
use Rattle.clap.specs.declared.builder.command.Command.TheViews.{out-Command}
use Rattle.sb_words.specs.Required.{HasBoth, IsNeeded}

-- a name whose first byte is neither that of help nor that of version is neither
fits : (a : Arg) (id : Text) (first : ℕ) → IsNeeded id a → slice_index id 0 ≡ first → (first ≡ 0 → ⊥)
    → (first ≡ 104 → ⊥) → (first ≡ 118 → ⊥) → FitsChain a
fits a id first needed is not_0 not_104 not_118 = (
  needed.plain,
  needed.own,
  (λ empty. not_0 (begins empty)),
  (λ auto. elim auto [ inl h ↦ not_104 (begins h) | inr h ↦ not_118 (begins h) ]),
)
  where
    begins : {t : Text} → a.id.now ≡ t → first ≡ slice_index t 0
    begins h = sym is ∙ ap (λ (t : Text). slice_index t 0) (sym needed.name ∙ h)

all_two : (P : Arg → Type 0) (a b : Arg) → P a → P b → All P (a ∷ b ∷ [])
all_two P a b p q zero d low = p
all_two P a b p q (suc zero) d low = q
all_two P a b p q (suc (suc k)) d low = absurd (omega arith)

distinct_two : (a b : Arg) → bytes_eq a.id.now b.id.now ≡ false → bytes_eq b.id.now a.id.now ≡ false
    → HasDistinctIds (a ∷ b ∷ [])
distinct_two a b ab ba zero zero d e low low2 same = refl
distinct_two a b ab ba zero (suc zero) d e low low2 same =
    let bad : true ≡ false = sym same ∙ ab in cc
distinct_two a b ab ba (suc zero) zero d e low low2 same =
    let bad : true ≡ false = sym same ∙ ba in cc
distinct_two a b ab ba (suc zero) (suc zero) d e low low2 same = refl
distinct_two a b ab ba (suc (suc j)) k d e low low2 same = absurd (omega arith)
distinct_two a b ab ba j (suc (suc k)) d e low low2 same = absurd (omega arith)

pub both_given : (start middle command : Command) (a b : Arg) → AddsArg start a middle → AddsArg middle b command
    → args_of start ≡ [] → groups_of start ≡ [] → (out-Command start).has_globals ≡ false
    → (out-Command start).subcommand_negates_reqs ≡ false
    → IsNeeded (codes "script") a → IsNeeded (codes "proof") b → HasBoth command
both_given start middle command a b adds_a adds_b args groups globals negates needs_a needs_b m parsed =
    let chain : AddsInTurn AddsArg start (a ∷ b ∷ []) command = (middle, adds_a, (command, adds_b, refl)) in
    let fit : All FitsChain (a ∷ b ∷ []) = all_two FitsChain a b
    (fits a (codes "script") 115 needs_a refl (λ e. absurd (omega arith)) (λ e. absurd (omega arith))
    (λ e. absurd (omega arith)))
    (fits b (codes "proof") 112 needs_b refl (λ e. absurd (omega arith)) (λ e. absurd (omega arith))
    (λ e. absurd (omega arith))) in
    let apart : HasDistinctIds (a ∷ b ∷ []) = distinct_two a b (rw (needs_a.name, needs_b.name) refl)
    (rw (needs_a.name, needs_b.name) refl) in
    let of_a = required_in_chain start command (a ∷ b ∷ []) 0 a m chain args groups globals negates fit apart
    (omega arith) needs_a.value parsed in
    let of_b = required_in_chain start command (a ∷ b ∷ []) 1 b m chain args groups globals negates fit apart
    (omega arith) needs_b.value parsed in (
      subst (λ (t : Text). is_some (first_value (found_of m) t) ≡ true) needs_a.name of_a,
      subst (λ (t : Text). is_some (first_value (found_of m) t) ≡ true) needs_b.name of_b,
    )
