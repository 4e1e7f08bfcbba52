-- The line of an expansion.
use Rattle.std.proofs.Common.{◌≡◌, ℕ, Bool, if◌then◌else◌, List, [], ◌∷◌, map, Option, Some, None, is_some, option_map, slice_get, set, Result, Err, refl, inl, ap, sym, ◌∙◌}
use Rattle.std.proofs.lemmas.Option.{slice_get-map}
use Rattle.sb_lang.specs.Regex.{Regex}
use Rattle.sb_regex.specs.Numbered.{regex_at, regexes_at}
use Rattle.sb_proof.specs.declared.line.Class.{Class}
use Rattle.sb_proof.specs.Lines.{class_in}
use Rattle.sb_rulebook.specs.Refusals.{Refusal, unknown_id, repeated, wrong_target}
use Rattle.sb_rulebook.specs.Parts.{together}
use Rattle.sb_rulebook.specs.Lines.{expansion_line}
use Rattle.sb_rulebook.specs.Kept.{AllKept, Asked, targets_in, with_expansion, counting}
use Rattle.sb_rulebook.specs.RegexRules.{branch_of, expanded}
use Rattle.sb_rulebook.specs.Expansions as rules
use Rattle.sb_rulebook.specs.Expansions.{Branch}
use Rattle.sb_rulebook.specs.Follows.{follows}
use Rattle.sb_rules.specs.Branches.{branches_at}
use Rattle.sb_atoms.specs.Numbered.{atoms_in}
use Rattle.sb_rules.specs.Known.{Known}
use Rattle.sb_rules.proofs.Staying.{all_of}
use Rattle.sb_rules.specs.Expanding.{JudgesExpansion}
use Rattle.sb_rules.specs.declared.fault.Fault.{Fault}
use Rattle.sb_rules.specs.declared.fault.Fault.TheVariants as fault
use Rattle.sb_rules.specs.declared.kept.Kept.{Kept}
use Rattle.sb_rules.specs.Kept.{kept_in}

-- Classes with the regexes of their targets, by the numbers of these in the arena.

with_rest : (rs : List Regex) (k : Class) (ks : List Class) (o : Option ℕ) (tail : List (Option ℕ))
    (rest : List (Option Branch)) → together rest ≡ option_map (branches_at rs ks) (together tail)
    → together (option_map (λ r. (k.ranges.items, r)) (option_map (regex_at rs) o) ∷ rest)
    ≡ option_map (branches_at rs (k ∷ ks)) (together (o ∷ tail))
with_rest rs k ks None tail rest h = refl
with_rest rs k ks (Some id) tail rest h =
    ap (option_map (λ others. (k.ranges.items, regex_at rs id) ∷ others)) h ∙ last (together tail)
  where
    last : (found : Option (List ℕ))
        → option_map (λ others. (k.ranges.items, regex_at rs id) ∷ others) (option_map (branches_at rs ks) found)
        ≡ option_map (branches_at rs (k ∷ ks)) (option_map (λ others. id ∷ others) found)
    last None = refl
    last (Some ids) = refl

branches_of : (rs : List Regex) (order : List ℕ) (ks : List Class)
    → together (map (branch_of (regexes_at rs order)) (map class_in ks))
    ≡ option_map (branches_at rs ks) (together (map (slice_get order) (map (λ k. k.target) ks)))
branches_of rs order [] = refl
branches_of rs order (k ∷ ks) =
    ap (λ o. together (option_map (λ r. (k.ranges.items, r)) o
    ∷ map (branch_of (regexes_at rs order)) (map class_in ks))) (slice_get-map (regex_at rs) order k.target)
    ∙ with_rest rs k ks (slice_get order k.target) (map (slice_get order) (map (λ j. j.target) ks))
    (map (branch_of (regexes_at rs order)) (map class_in ks)) (branches_of rs order ks)

same_targets : (ks : List Class) → map (λ k. k.1) (map class_in ks) ≡ map (λ k. k.target) ks
same_targets [] = refl
same_targets (k ∷ ks) = ap (λ ids. k.target ∷ ids) (same_targets ks)

-- memory was wanted, and what is kept is as before
pub expansion_wanted : (A : Type 0) (result : Result A Fault) (e : Fault) (asked : Asked) (old new : Kept) (number : ℕ)
    (ks : List Class) → result ≡ Err e → e ≡ fault.NoMemory
    → ((others : AllKept) → kept_in new others ≡ kept_in old others) → JudgesExpansion result asked old new number ks
expansion_wanted A result e asked old new number ks r s same = rw (r, s) (λ others. inl (same others))

-- What the rule of expansions says, by what was looked up.

pub unknown_target : (asked : Asked) (old : Kept) (others : AllKept) (number regex : ℕ) (ks : List Class)
    → slice_get old.regexes.order number ≡ Some regex
    → together (map (slice_get old.regexes.order) (map (λ k. k.target) ks)) ≡ None
    → follows asked (kept_in old others) (expansion_line number (map class_in ks)) ≡ Err unknown_id
unknown_target asked old others number regex ks h t =
    ap (λ o. elim o as (λ _. Result AllKept Refusal) [
      | None ↦ Err unknown_id
      | Some r ↦ elim (together (map (branch_of (kept_in old others).regexes) (map class_in ks)))
          [ None ↦ Err unknown_id | Some ps ↦ expanded asked (kept_in old others) number (map class_in ks) r ps ]
    ]) (slice_get-map (regex_at old.arena) old.regexes.order number ∙ ap (option_map (regex_at old.arena)) h)
    ∙ ap (λ o. elim o as (λ _. Result AllKept Refusal) [
      | None ↦ Err unknown_id
      | Some ps ↦ expanded asked (kept_in old others) number (map class_in ks) (regex_at old.arena regex) ps
    ]) (branches_of old.arena old.regexes.order ks ∙ ap (option_map (branches_at old.arena ks)) t)

-- what is left to judge
abbrev pub judged_by : Asked → Kept → AllKept → ℕ → List Class → Bool → Bool → Result AllKept Refusal
judged_by asked old others number ks is_expanded is_right =
    if is_expanded then Err repeated
    else if is_right
    then counting asked (with_expansion number (map (λ k. k.target) ks) (kept_in old others)) else Err wrong_target

pub by_expansion : (asked : Asked) (old : Kept) (others : AllKept) (number regex : ℕ) (ks : List Class)
    (ids : List ℕ) → slice_get old.regexes.order number ≡ Some regex
    → together (map (slice_get old.regexes.order) (map (λ k. k.target) ks)) ≡ Some ids
    → follows asked (kept_in old others) (expansion_line number (map class_in ks))
    ≡ judged_by asked old others number ks (is_some (targets_in old.regexes.expansions number))
    (rules.is_expansion (regex_at old.arena regex) (branches_at old.arena ks ids))
by_expansion asked old others number regex ks ids h t =
    ap (λ o. elim o as (λ _. Result AllKept Refusal) [
      | None ↦ Err unknown_id
      | Some r ↦ elim (together (map (branch_of (kept_in old others).regexes) (map class_in ks)))
          [ None ↦ Err unknown_id | Some ps ↦ expanded asked (kept_in old others) number (map class_in ks) r ps ]
    ]) (slice_get-map (regex_at old.arena) old.regexes.order number ∙ ap (option_map (regex_at old.arena)) h)
    ∙ (ap (λ o. elim o as (λ _. Result AllKept Refusal) [
      | None ↦ Err unknown_id
      | Some ps ↦ expanded asked (kept_in old others) number (map class_in ks) (regex_at old.arena regex) ps
    ]) (branches_of old.arena old.regexes.order ks ∙ ap (option_map (branches_at old.arena ks)) t)
    ∙ ap (λ ns. if is_some (targets_in old.regexes.expansions number) then Err repeated
    else if rules.is_expansion (regex_at old.arena regex) (branches_at old.arena ks ids)
    then counting asked (with_expansion number ns (kept_in old others)) else Err wrong_target) (same_targets ks))

-- with one expansion more
pub expansion_kept : (k : Kept) (others : AllKept) (number : ℕ) (targets : List ℕ) (next : ℕ) (known : Known)
    → known ≡ record k.regexes { expansions = set k.regexes.expansions number (Some targets) }
    → record (with_expansion number targets (kept_in k others)) { counted = next }
    ≡ all_of others (regexes_at k.arena known.order) known (atoms_in k.arena k.atoms) k.clauses next
expansion_kept k others number targets next known e =
    ap (λ x. all_of others (regexes_at k.arena x.order) x (atoms_in k.arena k.atoms) k.clauses next) (sym e)
