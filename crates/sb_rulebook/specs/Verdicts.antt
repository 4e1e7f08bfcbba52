-- The verdict of a check, and when it follows from what is kept.
use Rattle.std.specs.Prelude.{ℕ, Bool, true, false, not, ◌&&◌, ◌||◌, ◌==◌, nat_eq, nat_lt, if◌then◌else◌, List, [], ◌∷◌, filter, length, slice_get, Option, Some, None, option_map}
use Rattle.std.specs.Cmp.Lexicographic.{pointwise}
use Rattle.std.specs.List.{list_all, list_any}
use Rattle.sb_lit.specs.declared.clause.Lit.{Lit}
use Rattle.sb_meaning.specs.Terms.{Term}
use Rattle.sb_meaning.specs.Values.{Value, Valuation}
use Rattle.sb_meaning.specs.Truth.{holds}
use Rattle.sb_script.specs.Scopes.{Constant}
use Rattle.sb_script.specs.State.{Assumption, fits}
use Rattle.sb_script.specs.Verdicts.{each_once}
use Rattle.sb_rulebook.specs.Refusals.{Refusal, unknown_id, wrong_verdict}
use Rattle.sb_rulebook.specs.Atoms.{Atom, bool_atom, truth_at}
use Rattle.sb_rulebook.specs.Lines.{Said, said_sat, said_unsat, said_unknown, said_unsupported}
use Rattle.sb_rulebook.specs.Kept.{AllKept, Asked, most_counted, rests_of}
use Rattle.sb_rulebook.specs.Brought.{has_rests}
use Rattle.sb_lit.specs.Kept.{KeptClause, kept_at}

-- what a check asks
pub record Question : Type 0 where
  pub asked : Asked
  -- the live constants, by serial
  pub constants : List Constant
  pub assumptions : List Assumption
  -- the check is in the fragment that is decided
  pub inside : Bool

-- the values of the constants, in order
abbrev pub valued : List Constant → List Value → Option Valuation
valued [] [] = Some []
valued (c ∷ cs) (x ∷ xs) = option_map (λ v. (c.serial, x) ∷ v) (valued cs xs)
valued _ _ = None

abbrev pub is_same_truth : Bool → Bool → Bool
is_same_truth a b = if a then b else not b

abbrev pub assumption_holds : Valuation → Assumption → Bool
assumption_holds v a = is_same_truth (truth_at v a.0) a.1

abbrev pub assertion_holds : Valuation → Option Term → Bool
assertion_holds v None = false
assertion_holds v (Some t) = holds t v

-- the values are of the sorts, and make each live assertion and each assumption true
abbrev pub is_model_of : Question → Valuation → Bool
is_model_of q v = fits q.constants v
    && (list_all (λ a. assertion_holds v a.0) q.asked.live && list_all (assumption_holds v) q.assumptions)

abbrev pub are_model_of : Question → List Value → Bool
are_model_of q values = elim (valued q.constants values) [ None ↦ false | Some v ↦ is_model_of q v ]

-- the literal is the negation of an assumption
abbrev pub denies : Lit → Option Atom → Assumption → Bool
denies l (Some (bool_atom serial)) a = (serial == a.0) && is_same_truth l.positive (not a.1)
denies l _ a = false

-- the assumptions that a literal of the clause denies, each once, in the order given
abbrev pub denied_by : Question → AllKept → KeptClause → List Assumption
denied_by q kept clause =
    filter (λ a. list_any (λ l. denies l (slice_get kept.atoms l.atom) a) clause.literals) (each_once q.assumptions)

abbrev pub denies_assumption : Question → AllKept → Lit → Bool
denies_assumption q kept l = list_any (denies l (slice_get kept.atoms l.atom)) q.assumptions

-- each literal of the clause is the negation of an assumption, so that not all of them hold
abbrev pub refutes : Question → AllKept → KeptClause → Bool
refutes q kept clause = list_all (denies_assumption q kept) clause.literals

-- in a format in which places are listed, each of them is of a live assertion
abbrev pub are_live : Question → AllKept → Option (List ℕ) → Bool
are_live q kept None = true
are_live q kept (Some places) =
    not (has_rests kept.format) || list_all (λ place. nat_lt place (length q.asked.live)) places

-- the assertions on which the clause rests are listed where the format has it so
abbrev pub is_listed : AllKept → ℕ → Option (List ℕ) → Bool
is_listed kept id None = not (has_rests kept.format)
is_listed kept id (Some places) = has_rests kept.format && pointwise nat_eq (rests_of kept id) places

abbrev pub unless_wrong : Bool → Option Refusal
unless_wrong right = if right then None else Some wrong_verdict

-- Why a verdict does not follow, none where it does. Outside the fragment there is one verdict.
abbrev pub refusal_of : Question → AllKept → Said → Option Refusal
refusal_of q kept (said_sat values) = unless_wrong (q.inside && are_model_of q values)
refusal_of q kept (said_unsat id listed) =
    elim (kept_at kept.clauses id) [
      | None ↦ Some unknown_id
      | Some clause ↦ if are_live q kept listed
          then unless_wrong (q.inside && (is_listed kept id listed && refutes q kept clause)) else Some unknown_id
    ]
refusal_of q kept (said_unknown n) = unless_wrong (q.inside && ((n == most_counted q.asked) && (kept.counted == n)))
refusal_of q kept said_unsupported = unless_wrong (not q.inside)
