-- What a number of a watch list comes to.
use Rattle.std.proofs.Common.{◌≡◌, ℕ, ◌^◌, ◌<◌, true, ltb, List, ◌∙◌, ap, subst, inr}
use Rattle.std.proofs.lemmas.Bool.{or_parts, ltb-true}
use Rattle.sb_lit.specs.declared.clause.Lit.{Lit}
use Rattle.sb_lit.specs.Clauses.{is_same_literal, is_among, is_false_under}
use Rattle.sb_lit.specs.Kept.{Kept}
use Rattle.sb_clauses.specs.Looking.{IsHeld, IsMove}
use Rattle.sb_clauses.specs.Watching.{list_of, literal_of, no_literal, literal_at, is_small, HasClause}
use Rattle.sb_clauses.specs.Sparing.{AreSpared, IsFree}
use Rattle.sb_clauses.specs.Ways.{IsReadable, IsPassed, IsOpenTo}
use Rattle.sb_lit.proofs.CallerLemmas.{all_among}
use Rattle.sb_clauses.proofs.Literals.{among_at}
use Rattle.sb_clauses.proofs.Codes.{literal_of-list_of}
use Rattle.sb_clauses.proofs.Walking.{only_clause, list_of-positive}

-- the spare literal
pub open_to_spare : (kept : Kept) (literals : List Lit) (spares : List ℕ) (n other lists code : ℕ)
    → AreSpared kept spares → IsFree literals spares n other lists code
    → IsOpenTo kept literals (literal_of other) lists n code
open_to_spare kept literals spares n other lists code spared free =
    let parts = or_parts (is_same_literal (literal_of code) (literal_of other))
    (is_false_under literals (literal_of code)) free.is_new in
    record {
      begun = free.begun;
      inside = free.inside;
      apart = parts.0;
      not_false = parts.1;
      among = λ c has. ap (λ m. is_among c (literal_of m)) free.there
          ∙ spared.among n c has (subst (λ m. 1 < m) free.there free.begun);
      consistent = free.consistent;
    }

module _ (kept : Kept) (literals : List Lit) (n : ℕ) (c : List Lit) (has : HasClause kept n c) (other : Lit) where
  pub passed_held : (list : ℕ) → IsHeld literals c other → IsPassed kept literals other list n
  passed_held list seen = record {
    holds = seen.holds;
    among = inr (λ d k. ap (λ ls. is_among ls other) (only_clause kept n c d has k) ∙ seen.inside);
  }

  -- the one at a place of the clause
  module _ (lists place : ℕ) (readable : IsReadable lists c other) (seen : IsMove literals c other place) where
    at_place : is_among c (literal_at c place) ≡ true
    at_place = among_at c c place no_literal seen.replacement.inside

    pub place_small : (literal_at c place).atom < 2 ^ 30
    place_small = ltb-true (literal_at c place).atom (2 ^ 30)
        (all_among is_small c (literal_at c place) readable.small at_place)

    pub open_to_place : IsOpenTo kept literals other lists n (list_of (literal_at c place))
    open_to_place =
        let parts = or_parts (is_same_literal (literal_at c place) other)
        (is_false_under literals (literal_at c place)) seen.replacement.is_new in
        let back = literal_of-list_of (literal_at c place) in
        record {
          begun = list_of-positive (literal_at c place);
          inside = ltb-true (list_of (literal_at c place)) lists
              (all_among (λ m. ltb (list_of m) lists) c (literal_at c place) readable.listed at_place);
          apart = ap (λ m. is_same_literal m other) back ∙ parts.0;
          not_false = ap (is_false_under literals) back ∙ parts.1;
          among = λ d k. ap (is_among d) back
              ∙ ap (λ ls. is_among ls (literal_at c place)) (only_clause kept n c d has k) ∙ at_place;
          consistent = seen.consistent;
        }
