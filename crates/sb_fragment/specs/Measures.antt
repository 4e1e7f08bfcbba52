-- What the rules of the fragment ask of a term, as it is kept by the term's number.
use Rattle.std.specs.Prelude.{◌≡◌, ℕ, ◌≤◌, Bool, true, false, nat_le, if◌then◌else◌, List, length, slice_get, Some, is_some}
use Rattle.sb_meaning.specs.Terms.{Term, word}
use Rattle.sb_script.specs.Brought.{is_regex, is_structure, is_text}
use Rattle.sb_script.specs.Fragment.{is_decided}
use Rattle.sb_script.specs.Pieces.{is_ground, pieces_of}
use Rattle.sb_script.specs.Sizes.{size_of, has_short_words}
use Rattle.sb_script.specs.State.{asserted}
use Rattle.sb_term.specs.Numbered.{term_at}
use Rattle.sb_fragment.specs.declared.measure.Measure.{Measure}

abbrev pub is_literal : Term → Bool
is_literal (word w) = true
is_literal _ = false

-- a size, up to the least one past the limit
abbrev pub within_limit : ℕ → ℕ
within_limit n = if nat_le n 1000000 then n else 1000001

pub record IsMeasure (t : Term) (m : Measure) : Type 0 where
  pub text : m.is_text ≡ is_text t
  pub pieces : m.has_pieces ≡ is_some (pieces_of t)
  pub constants : m.is_ground ≡ is_ground t
  pub regex : m.is_regex ≡ is_regex t
  pub short : m.is_short ≡ has_short_words t
  pub size : m.size ≡ within_limit (size_of t)
  pub structure : m.is_structure ≡ is_structure t
  pub fitting : m.fits ≡ is_decided (asserted t)

-- the measures of the first terms of a table, by number
pub record AreMeasures (ts : List Term) (ms : List Measure) : Type 0 where
  pub few : length ms ≤ length ts
  pub each : (i : ℕ) (m : Measure) → slice_get ms i ≡ Some m → IsMeasure (term_at ts i) m
