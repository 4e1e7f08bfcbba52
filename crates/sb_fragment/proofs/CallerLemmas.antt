-- What a caller cites of measures, in a table that grows, of what is known of live assertions, of terms that ask
-- something of one constant's word, and of Boolean structure over these, by its shapes.
use Rattle.std.proofs.Common.{◌≡◌, ℕ, Some, List, [], slice_get, arith}
use Rattle.std.proofs.lemmas.Option.{slice_get_within}
use Rattle.sb_meaning.specs.Terms.{Term}
use Rattle.sb_term.specs.Numbered.{term_at, Extends}
use Rattle.sb_term.proofs.CallerLemmas.{at_kept, long_kept}
use Rattle.sb_fragment.specs.declared.measure.Measure.{Measure}
use Rattle.sb_fragment.specs.Measures.{IsMeasure, AreMeasures}
pub use Rattle.sb_fragment.proofs.ComparedPairs.{compared_all, compared_map, pairs_all_test, map-map, map_same}
pub use Rattle.sb_fragment.proofs.Arguments.{all_at, items_some, numbers_compared, terms_compared, number_at, pair_at, pair_within, pair_read, pairs_done}
pub use Rattle.sb_fragment.proofs.InsideFacts.{inside_none, inside_all, inside_stays, inside_left, assertions_kept, front_of_front}
pub use Rattle.sb_fragment.proofs.Structured.{asked_structure, connected_structure, structure_sort, affix_fits}

pub measures_kept : (old new : List Term) (ms : List Measure) → Extends old new → AreMeasures old ms
    → AreMeasures new ms
measures_kept old new ms e h = record {
  few = omega (arith, h.few, long_kept old new e);
  each = λ i m g. same i m (at_kept old new i e (omega (arith, slice_get_within ms i m g, h.few))) (h.each i m g);
}
  where
    same : (i : ℕ) (m : Measure) → term_at new i ≡ term_at old i → IsMeasure (term_at old i) m
        → IsMeasure (term_at new i) m
    same i m is k = rw is k

pub no_measures : (ts : List Term) → AreMeasures ts []
no_measures ts = record { few = omega arith; each = λ i m g. absurd (nothing i m g) }
  where
    nothing : (i : ℕ) (m : Measure) → slice_get [] i ≡ Some m → ⊥
    nothing i m g = omega (arith, slice_get_within [] i m g)
