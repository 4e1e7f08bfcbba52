-- Private: what is known of live constants and terms.
use Rattle.std.specs.Prelude.{◌≡◌, true, map}
use Rattle.sb_solve.specs.Words.{Stacked, have_levels, list_all, live_constants, sort_in, state_of}
use Rattle.sb_script.specs.Brought.{is_brought_sort}
use Rattle.sb_script.specs.State.{live_terms}
use Rattle.sb_sorts.specs.Scopes.{are_sorted}
use Rattle.sb_stack.specs.Speaking.{speaks_of}

-- Live terms speak of live constants, whose sorts are read, and the assertions stand by their levels.
pub record HasLive (s : Stacked) : Type 0 where
  pub levelled : have_levels s.levels s.assertions ≡ true
  pub named : list_all (speaks_of (live_constants s)) (live_terms (state_of s)) ≡ true
  pub sorted : are_sorted (map sort_in s.scope.sorts) (live_constants s) ≡ true
  pub brought : list_all (λ sort. is_brought_sort (sort_in sort)) s.scope.sorts ≡ true
