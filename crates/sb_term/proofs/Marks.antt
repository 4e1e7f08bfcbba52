-- In which terms of a table a parameter stands.
use Rattle.std.proofs.Common.{◌≡◌, ℕ, ◌+◌, ◌<◌, ◌≤◌, Bool, true, false, not, cond, ◌||◌, map, List, [], ◌∷◌, ◌++◌, length, get_or, drop, refl, sym, ap, ◌∙◌, true≢false}
use Rattle.std.specs.List.{list_any}
use Rattle.std.proofs.lemmas.List.{length-map, map_push, get_or-map, drop_more, drop_all}
use Rattle.sb_meaning.specs.Terms.{Term, word, terms_of}
use Rattle.sb_term.specs.declared.term.Term as code
use Rattle.sb_term.specs.Numbered.{term_at, terms_at}
use Rattle.sb_term.specs.Nodes.{node_term, terms_onto, terms_of_table}
use Rattle.sb_term.specs.Parameters.{has_parameters, have_parameters}
use Rattle.sb_term.specs.Interning.{AreMarked}
use Rattle.sb_term.proofs.NodeEq.{same}
use Rattle.sb_term.proofs.TableFacts.{onto-push, inserted}

pub marks_long : (ts : List Term) (marks : List Bool) → AreMarked ts marks → length marks ≡ length ts
marks_long ts marks are = ap length are ∙ length-map ts has_parameters

pub mark_at : (ts : List Term) (marks : List Bool) (i : ℕ) (mark : Bool) → AreMarked ts marks → i < length ts
    → mark ≡ get_or marks i mark → mark ≡ has_parameters (term_at ts i)
mark_at ts marks i mark are within at =
    at ∙ ap (λ bs. get_or bs i mark) are ∙ get_or-map has_parameters ts i (word []) mark within

pub marks_none : AreMarked (terms_of_table []) []
unfolding terms_onto
marks_none = refl

-- The marks where a term is added.

pub marks_stay : (ds after : List code.Term) (d : code.Term) (marks now : List Bool) (is_new : Bool)
    → AreMarked (terms_of_table ds) marks → after ≡ inserted ds d → is_new ≡ not (list_any (same d) ds)
    → is_new ≡ false → now ≡ marks → AreMarked (terms_of_table after) now
marks_stay ds after d marks now is_new are added is old stays =
    stays ∙ are ∙ ap (λ xs. map has_parameters (terms_of_table xs))
    (sym (added ∙ step (list_any (same d) ds) (sym is ∙ old)))
  where
    step : (b : Bool) → not b ≡ false → cond b ds (ds ++ d ∷ []) ≡ ds
    step true h = refl
    step false h = absurd (true≢false h)

pub marks_more : (old : List Term) (ds after : List code.Term) (d : code.Term) (marks before now : List Bool)
    (mark is_new : Bool) → AreMarked (terms_of_table ds) marks → terms_of_table ds ≡ old
    → mark ≡ has_parameters (node_term old d) → after ≡ inserted ds d → is_new ≡ not (list_any (same d) ds)
    → is_new ≡ true → before ≡ marks → now ≡ before ++ mark ∷ [] → AreMarked (terms_of_table after) now
marks_more old ds after d marks before now mark is_new are table marked added is fresh stays pushed =
    let ts = terms_of_table ds in
    let t = node_term ts d in
    pushed
    ∙ ap (λ bs. bs ++ mark ∷ []) (stays ∙ are)
    ∙ ap (λ b. map has_parameters ts ++ b ∷ []) (marked ∙ ap (λ us. has_parameters (node_term us d)) (sym table))
    ∙ sym (map_push has_parameters ts t)
    ∙ ap (λ us. map has_parameters us) (sym (onto-push [] ds d))
    ∙ ap (λ xs. map has_parameters (terms_of_table xs))
    (sym (added ∙ step (list_any (same d) ds) (sym is ∙ fresh)))
  where
    step : (b : Bool) → not b ≡ true → cond b ds (ds ++ d ∷ []) ≡ ds ++ d ∷ []
    step true h = absurd (true≢false (sym h))
    step false h = refl

-- Whether a parameter stands in one of the terms, as a loop goes over their numbers.

abbrev pub some_marked : List Term → List ℕ → Bool
some_marked ts ids = have_parameters (terms_of (terms_at ts ids))

some_at : (ts : List Term) (ids : List ℕ) (i x : ℕ) → i < length ids → x ≡ get_or ids i x
    → some_marked ts (drop i ids) ≡ (has_parameters (term_at ts x) || some_marked ts (drop (i + 1) ids))
some_at ts ids i x within at =
    ap (some_marked ts) (drop_more ids i x within)
    ∙ ap (λ y. has_parameters (term_at ts y) || some_marked ts (drop (i + 1) ids)) (sym at)

pub some_found : (ts : List Term) (ids : List ℕ) (i x : ℕ) (mark whole : Bool) → i < length ids → x ≡ get_or ids i x
    → mark ≡ has_parameters (term_at ts x) → mark ≡ true → some_marked ts (drop i ids) ≡ whole → true ≡ whole
some_found ts ids i x mark whole within at is found rest =
    ap (λ b. b || some_marked ts (drop (i + 1) ids)) (sym found ∙ is) ∙ sym (some_at ts ids i x within at) ∙ rest

pub some_next : (ts : List Term) (ids : List ℕ) (i x : ℕ) (mark whole : Bool) → i < length ids → x ≡ get_or ids i x
    → mark ≡ has_parameters (term_at ts x) → mark ≡ false → some_marked ts (drop i ids) ≡ whole
    → some_marked ts (drop (i + 1) ids) ≡ whole
some_next ts ids i x mark whole within at is closed rest =
    ap (λ b. b || some_marked ts (drop (i + 1) ids)) (sym closed ∙ is) ∙ sym (some_at ts ids i x within at) ∙ rest

pub some_done : (ts : List Term) (ids : List ℕ) (i : ℕ) (whole : Bool) → length ids ≤ i
    → some_marked ts (drop i ids) ≡ whole → false ≡ whole
some_done ts ids i whole past rest = sym (ap (some_marked ts) (drop_all i ids past)) ∙ rest
