-- The turn of a run of places: all its states are done.
use Rattle.std.proofs.Common.{◌≡◌, ℕ, zero, suc, ◌+◌, ◌-◌, ◌*◌, ◌<◌, ◌≤◌, Bool, true, false, ltb, List, [], ◌∷◌, ◌++◌, length, get_or, take, drop, map, refl, sym, ap, subst, ◌∙◌, arith}
use Rattle.std.proofs.Math.ListN.{get_or-map}
use Rattle.std.proofs.lemmas.Bool.Decides.{nat_tests}
use Rattle.std.proofs.lemmas.List.{get_or-take, get_or-drop}
use Rattle.std.proofs.lemmas.List.Elements.{All-weaker}
use Rattle.std.proofs.lemmas.List.Folds.{list_any_at}
use Rattle.sb_lang.specs.Regex.{Regex}
use Rattle.sb_lang.specs.Language.{language}
use Rattle.sb_lang.specs.Languages.{Language}
use Rattle.sb_regex.specs.Numbered.{regex_at}
use Rattle.sb_graph.specs.Queue.{Entry, regex_of, way_of, word_at, IsRun, rank, rank_at}
use Rattle.sb_members.specs.Members.{in_some}
use Rattle.sb_graph.specs.Edges.{AreRising, AreEdges, IsEdgeFrom, Puts}
use Rattle.sb_graph.specs.Walks.{IsMet, IsDone, IsSearched, IsTurned}
use Rattle.sb_graph.proofs.Ranks.{rank_empty, rank_grows, rank_from-push}
use Rattle.sb_members.proofs.CallerLemmas.{Each, all_each, each_in}
use Rattle.sb_graph.proofs.Fronts.{HasState, some_at}
use Rattle.sb_graph.proofs.WalkGrowing.{met_later, done_grown}
use Rattle.sb_graph.proofs.WalkTurns.{Turn, IsEdge, IsEdgeMet, Turned, turned}

module _ (rs : List Regex) (L : Language) (es : List Entry) (place end : ℕ) (s : IsSearched rs L es place)
    (run : IsRun es place end) (ns : List ℕ)
    (are : ns ≡ take (end - place) (drop place (map (λ e. e.0) es)))
    (long : length ns ≡ end - place) (edges : List (ℕ × ℕ))
    (lead : AreEdges rs (in_some rs ns) edges) (ordered : AreRising 0 edges) (es' : List Entry)
    (puts : Puts rs place edges es es') where
  abbrev ws : List (List ℕ)
  ws = s.words

  abbrev w : List ℕ
  w = word_at ws place

  within : place < length es
  within = omega (arith, run.later, run.within)

  -- one word leads to the places of the run
  run_word : (k : ℕ) → place ≤ k → k < end → word_at ws k ≡ w
  run_word k h l = by (ltb 0 place) refl
    where
      by : (t : Bool) → ltb 0 place ≡ t → word_at ws k ≡ w
      by true t =
          let p : 0 < place = grind (arith, nat_tests, t) in
          let r = s.reached.words_are in
          r.next k (omega (arith, p, h)) (omega (arith, l, run.within))
          ∙ ap (λ v. word_at ws v.0 ++ v.1 ∷ []) (run.same k h l)
          ∙ sym (r.next place p within)
      by false t =
          let z : place ≡ 0 = grind (arith, nat_tests, t) in
          let same : k ≡ place = omega (arith, run.alone z, z, l) in
          ap (word_at ws) same

  at_run : (j : ℕ) → j < length ns → get_or ns j 0 ≡ regex_of es (place + j)
  at_run j l =
      ap (λ xs. get_or xs j 0) are
      ∙ get_or-take (end - place) (drop place (map (λ e. e.0) es)) j 0 (omega (arith, l, long))
      ∙ get_or-drop place (map (λ e. e.0) es) j 0
      ∙ get_or-map (λ e. e.0) es (place + j) (0, (0, 0))

  sound : Each (IsEdge rs L place (length es) w) edges
  sound = all_each (IsEdge rs L place (length es) w) edges
      (All-weaker (IsEdgeFrom rs (in_some rs ns)) (IsEdge rs L place (length es) w) each edges lead.sound)
    where
      each : (e : ℕ × ℕ) → IsEdgeFrom rs (in_some rs ns) e → IsEdge rs L place (length es) w e
      each e f = record {
        character = f.character;
        rests = λ u m. behind e u (some_at rs ns (e.0 ∷ u) (f.rests u m));
      }
        where
          behind : (e : ℕ × ℕ) (u : List ℕ) → HasState rs ns (e.0 ∷ u) → L (w ++ e.0 ∷ u) ≡ true
          behind e u h =
              let k : place + h.place < end = omega (arith, h.within, long, run.later) in
              sym (ap (λ v. L (v ++ e.0 ∷ u)) (run_word (place + h.place) (omega arith) k))
              ∙ s.reached.rests (place + h.place) (omega (arith, k, run.within)) (e.0 ∷ u)
              (sym (ap (λ n. language (regex_at rs n) (e.0 ∷ u)) (at_run h.place h.within)) ∙ h.has)

  start : Turn rs L place (length es) w es ws 0
  start = record {
    reached = s.reached;
    within = within;
    word = refl;
    room = λ j h. omega (arith, s.near within j h);
    behind = λ c k m e h. omega (arith, s.near within k (omega (arith, e)));
    fresh = λ k h l. absurd (omega (arith, h, l));
  }

  after : Turned rs L place (length es) w es ws edges es'
  after = turned rs L place (length es) w edges es ws 0 es' (omega arith) start
      ordered sound puts

  done_here : (k : ℕ) → place ≤ k → k < end → IsDone rs es' after.words k
  done_here k h l c char u m =
      let here : k < length es = omega (arith, l, run.within) in
      let old = sym (ap (λ e. language (regex_at rs e.0) (c ∷ u)) (after.grown.entries k here)) ∙ m in
      let e : place + (k - place) ≡ k = omega (arith, h) in
      let j : k - place < length ns = omega (arith, h, l, long) in
      let is = at_run (k - place) j ∙ ap (regex_of es) e in
      let f = lead.whole c u char (list_any_at (λ n. language (regex_at rs n) (c ∷ u)) ns (k - place) 0 j
      (ap (λ n. language (regex_at rs n) (c ∷ u)) is ∙ old)) in
      let met = each_in (IsEdgeMet rs L place (length es) w es' after.words) edges f.edge after.met f.among u f.has in
      subst (λ v. IsMet rs es' after.words u (rank v * 0x30000 + c))
      (sym (after.grown.words k here ∙ run_word k h l))
      (met_later rs es' after.words u _ (rank w * 0x30000 + c) (omega (arith, f.soon)) met)

  done_below : (k : ℕ) → k < end → k < length es' → IsDone rs es' after.words k
  done_below k l m = by (ltb k place) refl
    where
      by : (t : Bool) → ltb k place ≡ t → IsDone rs es' after.words k
      by true t =
          let h : k < place = grind (arith, nat_tests, t) in
          let here : k < length es = omega (arith, h, within) in
          done_grown rs es ws es' after.words k after.grown here (s.below k h here)
      by false t = done_here k (grind (arith, nat_tests, t)) l

  -- the place behind the run has a word of a higher rank
  end_above : end < length es' → rank w < rank_at after.words end
  end_above h = by (ltb end (length es)) refl
    where
      from_start : end < length es → place ≡ 0 → rank w < rank_at ws end
      from_start l z =
          let r = s.reached.words_are in
          let first : w ≡ [] = ap (word_at ws) z ∙ r.first in
          let next = ap rank (r.next end (omega (arith, run.later)) l)
          ∙ rank_from-push 1 (word_at ws (way_of es end).0) (way_of es end).1 in
          let g = rank_grows 1 (word_at ws (way_of es end).0) in
          subst (λ v. rank v < rank_at ws end) (sym first) (omega (arith, next, g, rank_empty))

      from_run : (m : ℕ) → suc m ≡ end → end < length es → 0 < place → rank w < rank_at ws end
      from_run m e l p =
          let h : place ≤ m = omega (arith, e, run.later) in
          let k : m < end = omega (arith, e) in
          let here = run.same m h k in
          let apart = s.reached.apart m (omega (arith, p, h)) (omega (arith, e, l))
          (λ t. run.ends p l (sym (ap (way_of es) e) ∙ sym t ∙ here)) in
          omega (arith, apart, ap (rank_at ws) e, ap rank (run_word m h k))

      old : end < length es → (t : Bool) → ltb 0 place ≡ t → (m : ℕ) → m ≡ end → rank w < rank_at ws end
      old l true t zero e = absurd (omega (arith, e, run.later))
      old l true t (suc m) e = from_run m e l (grind (arith, nat_tests, t))
      old l false t m e = from_start l (grind (arith, nat_tests, t))

      by : (t : Bool) → ltb end (length es) ≡ t → rank w < rank_at after.words end
      by true t =
          let l : end < length es = grind (arith, nat_tests, t) in
          omega (arith, old l (ltb 0 place) refl end refl, ap rank (after.grown.words end l))
      by false t =
          let f = after.fresh end (grind (arith, nat_tests, t)) h in
          let g = rank_grows 1 w in
          omega (arith, f, g)

  pub turn_done : IsTurned rs L es es' end
  turn_done = record {
    searched = record {
      words = after.words;
      reached = after.reached;
      below = done_below;
      near = λ h j l. omega (arith, after.room j l, after.near, end_above h);
    };
    stays = λ k l. ((omega (arith, l, after.grown.long)), ap (λ e. e.0) (after.grown.entries k l));
  }
