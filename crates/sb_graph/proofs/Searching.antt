-- The parts of a search, put together.
use Rattle.std.proofs.Common.{◌≡◌, ℕ, zero, suc, ◌+◌, ◌<◌, ◌≤◌, Bool, true, false, ltb, Result, Ok, Err, OnOk, List, length, get_or, map, refl, sym, ap, subst, ◌∙◌, arith}
use Rattle.std.proofs.Math.ListN.{get_or-map}
use Rattle.std.proofs.lemmas.Bool.Decides.{nat_tests}
use Rattle.std.proofs.lemmas.List.{length-map}
use Rattle.sb_word.specs.Words.{IsWord}
use Rattle.sb_lang.specs.Regex.{Regex}
use Rattle.sb_lang.specs.Derivative.{nullable}
use Rattle.sb_lang.specs.Language.{language}
use Rattle.sb_lang.specs.DerivativeLaws.{NullableHasEmptyWord, DerivativeAlongHasRests}
use Rattle.sb_regex.specs.Numbered.{regex_at, Extends}
use Rattle.sb_regex.proofs.CallerLemmas.{at_kept, names_below}
use Rattle.sb_deriv.specs.Faithful.{IsDerivative}
use Rattle.sb_graph.specs.Findings.{is_marked, AreBarren}
use Rattle.sb_graph.specs.Visiting.{visited}
use Rattle.sb_lang.specs.Least.{IsShortestLeast, HasNoWord}
use Rattle.sb_graph.specs.Search.{IsTaken, IsSearched, HasCome, IsUnderWay, IsFound, IsVisited, AreMarked}
use Rattle.sb_graph.proofs.Carrying.{searched_carried}
use Rattle.sb_graph.proofs.Ends.{found_is, marked_has_no_word, end_root, end_barren}
use Rattle.sb_graph.proofs.Turns.{searched_next, visited_keeps}
use Rattle.sb_graph.proofs.Steps.{regexes_below}
use Rattle.sb_graph.proofs.Expanding.{goes_on_same, taken_next, each_reached}
use Rattle.sb_graph.specs.Witness.{GoesOn, IsReachedBy}
use Rattle.sb_graph.specs.Queue.{Entry, regex_of, word_at, AreWords, AreTested, IsFirstNullable}

pub on_ok : {T E : Type 0} (P Q : Type 0) (r : Result T E) → OnOk r P → (P → Q) → OnOk r Q
on_ok P Q (Ok x) h f = f h
on_ok P Q (Err e) h f = tt

searched_step : (old new : List Regex) (root : ℕ) (dead dead' : List Bool) (es es' : List Entry) (place : ℕ)
    → Extends old new → IsSearched old root dead es place → place < length es
    → nullable (regex_at old (regex_of es place)) ≡ false
    → IsVisited new (regex_at old (regex_of es place)) dead place es es' → dead' ≡ dead
    → IsSearched new root dead' es' (place + 1)
searched_step old new root dead dead' es es' place more s within e v same =
    let r = regex_of es place in
    let kept = at_kept old new r more (names_below old r _ (s.reached.along place within)) in
    let d = subst (λ q. IsDerivative new q v.pieces) (sym kept) v.derivative in
    let next = searched_next new root dead es place (searched_carried old new more root dead es place s) within
    (ap nullable kept ∙ e) v.pieces d in
    let more_by_one : suc place ≡ place + 1 = omega arith in
    subst (λ dead. IsSearched new root dead es' (place + 1)) (sym same)
    (subst (λ es. IsSearched new root dead es (place + 1)) (sym v.is)
    (subst (λ p. IsSearched new root dead (visited dead place es v.pieces) p) more_by_one next))

number_at_place : (es : List Entry) (k : ℕ) → get_or (map (λ e. e.0) es) k 0 ≡ regex_of es k
number_at_place es k = get_or-map (λ e. e.0) es k (0, (0, 0))

-- the places up to the end of the queue are tested
all_tested : (rs : List Regex) (es : List Entry) (ns : List ℕ) (tested upto : ℕ) → ns ≡ map (λ e. e.0) es
    → ((k : ℕ) → k < tested → nullable (regex_at rs (regex_of es k)) ≡ false) → AreTested rs ns tested upto
    → (k : ℕ) → k < upto → nullable (regex_at rs (regex_of es k)) ≡ false
all_tested rs es ns tested upto is empty h k l = by (ltb k tested) refl
  where
    by : (t : Bool) → ltb k tested ≡ t → nullable (regex_at rs (regex_of es k)) ≡ false
    by true t = empty k (grind (arith, nat_tests, t))
    by false t =
        ap (λ n. nullable (regex_at rs n)) (sym (ap (λ ns. get_or ns k 0) is ∙ number_at_place es k))
        ∙ h k (grind (arith, nat_tests, t)) l

module _ (rs : List Regex) (root : ℕ) (dead : List Bool) (es : List Entry) (place tested : ℕ) (old new : List ℕ)
    (u : IsUnderWay rs root dead es place tested old new) (ns : List ℕ) (is : ns ≡ map (λ e. e.0) es) where
  pub under_way_known : (k : ℕ) → k < length ns → get_or ns k 0 < length rs
  under_way_known = regexes_below es ns (length rs) is
      (λ k h. names_below rs (regex_of es k) _ (u.searched.reached.along k h))

  pub under_way_found : (found : ℕ) → IsFirstNullable rs ns tested found → IsFound rs root dead es old new found
  under_way_found found f = record {
    done = place;
    searched = u.searched;
    taken = u.taken;
    after = omega (arith, u.ahead, f.after);
    within = omega (arith, f.within, ap length is ∙ length-map es (λ e. e.0));
    before = all_tested rs es ns tested found is u.empty_words f.before;
    empty_word = ap (λ n. nullable (regex_at rs n)) (sym (ap (λ ns. get_or ns found 0) is ∙ number_at_place es found))
        ∙ f.empty_word;
  }

  pub under_way_next : (later : List Regex) (dead' : List Bool) (es' : List Entry) (newest : List ℕ)
      → Extends rs later → place < length es → AreTested rs ns tested (length ns)
      → IsVisited later (regex_at rs (regex_of es place)) dead place es es' → dead' ≡ dead
      → GoesOn (λ n. n ≡ regex_of es place) new newest
      → IsUnderWay later root dead' es' (place + 1) (length es) old newest
  under_way_next later dead' es' newest more within h v same expands = record {
    searched = searched_step rs later root dead dead' es es' place more u.searched within (tests place within) v same;
    taken = taken_next es es' place old new newest within keeps u.taken expands;
    ahead = omega (arith, within);
    within = long (length es) refl;
    empty_words = λ k l.
        let known = names_below rs (regex_of es k) _ (u.searched.reached.along k l) in
        ap nullable (ap (regex_at later) (keeps k l).1 ∙ at_kept rs later (regex_of es k) more known) ∙ tests k l;
  }
    where
      tests : (k : ℕ) → k < length es → nullable (regex_at rs (regex_of es k)) ≡ false
      tests = all_tested rs es ns tested (length es) is u.empty_words
          (subst (AreTested rs ns tested) (ap length is ∙ length-map es (λ e. e.0)) h)

      keeps : (k : ℕ) → k < length es → (k < length es') × (regex_of es' k ≡ regex_of es k)
      keeps = subst (λ q. (k : ℕ) → k < length es → (k < length q) × (regex_of q k ≡ regex_of es k)) (sym v.is)
          (visited_keeps dead place v.pieces es)

      long : (n : ℕ) → n ≡ length es → length es ≤ length es'
      long zero e = omega (arith, e)
      long (suc n) e = let k = keeps n (omega (arith, e)) in omega (arith, e, k.0)

pub come_start : (rs : List Regex) (root : ℕ) (dead : List Bool) (es : List Entry) (place : ℕ) (old : List ℕ)
    → IsSearched rs root dead es place → place ≤ length es → HasCome rs root dead es place old old
come_start rs root dead es place old s within =
    record { searched = s; taken = goes_on_same (IsTaken es place) old old refl; within = within }

pub under_way_start : (rs : List Regex) (root : ℕ) (dead : List Bool) (es : List Entry) (place : ℕ) (old new : List ℕ)
    → HasCome rs root dead es place old new → IsUnderWay rs root dead es place place old new
under_way_start rs root dead es place old new h = record {
  searched = h.searched;
  taken = h.taken;
  ahead = omega arith;
  within = h.within;
  empty_words = λ k l. (h.searched.below k l (omega (arith, l, h.within))).empty_word;
}

pub under_way_come : (rs : List Regex) (root : ℕ) (dead : List Bool) (es : List Entry) (place tested : ℕ)
    (old new : List ℕ) → IsUnderWay rs root dead es place tested old new → HasCome rs root dead es place old new
under_way_come rs root dead es place tested old new u =
    record { searched = u.searched; taken = u.taken; within = omega (arith, u.ahead, u.within) }

pub root_known : (rs : List Regex) (root : ℕ) (dead : List Bool) (es : List Entry) (place : ℕ)
    → IsSearched rs root dead es place → root < length rs
root_known rs root dead es place s =
    subst (λ n. n < length rs) s.reached.first (names_below rs (regex_of es 0) _ (s.reached.along 0 s.reached.some))

-- what was expanded, words lead to
pub come_reached : (first rs : List Regex) → Extends first rs → (root : ℕ) → root < length first → (dead : List Bool)
    (es : List Entry) (place : ℕ) (old new : List ℕ) → HasCome rs root dead es place old new
    → GoesOn (IsReachedBy rs (regex_at first root) (λ v. Unit {0})) old new
come_reached first rs more root known dead es place old new h =
    each_reached first rs more root known dead es place h.searched place old new h.taken

-- a walk over members goes before
pub come_carried : (rs later : List Regex) → Extends rs later → (root : ℕ) (dead dead' : List Bool) (es : List Entry)
    (place : ℕ) (old new new' : List ℕ) → dead' ≡ dead → new' ≡ new → HasCome rs root dead es place old new
    → HasCome later root dead' es place old new'
come_carried rs later more root dead dead' es place old new new' d e h =
    subst (λ dead. HasCome later root dead es place old new') (sym d)
    (subst (HasCome later root dead es place old) (sym e) (record {
      searched = searched_carried rs later more root dead es place h.searched;
      taken = h.taken;
      within = h.within;
    }))

pub under_way_end : (rs : List Regex) (root : ℕ) (dead : List Bool) (es : List Entry) (place tested : ℕ)
    (old new : List ℕ) → IsUnderWay rs root dead es place tested old new → length es ≤ place
    → IsSearched rs root dead es (length es)
under_way_end rs root dead es place tested old new u l =
    let e : place ≡ length es = omega (arith, l, u.ahead, u.within) in
    subst (IsSearched rs root dead es) e u.searched

module _ (empty : NullableHasEmptyWord) (along : DerivativeAlongHasRests) (old new : List Regex)
    (more : Extends old new) (root k : ℕ) (known : k < length old) (is : root ≡ k) (dead : List Bool) (es : List Entry)
    (barren : AreBarren new dead) where
  same : regex_at new root ≡ regex_at old k
  same = ap (regex_at new) is ∙ at_kept old new k more known

  pub found_answer : (from upto : List ℕ) (place : ℕ) → IsFound new root dead es from upto place → (w : List ℕ) →
      IsWord w
      → ((ws : List (List ℕ)) → AreWords es ws → w ≡ word_at ws place) → IsShortestLeast (language (regex_at old k)) w
  found_answer from upto place f w word h =
      subst (λ r. IsShortestLeast (language r) w) same
      (found_is empty along new root dead es from upto place barren f w word h)

  module _ (after : List Bool) (s : IsSearched new root dead es (length es)) (marked : AreMarked dead es after) where
    pub dead_barren : AreBarren new after
    dead_barren = end_barren new root dead after es barren s marked

    pub dead_root : is_marked after k ≡ true
    dead_root = subst (λ n. is_marked after n ≡ true) is (end_root new root dead after es barren s marked)

    pub dead_answer : HasNoWord (language (regex_at old k))
    dead_answer = subst (λ r. HasNoWord (language r)) (at_kept old new k more known)
        (marked_has_no_word empty along new after k dead_barren dead_root)
