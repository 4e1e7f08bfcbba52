-- More regexes change nothing of what is known of those that were there.
use Rattle.std.proofs.Common.{ℕ, ◌<◌, Bool, List, length, sym, ap, subst, ◌∙◌}
use Rattle.sb_lang.specs.Regex.{Regex}
use Rattle.sb_lang.specs.Derivative.{nullable, nd, nd_along}
use Rattle.sb_lang.specs.Language.{language}
use Rattle.sb_lang.specs.Least.{IsShortestLeast}
use Rattle.sb_regex.specs.Numbered.{Names, Extends}
use Rattle.sb_regex.proofs.CallerLemmas.{at_kept, names_kept, names_below, number_kept}
use Rattle.sb_deriv.specs.Faithful.{Memo, IsFaithful}
use Rattle.sb_graph.specs.Findings.{Answers, AreBarren, AreAnswers, IsGraph}
use Rattle.sb_graph.specs.Search.{AreReached, IsDone, IsSearched}
use Rattle.sb_graph.specs.Queue.{Entry, regex_of, word_at}

module _ (old new : List Regex) (more : Extends old new) where
  pub barren_carried : (dead : List Bool) → AreBarren old dead → AreBarren new dead
  barren_carried dead h n m =
      let b = h n m in
      let e = at_kept old new n more b.known in
      record {
        known = number_kept old new n more b.known;
        empty_word = ap nullable e ∙ b.empty_word;
        closed = λ c l.
            let k = b.closed c l in
            record {
              number = k.number;
              names = subst (λ r. Names new k.number (nd r c)) (sym e) (names_kept old new k.number _ more k.names);
              marked = k.marked;
            };
      }

  pub answers_carried : (answers : Answers) → AreAnswers old answers → AreAnswers new answers
  answers_carried answers h n w m =
      let a = h n w m in
      record {
        known = number_kept old new n more a.known;
        least = subst (λ r. IsShortestLeast (language r) w) (sym (at_kept old new n more a.known)) a.least;
      }

  pub graph_carried : (memo : Memo) (dead : List Bool) (answers : Answers) (expanded : List ℕ) → IsFaithful new memo
      → AreBarren old dead → AreAnswers old answers
      → IsGraph new (record { memo = memo; dead = dead; answers = answers; expanded = expanded })
  graph_carried memo dead answers expanded f b a = record {
    faithful = f;
    barren = barren_carried dead b;
    answered = answers_carried answers a;
  }

  pub reached_carried : (root : ℕ) (es : List Entry) (ws : List (List ℕ)) → AreReached old root es ws
      → AreReached new root es ws
  reached_carried root es ws r =
      let known : root < length old =
      subst (λ n. n < length old) r.first (names_below old (regex_of es 0) _ (r.along 0 r.some)) in
      record {
        back = r.back;
        words_are = r.words_are;
        some = r.some;
        first = r.first;
        characters = r.characters;
        along = λ k l.
            subst (λ q. Names new (regex_of es k) (nd_along q (word_at ws k))) (sym (at_kept old new root more known))
            (names_kept old new (regex_of es k) _ more (r.along k l));
        ascending = r.ascending;
      }

  done_carried : (dead : List Bool) (es : List Entry) (ws : List (List ℕ)) (k : ℕ) → regex_of es k < length old
      → IsDone old dead es ws k → IsDone new dead es ws k
  done_carried dead es ws k l d =
      let e = at_kept old new (regex_of es k) more l in
      record {
        empty_word = ap nullable e ∙ d.empty_word;
        covered = λ c h.
            let v = d.covered c h in
            record {
              number = v.number;
              names = subst (λ r. Names new v.number (nd r c)) (sym e) (names_kept old new v.number _ more v.names);
              met = v.met;
            };
      }

  pub searched_carried : (root : ℕ) (dead : List Bool) (es : List Entry) (place : ℕ) → IsSearched old root dead es place
      → IsSearched new root dead es place
  searched_carried root dead es place s = record {
    words = s.words;
    reached = reached_carried root es s.words s.reached;
    below = λ k h l. done_carried dead es s.words k (names_below old (regex_of es k) _ (s.reached.along k l))
        (s.below k h l);
    near = s.near;
  }
