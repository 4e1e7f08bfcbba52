-- More regexes change nothing of what is known of those that were there.
use Rattle.std.proofs.Common.{◌≡◌, ℕ, ◌<◌, List, ◌∷◌, length, sym, ap, ◌∙◌}
use Rattle.sb_lang.specs.Regex.{Regex}
use Rattle.sb_lang.specs.Derivative.{nullable}
use Rattle.sb_lang.specs.Language.{language}
use Rattle.sb_lang.specs.Languages.{Language}
use Rattle.sb_regex.specs.Numbered.{regex_at, Extends}
use Rattle.sb_regex.proofs.CallerLemmas.{at_kept, number_kept}
use Rattle.sb_graph.specs.Queue.{Entry, regex_of}
use Rattle.sb_graph.specs.Walks.{AreReached, IsDone, IsSearched}

module _ (old new : List Regex) (more : Extends old new) where
  language_kept : (n : ℕ) → n < length old → (u : List ℕ) → language (regex_at new n) u ≡ language (regex_at old n) u
  language_kept n l u = ap (λ r. language r u) (at_kept old new n more l)

  pub nullable_kept : (n : ℕ) → n < length old → nullable (regex_at new n) ≡ nullable (regex_at old n)
  nullable_kept n l = ap nullable (at_kept old new n more l)

  reached_carried : (L : Language) (es : List Entry) (ws : List (List ℕ)) → AreReached old L es ws
      → AreReached new L es ws
  reached_carried L es ws r = record {
    back = r.back;
    words_are = r.words_are;
    some = r.some;
    starts = λ u h. language_kept (regex_of es 0) (r.known 0 r.some) u ∙ r.starts u h;
    characters = r.characters;
    known = λ k l. number_kept old new (regex_of es k) more (r.known k l);
    rests = λ k l u h. r.rests k l u (sym (language_kept (regex_of es k) (r.known k l) u) ∙ h);
    once = r.once;
    ascending = r.ascending;
    apart = r.apart;
  }

  done_carried : (L : Language) (es : List Entry) (ws : List (List ℕ)) → AreReached old L es ws → (k : ℕ)
      → k < length es → IsDone old es ws k → IsDone new es ws k
  done_carried L es ws r k l d c h u m =
      let v = d c h u (sym (language_kept (regex_of es k) (r.known k l) (c ∷ u)) ∙ m) in
      record {
        place = v.place;
        within = v.within;
        soon = v.soon;
        has = language_kept (regex_of es v.place) (r.known v.place v.within) u ∙ v.has;
      }

  pub searched_carried : (L : Language) (es : List Entry) (place : ℕ) → IsSearched old L es place
      → IsSearched new L es place
  searched_carried L es place s = record {
    words = s.words;
    reached = reached_carried L es s.words s.reached;
    below = λ k h l. done_carried L es s.words s.reached k l (s.below k h l);
    near = s.near;
  }
