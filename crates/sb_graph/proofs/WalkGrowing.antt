-- A queue that grows at its end keeps what is known of its places.
use Rattle.std.proofs.Common.{◌≡◌, ℕ, ◌+◌, ◌*◌, ◌<◌, ◌≤◌, List, [], ◌∷◌, ◌++◌, length, refl, sym, ap, subst, ◌∙◌, arith}
use Rattle.std.proofs.lemmas.List.{get_or_append_left, length_push}
use Rattle.sb_lang.specs.Regex.{Regex}
use Rattle.sb_lang.specs.Language.{language}
use Rattle.sb_regex.specs.Numbered.{regex_at}
use Rattle.sb_graph.specs.Queue.{Entry, entry_at, word_at, rank}
use Rattle.sb_graph.specs.Walks.{IsMet, IsDone}

pub record IsGrown (es : List Entry) (ws : List (List ℕ)) (es' : List Entry) (ws' : List (List ℕ)) : Type 0 where
  pub long : length es ≤ length es'
  pub entries : (k : ℕ) → k < length es → entry_at es' k ≡ entry_at es k
  pub words : (k : ℕ) → k < length es → word_at ws' k ≡ word_at ws k

pub grown_same : (es : List Entry) (ws : List (List ℕ)) → IsGrown es ws es ws
grown_same es ws = record { long = omega arith; entries = λ k h. refl; words = λ k h. refl }

pub grown_more : (es : List Entry) (ws : List (List ℕ)) (es' : List Entry) (ws' : List (List ℕ)) (es'' : List Entry)
    (ws'' : List (List ℕ)) →
    IsGrown es ws es' ws' → IsGrown es' ws' es'' ws'' → IsGrown es ws es'' ws''
grown_more es ws es' ws' es'' ws'' g h = record {
  long = omega (arith, g.long, h.long);
  entries = λ k l. h.entries k (omega (arith, g.long, l)) ∙ g.entries k l;
  words = λ k l. h.words k (omega (arith, g.long, l)) ∙ g.words k l;
}

pub grown_push : (es : List Entry) (ws : List (List ℕ)) (e : Entry) (w : List ℕ) → length ws ≡ length es
    → IsGrown es ws (es ++ e ∷ []) (ws ++ w ∷ [])
grown_push es ws e w l = record {
  long = omega (arith, length_push es e);
  entries = λ k h. get_or_append_left es (e ∷ []) (0, (0, 0)) k h;
  words = λ k h. get_or_append_left ws (w ∷ []) [] k (omega (arith, h, l));
}

pub met_later : (rs : List Regex) (es : List Entry) (ws : List (List ℕ)) (u : List ℕ) (most later : ℕ) → most ≤ later
    → IsMet rs es ws u most → IsMet rs es ws u later
met_later rs es ws u most later h m =
    record { place = m.place; within = m.within; soon = omega (arith, h, m.soon); has = m.has }

pub met_grown : (rs : List Regex) (es : List Entry) (ws : List (List ℕ)) (es' : List Entry) (ws' : List (List ℕ))
    (u : List ℕ) (most : ℕ) →
    IsGrown es ws es' ws' → IsMet rs es ws u most → IsMet rs es' ws' u most
met_grown rs es ws es' ws' u most g m = record {
  place = m.place;
  within = omega (arith, g.long, m.within);
  soon = subst (λ w. rank w ≤ most) (sym (g.words m.place m.within)) m.soon;
  has = ap (λ e. language (regex_at rs e.0) u) (g.entries m.place m.within) ∙ m.has;
}

pub done_grown : (rs : List Regex) (es : List Entry) (ws : List (List ℕ)) (es' : List Entry) (ws' : List (List ℕ))
    (k : ℕ) →
    IsGrown es ws es' ws' → k < length es → IsDone rs es ws k → IsDone rs es' ws' k
done_grown rs es ws es' ws' k g l d c h u m =
    let here = sym (ap (λ e. language (regex_at rs e.0) (c ∷ u)) (g.entries k l)) ∙ m in
    subst (λ w. IsMet rs es' ws' u (rank w * 0x30000 + c)) (sym (g.words k l))
    (met_grown rs es ws es' ws' u _ g (d c h u here))
