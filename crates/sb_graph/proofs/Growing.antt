-- A queue that grows at its end keeps what is known of its places.
use Rattle.std.proofs.Common.{◌≡◌, ℕ, ◌+◌, ◌*◌, ◌<◌, ◌≤◌, inl, inr, Bool, List, [], ◌∷◌, ◌++◌, length, refl, sym, ap, subst, ◌∙◌, arith}
use Rattle.std.proofs.lemmas.List.{get_or_append_left, length_push}
use Rattle.sb_lang.specs.Regex.{Regex}
use Rattle.sb_lang.specs.Derivative.{nullable, nd}
use Rattle.sb_regex.specs.Numbered.{regex_at}
use Rattle.sb_graph.specs.Search.{IsMetBy, IsCovered, IsDone}
use Rattle.sb_graph.specs.Queue.{Entry, entry_at, regex_of, word_at, rank}

pub record IsGrown (es : List Entry) (ws : List (List ℕ)) (es' : List Entry) (ws' : List (List ℕ)) : Type 0 where
  pub long : length es ≤ length es'
  pub entries : (k : ℕ) → k < length es → entry_at es' k ≡ entry_at es k
  pub words : (k : ℕ) → k < length es → word_at ws' k ≡ word_at ws k

pub grown_same : (es : List Entry) (ws : List (List ℕ)) → IsGrown es ws es ws
grown_same es ws = record { long = omega arith; entries = λ k h. refl; words = λ k h. refl }

pub grown_more : (es : List Entry) (ws : List (List ℕ)) (es' : List Entry) (ws' : List (List ℕ)) (es'' : List Entry)
    (ws'' : List (List ℕ)) →
    IsGrown es ws es' ws' → IsGrown es' ws' es'' ws'' → IsGrown es ws es'' ws''
grown_more es ws es' ws' es'' ws'' g h = record {
  long = omega (arith, g.long, h.long);
  entries = λ k l. h.entries k (omega (arith, g.long, l)) ∙ g.entries k l;
  words = λ k l. h.words k (omega (arith, g.long, l)) ∙ g.words k l;
}

pub grown_push : (es : List Entry) (ws : List (List ℕ)) (e : Entry) (w : List ℕ) → length ws ≡ length es
    → IsGrown es ws (es ++ e ∷ []) (ws ++ w ∷ [])
grown_push es ws e w l = record {
  long = omega (arith, length_push es e);
  entries = λ k h. get_or_append_left es (e ∷ []) (0, (0, 0)) k h;
  words = λ k h. get_or_append_left ws (w ∷ []) [] k (omega (arith, h, l));
}

pub met_later : (dead : List Bool) (es : List Entry) (ws : List (List ℕ)) (n most later : ℕ) → most ≤ later
    → IsMetBy dead es ws n most → IsMetBy dead es ws n later
met_later dead es ws n most later h (inl m) = inl m
met_later dead es ws n most later h (inr s) =
    inr (record { place = s.place; within = s.within; is = s.is; soon = omega (arith, h, s.soon) })

pub met_grown : (dead : List Bool) (es : List Entry) (ws : List (List ℕ)) (es' : List Entry) (ws' : List (List ℕ))
    (n most : ℕ) →
    IsGrown es ws es' ws' → IsMetBy dead es ws n most → IsMetBy dead es' ws' n most
met_grown dead es ws es' ws' n most g (inl m) = inl m
met_grown dead es ws es' ws' n most g (inr s) = inr (record {
  place = s.place;
  within = omega (arith, g.long, s.within);
  is = ap (λ e. e.0) (g.entries s.place s.within) ∙ s.is;
  soon = subst (λ w. rank w ≤ most) (sym (g.words s.place s.within)) s.soon;
})

pub covered_later : (rs : List Regex) (dead : List Bool) (es : List Entry) (ws : List (List ℕ)) (r : Regex)
    (most later : ℕ) → most ≤ later → IsCovered rs dead es ws r most → IsCovered rs dead es ws r later
covered_later rs dead es ws r most later h c =
    record { number = c.number; names = c.names; met = met_later dead es ws c.number most later h c.met }

covered_grown : (rs : List Regex) (dead : List Bool) (es : List Entry) (ws : List (List ℕ)) (es' : List Entry)
    (ws' : List (List ℕ)) (r : Regex) (most : ℕ) →
    IsGrown es ws es' ws' → IsCovered rs dead es ws r most → IsCovered rs dead es' ws' r most
covered_grown rs dead es ws es' ws' r most g c =
    record { number = c.number; names = c.names; met = met_grown dead es ws es' ws' c.number most g c.met }

pub done_grown : (rs : List Regex) (dead : List Bool) (es : List Entry) (ws : List (List ℕ)) (es' : List Entry)
    (ws' : List (List ℕ)) (k : ℕ) →
    IsGrown es ws es' ws' → k < length es → IsDone rs dead es ws k → IsDone rs dead es' ws' k
done_grown rs dead es ws es' ws' k g l d =
    let e = sym (ap (λ e. e.0) (g.entries k l)) in
    let w = sym (g.words k l) in
    record {
      empty_word = ap (λ n. nullable (regex_at rs n)) (sym e) ∙ d.empty_word;
      covered = λ c h.
          subst (λ v. IsCovered rs dead es' ws' (nd (regex_at rs (regex_of es' k)) c) (rank v * 0x30000 + c)) w
          (subst (λ n. IsCovered rs dead es' ws' (nd (regex_at rs n) c) (rank (word_at ws k) * 0x30000 + c)) e
          (covered_grown rs dead es ws es' ws' _ _ g (d.covered c h)));
    }
