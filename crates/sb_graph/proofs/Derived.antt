-- The pieces of derivatives as edges.
use Rattle.std.proofs.Common.{◌≡◌, ℕ, zero, suc, inl, inr, ◌<◌, ◌≤◌, Bool, true, false, cond, ◌==◌, nat_le, List, [], ◌∷◌, length, get_or, ◌⊎◌, refl, sym, ap, subst, ◌∙◌, arith}
use Rattle.std.specs.List.{Contains}
use Rattle.std.specs.List.Sorted.{IsSorted}
use Rattle.std.specs.Ordering.{nat_cmp, ordering_then, is_lt}
use Rattle.std.proofs.lemmas.Bool.{and_parts, false≢true, leb-true, le-leb, lt-ltb, cases_order}
use Rattle.std.proofs.lemmas.Bool.Decides.{nat_tests}
use Rattle.sb_word.specs.Words.{is_character}
use Rattle.sb_lang.specs.Regex.{Regex}
use Rattle.sb_lang.specs.Derivative.{nd}
use Rattle.sb_regex.specs.Numbered.{regex_at}
use Rattle.sb_deriv.specs.Pieces.{value_from, value_at, rises, covers}
use Rattle.sb_deriv.specs.Faithful.{IsDerivative}
use Rattle.sb_deriv.proofs.CallerLemmas.{above_stays, covers_rises, rises_le, rises_head, rises_rest, value_after}
use Rattle.sb_graph.specs.Edges.{AreRising}
use Rattle.sb_members.proofs.CallerLemmas.{Each, all_each}

-- One derivative.

is_character_of : (c : ℕ) → c < 0x30000 → is_character c ≡ true
is_character_of c h = le-leb c 0x2ffff (omega (arith, h))

-- the edge leads to the derivative by its character
pub record IsPieceOf (rs : List Regex) (q : Regex) (e : ℕ × ℕ) : Type 0 where
  pub character : is_character e.0 ≡ true
  pub is : regex_at rs e.1 ≡ nd q e.0

pieces_right : (rs : List Regex) (q : Regex) (ps : List (ℕ × ℕ)) (n d : ℕ) → rises n ps 0x30000 ≡ true
    → ((c : ℕ) → is_character c ≡ true → n ≤ c → regex_at rs (value_from d ps c) ≡ nd q c)
    → Each (IsPieceOf rs q) ps
pieces_right rs q [] n d r v = tt
pieces_right rs q (p ∷ ps) n d r v =
    let rest = rises_rest n p ps 0x30000 r in
    let first : n ≤ p.0 = rises_head n (p ∷ ps) 0x30000 r in
    let char = is_character_of p.0 (omega (arith, rises_le (suc p.0) ps 0x30000 rest)) in
    let here = value_after d p ps p.0 (omega arith) ∙ above_stays p.1 (suc p.0) ps 0x30000 p.0 rest (omega arith) in (
      record { character = char; is = ap (regex_at rs) (sym here) ∙ v p.0 char first },
      pieces_right rs q ps (suc p.0) p.1 rest
          (λ c h m. ap (regex_at rs) (sym (value_after d p ps c (omega (arith, m)))) ∙ v c h (omega (arith, first, m))),
    )

pub derivative_pieces : (rs : List Regex) (q : Regex) (ps : List (ℕ × ℕ)) → IsDerivative rs q ps
    → Each (IsPieceOf rs q) ps
derivative_pieces rs q ps d =
    pieces_right rs q ps 0 0 (covers_rises ps 0x30000 d.ordered.whole) (λ c h m. d.values c h)

-- a piece of the list begins at or below the character, and leads to the number
pub record HasPiece (ps : List (ℕ × ℕ)) (c t : ℕ) : Type 0 where
  pub piece : ℕ × ℕ
  pub among : Contains ps piece
  pub soon : piece.0 ≤ c
  pub is : piece.1 ≡ t

value_has : (Q : ℕ → Type 0) (c d : ℕ) (ps : List (ℕ × ℕ)) → Each (λ p. p.0 ≤ c → Q p.1) ps → Q d
    → Q (value_from d ps c)
unfolding value_from
value_has Q c d [] e q = q
value_has Q c d (p ∷ ps) e q = value_has Q c (cond (nat_le p.0 c) p.1 d) ps e.1 (by (nat_le p.0 c) refl)
  where
    by : (b : Bool) → nat_le p.0 c ≡ b → Q (cond b p.1 d)
    by true t = e.0 (leb-true p.0 c t)
    by false t = q

not_covers : covers {A = ℕ} [] 0x30000 ≡ true → ⊥
unfolding covers
not_covers h = false≢true h

first_at_0 : (p : ℕ × ℕ) (ps : List (ℕ × ℕ)) → covers (p ∷ ps) 0x30000 ≡ true → p.0 ≡ 0
unfolding covers
first_at_0 p ps h = let q = and_parts (p.0 == 0) _ h in grind (arith, nat_tests, q.0)

each_found : (c : ℕ) (ps : List (ℕ × ℕ)) → Each (λ p. p.0 ≤ c → HasPiece ps c p.1) ps
each_found c ps = all_each (λ p. p.0 ≤ c → HasPiece ps c p.1) ps
    (λ k d l h. record { piece = get_or ps k d; among = (k, l, again ps k d l); soon = h; is = refl })
  where
    again : (ps : List (ℕ × ℕ)) (k : ℕ) (d : ℕ × ℕ) → k < length ps → get_or ps k (get_or ps k d) ≡ get_or ps k d
    again [] k d l = absurd (omega (arith, l))
    again (p ∷ ps) zero d l = refl
    again (p ∷ ps) (suc k) d l = again ps k d (omega (arith, l))

pub value_found : (c : ℕ) (ps : List (ℕ × ℕ)) → covers ps 0x30000 ≡ true → HasPiece ps c (value_at ps c)
value_found c [] h = absurd (not_covers h)
value_found c (p ∷ ps) h =
    let l : p.0 ≤ c = omega (arith, first_at_0 p ps h) in
    let e = each_found c (p ∷ ps) in
    subst (HasPiece (p ∷ ps) c) (sym (value_after 0 p ps c l))
    (value_has (HasPiece (p ∷ ps) c) c p.1 ps e.1 (e.0 l))

-- Edges in order.

not_less : (x y : ℕ × ℕ) → is_lt (ordering_then (nat_cmp x.0 y.0) (nat_cmp x.1 y.1)) ≡ false → y.0 ≤ x.0
not_less x y h = by (cases_order x.0 y.0)
  where
    by : (x.0 ≡ y.0) ⊎ ((x.0 < y.0) ⊎ (y.0 < x.0)) → y.0 ≤ x.0
    by (inl same) = omega (arith, same)
    by (inr (inl below)) = absurd (false≢true (sym h ∙ rw (lt-ltb x.0 y.0 below) refl))
    by (inr (inr above)) = omega (arith, above)

abbrev IsAscending : List (ℕ × ℕ) → Type 0
IsAscending edges = (k : ℕ) (d : ℕ × ℕ) → suc k < length edges → (get_or edges k d).0 ≤ (get_or edges (suc k) d).0

rising : (edges : List (ℕ × ℕ)) (n : ℕ) → IsAscending edges → Each (λ e. n ≤ e.0) edges → AreRising n edges
rising [] n a h = tt
rising (e ∷ []) n a h = (h.0, tt)
rising (e ∷ f ∷ edges) n a h =
    let first : e.0 ≤ f.0 = a 0 e (omega arith) in
    let tail : IsAscending (f ∷ edges) = λ k d l. a (suc k) d (omega (arith, l)) in
    (h.0, rising (f ∷ edges) e.0 tail (above f edges e.0 first tail))
  where
    above : (f : ℕ × ℕ) (edges : List (ℕ × ℕ)) (m : ℕ) → m ≤ f.0 → IsAscending (f ∷ edges)
        → Each (λ e. m ≤ e.0) (f ∷ edges)
    above f [] m l a = (l, tt)
    above f (g ∷ edges) m l a =
        let next : f.0 ≤ g.0 = a 0 f (omega arith) in
        (l, above g edges m (omega (arith, l, next)) (λ k d l. a (suc k) d (omega (arith, l))))

pub edges_rising : (edges : List (ℕ × ℕ))
    → IsSorted (λ x y. ordering_then (nat_cmp x.0 y.0) (nat_cmp x.1 y.1)) edges → AreRising 0 edges
edges_rising edges ordered =
    rising edges 0
    (λ k d l. not_less (get_or edges (suc k) d) (get_or edges k d)
    (subst (λ m. is_lt (ordering_then (nat_cmp (get_or edges m d).0 (get_or edges k d).0)
    (nat_cmp (get_or edges m d).1 (get_or edges k d).1)) ≡ false) (omega arith)
    (ordered k d (omega arith) (omega (arith, l)))))
    (all_each (λ e. 0 ≤ e.0) edges (λ k d l. omega arith))
