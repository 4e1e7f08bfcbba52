-- The edges from starts: from the head of each, with what stands behind it.
use Rattle.std.proofs.Common.{◌≡◌, ℕ, suc, ◌+◌, ◌<◌, ◌≤◌, Bool, true, false, ◌||◌, nat_eq, Some, List, [], ◌∷◌, ◌++◌, length, get_or, refl, sym, ap, ap₂, subst, ◌∙◌, arith, append_assoc}
use Rattle.std.specs.List.{All, Contains, list_any}
use Rattle.std.specs.List.Sorted.{IsPermutation}
use Rattle.std.proofs.lemmas.Bool.{and_parts, false≢true}
use Rattle.std.proofs.lemmas.Bool.Decides.{nat_tests}
use Rattle.std.proofs.lemmas.List.{append-nil, length-map}
use Rattle.std.proofs.Math.ListN.{get_or-map}
use Rattle.std.proofs.lemmas.List.Elements.{All-append, All-nil, All-cons, All-weaker, All-contains, Contains-get_or}
use Rattle.std.proofs.lemmas.List.Sorted.{All-permutation, Contains-permutation}
use Rattle.std.proofs.lemmas.List.{get_or_default}
use Rattle.sb_word.specs.Words.{is_character}
use Rattle.sb_lang.specs.Regex.{Regex, Regexes, none, eps, set, cat, alt, and, neg, star, rep, path, no_more, more}
use Rattle.sb_lang.specs.Constructors.{mkcat}
use Rattle.sb_lang.specs.ConstructorLaws.{MkaltKeepsLanguage}
use Rattle.sb_lang.specs.Derivative.{nullable, nd}
use Rattle.sb_lang.specs.DerivativeLaws.{DerivativeHasRests}
use Rattle.sb_lang.specs.Language.{language, some_language}
use Rattle.sb_regex.specs.Numbered.{regex_at, AllNumbers, Extends, Names}
use Rattle.sb_regex.proofs.CallerLemmas.{extends_more, at_kept, names_at, names_below, number_kept}
use Rattle.sb_deriv.specs.Faithful.{Memo, entry_of, IsFaithful, IsDerivative}
use Rattle.sb_deriv.specs.Pieces.{targets_of}
use Rattle.sb_members.specs.Members.{in_some}
use Rattle.sb_members.specs.Starts.{HasNumber, EachHasNumber, IsPassed, AreStarts, front, IsFront}
use Rattle.sb_graph.specs.Edges.{HasEdge, IsEdgeFrom, AreEdges, IsBehind, IsPushed, ArePushed, AreFrom, AreGathered}
use Rattle.sb_members.proofs.CallerLemmas.{each_in, contains_left, contains_right, some_kept, cat_rests, front_kept}
use Rattle.sb_graph.proofs.Derived.{IsPieceOf, derivative_pieces, value_found}

or_true : (a : Bool) {b : Bool} → b ≡ true → (a || b) ≡ true
or_true true h = refl
or_true false h = h

either : (a b : Bool) → (a || b) ≡ true → (P : Type 0) → (a ≡ true → P) → (b ≡ true → P) → P
either true b h P f g = f refl
either false b h P f g = g h

-- a state of the list has the word
pub record HasState (rs : List Regex) (ns : List ℕ) (u : List ℕ) : Type 0 where
  pub place : ℕ
  pub within : place < length ns
  pub has : language (regex_at rs (get_or ns place 0)) u ≡ true

pub some_at : (rs : List Regex) (ns : List ℕ) (u : List ℕ) → list_any (λ n. language (regex_at rs n) u) ns ≡ true
    → HasState rs ns u
some_at rs [] u h = absurd (false≢true h)
some_at rs (n ∷ ns) u h = either (language (regex_at rs n) u) _ h (HasState rs (n ∷ ns) u)
    (λ k. record { place = 0; within = omega arith; has = k })
    (λ k. let s = some_at rs ns u k in
    record { place = suc s.place; within = omega (arith, s.within); has = s.has })

-- Edges among others, and in an arena that grows.

edge_left : (rs : List Regex) (xs ys : List (ℕ × ℕ)) (c : ℕ) (u : List ℕ) → HasEdge rs xs c u
    → HasEdge rs (xs ++ ys) c u
edge_left rs xs ys c u h = record {
  edge = h.edge;
  among = contains_left xs ys h.edge h.among;
  known = h.known;
  soon = h.soon;
  has = h.has;
}

edge_right : (rs : List Regex) (xs ys : List (ℕ × ℕ)) (c : ℕ) (u : List ℕ) → HasEdge rs ys c u
    → HasEdge rs (xs ++ ys) c u
edge_right rs xs ys c u h = record {
  edge = h.edge;
  among = contains_right xs ys h.edge h.among;
  known = h.known;
  soon = h.soon;
  has = h.has;
}

edge_later : (rs : List Regex) (xs : List (ℕ × ℕ)) (c d : ℕ) (u : List ℕ) → c ≤ d → HasEdge rs xs c u
    → HasEdge rs xs d u
edge_later rs xs c d u l h = record {
  edge = h.edge;
  among = h.among;
  known = h.known;
  soon = omega (arith, l, h.soon);
  has = h.has;
}

edge_kept : (old new : List Regex) → Extends old new → (xs : List (ℕ × ℕ)) (c : ℕ) (u : List ℕ)
    → HasEdge old xs c u → HasEdge new xs c u
edge_kept old new ext xs c u h = record {
  edge = h.edge;
  among = h.among;
  known = number_kept old new h.edge.1 ext h.known;
  soon = h.soon;
  has = ap (λ r. language r u) (at_kept old new h.edge.1 ext h.known) ∙ h.has;
}

-- One piece.

pub pushed_none : (rs : List Regex) (c n : ℕ) (r : Regex) (es : List (ℕ × ℕ)) → Names rs n r → regex_at rs n ≡ none
    → IsPushed rs c r es es
unfolding language
pushed_none rs c n r es names e = record {
  more = [];
  is = sym (append-nil es);
  each = All-nil (λ e. (e.0 ≡ c) × (e.1 < length rs) × (regex_at rs e.1 ≡ r));
  has = λ u h. absurd (false≢true (ap (λ r. language r u) (sym e ∙ names_at rs n r names) ∙ h));
}

pub pushed_one : (rs : List Regex) (c n : ℕ) (r : Regex) (old new : List (ℕ × ℕ)) → Names rs n r
    → new ≡ old ++ (c, n) ∷ [] → IsPushed rs c r old new
pushed_one rs c n r old new names e =
    let is = names_at rs n r names in
    let l = names_below rs n r names in
    record {
      more = (c, n) ∷ [];
      is = e;
      each = All-cons (λ e. (e.0 ≡ c) × (e.1 < length rs) × (regex_at rs e.1 ≡ r)) (c, n) [] (refl, l, is)
          (All-nil (λ e. (e.0 ≡ c) × (e.1 < length rs) × (regex_at rs e.1 ≡ r)));
      has = λ u h. record {
        edge = (c, n);
        among = (0, (omega arith), refl);
        known = l;
        soon = omega arith;
        has = ap (λ r. language r u) is ∙ h;
      };
    }

-- The pieces of a derivative.

pub pushing_start : (rs : List Regex) (pieces : List (ℕ × ℕ)) (t : ℕ) (es : List (ℕ × ℕ))
    → ArePushed rs pieces t 0 es es
pushing_start rs pieces t es = record {
  more = [];
  is = sym (append-nil es);
  each = All-nil (IsBehind rs pieces t);
  has = λ k d h. absurd (omega (arith, h));
}

pub pushing_done : (rs : List Regex) (pieces : List (ℕ × ℕ)) (t : ℕ) (old new : List (ℕ × ℕ)) (i : ℕ)
    → length pieces ≤ i → ArePushed rs pieces t i old new → ArePushed rs pieces t (length pieces) old new
pushing_done rs pieces t old new i l p = record {
  more = p.more;
  is = p.is;
  each = p.each;
  has = λ k d h m u x. p.has k d (omega (arith, l, m)) m u x;
}

-- the targets of pieces are numbers
pub pieces_known : (start old : List Regex) → Extends start old → (pieces : List (ℕ × ℕ))
    → AllNumbers start (targets_of pieces) → All (λ p. p.1 < length old) pieces
pieces_known start old ext pieces h k d l =
    number_kept start old (get_or pieces k d).1 ext
    (subst (λ n. n < length start) (get_or-map (λ p. p.1) pieces k d)
    (h k d.1 (omega (arith, l, length-map pieces (λ p. p.1)))))

module _ (old new : List Regex) (ext : Extends old new) (pieces : List (ℕ × ℕ)) (t : ℕ)
    (known : All (λ p. p.1 < length old) pieces) (l : t < length old) where
  behind_kept : (e : ℕ × ℕ) → IsBehind old pieces t e → IsBehind new pieces t e
  behind_kept e b = record {
    piece = b.piece;
    among = b.among;
    same = b.same;
    known = number_kept old new e.1 ext b.known;
    is = at_kept old new e.1 ext b.known ∙ b.is
        ∙ sym (ap₂ mkcat (at_kept old new b.piece.1 ext (All-contains (λ p. p.1 < length old) pieces b.piece known
        b.among)) (at_kept old new t ext l));
  }

  made_kept : (p : ℕ × ℕ) → Contains pieces p
      → mkcat (regex_at new p.1) (regex_at new t) ≡ mkcat (regex_at old p.1) (regex_at old t)
  made_kept p c = ap₂ mkcat (at_kept old new p.1 ext (All-contains (λ p. p.1 < length old) pieces p known c))
      (at_kept old new t ext l)

  pub pushing_next : (from es es' : List (ℕ × ℕ)) (i : ℕ) (p : ℕ × ℕ) → i < length pieces → p ≡ get_or pieces i p
      → IsPushed new p.0 (mkcat (regex_at old p.1) (regex_at old t)) es es'
      → ArePushed old pieces t i from es → ArePushed new pieces t (i + 1) from es'
  pushing_next from es es' i p w is one all = record {
    more = all.more ++ one.more;
    is = one.is ∙ ap (λ xs. xs ++ one.more) all.is ∙ append_assoc from all.more one.more;
    each = All-append (IsBehind new pieces t) all.more one.more
        (All-weaker (IsBehind old pieces t) (IsBehind new pieces t) behind_kept all.more all.each)
        (All-weaker _ (IsBehind new pieces t) made one.more one.each);
    has = λ k d h m u x. by k d h m u x (nat_eq k i) refl;
  }
    where
      among : Contains pieces p
      among = (i, w, sym is)

      made : (e : ℕ × ℕ) → (e.0 ≡ p.0) × (e.1 < length new)
          × (regex_at new e.1 ≡ mkcat (regex_at old p.1) (regex_at old t)) → IsBehind new pieces t e
      made e m = record {
        piece = p;
        among = among;
        same = m.0;
        known = m.1;
        is = m.2 ∙ sym (made_kept p among);
      }

      by : (k : ℕ) (d : ℕ × ℕ) → k < i + 1 → k < length pieces → (u : List ℕ)
          → language (mkcat (regex_at new (get_or pieces k d).1) (regex_at new t)) u ≡ true → (b : Bool)
          → nat_eq k i ≡ b → HasEdge new (all.more ++ one.more) (get_or pieces k d).0 u
      by k d h m u x true e =
          let same : i ≡ k = grind (arith, nat_tests, e) in
          let at : p ≡ get_or pieces k d =
          is ∙ item_same i p d w ∙ ap (λ k. get_or pieces k d) same in
          subst (λ p. HasEdge new (all.more ++ one.more) p.0 u) at
          (edge_right new all.more one.more p.0 u (one.has u (ap (λ r. language r u) (sym (made_kept p among))
          ∙ ap (λ p. language (mkcat (regex_at new p.1) (regex_at new t)) u) at ∙ x)))
        where
          item_same : (i : ℕ) (d d' : ℕ × ℕ) → i < length pieces → get_or pieces i d ≡ get_or pieces i d'
          item_same i d d' l = get_or_default pieces i d d' l
      by k d h m u x false e =
          let before : k < i = grind (arith, nat_tests, e, h) in
          edge_left new all.more one.more _ u (edge_kept old new ext all.more _ u (all.has k d before m u
          (ap (λ r. language r u) (sym (made_kept (get_or pieces k d) (Contains-get_or pieces k d m))) ∙ x)))

-- the edges of all pieces of the head's derivative
pub from_pieces : (rs : List Regex) (n h t : ℕ) (pieces old new : List (ℕ × ℕ)) → IsFront rs n h t
    → IsDerivative rs (regex_at rs h) pieces → ArePushed rs pieces t (length pieces) old new → AreFrom rs n old new
from_pieces rs n h t pieces old new f d p = record {
  more = p.more;
  is = p.is;
  each = All-weaker (IsBehind rs pieces t) (IsEdgeFrom rs (language (regex_at rs n))) each p.more p.each;
  has = has;
}
  where
    each : (e : ℕ × ℕ) → IsBehind rs pieces t e → IsEdgeFrom rs (language (regex_at rs n)) e
    each e b =
        let q = each_in (IsPieceOf rs (regex_at rs h)) pieces b.piece (derivative_pieces rs (regex_at rs h) pieces d)
        b.among in
        record {
          character = ap is_character b.same ∙ q.character;
          known = b.known;
          rests = λ u m. ap (λ c. language (regex_at rs n) (c ∷ u)) b.same
              ∙ f.sound b.piece.0 u (ap (λ r. language (mkcat r (regex_at rs t)) u) (sym q.is)
              ∙ ap (λ r. language r u) (sym b.is) ∙ m);
        }

    has : (c : ℕ) (u : List ℕ) → is_character c ≡ true → front (regex_at rs n) c u ≡ true → HasEdge rs p.more c u
    has c u char m =
        let q = value_found c pieces d.ordered.whole in
        let value : regex_at rs q.piece.1 ≡ nd (regex_at rs h) c = ap (regex_at rs) q.is ∙ d.values c char in
        let k = q.among in
        edge_later rs p.more q.piece.0 c u q.soon
        (subst (λ x. HasEdge rs p.more x.0 u) k.2 (p.has k.0 q.piece k.1 k.1 u
        (ap (λ x. language (mkcat (regex_at rs x.1) (regex_at rs t)) u) k.2
        ∙ ap (λ r. language (mkcat r (regex_at rs t)) u) value ∙ f.whole c u m)))

-- All starts.

pub gathering_start : (rs : List Regex) (ns : List ℕ) (es : List (ℕ × ℕ)) → es ≡ [] → AreGathered rs ns 0 es
gathering_start rs ns es e = subst (AreGathered rs ns 0) (sym e) (record {
  each = All-nil _;
  has = λ k d h. absurd (omega (arith, h));
})

module _ (old new : List Regex) (ext : Extends old new) (ns : List ℕ) (known : AllNumbers old ns) where
  number_at : (n : ℕ) → Contains ns n → n < length old
  number_at n c = All-contains (λ m. m < length old) ns n known c

  abbrev IsFromSome : List Regex → ℕ × ℕ → Type 0
  IsFromSome rs e = (n : ℕ) × Contains ns n × IsEdgeFrom rs (language (regex_at rs n)) e

  from_kept : (e : ℕ × ℕ) → IsFromSome old e → IsFromSome new e
  from_kept e (n, c, f) = (
    n,
    c,
    record {
      character = f.character;
      known = number_kept old new e.1 ext f.known;
      rests = λ u m. ap (λ r. language r (e.0 ∷ u)) (at_kept old new n ext (number_at n c))
          ∙ f.rests u (ap (λ r. language r u) (sym (at_kept old new e.1 ext f.known)) ∙ m);
    },
  )

  pub gathering_next : (es es' : List (ℕ × ℕ)) (i n : ℕ) → i < length ns → n ≡ get_or ns i n
      → AreFrom new n es es' → AreGathered old ns i es → AreGathered new ns (i + 1) es'
  gathering_next es es' i n w is one all = record {
    each = subst (All (IsFromSome new)) (sym one.is) (All-append (IsFromSome new) es one.more
        (All-weaker (IsFromSome old) (IsFromSome new) from_kept es all.each)
        (All-weaker (IsEdgeFrom new (language (regex_at new n))) (IsFromSome new) from_here one.more one.each));
    has = λ k d h m c u char x. by k d h m c u char x (nat_eq k i) refl;
  }
    where
      from_here : (e : ℕ × ℕ) → IsEdgeFrom new (language (regex_at new n)) e → IsFromSome new e
      from_here e f = (n, (i, w, sym is), f)

      by : (k d : ℕ) → k < i + 1 → k < length ns → (c : ℕ) (u : List ℕ) → is_character c ≡ true
          → front (regex_at new (get_or ns k d)) c u ≡ true → (b : Bool) → nat_eq k i ≡ b → HasEdge new es' c u
      by k d h m c u char x true e =
          let same : i ≡ k = grind (arith, nat_tests, e) in
          let at : n ≡ get_or ns k d =
          is ∙ get_or_default ns i n d w ∙ ap (λ k. get_or ns k d) same in
          subst (λ es. HasEdge new es c u) (sym one.is) (edge_right new es one.more c u
          (one.has c u char (ap (λ n. front (regex_at new n) c u) at ∙ x)))
      by k d h m c u char x false e =
          let before : k < i = grind (arith, nat_tests, e, h) in
          subst (λ es. HasEdge new es c u) (sym one.is) (edge_left new es one.more c u
          (edge_kept old new ext es c u (all.has k d before m c u char
          (ap (λ r. front r c u) (sym (at_kept old new (get_or ns k d) ext (known k d m))) ∙ x))))

-- The edges from states.

module _ (law : DerivativeHasRests) (keeps : MkaltKeepsLanguage) (rs : List Regex) (ns : List ℕ)
    (edges : List (ℕ × ℕ)) (passed : All (λ n. IsPassed rs ns (regex_at rs n)) ns)
    (all : AreGathered rs ns (length ns) edges) (c : ℕ) (char : is_character c ≡ true) where
  passed_at : (r : Regex) → HasNumber rs ns r → IsPassed rs ns r
  passed_at r n = subst (IsPassed rs ns) n.is (All-contains (λ n. IsPassed rs ns (regex_at rs n)) ns n.number passed
      n.among)

  front_at : (r : Regex) → HasNumber rs ns r → (u : List ℕ) → front r c u ≡ true → HasEdge rs edges c u
  front_at r n u h =
      let k = n.among in
      all.has k.0 n.number k.1 k.1 c u char
      (ap (λ m. front (regex_at rs m) c u) k.2 ∙ ap (λ r. front r c u) n.is ∙ h)

  passed_cat : (h t : Regex) → IsPassed rs ns (cat h t) → nullable h ≡ true → HasNumber rs ns t
  unfolding IsPassed
  passed_cat h t p n = p n

  passed_alt : (ps : Regexes) → IsPassed rs ns (alt ps) → EachHasNumber rs ns ps
  unfolding IsPassed
  passed_alt ps p = p

  mutual
    unfolding front language some_language

    found : (r : Regex) → HasNumber rs ns r → (u : List ℕ) → language r (c ∷ u) ≡ true → HasEdge rs edges c u
    found none n u h = front_at none n u h
    found eps n u h = front_at eps n u h
    found (set x) n u h = front_at (set x) n u h
    found (cat a b) n u h =
        either (language (mkcat (nd a c) b) u) _ (sym (cat_rests law keeps a b c u) ∙ h) (HasEdge rs edges c u)
        (λ x. front_at (cat a b) n u x)
        (λ x. let p = and_parts (nullable a) _ x in
        found b (passed_cat a b (passed_at (cat a b) n) p.0) u p.1)
    found (alt ps) n u h = found_some ps (passed_alt ps (passed_at (alt ps) n)) u h
    found (and ps) n u h = front_at (and ps) n u h
    found (neg a) n u h = front_at (neg a) n u h
    found (star a) n u h = front_at (star a) n u h
    found (rep a i j) n u h = front_at (rep a i j) n u h
    found (path a b) n u h = front_at (path a b) n u h

    found_some : (ps : Regexes) → EachHasNumber rs ns ps → (u : List ℕ) → some_language ps (c ∷ u) ≡ true
        → HasEdge rs edges c u
    found_some no_more n u h = absurd (false≢true h)
    found_some (more r ps) n u h =
        either (language r (c ∷ u)) _ h (HasEdge rs edges c u)
        (λ x. found r n.0 u x)
        (λ x. found_some ps n.1 u x)

  pub found_edge : (r : Regex) → HasNumber rs ns r → (u : List ℕ) → language r (c ∷ u) ≡ true → HasEdge rs edges c u
  found_edge r n u h = found r n u h

module _ (law : DerivativeHasRests) (keeps : MkaltKeepsLanguage) (old new : List Regex) (ext : Extends old new)
    (states ns : List ℕ) (known : AllNumbers old states) (starts : AreStarts old states ns) where
  has_kept : (r : Regex) → HasNumber old ns r → HasNumber new ns r
  has_kept r h = record {
    number = h.number;
    among = h.among;
    is = at_kept old new h.number ext (All-contains (λ m. m < length old) ns h.number starts.known h.among) ∙ h.is;
  }

  each_kept : (ps : Regexes) → EachHasNumber old ns ps → EachHasNumber new ns ps
  each_kept no_more h = tt
  each_kept (more r ps) h = (has_kept r h.0, each_kept ps h.1)

  passed_kept : (r : Regex) → IsPassed old ns r → IsPassed new ns r
  unfolding IsPassed
  passed_kept none h = tt
  passed_kept eps h = tt
  passed_kept (set x) h = tt
  passed_kept (cat a b) h = λ n. has_kept b (h n)
  passed_kept (alt ps) h = each_kept ps h
  passed_kept (and ps) h = tt
  passed_kept (neg a) h = tt
  passed_kept (star a) h = tt
  passed_kept (rep a n m) h = tt
  passed_kept (path a b) h = tt

  pub edges_are : (all edges : List (ℕ × ℕ)) → AreGathered new ns (length ns) all → IsPermutation all edges
      → AreEdges new (in_some new states) edges
  edges_are all edges g same = record {
    sound = All-permutation (IsEdgeFrom new (in_some new states)) all edges same
        (All-weaker _ (IsEdgeFrom new (in_some new states)) sound all g.each);
    whole = whole;
  }
    where
      sound : (e : ℕ × ℕ) → (n : ℕ) × Contains ns n × IsEdgeFrom new (language (regex_at new n)) e
          → IsEdgeFrom new (in_some new states) e
      sound e (n, c, f) = record {
        character = f.character;
        known = f.known;
        rests = λ u m. some_kept old new ext states known (e.0 ∷ u)
            ∙ All-contains (λ n. (u : List ℕ) → language (regex_at old n) u ≡ true → in_some old states u ≡ true) ns n
            starts.within c (e.0 ∷ u)
            (ap (λ r. language r (e.0 ∷ u)) (sym (at_kept old new n ext
            (All-contains (λ m. m < length old) ns n starts.known c))) ∙ f.rests u m);
      }

      passed : All (λ n. IsPassed new ns (regex_at new n)) ns
      passed k d l =
          subst (IsPassed new ns) (sym (at_kept old new (get_or ns k d) ext (starts.known k d l)))
          (passed_kept _ (starts.passed k d l))

      whole : (c : ℕ) (u : List ℕ) → is_character c ≡ true → in_some new states (c ∷ u) ≡ true
          → HasEdge new edges c u
      whole c u char h =
          let s = some_at new states (c ∷ u) h in
          let e = found_edge law keeps new ns all passed g c char (regex_at new (get_or states s.place 0))
          (record {
            number = get_or states s.place 0;
            among = starts.all s.place 0 s.within;
            is = refl;
          }) u s.has in
          record {
            edge = e.edge;
            among = Contains-permutation all edges e.edge same e.among;
            known = e.known;
            soon = e.soon;
            has = e.has;
          }

pub lead_kept : (old new : List Regex) → Extends old new → (ns : List ℕ) → AllNumbers old ns
    → (edges : List (ℕ × ℕ)) → AreEdges old (in_some old ns) edges → AreEdges new (in_some new ns) edges
lead_kept old new ext ns known edges a = record {
  sound = All-weaker (IsEdgeFrom old (in_some old ns)) (IsEdgeFrom new (in_some new ns)) sound edges a.sound;
  whole = λ c u char h. edge_kept old new ext edges c u
      (a.whole c u char (sym (some_kept old new ext ns known (c ∷ u)) ∙ h));
}
  where
    sound : (e : ℕ × ℕ) → IsEdgeFrom old (in_some old ns) e → IsEdgeFrom new (in_some new ns) e
    sound e f = record {
      character = f.character;
      known = number_kept old new e.1 ext f.known;
      rests = λ u m. some_kept old new ext ns known (e.0 ∷ u)
          ∙ f.rests u (ap (λ r. language r u) (sym (at_kept old new e.1 ext f.known)) ∙ m);
    }

-- the starts below a place, to the end
pub gathering_done : (rs : List Regex) (ns : List ℕ) (es : List (ℕ × ℕ)) (i : ℕ) → length ns ≤ i
    → AreGathered rs ns i es → AreGathered rs ns (length ns) es
gathering_done rs ns es i l g =
    record { each = g.each; has = λ k d h m c u char x. g.has k d (omega (arith, l, m)) m c u char x }

-- the edges from a start, once the arena has grown
pub from_start : (start first second third : List Regex) (memo : Memo) (n h t : ℕ) (pieces old new : List (ℕ × ℕ))
    → Extends start first → Extends first second → Extends second third → n < length start → IsFront first n h t
    → IsFaithful third memo → Some pieces ≡ entry_of memo h → ArePushed third pieces t (length pieces) old new
    → AreFrom third n old new
from_start start first second third memo n h t pieces old new s e f l is faithful known p =
    from_pieces third n h t pieces old new
    (front_kept first third n h t (extends_more first second third e f) (number_kept start first n s l) is)
    (faithful h pieces (sym known)).derivative p
