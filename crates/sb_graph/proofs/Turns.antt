-- One turn of a search: the targets of a derivative, in the order of their pieces.
use Rattle.std.proofs.Common.{◌≡◌, ℕ, suc, ◌+◌, ◌*◌, ◌<◌, ◌≤◌, inl, inr, Bool, true, false, cond, ◌||◌, ◌==◌, nat_eq, nat_le, List, [], ◌∷◌, ◌++◌, length, refl, sym, ap, subst, ◌∙◌, arith}
use Rattle.std.proofs.lemmas.Bool.{and_parts, false≢true, leb-true, le-leb}
use Rattle.std.proofs.lemmas.Bool.Decides.{nat_tests}
use Rattle.std.proofs.lemmas.List.{length_push, get_or_append_left}
use Rattle.sb_word.specs.Words.{is_character}
use Rattle.sb_lang.specs.Regex.{Regex}
use Rattle.sb_lang.specs.Derivative.{nullable, nd}
use Rattle.sb_regex.specs.Numbered.{regex_at, Names, AllNumbers}
use Rattle.sb_regex.proofs.CallerLemmas.{names_from}
use Rattle.sb_deriv.specs.Pieces.{value_from, value_at, rises, covers, targets_of}
use Rattle.sb_deriv.specs.Faithful.{IsDerivative}
use Rattle.sb_graph.specs.Findings.{is_marked}
use Rattle.sb_graph.specs.Visiting.{visited}
use Rattle.sb_graph.specs.Search.{StandsBy, IsMetBy, IsCovered, AreReached, IsDone, IsSearched}
use Rattle.sb_graph.proofs.Growing.{IsGrown, grown_same, grown_more, met_later, met_grown, done_grown}
use Rattle.sb_graph.proofs.Pushing.{reached_push, reached_grown, reached_rank, reached_entry, reached_each}
use Rattle.sb_deriv.proofs.CallerLemmas.{above_stays, covers_rises, rises_le, value_after}
use Rattle.sb_graph.specs.Queue.{Entry, regex_of, has_regex, word_at, rank, rank_at}

-- Pieces.

-- something holds of the target of each piece that begins at or below the number
abbrev EachUpTo : (ℕ → Type 0) → ℕ → List (ℕ × ℕ) → Type 0
EachUpTo Q c [] = Unit {0}
EachUpTo Q c (p ∷ ps) = (p.0 ≤ c → Q p.1) × EachUpTo Q c ps

value_has : (Q : ℕ → Type 0) (c d : ℕ) (ps : List (ℕ × ℕ)) → EachUpTo Q c ps → Q d → Q (value_from d ps c)
unfolding value_from
value_has Q c d [] e q = q
value_has Q c d (p ∷ ps) e q = value_has Q c (cond (nat_le p.0 c) p.1 d) ps e.1 (by (nat_le p.0 c) refl)
  where
    by : (b : Bool) → nat_le p.0 c ≡ b → Q (cond b p.1 d)
    by true t = e.0 (leb-true p.0 c t)
    by false t = q

rises_parts : (n : ℕ) (p : ℕ × ℕ) (ps : List (ℕ × ℕ)) → rises n (p ∷ ps) 0x30000 ≡ true
    → (n ≤ p.0) × (rises (suc p.0) ps 0x30000 ≡ true)
unfolding rises
rises_parts n p ps h = let q = and_parts (nat_le n p.0) _ h in (leb-true n p.0 q.0, q.1)

first_at_0 : (p : ℕ × ℕ) (ps : List (ℕ × ℕ)) → covers (p ∷ ps) 0x30000 ≡ true → (p.0 ≡ 0) × (rises 1 ps 0x30000 ≡ true)
unfolding covers
first_at_0 p ps h = let q = and_parts (p.0 == 0) _ h in (grind (arith, nat_tests, q.0), q.1)

not_covers : covers {A = ℕ} [] 0x30000 ≡ true → ⊥
unfolding covers
not_covers h = false≢true h

is_character_of : (c : ℕ) → c < 0x30000 → is_character c ≡ true
is_character_of c h = le-leb c 0x2ffff (omega (arith, h))

all_tail : (rs : List Regex) (p : ℕ × ℕ) (ps : List (ℕ × ℕ)) → AllNumbers rs (targets_of (p ∷ ps))
    → AllNumbers rs (targets_of ps)
all_tail rs p ps h = λ k d l. h (suc k) d (omega (arith, l))

all_head : (rs : List Regex) (p : ℕ × ℕ) (ps : List (ℕ × ℕ)) → AllNumbers rs (targets_of (p ∷ ps)) → p.1 < length rs
all_head rs p ps h = h 0 0 (omega arith)

-- a regex of the queue stands at a place
stands : (es : List Entry) (ws : List (List ℕ)) (n most : ℕ) → has_regex es n ≡ true
    → ((j : ℕ) → j < length es → rank_at ws j ≤ most) → StandsBy es ws n most
stands es ws n most h below = let f = find es h in record { place = f.0; within = f.1; is = f.2; soon = below f.0 f.1 }
  where
    find : (es : List Entry) → has_regex es n ≡ true → (k : ℕ) × (k < length es) × (regex_of es k ≡ n)
    find [] h = absurd (false≢true h)
    find (e ∷ es) h = by (nat_eq n e.0) refl (λ g. find es g)
      where
        by : (b : Bool) → nat_eq n e.0 ≡ b → (has_regex es n ≡ true → (k : ℕ) × (k < length es) × (regex_of es k ≡ n))
            → (k : ℕ) × (k < length (e ∷ es)) × (regex_of (e ∷ es) k ≡ n)
        by true t rest = (0, (omega arith), (grind (arith, nat_tests, t)))
        by false t rest =
            let f = rest (sym (ap (λ b. b || has_regex es n) t) ∙ h) in
            (suc f.0, (omega (arith, f.1)), f.2)

-- A turn at a place, with some pieces still to come: d is the target of the last one, n is above its number.
module _ (rs : List Regex) (root : ℕ) (dead : List Bool) (i b : ℕ) (q : Regex) where
  record Turn (es : List Entry) (ws : List (List ℕ)) (n d : ℕ) (ps : List (ℕ × ℕ)) : Type 0 where
    reached : AreReached rs root es ws
    within : i < length es
    base : rank_at ws i * 0x30000 ≡ b
    regex : regex_at rs (regex_of es i) ≡ q
    room : (j : ℕ) → j < length es → rank_at ws j < b + n
    ascend : rises n ps 0x30000 ≡ true
    targets : AllNumbers rs (targets_of ps)
    values : (c : ℕ) → is_character c ≡ true → n ≤ c → regex_at rs (value_from d ps c) ≡ nd q c

  abbrev AllMet : List Entry → List (List ℕ) → List (ℕ × ℕ) → Type 0
  AllMet es ws [] = Unit {0}
  AllMet es ws (p ∷ ps) = IsMetBy dead es ws p.1 (b + p.0) × AllMet es ws ps

  record Turned (es : List Entry) (ws : List (List ℕ)) (ps : List (ℕ × ℕ)) (es' : List Entry) : Type 0 where
    words : List (List ℕ)
    grown : IsGrown es ws es' words
    reached : AreReached rs root es' words
    room : (j : ℕ) → j < length es' → rank_at words j < b + 0x30000
    met : AllMet es' words ps

  turned_none : (es : List Entry) (ws : List (List ℕ)) (n d : ℕ) → Turn es ws n d [] → Turned es ws [] es
  turned_none es ws n d t = record {
    words = ws;
    grown = grown_same es ws;
    reached = t.reached;
    room = λ j h. omega (arith, t.room j h, rises_le n [] 0x30000 t.ascend);
    met = tt;
  }

  next_values : (n d : ℕ) (p : ℕ × ℕ) (ps : List (ℕ × ℕ)) → n ≤ p.0
      → ((c : ℕ) → is_character c ≡ true → n ≤ c → regex_at rs (value_from d (p ∷ ps) c) ≡ nd q c) →
      (c : ℕ) → is_character c ≡ true → suc p.0 ≤ c → regex_at rs (value_from p.1 ps c) ≡ nd q c
  next_values n d p ps l values c h m = ap (regex_at rs) (sym (value_after d p ps c (omega (arith, m))))
      ∙ values c h (omega (arith, l, m))

  turn_kept : (es : List Entry) (ws : List (List ℕ)) (n d : ℕ) (p : ℕ × ℕ) (ps : List (ℕ × ℕ)) → Turn es ws n d (p ∷ ps)
      → Turn es ws (suc p.0) p.1 ps
  turn_kept es ws n d p ps t =
      let a = rises_parts n p ps t.ascend in
      record {
        reached = t.reached;
        within = t.within;
        base = t.base;
        regex = t.regex;
        room = λ j h. omega (arith, t.room j h, a.0);
        ascend = a.1;
        targets = all_tail rs p ps t.targets;
        values = next_values n d p ps a.0 t.values;
      }

  piece_character : (es : List Entry) (ws : List (List ℕ)) (n d : ℕ) (p : ℕ × ℕ) (ps : List (ℕ × ℕ))
      → Turn es ws n d (p ∷ ps) → is_character p.0 ≡ true
  piece_character es ws n d p ps t =
      is_character_of p.0 (omega (arith, rises_le (suc p.0) ps 0x30000 (rises_parts n p ps t.ascend).1))

  -- the piece is of the derivative by the character where it begins
  piece_names : (es : List Entry) (ws : List (List ℕ)) (n d : ℕ) (p : ℕ × ℕ) (ps : List (ℕ × ℕ))
      → Turn es ws n d (p ∷ ps) → Names rs p.1 (nd (regex_at rs (regex_of es i)) p.0)
  piece_names es ws n d p ps t =
      let a = rises_parts n p ps t.ascend in
      let c = piece_character es ws n d p ps t in
      let v = value_after d p ps p.0 (omega arith) ∙ above_stays p.1 (suc p.0) ps 0x30000 p.0 a.1 (omega arith) in
      names_from rs p.1 _ (all_head rs p ps t.targets) (ap (regex_at rs) (sym v) ∙ t.values p.0 c a.0
      ∙ ap (λ r. nd r p.0) (sym t.regex))

  piece_above : (es : List Entry) (ws : List (List ℕ)) (n d : ℕ) (p : ℕ × ℕ) (ps : List (ℕ × ℕ))
      → Turn es ws n d (p ∷ ps) → (j : ℕ) → j < length es → rank_at ws j < rank_at ws i * 0x30000 + p.0
  piece_above es ws n d p ps t j h = omega (arith, t.room j h, t.base, (rises_parts n p ps t.ascend).0)

  turn_pushed : (es : List Entry) (ws : List (List ℕ)) (n d : ℕ) (p : ℕ × ℕ) (ps : List (ℕ × ℕ))
      → Turn es ws n d (p ∷ ps) →
      Turn (es ++ (p.1, (i, p.0)) ∷ []) (ws ++ (word_at ws i ++ p.0 ∷ []) ∷ []) (suc p.0) p.1 ps
  turn_pushed es ws n d p ps t =
      let a = rises_parts n p ps t.ascend in
      let char = piece_character es ws n d p ps t in
      let names = piece_names es ws n d p ps t in
      let above = piece_above es ws n d p ps t in
      let g = reached_grown rs root es ws i p.1 p.0 t.reached t.within char names above in
      record {
        reached = reached_push rs root es ws i p.1 p.0 t.reached t.within char names above;
        within = omega (arith, t.within, g.long);
        base = ap (λ w. rank w * 0x30000) (g.words i t.within) ∙ t.base;
        regex = ap (λ e. regex_at rs e.0) (g.entries i t.within) ∙ t.regex;
        room = reached_each rs root es ws i p.1 p.0 t.reached t.within char names above (b + suc p.0)
            (λ j h. omega (arith, t.room j h, a.0)) (omega (arith, t.base));
        ascend = a.1;
        targets = all_tail rs p ps t.targets;
        values = next_values n d p ps a.0 t.values;
      }

  turned_kept : (es : List Entry) (ws : List (List ℕ)) (p : ℕ × ℕ) (ps : List (ℕ × ℕ)) (es' : List Entry)
      → IsMetBy dead es ws p.1 (b + p.0) → Turned es ws ps es' → Turned es ws (p ∷ ps) es'
  turned_kept es ws p ps es' m t = record {
    words = t.words;
    grown = t.grown;
    reached = t.reached;
    room = t.room;
    met = (met_grown dead es ws es' t.words p.1 (b + p.0) t.grown m, t.met);
  }

  turned_pushed : (es : List Entry) (ws : List (List ℕ)) (n d : ℕ) (p : ℕ × ℕ) (ps : List (ℕ × ℕ)) (es' : List Entry)
      → Turn es ws n d (p ∷ ps) →
      Turned (es ++ (p.1, (i, p.0)) ∷ []) (ws ++ (word_at ws i ++ p.0 ∷ []) ∷ []) ps es' → Turned es ws (p ∷ ps) es'
  turned_pushed es ws n d p ps es' t u =
      let char = piece_character es ws n d p ps t in
      let names = piece_names es ws n d p ps t in
      let above = piece_above es ws n d p ps t in
      let more = es ++ (p.1, (i, p.0)) ∷ [] in
      let more_words = ws ++ (word_at ws i ++ p.0 ∷ []) ∷ [] in
      let r = reached_rank rs root es ws i p.1 p.0 t.reached t.within char names above in
      let g = reached_grown rs root es ws i p.1 p.0 t.reached t.within char names above in
      let m : IsMetBy dead more more_words p.1 (b + p.0) = inr (record {
        place = length es;
        within = omega (arith, length_push es (p.1, (i, p.0)));
        is = reached_entry rs root es ws i p.1 p.0 t.reached t.within char names above;
        soon = omega (arith, r, t.base);
      }) in
      record {
        words = u.words;
        grown = grown_more es ws more more_words es' u.words g u.grown;
        reached = u.reached;
        room = u.room;
        met = (met_grown dead more more_words es' u.words p.1 (b + p.0) u.grown m, u.met);
      }

  -- one piece
  turned_piece : (es : List Entry) (ws : List (List ℕ)) (n d : ℕ) (p : ℕ × ℕ) (ps : List (ℕ × ℕ))
      → Turn es ws n d (p ∷ ps) →
      ((es : List Entry) (ws : List (List ℕ)) → Turn es ws (suc p.0) p.1 ps → Turned es ws ps (visited dead i es ps)) →
      (m : Bool) → is_marked dead p.1 ≡ m → (h : Bool) → has_regex es p.1 ≡ h →
      Turned es ws (p ∷ ps) (visited dead i (cond m es (cond h es (es ++ (p.1, (i, p.0)) ∷ []))) ps)
  turned_piece es ws n d p ps t rest true e h f =
      turned_kept es ws p ps (visited dead i es ps) (inl e) (rest es ws (turn_kept es ws n d p ps t))
  turned_piece es ws n d p ps t rest false e true f =
      let s = stands es ws p.1 (b + p.0) f (λ j l. omega (arith, piece_above es ws n d p ps t j l, t.base)) in
      turned_kept es ws p ps (visited dead i es ps) (inr s) (rest es ws (turn_kept es ws n d p ps t))
  turned_piece es ws n d p ps t rest false e false f =
      turned_pushed es ws n d p ps _ t (rest _ _ (turn_pushed es ws n d p ps t))

  turned : (ps : List (ℕ × ℕ)) (es : List Entry) (ws : List (List ℕ)) (n d : ℕ) → Turn es ws n d ps
      → Turned es ws ps (visited dead i es ps)
  unfolding visited
  turned [] es ws n d t = turned_none es ws n d t
  turned (p ∷ ps) es ws n d t =
      turned_piece es ws n d p ps t (λ es ws t. turned ps es ws (suc p.0) p.1 t) (is_marked dead p.1) refl
      (has_regex es p.1) refl

  each_met : (es : List Entry) (ws : List (List ℕ)) (c : ℕ) (ps : List (ℕ × ℕ)) → AllMet es ws ps
      → EachUpTo (λ n. IsMetBy dead es ws n (b + c)) c ps
  each_met es ws c [] m = tt
  each_met es ws c (p ∷ ps) m =
      ((λ h. met_later dead es ws p.1 (b + p.0) (b + c) (omega (arith, h)) m.0), each_met es ws c ps m.1)

  each_known : (c : ℕ) (ps : List (ℕ × ℕ)) → AllNumbers rs (targets_of ps) → EachUpTo (λ n. n < length rs) c ps
  each_known c [] h = tt
  each_known c (p ∷ ps) h = ((λ l. all_head rs p ps h), each_known c ps (all_tail rs p ps h))

  -- the target of a character is met
  value_covered : (es : List Entry) (ws : List (List ℕ)) (c : ℕ) (ps : List (ℕ × ℕ)) → covers ps 0x30000 ≡ true
      → AllNumbers rs (targets_of ps) → AllMet es ws ps →
      regex_at rs (value_at ps c) ≡ nd q c → IsCovered rs dead es ws (nd q c) (b + c)
  value_covered es ws c [] whole known met value = absurd (not_covers whole)
  value_covered es ws c (p ∷ ps) whole known met value =
      let f = first_at_0 p ps whole in
      let l : p.0 ≤ c = omega (arith, f.0) in
      let v = value_after 0 p ps c l in
      let k = each_known c (p ∷ ps) known in
      let m = each_met es ws c (p ∷ ps) met in
      record {
        number = value_from p.1 ps c;
        names = names_from rs _ _ (value_has (λ n. n < length rs) c p.1 ps k.1 (k.0 l))
            (ap (regex_at rs) (sym v) ∙ value);
        met = value_has (λ n. IsMetBy dead es ws n (b + c)) c p.1 ps m.1 (m.0 l);
      }

  turn_start : (es : List Entry) (s : IsSearched rs root dead es i) → i < length es → rank_at s.words i * 0x30000 ≡ b
      → regex_at rs (regex_of es i) ≡ q →
      (ps : List (ℕ × ℕ)) → IsDerivative rs q ps → Turn es s.words 0 0 ps
  turn_start es s h e r ps d = record {
    reached = s.reached;
    within = h;
    base = e;
    regex = r;
    room = λ j l. omega (arith, s.near h j l, e);
    ascend = covers_rises ps 0x30000 d.ordered.whole;
    targets = d.targets;
    values = λ c k l. d.values c k;
  }

-- the old places stay

abbrev Keeps : List Entry → List Entry → ℕ → Type 0
Keeps es es' k = (k < length es') × (regex_of es' k ≡ regex_of es k)

keeps_by : (es : List Entry) (e : Entry) (k : ℕ) → k < length es → (f : List Entry → List Entry)
    → ((es : List Entry) → k < length es → Keeps es (f es) k) → (m b : Bool)
    → Keeps es (f (cond m es (cond b es (es ++ e ∷ [])))) k
keeps_by es e k h f rest true b = rest es h
keeps_by es e k h f rest false true = rest es h
keeps_by es e k h f rest false false =
    let v = rest (es ++ e ∷ []) (omega (arith, h, length_push es e)) in
    (v.0, v.1 ∙ ap (λ e. e.0) (get_or_append_left es (e ∷ []) (0, (0, 0)) k h))

pub visited_keeps : (dead : List Bool) (place : ℕ) (ps : List (ℕ × ℕ)) (es : List Entry) (k : ℕ) → k < length es
    → Keeps es (visited dead place es ps) k
unfolding visited
visited_keeps dead place [] es k h = (h, refl)
visited_keeps dead place (p ∷ ps) es k h =
    keeps_by es (p.1, (place, p.0)) k h (λ es. visited dead place es ps)
    (λ es h. visited_keeps dead place ps es k h) (is_marked dead p.1) (has_regex es p.1)

-- the turn is done
module _ (rs : List Regex) (root : ℕ) (dead : List Bool) (es : List Entry) (i : ℕ) (s : IsSearched rs root dead es i)
    (within : i < length es)
    (empty : nullable (regex_at rs (regex_of es i)) ≡ false) (ps : List (ℕ × ℕ))
    (d : IsDerivative rs (regex_at rs (regex_of es i)) ps) where
  abbrev b : ℕ
  b = rank_at s.words i * 0x30000

  abbrev q : Regex
  q = regex_at rs (regex_of es i)

  after : Turned rs root dead i b q es s.words ps (visited dead i es ps)
  after = turned rs root dead i b q ps es s.words 0 0 (turn_start rs root dead i b q es s within refl refl ps d)

  done_here : IsDone rs dead (visited dead i es ps) after.words i
  done_here =
      let g = after.grown in
      let e = sym (ap (λ e. e.0) (g.entries i within)) in
      let w = sym (g.words i within) in
      record {
        empty_word = ap (λ n. nullable (regex_at rs n)) (sym e) ∙ empty;
        covered = λ c h.
            subst (λ v. IsCovered rs dead (visited dead i es ps) after.words
            (nd (regex_at rs (regex_of (visited dead i es ps) i)) c) (rank v * 0x30000 + c)) w
            (subst (λ n. IsCovered rs dead (visited dead i es ps) after.words (nd (regex_at rs n) c) (b + c)) e
            (value_covered rs root dead i b q (visited dead i es ps) after.words c ps d.ordered.whole d.targets
            after.met (d.values c h)));
      }

  done_below : (k : ℕ) → k < suc i → IsDone rs dead (visited dead i es ps) after.words k
  done_below k h = by (nat_eq k i) refl
    where
      by : (t : Bool) → nat_eq k i ≡ t → IsDone rs dead (visited dead i es ps) after.words k
      by true t = let e : i ≡ k = grind (arith, nat_tests, t) in
          subst (λ x. IsDone rs dead (visited dead i es ps) after.words x) e done_here
      by false t =
          let l : k < i = grind (arith, nat_tests, t, h) in
          let m : k < length es = omega (arith, l, within) in
          done_grown rs dead es s.words (visited dead i es ps) after.words k after.grown m (s.below k l m)

  pub searched_next : IsSearched rs root dead (visited dead i es ps) (suc i)
  searched_next = record {
    words = after.words;
    reached = after.reached;
    below = λ k h l. done_below k h;
    near = λ h j l.
        let u : rank_at s.words i < rank_at after.words (suc i) =
        subst (λ w. rank w < rank_at after.words (suc i)) (after.grown.words i within)
        (after.reached.ascending i (suc i) (omega arith) h) in
        omega (arith, after.room j l, u);
  }
