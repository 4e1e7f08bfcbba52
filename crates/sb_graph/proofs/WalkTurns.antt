-- One turn: the states that edges lead to, in the order of the edges' characters.
use Rattle.std.proofs.Common.{◌≡◌, ℕ, suc, ◌+◌, ◌*◌, ◌<◌, ◌≤◌, Bool, true, false, cond, ◌||◌, nat_eq, List, [], ◌∷◌, ◌++◌, length, get_or, refl, sym, ap, subst, ◌∙◌, arith}
use Rattle.std.proofs.lemmas.Bool.{false≢true}
use Rattle.std.proofs.lemmas.Bool.Decides.{nat_tests}
use Rattle.std.proofs.lemmas.List.{length_push}
use Rattle.std.specs.List.{list_any}
use Rattle.sb_word.specs.Words.{is_character}
use Rattle.sb_lang.specs.Regex.{Regex}
use Rattle.sb_lang.specs.Language.{language}
use Rattle.sb_lang.specs.Languages.{Language}
use Rattle.sb_regex.specs.Numbered.{regex_at}
use Rattle.sb_graph.specs.Queue.{Entry, entry_at, regex_of, way_of, has_regex, with_each, word_at, rank, rank_at}
use Rattle.sb_members.specs.Members.{IsSplit}
use Rattle.sb_graph.specs.Edges.{AreRising, Puts}
use Rattle.sb_graph.specs.Walks.{IsMet, AreReached}
use Rattle.sb_class.proofs.CallerLemmas.{character_below}
use Rattle.sb_members.proofs.CallerLemmas.{Each, each_as, all_each, each_all}
use Rattle.sb_graph.proofs.WalkGrowing.{IsGrown, grown_same, grown_more, met_grown}
use Rattle.sb_graph.proofs.WalkPushing.{reached_push, push_grown, push_rank, push_entry, push_each}

pub record StandsBy (es : List Entry) (ws : List (List ℕ)) (n most : ℕ) : Type 0 where
  pub place : ℕ
  pub within : place < length es
  pub is : regex_of es place ≡ n
  pub soon : rank_at ws place ≤ most

stands_grown : (es : List Entry) (ws : List (List ℕ)) (es' : List Entry) (ws' : List (List ℕ)) (n most : ℕ)
    → IsGrown es ws es' ws' → StandsBy es ws n most → StandsBy es' ws' n most
stands_grown es ws es' ws' n most g s = record {
  place = s.place;
  within = omega (arith, g.long, s.within);
  is = ap (λ e. e.0) (g.entries s.place s.within) ∙ s.is;
  soon = subst (λ w. rank w ≤ most) (sym (g.words s.place s.within)) s.soon;
}

find : (es : List Entry) (n : ℕ) → has_regex es n ≡ true → (k : ℕ) × (k < length es) × (regex_of es k ≡ n)
find [] n h = absurd (false≢true h)
find (e ∷ es) n h = by (nat_eq n e.0) refl (λ g. find es n g)
  where
    by : (b : Bool) → nat_eq n e.0 ≡ b → (has_regex es n ≡ true → (k : ℕ) × (k < length es) × (regex_of es k ≡ n))
        → (k : ℕ) × (k < length (e ∷ es)) × (regex_of (e ∷ es) k ≡ n)
    by true t rest = (0, (omega arith), (grind (arith, nat_tests, t)))
    by false t rest =
        let f = rest (sym (ap (λ b. b || has_regex es n) t) ∙ h) in
        (suc f.0, (omega (arith, f.1)), f.2)

-- a turn of the states that the word w leads to, of which the first stands at the place i; it began with some states
module _ (rs : List Regex) (L : Language) (i from : ℕ) (w : List ℕ) where
  abbrev b : ℕ
  b = rank w * 0x30000

  -- characters from n on are still to come
  pub record Turn (es : List Entry) (ws : List (List ℕ)) (n : ℕ) : Type 0 where
    pub reached : AreReached rs L es ws
    pub within : i < length es
    pub word : word_at ws i ≡ w
    pub room : (j : ℕ) → j < length es → rank_at ws j ≤ b + n
    pub behind : (c k : ℕ) → n ≤ c → suc k ≡ length es → (way_of es k ≡ (i, c) → ⊥) → rank_at ws k < b + c
    pub fresh : (k : ℕ) → from ≤ k → k < length es → b ≤ rank_at ws k

  turn_later : (es : List Entry) (ws : List (List ℕ)) (n c : ℕ) → n ≤ c → Turn es ws n → Turn es ws c
  turn_later es ws n c l t = record {
    reached = t.reached;
    within = t.within;
    word = t.word;
    room = λ j h. omega (arith, l, t.room j h);
    behind = λ d k m e h. t.behind d k (omega (arith, l, m)) e h;
    fresh = t.fresh;
  }

  -- the regex has words that stand in the language behind the word and a character
  pub record IsBehind (c n : ℕ) : Type 0 where
    pub known : n < length rs
    pub rests : (u : List ℕ) → language (regex_at rs n) u ≡ true → L (w ++ c ∷ u) ≡ true

  module _ (es : List Entry) (ws : List (List ℕ)) (c n : ℕ) (t : Turn es ws c) (char : is_character c ≡ true)
      (is : IsBehind c n) (new : has_regex es n ≡ false) where
    abbrev es' : List Entry
    es' = es ++ (n, (i, c)) ∷ []

    abbrev ws' : List (List ℕ)
    ws' = ws ++ (word_at ws i ++ c ∷ []) ∷ []

    rests' : (u : List ℕ) → language (regex_at rs n) u ≡ true → L (word_at ws i ++ c ∷ u) ≡ true
    rests' u h = ap (λ v. L (v ++ c ∷ u)) t.word ∙ is.rests u h

    base : rank_at ws i * 0x30000 ≡ b
    base = ap (λ v. rank v * 0x30000) t.word

    above' : (j : ℕ) → j < length es → rank_at ws j ≤ rank_at ws i * 0x30000 + c
    above' j h = omega (arith, t.room j h, base)

    behind' : (k : ℕ) → suc k ≡ length es → (way_of es k ≡ (i, c) → ⊥) → rank_at ws k < rank_at ws i * 0x30000 + c
    behind' k e h = omega (arith, t.behind c k (omega arith) e h, base)

    grown' : IsGrown es ws es' ws'
    grown' = push_grown rs L es ws i n c t.reached t.within char is.known rests' new above' behind'

    entry' : entry_at es' (length es) ≡ (n, (i, c))
    entry' = push_entry rs L es ws i n c t.reached t.within char is.known rests' new above' behind'

    rank' : rank_at ws' (length es) ≡ b + c
    rank' =
        let r = push_rank rs L es ws i n c t.reached t.within char is.known rests' new above' behind' in
        omega (arith, r, base)

    each' : (P : ℕ → Type 0) → ((k : ℕ) → k < length es → P k) → P (length es) → (k : ℕ) → k < length es' → P k
    each' P old last = push_each rs L es ws i n c t.reached t.within char is.known rests' new above' behind' P old last

    turn_push : Turn es' ws' c
    turn_push = record {
      reached = reached_push rs L es ws i n c t.reached t.within char is.known rests' new above' behind';
      within = omega (arith, t.within, grown'.long);
      word = grown'.words i t.within ∙ t.word;
      room = each' (λ j. rank_at ws' j ≤ b + c)
          (λ j h. omega (arith, t.room j h, ap rank (grown'.words j h)))
          (omega (arith, rank'));
      behind = λ d k m e h.
          let last : k ≡ length es = omega (arith, e, length_push es (n, (i, c))) in
          let here : way_of es' k ≡ (i, c) = ap (way_of es') last ∙ ap (λ e. e.1) entry' in
          let apart : c ≡ d → ⊥ = λ s. h (here ∙ ap (λ x. (i, x)) s) in
          let r : rank_at ws' k ≡ b + c = ap (rank_at ws') last ∙ rank' in
          later d m apart k r;
      fresh = λ k l h. each' (λ k. from ≤ k → b ≤ rank_at ws' k)
          (λ k h l. omega (arith, t.fresh k l h, ap rank (grown'.words k h)))
          (λ l. omega (arith, rank'))
          k h l;
    }
      where
        later : (d : ℕ) → c ≤ d → (c ≡ d → ⊥) → (k : ℕ) → rank_at ws' k ≡ b + c → rank_at ws' k < b + d
        later d m apart k r = by (nat_eq c d) refl
          where
            by : (t : Bool) → nat_eq c d ≡ t → rank_at ws' k < b + d
            by true t = absurd (apart (grind (arith, nat_tests, t)))
            by false t = let x : c < d = grind (arith, nat_tests, t, m) in omega (arith, x, r)

    stands_push : StandsBy es' ws' n (b + c)
    stands_push = record {
      place = length es;
      within = omega (arith, length_push es (n, (i, c)));
      is = ap (λ e. e.0) entry';
      soon = omega (arith, rank');
    }

  -- the members of one target

  record Placed (c : ℕ) (es : List Entry) (ws : List (List ℕ)) (ns : List ℕ) (es' : List Entry) : Type 0 where
    words : List (List ℕ)
    grown : IsGrown es ws es' words
    turn : Turn es' words c
    stand : Each (λ n. StandsBy es' words n (b + c)) ns

  placed_one : (c n : ℕ) (ns : List ℕ) (es : List Entry) (ws : List (List ℕ)) (es' : List Entry) (es'' : List Entry)
      (ws' : List (List ℕ)) → IsGrown es ws es'' ws' → StandsBy es'' ws' n (b + c) → Placed c es'' ws' ns es'
      → Placed c es ws (n ∷ ns) es'
  placed_one c n ns es ws es' es'' ws' g s p = record {
    words = p.words;
    grown = grown_more es ws es'' ws' es' p.words g p.grown;
    turn = p.turn;
    stand = (stands_grown es'' ws' es' p.words n (b + c) p.grown s, p.stand);
  }

  placed_next : (c : ℕ) (char : is_character c ≡ true) (n : ℕ) (ns : List ℕ) (es : List Entry) (ws : List (List ℕ))
      → Turn es ws c → IsBehind c n
      → ((es : List Entry) (ws : List (List ℕ)) → Turn es ws c → Placed c es ws ns (with_each (i, c) es ns))
      → (f : Bool) → has_regex es n ≡ f
      → Placed c es ws (n ∷ ns) (with_each (i, c) (cond f es (es ++ (n, (i, c)) ∷ [])) ns)
  placed_next c char n ns es ws t is rest true f =
      let s = find es n f in
      let st : StandsBy es ws n (b + c) =
      record { place = s.0; within = s.1; is = s.2; soon = t.room s.0 s.1 } in
      placed_one c n ns es ws _ es ws (grown_same es ws) st (rest es ws t)
  placed_next c char n ns es ws t is rest false f =
      placed_one c n ns es ws _ _ _ (grown' es ws c n t char is f) (stands_push es ws c n t char is f)
      (rest _ _ (turn_push es ws c n t char is f))

  placed : (c : ℕ) → is_character c ≡ true → (ns : List ℕ) (es : List Entry) (ws : List (List ℕ)) → Turn es ws c
      → Each (IsBehind c) ns → Placed c es ws ns (with_each (i, c) es ns)
  unfolding with_each
  placed c char [] es ws t h = record { words = ws; grown = grown_same es ws; turn = t; stand = tt }
  placed c char (n ∷ ns) es ws t h = placed_next c char n ns es ws t h.0
      (λ es ws t. placed c char ns es ws t h.1) (has_regex es n) refl

  -- all edges

  -- the edge leads to words that stand in the language behind the word and its character
  pub record IsEdge (e : ℕ × ℕ) : Type 0 where
    pub character : is_character e.0 ≡ true
    pub rests : (u : List ℕ) → language (regex_at rs e.1) u ≡ true → L (w ++ e.0 ∷ u) ≡ true

  abbrev pub IsEdgeMet : List Entry → List (List ℕ) → ℕ × ℕ → Type 0
  IsEdgeMet es ws e = (u : List ℕ) → language (regex_at rs e.1) u ≡ true → IsMet rs es ws u (b + e.0)

  pub record Turned (es : List Entry) (ws : List (List ℕ)) (edges : List (ℕ × ℕ)) (es' : List Entry) : Type 0 where
    pub words : List (List ℕ)
    pub grown : IsGrown es ws es' words
    pub reached : AreReached rs L es' words
    pub last : ℕ
    pub near : last < 0x30000
    pub room : (j : ℕ) → j < length es' → rank_at words j ≤ b + last
    pub fresh : (k : ℕ) → from ≤ k → k < length es' → b ≤ rank_at words k
    pub met : Each (IsEdgeMet es' words) edges

  any_true : (x y : Bool) → (x || y) ≡ true → (P : Type 0) → (x ≡ true → P) → (y ≡ true → P) → P
  any_true true y h P f g = f refl
  any_true false y h P f g = g h

  some_met : (es : List Entry) (ws : List (List ℕ)) (most : ℕ) (u : List ℕ) (ns : List ℕ)
      → Each (λ n. StandsBy es ws n most) ns → list_any (λ n. language (regex_at rs n) u) ns ≡ true
      → IsMet rs es ws u most
  some_met es ws most u [] s h = absurd (false≢true h)
  some_met es ws most u (n ∷ ns) s h =
      any_true (language (regex_at rs n) u) _ h (IsMet rs es ws u most)
      (λ m. record {
        place = s.0.place;
        within = s.0.within;
        soon = s.0.soon;
        has = ap (λ k. language (regex_at rs k) u) s.0.is ∙ m;
      })
      (λ m. some_met es ws most u ns s.1 m)

  -- a word of a member is one of the whole
  member_has : (u : List ℕ) (ns : List ℕ) → Each (λ n. language (regex_at rs n) u ≡ true
      → list_any (λ n. language (regex_at rs n) u) ns ≡ true) ns
  member_has u [] = tt
  member_has u (n ∷ ns) = (
    (λ h. ap (λ b. b || list_any (λ n. language (regex_at rs n) u) ns) h),
    each_as _ _ (λ m f h. or_true (language (regex_at rs n) u) (f h)) ns (member_has u ns),
  )
    where
      or_true : (b : Bool) {c : Bool} → c ≡ true → (b || c) ≡ true
      or_true true h = refl
      or_true false h = h

  members_behind : (e : ℕ × ℕ) (ns : List ℕ) → IsSplit rs e.1 ns → IsEdge e → Each (IsBehind e.0) ns
  members_behind e ns s is = all_each (IsBehind e.0) ns (λ k d l. record {
    known = s.known k d l;
    rests = λ u h. is.rests u (s.union u ∙ each_all' u k d l h);
  })
    where
      each_all' : (u : List ℕ) (k d : ℕ) → k < length ns → language (regex_at rs (get_or ns k d)) u ≡ true
          → list_any (λ n. language (regex_at rs n) u) ns ≡ true
      each_all' u k d l h = each_all _ ns (member_has u ns) k d l h

  met_all_grown : (es : List Entry) (ws : List (List ℕ)) (es' : List Entry) (ws' : List (List ℕ)) (e : ℕ × ℕ)
      → IsGrown es ws es' ws' → IsEdgeMet es ws e → IsEdgeMet es' ws' e
  met_all_grown es ws es' ws' e g m u h = met_grown rs es ws es' ws' u (b + e.0) g (m u h)

  pub turned : (edges : List (ℕ × ℕ)) (es : List Entry) (ws : List (List ℕ)) (n : ℕ) (after : List Entry)
      → n < 0x30000 → Turn es ws n → AreRising n edges → Each IsEdge edges → Puts rs i edges es after
      → Turned es ws edges after
  turned [] es ws n after l t r is p =
      subst (Turned es ws []) (sym p) (record {
        words = ws;
        grown = grown_same es ws;
        reached = t.reached;
        last = n;
        near = l;
        room = t.room;
        fresh = t.fresh;
        met = tt;
      })
  turned (e ∷ edges) es ws n after l t r is p =
      let put = p.1 in
      let char = is.0.character in
      let q : Placed e.0 es ws put.members p.0 =
      subst (Placed e.0 es ws put.members) (sym put.is)
      (placed e.0 char put.members es ws (turn_later es ws n e.0 r.0 t)
      (members_behind e put.members put.split is.0)) in
      let rest = turned edges p.0 q.words e.0 after (character_below e.0 char) q.turn r.1 is.1 p.2 in
      record {
        words = rest.words;
        grown = grown_more es ws p.0 q.words after rest.words q.grown rest.grown;
        reached = rest.reached;
        last = rest.last;
        near = rest.near;
        room = rest.room;
        fresh = rest.fresh;
        met = (
          met_all_grown p.0 q.words after rest.words e rest.grown
              (λ u h. some_met p.0 q.words (b + e.0) u put.members q.stand (sym (put.split.union u) ∙ h)),
          rest.met,
        );
      }
