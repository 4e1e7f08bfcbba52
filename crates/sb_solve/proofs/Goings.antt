-- Steps that keep clauses of memberships without constants, one behind the other.
use Rattle.sb_solve.proofs.Words.{◌≡◌, ◌≢◌, ℕ, ◌+◌, ◌<◌, ◌≤◌, Bool, true, false, not, ◌&&◌, nat_lt, List, [], ◌∷◌, ◌++◌, length, get_or, slice_get, Option, Some, option_map, inl, inr, refl, sym, ap, ap₂, subst, ◌∙◌, arith, ◌==◌, append-nil, append_assoc, list_all, list_all-append, and_from, eqb-true, false≢true, lt-ltb, ltb-true, nat_tests, same_Some, slice_get-get_or, slice_get-map, slice_get_within, AllSettle, AtomOver, Backing, Contains, CountedAgainStaysSound, FollowsByRule, Goes, HasEnds, HasGates, HaveRegexesBelow, IsCutAt, IsTrue, KeptStay, LineStaysSound, Lit, Names, Piece, Regex, RegexesGrow, Settles, Spending, StepsOnce, Store, and_atom, are_atoms, are_declared, atoms_in, bool_atom, cons-cases, earlier_table, gates-stay, iff_atom, in_atom, is_atom, is_table, kept-stays, kept_at, le_atom, not-in-nil, of_sign, over, regex_at, regexes_both, regexes_same, sum_atom, word_piece}
use Rattle.sb_word.specs.Words.{IsWord}
use Rattle.sb_lang.specs.Derivative.{nullable}
use Rattle.sb_lit.specs.Clauses.{are_ascending}
use Rattle.sb_atoms.proofs.CallerLemmas.{regexes_kept}
use Rattle.sb_atoms.specs.Numbered.{NameEarlier}
use Rattle.sb_atoms.specs.Numbered as table
use Rattle.sb_refute.proofs.CallerLemmas.{backs-grown}
use Rattle.sb_refute.specs.Lines.{IsAlone}
use Rattle.sb_refute.specs.Settling.{IsBare, IsBareAtom, Steps, pieces_of_word}
use Rattle.sb_refute.specs.declared.bare.Bare.{Bare}
use Rattle.sb_rulebook.specs.Splits.{is_step}
use Rattle.sb_sound.specs.ClauseForms.{IsSetOf}
use Rattle.sb_sound.specs.MembershipLaws.{StepsAreExact, StepsHold, of_not_nullable, of_nullable, of_word}
use Rattle.sb_trace.proofs.CallerLemmas.{puts_both, puts_none}
use Rattle.sb_solve.proofs.Declaring.{declared_end}
use Rattle.sb_solve.proofs.Gathered.{all_at}
use Rattle.sb_solve.proofs.Growing.{grown_long, literals_still}
use Rattle.sb_solve.proofs.Truths.{contains_first, contains_later, true-behind, true-kept}

-- One behind the other.

pub goes-none : (proves : Bool) (x : Store) (e : Backing) (b : Spending) (told : Option (List ℕ))
    → HaveRegexesBelow (length x.arena) e.atoms → Goes proves x e b told x e b told
goes-none proves x e b told below = record {
  store = regexes_same x;
  below = below;
  regexes = below;
  atoms = record { more = []; is = sym (append-nil e.atoms) };
  asserted = refl;
  stay = λ id clause h. h;
  gates = λ h. h;
  declared = λ sorts h. h;
  limit = refl;
  spends = omega arith;
  puts = λ on asked kept backs counted.
      record { after = kept; puts = puts_none asked kept told; backs = backs; counts = counted };
  sound = λ off asked terms t. t;
}

pub extends-both : (e f g : List (AtomOver ℕ)) → table.Extends e f → table.Extends f g → table.Extends e g
extends-both e f g p q = record {
  more = p.more ++ q.more;
  is = q.is ∙ ap (λ (ts : List (AtomOver ℕ)). ts ++ q.more) p.is ∙ append_assoc e p.more q.more;
}

pub goes-both : (proves : Bool) (x y z : Store) (e f g : Backing) (a b c : Spending) (old mid new : Option (List ℕ))
    → Goes proves x e a old y f b mid → Goes proves y f b mid z g c new → Goes proves x e a old z g c new
goes-both proves x y z e f g a b c old mid new p q = record {
  store = regexes_both x y z p.store q.store;
  below = p.below;
  regexes = q.regexes;
  atoms = extends-both e.atoms f.atoms g.atoms p.atoms q.atoms;
  asserted = q.asserted ∙ p.asserted;
  stay = λ id clause h. q.stay id clause (p.stay id clause h);
  gates = λ h. q.gates (p.gates h);
  declared = λ sorts h. q.declared sorts (p.declared sorts h);
  limit = q.limit ∙ p.limit;
  spends = omega (arith, p.spends, q.spends);
  puts = λ on asked kept backs counted.
      let first = p.puts on asked kept backs counted in
      let second = q.puts on asked first.after first.backs first.counts in
      record {
        after = second.after;
        puts = puts_both asked kept first.after second.after old mid new first.puts second.puts;
        backs = second.backs;
        counts = second.counts;
      };
  sound = λ off asked terms t. q.sound off asked terms (p.sound off asked terms t);
}

-- more is known of regexes
pub goes-grown : (proves : Bool) (x y : Store) (e : Backing) (b : Spending) (told : Option (List ℕ))
    → HaveRegexesBelow (length x.arena) e.atoms → RegexesGrow x y → Goes proves x e b told y e b told
goes-grown proves x y e b told below grows = record {
  store = grows;
  below = below;
  regexes = regexes_kept x.arena y.arena e.atoms grows.more.extends below;
  atoms = record { more = []; is = sym (append-nil e.atoms) };
  asserted = refl;
  stay = λ id clause h. h;
  gates = λ h. h;
  declared = λ sorts h. h;
  limit = refl;
  spends = omega arith;
  puts = λ on asked kept backs counted. record {
    after = kept;
    puts = puts_none asked kept told;
    backs = backs-grown x.arena y.arena x.graph.memo y.graph.memo e kept grows.more.extends grows.more.derivatives below
        backs;
    counts = counted;
  };
  sound = λ off asked terms t. record {
    kept = t.kept;
    backs = backs-grown x.arena y.arena x.graph.memo y.graph.memo e t.kept grows.more.extends grows.more.derivatives
        below t.backs;
    sound = t.sound;
    counted = t.counted;
  };
}

-- the atom of the empty word
pub goes-end : FollowsByRule → LineStaysSound → CountedAgainStaysSound → (proves : Bool) (x : Store) (e f : Backing)
    (b : Spending) (old new : Option (List ℕ)) (r n : ℕ) → HaveRegexesBelow (length x.arena) e.atoms
    → IsAlone x.arena (in_atom [] r) e f old new n → Goes proves x e b old x f b new
goes-end rule line again proves x e f b old new r n below h = record {
  store = regexes_same x;
  below = below;
  regexes = h.regexes;
  atoms = h.extends;
  asserted = h.asserted;
  stay = h.stay;
  gates = λ had. h.gates;
  declared = λ sorts had. declared_end sorts e.atoms f.atoms r h.grows had;
  limit = refl;
  spends = omega arith;
  puts = λ on asked kept backs counted.
      let lines = h.puts asked x.graph.memo (λ before. refl) kept backs in
      record {
        after = lines.after;
        puts = lines.puts;
        backs = lines.backs;
        counts = record { spent = lines.counted ∙ counted.spent; limit = counted.limit };
      };
  sound = λ off asked terms t.
      let lines = h.puts asked x.graph.memo (λ before. refl) t.kept t.backs in
      true-behind rule line again asked x.arena x.arena x.graph.memo x.graph.memo e f terms t lines.after old new
      lines.puts lines.backs;
}

-- a clause by rule step
module _ (hold : StepsHold) (proves : Bool) (x : Store) (clause : List Lit) (e f : Backing) (b c : Spending)
    (old new : Option (List ℕ)) (done : Bool) (below : HaveRegexesBelow (length x.arena) e.atoms)
    (known : are_atoms e.atoms clause ≡ true) (step : is_step (atoms_in x.arena e.atoms) clause ≡ true)
    (h : Steps clause proves b c e f old new done) where
  pub step-atoms : f.atoms ≡ e.atoms
  step-atoms = elim h.is [
    | inl same ↦ ap (λ (g : Backing). g.atoms) same
    | inr more ↦ ap (λ (g : Backing). g.atoms) more
  ]

  step-stays : KeptStay e.kept f.kept
  step-stays = λ id k there. elim h.is [
    | inl same ↦ ap (λ (g : Backing). kept_at g.kept id) same ∙ there
    | inr more ↦ ap (λ (g : Backing). kept_at g.kept id) more
        ∙ kept-stays e.kept (Some (record { literals = clause; level = 0 }) ∷ []) id k there
  ]

  pub goes-step : Goes proves x e b old x f c new
  goes-step = record {
    store = regexes_same x;
    below = below;
    regexes = subst (HaveRegexesBelow (length x.arena)) (sym step-atoms) below;
    atoms = record { more = []; is = step-atoms ∙ sym (append-nil e.atoms) };
    asserted = elim h.is [
      | inl same ↦ ap (λ (g : Backing). g.asserted) same
      | inr more ↦ ap (λ (g : Backing). g.asserted) more
    ];
    stay = step-stays;
    gates = λ had.
        subst (λ (ts : List (AtomOver ℕ)). HasGates (length ts) ts f.kept) (sym step-atoms)
        (gates-stay (length e.atoms) e.atoms e.kept f.kept step-stays had);
    declared = λ sorts had. subst (λ (ts : List (AtomOver ℕ)). are_declared sorts ts ≡ true) (sym step-atoms) had;
    limit = h.limit;
    spends = h.spends;
    puts = λ on asked kept backs counted. h.puts on asked x.arena x.graph.memo kept step backs counted;
    sound = λ off asked terms t. elim h.is [
      | inl same ↦ subst (λ (g : Backing). IsTrue asked x.arena x.graph.memo g) (sym same) t
      | inr more ↦ true-kept asked x.arena x.graph.memo e f clause more known
          (λ v words. hold v (atoms_in x.arena e.atoms) clause step) t
    ];
  }

-- Which clauses are steps.

atom-there : (rs : List Regex) (atoms : List (AtomOver ℕ)) (i : ℕ) (ps : List Piece) (r : ℕ)
    → Names atoms i (in_atom ps r) → slice_get (atoms_in rs atoms) i ≡ Some (in_atom ps (regex_at rs r))
atom-there rs atoms i ps r named = slice_get-map (over rs) atoms i ∙ ap (option_map (over rs)) named

-- of the empty word
pub end-step : StepsAreExact → (rs : List Regex) (atoms : List (AtomOver ℕ)) (i r : ℕ) (b : Bool)
    → Names atoms i (in_atom [] r) → nullable (regex_at rs r) ≡ b
    → is_step (atoms_in rs atoms) (of_sign b i ∷ []) ≡ true
end-step exact rs atoms i r true named is =
    (exact (atoms_in rs atoms) (of_sign true i ∷ [])).1
    (of_nullable i (regex_at rs r) (atom-there rs atoms i [] r named) is
    (record { no_others = λ l h. h; has_all = λ l h. h }))
end-step exact rs atoms i r false named is =
    (exact (atoms_in rs atoms) (of_sign false i ∷ [])).1
    (of_not_nullable i (regex_at rs r) (atom-there rs atoms i [] r named) is
    (record { no_others = λ l h. h; has_all = λ l h. h }))

turned : (l m x : Lit) → Contains (m ∷ l ∷ []) x → Contains (l ∷ m ∷ []) x
turned l m x h = elim (cons-cases m (l ∷ []) x h) [
  | inl one ↦ subst (Contains (l ∷ m ∷ [])) one (contains_later l (m ∷ []) m (contains_first m []))
  | inr more ↦ elim (cons-cases l [] x more) [
    | inl other ↦ subst (Contains (l ∷ m ∷ [])) other (contains_first l (m ∷ []))
    | inr none ↦ absurd (not-in-nil x none)
  ]
]

-- of a word, with its literals in either order
module _ (exact : StepsAreExact) (rs : List Regex) (atoms : List (AtomOver ℕ)) (i end : ℕ) (b : Bool)
    (h : IsCutAt rs atoms i end) where
  cut-form : (clause : List Lit) → IsSetOf clause (of_sign b i ∷ of_sign (not b) end ∷ [])
      → is_step (atoms_in rs atoms) clause ≡ true
  cut-form clause set =
      (exact (atoms_in rs atoms) clause).1
      (of_word i end h.0 [] (regex_at rs h.1) b (atom-there rs atoms i (word_piece h.0 ∷ []) h.1 h.3)
      (atom-there rs atoms end [] h.2 h.4 ∙ ap (λ (q : Regex). Some (in_atom [] q)) h.5) set)

  pub cut-step : is_step (atoms_in rs atoms) (of_sign b i ∷ of_sign (not b) end ∷ []) ≡ true
  cut-step = cut-form (of_sign b i ∷ of_sign (not b) end ∷ [])
      (record { no_others = λ l there. there; has_all = λ l there. there })

  pub cut-step-turned : is_step (atoms_in rs atoms) (of_sign (not b) end ∷ of_sign b i ∷ []) ≡ true
  cut-step-turned = cut-form (of_sign (not b) end ∷ of_sign b i ∷ []) (record {
    no_others = λ l there. turned (of_sign b i) (of_sign (not b) end) l there;
    has_all = λ l there. turned (of_sign (not b) end) (of_sign b i) l there;
  })

pub lower-first : (l m : Lit) → l.atom < m.atom → are_ascending (l ∷ m ∷ []) ≡ true
lower-first l m low = rw (lt-ltb l.atom m.atom low) refl

pub above : (i end : ℕ) → end ≤ i → i ≢ end → end < i
above i end low apart = step (nat_lt end i) refl
  where
    step : (b : Bool) → nat_lt end i ≡ b → end < i
    step true is = ltb-true end i is
    step false is =
        let high : i ≤ end = grind (arith, nat_tests) in
        let same : i ≡ end = omega (arith, low, high) in absurd (apart same)

pub both-known : (n : ℕ) (l m : Lit) → l.atom < n → m.atom < n
    → list_all (λ (k : Lit). nat_lt k.atom n) (l ∷ m ∷ []) ≡ true
both-known n l m first second =
    and_from (nat_lt l.atom n) (nat_lt m.atom n && true) (lt-ltb l.atom n first)
    (and_from (nat_lt m.atom n) true (lt-ltb m.atom n second) refl)

pub one-known : (n : ℕ) (l : Lit) → l.atom < n → list_all (λ (k : Lit). nat_lt k.atom n) (l ∷ []) ≡ true
one-known n l low = and_from (nat_lt l.atom n) true (lt-ltb l.atom n low) refl

-- Ends.

pub ends-still : (proves : Bool) (x y : Store) (e f : Backing) (b c : Spending) (old new : Option (List ℕ))
    → Goes proves x e b old y f c new → (was now : List Lit) → HasEnds e was now → HasEnds f was now
ends-still proves x y e f b c old new goes was now h = record {
  more = h.more;
  is = h.is;
  known = literals_still e.atoms f.atoms h.more goes.atoms h.known;
  own = λ some. goes.gates (h.own some);
}

pub ends-none : (e : Backing) (was : List Lit) → HasEnds e was was
ends-none e was =
    record { more = []; is = sym (append-nil was); known = refl; own = λ some. absurd (omega (arith, some)) }

pub ends-both : (e : Backing) (first was now : List Lit) → HasEnds e first was → HasEnds e was now
    → HasEnds e first now
ends-both e first was now p q = record {
  more = p.more ++ q.more;
  is = q.is ∙ ap (λ (ls : List Lit). ls ++ q.more) p.is ∙ append_assoc first p.more q.more;
  known = list_all-append (λ (l : Lit). is_atom e.atoms l.atom) p.more q.more
      ∙ and_from (are_atoms e.atoms p.more) (are_atoms e.atoms q.more) p.known q.known;
  own = λ some. gates p.more p.own some;
}
  where
    gates : (ls : List Lit) → (0 < length ls → HasGates (length e.atoms) e.atoms e.kept)
        → 0 < length (ls ++ q.more) → HasGates (length e.atoms) e.atoms e.kept
    gates [] first some = q.own some
    gates (l ∷ ls) first some = first (omega arith)

pub ends-one : (e : Backing) (was now : List Lit) (end : ℕ) → now ≡ was ++ of_sign true end ∷ []
    → end < length e.atoms → HasGates (length e.atoms) e.atoms e.kept → HasEnds e was now
ends-one e was now end is low gates = record {
  more = of_sign true end ∷ [];
  is = is;
  known = one-known (length e.atoms) (of_sign true end) low;
  own = λ some. gates;
}

-- the literals with the ends are of known atoms
pub with-ends-known : (e f : Backing) (asked ends : List Lit) → table.Extends e.atoms f.atoms
    → are_atoms e.atoms asked ≡ true → HasEnds f [] ends → are_atoms f.atoms (asked ++ ends) ≡ true
with-ends-known e f asked ends extends known h =
    list_all-append (λ (l : Lit). is_atom f.atoms l.atom) asked ends
    ∙ and_from (are_atoms f.atoms asked) (are_atoms f.atoms ends)
    (literals_still e.atoms f.atoms asked extends known)
    (ap (are_atoms f.atoms) h.is ∙ h.known)

-- a number of atoms is one of a larger table
pub atom-known : (e f : List (AtomOver ℕ)) (xs : List ℕ) (i d : ℕ) → list_all (is_atom e) xs ≡ true → i < length xs
    → table.Extends e f → get_or xs i d < length f
atom-known e f xs i d known low extends =
    let there = all_at (is_atom e) xs i (get_or xs i d) known (slice_get-get_or xs i d low) in
    omega (arith, ltb-true (get_or xs i d) (length e) there, grown_long e f extends)

-- What comes of one clause.

pub end-steps : StepsAreExact → StepsHold → (proves : Bool) (x : Store) (e f : Backing) (b c : Spending)
    (old new : Option (List ℕ)) (i r : ℕ) (t done : Bool) → HaveRegexesBelow (length x.arena) e.atoms
    → Names e.atoms i (in_atom [] r) → nullable (regex_at x.arena r) ≡ t
    → Steps (of_sign t i ∷ []) proves b c e f old new done → StepsOnce proves x e b old f c new done
end-steps exact hold proves x e f b c old new i r t done below named is h =
    let known = one-known (length e.atoms) (of_sign t i) (slice_get_within e.atoms i (in_atom [] r) named) in
    let step = end-step exact x.arena e.atoms i r t named is in
    record {
      goes = goes-step hold proves x (of_sign t i ∷ []) e f b c old new done below known step h;
      same = step-atoms hold proves x (of_sign t i ∷ []) e f b c old new done below known step h;
      spent = h.spent;
    }

module _ (exact : StepsAreExact) (hold : StepsHold) (proves : Bool) (x : Store) (e f : Backing) (b c : Spending)
    (old new : Option (List ℕ)) (i end : ℕ) (t done : Bool) (below : HaveRegexesBelow (length x.arena) e.atoms)
    (first : i < length e.atoms) (second : end < length e.atoms) (at : IsCutAt x.arena e.atoms i end) where
  pub cut-steps : Steps (of_sign t i ∷ of_sign (not t) end ∷ []) proves b c e f old new done
      → StepsOnce proves x e b old f c new done
  cut-steps h =
      let clause = of_sign t i ∷ of_sign (not t) end ∷ [] in
      let known = both-known (length e.atoms) (of_sign t i) (of_sign (not t) end) first second in
      let step = cut-step exact x.arena e.atoms i end t at in
      record {
        goes = goes-step hold proves x clause e f b c old new done below known step h;
        same = step-atoms hold proves x clause e f b c old new done below known step h;
        spent = h.spent;
      }

  pub cut-steps-turned : Steps (of_sign (not t) end ∷ of_sign t i ∷ []) proves b c e f old new done
      → StepsOnce proves x e b old f c new done
  cut-steps-turned h =
      let clause = of_sign (not t) end ∷ of_sign t i ∷ [] in
      let known = both-known (length e.atoms) (of_sign (not t) end) (of_sign t i) second first in
      let step = cut-step-turned exact x.arena e.atoms i end t at in
      record {
        goes = goes-step hold proves x clause e f b c old new done below known step h;
        same = step-atoms hold proves x clause e f b c old new done below known step h;
        spent = h.spent;
      }

-- What comes of one atom.

-- of the empty word
pub end-settles : (proves : Bool) (x : Store) (e f : Backing) (b c : Spending) (old new : Option (List ℕ))
    (was : List Lit) (done : Bool) → StepsOnce proves x e b old f c new done
    → Settles proves x e b old was x f c new was done
end-settles proves x e f b c old new was done h =
    record { goes = h.goes; spent = h.spent; ends = ends-none f was }

-- of none
pub other-settled : (proves : Bool) (x : Store) (e : Backing) (b : Spending) (told : Option (List ℕ)) (was : List Lit)
    → HaveRegexesBelow (length x.arena) e.atoms → Settles proves x e b told was x e b told was true
other-settled proves x e b told was below = record {
  goes = goes-none proves x e b told below;
  spent = λ not_done. absurd (false≢true (sym not_done));
  ends = ends-none e was;
}

-- of a word, where all is spent
pub word-spent : (proves : Bool) (x y : Store) (e f : Backing) (b c : Spending) (old new : Option (List ℕ))
    (was : List Lit) → Goes proves x e b old y f c new → c.spent ≡ c.limit
    → Settles proves x e b old was y f c new was false
word-spent proves x y e f b c old new was goes spent =
    record { goes = goes; spent = λ not_done. spent; ends = ends-none f was }

-- and where it is not
pub word-settles : (proves : Bool) (x y : Store) (e f g k : Backing) (b c d : Spending)
    (first second third last : Option (List ℕ)) (end rest : ℕ) (was now : List Lit)
    → Goes proves x e b first y f b second → Names f.atoms end (in_atom [] rest)
    → HasGates (length f.atoms) f.atoms f.kept → StepsOnce proves y f b second g c third true
    → StepsOnce proves y g c third k d last true → now ≡ was ++ of_sign true end ∷ []
    → Settles proves x e b first was y k d last now true
word-settles proves x y e f g k b c d first second third last end rest was now start named gates one cut pushed =
    let both = goes-both proves y y y f g k b c d second third last one.goes cut.goes in
    record {
      goes = goes-both proves x y y e f k b b d first second last start both;
      spent = λ not_done. absurd (false≢true (sym not_done));
      ends = ends-one k was now end pushed
          (omega (arith, slice_get_within f.atoms end (in_atom [] rest) named, grown_long f.atoms k.atoms both.atoms))
          (both.gates gates);
    }

-- what comes in front
pub word-starts : FollowsByRule → LineStaysSound → CountedAgainStaysSound → (proves : Bool) (x y : Store)
    (e f : Backing) (b : Spending) (old new : Option (List ℕ)) (r n : ℕ) → HaveRegexesBelow (length x.arena) e.atoms
    → RegexesGrow x y → IsAlone y.arena (in_atom [] r) e f old new n → Goes proves x e b old y f b new
word-starts rule line again proves x y e f b old new r n below grows alone =
    goes-both proves x y y e e f b b b old old new (goes-grown proves x y e b old below grows)
    (goes-end rule line again proves y e f b old new r n
    (regexes_kept x.arena y.arena e.atoms grows.more.extends below) alone)

same-pieces : (ps qs : List Piece) (r s : ℕ) → ◌≡◌ {A = AtomOver ℕ} (in_atom ps r) (in_atom qs s) → ps ≡ qs
same-pieces ps qs r s e = cc

-- where the one atom says that a word is in a regex, and the other that the empty word is in one, they are two
pub two-atoms : (atoms : List (AtomOver ℕ)) (i end : ℕ) (w : List ℕ) (r q : ℕ)
    → Names atoms i (in_atom (word_piece w ∷ []) r) → Names atoms end (in_atom [] q) → i ≢ end
two-atoms atoms i end w r q one other same =
    some-pieces (same-pieces (word_piece w ∷ []) [] r q
    (same_Some (in_atom (word_piece w ∷ []) r) (in_atom [] q)
    (sym one ∙ ap (slice_get atoms) same ∙ other)))
  where
    some-pieces : ◌≡◌ {A = List Piece} (word_piece w ∷ []) [] → ⊥
    some-pieces e = Prim.cc (e)

-- What comes of all.

pub all-none : (proves : Bool) (x : Store) (e : Backing) (b : Spending) (told : Option (List ℕ))
    → HaveRegexesBelow (length x.arena) e.atoms → AllSettle proves x e b told x e b told []
all-none proves x e b told below = record { goes = goes-none proves x e b told below; ends = ends-none e [] }

pub all-more : (proves : Bool) (x y z : Store) (e f g : Backing) (a b c : Spending) (old mid new : Option (List ℕ))
    (was now : List Lit) → AllSettle proves x e a old y f b mid was
    → Settles proves y f b mid was z g c new now true → AllSettle proves x e a old z g c new now
all-more proves x y z e f g a b c old mid new was now h one = record {
  goes = goes-both proves x y z e f g a b c old mid new h.goes one.goes;
  ends = ends-both g [] was now (ends-still proves y z f g b c mid new one.goes [] was h.ends) one.ends;
}

pub settlement-spent : (proves : Bool) (x y z : Store) (e f g : Backing) (a b c : Spending)
    (old mid new : Option (List ℕ)) (was now : List Lit) → Goes proves x e a old y f b mid
    → Settles proves y f b mid was z g c new now false
    → Goes proves x e a old z g c new × (c.spent ≡ c.limit)
settlement-spent proves x y z e f g a b c old mid new was now h one =
    (goes-both proves x y z e f g a b c old mid new h one.goes, one.spent refl)

-- Words of memberships.

pub some-word : (w : List ℕ) → (length w == 0) ≡ false → pieces_of_word w ≡ word_piece w ∷ []
some-word [] h = absurd (false≢true (sym h))
some-word (c ∷ w) h = refl

pub no-word : (w : List ℕ) → (length w == 0) ≡ true → w ≡ []
no-word [] h = refl
no-word (c ∷ w) h =
    let none : length (c ∷ w) ≡ 0 = eqb-true (length (c ∷ w)) 0 h in absurd (omega (arith, none))

pub bare-named : (atoms : List (AtomOver ℕ)) (i : ℕ) (g : Bare) → IsBare atoms i (Some g)
    → Names atoms i (in_atom (pieces_of_word g.word.items) g.regex) × IsWord g.word.items
bare-named atoms i g h = step h.0 h.1 h.2
  where
    step : (a : AtomOver ℕ) → Names atoms i a → IsBareAtom a (Some g)
        → Names atoms i (in_atom (pieces_of_word g.word.items) g.regex) × IsWord g.word.items
    step (in_atom ps r) named is =
        (named ∙ ap₂ (λ (qs : List Piece) (s : ℕ). Some (in_atom qs s)) is.0 is.1, is.2)
    step (bool_atom serial) named is = absurd is
    step (le_atom x k) named is = absurd is
    step (sum_atom k ss) named is = absurd is
    step (and_atom ls) named is = absurd is
    step (iff_atom l m) named is = absurd is

-- The numbers of what is asked are those of the table.
pub numbers-known : (atoms now : List (AtomOver ℕ)) (literals : List Lit) (keys : List ℕ) → now ≡ atoms
    → NameEarlier 0 atoms → are_atoms atoms literals ≡ true
    → ((rs : List Regex) → is_table (atoms_in rs now) ≡ true → are_atoms now literals ≡ true
    → list_all (is_atom now) keys ≡ true)
    → list_all (is_atom atoms) keys ≡ true
numbers-known atoms now literals keys same earlier known h =
    subst (λ (ts : List (AtomOver ℕ)). (rs : List Regex) → is_table (atoms_in rs ts) ≡ true
    → are_atoms ts literals ≡ true → list_all (is_atom ts) keys ≡ true) same h [] (earlier_table [] atoms earlier) known
