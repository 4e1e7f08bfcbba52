-- The lines of atoms of any kind follow.
use Rattle.sb_proof.specs.declared.atom.Piece as code
use Rattle.sb_regex.specs.Numbered as regex
use Rattle.sb_split.proofs.Words.{◌≡◌, ℕ, zero, suc, ◌+◌, ◌^◌, ◌<◌, Bool, true, false, ◌||◌, if◌then◌else◌, List, [], ◌∷◌, ◌++◌, length, take, slice_get, Option, Some, None, option_map, Result, Ok, Err, refl, sym, ap, ap₂, subst, ◌∙◌, arith, get_or, map, list_all, list_any, and_from, lt-ltb, slice_get_within, slice_get-map, get_or_from_slice_get, map-append, take_more, take_at, length-map, length-take-le, all_push, Regex, Memo, line, Atom, AtomOver, Kept, Piece, bool_atom, in_atom, le_atom, sum_atom, and_atom, iff_atom, is_same_atom, same_atom, is_well_formed, has_its_parts, with_regex, defined, is_brought, AllKept, Asked, atom_line, text_of, is_small, is_small_piece, atom_has_text, by_rule, not_brought, follows, Refusal, unknown_id, repeated, not_normal, OrderTellsApart, piece_in, with_bytes, regex_at, Names, AreDistinct, Extends, over, atoms_in, HasRegexBelow, HaveRegexesBelow, over_one, Traced, Tracks, TracesUncounted, puts_none, puts_one, puts_both, AreDue, DefinesAtoms, IsLineOf, IsWritten}

-- regexes stay as they are
pub tracks_beside : (rs : List Regex) (memo : Memo) (t : Traced) (kept : AllKept) (atoms : List Atom) (clauses : Kept)
    (rests : List (List ℕ)) → Tracks rs memo t kept
    → Tracks rs memo t (record kept { atoms = atoms; clauses = clauses; rests = rests })
tracks_beside rs memo t kept atoms clauses rests h = record {
  numbers = h.numbers;
  regexes = h.regexes;
  expansions_long = h.expansions_long;
  dead_long = h.dead_long;
  expanded = h.expanded;
  dead = h.dead;
  targets = h.targets;
}

-- The atoms before a number.

names_front : (atoms : List (AtomOver ℕ)) (n k : ℕ) (a : AtomOver ℕ) → Names (take n atoms) k a
    → (k < n) × Names atoms k a
names_front atoms zero k a h = absurd (omega (arith, slice_get_within [] k a h))
names_front [] (suc n) k a h = absurd (omega (arith, slice_get_within [] k a h))
names_front (x ∷ atoms) (suc n) zero a h = (omega arith, h)
names_front (x ∷ atoms) (suc n) (suc k) a h =
    let rest = names_front atoms n k a h in let low = rest.0 in (omega (arith, low), rest.1)

take_one : (atoms : List (AtomOver ℕ)) (n : ℕ) (a : AtomOver ℕ) → Names atoms n a
    → take (n + 1) atoms ≡ take n atoms ++ a ∷ []
take_one atoms n a h =
    take_more atoms n a (slice_get_within atoms n a h)
    ∙ ap (λ b. take n atoms ++ b ∷ []) (get_or_from_slice_get atoms n a a h)

-- An atom that is not there is defined.

formed_over : (rs : List Regex) (a : AtomOver ℕ) → is_well_formed (over rs a) ≡ is_well_formed a
formed_over rs (bool_atom serial) = refl
formed_over rs (in_atom ps r) = refl
formed_over rs (le_atom x k) = refl
formed_over rs (sum_atom k ss) = refl
formed_over rs (and_atom ls) = refl
formed_over rs (iff_atom l m) = refl

module _ (apart : OrderTellsApart) (rs : List Regex) (once : regex.AreDistinct rs) (a : AtomOver ℕ)
    (its : HasRegexBelow (length rs) a) where
  absent : (old : List (AtomOver ℕ)) → HaveRegexesBelow (length rs) old → ((k : ℕ) → Names old k a → ⊥)
      → list_any (is_same_atom (over rs a)) (atoms_in rs old) ≡ false
  absent [] below new = refl
  absent (b ∷ bs) below new =
      step (is_same_atom (over rs a) (over rs b)) refl
      (absent bs (λ k c h. below (suc k) c h) (λ k h. new (suc k) h))
    where
      step : (same : Bool) → is_same_atom (over rs a) (over rs b) ≡ same
          → list_any (is_same_atom (over rs a)) (atoms_in rs bs) ≡ false
          → (same || list_any (is_same_atom (over rs a)) (atoms_in rs bs)) ≡ false
      step true is rest =
          absurd (new 0 (ap Some
          (sym (over_one rs a b once its (below 0 b refl) (same_atom apart (over rs a) (over rs b) is)))))
      step false is rest = rest

  any_follows : (asked : Asked) (kept : AllKept) (old : List (AtomOver ℕ)) (l : AtomOver ℕ)
      → HaveRegexesBelow (length rs) old → kept.atoms ≡ atoms_in rs old → ((k : ℕ) → Names old k a → ⊥)
      → is_brought (atom_line l) ≡ true → with_regex kept.regexes l ≡ Some (over rs a)
      → has_its_parts asked.sorts kept.atoms l ≡ true → is_well_formed a ≡ true
      → follows asked kept (atom_line l) ≡ Ok (record kept { atoms = atoms_in rs (old ++ a ∷ []) })
  any_follows asked kept old l below atoms new known found parts formed =
      ap (λ b. if b then by_rule asked kept (atom_line l) else not_brought (by_rule asked kept (atom_line l))) known
      ∙ ap (λ o. elim o as (λ _. Result AllKept Refusal) [
        | None ↦ Err unknown_id
        | Some atom ↦ if has_its_parts asked.sorts kept.atoms l then defined kept atom else Err unknown_id
      ]) found
      ∙ ap (λ b. if b then defined kept (over rs a) else Err unknown_id) parts
      ∙ ap (λ b. if b then Err repeated
      else if is_well_formed (over rs a) then Ok (record kept { atoms = kept.atoms ++ over rs a ∷ [] })
      else Err not_normal)
      (ap (list_any (is_same_atom (over rs a))) atoms ∙ absent old below new)
      ∙ ap (λ b. if b then Ok (record kept { atoms = kept.atoms ++ over rs a ∷ [] }) else Err not_normal)
      (formed_over rs a ∙ formed)
      ∙ ap (λ (all : List Atom). Ok (record kept { atoms = all }))
      (ap (λ (all : List Atom). all ++ over rs a ∷ []) atoms ∙ sym (map-append (over rs) old (a ∷ [])))

-- The atom as its line has it.

-- without a regex
pub plain_line : (asked : Asked) (before : AllKept) (rs : List Regex) (memo : Memo) (t : Traced) (a l b : AtomOver ℕ)
    (told : Option (List ℕ)) → a ≡ b → IsWritten b l → is_brought (atom_line b) ≡ true
    → ((known : List Regex) → with_regex known b ≡ Some (over rs b))
    → Tracks rs memo t before → IsLineOf asked before rs memo t a l told told
plain_line asked before rs memo t a l b told is written brought plain tracks =
    subst (λ (c : AtomOver ℕ). IsLineOf asked before rs memo t c l told told) (sym is)
    (subst (λ (m : AtomOver ℕ). IsLineOf asked before rs memo t b m told told) (sym written.0) (record {
      traced = (
        before,
        puts_none asked before told,
        tracks,
        record { format = refl; atoms = refl; clauses = refl; rests = refl },
        refl,
      );
      defined = plain before.regexes;
      brought = brought;
      parts = λ sorts atoms. refl;
      text = ap atom_has_text (sym written.0) ∙ written.1;
    }))

-- with the number of its regex
pub member_line : (asked : Asked) (before : AllKept) (rs : List Regex) (memo : Memo) (t : Traced) (r n : ℕ)
    (ps qs : List Piece) (old new : Option (List ℕ)) → ps ≡ qs → list_all is_small_piece qs ≡ true → n < 2 ^ 64
    → slice_get t.order n ≡ Some r → TracesUncounted asked before rs memo t old new
    → IsLineOf asked before rs memo t (in_atom qs r) (in_atom ps n) old new
member_line asked before rs memo t r n ps qs old new is small fits number traced =
    subst (λ (xs : List Piece). IsLineOf asked before rs memo t (in_atom qs r) (in_atom xs n) old new) (sym is)
    (record {
      traced = traced;
      defined = ap (option_map {T = Regex} (in_atom qs))
          (ap (λ known. slice_get known n) traced.2.regexes ∙ slice_get-map (regex_at rs) t.order n
          ∙ ap (option_map (regex_at rs)) number);
      brought = refl;
      parts = λ sorts atoms. refl;
      text = and_from (list_all is_small_piece qs) (is_small n) small (lt-ltb n (2 ^ 64) fits);
    })

-- Pieces that are copied.

pub pieces_more : (ps : List code.Piece) (i : ℕ) (d : code.Piece) (now new : List code.Piece) (p : code.Piece)
    → i < length ps
    → (map piece_in now ≡ map piece_in (take i ps)) × (list_all is_small_piece (map piece_in (take i ps)) ≡ true)
    → piece_in p ≡ piece_in (get_or ps i d) → is_small_piece (piece_in (get_or ps i d)) ≡ true → new ≡ now ++ p ∷ []
    → (map piece_in new ≡ map piece_in (take (i + 1) ps))
    × (list_all is_small_piece (map piece_in (take (i + 1) ps)) ≡ true)
pieces_more ps i d now new p within before is small pushed = (
  ap (map piece_in) pushed ∙ map-append piece_in now (p ∷ [])
      ∙ ap₂ (λ (xs : List Piece) (x : Piece). xs ++ x ∷ []) before.0 is ∙ sym taken,
  ap (list_all is_small_piece) taken
      ∙ all_push is_small_piece (map piece_in (take i ps)) (piece_in (get_or ps i d)) before.1 small,
)
  where
    taken : map piece_in (take (i + 1) ps) ≡ map piece_in (take i ps) ++ piece_in (get_or ps i d) ∷ []
    taken = ap (map piece_in) (take_more ps i d within) ∙ map-append piece_in (take i ps) (get_or ps i d ∷ [])

-- Lines one behind another.

pub defines_none : (asked : Asked) (before : AllKept) (rs : List Regex) (memo : Memo) (t : Traced)
    (atoms : List (AtomOver ℕ)) (told : Option (List ℕ)) → Tracks rs memo t before → before.atoms ≡ atoms_in rs atoms
    → DefinesAtoms asked before rs memo t atoms told told
defines_none asked before rs memo t atoms told tracks is = record {
  after = before;
  puts = puts_none asked before told;
  tracks = tracks;
  atoms = is;
  clauses = refl;
  counted = refl;
}

pub defines_both : (asked : Asked) (before : AllKept) (rs : List Regex) (memo : Memo) (t u : Traced)
    (mids all : List (AtomOver ℕ)) (old mid new : Option (List ℕ)) → DefinesAtoms asked before rs memo t mids old mid
    → ((after : AllKept) → Tracks rs memo t after → after.atoms ≡ atoms_in rs mids
    → DefinesAtoms asked after rs memo u all mid new)
    → DefinesAtoms asked before rs memo u all old new
defines_both asked before rs memo t u mids all old mid new p second =
    let q = second p.after p.tracks p.atoms in
    record {
      after = q.after;
      puts = puts_both asked before p.after q.after old mid new p.puts q.puts;
      tracks = q.tracks;
      atoms = q.atoms;
      clauses = q.clauses ∙ p.clauses;
      counted = q.counted ∙ p.counted;
    }

pub defines_one : OrderTellsApart → (asked : Asked) (before : AllKept) (rs : List Regex) (memo : Memo) (t : Traced)
    (atoms : List (AtomOver ℕ)) (number : ℕ) (a l : AtomOver ℕ) (old mid new : Option (List ℕ)) → regex.AreDistinct rs
    → AreDistinct atoms → HaveRegexesBelow (length rs) atoms → Names atoms number a → AreDue asked number atoms
    → before.atoms ≡ atoms_in rs (take number atoms) → IsLineOf asked before rs memo t a l old mid
    → new ≡ with_bytes (line (text_of (atom_line l))) mid
    → DefinesAtoms asked before rs memo t (take (number + 1) atoms) old new
defines_one apart asked before rs memo t atoms number a l old mid new once distinct below names due start is told =
    subst (λ (all : List (AtomOver ℕ)). DefinesAtoms asked before rs memo t all old new)
    (sym (take_one atoms number a names))
    (record {
      after = after;
      puts = puts_both asked before is.traced.0 after old mid new is.traced.1
          (puts_one asked is.traced.0 after (atom_line l) mid new
          (any_follows apart rs once a (below number a names) asked is.traced.0 (take number atoms) l
          (λ k c h. below k c (names_front atoms number k c h).1) known
          (λ k h.
          let low = names_front atoms number k a h in
          let same = distinct k number a low.1 names in
          let less = low.0 in omega (arith, same, less))
          is.brought is.defined
          (is.parts asked.sorts is.traced.0.atoms
          ∙ (due number a (omega arith) names).1 is.traced.0.atoms
          (ap length known ∙ length-map (take number atoms) (over rs)
          ∙ length-take-le number atoms (omega (arith, slice_get_within atoms number a names))))
          (due number a (omega arith) names).0)
          is.text told);
      tracks = tracks_beside rs memo t is.traced.0 (atoms_in rs (take number atoms ++ a ∷ [])) is.traced.0.clauses
          is.traced.0.rests is.traced.2;
      atoms = refl;
      clauses = is.traced.3.clauses;
      counted = is.traced.4;
    })
  where
    known : is.traced.0.atoms ≡ atoms_in rs (take number atoms)
    known = is.traced.3.atoms ∙ start

    after : AllKept
    after = record is.traced.0 { atoms = atoms_in rs (take number atoms ++ a ∷ []) }

-- the old atoms are those before the first new one
pub take_known : (old new : List (AtomOver ℕ)) (known : ℕ) → Extends old new → known ≡ length old → take known new ≡ old
take_known old new known extends is = ap (take known) extends.is ∙ take_at old extends.more known (sym is)
