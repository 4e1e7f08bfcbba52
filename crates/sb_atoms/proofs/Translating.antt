-- The literal of an atom over a table.
use Rattle.std.proofs.Common.{◌≡◌, ℕ, zero, suc, ◌+◌, Bool, true, false, cond, Some, List, []}
use Rattle.std.proofs.Common.{◌∷◌, length, slice_get, refl, sym, ap, ap₂, ◌∙◌, arith}
use Rattle.std.specs.List.{position_from}
use Rattle.std.specs.Prelude.{ℤ, None, option_map}
use Rattle.std.proofs.lemmas.Bool.{false≢true}
use Rattle.std.proofs.lemmas.Option.{slice_get_within, slice_get-map, same_Some}
use Rattle.sb_facts.proofs.CallerLemmas.{some-none, get_mapped}
use Rattle.sb_lit.specs.declared.clause.Lit.{Lit}
use Rattle.sb_lang.specs.Regex.{Regex}
use Rattle.sb_lang.specs.OrderLaws.{OrderTellsApart}
use Rattle.sb_regex.specs.Numbered.{regex_at}
use Rattle.sb_regex.specs.Numbered as regex
use Rattle.sb_rulebook.specs.Atoms.{Atom, AtomOver, bool_atom, in_atom, le_atom, sum_atom, and_atom, iff_atom}
use Rattle.sb_rulebook.specs.Atoms.{is_same_atom, number_of}
use Rattle.sb_rulebook.proofs.CallerLemmas.{same_atom, atom_itself}
use Rattle.sb_script.specs.Pieces.{Piece}
use Rattle.sb_script.specs.Sums.{Variable, Summand}
use Rattle.sb_atoms.specs.Growing.{IsApart, IsLiteralOf}
use Rattle.sb_atoms.proofs.AtomEq.{other_kinds, bool_part, and_part, iff_parts}
use Rattle.sb_atoms.specs.Numbered.{Names, IsNumberIn, AreDistinct, over, atoms_in}
use Rattle.sb_atoms.specs.Numbered.{HasRegexBelow, HaveRegexesBelow}

-- Equal atoms over an arena are one.

in_parts : (ps qs : List Piece) (r q : Regex) → in_atom ps r ≡ in_atom qs q → (ps ≡ qs) × (r ≡ q)
in_parts ps qs r q e = (cc, cc)

le_parts : (x y : Variable) (k j : ℤ) → ◌≡◌ {A = Atom} (le_atom x k) (le_atom y j) → (x ≡ y) × (k ≡ j)
le_parts x y k j e = (cc, cc)

sum_parts : (k j : ℤ) (ss ts : List Summand) → ◌≡◌ {A = Atom} (sum_atom k ss) (sum_atom j ts) → (k ≡ j) × (ss ≡ ts)
sum_parts k j ss ts e = (cc, cc)

pub over_one : (rs : List Regex) (a b : AtomOver ℕ) → regex.AreDistinct rs → HasRegexBelow (length rs) a
    → HasRegexBelow (length rs) b → over rs a ≡ over rs b → a ≡ b
over_one rs (bool_atom s) (bool_atom t) once p q e = ap bool_atom (bool_part s t e)
over_one rs (in_atom ps r) (in_atom qs s) once p q e =
    let parts = in_parts ps qs (regex_at rs r) (regex_at rs s) e in ap₂ in_atom parts.0 (once r s p q parts.1)
over_one rs (le_atom x k) (le_atom y j) once p q e = let parts = le_parts x y k j e in ap₂ le_atom parts.0 parts.1
over_one rs (sum_atom k ss) (sum_atom j ts) once p q e =
    let parts = sum_parts k j ss ts e in ap₂ sum_atom parts.0 parts.1
over_one rs (and_atom ls) (and_atom ms) once p q e = ap and_atom (and_part ls ms e)
over_one rs (iff_atom l m) (iff_atom k n) once p q e = let parts = iff_parts l m k n e in ap₂ iff_atom parts.0 parts.1
over_one rs a b once p q e = absurd (other_kinds _ _ refl e)

-- Where an atom stands.

nothing : {X : Type 0} (x : X) (n : ℕ) → slice_get {X = X} [] n ≡ Some x → ⊥
nothing x n h = omega (arith, slice_get_within [] n x h)

position_there : {A : Type 0} (test : A → Bool) (xs : List A) (i n : ℕ) (x : A) → slice_get xs n ≡ Some x
    → test x ≡ true → ((k : ℕ) (y : A) → slice_get xs k ≡ Some y → test y ≡ true → k ≡ n)
    → position_from test i xs ≡ Some (i + n)
position_there test [] i n x h passes only = absurd (nothing x n h)
position_there test (y ∷ ys) i zero x h passes only =
    ap (λ b. cond b (Some i) (position_from test (i + 1) ys)) (ap test (same_Some y x h) ∙ passes)
    ∙ ap Some (omega arith)
position_there {A} test (y ∷ ys) i (suc n) x h passes only =
    ap (λ b. cond b (Some i) (position_from test (i + 1) ys)) (first (test y) refl)
    ∙ position_there test ys (i + 1) n x h passes (λ k z g t. later k (only (suc k) z g t))
    ∙ ap Some (omega arith)
  where
    first : (b : Bool) → test y ≡ b → test y ≡ false
    first true is = absurd (apart (only 0 y refl is))
      where
        apart : 0 ≡ suc n → ⊥
        apart e = omega (arith, e)
    first false is = is

    later : (k : ℕ) → suc k ≡ suc n → k ≡ n
    later k e = omega (arith, e)

position_none : {A : Type 0} (test : A → Bool) (xs : List A) (i : ℕ)
    → ((k : ℕ) (y : A) → slice_get xs k ≡ Some y → test y ≡ true → ⊥) → position_from test i xs ≡ None
position_none test [] i none = refl
position_none test (y ∷ ys) i none =
    ap (λ b. cond b (Some i) (position_from test (i + 1) ys)) (first (test y) refl)
    ∙ position_none test ys (i + 1) (λ k z g t. none (suc k) z g t)
  where
    first : (b : Bool) → test y ≡ b → test y ≡ false
    first true is = absurd (none 0 y refl is)
    first false is = is

-- Which atoms are told apart by what they are over the regexes.

pub apart_in : (rs : List Regex) (atoms : List (AtomOver ℕ)) (a : AtomOver ℕ) → regex.AreDistinct rs
    → HaveRegexesBelow (length rs) atoms → HasRegexBelow (length rs) a → IsApart rs atoms a
apart_in rs atoms a once below its = λ i b h e. over_one rs b a once (below i b h) its e

over_bool : (rs : List Regex) (s : ℕ) (b : AtomOver ℕ) → over rs b ≡ bool_atom s → b ≡ bool_atom s
over_bool rs s (bool_atom t) e = ap bool_atom (bool_part t s e)
over_bool rs s (in_atom ps r) e = absurd (other_kinds _ _ refl e)
over_bool rs s (le_atom x k) e = absurd (other_kinds _ _ refl e)
over_bool rs s (sum_atom k ss) e = absurd (other_kinds _ _ refl e)
over_bool rs s (and_atom ls) e = absurd (other_kinds _ _ refl e)
over_bool rs s (iff_atom l m) e = absurd (other_kinds _ _ refl e)

over_and : (rs : List Regex) (ls : List Lit) (b : AtomOver ℕ) → over rs b ≡ and_atom ls → b ≡ and_atom ls
over_and rs ls (bool_atom t) e = absurd (other_kinds _ _ refl e)
over_and rs ls (in_atom ps r) e = absurd (other_kinds _ _ refl e)
over_and rs ls (le_atom x k) e = absurd (other_kinds _ _ refl e)
over_and rs ls (sum_atom k ss) e = absurd (other_kinds _ _ refl e)
over_and rs ls (and_atom ms) e = ap and_atom (and_part ms ls e)
over_and rs ls (iff_atom l m) e = absurd (other_kinds _ _ refl e)

over_iff : (rs : List Regex) (l m : Lit) (b : AtomOver ℕ) → over rs b ≡ iff_atom l m → b ≡ iff_atom l m
over_iff rs l m (bool_atom t) e = absurd (other_kinds _ _ refl e)
over_iff rs l m (in_atom ps r) e = absurd (other_kinds _ _ refl e)
over_iff rs l m (le_atom x k) e = absurd (other_kinds _ _ refl e)
over_iff rs l m (sum_atom k ss) e = absurd (other_kinds _ _ refl e)
over_iff rs l m (and_atom ms) e = absurd (other_kinds _ _ refl e)
over_iff rs l m (iff_atom k n) e = let p = iff_parts k n l m e in ap₂ iff_atom p.0 p.1

pub apart_bool : (rs : List Regex) (atoms : List (AtomOver ℕ)) (s : ℕ) → IsApart rs atoms (bool_atom s)
apart_bool rs atoms s = λ i b h e. over_bool rs s b e

pub apart_and : (rs : List Regex) (atoms : List (AtomOver ℕ)) (ls : List Lit) → IsApart rs atoms (and_atom ls)
apart_and rs atoms ls = λ i b h e. over_and rs ls b e

pub apart_iff : (rs : List Regex) (atoms : List (AtomOver ℕ)) (l m : Lit) → IsApart rs atoms (iff_atom l m)
apart_iff rs atoms l m = λ i b h e. over_iff rs l m b e

module _ (order : OrderTellsApart) (rs : List Regex) (atoms : List (AtomOver ℕ)) (a : AtomOver ℕ)
    (apart : IsApart rs atoms a) where
  same_one : (k : ℕ) (y : Atom) → slice_get (atoms_in rs atoms) k ≡ Some y → is_same_atom (over rs a) y ≡ true
      → Names atoms k a
  same_one k y h t =
      let at = get_mapped (over rs) atoms k y h in
      at.1 ∙ ap Some (apart k at.0 at.1 (at.2 ∙ sym (same_atom order (over rs a) y t)))

  number_there : (n : ℕ) → AreDistinct atoms → Names atoms n a → number_of (atoms_in rs atoms) (over rs a) ≡ Some n
  number_there n distinct h =
      position_there (is_same_atom (over rs a)) (atoms_in rs atoms) 0 n (over rs a)
      (slice_get-map (over rs) atoms n ∙ ap (option_map (over rs)) h) (atom_itself order (over rs a))
      (λ k y g t. distinct k n a (same_one k y g t) h)
      ∙ ap Some (omega arith)

  number_missing : ((i : ℕ) → Names atoms i a → ⊥) → number_of (atoms_in rs atoms) (over rs a) ≡ None
  number_missing none =
      position_none (is_same_atom (over rs a)) (atoms_in rs atoms) 0 (λ k y g t. none k (same_one k y g t))

-- The literal of the atom.

pub literal_there : (order : OrderTellsApart) (adds : Bool) (atoms : List (AtomOver ℕ)) (a : AtomOver ℕ) (id : ℕ) (l : Lit)
    → AreDistinct atoms → Names atoms id a → l ≡ record { atom = id; positive = true }
    → IsLiteralOf adds atoms a (Some l)
literal_there order adds atoms a id l distinct names e = record {
  is = λ rs apart.
      ap Some e
      ∙ sym (ap (option_map (λ k. record { atom = k; positive = true }))
      (number_there order rs atoms a apart id distinct names));
  sure = λ on none. some-none l none;
  names = λ k h.
      let same = same_Some l k h in
      (ap (λ (m : Lit). slice_get atoms m.atom) (sym same ∙ e) ∙ names, ap (λ (m : Lit). m.positive) (sym same ∙ e));
}

pub literal_missing : (order : OrderTellsApart) (adds : Bool) (atoms : List (AtomOver ℕ)) (a : AtomOver ℕ)
    → adds ≡ false → IsNumberIn atoms a None → IsLiteralOf adds atoms a None
literal_missing order adds atoms a off none = record {
  is = λ rs apart.
      sym (ap (option_map (λ k. record { atom = k; positive = true })) (number_missing order rs atoms a apart none));
  sure = λ on _. false≢true (sym off ∙ on);
  names = λ l h. absurd (some-none l (sym h));
}
