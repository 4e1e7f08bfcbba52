-- Where a constant leads, and regexes that are counted.
use Rattle.std.proofs.Common.{◌≡◌, ◌≢◌, ℕ, ◌<◌, suc, Bool, true, false, nat_eq, if◌then◌else◌, List, [], ◌∷◌, ◌++◌, flat_map, length, get_or, slice_get, Contains, Option, Some, None, option_map, refl, sym, ap, ap₂, subst, ◌∙◌, inl, inr, arith}
use Rattle.std.specs.List.{list_any}
use Rattle.std.proofs.lemmas.List.{append-nil}
use Rattle.std.proofs.lemmas.Bool.{eqb-true, false≢true, or_cases}
use Rattle.std.proofs.lemmas.List.Elements.{Contains-append_left, Contains-append_right}
use Rattle.std.proofs.lemmas.Option.{get_or_from_slice_get, same_Some, slice_get_within}
use Rattle.sb_word.specs.Words.{IsWord}
use Rattle.sb_lit.specs.Budgets.{Spending}
use Rattle.sb_rulebook.specs.Atoms.{and_atom, iff_atom, le_atom, sum_atom}
use Rattle.sb_regex.proofs.CallerLemmas.{at_kept, names_at, number_kept}
use Rattle.sb_regex.specs.Numbered as regex
use Rattle.sb_trace.proofs.CallerLemmas.{spent_none}
use Rattle.sb_trace.specs.Putting.{SpendsWithin}
use Rattle.sb_trace.specs.Tracking.{IsExpandedIn, OnlyNumbers, Traced}
use Rattle.sb_trace.specs.declared.trace.Expand.{Expand}
use Rattle.sb_trace.specs.declared.trace.Expand.TheVariants as expand
use Rattle.sb_store.proofs.CallerLemmas.{regexes_same}
use Rattle.sb_theory.specs.Memberships.{word_at}
use Rattle.sb_theory.specs.Strings.{Grows, Holds, IsOfMembership, IsWrong, Stands, frame_of, tables_of}
use Rattle.sb_theory.specs.Walks.{Counts, HasMembership, HasRegex, IfBetween, IfLed, IsBase, IsBetween, IsLeading, IsLed, Rows, Widens, is_done, leading_in, rows_of}
use Rattle.sb_theory.specs.Wishes.{bases_of, expanded_in, regexes_in}
use Rattle.sb_theory.specs.Words.{Assigned, AtomOver, Lit, Names, Piece, Regex, RegexesGrow, Serial, bool_atom, constant_piece, in_atom, nd_along, regex_at, word_piece}
use Rattle.sb_theory.specs.declared.strings.Strings.{Strings}
use Rattle.sb_theory.proofs.Moving.{grows_store, holds_kept, keeps_grown, stands_looked}
use Rattle.sb_theory.proofs.Tables.{slice_same}
use Rattle.sb_theory.proofs.Walking.{several}
use Rattle.sb_theory.proofs.Going.{wrong_known}
use Rattle.sb_theory.proofs.Wishes.{expanded_among}
use Rattle.sb_theory.proofs.Writing.{widens_both, widens_kept}

-- What leads to a regex.

pub record Leads (a : AtomOver ℕ) (z r : ℕ) : Type 0 where
  pub piece : Piece
  pub pieces : List Piece
  pub is : a ≡ in_atom (constant_piece z ∷ piece ∷ pieces) r

abbrev regexes_wanted : Strings → List ℕ
regexes_wanted x = flat_map (λ i. regexes_in (slice_get x.atoms i)) x.wanted

abbrev pair_of : ℕ → ℕ → ℕ × ℕ
pair_of z r = (z, r)

leads_in : (a : AtomOver ℕ) (z r : ℕ) → leading_in a ≡ Some (pair_of z r) → Leads a z r
leads_in (in_atom (constant_piece x ∷ p ∷ ps) n) z r h =
    let same = same_Some (pair_of x n) (pair_of z r) h in record {
      piece = p;
      pieces = ps;
      is = ap₂ (λ (y k : ℕ). in_atom (constant_piece y ∷ p ∷ ps) k) (ap (λ (f : ℕ × ℕ). f.0) same)
          (ap (λ (f : ℕ × ℕ). f.1) same);
    }
leads_in (in_atom (constant_piece x ∷ []) n) z r h = absurd (Prim.cc (h))
leads_in (in_atom (word_piece w ∷ ps) n) z r h = absurd (Prim.cc (h))
leads_in (in_atom [] n) z r h = absurd (Prim.cc (h))
leads_in (bool_atom k) z r h = absurd (Prim.cc (h))
leads_in (le_atom x k) z r h = absurd (Prim.cc (h))
leads_in (sum_atom k ss) z r h = absurd (Prim.cc (h))
leads_in (and_atom ls) z r h = absurd (Prim.cc (h))
leads_in (iff_atom k m) z r h = absurd (Prim.cc (h))

-- the atom of a literal that begins with a constant and goes on
pub leads_at : {x : Strings} {entries : List Assigned} (l : Lit) (found : Option (Serial × ℕ)) (s : Serial) (r : ℕ)
    → IsWrong x entries l → IsLeading (get_or x.atoms l.atom (bool_atom 0)) found → found ≡ Some (s, r)
    → (lead : Leads (get_or x.atoms l.atom (bool_atom 0)) s.0 r)
    × Names x.atoms l.atom (in_atom (constant_piece s.0 ∷ lead.piece ∷ lead.pieces) r)
leads_at {x} l found s r wrong leading is =
    let lead = leads_in (get_or x.atoms l.atom (bool_atom 0)) s.0 r
    (sym leading ∙ ap (λ (o : Option (Serial × ℕ)). option_map (λ f. (f.0.0, f.1)) o) is) in
    let t = several x.atoms l.atom wrong.joined in (
      lead,
      t.names ∙ ap Some (sym (get_or_from_slice_get x.atoms l.atom (in_atom t.pieces t.number) (bool_atom 0)
          t.names)
          ∙ lead.is),
    )

-- so its regex is there, and is that of a membership
pub leads_below : {x : Strings} (l : Lit) (z r : ℕ) (p : Piece) (ps : List Piece) → Holds x
    → Names x.atoms l.atom (in_atom (constant_piece z ∷ p ∷ ps) r) → r < length x.store.arena
leads_below l z r p ps h names = h.regexes l.atom (in_atom (constant_piece z ∷ p ∷ ps) r) names

pub leads_named : (x : Strings) (l : Lit) (z r : ℕ) (p : Piece) (ps : List Piece)
    → Names x.atoms l.atom (in_atom (constant_piece z ∷ p ∷ ps) r) → HasMembership x.atoms r
leads_named x l z r p ps names =
    record { number = l.atom; pieces = constant_piece z ∷ p ∷ ps; names = names }

same_leading : (x z r n : ℕ) (p q : Piece) (ps qs : List Piece)
    → ◌≡◌ {A = Option (AtomOver ℕ)} (Some (in_atom (constant_piece x ∷ p ∷ ps) r))
    (Some (in_atom (constant_piece z ∷ q ∷ qs) n))
    → (x ≡ z) × (r ≡ n)
same_leading x z r n p q ps qs h = (Prim.cc (h), Prim.cc (h))

-- where the constant leads is where its word does
pub between_led : {x y : Strings} {entries : List Assigned} (l : Lit) (z r : ℕ) (p : Piece) (ps : List Piece)
    (after : Spending) (found : Option ℕ) → Holds x → IsWrong x entries l → Grows x y
    → Names x.atoms l.atom (in_atom (constant_piece z ∷ p ∷ ps) r) → IfLed y z (regex_at x.store.arena r) after found
    → IfBetween y l after found
between_led l z r p ps after None h wrong g names led = led
between_led {x} {y} l z r p ps after (Some q) h wrong g names led = record {
  below = led.below;
  leads = λ u v vs n there.
      let same = same_leading z u r n p v ps vs
      (sym names ∙ sym (slice_same l.atom g.table.extends (wrong_known l wrong)) ∙ there) in record {
        below = led.below;
        base = led.base;
        is = led.is
            ∙ ap₂ nd_along
            (sym (at_kept x.store.arena y.store.arena r g.store.more.extends (leads_below l z r p ps h names))
            ∙ ap (regex_at y.store.arena) same.1) (ap (word_at y.words.items) same.0);
      };
}

-- where none leads, nothing is asked
pub between_none : {x : Strings} {entries : List Assigned} (l : Lit) (q : ℕ) (found : Option (Serial × ℕ)) → Holds x
    → IsWrong x entries l → IsLeading (get_or x.atoms l.atom (bool_atom 0)) found → found ≡ None
    → q < length x.store.arena → IsBetween x l q
between_none {x} l q found h wrong leading is below = record {
  below = below;
  leads = λ z p ps r names. absurd (never z r (sym (ap (λ (o : Option (Serial × ℕ)).
      option_map (λ f. (f.0.0, f.1)) o) is) ∙ leading
      ∙ ap leading_in (get_or_from_slice_get x.atoms l.atom (in_atom (constant_piece z ∷ p ∷ ps) r) (bool_atom 0)
      names)));
}
  where
    never : (z r : ℕ) → None ≡ Some (pair_of z r) → ⊥
    never z r h = Prim.cc (h)

-- A word leads to the regex from that of a membership.
pub of_membership : (x y : Strings) (r q : ℕ) (w : List ℕ) → r < length x.store.arena → HasMembership x.atoms r
    → regex.Extends x.store.arena y.store.arena → y.atoms ≡ x.atoms → IsWord w
    → regex.Names y.store.arena q (nd_along (regex_at x.store.arena r) w)
    → IsOfMembership y.store.arena y.atoms q
of_membership x y r q w low names e tables characters at = record {
  number = names.number;
  pieces = names.pieces;
  regex = r;
  names = ap (λ (ts : List (AtomOver ℕ)). slice_get ts names.number) tables ∙ names.names;
  below = number_kept x.store.arena y.store.arena r e low;
  reached = record {
    word = w;
    characters = characters;
    along = subst (λ (s : Regex). regex.Names y.store.arena q (nd_along s w))
        (sym (at_kept x.store.arena y.store.arena r e low)) at;
    wanted = tt;
  };
}

-- it is led to
pub led_to : {y z : Strings} {entries : List Assigned} {before after : Spending} {old new : Option (List ℕ)} (n q : ℕ)
    (r : Regex) → Widens y z entries before after old new → regex.Names y.store.arena q
    (nd_along r (word_at y.words.items n))
    → Contains (bases_of z) q → IsLed z n r q
led_to {y} {z} n q r w at base =
    let e = w.grows.store.more.extends in
    let low = slice_get_within y.store.arena q (nd_along r (word_at y.words.items n)) at in record {
      below = number_kept y.store.arena z.store.arena q e low;
      base = base;
      is = at_kept y.store.arena z.store.arena q e low ∙ names_at y.store.arena q (nd_along r (word_at y.words.items n))
          at
          ∙ ap (nd_along r) (sym (ap (λ (rows : Rows). word_at rows.words n) w.rows));
    }

-- A regex that is counted is a base of wishes.

key_there : (ks : List ℕ) (n : ℕ) → list_any (nat_eq n) ks ≡ true → Contains ks n
key_there [] n h = absurd (false≢true h)
key_there (k ∷ ks) n h = elim (or_cases (nat_eq n k) (list_any (nat_eq n) ks) h) [
  | inl here ↦ (0, omega arith, sym (eqb-true n k here))
  | inr more ↦ later k ks n (key_there ks n more)
]
  where
    later : (j : ℕ) (js : List ℕ) (m : ℕ) → Contains js m → Contains (j ∷ js) m
    later j js m at = let low = at.1 in (suc at.0, omega (arith, low), at.2)

key_put : (ks new : List ℕ) (n : ℕ) → new ≡ (if list_any (nat_eq n) ks then ks else ks ++ n ∷ []) → Contains new n
key_put ks new n is = subst (λ (l : List ℕ). Contains l n) (sym is) (step (list_any (nat_eq n) ks) refl)
  where
    step : (b : Bool) → list_any (nat_eq n) ks ≡ b → Contains (if b then ks else ks ++ n ∷ []) n
    step true e = key_there ks n e
    step false e = Contains-append_right ks (n ∷ []) n (0, omega arith, refl)

pub keys_stay : (ks new : List ℕ) (n : ℕ) → new ≡ (if list_any (nat_eq n) ks then ks else ks ++ n ∷ []) → (m : ℕ)
    → Contains ks m → Contains new m
keys_stay ks new n is m h = subst (λ (l : List ℕ). Contains l m) (sym is) (step (list_any (nat_eq n) ks))
  where
    step : (b : Bool) → Contains (if b then ks else ks ++ n ∷ []) m
    step true = h
    step false = Contains-append_left ks (n ∷ []) m h

base_key : (x : Strings) (n : ℕ) → Contains x.expanded.keys n → Contains (bases_of x) n
base_key x n h =
    Contains-append_left (regexes_wanted x ++ x.expanded.keys) (expanded_in x.trace) n
    (Contains-append_right (regexes_wanted x) x.expanded.keys n h)

pub base_counted : (x : Strings) (n : ℕ) → list_any (nat_eq n) x.expanded.keys ≡ true → Contains (bases_of x) n
base_counted x n h = base_key x n (key_there x.expanded.keys n h)

pub base_put : (x : Strings) (ks : List ℕ) (n : ℕ)
    → x.expanded.keys ≡ (if list_any (nat_eq n) ks then ks else ks ++ n ∷ []) → Contains (bases_of x) n
base_put x ks n is = base_key x n (key_put ks x.expanded.keys n is)

-- one that is expanded in the proof is one
pub base_expanded : (x : Strings) (n : ℕ) → IsExpandedIn x.trace n → Contains (bases_of x) n
base_expanded x n h =
    Contains-append_right (regexes_wanted x ++ x.expanded.keys) (expanded_in x.trace) n (expanded_among x.trace n h)

-- What is counted, or expanded, leaves the tables as they are.

pub grows_counted : {x y : Strings} {before after : Spending} → Holds x → Counts x y before after → Grows x y
grows_counted {x} {y} h c =
    subst (Grows x) (sym c.is)
    (grows_store {x = x} {y = record x { expanded = y.expanded }} h (regexes_same x.store) refl refl)

pub base_done : (y : Strings) (n : ℕ) (put : Expand) (after : Spending) (done : Bool) → done ≡ is_done put
    → (put ≢ expand.Spent → IsExpandedIn y.trace n) → (put ≡ expand.Spent → after.spent ≡ after.limit)
    → IsBase y n after done
base_done y n put after true is there spent =
    base_expanded y n (there (λ out. false≢true (sym (ap is_done out) ∙ sym is)))
base_done y n put after false is there spent = spent (gone put (sym is))
  where
    gone : (p : Expand) → is_done p ≡ false → p ≡ expand.Spent
    gone expand.Spent h = refl
    gone expand.Expanded h = absurd (false≢true (sym h))
    gone expand.Already h = absurd (false≢true (sym h))

-- no regex is expanded, and none gets a number
pub only_none : (t : Traced) → OnlyNumbers t t
only_none t = record { stays = ([], sym (append-nil t.order)); expanded = λ n. refl; dead = λ n. refl }

-- the regex of a membership is there
pub regex_below : {x : Strings} {entries : List Assigned} (l : Lit) (q : ℕ) → Holds x → IsWrong x entries l
    → HasRegex (get_or x.atoms l.atom (bool_atom 0)) q → q < length x.store.arena
regex_below {x} l q h wrong has =
    let t = several x.atoms l.atom wrong.joined in
    let is : q ≡ t.number = subst (λ (a : AtomOver ℕ). HasRegex a q)
    (get_or_from_slice_get x.atoms l.atom (in_atom t.pieces t.number) (bool_atom 0) t.names) has in
    subst (λ n. n < length x.store.arena) (sym is) (h.regexes l.atom (in_atom t.pieces t.number) t.names)

-- Where the store grew before.
pub widens_behind : {x y z : Strings} {entries : List Assigned} {before after : Spending} {old new : Option (List ℕ)}
    → RegexesGrow x.store y.store → y ≡ record x { store = y.store } → Stands x entries → SpendsWithin before after
    → Widens y z entries before after old new → Widens x z entries before after old new
widens_behind {x} {y} {before = before} {old = old} g is s steps w =
    let h = s.holds in
    widens_both (spent_none before) steps
    (widens_kept before old (keeps_grown h g (ap frame_of is) (ap tables_of is))
    (stands_looked (holds_kept g is h) (ap (λ (v : Strings). v.taken.items) is) s) (ap rows_of is)
    (ap (λ (v : Strings). v.noted) is)) w
