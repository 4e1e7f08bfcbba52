-- What a turn does with the states of a walk.
use Rattle.std.proofs.Common.{◌≡◌, ℕ, Vec, Global, vec_len, suc, ◌+◌, ◌<◌, ◌≤◌, Bool, true, false, ◌||◌, List, [], ◌∷◌, ◌++◌, length, get_or, drop, refl, sym, ap, ap₂, subst, ◌∙◌, arith}
use Rattle.std.specs.List.{list_any}
use Rattle.std.proofs.Math.Bool.{or-false}
use Rattle.std.proofs.lemmas.Bool.{false≢true}
use Rattle.std.proofs.lemmas.List.{drop_more}
use Rattle.std.proofs.lemmas.List.Folds.{list_any-append}
use Rattle.sb_lang.specs.Regex.{Regex}
use Rattle.sb_lang.specs.Derivative.{nd, nullable}
use Rattle.sb_lang.specs.DerivativeLaws.{DerivativeHasRests, NullableHasEmptyWord}
use Rattle.sb_lang.specs.Language.{language}
use Rattle.sb_regex.specs.Numbered.{regex_at, AllNumbers, Extends, Names}
use Rattle.sb_regex.proofs.CallerLemmas.{at_kept, number_kept, names_at}
use Rattle.sb_plain.specs.declared.walk.State.{State}
use Rattle.sb_plain.specs.Walking.{state_matches, some_matches, IsState, AreWaiting, AreStates, fresh, states_of, ArePut, IsEntered}
use Rattle.sb_plain.proofs.Members.{some_states}

abbrev pub entered : State → State
entered s = record { regex = s.regex; place = s.place; entered = true }

some_append : (rs : List Regex) (codes : List ℕ) (xs ys : List State)
    → some_matches rs codes (xs ++ ys) ≡ (some_matches rs codes xs || some_matches rs codes ys)
some_append rs codes xs ys = list_any-append (state_matches rs codes) xs ys

-- an arena that grows

matches_kept : (old new : List Regex) (codes : List ℕ) (s : State) → Extends old new → IsState old codes s
    → state_matches new codes s ≡ state_matches old codes s
matches_kept old new codes s more is = ap (λ r. language r (drop s.place codes)) (at_kept old new s.regex more is.known)

some_kept : (old new : List Regex) (codes : List ℕ) (states : List State) → Extends old new
    → AreWaiting old codes states → some_matches new codes states ≡ some_matches old codes states
unfolding AreWaiting
some_kept old new codes [] more w = refl
some_kept old new codes (s ∷ above) more w =
    ap₂ (λ a b. a || b) (matches_kept old new codes s more w.0) (some_kept old new codes above more w.2)

waiting_kept : (old new : List Regex) (codes : List ℕ) (states : List State) → Extends old new
    → AreWaiting old codes states → AreWaiting new codes states
unfolding AreWaiting
waiting_kept old new codes [] more w = tt
waiting_kept old new codes (s ∷ above) more w = (
  record {
    known = number_kept old new s.regex more w.0.known;
    within = w.0.within;
  },
  λ e m. some_kept old new codes above more w.2 ∙ w.1 e (sym (matches_kept old new codes s more w.0) ∙ m),
  waiting_kept old new codes above more w.2,
)

pub states_kept : (old new : List Regex) (codes : List ℕ) (found : Bool) (states : List State) → Extends old new
    → AreStates old codes found states → AreStates new codes found states
states_kept old new codes found states more a = record {
  waiting = waiting_kept old new codes states more a.waiting;
  whole = some_kept old new codes states more a.waiting ∙ a.whole;
}

-- the one on top

pub popped : (rs : List Regex) (codes : List ℕ) (found : Bool) (states rest : List State) (s : State)
    → states ≡ rest ++ s ∷ [] → AreStates rs codes found states → AreStates rs codes found (rest ++ s ∷ [])
popped rs codes found states rest s is a = subst (AreStates rs codes found) is a

pub none_popped : (rs : List Regex) (codes : List ℕ) (found : Bool) (states : Vec State Global) → vec_len states ≡ 0
    → AreStates rs codes found states.items → false ≡ found
none_popped rs codes found states h a =
    none_there states.items (omega (arith, states.ok.0, h)) a.whole
  where
    none_there : (xs : List State) → length xs ≡ 0 → some_matches rs codes xs ≡ found → false ≡ found
    none_there [] l e = e
    none_there (x ∷ xs) l e = absurd (omega (arith, l))

pub top_known : (rs : List Regex) (codes : List ℕ) (states : List State) (s : State)
    → AreWaiting rs codes (states ++ s ∷ []) → IsState rs codes s
unfolding AreWaiting
top_known rs codes [] s w = w.0
top_known rs codes (x ∷ states) s w = top_known rs codes states s w.2

not_top : (rs : List Regex) (codes : List ℕ) (s : State) → state_matches rs codes s ≡ false
    → (state_matches rs codes s ≡ true → false ≡ true)
not_top rs codes s h m = sym h ∙ m

pub top_fails : (rs : List Regex) (codes : List ℕ) (states : List State) (s : State)
    → AreWaiting rs codes (states ++ s ∷ []) → s.entered ≡ true → state_matches rs codes s ≡ false
unfolding AreWaiting
top_fails rs codes [] s w e = fails (state_matches rs codes s) (w.1 e)
  where
    fails : (b : Bool) → (b ≡ true → false ≡ true) → b ≡ false
    fails true h = sym (h refl)
    fails false h = refl
top_fails rs codes (x ∷ states) s w e = top_fails rs codes states s w.2 e

without_top : (rs : List Regex) (codes : List ℕ) (states : List State) (s : State) → state_matches rs codes s ≡ false
    → some_matches rs codes (states ++ s ∷ []) ≡ some_matches rs codes states
without_top rs codes states s h =
    some_append rs codes states (s ∷ [])
    ∙ ap (λ b. some_matches rs codes states || (b || false)) h
    ∙ or-false (some_matches rs codes states)

waiting_dropped : (rs : List Regex) (codes : List ℕ) (states : List State) (s : State)
    → state_matches rs codes s ≡ false → AreWaiting rs codes (states ++ s ∷ []) → AreWaiting rs codes states
unfolding AreWaiting
waiting_dropped rs codes [] s h w = tt
waiting_dropped rs codes (x ∷ states) s h w = (
  w.0,
  λ e m. sym (without_top rs codes states s h) ∙ w.1 e m,
  waiting_dropped rs codes states s h w.2,
)

-- one that does not match is let go
pub states_dropped : (rs : List Regex) (codes : List ℕ) (found : Bool) (states : List State) (s : State)
    → state_matches rs codes s ≡ false → AreStates rs codes found (states ++ s ∷ [])
    → AreStates rs codes found states
states_dropped rs codes found states s h a = record {
  waiting = waiting_dropped rs codes states s h a.waiting;
  whole = sym (without_top rs codes states s h) ∙ a.whole;
}

-- one that matches shows that the word does

some_by_top : (rs : List Regex) (codes : List ℕ) (states : List State) (s : State) → state_matches rs codes s ≡ true
    → some_matches rs codes (states ++ s ∷ []) ≡ true
some_by_top rs codes [] s m = ap (λ b. b || false) m
some_by_top rs codes (x ∷ states) s m =
    ap (λ b. state_matches rs codes x || b) (some_by_top rs codes states s m) ∙ or_true (state_matches rs codes x)
  where
    or_true : (b : Bool) → (b || true) ≡ true
    or_true true = refl
    or_true false = refl

pub found_by_top : (rs : List Regex) (codes : List ℕ) (found : Bool) (states : List State) (s : State)
    → state_matches rs codes s ≡ true → AreStates rs codes found (states ++ s ∷ []) → true ≡ found
found_by_top rs codes found states s m a = sym (some_by_top rs codes states s m) ∙ a.whole

-- one that is entered

is_fresh_all : (place : ℕ) (ms : List ℕ) → list_any (λ s. s.entered) (states_of place ms) ≡ false
unfolding states_of
is_fresh_all place [] = refl
is_fresh_all place (m ∷ ms) =
    list_any-append (λ s. s.entered) (states_of place ms) (fresh place m ∷ []) ∙ ap (λ b. b || false) (is_fresh_all place ms)

neither : (a b : Bool) → (a || b) ≡ false → (a ≡ false) × (b ≡ false)
neither true b h = absurd (false≢true (sym h))
neither false b h = (refl, h)

waiting_behind : (rs : List Regex) (codes : List ℕ) (s : State) (xs : List State) → IsState rs codes s
    → s.entered ≡ false → AreWaiting rs codes xs → list_any (λ x. x.entered) xs ≡ false
    → AreWaiting rs codes (xs ++ s ∷ [])
unfolding AreWaiting
waiting_behind rs codes s [] is new w f = (is, λ e m. absurd (false≢true (sym new ∙ e)), tt)
waiting_behind rs codes s (x ∷ xs) is new w f =
    let n = neither x.entered (list_any (λ y. y.entered) xs) f in
    (w.0, λ e m. absurd (false≢true (sym n.0 ∙ e)), waiting_behind rs codes s xs is new w.2 n.1)

waiting_fresh : (rs : List Regex) (codes : List ℕ) (place : ℕ) (ns : List ℕ) → AllNumbers rs ns → place ≤ length codes
    → AreWaiting rs codes (states_of place ns)
unfolding AreWaiting states_of
waiting_fresh rs codes place [] known l = tt
waiting_fresh rs codes place (n ∷ ns) known l =
    waiting_behind rs codes (fresh place n) (states_of place ns)
    (record { known = known 0 0 (omega arith); within = l }) refl
    (waiting_fresh rs codes place ns (λ k d h. known (suc k) d (omega (arith, h))) l)
    (is_fresh_all place ns)

some_entered : (rs : List Regex) (codes : List ℕ) (states : List State) (s : State) (above : List State)
    → some_matches rs codes above ≡ state_matches rs codes s
    → some_matches rs codes ((states ++ entered s ∷ []) ++ above) ≡ some_matches rs codes (states ++ s ∷ [])
some_entered rs codes states s above is =
    some_append rs codes (states ++ entered s ∷ []) above
    ∙ ap₂ (λ a b. a || b) (some_append rs codes states (entered s ∷ [])) is
    ∙ twice (some_matches rs codes states) (state_matches rs codes s)
    ∙ sym (some_append rs codes states (s ∷ []))
  where
    twice : (a b : Bool) → ((a || (b || false)) || b) ≡ (a || (b || false))
    twice true b = refl
    twice false true = refl
    twice false false = refl

waiting_entered : (rs : List Regex) (codes : List ℕ) (states : List State) (s : State) (above : List State)
    → some_matches rs codes above ≡ state_matches rs codes s → AreWaiting rs codes above
    → AreWaiting rs codes (states ++ s ∷ []) → AreWaiting rs codes ((states ++ entered s ∷ []) ++ above)
unfolding AreWaiting
waiting_entered rs codes [] s above is over w =
    (record { known = w.0.known; within = w.0.within }, λ e m. is ∙ m, over)
waiting_entered rs codes (x ∷ states) s above is over w = (
  w.0,
  λ e m. some_entered rs codes states s above is ∙ w.1 e m,
  waiting_entered rs codes states s above is over w.2,
)

pub states_entered : (rs : List Regex) (codes : List ℕ) (found : Bool) (s : State) (old new : List State)
    → s.place + 1 ≤ length codes → IsEntered rs codes s old new → AreStates rs codes found (old ++ s ∷ [])
    → AreStates rs codes found new
states_entered rs codes found s old new l e a =
    let above = states_of (s.place + 1) e.members in
    let is : some_matches rs codes above ≡ state_matches rs codes s =
    some_states rs codes (s.place + 1) e.members ∙ e.union in
    subst (AreStates rs codes found) (sym e.is) (record {
      waiting = waiting_entered rs codes old s above is (waiting_fresh rs codes (s.place + 1) e.members e.known l)
          a.waiting;
      whole = some_entered rs codes old s above is ∙ a.whole;
    })

-- the derivative's members match what is left where the regex matches it with its character

pub entered_by : DerivativeHasRests → (old new : List Regex) (codes : List ℕ) (s : State) (target : ℕ)
    (states states' states'' : List State) → Extends old new → s.regex < length old → s.place < length codes
    → Names new target (nd (regex_at old s.regex) (get_or codes s.place 0))
    → states' ≡ states ++ entered s ∷ [] → ArePut new target (s.place + 1) states' states''
    → IsEntered new codes s states states''
entered_by law old new codes s target states states' states'' more known l named pushed put = record {
  members = put.members;
  known = put.right.known;
  union = put.right.union (drop (s.place + 1) codes)
      ∙ ap (λ r. language r (drop (s.place + 1) codes)) (names_at new target (nd (regex_at old s.regex) (get_or codes s.place 0)) named)
      ∙ law (regex_at old s.regex) (get_or codes s.place 0) (drop (s.place + 1) codes)
      ∙ ap₂ (λ r w. language r w) (sym (at_kept old new s.regex more known))
      (sym (drop_more codes s.place 0 l));
  is = put.is ∙ ap (λ xs. xs ++ states_of (s.place + 1) put.members) pushed;
}

-- at the end of the word
pub matches_at_end : NullableHasEmptyWord → (rs : List Regex) (codes : List ℕ) (s : State) (b : Bool)
    → s.place ≡ length codes → b ≡ nullable (regex_at rs s.regex) → state_matches rs codes s ≡ b
matches_at_end law rs codes s b e n =
    ap (language (regex_at rs s.regex)) (ap (λ k. drop k codes) e ∙ drop_all codes) ∙ sym (law (regex_at rs s.regex))
    ∙ sym n
  where
    drop_all : (xs : List ℕ) → drop (length xs) xs ≡ []
    drop_all [] = refl
    drop_all (x ∷ xs) = drop_all xs

-- the first one

pub states_begun : (rs : List Regex) (codes : List ℕ) (regex place : ℕ) (states : List State) → regex < length rs
    → place ≤ length codes → states ≡ fresh place regex ∷ []
    → AreStates rs codes (language (regex_at rs regex) (drop place codes)) states
unfolding AreWaiting
states_begun rs codes regex place states known l is = subst (AreStates rs codes _) (sym is) (record {
  waiting = (record { known = known; within = l }, λ e m. absurd (false≢true e), tt);
  whole = or-false (language (regex_at rs regex) (drop place codes));
})
