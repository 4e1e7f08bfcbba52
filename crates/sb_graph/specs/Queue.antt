-- Private: queues as lists: each state by its number, with its way: a place before it, and the character taken there.
use Rattle.std.specs.Prelude.{◌≡◌, ◌≢◌, ℕ, ◌+◌, ◌*◌, ◌<◌, ◌≤◌, Bool, true, false, ◌&&◌, List, [], ◌∷◌, ◌++◌, length, get_or, nat_eq, if◌then◌else◌}
use Rattle.std.specs.List.{list_any}
use Rattle.sb_lang.specs.Regex.{Regex}
use Rattle.sb_lang.specs.Derivative.{nullable}
use Rattle.sb_regex.specs.Numbered.{regex_at}

abbrev pub Entry : Type 0
Entry = ℕ × (ℕ × ℕ)

abbrev pub entry_at : List Entry → ℕ → Entry
entry_at es k = get_or es k (0, (0, 0))

-- the state at the place, and its way
abbrev pub regex_of : List Entry → ℕ → ℕ
regex_of es k = (entry_at es k).0

abbrev pub way_of : List Entry → ℕ → ℕ × ℕ
way_of es k = (entry_at es k).1

abbrev pub is_same_way : ℕ × ℕ → ℕ × ℕ → Bool
is_same_way v w = nat_eq v.0 w.0 && nat_eq v.1 w.1

abbrev pub has_regex : List Entry → ℕ → Bool
has_regex es n = list_any (λ e. nat_eq n e.0) es

abbrev pub with_entry : List Entry → Entry → List Entry
with_entry es e = if has_regex es e.0 then es else (es ++ e ∷ [])

-- with states that have one way
unfoldable pub with_each : ℕ × ℕ → List Entry → List ℕ → List Entry
with_each way es [] = es
with_each way es (n ∷ ns) = with_each way (with_entry es (n, way)) ns

-- each place but the first comes after the one in its way
abbrev pub GoesBack : List Entry → Type 0
GoesBack es = (k : ℕ) → 0 < k → k < length es → (way_of es k).0 < k

abbrev pub word_at : List (List ℕ) → ℕ → List ℕ
word_at words k = get_or words k []

-- by place the words along the ways
pub record AreWords (es : List Entry) (words : List (List ℕ)) : Type 0 where
  pub long : length words ≡ length es
  pub first : word_at words 0 ≡ []
  pub next : (k : ℕ) → 0 < k → k < length es
      → word_at words k ≡ word_at words (way_of es k).0 ++ (way_of es k).1 ∷ []

-- such a word leads to the place
pub record LeadsBy (P : List ℕ → Type 0) (es : List Entry) (place : ℕ) : Type 0 where
  pub words : List (List ℕ)
  pub are : AreWords es words
  pub is : P (word_at words place)

-- the places up to the end are those that one word leads to, from the first of these on
pub record IsRun (es : List Entry) (place end : ℕ) : Type 0 where
  pub later : place < end
  pub within : end ≤ length es
  pub same : (k : ℕ) → place ≤ k → k < end → way_of es k ≡ way_of es place
  pub alone : place ≡ 0 → end ≡ 1
  pub ends : 0 < place → end < length es → way_of es end ≢ way_of es place

-- The rank of a word: shorter words come first, and of two as long the one that is less by code points.
unfoldable pub rank_from : ℕ → List ℕ → ℕ
rank_from b [] = b
rank_from b (c ∷ w) = rank_from (b * 0x30000 + c) w

abbrev pub rank : List ℕ → ℕ
rank w = rank_from 1 w

abbrev pub rank_at : List (List ℕ) → ℕ → ℕ
rank_at words k = rank (word_at words k)

-- the regexes from one place up to another are without the empty word
abbrev pub AreTested : List Regex → List ℕ → ℕ → ℕ → Type 0
AreTested rs ns from upto = (k : ℕ) → from ≤ k → k < upto → nullable (regex_at rs (get_or ns k 0)) ≡ false

-- the place is the first from one on of a regex with the empty word
pub record IsFirstNullable (rs : List Regex) (ns : List ℕ) (from place : ℕ) : Type 0 where
  pub after : from ≤ place
  pub within : place < length ns
  pub before : AreTested rs ns from place
  pub empty_word : nullable (regex_at rs (get_or ns place 0)) ≡ true
